-- What a session becomes by a call.
use Rattle.std.proofs.Common.{◌≡◌, ◌⊎◌, ℕ, ◌+◌, ◌-◌, ◌<◌, ◌≤◌, true, false, ltb, List, [], ◌∷◌, ◌++◌, length, length-append, Option, Some, None, Result, Ok, Err, refl, sym, ap, subst, ◌∙◌, inl, inr, arith}
use Rattle.std.proofs.lemmas.Bool.{cases_lt, lt-ltb, true≢false}
use Rattle.std.proofs.lemmas.Bool.Decides.{nat_tests}
use Rattle.std.proofs.lemmas.List.Elements.{All-head, All-tail}
use Rattle.std.specs.Prelude.{is_some, not, option_copied, option_map}
use denote.Bor.{Bor}
use Rattle.yaml_scan_model.specs.declared.fault.yaml_fault_t.{yaml_fault_t}
use Rattle.yaml_scan_model.specs.declared.fault.yaml_origin_t.TheVariants.{Reader}
use Rattle.yaml_scan_model.specs.declared.name.yaml_encoding_t.{yaml_encoding_t}
use Rattle.yaml_scan_model.specs.declared.name.yaml_error_type_t.TheVariants.{YAML_MEMORY_ERROR, YAML_SCANNER_ERROR}
use Rattle.yaml_scan_types.specs.Faults.{Fault, fault_of, memory_fault}
use Rattle.yaml_scan_model.specs.Problems.{scanner_fault}
use Rattle.yaml_scan_types.specs.Tokens.{Token, no_token, token_of}
use Rattle.yaml_scan_decode.specs.Decoding.{decoded_text}
use Rattle.yaml_scan_decode.specs.DecodedText.{text_bytes}
use Rattle.yaml_scan_decode.specs.Encodings.{encoding_of}
use Rattle.yaml_scan_history.specs.History.{most_waiting}
use Rattle.yaml_scan_history.specs.Next.{Next, Read, Fails as NextFails, Ends, next}
use Rattle.yaml_scan_history.specs.Remaining.{Remaining, SpelledText, all, fault_in, nothing}
unfoldable use Rattle.yaml_scan_history.specs.Remaining.{remaining}
use Rattle.yaml_scan_history.specs.Scanned.{scanned}
use Rattle.yaml_scan_core.specs.declared.scanner.Scanner.{Scanner}
use Rattle.yaml_scan_core.specs.Found.{HasMore, IsTold}
use Rattle.yaml_scan_core.specs.Handed.{to_come}
use Rattle.yaml_scan_core.specs.Owned.{IsRefused}
use Rattle.yaml_scan_core.specs.Scanning.{read_by, stream_of, taken_by}
use Rattle.yaml_scan_core.specs.Settled.{open_count, open_in, open_of, settles, settles_in}
use Rattle.yaml_scan_core.specs.Waiting.{knows}
use Rattle.yaml_scan_core.specs.Told.{Locates}
use Rattle.yaml_scan_core.proofs.KnowsLemmas.{knows_is, tells}
use Rattle.yaml_scan_core.proofs.MoreLemmas.{scanned_more}
use Rattle.yaml_scan.specs.declared.known.Known.{Known}
use Rattle.yaml_scan.specs.declared.known.Queue.{Queue}
use Rattle.yaml_scan.specs.declared.known.ScannedText.{ScannedText}
use Rattle.yaml_scan.specs.declared.reading.Reading.{Reading}
unfoldable use Rattle.yaml_scan.specs.Known.{taken_behind}
use Rattle.yaml_scan.specs.Known.{Fails, FillsText, GivesAll, IsRefusedText, PopsFirst, StandsFor, StandsFirst, comes_behind, first_known, is_none, scanner_of, tokens_of}
use Rattle.yaml_scan.specs.Session.{HasFirst, HoldsLittle, IsKnown, Lends, MayAnswer, ReadsNeeded, Refuses, Takes, View, behind_first, begun, ended, first_of, is_settled}
use Rattle.yaml_scan.specs.SessionView.{Denies, Holds, HoldsKnown, IsReading, Keeps, ReadsOn, Stood, left_in, read_in, unless_answered, view_by, view_of}
use Rattle.yaml_scan.proofs.BeginLemmas.{none_wrong, not_reader, unsettled_first}

-- ---- which token is settled

-- what settles a token of the input is what does of the decoded text
settles_is : (setting : yaml_encoding_t) (bytes : List ℕ) (z : ScannedText)
    → StandsFor setting bytes z → (ts : List Token) (n : ℕ)
    → settles setting bytes ts n ≡ settles_in (stream_of (scanner_of z)) ts n
settles_is setting bytes z h ts n =
    ap (λ r. ltb (open_of (encoding_of setting bytes) r n) (length ts)) h.decoded
    ∙ ap (λ e. settles_in record { encoding = e; text = text_bytes z.text } ts n) (sym h.encoding)

unsettled_start : (setting : yaml_encoding_t) (bytes : List ℕ)
    → settles setting bytes (scanned setting bytes).tokens 0 ≡ false
unsettled_start setting bytes = unsettled_first (encoding_of setting bytes) (decoded_text setting bytes)

-- where none is known, none is settled
unsettled_idle : (setting : yaml_encoding_t) (bytes : List ℕ) (z : ScannedText)
    → StandsFor setting bytes z → knows (scanner_of z) ≡ false
    → settles setting bytes (to_come (scanner_of z)).tokens (read_by (scanner_of z)) ≡ false
unsettled_idle setting bytes z h idle = settles_is setting bytes z h (to_come (scanner_of z)).tokens (read_by (scanner_of z)) ∙ sym (knows_is (scanner_of z) h.ready.read) ∙ idle

longer : (u : ℕ) (t : Token) (ks ts : List Token) → u ≤ length ts
    → ltb u (length (t ∷ ks ++ ts)) ≡ true
longer u t ks ts few =
    let low : u < length (t ∷ ks ++ ts) = omega (arith, few, length-append ks ts) in
    lt-ltb u (length (t ∷ ks ++ ts)) low

-- one that is known is settled
settled_known : (setting : yaml_encoding_t) (bytes : List ℕ) (z : ScannedText) (k : Known)
    (ks : List Known) → StandsFor setting bytes z
    → settles setting bytes (comes_behind (k ∷ ks) (to_come (scanner_of z))).tokens (read_by (scanner_of z)) ≡ true
settled_known setting bytes z k ks h =
    let s = scanner_of z in
    settles_is setting bytes z h (comes_behind (k ∷ ks) (to_come s)).tokens (read_by s)
    ∙ longer (open_in (stream_of s) (read_by s)) (token_of k.token) (tokens_of ks) (to_come s).tokens (tells s h.ready.read).few

-- ---- before reading on: what rests is ahead of the session

pub record Ahead (setting : yaml_encoding_t) (bytes : List ℕ) (o : Option ScannedText) (taken : ℕ)
    (z : ScannedText) : Type 0 where
  pub stands : StandsFor setting bytes z
  pub left : to_come (scanner_of z) ≡ left_in setting bytes o
  pub count : taken ≡ taken_by (scanner_of z)
  pub read : read_in o ≤ read_by (scanner_of z)
  pub first : (n : ℕ) → read_in o ≤ n → n < read_by (scanner_of z)
      → settles setting bytes (left_in setting bytes o).tokens n ≡ false
  pub sought : settles setting bytes (left_in setting bytes o).tokens (read_in o) ≡ false
  pub idle : z.scanner.ended ≡ true → knows (scanner_of z) ≡ false

ahead_new : (setting : yaml_encoding_t) (bytes : List ℕ) (taken : ℕ) (z : ScannedText) → taken ≡ 0
    → StandsFirst setting bytes z → Ahead setting bytes None taken z
ahead_new setting bytes taken z none h = record {
  stands = h.stands;
  left = h.come;
  count = none ∙ sym h.none;
  read = omega arith;
  first = λ n low high. (let here : n ≡ 0 = omega (arith, high, h.one) in ap (λ m. settles setting bytes (scanned setting bytes).tokens m) here ∙ unsettled_start setting bytes);
  sought = unsettled_start setting bytes;
  idle = λ over. absurd (true≢false (sym over ∙ h.going));
}

ahead_on : (setting : yaml_encoding_t) (bytes : List ℕ) (taken : ℕ) (z : ScannedText)
    → HoldsKnown setting bytes z [] taken → Ahead setting bytes (Some z) taken z
unfolding taken_behind
ahead_on setting bytes taken z h = record {
  stands = h.stands;
  left = refl;
  count = h.last;
  read = omega arith;
  first = λ n low high. absurd (omega (arith, low, high));
  sought = unsettled_idle setting bytes z h.stands h.idle;
  idle = λ over. h.idle;
}

ok_same : (z y : ScannedText) (r : Result ScannedText yaml_fault_t) → r ≡ Ok z → r ≡ Ok y → z ≡ y
ok_same z y (Ok x) e f = let a : x ≡ z = cc in let b : x ≡ y = cc in sym a ∙ b
ok_same z y (Err x) e f = cc

pub ahead : (setting : yaml_encoding_t) (bytes : List ℕ) (o : Option ScannedText) (ks : List Known)
    (taken : ℕ) (z : ScannedText) (r : Result ScannedText yaml_fault_t) → Holds setting bytes o ks taken
    → ks ≡ [] → Stood o setting bytes r → r ≡ Ok z → Ahead setting bytes o taken z
ahead setting bytes None ks taken z r (none, zero_taken) empty s is = ahead_new setting bytes taken z zero_taken (subst (λ x. Stood None setting bytes x) is s)
ahead setting bytes (Some y) ks taken z r h empty s is =
    let same : y ≡ z = ok_same y z r s is in
    let there : HoldsKnown setting bytes y [] taken = subst (λ (xs : List Known). HoldsKnown setting bytes y xs taken) empty h in
    subst (λ (x : ScannedText). Ahead setting bytes (Some y) taken x) same (ahead_on setting bytes taken y there)

-- ---- a refusal

no_reader : (x : Next) (f : Fault) → fault_in x ≡ Some f → f ≡ memory_fault Reader → ⊥
no_reader (NextFails p) f e is =
    let same : scanner_fault p ≡ f = cc in
    let bad : YAML_SCANNER_ERROR ≡ YAML_MEMORY_ERROR = ap (λ (g : Fault). g.kind) (same ∙ is) in
    cc
no_reader Ends f e is = cc
no_reader (Read l) f e is = cc

never_reader : (t : SpelledText) (k g : ℕ) (f : Fault) → (remaining t k g).fault ≡ Some f
    → f ≡ memory_fault Reader → ⊥
unfolding remaining
never_reader t k g f e is = no_reader (next t.text (all t.text)) f e is

refused_there : (s : Scanner) (f : Fault) → IsRefused (to_come s) f → f ≡ memory_fault Reader → ⊥
refused_there s f (inl memory) is = not_reader f memory is
refused_there s f (inr (none, fault)) is = never_reader (stream_of s) _ _ f fault is

told_there : (r : Remaining) (f : Fault) → IsRefused r f → IsTold r f
told_there r f (inl memory) = inl (inl memory)
told_there r f (inr fault) = inr fault

-- no token is given, by what rests
pub denies : (setting : yaml_encoding_t) (bytes : List ℕ) (o : Option ScannedText) (taken : ℕ)
    (z : ScannedText) (f : Fault) → Ahead setting bytes o taken z → Fails (scanner_of z) f
    → Denies (view_by setting bytes o [] taken None) f
denies setting bytes o taken z f a x = record {
  sought = a.sought;
  more = subst (λ (r : Remaining). HasMore r.tokens r.fault) a.left x.more;
  told = subst (λ (r : Remaining). IsTold r f) a.left (told_there (to_come (scanner_of z)) f x.told);
  reader = λ is. absurd (refused_there (scanner_of z) f x.told is);
  plain = λ g utf8 bad. absurd (none_wrong setting bytes (text_bytes z.text) g a.stands.decoded bad);
}

-- or the input can't be decoded
pub denies_text : (setting : yaml_encoding_t) (bytes : List ℕ) (o : Option ScannedText)
    (ks : List Known) (taken : ℕ) (r : Result ScannedText yaml_fault_t) (f : yaml_fault_t) → ks ≡ []
    → Stood o setting bytes r → r ≡ Err f → Denies (view_by setting bytes o ks taken None) (fault_of f)
denies_text setting bytes None ks taken r f empty s is =
    let told : IsRefusedText setting bytes (fault_of f) = subst (λ x. Stood None setting bytes x) is s in
    subst (λ (xs : List Known). Denies (view_by setting bytes None xs taken None) (fault_of f)) (sym empty) record {
      sought = unsettled_start setting bytes;
      more = scanned_more (encoding_of setting bytes) (decoded_text setting bytes);
      told = told.told;
      reader = λ e. (refl, told.reader e);
      plain = told.plain;
    }
denies_text setting bytes (Some y) ks taken r f empty s is = let bad : Ok y ≡ Err f = sym s ∙ is in cc

-- ---- reading on

first_is : (ks : List Known) (r : Remaining) → (ks ≡ [] → r ≡ nothing)
    → first_known ks ≡ first_of (comes_behind ks r).tokens
first_is [] r none = sym (ap (λ (x : Remaining). first_of x.tokens) (none refl))
first_is (k ∷ ks) r none = refl

may_answer : (ks : List Known) (r : Remaining) → (ks ≡ [] → r ≡ nothing)
    → MayAnswer (comes_behind ks r).tokens (comes_behind ks r).fault
may_answer [] r none = subst (λ (x : Remaining). MayAnswer x.tokens x.fault) (sym (none refl)) refl
may_answer (k ∷ ks) r none = tt

known_behind : (setting : yaml_encoding_t) (bytes : List ℕ) (z : ScannedText) (ks : List Known)
    (taken : ℕ) → StandsFor setting bytes z → (ks ≡ [] → to_come (scanner_of z) ≡ nothing)
    → IsKnown (view_by setting bytes (Some z) ks taken None)
known_behind setting bytes z [] taken h none = inr (none refl)
known_behind setting bytes z (k ∷ ks) taken h none = inl (settled_known setting bytes z k ks h)

-- what is read further is needed
reads_ahead : (setting : yaml_encoding_t) (bytes : List ℕ) (o : Option ScannedText)
    (ks : List Known) (taken n : ℕ) (z y : ScannedText) → Ahead setting bytes o taken z
    → GivesAll (scanner_of z) (scanner_of y) ks
    → ReadsNeeded (view_by setting bytes o [] taken None) (view_by setting bytes (Some y) ks n None)
reads_ahead setting bytes o ks taken n z y a g =
    let s = scanner_of z in
    record {
      setting = refl;
      bytes = refl;
      further = omega (arith, a.read, g.gives.reads.further);
      needed = λ m low high. elim (cases_lt m (read_by s)) [
        | inl below ↦ a.first m low below
        | inr past ↦ ap (λ (r : Remaining). settles setting bytes r.tokens m) (sym a.left) ∙ settles_is setting bytes z a.stands (to_come s).tokens m ∙ g.gives.reads.needed m past high
      ];
    }

-- the next token is passed by reference, or none is to come
pub lends : (setting : yaml_encoding_t) (bytes : List ℕ) (o : Option ScannedText) (ks : List Known)
    (taken n : ℕ) (z y : ScannedText) → Ahead setting bytes o taken z
    → GivesAll (scanner_of z) (scanner_of y) ks → StandsFor setting bytes y
    → Lends (view_by setting bytes o [] taken None) (first_known ks) (view_by setting bytes (Some y) ks n None)
lends setting bytes o ks taken n z y a g h =
    let s = scanner_of y in
    let left : left_in setting bytes o ≡ comes_behind ks (to_come s) = sym a.left ∙ g.gives.come in
    record {
      token = first_is ks (to_come s) g.some ∙ ap (λ (r : Remaining). first_of r.tokens) (sym left);
      all = sym left;
      may = subst (λ (r : Remaining). MayAnswer r.tokens r.fault) (sym left) (may_answer ks (to_come s) g.some);
      same = refl;
      reads = reads_ahead setting bytes o ks taken n z y a g;
      known = known_behind setting bytes y ks n h g.some;
      over = λ f bad. cc;
      still = λ f bad. cc;
    }

stands_behind : (setting : yaml_encoding_t) (bytes : List ℕ) (z y : ScannedText) (ks : List Known)
    → StandsFor setting bytes z → GivesAll (scanner_of z) (scanner_of y) ks
    → text_bytes y.text ≡ text_bytes z.text → Locates (text_bytes y.text) y.locator
    → StandsFor setting bytes y
stands_behind setting bytes z y ks h g text there = record {
  decoded = h.decoded ∙ ap (λ t. Ok t) (sym text);
  encoding = ap (λ (x : SpelledText). x.encoding) g.gives.stream ∙ h.encoding;
  ready = g.gives.ready;
  locates = there;
}

no_fault : (o : Option yaml_fault_t) (f : yaml_fault_t) → o ≡ None → o ≡ Some f → ⊥
no_fault None f e bad = cc
no_fault (Some g) f e bad = cc

-- the view where no token is known, and no fault was answered
idle_view : (setting : yaml_encoding_t) (bytes : List ℕ) (o : Option ScannedText) (ks : List Known)
    (n : ℕ) (fault : Option yaml_fault_t) → ks ≡ [] → fault ≡ None
    → view_by setting bytes o [] n None ≡ view_by setting bytes o ks n fault
idle_view setting bytes o ks n fault none free = ap (λ xs. view_by setting bytes o xs n None) (sym none) ∙ ap (λ f. view_by setting bytes o ks n f) (sym free)

holds_behind : (setting : yaml_encoding_t) (bytes : List ℕ) (o : Option ScannedText) (taken n : ℕ)
    (z y : ScannedText) (ks : List Known) → Ahead setting bytes o taken z
    → GivesAll (scanner_of z) (scanner_of y) ks → StandsFor setting bytes y → n ≡ taken
    → HoldsKnown setting bytes y ks n
holds_behind setting bytes o taken n z y ks a g h same = record {
  stands = h;
  idle = g.idle;
  last = ap (λ m. taken_behind ks m) (same ∙ a.count) ∙ g.gives.last;
  later = g.gives.later;
}

-- the next token is looked for, where none is known
pub reads_on : (r q : Reading) (z y : ScannedText) (answer : Result (Unit {0}) yaml_fault_t)
    → Ahead r.setting r.input.now r.standing r.queue.taken z → IsReading r → r.fault ≡ None
    → r.queue.known.items ≡ [] → Keeps r q → q.standing ≡ Some y
    → FillsText z y r.queue q.queue answer → ReadsOn r q answer
reads_on r q z y (Ok done) a i free none keeps stood f =
    let setting = r.setting in
    let bytes = r.input.now in
    let ks = q.queue.known.items in
    let n = q.queue.taken in
    let q2 : Reading = record r { standing = q.standing; queue = q.queue } in
    let h = stands_behind setting bytes z y ks a.stands f.fills f.text f.locates in
    let was = idle_view setting bytes r.standing r.queue.known.items r.queue.taken r.fault none free in
    let is : view_by setting bytes (Some y) ks n None ≡ view_of q2 = ap (λ s. view_by setting bytes s ks n None) (sym stood) ∙ ap (λ o. view_by setting bytes q.standing ks n o) (sym free) in
    let l = lends setting bytes r.standing ks r.queue.taken n z y a f.fills h in
    let there : Lends (view_of r) (first_known ks) (view_of q2) = subst (λ v. Lends v (first_known ks) (view_of q2)) was (subst (λ v. Lends (view_by setting bytes r.standing [] r.queue.taken None) (first_known ks) v) is l) in
    let few : read_in (Some y) ≤ n + most_waiting = omega (arith, f.fills.gives.few, a.count, f.taken) in
    let whole : IsReading q2 = record {
      holds = λ e. subst (λ s. Holds setting bytes s ks n) (sym stood) (holds_behind setting bytes r.standing r.queue.taken n z y ks a f.fills h f.taken);
      over = λ g bad. absurd (no_fault r.fault g free bad);
      few = subst (λ s. read_in s ≤ n + most_waiting) (sym stood) few;
      empty = i.empty;
    } in
    subst (λ (x : Reading). IsReading x × Lends (view_of r) (first_known x.queue.known.items) (view_of x)) (sym keeps) (whole, there)
reads_on r q z y (Err f) a i free none keeps stood x =
    let was = idle_view r.setting r.input.now r.standing r.queue.known.items r.queue.taken r.fault none free in
    subst (λ v. Denies v (fault_of f)) was (denies r.setting r.input.now r.standing r.queue.taken z (fault_of f) a x.fills)

-- it isn't, where the input can't be decoded
pub reads_none : (r : Reading) (result : Result ScannedText yaml_fault_t) (f : yaml_fault_t)
    → r.fault ≡ None → r.queue.known.items ≡ []
    → Stood r.standing r.setting r.input.now result → result ≡ Err f
    → Denies (view_of r) (fault_of f)
reads_none r result f free none stood is =
    subst (λ o. Denies (view_by r.setting r.input.now r.standing r.queue.known.items r.queue.taken o) (fault_of f)) (sym free) (denies_text r.setting r.input.now r.standing r.queue.known.items r.queue.taken result f none stood is)

-- ---- where the next token needn't be looked for

-- nothing more is read
pub same_reads : (v : View) → ReadsNeeded v v
same_reads v = record { setting = refl; bytes = refl; further = omega arith; needed = λ n low high. absurd (omega (arith, low, high)) }

over_by : (setting : yaml_encoding_t) (bytes : List ℕ) (o : Option ScannedText) (ks : List Known)
    (n : ℕ) (f : yaml_fault_t) → ks ≡ []
    → Lends (view_by setting bytes o ks n (Some f)) (first_known ks) (view_by setting bytes o ks n (Some f))
over_by setting bytes o ks n f none = record {
  token = ap first_known none;
  all = refl;
  may = refl;
  same = refl;
  reads = same_reads (view_by setting bytes o ks n (Some f));
  known = inr refl;
  over = λ g is. refl;
  still = λ g is. refl;
}

some_fault : (o : Option yaml_fault_t) → is_some o ≡ true → (f : yaml_fault_t) × (o ≡ Some f)
some_fault None e = cc
some_fault (Some f) e = (f, refl)

pub none_fault : (o : Option yaml_fault_t) → is_some o ≡ false → o ≡ None
none_fault None e = refl
none_fault (Some f) e = cc

-- after a fault that was answered the empty token is passed by reference
pub lends_over : (r : Reading) → IsReading r → is_some r.fault ≡ true
    → Lends (view_of r) (first_known r.queue.known.items) (view_of r)
lends_over r i e =
    let (f, is) = some_fault r.fault e in
    let ks = r.queue.known.items in
    subst (λ o. Lends (view_by r.setting r.input.now r.standing ks r.queue.taken o) (first_known ks) (view_by r.setting r.input.now r.standing ks r.queue.taken o)) (sym is)
    (over_by r.setting r.input.now r.standing ks r.queue.taken f (i.over f is))

held_by : (setting : yaml_encoding_t) (bytes : List ℕ) (o : Option ScannedText) (ks : List Known)
    (n : ℕ) → Holds setting bytes o ks n → is_none ks ≡ false
    → Lends (view_by setting bytes o ks n None) (first_known ks) (view_by setting bytes o ks n None)
held_by setting bytes o [] n h some = cc
held_by setting bytes None (k ∷ ks) n (none, zero_taken) some = cc
held_by setting bytes (Some z) (k ∷ ks) n h some = record {
  token = refl;
  all = refl;
  may = tt;
  same = refl;
  reads = same_reads (view_by setting bytes (Some z) (k ∷ ks) n None);
  known = inl (settled_known setting bytes z k ks h.stands);
  over = λ f bad. cc;
  still = λ f bad. cc;
}

-- a token that is known is passed by reference
pub lends_held : (r : Reading) → IsReading r → is_some r.fault ≡ false
    → is_none r.queue.known.items ≡ false
    → Lends (view_of r) (first_known r.queue.known.items) (view_of r)
lends_held r i free some =
    let is = none_fault r.fault free in
    let ks = r.queue.known.items in
    subst (λ o. Lends (view_by r.setting r.input.now r.standing ks r.queue.taken o) (first_known ks) (view_by r.setting r.input.now r.standing ks r.queue.taken o)) (sym is)
    (held_by r.setting r.input.now r.standing ks r.queue.taken (i.holds is) some)

pub none_known : (ks : List Known) → is_none ks ≡ true → ks ≡ []
none_known [] e = refl
none_known (k ∷ ks) e = cc

-- ---- the end

-- what a session is that a fault ended
abbrev HasEnded : Reading → Reading → yaml_fault_t → Type 0
HasEnded r q f = q ≡ record r { standing = None; queue = q.queue; fault = Some f }

pub whole_ended : (r q : Reading) (f : yaml_fault_t) → token_of r.none ≡ no_token → HasEnded r q f
    → q.queue.known.items ≡ [] → IsReading q
whole_ended r q f empty same none =
    let q2 : Reading = record r { standing = None; queue = q.queue; fault = Some f } in
    let whole : IsReading q2 = record { holds = λ bad. absurd (no_fault (Some f) f bad refl); over = λ g is. none; few = omega arith; empty = empty } in
    subst IsReading (sym same) whole

none_waits : (n : ℕ) → 0 - n ≡ 0
none_waits n = omega arith

ended_by : (v : View) (w n : ℕ) (f : Fault) → w ≡ n
    → record v { read = 0; remaining = nothing; answered = Some f; waiting = w }
    ≡ record v { read = 0; remaining = nothing; answered = Some f; waiting = n }
ended_by v w n f e = ap (λ m. record v { read = 0; remaining = nothing; answered = Some f; waiting = m }) e

pub view_ended : (r q : Reading) (f : yaml_fault_t) → HasEnded r q f
    → view_of q ≡ ended (view_of r) (fault_of f)
view_ended r q f same = ap view_of same ∙ ended_by (view_of r) (0 - q.queue.taken) 0 (fault_of f) (none_waits q.queue.taken)

pub refuses : (r p q : Reading) (f : yaml_fault_t) → Denies (view_of r) (fault_of f)
    → r.fault ≡ None → HasEnded p q f → Refuses (view_of r) (fault_of f) (view_of q)
refuses r p q f d free same =
    let is = view_ended p q f same in
    record {
      sought = d.sought;
      more = d.more;
      told = d.told;
      reader = d.reader;
      plain = d.plain;
      once = ap (λ (o : Option yaml_fault_t). option_map (λ g. fault_of g) o) free;
      kept = ap (λ (v : View). v.answered) is;
      over = ap (λ (v : View). v.remaining) is;
    }

-- ---- a token that is taken

-- the first one that is known is taken, or there was none
holds_popped : (setting : yaml_encoding_t) (bytes : List ℕ) (o : Option ScannedText)
    (ks js : List Known) (n m : ℕ) → Holds setting bytes o ks n → PopsFirst ks n js m
    → Holds setting bytes o js m
unfolding taken_behind
holds_popped setting bytes o [] js n m h (none, same) = rw (none, same) h
holds_popped setting bytes None (k ∷ ks) js n m (none, zero_taken) p = cc
holds_popped setting bytes (Some z) (k ∷ ks) js n m h (rest, taken) = rw (rest, taken) (record {
  stands = h.stands;
  idle = h.idle;
  last = h.last;
  later = All-tail (λ (x : Known). read_by (scanner_of z) ≤ x.taken + most_waiting) k ks h.later;
})

few_popped : (setting : yaml_encoding_t) (bytes : List ℕ) (o : Option ScannedText)
    (ks js : List Known) (n m : ℕ) → Holds setting bytes o ks n → read_in o ≤ n + most_waiting → PopsFirst ks n js m
    → read_in o ≤ m + most_waiting
few_popped setting bytes o [] js n m h few (none, same) = omega (arith, few, same)
few_popped setting bytes None (k ∷ ks) js n m h few p = omega arith
few_popped setting bytes (Some z) (k ∷ ks) js n m h few (rest, taken) = omega (arith, taken, All-head (λ (x : Known). read_by (scanner_of z) ≤ x.taken + most_waiting) k ks h.later)

idle_popped : (ks js : List Known) (n m : ℕ) → ks ≡ [] → PopsFirst ks n js m
    → (js ≡ []) × (m ≡ n)
idle_popped [] js n m e p = p
idle_popped (k ∷ ks) js n m e p = cc

-- the fault that was answered, or none
abbrev by_fault : Option yaml_fault_t → Type 0
by_fault o = (o ≡ None) ⊎ ((f : yaml_fault_t) × (o ≡ Some f))

fault_cases : (o : Option yaml_fault_t) → by_fault o
fault_cases None = inl refl
fault_cases (Some f) = inr (f, refl)

pub whole_popped : (r : Reading) (q : Queue) → IsReading r
    → PopsFirst r.queue.known.items r.queue.taken q.known.items q.taken
    → IsReading (record r { queue = q })
whole_popped r q i p = record {
  holds = λ free. holds_popped r.setting r.input.now r.standing r.queue.known.items q.known.items r.queue.taken q.taken (i.holds free) p;
  over = λ f is. (idle_popped r.queue.known.items q.known.items r.queue.taken q.taken (i.over f is) p).0;
  few = elim (fault_cases r.fault) [
    | inl free ↦ few_popped r.setting r.input.now r.standing r.queue.known.items q.known.items r.queue.taken q.taken (i.holds free) i.few p
    | inr (f, is) ↦ (let (none, same) = idle_popped r.queue.known.items q.known.items r.queue.taken q.taken (i.over f is) p in omega (arith, same, i.few))
  ];
  empty = i.empty;
}

none_behind : (c : Remaining) → c ≡ nothing → c ≡ behind_first c
none_behind c e = e ∙ sym (ap (λ (x : Remaining). behind_first x) e)

-- where none is known, none is settled
never_settled : (setting : yaml_encoding_t) (bytes : List ℕ) (o : Option ScannedText) (n : ℕ)
    → Holds setting bytes o [] n → is_settled (view_by setting bytes o [] n None) ≡ false
never_settled setting bytes None n h = unsettled_start setting bytes
never_settled setting bytes (Some z) n h = unsettled_idle setting bytes z h.stands h.idle

rest_by : (setting : yaml_encoding_t) (bytes : List ℕ) (o : Option ScannedText) (ks js : List Known)
    (n m : ℕ) (fault : Option yaml_fault_t) → (fault ≡ None → Holds setting bytes o ks n)
    → IsKnown (view_by setting bytes o ks n fault) → PopsFirst ks n js m
    → (view_by setting bytes o js m fault).remaining ≡ behind_first (view_by setting bytes o ks n fault).remaining
rest_by setting bytes o ks js n m (Some f) h known p = refl
rest_by setting bytes o (k ∷ ks) js n m None h known (rest, taken) = ap (λ xs. comes_behind xs (left_in setting bytes o)) rest
rest_by setting bytes o [] js n m None h (inl settled) p = absurd (true≢false (sym settled ∙ never_settled setting bytes o n (h refl)))
rest_by setting bytes o [] js n m None h (inr none) (empty, same) = ap (λ xs. comes_behind xs (left_in setting bytes o)) empty ∙ none_behind (left_in setting bytes o) none

-- what is left where the first token is taken
pub rest_popped : (r : Reading) (q : Queue) → IsReading r → IsKnown (view_of r)
    → PopsFirst r.queue.known.items r.queue.taken q.known.items q.taken
    → (view_of (record r { queue = q })).remaining ≡ behind_first (view_of r).remaining
rest_popped r q i known p = rest_by r.setting r.input.now r.standing r.queue.known.items q.known.items r.queue.taken q.taken r.fault i.holds known p

-- after a fault nothing changes
still_popped : (r : Reading) (q : Queue) (f : Fault) → IsReading r
    → PopsFirst r.queue.known.items r.queue.taken q.known.items q.taken
    → (view_of r).answered ≡ Some f → view_of (record r { queue = q }) ≡ view_of r
still_popped r q f i p is = elim (fault_cases r.fault) [
  | inl free ↦ absurd (let bad : option_map (λ (g : yaml_fault_t). fault_of g) None ≡ Some f = ap (λ (o : Option yaml_fault_t). option_map (λ (g : yaml_fault_t). fault_of g) o) (sym free) ∙ is in cc)
  | inr (g, e) ↦
      let none = i.over g e in
      let (empty, same) = idle_popped r.queue.known.items q.known.items r.queue.taken q.taken none p in
      ap (λ xs. view_by r.setting r.input.now r.standing xs q.taken r.fault) (empty ∙ sym none) ∙ ap (λ n. view_by r.setting r.input.now r.standing r.queue.known.items n r.fault) same
]

pub reads_popped : (v : View) (r : Reading) (q : Queue) → ReadsNeeded v (view_of r)
    → ReadsNeeded v (view_of (record r { queue = q }))
reads_popped v r q x = record { setting = x.setting; bytes = x.bytes; further = x.further; needed = x.needed }

pub takes : (v : View) (r : Reading) (q : Queue) (t : Token) → IsReading r
    → Lends v (first_known r.queue.known.items) (view_of r)
    → PopsFirst r.queue.known.items r.queue.taken q.known.items q.taken
    → t ≡ first_known r.queue.known.items → Takes v t (view_of (record r { queue = q }))
takes v r q t i l p is = record {
  token = is ∙ l.token;
  rest = rest_popped r q i l.known p ∙ ap (λ (c : Remaining). behind_first c) l.all;
  may = l.may;
  same = l.same;
  reads = reads_popped v r q l.reads;
  over = l.over;
  still = λ f answered. still_popped r q f i p (l.same ∙ answered) ∙ l.still f answered;
}

pub few_wait : (r : Reading) → IsReading r → HoldsLittle (view_of r)
few_wait r i = omega (arith, i.few)

-- ---- whether a token is known

none_below : (n : ℕ) → ltb n 0 ≡ false
none_below n = grind (arith, nat_tests)

settled_by : (setting : yaml_encoding_t) (bytes : List ℕ) (o : Option ScannedText) (ks : List Known)
    (n : ℕ) (fault : Option yaml_fault_t) → (fault ≡ None → Holds setting bytes o ks n)
    → ((f : yaml_fault_t) → fault ≡ Some f → ks ≡ [])
    → not (is_none ks) ≡ is_settled (view_by setting bytes o ks n fault)
settled_by setting bytes o [] n (Some f) h over = sym (none_below (open_count setting bytes (read_in o)))
settled_by setting bytes o (k ∷ ks) n (Some f) h over = absurd (let bad = over f refl in cc)
settled_by setting bytes o [] n None h over = sym (never_settled setting bytes o n (h refl))
settled_by setting bytes None (k ∷ ks) n None h over = absurd (let bad = (h refl).0 in cc)
settled_by setting bytes (Some z) (k ∷ ks) n None h over = sym (settled_known setting bytes z k ks (h refl).stands)

-- the next token is known where it is settled
pub settled_is : (r : Reading) → IsReading r
    → not (is_none r.queue.known.items) ≡ is_settled (view_of r)
settled_is r i = settled_by r.setting r.input.now r.standing r.queue.known.items r.queue.taken r.fault i.holds i.over

first_by : (ks : List Known) (fault : Option yaml_fault_t) (c : Remaining)
    → ((f : yaml_fault_t) → fault ≡ Some f → ks ≡ []) → not (is_none ks) ≡ true
    → HasFirst (unless_answered fault (comes_behind ks c)).tokens
first_by [] fault c over some = cc
first_by (k ∷ ks) (Some f) c over some = absurd (let bad = over f refl in cc)
first_by (k ∷ ks) None c over some = tt

pub first_comes : (r : Reading) → IsReading r → not (is_none r.queue.known.items) ≡ true
    → HasFirst (view_of r).remaining.tokens
first_comes r i some = first_by r.queue.known.items r.fault (left_in r.setting r.input.now r.standing) i.over some

-- ---- a new session

pub begins : (r : Reading) (setting : yaml_encoding_t) (bytes : List ℕ) → r.setting ≡ setting
    → r.input.now ≡ bytes → r.standing ≡ None → r.queue.known.items ≡ [] → r.queue.taken ≡ 0
    → r.fault ≡ None → view_of r ≡ begun setting bytes
begins r setting bytes s b o ks n f = rw (s, b, o, ks, n, f) refl

-- ---- the fault that was answered

-- a fault that is passed by reference is the one that is kept
pub lent_fault : (r : Option (Bor yaml_fault_t)) (o : Option yaml_fault_t) → option_copied r ≡ o
    → option_map (λ (f : Bor yaml_fault_t). fault_of f.now) r ≡ option_map (λ (f : yaml_fault_t). fault_of f) o
lent_fault None o e = ap (option_map (λ (f : yaml_fault_t). fault_of f)) e
lent_fault (Some f) o e = ap (option_map (λ (f : yaml_fault_t). fault_of f)) e
