-- What is asked of a scanner: the next token, shown and taken.
use Rattle.std.proofs.Common.{◌≡◌, ◌≢◌, ℕ, ◌+◌, ◌-◌, ◌<◌, ◌≤◌, true, false, ltb, List, [], ◌∷◌, ◌++◌, get_or, length, length-append, Option, refl, sym, ap, subst, ◌∙◌, inl, inr, arith}
use Rattle.std.proofs.lemmas.Bool.{true≢false}
use Rattle.std.proofs.lemmas.List.{get_or_read_under}
use Rattle.yaml_scan_core.proofs.Words.{cases_Bool, cases_Option, cases_lt, nat_tests, Entry, Lexeme as Read, Remaining, SpelledText, all, ended, finished_tokens, entry_of, first_lexeme, history, length-entries, open_levels, next, offline, remaining}
use Rattle.yaml_scan_model.specs.Coming.{front_of, rest_of}
use Rattle.yaml_scan_model.specs.scan_types.Faults.{Fault as PublicFault}
use Rattle.yaml_scan_model.specs.scan_types.Tokens.{Token}
use Rattle.yaml_scan_model.specs.declared.name.yaml_encoding_t.{yaml_encoding_t}
use Rattle.yaml_scan_history.specs.Next.{Fails}
use Rattle.yaml_scan_history.specs.Remaining.{nothing}
use Rattle.yaml_scan_laws.proofs.HistoryForward.{history_grows, last_is_all}
use Rattle.yaml_scan_laws.proofs.RemainingForward.{end_comes}
use Rattle.yaml_scan_laws.specs.Fronts.{GivesFirst}
use Rattle.yaml_scan_model.specs.declared.kind.Kind.{Kind}
use Rattle.yaml_scan_model.specs.declared.kind.Kind.TheVariants as kinds
use Rattle.yaml_scan_core.specs.declared.lexeme.Lexeme.{Lexeme}
use Rattle.yaml_scan_core.specs.declared.row.Row.{Row}
use Rattle.yaml_scan_core.specs.declared.scanner.Scanner.{Scanner}
use Rattle.yaml_scan_core.specs.Rows.{HasRoom, IsThere, RowView, first_kind, led, row_lexeme, may_lead, no_lexeme, row_of}
use Rattle.yaml_scan_core.specs.Shown.{Carries, ShowsRow, entry_at, store_of}
use Rattle.yaml_scan_core.specs.Scanning.{Fixed, HasFailed, IsGoing, IsOver, IsTold, Rests, fault_in, history_of, read_by, stream_of}
use Rattle.yaml_scan_core.specs.Handed.{HandsOn, come_of, ends_at, ends_in, given_in, given_of, to_come}
use Rattle.yaml_scan_core.specs.Asked.{HasTaken, IsFront, ShowsKind, Starts, TellsFault, Waits, behind_first, front_lexeme, store_in}
use Rattle.yaml_scan_core.proofs.BatchLemmas.{all_is, told_history}
use Rattle.yaml_scan_core.proofs.FrontLemmas.{behind_one}
use Rattle.yaml_scan_core.proofs.GivenLemmas.{First, IsReady, TakesFront, fault_next, first_going, first_kept, first_lost, first_of, first_over, lost_cases}
use Rattle.yaml_scan_core.proofs.HandedLemmas.{front_first, given_is, unsettled}
use Rattle.yaml_scan_core.proofs.RestsLemmas.{ends_after, few_read, first_entries, first_history, first_row, going_of, settled_read, taken_settled}
use Rattle.yaml_scan_core.proofs.SkipLemmas.{rests_taken}

-- ---- a token that is known to be next

pub ready_of : (s : Scanner) (k : Kind) → IsFront k s → IsReady s
ready_of s k f = record { some = f.some; settled = λ other. f.settled (λ e. other (sym f.kind ∙ e)) }

pub first_by : (s : Scanner) (k : Kind) → Rests s → IsFront k s → First (stream_of s) (row_of s.row)
first_by s k r f =
    let x = front_lexeme s in
    first_of s r (ready_of s k f) (λ front kind. subst (λ j. Carries (store_in s) (stream_of s) x j f.token.body) kind (f.own (front ∙ sym kind)))

behind_is : (now after : Remaining) (it : Token) → GivesFirst now it after
    → after ≡ behind_first now
behind_is now after it g =
    ap (λ (ts : List Token). record { tokens = ts; fault = after.fault }) (sym (ap rest_of g.0))
    ∙ ap (λ (f : Option PublicFault). record { tokens = rest_of now.tokens; fault = f }) (sym g.1)

-- what is to come after it
pub rest_taken : (s : Scanner) (q : RowView) → First (stream_of s) (row_of s.row)
    → TakesFront (row_of s.row) q → come_of (stream_of s) q ≡ behind_first (to_come s)
rest_taken s q f taken = f.rest q taken ∙ behind_is (to_come s) (behind_one (stream_of s) (row_of s.row)) f.token f.gives

-- what the lexeme carries whose own token it was
pub has_taken : (s : Scanner) (k : Kind) (row : Row) → IsFront k s
    → (front_lexeme s).front ≡ (front_lexeme s).kind
    → row_of row ≡ record (row_of s.row) { next = s.row.next + 1 } → HasTaken (record s { row = row }) (front_of (to_come s).tokens).body
has_taken s k row f own is =
    let r = row_of s.row in
    let text = s.text.now in
    let t = stream_of s in
    let b = (front_of (to_come s).tokens).body in
    let Holds : RowView → Type 0 = λ v. Carries (store_of text v) t (row_lexeme v (v.next - 1)) (row_lexeme v (v.next - 1)).kind b in
    let body : f.token.body ≡ b = sym (ap (λ ts. (front_of ts).body) f.first) in
    let now = subst (λ c. Carries (store_of text r) t (row_lexeme r r.next) (row_lexeme r r.next).kind c) body (f.own own) in
    let back : r.next ≡ r.next + 1 - 1 = omega arith in
    let next : row.next ≡ s.row.next + 1 = ap (λ (v : RowView). v.next) is in
    let long : length row.lexemes.items ≡ length s.row.lexemes.items = ap (λ (v : RowView). length v.lexemes) is in
    record {
      some = omega (arith, next);
      inside = omega (arith, next, long, f.some);
      carries = subst Holds (sym is) (subst (λ i. Carries (store_of text r) t (row_lexeme r i) (row_lexeme r i).kind b) back now);
    }

-- ---- the kind of the next token

is_front : (s : Scanner) → First (stream_of s) (row_of s.row) → IsReady s
    → IsFront (front_lexeme s).front s
is_front s f ready = record {
  some = ready.some;
  kind = refl;
  ends = f.ends;
  settled = ready.settled;
  token = f.token;
  rest = (behind_one (stream_of s) (row_of s.row)).tokens;
  first = f.gives.0;
  start = f.shown.start;
  lead_end = f.shown.lead_end;
  own_end = f.shown.own_end;
  lead = f.shown.lead;
  own = f.shown.own;
}

shows_kind : (k : Kind) (s : Scanner) → k ≢ kinds.Failed → k ≢ kinds.Nothing → IsFront k s
    → ShowsKind k (to_come s) s
shows_kind kinds.Failed s a b f = absurd (a refl)
shows_kind kinds.Nothing s a b f = absurd (b refl)
shows_kind _ s a b f = (f, refl)

shows_first : (s : Scanner) → First (stream_of s) (row_of s.row) → IsReady s
    → ShowsKind (front_lexeme s).front (to_come s) s
shows_first s f ready = shows_kind (front_lexeme s).front s f.real.0 f.real.1 (is_front s f ready)

settled_ready : (s : Scanner) → s.row.next < s.row.settled
    → s.row.settled ≤ length s.row.lexemes.items → IsReady s
settled_ready s low few = record { some = omega (arith, low, few); settled = λ other. low }

-- a BLOCK-END of a lexeme that isn't settled
end_ready : (s : Scanner) → IsGoing s → s.row.next < length s.row.lexemes.items
    → 0 < (front_lexeme s).ends → IsReady s
end_ready s g some ends = elim (cases_lt s.row.next s.row.settled) [
  | inl low ↦ record { some = some; settled = λ other. low }
  | inr past ↦
      let r = row_of s.row in
      let x = row_lexeme r r.next in
      let first = front_first (store_in s) (stream_of s) x (entry_at (finished_tokens (history_of s)) (r.dropped + r.next)) (ltb r.next r.settled) (unsettled r.next r.settled past) (g.shows.holds.row.front some) in
      let is : ltb 0 x.ends ≡ true = grind (arith, nat_tests) in
      let front : first_kind x ≡ kinds.BlockEnd = rw is refl in
      record { some = some; settled = λ other. absurd (other (first ∙ front)) }
]

shows_going : (s : Scanner) → IsGoing s → IsThere (row_of s.row)
    → ShowsKind (front_lexeme s).front (to_come s) s
shows_going s g there =
    let ready : IsReady s = elim there [ inl low ↦ settled_ready s low g.shows.holds.row.few | inr (some, ends) ↦ end_ready s g some ends ] in
    shows_first s (first_going s g ready) ready

-- memory ran out, or that fault comes
tells_fault : (s : Scanner) (n : ℕ) → HasFailed s (history s.text.now n)
    → s.row.next + 1 ≡ s.row.settled → (front_lexeme s).front ≡ kinds.Failed
    → (front_lexeme s).ends ≡ 0 → TellsFault (to_come s) s
tells_fault s n f end front none = elim (cases_Option s.fault) [
  | inl lost ↦ inl lost
  | inr (p, some) ↦
      let told : next s.text.now (history s.text.now n) ≡ Fails (fault_in s.text.now p) = subst (λ o. IsTold s.text.now o (next s.text.now (history s.text.now n))) some f.told in
      let is = fault_next s n (fault_in s.text.now p) f end front none told in
      inr (ap (λ (r : Remaining). r.tokens) is, (p, some, ap (λ (r : Remaining). r.fault) is))
]

shows_failed : (k : Kind) (s : Scanner) → k ≡ kinds.Failed → TellsFault (to_come s) s
    → s.row.next < s.row.settled → (front_lexeme s).front ≡ kinds.Failed → ShowsKind k (to_come s) s
shows_failed kinds.Failed s is tells low front = (tells, low, front)
shows_failed _ s is tells low front = cc

shows_lost : (s : Scanner) (n : ℕ) → HasFailed s (history s.text.now n) → s.row.next < s.row.settled
    → ShowsKind (front_lexeme s).front (to_come s) s
shows_lost s n f low =
    let ready = settled_ready s low (omega (arith, f.all)) in
    elim (cases_lt (s.row.next + 1) s.row.settled) [
      | inl more ↦ shows_first s (first_kept s n f more) ready
      | inr past ↦
          let end : s.row.next + 1 ≡ s.row.settled = omega (arith, past, low) in
          elim (lost_cases s n f end) [
            | inl (front, none) ↦ shows_failed (front_lexeme s).front s front (tells_fault s n f end front none) low front
            | inr (front, some) ↦ shows_first s (first_lost s n f end front some) ready
          ]
    ]

-- the token at the front, where one waits
pub shows_front : (s : Scanner) → Rests s → IsThere (row_of s.row)
    → (s.ended ≡ true → s.row.next < s.row.settled) → ShowsKind (front_lexeme s).front (to_come s) s
shows_front s (inl g) there low = shows_going s g there
shows_front s (inr (inl o)) there low =
    let ready = settled_ready s (low o.over) o.row.few in
    shows_first s (first_over s o ready) ready
shows_front s (inr (inr (n, f))) there low = shows_lost s n f (low f.over)

-- ---- after all

-- after the stream's end nothing comes
pub over_nothing : (s : Scanner) → Rests s → s.ended ≡ true → s.row.next ≡ s.row.settled
    → to_come s ≡ nothing
over_nothing s (inl g) over done = let bad = sym over ∙ g.going in cc
over_nothing s (inr (inl o)) over done =
    end_comes (stream_of s) (read_by s) (s.row.dropped + s.row.next) (given_in s.text.now (row_of s.row)) (ends_after s.text.now (history_of s) o.end)
    (omega (arith, done, o.all, o.row.count, length-entries (history_of s)))
over_nothing s (inr (inr (n, f))) over done = absurd (omega (arith, done, f.row.taken, f.some))

-- ---- after reading

pub stream_same : (old new : Scanner) → HandsOn old new → new.text.now ≡ old.text.now
    → stream_of new ≡ stream_of old
stream_same old new h text =
    let Spelled : yaml_encoding_t → List ℕ → SpelledText = λ e x. record { encoding = e; text = x } in
    ap (λ e. Spelled e new.text.now) (ap (λ (f : Fixed). f.encoding) h.fixed) ∙ ap (λ x. Spelled old.encoding x) text

-- the same is to come
pub come_same : (old new : Scanner) → HandsOn old new → new.text.now ≡ old.text.now
    → to_come new ≡ to_come old
come_same old new h text =
    ap (λ t. remaining t (new.row.dropped + new.row.next) (given_in new.text.now (row_of new.row))) (stream_same old new h text)
    ∙ ap (λ k. remaining (stream_of old) k (given_in new.text.now (row_of new.row))) h.taken
    ∙ ap (λ g. remaining (stream_of old) (old.row.dropped + old.row.next) g) h.given

longer : (newer h : List Read) → ended (newer ++ h) ≡ true → ended h ≡ false
    → length h < length (newer ++ h)
longer [] h over more = absurd (true≢false (sym over ∙ more))
longer (l ∷ newer) h over more = omega (arith, length-append newer h)

-- the stream's end wasn't read, so it waits
over_waits : (old new : Scanner) → IsGoing old → HandsOn old new → new.text.now ≡ old.text.now
    → IsOver new → new.row.next < new.row.settled
over_waits old new g h text o =
    let hs = history_of old in
    let ends = ends_after new.text.now (history_of new) o.end in
    let whole : all new.text.now ≡ history_of new = last_is_all new.text.now (read_by new) (λ l r. (let bad = sym r ∙ ends in cc)) in
    let (newer, grown) = history_grows old.text.now (read_by old) (length old.text.now + 2) (few_read old g.shows) in
    let same : history_of new ≡ newer ++ hs = sym whole ∙ ap all text ∙ all_is old.text.now ∙ grown in
    let more = longer newer hs (ap ended (sym same) ∙ o.end) (sym g.shows.over ∙ g.going) in
    let long : length (history_of new) ≡ length (newer ++ hs) = ap (λ (x : List Read). length x) same in
    omega (arith, more, long, h.taken, g.shows.holds.row.taken, g.shows.holds.row.few, g.shows.holds.row.count, length-entries hs, o.all, o.row.count, length-entries (history_of new))

pub waits_ended : (old new : Scanner) → IsGoing old → HandsOn old new → new.text.now ≡ old.text.now
    → Rests new → new.ended ≡ true → new.row.next < new.row.settled
waits_ended old new g h text (inl on) over = let bad = sym over ∙ on.going in cc
waits_ended old new g h text (inr (inl o)) over = over_waits old new g h text o
waits_ended old new g h text (inr (inr (n, f))) over = omega (arith, f.row.taken, f.some)

-- what read_on leaves
pub record HasRead (old new : Scanner) : Type 0 where
  pub rests : Rests new
  pub hands : HandsOn old new
  pub waits : new.ended ≡ false → 0 < new.batch → IsThere (row_of new.row)
  pub text : new.text.now ≡ old.text.now

pub batch_same : (old new : Scanner) → HandsOn old new → new.batch ≡ old.batch
batch_same old new h = ap (λ (f : Fixed). f.batch) h.fixed

pub read_there : (old new : Scanner) → Waits old → old.ended ≡ false → HasRead old new
    → IsThere (row_of new.row)
read_there old new w going h = elim (cases_Bool new.ended) [
  | inl over ↦ inl (waits_ended old new (going_of old w.rests going) h.hands h.text h.rests over)
  | inr more ↦ h.waits more (omega (arith, w.some, batch_same old new h.hands))
]

pub some_there : (s : Scanner) → Rests s → IsThere (row_of s.row)
    → s.row.next < length s.row.lexemes.items
some_there s r (inl low) = omega (arith, low, settled_read s r)
some_there s r (inr (some, ends)) = some

pub shows_read : (old new : Scanner) → Waits old → old.ended ≡ false → HasRead old new
    → ShowsKind (front_lexeme new).front (to_come old) new
shows_read old new w going h =
    subst (λ r. ShowsKind (front_lexeme new).front r new) (come_same old new h.hands h.text)
    (shows_front new h.rests (read_there old new w going h) (λ over. waits_ended old new (going_of old w.rests going) h.hands h.text h.rests over))

-- where a settled lexeme waits
pub shows_settled : (s : Scanner) → Waits s → s.row.next < s.row.settled
    → ShowsKind (front_lexeme s).front (to_come s) s
shows_settled s w low = shows_front s w.rests (inl low) (λ over. low)

-- and after the stream's end
pub shows_nothing : (s : Scanner) → Waits s → s.ended ≡ true → s.row.settled ≤ s.row.next
    → ShowsKind kinds.Nothing (to_come s) s
shows_nothing s w over none =
    let is = over_nothing s w.rests over (omega (arith, none, taken_settled s w.rests)) in
    (is, is)

-- ---- a token that is taken

pub record HasSkipped (old : Scanner) (row : Row) : Type 0 where
  pub own : (front_lexeme old).front ≡ (front_lexeme old).kind
      → row_of row ≡ record (row_of old.row) { next = old.row.next + 1 }
  pub lead : (front_lexeme old).front ≢ (front_lexeme old).kind → row_of row ≡ led (row_of old.row)
  pub shows : (t : SpelledText) (es : List Entry) → ShowsRow t (row_of old.row) es
      → ((front_lexeme old).front ≢ kinds.BlockEnd → old.row.next < old.row.settled)
      → ShowsRow t (row_of row) es
  pub room : HasRoom old.row → HasRoom row

takes_front : (s : Scanner) (row : Row) → HasSkipped s row → TakesFront (row_of s.row) (row_of row)
takes_front s row h = record { own = h.own; lead = h.lead }

pub waits_skipped : (s : Scanner) (k : Kind) (row : Row) → Waits s → IsFront k s → HasSkipped s row
    → Waits (record s { row = row })
waits_skipped s k row w f h =
    let ready = ready_of s k f in
    record {
      rests = rests_taken s row w.rests ready (first_by s k w.rests f) (takes_front s row h) (λ t es shown. h.shows t es shown ready.settled) h.room;
      some = w.some;
    }

pub rest_skipped : (s : Scanner) (k : Kind) (row : Row) → Waits s → IsFront k s → HasSkipped s row
    → to_come (record s { row = row }) ≡ behind_first (to_come s)
rest_skipped s k row w f h = rest_taken s (row_of row) (first_by s k w.rests f) (takes_front s row h)

pub taken_skipped : (s : Scanner) (k : Kind) (row : Row) → IsFront k s → HasSkipped s row
    → (front_lexeme s).front ≡ (front_lexeme s).kind
    → HasTaken (record s { row = row }) (front_of (to_come s).tokens).body
taken_skipped s k row f h own = has_taken s k row f own (h.own own)

-- one that may be before no lexeme's own is its own
pub own_skipped : (s : Scanner) (k : Kind) → Waits s → IsFront k s → may_lead k ≡ false
    → (front_lexeme s).front ≡ (front_lexeme s).kind
own_skipped s k w f no_lead = (first_by s k w.rests f).plain (ap may_lead (sym f.kind) ∙ no_lead)

-- ---- before the first token

first_ends : (entry_of first_lexeme []).ends ≡ 0
unfolding open_levels
first_ends = refl

ends_first : (text : List ℕ) → ends_at text 0 ≡ 0
ends_first text =
    let is : finished_tokens (history text 1) ≡ entry_of first_lexeme [] ∷ [] = ap finished_tokens (first_history text) ∙ first_entries in
    let some : length (finished_tokens (history text 1)) ≡ 1 = ap (λ (es : List Entry). length es) is in
    sym (told_history text 1 0 (omega (arith, some))) ∙ ap (λ es. (entry_at es 0).ends) is ∙ first_ends

none_given : (text : List ℕ) → given_in text first_row ≡ 0
none_given text =
    let ends : ends_in text first_row ≡ 0 = ends_first text in
    given_is text first_row (omega arith) ∙ ap (λ n. given_of n (row_lexeme first_row first_row.next)) ends

-- all is to come
all_comes : (s : Scanner) → row_of s.row ≡ first_row → to_come s ≡ offline (stream_of s)
all_comes s row = ap (λ r. come_of (stream_of s) r) row ∙ ap (λ g. remaining (stream_of s) 0 g) (none_given s.text.now)

pub starts : (s : Scanner) → row_of s.row ≡ first_row → 0 < s.batch → IsGoing s
    → Starts s.encoding s.text.now s.batch s
starts s row some going = record {
  waits = record { rests = inl going; some = some };
  going = going;
  stream = refl;
  come = all_comes s row;
  many = refl;
  read = ap (λ (r : RowView). r.dropped + length r.lexemes) row;
  taken = ap (λ (r : RowView). r.dropped + r.next) row;
}

-- ---- the lexeme that is read

-- what is at the front of the row
pub front_read : (s : Scanner) (x : Lexeme) → s.row.next < length s.row.lexemes.items
    → x ≡ get_or s.row.lexemes.items s.row.next x → x.front ≡ (front_lexeme s).front
front_read s x some is =
    ap (λ (y : Lexeme). y.front) (get_or_read_under s.row.lexemes.items s.row.next (length s.row.lexemes.items) x no_lexeme is some refl)
