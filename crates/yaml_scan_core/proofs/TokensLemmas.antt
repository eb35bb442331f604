-- Tokens that are taken.
use Rattle.std.proofs.Common.{◌≡◌, ◌≢◌, ◌⊎◌, ℕ, ◌+◌, ◌<◌, ◌≤◌, ◌||◌, Bool, true, false, if◌then◌else◌, ltb, inl, inr, List, length, refl, sym, ap, subst, ◌∙◌, arith}
use Rattle.std.proofs.lemmas.Bool.{true≢false}
use Rattle.std.proofs.lemmas.List.{get_or-set_same, length-set}
use Rattle.yaml_scan_core.proofs.Words.{cases_Bool, cases_lt, nat_tests, Entry, SpelledText}
use Rattle.yaml_scan_model.specs.scan_types.Tokens.{TokenBody}
use Rattle.yaml_scan_history.specs.Remaining.{body_in}
use Rattle.yaml_scan_model.specs.declared.kind.Kind.{Kind}
use Rattle.yaml_scan_model.specs.declared.kind.Kind.TheVariants as kinds
use Rattle.yaml_scan_core.specs.declared.lexeme.Lexeme.{Lexeme}
use Rattle.yaml_scan_core.specs.Rows.{RowView, behind_lead, behind_start, first_kind, is_set, led, row_lexeme, loses_none, may_lead, no_lexeme}
use Rattle.yaml_scan_core.specs.Shown.{Carries, IsFront, ShowsFront, ShowsRow, Store, entry_at, store_of}
use Rattle.yaml_scan_core.specs.Handed.{EndsTold, TakesLead, TakesOwn, ends_at, ends_in, ends_known, given_in, given_of, keys_in, left_from, starts_in}
use Rattle.yaml_scan_core.proofs.DropsLemmas.{lead_zero}
use Rattle.yaml_scan_core.proofs.HandedLemmas.{ends_shown, given_first, given_is, given_none, known_by, known_shown}

-- ---- which token is next

pub data LeadKind (x : Lexeme) : Type 0 where
  lead_ends : x.front ≡ kinds.BlockEnd → 0 < x.ends → LeadKind x
  lead_sequence : x.front ≡ kinds.BlockSequenceStart → is_set 1 x ≡ true → LeadKind x
  lead_mapping : x.front ≡ kinds.BlockMappingStart → is_set 1 x ≡ false → is_set 2 x ≡ true → LeadKind x
  lead_key : x.front ≡ kinds.Key → is_set 4 x ≡ true → LeadKind x
  lead_own : x.front ≡ x.kind → LeadKind x

behind_cases : (x : Lexeme) → x.front ≡ behind_start x → LeadKind x
behind_cases x e = elim (cases_Bool (is_set 4 x)) [
  | inl y ↦ let is : behind_start x ≡ kinds.Key = rw y refl in lead_key (e ∙ is) y
  | inr n ↦ let is : behind_start x ≡ x.kind = rw n refl in lead_own (e ∙ is)
]

first_cases : (x : Lexeme) → x.front ≡ first_kind x → LeadKind x
first_cases x e = elim (cases_Bool (ltb 0 x.ends)) [
  | inl some ↦ let is : first_kind x ≡ kinds.BlockEnd = rw some refl in lead_ends (e ∙ is) (grind (arith, nat_tests, some))
  | inr none ↦ elim (cases_Bool (is_set 1 x)) [
    | inl a ↦ let is : first_kind x ≡ kinds.BlockSequenceStart = rw (none, a) refl in lead_sequence (e ∙ is) a
    | inr a ↦ elim (cases_Bool (is_set 2 x)) [
      | inl b ↦ let is : first_kind x ≡ kinds.BlockMappingStart = rw (none, a, b) refl in lead_mapping (e ∙ is) a b
      | inr b ↦ let is : first_kind x ≡ behind_start x = rw (none, a, b) refl in behind_cases x (e ∙ is)
    ]
  ]
]

-- which token is next, by the front of its lexeme
pub lead_kinds : (b : Bool) (x : Lexeme) → IsFront b x → LeadKind x
lead_kinds b x (inl first) = first_cases x first
lead_kinds b x (inr (was, none, inl start)) = behind_cases x start
lead_kinds b x (inr (was, none, inr own)) = lead_own own

-- a token that leads no other is a lexeme's own
pub leads_by : (x : Lexeme) → LeadKind x → may_lead x.front ≡ false → x.front ≡ x.kind
leads_by x (lead_ends e more) no_lead = absurd (true≢false (sym (ap may_lead e) ∙ no_lead))
leads_by x (lead_sequence e a) no_lead = absurd (true≢false (sym (ap may_lead e) ∙ no_lead))
leads_by x (lead_mapping e u a) no_lead = absurd (true≢false (sym (ap may_lead e) ∙ no_lead))
leads_by x (lead_key e a) no_lead = absurd (true≢false (sym (ap may_lead e) ∙ no_lead))
leads_by x (lead_own e) no_lead = e

pub no_end : (k : Kind) → may_lead k ≡ false → k ≢ kinds.BlockEnd
no_end k no_lead e = true≢false (sym (ap may_lead e) ∙ no_lead)

-- ---- how many are taken

-- a lexeme's own kind
pub record IsOwn (k : Kind) : Type 0 where
  pub ends : k ≢ kinds.BlockEnd
  pub sequence : k ≢ kinds.BlockSequenceStart
  pub mapping : k ≢ kinds.BlockMappingStart

pub own_kind : (s : Store) (t : SpelledText) (x : Lexeme) (k : Kind) (b : TokenBody)
    → Carries s t x k b → IsOwn k
own_kind s t x k b h = record {
  ends = λ e. subst (λ j. Carries s t x j b) e h;
  sequence = λ e. subst (λ j. Carries s t x j b) e h;
  mapping = λ e. subst (λ j. Carries s t x j b) e h;
}

pub own_left : (k : Kind) (y : Lexeme) → IsOwn k → (k ≡ kinds.Key → keys_in y ≡ 0)
    → left_from k y ≡ 1
own_left kinds.BlockEnd y o plain = absurd (o.ends refl)
own_left kinds.BlockSequenceStart y o plain = absurd (o.sequence refl)
own_left kinds.BlockMappingStart y o plain = absurd (o.mapping refl)
own_left kinds.Key y o plain = let none = plain refl in omega (arith, none)
own_left _ y o plain = refl

start_left : (x y : Lexeme) → IsOwn x.kind → keys_in y ≡ keys_in x
    → left_from (behind_start x) y ≡ keys_in x + 1
start_left x y o same = elim (cases_Bool (is_set 4 x)) [
  | inl k ↦ let is : behind_start x ≡ kinds.Key = rw k refl in ap (λ j. left_from j y) is ∙ omega (arith, same)
  | inr k ↦
      let is : behind_start x ≡ x.kind = rw k refl in
      let none : keys_in x ≡ 0 = rw k refl in
      ap (λ j. left_from j y) is ∙ own_left x.kind y o (λ e. same ∙ none) ∙ omega (arith, none)
]

start_given : (n : ℕ) (x : Lexeme) → IsOwn x.kind → x.ends ≡ 0 → starts_in x ≡ 1
    → left_from x.front x ≡ starts_in x + keys_in x + 1
    → given_of n (record x { front = behind_start x }) ≡ given_of n x + 1
start_given n x o none one left =
    let next : left_from (behind_start x) (record x { front = behind_start x }) ≡ keys_in x + 1 = start_left x (record x { front = behind_start x }) o refl in
    omega (arith, none, one, left, next)

abbrev one_if : Bool → ℕ
one_if b = if b then 1 else 0

set_two : (a b : Bool) → b ≡ true → one_if (a || b) ≡ 1
set_two true b e = refl
set_two false b e = rw e refl

lead_given : (n : ℕ) (x : Lexeme) → LeadKind x → IsOwn x.kind → x.ends ≤ n
    → (x.front ≢ kinds.BlockEnd → x.ends ≡ 0) → x.front ≢ x.kind → given_of n (behind_lead x.front x) ≡ given_of n x + 1
lead_given n x (lead_ends e more) o few none other =
    let left : left_from x.front x ≡ starts_in x + keys_in x + 1 = ap (λ k. left_from k x) e in
    ap (λ k. given_of n (behind_lead k x)) e ∙ given_first n (behind_lead kinds.BlockEnd x) refl ∙ omega (arith, left, more, few)
lead_given n x (lead_sequence e a) o few none other =
    let left : left_from x.front x ≡ starts_in x + keys_in x + 1 = ap (λ k. left_from k x) e in
    let one : starts_in x ≡ 1 = rw a refl in
    ap (λ k. given_of n (behind_lead k x)) e ∙ start_given n x o (none (λ f. (let bad = sym e ∙ f in cc))) one left
lead_given n x (lead_mapping e u a) o few none other =
    let left : left_from x.front x ≡ starts_in x + keys_in x + 1 = ap (λ k. left_from k x) e in
    let one : starts_in x ≡ 1 = set_two (is_set 1 x) (is_set 2 x) a in
    ap (λ k. given_of n (behind_lead k x)) e ∙ start_given n x o (none (λ f. (let bad = sym e ∙ f in cc))) one left
lead_given n x (lead_key e a) o few none other =
    let left : left_from x.front x ≡ keys_in x + 1 = ap (λ k. left_from k x) e in
    let one : keys_in x ≡ 1 = rw a refl in
    let zero_ends = none (λ f. (let bad = sym e ∙ f in cc)) in
    let next : left_from x.kind (record x { front = x.kind }) ≡ 1 = own_left x.kind (record x { front = x.kind }) o (λ f. absurd (other (e ∙ sym f))) in
    ap (λ k. given_of n (behind_lead k x)) e ∙ omega (arith, left, one, zero_ends, next)
lead_given n x (lead_own e) o few none other = absurd (other e)

key_plain : (s : Store) (t : SpelledText) (x : Lexeme) (b : TokenBody) → Carries s t x kinds.Key b
    → is_set 4 x ≡ false
key_plain s t x b (plain, is, unset) = unset

-- a KEY that is a lexeme's own comes of no simple key
pub own_plain : (s : Store) (t : SpelledText) (x : Lexeme) (b : TokenBody) → Carries s t x x.kind b
    → x.kind ≡ kinds.Key → is_set 4 x ≡ false
own_plain s t x b h e = key_plain s t x b (subst (λ k. Carries s t x k b) e h)

-- it is its own token, or it isn't
pub own_or_lead : (s : Store) (t : SpelledText) (x : Lexeme) (b : TokenBody) → LeadKind x
    → Carries s t x x.kind b → (x.front ≡ x.kind) ⊎ (x.front ≢ x.kind)
own_or_lead s t x b (lead_ends e more) h = inr (λ same. (own_kind s t x x.kind b h).ends (sym same ∙ e))
own_or_lead s t x b (lead_sequence e a) h = inr (λ same. (own_kind s t x x.kind b h).sequence (sym same ∙ e))
own_or_lead s t x b (lead_mapping e u a) h = inr (λ same. (own_kind s t x x.kind b h).mapping (sym same ∙ e))
own_or_lead s t x b (lead_key e a) h = inr (λ same. true≢false (sym a ∙ own_plain s t x b h (sym same ∙ e)))
own_or_lead s t x b (lead_own e) h = inl e

-- it means no fault, and some token
pub real_front : (s : Store) (t : SpelledText) (x : Lexeme) (b : TokenBody) → LeadKind x
    → Carries s t x x.kind b → (x.front ≢ kinds.Failed) × (x.front ≢ kinds.Nothing)
real_front s t x b (lead_ends e more) h = (λ f. (let bad = sym e ∙ f in cc), λ f. (let bad = sym e ∙ f in cc))
real_front s t x b (lead_sequence e a) h = (λ f. (let bad = sym e ∙ f in cc), λ f. (let bad = sym e ∙ f in cc))
real_front s t x b (lead_mapping e u a) h = (λ f. (let bad = sym e ∙ f in cc), λ f. (let bad = sym e ∙ f in cc))
real_front s t x b (lead_key e a) h = (λ f. (let bad = sym e ∙ f in cc), λ f. (let bad = sym e ∙ f in cc))
real_front s t x b (lead_own e) h = (λ f. subst (λ k. Carries s t x k b) (sym e ∙ f) h, λ f. subst (λ k. Carries s t x k b) (sym e ∙ f) h)

-- a BLOCK-END is one that is left
pub ends_left : (x : Lexeme) → LeadKind x → IsOwn x.kind → x.front ≡ kinds.BlockEnd → 0 < x.ends
ends_left x (lead_ends e more) o end = more
ends_left x (lead_sequence e a) o end = let bad = sym e ∙ end in cc
ends_left x (lead_mapping e u a) o end = let bad = sym e ∙ end in cc
ends_left x (lead_key e a) o end = let bad = sym e ∙ end in cc
ends_left x (lead_own e) o end = absurd (o.ends (sym e ∙ end))

-- ---- the row of which one is taken

-- nothing of the lexeme of that number is taken
pub record IsNew (text : List ℕ) (r : RowView) (i : ℕ) : Type 0 where
  pub front : (row_lexeme r i).front ≡ first_kind (row_lexeme r i)
  pub ends : (row_lexeme r i).ends ≡ ends_known (row_lexeme r i) (ends_at text (r.dropped + i))

-- the lexeme whose token is next shows that entry
pub record ShowsNext (t : SpelledText) (r : RowView) (e : Entry) : Type 0 where
  pub some : r.next < length r.lexemes
  pub settled : Bool
  pub front : ShowsFront settled (store_of t.text r) t (row_lexeme r r.next) e
  pub ends : e.ends ≡ ends_in t.text r
  pub behind : r.next + 1 < length r.lexemes → IsNew t.text r (r.next + 1)

told_here : (text : List ℕ) (t : SpelledText) (r : RowView) (es : List Entry) → EndsTold text es
    → ShowsRow t r es → (i : ℕ) → i < length r.lexemes
    → (entry_at es (r.dropped + i)).ends ≡ ends_at text (r.dropped + i)
told_here text t r es told h i lt = told (r.dropped + i) (omega (arith, h.count, lt))

pub new_there : (t : SpelledText) (r : RowView) (es : List Entry) → EndsTold t.text es
    → ShowsRow t r es → (i : ℕ) → r.next < i → i < length r.lexemes → IsNew t.text r i
new_there t r es told h i gt lt =
    let w = h.others i gt lt in
    record {
      front = w.front;
      ends = w.ends ∙ told_here t.text t r es told h i lt ∙ sym (known_shown (store_of t.text r) t (row_lexeme r i) (entry_at es (r.dropped + i)) (ends_at t.text (r.dropped + i)) w.shows);
    }

pub next_shown : (t : SpelledText) (r : RowView) (es : List Entry) → EndsTold t.text es
    → ShowsRow t r es → r.next < length r.lexemes → ShowsNext t r (entry_at es (r.dropped + r.next))
next_shown t r es told h some = record {
  some = some;
  settled = ltb r.next r.settled;
  front = h.front some;
  ends = told_here t.text t r es told h r.next some ∙ sym (ends_shown t.text t r es h some);
  behind = λ lt. new_there t r es told h (r.next + 1) (omega arith) lt;
}

pub lead_known : (k : Kind) (x : Lexeme) → loses_none (behind_lead k x) ≡ loses_none x
lead_known kinds.BlockEnd x = refl
lead_known kinds.Key x = refl
lead_known _ x = refl

-- one token more of the lexeme is taken, which isn't its own
pub leads_one : (text : List ℕ) (r q : RowView) → r.next < length r.lexemes
    → LeadKind (row_lexeme r r.next) → IsOwn (row_lexeme r r.next).kind
    → (row_lexeme r r.next).ends ≤ ends_in text r
    → ((row_lexeme r r.next).front ≢ kinds.BlockEnd → (row_lexeme r r.next).ends ≡ 0)
    → (row_lexeme r r.next).front ≢ (row_lexeme r r.next).kind → q ≡ led r → TakesLead text r q
leads_one text r q some lead own few none other is =
    let x = row_lexeme r r.next in
    let y = behind_lead x.front x in
    let number = ends_at text (r.dropped + r.next) in
    let n = ends_in text r in
    let here : row_lexeme (led r) r.next ≡ y = get_or-set_same r.lexemes r.next y no_lexeme some in
    let long : length (led r).lexemes ≡ length r.lexemes = length-set r.lexemes r.next y in
    let known : ends_in text (led r) ≡ n = ap (λ z. ends_known z number) here ∙ ap (λ b. known_by b number) (lead_known x.front x) in
    let more = lead_given n x lead own few none other in
    record {
      place = ap (λ (v : RowView). v.dropped + v.next) is;
      given = ap (λ v. given_in text v) is ∙ given_is text (led r) (omega (arith, some, long)) ∙ ap (λ m. given_of m (row_lexeme (led r) r.next)) known
          ∙ ap (λ z. given_of n z) here ∙ more ∙ ap (λ m. m + 1) (sym (given_is text r some));
    }

-- a token before a lexeme's own one
pub takes_lead : (t : SpelledText) (r q : RowView) (e : Entry) → ShowsNext t r e
    → (row_lexeme r r.next).front ≢ (row_lexeme r r.next).kind → q ≡ led r → TakesLead t.text r q
takes_lead t r q e w other is =
    let x = row_lexeme r r.next in
    let f = w.front in
    leads_one t.text r q w.some (lead_kinds w.settled x f.front) (own_kind (store_of t.text r) t x x.kind (body_in t e.lexeme) f.shows.body)
    (omega (arith, f.ends, w.ends)) (λ o. lead_zero w.settled x f.front o) other is

-- its own one
pub takes_own : (t : SpelledText) (r q : RowView) (e : Entry) → ShowsNext t r e
    → (row_lexeme r r.next).front ≡ (row_lexeme r r.next).kind
    → q ≡ record r { next = r.next + 1 } → TakesOwn t.text r q
takes_own t r q e w own is =
    let text = t.text in
    let x = row_lexeme r r.next in
    let f = w.front in
    let body = f.shows.body in
    let o = own_kind (store_of text r) t x x.kind (body_in t e.lexeme) body in
    let none : x.ends ≡ 0 = lead_zero w.settled x f.front (λ e. o.ends (sym own ∙ e)) in
    let plain : x.kind ≡ kinds.Key → keys_in x ≡ 0 = λ k. (let unset = own_plain (store_of text r) t x (body_in t e.lexeme) body k in rw unset refl) in
    let left : left_from x.front x ≡ 1 = ap (λ k. left_from k x) own ∙ own_left x.kind x o plain in
    let after : RowView = record r { next = r.next + 1 } in
    let given : given_in text after ≡ 0 = elim (cases_lt (r.next + 1) (length r.lexemes)) [
      | inr gone ↦ given_none text after gone
      | inl there ↦
          let b = w.behind there in
          given_is text after there ∙ given_first (ends_in text after) (row_lexeme r (r.next + 1)) b.front ∙ omega (arith, b.ends)
    ] in
    record {
      place = ap (λ (v : RowView). v.dropped + v.next) is ∙ omega arith;
      last = ap (λ m. m + 1) (given_is text r w.some) ∙ omega (arith, none, left);
      given = ap (λ v. given_in text v) is ∙ given;
    }
