-- How many tokens are taken.
use Rattle.std.proofs.Common.{◌≡◌, ℕ, ◌+◌, ◌-◌, ◌<◌, ◌≤◌, Bool, true, false, if◌then◌else◌, ltb, inl, inr, List, length, refl, sym, ap, ◌∙◌, arith}
use Rattle.std.proofs.lemmas.Bool.{true≢false}
use Rattle.yaml_scan_core.proofs.Words.{cases_Bool, cases_lt, nat_tests, Entry, SpelledText}
use Rattle.yaml_scan_model.specs.declared.kind.Kind.{Kind}
use Rattle.yaml_scan_model.specs.declared.kind.Kind.TheVariants as kinds
use Rattle.yaml_scan_core.specs.declared.lexeme.Lexeme.{Lexeme}
use Rattle.yaml_scan_core.specs.Rows.{RowView, first_kind, is_set, row_lexeme, loses_none_by}
use Rattle.yaml_scan_model.specs.scan_types.Tokens.{TokenBody}
use Rattle.yaml_scan_history.specs.Remaining.{body_in}
use Rattle.yaml_scan_core.specs.Shown.{Carries, KeepsTaken, ShowsEntry, ShowsFront, ShowsRow, Store, entry_at, store_of}
use Rattle.yaml_scan_core.specs.Handed.{ends_at, ends_in, ends_known, given_in, given_of, keys_in, left_from, starts_in}

own_left : (k : Kind) (x : Lexeme) → is_set 1 x ≡ false → is_set 2 x ≡ false → is_set 4 x ≡ false
    → left_from k x ≡ 1
own_left kinds.BlockEnd x a b c = rw (a, b, c) refl
own_left kinds.BlockSequenceStart x a b c = rw (a, b, c) refl
own_left kinds.BlockMappingStart x a b c = rw (a, b, c) refl
own_left kinds.Key x a b c = rw c refl
own_left _ x a b c = refl

first_sequence : (x : Lexeme) → ltb 0 x.ends ≡ false → is_set 1 x ≡ true
    → first_kind x ≡ kinds.BlockSequenceStart
first_sequence x e a = rw (e, a) refl

first_mapping : (x : Lexeme) → ltb 0 x.ends ≡ false → is_set 1 x ≡ false → is_set 2 x ≡ true
    → first_kind x ≡ kinds.BlockMappingStart
first_mapping x e a b = rw (e, a, b) refl

first_key : (x : Lexeme) → ltb 0 x.ends ≡ false → is_set 1 x ≡ false → is_set 2 x ≡ false
    → is_set 4 x ≡ true → first_kind x ≡ kinds.Key
first_key x e a b c = rw (e, a, b, c) refl

first_own : (x : Lexeme) → ltb 0 x.ends ≡ false → is_set 1 x ≡ false → is_set 2 x ≡ false
    → is_set 4 x ≡ false → first_kind x ≡ x.kind
first_own x e a b c = rw (e, a, b, c) refl

-- where nothing is taken after the BLOCK-ENDs
first_left : (x : Lexeme) → left_from (first_kind x) x ≡ starts_in x + keys_in x + 1
first_left x = elim (cases_Bool (ltb 0 x.ends)) [
  | inl e ↦ rw e refl
  | inr e ↦ elim (cases_Bool (is_set 1 x)) [
    | inl a ↦ ap (λ k. left_from k x) (first_sequence x e a)
    | inr a ↦ elim (cases_Bool (is_set 2 x)) [
      | inl b ↦ ap (λ k. left_from k x) (first_mapping x e a b)
      | inr b ↦ elim (cases_Bool (is_set 4 x)) [
        | inl c ↦ let none : starts_in x ≡ 0 = rw (a, b) refl in ap (λ k. left_from k x) (first_key x e a b c) ∙ omega (arith, none)
        | inr c ↦
            let none : starts_in x ≡ 0 = rw (a, b) refl in
            let plain : keys_in x ≡ 0 = rw c refl in
            ap (λ k. left_from k x) (first_own x e a b c) ∙ own_left x.kind x a b c ∙ omega (arith, none, plain)
      ]
    ]
  ]
]

pub given_first : (ends : ℕ) (x : Lexeme) → x.front ≡ first_kind x → given_of ends x ≡ ends - x.ends
given_first ends x e =
    let left : left_from x.front x ≡ starts_in x + keys_in x + 1 = ap (λ k. left_from k x) e ∙ first_left x in
    omega (arith, left)

pub front_first : (s : Store) (t : SpelledText) (x : Lexeme) (e : Entry) (b : Bool) → b ≡ false
    → ShowsFront b s t x e → x.front ≡ first_kind x
front_first s t x e b isnt f = elim f.front [ inl first ↦ first | inr (was, ends, rest) ↦ absurd (true≢false (sym was ∙ isnt)) ]

pub unsettled : (a b : ℕ) → b ≤ a → ltb a b ≡ false
unsettled a b l = grind (arith, nat_tests)

pub settled : (a b : ℕ) → a < b → ltb a b ≡ true
settled a b l = grind (arith, nat_tests)

pub given_none : (text : List ℕ) (r : RowView) → length r.lexemes ≤ r.next → given_in text r ≡ 0
given_none text r l = rw (unsettled r.next (length r.lexemes) l) refl

pub given_is : (text : List ℕ) (r : RowView) → r.next < length r.lexemes
    → given_in text r ≡ given_of (ends_in text r) (row_lexeme r r.next)
given_is text r l = rw (settled r.next (length r.lexemes) l) refl

-- what carries a token isn't lost
held : (s : Store) (t : SpelledText) (x : Lexeme) (k : Kind) (b : TokenBody) → Carries s t x k b
    → loses_none_by k x.start x.end ≡ false
held s t x kinds.Failed b h = absurd h
held s t x _ b h = refl

abbrev pub known_by : Bool → ℕ → ℕ
known_by none ends = if none then 0 else ends

pub known_shown : (s : Store) (t : SpelledText) (x : Lexeme) (e : Entry) (n : ℕ)
    → ShowsEntry s t x e → ends_known x n ≡ n
known_shown s t x e n h = ap (λ b. known_by b n) (held s t x x.kind (body_in t e.lexeme) h.body)

pub ends_shown : (text : List ℕ) (t : SpelledText) (r : RowView) (es : List Entry) → ShowsRow t r es
    → r.next < length r.lexemes → ends_in text r ≡ ends_at text (r.dropped + r.next)
ends_shown text t r es h l =
    known_shown (store_of t.text r) t (row_lexeme r r.next) (entry_at es (r.dropped + r.next)) (ends_at text (r.dropped + r.next)) (h.front l).shows

-- where a lexeme is shown
pub given_some : (text : List ℕ) (t : SpelledText) (r : RowView) (es : List Entry) → ShowsRow t r es
    → r.next < length r.lexemes
    → given_in text r ≡ given_of (ends_at text (r.dropped + r.next)) (row_lexeme r r.next)
given_some text t r es h l = given_is text r l ∙ ap (λ n. given_of n (row_lexeme r r.next)) (ends_shown text t r es h l)

-- where what waits first isn't settled
pub given_open : (text : List ℕ) (t : SpelledText) (r : RowView) (es : List Entry) → ShowsRow t r es
    → r.settled ≤ r.next → r.next < length r.lexemes
    → given_in text r ≡ ends_at text (r.dropped + r.next) - (row_lexeme r r.next).ends
given_open text t r es h open_one l =
    given_some text t r es h l ∙ given_first (ends_at text (r.dropped + r.next)) (row_lexeme r r.next)
    (front_first (store_of t.text r) t (row_lexeme r r.next) (entry_at es (r.dropped + r.next)) (ltb r.next r.settled) (unsettled r.next r.settled open_one) (h.front l))

-- where the row was moved
pub given_moved : (text : List ℕ) (r q : RowView) → q.dropped + q.next ≡ r.dropped + r.next
    → length q.lexemes + r.next ≡ length r.lexemes + q.next
    → (q.next < length q.lexemes → row_lexeme q q.next ≡ row_lexeme r r.next)
    → given_in text q ≡ given_in text r
given_moved text r q number long same = elim (cases_lt r.next (length r.lexemes)) [
  | inl some ↦
      let there : q.next < length q.lexemes = omega (arith, some, long) in
      given_is text q there ∙ ap (λ i. given_of (ends_known (row_lexeme q q.next) (ends_at text i)) (row_lexeme q q.next)) number
      ∙ ap (λ x. given_of (ends_known x (ends_at text (r.dropped + r.next))) x) (same there) ∙ sym (given_is text r some)
  | inr none ↦ given_none text q (omega (arith, none, long)) ∙ sym (given_none text r none)
]

-- as many are taken as were
pub given_stays : (text : List ℕ) (t u : SpelledText) (r q : RowView) (es fs : List Entry)
    → KeepsTaken r q fs → ShowsRow t r es → ShowsRow u q fs
    → length r.lexemes ≤ length q.lexemes
    → (r.next < length q.lexemes → (entry_at fs (r.dropped + r.next)).ends ≡ ends_at text (r.dropped + r.next))
    → given_in text q ≡ given_in text r
given_stays text t u r q es fs k h g longer told =
    let next = k.next in
    let number : q.dropped + q.next ≡ r.dropped + r.next = omega (arith, k.next, k.dropped) in
    let place : row_lexeme q q.next ≡ row_lexeme q r.next = ap (λ i. row_lexeme q i) k.next in
    elim (cases_lt r.next (length r.lexemes)) [
      | inl some ↦
          let there : q.next < length q.lexemes = omega (arith, some, next, longer) in
          elim (cases_lt r.next r.settled) [
            | inl done ↦ given_some text u q fs g there ∙ ap (λ i. given_of (ends_at text i) (row_lexeme q q.next)) number
                ∙ ap (λ x. given_of (ends_at text (r.dropped + r.next)) x) (place ∙ k.same done) ∙ sym (given_some text t r es h some)
            | inr open_one ↦
                let same : (row_lexeme q q.next).ends ≡ (row_lexeme r r.next).ends = ap (λ (x : Lexeme). x.ends) place ∙ k.ends some in
                given_open text u q fs g (omega (arith, open_one, k.settled, next)) there
                ∙ ap (λ i. ends_at text i - (row_lexeme q q.next).ends) number ∙ ap (λ e. ends_at text (r.dropped + r.next) - e) same
                ∙ sym (given_open text t r es h open_one some)
          ]
      | inr none ↦ elim (cases_lt q.next (length q.lexemes)) [
        | inr gone ↦ given_none text q gone ∙ sym (given_none text r none)
        | inl there ↦
            let low : r.next < length q.lexemes = omega (arith, there, next) in
            let own : (row_lexeme q q.next).ends ≡ ends_at text (r.dropped + r.next) = ap (λ (x : Lexeme). x.ends) place ∙ k.first none low ∙ told low in
            let taken = h.taken in
            let few = h.few in
            given_open text u q fs g (omega (arith, none, few, k.settled, next)) there
            ∙ ap (λ i. ends_at text i - (row_lexeme q q.next).ends) number ∙ ap (λ e. ends_at text (r.dropped + r.next) - e) own
            ∙ same_less (ends_at text (r.dropped + r.next)) ∙ sym (given_none text r none)
      ]
    ]
  where
    same_less : (n : ℕ) → n - n ≡ 0
    same_less n = omega arith
