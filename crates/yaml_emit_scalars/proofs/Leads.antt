-- Characters by the first byte of each.
use Rattle.std.proofs.Common.{◌≡◌, ℕ, ◌+◌, ◌/◌, ◌<◌, ◌≤◌, List, [], ◌∷◌, ◌++◌, length, get_or, Bool, true, false, cond, refl, sym, subst, ◌∙◌, ap, arith, inl, inr, length-append}
use Rattle.std.specs.Prelude.{not, nat_lt, nat_le, ◌==◌, ◌||◌, ◌&&◌}
use Rattle.std.proofs.lemmas.Bool.{cond_both, and_parts, and_from, or_parts, eqb-true, false≢true, not-true, ltb-true, ltb-false, cases_lt}
use Rattle.std.proofs.lemmas.Bool.Decides.{nat_tests}
use Rattle.std.proofs.lemmas.List.{get_or_append_left, get_or-append-add}
use lib.Utf8.{encode as encoded, encodes, scalar, scalars, scalar_cases}
use Rattle.yaml_scan_runs.specs.Runs.{is_stop}
use Rattle.yaml_emit_layout.specs.Text.{is_break}
use Rattle.yaml_emit_layout.specs.Quoted.{is_printable, needs_escape}
use Rattle.yaml_emit_layout.specs.Runs.{all_pass}
use Rattle.yaml_emit_layout.proofs.Bools.{bool_cases}
use Rattle.yaml_emit_scalars.specs.Classes.{class_of, is_of}
use Rattle.yaml_emit_scalars.specs.Runs.{ends, stands}
use Rattle.yaml_emit_scalars.specs.declared.run.Body.{Body}
use Rattle.yaml_emit_scalars.specs.declared.run.Body.TheVariants.{Open, Single, Double, Ascii}
use Rattle.yaml_emit_scalars.proofs.ClassLemmas.{by_class}

-- the first byte of a character
unfoldable pub lead : ℕ → ℕ
lead c = cond (nat_lt c 128) c (cond (nat_lt c 2048) (192 + c / 64) (cond (nat_lt c 65536) (224 + c / 4096) (240 + c / 262144)))

pub some_bytes : (c : ℕ) → 0 < length (encoded c)
unfolding encoded
some_bytes c =
    let P : List ℕ → Type 0 = λ bs. 0 < length bs in
    cond_both (nat_lt c 128) _ _ P (λ _. omega arith)
    (λ _. cond_both (nat_lt c 2048) _ _ P (λ _. omega arith) (λ _. cond_both (nat_lt c 65536) _ _ P (λ _. omega arith) (λ _. omega arith)))

first_byte : (t : Bool) (xs ys : List ℕ)
    → get_or (cond t xs ys) 0 0 ≡ cond t (get_or xs 0 0) (get_or ys 0 0)
first_byte true xs ys = refl
first_byte false xs ys = refl

lead_is : (c : ℕ) → get_or (encoded c) 0 0 ≡ lead c
unfolding encoded lead
lead_is c =
    first_byte (nat_lt c 128) _ _
    ∙ ap (cond (nat_lt c 128) c) (first_byte (nat_lt c 2048) _ _ ∙ ap (cond (nat_lt c 2048) (192 + c / 64)) (first_byte (nat_lt c 65536) _ _))

-- Where whatever holds of each byte of a text gives what is needed of its characters, by the first byte of each: at a column a
-- character may come earlier than its bytes do.
pub all_by_leads : (test : ℕ → ℕ → Bool) (fine : ℕ → ℕ → Type 0)
    → ((k c : ℕ) → scalar c ≡ true → fine k (lead c) → test k c ≡ true)
    → ((k m b : ℕ) → k ≤ m → fine m b → fine k b) → (cs : List ℕ) (k : ℕ) → scalars cs ≡ true
    → ((i : ℕ) → i < length (encodes cs) → fine (k + i) (get_or (encodes cs) i 0)) → all_pass test k cs ≡ true
unfolding all_pass
all_by_leads test fine gives less [] k s h = refl
all_by_leads test fine gives less (c ∷ cs) k s h =
    let (one, more) = and_parts (scalar c) (scalars cs) s in
    let some = some_bytes c in
    let size = length-append (encoded c) (encodes cs) in
    let P : ℕ → Type 0 = λ b. fine k b in
    let here : k + 0 ≡ k = omega arith in
    let Q : ℕ → Type 0 = λ m. fine m (get_or (encoded c ++ encodes cs) 0 0) in
    let head : fine k (lead c) = subst P (get_or_append_left (encoded c) (encodes cs) 0 0 some ∙ lead_is c) (subst Q here (h 0 (omega (arith, some, size)))) in
    and_from (test k c) _ (gives k c one head)
    (all_by_leads test fine gives less cs (k + 1) more
    (λ i u.
    let R : ℕ → Type 0 = λ b. fine (k + (length (encoded c) + i)) b in
    less (k + 1 + i) (k + (length (encoded c) + i)) _ (omega (arith, some)) (subst R (get_or-append-add (encoded c) (encodes cs) i 0) (h (length (encoded c) + i) (omega (arith, u, size))))))

-- a number of which a test doesn't hold is none of which it does
pub differs : (p : ℕ → Bool) (c k : ℕ) → p c ≡ false → p k ≡ true → (c == k) ≡ false
differs p c k n y = bool_cases (c == k) (λ t. absurd (false≢true (sym n ∙ ap p (eqb-true c k t) ∙ y))) (λ f. f)

-- a byte with which characters begin that are no breaks
pub unbroken : (c : ℕ) → is_stop [] (lead c) ≡ false → is_break c ≡ false
unfolding lead
unbroken c n =
    let p : ℕ → Bool = λ k. is_stop [] (lead k) in
    rw (differs p c 10 n refl, differs p c 13 n refl, differs p c 0x85 n refl, differs p c 0x2028 n refl, differs p c 0x2029 n refl) refl

-- or that are printable
abbrev stops_printed : ℕ → Bool
stops_printed b = is_stop (127 ∷ 0xEF ∷ []) b

low_printed : (c : ℕ) → c < 128 → stops_printed c ≡ false → is_printable c ≡ true
low_printed c low n = grind (arith, nat_tests, low, n)

short_printed : (c : ℕ) → 128 ≤ c → c < 2048 → stops_printed (192 + c / 64) ≡ false
    → is_printable c ≡ true
short_printed c high low n =
    let far : 0xC0 ≤ c = elim (cases_lt c 0xC0) [
      | inl less ↦ let e : 192 + c / 64 ≡ 0xC2 = omega (arith, less, high) in absurd (false≢true (sym n ∙ ap stops_printed e))
      | inr more ↦ more
    ] in
    grind (arith, nat_tests, far, low)

long_printed : (c : ℕ) → 2048 ≤ c → c < 65536 → scalar c ≡ true
    → stops_printed (224 + c / 4096) ≡ false → is_printable c ≡ true
long_printed c high low s n =
    let near : c < 0xF000 = elim (cases_lt c 0xF000) [
      | inl less ↦ less
      | inr more ↦ let e : 224 + c / 4096 ≡ 0xEF = omega (arith, more, low) in absurd (false≢true (sym n ∙ ap stops_printed e))
    ] in
    elim (scalar_cases c s) [
      | inl before ↦ grind (arith, nat_tests, high, before)
      | inr (after, _) ↦ grind (arith, nat_tests, after, near)
    ]

far_printed : (c : ℕ) → 65536 ≤ c → scalar c ≡ true → is_printable c ≡ true
far_printed c high s = elim (scalar_cases c s) [
  | inl before ↦ absurd (omega (arith, before, high))
  | inr (_, below) ↦ grind (arith, nat_tests, high, below)
]

pub printed : (c : ℕ) → scalar c ≡ true → is_stop (127 ∷ 0xEF ∷ []) (lead c) ≡ false
    → is_printable c ≡ true
unfolding lead
printed c s =
    let P : ℕ → Type 0 = λ b. is_stop (127 ∷ 0xEF ∷ []) b ≡ false → is_printable c ≡ true in
    cond_both (nat_lt c 128) _ _ P (λ t n. low_printed c (ltb-true c 128 t) n)
    (λ f. cond_both (nat_lt c 2048) _ _ P (λ t n. short_printed c (ltb-false c 128 f) (ltb-true c 2048 t) n)
    (λ g. cond_both (nat_lt c 65536) _ _ P (λ t n. long_printed c (ltb-false c 2048 g) (ltb-true c 65536 t) s n)
    (λ h _. far_printed c (ltb-false c 65536 h) s)))

-- what is as it is
needs_none : (unicode : Bool) (c : ℕ) → is_printable c ≡ true
    → (not unicode && nat_le 0x80 c) ≡ false → is_break c ≡ false → (c == 34) ≡ false
    → (c == 92) ≡ false
    → needs_escape unicode c ≡ false
unfolding needs_escape
needs_none unicode c p u b q s = rw (p, u, b, q, s) refl

abbrev quoted_fewer : ℕ → Bool
quoted_fewer b = is_stop (34 ∷ 92 ∷ 127 ∷ 0xEF ∷ []) b

fewer : (b : ℕ) → quoted_fewer b ≡ false
    → (is_stop [] b ≡ false) × (is_stop (127 ∷ 0xEF ∷ []) b ≡ false)
fewer b n = (grind (arith, nat_tests, n), grind (arith, nat_tests, n))

double_stands : (c : ℕ) → scalar c ≡ true → quoted_fewer (lead c) ≡ false → (unicode : Bool)
    → (not unicode && nat_le 0x80 c) ≡ false → needs_escape unicode c ≡ false
unfolding lead
double_stands c s n unicode u =
    let (always, listed) = fewer (lead c) n in
    let p : ℕ → Bool = λ k. quoted_fewer (lead k) in
    needs_none unicode c (printed c s listed) u (unbroken c always) (differs p c 34 n refl) (differs p c 92 n refl)

-- a byte of ASCII is its character
pub ascii_lead : (c : ℕ) → lead c < 128 → c < 128
unfolding lead
ascii_lead c =
    let P : ℕ → Type 0 = λ b. b < 128 → c < 128 in
    cond_both (nat_lt c 128) _ _ P (λ t _. ltb-true c 128 t)
    (λ _. cond_both (nat_lt c 2048) _ _ P (λ _ h. absurd (omega (arith, h))) (λ _. cond_both (nat_lt c 65536) _ _ P (λ _ h. absurd (omega (arith, h))) (λ _ h. absurd (omega (arith, h)))))

abbrev quoted_class : ℕ → Bool
quoted_class b = quoted_fewer b || nat_le 128 b

by_quoted_class : (b : ℕ) → is_of 0x01E b ≡ false → quoted_class b ≡ false
unfolding class_of
by_quoted_class b n = by_class 0x01E quoted_class refl refl b n

pub ascii_class : (b : ℕ) → is_of 0x01E b ≡ false → b < 128
ascii_class b n =
    let high = (or_parts (quoted_fewer b) (nat_le 128 b) (by_quoted_class b n)).1 in
    elim (cases_lt b 128) [ inl low ↦ low | inr more ↦ absurd (grind (arith, nat_tests, high, more)) ]

ascii_needs : (c : ℕ) → c < 128 → (not false && nat_le 0x80 c) ≡ false
ascii_needs c h = grind (arith, nat_tests, h)

-- a character is as it is where its first byte ends no run
pub stands_by_lead : (body : Body) (c : ℕ) → scalar c ≡ true → ends body (lead c) ≡ false
    → stands body c ≡ true
unfolding lead
stands_by_lead Open c s n = ap not (unbroken c n)
stands_by_lead Single c s n =
    let always : is_stop [] (lead c) ≡ false = grind (arith, nat_tests, n) in
    let p : ℕ → Bool = λ k. is_stop (39 ∷ []) (lead k) in
    and_from (not (is_break c)) (not (c == 39)) (ap not (unbroken c always)) (ap not (differs p c 39 n refl))
stands_by_lead Double c s n = ap not (double_stands c s n true refl)
stands_by_lead Ascii c s n =
    let b = by_quoted_class (lead c) n in
    ap not (double_stands c s (or_parts (quoted_fewer (lead c)) (nat_le 128 (lead c)) b).0 false (ascii_needs c (ascii_lead c (ascii_class (lead c) n))))

no_needs : (unicode : Bool) (c : ℕ) → needs_escape unicode c ≡ false → is_break c ≡ false
unfolding needs_escape
no_needs unicode c h =
    let a : Bool = not (is_printable c) in
    let b : Bool = not unicode && nat_le 0x80 c in
    (or_parts (a || b) (is_break c) (or_parts ((a || b) || is_break c) (c == 34) (or_parts (((a || b) || is_break c) || c == 34) (c == 92) h).0).0).1

-- what is as it is is no break
pub stands_unbroken : (body : Body) (c : ℕ) → stands body c ≡ true → is_break c ≡ false
stands_unbroken Open c h = not-true (is_break c) h
stands_unbroken Single c h = not-true (is_break c) (and_parts (not (is_break c)) (not (c == 39)) h).0
stands_unbroken Double c h = no_needs true c (not-true (needs_escape true c) h)
stands_unbroken Ascii c h = no_needs false c (not-true (needs_escape false c) h)
