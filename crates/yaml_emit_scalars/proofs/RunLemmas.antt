-- Runs at the start of a text: their characters, by their bytes.
use Rattle.std.proofs.Common.{◌≡◌, ℕ, zero, suc, ◌+◌, ◌-◌, ◌/◌, ◌<◌, ◌≤◌, ◌⊎◌, List, [], ◌∷◌, ◌++◌, length, take, drop, get_or, bit_and, Bool, true, false, cond, IsUtf8, refl, sym, subst, ◌∙◌, ap, arith, length-take-le, inl, inr}
use Rattle.std.specs.Prelude.{not, nat_lt, nat_le, ◌==◌, ◌||◌}
use Rattle.std.specs.Str.{chars, IsAscii, IsCharBoundary}
use Rattle.std.proofs.lemmas.Bool.Decides.{nat_tests}
use Rattle.std.proofs.lemmas.List.{take-append-drop, get_or-take, get_or_past}
use Rattle.std.proofs.lemmas.Str.{chars-append, encodes-chars, scalars-chars, IsUtf8-take, IsCharBoundary-start, IsCharBoundary-after_ascii}
use Rattle.std.proofs.lemmas.Bool.{and_from, and_parts, or_parts, le-leb, eqb-true, cond-true, cases_lt, false≢true}
use lib.Utf8.{scalar, low_scalar}
use Rattle.yaml_scan_runs.specs.Runs.{RunsTo, IsNarrow}
use Rattle.yaml_emit_layout.specs.Runs.{all_pass}
use Rattle.yaml_emit_layout.proofs.Bools.{bool_cases}
use Rattle.yaml_emit_scalars.specs.Classes.{class_of, is_of, FirstOf}
use Rattle.yaml_emit_scalars.specs.Runs.{Begins, ends, ends_word, stands, stops, goes_on}
use Rattle.yaml_emit_scalars.specs.declared.run.Body.{Body}
use Rattle.yaml_emit_scalars.specs.declared.run.Body.TheVariants.{Open, Single, Double, Ascii}
use Rattle.yaml_emit_scalars.proofs.ClassLemmas.{is_of_part, by_class}
use Rattle.yaml_emit_scalars.proofs.Leads.{lead, all_by_leads, stands_by_lead, ascii_class}

-- a byte more
pass_more : (test : ℕ → ℕ → Bool) (k n m : ℕ) (xs : List ℕ) → n < length xs → m ≡ suc n
    → all_pass test k (take n xs) ≡ true → test (k + n) (get_or xs n 0) ≡ true
    → all_pass test k (take m xs) ≡ true
unfolding all_pass
pass_more test k n m [] l e h t = absurd (omega (arith, l))
pass_more test k zero m (x ∷ xs) l e h t =
    let here : k + zero ≡ k = omega arith in
    rw e (and_from (test k x) true (rw here at t) refl)
pass_more test k (suc n) m (x ∷ xs) l e h t =
    let p = and_parts (test k x) _ h in
    let there : k + suc n ≡ k + 1 + n = omega arith in
    rw e (and_from (test k x) _ p.0 (pass_more test (k + 1) n (suc n) xs (omega (arith, l)) refl p.1 (rw there at t)))

-- all of the first ones pass
pub pass_all : (test : ℕ → ℕ → Bool) (k n : ℕ) (xs : List ℕ) → n ≤ length xs
    → ((i : ℕ) → i < n → test (k + i) (get_or xs i 0) ≡ true) → all_pass test k (take n xs) ≡ true
unfolding all_pass
pass_all test k zero xs l h = refl
pass_all test k (suc n) xs l h =
    pass_more test k n (suc n) xs (omega (arith, l)) refl (pass_all test k n xs (omega (arith, l)) (λ i u. h i (omega (arith, u)))) (h n (omega arith))

free_pass : (not_space cuts : Bool) (column width : ℕ) → (cuts ≡ true → column ≤ width)
    → (not_space || (not cuts || nat_le column width)) ≡ true
free_pass true cuts column width h = refl
free_pass false false column width h = refl
free_pass false true column width h = le-leb column width (h refl)

-- a character that is as it is, and is no space past the width
pub goes_free : (body : Body) (cuts : Bool) (width column c : ℕ) → stands body c ≡ true
    → ((c == 32) ≡ true → cuts ≡ true → column ≤ width) → goes_on body cuts width column c ≡ true
goes_free body cuts width column c s h =
    and_from (stands body c) _ s
    (bool_cases (c == 32) (λ t. free_pass (not (c == 32)) cuts column width (h t)) (λ f. ap (λ v. not v || (not cuts || nat_le column width)) f))

-- a byte that ends no word ends no run, and is no space
no_space : (b : ℕ) → is_of 1 b ≡ false → (b == 32) ≡ false
unfolding class_of
no_space b n = bool_cases (b == 32) (λ t. let e = eqb-true b 32 t in absurd (false≢true (sym n ∙ ap (is_of 1) e))) (λ f. f)

word_less : (body : Body) (b : ℕ) → ends_word body b ≡ false
    → (ends body b ≡ false) × ((b == 32) ≡ false)
word_less Open b n = (grind (arith, nat_tests, n), grind (arith, nat_tests, n))
word_less Single b n = (grind (arith, nat_tests, n), grind (arith, nat_tests, n))
word_less Double b n = (grind (arith, nat_tests, n), grind (arith, nat_tests, n))
word_less Ascii b n = (is_of_part 0x01F 0x01E b n refl, no_space b (is_of_part 0x01F 1 b n refl))

-- what ends a run doesn't continue a character, where characters beyond ASCII may be in it
unfoldable pub is_mixed : Body → Bool
is_mixed Open = true
is_mixed Single = true
is_mixed Double = true
is_mixed Ascii = false

ends_lead : (body : Body) (b : ℕ) → is_mixed body ≡ true
    → (ends body b ≡ true) ⊎ (ends_word body b ≡ true) → 128 ≤ b → 192 ≤ b
unfolding is_mixed
ends_lead Open b m (inl h) l = grind (arith, nat_tests, h, l)
ends_lead Open b m (inr h) l = grind (arith, nat_tests, h, l)
ends_lead Single b m (inl h) l = grind (arith, nat_tests, h, l)
ends_lead Single b m (inr h) l = grind (arith, nat_tests, h, l)
ends_lead Double b m (inl h) l = grind (arith, nat_tests, h, l)
ends_lead Double b m (inr h) l = grind (arith, nat_tests, h, l)
ends_lead Ascii b m h l = absurd (false≢true m)

unmixed : (body : Body) (b : ℕ) → is_mixed body ≡ false → ends body b ≡ false → b < 128
unfolding is_mixed
unmixed Open b m n = absurd (false≢true (sym m))
unmixed Single b m n = absurd (false≢true (sym m))
unmixed Double b m n = absurd (false≢true (sym m))
unmixed Ascii b m n = ascii_class b n

abbrev wide_class : ℕ → Bool
wide_class b = nat_le 128 b

by_wide : (b : ℕ) → is_of 0x010 b ≡ false → wide_class b ≡ false
unfolding class_of
by_wide b n = by_class 0x010 wide_class refl refl b n

low_class : (b : ℕ) → is_of 0x010 b ≡ false → b < 128
low_class b n = let h = by_wide b n in elim (cases_lt b 128) [ inl low ↦ low | inr more ↦ absurd (grind (arith, nat_tests, h, more)) ]

-- before the classes, among which is what is beyond ASCII
pub first_narrow : (classes from to end : ℕ) (text : List ℕ) → bit_and 0x010 classes ≡ 0x010
    → to ≤ length text
    → FirstOf classes (take to text) from end → IsNarrow text from end
first_narrow classes from to end text w l f k low high =
    let inside = f.before.inside in
    let size = length-take-le to text l in
    low_class (get_or text k 0)
    (is_of_part classes 0x010 (get_or text k 0) (ap (is_of classes) (sym (get_or-take to text k 0 (omega (arith, high, inside, size)))) ∙ f.before.none k low high) w)

-- a text may be cut where a run ends
pub ascii_cut : (bs : List ℕ) (end : ℕ) → IsUtf8 bs → end ≤ length bs
    → ((i : ℕ) → i < end → get_or bs i 0 < 128) → IsCharBoundary bs end
ascii_cut bs zero u l h = IsCharBoundary-start bs u
ascii_cut bs (suc n) u l h =
    let e : n + 1 ≡ suc n = omega arith in
    subst (λ k. IsCharBoundary bs k) e (IsCharBoundary-after_ascii bs n u (omega (arith, l)) (h n (omega arith)))

run_cut : (body : Body) (bs : List ℕ) (end : ℕ) → IsUtf8 bs → end ≤ length bs
    → ((i : ℕ) → i < end → ends body (get_or bs i 0) ≡ false)
    → (end < length bs → (ends body (get_or bs end 0) ≡ true) ⊎ (ends_word body (get_or bs end 0) ≡ true)) → IsCharBoundary bs end
run_cut body bs end u l h s =
    bool_cases (is_mixed body)
    (λ m. (l, λ inside high. ends_lead body (get_or bs end 0) m (s inside) high))
    (λ m. ascii_cut bs end u l (λ i v. unmixed body (get_or bs i 0) m (h i v)))

-- what is known of a byte at a column
abbrev Fine : Body → Bool → ℕ → ℕ → ℕ → Type 0
Fine body cuts width k b = (ends body b ≡ false) × (cuts ≡ true → b ≡ 32 → k ≤ width)

space_lead : (c : ℕ) → (c == 32) ≡ true → lead c ≡ 32
unfolding lead
space_lead c t = ap lead (eqb-true c 32 t)

goes_by_lead : (body : Body) (cuts : Bool) (width k c : ℕ) → scalar c ≡ true
    → Fine body cuts width k (lead c) → goes_on body cuts width k c ≡ true
goes_by_lead body cuts width k c s f = goes_free body cuts width k c (stands_by_lead body c s f.0) (λ t q. f.1 q (space_lead c t))

run_pass : (body : Body) (cuts : Bool) (width column free end : ℕ) (bs : List ℕ)
    → IsUtf8 (take end bs) → end ≤ length bs → (cuts ≡ true → free ≤ width - column)
    → ((i : ℕ) → i < end → ends body (get_or bs i 0) ≡ false) → ((i : ℕ) → i < end → free ≤ i → (get_or bs i 0 == 32) ≡ false)
    → all_pass (goes_on body cuts width) column (chars (take end bs)) ≡ true
run_pass body cuts width column free end bs u l w h n =
    let text = encodes-chars (take end bs) u in
    let few = ap length text in
    let size = length-take-le end bs l in
    all_by_leads (goes_on body cuts width) (Fine body cuts width) (goes_by_lead body cuts width)
    (λ k m b less f. (f.0, λ q e. let r = f.1 q e in omega (arith, r, less)))
    (chars (take end bs)) column (scalars-chars (take end bs) u)
    (λ i v.
    let below : i < end = omega (arith, v, few, size) in
    let is = ap (λ xs. get_or xs i 0) text ∙ get_or-take end bs i 0 below in (
      ap (ends body) is ∙ h i below,
      λ q e. elim (cases_lt i free) [
        | inl less ↦ let r = w q in omega (arith, r, less)
        | inr more ↦ absurd (false≢true (sym (n i below more) ∙ ap (λ b. b == 32) (sym is ∙ e)))
      ],
    ))

narrow_front : (bs : List ℕ) (end : ℕ) → end ≤ length bs → IsNarrow bs 0 end → IsAscii (take end bs)
narrow_front bs end l h i = elim (cases_lt i end) [
  | inl less ↦ let e = get_or-take end bs i 0 less in let low = h i (omega arith) less in omega (arith, e, low)
  | inr more ↦ let size = length-take-le end bs l in let e = get_or_past (take end bs) i 0 (omega (arith, size, more)) in omega (arith, e)
]

begins : (body : Body) (cuts : Bool) (width column free end : ℕ) (bs : List ℕ) (wide : Bool)
    → IsUtf8 bs → end ≤ length bs → (cuts ≡ true → free ≤ width - column)
    → ((i : ℕ) → i < end → ends body (get_or bs i 0) ≡ false) → ((i : ℕ) → i < end → free ≤ i → (get_or bs i 0 == 32) ≡ false)
    → (end < length bs → (ends body (get_or bs end 0) ≡ true) ⊎ (ends_word body (get_or bs end 0) ≡ true))
    → (wide ≡ false → IsNarrow bs 0 end) → Begins body cuts width column bs end wide
begins body cuts width column free end bs wide u l w h n s narrow =
    let whole = run_cut body bs end u l h s in
    record {
      whole = whole;
      pass = run_pass body cuts width column free end bs (IsUtf8-take bs end u whole) l w h n;
      narrow = λ e. narrow_front bs end l (narrow e);
    }

-- at columns that are free
pub begins_free : (body : Body) (cuts : Bool) (width column free end : ℕ) (bs : List ℕ)
    (wide : Bool) → IsUtf8 bs → free ≤ length bs → (cuts ≡ true → free ≤ width - column)
    → RunsTo (ends body) bs 0 free end → (free ≤ end → length bs ≤ free) → (wide ≡ false → IsNarrow bs 0 end) → Begins body cuts width column bs end wide
begins_free body cuts width column free end bs wide u l w run full narrow =
    let inside = run.within in
    begins body cuts width column free end bs wide u (omega (arith, inside, l)) w (λ i v. run.passed i (omega arith) v) (λ i v more. absurd (omega (arith, v, more, inside)))
    (λ v. elim (cases_lt end free) [ inl less ↦ inl (run.stopped less) | inr more ↦ let all = full more in absurd (omega (arith, v, all, more)) ])
    narrow

-- and after them up to a space
pub begins_far : (body : Body) (cuts : Bool) (width column free first end : ℕ) (bs : List ℕ)
    (wide wider : Bool) → IsUtf8 bs → (cuts ≡ true → free ≤ width - column)
    → RunsTo (ends body) bs 0 free first → free ≤ first → RunsTo (ends_word body) bs free (length bs) end
    → (wide ≡ false → IsNarrow bs 0 first) → (wider ≡ false → IsNarrow bs free end) → Begins body cuts width column bs end (wide || wider)
begins_far body cuts width column free first end bs wide wider u w run more word narrow far =
    let inside = word.within in
    let ordered = word.ordered in
    begins body cuts width column free end bs (wide || wider) u inside w
    (λ i v. elim (cases_lt i free) [ inl less ↦ run.passed i (omega arith) (omega (arith, less, more)) | inr on ↦ (word_less body _ (word.passed i on v)).0 ])
    (λ i v on. (word_less body _ (word.passed i on v)).1)
    (λ v. inr (word.stopped v))
    (λ e k low high. let (a, b) = or_parts wide wider e in elim (cases_lt k free) [ inl less ↦ narrow a k low (omega (arith, less, more)) | inr on ↦ far b k on high ])

-- the characters of a text that is cut
pub cut_letters : (n : ℕ) (bs : List ℕ) → IsUtf8 bs → IsCharBoundary bs n
    → chars bs ≡ chars (take n bs) ++ chars (drop n bs)
cut_letters n bs u b = ap chars (sym (take-append-drop n bs)) ∙ chars-append (take n bs) (drop n bs) (IsUtf8-take bs n u b)

-- bytes of no class that ends a run

abbrev class_ends : Body → ℕ → Bool
class_ends body b = (ends body b || nat_le 128 b) || b == 127

by_stops : (body : Body) (b : ℕ) → is_of (stops body) b ≡ false → class_ends body b ≡ false
unfolding class_of
by_stops Open b n = by_class 0x016 (class_ends Open) refl refl b n
by_stops Single b n = by_class 0x036 (class_ends Single) refl refl b n
by_stops Double b n = by_class 0x01E (class_ends Double) refl refl b n
by_stops Ascii b n = by_class 0x01E (class_ends Ascii) refl refl b n

stops_parts : (body : Body) (b : ℕ) → is_of (stops body) b ≡ false
    → (ends body b ≡ false) × (nat_le 128 b ≡ false)
stops_parts body b n = or_parts (ends body b) (nat_le 128 b) (or_parts (ends body b || nat_le 128 b) (b == 127) (by_stops body b n)).0

low_lead : (b : ℕ) → b < 128 → lead b ≡ b
unfolding lead
low_lead b h =
    let e : nat_lt b 128 ≡ true = grind (arith, nat_tests, h) in
    cond-true (nat_lt b 128) b (cond (nat_lt b 2048) (192 + b / 64) (cond (nat_lt b 65536) (224 + b / 4096) (240 + b / 262144))) e

pub class_low : (body : Body) (b : ℕ) → is_of (stops body) b ≡ false → b < 128
class_low body b n =
    let high = (stops_parts body b n).1 in
    elim (cases_lt b 128) [ inl low ↦ low | inr more ↦ absurd (grind (arith, nat_tests, high, more)) ]

pub class_stands : (body : Body) (b : ℕ) → is_of (stops body) b ≡ false → stands body b ≡ true
class_stands body b n =
    let low = class_low body b n in
    stands_by_lead body b (low_scalar b (omega (arith, low))) (ap (ends body) (low_lead b low) ∙ (stops_parts body b n).0)

pub class_spaceless : (b : ℕ) → is_of 1 b ≡ false → (b == 32) ≡ false
class_spaceless b n = no_space b n
