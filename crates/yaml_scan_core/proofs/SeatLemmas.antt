-- Where a place's line starts, and how many bytes of it continue a character.
use Rattle.std.proofs.Common.{◌≡◌, ℕ, zero, suc, ◌+◌, ◌-◌, ◌<◌, ◌≤◌, true, false, cond, List, length, refl, sym, ap, subst, ◌∙◌, inl, inr, arith}
use Rattle.yaml_scan_core.proofs.Words.{cases_Bool, cases_lt, nat_tests, splits_break, starts, line_at, column_at, byte}
use Rattle.yaml_scan_model.specs.scan_types.Marks.{break_width, ends_break}
use Rattle.yaml_scan_model.specs.Runs.{columns_over}
use Rattle.yaml_scan_text.specs.Lines.{line_start}
use Rattle.yaml_scan_text.specs.QuotedRead.{ArePlain}
use Rattle.yaml_scan_core.specs.Lines.{IsLineStart}
use Rattle.yaml_scan_core.specs.Scanning.{IsPlace}
use Rattle.yaml_scan_core.proofs.LinesLemmas.{line_upto}
use Rattle.yaml_scan_core.proofs.PlacesLemmas.{place_on}

-- ---- where a line starts

one_more : (text : List ℕ) (p : ℕ) → ends_break text p ≡ false
    → line_at text (suc p) ≡ line_at text p
unfolding line_at
one_more text p n = let z : line_at text p + 0 ≡ line_at text p = omega arith in rw n z

start_on : (text : List ℕ) (p line : ℕ) → ends_break text p ≡ false → IsLineStart text p line
    → IsLineStart text (suc p) line
start_on text p line n l = record {
  before = omega (arith, l.before);
  same = l.same ∙ sym (one_more text p n);
  earlier = l.earlier;
}

pub start_line : (text : List ℕ) (p : ℕ) → IsLineStart text p (line_start text p)
unfolding line_start line_at
start_line text zero = record { before = omega arith; same = refl; earlier = λ i lt. absurd (omega arith) }
start_line text (suc p) = elim (cases_Bool (ends_break text p)) [
  | inl e ↦ rw e (record {
    before = omega arith;
    same = refl;
    earlier = λ i lt. let up = line_upto text i p (omega arith) in let last : line_at text (suc p) ≡ line_at text p + 1 = rw e refl in omega arith;
  })
  | inr n ↦ rw n (start_on text p (line_start text p) n (start_line text p))
]

pub line_is : (text : List ℕ) (p line : ℕ) → IsLineStart text p line → line ≡ line_start text p
line_is text p line l =
    let m = start_line text p in
    elim (cases_lt line (line_start text p)) [
      | inl lt ↦ absurd (omega (arith, m.earlier line lt, l.same, m.same))
      | inr ge ↦ elim (cases_lt (line_start text p) line) [
        | inl lt ↦ absurd (omega (arith, l.earlier (line_start text p) lt, l.same, m.same))
        | inr le ↦ omega arith
      ]
    ]

-- the places of a line from its start on
pub same_start : (text : List ℕ) (p q line : ℕ) → IsLineStart text q line → line ≤ p → p ≤ q
    → IsLineStart text p line
same_start text p q line l first last = record {
  before = first;
  same = omega (arith, line_upto text line p first, line_upto text p q last, l.same);
  earlier = l.earlier;
}

column_first : (text : List ℕ) (p : ℕ) → column_at text (line_start text p) ≡ 0
unfolding line_start column_at
column_first text zero = refl
column_first text (suc p) = elim (cases_Bool (ends_break text p)) [
  | inl e ↦ rw e (rw e refl)
  | inr n ↦ rw n (column_first text p)
]

-- ---- columns

columns_from : (d : ℕ) (text : List ℕ) (p : ℕ) → line_at text (p + d) ≡ line_at text p
    → column_at text (p + d) ≡ column_at text p + columns_over d text p
unfolding columns_over column_at line_at
columns_from zero text p same = let z : p + 0 ≡ p = omega arith in rw z (omega arith)
columns_from (suc d) text p same =
    let e : p + suc d ≡ suc (p + d) = omega arith in
    let up = line_upto text p (p + d) (omega arith) in
    let here : line_at text (suc (p + d)) ≡ line_at text p = rw e at same in
    elim (cases_Bool (ends_break text (p + d))) [
      | inl y ↦
          let more : line_at text (suc (p + d)) ≡ line_at text (p + d) + 1 = rw y refl in
          absurd (omega arith)
      | inr n ↦
          let still : line_at text (suc (p + d)) ≡ line_at text (p + d) + 0 = rw n refl in
          let before = columns_from d text p (omega arith) in
          let one : column_at text (suc (p + d)) ≡ column_at text (p + d) + cond (starts (byte text (p + d))) 1 0 = rw n refl in
          rw e (omega (arith, one, before))
    ]

pub columns_all : (d : ℕ) (text : List ℕ) (p : ℕ)
    → ((k : ℕ) → p ≤ k → k < p + d → starts (byte text k) ≡ true)
    → columns_over d text p ≡ d
unfolding columns_over
columns_all zero text p each = refl
columns_all (suc d) text p each =
    let here : starts (byte text (p + d)) ≡ true = each (p + d) (omega arith) (omega arith) in
    let before = columns_all d text p (λ k a b. each k a (omega arith)) in
    rw here (omega (arith, before))

-- ---- places reached from a place

pub counted_none : (text : List ℕ) (p q : ℕ) → p ≤ q
    → ((k : ℕ) → p ≤ k → k < q → starts (byte text k) ≡ true)
    → 0 + columns_over (q - p) text p ≡ q - p
counted_none text p q le each =
    let e : p + (q - p) ≡ q = omega arith in
    omega (arith, columns_all (q - p) text p (λ k a b. each k a (omega (arith, b, e))))

columns_to : (text : List ℕ) (p q : ℕ) → p ≤ q → line_at text q ≡ line_at text p
    → column_at text q ≡ column_at text p + columns_over (q - p) text p
columns_to text p q le same =
    let e : p + (q - p) ≡ q = omega arith in
    let here : line_at text (p + (q - p)) ≡ line_at text p = rw e same in
    ap (λ x. column_at text x) (sym e) ∙ columns_from (q - p) text p here

-- a place in the line of one before it
pub seat_on : (text : List ℕ) (p line wide q l w : ℕ) → IsPlace text p line wide → p ≤ q
    → q ≤ length text
    → splits_break text q ≡ false → l ≡ line_start text q → l ≤ p
    → w + columns_over (q - p) text p ≡ q - p → IsPlace text q l (wide + w)
seat_on text p line wide q l w place on inside whole own low count =
    let begins : IsLineStart text q l = subst (λ x. IsLineStart text q x) (sym own) (start_line text q) in
    let there = same_start text p q l begins low on in
    let same : l ≡ line = line_is text p l there ∙ sym (line_is text p line place.begins) in
    let column = columns_to text p q on (sym begins.same ∙ there.same) in
    record {
      inside = inside;
      whole = whole;
      begins = begins;
      column = omega (arith, column, count, place.column, same);
    }

-- a place in a line after
pub seat_next : (text : List ℕ) (q l w : ℕ) → q ≤ length text → splits_break text q ≡ false
    → l ≡ line_start text q
    → w + columns_over (q - l) text l ≡ q - l → IsPlace text q l w
seat_next text q l w inside whole own count =
    let begins : IsLineStart text q l = subst (λ x. IsLineStart text q x) (sym own) (start_line text q) in
    let first : column_at text l ≡ 0 = ap (λ x. column_at text x) own ∙ column_first text q in
    let column = columns_to text l q begins.before (sym begins.same) in
    record {
      inside = inside;
      whole = whole;
      begins = begins;
      column = omega (arith, column, count, first, begins.before);
    }

pub line_before : (text : List ℕ) (q l : ℕ) → l ≡ line_start text q → l ≤ q
line_before text q l own = omega (arith, own, (start_line text q).before)

-- after bytes of ASCII that are no breaks
plain_over : (d : ℕ) (text : List ℕ) (p line wide : ℕ) → IsPlace text p line wide
    → p + d ≤ length text
    → ((k : ℕ) → p ≤ k → k < p + d → (0 < byte text k) × (byte text k < 128) × (break_width text k ≡ 0))
    → IsPlace text (p + d) line wide
plain_over zero text p line wide place inside each = let z : p + 0 ≡ p = omega arith in rw z place
plain_over (suc d) text p line wide place inside each =
    let e : p + suc d ≡ p + d + 1 = omega arith in
    let before = plain_over d text p line wide place (omega arith) (λ k a b. each k a (omega arith)) in
    let (some, ascii, none) = each (p + d) (omega arith) (omega arith) in
    let first : starts (byte text (p + d)) ≡ true = grind (arith, nat_tests) in
    rw e (place_on text (p + d) line wide before (omega arith) none first)

pub plain_place : (text : List ℕ) (p q line wide : ℕ) → IsPlace text p line wide → q ≤ length text
    → ArePlain text p q
    → IsPlace text q line wide
plain_place text p q line wide place inside plain =
    let on = plain.forward in
    let e : p + (q - p) ≡ q = omega arith in
    subst (λ x. IsPlace text x line wide) e (plain_over (q - p) text p line wide place (omega arith) (λ k a b. plain.each k a (omega (arith, b, e))))
