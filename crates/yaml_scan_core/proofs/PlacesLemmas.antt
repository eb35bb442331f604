-- Places of a text, and the starts of their lines.
use Rattle.std.proofs.Common.{◌≡◌, ℕ, ◌+◌, ◌-◌, ◌<◌, ◌≤◌, true, false, ltb, List, length, refl, sym, ◌∙◌, inl, inr, arith}
use Rattle.yaml_scan_core.proofs.Words.{cases_lt, nat_tests, mark_at, starts, line_at, column_at, byte}
use Rattle.yaml_scan_model.specs.scan_types.Marks.{break_width, ends_break}
use Rattle.yaml_scan_model.proofs.MarksLemmas.{line_more, column_more, end_next, split_next, past_break, widths, two, three, no_break, within}
use Rattle.yaml_scan_core.specs.Scanning.{IsPlace}
use Rattle.yaml_scan_core.specs.Shown.{place_mark}
use Rattle.yaml_scan_core.proofs.LinesLemmas.{line_upto}

-- after a byte that is a character and no break
pub place_on : (text : List ℕ) (at line wide : ℕ) → IsPlace text at line wide → at < length text
    → break_width text at ≡ 0 → starts (byte text at) ≡ true → IsPlace text (at + 1) line wide
place_on text at line wide p lt none first =
    let e = end_next text at p.whole none in
    record {
      inside = omega arith;
      whole = split_next text at p.whole none;
      begins = record {
        before = omega (arith, p.begins.before);
        same = p.begins.same ∙ sym (line_more text at e);
        earlier = p.begins.earlier;
      };
      column = omega (arith, column_more text at e first, p.column);
    }

-- no line starts within a break
within_break : (text : List ℕ) (at i : ℕ) → 0 < break_width text at
    → i < at + break_width text at → line_at text i ≤ line_at text at
within_break text at i some lt =
    let x = byte text (at - 2) in
    let y = byte text (at - 1) in
    let e1 : at + 1 - 1 ≡ at = omega arith in
    let e2 : at + 1 - 2 ≡ at - 1 = omega arith in
    let e3 : at + 1 + 1 ≡ at + 2 = omega arith in
    elim (cases_lt at i) [
      | inr low ↦ line_upto text i at low
      | inl high ↦ elim (widths (byte text at) (byte text (at + 1)) (byte text (at + 2))) [
        | inl z ↦ absurd (omega (arith, z))
        | inr (inl z) ↦ absurd (omega (arith, z, high, lt))
        | inr (inr (inl z)) ↦
            let (e, f, s, l) = two x y (byte text at) (byte text (at + 1)) (byte text (at + 2)) (byte text (at + 3)) z in
            let same : i ≡ at + 1 = omega (arith, z, high, lt) in
            rw same (omega (arith, line_more text at e))
        | inr (inr (inr z)) ↦
            let (e, f, g, s, l) = three x y (byte text at) (byte text (at + 1)) (byte text (at + 2)) (byte text (at + 3)) (byte text (at + 4)) z in
            let one = line_more text at e in
            let f2 : ends_break text (at + 1) ≡ false = rw (e1, e2, e3) f in
            let two : line_at text (at + 1 + 1) ≡ line_at text (at + 1) = line_more text (at + 1) f2 in
            elim (cases_lt (at + 1) i) [
              | inr near ↦ let same : i ≡ at + 1 = omega (arith, near, high) in rw same (omega (arith, one))
              | inl far ↦ let same : i ≡ at + 1 + 1 = omega (arith, z, far, lt) in rw same (omega (arith, one, two))
            ]
      ]
    ]

-- after a break
pub place_behind : (text : List ℕ) (at line wide : ℕ) → IsPlace text at line wide
    → 0 < break_width text at → let q = at + break_width text at in IsPlace text q q 0
place_behind text at line wide p some =
    let b = past_break text at some in
    let q = at + break_width text at in
    record {
      inside = b.inside;
      whole = b.whole;
      begins = record {
        before = omega arith;
        same = refl;
        earlier = λ i lt. omega (arith, within_break text at i some lt, b.line);
      };
      column = omega (arith, b.column);
    }

-- a place in the text has its own mark
pub mark_of_place : (text : List ℕ) (p : ℕ) → p ≤ length text → place_mark text p ≡ mark_at text p
mark_of_place text p le = let no_more : ltb (length text) p ≡ false = grind (arith, nat_tests) in rw no_more refl

pub place_column : (text : List ℕ) (at line wide : ℕ) → IsPlace text at line wide
    → at - line - wide ≡ column_at text at
place_column text at line wide p = omega (arith, p.column)

-- after a byte of ASCII that is no control
pub byte_place : (text : List ℕ) (at line wide b : ℕ) → IsPlace text at line wide
    → byte text at ≡ b → 13 < b → b < 128 → IsPlace text (at + 1) line wide
byte_place text at line wide b p is low high =
    let x = byte text at in
    let none : break_width text at ≡ 0 = no_break x (byte text (at + 1)) (byte text (at + 2)) (λ e. absurd (omega (arith, e, is, low))) (λ e. absurd (omega (arith, e, is, low))) (λ e. absurd (omega (arith, e, is, high))) (λ e. absurd (omega (arith, e, is, high))) in
    let first : starts x ≡ true = rw is (grind (arith, nat_tests)) in
    place_on text at line wide p (within text at (omega (arith, is, low))) none first
