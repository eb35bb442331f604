-- The bound on steps is never met.
use Rattle.std.proofs.Common.{◌≡◌, ℕ, zero, suc, ◌+◌, ◌-◌, ◌<◌, ◌≤◌, ◌==◌, ◌||◌, Bool, false, List, length, Result, refl, sym, ap, subst, ◌∙◌, arith, rules}
use Rattle.yaml_scan_history.proofs.BlockWords.{cases_Bool, nat_tests, break_of, column_at, Wrong, within, spaces, LineSpot, Stops, Line, Tab, spot_behind, line_spot, Lines, with_line, line_then, lines_from, AreLinesFrom, stops, goes_on, has_tab, LinesAre, LinesAreOne, ltb-true}
use Rattle.yaml_scan_history.proofs.BlockLemmas.{text_long}

break_first : (b c d : ℕ) → 0 < break_of b c d → 0 < b
unfolding break_of
break_first b c d h = grind (arith, nat_tests)

some_byte : (b : ℕ) (other : Bool) → (b == 0 || other) ≡ false → 0 < b
some_byte b other h = grind arith

-- a line moves the place
abbrev Moves : List ℕ → ℕ → LineSpot → Type 0
Moves text p (Stops q) = Unit {0}
Moves text p (Line l q) = (p < q) × (p < length text)
Moves text p (Tab q) = Unit {0}

behind_moves : (c : ℕ) (text : List ℕ) (p q : ℕ) → p ≤ q → Moves text p (spot_behind c text q)
unfolding spot_behind
behind_moves c text p q le = search (rules, break_first, cases_Bool, ltb-true, some_byte, text_long, within)

moves : (c : ℕ) (text : List ℕ) (p : ℕ) → Moves text p (line_spot c text p)
moves c text p = behind_moves c text p (p + spaces (c - column_at text p) text p) (omega arith)

lines_by : (d c : ℕ) (text : List ℕ) (end p : ℕ) (s : LineSpot) → line_spot c text p ≡ s
    → length text ≤ p + d → AreLinesFrom c text end p (lines_from (suc d) c text end p)
unfolding lines_from
lines_by d c text end p (Stops q) e room = subst (λ (x : LineSpot). AreLinesFrom c text end p (line_then (λ q. lines_from d c text q q) end x)) (sym e) (stops end p q e)
lines_by d c text end p (Tab q) e room = subst (λ (x : LineSpot). AreLinesFrom c text end p (line_then (λ q. lines_from d c text q q) end x)) (sym e) (has_tab end p q e)
lines_by zero c text end p (Line l q) e room =
    let (far, inside) = subst (λ (x : LineSpot). Moves text p x) e (moves c text p) in absurd (omega (arith, inside, room))
lines_by (suc d) c text end p (Line l q) e room =
    let (far, inside) = subst (λ (x : LineSpot). Moves text p x) e (moves c text p) in
    subst (λ (x : LineSpot). AreLinesFrom c text end p (line_then (λ q. lines_from (suc d) c text q q) end x)) (sym e)
    (goes_on end p q l (lines_from (suc d) c text q q) e (lines_by d c text q q (line_spot c text q) refl (omega (arith, far, room))))

one : (c : ℕ) (text : List ℕ) (end p : ℕ) (r : Result Lines Wrong) → AreLinesFrom c text end p r
    → (d : ℕ) → length text ≤ p + d → lines_from (suc d) c text end p ≡ r
unfolding lines_from
one c text end p r (stops f x q e) d room = ap (λ (s : LineSpot). line_then (λ q. lines_from d c text q q) f s) e
one c text end p r (has_tab f x q e) d room = ap (λ (s : LineSpot). line_then (λ q. lines_from d c text q q) f s) e
one c text end p r (goes_on f x q l rest e h) zero room =
    let (far, inside) = subst (λ (s : LineSpot). Moves text x s) e (moves c text x) in absurd (omega (arith, inside, room))
one c text end p r (goes_on f x q l rest e h) (suc d) room =
    let (far, inside) = subst (λ (s : LineSpot). Moves text x s) e (moves c text x) in
    ap (λ (s : LineSpot). line_then (λ q. lines_from (suc d) c text q q) f s) e ∙ ap (λ (z : Result Lines Wrong). with_line l z) (one c text q q rest h d (omega (arith, far, room)))

pub lines_are : LinesAre
lines_are c text end p = lines_by (length text) c text end p (line_spot c text p) refl (omega arith)

pub lines_are_one : LinesAreOne
lines_are_one c text end p r h = sym (one c text end p r h (length text) (omega arith))
