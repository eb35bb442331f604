-- The line of a place, by where it starts.
use Rattle.std.proofs.Common.{◌≡◌, ℕ, zero, suc, ◌+◌, ◌-◌, ◌≤◌, ◌&&◌, leb, List, ap, subst, inl, inr, arith}
use Rattle.std.proofs.lemmas.Bool.{cases_lt}
use Rattle.std.proofs.lemmas.Bool.Decides.{nat_tests}
use Rattle.yaml_scan_model.specs.scan_types.Marks.{line_at, mark_at}
use Rattle.yaml_scan_history.specs.History.{is_fresh}
use Rattle.yaml_scan_core.specs.Lines.{IsLineStart}
use Rattle.yaml_scan_core.specs.declared.keys.SimpleKey.{SimpleKey}
use Rattle.yaml_scan_core.specs.Candidates.{key_mark}

line_on : (text : List ℕ) (p k : ℕ) → line_at text p ≤ line_at text (k + p)
unfolding line_at
line_on text p zero = let z : 0 + p ≡ p = omega arith in rw z (omega arith)
line_on text p (suc k) =
    let z : suc k + p ≡ suc (k + p) = omega arith in
    let before = line_on text p k in
    rw z (omega (arith, before))

-- a later place is on no earlier line
pub line_upto : (text : List ℕ) (p q : ℕ) → p ≤ q → line_at text p ≤ line_at text q
line_upto text p q le =
    let k : q - p + p ≡ q = omega arith in
    subst (λ x. line_at text p ≤ line_at text x) k (line_on text p (q - p))

-- a place is on no earlier line where it isn't before that line's start
pub on_line : (text : List ℕ) (at line i : ℕ) → IsLineStart text at line
    → leb line i ≡ leb (line_at text at) (line_at text i)
on_line text at line i l =
    elim (cases_lt i line) [
      | inl low ↦ let less = l.earlier i low in let same = l.same in grind (arith, nat_tests)
      | inr high ↦ let more = line_upto text line i high in let same = l.same in grind (arith, nat_tests)
    ]

pub fresh_there : (text : List ℕ) (k : SimpleKey) (at line : ℕ) → IsLineStart text at line
    → (leb line k.index && leb at (k.index + 1024)) ≡ is_fresh (key_mark text k) (mark_at text at)
fresh_there text k at line l = ap (λ b. b && leb at (k.index + 1024)) (on_line text at line k.index l)
