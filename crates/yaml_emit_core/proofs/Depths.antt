-- An indentation that is too deep.
use Rattle.std.proofs.Common.{◌≡◌, ℕ, ◌<◌, ◌≤◌, true, false, ap, arith}
use Rattle.std.specs.Prelude.{nat_lt}
use Rattle.std.proofs.lemmas.Bool.Decides.{nat_tests}
use Rattle.yaml_emit_layout.specs.Layout.{stay, too_deep}
use Rattle.yaml_emit_layout.specs.Sink.{Puts}
use Rattle.yaml_emit_layout.specs.Nodes.{MOST, checked, deep_if}
use Rattle.yaml_emit_output.specs.Draft.{Page as Paper, Lays}
use Rattle.yaml_emit_scalars.proofs.LaysLemmas.{lays_is}

deep_test : (n : ℕ) → MOST < n → nat_lt MOST n ≡ true
deep_test n h = grind (arith, nat_tests, h)

pub calm_test : (n : ℕ) → n ≤ MOST → nat_lt MOST n ≡ false
calm_test n h = grind (arith, nat_tests, h)

pub deep_lays : (n : ℕ) (a b : Paper) → MOST < n → Puts a.output b.output too_deep
    → (b.line_break ≡ a.line_break) × (b.width ≡ a.width) → Lays a b (checked n) stay
deep_lays n a b h p s =
    lays_is a b too_deep (checked n) (λ rest. ap (λ z. deep_if z (rest a.output.cursor)) (deep_test n h)) (record { owes = p; line_break = s.0; width = s.1 })
