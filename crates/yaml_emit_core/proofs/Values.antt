-- Scalars, as one word or not.
use Rattle.std.proofs.Common.{◌≡◌, subst}
use Rattle.yaml_emit_layout.specs.Layout.{Layout, stay}
use Rattle.yaml_emit_output.specs.Draft.{Page as Paper, Lays}

-- after a call that put nothing
pub unmoved_lays : (a b c : Paper) (x : Layout) → b ≡ a → Lays b c x stay → Lays a c x stay
unmoved_lays a b c x e p = let P : Paper → Type 0 = λ z. Lays z c x stay in subst P e p
