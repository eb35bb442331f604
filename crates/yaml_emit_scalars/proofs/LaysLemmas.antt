-- Laws of what a draft owes of a scalar.
use Rattle.std.proofs.Common.{◌≡◌, refl, ◌∙◌, subst}
use Rattle.yaml_emit_layout.specs.Layout.{Layout, Rest, ◌▹◌, stay}
use Rattle.yaml_emit_layout.proofs.Sinks.{owes_same, owes_then, owes_as}
use Rattle.yaml_emit_output.specs.Draft.{Page as Paper, Lays}
use Rattle.yaml_emit_layout.specs.declared.page.Page.{Page}
use Rattle.yaml_emit_scalars.specs.On.{IsOn}

pub lays_same : (a : Paper) (x : Layout) → Lays a a x x
lays_same a x = record { owes = owes_same a.output x; line_break = refl; width = refl }

pub lays_then : (a b c : Paper) (x y z : Layout) → Lays a b x y → Lays b c y z → Lays a c x z
lays_then a b c x y z p q = record {
  owes = owes_then a.output b.output c.output x y z p.owes q.owes;
  line_break = q.line_break ∙ p.line_break;
  width = q.width ∙ p.width;
}

-- what is owed in other words at the cursor
pub lays_as : (a b : Paper) (x y z : Layout)
    → ((rest : Rest) → x a.output.cursor rest ≡ (y ▹ z) a.output.cursor rest)
    → Lays a b y stay → Lays a b x z
lays_as a b x y z e p = record { owes = owes_as a.output b.output x y z e p.owes; line_break = p.line_break; width = p.width }

-- some of what is owed is written
pub lays_more : (a b c : Paper) (x y z : Layout) → Lays a b x (y ▹ z) → Lays b c y stay
    → Lays a c x z
lays_more a b c x y z p q = lays_then a b c x (y ▹ z) z p (lays_as b c (y ▹ z) y z (λ rest. refl) q)

-- one after the other
pub lays_both : (a b c : Paper) (x y : Layout) → Lays a b x stay → Lays b c y stay
    → Lays a c (x ▹ y) stay
lays_both a b c x y p q = lays_then a b c (x ▹ y) y stay (lays_as a b (x ▹ y) x y (λ rest. refl) p) q

-- the same in other words
pub lays_is : (a b : Paper) (x y : Layout)
    → ((rest : Rest) → y a.output.cursor rest ≡ x a.output.cursor rest) → Lays a b x stay
    → Lays a b y stay
lays_is a b x y e p = lays_as a b y x stay e p

-- what comes next of a walk was written
pub walk_more : (a b c : Paper) (all here step more : Layout) → here ≡ (step ▹ more)
    → Lays a b all here → Lays b c step stay → Lays a c all more
walk_more a b c all here step more e p q = lays_more a b c all step more (subst (λ t. Lays a b all t) e p) q

-- nothing more comes
pub walk_end : (a b : Paper) (all here : Layout) → here ≡ stay → Lays a b all here
    → Lays a b all stay
walk_end a b all here e p = subst (λ t. Lays a b all t) e p

-- it is still on its page
pub on_still : (page : Page) (a b : Paper) (x y : Layout) → IsOn page a → Lays a b x y → IsOn page b
on_still page a b x y h p = record { line_break = p.line_break ∙ h.line_break; width = p.width ∙ h.width; narrow = h.narrow }
