use mir.Syntax.{w32}
use mir.Val.{to_z, of_z}
use Rattle.std.proofs.Common.{◌∷◌, ◌+◌, ◌∙◌, refl, rules, ap, reverse}
use Rattle.std.specs.Prelude.{ℤ}
use Rattle.std.proofs.lemmas.Int.{to_z-of_z}
use Rattle.yaml_emit_graph.specs.declared.walk.Open.{Open}
use Rattle.yaml_emit_graph.proofs.Walking.{stack_more, none_popped, leave_comes, child_met}
use Rattle.yaml_emit_graph.proofs.walk.Walk.step.Goals as goal

pub returns-in_default : goal.returns-in_default
returns-in_default g c = none_popped _ c.args.self.now (record c.args.self.now { stack = c.pop.new.self }) _ c.in_default.not-Some c.pop.ensures.cases c.requires.going c.requires.walk refl c.requires.going

pub returns-in_default-next_child : goal.returns-in_default-next_child
returns-in_default-next_child g c =
    let from = c.in-Some.from in
    let gone = leave_comes _ c.args.self.now (record c.args.self.now { stack = c.pop.new.self }) from c.requires.going (stack_more _ _ from c.in-Some.ensures.items) c.requires.walk c.in_default-next_child.ensures refl c.requires.going in
    rw (to_z-of_z w32 from.node (search rules)) gone

pub returns : goal.returns
returns g c =
    let from = c.in-Some.from in
    let child = c.in-Some-next_child.child in
    let os = reverse c.pop.new.self.items in
    let P : ℤ → Open = λ z. record { node = z; index = from.index + 1 } in
    child_met _ c.args.self.now (record c.args.self.now { stack = c.push.new.self }) _ from child _ c.requires.going os (stack_more _ _ from c.in-Some.ensures.items) c.requires.walk
    (stack_more _ _ (P (to_z w32 (of_z w32 from.node))) c.in_ok-push.ensures.items ∙ ap (λ z. P z ∷ os) (to_z-of_z w32 from.node (search rules)))
    refl c.requires.going c.in-Some-next_child.ensures (to_z w32 (of_z w32 child)) (to_z-of_z w32 child (search rules)) c.in_ok-visit.ensures
