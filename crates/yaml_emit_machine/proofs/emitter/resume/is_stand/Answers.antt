use Rattle.std.proofs.Common.{sym, ◌∙◌}
use Rattle.std.proofs.lemmas.Bool.{and_parts}
use Rattle.yaml_emit_machine.proofs.Stands.{stands_outside, stands_inside}
use Rattle.yaml_emit_machine.proofs.emitter.resume.is_stand.Goals as goal

pub returns-in-None : goal.returns-in-None
returns-in-None c = λ _. stands_outside _ _ c.in-None.is

pub returns-in-Some : goal.returns-in-Some
returns-in-Some c = λ h.
    let p = and_parts _ _ h in
    let q = and_parts _ _ p.0 in
    stands_inside _ _ _ c.in-Some.is (c.may_be_open.ensures q.0 _) (sym c.is_narrow.ensures ∙ q.1) (sym c.are_narrow.ensures ∙ p.1)
