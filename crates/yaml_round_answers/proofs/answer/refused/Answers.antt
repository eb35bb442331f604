-- The fault with its line, or out of memory without.
use mir.Syntax.{w32}
use mir.Val.{SFits}
use Rattle.std.proofs.Common.{inl, inr, subst, rules}
use Rattle.std.proofs.lemmas.Int.{to_z-of_z}
use Rattle.yaml_parse.specs.scan_types.Faults.{fault_of}
use Rattle.yaml_round_answers.specs.Told.{TellsFault, TellsStarved}
use Rattle.yaml_round_answers.proofs.Refusing.{starved}
use Rattle.yaml_round_answers.proofs.answer.refused.Goals as goal

pub returns-in-Ok : goal.returns-in-Ok
returns-in-Ok c =
    let fits : SFits w32 c.args.second = search rules in
    inl (subst (λ m. TellsFault (fault_of c.args.fault.now) m c.fault_told.result) (to_z-of_z w32 c.args.second fits) c.fault_told.ensures)

pub returns-in-Err : goal.returns-in-Err
returns-in-Err c =
    let fits : SFits w32 c.args.second = search rules in
    inr (subst (λ m. TellsStarved m c.fault_told-in-Err.result) (to_z-of_z w32 c.args.second fits)
    (starved c.in-Err.refusal _ _ c.in-Err.ensures.memory c.fault_told-in-Err.ensures))
