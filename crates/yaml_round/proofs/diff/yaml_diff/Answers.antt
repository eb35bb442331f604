-- The place is that of the inputs. Not searched for, so that a wrong value fails by its type, at once.
use Rattle.std.proofs.Common.{subst, refl, Bool, Ok}
use Rattle.yaml_round_engine.specs.Compare.{WhereDifferent}
use Rattle.yaml_round_engine.specs.Differences.{IsParting}
use Rattle.yaml_round.proofs.diff.yaml_diff.Goals as goal

pub returns-in-Ok-true : goal.returns-in-Ok-true
returns-in-Ok-true c = c.in-Ok-true.ensures.same.told.0 c.in-Ok-true.field-0-test

pub returns-in-Ok-false : goal.returns-in-Ok-false
returns-in-Ok-false c =
    let parts = IsParting c.args.a_encoding c.args.a.now c.args.b_encoding c.args.b.now c.same_inputs.new.trail.place in
    subst (λ (same : Bool). WhereDifferent (Ok same) parts) c.in-Ok-false.field-0-test
    (c.in-Ok-false.ensures.parting record { kept = refl; path = c.new-trail.ensures })

pub returns-in-Err : goal.returns-in-Err
returns-in-Err c = c.in-Err.ensures.same
