-- What the call answers is what C receives.
use Rattle.std.proofs.Common.{inl, refl}
use Rattle.std.specs.Prelude.{Ok}
use Rattle.yaml_parse.specs.scan_types.Faults.{fault_of, load_layers}
use Rattle.yaml_parse.specs.declared.yaml_origin_t.TheVariants.{Loader}
use Rattle.yaml_round.specs.round_engine.Checking.{IsChecked}
use Rattle.yaml_round_answers.specs.Normalizes.{TellsDone}
use Rattle.yaml_round_answers.proofs.Refusing.{refused_answer}
use Rattle.yaml_round_answers.proofs.normalizing.check_answer.Goals as goal

pub returns-in-Ok : goal.returns-in-Ok
returns-in-Ok c = record { result = Ok tt; is = c.in-Ok.ensures; told = c.said.ensures }

pub returns-in-Err : goal.returns-in-Err
returns-in-Err c =
    refused_answer load_layers Loader (IsChecked c.args.from c.args.input.now) TellsDone (fault_of c.in-Err.fault) _ (inl refl) (λ g t. t) c.in-Err.ensures
    c.refused.ensures
