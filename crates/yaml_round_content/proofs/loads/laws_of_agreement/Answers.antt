use Rattle.yaml_round_content.proofs.Names.{loads_of_renamings}
use Rattle.yaml_round_content.proofs.Walks.{agreeing_said}
use Rattle.yaml_round_content.proofs.loads.laws_of_agreement.Goals as goal

pub returns-clause-loads_of_renamed : goal.returns-clause-loads_of_renamed
returns-clause-loads_of_renamed c =
    loads_of_renamings

pub returns-clause-agreeing_say_the_same : goal.returns-clause-agreeing_say_the_same
returns-clause-agreeing_say_the_same c =
    agreeing_said
