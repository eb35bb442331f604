use Rattle.yaml_round_content.proofs.DumpsContents.{loads_of_contents}
use Rattle.yaml_round_content.proofs.loads.loads_of_content.Goals as goal

pub returns : goal.returns
returns c =
    loads_of_contents
