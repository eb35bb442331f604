-- The answer is that of the input's text.
use Rattle.yaml_round_answers.proofs.parsing.fronted.Goals as goal

pub returns : goal.returns
returns c = rw c.read_text-text.ensures at c.listed_in-end.ensures
