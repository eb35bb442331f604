use Rattle.yaml_round_content.proofs.Injective.{says_injective}
use Rattle.yaml_round_content.proofs.ContentInputs.{have_content, say_fronts}
use Rattle.yaml_round_content.proofs.Layouts.{layouts_of_content, content_laid_out}
use Rattle.yaml_round_content.proofs.content_laws.laws_of_contents.Goals as goal

pub returns-clause-says_is_injective : goal.returns-clause-says_is_injective
returns-clause-says_is_injective c = says_injective

pub returns-clause-inputs_have_content : goal.returns-clause-inputs_have_content
returns-clause-inputs_have_content c = have_content

pub returns-clause-inputs_say_fronts : goal.returns-clause-inputs_say_fronts
returns-clause-inputs_say_fronts c = say_fronts

pub returns-clause-layout_is_of_content : goal.returns-clause-layout_is_of_content
returns-clause-layout_is_of_content c = layouts_of_content

pub returns-clause-content_is_laid_out : goal.returns-clause-content_is_laid_out
returns-clause-content_is_laid_out c = content_laid_out
