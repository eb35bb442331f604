use Rattle.yaml_round_content.proofs.Flags.{are_flagged, layout_of_input, input_laid_out}
use Rattle.yaml_round_content.proofs.Layouts.{layouts_of_content, content_laid_out}
use Rattle.yaml_round_content.proofs.Utf8.{input_utf8}
use Rattle.yaml_round_content.proofs.writable_laws.laws_of_writing.Goals as goal

pub returns-clause-inputs_are_flagged : goal.returns-clause-inputs_are_flagged
returns-clause-inputs_are_flagged c = are_flagged

pub returns-clause-layout_is_of_inputs_content : goal.returns-clause-layout_is_of_inputs_content
returns-clause-layout_is_of_inputs_content c = layout_of_input layouts_of_content

pub returns-clause-inputs_content_is_laid_out : goal.returns-clause-inputs_content_is_laid_out
returns-clause-inputs_content_is_laid_out c = input_laid_out content_laid_out

pub returns-clause-inputs_have_utf8 : goal.returns-clause-inputs_have_utf8
returns-clause-inputs_have_utf8 c = input_utf8
