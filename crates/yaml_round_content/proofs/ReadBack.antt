-- The laws of canonical text, joined from the laws beneath.
use Rattle.yaml_round_content.proofs.ReadBackWords.{YAML_ANY_ENCODING, canonical_layout, LayoutIsOfInputsContent, InputsContentIsLaidOut, layouts_of_content, content_laid_out, written_readable, CanonIsScanned, CanonReadsBack, CanonTellsContents, CanonicalReadsBack, CanonTellsInputs, CanonIsLaidOutAgain}
use Rattle.yaml_round_content.proofs.Injective.{says_injective}
use Rattle.yaml_round_content.proofs.Flags.{layout_of_input, input_laid_out}
use Rattle.yaml_round_content.proofs.WritableContents.{are_writable}
use Rattle.yaml_emit_laws.proofs.TextWhole.{text_is_read}
use Rattle.yaml_round_content.proofs.CanonicalJoining.{bytes_decode}
use Rattle.yaml_round_content.proofs.Passing.{tokens_pass}
use Rattle.yaml_round_content.proofs.ReadBackSaying.{tokens_say}
use Rattle.yaml_round_content.proofs.ReadBackJoining.{canon_scanned, canon_read_back, canon_tells}

-- ---- of contents

pub is_scanned : CanonIsScanned
is_scanned = canon_scanned bytes_decode text_is_read

pub reads_back : CanonReadsBack
reads_back = canon_read_back is_scanned written_readable tokens_pass tokens_say

pub tells_contents : CanonTellsContents
tells_contents = canon_tells reads_back says_injective

-- ---- of inputs

pub inputs_read_back : CanonicalReadsBack
inputs_read_back from input c h w canonical = reads_back w canonical c (are_writable from input c h)

pub tells_inputs : CanonTellsInputs
tells_inputs w canonical a_from b_from a b c e h k same = tells_contents w canonical c e (are_writable a_from a c h) (are_writable b_from b e k) same

pub layout_is_of_input : LayoutIsOfInputsContent
layout_is_of_input = layout_of_input layouts_of_content

input_is_laid_out : InputsContentIsLaidOut
input_is_laid_out = input_laid_out content_laid_out

pub is_laid_out_again : CanonIsLaidOutAgain
is_laid_out_again from input c h w k = input_is_laid_out w k YAML_ANY_ENCODING (canonical_layout w c) c (inputs_read_back from input c h w k.canonical)
