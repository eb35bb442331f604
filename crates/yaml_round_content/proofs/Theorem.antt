-- Pretty text reads back exactly where the input doesn't begin with nothing.
use Rattle.yaml_emit_laws.proofs.Whole.{text_is_read}
use Rattle.yaml_round_content.specs.PrettyLaws.{PrettyReadsBack, PrettyIsLost}
use Rattle.yaml_round_content.proofs.PrettyJoining.{read_back, lost}

pub pretty_reads_back : PrettyReadsBack
pretty_reads_back = read_back text_is_read

pub pretty_is_lost : PrettyIsLost
pretty_is_lost = lost text_is_read
