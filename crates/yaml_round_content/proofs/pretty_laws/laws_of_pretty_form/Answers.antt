use Rattle.yaml_round_content.proofs.InputTexts.{layout_writable}
use Rattle.yaml_round_content.proofs.PrettyJoining.{follows}
use Rattle.yaml_round_content.proofs.Bytes.{bytes_decode}
use Rattle.yaml_round_content.proofs.Theorem.{pretty_reads_back, pretty_is_lost}
use Rattle.yaml_round_content.proofs.pretty_laws.laws_of_pretty_form.Goals as goal

pub returns-clause-inputs_layout_is_writable : goal.returns-clause-inputs_layout_is_writable
returns-clause-inputs_layout_is_writable c = layout_writable

pub returns-clause-pretty_follows : goal.returns-clause-pretty_follows
returns-clause-pretty_follows c = follows

pub returns-clause-pretty_bytes_decode : goal.returns-clause-pretty_bytes_decode
returns-clause-pretty_bytes_decode c = bytes_decode

pub returns-clause-pretty_reads_back : goal.returns-clause-pretty_reads_back
returns-clause-pretty_reads_back c = pretty_reads_back

pub returns-clause-pretty_is_lost : goal.returns-clause-pretty_is_lost
returns-clause-pretty_is_lost c = pretty_is_lost
