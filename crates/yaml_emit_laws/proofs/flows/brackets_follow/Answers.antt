use Rattle.yaml_emit_laws.proofs.FlowBlocks.{brackets_walk}
use Rattle.yaml_scan_history.proofs.NamesRead.{anchor_is_read}
use Rattle.yaml_scan_laws.proofs.Lines.{lone_mark_is_read}
use Rattle.yaml_emit_laws.proofs.Stopping.{has_gap, are_words}
use Rattle.yaml_emit_laws.proofs.PlainStart.{plain_back}
use Rattle.yaml_emit_layout.proofs.Spelled.{quoted-spells}
use Rattle.yaml_emit_laws.proofs.Back.{quoted_back}
use Rattle.yaml_emit_laws.proofs.Ascii.{spelled_ascii}
use Rattle.yaml_emit_laws.proofs.SingleWritten.{single_back}
use Rattle.yaml_emit_laws.proofs.Parts.{single_spelling_reads}
use Rattle.yaml_emit_laws.proofs.TagsReading.{split_read}
use Rattle.yaml_emit_laws.proofs.Styles.{styles_allowed}
use Rattle.yaml_emit_laws.proofs.Joining.{written_readable}
use Rattle.yaml_emit_laws.proofs.flows.brackets_follow.Goals as goal

pub returns : goal.returns
returns c = brackets_walk record {
  names = anchor_is_read;
  lone = lone_mark_is_read;
  split = split_read;
  ascii = spelled_ascii;
  readable = written_readable;
  quoted = (quoted_back quoted-spells);
  singles = (single_back single_spelling_reads);
  plains = plain_back;
  gaps = has_gap;
  words = are_words;
  styles = styles_allowed;
}
