-- The law of pretty text, joined from the laws beneath.
use Rattle.yaml_emit_laws.proofs.NodeWords.{anchor_is_read, lone_mark_is_read, quoted_is_back, split_read, written_readable, written_directives, spelled_ascii, directive_ascii, plain_back, has_gap, stands, are_words, quoted_stands, NodesAreWalked, LeavesAreWalked, BlockScalarsAreWalked, BracketsAreWalked, PropertiesAreWalked, KeysAreWalkedIn, PrettyTextIsRead}
use Rattle.yaml_scan_laws.proofs.Directives.{version_is_read}
use Rattle.yaml_emit_laws.proofs.Parts.{single_spelling_reads}
use Rattle.yaml_emit_laws.proofs.TagsLines.{directive_read}
use Rattle.yaml_emit_laws.proofs.SingleWritten.{single_back}
use Rattle.yaml_emit_laws.proofs.Styles.{styles_allowed}
use Rattle.yaml_emit_laws.proofs.SpokenWords.{plain_on, single_on}
use Rattle.yaml_emit_laws.proofs.LeafNodes.{leaves_on, blocks_on}
use Rattle.yaml_emit_laws.proofs.LeafProps.{properties_on}
use Rattle.yaml_emit_laws.proofs.KeyLeaves.{keys_walk, keys_walk_in}
use Rattle.yaml_emit_laws.proofs.FlowBlocks.{brackets_walk}
use Rattle.yaml_emit_laws.proofs.NodeBlocks.{nodes_walk}
use Rattle.yaml_emit_laws.proofs.DocDirectives.{documents_read}

leaves : LeavesAreWalked
leaves = leaves_on (plain_on has_gap stands are_words) (single_on (quoted_stands single_spelling_reads) are_words) quoted_is_back styles_allowed has_gap

blocks : BlockScalarsAreWalked
blocks = blocks_on has_gap

properties : PropertiesAreWalked
properties = properties_on

keys_in : KeysAreWalkedIn
keys_in = keys_walk_in (record { gaps = has_gap; words = are_words; singles = single_back single_spelling_reads; styles = styles_allowed })

brackets : BracketsAreWalked
brackets = brackets_walk (record {
  names = anchor_is_read;
  lone = lone_mark_is_read;
  split = split_read;
  ascii = spelled_ascii;
  readable = written_readable;
  quoted = quoted_is_back;
  singles = single_back single_spelling_reads;
  plains = plain_back;
  gaps = has_gap;
  words = are_words;
  styles = styles_allowed;
}) keys_in properties

pub nodes_are_walked : NodesAreWalked
nodes_are_walked = nodes_walk leaves blocks brackets properties (keys_walk (record { gaps = has_gap; words = are_words; singles = single_back single_spelling_reads; styles = styles_allowed }))

pub text_is_read : PrettyTextIsRead
text_is_read = documents_read (record { versions = version_is_read; reads = directive_read; ascii = directive_ascii; readable = written_directives }) nodes_are_walked
