use Rattle.yaml_emit_laws.proofs.Nodes.{nodes_walk}
use Rattle.yaml_emit_laws.proofs.Tags.{mark_walks, tag_walks}
use Rattle.yaml_scan_history.proofs.NamesRead.{anchor_is_read}
use Rattle.yaml_scan_history.proofs.GapsRead.{gap_is_read}
use Rattle.yaml_scan_laws.proofs.Lines.{lone_mark_is_read}
use Rattle.yaml_emit_layout.proofs.Spelled.{quoted-spells}
use Rattle.yaml_emit_laws.proofs.Back.{quoted_back}
use Rattle.yaml_emit_laws.proofs.Ascii.{spelled_ascii, directive_ascii}
use Rattle.yaml_emit_laws.proofs.TagsReading.{split_read}
use Rattle.yaml_emit_laws.proofs.Joining.{written_readable, written_directives}
use Rattle.yaml_emit_laws.proofs.Documents.{text_read}
use Rattle.yaml_emit_laws.proofs.Directives.{directives_walk}
use Rattle.yaml_emit_laws.proofs.Growing.{canonical_read}
use Rattle.yaml_emit_laws.proofs.TagsLines.{directive_read}
use Rattle.yaml_scan_laws.proofs.Directives.{version_is_read}
use Rattle.yaml_emit_laws.proofs.text_laws.laws_of_words.Goals as goal

pub returns-clause-nodes_are_words : goal.returns-clause-nodes_are_words
returns-clause-nodes_are_words c =
    let gaps = gap_is_read in
    nodes_walk gaps anchor_is_read (quoted_back quoted-spells) (mark_walks gaps lone_mark_is_read)
    (λ o right. tag_walks gaps split_read written_readable spelled_ascii o right)

pub returns-clause-canonical_text_is_read : goal.returns-clause-canonical_text_is_read
returns-clause-canonical_text_is_read c =
    let gaps = gap_is_read in
    text_read canonical_read gaps anchor_is_read (quoted_back quoted-spells) (mark_walks gaps lone_mark_is_read)
    (λ s o right. (
      directives_walk gaps version_is_read directive_read directive_ascii written_directives s o right,
      tag_walks gaps split_read written_readable spelled_ascii o right,
    ))
