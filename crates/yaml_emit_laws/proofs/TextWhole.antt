-- The law of canonical text, joined from the laws beneath.
use Rattle.yaml_scan_history.proofs.GapsRead.{gap_is_read}
use Rattle.yaml_scan_history.proofs.NamesRead.{anchor_is_read}
use Rattle.yaml_scan_laws.proofs.Lines.{lone_mark_is_read}
use Rattle.yaml_emit_laws.proofs.Shared.{version_is_read, CanonicalTextIsRead}
use Rattle.yaml_emit_laws.proofs.Growing.{canonical_read}
use Rattle.yaml_emit_laws.proofs.QuotedWhole.{quoted_is_back}
use Rattle.yaml_emit_laws.proofs.TagsReading.{split_read}
use Rattle.yaml_emit_laws.proofs.Joining.{written_readable, written_directives}
use Rattle.yaml_emit_laws.proofs.Ascii.{spelled_ascii, directive_ascii}
use Rattle.yaml_emit_laws.proofs.TagsLines.{directive_read}
use Rattle.yaml_emit_laws.proofs.Documents.{text_read}
use Rattle.yaml_emit_laws.proofs.Directives.{directives_walk}
use Rattle.yaml_emit_laws.proofs.Tags.{mark_walks, tag_walks}

pub text_is_read : CanonicalTextIsRead
text_is_read =
    text_read canonical_read gap_is_read anchor_is_read quoted_is_back (mark_walks gap_is_read lone_mark_is_read)
    (λ s o right. (
      directives_walk gap_is_read version_is_read directive_read directive_ascii written_directives s o right,
      tag_walks gap_is_read split_read written_readable spelled_ascii o right,
    ))
