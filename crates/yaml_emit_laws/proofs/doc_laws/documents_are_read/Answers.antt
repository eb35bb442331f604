use Rattle.yaml_emit_laws.proofs.DocDirectives.{documents_read}
use Rattle.yaml_emit_laws.proofs.Joining.{written_directives}
use Rattle.yaml_emit_laws.proofs.Ascii.{directive_ascii}
use Rattle.yaml_scan_laws.proofs.Directives.{version_is_read}
use Rattle.yaml_emit_laws.proofs.TagsLines.{directive_read}
use Rattle.yaml_emit_laws.proofs.doc_laws.documents_are_read.Goals as goal

pub returns : goal.returns
returns c = documents_read (record {
  versions = version_is_read;
  reads = directive_read;
  ascii = directive_ascii;
  readable = written_directives;
})
