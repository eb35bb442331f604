use Rattle.yaml_scan_laws.proofs.Directives.{version_is_read, tag_directive_is_read}
use Rattle.yaml_scan_laws.proofs.Lines.{lone_mark_is_read}
use Rattle.yaml_scan_laws.proofs.words_laws.laws_of_written_words.Goals as goal

pub returns-clause-version_reads : goal.returns-clause-version_reads
returns-clause-version_reads c = version_is_read

pub returns-clause-tag_directive_reads : goal.returns-clause-tag_directive_reads
returns-clause-tag_directive_reads c = tag_directive_is_read

pub returns-clause-lone_mark_reads : goal.returns-clause-lone_mark_reads
returns-clause-lone_mark_reads c = lone_mark_is_read
