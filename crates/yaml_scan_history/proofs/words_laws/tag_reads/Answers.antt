use Rattle.yaml_scan_history.proofs.TagsRead.{bare_is_read, named_is_read, verbatim_is_read}
use Rattle.yaml_scan_history.proofs.words_laws.tag_reads.Goals as goal

pub returns-clause-bare : goal.returns-clause-bare
returns-clause-bare c = bare_is_read

pub returns-clause-named : goal.returns-clause-named
returns-clause-named c = named_is_read

pub returns-clause-verbatim : goal.returns-clause-verbatim
returns-clause-verbatim c = verbatim_is_read
