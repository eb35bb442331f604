use Rattle.yaml_emit_laws.proofs.Resolving.{tags_resolve}
use Rattle.yaml_emit_laws.proofs.TagsReading.{split_read}
use Rattle.yaml_emit_laws.proofs.Joining.{read_back, written_readable, written_directives}
use Rattle.yaml_emit_laws.proofs.Ascii.{spelled_ascii, directive_ascii}
use Rattle.yaml_emit_laws.proofs.TagsLines.{directive_read}
use Rattle.yaml_emit_laws.proofs.tags_laws.laws_of_tags.Goals as goal

pub returns-clause-tags_resolve : goal.returns-clause-tags_resolve
returns-clause-tags_resolve c = tags_resolve

pub returns-clause-split_tags_are_read : goal.returns-clause-split_tags_are_read
returns-clause-split_tags_are_read c = split_read

pub returns-clause-tags_are_read_back : goal.returns-clause-tags_are_read_back
returns-clause-tags_are_read_back c = read_back

pub returns-clause-written_tags_are_readable : goal.returns-clause-written_tags_are_readable
returns-clause-written_tags_are_readable c = written_readable

pub returns-clause-readable_tags_are_ascii : goal.returns-clause-readable_tags_are_ascii
returns-clause-readable_tags_are_ascii c = spelled_ascii

pub returns-clause-written_directives_are_readable :
    goal.returns-clause-written_directives_are_readable
returns-clause-written_directives_are_readable c = written_directives

pub returns-clause-readable_directives_are_ascii : goal.returns-clause-readable_directives_are_ascii
returns-clause-readable_directives_are_ascii c = directive_ascii

pub returns-clause-directives_are_read : goal.returns-clause-directives_are_read
returns-clause-directives_are_read c = directive_read
