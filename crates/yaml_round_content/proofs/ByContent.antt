-- Each load of a source's events is one that content says.
use Rattle.std.proofs.Common.{refl}
use Rattle.yaml_round_content.proofs.Words.{initial, no_directives, read_of}
use Rattle.yaml_emit_laws.proofs.AllGiven.{run_loads}
use Rattle.yaml_round_content.specs.NextLoads.{SourcesLoadByContent}

pub sources_load : SourcesLoadByContent
sources_load ts own count = run_loads ts initial own no_directives (read_of ts own).ending count refl refl
