-- Each load of a source's tokens is one that content says.
use Rattle.std.specs.Prelude.{ℕ, List, Option}
use Rattle.yaml_parse_model.specs.scan_types.Tokens.{Token}
use Rattle.yaml_parse_model.specs.scan_types.Faults.{Fault}
use Rattle.yaml_emit_laws.specs.parse_laws_trees.NextLoad.{LoadsByContent}
use Rattle.yaml_round_content.specs.Loading.{read_of}

-- Of each source, whether or not its tokens begin with a sentence, each load of its events, one after another, is one that
-- content says.
abbrev pub SourcesLoadByContent : Type 0
SourcesLoadByContent = (ts : List Token) (own : Option Fault) (count : ℕ)
    → LoadsByContent (read_of ts own).ending count (read_of ts own).events
