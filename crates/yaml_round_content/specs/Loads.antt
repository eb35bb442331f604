-- The documents of an input, loaded one after another.
use Rattle.std.specs.Prelude.{ℕ, true, List}
use Rattle.yaml_parse_model.specs.scan_model.declared.name.yaml_encoding_t.{yaml_encoding_t}
use Rattle.yaml_parse_model.specs.Documents.{Document}
use Rattle.yaml_parse_loader.specs.Loading.{nothing_loaded}
pub use Rattle.yaml_emit_laws.specs.parse_laws_trees.AllLoads.{Loads, no_more, in_front, load_on}
unfoldable pub use Rattle.yaml_emit_laws.specs.parse_laws_trees.AllLoads.{load_all}
use Rattle.yaml_round_content.specs.Input.{events_of, ending_of}

-- a document as it is written: its end is implicit
abbrev pub with_implicit_end : Document → Document
with_implicit_end d = record d { end_implicit = true }

-- those of an input
abbrev pub loads_of : yaml_encoding_t → List ℕ → Loads
loads_of from input = load_all (events_of from input) (ending_of from input) nothing_loaded
