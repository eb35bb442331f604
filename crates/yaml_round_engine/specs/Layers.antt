-- The layers in which memory may run out, by calls.
use Rattle.std.specs.Prelude.{List, ◌∷◌}
use Rattle.yaml_parse.specs.declared.yaml_origin_t.{yaml_origin_t}
use Rattle.yaml_parse.specs.declared.yaml_origin_t.TheVariants.{Emitter, Writer}
use Rattle.yaml_scan_types.specs.Faults.{parse_layers, load_layers}

-- of a line for each event
abbrev pub list_layers : List yaml_origin_t
list_layers = Emitter ∷ parse_layers

-- of a text that is rewritten
abbrev pub reformat_layers : List yaml_origin_t
reformat_layers = Emitter ∷ Writer ∷ parse_layers

-- of documents that are loaded and written
abbrev pub reload_layers : List yaml_origin_t
reload_layers = Emitter ∷ Writer ∷ load_layers
