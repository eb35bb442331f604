-- What a clause sees of a list of tokens.
use Rattle.std.specs.Prelude.{map, option_map, All}
use Rattle.yaml_scan_model.specs.scan_types.Tokens.{token_of}
use Rattle.yaml_scan_model.specs.scan_types.Faults.{fault_of}
use Rattle.yaml_parse_model.specs.Source.{HasUtf8}
use Rattle.yaml_parse_states.specs.List.{TokenList}
use Rattle.yaml_parse_states.specs.declared.list.yaml_token_list_t.TheInside.{Inside}

abbrev pub list_view : Inside → TokenList
list_view l = record { tokens = map token_of l.tokens.items; fault = option_map fault_of l.fault }

-- the texts of the tokens are UTF-8
abbrev pub IsList : Inside → Type 0
IsList l = All (λ t. HasUtf8 (token_of t).body) l.tokens.items
