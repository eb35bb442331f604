-- How many brackets are open after tokens.
use Rattle.std.specs.Prelude.{ℕ, ◌+◌, ◌-◌, List, [], ◌∷◌}
use Rattle.yaml_parse_grammar.specs.scan_types.Tokens.{Token, TokenBody}
use Rattle.yaml_parse_grammar.specs.scan_types.Tokens as token

-- after a token; a closer closes none where none is open
abbrev pub depth_after : TokenBody → ℕ → ℕ
depth_after token.flow_sequence_start n = n + 1
depth_after token.flow_mapping_start n = n + 1
depth_after token.flow_sequence_end n = n - 1
depth_after token.flow_mapping_end n = n - 1
depth_after _ n = n

-- after tokens, where n are open before them
abbrev pub depth_behind : List Token → ℕ → ℕ
depth_behind [] n = n
depth_behind (t ∷ ts) n = depth_behind ts (depth_after t.body n)
