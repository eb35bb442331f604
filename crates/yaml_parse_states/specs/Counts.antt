-- How many tokens of a source are held, and how many weren't asked for.
use Rattle.std.specs.Prelude.{ℕ, List, length}
use Rattle.yaml_scan_model.specs.scan_types.Tokens.{Token}
use Rattle.yaml_parse_states.specs.declared.source.SourceTokens.{SourceTokens}
use Rattle.yaml_parse_states.specs.SourceComing.{held_if, left_of}

abbrev pub held_of : {S : Type 0} → SourceTokens S → ℕ
held_of s = held_if s.fault s.is_next

abbrev pub unasked_of : {S : Type 0} → (S → List Token) → SourceTokens S → ℕ
unasked_of to_come s = length (left_of s.fault (to_come s.source))
