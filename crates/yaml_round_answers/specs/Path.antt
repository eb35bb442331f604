-- The path to a place, spelled for programs.
use Rattle.std.specs.Prelude.{ℕ, List, [], ◌∷◌, ◌++◌, length, Some, None, codes, decimal}
use Rattle.yaml_round.specs.declared.yaml_step_t.{yaml_step_t}
use Rattle.yaml_round.specs.declared.yaml_step_t.TheVariants.{Item, Key, Value}

abbrev pub keyed_head : ℕ → ℕ → List ℕ
keyed_head number size = codes "." ++ decimal number ++ codes ":" ++ decimal size ++ codes ":"

-- an item `[N]`, a key `<N>`, a value `.N`, after which its key's text has its length: `.N:LENGTH:TEXT`
abbrev pub step_head : yaml_step_t → List ℕ
step_head (Item number) = codes "[" ++ decimal number ++ codes "]"
step_head (Key number) = codes "<" ++ decimal number ++ codes ">"
step_head (Value number None) = codes "." ++ decimal number
step_head (Value number (Some text)) = keyed_head number (length text.items)

abbrev pub step_text : yaml_step_t → List ℕ
step_text (Item number) = []
step_text (Key number) = []
step_text (Value number None) = []
step_text (Value number (Some text)) = text.items

abbrev pub step_spelled : yaml_step_t → List ℕ
step_spelled s = step_head s ++ step_text s

-- one step after another, from the document's root inwards
abbrev pub path_spelled : List yaml_step_t → List ℕ
path_spelled [] = []
path_spelled (s ∷ ss) = step_spelled s ++ path_spelled ss
