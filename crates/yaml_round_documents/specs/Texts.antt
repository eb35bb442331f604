-- Keys whose texts differ: none of them is reported.
use Rattle.std.specs.Prelude.{ℕ, ℤ, Bool, true, false, List, [], Result, Ok, Err}
use Rattle.std.specs.declared.alloc.AllocError.{AllocError}
use Rattle.yaml_parse_model.specs.Nodes.{Node}
use Rattle.yaml_emit_graph.specs.Graph.{body_of_id}
use Rattle.yaml_round_documents.specs.Same.{text_of}
use Rattle.yaml_round_documents.specs.Ranks.{number_from}
use Rattle.yaml_round_documents.specs.Telling.{AreToldBehind}

-- the text of a key
abbrev pub key_text : List Node → ℤ → List ℕ
key_text nodes key = text_of (body_of_id nodes key)

-- that of a key's text
abbrev pub key_number : List Node → ℤ → ℕ
key_number nodes key = number_from 0 (key_text nodes key)

-- where the answer is that the texts differ, that holds
abbrev pub IfApart : Type 0 → Result Bool AllocError → Type 0
IfApart A (Ok true) = A
IfApart A (Ok false) = Unit {0}
IfApart A (Err e) = Unit {0}

abbrev pub NoneIsTold : List Node → List ℤ → Type 0
NoneIsTold nodes keys = AreToldBehind nodes [] keys []
