-- Where the loaded documents of two inputs differ.
use Rattle.std.specs.Prelude.{◌≡◌, ◌⊎◌, ℕ, zero, suc, List, [], ◌∷◌, ◌++◌, length, Option, Some, None, Result, Ok, Err}
use Rattle.yaml_parse.specs.declared.yaml_encoding_t.{yaml_encoding_t}
use Rattle.yaml_parse.specs.declared.yaml_fault_t.{yaml_fault_t}
use Rattle.yaml_scan_types.specs.Tokens.{zero_mark}
use Rattle.yaml_scan_types.specs.Faults.{Fault, fault_of, IsMemoryFault, load_layers}
use Rattle.yaml_parse.specs.Events.{Event, EventBody}
use Rattle.yaml_parse.specs.Events as event
use Rattle.yaml_parse.specs.Documents.{Document}
use Rattle.yaml_parse.specs.Resolve.{Told}
use Rattle.yaml_round_content.specs.Input.{events_of}
use Rattle.yaml_round_content.specs.Said.{stream_says}
use Rattle.yaml_round_content.specs.DumpsEvents.{trees_of_dumps}
use Rattle.yaml_round_content.specs.Agree.{Agrees}
use Rattle.yaml_round_content.specs.PlainLoading.{PlainLoading}
use Rattle.yaml_round_reading.specs.declared.side.yaml_side_t.{yaml_side_t}
use Rattle.yaml_round_reading.specs.declared.side.yaml_side_t.TheVariants.{First, Second}
use Rattle.yaml_round_engine.specs.declared.difference.yaml_difference_t.{yaml_difference_t}
use Rattle.yaml_round_engine.specs.Causes.{next_cause}
use Rattle.yaml_round_engine.specs.Places.{StreamPosition, position_says, path_to, path_of}
use Rattle.yaml_round_engine.specs.Differences.{TellsOf}

-- what documents say as they are dumped: a node that is met again has an anchor by number, and each tag is written
abbrev pub dumps_say : List Document → List EventBody
dumps_say ds = stream_says (trees_of_dumps ds)

-- the first of them, if there is one
abbrev pub next_of : List EventBody → Option EventBody
next_of [] = None
next_of (e ∷ es) = Some e

-- no event, at no place
abbrev pub nothing : Event
nothing = record { body = event.no; start_mark = zero_mark; end_mark = zero_mark }

-- the event of that number, from 0; nothing after the last
abbrev pub event_at : List Told → ℕ → Event
event_at [] n = nothing
event_at (t ∷ ts) zero = t.0
event_at (t ∷ ts) (suc n) = event_at ts n

-- both inputs load, and their documents agree
pub record SameDocuments (a_from : yaml_encoding_t) (a : List ℕ) (b_from : yaml_encoding_t)
    (b : List ℕ) : Type 0 where
  pub first : List Document
  pub second : List Document
  pub first_loads : PlainLoading a_from a (Ok first)
  pub second_loads : PlainLoading b_from b (Ok second)
  pub agree : Agrees first second

-- Both inputs load, and their documents don't agree. What is before a place is the same in their dumps, and what is
-- next isn't. It says in what that differs, of the inputs' events after as many where these begin and end and what they are,
-- and the path to that place.
pub record IsDocumentsParting (a_from : yaml_encoding_t) (a : List ℕ) (b_from : yaml_encoding_t)
    (b : List ℕ) (d : yaml_difference_t) : Type 0 where
  pub first : List Document
  pub second : List Document
  pub first_loads : PlainLoading a_from a (Ok first)
  pub second_loads : PlainLoading b_from b (Ok second)
  pub apart : Agrees first second → ⊥
  pub before : List EventBody
  pub left : List EventBody
  pub other_left : List EventBody
  pub first_says : dumps_say first ≡ before ++ left
  pub second_says : dumps_say second ≡ before ++ other_left
  pub differ : next_of left ≡ next_of other_left → ⊥
  pub cause : d.cause ≡ next_cause (next_of left) (next_of other_left)
  pub tells : TellsOf (event_at (events_of a_from a) (length before))
      (event_at (events_of b_from b) (length before)) d
  pub place : StreamPosition
  pub in_front : before ≡ position_says place []
  pub path : path_of d ≡ path_to place

abbrev pub IsLoadable : yaml_encoding_t → List ℕ → Type 0
IsLoadable from input = (ds : List Document) × PlainLoading from input (Ok ds)

-- the first fault: that of the second input only where the first loads
abbrev pub IsSideUnloaded : yaml_encoding_t → List ℕ → yaml_encoding_t → List ℕ → yaml_side_t
    → Fault → Type 0
IsSideUnloaded a_from a b_from b First fault = PlainLoading a_from a (Err fault)
IsSideUnloaded a_from a b_from b Second fault = IsLoadable a_from a
    × PlainLoading b_from b (Err fault)

-- memory ran out: reported of the second input only where the first loads
abbrev pub IsSideShort : yaml_encoding_t → List ℕ → yaml_side_t → Fault → Type 0
IsSideShort a_from a First fault = IsMemoryFault load_layers fault
IsSideShort a_from a Second fault = IsLoadable a_from a × IsMemoryFault load_layers fault

-- the answer to where the documents of two inputs differ: nowhere, there, or a refusal
abbrev pub IsDocumentsDiff : yaml_encoding_t → List ℕ → yaml_encoding_t → List ℕ
    → Result (Option yaml_difference_t) (yaml_side_t × yaml_fault_t) → Type 0
IsDocumentsDiff a_from a b_from b (Ok None) = SameDocuments a_from a b_from b
IsDocumentsDiff a_from a b_from b (Ok (Some d)) = IsDocumentsParting a_from a b_from b d
IsDocumentsDiff a_from a b_from b (Err f) = IsSideShort a_from a f.0 (fault_of f.1)
    ⊎ IsSideUnloaded a_from a b_from b f.0 (fault_of f.1)
