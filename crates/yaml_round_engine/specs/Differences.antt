-- Where the contents of two inputs differ.
use Rattle.std.specs.Prelude.{◌≡◌, ◌⊎◌, true, ℕ, List, [], ◌∷◌, ◌++◌, Option, Some, None, Result, Ok, Err}
use Rattle.yaml_parse.specs.declared.yaml_encoding_t.{yaml_encoding_t}
use Rattle.yaml_parse.specs.declared.yaml_fault_t.{yaml_fault_t}
use Rattle.yaml_scan_types.specs.Faults.{fault_of}
use Rattle.yaml_parse.specs.Events.{Event, EventBody, type_of}
use Rattle.yaml_parse.specs.Resolve.{Told}
use Rattle.yaml_round_content.specs.Normalize.{normalize_body}
use Rattle.yaml_round_content.specs.Content.{content_of}
use Rattle.yaml_round_content.specs.Reading.{HasEvents}
use Rattle.yaml_round_reading.specs.declared.side.yaml_side_t.{yaml_side_t}
use Rattle.yaml_round_reading.specs.Reading.{contents}
use Rattle.yaml_round_reading.specs.Answers.{SameContent, IsSideStarved, IsSideFaulty}
use Rattle.yaml_round_engine.specs.declared.difference.yaml_difference_t.{yaml_difference_t}
use Rattle.yaml_round_engine.specs.Causes.{cause_of}
use Rattle.yaml_round_engine.specs.Places.{StreamPosition, position_says, path_to, path_of}

-- what an event says, normalized
abbrev pub saying : EventBody → EventBody
saying e = content_of (normalize_body true e)

-- it says where the events begin and end, and what they are
pub record TellsOf (first second : Event) (d : yaml_difference_t) : Type 0 where
  pub first_mark : d.first_mark ≡ first.start_mark
  pub first_end : d.first_end ≡ first.end_mark
  pub first_type : d.first_type ≡ type_of first.body
  pub second_mark : d.second_mark ≡ second.start_mark
  pub second_end : d.second_end ≡ second.end_mark
  pub second_type : d.second_type ≡ type_of second.body

-- and in what they differ, by what they say
pub record TellsParting (first second : Event) (said other_said : EventBody)
    (d : yaml_difference_t) : Type 0 where
  pub tells : TellsOf first second d
  pub cause : d.cause ≡ cause_of said other_said

-- it says of two events, and in what they differ, normalized
abbrev pub TellsGiven : Event → Event → yaml_difference_t → Type 0
TellsGiven first second d = TellsParting first second (saying first.body) (saying second.body) d

-- Both inputs are accepted. The events before the place have the same content, and are what is
-- before a place; the next ones don't. It says where these begin and end, what they are, in what
-- they differ, and the path to that place.
pub record IsParting (a_from : yaml_encoding_t) (a : List ℕ) (b_from : yaml_encoding_t)
    (b : List ℕ) (d : yaml_difference_t) : Type 0 where
  pub before : List Told
  pub other_before : List Told
  pub next : Told
  pub other_next : Told
  pub behind : List Told
  pub other_behind : List Told
  pub of_first : HasEvents a_from a (before ++ next ∷ behind)
  pub of_second : HasEvents b_from b (other_before ++ other_next ∷ other_behind)
  pub alike : contents before ≡ contents other_before
  pub differ : saying next.0.body ≡ saying other_next.0.body → ⊥
  pub tells : TellsOf next.0 other_next.0 d
  pub cause : d.cause ≡ cause_of (saying next.0.body) (saying other_next.0.body)
  pub place : StreamPosition
  pub in_front : contents before ≡ position_says place []
  pub path : path_of d ≡ path_to place

-- the answer to where two inputs differ: nowhere, there, or a refusal, as where they are compared
abbrev pub IsDiff : yaml_encoding_t → List ℕ → yaml_encoding_t → List ℕ
    → Result (Option yaml_difference_t) (yaml_side_t × yaml_fault_t) → Type 0
IsDiff a_from a b_from b (Ok None) = SameContent a_from a b_from b
IsDiff a_from a b_from b (Ok (Some d)) = IsParting a_from a b_from b d
IsDiff a_from a b_from b (Err f) = IsSideStarved a_from a f.0 (fault_of f.1)
    ⊎ IsSideFaulty a_from a b_from b f.0 (fault_of f.1)
