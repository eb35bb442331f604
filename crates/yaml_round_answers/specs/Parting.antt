-- What C receives of where two inputs differ.
use Rattle.std.specs.Prelude.{◌≡◌, ◌⊎◌, ℕ, ℤ, pos, List, [], Option, None, Some, Result, Ok, Err}
use Rattle.yaml_parse.specs.declared.yaml_encoding_t.{yaml_encoding_t}
use Rattle.yaml_parse.specs.declared.yaml_event_type_t.{yaml_event_type_t}
use Rattle.yaml_parse.specs.declared.yaml_event_type_t.TheVariants as kind
use Rattle.yaml_parse.specs.declared.yaml_fault_t.{yaml_fault_t}
use Rattle.yaml_parse.specs.declared.yaml_origin_t.TheVariants.{Parser}
use Rattle.yaml_parse.specs.scan_types.Faults.{fault_of, memory_fault}
use Rattle.yaml_round.specs.declared.yaml_side_t.{yaml_side_t}
use Rattle.yaml_round.specs.declared.yaml_difference_t.{yaml_difference_t}
use Rattle.yaml_round.specs.round_engine.Differences.{IsDiff}
use Rattle.yaml_round.specs.round_engine.Loaded.{IsDocumentsDiff}
use Rattle.yaml_round_answers.specs.Records.{mark_told}
use Rattle.yaml_round_answers.specs.declared.answer.yaml_c_answer.{yaml_c_answer}
use Rattle.yaml_round_answers.specs.declared.parting.yaml_c_parting.{yaml_c_parting}
use Rattle.yaml_round_answers.specs.Told.{no_mark, TellsText, Refuses, TellsMisuse, side_number}
use Rattle.yaml_round_answers.specs.Path.{path_spelled}

abbrev pub kind_number : yaml_event_type_t → ℤ
kind_number kind.YAML_NO_EVENT = pos 0
kind_number kind.YAML_STREAM_START_EVENT = pos 1
kind_number kind.YAML_STREAM_END_EVENT = pos 2
kind_number kind.YAML_DOCUMENT_START_EVENT = pos 3
kind_number kind.YAML_DOCUMENT_END_EVENT = pos 4
kind_number kind.YAML_ALIAS_EVENT = pos 5
kind_number kind.YAML_SCALAR_EVENT = pos 6
kind_number kind.YAML_SEQUENCE_START_EVENT = pos 7
kind_number kind.YAML_SEQUENCE_END_EVENT = pos 8
kind_number kind.YAML_MAPPING_START_EVENT = pos 9
kind_number kind.YAML_MAPPING_END_EVENT = pos 10

-- no place is given
pub record TellsNoPlace (p : yaml_c_parting) : Type 0 where
  pub document : p.document ≡ 0
  pub first_kind : p.first_kind ≡ pos 0
  pub second_kind : p.second_kind ≡ pos 0
  pub first_mark : p.first_mark ≡ no_mark
  pub second_mark : p.second_mark ≡ no_mark

-- a place, and its path, spelled
pub record TellsPartingPlace (path : List ℕ) (d : yaml_difference_t) (p : yaml_c_parting) : Type 0
  where
    pub answer : TellsText path (pos 0) p.answer
    pub document : p.document ≡ d.document
    pub first_kind : p.first_kind ≡ kind_number d.first_type
    pub second_kind : p.second_kind ≡ kind_number d.second_type
    pub first_mark : p.first_mark ≡ mark_told d.first_mark
    pub second_mark : p.second_mark ≡ mark_told d.second_mark

-- the answer says that, and no place is given beside it
abbrev pub NoPlaceBeside : (yaml_c_answer → Type 0) → yaml_c_parting → Type 0
NoPlaceBeside Tells p = Tells p.answer × TellsNoPlace p

-- nowhere, a place, or a fault; out of memory where the path has no room, or a fault's line
abbrev pub TellsParting : Result (Option yaml_difference_t) (yaml_side_t × yaml_fault_t)
    → yaml_c_parting → Type 0
TellsParting (Ok None) p = NoPlaceBeside (TellsText [] (pos 1)) p
TellsParting (Ok (Some d)) p = TellsPartingPlace (path_spelled d.path.items) d p
    ⊎ NoPlaceBeside (Refuses (memory_fault Parser) (pos 0)) p
TellsParting (Err f) p = NoPlaceBeside (Refuses (fault_of f.1) (side_number f.0)) p

-- C receives what the relation allows.
pub record IsParted
    (Is : Result (Option yaml_difference_t) (yaml_side_t × yaml_fault_t) → Type 0)
    (p : yaml_c_parting) : Type 0 where
  pub result : Result (Option yaml_difference_t) (yaml_side_t × yaml_fault_t)
  pub is : Is result
  pub told : TellsParting result p

-- that a number means nothing, where one does, and else what a call with their meaning answers
abbrev pub PartingMeant : {M : Type 0} → Option M → (M → yaml_c_parting → Type 0)
    → yaml_c_parting → Type 0
PartingMeant None Is p = NoPlaceBeside TellsMisuse p
PartingMeant (Some m) Is p = Is m p

abbrev pub Parts : List ℕ → List ℕ → yaml_encoding_t × yaml_encoding_t → yaml_c_parting → Type 0
Parts first second m = IsParted (IsDiff m.0 first m.1 second)

abbrev pub PartsDocuments : List ℕ → List ℕ → yaml_encoding_t × yaml_encoding_t → yaml_c_parting
    → Type 0
PartsDocuments first second m = IsParted (IsDocumentsDiff m.0 first m.1 second)
