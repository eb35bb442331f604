-- What the program's engine answers, in the words of the program.
use Rattle.std.specs.Prelude.{◌≡◌, ◌⊎◌, ℕ, Bool, true, false, List, [], ◌∷◌, map, Option, None, Some, Vec, Result, Ok, Err}
use Rattle.std.specs.declared.alloc.Global.{Global}
use Rattle.yaml_round.specs.declared.yaml_encoding_t.{yaml_encoding_t}
use Rattle.yaml_round.specs.declared.yaml_origin_t.{yaml_origin_t}
use Rattle.yaml_round.specs.declared.yaml_fault_t.{yaml_fault_t}
use Rattle.yaml_round.specs.scan_types.Faults.{Fault, IsMemoryFault, fault_of, load_layers}
use Rattle.yaml_round.specs.declared.yaml_form_t.{yaml_form_t}
use Rattle.yaml_round.specs.declared.yaml_run_fault_t.{yaml_run_fault_t}
use Rattle.yaml_round.specs.declared.yaml_run_fault_t.TheVariants.{Read, TooLong, Yaml, Write}
use Rattle.yaml_cli_program.specs.declared.Task.{Task}
use Rattle.yaml_cli_program.specs.declared.Side.{Side}
use Rattle.yaml_cli_program.specs.declared.Side.TheVariants as side
use Rattle.yaml_cli_program.specs.declared.Difference.{Difference}
use Rattle.yaml_cli_program.specs.declared.Cause.{Cause}
use Rattle.yaml_cli_program.specs.declared.Cause.TheVariants as cause
use Rattle.yaml_cli_program.specs.declared.Manner.{Manner}
use Rattle.yaml_cli_program.specs.declared.Measure.{Measure}
use Rattle.yaml_cli_program.specs.declared.RepeatedKey.{RepeatedKey}
use Rattle.yaml_cli_program.specs.declared.Question.{Question}
use Rattle.yaml_cli_program.specs.declared.Question.TheVariants as question
use Rattle.yaml_round.specs.declared.yaml_side_t.{yaml_side_t}
use Rattle.yaml_round.specs.declared.yaml_side_t.TheVariants as told
use Rattle.yaml_round.specs.declared.yaml_difference_t.{yaml_difference_t}
use Rattle.yaml_round.specs.declared.yaml_cause_t.{yaml_cause_t}
use Rattle.yaml_round.specs.declared.yaml_cause_t.TheVariants as reason
use Rattle.yaml_round.specs.round_engine.Answers.{IsSame, IsReformatted}
use Rattle.yaml_round.specs.round_engine.Differences.{IsDiff}
use Rattle.yaml_round.specs.round_engine.Loaded.{IsDocumentsDiff}
use Rattle.yaml_round.specs.AllDifferences.{AreDifferences}
use Rattle.yaml_round.specs.declared.differences.yaml_differences_t.{yaml_differences_t}
use Rattle.yaml_round.specs.declared.yaml_document_difference_t.{yaml_document_difference_t}
use Rattle.yaml_round.specs.declared.yaml_node_cause_t.{yaml_node_cause_t}
use Rattle.yaml_round.specs.declared.yaml_node_cause_t.TheVariants as node
use Rattle.yaml_round.specs.round_engine.Checking.{IsChecked}
use Rattle.yaml_round.specs.Keys.{IsKeyCheck}
use Rattle.yaml_round.specs.declared.yaml_same_key_t.{yaml_same_key_t}
use Rattle.yaml_round.specs.round_engine.Readable.{IsReadableAnswer}
use Rattle.yaml_round.specs.Commands.{IsRunAnswer, run_layers}
use Rattle.yaml_round.specs.round_engine.Layers.{reformat_layers}
use Rattle.yaml_round.specs.Run.{Bytes, Runs}

-- What a run answers for a reader that is to give these bytes, and a writer that has received
-- those, where they are known: what the command answers for at most a gibibyte, by the task's
-- encoding and settings. What both are left with is said of the devices.
abbrev pub IsRun : Task → Option (List ℕ) → Option (List ℕ)
    → Result (Option yaml_form_t) yaml_run_fault_t → Type 0
IsRun task to_come received result = (after : Bytes) × Runs
    (record {
      limit = 1073741824;
      layers = run_layers task.command;
      IsAnswer = IsRunAnswer task.command task.manner.from task.manner.settings;
    })
    (record { to_come = to_come; received = received }) after result

abbrev pub side_told : Side → yaml_side_t
side_told side.First = told.First
side_told side.Second = told.Second

-- whether two inputs have the same content, or the fault of one of them
abbrev pub IsSameAnswer : yaml_encoding_t → List ℕ → List ℕ
    → Result Bool (Side × yaml_run_fault_t) → Type 0
IsSameAnswer from first second (Ok same) = IsSame from first from second (Ok same)
IsSameAnswer from first second (Err (s, Yaml f)) = IsSame from first from second
    (Err (side_told s, f))
IsSameAnswer from first second (Err (s, Read)) = ⊥
IsSameAnswer from first second (Err (s, TooLong)) = ⊥
IsSameAnswer from first second (Err (s, Write written)) = ⊥

-- that of a place where contents part, if it is one
abbrev pub cause_told : Cause → Option yaml_cause_t
cause_told cause.OnlyFirst = Some reason.OnlyFirst
cause_told cause.OnlySecond = Some reason.OnlySecond
cause_told cause.Kind = Some reason.Kind
cause_told cause.Directives = Some reason.Directives
cause_told cause.Value = Some reason.Value
cause_told cause.Tag = Some reason.Tag
cause_told cause.Quotes = Some reason.Quotes
cause_told cause.Anchor = Some reason.Anchor
cause_told cause.KeyOrder = None

-- it has the places and the kinds of events of that difference, and its cause
pub record TellsDifference (d : Difference) (x : yaml_difference_t) : Type 0 where
  pub first_start : d.first.start ≡ x.first_mark
  pub first_end : d.first.end ≡ x.first_end
  pub first_kind : d.first.kind ≡ x.first_type
  pub second_start : d.second.start ≡ x.second_mark
  pub second_end : d.second.end ≡ x.second_end
  pub second_kind : d.second.kind ≡ x.second_type
  pub cause : cause_told d.cause ≡ Some x.cause

abbrev pub IsPartedBy : (Result (Option yaml_difference_t) (yaml_side_t × yaml_fault_t) → Type 0)
    → Result (Option Difference) (Side × yaml_fault_t) → Type 0
IsPartedBy Is (Ok None) = Is (Ok None)
IsPartedBy Is (Ok (Some d)) = (x : yaml_difference_t) × Is (Ok (Some x)) × TellsDifference d x
IsPartedBy Is (Err (s, f)) = Is (Err (side_told s, f))

-- how two inputs are compared: by their documents, or by their contents
abbrev pub IsDifference : Bool → yaml_encoding_t → List ℕ → List ℕ
    → Result (Option yaml_difference_t) (yaml_side_t × yaml_fault_t) → Type 0
IsDifference true from first second r = IsDocumentsDiff from first from second r
IsDifference false from first second r = IsDiff from first from second r

-- where two inputs differ, or the fault of one of them
abbrev pub IsParted : Measure → List ℕ → List ℕ → Result (Option Difference) (Side × yaml_fault_t)
    → Type 0
IsParted by first second r = IsPartedBy (IsDifference by.documents by.from first second) r

-- the cause of a difference of nodes
abbrev pub node_cause : yaml_node_cause_t → Cause
node_cause node.Kind = cause.Kind
node_cause node.Value = cause.Value
node_cause node.Tag = cause.Tag
node_cause node.KeyOrder = cause.KeyOrder
node_cause node.OnlyFirst = cause.OnlyFirst
node_cause node.OnlySecond = cause.OnlySecond

abbrev pub cause_of : yaml_document_difference_t → Cause
cause_of x = node_cause x.difference.cause

abbrev pub shown_cause : Difference → Cause
shown_cause d = d.cause

-- Each place where documents differ is shown, in order, with its cause; where none does, the place where contents part.
abbrev pub AreShown : List yaml_document_difference_t → Option yaml_difference_t → List Difference
    → Type 0
AreShown [] None shown = shown ≡ []
AreShown [] (Some x) shown = (d : Difference) × (shown ≡ d ∷ []) × TellsDifference d x
AreShown (t ∷ told) content shown = map shown_cause shown ≡ map cause_of (t ∷ told)

-- all places where two inputs differ, or the fault of one of them
abbrev pub AreAllParted : Measure → List ℕ → List ℕ
    → Result (Vec Difference Global) (Side × yaml_fault_t) → Type 0
AreAllParted by first second (Ok shown) = (d : yaml_differences_t)
    × AreDifferences by.from first by.from second by.documents (Ok d)
    × AreShown d.told.items d.content shown.items
AreAllParted by first second (Err (s, f)) = IsMemoryFault load_layers (fault_of f)
    ⊎ AreDifferences by.from first by.from second by.documents (Err (side_told s, f))

-- the keys as they are reported
abbrev pub shown_key : yaml_same_key_t → RepeatedKey
shown_key k = record { mark = k.mark; end_mark = k.end_mark; first_mark = k.first_mark }

-- an input's keys that are in a mapping more than once, or its fault
abbrev pub IsRepeatedAnswer : yaml_encoding_t → List ℕ → Result (List RepeatedKey) Fault → Type 0
IsRepeatedAnswer from input (Ok keys) = (told : List yaml_same_key_t)
    × IsKeyCheck from input (Ok told) × (keys ≡ map shown_key told)
IsRepeatedAnswer from input (Err f) = IsKeyCheck from input (Err f)

-- the answer to whether that is so
abbrev pub Tells : Bool → Type 0 → Type 0
Tells true A = A
Tells false A = A → ⊥

-- a file is as the question asks: it loads, or is the text that a rewriting of it would be
abbrev pub IsJudgedBy : Question → Manner → List ℕ → Result Bool Fault → Type 0
IsJudgedBy question.Loads m input (Ok b) = (b ≡ true) × IsChecked m.from input (Ok tt)
IsJudgedBy question.Loads m input (Err f) = IsChecked m.from input (Err f)
IsJudgedBy question.HasForm m input (Ok b) = (text : List ℕ) × (form : yaml_form_t)
    × IsReformatted m.from m.settings input (Ok (text, form)) × Tells b (text ≡ input)
IsJudgedBy question.HasForm m input (Err f) = IsReformatted m.from m.settings input (Err f)
IsJudgedBy question.IsNormal m input (Ok b) = (text : List ℕ)
    × IsReadableAnswer m.from m.settings input (Ok text) × Tells b (text ≡ input)
IsJudgedBy question.IsNormal m input (Err f) = IsReadableAnswer m.from m.settings input (Err f)

abbrev pub judge_layers : Question → List yaml_origin_t
judge_layers question.Loads = load_layers
judge_layers question.HasForm = reformat_layers
judge_layers question.IsNormal = reformat_layers
