-- What C receives of a call.
use Rattle.std.specs.Prelude.{◌≡◌, ◌⊎◌, ℕ, ℤ, pos, negsuc, List, [], Bool, true, false, Option, None, Some, Result, Ok, Err, Vec, codes, unwrap_or}
use Rattle.std.specs.Global.{Global}
use Rattle.yaml_parse.specs.declared.yaml_encoding_t.{yaml_encoding_t}
use Rattle.yaml_parse.specs.declared.yaml_origin_t.{yaml_origin_t}
use Rattle.yaml_parse.specs.declared.yaml_origin_t.TheVariants.{Writer}
use Rattle.yaml_parse.specs.declared.yaml_error_type_t.TheVariants.{YAML_MEMORY_ERROR}
use Rattle.yaml_parse.specs.declared.yaml_fault_t.{yaml_fault_t}
use Rattle.yaml_parse.specs.declared.yaml_mark_t.{yaml_mark_t}
use Rattle.yaml_parse.specs.scan_types.Faults.{Fault, fault_of, memory_fault, IsMemoryFault}
use Rattle.yaml_round.specs.declared.yaml_settings_t.{yaml_settings_t}
use Rattle.yaml_round.specs.declared.yaml_side_t.{yaml_side_t}
use Rattle.yaml_round.specs.declared.yaml_side_t.TheVariants.{First, Second}
use Rattle.yaml_round.specs.declared.yaml_form_t.{yaml_form_t}
use Rattle.yaml_round.specs.declared.yaml_form_t.TheVariants.{Canonical, Pretty}
use Rattle.yaml_round.specs.round_engine.Layers.{list_layers, reformat_layers, reload_layers}
use Rattle.yaml_round.specs.round_engine.Answers.{IsListed, IsReformatted, IsSame}
use Rattle.yaml_round.specs.round_engine.Reload.{IsReloaded}
use Rattle.yaml_round.specs.FaultLine.{fault_line}
use Rattle.yaml_round_answers.specs.declared.answer.yaml_c_answer.{yaml_c_answer}
use Rattle.yaml_round_answers.specs.declared.record.yaml_c_mark.{yaml_c_mark}
use Rattle.yaml_round_answers.specs.declared.record.yaml_c_settings.{yaml_c_settings}
use Rattle.yaml_round_answers.specs.Numbers.{encoding_meant, error_number}
use Rattle.yaml_round_answers.specs.Records.{mark_told}
use Rattle.yaml_round_answers.specs.Counted.{mark_counted}
use Rattle.yaml_round_answers.specs.Settings.{settings_meant}

-- the mark where there is no place
abbrev pub no_mark : yaml_c_mark
no_mark = record { index = 0; line = 0; column = 0; character = 0 }

-- ---- the record

-- Of each record every field is specified.

-- a text, and a number beside it; no other block, and nothing of a fault
pub record TellsText (bytes : List ℕ) (number : ℤ) (a : yaml_c_answer) : Type 0 where
  pub kind : a.kind ≡ pos 0
  pub is : a.is ≡ number
  pub second : a.second ≡ pos 0
  pub value : a.value ≡ pos 0
  pub offset : a.offset ≡ 0
  pub problem_mark : a.problem_mark ≡ no_mark
  pub context_mark : a.context_mark ≡ no_mark
  pub problem : a.problem.now ≡ []
  pub context : a.context.now ≡ []
  pub text : a.text.now ≡ bytes
  pub line : a.line.now ≡ []

-- the fault's line; of out of memory alone it may be left out
abbrev pub LineTold : Fault → List ℕ → Type 0
LineTold fault line = (line ≡ fault_line fault)
    ⊎ ((fault.kind ≡ YAML_MEMORY_ERROR) × (line ≡ []))

-- a fault, and whose it is, with its marks given so; the one block is its line
pub record TellsFaultBy (tell : yaml_mark_t → yaml_c_mark) (fault : Fault) (whose : ℤ)
    (a : yaml_c_answer) : Type 0 where
  pub kind : a.kind ≡ error_number fault.kind
  pub is : a.is ≡ pos 0
  pub second : a.second ≡ whose
  pub value : a.value ≡ fault.number
  pub offset : a.offset ≡ fault.offset
  pub problem_mark : a.problem_mark ≡ tell fault.problem_mark
  pub context_mark : a.context_mark ≡ tell fault.context_mark
  pub problem : a.problem.now ≡ fault.problem
  pub context : a.context.now ≡ unwrap_or fault.context []
  pub text : a.text.now ≡ []
  pub line : LineTold fault a.line.now

-- no character before its marks is counted
abbrev pub TellsFault : Fault → ℤ → yaml_c_answer → Type 0
TellsFault = TellsFaultBy mark_told

-- a fault of a text, with the characters that are before its marks
abbrev pub TellsFaultIn : List ℕ → Fault → yaml_c_answer → Type 0
TellsFaultIn text fault = TellsFaultBy (λ m. mark_counted text (mark_told m)) fault (pos 0)

-- memory for a fault's line was refused, and this is reported in the fault's place; C doesn't learn
-- the layer
pub record TellsStarved (whose : ℤ) (a : yaml_c_answer) : Type 0 where
  pub refusal : yaml_fault_t
  pub is : fault_of refusal ≡ memory_fault Writer
  pub told : (layer : yaml_origin_t) → TellsFault (memory_fault layer) whose a

abbrev pub Refuses : Fault → ℤ → yaml_c_answer → Type 0
Refuses fault whose a = TellsFault fault whose a ⊎ TellsStarved whose a

-- the kind of the answer is out of memory
abbrev pub TellsWant : yaml_c_answer → Type 0
TellsWant a = a.kind ≡ error_number YAML_MEMORY_ERROR

-- out of memory is reported; C doesn't learn the layer
abbrev pub TellsMemory : yaml_c_answer → Type 0
TellsMemory a = (layer : yaml_origin_t) (text : List ℕ) → TellsFaultIn text (memory_fault layer) a

-- the fault of a text is reported, or in its place that memory for its line was refused
abbrev pub RefusesIn : List ℕ → Fault → yaml_c_answer → Type 0
RefusesIn text fault a = TellsFaultIn text fault a
    ⊎ TellsMemory a

-- a number means nothing; no block, and no place
pub record TellsMisuse (a : yaml_c_answer) : Type 0 where
  pub kind : a.kind ≡ negsuc 0
  pub is : a.is ≡ pos 0
  pub second : a.second ≡ pos 0
  pub value : a.value ≡ pos 0
  pub offset : a.offset ≡ 0
  pub problem_mark : a.problem_mark ≡ no_mark
  pub context_mark : a.context_mark ≡ no_mark
  pub problem : a.problem.now ≡ codes "an argument means nothing"
  pub context : a.context.now ≡ []
  pub text : a.text.now ≡ []
  pub line : a.line.now ≡ []

-- ---- answers

abbrev pub TellsResult : Result (List ℕ) Fault → yaml_c_answer → Type 0
TellsResult (Ok text) a = TellsText text (pos 0) a
TellsResult (Err fault) a = TellsFault fault (pos 0) a

-- the result of a call is given, or its fault
abbrev pub TellsAnswer : Result (Vec ℕ Global) yaml_fault_t → yaml_c_answer → Type 0
TellsAnswer (Ok text) a = TellsText text.items (pos 0) a
TellsAnswer (Err fault) a = Refuses (fault_of fault) (pos 0) a

abbrev pub form_number : yaml_form_t → ℤ
form_number Canonical = pos 0
form_number Pretty = pos 1

abbrev pub TellsForm : Result (List ℕ × yaml_form_t) Fault → yaml_c_answer → Type 0
TellsForm (Ok (text, form)) a = TellsText text (form_number form) a
TellsForm (Err fault) a = TellsFault fault (pos 0) a

abbrev pub same_number : Bool → ℤ
same_number false = pos 0
same_number true = pos 1

abbrev pub side_number : yaml_side_t → ℤ
side_number First = pos 0
side_number Second = pos 1

abbrev pub TellsSame : Result Bool (yaml_side_t × yaml_fault_t) → yaml_c_answer → Type 0
TellsSame (Ok same) a = TellsText [] (same_number same) a
TellsSame (Err (side, fault)) a = TellsFault (fault_of fault) (side_number side) a

-- the result of a rewriting is given, or its fault
abbrev pub TellsForms : Result (Vec ℕ Global × yaml_form_t) yaml_fault_t → yaml_c_answer → Type 0
TellsForms (Ok (text, form)) a = TellsText text.items (form_number form) a
TellsForms (Err fault) a = Refuses (fault_of fault) (pos 0) a

-- the result of a comparison, or its fault with its side
abbrev pub TellsSides : Result Bool (yaml_side_t × yaml_fault_t) → yaml_c_answer → Type 0
TellsSides (Ok same) a = TellsText [] (same_number same) a
TellsSides (Err (side, fault)) a = Refuses (fault_of fault) (side_number side) a

-- what the relation allows, or out of memory in one of these layers
abbrev pub OrMemory : List yaml_origin_t → {Y : Type 0} → (Result Y Fault → Type 0)
    → Result Y Fault → Type 0
OrMemory layers Is (Ok y) = Is (Ok y)
OrMemory layers Is (Err fault) = IsMemoryFault layers fault ⊎ Is (Err fault)

-- C receives an answer that the relation allows.
pub record IsAnswered {A : Type 0} (Is : A → Type 0) (TellsIt : A → yaml_c_answer → Type 0)
    (a : yaml_c_answer) : Type 0 where
  pub result : A
  pub is : Is result
  pub told : TellsIt result a

-- C learns that a number means nothing, where one does, and else what a call with their meaning answers.
abbrev pub AnswersMeant : {M : Type 0} → Option M → (M → yaml_c_answer → Type 0) → yaml_c_answer
    → Type 0
AnswersMeant None Is a = TellsMisuse a
AnswersMeant (Some m) Is a = Is m a

-- The kind is -1 where a number means nothing, and nowhere else.
abbrev pub IsExact : {M : Type 0} → Option M → ℤ → Type 0
IsExact None kind = kind ≡ negsuc 0
IsExact (Some m) kind = ¬ (kind ≡ negsuc 0)

-- ---- calls

abbrev pub both : {A B : Type 0} → Option A → Option B → Option (A × B)
both (Some a) (Some b) = Some (a, b)
both (Some a) None = None
both None b = None

-- the encoding and the settings of a call
abbrev pub call_meant : ℤ → yaml_c_settings → Option (yaml_encoding_t × yaml_settings_t)
call_meant from given = both (encoding_meant from) (settings_meant given)

abbrev pub Reformats : List ℕ → yaml_encoding_t × yaml_settings_t → yaml_c_answer → Type 0
Reformats input m = IsAnswered (OrMemory reformat_layers (IsReformatted m.0 m.1 input)) TellsForm

abbrev pub Reloads : List ℕ → yaml_encoding_t × yaml_settings_t → yaml_c_answer → Type 0
Reloads input m = IsAnswered (OrMemory reload_layers (IsReloaded m.0 m.1 input)) TellsResult

abbrev pub Compares : List ℕ → List ℕ → yaml_encoding_t × yaml_encoding_t → yaml_c_answer → Type 0
Compares first second m = IsAnswered (IsSame m.0 first m.1 second) TellsSame

abbrev pub Lists : List ℕ → yaml_encoding_t → yaml_c_answer → Type 0
Lists input from = IsAnswered (OrMemory list_layers (IsListed from input)) TellsResult
