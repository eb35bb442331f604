-- What C receives of the normal form that people read, and of whether an input loads.
use Rattle.std.specs.Prelude.{ℕ, pos, List, [], Result, Ok, Err}
use Rattle.yaml_parse.specs.declared.yaml_encoding_t.{yaml_encoding_t}
use Rattle.yaml_parse.specs.scan_types.Faults.{Fault, load_layers}
use Rattle.yaml_round.specs.declared.yaml_settings_t.{yaml_settings_t}
use Rattle.yaml_round.specs.round_engine.Layers.{reformat_layers}
use Rattle.yaml_round.specs.round_engine.Readable.{IsReadableAnswer}
use Rattle.yaml_round.specs.round_engine.Checking.{IsChecked}
use Rattle.yaml_round_answers.specs.declared.answer.yaml_c_answer.{yaml_c_answer}
use Rattle.yaml_round_answers.specs.Told.{TellsText, TellsFault, TellsResult, IsAnswered, OrMemory}

abbrev pub Normalizes : List ℕ → yaml_encoding_t × yaml_settings_t → yaml_c_answer → Type 0
Normalizes input m = IsAnswered (OrMemory reformat_layers (IsReadableAnswer m.0 m.1 input))
    TellsResult

-- no text, or the fault
abbrev pub TellsDone : Result (Unit {0}) Fault → yaml_c_answer → Type 0
TellsDone (Ok done) a = TellsText [] (pos 0) a
TellsDone (Err fault) a = TellsFault fault (pos 0) a

abbrev pub Checks : List ℕ → yaml_encoding_t → yaml_c_answer → Type 0
Checks input from = IsAnswered (OrMemory load_layers (IsChecked from input)) TellsDone
