-- What a clause sees of a session.
use Rattle.std.specs.Prelude.{ℕ, ◌+◌, ◌-◌, ◌≡◌, ◌≤◌, false, List, [], All, Option, Some, None, option_map, Result, Ok, Err}
use Rattle.yaml_scan_model.specs.declared.fault.yaml_fault_t.{yaml_fault_t}
use Rattle.yaml_scan_model.specs.declared.name.yaml_encoding_t.{yaml_encoding_t}
use Rattle.yaml_scan_types.specs.Faults.{Fault, fault_of}
use Rattle.yaml_scan_types.specs.Tokens.{no_token, token_of}
use Rattle.yaml_scan_history.specs.History.{most_waiting}
use Rattle.yaml_scan_history.specs.Remaining.{Remaining, nothing}
use Rattle.yaml_scan_history.specs.Scanned.{scanned}
use Rattle.yaml_scan_core.specs.Handed.{to_come}
use Rattle.yaml_scan_core.specs.Scanning.{read_by}
use Rattle.yaml_scan_core.specs.Waiting.{knows, taken_by}
use Rattle.yaml_scan.specs.declared.known.Known.{Known}
use Rattle.yaml_scan.specs.declared.known.ScannedText.{ScannedText}
use Rattle.yaml_scan.specs.declared.reading.Reading.{Reading}
use Rattle.yaml_scan.specs.declared.session.yaml_parser_t.TheInside.{Inside}
use Rattle.yaml_scan.specs.Known.{Begins, StandsFor, first_known, comes_behind, scanner_of, taken_behind}
use Rattle.yaml_scan.specs.Session.{HasMore, IsTold, Lends, PlainIsTold, ReaderMayLack, View, is_settled}

-- how many lexemes were read
abbrev pub read_in : Option ScannedText → ℕ
read_in None = 0
read_in (Some z) = read_by (scanner_of z)

-- what is to come after the tokens that are known
abbrev pub left_in : yaml_encoding_t → List ℕ → Option ScannedText → Remaining
left_in setting bytes None = scanned setting bytes
left_in setting bytes (Some z) = to_come (scanner_of z)

-- nothing comes after a fault that was answered
abbrev pub unless_answered : Option yaml_fault_t → Remaining → Remaining
unless_answered (Some f) c = nothing
unless_answered None c = c

abbrev pub view_by : yaml_encoding_t → List ℕ → Option ScannedText → List Known → ℕ
    → Option yaml_fault_t → View
view_by setting bytes standing ks taken fault = record {
  setting = setting;
  bytes = bytes;
  read = read_in standing;
  remaining = unless_answered fault (comes_behind ks (left_in setting bytes standing));
  answered = option_map (λ f. fault_of f) fault;
  waiting = read_in standing - taken;
}

abbrev pub view_of : Reading → View
view_of r = view_by r.setting r.input.now r.standing r.queue.known.items r.queue.taken r.fault

-- Between two calls all tokens are known that the lexemes that were read settle, and none is where none was read.
pub record HoldsKnown (setting : yaml_encoding_t) (bytes : List ℕ) (z : ScannedText)
    (ks : List Known) (taken : ℕ) : Type 0 where
  pub stands : StandsFor setting bytes z
  pub idle : knows (scanner_of z) ≡ false
  pub last : taken_behind ks taken ≡ taken_by (scanner_of z)
  pub later : All (λ (k : Known). read_by (scanner_of z) ≤ k.taken + most_waiting) ks

abbrev pub Holds : yaml_encoding_t → List ℕ → Option ScannedText → List Known → ℕ → Type 0
Holds setting bytes None ks taken = (ks ≡ []) × (taken ≡ 0)
Holds setting bytes (Some z) ks taken = HoldsKnown setting bytes z ks taken

pub record IsReading (r : Reading) : Type 0 where
  pub holds : r.fault ≡ None
      → Holds r.setting r.input.now r.standing r.queue.known.items r.queue.taken
  pub over : (f : yaml_fault_t) → r.fault ≡ Some f → r.queue.known.items ≡ []
  pub few : read_in r.standing ≤ r.queue.taken + most_waiting
  pub empty : token_of r.none ≡ no_token

-- the scanner that rests, or a new one
abbrev pub Stood : Option ScannedText → yaml_encoding_t → List ℕ
    → Result ScannedText yaml_fault_t → Type 0
Stood (Some z) setting bytes r = r ≡ Ok z
Stood None setting bytes r = Begins setting bytes r

-- why the next token is refused
pub record Denies (v : View) (f : Fault) : Type 0 where
  pub sought : is_settled v ≡ false
  pub more : HasMore v.remaining.tokens v.remaining.fault
  pub told : IsTold v.remaining f
  pub reader : ReaderMayLack v f
  pub plain : PlainIsTold v f

-- the next token is known, or none is to come; or it is refused
abbrev pub ReadsOn : Reading → Reading → Result (Unit {0}) yaml_fault_t → Type 0
ReadsOn old new (Ok done) = IsReading new
    × Lends (view_of old) (first_known new.queue.known.items) (view_of new)
ReadsOn old new (Err f) = Denies (view_of old) (fault_of f)

-- nothing changes except the scanner that rests and the queue
abbrev pub Keeps : Reading → Reading → Type 0
Keeps old new = new ≡ record old { standing = new.standing; queue = new.queue }

abbrev pub session_view : Inside → View
session_view s = view_of s.reading

abbrev pub IsSession : Inside → Type 0
IsSession s = IsReading s.reading
