-- The tokens that are known, and the scanner that found them.
use Rattle.std.specs.Prelude.{ℕ, ◌+◌, ◌^◌, ◌<◌, length, ◌≡◌, ◌≢◌, ◌≤◌, Bool, true, false, List, [], ◌∷◌, ◌++◌, map, All, Some, Result, Ok, Err, IfOk}
use Rattle.yaml_scan_model.specs.declared.fault.yaml_fault_t.{yaml_fault_t}
use Rattle.yaml_scan_model.specs.declared.fault.yaml_origin_t.TheVariants.{Reader}
use Rattle.yaml_scan_model.specs.declared.name.yaml_encoding_t.{yaml_encoding_t}
use Rattle.yaml_scan_model.specs.declared.name.yaml_encoding_t.TheVariants.{YAML_UTF8_ENCODING}
use Rattle.yaml_scan_types.specs.Faults.{Fault, fault_of, memory_fault}
use Rattle.yaml_scan_types.specs.Tokens.{Token, token_of, no_token}
use Rattle.yaml_scan_decode.specs.Decoding.{decoded_text}
use Rattle.yaml_scan_decode.specs.DecodedText.{decoding_fault, text_bytes}
use Rattle.yaml_scan_decode.specs.Encodings.{encoding_of}
use Rattle.yaml_scan_history.specs.History.{most_waiting}
use Rattle.yaml_scan_history.specs.Remaining.{Remaining, nothing}
use Rattle.yaml_scan_history.specs.Scanned.{scanned}
use Rattle.yaml_scan_core.specs.declared.scanner.Scanner.{Scanner}
use Rattle.yaml_scan_core.specs.Asked.{Waits}
use Rattle.yaml_scan_core.specs.Found.{HasMore, IsTold}
use Rattle.yaml_scan_core.specs.Handed.{to_come}
use Rattle.yaml_scan_core.specs.Owned.{IsRefused}
use Rattle.yaml_scan_core.specs.Scanning.{read_by, stream_of}
use Rattle.yaml_scan_core.specs.Told.{Locates}
use Rattle.yaml_scan_core.specs.Waiting.{IsRead, IsShort, ReadsNeeded, knows, taken_by}
use Rattle.yaml_scan.specs.declared.known.Known.{Known}
use Rattle.yaml_scan.specs.declared.known.Queue.{Queue}
use Rattle.yaml_scan.specs.declared.known.ScannedText.{ScannedText}

-- ---- the queue

-- the tokens, in order
abbrev pub tokens_of : List Known → List Token
tokens_of ks = map (λ (k : Known). token_of k.token) ks

-- the first one, or the empty token
abbrev pub first_known : List Known → Token
first_known [] = no_token
first_known (k ∷ ks) = token_of k.token

-- there is none
abbrev pub is_none : List Known → Bool
is_none [] = true
is_none (k ∷ ks) = false

-- they are to come, and then the others
abbrev pub comes_behind : List Known → Remaining → Remaining
comes_behind ks r = record { tokens = tokens_of ks ++ r.tokens; fault = r.fault }

-- how many lexemes have all their tokens taken once these are, of which that many had before
unfoldable pub taken_behind : List Known → ℕ → ℕ
taken_behind [] n = n
taken_behind (k ∷ ks) n = taken_behind ks k.taken

-- the first one is taken, if there is one
abbrev pub PopsFirst : List Known → ℕ → List Known → ℕ → Type 0
PopsFirst [] n rest m = (rest ≡ []) × (m ≡ n)
PopsFirst (k ∷ ks) n rest m = (rest ≡ ks) × (m ≡ k.taken)

-- ---- a scanner

-- The state between two calls: no fault was met, one lexeme is read at once, and few wait.
pub record IsReady (s : Scanner) : Type 0 where
  pub waits : Waits s
  pub read : IsRead s
  pub one : s.batch ≡ 1
  pub short : IsShort s
  pub long : length s.text.now < 2 ^ 63

-- A token is refused: the fault that is to come is reported, where none is, or memory ran out.
pub record Fails (s : Scanner) (f : Fault) : Type 0 where
  pub more : HasMore (to_come s).tokens (to_come s).fault
  pub told : IsRefused (to_come s) f

-- the next token is taken, as one that is known
pub record GivesOne (old new : Scanner) (k : Known) : Type 0 where
  pub ready : IsReady new
  pub stream : stream_of new ≡ stream_of old
  pub come : to_come old ≡ comes_behind (k ∷ []) (to_come new)
  pub taken : k.taken ≡ taken_by new
  pub few : read_by new ≤ taken_by old + most_waiting
  pub reads : ReadsNeeded old new

abbrev pub TakesOne : Scanner → Scanner → List Known → List Known → Result (Unit {0}) yaml_fault_t
    → Type 0
TakesOne old new was is (Ok done) = (k : Known) × (is ≡ was ++ k ∷ []) × GivesOne old new k
TakesOne old new was is (Err f) = Fails old (fault_of f)

-- tokens are taken, each known once those before it are
pub record Gives (old new : Scanner) (ks : List Known) : Type 0 where
  pub ready : IsReady new
  pub stream : stream_of new ≡ stream_of old
  pub come : to_come old ≡ comes_behind ks (to_come new)
  pub last : taken_behind ks (taken_by old) ≡ taken_by new
  pub few : read_by new ≤ taken_by old + most_waiting
  pub later : All (λ (k : Known). read_by new ≤ k.taken + most_waiting) ks
  pub reads : ReadsNeeded old new

-- all that are known are; none is where none is to come
pub record GivesAll (old new : Scanner) (ks : List Known) : Type 0 where
  pub gives : Gives old new ks
  pub idle : knows new ≡ false
  pub some : ks ≡ [] → to_come new ≡ nothing

abbrev pub Fills : Scanner → Scanner → List Known → Result (Unit {0}) yaml_fault_t → Type 0
Fills old new ks (Ok done) = GivesAll old new ks
Fills old new ks (Err f) = Fails old (fault_of f)

-- ---- a scanner that rests without its text

-- the same over a text
abbrev pub over : List ℕ → Scanner → Scanner
over text s = record s { text = record { ref_ptr = (0, 0); now = text } }

abbrev pub scanner_of : ScannedText → Scanner
scanner_of z = over (text_bytes z.text) z.scanner

-- it is that of an input
pub record StandsFor (setting : yaml_encoding_t) (bytes : List ℕ) (z : ScannedText) : Type 0 where
  pub decoded : decoded_text setting bytes ≡ Ok (text_bytes z.text)
  pub encoding : z.scanner.encoding ≡ encoding_of setting bytes
  pub ready : IsReady (scanner_of z)
  pub locates : Locates (text_bytes z.text) z.locator

-- before its first token
pub record StandsFirst (setting : yaml_encoding_t) (bytes : List ℕ) (z : ScannedText) : Type 0 where
  pub stands : StandsFor setting bytes z
  pub going : z.scanner.ended ≡ false
  pub come : to_come (scanner_of z) ≡ scanned setting bytes
  pub one : read_by (scanner_of z) ≡ 1
  pub none : taken_by (scanner_of z) ≡ 0

-- why there is none: what is to come of the input is that fault, or memory ran out
pub record IsRefusedText (setting : yaml_encoding_t) (bytes : List ℕ) (f : Fault) : Type 0 where
  pub told : IsTold (scanned setting bytes) f
  pub reader : f ≡ memory_fault Reader → encoding_of setting bytes ≢ YAML_UTF8_ENCODING
  pub plain : (g : Fault) → encoding_of setting bytes ≡ YAML_UTF8_ENCODING
      → decoding_fault setting bytes ≡ Some g → f ≡ g

abbrev pub Begins : yaml_encoding_t → List ℕ → Result ScannedText yaml_fault_t → Type 0
Begins setting bytes (Ok z) = StandsFirst setting bytes z
Begins setting bytes (Err f) = IsRefusedText setting bytes (fault_of f)

-- its text stays, and its next tokens are taken
pub record FillsText (old new : ScannedText) (was is : Queue) (r : Result (Unit {0}) yaml_fault_t)
    : Type 0 where
  pub text : text_bytes new.text ≡ text_bytes old.text
  pub locates : IfOk r (λ done. Locates (text_bytes new.text) new.locator)
  pub taken : is.taken ≡ was.taken
  pub fills : Fills (scanner_of old) (scanner_of new) is.known.items r
