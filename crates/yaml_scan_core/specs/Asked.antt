-- What is asked of a scanner: which token is next, and what the one carries that was taken last.
use Rattle.std.specs.Prelude.{ℕ, ◌-◌, ◌≡◌, ◌≢◌, ◌<◌, ◌≤◌, ◌⊎◌, List, [], ◌∷◌, length, Some, None}
use Rattle.yaml_scan_model.specs.declared.name.yaml_encoding_t.{yaml_encoding_t}
use Rattle.yaml_scan_model.specs.scan_types.Tokens.{Token, TokenBody}
use Rattle.yaml_scan_model.specs.Problems.{scanner_fault}
use Rattle.yaml_scan_model.specs.Coming.{rest_of}
use Rattle.yaml_scan_history.specs.Remaining.{Remaining, nothing, offline}
use Rattle.yaml_scan_model.specs.declared.kind.Kind.{Kind}
use Rattle.yaml_scan_model.specs.declared.kind.Kind.TheVariants as kinds
use Rattle.yaml_scan_model.specs.Kinds.{IsOf}
use Rattle.yaml_scan_core.specs.declared.fault.Fault.{Fault}
use Rattle.yaml_scan_core.specs.declared.lexeme.Lexeme.{Lexeme}
use Rattle.yaml_scan_core.specs.declared.scanner.Scanner.{Scanner}
use Rattle.yaml_scan_core.specs.Rows.{row_lexeme, row_of}
use Rattle.yaml_scan_core.specs.Shown.{Carries, Store, end_at, place_mark, store_of}
use Rattle.yaml_scan_core.specs.Handed.{to_come}
use Rattle.yaml_scan_core.specs.Scanning.{IsGoing, Rests, fault_in, read_by, stream_of, taken_by}

-- the state between two calls
pub record Waits (s : Scanner) : Type 0 where
  pub rests : Rests s
  pub some : 0 < s.batch

-- before the first token of a text, of which that many lexemes are read at once: all of it is to come
pub record Starts (encoding : yaml_encoding_t) (text : List ℕ) (batch : ℕ) (s : Scanner)
    : Type 0 where
  pub waits : Waits s
  pub going : IsGoing s
  pub stream : stream_of s ≡ record { encoding = encoding; text = text }
  pub come : to_come s ≡ offline (stream_of s)
  pub many : s.batch ≡ batch
  pub read : read_by s ≡ 1
  pub taken : taken_by s ≡ 0

-- where its texts lie
abbrev pub store_in : Scanner → Store
store_in s = store_of s.text.now (row_of s.row)

-- the lexeme whose token is next
abbrev pub front_lexeme : Scanner → Lexeme
front_lexeme s = row_lexeme (row_of s.row) s.row.next

-- the one of which a token was taken last
abbrev pub last_lexeme : Scanner → Lexeme
last_lexeme s = row_lexeme (row_of s.row) (s.row.next - 1)

-- A token of that kind is next: one that is before a lexeme's own, or that one, which carries its text.
pub record IsFront (k : Kind) (s : Scanner) : Type 0 where
  pub some : s.row.next < length s.row.lexemes.items
  pub kind : k ≡ (front_lexeme s).front
  pub ends : k ≡ kinds.BlockEnd → 0 < (front_lexeme s).ends
  pub settled : k ≢ kinds.BlockEnd → s.row.next < s.row.settled
  pub token : Token
  pub rest : List Token
  pub first : (to_come s).tokens ≡ token ∷ rest
  pub start : place_mark s.text.now (front_lexeme s).start ≡ token.start_mark
  pub lead_end : (front_lexeme s).front ≢ (front_lexeme s).kind → token.end_mark ≡ token.start_mark
  pub own_end : (front_lexeme s).front ≡ (front_lexeme s).kind
      → place_mark s.text.now (end_at (store_in s) (front_lexeme s)) ≡ token.end_mark
  pub lead : (front_lexeme s).front ≢ (front_lexeme s).kind → IsOf k token.body
  pub own : (front_lexeme s).front ≡ (front_lexeme s).kind
      → Carries (store_in s) (stream_of s) (front_lexeme s) (front_lexeme s).kind token.body

-- Memory ran out, or no token is to come, and that fault is.
abbrev pub TellsFault : Remaining → Scanner → Type 0
TellsFault r s = (s.fault ≡ None) ⊎ ((r.tokens ≡ []) × ((f : Fault) × (s.fault ≡ Some f)
    × (r.fault ≡ Some (scanner_fault (fault_in s.text.now f)))))

-- That kind was answered for the next token; a fault is there like a token.
abbrev pub ShowsKind : Kind → Remaining → Scanner → Type 0
ShowsKind kinds.Failed r s = TellsFault r s × (s.row.next < s.row.settled)
    × ((front_lexeme s).front ≡ kinds.Failed)
ShowsKind kinds.Nothing r s = (r ≡ nothing) × (to_come s ≡ nothing)
ShowsKind k r s = IsFront k s × (to_come s ≡ r)

-- what is to come after the first token
abbrev pub behind_first : Remaining → Remaining
behind_first r = record { tokens = rest_of r.tokens; fault = r.fault }

-- the token that was taken last was a lexeme's own, which carries that
pub record HasTaken (s : Scanner) (b : TokenBody) : Type 0 where
  pub some : 0 < s.row.next
  pub inside : s.row.next ≤ length s.row.lexemes.items
  pub carries : Carries (store_in s) (stream_of s) (last_lexeme s) (last_lexeme s).kind b
