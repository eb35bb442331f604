-- How many of the lexemes that were read wait, and that none is read before it is needed.
use Rattle.std.specs.Prelude.{ℕ, ◌+◌, ◌≡◌, ◌≢◌, ◌≤◌, ◌<◌, ◌⊎◌, Bool, false, ◌&&◌, ◌||◌, nat_lt, length}
use Rattle.yaml_scan_history.specs.History.{most_waiting}
use Rattle.yaml_scan_model.specs.declared.kind.Kind.{Kind}
use Rattle.yaml_scan_model.specs.declared.kind.Kind.TheVariants as kinds
use Rattle.yaml_scan_core.specs.declared.scanner.Scanner.{Scanner}
use Rattle.yaml_scan_core.specs.Asked.{front_lexeme}
use Rattle.yaml_scan_core.specs.Handed.{to_come}
use Rattle.yaml_scan_core.specs.Scanning.{IsGoing, IsOver, fixed_of, read_by, stream_of}
pub use Rattle.yaml_scan_core.specs.Scanning.{taken_by}
use Rattle.yaml_scan_core.specs.Settled.{settles_in}

-- The next token is known, whatever follows: its lexeme is settled, or it is a BLOCK-END before one that isn't.
abbrev pub knows : Scanner → Bool
knows s = nat_lt s.row.next s.row.settled || (nat_lt s.row.next (length s.row.lexemes.items)
    && nat_lt 0 (front_lexeme s).ends)

-- At most 1,025 lexemes wait: a `:` is looked for within 1,024 bytes of its key.
abbrev pub IsShort : Scanner → Type 0
IsShort s = length s.row.lexemes.items ≤ s.row.next + most_waiting

-- no fault was met, and memory didn't run out
abbrev pub IsRead : Scanner → Type 0
IsRead s = IsGoing s ⊎ IsOver s

-- no token is left before the fault, or before what comes when out of memory
pub record IsAtFault (s : Scanner) : Type 0 where
  pub last : s.row.settled ≡ s.row.next + 1
  pub all : s.row.settled ≡ length s.row.lexemes.items
  pub front : (front_lexeme s).front ≡ kinds.Failed

-- One more is read; or none, and where the next token wasn't known the fault is next.
abbrev pub ReadsOne : Scanner → Scanner → Type 0
ReadsOne old new = (IsRead new × (read_by new ≡ read_by old + 1))
    ⊎ (IsGoing old → knows old ≡ false → IsAtFault new)

-- lexemes were read, each where those before it don't settle the next token
pub record ReadsNeeded (old new : Scanner) : Type 0 where
  pub read : IsRead new
  pub further : read_by old ≤ read_by new
  pub needed : (n : ℕ) → read_by old ≤ n → n < read_by new
      → settles_in (stream_of old) (to_come old).tokens n ≡ false

-- the fault is next, or memory ran out, where the lexemes that were read don't settle the next token
pub record FailsNeeded (old new : Scanner) : Type 0 where
  pub fault : IsAtFault new
  pub sought : settles_in (stream_of old) (to_come old).tokens (read_by old) ≡ false

-- What reading came to where one lexeme is read at once: few wait, and none was read before it was needed.
pub record Needs (old new : Scanner) : Type 0 where
  pub short : IsShort old → IsShort new
  pub reads : ReadsNeeded old new ⊎ FailsNeeded old new

-- What asking for the next token's kind came to, where one is read at once.
pub record TellsNeeded (k : Kind) (old new : Scanner) : Type 0 where
  pub fixed : fixed_of new ≡ fixed_of old
  pub taken : taken_by new ≡ taken_by old
  pub short : IsShort old → IsShort new
  pub reads : ((k ≢ kinds.Failed) × ReadsNeeded old new)
      ⊎ ((k ≡ kinds.Failed) × FailsNeeded old new)

-- What taking a token came to: none is read.
pub record TakesNeeded (old new : Scanner) : Type 0 where
  pub fixed : fixed_of new ≡ fixed_of old
  pub taken : taken_by old ≤ taken_by new
  pub short : IsShort old → IsShort new
  pub read : IsRead old → IsRead new
  pub count : read_by new ≡ read_by old
