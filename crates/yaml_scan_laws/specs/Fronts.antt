-- What comes first of what is to come, where so much of the text is read.
use Rattle.std.specs.Prelude.{ℕ, ◌+◌, ◌≡◌, ◌<◌, ◌≤◌, Some, [], ◌∷◌, length, drop, slice_index_or}
use Rattle.yaml_scan_history.specs.scan_model.declared.problem.ScanFault.{ScanFault}
use Rattle.yaml_scan_history.specs.scan_model.Problems.{scanner_fault}
use Rattle.yaml_scan_history.specs.scan_types.Tokens.{Token, block_end}
use Rattle.yaml_scan_history.specs.declared.lexeme.Entry.{Entry}
use Rattle.yaml_scan_history.specs.History.{finished_tokens, first_open}
use Rattle.yaml_scan_history.specs.Next.{Fails, Ends, next, history}
use Rattle.yaml_scan_history.specs.Remaining.{SpelledText, before, spell, front_ends, Remaining, nothing, remaining}

-- the tokens to come begin with that one, and the rest is that
abbrev pub GivesFirst : Remaining → Token → Remaining → Type 0
GivesFirst now token rest = (now.tokens ≡ token ∷ rest.tokens) × (now.fault ≡ rest.fault)

-- A lexeme before the earliest open candidate gives its tokens, and then the next one does.
abbrev pub SettledComes : Type 0
SettledComes = (s : SpelledText) (n k given : ℕ) (e : Entry) (t : Token)
    → k < first_open (history s.text n) (history s.text n)
    → let x = slice_index_or (finished_tokens (history s.text n)) k e in
    (given < length (spell s x) → GivesFirst (remaining s k given)
    (slice_index_or (spell s x) given t) (remaining s k (given + 1)))
    × (given ≡ length (spell s x) → remaining s k given ≡ remaining s (k + 1) 0)

-- So does each lexeme, where all are read.
abbrev pub LastComes : Type 0
LastComes = (s : SpelledText) (n k given : ℕ) (e : Entry) (t : Token)
    → next s.text (history s.text n) ≡ Ends → k < length (history s.text n)
    → let x = slice_index_or (finished_tokens (history s.text n)) k e in
    (given < length (spell s x) → GivesFirst (remaining s k given)
    (slice_index_or (spell s x) given t) (remaining s k (given + 1)))
    × (given ≡ length (spell s x) → remaining s k given ≡ remaining s (k + 1) 0)

-- The levels that a lexeme closes are given before it is known whether it is a key, or lost.
abbrev pub EndsCome : Type 0
EndsCome = (s : SpelledText) (n k given : ℕ) (e : Entry) → k ≤ first_open (history s.text n)
    (history s.text n) → k < length (history s.text n)
    → let x = slice_index_or (finished_tokens (history s.text n)) k e in
    given < x.ends → GivesFirst (remaining s k given) (before block_end x.lexeme)
    (remaining s k (given + 1))

-- After that the fault comes, if one does.
abbrev pub FaultComes : Type 0
FaultComes = (s : SpelledText) (n : ℕ) (p : ScanFault) (given : ℕ) → let h = history s.text n in
    next s.text h ≡ Fails p → length
    (front_ends (drop (first_open h h) (finished_tokens h))) ≤ given
    → remaining s (first_open h h) given
    ≡ record { tokens = []; fault = Some (scanner_fault p) }

-- After the last lexeme nothing comes.
abbrev pub EndComes : Type 0
EndComes = (s : SpelledText) (n k given : ℕ) → next s.text (history s.text n) ≡ Ends
    → length (history s.text n) ≤ k → remaining s k given ≡ nothing
