-- What is known of the lexemes of every text.
use Rattle.std.specs.Prelude.{ℕ, suc, ◌+◌, ◌≡◌, ◌≢◌, ◌<◌, ◌≤◌, Some, List, ◌++◌, length, take}
use Rattle.yaml_scan_history.specs.declared.lexeme.Lexeme.{Lexeme}
use Rattle.yaml_scan_history.specs.History.{key_bytes, most_waiting, reached, Candidate, candidate, fresh, finished_tokens, first_open}
use Rattle.yaml_scan_history.specs.Next.{Read, next, history}
use Rattle.yaml_scan_history.specs.Remaining.{all, handed}
use Rattle.yaml_scan_history.specs.Laws as layout
use Rattle.yaml_scan_laws.specs.Standing.{StandsIn}

-- Each lexeme is after the ones before it.
abbrev pub GoesForward : Type 0
GoesForward = (text : List ℕ) → layout.GoesForward text

-- Each lexeme after the stream's start has the marks of its places, and starts where the one before it was left, or after.
abbrev pub LexemesStand : Type 0
LexemesStand = (text : List ℕ) (n : ℕ) (l : Lexeme) → next text (history text (suc n)) ≡ Read l
    → ((reached (history text (suc n))).index ≤ l.start.index) × StandsIn text l

-- Of the lexemes of n steps, those before the earliest open candidate are handed out as they are, whatever follows.
abbrev pub SettledStays : Type 0
SettledStays = (text : List ℕ) (n m : ℕ) → m ≤ first_open (history text n) (history text n)
    → take m (handed text) ≡ take m (finished_tokens (history text n))

-- A text has at most two lexemes more than bytes.
abbrev pub AreFew : Type 0
AreFew = (text : List ℕ) (n : ℕ) → length (history text n) ≤ length text + 2

-- While lexemes are read, n steps have read n of them, fewer than two more than the text has bytes.
abbrev pub StepsCount : Type 0
StepsCount = (text : List ℕ) (n : ℕ) (l : Lexeme) → next text (history text n) ≡ Read l
    → (length (history text n) ≡ n) × (n < length text + 2)

-- No lexeme comes after all of them.
abbrev pub AllEnds : Type 0
AllEnds = (text : List ℕ) (l : Lexeme) → next text (all text) ≢ Read l

-- Where nothing more is read, the lexemes are all.
abbrev pub LastIsAll : Type 0
LastIsAll = (text : List ℕ) (n : ℕ) → ((l : Lexeme) → next text (history text n) ≢ Read l)
    → all text ≡ history text n

-- Steps after the last one change nothing.
abbrev pub StaysAll : Type 0
StaysAll = (text : List ℕ) (n : ℕ) → length text + 2 ≤ n → history text n ≡ all text

-- Further steps put lexemes before those of the steps before.
abbrev pub HistoryGrows : Type 0
HistoryGrows = (text : List ℕ) (n m : ℕ) → n ≤ m → (newer : List Lexeme)
    × (history text m ≡ newer ++ history text n)

-- The earliest open candidate starts on the line that is reached, at most `key_bytes` before the place that is reached.
abbrev pub HeldIsShort : Type 0
HeldIsShort = (text : List ℕ) (n : ℕ) → first_open (history text n) (history text n)
    < length (history text n) → (c : Candidate)
    × (c.number ≡ first_open (history text n) (history text n))
    × (candidate c.lexeme.depth (history text n) ≡ Some c)
    × ((reached (history text n)).line ≡ c.lexeme.start.line)
    × ((reached (history text n)).index ≤ c.lexeme.start.index + key_bytes)

-- At most 1,025 lexemes are held from the earliest open candidate on.
abbrev pub FewAreHeld : Type 0
FewAreHeld = (text : List ℕ) (n : ℕ) → length (history text n) ≤ first_open (history text n)
    (history text n) + most_waiting

-- At most 1,024 of them wait where one more is read.
abbrev pub FewWait : Type 0
FewWait = (text : List ℕ) (n : ℕ) (l : Lexeme) → next text (history text n) ≡ Read l
    → length (history text n) ≤ first_open (history text n) (history text n) + key_bytes

-- An open candidate outside all brackets is the earliest open one.
abbrev pub OuterIsFirst : Type 0
OuterIsFirst = (h : List Lexeme) (c : Candidate) → fresh (candidate 0 h) (reached h) ≡ Some c
    → first_open h h ≡ c.number
