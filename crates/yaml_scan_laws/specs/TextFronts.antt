-- What is known after lexemes that came one after the other.
use Rattle.std.specs.Prelude.{◌≡◌, ◌⊎◌, ◌<◌, ◌-◌, ℕ, Bool, true, false, List, [], ◌∷◌, ◌&&◌, nat_lt, length, Option, Some, None, Ok}
use Rattle.yaml_scan_history.specs.scan_model.declared.record.yaml_mark_t.{yaml_mark_t}
use Rattle.yaml_scan_history.specs.scan_model.declared.name.yaml_encoding_t.{yaml_encoding_t}
use Rattle.yaml_scan_history.specs.scan_types.Marks.{column_at, mark_at}
use Rattle.yaml_scan_history.specs.declared.kind.Kind.{Kind}
use Rattle.yaml_scan_history.specs.declared.lexeme.Lexeme.{Lexeme}
use Rattle.yaml_scan_history.specs.declared.lexeme.Entry.{Entry}
use Rattle.yaml_scan_history.specs.declared.lexeme.Opens.{Opens}
use Rattle.yaml_scan_history.specs.Kinds.{may_be_key, is_outside}
use Rattle.yaml_scan_history.specs.History.{flow_depth, ended, Candidate, candidate, is_fresh, left_by, open_levels, finished_tokens}
use Rattle.yaml_scan_history.specs.Words.{WordText, kind_at, lexeme_at}
use Rattle.yaml_scan_history.specs.Next.{Read, next, first_lexeme, gap_behind, allowed_behind, begun, level_in}
use Rattle.yaml_scan_history.specs.Remaining.{body_in}

-- Lexemes that come one after the other, from the stream's start on; the newest is first.
unfoldable pub Came : List ℕ → List Lexeme → Type 0
Came text [] = ⊥
Came text (l ∷ []) = l ≡ first_lexeme
Came text (l ∷ x ∷ h) = (next text (x ∷ h) ≡ Read l) × Came text (x ∷ h)

-- margins that rise from a bound on
unfoldable pub Rises : ℕ → List ℕ → Type 0
Rises b [] = Unit {0}
Rises b (m ∷ ms) = (b < m) × Rises m ms

-- What is known after lexemes: they came, and that many brackets, these levels and these entries
-- are there.
pub record Front (text : List ℕ) (h : List Lexeme) (d : ℕ) (ms : List ℕ)
    (es : List Entry) : Type 0 where
  pub came : Came text h
  pub going : ended h ≡ false
  pub depth : flow_depth h ≡ d
  pub levels : open_levels h ≡ ms
  pub rises : Rises 0 ms
  pub entries : finished_tokens h ≡ es

-- no `:` is owed to it
abbrev pub IsFree : Option Candidate → Type 0
IsFree None = Unit {0}
IsFree (Some c) = c.lexeme.required ≡ false

-- no `:` is owed at any depth
abbrev pub Idle : List Lexeme → Type 0
Idle h = (e : ℕ) → IsFree (candidate e h)

-- its `:` isn't owed, or may still come at that place
abbrev pub InTime : Option Candidate → yaml_mark_t → Type 0
InTime None m = Unit {0}
InTime (Some c) m = (c.lexeme.required ≡ false) ⊎ (is_fresh c.lexeme.start m ≡ true)

-- The candidate of a depth, beside which no `:` is owed.
pub record Holds (h : List Lexeme) (d : ℕ) (c : Candidate) : Type 0 where
  pub slot : candidate d h ≡ Some c
  pub others : (e : ℕ) → (d ≡ e → ⊥) → IsFree (candidate e h)

-- What is after lexemes, where that many brackets are open: its place, whether a key may begin
-- there, its kind, and its word in that level.
pub record Meets (text : List ℕ) (h : List Lexeme) (d level : ℕ) (k : Kind) (q : ℕ) (a : Bool)
    (w : WordText) : Type 0 where
  pub place : (gap_behind text h).place ≡ q
  pub allowed : allowed_behind h (gap_behind text h) ≡ a
  pub kind : kind_at (nat_lt 0 d) text q ≡ Some k
  pub word : lexeme_at k (nat_lt 0 d) level text q ≡ Ok w

-- the lexeme of a kind that isn't the stream's end, at a place after lexemes
abbrev pub read_at : List ℕ → List Lexeme → Kind → ℕ → Bool → WordText → Lexeme
read_at text h k q a w = record {
  kind = k;
  start = mark_at text q;
  end = mark_at text w.end;
  reached = mark_at text w.reached;
  depth = flow_depth h;
  level = level_in k (column_at text q) h;
  saved = a && may_be_key k;
  required = (begun k (mark_at text q) a h).required;
  broke = w.broke;
}

-- an entry that is no key
abbrev pub entry : Lexeme → ℕ → Opens → Entry
entry l n what = record { lexeme = l; ends = n; opens = what; key = false }

-- A lexeme at a column, after that many open brackets, leaves ls of the levels ms, and closes n.
pub record LeavesLevels (d c : ℕ) (ms ls : List ℕ) (n : ℕ) : Type 0 where
  pub left : (k : Kind) → is_outside k ≡ false → left_by k d c ms ≡ ls
  pub closed : length ms - length ls ≡ n
  pub rises : Rises 0 ls

-- its token says what its word does, however the text was encoded
abbrev pub Says : List ℕ → Lexeme → WordText → Type 0
Says text l w = (x : yaml_encoding_t)
    → body_in (record { encoding = x; text = text }) l ≡ w.body

-- A lexeme is read, and this is known after it; no `:` is owed.
pub record Pushed (text : List ℕ) (h : List Lexeme) (l : Lexeme) (w : WordText) (d : ℕ)
    (ms : List ℕ) (es : List Entry) : Type 0 where
  pub read : next text h ≡ Read l
  pub body : Says text l w
  pub front : Front text (l ∷ h) d ms es
  pub idle : Idle (l ∷ h)

-- A word is read that may turn out to be a key's first, or goes on with one: its candidate is held
-- at that depth.
pub record Held (text : List ℕ) (h : List Lexeme) (l : Lexeme) (w : WordText) (d e : ℕ)
    (c : Candidate) (ms : List ℕ) (es : List Entry) : Type 0 where
  pub read : next text h ≡ Read l
  pub body : Says text l w
  pub front : Front text (l ∷ h) e ms es
  pub holds : Holds (l ∷ h) d c
