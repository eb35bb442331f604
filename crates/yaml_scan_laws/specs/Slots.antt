-- Where candidates are: which `:` meets none, and which is near its key; levels that open;
-- columns after white.
use Rattle.std.specs.Prelude.{◌≡◌, ◌<◌, ◌≤◌, ◌+◌, ◌==◌, ℕ, Bool, true, false, not, ◌&&◌, nat_lt, if◌then◌else◌, List, [], ◌∷◌, ◌++◌, length, Option, Some, None}
use Rattle.yaml_scan_history.specs.scan_types.Ascii as ascii
use Rattle.yaml_scan_history.specs.scan_model.declared.record.yaml_mark_t.{yaml_mark_t}
use Rattle.yaml_scan_history.specs.scan_types.Marks.{byte, line_at, column_at, mark_at}
use Rattle.yaml_scan_history.specs.Written.{has_break}
use Rattle.yaml_scan_history.specs.declared.kind.Kind.{Kind}
use Rattle.yaml_scan_history.specs.declared.lexeme.Lexeme.{Lexeme}
use Rattle.yaml_scan_history.specs.declared.lexeme.Opens.{Opens}
use Rattle.yaml_scan_history.specs.declared.lexeme.Opens.TheVariants as opening
use Rattle.yaml_scan_history.specs.Kinds.{may_be_key, cancels}
use Rattle.yaml_scan_history.specs.History.{flow_depth, Candidate, candidate, fresh, is_fresh, indent, opened, start_of}
use Rattle.yaml_scan_history.specs.Words.{WordText}
use Rattle.yaml_scan_laws.specs.TextFronts.{read_at}
use Rattle.yaml_scan_laws.specs.White.{IsGap}
use Rattle.yaml_scan_laws.specs.Keys.{IsInKey}

-- ---- candidates on earlier lines

abbrev pub StartsBy : Option Candidate → ℕ → Type 0
StartsBy None n = Unit {0}
StartsBy (Some c) n = c.lexeme.start.line ≤ n

-- every candidate starts on that line or before it
abbrev pub Started : List Lexeme → ℕ → Type 0
Started h n = (e : ℕ) → StartsBy (candidate e h) n

-- Nothing but the stream's start has candidates on no line; a lexeme adds its own line.
pub record StartedGoesOn : Type 0 where
  pub nothing : (n : ℕ) → Started [] n
  pub more : (l : Lexeme) (h : List Lexeme) (n m : ℕ) → Started h n → n ≤ m → l.start.line ≤ m
      → Started (l ∷ h) m

-- On a later line a `:` meets no candidate.
abbrev pub LaterIsLone : Type 0
LaterIsLone = (text : List ℕ) (h : List Lexeme) (d q n : ℕ) → Started h n → n < line_at text q
    → fresh (candidate d h) (mark_at text q) ≡ None

-- A break in white ends a line.
abbrev pub BreakEndsLine : Type 0
BreakEndsLine = (text : List ℕ) (p : ℕ) (gap : List ℕ) → IsGap text p gap → has_break gap ≡ true
    → line_at text p < line_at text (p + length gap)

-- What is near at a place is near before it.
abbrev pub NearBefore : Type 0
NearBefore = (text : List ℕ) (start : yaml_mark_t) (p q : ℕ) → p ≤ q
    → is_fresh start (mark_at text q) ≡ true → is_fresh start (mark_at text p) ≡ true

-- ---- one depth's candidate

-- It stays after a word of its depth that neither may be a key nor cancels, and after what is
-- deeper; what may be no key and cancels takes it away; and none is in a bracket that has just
-- opened.
pub record SlotsGoOn : Type 0 where
  pub stays : (text : List ℕ) (h : List Lexeme) (d e : ℕ) (k : Kind) (q : ℕ) (a : Bool)
      (w : WordText) → flow_depth h ≡ e
      → IsInKey k d e a → candidate d (read_at text h k q a w ∷ h) ≡ candidate d h
  pub goes : (text : List ℕ) (h : List Lexeme) (d : ℕ) (k : Kind) (q : ℕ) (a : Bool)
      (w : WordText) → flow_depth h ≡ d
      → (a && may_be_key k) ≡ false → cancels k ≡ true → candidate d (read_at text h k q a w
      ∷ h) ≡ None
  pub opens : (text : List ℕ) (h : List Lexeme) (d e : ℕ) (k : Kind) (q : ℕ) (a : Bool)
      (w : WordText) → flow_depth h ≡ d
      → d < e → candidate e (read_at text h k q a w ∷ h) ≡ None

-- A `:` meets no candidate where there is none.
abbrev pub NoneIsLone : Type 0
NoneIsLone = (text : List ℕ) (h : List Lexeme) (d q : ℕ) → candidate d h ≡ None
    → fresh (candidate d h) (mark_at text q) ≡ None

-- ---- the level that opens

-- Right of the innermost level one opens, and is the innermost then; else none does, and none in
-- brackets.
pub record LevelOpens : Type 0 where
  pub opens : (m : ℕ) (ls : List ℕ) (what : Opens) → indent ls < m
      → (opened true m ls ≡ ls ++ m ∷ []) × (start_of 0 m ls what ≡ what)
  pub stays : (m : ℕ) (ls : List ℕ) (what : Opens) → m ≤ indent ls
      → (opened true m ls ≡ ls) × (start_of 0 m ls what ≡ opening.Nothing)
  pub inside : (d m : ℕ) (ls : List ℕ) (what : Opens) → nat_lt 0 d ≡ true
      → (opened (not (nat_lt 0 d)) m ls ≡ ls) × (start_of d m ls what ≡ opening.Nothing)
  pub last : (m : ℕ) (ls : List ℕ) → indent (ls ++ m ∷ []) ≡ m

-- ---- columns

-- the column after spaces and breaks
abbrev pub column_behind : List ℕ → ℕ → ℕ
column_behind [] c = c
column_behind (b ∷ bs) c = column_behind bs (if b == ascii.space then c + 1 else 0)

abbrev pub WhiteColumns : Type 0
WhiteColumns = (text : List ℕ) (p : ℕ) (gap : List ℕ) → IsGap text p gap
    → column_at text (p + length gap) ≡ column_behind gap (column_at text p)

-- A printed ASCII character takes one column, on its line.
abbrev pub LetterColumns : Type 0
LetterColumns = (text : List ℕ) (p b : ℕ) → byte text p ≡ b → ascii.unit_separator < b
    → b < ascii.delete
    → (column_at text (p + 1) ≡ column_at text p + 1) × (line_at text (p + 1) ≡ line_at text p)
