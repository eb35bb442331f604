-- What reading a lexeme's text answers.
use Rattle.std.specs.Prelude.{ℕ, ◌≡◌, ◌≤◌, Bool, true, false, nat_lt, List, [], ◌∷◌, ◌++◌, length, Option, Some, None, Result, Ok, Err, OnOk, OnErr}
use Rattle.std.specs.declared.alloc.AllocError.{AllocError}
use Rattle.yaml_scan_model.specs.scan_types.Marks.{mark_at}
use Rattle.yaml_scan_model.specs.Wrong.{Wrong, scan_fault}
use Rattle.yaml_scan_history.specs.declared.kind.Kind.{Kind as ReadKind}
use Rattle.yaml_scan_history.specs.declared.kind.Kind.TheVariants as reads
use Rattle.yaml_scan_history.specs.declared.lexeme.Opens.TheVariants as opening
use Rattle.yaml_scan_history.specs.Words.{WordText, lexeme_at}
use Rattle.yaml_scan_core.specs.declared.fault.Fault.{Fault}
use Rattle.yaml_scan_core.specs.declared.fault.Refused.{Refused}
use Rattle.yaml_scan_core.specs.declared.lexeme.Lexeme.{Lexeme}
use Rattle.yaml_scan_core.specs.declared.lexeme.Note.{Note}
use Rattle.yaml_scan_core.specs.declared.scanner.Scanner.{Scanner}
use Rattle.yaml_scan_core.specs.declared.word.Word.{Word}
use Rattle.yaml_scan_core.specs.Candidates.{inner, stack_of}
use Rattle.yaml_scan_core.specs.Rows.{HasRoom, RowView, first_kind, is_set, noted, row_of}
use Rattle.yaml_scan_core.specs.Shown.{Carries, Store, end_at, opens_in, store_of}
use Rattle.yaml_scan_core.specs.Scanning.{IsPlace, fault_in, stream_of}

-- ---- kinds

-- a lexeme with a text that may be a key
abbrev pub is_key_word : ReadKind → Bool
is_key_word reads.Alias = true
is_key_word reads.Anchor = true
is_key_word reads.Tag = true
is_key_word reads.SingleQuoted = true
is_key_word reads.DoubleQuoted = true
is_key_word reads.Plain = true
is_key_word _ = false

-- a lexeme with a text that ends its line
abbrev pub is_line_word : ReadKind → Bool
is_line_word reads.Directive = true
is_line_word reads.Literal = true
is_line_word reads.Folded = true
is_line_word _ = false

abbrev pub is_scalar : ReadKind → Bool
is_scalar reads.Literal = true
is_scalar reads.Folded = true
is_scalar _ = false

-- ---- what is put

-- the notes that a word puts
abbrev pub notes_of : Word → List Note
notes_of w = elim w.note as (λ _. List Note) [ Some n ↦ n ∷ [] | None ↦ [] ]

-- its lexeme, after that many notes
abbrev pub lexeme_of : Word → ℕ → Lexeme
lexeme_of w n = elim w.note as (λ _. Lexeme) [ Some x ↦ noted n w.lexeme | None ↦ w.lexeme ]

abbrev pub put : Word → RowView → RowView
put w r = record r {
  lexemes = r.lexemes ++ lexeme_of w (length r.notes) ∷ [];
  notes = r.notes ++ notes_of w;
}

pub record PutsWord (w : Word) (old new : Scanner)
    (result : Result (Unit {0}) AllocError) : Type 0 where
  pub rest : new ≡ record old { row = new.row }
  pub room : HasRoom old.row → HasRoom new.row
  pub ok : OnOk result (row_of new.row ≡ put w (row_of old.row))
  pub err : OnErr result (row_of new.row ≡ row_of old.row)

-- ---- what is read

-- what is put after the arena, and a fault
pub record StoresMore (old new : Scanner) : Type 0 where
  pub bytes : List ℕ
  pub row : row_of new.row
      ≡ record (row_of old.row) { arena = old.row.arena.items ++ bytes }
  pub room : HasRoom old.row → HasRoom new.row
  pub rest : new ≡ record old { row = new.row; fault = new.fault }

-- the text of the lexeme of a kind that is at the place
abbrev pub word_in : ReadKind → Scanner → Result WordText Wrong
word_in k s = lexeme_at k (nat_lt 0 (inner (stack_of s.keys))) s.levels.margin s.text.now s.at

-- where the texts of a word lie, once it is put
abbrev pub store_with : Word → Scanner → Store
store_with w s = store_of s.text.now (put w (row_of s.row))

-- a word shows a text, and leads to a place
pub record HasWord (n : ℕ) (s : Scanner) (w : Word) (x : WordText) : Type 0 where
  pub start : w.lexeme.start ≡ s.at
  pub ends : w.lexeme.ends ≡ n
  pub end : end_at (store_with w s) (lexeme_of w (length s.row.notes.items)) ≡ x.end
  pub inside : x.end ≤ length s.text.now
  pub plain : opens_in (lexeme_of w (length s.row.notes.items)) ≡ opening.Nothing
  pub none : is_set 4 (lexeme_of w (length s.row.notes.items)) ≡ false
  pub front : (lexeme_of w (length s.row.notes.items)).front
      ≡ first_kind (lexeme_of w (length s.row.notes.items))
  pub carries : Carries (store_with w s) (stream_of s) (lexeme_of w (length s.row.notes.items))
      (lexeme_of w (length s.row.notes.items)).kind x.body
  pub at : w.at ≡ x.reached
  pub broke : w.broke ≡ x.broke
  pub place : IsPlace s.text.now w.at w.line w.wide

-- the fault that is kept is what is wrong with the text that starts there, unless memory ran out
abbrev pub TellsWrong : List ℕ → ℕ → Option Fault → Result WordText Wrong → Type 0
TellsWrong text start None r = Unit {0}
TellsWrong text start (Some f) (Err w) = fault_in text f ≡ scan_fault text (mark_at text start) w
TellsWrong text start (Some f) (Ok x) = ⊥

abbrev pub ReadsWord : ReadKind → ℕ → Scanner → Scanner → Result Word Refused → Type 0
ReadsWord k n old new (Ok w) = (x : WordText) × (word_in k old ≡ Ok x) × HasWord n new w x
    × (new.fault ≡ old.fault)
ReadsWord k n old new (Err e) = TellsWrong old.text.now old.at new.fault (word_in k old)
