-- What is known of a text's tokens before all of it is read.
use Rattle.std.specs.Prelude.{ℕ, ◌+◌, ◌≡◌, ◌≤◌, List, length, take}
use Rattle.yaml_scan_model.specs.declared.record.yaml_mark_t.{yaml_mark_t}
use Rattle.yaml_scan_history.specs.declared.lexeme.Lexeme.{Lexeme}
use Rattle.yaml_scan_history.specs.History.{reached, finished_tokens, first_open}
use Rattle.yaml_scan_history.specs.Next.{Read, next, history}
use Rattle.yaml_scan_history.specs.Remaining.{handed}

-- one place is not after another
abbrev pub Upto : yaml_mark_t → yaml_mark_t → Type 0
Upto p q = (p.index ≤ q.index) × (p.line ≤ q.line)

-- each lexeme of the text is after the ones before it
abbrev pub GoesForward : List ℕ → Type 0
GoesForward text = (n : ℕ) (l : Lexeme) → next text (history text n) ≡ Read l
    → Upto (reached (history text n)) l.start × Upto l.start l.reached

-- Of the lexemes of n steps, those before the earliest open candidate are handed out as they are, whatever follows.
abbrev pub SettledStays : Type 0
SettledStays = (text : List ℕ) → GoesForward text → (n m : ℕ) → n ≤ length text + 2
    → m ≤ first_open (history text n) (history text n)
    → take m (handed text) ≡ take m (finished_tokens (history text n))
