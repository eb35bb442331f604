-- What of the tokens is taken.
use Rattle.std.specs.Prelude.{ℕ, ◌+◌, ◌-◌, ◌≡◌, ◌<◌, ◌||◌, nat_lt, if◌then◌else◌, List, length}
use Rattle.yaml_scan_history.specs.History.{finished_tokens}
use Rattle.yaml_scan_history.specs.declared.lexeme.Entry.{Entry}
use Rattle.yaml_scan_history.specs.Remaining.{Remaining, SpelledText, all, remaining}
use Rattle.yaml_scan_model.specs.declared.kind.Kind.{Kind}
use Rattle.yaml_scan_model.specs.declared.kind.Kind.TheVariants as kinds
use Rattle.yaml_scan_core.specs.declared.lexeme.Lexeme.{Lexeme}
use Rattle.yaml_scan_core.specs.declared.row.Row.{Row}
use Rattle.yaml_scan_core.specs.declared.scanner.Scanner.{Scanner}
use Rattle.yaml_scan_core.specs.Rows.{HasRoom, RowView, is_set, row_lexeme, loses_none, row_of}
use Rattle.yaml_scan_core.specs.Scanning.{fixed_of, stream_of}
use Rattle.yaml_scan_core.specs.Shown.{ShowsRow, entry_at}

-- how many tokens a lexeme has for the level that opens before it, and for its KEY
abbrev pub starts_in : Lexeme → ℕ
starts_in x = if is_set 1 x || is_set 2 x then 1 else 0

abbrev pub keys_in : Lexeme → ℕ
keys_in x = if is_set 4 x then 1 else 0

-- how many of its tokens from one of that kind on are left, BLOCK-ENDs aside
abbrev pub left_from : Kind → Lexeme → ℕ
left_from kinds.BlockEnd x = starts_in x + keys_in x + 1
left_from kinds.BlockSequenceStart x = starts_in x + keys_in x + 1
left_from kinds.BlockMappingStart x = starts_in x + keys_in x + 1
left_from kinds.Key x = keys_in x + 1
left_from _ x = 1

-- how many of its tokens are taken, before which that many levels end
abbrev pub given_of : ℕ → Lexeme → ℕ
given_of ends x = (ends + starts_in x + keys_in x + 1) - (x.ends + left_from x.front x)

-- how many levels end before the lexeme of that number
abbrev pub ends_at : List ℕ → ℕ → ℕ
ends_at text k = (entry_at (finished_tokens (all text)) k).ends

-- how many of them are known: none before a lexeme that wasn't read
abbrev pub ends_known : Lexeme → ℕ → ℕ
ends_known x ends = if loses_none x then 0 else ends

-- how many levels end before the first lexeme that isn't taken
abbrev pub ends_in : List ℕ → RowView → ℕ
ends_in text r = ends_known (row_lexeme r r.next) (ends_at text (r.dropped + r.next))

-- how many tokens are taken of it
abbrev pub given_in : List ℕ → RowView → ℕ
given_in text r = if nat_lt r.next (length r.lexemes)
    then given_of (ends_in text r) (row_lexeme r r.next) else 0

-- how many tokens it is spelled as
abbrev pub tokens_in : List ℕ → RowView → ℕ
tokens_in text r = ends_in text r + starts_in (row_lexeme r r.next)
    + keys_in (row_lexeme r r.next) + 1

-- one token more of that lexeme is taken
pub record TakesLead (text : List ℕ) (old new : RowView) : Type 0 where
  pub place : new.dropped + new.next ≡ old.dropped + old.next
  pub given : given_in text new ≡ given_in text old + 1

-- its last token is taken, and nothing of the next lexeme
pub record TakesOwn (text : List ℕ) (old new : RowView) : Type 0 where
  pub place : new.dropped + new.next ≡ old.dropped + old.next + 1
  pub last : given_in text old + 1 ≡ tokens_in text old
  pub given : given_in text new ≡ 0

-- that many levels end before each of these lexemes
abbrev pub EndsTold : List ℕ → List Entry → Type 0
EndsTold text es = (k : ℕ) → k < length es → (entry_at es k).ends ≡ ends_at text k

-- what is still to come after a row's tokens that are taken
abbrev pub come_of : SpelledText → RowView → Remaining
come_of t r = remaining t (r.dropped + r.next) (given_in t.text r)

abbrev pub to_come : Scanner → Remaining
to_come s = come_of (stream_of s) (row_of s.row)

-- The same is shown, of which more is dropped: what is taken and what is settled stays.
pub record Drops (old new : Row) : Type 0 where
  pub shows : (t : SpelledText) (es : List Entry) → ShowsRow t (row_of old) es
      → ShowsRow t (row_of new) es
  pub count : new.dropped + length new.lexemes.items ≡ old.dropped + length old.lexemes.items
  pub taken : new.dropped + new.next ≡ old.dropped + old.next
  pub settled : new.dropped + new.settled ≡ old.dropped + old.settled
  pub room : HasRoom old → HasRoom new
  pub given : (text : List ℕ) → given_in text (row_of new) ≡ given_in text (row_of old)

-- as much is taken as was, of the same stream
pub record HandsOn (old new : Scanner) : Type 0 where
  pub fixed : fixed_of new ≡ fixed_of old
  pub taken : new.row.dropped + new.row.next ≡ old.row.dropped + old.row.next
  pub given : given_in new.text.now (row_of new.row) ≡ given_in old.text.now (row_of old.row)
