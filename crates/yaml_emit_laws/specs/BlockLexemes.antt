-- A block scalar as a lexeme.
use Rattle.std.specs.Prelude.{ℕ, ◌+◌, ◌<◌, ◌≡◌, Bool, true, false, List, [], ◌∷◌, ◌++◌, length, None}
use Rattle.yaml_emit_layout.specs.scan_model.declared.name.yaml_encoding_t.{yaml_encoding_t}
use Rattle.yaml_emit_layout.specs.scan_types.Marks.{mark_at}
use Rattle.yaml_emit_layout.specs.scan_types.Tokens.{scalar}
use Rattle.yaml_scan_history.specs.declared.lexeme.Lexeme.{Lexeme}
use Rattle.yaml_scan_history.specs.declared.lexeme.Opens.TheVariants as opening
use Rattle.yaml_scan_history.specs.History.{flow_depth, ended, candidate, open_levels, finished_tokens, entry_of, inside, key_allowed}
use Rattle.yaml_scan_history.specs.Next.{Read, next, gap_behind, place_behind, level_in, stale_before, candidate_lost}
use Rattle.yaml_scan_history.specs.Remaining.{body_in}
use Rattle.yaml_emit_laws.specs.BlockLaws.{kind_of, read_style, BlockStands}

-- After these lexemes a block scalar comes, with that value. It opens no level, no candidate is after it, and a key may begin.
pub record BlockComes (folded : Bool) (text : List ℕ) (h : List Lexeme) (value : List ℕ)
    (end k : ℕ) : Type 0 where
  pub lexeme : Lexeme
  pub comes : next text h ≡ Read lexeme
  pub body : (encoding : yaml_encoding_t)
      → body_in (record { encoding = encoding; text = text }) lexeme
      ≡ scalar value (read_style folded)
  pub kind : lexeme.kind ≡ kind_of folded
  pub start : lexeme.start ≡ place_behind text h
  pub reached : lexeme.reached ≡ mark_at text (end + k)
  pub outside : flow_depth (lexeme ∷ h) ≡ 0
  pub levels_are : open_levels (lexeme ∷ h) ≡ inside lexeme h
  pub opens : (entry_of lexeme h).opens ≡ opening.Nothing
  pub entries_are : finished_tokens (lexeme ∷ h) ≡ finished_tokens h ++ entry_of lexeme h ∷ []
  pub clear : candidate 0 (lexeme ∷ h) ≡ None
  pub allowed : key_allowed (lexeme ∷ h) ≡ true

-- After lexemes, outside of brackets, where no candidate is missed or lost, a block scalar that is after the gap comes.
abbrev pub BlockIsNext : Type 0
BlockIsNext = (folded : Bool) (text : List ℕ) (h : List Lexeme) (value : List ℕ) (end k : ℕ)
    → 0 < length h → ended h ≡ false → flow_depth h ≡ 0 → stale_before text h ≡ None
    → candidate_lost (kind_of folded) text h ≡ None
    → BlockStands folded (level_in (kind_of folded) (place_behind text h).column h) text
    (gap_behind text h).place value end k
    → BlockComes folded text h value end k
