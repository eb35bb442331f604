-- Texts of words.
use Rattle.std.specs.Prelude.{◌≡◌, ℕ, nat_lt, true, not, List, [], ◌∷◌, map, reverse, Some, None, Ok}
use Rattle.std.specs.List.{list_all}
use Rattle.yaml_scan_history.specs.scan_types.Marks.{mark_at}
use Rattle.yaml_scan_history.specs.scan_types.Tokens.{Token, stream_start, zero_mark}
use Rattle.yaml_scan_history.specs.declared.kind.Kind.{Kind}
use Rattle.yaml_scan_history.specs.declared.lexeme.Lexeme.{Lexeme}
use Rattle.yaml_scan_history.specs.Kinds.{is_end}
use Rattle.yaml_scan_history.specs.History.{flow_depth, placed}
use Rattle.yaml_scan_history.specs.Words.{WordText, kind_at, lexeme_at}
use Rattle.yaml_scan_history.specs.Next.{first_lexeme, Ends, next}
use Rattle.yaml_scan_history.specs.Remaining.{SpelledText, all, offline}
use Rattle.yaml_scan_laws.specs.KeyFree.{is_key_free, is_level_free}
use Rattle.yaml_scan_laws.specs.KeysLaws.{gap_in, end_in, lexeme_of}

-- a word of a text: its kind, its place, and what is read there
pub record Word : Type 0 where
  pub kind : Kind
  pub place : ℕ
  pub said : WordText

-- the lexemes that words are, the newest first
unfoldable pub lexemes : List ℕ → List Word → List Lexeme
lexemes text [] = first_lexeme ∷ []
lexemes text (w ∷ ws) = lexeme_of text (lexemes text ws) (gap_in text (lexemes text ws)) w.kind
    w.said ∷ lexemes text ws

-- After those lexemes the word's kind is at its place, and is read so.
pub record StandsBehind (text : List ℕ) (h : List Lexeme) (w : Word) : Type 0 where
  pub place : (gap_in text h).place ≡ w.place
  pub kind : kind_at (nat_lt 0 (flow_depth h)) text w.place ≡ Some w.kind
  pub said : lexeme_at w.kind (nat_lt 0 (flow_depth h)) 0 text w.place ≡ Ok w.said

-- each word is after those before it
unfoldable pub WordsStand : List ℕ → List Word → Type 0
WordsStand text [] = Unit {0}
WordsStand text (w ∷ ws) = StandsBehind text (lexemes text ws) w × WordsStand text ws

abbrev pub word_kinds : List Word → List Kind
word_kinds ws = map (λ (w : Word). w.kind) ws

-- a word's token
abbrev pub token_of : List ℕ → Word → Token
token_of text w = record {
  body = w.said.body;
  start_mark = placed w.kind (mark_at text w.place);
  end_mark = end_in text w.kind w.place w.said.end;
}

-- the token that begins a stream
abbrev pub first_token : SpelledText → Token
first_token s = record {
  body = stream_start s.encoding;
  start_mark = zero_mark;
  end_mark = zero_mark;
}

-- words up to the stream's end, of which no other is one
abbrev pub ReachEnd : List Word → Type 0
ReachEnd [] = ⊥
ReachEnd (w ∷ ws) = (is_end w.kind ≡ true)
    × (list_all (λ (x : Word). not (is_end x.kind)) ws ≡ true)

-- The lexemes of a text of words one after another, up to the end, of which none opens a
-- level, are these words, without fault.
abbrev pub WordsAreLexemes : Type 0
WordsAreLexemes = (text : List ℕ) (ws : List Word) → WordsStand text ws
    → is_level_free (word_kinds ws)
    ≡ true → ReachEnd ws
    → (all text ≡ lexemes text ws) × (next text (all text) ≡ Ends)

-- A text of key-free words one after another, up to the end, is read as their tokens, without fault.
abbrev pub WordsAreRead : Type 0
WordsAreRead = (s : SpelledText) (ws : List Word) → WordsStand s.text ws
    → is_key_free (word_kinds ws)
    ≡ true → ReachEnd ws
    → offline s ≡ record {
      tokens = first_token s ∷ map (token_of s.text) (reverse ws);
      fault = None;
    }
