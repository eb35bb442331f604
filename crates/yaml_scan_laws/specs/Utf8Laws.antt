-- What the tokens of a text in UTF-8 carry.
use Rattle.std.specs.Prelude.{ℕ, ◌≡◌, ◌+◌, ◌<◌, true, List, length, IsUtf8, All}
use Rattle.yaml_scan_history.specs.scan_model.declared.name.yaml_encoding_t.{yaml_encoding_t}
use Rattle.yaml_scan_history.specs.scan_decode.Spelling.{Spells}
use Rattle.yaml_scan_history.specs.Next.{gap_behind, history}
use Rattle.yaml_scan_history.specs.scan_types.Marks.{break_width, byte, starts}
use Rattle.yaml_scan_history.specs.Remaining.{SpelledText, remaining}
use Rattle.yaml_scan_laws.specs.Utf8Texts.{HasTexts}

-- Each token that is still to come has texts in UTF-8, except for what escapes spell byte by byte.
abbrev pub TokensHaveUtf8 : Type 0
TokensHaveUtf8 = (s : SpelledText) → IsUtf8 s.text → (dropped given : ℕ)
    → All (λ t. HasTexts t.body) (remaining s dropped given).tokens

-- The text that the bytes of a stream spell is UTF-8, in whatever encoding they are.
abbrev pub TextIsUtf8 : Type 0
TextIsUtf8 = (setting : yaml_encoding_t) (bytes text : List ℕ) → Spells setting bytes text
    → IsUtf8 text

-- Characters begin at the text's front, after ASCII and after breaks, and where each lexeme does.
pub record CharactersBegin (text : List ℕ) : Type 0 where
  pub front : starts (byte text 0) ≡ true
  pub ascii : (p : ℕ) → byte text p < 128 → starts (byte text (p + 1)) ≡ true
  pub breaks : (p : ℕ) → 0 < break_width text p → starts (byte text (p + break_width text p)) ≡ true
  pub clear : (n : ℕ) → starts (byte text (gap_behind text (history text n)).place) ≡ true

-- So they do in each text in UTF-8.
abbrev pub CharactersAreWhole : Type 0
CharactersAreWhole = (s : SpelledText) → IsUtf8 s.text → CharactersBegin s.text

-- No byte of the text that a stream's bytes spell is 0.
abbrev pub TextHasNoNul : Type 0
TextHasNoNul = (setting : yaml_encoding_t) (bytes text : List ℕ) → Spells setting bytes text
    → (p : ℕ) → p < length text → 0 < byte text p
