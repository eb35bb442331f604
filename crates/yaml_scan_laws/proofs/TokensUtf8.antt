-- The tokens that are handed out carry UTF-8, except for what escapes spell.
use Rattle.std.proofs.Common.{ℕ, List, [], ◌∷◌, IsUtf8, All}
use Rattle.yaml_scan_laws.proofs.TextWords.{All-nil, All-cons, Token, Lexeme, history, SpelledText, remaining, HasTexts}
use Rattle.yaml_scan_laws.proofs.Lexemes.{AllCarry, history_carry}
use Rattle.yaml_scan_laws.proofs.Throughout.{Carry, Say, remaining_says}

abbrev Sound : Token → Type 0
Sound t = HasTexts t.body

carried : (s : SpelledText) (h : List Lexeme) → AllCarry s h → Carry HasTexts s h
carried s [] c = tt
carried s (l ∷ h) (c, cs) = (c.texts, carried s h cs)

all_sound : (ts : List Token) → Say HasTexts ts → All Sound ts
all_sound [] h = All-nil Sound
all_sound (t ∷ ts) (own, h) = All-cons Sound t ts own (all_sound ts h)

-- what is still to come
pub remaining_sound : (s : SpelledText) → IsUtf8 s.text → (dropped given : ℕ)
    → All Sound (remaining s dropped given).tokens
remaining_sound s t dropped given =
    all_sound _ (remaining_says HasTexts s record { end = tt; sequence = tt; mapping = tt; key_mark = tt } (λ n. carried s (history s.text n) (history_carry s t n)) dropped given)
