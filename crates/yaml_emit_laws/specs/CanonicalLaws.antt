-- What a scanner makes of canonical words.
use Rattle.std.specs.Prelude.{◌≡◌, true, List, ◌∷◌, map, reverse, None}
use Rattle.yaml_scan_history.specs.Remaining.{SpelledText, offline}
use Rattle.yaml_scan_laws.specs.KeyFree.{is_key_free}
use Rattle.yaml_scan_laws.specs.KeysTexts.{Word, WordsStand, word_kinds, token_of, first_token}
use Rattle.yaml_emit_layout.specs.Content.{Document}
use Rattle.yaml_emit_laws.specs.Canonical.{stream_kinds}

-- The words of every canonical stream are key-free.
abbrev pub CanonicalIsKeyFree : Type 0
CanonicalIsKeyFree = (ds : List Document) → is_key_free (stream_kinds ds) ≡ true

-- A text of words of these kinds one after another is read as their tokens, without fault.
abbrev pub CanonicalWordsAreRead : Type 0
CanonicalWordsAreRead = (s : SpelledText) (ds : List Document) (ws : List Word)
    → WordsStand s.text ws
    → word_kinds ws ≡ stream_kinds ds
    → offline s ≡ record {
      tokens = first_token s ∷ map (token_of s.text) (reverse ws);
      fault = None;
    }
