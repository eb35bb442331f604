-- The text that an input spells is as a scanner takes it.
use Rattle.std.proofs.Common.{ℕ, List, IsUtf8}
use Rattle.yaml_scan_model.specs.declared.name.yaml_encoding_t.{yaml_encoding_t}
use Rattle.yaml_scan_decode.specs.Spelling.{Spells as IsSpelledBy}
use Rattle.yaml_scan_history.specs.Remaining.{SpelledText}
use Rattle.yaml_scan_laws.proofs.Characters.{characters_begin}
use Rattle.yaml_scan_laws.proofs.Decoded.{spelled_has_none, spelled_utf8}
use Rattle.yaml_scan_core.specs.Scanning.{IsDecoded}
unfoldable use Rattle.yaml_scan_core.specs.Scanning.{Spells}

-- characters begin after ASCII and breaks, and where lexemes do
pub spelled_out : (s : SpelledText) → IsUtf8 s.text → Spells s.text
unfolding Spells
spelled_out s t =
    let b = characters_begin s t in
    record { spelled = record { front = b.front; ascii = b.ascii; breaks = b.breaks }; clear = b.clear }

-- a text that is spelled
pub decoded_is : (from : yaml_encoding_t) (input text : List ℕ) → IsSpelledBy from input text
    → IsDecoded text
decoded_is from input text h = record {
  some = spelled_has_none from input text h;
  spells = spelled_out record { encoding = from; text = text } (spelled_utf8 from input text h);
}
