-- Which characters are printable: the byte classes say what code points say.
use Rattle.std.specs.Prelude.{◌≡◌, ℕ, List, ◌++◌, encode_utf8}
use Rattle.std.specs.Char.{IsScalar}
use Rattle.yaml_emit_layout.specs.scan_types.Classes as bytes
use Rattle.yaml_emit_layout.specs.Quoted.{is_printable}

-- A character's bytes begin a printable one exactly if its code point is printable, whatever follows.
abbrev pub PrintableIsOfCharacters : Type 0
PrintableIsOfCharacters = (c : ℕ) (rest : List ℕ) → IsScalar c
    → bytes.is_printable (encode_utf8 c ++ rest) 0 ≡ is_printable c
