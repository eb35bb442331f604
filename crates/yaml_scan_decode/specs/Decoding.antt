-- The text that bytes spell, or the first offence.
use Rattle.std.specs.Prelude.{ℕ, zero, suc, ◌+◌, nat_lt, if◌then◌else◌, List, [], ◌∷◌, length, Option, Result, Ok, Err, encode_utf8_all}
use Rattle.std.specs.Result.{result_err}
use Rattle.yaml_scan_model.specs.declared.name.yaml_encoding_t.{yaml_encoding_t}
use Rattle.yaml_scan_decode.specs.declared.offence.Offence.{Offence}
use Rattle.yaml_scan_decode.specs.declared.offence.Character.{Character}
use Rattle.yaml_scan_decode.specs.Encodings.{encoding_of, mark_length}
use Rattle.yaml_scan_decode.specs.Characters.{character_at}

-- the character before those after it
abbrev pub before : ℕ → Result (List ℕ) Offence → Result (List ℕ) Offence
before c (Ok cs) = Ok (c ∷ cs)
before c (Err o) = Err o

-- what is there, before what the places after it hold
abbrev pub led_by : (ℕ → Result (List ℕ) Offence) → ℕ → Result Character Offence
    → Result (List ℕ) Offence
led_by rest p (Ok c) = before c.code (rest (p + c.width))
led_by rest p (Err o) = Err o

-- the characters from the place on, at most n of them, or the first offence
unfoldable pub characters : ℕ → yaml_encoding_t → List ℕ → ℕ → Result (List ℕ) Offence
characters zero encoding bytes p = Ok []
characters (suc n) encoding bytes p = if nat_lt p (length bytes)
    then led_by (characters n encoding bytes) p (character_at encoding bytes p) else Ok []

-- the characters in UTF-8
abbrev pub in_utf8 : Result (List ℕ) Offence → Result (List ℕ) Offence
in_utf8 (Ok cs) = Ok (encode_utf8_all cs)
in_utf8 (Err o) = Err o

-- the characters of the bytes after a mark that is removed, or the first offence
abbrev pub decoded_characters : yaml_encoding_t → List ℕ → Result (List ℕ) Offence
decoded_characters setting bytes = characters (length bytes) (encoding_of setting bytes) bytes
    (mark_length setting bytes)

-- the text that the bytes spell, or the first offence
abbrev pub decoded_text : yaml_encoding_t → List ℕ → Result (List ℕ) Offence
decoded_text setting bytes = in_utf8 (decoded_characters setting bytes)

-- the first offence, where the bytes spell no text
abbrev pub first_offence : yaml_encoding_t → List ℕ → Option Offence
first_offence setting bytes = result_err (decoded_characters setting bytes)
