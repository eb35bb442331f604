-- What the parts of decoding answer.
use Rattle.std.specs.Prelude.{ℕ, ◌≡◌, pos, ◌+◌, ◌-◌, ◌<◌, Bool, not, ◌&&◌, nat_lt, if◌then◌else◌, List, ◌++◌, length, Result, Ok, Err, Vec}
use Rattle.std.specs.Global.{Global}
use Rattle.yaml_scan_model.specs.declared.name.yaml_encoding_t.TheVariants.{YAML_UTF8_ENCODING}
use Rattle.yaml_scan_decode.specs.declared.offence.ReaderProblem.TheVariants as problems
use Rattle.yaml_scan_decode.specs.declared.offence.Offence.{Offence}
use Rattle.yaml_scan_decode.specs.declared.utf16.DecodeError.{DecodeError}
use Rattle.yaml_scan_decode.specs.declared.utf16.DecodeError.TheVariants.{Memory, Offends}
use Rattle.yaml_scan_decode.specs.Characters.{is_allowed, is_trailing, utf8_at}
use Rattle.yaml_scan_decode.specs.Decoding.{characters}

-- what the byte b, which is that many places after the first of its character, adds to the code; 0 where the character has no such byte
unfoldable pub trailing_bits : ℕ → ℕ → ℕ → ℕ → Result ℕ Offence
trailing_bits p width ahead b =
    if nat_lt ahead width && not (is_trailing b)
    then Err record {
      problem = problems.InvalidTrailingOctet;
      offset = p + ahead;
      value = pos
          b;
    }
    else Ok (if nat_lt ahead width then b - 0x80 else 0)

-- an ASCII character that a stream may hold
unfoldable pub is_plain : ℕ → Bool
is_plain b = nat_lt b 128 && is_allowed b

-- whether bytes spell characters, or the first offence
abbrev pub outcome : Result (List ℕ) Offence → Result (Unit {0}) Offence
outcome (Ok cs) = Ok tt
outcome (Err o) = Err o

-- whether UTF-8 spells characters from the place on, or the first offence
unfoldable pub outcome_at : List ℕ → ℕ → Result (Unit {0}) Offence
outcome_at bytes p = outcome (characters (length bytes) YAML_UTF8_ENCODING bytes p)

-- a character of that many bytes is there
abbrev pub HasCharacter : List ℕ → ℕ → ℕ → Type 0
HasCharacter bytes p width =
    (code : ℕ) × (utf8_at bytes p ≡ Ok record { code = code; width = width })

-- there are characters from the place p on up to that later one, or the offence is the first there
abbrev pub GoesTo : List ℕ → ℕ → Result ℕ Offence → Type 0
GoesTo bytes p (Ok q) = (p < q) × (outcome_at bytes p ≡ outcome_at bytes q)
GoesTo bytes p (Err o) = outcome_at bytes p ≡ Err o

-- the text after those bytes
abbrev pub behind : List ℕ → Result (List ℕ) Offence → Result (List ℕ) Offence
behind xs (Ok text) = Ok (xs ++ text)
behind xs (Err o) = Err o

-- the text or the offence, unless memory ran out
abbrev pub DecodesTo : Result (Vec ℕ Global) DecodeError → Result (List ℕ) Offence → Type 0
DecodesTo (Ok text) decoded = decoded ≡ Ok (text.items)
DecodesTo (Err Memory) decoded = Unit {0}
DecodesTo (Err (Offends o)) decoded = decoded ≡ Err o
