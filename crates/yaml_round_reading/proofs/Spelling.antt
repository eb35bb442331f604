-- The text that an input spells is as a scanner takes it, and has the input's tokens.
use Rattle.std.proofs.Common.{◌≡◌, ◌⊎◌, ℕ, List, [], Some, None, Result, Ok, Err, refl, ap, inl, inr, IsUtf8, arith}
use Rattle.std.specs.Prelude.{option_map}
use Rattle.std.specs.Result.{result_err}
use Rattle.yaml_parse_model.specs.declared.yaml_encoding_t.{yaml_encoding_t}
use Rattle.yaml_parse_model.specs.declared.yaml_encoding_t.TheVariants.{YAML_UTF8_ENCODING}
use Rattle.yaml_parse_model.specs.declared.yaml_fault_t.{yaml_fault_t}
use Rattle.yaml_parse_model.specs.declared.yaml_origin_t.TheVariants.{Reader}
use Rattle.yaml_parse_model.specs.scan_types.Faults.{Fault, fault_of, memory_fault}
use Rattle.yaml_scan_decode.specs.declared.offence.Offence.{Offence}
use Rattle.yaml_scan_decode.specs.Decoding.{decoded_characters, decoded_text, in_utf8}
use Rattle.yaml_scan_decode.specs.DecodedText.{decoding_fault}
use Rattle.yaml_scan_decode.specs.Encodings.{encoding_of}
use Rattle.yaml_scan_decode.specs.Offences.{reader_fault}
use Rattle.yaml_scan_laws.specs.scan_history.Remaining.{SpelledText}
use Rattle.yaml_scan_laws.specs.scan_history.Scanned.{scanned, scanned_in}
use Rattle.yaml_scan.proofs.Spelling.{spelled_out}
use Rattle.yaml_scan_core.specs.Scanning.{IsDecoded}
use Rattle.yaml_round_reading.specs.Coming.{Gives, ended_by}

pub no_text_utf8 : IsUtf8 []
no_text_utf8 = ([], (refl, refl))

pub no_text_decoded : IsDecoded []
no_text_decoded = record {
  some = λ p inside. omega (arith, inside);
  spells = spelled_out record { encoding = YAML_UTF8_ENCODING; text = [] } no_text_utf8;
}

-- the text that is decoded has the input's tokens
pub text_gives : (from : yaml_encoding_t) (input text : List ℕ) → decoded_text from input ≡ Ok text
    → Gives None record { encoding = encoding_of from input; text = text } (scanned from input)
text_gives from input text e = ap (scanned_in (encoding_of from input)) e

fault_given : (encoding : yaml_encoding_t) (r : Result (List ℕ) Offence) (f : Fault)
    → option_map reader_fault (result_err r) ≡ Some f → scanned_in encoding (in_utf8 r) ≡ ended_by f
fault_given encoding (Ok text) f e = absurd (let bad : None ≡ Some f = e in cc)
fault_given encoding (Err o) f e = let is : reader_fault o ≡ f = cc in ap ended_by is

-- Where there is none, memory ran out, or the input has that fault.
pub fault_gives : (from : yaml_encoding_t) (input : List ℕ) (f : yaml_fault_t) (t : SpelledText)
    → (fault_of f ≡ memory_fault Reader) ⊎ (decoding_fault from input ≡ Some (fault_of f))
    → Gives (Some f) t (scanned from input)
fault_gives from input f t (inl memory) = inl (inr memory)
fault_gives from input f t (inr e) = inr (fault_given (encoding_of from input) (decoded_characters from input) (fault_of f) e)
