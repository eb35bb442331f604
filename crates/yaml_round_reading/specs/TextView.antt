-- What a clause sees of an input's text: the input.
use Rattle.std.specs.Prelude.{◌≡◌, ◌⊎◌, Some, Ok, IfOk, IfErr}
use Rattle.yaml_parse_model.specs.scan_types.Faults.{fault_of, memory_fault}
use Rattle.yaml_parse_model.specs.declared.yaml_origin_t.TheVariants.{Reader}
use Rattle.yaml_scan_decode.specs.Decoding.{decoded_text}
use Rattle.yaml_scan_decode.specs.DecodedText.{decoding_fault, text_bytes}
use Rattle.yaml_scan_decode.specs.Spelling.{Spells}
use Rattle.yaml_round_reading.specs.Input.{Input}
use Rattle.yaml_round_reading.specs.declared.text.ReadText.TheInside.{Inside}

abbrev pub input_of : Inside → Input
input_of a = record { from = a.from; bytes = a.input.now }

-- It is the text that the input spells; or the input spells none, for that fault, or memory ran out.
pub record IsRead (a : Inside) : Type 0 where
  pub text : IfOk a.text (λ t. decoded_text a.from a.input.now ≡ Ok (text_bytes t))
  pub spelled : IfOk a.text (λ t. Spells a.from a.input.now (text_bytes t))
  pub fault : IfErr a.text (λ f. (fault_of f ≡ memory_fault Reader)
      ⊎ (decoding_fault a.from a.input.now ≡ Some (fault_of f)))
