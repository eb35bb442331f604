-- What bytes say is what the text says that they spell.
use Rattle.std.proofs.Common.{◌≡◌, ℕ, List, [], Some, Result, Ok, Err, refl, sym, subst}
use Rattle.yaml_round_content.proofs.Words.{yaml_encoding_t, Fault, Offence, encoding_of, decoded_text, Remaining, scanned_in, TokensRead, decoded_spells}
use Rattle.yaml_parse_model.specs.scan_model.declared.name.yaml_error_type_t.TheVariants.{YAML_READER_ERROR}
use Rattle.yaml_scan_laws.specs.scan_decode.Offences.{reader_fault}
use Rattle.yaml_round_content.specs.EncodingsTexts.{NoTextHasNoToken, ReadingIsOfText}
use Rattle.yaml_round_content.proofs.OfText.{are_small, tokens_are, plain_reading}

abbrev Refused : Remaining → Type 0
Refused c = (fault : Fault) × (fault.kind ≡ YAML_READER_ERROR) × (let r : Remaining = record { tokens = []; fault = Some fault } in c ≡ r)

refused_by : (from : yaml_encoding_t) (input : List ℕ) (d : Result (List ℕ) Offence)
    → decoded_text from input ≡ d → ((text : List ℕ) → d ≡ Ok text → ⊥)
    → Refused (scanned_in (encoding_of from input) d)
refused_by from input (Ok text) e never = absurd (never text refl)
refused_by from input (Err o) e never = (reader_fault o, refl, refl)

pub none : NoTextHasNoToken
none from input are never =
    refused_by from input (decoded_text from input) refl (λ text e. never text (decoded_spells from input text (are_small input are) e))

pub reading : ReadingIsOfText
reading from input text r h = (
  λ p. p.of_text text h,
  λ p. plain_reading from input r (subst (λ (c : Remaining). TokensRead c.tokens c.fault r) (sym (tokens_are from input text h)) p),
)
