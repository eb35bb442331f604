-- What decoding answers, in the words of spelling.
use Rattle.std.proofs.Common.{◌≡◌, ◌⊎◌, inl, inr, ℕ, List, length, Option, Some, None, Result, Ok, Err, IfOk, IfErr, refl}
use Rattle.std.specs.Prelude.{option_map}
use Rattle.yaml_scan_model.specs.declared.name.yaml_encoding_t.{yaml_encoding_t}
use Rattle.yaml_scan_model.specs.declared.fault.yaml_fault_t.{yaml_fault_t}
use Rattle.yaml_scan_model.specs.declared.fault.yaml_origin_t.TheVariants.{Reader}
use Rattle.yaml_scan_types.specs.Faults.{Fault, fault_of, memory_fault}
use Rattle.yaml_scan_decode.specs.declared.offence.Offence.{Offence}
use Rattle.yaml_scan_decode.specs.declared.decode.yaml_text_t.{yaml_text_t}
use Rattle.yaml_scan_decode.specs.Offences.{reader_fault}
use Rattle.yaml_scan_decode.specs.Encodings.{encoding_of, mark_length}
use Rattle.yaml_scan_decode.specs.Decoding.{characters, in_utf8, decoded_text, first_offence}
use Rattle.yaml_scan_decode.specs.Spelling.{Spells, SpellsNothing}
use Rattle.yaml_scan_decode.specs.DecodedText.{text_bytes, fault_in, decoding_fault}
use Rattle.yaml_scan_decode.proofs.DecodeLemmas.{AreBytes}
use Rattle.yaml_scan_decode.proofs.CompleteLemmas.{decoded_spells, offence_unspelled}

pub units_spelled : (s e : yaml_encoding_t) (bytes : List ℕ) (p : ℕ)
    (r : Result yaml_text_t yaml_fault_t) → AreBytes bytes → encoding_of s bytes ≡ e
    → mark_length s bytes ≡ p
    → IfOk r (λ t. in_utf8 (characters (length bytes) e bytes p) ≡ Ok (text_bytes t))
    → IfOk r (λ t. Spells s bytes (text_bytes t))
units_spelled s e bytes p (Ok t) are is mark h = decoded_spells s bytes (text_bytes t) are (rw (is, mark) h)
units_spelled s e bytes p (Err f) are is mark h = h

some_offence : (s : yaml_encoding_t) (bytes : List ℕ) (o : Option Offence) (f : Fault)
    → first_offence s bytes ≡ o → option_map reader_fault o ≡ Some f → SpellsNothing s bytes
some_offence s bytes None f is h = cc
some_offence s bytes (Some o) f is h = offence_unspelled s bytes o is

-- a reader fault is answered where the bytes spell nothing
pub fault_unspelled : (s : yaml_encoding_t) (bytes : List ℕ) (f : Fault)
    → decoding_fault s bytes ≡ Some f → SpellsNothing s bytes
fault_unspelled s bytes f h = some_offence s bytes (first_offence s bytes) f refl h

either : (s : yaml_encoding_t) (bytes : List ℕ) (f : yaml_fault_t)
    → (fault_of f ≡ memory_fault Reader) ⊎ (decoding_fault s bytes ≡ Some (fault_of f))
    → (fault_of f ≡ memory_fault Reader) ⊎ SpellsNothing s bytes
either s bytes f (inl m) = inl m
either s bytes f (inr h) = inr (fault_unspelled s bytes (fault_of f) h)

pub units_unspelled : (s e : yaml_encoding_t) (bytes : List ℕ) (p : ℕ)
    (r : Result yaml_text_t yaml_fault_t) → encoding_of s bytes ≡ e → mark_length s bytes ≡ p
    → IfErr r (λ f. (fault_of f ≡ memory_fault Reader)
    ⊎ (fault_in (characters (length bytes) e bytes p) ≡ Some (fault_of f)))
    → IfErr r (λ f. (fault_of f ≡ memory_fault Reader) ⊎ SpellsNothing s bytes)
units_unspelled s e bytes p (Ok t) is mark h = h
units_unspelled s e bytes p (Err f) is mark h = either s bytes f (rw (is, mark) h)

-- what the units give is what the bytes are decoded to
pub units_text : (s e : yaml_encoding_t) (bytes : List ℕ) (p : ℕ)
    (r : Result yaml_text_t yaml_fault_t) → encoding_of s bytes ≡ e → mark_length s bytes ≡ p
    → IfOk r (λ t. in_utf8 (characters (length bytes) e bytes p) ≡ Ok (text_bytes t))
    → IfOk r (λ t. decoded_text s bytes ≡ Ok (text_bytes t))
units_text s e bytes p (Ok t) is mark h = rw (is, mark) h
units_text s e bytes p (Err f) is mark h = h

pub units_fault : (s e : yaml_encoding_t) (bytes : List ℕ) (p : ℕ)
    (r : Result yaml_text_t yaml_fault_t) → encoding_of s bytes ≡ e → mark_length s bytes ≡ p
    → IfErr r (λ f. (fault_of f ≡ memory_fault Reader)
    ⊎ (fault_in (characters (length bytes) e bytes p) ≡ Some (fault_of f)))
    → IfErr r (λ f. (fault_of f ≡ memory_fault Reader)
    ⊎ (decoding_fault s bytes ≡ Some (fault_of f)))
units_fault s e bytes p (Ok t) is mark h = h
units_fault s e bytes p (Err f) is mark h = rw (is, mark) h
