-- What an input says is what the text says that its bytes spell.
use Rattle.std.proofs.Common.{◌≡◌, ◌∙◌, ℕ, ◌<◌, List, [], Some, Result, Ok, Err, All, get_or, refl, sym, ap, subst, arith}
use Rattle.yaml_round_content.proofs.Words.{nat_tests, get_or_past, yaml_encoding_t, Fault, Offence, encoding_of, decoded_characters, in_utf8, Remaining, scanned_in, adapted, initial, run, reading, no_directives, tokens_of, Document, TokensRead, BeginsWithSentence, spells_decoded, decoded_spells, load_all, nothing_loaded}
use Rattle.yaml_emit_laws.specs.parse_grammar.Remaining.{reading_of}
use Rattle.yaml_parse_model.specs.Documents as loaded
use Rattle.yaml_scan_laws.specs.scan_decode.Offences.{reader_fault}
use Rattle.yaml_scan_laws.specs.scan_decode.DecodedText.{decoding_fault}
use Rattle.yaml_scan_laws.specs.scan_decode.Spelling.{Spells, SpellsNothing}
use Rattle.yaml_round_content.specs.EncodingsTexts.{TokensAreOfText}
use Rattle.yaml_round_content.specs.Reading.{IsOffence, PlainReading, spelled_in, text_tokens}
use Rattle.yaml_round_content.specs.PlainLoading.{PlainLoading, TokensLoad}
use Rattle.yaml_scan_laws.proofs.LookingBack.{offline_looks_back}
use Rattle.yaml_emit_laws.proofs.Ending.{fault_ends}
use Rattle.yaml_emit_laws.proofs.LoadingEnding.{fault_ends_loads}

-- ---- tokens

pub of_text : TokensAreOfText
of_text from input text h = ap (λ (d : Result (List ℕ) Offence). scanned_in (encoding_of from input) d) (spells_decoded from input text h)

-- they are what looking back says of the text
pub tokens_are : (from : yaml_encoding_t) (input text : List ℕ) → Spells from input text
    → tokens_of from input ≡ text_tokens (spelled_in from input text)
tokens_are from input text h = ap (λ (c : Remaining). adapted c) (of_text from input text h ∙ offline_looks_back (spelled_in from input text))

pub are_small : (input : List ℕ) → All (λ (b : ℕ). b < 256) input → (k : ℕ) → get_or input k 0 < 256
are_small input are k = grind (arith, nat_tests, get_or_past)

-- ---- bytes that spell nothing

nothing_spelled : {A : Type 0} (b : BeginsWithSentence []) → A
nothing_spelled b = let p = b.same in cc

run_none : (f : Fault) → (reading_of (run [] initial (Some f)) no_directives).ending ≡ Some f
unfolding run reading
run_none f = refl

load_none : (f : Fault)
    → (load_all (reading_of (run [] initial (Some f)) no_directives).events
    (reading_of (run [] initial (Some f)) no_directives).ending nothing_loaded).fault ≡ Some f
unfolding run reading load_all
load_none f = refl

same_fault : (e f : Fault) → Some f ≡ Some e → f ≡ e
same_fault e f p = cc

abbrev FaultIs : {A : Type 0} → Fault → Result A Fault → Type 0
FaultIs f (Ok x) = ⊥
FaultIs f (Err e) = f ≡ e

fault_read : (f : Fault) (r : Result (List Document) Fault) → TokensRead [] (Some f) r → FaultIs f r
fault_read f (Ok c) h = nothing_spelled h.sentence
fault_read f (Err e) h = same_fault e f (sym (run_none f) ∙ fault_ends [] (Some f) (Some e) h)

fault_loaded : (f : Fault) (r : Result (List loaded.Document) Fault) → TokensLoad [] (Some f) r
    → FaultIs f r
fault_loaded f (Ok ds) h = nothing_spelled h.sentence
fault_loaded f (Err e) h = same_fault e f (sym (load_none f) ∙ fault_ends_loads [] (Some f) (Some e) h)

is_offence : {A : Type 0} (from : yaml_encoding_t) (input : List ℕ) (o : Offence)
    (r : Result A Fault) → decoding_fault from input ≡ Some (reader_fault o)
    → FaultIs (reader_fault o) r → IsOffence from input r
is_offence from input o r p h = grind (arith, nat_tests)

-- what is said of the tokens of what was decoded
offended : {A : Type 0} (from : yaml_encoding_t) (input : List ℕ) (r : Result A Fault)
    (Tell : Remaining → Type 0)
    → ((f : Fault) → (let c : Remaining = record { tokens = []; fault = Some f } in Tell c) → FaultIs f r)
    → (d : Result (List ℕ) Offence) → decoded_characters from input ≡ d
    → ((text : List ℕ) → in_utf8 d ≡ Ok text → ⊥)
    → Tell (adapted (scanned_in (encoding_of from input) (in_utf8 d))) → IsOffence from input r
offended from input r Tell k d e never h = grind (arith, nat_tests, is_offence)

none_spelled : (from : yaml_encoding_t) (input : List ℕ) → All (λ (b : ℕ). b < 256) input
    → SpellsNothing from input → (text : List ℕ)
    → in_utf8 (decoded_characters from input) ≡ Ok text → ⊥
none_spelled from input are never text e = never text (decoded_spells from input text (are_small input are) e)

-- ---- readings and loadings

-- What the tokens of an input read as is the plain reading of its bytes.
pub plain_reading : (from : yaml_encoding_t) (input : List ℕ) (r : Result (List Document) Fault)
    → TokensRead (tokens_of from input).tokens (tokens_of from input).fault r
    → PlainReading from input r
plain_reading from input r h = record {
  of_text = λ text s. subst (λ (c : Remaining). TokensRead c.tokens c.fault r) (tokens_are from input text s) h;
  of_none = λ are never. offended from input r (λ c. TokensRead c.tokens c.fault r) (λ f k. fault_read f r k) (decoded_characters from input) refl (none_spelled from input are never) h;
  of_tokens = h;
}

pub plain_loading : (from : yaml_encoding_t) (input : List ℕ)
    (r : Result (List loaded.Document) Fault)
    → TokensLoad (tokens_of from input).tokens (tokens_of from input).fault r
    → PlainLoading from input r
plain_loading from input r h = record {
  of_text = λ text s. subst (λ (c : Remaining). TokensLoad c.tokens c.fault r) (tokens_are from input text s) h;
  of_none = λ are never. offended from input r (λ c. TokensLoad c.tokens c.fault r) (λ f k. fault_loaded f r k) (decoded_characters from input) refl (none_spelled from input are never) h;
  of_tokens = h;
}
