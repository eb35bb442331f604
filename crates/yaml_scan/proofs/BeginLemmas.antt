-- Before the first token: the input is decoded, or why it can't be.
use Rattle.std.proofs.Common.{◌≡◌, ◌⊎◌, ℕ, false, ltb, List, length, Option, Some, None, Result, Ok, Err, refl, sym, ap, subst, ◌∙◌, inl, inr, arith}
use Rattle.std.specs.Prelude.{option_map}
use Rattle.std.specs.Result.{result_err}
use Rattle.yaml_scan_model.specs.declared.fault.yaml_origin_t.TheVariants.{Reader, Scanner as OfScanner}
use Rattle.yaml_scan_model.specs.declared.name.yaml_encoding_t.{yaml_encoding_t}
use Rattle.yaml_scan_model.specs.declared.name.yaml_encoding_t.TheVariants.{YAML_UTF8_ENCODING}
use Rattle.yaml_scan_model.specs.declared.name.yaml_error_type_t.TheVariants.{YAML_MEMORY_ERROR, YAML_READER_ERROR}
use Rattle.yaml_scan_types.specs.Faults.{Fault, memory_fault}
use Rattle.yaml_scan_decode.specs.declared.offence.Offence.{Offence}
use Rattle.yaml_scan_decode.specs.Decoding.{decoded_characters, decoded_text, in_utf8}
use Rattle.yaml_scan_decode.specs.DecodedText.{decoding_fault, text_bytes}
use Rattle.yaml_scan_decode.specs.Encodings.{encoding_of}
use Rattle.yaml_scan_decode.specs.Offences.{reader_fault}
use Rattle.yaml_scan_history.specs.Remaining.{SpelledText, offline}
use Rattle.yaml_scan_history.specs.Scanned.{scanned_in}
use Rattle.yaml_scan_core.specs.declared.scanner.Scanner.{Scanner}
use Rattle.yaml_scan_core.specs.Asked as asked
use Rattle.yaml_scan_core.specs.Found.{IsTold}
use Rattle.yaml_scan_core.specs.Handed.{to_come}
use Rattle.yaml_scan_core.specs.Scanning.{read_by, stream_of, taken_by}
use Rattle.yaml_scan_core.specs.Settled.{open_of}
use Rattle.yaml_scan_core.specs.Told.{Locates}
use Rattle.yaml_scan_core.specs.Waiting.{IsShort}
use Rattle.yaml_scan_core.proofs.MoreLemmas.{none_settled}
use Rattle.yaml_scan.specs.declared.known.ScannedText.{ScannedText}
use Rattle.yaml_scan.specs.Known.{IsReady, IsRefusedText, StandsFirst, scanner_of}
use Rattle.yaml_scan.proofs.PlacedLemmas.{placed}
use Rattle.yaml_scan.proofs.RestingLemmas.{is_over, ready_placed}

-- ---- why an input can't be decoded

offence_told : (encoding : yaml_encoding_t) (r : Result (List ℕ) Offence) (f : Fault)
    → option_map reader_fault (result_err r) ≡ Some f → IsTold (scanned_in encoding (in_utf8 r)) f
offence_told encoding (Ok cs) f e = cc
offence_told encoding (Err o) f e = inr (refl, e)

no_reader_fault : (r : Result (List ℕ) Offence) (f : Fault)
    → option_map reader_fault (result_err r) ≡ Some f → f ≡ memory_fault Reader → ⊥
no_reader_fault (Ok cs) f e is = cc
no_reader_fault (Err o) f e is =
    let same : f ≡ reader_fault o = cc in
    let bad : YAML_READER_ERROR ≡ YAML_MEMORY_ERROR = ap (λ (g : Fault). g.kind) (sym same ∙ is) in
    cc

one_fault : (o : Option Fault) (f g : Fault) → o ≡ Some f → o ≡ Some g → f ≡ g
one_fault None f g a b = cc
one_fault (Some h) f g a b = cc

-- the first offence, or out of memory, where the input isn't UTF-8
pub refused_decoding : (setting : yaml_encoding_t) (bytes : List ℕ) (f : Fault)
    → (f ≡ memory_fault Reader) ⊎ (decoding_fault setting bytes ≡ Some f)
    → (encoding_of setting bytes ≡ YAML_UTF8_ENCODING → decoding_fault setting bytes ≡ Some f)
    → IsRefusedText setting bytes f
refused_decoding setting bytes f told plain =
    let chars = decoded_characters setting bytes in
    record {
      told = elim told [ inl memory ↦ inl (inr memory) | inr is ↦ offence_told (encoding_of setting bytes) chars f is ];
      reader = λ is utf8. no_reader_fault chars f (plain utf8) is;
      plain = λ g utf8 is. one_fault (decoding_fault setting bytes) f g (plain utf8) is;
    }

spelled_text : (r : Result (List ℕ) Offence) (text : List ℕ) (g : Fault) → in_utf8 r ≡ Ok text
    → option_map reader_fault (result_err r) ≡ Some g → ⊥
spelled_text (Ok cs) text g e bad = cc
spelled_text (Err o) text g e bad = cc

-- what spells a text has no offence
pub none_wrong : (setting : yaml_encoding_t) (bytes text : List ℕ) (g : Fault)
    → decoded_text setting bytes ≡ Ok text → decoding_fault setting bytes ≡ Some g → ⊥
none_wrong setting bytes text g e bad = spelled_text (decoded_characters setting bytes) text g e bad

pub not_reader : (f : Fault) → f ≡ memory_fault OfScanner → f ≡ memory_fault Reader → ⊥
not_reader f is e = let bad : OfScanner ≡ Reader = ap (λ (g : Fault). g.origin) (sym is ∙ e) in cc

-- the scanner's out of memory, where the input is decoded
pub refused_memory : (setting : yaml_encoding_t) (bytes text : List ℕ) (f : Fault)
    → decoded_text setting bytes ≡ Ok text → f ≡ memory_fault OfScanner
    → IsRefusedText setting bytes f
refused_memory setting bytes text f decoded is = record {
  told = inl (inl is);
  reader = λ e. absurd (not_reader f is e);
  plain = λ g utf8 bad. absurd (none_wrong setting bytes text g decoded bad);
}

-- ---- a scanner before its first token

few_first : (s : Scanner) → read_by s ≡ 1 → taken_by s ≡ 0 → IsShort s
few_first s one none = omega (arith, one, none)

ready_first : (e : yaml_encoding_t) (text : List ℕ) (s : Scanner) → asked.Starts e text 1 s
    → IsReady s
ready_first e text s h = record {
  waits = h.waits;
  read = inl h.going;
  one = h.many;
  short = few_first s h.read h.taken;
  long = h.going.shows.holds.long;
}

pub starts_there : (setting : yaml_encoding_t) (bytes : List ℕ) (z : ScannedText) (s : Scanner)
    (e : yaml_encoding_t) → asked.Starts e (text_bytes z.text) 1 s
    → decoded_text setting bytes ≡ Ok (text_bytes z.text) → e ≡ encoding_of setting bytes
    → z.scanner ≡ record s { text = z.scanner.text } → Locates (text_bytes z.text) z.locator
    → StandsFirst setting bytes z
starts_there setting bytes z s e h decoded encoding same locates =
    let t = text_bytes z.text in
    let text : s.text.now ≡ t = ap (λ (x : SpelledText). x.text) h.stream in
    let is : placed (0, 0) s ≡ scanner_of z = is_over s z.scanner t same text in
    let stream : stream_of (scanner_of z) ≡ record { encoding = e; text = t } = subst (λ (x : Scanner). stream_of x ≡ record { encoding = e; text = t }) is h.stream in
    let come : to_come (scanner_of z) ≡ offline (stream_of (scanner_of z)) = subst (λ (x : Scanner). to_come x ≡ offline (stream_of x)) is h.come in
    record {
      stands = record {
        decoded = decoded;
        encoding = ap (λ (x : SpelledText). x.encoding) stream ∙ encoding;
        ready = subst IsReady is (ready_placed (0, 0) s (ready_first e t s h));
        locates = locates;
      };
      going = ap (λ (x : Scanner). x.ended) same ∙ h.going.going;
      come = come ∙ ap (λ (x : SpelledText). offline x) stream ∙ ap (λ n. offline record { encoding = n; text = t }) encoding ∙ sym (ap (λ r. scanned_in (encoding_of setting bytes) r) decoded);
      one = subst (λ (x : Scanner). read_by x ≡ 1) is h.read;
      none = subst (λ (x : Scanner). taken_by x ≡ 0) is h.taken;
    }

-- before a lexeme was read no token is settled
pub unsettled_first : (e : yaml_encoding_t) (r : Result (List ℕ) Offence)
    → ltb (open_of e r 0) (length (scanned_in e r).tokens) ≡ false
unsettled_first e (Ok text) = none_settled record { encoding = e; text = text }
unsettled_first e (Err o) = refl
