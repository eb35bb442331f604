-- Canonical bytes decode to a text of words, whose tokens pass the adapter and are parsed as the content.
use Rattle.std.proofs.Common.{◌≡◌, ℕ, ◌<◌, ◌&&◌, nat_le, if◌then◌else◌, List, Ok, refl, sym, ap, ◌∙◌, ℤ, pos, negsuc, arith}
use Rattle.yaml_round_content.proofs.ReadBackWords.{nat_tests, yaml_encoding_t, YAML_ANY_ENCODING, decoded_text, Remaining, adapted, contents, events_of, ending_of, read, parsed, tokens_of, stream_says, written_documents, canonical_layout, canon_encoding, SaysIsInjective, WrittenTagsAreReadable, CanonicalBytesDecode, encoding_named, canonical_text, CanonicalTokensPass, without_fault, CanonicalTokensSayContent, CanonIsScanned, CanonReadsBack, CanonTellsContents}
use Rattle.yaml_scan_laws.specs.scan_history.Scanned.{scanned, scanned_in}
use Rattle.yaml_emit_laws.specs.emit_layout.Settings.{settled, settled_indent}
use Rattle.yaml_emit_laws.specs.TextLaws.{CanonicalTextIsRead}
use Rattle.yaml_round_content.proofs.Premises.{are_writable, are_spellable, have_texts, are_parsable}

-- ---- scanned

two_at_least : (n : ℕ) → 0 < (if nat_le 2 n && nat_le n 9 then n else 2)
two_at_least n = grind (arith, nat_tests)

indented : (n : ℤ) → 0 < settled_indent n
indented (pos n) = two_at_least n
indented (negsuc n) = two_at_least 0

pub canon_scanned : CanonicalBytesDecode → CanonicalTextIsRead → CanonIsScanned
canon_scanned decode law w e c h =
    let s = settled w YAML_ANY_ENCODING in
    let ds = written_documents c in
    let x = encoding_named (canon_encoding w) in
    let (text, told) = decode s e ds (are_spellable c h) in
    let r = law s e (indented w.indent) x ds (are_writable c h) in
    let detected : scanned YAML_ANY_ENCODING (canonical_layout w c) ≡ scanned_in x (decoded_text YAML_ANY_ENCODING (canonical_layout w c)) =
    ap (λ (y : yaml_encoding_t). scanned_in y (decoded_text YAML_ANY_ENCODING (canonical_layout w c))) told in
    let decoded : scanned_in x (decoded_text YAML_ANY_ENCODING (canonical_layout w c)) ≡ scanned_in x (Ok (canonical_text s ds)) =
    ap (λ (t : _). scanned_in x t) text in
    record { tokens = r.tokens; read = detected ∙ decoded ∙ r.read; same = r.same }

-- ---- read back

-- The fault of an input is that of its tokens.
pub ending_is : (from : yaml_encoding_t) (input : List ℕ)
    → ending_of from input ≡ (parsed (tokens_of from input)).ending
unfolding read
ending_is from input = refl

-- The contents of an input are those of its tokens.
pub contents_are : (from : yaml_encoding_t) (input : List ℕ)
    → contents (events_of from input) ≡ contents (parsed (tokens_of from input)).events
unfolding read
contents_are from input = refl

pub canon_read_back : CanonIsScanned → WrittenTagsAreReadable → CanonicalTokensPass
    → CanonicalTokensSayContent → CanonReadsBack
canon_read_back scan readable pass say w e c h =
    let x = encoding_named (canon_encoding w) in
    let ds = written_documents c in
    let r = scan w e c h in
    let passed : tokens_of YAML_ANY_ENCODING (canonical_layout w c) ≡ without_fault r.tokens =
    ap (λ (t : Remaining). adapted t) r.read ∙ pass x ds (have_texts readable c h) r.tokens r.same in
    let (says, ending) = say x c (are_parsable c h) r.tokens r.same in
    record {
      right = ending_is YAML_ANY_ENCODING (canonical_layout w c) ∙ ap (λ (t : Remaining). (parsed t).ending) passed ∙ ending;
      says = contents_are YAML_ANY_ENCODING (canonical_layout w c) ∙ ap (λ (t : Remaining). contents (parsed t).events) passed ∙ says;
    }

-- ---- contents kept apart

pub canon_tells : CanonReadsBack → SaysIsInjective → CanonTellsContents
canon_tells law injective w canonical c e hc he same =
    let says : stream_says c ≡ contents (events_of YAML_ANY_ENCODING (canonical_layout w c)) = sym (law w canonical c hc).says in
    let turned = ap (λ (t : List ℕ). contents (events_of YAML_ANY_ENCODING t)) same in
    injective c e (says ∙ turned ∙ (law w canonical e he).says)
