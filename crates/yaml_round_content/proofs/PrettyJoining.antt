-- Pretty text reads back exactly where the input doesn't begin with nothing, by the law of text.
use Rattle.std.proofs.Common.{◌≡◌, ℕ, ◌≤◌, false, ◌&&◌, nat_le, if◌then◌else◌, List, ◌∷◌, Ok, sym, ap, ◌∙◌, ℤ, pos, negsuc, arith}
use Rattle.yaml_round_content.proofs.PrettyWords.{nat_tests, yaml_encoding_t, YAML_ANY_ENCODING, Token, Item, encode, written, Encoding, Event, stream_layout, emitter_events, contents, events_of, ending_of, parsed, tokens_of, canonical_bytes, canonical_text, encoding_named, token_bodies, parsed_of, without_fault, stream_bodies, starts_with_nothing, begins_with_nothing, PrettyReadsBack, PrettyIsLost, PrettyFollows}
use Rattle.yaml_parse_model.specs.scan_types.Tokens as token
use Rattle.yaml_emit_laws.specs.scan_decode.Decoding.{decoded_text}
use Rattle.yaml_emit_laws.specs.scan_history.Remaining.{Remaining}
use Rattle.yaml_emit_laws.specs.scan_history.Scanned.{scanned, scanned_in}
use Rattle.yaml_emit_laws.specs.emit_layout.Settings.{settled, settled_indent}
use Rattle.yaml_emit_laws.specs.emit_layout.declared.RequestedSettings.{RequestedSettings}
use Rattle.yaml_emit_laws.specs.emit_layout.Streams.{IsStream}
use Rattle.yaml_round_content.specs.Adapted.{adapted}
use Rattle.yaml_emit_laws.specs.DocLaws.{PrettyTextIsRead}
use Rattle.yaml_round_content.proofs.PrettyPassing.{tokens_pass}
use Rattle.yaml_round_content.proofs.PrettySaying.{tokens_say}
use Rattle.yaml_round_content.proofs.PrettyDocuments.{is_told, tokens_lost}
use Rattle.yaml_round_content.proofs.InputTexts.{inputs_flags, inputs_parsable, layout_writable}
use Rattle.yaml_round_content.proofs.Bytes.{bytes_decode}
use Rattle.yaml_round_content.proofs.ReadBackJoining.{ending_is, contents_are}

pub two_at_least : (n : ℕ) → 2 ≤ (if nat_le 2 n && nat_le n 9 then n else 2)
two_at_least n = grind (arith, nat_tests)

pub nine_at_most : (n : ℕ) → (if nat_le 2 n && nat_le n 9 then n else 2) ≤ 9
nine_at_most n = grind (arith, nat_tests)

-- An indentation that is settled is at least 2.
pub least : (n : ℤ) → 2 ≤ settled_indent n
least (pos n) = two_at_least n
least (negsuc n) = two_at_least 0

-- It is at most 9.
pub most : (n : ℤ) → settled_indent n ≤ 9
most (pos n) = nine_at_most n
most (negsuc n) = nine_at_most 0

-- the tokens of the text, which a parser takes as they are
record Taken (w : RequestedSettings) (from : yaml_encoding_t) (input : List ℕ) (x : Encoding) (whole : List Item) (stream : IsStream w x (emitter_events false (events_of from input)) whole) : Type 0 where
  tokens : List Token
  encoding : yaml_encoding_t
  same : token_bodies tokens ≡ token.stream_start encoding
      ∷ stream_bodies (settled w stream.encoding) stream.documents
  ending : ending_of YAML_ANY_ENCODING (encode x whole) ≡ (parsed_of tokens).ending
  says : contents (events_of YAML_ANY_ENCODING (encode x whole))
      ≡ contents (parsed_of tokens).events

taken : PrettyTextIsRead → (w : RequestedSettings) → w.canonical ≡ false
    → (from : yaml_encoding_t) (input : List ℕ) (x : Encoding) (whole : List Item)
    → (stream : IsStream w x (emitter_events false (events_of from input)) whole)
    → Taken w from input x whole stream
taken law w pretty from input x whole stream =
    let s = settled w stream.encoding in
    let ds = stream.documents in
    let y = encoding_named s.encoding in
    let bytes = canonical_bytes s ds in
    let (writable, spellable, texts) = layout_writable w pretty from input x whole stream in
    let (text, told) = bytes_decode s ds writable spellable in
    let r = law s pretty (least w.indent) (most w.indent) y ds writable in
    let detected : scanned YAML_ANY_ENCODING bytes ≡ scanned_in y (decoded_text YAML_ANY_ENCODING bytes) = ap (λ (z : yaml_encoding_t). scanned_in z (decoded_text YAML_ANY_ENCODING bytes)) told in
    let decoded : scanned_in y (decoded_text YAML_ANY_ENCODING bytes) ≡ scanned_in y (Ok (canonical_text s ds)) = ap (λ (t : _). scanned_in y t) text in
    let passed : tokens_of YAML_ANY_ENCODING bytes ≡ without_fault r.tokens = ap (λ (t : Remaining). adapted t) (detected ∙ decoded ∙ r.read) ∙ tokens_pass s y ds texts r.tokens r.same in
    let is : encode x whole ≡ bytes = ap (λ (t : List Item). encode x t) stream.is ∙ ap (λ (z : Encoding). encode z (written (stream_layout s ds))) stream.coded in
    record {
      tokens = r.tokens;
      encoding = y;
      same = r.same;
      ending = ap (λ (b : List ℕ). ending_of YAML_ANY_ENCODING b) is ∙ ending_is YAML_ANY_ENCODING bytes ∙ ap (λ (t : Remaining). (parsed t).ending) passed;
      says = ap (λ (b : List ℕ). contents (events_of YAML_ANY_ENCODING b)) is ∙ contents_are YAML_ANY_ENCODING bytes ∙ ap (λ (t : Remaining). contents (parsed t).events) passed;
    }

begins_so : (w : RequestedSettings) → w.canonical ≡ false
    → (from : yaml_encoding_t) (input : List ℕ) (x : Encoding) (whole : List Item)
    → (stream : IsStream w x (emitter_events false (events_of from input)) whole)
    → starts_with_nothing (settled w stream.encoding) stream.documents
    ≡ begins_with_nothing (emitter_events false (events_of from input))
begins_so w pretty from input x whole stream =
    let (flags, fine) = inputs_flags from input stream.encoding stream.documents stream.same in
    sym (is_told (settled w stream.encoding) pretty stream.encoding stream.documents flags) ∙ ap (λ (es : List Event). begins_with_nothing es) (sym stream.same)

pub read_back : PrettyTextIsRead → PrettyReadsBack
read_back law w pretty from input some x whole stream =
    let t = taken law w pretty from input x whole stream in
    let (flags, fine) = inputs_flags from input stream.encoding stream.documents stream.same in
    let begins = begins_so w pretty from input x whole stream ∙ some in
    let (says, right) = tokens_say (settled w stream.encoding) (events_of from input) stream.encoding t.encoding stream.documents stream.same flags (inputs_parsable w from input x whole stream) begins t.tokens t.same in
    (t.ending ∙ right, t.says ∙ says)

pub lost : PrettyTextIsRead → PrettyIsLost
lost law w pretty from input none x whole stream (right, said) =
    let t = taken law w pretty from input x whole stream in
    let (flags, fine) = inputs_flags from input stream.encoding stream.documents stream.same in
    let begins = begins_so w pretty from input x whole stream ∙ none in
    tokens_lost (settled w stream.encoding) (events_of from input) stream.encoding t.encoding stream.documents stream.same flags (inputs_parsable w from input x whole stream) begins t.tokens t.same (sym t.says ∙ said) (sym t.ending ∙ right)

pub follows : PrettyFollows
follows law = (read_back law, lost law)
