-- The text that people read decodes to a text whose tokens pass the adapter and are parsed as the content.
use Rattle.std.proofs.Common.{◌≡◌, ℕ, true, List, map, Ok, sym, ap, ◌∙◌}
use Rattle.yaml_parse_model.specs.declared.yaml_encoding_t.{yaml_encoding_t}
use Rattle.yaml_parse_model.specs.declared.yaml_encoding_t.TheVariants.{YAML_ANY_ENCODING}
use Rattle.yaml_parse_model.specs.Events.{EventBody}
use Rattle.yaml_emit_laws.specs.scan_decode.Decoding.{decoded_text}
use Rattle.yaml_scan_laws.specs.scan_history.Remaining.{Remaining}
use Rattle.yaml_scan_laws.specs.scan_history.Scanned.{scanned, scanned_in}
use Rattle.yaml_emit_laws.specs.emit_layout.Settings.{settled}
use Rattle.yaml_round_content.specs.Events.{contents}
use Rattle.yaml_round_content.specs.Input.{events_of, parsed, tokens_of}
use Rattle.yaml_round_content.specs.Said.{stream_says}
use Rattle.yaml_round_content.specs.Adapted.{adapted}
use Rattle.yaml_round_content.specs.BytesLaws.{canonical_text, encoding_named}
use Rattle.yaml_round_content.specs.TreeLaws.{parsed_of}
use Rattle.yaml_round_content.specs.Adapting.{without_fault}
use Rattle.yaml_emit_laws.proofs.Joining.{written_readable}
use Rattle.yaml_emit_laws.proofs.Whole.{text_is_read}
use Rattle.yaml_round_content.proofs.Injective.{says_injective}
use Rattle.yaml_round_content.proofs.WritableContents.{are_writable as inputs_writable}
use Rattle.yaml_round_content.proofs.Bytes.{bytes_decode}
use Rattle.yaml_round_content.proofs.Contents.{content, contents_by, stream_same}
use Rattle.yaml_round_content.proofs.PrettyDocuments.{tokens_parsed}
use Rattle.yaml_round_content.proofs.PrettyPassing.{tokens_pass}
use Rattle.yaml_round_content.specs.Readable.{readable_documents, readable}
use Rattle.yaml_round_content.specs.ReadableLaws.{ReadableReadsBack, ReadableTellsContents, ReadableIsRead, ReadableTellsInputs}
use Rattle.yaml_round_content.proofs.ReadablePremises.{are_writable, are_spellable, have_texts, are_parsable}
use Rattle.yaml_round_content.proofs.ReadableSaying.{have_flags, stream_said}
use Rattle.yaml_round_content.proofs.ReadableStarting.{starts_with_something}
use Rattle.yaml_round_content.proofs.ReadBackJoining.{ending_is, contents_are}
use Rattle.yaml_round_content.proofs.PrettyJoining.{least, most}

pub reads_back : ReadableReadsBack
reads_back w pretty c h =
    let s = settled w YAML_ANY_ENCODING in
    let ds = readable_documents c in
    let y = encoding_named s.encoding in
    let bytes = readable w c in
    let fine = are_parsable true c h in
    let (text, told) = bytes_decode s ds (are_writable true c h) (are_spellable true c h) in
    let r = text_is_read s pretty (least w.indent) (most w.indent) y ds (are_writable true c h) in
    let detected : scanned YAML_ANY_ENCODING bytes ≡ scanned_in y (decoded_text YAML_ANY_ENCODING bytes) = ap (λ (z : yaml_encoding_t). scanned_in z (decoded_text YAML_ANY_ENCODING bytes)) told in
    let decoded : scanned_in y (decoded_text YAML_ANY_ENCODING bytes) ≡ scanned_in y (Ok (canonical_text s ds)) = ap (λ (t : _). scanned_in y t) text in
    let passed : tokens_of YAML_ANY_ENCODING bytes ≡ without_fault r.tokens = ap (λ (t : Remaining). adapted t) (detected ∙ decoded ∙ r.read) ∙ tokens_pass s y ds (have_texts written_readable true c h) r.tokens r.same in
    let (events, ending) = tokens_parsed s y ds fine (starts_with_something s pretty c) r.tokens r.same in
    let says : contents (parsed_of r.tokens).events ≡ stream_says c = contents_by (parsed_of r.tokens).events ∙ ap (λ (bs : List EventBody). map content bs) events ∙ stream_same s y y ds (have_flags true c) fine ∙ stream_said y c in
    record {
      right = ending_is YAML_ANY_ENCODING bytes ∙ ap (λ (t : Remaining). (parsed t).ending) passed ∙ ending;
      says = contents_are YAML_ANY_ENCODING bytes ∙ ap (λ (t : Remaining). contents (parsed t).events) passed ∙ says;
    }

pub tells : ReadableTellsContents
tells w pretty c e hc he same =
    let says : stream_says c ≡ contents (events_of YAML_ANY_ENCODING (readable w c)) = sym (reads_back w pretty c hc).says in
    let turned = ap (λ (t : List ℕ). contents (events_of YAML_ANY_ENCODING t)) same in
    says_injective c e (says ∙ turned ∙ (reads_back w pretty e he).says)

pub is_read : ReadableIsRead
is_read from input c h w pretty = reads_back w pretty c (inputs_writable from input c h)

pub tells_inputs : ReadableTellsInputs
tells_inputs w pretty a_from b_from a b c e h k same = tells w pretty c e (inputs_writable a_from a c h) (inputs_writable b_from b e k) same
