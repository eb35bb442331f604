-- A JSON text is decoded, scanned, passed on and parsed as its value.
use Rattle.std.proofs.Common.{◌≡◌, ℕ, true, List, [], ◌∷◌, map, Result, Ok, refl, ap, ◌∙◌}
use Rattle.yaml_round_laws.proofs.JsonWords.{yaml_encoding_t, YAML_UTF8_ENCODING, encoding_of, Spells, Told, Reading, HasContent, adapted, without_fault, parsed_of, Text, IsJsonText, json_value, json_content, json_document, IsUsualText, may_be_utf8, IsReadAsValue, JsonIsRead}
use Rattle.yaml_scan_decode.specs.declared.offence.Offence.{Offence}
use Rattle.yaml_scan_decode.proofs.CompleteLemmas.{spells_decoded}
use Rattle.yaml_scan_history.specs.Remaining.{Remaining}
use Rattle.yaml_scan_history.specs.Scanned.{scanned, scanned_in}
use Rattle.yaml_round_content.specs.Input.{events_of, read, parsed, tokens_of}
use Rattle.yaml_round_content.proofs.Joining.{said_read, events_of_tree, one_reading}
use Rattle.yaml_round_content.proofs.Told.{tree_events_of}
use Rattle.yaml_round_laws.proofs.Strings.{text_spells}
use Rattle.yaml_round_laws.proofs.Walk.{text_done}
use Rattle.yaml_round_laws.proofs.Documents.{tokens_pass, tokens_parsed}
use Rattle.yaml_round_laws.proofs.Unique.{one_content}
use Rattle.yaml_round_laws.proofs.Saying.{document_said, document_shown, document_shaped}

spelled_read : (from : yaml_encoding_t) (input text : List ℕ) (t : Text) → Spells from input text
    → IsJsonText text t → IsUsualText t → IsReadAsValue from input (json_value t.value)
unfolding read
spelled_read from input text t spells is usual =
    let v = json_value t.value in
    let x = encoding_of from input in
    let r = text_done x text t is usual in
    let decoded : scanned from input ≡ scanned_in x (Ok text) = ap (λ (d : Result (List ℕ) Offence). scanned_in x d) (spells_decoded from input text spells) in
    let passed : tokens_of from input ≡ without_fault r.tokens = ap (λ (c : Remaining). adapted c) (decoded ∙ r.read) ∙ tokens_pass x (json_document v) r.tokens r.same in
    let whole : read from input ≡ parsed_of r.tokens = refl ∙ ap (λ (c : Remaining). parsed c) passed in
    let (bodies, ending) = tokens_parsed x (json_document v) r.tokens r.same in
    let same = ap (λ (y : Reading). map (λ (g : Told). g.0.body) y.events) whole ∙ bodies in
    let said : HasContent from input (json_content v ∷ []) = record { right = ap (λ (y : Reading). y.ending) whole ∙ ending; says = document_said (events_of from input) x v same } in
    let reading = said_read from input (json_content v ∷ []) said in
    record {
      reading = reading;
      shaped = record {
        events = events_of from input;
        of_input = tree_events_of from input (events_of from input) reading.of_tokens.sentence (events_of_tree from input reading.of_tokens.sentence);
        encoding = x;
        document = json_document v;
        shaped = document_shaped t.value is.value;
        says = document_shown (events_of from input) x v same;
      };
      styled = refl;
    }

bytes_read : (from : yaml_encoding_t) → may_be_utf8 from ≡ true → (bytes : List ℕ) (t : Text)
    → IsJsonText bytes t → IsUsualText t → IsReadAsValue from bytes (json_value t.value)
bytes_read from may bytes t is usual = spelled_read from bytes bytes t (text_spells from may bytes t is usual) is usual

one_read : (text : List ℕ) (t u : Text) → IsJsonText text t → IsUsualText t → IsJsonText text u
    → IsUsualText u → json_value t.value ≡ json_value u.value
one_read text t u is usual are same =
    let r = bytes_read YAML_UTF8_ENCODING refl text t is usual in
    let s = bytes_read YAML_UTF8_ENCODING refl text u are same in
    one_content (json_value t.value) (json_value u.value) (one_reading YAML_UTF8_ENCODING text _ _ r.reading s.reading)

pub json_is_read : JsonIsRead
json_is_read = record { in_utf8 = bytes_read; spelled = spelled_read; one = one_read }
