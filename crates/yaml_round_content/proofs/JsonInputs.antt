-- Inputs shaped as JSON don't begin with nothing.
use Rattle.std.proofs.Common.{◌≡◌, ℕ, Bool, true, false, not, ◌&&◌, List, [], ◌∷◌, refl, sym, ap, ◌∙◌, inl, inr}
use Rattle.yaml_round_content.proofs.PrettyWords.{false≢true, and-false, yaml_encoding_t, yaml_scalar_style_t, Told, Event, stream_start, document_start, Scalar, Node, scalar_node, Opening, node_events, documents_events, is_directed, emitter_events, is_bare, is_asked_plain, says_nothing, begins_with_nothing, JsonBeginsWithSomething}
use Rattle.yaml_emit_laws.specs.Json.{IsJsonScalar, IsJsonNode}
use Rattle.yaml_scan_laws.specs.Values.{is_plain_value}
use Rattle.yaml_round_content.proofs.Joining.{events_of_tree}
use Rattle.yaml_emit_laws.specs.NodeBodies.{is_empty}

some_value : (value : List ℕ) → is_plain_value value ≡ true → is_empty value ≡ false
unfolding is_plain_value
some_value [] h = absurd (false≢true h)
some_value (b ∷ bs) h = refl

scalar_says : (x : Scalar) → IsJsonScalar x → says_nothing x ≡ false
scalar_says x (inl is) =
    ap (λ (s : yaml_scalar_style_t). is_bare x.anchor x.tag && (is_empty x.value && (x.plain && is_asked_plain s))) is.style
    ∙ ap (λ (b : Bool). is_bare x.anchor x.tag && (is_empty x.value && b)) (and-false x.plain)
    ∙ ap (λ (b : Bool). is_bare x.anchor x.tag && b) (and-false (is_empty x.value)) ∙ and-false (is_bare x.anchor x.tag)
scalar_says x (inr is) = ap (λ (e : Bool). is_bare x.anchor x.tag && (e && (x.plain && is_asked_plain x.style))) (some_value x.value is.value) ∙ and-false (is_bare x.anchor x.tag)

root_begins : (x : yaml_encoding_t) (o : Opening) (n : Node) (es : List Event) → IsJsonNode n
    → begins_with_nothing (stream_start x ∷ document_start o ∷ node_events n es) ≡ false
unfolding node_events
root_begins x o (scalar_node v) es is = ap (λ (b : Bool). (o.implicit && not (is_directed o)) && b) (scalar_says v is) ∙ and-false (o.implicit && not (is_directed o))
root_begins x o _ es is = refl

pub json_begins : JsonBeginsWithSomething
unfolding documents_events
json_begins from input json =
    let are = json.of_input.are ∙ sym (events_of_tree from input json.of_input.sentence) in
    ap (λ (es : List Event). begins_with_nothing es) (ap (λ (es : List Told). emitter_events false es) (sym are) ∙ json.says) ∙ (root_begins json.encoding json.document.opening json.document.root _ json.shaped.root)
