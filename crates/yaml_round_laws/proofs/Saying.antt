-- What the events of a JSON text say: its value.
use Rattle.std.proofs.Common.{◌≡◌, true, false, List, [], ◌∷◌, map, None, refl, ap, ◌∙◌, inl, inr}
use Rattle.yaml_round_laws.proofs.JsonWords.{yaml_encoding_t, EventBody, YAML_FLOW_SEQUENCE_STYLE, YAML_FLOW_MAPPING_STYLE, Told, scalar_event, node_says, items_say, pairs_say, documents_say, stream_says, emitter_event, node_events, items_events, pairs_events, documents_events, stream_events, Value, literal, number, string, array, object, Elements, last_element, element, Members, last_member, member, IsValue, AreElements, AreMembers, Json, list, pairs, Jsons, nothing, one, JsonPairs, no_pairs, pair, json_value, json_elements, json_members, content, json_content, quoted_scalar, flow_start, json_node, json_nodes, json_document}
use Rattle.yaml_round_content.specs.parse_model.Events as event
use Rattle.yaml_parse_grammar.specs.parse_model.declared.yaml_scalar_style_t.TheVariants.{YAML_DOUBLE_QUOTED_SCALAR_STYLE}
use Rattle.yaml_round_content.specs.Normalize.{normalize_body}
use Rattle.yaml_round_content.specs.Content.{content_of}
use Rattle.yaml_round_content.specs.Events.{emitter_events, contents}
use Rattle.yaml_emit_layout.specs.Content as emit
use Rattle.yaml_emit_laws.specs.Json.{IsJsonNode, AreJsonNodes, AreJsonPairs, IsJsonDocument}
use Rattle.yaml_round_laws.specs.Values.{json_pairs}
use Rattle.yaml_round_laws.specs.Values as values
use Rattle.yaml_round_laws.proofs.Strings.{literal_plain, number_plain}
use Rattle.yaml_round_laws.proofs.EventsRead.{json_reads, json_items_reads, json_pairs_reads, document_reads}

-- ---- as content

abbrev said : EventBody → EventBody
said b = content_of (normalize_body true b)

mutual
  unfolding json_reads json_items_reads json_pairs_reads node_says items_say pairs_say

  node_said : (v : Json) (es : List EventBody)
      → map said (json_reads (json_node v) es) ≡ node_says (content v) (map said es)
  node_said (list vs) es = ap (λ (bs : List EventBody). said (event.sequence_start None None true YAML_FLOW_SEQUENCE_STYLE) ∷ bs) (elements_said vs (event.sequence_end ∷ es))
  node_said (pairs ps) es = ap (λ (bs : List EventBody). said (event.mapping_start None None true YAML_FLOW_MAPPING_STYLE) ∷ bs) (pairs_said ps (event.mapping_end ∷ es))
  node_said _ es = refl

  elements_said : (vs : Jsons) (es : List EventBody)
      → map said (json_items_reads (json_nodes vs) es)
      ≡ items_say (values.contents vs) (map said es)
  elements_said nothing es = refl
  elements_said (one v vs) es = node_said v (json_items_reads (json_nodes vs) es) ∙ ap (λ (bs : List EventBody). node_says (content v) bs) (elements_said vs es)

  pairs_said : (ps : JsonPairs) (es : List EventBody)
      → map said (json_pairs_reads (json_pairs ps) es)
      ≡ pairs_say (values.pair_contents ps) (map said es)
  pairs_said no_pairs es = refl
  pairs_said (pair k v ps) es = ap (λ (bs : List EventBody). said (scalar_event None None k YAML_DOUBLE_QUOTED_SCALAR_STYLE) ∷ bs) (node_said v (json_pairs_reads (json_pairs ps) es) ∙ ap (λ (bs : List EventBody). node_says (content v) bs) (pairs_said ps es))

by_bodies : (es : List Told) → contents es ≡ map said (map (λ (g : Told). g.0.body) es)
by_bodies [] = refl
by_bodies (t ∷ ts) = ap (λ (bs : List EventBody). said t.0.body ∷ bs) (by_bodies ts)

pub document_said : (es : List Told) (x : yaml_encoding_t) (v : Json)
    → map (λ (g : Told). g.0.body) es ≡ event.stream_start x ∷ document_reads (json_document v)
    → contents es ≡ stream_says (json_content v ∷ [])
unfolding documents_say
document_said es x v same =
    by_bodies es ∙ ap (λ (bs : List EventBody). map said bs) same
    ∙ ap (λ (bs : List EventBody). said (event.stream_start x) ∷ said (event.document_start None [] true) ∷ bs) (node_said v (event.document_end true ∷ event.stream_end ∷ []))

-- ---- with styles

abbrev shown : EventBody → emit.Event
shown b = emitter_event (normalize_body false b)

mutual
  unfolding json_reads json_items_reads json_pairs_reads node_events items_events pairs_events

  node_shown : (v : Json) (es : List EventBody)
      → map shown (json_reads (json_node v) es) ≡ node_events (json_node v) (map shown es)
  node_shown (list vs) es = ap (λ (bs : List emit.Event). emit.sequence_start flow_start ∷ bs) (elements_shown vs (event.sequence_end ∷ es))
  node_shown (pairs ps) es = ap (λ (bs : List emit.Event). emit.mapping_start flow_start ∷ bs) (pairs_shown ps (event.mapping_end ∷ es))
  node_shown _ es = refl

  elements_shown : (vs : Jsons) (es : List EventBody)
      → map shown (json_items_reads (json_nodes vs) es)
      ≡ items_events (json_nodes vs) (map shown es)
  elements_shown nothing es = refl
  elements_shown (one v vs) es = node_shown v (json_items_reads (json_nodes vs) es) ∙ ap (λ (bs : List emit.Event). node_events (json_node v) bs) (elements_shown vs es)

  pairs_shown : (ps : JsonPairs) (es : List EventBody)
      → map shown (json_pairs_reads (json_pairs ps) es)
      ≡ pairs_events (json_pairs ps) (map shown es)
  pairs_shown no_pairs es = refl
  pairs_shown (pair k v ps) es = ap (λ (bs : List emit.Event). emit.scalar (quoted_scalar k) ∷ bs) (node_shown v (json_pairs_reads (json_pairs ps) es) ∙ ap (λ (bs : List emit.Event). node_events (json_node v) bs) (pairs_shown ps es))

shown_by : (es : List Told) → emitter_events false es ≡ map shown (map (λ (g : Told). g.0.body) es)
shown_by [] = refl
shown_by (t ∷ ts) = ap (λ (bs : List emit.Event). shown t.0.body ∷ bs) (shown_by ts)

pub document_shown : (es : List Told) (x : yaml_encoding_t) (v : Json)
    → map (λ (g : Told). g.0.body) es ≡ event.stream_start x ∷ document_reads (json_document v)
    → emitter_events false es ≡ stream_events x (json_document v ∷ [])
unfolding documents_events
document_shown es x v same =
    shown_by es ∙ ap (λ (bs : List EventBody). map shown bs) same
    ∙ ap (λ (bs : List emit.Event). shown (event.stream_start x) ∷ shown (event.document_start None [] true) ∷ bs) (node_shown v (event.document_end true ∷ event.stream_end ∷ []))

-- ---- it is shaped as JSON

mutual
  node_shaped : (v : Value) → IsValue v → IsJsonNode (json_node (json_value v))
  node_shaped (literal l) h = inr (record { anchor = refl; tag = refl; plain = refl; style = refl; value = literal_plain l })
  node_shaped (number n) h = inr (record { anchor = refl; tag = refl; plain = refl; style = refl; value = number_plain n h })
  node_shaped (string ls) h = inl (record { anchor = refl; tag = refl; style = refl })
  node_shaped (array w elements) (hw, h) = (record { anchor = refl; tag = refl; flow = refl }, elements_shaped elements h)
  node_shaped (object w members) (hw, h) = (record { anchor = refl; tag = refl; flow = refl }, members_shaped members h)
  node_shaped _ h = (record { anchor = refl; tag = refl; flow = refl }, tt)

  elements_shaped : (elements : Elements) → AreElements elements
      → AreJsonNodes (json_nodes (json_elements elements))
  elements_shaped (last_element v a) (h, ha) = (node_shaped v h, tt)
  elements_shaped (element v a b elements) (h, ha, hb, hs) = (node_shaped v h, elements_shaped elements hs)

  members_shaped : (members : Members) → AreMembers members
      → AreJsonPairs (json_pairs (json_members members))
  members_shaped (last_member k a b v c) (hk, ha, hb, h, hc) = (inl (record { anchor = refl; tag = refl; style = refl }), node_shaped v h, tt)
  members_shaped (member k a b v c d members) (hk, ha, hb, h, hc, hd, hs) = (inl (record { anchor = refl; tag = refl; style = refl }), node_shaped v h, members_shaped members hs)

pub document_shaped : (v : Value) → IsValue v → IsJsonDocument (json_document (json_value v))
document_shaped v h = record { version = refl; directives = refl; root = node_shaped v h }
