-- What is marked depends on the events.
use Rattle.std.proofs.Common.{◌≡◌, ℕ, ◌+◌, ◌-◌, Bool, false, ◌||◌, nat_lt, List, [], ◌∷◌, refl, ap, sym, ◌∙◌, arith}
use Rattle.yaml_emit_laws.proofs.Shared.{yaml_encoding_t, Node, sequence_node, mapping_node, Nodes, no_nodes, node, Pairs, no_pairs, pair, Document, Event, document_end, scalar, sequence_start, sequence_end, mapping_start, mapping_end, node_events, items_events, pairs_events, documents_events, stream_events, MOST, EventsTellColumns}
use Rattle.yaml_emit_layout.proofs.Bools.{or_assoc}
use Rattle.yaml_emit_laws.proofs.ColumnsMarks.{node_marks, items_marks, pairs_marks, documents_marks}
use Rattle.yaml_emit_laws.proofs.ColumnsDepths.{too_deep, deep_marked}

abbrev mark_at : ℕ → Event → Bool
mark_at m (scalar x) = nat_lt MOST m
mark_at m (sequence_start q) = nat_lt MOST m
mark_at m (mapping_start q) = nat_lt MOST m
mark_at m _ = false

-- the indentation of the next node
abbrev behind : ℕ → ℕ → Event → ℕ
behind i m (sequence_start q) = m + i
behind i m sequence_end = m - i
behind i m (mapping_start q) = m + i
behind i m mapping_end = m - i
behind i m _ = m

unfoldable events_mark : ℕ → ℕ → List Event → Bool
events_mark i m [] = false
events_mark i m (e ∷ es) = mark_at m e || events_mark i (behind i m e) es

-- after a collection the indentation is what it was
closed : (i m : ℕ) (d : Bool) (es : List Event)
    → (d || events_mark i (m + i - i) es) ≡ (d || events_mark i m es)
closed i m d es = ap (λ n. d || events_mark i n es) (omega (arith))

mutual
  unfolding events_mark node_events items_events pairs_events node_marks items_marks pairs_marks

  of_node : (i m : ℕ) (n : Node) (es : List Event)
      → events_mark i m (node_events n es) ≡ (node_marks i m n || events_mark i m es)
  of_node i m (sequence_node q items) es =
      ap (λ b. nat_lt MOST m || b) (of_items i (m + i) items (sequence_end ∷ es) ∙ closed i m (items_marks i (m + i) items) es)
      ∙ or_assoc (nat_lt MOST m) (items_marks i (m + i) items) (events_mark i m es)
  of_node i m (mapping_node q pairs) es =
      ap (λ b. nat_lt MOST m || b) (of_pairs i (m + i) pairs (mapping_end ∷ es) ∙ closed i m (pairs_marks i (m + i) pairs) es)
      ∙ or_assoc (nat_lt MOST m) (pairs_marks i (m + i) pairs) (events_mark i m es)
  of_node i m _ es = refl

  of_items : (i m : ℕ) (ns : Nodes) (es : List Event)
      → events_mark i m (items_events ns es) ≡ (items_marks i m ns || events_mark i m es)
  of_items i m no_nodes es = refl
  of_items i m (node x xs) es =
      of_node i m x (items_events xs es) ∙ ap (λ b. node_marks i m x || b) (of_items i m xs es) ∙ or_assoc (node_marks i m x) (items_marks i m xs) (events_mark i m es)

  of_pairs : (i m : ℕ) (ps : Pairs) (es : List Event)
      → events_mark i m (pairs_events ps es) ≡ (pairs_marks i m ps || events_mark i m es)
  of_pairs i m no_pairs es = refl
  of_pairs i m (pair k v ps) es =
      of_node i m k (node_events v (pairs_events ps es))
      ∙ ap (λ b. node_marks i m k || b)
      (of_node i m v (pairs_events ps es) ∙ ap (λ b. node_marks i m v || b) (of_pairs i m ps es) ∙ or_assoc (node_marks i m v) (pairs_marks i m ps) (events_mark i m es))
      ∙ or_assoc (node_marks i m k) (node_marks i m v || pairs_marks i m ps) (events_mark i m es)

of_documents : (i : ℕ) (ds : List Document)
    → events_mark i i (documents_events ds) ≡ documents_marks i ds
unfolding events_mark documents_events documents_marks
of_documents i [] = refl
of_documents i (d ∷ ds) = of_node i i d.root (document_end d.implicit_end ∷ documents_events ds) ∙ ap (λ b. node_marks i i d.root || b) (of_documents i ds)

of_stream : (i : ℕ) (x : yaml_encoding_t) (ds : List Document)
    → events_mark i i (stream_events x ds) ≡ documents_marks i ds
unfolding events_mark
of_stream i x ds = of_documents i ds

-- documents with the same events mark alike
pub marks_same : (x y : yaml_encoding_t) (ds es : List Document)
    → stream_events x ds ≡ stream_events y es → (i : ℕ)
    → documents_marks i ds ≡ documents_marks i es
marks_same x y ds es e i = sym (of_stream i x ds) ∙ ap (events_mark i i) e ∙ of_stream i y es

pub events_tell : EventsTellColumns
events_tell x y ds es e i =
    let same = marks_same x y ds es e i in
    (λ h. too_deep i es (sym same ∙ deep_marked i ds h), λ h. too_deep i ds (same ∙ deep_marked i es h))
