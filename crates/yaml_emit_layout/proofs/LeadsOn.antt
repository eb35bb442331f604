-- Whatever may come, its first event leads on.
use Rattle.std.proofs.Common.{◌≡◌, List, [], ◌∷◌, Bool, true, false, refl, sym, subst, ap, Option, Some, None}
use Rattle.yaml_parse_model.specs.Events.{TagDirective}
use Rattle.yaml_emit_layout.specs.declared.cursor.Cursor.{Cursor}
use Rattle.yaml_emit_layout.specs.declared.settings.Settings.{Settings}
use Rattle.yaml_emit_layout.specs.Layout.{Rest}
use Rattle.yaml_emit_layout.specs.declared.level.Level.{Level}
use Rattle.yaml_emit_layout.specs.declared.level.Phase.TheVariants.{Items, Keys}
use Rattle.yaml_emit_layout.specs.declared.level.Expected.TheVariants as at
use Rattle.yaml_emit_layout.specs.declared.level.NodePosition.{NodePosition}
use Rattle.yaml_emit_layout.specs.Content.{Start, Node, alias_node, scalar_node, sequence_node, mapping_node, Nodes, no_nodes, node, Pairs, no_pairs, pair, Document, Event, stream_start, stream_end, document_start, document_end, alias, scalar, sequence_start, sequence_end, mapping_start, mapping_end, node_events, items_events, pairs_events, documents_events}
use Rattle.yaml_emit_layout.specs.Grammar.{place_problem, node_problem, begins_node}
use Rattle.yaml_emit_layout.specs.Nodes.{context_of, is_simple, is_flow, indent_of, are_none, are_no_pairs, node_layout, items_layout, pairs_layout, stream_layout, documents_layout}
use Rattle.yaml_emit_layout.specs.State.{State, next, next_at, piece, text_at, depth_at, opens_empty, is_simple_event, top_of, position_of, before_node, levels_behind, phase_behind, among}
use Rattle.yaml_emit_layout.specs.ToCome.{Frame, items_left, pairs_left, value_left, ToCome, stream, documents, root, frames, nothing, levels_of, state_of, events, frame_events, frames_events, ending_events, layout, frame_layout, frames_layout}

-- an event at a state, by whether it opens an empty collection, and what comes after it
pub record Goes (s : Settings) (st : State) (e : Event) (empty : Bool) (es : List Event) (k : ToCome) : Type 0 where
  pub rest : Cursor → ToCome
  pub there : place_problem st.place (top_of st.levels) e ≡ None
  pub fits : (d : Cursor) → next s st e empty d ≡ state_of (rest d)
  pub same : (d : Cursor) → es ≡ events (rest d)
  pub text : (c : Cursor) (f : Rest)
      → layout s k c f ≡ piece s st e empty c (λ d. layout s (rest d) d f)

begins_here : (top : Option Level) (e : Event) → begins_node e ≡ true → node_problem top e ≡ None
begins_here None e h = rw h refl
begins_here (Some l) e h = rw h refl

empty_items : (p : Start) (ns : Nodes) (es : List Event)
    → opens_empty (sequence_start p) (items_events ns (sequence_end ∷ es)) ≡ are_none ns
unfolding opens_empty items_events node_events
empty_items p no_nodes es = refl
empty_items p (node (alias_node name) ns) es = refl
empty_items p (node _ ns) es = refl

empty_pairs : (p : Start) (ps : Pairs) (es : List Event)
    → opens_empty (mapping_start p) (pairs_events ps (mapping_end ∷ es)) ≡ are_no_pairs ps
unfolding opens_empty pairs_events node_events
empty_pairs p no_pairs es = refl
empty_pairs p (pair (alias_node name) v ps) es = refl
empty_pairs p (pair _ v ps) es = refl

-- the place of a node: its levels, what is left of the open collections after it, and what was to come with it
record Positioned (s : Settings) (g : List TagDirective) (ls : List Level) (outer : List Frame) (implicit : Bool) (ds : List Document) (v : Node) (k : ToCome) : Type 0 where
  levels : levels_behind ls (is_simple (context_of s g) v) ≡ levels_of outer
  text : (c : Cursor) (f : Rest)
      → layout s k c f ≡ before_node s (top_of ls) (is_simple (context_of s g) v) c
      (λ d. node_layout (context_of s g)
      (position_of (top_of ls) (is_simple (context_of s g) v)) v d
      (λ d'. layout s (frames g outer implicit ds) d' f))

from_same : (s : Settings) (st : State) (e e' : Event) (b : Bool) (es es' : List Event) (k : ToCome)
    → e ∷ es ≡ e' ∷ es' → opens_empty e' es' ≡ b → Goes s st e' b es' k
    → Goes s st e (opens_empty e es) es k
from_same s st e e' b es es' k h w g =
    let head : e' ≡ e = cc in
    let tail : es' ≡ es = cc in
    let P : Event → Type 0 = λ y. Goes s st y (opens_empty y es') es' k in
    let Q : List Event → Type 0 = λ ys. Goes s st e (opens_empty e ys) ys k in
    let R : Bool → Type 0 = λ a. Goes s st e' a es' k in
    subst Q tail (subst P head (subst R (sym w) g))

node_goes : (s : Settings) (g : List TagDirective) (ls : List Level) (outer : List Frame)
    (implicit : Bool) (ds : List Document) (e : Event) (es : List Event) (v : Node) (k : ToCome)
    → Positioned s g ls outer implicit ds v k
    → e ∷ es ≡ node_events v (frames_events outer (ending_events implicit ds))
    → Goes s (record { place = at.Node; levels = ls; directives = g }) e (opens_empty e es) es k
unfolding node_events is_simple is_simple_event node_layout text_at depth_at next_at state_of events layout place_problem opens_empty levels_of frames_events frames_layout frame_layout frame_events
node_goes s g ls outer implicit ds e es (alias_node name) k h w =
    from_same s _ e (alias name) false es _ k w refl (record {
      rest = λ d. frames g outer implicit ds;
      there = begins_here (top_of ls) (alias name) refl;
      fits = λ d. ap (among g) h.levels;
      same = λ d. refl;
      text = h.text;
    })
node_goes s g ls outer implicit ds e es (scalar_node y) k h w =
    from_same s _ e (scalar y) false es _ k w refl (record {
      rest = λ d. frames g outer implicit ds;
      there = begins_here (top_of ls) (scalar y) refl;
      fits = λ d. ap (among g) h.levels;
      same = λ d. refl;
      text = h.text;
    })
node_goes s g ls outer implicit ds e es (sequence_node q ns) k h w =
    let simple : Bool = is_simple (context_of s g) (sequence_node q ns) in
    let at : NodePosition = position_of (top_of ls) simple in
    let b : Bool = is_flow s at q (are_none ns) in
    from_same s _ e (sequence_start q) (are_none ns) es _ k w (empty_items q ns _) (record {
      rest = λ d. frames g (items_left b (indent_of s at true b d) true ns ∷ outer) implicit ds;
      there = begins_here (top_of ls) (sequence_start q) refl;
      fits = λ d. ap (λ (z : List Level). among g (record { phase = Items true; flow = b; indent = indent_of s at true b d } ∷ z)) h.levels;
      same = λ d. refl;
      text = h.text;
    })
node_goes s g ls outer implicit ds e es (mapping_node q ps) k h w =
    let simple : Bool = is_simple (context_of s g) (mapping_node q ps) in
    let at : NodePosition = position_of (top_of ls) simple in
    let b : Bool = is_flow s at q (are_no_pairs ps) in
    from_same s _ e (mapping_start q) (are_no_pairs ps) es _ k w (empty_pairs q ps _) (record {
      rest = λ d. frames g (pairs_left b (indent_of s at false b d) true ps ∷ outer) implicit ds;
      there = begins_here (top_of ls) (mapping_start q) refl;
      fits = λ d. ap (λ (z : List Level). among g (record { phase = Keys true; flow = b; indent = indent_of s at false b d } ∷ z)) h.levels;
      same = λ d. refl;
      text = h.text;
    })

frame_goes : (s : Settings) (g : List TagDirective) (f : Frame) (fs : List Frame) (implicit : Bool)
    (ds : List Document) (e : Event) (es : List Event)
    → e ∷ es ≡ events (frames g (f ∷ fs) implicit ds)
    → Goes s (state_of (frames g (f ∷ fs) implicit ds)) e (opens_empty e es) es
    (frames g (f ∷ fs) implicit ds)
unfolding state_of events layout levels_of frames_events frame_events frames_layout frame_layout items_events pairs_events items_layout pairs_layout next_at text_at depth_at place_problem phase_behind opens_empty
frame_goes s g (items_left flow n fresh no_nodes) fs implicit ds e es w =
    from_same s _ e sequence_end false es _ _ w refl (record { rest = λ d. frames g fs implicit ds; there = refl; fits = λ d. refl; same = λ d. refl; text = λ c f. refl })
frame_goes s g (items_left flow n fresh (node v ns)) fs implicit ds e es w =
    node_goes s g _ (items_left flow n false ns ∷ fs) implicit ds e es v _ (record { levels = refl; text = λ c f. refl }) w
frame_goes s g (pairs_left flow n fresh no_pairs) fs implicit ds e es w =
    from_same s _ e mapping_end false es _ _ w refl (record { rest = λ d. frames g fs implicit ds; there = refl; fits = λ d. refl; same = λ d. refl; text = λ c f. refl })
frame_goes s g (pairs_left flow n fresh (pair v u ps)) fs implicit ds e es w =
    node_goes s g _ (value_left flow n (is_simple (context_of s g) v) u ps ∷ fs) implicit ds e es v _ (record { levels = refl; text = λ c f. refl }) w
frame_goes s g (value_left flow n simple v ps) fs implicit ds e es w =
    node_goes s g _ (pairs_left flow n false ps ∷ fs) implicit ds e es v _ (record { levels = refl; text = λ c f. refl }) w

document_goes : (s : Settings) (first unended : Bool) (d : Document) (ds : List Document)
    → Goes s (state_of (documents first unended (d ∷ ds))) (document_start d.opening) false
    (node_events d.root (ending_events d.implicit_end ds)) (documents first unended (d ∷ ds))
unfolding state_of events layout text_at depth_at next_at place_problem documents_layout
document_goes s first unended d ds = record { rest = λ c. root d.opening.directives d.root d.implicit_end ds; there = refl; fits = λ c. refl; same = λ c. refl; text = λ c f. refl }

-- What is to come after an event goes on from the state after it.
pub goes : (s : Settings) (e : Event) (es : List Event) (k : ToCome) → e ∷ es ≡ events k
    → Goes s (state_of k) e (opens_empty e es) es k
unfolding state_of events layout levels_of frames_events frames_layout next_at text_at depth_at place_problem documents_events documents_layout stream_layout opens_empty
goes s e es (stream x ds) w = from_same s _ e (stream_start x) false es _ _ w refl (record { rest = λ d. documents true false ds; there = refl; fits = λ d. refl; same = λ d. refl; text = λ c f. refl })
goes s e es (documents first unended []) w = from_same s _ e stream_end false es _ _ w refl (record { rest = λ d. nothing; there = refl; fits = λ d. refl; same = λ d. refl; text = λ c f. refl })
goes s e es (documents first unended (d ∷ ds)) w =
    from_same s (state_of (documents first unended (d ∷ ds))) e (document_start d.opening) false es (node_events d.root (ending_events d.implicit_end ds)) (documents first unended (d ∷ ds)) w refl (document_goes s first unended d ds)
goes s e es (root g v implicit ds) w = node_goes s g [] [] implicit ds e es v _ (record { levels = refl; text = λ c f. refl }) w
goes s e es (frames g [] implicit ds) w =
    from_same s _ e (document_end implicit) false es _ _ w refl (record { rest = λ d. documents false implicit ds; there = refl; fits = λ d. refl; same = λ d. refl; text = λ c f. refl })
goes s e es (frames g (f ∷ fs) implicit ds) w = frame_goes s g f fs implicit ds e es w
goes s e es nothing w = absurd (cc)
