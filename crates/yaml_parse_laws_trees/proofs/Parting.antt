-- A document's start does to a stack what the stream's end does, except for its own event.
use Rattle.std.proofs.Common.{◌≡◌, false, List, [], ◌∷◌, ◌++◌, Option, Some, refl, sym, ap, subst, ◌∙◌, inl, inr, ◌⊎◌, arith}
use Rattle.yaml_parse_laws_trees.proofs.WindowsWords.{yaml_mark_t, Token, Event, Fault, Refuse, Leave, ParseProblem, Root, RawEvent, item_at, event_at, Directives, no_directives, Settled, settle, State, choice_at, left_at, stop, go, with_item, turn, feed}
use Rattle.yaml_parse_grammar.specs.parse_model.declared.yaml_token_type_t.TheVariants as kind
use Rattle.yaml_parse_grammar.specs.scan_types.Tokens as token
use Rattle.yaml_parse_grammar.specs.parse_model.Events as event
use Rattle.yaml_parse_grammar.specs.Items as item
use Rattle.yaml_parse_grammar.specs.States as state
use Rattle.yaml_parse_laws_trees.proofs.Grounding.{Stands}
use Rattle.yaml_parse_laws_trees.proofs.Noting.{Follows, through, within_stands, none_some, pair_last}

abbrev pub end_at : yaml_mark_t → yaml_mark_t → Token
end_at m e = record { body = token.stream_end; start_mark = m; end_mark = e }

abbrev pub start_at : yaml_mark_t → yaml_mark_t → Token
start_at m e = record { body = token.document_start; start_mark = m; end_mark = e }

-- the states of a document after its `---`
abbrev pub begun : yaml_mark_t → List State
begun e = state.optional Root e ∷ state.document_end ∷ state.documents ∷ []

-- a state is left at either, or refuses the stream's end
abbrev Same : State → Type 0
Same x = ((choice_at x kind.YAML_STREAM_END_TOKEN ≡ Leave) × (choice_at x kind.YAML_DOCUMENT_START_TOKEN ≡ Leave))
    ⊎ ((p : ParseProblem) × (o : Option yaml_mark_t) × (choice_at x kind.YAML_STREAM_END_TOKEN ≡ Refuse p o))

optional_same : (place : _) (before : yaml_mark_t) → Same (state.optional place before)
optional_same place before = grind arith

properties_same : (w : _) (p : _) → Same (state.with_properties w p)
properties_same w p = grind arith

items_same : (b : _) (opener : yaml_mark_t) → Same (state.items b opener)
items_same b opener = grind arith

more_same : (b : _) (opener : yaml_mark_t) → Same (state.more b opener)
more_same b opener = grind arith

-- what both give, and then each its own; after a document nothing is noted
pub record Ended (s : List State) (m e f : yaml_mark_t) : Type 0 where
  pub left : List RawEvent
  pub ends : feed s (end_at m e) ≡ go (left ++ event_at event.stream_end m e ∷ []) []
  pub starts : feed s (start_at m f) ≡ go (left ++ item_at (item.document false) m f ∷ []) (begun f)
  pub clean : (ds : Directives) → Stands s ds → (es : List Event) (behind : Directives)
      → through left ds ≡ Some (es, behind) → behind ≡ no_directives

abbrev pub Parts : List State → yaml_mark_t → yaml_mark_t → yaml_mark_t → Type 0
Parts s m e f = Ended s m e f ⊎ ((is : List RawEvent) × (g : Fault) × (feed s (end_at m e) ≡ stop is g))

at_bottom : (x : State) (m e f : yaml_mark_t)
    → ((ds : Directives) → Stands (x ∷ []) ds → ds ≡ no_directives)
    → feed (x ∷ []) (end_at m e) ≡ go (event_at event.stream_end m e ∷ []) []
    → feed (x ∷ []) (start_at m f) ≡ go (item_at (item.document false) m f ∷ []) (begun f)
    → Parts (x ∷ []) m e f
at_bottom x m e f none ends starts = grind (arith, pair_last)

clean_behind : (i : RawEvent) (left : List RawEvent) (ds : Directives) (y : Settled) → settle i ds
    ≡ y
    → ((z : Directives) → Follows y z → (es : List Event) (behind : Directives) → through left z ≡ Some (es, behind) → behind ≡ no_directives)
    → (es : List Event) (behind : Directives) → through (i ∷ left) ds ≡ Some (es, behind) → behind ≡ no_directives
clean_behind i left ds y e h es behind t = grind (arith, none_some, pair_last)

-- a state that is left passes on what the states below do
left_parts : (x : State) (s : List State) (m e f : yaml_mark_t) → Same x
    → ((ds : Directives) → Stands (x ∷ s) ds → (z : Directives) → Follows (settle (left_at x m) ds) z → Stands s z)
    → Parts s m e f → Parts (x ∷ s) m e f
unfolding feed
left_parts x s m e f (inr (p, o, refuses)) stands below = inr (_, _, ap (λ c. turn c x (end_at m e) s (feed s (end_at m e))) refuses)
left_parts x s m e f (inl (leaves, leaves_too)) stands (inr (is, g, stops)) =
    inr (left_at x m ∷ is, g, ap (λ c. turn c x (end_at m e) s (feed s (end_at m e))) leaves ∙ ap (with_item (left_at x m)) stops)
left_parts x s m e f (inl (leaves, leaves_too)) stands (inl r) = inl record {
  left = left_at x m ∷ r.left;
  ends = ap (λ c. turn c x (end_at m e) s (feed s (end_at m e))) leaves ∙ ap (with_item (left_at x m)) r.ends;
  starts = ap (λ c. turn c x (start_at m f) s (feed s (start_at m f))) leaves_too ∙ ap (with_item (left_at x m)) r.starts;
  clean = λ ds g. clean_behind (left_at x m) r.left ds (settle (left_at x m) ds) refl (λ z follows. r.clean z (stands ds g z follows));
}

-- A sound stack ends at the stream's end, or refuses it.
pub parts : (s : List State) (ds : Directives) → Stands s ds → (m e f : yaml_mark_t) → Parts s m e f
unfolding feed
parts [] ds g m e f = absurd g
parts (state.stream ∷ s) ds g m e f = inr (_, _, refl)
parts (state.first ∷ s) ds g m e f = rw (g.0) (at_bottom state.first m e f (λ z h. h.1) refl refl)
parts (state.documents ∷ s) ds g m e f = rw (g.0) (at_bottom state.documents m e f (λ z h. h.1) refl refl)
parts (state.directives from ∷ s) ds g m e f = inr (_, _, refl)
parts (state.document_end ∷ s) ds g m e f =
    left_parts state.document_end s m e f (inl (refl, refl)) (λ x h z follows. subst (λ y. Stands y z) (sym g) (refl, sym follows))
    (rw g (at_bottom state.documents m e f (λ z h. h.1) refl refl))
parts (state.optional place before ∷ s) ds g m e f = left_parts (state.optional place before) s m e f (optional_same place before) (λ x h z follows. within_stands s z g) (parts s ds (within_stands s ds g) m e f)
parts (state.entries opener ∷ s) ds g m e f = left_parts (state.entries opener) s m e f (inr (_, _, refl)) (λ x h z follows. within_stands s z g) (parts s ds (within_stands s ds g) m e f)
parts (state.others side ∷ s) ds g m e f = left_parts (state.others side) s m e f (inl (refl, refl)) (λ x h z follows. within_stands s z g) (parts s ds (within_stands s ds g) m e f)
parts (state.pairs opener ∷ s) ds g m e f = left_parts (state.pairs opener) s m e f (inr (_, _, refl)) (λ x h z follows. within_stands s z g) (parts s ds (within_stands s ds g) m e f)
parts (state.colon place ∷ s) ds g m e f = left_parts (state.colon place) s m e f (inl (refl, refl)) (λ x h z follows. within_stands s z g) (parts s ds (within_stands s ds g) m e f)
parts (state.with_properties w p ∷ s) ds g m e f = left_parts (state.with_properties w p) s m e f (properties_same w p) (λ x h z follows. within_stands s z g) (parts s ds (within_stands s ds g) m e f)
parts (state.items b opener ∷ s) ds g m e f = left_parts (state.items b opener) s m e f (items_same b opener) (λ x h z follows. within_stands s z g) (parts s ds (within_stands s ds g) m e f)
parts (state.more b opener ∷ s) ds g m e f = left_parts (state.more b opener) s m e f (more_same b opener) (λ x h z follows. within_stands s z g) (parts s ds (within_stands s ds g) m e f)
parts (state.pair_end ∷ s) ds g m e f = left_parts (state.pair_end) s m e f (inl (refl, refl)) (λ x h z follows. within_stands s z g) (parts s ds (within_stands s ds g) m e f)
parts (state.lone ∷ s) ds g m e f = left_parts (state.lone) s m e f (inl (refl, refl)) (λ x h z follows. within_stands s z g) (parts s ds (within_stands s ds g) m e f)
