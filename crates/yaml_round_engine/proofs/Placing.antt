-- Before each event of a stream, but the first, there is a place.
use Rattle.std.proofs.Common.{◌≡◌, ◌∙◌, ◌⊎◌, inl, inr, ℕ, List, [], ◌∷◌, ◌++◌, Option, true, refl, sym, ap}
use Rattle.yaml_scan_model.specs.declared.name.yaml_encoding_t.TheVariants.{YAML_ANY_ENCODING}
use Rattle.yaml_scan_model.specs.declared.name.yaml_sequence_style_t.TheVariants.{YAML_ANY_SEQUENCE_STYLE}
use Rattle.yaml_scan_model.specs.declared.name.yaml_mapping_style_t.TheVariants.{YAML_ANY_MAPPING_STYLE}
use Rattle.yaml_parse.specs.Events.{EventBody}
use Rattle.yaml_parse.specs.Events as event
use Rattle.yaml_round_content.specs.Said.{Node, alias, scalar, sequence, mapping, Nodes, no_nodes, node, Pairs, no_pairs, pair, Document, scalar_says, node_says, items_say, pairs_say, documents_say, stream_says}
use Rattle.yaml_round_engine.specs.Places.{Inside, at_root, at_item, at_key, at_value, StreamPosition, between, within, at_end, inside_says, whole_say, position_says}

-- ---- lists

-- these events are those, then that one and the others
abbrev Splits : List EventBody → List EventBody → EventBody → List EventBody → Type 0
Splits whole fs g gs = whole ≡ fs ++ g ∷ gs

rest_splits : (e f : EventBody) (whole fs : List EventBody) (g : EventBody) (gs : List EventBody)
    → Splits (e ∷ whole) (f ∷ fs) g gs → Splits whole fs g gs
rest_splits e f whole fs g gs s = cc

first_splits : (e f : EventBody) (whole fs : List EventBody) (g : EventBody) (gs : List EventBody)
    → Splits (e ∷ whole) (f ∷ fs) g gs → f ≡ e
first_splits e f whole fs g gs s = cc

pub heads : (a b : EventBody) (x y : List EventBody) → a ≡ b → x ≡ y → a ∷ x ≡ b ∷ y
heads a b x y p q = cc

-- ---- a node after items and pairs

abbrev with_item : Nodes → Node → Nodes
with_item no_nodes m = node m no_nodes
with_item (node n ns) m = node n (with_item ns m)

abbrev with_pair : Pairs → Node → Node → Pairs
with_pair no_pairs k v = pair k v no_pairs
with_pair (pair n m ps) k v = pair n m (with_pair ps k v)

abbrev with_document : List Document → Document → List Document
with_document [] e = e ∷ []
with_document (d ∷ ds) e = d ∷ with_document ds e

item_said : (ns : Nodes) (n : Node) (es : List EventBody)
    → items_say (with_item ns n) es ≡ items_say ns (node_says n es)
unfolding node_says items_say pairs_say
item_said no_nodes n es = refl
item_said (node m ns) n es = ap (λ (x : List EventBody). node_says m x) (item_said ns n es)

pair_said : (ps : Pairs) (k v : Node) (es : List EventBody)
    → pairs_say (with_pair ps k v) es ≡ pairs_say ps (node_says k (node_says v es))
unfolding node_says items_say pairs_say
pair_said no_pairs k v es = refl
pair_said (pair n m ps) k v es = ap (λ (x : List EventBody). node_says n (node_says m x)) (pair_said ps k v es)

document_said : (ds : List Document) (d : Document) (es : List EventBody)
    → whole_say (with_document ds d) es
    ≡ whole_say ds (event.document_start d.version d.directives true
    ∷ node_says d.root (event.document_end true ∷ es))
document_said [] d es = refl
document_said (c ∷ ds) d es = ap (λ (x : List EventBody). event.document_start c.version c.directives true ∷ node_says c.root (event.document_end true ∷ x)) (document_said ds d es)

-- ---- inside a node, or after it

-- after what is outside, these events are before a place
abbrev Reached : (List EventBody → List EventBody) → List EventBody → Type 0
Reached around fs = (i : Inside) × (around fs ≡ inside_says i [])

-- or they are all of it, and others
abbrev Left : (List EventBody → List EventBody) → List EventBody → List EventBody → EventBody
    → List EventBody → Type 0
Left says rest fs g gs = (hs : List EventBody) × Splits rest hs g gs × (fs ≡ says hs)

abbrev Inward : (List EventBody → List EventBody) → (List EventBody → List EventBody)
    → List EventBody → List EventBody → EventBody → List EventBody → Type 0
Inward around says rest fs g gs = Reached around fs ⊎ Left says rest fs g gs

-- an event that is a node
leaf : (outer : Inside) (e : EventBody) (rest fs : List EventBody) (g : EventBody)
    (gs : List EventBody) → Splits (e ∷ rest) fs g gs
    → Inward (λ x. inside_says outer x) (λ x. e ∷ x) rest fs g gs
leaf outer e rest [] g gs s = inl (outer, refl)
leaf outer e rest (f ∷ fs) g gs s = inr (fs, rest_splits e f rest fs g gs s, heads f e fs fs (first_splits e f rest fs g gs s) refl)

-- the end of a collection: before it is the place after all that it holds
closing : (inside : Inside) (around : List EventBody → List EventBody)
    (says : List EventBody → List EventBody) (e : EventBody)
    → around (says []) ≡ inside_says inside []
    → (rest fs hs : List EventBody) (g : EventBody) (gs : List EventBody)
    → Splits (e ∷ rest) hs g gs → fs ≡ says hs
    → Inward around (λ x. says (e ∷ x)) rest fs g gs
closing inside around says e here rest fs [] g gs s p = inl (inside, ap around p ∙ here)
closing inside around says e here rest fs (h ∷ hs) g gs s p =
    inr (hs, rest_splits e h rest hs g gs s, p ∙ ap says (heads h e hs hs (first_splits e h rest hs g gs s) refl))

-- what an opened collection holds, and its end
opened : (outer : Inside) (e : EventBody) (says : List EventBody → List EventBody) (end : EventBody)
    (inside : Inside)
    → inside_says outer (e ∷ says []) ≡ inside_says inside []
    → (rest fs : List EventBody) (g : EventBody) (gs : List EventBody)
    → Inward (λ x. inside_says outer (e ∷ x)) says (end ∷ rest) fs g gs
    → Inward (λ x. inside_says outer (e ∷ x)) (λ x. says (end ∷ x)) rest fs g gs
opened outer e says end inside here rest fs g gs (inl r) = inl r
opened outer e says end inside here rest fs g gs (inr l) = closing inside (λ x. inside_says outer (e ∷ x)) says end here rest fs l.0 g gs l.1 l.2

entered : (outer : Inside) (e : EventBody) (says : List EventBody → List EventBody)
    (rest : List EventBody)
    → ((fs : List EventBody) (g : EventBody) (gs : List EventBody) → Splits (says rest) fs g gs
    → Inward (λ x. inside_says outer (e ∷ x)) says rest fs g gs)
    → (fs : List EventBody) (g : EventBody) (gs : List EventBody) → Splits (e ∷ says rest) fs g gs
    → Inward (λ x. inside_says outer x) (λ x. e ∷ says x) rest fs g gs
entered outer e says rest more [] g gs s = inl (outer, refl)
entered outer e says rest more (f ∷ fs) g gs s =
    let same = first_splits e f (says rest) fs g gs s in
    elim (more fs g gs (rest_splits e f (says rest) fs g gs s)) [
      | inl r ↦ inl (r.0, ap (λ (x : List EventBody). inside_says outer x) (heads f e fs fs same refl) ∙ r.1)
      | inr l ↦ inr (l.0, l.1, heads f e fs (says l.0) same l.2)
    ]

-- one part, and then more of them
both : (around one more : List EventBody → List EventBody) (rest fs : List EventBody)
    (g : EventBody) (gs : List EventBody)
    → Inward around one (more rest) fs g gs
    → ((hs : List EventBody) → Splits (more rest) hs g gs
    → Inward (λ x. around (one x)) more rest hs g gs)
    → Inward around (λ x. one (more x)) rest fs g gs
both around one more rest fs g gs (inl r) next = inl r
both around one more rest fs g gs (inr l) next = elim (next l.0 l.1) [
  | inl r ↦ inl (r.0, ap around l.2 ∙ r.1)
  | inr m ↦ inr (m.0, m.1, l.2 ∙ ap one m.2)
]

-- the same, round it another way
around_as : (around other says : List EventBody → List EventBody) (rest fs : List EventBody)
    (g : EventBody) (gs : List EventBody) → other fs ≡ around fs
    → Inward around says rest fs g gs → Inward other says rest fs g gs
around_as around other says rest fs g gs e (inl r) = inl (r.0, e ∙ r.1)
around_as around other says rest fs g gs e (inr l) = inr l

abbrev starts : Option (List ℕ) → Option (List ℕ) → EventBody
starts anchor tag = event.sequence_start anchor tag true YAML_ANY_SEQUENCE_STYLE

abbrev maps : Option (List ℕ) → Option (List ℕ) → EventBody
maps anchor tag = event.mapping_start anchor tag true YAML_ANY_MAPPING_STYLE

mutual
  unfolding node_says items_say pairs_say

  in_node : (n : Node) (outer : Inside) (rest fs : List EventBody) (g : EventBody)
      (gs : List EventBody) → Splits (node_says n rest) fs g gs
      → Inward (λ x. inside_says outer x) (λ x. node_says n x) rest fs g gs
  in_node (alias name) outer rest fs g gs s = leaf outer (event.alias name) rest fs g gs s
  in_node (scalar anchor mark text) outer rest fs g gs s = leaf outer (scalar_says anchor mark text) rest fs g gs s
  in_node (sequence anchor tag items) outer rest fs g gs s =
      entered outer (starts anchor tag) (λ x. items_say items (event.sequence_end ∷ x)) rest
      (λ hs h hs' t. opened outer (starts anchor tag) (λ x. items_say items x) event.sequence_end (at_item outer anchor tag items) refl rest hs h hs'
      (in_items items no_nodes outer anchor tag (event.sequence_end ∷ rest) hs h hs' t))
      fs g gs s
  in_node (mapping anchor tag pairs) outer rest fs g gs s =
      entered outer (maps anchor tag) (λ x. pairs_say pairs (event.mapping_end ∷ x)) rest
      (λ hs h hs' t. opened outer (maps anchor tag) (λ x. pairs_say pairs x) event.mapping_end (at_key outer anchor tag pairs) refl rest hs h hs'
      (in_pairs pairs no_pairs outer anchor tag (event.mapping_end ∷ rest) hs h hs' t))
      fs g gs s

  in_items : (ns before : Nodes) (outer : Inside) (anchor tag : Option (List ℕ))
      (rest fs : List EventBody) (g : EventBody) (gs : List EventBody)
      → Splits (items_say ns rest) fs g gs
      → Inward (λ x. inside_says outer (starts anchor tag ∷ items_say before x))
      (λ x. items_say ns x) rest fs g gs
  in_items no_nodes before outer anchor tag rest fs g gs s = inr (fs, s, refl)
  in_items (node n ns) before outer anchor tag rest fs g gs s =
      both (λ x. inside_says outer (starts anchor tag ∷ items_say before x)) (λ x. node_says n x) (λ x. items_say ns x) rest fs g gs
      (in_node n (at_item outer anchor tag before) (items_say ns rest) fs g gs s)
      (λ hs t. around_as (λ x. inside_says outer (starts anchor tag ∷ items_say (with_item before n) x)) (λ x. inside_says outer (starts anchor tag ∷ items_say before (node_says n x)))
      (λ x. items_say ns x) rest hs g gs
      (ap (λ (x : List EventBody). inside_says outer (starts anchor tag ∷ x)) (sym (item_said before n hs)))
      (in_items ns (with_item before n) outer anchor tag rest hs g gs t))

  in_pairs : (ps before : Pairs) (outer : Inside) (anchor tag : Option (List ℕ))
      (rest fs : List EventBody) (g : EventBody) (gs : List EventBody)
      → Splits (pairs_say ps rest) fs g gs
      → Inward (λ x. inside_says outer (maps anchor tag ∷ pairs_say before x)) (λ x. pairs_say ps x)
      rest fs g gs
  in_pairs no_pairs before outer anchor tag rest fs g gs s = inr (fs, s, refl)
  in_pairs (pair k v ps) before outer anchor tag rest fs g gs s =
      both (λ x. inside_says outer (maps anchor tag ∷ pairs_say before x)) (λ x. node_says k x) (λ x. node_says v (pairs_say ps x)) rest fs g gs
      (in_node k (at_key outer anchor tag before) (node_says v (pairs_say ps rest)) fs g gs s)
      (λ hs t. both (λ x. inside_says outer (maps anchor tag ∷ pairs_say before (node_says k x))) (λ x. node_says v x) (λ x. pairs_say ps x) rest hs g gs
      (in_node v (at_value outer anchor tag before k) (pairs_say ps rest) hs g gs t)
      (λ is u. around_as (λ x. inside_says outer (maps anchor tag ∷ pairs_say (with_pair before k v) x)) (λ x. inside_says outer (maps anchor tag ∷ pairs_say before (node_says k (node_says v x))))
      (λ x. pairs_say ps x) rest is g gs
      (ap (λ (x : List EventBody). inside_says outer (maps anchor tag ∷ x)) (sym (pair_said before k v is)))
      (in_pairs ps (with_pair before k v) outer anchor tag rest is g gs u)))

-- ---- in a stream

abbrev Placed : List Document → List EventBody → Type 0
Placed before fs = (p : StreamPosition) × (event.stream_start YAML_ANY_ENCODING ∷ whole_say before fs ≡ position_says p [])

nothing_splits : (f : EventBody) (fs : List EventBody) (g : EventBody) (gs : List EventBody)
    → Splits [] (f ∷ fs) g gs → ⊥
nothing_splits f fs g gs s = absurd (cc)

nothing_split : (fs : List EventBody) (g : EventBody) (gs : List EventBody) → Splits [] fs g gs → ⊥
nothing_split [] g gs s = absurd (cc)
nothing_split (f ∷ fs) g gs s = nothing_splits f fs g gs s

placed_end : (before : List Document) (fs : List EventBody) (g : EventBody) (gs : List EventBody)
    → Splits (event.stream_end ∷ []) fs g gs → Placed before fs
placed_end before [] g gs s = (between before, refl)
placed_end before (f ∷ fs) g gs s = absurd (nothing_split fs g gs (rest_splits event.stream_end f [] fs g gs s))

-- after the document's start
abbrev in_document : List Document → Document → List EventBody → List EventBody
in_document before d es = event.stream_start YAML_ANY_ENCODING ∷ whole_say before (event.document_start d.version d.directives true ∷ es)

behind_root : (before ds : List Document) (d : Document) (g : EventBody) (gs : List EventBody)
    → ((hs : List EventBody) → Splits (documents_say ds) hs g gs
    → Placed (with_document before d) hs)
    → (fs hs : List EventBody) → Splits (event.document_end true ∷ documents_say ds) hs g gs
    → fs ≡ node_says d.root hs
    → (p : StreamPosition) × (in_document before d fs ≡ position_says p [])
behind_root before ds d g gs more fs [] s e = (at_end before d, ap (λ (x : List EventBody). in_document before d x) e)
behind_root before ds d g gs more fs (h ∷ hs) s e =
    let r = more hs (rest_splits (event.document_end true) h (documents_say ds) hs g gs s) in
    let same = heads h (event.document_end true) hs hs (first_splits (event.document_end true) h (documents_say ds) hs g gs s) refl in (
      r.0,
      ap (λ (x : List EventBody). in_document before d x) (e ∙ ap (λ (x : List EventBody). node_says d.root x) same)
          ∙ ap (λ (x : List EventBody). event.stream_start YAML_ANY_ENCODING ∷ x) (sym (document_said before d hs)) ∙ r.1,
    )

document_placed : (before ds : List Document) (d : Document) (g : EventBody) (gs : List EventBody)
    → ((hs : List EventBody) → Splits (documents_say ds) hs g gs
    → Placed (with_document before d) hs)
    → (fs : List EventBody)
    → Splits (event.document_start d.version d.directives true
    ∷ node_says d.root (event.document_end true ∷ documents_say ds)) fs g gs
    → Placed before fs
document_placed before ds d g gs more [] s = (between before, refl)
document_placed before ds d g gs more (f ∷ fs) s =
    let head = event.document_start d.version d.directives true in
    let rest = node_says d.root (event.document_end true ∷ documents_say ds) in
    let same : f ∷ fs ≡ head ∷ fs = heads f head fs fs (first_splits head f rest fs g gs s) refl in
    let here = ap (λ (x : List EventBody). event.stream_start YAML_ANY_ENCODING ∷ whole_say before x) same in
    elim (in_node d.root at_root (event.document_end true ∷ documents_say ds) fs g gs (rest_splits head f rest fs g gs s)) [
      | inl r ↦ (within before d.version d.directives r.0, here ∙ ap (λ (x : List EventBody). in_document before d x) r.1)
      | inr l ↦ let q = behind_root before ds d g gs more fs l.0 l.1 l.2 in (q.0, here ∙ q.1)
    ]

in_documents : (ds before : List Document) (fs : List EventBody) (g : EventBody)
    (gs : List EventBody) → Splits (documents_say ds) fs g gs → Placed before fs
unfolding documents_say
in_documents [] before fs g gs s = placed_end before fs g gs s
in_documents (d ∷ ds) before fs g gs s = document_placed before ds d g gs (λ hs t. in_documents ds (with_document before d) hs g gs t) fs s

-- What is before an event of a stream is before a place.
pub placed : (c : List Document) (f : EventBody) (fs : List EventBody) (g : EventBody)
    (gs : List EventBody) → stream_says c ≡ f ∷ fs ++ g ∷ gs
    → (p : StreamPosition) × (f ∷ fs ≡ position_says p [])
placed c f fs g gs s =
    let head = event.stream_start YAML_ANY_ENCODING in
    let r = in_documents c [] fs g gs (rest_splits head f (documents_say c) fs g gs s) in
    (r.0, heads f head fs fs (first_splits head f (documents_say c) fs g gs s) refl ∙ r.1)
