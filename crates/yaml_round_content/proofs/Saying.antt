-- The events of a tree say its content.
use Rattle.std.proofs.Common.{◌≡◌, ◌⊎◌, inl, inr, ℕ, Bool, true, false, if◌then◌else◌, ◌&&◌, ◌==◌, List, [], ◌∷◌, ◌++◌, length, map, Option, Some, None, option_map, codes, arith, refl, ap, sym, subst, ◌∙◌}
use Rattle.yaml_round_content.proofs.Words.{bytes_eq, cases_Bool, eqb-true, and_parts, true≢false, bytes_eq-Decides, yaml_mark_t, yaml_scalar_style_t, YAML_PLAIN_SCALAR_STYLE, Token, Fault, Event, EventBody, TagDirective, Wants, Side, Site, Properties, properties_of, spell_documents, resolved, directive_for, or_default, is_lone_mark, normalize_scalar, normalize_body, content_of, scalar_says, node_says, items_say, pairs_say, documents_say, stream_says, untagged, tagged, in_full, tag_of, anchor_of, is_plain, tags_in, tree_content, begins, placed_scalar, placed_empty, placed_node, placed_content, placed_maybe, placed_colon, placed_items, placed_more_items, placed_parts, placed_more_parts, placed_entries, placed_others, placed_pairs, placed_documents, placed_first, end_of, placed_events, tree_events, spanning, events, item_events, pair_events, default_prefix, prefix_of, mark_of, empty, node_of, with_content, maybe_of, colon_of, items_of, more_items_of, parts_of, more_parts_of, entries_of, others_of, pairs_of, documents_of, behind_first, head}
use Rattle.yaml_parse_model.specs.Events as event
use Rattle.yaml_emit_laws.specs.parse_grammar.declared.Brackets.TheVariants as brackets
use Rattle.yaml_emit_laws.specs.parse_grammar.Trees as tree
use Rattle.yaml_parse_loader.specs.Numbering.{scalar}

-- those events say that
pub record Says (es : List Event) (xs : List EventBody) : Type 0 where
  pub same : map (λ (e : Event). content_of (normalize_body true e.body)) es ≡ xs

-- one event before others
on : (b : EventBody) (from to : yaml_mark_t) (x : EventBody) {es : List Event} {xs : List EventBody}
    → content_of (normalize_body true b) ≡ x → Says es xs → Says (spanning b from to ∷ es) (x ∷ xs)
on b from to x {es} {xs} p h = record { same = ap (λ (y : EventBody). y ∷ map (λ (e : Event). content_of (normalize_body true e.body)) es) p ∙ ap (λ (ys : List EventBody). x ∷ ys) h.same }

-- ---- one event

long : (a b : ℕ) (t : List ℕ) → (length (a ∷ b ∷ t) == 1) ≡ true → ⊥
long a b t e = let h = eqb-true (length (a ∷ b ∷ t)) 1 e in omega (arith, h)

is_mark : (t value : List ℕ) → is_lone_mark (Some t) value ≡ true → t ≡ 33 ∷ []
is_mark [] value e = absurd (none (and_parts (length value == 0) false (and_parts (length value == 0 && false) _ e).0).1)
  where
    none : false ≡ true → ⊥
    none h = absurd (cc)
is_mark (a ∷ []) value e = ap (λ (b : ℕ). b ∷ []) (eqb-true a 33 (and_parts (length value == 0 && true) (a == 33) e).1)
is_mark (a ∷ b ∷ t) value e = absurd (long a b t (and_parts (length value == 0) (length (a ∷ b ∷ t) == 1) (and_parts (length value == 0 && length (a ∷ b ∷ t) == 1) _ e).0).1)

-- A tag that is no `!` is no lone mark.
pub no_mark : (t value : List ℕ) → bytes_eq t (codes "!") ≡ false
    → is_lone_mark (Some t) value ≡ false
no_mark t value e =
    elim (cases_Bool (is_lone_mark (Some t) value)) [
      | inr h ↦ h
      | inl h ↦ absurd (true≢false (sym ((bytes_eq-Decides t (codes "!")).1 (is_mark t value h)) ∙ e))
    ]

empty_tagged : (anchor : Option (List ℕ)) (t : List ℕ) (b : Bool) → is_lone_mark (Some t) [] ≡ b
    → content_of (normalize_body true
    (event.scalar anchor (Some t) [] false false YAML_PLAIN_SCALAR_STYLE))
    ≡ scalar_says anchor (if b then untagged true else tagged t) []
empty_tagged anchor t true e = ap (λ (l : Bool). content_of (normalize_scalar l anchor (Some t) [] false false YAML_PLAIN_SCALAR_STYLE)) e
empty_tagged anchor t false e = ap (λ (l : Bool). content_of (normalize_scalar l anchor (Some t) [] false false YAML_PLAIN_SCALAR_STYLE)) e

-- a lone mark without directives is an exclamation mark
pub lone_is : (t : List ℕ) → is_lone_mark (Some t) [] ≡ bytes_eq t (codes "!")
lone_is t = elim (cases_Bool (bytes_eq t (codes "!"))) [
  | inl h ↦ (subst (λ (z : List ℕ). is_lone_mark (Some z) [] ≡ true) (sym ((bytes_eq-Decides t (codes "!")).0 h)) refl) ∙ sym h
  | inr h ↦ no_mark t [] h ∙ sym h
]

empty_said : (anchor tag : Option (List ℕ)) (from to : yaml_mark_t) {es : List Event}
    {xs : List EventBody} → Says es xs
    → Says (events (placed_empty anchor tag from to) es) (node_says (empty anchor tag) xs)
unfolding node_says
empty_said anchor None from to h = on _ _ _ _ refl h
empty_said anchor (Some t) from to h = on _ _ _ _ (empty_tagged anchor t (bytes_eq t (codes "!")) (lone_is t)) h

tagged_said : (anchor : Option (List ℕ)) (t value : List ℕ) (style : yaml_scalar_style_t)
    (from to : yaml_mark_t) (b : Bool) → (b ≡ false → is_lone_mark (Some t) value ≡ false)
    → {es : List Event} {xs : List EventBody} → Says es xs
    → Says (events (if b then scalar (head anchor None from to) value true false style
    else scalar (head anchor (Some t) from to) value false false style) es)
    (scalar_says anchor (if b then untagged true else tagged t) value ∷ xs)
tagged_said anchor t value style from to true k h = on _ _ _ _ refl h
tagged_said anchor t value style from to false k h = on _ _ _ _ (ap (λ (l : Bool). content_of (normalize_scalar l anchor (Some t) value false false style)) (k refl)) h

scalar_said : (anchor tag : Option (List ℕ)) (value : List ℕ) (style : yaml_scalar_style_t)
    (from to : yaml_mark_t) {es : List Event} {xs : List EventBody} → Says es xs
    → Says (events (placed_scalar anchor tag value style from to) es)
    (scalar_says anchor (mark_of tag (is_plain style)) value ∷ xs)
scalar_said anchor None value style from to h = on _ _ _ _ refl h
scalar_said anchor (Some t) value style from to h = tagged_said anchor t value style from to (bytes_eq t (codes "!")) (λ k. no_mark t value k) h

-- ---- tags

some_same : (x y : List ℕ) → Some x ≡ Some y → y ≡ x
some_same x y h = cc

default_is : (handle p : List ℕ) → default_prefix handle ≡ Some p → p ≡ prefix_of [] handle
default_is handle p e = by_test (cases_Bool (bytes_eq handle (codes "!"))) (cases_Bool (bytes_eq handle (codes "!!")))
  where
    itself : (h q : List ℕ) → h ≡ codes "!" → default_prefix h ≡ Some q → q ≡ prefix_of [] h
    itself h q same e =
        let k : default_prefix (codes "!") ≡ Some q = ap default_prefix (sym same) ∙ e in
        some_same (codes "!") q k ∙ ap (λ (z : List ℕ). prefix_of [] z) (sym same)

    own : (a : Bool) → (if a then Some (codes "!") else Some (codes "tag:yaml.org,2002:")) ≡ Some p
        → a ≡ false → p ≡ codes "tag:yaml.org,2002:"
    own true e h = cc
    own false e h = some_same (codes "tag:yaml.org,2002:") p e

    by_test : (bytes_eq handle (codes "!") ≡ true) ⊎ (bytes_eq handle (codes "!") ≡ false)
        → (bytes_eq handle (codes "!!") ≡ true) ⊎ (bytes_eq handle (codes "!!") ≡ false)
        → p ≡ prefix_of [] handle
    by_test (inl a) b = itself handle p ((bytes_eq-Decides handle (codes "!")).0 a) e
    by_test (inr a) (inl b) = cc
    by_test (inr a) (inr b) = cc

known_is : (ds : List TagDirective) (handle p : List ℕ)
    → or_default (directive_for handle ds) handle ≡ Some p → p ≡ prefix_of ds handle
unfolding directive_for
known_is [] handle p e = default_is handle p e
known_is (d ∷ ds) handle p e = by_test (bytes_eq d.handle handle) e (λ h. known_is ds handle p h)
  where
    by_test : (b : Bool)
        → or_default (if b then Some d.prefix else directive_for handle ds) handle ≡ Some p
        → (or_default (directive_for handle ds) handle ≡ Some p → p ≡ prefix_of ds handle)
        → p ≡ (if b then d.prefix else prefix_of ds handle)
    by_test true e k = some_same d.prefix p e
    by_test false e k = k e

joined_is : (o : Option (List ℕ)) (suffix x full : List ℕ)
    → option_map (λ (prefix : List ℕ). prefix ++ suffix) o ≡ Some x
    → ((p : List ℕ) → o ≡ Some p → p ++ suffix ≡ full) → x ≡ full
joined_is None suffix x full e h = cc
joined_is (Some p) suffix x full e h = some_same (p ++ suffix) x e ∙ h p refl

pub full_is : (ds : List TagDirective) (handle suffix x : List ℕ)
    → resolved ds handle suffix ≡ Some x → x ≡ in_full ds handle suffix
full_is ds [] suffix x e = some_same suffix x e
full_is ds (c ∷ handle) suffix x e =
    joined_is (or_default (directive_for (c ∷ handle) ds) (c ∷ handle)) suffix x (prefix_of ds (c ∷ handle) ++ suffix) e
    (λ p h. ap (λ (z : List ℕ). z ++ suffix) (known_is ds (c ∷ handle) p h))

pub not_none : (e : Fault) → Some e ≡ None → ⊥
not_none e h = cc

-- ---- nodes

mutual
  unfolding node_says items_say pairs_say

  node_said : {w : Wants} (ds : List TagDirective) (n : tree.Node w) (rest : List Token)
      {es : List Event} {xs : List EventBody} → Says es xs
      → Says (events (placed_node ds n rest) es) (node_says (node_of ds n) xs)
  node_said ds (tree.alias s name) rest h = on _ _ _ _ refl h
  node_said ds (tree.only_properties d) rest h = empty_said _ _ _ _ h
  node_said ds (tree.with_properties d c) rest h = content_said ds (Some (properties_of d)) c rest h
  node_said ds (tree.bare c) rest h = content_said ds None c rest h

  content_said : {w : Wants} (ds : List TagDirective) (p : Option Properties) (c : tree.Content w)
      (rest : List Token) {es : List Event} {xs : List EventBody} → Says es xs
      → Says (events (placed_content ds p c rest) es) (node_says (with_content ds p c) xs)
  content_said ds p (tree.scalar s value style) rest h = scalar_said (anchor_of p) (tag_of ds p) value style (begins p s.from) s.to h
  content_said ds p (tree.flow brackets.Sequence s items) rest h = on _ _ _ _ refl (items_said ds items rest (on _ _ _ _ refl h))
  content_said ds p (tree.flow brackets.Mapping s items) rest h = on _ _ _ _ refl (parts_said ds items rest (on _ _ _ _ refl h))
  content_said ds p (tree.block_sequence s entries) rest h = on _ _ _ _ refl (entries_said ds entries rest (on _ _ _ _ refl h))
  content_said ds p (tree.block_mapping s pairs) rest h = on _ _ _ _ refl (pairs_said ds pairs rest (on _ _ _ _ refl h))
  content_said ds p (tree.indentless s n others) rest h = on _ _ _ _ refl (maybe_said ds n _ _ _ (others_said ds _ others rest (on _ _ _ _ refl h)))

  maybe_said : {w : Wants} (ds : List TagDirective) (m : tree.Maybe w) (place : Site)
      (before : yaml_mark_t) (rest : List Token) {es : List Event} {xs : List EventBody} → Says es xs
      → Says (events (placed_maybe ds m place before rest) es) (node_says (maybe_of ds m) xs)
  maybe_said ds tree.left_out place before rest h = empty_said None None _ _ h
  maybe_said ds (tree.there n) place before rest h = node_said ds n rest h

  colon_said : {w : Wants} (ds : List TagDirective) (c : tree.Colon w) (place : Site)
      (rest : List Token) {es : List Event} {xs : List EventBody} → Says es xs
      → Says (events (placed_colon ds c place rest) es) (node_says (colon_of ds c) xs)
  colon_said ds tree.no_colon place rest h = empty_said None None _ _ h
  colon_said ds (tree.colon s n) place rest h = maybe_said ds n place s.to rest h

  items_said : (ds : List TagDirective) (i : tree.Items) (rest : List Token) {es : List Event}
      {xs : List EventBody} → Says es xs
      → Says (item_events (placed_items ds i rest) es) (items_say (items_of ds i) xs)
  items_said ds (tree.end_items s) rest h = h
  items_said ds (tree.single n more) rest h = node_said ds n _ (more_items_said ds more rest h)
  items_said ds (tree.pair s key value more) rest h =
      on _ _ _ _ refl (maybe_said ds key _ _ _ (colon_said ds value _ _ (on _ _ _ _ refl (more_items_said ds more rest h))))

  more_items_said : (ds : List TagDirective) (m : tree.More) (rest : List Token) {es : List Event}
      {xs : List EventBody} → Says es xs
      → Says (item_events (placed_more_items ds m rest) es) (items_say (more_items_of ds m) xs)
  more_items_said ds (tree.end_more s) rest h = h
  more_items_said ds (tree.comma s items) rest h = items_said ds items rest h

  parts_said : (ds : List TagDirective) (i : tree.Items) (rest : List Token) {es : List Event}
      {xs : List EventBody} → Says es xs
      → Says (pair_events (placed_parts ds i rest) es) (pairs_say (parts_of ds i) xs)
  parts_said ds (tree.end_items s) rest h = h
  parts_said ds (tree.single n more) rest h = node_said ds n _ (empty_said None None _ _ (more_parts_said ds more rest h))
  parts_said ds (tree.pair s key value more) rest h = maybe_said ds key _ _ _ (colon_said ds value _ _ (more_parts_said ds more rest h))

  more_parts_said : (ds : List TagDirective) (m : tree.More) (rest : List Token) {es : List Event}
      {xs : List EventBody} → Says es xs
      → Says (pair_events (placed_more_parts ds m rest) es) (pairs_say (more_parts_of ds m) xs)
  more_parts_said ds (tree.end_more s) rest h = h
  more_parts_said ds (tree.comma s items) rest h = parts_said ds items rest h

  entries_said : (ds : List TagDirective) (e : tree.Entries) (rest : List Token) {es : List Event}
      {xs : List EventBody} → Says es xs
      → Says (item_events (placed_entries ds e rest) es) (items_say (entries_of ds e) xs)
  entries_said ds (tree.end_entries s) rest h = h
  entries_said ds (tree.entry s n entries) rest h = maybe_said ds n _ _ _ (entries_said ds entries rest h)

  others_said : (ds : List TagDirective) (side : Side) (o : tree.Others) (rest : List Token)
      {es : List Event} {xs : List EventBody} → Says es xs
      → Says (item_events (placed_others ds side o rest) es) (items_say (others_of ds o) xs)
  others_said ds side tree.no_others rest h = h
  others_said ds side (tree.other s n others) rest h = maybe_said ds n _ _ _ (others_said ds side others rest h)

  pairs_said : (ds : List TagDirective) (p : tree.Pairs) (rest : List Token) {es : List Event}
      {xs : List EventBody} → Says es xs
      → Says (pair_events (placed_pairs ds p rest) es) (pairs_say (pairs_of ds p) xs)
  pairs_said ds (tree.end_pairs s) rest h = h
  pairs_said ds (tree.block_pair s key value pairs) rest h = maybe_said ds key _ _ _ (colon_said ds value _ _ (pairs_said ds pairs rest h))

-- ---- documents

documents_said : (d : tree.Documents) (rest : List Token)
    → Says (placed_events (placed_documents d rest) (end_of d)) (documents_say (documents_of d))
unfolding documents_say
documents_said (tree.end_stream s) rest = record { same = refl }
documents_said (tree.document ds s root ends more) rest = on _ _ _ _ refl (maybe_said (tags_in ds) root _ _ _ (on _ _ _ _ refl (documents_said more rest)))

first_said : (x : tree.First) (d : tree.Documents) (rest : List Token)
    → Says (placed_events (placed_first x (spell_documents d rest) (placed_documents d rest))
    (end_of d)) (documents_say (behind_first x (documents_of d)))
unfolding documents_say
first_said tree.no_first d rest = documents_said d rest
first_said (tree.first n ends) d rest = on _ _ _ _ refl (node_said [] n _ (on _ _ _ _ refl (documents_said d rest)))

-- The events of a tree say its content.
pub tree_said : (t : tree.Stream) (rest : List Token)
    → Says (tree_events t rest) (stream_says (tree_content t))
tree_said t rest = on _ _ _ _ refl (first_said t.first t.documents rest)
