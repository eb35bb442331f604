-- What is loaded doesn't depend on the names of anchors.
use Rattle.std.proofs.Common.{◌≡◌, ℕ, suc, ℤ, pos, Bool, true, cond, List, [], ◌∷◌, ◌++◌, length, Option, Some, None, refl, sym, ap, subst, ◌∙◌, inl, inr, arith}
use Rattle.yaml_round_content.proofs.Words.{nat_tests, bytes_eq-Decides, bytes_eq, nat_cmp, eq_by_cmp, slice_cmp, nat_list_cmp_total, YAML_ANY_SEQUENCE_STYLE, YAML_ANY_MAPPING_STYLE, EventBody, Open, open_sequence, open_mapping, attach, named, nothing_loaded, contents, load_all, ScalarMark, untagged, tagged, Node, alias, scalar, sequence, mapping, Nodes, no_nodes, node, Pairs, no_pairs, pair, Document, scalar_says, node_says, items_say, pairs_say, documents_say, Core, CoreNode, LoadsOfRenamed}
use Rattle.std.proofs.lemmas.Map.Text.{is_eq-slice_cmp}
use Rattle.std.specs.FinMap as map
use Rattle.yaml_parse_model.specs.Events as event
use Rattle.yaml_round_content.specs.Renamed.{Renaming, renamed_anchor, renamed_node, renamed_items, renamed_pairs, renamed, IsAnchorName, HasName, ItemsHaveName, PairsHaveName, AreOneToOne}
use Rattle.yaml_round_content.proofs.Core.{Anchors, CoreLoading, core_leaf, core_open, core_closed, core_aliased, core_nothing, core_on, core_loads, is_fault}
use Rattle.yaml_round_content.proofs.DumpsContents.{loads_said, faults_alike, alike}

-- ---- names

alike_tests : (x y : Bool) → (x ≡ true → y ≡ true) → (y ≡ true → x ≡ true) → x ≡ y
alike_tests x y f g = grind (arith, nat_tests)

-- whether names are one is not changed by a renaming that keeps them apart
same_renamed : (r : Renaming) (a b : List ℕ) → (r a ≡ r b → a ≡ b)
    → eq_by_cmp (slice_cmp nat_cmp) a b ≡ eq_by_cmp (slice_cmp nat_cmp) (r a) (r b)
same_renamed r a b one =
    is_eq-slice_cmp a b
    ∙ alike_tests (bytes_eq a b) (bytes_eq (r a) (r b))
    (λ e. (bytes_eq-Decides (r a) (r b)).1 (ap r ((bytes_eq-Decides a b).0 e)))
    (λ e. (bytes_eq-Decides a b).1 (one ((bytes_eq-Decides (r a) (r b)).0 e)))
    ∙ sym (is_eq-slice_cmp (r a) (r b))

-- ---- beside each other

module _ (IsIn : List ℕ → Type 0) (r : Renaming) (one : (a b : List ℕ) → IsIn a → IsIn b → r a ≡ r b → a ≡ b) (f : Bool) where
  -- the same was loaded, and a name means what its new name means
  record Beside (l m : CoreLoading) : Type 0 where
    document : l.document ≡ m.document
    levels : l.levels ≡ m.levels
    known : (a : List ℕ) → IsIn a → map.get l.anchors a ≡ map.get m.anchors (r a)

  -- what is loaded of these events and of those is the same
  record Goes (bs cs : List EventBody) : Type 0 where
    same : (l m : CoreLoading) → Beside l m → core_loads bs f l ≡ core_loads cs f m

  named_same : (anchor : Option (List ℕ)) (n : ℤ) (known knowns : Anchors)
      → ((a : List ℕ) → IsAnchorName anchor a → IsIn a)
      → ((a : List ℕ) → IsIn a → map.get known a ≡ map.get knowns (r a))
      → (a : List ℕ) → IsIn a
      → map.get (named anchor n known) a ≡ map.get (named (renamed_anchor r anchor) n knowns) (r a)
  named_same None n known knowns h k a i = k a i
  named_same (Some name) n known knowns h k a i =
      map.get-insert nat_list_cmp_total known name n a
      ∙ ap (λ (b : Bool). cond b (Some n) (map.get known a)) (same_renamed r a name (one a name i (h name refl)))
      ∙ ap (λ (o : Option ℤ). cond (eq_by_cmp (slice_cmp nat_cmp) (r a) (r name)) (Some n) o) (k a i)
      ∙ sym (map.get-insert nat_list_cmp_total knowns (r name) n (r a))

  named_beside : (anchor : Option (List ℕ)) (x y : Core) (known knowns : Anchors) → x ≡ y
      → ((a : List ℕ) → IsAnchorName anchor a → IsIn a)
      → ((a : List ℕ) → IsIn a → map.get known a ≡ map.get knowns (r a))
      → (a : List ℕ) → IsIn a
      → map.get (named anchor (pos (suc (length x.nodes))) known) a
      ≡ map.get (named (renamed_anchor r anchor) (pos (suc (length y.nodes))) knowns) (r a)
  named_beside anchor x y known knowns e h k a i =
      named_same anchor (pos (suc (length x.nodes))) known knowns h k a i
      ∙ ap (λ (c : Core). map.get (named (renamed_anchor r anchor) (pos (suc (length c.nodes))) knowns) (r a)) e

  attached_same : (x y : Core) (os ps : List Open) → x ≡ y → os ≡ ps
      → attach (pos (suc (length x.nodes))) os ≡ attach (pos (suc (length y.nodes))) ps
  attached_same x y os ps e g = ap (λ (c : Core). attach (pos (suc (length c.nodes))) os) e ∙ ap (λ (qs : List Open). attach (pos (suc (length y.nodes))) qs) g

  leaf_beside : (anchor : Option (List ℕ)) (n : CoreNode) (l m : CoreLoading)
      → ((a : List ℕ) → IsAnchorName anchor a → IsIn a) → Beside l m
      → Beside (core_leaf (length l.document.nodes) anchor n l)
      (core_leaf (length m.document.nodes) (renamed_anchor r anchor) n m)
  leaf_beside anchor n l m h b = record {
    document = ap (λ (c : Core). let d : Core = record { version = c.version; directives = c.directives; nodes = c.nodes ++ n ∷ [] } in d) b.document;
    levels = attached_same l.document m.document l.levels m.levels b.document b.levels;
    known = named_beside anchor l.document m.document l.anchors m.anchors b.document h b.known;
  }

  open_beside : (anchor : Option (List ℕ)) (n : CoreNode) (o : ℕ → Open) (l m : CoreLoading)
      → ((a : List ℕ) → IsAnchorName anchor a → IsIn a) → Beside l m
      → Beside (core_open (length l.document.nodes) anchor n (o (length l.document.nodes)) l)
      (core_open (length m.document.nodes) (renamed_anchor r anchor) n (o (length m.document.nodes))
      m)
  open_beside anchor n o l m h b = record {
    document = ap (λ (c : Core). let d : Core = record { version = c.version; directives = c.directives; nodes = c.nodes ++ n ∷ [] } in d) b.document;
    levels = ap (λ (c : Core). o (length c.nodes) ∷ attach (pos (suc (length l.document.nodes))) l.levels) b.document
        ∙ ap (λ (os : List Open). o (length m.document.nodes) ∷ os) (attached_same l.document m.document l.levels m.levels b.document b.levels);
    known = named_beside anchor l.document m.document l.anchors m.anchors b.document h b.known;
  }

  closed_over : (os : List Open) (l m : CoreLoading) → Beside l m
      → Beside (core_closed l os) (core_closed m os)
  closed_over [] l m b = b
  closed_over (o ∷ os) l m b = record {
    document = ap (λ (c : Core). (core_closed (record { document = c; levels = os; anchors = l.anchors }) (o ∷ os)).document) b.document;
    levels = refl;
    known = b.known;
  }

  closed_beside : (l m : CoreLoading) → Beside l m
      → Beside (core_closed l l.levels) (core_closed m m.levels)
  closed_beside l m b = subst (λ (os : List Open). Beside (core_closed l l.levels) (core_closed m os)) b.levels (closed_over l.levels l m b)

  -- ---- events

  alias_on : (o : Option ℤ) (bs cs : List EventBody) (l m : CoreLoading) → Goes bs cs → Beside l m
      → core_on (core_aliased o l) (core_loads bs f) ≡ core_on (core_aliased o m) (core_loads cs f)
  alias_on None bs cs l m g b = refl
  alias_on (Some n) bs cs l m g b = g.same _ _ record { document = b.document; levels = ap (λ (os : List Open). attach n os) b.levels; known = b.known }

  alias_goes : (name : List ℕ) (bs cs : List EventBody) → IsIn name → Goes bs cs
      → Goes (event.alias name ∷ bs) (event.alias (r name) ∷ cs)
  unfolding core_loads
  alias_goes name bs cs i g = record {
    same = λ l m b. ap (λ (o : Option ℤ). core_on (core_aliased o l) (core_loads bs f)) (b.known name i) ∙ alias_on (map.get m.anchors (r name)) bs cs l m g b;
  }

  scalar_goes : (anchor : Option (List ℕ)) (mark : ScalarMark) (value : List ℕ) (bs cs : List EventBody)
      → ((a : List ℕ) → IsAnchorName anchor a → IsIn a) → Goes bs cs
      → Goes (scalar_says anchor mark value ∷ bs)
      (scalar_says (renamed_anchor r anchor) mark value ∷ cs)
  unfolding core_loads
  scalar_goes anchor (untagged plain) value bs cs h g = record { same = λ l m b. g.same _ _ (leaf_beside anchor _ l m h b) }
  scalar_goes anchor (tagged t) value bs cs h g = record { same = λ l m b. g.same _ _ (leaf_beside anchor _ l m h b) }

  sequence_goes : (anchor tag : Option (List ℕ)) (bs cs : List EventBody)
      → ((a : List ℕ) → IsAnchorName anchor a → IsIn a) → Goes bs cs
      → Goes (event.sequence_start anchor tag true YAML_ANY_SEQUENCE_STYLE ∷ bs)
      (event.sequence_start (renamed_anchor r anchor) tag true YAML_ANY_SEQUENCE_STYLE ∷ cs)
  unfolding core_loads
  sequence_goes anchor tag bs cs h g = record { same = λ l m b. g.same _ _ (open_beside anchor _ (λ k. open_sequence k []) l m h b) }

  mapping_goes : (anchor tag : Option (List ℕ)) (bs cs : List EventBody)
      → ((a : List ℕ) → IsAnchorName anchor a → IsIn a) → Goes bs cs
      → Goes (event.mapping_start anchor tag true YAML_ANY_MAPPING_STYLE ∷ bs)
      (event.mapping_start (renamed_anchor r anchor) tag true YAML_ANY_MAPPING_STYLE ∷ cs)
  unfolding core_loads
  mapping_goes anchor tag bs cs h g = record { same = λ l m b. g.same _ _ (open_beside anchor _ (λ k. open_mapping k [] None) l m h b) }

  sequence_ends : (bs cs : List EventBody) → Goes bs cs
      → Goes (event.sequence_end ∷ bs) (event.sequence_end ∷ cs)
  unfolding core_loads
  sequence_ends bs cs g = record { same = λ l m b. g.same _ _ (closed_beside l m b) }

  mapping_ends : (bs cs : List EventBody) → Goes bs cs
      → Goes (event.mapping_end ∷ bs) (event.mapping_end ∷ cs)
  unfolding core_loads
  mapping_ends bs cs g = record { same = λ l m b. g.same _ _ (closed_beside l m b) }

  -- ---- nodes

  mutual
    unfolding node_says items_say pairs_say

    node_goes : (n : Node) (bs cs : List EventBody) → ((a : List ℕ) → HasName n a → IsIn a)
        → Goes bs cs → Goes (node_says n bs) (node_says (renamed_node r n) cs)
    node_goes (alias name) bs cs h g = alias_goes name bs cs (h name refl) g
    node_goes (scalar anchor mark value) bs cs h g = scalar_goes anchor mark value bs cs h g
    node_goes (sequence anchor tag items) bs cs h g =
        sequence_goes anchor tag _ _ (λ a i. h a (inl i)) (items_go items _ _ (λ a i. h a (inr i)) (sequence_ends bs cs g))
    node_goes (mapping anchor tag pairs) bs cs h g =
        mapping_goes anchor tag _ _ (λ a i. h a (inl i)) (pairs_go pairs _ _ (λ a i. h a (inr i)) (mapping_ends bs cs g))

    items_go : (ns : Nodes) (bs cs : List EventBody) → ((a : List ℕ) → ItemsHaveName ns a → IsIn a)
        → Goes bs cs → Goes (items_say ns bs) (items_say (renamed_items r ns) cs)
    items_go no_nodes bs cs h g = g
    items_go (node n ns) bs cs h g = node_goes n _ _ (λ a i. h a (inl i)) (items_go ns bs cs (λ a i. h a (inr i)) g)

    pairs_go : (ps : Pairs) (bs cs : List EventBody) → ((a : List ℕ) → PairsHaveName ps a → IsIn a)
        → Goes bs cs → Goes (pairs_say ps bs) (pairs_say (renamed_pairs r ps) cs)
    pairs_go no_pairs bs cs h g = g
    pairs_go (pair k v ps) bs cs h g =
        node_goes k _ _ (λ a i. h a (inl i)) (node_goes v _ _ (λ a i. h a (inr (inl i))) (pairs_go ps bs cs (λ a i. h a (inr (inr i))) g))

-- ---- documents

-- the end of a document, whatever is before it
document_ends : (IsIn : List ℕ → Type 0) (r : Renaming)
    (one : (a b : List ℕ) → IsIn a → IsIn b → r a ≡ r b → a ≡ b) (f : Bool) (bs cs : List EventBody)
    → ((l m : CoreLoading) → core_loads bs f l ≡ core_loads cs f m)
    → Goes IsIn r one f (event.document_end true ∷ bs) (event.document_end true ∷ cs)
unfolding core_loads
document_ends IsIn r one f bs cs g = grind (arith, nat_tests)

documents_same : (f : Bool) (r : ℕ → Renaming) (c : List Document) → AreOneToOne r c
    → (l m : CoreLoading)
    → core_loads (documents_say c) f l ≡ core_loads (documents_say (renamed r c)) f m
unfolding core_loads documents_say
documents_same f r [] h l m = refl
documents_same f r (d ∷ ds) h l m =
    let more = document_ends (HasName d.root) (r 0) h.0 f (documents_say ds) (documents_say (renamed (λ k. r (suc k)) ds)) (documents_same f (λ k. r (suc k)) ds h.1) in
    (node_goes (HasName d.root) (r 0) h.0 f d.root _ _ (λ a i. i) more).same _ _ record {
      document = refl;
      levels = refl;
      known = λ a i. map.get-empty (slice_cmp nat_cmp) a ∙ sym (map.get-empty (slice_cmp nat_cmp) (r 0 a));
    }

pub loads_of_renamings : LoadsOfRenamed
unfolding core_loads
loads_of_renamings r c one es fs f g h e k =
    alike (load_all es f nothing_loaded) (load_all fs g nothing_loaded)
    (loads_said es f ∙ ap (λ (b : Bool). core_loads (contents es) b core_nothing) (faults_alike f g h)
    ∙ ap (λ (bs : List EventBody). core_loads bs (is_fault g) core_nothing) e
    ∙ documents_same (is_fault g) r c one core_nothing core_nothing
    ∙ ap (λ (bs : List EventBody). core_loads bs (is_fault g) core_nothing) (sym k)
    ∙ sym (loads_said fs g))
