-- Visits, written and numbered again.
use Rattle.std.proofs.Common.{◌≡◌, ◌<◌, ◌≤◌, ◌+◌, ℕ, zero, suc, ℤ, pos, Bool, true, false, List, [], ◌∷◌, ◌++◌, length, map, take, Option, Some, Ok, refl, sym, ap, subst, ◌∙◌, arith, append_assoc, append-nil, length-append, slice_get}
use Rattle.yaml_emit_laws.proofs.DumpsWords.{slice_get_within, map-append, yaml_sequence_style_t, yaml_mapping_style_t, yaml_node_pair_t, Node, NodeBody, map_tag, seq_tag, str_tag, Head, Content, Contents, Numbered, Anchored, and_node, alias_number, number, number_items, number_pairs, is_bang, loaded_tag, VisitsInPreorder, done, again, first, children, pair_numbers, is_flow_sequence, is_flow_mapping, Met, is_met, number_at, name_of, anchor_of, graph_scalar, graph_start, node_by, items_by, content_by, core_body, core_node, nowhere, head_of, as_content, as_contents, as_pairs, met_so, before_at, AgainsAre, IsNumbered, HasKind, AreLoadedNodes, NumbersBack, NamesAreFound, VisitsNumberBack}
use Rattle.yaml_emit_graph.specs.emit_layout.parse_model.declared.yaml_scalar_style_t.{yaml_scalar_style_t}
use Rattle.yaml_emit_graph.specs.emit_layout.parse_model.declared.yaml_scalar_style_t.TheVariants.{YAML_ANY_SCALAR_STYLE}
use Rattle.yaml_emit_graph.specs.emit_layout.parse_model.declared.yaml_sequence_style_t.TheVariants.{YAML_ANY_SEQUENCE_STYLE}
use Rattle.yaml_emit_graph.specs.emit_layout.parse_model.declared.yaml_mapping_style_t.TheVariants.{YAML_ANY_MAPPING_STYLE}
use Rattle.yaml_emit_graph.specs.scan_types.Tokens.{zero_mark}
use Rattle.yaml_emit_graph.specs.emit_layout.parse_model.Nodes as model
use Rattle.yaml_parse_loader.specs.Numbering as numbering
use Rattle.yaml_emit_graph.specs.emit_layout.Content as emit
use Rattle.yaml_emit_laws.proofs.Marks.{met_old, met_new, meets}
use Rattle.yaml_emit_laws.proofs.Pairing.{paired, pairs_written, paired_numbers}

-- ---- one node

content_again : (f : ℕ) (table : List ℕ) (nodes : List Node) (id : ℤ)
    (rest : emit.Node → Met → emit.Node) (met : Met) → is_met met id ≡ true
    → content_by f table nodes id rest met
    ≡ rest (emit.alias_node (name_of (number_at table id))) met
unfolding content_by
content_again zero table nodes id rest met h = refl
content_again (suc f) table nodes id rest met h = rw h refl

content_first : (f : ℕ) (table : List ℕ) (nodes : List Node) (seen : ℕ) (n : Node)
    (rest : emit.Node → Met → emit.Node) → slice_get nodes seen ≡ Some n → seen < length nodes
    → content_by (suc f) table nodes (pos (suc seen)) rest (met_so nodes seen)
    ≡ node_by (content_by f table nodes) (anchor_of (number_at table (pos (suc seen)))) n.tag n.body
    rest (met_so nodes (suc seen))
unfolding content_by
content_first f table nodes seen n rest at h = grind (arith, slice_get, met_new, meets)

-- a node that is visited first, as it is written and numbered
record One (nodes : List Node) (table : List ℕ) (f seen between : ℕ) (n : Node) : Type 0 where
  written : emit.Node
  same : (rest : emit.Node → Met → emit.Node)
      → content_by (suc f) table nodes (pos (suc seen)) rest (met_so nodes seen)
      ≡ rest written (met_so nodes between)
  inner : List Node
  gives : number (as_content written) seen (before_at table seen)
      ≡ Ok (record {
        number = pos (suc seen);
        nodes = core_node n
            ∷ inner;
        before = before_at table between;
      })
  fronts : map core_node (take (suc seen) nodes) ++ inner ≡ map core_node (take between nodes)
  count : suc seen + length inner ≡ between
  within : between ≤ length nodes

none_visited : (nodes : List Node) (a b : ℕ) (ids : List ℤ) → ids ≡ []
    → VisitsInPreorder nodes a ids b → a ≡ b
none_visited nodes a b ids e (done seen) = refl
none_visited nodes a b ids e _ = absurd (cc)

tag_kept : (tag default : List ℕ) → is_bang tag ≡ false → loaded_tag (Some tag) default ≡ tag
tag_kept tag default h = rw h refl

sequence_gives : (h : Head) (implicit : Bool) (style : yaml_sequence_style_t) (items : Contents)
    (at : numbering.Span) (count : ℕ) (before : Anchored) (r : Numbered (List ℤ))
    → number_items items (suc count) (and_node h.anchor (pos (suc count)) before) ≡ Ok r
    → number (numbering.sequence h implicit style items at) count before
    ≡ Ok (record {
      number = pos (suc count);
      nodes = numbering.sequence_node h r.number style
          at.end_mark ∷ r.nodes;
      before = r.before;
    })
unfolding number
sequence_gives h implicit style items at count before r g = rw g refl

mapping_gives : (h : Head) (implicit : Bool) (style : yaml_mapping_style_t)
    (pairs : numbering.Pairs) (at : numbering.Span) (count : ℕ) (before : Anchored)
    (r : Numbered (List yaml_node_pair_t))
    → number_pairs pairs (suc count) (and_node h.anchor (pos (suc count)) before) ≡ Ok r
    → number (numbering.mapping h implicit style pairs at) count before
    ≡ Ok (record {
      number = pos (suc count);
      nodes = numbering.mapping_node h r.number style
          at.end_mark ∷ r.nodes;
      before = r.before;
    })
unfolding number
mapping_gives h implicit style pairs at count before r g = rw g refl

items_give : (c : Content) (more : Contents) (count : ℕ) (before : Anchored) (x : Numbered ℤ)
    (y : Numbered (List ℤ)) → number c count before ≡ Ok x
    → number_items more (count + length x.nodes) x.before ≡ Ok y
    → number_items (numbering.item c more) count before
    ≡ Ok (record { number = x.number ∷ y.number; nodes = x.nodes ++ y.nodes; before = y.before })
unfolding number
items_give c more count before x y e g = rw (e, g) refl

-- the node that is visited first has its anchor from then on
anchored : (table : List ℕ) (seen : ℕ)
    → and_node (anchor_of (number_at table (pos (suc seen)))) (pos (suc seen))
    (before_at table seen) ≡ before_at table (suc seen)
unfolding before_at
anchored table seen = refl

core_scalar : (n : Node) (value : List ℕ) (style : yaml_scalar_style_t) (anchor : Option (List ℕ))
    → n.body ≡ model.scalar value style → is_bang n.tag ≡ false
    → numbering.scalar_node (head_of anchor (Some n.tag)) value YAML_ANY_SCALAR_STYLE ≡ core_node n
core_scalar n value style anchor e b =
    ap (λ (t : List ℕ). let m : Node = record { body = model.scalar value YAML_ANY_SCALAR_STYLE; tag = t; start_mark = zero_mark; end_mark = zero_mark } in m) (tag_kept n.tag str_tag b)
    ∙ ap (λ (x : NodeBody). let m : Node = record { body = core_body x; tag = n.tag; start_mark = zero_mark; end_mark = zero_mark } in m) (sym e)

core_sequence : (n : Node) (items : List ℤ) (style : yaml_sequence_style_t)
    (anchor : Option (List ℕ)) → n.body ≡ model.sequence items style → is_bang n.tag ≡ false
    → numbering.sequence_node (head_of anchor (Some n.tag)) items YAML_ANY_SEQUENCE_STYLE zero_mark
    ≡ core_node n
core_sequence n items style anchor e b =
    ap (λ (t : List ℕ). let m : Node = record { body = model.sequence items YAML_ANY_SEQUENCE_STYLE; tag = t; start_mark = zero_mark; end_mark = zero_mark } in m) (tag_kept n.tag seq_tag b)
    ∙ ap (λ (x : NodeBody). let m : Node = record { body = core_body x; tag = n.tag; start_mark = zero_mark; end_mark = zero_mark } in m) (sym e)

core_mapping : (n : Node) (pairs : List yaml_node_pair_t) (style : yaml_mapping_style_t)
    (anchor : Option (List ℕ)) → n.body ≡ model.mapping pairs style → is_bang n.tag ≡ false
    → numbering.mapping_node (head_of anchor (Some n.tag)) pairs YAML_ANY_MAPPING_STYLE zero_mark
    ≡ core_node n
core_mapping n pairs style anchor e b =
    ap (λ (t : List ℕ). let m : Node = record { body = model.mapping pairs YAML_ANY_MAPPING_STYLE; tag = t; start_mark = zero_mark; end_mark = zero_mark } in m) (tag_kept n.tag map_tag b)
    ∙ ap (λ (x : NodeBody). let m : Node = record { body = core_body x; tag = n.tag; start_mark = zero_mark; end_mark = zero_mark } in m) (sym e)

one_scalar : (nodes : List Node) (table : List ℕ) (f seen between : ℕ) (n : Node) (value : List ℕ)
    (style : yaml_scalar_style_t) → n.body ≡ model.scalar value style → is_bang n.tag ≡ false
    → slice_get nodes seen ≡ Some n → seen < length nodes
    → VisitsInPreorder nodes (suc seen) (children n.body) between → One nodes table f seen between n
unfolding number
one_scalar nodes table f seen between n value style is plain at h inner =
    let anchor = anchor_of (number_at table (pos (suc seen))) in
    let x : emit.Node = emit.scalar_node (graph_scalar anchor n.tag value style) in
    let end : suc seen ≡ between = none_visited nodes (suc seen) between (children n.body) (ap (λ (b : NodeBody). children b) is) inner in
    record {
      written = x;
      same = λ rest.
          content_first f table nodes seen n rest at h
          ∙ ap (λ (b : NodeBody). node_by (content_by f table nodes) anchor n.tag b rest (met_so nodes (suc seen))) is
          ∙ ap (λ (k : ℕ). rest x (met_so nodes k)) end;
      inner = [];
      gives = refl
          ∙ ap (λ (known : Anchored). Ok (record { number = pos (suc seen); nodes = numbering.scalar_node (head_of anchor (Some n.tag)) value YAML_ANY_SCALAR_STYLE ∷ []; before = known })) (anchored table seen)
          ∙ ap (λ (m : Node). Ok (record { number = pos (suc seen); nodes = m ∷ []; before = before_at table (suc seen) })) (core_scalar n value style anchor is plain)
          ∙ ap (λ (k : ℕ). Ok (record { number = pos (suc seen); nodes = core_node n ∷ []; before = before_at table k })) end;
      fronts = append-nil (map core_node (take (suc seen) nodes)) ∙ ap (λ (k : ℕ). map core_node (take k nodes)) end;
      count = omega (arith, end);
      within = omega (arith, end, h);
    }

one_sequence : (nodes : List Node) (table : List ℕ) (f seen between : ℕ) (n : Node) (ids : List ℤ)
    (style : yaml_sequence_style_t) → n.body ≡ model.sequence ids style → is_bang n.tag ≡ false
    → slice_get nodes seen ≡ Some n → seen < length nodes
    → NumbersBack nodes table f (suc seen) ids between → One nodes table f seen between n
one_sequence nodes table f seen between n ids style is plain at h a =
    let anchor = anchor_of (number_at table (pos (suc seen))) in
    let start = graph_start anchor n.tag seq_tag (is_flow_sequence style) in
    record {
      written = emit.sequence_node start a.items;
      same = λ rest.
          content_first f table nodes seen n rest at h
          ∙ ap (λ (b : NodeBody). node_by (content_by f table nodes) anchor n.tag b rest (met_so nodes (suc seen))) is
          ∙ a.same (λ vs. rest (emit.sequence_node start vs));
      inner = a.new;
      gives = sequence_gives (head_of anchor (Some n.tag)) start.implicit YAML_ANY_SEQUENCE_STYLE (as_contents a.items) nowhere seen (before_at table seen) (record { number = ids; nodes = a.new; before = before_at table between })
          (ap (λ (known : Anchored). number_items (as_contents a.items) (suc seen) known) (anchored table seen) ∙ a.gives)
          ∙ ap (λ (m : Node). Ok (record { number = pos (suc seen); nodes = m ∷ a.new; before = before_at table between })) (core_sequence n ids style anchor is plain);
      fronts = a.fronts;
      count = a.count;
      within = a.within;
    }

one_mapping : (nodes : List Node) (table : List ℕ) (f seen between : ℕ) (n : Node)
    (ps : List yaml_node_pair_t) (style : yaml_mapping_style_t) → n.body ≡ model.mapping ps style
    → is_bang n.tag ≡ false → slice_get nodes seen ≡ Some n → seen < length nodes
    → NumbersBack nodes table f (suc seen) (pair_numbers ps) between
    → One nodes table f seen between n
one_mapping nodes table f seen between n ps style is plain at h a =
    let anchor = anchor_of (number_at table (pos (suc seen))) in
    let start = graph_start anchor n.tag map_tag (is_flow_mapping style) in
    record {
      written = emit.mapping_node start (paired a.items);
      same = λ rest.
          content_first f table nodes seen n rest at h
          ∙ ap (λ (b : NodeBody). node_by (content_by f table nodes) anchor n.tag b rest (met_so nodes (suc seen))) is
          ∙ pairs_written (content_by f table nodes) ps (λ vs. rest (emit.mapping_node start vs)) (met_so nodes (suc seen))
          ∙ a.same (λ vs. rest (emit.mapping_node start (paired vs)));
      inner = a.new;
      gives = mapping_gives (head_of anchor (Some n.tag)) start.implicit YAML_ANY_MAPPING_STYLE (as_pairs (paired a.items)) nowhere seen (before_at table seen) (record { number = ps; nodes = a.new; before = before_at table between })
          (ap (λ (known : Anchored). number_pairs (as_pairs (paired a.items)) (suc seen) known) (anchored table seen)
          ∙ paired_numbers ps a.items (suc seen) (before_at table (suc seen)) a.new (before_at table between) a.many a.gives)
          ∙ ap (λ (m : Node). Ok (record { number = pos (suc seen); nodes = m ∷ a.new; before = before_at table between })) (core_mapping n ps style anchor is plain);
      fronts = a.fronts;
      count = a.count;
      within = a.within;
    }

take_next : (nodes : List Node) (k : ℕ) (n : Node) → slice_get nodes k ≡ Some n
    → take (suc k) nodes ≡ take k nodes ++ n ∷ []
take_next [] k n e = absurd (cc)
take_next (x ∷ xs) zero n e = let s : x ≡ n = cc in ap (λ (y : Node). y ∷ []) s
take_next (x ∷ xs) (suc k) n e = ap (λ (ys : List Node). x ∷ ys) (take_next xs k n e)

-- ---- one after another

then_back : (nodes : List Node) (table : List ℕ) (f seen between after : ℕ) (n : Node)
    (ids : List ℤ) → slice_get nodes seen ≡ Some n → One nodes table f seen between n
    → NumbersBack nodes table (suc f) between ids after
    → NumbersBack nodes table (suc f) seen (pos (suc seen) ∷ ids) after
unfolding items_by
then_back nodes table f seen between after n ids at a b =
    let step : seen + length (core_node n ∷ a.inner) ≡ between = let c = a.count in omega arith in
    record {
      items = emit.node a.written b.items;
      many = b.many;
      same = λ rest. a.same (λ v m. items_by (content_by (suc f) table nodes) ids (λ vs k. rest (emit.node v vs) k) m) ∙ b.same (λ vs k. rest (emit.node a.written vs) k);
      new = (core_node n ∷ a.inner) ++ b.new;
      gives = items_give (as_content a.written) (as_contents b.items) seen (before_at table seen) _ (record { number = ids; nodes = b.new; before = before_at table after }) a.gives
          (ap (λ (k : ℕ). number_items (as_contents b.items) k (before_at table between)) step ∙ b.gives);
      fronts =
          sym (append_assoc (map core_node (take seen nodes)) (core_node n ∷ a.inner) b.new)
          ∙ ap (λ (xs : List Node). xs ++ b.new) (sym (append_assoc (map core_node (take seen nodes)) (core_node n ∷ []) a.inner) ∙ ap (λ (xs : List Node). xs ++ a.inner) (sym (map-append core_node (take seen nodes) (n ∷ [])) ∙ ap (λ (xs : List Node). map core_node xs) (sym (take_next nodes seen n at))) ∙ a.fronts)
          ∙ b.fronts;
      count = let c = b.count in let l = length-append (core_node n ∷ a.inner) b.new in omega (arith, step, c, l);
      within = b.within;
    }

again_back : (nodes : List Node) (table : List ℕ) (f seen k after : ℕ) (ids : List ℤ)
    → NamesAreFound table (length nodes) → IsNumbered table k → k < seen → seen ≤ length nodes
    → NumbersBack nodes table f seen ids after
    → NumbersBack nodes table f seen (pos (suc k) ∷ ids) after
unfolding items_by number
again_back nodes table f seen k after ids fi met h le b =
    let z : seen + 0 ≡ seen = omega arith in
    let name = name_of (number_at table (pos (suc k))) in
    let v : emit.Node = emit.alias_node name in
    record {
      items = emit.node v b.items;
      many = b.many;
      same = λ rest.
          content_again f table nodes (pos (suc k)) (λ x m. items_by (content_by f table nodes) ids (λ vs j. rest (emit.node x vs) j) m) (met_so nodes seen) (met_old nodes seen k h) ∙ b.same (λ vs j. rest (emit.node v vs) j);
      new = b.new;
      gives = items_give (as_content v) (as_contents b.items) seen (before_at table seen) (record { number = pos (suc k); nodes = []; before = before_at table seen }) (record { number = ids; nodes = b.new; before = before_at table after })
          (ap (λ (o : Option ℤ). alias_number o nowhere.start_mark (before_at table seen)) (fi seen k h le met)) (ap (λ (j : ℕ). number_items (as_contents b.items) j (before_at table seen)) z ∙ b.gives);
      fronts = b.fronts;
      count = b.count;
      within = b.within;
    }

none_back : (nodes : List Node) (table : List ℕ) (f seen : ℕ) → seen ≤ length nodes
    → NumbersBack nodes table f seen [] seen
unfolding items_by number_items
none_back nodes table f seen le = record { items = emit.no_nodes; many = tt; same = λ rest. refl; new = []; gives = refl; fronts = append-nil (map core_node (take seen nodes)); count = omega arith; within = le }

abbrev Backs : List Node → List ℕ → ℕ → List ℤ → ℕ → Type 0
Backs nodes table seen ids after = (f : ℕ) → length nodes < f + seen → seen ≤ length nodes → NumbersBack nodes table f seen ids after

one_body : (nodes : List Node) (table : List ℕ) (f seen between : ℕ) (n : Node) (body : NodeBody)
    → n.body ≡ body → HasKind body → is_bang n.tag ≡ false → slice_get nodes seen ≡ Some n
    → seen < length nodes
    → length nodes < f + suc seen → VisitsInPreorder nodes (suc seen) (children n.body) between
    → Backs nodes table (suc seen) (children n.body) between → One nodes table f seen between n
one_body nodes table f seen between n model.no is p plain at h fuel v back = absurd p
one_body nodes table f seen between n (model.scalar value style) is p plain at h fuel v back = one_scalar nodes table f seen between n value style is plain at h v
one_body nodes table f seen between n (model.sequence items style) is p plain at h fuel v back =
    one_sequence nodes table f seen between n items style is plain at h (subst (λ (b : NodeBody). NumbersBack nodes table f (suc seen) (children b) between) is (back f fuel (omega (arith, h))))
one_body nodes table f seen between n (model.mapping ps style) is p plain at h fuel v back =
    one_mapping nodes table f seen between n ps style is plain at h (subst (λ (b : NodeBody). NumbersBack nodes table f (suc seen) (children b) between) is (back f fuel (omega (arith, h))))

first_back : (nodes : List Node) (table : List ℕ) → AreLoadedNodes nodes
    → (seen between after : ℕ) (ids : List ℤ) (n : Node) → slice_get nodes seen ≡ Some n
    → VisitsInPreorder nodes (suc seen) (children n.body) between
    → Backs nodes table (suc seen) (children n.body) between → Backs nodes table between ids after
    → Backs nodes table seen (pos (suc seen) ∷ ids) after
first_back nodes table ld seen between after ids n at v inner outer zero fuel le = absurd (omega (arith, fuel, le))
first_back nodes table ld seen between after ids n at v inner outer (suc f) fuel le =
    let h = slice_get_within nodes seen n at in
    let a = one_body nodes table f seen between n n.body refl (ld seen n at).0 (ld seen n at).1 at h (omega (arith, fuel)) v inner in
    let c = a.count in
    then_back nodes table f seen between after n ids at a (outer (suc f) (omega (arith, fuel, c)) a.within)

backs : (nodes : List Node) (table : List ℕ) → AreLoadedNodes nodes
    → NamesAreFound table (length nodes)
    → (seen : ℕ) (ids : List ℤ) (after : ℕ) (v : VisitsInPreorder nodes seen ids after)
    → AgainsAre (IsNumbered table) v → Backs nodes table seen ids after
backs nodes table ld fi seen ids after (done s) m f fuel le = none_back nodes table f s le
backs nodes table ld fi seen ids after (again s k e more h v) (met, m) f fuel le = again_back nodes table f s k e more fi met h le (backs nodes table ld fi s more e v m f fuel le)
backs nodes table ld fi seen ids after (first s b e more n at v w) (m, o) f fuel le =
    first_back nodes table ld s b e more n at v (backs nodes table ld fi (suc s) (children n.body) b v m) (backs nodes table ld fi b more e w o) f fuel le

pub numbered_back : VisitsNumberBack
numbered_back nodes table ld fi f seen ids after v m fuel le = backs nodes table ld fi seen ids after v m f fuel le
