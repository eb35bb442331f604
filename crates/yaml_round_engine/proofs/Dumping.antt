-- Dumps beside each other: what each step says of what there was before it.
use Rattle.std.proofs.Common.{◌≡◌, ◌∙◌, ◌<◌, ℕ, suc, ◌+◌, List, [], ◌∷◌, ◌++◌, length, drop, map, append_assoc, append-nil, true, refl, sym, ap, subst, arith}
use Rattle.std.proofs.lemmas.List.{length-append}
use Rattle.yaml_scan_model.specs.declared.name.yaml_sequence_style_t.TheVariants.{YAML_ANY_SEQUENCE_STYLE}
use Rattle.yaml_scan_model.specs.declared.name.yaml_mapping_style_t.TheVariants.{YAML_ANY_MAPPING_STYLE}
use Rattle.yaml_parse.specs.Events.{EventBody}
use Rattle.yaml_parse.specs.Events as event
use Rattle.yaml_parse.specs.Documents.{Document}
use Rattle.yaml_emit_graph.specs.emit_layout.Content as emit
use Rattle.yaml_emit_graph.specs.Graph.{graph_content, dumped}
use Rattle.yaml_round_content.specs.Content.{content_of}
use Rattle.yaml_round_content.specs.Said as content
use Rattle.yaml_round_content.specs.Said.{Node, Nodes, Pairs, node_says, items_say, pairs_say, documents_say}
use Rattle.yaml_round_content.specs.Trees.{tree_of, trees_of, pair_trees_of, document_tree}
use Rattle.yaml_round_engine.specs.declared.front.Front.{Front}
use Rattle.yaml_round_engine.specs.declared.cause.yaml_cause_t.{yaml_cause_t}
use Rattle.yaml_round_engine.specs.declared.cause.yaml_cause_t.TheVariants.{OnlyFirst, OnlySecond}
use Rattle.yaml_round_engine.specs.Places.{Path, path_of}
use Rattle.yaml_round_engine.specs.Walking.{past, past_event}
use Rattle.yaml_round_engine.specs.Loaded.{next_of}
use Rattle.yaml_round_engine.specs.Dumps.{said, document_says, documents_left, DifferNextIn, PassesEvent, EndsFront, GoesPast, PartsBehind}
use Rattle.yaml_round_content.proofs.Trees.{scalar_core}

-- ---- what a dump says

core_said : (b : EventBody) → content_of b ≡ said (emit.emitter_event b)
core_said event.no = refl
core_said _ = refl

-- what a borrowed event says is what the emitter's event does
pub event_said : (b : EventBody) (e : emit.Event) → emit.emitter_event b ≡ e
    → content_of b ≡ said e
event_said b e h = core_said b ∙ ap said h

mutual
  unfolding emit.node_events emit.items_events emit.pairs_events node_says items_say pairs_say

  node_said : (n : emit.Node) (es : List emit.Event)
      → map said (emit.node_events n es) ≡ node_says (tree_of n) (map said es)
  node_said (emit.alias_node name) es = refl
  node_said (emit.scalar_node x) es = ap (λ (b : EventBody). b ∷ map said es) (scalar_core x.anchor x.tag x.value x.plain)
  node_said (emit.sequence_node q items) es = ap (λ (bs : List EventBody). said (emit.sequence_start q) ∷ bs) (items_said items (emit.sequence_end ∷ es))
  node_said (emit.mapping_node q pairs) es = ap (λ (bs : List EventBody). said (emit.mapping_start q) ∷ bs) (pairs_said pairs (emit.mapping_end ∷ es))

  items_said : (ns : emit.Nodes) (es : List emit.Event)
      → map said (emit.items_events ns es) ≡ items_say (trees_of ns) (map said es)
  items_said emit.no_nodes es = refl
  items_said (emit.node n ns) es = node_said n (emit.items_events ns es) ∙ ap (λ (bs : List EventBody). node_says (tree_of n) bs) (items_said ns es)

  pairs_said : (ps : emit.Pairs) (es : List emit.Event)
      → map said (emit.pairs_events ps es) ≡ pairs_say (pair_trees_of ps) (map said es)
  pairs_said emit.no_pairs es = refl
  pairs_said (emit.pair k v ps) es =
      node_said k (emit.node_events v (emit.pairs_events ps es)) ∙ ap (λ (bs : List EventBody). node_says (tree_of k) bs) (node_said v (emit.pairs_events ps es))
      ∙ ap (λ (bs : List EventBody). node_says (tree_of k) (node_says (tree_of v) bs)) (pairs_said ps es)

pub dumped_said : (d : Document) → map said (dumped d) ≡ document_says d
unfolding dumped
dumped_said d =
    ap (λ (bs : List EventBody). event.document_start d.version d.directives true ∷ bs) (node_said (graph_content d).root (emit.document_end d.end_implicit ∷ []))

-- ---- one document after another

mutual
  unfolding node_says items_say pairs_say

  node_more : (n : Node) (es fs : List EventBody) → node_says n (es ++ fs) ≡ node_says n es ++ fs
  node_more (content.alias name) es fs = refl
  node_more (content.scalar anchor mark text) es fs = refl
  node_more (content.sequence anchor tag items) es fs = ap (λ (bs : List EventBody). event.sequence_start anchor tag true YAML_ANY_SEQUENCE_STYLE ∷ bs) (items_more items (event.sequence_end ∷ es) fs)
  node_more (content.mapping anchor tag pairs) es fs = ap (λ (bs : List EventBody). event.mapping_start anchor tag true YAML_ANY_MAPPING_STYLE ∷ bs) (pairs_more pairs (event.mapping_end ∷ es) fs)

  items_more : (ns : Nodes) (es fs : List EventBody)
      → items_say ns (es ++ fs) ≡ items_say ns es ++ fs
  items_more content.no_nodes es fs = refl
  items_more (content.node n ns) es fs = ap (λ (bs : List EventBody). node_says n bs) (items_more ns es fs) ∙ node_more n (items_say ns es) fs

  pairs_more : (ps : Pairs) (es fs : List EventBody)
      → pairs_say ps (es ++ fs) ≡ pairs_say ps es ++ fs
  pairs_more content.no_pairs es fs = refl
  pairs_more (content.pair k v ps) es fs =
      ap (λ (bs : List EventBody). node_says k (node_says v bs)) (pairs_more ps es fs) ∙ ap (λ (bs : List EventBody). node_says k bs) (node_more v (pairs_say ps es) fs) ∙ node_more k (node_says v (pairs_say ps es)) fs

documents_more : (d : Document) (ds : List Document)
    → documents_left (d ∷ ds) ≡ document_says d ++ documents_left ds
unfolding documents_say
documents_more d ds =
    ap (λ (bs : List EventBody). event.document_start d.version d.directives true ∷ bs) (node_more (document_tree (graph_content d)).root (event.document_end true ∷ []) (documents_left ds))

-- ---- no document's events begin with all of another's: its end is after all else

-- how many ends of a document there are
abbrev ends : List EventBody → ℕ
ends [] = 0
ends (event.document_end implicit ∷ es) = suc (ends es)
ends (e ∷ es) = ends es

mutual
  unfolding node_says items_say pairs_say

  node_ends : (n : Node) (es : List EventBody) → ends (node_says n es) ≡ ends es
  node_ends (content.alias name) es = refl
  node_ends (content.scalar anchor (content.untagged plain) text) es = refl
  node_ends (content.scalar anchor (content.tagged t) text) es = refl
  node_ends (content.sequence anchor tag items) es = items_end items (event.sequence_end ∷ es)
  node_ends (content.mapping anchor tag pairs) es = pairs_end pairs (event.mapping_end ∷ es)

  items_end : (ns : Nodes) (es : List EventBody) → ends (items_say ns es) ≡ ends es
  items_end content.no_nodes es = refl
  items_end (content.node n ns) es = node_ends n (items_say ns es) ∙ items_end ns es

  pairs_end : (ps : Pairs) (es : List EventBody) → ends (pairs_say ps es) ≡ ends es
  pairs_end content.no_pairs es = refl
  pairs_end (content.pair k v ps) es = node_ends k (node_says v (pairs_say ps es)) ∙ node_ends v (pairs_say ps es) ∙ pairs_end ps es

one_end : (d : Document) → ends (document_says d) ≡ 1
one_end d = node_ends (document_tree (graph_content d)).root (event.document_end true ∷ [])

counts_none : (n : ℕ) → n ≡ 0 + n
counts_none n = omega arith

counts_one : (n : ℕ) → suc n ≡ 1 + n
counts_one n = omega arith

counts_first : (e : EventBody) (es : List EventBody) → ends (e ∷ es) ≡ ends (e ∷ []) + ends es
counts_first event.no es = counts_none (ends es)
counts_first (event.stream_start encoding) es = counts_none (ends es)
counts_first event.stream_end es = counts_none (ends es)
counts_first (event.document_start version directives implicit) es = counts_none (ends es)
counts_first (event.document_end implicit) es = counts_one (ends es)
counts_first (event.alias name) es = counts_none (ends es)
counts_first (event.scalar anchor tag value plain quoted style) es = counts_none (ends es)
counts_first (event.sequence_start anchor tag implicit style) es = counts_none (ends es)
counts_first event.sequence_end es = counts_none (ends es)
counts_first (event.mapping_start anchor tag implicit style) es = counts_none (ends es)
counts_first event.mapping_end es = counts_none (ends es)

counts_both : (xs ys : List EventBody) → ends (xs ++ ys) ≡ ends xs + ends ys
counts_both [] ys = counts_none (ends ys)
counts_both (x ∷ xs) ys =
    let a = counts_first x (xs ++ ys) in
    let b = counts_first x xs in
    let c = counts_both xs ys in
    omega (arith, a, b, c)

-- the last of a list is that of each part after
some_end : (xs : List EventBody) (y : EventBody) (ys pre : List EventBody)
    → xs ++ y ∷ ys ≡ pre ++ event.document_end true ∷ [] → 1 < suc (ends (y ∷ ys))
some_end [] y ys pre e =
    let a : ends (y ∷ ys) ≡ ends (pre ++ event.document_end true ∷ []) = ap (λ (es : List EventBody). ends es) e in
    let b = counts_both pre (event.document_end true ∷ []) in
    omega (arith, a, b)
some_end (x ∷ xs) y ys [] e = absurd (long xs y ys (rests x (event.document_end true) (xs ++ y ∷ ys) [] e))
  where
    long : (zs : List EventBody) (z : EventBody) (rest : List EventBody) → zs ++ z ∷ rest ≡ [] → ⊥
    long [] z rest h = absurd (cc)
    long (w ∷ ws) z rest h = absurd (cc)

    rests : (p q : EventBody) (ps qs : List EventBody) → p ∷ ps ≡ q ∷ qs → ps ≡ qs
    rests p q ps qs h = cc
some_end (x ∷ xs) y ys (p ∷ pre) e = some_end xs y ys pre (tails x p (xs ++ y ∷ ys) (pre ++ event.document_end true ∷ []) e)
  where
    tails : (p q : EventBody) (ps qs : List EventBody) → p ∷ ps ≡ q ∷ qs → ps ≡ qs
    tails p q ps qs h = cc

ends_last : (d : Document)
    → document_says d ≡ (event.document_start d.version d.directives true
    ∷ node_says (document_tree (graph_content d)).root []) ++ event.document_end true ∷ []
ends_last d = ap (λ (bs : List EventBody). event.document_start d.version d.directives true ∷ bs) (node_more (document_tree (graph_content d)).root [] (event.document_end true ∷ []))

no_front : (d e : Document) (x : EventBody) (xs : List EventBody)
    → document_says e ≡ document_says d ++ x ∷ xs → ⊥
no_front d e x xs h =
    let a = one_end d in
    let b = one_end e in
    let c : ends (document_says e) ≡ ends (document_says d ++ x ∷ xs) = ap (λ (es : List EventBody). ends es) h in
    let k = counts_both (document_says d) (x ∷ xs) in
    let s = some_end (document_says d) x xs (event.document_start e.version e.directives true ∷ node_says (document_tree (graph_content e)).root []) (sym h ∙ ends_last e) in
    absurd (omega (arith, a, b, c, k, s))

-- ---- what is before the place

past_on : (xs ys : List EventBody) (p : Path) → past (xs ++ ys) p ≡ past ys (past xs p)
past_on [] ys p = refl
past_on (x ∷ xs) ys p = past_on xs ys (past_event x p)

content_past : (b : EventBody) (p : Path) → past_event b p ≡ past_event (content_of b) p
content_past event.no p = refl
content_past _ p = refl

pub goes_on : (a b l r m s : List EventBody) (old mid new : Front) → GoesPast a b l r old mid
    → GoesPast l r m s mid new → GoesPast a b m s old new
goes_on a b l r m s old mid new g h = record {
  before = g.before ++ h.before;
  first_events = g.first_events ∙ ap (λ (es : List EventBody). g.before ++ es) h.first_events ∙ sym (append_assoc g.before h.before m);
  second_events = g.second_events ∙ ap (λ (es : List EventBody). g.before ++ es) h.second_events ∙ sym (append_assoc g.before h.before s);
  path = h.path ∙ ap (λ (p : Path). past h.before p) g.path ∙ sym (past_on g.before h.before (path_of old.trail.place));
  events = let x = g.events in let y = h.events in let z = length-append g.before h.before in omega (arith, x, y, z);
}

pub goes_one : (l r m s : List EventBody) (said : EventBody) (body : EventBody) (old new : Front)
    → content_of body ≡ said → l ≡ said ∷ m → r ≡ said ∷ s → PassesEvent body old new
    → GoesPast l r m s old new
goes_one l r m s said body old new g e f p = record {
  before = content_of body ∷ [];
  first_events = e ∙ ap (λ (b : EventBody). b ∷ m) (sym g);
  second_events = f ∙ ap (λ (b : EventBody). b ∷ s) (sym g);
  path = p.path ∙ content_past body (path_of old.trail.place);
  events = let x = p.events in omega (arith, x);
}

-- ---- documents

goes_wider : (a b l r m s : List EventBody) (old new : Front) → GoesPast a b l r old new
    → GoesPast (a ++ m) (b ++ s) (l ++ m) (r ++ s) old new
goes_wider a b l r m s old new g = record {
  before = g.before;
  first_events = ap (λ (es : List EventBody). es ++ m) g.first_events ∙ append_assoc g.before l m;
  second_events = ap (λ (es : List EventBody). es ++ s) g.second_events ∙ append_assoc g.before r s;
  path = g.path;
  events = g.events;
}

goes_as : (a b c d l r : List EventBody) (old new : Front) → c ≡ a → d ≡ b
    → GoesPast a b l r old new → GoesPast c d l r old new
goes_as a b c d l r old new e f g = record { before = g.before; first_events = e ∙ g.first_events; second_events = f ∙ g.second_events; path = g.path; events = g.events }

past_documents : (d e : Document) (ds es : List Document) (old new : Front)
    → GoesPast (document_says d) (document_says e) [] [] old new
    → GoesPast (documents_left (d ∷ ds)) (documents_left (e ∷ es)) (documents_left ds)
    (documents_left es) old new
past_documents d e ds es old new g =
    goes_as _ _ _ _ _ _ old new (documents_more d ds) (documents_more e es) (goes_wider (document_says d) (document_says e) [] [] (documents_left ds) (documents_left es) old new g)

-- the first documents of both were passed
pub next_documents : (a b : List EventBody) (xs ys : List Document) (d e : Document)
    (ds es : List Document) (old mid new : Front)
    → GoesPast a b (documents_left xs) (documents_left ys) old mid → xs ≡ d ∷ ds → ys ≡ e ∷ es
    → GoesPast (document_says d) (document_says e) [] [] mid new
    → GoesPast a b (documents_left ds) (documents_left es) old new
next_documents a b xs ys d e ds es old mid new g p q h =
    let there : GoesPast a b (documents_left (d ∷ ds)) (documents_left (e ∷ es)) old mid =
    subst (λ (z : List Document). GoesPast a b (documents_left (d ∷ ds)) (documents_left z) old mid) q (subst (λ (z : List Document). GoesPast a b (documents_left z) (documents_left ys) old mid) p g) in
    goes_on a b _ _ _ _ old mid new there (past_documents d e ds es mid new h)

still_differ : (d e : Document) (before left other_left l r : List EventBody) (c : yaml_cause_t)
    → document_says d ≡ before ++ left → document_says e ≡ before ++ other_left
    → DifferNextIn c (next_of left) (next_of other_left)
    → DifferNextIn c (next_of (left ++ l)) (next_of (other_left ++ r))
still_differ d e before [] [] l r c p q n = absurd (n.differ refl)
still_differ d e before [] (x ∷ xs) l r c p q n = absurd (no_front d e x xs (q ∙ ap (λ (es : List EventBody). es ++ x ∷ xs) (sym (append-nil before) ∙ sym p)))
still_differ d e before (x ∷ xs) [] l r c p q n = absurd (no_front e d x xs (p ∙ ap (λ (es : List EventBody). es ++ x ∷ xs) (sym (append-nil before) ∙ sym q)))
still_differ d e before (x ∷ xs) (y ∷ ys) l r c p q n = n

parts_behind : (a b l r : List EventBody) (old mid new : Front) → GoesPast a b l r old mid
    → PartsBehind l r mid new → PartsBehind a b old new
parts_behind a b l r old mid new g h = record { left = h.left; other_left = h.other_left; past = goes_on a b l r h.left h.other_left old mid new g h.past; next = h.next }

-- ---- the first events that differ

-- the next events differ, in that
parts_next : (l r : List EventBody) (c : yaml_cause_t) (old new : Front)
    → DifferNextIn c (next_of l) (next_of r) → EndsFront c old new → PartsBehind l r old new
parts_next l r c old new n p = record {
  left = l;
  other_left = r;
  past = record { before = []; first_events = refl; second_events = refl; path = p.path; events = let e = p.events in omega (arith, e) };
  next = subst (λ (k : yaml_cause_t). DifferNextIn k (next_of l) (next_of r)) (sym p.cause) n;
}

pub parts_here : (a b l r : List EventBody) (c : yaml_cause_t) (old mid new : Front)
    → GoesPast a b l r old mid → DifferNextIn c (next_of l) (next_of r) → EndsFront c mid new
    → PartsBehind a b old new
parts_here a b l r c old mid new g n p = parts_behind a b l r old mid new g (parts_next l r c mid new n p)

part_documents : (d e : Document) (ds es : List Document) (old new : Front)
    → PartsBehind (document_says d) (document_says e) old new
    → PartsBehind (documents_left (d ∷ ds)) (documents_left (e ∷ es)) old new
part_documents d e ds es old new h = record {
  left = h.left ++ documents_left ds;
  other_left = h.other_left ++ documents_left es;
  past = goes_as _ _ _ _ _ _ old new (documents_more d ds) (documents_more e es) (goes_wider (document_says d) (document_says e) h.left h.other_left (documents_left ds) (documents_left es) old new h.past);
  next = still_differ d e h.past.before h.left h.other_left (documents_left ds) (documents_left es) new.trail.place.cause h.past.first_events h.past.second_events h.next;
}

-- what was passed, and then what is left
parts_on : (a b : List EventBody) (xs ys us vs : List Document) (old mid new : Front)
    → GoesPast a b (documents_left xs) (documents_left ys) old mid → xs ≡ us → ys ≡ vs
    → PartsBehind (documents_left us) (documents_left vs) mid new
    → PartsBehind a b old new
parts_on a b xs ys us vs old mid new g p q h =
    parts_behind a b (documents_left xs) (documents_left ys) old mid new g
    (subst (λ (z : List Document). PartsBehind (documents_left xs) (documents_left z) mid new) (sym q) (subst (λ (z : List Document). PartsBehind (documents_left z) (documents_left vs) mid new) (sym p) h))

pub documents_part : (a b : List EventBody) (xs ys : List Document) (d e : Document)
    (ds es : List Document) (old mid new : Front)
    → GoesPast a b (documents_left xs) (documents_left ys) old mid → xs ≡ d ∷ ds → ys ≡ e ∷ es
    → PartsBehind (document_says d) (document_says e) mid new → PartsBehind a b old new
documents_part a b xs ys d e ds es old mid new g p q h = parts_on a b xs ys (d ∷ ds) (e ∷ es) old mid new g p q (part_documents d e ds es mid new h)

-- the end of the stream beside a document
document_more : (ds : List Document) (d : Document)
    → DifferNextIn OnlySecond (next_of (documents_left [])) (next_of (documents_left (d ∷ ds)))
unfolding documents_say
document_more ds d = record { differ = λ h. absurd (cc); cause = refl }

document_less : (ds : List Document) (d : Document)
    → DifferNextIn OnlyFirst (next_of (documents_left (d ∷ ds))) (next_of (documents_left []))
unfolding documents_say
document_less ds d = record { differ = λ h. absurd (cc); cause = refl }

none_left : (left rest : List Document) → left ≡ rest → rest ≡ drop 1 left → left ≡ []
none_left [] rest e h = refl
none_left (d ∷ ds) rest e h = absurd (let k = ap length (e ∙ h) in omega (arith, k))

pub first_ends : (a b : List EventBody) (xs ys more : List Document) (e : Document)
    (es : List Document) (old mid new : Front)
    → GoesPast a b (documents_left xs) (documents_left ys) old mid → xs ≡ more → more ≡ drop 1 xs
    → ys ≡ e ∷ es → EndsFront OnlySecond mid new → PartsBehind a b old new
first_ends a b xs ys more e es old mid new g p n q h =
    parts_on a b xs ys [] (e ∷ es) old mid new g (none_left xs more p n) q (parts_next (documents_left []) (documents_left (e ∷ es)) OnlySecond mid new (document_more es e) h)

pub second_ends : (a b : List EventBody) (xs ys more : List Document) (d : Document)
    (ds : List Document) (old mid new : Front)
    → GoesPast a b (documents_left xs) (documents_left ys) old mid → xs ≡ d ∷ ds → ys ≡ more
    → more ≡ drop 1 ys → EndsFront OnlyFirst mid new → PartsBehind a b old new
second_ends a b xs ys more d ds old mid new g p q n h =
    parts_on a b xs ys (d ∷ ds) [] old mid new g p (none_left ys more q n) (parts_next (documents_left (d ∷ ds)) (documents_left []) OnlyFirst mid new (document_less ds d) h)
