-- Documents that are loaded one after another, and given to an emitter.
use Rattle.std.proofs.Common.{◌≡◌, ◌^◌, ◌⊎◌, ◌∙◌, ◌<◌, ◌+◌, ◌++◌, inl, inr, refl, ◌≢◌, ap, sym, subst, arith, ℕ, List, [], ◌∷◌, length, drop, append_assoc, append-nil, map, Bool, true, false, Option, None, Some, Result, Ok, Err, Vec, All}
use Rattle.std.specs.Global.{Global}
use Rattle.std.proofs.lemmas.List.Elements.{All-nil, All-cons, All-head, All-tail}
use Rattle.yaml_parse.specs.declared.yaml_encoding_t.{yaml_encoding_t}
use Rattle.yaml_parse.specs.declared.yaml_encoding_t.TheVariants.{YAML_ANY_ENCODING}
use Rattle.yaml_parse.specs.declared.yaml_fault_t.{yaml_fault_t}
use Rattle.yaml_scan_types.specs.Faults.{Fault, fault_of, IsMemoryFault, load_layers, emit_layers, Answers}
use Rattle.yaml_parse.specs.Nodes.{Node}
use Rattle.yaml_parse.specs.Documents.{Document}
use Rattle.yaml_parse.specs.Resolve.{Told}
use Rattle.yaml_parse.specs.Remaining.{ParserRemaining}
use Rattle.yaml_parse.specs.Loading.{Loading, LoadStep, goes_on, loaded, refused, nothing_loaded, step}
use Rattle.yaml_parse.specs.NextLoad.{AreLoadsByContent, LoadIsNext, RefusalIsNext}
use Rattle.yaml_parse.proofs.ByStep as parse
use Rattle.yaml_parse.proofs.NextLoads.{load_gives, load_refuses}
use Rattle.yaml_emit.specs.Content.{Event, alias_node, scalar_node, sequence_node, mapping_node, Nodes, no_nodes, node, Pairs, no_pairs, pair, document_start, document_end, sequence_end, mapping_end, stream_start, stream_end, node_events, items_events, pairs_events, documents_events}
use Rattle.yaml_emit.specs.Content as content
use Rattle.yaml_emit.specs.emit_graph.Graph.{graph_content, dumped}
use Rattle.yaml_emit.specs.Emitter.{Emitter, dump_events, document_events_by, opening_events}
use Rattle.yaml_emit.specs.Taking.{TakesEvents}
use Rattle.yaml_emit.specs.emit_layout.declared.RequestedSettings.{RequestedSettings}
use Rattle.yaml_round_device.specs.declared.yaml_settings_t.{yaml_settings_t}
use Rattle.yaml_round_content.specs.Input.{ReadsInput}
use Rattle.yaml_round_engine.specs.Writing.{IsUnder, FinishesText, requested_under}
use Rattle.yaml_round_engine.specs.Layers.{reload_layers}
use Rattle.yaml_round_engine.specs.Answers.{bytes_of}
use Rattle.yaml_round_content.specs.Loads.{Loads, no_more, with_implicit_end, in_front, load_on, load_all, loads_of}
use Rattle.yaml_round_content.specs.Normal.{ended}
use Rattle.yaml_round_engine.specs.Reload.{to_write, to_load, HasRoot, LoadsDocument, IsLoaded, AreLoaded, stream_of, written_events, FeedsEmitter, IsWithinStream, DumpsAll, DumpsStream, IsEachDump, IsDumped, LaysOutLoading, IsReloaded}
use Rattle.yaml_round_content.proofs.Loaded.{faultless_load, faulty_load}
use Rattle.yaml_round_engine.proofs.Laying.{Led, starts, layout, past, one_layout, one_past}
use Rattle.yaml_round_engine.proofs.Streams.{loaded_text}
use Rattle.yaml_round_engine.proofs.NormalDocuments.{in_normal_documents}
use Rattle.yaml_round_content.specs.DumpsEvents.{AreNumerable}

-- ---- the next document

abbrev Next : List Told → Option Fault → Loading → Document → List Told → Type 0
Next gs f l d left = (load_all gs f l ≡ in_front d.nodes d (load_all left f nothing_loaded)) × (length left < length gs)

behind_document : (f : Option Fault) (d : Document) (left : List Told) (n : ℕ)
    → parse.behind_all f ≡ parse.document d left n → ⊥
behind_document None d left n e = cc
behind_document (Some g) d left n e = cc

fed_document : (c : LoadStep) (gs : List Told) (f : Option Fault) (k : ℕ) (d : Document)
    (left : List Told) (n : ℕ)
    → ((m : Loading) → parse.loads gs f m ≡ parse.document d left n → Next gs f m d left)
    → parse.load_on c (parse.loads gs f) gs k ≡ parse.document d left n
    → (load_on c (load_all gs f) ≡ in_front d.nodes d (load_all left f nothing_loaded))
    × (length left < length gs + 1)
fed_document (goes_on m) gs f k d left n h e = let r = h m e in (r.0, omega (arith, r.1))
fed_document (loaded b) gs f k d left n h e =
    let x : b ≡ d = cc in
    let y : gs ≡ left = cc in
    (rw (x, y) refl, rw y (omega arith))
fed_document (refused g) gs f k d left n h e = absurd (cc)

document_next : (gs : List Told) (f : Option Fault) (l : Loading) (d : Document) (left : List Told)
    (n : ℕ) → parse.loads gs f l ≡ parse.document d left n → Next gs f l d left
unfolding parse.loads load_all
document_next [] f l d left n e = absurd (behind_document f d left n e)
document_next (g ∷ gs) f l d left n e =
    let r = fed_document (step g.0 l) gs f g.1 d left n (λ m. document_next gs f m d left n) e in (r.0, omega (arith, r.1))

behind_nothing : (f : Option Fault) → parse.behind_all f ≡ parse.nothing → f ≡ None
behind_nothing None e = refl
behind_nothing (Some g) e = absurd (cc)

fed_nothing : (c : LoadStep) (gs : List Told) (f : Option Fault) (k : ℕ)
    → ((m : Loading) → parse.loads gs f m ≡ parse.nothing → load_all gs f m ≡ no_more None)
    → parse.load_on c (parse.loads gs f) gs k ≡ parse.nothing
    → load_on c (load_all gs f) ≡ no_more None
fed_nothing (goes_on m) gs f k h e = h m e
fed_nothing (loaded b) gs f k h e = absurd (cc)
fed_nothing (refused g) gs f k h e = absurd (cc)

nothing_next : (gs : List Told) (f : Option Fault) (l : Loading)
    → parse.loads gs f l ≡ parse.nothing → load_all gs f l ≡ no_more None
unfolding parse.loads load_all
nothing_next [] f l e = ap no_more (behind_nothing f e)
nothing_next (g ∷ gs) f l e = fed_nothing (step g.0 l) gs f g.1 (λ m. nothing_next gs f m) e

behind_faulty : (f : Option Fault) (x : Fault) → parse.behind_all f ≡ parse.faulty x → f ≡ Some x
behind_faulty None x e = absurd (cc)
behind_faulty (Some g) x e = cc

fed_faulty : (c : LoadStep) (gs : List Told) (f : Option Fault) (k : ℕ) (x : Fault)
    → ((m : Loading) → parse.loads gs f m ≡ parse.faulty x → load_all gs f m ≡ no_more (Some x))
    → parse.load_on c (parse.loads gs f) gs k ≡ parse.faulty x
    → load_on c (load_all gs f) ≡ no_more (Some x)
fed_faulty (goes_on m) gs f k x h e = h m e
fed_faulty (loaded b) gs f k x h e = absurd (cc)
fed_faulty (refused g) gs f k x h e = let y : g ≡ x = cc in rw y refl

faulty_next : (gs : List Told) (f : Option Fault) (l : Loading) (x : Fault)
    → parse.loads gs f l ≡ parse.faulty x → load_all gs f l ≡ no_more (Some x)
unfolding parse.loads load_all
faulty_next [] f l x e = ap no_more (behind_faulty f x e)
faulty_next (g ∷ gs) f l x e = fed_faulty (step g.0 l) gs f g.1 x (λ m. faulty_next gs f m x) e

in_front_some : (ns : List Node) (d : Document) (rest : Loads) → 0 < length ns
    → in_front ns d rest ≡ record { documents = d ∷ rest.documents; fault = rest.fault }
in_front_some [] d rest h = absurd (omega (arith, h))
in_front_some (n ∷ ns) d rest h = refl

in_front_none : (ns : List Node) (d : Document) (rest : Loads) → length ns ≡ 0
    → in_front ns d rest ≡ no_more None
in_front_none [] d rest h = refl
in_front_none (n ∷ ns) d rest h = absurd (omega (arith, h))

to_load_left : (old new : ParserRemaining) (left : List Told) → new.events ≡ left
    → new.ending ≡ old.ending → to_write (load_all left old.ending nothing_loaded) ≡ to_load new
to_load_left old new left e f = rw (e, f) refl

loaded_some : (r : parse.Loads) (old new : ParserRemaining) (d : Document) → parse.loads_of old ≡ r
    → parse.LoadGives r d old new → 0 < length d.nodes → length d.nodes < 2 ^ 64
    → LoadsDocument (with_implicit_end d) old new
loaded_some (parse.document e left n) old new d is g h small =
    let k : parse.loads_of old ≡ parse.document d left n = is ∙ ap (λ (z : Document). parse.document z left n) (sym g.0) in
    let t = document_next old.events old.ending nothing_loaded d left n k in
    record {
      same = ap to_write (t.0 ∙ in_front_some d.nodes d _ h) ∙ ap (λ (z : Loads). record { documents = with_implicit_end d ∷ z.documents; fault = z.fault }) (to_load_left old new left g.1.events g.1.ending);
      less = rw g.1.events t.1;
      rooted = h;
      small = small;
    }
loaded_some parse.nothing old new d is g h small = absurd (let k = ap (λ (z : Document). length z.nodes) g.0 in omega (arith, h, k))
loaded_some (parse.faulty f) old new d is g h small = absurd g

pub loaded_document : (old new : ParserRemaining) (d e : Document) (count : ℕ)
    → AreLoadsByContent old → LoadIsNext old d new → count ≡ length d.nodes → count < 2 ^ 64
    → count ≢ 0 → e ≡ with_implicit_end d → LoadsDocument e old new
loaded_document old new d e count k g c small h w = rw w (loaded_some (parse.loads_of old) old new d refl (load_gives old new d k g) (omega (arith, c, h)) (subst (λ (n : ℕ). n < 2 ^ 64) c small))

loaded_none : (r : parse.Loads) (old new : ParserRemaining) (d : Document) → parse.loads_of old ≡ r
    → parse.LoadGives r d old new → length d.nodes ≡ 0 → to_load old ≡ no_more None
loaded_none (parse.document e left n) old new d is g h =
    let k : parse.loads_of old ≡ parse.document d left n = is ∙ ap (λ (z : Document). parse.document z left n) (sym g.0) in
    let t = document_next old.events old.ending nothing_loaded d left n k in
    ap to_write (t.0 ∙ in_front_none d.nodes d _ h)
loaded_none parse.nothing old new d is g h = ap to_write (nothing_next old.events old.ending nothing_loaded is)
loaded_none (parse.faulty f) old new d is g h = absurd g

pub loaded_last : (old new : ParserRemaining) (d : Document) (count : ℕ) → AreLoadsByContent old
    → LoadIsNext old d new → count ≡ length d.nodes → count ≡ 0 → to_load old ≡ no_more None
loaded_last old new d count k g c h = loaded_none (parse.loads_of old) old new d refl (load_gives old new d k g) (sym c ∙ h)

pub load_refused : (old new : ParserRemaining) (f : yaml_fault_t) → AreLoadsByContent old
    → RefusalIsNext old (fault_of f) new
    → IsMemoryFault load_layers (fault_of f) ⊎ (to_load old ≡ no_more (Some (fault_of f)))
load_refused old new f h k = elim (load_refuses old new (fault_of f) h k).reason [ inl m ↦ inl m | inr k ↦ inr (ap to_write (faulty_next old.events old.ending nothing_loaded (fault_of f) k)) ]

-- ---- all documents

rooted_front : (ns : List Node) (d : Document) (rest : Loads) → d.nodes ≡ ns
    → All HasRoot rest.documents → All HasRoot (in_front ns d rest).documents
rooted_front [] d rest e h = All-nil HasRoot
rooted_front (n ∷ ns) d rest e h = All-cons HasRoot d rest.documents (rw e (omega arith)) h

rooted_on : (c : LoadStep) (go : Loading → Loads) → ((m : Loading) → All HasRoot (go m).documents)
    → All HasRoot (load_on c go).documents
rooted_on (goes_on m) go h = h m
rooted_on (loaded d) go h = rooted_front d.nodes d (go nothing_loaded) refl (h nothing_loaded)
rooted_on (refused f) go h = All-nil HasRoot

rooted : (gs : List Told) (f : Option Fault) (l : Loading) → All HasRoot (load_all gs f l).documents
unfolding load_all
rooted [] f l = All-nil HasRoot
rooted (g ∷ gs) f l = rooted_on (step g.0 l) (load_all gs f) (λ m. rooted gs f m)

ended_rooted : (ds : List Document) → All HasRoot ds → All HasRoot (ended ds)
ended_rooted [] h = All-nil HasRoot
ended_rooted (d ∷ ds) h = All-cons HasRoot (with_implicit_end d) (ended ds) (All-head HasRoot d ds h) (ended_rooted ds (All-tail HasRoot d ds h))

-- Documents that were loaded have roots.
pub all_rooted : (from : yaml_encoding_t) (input : List ℕ) (ds : List Document)
    → AreLoaded from input ds → All HasRoot ds
all_rooted from input ds a = subst (All HasRoot) (sym a.same) (ended_rooted (loads_of from input).documents (rooted _ _ nothing_loaded))

pub reads_to_load : (from : yaml_encoding_t) (input : List ℕ) (r : ParserRemaining)
    → ReadsInput from input r → to_load r ≡ to_write (loads_of from input)
reads_to_load from input r h = rw (h.events, h.ending) refl

-- a document more
pub documents_on : (all items new : List Document) (d : Document) (r r' : ParserRemaining)
    → items ++ (to_load r).documents ≡ all → LoadsDocument d r r' → new ≡ items ++ d ∷ []
    → new ++ (to_load r').documents ≡ all
documents_on all items new d r r' h l n =
    ap (λ (z : List Document). z ++ (to_load r').documents) n
    ∙ append_assoc items (d ∷ []) (to_load r').documents
    ∙ ap (λ (z : Loads). items ++ z.documents) (sym l.same)
    ∙ h

pub fault_on : (fault : Option Fault) (d : Document) (r r' : ParserRemaining)
    → (to_load r).fault ≡ fault → LoadsDocument d r r' → (to_load r').fault ≡ fault
fault_on fault d r r' h l = ap (λ (z : Loads). z.fault) (sym l.same) ∙ h

pub documents_read : (from : yaml_encoding_t) (input : List ℕ) (items : List Document)
    (r : ParserRemaining) → items ++ (to_load r).documents ≡ ended (loads_of from input).documents
    → (to_load r).fault ≡ (loads_of from input).fault
    → AreNumerable items → to_load r ≡ no_more None → AreLoaded from input items
documents_read from input items r h f small e = record {
  same = sym (append-nil items) ∙ ap (λ (z : Loads). items ++ z.documents) (sym e) ∙ h;
  right = sym f ∙ ap (λ (z : Loads). z.fault) e;
  small = small;
}

one_numerable : (items : List Document) (d : Document) → AreNumerable items
    → length d.nodes < 2 ^ 64 → AreNumerable (items ++ d ∷ [])
one_numerable [] d k h = (h, tt)
one_numerable (e ∷ items) d k h = (k.0, one_numerable items d k.1 h)

-- one more has no more nodes than can be numbered
pub small_on : (items new : List Document) (d : Document) (r s : ParserRemaining)
    → AreNumerable items → LoadsDocument d r s → new ≡ items ++ d ∷ [] → AreNumerable new
small_on items new d r s k l n = subst AreNumerable (sym n) (one_numerable items d k l.small)

pub none_small : (items : List Document) → items ≡ [] → AreNumerable items
none_small items e = subst AreNumerable (sym e) tt

pub documents_refused : (from : yaml_encoding_t) (input : List ℕ) (r : ParserRemaining)
    (f : yaml_fault_t) → (to_load r).fault ≡ (loads_of from input).fault
    → IsMemoryFault load_layers (fault_of f) ⊎ (to_load r ≡ no_more (Some (fault_of f)))
    → IsMemoryFault load_layers (fault_of f) ⊎ IsLoaded from input (Err (fault_of f))
documents_refused from input r f h e = elim e [ inl m ↦ inl m | inr k ↦ inr (sym h ∙ ap (λ (z : Loads). z.fault) k) ]

-- ---- the events of documents

mutual
  unfolding node_events items_events pairs_events

  node_more : (v : content.Node) (es fs : List Event)
      → node_events v (es ++ fs) ≡ node_events v es ++ fs
  node_more (alias_node name) es fs = refl
  node_more (scalar_node x) es fs = refl
  node_more (sequence_node q ns) es fs = ap (λ (z : List Event). content.sequence_start q ∷ z) (items_more ns (sequence_end ∷ es) fs)
  node_more (mapping_node q ps) es fs = ap (λ (z : List Event). content.mapping_start q ∷ z) (pairs_more ps (mapping_end ∷ es) fs)

  items_more : (ns : Nodes) (es fs : List Event)
      → items_events ns (es ++ fs) ≡ items_events ns es ++ fs
  items_more no_nodes es fs = refl
  items_more (node v ns) es fs = ap (node_events v) (items_more ns es fs) ∙ node_more v (items_events ns es) fs

  pairs_more : (ps : Pairs) (es fs : List Event)
      → pairs_events ps (es ++ fs) ≡ pairs_events ps es ++ fs
  pairs_more no_pairs es fs = refl
  pairs_more (pair k v ps) es fs =
      ap (λ (z : List Event). node_events k (node_events v z)) (pairs_more ps es fs)
      ∙ ap (node_events k) (node_more v (pairs_events ps es) fs)
      ∙ node_more k (node_events v (pairs_events ps es)) fs

-- a dump, and the other documents after it
dumped_more : (d : Document) (ds : List Document)
    → documents_events (map graph_content (d ∷ ds)) ≡ dumped d
    ++ documents_events (map graph_content ds)
unfolding documents_events dumped
dumped_more d ds = ap (λ (z : List Event). document_start (graph_content d).opening ∷ z) (node_more (graph_content d).root (document_end d.end_implicit ∷ []) (documents_events (map graph_content ds)))

document_events_root : (ns : List Node) (closed : Bool) (d : Document) → 0 < length ns
    → document_events_by closed ns d ≡ dumped d
document_events_root [] closed d h = absurd (omega (arith, h))
document_events_root (n ∷ ns) closed d h = refl

opened_already : (b : Bool) → b ≡ true → opening_events b ≡ []
opened_already true e = refl
opened_already false e = absurd (cc)

dump_is : (e : Emitter) (d : Document) → e.opened ≡ true → HasRoot d → dump_events e d ≡ dumped d
dump_is e d o h = ap (λ (z : List Event). z ++ document_events_by e.closed d.nodes d) (opened_already e.opened o) ∙ document_events_root d.nodes e.closed d h

pub feeds_on : (a b c : Emitter) (es fs gs : List Event) → FeedsEmitter a es b fs
    → FeedsEmitter b fs c gs → FeedsEmitter a es c gs
feeds_on a b c es fs gs p q = record { completes = λ x whole h. q.completes x whole (p.completes x whole h); limit = q.limit ∙ p.limit }

pub feeds_given : (old new : Emitter) (e : Event) (es : List Event)
    → TakesEvents old (e ∷ []) new [] → FeedsEmitter old (e ∷ es) new es
feeds_given old new e es g = record { completes = λ x whole h. g.completes x es whole h; limit = g.limit }

feeds_gives : (old new : Emitter) (es more : List Event) → TakesEvents old es new []
    → FeedsEmitter old (es ++ more) new more
feeds_gives old new es more g = record { completes = λ x whole h. g.completes x more whole h; limit = g.limit }

pub feeds_document : (old new : Emitter) (d : Document) (ds : List Document) → old.opened ≡ true
    → HasRoot d → TakesEvents old (dump_events old d) new []
    → FeedsEmitter old (documents_events (map graph_content (d ∷ ds))) new
    (documents_events (map graph_content ds))
feeds_document old new d ds o h g =
    let k : TakesEvents old (dumped d) new [] = subst (λ (es : List Event). TakesEvents old es new []) (dump_is old d o h) g in
    subst (λ (es : List Event). FeedsEmitter old es new (documents_events (map graph_content ds))) (sym (dumped_more d ds)) (feeds_gives old new (dumped d) (documents_events (map graph_content ds)) k)

-- the first of the documents was given
pub first_rooted : (left rest : List Document) (d : Document) → left ≡ d ∷ rest → All HasRoot left
    → HasRoot d
first_rooted left rest d e h = let k : All HasRoot (d ∷ rest) = subst (All HasRoot) e h in All-head HasRoot d rest k

pub others_rooted : (left rest : List Document) (d : Document) → left ≡ d ∷ rest → All HasRoot left
    → All HasRoot rest
others_rooted left rest d e h = let k : All HasRoot (d ∷ rest) = subst (All HasRoot) e h in All-tail HasRoot d rest k

pub feeds_next : (old mid new : Emitter) (all left rest : List Document) (d : Document)
    → left ≡ d ∷ rest → mid.opened ≡ true → All HasRoot left
    → TakesEvents mid (dump_events mid d) new []
    → FeedsEmitter old (documents_events (map graph_content all)) mid
    (documents_events (map graph_content left))
    → FeedsEmitter old (documents_events (map graph_content all)) new
    (documents_events (map graph_content rest))
feeds_next old mid new all left rest d e o h g f =
    let P : List Document → Type 0 = λ z. FeedsEmitter old (documents_events (map graph_content all)) mid (documents_events (map graph_content z)) in
    feeds_on old mid new _ _ _ (subst P e f) (feeds_document mid new d rest o (first_rooted left rest d e h) g)

pub not_none : (o : Option Fault) (f : Fault) → o ≡ Some f → o ≡ None → ⊥
not_none o f e h = cc

pub none_left : (left rest : List Document) → left ≡ rest → rest ≡ drop 1 left → left ≡ []
none_left [] rest e h = refl
none_left (d ∷ ds) rest e h = absurd (let k = ap length (e ∙ h) in omega (arith, k))

pub feeds_all : (old new : Emitter) (all left : List Document) → left ≡ []
    → FeedsEmitter old (documents_events (map graph_content all)) new
    (documents_events (map graph_content left))
    → FeedsEmitter old (documents_events (map graph_content all)) new (stream_end ∷ [])
unfolding documents_events
feeds_all old new all left e f =
    let P : List Document → Type 0 = λ z. FeedsEmitter old (documents_events (map graph_content all)) new (documents_events (map graph_content z)) in
    subst P e f

-- ---- a stream

pub stream_opened : (old new : Emitter) (ds : List Document)
    → TakesEvents old (stream_start YAML_ANY_ENCODING ∷ []) new []
    → FeedsEmitter old (stream_of ds) new (documents_events (map graph_content ds))
stream_opened old new ds g = feeds_given old new (stream_start YAML_ANY_ENCODING) (documents_events (map graph_content ds)) g

-- a fault has come
pub stream_refused : (old new : Emitter) (ds : List Document) (f : Fault)
    → TakesEvents old (stream_start YAML_ANY_ENCODING ∷ []) new [] → new.fault ≡ Some f
    → DumpsStream old ds new
stream_refused old new ds f g e = record { left = documents_events (map graph_content ds); feeds = stream_opened old new ds g; all = λ n. absurd (cc) }

stream_left : (old mid new : Emitter) (ds : List Document) (taken : Bool) → taken ≡ false
    → FeedsEmitter old (stream_of ds) mid (documents_events (map graph_content ds))
    → DumpsAll mid ds taken new → DumpsStream old ds new
stream_left old mid new ds true e f d = absurd (cc)
stream_left old mid new ds false e f d = record { left = d.0; feeds = feeds_on old mid new _ _ _ f d.1.0; all = λ n. absurd (d.1.1 n) }

pub stream_stopped : (old mid new : Emitter) (ds : List Document) (taken : Bool) → taken ≡ false
    → TakesEvents old (stream_start YAML_ANY_ENCODING ∷ []) mid [] → DumpsAll mid ds taken new
    → DumpsStream old ds new
stream_stopped old mid new ds taken e g d = stream_left old mid new ds taken e (stream_opened old mid ds g) d

pub stands_by : (mid new : Emitter) (ds : List Document) (taken : Bool) → taken ≡ true
    → DumpsAll mid ds taken new → IsWithinStream new
stands_by mid new ds true e d = d.1
stands_by mid new ds false e d = absurd (cc)

feeds_by : (mid new : Emitter) (ds : List Document) (taken : Bool) → taken ≡ true
    → DumpsAll mid ds taken new
    → FeedsEmitter mid (documents_events (map graph_content ds)) new (stream_end ∷ [])
feeds_by mid new ds true e d = d.0
feeds_by mid new ds false e d = absurd (cc)

pub stream_ended : (old mid last new : Emitter) (ds : List Document) (taken : Bool) → taken ≡ true
    → TakesEvents old (stream_start YAML_ANY_ENCODING ∷ []) mid [] → DumpsAll mid ds taken last
    → (last.closed ≡ false → TakesEvents last (stream_end ∷ []) new []) → DumpsStream old ds new
stream_ended old mid last new ds taken e g d c = record {
  left = [];
  feeds =
      feeds_on old mid new _ _ _ (stream_opened old mid ds g)
      (feeds_on mid last new _ _ _ (feeds_by mid last ds taken e d) (feeds_given last new stream_end [] (c (stands_by mid last ds taken e d).closed)));
  all = λ n. refl;
}

-- ---- the answer

led : (settings : yaml_settings_t) (ds : List Document) (old new : Emitter)
    → IsUnder old (requested_under settings true) settings.limit → (w : DumpsStream old ds new)
    → Led (requested_under settings true) settings.limit (stream_of ds) new w.left
led settings ds old new u w = (
  w.feeds.limit ∙ u.limit,
  λ x whole s. w.feeds.completes x whole (starts old (requested_under settings true) settings.limit x (stream_of ds) whole u s),
)

pub dumped_text : (settings : yaml_settings_t) (ds : List Document) (old new : Emitter)
    (result : Result (Vec ℕ Global) yaml_fault_t)
    → IsUnder old (requested_under settings true) settings.limit → DumpsStream old ds new
    → FinishesText new result → Answers emit_layers bytes_of (IsEachDump settings ds) result
dumped_text settings ds old new (Ok text) u w f =
    let W : RequestedSettings = requested_under settings true in
    let Q : List Event → Type 0 = λ es. Led W settings.limit (stream_of ds) new es in
    layout W settings.limit (stream_of ds) new text.items (subst Q (w.all f.0) (led settings ds old new u w)) f.1
dumped_text settings ds old new (Err f) u w e = past (requested_under settings true) settings.limit (stream_of ds) new w.left f (led settings ds old new u w) e

-- the documents that an input loads have the one text
one_dump : (from : yaml_encoding_t) (input : List ℕ) (settings : yaml_settings_t)
    (result : Result (List ℕ) Fault)
    → IsEachDump settings (ended (loads_of from input).documents) result
    → IsDumped settings (loads_of from input).documents result
one_dump from input settings (Ok text) d = one_layout (requested_under settings true) settings.limit (written_events (loads_of from input).documents) text (loaded_text from input (requested_under settings true) refl) d
one_dump from input settings (Err f) d = one_past (requested_under settings true) settings.limit (written_events (loads_of from input).documents) f (loaded_text from input (requested_under settings true) refl) d

laid_out : (from : yaml_encoding_t) (input : List ℕ) (settings : yaml_settings_t)
    (result : Result (List ℕ) Fault) → (loads_of from input).fault ≡ None
    → IsDumped settings (loads_of from input).documents result
    → LaysOutLoading from settings input result
laid_out from input settings result h d = record { documents = (loads_of from input).documents; loading = faultless_load from input h; dumped = d }

-- The dumps of all loaded documents are a reload's answer.
pub reloaded : (from : yaml_encoding_t) (input : List ℕ) (settings : yaml_settings_t)
    (ds : List Document) (result : Result (Vec ℕ Global) yaml_fault_t)
    → AreLoaded from input ds → Answers emit_layers bytes_of (IsEachDump settings ds) result
    → Answers reload_layers bytes_of (IsReloaded from settings input) result
unfolding IsReloaded
reloaded from input settings ds (Ok text) a d =
    let P : List Document → Type 0 = λ z. IsEachDump settings z (Ok text.items) in
    let each = subst P a.same d in
    (record { documents = (loads_of from input).documents; loading = faultless_load from input a.right; dumped = one_dump from input settings (Ok text.items) each }, in_normal_documents from settings input text.items each)
reloaded from input settings ds (Err f) a d =
    let P : List Document → Type 0 = λ z. IsEachDump settings z (Err (fault_of f)) in
    elim d [ inl m ↦ inl (elim m [ inl e ↦ inl e | inr w ↦ inr (inl w) ]) | inr p ↦ inr (inr (laid_out from input settings (Err (fault_of f)) a.right (one_dump from input settings (Err (fault_of f)) (subst P a.same p)))) ]

-- A fault of a load is a fault of reloading.
pub not_loaded : (from : yaml_encoding_t) (settings : yaml_settings_t) (input : List ℕ)
    (f : yaml_fault_t)
    → IsMemoryFault load_layers (fault_of f) ⊎ IsLoaded from input (Err (fault_of f))
    → IsMemoryFault reload_layers (fault_of f) ⊎ IsReloaded from settings input (Err (fault_of f))
unfolding IsReloaded
not_loaded from settings input f h = elim h [ inl m ↦ inl (inr (inr m)) | inr k ↦ inr (inl (faulty_load from input (fault_of f) k)) ]
