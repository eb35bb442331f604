-- Documents that agree with loaded ones are as loading makes them.
use Rattle.std.proofs.Common.{◌≡◌, ℕ, zero, suc, ℤ, List, [], ◌∷◌, length, map, Some, None, refl, sym, ap, subst, ◌∙◌}
use Rattle.yaml_round_content.proofs.Words.{false, slice_get, pos, is_bang, VisitsInPreorder, again, first, events_of, ending_of, Document, Loads, loads_of, InputsAreWritable, CoreNode, Core, core_body, core_node, core_of, LoadsOfContent, IsLoadedDocument, load_each, trees_of_dumps, loaded_again, AreLoadedDocuments, ContentIsSaid, ContentIsLoaded, ContentLoadsDocuments, DumpsAreNumberedBack, done, children, Agrees, HasKind, IsLoadedNode, events_saying, DumpsLoadBack, InputsLoadDocuments}
use Rattle.yaml_parse_model.specs.Nodes as model
use Rattle.yaml_parse_model.specs.Documents as documents
use Rattle.yaml_emit_laws.specs.Dumps as dumps

-- ---- one node

same_kind : (b : model.NodeBody) → HasKind (core_body b) → HasKind b
same_kind model.no h = h
same_kind _ h = h

core_kind : (b : model.NodeBody) → HasKind b → HasKind (core_body b)
core_kind model.no h = h
core_kind _ h = h

core_children : (b : model.NodeBody) → children (core_body b) ≡ children b
core_children model.no = refl
core_children _ = refl

node_loaded : (m n : model.Node) → core_node m ≡ core_node n → IsLoadedNode n → IsLoadedNode m
node_loaded m n e h =
    (same_kind m.body (subst (λ (x : CoreNode). HasKind x.body) (sym e) (core_kind n.body h.0)), subst (λ (x : CoreNode). is_bang x.tag ≡ false) (sym e) h.1)

same_children : (m n : model.Node) → core_node m ≡ core_node n → children m.body ≡ children n.body
same_children m n e = sym (core_children m.body) ∙ ap (λ (x : CoreNode). children x.body) e ∙ core_children n.body

-- ---- lists of nodes

-- the node at a place on the other side
record Beside (ys : List model.Node) (k : ℕ) (m : model.Node) : Type 0 where
  other : model.Node
  at : slice_get ys k ≡ Some other
  same : core_node m ≡ core_node other

beside : (xs ys : List model.Node) (k : ℕ) (m : model.Node) → map core_node xs ≡ map core_node ys
    → slice_get xs k ≡ Some m → Beside ys k m
beside [] ys k m e at = absurd (cc)
beside (x ∷ xs) [] k m e at = absurd (cc)
beside (x ∷ xs) (y ∷ ys) zero m e at =
    let s : x ≡ m = cc in
    let h : core_node x ≡ core_node y = cc in
    record { other = y; at = refl; same = ap core_node (sym s) ∙ h }
beside (x ∷ xs) (y ∷ ys) (suc k) m e at = let h : map core_node xs ≡ map core_node ys = cc in let b = beside xs ys k m h at in record { other = b.other; at = b.at; same = b.same }

same_length : (xs ys : List model.Node) → map core_node xs ≡ map core_node ys
    → length xs ≡ length ys
same_length [] [] e = refl
same_length [] (y ∷ ys) e = absurd (cc)
same_length (x ∷ xs) [] e = absurd (cc)
same_length (x ∷ xs) (y ∷ ys) e = let h : map core_node xs ≡ map core_node ys = cc in ap (λ (n : ℕ). suc n) (same_length xs ys h)

same_visits : (xs ys : List model.Node) → map core_node ys ≡ map core_node xs
    → (seen : ℕ) (ids : List ℤ) (after : ℕ) → VisitsInPreorder ys seen ids after
    → VisitsInPreorder xs seen ids after
same_visits xs ys e seen ids after (done s) = done s
same_visits xs ys e seen ids after (again s k a more h v) = again s k a more h (same_visits xs ys e s more a v)
same_visits xs ys e seen ids after (first s b a more n at v w) =
    let x = beside ys xs s n e at in
    first s b a more x.other x.at (subst (λ (js : List ℤ). VisitsInPreorder xs (suc s) js b) (same_children n x.other x.same) (same_visits xs ys e (suc s) (children n.body) b v)) (same_visits xs ys e b more a w)

-- What is kept of a document decides whether it is a loaded one.
pub document_loaded : (d e : documents.Document) → core_of d ≡ core_of e → IsLoadedDocument e
    → IsLoadedDocument d
document_loaded d e same l =
    let nodes : map core_node d.nodes ≡ map core_node e.nodes = ap (λ (c : Core). c.nodes) same in
    record {
      order = subst (λ (n : ℕ). VisitsInPreorder d.nodes 0 (pos 1 ∷ []) n) (sym (same_length d.nodes e.nodes nodes)) (same_visits d.nodes e.nodes (sym nodes) 0 (pos 1 ∷ []) (length e.nodes) l.order);
      nodes = λ k n at. let b = beside d.nodes e.nodes k n nodes at in node_loaded n b.other b.same (l.nodes k b.other b.at);
    }

documents_loaded : (ds es : List documents.Document) → Agrees ds es → AreLoadedDocuments es
    → AreLoadedDocuments ds
documents_loaded [] es h l = tt
documents_loaded (d ∷ ds) [] h l = absurd (cc)
documents_loaded (d ∷ ds) (e ∷ es) h l =
    let one : core_of d ≡ core_of e = cc in
    let more : map core_of ds ≡ map core_of es = cc in
    (document_loaded d e one l.0, documents_loaded ds es more l.1)

-- ---- inputs

pub inputs_loaded : ContentIsSaid → ContentIsLoaded → ContentLoadsDocuments → InputsAreWritable
    → LoadsOfContent → InputsLoadDocuments
inputs_loaded said numbered loads writable alike from input c h =
    let a = alike (events_of from input) (events_saying c) (ending_of from input) None ((λ x. refl), (λ x. h.right)) (h.says ∙ sym (said c (writable from input c h))) in
    documents_loaded (loads_of from input).documents (load_each c).documents (a.agree ∙ ap (λ (l : Loads). map core_of l.documents) (numbered c)) (loads c)

-- ---- dumps

body_again : (b : model.NodeBody) → core_body (dumps.core_body b) ≡ core_body b
body_again model.no = refl
body_again _ = refl

nodes_again : (ns : List model.Node) → map core_node (map dumps.core_node ns) ≡ map core_node ns
nodes_again [] = refl
nodes_again (n ∷ ns) = λ i. (let c : CoreNode = record { tag = n.tag; body = body_again n.body i } in c) ∷ nodes_again ns i

agree_again : (ds : List documents.Document) → map core_of (map loaded_again ds) ≡ map core_of ds
agree_again [] = refl
agree_again (d ∷ ds) = λ i. (let c : Core = record { version = d.version; directives = d.directives; nodes = nodes_again d.nodes i } in c) ∷ agree_again ds i

-- Dumps load back as their documents, by these four laws.
pub dumps_loaded : ContentIsSaid → ContentIsLoaded → DumpsAreNumberedBack → LoadsOfContent
    → DumpsLoadBack
dumps_loaded said numbered back alike ds l w es h =
    let c : List Document = trees_of_dumps ds in
    let a = alike es (events_saying c) None None ((λ x. refl), (λ x. refl)) (h ∙ sym (said c w)) in
    let n = numbered c ∙ back ds l in
    record {
      agree = sym (a.agree ∙ ap (λ (x : Loads). map core_of x.documents) n ∙ agree_again ds);
      right = a.both.1 (ap (λ (x : Loads). x.fault) n);
    }
