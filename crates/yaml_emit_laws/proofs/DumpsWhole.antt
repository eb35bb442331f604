-- A dump of a loaded document is numbered as the document is.
use Rattle.std.proofs.Common.{◌≡◌, ◌<◌, ℕ, suc, ℤ, pos, List, [], ◌∷◌, ◌++◌, length, map, take, Result, Ok, Err, refl, sym, ap, ◌∙◌, arith, append-nil}
use Rattle.yaml_emit_laws.proofs.DumpsWords.{Fault, Node, Document, Loading, load, behind, Numbered, ◌>>=◌, number, number_items, DocumentContent, document_of, document_events, VisitsInPreorder, done, again, first, Met, Numbering, numbered, none_numbered, numbers, turns, graph_root, graph_content, items_by, content_by, itself, root_onward, root_joined, core_node, core_document, as_content, as_contents, as_document, AgainsAre, MeetsAgain, IsNumbered, AreAsMany, before_at, met_so, NumbersBack, NumbersAreApart, MetAgainAreNumbered, AgainsAreTurns, VisitsNumberBack, NumbersAreFound, DumpsNumberBack, DumpsLoadBack}
use Rattle.yaml_emit_graph.specs.emit_layout.parse_model.Events.{Event}
use Rattle.yaml_parse_loader.specs.Loading as loading
use Rattle.yaml_emit_graph.specs.emit_layout.Content as emit
use Rattle.yaml_emit_laws.proofs.Finding.{found}
use Rattle.yaml_emit_laws.proofs.Marks.{none_yet}

pub numbers_found : NumbersAreApart → NumbersAreFound
unfolding numbers
numbers_found apart nodes seen k h le some =
    let s : Numbering = numbered (none_numbered (length nodes)) (turns nodes) in
    found s.table (apart (length nodes) (turns nodes)).apart seen k h some

agains_weaker : (P Q : ℕ → Type 0) (nodes : List Node) (seen : ℕ) (ids : List ℤ) (after : ℕ)
    → ((k : ℕ) → P k → Q k) → (v : VisitsInPreorder nodes seen ids after) → AgainsAre P v
    → AgainsAre Q v
agains_weaker P Q nodes seen ids after f (done s) h = tt
agains_weaker P Q nodes seen ids after f (again s k e more less v) h = (f k h.0, agains_weaker P Q nodes s more e f v h.1)
agains_weaker P Q nodes seen ids after f (first s b e more n at v w) h = (agains_weaker P Q nodes _ _ b f v h.0, agains_weaker P Q nodes b more e f w h.1)

-- ---- the root

abbrev first_of : emit.Nodes → emit.Node
first_of emit.no_nodes = emit.alias_node []
first_of (emit.node v vs) = v

abbrev with_nodes : Document → List Node → Document
with_nodes d nodes = record (core_document d) { nodes = nodes }

abbrev nodes_of : Result (Numbered (List ℤ)) Fault → List Node
nodes_of (Ok r) = r.nodes
nodes_of (Err e) = []

abbrev alone : Numbered ℤ → Result (Numbered (List ℤ)) Fault
alone r = Ok (record { number = r.number ∷ []; nodes = r.nodes ++ []; before = r.before })

-- what one item makes
one_item : (d : Document) (x : Result (Numbered ℤ) Fault) (y : Numbered (List ℤ))
    → (x >>= alone) ≡ Ok y → (x >>= λ r. Ok (with_nodes d r.nodes)) ≡ Ok (with_nodes d y.nodes)
one_item d (Ok r) y h = ap (λ (ns : List Node). Ok (with_nodes d ns)) (sym (append-nil r.nodes) ∙ ap nodes_of h)
one_item d (Err e) y h = absurd (cc)

root_is : (nodes : List Node) (v : emit.Node)
    → ((rest : emit.Nodes → Met → emit.Node)
    → items_by (content_by (suc (length nodes)) (numbers nodes) nodes) (pos 1 ∷ []) rest
    (met_so nodes 0) ≡ rest (emit.node v emit.no_nodes) (met_so nodes (length nodes)))
    → graph_root nodes ≡ v
unfolding root_onward items_by
root_is nodes v same =
    sym (root_joined nodes)
    ∙ ap (λ (met : Met). content_by (suc (length nodes)) (numbers nodes) nodes (pos 1) itself met) (sym (none_yet nodes)) ∙ same (λ vs m. first_of vs)

root_back : (d : Document) (items : emit.Nodes) (y : Numbered (List ℤ))
    → AreAsMany items (pos 1 ∷ [])
    → ((rest : emit.Nodes → Met → emit.Node)
    → items_by (content_by (suc (length d.nodes)) (numbers d.nodes) d.nodes) (pos 1 ∷ []) rest
    (met_so d.nodes 0) ≡ rest items (met_so d.nodes (length d.nodes)))
    → number_items (as_contents items) 0 [] ≡ Ok y
    → document_of (as_document (graph_content d)) ≡ Ok (with_nodes d y.nodes)
unfolding number_items
root_back d (emit.node v emit.no_nodes) y many same gives =
    ap (λ (w : emit.Node). number (as_content w) 0 [] >>= λ r. Ok (with_nodes d r.nodes)) (root_is d.nodes v same)
    ∙ one_item d (number (as_content v) 0 []) y gives
root_back d _ y many same gives = absurd many

take_all : (ns : List Node) → take (length ns) ns ≡ ns
take_all [] = refl
take_all (n ∷ ns) = ap (λ (ms : List Node). n ∷ ms) (take_all ns)

whole : (d : Document)
    → NumbersBack d.nodes (numbers d.nodes) (suc (length d.nodes)) 0 (pos 1 ∷ []) (length d.nodes)
    → document_of (as_document (graph_content d)) ≡ Ok (core_document d)
unfolding before_at
whole d a =
    root_back d a.items (record { number = pos 1 ∷ []; nodes = a.new; before = before_at (numbers d.nodes) (length d.nodes) }) a.many a.same a.gives
    ∙ ap (λ (ns : List Node). Ok (with_nodes d ns)) (a.fronts ∙ ap (λ (ns : List Node). map core_node ns) (take_all d.nodes))

pub number_back : MetAgainAreNumbered → AgainsAreTurns → NumbersAreFound → VisitsNumberBack
    → DumpsNumberBack
unfolding numbers
number_back met turns_are finds backs d l =
    let n : ℕ = length d.nodes in
    let numbered_again = agains_weaker (λ k. (k < n) × MeetsAgain k (turns d.nodes)) (IsNumbered (numbers d.nodes)) d.nodes 0 (pos 1 ∷ []) n (λ k h. met n (turns d.nodes) k h.0 h.1) l.order (turns_are d.nodes l.order) in
    whole d (backs d.nodes (numbers d.nodes) l.nodes (finds d.nodes) (suc n) 0 (pos 1 ∷ []) n l.order numbered_again (omega arith) (omega arith))

-- what is loaded of the events of content that can be numbered
pub load_back : ((c : DocumentContent) (rest : List Event) (l : Loading)
    → load (document_events c rest) l ≡ behind (document_of c) (λ e. loading.document e rest))
    → DumpsNumberBack → DumpsLoadBack
load_back loads number d l rest begun =
    loads (as_document (graph_content d)) rest begun ∙ ap (λ r. behind r (λ e. loading.document e rest)) (number d l)
