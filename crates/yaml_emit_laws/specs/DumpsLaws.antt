-- What a dump of a loaded document says, numbered as the loader numbers, is that document again.
use Rattle.std.specs.Prelude.{◌≡◌, ◌<◌, ◌≤◌, ◌+◌, ℕ, suc, ℤ, pos, List, length, Some, Ok, IfOk}
use Rattle.yaml_emit_graph.specs.emit_layout.parse_model.Nodes.{Node}
use Rattle.yaml_parse_laws_trees.specs.parse_model.Documents.{Document}
use Rattle.yaml_emit_graph.specs.emit_layout.parse_model.Events.{Event}
use Rattle.yaml_parse_loader.specs.Loading.{Loading, load}
use Rattle.yaml_parse_loader.specs.Loading as loading
use Rattle.yaml_parse_loader.specs.Numbering.{DocumentContent, document_of, document_events, last_with}
use Rattle.yaml_parse_loader.specs.Order.{VisitsInPreorder, IsInPreorder}
use Rattle.yaml_emit_graph.specs.declared.Turn.{Turn}
use Rattle.yaml_emit_graph.specs.Graph.{IsWhole, walked, turns, number_at, name_of, numbered, none_numbered, numbers, graph_content}
use Rattle.yaml_emit_laws.specs.Dumps.{core_document, as_document, AreLoadedNodes, IsLoadedDocument, AgainsAre, MeetsAgain, IsNumbered, AreApart, before_at, NumbersBack}

-- ---- the numbers that a dump gives

-- No two nodes have one number.
abbrev pub NumbersAreApart : Type 0
NumbersAreApart = (count : ℕ) (ts : List Turn) → AreApart (numbered (none_numbered count) ts)

-- A node that is met again has a number.
abbrev pub MetAgainAreNumbered : Type 0
MetAgainAreNumbered = (count : ℕ) (ts : List Turn) (k : ℕ) → k < count → MeetsAgain k ts
    → IsNumbered (numbered (none_numbered count) ts).table k

-- What a derivation meets again is met again by the walk of a dump.
abbrev pub AgainsAreTurns : Type 0
AgainsAreTurns = (nodes : List Node) (v : IsInPreorder nodes)
    → AgainsAre (λ k. (k < length nodes) × MeetsAgain k (turns nodes)) v

-- Numbers have names of their own.
abbrev pub NamesAreApart : Type 0
NamesAreApart = (m n : ℕ) → name_of m ≡ name_of n → m ≡ n

-- ---- the walk

-- The bound of the depth is never used up: no visit is cut off.
abbrev pub WalksAreWhole : Type 0
WalksAreWhole = (nodes : List Node) → IsWhole (walked nodes)

-- ---- visits

-- after some nodes the name of each that has a number is found
abbrev pub NamesAreFound : List ℕ → ℕ → Type 0
NamesAreFound table n = (seen k : ℕ) → k < seen → seen ≤ n → IsNumbered table k
    → last_with (name_of (number_at table (pos (suc k)))) (before_at table seen)
    ≡ Some (pos (suc k))

-- What is visited in preorder is numbered by its dump as it was.
abbrev pub VisitsNumberBack : Type 0
VisitsNumberBack = (nodes : List Node) (table : List ℕ) → AreLoadedNodes nodes
    → NamesAreFound table (length nodes)
    → (f seen : ℕ) (ids : List ℤ) (after : ℕ) (v : VisitsInPreorder nodes seen ids after)
    → AgainsAre (IsNumbered table) v → length nodes < f + seen → seen ≤ length nodes
    → NumbersBack nodes table f seen ids after

-- The name of each node that has a number is found after it.
abbrev pub NumbersAreFound : Type 0
NumbersAreFound = (nodes : List Node) → NamesAreFound (numbers nodes) (length nodes)

-- ---- documents

-- Content that can be loaded is a document as loading makes it.
abbrev pub DocumentsAreLoaded : Type 0
DocumentsAreLoaded = (c : DocumentContent) → IfOk (document_of c) IsLoadedDocument

-- What a dump of a loaded document says is that document, styles and marks aside.
abbrev pub DumpsNumberBack : Type 0
DumpsNumberBack = (d : Document) → IsLoadedDocument d
    → document_of (as_document (graph_content d)) ≡ Ok (core_document d)

-- So the events that say it load that document.
abbrev pub DumpsLoadBack : Type 0
DumpsLoadBack = (d : Document) → IsLoadedDocument d
    → (rest : List Event) (l : Loading)
    → load (document_events (as_document (graph_content d)) rest) l
    ≡ loading.document (core_document d) rest
