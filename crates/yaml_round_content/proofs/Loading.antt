-- The events of a content load its documents as they are numbered.
use Rattle.std.proofs.Common.{◌≡◌, List, [], ◌∷◌, Option, Some, None, Result, Ok, Err, IfOk, refl, ap, ◌∙◌}
use Rattle.yaml_round_content.proofs.Words.{Fault, Event, DocumentContent, document_of, Loading, LoadStep, goes_on, loaded, nothing_loaded, step, load, behind, Document, Loads, no_more, in_front, load_on, load_all, IsLoadedDocument, loader_content, content_events, told_by, load_of, load_each, AreLoadedDocuments, ContentIsLoaded, ContentLoadsDocuments, document_events, turn, DocumentsAreLoaded}
use Rattle.yaml_parse_model.specs.Nodes as model
use Rattle.yaml_parse_model.specs.Documents as documents
use Rattle.yaml_parse_loader.specs.Loading.{refused}
use Rattle.yaml_parse_loader.specs.Loading as loading

-- ---- the first document of events

document_turn : (fed : LoadStep) (es : List Event) (f : Option Fault) (d : documents.Document)
    (rest : List Event)
    → ((m : Loading) → load es m ≡ loading.document d rest → load_all (told_by es) f m
    ≡ in_front d.nodes d (load_all (told_by rest) f nothing_loaded))
    → turn fed (load es) es ≡ loading.document d rest
    → load_on fed (load_all (told_by es) f)
    ≡ in_front d.nodes d (load_all (told_by rest) f nothing_loaded)
document_turn (goes_on m) es f d rest next e = next m e
document_turn (loaded c) es f d rest next e =
    let p : c ≡ d = cc in
    let q : es ≡ rest = cc in
    ap (λ (x : documents.Document). in_front x.nodes x (load_all (told_by es) f nothing_loaded)) p ∙ ap (λ (xs : List Event). in_front d.nodes d (load_all (told_by xs) f nothing_loaded)) q
document_turn (refused g) es f d rest next e = absurd (cc)

document_told : (es : List Event) (l : Loading) (f : Option Fault) (d : documents.Document)
    (rest : List Event) → load es l ≡ loading.document d rest
    → load_all (told_by es) f l ≡ in_front d.nodes d (load_all (told_by rest) f nothing_loaded)
unfolding load load_all
document_told [] l f d rest e = absurd (cc)
document_told (x ∷ es) l f d rest e = document_turn (step x l) es f d rest (λ m h. document_told es m f d rest h) e

fault_turn : (fed : LoadStep) (es : List Event) (f : Option Fault) (g : Fault)
    → ((m : Loading) → load es m ≡ loading.faulty g → load_all (told_by es) f m ≡ no_more (Some g))
    → turn fed (load es) es ≡ loading.faulty g
    → load_on fed (load_all (told_by es) f) ≡ no_more (Some g)
fault_turn (goes_on m) es f g next e = next m e
fault_turn (loaded c) es f g next e = absurd (cc)
fault_turn (refused h) es f g next e = let p : h ≡ g = cc in ap (λ (x : Fault). no_more (Some x)) p

fault_told : (es : List Event) (l : Loading) (f : Option Fault) (g : Fault)
    → load es l ≡ loading.faulty g → load_all (told_by es) f l ≡ no_more (Some g)
unfolding load load_all
fault_told [] l f g e = absurd (cc)
fault_told (x ∷ es) l f g e = fault_turn (step x l) es f g (λ m h. fault_told es m f g h) e

-- ---- documents

abbrev pub LoadsDocuments : Type 0
LoadsDocuments = (d : DocumentContent) (rest : List Event) (l : Loading) → load (document_events d rest) l ≡ behind (document_of d) (λ e. loading.document e rest)

-- the first of several documents by its number, and the rest by theirs
pub by_number : (r : Result documents.Document Fault) (es rest : List Event) (l : Loading)
    (more : Loads) → load es l ≡ behind r (λ e. loading.document e rest)
    → load_all (told_by rest) None nothing_loaded ≡ more
    → load_all (told_by es) None l ≡ load_of r more
by_number (Ok d) es rest l more e h = document_told es l None d rest e ∙ ap (λ (x : Loads). in_front d.nodes d x) h
by_number (Err g) es rest l more e h = fault_told es l None g e

each_told : LoadsDocuments → (c : List Document)
    → load_all (told_by (content_events c)) None nothing_loaded ≡ load_each c
unfolding load_all
each_told loads [] = refl
each_told loads (d ∷ ds) =
    by_number (document_of (loader_content d)) (content_events (d ∷ ds)) (content_events ds) nothing_loaded (load_each ds) (loads (loader_content d) (content_events ds) nothing_loaded) (each_told loads ds)

-- A content is loaded, since streams of documents are.
pub content_loaded : LoadsDocuments → ContentIsLoaded
unfolding load_all
content_loaded loads c = each_told loads c

-- ---- what is loaded

front_loaded : (ns : List model.Node) (d : documents.Document) (rest : Loads) → IsLoadedDocument d
    → AreLoadedDocuments rest.documents → AreLoadedDocuments (in_front ns d rest).documents
front_loaded [] d rest h k = tt
front_loaded (n ∷ ns) d rest h k = (h, k)

number_loaded : (r : Result documents.Document Fault) (rest : Loads) → IfOk r IsLoadedDocument
    → AreLoadedDocuments rest.documents → AreLoadedDocuments (load_of r rest).documents
number_loaded (Ok d) rest h k = front_loaded d.nodes d rest h k
number_loaded (Err f) rest h k = tt

-- A content of documents is loaded, since they are.
pub documents_loaded : DocumentsAreLoaded → ContentLoadsDocuments
documents_loaded are [] = tt
documents_loaded are (d ∷ ds) = number_loaded (document_of (loader_content d)) (load_each ds) (are (loader_content d)) (documents_loaded are ds)
