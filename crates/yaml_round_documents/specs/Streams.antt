-- Every place where the documents of two streams differ.
use Rattle.std.specs.Prelude.{◌≡◌, ◌↔◌, ℕ, suc, pos, List, [], ◌∷◌, ◌++◌, map, drop, Vec}
use Rattle.std.specs.declared.alloc.Global.{Global}
use Rattle.yaml_parse_model.specs.Nodes.{Node}
use Rattle.yaml_parse_model.specs.Documents.{Document}
use Rattle.yaml_round_documents.specs.declared.difference.yaml_node_cause_t.{yaml_node_cause_t}
use Rattle.yaml_round_documents.specs.declared.difference.yaml_node_cause_t.TheVariants.{OnlyFirst, OnlySecond}
use Rattle.yaml_round_documents.specs.declared.difference.yaml_node_difference_t.{yaml_node_difference_t}
use Rattle.yaml_round_documents.specs.declared.streams.yaml_document_difference_t.{yaml_document_difference_t}
use Rattle.yaml_round_documents.specs.declared.streams.yaml_stream_differences_t.{yaml_stream_differences_t}
use Rattle.yaml_round_documents.specs.declared.walk.yaml_node_match_t.{yaml_node_match_t as Pair}
use Rattle.yaml_round_documents.specs.Differences.{AreDifferences}
use Rattle.yaml_round_documents.specs.Equal.{AreEqual}

-- a difference of the documents of that number
abbrev pub in_document : ℕ → yaml_node_difference_t → yaml_document_difference_t
in_document k d = record { document = k; difference = d }

-- one stream alone has it
abbrev pub alone : yaml_node_cause_t → yaml_node_difference_t
alone c = record { pair = 0; first = pos 0; second = pos 0; cause = c; place = 0 }

-- each of these, from that number on
abbrev pub told_alone_from : yaml_node_cause_t → ℕ → List Document
    → List yaml_document_difference_t
told_alone_from c k [] = []
told_alone_from c k (d ∷ ds) = in_document k (alone c) ∷ told_alone_from c (suc k) ds

-- the pairs of two documents, and their differences; none exactly where these are equal
abbrev pub AreNodeDifferences : List Node → List Node → List Pair → List yaml_node_difference_t
    → Type 0
AreNodeDifferences nodes others pairs told = AreDifferences nodes others pairs told
    × ((told ≡ []) ↔ AreEqual nodes others)

-- document by document they are equal
abbrev pub AreEqualStreams : List Document → List Document → Type 0
AreEqualStreams [] [] = Unit {0}
AreEqualStreams [] (e ∷ es) = ⊥
AreEqualStreams (d ∷ ds) [] = ⊥
AreEqualStreams (d ∷ ds) (e ∷ es) = AreEqual d.nodes e.nodes × AreEqualStreams ds es

-- Document by document, from that number on, the pairs and the differences of their nodes; and
-- each document that one stream has alone.
abbrev pub AreStreamDifferences : ℕ → List Document → List Document → List (Vec Pair Global)
    → List yaml_document_difference_t → Type 0
AreStreamDifferences k [] es pairs told = (pairs ≡ []) × (told ≡ told_alone_from OnlySecond k es)
AreStreamDifferences k (d ∷ ds) [] pairs told = (pairs ≡ [])
    × (told ≡ told_alone_from OnlyFirst k (d ∷ ds))
AreStreamDifferences k (d ∷ ds) (e ∷ es) pairs told = (own : Vec Pair Global)
    × (more : List (Vec Pair Global)) × (here : List yaml_node_difference_t)
    × (others : List yaml_document_difference_t) × (pairs ≡ own ∷ more)
    × (told ≡ map (in_document k) here ++ others)
    × AreNodeDifferences d.nodes e.nodes own.items here
    × AreStreamDifferences (suc k) ds es more others

-- two documents were compared
abbrev pub TellsDocument : ℕ → List Node → List Node → yaml_stream_differences_t
    → yaml_stream_differences_t → Type 0
TellsDocument k nodes others old new = (own : Vec Pair Global)
    × (here : List yaml_node_difference_t) × (new.pairs.items ≡ old.pairs.items ++ own ∷ [])
    × (new.told.items ≡ old.told.items ++ map (in_document k) here)
    × AreNodeDifferences nodes others own.items here

-- The first documents were compared: what is said of the others comes after theirs.
abbrev pub TellsTo : List Document → List Document → ℕ → yaml_stream_differences_t
    → yaml_stream_differences_t → Type 0
TellsTo ds es k old new = (more : List (Vec Pair Global)) (rest : List yaml_document_difference_t)
    → AreStreamDifferences k (drop k ds) (drop k es) more rest
    → (pairs : List (Vec Pair Global)) × (all : List yaml_document_difference_t)
    × (new.pairs.items ++ more ≡ old.pairs.items ++ pairs)
    × (new.told.items ++ rest ≡ old.told.items ++ all) × AreStreamDifferences 0 ds es pairs all
