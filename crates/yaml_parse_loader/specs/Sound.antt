-- What stays true of a document in the making.
use Rattle.std.specs.Prelude.{ℕ, ℤ, List, [], ◌∷◌, length, Option, Some, None, IfSome}
use Rattle.std.specs.FinMap as map
use Rattle.yaml_parse_model.specs.Documents.{IsDocument, IsId, AreIds, ArePairs}
use Rattle.yaml_parse_loader.specs.Anchors.{Anchors}
use Rattle.yaml_parse_loader.specs.Loading.{Open, open_sequence, open_mapping, Loading}

-- a number that may be left out names a node
abbrev pub IsIdOption : ℕ → Option ℤ → Type 0
IsIdOption count None = Unit {0}
IsIdOption count (Some id) = IsId count id

abbrev pub IsSoundOpen : ℕ → Open → Type 0
IsSoundOpen count (open_sequence place items) = AreIds count items
IsSoundOpen count (open_mapping place pairs key) = ArePairs count pairs × IsIdOption count key

abbrev pub AreSoundOpen : ℕ → List Open → Type 0
AreSoundOpen count [] = Unit {0}
AreSoundOpen count (o ∷ os) = IsSoundOpen count o × AreSoundOpen count os

-- each anchor names a node
abbrev pub AreAnchors : ℕ → Anchors → Type 0
AreAnchors count known = (name : List ℕ) → IfSome (map.get known name) (λ n. IsId count n)

-- the texts are UTF-8, and numbers name nodes, also those of open collections and anchors
pub record IsLoading (l : Loading) : Type 0 where
  pub document : IsDocument l.document
  pub levels : AreSoundOpen (length l.document.nodes) l.levels
  pub anchors : AreAnchors (length l.document.nodes) l.anchors
