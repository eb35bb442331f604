-- What of a document in the making decides whether its loading goes on, known without making it.
use Rattle.std.specs.Prelude.{◌≡◌, ℕ, Bool, true, false, ◌||◌, List, [], ◌∷◌, Vec, Option, None, Some, is_some}
use Rattle.std.specs.Global.{Global}
use Rattle.std.specs.List.{list_any}
use Rattle.std.specs.FinMap as map
use Rattle.yaml_parse.specs.declared.yaml_mark_t.{yaml_mark_t}
use Rattle.yaml_parse.specs.Nodes.{Node}
use Rattle.yaml_parse.specs.Numbering.{is_same, undefined_alias}
use Rattle.yaml_parse.specs.Loading.{Loading, LoadStep, goes_on, loaded, refused, nothing_loaded}
use Rattle.yaml_round_engine.specs.declared.known.Known.{Known}
use Rattle.yaml_round_engine.specs.declared.known.Passed.{Passed}
use Rattle.yaml_round_engine.specs.declared.known.Passed.TheVariants as passed

abbrev pub has_nodes : List Node → Bool
has_nodes [] = false
has_nodes (n ∷ ns) = true

abbrev pub is_called : List ℕ → Vec ℕ Global → Bool
is_called name k = is_same name k.items

-- whether the name is one of the document's
abbrev pub has_name : List ℕ → Known → Bool
has_name name k = list_any (is_called name) k.names.keys

-- whether the document has a node is known, and the names of all its anchors
pub record IsKnown (k : Known) (l : Loading) : Type 0 where
  pub rooted : has_nodes l.document.nodes ≡ k.rooted
  pub names : (name : List ℕ) → is_some (map.get l.anchors name) ≡ has_name name k

-- What a step of the loader comes to is answered, and what is known after it; nothing where memory
-- ran out.
abbrev pub Follows : LoadStep → yaml_mark_t → Passed → Known → Type 0
Follows step at passed.Starved k = Unit {0}
Follows (goes_on l) at passed.On k = IsKnown k l
Follows (loaded d) at passed.On k = (has_nodes d.nodes ≡ true) × IsKnown k nothing_loaded
Follows (refused f) at passed.On k = ⊥
Follows (goes_on l) at passed.Over k = ⊥
Follows (loaded d) at passed.Over k = has_nodes d.nodes ≡ false
Follows (refused f) at passed.Over k = ⊥
Follows (goes_on l) at passed.Undefined k = ⊥
Follows (loaded d) at passed.Undefined k = ⊥
Follows (refused f) at passed.Undefined k = f ≡ undefined_alias at

-- ---- the parts of an event

abbrev pub is_name : List ℕ → Option (List ℕ) → Bool
is_name name None = false
is_name name (Some anchor) = is_same name anchor

-- one name more
abbrev pub Names : List ℕ → Known → Known → Type 0
Names anchor old new = (new.rooted ≡ old.rooted)
    × ((name : List ℕ) → has_name name new ≡ (is_same name anchor || has_name name old))

-- one node more, which has the anchor
abbrev pub Notes : Option (List ℕ) → Known → Passed → Known → Type 0
Notes anchor old passed.Starved new = Unit {0}
Notes anchor old passed.On new = (new.rooted ≡ true)
    × ((name : List ℕ) → has_name name new ≡ (is_name name anchor || has_name name old))
Notes anchor old passed.Over new = ⊥
Notes anchor old passed.Undefined new = ⊥

-- nothing is loaded yet
pub record IsUnknown (k : Known) : Type 0 where
  pub rooted : k.rooted ≡ false
  pub names : k.names.keys ≡ []

-- a document ends
abbrev pub Ends : Known → Passed → Known → Type 0
Ends old passed.Starved new = Unit {0}
Ends old passed.On new = (old.rooted ≡ true) × IsUnknown new
Ends old passed.Over new = old.rooted ≡ false
Ends old passed.Undefined new = ⊥

-- an alias of a name that is known or not
abbrev pub Asks : Bool → Passed → Type 0
Asks known passed.On = known ≡ true
Asks known passed.Over = ⊥
Asks known passed.Undefined = known ≡ false
Asks known passed.Starved = ⊥
