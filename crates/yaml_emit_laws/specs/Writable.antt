-- What may be written: names of alphas, tags of one byte at least, texts in UTF-8, and directives
-- without problem.
use Rattle.std.specs.Prelude.{◌≡◌, ℕ, ◌<◌, true, List, [], ◌∷◌, length, Option, Some, None, IsUtf8}
use Rattle.yaml_scan_history.specs.Written.{are_alphas}
use Rattle.yaml_emit_layout.specs.Content.{Node, alias_node, scalar_node, sequence_node, mapping_node, Nodes, no_nodes, node, Pairs, no_pairs, pair, Opening, Document}
use Rattle.yaml_emit_layout.specs.Grammar.{opening_problem}
use Rattle.yaml_emit_laws.specs.TagsLaws.{HaveUtf8}

abbrev pub IsWritableName : List ℕ → Type 0
IsWritableName name = (0 < length name) × (are_alphas name ≡ true)

abbrev pub IsWritableAnchor : Option (List ℕ) → Type 0
IsWritableAnchor None = Unit {0}
IsWritableAnchor (Some name) = IsWritableName name

abbrev pub IsWritableTag : Option (List ℕ) → Type 0
IsWritableTag None = Unit {0}
IsWritableTag (Some t) = (0 < length t) × IsUtf8 t

abbrev mutual
  pub IsWritable : Node → Type 0
  IsWritable (alias_node name) = IsWritableName name
  IsWritable (scalar_node x) = IsWritableAnchor x.anchor × IsWritableTag x.tag × IsUtf8 x.value
  IsWritable (sequence_node q items) =
      IsWritableAnchor q.anchor × IsWritableTag q.tag × AreItemsWritable items
  IsWritable (mapping_node q pairs) =
      IsWritableAnchor q.anchor × IsWritableTag q.tag × ArePairsWritable pairs

  pub AreItemsWritable : Nodes → Type 0
  AreItemsWritable no_nodes = Unit {0}
  AreItemsWritable (node x xs) = IsWritable x × AreItemsWritable xs

  pub ArePairsWritable : Pairs → Type 0
  ArePairsWritable no_pairs = Unit {0}
  ArePairsWritable (pair k v ps) = IsWritable k × IsWritable v × ArePairsWritable ps

-- no problem, and prefixes in UTF-8
abbrev pub IsWritableOpening : Opening → Type 0
IsWritableOpening o = (opening_problem o ≡ None) × HaveUtf8 o.directives

abbrev pub AreWritable : List Document → Type 0
AreWritable [] = Unit {0}
AreWritable (d ∷ ds) = IsWritableOpening d.opening × IsWritable d.root × AreWritable ds
