-- What may be written of a content: names of alphas, tags and values in UTF-8, directives that an
-- emitter takes. No tag is empty, and no scalar's is `!`: canonical text has that before an
-- untagged scalar that doesn't count as plain.
use Rattle.std.specs.Prelude.{◌≡◌, ℕ, ◌<◌, true, List, [], ◌∷◌, length, codes, Option, Some, None}
use Rattle.std.specs.List.{list_all}
use Rattle.std.specs.Str.{IsUtf8}
use Rattle.yaml_parse_model.specs.scan_types.Classes.{is_alpha_byte}
use Rattle.yaml_parse_model.specs.Events.{TagDirective}
use Rattle.yaml_emit_laws.specs.emit_layout.Grammar.{opening_problem}
use Rattle.yaml_round_content.specs.Said.{ScalarMark, untagged, tagged, Node, alias, scalar, sequence, mapping, Nodes, no_nodes, node, Pairs, no_pairs, pair, Document}
use Rattle.yaml_round_content.specs.Canon.{written_document}

-- one or more of 0-9 A-Z a-z _ -
abbrev pub IsName : List ℕ → Type 0
IsName name = (0 < length name) × (list_all is_alpha_byte name ≡ true)

abbrev pub IsAnchor : Option (List ℕ) → Type 0
IsAnchor None = Unit {0}
IsAnchor (Some name) = IsName name

abbrev pub IsTag : Option (List ℕ) → Type 0
IsTag None = Unit {0}
IsTag (Some t) = (0 < length t) × IsUtf8 t

abbrev pub IsMark : ScalarMark → Type 0
IsMark (untagged plain) = Unit {0}
IsMark (tagged t) = IsTag (Some t) × (t ≡ codes "!" → ⊥)

abbrev mutual
  pub IsWritable : Node → Type 0
  IsWritable (alias name) = IsName name
  IsWritable (scalar anchor mark value) = IsAnchor anchor × IsMark mark × IsUtf8 value
  IsWritable (sequence anchor tag items) = IsAnchor anchor × IsTag tag × AreItemsWritable items
  IsWritable (mapping anchor tag pairs) = IsAnchor anchor × IsTag tag × ArePairsWritable pairs

  pub AreItemsWritable : Nodes → Type 0
  AreItemsWritable no_nodes = Unit {0}
  AreItemsWritable (node n ns) = IsWritable n × AreItemsWritable ns

  pub ArePairsWritable : Pairs → Type 0
  ArePairsWritable no_pairs = Unit {0}
  ArePairsWritable (pair k v ps) = IsWritable k × IsWritable v × ArePairsWritable ps

-- each prefix is UTF-8
abbrev pub HavePrefixes : List TagDirective → Type 0
HavePrefixes [] = Unit {0}
HavePrefixes (d ∷ ds) = IsUtf8 d.prefix × HavePrefixes ds

-- a document that may be written
pub record IsWritableDocument (d : Document) : Type 0 where
  pub opening : opening_problem (written_document d).opening ≡ None
  pub prefixes : HavePrefixes d.directives
  pub root : IsWritable d.root

abbrev pub AreWritable : List Document → Type 0
AreWritable [] = Unit {0}
AreWritable (d ∷ ds) = IsWritableDocument d × AreWritable ds
