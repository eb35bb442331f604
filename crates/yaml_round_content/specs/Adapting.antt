-- What an adapter makes of the tokens of canonical documents.
use Rattle.std.specs.Prelude.{◌≡◌, ℕ, false, List, [], ◌∷◌, Option, Some, None}
use Rattle.yaml_emit_laws.specs.scan_model.declared.name.yaml_encoding_t.{yaml_encoding_t}
use Rattle.yaml_emit_laws.specs.scan_types.Tokens.{Token}
use Rattle.yaml_emit_laws.specs.scan_types.Tokens as token
use Rattle.yaml_emit_laws.specs.scan_history.Remaining.{Remaining}
use Rattle.yaml_parse_model.specs.Events.{TagDirective}
use Rattle.yaml_emit_laws.specs.emit_layout.Tags.{split_tag}
use Rattle.yaml_emit_laws.specs.emit_layout.Content.{Document, Node, alias_node, scalar_node, sequence_node, mapping_node, Nodes, no_nodes, node, Pairs, no_pairs, pair}
use Rattle.yaml_emit_laws.specs.TagsLaws.{IsReadable, HaveUtf8}
use Rattle.yaml_round_content.specs.Adapted.{adapted}
use Rattle.yaml_emit_laws.specs.Bodies.{documents_bodies}
use Rattle.yaml_round_content.specs.TreeLaws.{token_bodies}

-- what is written for the tag can be read
abbrev pub IsReadableTag : List TagDirective → Option (List ℕ) → Type 0
IsReadableTag ds None = Unit {0}
IsReadableTag ds (Some t) = IsReadable (split_tag ds t)

-- each tag's
abbrev mutual
  pub IsTagged : List TagDirective → Node → Type 0
  IsTagged ds (alias_node name) = Unit {0}
  IsTagged ds (scalar_node x) = IsReadableTag ds x.tag
  IsTagged ds (sequence_node q items) = IsReadableTag ds q.tag × AreTagged ds items
  IsTagged ds (mapping_node q pairs) = IsReadableTag ds q.tag × PairsAreTagged ds pairs

  pub AreTagged : List TagDirective → Nodes → Type 0
  AreTagged ds no_nodes = Unit {0}
  AreTagged ds (node x xs) = IsTagged ds x × AreTagged ds xs

  pub PairsAreTagged : List TagDirective → Pairs → Type 0
  PairsAreTagged ds no_pairs = Unit {0}
  PairsAreTagged ds (pair k v ps) = IsTagged ds k × IsTagged ds v × PairsAreTagged ds ps

-- Prefixes are UTF-8, and tags can be read.
abbrev pub HaveTexts : List Document → Type 0
HaveTexts [] = Unit {0}
HaveTexts (d ∷ ds) = HaveUtf8 d.opening.directives × IsTagged d.opening.directives d.root
    × HaveTexts ds

abbrev pub without_fault : List Token → Remaining
without_fault ts = record { tokens = ts; fault = None }

-- Tokens with the bodies of such documents pass the adapter as they are.
abbrev pub CanonicalTokensPass : Type 0
CanonicalTokensPass = (x : yaml_encoding_t) (ds : List Document) → HaveTexts ds → (ts : List Token)
    → token_bodies ts ≡ token.stream_start x ∷ documents_bodies false ds
    → adapted (without_fault ts) ≡ without_fault ts
