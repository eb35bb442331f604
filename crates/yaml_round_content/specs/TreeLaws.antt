-- What a parser makes of the tokens of canonical documents.
use Rattle.std.specs.Prelude.{◌≡◌, ℕ, false, List, [], ◌∷◌, map, Option, Some, None, codes}
use Rattle.std.specs.Str.{bytes_eq}
use Rattle.yaml_emit_laws.specs.scan_types.Tokens.{Token, TokenBody}
use Rattle.yaml_parse_model.specs.Events.{EventBody, TagDirective}
use Rattle.yaml_emit_laws.specs.scan_types.Faults.{Fault}
use Rattle.yaml_emit_laws.specs.parse_grammar.declared.name.Wants.{Wants}
use Rattle.yaml_emit_laws.specs.parse_grammar.Trees.{Given, spell_node}
use Rattle.yaml_emit_laws.specs.parse_grammar.TreeSteps.{items_node}
use Rattle.yaml_emit_laws.specs.parse_grammar.Trees as trees
use Rattle.yaml_emit_laws.specs.parse_grammar.Resolve.{Directives, Told, Reading, reading, no_directives}
use Rattle.yaml_emit_laws.specs.parse_grammar.Machine.{run, initial}
use Rattle.yaml_emit_laws.specs.parse_grammar.Remaining.{reading_of}
use Rattle.yaml_parse_model.specs.declared.yaml_encoding_t.{yaml_encoding_t}
use Rattle.yaml_emit_laws.specs.scan_types.Tokens as token
use Rattle.yaml_parse_model.specs.Events as event
use Rattle.yaml_emit_laws.specs.emit_layout.Grammar.{opening_problem}
use Rattle.yaml_emit_laws.specs.emit_layout.Content.{Opening, Document, Node, alias_node, scalar_node, sequence_node, mapping_node, Nodes, no_nodes, node, Pairs, no_pairs, pair}
use Rattle.yaml_emit_laws.specs.Bodies.{node_bodies, documents_bodies}
use Rattle.yaml_round_content.specs.Reads.{node_reads, documents_reads}

abbrev pub token_bodies : List Token → List TokenBody
token_bodies ts = map (λ (t : Token). t.body) ts

abbrev pub event_bodies : Reading → List EventBody
event_bodies r = map (λ (g : Told). g.0.body) r.events

-- one reading has these events before the other, and ends as it does
pub record SaysTree (R : List EventBody → List EventBody) (r q : Reading) : Type 0 where
  pub events : event_bodies r ≡ R (event_bodies q)
  pub ending : r.ending ≡ q.ending

-- ---- nodes

abbrev pub IsNoMark : Option (List ℕ) → Type 0
IsNoMark None = Unit {0}
IsNoMark (Some t) = bytes_eq t (codes "!") ≡ false

-- no scalar has the tag `!`
abbrev mutual
  pub HasNoMark : Node → Type 0
  HasNoMark (alias_node name) = Unit {0}
  HasNoMark (scalar_node x) = IsNoMark x.tag
  HasNoMark (sequence_node q items) = HaveNoMark items
  HasNoMark (mapping_node q pairs) = PairsHaveNoMark pairs

  pub HaveNoMark : Nodes → Type 0
  HaveNoMark no_nodes = Unit {0}
  HaveNoMark (node x xs) = HasNoMark x × HaveNoMark xs

  pub PairsHaveNoMark : Pairs → Type 0
  PairsHaveNoMark no_pairs = Unit {0}
  PairsHaveNoMark (pair k v ps) = HasNoMark k × HasNoMark v × PairsHaveNoMark ps

-- The tokens begin with a tree, of which the events are read, whatever follows.
pub record Grown (w : Wants) (ds : List TagDirective) (R : List EventBody → List EventBody)
    (ts : List Token) (bs : List TokenBody) : Type 0 where
  pub tree : trees.Node w
  pub rest : List Token
  pub same : ts ≡ spell_node tree rest
  pub left : token_bodies rest ≡ bs
  pub gives : (more : List Token) (gs : List Given) (f : Option Fault) (D : Directives)
      → D.tags ≡ ds → SaysTree R (reading (items_node tree more gs) f D) (reading gs f D)

-- Under directives that may be written, tokens with the bodies of a node begin with a tree of that node.
abbrev pub NodesAreParsed : Type 0
NodesAreParsed = (o : Opening) → opening_problem o ≡ None → (w : Wants) (n : Node) → HasNoMark n
    → (ts : List Token) (bs : List TokenBody)
    → token_bodies ts ≡ node_bodies o.directives n bs → Grown w o.directives (node_reads n) ts bs

-- ---- documents

-- The directives may be written, and no scalar has the tag `!`.
abbrev pub IsParsable : Document → Type 0
IsParsable d = (opening_problem d.opening ≡ None) × HasNoMark d.root

abbrev pub AreParsable : List Document → Type 0
AreParsable [] = Unit {0}
AreParsable (d ∷ ds) = IsParsable d × AreParsable ds

-- the events of the tokens, and the fault that ends them
abbrev pub parsed_of : List Token → Reading
parsed_of ts = reading_of (run ts initial None) no_directives

-- Tokens with the bodies of canonical documents are parsed without fault, and say them.
abbrev pub CanonicalTokensAreParsed : Type 0
CanonicalTokensAreParsed = (x : yaml_encoding_t) (ds : List Document) → AreParsable ds
    → (ts : List Token)
    → token_bodies ts ≡ token.stream_start x ∷ documents_bodies false ds
    → (event_bodies (parsed_of ts) ≡ event.stream_start x ∷ documents_reads ds)
    × ((parsed_of ts).ending ≡ None)
