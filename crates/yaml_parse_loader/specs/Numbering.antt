-- A document's nodes, numbered in preorder from 1, and the number that each alias stands for: that of the last node
-- before it with its anchor.
use Rattle.std.specs.Prelude.{ℕ, suc, ℤ, pos, ◌+◌, ◌==◌, Bool, false, cond, List, [], ◌∷◌, ◌++◌, length, Option, Some, None, Result, Ok, Err, codes}
use Rattle.std.specs.Ordering.{nat_cmp, eq_by_cmp}
use Rattle.std.specs.Cmp.Lexicographic.{slice_cmp}
use Rattle.yaml_parse_model.specs.scan_types.Ascii as ascii
use Rattle.yaml_parse_model.specs.declared.yaml_mark_t.{yaml_mark_t}
use Rattle.yaml_parse_model.specs.declared.yaml_version_directive_t.{yaml_version_directive_t}
use Rattle.yaml_parse_model.specs.declared.yaml_scalar_style_t.{yaml_scalar_style_t}
use Rattle.yaml_parse_model.specs.declared.yaml_sequence_style_t.{yaml_sequence_style_t}
use Rattle.yaml_parse_model.specs.declared.yaml_mapping_style_t.{yaml_mapping_style_t}
use Rattle.yaml_parse_model.specs.declared.yaml_error_type_t.TheVariants.{YAML_COMPOSER_ERROR}
use Rattle.yaml_parse_model.specs.declared.yaml_origin_t.TheVariants.{Loader}
use Rattle.yaml_parse_model.specs.scan_types.Tokens.{zero_mark}
use Rattle.yaml_parse_model.specs.scan_types.Faults.{Fault}
use Rattle.yaml_parse_model.specs.declared.yaml_node_pair_t.{yaml_node_pair_t}
use Rattle.yaml_parse_model.specs.Events.{Event, TagDirective}
use Rattle.yaml_parse_model.specs.Events as event
use Rattle.yaml_parse_model.specs.Nodes.{Node}
use Rattle.yaml_parse_model.specs.Nodes as node
use Rattle.yaml_parse_model.specs.Documents.{Document, str_tag, seq_tag, map_tag}

-- ---- the content of a document, as a tree, and its events

-- what a node's first event carries: its properties, and where it is
pub record Head : Type 0 where
  pub anchor : Option (List ℕ)
  pub tag : Option (List ℕ)
  pub start_mark : yaml_mark_t
  pub end_mark : yaml_mark_t

-- where a closing event is
pub record Span : Type 0 where
  pub start_mark : yaml_mark_t
  pub end_mark : yaml_mark_t

mutual
  pub data Content : Type 0 where
    alias : List ℕ → Span → Content
    -- head, value, plain-implicit, quoted-implicit, style
    scalar : Head → List ℕ → Bool → Bool → yaml_scalar_style_t → Content
    -- head, implicit, style, items, closing event
    sequence : Head → Bool → yaml_sequence_style_t → Contents → Span → Content
    mapping : Head → Bool → yaml_mapping_style_t → Pairs → Span → Content

  pub data Contents : Type 0 where
    no_items : Contents
    item : Content → Contents → Contents

  pub data Pairs : Type 0 where
    no_pairs : Pairs
    pair : Content → Content → Pairs → Pairs

abbrev pub spanning : event.EventBody → yaml_mark_t → yaml_mark_t → Event
spanning body from to = record { body = body; start_mark = from; end_mark = to }

-- the events of content, before others
abbrev mutual
  pub events : Content → List Event → List Event
  events (alias name at) rest = spanning (event.alias name) at.start_mark at.end_mark ∷ rest
  events (scalar h value plain quoted style) rest = spanning
      (event.scalar h.anchor h.tag value plain quoted style) h.start_mark h.end_mark ∷ rest
  events (sequence h implicit style items at) rest =
      spanning (event.sequence_start h.anchor h.tag implicit style) h.start_mark h.end_mark
      ∷ item_events items (spanning event.sequence_end at.start_mark at.end_mark ∷ rest)
  events (mapping h implicit style pairs at) rest =
      spanning (event.mapping_start h.anchor h.tag implicit style) h.start_mark h.end_mark
      ∷ pair_events pairs (spanning event.mapping_end at.start_mark at.end_mark ∷ rest)

  pub item_events : Contents → List Event → List Event
  item_events no_items rest = rest
  item_events (item c more) rest = events c (item_events more rest)

  pub pair_events : Pairs → List Event → List Event
  pair_events no_pairs rest = rest
  pair_events (pair key value more) rest = events key (events value (pair_events more rest))

-- ---- tags and faults

-- the tag `!`
abbrev pub is_bang : List ℕ → Bool
is_bang [] = false
is_bang (c ∷ []) = c == ascii.exclamation
is_bang (c ∷ d ∷ more) = false

-- no tag and `!` become the default tag
abbrev pub loaded_tag : Option (List ℕ) → List ℕ → List ℕ
loaded_tag None default = default
loaded_tag (Some tag) default = cond (is_bang tag) default tag

-- a fault of the loader
abbrev pub composer_fault : List ℕ → yaml_mark_t → Option (List ℕ) → yaml_mark_t → Fault
composer_fault problem at context from = record {
  kind = YAML_COMPOSER_ERROR;
  problem = problem;
  offset = 0;
  number = pos 0;
  problem_mark = at;
  context = context;
  context_mark = from;
  origin = Loader;
}

abbrev pub undefined_alias : yaml_mark_t → Fault
undefined_alias at = composer_fault (codes "found undefined alias") at None zero_mark

-- ---- numbers

infixl 10 ◌>>=◌
abbrev pub ◌>>=◌ : {A B : Type 0} → Result A Fault → (A → Result B Fault) → Result B Fault
(Ok x) >>= f = f x
(Err e) >>= f = Err e

-- the nodes with an anchor before a place in preorder, each by its anchor and its number, the last of them first
abbrev pub Anchored : Type 0
Anchored = List (List ℕ × ℤ)

abbrev pub is_same : List ℕ → List ℕ → Bool
is_same a b = eq_by_cmp (slice_cmp nat_cmp) a b

-- what an alias means there: the last node before it that has its anchor
abbrev pub last_with : List ℕ → Anchored → Option ℤ
last_with name [] = None
last_with name (n ∷ before) = cond (is_same name n.0) (Some n.1) (last_with name before)

-- a node is before what it holds: it counts from its own start
abbrev pub and_node : Option (List ℕ) → ℤ → Anchored → Anchored
and_node None number before = before
and_node (Some anchor) number before = (anchor, number) ∷ before

-- the number of a node, its own nodes in preorder, and the nodes with an anchor before what is after it
pub record Numbered (A : Type 0) : Type 0 where
  pub number : A
  pub nodes : List Node
  pub before : Anchored

-- an alias stands for that node, and is refused where there is none
abbrev pub alias_number : Option ℤ → yaml_mark_t → Anchored → Result (Numbered ℤ) Fault
alias_number None at before = Err (undefined_alias at)
alias_number (Some n) at before = Ok (record { number = n; nodes = []; before = before })

abbrev pub scalar_node : Head → List ℕ → yaml_scalar_style_t → Node
scalar_node h value style = record {
  body = node.scalar value style;
  tag = loaded_tag h.tag str_tag;
  start_mark = h.start_mark;
  end_mark = h.end_mark;
}

abbrev pub sequence_node : Head → List ℤ → yaml_sequence_style_t → yaml_mark_t → Node
sequence_node h items style to = record {
  body = node.sequence items style;
  tag = loaded_tag h.tag
      seq_tag;
  start_mark = h.start_mark;
  end_mark = to;
}

abbrev pub mapping_node : Head → List yaml_node_pair_t → yaml_mapping_style_t → yaml_mark_t → Node
mapping_node h pairs style to = record {
  body = node.mapping pairs style;
  tag = loaded_tag h.tag
      map_tag;
  start_mark = h.start_mark;
  end_mark = to;
}

-- content after that many nodes, of which those have an anchor, numbered; or its first fault
unfoldable mutual
  pub number : Content → ℕ → Anchored → Result (Numbered ℤ) Fault
  number (alias name at) count before = alias_number (last_with name before) at.start_mark before
  number (scalar h value plain quoted style) count before =
      Ok (record {
        number = pos (suc count);
        nodes = scalar_node h value style ∷ [];
        before = and_node h.anchor (pos (suc count)) before;
      })
  number (sequence h implicit style items at) count before =
      number_items items (suc count) (and_node h.anchor (pos (suc count)) before) >>= λ r.
      Ok (record {
        number = pos (suc count);
        nodes = sequence_node h r.number style at.end_mark
            ∷ r.nodes;
        before = r.before;
      })
  number (mapping h implicit style pairs at) count before =
      number_pairs pairs (suc count) (and_node h.anchor (pos (suc count)) before) >>= λ r.
      Ok (record {
        number = pos (suc count);
        nodes = mapping_node h r.number style at.end_mark
            ∷ r.nodes;
        before = r.before;
      })

  pub number_items : Contents → ℕ → Anchored → Result (Numbered (List ℤ)) Fault
  number_items no_items count before = Ok (record { number = []; nodes = []; before = before })
  number_items (item c more) count before =
      number c count before >>= λ r. number_items more (count + length r.nodes) r.before >>= λ s.
      Ok (record { number = r.number ∷ s.number; nodes = r.nodes ++ s.nodes; before = s.before })

  pub number_pairs : Pairs → ℕ → Anchored → Result (Numbered (List yaml_node_pair_t)) Fault
  number_pairs no_pairs count before = Ok (record { number = []; nodes = []; before = before })
  number_pairs (pair key value more) count before =
      number key count before >>= λ r. number value (count + length r.nodes) r.before >>= λ s.
      number_pairs more (count + length r.nodes + length s.nodes) s.before >>= λ t.
      let p : yaml_node_pair_t = record { key = r.number; value = s.number } in
      Ok (record {
        number = p ∷ t.number;
        nodes = r.nodes ++ (s.nodes ++ t.nodes);
        before = t.before;
      })

-- ---- documents

-- the content of one document: what its first event carries, its root, what its last event carries
pub record DocumentContent : Type 0 where
  pub version : Option yaml_version_directive_t
  pub directives : List TagDirective
  pub start_implicit : Bool
  pub start_at : Span
  pub root : Content
  pub end_implicit : Bool
  pub end_at : Span

abbrev pub document_events : DocumentContent → List Event → List Event
document_events d rest =
    spanning (event.document_start d.version d.directives d.start_implicit) d.start_at.start_mark
    d.start_at.end_mark
    ∷ events d.root (spanning (event.document_end d.end_implicit) d.end_at.start_mark
    d.end_at.end_mark ∷ rest)

-- the loaded document of content, or the content's first fault
abbrev pub document_of : DocumentContent → Result Document Fault
document_of d = number d.root 0 [] >>= λ r. Ok (record {
  version = d.version;
  directives = d.directives;
  start_implicit = d.start_implicit;
  end_implicit = d.end_implicit;
  start_mark = d.start_at.start_mark;
  end_mark = d.end_at.end_mark;
  nodes = r.nodes;
})
