-- Numbered content: each node has a kind, and none has the tag `!`.
use Rattle.std.proofs.Common.{◌≡◌, ◌+◌, ℕ, suc, ℤ, pos, Bool, true, false, List, [], ◌∷◌, ◌++◌, length, Option, Some, None, Result, Ok, Err, IfOk, refl, subst, cond, zero}
use Rattle.yaml_emit_graph.specs.emit_layout.parse_model.declared.yaml_mark_t.{yaml_mark_t}
use Rattle.yaml_emit_laws.proofs.DumpsWords.{Fault, Node, Document, str_tag, seq_tag, map_tag, Content, Contents, sequence, mapping, no_items, item, ◌>>=◌, Anchored, Numbered, and_node, last_with, alias_number, number, number_items, number_pairs, is_bang, loaded_tag, DocumentContent, document_of, IsInPreorder, IsLoadedNode, AreLoadedNodes, IsLoadedDocument, DocumentsAreLoaded}
use Rattle.yaml_parse_loader.specs.Numbering.{Pairs, alias, scalar, no_pairs, pair}
use Rattle.yaml_parse_loader.proofs.Visited.{good_then, Good}

abbrev All : List Node → Type 0
All [] = Unit {0}
All (n ∷ ns) = IsLoadedNode n × All ns

abbrev AllOf : {A : Type 0} → Numbered A → Type 0
AllOf r = All r.nodes

all_both : (ms ns : List Node) → All ms → All ns → All (ms ++ ns)
all_both [] ns h k = k
all_both (m ∷ ms) ns h k = (h.0, all_both ms ns h.1 k)

all_at : (ns : List Node) → All ns → AreLoadedNodes ns
all_at [] h k n e = absurd (cc)
all_at (m ∷ ns) h zero n e = let s : m ≡ n = cc in subst (λ (x : Node). IsLoadedNode x) s h.0
all_at (m ∷ ns) h (suc k) n e = all_at ns h.1 k n e

-- ---- tags

tag_by : (b : Bool) (tag default : List ℕ) → is_bang tag ≡ b → is_bang default ≡ false
    → is_bang (cond b default tag) ≡ false
tag_by true tag default e h = h
tag_by false tag default e h = e

no_bang : (tag : Option (List ℕ)) (default : List ℕ) → is_bang default ≡ false
    → is_bang (loaded_tag tag default) ≡ false
no_bang None default h = h
no_bang (Some tag) default h = tag_by (is_bang tag) tag default refl h

-- ---- content

alias_all : (o : Option ℤ) (at : yaml_mark_t) (before : Anchored)
    → Good (alias_number o at before) AllOf
alias_all None at before = tt
alias_all (Some n) at before = tt

mutual
  unfolding number

  all : (c : Content) (count : ℕ) (before : Anchored) → Good (number c count before) AllOf
  all (alias name at) count before = alias_all (last_with name before) at.start_mark before
  all (scalar h value plain quoted style) count before = ((tt, no_bang h.tag str_tag refl), tt)
  all (sequence h implicit style items at) count before =
      good_then (number_items items (suc count) (and_node h.anchor (pos (suc count)) before)) _ AllOf _ (all_items items (suc count) (and_node h.anchor (pos (suc count)) before)) (λ r p. ((tt, no_bang h.tag seq_tag refl), p))
  all (mapping h implicit style pairs at) count before =
      good_then (number_pairs pairs (suc count) (and_node h.anchor (pos (suc count)) before)) _ AllOf _ (all_pairs pairs (suc count) (and_node h.anchor (pos (suc count)) before)) (λ r p. ((tt, no_bang h.tag map_tag refl), p))

  all_items : (cs : Contents) (count : ℕ) (before : Anchored)
      → Good (number_items cs count before) AllOf
  all_items no_items count before = tt
  all_items (item c more) count before =
      good_then (number c count before) _ AllOf _ (all c count before) (λ r p.
      good_then (number_items more (count + length r.nodes) r.before) _ AllOf _ (all_items more (count + length r.nodes) r.before) (λ s q.
      all_both r.nodes s.nodes p q))

  all_pairs : (cs : Pairs) (count : ℕ) (before : Anchored)
      → Good (number_pairs cs count before) AllOf
  all_pairs no_pairs count before = tt
  all_pairs (pair key value more) count before =
      good_then (number key count before) _ AllOf _ (all key count before) (λ r p.
      good_then (number value (count + length r.nodes) r.before) _ AllOf _ (all value (count + length r.nodes) r.before) (λ s q.
      good_then (number_pairs more (count + length r.nodes + length s.nodes) s.before) _ AllOf _ (all_pairs more (count + length r.nodes + length s.nodes) s.before) (λ t o.
      all_both r.nodes (s.nodes ++ t.nodes) p (all_both s.nodes t.nodes q o))))

-- ---- documents

abbrev made : DocumentContent → Numbered ℤ → Document
made d r = record {
  version = d.version;
  directives = d.directives;
  start_implicit = d.start_implicit;
  end_implicit = d.end_implicit;
  start_mark = d.start_at.start_mark;
  end_mark = d.end_at.end_mark;
  nodes = r.nodes;
}

with_order : (c : DocumentContent) (r : Result (Numbered ℤ) Fault) → Good r AllOf
    → IfOk (r >>= λ x. Ok (made c x)) (λ e. IsInPreorder e.nodes)
    → IfOk (r >>= λ x. Ok (made c x)) IsLoadedDocument
with_order c (Ok x) h o = record { order = o; nodes = all_at x.nodes h }
with_order c (Err e) h o = tt

pub loaded : ((c : DocumentContent) → IfOk (document_of c) (λ e. IsInPreorder e.nodes))
    → DocumentsAreLoaded
loaded order c = with_order c (number c.root 0 []) (all c.root 0 []) (order c)
