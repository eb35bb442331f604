-- The loader makes of the events of content what the content's numbering says.
use Rattle.std.proofs.Common.{◌≡◌, ◌+◌, ℕ, suc, ℤ, List, [], ◌∷◌, ◌++◌, length, Option, Some, None, Result, cond, refl, ap, sym, ◌∙◌, append_assoc, append-nil, length-append, arith}
use Rattle.std.specs.FinMap as map
use Rattle.std.specs.Ordering.{nat_cmp}
use Rattle.std.specs.Cmp.Lexicographic.{slice_cmp, nat_list_cmp_total}
use Rattle.yaml_parse_model.specs.declared.yaml_mark_t.{yaml_mark_t}
use Rattle.yaml_parse_model.specs.scan_types.Faults.{Fault}
use Rattle.yaml_parse_model.specs.declared.yaml_node_pair_t.{yaml_node_pair_t}
use Rattle.yaml_parse_model.specs.Events.{Event}
use Rattle.yaml_parse_model.specs.Events as event
use Rattle.yaml_parse_model.specs.Nodes.{Node}
use Rattle.yaml_parse_model.specs.Documents.{Document, change_place}
use Rattle.yaml_parse_model.proofs.Sound.{length_push}
use Rattle.yaml_parse_loader.specs.Anchors.{Anchors}
use Rattle.yaml_parse_loader.specs.Numbering.{Content, Contents, Pairs, alias, scalar, sequence, mapping, no_items, item, no_pairs, pair, spanning, events, item_events, pair_events, ◌>>=◌, Anchored, is_same, last_with, and_node, alias_number, scalar_node, sequence_node, mapping_node, number, number_items, number_pairs, DocumentContent, document_events, document_of}
use Rattle.yaml_parse_loader.specs.Loading.{Open, open_sequence, open_mapping, Loading, attach, next, with_leaf, with_open, filled, place_of, closed, named, aliased, started, Loaded, document, turn, load, behind}

behind_same : {A : Type 0} (r : Result A Fault) (f g : A → Loaded) → ((x : A) → f x ≡ g x)
    → behind r f ≡ behind r g
behind_same r f g h = grind arith

behind_then : {A B : Type 0} (r : Result A Fault) (f : A → Result B Fault) (g : B → Loaded)
    → behind (r >>= f) g ≡ behind r (λ x. behind (f x) g)
behind_then r f g = grind arith

-- ---- the table of the nodes with an anchor

abbrev table : Anchored → Anchors
table [] = map.empty
table (n ∷ before) = map.insert (table before) n.0 n.1

-- what a name names there is the last of the nodes with it
found_last : (name : List ℕ) (before : Anchored)
    → map.get (table before) name ≡ last_with name before
found_last name [] = map.get-empty (slice_cmp nat_cmp) name
found_last name (n ∷ before) =
    map.get-insert nat_list_cmp_total (table before) n.0 n.1 name ∙ ap (λ (o : Option ℤ). cond (is_same name n.0) (Some n.1) o) (found_last name before)

named_table : (anchor : Option (List ℕ)) (n : ℤ) (before : Anchored)
    → named anchor n (table before) ≡ table (and_node anchor n before)
named_table anchor n before = grind arith

-- ---- what is there, and content after it

-- several numbers, and several pairs of them, put where they belong
abbrev attach_all : List ℤ → List Open → List Open
attach_all [] os = os
attach_all (n ∷ ns) os = attach_all ns (attach n os)

abbrev attach_pairs : List yaml_node_pair_t → List Open → List Open
attach_pairs [] os = os
attach_pairs (p ∷ ps) os = attach_pairs ps (attach p.value (attach p.key os))

-- a document in the making by its parts
abbrev made : Document → List Node → List Open → Anchors → Loading
made d ns os known = record { document = record d { nodes = ns }; levels = os; anchors = known }

-- with these nodes under their anchors
abbrev behind_nodes : Loading → Anchored → Loading
behind_nodes l before = record l { anchors = table before }

-- numbered content after what is there
abbrev add : Loading → List ℤ → List Node → Anchored → Loading
add l ids ns before = made l.document (l.document.nodes ++ ns) (attach_all ids l.levels) (table before)

abbrev add_pairs : Loading → List yaml_node_pair_t → List Node → Anchored → Loading
add_pairs l ps ns before = made l.document (l.document.nodes ++ ns) (attach_pairs ps l.levels) (table before)

attached_all : (ids items : List ℤ) (place : ℕ) (os : List Open)
    → attach_all ids (open_sequence place items ∷ os) ≡ open_sequence place (items ++ ids) ∷ os
attached_all [] items place os = ap (λ is. open_sequence place is ∷ os) (sym (append-nil items))
attached_all (n ∷ ids) items place os =
    attached_all ids (items ++ n ∷ []) place os ∙ ap (λ is. open_sequence place is ∷ os) (append_assoc items (n ∷ []) ids)

attached_pairs : (ps pairs : List yaml_node_pair_t) (place : ℕ) (os : List Open)
    → attach_pairs ps (open_mapping place pairs None ∷ os) ≡ open_mapping place (pairs ++ ps) None
    ∷ os
attached_pairs [] pairs place os = ap (λ qs. open_mapping place qs None ∷ os) (sym (append-nil pairs))
attached_pairs (p ∷ ps) pairs place os =
    attached_pairs ps (pairs ++ p ∷ []) place os ∙ ap (λ qs. open_mapping place qs None ∷ os) (append_assoc pairs (p ∷ []) ps)

-- the node after others, changed
changed_at : (f : Node → Node) (xs ys : List Node) (x : Node)
    → change_place f (length xs) ((xs ++ x ∷ []) ++ ys) ≡ xs ++ f x ∷ ys
changed_at f [] ys x = refl
changed_at f (n ∷ xs) ys x = ap (λ ns. n ∷ ns) (changed_at f xs ys x)

-- a collection that is closed is one numbered node more
closes_holder : (l : Loading) (n m : Node) (o : Open) (os : List Open) (to : yaml_mark_t)
    (ns : List Node) (before : Anchored) → os ≡ o ∷ attach (next l) l.levels
    → place_of o ≡ length l.document.nodes → filled o to n ≡ m
    → closed to (made l.document ((l.document.nodes ++ n ∷ []) ++ ns) os (table before)) os
    ≡ add l (next l ∷ []) (m ∷ ns) before
closes_holder l n m o os to ns before e p f = grind (arith, made, table, changed_at)

alias_loads : (o : Option ℤ) (at : yaml_mark_t) (l : Loading) (before : Anchored)
    (rest : List Event)
    → turn (aliased o at (behind_nodes l before)) (load rest) rest
    ≡ behind (alias_number o at before) (λ r. load rest (add l (r.number ∷ []) r.nodes r.before))
alias_loads None at l before rest = refl
alias_loads (Some n) at l before rest = ap (λ (ns : List Node). load rest (made l.document ns (attach n l.levels) (table before))) (sym (append-nil l.document.nodes))

mutual
  unfolding load number

  pub loads : (c : Content) (rest : List Event) (l : Loading) (before : Anchored)
      → load (events c rest) (behind_nodes l before)
      ≡ behind (number c (length l.document.nodes) before)
      (λ r. load rest (add l (r.number ∷ []) r.nodes r.before))
  loads (alias name at) rest l before =
      ap (λ (o : Option ℤ). turn (aliased o at.start_mark (behind_nodes l before)) (load rest) rest) (found_last name before)
      ∙ alias_loads (last_with name before) at.start_mark l before rest
  loads (scalar h value plain quoted style) rest l before =
      ap (λ (ks : Anchors). load rest (with_leaf l (scalar_node h value style) ks)) (named_table h.anchor (next l) before)
  loads (sequence h implicit style items at) rest l before =
      let within : Anchored = and_node h.anchor (next l) before in
      let opened : Loading = with_open l (sequence_node h [] style h.end_mark) (open_sequence (length l.document.nodes) []) (table within) in
      let close : List Event = spanning event.sequence_end at.start_mark at.end_mark ∷ rest in
      ap (λ (ks : Anchors). load (item_events items close) (with_open l (sequence_node h [] style h.end_mark) (open_sequence (length l.document.nodes) []) ks)) (named_table h.anchor (next l) before)
      ∙ loads_items items close opened within
      ∙ ap (λ (k : ℕ). behind (number_items items k within) (λ r. load close (add opened r.number r.nodes r.before))) (length_push l.document.nodes (sequence_node h [] style h.end_mark))
      ∙ behind_same (number_items items (suc (length l.document.nodes)) within) _ _ (λ r. ap (λ (m : Loading). load rest m) (closes_holder l (sequence_node h [] style h.end_mark) (sequence_node h r.number style at.end_mark) (open_sequence (length l.document.nodes) r.number) _ at.end_mark r.nodes r.before (attached_all r.number [] (length l.document.nodes) (attach (next l) l.levels)) refl refl))
      ∙ sym (behind_then (number_items items (suc (length l.document.nodes)) within) _ _)
  loads (mapping h implicit style pairs at) rest l before =
      let within : Anchored = and_node h.anchor (next l) before in
      let opened : Loading = with_open l (mapping_node h [] style h.end_mark) (open_mapping (length l.document.nodes) [] None) (table within) in
      let close : List Event = spanning event.mapping_end at.start_mark at.end_mark ∷ rest in
      ap (λ (ks : Anchors). load (pair_events pairs close) (with_open l (mapping_node h [] style h.end_mark) (open_mapping (length l.document.nodes) [] None) ks)) (named_table h.anchor (next l) before)
      ∙ loads_pairs pairs close opened within
      ∙ ap (λ (k : ℕ). behind (number_pairs pairs k within) (λ r. load close (add_pairs opened r.number r.nodes r.before))) (length_push l.document.nodes (mapping_node h [] style h.end_mark))
      ∙ behind_same (number_pairs pairs (suc (length l.document.nodes)) within) _ _ (λ r. ap (λ (m : Loading). load rest m) (closes_holder l (mapping_node h [] style h.end_mark) (mapping_node h r.number style at.end_mark) (open_mapping (length l.document.nodes) r.number None) _ at.end_mark r.nodes r.before (attached_pairs r.number [] (length l.document.nodes) (attach (next l) l.levels)) refl refl))
      ∙ sym (behind_then (number_pairs pairs (suc (length l.document.nodes)) within) _ _)

  pub loads_items : (cs : Contents) (rest : List Event) (l : Loading) (before : Anchored)
      → load (item_events cs rest) (behind_nodes l before)
      ≡ behind (number_items cs (length l.document.nodes) before)
      (λ r. load rest (add l r.number r.nodes r.before))
  loads_items no_items rest l before = ap (λ (ns : List Node). load rest (made l.document ns l.levels (table before))) (sym (append-nil l.document.nodes))
  loads_items (item c more) rest l before =
      loads c (item_events more rest) l before
      ∙ behind_same (number c (length l.document.nodes) before) _ _ (λ r.
      loads_items more rest (add l (r.number ∷ []) r.nodes r.before) r.before
      ∙ ap (λ (k : ℕ). behind (number_items more k r.before) (λ s. load rest (add (add l (r.number ∷ []) r.nodes r.before) s.number s.nodes s.before))) (length-append l.document.nodes r.nodes)
      ∙ behind_same (number_items more (length l.document.nodes + length r.nodes) r.before) _ _ (λ s.
      ap (λ (ns : List Node). load rest (made l.document ns (attach_all (r.number ∷ s.number) l.levels) (table s.before))) (append_assoc l.document.nodes r.nodes s.nodes))
      ∙ sym (behind_then (number_items more (length l.document.nodes + length r.nodes) r.before) _ _))
      ∙ sym (behind_then (number c (length l.document.nodes) before) _ _)

  pub loads_pairs : (cs : Pairs) (rest : List Event) (l : Loading) (before : Anchored)
      → load (pair_events cs rest) (behind_nodes l before)
      ≡ behind (number_pairs cs (length l.document.nodes) before)
      (λ r. load rest (add_pairs l r.number r.nodes r.before))
  loads_pairs no_pairs rest l before = ap (λ (ns : List Node). load rest (made l.document ns l.levels (table before))) (sym (append-nil l.document.nodes))
  loads_pairs (pair key value more) rest l before =
      loads key (events value (pair_events more rest)) l before
      ∙ behind_same (number key (length l.document.nodes) before) _ _ (λ r.
      loads value (pair_events more rest) (add l (r.number ∷ []) r.nodes r.before) r.before
      ∙ ap (λ (k : ℕ). behind (number value k r.before) (λ s. load (pair_events more rest) (add (add l (r.number ∷ []) r.nodes r.before) (s.number ∷ []) s.nodes s.before))) (length-append l.document.nodes r.nodes)
      ∙ behind_same (number value (length l.document.nodes + length r.nodes) r.before) _ _ (λ s.
      loads_pairs more rest (add (add l (r.number ∷ []) r.nodes r.before) (s.number ∷ []) s.nodes s.before) s.before
      ∙ ap (λ (k : ℕ). behind (number_pairs more k s.before) (λ t. load rest (add_pairs (add (add l (r.number ∷ []) r.nodes r.before) (s.number ∷ []) s.nodes s.before) t.number t.nodes t.before)))
      (length-append (l.document.nodes ++ r.nodes) s.nodes ∙ ap (λ (k : ℕ). k + length s.nodes) (length-append l.document.nodes r.nodes))
      ∙ behind_same (number_pairs more (length l.document.nodes + length r.nodes + length s.nodes) s.before) _ _ (λ t.
      ap (λ (ns : List Node). load rest (made l.document ns (attach_pairs t.number (attach s.number (attach r.number l.levels))) (table t.before)))
      (append_assoc (l.document.nodes ++ r.nodes) s.nodes t.nodes ∙ append_assoc l.document.nodes r.nodes (s.nodes ++ t.nodes)))
      ∙ sym (behind_then (number_pairs more (length l.document.nodes + length r.nodes + length s.nodes) s.before) _ _))
      ∙ sym (behind_then (number value (length l.document.nodes + length r.nodes) r.before) _ _))
      ∙ sym (behind_then (number key (length l.document.nodes) before) _ _)

-- a document
pub loads_document : (d : DocumentContent) (rest : List Event) (l : Loading)
    → load (document_events d rest) l ≡ behind (document_of d) (λ e. document e rest)
unfolding load
loads_document d rest l =
    loads d.root (spanning (event.document_end d.end_implicit) d.end_at.start_mark d.end_at.end_mark ∷ rest) (started d.version d.directives d.start_implicit d.start_at.start_mark) []
    ∙ sym (behind_then (number d.root 0 []) _ _)
