-- The numbers of loaded content follow the first visits in preorder.
use Rattle.std.proofs.Common.{◌≡◌, ◌≤◌, ◌+◌, ℕ, zero, suc, ℤ, pos, List, [], ◌∷◌, ◌++◌, length, Option, Some, Result, Ok, Err, IfOk, IfSome, refl, ap, sym, ◌∙◌, subst, arith, append_assoc, append-nil, length-append}
use Rattle.std.proofs.lemmas.Bool.{cond_both}
use Rattle.std.specs.Prelude.{slice_get}
use Rattle.yaml_parse_model.specs.scan_types.Faults.{Fault}
use Rattle.yaml_parse_model.specs.Nodes.{Node}
use Rattle.yaml_parse_model.specs.Documents.{Document, IsId}
use Rattle.yaml_parse_model.proofs.Sound.{length_push, wider_id}
use Rattle.yaml_parse_loader.specs.Numbering.{Content, Contents, Pairs, alias, scalar, sequence, mapping, no_items, item, no_pairs, pair, ◌>>=◌, Numbered, Anchored, is_same, last_with, and_node, alias_number, number, number_items, number_pairs, DocumentContent, document_of}
use Rattle.yaml_parse_loader.specs.Order.{VisitsInPreorder, done, again, first, children, pair_numbers, IsInPreorder}

-- what is true of a result, if there is one
abbrev pub Good : {A : Type 0} → Result A Fault → (A → Type 0) → Type 0
Good (Ok x) P = P x
Good (Err e) P = Unit {0}

-- what comes of a good answer, taken by a step that keeps it good
pub good_then : {A B : Type 0} (r : Result A Fault) (f : A → Result B Fault) (P : A → Type 0)
    (Q : B → Type 0) → Good r P → ((x : A) → P x → Good (f x) Q) → Good (r >>= f) Q
good_then r f k w g h = grind arith

-- ---- anchors

-- the numbers name nodes
abbrev AreNodes : ℕ → Anchored → Type 0
AreNodes count [] = Unit {0}
AreNodes count (n ∷ before) = IsId count n.1 × AreNodes count before

wider_nodes : (m n : ℕ) (before : Anchored) → m ≤ n → AreNodes m before → AreNodes n before
wider_nodes m n [] h s = tt
wider_nodes m n (x ∷ before) h s = (wider_id m n x.1 h s.0, wider_nodes m n before h s.1)

last_good : (m : ℕ) (name : List ℕ) (before : Anchored) → AreNodes m before
    → IfSome (last_with name before) (λ i. IsId m i)
last_good m name [] s = tt
last_good m name (n ∷ before) s = cond_both (is_same name n.0) (Some n.1) (last_with name before) (λ o. IfSome o (λ i. IsId m i)) (λ _. s.0) (λ _. last_good m name before s.1)

entry_good : (count : ℕ) (anchor : Option (List ℕ)) (before : Anchored) → AreNodes count before
    → AreNodes (suc count) (and_node anchor (pos (suc count)) before)
entry_good count anchor before s = grind (arith, wider_nodes)

-- ---- visits

node_behind : (before after : List Node) (n : Node)
    → slice_get (before ++ n ∷ after) (length before) ≡ Some n
node_behind [] after n = refl
node_behind (x ∷ before) after n = node_behind before after n

node_at_place : (nodes before after : List Node) (count : ℕ) (n : Node)
    → nodes ≡ before ++ n ∷ after → length before ≡ count → slice_get nodes count ≡ Some n
node_at_place nodes before after count n e l = ap (λ (ns : List Node). slice_get ns count) e ∙ ap (λ (k : ℕ). slice_get (before ++ n ∷ after) k) (sym l) ∙ node_behind before after n

met_again : (nodes : List Node) (seen after : ℕ) (id : ℤ) (ids : List ℤ) → IsId seen id
    → VisitsInPreorder nodes seen ids after → VisitsInPreorder nodes seen (id ∷ ids) after
met_again nodes seen after (pos zero) ids h v = absurd h
met_again nodes seen after (pos (suc k)) ids h v = again seen k after ids (omega arith) v
met_again nodes seen after _ ids h v = absurd h

-- numbered content, wherever its nodes are: its numbers are visited, and then what follows
record Placed {A : Type 0} (numbers : A → List ℤ) (count : ℕ) (r : Numbered A) : Type 0 where
  before : AreNodes (count + length r.nodes) r.before
  visits : (nodes before after : List Node) (mid end : ℕ) (ids : List ℤ)
      → nodes ≡ before ++ (r.nodes ++ after) → length before ≡ count → mid ≡ count + length r.nodes
      → VisitsInPreorder nodes mid ids end
      → VisitsInPreorder nodes count (numbers r.number ++ ids) end

abbrev alone : ℤ → List ℤ
alone id = id ∷ []

abbrev these : List ℤ → List ℤ
these ids = ids

-- what has no number
none_placed : {A : Type 0} (numbers : A → List ℤ) (count : ℕ) (ks : Anchored) (x : A)
    → numbers x ≡ [] → AreNodes count ks
    → Placed numbers count (record { number = x; nodes = []; before = ks })
none_placed numbers count ks x e s = grind arith

alias_good : (o : Option ℤ) (count : ℕ) (before : Anchored) (at : _) → AreNodes count before
    → IfSome o (λ i. IsId count i) → Good (alias_number o at before) (Placed alone count)
alias_good o count before g s h = grind (arith, none_placed, these, met_again)

-- a node, whose children are visited next
opens : {A : Type 0} (numbers : A → List ℤ) (count : ℕ) (n : Node) (r : Numbered A)
    → children n.body ≡ numbers r.number → Placed numbers (suc count) r
    → Placed alone count
    (record { number = pos (suc count); nodes = n ∷ r.nodes; before = r.before })
opens numbers count n r e p = record {
  before = subst (λ (k : ℕ). AreNodes k r.before) (omega arith) p.before;
  visits = λ nodes before after mid end ids split place reach v.
      let inner : VisitsInPreorder nodes (suc count) (children n.body) mid = subst (λ (js : List ℤ). VisitsInPreorder nodes (suc count) js mid) (append-nil (numbers r.number) ∙ sym e)
      (p.visits nodes (before ++ n ∷ []) after mid mid [] (split ∙ sym (append_assoc before (n ∷ []) (r.nodes ++ after))) (length_push before n ∙ ap suc place) (omega (arith, reach)) (done mid)) in
      first count mid end ids n (node_at_place nodes before (r.nodes ++ after) count n split place) inner v;
}

mutual
  unfolding number

  placed : (c : Content) (count : ℕ) (ks : Anchored) → AreNodes count ks
      → Good (number c count ks) (Placed alone count)
  placed (alias name at) count ks s = alias_good (last_with name ks) count ks at.start_mark s (last_good count name ks s)
  placed (scalar h value plain quoted style) count ks s =
      opens these count _ _ refl (none_placed these (suc count) (and_node h.anchor (pos (suc count)) ks) [] refl (entry_good count h.anchor ks s))
  placed (sequence h implicit style items at) count ks s =
      let within : Anchored = and_node h.anchor (pos (suc count)) ks in
      good_then (number_items items (suc count) within) _ _ _ (placed_items items (suc count) within (entry_good count h.anchor ks s)) (λ r p. opens these count _ r refl p)
  placed (mapping h implicit style pairs at) count ks s =
      let within : Anchored = and_node h.anchor (pos (suc count)) ks in
      good_then (number_pairs pairs (suc count) within) _ _ _ (placed_pairs pairs (suc count) within (entry_good count h.anchor ks s)) (λ r p. opens pair_numbers count _ r refl p)

  placed_items : (cs : Contents) (count : ℕ) (ks : Anchored) → AreNodes count ks
      → Good (number_items cs count ks) (Placed these count)
  placed_items no_items count ks s = none_placed these count ks [] refl s
  placed_items (item c more) count ks s =
      good_then (number c count ks) _ _ _ (placed c count ks s) (λ r p.
      good_then (number_items more (count + length r.nodes) r.before) _ _ _ (placed_items more (count + length r.nodes) r.before p.before) (λ t q. record {
        before = subst (λ (k : ℕ). AreNodes k t.before) (omega (arith, length-append r.nodes t.nodes)) q.before;
        visits = λ nodes before after mid end ids split place reach v.
            let apart : nodes ≡ before ++ (r.nodes ++ (t.nodes ++ after)) = split ∙ ap (λ ns. before ++ ns) (append_assoc r.nodes t.nodes after) in
            p.visits nodes before (t.nodes ++ after) (count + length r.nodes) end (t.number ++ ids) apart place refl
            (q.visits nodes (before ++ r.nodes) after mid end ids (apart ∙ sym (append_assoc before r.nodes (t.nodes ++ after)))
            (length-append before r.nodes ∙ ap (λ (k : ℕ). k + length r.nodes) place) (omega (arith, reach, length-append r.nodes t.nodes)) v);
      }))

  placed_pairs : (cs : Pairs) (count : ℕ) (ks : Anchored) → AreNodes count ks
      → Good (number_pairs cs count ks) (Placed pair_numbers count)
  placed_pairs no_pairs count ks s = none_placed pair_numbers count ks [] refl s
  placed_pairs (pair key value more) count ks s =
      good_then (number key count ks) _ _ _ (placed key count ks s) (λ r p.
      good_then (number value (count + length r.nodes) r.before) _ _ _ (placed value (count + length r.nodes) r.before p.before) (λ t q.
      good_then (number_pairs more (count + length r.nodes + length t.nodes) t.before) _ _ _ (placed_pairs more (count + length r.nodes + length t.nodes) t.before q.before) (λ u o. record {
        before = subst (λ (k : ℕ). AreNodes k u.before) (omega (arith, length-append r.nodes (t.nodes ++ u.nodes), length-append t.nodes u.nodes)) o.before;
        visits = λ nodes before after mid end ids split place reach v.
            let apart : nodes ≡ before ++ (r.nodes ++ ((t.nodes ++ u.nodes) ++ after)) = split ∙ ap (λ ns. before ++ ns) (append_assoc r.nodes (t.nodes ++ u.nodes) after) in
            let further : nodes ≡ (before ++ r.nodes) ++ (t.nodes ++ (u.nodes ++ after))
            = apart ∙ sym (append_assoc before r.nodes ((t.nodes ++ u.nodes) ++ after)) ∙ ap (λ ns. (before ++ r.nodes) ++ ns) (append_assoc t.nodes u.nodes after) in
            let second : length (before ++ r.nodes) ≡ count + length r.nodes = length-append before r.nodes ∙ ap (λ (k : ℕ). k + length r.nodes) place in
            p.visits nodes before ((t.nodes ++ u.nodes) ++ after) (count + length r.nodes) end (t.number ∷ (pair_numbers u.number ++ ids)) apart place refl
            (q.visits nodes (before ++ r.nodes) (u.nodes ++ after) (count + length r.nodes + length t.nodes) end (pair_numbers u.number ++ ids) further second refl
            (o.visits nodes ((before ++ r.nodes) ++ t.nodes) after mid end ids (further ∙ sym (append_assoc (before ++ r.nodes) t.nodes (u.nodes ++ after)))
            (length-append (before ++ r.nodes) t.nodes ∙ ap (λ (k : ℕ). k + length t.nodes) second)
            (omega (arith, reach, length-append r.nodes (t.nodes ++ u.nodes), length-append t.nodes u.nodes)) v));
      })))

any_good : {A : Type 0} (r : Result A Fault) → Good r (λ x. Unit {0})
any_good r = grind arith

-- the number of the root of a document that loads
root_number : (c : Content) → Good (number c 0 []) (λ r. r.number ≡ pos 1)
unfolding number
root_number (alias name at) = tt
root_number (scalar h value plain quoted style) = refl
root_number (sequence h implicit style items at) = good_then (number_items items 1 (and_node h.anchor (pos 1) [])) _ (λ r. Unit {0}) _ (any_good _) (λ r b. refl)
root_number (mapping h implicit style pairs at) = good_then (number_pairs pairs 1 (and_node h.anchor (pos 1) [])) _ (λ r. Unit {0}) _ (any_good _) (λ r b. refl)

both_good : {A : Type 0} (r : Result A Fault) (P Q : A → Type 0) → Good r P → Good r Q
    → Good r (λ x. P x × Q x)
both_good r h g p q = grind arith

in_order : (r : Numbered ℤ) → Placed alone 0 r → r.number ≡ pos 1 → IsInPreorder r.nodes
in_order r p e = subst (λ (id : ℤ). VisitsInPreorder r.nodes 0 (id ∷ []) (length r.nodes)) e
    (p.visits r.nodes [] [] (length r.nodes) (length r.nodes) [] (sym (append-nil r.nodes)) refl (omega arith) (done (length r.nodes)))

pub numbered_in_order : (d : DocumentContent) → IfOk (document_of d) (λ e. IsInPreorder e.nodes)
numbered_in_order d = finish (number d.root 0 []) (both_good _ _ _ (placed d.root 0 [] tt) (root_number d.root))
  where
    finish : (r : Result (Numbered ℤ) Fault) → Good r (λ x. Placed alone 0 x × (x.number ≡ pos 1))
        → IfOk (r >>= λ x. Ok (let e : Document = record {
          version = d.version;
          directives = d.directives;
          start_implicit = d.start_implicit;
          end_implicit = d.end_implicit;
          start_mark = d.start_at.start_mark;
          end_mark = d.end_at.end_mark;
          nodes = x.nodes;
        } in e)) (λ e. IsInPreorder e.nodes)
    finish (Ok x) g = in_order x g.0 g.1
    finish (Err e) g = tt
