-- Keys that are met one after another, and the repeated ones reported.
use Rattle.std.proofs.Common.{◌≡◌, ℕ, zero, suc, ◌+◌, ◌<◌, ◌≤◌, ℤ, pos, negsuc, Bool, true, false, cond, List, [], ◌∷◌, ◌++◌, length, get_or, take, drop, Option, Some, None, Ok, refl, sym, subst, ◌∙◌, ap, inl, inr, arith, append_assoc, append-nil, add-one}
use Rattle.std.specs.Prelude.{◌↔◌, ◌==◌, ◌≤ℤ◌, slice_get, option_map}
use Rattle.std.specs.FinMap as map
use Rattle.std.specs.FinMap.{get-empty}
use Rattle.std.specs.Ordering.{nat_cmp}
use Rattle.std.specs.Cmp.{eq_by_cmp_equiv}
use Rattle.std.specs.Cmp.Lexicographic.{slice_cmp, nat_list_cmp_total}
use Rattle.std.proofs.lemmas.Bool.{cases_eq, eqb-true, eq-eqb, ne_eqb}
use Rattle.std.proofs.lemmas.Int.{ints}
use Rattle.std.proofs.lemmas.List.{get_or_default}
use Rattle.std.proofs.lemmas.Map.Lookups.{exact_bytes}
use Rattle.yaml_parse_model.specs.declared.yaml_node_pair_t.{yaml_node_pair_t}
use Rattle.yaml_parse_model.specs.Nodes.{Node}
use Rattle.yaml_parse_model.specs.Documents.{IsId, AreIds, ArePairs}
use Rattle.yaml_emit_graph.specs.Graph.{body_at, body_of_id}
use Rattle.yaml_round_documents.specs.declared.ranks.Ranks.{Ranks}
use Rattle.yaml_round_documents.specs.declared.repeated.yaml_same_key_t.{yaml_same_key_t}
use Rattle.yaml_round_documents.specs.Ranks.{IsIn, Tells, natural}
use Rattle.yaml_round_documents.specs.Same.{AreSame}
use Rattle.yaml_round_documents.specs.Shapes.{Shapes}
use Rattle.yaml_round_documents.specs.Matching.{is_equal}
use Rattle.yaml_round_documents.specs.Telling.{AreSameKeys, AreToldBehind, AreToldIn, HasMet, IsFirstSame, TellsKey, TellsKeys, first_with, keys_of, label_by, label_name, met_by, met_with, pair_keys, told_behind, told_of}
use Rattle.yaml_round_documents.specs.Texts.{IfApart, NoneIsTold}
use Rattle.yaml_round_documents.proofs.Holding.{one_number}
use Rattle.yaml_round_documents.proofs.Labels.{tied}
use Rattle.yaml_round_documents.proofs.Placing.{or_else, put_is}

-- ---- the first with a label

-- one more comes last
first_push : (label : ℤ → ℕ) (l : ℕ) (keys : List ℤ) (k : ℤ) → first_with label l (keys ++ k ∷ [])
    ≡ or_else (first_with label l keys) (cond (label k == l) (Some k) None)
first_push label l [] k = refl
first_push label l (x ∷ keys) k =
    elim (label x == l) as (λ b. cond b (Some x) (first_with label l (keys ++ k ∷ []))
    ≡ or_else (cond b (Some x) (first_with label l keys)) (cond (label k == l) (Some k) None)) [
      | true ↦ refl
      | false ↦ first_push label l keys k
    ]

-- names of labels are equal where these are
same_name : (l m : ℕ) → is_equal (label_name l) (label_name m) ≡ (m == l)
same_name l m =
    elim (cases_eq m l) [
      | inl e ↦ ap (λ z. is_equal (label_name l) (label_name z)) e ∙ (eq_by_cmp_equiv nat_list_cmp_total).refl (label_name l) ∙ sym (eq-eqb m l e)
      | inr ne ↦ elim (is_equal (label_name l) (label_name m)) as (λ b. is_equal (label_name l) (label_name m) ≡ b → b ≡ (m == l)) [
        | true ↦ λ e. absurd (ne (let x = exact_bytes (label_name l) (label_name m) (tied _ e) in cc))
        | false ↦ λ e. sym (ne_eqb m l ne)
      ] refl
    ]

natural_is : (k : ℤ) → pos 1 ≤ℤ k → pos (natural k) ≡ k
natural_is (pos n) h = refl
natural_is (negsuc n) h = absurd (omega (arith, ints))

mapped : (o : Option ℕ) (b : Bool) (n : ℕ) → option_map pos (or_else o (cond b (Some n) None))
    ≡ or_else (option_map pos o) (cond b (Some (pos n)) None)
mapped None true n = refl
mapped None false n = refl
mapped (Some m) b n = refl

met_next : (label : ℤ → ℕ) (met : Shapes) (before : List ℤ) (k : ℤ) → HasMet label met before
    → pos 1 ≤ℤ k → HasMet label (met_by met (label k) k) (before ++ k ∷ [])
met_next label met before k h w l =
    ap (option_map pos) (put_is met (label_name (label k)) (label_name l) (natural k))
    ∙ mapped (map.get met (label_name l)) (is_equal (label_name l) (label_name (label k))) (natural k)
    ∙ (λ i. or_else (h l i) (cond (same_name l (label k) i) (Some (natural_is k w i)) None))
    ∙ sym (first_push label l before k)

-- ---- the keys of a mapping

-- the first keys are met, and the repeated ones reported
pub record SoFar (nodes : List Node) (label : ℤ → ℕ) (ps : List yaml_node_pair_t)
    (start : List yaml_same_key_t) (i : ℕ) (table : Shapes) (now : List yaml_same_key_t) : Type 0
  where
    pub told : now ++ told_behind label nodes (pair_keys (take i ps)) (pair_keys
        (drop i ps)) ≡ start ++ told_behind label nodes [] (pair_keys ps)
    pub met : HasMet label table (pair_keys (take i ps))

pub so_far_none : (nodes : List Node) (label : ℤ → ℕ) (ps : List yaml_node_pair_t)
    (start : List yaml_same_key_t) (table : Shapes) → table ≡ map.empty
    → SoFar nodes label ps start 0 table start
so_far_none nodes label ps start table e = record {
  told = refl;
  met = λ l. ap (λ m. met_with m l) e ∙ ap (option_map pos) (get-empty (slice_cmp nat_cmp) (label_name l));
}

pub keys_taken : (ps : List yaml_node_pair_t) (i : ℕ) (p : yaml_node_pair_t) → i < length ps
    → p ≡ get_or ps i p → pair_keys (take (suc i) ps) ≡ pair_keys (take i ps) ++ p.key ∷ []
keys_taken [] i p w e = absurd (omega arith)
keys_taken (q ∷ ps) zero p w e = ap (λ (z : yaml_node_pair_t). z.key ∷ []) (sym e)
keys_taken (q ∷ ps) (suc i) p w e = ap (λ z. q.key ∷ z) (keys_taken ps i p (omega arith) e)

pub keys_left : (ps : List yaml_node_pair_t) (i : ℕ) (p : yaml_node_pair_t) → i < length ps
    → p ≡ get_or ps i p → pair_keys (drop i ps) ≡ p.key ∷ pair_keys (drop (suc i) ps)
keys_left [] i p w e = absurd (omega arith)
keys_left (q ∷ ps) zero p w e = ap (λ (z : yaml_node_pair_t). z.key ∷ pair_keys ps) (sym e)
keys_left (q ∷ ps) (suc i) p w e = keys_left ps i p (omega arith) e

pub key_here : (ps : List yaml_node_pair_t) (i : ℕ) (d : yaml_node_pair_t) → i < length ps
    → pair_keys (drop i ps) ≡ (get_or ps i d).key ∷ pair_keys (drop (suc i) ps)
key_here ps i d w = keys_left ps i (get_or ps i d) w (get_or_default ps i d (get_or ps i d) w)

told_next : (nodes : List Node) (label : ℤ → ℕ) (now : List yaml_same_key_t)
    (before rest : List ℤ) (k : ℤ) (o : Option ℤ)
    → o ≡ first_with label (label k) before
    → (now ++ told_of nodes k o) ++ told_behind label nodes
    (before ++ k ∷ []) rest ≡ now ++ told_behind label nodes before (k ∷ rest)
told_next nodes label now before rest k o e =
    append_assoc now (told_of nodes k o) (told_behind label nodes (before ++ k ∷ []) rest)
    ∙ ap (λ z. now ++ (told_of nodes k z ++ told_behind label nodes (before ++ k ∷ []) rest)) e

so_far_suc : (nodes : List Node) (label : ℤ → ℕ) (ps : List yaml_node_pair_t)
    (start : List yaml_same_key_t) (i : ℕ) (p : yaml_node_pair_t) (table new : Shapes)
    (now more : List yaml_same_key_t) → SoFar nodes label ps start i table now → i < length ps
    → p ≡ get_or ps i p → pos 1 ≤ℤ p.key → TellsKey nodes (label p.key) p.key table new now more
    → SoFar nodes label ps start (suc i) new more
so_far_suc nodes label ps start i p table new now more h w e l t =
    let before = pair_keys (take i ps) in
    let rest = pair_keys (drop (suc i) ps) in
    record {
      told = ap (λ z. z ++ told_behind label nodes (pair_keys (take (suc i) ps)) rest) t.told
          ∙ ap (λ z. (now ++ told_of nodes p.key (met_with table (label p.key))) ++ told_behind label nodes z rest) (keys_taken ps i p w e)
          ∙ told_next nodes label now before rest p.key _ (h.met (label p.key))
          ∙ ap (λ z. now ++ told_behind label nodes before z) (sym (keys_left ps i p w e))
          ∙ h.told;
      met = subst (HasMet label new) (sym (keys_taken ps i p w e))
          (subst (λ s. HasMet label s (before ++ p.key ∷ [])) (sym t.met) (met_next label table before p.key h.met l));
    }

pub so_far_next : (nodes : List Node) (label : ℤ → ℕ) (ps : List yaml_node_pair_t)
    (start : List yaml_same_key_t) (i : ℕ) (d : yaml_node_pair_t) (table new : Shapes)
    (now more : List yaml_same_key_t) → SoFar nodes label ps start i table now → i < length ps
    → IsId (length nodes) (get_or ps i d).key
    → TellsKey nodes (label (get_or ps i d).key) (get_or ps i d).key table new now more
    → SoFar nodes label ps start (i + 1) new more
so_far_next nodes label ps start i d table new now more h w l t =
    rw add-one (so_far_suc nodes label ps start i (get_or ps i d) table new now more h w (get_or_default ps i d (get_or ps i d) w) (one_number (length nodes) _ l) t)

pub keys_all : (ps : List yaml_node_pair_t) (n : ℕ) → length ps ≤ n → (pair_keys (drop n ps) ≡ []) ×
    (pair_keys (take n ps) ≡ pair_keys ps)
keys_all [] zero h = (refl, refl)
keys_all [] (suc n) h = (refl, refl)
keys_all (p ∷ ps) zero h = absurd (omega arith)
keys_all (p ∷ ps) (suc n) h = let r = keys_all ps n (omega arith) in (r.0, ap (λ z. p.key ∷ z) r.1)

keys_ids : (count : ℕ) (ps : List yaml_node_pair_t) → ArePairs count ps
    → AreIds count (pair_keys ps)
keys_ids count [] h = tt
keys_ids count (p ∷ ps) h = (h.0.0, keys_ids count ps h.1)

pub pair_id : (count : ℕ) (ps : List yaml_node_pair_t) (i : ℕ) (d : yaml_node_pair_t)
    → ArePairs count ps → i < length ps
    → IsId count (get_or ps i d).key
pair_id count [] i d h w = absurd (omega arith)
pair_id count (q ∷ ps) zero d h w = h.0.0
pair_id count (q ∷ ps) (suc i) d h w = pair_id count ps i d h.1 (omega arith)

-- ---- one label and the same key

-- of keys
abbrev TellsBy : List Node → (ℤ → ℕ) → (ℤ → Type 0) → Type 0
TellsBy nodes label K = (a b : ℤ) → K a → K b → (label a ≡ label b) ↔ AreSame nodes a b

-- each is one
abbrev Each : (ℤ → Type 0) → List ℤ → Type 0
Each K [] = Unit {0}
Each K (x ∷ xs) = K x × Each K xs

-- a node's number, that of one of these keys
abbrev IsKey : ℕ → List ℤ → ℤ → Type 0
IsKey count ids a = IsId count a × IsIn a ids

each_key : (count : ℕ) (ids keys : List ℤ) → AreIds count keys
    → ((a : ℤ) → IsIn a keys → IsIn a ids) → Each (IsKey count ids) keys
each_key count ids [] h k = tt
each_key count ids (x ∷ keys) h k = ((h.0, k x (inl refl)), each_key count ids keys h.1 (λ a i. k a (inr i)))

-- ---- the first key that is the same

first_same : (nodes : List Node) (label : ℤ → ℕ) (K : ℤ → Type 0) (key : ℤ) (before : List ℤ)
    → TellsBy nodes label K → K key → Each K before
    → IsFirstSame nodes key before (first_with label (label key) before)
first_same nodes label K key [] h i j = refl
first_same nodes label K key (f ∷ before) h i j =
    elim (label f == label key) as (λ b. (label f == label key) ≡ b
    → IsFirstSame nodes key (f ∷ before) (cond b (Some f) (first_with label (label key) before))) [
      | true ↦ λ t. inl ((h f key j.0 i).0 (eqb-true _ _ t), refl)
      | false ↦ λ t. inr (λ s. absurd (let y = eq-eqb _ _ ((h f key j.0 i).1 s) in cc), first_same nodes label K key before h i j.1)
    ] refl

each_more : (K : ℤ → Type 0) (before : List ℤ) (key : ℤ) → Each K before → K key
    → Each K (before ++ key ∷ [])
each_more K [] key h k = (k, tt)
each_more K (f ∷ before) key h k = (h.0, each_more K before key h.1 k)

behind_told : (nodes : List Node) (label : ℤ → ℕ) (K : ℤ → Type 0) (before keys : List ℤ)
    → TellsBy nodes label K → Each K before → Each K keys
    → AreToldBehind nodes before keys (told_behind label nodes before keys)
behind_told nodes label K before [] h i j = refl
behind_told nodes label K before (key ∷ keys) h i j = (
  first_with label (label key) before,
  told_behind label nodes (before ++ key ∷ []) keys,
  refl,
  first_same nodes label K key before h j.0 i,
  behind_told nodes label K (before ++ key ∷ []) keys h (each_more K before key i j.0) j.1,
)

pub so_far_all : (nodes : List Node) (r : Ranks) (ps : List yaml_node_pair_t)
    (start : List yaml_same_key_t) (n : ℕ) (table : Shapes) (now : List yaml_same_key_t)
    → SoFar nodes (label_by r) ps start n table now → length ps ≤ n → ArePairs (length nodes) ps
    → Tells (pair_keys ps) nodes r → TellsKeys nodes (pair_keys ps) start now
so_far_all nodes r ps start n table now h w a t =
    let label = label_by r in
    let keys = pair_keys ps in
    let all = keys_all ps n w in
    let each = each_key (length nodes) keys keys (keys_ids (length nodes) ps a) (λ b i. i) in (
      told_behind label nodes [] keys,
      sym (append-nil now) ∙ ap (λ z. now ++ told_behind label nodes (pair_keys (take n ps)) z) (sym all.0) ∙ h.told,
      behind_told nodes label (IsKey (length nodes) keys) [] keys (λ b c k l. t b c k.0 l.0 k.1 l.1) tt each,
    )

-- nothing is reported
pub no_keys : (nodes : List Node) (told : List yaml_same_key_t) → TellsKeys nodes [] told told
no_keys nodes told = ([], sym (append-nil told), refl)

pub none_told : (nodes : List Node) (keys : List ℤ) (told : List yaml_same_key_t) (b : Bool)
    → IfApart (NoneIsTold nodes keys) (Ok b) → b ≡ true → TellsKeys nodes keys told told
none_told nodes keys told true h e = ([], sym (append-nil told), h)
none_told nodes keys told false h e = absurd (cc)

-- ---- node by node

pub node_here : (nodes : List Node) (k : ℕ) → k < length nodes
    → (n : Node) × ((drop k nodes ≡ n ∷ drop (suc k) nodes) × (body_at
    (slice_get nodes k) ≡ n.body) × (take (suc k) nodes ≡ take k nodes ++ n ∷ []))
node_here [] k w = absurd (omega arith)
node_here (n ∷ ns) zero w = (n, (refl, refl, refl))
node_here (m ∷ ns) (suc k) w =
    let r = node_here ns k (omega arith) in
    (r.0, (r.1.0, r.1.1, ap (λ z. m ∷ z) r.1.2))

pub none_from : (nodes : List Node) (n : ℕ) → length nodes ≤ n → drop n nodes ≡ []
none_from [] zero h = refl
none_from [] (suc n) h = refl
none_from (x ∷ nodes) zero h = absurd (omega arith)
none_from (x ∷ nodes) (suc n) h = none_from nodes n (omega arith)

-- what is reported of the first nodes, whatever follows
pub record NodesSoFar (nodes : List Node) (i : ℕ) (now : List yaml_same_key_t) : Type 0 where
  pub left : (rest : List yaml_same_key_t) → AreToldIn nodes (drop i nodes) rest
      → AreSameKeys nodes (now ++ rest)

pub nodes_none : (nodes : List Node) (now : List yaml_same_key_t) → now ≡ []
    → NodesSoFar nodes 0 now
nodes_none nodes now e = record { left = λ rest h. subst (λ z. AreSameKeys nodes (z ++ rest)) (sym e) h }

nodes_suc : (nodes : List Node) (i : ℕ) (now more : List yaml_same_key_t)
    → NodesSoFar nodes i now → i < length nodes
    → TellsKeys nodes (keys_of (body_of_id nodes (pos (suc i)))) now more
    → NodesSoFar nodes (suc i) more
nodes_suc nodes i now more h w (told, e, t) =
    let n = node_here nodes i w in
    record {
      left = λ rest k. subst (AreSameKeys nodes) (sym (ap (λ z. z ++ rest) e ∙ append_assoc now told rest))
          (h.left (told ++ rest) (subst (λ z. AreToldIn nodes z (told ++ rest)) (sym n.1.0)
          (told, rest, refl, subst (λ b. AreToldBehind nodes [] (keys_of b) told) n.1.1 t, k)));
    }

pub nodes_next : (nodes : List Node) (i : ℕ) (now more : List yaml_same_key_t)
    → NodesSoFar nodes i now → i < length nodes
    → TellsKeys nodes (keys_of (body_of_id nodes (pos (suc i)))) now more
    → NodesSoFar nodes (i + 1) more
nodes_next nodes i now more h w t = rw add-one (nodes_suc nodes i now more h w t)

pub nodes_all : (nodes : List Node) (n : ℕ) (now : List yaml_same_key_t)
    → NodesSoFar nodes n now → length nodes ≤ n → AreSameKeys nodes now
nodes_all nodes n now h w =
    subst (AreSameKeys nodes) (append-nil now) (h.left [] (subst (λ z. AreToldIn nodes z []) (sym (none_from nodes n w)) refl))
