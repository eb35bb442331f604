-- Ranks: nodes have one exactly where they agree with all that they hold.
use Rattle.std.proofs.Common.{◌≡◌, ℕ, zero, suc, ◌<◌, ◌≤◌, ℤ, pos, negsuc, true, List, [], ◌∷◌, ◌++◌, length, map, get_or, Some, refl, sym, subst, ◌∙◌, ap, inl, inr, arith}
use Rattle.std.specs.Prelude.{◌==◌, ◌&&◌, ◌⊎◌, not, set}
use Rattle.std.proofs.lemmas.Bool.{and_parts, cases_eq}
use Rattle.std.proofs.lemmas.Bool.Decides.{nat_tests}
use Rattle.std.proofs.lemmas.List.{length-append, get_or-set_same, get_or-set_other, length-set}
use Rattle.std.specs.FinMap as map
use Rattle.yaml_parse_model.specs.Nodes.{Node, NodeBody, type_of}
use Rattle.yaml_parse_model.specs.Nodes as node
use Rattle.yaml_parse_model.specs.Documents.{IsId}
use Rattle.yaml_emit_graph.specs.Graph.{child_ids, body_of_id, tag_of_id, number_at}
use Rattle.yaml_round_documents.specs.Same.{text_of, LookAlike, OneByOne, AgreeWithin}
use Rattle.yaml_round_documents.specs.Shapes.{Shapes}
use Rattle.yaml_round_documents.specs.Ranks.{IsIn, kind_of, look, number_from, shape_of, with_held, all_ranked, holds_ranked, AreRanks, IsJudged}

-- ---- shapes

split_at : {A : Type 0} (xs ys us vs : List A) → length xs ≡ length us → xs ++ ys ≡ us ++ vs
    → (xs ≡ us) × (ys ≡ vs)
split_at [] ys [] vs n e = (refl, e)
split_at [] ys (u ∷ us) vs n e = absurd (omega arith)
split_at (x ∷ xs) ys [] vs n e = absurd (omega arith)
split_at (x ∷ xs) ys (u ∷ us) vs n e =
    let t : xs ++ ys ≡ us ++ vs = cc in
    let h : x ≡ u = cc in
    let r = split_at xs ys us vs (omega arith) t in
    (λ i. h i ∷ r.0 i, r.1)

type_from_kind : (b c : NodeBody) → kind_of b ≡ kind_of c → type_of b ≡ type_of c
type_from_kind node.no node.no e = refl
type_from_kind (node.scalar v s) (node.scalar w t) e = refl
type_from_kind (node.sequence v s) (node.sequence w t) e = refl
type_from_kind (node.mapping v s) (node.mapping w t) e = refl
type_from_kind _ _ e = absurd (omega arith)

kind_from_type : (b c : NodeBody) → type_of b ≡ type_of c → kind_of b ≡ kind_of c
kind_from_type node.no node.no e = refl
kind_from_type (node.scalar v s) (node.scalar w t) e = refl
kind_from_type (node.sequence v s) (node.sequence w t) e = refl
kind_from_type (node.mapping v s) (node.mapping w t) e = refl
kind_from_type _ _ e = absurd (cc)

-- what a shape says
record Parts (f g : ℤ → ℕ) (b c : NodeBody) (t u : List ℕ) : Type 0 where
  kind : kind_of b ≡ kind_of c
  text : text_of b ≡ text_of c
  tag : t ≡ u
  held : map f (child_ids b) ≡ map g (child_ids c)

parts : (f g : ℤ → ℕ) (b c : NodeBody) (t u : List ℕ)
    → with_held (look b t) (map f (child_ids b)) ≡ with_held (look c u) (map g (child_ids c))
    → Parts f g b c t u
parts f g b c t u e =
    let k : kind_of b ≡ kind_of c = cc in
    let n : length (text_of b) ≡ length (text_of c) = cc in
    let m : length t ≡ length u = cc in
    let whole : text_of b ++ t ++ map f (child_ids b) ≡ text_of c ++ u ++ map g (child_ids c) = cc in
    let l : length (text_of b ++ t) ≡ length (text_of c ++ u) = simp length-append (omega arith) in
    let one = split_at (text_of b ++ t) (map f (child_ids b)) (text_of c ++ u) (map g (child_ids c)) l whole in
    let two = split_at (text_of b) t (text_of c) u n one.0 in
    record { kind = k; text = two.0; tag = two.1; held = one.1 }

alike : (ranks more : List ℕ) (nodes others : List Node) (a b : ℤ) → IsId (length nodes) a
    → IsId (length others) b → shape_of ranks nodes a ≡ shape_of more others b
    → LookAlike nodes others a b × (map (number_at ranks) (child_ids (body_of_id nodes a)) ≡ map (number_at more) (child_ids (body_of_id others b)))
alike ranks more nodes others a b v w e =
    let p = parts (number_at ranks) (number_at more) (body_of_id nodes a) (body_of_id others b) (tag_of_id nodes a) (tag_of_id others b) e in
    (record { first = v; second = w; kind = type_from_kind _ _ p.kind; tag = p.tag; text = p.text }, p.held)

same_shape : (ranks more : List ℕ) (nodes others : List Node) (a b : ℤ)
    → LookAlike nodes others a b
    → map (number_at ranks) (child_ids (body_of_id nodes a)) ≡ map (number_at more) (child_ids (body_of_id others b))
    → shape_of ranks nodes a ≡ shape_of more others b
same_shape ranks more nodes others a b h e =
    let k : kind_of (body_of_id nodes a) ≡ kind_of (body_of_id others b) = kind_from_type _ _ h.kind in
    λ i. number_from (number_from 0 (h.text i)) (e i) ∷ k i ∷ length (h.text i) ∷ length (h.tag i) ∷ (h.text i ++ h.tag i ++ e i)

-- ---- lists of numbers

positive : (n : ℕ) → not (n == 0) ≡ true → 0 < n
positive zero h = absurd (cc)
positive (suc n) h = omega arith

nonzero : (n : ℕ) → not (suc n == 0) ≡ true
nonzero n = grind (arith, nat_tests)

pub is_positive : (n : ℕ) → 0 < n → not (n == 0) ≡ true
is_positive zero h = absurd (omega arith)
is_positive (suc n) h = nonzero n

head_ranked : (ranks : List ℕ) (a : ℤ) (xs : List ℤ) → all_ranked ranks (a ∷ xs) ≡ true
    → 0 < number_at ranks a
head_ranked ranks a xs h = positive _ (and_parts _ _ h).0

tail_ranked : (ranks : List ℕ) (a : ℤ) (xs : List ℤ) → all_ranked ranks (a ∷ xs) ≡ true
    → all_ranked ranks xs ≡ true
tail_ranked ranks a xs h = (and_parts _ _ h).1

more_ranked : (ranks : List ℕ) (a : ℤ) (xs : List ℤ) → 0 < number_at ranks a
    → all_ranked ranks xs ≡ true → all_ranked ranks (a ∷ xs) ≡ true
more_ranked ranks a xs h t = rw (is_positive _ h, t) refl

none_left : (ranks : List ℕ) → all_ranked ranks [] ≡ true
none_left ranks = refl

ranked_along : (ranks more : List ℕ) (xs bs : List ℤ)
    → map (number_at ranks) xs ≡ map (number_at more) bs → all_ranked ranks xs ≡ all_ranked more bs
ranked_along ranks more [] [] e = refl
ranked_along ranks more [] (b ∷ bs) e = absurd (cc)
ranked_along ranks more (a ∷ xs) [] e = absurd (cc)
ranked_along ranks more (a ∷ xs) (b ∷ bs) e =
    let h : number_at ranks a ≡ number_at more b = cc in
    let t : map (number_at ranks) xs ≡ map (number_at more) bs = cc in
    λ i. not (h i == 0) && ranked_along ranks more xs bs t i

-- ---- one rank, one tree

within_table : (t : List ℕ) (k : ℕ) → 0 < get_or t k 0 → k < length t
within_table [] k p = absurd (omega arith)
within_table (x ∷ t) zero p = omega arith
within_table (x ∷ t) (suc k) p = let h = within_table t k p in omega arith

-- what has a rank is a node
node_by_rank : (t : List ℕ) (count : ℕ) (a : ℤ) → length t ≡ count → 0 < number_at t a
    → IsId count a
node_by_rank t count (pos (suc k)) e p = let h = within_table t k p in omega arith
node_by_rank t count (pos zero) e p = absurd (omega arith)
node_by_rank t count (negsuc k) e p = absurd (omega arith)

agree_along : (ranks more : List ℕ) (own P : ℤ → ℤ → Type 0)
    → ((a b : ℤ) → own a a → 0 < number_at ranks a → number_at ranks a ≡ number_at more b → P a b)
    → (xs bs : List ℤ) → OneByOne own xs xs → all_ranked ranks xs ≡ true
    → map (number_at ranks) xs ≡ map (number_at more) bs → OneByOne P xs bs
agree_along ranks more own P go [] [] h k e = tt
agree_along ranks more own P go [] (b ∷ bs) h k e = absurd (cc)
agree_along ranks more own P go (a ∷ xs) [] h k e = absurd (cc)
agree_along ranks more own P go (a ∷ xs) (b ∷ bs) h k e =
    let n : number_at ranks a ≡ number_at more b = cc in
    let t : map (number_at ranks) xs ≡ map (number_at more) bs = cc in
    (go a b h.0 (head_ranked ranks a xs k) n, agree_along ranks more own P go xs bs h.1 (tail_ranked ranks a xs k) t)

ranks_along : (ranks more : List ℕ) (P : ℤ → ℤ → Type 0)
    → ((a b : ℤ) → P a b → (0 < number_at ranks a) × (number_at ranks a ≡ number_at more b))
    → (xs bs : List ℤ) → OneByOne P xs bs
    → (all_ranked ranks xs ≡ true) × (map (number_at ranks) xs ≡ map (number_at more) bs)
ranks_along ranks more P go [] [] h = (none_left ranks, refl)
ranks_along ranks more P go [] (b ∷ bs) h = absurd h
ranks_along ranks more P go (a ∷ xs) [] h = absurd h
ranks_along ranks more P go (a ∷ xs) (b ∷ bs) h =
    let x = go a b h.0 in
    let y = ranks_along ranks more P go xs bs h.1 in
    (more_ranked ranks a xs x.0 y.0, λ i. x.1 i ∷ y.1 i)

same_along : (ranks more : List ℕ) (P : ℤ → ℤ → Type 0)
    → ((a b : ℤ) → P a b → 0 < number_at ranks a → 0 < number_at more b
    → number_at ranks a ≡ number_at more b)
    → (xs bs : List ℤ) → OneByOne P xs bs → all_ranked ranks xs ≡ true → all_ranked more bs ≡ true
    → map (number_at ranks) xs ≡ map (number_at more) bs
same_along ranks more P go [] [] h k l = refl
same_along ranks more P go [] (b ∷ bs) h k l = absurd h
same_along ranks more P go (a ∷ xs) [] h k l = absurd h
same_along ranks more P go (a ∷ xs) (b ∷ bs) h k l =
    let x = go a b h.0 (head_ranked ranks a xs k) (head_ranked more b bs l) in
    let y = same_along ranks more P go xs bs h.1 (tail_ranked ranks a xs k) (tail_ranked more b bs l) in
    λ i. x i ∷ y i

-- these have ranks
pub in_ranked : (ranks : List ℕ) (ids : List ℤ) (a : ℤ) → all_ranked ranks ids ≡ true → IsIn a ids
    → 0 < number_at ranks a
in_ranked ranks [] a h i = absurd i
in_ranked ranks (x ∷ ids) a h i = elim i [
  | inl e ↦ subst (λ z. 0 < number_at ranks z) (sym e) (head_ranked ranks x ids h)
  | inr k ↦ in_ranked ranks ids a (tail_ranked ranks x ids h) k
]

-- nodes of two lists, by ranks of shapes that they share
module _ (nodes others : List Node) (table more : List ℕ) (shapes : Shapes) (given last : ℕ)
    (r : AreRanks nodes table shapes given) (o : AreRanks others more shapes last) where
  -- nodes with one rank agree
  pub agree : (n : ℕ) (a b : ℤ) → AgreeWithin n nodes nodes a a → 0 < number_at table a
      → number_at table a ≡ number_at more b → AgreeWithin n nodes others a b
  unfolding AgreeWithin
  agree zero a b h p e = h
  agree (suc n) a b h p e =
      let q : 0 < number_at more b = subst (λ z. 0 < z) e p in
      let s : shape_of table nodes a ≡ shape_of more others b = r.told _ _ (number_at table a) (r.found a p) (o.found b q ∙ ap Some (sym e)) in
      let l = alike table more nodes others a b h.0.first (node_by_rank more (length others) b o.sized q) s in
      (l.0, agree_along table more (AgreeWithin n nodes nodes) (AgreeWithin n nodes others) (λ x y. agree n x y) (child_ids (body_of_id nodes a)) (child_ids (body_of_id others b)) h.1 (r.held a p) l.1)

  -- nodes that agree and have ranks have one
  pub same_rank : (n : ℕ) (a b : ℤ) → AgreeWithin n nodes others a b → 0 < number_at table a
      → 0 < number_at more b → number_at table a ≡ number_at more b
  unfolding AgreeWithin
  same_rank zero a b h p q = absurd h
  same_rank (suc n) a b h p q =
      let l = same_along table more (AgreeWithin n nodes others) (λ x y. same_rank n x y) (child_ids (body_of_id nodes a)) (child_ids (body_of_id others b)) h.1 (r.held a p) (o.held b q) in
      let s : shape_of table nodes a ≡ shape_of more others b = same_shape table more nodes others a b h.0 l in
      let e : Some (number_at table a) ≡ Some (number_at more b) = sym (r.found a p) ∙ ap (map.get shapes) s ∙ o.found b q in
      cc

  -- nodes that agree have one rank
  pub one_rank : ((a : ℤ) → IsId (length nodes) a → IsJudged nodes table a)
      → ((b : ℤ) → IsId (length others) b → IsJudged others more b) → (n : ℕ) (a b : ℤ)
      → AgreeWithin n nodes others a b
      → (0 < number_at table a) × (number_at table a ≡ number_at more b)
  unfolding AgreeWithin
  one_rank judged known zero a b h = absurd h
  one_rank judged known (suc n) a b h =
      let l = ranks_along table more (AgreeWithin n nodes others) (λ x y. one_rank judged known n x y) (child_ids (body_of_id nodes a)) (child_ids (body_of_id others b)) h.1 in
      let p : 0 < number_at table a = judged a h.0.first l.0 in
      let q : 0 < number_at more b = known b h.0.second (sym (ranked_along table more _ _ l.1) ∙ l.0) in
      let s : shape_of table nodes a ≡ shape_of more others b = same_shape table more nodes others a b h.0 l.1 in
      let e : Some (number_at table a) ≡ Some (number_at more b) = sym (r.found a p) ∙ ap (map.get shapes) s ∙ o.found b q in
      (p, cc)

-- ---- one node more gets a rank

-- it is that node, or its rank stays
set_cases : (t : List ℕ) (k n : ℕ) (j : ℤ) → k < length t
    → ((j ≡ pos (suc k)) × (number_at (set t k n) j ≡ n)) ⊎ (number_at (set t k n) j ≡ number_at t j)
set_cases t k n (pos zero) h = inr refl
set_cases t k n (negsuc m) h = inr refl
set_cases t k n (pos (suc m)) h =
    elim (cases_eq m k) as (λ _. ((pos (suc m) ≡ pos (suc k)) × (number_at (set t k n) (pos (suc m)) ≡ n)) ⊎ (number_at (set t k n) (pos (suc m)) ≡ number_at t (pos (suc m)))) [
      | inl e ↦ inl (ap (λ z. pos (suc z)) e, ap (λ z. get_or (set t k n) z 0) e ∙ get_or-set_same t k n 0 h)
      | inr ne ↦ inr (get_or-set_other t k m n 0 ne)
    ]

-- what has a rank keeps it
kept : (t : List ℕ) (k n : ℕ) (j : ℤ) → k < length t → number_at t (pos (suc k)) ≡ 0
    → 0 < number_at t j → number_at (set t k n) j ≡ number_at t j
kept t k n j h z p =
    elim (set_cases t k n j h) [
      | inl e ↦ absurd (omega (arith, ap (number_at t) e.0))
      | inr e ↦ e
    ]

kept_all : (t : List ℕ) (k n : ℕ) (js : List ℤ) → k < length t → number_at t (pos (suc k)) ≡ 0
    → all_ranked t js ≡ true → map (number_at (set t k n)) js ≡ map (number_at t) js
kept_all t k n [] h z p = refl
kept_all t k n (j ∷ js) h z p =
    let e = kept t k n j h z (head_ranked t j js p) in
    let f = kept_all t k n js h z (tail_ranked t j js p) in
    λ i. e i ∷ f i

ranked_by : (t u : List ℕ) (js : List ℤ) → map (number_at t) js ≡ map (number_at u) js
    → all_ranked t js ≡ all_ranked u js
ranked_by t u [] e = refl
ranked_by t u (j ∷ js) e =
    let h : number_at t j ≡ number_at u j = cc in
    let m : map (number_at t) js ≡ map (number_at u) js = cc in
    λ i. not (h i == 0) && ranked_by t u js m i

shape_by : (t u : List ℕ) (nodes : List Node) (a : ℤ)
    → map (number_at t) (child_ids (body_of_id nodes a)) ≡ map (number_at u) (child_ids (body_of_id nodes a))
    → shape_of t nodes a ≡ shape_of u nodes a
shape_by t u nodes a e = ap (with_held (look (body_of_id nodes a) (tag_of_id nodes a))) e

one_by_one : (P Q : ℤ → ℤ → Type 0) → ((a b : ℤ) → P a b → Q a b) → (xs bs : List ℤ)
    → OneByOne P xs bs → OneByOne Q xs bs
one_by_one P Q go [] [] h = tt
one_by_one P Q go [] (b ∷ bs) h = absurd h
one_by_one P Q go (a ∷ xs) [] h = absurd h
one_by_one P Q go (a ∷ xs) (b ∷ bs) h = (go a b h.0, one_by_one P Q go xs bs h.1)

deeper : (nodes : List Node) (n : ℕ) (a b : ℤ) → AgreeWithin n nodes nodes a b
    → AgreeWithin (suc n) nodes nodes a b
unfolding AgreeWithin
deeper nodes zero a b h = absurd h
deeper nodes (suc n) a b h = (h.0, one_by_one (AgreeWithin n nodes nodes) (AgreeWithin (suc n) nodes nodes) (deeper nodes n) _ _ h.1)

all_ground : (nodes : List Node) (t : List ℕ) (n : ℕ)
    → ((a : ℤ) → 0 < number_at t a → AgreeWithin n nodes nodes a a) → (js : List ℤ)
    → all_ranked t js ≡ true → OneByOne (AgreeWithin n nodes nodes) js js
all_ground nodes t n go [] p = tt
all_ground nodes t n go (j ∷ js) p = (go j (head_ranked t j js p), all_ground nodes t n go js (tail_ranked t j js p))

alike_itself : (nodes : List Node) (a : ℤ) → IsId (length nodes) a → LookAlike nodes nodes a a
alike_itself nodes a v = record { first = v; second = v; kind = refl; tag = refl; text = refl }

-- a node gets the rank of its shape
pub record Gets (nodes : List Node) (t : List ℕ) (old new : Shapes) (k n given : ℕ) : Type 0 where
  pub within : k < length t
  pub none : number_at t (pos (suc k)) ≡ 0
  pub held : holds_ranked t nodes (pos (suc k)) ≡ true
  pub keeps : (x : List ℕ) (m : ℕ) → map.get old x ≡ Some m → map.get new x ≡ Some m
  pub rank : map.get new (shape_of t nodes (pos (suc k))) ≡ Some n
  pub told : (x y : List ℕ) (m : ℕ) → map.get new x ≡ Some m → map.get new y ≡ Some m → x ≡ y
  pub below : (x : List ℕ) (m : ℕ) → map.get new x ≡ Some m → (0 < m) × (m ≤ given)

-- its rank is that of a shape in which all have ranks, or it stays
record OfNew (nodes : List Node) (t : List ℕ) (new : Shapes) (k n depth : ℕ) (a : ℤ) : Type 0 where
  held : all_ranked t (child_ids (body_of_id nodes a)) ≡ true
  ground : AgreeWithin (suc depth) nodes nodes a a
  found : map.get new (shape_of t nodes a) ≡ Some (number_at (set t k n) a)

of_new : (nodes : List Node) (t : List ℕ) (old new : Shapes) (k n given more : ℕ)
    → (r : AreRanks nodes t old given) → Gets nodes t old new k n more → (a : ℤ)
    → 0 < number_at (set t k n) a → OfNew nodes t new k n r.depth a
unfolding AgreeWithin
of_new nodes t old new k n given more r g a p =
    elim (set_cases t k n a g.within) [
      | inl e ↦ let id : ℤ = pos (suc k) in
          let v : IsId (length nodes) id = let w = g.within in let z = r.sized in omega arith in
          subst (OfNew nodes t new k n r.depth) (sym e.0) (record {
            held = g.held;
            ground = (alike_itself nodes id v, all_ground nodes t r.depth r.ground (child_ids (body_of_id nodes id)) g.held);
            found = g.rank ∙ ap Some (sym e.1 ∙ ap (number_at (set t k n)) e.0);
          })
      | inr e ↦ let q : 0 < number_at t a = subst (λ z. 0 < z) e p in record {
        held = r.held a q;
        ground = deeper nodes r.depth a a (r.ground a q);
        found = g.keeps _ _ (r.found a q) ∙ ap Some (sym e);
      }
    ]

pub ranks_more : (nodes : List Node) (t : List ℕ) (old new : Shapes) (k n given more : ℕ)
    → AreRanks nodes t old given → Gets nodes t old new k n more
    → AreRanks nodes (set t k n) new more
ranks_more nodes t old new k n given more r g =
    let o = of_new nodes t old new k n given more r g in
    let same = λ (a : ℤ) (p : 0 < number_at (set t k n) a). kept_all t k n (child_ids (body_of_id nodes a)) g.within g.none (o a p).held in
    record {
      depth = suc r.depth;
      sized = length-set t k n ∙ r.sized;
      ground = λ a p. (o a p).ground;
      held = λ a p. ranked_by (set t k n) t _ (same a p) ∙ (o a p).held;
      found = λ a p. ap (map.get new) (shape_by (set t k n) t nodes a (same a p)) ∙ (o a p).found;
      told = g.told;
      below = g.below;
    }
