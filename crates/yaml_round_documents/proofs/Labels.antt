-- Labels: keys have one exactly where they are the same; and a node that gets a rank.
use Rattle.std.proofs.Common.{◌≡◌, ℕ, zero, suc, ◌+◌, ◌<◌, ◌≤◌, ℤ, pos, negsuc, Bool, true, false, true≢false, cond, List, [], ◌∷◌, length, get_or, Some, None, Ok, refl, sym, subst, ◌∙◌, ap, inl, inr, arith}
use Rattle.std.specs.Prelude.{◌==◌, ◌||◌, ◌⊎◌, set, replicate}
use Rattle.std.specs.Ordering.{eq_by_cmp, is_eq, nat_cmp}
use Rattle.std.specs.declared.cmp.Ordering.{Ordering}
use Rattle.std.specs.declared.cmp.Ordering.TheVariants.{Less, Equal, Greater}
use Rattle.std.specs.Cmp.{eq_by_cmp_equiv}
use Rattle.std.specs.Cmp.Lexicographic.{slice_cmp, nat_list_cmp_total}
use Rattle.std.specs.FinMap as map
use Rattle.std.specs.FinMap.{get-insert, get-empty}
use Rattle.std.proofs.lemmas.Bool.{cases_eq}
use Rattle.std.proofs.lemmas.Bool.Decides.{nat_tests}
use Rattle.std.proofs.lemmas.Map.Lookups.{exact_bytes}
use Rattle.yaml_parse_model.specs.Nodes.{Node}
use Rattle.yaml_parse_model.specs.Documents.{IsId}
use Rattle.yaml_emit_graph.specs.Graph.{number_at}
use Rattle.yaml_emit_graph.specs.Numbers.{counted}
use Rattle.yaml_round_documents.specs.Same.{Agree, AreSame}
use Rattle.yaml_round_documents.specs.Shapes.{Shapes}
use Rattle.yaml_round_documents.specs.declared.ranks.Ranks.{Ranks}
use Rattle.yaml_round_documents.specs.Ranks.{all_ranked, shape_of, holds_ranked, AreBothRanked, AreDone, AreRanks, IsRanking, KeepShapes, IsJudged, AreJudgedFrom, Ranked, Tells, TellBoth, IfJudged, natural, label_of}
use Rattle.yaml_round_documents.proofs.Ranking.{Gets, agree, in_ranked, one_rank, ranks_more, same_rank}

-- ---- labels

other : (n : ℕ) → (suc n == 0) ≡ false
other n = grind (arith, nat_tests)

label_cases : (n g m : ℕ) → ((n ≡ 0) × (cond (n == 0) (g + m) n ≡ g + m)) ⊎ ((0 < n) × (cond
    (n == 0) (g + m) n ≡ n))
label_cases zero g m = inl (refl, refl)
label_cases (suc n) g m = inr (omega arith, ap (λ b. cond b (g + m) (suc n)) (other n))

natural_same : (count : ℕ) (a b : ℤ) → IsId count a → IsId count b → natural a ≡ natural b → a ≡ b
natural_same count (pos (suc k)) (pos (suc m)) v w e = ap pos e
natural_same count (pos (suc k)) (pos zero) v w e = absurd w
natural_same count (pos (suc k)) (negsuc m) v w e = absurd w
natural_same count (pos zero) b v w e = absurd v
natural_same count (negsuc k) b v w e = absurd v

natural_positive : (count : ℕ) (a : ℤ) → IsId count a → 0 < natural a
natural_positive count (pos (suc k)) v = omega arith
natural_positive count (pos zero) v = absurd v
natural_positive count (negsuc k) v = absurd v

-- by ranks, with a number after all of them for what has none
module _ (nodes : List Node) (table : List ℕ) (shapes : Shapes) (given floor : ℕ)
    (r : AreRanks nodes table shapes given) (above : given ≤ floor) where
  -- one label, the same
  pub same_by_label : (count : ℕ) (a b : ℤ) → IsId count a → IsId count b
      → label_of table floor a ≡ label_of table floor b → AreSame nodes a b
  same_by_label count a b v w e =
      let p = natural_positive count a v in
      let q = natural_positive count b w in
      elim (label_cases (number_at table a) floor (natural a)) [
        | inl x ↦ elim (label_cases (number_at table b) floor (natural b)) [
          | inl y ↦ inl (natural_same count a b v w (omega arith))
          | inr y ↦ let m = (r.below _ _ (r.found b y.0)).1 in absurd (omega arith)
        ]
        | inr x ↦ elim (label_cases (number_at table b) floor (natural b)) [
          | inl y ↦ let m = (r.below _ _ (r.found a x.0)).1 in absurd (omega arith)
          | inr y ↦ inr (r.depth, agree nodes nodes table table shapes given given r r r.depth a b (r.ground a x.0) x.0 (omega arith))
        ]
      ]

  pub ranked_label : (a : ℤ) → 0 < number_at table a → label_of table floor a ≡ number_at table a
  ranked_label a p =
      elim (label_cases (number_at table a) floor (natural a)) [
        | inl x ↦ absurd (omega arith)
        | inr x ↦ x.1
      ]

  -- the same, one label
  pub label_by_same : ((a : ℤ) → IsId (length nodes) a → IsJudged nodes table a) → (a b : ℤ)
      → AreSame nodes a b → label_of table floor a ≡ label_of table floor b
  label_by_same judged a b h =
      elim h [
        | inl e ↦ ap (label_of table floor) e
        | inr x ↦ let o = one_rank nodes nodes table table shapes given given r r judged judged x.0 a b x.1 in
            let q : 0 < number_at table b = subst (λ z. 0 < z) o.1 o.0 in
            ranked_label a o.0 ∙ o.1 ∙ sym (ranked_label b q)
      ]

  -- the same of nodes that have ranks
  pub label_by_ranks : (a b : ℤ) → 0 < number_at table a → 0 < number_at table b → AreSame nodes a b
      → label_of table floor a ≡ label_of table floor b
  label_by_ranks a b p q h =
      elim h [
        | inl e ↦ ap (label_of table floor) e
        | inr x ↦ ranked_label a p ∙ same_rank nodes nodes table table shapes given given r r x.0 a b x.1 p q ∙ sym (ranked_label b q)
      ]

-- ---- a shape more

-- an order that is a tie
pub tied : (o : Ordering) → is_eq o ≡ true → o ≡ Equal
tied Less e = absurd (cc)
tied Equal e = refl
tied Greater e = absurd (cc)

-- by the test of both
pub inserted_at : (s : Shapes) (x y : List ℕ) (n : ℕ) (b : Bool)
    → eq_by_cmp (slice_cmp nat_cmp) y x ≡ b
    → map.get (map.insert s x n) y ≡ cond b (Some n) (map.get s y)
inserted_at s x y n b e = get-insert nat_list_cmp_total s x n y ∙ ap (λ z. cond z (Some n) (map.get s y)) e

-- what is found is what was put in, or was there
pub inserted_cases : (s : Shapes) (x y : List ℕ) (n m : ℕ) → map.get (map.insert s x n) y ≡ Some m
    → ((y ≡ x) × (m ≡ n)) ⊎ (map.get s y ≡ Some m)
inserted_cases s x y n m h =
    elim (eq_by_cmp (slice_cmp nat_cmp) y x) as (λ b. eq_by_cmp (slice_cmp nat_cmp) y x ≡ b
    → ((y ≡ x) × (m ≡ n)) ⊎ (map.get s y ≡ Some m)) [
      | true ↦ λ e. let is : Some n ≡ Some m = sym (inserted_at s x y n true e) ∙ h in
          inl (exact_bytes y x (tied _ e), cc)
      | false ↦ λ e. inr (sym (inserted_at s x y n false e) ∙ h)
    ] refl

-- another one is found as before
pub inserted_apart : (s : Shapes) (x y : List ℕ) (n : ℕ) → (y ≡ x → ⊥)
    → map.get (map.insert s x n) y ≡ map.get s y
inserted_apart s x y n ne =
    elim (eq_by_cmp (slice_cmp nat_cmp) y x) as (λ b. eq_by_cmp (slice_cmp nat_cmp) y x ≡ b
    → map.get (map.insert s x n) y ≡ map.get s y) [
      | true ↦ λ e. absurd (ne (exact_bytes y x (tied _ e)))
      | false ↦ λ e. inserted_at s x y n false e
    ] refl

-- what was there is found, where there was nothing at the new one
pub inserted_keeps : (s : Shapes) (x : List ℕ) (n : ℕ) → map.get s x ≡ None → (y : List ℕ) (m : ℕ)
    → map.get s y ≡ Some m → map.get (map.insert s x n) y ≡ Some m
inserted_keeps s x n none y m h =
    elim (eq_by_cmp (slice_cmp nat_cmp) y x) as (λ b. eq_by_cmp (slice_cmp nat_cmp) y x ≡ b
    → map.get (map.insert s x n) y ≡ Some m) [
      | true ↦ λ e. let f : None ≡ Some m = sym none ∙ ap (map.get s) (sym (exact_bytes y x (tied _ e))) ∙ h in absurd (cc)
      | false ↦ λ e. inserted_at s x y n false e ∙ h
    ] refl

-- what was put in is found
pub inserted_has : (s : Shapes) (x : List ℕ) (n : ℕ) → map.get (map.insert s x n) x ≡ Some n
inserted_has s x n = inserted_at s x x n true ((eq_by_cmp_equiv nat_list_cmp_total).refl x)

-- ---- a node that gets the rank of its shape

counted_more : (t : List ℕ) (k n : ℕ) → k < length t → get_or t k 0 ≡ 0 → 0 < n
    → counted t < counted (set t k n)
counted_more t k zero h e p = absurd (omega arith)
counted_more [] k (suc n) h e p = absurd (omega arith)
counted_more (zero ∷ t) zero (suc n) h e p = omega arith
counted_more (suc m ∷ t) zero (suc n) h e p = absurd (cc)
counted_more (zero ∷ t) (suc k) (suc n) h e p = counted_more t k (suc n) (omega arith) e p
counted_more (suc m ∷ t) (suc k) (suc n) h e p = let i = counted_more t k (suc n) (omega arith) e p in omega arith

abbrev pub GivesOf : Shapes → ℕ → List ℕ → ℕ → Shapes → ℕ → Type 0
GivesOf old given x n new more =
    ((map.get old x ≡ Some n) × (new ≡ old) × (more ≡ given))
    ⊎ ((map.get old x ≡ None) × (new ≡ map.insert old x n) × (n ≡ suc given) × (more ≡ n))

gets_old : (nodes : List Node) (t : List ℕ) (s : Shapes) (k n given : ℕ) → AreRanks nodes t s given
    → k < length t → get_or t k 0 ≡ 0 → holds_ranked t nodes (pos (suc k)) ≡ true
    → map.get s (shape_of t nodes (pos (suc k))) ≡ Some n → Gets nodes t s s k n given
gets_old nodes t s k n given r w z h e = record {
  within = w;
  none = z;
  held = h;
  keeps = λ x m g. g;
  rank = e;
  told = r.told;
  below = r.below;
}

gets_new : (nodes : List Node) (t : List ℕ) (s : Shapes) (k given : ℕ) → AreRanks nodes t s given
    → k < length t → get_or t k 0 ≡ 0 → holds_ranked t nodes (pos (suc k)) ≡ true
    → map.get s (shape_of t nodes (pos (suc k))) ≡ None
    → Gets nodes t s (map.insert s (shape_of t nodes (pos (suc k))) (suc given)) k (suc given)
    (suc given)
gets_new nodes t s k given r w z h e = record {
  within = w;
  none = z;
  held = h;
  keeps = inserted_keeps s _ _ e;
  rank = inserted_has s _ _;
  told = λ x y m g i. elim (inserted_cases s _ x _ m g) [
    | inl a ↦ elim (inserted_cases s _ y _ m i) [
      | inl b ↦ a.0 ∙ sym b.0
      | inr b ↦ let l = (r.below y m b).1 in absurd (omega arith)
    ]
    | inr a ↦ elim (inserted_cases s _ y _ m i) [
      | inl b ↦ let l = (r.below x m a).1 in absurd (omega arith)
      | inr b ↦ r.told x y m a b
    ]
  ];
  below = λ x m g. elim (inserted_cases s _ x _ m g) [
    | inl a ↦ (omega arith, omega arith)
    | inr a ↦ let l = r.below x m a in (l.0, omega arith)
  ];
}

pub node_ranked : (nodes : List Node) (t u : List ℕ) (old new : Shapes) (k n given more : ℕ)
    (x : List ℕ) → AreRanks nodes t old given → k < length t → get_or t k 0 ≡ 0
    → holds_ranked t nodes (pos (suc k)) ≡ true → x ≡ shape_of t nodes (pos (suc k))
    → GivesOf old given x n new more → u ≡ set t k n
    → AreRanks nodes u new more × (counted t < counted u) × KeepShapes old new
node_ranked nodes t u old new k n given more x r w z h is gives e =
    elim gives [
      | inl a ↦ let f : map.get old (shape_of t nodes (pos (suc k))) ≡ Some n = ap (map.get old) (sym is) ∙ a.0 in
          let all = ranks_more nodes t old old k n given given r (gets_old nodes t old k n given r w z h f) in
          let p : 0 < n = (r.below _ n f).0 in
          rw (e, a.1, a.2) (all, counted_more t k n w z p, record { keep = λ y m g. g })
      | inr a ↦ let f : map.get old (shape_of t nodes (pos (suc k))) ≡ None = ap (map.get old) (sym is) ∙ a.0 in
          let all = ranks_more nodes t old _ k (suc given) given (suc given) r (gets_new nodes t old k given r w z h f) in
          rw (e, a.1, a.3, a.2, is) (all, counted_more t k (suc given) w z (omega arith), record { keep = inserted_keeps old _ _ f })
    ]

-- ---- node by node, from the last

judged_more : (nodes : List Node) (table : List ℕ) (k : ℕ) → AreJudgedFrom (k + 1) nodes table
    → IsJudged nodes table (pos (suc k)) → AreJudgedFrom k nodes table
judged_more nodes table k h j m from within =
    elim (cases_eq m k) [
      | inl e ↦ subst (λ z. IsJudged nodes table (pos (suc z))) (sym e) j
      | inr ne ↦ h m (omega arith) within
    ]

pub shapes_kept : (s : Shapes) → KeepShapes s s
shapes_kept s = record { keep = λ x n e. e }

pub shapes_along : (a b c : Shapes) → KeepShapes a b → KeepShapes b c → KeepShapes a c
shapes_along a b c g h = record { keep = λ x n e. h.keep x n (g.keep x n e) }

pub ranked_more : (nodes : List Node) (k : ℕ) (a b c : Ranks) (any one : Bool)
    → Ranked (AreJudgedFrom (k + 1) nodes) nodes a (Ok any) b
    → Ranked (λ t. IsJudged nodes t (pos (suc k))) nodes b (Ok one) c
    → Ranked (AreJudgedFrom k nodes) nodes a (Ok (one || any)) c
ranked_more nodes k a b c true true g h = (h.0, omega arith, shapes_along _ _ _ g.2 h.2)
ranked_more nodes k a b c true false g h = (h.0, let e = ap counted h.1 in omega arith, shapes_along _ _ _ g.2 h.3)
ranked_more nodes k a b c false true g h = (h.0, let e = ap counted g.1 in omega arith, shapes_along _ _ _ g.3 h.2)
ranked_more nodes k a b c false false g h =
    (h.0, h.1 ∙ g.1, judged_more nodes c.table.items k (subst (AreJudgedFrom (k + 1) nodes) (sym h.1) g.2) h.2, shapes_along _ _ _ g.3 h.3)

pub ranking_of : (P : List ℕ → Type 0) (nodes : List Node) (a b : Ranks) (any : Bool)
    → Ranked P nodes a (Ok any) b → IsRanking nodes b
ranking_of P nodes a b true h = h.0
ranking_of P nodes a b false h = h.0

pub shapes_of : (P : List ℕ → Type 0) (nodes : List Node) (a b : Ranks) (any : Bool)
    → Ranked P nodes a (Ok any) b → KeepShapes a.shapes b.shapes
shapes_of P nodes a b true h = h.2
shapes_of P nodes a b false h = h.3

pub none_ranked : (nodes : List Node) (r : Ranks) (count : ℕ) → length nodes ≤ count
    → IsRanking nodes r
    → Ranked (AreJudgedFrom count nodes) nodes r (Ok false) r
none_ranked nodes r count n h = (h, refl, λ k from within. absurd (omega arith), shapes_kept r.shapes)

pub counted_most : (t : List ℕ) → counted t ≤ length t
counted_most [] = omega arith
counted_most (zero ∷ t) = let e = counted_most t in omega arith
counted_most (suc n ∷ t) = let e = counted_most t in omega arith

-- ---- no ranks

all_one : (n k z : ℕ) → get_or (replicate n z) k z ≡ z
all_one zero k z = refl
all_one (suc n) zero z = refl
all_one (suc n) (suc k) z = all_one n k z

no_number : (n : ℕ) (a : ℤ) → number_at (replicate n 0) a ≡ 0
no_number n (pos zero) = refl
no_number n (pos (suc k)) = all_one n k 0
no_number n (negsuc k) = refl

sized_one : (n z : ℕ) → length (replicate n z) ≡ n
sized_one zero z = refl
sized_one (suc n) z = ap suc (sized_one n z)

-- no node has a rank, and shapes may
pub none_yet : (nodes others : List Node) (t : List ℕ) (shapes : Shapes) (given : ℕ)
    → AreRanks nodes t shapes given → AreRanks others (replicate (length others) 0) shapes given
none_yet nodes others t shapes given r =
    let z = no_number (length others) in
    record {
      depth = 0;
      sized = sized_one (length others) 0;
      ground = λ a p. let e = z a in absurd (omega arith);
      held = λ a p. let e = z a in absurd (omega arith);
      found = λ a p. let e = z a in absurd (omega arith);
      told = r.told;
      below = r.below;
    }

pub no_ranks : (nodes : List Node) → AreRanks nodes (replicate (length nodes) 0) map.empty 0
no_ranks nodes =
    let z = no_number (length nodes) in
    record {
      depth = 0;
      sized = sized_one (length nodes) 0;
      ground = λ a p. let e = z a in absurd (omega arith);
      held = λ a p. let e = z a in absurd (omega arith);
      found = λ a p. let e = z a in absurd (omega arith);
      told = λ x y n g h. let e : None ≡ Some n = sym (get-empty (slice_cmp nat_cmp) x) ∙ g in absurd (cc);
      below = λ x n g. let e : None ≡ Some n = sym (get-empty (slice_cmp nat_cmp) x) ∙ g in absurd (cc);
    }

-- ---- labels that decide

all_judged : (nodes : List Node) (table : List ℕ) → AreJudgedFrom 0 nodes table → (a : ℤ)
    → IsId (length nodes) a → IsJudged nodes table a
all_judged nodes table h (pos (suc k)) v = h k (omega arith) (omega arith)
all_judged nodes table h (pos zero) v = absurd v
all_judged nodes table h (negsuc k) v = absurd v

pub tells : (ids : List ℤ) (nodes : List Node) (r : Ranks) → IsRanking nodes r
    → AreDone ids nodes r.table.items → Tells ids nodes r
tells ids nodes r h done a b v w i j = (
  same_by_label nodes r.table.items r.shapes r.given r.given h (omega arith) (length nodes) a b v w,
  elim done [
    | inl all ↦ label_by_ranks nodes r.table.items r.shapes r.given r.given h (omega arith) a b (in_ranked r.table.items ids a all i) (in_ranked r.table.items ids b all j)
    | inr judged ↦ label_by_same nodes r.table.items r.shapes r.given r.given h (omega arith) (all_judged nodes r.table.items judged) a b
  ],
)

-- the same where these have ranks, or all were judged
pub tells_ranked : (ids : List ℤ) (nodes : List Node) (r : Ranks) (t : List ℕ) (b : Bool)
    → IsRanking nodes r → b ≡ all_ranked t ids → t ≡ r.table.items → b ≡ true → Tells ids nodes r
tells_ranked ids nodes r t b h e same is =
    tells ids nodes r h (inl (ap (λ z. all_ranked z ids) (sym same) ∙ sym e ∙ is))

pub tells_all : (ids : List ℤ) (nodes : List Node) (r : Ranks) → IsRanking nodes r
    → AreJudgedFrom 0 nodes r.table.items → Tells ids nodes r
tells_all ids nodes r h j = tells ids nodes r h (inr j)

pub not_judged : (nodes : List Node) (r : Ranks) (b : Bool) → b ≡ false → IfJudged nodes r b
not_judged nodes r b e h = absurd (true≢false (sym h ∙ e))

natural_most : (count : ℕ) (a : ℤ) → IsId count a → natural a ≤ count
natural_most count (pos (suc k)) v = v
natural_most count (pos zero) v = absurd v
natural_most count (negsuc k) v = absurd v

-- ---- the nodes of two documents

-- ranks hold of shapes that came on
pub ranks_of_more : (nodes : List Node) (t : List ℕ) (old new : Shapes) (given more : ℕ)
    → AreRanks nodes t old given → KeepShapes old new
    → ((x y : List ℕ) (n : ℕ) → map.get new x ≡ Some n → map.get new y ≡ Some n → x ≡ y)
    → ((x : List ℕ) (n : ℕ) → map.get new x ≡ Some n → (0 < n) × (n ≤ more))
    → AreRanks nodes t new more
ranks_of_more nodes t old new given more r keeps told below = record {
  depth = r.depth;
  sized = r.sized;
  ground = r.ground;
  held = r.held;
  found = λ a p. keeps.keep _ _ (r.found a p);
  told = told;
  below = below;
}

module _ (nodes others : List Node) (table more : List ℕ) (shapes : Shapes) (given : ℕ)
    (r : AreRanks nodes table shapes given) (o : AreRanks others more shapes given) where
  abbrev after : ℕ
  after = given + suc (length table)

  agree_by_label : (a b : ℤ) → IsId (length nodes) a → IsId (length others) b
      → label_of table given a ≡ label_of more after b → Agree nodes others a b
  agree_by_label a b v w e =
      let p = natural_positive (length nodes) a v in
      let q = natural_most (length nodes) a v in
      let s = r.sized in
      elim (label_cases (number_at table a) given (natural a)) [
        | inl x ↦ elim (label_cases (number_at more b) after (natural b)) [
          | inl y ↦ absurd (omega arith)
          | inr y ↦ let m = (o.below _ _ (o.found b y.0)).1 in absurd (omega arith)
        ]
        | inr x ↦ elim (label_cases (number_at more b) after (natural b)) [
          | inl y ↦ let m = (r.below _ _ (r.found a x.0)).1 in absurd (omega arith)
          | inr y ↦ (r.depth, agree nodes others table more shapes given given r o r.depth a b (r.ground a x.0) x.0 (omega arith))
        ]
      ]

  pub both_tell : AreJudgedFrom 0 nodes table → AreJudgedFrom 0 others more
      → TellBoth nodes others (label_of table given) (label_of more after)
  both_tell judged known =
      let j = all_judged nodes table judged in
      let k = all_judged others more known in
      record {
        own = λ a b v w. (
          same_by_label nodes table shapes given given r (omega arith) (length nodes) a b v w,
          label_by_same nodes table shapes given given r (omega arith) j a b,
        );
        other = λ a b v w. (
          same_by_label others more shapes given after o (omega arith) (length others) a b v w,
          label_by_same others more shapes given after o (omega arith) k a b,
        );
        across = λ a b v w. (
          agree_by_label a b v w,
          λ x. let n = one_rank nodes others table more shapes given given r o j k x.0 a b x.1 in
              let q : 0 < number_at more b = subst (λ z. 0 < z) n.1 n.0 in
              ranked_label nodes table shapes given given r (omega arith) a n.0 ∙ n.1 ∙ sym (ranked_label others more shapes given after o (omega arith) b q),
        );
      }

-- the shapes go on with the nodes of another document
pub ranking_next : (nodes others : List Node) (r : Ranks) (table : List ℕ) (shapes : Shapes)
    (given : ℕ) → IsRanking nodes r → table ≡ replicate (length others) 0 → shapes ≡ r.shapes
    → given ≡ r.given → AreRanks others table shapes given
ranking_next nodes others r table shapes given h t s g =
    rw (t, s, g) (none_yet nodes others r.table.items r.shapes r.given h)

-- the nodes of two documents, one after the other
pub both_after : (nodes others : List Node) (old new : Ranks) (table : List ℕ) (shapes : Shapes)
    → IsRanking nodes old → AreJudgedFrom 0 nodes old.table.items → table ≡ old.table.items
    → shapes ≡ old.shapes → IsRanking others new → AreJudgedFrom 0 others new.table.items
    → KeepShapes shapes new.shapes → AreBothRanked nodes others table new
both_after nodes others old new table shapes h j t s o k keeps = record {
  first = ranks_of_more nodes table shapes new.shapes old.given new.given (rw (t, s) h) keeps o.told o.below;
  first_judged = rw t j;
  second = o;
  second_judged = k;
}
