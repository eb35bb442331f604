-- The pairs that are compared.
use Rattle.std.proofs.Common.{◌≡◌, ℕ, zero, suc, ◌+◌, ◌<◌, ◌≤◌, ℤ, pos, negsuc, List, [], ◌∷◌, ◌++◌, length, get_or, drop, Option, Some, None, refl, sym, subst, ◌∙◌, ap, inl, inr, arith, append_assoc, append-nil, add-one}
use Rattle.std.specs.Prelude.{◌⊎◌, ◌≤ℤ◌, slice_get}
use Rattle.std.specs.FinMap as map
use Rattle.std.specs.FinMap.{get-empty}
use Rattle.std.specs.Ordering.{nat_cmp}
use Rattle.std.specs.Cmp.Lexicographic.{slice_cmp}
use Rattle.std.proofs.lemmas.Int.{ints}
use Rattle.std.proofs.lemmas.List.{drop_more, drop_all}
use Rattle.yaml_round_documents.specs.Shapes.{Shapes}
use Rattle.yaml_round_documents.specs.Ranks.{natural}
use Rattle.yaml_round_documents.specs.declared.ranks.BothLabels.{BothLabels}
use Rattle.yaml_round_documents.proofs.Labels.{inserted_cases, inserted_has, inserted_keeps}
use Rattle.yaml_round_documents.specs.declared.walk.yaml_node_match_t.{yaml_node_match_t as Pair}
use Rattle.yaml_round_documents.specs.declared.walk.Walk.{Walk}
use Rattle.yaml_round_documents.specs.Pairs.{IsAmong, IsOneOf, NoneTwice, listed, pair_at, pair_with, pairs_by}
use Rattle.yaml_round_documents.specs.Steps.{AreNumbered, AreNumbers, IsWalk, IsWalkOf, Meets, Pushes, PushesOn, first_of, pair_name, second_of}

-- ---- one of some pairs

pub in_front : (a b : ℤ) (ps qs : List Pair) → IsOneOf a b ps → IsOneOf a b (ps ++ qs)
in_front a b [] qs h = absurd h
in_front a b (p ∷ ps) qs (inl e) = inl e
in_front a b (p ∷ ps) qs (inr h) = inr (in_front a b ps qs h)

pub behind : (a b : ℤ) (ps qs : List Pair) → IsOneOf a b qs → IsOneOf a b (ps ++ qs)
behind a b [] qs h = h
behind a b (p ∷ ps) qs h = inr (behind a b ps qs h)

pub either : (a b : ℤ) (ps qs : List Pair) → IsOneOf a b (ps ++ qs)
    → IsOneOf a b ps ⊎ IsOneOf a b qs
either a b [] qs h = inr h
either a b (p ∷ ps) qs (inl e) = inl (inl e)
either a b (p ∷ ps) qs (inr h) = elim (either a b ps qs h) [ inl k ↦ inl (inr k) | inr k ↦ inr k ]

pub among_front : (p : Pair) (ps qs : List Pair) → IsAmong p ps → IsAmong p (ps ++ qs)
among_front p [] qs h = absurd h
among_front p (q ∷ ps) qs (inl e) = inl e
among_front p (q ∷ ps) qs (inr h) = inr (among_front p ps qs h)

among_behind : (p : Pair) (ps qs : List Pair) → IsAmong p qs → IsAmong p (ps ++ qs)
among_behind p [] qs h = h
among_behind p (q ∷ ps) qs h = inr (among_behind p ps qs h)

pub among_either : (p : Pair) (ps qs : List Pair) → IsAmong p (ps ++ qs)
    → IsAmong p ps ⊎ IsAmong p qs
among_either p [] qs h = inr h
among_either p (q ∷ ps) qs (inl e) = inl (inl e)
among_either p (q ∷ ps) qs (inr h) = elim (among_either p ps qs h) [ inl k ↦ inl (inr k) | inr k ↦ inr k ]

twice_push : (ps : List Pair) (p : Pair) → NoneTwice ps → (IsOneOf p.first p.second ps → ⊥)
    → NoneTwice (ps ++ p ∷ [])
twice_push [] p h n = (λ k. k, tt)
twice_push (q ∷ ps) p h n = (
  λ k. elim (either q.first q.second ps (p ∷ []) k) [
    | inl l ↦ h.0 l
    | inr r ↦ elim r [ inl e ↦ n (inl (sym e.0, sym e.1)) | inr z ↦ z ]
  ],
  twice_push ps p h.1 (λ k. n (inr k)),
)

-- ---- which were met

same_number : (a b : ℤ) → pos 1 ≤ℤ a → pos 1 ≤ℤ b → natural a ≡ natural b → a ≡ b
same_number (pos n) (pos m) v w e = ap pos e
same_number (pos n) (negsuc m) v w e = absurd (omega (arith, ints))
same_number (negsuc n) b v w e = absurd (omega (arith, ints))

pub no_walk : IsWalkOf [] map.empty
no_walk = record {
  met = record {
    holds = λ a b h. absurd h;
    from = λ x v e. let f : None ≡ Some v = sym (get-empty (slice_cmp nat_cmp) x) ∙ e in absurd (cc);
  };
  once = tt;
  ids = λ a b h. absurd h;
}

was_met : (p : Pair) (pairs : List Pair) (met : Shapes) (name : List ℕ) (v : ℕ)
    → IsWalkOf pairs met → pos 1 ≤ℤ p.first → pos 1 ≤ℤ p.second
    → name ≡ pair_name p.first p.second → map.get met name ≡ Some v
    → IsOneOf p.first p.second pairs
was_met p pairs met name v h a b n e =
    let (c, d, one, is) = h.met.from name v e in
    let i = h.ids c d one in
    let both : pair_name p.first p.second ≡ pair_name c d = sym n ∙ is in
    let x : natural p.first ≡ natural c = cc in
    let y : natural p.second ≡ natural d = cc in
    subst (λ z. IsOneOf p.first z pairs) (sym (same_number p.second d b i.1 y))
    (subst (λ z. IsOneOf z d pairs) (sym (same_number p.first c a i.0 x)) one)

pub met_again : (p : Pair) (w : Walk) (name : List ℕ) (v : ℕ) → IsWalk w → pos 1 ≤ℤ p.first
    → pos 1 ≤ℤ p.second → name ≡ pair_name p.first p.second → map.get w.met name ≡ Some v
    → Meets p w w
met_again p w name v h a b n e = (h, inl (refl, was_met p w.pairs.items w.met name v h a b n e))

met_more : (p : Pair) (pairs : List Pair) (met : Shapes) → IsWalkOf pairs met → pos 1 ≤ℤ p.first
    → pos 1 ≤ℤ p.second → map.get met (pair_name p.first p.second) ≡ None
    → IsWalkOf (pairs ++ p ∷ []) (map.insert met (pair_name p.first p.second) 1)
met_more p pairs met h v w none =
    let name = pair_name p.first p.second in
    record {
      met = record {
        holds = λ a b one. elim (either a b pairs (p ∷ []) one) [
          | inl k ↦ inserted_keeps met name 1 none (pair_name a b) 1 (h.met.holds a b k)
          | inr k ↦ elim k [
            | inl e ↦ ap (λ z. map.get (map.insert met name 1) (pair_name z b)) e.0 ∙ ap (λ z. map.get (map.insert met name 1) (pair_name p.first z)) e.1 ∙ inserted_has met name 1
            | inr z ↦ absurd z
          ]
        ];
        from = λ x u e. elim (inserted_cases met name x 1 u e) [
          | inl k ↦ (p.first, p.second, behind p.first p.second pairs (p ∷ []) (inl (refl, refl)), k.0)
          | inr k ↦ let (c, d, one, is) = h.met.from x u k in (c, d, in_front c d pairs (p ∷ []) one, is)
        ];
      };
      once = twice_push pairs p h.once (λ one. absurd (let e : None ≡ Some 1 = sym none ∙ h.met.holds p.first p.second one in cc));
      ids = λ a b one. elim (either a b pairs (p ∷ []) one) [
        | inl k ↦ h.ids a b k
        | inr k ↦ elim k [
          | inl e ↦ (subst (λ z. pos 1 ≤ℤ z) (sym e.0) v, subst (λ z. pos 1 ≤ℤ z) (sym e.1) w)
          | inr z ↦ absurd z
        ]
      ];
    }

-- a pair is put into the walk
pub met_first : (p : Pair) (pairs more : List Pair) (table new : Shapes) (name : List ℕ)
    → IsWalkOf pairs table → pos 1 ≤ℤ p.first → pos 1 ≤ℤ p.second
    → name ≡ pair_name p.first p.second → map.get table name ≡ None
    → new ≡ map.insert table name 1 → more ≡ pairs ++ p ∷ []
    → IsWalkOf more new
    × (((more ≡ pairs) × IsOneOf p.first p.second pairs) ⊎ (more ≡ pairs ++ p ∷ []))
met_first p pairs more table new name h v w n none m e =
    let all = met_more p pairs table h v w (ap (map.get table) (sym n) ∙ none) in
    let met : new ≡ map.insert table (pair_name p.first p.second) 1 = m ∙ ap (λ z. map.insert table z 1) n in
    (subst (λ z. IsWalkOf z new) (sym e) (subst (IsWalkOf (pairs ++ p ∷ [])) (sym met) all), inr e)

-- ---- pairs that differ are pushed

none_pushed : (f g : ℤ → ℕ) (pairs : List Pair) → Pushes f g [] pairs pairs
none_pushed f g pairs = record {
  added = [];
  is = sym (append-nil pairs);
  among = λ p h. absurd h;
  sound = λ a b h. absurd h;
  whole = λ a b h n. absurd h;
}

pub pushes_none : (labels : BothLabels) (w : Walk) → IsWalk w → PushesOn labels [] w w
pushes_none labels w h = (h, none_pushed (first_of labels) (second_of labels) w.pairs.items)

pub pushes_same : (labels : BothLabels) (p : Pair) (w : Walk) → IsWalk w
    → first_of labels p.first ≡ second_of labels p.second → PushesOn labels (p ∷ []) w w
pushes_same labels p w h e = (
  h,
  record {
    added = [];
    is = sym (append-nil w.pairs.items);
    among = λ q k. absurd k;
    sound = λ a b k. absurd k;
    whole = λ a b k n. elim k [
      | inl i ↦ absurd (n (ap (first_of labels) i.0 ∙ e ∙ ap (second_of labels) (sym i.1)))
      | inr z ↦ absurd z
    ];
  },
)

met_pushes : (f g : ℤ → ℕ) (p : Pair) (old new : List Pair) → (f p.first ≡ g p.second → ⊥)
    → ((new ≡ old) × IsOneOf p.first p.second old) ⊎ (new ≡ old ++ p ∷ [])
    → Pushes f g (p ∷ []) old new
met_pushes f g p old new ne (inl k) = record {
  added = [];
  is = k.0 ∙ sym (append-nil old);
  among = λ q h. absurd h;
  sound = λ a b h. absurd h;
  whole = λ a b h n. elim h [
    | inl e ↦ subst (IsOneOf a b) (sym k.0) (subst (λ z. IsOneOf a z old) (sym e.1) (subst (λ z. IsOneOf z p.second old) (sym e.0) k.1))
    | inr z ↦ absurd z
  ];
}
met_pushes f g p old new ne (inr e) = record {
  added = p ∷ [];
  is = e;
  among = λ q h. h;
  sound = λ a b h. elim h [
    | inl i ↦ (inl i, λ s. ne (ap f (sym i.0) ∙ s ∙ ap g i.1))
    | inr z ↦ absurd z
  ];
  whole = λ a b h n. subst (IsOneOf a b) (sym e) (behind a b old (p ∷ []) h);
}

pub pushes_met : (labels : BothLabels) (p : Pair) (old new : Walk) → Meets p old new
    → (first_of labels p.first ≡ second_of labels p.second → ⊥) → PushesOn labels (p ∷ []) old new
pushes_met labels p old new m ne = (m.0, met_pushes (first_of labels) (second_of labels) p old.pairs.items new.pairs.items ne m.1)

both_push : (f g : ℤ → ℕ) (ps qs old now new : List Pair) → Pushes f g ps old now
    → Pushes f g qs now new → Pushes f g (ps ++ qs) old new
both_push f g ps qs old now new h k = record {
  added = h.added ++ k.added;
  is = k.is ∙ ap (λ z. z ++ k.added) h.is ∙ append_assoc old h.added k.added;
  among = λ p one. elim (among_either p h.added k.added one) [
    | inl l ↦ among_front p ps qs (h.among p l)
    | inr r ↦ among_behind p ps qs (k.among p r)
  ];
  sound = λ a b one. elim (either a b h.added k.added one) [
    | inl l ↦ let s = h.sound a b l in (in_front a b ps qs s.0, s.1)
    | inr r ↦ let s = k.sound a b r in (behind a b ps qs s.0, s.1)
  ];
  whole = λ a b one n. elim (either a b ps qs one) [
    | inl l ↦ subst (IsOneOf a b) (sym k.is) (in_front a b now k.added (h.whole a b l n))
    | inr r ↦ k.whole a b r n
  ];
}

-- ---- one after another

got_number : (ids : List ℤ) (at : ℕ) → AreNumbers ids → (a : ℤ) → slice_get ids at ≡ Some a
    → pos 1 ≤ℤ a
got_number [] at h a e = absurd (cc)
got_number (x ∷ ids) zero h a e = let i : x ≡ a = cc in subst (λ z. pos 1 ≤ℤ z) i h.0
got_number (x ∷ ids) (suc at) h a e = got_number ids at h.1 a e

number_here : (ids : List ℤ) (at : ℕ) (d : ℤ) → AreNumbers ids → at < length ids
    → pos 1 ≤ℤ get_or ids at d
number_here [] at d h w = absurd (omega arith)
number_here (x ∷ ids) zero d h w = h.0
number_here (x ∷ ids) (suc at) d h w = number_here ids at d h.1 (omega arith)

one_numbered : (n k : ℕ) (a : ℤ) (others : List ℤ) (o : Option ℕ) → pos 1 ≤ℤ a → AreNumbers others
    → AreNumbered (pair_at n k a others o)
one_numbered n k a others None v h = λ c d i. absurd i
one_numbered n k a others (Some at) v h =
    elim (slice_get others at) as (λ o. slice_get others at ≡ o → AreNumbered (pair_with n k a o)) [
      | None ↦ λ e c d i. absurd i
      | Some b ↦ λ e c d i. elim i [
        | inl s ↦ (subst (λ z. pos 1 ≤ℤ z) (sym s.0) v, subst (λ z. pos 1 ≤ℤ z) (sym s.1) (got_number others at h b e))
        | inr z ↦ absurd z
      ]
    ] refl

pub got : {A : Type 0} (xs : List A) (at : ℕ) (d : A) → at < length xs
    → Some (get_or xs at d) ≡ slice_get xs at
got [] at d w = absurd (omega arith)
got (x ∷ xs) zero d w = refl
got (x ∷ xs) (suc at) d w = got xs at d (omega arith)

pub not_got : {A : Type 0} (xs : List A) (at : ℕ) → length xs ≤ at → None ≡ slice_get xs at
not_got [] at w = refl
not_got (x ∷ xs) zero w = absurd (omega arith)
not_got (x ∷ xs) (suc at) w = not_got xs at (omega arith)

pub partner_got : (n k : ℕ) (a d : ℤ) (others : List ℤ) (at : ℕ) → at < length others
    → record { first = a; second = get_or others at d; holder = n; place = k } ∷ []
    ≡ pair_at n k a others (Some at)
partner_got n k a d others at w = ap (pair_with n k a) (got others at d w)

pub partner_not_got : (n k : ℕ) (a : ℤ) (others : List ℤ) (at : ℕ) → length others ≤ at
    → [] ≡ pair_at n k a others (Some at)
partner_not_got n k a others at w = ap (pair_with n k a) (not_got others at w)

-- the first ones were pushed
pub record PushedTo (labels : BothLabels) (number : ℕ) (own others : List ℤ) (partners : List (Option ℕ))
    (at : ℕ) (old now : Walk) : Type 0 where
  pub front : List Pair
  pub is : front ++ pairs_by number at (drop at own) others (drop at partners)
      ≡ pairs_by number 0 own others partners
  pub pushes : PushesOn labels front old now

pub pushed_none : (labels : BothLabels) (number : ℕ) (own others : List ℤ)
    (partners : List (Option ℕ)) (w : Walk) → IsWalk w
    → PushedTo labels number own others partners 0 w w
pushed_none labels number own others partners w h = record { front = []; is = refl; pushes = pushes_none labels w h }

-- the pair at a place is one of nodes
pub numbered_here : (number : ℕ) (own others : List ℤ) (at : ℕ) (partner : Option ℕ) (o : Option Pair)
    → AreNumbers own → AreNumbers others → at < length own
    → listed o ≡ pair_at number at (get_or own at (pos 0)) others partner → AreNumbered (listed o)
numbered_here number own others at partner o h k w e =
    subst AreNumbered (sym e) (one_numbered number at (get_or own at (pos 0)) others partner (number_here own at (pos 0) h w) k)

pub pushed_next : (labels : BothLabels) (number : ℕ) (own others : List ℤ)
    (partners : List (Option ℕ)) (at : ℕ) (e : Option ℕ) (o : Option Pair) (old now new : Walk)
    → PushedTo labels number own others partners at old now → at < length own
    → length partners ≡ length own
    → listed o ≡ pair_at number at (get_or own at (pos 0)) others (get_or partners at e)
    → PushesOn labels (listed o) now new
    → PushedTo labels number own others partners (at + 1) old new
pushed_next labels number own others partners at e o old now new h w n is k =
    let one = pair_at number at (get_or own at (pos 0)) others (get_or partners at e) in
    let rest = pairs_by number (at + 1) (drop (at + 1) own) others (drop (at + 1) partners) in
    let f = first_of labels in
    let g = second_of labels in
    let push : Pushes f g one now.pairs.items new.pairs.items = subst (λ z. Pushes f g z now.pairs.items new.pairs.items) is k.1 in
    record {
      front = h.front ++ one;
      is = append_assoc h.front one rest
          ∙ ap (λ z. h.front ++ (one ++ pairs_by number z (drop (at + 1) own) others (drop (at + 1) partners))) (add-one at)
          ∙ ap (λ z. h.front ++ pairs_by number at z others (get_or partners at e ∷ drop (at + 1) partners)) (sym (drop_more own at (pos 0) w))
          ∙ ap (λ z. h.front ++ pairs_by number at (drop at own) others z) (sym (drop_more partners at e (omega arith))) ∙ h.is;
      pushes = (k.0, both_push f g h.front one old.pairs.items now.pairs.items new.pairs.items h.pushes.1 push);
    }

pub pushed_all : (labels : BothLabels) (number : ℕ) (own others : List ℤ)
    (partners : List (Option ℕ)) (at : ℕ) (old now : Walk)
    → PushedTo labels number own others partners at old now → length own ≤ at
    → PushesOn labels (pairs_by number 0 own others partners) old now
pushed_all labels number own others partners at old now h w =
    let e : pairs_by number 0 own others partners ≡ h.front = sym h.is ∙ ap (λ z. h.front ++ pairs_by number at z others (drop at partners)) (drop_all at own w) ∙ append-nil h.front in
    (h.pushes.0, subst (λ z. Pushes (first_of labels) (second_of labels) z old.pairs.items now.pairs.items) (sym e) h.pushes.1)
