-- The list of keys is empty exactly where the keys of each mapping are distinct.
use Rattle.std.proofs.Common.{◌≡◌, ℕ, zero, suc, ◌<◌, ℤ, Bool, true, false, cond, List, [], ◌∷◌, ◌++◌, length, get_or, Option, Some, None, refl, sym, subst, ◌∙◌, ap, inl, inr, arith}
use Rattle.std.specs.Prelude.{◌↔◌, All, AllPairs}
use Rattle.std.proofs.lemmas.List.Elements.{All-nil, All-cons, All-head, All-tail}
use Rattle.yaml_parse_model.specs.Nodes.{Node}
use Rattle.yaml_emit_graph.specs.Graph.{body_of_id}
use Rattle.yaml_round_documents.specs.declared.repeated.yaml_same_key_t.{yaml_same_key_t}
use Rattle.yaml_round_documents.specs.Same.{AreSame}
use Rattle.yaml_round_documents.specs.Telling.{AreSameKeys, AreToldBehind, AreToldIn, HaveDistinctKeys, IsFirstSame, IsOnce, is_plain_merge, keys_of, same_key, told_of}

-- P holds of each
abbrev Each : (ℤ → Type 0) → List ℤ → Type 0
Each P [] = Unit {0}
Each P (x ∷ xs) = P x × Each P xs

-- where the first that is the same is none, none is
none_same : (nodes : List Node) (key : ℤ) (before : List ℤ) → IsFirstSame nodes key before None
    → Each (λ f. IsOnce nodes f key) before
none_same nodes key [] h = tt
none_same nodes key (f ∷ before) h = elim h [
  | inl y ↦ absurd (let e = y.1 in cc)
  | inr n ↦ (λ s. absurd (n.0 s), none_same nodes key before n.1)
]

-- where the key is a merge, it may be
merge_same : (nodes : List Node) (key : ℤ) (before : List ℤ)
    → is_plain_merge (body_of_id nodes key) ≡ true → Each (λ f. IsOnce nodes f key) before
merge_same nodes key [] e = tt
merge_same nodes key (f ∷ before) e = (λ s. e, merge_same nodes key before e)

told_merge : (b : Bool) (k : yaml_same_key_t) → cond b [] (k ∷ []) ≡ [] → b ≡ true
told_merge true k e = refl
told_merge false k e = absurd (cc)

untold : (nodes : List Node) (key : ℤ) (before : List ℤ) (o : Option ℤ)
    → IsFirstSame nodes key before o → told_of nodes key o ≡ []
    → Each (λ f. IsOnce nodes f key) before
untold nodes key before None h e = none_same nodes key before h
untold nodes key before (Some f) h e = merge_same nodes key before (told_merge (is_plain_merge (body_of_id nodes key)) (same_key nodes key f) e)

-- the first that is the same is one of them, and is the same
first_is : (P : ℤ → Type 0) (nodes : List Node) (key f : ℤ) (before : List ℤ)
    → IsFirstSame nodes key before (Some f) → Each P before → P f × AreSame nodes f key
first_is P nodes key f [] h e = absurd (cc)
first_is P nodes key f (x ∷ before) h e = elim h [
  | inl y ↦ let z : f ≡ x = let w = y.1 in cc in subst (λ v. P v × AreSame nodes v key) (sym z) (e.0, y.0)
  | inr n ↦ first_is P nodes key f before n.1 e.1
]

-- a key that is the same as none before it, or a merge, isn't reported
not_told : (nodes : List Node) (key : ℤ) (before : List ℤ) (o : Option ℤ)
    → IsFirstSame nodes key before o → Each (λ f. IsOnce nodes f key) before
    → told_of nodes key o ≡ []
not_told nodes key before None h e = refl
not_told nodes key before (Some f) h e =
    let first = first_is (λ g. IsOnce nodes g key) nodes key f before h e in
    ap (λ b. cond b [] (same_key nodes key f ∷ [])) (first.0 first.1)

-- ---- the keys of a mapping

each_front : (P : ℤ → Type 0) (xs ys : List ℤ) → Each P (xs ++ ys) → Each P xs × Each P ys
each_front P [] ys h = (tt, h)
each_front P (x ∷ xs) ys h = let r = each_front P xs ys h.1 in ((h.0, r.0), r.1)

each_join : (P : ℤ → Type 0) (xs ys : List ℤ) → Each P xs → Each P ys → Each P (xs ++ ys)
each_join P [] ys h k = k
each_join P (x ∷ xs) ys h k = (h.0, each_join P xs ys h.1 k)

each_both : (P Q : ℤ → Type 0) (xs : List ℤ) → Each P xs → Each Q xs → Each (λ x. P x × Q x) xs
each_both P Q [] h k = tt
each_both P Q (x ∷ xs) h k = ((h.0, k.0), each_both P Q xs h.1 k.1)

each_first : (P Q : ℤ → Type 0) (xs : List ℤ) → Each (λ x. P x × Q x) xs → Each P xs
each_first P Q [] h = tt
each_first P Q (x ∷ xs) h = (h.0.0, each_first P Q xs h.1)

each_second : (P Q : ℤ → Type 0) (xs : List ℤ) → Each (λ x. P x × Q x) xs → Each Q xs
each_second P Q [] h = tt
each_second P Q (x ∷ xs) h = (h.0.1, each_second P Q xs h.1)

-- R holds of each and each later one
abbrev Pairs : (ℤ → ℤ → Type 0) → List ℤ → Type 0
Pairs R [] = Unit {0}
Pairs R (x ∷ xs) = Each (R x) xs × Pairs R xs

none_behind : (R : ℤ → ℤ → Type 0) (before : List ℤ) → Each (λ f. Each (R f) []) before
none_behind R [] = tt
none_behind R (f ∷ before) = (tt, none_behind R before)

pub no_front : {A : Type 0} (xs ys : List A) → xs ++ ys ≡ [] → (xs ≡ []) × (ys ≡ [])
no_front [] ys e = (refl, e)
no_front (x ∷ xs) ys e = absurd (cc)

untold_keys : (nodes : List Node) (before keys : List ℤ) (told : List yaml_same_key_t)
    → AreToldBehind nodes before keys told → told ≡ []
    → Each (λ f. Each (IsOnce nodes f) keys) before × Pairs (IsOnce nodes) keys
untold_keys nodes before [] told h e = (none_behind (IsOnce nodes) before, tt)
untold_keys nodes before (key ∷ keys) told (o, others, is, first, left) e =
    let parts = no_front (told_of nodes key o) others (sym is ∙ e) in
    let one = untold nodes key before o first parts.0 in
    let rest = untold_keys nodes (before ++ key ∷ []) keys others left parts.1 in
    let split = each_front (λ f. Each (IsOnce nodes f) keys) before (key ∷ []) rest.0 in
    (each_both (λ f. IsOnce nodes f key) (λ f. Each (IsOnce nodes f) keys) before one split.0, (split.1.0, rest.1))

keys_untold : (nodes : List Node) (before keys : List ℤ) (told : List yaml_same_key_t)
    → AreToldBehind nodes before keys told → Each (λ f. Each (IsOnce nodes f) keys) before
    → Pairs (IsOnce nodes) keys → told ≡ []
keys_untold nodes before [] told h e p = h
keys_untold nodes before (key ∷ keys) told (o, others, is, first, left) e p =
    let here = each_first (λ f. IsOnce nodes f key) (λ f. Each (IsOnce nodes f) keys) before e in
    let later = each_second (λ f. IsOnce nodes f key) (λ f. Each (IsOnce nodes f) keys) before e in
    let one = not_told nodes key before o first here in
    let rest = keys_untold nodes (before ++ key ∷ []) keys others left (each_join (λ f. Each (IsOnce nodes f) keys) before (key ∷ []) later (p.0, tt)) p.1 in
    is ∙ ap (λ z. z ++ others) one ∙ rest

-- ---- by index

each_all : (P : ℤ → Type 0) (xs : List ℤ) → Each P xs → (k : ℕ) (d : ℤ) → k < length xs
    → P (get_or xs k d)
each_all P [] h k d w = absurd (omega arith)
each_all P (x ∷ xs) h zero d w = h.0
each_all P (x ∷ xs) h (suc k) d w = each_all P xs h.1 k d (omega arith)

all_each : (P : ℤ → Type 0) (xs : List ℤ) (d : ℤ)
    → ((k : ℕ) → k < length xs → P (get_or xs k d)) → Each P xs
all_each P [] d h = tt
all_each P (x ∷ xs) d h = (h 0 (omega arith), all_each P xs d (λ k w. h (suc k) (omega arith)))

pairs_all : (R : ℤ → ℤ → Type 0) (xs : List ℤ) → Pairs R xs → AllPairs R xs
pairs_all R [] h i j d b w = absurd (omega arith)
pairs_all R (x ∷ xs) h i zero d b w = absurd (omega arith)
pairs_all R (x ∷ xs) h zero (suc j) d b w = each_all (R x) xs h.0 j d (omega arith)
pairs_all R (x ∷ xs) h (suc i) (suc j) d b w = pairs_all R xs h.1 i j d (omega arith) (omega arith)

all_pairs : (R : ℤ → ℤ → Type 0) (xs : List ℤ) → AllPairs R xs → Pairs R xs
all_pairs R [] h = tt
all_pairs R (x ∷ xs) h = (all_each (R x) xs x (λ k w. h 0 (suc k) x (omega arith) (omega arith)), all_pairs R xs (λ i j d b w. h (suc i) (suc j) d (omega arith) (omega arith)))

-- ---- the mappings of a document

abbrev Once : List Node → Node → Type 0
Once nodes n = AllPairs (IsOnce nodes) (keys_of n.body)

untold_nodes : (nodes ns : List Node) (told : List yaml_same_key_t) → AreToldIn nodes ns told
    → told ≡ [] → All (Once nodes) ns
untold_nodes nodes [] told h e = All-nil (Once nodes)
untold_nodes nodes (n ∷ ns) told (keys, others, is, here, left) e =
    let parts = no_front keys others (sym is ∙ e) in
    let one = untold_keys nodes [] (keys_of n.body) keys here parts.0 in
    All-cons (Once nodes) n ns (pairs_all (IsOnce nodes) (keys_of n.body) one.1) (untold_nodes nodes ns others left parts.1)

nodes_untold : (nodes ns : List Node) (told : List yaml_same_key_t) → AreToldIn nodes ns told
    → All (Once nodes) ns → told ≡ []
nodes_untold nodes [] told h k = h
nodes_untold nodes (n ∷ ns) told (keys, others, is, here, left) k =
    let one = keys_untold nodes [] (keys_of n.body) keys here tt (all_pairs (IsOnce nodes) (keys_of n.body) (All-head (Once nodes) n ns k)) in
    is ∙ ap (λ z. z ++ others) one ∙ nodes_untold nodes ns others left (All-tail (Once nodes) n ns k)

-- The list is empty exactly where the keys of each mapping are distinct.
pub distinct : (nodes : List Node) (told : List yaml_same_key_t) → AreSameKeys nodes told
    → (told ≡ []) ↔ HaveDistinctKeys nodes
distinct nodes told h = (λ e. untold_nodes nodes nodes told h e, λ d. nodes_untold nodes nodes told h d)
