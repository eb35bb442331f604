-- The list of differences is empty exactly where the documents are equal.
use Rattle.std.proofs.Common.{◌≡◌, ℕ, zero, suc, ℤ, pos, Bool, true, false, cond, List, [], ◌∷◌, ◌++◌, length, map, Option, Some, None, refl, sym, subst, ◌∙◌, ap, inl, inr, arith, append_assoc}
use Rattle.std.specs.Prelude.{◌↔◌, ◌==◌, nat_eq, slice_get}
use Rattle.std.specs.Cmp.Lexicographic.{pointwise}
use Rattle.std.proofs.lemmas.Bool.{cases_eq, eq-eqb, eqb-true}
use Rattle.std.proofs.lemmas.Slice.Eq.{bytes_eq-Decides}
use Rattle.yaml_parse_model.specs.declared.yaml_node_pair_t.{yaml_node_pair_t}
use Rattle.yaml_parse_model.specs.Nodes.{Node, NodeBody, type_of}
use Rattle.yaml_parse_model.specs.Nodes as node
use Rattle.yaml_parse_model.specs.Documents.{AreIds, AreSound, IsId}
use Rattle.yaml_emit_graph.specs.Graph.{body_of_id, child_ids, pair_ids, tag_of_id}
use Rattle.yaml_round_documents.specs.Same.{Agree, AgreeWithin, OneByOne, text_of}
use Rattle.yaml_round_documents.specs.Ranks.{TellBoth, kind_of}
use Rattle.yaml_round_documents.specs.Telling.{keys_of, pair_keys}
use Rattle.yaml_round_documents.specs.declared.difference.yaml_node_cause_t.{yaml_node_cause_t}
use Rattle.yaml_round_documents.specs.declared.difference.yaml_node_cause_t.TheVariants.{Kind, Value, Tag, OnlyFirst, OnlySecond}
use Rattle.yaml_round_documents.specs.declared.difference.yaml_node_difference_t.{yaml_node_difference_t}
use Rattle.yaml_round_documents.specs.declared.walk.yaml_node_match_t.{yaml_node_match_t as Pair}
use Rattle.yaml_round_documents.specs.Matching.{in_order, matched, numbered}
use Rattle.yaml_round_documents.specs.Pairs.{ComparedAt, IsCompared, IsOneOf, held_pairs, held_values, key_labels, pair_at, pair_with, pairs_by, places_from}
use Rattle.yaml_round_documents.specs.Differences.{AreDifferences, order_cause, own_cause, told_alone, told_cause, told_held, told_in, told_of}
use Rattle.yaml_round_documents.specs.Equal.{AreEqual, EqualTo}
use Rattle.yaml_round_documents.proofs.Holding.{as_many, body_sound, held_sound}
use Rattle.yaml_round_documents.proofs.Distinct.{no_front}
use Rattle.yaml_round_documents.proofs.Numbering.{numbered_many}
use Rattle.yaml_round_documents.proofs.Matches.{matched_itself, same_labels, somes, somes_in_order, somes_not_alone}

-- ---- one by one

one_by_one : (P Q : ℤ → ℤ → Type 0) → ((a b : ℤ) → P a b → Q a b) → (xs ys : List ℤ)
    → OneByOne P xs ys → OneByOne Q xs ys
one_by_one P Q go [] [] h = tt
one_by_one P Q go [] (y ∷ ys) h = absurd h
one_by_one P Q go (x ∷ xs) [] h = absurd h
one_by_one P Q go (x ∷ xs) (y ∷ ys) h = (go x y h.0, one_by_one P Q go xs ys h.1)

one_many : (P : ℤ → ℤ → Type 0) (xs ys : List ℤ) → OneByOne P xs ys → length xs ≡ length ys
one_many P [] [] h = refl
one_many P [] (y ∷ ys) h = absurd h
one_many P (x ∷ xs) [] h = absurd h
one_many P (x ∷ xs) (y ∷ ys) h = ap suc (one_many P xs ys h.1)

-- ---- nodes that agree are equal

pairs_agree : (P : ℤ → ℤ → Type 0) (ps qs : List yaml_node_pair_t)
    → OneByOne P (pair_ids ps) (pair_ids qs)
    → OneByOne P (pair_keys ps) (pair_keys qs)
    × OneByOne P (map (λ (p : yaml_node_pair_t). p.value) ps) (map (λ (p : yaml_node_pair_t). p.value) qs)
unfolding pair_ids
pairs_agree P [] [] h = (tt, tt)
pairs_agree P [] (q ∷ qs) h = absurd h
pairs_agree P (p ∷ ps) [] h = absurd h
pairs_agree P (p ∷ ps) (q ∷ qs) h = let r = pairs_agree P ps qs h.1.1 in ((h.0, r.0), (h.1.0, r.1))

parts_agree : (P : ℤ → ℤ → Type 0) (b c : NodeBody) → type_of b ≡ type_of c
    → OneByOne P (child_ids b) (child_ids c)
    → (kind_of b ≡ kind_of c) × OneByOne P (keys_of b) (keys_of c) × OneByOne P (held_values b) (held_values c)
parts_agree P node.no node.no e h = (refl, tt, tt)
parts_agree P (node.scalar v s) (node.scalar w t) e h = (refl, tt, tt)
parts_agree P (node.sequence v s) (node.sequence w t) e h = (refl, tt, h)
parts_agree P (node.mapping v s) (node.mapping w t) e h = let r = pairs_agree P v w h in (refl, r.0, r.1)
parts_agree P _ _ e h = absurd (cc)

agree_equal : (nodes others : List Node) (m : ℕ) (a b : ℤ) → AgreeWithin m nodes others a b
    → (n : ℕ) → EqualTo n nodes others a b
unfolding AgreeWithin EqualTo
agree_equal nodes others m a b h zero = tt
agree_equal nodes others zero a b h (suc n) = absurd h
agree_equal nodes others (suc m) a b h (suc n) =
    let r = parts_agree (AgreeWithin m nodes others) (body_of_id nodes a) (body_of_id others b) h.0.kind h.1 in (
      record { kind = r.0; text = h.0.text; tag = h.0.tag },
      one_by_one (AgreeWithin m nodes others) (Agree nodes others) (λ x y k. (m, k)) (keys_of (body_of_id nodes a)) (keys_of (body_of_id others b)) r.1,
      one_by_one (AgreeWithin m nodes others) (EqualTo n nodes others) (λ x y k. agree_equal nodes others m x y k n) (held_values (body_of_id nodes a)) (held_values (body_of_id others b)) r.2,
    )

agree_ids : (nodes others : List Node) (a b : ℤ) → Agree nodes others a b
    → IsId (length nodes) a × IsId (length others) b
unfolding AgreeWithin
agree_ids nodes others a b (zero, h) = absurd h
agree_ids nodes others a b (suc n, h) = (h.0.first, h.0.second)

-- ---- item by item

abbrev zipped : ℕ → List ℤ → List ℤ → List Pair
zipped at [] ys = []
zipped at (x ∷ xs) [] = []
zipped at (x ∷ xs) (y ∷ ys) = record { first = x; second = y; holder = 0; place = at } ∷ zipped (suc at) xs ys

one_zipped : (P : ℤ → ℤ → Type 0) (at : ℕ) (xs ys : List ℤ) → length xs ≡ length ys
    → ((a b : ℤ) → IsOneOf a b (zipped at xs ys) → P a b) → OneByOne P xs ys
one_zipped P at [] [] e go = tt
one_zipped P at [] (y ∷ ys) e go = absurd (omega arith)
one_zipped P at (x ∷ xs) [] e go = absurd (omega arith)
one_zipped P at (x ∷ xs) (y ∷ ys) e go = (go x y (inl (refl, refl)), one_zipped P (suc at) xs ys (omega arith) (λ a b h. go a b (inr h)))

zipped_one : (P : ℤ → ℤ → Type 0) (at : ℕ) (xs ys : List ℤ) → OneByOne P xs ys → (a b : ℤ)
    → IsOneOf a b (zipped at xs ys) → P a b
zipped_one P at [] ys h a b i = absurd i
zipped_one P at (x ∷ xs) [] h a b i = absurd i
zipped_one P at (x ∷ xs) (y ∷ ys) h a b (inl e) = subst (λ z. P z b) (sym e.0) (subst (P x) (sym e.1) h.0)
zipped_one P at (x ∷ xs) (y ∷ ys) h a b (inr i) = zipped_one P (suc at) xs ys h.1 a b i

zipped_ids : (n m at : ℕ) (xs ys : List ℤ) → AreIds n xs → AreIds m ys → (a b : ℤ)
    → IsOneOf a b (zipped at xs ys) → IsId n a × IsId m b
zipped_ids n m at [] ys h k a b i = absurd i
zipped_ids n m at (x ∷ xs) [] h k a b i = absurd i
zipped_ids n m at (x ∷ xs) (y ∷ ys) h k a b (inl e) = (subst (IsId n) (sym e.0) h.0, subst (IsId m) (sym e.1) k.0)
zipped_ids n m at (x ∷ xs) (y ∷ ys) h k a b (inr i) = zipped_ids n m (suc at) xs ys h.1 k.1 a b i

got_at : (front ys : List ℤ) (y : ℤ) → slice_get (front ++ y ∷ ys) (length front) ≡ Some y
got_at [] ys y = refl
got_at (x ∷ front) ys y = got_at front ys y

length_push : (front : List ℤ) (y : ℤ) → length (front ++ y ∷ []) ≡ suc (length front)
length_push [] y = refl
length_push (x ∷ front) y = ap suc (length_push front y)

pairs_zipped : (front xs ys : List ℤ) (names : List (List ℕ)) → length xs ≡ length ys
    → length names ≡ length xs
    → pairs_by 0 (length front) xs (front ++ ys) (somes (length front) names) ≡ zipped (length front) xs ys
pairs_zipped front [] ys names e n = refl
pairs_zipped front (x ∷ xs) [] names e n = absurd (omega arith)
pairs_zipped front (x ∷ xs) (y ∷ ys) [] e n = absurd (omega arith)
pairs_zipped front (x ∷ xs) (y ∷ ys) (m ∷ names) e n =
    let at = length front in
    let rest = pairs_by 0 (suc at) xs (front ++ y ∷ ys) (somes (suc at) names) in
    let same : rest ≡ zipped (suc at) xs ys =
    ap (λ z. pairs_by 0 (suc at) xs z (somes (suc at) names)) (sym (append_assoc front (y ∷ []) ys))
    ∙ ap (λ k. pairs_by 0 k xs ((front ++ y ∷ []) ++ ys) (somes k names)) (sym (length_push front y))
    ∙ pairs_zipped (front ++ y ∷ []) xs ys names (omega arith) (omega arith)
    ∙ ap (λ k. zipped k xs ys) (length_push front y) in
    ap (λ o. pair_at 0 at x (front ++ y ∷ ys) (Some at) ++ o) same
    ∙ ap (λ o. pair_with 0 at x o ++ zipped (suc at) xs ys) (got_at front ys y)

-- where the labels are the same, what both hold is matched one by one
held_zipped : (f g : ℤ → ℕ) (b c : NodeBody) → kind_of b ≡ kind_of c
    → key_labels f b ≡ key_labels g c
    → (length (held_values b) ≡ length (held_values c)) × (held_pairs f g 0 b c ≡ zipped 0 (held_values b) (held_values c))
held_zipped f g b c k e =
    let sized : length (held_values b) ≡ length (held_values c) = sym (as_many f b) ∙ ap length e ∙ as_many g c in
    let names = numbered [] (key_labels g c) in
    let many : length names ≡ length (held_values b) = numbered_many [] (key_labels g c) ∙ as_many g c ∙ sym sized in (
      sized,
      ap (λ t. cond t (pairs_by 0 0 (held_values b) (held_values c) (matched (key_labels f b) (key_labels g c))) []) (eq-eqb (kind_of b) (kind_of c) k)
          ∙ ap (λ l. pairs_by 0 0 (held_values b) (held_values c) (matched l (key_labels g c))) e
          ∙ ap (λ ps. pairs_by 0 0 (held_values b) (held_values c) ps) (matched_itself (key_labels g c))
          ∙ pairs_zipped [] (held_values b) (held_values c) names sized many,
    )

-- ---- keys that agree have the same labels

mapped_agree : (f g : ℤ → ℕ) (P : ℤ → ℤ → Type 0) (n m : ℕ)
    → ((a b : ℤ) → IsId n a → IsId m b → f a ≡ g b → P a b) → (ps qs : List yaml_node_pair_t)
    → AreIds n (pair_keys ps) → AreIds m (pair_keys qs)
    → map (λ (p : yaml_node_pair_t). f p.key) ps ≡ map (λ (p : yaml_node_pair_t). g p.key) qs
    → OneByOne P (pair_keys ps) (pair_keys qs)
mapped_agree f g P n m go [] [] h k e = tt
mapped_agree f g P n m go [] (q ∷ qs) h k e = absurd (cc)
mapped_agree f g P n m go (p ∷ ps) [] h k e = absurd (cc)
mapped_agree f g P n m go (p ∷ ps) (q ∷ qs) h k e =
    let i : f p.key ≡ g q.key = cc in
    let t : map (λ (p : yaml_node_pair_t). f p.key) ps ≡ map (λ (p : yaml_node_pair_t). g p.key) qs = cc in
    (go p.key q.key h.0 k.0 i, mapped_agree f g P n m go ps qs h.1 k.1 t)

keys_agree : (f g : ℤ → ℕ) (P : ℤ → ℤ → Type 0) (n m : ℕ)
    → ((a b : ℤ) → IsId n a → IsId m b → f a ≡ g b → P a b) → (b c : NodeBody)
    → kind_of b ≡ kind_of c → AreIds n (keys_of b) → AreIds m (keys_of c)
    → key_labels f b ≡ key_labels g c → OneByOne P (keys_of b) (keys_of c)
keys_agree f g P n m go node.no node.no k h i e = tt
keys_agree f g P n m go (node.scalar v s) (node.scalar w t) k h i e = tt
keys_agree f g P n m go (node.sequence v s) (node.sequence w t) k h i e = tt
keys_agree f g P n m go (node.mapping v s) (node.mapping w t) k h i e = mapped_agree f g P n m go v w h i e
keys_agree f g P n m go _ _ k h i e = absurd (omega arith)

agree_mapped : (f g : ℤ → ℕ) (P : ℤ → ℤ → Type 0) → ((a b : ℤ) → P a b → f a ≡ g b)
    → (ps qs : List yaml_node_pair_t) → OneByOne P (pair_keys ps) (pair_keys qs)
    → map (λ (p : yaml_node_pair_t). f p.key) ps ≡ map (λ (p : yaml_node_pair_t). g p.key) qs
agree_mapped f g P go [] [] h = refl
agree_mapped f g P go [] (q ∷ qs) h = absurd h
agree_mapped f g P go (p ∷ ps) [] h = absurd h
agree_mapped f g P go (p ∷ ps) (q ∷ qs) h =
    let i = go p.key q.key h.0 in
    let r = agree_mapped f g P go ps qs h.1 in
    λ j. i j ∷ r j

places_same : (at : ℕ) (xs ys : List ℤ) → length xs ≡ length ys
    → places_from at xs ≡ places_from at ys
places_same at [] [] e = refl
places_same at [] (y ∷ ys) e = absurd (omega arith)
places_same at (x ∷ xs) [] e = absurd (omega arith)
places_same at (x ∷ xs) (y ∷ ys) e = ap (λ z. at ∷ z) (places_same (suc at) xs ys (omega arith))

agree_labels : (f g : ℤ → ℕ) (P : ℤ → ℤ → Type 0) → ((a b : ℤ) → P a b → f a ≡ g b)
    → (b c : NodeBody) → kind_of b ≡ kind_of c → OneByOne P (keys_of b) (keys_of c)
    → length (held_values b) ≡ length (held_values c) → key_labels f b ≡ key_labels g c
agree_labels f g P go node.no node.no k h e = refl
agree_labels f g P go (node.scalar v s) (node.scalar w t) k h e = refl
agree_labels f g P go (node.sequence v s) (node.sequence w t) k h e = places_same 0 v w e
agree_labels f g P go (node.mapping v s) (node.mapping w t) k h e = agree_mapped f g P go v w h
agree_labels f g P go _ _ k h e = absurd (omega arith)

-- ---- what is reported of two nodes

seem_cause : (b c : NodeBody) (t u : List ℕ) → kind_of b ≡ kind_of c → text_of b ≡ text_of c → t ≡ u
    → own_cause b c t u ≡ None
seem_cause b c t u k x e =
    let i = eq-eqb (kind_of b) (kind_of c) k in
    let j = (bytes_eq-Decides (text_of b) (text_of c)).1 x in
    let l = (bytes_eq-Decides t u).1 e in
    ap (λ z. cond z (cond (pointwise nat_eq (text_of b) (text_of c)) (cond (pointwise nat_eq t u) None (Some Tag)) (Some Value)) (Some Kind)) i
    ∙ ap (λ z. cond z (cond (pointwise nat_eq t u) None (Some Tag)) (Some Value)) j
    ∙ ap (λ z. cond z None (Some Tag)) l

abbrev Alike : NodeBody → NodeBody → List ℕ → List ℕ → Type 0
Alike b c t u = (kind_of b ≡ kind_of c) × (text_of b ≡ text_of c) × (t ≡ u)

cause_seem : (b c : NodeBody) (t u : List ℕ) → own_cause b c t u ≡ None → Alike b c t u
cause_seem b c t u e =
    elim (kind_of b == kind_of c) as (λ z. (kind_of b == kind_of c) ≡ z
    → cond z (cond (pointwise nat_eq (text_of b) (text_of c)) (cond (pointwise nat_eq t u) None (Some Tag)) (Some Value)) (Some Kind) ≡ None
    → Alike b c t u) [
      | false ↦ λ i h. absurd (cc)
      | true ↦ λ i h. elim (pointwise nat_eq (text_of b) (text_of c)) as (λ z. pointwise nat_eq (text_of b) (text_of c) ≡ z
          → cond z (cond (pointwise nat_eq t u) None (Some Tag)) (Some Value) ≡ None → Alike b c t u) [
            | false ↦ λ j k. absurd (cc)
            | true ↦ λ j k. elim (pointwise nat_eq t u) as (λ z. pointwise nat_eq t u ≡ z → cond z None (Some Tag) ≡ None → Alike b c t u) [
              | false ↦ λ l m. absurd (cc)
              | true ↦ λ l m. (eqb-true (kind_of b) (kind_of c) i, (bytes_eq-Decides (text_of b) (text_of c)).0 j, (bytes_eq-Decides t u).0 l)
            ] refl k
          ] refl h
    ] refl e

no_cause : (n : ℕ) (p : Pair) (o : Option yaml_node_cause_t) → told_cause n p o ≡ [] → o ≡ None
no_cause n p None e = refl
no_cause n p (Some c) e = absurd (cc)

in_order_by : (b : Bool) → order_cause b ≡ None → b ≡ true
in_order_by true e = refl
in_order_by false e = absurd (cc)

held_same : (n : ℕ) (p : Pair) (own others : List ℕ) → told_held n p own others ≡ [] → own ≡ others
held_same n p own others e =
    let one = no_front (told_cause n p (order_cause (in_order 0 (matched own others))) ++ told_alone n p OnlyFirst 0 (matched own others)) (told_alone n p OnlySecond 0 (matched others own)) e in
    let two = no_front (told_cause n p (order_cause (in_order 0 (matched own others)))) (told_alone n p OnlyFirst 0 (matched own others)) one.0 in
    same_labels n p OnlyFirst OnlySecond own others (in_order_by (in_order 0 (matched own others)) (no_cause n p (order_cause (in_order 0 (matched own others))) two.0)) two.1 one.1

same_held : (n : ℕ) (p : Pair) (labels : List ℕ) → told_held n p labels labels ≡ []
same_held n p labels =
    let names = numbered [] labels in
    ap (λ z. told_cause n p (order_cause (in_order 0 z)) ++ told_alone n p OnlyFirst 0 z ++ told_alone n p OnlySecond 0 z) (matched_itself labels)
    ∙ ap (λ b. told_cause n p (order_cause b) ++ told_alone n p OnlyFirst 0 (somes 0 names) ++ told_alone n p OnlySecond 0 (somes 0 names)) (somes_in_order 0 names)
    ∙ ap (λ z. z ++ told_alone n p OnlySecond 0 (somes 0 names)) (somes_not_alone n p OnlyFirst 0 0 names)
    ∙ somes_not_alone n p OnlySecond 0 0 names

-- a pair of these numbers
abbrev bare : ℤ → ℤ → Pair
bare a b = record { first = a; second = b; holder = 0; place = 0 }

-- two nodes of which nothing is reported seem so, and have the same labels
abbrev TellsNothing : (ℤ → ℕ) → (ℤ → ℕ) → NodeBody → NodeBody → List ℕ → List ℕ → Type 0
TellsNothing f g b c t u = Alike b c t u × (key_labels f b ≡ key_labels g c)

untold : (f g : ℤ → ℕ) (nodes others : List Node) (n : ℕ) (a b : ℤ)
    → told_of f g nodes others n (bare a b) ≡ []
    → TellsNothing f g (body_of_id nodes a) (body_of_id others b) (tag_of_id nodes a) (tag_of_id others b)
untold f g nodes others n a b e =
    let p = bare a b in
    let x = body_of_id nodes a in
    let y = body_of_id others b in
    let parts = no_front (told_cause n p (own_cause x y (tag_of_id nodes a) (tag_of_id others b))) (cond (kind_of x == kind_of y) (told_held n p (key_labels f x) (key_labels g y)) []) e in
    let alike = cause_seem x y (tag_of_id nodes a) (tag_of_id others b) (no_cause n p (own_cause x y (tag_of_id nodes a) (tag_of_id others b)) parts.0) in
    let held : told_held n p (key_labels f x) (key_labels g y) ≡ [] = subst (λ t. cond t (told_held n p (key_labels f x) (key_labels g y)) [] ≡ []) (eq-eqb (kind_of x) (kind_of y) alike.0) parts.1 in
    (alike, held_same n p (key_labels f x) (key_labels g y) held)

nothing_told : (f g : ℤ → ℕ) (nodes others : List Node) (n : ℕ) (p : Pair)
    → TellsNothing f g (body_of_id nodes p.first) (body_of_id others p.second) (tag_of_id nodes p.first) (tag_of_id others p.second)
    → told_of f g nodes others n p ≡ []
nothing_told f g nodes others n p h =
    let x = body_of_id nodes p.first in
    let y = body_of_id others p.second in
    let own = seem_cause x y (tag_of_id nodes p.first) (tag_of_id others p.second) h.0.0 h.0.1 h.0.2 in
    ap (λ o. told_cause n p o ++ cond (kind_of x == kind_of y) (told_held n p (key_labels f x) (key_labels g y)) []) own
    ∙ ap (λ t. cond t (told_held n p (key_labels f x) (key_labels g y)) []) (eq-eqb (kind_of x) (kind_of y) h.0.0)
    ∙ ap (λ l. told_held n p l (key_labels g y)) h.1 ∙ same_held n p (key_labels g y)

-- ---- all pairs

one_untold : (f g : ℤ → ℕ) (nodes others : List Node) (n : ℕ) (ps : List Pair)
    → told_in f g nodes others n ps ≡ [] → (a b : ℤ) → IsOneOf a b ps
    → (m : ℕ) × (told_of f g nodes others m (bare a b) ≡ [])
one_untold f g nodes others n [] e a b h = absurd h
one_untold f g nodes others n (p ∷ ps) e a b h =
    let parts = no_front (told_of f g nodes others n p) (told_in f g nodes others (suc n) ps) e in
    elim h [
      | inl i ↦ (n, ap (λ z. told_of f g nodes others n (bare z b)) i.0 ∙ ap (λ z. told_of f g nodes others n (bare p.first z)) i.1 ∙ parts.0)
      | inr k ↦ one_untold f g nodes others (suc n) ps parts.1 a b k
    ]

all_untold : (f g : ℤ → ℕ) (nodes others : List Node) (n : ℕ) (ps : List Pair)
    → ((m : ℕ) (a b : ℤ) → IsOneOf a b ps → told_of f g nodes others m (bare a b) ≡ [])
    → told_in f g nodes others n ps ≡ []
all_untold f g nodes others n [] go = refl
all_untold f g nodes others n (p ∷ ps) go =
    ap (λ z. z ++ told_in f g nodes others (suc n) ps) (go n p.first p.second (inl (refl, refl)))
    ∙ all_untold f g nodes others (suc n) ps (λ m a b h. go m a b (inr h))

module _ (nodes others : List Node) (f g : ℤ → ℕ) (tell : TellBoth nodes others f g)
    (pairs : List Pair) (compared : (a b : ℤ) → IsOneOf a b pairs ↔ IsCompared nodes others f g a b)
    (sound : AreSound (length nodes) nodes) (other_sound : AreSound (length others) others) where
  untold_equal : told_in f g nodes others 0 pairs ≡ [] → (n : ℕ) (a b : ℤ) → IsOneOf a b pairs
      → EqualTo n nodes others a b
  unfolding EqualTo ComparedAt
  untold_equal e zero a b h = tt
  untold_equal e (suc n) a b h =
      let x = body_of_id nodes a in
      let y = body_of_id others b in
      let one = one_untold f g nodes others 0 pairs e a b h in
      let none = untold f g nodes others one.0 a b one.1 in
      let s = held_sound (length nodes) x (body_sound (length nodes) nodes a sound) in
      let o = held_sound (length others) y (body_sound (length others) others b other_sound) in
      let agree : (c d : ℤ) → IsId (length nodes) c → IsId (length others) d → f c ≡ g d → Agree nodes others c d = λ c d v w. (tell.across c d v w).0 in
      let held = held_zipped f g x y none.0.0 none.1 in (
        record { kind = none.0.0; text = none.0.1; tag = none.0.2 },
        keys_agree f g (Agree nodes others) (length nodes) (length others) agree x y none.0.0 s.0 o.0 none.1,
        one_zipped (EqualTo n nodes others) 0 (held_values x) (held_values y) held.0 (λ c d i.
            elim (cases_eq (f c) (g d)) [
              | inl k ↦ let v = zipped_ids (length nodes) (length others) 0 (held_values x) (held_values y) s.1 o.1 c d i in
                  let m = agree c d v.0 v.1 k in agree_equal nodes others m.0 c d m.1 n
              | inr ne ↦ let above = (compared a b).0 h in
                  untold_equal e n c d ((compared c d).1 (suc above.0, (a, b, above.1, subst (IsOneOf c d) (sym held.1) i, ne)))
            ]),
      )

  equal_nothing : (a b : ℤ) → ((n : ℕ) → EqualTo n nodes others a b)
      → TellsNothing f g (body_of_id nodes a) (body_of_id others b) (tag_of_id nodes a) (tag_of_id others b)
  unfolding EqualTo
  equal_nothing a b h =
      let x = body_of_id nodes a in
      let y = body_of_id others b in
      let one = h 1 in
      let same : (c d : ℤ) → Agree nodes others c d → f c ≡ g d = λ c d k. let v = agree_ids nodes others c d k in (tell.across c d v.0 v.1).1 k in
      ((one.0.kind, one.0.text, one.0.tag), agree_labels f g (Agree nodes others) same x y one.0.kind one.1 (one_many (EqualTo 0 nodes others) (held_values x) (held_values y) one.2))

  equal_down : AreEqual nodes others → (m : ℕ) (a b : ℤ) → ComparedAt m nodes others f g a b
      → (n : ℕ) → EqualTo n nodes others a b
  unfolding EqualTo ComparedAt
  equal_down h zero a b c n = subst (λ z. EqualTo n nodes others a z) (sym c.1) (subst (λ z. EqualTo n nodes others z (pos 1)) (sym c.0) (h n))
  equal_down h (suc m) a b (c, d, above, held, ne) n =
      let up = equal_down h m c d above in
      let x = body_of_id nodes c in
      let y = body_of_id others d in
      let none = equal_nothing c d up in
      let zip = held_zipped f g x y none.0.0 none.1 in
      zipped_one (EqualTo n nodes others) 0 (held_values x) (held_values y) (up (suc n)).2 a b (subst (IsOneOf a b) zip.1 held)

  pub told_equal : (told_in f g nodes others 0 pairs ≡ []) ↔ AreEqual nodes others
  unfolding ComparedAt
  told_equal = (
    λ e n. untold_equal e n (pos 1) (pos 1) ((compared (pos 1) (pos 1)).1 (0, (refl, refl))),
    λ h. all_untold f g nodes others 0 pairs (λ m a b i. let c = (compared a b).0 i in
        nothing_told f g nodes others m (bare a b) (equal_nothing a b (equal_down h c.0 a b c.1))),
  )

-- The list is empty exactly where the documents are equal.
pub none_told : (nodes others : List Node) (pairs : List Pair) (told : List yaml_node_difference_t)
    → AreSound (length nodes) nodes → AreSound (length others) others
    → AreDifferences nodes others pairs told → (told ≡ []) ↔ AreEqual nodes others
none_told nodes others pairs told s o d =
    let r = told_equal nodes others d.first d.second d.tell pairs d.compared s o in
    (λ e. r.0 (sym d.told ∙ e), λ h. d.told ∙ r.1 h)
