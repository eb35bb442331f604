-- Masks that are computed lane by lane: what each of the 256 bytes gives.
use Rattle.std.proofs.Common.{◌≡◌, ℕ, ◌+◌, ◌%◌, ◌^◌, ◌<◌, ◌≤◌, eqb, leb, Bool, true, false, not, ◌||◌, cond, List, [], ◌∷◌, ◌++◌, map, length, get_or, take, bit_or, bit_and, Fits, w8, refl, sym, ap, ap₂, ◌∙◌, arith, eqb→eq, subst, T, length-append}
use Rattle.std.proofs.lemmas.Bool.{agree_below, agree_below_at}
use Rattle.std.proofs.lemmas.Simd.{mask_l-mod, mask_l-lt, trailing_mask_l}
use Rattle.std.proofs.lemmas.Nat.{or_comm, or_shifted, le_or_r}
use Rattle.std.specs.List.{position_or_len}
use native.Mathlib.Nat.{two-pow-succ}
use lib.Count.{count_trailing_zeros}
use Rattle.std.proofs.lemmas.List.{length-map}
use Rattle.std.proofs.lemmas.List.Folds.{list_any_more}
use lib.Lanes.{zip2, mask_l, top, Each1}
use Rattle.yaml_scan_runs.specs.Runs.{always_stops, is_listed, is_stop}

-- a lane that is set, or not
abbrev pub lane : Bool → ℕ
lane b = cond b 255 0

-- each byte is set just where it passes
abbrev pub sets : (ℕ → ℕ) → (ℕ → Bool) → Bool
sets f p = agree_below (λ x. eqb (f x) (lane (p x))) (λ _. true) 256

-- then the lanes are
pub lanes_set : (f : ℕ → ℕ) (p : ℕ → Bool) → sets f p ≡ true → (v : List ℕ) → Each1 (Fits w8) v
    → map f v ≡ map (λ x. lane (p x)) v
lanes_set f p all [] fits = refl
lanes_set f p all (x ∷ xs) fits =
    ap₂ (λ a b. a ∷ b) (eqb→eq (f x) (lane (p x)) (subst T (sym (agree_below_at (λ y. eqb (f y) (lane (p y))) (λ _. true) 256 x all fits.0.fits)) tt)) (lanes_set f p all xs fits.1)

top_lane : (b : Bool) → top 7 (lane b) ≡ b
top_lane true = refl
top_lane false = refl

tops : (p : ℕ → Bool) (v : List ℕ) → map (top 7) (map (λ x. lane (p x)) v) ≡ map p v
tops p [] = refl
tops p (x ∷ xs) = ap₂ (λ a b. a ∷ b) (top_lane (p x)) (tops p xs)

-- and the mask says so
pub mask_set : (p : ℕ → Bool) (v z : List ℕ) → length v ≤ 64 → z ≡ map (λ x. lane (p x)) v
    → mask_l (map (top 7) z) % 2 ^ 64 ≡ mask_l (map p v)
mask_set p v z short e =
    ap (λ l. mask_l l % 2 ^ 64) (ap (map (top 7)) e ∙ tops p v) ∙ mask_l-mod (map p v) 64 (omega (arith, length-map v p))

or_lanes : (a b : Bool) → bit_or (lane a) (lane b) ≡ lane (a || b)
or_lanes true true = refl
or_lanes true false = refl
or_lanes false true = refl
or_lanes false false = refl

-- lanes of either
pub either_set : (p q : ℕ → Bool) (v : List ℕ)
    → zip2 bit_or (map (λ x. lane (p x)) v) (map (λ x. lane (q x)) v)
    ≡ map (λ x. lane (p x || q x)) v
either_set p q [] = refl
either_set p q (x ∷ xs) = ap₂ (λ a b. a ∷ b) (or_lanes (p x) (q x)) (either_set p q xs)

or_assoc : (a b c : Bool) → ((a || b) || c) ≡ (a || (b || c))
or_assoc true b c = refl
or_assoc false b c = refl

-- one listed byte more
pub stop_more : (list : List ℕ) (i : ℕ) → i < length list → (x : ℕ)
    → (is_stop (take i list) x || eqb x (get_or list i 0)) ≡ is_stop (take (i + 1) list) x
stop_more list i inside x =
    or_assoc (always_stops x) (is_listed (take i list) x) _ ∙ ap (λ b. always_stops x || b) (sym (list_any_more (λ s. eqb x s) list i 0 inside))

-- the lanes of one listed byte more
pub stops_more : (list v : List ℕ) (i : ℕ) → i < length list → {found : List ℕ}
    → found ≡ map (λ x. lane (is_stop (take i list) x)) v
    → zip2 bit_or found (map (λ x. lane (eqb x (get_or list i 0))) v)
    ≡ map (λ x. lane (is_stop (take (i + 1) list) x)) v
stops_more list v i inside e =
    ap (λ l. zip2 bit_or l (map (λ x. lane (eqb x (get_or list i 0))) v)) e ∙ either_set (is_stop (take i list)) (λ x. eqb x (get_or list i 0)) v ∙ go v
  where
    go : (xs : List ℕ)
        → map (λ x. lane (is_stop (take i list) x || eqb x (get_or list i 0))) xs
        ≡ map (λ x. lane (is_stop (take (i + 1) list) x)) xs
    go [] = refl
    go (x ∷ xs) = ap₂ (λ a b. lane a ∷ b) (stop_more list i inside x) (go xs)

not_lanes : (a b : Bool) → bit_and (lane (not a)) (lane (not b)) ≡ lane (not (a || b))
not_lanes true true = refl
not_lanes true false = refl
not_lanes false true = refl
not_lanes false false = refl

-- lanes of neither
pub neither_set : (p q : ℕ → Bool) (v : List ℕ)
    → zip2 bit_and (map (λ x. lane (not (p x))) v) (map (λ x. lane (not (q x))) v)
    ≡ map (λ x. lane (not (p x || q x))) v
neither_set p q [] = refl
neither_set p q (x ∷ xs) = ap₂ (λ a b. a ∷ b) (not_lanes (p x) (q x)) (neither_set p q xs)

mask_more : (ms : List Bool) → mask_l (ms ++ (true ∷ [])) ≡ mask_l ms + 2 ^ length ms
mask_more [] = refl
mask_more (m ∷ ms) = omega (arith, mask_more ms, two-pow-succ (length ms))

alike : (ms : List Bool) → map (λ m. m) ms ≡ ms
alike [] = refl
alike (m ∷ ms) = ap (λ r. m ∷ r) (alike ms)

before_more : (test : ℕ → Bool) (v : List ℕ)
    → position_or_len (λ (m : Bool). m) (map test v ++ (true ∷ [])) ≡ position_or_len test v
before_more test [] = refl
before_more test (x ∷ xs) = ap (λ n. cond (not (test x)) (1 + n) 0) (before_more test xs)

-- how many lanes are before the first that is set, where one more is put after them
pub leads : (test : ℕ → Bool) (v : List ℕ) (found : ℕ) → length v ≡ 16 → found ≡ mask_l (map test v)
    → count_trailing_zeros 64 (bit_or found 65536) ≡ position_or_len test v
leads test v found long e =
    let ms = map test v in
    let size : length ms ≡ 16 = length-map v test ∙ long in
    let more = ms ++ (true ∷ []) in
    let less : found < 2 ^ 16 = omega (arith, e, mask_l-lt ms, ap (λ n. 2 ^ n) size) in
    let joined : bit_or found 65536 ≡ mask_l (map (λ m. m) more) =
    or_comm found 65536 ∙ or_shifted 1 16 found less ∙ omega (arith, e, mask_more ms, ap (λ n. 2 ^ n) size) ∙ ap mask_l (sym (alike more)) in
    ap (count_trailing_zeros 64) joined
    ∙ trailing_mask_l (λ m. m) 64 more (omega (arith, length-append ms (true ∷ []), size)) (omega (arith, sym joined, le_or_r found 65536))
    ∙ before_more test v

pub none_set : (n : ℕ) → not (eqb n 0) ≡ false → n ≡ 0
none_set n h = grind arith

pub is_small : (x : ℕ) → leb 128 x ≡ false → x < 128
is_small x h = grind arith
