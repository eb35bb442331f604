-- Sorted prefixes, and the search for those that a tag begins with.
use Rattle.std.proofs.Common.{◌≡◌, ℕ, ◌+◌, ◌<◌, ◌≤◌, List, [], ◌∷◌, ◌++◌, length, take, get_or, map, true, refl, sym, ◌∙◌, ap, arith, inl, inr}
use Rattle.std.specs.Prelude.{zero, suc, Vec, nat_lt}
use Rattle.std.specs.Global.{Global}
use Rattle.std.specs.Str.{bytes_eq}
use Rattle.std.proofs.lemmas.Bool.{cases_lt, ltb-true, and_parts}
use Rattle.std.proofs.lemmas.Bool.Decides.{nat_tests}
use Rattle.std.proofs.lemmas.List.{get_or-map, get_or-take, take_more}
use Rattle.std.proofs.lemmas.Slice.Eq.{bytes_eq-Decides}
use Rattle.yaml_emit_layout.specs.Tags.{has_shorter_prefix}
use Rattle.yaml_emit_core.specs.Prefixes.{Entry, entry_of, at, key}

-- ---- an entry of the code's list

pub at_of : (es : List (Vec ℕ Global × ℕ)) (k : ℕ) (e : Vec ℕ Global × ℕ) → k < length es
    → e ≡ get_or es k e → at (map entry_of es) k ≡ entry_of e
at_of es k e h is = get_or-map entry_of es k e ([], 0) h ∙ ap entry_of (sym is)

-- ---- keys

pub key_behind : (p : List ℕ) (d : ℕ) → length p ≤ d → key p d ≡ 0
unfolding key
key_behind [] d h = refl
key_behind (b ∷ bs) zero h = absurd (omega arith)
key_behind (b ∷ bs) (suc d) h = key_behind bs d (omega arith)

pub key_within : (p : List ℕ) (d : ℕ) → d < length p → key p d ≡ get_or p d 0 + 1
unfolding key
key_within [] d h = absurd (omega arith)
key_within (b ∷ bs) zero h = refl
key_within (b ∷ bs) (suc d) h = key_within bs d (omega arith)

-- ---- what a tag begins with

-- the two agree in the first bytes
pub record Agree (d : ℕ) (p t : List ℕ) : Type 0 where
  pub long : d ≤ length p
  pub same : take d p ≡ take d t

pub record Begins (p t : List ℕ) : Type 0 where
  pub shorter : length p < length t
  pub same : take (length p) t ≡ p

pub begins : (p t : List ℕ) → has_shorter_prefix p t ≡ true → Begins p t
begins p t e =
    let s = and_parts (nat_lt (length p) (length t)) (bytes_eq (take (length p) t) p) e in
    record { shorter = ltb-true (length p) (length t) s.0; same = (bytes_eq-Decides (take (length p) t) p).0 s.1 }

pub begun : (p t : List ℕ) → length p < length t → take (length p) t ≡ p
    → has_shorter_prefix p t ≡ true
begun p t h e = let k : bytes_eq (take (length p) t) p ≡ true = (bytes_eq-Decides (take (length p) t) p).1 e in rw k (grind (arith, nat_tests))

-- the byte after is the tag's
pub begins_key : (d : ℕ) (p t : List ℕ) → Begins p t → d < length p → key p d ≡ get_or t d 0 + 1
begins_key d p t b h = key_within p d h ∙ ap (λ q. get_or q d 0 + 1) (sym b.same) ∙ ap (λ n. n + 1) (get_or-take (length p) t d 0 h)

-- agreeing by one byte more
pub agree_more : (d b : ℕ) (p t : List ℕ) → Agree d p t → d < length t → b ≡ get_or t d 0
    → b + 1 ≤ key p d → key p d < b + 2 → Agree (d + 1) p t
agree_more d b p t a h is low high =
    elim (cases_lt d (length p)) [
      | inl in_it ↦ (
          let k : key p d ≡ get_or p d 0 + 1 = key_within p d in_it in
          let e : get_or p d 0 ≡ get_or t d 0 = omega arith in
          record { long = omega arith; same = take_more p d 0 in_it ∙ ap (λ z. z ++ get_or p d 0 ∷ []) a.same ∙ ap (λ z. take d t ++ z ∷ []) e ∙ sym (take_more t d 0 h) })
      | inr out ↦ (let k : key p d ≡ 0 = key_behind p d out in absurd (omega arith))
    ]

-- ---- the key that the code reads

pub key_read : (es : List (Vec ℕ Global × ℕ)) (k d r : ℕ) (e : Vec ℕ Global × ℕ) (t : List ℕ)
    → k < length es → e ≡ get_or es k e → t ≡ (get_or es k e).0.items → r ≡ key t d
    → key (at (map entry_of es) k).0 d ≡ r
key_read es k d r e t h is te re = ap (λ (x : Entry). key x.0 d) (at_of es k e h is) ∙ ap (λ (x : Vec ℕ Global × ℕ). key x.0.items d) is ∙ ap (λ z. key z d) (sym te) ∙ sym re
