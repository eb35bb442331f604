-- How a value ends, and walks that look for something in it.
use Rattle.std.proofs.Common.{◌≡◌, ℕ, List, [], ◌∷◌, ◌++◌, Bool, true, refl, sym, ◌∙◌, ap}
use Rattle.yaml_emit_layout.specs.Text.{is_break}
use Rattle.std.specs.Prelude.{◌||◌}
use Rattle.std.proofs.Math.Bool.{or-false}
use Rattle.yaml_emit_layout.specs.declared.page.Seen.{Seen}
use Rattle.yaml_emit_layout.specs.Quoted.{first, is_empty}
use Rattle.yaml_emit_layout.specs.Style.{somewhere, last_or, seen, looked, joined, allowed_text, allowed}
use Rattle.yaml_emit_layout.proofs.Bools.{or_assoc}
use Rattle.yaml_emit_layout.specs.Scalars.{ends_in_break, chomp, chomp_of}

chomp_behind : (broken last : Bool) (z y : ℕ) (xs : List ℕ) → last ≡ is_break z
    → chomp broken last (xs ++ y ∷ []) ≡ chomp_of (is_break (last_or z xs)) (is_break y)
unfolding chomp last_or
chomp_behind broken last z y [] e = ap (λ v. chomp_of v (is_break y)) e
chomp_behind broken last z y (x ∷ xs) e = chomp_behind last (is_break x) x y xs refl

-- by the last two characters
pub chomp_ends : (value front : List ℕ) (y : ℕ) (broken last : Bool) → value ≡ front ++ y ∷ []
    → broken ≡ ends_in_break front → last ≡ is_break y
    → chomp_of broken last ≡ chomp true true value
chomp_ends value front y broken last v b l = ap (λ t. chomp_of t last) b ∙ ap (chomp_of (ends_in_break front)) l ∙ sym (ap (chomp true true) v ∙ chomp_behind true true 10 y front refl)

last_behind : (a y : ℕ) (xs : List ℕ) → last_or a (xs ++ y ∷ []) ≡ y
unfolding last_or
last_behind a y [] = refl
last_behind a y (x ∷ xs) = last_behind x y xs

joined_assoc : (a b c : Seen) → joined a (joined b c) ≡ joined (joined a b) c
joined_assoc a b c = rw (or_assoc a.special b.special c.special, or_assoc a.broken b.broken c.broken, or_assoc a.not_plain b.not_plain c.not_plain, or_assoc a.not_flow b.not_flow c.not_flow) refl

pub looked_at : (unicode : Bool) (before y : ℕ) (xs : List ℕ)
    → looked unicode before (y ∷ xs) ≡ joined (seen unicode before y (first xs))
    (looked unicode y xs)
unfolding somewhere
looked_at unicode before y xs = refl

looked_none : (all : Seen) (unicode : Bool) (before : ℕ)
    → joined all (looked unicode before []) ≡ all
unfolding somewhere
looked_none all unicode before = rw (or-false all.special, or-false all.broken, or-false all.not_plain, or-false all.not_flow) refl

pub look_more : (k all all' : Seen) (unicode : Bool) (before y : ℕ) (left xs : List ℕ)
    → left ≡ y ∷ xs → k ≡ joined all (looked unicode before left)
    → all' ≡ joined all (seen unicode before y (first xs)) → k ≡ joined all' (looked unicode y xs)
look_more k all all' unicode before y left xs e h f =
    h ∙ ap (λ t. joined all (looked unicode before t)) e ∙ ap (joined all) (looked_at unicode before y xs) ∙ joined_assoc all (seen unicode before y (first xs)) (looked unicode y xs)
    ∙ ap (λ t. joined t (looked unicode y xs)) (sym f)

pub look_end : (k all : Seen) (unicode : Bool) (before : ℕ) (left : List ℕ) → left ≡ []
    → k ≡ joined all (looked unicode before left) → all ≡ k
look_end k all unicode before left e h = sym (h ∙ ap (λ t. joined all (looked unicode before t)) e ∙ looked_none all unicode before)

-- an empty value may be plain
pub allowed_whole : (unicode : Bool) (value : List ℕ) → record {
  plain = is_empty value || (allowed_text unicode value).plain;
  flow_plain = (allowed_text unicode value).flow_plain;
  single = (allowed_text unicode value).single;
  block = (allowed_text unicode value).block;
} ≡ allowed unicode value
unfolding allowed somewhere last_or
allowed_whole unicode [] = refl
allowed_whole unicode (c ∷ cs) = refl

-- the last character of a run, or another one
pub last_none : (before : ℕ) (cs : List ℕ) → cs ≡ [] → before ≡ last_or before cs
unfolding last_or
last_none before cs e = sym (ap (last_or before) e)

pub last_some : (before c : ℕ) (front cs : List ℕ) → cs ≡ front ++ c ∷ [] → c ≡ last_or before cs
last_some before c front cs e = sym (ap (last_or before) e ∙ last_behind before c front)
