-- How characters are counted from place to place.
use Rattle.std.proofs.Common.{◌≡◌, ◌∙◌, ap, sym, subst, ℕ, ◌+◌, ◌-◌, ◌≤◌, List, length, take, drop, ◌++◌, min, arith}
use Rattle.std.specs.Prelude.{slice_range}
use Rattle.std.specs.List.{count_by}
use Rattle.std.proofs.lemmas.List.Sums.{count_by-le-length, sum_by-append, sum_by-take-drop}
use Rattle.std.proofs.lemmas.List.{length-take-le, length-drop, take-append-drop, take_min}
use Rattle.std.proofs.Math.Seq.{take-append-add}
use Rattle.yaml_scan_model.specs.scan_types.Marks.{starts}
use Rattle.yaml_round_answers.specs.Characters.{characters_before}

parted : (text : List ℕ) (a k : ℕ) → a ≤ length text
    → take (a + k) text ≡ take a text ++ take k (drop a text)
parted text a k h =
    ap (λ (t : List ℕ). take (a + k) t) (sym (take-append-drop a text))
    ∙ ap (λ n. take (n + k) (take a text ++ drop a text)) (sym (length-take-le a text h))
    ∙ take-append-add (take a text) (drop a text) k

-- the characters between two places are those before the later one that aren't before the earlier one
pub between : (text : List ℕ) (a b : ℕ) → a ≤ b → a ≤ length text
    → characters_before text b ≡ characters_before text a + count_by starts (slice_range text a b)
between text a b h w =
    let z : b ≡ a + (b - a) = omega (arith, h) in
    ap (characters_before text) z ∙ ap (count_by starts) (parted text a (b - a) w) ∙ sum_by-append _ (take a text) (take (b - a) (drop a text))

pub most : (text : List ℕ) (a : ℕ) → a ≤ length text → characters_before text a ≤ a
most text a h = subst (λ n. characters_before text a ≤ n) (length-take-le a text h) (count_by-le-length starts (take a text))

-- where each byte begins a character, so does each before a place
pub each : (text : List ℕ) (a : ℕ) → count_by starts text ≡ length text → a ≤ length text
    → a ≡ characters_before text a
each text a e h =
    let s : characters_before text a + count_by starts (drop a text) ≡ length text = sum_by-take-drop _ text a ∙ e in
    omega (arith, s, most text a h, count_by-le-length starts (drop a text), length-drop a text)

-- where characters are counted back to an earlier place, no more are taken off than were counted
pub off : (text : List ℕ) (a b m n : ℕ) → a ≤ b → a ≤ length text → m ≡ characters_before text b
    → n ≡ count_by starts (slice_range text a b) → n ≤ m
off text a b m n h w e f = omega (arith, between text a b h w, e, f)

pub went_back : (text : List ℕ) (a b m n : ℕ) → a ≤ b → a ≤ length text
    → m ≡ characters_before text b → n ≡ count_by starts (slice_range text a b)
    → m - n ≡ characters_before text a
went_back text a b m n h w e f = omega (arith, between text a b h w, e, f)

pub went_on : (text : List ℕ) (a b m n : ℕ) → a ≤ b → a ≤ length text → m ≡ characters_before text a
    → n ≡ count_by starts (slice_range text a b) → m + n ≡ characters_before text b
went_on text a b m n h w e f = omega (arith, between text a b h w, e, f)

-- the place within the text
pub nearest : (text : List ℕ) (p a : ℕ) → a ≡ min (length text) p
    → count_by starts text ≡ length text → a ≡ characters_before text p
nearest text p a h e =
    let z : a ≡ min p (length text) = omega (arith, h) in
    let w : a ≤ length text = omega (arith, h) in
    each text a e w ∙ ap (characters_before text) z ∙ ap (count_by starts) (take_min p text)
