-- Events that are drawn one after another.
use Rattle.std.proofs.Common.{◌≡◌, ℕ, ◌+◌, ◌<◌, ◌≤◌, length, get_or, drop, add-one, Bool, true, false, List, [], ◌∷◌, ◌++◌, refl, sym, ap, ◌∙◌, Option, None, Some, append-nil, append_assoc}
use Rattle.std.proofs.Math.Seq.{drop-cons}
use Rattle.std.proofs.lemmas.List.{drop_all}
use Rattle.yaml_round_answers.specs.declared.graph_record.yaml_c_step.{yaml_c_step}
use Rattle.yaml_round_answers.specs.declared.graph_record.yaml_c_spot.{yaml_c_spot}
use Rattle.std.specs.Prelude.{Ok}
use Rattle.yaml_round_answers.specs.Composing.{name_at, Sketch, drawn, Draws, drawn_on, all_drawn}

-- ---- what the events come to

-- these come before what is left
abbrev pub put_before : List yaml_c_spot → List yaml_c_spot × Bool → List yaml_c_spot × Bool
put_before xs r = (xs ++ r.0, r.1)

left_drawn : (bytes : List ℕ) (rs : List yaml_c_step) (i : ℕ) (d : yaml_c_step) (s : Sketch)
    → i < length rs
    → all_drawn bytes (drop i rs) s
    ≡ drawn_on (drawn (get_or rs i d).kind (name_at bytes (get_or rs i d)) s) (all_drawn bytes (drop (i + 1) rs))
unfolding all_drawn
left_drawn bytes rs i d s h =
    ap (λ z. all_drawn bytes z s) (drop-cons rs i d h)
    ∙ ap (λ (k : ℕ). drawn_on (drawn (get_or rs i d).kind (name_at bytes (get_or rs i d)) s) (all_drawn bytes (drop k rs))) (sym (add-one i))

pub drawn_more : (bytes : List ℕ) (rs : List yaml_c_step) (i : ℕ) (d : yaml_c_step)
    (s t : Sketch) (all : List yaml_c_spot × Bool) (xs ys : List yaml_c_spot) (x : yaml_c_spot)
    → i < length rs → all ≡ put_before xs (all_drawn bytes (drop i rs) s)
    → drawn (get_or rs i d).kind (name_at bytes (get_or rs i d)) s ≡ Some (x, t)
    → ys ≡ xs ++ x ∷ [] → all ≡ put_before ys (all_drawn bytes (drop (i + 1) rs) t)
drawn_more bytes rs i d s t all xs ys x h inv is added =
    let rest = all_drawn bytes (drop (i + 1) rs) in
    inv ∙ ap (put_before xs) (left_drawn bytes rs i d s h ∙ ap (λ z. drawn_on z rest) is)
    ∙ ap (λ (z : List yaml_c_spot). (z, (rest t).1)) (sym (append_assoc xs (x ∷ []) (rest t).0) ∙ ap (λ z. z ++ (rest t).0) (sym added))

pub drawn_stops : (bytes : List ℕ) (rs : List yaml_c_step) (i : ℕ) (d : yaml_c_step) (s : Sketch)
    (all : List yaml_c_spot × Bool) (xs : List yaml_c_spot) → i < length rs
    → all ≡ put_before xs (all_drawn bytes (drop i rs) s)
    → drawn (get_or rs i d).kind (name_at bytes (get_or rs i d)) s ≡ None
    → (xs, false) ≡ all
drawn_stops bytes rs i d s all xs h inv is =
    sym (inv ∙ ap (put_before xs) (left_drawn bytes rs i d s h ∙ ap (λ z. drawn_on z (all_drawn bytes (drop (i + 1) rs))) is)
    ∙ ap (λ (z : List yaml_c_spot). (z, false)) (append-nil xs))

no_drawn : (bytes : List ℕ) (s : Sketch) → all_drawn bytes [] s ≡ ([], true)
unfolding all_drawn
no_drawn bytes s = refl

pub drawn_end : (bytes : List ℕ) (rs : List yaml_c_step) (i : ℕ) (s : Sketch)
    (all : List yaml_c_spot × Bool) (xs : List yaml_c_spot) → length rs ≤ i
    → all ≡ put_before xs (all_drawn bytes (drop i rs) s) → (xs, true) ≡ all
drawn_end bytes rs i s all xs h inv =
    sym (inv ∙ ap (put_before xs) (ap (λ z. all_drawn bytes z s) (drop_all i rs h) ∙ no_drawn bytes s)
    ∙ ap (λ (z : List yaml_c_spot). (z, true)) (append-nil xs))

pub drawn_none : (d : Option (yaml_c_spot × Sketch)) (o : Option yaml_c_spot) (s : Sketch)
    → Draws d (Ok o) s → o ≡ None → d ≡ None
drawn_none d None s h e = h
drawn_none d (Some x) s h e = absurd (cc)

pub drawn_some : (d : Option (yaml_c_spot × Sketch)) (o : Option yaml_c_spot) (s : Sketch)
    (x : yaml_c_spot) → Draws d (Ok o) s → o ≡ Some x → d ≡ Some (x, s)
drawn_some d None s x h e = absurd (cc)
drawn_some d (Some y) s x h e =
    let same : y ≡ x = cc in
    h ∙ ap (λ (z : yaml_c_spot). Some (z, s)) same
