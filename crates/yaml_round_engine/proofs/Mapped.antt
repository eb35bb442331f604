-- Lists that are the same under a function are so at each place.
use Rattle.std.proofs.Common.{◌≡◌, ℕ, ◌<◌, List, length, map, get_or, ap, sym, ◌∙◌}
use Rattle.std.proofs.lemmas.List.{get_or-map}

pub same_at : {X Y : Type 0} (f : X → Y) (xs ys : List X) (i : ℕ) (x y : X) → x ≡ get_or xs i x
    → y ≡ get_or ys i y → i < length xs → i < length ys → map f xs ≡ map f ys → f x ≡ f y
same_at f xs ys i x y hx hy lx ly e =
    ap f hx ∙ sym (get_or-map f xs i x (f x) lx) ∙ ap (λ zs. get_or zs i (f x)) e ∙ get_or-map f ys i y (f x) ly ∙ sym (ap f hy)
