-- Loops over lists, and the handles of directives, as a set.
use Rattle.std.proofs.Common.{◌≡◌, ℕ, ◌+◌, ◌<◌, ◌≤◌, List, [], ◌∷◌, ◌++◌, length, take, drop, get_or, map, sym, ◌∙◌, ap, Option, None, Some, Bool, true, false, refl}
use Rattle.std.proofs.lemmas.List.{drop_more, drop_all, take_more, map-append}
use Rattle.yaml_parse_model.specs.Events.{TagDirective}
use Rattle.yaml_emit_layout.specs.declared.problem.Problem.{Problem}
use Rattle.yaml_emit_layout.specs.Grammar.{directives_problem, directive_problem, or_else}
use Rattle.std.specs.Prelude.{◌||◌, cond, Ok}
use Rattle.std.specs.Borrow.{Bor}
use Rattle.std.specs.BTreeSet.{insert_key, Updates}
use Rattle.std.specs.declared.cmp.Ordering.{Ordering}
use Rattle.std.specs.declared.cmp.Ordering.TheVariants.{Less, Equal, Greater}
use Rattle.std.specs.Ordering.{match_ordering}
use Rattle.std.specs.List.{list_any}
use Rattle.std.proofs.Math.Bool.{or-true}
use Rattle.std.proofs.lemmas.Map.Text.{is_eq-slice_cmp}
use Rattle.yaml_emit_core.specs.Seen.{HasHandles, Judges, Handles, order, Adds}

pub next_item : {X : Type 0} (xs : List X) (i : ℕ) (y : X) → i < length xs → y ≡ get_or xs i y
    → drop i xs ≡ y ∷ drop (i + 1) xs
next_item xs i y h is = drop_more xs i y h ∙ ap (λ z. z ∷ drop (i + 1) xs) (sym is)

pub next_mapped : {X Y : Type 0} (f : X → Y) (xs : List X) (i : ℕ) (y : X) → i < length xs
    → y ≡ get_or xs i y → map f (drop i xs) ≡ f y ∷ map f (drop (i + 1) xs)
next_mapped f xs i y h is = ap (map f) (next_item xs i y h is)

-- those after which one more comes
pub taken_more : {X Y : Type 0} (f : X → Y) (xs : List X) (i : ℕ) (y : X) → i < length xs
    → y ≡ get_or xs i y → map f (take (i + 1) xs) ≡ map f (take i xs) ++ f y ∷ []
taken_more f xs i y h is = ap (map f) (take_more xs i y h ∙ ap (λ z. take i xs ++ z ∷ []) (sym is)) ∙ map-append f (take i xs) (y ∷ [])

-- the problem of a list by that of one more
pub problem_more : {X : Type 0} (f : X → TagDirective) (r p : Option Problem) (xs : List X) (i : ℕ)
    (y : X) → i < length xs → y ≡ get_or xs i y
    → r ≡ directives_problem (map f (take i xs)) (map f (drop i xs))
    → directive_problem (map f (take i xs)) (f y) ≡ p
    → r ≡ or_else p (directives_problem (map f (take (i + 1) xs)) (map f (drop (i + 1) xs)))
unfolding directives_problem
problem_more f r p xs i y h is e own =
    let behind = map f (drop (i + 1) xs) in
    e ∙ ap (directives_problem (map f (take i xs))) (next_mapped f xs i y h is)
    ∙ ap (λ v. or_else v (directives_problem (map f (take i xs) ++ f y ∷ []) behind)) own
    ∙ ap (λ z. or_else p (directives_problem z behind)) (sym (taken_more f xs i y h is))

pub problem_none : {X : Type 0} (f : X → TagDirective) (r : Option Problem) (xs : List X) (i : ℕ)
    → length xs ≤ i → r ≡ directives_problem (map f (take i xs)) (map f (drop i xs)) → None ≡ r
unfolding directives_problem
problem_none f r xs i h e = sym (e ∙ ap (λ z. directives_problem (map f (take i xs)) (map f z)) (drop_all _ _ h))

-- ---- a set as it grows

absorbed : (a b c : Bool) → b ≡ a → (b || c) ≡ (a || (b || c))
absorbed true b c e = ap (λ z. z || c) e
absorbed false b c e = refl

swapped : (a b c : Bool) → (a || (b || c)) ≡ (b || (a || c))
swapped true b c = sym (or-true b)
swapped false b c = refl

placed : {K : Type 0} (p : K → Bool) (k x : K) (xs ys : List K) (r : Ordering)
    → (r ≡ Equal → p x ≡ p k) → list_any p ys ≡ (p k || list_any p xs)
    → list_any p (match_ordering r (k ∷ x ∷ xs) (x ∷ xs) (x ∷ ys)) ≡ (p k || (p x || list_any p xs))
placed p k x xs ys Less h e = refl
placed p k x xs ys Equal h e = absorbed (p k) (p x) (list_any p xs) (h refl)
placed p k x xs ys Greater h e = ap (λ v. p x || v) e ∙ swapped (p x) (p k) (list_any p xs)

-- a test that answers equal keys alike
pub any_inserted : {K : Type 0} (cmp : K → K → Ordering) (p : K → Bool) (k : K)
    → ((x : K) → cmp k x ≡ Equal → p x ≡ p k) → (ks : List K)
    → list_any p (insert_key cmp ks k) ≡ (p k || list_any p ks)
any_inserted cmp p k h [] = refl
any_inserted cmp p k h (x ∷ xs) = placed p k x xs (insert_key cmp xs k) (cmp k x) (h x) (any_inserted cmp p k h xs)

-- a handle more
either : (a b c : Bool) → a ≡ b → cond a true c ≡ (b || c)
either true b c e = ap (λ z. z || c) e
either false b c e = ap (λ z. z || c) e

pub adds_key : (old new : Handles) (k : Bor (List ℕ)) → Updates order old new k true
    → Adds k old new
adds_key old new k e g = e.0 g ∙ either _ _ _ (is_eq-slice_cmp k.now g.now)

-- ---- a directive after those of the set

pub wrong : (d : TagDirective) (old new : Handles) (r : Option Problem) (p : Problem)
    (ds : List TagDirective) → Judges d old (Ok r) new → r ≡ Some p → HasHandles old ds
    → directive_problem ds d ≡ Some p
wrong d old new None p ds j e h = absurd (cc)
wrong d old new (Some q) p ds j e h = j ds h ∙ e

pub right : (d : TagDirective) (old new : Handles) (r : Option Problem) (ds : List TagDirective)
    → Judges d old (Ok r) new → r ≡ None → HasHandles old ds
    → (directive_problem ds d ≡ None) × HasHandles new (ds ++ d ∷ [])
right d old new None ds j e h = j ds h
right d old new (Some q) ds j e h = absurd (cc)
