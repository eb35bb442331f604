-- Handles, prefixes and versions that a parser lets pass are those that an emitter takes.
use Rattle.std.proofs.Common.{◌≡◌, ℕ, suc, ◌-◌, Bool, true, false, ◌||◌, ◌==◌, if◌then◌else◌, List, [], ◌∷◌, ◌++◌, length, get_or, Option, Some, None, refl, sym, ap, subst, ◌∙◌, arith, append_assoc, append-nil}
use Rattle.yaml_round_content.proofs.Words.{nat_tests, common_steps, list_all, list_any, bytes_eq, is_alpha_byte, IsSome, IsHandle, TagDirective, directive_for, directives_problem, AreAlphas, handle_problem, prefix_problem, has_handle, twice_problem, directive_problem, or_both}
use Rattle.yaml_emit_laws.specs.emit_layout.Grammar.{between}
use Rattle.yaml_emit_laws.proofs.Passing.{or_none}

-- ---- a handle

some_one : (n : ℕ) → (suc n == 0) ≡ false
some_one n = grind (arith, nat_tests)

handle_right : (h : List ℕ) → (length h == 0) ≡ false → (get_or h 0 0 == 33) ≡ true
    → (get_or h (length h - 1) 0 == 33) ≡ true → list_all is_alpha_byte (between h) ≡ true
    → handle_problem h ≡ None
unfolding handle_problem
handle_right h a b c d = rw a (rw b (rw c (rw d refl)))

short_handle : handle_problem (33 ∷ []) ≡ None
unfolding handle_problem
short_handle = refl

last_of : (name : List ℕ)
    → get_or (33 ∷ (name ++ (33 ∷ []))) (length (33 ∷ (name ++ (33 ∷ []))) - 1) 0 ≡ 33
last_of name = grind (arith, common_steps)

inner_of : (name : List ℕ) → between (33 ∷ (name ++ (33 ∷ []))) ≡ name
inner_of name = grind (arith, common_steps)

named_handle : (name : List ℕ) → AreAlphas name → handle_problem (33 ∷ (name ++ (33 ∷ []))) ≡ None
named_handle name a =
    handle_right (33 ∷ (name ++ (33 ∷ []))) (some_one (length (name ++ (33 ∷ [])))) refl (rw (last_of name) refl) (ap (list_all is_alpha_byte) (inner_of name) ∙ a)

spelled_handle : (handle : List ℕ) → IsHandle handle → handle_problem handle ≡ None
spelled_handle handle h1 = grind (arith, nat_tests, short_handle, named_handle)

-- ---- no handle twice

by_test : (b : Bool) (prefix : List ℕ) (o : Option (List ℕ)) (more : Bool)
    → (if b then Some prefix else o) ≡ None → (o ≡ None → more ≡ false) → (b || more) ≡ false
by_test b prefix o more e f = grind (arith, nat_tests)

not_twice : (handle : List ℕ) (ds : List TagDirective) → directive_for handle ds ≡ None
    → list_any (has_handle handle) ds ≡ false
unfolding directive_for
not_twice handle [] e = refl
not_twice handle (d ∷ ds) e = by_test (bytes_eq d.handle handle) d.prefix (directive_for handle ds) (list_any (has_handle handle) ds) e (not_twice handle ds)

prefix_right : (prefix : List ℕ) → IsSome prefix → prefix_problem prefix ≡ None
prefix_right prefix h = rw h refl

once : (handle : List ℕ) (ds : List TagDirective) → list_any (has_handle handle) ds ≡ false
    → twice_problem ds handle ≡ None
once handle ds h = rw h refl

directive_right : (ds : List TagDirective) (handle prefix : List ℕ) → IsHandle handle
    → IsSome prefix → directive_for handle ds ≡ None
    → directive_problem ds (record { handle = handle; prefix = prefix }) ≡ None
directive_right ds handle prefix h p n = grind (arith, nat_tests, spelled_handle, prefix_right, once, not_twice)

-- one more after right ones
one_more : (before ds : List TagDirective) (d : TagDirective) → directives_problem before ds ≡ None
    → directive_problem (before ++ ds) d ≡ None → directives_problem before (ds ++ d ∷ []) ≡ None
unfolding directives_problem
one_more before [] d h k = or_none (directive_problem before d) None (subst (λ (z : List TagDirective). directive_problem z d ≡ None) (append-nil before) k) refl
one_more before (x ∷ ds) d h k =
    let both : (directive_problem before x ≡ None) × (directives_problem (before ++ x ∷ []) ds ≡ None) = or_both (directive_problem before x) (directives_problem (before ++ x ∷ []) ds) h in
    or_none (directive_problem before x) (directives_problem (before ++ x ∷ []) (ds ++ d ∷ [])) both.0
    (one_more (before ++ x ∷ []) ds d both.1 (subst (λ (z : List TagDirective). directive_problem z d ≡ None) (sym (append_assoc before (x ∷ []) ds)) k))

pub more_directives : (ds : List TagDirective) (handle prefix : List ℕ) → IsHandle handle
    → IsSome prefix → directive_for handle ds ≡ None → directives_problem [] ds ≡ None
    → directives_problem [] (ds ++ record { handle = handle; prefix = prefix } ∷ []) ≡ None
more_directives ds handle prefix h p n right = one_more [] ds (record { handle = handle; prefix = prefix }) right (directive_right ds handle prefix h p n)
