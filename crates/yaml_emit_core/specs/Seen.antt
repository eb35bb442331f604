-- The handles of directives, as a set.
use Rattle.std.specs.Prelude.{◌≡◌, ℕ, Bool, ◌||◌, List, [], ◌∷◌, ◌++◌, nat_eq, Option, Some, None, Result, Ok, Err}
use Rattle.std.specs.Borrow.{Bor}
use Rattle.std.specs.BTreeSet.{BTreeSet, contains}
use Rattle.std.specs.Cmp.Lexicographic.{pointwise, slice_cmp}
use Rattle.std.specs.Ordering.{nat_cmp}
use Rattle.std.specs.declared.cmp.Ordering.{Ordering}
use Rattle.std.specs.List.{list_any}
use Rattle.std.specs.declared.alloc.AllocError.{AllocError}
use Rattle.yaml_parse_model.specs.Events.{TagDirective}
use Rattle.yaml_emit_layout.specs.declared.problem.Problem.{Problem}
use Rattle.yaml_emit_layout.specs.Grammar.{has_handle, directive_problem}

abbrev pub Handles : Type 0
Handles = BTreeSet (Bor (List ℕ))

abbrev pub order : Bor (List ℕ) → Bor (List ℕ) → Ordering
order a b = slice_cmp nat_cmp a.now b.now

abbrev pub is_among : Bor (List ℕ) → Handles → Bool
is_among h s = contains order s h

-- a handle more
abbrev pub Adds : Bor (List ℕ) → Handles → Handles → Type 0
Adds h old new = (g : Bor (List ℕ))
    → is_among g new ≡ (pointwise nat_eq h.now g.now || is_among g old)

-- the set has the handles of these directives, and no others
abbrev pub HasHandles : Handles → List TagDirective → Type 0
HasHandles s ds = (h : Bor (List ℕ)) → is_among h s ≡ list_any (has_handle h.now) ds

-- a directive after those of the set is judged, and where nothing is wrong with it the set has its handle too
abbrev pub Judges : TagDirective → Handles → Result (Option Problem) AllocError → Handles → Type 0
Judges d old (Ok None) new = (ds : List TagDirective) → HasHandles old ds
    → (directive_problem ds d ≡ None) × HasHandles new (ds ++ d ∷ [])
Judges d old (Ok (Some p)) new = (ds : List TagDirective) → HasHandles old ds
    → directive_problem ds d ≡ Some p
Judges d old (Err e) new = Unit {0}
