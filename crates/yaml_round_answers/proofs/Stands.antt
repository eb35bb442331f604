-- Stands by records.
use Rattle.std.proofs.Common.{◌≡◌, ℕ, ◌+◌, ◌<◌, ◌≤◌, ◌^◌, get_or, drop, map, Bool, true, false, ◌&&◌, List, [], ◌∷◌, ◌++◌, length, refl, sym, ap, ◌∙◌, arith, append-nil, append_assoc, Option, None, Some, is_some}
use Rattle.std.specs.Prelude.{nat_lt, option_map}
use Rattle.std.specs.List.{list_all}
use Rattle.std.proofs.lemmas.Bool.Decides.{nat_tests}
use Rattle.std.proofs.lemmas.List.{drop_all}
use Rattle.yaml_parse.specs.Events.{TagDirective}
use Rattle.yaml_emit.specs.emit_layout.declared.Cursor.{Cursor}
use Rattle.yaml_emit.specs.emit_layout.declared.Encoding.{Encoding}
use Rattle.yaml_emit.specs.emit_layout.declared.Expected.{Expected}
use Rattle.yaml_emit.specs.emit_layout.declared.Level.{Level}
use Rattle.yaml_emit.specs.emit_layout.declared.Phase.{Phase}
use Rattle.yaml_emit.specs.emit_layout.declared.Phase.TheVariants.{Items, Keys, Value}
use Rattle.yaml_emit.specs.emit_core.Levels.{stack}
use Rattle.yaml_round_answers.specs.declared.record.yaml_c_directive.{yaml_c_directive}
use Rattle.yaml_round_answers.specs.declared.standing.yaml_c_level.{yaml_c_level}
use Rattle.yaml_round_answers.specs.declared.standing.yaml_c_place.{yaml_c_place}
use Rattle.yaml_round_answers.specs.Numbers.{is_set}
use Rattle.yaml_round_answers.specs.Records.{directive_by, directive_at, in_front, all_directives}
use Rattle.yaml_round_answers.specs.Standing.{At, at_if, at_by, at_meant, stand_if, stand_meant, phase_meant, phase_number, level_by, level_meant, level_told, level_in_front, levels_meant, spelling_meant, place_meant, innermost_meant}
use Rattle.yaml_round_answers.proofs.Checked.{left_cons}

-- ---- whether all of a list mean something

front_level : (l : Option Level) (ls : Option (List Level))
    → is_some (level_in_front l ls) ≡ (is_some l && is_some ls)
front_level None ls = refl
front_level (Some l) None = refl
front_level (Some l) (Some ls) = refl

pub levels_tested : (ls : List yaml_c_level)
    → list_all (λ l. is_some (level_meant l)) ls ≡ is_some (levels_meant ls)
unfolding levels_meant
levels_tested [] = refl
levels_tested (l ∷ ls) =
    ap (λ b. is_some (level_meant l) && b) (levels_tested ls) ∙ sym (front_level (level_meant l) (levels_meant ls))

no_levels : levels_meant [] ≡ Some []
unfolding levels_meant
no_levels = refl

front_directive : (d : Option TagDirective) (ds : Option (List TagDirective))
    → is_some (in_front d ds) ≡ (is_some d && is_some ds)
front_directive None ds = refl
front_directive (Some d) None = refl
front_directive (Some d) (Some ds) = refl

pub spans_tested : (bytes : List ℕ) (list : List yaml_c_directive)
    → list_all (λ d. is_some (directive_at bytes d)) list ≡ is_some (all_directives bytes list)
unfolding all_directives
spans_tested bytes [] = refl
spans_tested bytes (d ∷ ds) =
    ap (λ b. is_some (directive_at bytes d) && b) (spans_tested bytes ds) ∙ sym (front_directive (directive_at bytes d) (all_directives bytes ds))

pub both_spans : (h p : Option (List ℕ)) → (is_some h && is_some p) ≡ is_some (directive_by h p)
both_spans None p = refl
both_spans (Some h) None = refl
both_spans (Some h) (Some p) = refl

-- ---- levels

-- whatever follows, these come before it
abbrev pub FrontLevels : List yaml_c_level → List Level → List yaml_c_level → Type 0
FrontLevels ls front left = (rest : List Level) → levels_meant left ≡ Some rest → levels_meant ls ≡ Some (front ++ rest)

pub levels_start : (ls : List yaml_c_level) (front : List Level) → front ≡ []
    → FrontLevels ls front ls
levels_start ls front none = λ rest h. h ∙ ap (λ (ys : List Level). Some (ys ++ rest)) (sym none)

one_level : (l : yaml_c_level) (ls : List yaml_c_level) (x : Level) (rest : List Level)
    → level_meant l ≡ Some x → levels_meant ls ≡ Some rest → levels_meant (l ∷ ls) ≡ Some (x ∷ rest)
unfolding levels_meant
one_level l ls x rest is h = ap (λ o. level_in_front o (levels_meant ls)) is ∙ ap (level_in_front (Some x)) h

pub levels_more : (ls : List yaml_c_level) (i : ℕ) (d : yaml_c_level) (x : Level)
    (front new : List Level) → i < length ls → FrontLevels ls front (drop i ls)
    → level_meant (get_or ls i d) ≡ Some x → new ≡ front ++ x ∷ []
    → FrontLevels ls new (drop (i + 1) ls)
levels_more ls i d x front new h inv is added = λ rest left.
    inv (x ∷ rest) (ap levels_meant (left_cons ls i d h) ∙ one_level (get_or ls i d) (drop (i + 1) ls) x rest is left)
    ∙ ap (λ (ys : List Level). Some ys) (sym (append_assoc front (x ∷ []) rest) ∙ ap (λ (ys : List Level). ys ++ rest) (sym added))

pub levels_all : (ls : List yaml_c_level) (i : ℕ) (front : List Level) → length ls ≤ i
    → FrontLevels ls front (drop i ls) → levels_meant ls ≡ Some front
levels_all ls i front h inv = inv [] (ap levels_meant (drop_all i ls h) ∙ no_levels) ∙ ap (λ (ys : List Level). Some ys) (append-nil front)

-- the number of a phase means it
phase_back : (p : Phase) (flow : Bool) → phase_meant (phase_number p flow) ≡ Some (p, flow)
unfolding phase_meant
phase_back (Items true) true = refl
phase_back (Items false) true = refl
phase_back (Keys true) true = refl
phase_back (Keys false) true = refl
phase_back (Value true) true = refl
phase_back (Value false) true = refl
phase_back (Items true) false = refl
phase_back (Items false) false = refl
phase_back (Keys true) false = refl
phase_back (Keys false) false = refl
phase_back (Value true) false = refl
phase_back (Value false) false = refl

pub level_back : (l : Level) → level_meant (level_told l) ≡ Some l
level_back l = ap (λ o. level_by o l.indent) (phase_back l.phase l.flow)

-- the records of levels mean them
pub levels_back : (ls : List Level) → levels_meant (map level_told ls) ≡ Some ls
unfolding levels_meant
levels_back [] = refl
levels_back (l ∷ ls) = ap (λ o. level_in_front o (levels_meant (map level_told ls))) (level_back l) ∙ ap (level_in_front (Some l)) (levels_back ls)

-- ---- a checkpoint

off_and : (b : Bool) → false ≡ (b && false)
off_and true = refl
off_and false = refl

if_some : (b : Bool) (a : At) → is_some (at_if b a) ≡ (b && true)
if_some true a = refl
if_some false a = refl

pub at_is : (x : Option Encoding) (p : Option Expected) (i : Option (Option Level))
    (ls : Option (List Level)) (ds : Option (List TagDirective)) (r : yaml_c_place)
    → is_some (at_by x p i ls ds r)
    ≡ ((is_some x && (is_some p && (is_some i && nat_lt r.column (2 ^ 62))))
    && (is_some ls && is_some ds))
at_is None p i ls ds r = refl
at_is (Some x) None i ls ds r = refl
at_is (Some x) (Some p) None ls ds r = refl
at_is (Some x) (Some p) (Some i) None ds r = off_and (nat_lt r.column (2 ^ 62))
at_is (Some x) (Some p) (Some i) (Some ls) None r = off_and (nat_lt r.column (2 ^ 62))
at_is (Some x) (Some p) (Some i) (Some ls) (Some ds) r = if_some (nat_lt r.column (2 ^ 62)) _

pub some_map : {X : Type 0} (o : Option X) → is_some (option_map (λ z. Some z) o) ≡ is_some o
some_map None = refl
some_map (Some x) = refl

-- an encoding that is there makes it a checkpoint at which events were given
pub stand_there : (b : Bool) (o : Option At) → b ≡ true
    → stand_if b o ≡ option_map Some o
stand_there true o h = refl
stand_there false o h = absurd (cc)

and_first : (b : Bool) → (b && true) ≡ true → b ≡ true
and_first true h = refl
and_first false h = h

pub few_at : (x : Option Encoding) (p : Option Expected) (i : Option (Option Level))
    (ls : Option (List Level)) (ds : Option (List TagDirective)) (r : yaml_c_place)
    → is_some (at_by x p i ls ds r) ≡ true → nat_lt r.column (2 ^ 62) ≡ true
few_at None p i ls ds r h = absurd (cc)
few_at (Some x) None i ls ds r h = absurd (cc)
few_at (Some x) (Some p) None ls ds r h = absurd (cc)
few_at (Some x) (Some p) (Some i) None ds r h = absurd (cc)
few_at (Some x) (Some p) (Some i) (Some ls) None r h = absurd (cc)
few_at (Some x) (Some p) (Some i) (Some ls) (Some ds) r h = and_first _ (sym (if_some (nat_lt r.column (2 ^ 62)) _) ∙ h)

if_true : (b : Bool) (a : At) → b ≡ true → at_if b a ≡ Some a
if_true true a h = refl
if_true false a h = absurd (cc)

abbrev pub cursor_by : yaml_c_place → Cursor
cursor_by r = record {
  column = r.column;
  white = is_set r.white;
  bare = is_set r.bare;
  kept = is_set r.kept;
}

-- what is meant by numbers and lists that mean something
pub at_there : (r : yaml_c_place) (ls : List yaml_c_level) (list : List yaml_c_directive)
    (bytes : List ℕ) (x : Encoding) (p : Expected) (i : Option Level) (levels : List Level)
    (ds : List TagDirective) → spelling_meant r.encoding ≡ Some x
    → place_meant r.state (is_set r.implicit) ≡ Some p → innermost_meant r.innermost ≡ Some i
    → levels_meant ls ≡ Some levels → all_directives bytes list ≡ Some ds → r.column < 2 ^ 62
    → at_meant r ls list bytes ≡ Some (record {
      encoding = x;
      state = record { place = p; levels = stack i levels; directives = ds };
      cursor = cursor_by r;
    })
at_there r ls list bytes x p i levels ds a b c d e few =
    let lt : nat_lt r.column (2 ^ 62) ≡ true = grind (arith, nat_tests, few) in
    ap (λ o. at_by o (place_meant r.state (is_set r.implicit)) (innermost_meant r.innermost) (levels_meant ls) (all_directives bytes list) r) a
    ∙ ap (λ o. at_by (Some x) o (innermost_meant r.innermost) (levels_meant ls) (all_directives bytes list) r) b
    ∙ ap (λ o. at_by (Some x) (Some p) o (levels_meant ls) (all_directives bytes list) r) c
    ∙ ap (λ o. at_by (Some x) (Some p) (Some i) o (all_directives bytes list) r) d
    ∙ ap (λ o. at_by (Some x) (Some p) (Some i) (Some levels) o r) e
    ∙ if_true (nat_lt r.column (2 ^ 62)) _ lt

-- ---- whether a checkpoint is meant

some_if_set : (b : Bool) (o : Option At) (v : Bool) → b ≡ true → v ≡ is_some o
    → v ≡ is_some (stand_if b o)
some_if_set true o v h is = is ∙ sym (some_map o)
some_if_set false o v h is = absurd (cc)

some_if_unset : (b : Bool) (o : Option At) → b ≡ false → true ≡ is_some (stand_if b o)
some_if_unset true o h = absurd (cc)
some_if_unset false o h = refl

pub stand_is : (r : yaml_c_place) (ls : List yaml_c_level) (list : List yaml_c_directive)
    (bytes : List ℕ) (b v : Bool) → b ≡ is_set r.encoding → b ≡ true
    → v ≡ is_some (at_meant r ls list bytes) → v ≡ is_some (stand_meant r ls list bytes)
unfolding stand_meant
stand_is r ls list bytes b v is on h = some_if_set (is_set r.encoding) (at_meant r ls list bytes) v (sym is ∙ on) h

pub first_is : (r : yaml_c_place) (ls : List yaml_c_level) (list : List yaml_c_directive)
    (bytes : List ℕ) (b : Bool) → b ≡ is_set r.encoding → b ≡ false
    → true ≡ is_some (stand_meant r ls list bytes)
unfolding stand_meant
first_is r ls list bytes b is off = some_if_unset (is_set r.encoding) (at_meant r ls list bytes) (sym is ∙ off)
