-- The rows, by loading them.
use Rattle.std.proofs.Common.{◌≡◌, ℤ, pos, List, [], ◌∷◌, Option, Some, codes, refl, ap, subst}
use Rattle.std.specs.FinMap as map
use Rattle.yaml_parse_laws_trees.proofs.Words.{nat_cmp, slice_cmp, nat_list_cmp_total, yaml_mark_t, Fault, problem_text_of, context_text_of, context_place, feed, run, initial, no_directives, reading, directive_for, reading_of, FaultRow, Loading, nothing_loaded, aliased, FaultOfLoading, column, undefined_alias, attach}
use Rattle.yaml_parse_laws_trees.specs.Rows.{alias_rows, parser_rows, right_rows, AllHold, RowsHold}
use Rattle.yaml_parse_laws_trees.proofs.Ends.{fault_on, fault_of_loads}
use Rattle.yaml_parse_laws_trees.proofs.ItemsLoaded.{ends_in}
use Rattle.yaml_parse_laws_trees.proofs.LoadingEnding.{steps_end_in_fault}

abbrev AllLoad : List FaultRow → Type 0
AllLoad [] = Unit {0}
AllLoad (r ∷ rs) = (ends_in (reading_of (run r.tokens initial r.own) no_directives) nothing_loaded ≡ r.fault) × AllLoad rs

all_hold : (rs : List FaultRow) → AllLoad rs → AllHold rs
all_hold [] h = tt
all_hold (r ∷ rs) h = (subst (λ (z : Option Fault). FaultOfLoading r.tokens r.own z) h.0 (steps_end_in_fault r.tokens r.own), all_hold rs h.1)

not_told : (at : yaml_mark_t) (l : Loading) (k : Loading → Option Fault)
    → fault_on (aliased (map.get nothing_loaded.anchors (codes "b")) at l) k
    ≡ Some (undefined_alias at)
not_told at l k = ap (λ (o : Option ℤ). fault_on (aliased o at l) k) (map.get-empty (slice_cmp nat_cmp) (codes "b"))

goes : (at : yaml_mark_t) (l : Loading) (k : Loading → Option Fault)
    → fault_on (aliased (map.get (map.insert nothing_loaded.anchors (codes "b") (pos 1))
    (codes "b")) at l) k ≡ k (record l { levels = attach (pos 1) l.levels })
goes at l k = ap (λ (o : Option ℤ). fault_on (aliased o at l) k) (map.get-insert nat_list_cmp_total nothing_loaded.anchors (codes "b") (pos 1) (codes "b"))

aliases_load : AllLoad alias_rows
unfolding run feed reading directive_for problem_text_of context_text_of context_place fault_of_loads
aliases_load = (not_told (column 1) _ _, (not_told (column 2) _ _, (not_told (column 2) _ _, (not_told (column 4) _ _, tt))))

parser_load : AllLoad parser_rows
unfolding run feed reading directive_for problem_text_of context_text_of context_place fault_of_loads
parser_load = (refl, (refl, tt))

right_load : AllLoad right_rows
unfolding run feed reading directive_for problem_text_of context_text_of context_place fault_of_loads
right_load = (goes (column 3) _ _, (goes (column 3) _ _, tt))

pub rows : RowsHold
rows = (all_hold alias_rows aliases_load, (all_hold parser_rows parser_load, all_hold right_rows right_load))
