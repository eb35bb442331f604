-- The rows, by running the machine.
use Rattle.std.proofs.Common.{◌≡◌, List, [], ◌∷◌, Option, refl, subst}
use Rattle.yaml_parse_laws_trees.proofs.Words.{Fault, problem_text_of, context_text_of, context_place, feed, run, initial, no_directives, reading, directive_for, reading_of, FaultOfTokens, FaultRow, grammar_rows, directive_rows, other_rows, AllHold, RowsHold}
use Rattle.yaml_parse_laws_trees.proofs.Ending.{ends_in_fault}

abbrev AllRun : List FaultRow → Type 0
AllRun [] = Unit {0}
AllRun (r ∷ rs) = ((reading_of (run r.tokens initial r.own) no_directives).ending ≡ r.fault) × AllRun rs

all_hold : (rs : List FaultRow) → AllRun rs → AllHold rs
all_hold [] h = tt
all_hold (r ∷ rs) h = (subst (λ (z : Option Fault). FaultOfTokens r.tokens r.own z) h.0 (ends_in_fault r.tokens r.own), all_hold rs h.1)

grammar_run : AllRun grammar_rows
unfolding run feed reading directive_for problem_text_of context_text_of context_place
grammar_run = (refl, (refl, (refl, (refl, (refl, (refl, (refl, (refl, tt))))))))

directives_run : AllRun directive_rows
unfolding run feed reading directive_for problem_text_of context_text_of context_place
directives_run = (refl, (refl, (refl, (refl, (refl, tt)))))

others_run : AllRun other_rows
unfolding run feed reading directive_for problem_text_of context_text_of context_place
others_run = (refl, (refl, tt))

pub rows : RowsHold
rows = (all_hold grammar_rows grammar_run, (all_hold directive_rows directives_run, all_hold other_rows others_run))
