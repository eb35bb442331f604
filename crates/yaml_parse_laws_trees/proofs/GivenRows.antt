-- The rows, by running the machine.
use Rattle.std.proofs.Common.{◌≡◌, List, [], ◌∷◌, refl, subst}
use Rattle.yaml_parse_laws_trees.proofs.Words.{feed, run, Told, reading, EventsOfTokens, events_run}
use Rattle.yaml_parse_laws_trees.specs.GivenRows.{EventsRow, rows, AllHold, RowsHold}
use Rattle.yaml_parse_laws_trees.proofs.Giving.{run_gives_events}

abbrev AllRun : List EventsRow → Type 0
AllRun [] = Unit {0}
AllRun (r ∷ rs) = (events_run r.tokens r.own ≡ r.events) × AllRun rs

all_hold : (rs : List EventsRow) → AllRun rs → AllHold rs
all_hold [] h = tt
all_hold (r ∷ rs) h = (subst (λ (z : List Told). EventsOfTokens r.tokens r.own z) h.0 (run_gives_events r.tokens r.own), all_hold rs h.1)

rows_run : AllRun rows
unfolding run feed reading
rows_run = (refl, (refl, (refl, (refl, (refl, tt)))))

pub rows_hold : RowsHold
rows_hold = all_hold rows rows_run
