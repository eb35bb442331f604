-- The rows, by running the machine.
use Rattle.std.proofs.Common.{◌≡◌, List, [], ◌∷◌, None, refl, arith}
use Rattle.yaml_round_content.proofs.Words.{nat_tests, Token, feed, run, reading, directive_for, contents, Document, node_says, items_say, pairs_say, documents_say, stream_says, HaveContent}
use Rattle.yaml_emit_laws.proofs.Ending.{ends_in_fault}
use Rattle.yaml_round_content.proofs.Injective.{says_injective}
use Rattle.yaml_round_content.specs.Rows.{Row, rows, AllHold, RowsHold}
use Rattle.yaml_round_content.proofs.Joining.{reads, tokens_say}

-- the machine reads events that say the content
record Runs (ts : List Token) (c : List Document) : Type 0 where
  right : (reads ts None).ending ≡ None
  says : contents (reads ts None).events ≡ stream_says c

have : (ts : List Token) (c : List Document) → Runs ts c → HaveContent ts c
have ts c h = grind (arith, nat_tests, ends_in_fault, says_injective, tokens_say)

abbrev AllRun : List Row → Type 0
AllRun [] = Unit {0}
AllRun (r ∷ rs) = Runs r.tokens r.content × AllRun rs

all_hold : (rs : List Row) → AllRun rs → AllHold rs
all_hold [] h = tt
all_hold (r ∷ rs) h = (have r.tokens r.content h.0, all_hold rs h.1)

runs : AllRun rows
unfolding run feed reading directive_for node_says items_say pairs_say documents_say
runs = (
  record { right = refl; says = refl },
  (
    record { right = refl; says = refl },
    (
      record { right = refl; says = refl },
      (
        record { right = refl; says = refl },
        (record { right = refl; says = refl }, (record { right = refl; says = refl }, (record { right = refl; says = refl }, tt))),
      ),
    ),
  ),
)

pub rows_hold : RowsHold
rows_hold = all_hold rows runs
