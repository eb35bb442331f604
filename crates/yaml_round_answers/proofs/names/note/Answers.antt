use Rattle.std.proofs.Common.{ℤ, w32, ap, ◌∙◌, map}
use Rattle.std.specs.FinMap as finite
use Rattle.std.proofs.lemmas.Int.{to_z-of_z}
use Rattle.yaml_parse_loader.proofs.Found as found
use Rattle.yaml_round_answers.proofs.names.note.Goals as goal

pub returns : goal.returns
returns c =
    ap (λ es. finite.from_entries (map found.entry_of es)) c.in_ok-insert.ensures.entries
    ∙ found.inserted c.args.names.now.entries.entries c.args.name _
    ∙ ap (λ (n : ℤ). finite.insert (finite.from_entries (map found.entry_of c.args.names.now.entries.entries)) c.args.name.items n) (to_z-of_z w32 c.args.number c.ranges.number)
