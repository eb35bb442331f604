use Rattle.std.proofs.Common.{ℤ, w32, ap, ◌∙◌, map}
use Rattle.std.specs.FinMap as finite
use Rattle.std.proofs.lemmas.Int.{to_z-of_z}
use Rattle.yaml_parse_loader.proofs.Found.{entry_of, inserted}
use Rattle.yaml_parse_loader.proofs.anchors.AnchorTable.insert.Goals as goal

pub returns-clause-ok : goal.returns-clause-ok
returns-clause-ok c =
    ap (λ es. finite.from_entries (map entry_of es)) c.in_ok-insert.ensures.entries
    ∙ inserted c.self.inside.entries.entries c.args.name _
    ∙ ap (λ (n : ℤ). finite.insert (finite.from_entries (map entry_of c.self.inside.entries.entries)) c.args.name.items n) (to_z-of_z w32 c.args.number c.ranges.number)
    ∙ ap (λ m. finite.insert m c.args.name.items c.args.number) c.self.view_is
