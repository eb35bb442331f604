use Rattle.std.proofs.Common.{ap, ◌∙◌, map}
use Rattle.std.specs.FinMap as finite
use Rattle.yaml_round_documents.specs.Shapes.{list_of}
use Rattle.yaml_round_documents.proofs.Names.{entry_of, inserted}
use Rattle.yaml_round_documents.proofs.shapes.ShapeTable.insert.Goals as goal

pub returns : goal.returns
returns c =
    ap (λ es. finite.from_entries (map entry_of es)) c.in_ok-insert.ensures.entries
    ∙ inserted c.self.inside.entries.entries c.args.name c.args.number
    ∙ ap (λ m. finite.insert m (list_of c.args.name) c.args.number) c.self.view_is
