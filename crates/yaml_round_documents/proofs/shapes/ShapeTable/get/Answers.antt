use Rattle.std.proofs.Common.{ap, ◌∙◌}
use Rattle.std.specs.FinMap as map
use Rattle.yaml_round_documents.specs.Shapes.{list_of}
use Rattle.yaml_round_documents.proofs.Names.{found}
use Rattle.yaml_round_documents.proofs.shapes.ShapeTable.get.Goals as goal

pub returns : goal.returns
returns c = c.copied.ensures ∙ c.get.ensures.value ∙ found c.args.name.now c.self.inside.entries.entries ∙ ap (λ m. map.get m (list_of c.args.name.now)) c.self.view_is
