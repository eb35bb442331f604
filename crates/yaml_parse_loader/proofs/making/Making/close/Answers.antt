use Rattle.std.proofs.Common.{rules, sym}
use Rattle.yaml_parse_model.specs.Parts.{parts_view}
use Rattle.yaml_parse_loader.proofs.Steps.{closes, outside, set_changes}
use Rattle.yaml_parse_loader.proofs.making.Making.close.Goals as goal

pub returns-then-place-len : goal.returns-then-place-len
returns-then-place-len c =
    closes (parts_view c.args.self.now.parts) c.args.self.now.anchors c.args.self.now.parts.nodes.items c.args.self.now.levels.items c.pop.new.self.items
    c.in-Some.level c.args.end_mark c.place-place.result _ c.in-Some.ensures.items c.place-place.ensures
    (set_changes _ _ _ c.index_mut.result.now c.fill_collection.new.node (search rules) c.index_mut.ensures.value c.fill_collection.ensures)

pub returns-else-place-len : goal.returns-else-place-len
returns-else-place-len c =
    closes (parts_view c.args.self.now.parts) c.args.self.now.anchors c.args.self.now.parts.nodes.items c.args.self.now.levels.items c.pop.new.self.items
    c.in-Some.level c.args.end_mark c.place-place.result _ c.in-Some.ensures.items c.place-place.ensures (sym (outside _ _ _ (search rules)))
