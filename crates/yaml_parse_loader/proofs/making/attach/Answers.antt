use Rattle.std.proofs.Common.{w32, ◌≡◌, ◌<◌, ◌-◌, suc, length, rules, ◌∙◌, arith}
use Rattle.std.proofs.lemmas.Int.{to_z-of_z}
use Rattle.std.specs.Vec.{vec_len}
use Rattle.yaml_parse_loader.proofs.Steps.{attaches}
use Rattle.yaml_parse_loader.proofs.making.attach.Goals as goal

pub returns-in-Some : goal.returns-in-Some
returns-in-Some c =
    let some : 0 < vec_len c.args.levels.now = search rules in
    let last : suc (vec_len c.args.levels.now - 1) ≡ length c.args.levels.now.items = omega arith ∙ c.args.levels.now.ok.0 in
    attaches c.args.number _ c.args.levels.now.items (vec_len c.args.levels.now - 1) c.in-Some.level.now c.attach_to.new.level c.attach_to.result (to_z-of_z w32 c.args.number c.ranges.number) last
    c.in-Some.ensures.value c.attach_to.ensures
