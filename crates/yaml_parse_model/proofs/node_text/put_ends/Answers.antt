use Rattle.std.proofs.Common.{rules, length, ◌-◌, ◌∙◌}
use Rattle.std.proofs.lemmas.List.{take_rest}
use Rattle.yaml_parse_model.proofs.Ends.{ends_are}
use Rattle.yaml_parse_model.proofs.node_text.put_ends.Goals as goal

pub returns-clause-is : goal.returns-clause-is
returns-clause-is c =
    ends_are c.args.text.now c.args.bytes.now c.copy_from_slice.new.self c.copy_from_slice-2.new.self c.args.size _ c.requires.sized.0 c.requires.sized.1
    (search rules)
    (c.copy_from_slice-2.ensures.after ∙ take_rest c.args.text.now (length c.args.text.now - c.args.size))
