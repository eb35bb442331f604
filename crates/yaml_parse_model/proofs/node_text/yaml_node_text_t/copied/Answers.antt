use Rattle.yaml_parse_model.proofs.node_text.yaml_node_text_t.copied.Goals as goal

pub returns-then-text-le-WITHIN-clause-is : goal.returns-then-text-le-WITHIN-clause-is
returns-then-text-le-WITHIN-clause-is c = c.kept_short.ensures
