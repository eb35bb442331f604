-- Between documents one state is alone, as the invariant says: what it gives is documents.
use Rattle.yaml_parse_model.specs.Prefix.{prefix_of}
use Rattle.yaml_parse_states.specs.Members.{members_of}
use Rattle.yaml_parse.proofs.Gives.{parser_falls, parser_loads}
use Rattle.yaml_parse.proofs.parser.yaml_parser_t.allocator.Goals as goal

pub returns-clause-loads : goal.returns-clause-loads
returns-clause-loads g c =
    rw (← c.self.view_is)
    (parser_loads (members_of g.S.yaml_token_source_t.to_come g.S.yaml_token_source_t.fault_to_come) c.self.inside.parser (prefix_of c.self.inside.prefix) c.self.invariant.0)

pub returns-clause-falls : goal.returns-clause-falls
returns-clause-falls g c =
    rw (← c.self.view_is)
    (parser_falls (members_of g.S.yaml_token_source_t.to_come g.S.yaml_token_source_t.fault_to_come) c.self.inside.parser (prefix_of c.self.inside.prefix))
