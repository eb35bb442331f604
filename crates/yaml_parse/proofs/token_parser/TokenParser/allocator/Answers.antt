-- Between documents one state is alone, as the invariant says: what it gives is documents.
use Rattle.yaml_scan_model.specs.scan_types.Faults.{fault_of}
use Rattle.yaml_parse.proofs.Gives.{parser_falls, parser_loads}
use Rattle.yaml_parse.proofs.token_parser.TokenParser.allocator.Goals as goal

pub returns-clause-loads : goal.returns-clause-loads
returns-clause-loads g c =
    rw (← c.self.view_is)
    (parser_loads g.T.Tokens c.self.inside.parser (fault_of c.self.inside.fault) c.self.invariant.0)

pub returns-clause-falls : goal.returns-clause-falls
returns-clause-falls g c =
    rw (← c.self.view_is)
    (parser_falls g.T.Tokens c.self.inside.parser (fault_of c.self.inside.fault))
