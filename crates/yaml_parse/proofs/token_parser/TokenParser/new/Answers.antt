-- What the states read, in the grammar's words.
use Rattle.yaml_parse_states.specs.Views.{coming_of}
use Rattle.yaml_parse.proofs.Begins.{reads_ending, reads_events, reads_unasked}
use Rattle.yaml_parse.proofs.token_parser.TokenParser.new.Goals as goal

pub returns-clause-events : goal.returns-clause-events
returns-clause-events g c =
    reads_events (g.T.Tokens.to_come c.args.tokens) (g.T.Tokens.fault_to_come c.args.tokens) (coming_of g.T.Tokens c.new.result) c.new.ensures.coming

pub returns-clause-ending : goal.returns-clause-ending
returns-clause-ending g c =
    reads_ending (g.T.Tokens.to_come c.args.tokens) (g.T.Tokens.fault_to_come c.args.tokens) (coming_of g.T.Tokens c.new.result) c.new.ensures.coming

pub returns-clause-told : goal.returns-clause-told
returns-clause-told g c =
    reads_unasked (g.T.Tokens.to_come c.args.tokens) (g.T.Tokens.fault_to_come c.args.tokens) (coming_of g.T.Tokens c.new.result) c.new.ensures.coming

pub invariant_of-result : goal.invariant_of-result
invariant_of-result g c = (c.new.ensures.stands, c.new.ensures.utf8 c.requires)
