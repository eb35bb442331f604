use Rattle.yaml_parse_states.specs.Views.{coming_of}
use Rattle.yaml_parse_states.proofs.Turns.{awaits_of, found_refusal}
use Rattle.yaml_parse_states.proofs.parser.Parser.next.Goals as goal

pub returns-in_default-node-clause-steps : goal.returns-in_default-node-clause-steps
returns-in_default-node-clause-steps g c =
    let t = g.T.Tokens in
    let old = c.args.self.now in
    found_refusal t (coming_of t old) c.node.result c.node.new.self c.in_default-node.not-Given
    (c.node.ensures.found (coming_of t old) (awaits_of t c.turn.result old c.turn.new.self c.turn.ensures.turns c.in_default.not-Given c.in_default.not-Refused c.in_default.not-End))

pub returns-in-Given-node-clause-steps : goal.returns-in-Given-node-clause-steps
returns-in-Given-node-clause-steps g c =
    let t = g.T.Tokens in
    let old = c.args.self.now in
    c.in-Given-node.ensures.found (coming_of t old) (awaits_of t c.turn.result old c.turn.new.self c.turn.ensures.turns c.in_default.not-Given c.in_default.not-Refused c.in_default.not-End)
