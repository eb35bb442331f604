-- What the states give, in the words of what is still to come.
use Rattle.std.proofs.Common.{sym, subst}
use Rattle.yaml_scan_model.specs.scan_types.Faults.{Fault, fault_of}
use Rattle.yaml_parse_model.specs.Prefix.{prefix_of}
use Rattle.yaml_parse_grammar.specs.Remaining.{FaultOf, ParserRemaining}
use Rattle.yaml_parse_states.specs.Members.{members_of}
use Rattle.yaml_parse_states.specs.Turned.{Means}
use Rattle.yaml_parse.proofs.Gives.{gives_end, remains, told_fault}
use Rattle.yaml_parse.specs.Finds.{GivesEnd}
use Rattle.yaml_parse.proofs.parser.yaml_parser_parse_into.Goals as goal

pub returns-in-Err-clause-finds : goal.returns-in-Err-clause-finds
returns-in-Err-clause-finds g c =
    let t = members_of g.S.yaml_token_source_t.to_come g.S.yaml_token_source_t.fault_to_come in
    let f : Fault = fault_of c.told_fault.result in
    let new : ParserRemaining = remains t c.parse_into.new.self (prefix_of c.of-parser-inside.result) in
    subst (λ z. FaultOf z f new) c.parser.view_is
    (told_fault t (prefix_of c.parser.inside.prefix) (prefix_of c.of-parser-inside.result) f c.in-Err.refusal c.parser.inside.parser c.parse_into.new.self c.in-Err.ensures.err
    (λ e m. c.told_fault.ensures e (subst (λ ts. Means t ts c.in-Err.refusal e) (sym c.tokens.ensures) m))
    c.of-parser-inside.ensures)

pub returns-in-Ok-false-clause-finds : goal.returns-in-Ok-false-clause-finds
returns-in-Ok-false-clause-finds g c =
    let t = members_of g.S.yaml_token_source_t.to_come g.S.yaml_token_source_t.fault_to_come in
    let new : ParserRemaining = remains t c.parse_into.new.self (prefix_of c.parser.inside.prefix) in
    let fills = rw c.in-Ok-false.field-0-test at c.in-Ok-false.ensures.fills in
    subst (λ z. GivesEnd z new) c.parser.view_is
    (gives_end t (prefix_of c.parser.inside.prefix) c.parser.inside.parser c.parse_into.new.self fills)
