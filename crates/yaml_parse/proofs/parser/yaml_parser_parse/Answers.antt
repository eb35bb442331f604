-- What the call into slots finds is handed out. Where a wrong body changes the flow, the search looks for it, without suggestions: for the
-- whole of a fault, and else for what was handed out alone.
use Rattle.std.proofs.Common.{rules}
use Rattle.yaml_scan_model.specs.scan_types.Faults.{fault_of}
use Rattle.yaml_parse_model.specs.Events.{event_of}
use Rattle.yaml_parse.proofs.Handed.{handed_event, handed_fault, handed_utf8, handed_between}
use Rattle.yaml_parse.proofs.parser.yaml_parser_parse.Goals as goal

pub returns-clause-err : goal.returns-clause-err
returns-clause-err g c = search (rules, handed_fault)

pub returns-clause-ok : goal.returns-clause-ok
returns-clause-ok g c =
    let into = c.yaml_parser_parse_into-found in
    handed_event into.result (event_of into.new.event) (fault_of into.new.fault) (fault_of into.new.fault) c.handed_out.result c.args.parser.now into.new.parser into.ensures.finds (search rules)

pub returns-clause-utf8 : goal.returns-clause-utf8
returns-clause-utf8 g c =
    let into = c.yaml_parser_parse_into-found in
    handed_utf8 into.result (event_of into.new.event) (fault_of into.new.fault) c.handed_out.result into.ensures.utf8 (search rules)

pub returns-clause-between : goal.returns-clause-between
returns-clause-between g c =
    let into = c.yaml_parser_parse_into-found in
    handed_between into.result (event_of into.new.event) (fault_of into.new.fault) (fault_of into.new.fault) c.handed_out.result c.args.parser.now into.new.parser into.ensures.finds into.ensures.between (search rules)
