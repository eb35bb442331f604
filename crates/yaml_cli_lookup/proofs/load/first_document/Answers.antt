-- A new parser's first load is that of the input.
use Rattle.yaml_round_reading.specs.Adapter.{remaining_of}
use Rattle.yaml_cli_lookup.proofs.Loading.{first_answers}
use Rattle.yaml_cli_lookup.proofs.load.first_document.Goals as goal

pub returns-in-Ok : goal.returns-in-Ok
returns-in-Ok c =
    first_answers c.args.encoding c.args.input.now (remaining_of c.new.result) c.in-Ok.parser _ c.yaml_parser_load-answer.result
    c.new.ensures.comes c.in-Ok.ensures.events c.in-Ok.ensures.fault
    c.yaml_parser_load-answer.ensures.by_content c.yaml_parser_load-answer.ensures.next c.yaml_parser_load-answer.ensures.refused
