-- What a parser of any tokens is.
use Rattle.yaml_scan_model.specs.declared.fault.yaml_fault_t.{yaml_fault_t}
use Rattle.yaml_scan_model.specs.scan_types.Faults.{fault_of}
use Rattle.yaml_parse_model.specs.Events.{Event}
use Rattle.yaml_parse_grammar.specs.Remaining.{ParserRemaining}
use Rattle.yaml_scan_model.specs.declared.tokens.Tokens.{Ghosts}
use Rattle.yaml_parse_states.specs.declared.parser.Parser.{Parser}
use Rattle.yaml_parse_states.specs.Remaining.{remaining_of, tokens_of}
use Rattle.yaml_parse_states.specs.Views.{event_in}

pub record ParserView : Type 0 where
  pub remaining : ParserRemaining
  -- the event that was given last
  pub given : Event

abbrev pub view_of : {T P : Type 0} → Ghosts T P → Parser T P → yaml_fault_t → ParserView
view_of g p f = record {
  remaining = remaining_of g g.held p (g.unasked (tokens_of p)) (fault_of f);
  given = event_in g p;
}
