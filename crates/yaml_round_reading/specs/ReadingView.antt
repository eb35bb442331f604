-- What a clause sees of a reading: what is to come of its parser, and the event that was given last.
use Rattle.yaml_parse.specs.Events.{Event}
use Rattle.yaml_parse.specs.Remaining.{ParserRemaining}

pub record ReadingView : Type 0 where
  pub parser : ParserRemaining
  pub given : Event
