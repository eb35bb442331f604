-- What the making of marks leaves as it is.
use Rattle.std.specs.Prelude.{◌≡◌, false}
use Rattle.yaml_scan_model.specs.declared.tokens.Tokens.{Ghosts}
use Rattle.yaml_parse_states.specs.declared.parser.Parser.{Parser}

-- the tokens moved nothing
pub record Stays {T P : Type 0} (g : Ghosts T P) (old new : Parser T P) : Type 0 where
  pub same : new ≡ record old { tokens = new.tokens }
  pub to_come : g.to_come new.tokens ≡ g.to_come old.tokens
  pub fault : g.fault_to_come new.tokens ≡ g.fault_to_come old.tokens
  pub texts : g.texts new.tokens ≡ g.texts old.tokens
  pub places : g.mark_of new.tokens ≡ g.mark_of old.tokens
  pub told : g.tells new.tokens false → g.tells old.tokens false
  pub unasked : g.unasked new.tokens ≡ g.unasked old.tokens
  pub held : g.held new.tokens ≡ g.held old.tokens
