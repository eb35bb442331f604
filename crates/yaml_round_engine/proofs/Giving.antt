-- An event that is given: the text is the same.
use Rattle.std.proofs.Common.{◌∙◌, ap, subst, List}
use Rattle.yaml_parse.specs.Remaining.{ParserRemaining}
use Rattle.yaml_parse.specs.Resolve.{Told}
use Rattle.yaml_parse.specs.Events.{Event}
use Rattle.yaml_emit.specs.Emitter.{Emitter, Completes}
use Rattle.yaml_round_reading.specs.Reading.{GivesNextEvent}
use Rattle.yaml_round_engine.specs.declared.writing.Form.{Form}
use Rattle.yaml_round_engine.specs.Writing.{Gives, LeadsOn, given_in, comes_to_nothing}

pub gives : (w : Form) (first old new : Emitter) (all : List Told) (before after : ParserRemaining)
    (v : Event) (form_old form_new : Form)
    → LeadsOn w first all form_old old before.events → GivesNextEvent v before after
    → Gives form_old old v form_new new
    → LeadsOn w first all form_new new after.events
gives w first old new all before after v form_old form_new l f g = record {
  completes = λ x whole done. g.completes after.unasked after.events x whole (subst (λ (es : List Told). Completes old x (given_in form_old es) whole) f.events (l.completes x whole done));
  limit = g.limit ∙ l.limit;
  beginning = l.beginning ∙ ap (comes_to_nothing form_old) f.events ∙ g.beginning after.unasked after.events;
}
