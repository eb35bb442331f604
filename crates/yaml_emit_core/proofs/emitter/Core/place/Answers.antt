use Rattle.std.proofs.Common.{◌∙◌, ap, sym}
use Rattle.std.specs.Prelude.{Option}
use Rattle.yaml_emit_layout.specs.declared.problem.Problem.{Problem}
use Rattle.yaml_emit_core.specs.Levels.{place_of}
use Rattle.yaml_emit_core.specs.Views.{place_by}
use Rattle.yaml_emit_core.proofs.emitter.Core.place.Goals as goal

pub returns-in-Some : goal.returns-in-Some
returns-in-Some c = let s = c.self.inside in rw (← c.self.view_is) (sym (ap (λ (z : Option Problem). place_by z (place_of s.levels.state s.unended)) c.in-Some.is))

pub returns-in-None : goal.returns-in-None
returns-in-None c = let s = c.self.inside in rw (← c.self.view_is) (c.place.ensures ∙ sym (ap (λ (z : Option Problem). place_by z (place_of s.levels.state s.unended)) c.in-None.is))
