use Rattle.std.proofs.Common.{◌∙◌, refl, rules}
use Rattle.yaml_emit_layout.specs.Layout.{stay}
use Rattle.yaml_emit_core.proofs.Noting.{notes_starved}
use Rattle.yaml_emit_machine.proofs.Opened.{inside_starves}
use Rattle.yaml_emit_machine.proofs.emitter.yaml_emitter_t.starve.Goals as goal

pub invariant_of-self : goal.invariant_of-self
invariant_of-self c =
    let fr = rw (← c.self.view_is) at c.requires.begun in
    record {
      faulty = search rules;
      few = search rules;
      texts = search rules;
      begun = search rules;
      limited = (c.starve.ensures.text stay).limit ∙ c.self.invariant.limited;
      running = search rules;
      forced = search rules;
      memory = search rules;
    }

pub returns-clause-dumps : goal.returns-clause-dumps
returns-clause-dumps c = λ es.
    let fr = rw (← c.self.view_is) at c.requires.begun in
    rw (← c.self.view_is) (record {
      takes = inside_starves c.self.inside c.starve.new.self _ es fr c.starve.ensures;
      memory = notes_starved c.self.inside.core c.starve.new.self c.starve.ensures;
      keeps = (refl, refl);
    })

pub returns-clause-stopped : goal.returns-clause-stopped
returns-clause-stopped c = c.starve.ensures.stopped
