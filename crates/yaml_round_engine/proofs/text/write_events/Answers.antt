-- The front is given, and the rest is left.
use Rattle.std.proofs.Common.{◌∙◌, sym, subst, Option}
use Rattle.yaml_scan_types.specs.Faults.{Fault, fault_of}
use Rattle.yaml_round_reading.specs.Reading.{IsFaultOf}
use Rattle.yaml_round_engine.proofs.Giving.{gives}
use Rattle.yaml_round_engine.proofs.text.write_events.Goals as goal

pub returns-in-Err : goal.returns-in-Err
returns-in-Err c = subst (λ (e : Option Fault). IsFaultOf e (fault_of c.in-Err.fault)) (sym c.requires.ending) c.in-Err.ensures

pub events-preserved : goal.events-preserved
events-preserved c =
    let front = c.in-Event.ensures in
    record {
      ending = front.ending ∙ c.events.invariant.ending;
      real = front.real;
      leads = gives c.args.form.now c.args.emitter.now c.events.emitter c.emit_formed.new.emitter c.args.reading.now.parser.events c.events.reading.parser c.next.new.self.parser
          c.next.new.self.given c.events.form c.emit_formed.new.form c.events.invariant.leads front (c.emit_formed.ensures c.next.new.self.given (sym c.event.ensures));
    }
