-- What a clause sees of an emitter, by the state of the code, and what is true of that state.
use Rattle.std.specs.Prelude.{◌≡◌, true, false, [], None, option_map}
use Rattle.yaml_scan_model.specs.scan_types.Faults.{fault_of}
use Rattle.yaml_emit_layout.specs.declared.Status.TheVariants.{Going}
use Rattle.yaml_emit_core.specs.Steps.{state_of, settings_of, goes_on}
use Rattle.yaml_emit_machine.specs.declared.emitter.yaml_emitter_t.TheInside.{Inside}
use Rattle.yaml_emit_machine.specs.Held.{held_events, HeldUtf8, is_ready}
use Rattle.yaml_emit_machine.specs.Emitter.{Emitter, refusal_by, settings_in}

abbrev pub emitter_of : Inside → Emitter
emitter_of e = record {
  requested_settings = e.requested_settings;
  limit = e.core.sink.limit;
  held = held_events e.held;
  output = e.core.sink.bytes;
  fresh = e.fresh;
  opened = e.opened;
  closed = e.closed;
  fault = option_map
      fault_of e.fault;
  course = record {
    settings = settings_of e.core;
    state = state_of e.core;
    cursor = e.core.sink.cursor;
  };
  status = e.core.sink.status;
  starved = e.core.starved;
}

pub record IsEmitter (e : Inside) : Type 0 where
  -- the fault is the first that laying out met
  pub faulty : option_map fault_of e.fault
      ≡ refusal_by e.core.place e.core.sink.status e.core.starved
  pub few : goes_on e.core.sink.status e.core.place ≡ true → is_ready (held_events e.held) ≡ false
  pub texts : HeldUtf8 e.held
  pub begun : e.fresh ≡ true → (held_events e.held ≡ [])
      × ((option_map fault_of e.fault ≡ None)
      × ((e.core.sink.bytes ≡ []) × (e.core.sink.status ≡ Going)))
  pub limited : e.core.sink.limit ≡ e.limit
  pub running : e.opened ≡ true → e.fresh ≡ false
  -- from the first event on the settings are those that were asked for
  pub forced : e.fresh ≡ false
      → settings_of e.core ≡ settings_in e.requested_settings e.core.sink.encoding
  pub memory : e.core.sink.status ≡ Going → e.core.starved ≡ false
