-- An emitter that continues from another one's checkpoint.
use Rattle.std.specs.Prelude.{◌≡◌, ℕ, nat_le, Bool, false, List, [], length, None}
use Rattle.yaml_parse_model.specs.Events.{TagDirective}
use Rattle.yaml_emit_layout.specs.declared.Status.TheVariants.{Going}
use Rattle.yaml_emit_layout.specs.declared.RequestedSettings.{RequestedSettings}
use Rattle.yaml_emit_layout.specs.declared.Level.{Level}
use Rattle.yaml_emit_layout.specs.Nodes.{MOST}
use Rattle.yaml_emit_layout.specs.State.{top_of}
use Rattle.yaml_emit_core.specs.declared.yaml_emitter_stand_t.{yaml_emitter_stand_t}
use Rattle.yaml_emit_core.specs.Standing.{state_at}
use Rattle.yaml_emit_machine.specs.Emitter.{Emitter, Course, settings_in}

-- it is indented by no more than the most columns
abbrev pub is_narrow : Level → Bool
is_narrow l = nat_le l.indent MOST

-- how the text goes on from there
abbrev pub course_at : RequestedSettings → yaml_emitter_stand_t → List Level → List TagDirective
    → Course
course_at w stand outer directives = record {
  settings = settings_in w stand.encoding;
  state = state_at stand outer directives;
  cursor = stand.cursor;
}

-- It goes on from there, under settings that were asked for, except the encoding, which is that in which the text began. No event
-- is held, and nothing is written.
abbrev pub resumed : RequestedSettings → ℕ → yaml_emitter_stand_t → List Level → List TagDirective
    → Emitter
resumed w limit stand outer directives = record {
  requested_settings = w;
  limit = limit;
  held = [];
  output = [];
  fresh = false;
  opened = false;
  closed = false;
  fault = None;
  course = course_at w stand outer directives;
  status = Going;
  starved = false;
}

-- that is an emitter's checkpoint
pub record StandsWhere (e : Emitter) (stand : yaml_emitter_stand_t) : Type 0 where
  pub encoding : stand.encoding ≡ e.course.settings.encoding
  pub place : stand.place ≡ e.course.state.place
  pub innermost : stand.innermost ≡ top_of e.course.state.levels
  pub cursor : stand.cursor ≡ e.course.cursor
  pub waiting : stand.waiting ≡ length e.held
  -- the settings in force are those that were asked for, except for the encoding
  pub forced : e.fresh ≡ false
      → e.course.settings ≡ settings_in e.requested_settings stand.encoding
