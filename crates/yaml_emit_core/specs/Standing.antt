-- An emitter's checkpoint, taken and continued from.
use Rattle.std.specs.Prelude.{◌≡◌, ℕ, Bool, true, false, List, [], Option, Some, None, ⊤}
use Rattle.yaml_parse_model.specs.Events.{TagDirective}
use Rattle.yaml_emit_layout.specs.declared.Settings.{Settings}
use Rattle.yaml_emit_layout.specs.declared.Status.TheVariants.{Going}
use Rattle.yaml_emit_layout.specs.declared.level.Level.{Level}
use Rattle.yaml_emit_layout.specs.declared.level.Expected.{Expected}
use Rattle.yaml_emit_layout.specs.declared.level.Expected.TheVariants as at
use Rattle.yaml_emit_layout.specs.declared.problem.Problem.{Problem}
use Rattle.yaml_emit_layout.specs.State.{State, top_of}
use Rattle.yaml_emit_core.specs.declared.emitter.resume.yaml_emitter_stand_t.{yaml_emitter_stand_t}
use Rattle.yaml_emit_core.specs.declared.level.State.{State as Stage}
use Rattle.yaml_emit_core.specs.declared.level.State.TheVariants as stage
use Rattle.yaml_emit_core.specs.Levels.{stack, AreNarrow}
use Rattle.yaml_emit_core.specs.Steps.{Core, state_of, settings_of}

-- what comes next outside of collections
abbrev pub stage_in : Expected → Stage
stage_in at.StreamStart = stage.StreamStart
stage_in (at.Documents true unended) = stage.FirstDocumentStart
stage_in (at.Documents false unended) = stage.DocumentStart
stage_in at.Node = stage.DocumentContent
stage_in at.DocumentEnd = stage.DocumentEnd
stage_in at.End = stage.End
stage_in (at.Refused p) = stage.DocumentContent

abbrev pub unended_in : Expected → Bool
unended_in at.StreamStart = false
unended_in (at.Documents first unended) = unended
unended_in at.Node = false
unended_in at.DocumentEnd = false
unended_in at.End = false
unended_in (at.Refused p) = false

abbrev pub refused_in : Expected → Option Problem
refused_in at.StreamStart = None
refused_in (at.Documents first unended) = None
refused_in at.Node = None
refused_in at.DocumentEnd = None
refused_in at.End = None
refused_in (at.Refused p) = Some p

-- only where a node may come, or an event was refused, a collection is open
abbrev pub IsPlaced : Expected → Option Level → Type 0
IsPlaced at.Node innermost = ⊤
IsPlaced (at.Refused p) innermost = ⊤
IsPlaced at.StreamStart innermost = innermost ≡ None
IsPlaced (at.Documents first unended) innermost = innermost ≡ None
IsPlaced at.DocumentEnd innermost = innermost ≡ None
IsPlaced at.End innermost = innermost ≡ None

-- an emitter may be there: no indentation is too deep
pub record IsStand (stand : yaml_emitter_stand_t) (outer : List Level) : Type 0 where
  pub place : IsPlaced stand.place stand.innermost
  pub narrow : AreNarrow (stack stand.innermost outer)

-- the state of the layout that is meant: the collections round the innermost one, the outermost first, and the directives are beside
abbrev pub state_at : yaml_emitter_stand_t → List Level → List TagDirective → State
state_at stand outer directives = record {
  place = stand.place;
  levels = stack stand.innermost outer;
  directives = directives;
}

-- the settings in force, except for the encoding, which is the checkpoint's
abbrev pub settings_at : Settings → yaml_emitter_stand_t → Settings
settings_at s stand = record s { encoding = stand.encoding }

-- nothing was laid out from there on
pub record Resumes (s : Settings) (limit : ℕ) (stand : yaml_emitter_stand_t) (outer : List Level)
    (directives : List TagDirective) (core : Core) : Type 0 where
  pub settings : settings_of core ≡ settings_at s stand
  pub state : state_of core ≡ state_at stand outer directives
  pub output : core.sink ≡ record {
    bytes = [];
    limit = limit;
    encoding = stand.encoding;
    status = Going;
    cursor = stand.cursor;
  }
  pub starved : core.starved ≡ false

-- that is its checkpoint
pub record IsStandOfCore (core : Core) (count : ℕ) (stand : yaml_emitter_stand_t) : Type 0 where
  pub encoding : stand.encoding ≡ core.sink.encoding
  pub place : stand.place ≡ core.place
  pub innermost : stand.innermost ≡ top_of core.levels
  pub cursor : stand.cursor ≡ core.sink.cursor
  pub waiting : stand.waiting ≡ count
