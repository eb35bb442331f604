-- What an emitter adds that continues from a checkpoint, and its checkpoint then.
use Rattle.std.specs.Prelude.{◌≡◌, ◌≢◌, ◌⊎◌, ℕ, ◌≤◌, ◌^◌, nat_le, if◌then◌else◌, true, false, List, [], length, Option, None, Some, Result, Ok, Err}
use Rattle.yaml_parse.specs.declared.yaml_fault_t.{yaml_fault_t}
use Rattle.yaml_parse.specs.scan_types.Faults.{Fault, fault_of, IsMemoryFault, emit_layers}
use Rattle.yaml_emit.specs.Content.{Event}
use Rattle.yaml_emit.specs.Text.{Item, encode, is_deep}
use Rattle.yaml_emit.specs.Judged.{refusal_behind, refused_at}
use Rattle.yaml_emit.specs.Held.{AreLast}
use Rattle.yaml_emit.specs.Verdict.{first_settings, TellsOutcome}
use Rattle.yaml_emit.specs.Within.{Fits}
use Rattle.yaml_emit.specs.Emitter.{Emitter, Passes, problem_fault, settings_in}
use Rattle.yaml_emit.specs.emit_layout.declared.Problem.{Problem}
use Rattle.yaml_emit.specs.emit_layout.declared.RequestedSettings.{RequestedSettings}
use Rattle.yaml_emit.specs.emit_layout.declared.Settings.{Settings}
use Rattle.yaml_emit.specs.emit_layout.declared.Status.TheVariants.{Going}
use Rattle.yaml_round_laws.specs.Pieces.{added}
use Rattle.yaml_round_laws.specs.Calls.{LeadsIn}
use Rattle.yaml_round_answers.specs.declared.onward.Onward.{Onward}
use Rattle.yaml_round_answers.specs.declared.standing.yaml_c_stand.{yaml_c_stand}
use Rattle.yaml_round_answers.specs.Leading.{StartsUnder}
use Rattle.yaml_emit.specs.emit_core.declared.yaml_emitter_stand_t.{yaml_emitter_stand_t}
use Rattle.yaml_round_answers.specs.declared.standing.yaml_c_place.{yaml_c_place}
use Rattle.yaml_round_answers.specs.Numbers.{is_set}
use Rattle.yaml_round_answers.specs.Records.{all_directives}
use Rattle.yaml_round_answers.specs.Blocks.{directive_texts}
use Rattle.yaml_round_answers.specs.Standing.{At, stand_meant, stand_of, IsFew, spelling_meant, place_meant, innermost_meant, levels_meant, place_record, place_told, levels_round, directives_of}

-- the limit of a call's text
abbrev pub most_on : ℕ → ℕ
most_on limit = if nat_le limit (2 ^ 62) then limit else 2 ^ 62

-- The settings in force at a checkpoint: before the first event those that this decides.
abbrev pub settings_on : RequestedSettings → Option At → List Event → Settings
settings_on w None es = first_settings w es
settings_on w (Some a) es = settings_in w a.encoding

-- what is written for the events from there on, up to the first one that is refused
unfoldable pub added_on : RequestedSettings → Option At → List Event → List Item
added_on w at es = added (settings_on w at es) (stand_of at []) es

abbrev pub bytes_on : RequestedSettings → Option At → List Event → List ℕ
bytes_on w at es = encode (settings_on w at es).encoding (added_on w at es)

-- the first refusal among them
unfoldable pub refusal_on : RequestedSettings → Option At → List Event → Option Problem
refusal_on w at es = refusal_behind (settings_on w at es) (stand_of at []).state es

abbrev pub IsShortOn : RequestedSettings → ℕ → Option At → List Event → Type 0
IsShortOn w limit at es = Fits limit (settings_on w at es).encoding (added_on w at es)

-- what the records of a checkpoint mean, where its column is small enough to continue from
abbrev pub Means : yaml_c_stand → Option At → Type 0
Means s next = IsFew s.place.column
    → stand_meant s.place s.levels.now s.directives.now s.bytes.now ≡ Some next

-- The records say a checkpoint where that many events wait, and nothing beside: every number of its
-- place, the collections round the innermost one, and the document's directives, with the bytes of
-- their texts, one after another.
pub record TellsAt (s : yaml_c_stand) (next : Option At) (waiting : ℕ) : Type 0 where
  pub place : s.place ≡ place_told next waiting
  pub levels : levels_meant s.levels.now ≡ Some (levels_round next)
  pub directives : all_directives s.bytes.now s.directives.now ≡ Some (directives_of next)
  pub bytes : s.bytes.now ≡ directive_texts (directives_of next)

-- No event is rejected, and what is added is the text, which passes no limit. The records mean the
-- checkpoint to which the events lead, and say it; the last of them wait there, as many as it says,
-- and continued from there the settings in force are the same.
pub record AddsWholeText (w : RequestedSettings) (limit : ℕ) (at : Option At) (es : List Event)
    (text : List ℕ) (s : yaml_c_stand) : Type 0 where
  pub right : refusal_on w at es ≡ None
  pub is : text ≡ bytes_on w at es
  pub short : IsShortOn w limit at es
  pub next : Option At
  pub means : Means s next
  pub held : List Event
  pub told : TellsAt s next (length held)
  pub last : AreLast es held
  pub waiting : (s.place.waiting ≡ length held) × (length held ≤ 3)
  pub leads : LeadsIn (settings_on w at es).encoding (settings_on w at es) (stand_of at []) es
      (stand_of next held)
  pub same : next ≢ None → (more : List Event) → settings_on w next more ≡ settings_on w at es

-- An event is refused with that fault, and what is written before it passes no limit.
pub record IsRefusedOn (w : RequestedSettings) (limit : ℕ) (at : Option At) (es : List Event)
    (fault : Fault) : Type 0 where
  pub problem : Problem
  pub is : refusal_on w at es ≡ Some problem
  pub told : fault ≡ problem_fault problem
  pub short : IsShortOn w limit at es

-- or what is written passes the limit that the fault names
abbrev pub StopsOn : RequestedSettings → ℕ → Option At → List Event → Fault → Type 0
StopsOn w limit at es fault = IsRefusedOn w limit at es fault
    ⊎ Passes limit (bytes_on w at es) (is_deep (added_on w at es)) fault

-- An emitter that goes on from there may answer this.
abbrev pub IsOnward : RequestedSettings → ℕ → Option At → List Event
    → Result (List ℕ × yaml_c_stand) Fault → Type 0
IsOnward w limit at es (Ok o) = AddsWholeText w limit at es o.0 o.1
IsOnward w limit at es (Err fault) = StopsOn w limit at es fault

-- where a checkpoint is meant
abbrev pub IsOnwardAt : RequestedSettings → ℕ → Option (Option At) → List Event
    → Result (List ℕ × yaml_c_stand) Fault → Type 0
IsOnwardAt w limit None es r = Unit {0}
IsOnwardAt w limit (Some at) es r = IsOnward w limit at es r

abbrev pub onward_of : Onward → List ℕ × yaml_c_stand
onward_of o = (o.text.items, o.stand)

-- ---- emitters

-- it goes on from there, and was given nothing
pub record GoesFrom (e : Emitter) (w : RequestedSettings) (most : ℕ) (a : At) : Type 0 where
  pub requested_settings : e.requested_settings ≡ w
  pub limit : e.limit ≡ most
  pub fresh : e.fresh ≡ false
  pub held : e.held ≡ []
  pub output : e.output ≡ []
  pub status : e.status ≡ Going
  pub fault : e.fault ≡ None
  pub settings : e.course.settings ≡ settings_in w a.encoding
  pub state : e.course.state ≡ a.state
  pub cursor : e.course.cursor ≡ a.cursor

abbrev pub StartsFrom : Emitter → RequestedSettings → ℕ → Option At → Type 0
StartsFrom e w most None = StartsUnder e w most
StartsFrom e w most (Some a) = GoesFrom e w most a

-- where a checkpoint is meant
abbrev pub StartsAt : Emitter → RequestedSettings → ℕ → Option (Option At) → Type 0
StartsAt e w most None = Unit {0}
StartsAt e w most (Some at) = StartsFrom e w most at

abbrev pub at_of : Emitter → At
at_of e = record {
  encoding = e.course.settings.encoding;
  state = e.course.state;
  cursor = e.course.cursor;
}

-- the records say the checkpoint of an emitter without a fault
pub record TellsStand (e : Emitter) (s : yaml_c_stand) : Type 0 where
  pub nowhere : e.fresh ≡ true → Means s None × TellsAt s None 0
  pub somewhere : e.fresh ≡ false → refused_at e.course.state.place ≡ None
      → Means s (Some (at_of e)) × TellsAt s (Some (at_of e)) (length e.held)
  pub forced : e.fresh ≡ false
      → e.course.settings ≡ settings_in e.requested_settings e.course.settings.encoding

-- The checkpoint that the numbers of a place mean.
pub record IsStandBy (r : yaml_c_place) (stand : yaml_emitter_stand_t) : Type 0 where
  pub encoding : spelling_meant r.encoding ≡ Some stand.encoding
  pub place : place_meant r.state (is_set r.implicit) ≡ Some stand.place
  pub right : refused_at stand.place ≡ None
  pub innermost : innermost_meant r.innermost ≡ Some stand.innermost
  pub cursor : stand.cursor ≡ record {
    column = r.column;
    white = is_set r.white;
    bare = is_set r.bare;
    kept = is_set r.kept;
  }

-- The numbers of a place say a checkpoint.
pub record TellsStandPlace (stand : yaml_emitter_stand_t) (r : yaml_c_place) : Type 0 where
  pub encoding : spelling_meant r.encoding ≡ Some stand.encoding
  pub some : is_set r.encoding ≡ true
  pub place : refused_at stand.place ≡ None
      → place_meant r.state (is_set r.implicit) ≡ Some stand.place
  pub innermost : innermost_meant r.innermost ≡ Some stand.innermost
  pub cursor : stand.cursor ≡ record {
    column = r.column;
    white = is_set r.white;
    bare = is_set r.bare;
    kept = is_set r.kept;
  }
  pub waiting : r.waiting ≡ stand.waiting
  pub told : r ≡ place_record stand.encoding stand.place stand.innermost stand.cursor stand.waiting

-- an emitter's checkpoint, or its fault
abbrev pub GoneTold : Emitter → Result yaml_c_stand yaml_fault_t → Type 0
GoneTold e (Ok s) = (e.fault ≡ None) × TellsOutcome e × TellsStand e s
GoneTold e (Err f) = IsMemoryFault emit_layers (fault_of f)
    ⊎ ((e.fault ≡ Some (fault_of f)) × TellsOutcome e)

-- the text and the checkpoint of an emitter, or its fault
abbrev pub GoneOn : Emitter → Result Onward yaml_fault_t → Type 0
GoneOn e (Ok o) = (e.fault ≡ None) × (o.text.items ≡ e.output) × TellsOutcome e
    × TellsStand e o.stand
GoneOn e (Err f) = IsMemoryFault emit_layers (fault_of f)
    ⊎ ((e.fault ≡ Some (fault_of f)) × TellsOutcome e)
