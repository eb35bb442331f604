-- An event that was judged, laid out and settled.
use Rattle.std.proofs.Common.{◌≡◌, ◌≢◌, List, Bool, true, false, refl, sym, subst, ◌∙◌, ap}
use Rattle.std.specs.Prelude.{Option, Some, None, ◌||◌}
use Rattle.yaml_emit_layout.specs.declared.cursor.Cursor.{Cursor}
use Rattle.yaml_emit_layout.specs.declared.cursor.Status.{Status}
use Rattle.yaml_emit_layout.specs.declared.cursor.Status.TheVariants.{Going, Full, Deep, Starved}
use Rattle.yaml_emit_layout.specs.declared.settings.Encoding.{Encoding}
use Rattle.yaml_emit_layout.specs.declared.settings.Settings.{Settings}
use Rattle.yaml_emit_layout.specs.Layout.{Layout, stay}
use Rattle.yaml_emit_layout.specs.Sink.{Output, Puts}
use Rattle.yaml_emit_layout.proofs.Sinks.{puts_nothing, puts_starved}
use Rattle.yaml_emit_layout.specs.declared.level.Expected.{Expected}
use Rattle.yaml_emit_layout.specs.declared.level.Expected.TheVariants as at
use Rattle.yaml_emit_layout.specs.declared.problem.Problem.{Problem}
use Rattle.yaml_parse_model.specs.Events.{TagDirective}
use Rattle.yaml_emit_layout.specs.Content.{Event, Start}
use Rattle.yaml_emit_layout.specs.State.{State, problem_at, piece, next}
use Rattle.yaml_emit_output.specs.Draft.{Page as Paper, Lays}
use Rattle.yaml_emit_output.specs.Sheet.{Sheet, Settles, Keeps, Holds, IsText, output_of}
use Rattle.yaml_emit_output.proofs.Settling.{holds_on}
use Rattle.yaml_emit_output.proofs.Written.{going_both, puts_settled, written_settled}
use Rattle.yaml_emit_core.specs.declared.level.State.{State as Stage}
use Rattle.yaml_emit_core.specs.declared.level.State.TheVariants as stage
use Rattle.yaml_emit_core.specs.declared.emitter.Core.TheInside.{Inside}
use Rattle.yaml_emit_core.specs.Levels.{Stack, place_of, opening, state_at}
use Rattle.yaml_emit_core.specs.Steps.{Core, state_of, settings_of, is_going, goes_on, Starves, LaysOut, takes_memory, next_state, next_piece}
use Rattle.yaml_emit_core.specs.Views.{place_by, core_of, IsCore}

going_by : (s : Status) → is_going s ≡ true → s ≡ Going
going_by Going e = refl
going_by Full e = absurd (cc e)
going_by Deep e = absurd (cc e)
going_by Starved e = absurd (cc e)

-- an emitter that goes on: nothing was refused, and the output goes on
pub goes_by : (s : Status) (refused : Option Problem) (p : Expected)
    → goes_on s (place_by refused p) ≡ true → (s ≡ Going) × (refused ≡ None)
goes_by s (Some q) p e = absurd (cc e)
goes_by s None (at.Refused q) e = absurd (cc e)
goes_by s None at.StreamStart e = (going_by s e, refl)
goes_by s None (at.Documents first unended) e = (going_by s e, refl)
goes_by s None at.Node e = (going_by s e, refl)
goes_by s None at.DocumentEnd e = (going_by s e, refl)
goes_by s None at.End e = (going_by s e, refl)

abbrev pub Goes : Inside → Type 0
Goes c = goes_on (core_of c).sink.status (core_of c).place ≡ true

pub goes : (c : Inside) → Goes c → ((core_of c).sink.status ≡ Going) × (c.refused ≡ None)
goes c g = goes_by (core_of c).sink.status c.refused (place_of c.levels.state c.unended) g

-- its state
abbrev pub stands : Inside → State
stands c = state_at c.levels c.unended c.directives

stand_is : (c : Inside) → c.refused ≡ None → stands c ≡ state_of (core_of c)
stand_is c e = sym (ap (λ (z : Option Problem). record { place = place_by z (place_of c.levels.state c.unended); levels = c.levels.levels; directives = c.directives }) e)

settings_is : (c : Inside) → IsCore c → c.settings ≡ settings_of (core_of c)
settings_is c h = ap (λ (z : Encoding). record { encoding = z; canonical = c.settings.canonical; indent = c.settings.indent; width = c.settings.width; unicode = c.settings.unicode; line_break = c.settings.line_break }) h.encoding

-- what is said of an event by the settings and the state
record Said (new : Core) (old : Output) (e : Event) (empty : Bool) (p : Option Problem) (s : Settings) (st : State) : Type 0 where
  problem : problem_at s st e ≡ p
  text : Puts old new.sink (piece s st e empty)
  state : new.sink.status ≡ Going → state_of new ≡ next s st e empty new.sink.cursor

laid_by : (old new : Core) (e : Event) (empty : Bool)
    → Said new old.sink e empty None (settings_of old) (state_of old)
    → new.settings ≡ old.settings → new.starved ≡ old.starved → LaysOut old new e empty
laid_by old new e empty h s t =
    let P : Option Problem → Type 0 = λ q. state_of new ≡ next_state q (state_of old) (next (settings_of old) (state_of old) e empty new.sink.cursor) in
    let Q : Option Problem → Type 0 = λ q. Puts old.sink new.sink (next_piece q (piece (settings_of old) (state_of old) e empty)) in
    record {
      settings = s;
      state = λ g. subst P (sym h.problem) (h.state g);
      text = subst Q (sym h.problem) h.text;
      memory = λ _. t;
      blames = record { levels = λ _ off on. absurd (cc (t, off, on)) };
    }

-- the emitter after what was laid out and settled
abbrev pub behind : Inside → Paper → Sheet → Stack → Bool → List TagDirective → Inside
behind c d o l u ds = record { settings = c.settings; draft = d; output = o; levels = l; unended = u; directives = ds; refused = c.refused; starved = c.starved }

pub laid : (c : Inside) (mid d : Paper) (o : Sheet) (l : Stack) (u : Bool) (ds : List TagDirective)
    (e : Event) (empty : Bool) → IsCore c → Goes c
    → problem_at c.settings (stands c) e ≡ None → Lays c.draft mid (piece c.settings (stands c) e empty) stay
    → Settles c.output o mid.output d.output → Keeps mid d
    → (d.output.status ≡ Going → state_at l u ds ≡ next c.settings (stands c) e empty mid.output.cursor)
    → LaysOut (core_of c) (core_of (behind c d o l u ds)) e empty
laid c mid d o l u ds e empty h g p y k m n =
    let on = goes c g in
    let new = behind c d o l u ds in
    let P : Settings → Type 0 = λ z. Said (core_of new) (core_of c).sink e empty None z (state_of (core_of c)) in
    let Q : State → Type 0 = λ z. Said (core_of new) (core_of c).sink e empty None c.settings z in
    laid_by (core_of c) (core_of new) e empty
    (subst P (settings_is c h) (subst Q (stand_is c on.1) (record {
      problem = p;
      text = puts_settled c.output o c.draft.output mid.output d.output (piece c.settings (stands c) e empty) on.0 (h.written on.0) y.owes k m.cursor;
      state = λ now. sym (stand_is new on.1) ∙ (n (going_both o d.output now).1 ∙ ap (λ (z : Cursor). next c.settings (stands c) e empty z) (sym m.cursor));
    })))
    refl refl

record Right (old new : Output) (e : Event) (empty : Bool) (s : Settings) (st : State) : Type 0 where
  problem : problem_at s st e ≡ None
  text : Puts old new (piece s st e empty)

right_by : (old : Core) (new : Output) (e : Event) (empty : Bool)
    → Right old.sink new e empty (settings_of old) (state_of old)
    → Puts old.sink new (next_piece (problem_at (settings_of old) (state_of old) e) (piece (settings_of old) (state_of old) e empty))
right_by old new e empty h =
    let Q : Option Problem → Type 0 = λ q. Puts old.sink new (next_piece q (piece (settings_of old) (state_of old) e empty)) in
    subst Q (sym h.problem) h.text

-- the text alone
pub right_put : (c : Inside) (mid d : Paper) (o : Sheet) (e : Event) (empty : Bool) → IsCore c
    → Goes c
    → problem_at c.settings (stands c) e ≡ None → Lays c.draft mid (piece c.settings (stands c) e empty) stay
    → Settles c.output o mid.output d.output → Keeps mid d
    → Puts (core_of c).sink (output_of o d.output) (next_piece (problem_at (settings_of (core_of c)) (state_of (core_of c)) e) (piece (settings_of (core_of c)) (state_of (core_of c)) e empty))
right_put c mid d o e empty h g p y k m =
    let on = goes c g in
    let P : Settings → Type 0 = λ z. Right (core_of c).sink (output_of o d.output) e empty z (state_of (core_of c)) in
    let Q : State → Type 0 = λ z. Right (core_of c).sink (output_of o d.output) e empty c.settings z in
    right_by (core_of c) (output_of o d.output) e empty
    (subst P (settings_is c h) (subst Q (stand_is c on.1) (record {
      problem = p;
      text = puts_settled c.output o c.draft.output mid.output d.output (piece c.settings (stands c) e empty) on.0 (h.written on.0) y.owes k m.cursor;
    })))

-- and it is one
pub core_laid : (c : Inside) (mid d : Paper) (o : Sheet) (l : Stack) (u : Bool)
    (ds : List TagDirective) (r : Option Problem) (n : Bool) (x : Layout) → IsCore c
    → (core_of c).sink.status ≡ Going → Lays c.draft mid x stay → Settles c.output o mid.output d.output → Keeps mid d → (c.output.full ≡ false → IsText mid.output)
    → IsCore (record { settings = c.settings; draft = d; output = o; levels = l; unended = u; directives = ds; refused = r; starved = n })
core_laid c mid d o l u ds r n x h g y k m t =
    record {
      on = record { line_break = m.line_break ∙ (y.line_break ∙ h.on.line_break); width = m.width ∙ (y.width ∙ h.on.width) };
      encoding = h.encoding ∙ sym k.encoding;
      step = h.step;
      written = λ now.
          written_settled c.output o c.draft.output mid.output d.output x g (h.written g) (t (going_both c.output c.draft.output g).0) y.owes k
          (λ still. ap (λ (z : Paper). z.output) (m.going still)) now;
      holds = k.holds;
    }

pub holds_laid : (c : Inside) (mid : Paper) (x : Layout) → IsCore c → Lays c.draft mid x stay
    → c.output.full ≡ false → Holds c.output mid.output.bytes
holds_laid c mid x h y f = holds_on c.output c.draft.output.bytes mid.output.bytes y.owes.grows (h.holds f)

-- ---- an event that is wrong is refused

abbrev pub refusing : Inside → Problem → Inside
refusing c p = record { settings = c.settings; draft = c.draft; output = c.output; levels = c.levels; unended = c.unended; directives = c.directives; refused = Some p; starved = c.starved }

pub core_refused : (c : Inside) (p : Problem) → IsCore c → IsCore (refusing c p)
core_refused c p h = record { on = h.on; encoding = h.encoding; step = h.step; written = h.written; holds = h.holds }

refused_by : (old new : Core) (e : Event) (empty : Bool) (p : Problem)
    → problem_at (settings_of old) (state_of old) e ≡ Some p
    → new ≡ record { settings = old.settings; sink = old.sink; place = at.Refused p; levels = old.levels; directives = old.directives; starved = old.starved }
    → LaysOut old new e empty
refused_by old new e empty p h same =
    let new' : Core = record { settings = old.settings; sink = old.sink; place = at.Refused p; levels = old.levels; directives = old.directives; starved = old.starved } in
    let R : Core → Type 0 = λ z. LaysOut old z e empty in
    let P : Option Problem → Type 0 = λ q. state_of new' ≡ next_state q (state_of old) (next (settings_of old) (state_of old) e empty old.sink.cursor) in
    let Q : Option Problem → Type 0 = λ q. Puts old.sink old.sink (next_piece q (piece (settings_of old) (state_of old) e empty)) in
    subst R (sym same) (record {
      settings = refl;
      state = λ g. subst P (sym h) refl;
      text = subst Q (sym h) (puts_nothing old.sink);
      memory = λ _. refl;
      blames = record { levels = λ _ off on. absurd (cc (off, on)) };
    })

pub wrong : (c : Inside) (e : Event) (empty : Bool) (p : Problem) → IsCore c → Goes c
    → problem_at c.settings (stands c) e ≡ Some p
    → LaysOut (core_of c) (core_of (refusing c p)) e empty
wrong c e empty p h g w =
    let on = goes c g in
    let P : Settings → Type 0 = λ z. problem_at z (state_of (core_of c)) e ≡ Some p in
    let Q : State → Type 0 = λ z. problem_at c.settings z e ≡ Some p in
    refused_by (core_of c) (core_of (refusing c p)) e empty p (subst P (settings_is c h) (subst Q (stand_is c on.1) w)) refl

-- ---- and once one was refused

goes_at : (st : Stage) (u : Bool) (s : Status) → goes_on s (place_of st u) ≡ is_going s
goes_at stage.StreamStart u s = refl
goes_at stage.FirstDocumentStart u s = refl
goes_at stage.DocumentStart u s = refl
goes_at stage.DocumentContent u s = refl
goes_at stage.FirstItem u s = refl
goes_at stage.Item u s = refl
goes_at stage.FirstKey u s = refl
goes_at stage.Key u s = refl
goes_at stage.SimpleValue u s = refl
goes_at stage.Value u s = refl
goes_at stage.DocumentEnd u s = refl
goes_at stage.End u s = refl

is_by : (b : Bool) (s : Status) → (b ≡ true → s ≡ Going) → (b ≡ false → s ≢ Going) → b ≡ is_going s
is_by true s p q = sym (ap is_going (p refl))
is_by false Going p q = absurd (q refl refl)
is_by false Full p q = refl
is_by false Deep p q = refl
is_by false Starved p q = refl

-- whether it goes on
pub goes_some : (r : Option Problem) (q : Problem) (s : Status) (p : Expected) → r ≡ Some q
    → false ≡ goes_on s (place_by r p)
goes_some r q s p e = sym (ap (λ (z : Option Problem). goes_on s (place_by z p)) e)

pub goes_none : (b : Bool) (r : Option Problem) (s : Status) (st : Stage) (u : Bool) → r ≡ None
    → (b ≡ true → s ≡ Going) → (b ≡ false → s ≢ Going) → b ≡ goes_on s (place_by r (place_of st u))
goes_none b r s st u e p q = is_by b s p q ∙ (sym (goes_at st u s) ∙ sym (ap (λ (z : Option Problem). goes_on s (place_by z (place_of st u))) e))

-- ---- memory was refused outside the output

-- memory was refused: the draft stops
pub stop_puts : (c : Inside) (mid : Paper) → (core_of c).sink.status ≡ Going
    → mid.output.bytes ≡ c.draft.output.bytes → mid.output.limit ≡ c.draft.output.limit
    → mid.output.encoding ≡ c.draft.output.encoding → mid.output.status ≡ Starved → (x : Layout) → Puts c.draft.output mid.output x
stop_puts c mid g b l e s x = puts_starved c.draft.output mid.output x b s (going_both c.output c.draft.output g).1 e l

pub not_going : (s : Status) → s ≡ Starved → s ≢ Going
not_going s e g = absurd (cc (sym e ∙ g))

pub starved : (c : Inside) (mid d : Paper) (o : Sheet) → IsCore c → (core_of c).sink.status ≡ Going
    → ((x : Layout) → Puts c.draft.output mid.output x) → mid.output.status ≢ Going
    → Settles c.output o mid.output d.output → Keeps mid d
    → Starves (core_of c) (core_of (record { settings = c.settings; draft = d; output = o; levels = c.levels; unended = c.unended; directives = c.directives; refused = c.refused; starved = true }))
starved c mid d o h g p n k m = record {
  settings = refl;
  place = refl;
  levels = refl;
  directives = refl;
  starved = sym (ap (λ (z : Status). is_going z || c.starved) g);
  text = λ x. puts_settled c.output o c.draft.output mid.output d.output x g (h.written g) (p x) k m.cursor;
  stopped = λ now. let still = (going_both o d.output now).1 in n (ap (λ (z : Paper). z.output.status) (sym (m.going still)) ∙ still);
}

pub starved_core : (c : Inside) (mid d : Paper) (o : Sheet) → IsCore c
    → (core_of c).sink.status ≡ Going → Puts c.draft.output mid.output stay
    → (mid.line_break ≡ c.draft.line_break) × (mid.width ≡ c.draft.width) → Settles c.output o mid.output d.output → Keeps mid d → (c.output.full ≡ false → IsText mid.output)
    → IsCore (record { settings = c.settings; draft = d; output = o; levels = c.levels; unended = c.unended; directives = c.directives; refused = c.refused; starved = true })
starved_core c mid d o h g p s k m t = core_laid c mid d o c.levels c.unended c.directives c.refused true stay h g (record { owes = p; line_break = s.0; width = s.1 }) k m t

pub takes_opening : (sequence : Bool) (q : Start) → takes_memory (opening sequence q) ≡ true
takes_opening true q = refl
takes_opening false q = refl
