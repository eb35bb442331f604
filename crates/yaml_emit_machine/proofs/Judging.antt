-- An event that is laid out is judged, and what follows is judged and written as before.
use Rattle.std.proofs.Common.{◌≡◌, ℕ, zero, suc, drop, List, [], ◌∷◌, ◌++◌, length, Bool, true, false, refl, sym, ◌∙◌, ap, arith, Option, Some, None, length-append}
use Rattle.std.specs.Prelude.{not, nat_le, ◌||◌, ◌&&◌}
use Rattle.std.proofs.lemmas.Bool.Decides.{nat_tests}
use Rattle.std.proofs.lemmas.Bool.{false≢true, or_right}
use Rattle.yaml_parse_model.specs.Events.{TagDirective}
use Rattle.yaml_emit_layout.specs.declared.Cursor.{Cursor}
use Rattle.yaml_emit_layout.specs.declared.Settings.{Settings}
use Rattle.yaml_emit_layout.specs.declared.Status.{Status}
use Rattle.yaml_emit_layout.specs.declared.Status.TheVariants.{Going}
use Rattle.yaml_emit_layout.specs.Text.{Item}
use Rattle.yaml_emit_layout.specs.Layout.{Layout, Rest, nothing_more}
use Rattle.yaml_emit_layout.specs.Sink.{Output, Ends}
use Rattle.yaml_emit_layout.proofs.Sinks.{ends_other, status_cases}
use Rattle.yaml_emit_layout.specs.declared.Problem.{Problem}
use Rattle.yaml_emit_layout.specs.declared.Level.{Level}
use Rattle.yaml_emit_layout.specs.declared.Phase.{Phase}
use Rattle.yaml_emit_layout.specs.declared.Phase.TheVariants.{Items, Keys, Value}
use Rattle.yaml_emit_layout.specs.declared.Expected.{Expected}
use Rattle.yaml_emit_layout.specs.declared.Expected.TheVariants as at
use Rattle.yaml_emit_layout.specs.Content.{Event, no_event, alias, scalar, sequence_start, sequence_end, mapping_start, mapping_end}
use Rattle.yaml_emit_layout.specs.Grammar.{or_else, ends_phase, begins_node, may_come, place_problem, problem_by, event_problem, last_problem}
use Rattle.yaml_emit_layout.specs.Nodes.{Context, context_of}
use Rattle.yaml_emit_layout.specs.State.{State, piece, next, next_at, problem_at, opens_empty, begins_by, is_sequence_end, is_mapping_end, top_of, outer_of, place_at, among, levels_behind, phase_behind}
use Rattle.yaml_emit_core.specs.Steps.{Core, state_of, settings_of, next_state, next_piece, LaysOut, may_note, goes_on}
use Rattle.yaml_emit_core.proofs.Finishing.{same_settings}
use Rattle.yaml_emit_machine.specs.Held.{is_ready, needs, closes, opens_level, ends_level}
use Rattle.yaml_emit_layout.specs.Progress.{Due, item_due, key_due, progress_after, inside, behind_node, outer_due, phase_due, level_due, problem_in, first_refusal}
use Rattle.yaml_emit_machine.specs.Judged.{let_out, unless, laid, refused_at, due_in, due_of, shape_of, refusal_among, refusal_behind, LetsOut, first_wrong, LaysAll, laid_some, LaysSome}
use Rattle.yaml_emit_machine.proofs.Holding.{none_needed}

-- ---- what is ready stays so

or_more : (a c n b d : Bool) → (a ≡ true → c ≡ true) → (b ≡ true → d ≡ true)
    → (a || (n && b)) ≡ true → (c || (n && d)) ≡ true
or_more true c n b d f g h = ap (λ z. z || (n && d)) (f refl)
or_more false c true b d f g h = or_right c d (g h)
or_more false c false b d f g h = absurd (cc)

closes_more : (es more : List Event) → closes es ≡ true → closes (es ++ more) ≡ true
closes_more [] more h = absurd (cc)
closes_more (e ∷ es) more h = or_more (ends_level e) (ends_level e) (not (opens_level e)) (closes es) (closes (es ++ more)) (λ k. k) (closes_more es more) h

longer : (n : ℕ) (es more : List Event) → nat_le n (length es) ≡ true
    → nat_le n (length (es ++ more)) ≡ true
longer n es more h = rw (length-append es more) (grind (arith, nat_tests))

-- An event that is ready stays so whatever follows.
pub ready_more : (e : Event) (es more : List Event) → is_ready (e ∷ es) ≡ true
    → is_ready (e ∷ (es ++ more)) ≡ true
unfolding is_ready
ready_more e es more h = or_more (nat_le (needs e) (length es)) (nat_le (needs e) (length (es ++ more))) true (closes es) (closes (es ++ more)) (longer (needs e) es more) (closes_more es more) h

-- ---- the grammar looks at the shape alone

same_ends : (p : Phase) (e : Event) → ends_phase p e ≡ ends_phase (phase_due (due_in p)) e
same_ends (Items fresh) e = refl
same_ends (Keys fresh) e = refl
same_ends (Value simple) e = refl

same_may : (ls : List Level) (e : Event)
    → may_come (top_of ls) e ≡ may_come (level_due (due_of ls)) e
same_may [] e = refl
same_may (l ∷ ls) e = ap (λ z. begins_node e || z) (same_ends l.phase e)

same_place : (p : Expected) (ls : List Level) (e : Event)
    → place_problem p (top_of ls) e ≡ place_problem p (level_due (due_of ls)) e
unfolding place_problem
same_place at.Node ls e = rw (same_may ls e) refl
same_place _ ls e = refl

-- A problem depends on the state's shape alone: on what is expected, open and named, and not on columns.
pub same_problem : (s : Settings) (st : State) (e : Event)
    → problem_at s st e ≡ problem_in s.canonical (shape_of st) e
unfolding problem_by
same_problem s st e = ap (λ z. or_else (event_problem s.canonical e) (or_else z (last_problem e))) (same_place st.place st.levels e)

among_shape : (g : List TagDirective) (ls : List Level) → shape_of (among g ls) ≡ inside (due_of ls)
among_shape g [] = refl
among_shape g (l ∷ ls) = refl

due_behind : (p : Phase) (simple : Bool) (ds : List Due)
    → due_in (phase_behind p simple) ∷ ds ≡ behind_node (due_in p ∷ ds)
unfolding phase_behind
due_behind (Items fresh) simple ds = refl
due_behind (Keys fresh) simple ds = refl
due_behind (Value was) simple ds = refl

dues_behind : (ls : List Level) (simple : Bool)
    → due_of (levels_behind ls simple) ≡ behind_node (due_of ls)
dues_behind [] simple = refl
dues_behind (l ∷ ls) simple = due_behind l.phase simple (due_of ls)

dues_outer : (ls : List Level) → due_of (outer_of ls) ≡ outer_due (due_of ls)
dues_outer [] = refl
dues_outer (l ∷ ls) = refl

shape_at : (p : Context) (place : Expected) (ls : List Level) (e : Event) (empty : Bool)
    (d : Cursor)
    → shape_of (next_at p place ls e empty d)
    ≡ progress_after (record { place = place; due = due_of ls }) e
unfolding next_at progress_after
shape_at p place ls (alias name) empty d = among_shape p.directives (levels_behind ls _) ∙ ap inside (dues_behind ls _)
shape_at p place ls (scalar v) empty d = among_shape p.directives (levels_behind ls _) ∙ ap inside (dues_behind ls _)
shape_at p place ls (sequence_start q) empty d = ap (λ z. inside (item_due ∷ z)) (dues_behind ls _)
shape_at p place ls (mapping_start q) empty d = ap (λ z. inside (key_due ∷ z)) (dues_behind ls _)
shape_at p place ls sequence_end empty d = among_shape p.directives (outer_of ls) ∙ ap inside (dues_outer ls)
shape_at p place ls mapping_end empty d = among_shape p.directives (outer_of ls) ∙ ap inside (dues_outer ls)
shape_at p place ls _ empty d = refl

-- The shape after an event is what the shape before it becomes.
pub shape_next : (s : Settings) (st : State) (e : Event) (empty : Bool) (d : Cursor)
    → shape_of (next s st e empty d) ≡ progress_after (shape_of st) e
shape_next s st e empty d = shape_at (context_of s st.directives) st.place st.levels e empty d

-- ---- after an event in its right place nothing is refused

place_open : (l : Option Level) → refused_at (place_at l) ≡ None
place_open None = refl
place_open (Some l) = refl

-- after an event no place is refused where none was
pub open_at : (p : Context) (place : Expected) (ls : List Level) (e : Event) (empty : Bool)
    (d : Cursor)
    → refused_at place ≡ None → refused_at (next_at p place ls e empty d).place ≡ None
unfolding next_at
open_at p place ls no_event empty d h = h
open_at p place ls (alias name) empty d h = place_open (top_of (levels_behind ls _))
open_at p place ls (scalar v) empty d h = place_open (top_of (levels_behind ls _))
open_at p place ls sequence_end empty d h = place_open (top_of (outer_of ls))
open_at p place ls mapping_end empty d h = place_open (top_of (outer_of ls))
open_at p place ls _ empty d h = refl

-- the same by the state
pub open_next : (s : Settings) (st : State) (e : Event) (empty : Bool) (d : Cursor)
    → refused_at st.place ≡ None → refused_at (next s st e empty d).place ≡ None
open_next s st e empty d h = open_at (context_of s st.directives) st.place st.levels e empty d h

-- Where the output goes on and the place is no refusal, nothing was refused.
pub going_open : (s : Status) (p : Expected) → goes_on s p ≡ true → refused_at p ≡ None
going_open s (at.Refused p) h = absurd (cc)
going_open s _ h = refl

-- and the output goes on
pub goes_going : (s : Status) (p : Expected) → goes_on s p ≡ true → s ≡ Going
goes_going Going p h = refl
goes_going s (at.Refused q) h = absurd (cc)
goes_going s p h = absurd (cc)

-- where nothing was refused an output that goes on does so with the next event
pub open_goes : (s : Status) (p : Expected) → s ≡ Going → refused_at p ≡ None → goes_on s p ≡ true
open_goes s (at.Refused p) g o = absurd (cc)
open_goes s p g o = rw g refl

-- ---- the first refusal

-- Of two problems the second counts where the first is none.
pub or_none : (p q : Option Problem) → p ≡ None → or_else p q ≡ q
or_none None q e = refl
or_none (Some x) q e = absurd (cc)

-- Of two problems the first counts where there is one.
pub or_some : (p q : Option Problem) (x : Problem) → p ≡ Some x → or_else p q ≡ Some x
or_some None q x e = absurd (cc)
or_some (Some y) q x e = e

-- an event that waits for nothing is let out
pub first_out : (e : Event) (es : List Event) → is_ready (e ∷ es) ≡ true
    → let_out (e ∷ es) ≡ e ∷ let_out es
unfolding let_out
first_out e es r = rw r refl

among_step : (s : Settings) (st new : State) (e : Event) (empty : Bool) (d : Cursor)
    (es : List Event) (p : Option Problem) → p ≡ problem_at s st e → refused_at st.place ≡ None
    → new ≡ next_state p st (next s st e empty d)
    → refusal_among s.canonical new es ≡ refusal_among s.canonical st (e ∷ es)
unfolding first_refusal
among_step s st new e empty d es None pe o same =
    let right : problem_in s.canonical (shape_of st) e ≡ None = sym (same_problem s st e) ∙ sym pe in
    rw (same, o, right, open_next s st e empty d o, shape_next s st e empty d) refl
among_step s st new e empty d es (Some x) pe o same =
    let wrong : problem_in s.canonical (shape_of st) e ≡ Some x = sym (same_problem s st e) ∙ sym pe in
    rw (same, o, wrong) refl

-- ---- what is written

-- Without a problem the layout is written.
pub unless_none : (p : Option Problem) (a : Layout) (c : Cursor) (rest : Rest) → p ≡ None
    → unless p a c rest ≡ a c rest
unless_none None a c rest e = refl
unless_none (Some x) a c rest e = absurd (cc)

-- After a problem nothing of the layout is written.
pub unless_some : (p : Option Problem) (x : Problem) (a : Layout) (c : Cursor) (rest : Rest)
    → p ≡ Some x → unless p a c rest ≡ rest c
unless_some None x a c rest e = absurd (cc)
unless_some (Some y) x a c rest e = refl

-- what waits isn't let out
pub held_stays : (es : List Event) → is_ready es ≡ false → let_out es ≡ []
unfolding let_out
held_stays [] r = refl
held_stays (e ∷ es) r = rw r refl

out_begins : (p : Event → Bool) (b : Bool) (f : Event) (es : List Event) → is_ready (f ∷ es) ≡ b
    → (b ≡ false → p f ≡ false) → begins_by p (let_out (f ∷ es)) ≡ p f
out_begins p true f es r n = ap (begins_by p) (first_out f es r)
out_begins p false f es r n = ap (begins_by p) (held_stays (f ∷ es) r) ∙ sym (n refl)

-- an end is never held
end_sequence : (f : Event) (es : List Event) → is_ready (f ∷ es) ≡ false → is_sequence_end f ≡ false
end_sequence sequence_end es r = let k = none_needed sequence_end es refl in absurd (cc)
end_sequence f es r = refl

end_mapping : (f : Event) (es : List Event) → is_ready (f ∷ es) ≡ false → is_mapping_end f ≡ false
end_mapping mapping_end es r = let k = none_needed mapping_end es refl in absurd (cc)
end_mapping f es r = refl

ends_begin : (p : Event → Bool)
    → ((f : Event) (es : List Event) → is_ready (f ∷ es) ≡ false → p f ≡ false) → (es : List Event)
    → begins_by p (let_out es) ≡ begins_by p es
unfolding let_out
ends_begin p never [] = refl
ends_begin p never (f ∷ es) = out_begins p (is_ready (f ∷ es)) f es refl (never f es)

-- whether a collection is opened and at once closed is decided by the events that are let out
pub empty_out : (e : Event) (es : List Event) → opens_empty e (let_out es) ≡ opens_empty e es
unfolding opens_empty
empty_out (sequence_start p) es = ends_begin is_sequence_end end_sequence es
empty_out (mapping_start p) es = ends_begin is_mapping_end end_mapping es
empty_out _ es = refl

-- what is written for an event, and after it what `body` gives
ahead : (Settings → State → Layout) → Settings → State → Event → Bool → Layout
ahead body s st e empty = unless (refused_at st.place) (unless (problem_at s st e)
    (λ c rest. piece s st e empty c (λ d. body s (next s st e empty d) d rest)))

-- After an event that was laid out the same is to come, by what was wrong with it.
text_on : (p : Option Problem) (body : Settings → State → Layout) (old new : Core) (e : Event)
    (empty : Bool) (whole : List Item) → refused_at old.place ≡ None
    → problem_at (settings_of old) (state_of old) e ≡ p → LaysOut old new e empty
    → Ends old.sink (ahead body (settings_of old) (state_of old) e empty old.sink.cursor nothing_more) whole
    → Ends new.sink (unless (refused_at new.place) (body (settings_of new) (state_of new)) new.sink.cursor nothing_more) whole
unfolding ahead
text_on None body old new e empty whole o is l h =
    let s : Settings = settings_of old in
    let st : State = state_of old in
    let text = l.text in
    let put = rw is at text in
    let front = rw (o, is) at h in
    let back = put.ends (λ d. body s (next s st e empty d) d nothing_more) whole front in
    status_cases new.sink.status
    (λ g.
    let state = l.state g in
    let moved = rw is at state in
    let there : refused_at new.place ≡ None = ap (λ (z : State). refused_at z.place) moved ∙ open_next s st e empty new.sink.cursor o in
    rw (there, same_settings old new l.settings l.text.encoding, moved) back)
    (λ n. ends_other new.sink _ _ whole n back)
text_on (Some x) body old new e empty whole o is l h =
    let text = l.text in
    let put = rw is at text in
    let front = rw (o, is) at h in
    let back : Ends new.sink [] whole = put.ends nothing_more whole front in
    status_cases new.sink.status
    (λ g.
    let state = l.state g in
    let moved = rw is at state in
    let there : refused_at new.place ≡ Some x = ap (λ (z : State). refused_at z.place) moved in
    rw there back)
    (λ n. ends_other new.sink _ _ whole n back)

-- an event that is laid out before those after it are known
pub lays_first : (b c : Core) (e : Event) (es : List Event) (whole : List Item)
    → refused_at b.place ≡ None → LaysOut b c e (opens_empty e es)
    → LaysAll (settings_of b) (state_of b) b.sink (e ∷ es) whole
    → LaysAll (settings_of c) (state_of c) c.sink es whole
unfolding LaysAll laid ahead
lays_first b c e es whole o l h = text_on _ (λ s st. laid s st es) b c e _ whole o refl l h

-- likewise for those that are let out
pub text_step : (old new : Core) (e : Event) (es : List Event) (whole : List Item)
    → refused_at old.place ≡ None → is_ready (e ∷ es) ≡ true → LaysOut old new e (opens_empty e es)
    → LetsOut (settings_of old) (state_of old) old.sink (e ∷ es) whole
    → LetsOut (settings_of new) (state_of new) new.sink es whole
unfolding LetsOut LaysAll
text_step old new e es whole o r l h =
    let first = rw (first_out e es r) at h in
    lays_first old new e (let_out es) whole o (rw (empty_out e es) l) first

-- ---- the first few

-- Where nothing of the events was laid out, the output ends where it was.
pub some_none : (s : Settings) (st : State) (o : Output) (es : List Event) (whole : List Item)
    → refused_at st.place ≡ None → LaysSome zero s st o es whole → Ends o [] whole
unfolding LaysSome laid_some
some_none s st o es whole open_still h = rw open_still at h

-- one event
pub some_one : (s : Settings) (st : State) (o : Output) (e : Event) (es : List Event)
    (whole : List Item) → refused_at st.place ≡ None → LaysSome (suc zero) s st o (e ∷ es) whole
    → Ends o (next_piece (problem_at s st e) (piece s st e (opens_empty e es)) o.cursor nothing_more) whole
unfolding LaysSome laid_some
some_one s st o e es whole open_still h = rw open_still at h

pub some_step : (n : ℕ) (b c : Core) (e : Event) (es : List Event) (whole : List Item)
    → refused_at b.place ≡ None → LaysOut b c e (opens_empty e es)
    → LaysSome (suc n) (settings_of b) (state_of b) b.sink (e ∷ es) whole
    → LaysSome n (settings_of c) (state_of c) c.sink es whole
unfolding LaysSome laid_some ahead
some_step n b c e es whole o l h = text_on _ (λ s st. laid_some n s st es) b c e _ whole o refl l h

-- ---- memory

-- Nothing is noted of memory while the output still goes on.
pub going_notes : (takes : Bool) (a b : Status) → b ≡ Going → may_note takes a b ≡ false
going_notes false a b g = refl
going_notes true Going b g = rw g refl
going_notes true a b g = refl

-- where it was noted, the event may take such memory
pub noted_takes : (takes : Bool) (a b : Status) (was now : Bool) → was ≡ false → now ≡ true
    → (may_note takes a b ≡ false → now ≡ was) → takes ≡ true
noted_takes true a b was now off on n = refl
noted_takes false a b was now off on n = absurd (false≢true (sym off ∙ (sym (n refl) ∙ on)))

-- what is taken from the front of a list
pub drop_next : (k : ℕ) (xs : List Event) (e : Event) (ys : List Event) → drop k xs ≡ e ∷ ys
    → drop (suc k) xs ≡ ys
drop_next zero [] e ys h = absurd (cc)
drop_next zero (x ∷ xs) e ys h = cc
drop_next (suc k) [] e ys h = absurd (cc)
drop_next (suc k) (x ∷ xs) e ys h = drop_next k xs e ys h

-- ---- one event

-- The first wrong event of a list is that of the rest after an event that was laid out.
pub wrong_on : (b c : Core) (e : Event) (es : List Event) (empty : Bool) → refused_at b.place ≡ None
    → LaysOut b c e empty → c.sink.status ≡ Going
    → first_wrong (settings_of c) (state_of c) es
    ≡ first_wrong (settings_of b) (state_of b) (e ∷ es)
unfolding first_wrong
wrong_on b c e es empty o l g =
    ap (λ (z : Settings). refusal_among z.canonical (state_of c) es) (same_settings b c l.settings l.text.encoding)
    ∙ among_step (settings_of b) (state_of b) (state_of c) e empty c.sink.cursor es (problem_at (settings_of b) (state_of b) e) refl o (l.state g)

-- likewise for those that are let out
pub refusal_on : (b c : Core) (e : Event) (es : List Event) (empty : Bool)
    → refused_at b.place ≡ None
    → is_ready (e ∷ es) ≡ true → LaysOut b c e empty → c.sink.status ≡ Going
    → refusal_behind (settings_of c) (state_of c) es
    ≡ refusal_behind (settings_of b) (state_of b) (e ∷ es)
unfolding refusal_behind first_wrong
refusal_on b c e es empty o r l g =
    wrong_on b c e (let_out es) empty o l g ∙ ap (first_wrong (settings_of b) (state_of b)) (sym (first_out e es r))
