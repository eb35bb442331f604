-- Events that are laid out one after another.
use Rattle.std.proofs.Common.{◌≡◌, ◌⊎◌, inl, inr, zero, suc, List, [], ◌∷◌, ◌++◌, Bool, true, false, refl, sym, ◌∙◌, ap, arith, None}
use Rattle.std.proofs.lemmas.Bool.{false≢true, or_parts}
use Rattle.yaml_emit_layout.specs.declared.Status.TheVariants.{Going}
use Rattle.yaml_emit_layout.specs.declared.Cursor.{Cursor}
use Rattle.yaml_emit_layout.specs.Layout.{stay}
use Rattle.yaml_emit_layout.proofs.Sinks.{grows_none, grows_both}
use Rattle.yaml_emit_layout.specs.Content.{Event, sequence_start, mapping_start}
use Rattle.yaml_emit_layout.specs.State.{piece, next, problem_at, opens_empty}
use Rattle.yaml_emit_core.specs.Steps.{Core, state_of, settings_of, next_state, next_piece, LaysOut, IsPut, IsSame, takes_memory, is_document_start, goes_on}
use Rattle.yaml_emit_core.proofs.Finishing.{finishes_on}
use Rattle.yaml_emit_core.proofs.Noting.{notes_both, notes_within}
use Rattle.yaml_emit_machine.specs.Held.{is_ready, passes}
use Rattle.yaml_emit_machine.specs.Judged.{refused_at, take_memory, first_takes, first_starts, RefusesHeld}
use Rattle.yaml_emit_machine.specs.Laying.{HasLaid, LaysOn, LaysEvents}
use Rattle.yaml_emit_machine.proofs.Opening.{opens_none}
use Rattle.yaml_emit_machine.proofs.Holding.{ready_empty}
use Rattle.yaml_emit_machine.proofs.Judging.{ready_more, going_open, goes_going, text_step, some_step, some_one, some_none, going_notes, noted_takes, drop_next, refusal_on, wrong_on, lays_first}

-- ---- an event that is laid out before those after it are known

-- with any events after it, it is the same as with that answer
abbrev pub Settles : Core → Event → Bool → List Event → Type 0
Settles b e empty y = (es : List Event)
    → IsSame (settings_of b) (state_of b) e empty (opens_empty e (y ++ es))

lays_either : (old new : Core) (e : Event) (v w : Bool)
    → IsSame (settings_of old) (state_of old) e v w → LaysOut old new e v → LaysOut old new e w
lays_either old new e v w h l =
    record {
      settings = l.settings;
      state = λ g. l.state g ∙ ap (next_state (problem_at (settings_of old) (state_of old) e) (state_of old)) (h.1 new.sink.cursor);
      text = rw (← h.0) l.text;
      memory = l.memory;
      blames = rw (← h.0) l.blames;
    }

settles_by : (b : Core) (e : Event) (empty : Bool) (y : List Event)
    → ((es : List Event) → empty ≡ opens_empty e (y ++ es)) → Settles b e empty y
settles_by b e empty y h = λ es.
    (ap (piece (settings_of b) (state_of b) e) (h es), λ (c : Cursor). ap (λ (z : Bool). next (settings_of b) (state_of b) e z c) (h es))

-- the first event after it decides
told : (e : Event) (z : List Event) (f : Event) (es : List Event)
    → opens_empty e (z ++ f ∷ []) ≡ opens_empty e ((z ++ f ∷ []) ++ es)
unfolding opens_empty
told (sequence_start p) [] f es = refl
told (sequence_start p) (g ∷ z) f es = refl
told (mapping_start p) [] f es = refl
told (mapping_start p) (g ∷ z) f es = refl
told _ z f es = refl

-- ---- one after another

pub on_none : (a : Core) (h : List Event) → LaysOn a h a h
on_none a h = record {
  finishes = λ es whole f. f;
  first = λ g es. refl;
  lays = λ es whole f. f;
  grows = grows_none a.sink.bytes;
  going = λ g. g;
  encoding = refl;
  limit = refl;
  memory = λ n. refl;
  left = λ n. n;
  laid = zero;
  rest = refl;
  some = λ g m n is es whole f. let same : m ≡ n = omega (arith, is) in rw (← same) f;
  blames = λ off on. absurd (false≢true (sym off ∙ on));
}

pub lays_none : (a : Core) (h : List Event) → LaysEvents a h a h
lays_none a h = record {
  on = on_none a h;
  refuses = λ g es. refl;
  lets_out = λ es whole f. f;
}

-- which of the events it was, and what is in the output then
blamed : (a b c : Core) (h y : List Event) (e : Event) (empty : Bool)
    → LaysOn a h b (e ∷ y) → refused_at b.place ≡ None → b.sink.status ≡ Going
    → Settles b e empty y → takes_memory e ≡ true
    → (IsPut b.sink c.sink (next_piece (problem_at (settings_of b) (state_of b) e)
    (piece (settings_of b) (state_of b) e empty))
    ⊎ ((is_document_start e ≡ true) × IsPut b.sink c.sink stay))
    → RefusesHeld h (HasLaid a h c.sink.bytes)
blamed a b c h y e empty p o g is takes (inl put) = record {
  front = p.laid;
  takes = ap first_takes p.rest ∙ takes;
  stands = inl (λ es whole f.
      rw (← p.encoding) (put whole (rw (is es).0 (some_one (settings_of b) (state_of b) b.sink e (y ++ es) whole o (p.some g (suc p.laid) (suc zero) (omega arith) es whole f)))));
}
blamed a b c h y e empty p o g is takes (inr put) = record {
  front = p.laid;
  takes = ap first_takes p.rest ∙ takes;
  stands = inr (
    inl (ap first_starts p.rest ∙ put.0),
    λ es whole f.
        rw (← p.encoding) (put.1 whole (some_none (settings_of b) (state_of b) b.sink (e ∷ y ++ es) whole o (p.some g p.laid zero (omega arith) es whole f))),
  );
}

pub on_more : (a b c : Core) (h y : List Event) (e : Event) (empty : Bool)
    → LaysOn a h b (e ∷ y) → goes_on b.sink.status b.place ≡ true
    → Settles b e empty y → LaysOut b c e empty → LaysOn a h c y
on_more a b c h y e empty p goes is l =
    let o : refused_at b.place ≡ None = going_open b.sink.status b.place goes in
    let laid : (es : List Event) → LaysOut b c e (opens_empty e (y ++ es)) = λ es. lays_either b c e empty (opens_empty e (y ++ es)) (is es) l in
    record {
      finishes = λ es whole f. finishes_on b c e (y ++ es) whole (laid es) (p.finishes es whole f);
      first = λ g es. wrong_on b c e (y ++ es) empty o l g ∙ p.first (l.text.going g) es;
      lays = λ es whole f. lays_first b c e (y ++ es) whole o (laid es) (p.lays es whole f);
      grows = grows_both a.sink.bytes b.sink.bytes c.sink.bytes p.grows l.text.grows;
      going = λ g. p.going (l.text.going g);
      encoding = l.text.encoding ∙ p.encoding;
      limit = l.text.limit ∙ p.limit;
      memory = λ n.
          let k = notes_both (take_memory h) _ _ _ p.going l.text.going n in
          l.memory (notes_within (take_memory h) (takes_memory e) _ _ (λ z. (or_parts (takes_memory e) (take_memory y) (p.left z)).0) k.1) ∙ p.memory k.0;
      left = λ z. (or_parts (takes_memory e) (take_memory y) (p.left z)).1;
      laid = suc p.laid;
      rest = drop_next p.laid h e y p.rest;
      some = λ g m n is es whole f. some_step n b c e (y ++ es) whole o (laid es) (p.some (l.text.going g) m (suc n) (omega (arith, is)) es whole f);
      blames = λ off on.
          let on_still : b.sink.status ≡ Going = goes_going b.sink.status b.place goes in
          let off' : b.starved ≡ false = p.memory (going_notes (take_memory h) a.sink.status b.sink.status on_still) ∙ off in
          let takes : takes_memory e ≡ true = noted_takes (takes_memory e) b.sink.status c.sink.status b.starved c.starved off' on l.memory in
          blamed a b c h y e empty p o on_still is takes (l.blames.levels on_still off' on);
    }

lays_more : (a b c : Core) (h y : List Event) (e : Event) (empty : Bool)
    → LaysEvents a h b (e ∷ y) → goes_on b.sink.status b.place ≡ true
    → is_ready (e ∷ y) ≡ true
    → Settles b e empty y → LaysOut b c e empty → LaysEvents a h c y
lays_more a b c h y e empty p goes r is l =
    let o : refused_at b.place ≡ None = going_open b.sink.status b.place goes in
    let laid : (es : List Event) → LaysOut b c e (opens_empty e (y ++ es)) = λ es. lays_either b c e empty (opens_empty e (y ++ es)) (is es) l in
    record {
      on = on_more a b c h y e empty p.on goes is l;
      refuses = λ g es. refusal_on b c e (y ++ es) empty o (ready_more e y es r) l g ∙ p.refuses (l.text.going g) es;
      lets_out = λ es whole f. text_step b c e (y ++ es) whole o (ready_more e y es r) (laid es) (p.lets_out es whole f);
    }

-- the oldest of those that are held, with an event after them
pub lays_oldest : (a b c : Core) (h held new z : List Event) (e f : Event)
    → LaysEvents a h b (held ++ f ∷ []) → held ≡ e ∷ z → new ≡ z
    → goes_on b.sink.status b.place ≡ true → is_ready (held ++ f ∷ []) ≡ true
    → LaysOut b c e (opens_empty e (z ++ f ∷ [])) → LaysEvents a h c (new ++ f ∷ [])
lays_oldest a b c h held new z e f p same n goes r l =
    rw n (lays_more a b c h (z ++ f ∷ []) e _ (rw same at p) goes (rw same at r) (settles_by b e _ (z ++ f ∷ []) (λ es. told e z f es)) l)

-- an event that isn't held
pub lays_past : (a b c : Core) (x h : List Event) (e : Event) → LaysEvents a x b (h ++ e ∷ [])
    → goes_on b.sink.status b.place ≡ true → passes h e ≡ true → LaysOut b c e false
    → LaysEvents a x c h
lays_past a b c x [] e j g p l =
    lays_more a b c x [] e false j g p (settles_by b e false [] (λ es. sym (ready_empty e [] es p ∙ opens_none e))) l
lays_past a b c x (f ∷ fs) e j g p l = absurd (cc)

-- ---- laid out as they come

-- the oldest of those that are held, with an event after them
pub on_oldest : (a b c : Core) (h held new z : List Event) (e f : Event)
    → LaysOn a h b (held ++ f ∷ []) → held ≡ e ∷ z → new ≡ z
    → goes_on b.sink.status b.place ≡ true
    → LaysOut b c e (opens_empty e (z ++ f ∷ [])) → LaysOn a h c (new ++ f ∷ [])
on_oldest a b c h held new z e f p same n goes l =
    rw n (on_more a b c h (z ++ f ∷ []) e _ (rw same at p) goes (settles_by b e _ (z ++ f ∷ []) (λ es. told e z f es)) l)

-- an event that needn't wait
pub on_alone : (a b c : Core) (x h : List Event) (e : Event)
    → LaysOn a x b (h ++ e ∷ []) → h ≡ [] → goes_on b.sink.status b.place ≡ true
    → ((v w : Bool) → IsSame (settings_of b) (state_of b) e v w)
    → LaysOut b c e false → LaysOn a x c []
on_alone a b c x h e j none goes same l =
    on_more a b c x [] e false (rw none at j) goes (λ es. same false (opens_empty e es)) l

-- ---- memory

-- while the output goes on, none was refused outside it
pub lays_unnoted : (old new : Core) (before after : List Event)
    → LaysOn old before new after → (old.sink.status ≡ Going → old.starved ≡ false) → new.sink.status ≡ Going
    → new.starved ≡ false
lays_unnoted old new before after j n g = j.memory (going_notes _ old.sink.status new.sink.status g) ∙ n (j.going g)
