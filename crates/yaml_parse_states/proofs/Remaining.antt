-- A step in the words of what is still to come of a parser.
use Rattle.std.proofs.Common.{◌≡◌, ◌⊎◌, inl, inr, ℕ, ◌≤◌, Bool, true, List, [], ◌∷◌, reverse, Option, Some, None, refl, sym, ap, subst, ◌∙◌, arith}
use Rattle.yaml_parse_model.specs.declared.yaml_mark_t.{yaml_mark_t}
use Rattle.yaml_parse_model.specs.declared.yaml_origin_t.TheVariants.{Parser as ParserLayer}
use Rattle.yaml_parse_model.specs.scan_types.Tokens.{Token}
use Rattle.yaml_parse_model.specs.scan_types.Faults.{Fault, memory_fault, IsMemoryFault, parse_layers, scan_layers}
use Rattle.yaml_parse_model.specs.Source.{HasMore}
use Rattle.yaml_parse_model.specs.Events.{Event}
use Rattle.yaml_parse_grammar.specs.States as grammar
use Rattle.yaml_parse_grammar.specs.Machine.{Stands, run}
use Rattle.yaml_parse_grammar.specs.Resolve.{Directives}
use Rattle.yaml_parse_grammar.specs.Remaining.{FaultOf, is_between, next_unasked}
use Rattle.yaml_parse_grammar.proofs.EventsToGive.{reading_speaks, speaks}
use Rattle.yaml_scan_model.specs.declared.tokens.Tokens.{Ghosts}
use Rattle.yaml_parse_states.specs.declared.parser.Parser.{Parser}
use Rattle.yaml_parse_states.specs.declared.parser.Refusal.{Refusal}
use Rattle.yaml_parse_states.specs.declared.parser.Refusal.TheVariants as refusal
use Rattle.yaml_parse_states.specs.declared.parser.State.{State}
use Rattle.yaml_parse_states.specs.declared.parser.State.TheVariants as state
use Rattle.yaml_parse_states.specs.Coming.{Coming, ahead, nothing, read, stopped}
use Rattle.yaml_parse_states.specs.Views.{coming_in, coming_of, directives_of, event_in, over, stack}
use Rattle.yaml_parse_states.specs.Turned.{GaveEvent, IsRefused, Keeps, LacksMemory, Means}
use Rattle.yaml_parse_states.specs.Owned.{Stays}
use Rattle.yaml_parse_states.specs.Standing.{StandsIn}
use Rattle.yaml_parse_states.specs.Remaining.{ToldBy, ToldNext, remaining}
use Rattle.yaml_parse_states.specs.Utf8.{IsUtf8Held, IsUtf8In, IsUtf8Kept}
use Rattle.yaml_parse_states.specs.Filled.{GaveFront, GaveNone}
use Rattle.yaml_parse_states.proofs.Reading.{read_over}

-- ---- where nothing is left

pub over_coming : {T P : Type 0} (g : Ghosts T P) (p : Parser T P) → p.state ≡ state.End
    → coming_of g p ≡ nothing
over_coming g p e = ap (λ x. coming_in g x p) e ∙ read_over _ _ _

over_between : {T P : Type 0} (g : Ghosts T P) (p : Parser T P) → p.state ≡ state.End
    → is_between (stack (g.mark_of p.tokens) p.state (reverse p.levels.items)) ≡ true
over_between g p e = ap (λ x. is_between (stack (g.mark_of p.tokens) x (reverse p.levels.items))) e

-- ---- where something is

states_stand : (x : State) (o : yaml_mark_t) (n : State) (s : List grammar.State)
    → (x ≡ state.End → ⊥) → Stands (over x o n s)
states_stand state.End o n s h = absurd (h refl)
states_stand x o n s h = tt

has_more : {X : Type 0} (xs : List X) (f : Option Fault) → (xs ≡ [] → f ≡ None → ⊥) → HasMore xs f
has_more [] None h = h refl refl
has_more [] (Some e) h = tt
has_more (x ∷ xs) f h = tt

read_more : (ts : List Token) (f : Option Fault) (s : List grammar.State) (ds : Directives)
    → Stands s
    → HasMore (read ts f s ds).events (read ts f s ds).ending
unfolding read
read_more ts f s ds h =
    has_more _ _ (reading_speaks (run ts s f).items (run ts s f).ending ds (speaks ts f s h))

more_of : {T P : Type 0} (g : Ghosts T P) (p : Parser T P) → (p.state ≡ state.End → ⊥)
    → HasMore (coming_of g p).events (coming_of g p).ending
more_of g p h = read_more _ _ _ _ (states_stand p.state _ _ _ h)

ahead_more : (c d : Coming) (e : Event) (m : ℕ) → c ≡ ahead e m d → HasMore c.events c.ending
ahead_more c d e m h = subst (λ (z : Coming). HasMore z.events z.ending) (sym h) tt

-- ---- a fault

fault_next : (c d : Coming) (n m h k : ℕ) (b b' : Bool) (a f : Fault) → HasMore c.events c.ending
    → d ≡ nothing → b' ≡ true → IsMemoryFault parse_layers f ⊎ (c ≡ stopped f m)
    → IsMemoryFault scan_layers f ⊎ (next_unasked c.events c.ending_unasked ≤ m)
    → FaultOf (remaining c n h b a) f (remaining d m k b' f)
fault_next c d n m h k b b' a f more none between reason asked = record {
  more = more;
  finished = record {
    events = ap (λ (z : Coming). z.events) none;
    ending = ap (λ (z : Coming). z.ending) none;
    between = between;
  };
  answered = refl;
  reason = elim reason [
    | inl x ↦ inl x
    | inr e ↦ inr (ap (λ (z : Coming). z.events) e, ap (λ (z : Coming). z.ending) e)
  ];
  unasked = elim reason [
    | inl x ↦ inl x
    | inr e ↦ inr (sym (ap (λ (z : Coming). z.ending_unasked) e))
  ];
  asked = asked;
}

asked_there : (c : Coming) (f : Fault) (m : ℕ) → c ≡ stopped f m
    → next_unasked c.events c.ending_unasked ≤ m
asked_there c f m e =
    let same : next_unasked c.events c.ending_unasked ≡ m = ap (λ (z : Coming). next_unasked z.events z.ending_unasked) e in
    omega (arith, same)

-- it was reported by a step
told_step : {T P : Type 0} (g : Ghosts T P) (held : T → ℕ) (n : ℕ) (a : Fault)
    (old new : Parser T P) → (old.state ≡ state.End → ⊥)
    → (h : IsRefused g (coming_of g old) new) → ToldNext g held n a h.fault old new
told_step g held n a old new open_ h = record {
  unasked = h.unasked;
  left = h.left;
  tells = fault_next (coming_of g old) (coming_of g new) n h.unasked (held old.tokens) (held new.tokens) _ _ a h.fault
      (more_of g old open_) (over_coming g new h.over) (over_between g new h.over)
      (elim h.reason [ inl m ↦ inl (inr m) | inr e ↦ inr e ])
      (elim h.reason [ inl m ↦ inl m | inr e ↦ inr (asked_there (coming_of g old) h.fault h.unasked e) ]);
}

lacked_step : {T P : Type 0} (g : Ghosts T P) (held : T → ℕ) (n : ℕ) (a : Fault)
    (old new : Parser T P) → (old.state ≡ state.End → ⊥)
    → (h : LacksMemory g (coming_of g old) new) → ToldNext g held n a h.fault old new
lacked_step g held n a old new open_ h = record {
  unasked = h.unasked;
  left = h.left;
  tells = fault_next (coming_of g old) (coming_of g new) n h.unasked (held old.tokens) (held new.tokens) _ _ a h.fault
      (more_of g old open_) (over_coming g new h.over) (over_between g new h.over)
      (inl (inl h.memory)) (inr h.asked);
}

meant : {T P : Type 0} (g : Ghosts T P) (f : Fault) (r : Refusal) (new : Parser T P)
    → ((s : Refusal) → new.refusal ≡ Some s → r ≡ s) → (k : Keeps g f new) → Means g new.tokens r f
meant g f r new is k = subst (λ z. Means g new.tokens z f) (sym (is k.refusal k.kept)) k.means

over_stands : {T P : Type 0} (p : Parser T P) → p.state ≡ state.End
    → StandsIn p.state (reverse p.levels.items)
over_stands p e = subst (λ x. StandsIn x (reverse p.levels.items)) (sym e) tt

over_utf8 : {T P : Type 0} (g : Ghosts T P) (p : Parser T P) → p.state ≡ state.End → IsUtf8Held g p
over_utf8 g p e = subst (λ x. IsUtf8In x (IsUtf8Kept g p)) (sym e) tt

pub told_by : {T P : Type 0} (g : Ghosts T P) (r : Refusal) (old new : Parser T P)
    → (old.state ≡ state.End → ⊥) → ((s : Refusal) → new.refusal ≡ Some s → r ≡ s)
    → IsRefused g (coming_of g old) new ⊎ LacksMemory g (coming_of g old) new
    → ToldBy g r old new
told_by g r old new open_ is (inl h) = record {
  fault = h.fault;
  means = meant g h.fault r new is h.told;
  stands = over_stands new h.over;
  utf8 = over_utf8 g new h.over;
  told = λ held n a. told_step g held n a old new open_ h;
}
told_by g r old new open_ is (inr h) = record {
  fault = h.fault;
  means = meant g h.fault r new is h.told;
  stands = over_stands new h.over;
  utf8 = over_utf8 g new h.over;
  told = λ held n a. lacked_step g held n a old new open_ h;
}

-- or memory ran out as the event was made
told_made : {T P : Type 0} (g : Ghosts T P) (held : T → ℕ) (n : ℕ) (a f : Fault)
    (old mid made new : Parser T P) → GaveEvent g (coming_of g old) mid → Stays g mid made
    → new.tokens ≡ made.tokens → new.state ≡ state.End → f ≡ memory_fault ParserLayer
    → ToldNext g held n a f old new
told_made g held n a f old mid made new h stays same over_ is = record {
  unasked = h.unasked;
  left = ap (λ z. g.unasked z) same ∙ stays.unasked ∙ h.left;
  tells = fault_next (coming_of g old) (coming_of g new) n h.unasked (held old.tokens) (held new.tokens) _ _ a f
      (ahead_more (coming_of g old) _ _ h.unasked h.next) (over_coming g new over_) (over_between g new over_)
      (inl (inl is))
      (inr (let there : next_unasked (coming_of g old).events (coming_of g old).ending_unasked ≡ h.unasked = ap (λ (z : Coming). next_unasked z.events z.ending_unasked) h.next in omega (arith, there)));
}

pub told_made_by : {T P : Type 0} (g : Ghosts T P) (r : Refusal) (old mid made new : Parser T P)
    → GaveEvent g (coming_of g old) mid → Stays g mid made → new.tokens ≡ made.tokens
    → new.state ≡ state.End → r ≡ refusal.LackOfMemory → ToldBy g r old new
told_made_by g r old mid made new h stays same over_ is = record {
  fault = memory_fault ParserLayer;
  means = subst (λ z. Means g new.tokens z (memory_fault ParserLayer)) (sym is) refl;
  stands = over_stands new over_;
  utf8 = over_utf8 g new over_;
  told = λ held n a. told_made g held n a (memory_fault ParserLayer) old mid made new h stays same over_ refl;
}

-- ---- into a slot

-- Of a parser that was left as it is.
pub stays_self : {T P : Type 0} (g : Ghosts T P) (p : Parser T P) → Stays g p p
stays_self g p = record {
  same = refl;
  to_come = refl;
  fault = refl;
  texts = refl;
  places = refl;
  told = λ h. h;
  unasked = refl;
  held = refl;
}

-- the rest is as it was
stays_coming : {T P : Type 0} (g : Ghosts T P) (mid new : Parser T P) → Stays g mid new
    → coming_of g new ≡ coming_of g mid
stays_coming g mid new s =
    let over_ = reverse mid.levels.items in
    let ds : Directives = directives_of mid.directives in
    ap (λ (p : Parser _ _). coming_of g p) s.same
    ∙ ap (λ ts. read ts (g.fault_to_come new.tokens) (stack (g.mark_of new.tokens) mid.state over_) ds) s.to_come
    ∙ ap (λ f. read (g.to_come mid.tokens) f (stack (g.mark_of new.tokens) mid.state over_) ds) s.fault
    ∙ ap (λ at. read (g.to_come mid.tokens) (g.fault_to_come mid.tokens) (stack at mid.state over_) ds) s.places

-- it was the next one
pub gave_front : {T P : Type 0} (g : Ghosts T P) (e : Event) (old mid new : Parser T P)
    → GaveEvent g (coming_of g old) mid → Stays g mid new → e ≡ event_in g mid
    → GaveFront g e old new
gave_front g e old mid new h s is = record {
  unasked = h.unasked;
  left = s.unasked ∙ h.left;
  next = h.next ∙ ap (λ z. ahead z h.unasked (coming_of g mid)) (sym is) ∙ ap (λ z. ahead e h.unasked z) (sym (stays_coming g mid new s));
}

-- nothing is left
pub gave_none : {T P : Type 0} (g : Ghosts T P) (old new : Parser T P) → new ≡ old
    → old.state ≡ state.End → GaveNone g old new
gave_none g old new same over_ = record {
  same = same;
  finished = λ held n a. record {
    events = ap (λ (z : Coming). z.events) (over_coming g old over_);
    ending = ap (λ (z : Coming). z.ending) (over_coming g old over_);
    between = over_between g old over_;
  };
}
