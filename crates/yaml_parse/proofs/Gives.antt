-- What a call gives, in the words of what is still to come.
use Rattle.std.proofs.Common.{◌≡◌, ◌⊎◌, inl, inr, ◌≤◌, ◌∙◌, ℕ, true, List, ◌∷◌, Option, Some, reverse, refl, sym, ap, subst}
use Rattle.yaml_scan_model.specs.declared.record.yaml_mark_t.{yaml_mark_t}
use Rattle.yaml_scan_model.specs.scan_types.Tokens.{Token}
use Rattle.yaml_scan_model.specs.scan_types.Faults.{Fault, fault_of}
use Rattle.yaml_scan_model.specs.declared.fault.yaml_fault_t.{yaml_fault_t}
use Rattle.yaml_parse_model.specs.Events.{Event}
use Rattle.yaml_parse_grammar.specs.Remaining.{FaultOf, IsFinished, ParserRemaining, is_between}
use Rattle.yaml_parse_grammar.specs.Resolve.{Directives}
use Rattle.yaml_parse_grammar.specs.Stacks.{IsStack, parts_documents_behind}
use Rattle.yaml_parse_grammar.specs.States.{State}
use Rattle.yaml_parse.specs.Finds.{GivesEnd, GivesNext, IsHeldBy}
use Rattle.yaml_parse.specs.View.{ParserView, view_of}
use Rattle.yaml_scan_model.specs.Texts.{Texts}
use Rattle.yaml_scan_model.specs.declared.tokens.Tokens.{Ghosts}
use Rattle.yaml_parse_states.specs.declared.source.SourceTokens.{SourceTokens}
use Rattle.yaml_parse_states.specs.Counts.{held_of}
use Rattle.yaml_parse_states.proofs.Held.{held_at_most}
use Rattle.yaml_parse_states.specs.declared.parser.Parser.{Parser}
use Rattle.yaml_parse_states.specs.declared.parser.Refusal.{Refusal}
use Rattle.yaml_parse_states.specs.declared.parser.State.TheVariants as state
use Rattle.yaml_parse_states.specs.declared.parser.Step.TheVariants as step
use Rattle.yaml_parse_states.specs.Coming.{Coming, read}
use Rattle.yaml_parse_states.specs.Filled.{GaveFront, GaveNone}
use Rattle.yaml_parse_states.specs.Owned.{Stays}
use Rattle.yaml_parse_states.specs.Standing.{Stands, StandsIn, Stood}
use Rattle.yaml_parse_states.specs.Turned.{GaveEvent, IsRefused, Keeps, LacksMemory, Means}
use Rattle.yaml_parse_states.specs.Views.{body_in, coming_of, directives_of, event_in, stack}
use Rattle.yaml_parse_states.specs.Utf8.{IsUtf8Held, IsUtf8In, IsUtf8Kept}
use Rattle.yaml_parse_states.proofs.Remaining.{gave_front, gave_none, over_coming, stays_self, told_by}
use Rattle.yaml_parse_states.proofs.StandingLaws.{stack_stands, told_stands}
use Rattle.yaml_parse_laws_trees.specs.Falling.{AreFalling}
use Rattle.yaml_parse_laws_trees.specs.NextLoad.{AreLoadsByContent, LoadsByContent}
use Rattle.yaml_parse_laws_trees.proofs.AllGiven.{run_loads}
use Rattle.yaml_parse_laws_trees.proofs.Falling.{run_falls}
use Rattle.yaml_parse_states.specs.Remaining.{ToldBy, ToldNext, remaining, remaining_of, tokens_of}

-- what is still to come of a parser, after that fault
abbrev pub remains : {T P : Type 0} → Ghosts T P → Parser T P → Fault → ParserRemaining
remains g p a = remaining_of g g.held p (g.unasked (tokens_of p)) a

-- an event
pub gives_next : {T P : Type 0} (g : Ghosts T P) (a : Fault)
    (e : Event) (old new : Parser T P)
    → GaveFront g e old new
    → GivesNext e (remains g old a) (remains g new a)
gives_next g a e old new h = record {
  events = ap (λ (c : Coming). c.events) h.next
      ∙ ap (λ n. (e, n) ∷ (coming_of g new).events) (sym h.left);
  ending = sym (ap (λ (c : Coming). c.ending) h.next);
  ending_unasked = sym (ap (λ (c : Coming). c.ending_unasked) h.next);
  answered = refl;
}

-- or none
pub gives_end : {T P : Type 0} (g : Ghosts T P) (a : Fault)
    (old new : Parser T P)
    → GaveNone g old new
    → GivesEnd (remains g old a) (remains g new a)
gives_end g a old new h =
    let over : IsFinished (remains g old a) = h.finished g.held (g.unasked (tokens_of old)) a in
    subst (λ p. GivesEnd (remains g old a) (remains g p a)) (sym h.same) (record {
      events = over.events;
      ending = over.ending;
      nothing = record { given = refl; finished = over; unasked = refl; held = refl; answered = refl };
    })

-- what a step gives
pub step_gives : {T P : Type 0} (g : Ghosts T P) (a : Fault) (old new : Parser T P)
    → GaveEvent g (coming_of g old) new
    → GivesNext (event_in g new) (remains g old a) (remains g new a)
step_gives g a old new h =
    gives_next g a (event_in g new) old new
    (gave_front g (event_in g new) old new new h (stays_self g new) refl)

pub step_between : {T P : Type 0} (g : Ghosts T P) (a : Fault) (p : Parser T P) → Stood p
    → (remains g p a).between ≡ parts_documents_behind (event_in g p).body
step_between g a p h = (told_stands g (event_in g p) p p h (stays_self g p) refl).between

pub step_ends : {T P : Type 0} (g : Ghosts T P) (a : Fault) (old new : Parser T P)
    → (new ≡ old) × (old.state ≡ state.End) → GivesEnd (remains g old a) (remains g new a)
step_ends g a old new h = gives_end g a old new (gave_none g old new h.0 h.1)

refused_ends : step.Refused ≡ step.End → ⊥
refused_ends e = cc

pub step_told : {T P : Type 0} (g : Ghosts T P) (r : Refusal) (old new : Parser T P)
    → (old.state ≡ state.End → step.Refused ≡ step.End)
    → ((s : Refusal) → new.refusal ≡ Some s → r ≡ s)
    → IsRefused g (coming_of g old) new ⊎ LacksMemory g (coming_of g old) new
    → ToldBy g r old new
step_told g r old new open_ is h = told_by g r old new (λ e. refused_ends (open_ e)) is h

-- it keeps why it refused
pub step_kept : {T P : Type 0} (g : Ghosts T P) (was : Coming) (new : Parser T P)
    → IsRefused g was new ⊎ LacksMemory g was new → (f : Fault) × Keeps g f new
step_kept g was new (inl h) = (h.fault, h.told)
step_kept g was new (inr h) = (h.fault, h.told)

pub same_refusal : (r s : Refusal) → ◌≡◌ {A = Option Refusal} (Some r) (Some s) → r ≡ s
same_refusal r s e = cc

-- ---- marks

seen : {T P : Type 0} → List Token → Option Fault → (P → yaml_mark_t) → Texts → ℕ → ℕ
    → Parser T P → Fault → ParserView
seen ts f at u h n p a = record {
  remaining = remaining (read ts f (stack at p.state (reverse p.levels.items)) (directives_of p.directives))
      n h (is_between (stack at p.state (reverse p.levels.items))) a;
  given = record {
    body = body_in p.event p.anchor.items p.tag.items u (directives_of p.directives);
    start_mark = at p.event.start;
    end_mark = at p.event.end;
  };
}

-- the making of marks leaves a parser as it is
pub stays_seen : {T P : Type 0} (g : Ghosts T P) (f : yaml_fault_t) (old new : Parser T P)
    → Stays g old new → view_of g new f ≡ view_of g old f
unfolding seen
stays_seen g f old new s =
    let t = tokens_of new in
    let o = tokens_of old in
    let a : Fault = fault_of f in
    ap (λ (p : Parser _ _). view_of g p f) s.same
    ∙ ap (λ ts. seen ts (g.fault_to_come t) (g.mark_of t) (g.texts t) (g.held t) (g.unasked t) old a) s.to_come
    ∙ ap (λ e. seen (g.to_come o) e (g.mark_of t) (g.texts t) (g.held t) (g.unasked t) old a) s.fault
    ∙ ap (λ at. seen (g.to_come o) (g.fault_to_come o) at (g.texts t) (g.held t) (g.unasked t) old a) s.places
    ∙ ap (λ u. seen (g.to_come o) (g.fault_to_come o) (g.mark_of o) u (g.held t) (g.unasked t) old a) s.texts
    ∙ ap (λ h. seen (g.to_come o) (g.fault_to_come o) (g.mark_of o) (g.texts o) h (g.unasked t) old a) s.held
    ∙ ap (λ n. seen (g.to_come o) (g.fault_to_come o) (g.mark_of o) (g.texts o) (g.held o) n old a) s.unasked

pub told_fault : {T P : Type 0} (g : Ghosts T P) (a b f : Fault)
    (r : Refusal) (old new : Parser T P)
    → ToldBy g r old new
    → ((e : Fault) → Means g (tokens_of new) r e → f ≡ e)
    → b ≡ f
    → FaultOf (remains g old a) f (remains g new b)
told_fault g a b f r old new h is kept =
    let same : f ≡ h.fault = is h.fault h.means in
    let t : ToldNext g g.held (g.unasked (tokens_of old)) a h.fault old new = h.told g.held (g.unasked (tokens_of old)) a in
    subst (λ z. FaultOf (remains g old a) z (remains g new b)) (sym same)
    (subst (λ z. FaultOf (remains g old a) h.fault (remains g new z)) (sym (kept ∙ same))
    (subst (λ n. FaultOf (remains g old a) h.fault (remaining_of g g.held new n h.fault)) (sym t.left) t.tells))

-- no more is held than the tokens hold at most
pub holds_as_tokens : {T P : Type 0} (g : Ghosts T P) (p : Parser T P) (a : Fault)
    → IsHeldBy g.held (remains g p a).held
holds_as_tokens g p a most h = h (tokens_of p)

pub one_held : {S : Type 0} (p : Parser (SourceTokens S) yaml_mark_t) → held_of (tokens_of p) ≤ 1
one_held p = held_at_most (tokens_of p)

-- ---- loads

read_loads : (ts : List Token) (f : Option Fault) (s : List State) (ds : Directives) → IsStack s
    → is_between s ≡ true
    → LoadsByContent (read ts f s ds).ending (read ts f s ds).ending_unasked (read ts f s ds).events
unfolding read
read_loads ts f s ds i b = run_loads ts s f ds _ _ i b

-- between documents, whole ones are to come, and a front of one
pub parser_loads : {T P : Type 0} (g : Ghosts T P) (p : Parser T P) (a : Fault) → Stands p
    → (remains g p a).between ≡ true
    → AreLoadsByContent (remains g p a)
parser_loads g p a h b =
    read_loads _ _ _ _ (stack_stands _ p.state (reverse p.levels.items) h) b

read_falls : (ts : List Token) (f : Option Fault) (s : List State) (ds : Directives)
    → AreFalling (read ts f s ds).events (read ts f s ds).ending_unasked
unfolding read
read_falls ts f s ds = run_falls ts f s ds

pub parser_falls : {T P : Type 0} (g : Ghosts T P) (p : Parser T P) (a : Fault)
    → AreFalling (remains g p a).events
    (remains g p a).ending_unasked
parser_falls g p a = read_falls _ _ _ _

-- nothing comes of a parser that was stopped
pub parser_stops : {T P : Type 0} (g : Ghosts T P) (p : Parser T P) (a : Fault)
    → p.state ≡ state.End
    → IsFinished (remains g p a)
parser_stops g p a h =
    let nothing = over_coming g p h in
    record {
      events = ap (λ (c : Coming). c.events) nothing;
      ending = ap (λ (c : Coming). c.ending) nothing;
      between = ap (λ x. is_between (stack (g.mark_of p.tokens) x (reverse p.levels.items))) h;
    }

-- and it keeps to what a parser does
pub stopped_stands : {T P : Type 0} (p : Parser T P) → p.state ≡ state.End
    → Stands p
stopped_stands p h = subst (λ x. StandsIn x (reverse p.levels.items)) (sym h) tt

pub stopped_utf8 : {T P : Type 0} (g : Ghosts T P) (p : Parser T P) → p.state ≡ state.End
    → IsUtf8Held g p
stopped_utf8 g p h =
    subst (λ x. IsUtf8In x (IsUtf8Kept g p)) (sym h) tt
