-- How states are, in the words of the grammar's.
use Rattle.std.proofs.Common.{◌≡◌, ◌∙◌, List, [], ◌∷◌, reverse, ℕ, refl, sym, ap, subst}
use Rattle.yaml_parse_model.specs.declared.yaml_mark_t.{yaml_mark_t}
use Rattle.yaml_parse_model.specs.Events.{Event}
use Rattle.yaml_parse_grammar.specs.Remaining.{is_between}
use Rattle.yaml_parse_grammar.specs.Resolve.{Directives}
use Rattle.yaml_parse_grammar.specs.Stacks.{IsInside, IsStack, parts_documents_behind}
use Rattle.yaml_scan_model.specs.Texts.{Texts}
use Rattle.yaml_scan_model.specs.declared.tokens.Tokens.{Ghosts}
use Rattle.yaml_parse_states.specs.declared.event.EventKind.{EventKind}
use Rattle.yaml_parse_states.specs.declared.event.EventKind.TheVariants as kind
use Rattle.yaml_parse_states.specs.declared.event.Slot.{Slot}
use Rattle.yaml_parse_states.specs.declared.parser.Level.{Level}
use Rattle.yaml_parse_states.specs.declared.parser.Parser.{Parser}
use Rattle.yaml_parse_states.specs.declared.parser.State.{State}
use Rattle.yaml_parse_states.specs.declared.parser.State.TheVariants as state
use Rattle.yaml_parse_states.specs.Views.{below, body_in, directives_of, event_in, opener, over, stack}
use Rattle.yaml_parse_states.specs.Owned.{Stays}
use Rattle.yaml_parse_states.specs.Standing.{AreNested, IsBehind, Stands, StandsIn, StandsTold, Stood, between_behind, between_in}

behind_inside : {P : Type 0} (at : P → yaml_mark_t) (x : State) (o : yaml_mark_t) (n : State)
    (ls : List (Level P)) → IsBehind x (AreNested ls) → (AreNested ls → IsInside (below at ls))
    → IsInside (over x o n (below at ls))
behind_inside at state.StreamStart o n ls h f = absurd h
behind_inside at state.FirstDocument o n ls h f = absurd h
behind_inside at state.DocumentStart o n ls h f = absurd h
behind_inside at state.DocumentContent o n ls h f = absurd h
behind_inside at state.End o n ls h f = absurd h
behind_inside at state.DocumentEnd o n ls h f = refl
behind_inside at state.BlockSequenceEntry o n ls h f = (tt, f h)
behind_inside at state.IndentlessSequenceEntry o n ls h f = (tt, f h)
behind_inside at state.BlockMappingKey o n ls h f = (tt, f h)
behind_inside at state.BlockMappingValue o n ls h f = (tt, (tt, f h))
behind_inside at state.FlowSequenceFirstEntry o n ls h f = (tt, f h)
behind_inside at state.FlowSequenceEntry o n ls h f = (tt, f h)
behind_inside at state.FlowPairKey o n ls h f = (tt, (tt, (tt, (tt, f h))))
behind_inside at state.FlowPairValue o n ls h f = (tt, (tt, (tt, f h)))
behind_inside at state.FlowPairEnd o n ls h f = (tt, (tt, f h))
behind_inside at state.FlowMappingFirstKey o n ls h f = (tt, f h)
behind_inside at state.FlowMappingKey o n ls h f = (tt, f h)
behind_inside at state.FlowMappingValue o n ls h f = (tt, (tt, f h))
behind_inside at state.FlowMappingEmptyValue o n ls h f = (tt, (tt, f h))

nested_inside : {P : Type 0} (at : P → yaml_mark_t) (ls : List (Level P)) → AreNested ls
    → IsInside (below at ls)
unfolding below
nested_inside at [] h = absurd h
nested_inside at (l ∷ ls) h = behind_inside at l.next (opener at ls) _ ls h (λ k. nested_inside at ls k)

-- they are a stack of the grammar's states
pub stack_stands : {P : Type 0} (at : P → yaml_mark_t) (x : State) (ls : List (Level P))
    → StandsIn x ls → IsStack (stack at x ls)
stack_stands at state.StreamStart ls h = refl
stack_stands at state.FirstDocument ls h = refl
stack_stands at state.DocumentStart ls h = refl
stack_stands at state.DocumentContent ls h = (tt, refl)
stack_stands at state.DocumentEnd ls h = refl
stack_stands at state.End ls h = tt
stack_stands at state.BlockSequenceEntry ls h = (tt, nested_inside at ls h)
stack_stands at state.IndentlessSequenceEntry ls h = (tt, nested_inside at ls h)
stack_stands at state.BlockMappingKey ls h = (tt, nested_inside at ls h)
stack_stands at state.BlockMappingValue ls h = (tt, (tt, nested_inside at ls h))
stack_stands at state.FlowSequenceFirstEntry ls h = (tt, nested_inside at ls h)
stack_stands at state.FlowSequenceEntry ls h = (tt, nested_inside at ls h)
stack_stands at state.FlowPairKey ls h = (tt, (tt, (tt, (tt, nested_inside at ls h))))
stack_stands at state.FlowPairValue ls h = (tt, (tt, (tt, nested_inside at ls h)))
stack_stands at state.FlowPairEnd ls h = (tt, (tt, nested_inside at ls h))
stack_stands at state.FlowMappingFirstKey ls h = (tt, nested_inside at ls h)
stack_stands at state.FlowMappingKey ls h = (tt, nested_inside at ls h)
stack_stands at state.FlowMappingValue ls h = (tt, (tt, nested_inside at ls h))
stack_stands at state.FlowMappingEmptyValue ls h = (tt, (tt, nested_inside at ls h))

pub stack_between : {P : Type 0} (at : P → yaml_mark_t) (x : State) (ls : List (Level P))
    → is_between (stack at x ls) ≡ between_in x
stack_between at state.StreamStart ls = refl
stack_between at state.End ls = refl
stack_between at x ls = refl

-- what an event says of it
kind_between : {P : Type 0} (k : EventKind) (s : Slot P) (a t : List ℕ) (u : Texts)
    (ds : Directives)
    → parts_documents_behind (body_in (record s { kind = k }) a t u ds) ≡ between_behind k
kind_between kind.StreamStart s a t u ds = refl
kind_between k s a t u ds = refl

-- it is known by the event that was given
pub told_stands : {T P : Type 0} (g : Ghosts T P) (e : Event) (mid new : Parser T P) → Stood mid
    → Stays g mid new → e ≡ event_in g mid → StandsTold g e new
told_stands g e mid new h s w = record {
  stands = subst Stands (sym s.same) h.stands;
  between = stack_between (g.mark_of new.tokens) new.state (reverse new.levels.items)
      ∙ ap (λ (p : Parser _ _). between_in p.state) s.same ∙ h.between
      ∙ sym (kind_between mid.event.kind mid.event mid.anchor.items mid.tag.items (g.texts mid.tokens) (directives_of mid.directives))
      ∙ ap (λ (z : Event). parts_documents_behind z.body) (sym w);
}
