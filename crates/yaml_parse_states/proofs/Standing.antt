-- How states are above open collections.
use Rattle.std.proofs.Common.{◌≡◌, ◌∙◌, false, List, [], ◌∷◌, ◌++◌, reverse, ℕ, length, Option, Some, refl, sym, ap, subst}
use Rattle.std.specs.Option.{option_to_list}
use Rattle.std.proofs.lemmas.List.{nil_from_length, reverse-append}
use Rattle.yaml_parse_states.specs.declared.event.EventKind.{EventKind}
use Rattle.yaml_parse_states.specs.declared.parser.Level.{Level}
use Rattle.yaml_parse_states.specs.declared.parser.Parser.{Parser}
use Rattle.yaml_parse_states.specs.declared.parser.State.{State}
use Rattle.yaml_parse_states.specs.declared.parser.State.TheVariants as state
use Rattle.yaml_parse_states.specs.declared.parser.Turn.{Turn}
use Rattle.yaml_parse_states.specs.declared.parser.Turn.TheVariants as turn
use Rattle.yaml_parse_states.specs.Standing.{AreNested, IsAwaiting, IsBehind, IsInner, Stands, StandsAfter, StandsBehind, StandsIn, Stood, between_behind, between_in}

-- ---- states

pub behind_stands : {P : Type 0} (x : State) (ls : List (Level P)) → IsBehind x (AreNested ls)
    → StandsIn x ls
behind_stands state.StreamStart ls h = tt
behind_stands state.FirstDocument ls h = tt
behind_stands state.DocumentStart ls h = tt
behind_stands state.DocumentContent ls h = tt
behind_stands state.DocumentEnd ls h = tt
behind_stands state.End ls h = tt
behind_stands x ls h = h

pub behind_between : {P : Type 0} (x : State) (ls : List (Level P)) → IsBehind x (AreNested ls)
    → between_in x ≡ false
behind_between state.StreamStart ls h = absurd h
behind_between state.FirstDocument ls h = absurd h
behind_between state.DocumentStart ls h = absurd h
behind_between state.End ls h = absurd h
behind_between x ls h = refl

inner_stands : {P : Type 0} (x : State) (ls : List (Level P)) → IsInner x → AreNested ls
    → StandsIn x ls
inner_stands state.StreamStart ls i h = tt
inner_stands state.FirstDocument ls i h = tt
inner_stands state.DocumentStart ls i h = tt
inner_stands state.DocumentContent ls i h = tt
inner_stands state.DocumentEnd ls i h = tt
inner_stands state.End ls i h = tt
inner_stands x ls i h = h

inner_between : (x : State) → IsInner x → between_in x ≡ false
inner_between state.StreamStart i = absurd i
inner_between state.FirstDocument i = absurd i
inner_between state.DocumentStart i = absurd i
inner_between state.End i = absurd i
inner_between x i = refl

-- ---- open collections

pub popped_nested : {P : Type 0} (old new : List (Level P)) (l : Level P) (o : Option (Level P))
    → old ≡ new ++ option_to_list o → o ≡ Some l → AreNested (reverse old)
    → IsBehind l.next (AreNested (reverse new))
popped_nested old new l o e d h =
    subst AreNested (ap reverse (e ∙ ap (λ z. new ++ option_to_list z) d) ∙ reverse-append new (l ∷ [])) h

pub pushed_nested : {P : Type 0} (old new : List (Level P)) (l : Level P) → new ≡ old ++ l ∷ []
    → IsBehind l.next (AreNested (reverse old)) → AreNested (reverse new)
pushed_nested old new l e h = subst AreNested (sym (ap reverse e ∙ reverse-append old (l ∷ []))) h

pub none_nested : {P : Type 0} (ls : List (Level P)) (n : ℕ) → n ≡ length ls → n ≡ 0
    → AreNested (reverse ls) → ⊥
none_nested ls n e z h = subst (λ y. AreNested (reverse y)) (nil_from_length ls (sym e ∙ z)) h

-- ---- a turn

pub stood_by : {T P : Type 0} (r : Turn) (new mid : Parser T P) → r ≡ turn.Given → new ≡ mid
    → Stands mid → between_in mid.state ≡ between_behind mid.event.kind → StandsAfter r new
stood_by r new mid e d s b =
    subst (λ z. StandsAfter z new) (sym e) (subst Stood (sym d) (record { stands = s; between = b }))

pub awaiting_stands : {T P : Type 0} (r : Turn) (p : Parser T P) → IsAwaiting r → StandsBehind p
    → StandsAfter r p
awaiting_stands turn.Given p i h = absurd i
awaiting_stands turn.BlockNode p i h = h
awaiting_stands turn.IndentlessNode p i h = h
awaiting_stands turn.FlowNode p i h = h
awaiting_stands turn.Refused p i h = tt
awaiting_stands turn.End p i h = tt

-- a node's event was given, with nothing opened
pub node_stood : {T P : Type 0} (r : Turn) (old new : Parser T P) → r ≡ turn.Given
    → StandsBehind old → new.state ≡ old.state → new.levels ≡ old.levels
    → false ≡ between_behind new.event.kind → StandsAfter r new
node_stood r old new e h s l b =
    subst (λ z. StandsAfter z new) (sym e) (record {
      stands = subst (λ z. StandsIn new.state (reverse z.items)) (sym l) (subst (λ z. StandsIn z (reverse old.levels.items)) (sym s) (behind_stands old.state (reverse old.levels.items) h));
      between = ap between_in s ∙ behind_between old.state (reverse old.levels.items) h ∙ b;
    })

-- a collection was opened
pub opened_stood : {T P : Type 0} (first : State) (kind : EventKind) (r : Turn) (new : Parser T P)
    → r ≡ turn.Given → IsInner first → AreNested (reverse new.levels.items) → new.state ≡ first
    → new.event.kind ≡ kind → false ≡ between_behind kind → StandsAfter r new
opened_stood first kind r new e i h s k b =
    subst (λ z. StandsAfter z new) (sym e) (record {
      stands = subst (λ z. StandsIn z (reverse new.levels.items)) (sym s) (inner_stands first (reverse new.levels.items) i h);
      between = ap between_in s ∙ inner_between first i ∙ b ∙ ap between_behind (sym k);
    })

-- a collection ended
pub ended_stood : {T P : Type 0} (next : State) (kind : EventKind) (r : Turn) (mid new : Parser T P)
    → IsBehind next (AreNested (reverse mid.levels.items)) → false ≡ between_behind kind
    → (StandsIn next (reverse mid.levels.items) → between_in next ≡ between_behind kind → StandsAfter r new)
    → StandsAfter r new
ended_stood next kind r mid new h b f =
    f (behind_stands next (reverse mid.levels.items) h) (behind_between next (reverse mid.levels.items) h ∙ b)

-- of the state that is the parser's
pub turn_stood : {T P : Type 0} (x : State) (r : Turn) (old new : Parser T P) → old.state ≡ x
    → (StandsIn x (reverse old.levels.items) → StandsAfter r new) → Stands old → StandsAfter r new
turn_stood x r old new e f h = f (subst (λ z. StandsIn z (reverse old.levels.items)) e h)

-- likewise where the event's value is known besides
pub valued_stood : {T P : Type 0} (r : Turn) (old mid new : Parser T P) → r ≡ turn.Given
    → StandsBehind old
    → (StandsIn old.state (reverse old.levels.items) → between_in old.state ≡ false → StandsAfter r mid)
    → new.state ≡ mid.state → new.levels ≡ mid.levels → new.event.kind ≡ mid.event.kind
    → StandsAfter r new
valued_stood r old mid new e h f s l k =
    let m : Stood mid = subst (λ z. StandsAfter z mid) e (f (behind_stands old.state (reverse old.levels.items) h) (behind_between old.state (reverse old.levels.items) h)) in
    subst (λ z. StandsAfter z new) (sym e) (record {
      stands = subst (λ z. StandsIn new.state (reverse z.items)) (sym l) (subst (λ z. StandsIn z (reverse mid.levels.items)) (sym s) m.stands);
      between = ap between_in s ∙ m.between ∙ ap between_behind (sym k);
    })
