-- Open collections: one more, or one fewer.
use Rattle.std.proofs.Common.{◌≡◌, ◌∙◌, List, [], ◌∷◌, ◌++◌, reverse, ℕ, length, Option, Some, sym, ap}
use Rattle.std.specs.Option.{option_to_list}
use Rattle.std.proofs.lemmas.List.{nil_from_length, reverse-append}
use Rattle.yaml_parse_model.specs.declared.yaml_mark_t.{yaml_mark_t}
use Rattle.yaml_parse_states.specs.declared.parser.Level.{Level}
use Rattle.yaml_parse_states.specs.Views.{behind, below, opener, stack}

pub pushed : {P : Type 0} (at : P → yaml_mark_t) (old new : List (Level P)) (l : Level P)
    → new ≡ old ++ l ∷ [] → below at (reverse new) ≡ stack at l.next (reverse old)
unfolding below
pushed at old new l e = ap (λ z. below at (reverse z)) e ∙ ap (λ z. below at z) (reverse-append old (l ∷ []))

pub popped : {P : Type 0} (at : P → yaml_mark_t) (old new : List (Level P)) (l : Level P)
    (o : Option (Level P)) → old ≡ new ++ option_to_list o → o ≡ Some l
    → stack at l.next (reverse new) ≡ below at (reverse old)
popped at old new l o e d = sym (pushed at new old l (e ∙ ap (λ z. new ++ option_to_list z) d))

-- the innermost is the one that was opened last
pub last_start : {P : Type 0} (at : P → yaml_mark_t) (old new : List (Level P)) (l : Level P)
    → new ≡ old ++ l ∷ [] → opener at (reverse new) ≡ at l.start
last_start at old new l e = ap (λ z. opener at (reverse z)) e ∙ ap (opener at) (reverse-append old (l ∷ []))

pub last_next : {P : Type 0} (old new : List (Level P)) (l : Level P)
    → new ≡ old ++ l ∷ [] → behind (reverse new) ≡ l.next
last_next old new l e = ap (λ z. behind (reverse z)) e ∙ ap behind (reverse-append old (l ∷ []))

-- none was left
pub emptied : {P : Type 0} (at : P → yaml_mark_t) (ls : List (Level P)) (n : ℕ) → n ≡ length ls
    → n ≡ 0 → [] ≡ below at (reverse ls)
unfolding below
emptied at ls n e z = ap (λ y. below at (reverse y)) (sym (nil_from_length ls (sym e ∙ z)))
