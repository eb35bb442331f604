-- The machine over the front of a list.
use Rattle.std.proofs.Common.{◌≡◌, ◌+◌, ℕ, List, [], ◌∷◌, ◌++◌, length, map, Option, None, refl, ap, sym, subst, ◌∙◌, arith, append_assoc, zero-add}
use Rattle.yaml_parse_laws_trees.proofs.Words.{Token, Fault, RawEvent, State, IsStack, Given, Fed, stop, go, feed, Outcome, run}
use Rattle.yaml_parse_laws_trees.proofs.Left.{Over}
use Rattle.yaml_parse_laws_trees.proofs.SoundStanding.{AllStood, feed_stood}
use Rattle.yaml_parse_laws_trees.proofs.Closing.{Empty}
use Rattle.yaml_parse_laws_trees.proofs.FaultsStanding.{Last, last_of, Topped, Nested}
use Rattle.yaml_parse_laws_trees.proofs.Taking.{stack_solid, Takes, takes}
use Rattle.yaml_parse_laws_trees.proofs.StacksBehind.{fed_kept}
use Rattle.yaml_parse_laws_trees.proofs.Ending.{runs_fed}
use Rattle.yaml_parse_laws_trees.proofs.Refusal.{not_none}

-- ---- items with as many tokens more after them

abbrev pub raised : ℕ → List Given → List Given
raised n [] = []
raised n (g ∷ gs) = (g.0, g.1 + n) ∷ raised n gs

abbrev pub numbered : ℕ → List RawEvent → List Given
numbered n is = map (λ (i : RawEvent). (i, n)) is

raised_on : (n : ℕ) (xs ys : List Given) → raised n (xs ++ ys) ≡ raised n xs ++ raised n ys
raised_on n [] ys = refl
raised_on n (x ∷ xs) ys = ap (λ (z : List Given). (x.0, x.1 + n) ∷ z) (raised_on n xs ys)

raised_numbered : (n m : ℕ) (is : List RawEvent) → raised n (numbered m is) ≡ numbered (m + n) is
raised_numbered n m [] = refl
raised_numbered n m (i ∷ is) = ap (λ (z : List Given). (i, m + n) ∷ z) (raised_numbered n m is)

length_on : (F us : List Token) → length (F ++ us) ≡ length F + length us
length_on [] us = sym (zero-add (length us))
length_on (t ∷ F) us = let h : length (F ++ us) ≡ length F + length us = length_on F us in counted h
  where
    counted : length (F ++ us) ≡ length F + length us
        → length (t ∷ (F ++ us)) ≡ length (t ∷ F) + length us
    counted h = omega arith

abbrev pub before : List Given → Outcome → Outcome
before gs o = record { items = gs ++ o.items; ending = o.ending }

-- ---- what a stack knows

pub record Knows (l : Last) (s : List State) : Type 0 where
  pub topped : Topped l s
  pub nested : Nested s
  pub stack : IsStack s
  pub stood : AllStood s

pub knows_step : (x : State) (s s' : List State) (l : Last) (t : Token) (is : List RawEvent)
    → Knows l (x ∷ s) → feed (x ∷ s) t ≡ go is s' → Knows (last_of t.body) s'
knows_step x s s' l t is k p = grind (arith, fed_kept, feed_stood)

pub takes_step : (x : State) (s s' : List State) (l : Last) (t : Token) (is : List RawEvent)
    → Knows l (x ∷ s) → feed (x ∷ s) t ≡ go is s' → (us : List Token) → Over s' Empty us
    → Over (x ∷ s) Empty (t ∷ us)
takes_step x s s' l t is k p us h = subst (Takes Empty (x ∷ s) t) p (takes Empty (x ∷ s) t (stack_solid x s k.stack)) us h

-- no front of the list is all that the stack waits for
abbrev pub Unfinished : List State → List Token → Type 0
Unfinished s ts = (us vs : List Token) → ts ≡ us ++ vs → Over s Empty us → ⊥

-- ---- over a front

abbrev pub last_behind : Last → List Token → Last
last_behind l [] = l
last_behind l (t ∷ ts) = last_behind (last_of t.body) ts

-- the items that the front gives, counted without what is after it, and the stack after it
pub record Walked (front behind : List Token) (l : Last) (s : List State) : Type 0 where
  pub items : List Given
  pub stack : List State
  pub knows : Knows (last_behind l front) stack
  pub runs : (us : List Token) (f : Option Fault)
      → run (front ++ us) s f ≡ before (raised (length us) items) (run us stack f)
  pub goes : (us : List Token) → Over stack Empty us → Over s Empty (front ++ us)
  pub unfinished : Unfinished stack behind

list_step : (n m k : ℕ) (is : List RawEvent) (gs rest : List Given) → k ≡ m + n
    → numbered k is ++ (raised n gs ++ rest) ≡ raised n (numbered m is ++ gs) ++ rest
list_step n m k is gs rest e = grind (arith, raised_numbered, append_assoc, raised_on)

outcome_step : (n m k : ℕ) (is : List RawEvent) (gs : List Given) (o p : Outcome) → k ≡ m + n
    → o ≡ before (raised n gs) p
    → before (numbered k is) o ≡ before (raised n (numbered m is ++ gs)) p
outcome_step n m k is gs o p e h = grind (arith, list_step)

walk_on : (t : Token) (front behind more : List Token) (l : Last) (x : State) (s : List State)
    (fed : Fed) → feed (x ∷ s) t ≡ fed → Knows l (x ∷ s)
    → Unfinished (x ∷ s) (t ∷ (front ++ behind))
    → (run (t ∷ (front ++ more)) (x ∷ s) None).ending ≡ None
    → ((s' : List State) → Knows (last_of t.body) s' → Unfinished s' (front ++ behind)
    → (run (front ++ more) s' None).ending ≡ None → Walked front behind (last_of t.body) s')
    → Walked (t ∷ front) behind l (x ∷ s)
walk_on t front behind more l x s (stop is e) p k u a r = absurd (not_none e (sym (ap (λ (o : Outcome). o.ending) (runs_fed (x ∷ s) t (front ++ more) None (stop is e) p)) ∙ a))
walk_on t front behind more l x s (go is s') p k u a r =
    let w : Walked front behind (last_of t.body) s' = r s' (knows_step x s s' l t is k p)
    (λ us vs q o. u (t ∷ us) vs (ap (λ (z : List Token). t ∷ z) q) (takes_step x s s' l t is k p us o))
    (sym (ap (λ (o : Outcome). o.ending) (runs_fed (x ∷ s) t (front ++ more) None (go is s') p)) ∙ a) in
    record {
      items = numbered (length front) is ++ w.items;
      stack = w.stack;
      knows = w.knows;
      runs = λ us f. runs_fed (x ∷ s) t (front ++ us) f (go is s') p
          ∙ outcome_step (length us) (length front) (length (front ++ us)) is w.items (run (front ++ us) s' f) (run us w.stack f) (length_on front us) (w.runs us f);
      goes = λ us h. takes_step x s s' l t is k p (front ++ us) (w.goes us h);
      unfinished = w.unfinished;
    }

pub walk : (front behind more : List Token) (l : Last) (s : List State) → Knows l s
    → Unfinished s (front ++ behind) → (run (front ++ more) s None).ending ≡ None
    → Walked front behind l s
walk [] behind more l s k u a = record { items = []; stack = s; knows = k; runs = λ us f. refl; goes = λ us h. h; unfinished = u }
walk (t ∷ front) behind more l [] k u a = absurd (u [] (t ∷ (front ++ behind)) refl refl)
walk (t ∷ front) behind more l (x ∷ s) k u a = walk_on t front behind more l x s (feed (x ∷ s) t) refl k u a (λ s' k' u' a'. walk front behind more (last_of t.body) s' k' u' a')
