-- Over a list of tokens: the items come in their right places and are well spelled, and after the last the stream has ended.
use Rattle.std.proofs.Common.{◌≡◌, ℕ, List, [], ◌∷◌, ◌++◌, length, map, Option, Some, None, refl, sym, ap, subst, ◌∙◌}
use Rattle.yaml_round_content.proofs.Words.{Token, Fault, RawEvent, State, Given, Fed, stop, go, feed, Outcome, carry, run, initial, Progress, at_place, first_progress, IsSpelled, AreSpelled, no_token, finished, GivenAre, Each, run_are}
use Rattle.yaml_emit_laws.proofs.GrammarSingle.{Emptied, emptied}
use Rattle.yaml_emit_laws.specs.emit_layout.declared.Expected.TheVariants as at
use Rattle.yaml_round_content.proofs.Stacks.{shape_of, AreRight, IsPlaced, moved}
use Rattle.yaml_round_content.proofs.Places.{AllPlaced, moved_all, FedLeads, feed_leads}
use Rattle.yaml_round_content.proofs.Spellings.{IsSpelledItem, spelled_rules}

-- ---- items with the number of tokens that are not asked for

abbrev pub GivenPlaced : Progress → List Given → Type 0
GivenPlaced h [] = Unit {0}
GivenPlaced h (g ∷ gs) = IsPlaced h g.0.body × GivenPlaced (moved h g.0.body) gs

abbrev pub moved_given : Progress → List Given → Progress
moved_given h [] = h
moved_given h (g ∷ gs) = moved_given (moved h g.0.body) gs

abbrev pub GivenSpelled : List Given → Type 0
GivenSpelled gs = GivenAre IsSpelledItem gs

with_placed : (left : ℕ) (h : Progress) (is : List RawEvent) (more : List Given) → AllPlaced h is
    → GivenPlaced (moved_all h is) more
    → GivenPlaced h (map (λ (i : RawEvent). (i, left)) is ++ more)
with_placed left h [] more p q = q
with_placed left h (i ∷ is) more p q = (p.0, with_placed left (moved h i.body) is more p.1 q)

with_moved : (left : ℕ) (h : Progress) (is : List RawEvent) (more : List Given)
    → moved_given h (map (λ (i : RawEvent). (i, left)) is ++ more)
    ≡ moved_given (moved_all h is) more
with_moved left h [] more = refl
with_moved left h (i ∷ is) more = with_moved left (moved h i.body) is more

alone_placed : (left : ℕ) (h : Progress) (is : List RawEvent) → AllPlaced h is
    → GivenPlaced h (map (λ (i : RawEvent). (i, left)) is)
alone_placed left h [] p = tt
alone_placed left h (i ∷ is) p = (p.0, alone_placed left (moved h i.body) is p.1)

-- ---- a list of tokens

-- each item comes in its right place, and where no fault ends them, the stream has ended
abbrev pub Ends : Progress → Outcome → Type 0
Ends h o = GivenPlaced h o.items × (o.ending ≡ None → moved_given h o.items ≡ at_place at.End)

carried_places : (left : ℕ) (fed : Fed) (k : List State → Outcome) (h : Progress) → FedLeads h fed
    → ((s : List State) → AreRight s → Ends (shape_of s) (k s)) → Ends h (carry left fed k)
carried_places left (stop is f) k h l r = (alone_placed left h is l, λ d. absurd cc)
carried_places left (go is s) k h l r =
    let there : Ends (shape_of s) (k s) = r s l.1.1 in (
      with_placed left h is (k s).items l.0 (subst (λ (z : Progress). GivenPlaced z (k s).items) (sym l.1.0) there.0),
      λ e. with_moved left h is (k s).items ∙ (ap (λ (z : Progress). moved_given z (k s).items) l.1.0 ∙ there.1 e),
    )

last_places : (fed : Fed) (h : Progress) → FedLeads h fed → Emptied fed
    → Ends h (carry 0 fed (λ _. finished))
last_places (stop is f) h l e = (alone_placed 0 h is l, λ d. absurd cc)
last_places (go is s) h l e =
    (with_placed 0 h is [] l.0 tt, λ d. with_moved 0 h is [] ∙ (l.1.0 ∙ ap shape_of e))

run_places : (ts : List Token) (s : List State) (f : Option Fault) → AreRight s
    → Ends (shape_of s) (run ts s f)
unfolding run
run_places [] [] (Some e) r = (tt, λ _. refl)
run_places [] (x ∷ s) (Some e) r = (tt, λ d. absurd cc)
run_places [] s None r = last_places (feed s no_token) (shape_of s) (feed_leads s no_token r) (emptied s)
run_places (t ∷ ts) s f r = carried_places (length ts) (feed s t) (λ s'. run ts s' f) (shape_of s) (feed_leads s t r) (λ s' r'. run_places ts s' f r')

pub stream_places : (ts : List Token) (f : Option Fault) → Ends first_progress (run ts initial f)
stream_places ts f = run_places ts initial f (refl, tt)

-- ---- how the items are spelled

each_spelled : (ts : List Token) → AreSpelled ts → Each IsSpelled ts
each_spelled [] a = tt
each_spelled (t ∷ ts) a = (a.0, each_spelled ts a.1)

-- Events of spelled tokens are spelled.
pub stream_spelled : (ts : List Token) (f : Option Fault) → AreSpelled ts
    → GivenSpelled (run ts initial f).items
stream_spelled ts f a = run_are spelled_rules ts initial f (each_spelled ts a) (tt, tt)
