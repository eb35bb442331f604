-- What comes of tokens before their fault begins a tree.
use Rattle.std.proofs.Common.{◌≡◌, inl, inr, refl, sym, subst, List, [], ◌∷◌, ◌++◌, Option, Some, None}
use Rattle.std.proofs.lemmas.List.{append-nil}
use Rattle.yaml_scan_model.specs.scan_types.Tokens.{Token}
use Rattle.yaml_scan_model.specs.scan_types.Faults.{Fault}
use Rattle.yaml_parse_grammar.specs.Machine.{initial, run}
use Rattle.yaml_parse_grammar.specs.Remaining.{reading_of}
use Rattle.yaml_parse_grammar.specs.Resolve.{Told, no_directives}
use Rattle.yaml_parse_grammar.specs.TreeEvents.{given_of}
use Rattle.yaml_parse_laws_trees.specs.SoundLaws.{BeginsWithTree, bare, TreeGoesOnGiving}
use Rattle.yaml_parse_laws_trees.specs.Places.{FaultOfTokens}
use Rattle.yaml_parse_laws_trees.proofs.Sound.{accepted_trees}
use Rattle.yaml_parse_laws_trees.proofs.Refusal.{faults_stand}
use Rattle.yaml_parse_laws_trees.proofs.Events.{events_begin}
use Rattle.yaml_parse_laws_trees.proofs.Ending.{fault_ends}
use Rattle.yaml_parse_laws_trees.specs.Given.{IsLongest, EventsOfTokens}
use Rattle.yaml_parse_laws_trees.proofs.Giving.{events_are_run}
use Rattle.yaml_parse.specs.Fronts.{BeginsTree}

begin : (ts : List Token) (f : Option Fault) (front behind : List Token) → ts ≡ front ++ behind
    → IsLongest front behind → TreeGoesOnGiving front (bare (run ts initial f).items)
    → BeginsTree ts (reading_of (run ts initial f) no_directives).events
begin ts f front behind l w g = record {
  front = front;
  behind = behind;
  list = l;
  longest = w;
  tree = g.tree;
  more = g.more;
  same = g.same;
  begins = events_begin (run ts initial f).items (given_of g.tree 0) (run ts initial f).ending None no_directives g.begins;
}

by_ending : (ts : List Token) (f o : Option Fault) → (run ts initial f).ending ≡ o
    → (BeginsWithTree ts → ⊥) → BeginsTree ts (reading_of (run ts initial f) no_directives).events
by_ending ts f None p n = absurd (n (accepted_trees ts f p))
by_ending ts f (Some e) p n = elim (faults_stand ts f e p) [
  | inl r ↦ begin ts f r.front (r.token ∷ r.behind) r.list r.wrong r.before
  | inr r ↦ begin ts f ts [] (sym (append-nil ts)) tt r.before
]

pub begins_tree : (ts : List Token) (f : Option Fault) (events : List Told)
    → events ≡ (reading_of (run ts initial f) no_directives).events → (BeginsWithTree ts → ⊥)
    → BeginsTree ts events
begins_tree ts f events e n = subst (BeginsTree ts) (sym e) (by_ending ts f (run ts initial f).ending refl n)

-- events and an ending that are those of the tokens are the machine's
pub as_run : (ts : List Token) (f : Option Fault) (events : List Told) (ending : Option Fault)
    → EventsOfTokens ts f events → FaultOfTokens ts f ending
    → (events ≡ (reading_of (run ts initial f) no_directives).events)
    × (ending ≡ (reading_of (run ts initial f) no_directives).ending)
as_run ts f events ending h k = (events_are_run ts f events h, sym (fault_ends ts f ending k))
