-- What is to come of a parser that begins.
use Rattle.std.proofs.Common.{◌≡◌, ◌∙◌, List, length, Option, Some, None, sym, ap, subst}
use Rattle.yaml_scan_model.specs.scan_types.Tokens.{Token}
use Rattle.yaml_scan_model.specs.scan_types.Faults.{Fault}
use Rattle.yaml_parse_grammar.specs.Machine.{Outcome, initial, run}
use Rattle.yaml_parse_grammar.specs.Resolve.{no_directives, reading}
use Rattle.yaml_parse_grammar.specs.Remaining.{reading_of, unasked_of}
use Rattle.yaml_parse_grammar.specs.Trees.{Given, Stream, spell}
use Rattle.yaml_parse_grammar.specs.TreeEvents.{given_of}
use Rattle.yaml_parse_grammar.proofs.CompleteStream.{stream_runs}
use Rattle.yaml_parse_laws_trees.specs.Given.{EventsOfTokens}
use Rattle.yaml_parse_laws_trees.specs.Places.{FaultOfTokens, IsToldWith}
use Rattle.yaml_parse_laws_trees.proofs.Ending.{ends_in_fault, told_at_place}
use Rattle.yaml_parse_laws_trees.proofs.Giving.{run_gives_events}
use Rattle.yaml_parse_laws_trees.proofs.Turns.{items_given}
use Rattle.yaml_parse_states.specs.Coming.{Coming, read}

-- ---- in the grammar's words

pub reads_events : (ts : List Token) (f : Option Fault) (c : Coming)
    → c ≡ read ts f initial no_directives
    → c.events ≡ (reading_of (run ts initial f) no_directives).events
unfolding read
reads_events ts f c h = ap (λ (z : Coming). z.events) h

pub reads_ending : (ts : List Token) (f : Option Fault) (c : Coming)
    → c ≡ read ts f initial no_directives
    → c.ending ≡ (reading_of (run ts initial f) no_directives).ending
unfolding read
reads_ending ts f c h = ap (λ (z : Coming). z.ending) h

pub reads_unasked : (ts : List Token) (f : Option Fault) (c : Coming)
    → c ≡ read ts f initial no_directives → c.ending_unasked ≡ unasked_of ts f initial no_directives
unfolding read
reads_unasked ts f c h = ap (λ (z : Coming). z.ending_unasked) h

-- ---- in words of tokens and trees

-- of those tokens
pub begins : (ts us : List Token) (f e : Option Fault) (c : Coming)
    → c ≡ read us e initial no_directives → us ≡ ts → e ≡ f → c ≡ read ts f initial no_directives
begins ts us f e c h p q = h ∙ ap (λ z. read z e initial no_directives) p ∙ ap (λ z. read ts z initial no_directives) q

pub tokens_events : (ts : List Token) (f : Option Fault) (c : Coming)
    → c ≡ read ts f initial no_directives → EventsOfTokens ts f c.events
unfolding read
tokens_events ts f c e = subst (λ (z : Coming). EventsOfTokens ts f z.events) (sym e) (run_gives_events ts f)

pub fault_of_tokens : (ts : List Token) (f : Option Fault) (c : Coming)
    → c ≡ read ts f initial no_directives → FaultOfTokens ts f c.ending
unfolding read
fault_of_tokens ts f c e = subst (λ (z : Coming). FaultOfTokens ts f z.ending) (sym e) (ends_in_fault ts f)

told_there : (ts : List Token) (f : Option Fault) (e : Fault)
    → (read ts f initial no_directives).ending ≡ Some e
    → IsToldWith ts f e (read ts f initial no_directives).ending_unasked
unfolding read
told_there ts f e h = told_at_place ts f e h

pub told_with : (ts : List Token) (f : Option Fault) (c : Coming) (e : Fault)
    → c ≡ read ts f initial no_directives → c.ending ≡ Some e → IsToldWith ts f e c.ending_unasked
told_with ts f c e p h =
    subst (λ (z : Coming). IsToldWith ts f e z.ending_unasked) (sym p) (told_there ts f e (sym (ap (λ (z : Coming). z.ending) p) ∙ h))

starts : (ts : List Token) (f : Option Fault) (t : Stream) (rest : List Token) → ts ≡ spell t rest
    → (read ts f initial no_directives).ending ≡ (reading (given_of t (length rest)) None no_directives).ending
unfolding read
starts ts f t rest h =
    ap (λ (o : Outcome). (reading_of o no_directives).ending)
    (ap (λ (us : List Token). run us initial f) h
    ∙ stream_runs t rest f
    ∙ ap (λ (gs : List Given). let o : Outcome = record { items = gs; ending = None } in o) (items_given t rest))

pub tree_comes : (ts : List Token) (f : Option Fault) (c : Coming) (t : Stream) (rest : List Token)
    → c ≡ read ts f initial no_directives → ts ≡ spell t rest
    → (c.events ≡ (reading (given_of t (length rest)) None no_directives).events)
    × (c.ending ≡ (reading (given_of t (length rest)) None no_directives).ending)
tree_comes ts f c t rest p h =
    let events : EventsOfTokens ts f c.events = tokens_events ts f c p in
    (events.tree t rest h, ap (λ (z : Coming). z.ending) p ∙ starts ts f t rest h)
