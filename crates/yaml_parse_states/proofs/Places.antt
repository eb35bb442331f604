-- Places of nodes: where the end of the indicator before one says nothing, and nodes inside
-- brackets.
use Rattle.std.proofs.Common.{◌≡◌, List, [], ◌∷◌, Option, Some, None, refl, sym, ap, ◌∙◌}
use Rattle.yaml_parse_model.specs.declared.yaml_mark_t.{yaml_mark_t}
use Rattle.yaml_parse_model.specs.scan_types.Tokens.{Token, no_token, type_of}
use Rattle.yaml_parse_model.specs.scan_types.Faults.{Fault}
use Rattle.yaml_parse_grammar.specs.declared.name.Choice.{Choice}
use Rattle.yaml_parse_grammar.specs.declared.name.Choice.TheVariants.{Refuse, Take, Leave, Open}
use Rattle.yaml_parse_grammar.specs.declared.name.Brackets.{Brackets}
use Rattle.yaml_parse_grammar.specs.declared.name.Brackets.TheVariants as brackets
use Rattle.yaml_parse_grammar.specs.declared.name.Wants.TheVariants.{Flow}
use Rattle.yaml_parse_grammar.specs.declared.name.Site.{Site}
use Rattle.yaml_parse_grammar.specs.Items.{blank}
use Rattle.yaml_parse_grammar.specs.States.{State}
use Rattle.yaml_parse_grammar.specs.States as grammar
use Rattle.yaml_parse_grammar.specs.Machine.{Fed, feed, turn, with_item, choice_at, lone_below}
use Rattle.yaml_parse_grammar.specs.Trees.{mark_at}
use Rattle.yaml_parse_grammar.specs.Resolve.{Directives}
use Rattle.yaml_scan_model.specs.declared.kind.Kind.{Kind}
use Rattle.yaml_scan_model.specs.declared.kind.Kind.TheVariants as kind
use Rattle.yaml_scan_model.specs.Kinds.{token_by, type_by}
use Rattle.yaml_scan_model.specs.Shows.{IsNext}
use Rattle.yaml_parse_states.specs.Coming.{read, read_node, node_turn}
use Rattle.yaml_parse_states.proofs.Reading.{read_by, read_fails, read_front}
use Rattle.yaml_parse_states.proofs.Fronts.{awaits}

-- ---- where a node that is left out is at the token after it

turn_at : (c : Choice) (place : Site) (m n : yaml_mark_t) (t : Token) (s : List State) (fed : Fed)
    → mark_at place m t.start_mark ≡ mark_at place n t.start_mark
    → turn c (grammar.optional place m) t s fed ≡ turn c (grammar.optional place n) t s fed
turn_at (Refuse p o) place m n t s fed h = refl
turn_at Take place m n t s fed h = refl
turn_at Leave place m n t s fed h = ap (λ z. with_item (blank z) fed) h
turn_at Open place m n t s fed h = refl

fed_at_place : (place : Site) (m n : yaml_mark_t) (t : Token) (s : List State)
    → mark_at place m t.start_mark ≡ mark_at place n t.start_mark
    → feed (grammar.optional place m ∷ s) t ≡ feed (grammar.optional place n ∷ s) t
unfolding feed
fed_at_place place m n t s h =
    turn_at (choice_at (grammar.optional place m) (type_of t.body)) place m n t s (feed s t) h

same_place_at : (place : Site) (m n : yaml_mark_t)
    → ((z : yaml_mark_t) → mark_at place m z ≡ mark_at place n z)
    → (t : Token) (ts : List Token) (f : Option Fault) (s : List State) (ds : Directives)
    → read (t ∷ ts) f (grammar.optional place m ∷ s) ds ≡ read (t ∷ ts) f (grammar.optional place n ∷ s) ds
same_place_at place m n h t ts f s ds =
    read_by (feed (grammar.optional place n ∷ s) t) t ts f (grammar.optional place m ∷ s) ds (fed_at_place place m n t s (h t.start_mark))
    ∙ sym (read_by (feed (grammar.optional place n ∷ s) t) t ts f (grammar.optional place n ∷ s) ds refl)

pub same_place : (place : Site) (m n : yaml_mark_t)
    → ((z : yaml_mark_t) → mark_at place m z ≡ mark_at place n z)
    → (ts : List Token) (f : Option Fault) (s : List State) (ds : Directives)
    → read ts f (grammar.optional place m ∷ s) ds ≡ read ts f (grammar.optional place n ∷ s) ds
same_place place m n h [] (Some f) s ds =
    read_fails (grammar.optional place m) s f ds ∙ sym (read_fails (grammar.optional place n) s f ds)
same_place place m n h [] None s ds =
    sym (read_front [] None (grammar.optional place m ∷ s) ds refl)
    ∙ same_place_at place m n h no_token [] None s ds
    ∙ read_front [] None (grammar.optional place n ∷ s) ds refl
same_place place m n h (t ∷ ts) f s ds = same_place_at place m n h t ts f s ds

-- ---- a node after a bracket or a comma

abbrev pub end_of : Brackets → Kind
end_of brackets.Sequence = kind.FlowSequenceEnd
end_of brackets.Mapping = kind.FlowMappingEnd

items_turn : (b : Brackets) (o : yaml_mark_t) (k : Kind) (t : Token) (s : List State) (fed : Fed)
    → (k ≡ kind.Key → ⊥) → (k ≡ end_of b → ⊥)
    → turn (choice_at (grammar.items b o) (type_by k)) (grammar.items b o) (token_by k t) s fed
    ≡ node_turn Flow (token_by k t) (lone_below b (grammar.more b o ∷ s))
items_turn b o kind.Key t s fed n e = absurd (n refl)
items_turn brackets.Sequence o kind.FlowSequenceEnd t s fed n e = absurd (e refl)
items_turn brackets.Mapping o kind.FlowMappingEnd t s fed n e = absurd (e refl)
items_turn brackets.Sequence o k t s fed n e = refl
items_turn brackets.Mapping o k t s fed n e = refl

pub items_await : (b : Brackets) (o : yaml_mark_t) (k : Kind) (s : List State) (ts : List Token)
    (f : Option Fault) (ds : Directives) → IsNext k ts → (k ≡ kind.Key → ⊥) → (k ≡ end_of b → ⊥)
    → read ts f (grammar.items b o ∷ s) ds
    ≡ read_node Flow ts f (lone_below b (grammar.more b o ∷ s)) ds
items_await b o k s ts f ds next n e =
    awaits k (grammar.items b o) Flow s (lone_below b (grammar.more b o ∷ s)) ts f ds next
    (items_turn b o k _ s _ n e)
