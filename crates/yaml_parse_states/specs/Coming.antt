-- What is still to come of tokens and states.
use Rattle.std.specs.Prelude.{ℕ, if◌then◌else◌, List, [], ◌∷◌, length, Option, Some, None}
use Rattle.yaml_parse_model.specs.scan_types.Tokens.{Token, no_token, type_of}
use Rattle.yaml_parse_model.specs.scan_types.Faults.{Fault}
use Rattle.yaml_parse_model.specs.Events.{Event}
use Rattle.yaml_parse_grammar.specs.declared.name.Wants.{Wants}
use Rattle.yaml_parse_grammar.specs.Problems.{parser_fault}
use Rattle.yaml_parse_grammar.specs.States.{State}
use Rattle.yaml_parse_grammar.specs.Machine.{Fed, stop, run, unasked_at_stop, left_where_stopped, carry, given_by, starts_node, node_taken, no_node}
use Rattle.yaml_parse_grammar.specs.Resolve.{Directives, Reading, Told, unasked_at_fault}
use Rattle.yaml_parse_grammar.specs.Remaining.{reading_of}

-- the events to come, the fault that ends them, and how many tokens are not asked for when it is
-- reported
pub record Coming : Type 0 where
  pub events : List Told
  pub ending : Option Fault
  pub ending_unasked : ℕ

abbrev pub coming_by : Reading → ℕ → Coming
coming_by r n = record { events = r.events; ending = r.ending; ending_unasked = n }

abbrev pub nothing : Coming
nothing = record { events = []; ending = None; ending_unasked = 0 }

-- an event is next, as which is given that many tokens are not asked for
abbrev pub ahead : Event → ℕ → Coming → Coming
ahead e n c = record {
  events = (e, n) ∷ c.events;
  ending = c.ending;
  ending_unasked = c.ending_unasked;
}

-- a fault is next
abbrev pub stopped : Fault → ℕ → Coming
stopped f n = record { events = []; ending = Some f; ending_unasked = n }

-- of tokens, the fault after them, the states and the directives
unfoldable pub read : List Token → Option Fault → List State → Directives → Coming
read ts f s ds = coming_by (reading_of (run ts s f) ds)
    (unasked_at_fault (run ts s f).items (unasked_at_stop ts s) ds)

-- where a token before those comes to that
unfoldable pub read_fed : Fed → List Token → Option Fault → Directives → Coming
read_fed fed ts f ds =
    coming_by (reading_of (carry (length ts) fed (λ s. run ts s f)) ds)
    (unasked_at_fault (carry (length ts) fed (λ s. run ts s f)).items
    (left_where_stopped (length ts) fed (λ s. unasked_at_stop ts s)) ds)

-- a node of those that may be there, at a token
abbrev pub node_turn : Wants → Token → List State → Fed
node_turn w t s =
    if starts_node w (type_of t.body)
    then given_by (node_taken w t.start_mark t.end_mark t.body) s
    else stop [] (parser_fault (no_node w) t.start_mark t.start_mark)

-- where a node has to come, of those that may be there, above the states; after the last token comes the empty one
unfoldable pub read_node : Wants → List Token → Option Fault → List State → Directives → Coming
read_node w [] None s ds = read_fed (node_turn w no_token s) [] None ds
read_node w [] (Some f) s ds = stopped f 0
read_node w (t ∷ ts) f s ds = read_fed (node_turn w t s) ts f ds
