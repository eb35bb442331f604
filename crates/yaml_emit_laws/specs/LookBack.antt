-- Which event an emitter refuses, by looking back over the events before it, the latest first.
use Rattle.std.specs.Prelude.{◌≡◌, ℕ, zero, suc, Bool, true, false, not, ◌&&◌, ◌||◌, List, [], ◌∷◌, Option, Some, None}
use Rattle.yaml_emit_graph.specs.emit_layout.declared.Problem.{Problem}
use Rattle.yaml_emit_graph.specs.emit_layout.declared.Problem.TheVariants as problem
use Rattle.yaml_emit_graph.specs.emit_layout.Content.{Event, stream_start, stream_end, document_start, document_end, alias, scalar, sequence_start, sequence_end, mapping_start, mapping_end}
use Rattle.yaml_emit_graph.specs.emit_layout.Grammar.{or_else, event_problem, last_problem, begins_node}
use Rattle.yaml_emit_graph.specs.emit_layout.Progress.{first_progress, first_refusal}

-- ---- the innermost open collection

-- a mapping, by whether an even number of nodes has come in it, so that a key is due and no value
pub data Collection : Type 0 where
  in_sequence : Collection
  in_mapping : Bool → Collection

-- a node has been met; it counts where it is in the collection that is looked for
abbrev pub met : ℕ → Bool → Bool
met zero even = not even
met (suc closed) even = even

-- The innermost open collection of a document. That many were closed on the way back whose start hasn't been met, and it is
-- known whether an even number of nodes has been met in the one that is looked for.
unfoldable pub innermost : ℕ → Bool → List Event → Option Collection
innermost closed even [] = None
innermost closed even (alias name ∷ past) = innermost closed (met closed even) past
innermost closed even (scalar x ∷ past) = innermost closed (met closed even) past
innermost closed even (sequence_end ∷ past) = innermost (suc closed) even past
innermost closed even (mapping_end ∷ past) = innermost (suc closed) even past
innermost zero even (sequence_start p ∷ past) = Some in_sequence
innermost zero even (mapping_start p ∷ past) = Some (in_mapping even)
innermost (suc closed) even (sequence_start p ∷ past) = innermost closed (met closed even) past
innermost (suc closed) even (mapping_start p ∷ past) = innermost closed (met closed even) past
innermost closed even (outer ∷ past) = None

-- ---- an event in a wrong place

abbrev pub begins_stream : Event → Bool
begins_stream (stream_start x) = true
begins_stream _ = false

abbrev pub ends_stream : Event → Bool
ends_stream stream_end = true
ends_stream _ = false

abbrev pub begins_document : Event → Bool
begins_document (document_start o) = true
begins_document _ = false

abbrev pub ends_document : Event → Bool
ends_document (document_end implicit) = true
ends_document _ = false

abbrev pub ends_sequence : Event → Bool
ends_sequence sequence_end = true
ends_sequence _ = false

abbrev pub ends_mapping : Event → Bool
ends_mapping mapping_end = true
ends_mapping _ = false

abbrev pub unless_so : Bool → Problem → Option Problem
unless_so true p = None
unless_so false p = Some p

-- in a sequence a node or its end may come, in a mapping a node or, where a key is due, its end
abbrev pub wrong_in : Option Collection → Event → Option Problem
wrong_in None e = unless_so (ends_document e) problem.ExpectedDocumentEnd
wrong_in (Some in_sequence) e = unless_so (begins_node e || ends_sequence e) problem.ExpectedNode
wrong_in (Some (in_mapping even)) e = unless_so (begins_node e || (even && ends_mapping e))
    problem.ExpectedNode

abbrev pub wrong_place : List Event → Event → Option Problem
wrong_place [] e = unless_so (begins_stream e) problem.ExpectedStreamStart
wrong_place (stream_start x ∷ past) e = unless_so (begins_document e || ends_stream e)
    problem.ExpectedDocumentStartOrStreamEnd
wrong_place (document_end implicit ∷ past) e = unless_so (begins_document e || ends_stream e)
    problem.ExpectedDocumentStartOrStreamEnd
wrong_place (stream_end ∷ past) e = Some problem.ExpectedNothing
wrong_place (document_start o ∷ past) e = unless_so (begins_node e) problem.ExpectedNode
wrong_place (last ∷ past) e = wrong_in (innermost 0 true (last ∷ past)) e

-- ---- the event that is refused

-- what is wrong with an event after others: its anchor or tag, its place, then its directives or flags
abbrev pub wrong_behind : Bool → List Event → Event → Option Problem
wrong_behind canonical past e = or_else (event_problem canonical e)
    (or_else (wrong_place past e) (last_problem e))

-- what is wrong with the first event of a list, after others, with which something is
unfoldable pub first_wrong : Bool → List Event → List Event → Option Problem
first_wrong canonical past [] = None
first_wrong canonical past (e ∷ es) = or_else (wrong_behind canonical past e)
    (first_wrong canonical (e ∷ past) es)

-- That event's refusal is what an emitter comes to, event by event.
abbrev pub RefusalLooksBack : Type 0
RefusalLooksBack = (canonical : Bool) (es : List Event)
    → first_refusal canonical first_progress es ≡ first_wrong canonical [] es
