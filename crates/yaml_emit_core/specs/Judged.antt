-- What is wrong with an event that isn't what comes next.
use Rattle.std.specs.Prelude.{Bool, true, false, if◌then◌else◌, Option, Some, None}
use Rattle.yaml_emit_layout.specs.declared.problem.Problem.{Problem}
use Rattle.yaml_emit_layout.specs.declared.problem.Problem.TheVariants as problem
use Rattle.yaml_emit_core.specs.declared.level.State.{State}
use Rattle.yaml_emit_core.specs.declared.level.State.TheVariants as state
use Rattle.yaml_emit_layout.specs.Content.{Event, stream_start, stream_end, document_end}
use Rattle.yaml_emit_core.specs.Levels.{awaits_node, may_end, is_between}

abbrev pub misplaced : State → Problem
misplaced state.StreamStart = problem.ExpectedStreamStart
misplaced state.FirstDocumentStart = problem.ExpectedDocumentStartOrStreamEnd
misplaced state.DocumentStart = problem.ExpectedDocumentStartOrStreamEnd
misplaced state.DocumentContent = problem.ExpectedNode
misplaced state.FirstItem = problem.ExpectedNode
misplaced state.Item = problem.ExpectedNode
misplaced state.FirstKey = problem.ExpectedNode
misplaced state.Key = problem.ExpectedNode
misplaced state.SimpleValue = problem.ExpectedNode
misplaced state.Value = problem.ExpectedNode
misplaced state.DocumentEnd = problem.ExpectedDocumentEnd
misplaced state.End = problem.ExpectedNothing

-- where a node comes
abbrev pub node_place : State → Option Problem
node_place s = if awaits_node s then None else Some (misplaced s)

-- where a collection ends
abbrev pub end_place : Bool → State → Option Problem
end_place sequence s = if may_end sequence s then None else Some (misplaced s)

-- the stream starts
abbrev pub is_start : State → Bool
is_start state.StreamStart = true
is_start state.FirstDocumentStart = false
is_start state.DocumentStart = false
is_start state.DocumentContent = false
is_start state.FirstItem = false
is_start state.Item = false
is_start state.FirstKey = false
is_start state.Key = false
is_start state.SimpleValue = false
is_start state.Value = false
is_start state.DocumentEnd = false
is_start state.End = false

-- a document ends
abbrev pub is_over : State → Bool
is_over state.StreamStart = false
is_over state.FirstDocumentStart = false
is_over state.DocumentStart = false
is_over state.DocumentContent = false
is_over state.FirstItem = false
is_over state.Item = false
is_over state.FirstKey = false
is_over state.Key = false
is_over state.SimpleValue = false
is_over state.Value = false
is_over state.DocumentEnd = true
is_over state.End = false

-- an event of the stream, or a document's end, has its place
abbrev pub fits_at : Event → State → Bool
fits_at (stream_start x) st = is_start st
fits_at stream_end st = is_between st
fits_at (document_end implicit) st = is_over st
fits_at e st = false
