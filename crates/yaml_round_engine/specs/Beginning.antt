-- Whether an input begins with nothing, as far as its events have come.
use Rattle.std.specs.Prelude.{Bool, true, false, not, ◌&&◌, List, ◌∷◌}
use Rattle.yaml_emit_layout.specs.Content.{Event, stream_start, document_start, scalar}
use Rattle.yaml_emit_layout.specs.Nodes.{is_directed}
use Rattle.yaml_round_content.specs.Flags.{says_nothing}
use Rattle.yaml_round_engine.specs.declared.beginning.Beginning.{Beginning}
use Rattle.yaml_round_engine.specs.declared.beginning.Beginning.TheVariants as known

-- an empty plain scalar comes next, without anchor and tag
abbrev pub is_nothing_next : List Event → Bool
is_nothing_next (scalar v ∷ es) = says_nothing v
is_nothing_next es = false

-- the start of a document without `---` comes next, and then nothing
abbrev pub opens_with_nothing : List Event → Bool
opens_with_nothing (document_start o ∷ es) = (o.implicit && not (is_directed o))
    && is_nothing_next es
opens_with_nothing es = false

-- with these events to come it begins with nothing
abbrev pub nothing_comes : Beginning → List Event → Bool
nothing_comes known.Start (stream_start x ∷ es) = opens_with_nothing es
nothing_comes known.Start es = false
nothing_comes known.Stream es = opens_with_nothing es
nothing_comes known.Document es = is_nothing_next es
nothing_comes known.Nothing es = true
nothing_comes known.Something es = false
