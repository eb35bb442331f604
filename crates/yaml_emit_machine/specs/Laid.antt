-- What is written event by event is the layout of the stream.
use Rattle.std.specs.Prelude.{◌≡◌, List, None}
use Rattle.yaml_scan_model.specs.declared.name.yaml_encoding_t.{yaml_encoding_t}
use Rattle.yaml_emit_layout.specs.declared.Cursor.{Cursor}
use Rattle.yaml_emit_layout.specs.declared.Settings.{Settings}
use Rattle.yaml_emit_layout.specs.Layout.{Rest}
use Rattle.yaml_emit_layout.specs.declared.Expected.TheVariants as at
use Rattle.yaml_emit_layout.specs.Content.{Document, stream_events}
use Rattle.yaml_emit_layout.specs.Grammar.{own_problems}
use Rattle.yaml_emit_layout.specs.Nodes.{stream_layout}
use Rattle.yaml_emit_layout.specs.State.{placed}
use Rattle.yaml_emit_machine.specs.Judged.{laid}

-- Of a stream in which nothing is wrong, from its start on, whatever follows.
abbrev pub StreamsAreLaid : Type 0
StreamsAreLaid = (s : Settings) (x : yaml_encoding_t) (ds : List Document)
    → own_problems s.canonical (stream_events x ds) ≡ None → (c : Cursor) (f : Rest)
    → laid s (placed at.StreamStart) (stream_events x ds) c f ≡ stream_layout s ds c f
