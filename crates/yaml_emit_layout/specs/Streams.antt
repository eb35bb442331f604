-- What a stream is laid out as.
use Rattle.std.specs.Prelude.{◌≡◌, List, None}
use Rattle.yaml_scan_model.specs.declared.name.yaml_encoding_t.{yaml_encoding_t}
use Rattle.yaml_emit_layout.specs.declared.settings.Encoding.{Encoding}
use Rattle.yaml_emit_layout.specs.declared.settings.RequestedSettings.{RequestedSettings}
use Rattle.yaml_emit_layout.specs.Text.{Item}
use Rattle.yaml_emit_layout.specs.Layout.{written}
use Rattle.yaml_emit_layout.specs.Settings.{settled}
use Rattle.yaml_emit_layout.specs.Content.{Event, Document, stream_events}
use Rattle.yaml_emit_layout.specs.Grammar.{own_problems}
use Rattle.yaml_emit_layout.specs.Nodes.{stream_layout}

-- A fresh emitter's text: these events are a stream's in which nothing is wrong, and the text is its layout.
pub record IsStream (w : RequestedSettings) (x : Encoding) (es : List Event)
    (whole : List Item) : Type 0 where
  pub encoding : yaml_encoding_t
  pub documents : List Document
  pub coded : x ≡ (settled w encoding).encoding
  pub same : es ≡ stream_events encoding documents
  pub right : own_problems w.canonical es ≡ None
  pub is : whole ≡ written (stream_layout (settled w encoding) documents)
