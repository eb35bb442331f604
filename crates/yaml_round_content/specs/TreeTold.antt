-- The events of a tree, each tag in full by the directives of its own document.
use Rattle.std.specs.Prelude.{false, List, [], ◌∷◌, ◌++◌, map, Option, None}
use Rattle.std.specs.List.{flat_map}
use Rattle.yaml_parse_model.specs.scan_model.declared.record.yaml_version_directive_t.{yaml_version_directive_t}
use Rattle.yaml_parse_model.specs.Events.{Event, EventBody, TagDirective}
use Rattle.yaml_parse_model.specs.Events as event
use Rattle.yaml_emit_laws.specs.parse_grammar.declared.Site.TheVariants.{Root}
use Rattle.yaml_emit_laws.specs.parse_grammar.Items.{RawEvent, RawEventBody, item_at}
use Rattle.yaml_emit_laws.specs.parse_grammar.Items as item
use Rattle.yaml_emit_laws.specs.parse_grammar.Trees.{Documents, Stream, event_at, start_of}
use Rattle.yaml_emit_laws.specs.parse_grammar.Trees as tree
use Rattle.yaml_emit_laws.specs.parse_grammar.TreeEvents.{maybe_events, ends_events, first_events, ends_start, documents_start}
use Rattle.yaml_emit_laws.specs.parse_grammar.Resolve.{Told, node_event, placed}
use Rattle.yaml_round_content.specs.TreeContent.{full_tag, tags_in, version_in}

-- what an item says under a document's version and directives; a directive is no event of its own
abbrev pub said_under : Option yaml_version_directive_t → List TagDirective → RawEventBody
    → List EventBody
said_under version ds (item.event body) = body ∷ []
said_under version ds (item.version_directive major minor) = []
said_under version ds (item.tag_directive handle prefix) = []
said_under version ds (item.document implicit) = event.document_start version ds implicit ∷ []
said_under version ds (item.node anchor tag shape) = node_event anchor (full_tag ds tag) shape ∷ []

-- the events of items, in their places
abbrev pub told_under : Option yaml_version_directive_t → List TagDirective → List RawEvent
    → List Event
told_under version ds is = flat_map
    (λ i. map (λ body. placed body i) (said_under version ds i.body)) is

-- a document's start, its node and its end, then the documents after it
abbrev pub documents_told : Documents → List Event
documents_told (tree.end_stream s) = told_under None []
    (event_at event.stream_end s.from s.to ∷ [])
documents_told (tree.document ds s root ends more) =
    told_under (version_in ds) (tags_in ds) (item_at (item.document false) (start_of ds s) s.to
    ∷ (maybe_events root Root s.to (ends_start ends (documents_start more))
    ++ ends_events ends (documents_start more)))
    ++ documents_told more

-- The events of a stream: the first document may do without `---`, and has no directives then.
abbrev pub stream_told : Stream → List Event
stream_told t = told_under None [] (event_at (event.stream_start t.encoding) t.start.from t.start.to
    ∷ first_events t.first (documents_start t.documents)) ++ documents_told t.documents

abbrev pub events_in : List Told → List Event
events_in es = map (λ (t : Told). t.0) es
