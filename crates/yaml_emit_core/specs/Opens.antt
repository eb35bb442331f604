-- What opens a collection, as the layouts' definitions say it.
use Rattle.std.specs.Prelude.{◌≡◌, ◌&&◌, ◌||◌, Bool, true, false, not, List}
use Rattle.yaml_emit_layout.specs.declared.Settings.{Settings}
use Rattle.yaml_emit_layout.specs.Content.{Event, Start, sequence_start, mapping_start}
use Rattle.yaml_emit_layout.specs.Grammar.{start_tag}
use Rattle.yaml_parse_model.specs.Events.{TagDirective}
use Rattle.yaml_emit_core.specs.declared.starts.Opener.{Opener}
use Rattle.yaml_emit_core.specs.declared.level.State.{State}
use Rattle.yaml_emit_core.specs.Levels.{is_key}
use Rattle.yaml_emit_core.specs.Names.{AreOf}

pub record Opens (s : Settings) (directives : List TagDirective) (o : Opener)
    (q : Start) : Type 0 where
  pub names : AreOf directives o.properties q.anchor (start_tag s.canonical q)
  pub style : o.flow ≡ q.flow

-- What is written for the start of a collection depends on whether it is empty: not in canonical form, nor where it is flow anyway
-- and no key.
abbrev pub asks_at : Bool → State → Bool → Bool
asks_at canonical s flow = not canonical && (is_key s || not flow)

-- that of an event, by whether it is in a flow collection
abbrev pub asks_empty : Bool → State → Bool → Event → Bool
asks_empty canonical s inside (sequence_start q) = asks_at canonical s (inside || q.flow)
asks_empty canonical s inside (mapping_start q) = asks_at canonical s (inside || q.flow)
asks_empty canonical s inside e = false
