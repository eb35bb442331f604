-- What the borrowed parts of an event say.
use Rattle.std.specs.Prelude.{Bool, option_map}
use Rattle.yaml_emit_layout.specs.Content as said
use Rattle.yaml_emit_core.specs.declared.given.Named.{Named}
use Rattle.yaml_emit_core.specs.declared.given.Value.{Value}

-- a scalar
abbrev pub scalar_in : Named → Value → said.Scalar
scalar_in n v = record {
  anchor = option_map (λ t. t.now) n.anchor;
  tag = option_map (λ t. t.now) n.tag;
  value = v.value.now;
  plain = v.plain;
  quoted = v.quoted;
  style = v.style;
}

-- what opens a collection
abbrev pub start_in : Named → Bool → Bool → said.Start
start_in n implicit flow = record {
  anchor = option_map (λ t. t.now) n.anchor;
  tag = option_map (λ t. t.now) n.tag;
  implicit = implicit;
  flow = flow;
}
