use Rattle.std.proofs.Common.{List, ap, ◌∙◌}
use Rattle.yaml_parse_model.specs.Events.{TagDirective}
use Rattle.yaml_parse_grammar.specs.Resolve.{directive_for}
use Rattle.yaml_parse_states.proofs.HandleTable.{indexed}
use Rattle.yaml_parse_states.proofs.handles.TagDirectives.push.Goals as goal

pub invariant_of-self-in-Ok : goal.invariant_of-self-in-Ok
invariant_of-self-in-Ok c =
    indexed c.self.inside.list.items c.push.new.self.items c.self.inside.prefixes.entries c.insert.new.self.entries c.args.handle c.args.prefix c.in_ok-name.name c.in_ok-text.text
    c.in_ok-push.ensures.items c.in-Ok.ensures.entries (c.in_ok-name.ensures.items ∙ c.as_slice.ensures.value) (c.in_ok-text.ensures.items ∙ c.as_slice-2.ensures.value)
    (ap (λ (ts : List TagDirective). directive_for c.args.handle.items ts) c.self.view_is ∙ c.requires) c.self.invariant
