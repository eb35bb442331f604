use Rattle.std.proofs.Common.{ℕ, List, Some, option_map, Vec, ap, ◌∙◌}
use Rattle.std.specs.Global.{Global}
use Rattle.yaml_parse_model.specs.Events.{TagDirective}
use Rattle.yaml_parse_grammar.specs.Resolve.{directive_for}
use Rattle.yaml_parse_states.proofs.HandleTable.{looked}
use Rattle.yaml_parse_states.proofs.handles.TagDirectives.prefix_of.Goals as goal

pub returns-in-Some : goal.returns-in-Some
returns-in-Some c =
    ap Some c.as_slice.ensures.value
    ∙ ap (option_map (λ (v : Vec ℕ Global). v.items)) c.in-Some.ensures.value
    ∙ looked c.args.handle.now c.self.inside.prefixes.entries
    ∙ c.self.invariant c.args.handle.now
    ∙ ap (λ (ts : List TagDirective). directive_for c.args.handle.now ts) c.self.view_is

pub returns-in-None : goal.returns-in-None
returns-in-None c =
    ap (option_map (λ (v : Vec ℕ Global). v.items)) c.in-None.ensures.value
    ∙ looked c.args.handle.now c.self.inside.prefixes.entries
    ∙ c.self.invariant c.args.handle.now
    ∙ ap (λ (ts : List TagDirective). directive_for c.args.handle.now ts) c.self.view_is
