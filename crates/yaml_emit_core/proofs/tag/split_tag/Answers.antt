use Rattle.std.proofs.Common.{Some, None, sym, ◌∙◌}
use Rattle.yaml_parse_model.specs.Events.{directive_of}
use Rattle.yaml_emit_core.proofs.TableLemmas.{split_behind}
use Rattle.yaml_emit_core.proofs.tag.split_tag.Goals as goal

pub returns-in-Some : goal.returns-in-Some
returns-in-Some c = rw (c.suffix_behind.ensures, c.deref-in-Some.ensures.value, c.deref.ensures.value) (split_behind _ _ _ (Some (directive_of c.in-Some.directive.now)) (sym c.in-Some.ensures.value))

pub returns-in-None : goal.returns-in-None
returns-in-None c = c.split_by_default.ensures ∙ split_behind _ _ _ None (sym c.in-None.ensures.value)
