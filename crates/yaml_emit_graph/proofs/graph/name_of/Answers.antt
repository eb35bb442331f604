use Rattle.std.proofs.Common.{◌++◌, length, sym, subst, ◌∙◌, ap, arith}
use Rattle.std.specs.Str.{IsUtf8}
use Rattle.yaml_emit_graph.proofs.Naming.{name_made, name_utf8}
use Rattle.yaml_emit_graph.proofs.graph.name_of.Goals as goal

pub returns-clause-is : goal.returns-clause-is
returns-clause-is c =
    name_made _ _ _ _ _ (omega arith) c.in_ok-digits.ensures.ok (c.len.ensures ∙ sym c.as_bytes.ensures.len ∙ ap length c.as_bytes.ensures.value) c.lead.ensures
    (c.in_ok-extend_from_slice.ensures.items ∙ ap (λ z. z ++ c.as_bytes.result.now) c.in_ok-name.ensures.items ∙ ap (λ z. c.lead.result.now ++ z) c.as_bytes.ensures.value)

pub returns-clause-utf8 : goal.returns-clause-utf8
returns-clause-utf8 c = subst IsUtf8 (sym (returns-clause-is c)) (name_utf8 c.args.number (omega arith))
