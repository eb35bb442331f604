use Rattle.std.proofs.Common.{sym, ap, ◌∙◌}
use Rattle.yaml_parse_model.specs.scan_types.Faults.{Fault}
use Rattle.yaml_parse_grammar.specs.Problems.{parser_fault}
use Rattle.yaml_parse_states.specs.declared.parser.Parser.{Parser}
use Rattle.yaml_parse_states.specs.declared.parser.Refusal.{Refusal}
use Rattle.yaml_parse_states.specs.declared.parser.Refusal.TheVariants as refusal
use Rattle.yaml_parse_states.specs.Turned.{Refuses}
use Rattle.yaml_parse_states.proofs.Refusals.{refuses_by}
use Rattle.yaml_parse_states.proofs.parser.Parser.refuse_at.Goals as goal

pub returns-clause-refuses : goal.returns-clause-refuses
returns-clause-refuses g c =
    let t = g.T.Tokens in
    let old : Parser _ _ = c.args.self.now in
    let f : Fault = parser_fault c.args.problem (t.mark_of old.tokens c.args.at) (t.mark_of old.tokens c.args.context) in
    let mid : Parser _ _ = record old { tokens = c.mark-2.new.self } in
    let r : Refusal = refusal.Wrong (record { problem = c.args.problem; problem_mark = c.mark.result; context_mark = c.mark-2.result }) in
    let h : Refuses t f mid c.refuse_by.new.self = refuses_by t r f mid c.refuse_by.new.self c.refuse_by.ensures.same
    (ap (λ m. parser_fault c.args.problem m (t.mark_of old.tokens c.args.context)) (sym c.mark.ensures.mark)
    ∙ ap (parser_fault c.args.problem c.mark.result) (sym (c.mark-2.ensures.mark ∙ ap (λ at. at c.args.context) c.mark.ensures.places))) in
    record {
      fault = h.fault;
      told = h.told;
      is = h.is;
      over = h.over;
      unasked = h.unasked ∙ c.mark-2.ensures.unasked ∙ c.mark.ensures.unasked;
    }
