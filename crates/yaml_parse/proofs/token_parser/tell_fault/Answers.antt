-- The fault that the kept refusal means.
use Rattle.std.proofs.Common.{sym, subst}
use Rattle.yaml_parse_states.specs.Turned.{Means}
use Rattle.yaml_parse.proofs.token_parser.tell_fault.Goals as goal

pub told_fault-requires : goal.told_fault-requires
told_fault-requires g c =
    let t = g.T.Tokens in
    let (r, kept, f, means) = c.requires in (
      f,
      subst (λ ts. Means t ts c.refusal-refusal.result f) (sym c.tokens.ensures)
          (subst (λ z. Means t c.args.parser.now.tokens z f) (sym (c.refusal-refusal.ensures r kept)) means),
    )

pub returns : goal.returns
returns g c = λ r f kept means.
    let t = g.T.Tokens in
    c.told_fault.ensures f (subst (λ ts. Means t ts c.refusal-refusal.result f) (sym c.tokens.ensures)
    (subst (λ z. Means t c.args.parser.now.tokens z f) (sym (c.refusal-refusal.ensures r kept)) means))
