use Rattle.yaml_parse_states.proofs.Standing.{pushed_nested}
use Rattle.std.proofs.Common.{refl, ap, ◌∙◌, ◌++◌, ◌∷◌, []}
use Rattle.yaml_parse_states.proofs.Ways.{opened}
use Rattle.yaml_parse_states.proofs.parser.Parser.open.Goals as goal

pub returns-clause-opens : goal.returns-clause-opens
returns-clause-opens g c = opened g.T.Tokens c.args.self.now _ (record { start = c.start.result; next = c.args.self.now.state }) refl
    (c.push_reserved.ensures.items ∙ ap (λ z. z ++ (record { start = c.start.result; next = c.args.self.now.state } ∷ [])) c.in_ok-reserve.ensures.items) c.start.ensures refl

pub returns-clause-stands : goal.returns-clause-stands
returns-clause-stands g c = λ h. pushed_nested c.args.self.now.levels.items _ (record { start = c.start.result; next = c.args.self.now.state })
    (c.push_reserved.ensures.items ∙ ap (λ z. z ++ (record { start = c.start.result; next = c.args.self.now.state } ∷ [])) c.in_ok-reserve.ensures.items) h
