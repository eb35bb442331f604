use Rattle.std.proofs.Common.{Some}
use Rattle.yaml_scan_model.specs.Shows.{left_behind}
use Rattle.yaml_parse_states.specs.Nodes.{wants_by}
use Rattle.yaml_parse_states.proofs.Founds.{refused_with, empty_found}
use Rattle.yaml_parse_states.proofs.Nodes.{undefined_read}
use Rattle.yaml_parse_states.proofs.parser.Parser.behind_properties.Goals as goal

pub returns-in-Some-clause-found : goal.returns-in-Some-clause-found
returns-in-Some-clause-found g c = λ q a.
    let t = g.T.Tokens in
    let old = c.args.self.now in
    refused_with t _ c.refuse_at.result _ (left_behind (t.to_come old.tokens)) old c.refuse_at.new.self c.refuse_at.ensures.refused c.refuse_at.ensures.refuses c.requires.shown.unasked
    (undefined_read t c.args.kind (wants_by c.args.wants old.state) q old c.in-Some.tag c.requires.shown c.requires.joins a c.in-Some.is)

pub returns-in-None-content-clause-found : goal.returns-in-None-content-clause-found
returns-in-None-content-clause-found g c = λ q a.
    let t = g.T.Tokens in
    let old = c.args.self.now in
    empty_found t c.args.kind (wants_by c.args.wants old.state) q c.empty.result old c.content.new.self c.empty.new.self c.requires.shown c.requires.joins
    (c.in-None-content.ensures.contents.1) a c.in-None.is c.in-None-content.ensures.contents.0 c.empty.ensures.given c.empty.ensures.same c.empty.ensures.event

pub returns-in-Some-content-clause-found : goal.returns-in-Some-content-clause-found
returns-in-Some-content-clause-found g c = λ q a. c.in-Some-content.ensures.contents (Some q) a c.in-None.is
