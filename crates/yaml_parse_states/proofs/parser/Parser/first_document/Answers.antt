use Rattle.std.proofs.Common.{◌∙◌, ◌∷◌, [], true, refl, sym, subst}
use Rattle.yaml_parse_grammar.specs.States as grammar
use Rattle.yaml_parse_grammar.specs.declared.problem.ParseProblem.TheVariants as problem
use Rattle.yaml_scan_model.specs.Shows.{left_behind}
use Rattle.yaml_parse_states.specs.declared.parser.State.TheVariants as state
use Rattle.yaml_parse_states.specs.Views.{directives_of}
use Rattle.yaml_parse_states.specs.Turned.{Turned}
use Rattle.yaml_parse_states.proofs.Fronts.{shown_same}
use Rattle.yaml_parse_states.proofs.Parts.{gave_next, refused_here}
use Rattle.yaml_parse_states.proofs.Documents.{first_opens, first_parts, first_read, first_refuses, opened_read, opens_no_fault, parts_no_fault}
use Rattle.yaml_parse_states.proofs.Fronts.{shows_token}
use Rattle.yaml_parse_states.proofs.Documents.{parts_follow}
use Rattle.yaml_parse_states.proofs.parser.Parser.first_document.Goals as goal

pub returns-in-Scalar-clause-turned : goal.returns-in-Scalar-clause-turned
returns-in-Scalar-clause-turned g c =
    let t = g.T.Tokens in
    let old = c.args.self.now in
    let t1 = c.kind.new.self in
    let opens = first_opens c.kind.result c.in-Scalar.is in
    let token = shows_token c.kind.result (t.to_come old.tokens) (t.to_come t1) (t.fault_to_come old.tokens) (t.fault_to_come t1) (opens_no_fault c.kind.result opens) c.kind.ensures.shows in
    gave_next t _ c.give_here.result state.DocumentContent _ (record old { tokens = t1; event = record old.event { implicit = true } }) c.give_here.new.self (left_behind (t.to_come t1)) c.give_here.ensures.given c.give_here.ensures.gives c.kind.ensures.unasked
    (shown_same c.kind.result (t.to_come old.tokens) (t.to_come t1) (t.fault_to_come old.tokens) (t.fault_to_come t1) (grammar.first ∷ []) (directives_of old.directives) token
    ∙ opened_read c.kind.result [] (t.to_come t1) (t.fault_to_come t1) (directives_of old.directives) token.next opens)

pub returns-in-StreamEnd-clause-turned : goal.returns-in-StreamEnd-clause-turned
returns-in-StreamEnd-clause-turned g c =
    let t = g.T.Tokens in
    let old = c.args.self.now in
    let t1 = c.kind.new.self in
    let parts = first_parts c.kind.result c.in-StreamEnd.is in
    let token = shows_token c.kind.result (t.to_come old.tokens) (t.to_come t1) (t.fault_to_come old.tokens) (t.fault_to_come t1) (parts_no_fault c.kind.result (parts_follow c.kind.result parts)) c.kind.ensures.shows in
    subst (λ w. Turned t w c.document_start.result c.document_start.new.self)
    (sym (shown_same c.kind.result (t.to_come old.tokens) (t.to_come t1) (t.fault_to_come old.tokens) (t.fault_to_come t1) (grammar.first ∷ []) (directives_of old.directives) token
    ∙ first_read c.kind.result [] (t.to_come t1) (t.fault_to_come t1) (directives_of old.directives) token.next parts))
    c.document_start.ensures.turned

pub returns-in_default-clause-turned : goal.returns-in_default-clause-turned
returns-in_default-clause-turned g c =
    let n = c.in_default in
    refused_here g.T.Tokens c.kind.result c.kind.new.self _ [] problem.NoBlockNode _ c.refuse.result c.args.self.now c.refuse.new.self c.kind.ensures.shows
    (λ e. first_refuses c.kind.result n.not-Scalar n.not-FlowSequenceStart n.not-FlowMappingStart n.not-BlockSequenceStart n.not-BlockMappingStart n.not-Alias n.not-Anchor n.not-Tag n.not-StreamEnd n.not-DocumentStart n.not-VersionDirective n.not-TagDirective) (λ m. refl) c.kind.ensures.places c.refuse.ensures.refused c.refuse.ensures.next
