use Rattle.std.proofs.Common.{◌∙◌, ◌∷◌, [], refl, sym, ap, subst}
use Rattle.yaml_parse_model.specs.Source.{front_of}
use Rattle.yaml_parse_model.specs.scan_types.Tokens.{Token}
use Rattle.yaml_parse_model.specs.Events as events
use Rattle.yaml_parse_grammar.specs.States as grammar
use Rattle.yaml_parse_grammar.specs.Trees.{event_at}
use Rattle.yaml_parse_grammar.specs.declared.problem.ParseProblem.TheVariants as problem
use Rattle.yaml_scan_model.specs.declared.kind.Kind.TheVariants as kind
use Rattle.yaml_scan_model.specs.Texts.{AreTextsOf, encoding_in}
use Rattle.yaml_parse_states.specs.declared.parser.State.TheVariants as state
use Rattle.yaml_parse_states.specs.declared.event.EventKind.TheVariants as event
use Rattle.yaml_parse_states.specs.Views.{directives_of}
use Rattle.yaml_parse_states.specs.Turned.{Turned}
use Rattle.yaml_parse_states.proofs.Fronts.{shown_same}
use Rattle.yaml_parse_states.proofs.Ways.{took}
use Rattle.yaml_parse_states.proofs.Parts.{refused_here, with_tokens}
use Rattle.yaml_parse_states.proofs.Documents.{stream_refuses}
use Rattle.yaml_parse_states.proofs.parser.Parser.stream_start.Goals as goal

pub returns-in-StreamStart-clause-turned : goal.returns-in-StreamStart-clause-turned
returns-in-StreamStart-clause-turned g c =
    let t = g.T.Tokens in
    let old = c.args.self.now in
    let t1 = c.kind.new.self in
    let u : Token = front_of (t.to_come t1) in
    let b = events.stream_start (encoding_in u.body) in
    let i = event_at b u.start_mark u.end_mark in
    subst (λ w. Turned t w c.give_token.result c.give_token.new.self)
    (sym (shown_same kind.StreamStart (t.to_come old.tokens) (t.to_come t1) (t.fault_to_come old.tokens) (t.fault_to_come t1) (grammar.stream ∷ []) (directives_of old.directives) c.in-StreamStart.ensures.shows))
    (took t kind.StreamStart event.StreamStart state.FirstDocument c.give_token.result (with_tokens old t1) c.give_token.new.self grammar.stream b i (grammar.first ∷ []) []
    c.in-StreamStart.ensures.shows.next c.give_token.ensures.given c.give_token.ensures.takes refl refl refl
    (c.give_token.ensures.takes.event ∙ ap (λ e. record { body = events.stream_start e; start_mark = u.start_mark; end_mark = u.end_mark })
    (subst (λ z. AreTextsOf z (t.texts c.give_token.new.self.tokens)) c.in-StreamStart.ensures.shows.next.is c.give_token.ensures.takes.token.texts)) refl)

pub returns-in_default-clause-turned : goal.returns-in_default-clause-turned
returns-in_default-clause-turned g c =
    refused_here g.T.Tokens c.kind.result c.kind.new.self _ [] problem.NoStreamStart _ c.refuse.result c.args.self.now c.refuse.new.self c.kind.ensures.shows
    (λ e. stream_refuses c.kind.result c.in_default.not-StreamStart) (λ m. refl) c.kind.ensures.places c.refuse.ensures.refused c.refuse.ensures.next
