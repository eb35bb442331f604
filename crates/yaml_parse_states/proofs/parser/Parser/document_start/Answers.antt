use Rattle.std.proofs.Common.{◌∙◌, ◌∷◌, [], refl, sym, ap, subst, None}
use Rattle.yaml_parse_model.specs.Source.{front_of}
use Rattle.yaml_parse_model.specs.scan_types.Tokens.{Token}
use Rattle.yaml_parse_model.specs.Events as events
use Rattle.yaml_parse_grammar.specs.States as grammar
use Rattle.yaml_parse_grammar.specs.Trees.{event_at}
use Rattle.yaml_parse_grammar.specs.declared.problem.ParseProblem.TheVariants as problem
use Rattle.yaml_scan_model.specs.declared.kind.Kind.TheVariants as kind
use Rattle.yaml_parse_states.specs.declared.parser.State.TheVariants as state
use Rattle.yaml_parse_states.specs.declared.event.EventKind.TheVariants as event
use Rattle.yaml_parse_states.specs.Coming.{read}
use Rattle.yaml_parse_states.specs.Views.{directives_of}
use Rattle.yaml_parse_states.specs.Turned.{Turned}
use Rattle.yaml_parse_states.proofs.Fronts.{shown_same}
use Rattle.yaml_parse_states.proofs.Ways.{took}
use Rattle.yaml_parse_states.proofs.Parts.{Skipped, refused_here, went_on, with_tokens}
use Rattle.yaml_parse_states.proofs.Documents.{directives_read, documents_refuse}
use Rattle.yaml_parse_states.proofs.Fronts.{shows_token}
use Rattle.yaml_parse_states.proofs.Documents.{begins_no_fault, document_begins}
use Rattle.yaml_parse_states.proofs.parser.Parser.document_start.Goals as goal

pub returns-in-StreamEnd-clause-turned : goal.returns-in-StreamEnd-clause-turned
returns-in-StreamEnd-clause-turned g c =
    let t = g.T.Tokens in
    let now = c.ends.self in
    let t1 = c.kind.new.self in
    let u : Token = front_of (t.to_come t1) in
    subst (λ w. Turned t w c.give_token.result c.give_token.new.self)
    (sym (c.ends.invariant.0 ∙ shown_same kind.StreamEnd (t.to_come now.tokens) (t.to_come t1) (t.fault_to_come now.tokens) (t.fault_to_come t1) (grammar.documents ∷ []) (directives_of now.directives) c.in-StreamEnd.ensures.shows))
    (took t kind.StreamEnd event.StreamEnd state.End c.give_token.result (with_tokens now t1) c.give_token.new.self grammar.documents events.stream_end (event_at events.stream_end u.start_mark u.end_mark) [] []
    c.in-StreamEnd.ensures.shows.next c.give_token.ensures.given c.give_token.ensures.takes refl refl refl c.give_token.ensures.takes.event refl)

pub returns-in-DocumentStart-clause-turned : goal.returns-in-DocumentStart-clause-turned
returns-in-DocumentStart-clause-turned g c =
    let t = g.T.Tokens in
    let now = c.ends.self in
    let t1 = c.kind.new.self in
    let b = document_begins c.kind.result c.in-DocumentStart.is in
    let token = shows_token c.kind.result (t.to_come now.tokens) (t.to_come t1) (t.fault_to_come now.tokens) (t.fault_to_come t1) (begins_no_fault c.kind.result b) c.kind.ensures.shows in
    subst (λ w. Turned t w c.declared_document.result c.declared_document.new.self)
    (sym (c.ends.invariant.0 ∙ shown_same c.kind.result (t.to_come now.tokens) (t.to_come t1) (t.fault_to_come now.tokens) (t.fault_to_come t1) (grammar.documents ∷ []) (directives_of now.directives) token
    ∙ directives_read c.kind.result [] (t.to_come t1) (t.fault_to_come t1) (directives_of now.directives) token.next b
    ∙ ap (λ m. read (t.to_come t1) (t.fault_to_come t1) (grammar.directives m ∷ []) (directives_of now.directives)) (sym c.start-start.ensures)))
    c.declared_document.ensures.turned

pub returns-in_default-clause-turned : goal.returns-in_default-clause-turned
returns-in_default-clause-turned g c =
    let n = c.in_default in
    subst (λ z. Turned g.T.Tokens z c.refuse.result c.refuse.new.self) (sym c.ends.invariant.0)
    (refused_here g.T.Tokens c.kind.result c.kind.new.self grammar.documents [] problem.NoDocumentStart None c.refuse.result c.ends.self c.refuse.new.self c.kind.ensures.shows
    (λ e. documents_refuse c.kind.result n.not-DocumentEnd n.not-StreamEnd n.not-DocumentStart n.not-VersionDirective n.not-TagDirective) (λ m. refl) c.kind.ensures.places c.refuse.ensures.refused c.refuse.ensures.next)

pub ends-preserved : goal.ends-preserved
ends-preserved g c =
    let t = g.T.Tokens in
    let now = c.ends.self in
    let p : Skipped t kind.DocumentEnd now.tokens c.kind.new.self c.skip.new.self =
    record { shows = c.in-DocumentEnd.ensures.shows; rest = c.skip.ensures.rest; fault = c.skip.ensures.fault; places = c.skip.ensures.places ∙ c.kind.ensures.places } in (
      c.ends.invariant.0 ∙ went_on t kind.DocumentEnd now.tokens c.kind.new.self c.skip.new.self grammar.documents (grammar.documents ∷ []) [] (directives_of now.directives) p refl refl,
      λ h. record { next = c.skip.ensures.utf8; tags = (c.ends.invariant.1 h).tags },
    )
