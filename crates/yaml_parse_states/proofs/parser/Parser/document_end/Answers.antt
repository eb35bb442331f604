use Rattle.std.proofs.Common.{◌∙◌, ◌∷◌, [], true, false, refl, sym, ap, subst}
use Rattle.yaml_parse_model.specs.Source.{front_of}
use Rattle.yaml_parse_model.specs.scan_types.Tokens.{Token}
use Rattle.yaml_parse_model.specs.Events as events
use Rattle.yaml_parse_grammar.specs.States as grammar
use Rattle.yaml_parse_grammar.specs.Trees.{event_at}
use Rattle.yaml_parse_grammar.specs.Resolve.{Directives, gave}
use Rattle.yaml_parse_grammar.specs.declared.problem.ParseProblem.TheVariants as problem
use Rattle.yaml_scan_model.specs.declared.kind.Kind.TheVariants as kind
use Rattle.yaml_scan_model.specs.Shows.{left_behind}
use Rattle.yaml_parse_states.specs.declared.parser.State.TheVariants as state
use Rattle.yaml_parse_states.specs.declared.event.EventKind.TheVariants as event
use Rattle.yaml_parse_states.specs.Views.{directives_of}
use Rattle.yaml_parse_states.specs.Turned.{Turned}
use Rattle.yaml_parse_states.proofs.Fronts.{leaves, shown_same}
use Rattle.yaml_parse_states.proofs.Ways.{took_by}
use Rattle.yaml_parse_states.proofs.Parts.{failed_here, gave_next}
use Rattle.yaml_parse_states.proofs.Fronts.{shows_token}
use Rattle.yaml_parse_states.proofs.Documents.{end_leaves}
use Rattle.yaml_parse_states.proofs.parser.Parser.document_end.Goals as goal

pub returns-in-DocumentEnd-clause-turned : goal.returns-in-DocumentEnd-clause-turned
returns-in-DocumentEnd-clause-turned g c =
    let t = g.T.Tokens in
    let old = c.args.self.now in
    let t1 = c.kind.new.self in
    let u : Token = front_of (t.to_come t1) in
    let ds : Directives = directives_of old.directives in
    let b = events.document_end false in
    subst (λ w. Turned t w c.give_token.result c.give_token.new.self)
    (sym (shown_same kind.DocumentEnd (t.to_come old.tokens) (t.to_come t1) (t.fault_to_come old.tokens) (t.fault_to_come t1) (grammar.document_end ∷ grammar.documents ∷ []) ds c.in-DocumentEnd.ensures.shows))
    (took_by t kind.DocumentEnd event.DocumentEnd state.DocumentStart c.give_token.result (record old { tokens = t1; directives = c.clear.new.self; event = record old.event { implicit = false } }) c.give_token.new.self grammar.document_end b (event_at b u.start_mark u.end_mark) [] (grammar.documents ∷ []) ds
    c.in-DocumentEnd.ensures.shows.next c.give_token.ensures.given c.give_token.ensures.takes refl refl (ap (gave b) (sym c.clear.ensures)) c.give_token.ensures.takes.event refl)

pub returns-in_default-clause-turned : goal.returns-in_default-clause-turned
returns-in_default-clause-turned g c =
    failed_here g.T.Tokens c.kind.result c.kind.new.self _ _ problem.NoDocumentStart c.refuse.result c.args.self.now c.refuse.new.self c.kind.ensures.shows
    (sym c.is_fault.ensures ∙ c.if-is_fault.true) c.refuse.ensures.refused c.refuse.ensures.next

pub returns-in_default-2-clause-turned : goal.returns-in_default-2-clause-turned
returns-in_default-2-clause-turned g c =
    let t = g.T.Tokens in
    let old = c.args.self.now in
    let t1 = c.kind.new.self in
    let u : Token = front_of (t.to_come t1) in
    let ds : Directives = directives_of old.directives in
    let b = events.document_end true in
    let token = shows_token c.kind.result (t.to_come old.tokens) (t.to_come t1) (t.fault_to_come old.tokens) (t.fault_to_come t1) (sym c.is_fault.ensures ∙ c.if-is_fault.false) c.kind.ensures.shows in
    gave_next t _ c.give_here.result state.DocumentStart _ (record old { tokens = t1; directives = c.clear-in_default-2.new.self; event = record old.event { implicit = true } }) c.give_here.new.self (left_behind (t.to_come t1)) c.give_here.ensures.given c.give_here.ensures.gives c.kind.ensures.unasked
    (shown_same c.kind.result (t.to_come old.tokens) (t.to_come t1) (t.fault_to_come old.tokens) (t.fault_to_come t1) (grammar.document_end ∷ grammar.documents ∷ []) ds token
    ∙ leaves c.kind.result grammar.document_end b (grammar.documents ∷ []) (t.to_come t1) (t.fault_to_come t1) ds (directives_of c.clear-in_default-2.new.self) token.next (end_leaves c.kind.result c.in_default-2.not-DocumentEnd) (ap (gave b) (sym c.clear-in_default-2.ensures)))
