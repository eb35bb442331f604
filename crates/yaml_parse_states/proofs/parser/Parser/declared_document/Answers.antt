use Rattle.std.proofs.Common.{◌∙◌, ◌∷◌, [], refl, sym, ap, subst, None}
use Rattle.yaml_parse_grammar.specs.States as grammar
use Rattle.yaml_parse_grammar.specs.declared.problem.ParseProblem.TheVariants as problem
use Rattle.yaml_scan_model.specs.declared.kind.Kind.TheVariants as kind
use Rattle.yaml_parse_states.specs.Views.{coming_with, directives_of}
use Rattle.yaml_parse_states.specs.Turned.{Turned}
use Rattle.yaml_parse_states.proofs.Fronts.{shown_same}
use Rattle.yaml_parse_states.proofs.Parts.{refused_here, with_tokens}
use Rattle.yaml_parse_states.proofs.Documents.{noted_refused}
use Rattle.yaml_parse_states.specs.Documents.{TakesStart}
use Rattle.yaml_parse_states.proofs.Documents.{directives_refuse, noted_stands, start_turned}
use Rattle.yaml_parse_states.proofs.TextsKept.{noted_utf8}
use Rattle.yaml_parse_states.proofs.parser.Parser.declared_document.Goals as goal

pub returns-in_default-version_directive-clause-turned
    : goal.returns-in_default-version_directive-clause-turned
returns-in_default-version_directive-clause-turned g c =
    let t = g.T.Tokens in
    let now = c.directives.self in
    let t1 = c.kind.new.self in
    let from = t.mark_of c.args.self.now.tokens c.args.start in
    subst (λ z. Turned t z c.version_directive.result c.version_directive.new.self)
    (sym (c.directives.invariant.0 ∙ shown_same kind.VersionDirective (t.to_come now.tokens) (t.to_come t1) (t.fault_to_come now.tokens) (t.fault_to_come t1) (grammar.directives from ∷ []) (directives_of now.directives) c.in-VersionDirective.ensures.shows))
    (noted_refused t (coming_with t (grammar.directives from ∷ []) (with_tokens now t1)) from c.version_directive.result (with_tokens now t1) c.version_directive.new.self (c.version_directive.ensures.notes from) c.in_default-version_directive.not-Given)

pub returns-in_default-tag_directive-clause-turned
    : goal.returns-in_default-tag_directive-clause-turned
returns-in_default-tag_directive-clause-turned g c =
    let t = g.T.Tokens in
    let now = c.directives.self in
    let t1 = c.kind.new.self in
    let from = t.mark_of c.args.self.now.tokens c.args.start in
    subst (λ z. Turned t z c.tag_directive.result c.tag_directive.new.self)
    (sym (c.directives.invariant.0 ∙ shown_same kind.TagDirective (t.to_come now.tokens) (t.to_come t1) (t.fault_to_come now.tokens) (t.fault_to_come t1) (grammar.directives from ∷ []) (directives_of now.directives) c.in-TagDirective.ensures.shows))
    (noted_refused t (coming_with t (grammar.directives from ∷ []) (with_tokens now t1)) from c.tag_directive.result (with_tokens now t1) c.tag_directive.new.self (c.tag_directive.ensures.notes from) c.in_default-tag_directive.not-Given)

pub returns-in-DocumentStart-clause-turned : goal.returns-in-DocumentStart-clause-turned
returns-in-DocumentStart-clause-turned g c =
    let t = g.T.Tokens in
    let now = c.directives.self in
    let t1 = c.kind.new.self in
    let from = t.mark_of c.args.self.now.tokens c.args.start in
    subst (λ z. Turned t z c.explicit_start.result c.explicit_start.new.self)
    (sym (c.directives.invariant.0 ∙ shown_same kind.DocumentStart (t.to_come now.tokens) (t.to_come t1) (t.fault_to_come now.tokens) (t.fault_to_come t1) (grammar.directives from ∷ []) (directives_of now.directives) c.in-DocumentStart.ensures.shows))
    (start_turned t from c.explicit_start.result (with_tokens now t1) c.explicit_start.new.self c.in-DocumentStart.ensures.shows.next c.explicit_start.ensures.given
    (subst (λ m. TakesStart t m (with_tokens now t1) c.explicit_start.new.self) (ap (λ at. at c.args.start) (c.kind.ensures.places ∙ c.directives.invariant.1.0)) c.explicit_start.ensures.takes))

pub returns-in_default-clause-turned : goal.returns-in_default-clause-turned
returns-in_default-clause-turned g c =
    let t = g.T.Tokens in
    let now = c.directives.self in
    let from = t.mark_of c.args.self.now.tokens c.args.start in
    subst (λ z. Turned t z c.refuse.result c.refuse.new.self) (sym c.directives.invariant.0)
    (refused_here t c.kind.result c.kind.new.self (grammar.directives from) [] problem.NoDocumentStart None c.refuse.result now c.refuse.new.self c.kind.ensures.shows
    (λ e. directives_refuse c.kind.result from c.in_default.not-VersionDirective c.in_default.not-TagDirective c.in_default.not-DocumentStart) (λ m. refl) c.kind.ensures.places c.refuse.ensures.refused c.refuse.ensures.next)

pub returns-in_default-version_directive-clause-stands
    : goal.returns-in_default-version_directive-clause-stands
returns-in_default-version_directive-clause-stands g c =
    let t = g.T.Tokens in
    let from = t.mark_of c.args.self.now.tokens c.args.start in
    noted_stands t (coming_with t (grammar.directives from ∷ []) (with_tokens c.directives.self c.kind.new.self)) from c.version_directive.result (with_tokens c.directives.self c.kind.new.self) c.version_directive.new.self (c.version_directive.ensures.notes from) c.in_default-version_directive.not-Given

pub returns-in_default-tag_directive-clause-stands
    : goal.returns-in_default-tag_directive-clause-stands
returns-in_default-tag_directive-clause-stands g c =
    let t = g.T.Tokens in
    let from = t.mark_of c.args.self.now.tokens c.args.start in
    noted_stands t (coming_with t (grammar.directives from ∷ []) (with_tokens c.directives.self c.kind.new.self)) from c.tag_directive.result (with_tokens c.directives.self c.kind.new.self) c.tag_directive.new.self (c.tag_directive.ensures.notes from) c.in_default-tag_directive.not-Given

pub returns-in_default-version_directive-clause-utf8
    : goal.returns-in_default-version_directive-clause-utf8
returns-in_default-version_directive-clause-utf8 g c = λ h.
    let t = g.T.Tokens in
    let from = t.mark_of c.args.self.now.tokens c.args.start in
    noted_utf8 t (coming_with t (grammar.directives from ∷ []) (with_tokens c.directives.self c.kind.new.self)) from c.version_directive.result (with_tokens c.directives.self c.kind.new.self) c.version_directive.new.self (c.version_directive.ensures.notes from) c.in_default-version_directive.not-Given

pub returns-in_default-tag_directive-clause-utf8 : goal.returns-in_default-tag_directive-clause-utf8
returns-in_default-tag_directive-clause-utf8 g c = λ h.
    let t = g.T.Tokens in
    let from = t.mark_of c.args.self.now.tokens c.args.start in
    noted_utf8 t (coming_with t (grammar.directives from ∷ []) (with_tokens c.directives.self c.kind.new.self)) from c.tag_directive.result (with_tokens c.directives.self c.kind.new.self) c.tag_directive.new.self (c.tag_directive.ensures.notes from) c.in_default-tag_directive.not-Given
