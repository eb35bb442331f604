use Rattle.std.proofs.Common.{◌≡◌, ◌∙◌, false, refl, sym, ap, subst, Some, None}
use Rattle.yaml_parse_model.specs.Source.{front_of}
use Rattle.yaml_parse_grammar.specs.Machine.{starts_content}
use Rattle.yaml_parse_grammar.specs.declared.problem.ParseProblem.TheVariants as problem
use Rattle.yaml_scan_model.specs.declared.kind.Kind.TheVariants as kind
use Rattle.yaml_scan_model.specs.Kinds.{is_fault, type_by}
use Rattle.yaml_parse_states.proofs.Parts.{with_tokens}
use Rattle.yaml_parse_states.specs.declared.parser.Parser.{Parser}
use Rattle.yaml_parse_states.specs.Nodes.{Found, IsShown, begun, wants_by}
use Rattle.yaml_parse_states.proofs.Fronts.{shows_token}
use Rattle.yaml_parse_states.proofs.Indicators.{one_of_two}
use Rattle.yaml_parse_states.proofs.Founds.{awaits_fails, awaits_shown, is_refused, scalar_found}
use Rattle.yaml_parse_states.proofs.Properties.{none_yet}
use Rattle.yaml_parse_states.proofs.Named.{alias_found, begins_bare, begins_none, begun_coming, begun_named, is_shown, refused_none}
use Rattle.yaml_parse_states.proofs.parser.Parser.node.Goals as goal

pub returns-in-Alias-clause-found : goal.returns-in-Alias-clause-found
returns-in-Alias-clause-found g c = λ was h.
    let t = g.T.Tokens in
    let old = c.args.self.now in
    let w = wants_by c.args.wants old.state in
    let e : is_fault c.kind.result ≡ false = ap is_fault c.in-Alias.is in
    alias_found t w was c.alias.result (with_tokens old c.kind.new.self) c.alias.new.self
    (awaits_shown t c.kind.result w was old c.kind.new.self h c.kind.ensures.shows e c.kind.ensures.places)
    c.in-Alias.ensures.shows.next c.alias.ensures.given c.alias.ensures.takes

pub returns-in-Anchor-clause-found : goal.returns-in-Anchor-clause-found
returns-in-Anchor-clause-found g c = λ was h.
    let t = g.T.Tokens in
    let old = c.args.self.now in
    let t1 = c.kind.new.self in
    let w = wants_by c.args.wants old.state in
    let e : is_fault c.kind.result ≡ false = one_of_two is_fault false c.kind.result kind.Anchor kind.Tag c.in-Anchor.is refl refl in
    let n = (shows_token c.kind.result (t.to_come old.tokens) (t.to_come t1) (t.fault_to_come old.tokens) (t.fault_to_come t1) e c.kind.ensures.shows).next in
    let q = none_yet (front_of (t.to_come t1)).start_mark in
    subst (λ z. Found t z c.named.result c.named.new.self)
    (sym (awaits_shown t c.kind.result w was old t1 h c.kind.ensures.shows e c.kind.ensures.places
    ∙ begun_named t c.kind.result w (with_tokens old t1) c.begin.new.self c.begin.ensures.begins n c.in-Anchor.is))
    (subst (λ x. Found t (begun t (wants_by c.args.wants x) (Some q) c.begin.new.self) c.named.result c.named.new.self) (ap (λ (p : Parser _ _). p.state) c.begin.ensures.begins.same)
    (c.named.ensures.found q (begins_none t (with_tokens old t1) c.begin.new.self c.begin.ensures.begins)))

pub returns-in_default-clause-found : goal.returns-in_default-clause-found
returns-in_default-clause-found g c = λ was h.
    let t = g.T.Tokens in
    let w = wants_by c.args.wants c.args.self.now.state in
    is_refused t was c.refuse.result c.refuse.new.self c.refuse.ensures.refused
    (awaits_fails t c.kind.result w was problem.NoBlockNode c.args.self.now c.refuse.new.self c.kind.new.self h c.kind.ensures.shows (sym c.is_fault.ensures ∙ c.if-is_fault.true) c.refuse.ensures.next)

pub returns-in-Some-clause-found : goal.returns-in-Some-clause-found
returns-in-Some-clause-found g c = λ was h.
    let t = g.T.Tokens in
    let old = c.args.self.now in
    let t1 = c.kind.new.self in
    let w = wants_by c.args.wants old.state in
    let e : is_fault c.kind.result ≡ false = sym c.is_fault.ensures ∙ c.if-is_fault.false in
    let b = c.begin-in_default-2.new.self in
    subst (λ z. Found t z c.in-Some.turn c.content.new.self)
    (sym (awaits_shown t c.kind.result w was old t1 h c.kind.ensures.shows e c.kind.ensures.places ∙ sym (begun_coming t w (with_tokens old t1) b c.begin-in_default-2.ensures.begins)))
    (subst (λ x. Found t (begun t (wants_by c.args.wants x) None b) c.in-Some.turn c.content.new.self) (ap (λ (p : Parser _ _). p.state) c.begin-in_default-2.ensures.begins.same)
    (c.in-Some.ensures.contents None (begins_bare t (with_tokens old t1) b c.begin-in_default-2.ensures.begins) (ap (λ (p : Parser _ _). p.undefined) c.begin-in_default-2.ensures.begins.same)))

pub returns-in-None-clause-found : goal.returns-in-None-clause-found
returns-in-None-clause-found g c = λ was h.
    let t = g.T.Tokens in
    let old = c.args.self.now in
    let t1 = c.kind.new.self in
    let w = wants_by c.args.wants old.state in
    let e : is_fault c.kind.result ≡ false = sym c.is_fault.ensures ∙ c.if-is_fault.false in
    refused_none t c.kind.result w was c.refuse-in-None.result c.no_node.result (with_tokens old t1) c.content.new.self c.refuse-in-None.new.self
    (awaits_shown t c.kind.result w was old t1 h c.kind.ensures.shows e c.kind.ensures.places)
    (is_shown t c.kind.result old.tokens t1 c.kind.ensures.shows e c.kind.ensures.tells c.kind.ensures.unasked)
    (subst (λ x. starts_content (wants_by c.args.wants x) (type_by c.kind.result) ≡ false) (ap (λ (p : Parser _ _). p.state) c.begin-in_default-2.ensures.begins.same) c.in-None.ensures.contents.1)
    c.in_default-2.not-Alias c.in_default-2.not-Anchor c.in_default-2.not-Tag (c.no_node.ensures old.state)
    (ap (λ (p : Parser _ _). p.tokens) c.in-None.ensures.contents.0 ∙ ap (λ (p : Parser _ _). p.tokens) c.begin-in_default-2.ensures.begins.same)
    c.refuse-in-None.ensures.refused c.refuse-in-None.ensures.next

pub returns-in-Scalar-clause-found : goal.returns-in-Scalar-clause-found
returns-in-Scalar-clause-found g c = λ was h.
    let t = g.T.Tokens in
    let old = c.args.self.now in
    let t1 = c.kind.new.self in
    let w = wants_by c.args.wants old.state in
    let e : is_fault c.kind.result ≡ false = ap is_fault c.in-Scalar.is in
    let b = c.begin-in-Scalar.new.self in
    let same = ap (λ (p : Parser _ _). p.tokens) c.begin-in-Scalar.ensures.begins.same in
    subst (λ z. Found t z c.scalar.result c.scalar.new.self)
    (sym (awaits_shown t c.kind.result w was old t1 h c.kind.ensures.shows e c.kind.ensures.places ∙ sym (begun_coming t w (with_tokens old t1) b c.begin-in-Scalar.ensures.begins)))
    (scalar_found t w None c.scalar.result b c.scalar.new.self
    (subst (IsShown t kind.Scalar) (sym same) (subst (λ k. IsShown t k t1) c.in-Scalar.is (is_shown t c.kind.result old.tokens t1 c.kind.ensures.shows e c.kind.ensures.tells c.kind.ensures.unasked)))
    c.scalar.ensures.given c.scalar.ensures.takes (begins_bare t (with_tokens old t1) b c.begin-in-Scalar.ensures.begins) (ap (λ (p : Parser _ _). p.undefined) c.begin-in-Scalar.ensures.begins.same))
