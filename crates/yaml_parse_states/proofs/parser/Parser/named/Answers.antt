use Rattle.std.proofs.Common.{◌≡◌, ◌∙◌, false, refl, sym, subst, Some}
use Rattle.yaml_scan_model.specs.Kinds.{is_fault}
use Rattle.yaml_parse_states.specs.Nodes.{Found, begun, wants_by}
use Rattle.yaml_parse_states.proofs.Named.{Joined, begins_joined, goes_on, is_shown, joined_shown, named_fails, named_lacks}
use Rattle.yaml_parse_states.proofs.Parts.{with_tokens}
use Rattle.yaml_parse_states.specs.Standing.{StandsBehind}
use Rattle.yaml_parse_states.proofs.Properties.{missing_falls}
use Rattle.yaml_parse_states.proofs.TextsKept.{looked_named}
use Rattle.yaml_parse_states.proofs.parser.Parser.named.Goals as goal

pub returns-then-is_fault-clause-found : goal.returns-then-is_fault-clause-found
returns-then-is_fault-clause-found g c = λ q a.
    let w = wants_by c.args.wants c.args.self.now.state in
    named_fails g.T.Tokens c.kind-kind.result w (begun g.T.Tokens w (Some q) c.args.self.now) c.refuse.result c.properties.self c.refuse.new.self c.kind-kind.new.self
    (c.properties.invariant.goes.1 w q a) c.kind-kind.ensures.shows (sym c.is_fault.ensures ∙ c.if-is_fault.true) c.refuse.ensures.refused c.refuse.ensures.next

pub returns-then-not-joins-clause-found : goal.returns-then-not-joins-clause-found
returns-then-not-joins-clause-found g c = λ q a.
    let t = g.T.Tokens in
    let w = wants_by c.args.wants c.args.self.now.state in
    let was = begun t w (Some q) c.args.self.now in
    let mid = with_tokens c.properties.self c.kind-kind.new.self in
    let j : Joined t w was mid = joined_shown t c.kind-kind.result w was c.properties.self c.kind-kind.new.self (c.properties.invariant.goes.1 w q a) c.kind-kind.ensures.shows (sym c.is_fault.ensures ∙ c.if-is_fault.false) c.kind-kind.ensures.places in
    subst (λ z. Found t z c.behind_properties.result c.behind_properties.new.self) (sym j.same)
    (subst (λ x. Found t (begun t (wants_by c.args.wants x) (Some j.properties) mid) c.behind_properties.result c.behind_properties.new.self) c.properties.invariant.goes.0
    (c.behind_properties.ensures.found j.properties j.are))

pub properties-smaller : goal.properties-smaller
properties-smaller g c =
    missing_falls c.kind-kind.result c.properties.self.event c.take_property.new.self.event (sym c.joins.ensures ∙ c.if-not-joins.false) c.in-Ok.ensures.takes.less c.in-Ok.ensures.takes.others

pub properties-preserved : goal.properties-preserved
properties-preserved g c =
    let t = g.T.Tokens in
    let e : is_fault c.kind-kind.result ≡ false = sym c.is_fault.ensures ∙ c.if-is_fault.false in
    record {
      goes = goes_on t c.kind-kind.result c.args.self.now c.properties.self (with_tokens c.properties.self c.kind-kind.new.self) c.take_property.new.self c.properties.invariant.goes
          (λ w was j. joined_shown t c.kind-kind.result w was c.properties.self c.kind-kind.new.self j c.kind-kind.ensures.shows e c.kind-kind.ensures.places)
          refl (is_shown t c.kind-kind.result c.properties.self.tokens c.kind-kind.new.self c.kind-kind.ensures.shows e c.kind-kind.ensures.tells c.kind-kind.ensures.unasked)
          (sym c.joins.ensures ∙ c.if-not-joins.false) c.take_property.ensures.token c.in-Ok.ensures.takes;
      stands = λ h. subst StandsBehind (sym c.in-Ok.ensures.takes.same) (c.properties.invariant.stands h);
      utf8 = λ h. c.in-Ok.ensures.utf8 (looked_named t c.properties.self c.kind-kind.new.self (c.properties.invariant.utf8 h) c.kind-kind.ensures.utf8);
    }

pub returns-in-Err-clause-found : goal.returns-in-Err-clause-found
returns-in-Err-clause-found g c = λ q a.
    let t = g.T.Tokens in
    let e : is_fault c.kind-kind.result ≡ false = sym c.is_fault.ensures ∙ c.if-is_fault.false in
    let w = wants_by c.args.wants c.args.self.now.state in
    let was = begun t w (Some q) c.args.self.now in
    named_lacks t c.kind-kind.result w was c.lack_memory.result (with_tokens c.properties.self c.kind-kind.new.self) c.take_property.new.self c.lack_memory.new.self
    (joined_shown t c.kind-kind.result w was c.properties.self c.kind-kind.new.self (c.properties.invariant.goes.1 w q a) c.kind-kind.ensures.shows e c.kind-kind.ensures.places)
    (is_shown t c.kind-kind.result c.properties.self.tokens c.kind-kind.new.self c.kind-kind.ensures.shows e c.kind-kind.ensures.tells c.kind-kind.ensures.unasked)
    c.take_property.ensures.token c.lack_memory.ensures.refused c.lack_memory.ensures.refuses

pub properties-init : goal.properties-init
properties-init g c = record { goes = begins_joined g.T.Tokens c.args.self.now; stands = λ h. h; utf8 = λ h. h }
