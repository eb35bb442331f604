use Rattle.std.proofs.Common.{◌∙◌, ap, sym, subst}
use Rattle.yaml_parse_model.specs.scan_types.Tokens.{Token}
use Rattle.yaml_scan_model.specs.Shows.{IsNext}
use Rattle.yaml_scan_core.specs.Shown.{place_mark}
use Rattle.yaml_round_reading.specs.Input.{scanned_of}
use Rattle.yaml_round_reading.specs.ScannedValue.{ScannedValue}
use Rattle.yaml_round_reading.proofs.Asking.{comes_told, end_told, none_told, origin_mark}
use Rattle.yaml_round_reading.proofs.scanned.ScannedTokensTokens.end.Goals as goal

pub returns-then-is_none : goal.returns-then-is_none
returns-then-is_none c =
    let a = c.self.inside in
    let tells = ap (λ (v : ScannedValue). v.told) c.self.view_is ∙ c.requires.tells in
    let next = subst (λ (v : ScannedValue). IsNext c.args.kind v.coming.tokens) (sym c.self.view_is) c.requires.kind in
    rw (← c.self.view_is) (origin_mark a.text.now ∙ sym (ap (λ (t : Token). t.end_mark) (none_told c.args.kind a.refusal a.standing (scanned_of a.source.now) a.scanner c.self.invariant.waits c.self.invariant.stands tells next (sym c.is_none.ensures ∙ c.if-is_none.true))))

pub end-requires : goal.end-requires
end-requires c =
    let a = c.self.inside in
    let tells = ap (λ (v : ScannedValue). v.told) c.self.view_is ∙ c.requires.tells in
    let next = subst (λ (v : ScannedValue). IsNext c.args.kind v.coming.tokens) (sym c.self.view_is) c.requires.kind in
    (comes_told c.args.kind a.refusal a.standing (scanned_of a.source.now) a.scanner c.self.invariant.waits c.self.invariant.stands tells next (sym c.is_none.ensures ∙ c.if-is_none.false)).0

pub returns : goal.returns
returns c =
    let a = c.self.inside in
    let tells = ap (λ (v : ScannedValue). v.told) c.self.view_is ∙ c.requires.tells in
    let next = subst (λ (v : ScannedValue). IsNext c.args.kind v.coming.tokens) (sym c.self.view_is) c.requires.kind in
    let f = comes_told c.args.kind a.refusal a.standing (scanned_of a.source.now) a.scanner c.self.invariant.waits c.self.invariant.stands tells next (sym c.is_none.ensures ∙ c.if-is_none.false) in
    rw (← c.self.view_is) (ap (λ text. place_mark text c.end.result) (sym c.self.invariant.text) ∙ end_told c.args.kind a.scanner c.end.result c.self.invariant.waits f.0 c.end.ensures.own c.end.ensures.lead ∙ sym (ap (λ (t : Token). t.end_mark) f.1))
