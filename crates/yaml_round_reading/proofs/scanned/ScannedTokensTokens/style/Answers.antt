use Rattle.std.proofs.Common.{◌∙◌, ap, sym, subst, refl}
use Rattle.yaml_parse_model.specs.scan_types.Tokens.{Token}
use Rattle.yaml_scan_model.specs.Shows.{IsNext}
use Rattle.yaml_scan_model.specs.Texts.{style_in}
use Rattle.yaml_scan_model.specs.declared.kind.Kind.TheVariants as kinds
use Rattle.yaml_round_reading.specs.Input.{scanned_of}
use Rattle.yaml_round_reading.specs.ScannedValue.{ScannedValue}
use Rattle.yaml_round_reading.proofs.Asking.{comes_told, style_told}
use Rattle.yaml_round_reading.proofs.scanned.ScannedTokensTokens.style.Goals as goal

pub returns : goal.returns
returns c =
    let a = c.self.inside in
    let tells = ap (λ (v : ScannedValue). v.told) c.self.view_is ∙ c.requires.tells in
    let next = subst (λ (v : ScannedValue). IsNext kinds.Scalar v.coming.tokens) (sym c.self.view_is) c.requires.kind in
    let f = comes_told kinds.Scalar a.refusal a.standing (scanned_of a.source.now) a.scanner c.self.invariant.waits c.self.invariant.stands tells next refl in
    rw (← c.self.view_is) (c.style.ensures ∙ style_told a.scanner c.self.invariant.waits f.0 ∙ sym (ap (λ (t : Token). style_in t.body) f.1))
