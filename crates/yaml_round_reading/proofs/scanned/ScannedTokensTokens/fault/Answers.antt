use Rattle.std.proofs.Common.{◌∙◌, Some, ap, sym, subst}
use Rattle.yaml_scan_core.specs.Asked.{front_lexeme}
use Rattle.yaml_scan_core.specs.Shown.{place_mark}
use Rattle.yaml_round_reading.specs.Input.{scanned_of}
use Rattle.yaml_round_reading.specs.ScannedValue.{ScannedValue}
use Rattle.yaml_round_content.specs.Adapted.{tag_fault}
use Rattle.yaml_round_reading.specs.Coming.{Stands, coming}
use Rattle.yaml_round_reading.proofs.Asking.{tag_fault_told}
use Rattle.yaml_round_reading.proofs.scanned.ScannedTokensTokens.fault.Goals as goal

pub returns : goal.returns
returns c =
    let a = c.self.inside in
    let r = scanned_of a.source.now in
    let tells = ap (λ (v : ScannedValue). v.told) c.self.view_is ∙ c.requires in
    let stands = subst (λ o. Stands o a.standing r a.scanner) c.in_default.is c.self.invariant.stands in
    let told = tag_fault_told a.standing r a.scanner c.self.invariant.waits stands tells (sym c.is_failed.ensures ∙ c.if-is_failed.false) in
    let mark = c.mark_in.ensures ∙ ap (place_mark a.text.now) c.start.ensures ∙ ap (λ text. place_mark text (front_lexeme a.scanner).start) (sym c.self.invariant.text) in
    rw (← c.self.view_is) (ap (λ o. (coming o a.standing r a.scanner).fault) c.in_default.is ∙ told.1 ∙ sym (ap Some (c.yaml_tag_fault.ensures ∙ ap tag_fault mark)))
