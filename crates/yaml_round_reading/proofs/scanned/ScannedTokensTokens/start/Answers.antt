use Rattle.std.proofs.Common.{◌∙◌, ap, sym}
use Rattle.yaml_parse_model.specs.scan_types.Tokens.{Token}
use Rattle.yaml_scan_core.specs.Asked.{front_lexeme}
use Rattle.yaml_scan_core.specs.Shown.{place_mark}
use Rattle.yaml_round_reading.specs.Input.{scanned_of}
use Rattle.yaml_round_reading.specs.ScannedValue.{ScannedValue}
use Rattle.yaml_round_reading.proofs.Asking.{origin_mark, starts_over, starts_told}
use Rattle.yaml_round_reading.proofs.scanned.ScannedTokensTokens.start.Goals as goal

pub returns-then-is_over : goal.returns-then-is_over
returns-then-is_over c =
    let a = c.self.inside in
    rw (← c.self.view_is) (origin_mark a.text.now ∙ sym (ap (λ (t : Token). t.start_mark) (starts_over a.refusal a.standing (scanned_of a.source.now) a.scanner c.self.invariant.stands (sym c.is_over.ensures ∙ c.if-is_over.true))))

pub returns : goal.returns
returns c =
    let a = c.self.inside in
    let tells = ap (λ (v : ScannedValue). v.told) c.self.view_is ∙ c.requires in
    let starts = starts_told a.refusal a.standing (scanned_of a.source.now) a.scanner c.self.invariant.waits c.self.invariant.stands tells (sym c.is_over.ensures ∙ c.if-is_over.false) in
    rw (← c.self.view_is) (ap (place_mark a.text.now) c.start.ensures ∙ ap (λ text. place_mark text (front_lexeme a.scanner).start) (sym c.self.invariant.text) ∙ starts.1)
