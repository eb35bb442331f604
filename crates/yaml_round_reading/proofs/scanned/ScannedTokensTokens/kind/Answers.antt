use Rattle.std.proofs.Common.{◌∙◌, ap, sym, subst, refl, IsUtf8}
use Rattle.yaml_scan_laws.specs.scan_history.Remaining.{SpelledText}
use Rattle.yaml_scan_core.specs.Handed.{to_come}
use Rattle.yaml_round_reading.specs.Input.{scanned_of}
use Rattle.yaml_round_reading.specs.declared.scanned.Standing.TheVariants.{Told}
use Rattle.yaml_round_reading.specs.Coming.{coming}
use Rattle.yaml_round_reading.proofs.Asking.{kind_knows, kind_shown, kind_unasked, kind_utf8, no_refusal}
use Rattle.yaml_round_reading.proofs.scanned.ScannedTokensTokens.kind.Goals as goal

pub invariant_of-self-2 : goal.invariant_of-self-2
invariant_of-self-2 c =
    let a = c.self.inside in
    let k = c.kind-kind in
    let none = no_refusal a.refusal c.is_some.result c.is_some.ensures c.if-is_some.false in
    record {
      waits = k.ensures.waits;
      text = ap (λ (t : SpelledText). t.text) k.ensures.stream ∙ c.self.invariant.text;
      utf8 = c.self.invariant.utf8;
      stands = kind_knows k.result a.refusal (scanned_of a.source.now) (to_come a.scanner) k.new.self none k.ensures.shows;
      locates = c.self.invariant.locates;
    }

pub returns-clause-shows : goal.returns-clause-shows
returns-clause-shows c =
    let a = c.self.inside in
    let k = c.kind-kind in
    let none = no_refusal a.refusal c.is_some.result c.is_some.ensures c.if-is_some.false in
    rw (← c.self.view_is) (kind_shown k.result a.refusal a.standing (scanned_of a.source.now) a.scanner k.new.self none c.self.invariant.stands k.ensures.waits k.ensures.shows k.ensures.known)

pub returns-clause-unasked : goal.returns-clause-unasked
returns-clause-unasked c =
    let a = c.self.inside in
    let k = c.kind-kind in
    let none = no_refusal a.refusal c.is_some.result c.is_some.ensures c.if-is_some.false in
    kind_unasked k.result (coming a.refusal a.standing (scanned_of a.source.now) a.scanner) (coming a.refusal (Told k.result) (scanned_of a.source.now) k.new.self)
    (kind_shown k.result a.refusal a.standing (scanned_of a.source.now) a.scanner k.new.self none c.self.invariant.stands k.ensures.waits k.ensures.shows k.ensures.known)

pub returns-clause-utf8 : goal.returns-clause-utf8
returns-clause-utf8 c =
    let a = c.self.inside in
    let k = c.kind-kind in
    let none = no_refusal a.refusal c.is_some.result c.is_some.ensures c.if-is_some.false in
    let text = ap (λ (t : SpelledText). t.text) k.ensures.stream ∙ c.self.invariant.text in
    λ _. kind_utf8 k.result a.refusal (scanned_of a.source.now) k.new.self none (subst IsUtf8 (sym text) c.self.invariant.utf8)

pub returns-clause-places : goal.returns-clause-places
returns-clause-places c = rw (← c.self.view_is) refl
