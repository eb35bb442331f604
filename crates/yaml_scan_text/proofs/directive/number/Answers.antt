use Rattle.std.proofs.Common.{◌≡◌, ◌∙◌, true, false, sym, arith}
use Rattle.yaml_scan_text.proofs.Words.{byte}
use Rattle.yaml_scan_types.specs.Classes.{is_digit_byte}
use Rattle.yaml_scan_text.proofs.DirectiveLemmas.{digits_first, digits_next, number_empty, number_far, number_read}
use Rattle.yaml_scan_text.proofs.directive.number.Goals as goal

pub digits-init : goal.digits-init
digits-init c = digits_first c.args.text.now c.args.from c.requires

pub returns-then-at-from-eq-DIGITS : goal.returns-then-at-from-eq-DIGITS
returns-then-at-from-eq-DIGITS c =
    let h : is_digit_byte (byte c.args.text.now c.digits.at) ≡ true = rw c.byte.ensures at (sym c.is_digit.ensures ∙ c.digits-test.true) in
    number_far c.args.text.now c.args.from c.digits.at c.wrong_at.result c.digits.invariant h c.if-at-from-eq-DIGITS.true c.wrong_at.ensures

pub digits-preserved : goal.digits-preserved
digits-preserved c =
    let h : is_digit_byte (byte c.args.text.now c.digits.at) ≡ true = rw c.byte.ensures at (sym c.is_digit.ensures ∙ c.digits-test.true) in
    digits_next c.args.text.now c.args.from c.digits.at c.digits.invariant h c.if-at-from-eq-DIGITS.false

pub digits-smaller : goal.digits-smaller
digits-smaller c =
    let h : is_digit_byte (byte c.args.text.now c.digits.at) ≡ true = rw c.byte.ensures at (sym c.is_digit.ensures ∙ c.digits-test.true) in
    let next = digits_next c.args.text.now c.args.from c.digits.at c.digits.invariant h c.if-at-from-eq-DIGITS.false in
    let inside = next.inside in
    omega arith

pub returns-then-at-from : goal.returns-then-at-from
returns-then-at-from c =
    let h : is_digit_byte (byte c.args.text.now c.digits.at) ≡ false = rw c.byte.ensures at (sym c.is_digit.ensures ∙ c.digits-test.false) in
    number_empty c.args.text.now c.args.from c.digits.at c.wrong_at-then-at-from.result h c.if-at-from.true c.wrong_at-then-at-from.ensures

pub returns : goal.returns
returns c =
    let h : is_digit_byte (byte c.args.text.now c.digits.at) ≡ false = rw c.byte.ensures at (sym c.is_digit.ensures ∙ c.digits-test.false) in
    number_read c.args.text.now c.args.from c.digits.at c.digits.invariant h c.if-at-from.false
