use Rattle.std.proofs.Common.{arith, sym, ◌≡◌, ◌+◌, Some}
use Rattle.yaml_scan_text.proofs.Words.{byte}
use Rattle.yaml_scan_history.specs.Quoted.{hex_digit}
use Rattle.yaml_scan_history.proofs.EscapeLemmas.{hex_more, power-room, power-more}
use Rattle.yaml_scan_text.proofs.QuotesLemmas.{hex_start}
use Rattle.yaml_scan_text.proofs.quoted.hex_value.Goals as goal

pub digits-init : goal.digits-init
digits-init c = record { spelled = hex_start c.args.text.now c.args.from; small = omega arith }

pub overflow_mul-value : goal.overflow_mul-value
overflow_mul-value c =
    omega (arith, power-room c.digits.count (omega arith), c.digits.invariant.small)

pub overflow_add-value : goal.overflow_add-value
overflow_add-value c =
    let room = power-room c.digits.count (omega arith) in
    omega (arith, room, c.digits.invariant.small, c.in_ok-digit.ensures.small)

pub digits-preserved : goal.digits-preserved
digits-preserved c =
    let d : hex_digit (byte c.args.text.now (c.args.from + c.digits.count)) ≡ Some c.in_ok-digit.digit = rw c.byte.ensures at (sym c.in_ok-digit.ensures.value) in
    record {
      spelled = hex_more _ _ _ _ _ c.digits.invariant.spelled d;
      small = rw (power-more c.digits.count) (omega (arith, c.digits.invariant.small, c.in_ok-digit.ensures.small));
    }
