use Rattle.std.proofs.Common.{◌≡◌, ◌∙◌, ◌<◌, ◌^◌, ap, arith, rules, pos, w32}
use Rattle.std.proofs.lemmas.Int.{to_z_pos}
use Rattle.yaml_scan_core.specs.Shown.{number_of}
use Rattle.yaml_scan_core.proofs.ToldLemmas.{number_all, number_step}
use Rattle.yaml_scan_core.proofs.texts.number.Goals as goal

pub overflow_mul-value : goal.overflow_mul-value
overflow_mul-value c = omega (arith, (number_step c.args.digits.now c.digits.at c.digits.value c.digits-test.true c.digits.invariant c.requires).1)

pub overflow_add-value : goal.overflow_add-value
overflow_add-value c = omega (arith, c.saturating_sub.ensures, (number_step c.args.digits.now c.digits.at c.digits.value c.digits-test.true c.digits.invariant c.requires).1)

pub digits-preserved : goal.digits-preserved
digits-preserved c = rw c.saturating_sub.ensures (number_step c.args.digits.now c.digits.at c.digits.value c.digits-test.true c.digits.invariant c.requires).0

pub overflow_cast-result : goal.overflow_cast-result
overflow_cast-result c =
    let all : c.digits.value ≡ number_of 0 c.args.digits.now = number_all c.args.digits.now c.digits.value c.digits.at (omega (arith, c.digits-test.false)) c.digits.invariant in
    let small : c.digits.value < 2 ^ 31 = omega (arith, all, c.requires) in
    search (rules, small)

pub returns : goal.returns
returns c =
    let all : c.digits.value ≡ number_of 0 c.args.digits.now = number_all c.args.digits.now c.digits.value c.digits.at (omega (arith, c.digits-test.false)) c.digits.invariant in
    to_z_pos w32 c.digits.value (omega (arith, all, c.requires)) ∙ ap pos all
