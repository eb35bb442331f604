use Rattle.std.proofs.Common.{◌≡◌, ◌≢◌, arith}
use Rattle.std.proofs.lemmas.Result.{err_from_is_err_and}
use Rattle.yaml_scan_text.proofs.Words.{byte}
use Rattle.yaml_scan_text.proofs.DirectiveLemmas.{blanks_plain, dot_wrong, first_wrong, second_wrong, version_read}
use Rattle.yaml_scan_text.proofs.directive.version.Goals as goal

pub number-requires : goal.number-requires
number-requires c = rw c.skip_blanks-first.ensures (blanks_plain c.args.text.now c.args.from c.requires).1

pub returns-in_err-first_end : goal.returns-in_err-first_end
returns-in_err-first_end c =
    let p = err_from_is_err_and c.from_residual.result c.from_residual.ensures.1 in
    rw (p.1, p.2) (first_wrong c.args.text.now c.args.from c.skip_blanks-first.result c.in_err-first_end.field-0.0 c.skip_blanks-first.ensures c.in_err-first_end.ensures)

pub returns-then-byte-ne46 : goal.returns-then-byte-ne46
returns-then-byte-ne46 c =
    let other : byte c.args.text.now c.in_ok-first_end.first_end ≢ 46 = rw c.byte.ensures at c.if-byte-ne46.true in
    dot_wrong c.args.text.now c.args.from c.skip_blanks-first.result c.in_ok-first_end.first_end c.wrong_at.result c.skip_blanks-first.ensures c.in_ok-first_end.ensures other c.wrong_at.ensures

pub returns-in_err-second_end : goal.returns-in_err-second_end
returns-in_err-second_end c =
    let dot : byte c.args.text.now c.in_ok-first_end.first_end ≡ 46 = omega (arith, c.byte.ensures, c.if-byte-ne46.false) in
    let p = err_from_is_err_and c.from_residual-in_err-second_end.result c.from_residual-in_err-second_end.ensures.1 in
    rw (p.1, p.2) (second_wrong c.args.text.now c.args.from c.skip_blanks-first.result c.in_ok-first_end.first_end c.in_err-second_end.field-0.0 c.skip_blanks-first.ensures c.in_ok-first_end.ensures dot c.in_err-second_end.ensures)

pub returns : goal.returns
returns c =
    let dot : byte c.args.text.now c.in_ok-first_end.first_end ≡ 46 = omega (arith, c.byte.ensures, c.if-byte-ne46.false) in
    version_read c.args.text.now c.args.from c.skip_blanks-first.result c.in_ok-first_end.first_end c.in_ok-second_end.second_end c.requires c.skip_blanks-first.ensures c.in_ok-first_end.ensures dot c.in_ok-second_end.ensures
