use Rattle.std.proofs.Common.{◌+◌, refl, length, length-append, ◌∙◌, ap, arith}
use Rattle.std.proofs.lemmas.Result.{err_from_is_err_and}
use Rattle.yaml_scan_history.specs.declared.kind.Kind.TheVariants as reads
use Rattle.yaml_scan_core.specs.declared.scanner.Scanner.{Scanner}
use Rattle.yaml_scan_core.specs.Rows.{RowView}
use Rattle.yaml_scan_core.specs.Scanning.{history_of, left_behind}
use Rattle.yaml_scan_core.proofs.GroupsLemmas.{late_falls}
use Rattle.yaml_scan_core.proofs.KeyedLemmas.{key_takes}
use Rattle.yaml_scan_core.proofs.ValuesLemmas.{key_column, key_held}
use Rattle.yaml_scan_core.proofs.scanner.Scanner.value_of.Goals as goal

pub open_level-requires-clause-few : goal.open_level-requires-clause-few
open_level-requires-clause-few c =
    key_column reads.ValueMark c.args.self.now (history_of c.args.self.now) c.args.ends c.args.key c.requires.stands c.requires.found

pub returns-in_err-mapping : goal.returns-in_err-mapping
returns-in_err-mapping c =
    let s = c.args.self.now in
    let new = c.open_level.new.self in
    let e = err_from_is_err_and c.from_residual.result c.from_residual.ensures.1 in
    late_falls s new new.keys new.row (history_of s) c.from_residual.result e.0 c.requires.stands.behind.holds c.open_level.ensures.same refl refl (λ r. r) e.1

pub returns-in_err-push : goal.returns-in_err-push
returns-in_err-push c =
    let s = c.args.self.now in
    let new = c.open_level.new.self in
    let e = err_from_is_err_and c.from_residual-in_err-push.result c.from_residual-in_err-push.ensures.1 in
    late_falls s new new.keys c.push.new.self (history_of s) c.from_residual-in_err-push.result e.0 c.requires.stands.behind.holds c.open_level.ensures.same refl c.in_err-push.ensures.err c.push.ensures.room e.1

pub mark_key-requires-clause-kept : goal.mark_key-requires-clause-kept
mark_key-requires-clause-kept c =
    let s = c.args.self.now in
    let (low, high) = key_held reads.ValueMark s (history_of s) c.args.ends c.args.key c.requires.stands c.requires.found in
    let dropped = ap (λ (q : RowView). q.dropped) c.in_ok-push.ensures.ok ∙ ap (λ (x : Scanner). x.row.dropped) c.open_level.ensures.same in
    omega (arith, low, dropped)

pub mark_key-requires-clause-read : goal.mark_key-requires-clause-read
mark_key-requires-clause-read c =
    let s = c.args.self.now in
    let (low, high) = key_held reads.ValueMark s (history_of s) c.args.ends c.args.key c.requires.stands c.requires.found in
    let dropped = ap (λ (q : RowView). q.dropped) c.in_ok-push.ensures.ok ∙ ap (λ (x : Scanner). x.row.dropped) c.open_level.ensures.same in
    let long = ap (λ (q : RowView). length q.lexemes) c.in_ok-push.ensures.ok ∙ length-append c.open_level.new.self.row.lexemes.items _ ∙ ap (λ (x : Scanner). length x.row.lexemes.items + 1) c.open_level.ensures.same in
    omega (arith, low, high, dropped, long)

pub returns : goal.returns
returns c =
    let s = c.args.self.now in
    let h = history_of s in
    let n = c.args.ends in
    let a = c.requires.stands in
    let new = c.open_level.new.self in
    let ls = left_behind reads.ValueMark s h in
    key_takes s new c.push.new.self c.mark_key.new.self c.give_up.new.self c.new.result h n c.args.key c.in_ok-mapping.mapping a c.requires.found c.open_level.ensures.same c.new.ensures c.in_ok-push.ensures.ok
    c.mark_key.ensures.same (c.mark_key.ensures.room c.in_ok-push.ensures.more) (c.in_ok-mapping.ensures.levels ls a.margins) (c.in_ok-mapping.ensures.opens ls a.margins) (c.in_ok-mapping.ensures.few a.behind.holds.few) c.give_up.ensures
