use Rattle.std.proofs.Common.{◌+◌, ◌<◌, ◌^◌, true, refl, length, ap, sym, subst}
use Rattle.std.proofs.lemmas.Result.{err_from_is_err_and}
use Rattle.yaml_scan_core.specs.declared.scanner.Scanner.{Scanner}
use Rattle.yaml_scan_core.specs.Scanning.{StandsAs, Takes, history_of, read_as}
use Rattle.yaml_scan_core.proofs.GroupsLemmas.{counts, key_falls, late_falls, opener, opener_body, opener_depth, same_but}
use Rattle.yaml_scan_core.proofs.SavesLemmas.{place_keys}
use Rattle.yaml_scan_core.proofs.OpensLemmas.{opening_takes, saves_by}
use Rattle.yaml_scan_core.proofs.StandTaken.{reads_closed, takes_closed}
use Rattle.yaml_scan_core.proofs.scanner.Scanner.open_flow.Goals as goal

pub returns-in_err-check_replaced : goal.returns-in_err-check_replaced
returns-in_err-check_replaced c =
    let was = c.args.self.now in
    let s = c.close_levels-ends.new.self in
    let a = subst (λ k. StandsAs k s (history_of s) c.close_levels-ends.result) c.requires.read c.close_levels-ends.ensures.stands in
    let h = history_of s in
    let k = read_as c.args.kind in
    let p = opener c.args.kind c.requires.opener in
    let e = err_from_is_err_and c.from_residual.result c.from_residual.ensures.1 in
    reads_closed was s _ c.from_residual.result c.close_levels-ends.ensures.same
    (key_falls k s.key_allowed s c.check_replaced.new.self h c.close_levels-ends.result c.from_residual.result e.0 c.in_err-check_replaced.field-0.0 a p.flat p.starts
    (place_keys k s h c.close_levels-ends.result a p.idle p.stops) c.check_replaced.ensures.same (c.in_err-check_replaced.ensures.tests s.text.now) e.1)

pub candidate-key-requires-clause-count : goal.candidate-key-requires-clause-count
candidate-key-requires-clause-count c =
    let s = c.close_levels-ends.new.self in
    let a = subst (λ k. StandsAs k s (history_of s) c.close_levels-ends.result) c.requires.read c.close_levels-ends.ensures.stands in
    let same = c.in_ok-check_replaced.ensures.kept in
    let few = counts s (history_of s) (read_as c.args.kind) c.close_levels-ends.result a in
    subst (λ (x : Scanner). x.row.dropped + length x.row.lexemes.items < 2 ^ 64) (sym same) few

pub returns-in_err-reserve : goal.returns-in_err-reserve
returns-in_err-reserve c =
    let was = c.args.self.now in
    let s = c.close_levels-ends.new.self in
    let a = subst (λ k. StandsAs k s (history_of s) c.close_levels-ends.result) c.requires.read c.close_levels-ends.ensures.stands in
    let mid = c.check_replaced.new.self in
    let e = err_from_is_err_and c.from_residual-in_err-reserve.result c.from_residual-in_err-reserve.ensures.1 in
    reads_closed was s _ c.from_residual-in_err-reserve.result c.close_levels-ends.ensures.same
    (late_falls s mid c.reserve.new.self mid.row (history_of s) c.from_residual-in_err-reserve.result e.0 a.behind.holds
    (same_but s mid c.in_ok-check_replaced.ensures.kept) c.reserve.ensures.same refl (λ r. r) e.1)

pub returns-in_err-push : goal.returns-in_err-push
returns-in_err-push c =
    let was = c.args.self.now in
    let s = c.close_levels-ends.new.self in
    let a = subst (λ k. StandsAs k s (history_of s) c.close_levels-ends.result) c.requires.read c.close_levels-ends.ensures.stands in
    let mid = c.check_replaced.new.self in
    let e = err_from_is_err_and c.from_residual-in_err-push.result c.from_residual-in_err-push.ensures.1 in
    reads_closed was s _ c.from_residual-in_err-push.result c.close_levels-ends.ensures.same
    (late_falls s mid c.reserve.new.self c.push.new.self (history_of s) c.from_residual-in_err-push.result e.0 a.behind.holds
    (same_but s mid c.in_ok-check_replaced.ensures.kept) c.reserve.ensures.same c.in_err-push.ensures.err c.push.ensures.room e.1)

pub open-requires : goal.open-requires
open-requires c = c.save_key.ensures.room c.in_ok-reserve.ensures.room

pub returns : goal.returns
returns c =
    let was = c.args.self.now in
    let s = c.close_levels-ends.new.self in
    let a = subst (λ k. StandsAs k s (history_of s) c.close_levels-ends.result) c.requires.read c.close_levels-ends.ensures.stands in
    let h = history_of s in
    let mid = c.check_replaced.new.self in
    let same = c.in_ok-check_replaced.ensures.kept in
    let saving = saves_by s mid c.reserve.new.self c.push.new.self c.candidate-key.result _ same c.reserve.ensures.same c.candidate-key.ensures c.save_key.ensures.keys in
    let after = ap (λ (x : Scanner). record x { at = x.at + 1; key_allowed = true; keys = c.open.new.self }) c.save_key.ensures.same in
    let done = opening_takes (read_as c.args.kind) c.args.kind (opener_body c.args.kind) s mid c.open.new.self c.save_key.new.self.keys c.push.new.self c.new.result h c.close_levels-ends.result mid.fault c.in_ok-check_replaced.field-0
    (opener c.args.kind c.requires.opener) (opener_depth c.args.kind c.requires.opener) a same (c.in_ok-check_replaced.ensures.tests s.text.now)
    c.new.ensures c.in_ok-push.ensures.ok c.in_ok-push.ensures.more saving c.open.ensures in
    takes_closed was s _ c.close_levels-ends.ensures.same
    (subst (λ (x : Scanner). Takes s x h) (sym after) done)
