use Rattle.std.proofs.Common.{◌≡◌, ◌≢◌, ◌∙◌, sym, arith}
use Rattle.std.proofs.lemmas.Result.{err_from_is_err_and}
use Rattle.yaml_scan_text.proofs.Words.{byte}
use Rattle.yaml_scan_text.proofs.NamesLemmas.{octet_put, spelled_due, spelled_end, spelled_first, spelled_next, spelled_refused}
use Rattle.yaml_scan_text.proofs.uri.spell_uri.Goals as goal

pub escapes-init : goal.escapes-init
escapes-init c = spelled_first c.args.context c.args.wide c.args.text.now c.args.from c.args.first c.args.arena.now.items c.extend_from_slice.new.self.items c.requires.run c.requires.inside c.in_ok-extend_from_slice.ensures.items

pub returns-in_err-due-clause-value : goal.returns-in_err-due-clause-value
returns-in_err-due-clause-value c =
    let mark : byte c.args.text.now c.escapes.at ≡ 37 = sym c.byte.ensures ∙ c.escapes-test.true in
    let p = err_from_is_err_and c.from_residual-in_err-due.result c.from_residual-in_err-due.ensures.1 in
    rw (p.1, p.2) (spelled_refused c.args.context c.args.wide c.args.text.now c.args.from c.args.arena.now.items c.escapes.arena.items c.put_octet.new.arena.items c.escapes.at c.escapes.due c.in_err-due.field-0.0 c.escapes.invariant mark c.in_err-due.ensures.value)

pub put_kept-requires : goal.put_kept-requires
put_kept-requires c =
    let mark : byte c.args.text.now c.escapes.at ≡ 37 = sym c.byte.ensures ∙ c.escapes-test.true in
    (octet_put c.args.context c.args.text.now c.escapes.at c.escapes.due c.in_ok-due.due c.escapes.arena.items c.put_octet.new.arena.items mark c.in_ok-due.ensures.value).inside

pub escapes-preserved : goal.escapes-preserved
escapes-preserved c =
    let mark : byte c.args.text.now c.escapes.at ≡ 37 = sym c.byte.ensures ∙ c.escapes-test.true in
    let octet = octet_put c.args.context c.args.text.now c.escapes.at c.escapes.due c.in_ok-due.due c.escapes.arena.items c.put_octet.new.arena.items mark c.in_ok-due.ensures.value in
    spelled_next c.args.context c.args.wide c.args.text.now c.args.from c.args.arena.now.items c.escapes.arena.items c.put_octet.new.arena.items c.put_kept.new.arena.items c.escapes.at c.escapes.due c.in_ok-due.due c.in_ok-at.at c.escapes.invariant mark octet c.in_ok-at.ensures.value

pub returns-then-due-gt0-clause-value : goal.returns-then-due-gt0-clause-value
returns-then-due-gt0-clause-value c =
    let mark : byte c.args.text.now c.escapes.at ≢ 37 = rw c.byte.ensures at c.escapes-test.false in
    spelled_due c.args.context c.args.wide c.args.text.now c.args.from c.args.arena.now.items c.escapes.arena.items c.escapes.at c.escapes.due _ c.escapes.invariant mark (omega arith) c.wrong_at.ensures

pub returns-clause-value : goal.returns-clause-value
returns-clause-value c =
    let mark : byte c.args.text.now c.escapes.at ≢ 37 = rw c.byte.ensures at c.escapes-test.false in
    spelled_end c.args.context c.args.wide c.args.text.now c.args.from c.args.arena.now.items c.escapes.arena.items c.escapes.at c.escapes.due c.escapes.invariant mark (omega arith)
