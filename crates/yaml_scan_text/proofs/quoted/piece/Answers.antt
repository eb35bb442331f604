use Rattle.std.proofs.Common.{◌≡◌, ◌≢◌, ◌==◌, ◌&&◌, false, ◌∙◌, sym, arith}
use Rattle.yaml_scan_text.proofs.Words.{byte, break_width}
use Rattle.yaml_scan_text.proofs.QuotesRead.{end_refused, no_slash_first, no_slash_last, wide_goes}
use Rattle.yaml_scan_text.proofs.quoted.piece.Goals as goal
use Rattle.yaml_scan_text.proofs.quoted.piece.Goals.{else-quote-eq34-via-then-quote-eq34+else-first-eq92, else-quote-eq34-via-else-quote-eq34}

pub returns-then-first-eq0-clause-value : goal.returns-then-first-eq0-clause-value
returns-then-first-eq0-clause-value c = end_refused c.args.quote c.args.text.now c.args.arena.now.items c.args.arena.now.items c.args.read c.wrong_at.result c.requires.seat (sym c.byte-first.ensures ∙ c.if-first-eq0.true) c.wrong_at.ensures

pub returns-clause-value : goal.returns-clause-value
returns-clause-value c =
    let text = c.args.text.now in
    let p = c.args.read.at in
    let some : byte text p ≢ 0 = rw c.byte-first.ensures at c.if-first-eq0.false in
    let other : byte text p ≢ c.args.quote = rw c.byte-first.ensures at c.if-first-quote.false in
    let none : break_width text p ≡ 0 = omega arith in
    let slash : (c.args.quote == 34 && byte text p == 92) ≡ false = elim c.else-quote-eq34.branch [
      | else-quote-eq34-via-then-quote-eq34+else-first-eq92 w ↦ no_slash_last c.args.quote (byte text p) (rw c.byte-first.ensures at w.if-first-eq92.false)
      | else-quote-eq34-via-else-quote-eq34 w ↦ no_slash_first c.args.quote (byte text p) w.if-quote-eq34.false
    ] in
    wide_goes c.args.quote text c.args.arena.now.items c.args.read c.requires.order c.requires.seat some other none slash
