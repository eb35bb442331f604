use mir.Val.{bool_byte}
use Rattle.std.proofs.Common.{◌≡◌, ◌∙◌, cond, ap, sym, rules}
use Rattle.yaml_scan_core.proofs.Words.{byte, starts}
use Rattle.yaml_scan_core.proofs.ToldLemmas.{bit_of, bit_small, mark_behind, mark_behind_end, mark_small}
use Rattle.yaml_scan_core.proofs.place.byte_behind.Goals as goal

pub overflow_add-result-then-ends_break : goal.overflow_add-result-then-ends_break
overflow_add-result-then-ends_break c =
    let small = (mark_small c.args.text.now c.args.mark c.requires.mark).0 in
    search (rules, small)

pub returns-then-ends_break : goal.returns-then-ends_break
returns-then-ends_break c = mark_behind_end c.args.text.now c.args.mark c.requires.mark (sym c.ends_break.ensures ∙ c.if-ends_break.true)

pub overflow_add-result-3 : goal.overflow_add-result-3
overflow_add-result-3 c =
    let small = (mark_small c.args.text.now c.args.mark c.requires.mark).1 in
    let bit = bit_small c.starts.result in
    search (rules, small, bit)

pub returns : goal.returns
returns c =
    let text = c.args.text.now in
    let k : bool_byte c.starts.result ≡ cond (starts (byte text c.args.mark.index)) 1 0 = ap bool_byte c.starts.ensures ∙ bit_of (starts (byte text c.args.mark.index)) in
    mark_behind text c.args.mark (bool_byte c.starts.result) c.requires.mark (sym c.ends_break.ensures ∙ c.if-ends_break.false) k
