use Rattle.std.proofs.lemmas.Result.{err_from_is_err_and}
use Rattle.yaml_scan_text.proofs.QuotesRead.{character_goes, character_refused}
use Rattle.yaml_scan_text.proofs.quoted.escape_character.Goals as goal

pub returns-in_err-next-clause-value : goal.returns-in_err-next-clause-value
returns-in_err-next-clause-value c =
    let p = err_from_is_err_and c.from_residual-in_err-next.result c.from_residual-in_err-next.ensures.1 in
    rw (p.1, p.2) (character_refused c.args.text.now c.args.arena.now.items c.put_escaped.new.arena.items c.args.read c.in_err-next.field-0.0 c.requires.seat c.requires.first c.in_err-next.ensures.value)

pub returns-clause-value : goal.returns-clause-value
returns-clause-value c =
    let (took, further) = c.in_ok-next.ensures.value in
    character_goes c.args.text.now c.args.arena.now.items c.extend_from_slice.new.self.items c.put_escaped.new.arena.items c.args.read c.in_ok-next.next c.requires.order c.requires.seat c.requires.first c.in_ok-extend_from_slice.ensures.items took further
