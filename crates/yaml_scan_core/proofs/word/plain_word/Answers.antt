use Rattle.std.proofs.Common.{◌∙◌, refl, sym}
use Rattle.yaml_scan_core.proofs.SeatLemmas.{line_is}
use Rattle.yaml_scan_core.proofs.WordsLemmas.{none_there, one_given, one_refused}
use Rattle.yaml_scan_core.proofs.word.plain_word.Goals as goal

pub returns-then-is_bad_colon-clause-value : goal.returns-then-is_bad_colon-clause-value
returns-then-is_bad_colon-clause-value c =
    one_refused c.args.flow c.args.text.now c.args.arena.now.items c.args.spot c.plain_line-part.result _ _ (sym c.is_bad_colon.ensures ∙ c.if-is_bad_colon.true)
    (c.plain_line-part.ensures.one (none_there _ _ c.break_width.ensures c.if-break_width-gt0.false) c.args.margin) refl

pub wide_behind-requires-clause-line : goal.wide_behind-requires-clause-line
wide_behind-requires-clause-line c =
    line_is c.args.text.now c.args.spot.at c.args.spot.line c.requires.spot.place.begins ∙ sym c.plain_line-part.ensures.line.line

pub returns-clause-value : goal.returns-clause-value
returns-clause-value c =
    rw c.scalar.ensures (one_given c.args.flow c.args.text.now c.args.arena.now.items c.args.spot c.plain_line-part.result c.wide_behind.result _
    c.plain_line-part.ensures.line (sym c.is_bad_colon.ensures ∙ c.if-is_bad_colon.false)
    (c.plain_line-part.ensures.one (none_there _ _ c.break_width.ensures c.if-break_width-gt0.false) c.args.margin) c.wide_behind.ensures)
