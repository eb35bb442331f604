use Rattle.std.proofs.Common.{◌≡◌, length, arith}
use Rattle.yaml_scan_core.proofs.SeatLemmas.{line_is}
use Rattle.yaml_scan_core.proofs.WordsLemmas.{quoted_given, quoted_narrow}
use Rattle.yaml_scan_core.proofs.word.quoted_word.Goals as goal

pub quoted_scalar-requires-clause-line : goal.quoted_scalar-requires-clause-line
quoted_scalar-requires-clause-line c = line_is c.args.text.now c.args.spot.at c.args.spot.line c.requires.spot.place.begins

pub wide_behind-requires-clause-narrow : goal.wide_behind-requires-clause-narrow
wide_behind-requires-clause-narrow c = quoted_narrow c.args.text.now c.args.arena.now.items c.quoted_scalar.new.arena.items c.args.spot.at c.in_ok-read.read _ c.in_ok-read.ensures.value

pub returns-clause-value : goal.returns-clause-value
returns-clause-value c =
    let base : c.len-base.result ≡ length c.args.arena.now.items = omega (arith, c.len-base.ensures, c.args.arena.now.ok.0) in
    let end : c.len.result ≡ length c.quoted_scalar.new.arena.items = omega (arith, c.len.ensures, c.quoted_scalar.new.arena.ok.0) in
    rw (c.scalar.ensures, c.value_note.ensures, base, end) (quoted_given c.args.style c.args.text.now c.args.arena.now.items c.quoted_scalar.new.arena.items c.args.spot c.in_ok-read.read c.wide_behind.result _
    c.requires.quote c.in_ok-read.ensures.value c.wide_behind.ensures)
