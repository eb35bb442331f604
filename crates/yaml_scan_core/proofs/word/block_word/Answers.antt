use Rattle.std.proofs.Common.{◌≡◌, length, arith}
use Rattle.yaml_scan_core.proofs.SeatLemmas.{line_is}
use Rattle.yaml_scan_core.proofs.SpotLemmas.{block_lands}
use Rattle.yaml_scan_core.proofs.WordsLemmas.{block_given, block_on}
use Rattle.yaml_scan_core.proofs.word.block_word.Goals as goal

pub block_scalar-requires-clause-line : goal.block_scalar-requires-clause-line
block_scalar-requires-clause-line c = line_is c.args.text.now c.args.spot.at c.args.spot.line c.requires.spot.place.begins

pub wide_behind-requires-clause-order : goal.wide_behind-requires-clause-order
wide_behind-requires-clause-order c =
    (block_on c.args.style c.args.text.now c.args.arena.now.items c.block_scalar.new.arena.items c.args.spot.at c.in_ok-read.read _
    (block_lands c.args.style c.args.margin c.args.text.now c.args.spot.at c.requires.mark) c.in_ok-read.ensures.value).0

pub returns-clause-value : goal.returns-clause-value
returns-clause-value c =
    let base : c.len-base.result ≡ length c.args.arena.now.items = omega (arith, c.len-base.ensures, c.args.arena.now.ok.0) in
    let end : c.len.result ≡ length c.block_scalar.new.arena.items = omega (arith, c.len.ensures, c.block_scalar.new.arena.ok.0) in
    rw (c.scalar.ensures, c.value_note.ensures, base, end) (block_given c.args.style c.args.text.now c.args.arena.now.items c.block_scalar.new.arena.items c.args.spot c.in_ok-read.read c.wide_behind.result _
    (block_lands c.args.style c.args.margin c.args.text.now c.args.spot.at c.requires.mark) c.in_ok-read.ensures.value c.wide_behind.ensures)
