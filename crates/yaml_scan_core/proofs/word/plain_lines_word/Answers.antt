use Rattle.std.proofs.Common.{◌≡◌, length, arith}
use Rattle.yaml_scan_core.proofs.SpotLemmas.{plain_lands}
use Rattle.yaml_scan_core.proofs.WordsLemmas.{plain_given, plain_on}
use Rattle.yaml_scan_core.proofs.word.plain_lines_word.Goals as goal

pub wide_behind-requires-clause-order : goal.wide_behind-requires-clause-order
wide_behind-requires-clause-order c = (plain_on c.args.text.now c.args.arena.now.items c.plain_lines.new.arena.items c.args.spot.at c.in_ok-read.read _ (plain_lands c.args.flow c.args.margin c.args.text.now c.args.spot.at c.requires.inside) c.in_ok-read.ensures.value).on

pub wide_behind-requires-clause-inside : goal.wide_behind-requires-clause-inside
wide_behind-requires-clause-inside c = (plain_on c.args.text.now c.args.arena.now.items c.plain_lines.new.arena.items c.args.spot.at c.in_ok-read.read _ (plain_lands c.args.flow c.args.margin c.args.text.now c.args.spot.at c.requires.inside) c.in_ok-read.ensures.value).inside

pub wide_behind-requires-clause-line : goal.wide_behind-requires-clause-line
wide_behind-requires-clause-line c = (plain_on c.args.text.now c.args.arena.now.items c.plain_lines.new.arena.items c.args.spot.at c.in_ok-read.read _ (plain_lands c.args.flow c.args.margin c.args.text.now c.args.spot.at c.requires.inside) c.in_ok-read.ensures.value).line

pub wide_behind-requires-clause-narrow : goal.wide_behind-requires-clause-narrow
wide_behind-requires-clause-narrow c = λ w k a b l. (plain_on c.args.text.now c.args.arena.now.items c.plain_lines.new.arena.items c.args.spot.at c.in_ok-read.read _ (plain_lands c.args.flow c.args.margin c.args.text.now c.args.spot.at c.requires.inside) c.in_ok-read.ensures.value).wide w k b l

pub returns-clause-value : goal.returns-clause-value
returns-clause-value c =
    let base : c.len-base.result ≡ length c.args.arena.now.items = omega (arith, c.len-base.ensures, c.args.arena.now.ok.0) in
    let end : c.len.result ≡ length c.plain_lines.new.arena.items = omega (arith, c.len.ensures, c.plain_lines.new.arena.ok.0) in
    rw (c.scalar.ensures, c.value_note.ensures, base, end) (plain_given c.args.text.now c.args.arena.now.items c.plain_lines.new.arena.items c.args.spot c.in_ok-read.read c.wide_behind.result _
    (plain_lands c.args.flow c.args.margin c.args.text.now c.args.spot.at c.requires.inside) c.in_ok-read.ensures.value c.wide_behind.ensures)
