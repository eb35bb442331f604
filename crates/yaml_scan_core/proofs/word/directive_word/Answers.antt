use Rattle.std.proofs.Common.{◌≡◌, length, arith}
use Rattle.std.specs.Str.{is_utf8}
use Rattle.yaml_scan_core.specs.Told.{span_in}
use Rattle.std.proofs.lemmas.Result.{err_from_is_err_and}
use Rattle.yaml_scan_core.proofs.NumbersLemmas.{says_small}
use Rattle.yaml_scan_core.proofs.SeatLemmas.{line_is}
use Rattle.yaml_scan_core.proofs.SpotLemmas.{directive_lands}
use Rattle.yaml_scan_core.proofs.WordsLemmas.{bare_store, directive_fits, directive_given, directive_note, directive_on, directive_refused}
use Rattle.yaml_scan_core.proofs.word.directive_word.Goals as goal

pub read_directive-requires-clause-line : goal.read_directive-requires-clause-line
read_directive-requires-clause-line c = line_is c.args.text.now c.args.spot.at c.args.spot.line c.requires.spot.place.begins

pub returns-in_err-read-clause-value : goal.returns-in_err-read-clause-value
returns-in_err-read-clause-value c =
    let p = err_from_is_err_and c.from_residual.result c.from_residual.ensures.1 in
    rw (p.1, p.2) (directive_refused c.args.text.now c.args.arena.now.items c.read_directive.new.arena.items c.args.spot c.in_err-read.field-0.0 _ c.in_err-read.ensures.value)

pub wide_behind-requires-clause-order : goal.wide_behind-requires-clause-order
wide_behind-requires-clause-order c = (directive_on c.args.text.now c.args.arena.now.items c.read_directive.new.arena.items c.args.spot.at c.in_ok-read.read _ (directive_lands c.args.text.now c.args.spot.at c.requires.mark) c.in_ok-read.ensures.value).0

pub wide_behind-requires-clause-inside : goal.wide_behind-requires-clause-inside
wide_behind-requires-clause-inside c = (directive_on c.args.text.now c.args.arena.now.items c.read_directive.new.arena.items c.args.spot.at c.in_ok-read.read _ (directive_lands c.args.text.now c.args.spot.at c.requires.mark) c.in_ok-read.ensures.value).1.inside

pub wide_behind-requires-clause-whole : goal.wide_behind-requires-clause-whole
wide_behind-requires-clause-whole c = (directive_on c.args.text.now c.args.arena.now.items c.read_directive.new.arena.items c.args.spot.at c.in_ok-read.read _ (directive_lands c.args.text.now c.args.spot.at c.requires.mark) c.in_ok-read.ensures.value).1.whole

pub wide_behind-requires-clause-line : goal.wide_behind-requires-clause-line
wide_behind-requires-clause-line c = (directive_on c.args.text.now c.args.arena.now.items c.read_directive.new.arena.items c.args.spot.at c.in_ok-read.read _ (directive_lands c.args.text.now c.args.spot.at c.requires.mark) c.in_ok-read.ensures.value).1.own

pub is_text-requires : goal.is_text-requires
is_text-requires c =
    let base : c.len-base.result ≡ length c.args.arena.now.items = omega (arith, c.len-base.ensures, c.args.arena.now.ok.0) in
    let end : c.len.result ≡ length c.read_directive.new.arena.items = omega (arith, c.len.ensures, c.read_directive.new.arena.ok.0) in
    rw (c.deref.ensures.value, c.span-second.ensures, base, end) (directive_fits c.args.text.now c.args.arena.now.items c.read_directive.new.arena.items c.in_ok-read.read _ c.in_ok-read.ensures.value)

pub returns-clause-value : goal.returns-clause-value
returns-clause-value c =
    let base : c.len-base.result ≡ length c.args.arena.now.items = omega (arith, c.len-base.ensures, c.args.arena.now.ok.0) in
    let end : c.len.result ≡ length c.read_directive.new.arena.items = omega (arith, c.len.ensures, c.read_directive.new.arena.ok.0) in
    let text = c.args.text.now in
    let old = c.args.arena.now.items in
    let new = c.read_directive.new.arena.items in
    let told : c.is_text.result ≡ is_utf8 (span_in (bare_store text new) (directive_note c.in_ok-read.read.value (length old) (length new)).second) = rw (c.deref.ensures.value, c.span-second.ensures, base, end) at c.is_text.ensures in
    rw (c.new.ensures, c.directive_kind-kind.ensures, c.of_text.ensures, c.span-second.ensures, base, end) (directive_given c.is_text.result c.args.text.now c.args.arena.now.items c.read_directive.new.arena.items c.args.spot c.in_ok-read.read c.wide_behind.result _
    (says_small c.args.text.now c.args.spot.at) told c.in_ok-read.ensures.value c.wide_behind.ensures)
