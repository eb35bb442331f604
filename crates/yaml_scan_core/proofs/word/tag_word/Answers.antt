use Rattle.std.proofs.Common.{◌≡◌, length, arith}
use Rattle.std.specs.Str.{is_utf8}
use Rattle.yaml_scan_core.specs.Told.{span_in}
use Rattle.yaml_scan_core.specs.WordsRead.{value_span}
use Rattle.yaml_scan_core.proofs.WordsLemmas.{bare_store, tag_fits, tag_given, tag_kind_is}
use Rattle.yaml_scan_core.proofs.word.tag_word.Goals as goal

pub is_text-requires : goal.is_text-requires
is_text-requires c =
    let base : c.len-base.result ≡ length c.args.arena.now.items = omega (arith, c.len-base.ensures, c.args.arena.now.ok.0) in
    let end : c.len.result ≡ length c.read_tag.new.arena.items = omega (arith, c.len.ensures, c.read_tag.new.arena.ok.0) in
    rw (c.deref.ensures.value, c.span-suffix.ensures, base, end) (tag_fits c.args.text.now c.args.arena.now.items c.read_tag.new.arena.items c.args.spot.at c.in_ok-tag.tag _ c.in_ok-tag.ensures.value)

pub returns-clause-value : goal.returns-clause-value
returns-clause-value c =
    let text = c.args.text.now in
    let old = c.args.arena.now.items in
    let new = c.read_tag.new.arena.items in
    let g = c.in_ok-tag.tag in
    let base : c.len-base.result ≡ length old = omega (arith, c.len-base.ensures, c.args.arena.now.ok.0) in
    let end : c.len.result ≡ length new = omega (arith, c.len.ensures, c.read_tag.new.arena.ok.0) in
    let told : c.is_text.result ≡ is_utf8 (span_in (bare_store text new) (value_span g.joined g.from g.to (length old) (length new))) = rw (c.deref.ensures.value, c.span-suffix.ensures, base, end) at c.is_text.ensures in
    rw (c.new.ensures, c.of_text.ensures, c.span-suffix.ensures, base, end) (tag_given text old new c.args.spot _ g _ (tag_kind_is c.is_text.result c.tag_kind-kind.result _ c.tag_kind-kind.ensures told) c.requires.spot.place c.in_ok-tag.ensures.value)
