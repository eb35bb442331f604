use Rattle.std.proofs.Common.{◌≡◌, arith}
use Rattle.yaml_scan_text.proofs.Words.{byte}
use Rattle.yaml_scan_text.proofs.TagsLemmas.{verbatim_read}
use Rattle.yaml_scan_text.proofs.tag.verbatim.Goals as goal

pub returns-clause-value : goal.returns-clause-value
returns-clause-value c =
    let close : byte c.args.text.now c.in_ok-suffix.suffix.end ≡ 62 = omega (arith, c.byte.ensures, c.if-byte-ne62.false) in
    verbatim_read c.args.text.now c.args.start c.args.arena.now.items c.some_uri.new.arena.items c.in_ok-suffix.suffix c.requires.mark c.requires.angle c.in_ok-suffix.ensures.value close
