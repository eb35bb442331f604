use Rattle.std.proofs.Common.{refl, arith}
use Rattle.yaml_scan_core.proofs.PlacesLemmas.{byte_place}
use Rattle.yaml_scan_core.proofs.WordsLemmas.{names_given}
use Rattle.yaml_scan_core.proofs.word.name_word.Goals as goal

pub returns : goal.returns
returns c = λ arena.
    let p = c.requires.spot.place in
    rw c.new.ensures (names_given c.args.text.now arena c.args.spot c.args.kind c.args.context c.in_ok-end.end _ c.requires.named p
    (byte_place c.args.text.now c.args.spot.at c.args.spot.line c.args.spot.wide _ p refl (omega (arith, c.requires.first)) (omega (arith, c.requires.ascii)))
    c.in_ok-end.ensures)
