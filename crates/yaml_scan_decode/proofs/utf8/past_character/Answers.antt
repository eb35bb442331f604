use Rattle.std.proofs.Common.{rules, refl, sym, arith}
use Rattle.yaml_scan_decode.proofs.DecodeLemmas.{utf8_stands}
use Rattle.yaml_scan_decode.proofs.SpellingLemmas.{checks_more}
use Rattle.yaml_scan_decode.proofs.utf8.past_character.Goals as goal

pub overflow_add-result : goal.overflow_add-result
overflow_add-result c =
    let (code, is) = c.common_width-width.ensures (omega arith) in
    let inside = (utf8_stands _ _ _ c.requires is).inside in
    search (rules, inside)

pub returns-then-width-gt0 : goal.returns-then-width-gt0
returns-then-width-gt0 c =
    let (code, is) = c.common_width-width.ensures (omega arith) in
    (omega arith, checks_more _ _ _ _ refl c.requires is)

pub overflow_add-result-2 : goal.overflow_add-result-2
overflow_add-result-2 c =
    let inside = (utf8_stands _ _ _ c.requires (sym c.in_ok-utf8_character.ensures)).inside in
    search (rules, inside)

pub returns : goal.returns
returns c =
    let is = sym c.in_ok-utf8_character.ensures in
    let s = utf8_stands _ _ _ c.requires is in
    (omega (arith, s.some), checks_more _ _ _ _ refl c.requires is)
