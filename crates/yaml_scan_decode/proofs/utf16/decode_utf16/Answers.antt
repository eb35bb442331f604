use Rattle.std.proofs.Common.{rules, sym, ◌∙◌, arith}
use Rattle.std.proofs.lemmas.Result.{err_from_is_err_and}
use Rattle.yaml_scan_decode.proofs.DecodeLemmas.{utf16_stands}
use Rattle.yaml_scan_decode.proofs.SpellingLemmas.{character_by, allowed_scalar, writes_refused}
use Rattle.yaml_scan_decode.proofs.utf16.decode_utf16.Goals as goal

pub returns-in_err-character : goal.returns-in_err-character
returns-in_err-character c =
    let p = err_from_is_err_and c.from_residual-in_err-character.result c.from_residual-in_err-character.ensures.1 in
    rw (p.1, p.2) (writes_refused _ _ _ _ _ _ c.characters.invariant c.characters-test.true (character_by c.args.order _ _ ∙ sym c.in_err-character.ensures))

pub push-requires : goal.push-requires
push-requires c =
    let s = utf16_stands _ _ _ _ (λ k. omega (arith, c.type_inv.bytes k)) c.characters-test.true (sym c.in_ok-character.ensures) in
    allowed_scalar _ s.allowed

pub overflow_add-at : goal.overflow_add-at
overflow_add-at c =
    let s = utf16_stands _ _ _ _ (λ k. omega (arith, c.type_inv.bytes k)) c.characters-test.true (sym c.in_ok-character.ensures) in
    let inside = s.inside in
    search (rules, inside)

pub characters-smaller : goal.characters-smaller
characters-smaller c =
    let s = utf16_stands _ _ _ _ (λ k. omega (arith, c.type_inv.bytes k)) c.characters-test.true (sym c.in_ok-character.ensures) in
    omega (arith, s.some, c.characters-test.true)
