use Rattle.std.proofs.Common.{[], ◌∷◌}
use Rattle.yaml_emit_layout.proofs.Escapes.{escape_by_letter, escape_by_2, escape_by_4, escape_by_8}
use Rattle.yaml_emit_scalars.proofs.Folds.{lays_letters}
use Rattle.yaml_emit_scalars.proofs.quoted.put_escape.Goals as goal

pub returns-then-letter-ne0 : goal.returns-then-letter-ne0
returns-then-letter-ne0 c =
    rw (escape_by_letter c.args.c (rw c.letter_of-letter.ensures.letter at c.if-letter-ne0.true), ← c.letter_of-letter.ensures.letter) c.put_text.ensures

pub returns-then-n-lt256 : goal.returns-then-n-lt256
returns-then-n-lt256 c =
    rw (escape_by_2 c.args.c (rw c.letter_of-letter.ensures.letter at c.if-letter-ne0.false) c.if-n-lt256.true)
    (lays_letters _ _ _ (92 ∷ 120 ∷ []) _ c.put_text-then-n-lt256.ensures c.put_hex_2.ensures)

pub returns-then-n-lt65536 : goal.returns-then-n-lt65536
returns-then-n-lt65536 c =
    rw (escape_by_4 c.args.c (rw c.letter_of-letter.ensures.letter at c.if-letter-ne0.false) c.if-n-lt256.false c.if-n-lt65536.true)
    (lays_letters _ _ _ (92 ∷ 117 ∷ []) _ c.put_text-then-n-lt65536.ensures c.put_hex_4.ensures)

pub returns-else-n-lt65536 : goal.returns-else-n-lt65536
returns-else-n-lt65536 c =
    rw (escape_by_8 c.args.c (rw c.letter_of-letter.ensures.letter at c.if-letter-ne0.false) c.if-n-lt256.false c.if-n-lt65536.false)
    (lays_letters _ _ _ (92 ∷ 85 ∷ []) _ c.put_text-else-n-lt65536.ensures c.put_hex_8.ensures)
