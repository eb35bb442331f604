-- Block scalars, from their header, their column and their lines.
use Rattle.std.proofs.Common.{◌≡◌, ℕ, suc, ◌+◌, ◌==◌, List, length, Ok, refl, ◌⊎◌, arith}
use Rattle.yaml_scan_history.proofs.BlockWords.{byte, break_of, no_break, block_value, lines_from, HeaderText, header_at, block_at, block_with, column_of}

-- A block scalar is its header, its column, and the lines from there.
pub block_found : (level : ℕ) (text : List ℕ) (p c : ℕ) (x : HeaderText)
    → header_at text (p + 1) ≡ Ok x → column_of level text x.digit x.place ≡ Ok c
    → block_at level text p ≡ block_with (block_value (byte text p == 62) x.chomp)
    (lines_from (suc (length text)) c text x.place x.place)
block_found level text p c x h k = rw (h, k) refl

pub indicator_no_break : (b c d : ℕ) → (b ≡ 124) ⊎ (b ≡ 62) → break_of b c d ≡ 0
indicator_no_break b c d h = grind (arith, no_break)
