-- Runs of ordinary bytes.
use Rattle.std.proofs.Common.{◌≡◌, ◌≢◌, ℕ, zero, suc, ◌+◌, ◌<◌, ◌≤◌, false, List, [], ◌∷◌, length, take, drop, refl, arith, rules}
use Rattle.yaml_scan_history.proofs.ScalarWords.{drop_more, byte, ends_of, bytes_at}

-- no white, and no byte with which a break begins or ends
pub record IsCalm (b : ℕ) : Type 0 where
  pub high : 32 < b
  pub no_c2 : b ≢ 0xC2
  pub no_e2 : b ≢ 0xE2
  pub no_next : b ≢ 0x85
  pub no_line : b ≢ 0xA8
  pub no_paragraph : b ≢ 0xA9

-- What is printed in ASCII is calm.
pub calm_between : (b : ℕ) → 32 < b → b < 128 → IsCalm b
calm_between b low high = record { high = low; no_c2 = omega arith; no_e2 = omega arith; no_next = omega arith; no_line = omega arith; no_paragraph = omega arith }

-- A calm byte ends no break.
pub calm_ends_none : (x y b c : ℕ) → IsCalm b → ends_of x y b c ≡ false
unfolding ends_of
calm_ends_none x y b c h = search rules

-- what is in a run

-- bytes of the text

-- The bytes from a place on are a part of the text.
pub slice_bytes : (text : List ℕ) (p d : ℕ) → p + d ≤ length text
    → take d (drop p text) ≡ bytes_at text p d
unfolding bytes_at
slice_bytes text p zero h = refl
slice_bytes text p (suc d) h =
    let l : p < length text = omega arith in
    rw (drop_more text p 0 l, slice_bytes text (p + 1) d (omega arith)) refl

-- No byte.
pub bytes_none : (text : List ℕ) (p : ℕ) → bytes_at text p 0 ≡ []
unfolding bytes_at
bytes_none text p = refl

-- One byte more.
pub bytes_more : (text : List ℕ) (p d : ℕ)
    → bytes_at text p (suc d) ≡ byte text p ∷ bytes_at text (p + 1) d
unfolding bytes_at
bytes_more text p d = refl

-- So many bytes are so long.
pub bytes_long : (text : List ℕ) (p d : ℕ) → length (bytes_at text p d) ≡ d
unfolding bytes_at
bytes_long text p zero = refl
bytes_long text p (suc d) = let more = bytes_long text (p + 1) d in omega arith

-- the last byte of a run is no space

-- a run as one piece

-- a run between quotes
