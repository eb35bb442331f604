-- Characters in UTF-8.
use Rattle.std.proofs.Common.{◌≡◌, ℕ, ◌+◌, ◌/◌, ◌%◌, ◌<◌, ◌≤◌, [], ◌∷◌, refl, encode_utf8, arith, lt-ltb, le-ltb}
use lib.Utf8.{encode}

-- UTF-8 of a character below 128.
pub encode_1 : (c : ℕ) → c < 128 → encode_utf8 c ≡ c ∷ []
unfolding encode
encode_1 c a = rw (lt-ltb c 128 a) refl

-- UTF-8 of a character of two bytes.
pub encode_2 : (c : ℕ) → 128 ≤ c → c < 2048 → encode_utf8 c ≡ (192 + c / 64) ∷ (128 + c % 64) ∷ []
unfolding encode
encode_2 c a b = rw (le-ltb c 128 a, lt-ltb c 2048 b) refl

-- UTF-8 of a character of three bytes.
pub encode_3 : (c : ℕ) → 2048 ≤ c → c < 65536
    → encode_utf8 c ≡ (224 + c / 4096) ∷ (128 + c / 64 % 64) ∷ (128 + c % 64) ∷ []
unfolding encode
encode_3 c a b = rw (le-ltb c 128 (omega arith), le-ltb c 2048 a, lt-ltb c 65536 b) refl

-- UTF-8 of a character of four bytes.
pub encode_4 : (c : ℕ) → 65536 ≤ c
    → encode_utf8 c ≡ (240 + c / 262144) ∷ (128 + c / 4096 % 64) ∷ (128 + c / 64 % 64)
    ∷ (128 + c % 64) ∷ []
unfolding encode
encode_4 c a = rw (le-ltb c 128 (omega arith), le-ltb c 2048 (omega arith), le-ltb c 65536 a) refl
