-- Escapes, a digit at a time.
use Rattle.std.proofs.Common.{◌≡◌, ℕ, zero, suc, ◌+◌, ◌-◌, ◌*◌, ◌<◌, ◌≤◌, List, Some, None, ◌^◌, refl, arith, add-one, add-zero, add-suc, rules}
use Rattle.std.proofs.Math.Nat.{pow-le-pow_right, pow-suc}
use Rattle.yaml_scan_history.proofs.ScalarWords.{byte, break_width, hex_digit, hex_value, hex_len, escape_at, coded}

-- One hexadecimal digit more.
pub hex_more : (text : List ℕ) (p k v d : ℕ) → hex_value text p k ≡ Some v
    → hex_digit (byte text (p + k)) ≡ Some d → hex_value text p (k + 1) ≡ Some (v * 16 + d)
unfolding hex_value
hex_more text p k v d h e = rw (add-one, h, e) refl

pub hex_none : (text : List ℕ) (p k m : ℕ) → hex_value text p k ≡ None
    → hex_value text p (k + m) ≡ None
unfolding hex_value
hex_none text p k zero h = rw add-zero h
hex_none text p k (suc m) h = rw (add-suc, hex_none text p k m h) refl

pub hex_refused : (text : List ℕ) (p k n v : ℕ) → hex_value text p k ≡ Some v
    → hex_digit (byte text (p + k)) ≡ None → k < n → hex_value text p n ≡ None
hex_refused text p k n v h e l =
    let all : k + 1 + (n - (k + 1)) ≡ n = omega arith in
    rw all at (hex_none text p (k + 1) (n - (k + 1)) (unfold hex_value in rw (add-one, h, e) refl))

-- what k digits spell at most, and one more
pub power-more : (k : ℕ) → 16 ^ (k + 1) ≡ 16 ^ k * 16
power-more k = rw add-one (pow-suc 16 k)

-- Eight hexadecimal digits fit.
pub power-room : (k : ℕ) → k < 8 → 16 ^ k * 16 ≤ 4294967296
power-room k h = search (rules, pow-le-pow_right, pow-suc)

pub escape_code : (text : List ℕ) (p : ℕ) → break_width text (p + 1) ≡ 0
    → 0 < hex_len (byte text (p + 1))
    → escape_at text p ≡ coded (p + 2) (p + 2 + hex_len (byte text (p + 1)))
    (hex_value text (p + 2) (hex_len (byte text (p + 1))))
unfolding escape_at
escape_code text p z h = search rules
