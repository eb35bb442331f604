-- The bytes of a character are printable where its code point is.
use Rattle.std.proofs.Common.{◌≡◌, ℕ, ◌+◌, ◌*◌, ◌<◌, ◌≤◌, List, ◌++◌, inl, inr, ◌⊎◌, arith, encode_utf8}
use Rattle.yaml_emit_laws.proofs.Shared.{cases_lt, nat_tests, scalar_cases, is_printable_by, is_special, is_printable}
use Rattle.std.specs.Char.{IsScalar}
use Rattle.yaml_scan_history.specs.scan_types.Classes as bytes
use Rattle.yaml_emit_laws.specs.Printing.{PrintableIsOfCharacters}
use Rattle.yaml_emit_laws.proofs.Chars.{encode_4, encode_3, encode_1, encode_2}

-- by the three parts of its number
three : (q r s : ℕ) → q < 16 → r < 64 → s < 64 → 2048 ≤ 4096 * q + 64 * r + s
    → (4096 * q + 64 * r + s < 55296) ⊎ (57344 ≤ 4096 * q + 64 * r + s)
    → is_printable_by (224 + q) (128 + r) (128 + s) ≡ is_printable (4096 * q + 64 * r + s)
unfolding is_printable_by is_special
three q r s a b h g scalar =
    elim (cases_lt q 13) [
      | inl low ↦ (grind (arith, nat_tests))
      | inr past ↦ elim (cases_lt q 14) [
        | inl at ↦
            let is : q ≡ 13 = omega (arith, past, at) in
            let near : r < 32 = elim scalar [ inl below ↦ omega (arith, is, below) | inr above ↦ absurd (omega (arith, is, above, b, h)) ] in
            rw is (grind (arith, nat_tests))
        | inr more ↦ elim (cases_lt q 15) [
          | inl at ↦ let is : q ≡ 14 = omega (arith, more, at) in rw is (grind (arith, nat_tests))
          | inr last ↦ let is : q ≡ 15 = omega (arith, last, a) in rw is (grind (arith, nat_tests))
        ]
      ]
    ]

bounds : (c : ℕ) → IsScalar c → ((c < 55296) ⊎ (57344 ≤ c)) × (c < 1114112)
bounds c e = elim (scalar_cases c e) [ inl low ↦ (inl low, omega (arith, low)) | inr (from, to) ↦ (inr from, to) ]

two_bytes : (c : ℕ) (rest : List ℕ) → 128 ≤ c → c < 2048
    → bytes.is_printable (encode_utf8 c ++ rest) 0 ≡ is_printable c
unfolding is_printable_by
two_bytes c rest a b = grind (arith, nat_tests, encode_2)

three_bytes : (c : ℕ) (rest : List ℕ) → 2048 ≤ c → c < 65536 → (c < 55296) ⊎ (57344 ≤ c)
    → bytes.is_printable (encode_utf8 c ++ rest) 0 ≡ is_printable c
three_bytes c rest a b scalar = grind (arith, nat_tests, encode_3, three)

pub printable : PrintableIsOfCharacters
unfolding is_printable_by
printable c rest e =
    let (scalar, top) = bounds c e in
    elim (cases_lt c 128) [
      | inl ascii ↦ rw (encode_1 c ascii) (grind (arith, nat_tests))
      | inr past ↦ elim (cases_lt c 2048) [
        | inl short ↦ two_bytes c rest past short
        | inr more ↦ elim (cases_lt c 65536) [
          | inl low ↦ three_bytes c rest more low scalar
          | inr high ↦ rw (encode_4 c high) (grind (arith, nat_tests))
        ]
      ]
    ]
