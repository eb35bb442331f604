-- What is wrong with bytes, rule by rule: what is there, and what the fault says, in its own words.
use Rattle.std.specs.Prelude.{◌≡◌, ◌<◌, ◌≤◌, ℕ, ℤ, pos, negsuc, ◌+◌, ◌-◌, false, true, List, length, Result, Ok, Err, codes}
use Rattle.yaml_scan_types.specs.Marks.{byte}
use Rattle.yaml_scan_types.specs.Classes.{width_of}
use Rattle.yaml_scan_decode.specs.declared.offence.Offence.{Offence}
use Rattle.yaml_scan_decode.specs.declared.offence.Character.{Character}
use Rattle.yaml_scan_decode.specs.declared.utf16.ByteOrder.{ByteOrder}
use Rattle.yaml_scan_decode.specs.Offences.{problem_text_of}
use Rattle.yaml_scan_decode.specs.Characters.{is_allowed, is_low_surrogate, is_high_surrogate, is_trailing, least_code, between, allowed_at, valued_at, utf8_at, unit_at, utf16_at}

-- no character is there, and the fault says that problem, the byte's place and a number
abbrev pub IsOffence : Result Character Offence → List ℕ → ℕ → ℤ → Type 0
IsOffence (Ok c) what p number = ⊥
IsOffence (Err o) what p number = (problem_text_of o.problem ≡ what) × (o.offset ≡ p)
    × (o.value ≡ number)

-- no number is named
abbrev pub nothing : ℤ
nothing = negsuc 0

pub record OffencesAreTold : Type 0 where
  -- UTF-8: a byte that begins no character, fewer bytes than it asks for, and a later byte that doesn't go on with it, the first such
  pub leading : (bytes : List ℕ) (p : ℕ) → width_of (byte bytes p) ≡ 0
      → IsOffence (utf8_at bytes p) (codes "invalid leading UTF-8 octet") p (pos (byte bytes p))
  pub incomplete : (bytes : List ℕ) (p : ℕ) → 0 < width_of (byte bytes p)
      → length bytes - p < width_of (byte bytes p)
      → IsOffence (utf8_at bytes p) (codes "incomplete UTF-8 octet sequence") p nothing
  pub trailing : (bytes : List ℕ) (p : ℕ) → 1 < width_of (byte bytes p)
      → width_of (byte bytes p) ≤ length bytes - p → is_trailing (byte bytes (p + 1)) ≡ false
      → IsOffence (utf8_at bytes p) (codes "invalid trailing UTF-8 octet") (p + 1)
      (pos (byte bytes (p + 1)))
  pub third : (bytes : List ℕ) (p : ℕ) → 2 < width_of (byte bytes p)
      → width_of (byte bytes p) ≤ length bytes - p → is_trailing (byte bytes (p + 1)) ≡ true
      → is_trailing (byte bytes (p + 2)) ≡ false
      → IsOffence (utf8_at bytes p) (codes "invalid trailing UTF-8 octet") (p + 2)
      (pos (byte bytes (p + 2)))
  pub fourth : (bytes : List ℕ) (p : ℕ) → 3 < width_of (byte bytes p)
      → width_of (byte bytes p) ≤ length bytes - p → is_trailing (byte bytes (p + 1)) ≡ true
      → is_trailing (byte bytes (p + 2)) ≡ true → is_trailing (byte bytes (p + 3)) ≡ false
      → IsOffence (utf8_at bytes p) (codes "invalid trailing UTF-8 octet") (p + 3)
      (pos (byte bytes (p + 3)))
  -- a code in more bytes than it needs, half of a pair, a number above all characters, and a character that no stream may hold
  pub long : (p width code : ℕ) → code < least_code width
      → IsOffence (valued_at p width code) (codes "invalid length of a UTF-8 sequence") p nothing
  pub surrogate : (p width code : ℕ) → least_code width ≤ code → between 0xD800 0xDFFF code ≡ true
      → IsOffence (valued_at p width code) (codes "invalid Unicode character") p (pos code)
  pub large : (p width code : ℕ) → least_code width ≤ code → 0x10_FFFF < code
      → IsOffence (valued_at p width code) (codes "invalid Unicode character") p (pos code)
  pub control : (p width code : ℕ) → is_allowed code ≡ false
      → IsOffence (allowed_at p width code) (codes "control characters are not allowed") p (pos code)
  -- UTF-16: half of a unit, the second half of a pair without the first, the first without a second, and after it another unit
  pub half_unit : (order : ByteOrder) (bytes : List ℕ) (p : ℕ) → length bytes - p < 2
      → IsOffence (utf16_at order bytes p) (codes "incomplete UTF-16 character") p nothing
  pub second_half : (order : ByteOrder) (bytes : List ℕ) (p : ℕ) → 2 ≤ length bytes - p
      → is_low_surrogate (unit_at order bytes p) ≡ true
      → IsOffence (utf16_at order bytes p) (codes "unexpected low surrogate area") p
      (pos (unit_at order bytes p))
  pub half_pair : (order : ByteOrder) (bytes : List ℕ) (p : ℕ) → 2 ≤ length bytes - p
      → length bytes - p < 4 → is_low_surrogate (unit_at order bytes p) ≡ false
      → is_high_surrogate (unit_at order bytes p) ≡ true
      → IsOffence (utf16_at order bytes p) (codes "incomplete UTF-16 surrogate pair") p nothing
  pub other_half : (order : ByteOrder) (bytes : List ℕ) (p : ℕ) → 4 ≤ length bytes - p
      → is_low_surrogate (unit_at order bytes p) ≡ false
      → is_high_surrogate (unit_at order bytes p) ≡ true
      → is_low_surrogate (unit_at order bytes (p + 2)) ≡ false
      → IsOffence (utf16_at order bytes p) (codes "expected low surrogate area") (p + 2)
      (pos (unit_at order bytes (p + 2)))
