-- What spells a text is decoded to it.
use Rattle.std.proofs.Common.{◌≡◌, ◌⊎◌, inl, inr, ℕ, suc, ◌+◌, ◌-◌, ◌*◌, ◌/◌, ◌%◌, ◌<◌, ◌≤◌, true, false, not, ◌&&◌, nat_lt, List, [], ◌∷◌, ◌++◌, drop, get_or, length, Result, Ok, Err, refl, sym, ap, ◌∙◌, arith, add-zero, append_assoc, append-nil, length-drop, length-append, get_or-drop, rules}
use Rattle.std.proofs.lemmas.Bool.{cases_lt}
use Rattle.std.proofs.lemmas.Bool.Decides.{nat_tests}
use Rattle.std.proofs.lemmas.List.{drop-drop, drop_at, take_all}
use Rattle.std.proofs.lemmas.List.Elements.{All-head, All-tail}
use Rattle.std.specs.List.{AllPass}
use Rattle.std.specs.Char.{encode_utf8}
use Rattle.std.specs.Char.Escape.{encode_utf16}
use Rattle.std.specs.Prelude.{take, Some}
use Rattle.yaml_scan_model.specs.declared.name.yaml_encoding_t.{yaml_encoding_t}
use Rattle.yaml_scan_model.specs.declared.name.yaml_encoding_t.TheVariants.{YAML_UTF8_ENCODING, YAML_UTF16LE_ENCODING, YAML_UTF16BE_ENCODING}
use Rattle.yaml_scan_types.specs.Marks.{byte}
use Rattle.yaml_scan_types.specs.Classes.{width_of}
use Rattle.yaml_scan_decode.specs.declared.offence.Offence.{Offence}
use Rattle.yaml_scan_decode.specs.declared.utf16.ByteOrder.{ByteOrder}
use Rattle.yaml_scan_decode.specs.declared.utf16.ByteOrder.TheVariants.{LowFirst, HighFirst}
use Rattle.std.specs.Result.{result_err}
use Rattle.yaml_scan_decode.specs.Encodings.{encoding_of, mark_length}
use Rattle.yaml_scan_decode.specs.Characters.{is_allowed, allowed_at, valued_at, least_code, is_trailing, sequence_of, utf8_code, leading_bits, utf8_of, utf8_at, unit_at, utf16_of, utf16_at, character_at}
use Rattle.yaml_scan_decode.specs.Decoding.{before, characters, in_utf8, decoded_characters, decoded_text, first_offence}
use Rattle.yaml_scan_decode.specs.Spelling.{unit_bytes, units_bytes, spelling, spellings, Spells}
use Rattle.yaml_scan_decode.specs.Steps.{outcome}
use Rattle.yaml_scan_decode.proofs.DecodeLemmas.{AreBytes, character_some}
use Rattle.yaml_scan_decode.proofs.SpellingLemmas.{characters_on, ended, turn, sound, utf8_text}

-- ---- the call
-- bytes in no 16-bit units are UTF-8
pub encoding_utf8 : (s : yaml_encoding_t) (bytes : List ℕ)
    → (encoding_of s bytes ≡ YAML_UTF16LE_ENCODING → ⊥)
    → (encoding_of s bytes ≡ YAML_UTF16BE_ENCODING → ⊥) → encoding_of s bytes ≡ YAML_UTF8_ENCODING
unfolding encoding_of
encoding_utf8 s bytes low high = grind arith

checked : (bytes : List ℕ) (p : ℕ) (r : Result (List ℕ) Offence) → AreBytes bytes
    → characters (length bytes) YAML_UTF8_ENCODING bytes p ≡ r → outcome r ≡ Ok tt
    → in_utf8 r ≡ Ok (drop p bytes)
checked bytes p r are is h = grind (arith, utf8_text)

-- checked UTF-8 is the text
pub checked_text : (s : yaml_encoding_t) (bytes : List ℕ) → AreBytes bytes
    → encoding_of s bytes ≡ YAML_UTF8_ENCODING
    → outcome (characters (length bytes) YAML_UTF8_ENCODING bytes (mark_length s bytes)) ≡ Ok tt
    → decoded_text s bytes ≡ Ok (drop (mark_length s bytes) bytes)
checked_text s bytes are e h = rw e (checked bytes (mark_length s bytes) _ are refl h)

offence_in : (r : Result (List ℕ) Offence) (o : Offence) → outcome r ≡ Err o → result_err r ≡ Some o
offence_in r o h = grind arith

-- where bytes in UTF-8 are read to an offence, it is their first one
pub checked_offence : (s : yaml_encoding_t) (bytes : List ℕ) (o : Offence)
    → encoding_of s bytes ≡ YAML_UTF8_ENCODING
    → outcome (characters (length bytes) YAML_UTF8_ENCODING bytes (mark_length s bytes)) ≡ Err o
    → first_offence s bytes ≡ Some o
checked_offence s bytes o e h = rw e (offence_in _ o h)

-- as many as are left are all that is left
pub take_rest : (l : List ℕ) (n : ℕ) → take (length l - n) (drop n l) ≡ drop n l
take_rest l n = take_all (length l - n) (drop n l) (omega (arith, length-drop n l))

-- ---- completeness
-- the bytes after a place, one by one
at_drop : (bytes : List ℕ) (p k : ℕ) (l : List ℕ) → drop p bytes ≡ l
    → byte bytes (p + k) ≡ get_or l k 0
at_drop bytes p k l h = sym (get_or-drop p bytes k 0) ∙ ap (λ (xs : List ℕ). get_or xs k 0) h

left_of : (bytes : List ℕ) (p : ℕ) (l : List ℕ) → drop p bytes ≡ l → length bytes - p ≡ length l
left_of bytes p l h = sym (length-drop p bytes) ∙ ap length h

-- a code in its shortest form, of an allowed character
pub valued_good : (p width code : ℕ) → least_code width ≤ code → is_allowed code ≡ true
    → valued_at p width code ≡ Ok record { code = code; width = width }
unfolding valued_at allowed_at is_allowed
valued_good p width code low allowed = grind (arith, nat_tests)

-- enough bytes are left, and the sequence spells the code
utf8_good : (left p b c d e width code : ℕ) → width_of b ≡ width → 0 < width → width ≤ left
    → (nat_lt 1 width && not (is_trailing c)) ≡ false
    → (nat_lt 2 width && not (is_trailing d)) ≡ false
    → (nat_lt 3 width && not (is_trailing e)) ≡ false
    → utf8_code width b c d e ≡ code → least_code width ≤ code → is_allowed code ≡ true
    → utf8_of left p b c d e ≡ Ok record { code = code; width = width }
unfolding utf8_of sequence_of
utf8_good left p b c d e width code w some enough s t u is low allowed = search (rules, valued_good)

-- a trailing byte is one
trails : (x : ℕ) → x < 64 → (true && not (is_trailing (128 + x))) ≡ false
trails x small = grind (arith, nat_tests)

good_1 : (left p b c d e : ℕ) → 1 ≤ left → b < 128 → is_allowed b ≡ true
    → utf8_of left p b c d e ≡ Ok record { code = b; width = 1 }
unfolding utf8_code leading_bits least_code
good_1 left p b c d e enough low allowed = utf8_good left p b c d e 1 b (unfold width_of in grind (arith, nat_tests)) (omega arith) enough refl refl refl refl (omega arith) allowed

good_2 : (left p x y d e code : ℕ) → 2 ≤ left → x < 32 → y < 64 → x * 64 + y ≡ code → 128 ≤ code
    → is_allowed code ≡ true
    → utf8_of left p (192 + x) (128 + y) d e ≡ Ok record { code = code; width = 2 }
unfolding utf8_code leading_bits least_code
good_2 left p x y d e code enough a b is low allowed =
    utf8_good left p (192 + x) (128 + y) d e 2 code (unfold width_of in grind (arith, nat_tests)) (omega arith) enough (trails y b) refl refl (omega arith) low allowed

good_3 : (left p x y z e code : ℕ) → 3 ≤ left → x < 16 → y < 64 → z < 64
    → (x * 64 + y) * 64 + z ≡ code → 2048 ≤ code → is_allowed code ≡ true
    → utf8_of left p (224 + x) (128 + y) (128 + z) e ≡ Ok record { code = code; width = 3 }
unfolding utf8_code leading_bits least_code
good_3 left p x y z e code enough a b c is low allowed =
    utf8_good left p (224 + x) (128 + y) (128 + z) e 3 code (unfold width_of in grind (arith, nat_tests)) (omega arith) enough (trails y b) (trails z c) refl (omega arith) low allowed

good_4 : (left p x y z w code : ℕ) → 4 ≤ left → x < 8 → y < 64 → z < 64 → w < 64
    → ((x * 64 + y) * 64 + z) * 64 + w ≡ code → 65536 ≤ code → is_allowed code ≡ true
    → utf8_of left p (240 + x) (128 + y) (128 + z) (128 + w) ≡ Ok record { code = code; width = 4 }
unfolding utf8_code leading_bits least_code
good_4 left p x y z w code enough a b c d is low allowed =
    utf8_good left p (240 + x) (128 + y) (128 + z) (128 + w) 4 code (unfold width_of in grind (arith, nat_tests)) (omega arith) enough (trails y b) (trails z c) (trails w d) (omega arith) low allowed

below_top : (c : ℕ) → is_allowed c ≡ true → c < 1114112
unfolding is_allowed
below_top c allowed = grind (arith, nat_tests)

-- what is where the bytes begin with a character's spelling
utf8_spelled : (bytes : List ℕ) (p c : ℕ) (rest : List ℕ) → is_allowed c ≡ true
    → drop p bytes ≡ encode_utf8 c ++ rest
    → utf8_at bytes p ≡ Ok record { code = c; width = length (encode_utf8 c) }
unfolding encode_utf8
utf8_spelled bytes p c rest allowed h = by (cases_lt c 128) (cases_lt c 2048) (cases_lt c 65536)
  where
    at : (l : List ℕ) → encode_utf8 c ≡ l
        → utf8_at bytes p ≡ utf8_of (length (l ++ rest)) p (get_or (l ++ rest) 0 0)
        (get_or (l ++ rest) 1 0) (get_or (l ++ rest) 2 0) (get_or (l ++ rest) 3 0)
    at l e =
        let there : drop p bytes ≡ l ++ rest = h ∙ ap (λ (xs : List ℕ). xs ++ rest) e in
        let first : byte bytes p ≡ get_or (l ++ rest) 0 0 = rw add-zero at (at_drop bytes p 0 _ there) in
        rw (left_of bytes p _ there, first, at_drop bytes p 1 _ there, at_drop bytes p 2 _ there, at_drop bytes p 3 _ there) refl

    by : (c < 128) ⊎ (128 ≤ c) → (c < 2048) ⊎ (2048 ≤ c) → (c < 65536) ⊎ (65536 ≤ c)
        → utf8_at bytes p ≡ Ok record { code = c; width = length (encode_utf8 c) }
    by (inl low) _ _ =
        let e : encode_utf8 c ≡ c ∷ [] = grind (arith, nat_tests) in
        rw (at _ e, e) (good_1 _ p c _ _ _ (omega arith) low allowed)
    by (inr from) (inl low) _ =
        let e : encode_utf8 c ≡ (192 + c / 64) ∷ (128 + c % 64) ∷ [] = grind (arith, nat_tests) in
        rw (at _ e, e) (good_2 _ p (c / 64) (c % 64) _ _ c (omega arith) (omega arith) (omega arith) (omega arith) from allowed)
    by (inr _) (inr from) (inl low) =
        let e : encode_utf8 c ≡ (224 + c / 4096) ∷ (128 + c / 64 % 64) ∷ (128 + c % 64) ∷ [] = grind (arith, nat_tests) in
        rw (at _ e, e) (good_3 _ p (c / 4096) (c / 64 % 64) (c % 64) _ c (omega arith) (omega arith) (omega arith) (omega arith) (omega arith) from allowed)
    by (inr _) (inr _) (inr from) =
        let top : c < 1114112 = below_top c allowed in
        let e : encode_utf8 c ≡ (240 + c / 262144) ∷ (128 + c / 4096 % 64) ∷ (128 + c / 64 % 64) ∷ (128 + c % 64) ∷ [] = grind (arith, nat_tests) in
        rw (at _ e, e) (good_4 _ p (c / 262144) (c / 4096 % 64) (c / 64 % 64) (c % 64) c (omega arith) (omega arith) (omega arith) (omega arith) (omega arith) (omega arith) from allowed)

-- the bytes from the place on begin with a unit's
record UnitThere (order : ByteOrder) (bytes : List ℕ) (p u : ℕ) (rest : List ℕ) : Type 0 where
  is : unit_at order bytes p ≡ u
  left : length bytes - p ≡ suc (suc (length rest))
  next : drop (p + 2) bytes ≡ rest

unit_read : (order : ByteOrder) (bytes : List ℕ) (p u : ℕ) (rest : List ℕ)
    → drop p bytes ≡ unit_bytes order u ++ rest → UnitThere order bytes p u rest
unfolding unit_at
unit_read LowFirst bytes p u rest h =
    record { is = rw (rw add-zero at (at_drop bytes p 0 _ h), at_drop bytes p 1 _ h) (omega arith); left = left_of bytes p _ h; next = sym (drop-drop 2 p bytes) ∙ ap (λ (l : List ℕ). drop 2 l) h }
unit_read HighFirst bytes p u rest h =
    record { is = rw (rw add-zero at (at_drop bytes p 0 _ h), at_drop bytes p 1 _ h) (omega arith); left = left_of bytes p _ h; next = sym (drop-drop 2 p bytes) ∙ ap (λ (l : List ℕ). drop 2 l) h }

length-unit : (order : ByteOrder) (u : ℕ) → length (unit_bytes order u) ≡ 2
length-unit order u = grind arith

lone_good : (left p u v : ℕ) → 2 ≤ left → is_allowed u ≡ true
    → utf16_of left p u v ≡ Ok record { code = u; width = 2 }
unfolding utf16_of allowed_at is_allowed
lone_good left p u v enough allowed = grind (arith, nat_tests)

pair_good : (left p x y c : ℕ) → 4 ≤ left → x < 1024 → y < 1024 → 65536 + x * 1024 + y ≡ c
    → is_allowed c ≡ true
    → utf16_of left p (0xD800 + x) (0xDC00 + y) ≡ Ok record { code = c; width = 4 }
unfolding utf16_of allowed_at
pair_good left p x y c enough a b is allowed = search rules

utf16_spelled : (order : ByteOrder) (bytes : List ℕ) (p c : ℕ) (rest : List ℕ) → is_allowed c ≡ true
    → drop p bytes ≡ units_bytes order (encode_utf16 c) ++ rest
    → utf16_at order bytes p ≡ Ok record
    { code = c; width = length (units_bytes order (encode_utf16 c)) }
utf16_spelled order bytes p c rest allowed h = by (cases_lt c 65536)
  where
    by : (c < 65536) ⊎ (65536 ≤ c)
        → utf16_at order bytes p ≡ Ok record
        { code = c; width = length (units_bytes order (encode_utf16 c)) }
    by (inl low) =
        let e : encode_utf16 c ≡ c ∷ [] = grind (arith, nat_tests) in
        let l : drop p bytes ≡ unit_bytes order c ++ rest = h ∙ ap (λ us. units_bytes order us ++ rest) e ∙ ap (λ (xs : List ℕ). xs ++ rest) (append-nil (unit_bytes order c)) in
        let u = unit_read order bytes p c rest l in
        let w : length (units_bytes order (encode_utf16 c)) ≡ 2 = rw (e, append-nil (unit_bytes order c)) (length-unit order c) in
        rw (w, u.is) (lone_good _ p c _ (omega (arith, u.left)) allowed)
    by (inr from) =
        let top : c < 1114112 = below_top c allowed in
        let e : encode_utf16 c ≡ (0xD800 + (c - 0x1_0000) / 0x400) ∷ (0xDC00 + (c - 0x1_0000) % 0x400) ∷ [] = grind (arith, nat_tests) in
        let second = unit_bytes order (0xDC00 + (c - 0x1_0000) % 0x400) in
        let l : drop p bytes ≡ unit_bytes order (0xD800 + (c - 0x1_0000) / 0x400) ++ (second ++ rest) =
        h ∙ ap (λ us. units_bytes order us ++ rest) e ∙ append_assoc _ _ rest ∙ ap (λ (xs : List ℕ). unit_bytes order (0xD800 + (c - 0x1_0000) / 0x400) ++ (xs ++ rest)) (append-nil second) in
        let u = unit_read order bytes p _ _ l in
        let v = unit_read order bytes (p + 2) _ rest u.next in
        let n : length (second ++ rest) ≡ 2 + length rest = simp (length-append, length-unit) in
        let w : length (units_bytes order (encode_utf16 c)) ≡ 4 = rw (e, append-nil second) (simp (length-append, length-unit)) in
        rw (w, u.is, v.is) (pair_good _ p ((c - 0x1_0000) / 0x400) ((c - 0x1_0000) % 0x400) c (omega (arith, u.left, n)) (omega arith) (omega arith) (omega arith) allowed)

pub character_spelled : (e : yaml_encoding_t) (bytes : List ℕ) (p c : ℕ) (rest : List ℕ)
    → is_allowed c ≡ true → drop p bytes ≡ spelling e c ++ rest
    → character_at e bytes p ≡ Ok record { code = c; width = length (spelling e c) }
character_spelled e bytes p c rest allowed h = grind (arith, utf16_spelled, utf8_spelled)

-- characters that are spelled are read
complete : (e : yaml_encoding_t) (bytes : List ℕ) (p : ℕ) (cs : List ℕ) → AllPass is_allowed cs
    → drop p bytes ≡ spellings e cs → characters_on e bytes p ≡ Ok cs
complete e bytes p [] allowed h = ended (length bytes) e bytes p (omega (arith, length-drop p bytes, ap length h))
complete e bytes p (c ∷ cs) allowed h =
    let first = All-head (λ x. is_allowed x ≡ true) c cs allowed in
    let stands = character_spelled e bytes p c (spellings e cs) first h in
    let some : 0 < length (spelling e c) = character_some e bytes p record { code = c; width = length (spelling e c) } stands in
    let all : length bytes - p ≡ length (spelling e c) + length (spellings e cs) = sym (length-drop p bytes) ∙ ap length h ∙ length-append (spelling e c) (spellings e cs) in
    let next : drop (p + length (spelling e c)) bytes ≡ spellings e cs =
    sym (drop-drop (length (spelling e c)) p bytes) ∙ ap (λ (l : List ℕ). drop (length (spelling e c)) l) h ∙ drop_at (spelling e c) (spellings e cs) _ refl in
    turn e bytes p record { code = c; width = length (spelling e c) } (omega arith) stands
    ∙ ap (before c) (complete e bytes (p + length (spelling e c)) cs (All-tail (λ x. is_allowed x ≡ true) c cs allowed) next)

-- the law: bytes are decoded to a text exactly where they spell it
pub spells_decoded : (s : yaml_encoding_t) (bytes text : List ℕ) → Spells s bytes text
    → decoded_text s bytes ≡ Ok text
spells_decoded s bytes text k = grind (arith, complete)

spelled_by : (s : yaml_encoding_t) (bytes text : List ℕ) (r : Result (List ℕ) Offence)
    → AreBytes bytes → decoded_characters s bytes ≡ r → in_utf8 r ≡ Ok text → Spells s bytes text
spelled_by s bytes text (Err o) are is h = cc
spelled_by s bytes text (Ok cs) are is h =
    let k = sound (length bytes) (encoding_of s bytes) bytes (mark_length s bytes) cs are (omega arith) is in
    record { characters = cs; allowed = k.0; spelled = k.1; is = cc }

-- the bytes spell the text that is decoded
pub decoded_spells : (s : yaml_encoding_t) (bytes text : List ℕ) → AreBytes bytes
    → decoded_text s bytes ≡ Ok text → Spells s bytes text
decoded_spells s bytes text are h = spelled_by s bytes text (decoded_characters s bytes) are refl h

offended : (s : yaml_encoding_t) (bytes : List ℕ) (r : Result (List ℕ) Offence) (o : Offence)
    (text : List ℕ) → result_err r ≡ Some o → in_utf8 r ≡ Ok text → ⊥
offended s bytes r o text e h = grind arith

-- bytes with an offence spell no text
pub offence_unspelled : (s : yaml_encoding_t) (bytes : List ℕ) (o : Offence)
    → first_offence s bytes ≡ Some o → (text : List ℕ) → Spells s bytes text → ⊥
offence_unspelled s bytes o e text k = offended s bytes (decoded_characters s bytes) o text e (spells_decoded s bytes text k)
