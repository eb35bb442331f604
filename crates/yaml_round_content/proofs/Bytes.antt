-- Bytes of pretty text are decoded to it.
use Rattle.std.proofs.Common.{◌≡◌, ℕ, ◌+◌, ◌/◌, ◌%◌, ◌<◌, Bool, true, false, ◌&&◌, nat_lt, if◌then◌else◌, List, [], ◌∷◌, ◌++◌, refl, arith, inl, inr, nat_eq}
use Rattle.yaml_round_content.proofs.PrettyWords.{cases_Bool, ltb-true, and_parts, ne_eqb, eqb-true, nat_tests, Item, letter, deep, shown, char_bytes, encode, start, nothing_more, documents_layout, stream_layout, encoding_of, mark_length, PrettyBytesDecode, nothing_allowed}
use Rattle.yaml_emit_laws.specs.scan_decode.Characters.{is_allowed}
use Rattle.yaml_emit_laws.specs.emit_layout.declared.Encoding.TheVariants.{Utf8}
use Rattle.yaml_round_content.proofs.CanonicalJoining.{decodes}
use Rattle.yaml_round_content.proofs.PrettyLayouts.{documents_tame}
use Rattle.yaml_round_content.proofs.ReadBackLayouts.{Allowed}
use Rattle.yaml_round_content.proofs.Marks.{Told}
use Rattle.yaml_round_content.proofs.PrettyMarks.{NoMark, Begins, begins_nothing, told_one, told_three, documents_heads}

off_by : (a b : ℕ) → b < a → nat_eq a b ≡ false
off_by a b h = ne_eqb a b (λ e. omega (arith, h, e))

above_by : (a b : ℕ) → a < b → nat_eq a b ≡ false
above_by a b h = ne_eqb a b (λ e. omega (arith, h, e))

test_one : (c : ℕ) → c < 128 → (bs : List ℕ) → Told (c ∷ bs)
test_one c h bs = told_one c bs (off_by 0xFF c (omega (arith, h))) (off_by 0xFE c (omega (arith, h))) (off_by 0xEF c (omega (arith, h)))

two_low : (c : ℕ) → c < 0x800 → 0xC0 + c / 0x40 < 0xE0
two_low c h = omega (arith, h)

three_low : (c : ℕ) → c < 0x1_0000 → 0xE0 + c / 0x1000 < 0xF0
three_low c h = omega (arith, h)

four_low : (c : ℕ) → c < 0x11_0000 → 0xF0 + c / 0x4_0000 < 0xF5
four_low c h = omega (arith, h)

four_high : (c : ℕ) → 0xEF < 0xF0 + c / 0x4_0000
four_high c = omega arith

not_all : (c : ℕ) → NoMark c
    → (nat_eq 0xEF (0xE0 + c / 0x1000)
    && (nat_eq 0xBB (0x80 + c / 0x40 % 0x40) && nat_eq 0xBF (0x80 + c % 0x40))) ≡ false
not_all c h =
    let x = nat_eq 0xEF (0xE0 + c / 0x1000) in
    let y = nat_eq 0xBB (0x80 + c / 0x40 % 0x40) in
    let z = nat_eq 0xBF (0x80 + c % 0x40) in
    elim (cases_Bool (x && (y && z))) [
      | inr e ↦ e
      | inl e ↦ absurd (h (omega (arith, (eqb-true _ _ (and_parts x (y && z) e).0), (eqb-true _ _ (and_parts y z (and_parts x (y && z) e).1).0), (eqb-true _ _ (and_parts y z (and_parts x (y && z) e).1).1))))
    ]

told_by : (c : ℕ) (bs : List ℕ) → c < 0x11_0000 → NoMark c → (p q r : Bool) → nat_lt c 0x80 ≡ p
    → nat_lt c 0x800 ≡ q → nat_lt c 0x1_0000 ≡ r
    → Told ((if p then c ∷ [] else if q then (0xC0 + c / 0x40) ∷ (0x80 + c % 0x40)
    ∷ [] else if r then (0xE0 + c / 0x1000) ∷ (0x80 + c / 0x40 % 0x40) ∷ (0x80 + c % 0x40)
    ∷ [] else (0xF0 + c / 0x4_0000) ∷ (0x80 + c / 0x1000 % 0x40) ∷ (0x80 + c / 0x40 % 0x40)
    ∷ (0x80 + c % 0x40) ∷ []) ++ bs)
told_by c bs least h true q r x y z = test_one c (ltb-true c 0x80 x) bs
told_by c bs least h false true r x y z =
    let b = two_low c (ltb-true c 0x800 y) in
    told_one (0xC0 + c / 0x40) _ (off_by 0xFF _ (omega (arith, b))) (off_by 0xFE _ (omega (arith, b))) (off_by 0xEF _ (omega (arith, b)))
told_by c bs least h false false true x y z =
    let b = three_low c (ltb-true c 0x1_0000 z) in
    told_three (0xE0 + c / 0x1000) (0x80 + c / 0x40 % 0x40) (0x80 + c % 0x40) bs (off_by 0xFF _ (omega (arith, b))) (off_by 0xFE _ (omega (arith, b)))
    (nat_eq 0xEF (0xE0 + c / 0x1000)) (nat_eq 0xBB (0x80 + c / 0x40 % 0x40)) (nat_eq 0xBF (0x80 + c % 0x40)) refl refl refl (not_all c h)
told_by c bs least h false false false x y z =
    let b = four_low c least in
    told_one (0xF0 + c / 0x4_0000) _ (off_by 0xFF _ (omega (arith, b))) (off_by 0xFE _ (omega (arith, b))) (above_by 0xEF _ (four_high c))

told_items : (t : List Item) → Allowed t → Begins t → Told (encode Utf8 t)
unfolding encode shown encoding_of mark_length char_bytes is_allowed
told_items [] a h = (refl, refl)
told_items (letter c ∷ t) (f, fs) h = told_by c (encode Utf8 t) (grind (arith, nat_tests)) h (nat_lt c 0x80) (nat_lt c 0x800) (nat_lt c 0x1_0000) refl refl refl
told_items (deep ∷ t) a h = told_items t a h

-- ---- joined

pub bytes_decode : PrettyBytesDecode
unfolding stream_layout
bytes_decode s ds writable h =
    let allowed = documents_tame s true false ds h start nothing_more (λ _. nothing_allowed) in
    decodes s.encoding (λ c. documents_layout s true false ds c nothing_more) allowed (told_items _ allowed (documents_heads s true false ds writable start nothing_more (λ _. begins_nothing)))
