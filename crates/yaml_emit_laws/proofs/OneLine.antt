-- Texts without breaks: characters of a value that has none, and places on one line.
use Rattle.std.proofs.Common.{◌≡◌, ℕ, zero, suc, ◌+◌, ◌/◌, ◌%◌, ◌<◌, ◌≤◌, Bool, true, false, not, nat_lt, List, [], ◌∷◌, ◌++◌, length, refl, sym, ap, subst, ◌∙◌, inl, inr, arith, add-one, add-zero, encode_utf8, encode_utf8_all, IsUtf8, length-append, chars}
use Rattle.yaml_emit_laws.proofs.ScalarWords.{cases_lt, true≢false, and_parts, not-true, or_parts, nat_tests, encodes-chars, byte, break_of, line_at, breaks_at, any_below, line_more, Has, has, has_front, has_rest, is_break, is_one_line, encode_1, encode_2, encode_3, encode_4, low_end, first_end, second_end, third_end, NearIsFresh, ends_2, ends_1, bool_cases}
use Rattle.yaml_emit_layout.specs.scan_types.Classes.{has_break}
use Rattle.yaml_scan_laws.proofs.CutsWords.{break_byte}
use Rattle.yaml_emit_laws.proofs.Values.{encoded_front}

-- ---- a value without breaks

none_below : (n : ℕ) (p : ℕ → Bool) (k : ℕ) → any_below n p ≡ false → k < n → p k ≡ false
unfolding any_below
none_below zero p k h l = absurd (omega (arith, l))
none_below (suc n) p k h l =
    elim (cases_lt k n) [
      | inl m ↦ none_below n p k (or_parts (any_below n p) (p n) h).0 m
      | inr m ↦ let e : n ≡ k = omega (arith, l, m) in ap p (sym e) ∙ (or_parts (any_below n p) (p n) h).1
    ]

ls_break : nat_lt 0 (break_of 0xE2 0x80 0xA8) ≡ true
unfolding break_of
ls_break = refl

ps_break : nat_lt 0 (break_of 0xE2 0x80 0xA9) ≡ true
unfolding break_of
ps_break = refl

nel_here : (text : List ℕ) (p : ℕ) → Has text p (0xC2 ∷ 0x85 ∷ []) → breaks_at text p ≡ true
unfolding break_of
nel_here text p (a, (b, u)) = rw (a, b) refl

wide_here : (text : List ℕ) (p d : ℕ) → nat_lt 0 (break_of 0xE2 0x80 d) ≡ true
    → Has text p (0xE2 ∷ 0x80 ∷ d ∷ []) → breaks_at text p ≡ true
wide_here text p d h (a, (b, (e, u))) =
    let two : p + 2 ≡ p + 1 + 1 = omega arith in
    rw (two, a, b, e) h

-- where there is such a character, there is a break
break_here : (text : List ℕ) (p x : ℕ) → is_break x ≡ true → Has text p (encode_utf8 x)
    → breaks_at text p ≡ true
break_here text p x h at = grind (arith, nat_tests, encode_1, break_byte, nel_here, encode_utf8, encode_2, wide_here, ls_break, encode_3, ps_break)

some_bytes : (c : ℕ) → 0 < length (encode_utf8 c)
some_bytes c = let s = encoded_front c in subst (λ (bs : List ℕ). 0 < length bs) (sym s.is) (omega arith)

one_by : (value : List ℕ) (p : ℕ) (cs : List ℕ)
    → ((k : ℕ) → k < length value → breaks_at value k ≡ false) → Has value p (encode_utf8_all cs)
    → p + length (encode_utf8_all cs) ≤ length value → is_one_line cs ≡ true
one_by value p [] none h l = refl
one_by value p (x ∷ xs) none h l =
    let some = some_bytes x in
    let all : length (encode_utf8 x ++ encode_utf8_all xs) ≡ length (encode_utf8 x) + length (encode_utf8_all xs) = length-append (encode_utf8 x) (encode_utf8_all xs) in
    let here : is_break x ≡ false = bool_cases (is_break x) (λ t. absurd (true≢false (sym (break_here value p x t (has_front value p (encode_utf8 x) (encode_utf8_all xs) h)) ∙ none p (omega (arith, l, all, some))))) (λ f. f) in
    let more = one_by value (p + length (encode_utf8 x)) xs none (has_rest value p (encode_utf8 x) (encode_utf8_all xs) h) (omega (arith, l, all)) in
    rw (here, more) refl

pub no_breaks : (value : List ℕ) → IsUtf8 value → has_break value ≡ false
    → is_one_line (chars value) ≡ true
no_breaks value u h =
    let e = encodes-chars value u in
    let own : Has value 0 value = has value 0 value (λ k l. let z : 0 + k ≡ k = omega arith in ap (λ q. byte value q) z) in
    one_by value 0 (chars value) (λ k l. none_below (length value) (breaks_at value) k h l) (subst (λ (bs : List ℕ). Has value 0 bs) (sym e) own)
    (subst (λ (bs : List ℕ). 0 + length bs ≤ length value) (sym e) (omega arith))

-- ---- places on one line

two : (text : List ℕ) (p a b : ℕ) → 192 ≤ a → 128 ≤ b → b < 192 → (b ≡ 0x85 → a ≡ 0xC2 → ⊥)
    → Has text p (a ∷ b ∷ []) → line_at text (p + 1 + 1) ≡ line_at text p
two text p a b l n o z (h, (k, u)) =
    line_more text (p + 1) (ends_1 text p a b h k (λ x d. second_end x a b d n o l z)) ∙ line_more text p (rw h (first_end _ _ a _ l))

three : (text : List ℕ) (p a b d : ℕ) → 224 ≤ a → 128 ≤ b → b < 192 → 128 ≤ d → d < 192
    → (d ≡ 0xA8 → b ≡ 0x80 → a ≡ 0xE2 → ⊥) → (d ≡ 0xA9 → b ≡ 0x80 → a ≡ 0xE2 → ⊥)
    → Has text p (a ∷ b ∷ d ∷ []) → line_at text (p + 1 + 1 + 1) ≡ line_at text p
three text p a b d l n o q r x y (h, (k, (i, u))) =
    line_more text (p + 1 + 1) (ends_2 text p a b d h k i (λ w. third_end a b d w q r n o x y))
    ∙ two text p a b (omega (arith, l)) n o (λ e f. omega (arith, f, l)) (h, (k, tt))

four : (text : List ℕ) (p a b d g : ℕ) → 240 ≤ a → 128 ≤ b → b < 192 → 128 ≤ d → d < 192 → 128 ≤ g
    → g < 192 → Has text p (a ∷ b ∷ d ∷ g ∷ []) → line_at text (p + 1 + 1 + 1 + 1) ≡ line_at text p
four text p a b d g l n o q r s t (h, (k, (i, (j, u)))) =
    line_more text (p + 1 + 1 + 1) (ends_2 text (p + 1) b d g k i j (λ w. third_end b d g w s t q r (λ e f x. omega (arith, x, o)) (λ e f x. omega (arith, x, o))))
    ∙ three text p a b d (omega (arith, l)) n o q r (λ e f x. omega (arith, x, l)) (λ e f x. omega (arith, x, l)) (h, (k, (i, tt)))

at_far : (text : List ℕ) (p q r : ℕ) → q ≡ r → line_at text q ≡ line_at text p
    → line_at text r ≡ line_at text p
at_far text p q r e h = ap (λ x. line_at text x) (sym e) ∙ h

apart_break : (c k : ℕ) → is_break c ≡ false → is_break k ≡ true → c ≡ k → ⊥
apart_break c k h i e = true≢false (sym i ∙ ap (λ t. is_break t) (sym e) ∙ h)

line_char : (text : List ℕ) (p c : ℕ) → is_break c ≡ false → Has text p (encode_utf8 c)
    → line_at text (p + length (encode_utf8 c)) ≡ line_at text p
line_char text p c calm =
    let P : List ℕ → Type 0 = λ bs. Has text p bs → line_at text (p + length bs) ≡ line_at text p in
    let feed : c ≡ 10 → ⊥ = apart_break c 10 calm refl in
    let return : c ≡ 13 → ⊥ = apart_break c 13 calm refl in
    let next_line : c ≡ 0x85 → ⊥ = apart_break c 0x85 calm refl in
    let line : c ≡ 0x2028 → ⊥ = apart_break c 0x2028 calm refl in
    let paragraph : c ≡ 0x2029 → ⊥ = apart_break c 0x2029 calm refl in
    elim (cases_lt c 128) [
      | inl u ↦ subst P (sym (encode_1 c u)) (λ (h, t). line_more text p (rw h (low_end _ _ c _ u feed return)))
      | inr u ↦ elim (cases_lt c 2048) [
        | inl v ↦ subst P (sym (encode_2 c u v)) (λ h. at_far text p (p + 1 + 1) (p + 2) (omega arith)
            (two text p (192 + c / 64) (128 + c % 64) (omega arith) (omega arith) (omega arith) (λ e f. next_line (omega (arith, e, f))) h))
        | inr v ↦ elim (cases_lt c 65536) [
          | inl w ↦ subst P (sym (encode_3 c v w)) (λ h. at_far text p (p + 1 + 1 + 1) (p + 3) (omega arith)
              (three text p (224 + c / 4096) (128 + c / 64 % 64) (128 + c % 64) (omega arith) (omega arith) (omega arith) (omega arith) (omega arith)
              (λ e f g. line (omega (arith, e, f, g))) (λ e f g. paragraph (omega (arith, e, f, g))) h))
          | inr w ↦ subst P (sym (encode_4 c w)) (λ h. at_far text p (p + 1 + 1 + 1 + 1) (p + 4) (omega arith)
              (four text p (240 + c / 262144) (128 + c / 4096 % 64) (128 + c / 64 % 64) (128 + c % 64) (omega arith) (omega arith) (omega arith) (omega arith) (omega arith) (omega arith) (omega arith) h))
        ]
      ]
    ]

line_chars : (text : List ℕ) (p : ℕ) (xs : List ℕ) → is_one_line xs ≡ true
    → Has text p (encode_utf8_all xs)
    → line_at text (p + length (encode_utf8_all xs)) ≡ line_at text p
line_chars text p [] all h = rw add-zero refl
line_chars text p (x ∷ xs) all h =
    let here = not-true (is_break x) (and_parts (not (is_break x)) (is_one_line xs) all).0 in
    let more = (and_parts (not (is_break x)) (is_one_line xs) all).1 in
    let bs = encode_utf8 x in
    let cs = encode_utf8_all xs in
    let n : length (bs ++ cs) ≡ length bs + length cs = length-append bs cs in
    let far : p + length bs + length cs ≡ p + length (bs ++ cs) = omega (arith, n) in
    at_far text p (p + length bs + length cs) (p + length (bs ++ cs)) far
    (line_chars text (p + length bs) xs more (has_rest text p bs cs h) ∙ line_char text p x here (has_front text p bs cs h))

line_step : (text : List ℕ) (p : ℕ) → line_at text p ≤ line_at text (p + 1)
unfolding line_at
line_step text p = rw add-one (omega arith)

line_grows : (text : List ℕ) (p k : ℕ) → line_at text p ≤ line_at text (p + k)
line_grows text p zero = let z : p + 0 ≡ p = omega arith in rw z (omega arith)
line_grows text p (suc k) = grind (arith, nat_tests, line_step, line_grows text p k)

pub near_fresh : NearIsFresh
near_fresh a c n most near text p h k = grind (arith, nat_tests, encode_utf8_all, line_chars, has, line_grows)
