-- Bytes of quoted text: which end no line, and which digits spell a number.
use Rattle.std.proofs.Common.{◌≡◌, ◌≢◌, ℕ, suc, ◌+◌, ◌*◌, ◌<◌, ◌≤◌, true, false, ◌&&◌, ◌==◌, List, [], ◌∷◌, length, Option, Some, None, refl, sym, ap, subst, ◌∙◌, inl, inr, ◌⊎◌, arith, add-zero, option_and_then}
use Rattle.yaml_emit_laws.proofs.Shared.{cases_lt, ne_eqb, nat_tests, and-false, byte, break_of, ends_of, is_blank, hex_digit, hex_value, hex_len, simple_escape, number_behind}
use Rattle.yaml_scan_history.proofs.HasLemmas.{Has}
use Rattle.yaml_scan_laws.proofs.Pushing.{passes, stops}

-- ---- tests

pub same_test : (n : ℕ) → (n == n) ≡ true
same_test n = grind (arith, nat_tests)

-- ---- quotes

abbrev pub IsQuote : ℕ → Type 0
IsQuote q = (q ≡ 34) ⊎ (q ≡ 39)

pub no_quote : (q b : ℕ) → IsQuote q → b ≢ 34 → b ≢ 39 → (b == q) ≡ false
no_quote q b (inl e) m n = ne_eqb b q (λ f. m (f ∙ e))
no_quote q b (inr e) m n = ne_eqb b q (λ f. n (f ∙ e))

pub quote_some : (q : ℕ) → IsQuote q → (q == 0) ≡ false
quote_some q (inl e) = rw e refl
quote_some q (inr e) = rw e refl

pub no_slash : (q b : ℕ) → b ≢ 92 → (q == 34 && b == 92) ≡ false
no_slash q b n = ap (λ t. q == 34 && t) (ne_eqb b 92 n) ∙ and-false (q == 34)

-- ---- calm bytes

-- ASCII that ends no line
pub record Calm (b : ℕ) : Type 0 where
  pub low : b < 128
  pub no_feed : b ≢ 10
  pub no_return : b ≢ 13

abbrev pub AreCalm : List ℕ → Type 0
AreCalm [] = Unit {0}
AreCalm (b ∷ bs) = Calm b × AreCalm bs

-- Of ASCII only line feed and carriage return end a break.
pub low_end : (x y b c : ℕ) → b < 128 → b ≢ 10 → b ≢ 13 → ends_of x y b c ≡ false
unfolding ends_of
low_end x y b c h k l = grind (arith, nat_tests)

-- Of ASCII only line feed and carriage return begin a break.
pub low_break : (b c d : ℕ) → b < 128 → b ≢ 10 → b ≢ 13 → break_of b c d ≡ 0
unfolding break_of
low_break b c d h k l = grind (arith, nat_tests)

-- No break ends at a calm byte.
pub calm_end : (x y b c : ℕ) → Calm b → ends_of x y b c ≡ false
calm_end x y b c h = low_end x y b c h.low h.no_feed h.no_return

-- A calm byte begins no break.
pub calm_break : (b c d : ℕ) → Calm b → break_of b c d ≡ 0
calm_break b c d h = low_break b c d h.low h.no_feed h.no_return

-- Every byte above carriage return within ASCII is calm.
pub calm_from : (b : ℕ) → 13 < b → b < 128 → Calm b
calm_from b h l = record { low = l; no_feed = λ e. omega arith; no_return = λ e. omega arith }

-- ---- digits

no_high_digit : (d : ℕ) → 128 ≤ d → hex_digit d ≡ None
unfolding hex_digit
no_high_digit d h =
    rw (passes 48 d (omega arith), stops d 57 (omega arith), passes 65 d (omega arith), stops d 70 (omega arith), passes 97 d (omega arith), stops d 102 (omega arith)) refl

none_some : {A : Type 0} (r : Option A) (x : A) → r ≡ None → r ≡ Some x → ⊥
none_some r x e f = cc (sym e ∙ f)

pub digit_calm : (d v : ℕ) → hex_digit d ≡ Some v → Calm d
unfolding hex_digit
digit_calm d v h = grind (arith, nat_tests, none_some, no_high_digit)

pub hex_start : (text : List ℕ) (p : ℕ) → hex_value text p 0 ≡ Some 0
unfolding hex_value
hex_start text p = refl

-- digits after k others, and that they are calm
pub record Digits (text : List ℕ) (p k w : ℕ) (ds : List ℕ) : Type 0 where
  pub calm : AreCalm ds
  pub value : hex_value text p (k + length ds) ≡ Some w

next_digit : (text : List ℕ) (p k : ℕ) (ds : List ℕ) → Has text (p + k + 1) ds
    → Has text (p + suc k) ds
next_digit text p k ds h = let e : p + k + 1 ≡ p + suc k = omega arith in subst (λ q. Has text q ds) e h

more_digits : (text : List ℕ) (p k w d : ℕ) (ds : List ℕ) → Calm d → Digits text p (suc k) w ds
    → Digits text p k w (d ∷ ds)
more_digits text p k w d ds c r = grind (arith, nat_tests)

-- the first digit of a number, and the rest of it
record FirstDigit (v w d : ℕ) (ds : List ℕ) : Type 0 where
  low : ℕ
  is : hex_digit d ≡ Some low
  rest : number_behind (v * 16 + low) ds ≡ Some w

first_by : (v w d : ℕ) (ds : List ℕ) (r : Option ℕ) → hex_digit d ≡ r
    → option_and_then (λ low. number_behind (v * 16 + low) ds) r ≡ Some w → FirstDigit v w d ds
first_by v w d ds None e h = absurd (cc)
first_by v w d ds (Some low) e h = record { low = low; is = e; rest = h }

pub digits : (text : List ℕ) (p k v w : ℕ) (ds : List ℕ) → hex_value text p k ≡ Some v
    → Has text (p + k) ds → number_behind v ds ≡ Some w → Digits text p k w ds
unfolding hex_value number_behind
digits text p k v w [] e h n = record { calm = tt; value = rw add-zero (e ∙ ap (λ x. Some x) cc) }
digits text p k v w (d ∷ ds) e (b, h) n =
    let f = first_by v w d ds (hex_digit d) refl n in
    let here : hex_digit (byte text (p + k)) ≡ Some f.low = ap (λ x. hex_digit x) b ∙ f.is in
    more_digits text p k w d ds (digit_calm d f.low f.is)
    (digits text p (suc k) (v * 16 + f.low) w ds (rw (e, here) refl) (next_digit text p k ds h) f.rest)

-- ---- letters

no_name : (b : ℕ) → 128 ≤ b → simple_escape b ≡ None
unfolding simple_escape
no_name b h =
    rw (ne_eqb b 0x30 (λ e. omega arith), ne_eqb b 0x61 (λ e. omega arith), ne_eqb b 0x62 (λ e. omega arith), ne_eqb b 0x74 (λ e. omega arith), ne_eqb b 9 (λ e. omega arith), ne_eqb b 0x6E (λ e. omega arith), ne_eqb b 0x76 (λ e. omega arith), ne_eqb b 0x66 (λ e. omega arith), ne_eqb b 0x72 (λ e. omega arith), ne_eqb b 0x65 (λ e. omega arith), ne_eqb b 0x20 (λ e. omega arith), ne_eqb b 0x22 (λ e. omega arith), ne_eqb b 0x2F (λ e. omega arith), ne_eqb b 0x5C (λ e. omega arith), ne_eqb b 0x4E (λ e. omega arith), ne_eqb b 0x5F (λ e. omega arith), ne_eqb b 0x4C (λ e. omega arith), ne_eqb b 0x50 (λ e. omega arith)) refl

none_at : (k : ℕ) (bs : List ℕ) (b : ℕ) → simple_escape k ≡ None → simple_escape b ≡ Some bs → b ≢ k
none_at k bs b n h e = none_some (simple_escape b) bs (ap (λ x. simple_escape x) e ∙ n) h

-- a byte that names others
pub record Named (b : ℕ) : Type 0 where
  pub calm : Calm b
  pub number : hex_len b ≡ 0

no_number : (b : ℕ) → b ≢ 0x78 → b ≢ 0x75 → b ≢ 0x55 → hex_len b ≡ 0
unfolding hex_len
no_number b x u v = rw (ne_eqb b 0x78 x, ne_eqb b 0x75 u, ne_eqb b 0x55 v) refl

pub named_is : (b : ℕ) (bs : List ℕ) → simple_escape b ≡ Some bs → Named b
unfolding simple_escape
named_is b bs h = record {
  calm = record {
    low = elim (cases_lt b 128) [ inl l ↦ l | inr l ↦ absurd (none_some (simple_escape b) bs (no_name b l) h) ];
    no_feed = none_at 10 bs b refl h;
    no_return = none_at 13 bs b refl h;
  };
  number = no_number b (none_at 0x78 bs b refl h) (none_at 0x75 bs b refl h) (none_at 0x55 bs b refl h);
}

pub number_calm : (b : ℕ) → 0 < hex_len b → Calm b
number_calm b h = grind (arith, nat_tests, calm_from, no_number)

-- ---- bytes of a character past ASCII

-- No break ends at the first byte of a character of several.
pub first_end : (x y b c : ℕ) → 192 ≤ b → ends_of x y b c ≡ false
unfolding ends_of
first_end x y b c h = grind (arith, nat_tests)

-- A second byte ends a break only after 0xC2, as NEXT LINE.
pub second_end : (x y b c : ℕ) → 128 ≤ b → b < 192 → 192 ≤ y → (b ≡ 0x85 → y ≡ 0xC2 → ⊥)
    → ends_of x y b c ≡ false
unfolding ends_of
second_end x y b c h k l m = grind (arith, nat_tests)

-- A third byte ends a break only in LINE SEPARATOR and PARAGRAPH SEPARATOR.
pub third_end : (x y b c : ℕ) → 128 ≤ b → b < 192 → 128 ≤ y → y < 192
    → (b ≡ 0xA8 → y ≡ 0x80 → x ≡ 0xE2 → ⊥) → (b ≡ 0xA9 → y ≡ 0x80 → x ≡ 0xE2 → ⊥)
    → ends_of x y b c ≡ false
unfolding ends_of
third_end x y b c h k l m n o = grind (arith, nat_tests)

-- A later byte of a character begins no break.
pub later_break : (b c d : ℕ) → 128 ≤ b → b < 192 → break_of b c d ≡ 0
unfolding break_of
later_break b c d h k = grind (arith, nat_tests)

-- Of characters of two bytes only NEXT LINE is a break.
pub two_break : (b c d : ℕ) → 192 ≤ b → b < 224 → (b ≡ 0xC2 → c ≡ 0x85 → ⊥) → break_of b c d ≡ 0
unfolding break_of
two_break b c d h k m = grind (arith, nat_tests)

-- Of characters of three bytes only LINE SEPARATOR and PARAGRAPH SEPARATOR are breaks.
pub three_break : (b c d : ℕ) → 224 ≤ b → b < 240 → (b ≡ 0xE2 → c ≡ 0x80 → d ≡ 0xA8 → ⊥)
    → (b ≡ 0xE2 → c ≡ 0x80 → d ≡ 0xA9 → ⊥) → break_of b c d ≡ 0
unfolding break_of
three_break b c d h k n o = grind (arith, nat_tests)

-- The first byte of a character of four begins no break.
pub four_break : (b c d : ℕ) → 240 ≤ b → break_of b c d ≡ 0
unfolding break_of
four_break b c d h = grind (arith, nat_tests)

-- No byte beyond ASCII is white.
pub high_blank : (b : ℕ) → 128 ≤ b → is_blank b ≡ false
high_blank b h = grind (arith, nat_tests)
