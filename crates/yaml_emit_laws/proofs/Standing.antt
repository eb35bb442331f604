-- How the bytes of a plain scalar are read, one by one.
use Rattle.std.proofs.Common.{◌≡◌, ◌≢◌, ℕ, zero, suc, ◌+◌, ◌/◌, ◌%◌, ◌<◌, ◌≤◌, Bool, true, false, ◌&&◌, ◌==◌, nat_lt, List, [], ◌∷◌, ◌++◌, length, Result, Ok, refl, sym, ap, subst, ◌∙◌, inl, inr, arith, append_assoc, encode_utf8, ◌||◌, ◌⊎◌}
use Rattle.yaml_emit_laws.proofs.ScalarWords.{cases_Bool, cases_lt, true≢false, ne_eqb, and_parts, nat_tests, byte, break_width, ends_break, starts, column_at, is_blank, is_blank_or_end, break_of, Wrong, Piece, Kept, Blank, Break, is_bracket, after_white, leads, PlainSpot, Takes, spot_at, ends_at, is_nothing, with_piece, words_from, follows, words, Ends, leads-text, white-text, spot_kept, spot_break, spot_blank, spot_ends, within, Has, encode_1, encode_2, encode_3, encode_4, keeps, low_end, low_break, first_end, second_end, third_end, later_break, two_break, three_break, four_break, high_blank, ends_2, ends_1, in_line, feed_at, are_gap, has_break, space_parts, ends_plain}
use Rattle.yaml_scan_history.specs.Plain.{Words}
use Rattle.yaml_emit_laws.proofs.QuotedReading.{column_more}
use Rattle.yaml_scan_history.proofs.GapsRead.{cr_width, byte_cases}

-- ---- readings, from the right

-- pieces, the place after the last character, the place after the white, and whether that has a break
abbrev pub sealed : List Piece → ℕ → ℕ → Bool → Words
sealed [] e place broke = record { pieces = []; end = place; place = place; broke = broke }
sealed (x ∷ xs) e place broke = record { pieces = x ∷ xs; end = e; place = place; broke = broke }

-- what is read from a place on, with enough steps
pub record Read (flow : Bool) (level : ℕ) (text : List ℕ) (p : ℕ) (ps : List Piece) (e place : ℕ) (broke : Bool) : Type 0 where
  pub here : is_nothing ps ≡ true → e ≡ p
  pub at : p ≤ place
  pub inside : p ≤ length text → place ≤ length text
  pub gives : (n : ℕ) → place < n + p → words n flow level text p ≡ Ok (sealed ps e place broke)

pub words_next : (n : ℕ) (flow : Bool) (level : ℕ) (text : List ℕ) (p : ℕ) (s : PlainSpot)
    → spot_at flow level text p ≡ s
    → words (suc n) flow level text p ≡ follows (words n flow level text) p s
unfolding words
words_next n flow level text p s h = ap (λ x. follows (words n flow level text) p x) h

step_gives : (flow : Bool) (level : ℕ) (text : List ℕ) (p q place : ℕ) (x : Piece) (v w : Words)
    → spot_at flow level text p ≡ Takes x q → p < q → q ≤ place
    → ((n : ℕ) → place < n + q → words n flow level text q ≡ Ok v) → with_piece x q v ≡ w
    → (n : ℕ) → place < n + p → words n flow level text p ≡ Ok w
step_gives flow level text p q place x v w s more l g e zero room = absurd (omega arith)
step_gives flow level text p q place x v w s more l g e (suc n) room =
    words_next n flow level text p (Takes x q) s
    ∙ ap (λ (r : Result Words Wrong). words_from x q r) (g n (omega arith))
    ∙ ap (λ (y : Words). let r : Result Words Wrong = Ok y in r) e

pub kept_sealed : (bytes : List ℕ) (q e place : ℕ) (broke : Bool) (ps : List Piece)
    → (is_nothing ps ≡ true → e ≡ q)
    → with_piece (Kept bytes) q (sealed ps e place broke) ≡ sealed (Kept bytes ∷ ps) e place broke
kept_sealed bytes q e place broke [] h = let same = h refl in rw same refl
kept_sealed bytes q e place broke (x ∷ xs) h = refl

blank_sealed : (b q e place : ℕ) (broke : Bool) (ps : List Piece) → is_nothing ps ≡ false
    → with_piece (Blank b) q (sealed ps e place broke) ≡ sealed (Blank b ∷ ps) e place broke
blank_sealed b q e place broke [] h = absurd (true≢false h)
blank_sealed b q e place broke (x ∷ xs) h = refl

break_sealed : (bytes : List ℕ) (q e place : ℕ) (broke : Bool) (ps : List Piece)
    → is_nothing ps ≡ false
    → with_piece (Break bytes) q (sealed ps e place broke) ≡ sealed (Break bytes ∷ ps) e place broke
break_sealed bytes q e place broke [] h = absurd (true≢false h)
break_sealed bytes q e place broke (x ∷ xs) h = refl

-- a piece before what is read
read_piece : (flow : Bool) (level : ℕ) (text : List ℕ) (p q : ℕ) (x : Piece) (ps : List Piece)
    (e place : ℕ) (broke : Bool) → spot_at flow level text p ≡ Takes x q → p < q → q ≤ length text
    → with_piece x q (sealed ps e place broke) ≡ sealed (x ∷ ps) e place broke
    → Read flow level text q ps e place broke → Read flow level text p (x ∷ ps) e place broke
read_piece flow level text p q x ps e place broke s more i one r =
    let at = r.at in
    let inside = r.inside i in
    record { here = λ h. absurd (true≢false (sym h)); at = omega (arith, at, more); inside = λ l. inside; gives = step_gives flow level text p q place x (sealed ps e place broke) (sealed (x ∷ ps) e place broke) s more at r.gives one }

pub read_kept : (flow : Bool) (level : ℕ) (text : List ℕ) (p : ℕ) (bytes : List ℕ) (ps : List Piece)
    (e place : ℕ) (broke : Bool) → spot_at flow level text p ≡ Takes (Kept bytes) (p + 1)
    → p < length text
    → Read flow level text (p + 1) ps e place broke
    → Read flow level text p (Kept bytes ∷ ps) e place broke
read_kept flow level text p bytes ps e place broke s i r = read_piece flow level text p (p + 1) (Kept bytes) ps e place broke s (omega arith) (omega (arith, i)) (kept_sealed bytes (p + 1) e place broke ps r.here) r

pub read_blank : (flow : Bool) (level : ℕ) (text : List ℕ) (p b : ℕ) (ps : List Piece) (e place : ℕ)
    (broke : Bool) → spot_at flow level text p ≡ Takes (Blank b) (p + 1) → p < length text
    → is_nothing ps ≡ false
    → Read flow level text (p + 1) ps e place broke
    → Read flow level text p (Blank b ∷ ps) e place broke
read_blank flow level text p b ps e place broke s i some r = read_piece flow level text p (p + 1) (Blank b) ps e place broke s (omega arith) (omega (arith, i)) (blank_sealed b (p + 1) e place broke ps some) r

pub read_break : (flow : Bool) (level : ℕ) (text : List ℕ) (p q : ℕ) (bytes : List ℕ)
    (ps : List Piece) (e place : ℕ) (broke : Bool)
    → spot_at flow level text p ≡ Takes (Break bytes) q → p < q → q ≤ length text
    → is_nothing ps ≡ false
    → Read flow level text q ps e place broke
    → Read flow level text p (Break bytes ∷ ps) e place broke
read_break flow level text p q bytes ps e place broke s more i some r = read_piece flow level text p q (Break bytes) ps e place broke s more i (break_sealed bytes q e place broke ps some) r

-- ---- where a byte is

-- inside a line, not left of the level, after that character
pub record InLine (level : ℕ) (text : List ℕ) (p before : ℕ) : Type 0 where
  pub column : 0 < column_at text p
  pub inner : (leads text p && nat_lt (column_at text p) level) ≡ false
  pub white : after_white text p ≡ true → before ≡ 32

-- after a byte that isn't white
pub stand_behind : (level : ℕ) (text : List ℕ) (p x : ℕ) → is_blank (byte text p) ≡ false
    → ends_break text p ≡ false → 0 < column_at text (p + 1) → InLine level text (p + 1) x
stand_behind level text p x b e c = grind (arith, nat_tests, leads-text, white-text)

-- a byte that doesn't end the scalar
pub record Stays (flow : Bool) (text : List ℕ) (p : ℕ) : Type 0 where
  pub some : (byte text p == 0) ≡ false
  pub hash : (byte text p == 35 && after_white text p) ≡ false
  pub colon : (byte text p == 58 && is_blank_or_end text (p + 1)) ≡ false
  pub bracket : (flow && is_bracket (byte text p)) ≡ false
  pub odd : (flow && byte text p == 58) ≡ false

pub not_ended : (flow : Bool) (level : ℕ) (text : List ℕ) (p before : ℕ)
    → InLine level text p before
    → Stays flow text p → ends_at flow level text p ≡ false
unfolding ends_at
not_ended true level text p before s b = rw (b.some, in_line text p s.column, b.hash, b.colon) b.bracket
not_ended false level text p before s b = rw (b.some, in_line text p s.column, b.hash, b.colon) s.inner

no_odd : (a b c : Bool) → (a && b) ≡ false → (a && (b && c)) ≡ false
no_odd false b c h = refl
no_odd true false c h = refl
no_odd true true c h = absurd (true≢false h)

pub kept_spot : (flow : Bool) (level : ℕ) (text : List ℕ) (p b before : ℕ)
    → InLine level text p before → Stays flow text p → byte text p ≡ b → is_blank b ≡ false
    → break_width text p ≡ 0 → spot_at flow level text p ≡ Takes (Kept (b ∷ [])) (p + 1)
kept_spot flow level text p b before s k e blank width =
    spot_kept flow level text p width (ap (λ x. is_blank x) e ∙ blank) (not_ended flow level text p before s k) (no_odd flow (byte text p == 58) _ k.odd)
    ∙ ap (λ x. Takes (Kept (x ∷ [])) (p + 1)) e

-- ---- bytes that are kept

pub record Through (flow : Bool) (level : ℕ) (text : List ℕ) (p : ℕ) (qs : List Piece) (q : ℕ) : Type 0 where
  pub reads : (ps : List Piece) (e place : ℕ) (broke : Bool)
      → Read flow level text q ps e place broke → Read flow level text p (qs ++ ps) e place broke
  pub stand : InLine level text q 0

pub through_both : (flow : Bool) (level : ℕ) (text : List ℕ) (p q r : ℕ) (qs rs : List Piece)
    → Through flow level text p qs q → Through flow level text q rs r
    → Through flow level text p (qs ++ rs) r
through_both flow level text p q r qs rs a b = record {
  reads = λ ps e place broke x. subst (λ (t : List Piece). Read flow level text p t e place broke) (sym (append_assoc qs rs ps)) (a.reads (rs ++ ps) e place broke (b.reads ps e place broke x));
  stand = b.stand;
}

pub through_at : (flow : Bool) (level : ℕ) (text : List ℕ) (p q r : ℕ) (qs : List Piece) → q ≡ r
    → Through flow level text p qs q → Through flow level text p qs r
through_at flow level text p q r qs e t = subst (λ k. Through flow level text p qs k) e t

pub positive : (b : ℕ) → (b == 0) ≡ false → 0 < b
positive b h = grind (arith, nat_tests)

pub through_byte : (flow : Bool) (level : ℕ) (text : List ℕ) (p b before : ℕ)
    → InLine level text p before → Stays flow text p → byte text p ≡ b → is_blank b ≡ false
    → ends_break text p ≡ false → break_width text p ≡ 0
    → Through flow level text p (Kept (b ∷ []) ∷ []) (p + 1)
through_byte flow level text p b before s k e blank ends width = record {
  reads = λ ps f place broke r. read_kept flow level text p (b ∷ []) ps f place broke (kept_spot flow level text p b before s k e blank width) (within text p (positive (byte text p) k.some)) r;
  stand = stand_behind level text p 0 (ap (λ x. is_blank x) e ∙ blank) ends (column_more text p ends s.column);
}

-- ---- characters past ASCII

high_bracket : (b : ℕ) → 128 ≤ b → is_bracket b ≡ false
unfolding is_bracket
high_bracket b h = rw (ne_eqb b 44 (λ e. omega arith), ne_eqb b 91 (λ e. omega arith), ne_eqb b 93 (λ e. omega arith), ne_eqb b 123 (λ e. omega arith), ne_eqb b 125 (λ e. omega arith)) refl

high_stays : (flow : Bool) (text : List ℕ) (p : ℕ) → 128 ≤ byte text p → Stays flow text p
high_stays flow text p h = grind (arith, nat_tests, high_bracket)

high : (flow : Bool) (level : ℕ) (text : List ℕ) (p b before : ℕ) → InLine level text p before
    → byte text p ≡ b → 128 ≤ b → ends_break text p ≡ false → break_width text p ≡ 0
    → Through flow level text p (Kept (b ∷ []) ∷ []) (p + 1)
high flow level text p b before s e h ends width = through_byte flow level text p b before s (high_stays flow text p (rw e h)) e (high_blank b h) ends width

-- a character's first byte, and how the others are read
pub record CharAt (flow : Bool) (level : ℕ) (text : List ℕ) (p c : ℕ) (bytes : List ℕ) : Type 0 where
  pub first : ℕ
  pub rest : List ℕ
  pub is : bytes ≡ first ∷ rest
  pub here : byte text p ≡ first
  pub width : break_width text p ≡ 0
  pub ends : ends_break text p ≡ false
  pub starts : starts first ≡ true
  pub low : c < 128 → first ≡ c
  pub high : 128 ≤ c → 192 ≤ first
  pub tail : InLine level text (p + 1) 0
      → Through flow level text (p + 1) (keeps rest) (p + length bytes)

-- A byte that begins several starts a character.
pub high_starts : (b : ℕ) → 192 ≤ b → starts b ≡ true
high_starts b h = grind (arith, nat_tests)

-- A byte in ASCII starts a character.
pub low_starts : (b : ℕ) → b < 128 → starts b ≡ true
low_starts b h = grind (arith, nat_tests)

one_at : (flow : Bool) (level : ℕ) (text : List ℕ) (p c : ℕ) → c < 128 → c ≢ 10 → c ≢ 13
    → Has text p (c ∷ []) → CharAt flow level text p c (c ∷ [])
one_at flow level text p c l nf nr (h, t) = record {
  first = c;
  rest = [];
  is = refl;
  here = h;
  width = rw h (low_break c _ _ l nf nr);
  ends = rw h (low_end _ _ c _ l nf nr);
  starts = low_starts c l;
  low = λ k. refl;
  high = λ k. absurd (omega arith);
  tail = λ s. (record { reads = λ ps e place broke r. r; stand = s });
}

two_at : (flow : Bool) (level : ℕ) (text : List ℕ) (p c a b : ℕ) → 128 ≤ c → 192 ≤ a → a < 224
    → 128 ≤ b → b < 192 → (a ≡ 0xC2 → b ≡ 0x85 → ⊥) → Has text p (a ∷ b ∷ [])
    → CharAt flow level text p c (a ∷ b ∷ [])
two_at flow level text p c a b big l m n o z (h, (k, u)) = record {
  first = a;
  rest = b ∷ [];
  is = refl;
  here = h;
  width = rw (h, k) (two_break a b _ l m z);
  ends = rw h (first_end _ _ a _ l);
  starts = high_starts a l;
  low = λ k. absurd (omega arith);
  high = λ k. l;
  tail = λ s.
      let e : p + 1 + 1 ≡ p + 2 = omega arith in
      through_at flow level text (p + 1) (p + 1 + 1) (p + 2) _ e
      (high flow level text (p + 1) b 0 s k n (ends_1 text p a b h k (λ x d. second_end x a b d n o l (λ e f. z f e))) (rw k (later_break b _ _ n o)));
}

three_at : (flow : Bool) (level : ℕ) (text : List ℕ) (p c a b d : ℕ) → 128 ≤ c → 224 ≤ a → a < 240
    → 128 ≤ b → b < 192 → 128 ≤ d → d < 192
    → (a ≡ 0xE2 → b ≡ 0x80 → d ≡ 0xA8 → ⊥) → (a ≡ 0xE2 → b ≡ 0x80 → d ≡ 0xA9 → ⊥)
    → Has text p (a ∷ b ∷ d ∷ []) → CharAt flow level text p c (a ∷ b ∷ d ∷ [])
three_at flow level text p c a b d big l m n o q r x y (h, (k, (i, u))) = record {
  first = a;
  rest = b ∷ d ∷ [];
  is = refl;
  here = h;
  width = let w : p + 2 ≡ p + 1 + 1 = omega arith in rw (w, h, k, i) (three_break a b d l m x y);
  ends = rw h (first_end _ _ a _ (omega arith));
  starts = high_starts a (omega arith);
  low = λ k. absurd (omega arith);
  high = λ k. omega arith;
  tail = λ s.
      let e : p + 1 + 1 + 1 ≡ p + 3 = omega arith in
      let second = high flow level text (p + 1) b 0 s k n (ends_1 text p a b h k (λ v w. second_end v a b w n o (omega arith) (λ e f. omega arith))) (rw k (later_break b _ _ n o)) in
      let third = high flow level text (p + 1 + 1) d 0 second.stand i q (ends_2 text p a b d h k i (λ w. third_end a b d w q r n o (λ e f g. x g f e) (λ e f g. y g f e))) (rw i (later_break d _ _ q r)) in
      through_at flow level text (p + 1) (p + 1 + 1 + 1) (p + 3) _ e
      (through_both flow level text (p + 1) (p + 1 + 1) (p + 1 + 1 + 1) (keeps (b ∷ [])) (keeps (d ∷ [])) second third);
}

four_at : (flow : Bool) (level : ℕ) (text : List ℕ) (p c a b d g : ℕ) → 128 ≤ c → 240 ≤ a → 128 ≤ b
    → b < 192 → 128 ≤ d → d < 192 → 128 ≤ g → g < 192 → Has text p (a ∷ b ∷ d ∷ g ∷ [])
    → CharAt flow level text p c (a ∷ b ∷ d ∷ g ∷ [])
four_at flow level text p c a b d g big l n o q r s t (h, (k, (i, (j, u)))) = record {
  first = a;
  rest = b ∷ d ∷ g ∷ [];
  is = refl;
  here = h;
  width = rw h (four_break a _ _ l);
  ends = rw h (first_end _ _ a _ (omega arith));
  starts = high_starts a (omega arith);
  low = λ k. absurd (omega arith);
  high = λ k. omega arith;
  tail = λ st.
      let e : p + 1 + 1 + 1 + 1 ≡ p + 4 = omega arith in
      let second = high flow level text (p + 1) b 0 st k n (ends_1 text p a b h k (λ v w. second_end v a b w n o (omega arith) (λ e f. omega arith))) (rw k (later_break b _ _ n o)) in
      let third = high flow level text (p + 1 + 1) d 0 second.stand i q (ends_2 text p a b d h k i (λ w. third_end a b d w q r n o (λ e f x. omega arith) (λ e f x. omega arith))) (rw i (later_break d _ _ q r)) in
      let fourth = high flow level text (p + 1 + 1 + 1) g 0 third.stand j s (ends_2 text (p + 1) b d g k i j (λ w. third_end b d g w s t q r (λ e f x. omega arith) (λ e f x. omega arith))) (rw j (later_break g _ _ s t)) in
      through_at flow level text (p + 1) (p + 1 + 1 + 1 + 1) (p + 4) _ e
      (through_both flow level text (p + 1) (p + 1 + 1) (p + 1 + 1 + 1 + 1) (keeps (b ∷ [])) (keeps (d ∷ g ∷ [])) second
      (through_both flow level text (p + 1 + 1) (p + 1 + 1 + 1) (p + 1 + 1 + 1 + 1) (keeps (d ∷ [])) (keeps (g ∷ [])) third fourth));
}

-- what ends no line, and isn't past Unicode
pub record Plainly (c : ℕ) : Type 0 where
  pub no_feed : c ≢ 10
  pub no_return : c ≢ 13
  pub no_next_line : c ≢ 0x85
  pub no_line : c ≢ 0x2028
  pub no_paragraph : c ≢ 0x2029
  pub top : c < 1114112

pub char_at : (flow : Bool) (level : ℕ) (text : List ℕ) (p c : ℕ) → Plainly c
    → Has text p (encode_utf8 c) → CharAt flow level text p c (encode_utf8 c)
char_at flow level text p c s =
    let P : List ℕ → Type 0 = λ bs. Has text p bs → CharAt flow level text p c bs in
    let nf = s.no_feed in let nr = s.no_return in let nn = s.no_next_line in let nl = s.no_line in let np = s.no_paragraph in let top = s.top in
    elim (cases_lt c 128) [
      | inl u ↦ subst P (sym (encode_1 c u)) (one_at flow level text p c u nf nr)
      | inr u ↦ elim (cases_lt c 2048) [
        | inl v ↦ subst P (sym (encode_2 c u v))
            (two_at flow level text p c (192 + c / 64) (128 + c % 64) u (omega arith) (omega arith) (omega arith) (omega arith) (λ e f. omega arith))
        | inr v ↦ elim (cases_lt c 65536) [
          | inl w ↦ subst P (sym (encode_3 c v w))
              (three_at flow level text p c (224 + c / 4096) (128 + c / 64 % 64) (128 + c % 64) u (omega arith) (omega arith) (omega arith) (omega arith) (omega arith) (omega arith)
              (λ e f g. omega arith) (λ e f g. omega arith))
          | inr w ↦ subst P (sym (encode_4 c w))
              (four_at flow level text p c (240 + c / 262144) (128 + c / 4096 % 64) (128 + c / 64 % 64) (128 + c % 64) u (omega arith) (omega arith) (omega arith) (omega arith) (omega arith) (omega arith) (omega arith))
        ]
      ]
    ]

-- ==== The gap after a plain scalar, and the end that it comes before.

-- no word more: what is left ends at the place
abbrev pub none_to : ℕ → Bool → Words
none_to place broke = record { pieces = []; end = place; place = place; broke = broke }

-- what holds where a plain scalar ends
pub record Stops (flow : Bool) (level : ℕ) (text : List ℕ) (p : ℕ) : Type 0 where
  pub blank : is_blank (byte text p) ≡ false
  pub width : break_width text p ≡ 0
  pub ends : ends_at flow level text p ≡ true

pub stops : (flow : Bool) (level : ℕ) (text : List ℕ) (p : ℕ) → ends_plain flow level text p ≡ true
    → Stops flow level text p
unfolding ends_plain
stops flow level text p h = grind (arith, nat_tests)

pub no_tab : (b : ℕ) (x : Bool) → b ≡ 32 → (b == 9 && x) ≡ false
no_tab b x h = grind (arith, nat_tests)

pub space_blank : (b : ℕ) → b ≡ 32 → is_blank b ≡ true
space_blank b h = grind (arith, nat_tests)

tab_blank : (b : ℕ) → b ≡ 9 → is_blank b ≡ true
tab_blank b h = grind (arith, nat_tests)

tab_width : (b c d : ℕ) → b ≡ 9 → break_of b c d ≡ 0
unfolding break_of
tab_width b c d h = rw h refl

-- at a level of 0 no tab indents
unindented : (b c level : ℕ) (x : Bool) → level ≡ 0 → (b == 9 && (x && nat_lt c level)) ≡ false
unindented b c level x z = rw z (grind (arith, nat_tests))

with_blank : (n : ℕ) (flow : Bool) (level : ℕ) (text : List ℕ) (p e : ℕ) (broke : Bool)
    → break_width text p ≡ 0 → is_blank (byte text p) ≡ true
    → (byte text p == 9 && (leads text p && nat_lt (column_at text p) level)) ≡ false
    → words n flow level text (p + 1) ≡ Ok (none_to e broke)
    → words (suc n) flow level text p ≡ Ok (none_to e broke)
with_blank n flow level text p e broke none blank tab rest =
    words_next n flow level text p (Takes (Blank (byte text p)) (p + 1)) (spot_blank flow level text p none blank tab)
    ∙ ap (λ (r : Result Words Wrong). words_from (Blank (byte text p)) (p + 1) r) rest

with_width : (n : ℕ) (flow : Bool) (level : ℕ) (text : List ℕ) (p w e : ℕ) (broke : Bool)
    → break_width text p ≡ suc w → words n flow level text (p + suc w) ≡ Ok (none_to e broke)
    → words (suc n) flow level text p ≡ Ok (none_to e true)
with_width n flow level text p w e broke h rest =
    let some : 0 < break_width text p = omega (arith, h) in
    let q = p + break_width text p in
    let more : words n flow level text q ≡ Ok (none_to e broke) = ap (λ k. words n flow level text (p + k)) h ∙ rest in
    words_next n flow level text p (Takes (Break (feed_at text p)) q) (spot_break flow level text p some) ∙ ap (λ (r : Result Words Wrong). words_from (Break (feed_at text p)) q r) more

crlf_width : (d : ℕ) → break_of 13 10 d ≡ 2
unfolding break_of
crlf_width d = refl

no_feed : (b c d : ℕ) → break_of b c d ≡ 0 → b ≢ 10
unfolding break_of
no_feed b c d h = grind (arith, nat_tests)

-- a space, a break's byte, or a tab where no level is open
abbrev pub IsWhite : ℕ → ℕ → Type 0
IsWhite level b = (b ≡ 32) ⊎ (((b ≡ 9) × (level ≡ 0)) ⊎ ((b ≡ 10) ⊎ (b ≡ 13)))

abbrev pub AreWhite : ℕ → List ℕ → Type 0
AreWhite level [] = Unit {0}
AreWhite level (b ∷ bs) = IsWhite level b × AreWhite level bs

-- white of at most k bytes is taken
abbrev Reads : ℕ → Type 0
Reads k = (n : ℕ) (flow : Bool) (level : ℕ) (text : List ℕ) (p : ℕ) (gap : List ℕ) → length gap ≤ k → length gap < n → Has text p gap → AreWhite level gap → Stops flow level text (p + length gap)
    → words n flow level text p ≡ Ok (none_to (p + length gap) (has_break gap))

single : (k : ℕ) → Reads k → (n : ℕ) (flow : Bool) (level : ℕ) (text : List ℕ) (p : ℕ) (bs : List ℕ)
    → length bs ≤ k → length bs < n → break_width text p ≡ 1 → Has text (p + 1) bs
    → AreWhite level bs
    → Stops flow level text (p + 1 + length bs)
    → words (suc n) flow level text p ≡ Ok (none_to (p + 1 + length bs) true)
single k all n flow level text p bs few room width h are stop =
    with_width n flow level text p 0 (p + 1 + length bs) (has_break bs) width (all n flow level text (p + 1) bs few room h are stop)

returns : (k : ℕ) → Reads k
    → (n : ℕ) (flow : Bool) (level : ℕ) (text : List ℕ) (p : ℕ) (bs : List ℕ) → length bs ≤ k
    → length bs < n → byte text p ≡ 13 → Has text (p + 1) bs → AreWhite level bs
    → Stops flow level text (p + 1 + length bs)
    → words (suc n) flow level text p ≡ Ok (none_to (p + 1 + length bs) true)
returns k all n flow level text p [] few room e h are stop =
    let z : p + 1 + 0 ≡ p + 1 = omega arith in
    let here = subst (λ q. Stops flow level text q) z stop in
    let width : break_width text p ≡ 1 = rw e (cr_width (byte text (p + 1)) (byte text (p + 2)) (no_feed _ _ _ here.width)) in
    single k all n flow level text p [] few room width h are stop
returns k all n flow level text p (c ∷ cs) few room e (f, h) (white, back) stop =
    let two : p + 1 + 1 ≡ p + 2 = omega arith in
    let far : Has text (p + 2) cs = rw two at h in
    let end : p + 1 + suc (length cs) ≡ p + 2 + length cs = omega arith in
    elim (cases_Bool (c == 10)) [
      | inl s ↦
          let feed : c ≡ 10 = grind (arith, nat_tests) in
          let width : break_width text p ≡ 2 = rw (e, f, feed) (crlf_width (byte text (p + 2))) in
          let after = subst (λ q. Stops flow level text q) end stop in
          rw end (with_width n flow level text p 1 (p + 2 + length cs) (has_break cs) width (all n flow level text (p + 2) cs (omega (arith, few)) (omega (arith, room)) far back after))
      | inr s ↦
          let other : c ≢ 10 = λ x. true≢false (sym (ap (λ (b : ℕ). b == 10) x) ∙ s) in
          let width : break_width text p ≡ 1 = rw e (cr_width (byte text (p + 1)) (byte text (p + 2)) (λ x. other (sym f ∙ x))) in
          single k all n flow level text p (c ∷ cs) few room width (f, h) (white, back) stop
    ]

reads : (k : ℕ) → Reads k
unfolding break_of
reads k zero flow level text p gap few room h are stop = absurd (omega (arith, room))
reads k (suc n) flow level text p [] few room h are stop =
    let z : p + 0 ≡ p = omega arith in
    let here = subst (λ q. Stops flow level text q) z stop in
    rw z (words_next n flow level text p Ends (spot_ends flow level text p here.width here.blank here.ends))
reads zero (suc n) flow level text p (b ∷ bs) few room h are stop = absurd (omega (arith, few))
reads (suc k) (suc n) flow level text p (b ∷ bs) few room (e, h) (white, back) stop =
    let end : p + suc (length bs) ≡ p + 1 + length bs = omega arith in
    let after = subst (λ q. Stops flow level text q) end stop in
    let more = reads k n flow level text (p + 1) bs (omega (arith, few)) (omega (arith, room)) h back after in
    elim white [
      | inl s ↦
          let parts = space_parts (byte text p) (byte text (p + 1)) (byte text (p + 2)) (e ∙ s) in
          rw (s, end) (with_blank n flow level text p (p + 1 + length bs) (has_break bs) parts.1 (space_blank (byte text p) (e ∙ s)) (no_tab (byte text p) (leads text p && nat_lt (column_at text p) level) (e ∙ s)) more)
      | inr (inl t) ↦
          let s = t.0 in
          rw (s, end) (with_blank n flow level text p (p + 1 + length bs) (has_break bs) (tab_width (byte text p) (byte text (p + 1)) (byte text (p + 2)) (e ∙ s)) (tab_blank (byte text p) (e ∙ s)) (unindented (byte text p) (column_at text p) level (leads text p) t.1) more)
      | inr (inr (inl s)) ↦
          let width : break_width text p ≡ 1 = rw (e, s) refl in
          rw (s, end) (single k (reads k) n flow level text p bs (omega (arith, few)) (omega (arith, room)) width h back after)
      | inr (inr (inr s)) ↦ rw (s, end) (returns k (reads k) n flow level text p bs (omega (arith, few)) (omega (arith, room)) (e ∙ s) h back after)
    ]

-- White after a plain scalar is taken.
pub white_words : (n : ℕ) (flow : Bool) (level : ℕ) (text : List ℕ) (p : ℕ) (gap : List ℕ)
    → length gap < n → Has text p gap → AreWhite level gap → Stops flow level text (p + length gap)
    → words n flow level text p ≡ Ok (none_to (p + length gap) (has_break gap))
white_words n flow level text p gap room h are stop = reads (length gap) n flow level text p gap (omega arith) room h are stop

gap_white : (level : ℕ) (gap : List ℕ) → are_gap gap ≡ true → AreWhite level gap
gap_white level [] h = tt
gap_white level (b ∷ bs) h =
    let (front, back) = and_parts (b == 32 || (b == 10 || b == 13)) (are_gap bs) h in
    (one b (byte_cases b front), gap_white level bs back)
  where
    one : (b : ℕ) → (b ≡ 32) ⊎ ((b ≡ 10) ⊎ (b ≡ 13)) → IsWhite level b
    one b (inl s) = inl s
    one b (inr s) = inr (inr s)

pub gap_words : (n : ℕ) (flow : Bool) (level : ℕ) (text : List ℕ) (p : ℕ) (gap : List ℕ)
    → length gap < n → Has text p gap → are_gap gap ≡ true → Stops flow level text (p + length gap)
    → words n flow level text p ≡ Ok (none_to (p + length gap) (has_break gap))
gap_words n flow level text p gap room h are stop = white_words n flow level text p gap room h (gap_white level gap are) stop
