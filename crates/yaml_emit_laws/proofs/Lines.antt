-- Lines and breaks that a layout writes inside a scalar.
use Rattle.std.proofs.Common.{◌≡◌, ℕ, zero, suc, ◌+◌, Bool, true, false, not, ◌&&◌, ◌||◌, ◌==◌, List, [], ◌∷◌, ◌++◌, replicate, refl, sym, subst, ◌∙◌, inl, inr, ◌⊎◌, arith, append-nil, encode_utf8, encode_utf8_all, true≢false, eqb-true, ne_eqb}
use Rattle.yaml_emit_laws.proofs.ScalarWords.{nat_tests, and-false, Cursor, LineBreak, is_break, Rest, line, indent_to, is_printable, value_break, in_front, break_text, LineEnd, line_separator, paragraph_separator, end_bytes, end_means, is_return, is_feed_end, encode_1, encode_3, cond_false, low_encodes, end_of, spaced_by, new_line_is, blanks_are, after_blanks, line_start}
use Rattle.yaml_scan_history.specs.Pieces.{gap}

-- ---- lines

-- Each blank moves the column on by one.
pub blanks_column : (n : ℕ) (c : Cursor) → (after_blanks n c).column ≡ c.column + n
blanks_column zero c = omega arith
blanks_column (suc n) c = grind (arith, nat_tests, blanks_column n (spaced_by c))

-- White space leaves a block scalar's kept breaks as they were.
pub blanks_kept : (n : ℕ) (c : Cursor) → (after_blanks n c).kept ≡ c.kept
blanks_kept zero c = refl
blanks_kept (suc n) c = blanks_kept n (spaced_by c)

indent_is : (n : ℕ) (c : Cursor) (rest : Rest) → c.column ≡ 0
    → indent_to n c rest ≡ in_front (replicate n 32) (rest (after_blanks n c))
indent_is n c rest e = grind (arith, nat_tests, blanks_are)

-- where a line starts
pub record Starts (c : Cursor) : Type 0 where
  pub column : c.column ≡ 0
  pub white : c.white ≡ true
  pub bare : c.bare ≡ true

unbroken : (a b w x : Bool) → a ≡ true → b ≡ false → w ≡ true → (not a || b || (x && not w)) ≡ false
unbroken a b w x e f g = grind (arith, nat_tests)

-- there it is spaces alone
pub start_is : (b : LineBreak) (n : ℕ) (c : Cursor) (rest : Rest) → Starts c
    → line b n c rest ≡ in_front (replicate n 32) (rest (after_blanks n c))
unfolding line
start_is b n c rest s = grind (arith, nat_tests, unbroken, cond_false, indent_is)

-- ---- breaks of a value

-- a break that is printable: LF, LS or PS
pub record BreakOf (b : LineBreak) (x : ℕ) : Type 0 where
  pub end : LineEnd
  pub letters : List ℕ
  pub writes : (c : Cursor) (rest : Rest)
      → value_break b x c rest ≡ in_front letters (rest (line_start c))
  pub bytes : encode_utf8_all letters ≡ end_bytes end
  pub means : end_means end ≡ encode_utf8 x
  pub fits : (is_return end && is_feed_end (end_of b)) ≡ false
  pub apart : (e : LineEnd) → (is_return e && is_feed_end (end_of b)) ≡ false
      → (is_return e && is_feed_end end) ≡ false
  -- one that doesn't read as LF stays before others
  pub stays : (x == 10) ≡ false → (ts : List ℕ) → gap (end_means end) ts ≡ end_means end ++ ts

pub own_fits : (b : LineBreak) → (is_return (end_of b) && is_feed_end (end_of b)) ≡ false
own_fits b = grind (arith, nat_tests)

pub own_means : (b : LineBreak) → end_means (end_of b) ≡ 10 ∷ []
own_means b = grind (arith, nat_tests)

pub own_bytes : (b : LineBreak) → encode_utf8_all (break_text b) ≡ end_bytes (end_of b)
own_bytes b = grind (arith, nat_tests, low_encodes)

lf_is : (b : LineBreak) → BreakOf b 10
lf_is b = record {
  end = end_of b;
  letters = break_text b;
  writes = λ c rest. new_line_is b c rest;
  bytes = own_bytes b;
  means = own_means b ∙ sym (encode_1 10 (omega arith));
  fits = own_fits b;
  apart = λ e f. f;
  stays = λ e ts. absurd (true≢false e);
}

ls_encodes : encode_utf8 0x2028 ≡ 0xE2 ∷ 0x80 ∷ 0xA8 ∷ []
ls_encodes = encode_3 0x2028 (omega arith) (omega arith)

ps_encodes : encode_utf8 0x2029 ≡ 0xE2 ∷ 0x80 ∷ 0xA9 ∷ []
ps_encodes = encode_3 0x2029 (omega arith) (omega arith)

gap_stays : (d : ℕ) (ts : List ℕ) → gap (0xE2 ∷ 0x80 ∷ d ∷ []) ts ≡ (0xE2 ∷ 0x80 ∷ d ∷ []) ++ ts
gap_stays d ts = grind (arith, nat_tests)

ls_is : (b : LineBreak) → BreakOf b 0x2028
unfolding in_front
ls_is b = record {
  end = line_separator;
  letters = 0x2028 ∷ [];
  writes = λ c rest. refl;
  bytes = append-nil (encode_utf8 0x2028) ∙ ls_encodes;
  means = sym ls_encodes;
  fits = refl;
  apart = λ e f. and-false (is_return e);
  stays = λ e ts. gap_stays 0xA8 ts;
}

ps_is : (b : LineBreak) → BreakOf b 0x2029
unfolding in_front
ps_is b = record {
  end = paragraph_separator;
  letters = 0x2029 ∷ [];
  writes = λ c rest. refl;
  bytes = append-nil (encode_utf8 0x2029) ∙ ps_encodes;
  means = sym ps_encodes;
  fits = refl;
  apart = λ e f. and-false (is_return e);
  stays = λ e ts. gap_stays 0xA9 ts;
}

which_break : (x : ℕ) → is_break x ≡ true → is_printable x ≡ true
    → (x ≡ 10) ⊎ ((x ≡ 0x2028) ⊎ (x ≡ 0x2029))
which_break x h p = grind (arith, nat_tests, eqb-true, ne_eqb)

pub break_is : (b : LineBreak) (x : ℕ) → is_break x ≡ true → is_printable x ≡ true → BreakOf b x
break_is b x h p =
    elim (which_break x h p) [
      | inl e ↦ subst (λ k. BreakOf b k) (sym e) (lf_is b)
      | inr (inl e) ↦ subst (λ k. BreakOf b k) (sym e) (ls_is b)
      | inr (inr e) ↦ subst (λ k. BreakOf b k) (sym e) (ps_is b)
    ]
