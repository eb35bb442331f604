-- What is written for a character inside a plain or single quoted scalar is a part of a spelling.
use Rattle.std.proofs.Common.{◌≡◌, ℕ, ◌+◌, ◌<◌, Bool, true, false, ◌&&◌, ◌==◌, List, [], ◌∷◌, ◌++◌, replicate, refl, sym, ap, ◌∙◌, inl, inr, ◌⊎◌, arith, append-nil, encode_utf8, encode_utf8_all}
use Rattle.yaml_emit_laws.proofs.ScalarWords.{true≢false, lt-ltb, eqb-true, and_parts, eqb-false, encode_ascii, Cursor, LineBreak, Lf, letter, is_break, Layout, Rest, when, char, line, is_past, Page, is_printable, first, cuts_at, text_char, in_front, break_text, may_turn, QuotedPart, raw, doubled, fold, may_be_raw, MayStand, spelled, meant, is_raw_blank, is_turn, may_follow, cond_true, cond_false, low_encodes, end_of, fold_bytes, fold_means, space_encodes, moved_by, blank_follows, fold_follows, other_follows, line_is, bool_cases, after_blanks, line_start, cut_needs, not_start}
use lib.Utf8.{scalar}
use Rattle.yaml_emit_laws.proofs.Lines.{blanks_column, blanks_kept}
use Rattle.yaml_emit_laws.proofs.PlainParts.{IsOne, is_plain_end}
use Rattle.yaml_emit_laws.proofs.BlockValues.{unblank, not_printed}

-- ---- characters

-- what a character of such a value is, by the one after it
pub record Shows (x next : ℕ) : Type 0 where
  pub scalar : scalar x ≡ true
  pub printable : is_printable x ≡ true
  -- no space is before a break or after one
  pub space : (x == 32 && is_break next) ≡ false
  pub broken : (is_break x && next == 32) ≡ false

abbrev pub AllShow : List ℕ → Type 0
AllShow [] = Unit {0}
AllShow (x ∷ xs) = Shows x (first xs) × AllShow xs

-- the quote, or none
abbrev pub quote_byte : Bool → ℕ
quote_byte true = 39
quote_byte false = 0

raw_may : (quote : Bool) (x : ℕ) → scalar x ≡ true → is_printable x ≡ true → is_break x ≡ false
    → (quote && x == 39) ≡ false → may_be_raw (quote_byte quote) x ≡ true
raw_may quote x s p inside q = grind (arith, not_printed)

-- ---- a character is written as a part

abbrev pub seat : Page → Bool → ℕ → ℕ → List ℕ → Layout
seat page quote before x xs = text_char page quote (cuts_at page before x xs) x

cut_is : (page : Page) (quote b : Bool) (x : ℕ) (c : Cursor) (rest : Rest) → b ≡ true
    → is_past page.width c ≡ true
    → text_char page quote b x c rest ≡ line page.line_break page.indentation c rest
cut_is page quote true x c rest e p = cond_true (is_past page.width c) (line page.line_break page.indentation c rest) (char x c rest) p
cut_is page quote false x c rest e p = absurd (true≢false (sym e))

uncut_is : (page : Page) (quote b : Bool) (x : ℕ) (c : Cursor) (rest : Rest)
    → (b && is_past page.width c) ≡ false → (quote && x == 39) ≡ false
    → text_char page quote b x c rest ≡ char x c rest
uncut_is page quote true x c rest e q = cond_false (is_past page.width c) (line page.line_break page.indentation c rest) (char x c rest) e
uncut_is page quote false x c rest e q = ap (λ t. when t (char 39) c (λ d. char x d rest)) q

doubled_is : (page : Page) (quote b : Bool) (x : ℕ) (c : Cursor) (rest : Rest) → b ≡ false
    → (quote && x == 39) ≡ true
    → text_char page quote b x c rest ≡ letter 39 ∷ letter x ∷ rest (moved_by (moved_by c))
doubled_is page quote true x c rest e q = absurd (true≢false e)
doubled_is page quote false x c rest e q = ap (λ t. when t (char 39) c (λ d. char x d rest)) q

pub record Step (page : Page) (quote : Bool) (before x : ℕ) (xs : List ℕ) (c : Cursor) (last : QuotedPart) : Type 0 where
  pub part : QuotedPart
  pub letters : List ℕ
  pub after : Cursor
  pub stand : MayStand (quote_byte quote) part
  pub follow : may_follow last part ≡ true
  pub text : (rest : Rest) → seat page quote before x xs c rest ≡ in_front letters (rest after)
  pub bytes : encode_utf8_all letters ≡ spelled part
  pub means : meant part ≡ encode_utf8 x
  pub blank : is_raw_blank part ≡ true → x ≡ 32
  pub turn : is_turn part ≡ true → (x ≡ 32) × ((first xs == 32) ≡ false)
  pub bare : (x == 32) ≡ false → after.bare ≡ false
  pub one : quote ≡ false → IsOne page.indentation part x
  pub column : after.column ≡ 0 → ⊥
  pub kept : after.kept ≡ c.kept

-- how the last part is related to the character before
pub record Behind (before : ℕ) (c : Cursor) (last : QuotedPart) (value : List ℕ) : Type 0 where
  pub blank : is_raw_blank last ≡ true → before ≡ 32
  pub turn : is_turn last ≡ true
      → ((before ≡ 32) ⊎ (is_break before ≡ true)) × ((first value == 32) ≡ false)
  pub bare : (before == 32) ≡ false → is_break before ≡ false → c.bare ≡ false

own_plain : (b : LineBreak) → is_plain_end (end_of b) ≡ true
own_plain Lf = refl
own_plain _ = refl

lined_column : (n : ℕ) (c : Cursor) → 0 < n → (after_blanks n (line_start c)).column ≡ 0 → ⊥
lined_column n c some z = let e = blanks_column n (line_start c) in omega (arith, some, z, e)

step_cut : (page : Page) (quote : Bool) (before x : ℕ) (xs : List ℕ) (c : Cursor)
    (last : QuotedPart) → (page.cuts ≡ true → 0 < page.indentation) → Shows x (first xs)
    → Behind before c last (x ∷ xs) → is_break before ≡ false → cuts_at page before x xs ≡ true
    → is_past page.width c ≡ true
    → Step page quote before x xs c last
unfolding may_turn
step_cut page quote before x xs c last deep s h inside m p =
    let needs = cut_needs page before x xs m in
    let n = page.indentation in
    let b = page.line_break in
    let apart_from = eqb-false before 32 needs.behind in
    let no_turn : is_turn last ≡ false = bool_cases (is_turn last) (λ t. elim ((h.turn t).0) [ inl e ↦ absurd (apart_from e) | inr e ↦ absurd (true≢false (sym e ∙ inside)) ]) (λ f. f) in
    record {
      part = fold (record { end = end_of b; spaces = n }) [];
      letters = break_text b ++ replicate n 32;
      after = after_blanks n (line_start c);
      stand = (lt-ltb 0 n (deep needs.cuts));
      follow = fold_follows last (fold (record { end = end_of page.line_break; spaces = page.indentation }) []) refl refl (bool_cases (is_raw_blank last) (λ t. absurd (apart_from (h.blank t))) (λ f. f)) no_turn;
      text = λ rest. cut_is page quote (cuts_at page before x xs) x c rest m p ∙ line_is b n c rest (h.bare needs.behind inside);
      bytes = fold_bytes b n;
      means = fold_means b n ∙ sym space_encodes ∙ ap (λ k. encode_utf8 k) (sym needs.space);
      blank = λ t. absurd (true≢false (sym t));
      turn = λ t. (needs.space, needs.next);
      bare = λ f. absurd (true≢false (sym (ap (λ k. k == 32) needs.space) ∙ f));
      one = λ f. (needs.space, refl, refl, own_plain b);
      column = lined_column n c (deep needs.cuts);
      kept = blanks_kept n (line_start c);
    }

step_doubled : (page : Page) (quote : Bool) (before x : ℕ) (xs : List ℕ) (c : Cursor)
    (last : QuotedPart) → (quote && x == 39) ≡ true → cuts_at page before x xs ≡ false
    → Step page quote before x xs c last
unfolding in_front
step_doubled page quote before x xs c last q m =
    let same = eqb-true x 39 (and_parts quote (x == 39) q).1 in
    let on = (and_parts quote (x == 39) q).0 in
    let small : encode_utf8 39 ≡ 39 ∷ [] = encode_ascii 39 (omega arith) in
    record {
      part = doubled;
      letters = 39 ∷ x ∷ [];
      after = moved_by (moved_by c);
      stand = ap (λ b. quote_byte b) on;
      follow = other_follows last doubled refl refl;
      text = λ rest. doubled_is page quote (cuts_at page before x xs) x c rest m q;
      bytes = ap (λ k. encode_utf8_all (39 ∷ k ∷ [])) same ∙ low_encodes (39 ∷ 39 ∷ []) (omega arith, (omega arith, tt));
      means = sym small ∙ ap (λ k. encode_utf8 k) (sym same);
      blank = λ t. absurd (true≢false (sym t));
      turn = λ t. absurd (true≢false (sym t));
      bare = λ f. refl;
      one = λ f. absurd (true≢false (sym on ∙ f));
      column = not_start (c.column + 1);
      kept = refl;
    }

step_raw : (page : Page) (quote : Bool) (before x : ℕ) (xs : List ℕ) (c : Cursor)
    (last : QuotedPart) → Shows x (first xs) → is_break x ≡ false → Behind before c last (x ∷ xs)
    → (quote && x == 39) ≡ false → (cuts_at page before x xs && is_past page.width c) ≡ false
    → Step page quote before x xs c last
unfolding in_front
step_raw page quote before x xs c last s inside h q m = record {
  part = raw x;
  letters = x ∷ [];
  after = moved_by c;
  stand = raw_may quote x s.scalar s.printable inside q;
  follow = bool_cases (x == 32)
      (λ t. blank_follows last (raw x) refl (bool_cases (is_turn last) (λ k. absurd (true≢false (sym t ∙ (h.turn k).1))) (λ f. f)))
      (λ f. other_follows last (raw x) refl (unblank x s.printable f));
  text = λ rest. uncut_is page quote (cuts_at page before x xs) x c rest m q;
  bytes = append-nil (encode_utf8 x);
  means = refl;
  blank = λ t. bool_cases (x == 32) (λ e. eqb-true x 32 e) (λ f. absurd (true≢false (sym t ∙ unblank x s.printable f)));
  turn = λ t. absurd (true≢false (sym t));
  bare = λ f. refl;
  one = λ f. refl;
  column = not_start c.column;
  kept = refl;
}

quote_uncut : (page : Page) (quote : Bool) (before x : ℕ) (xs : List ℕ) → (quote && x == 39) ≡ true
    → cuts_at page before x xs ≡ false
quote_uncut page quote before x xs q = grind (arith, cut_needs)

pub step : (page : Page) (quote : Bool) (before x : ℕ) (xs : List ℕ) (c : Cursor)
    (last : QuotedPart) → (page.cuts ≡ true → 0 < page.indentation) → Shows x (first xs)
    → is_break x ≡ false → Behind before c last (x ∷ xs) → (is_break before && x == 32) ≡ false
    → Step page quote before x xs c last
step page quote before x xs c last deep s inside h eqb-false =
    bool_cases (quote && x == 39)
    (λ q. step_doubled page quote before x xs c last q (quote_uncut page quote before x xs q))
    (λ q. bool_cases (cuts_at page before x xs && is_past page.width c)
    (λ m. let cuts = (and_parts (cuts_at page before x xs) (is_past page.width c) m).0 in
    let needs = cut_needs page before x xs cuts in
    let no_break : is_break before ≡ false = bool_cases (is_break before) (λ t. absurd (true≢false (sym (rw t (ap (λ k. k == 32) needs.space)) ∙ eqb-false))) (λ f. f) in
    step_cut page quote before x xs c last deep s h no_break cuts (and_parts (cuts_at page before x xs) (is_past page.width c) m).1)
    (λ m. step_raw page quote before x xs c last s inside h q m))
