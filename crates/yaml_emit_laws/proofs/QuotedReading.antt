-- How characters that spell themselves are read inside the quotes.
use Rattle.std.proofs.Common.{◌≡◌, ◌≢◌, ℕ, suc, ◌+◌, ◌-◌, ◌/◌, ◌%◌, ◌<◌, ◌≤◌, true, false, ◌&&◌, ◌==◌, List, [], ◌∷◌, ◌++◌, length, Ok, refl, sym, ap, subst, ◌∙◌, inl, inr, arith, add-one, append_assoc, encode_utf8}
use Rattle.yaml_emit_laws.proofs.Shared.{cases_lt, ne_eqb, nat_tests, and-false, byte, ends_of, break_width, ends_break, starts, column_at, is_blank, is_document_indicator, Piece, Kept, Blank, Pieces, standing_at, pieces}
use Rattle.yaml_emit_laws.proofs.Chars.{encode_1, encode_2, encode_3, encode_4}
use Rattle.yaml_emit_laws.proofs.Values.{keeps}
use Rattle.yaml_emit_laws.proofs.Bytes.{IsQuote, no_quote, no_slash, low_end, low_break, Calm, calm_end, calm_break, calm_from, first_end, second_end, third_end, later_break, two_break, three_break, four_break, high_blank}
use Rattle.yaml_scan_history.proofs.HasLemmas.{Has}

-- ---- readings, from the right

-- the pieces from a place on, to the end
pub record Read (quote : ℕ) (text : List ℕ) (p : ℕ) (qs : List Piece) (e : ℕ) : Type 0 where
  pub fuel : ℕ
  pub few : fuel + p ≤ e
  pub gives : pieces fuel quote text p ≡ Ok (qs, e)

-- what is between two places is these pieces, and the second is not at the start of a line
pub record Through (quote : ℕ) (text : List ℕ) (p : ℕ) (qs : List Piece) (q : ℕ) : Type 0 where
  pub reads : (rs : List Piece) (e : ℕ) → Read quote text q rs e → Read quote text p (qs ++ rs) e
  pub column : 0 < column_at text q

pub through_both : (quote : ℕ) (text : List ℕ) (p q r : ℕ) (qs rs : List Piece)
    → Through quote text p qs q → Through quote text q rs r → Through quote text p (qs ++ rs) r
through_both quote text p q r qs rs a b = grind (arith, nat_tests, append_assoc)

pub read_step : (quote : ℕ) (text : List ℕ) (p q e : ℕ) (qs rs : List Piece)
    → standing_at quote text p ≡ Pieces qs q → p < q → Read quote text q rs e
    → Read quote text p (qs ++ rs) e
unfolding pieces
read_step quote text p q e qs rs s l r =
    let few = r.few in
    record { fuel = suc r.fuel; few = omega arith; gives = rw (s, r.gives) refl }

pub through_one : (quote : ℕ) (text : List ℕ) (p q : ℕ) (qs : List Piece)
    → standing_at quote text p ≡ Pieces qs q → p < q → 0 < column_at text q
    → Through quote text p qs q
through_one quote text p q qs s l c = record { reads = λ rs e r. read_step quote text p q e qs rs s l r; column = c }

pub through_at : (quote : ℕ) (text : List ℕ) (p q r : ℕ) (qs : List Piece) → q ≡ r
    → Through quote text p qs q → Through quote text p qs r
through_at quote text p q r qs e t = subst (λ k. Through quote text p qs k) e t

-- ---- no document begins or ends

-- No mark of a document is within a line.
pub in_line : (text : List ℕ) (p : ℕ) → 0 < column_at text p → is_document_indicator text p ≡ false
unfolding is_document_indicator
in_line text p h =
    let e : (column_at text p == 0) ≡ false = grind (arith, nat_tests) in
    rw e refl

pub no_mark : (text : List ℕ) (p b : ℕ) → byte text p ≡ b → b ≢ 45 → b ≢ 46
    → is_document_indicator text p ≡ false
unfolding is_document_indicator
no_mark text p b e m n = rw (e, ne_eqb b 45 m, ne_eqb b 46 n, and-false) refl

-- ---- columns

-- within a line the column stays above 0
pub column_more : (text : List ℕ) (p : ℕ) → ends_break text p ≡ false → 0 < column_at text p
    → 0 < column_at text (p + 1)
unfolding column_at
column_more text p h c = rw (add-one, h) (omega arith)

-- After a character that ends no line the column is no longer 0.
pub column_start : (text : List ℕ) (p : ℕ) → ends_break text p ≡ false → starts (byte text p) ≡ true
    → 0 < column_at text (p + 1)
unfolding column_at
column_start text p h s = rw (add-one, h, s) (omega arith)

-- ---- one byte

-- a byte that spells itself
pub record Ordinary (quote b : ℕ) : Type 0 where
  pub no_end : (b == 0) ≡ false
  pub no_quote : (b == quote) ≡ false
  pub no_slash : (quote == 34 && b == 92) ≡ false
  pub no_blank : is_blank b ≡ false

pub stays : (quote : ℕ) (text : List ℕ) (p b : ℕ) → 0 < column_at text p → byte text p ≡ b
    → ends_break text p ≡ false → break_width text p ≡ 0 → Ordinary quote b
    → Through quote text p (Kept (b ∷ []) ∷ []) (p + 1)
unfolding standing_at
stays quote text p b c e f z o =
    through_one quote text p (p + 1) (Kept (b ∷ []) ∷ []) (rw ((in_line text p c), z, e, o.no_end, o.no_quote, o.no_blank, o.no_slash) refl) (omega arith) (column_more text p f c)

blank_standing : (quote : ℕ) (text : List ℕ) (p b : ℕ) → is_document_indicator text p ≡ false
    → byte text p ≡ b → break_width text p ≡ 0 → (b == 0) ≡ false → (b == quote) ≡ false
    → is_blank b ≡ true
    → standing_at quote text p ≡ Pieces (Blank b ∷ []) (p + 1)
unfolding standing_at
blank_standing quote text p b i e z m n k = rw (i, z, e, m, n, k) refl

blank_calm : (b : ℕ) → is_blank b ≡ true → Calm b
blank_calm b h = record { low = grind (arith, nat_tests); no_feed = λ e. let g = rw e at h in absurd (cc); no_return = λ e. let g = rw e at h in absurd (cc) }

blank_no : (b n : ℕ) → is_blank b ≡ true → is_blank n ≡ false → b ≢ n
blank_no b n h k e = cc (sym h ∙ ap (λ x. is_blank x) e ∙ k)

pub blank_through : (quote : ℕ) (text : List ℕ) (p b : ℕ) → IsQuote quote → 0 < column_at text p
    → is_blank b ≡ true → byte text p ≡ b → Through quote text p (Blank b ∷ []) (p + 1)
blank_through quote text p b q c k e =
    let calm = blank_calm b k in
    through_one quote text p (p + 1) (Blank b ∷ [])
    (blank_standing quote text p b (in_line text p c) e (rw e (calm_break b _ _ calm)) (ne_eqb b 0 (blank_no b 0 k refl)) (no_quote quote b q (blank_no b 34 k refl) (blank_no b 39 k refl)) k)
    (omega arith) (column_more text p (rw e (calm_end _ _ b _ calm)) c)

space_calm : Calm 32
space_calm = calm_from 32 (omega arith) (omega arith)

-- a space at the start of a line
pub space_standing : (quote : ℕ) (text : List ℕ) (p : ℕ) → IsQuote quote → byte text p ≡ 32
    → standing_at quote text p ≡ Pieces (Blank 32 ∷ []) (p + 1)
space_standing quote text p q e =
    blank_standing quote text p 32 (no_mark text p 32 e (λ f. omega arith) (λ f. omega arith)) e (rw e (calm_break 32 _ _ space_calm)) refl (no_quote quote 32 q (λ f. omega arith) (λ f. omega arith)) refl

pub space_column : (text : List ℕ) (p : ℕ) → byte text p ≡ 32 → 0 < column_at text (p + 1)
space_column text p e = column_start text p (rw e (calm_end _ _ 32 _ space_calm)) (rw e refl)

-- ---- characters past ASCII

-- No break ends after two bytes that no break ends with.
pub ends_1 : (text : List ℕ) (p y b : ℕ) → byte text p ≡ y → byte text (p + 1) ≡ b
    → ((x c : ℕ) → ends_of x y b c ≡ false) → ends_break text (p + 1) ≡ false
ends_1 text p y b h k f =
    let e : p + 1 - 1 ≡ p = omega arith in
    rw (e, h, k) (f (byte text (p + 1 - 2)) (byte text (p + 1 + 1)))

-- No break ends after three bytes that no break ends with.
pub ends_2 : (text : List ℕ) (p x y b : ℕ) → byte text p ≡ x → byte text (p + 1) ≡ y
    → byte text (p + 1 + 1) ≡ b → ((c : ℕ) → ends_of x y b c ≡ false)
    → ends_break text (p + 1 + 1) ≡ false
ends_2 text p x y b g h k f = grind (arith, nat_tests)

high_ordinary : (quote b : ℕ) → IsQuote quote → 128 ≤ b → Ordinary quote b
high_ordinary quote b q h = grind (arith, nat_tests, no_quote, no_slash, high_blank)

high : (quote : ℕ) (text : List ℕ) (p b : ℕ) → IsQuote quote → 0 < column_at text p
    → byte text p ≡ b → 128 ≤ b → ends_break text p ≡ false → break_width text p ≡ 0
    → Through quote text p (Kept (b ∷ []) ∷ []) (p + 1)
high quote text p b q c e l f z = stays quote text p b c e f z (high_ordinary quote b q l)

two : (quote : ℕ) (text : List ℕ) (p a b : ℕ) → IsQuote quote → 0 < column_at text p → 192 ≤ a
    → a < 224 → 128 ≤ b → b < 192 → (a ≡ 0xC2 → b ≡ 0x85 → ⊥)
    → Has text p (a ∷ b ∷ []) → Through quote text p (keeps (a ∷ b ∷ [])) (p + 1 + 1)
two quote text p a b qt c l m n o z (h, (k, u)) =
    let first = high quote text p a qt c h (omega arith) (rw h (first_end _ _ a _ l)) (rw (h, k) (two_break a b _ l m z)) in
    let second = high quote text (p + 1) b qt first.column k n (ends_1 text p a b h k (λ x d. second_end x a b d n o l (λ e f. z f e))) (rw k (later_break b _ _ n o)) in
    through_both quote text p (p + 1) (p + 1 + 1) (keeps (a ∷ [])) (keeps (b ∷ [])) first second

three : (quote : ℕ) (text : List ℕ) (p a b d : ℕ) → IsQuote quote → 0 < column_at text p → 224 ≤ a
    → a < 240 → 128 ≤ b → b < 192 → 128 ≤ d → d < 192
    → (a ≡ 0xE2 → b ≡ 0x80 → d ≡ 0xA8 → ⊥) → (a ≡ 0xE2 → b ≡ 0x80 → d ≡ 0xA9 → ⊥)
    → Has text p (a ∷ b ∷ d ∷ []) → Through quote text p (keeps (a ∷ b ∷ d ∷ [])) (p + 1 + 1 + 1)
three quote text p a b d qt c l m n o q r x y (h, (k, (i, u))) =
    let first = high quote text p a qt c h (omega arith) (rw h (first_end _ _ a _ (omega arith))) (let w : p + 2 ≡ p + 1 + 1 = omega arith in rw (w, h, k, i) (three_break a b d l m x y)) in
    let second = high quote text (p + 1) b qt first.column k n (ends_1 text p a b h k (λ v w. second_end v a b w n o (omega arith) (λ e f. omega arith))) (rw k (later_break b _ _ n o)) in
    let third = high quote text (p + 1 + 1) d qt second.column i q (ends_2 text p a b d h k i (λ w. third_end a b d w q r n o (λ e f g. x g f e) (λ e f g. y g f e))) (rw i (later_break d _ _ q r)) in
    through_both quote text p (p + 1) (p + 1 + 1 + 1) (keeps (a ∷ [])) (keeps (b ∷ d ∷ [])) first
    (through_both quote text (p + 1) (p + 1 + 1) (p + 1 + 1 + 1) (keeps (b ∷ [])) (keeps (d ∷ [])) second third)

four : (quote : ℕ) (text : List ℕ) (p a b d g : ℕ) → IsQuote quote → 0 < column_at text p → 240 ≤ a
    → 128 ≤ b → b < 192 → 128 ≤ d → d < 192 → 128 ≤ g → g < 192
    → Has text p (a ∷ b ∷ d ∷ g ∷ [])
    → Through quote text p (keeps (a ∷ b ∷ d ∷ g ∷ [])) (p + 1 + 1 + 1 + 1)
four quote text p a b d g qt c l n o q r s t (h, (k, (i, (j, u)))) =
    let first = high quote text p a qt c h (omega arith) (rw h (first_end _ _ a _ (omega arith))) (rw h (four_break a _ _ l)) in
    let second = high quote text (p + 1) b qt first.column k n (ends_1 text p a b h k (λ v w. second_end v a b w n o (omega arith) (λ e f. omega arith))) (rw k (later_break b _ _ n o)) in
    let third = high quote text (p + 1 + 1) d qt second.column i q (ends_2 text p a b d h k i (λ w. third_end a b d w q r n o (λ e f x. omega arith) (λ e f x. omega arith))) (rw i (later_break d _ _ q r)) in
    let fourth = high quote text (p + 1 + 1 + 1) g qt third.column j s (ends_2 text (p + 1) b d g k i j (λ w. third_end b d g w s t q r (λ e f x. omega arith) (λ e f x. omega arith))) (rw j (later_break g _ _ s t)) in
    through_both quote text p (p + 1) (p + 1 + 1 + 1 + 1) (keeps (a ∷ [])) (keeps (b ∷ d ∷ g ∷ [])) first
    (through_both quote text (p + 1) (p + 1 + 1) (p + 1 + 1 + 1 + 1) (keeps (b ∷ [])) (keeps (d ∷ g ∷ [])) second
    (through_both quote text (p + 1 + 1) (p + 1 + 1 + 1) (p + 1 + 1 + 1 + 1) (keeps (d ∷ [])) (keeps (g ∷ [])) third fourth))

-- a character that spells itself
pub record Raw (quote c : ℕ) : Type 0 where
  pub no_feed : c ≢ 10
  pub no_return : c ≢ 13
  pub no_next_line : c ≢ 0x85
  pub no_line : c ≢ 0x2028
  pub no_paragraph : c ≢ 0x2029
  pub no_end : (c == 0) ≡ false
  pub no_quote : (c == quote) ≡ false
  pub no_slash : (quote == 34 && c == 92) ≡ false
  pub top : c < 1114112

pub raw_through : (quote : ℕ) (text : List ℕ) (p c : ℕ) → IsQuote quote → 0 < column_at text p
    → Raw quote c → is_blank c ≡ false → Has text p (encode_utf8 c)
    → Through quote text p (keeps (encode_utf8 c)) (p + length (encode_utf8 c))
raw_through quote text p c q col s b =
    let P : List ℕ → Type 0 = λ bs. Has text p bs → Through quote text p (keeps bs) (p + length bs) in
    let nf = s.no_feed in let nr = s.no_return in let nn = s.no_next_line in let nl = s.no_line in let np = s.no_paragraph in let top = s.top in
    elim (cases_lt c 128) [
      | inl u ↦ subst P (sym (encode_1 c u)) (λ (h, t). stays quote text p c col h (rw h (low_end _ _ c _ u nf nr)) (rw h (low_break c _ _ u nf nr)) (record { no_end = s.no_end; no_quote = s.no_quote; no_slash = s.no_slash; no_blank = b }))
      | inr u ↦ elim (cases_lt c 2048) [
        | inl v ↦ subst P (sym (encode_2 c u v)) (λ h. through_at quote text p (p + 1 + 1) (p + 2) _ (omega arith)
            (two quote text p (192 + c / 64) (128 + c % 64) q col (omega arith) (omega arith) (omega arith) (omega arith) (λ e f. omega arith) h))
        | inr v ↦ elim (cases_lt c 65536) [
          | inl w ↦ subst P (sym (encode_3 c v w)) (λ h. through_at quote text p (p + 1 + 1 + 1) (p + 3) _ (omega arith)
              (three quote text p (224 + c / 4096) (128 + c / 64 % 64) (128 + c % 64) q col (omega arith) (omega arith) (omega arith) (omega arith) (omega arith) (omega arith)
              (λ e f g. omega arith) (λ e f g. omega arith) h))
          | inr w ↦ subst P (sym (encode_4 c w)) (λ h. through_at quote text p (p + 1 + 1 + 1 + 1) (p + 4) _ (omega arith)
              (four quote text p (240 + c / 262144) (128 + c / 4096 % 64) (128 + c / 64 % 64) (128 + c % 64) q col (omega arith) (omega arith) (omega arith) (omega arith) (omega arith) (omega arith) (omega arith) h))
        ]
      ]
    ]
