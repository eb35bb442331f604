-- Breaks at the ends of lines, and characters between them.
use Rattle.std.proofs.Common.{◌≡◌, ◌≢◌, ℕ, ◌+◌, ◌<◌, ◌≤◌, true, false, ◌||◌, ◌==◌, List, [], ◌∷◌, ◌++◌, length, refl, sym, ap, ◌∙◌, inl, inr, arith, encode_utf8, encode_utf8_all, Bool, not, nat_lt, Ok, subst, add-zero, ◌-◌, get_or}
use Rattle.yaml_emit_laws.proofs.ScalarWords.{cases_eq, ne_eqb, or_parts, eqb-false, byte, break_of, break_width, is_blank, column_at, break_value, is_feed, starts_blank, Has, has_front, has_at, LineBreak, Lf, Cr, CrLf, is_break, Item, is_printable, encode_1, encode_2, encode_3, encode_4, high_blank, LineMark, own, separator, paragraph, mark_char, mark_text, mark_bytes, mark_means, NoWhite, nat_tests, past_break, is_text, is_digit_byte, past_stop, is_chomping, chomp_at, digit_of, digit_place, chomping_place, indicators, past_comment, header_end, header_at, break_text, cond_true, cond_false, Chomping, get_or_past, Cursor, Rest, page_at, Left, bytes, margin_round, BlockAndLineRead, BlockAtPosition, left_rest, front_encodes}
use lib.Utf8.{encode}
use Rattle.yaml_scan_history.proofs.HeaderLemmas.{whole_header}
use Rattle.yaml_emit_layout.specs.declared.page.Chomp.TheVariants as chomping
use Rattle.yaml_emit_laws.proofs.BlockWaiting.{read_chomp}
use Rattle.yaml_emit_layout.specs.declared.page.Page.{Page}
use Rattle.yaml_emit_laws.specs.BlockPassing.{begins_white, behind_line, BlockPassed, BlockIsPassed}

-- after CR there may be no LF
abbrev pub NoFeed : LineBreak → ℕ → Type 0
NoFeed Lf x = Unit {0}
NoFeed Cr x = x ≢ 10
NoFeed CrLf x = Unit {0}

pub mark_breaks : (m : LineMark) → is_break (mark_char m) ≡ true
mark_breaks m = grind (arith, nat_tests)

pub mark_encodes : (m : LineMark) → encode_utf8 (mark_char m) ≡ mark_means m
unfolding encode
mark_encodes m = grind (arith, nat_tests)

pub mark_some : (m : LineMark) → 0 < length (mark_means m)
mark_some m = grind (arith, nat_tests)

-- a mark that isn't LF isn't read as a feed
pub mark_feed : (m : LineMark) → is_feed (mark_means m) ≡ (mark_char m == 10)
mark_feed m = grind (arith, nat_tests)

-- which break of a value a character is
pub record IsMark (x : ℕ) : Type 0 where
  pub mark : LineMark
  pub is : mark_char mark ≡ x

pub not_printed : (x k : ℕ) → is_printable x ≡ true → is_printable k ≡ false → x ≢ k
not_printed x k s n = λ e. cc (sym s ∙ ap (λ t. is_printable t) e ∙ n)

no_break : (x : ℕ) → x ≢ 10 → x ≢ 13 → x ≢ 0x85 → x ≢ 0x2028 → x ≢ 0x2029 → is_break x ≡ false
no_break x a b c d e = rw (ne_eqb x 10 a, ne_eqb x 13 b, ne_eqb x 0x85 c, ne_eqb x 0x2028 d, ne_eqb x 0x2029 e) refl

pub mark_of : (x : ℕ) → is_printable x ≡ true → is_break x ≡ true → IsMark x
mark_of x s h =
    elim (cases_eq x 10) [
      | inl e ↦ record { mark = own; is = sym e }
      | inr a ↦ elim (cases_eq x 0x2028) [
        | inl e ↦ record { mark = separator; is = sym e }
        | inr b ↦ elim (cases_eq x 0x2029) [
          | inl e ↦ record { mark = paragraph; is = sym e }
          | inr c ↦ (absurd (cc (sym h ∙ (no_break x a (not_printed x 13 s refl) (not_printed x 0x85 s refl) b c))))
        ]
      ]
    ]

-- ---- as bytes

break_encodes : (b : LineBreak) → encode_utf8_all (mark_text b own) ≡ mark_bytes b own
unfolding encode
break_encodes b = grind (arith, nat_tests)

pub text_encodes : (b : LineBreak) (m : LineMark) → encode_utf8_all (mark_text b m) ≡ mark_bytes b m
unfolding encode
text_encodes b m = grind (arith, nat_tests, break_encodes)

-- what is there is a break of that width, and is read so
pub record Breaks (text : List ℕ) (p : ℕ) (m : LineMark) (n : ℕ) : Type 0 where
  pub width : break_width text p ≡ n
  pub value : break_value text p ≡ mark_means m
  pub some : 0 < byte text p
  pub no_space : byte text p ≢ 32
  pub no_tab : byte text p ≢ 9

feed_breaks : (text : List ℕ) (p : ℕ) → byte text p ≡ 10 → Breaks text p own 1
unfolding break_of break_value
feed_breaks text p e = record { width = rw e refl; value = rw e refl; some = omega (arith, e); no_space = λ f. omega (arith, e, f); no_tab = λ f. omega (arith, e, f) }

return_breaks : (text : List ℕ) (p : ℕ) → byte text p ≡ 13 → byte text (p + 1) ≢ 10
    → Breaks text p own 1
unfolding break_of break_value
return_breaks text p e n = grind (arith, nat_tests, ne_eqb)

both_breaks : (text : List ℕ) (p : ℕ) → byte text p ≡ 13 → byte text (p + 1) ≡ 10
    → Breaks text p own 2
unfolding break_value break_of
both_breaks text p e f = grind (arith, nat_tests)

wide_breaks : (text : List ℕ) (p d : ℕ) (m : LineMark) → mark_means m ≡ 0xE2 ∷ 0x80 ∷ d ∷ []
    → (d == 0xA8 || d == 0xA9) ≡ true → byte text p ≡ 0xE2 → byte text (p + 1) ≡ 0x80
    → byte text (p + 1 + 1) ≡ d → Breaks text p m 3
unfolding break_of break_value
wide_breaks text p d m means t e f g = grind (arith, nat_tests)

own_breaks : (b : LineBreak) (text : List ℕ) (p : ℕ) → Has text p (mark_bytes b own)
    → NoFeed b (byte text (p + length (mark_bytes b own)))
    → Breaks text p own (length (mark_bytes b own))
own_breaks Lf text p (e, h) n = feed_breaks text p e
own_breaks Cr text p (e, h) n = return_breaks text p e n
own_breaks CrLf text p (e, (f, h)) n = both_breaks text p e f

pub breaks : (b : LineBreak) (m : LineMark) (text : List ℕ) (p : ℕ) → Has text p (mark_bytes b m)
    → NoFeed b (byte text (p + length (mark_bytes b m))) → Breaks text p m (length (mark_bytes b m))
breaks b own text p h n = own_breaks b text p h n
breaks b separator text p (e, (f, (g, h))) n = wide_breaks text p 0xA8 separator refl refl e f g
breaks b paragraph text p (e, (f, (g, h))) n = wide_breaks text p 0xA9 paragraph refl refl e f g

-- ---- the first byte of a text

front_blank : (bs cs : List ℕ) (a : ℕ) (t : List ℕ) → bs ≡ a ∷ t
    → starts_blank (bs ++ cs) ≡ is_blank a
front_blank bs cs a t e = ap (λ (xs : List ℕ). starts_blank (xs ++ cs)) e

high : (x a : ℕ) (bs cs t : List ℕ) → 128 ≤ x → 128 ≤ a → bs ≡ a ∷ t
    → starts_blank (bs ++ cs) ≡ is_blank x
high x a bs cs t h k e = front_blank bs cs a t e ∙ high_blank a k ∙ sym (high_blank x h)

pub text_blank : (x : ℕ) (xs : List ℕ) → starts_blank (encode_utf8_all (x ∷ xs)) ≡ is_blank x
text_blank x xs = grind (arith, nat_tests, front_blank, encode_utf8, encode_utf8_all, encode_1, high, encode_2, encode_3, encode_4)

-- ==== The header of a block scalar is read.

-- the first byte of a break that is written
record Begins (text : List ℕ) (p : ℕ) : Type 0 where
  pub no_digit : is_digit_byte (byte text p) ≡ false
  pub no_chomp : is_chomping (byte text p) ≡ false
  pub no_blank : is_blank (byte text p) ≡ false
  pub no_comment : (byte text p == 35) ≡ false
  pub no_zero : byte text p ≢ 48
  pub clip : chomp_at (byte text p) ≡ chomp_at 0
  pub none : digit_of (byte text p) ≡ 0
  pub no_text : is_text text p ≡ false

begins_at : (b : ℕ) → (b ≡ 10)
    → (is_digit_byte b ≡ false) × (is_chomping b ≡ false) × (is_blank b ≡ false)
    × ((b == 35) ≡ false) × (b ≢ 48) × (chomp_at b ≡ chomp_at 0) × (digit_of b ≡ 0)
unfolding is_digit_byte is_chomping chomp_at digit_of
begins_at b e = rw e (refl, refl, refl, refl, (λ f. omega (arith, f)), refl, refl)

begins_too : (b : ℕ) → (b ≡ 13)
    → (is_digit_byte b ≡ false) × (is_chomping b ≡ false) × (is_blank b ≡ false)
    × ((b == 35) ≡ false) × (b ≢ 48) × (chomp_at b ≡ chomp_at 0) × (digit_of b ≡ 0)
unfolding is_digit_byte is_chomping chomp_at digit_of
begins_too b e = rw e (refl, refl, refl, refl, (λ f. omega (arith, f)), refl, refl)

pub no_text_there : (b w : ℕ) → 0 < w → not (b == 0 || nat_lt 0 w) ≡ false
no_text_there b w h = grind (arith, nat_tests)

break_begins : (b : LineBreak) (text : List ℕ) (p : ℕ) → Has text p (break_text b)
    → 0 < break_width text p → Begins text p
break_begins Lf text p (e, h) w = let (a, c, d, f, g, i, j) = begins_at (byte text p) e in record { no_digit = a; no_chomp = c; no_blank = d; no_comment = f; no_zero = g; clip = i; none = j; no_text = no_text_there (byte text p) (break_width text p) w }
break_begins _ text p (e, h) w = let (a, c, d, f, g, i, j) = begins_too (byte text p) e in record { no_digit = a; no_chomp = c; no_blank = d; no_comment = f; no_zero = g; clip = i; none = j; no_text = no_text_there (byte text p) (break_width text p) w }

-- the byte there is a digit's
record IsDigit (b d : ℕ) : Type 0 where
  pub digit : is_digit_byte b ≡ true
  pub no_chomp : is_chomping b ≡ false
  pub no_zero : b ≢ 48
  pub is : digit_of b ≡ d

digit_is : (b d : ℕ) → b ≡ 48 + d → 0 < d → d < 10 → IsDigit b d
unfolding is_digit_byte is_chomping digit_of
digit_is b d e h k = record { digit = grind (arith, nat_tests); no_chomp = grind (arith, nat_tests); no_zero = λ f. omega (arith, e, f, h); is = grind (arith, nat_tests) }

end_is : (text : List ℕ) (p n q : ℕ) → indicators (byte text p) (byte text (p + 1)) ≡ n → p + n ≡ q
    → Begins text q → header_end text p ≡ q
unfolding past_comment
end_is text p n q e s g = grind (arith, nat_tests, past_stop, cond_false)

-- by where digit and chomping indicator are looked for
header_by : (text : List ℕ) (p n q w d k x y : ℕ) → indicators (byte text p) (byte text (p + 1)) ≡ n
    → p + n ≡ q → Begins text q → digit_place text p ≡ x → chomping_place text p ≡ y
    → byte text x ≢ 48 → digit_of (byte text x) ≡ d → chomp_at (byte text y) ≡ chomp_at k
    → break_width text q ≡ w
    → header_at text p ≡ Ok record { chomp = chomp_at k; digit = d; place = q + w }
header_by text p n q w d k x y e s g dx cy z f h i = grind (arith, nat_tests, end_is, whole_header)

-- `-` or `+`, by its byte
record IsChomp (b k : ℕ) : Type 0 where
  pub chomp : is_chomping b ≡ true
  pub no_digit : is_digit_byte b ≡ false
  pub is : chomp_at b ≡ chomp_at k

strip_is : (b : ℕ) → b ≡ 45 → IsChomp b 45
unfolding is_chomping is_digit_byte
strip_is b e = record { chomp = rw e refl; no_digit = rw e refl; is = ap (λ x. chomp_at x) e }

keep_is : (b : ℕ) → b ≡ 43 → IsChomp b 43
unfolding is_chomping is_digit_byte
keep_is b e = record { chomp = rw e refl; no_digit = rw e refl; is = ap (λ x. chomp_at x) e }

header_none : (text : List ℕ) (p w : ℕ) → Begins text p → break_width text p ≡ w
    → header_at text p ≡ Ok record { chomp = chomp_at 0; digit = 0; place = p + w }
unfolding indicators
header_none text p w g i = grind (arith, nat_tests, header_by, add-zero, cond_false)

header_chomp : (text : List ℕ) (p w k : ℕ) → IsChomp (byte text p) k → Begins text (p + 1)
    → break_width text (p + 1) ≡ w
    → header_at text p ≡ Ok record { chomp = chomp_at k; digit = 0; place = p + 1 + w }
unfolding indicators
header_chomp text p w k c g i = grind (arith, nat_tests, header_by, cond_true, cond_false)

header_digit : (text : List ℕ) (p w d : ℕ) → IsDigit (byte text p) d → Begins text (p + 1)
    → break_width text (p + 1) ≡ w
    → header_at text p ≡ Ok record { chomp = chomp_at 0; digit = d; place = p + 1 + w }
unfolding indicators
header_digit text p w d c g i = grind (arith, nat_tests, header_by, cond_false, cond_true)

header_both : (text : List ℕ) (p w d k : ℕ) → IsDigit (byte text p) d
    → IsChomp (byte text (p + 1)) k → Begins text (p + 1 + 1) → break_width text (p + 1 + 1) ≡ w
    → header_at text p ≡ Ok record { chomp = chomp_at k; digit = d; place = p + 1 + 1 + w }
unfolding indicators
header_both text p w d k c x g i = grind (arith, nat_tests, header_by, cond_false, cond_true)

-- ---- as it is written

-- the digit, where one is written
abbrev pub digit_text : Bool → ℕ → List ℕ
digit_text true d = (48 + d) ∷ []
digit_text false d = []

abbrev pub digit_value : Bool → ℕ → ℕ
digit_value true d = d
digit_value false d = 0

abbrev pub chomp_text : Chomping → List ℕ
chomp_text chomping.Strip = 45 ∷ []
chomp_text chomping.Clip = []
chomp_text chomping.Keep = 43 ∷ []

-- what is after the header
record Behind (text : List ℕ) (p w : ℕ) : Type 0 where
  begins : Begins text p
  width : break_width text p ≡ w
  some : 0 < break_width text p

behind_at : (b : LineBreak) (text : List ℕ) (p : ℕ) → Has text p (break_text b)
    → NoFeed b (byte text (p + length (break_text b))) → Behind text p (length (break_text b))
behind_at b text p h f =
    let d = breaks b own text p h f in
    let some : 0 < break_width text p = let l = long b in let w = d.width in omega (arith, l, w) in
    record { begins = break_begins b text p h some; width = d.width; some = some }
  where
    long : (b : LineBreak) → 0 < length (break_text b)
    long Lf = omega arith
    long Cr = omega arith
    long CrLf = omega arith

-- the header, and the column 0 after it
pub record HeaderReads (text : List ℕ) (p d q : ℕ) (k : ℕ) : Type 0 where
  pub header : header_at text p ≡ Ok record { chomp = chomp_at k; digit = d; place = q }
  pub column : column_at text q ≡ 0
  pub inside : q ≤ length text

header_is : (text : List ℕ) (p d k q w e : ℕ) → Behind text q w → q + w ≡ e
    → header_at text p ≡ Ok record { chomp = chomp_at k; digit = d; place = q + w }
    → HeaderReads text p d e k
header_is text p d k q w e h s r = grind (arith, nat_tests, past_break)

pub header_reads : (b : LineBreak) (shown : Bool) (d : ℕ) (c : Chomping) (text : List ℕ) (p e : ℕ)
    → 0 < d → d < 10 → e ≡ p + length (digit_text shown d ++ (chomp_text c ++ break_text b))
    → Has text p (digit_text shown d ++ (chomp_text c ++ break_text b)) → NoFeed b (byte text e)
    → HeaderReads text p (digit_value shown d) e (read_chomp c)
header_reads b false d chomping.Clip text p e some small s h f =
    let x = behind_at b text p h (subst (λ r. NoFeed b (byte text r)) s f) in
    header_is text p 0 0 p (length (break_text b)) e x (sym s) (header_none text p (length (break_text b)) x.begins x.width)
header_reads b false d chomping.Strip text p e some small s (i, h) f =
    let far : e ≡ p + 1 + length (break_text b) = omega (arith, s) in
    let x = behind_at b text (p + 1) h (subst (λ r. NoFeed b (byte text r)) far f) in
    header_is text p 0 45 (p + 1) (length (break_text b)) e x (sym far) (header_chomp text p (length (break_text b)) 45 (strip_is (byte text p) i) x.begins x.width)
header_reads b false d chomping.Keep text p e some small s (i, h) f =
    let far : e ≡ p + 1 + length (break_text b) = omega (arith, s) in
    let x = behind_at b text (p + 1) h (subst (λ r. NoFeed b (byte text r)) far f) in
    header_is text p 0 43 (p + 1) (length (break_text b)) e x (sym far) (header_chomp text p (length (break_text b)) 43 (keep_is (byte text p) i) x.begins x.width)
header_reads b true d chomping.Clip text p e some small s (j, h) f =
    let far : e ≡ p + 1 + length (break_text b) = omega (arith, s) in
    let x = behind_at b text (p + 1) h (subst (λ r. NoFeed b (byte text r)) far f) in
    header_is text p d 0 (p + 1) (length (break_text b)) e x (sym far) (header_digit text p (length (break_text b)) d (digit_is (byte text p) d j some small) x.begins x.width)
header_reads b true d chomping.Strip text p e some small s (j, (i, h)) f =
    let far : e ≡ p + 1 + 1 + length (break_text b) = omega (arith, s) in
    let x = behind_at b text (p + 1 + 1) h (subst (λ r. NoFeed b (byte text r)) far f) in
    header_is text p d 45 (p + 1 + 1) (length (break_text b)) e x (sym far)
    (header_both text p (length (break_text b)) d 45 (digit_is (byte text p) d j some small) (strip_is (byte text (p + 1)) i) x.begins x.width)
header_reads b true d chomping.Keep text p e some small s (j, (i, h)) f =
    let far : e ≡ p + 1 + 1 + length (break_text b) = omega (arith, s) in
    let x = behind_at b text (p + 1 + 1) h (subst (λ r. NoFeed b (byte text r)) far f) in
    header_is text p d 43 (p + 1 + 1) (length (break_text b)) e x (sym far)
    (header_both text p (length (break_text b)) d 43 (digit_is (byte text p) d j some small) (keep_is (byte text (p + 1)) i) x.begins x.width)

-- ==== A text that goes on with a block scalar goes on after it.

-- each byte that is left, and 0 after the end
left_byte : (text : List ℕ) (p : ℕ) (bs : List ℕ) (k : ℕ) → Left text p bs
    → byte text (p + k) ≡ get_or bs k 0
left_byte text p bs k l = grind (arith, nat_tests, has_at, get_or_past)

left_white : (text : List ℕ) (p : ℕ) (bs : List ℕ) → Left text p bs → begins_white bs ≡ false
    → NoWhite text p
left_white text p bs l e =
    let z : p + 0 ≡ p = omega arith in
    let a : byte text p ≡ get_or bs 0 0 = ap (λ q. byte text q) (sym z) ∙ left_byte text p bs 0 l in
    let b = left_byte text p bs 1 l in
    let c = left_byte text p bs 2 l in
    let blank = (or_parts (is_blank (get_or bs 0 0)) _ e).0 in
    let none = (or_parts (is_blank (get_or bs 0 0)) _ e).1 in
    record {
      no_space = λ f. eqb-false (get_or bs 0 0) 32 (or_parts (get_or bs 0 0 == 32) (get_or bs 0 0 == 9) blank).0 (sym a ∙ f);
      no_tab = λ f. eqb-false (get_or bs 0 0) 9 (or_parts (get_or bs 0 0 == 32) (get_or bs 0 0 == 9) blank).1 (sym a ∙ f);
      no_break = ap (λ x. break_of x (byte text (p + 1)) (byte text (p + 2))) a ∙ ap (λ x. break_of (get_or bs 0 0) x (byte text (p + 2))) b ∙ ap (λ x. break_of (get_or bs 0 0) (get_or bs 1 0) x) c
          ∙ (grind (arith, nat_tests));
    }

-- some bytes come before these spaces
before_spaces : (p n m : ℕ) → m ≤ n → p + n - m + m ≡ p + n
before_spaces p n m h = omega (arith, h)

passed : (page : Page) (digit : ℕ) (folded : Bool) (level : ℕ) (c : Cursor) (value : List ℕ) (m : ℕ)
    (r : BlockAndLineRead page digit folded level c value m) (rest : Rest)
    → begins_white (bytes (rest (behind_line m value))) ≡ false → (text : List ℕ) (q : ℕ)
    → Left text q (encode_utf8_all r.letters ++ bytes (rest (behind_line m value)))
    → BlockPassed folded level text q value m (bytes (rest (behind_line m value)))
passed page digit folded level c value m r rest white text q l =
    let bs = encode_utf8_all r.letters in
    let cs = bytes (rest (behind_line m value)) in
    let more = left_rest text q bs cs l in
    let end = q + length bs - m in
    let same : end + m ≡ q + length bs = before_spaces q (length bs) m r.longer in
    record {
      end = end;
      stands = r.read text q end (has_at text q bs (has_front text q bs cs l.has)) (left_white text (q + length bs) cs more white) same;
      left = subst (λ x. Left text x cs) (sym same) more;
    }

pub block_is_passed : BlockAtPosition → BlockIsPassed
block_is_passed law p at x folded c m rest u some small same deep white text q l =
    let r = (law p at x folded c m u some small same deep).1 in
    let page = page_at p.settings at in
    let whole = ap (λ (t : List Item). bytes t) (r.written rest) ∙ front_encodes r.letters (rest (behind_line m x.value)) in
    passed page p.settings.indent folded (margin_round at.around) c x.value m r rest white text q (subst (λ (t : List ℕ). Left text q t) whole l)
