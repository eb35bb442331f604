-- Lines of a block scalar that are in a text are read.
use Rattle.std.proofs.Common.{◌≡◌, ◌≢◌, ℕ, zero, suc, ◌+◌, ◌/◌, ◌%◌, ◌<◌, ◌≤◌, true, false, not, ◌&&◌, ◌||◌, ◌==◌, nat_lt, List, [], ◌∷◌, ◌++◌, length, replicate, slice_range, Result, Ok, refl, sym, ap, subst, ◌∙◌, inl, inr, arith, add-zero, encode_utf8, encode_utf8_all, length-append}
use Rattle.yaml_emit_laws.proofs.ScalarWords.{cases_lt, and_parts, not-true, nat_tests, encodes-append, byte, break_of, break_width, column_at, break_value, feed_at, is_text, line_end, Wrong, within, past_break, InRun, run_start, run_more, run_done, text_parts, Has, has, has_front, has_rest, range_reads, BlockLine, Empty, Words, spaces, Line, spot_behind, line_spot, Lines, with_line, line_then, lines_from, LineBreak, Cr, is_break, cond_true, encode_1, encode_2, encode_3, encode_4, low_break, two_break, three_break, four_break, later_break, LineMark, mark_text, mark_bytes, mark_means, BodyLine, bare, full, line_text, body_text, line_bytes, body_bytes, read_line, read_lines, are_inside, AreInside, StandsLeft}
use Rattle.yaml_scan_history.proofs.BlockLemmas.{space_column, empty_spot, end_spot, text_spot, stop_short, no_stop}
use Rattle.yaml_emit_laws.proofs.BlockHeader.{NoFeed, breaks, text_encodes, no_text_there}
use Rattle.yaml_emit_laws.proofs.Writing.{spaces_low}
use Rattle.yaml_emit_layout.proofs.RunsLemmas.{no_space}
use Rattle.yaml_emit_laws.proofs.Turns.{length_spaces}

-- ---- bytes of a text

abbrev pub AllText : List ℕ → ℕ → List ℕ → Type 0
AllText text p [] = Unit {0}
AllText text p (b ∷ bs) = (is_text text p ≡ true) × AllText text (p + 1) bs

text_test : (b w : ℕ) → 0 < b → w ≡ 0 → not (b == 0 || nat_lt 0 w) ≡ true
text_test b w h k = grind (arith, nat_tests)

byte_text : (text : List ℕ) (p b : ℕ) → byte text p ≡ b → 0 < b → ((c d : ℕ) → break_of b c d ≡ 0)
    → is_text text p ≡ true
byte_text text p b e h f = text_test (byte text p) (break_width text p) (omega (arith, e, h)) (ap (λ x. break_of x (byte text (p + 1)) (byte text (p + 2))) e ∙ f (byte text (p + 1)) (byte text (p + 2)))

byte_text_2 : (text : List ℕ) (p b c : ℕ) → byte text p ≡ b → byte text (p + 1) ≡ c → 0 < b
    → ((d : ℕ) → break_of b c d ≡ 0) → is_text text p ≡ true
byte_text_2 text p b c e k h f =
    text_test (byte text p) (break_width text p) (omega (arith, e, h))
    (ap (λ x. break_of x (byte text (p + 1)) (byte text (p + 2))) e ∙ ap (λ x. break_of b x (byte text (p + 2))) k ∙ f (byte text (p + 2)))

byte_text_3 : (text : List ℕ) (p b c d : ℕ) → byte text p ≡ b → byte text (p + 1) ≡ c
    → byte text (p + 1 + 1) ≡ d → 0 < b → break_of b c d ≡ 0 → is_text text p ≡ true
byte_text_3 text p b c d e k l h f = grind (arith, nat_tests, text_test)

-- a character that ends no line
record Inside (c : ℕ) : Type 0 where
  some : 0 < c
  feed : c ≢ 10
  return : c ≢ 13
  next_line : c ≢ 0x85
  line : c ≢ 0x2028
  paragraph : c ≢ 0x2029

above_zero : (c : ℕ) → c ≢ 0 → 0 < c
above_zero c h = omega arith

inside_of : (c : ℕ) → is_break c ≡ false → (c == 0) ≡ false → Inside c
inside_of c h z = grind (arith, nat_tests, above_zero)

later_text : (text : List ℕ) (p b : ℕ) → byte text p ≡ b → 128 ≤ b → b < 192 → is_text text p ≡ true
later_text text p b e h k = byte_text text p b e (omega arith) (λ c d. later_break b c d h k)

char_text : (text : List ℕ) (p c : ℕ) → Inside c → Has text p (encode_utf8 c)
    → AllText text p (encode_utf8 c)
char_text text p c s =
    let P : List ℕ → Type 0 = λ bs. Has text p bs → AllText text p bs in
    let some = s.some in let feed = s.feed in let return = s.return in let next_line = s.next_line in let line = s.line in let paragraph = s.paragraph in
    elim (cases_lt c 128) [
      | inl u ↦ subst P (sym (encode_1 c u)) (λ (h, t). (byte_text text p c h some (λ x y. low_break c x y u feed return), tt))
      | inr u ↦ elim (cases_lt c 2048) [
        | inl v ↦ subst P (sym (encode_2 c u v)) (λ (h, (i, t)). (
          byte_text_2 text p (192 + c / 64) (128 + c % 64) h i (omega arith) (λ d. two_break (192 + c / 64) (128 + c % 64) d (omega arith) (omega arith) (λ e f. next_line (omega (arith, e, f)))),
          (later_text text (p + 1) (128 + c % 64) i (omega arith) (omega arith), tt),
        ))
        | inr v ↦ elim (cases_lt c 65536) [
          | inl w ↦ subst P (sym (encode_3 c v w)) (λ (h, (i, (j, t))). (
            byte_text_3 text p (224 + c / 4096) (128 + c / 64 % 64) (128 + c % 64) h i j (omega arith)
                (three_break (224 + c / 4096) (128 + c / 64 % 64) (128 + c % 64) (omega arith) (omega arith) (λ e f g. line (omega (arith, e, f, g))) (λ e f g. paragraph (omega (arith, e, f, g)))),
            (later_text text (p + 1) (128 + c / 64 % 64) i (omega arith) (omega arith), (later_text text (p + 1 + 1) (128 + c % 64) j (omega arith) (omega arith), tt)),
          ))
          | inr w ↦ subst P (sym (encode_4 c w)) (λ (h, (i, (j, (k, t)))). (
            byte_text text p (240 + c / 262144) h (omega arith) (λ x y. four_break (240 + c / 262144) x y (omega arith)),
            (
              later_text text (p + 1) (128 + c / 4096 % 64) i (omega arith) (omega arith),
              (later_text text (p + 1 + 1) (128 + c / 64 % 64) j (omega arith) (omega arith), (later_text text (p + 1 + 1 + 1) (128 + c % 64) k (omega arith) (omega arith), tt)),
            ),
          ))
        ]
      ]
    ]

all_append : (text : List ℕ) (p : ℕ) (xs ys : List ℕ) → AllText text p xs
    → AllText text (p + length xs) ys → AllText text p (xs ++ ys)
all_append text p [] ys a b = subst (λ q. AllText text q ys) (add-zero p) b
all_append text p (x ∷ xs) ys (e, a) b =
    let same : p + suc (length xs) ≡ p + 1 + length xs = omega arith in
    (e, all_append text (p + 1) xs ys a (subst (λ q. AllText text q ys) same b))

pub chars_text : (text : List ℕ) (p : ℕ) (xs : List ℕ) → are_inside xs ≡ true
    → Has text p (encode_utf8_all xs) → AllText text p (encode_utf8_all xs)
chars_text text p [] a h = tt
chars_text text p (x ∷ xs) a h =
    let here = (and_parts (not (is_break x) && not (x == 0)) (are_inside xs) a).0 in
    let more = (and_parts (not (is_break x) && not (x == 0)) (are_inside xs) a).1 in
    let s = inside_of x (not-true (is_break x) (and_parts (not (is_break x)) (not (x == 0)) here).0) (not-true (x == 0) (and_parts (not (is_break x)) (not (x == 0)) here).1) in
    let bs = encode_utf8 x in
    let cs = encode_utf8_all xs in
    all_append text p bs cs (char_text text p x s (has_front text p bs cs h)) (chars_text text (p + length bs) xs more (has_rest text p bs cs h))

run_on : (text : List ℕ) (a p : ℕ) (bs : List ℕ) → AllText text p bs → InRun is_text text a p
    → InRun is_text text a (p + length bs)
run_on text a p [] t r = subst (λ q. InRun is_text text a q) (sym (add-zero p)) r
run_on text a p (b ∷ bs) (e, t) r =
    let (some, w) = text_parts text p e in
    let same : p + 1 + length bs ≡ p + suc (length bs) = omega arith in
    subst (λ q. InRun is_text text a q) same (run_on text a (p + 1) bs t (run_more is_text text a p r e some))

-- a text ends at the break after it
pub text_end : (text : List ℕ) (p : ℕ) (bs : List ℕ) → AllText text p bs
    → 0 < break_width text (p + length bs) → line_end text p ≡ p + length bs
text_end text p bs t w = run_done is_text text p (p + length bs) (run_on text p p bs t (run_start is_text text p)) (no_text_there (byte text (p + length bs)) (break_width text (p + length bs)) w)

-- ---- spaces

spaces_full : (n : ℕ) (text : List ℕ) (p : ℕ) → Has text p (replicate n 32) → spaces n text p ≡ n
unfolding spaces
spaces_full zero text p h = refl
spaces_full (suc n) text p (e, h) = rw e (ap (λ k. suc k) (spaces_full n text (p + 1) h))

spaces_none : (n : ℕ) (text : List ℕ) (p : ℕ) → byte text p ≢ 32 → spaces n text p ≡ 0
unfolding spaces
spaces_none zero text p h = refl
spaces_none (suc n) text p h = rw (no_space (byte text p) h) refl

spaces_left : (k n : ℕ) (text : List ℕ) (p : ℕ) → k ≤ n → Has text p (replicate k 32)
    → byte text (p + k) ≢ 32 → spaces n text p ≡ k
unfolding spaces
spaces_left zero n text p l h e = spaces_none n text p (subst (λ q. byte text q ≢ 32) (add-zero p) e)
spaces_left (suc k) zero text p l h e = absurd (omega (arith, l))
spaces_left (suc k) (suc n) text p l (f, h) e =
    let same : p + suc k ≡ p + 1 + k = omega arith in
    rw f (ap (λ j. suc j) (spaces_left k n text (p + 1) (omega (arith, l)) h (subst (λ q. byte text q ≢ 32) same e)))

pub spaces_column : (k : ℕ) (text : List ℕ) (p : ℕ) → Has text p (replicate k 32)
    → column_at text (p + k) ≡ column_at text p + k
spaces_column zero text p h = let z : p + 0 ≡ p = omega arith in rw z (omega arith)
spaces_column (suc k) text p (e, h) = grind (arith, nat_tests, space_column, spaces_column k text (p + 1) h)

-- ---- a line

spot_from : (n k : ℕ) (text : List ℕ) (p : ℕ) → column_at text p ≡ 0 → spaces n text p ≡ k
    → line_spot n text p ≡ spot_behind n text (p + k)
spot_from n k text p c s = ap (λ m. spot_behind n text (p + spaces m text p)) (omega arith) ∙ ap (λ m. spot_behind n text (p + m)) s

no_tab : (b col n : ℕ) → b ≢ 9 → (b == 9 && nat_lt col n) ≡ false
no_tab b col n h = grind (arith, nat_tests)

some_width : (n w : ℕ) → w ≡ n → 0 < n → 0 < w
some_width n w e h = omega arith

mark_long : (b : LineBreak) (m : LineMark) → 0 < length (mark_bytes b m)
mark_long b m = grind (arith, nat_tests)

-- what a line in a text is: what is read, and the place after it, at the start of a line
record IsLine (n : ℕ) (text : List ℕ) (p : ℕ) (l : BlockLine) (q : ℕ) : Type 0 where
  spot : line_spot n text p ≡ Line l q
  start : p < length text
  inside : q ≤ length text
  column : column_at text q ≡ 0

bare_line : (n : ℕ) (b : LineBreak) (m : LineMark) (text : List ℕ) (p : ℕ) → column_at text p ≡ 0
    → Has text p (mark_bytes b m) → NoFeed b (byte text (p + length (mark_bytes b m)))
    → IsLine n text p (Empty (mark_means m)) (p + length (mark_bytes b m))
bare_line n b m text p c h f = grind (arith, nat_tests, breaks, some_width, mark_long, past_break, spot_from, spaces_none, no_space, empty_spot, no_tab, within)

feed_is : (text : List ℕ) (p : ℕ) (m : LineMark) → 0 < break_width text p
    → break_value text p ≡ mark_means m → feed_at text p ≡ mark_means m
feed_is text p m h e = let t : nat_lt 0 (break_width text p) ≡ true = grind (arith, nat_tests) in cond_true (nat_lt 0 (break_width text p)) (break_value text p) [] t ∙ e

text_line : (text : List ℕ) (q e r w : ℕ) (words bs means : List ℕ) → e ≡ q + length words
    → slice_range text q (q + length words) ≡ words → feed_at text (q + length words) ≡ means
    → break_width text (q + length words) ≡ w → q + length words + w ≡ r
    → Line (Words (slice_range text q e) (feed_at text e)) (e + break_width text e)
    ≡ Line (Words words means) r
text_line text q e r w words bs means f g h i j = grind (arith, nat_tests, slice_range)

first_text : (text : List ℕ) (p : ℕ) (bs : List ℕ) → 0 < length bs → AllText text p bs
    → is_text text p ≡ true
first_text text p [] l t = absurd (omega (arith, l))
first_text text p (b ∷ bs) l (e, t) = e

-- the words of a text, after the indentation and before a break
words_line : (n : ℕ) (b : LineBreak) (m : LineMark) (text : List ℕ) (p : ℕ) (words : List ℕ) → 0 < n
    → column_at text p ≡ 0 → Has text p (replicate n 32) → Has text (p + n) words → 0 < length words
    → AllText text (p + n) words → Has text (p + n + length words) (mark_bytes b m)
    → NoFeed b (byte text (p + n + length words + length (mark_bytes b m)))
    → IsLine n text p (Words words (mark_means m)) (p + n + length words + length (mark_bytes b m))
words_line n b m text p words some c sp h long t k f =
    let q = p + n in
    let e = q + length words in
    let d = breaks b m text e k f in
    let w = some_width (length (mark_bytes b m)) (break_width text e) d.width (mark_long b m) in
    let past = past_break text e w in
    let end = text_end text q words t w in
    let col : column_at text q ≡ n = let a = spaces_column n text p sp in omega (arith, a, c) in
    let (positive, none) = text_parts text q (first_text text q words long t) in
    let here = within text e d.some in
    record {
      spot = spot_from n n text p c (spaces_full n text p sp)
          ∙ text_spot n text q (grind (arith, nat_tests)) none (no_stop (byte text q) (column_at text q) n (λ z. omega (arith, z, positive)) col)
          ∙ text_line text q (line_end text q) (e + length (mark_bytes b m)) (length (mark_bytes b m)) words words (mark_means m) end (range_reads text q words h (omega (arith, here)))
          (feed_is text e m w d.value) d.width refl;
      start = omega (arith, here);
      inside = subst (λ j. e + j ≤ length text) d.width past.inside;
      column = subst (λ j. column_at text (e + j) ≡ 0) d.width past.column;
    }

-- ---- lines

stop_feed : (text : List ℕ) (p : ℕ) → break_width text p ≡ 0 → byte text p ≢ 10
unfolding break_of
stop_feed text p w e = let h : break_width text p ≡ 1 = rw e refl in omega (arith, w, h)

-- a text left of a column, by recursion
pub record Left (text : List ℕ) (q n k : ℕ) : Type 0 where
  pub fewer : k < n
  pub spaces : Has text q (replicate k 32)
  pub no_space : byte text (q + k) ≢ 32
  pub no_tab : byte text (q + k) ≢ 9
  pub no_break : break_width text (q + k) ≡ 0

pub left_of : (text : List ℕ) (q n k : ℕ) → StandsLeft text q n k → Left text q n k
left_of text q n k h = record { fewer = h.fewer; spaces = has text q (replicate k 32) h.spaces; no_space = h.behind.no_space; no_tab = h.behind.no_tab; no_break = h.behind.no_break }

space_feed : (b : LineBreak) (x : ℕ) → x ≢ 10 → NoFeed b x
space_feed Cr x h = h
space_feed _ x h = tt

left_feed : (b : LineBreak) (text : List ℕ) (q n k : ℕ) → Left text q n k → NoFeed b (byte text q)
left_feed b text q n zero l = space_feed b (byte text q) (subst (λ r. byte text r ≢ 10) (add-zero q) (stop_feed text (q + 0) l.no_break))
left_feed b text q n (suc k) l = let (e, h) = l.spaces in space_feed b (byte text q) (λ f. omega (arith, e, f))

spaced_feed : (b : LineBreak) (n : ℕ) (text : List ℕ) (q : ℕ) (xs : List ℕ) → 0 < n
    → Has text q (replicate n 32 ++ xs) → NoFeed b (byte text q)
spaced_feed b zero text q xs some h = absurd (omega (arith, some))
spaced_feed b (suc n) text q xs some (e, h) = space_feed b (byte text q) (λ f. omega (arith, e, f))

mark_feed_none : (b : LineBreak) (m : LineMark) (text : List ℕ) (q : ℕ)
    → Has text q (mark_bytes b m) → NoFeed b (byte text q)
mark_feed_none b m text q h = grind (arith, nat_tests, space_feed)

line_feed : (b : LineBreak) (n : ℕ) (l : BodyLine) (text : List ℕ) (q : ℕ) → 0 < n
    → Has text q (line_bytes b n l) → NoFeed b (byte text q)
line_feed b n (bare m) text q some h = mark_feed_none b m text q h
line_feed b n (full x xs m) text q some h = spaced_feed b n text q (encode_utf8_all (x ∷ xs) ++ mark_bytes b m) some h

-- what is after a line is no LF of its own, after CR
pub next_feed : (b : LineBreak) (n k : ℕ) (ls : List BodyLine) (text : List ℕ) (q e : ℕ) → 0 < n
    → Has text q (body_bytes b n ls) → e ≡ q + length (body_bytes b n ls) → Left text e n k
    → NoFeed b (byte text q)
unfolding body_bytes
next_feed b n k [] text q e some h f l = let z : e ≡ q = omega (arith, f) in subst (λ r. NoFeed b (byte text r)) z (left_feed b text e n k l)
next_feed b n k (x ∷ ls) text q e some h f l = line_feed b n x text q some (has_front text q (line_bytes b n x) (body_bytes b n ls) h)

pub length_more : (x : ℕ) (xs : List ℕ) → 0 < length (encode_utf8_all (x ∷ xs))
length_more x xs = grind (arith, nat_tests, encode_utf8_all, encode_1, encode_2, encode_3, encode_4)

line_length : (n : ℕ) (words bs : List ℕ)
    → length (replicate n 32 ++ (words ++ bs)) ≡ n + length words + length bs
line_length n words bs = grind (arith, nat_tests, length-append, length_spaces)

unfoldable OneIsInside : BodyLine → Type 0
OneIsInside (bare m) = Unit {0}
OneIsInside (full x xs m) = are_inside (x ∷ xs) ≡ true

line_is : (b : LineBreak) (n : ℕ) (l : BodyLine) (text : List ℕ) (p : ℕ) → 0 < n → OneIsInside l
    → column_at text p ≡ 0 → Has text p (line_bytes b n l)
    → NoFeed b (byte text (p + length (line_bytes b n l)))
    → IsLine n text p (read_line l) (p + length (line_bytes b n l))
unfolding OneIsInside
line_is b n (bare m) text p some i c h f = bare_line n b m text p c h f
line_is b n (full x xs m) text p some i c h f =
    let words = encode_utf8_all (x ∷ xs) in
    let size = line_length n words (mark_bytes b m) in
    let far : p + length (replicate n 32 ++ (words ++ mark_bytes b m)) ≡ p + n + length words + length (mark_bytes b m) = omega (arith, size) in
    let sp = has_front text p (replicate n 32) (words ++ mark_bytes b m) h in
    let spaced : p + length {A = ℕ} (replicate n 32) ≡ p + n = let s = length_spaces n in omega (arith, s) in
    let rest : Has text (p + n) (words ++ mark_bytes b m) = subst (λ q. Has text q (words ++ mark_bytes b m)) spaced (has_rest text p (replicate n 32) (words ++ mark_bytes b m) h) in
    let w = has_front text (p + n) words (mark_bytes b m) rest in
    subst (λ q. IsLine n text p (Words words (mark_means m)) q) (sym far)
    (words_line n b m text p words some c sp w (length_more x xs) (chars_text text (p + n) (x ∷ xs) i w) (has_rest text (p + n) words (mark_bytes b m) rest) (subst (λ q. NoFeed b (byte text q)) far f))

lines_stop : (fuel n k : ℕ) (text : List ℕ) (end p : ℕ) → column_at text p ≡ 0
    → length text < p + fuel → p ≤ length text → Left text p n k
    → lines_from fuel n text end p ≡ Ok record { lines = []; end = end; place = p + k }
unfolding lines_from
lines_stop zero n k text end p c room l h = absurd (omega (arith, room, l))
lines_stop (suc fuel) n k text end p c room l h =
    let fewer = h.fewer in
    let col = spaces_column k text p h.spaces in
    let spot = spot_from n k text p c (spaces_left k n text p (omega (arith, fewer)) h.spaces h.no_space)
    ∙ end_spot n text (p + k) (no_tab (byte text (p + k)) (column_at text (p + k)) n h.no_tab) h.no_break (stop_short (byte text (p + k)) (column_at text (p + k)) n (λ e. omega (arith, e, col, c, fewer))) in
    ap (λ s. line_then (λ q. lines_from fuel n text q q) end s) spot

with_first : (l : BlockLine) (ls : List BlockLine) (e q : ℕ) (r : Result Lines Wrong)
    → r ≡ Ok record { lines = ls; end = e; place = q }
    → with_line l r ≡ Ok record { lines = l ∷ ls; end = e; place = q }
with_first l ls e q r h = ap (λ s. with_line l s) h

line_grows : (b : LineBreak) (n : ℕ) (l : BodyLine) → 0 < length (line_bytes b n l)
line_grows b n l = grind (arith, nat_tests, mark_long, line_length, encode_utf8_all, length_more)

one_inside : (l : BodyLine) (ls : List BodyLine) → AreInside (l ∷ ls) → OneIsInside l × AreInside ls
unfolding OneIsInside
one_inside (bare m) ls h = (tt, h)
one_inside (full x xs m) ls (e, h) = (e, h)

body_read : (b : LineBreak) (n k : ℕ) (ls : List BodyLine) (text : List ℕ) (fuel p e : ℕ) → 0 < n
    → AreInside ls → column_at text p ≡ 0 → length text < p + fuel → p ≤ length text
    → Has text p (body_bytes b n ls)
    → e ≡ p + length (body_bytes b n ls) → Left text e n k
    → lines_from fuel n text p p ≡ Ok record { lines = read_lines ls; end = e; place = e + k }
unfolding body_bytes lines_from
body_read b n k [] text fuel p e some i c room l h f s =
    let same : e ≡ p = omega (arith, f) in
    subst (λ x. lines_from fuel n text p p ≡ Ok record { lines = []; end = x; place = x + k }) (sym same) (lines_stop fuel n k text p p c room l (subst (λ x. Left text x n k) same s))
body_read b n k (x ∷ ls) text zero p e some i c room l h f s = absurd (omega (arith, room, l))
body_read b n k (x ∷ ls) text (suc fuel) p e some i c room l h f s =
    let (one, more) = one_inside x ls i in
    let bs = line_bytes b n x in
    let cs = body_bytes b n ls in
    let size = length-append bs cs in
    let q = p + length bs in
    let far : e ≡ q + length cs = omega (arith, f, size) in
    let rest = has_rest text p bs cs h in
    let here = line_is b n x text p some one c (has_front text p bs cs h) (next_feed b n k ls text q e some rest far s) in
    let start = here.start in
    let longer : length text < q + fuel = let g = line_grows b n x in omega (arith, room, g) in
    ap (λ t. line_then (λ r. lines_from fuel n text r r) p t) here.spot
    ∙ with_first (read_line x) (read_lines ls) e (e + k) (lines_from fuel n text q q) (body_read b n k ls text fuel q e some more here.column longer here.inside rest far s)

-- the lines of a body, before a text that is left of them
pub body_reads : (b : LineBreak) (n k : ℕ) (ls : List BodyLine) (text : List ℕ) (p e : ℕ) → 0 < n
    → AreInside ls → column_at text p ≡ 0 → p ≤ length text → Has text p (body_bytes b n ls)
    → e ≡ p + length (body_bytes b n ls) → StandsLeft text e n k
    → lines_from (suc (length text)) n text p p
    ≡ Ok record { lines = read_lines ls; end = e; place = e + k }
body_reads b n k ls text p e some i c l h f s = body_read b n k ls text (suc (length text)) p e some i c (omega arith) l h f (left_of text e n k s)

-- after them a line starts
pub body_column : (b : LineBreak) (n k : ℕ) (ls : List BodyLine) (text : List ℕ) (p e : ℕ) → 0 < n
    → AreInside ls → column_at text p ≡ 0 → Has text p (body_bytes b n ls)
    → e ≡ p + length (body_bytes b n ls) → Left text e n k → column_at text e ≡ 0
unfolding body_bytes
body_column b n k [] text p e some i c h f s = let same : p ≡ e = omega (arith, f) in subst (λ x. column_at text x ≡ 0) same c
body_column b n k (x ∷ ls) text p e some i c h f s =
    let (one, more) = one_inside x ls i in
    let bs = line_bytes b n x in
    let cs = body_bytes b n ls in
    let size = length-append bs cs in
    let q = p + length bs in
    let far : e ≡ q + length cs = omega (arith, f, size) in
    let rest = has_rest text p bs cs h in
    let here = line_is b n x text p some one c (has_front text p bs cs h) (next_feed b n k ls text q e some rest far s) in
    body_column b n k ls text q e some more here.column rest far s

-- ---- characters and bytes

line_encodes : (b : LineBreak) (n : ℕ) (l : BodyLine)
    → encode_utf8_all (line_text b n l) ≡ line_bytes b n l
line_encodes b n (bare m) = text_encodes b m
line_encodes b n (full x xs m) =
    encodes-append (replicate n 32) ((x ∷ xs) ++ mark_text b m) ∙ ap (λ t. t ++ encode_utf8_all ((x ∷ xs) ++ mark_text b m)) (spaces_low n)
    ∙ ap (λ t. replicate n 32 ++ t) (encodes-append (x ∷ xs) (mark_text b m) ∙ ap (λ t. encode_utf8_all (x ∷ xs) ++ t) (text_encodes b m))

pub body_encodes : (b : LineBreak) (n : ℕ) (ls : List BodyLine)
    → encode_utf8_all (body_text b n ls) ≡ body_bytes b n ls
unfolding body_text body_bytes
body_encodes b n [] = refl
body_encodes b n (l ∷ ls) = encodes-append (line_text b n l) (body_text b n ls) ∙ ap (λ t. t ++ encode_utf8_all (body_text b n ls)) (line_encodes b n l) ∙ ap (λ t. line_bytes b n l ++ t) (body_encodes b n ls)
