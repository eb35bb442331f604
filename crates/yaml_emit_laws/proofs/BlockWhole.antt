-- A block scalar and the line after it, and both at a position of a layout.
use Rattle.std.proofs.Common.{◌≡◌, ℕ, zero, suc, ◌+◌, ◌-◌, ◌<◌, ◌≤◌, Bool, true, false, ◌&&◌, ◌||◌, ◌==◌, List, ◌++◌, length, replicate, Option, Some, None, refl, sym, ap, subst, ◌∙◌, arith, append_assoc, encode_utf8_all, if◌then◌else◌, chars, length-append, ◌≢◌, Ok, add-zero, nat_lt, [], ◌∷◌, Result, encode_utf8}
use Rattle.yaml_emit_laws.proofs.ScalarWords.{encodes-append, encode_ascii, encodes-chars, HasAt, has, has_front, has_rest, has_at, Has, Cursor, LineBreak, Style, Rest, line, when, char, new_line, allowed, single_or, block_or, plain_or, taken, somewhere, is_special, ends_in_space, last_or, chomp, ends_in_break, digit_char, chomp_mark, scalar_text, in_front, break_text, yaml_scalar_style_t, NodePosition, Scalar, is_some, scalar_tag, Context, is_simple_part, deeper, style_of, page_at, front_append, moved_by, closing, NoWhite, own, mark_bytes, BodyLine, full, body_text, body_bytes, read_lines, AreInside, StandsLeft, is_keep, BlockStands, BlockReads, BlockIsReadBack, BlockBeforeLine, margin_round, block_style, BlockIsChosen, BlockAtPosition, from_indicator, kind_of, read_style, BlockIsLaidOut, after_blanks, special_left, at_line, nat_tests, byte, break_width, column_at, is_blank, is_space_there, InRun, run_start, run_more, run_done, no_space, text_parts, not-true, or_parts, eqb-false, Wrong, is_document_start, is_document_end, indicator_of, kind_at, blocked, lexeme_at, starts_blank, block_value, stacked_with, chomp_at, Lines, lines_from, Chomp, letter, is_break, is_printable, first, cond_true}
use Rattle.yaml_emit_layout.specs.declared.page.Page.{Page}
use Rattle.yaml_emit_layout.specs.declared.page.Allowed.{Allowed}
use Rattle.yaml_emit_layout.specs.declared.Style.TheVariants as style
use Rattle.yaml_emit_laws.proofs.BlockLayouts.{line_is, start_is, new_line_is}
use Rattle.yaml_emit_laws.proofs.BlockReading.{spaces_column, left_of, next_feed, length_more, AllText, chars_text, body_reads, body_column, body_encodes}
use Rattle.yaml_scan_history.specs.Block.{larger, column_of, BlockText, block_with, block_at, style_at}
use Rattle.yaml_scan_history.proofs.DepthLemmas.{depth_done, column_given, column_found}
use Rattle.yaml_scan_history.proofs.ScalarLemmas.{block_found}
use Rattle.yaml_emit_layout.specs.declared.page.Chomp.TheVariants as chomping
use Rattle.yaml_emit_laws.proofs.BlockHeader.{text_encodes, text_blank, digit_text, digit_value, chomp_text, header_reads}
use Rattle.yaml_emit_laws.proofs.BlockWaiting.{read_chomp, Waits}
use Rattle.yaml_emit_laws.proofs.BlockValues.{AreGood, HasFirst, Begins, Starts, starts, unblank}
use Rattle.yaml_emit_laws.proofs.Writing.{spaces_low}
use Rattle.yaml_emit_laws.proofs.Turns.{length_spaces}

-- ---- the line after

spaced_cursor : (m k : ℕ) (kept : Bool)
    → after_blanks m (record { column = k; white = true; bare = true; kept = kept })
    ≡ record { column = k + m; white = true; bare = true; kept = kept }
spaced_cursor zero k kept = let e : k ≡ k + 0 = omega arith in ap (λ j. record { column = j; white = true; bare = true; kept = kept }) e
spaced_cursor (suc m) k kept =
    let e : k + 1 + m ≡ k + suc m = omega arith in
    spaced_cursor m (k + 1) kept ∙ ap (λ j. record { column = j; white = true; bare = true; kept = kept }) e

spaced_start : (m : ℕ) (kept : Bool)
    → after_blanks m (at_line kept) ≡ record { column = m; white = true; bare = true; kept = kept }
spaced_start m kept = let e : 0 + m ≡ m = omega arith in spaced_cursor m 0 kept ∙ ap (λ j. record { column = j; white = true; bare = true; kept = kept }) e

-- the cursor after a line's spaces
abbrev line_cursor : ℕ → Bool → Cursor
line_cursor m kept = record { column = m; white = true; bare = true; kept = kept }

line_behind : (b : LineBreak) (ended : Bool) (kept : Bool) (d : Cursor) (m : ℕ) (rest : Rest)
    → (ended ≡ true → d ≡ at_line kept) → (ended ≡ false → d.bare ≡ false) → d.kept ≡ kept
    → line b m d rest ≡ in_front (closing b ended ++ replicate m 32) (rest (line_cursor m kept))
line_behind b ended kept d m rest f g h = grind (arith, nat_tests, start_is, spaced_start, line_is)

line_bytes_are : (letters close : List ℕ) (m : ℕ)
    → encode_utf8_all (letters ++ (close ++ replicate m 32)) ≡ encode_utf8_all (letters ++ close)
    ++ replicate m 32
line_bytes_are letters close m =
    ap (λ (t : List ℕ). encode_utf8_all t) (sym (append_assoc letters close (replicate m 32))) ∙ encodes-append (letters ++ close) (replicate m 32)
    ∙ ap (λ (t : List ℕ). encode_utf8_all (letters ++ close) ++ t) (spaces_low m)

read_line_behind : (page : Page) (digit : ℕ) (folded : Bool) (level : ℕ) (c : Cursor)
    (value : List ℕ) (m : ℕ) (r : BlockReads page digit folded level c value) → m < page.indentation
    → (text : List ℕ) (p end : ℕ)
    → HasAt text p (encode_utf8_all (r.letters
    ++ closing page.line_break (ends_in_break (chars value))) ++ replicate m 32)
    → NoWhite text (p + length (encode_utf8_all
    (r.letters ++ closing page.line_break (ends_in_break (chars value))) ++ replicate m 32))
    → end + m ≡ p + length (encode_utf8_all
    (r.letters ++ closing page.line_break (ends_in_break (chars value))) ++ replicate m 32)
    → BlockStands folded level text p value end m
read_line_behind page digit folded level c value m r left text p end h n e =
    let bs = encode_utf8_all (r.letters ++ closing page.line_break (ends_in_break (chars value))) in
    let all = has text p (bs ++ replicate m 32) h in
    let size = length-append bs (replicate m 32) in
    let wide = length_spaces m in
    let far : p + length (bs ++ replicate m 32) ≡ p + length bs + m = omega (arith, size, wide) in
    let here : p + length bs ≡ end = omega (arith, size, wide, e) in
    subst (λ q. BlockStands folded level text p value q m) here
    (r.read text p m (has_at text p bs (has_front text p bs (replicate m 32) all))
    (record { fewer = left; spaces = has_at text (p + length bs) (replicate m 32) (has_rest text p bs (replicate m 32) all); behind = subst (λ q. NoWhite text q) far n }))

longer_than : (bs : List ℕ) (m : ℕ) → m ≤ length (bs ++ replicate m 32)
longer_than bs m = grind (arith, nat_tests, length-append, length_spaces)

pub block_before_line : BlockIsReadBack → BlockBeforeLine
unfolding in_front
block_before_line law page digit folded level c value m u some small column block left =
    let r = law page digit folded level c value u some small column block in
    let ended = ends_in_break (chars value) in
    let kept = is_keep (chomp true true (chars value)) in
    let close = closing page.line_break ended in
    let behind = close ++ replicate m 32 in
    let bytes = line_bytes_are r.letters close m in
    record {
      letters = r.letters ++ behind;
      inside = r.inside ++ behind;
      begins = ap (λ (t : List ℕ). t ++ behind) r.begins;
      written = λ rest.
          r.written (λ d. line page.line_break m d rest) ∙ ap (in_front r.letters) (line_behind page.line_break ended kept r.behind m rest r.at_start r.in_line r.kept)
          ∙ sym (front_append r.letters behind (rest (line_cursor m kept)));
      read = λ text p end.
          let P : List ℕ → Type 0 = λ bs. HasAt text p bs → NoWhite text (p + length bs) → end + m ≡ p + length bs → BlockStands folded level text p value end m in
          subst P (sym bytes) (λ h n e. read_line_behind page digit folded level c value m r left text p end h n e);
      longer = subst (λ (bs : List ℕ). m ≤ length bs) (sym bytes) (longer_than (encode_utf8_all (r.letters ++ close)) m);
    }

-- ---- the style that is chosen

abbrev IsBlock : Style → Type 0
IsBlock style.Plain = ⊥
IsBlock style.Single = ⊥
IsBlock style.Double = ⊥
IsBlock style.Literal = Unit {0}
IsBlock style.Folded = Unit {0}

block_is : (folded : Bool) → IsBlock (block_style folded)
block_is true = tt
block_is false = tt

single_not : (a : Allowed) → IsBlock (single_or a) → ⊥
single_not a h = grind (arith, nat_tests)

plain_not : (a : Allowed) (untagged flow simple empty : Bool)
    → IsBlock (plain_or a untagged flow simple empty) → ⊥
plain_not a untagged flow simple empty = grind (arith, nat_tests, single_not)

block_by : (a : Allowed) (flow simple : Bool) (s : Style) → IsBlock (block_or a flow simple s)
    → (a.block ≡ true) × (flow ≡ false) × (simple ≡ false)
block_by a flow simple s h = grind (arith, nat_tests)

taken_block : (a : Allowed) (s : yaml_scalar_style_t) (untagged flow simple empty : Bool)
    → IsBlock (taken a s untagged flow simple empty)
    → (a.block ≡ true) × (flow ≡ false) × (simple ≡ false)
unfolding taken
taken_block a s untagged flow simple empty h = grind (arith, nat_tests, single_not, block_by, plain_not)

pretty_block : (canonical : Bool) (s : Style) → IsBlock (if canonical then style.Double else s)
    → (canonical ≡ false) × IsBlock s
pretty_block true s h = absurd h
pretty_block false s h = (refl, h)

chosen : (p : Context) (at : NodePosition) (x : Scalar) → IsBlock (style_of p at x)
    → BlockIsChosen p at x
unfolding style_of
chosen p at x h =
    let (pretty, block) = pretty_block p.settings.canonical _ h in
    let (allows, outside, whole) = taken_block (allowed p.settings.unicode (chars x.value)) x.style (is_some (scalar_tag false x) || x.plain) at.flow (is_simple_part at.part) (length x.value == 0) block in
    record { outside = outside; whole = whole; pretty = pretty; allows = allows }

column_round : (p : Context) (o : Option ℕ)
    → (margin_round o - 1) + p.settings.indent ≡ deeper p.settings o
column_round p None = omega arith
column_round p (Some n) = omega arith

pub block_at_position : BlockIsReadBack → BlockAtPosition
block_at_position law p at x folded c m u some small same left =
    let is = chosen p at x (subst (λ s. IsBlock s) (sym same) (block_is folded)) in
    (is, block_before_line law (page_at p.settings at) p.settings.indent folded (margin_round at.around) c x.value m u some small (column_round p at.around) is.allows left)

-- ==== The column of a block scalar's text, by digit and without.

spaces_run : (k : ℕ) (text : List ℕ) (a p : ℕ) → Has text p (replicate k 32)
    → InRun is_space_there text a p → InRun is_space_there text a (p + k)
spaces_run zero text a p h r = subst (λ q. InRun is_space_there text a q) (sym (add-zero p)) r
spaces_run (suc k) text a p (e, h) r =
    let same : p + 1 + k ≡ p + suc k = omega arith in
    subst (λ q. InRun is_space_there text a q) same (spaces_run k text a (p + 1) h (run_more is_space_there text a p r (grind (arith, nat_tests)) (omega (arith, e))))

-- without a digit the first line says it
pub column_by_text : (level n : ℕ) (text : List ℕ) (p : ℕ) → level ≤ n → 0 < n
    → column_at text p ≡ 0 → Has text p (replicate n 32) → byte text (p + n) ≢ 32
    → byte text (p + n) ≢ 9 → break_width text (p + n) ≡ 0
    → column_of level text 0 p ≡ Ok n
unfolding larger
column_by_text level n text p l some c h e t w =
    let here = run_done is_space_there text p (p + n) (spaces_run n text p p h (run_start is_space_there text p)) (no_space (byte text (p + n)) e) in
    let col : column_at text (p + n) ≡ n = let s = spaces_column n text p h in omega (arith, s, c) in
    column_found level text 0 p refl
    ∙ depth_done (length text) text p (larger level 1) (subst (λ q. byte text q ≢ 9) (sym here) t) (subst (λ q. break_width text q ≡ 0) (sym here) w)
    ∙ ap (λ q. Ok (larger (larger level 1) (column_at text q))) here ∙ ap (λ j. Ok (larger (larger level 1) j)) col ∙ ap (λ j. Ok j) (grind (arith, nat_tests))

-- ==== What is written for a block scalar is read as its value.

-- ---- what a value is that allows it

all_good : (unicode : Bool) (before : ℕ) (xs : List ℕ)
    → somewhere (is_special unicode) before xs ≡ false → AreGood xs
unfolding somewhere
all_good unicode before [] e = tt
all_good unicode before (x ∷ xs) e =
    let here : is_special unicode before x (first xs) ≡ false = (or_parts _ _ e).0 in
    (special_left (is_printable x) _ (or_parts _ (x == 32 && is_break (first xs)) here).0, (or_parts _ (x == 32 && is_break (first xs)) here).1, all_good unicode x xs (or_parts (is_special unicode before x (first xs)) _ e).1)

-- its first character and others
record Allows (cs : List ℕ) : Type 0 where
  first : ℕ
  others : List ℕ
  is : cs ≡ first ∷ others
  good : AreGood cs
  last : (last_or 10 cs == 32) ≡ false

allows : (unicode : Bool) (cs : List ℕ) → (allowed unicode cs).block ≡ true → Allows cs
unfolding allowed last_or
allows unicode [] e = absurd (cc)
allows unicode (x ∷ xs) e =
    let none = not-true _ e in
    record { first = x; others = xs; is = refl; good = all_good unicode 32 (x ∷ xs) (or_parts _ (ends_in_space (x ∷ xs)) none).0; last = (or_parts (somewhere (is_special unicode) 32 (x ∷ xs)) _ none).1 }

nothing_waits : (folded : Bool) (cs : List ℕ) → Waits folded false true false [] [] true cs
nothing_waits folded cs = grind (arith, nat_tests)

-- ---- the header is written

-- a digit is due
abbrev is_shown : List ℕ → Bool
is_shown cs = first cs == 32 || is_break (first cs)

abbrev after_digit : Bool → Cursor → Cursor
after_digit true c = moved_by c
after_digit false c = c

digit_char_is : (d : ℕ) → d < 10 → digit_char d ≡ 48 + d
digit_char_is d h = let e : nat_lt d 10 ≡ true = grind (arith, nat_tests) in cond_true (nat_lt d 10) (48 + d) 50 e

digit_is : (shown : Bool) (d : ℕ) (c : Cursor) (rest : Rest) → d < 10
    → when shown (char (digit_char d)) c rest
    ≡ in_front (digit_text shown d) (rest (after_digit shown c))
unfolding in_front
digit_is true d c rest h = ap (λ x. letter x ∷ rest (moved_by c)) (digit_char_is d h)
digit_is false d c rest h = refl

abbrev after_chomp : Chomp → Cursor → Cursor
after_chomp chomping.Strip c = record { column = c.column + 1; white = false; bare = false; kept = false }
after_chomp chomping.Clip c = record { column = c.column; white = c.white; bare = c.bare; kept = false }
after_chomp chomping.Keep c = record { column = c.column + 1; white = false; bare = false; kept = true }

chomp_is : (k : Chomp) (c : Cursor) (rest : Rest)
    → chomp_mark k c rest ≡ in_front (chomp_text k) (rest (after_chomp k c))
unfolding in_front
chomp_is chomping.Strip c rest = refl
chomp_is _ c rest = refl

chomp_kept : (k : Chomp) (c : Cursor) → (after_chomp k c).kept ≡ is_keep k
chomp_kept chomping.Strip c = refl
chomp_kept _ c = refl

abbrev header_text : Bool → ℕ → Chomp → LineBreak → List ℕ
header_text shown d k b = digit_text shown d ++ (chomp_text k ++ break_text b)

header_is : (shown : Bool) (d : ℕ) (k : Chomp) (b : LineBreak) (c : Cursor) (rest : Rest) → d < 10
    → when shown (char (digit_char d)) c (λ e. chomp_mark k e (λ f. new_line b f rest))
    ≡ in_front (header_text shown d k b) (rest (at_line (is_keep k)))
header_is shown d k b c rest h = grind (arith, nat_tests, digit_is, chomp_is, new_line_is, chomp_kept, front_append)

-- ---- its bytes

digit_encodes : (shown : Bool) (d : ℕ) → d < 10
    → encode_utf8_all (digit_text shown d) ≡ digit_text shown d
digit_encodes true d h = ap (λ (t : List ℕ). t ++ []) (encode_ascii (48 + d) (omega (arith, h)))
digit_encodes false d h = refl

chomp_encodes : (k : Chomp) → encode_utf8_all (chomp_text k) ≡ chomp_text k
chomp_encodes chomping.Strip = ap (λ (t : List ℕ). t ++ []) (encode_ascii 45 (omega arith))
chomp_encodes chomping.Clip = refl
chomp_encodes chomping.Keep = ap (λ (t : List ℕ). t ++ []) (encode_ascii 43 (omega arith))

header_encodes : (shown : Bool) (d : ℕ) (k : Chomp) (b : LineBreak) → d < 10
    → encode_utf8_all (header_text shown d k b) ≡ header_text shown d k b
header_encodes shown d k b h =
    encodes-append (digit_text shown d) (chomp_text k ++ break_text b) ∙ ap (λ (t : List ℕ). t ++ encode_utf8_all (chomp_text k ++ break_text b)) (digit_encodes shown d h)
    ∙ ap (λ (t : List ℕ). digit_text shown d ++ t) (encodes-append (chomp_text k) (break_text b) ∙ ap (λ (t : List ℕ). t ++ encode_utf8_all (break_text b)) (chomp_encodes k) ∙ ap (λ (t : List ℕ). chomp_text k ++ t) (text_encodes b own))

abbrev sign : Bool → ℕ
sign folded = if folded then 62 else 124

sign_encodes : (folded : Bool) → encode_utf8 (sign folded) ≡ sign folded ∷ []
sign_encodes true = encode_ascii 62 (omega arith)
sign_encodes false = encode_ascii 124 (omega arith)

bytes_are : (folded : Bool) (header letters close body bytes : List ℕ)
    → encode_utf8_all header ≡ header → letters ++ close ≡ body → encode_utf8_all body ≡ bytes
    → encode_utf8_all ((sign folded ∷ (header ++ letters)) ++ close) ≡ sign folded
    ∷ (header ++ bytes)
bytes_are folded header letters close body bytes e f g =
    ap (λ (t : List ℕ). encode_utf8_all (sign folded ∷ t)) (append_assoc header letters close ∙ ap (λ (t : List ℕ). header ++ t) f)
    ∙ ap (λ (t : List ℕ). t ++ encode_utf8_all (header ++ body)) (sign_encodes folded)
    ∙ ap (λ (t : List ℕ). sign folded ∷ t) (encodes-append header body ∙ ap (λ (t : List ℕ). t ++ encode_utf8_all body) e ∙ ap (λ (t : List ℕ). header ++ t) g)

-- ---- the column

blank_here : (text : List ℕ) (q : ℕ) (bs : List ℕ) → 0 < length bs → Has text q bs
    → is_blank (byte text q) ≡ starts_blank bs
blank_here text q [] l h = absurd (omega (arith, l))
blank_here text q (b ∷ bs) l (e, h) = ap (λ x. is_blank x) e

no_blank : (b : ℕ) → (b == 32 || b == 9) ≡ false → (b ≢ 32) × (b ≢ 9)
no_blank b e = (eqb-false b 32 (or_parts (b == 32) (b == 9) e).0, eqb-false b 9 (or_parts (b == 32) (b == 9) e).1)

text_here : (text : List ℕ) (q : ℕ) (bs : List ℕ) → 0 < length bs → AllText text q bs
    → break_width text q ≡ 0
text_here text q [] l h = absurd (omega (arith, l))
text_here text q (b ∷ bs) l (e, h) = let (some, none) = text_parts text q e in none

-- the first line has a text, which begins with no blank
column_first : (b : LineBreak) (level n x : ℕ) (ls : List BodyLine) (text : List ℕ) (p : ℕ)
    → level ≤ n → 0 < n → column_at text p ≡ 0 → HasFirst x ls → is_blank x ≡ false → AreInside ls
    → Has text p (body_bytes b n ls)
    → column_of level text 0 p ≡ Ok n
unfolding body_bytes
column_first b level n x (full y ys m ∷ ls) text p l some c f e (j, i) h =
    let words = encode_utf8_all (y ∷ ys) in
    let spaces = replicate n 32 in
    let line = has_front text p (spaces ++ (words ++ mark_bytes b m)) (body_bytes b n ls) h in
    let sp = has_front text p spaces (words ++ mark_bytes b m) line in
    let far : p + length {A = ℕ} spaces ≡ p + n = ap (λ k. p + k) (length_spaces n) in
    let rest : Has text (p + n) (words ++ mark_bytes b m) = subst (λ q. Has text q (words ++ mark_bytes b m)) far (has_rest text p spaces (words ++ mark_bytes b m) line) in
    let w = has_front text (p + n) words (mark_bytes b m) rest in
    let long = length_more y ys in
    let (space, tab) = no_blank (byte text (p + n)) (blank_here text (p + n) words long w ∙ text_blank y ys ∙ ap (λ z. is_blank z) (sym f) ∙ e) in
    column_by_text level n text p l some c sp space tab (text_here text (p + n) words long (chars_text text (p + n) (y ∷ ys) j w))
column_first b level n x _ text p l some c f e i h = absurd f

column_is : (b : LineBreak) (shown : Bool) (level n digit : ℕ) (cs : List ℕ) (ls : List BodyLine)
    (text : List ℕ) (p : ℕ) → Allows cs → is_shown cs ≡ shown → 0 < digit → (level - 1) + digit ≡ n
    → column_at text p ≡ 0
    → Begins cs ls → AreInside ls → Has text p (body_bytes b n ls)
    → column_of level text (digit_value shown digit) p ≡ Ok n
column_is b true level n digit cs ls text p a s some e c f i h = column_given level text digit p some ∙ ap (λ j. Ok j) e
column_is b false level n digit [] ls text p a s some e c f i h = let bad = a.is in absurd (cc)
column_is b false level n digit (x ∷ xs) ls text p a s some e c f i h =
    let (good, part, more) = a.good in
    column_first b level n x ls text p (omega (arith, e, some)) (omega (arith, e, some)) c (f (or_parts (x == 32) (is_break x) s).1) (unblank x good (or_parts (x == 32) (is_break x) s).0) i h

-- ---- kind and word

none_there : (a b : Bool) → (a && false && b) ≡ false
none_there true b = refl
none_there false b = refl

no_start : (folded : Bool) (text : List ℕ) (p : ℕ) → byte text p ≡ sign folded
    → is_document_start text p ≡ false
unfolding is_document_start
no_start true text p e = rw e (none_there (column_at text p == 0) _)
no_start false text p e = rw e (none_there (column_at text p == 0) _)

no_document_end : (folded : Bool) (text : List ℕ) (p : ℕ) → byte text p ≡ sign folded
    → is_document_end text p ≡ false
unfolding is_document_end
no_document_end true text p e = rw e (none_there (column_at text p == 0) _)
no_document_end false text p e = rw e (none_there (column_at text p == 0) _)

kind_by : (folded : Bool) (text : List ℕ) (p : ℕ) → byte text p ≡ sign folded
    → is_document_start text p ≡ false → is_document_end text p ≡ false
    → kind_at false text p ≡ Some (kind_of folded)
unfolding kind_at indicator_of
kind_by true text p e s f = rw (e, s, f) refl
kind_by false text p e s f = rw (e, s, f) refl

style_is : (folded : Bool) (text : List ℕ) (p : ℕ) → byte text p ≡ sign folded
    → style_at text p ≡ read_style folded
style_is true text p e = rw e refl
style_is false text p e = rw e refl

word_is : (folded : Bool) (level : ℕ) (text : List ℕ) (p : ℕ)
    → lexeme_at (kind_of folded) false level text p
    ≡ blocked (style_at text p) (block_at level text p)
unfolding lexeme_at
word_is true level text p = refl
word_is false level text p = refl

stands_by : (folded : Bool) (level : ℕ) (text : List ℕ) (p : ℕ) (value : List ℕ) (end k : ℕ)
    → byte text p ≡ sign folded → column_at text (end + k) ≡ k
    → block_at level text p ≡ Ok record { value = value; end = end; place = end + k }
    → BlockStands folded level text p value end k
stands_by folded level text p value end k e c h = record {
  block = h;
  kind = kind_by folded text p e (no_start folded text p e) (no_document_end folded text p e);
  word = word_is folded level text p ∙ ap (λ s. blocked s (block_at level text p)) (style_is folded text p e) ∙ ap (λ (r : Result BlockText Wrong). blocked (read_style folded) r) h;
  column = c;
}

folds_by : (folded : Bool) (b : ℕ) → b ≡ sign folded → (b == 62) ≡ folded
folds_by true b e = rw e refl
folds_by false b e = rw e refl

-- ---- the whole

-- what is known of a body that was written
record Body (page : Page) (digit : ℕ) (folded : Bool) (level : ℕ) (cs value : List ℕ) (ls : List BodyLine) : Type 0 where
  allows : Allows cs
  some : 0 < digit
  small : digit < 10
  column : (level - 1) + digit ≡ page.indentation
  begins : Begins cs ls
  sound : AreInside ls
  means : block_value folded (chomp_at (read_chomp (chomp true true cs))) (read_lines ls) ≡ value

body_stands : (page : Page) (digit : ℕ) (folded : Bool) (level : ℕ) (cs value : List ℕ)
    (ls : List BodyLine) → Body page digit folded level cs value ls → (text : List ℕ) (p k : ℕ)
    → Has text p (sign folded ∷ (header_text (is_shown cs) digit (chomp true true cs)
    page.line_break ++ body_bytes page.line_break page.indentation ls))
    → StandsLeft text (p + length (sign folded
    ∷ (header_text (is_shown cs) digit (chomp true true cs) page.line_break
    ++ body_bytes page.line_break page.indentation ls))) page.indentation k
    → BlockStands folded level text p value
    (p + length (sign folded ∷ (header_text (is_shown cs) digit (chomp true true cs) page.line_break
    ++ body_bytes page.line_break page.indentation ls))) k
body_stands page digit folded level cs value ls d text p k (here, h) left =
    let b = page.line_break in
    let n = page.indentation in
    let header = header_text (is_shown cs) digit (chomp true true cs) b in
    let body = body_bytes b n ls in
    let end = p + length (sign folded ∷ (header ++ body)) in
    let q = p + 1 + length header in
    let size = length-append header body in
    let far : end ≡ q + length body = omega (arith, size) in
    let deep : 0 < n = let some = d.some in let column = d.column in omega (arith, some, column) in
    let rest = has_rest text (p + 1) header body h in
    let feed = next_feed b n k ls text q end deep rest far (left_of text end n k left) in
    let r = header_reads b (is_shown cs) digit (chomp true true cs) text (p + 1) q d.some d.small refl (has_front text (p + 1) header body h) feed in
    let column = column_is b (is_shown cs) level n digit cs ls text q d.allows refl d.some d.column r.column d.begins d.sound rest in
    let lines = body_reads b n k ls text q end deep d.sound r.column r.inside rest far left in
    let start = body_column b n k ls text q end deep d.sound r.column rest far (left_of text end n k left) in
    let spaced = spaces_column k text end (has text end (replicate k 32) left.spaces) in
    stands_by folded level text p value end k here (omega (arith, start, spaced))
    (block_found level text p n _ r.header column
    ∙ ap (λ f. block_with (block_value f (chomp_at (read_chomp (chomp true true cs)))) (lines_from (suc (length text)) n text q q)) (folds_by folded (byte text p) here)
    ∙ ap (λ (s : Result Lines Wrong). block_with (block_value folded (chomp_at (read_chomp (chomp true true cs)))) s) lines
    ∙ ap (λ (v : List ℕ). let x : Result BlockText Wrong = Ok record { value = v; end = end; place = end + k } in x) d.means)

abbrev behind_block : Cursor → Cursor
behind_block d = record { column = d.column; white = true; bare = d.bare; kept = d.kept }

written_by : (page : Page) (digit : ℕ) (folded : Bool) (cs : List ℕ) (c : Cursor) (rest : Rest)
    (s : Starts page folded false true false [] [] (read_chomp (chomp true true cs)) 10 cs
    (is_keep (chomp true true cs))) → digit < 10
    → from_indicator page digit folded cs c rest
    ≡ in_front (sign folded ∷ (header_text (is_shown cs) digit (chomp true true cs) page.line_break
    ++ s.letters)) (rest (behind_block s.behind))
unfolding in_front
written_by page digit folded cs c rest s small = grind (arith, nat_tests, header_is, front_append)

pub block_back : BlockIsReadBack
unfolding stacked_with
block_back page digit folded level c value u some small column block =
    let cs = chars value in
    let b = page.line_break in
    let chomped = chomp true true cs in
    let kept = is_keep chomped in
    let a = allows page.unicode cs block in
    let s = starts page folded false true false [] [] true (read_chomp chomped) 10 cs kept refl refl a.good a.last (nothing_waits folded cs) in
    let header = header_text (is_shown cs) digit chomped b in
    let inner = header ++ s.letters in
    let whole = sign folded ∷ (header ++ body_bytes b page.indentation s.lines) in
    let bytes = bytes_are folded header s.letters (closing b (ends_in_break cs)) (body_text b page.indentation s.lines) (body_bytes b page.indentation s.lines) (header_encodes (is_shown cs) digit chomped b small) s.whole (body_encodes b page.indentation s.lines) in
    let d : Body page digit folded level cs value s.lines = record {
      allows = a;
      some = some;
      small = small;
      column = column;
      begins = s.begins;
      sound = s.sound;
      means = s.means ∙ (encodes-chars value u);
    } in
    record {
      letters = sign folded ∷ inner;
      inside = inner;
      begins = refl;
      behind = behind_block s.behind;
      written = λ rest. written_by page digit folded cs c rest s small;
      read = λ text p k h l.
          let P : List ℕ → Type 0 = λ bs. HasAt text p bs → StandsLeft text (p + length bs) page.indentation k → BlockStands folded level text p value (p + length bs) k in
          subst P (sym bytes) (λ x y. body_stands page digit folded level cs value s.lines d text p k (has text p whole x) y) h l;
      at_start = λ e. ap behind_block (s.ends.at_start e);
      in_line = λ e. s.ends.in_line e;
      white = refl;
      kept = s.ends.same;
    }

pub block_laid_out : BlockIsLaidOut
unfolding scalar_text
block_laid_out = record { literal = λ page digit flow value. refl; folded = λ page digit flow value. refl }
