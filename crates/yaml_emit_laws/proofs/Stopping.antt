-- Bytes that stop a plain scalar.
use Rattle.std.proofs.Common.{◌≡◌, ℕ, zero, suc, ◌+◌, ◌<◌, Bool, true, false, not, ◌&&◌, ◌||◌, ◌==◌, nat_lt, List, [], ◌∷◌, ◌++◌, length, Option, Some, None, replicate, refl, sym, ap, subst, ◌∙◌, inl, inr, arith, encode_utf8_all, ◌≢◌, ◌/◌, ◌%◌, ◌≤◌, Result, append_assoc, chars}
use Rattle.yaml_emit_laws.proofs.ScalarWords.{true≢false, eqb-true, or_cases, or_left, or_right, and_parts, not-true, or_parts, ne_eqb, cases_lt, get_or_past, byte, break_of, break_width, column_at, is_blank, is_blank_or_end, is_document_indicator, are_gap, is_bracket, after_white, leads, ends_at, PlainText, lead_break, past_break, ends_plain, LineBreak, Lf, Cr, CrLf, first, is_printable, break_text, behind, Left, bytes, left_first, left_more, left_rest, cond_true, cond_false, bool_cases, line_is, after_blanks, line_start, nat_tests, and-false, or-true, is_break, encode_1, encode_2, encode_3, encode_4, low_break, two_break, three_break, four_break, encode_ascii, encodes-chars, indicator_of, plainly, valued, lexeme_at, Page, Layout, ◌▹◌, when, gap, after_text, line, flow_body, plain, Wrong, AreLow, low_encodes, spaces_low, spaced_by, Cursor, SingleSpellingReads, between_single, Sign, sign_begins, sign_kind, sign, front_encodes}
use Rattle.yaml_emit_laws.specs.Walk.{Has}
use Rattle.yaml_emit_laws.proofs.Places.{has_front, has_at}
use Rattle.yaml_emit_laws.specs.Stops.{is_gap_byte, white_of, begins_white, begins_mark, stops_line, stops_here, one_more, column_behind, stops_plain_at, StopsEndPlain, PlainGoesOn, StopsBehindLines, begins_solid, WhatStopsPlain, CharactersAreSolid}
use Rattle.yaml_emit_laws.proofs.PlainParts.{spaced}
use lib.Utf8.{scalar, scalar_cases}
use Rattle.yaml_emit_laws.proofs.PlainStart.{bracket_45, bracket_46, plain_back}
use Rattle.yaml_scan_history.specs.declared.kind.Kind.TheVariants as kinds
use Rattle.yaml_emit_layout.specs.scan_model.declared.name.yaml_scalar_style_t.TheVariants.{YAML_SINGLE_QUOTED_SCALAR_STYLE}
use Rattle.yaml_emit_layout.specs.scan_types.Tokens as tokens
use Rattle.yaml_emit_laws.proofs.Lines.{blanks_column, blanks_kept}
use Rattle.yaml_emit_laws.specs.StandsLaws.{ScalarsAreWords, LinesStopPlain, IsBehind, PlainHasGap, PlainStands, SingleStands}
use Rattle.yaml_emit_laws.proofs.SingleWritten.{single_back}
use Rattle.yaml_emit_laws.proofs.TextLines.{left_byte}

-- ---- bytes that are left

past_end : (text : List ℕ) (p : ℕ) → p + 0 ≡ length text → byte text p ≡ 0
past_end text p e = get_or_past text p 0 (omega (arith, e))

left_behind : (text : List ℕ) (p : ℕ) (bs : List ℕ) → Left text p bs
    → byte text (p + 1) ≡ first (behind bs)
left_behind text p [] l = let e = l.ends in get_or_past text (p + 1) 0 (omega (arith, e))
left_behind text p (b ∷ bs) l = left_byte text (p + 1) bs (left_more text p b bs l)

by_feed : (b c d : ℕ) → b ≡ 10 → nat_lt 0 (break_of b c d) ≡ true
unfolding break_of
by_feed b c d e = rw e refl

by_return : (b c d : ℕ) → b ≡ 13 → nat_lt 0 (break_of b c d) ≡ true
unfolding break_of
by_return b c d e = rw e (bool_cases (c == 10) (λ f. rw f refl) (λ f. rw f refl))

gap_white : (text : List ℕ) (p : ℕ) → is_gap_byte (byte text p) ≡ true
    → is_blank_or_end text p ≡ true
gap_white text p h = grind (arith, nat_tests, by_feed, by_return)

pub white_next : (text : List ℕ) (p : ℕ) (bs : List ℕ) → Left text p bs → begins_white bs ≡ true
    → is_blank_or_end text p ≡ true
white_next text p [] l h = let z = past_end text p l.ends in rw z refl
white_next text p (b ∷ bs) l h = gap_white text p (ap (λ k. is_gap_byte k) (left_first text p b bs l) ∙ h)

-- ---- what stops here

-- the place's column and line, as far as they matter
abbrev At : List ℕ → ℕ → Option ℕ → Type 0
At text p None = Unit {0}
At text p (Some n) = (byte text p ≡ 10 → ⊥) → (column_at text p ≡ n) × (leads text p ≡ true)

mark_here : (text : List ℕ) (p a : ℕ) (bs : List ℕ) → Left text p (a ∷ bs) → column_at text p ≡ 0
    → begins_mark a bs ≡ true → is_document_indicator text p ≡ true
unfolding is_document_indicator
mark_here text p a (b ∷ d ∷ bs) l c h =
    let l1 = left_more text p a (b ∷ d ∷ bs) l in
    let l2 = left_more text (p + 1) b (d ∷ bs) l1 in
    let l3 = left_more text (p + 1 + 1) d bs l2 in
    let two : p + 2 ≡ p + 1 + 1 = omega arith in
    let three : p + 3 ≡ p + 1 + 1 + 1 = omega arith in
    let marks = (and_parts _ (begins_white bs) h).0 in
    let white = white_next text (p + 1 + 1 + 1) bs l3 (and_parts (((a == 45 && b == 45) && d == 45) || ((a == 46 && b == 46) && d == 46)) (begins_white bs) h).1 in
    rw (c, two, three, left_first text p a _ l, left_first text (p + 1) b _ l1, left_first text (p + 1 + 1) d bs l2, marks, white) refl
mark_here text p a _ l c h = absurd (true≢false (sym h))

colon_ends : (flow : Bool) (level : ℕ) (text : List ℕ) (p : ℕ) → byte text p ≡ 58
    → is_blank_or_end text (p + 1) ≡ true → ends_at flow level text p ≡ true
unfolding ends_at
colon_ends flow level text p h w =
    or_right (byte text p == 0 || is_document_indicator text p) _ (or_right (byte text p == 35 && after_white text p) _ (or_left (byte text p == 58 && is_blank_or_end text (p + 1)) _ (rw (h, w) refl)))

bracket_ends : (flow : Bool) (level : ℕ) (text : List ℕ) (p : ℕ) → flow ≡ true
    → is_bracket (byte text p) ≡ true → ends_at flow level text p ≡ true
unfolding ends_at
bracket_ends flow level text p f h =
    or_right (byte text p == 0 || is_document_indicator text p) _ (or_right (byte text p == 35 && after_white text p) _ (or_right (byte text p == 58 && is_blank_or_end text (p + 1)) _ (rw f h)))

mark_ends : (flow : Bool) (level : ℕ) (text : List ℕ) (p : ℕ) → is_document_indicator text p ≡ true
    → ends_at flow level text p ≡ true
unfolding ends_at
mark_ends flow level text p h = or_left (byte text p == 0 || is_document_indicator text p) _ (or_right (byte text p == 0) (is_document_indicator text p) h)

zero_ends : (flow : Bool) (level : ℕ) (text : List ℕ) (p : ℕ) → byte text p ≡ 0
    → ends_at flow level text p ≡ true
unfolding ends_at
zero_ends flow level text p h = or_left (byte text p == 0 || is_document_indicator text p) _ (or_left (byte text p == 0) (is_document_indicator text p) (rw h refl))

left_ends : (flow : Bool) (level n : ℕ) (text : List ℕ) (p : ℕ) → flow ≡ false
    → column_at text p ≡ n → leads text p ≡ true → nat_lt n level ≡ true
    → ends_at flow level text p ≡ true
unfolding ends_at
left_ends flow level n text p f c l h =
    or_right (byte text p == 0 || is_document_indicator text p) _ (or_right (byte text p == 35 && after_white text p) _ (or_right (byte text p == 58 && is_blank_or_end text (p + 1)) _ (rw (f, l, c) h)))

ends_by : (flow : Bool) (level : ℕ) (text : List ℕ) (p : ℕ) → is_blank (byte text p) ≡ false
    → break_width text p ≡ 0 → ends_at flow level text p ≡ true
    → ends_plain flow level text p ≡ true
unfolding ends_plain
ends_by flow level text p b w e = rw (b, w, e) refl

line_ends : (flow : Bool) (level : ℕ) (at : Option ℕ) (text : List ℕ) (p b : ℕ) (bs : List ℕ)
    → Left text p (b ∷ bs) → (b == 10) ≡ false → At text p at → stops_line flow level at b bs ≡ true
    → ends_at flow level text p ≡ true
line_ends flow level at text p b bs l not_feed here h = grind (arith, nat_tests, left_first, mark_ends, mark_here, left_ends)

here_ends : (flow : Bool) (level : ℕ) (at : Option ℕ) (text : List ℕ) (p b : ℕ) (bs : List ℕ)
    → Left text p (b ∷ bs) → is_gap_byte b ≡ false → At text p at
    → stops_here flow level at b bs ≡ true → ends_plain flow level text p ≡ true
here_ends flow level at text p b bs l gap here h =
    let e = left_first text p b bs l in
    let l1 = left_more text p b bs l in
    let front = (and_parts _ ((b == 58 && begins_white bs) || ((flow && is_bracket b) || stops_line flow level at b bs)) h).0 in
    let more = (and_parts (not (b == 9) && break_of b (first bs) (first (behind bs)) == 0) _ h).1 in
    let tab = not-true (b == 9) (and_parts (not (b == 9)) _ front).0 in
    let width : break_of b (first bs) (first (behind bs)) ≡ 0 = eqb-true _ 0 (and_parts (not (b == 9)) (break_of b (first bs) (first (behind bs)) == 0) front).1 in
    let two : p + 2 ≡ p + 1 + 1 = omega arith in
    let next = left_byte text (p + 1) bs l1 in
    let far = left_behind text (p + 1) bs l1 in
    let none : break_width text p ≡ 0 = rw (two, e, next, far) width in
    let blank : is_blank (byte text p) ≡ false = rw (e, (or_parts (b == 32) _ gap).0, tab) refl in
    let feed : (b == 10) ≡ false = (or_parts (b == 10) (b == 13) (or_parts (b == 32) _ gap).1).0 in
    ends_by flow level text p blank none
    (elim (or_cases (b == 58 && begins_white bs) _ more) [
      | inl m ↦ colon_ends flow level text p (e ∙ eqb-true b 58 (and_parts (b == 58) (begins_white bs) m).0) (white_next text (p + 1) bs l1 (and_parts (b == 58) (begins_white bs) m).1)
      | inr m ↦ elim (or_cases (flow && is_bracket b) (stops_line flow level at b bs) m) [
        | inl k ↦ bracket_ends flow level text p (and_parts flow (is_bracket b) k).0 (ap (λ x. is_bracket x) e ∙ (and_parts flow (is_bracket b) k).1)
        | inr k ↦ line_ends flow level at text p b bs l feed here k
      ]
    ])

-- ---- white before it

line_begins : (text : List ℕ) (p : ℕ) → break_width text p ≡ 1
    → (column_at text (p + 1) ≡ 0) × (leads text (p + 1) ≡ true)
line_begins text p w = grind (arith, nat_tests, past_break, lead_break)

at_space : (text : List ℕ) (p : ℕ) (at : Option ℕ) → byte text p ≡ 32 → At text p at
    → At text (p + 1) (one_more at)
at_space text p None e h = tt
at_space text p (Some n) e h =
    let a = h (λ f. omega (arith, e, f)) in
    let d = spaced text p e in
    λ g. (d.column ∙ ap (λ k. k + 1) a.0, d.leading ∙ a.1)

at_next : (text : List ℕ) (p b : ℕ) (at : Option ℕ) → byte text p ≡ b → is_gap_byte b ≡ true
    → At text p at → At text (p + 1) (column_behind b at)
unfolding break_of
at_next text p b at e h here = grind (arith, nat_tests, cond_true, at_space, cond_false, line_begins)

-- the white, and what is known of it
record Parted (flow : Bool) (level : ℕ) (text : List ℕ) (p : ℕ) (bs : List ℕ) : Type 0 where
  has : Has text p (white_of bs)
  are : are_gap (white_of bs) ≡ true
  ends : ends_plain flow level text (p + length (white_of bs)) ≡ true

none_white : (bs : List ℕ) → bs ≡ [] → white_of bs ≡ []
unfolding white_of
none_white [] e = refl
none_white (b ∷ bs) e = cc

stop_white : (flow : Bool) (level : ℕ) (at : Option ℕ) (b : ℕ) (bs : List ℕ) → is_gap_byte b ≡ true
    → stops_plain_at flow level at (b ∷ bs) ≡ stops_plain_at flow level (column_behind b at) bs
unfolding stops_plain_at
stop_white flow level at b bs e = cond_true (is_gap_byte b) (stops_plain_at flow level (column_behind b at) bs) (stops_here flow level at b bs) e

pub stop_other : (flow : Bool) (level : ℕ) (at : Option ℕ) (b : ℕ) (bs : List ℕ)
    → is_gap_byte b ≡ false → stops_plain_at flow level at (b ∷ bs) ≡ stops_here flow level at b bs
unfolding stops_plain_at
stop_other flow level at b bs e = cond_false (is_gap_byte b) (stops_plain_at flow level (column_behind b at) bs) (stops_here flow level at b bs) e

part_none : (flow : Bool) (level : ℕ) (text : List ℕ) (p : ℕ) (bs : List ℕ) → white_of bs ≡ []
    → ends_plain flow level text p ≡ true → Parted flow level text p bs
part_none flow level text p bs e h = grind (arith, nat_tests)

part_more : (flow : Bool) (level : ℕ) (text : List ℕ) (p b : ℕ) (bs : List ℕ) → is_gap_byte b ≡ true
    → byte text p ≡ b → Parted flow level text (p + 1) bs → Parted flow level text p (b ∷ bs)
unfolding white_of
part_more flow level text p b bs g e r = grind (arith, nat_tests, cond_true)

parted : (flow : Bool) (level : ℕ) (at : Option ℕ) (text : List ℕ) (p : ℕ) (bs : List ℕ)
    → Left text p bs → At text p at → stops_plain_at flow level at bs ≡ true
    → Parted flow level text p bs
unfolding break_of white_of
parted flow level at text p [] l here h = part_none flow level text p [] (none_white [] refl) (ends_by flow level text p (rw (past_end text p l.ends) refl) (rw (past_end text p l.ends) refl) (zero_ends flow level text p (past_end text p l.ends)))
parted flow level at text p (b ∷ bs) l here h =
    let e = left_first text p b bs l in
    bool_cases (is_gap_byte b)
    (λ g. part_more flow level text p b bs g e (parted flow level (column_behind b at) text (p + 1) bs (left_more text p b bs l) (at_next text p b at e g here) (sym (stop_white flow level at b bs g) ∙ h)))
    (λ g. part_none flow level text p (b ∷ bs) (cond_false (is_gap_byte b) (b ∷ white_of bs) [] g) (here_ends flow level at text p b bs l g here (sym (stop_other flow level at b bs g) ∙ h)))

pub stops_end : StopsEndPlain
stops_end flow level text p bs l h = let r = parted flow level None text p bs l tt h in (has_at text p (white_of bs) r.has, r.are, r.ends)

-- ---- with the scalar first

pub goes_on : PlainGoesOn
goes_on flow level a c value back text p bs l h =
    let own = encode_utf8_all back.letters in
    let r = parted flow level None text (p + length own) bs (left_rest text p own bs l) tt h in
    back.read text p (white_of bs) (has_at text p (own ++ white_of bs) (both text p own (white_of bs) (has_front text p own bs l.has) r.has)) r.are r.ends
  where
    both : (text : List ℕ) (p : ℕ) (xs ys : List ℕ) → Has text p xs → Has text (p + length xs) ys
        → Has text p (xs ++ ys)
    both text p [] ys h k = let z : p + 0 ≡ p = omega arith in subst (λ q. Has text q ys) z k
    both text p (x ∷ xs) ys (e, h) k = let far : p + suc (length xs) ≡ p + 1 + length xs = omega arith in (e, both text (p + 1) xs ys h (subst (λ q. Has text q ys) far k))

-- ---- lines

spaces_stop : (flow : Bool) (level m n : ℕ) (bs : List ℕ)
    → stops_plain_at flow level (Some m) (replicate n 32 ++ bs)
    ≡ stops_plain_at flow level (Some (m + n)) bs
spaces_stop flow level m zero bs = let z : m ≡ m + 0 = omega arith in ap (λ k. stops_plain_at flow level (Some k) bs) z
spaces_stop flow level m (suc n) bs =
    let far : m + 1 + n ≡ m + suc n = omega arith in
    stop_white flow level (Some m) 32 (replicate n 32 ++ bs) refl ∙ spaces_stop flow level (m + 1) n bs ∙ ap (λ k. stops_plain_at flow level (Some k) bs) far

line_spaces : (flow : Bool) (level n : ℕ) (bs : List ℕ)
    → stops_plain_at flow level None (replicate n 32 ++ bs) ≡ stops_plain_at flow level None bs
line_spaces flow level zero bs = refl
line_spaces flow level (suc n) bs = stop_white flow level None 32 (replicate n 32 ++ bs) refl ∙ line_spaces flow level n bs

line_stops : (flow : Bool) (level n : ℕ) (bs : List ℕ) (b : LineBreak) (at : Option ℕ)
    → stops_plain_at flow level at (break_text b ++ (replicate n 32 ++ bs))
    ≡ stops_plain_at flow level (Some n) bs
line_stops flow level n bs Lf at = stop_white flow level at 10 (replicate n 32 ++ bs) refl ∙ spaces_stop flow level 0 n bs ∙ ap (λ k. stops_plain_at flow level (Some k) bs) (let z : 0 + n ≡ n = omega arith in z)
line_stops flow level n bs Cr at = stop_white flow level at 13 (replicate n 32 ++ bs) refl ∙ spaces_stop flow level 0 n bs ∙ ap (λ k. stops_plain_at flow level (Some k) bs) (let z : 0 + n ≡ n = omega arith in z)
line_stops flow level n bs CrLf at =
    stop_white flow level at 13 (10 ∷ (replicate n 32 ++ bs)) refl ∙ stop_white flow level (Some 0) 10 (replicate n 32 ++ bs) refl
    ∙ spaces_stop flow level 0 n bs ∙ ap (λ k. stops_plain_at flow level (Some k) bs) (let z : 0 + n ≡ n = omega arith in z)

pub behind_lines : StopsBehindLines
behind_lines flow level n bs = (line_stops flow level n bs, line_spaces flow level n bs)

-- ==== What stops a plain scalar, clause by clause.

-- a bracket is no white
record Bracket (b : ℕ) : Type 0 where
  gap : is_gap_byte b ≡ false
  tab : (b == 9) ≡ false
  width : (c d : ℕ) → break_of b c d ≡ 0

bracket : (b : ℕ) → is_bracket b ≡ true → Bracket b
unfolding is_bracket break_of
bracket b h = record { gap = grind (arith, nat_tests); tab = grind (arith, nat_tests); width = λ c d. grind (arith, nat_tests) }

bracket_stops : (level : ℕ) (at : Option ℕ) (b : ℕ) (bs : List ℕ) → is_bracket b ≡ true
    → stops_plain_at true level at (b ∷ bs) ≡ true
bracket_stops level at b bs h = grind (arith, nat_tests, bracket, stop_other)

colon_width : (c d : ℕ) → break_of 58 c d ≡ 0
unfolding break_of
colon_width c d = refl

colon_stops : (flow : Bool) (level : ℕ) (at : Option ℕ) (bs : List ℕ) → begins_white bs ≡ true
    → stops_plain_at flow level at (58 ∷ bs) ≡ true
colon_stops flow level at bs h =
    let here : stops_here flow level at 58 bs ≡ true = rw (colon_width (first bs) (first (behind bs)), h) refl in
    stop_other flow level at 58 bs refl ∙ here

dash_width : (c d : ℕ) → break_of 45 c d ≡ 0
unfolding break_of
dash_width c d = refl

dot_width : (c d : ℕ) → break_of 46 c d ≡ 0
unfolding break_of
dot_width c d = refl

dashes_stop : (flow : Bool) (level : ℕ) (bs : List ℕ) → begins_white bs ≡ true
    → stops_plain_at flow level (Some 0) (45 ∷ 45 ∷ 45 ∷ bs) ≡ true
dashes_stop flow level bs h =
    let here : stops_here flow level (Some 0) 45 (45 ∷ 45 ∷ bs) ≡ true = rw (dash_width 45 45, bracket_45, and-false flow, h) refl in
    stop_other flow level (Some 0) 45 (45 ∷ 45 ∷ bs) refl ∙ here

dots_stop : (flow : Bool) (level : ℕ) (bs : List ℕ) → begins_white bs ≡ true
    → stops_plain_at flow level (Some 0) (46 ∷ 46 ∷ 46 ∷ bs) ≡ true
dots_stop flow level bs h =
    let here : stops_here flow level (Some 0) 46 (46 ∷ 46 ∷ bs) ≡ true = rw (dot_width 46 46, bracket_46, and-false flow, h) refl in
    stop_other flow level (Some 0) 46 (46 ∷ 46 ∷ bs) refl ∙ here

solid_stops : (level n : ℕ) (bs : List ℕ) → n < level → begins_solid bs ≡ true
    → stops_plain_at false level (Some n) bs ≡ true
solid_stops level n bs l h = grind (arith, nat_tests, stop_other)

pub what_stops : WhatStopsPlain
unfolding stops_plain_at
what_stops flow level at = grind (arith, nat_tests, bracket_stops, colon_stops, dashes_stop, dots_stop, solid_stops)

-- ---- characters

solid_by : (b : ℕ) (bs : List ℕ) → (b == 32) ≡ false → (b == 10) ≡ false → (b == 13) ≡ false
    → (b == 9) ≡ false → break_of b (first bs) (first (behind bs)) ≡ 0
    → begins_solid (b ∷ bs) ≡ true
solid_by b bs s f r t w = rw (s, f, r, t, w) refl

apart_break : (c k : ℕ) → is_break c ≡ false → is_break k ≡ true → c ≢ k
apart_break c k h i e = true≢false (sym i ∙ ap (λ t. is_break t) (sym e) ∙ h)

pub chars_solid : CharactersAreSolid
chars_solid x bs s p calm space =
    let P : List ℕ → Type 0 = λ ys. begins_solid (ys ++ bs) ≡ true in
    let feed : x ≢ 10 = apart_break x 10 calm refl in
    let return : x ≢ 13 = apart_break x 13 calm refl in
    let next_line : x ≢ 0x85 = apart_break x 0x85 calm refl in
    let line : x ≢ 0x2028 = apart_break x 0x2028 calm refl in
    let paragraph : x ≢ 0x2029 = apart_break x 0x2029 calm refl in
    let tab : (x == 9) ≡ false = ne_eqb x 9 (λ e. true≢false (sym p ∙ ap (λ k. is_printable k) e)) in
    let top = scalar_top x s in
    elim (cases_lt x 128) [
      | inl u ↦ subst P (sym (encode_1 x u)) (solid_by x bs space (ne_eqb x 10 feed) (ne_eqb x 13 return) tab (low_break x (first bs) (first (behind bs)) u feed return))
      | inr u ↦ elim (cases_lt x 2048) [
        | inl v ↦
            let a = 192 + x / 64 in
            let b = 128 + x % 64 in
            let no_end : a ≡ 0xC2 → b ≡ 0x85 → ⊥ = λ e f. next_line (omega (arith, e, f)) in
            subst P (sym (encode_2 x u v)) (high_solid a (b ∷ bs) (omega arith) (two_break a b (first bs) (omega arith) (omega arith) no_end))
        | inr v ↦ elim (cases_lt x 65536) [
          | inl w ↦
              let a = 224 + x / 4096 in
              let b = 128 + x / 64 % 64 in
              let d = 128 + x % 64 in
              let no_line : a ≡ 0xE2 → b ≡ 0x80 → d ≡ 0xA8 → ⊥ = λ e f g. line (omega (arith, e, f, g)) in
              let no_paragraph : a ≡ 0xE2 → b ≡ 0x80 → d ≡ 0xA9 → ⊥ = λ e f g. paragraph (omega (arith, e, f, g)) in
              subst P (sym (encode_3 x v w)) (high_solid a (b ∷ d ∷ bs) (omega arith) (three_break a b d (omega arith) (omega arith) no_line no_paragraph))
          | inr w ↦
              let a = 240 + x / 262144 in
              subst P (sym (encode_4 x w)) (high_solid a ((128 + x / 4096 % 64) ∷ (128 + x / 64 % 64) ∷ (128 + x % 64) ∷ bs) (omega arith) (four_break a (128 + x / 4096 % 64) (128 + x / 64 % 64) (omega arith)))
        ]
      ]
    ]
  where
    scalar_top : (c : ℕ) → scalar c ≡ true → c < 1114112
    scalar_top c h = elim (scalar_cases c h) [ inl a ↦ omega arith | inr a ↦ a.1 ]

    high_solid : (b : ℕ) (bs : List ℕ) → 128 ≤ b → break_of b (first bs) (first (behind bs)) ≡ 0
        → begins_solid (b ∷ bs) ≡ true
    high_solid b bs h w = solid_by b bs (ne_eqb b 32 (λ e. omega (arith, e, h))) (ne_eqb b 10 (λ e. omega (arith, e, h))) (ne_eqb b 13 (λ e. omega (arith, e, h))) (ne_eqb b 9 (λ e. omega (arith, e, h))) w

-- ==== Scalars in a text that goes on as a layout writes it.

-- ---- plain

gap_by : (page : Page) (flow : Bool) (value cs : List ℕ) → encode_utf8_all cs ≡ value
    → 0 < length value → plain page flow cs ≡ (gap ▹ (flow_body page false 32 cs ▹ after_text))
gap_by page flow value [] e some = let z : length value ≡ 0 = ap (λ (bs : List ℕ). length bs) (sym e) in absurd (omega (arith, some, z))
gap_by page flow value (x ∷ xs) e some = ap (λ (b : Bool). when b gap ▹ (flow_body page false 32 (x ∷ xs) ▹ after_text)) (or-true flow)

pub has_gap : PlainHasGap
has_gap page flow value u some = gap_by page flow value (chars value) (encodes-chars value u) some

pub stands : PlainStands
stands page flow level c value u some may deep far rest stop text p l =
    let a : Layout = flow_body page false 32 (chars value) ▹ after_text in
    let back = plain_back page flow level c value u some may deep far in
    let fine : IsBehind back.behind c = record { bare = back.bare; white = back.white; column = back.column; kept = back.kept } in
    let own = encode_utf8_all back.letters in
    let tail = bytes (rest back.behind) in
    let all : bytes ((flow_body page false 32 (chars value) ▹ after_text) c rest) ≡ own ++ tail = ap (λ t. bytes t) (back.written rest) ∙ front_encodes back.letters (rest back.behind) in
    let m = subst (λ (bs : List ℕ). Left text p bs) all l in
    record {
      goes = record { own = own; behind = back.behind; fine = fine; left = left_rest text p own tail m };
      says = goes_on flow level (flow_body page false 32 (chars value) ▹ after_text) c value back text p tail m (stop back.behind fine);
    }

-- ---- single quoted

single_sign : Sign 39
single_sign = sign 39 refl refl refl refl refl refl refl refl refl refl

-- A single quote begins a single quoted scalar.
pub single_kind : (flow alone : Bool) → indicator_of flow alone 39 ≡ Some kinds.SingleQuoted
unfolding indicator_of
single_kind flow alone = refl

pub quoted_stands : SingleSpellingReads → SingleStands
quoted_stands law page c value u deep may rest none text p l =
    let back = single_back law page c value u (λ e. deep) (λ e. deep) may in
    let fine : IsBehind back.behind c = record { bare = back.bare; white = back.white; column = back.column; kept = back.kept } in
    let own = encode_utf8_all back.letters in
    let tail = bytes (rest back.behind) in
    let all : bytes (between_single page (chars value) c rest) ≡ own ++ tail = ap (λ t. bytes t) (back.written rest) ∙ front_encodes back.letters (rest back.behind) in
    let m = subst (λ (bs : List ℕ). Left text p bs) all l in
    let far = left_rest text p own tail m in
    let here = (subst (λ (bs : List ℕ). Has text p bs) (ap (λ (ys : List ℕ). encode_utf8_all ys) back.begins ∙ ap (λ (bs : List ℕ). bs ++ encode_utf8_all back.inside) (encode_ascii 39 (omega arith))) (has_front text p own tail m.has)).0 in
    record {
      goes = record { own = own; behind = back.behind; fine = fine; left = far };
      begins = sign_begins text p 39 single_sign here;
      kind = λ flow. sign_kind flow text p 39 kinds.SingleQuoted single_sign here (single_kind flow);
      read = back.read text p (has_at text p own (has_front text p own tail m.has)) (λ e. none back.behind fine (sym (left_byte text (p + length own) tail far) ∙ e));
    }

-- ---- words

pub are_words : ScalarsAreWords
unfolding lexeme_at
are_words flow level text p value = (
  λ bytes gap r. refl ∙ ap (λ (x : Result PlainText Wrong). plainly x) r.read,
  λ end r. refl ∙ ap (λ (x : Result (List ℕ × ℕ) Wrong). valued (λ v. tokens.scalar v YAML_SINGLE_QUOTED_SCALAR_STYLE) x) r,
)

-- ---- lines

-- A break and its indentation are low bytes.
pub break_low : (b : LineBreak) (n : ℕ) → AreLow (break_text b ++ replicate n 32)
break_low CrLf n = (omega arith, (omega arith, spaces_low n))
break_low _ n = (omega arith, spaces_low n)

-- After blanks a line that was bare is bare.
pub blanks_bare : (n : ℕ) (c : Cursor) → c.bare ≡ true → (after_blanks n c).bare ≡ true
blanks_bare zero c e = e
blanks_bare (suc n) c e = blanks_bare n (spaced_by c) e

-- After blanks the cursor is after white, if it did.
pub blanks_white : (n : ℕ) (c : Cursor) → c.white ≡ true → (after_blanks n c).white ≡ true
blanks_white zero c e = e
blanks_white (suc n) c e = blanks_white n (spaced_by c) refl

pub lines_up : LinesStopPlain
lines_up flow level b n c rest bare =
    let e = after_blanks n (line_start c) in
    let tail = bytes (rest e) in
    let all : bytes (line b n c rest) ≡ break_text b ++ (replicate n 32 ++ tail) =
    ap (λ t. bytes t) (line_is b n c rest bare) ∙ front_encodes (break_text b ++ replicate n 32) (rest e)
    ∙ ap (λ (bs : List ℕ). bs ++ tail) (low_encodes (break_text b ++ replicate n 32) (break_low b n)) ∙ append_assoc (break_text b) (replicate n 32) tail in
    record {
      behind = e;
      fine = record { bare = blanks_bare n (line_start c) refl; white = blanks_white n (line_start c) refl; column = blanks_column n (line_start c) ∙ none_more n; kept = blanks_kept n (line_start c) };
      same = ap (λ (bs : List ℕ). stops_plain_at flow level None bs) all ∙ (behind_lines flow level n tail).0 b None;
    }
  where
    none_more : (n : ℕ) → 0 + n ≡ n
    none_more n = omega arith
