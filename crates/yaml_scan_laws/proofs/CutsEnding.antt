-- After a line `...` the whole goes on as a stream that begins there.
use Rattle.std.proofs.Common.{◌≡◌, ℕ, zero, suc, ◌+◌, ◌<◌, ◌≤◌, ◌==◌, ◌&&◌, ◌||◌, nat_lt, not, Bool, true, false, List, [], ◌∷◌, ◌++◌, length, None, refl, sym, ap, subst, ◌∙◌, inl, inr, ◌⊎◌, arith}
use Rattle.yaml_scan_laws.proofs.Shared.{cases_Bool, cases_lt, and_parts, eqb-true, true≢false, nat_tests, length-append, or-true, byte, break_of, break_width, line_at, column_at, is_blank, is_blank_or_end, is_bom, is_document_indicator, is_document_end, step_at, Gap, with_break, gap_within, gap_at, within, start_column, past_break, Lexeme, candidate, open_levels, kind_at, first_lexeme, gap_behind, allowed_behind, next, history, EndsIn, EndsLine, IsCut, is_white, IsEndLine, ne_eqb, lt-ltb, ltb-true}
use Rattle.yaml_scan_history.specs.scan_types.Tokens as tokens
use Rattle.yaml_scan_history.specs.declared.kind.Kind.TheVariants as kinds
use Rattle.yaml_scan_laws.proofs.Gaps.{is_passed, gap_passes, gap_breaks, gap_stops, left_step, gap_by}
use Rattle.yaml_scan_laws.proofs.CutsWords.{break_byte, blank_kind, break_kind}
use Rattle.yaml_scan_laws.proofs.Cutting.{byte_left}
use Rattle.yaml_scan_laws.proofs.BehindBreak.{feed_last, fed_marks, fed_alike}
use Rattle.yaml_scan_laws.proofs.Histories.{Bases}
use Rattle.yaml_scan_laws.proofs.Fronts.{next_open}
use Rattle.yaml_scan_laws.proofs.Turning.{end_mark, MarkStands, finishes}
use Rattle.yaml_scan_laws.proofs.Rests.{mark_candidate, mark_levels, rest_base, rest_begins, Ground}

-- ---- bytes of the line

pub white_cases : (b : ℕ) → is_white b ≡ true → (is_blank b ≡ true) ⊎ ((b ≡ 10) ⊎ (b ≡ 13))
white_cases b h = grind (arith, nat_tests)

-- no lexeme starts at white
pub white_kind : (flow : Bool) (t : List ℕ) (p : ℕ) → is_white (byte t p) ≡ true
    → kind_at flow t p ≡ None
white_kind flow t p h = grind (arith, nat_tests, white_cases, blank_kind, break_kind)

three_dots : (c z : Bool) (b x y : ℕ) → ((c && (b == 46 && (x == 46 && y == 46))) && z) ≡ true
    → (b ≡ 46) × (x ≡ 46) × (y ≡ 46)
three_dots true z b x y h =
    let dots = and_parts (b == 46 && (x == 46 && y == 46)) z h in
    let (one, more) = and_parts (b == 46) (x == 46 && y == 46) dots.0 in
    let (two, three) = and_parts (x == 46) (y == 46) more in
    (eqb-true _ _ one, eqb-true _ _ two, eqb-true _ _ three)
three_dots false z b x y h = absurd (true≢false (sym h))

dots : (t : List ℕ) → is_document_end t 0 ≡ true
    → (byte t 0 ≡ 46) × (byte t 1 ≡ 46) × (byte t 2 ≡ 46)
unfolding is_document_end
dots t h = three_dots (column_at t 0 == 0) (is_blank_or_end t 3) (byte t 0) (byte t 1) (byte t 2) h

pub end_indicator : (t : List ℕ) → is_document_end t 0 ≡ true → is_document_indicator t 0 ≡ true
unfolding is_document_end is_document_indicator
end_indicator t h = grind (arith, nat_tests, dots, and_parts)

-- such a line has four bytes at least
pub line_long : (line : List ℕ) → IsEndLine line → 4 ≤ length line
line_long line e =
    let (one, two, three) = dots line e.mark in
    let third : 2 < length line = within line 2 (omega (arith, three)) in
    elim (cases_lt 3 (length line)) [
      | inl l ↦ omega (arith, l)
      | inr l ↦
          absurd (omega (arith, feed_last line 2 e.feed (omega (arith, third, l)), three))
    ]

white_end : (t : List ℕ) (p : ℕ) → is_white (byte t p) ≡ true → is_blank_or_end t p ≡ true
white_end t p h = grind (arith, nat_tests, white_cases, break_byte)

-- the whole begins with it too
pub whole_end : (line b : List ℕ) → IsEndLine line → is_document_end (line ++ b) 0 ≡ true
unfolding is_document_end
whole_end line b e =
    let U = line ++ b in
    let long = line_long line e in
    let (one, two, three) = dots line e.mark in
    let column : column_at U 0 ≡ 0 = sym (start_column U) in
    let first : byte U 0 ≡ 46 = byte_left line b 0 (omega (arith, long)) ∙ one in
    let second : byte U 1 ≡ 46 = byte_left line b 1 (omega (arith, long)) ∙ two in
    let third : byte U 2 ≡ 46 = byte_left line b 2 (omega (arith, long)) ∙ three in
    let white : is_white (byte U 3) ≡ true = ap is_white (byte_left line b 3 (omega (arith, long))) ∙ e.white 3 (omega arith) (omega (arith, long)) in
    rw (column, first, second, third, white_end U 3 white) refl

-- ---- the gap after it

-- the gap goes on where the line ends, a break after
record Crossed (line b : List ℕ) (allowed : Bool) (p o : ℕ) : Type 0 where
  pub left : ℕ
  pub room : length (line ++ b) ≤ length line + left
  pub crossed : gap_within o false allowed (line ++ b) p ≡ with_break true (gap_within left false true (line ++ b) (length line))

-- of a place after the dots what is passed is a blank
passed_blank : (t : List ℕ) (p : ℕ) (tabs : Bool) → 3 ≤ p
    → (byte t p == 32 || (tabs && byte t p == 9)) ≡ true
    → (is_passed tabs t p ≡ true) × ((step_at tabs t p).place ≡ p + 1)
unfolding step_at
passed_blank t p tabs far h = grind (arith, nat_tests, ne_eqb)

passed_none : (t : List ℕ) (p : ℕ) (tabs : Bool) → 3 ≤ p
    → (byte t p == 32 || (tabs && byte t p == 9)) ≡ false
    → (byte t p == 35) ≡ false → is_passed tabs t p ≡ false
passed_none t p tabs far h k = grind (arith, nat_tests, ne_eqb)

white_hash : (b : ℕ) → is_white b ≡ true → (b == 35) ≡ false
white_hash b h = grind (arith, nat_tests)

break_skipped : (b : ℕ) (tabs : Bool) → (b ≡ 10) ⊎ (b ≡ 13) → (b == 32 || (tabs && b == 9)) ≡ false
break_skipped b tabs v2 = grind (arith, nat_tests)

-- a break is as wide in the whole
whole_width : (line b : List ℕ) (p : ℕ) → EndsIn line 10 → p < length line
    → (byte line p ≡ 10) ⊎ (byte line p ≡ 13) → break_width (line ++ b) p ≡ break_width line p
unfolding break_of
whole_width line b p feed l h5 = grind (arith, nat_tests, byte_left, feed_last)

-- a step over a blank
over_blank : (line b : List ℕ) (allowed : Bool) (p x y : ℕ) → 3 ≤ p → p < length line
    → (byte line p == 32 || ((false || not allowed) && byte line p == 9)) ≡ true
    → Crossed line b allowed (p + 1) y → Crossed line b allowed p (suc y)
over_blank line b allowed p x y far l h rest = grind (arith, nat_tests, byte_left, passed_blank, gap_passes)

-- a step over a break
over_break : (line b : List ℕ) (allowed : Bool) (p y : ℕ) → 3 ≤ p → p < length line
    → (line_ends : EndsIn line 10) → (z : (byte line p ≡ 10) ⊎ (byte line p ≡ 13)) → is_white (byte line p) ≡ true
    → (p + break_width line p ≡ length line) ⊎ Crossed line b (allowed || true) (p + break_width line p) y
    → length (line ++ b) ≤ p + break_width line p + y
    → Crossed line b allowed p (suc y)
over_break line b allowed p y far l feed z white rest room =
    let U = line ++ b in
    let same : byte U p ≡ byte line p = byte_left line b p l in
    let width = whole_width line b p feed l z in
    let there = passed_none U p (false || not allowed) far (ap (λ c. c == 32 || ((false || not allowed) && c == 9)) same ∙ break_skipped (byte line p) (false || not allowed) z) (ap (λ c. c == 35) same ∙ white_hash (byte line p) white) in
    let breaks : nat_lt 0 (break_width U p) ≡ true = ap (λ w. nat_lt 0 w) width ∙ break_byte (byte line p) (byte line (p + 1)) (byte line (p + 2)) z in
    let step : gap_within (suc y) false allowed U p ≡ with_break true (gap_within y false (allowed || true) U (p + break_width line p)) =
    gap_breaks y false allowed U p there breaks ∙ ap (λ w. with_break true (gap_within y false (allowed || true) U (p + w))) width in
    elim rest [
      | inl end ↦ record {
        left = y;
        room = omega (arith, room, end);
        crossed = step ∙ ap (λ q. with_break true (gap_within y false (allowed || true) U q)) end
            ∙ ap (λ k. with_break true (gap_within y false k U (length line))) (or-true allowed);
      }
      | inr more ↦ record {
        left = more.left;
        room = more.room;
        crossed = step ∙ ap (with_break true) more.crossed;
      }
    ]

-- a tab stops where a key may begin
tab_stops : (n : ℕ) (line : List ℕ) (p : ℕ) → 3 ≤ p → p < length line
    → is_blank (byte line p) ≡ true
    → (byte line p == 32) ≡ false → (gap_within n false true line p).place ≡ length line → ⊥
tab_stops n line p far l blank tab there =
    let none : break_of (byte line p) (byte line (p + 1)) (byte line (p + 2)) ≡ 0 = unfold break_of in grind (arith, nat_tests) in
    let over : nat_lt 0 (break_width line p) ≡ false = rw none refl in
    let off = passed_none line p (false || not true) far (skipped (byte line p) tab) (white_hash (byte line p) (rw blank refl)) in
    omega (arith, ap (λ (g : Gap). g.place) (gap_stops n false true line p off over), there, l)
  where
    skipped : (b : ℕ) → (b == 32) ≡ false → (b == 32 || ((false || not true) && b == 9)) ≡ false
    skipped b h = rw h refl

tab_there : (allowed : Bool) (n : ℕ) (line : List ℕ) (p : ℕ) → 3 ≤ p → p < length line
    → is_blank (byte line p) ≡ true
    → (byte line p == 32 || ((false || not allowed) && byte line p == 9)) ≡ false
    → (gap_within n false allowed line p).place ≡ length line → ⊥
tab_there true n line p far l blank kept there = tab_stops n line p far l blank (no_space (byte line p) kept) there
  where
    no_space : (c : ℕ) → (c == 32 || (false && c == 9)) ≡ false → (c == 32) ≡ false
    no_space c h = grind (arith, nat_tests)
tab_there false n line p far l blank kept there = true≢false (sym blank ∙ kept)

cross : (k : ℕ) (line b : List ℕ) → IsEndLine line → (allowed : Bool) (p n o : ℕ) → 3 ≤ p
    → p < length line → length line ≤ p + k → length line ≤ p + n → length (line ++ b) ≤ p + o
    → (gap_within n false allowed line p).place ≡ length line → Crossed line b allowed p o
cross zero line b e allowed p n o far l room fuel more there = absurd (omega (arith, l, room))
cross (suc k) line b e allowed p n o far l room fuel more there =
    let long = length-append line b in
    let (x, en, left) = left_step p n (length line) fuel l in
    let (y, eo, rest) = left_step p o (length (line ++ b)) more (omega (arith, long, l)) in
    let white = e.white p far l in
    let here : (gap_within (suc x) false allowed line p).place ≡ length line = ap (λ z. (gap_within z false allowed line p).place) (sym en) ∙ there in
    let done : Crossed line b allowed p (suc y) = elim (cases_Bool (byte line p == 32 || ((false || not allowed) && byte line p == 9))) [
      | inl skipped ↦
          let (passed, place) = passed_blank line p (false || not allowed) far skipped in
          let on : p + 1 < length line = elim (cases_lt (p + 1) (length line)) [
            | inl on ↦ on
            | inr past ↦
                let last = feed_last line p e.feed (omega (arith, l, past)) in
                absurd (feed_not (byte line p) (false || not allowed) last skipped)
          ] in
          let next : (gap_within x false allowed line (p + 1)).place ≡ length line =
          ap (λ q. (gap_within x false allowed line q).place) (sym place) ∙ ap (λ (g : Gap). g.place) (sym (gap_passes x false allowed line p passed)) ∙ here in
          over_blank line b allowed p x y far l skipped (cross k line b e allowed (p + 1) x y (omega (arith, far)) on (omega (arith, room)) left rest next)
      | inr kept ↦ elim (white_cases (byte line p) white) [
        | inl blank ↦ absurd (tab_there allowed (suc x) line p far l blank kept here)
        | inr z ↦
            let wide = break_byte (byte line p) (byte line (p + 1)) (byte line (p + 2)) z in
            let off = passed_none line p (false || not allowed) far kept (white_hash (byte line p) white) in
            let some = ltb-true 0 (break_width line p) wide in
            let inside = (past_break line p some).inside in
            let next : (gap_within x false (allowed || true) line (p + break_width line p)).place ≡ length line =
            ap (λ (g : Gap). g.place) (sym (gap_breaks x false allowed line p off wide)) ∙ here in
            over_break line b allowed p y far l e.feed z white
            (elim (cases_lt (p + break_width line p) (length line)) [
              | inr past ↦ inl (omega (arith, past, inside))
              | inl on ↦ inr (cross k line b e (allowed || true) (p + break_width line p) x y (omega (arith, far)) on (omega (arith, room, some)) (omega (arith, left, some)) (omega (arith, rest, some)) next)
            ]) (omega (arith, rest, some))
      ]
    ] in
    rw eo done
  where
    feed_not : (c : ℕ) (tabs : Bool) → c ≡ 10 → (c == 32 || (tabs && c == 9)) ≡ true → ⊥
    feed_not c true z h = true≢false (sym h ∙ break_skipped c true (inl z))
    feed_not c false z h = true≢false (sym h ∙ break_skipped c false (inl z))

-- ---- the ground after it

abbrev pub line_base : List ℕ → List Lexeme
line_base t = rest_base kinds.DocumentEnd t

pub line_mark : (t : List ℕ) → is_document_end t 0 ≡ true → MarkStands t 0
line_mark t h = record { kind = kinds.DocumentEnd; body = tokens.document_end; is = end_mark; stands = λ flow. finishes flow t 0 h }

first_candidate : (e : ℕ) → candidate e (first_lexeme ∷ []) ≡ None
unfolding candidate
first_candidate e = grind (arith, nat_tests, ne_eqb, lt-ltb)

first_levels : open_levels (first_lexeme ∷ []) ≡ []
unfolding open_levels
first_levels = refl

line_bases : (t : List ℕ) (d n : ℕ) → Bases d n 1 (first_lexeme ∷ []) (line_base t)
line_bases t d n = record {
  depth = refl;
  mine = first_candidate;
  others = λ e. mark_candidate kinds.DocumentEnd tokens.document_end end_mark t 0 (first_lexeme ∷ []) e;
  levels = mark_levels kinds.DocumentEnd tokens.document_end end_mark t 0 (first_lexeme ∷ []) ∙ sym first_levels;
  count = refl;
}

pub start_gap : (t : List ℕ) → gap_behind t (first_lexeme ∷ []) ≡ gap_at false true t 0
unfolding candidate
start_gap t = refl

line_gap : (t : List ℕ) → gap_behind t (line_base t) ≡ gap_at false false t 3
unfolding candidate
line_gap t = refl

line_allowed : (t : List ℕ) (g : Gap) → allowed_behind (line_base t) (with_break true g) ≡ true
unfolding candidate
line_allowed t g = refl

start_allowed : (t : List ℕ)
    → allowed_behind (first_lexeme ∷ []) (gap_behind t (first_lexeme ∷ [])) ≡ true
unfolding candidate
start_allowed t = refl

pub line_ground : (line b : List ℕ) → IsEndLine line → is_bom b 0 ≡ false
    → (gap_at false false line 3).place ≡ length line
    → Ground line b 1 (first_lexeme ∷ []) (line_base (line ++ b))
line_ground line b e none there =
    let U = line ++ b in
    let long = line_long line e in
    let alike = fed_alike line b e.feed none in
    let bases = line_bases U (length line) (line_at U (length line)) in
    let c = cross (length line) line b e false 3 (length line) (length U) (omega arith) (omega (arith, long)) (omega arith) (omega arith) (omega arith) there in
    let first : length line + 0 ≡ length line = omega arith in
    let gaps = gap_by (length b + 2) b U (length line) (suc (length b)) false true 0 (length b) c.left alike (omega arith) (omega arith) (omega arith) (omega (arith, c.room)) in
    let crossed : gap_behind U (line_base U) ≡ with_break true (gap_within c.left false true U (length line + 0)) =
    line_gap U ∙ c.crossed ∙ ap (λ q. with_break true (gap_within c.left false true U q)) (sym first) in
    record {
      alike = alike;
      marks = fed_marks line b e.feed;
      bases = bases;
      pair = record {
        alike = alike;
        line = refl;
        same_depth = refl;
        same_levels = bases.levels;
        candidates = λ z. rw (bases.mine z, bases.others z) refl;
        count = refl;
        place = ap (λ (g : Gap). g.place) crossed ∙ ap (λ (g : Gap). g.place) gaps.same ∙ ap (λ (g : Gap). length line + g.place) (sym (start_gap b));
        inside = subst (λ (g : Gap). g.place ≤ suc (length b)) (sym (start_gap b)) gaps.inside;
        allowed = ap (allowed_behind (line_base U)) crossed ∙ line_allowed U (gap_within c.left false true U (length line + 0)) ∙ sym (start_allowed b);
        held = rw (bases.mine 0, bases.others 0) refl;
      };
      mine = next_open b first_lexeme [] refl;
      others = next_open U _ (first_lexeme ∷ []) end_mark.end;
    }

pub start_history : (t : List ℕ) → history t 1 ≡ first_lexeme ∷ []
unfolding history next
start_history t = refl

-- a text that begins with such a line is cut before it
pub line_cut : (a t : List ℕ) → EndsLine a → ((p : ℕ) → p < length a → 0 < byte a p)
    → is_document_end t 0 ≡ true → IsCut a t
line_cut a t lines some h = record { line = lines; some = some; mark = end_indicator t h }

pub line_history : (t : List ℕ) → is_document_end t 0 ≡ true → history t 2 ≡ line_base t
unfolding line_mark
line_history t h = rest_begins [] t (line_cut [] t (inl refl) (λ p l. absurd (omega (arith, l))) h) (line_mark t h)
