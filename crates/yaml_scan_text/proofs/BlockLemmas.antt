-- Block scalars.
use Rattle.std.proofs.Common.{◌≡◌, ◌≢◌, ℕ, zero, suc, ◌+◌, ◌-◌, ◌<◌, ◌≤◌, ◌==◌, ◌&&◌, ◌||◌, nat_lt, not, Bool, true, false, List, length, max, min, Result, Ok, Err, refl, sym, ◌∙◌, inl, inr, arith}
use Rattle.yaml_scan_text.proofs.Words.{nat_tests, cases_Bool, cases_lt, eqb-true, byte, feed_some, value_three, value_other, break_width, column_at, splits_break, ends_break, past_break, text_parts, blank_parts, past-le, past_blanks, within, wrong_of, no_break}
use Rattle.yaml_scan_model.specs.Runs.{is_text}
use Rattle.yaml_scan_model.specs.declared.problem.Problem.TheVariants as problems
use Rattle.yaml_scan_history.proofs.HeaderLemmas as headers
use Rattle.yaml_scan_history.specs.Header.{chomp_of, chomping_place, digit_of, digit_place, header_at, header_end, indicators, past_comment}
use Rattle.yaml_scan_text.specs.Lines.{AtLine, line_start}
use Rattle.yaml_scan_text.specs.BlockRead.{AreSpaces, FindsColumn, IsSeen, ReadsHeader}
use Rattle.yaml_scan_text.specs.declared.block.Seen.TheVariants as seen
use Rattle.yaml_scan_history.proofs.BlockLemmas as blocks
use Rattle.yaml_scan_history.specs.Lines.{in_block, spaces, spot_behind}
use Rattle.yaml_scan_history.specs.Block.{column_of, deepest, larger, larger_of}
use Rattle.yaml_scan_history.proofs.DepthLemmas as depths
use Rattle.yaml_scan_model.specs.Runs.{is_space_there, past_spaces}
use Rattle.yaml_scan_model.specs.Breaks.{feed_at, is_feed}
use Rattle.yaml_scan_text.specs.declared.refusal.Wrong.{Wrong as Told}
use Rattle.yaml_scan_model.proofs.RunsLemmas.{past-inside}
use Rattle.yaml_scan_model.proofs.MarksLemmas.{widths}
use Rattle.yaml_scan_model.specs.Runs.{is_blank_there}
use Rattle.yaml_scan_text.specs.declared.block.Header.{Header}
use Rattle.yaml_scan_text.proofs.LinesLemmas.{IsUnbroken, unbroken, unbroken_line, past_each, past_stops, line_next, line_same, line_start-le, blank_ends_none}

pub few_indicators : (b c : ℕ) → indicators b c ≤ 2
unfolding indicators
few_indicators b c = grind (arith, nat_tests)

-- ---- the header

pub header_zero : (text : List ℕ) (p digit : ℕ) (w : Told) → digit ≡ digit_place text p
    → byte text digit ≡ 48
    → wrong_of w ≡ in_block problems.ZeroIndentation digit → ReadsHeader text (Err w) (header_at text p)
header_zero text p digit w e h same = rw (headers.zero_header text p (rw e at h)) (same ∙ rw e refl)

pub header_wrong : (text : List ℕ) (p digit end : ℕ) (w : Told) → digit ≡ digit_place text p
    → byte text digit ≢ 48
    → end ≡ header_end text p → is_text text end ≡ true
    → wrong_of w ≡ in_block problems.NoCommentOrBreak end → ReadsHeader text (Err w) (header_at text p)
header_wrong text p digit end w e h at t same = rw (headers.wrong_header text p (rw e at h) (rw at at t)) (same ∙ rw at refl)

-- what is there up to the end of the header is no break
indicators_none : (text : List ℕ) (p k : ℕ) → p ≤ k
    → k < p + indicators (byte text p) (byte text (p + 1))
    → (0 < byte text k) × (break_width text k ≡ 0)
indicators_none text p k a b =
    let n = indicators (byte text p) (byte text (p + 1)) in
    let few = few_indicators (byte text p) (byte text (p + 1)) in
    elim (cases_lt p k) [
      | inl l ↦
          let e : k ≡ p + 1 = omega arith in
          rw e (headers.second_parts (byte text p) (byte text (p + 1)) (byte text (p + 1 + 1)) (byte text (p + 1 + 2)) n refl (λ z. absurd (omega arith)) (λ z. absurd (omega arith)))
      | inr l ↦
          let e : k ≡ p = omega arith in
          rw e (headers.first_parts (byte text p) (byte text (p + 1)) (byte text (p + 1)) (byte text (p + 2)) n refl (λ z. absurd (omega arith)))
    ]

indicators_inside : (text : List ℕ) (p : ℕ) → p ≤ length text
    → p + indicators (byte text p) (byte text (p + 1)) ≤ length text
indicators_inside text p inside = elim (cases_lt 0 (indicators (byte text p) (byte text (p + 1)))) [
  | inl l ↦
      let n = indicators (byte text p) (byte text (p + 1)) in
      let last = indicators_none text p (p + n - 1) (omega arith) (omega arith) in
      let here = within text (p + n - 1) last.0 in
      omega arith
  | inr z ↦ omega arith
]

-- the place after indicators and blanks
abbrev blanks_end : List ℕ → ℕ → ℕ
blanks_end text p = past_blanks text (p + indicators (byte text p) (byte text (p + 1)))

blanks_none : (text : List ℕ) (p k : ℕ) → p ≤ k → k < blanks_end text p → break_width text k ≡ 0
blanks_none text p k a b = elim (cases_lt k (p + indicators (byte text p) (byte text (p + 1)))) [
  | inl l ↦ (indicators_none text p k a l).1
  | inr l ↦ (blank_parts (byte text k) (byte text (k + 1)) (byte text (k + 2)) (past_each is_blank_there (length text) text (p + indicators (byte text p) (byte text (p + 1))) k l b)).1
]

blank_some : (text : List ℕ) (q : ℕ) → is_blank_there text q ≡ true → 0 < byte text q
blank_some text q h = (blank_parts (byte text q) 0 0 h).0

blanks_inside : (text : List ℕ) (p : ℕ) → p ≤ length text
    → (p ≤ blanks_end text p) × (blanks_end text p ≤ length text)
blanks_inside text p inside =
    let n = indicators (byte text p) (byte text (p + 1)) in
    let le = past-le is_blank_there (length text) text (p + n) in
    (omega arith, past-inside is_blank_there (length text) text (p + n) (blank_some text) (indicators_inside text p inside))

text_some : (text : List ℕ) (q : ℕ) → is_text text q ≡ true → 0 < byte text q
text_some text q h = (text_parts text q h).0

record IsEnd (text : List ℕ) (p q : ℕ) : Type 0 where
  after : p ≤ q
  inside : q ≤ length text
  none : (k : ℕ) → p ≤ k → k < q → break_width text k ≡ 0

comment_end : (text : List ℕ) (p : ℕ) → p ≤ length text → IsEnd text p (header_end text p)
unfolding past_comment
comment_end text p inside =
    let (after, before) = blanks_inside text p inside in
    let q = blanks_end text p in
    elim (cases_Bool (byte text q == 35)) [
      | inl c ↦
          let le = past-le is_text (length text) text q in
          rw c (record {
            after = omega arith;
            inside = past-inside is_text (length text) text q (text_some text) before;
            none = λ k a b. elim (cases_lt k q) [
              | inl l ↦ blanks_none text p k a l
              | inr l ↦ (text_parts text k (past_each is_text (length text) text q k l b)).1
            ];
          })
      | inr n ↦ rw n (record { after = after; inside = before; none = λ k a b. blanks_none text p k a b })
    ]

pub header_unbroken : (text : List ℕ) (p : ℕ) → p ≤ length text → splits_break text p ≡ false
    → IsUnbroken text p (header_end text p)
header_unbroken text p inside whole =
    let end = comment_end text p inside in
    unbroken text p (header_end text p) end.after whole end.none

pub header_line : (text : List ℕ) (p line : ℕ) → p ≤ length text → splits_break text p ≡ false
    → line ≡ line_start text p
    → line ≡ line_start text (header_end text p)
header_line text p line inside whole e =
    let end = comment_end text p inside in
    e ∙ sym (unbroken_line text p (header_end text p) end.after (header_unbroken text p inside whole))

no_text : (b w : ℕ) → not (b == 0 || nat_lt 0 w) ≡ false → w ≡ 0 → b ≡ 0
no_text b w h z = grind (arith, nat_tests)

-- the place after the break that ends a line there, or the text's end
pub seat_behind : (text : List ℕ) (q : ℕ) → q ≤ length text → splits_break text q ≡ false
    → is_text text q ≡ false
    → (line at : ℕ) → at ≡ q + break_width text q → line ≡ line_start text at
    → (AtLine text line at) × (0 < byte text at → column_at text at ≡ 0)
seat_behind text q inside whole stop line at e own =
    let le = line_start-le text at in
    elim (cases_lt 0 (break_width text q)) [
      | inl w ↦
          let past = past_break text q w in
          let behind = line_next text q (break_width text q) refl w in
          let same : line ≡ at = own ∙ rw e (sym behind) in
          let column : column_at text at ≡ 0 = rw e past.column in
          let zero_is : at - line ≡ 0 = omega arith in
          (record { inside = rw e past.inside; whole = rw e past.whole; order = omega arith; own = own; column = λ some. rw zero_is column }, λ some. column)
      | inr z ↦
          let zero_is : break_width text q ≡ 0 = omega arith in
          let same : at ≡ q = omega arith in
          let none : byte text at ≡ 0 = rw same (no_text (byte text q) (break_width text q) stop zero_is) in
          (record { inside = rw same inside; whole = rw same whole; order = omega arith; own = own; column = λ some. absurd (omega arith) }, λ some. absurd (omega arith))
    ]

pub header_done : (text : List ℕ) (p digit end line : ℕ) (h : Header) → p ≤ length text
    → splits_break text p ≡ false
    → digit ≡ digit_place text p → byte text digit ≢ 48 → end ≡ header_end text p → is_text text end ≡ false
    → h ≡ record { chomp = chomp_of (byte text (chomping_place text p)); digit = digit_of (byte text digit); at = end + break_width text end; line = line }
    → digit_of (byte text digit) < 10 → line ≡ line_start text (end + break_width text end)
    → ReadsHeader text (Ok h) (header_at text p)
header_done text p digit end line h inside whole e some at stop is small own =
    let q = end + break_width text end in
    let header = comment_end text p inside in
    let (seat, first) = seat_behind text (header_end text p) header.inside (header_unbroken text p inside whole).whole (rw at at stop) line q (rw at refl) own in
    rw (headers.whole_header text p (rw e at some) (rw at at stop), is) (record {
      chomp = refl;
      digit = rw e refl;
      small = small;
      place = rw at refl;
      seat = seat;
      first = first;
    })

-- ---- what is after a line's indentation

tab_test : (b col d c : ℕ) → (0 < b → col ≡ d) → (b == 9 && nat_lt d c) ≡ (b == 9 && nat_lt col c)
tab_test b col d c h = elim (cases_Bool (b == 9)) [
  | inl t ↦ let e : b ≡ 9 = eqb-true b 9 t in rw (h (omega arith)) refl
  | inr f ↦ rw f refl
]

stop_test : (b col d c : ℕ) → (0 < b → col ≡ d)
    → (b == 0 || not (d == c)) ≡ (b == 0 || not (col == c))
stop_test b col d c h = elim (cases_Bool (b == 0)) [
  | inl t ↦ rw t refl
  | inr f ↦ rw (h (some b f)) refl
]
  where
    some : (b : ℕ) → (b == 0) ≡ false → 0 < b
    some b f = grind (arith, nat_tests)

pub seen_tab : (text : List ℕ) (q line c : ℕ) (w : Told)
    → (0 < byte text q → column_at text q ≡ q - line)
    → (byte text q == 9 && nat_lt (q - line) c) ≡ true → wrong_of w ≡ in_block problems.TabForSpace q
    → IsSeen text q (Err w) (spot_behind c text q)
seen_tab text q line c w col h e = (blocks.tab_spot c text q (sym (tab_test (byte text q) (column_at text q) (q - line) c col) ∙ h), e)

pub seen_empty : (text : List ℕ) (q line c : ℕ) → (0 < byte text q → column_at text q ≡ q - line)
    → (byte text q == 9 && nat_lt (q - line) c) ≡ false → 0 < break_width text q
    → IsSeen text q (Ok seen.Empty) (spot_behind c text q)
seen_empty text q line c col h some = (some, blocks.empty_spot c text q (sym (tab_test (byte text q) (column_at text q) (q - line) c col) ∙ h) some)

pub seen_other : (text : List ℕ) (q line c : ℕ) → (0 < byte text q → column_at text q ≡ q - line)
    → (byte text q == 9 && nat_lt (q - line) c) ≡ false → break_width text q ≡ 0 → (byte text q == 0 || not (q - line == c)) ≡ true
    → IsSeen text q (Ok seen.Other) (spot_behind c text q)
seen_other text q line c col h none stop =
    blocks.end_spot c text q (sym (tab_test (byte text q) (column_at text q) (q - line) c col) ∙ h) none (sym (stop_test (byte text q) (column_at text q) (q - line) c col) ∙ stop)

pub seen_text : (text : List ℕ) (q line c : ℕ) → (0 < byte text q → column_at text q ≡ q - line)
    → (byte text q == 9 && nat_lt (q - line) c) ≡ false → break_width text q ≡ 0 → (byte text q == 0 || not (q - line == c)) ≡ false
    → IsSeen text q (Ok seen.Text) (spot_behind c text q)
seen_text text q line c col h none stop =
    (some (byte text q) _ stop, none, blocks.text_spot c text q (sym (tab_test (byte text q) (column_at text q) (q - line) c col) ∙ h) none (sym (stop_test (byte text q) (column_at text q) (q - line) c col) ∙ stop))
  where
    some : (b : ℕ) (r : Bool) → (b == 0 || r) ≡ false → 0 < b
    some b r f = grind (arith, nat_tests)

-- a break reads as a line feed where it has one byte or two
pub feed_test : (text : List ℕ) (q : ℕ)
    → is_feed (feed_at text q) ≡ (break_width text q == 1 || break_width text q == 2)
feed_test text q = elim (widths (byte text q) (byte text (q + 1)) (byte text (q + 2))) [
  | inl z ↦ rw z refl
  | inr (inl z) ↦ rw (feed_some text q (omega (arith, z)), value_other text q (λ e. absurd (omega (arith, z, e))), z) refl
  | inr (inr (inl z)) ↦ rw (feed_some text q (omega (arith, z)), value_other text q (λ e. absurd (omega (arith, z, e))), z) refl
  | inr (inr (inr z)) ↦ rw (feed_some text q (omega (arith, z)), value_three text q z, z) refl
]

-- ---- spaces before a line's text

-- where spaces end, at most that many of them
pub spaces_end : (text : List ℕ) (p q n : ℕ) → AreSpaces text p q → q ≤ p + n
    → (q < p + n → byte text q ≢ 32)
    → q ≡ p + spaces n text p
spaces_end text p q n s few stop =
    let forward = s.forward in
    let at : p + (q - p) ≡ q = omega arith in
    let run = blocks.spaces_run (q - p) n text p (omega arith) (λ k a b. s.each k a (rw at at b)) in
    let none : spaces (n - (q - p)) text (p + (q - p)) ≡ 0 = rw at (elim (cases_lt q (p + n)) [
      | inl l ↦ blocks.spaces_other (n - (q - p)) text q (stop l)
      | inr l ↦ let z : n - (q - p) ≡ 0 = omega arith in rw z (blocks.spaces_none text q)
    ]) in
    omega arith

pub indent_forward : (text : List ℕ) (p s : ℕ) → s ≡ past_spaces text p → p ≤ s
indent_forward text p s e = rw e (past-le is_space_there (length text) text p)

-- spaces that are passed, or that many of them
pub indent_taken : (text : List ℕ) (p s most m : ℕ) → s ≡ past_spaces text p → m ≡ min (s - p) most
    → AreSpaces text p (p + m) × (p + m ≡ p + spaces most text p)
indent_taken text p s most m e least =
    let forward : p ≤ s = rw e (past-le is_space_there (length text) text p) in
    let each : (k : ℕ) → p ≤ k → k < s → is_space_there text k ≡ true = rw e (past_each is_space_there (length text) text p) in
    let stop : (byte text s == 32) ≡ false = rw e (past_stops is_space_there (length text) text p (space_some text) (omega arith)) in
    let are : AreSpaces text p (p + m) = record { forward = omega arith; each = λ k low high. same (byte text k) (each k low (omega arith)) } in
    (are, spaces_end text p (p + m) most are (omega arith) (λ l. let at : p + m ≡ s = omega arith in rw at (other (byte text s) stop)))
  where
    space_some : (text : List ℕ) (q : ℕ) → is_space_there text q ≡ true → 0 < byte text q
    space_some text q h = grind (arith, nat_tests)

    same : (b : ℕ) → (b == 32) ≡ true → b ≡ 32
    same b h = grind (arith, nat_tests)

    other : (b : ℕ) → (b == 32) ≡ false → b ≢ 32
    other b h = grind (arith, nat_tests)

spaces_column_over : (d : ℕ) (text : List ℕ) (p : ℕ)
    → ((k : ℕ) → p ≤ k → k < p + d → byte text k ≡ 32)
    → (column_at text (p + d) ≡ column_at text p + d) × ((k : ℕ) → p ≤ k → k < p + d → ends_break text k ≡ false)
spaces_column_over zero text p each =
    let z : p + 0 ≡ p = omega arith in
    (rw z (omega arith), λ k a b. absurd (omega arith))
spaces_column_over (suc d) text p each =
    let e : p + suc d ≡ p + d + 1 = omega arith in
    let before = spaces_column_over d text p (λ k a b. each k a (omega arith)) in
    let here = each (p + d) (omega arith) (omega arith) in
    let more = blocks.space_column text (p + d) here in
    let b = before.0 in
    (rw e (omega arith), λ k a b. blank_ends_none text k (rw (each k a b) refl))

-- spaces stay in their line, each a column
pub spaces_column : (text : List ℕ) (p q : ℕ) → AreSpaces text p q
    → (column_at text q ≡ column_at text p + (q - p)) × (line_start text q ≡ line_start text p)
spaces_column text p q s =
    let forward = s.forward in
    let at : p + (q - p) ≡ q = omega arith in
    let over = spaces_column_over (q - p) text p (λ k a b. s.each k a (rw at at b)) in
    (rw at at over.0, line_same text p q forward (λ k a b. over.1 k a (rw at b)))

-- a place after spaces is whole, as the one before them is
pub spaces_whole : (text : List ℕ) (p q : ℕ) → AreSpaces text p q → splits_break text p ≡ false
    → splits_break text q ≡ false
spaces_whole text p q s whole = (unbroken text p q s.forward whole (λ k a b. (blank_parts (byte text k) (byte text (k + 1)) (byte text (k + 2)) (rw (s.each k a b) refl)).1)).whole

pub spaces_inside : (text : List ℕ) (p q : ℕ) → AreSpaces text p q → p ≤ length text
    → q ≤ length text
spaces_inside text p q s inside = elim (cases_lt p q) [
  | inl l ↦
      let h = s.each (q - 1) (omega arith) (omega arith) in
      let last = within text (q - 1) (omega (arith, h)) in
      omega arith
  | inr l ↦ let forward = s.forward in omega arith
]

pub spaces_past : (text : List ℕ) (p : ℕ) → AreSpaces text p (past_spaces text p)
spaces_past text p = record {
  forward = past-le is_space_there (length text) text p;
  each = λ k a b. eqb-true (byte text k) 32 (past_each is_space_there (length text) text p k a b);
}

-- ---- the column of the text

larger_max : (a b : ℕ) → larger a b ≡ max a b
unfolding larger
larger_max a b = grind (arith, nat_tests)

-- the greatest column so far, and what is to come
pub record Depth (text : List ℕ) (from least p column : ℕ) : Type 0 where
  pub steps : ℕ
  pub room : length text ≤ p + steps
  pub rest : larger_of least (deepest (suc (length text)) text from) ≡ larger_of column (deepest (suc steps) text p)
  pub seat : 0 < byte text p → column_at text p ≡ 0
  pub later : 0 < byte text from → column_at text p ≡ 0

pub depth_first : (text : List ℕ) (from least : ℕ) → (0 < byte text from → column_at text from ≡ 0)
    → Depth text from least from least
depth_first text from least h = record { steps = length text; room = omega arith; rest = refl; seat = h; later = h }

behind_spaces : (text : List ℕ) (p : ℕ) → 0 < byte text (past_spaces text p) → 0 < byte text p
behind_spaces text p h = elim (cases_lt p (past_spaces text p)) [
  | inl l ↦ let e = (spaces_past text p).each p (omega arith) l in omega arith
  | inr l ↦ let forward = (spaces_past text p).forward in let e : past_spaces text p ≡ p = omega arith in rw e at h
]

pub break_some : (text : List ℕ) (p : ℕ) → 0 < break_width text p → 0 < byte text p
break_some text p h = elim (cases_lt 0 (byte text p)) [
  | inl l ↦ l
  | inr l ↦ absurd (let z : byte text p ≡ 0 = omega arith in let none = no_break (byte text p) (byte text (p + 1)) (byte text (p + 2)) (omega arith) (omega arith) (omega arith) (omega arith) in omega arith)
]

-- the next line
pub depth_next : (text : List ℕ) (from least p column end : ℕ) → Depth text from least p column
    → end ≡ past_spaces text p
    → byte text end ≢ 9 → 0 < break_width text end
    → Depth text from least (end + break_width text end) (max column (end - p))
depth_next text from least p column end depth at tab some = rw at (
    let end_at = past_spaces text p in
    let broke : 0 < break_width text end_at = rw at at some in
    let other : byte text end_at ≢ 9 = rw at at tab in
    let here = behind_spaces text p (break_some text end_at broke) in
    let over = (spaces_column text p end_at (spaces_past text p)).0 in
    let zero_is = depth.seat here in
    let reached : column_at text end_at ≡ end_at - p = omega arith in
    let (steps, room, rest) = depths.depth_more depth.steps text p column (larger_of least (deepest (suc (length text)) text from)) depth.room depth.rest other broke in
    let behind = past_break text end_at broke in
    record {
      steps = steps;
      room = room;
      rest = rest ∙ rw (larger_max, reached) refl;
      seat = λ s. behind.column;
      later = λ s. behind.column;
    })

pub depth_end : (text : List ℕ) (from least p column end : ℕ) → Depth text from least p column
    → end ≡ past_spaces text p
    → byte text end ≢ 9 → break_width text end ≡ 0
    → FindsColumn text from (Ok (max column (end - p))) (larger_of least (deepest (suc (length text)) text from))
depth_end text from least p column end depth at tab none =
    let done = depths.depth_done depth.steps text p column (rw at at tab) (rw at at none) in
    let over = (spaces_column text p (past_spaces text p) (spaces_past text p)).0 in
    rw (depth.rest, done) (λ s. let zero_is = depth.later s in let reached : column_at text (past_spaces text p) ≡ past_spaces text p - p = omega arith in rw (larger_max, reached, at) refl)

pub depth_bad : (text : List ℕ) (from least p column end : ℕ) (w : Told)
    → Depth text from least p column → end ≡ past_spaces text p
    → byte text end ≡ 9 → wrong_of w ≡ in_block problems.TabForSpace end
    → FindsColumn text from (Err w) (larger_of least (deepest (suc (length text)) text from))
depth_bad text from least p column end w depth at tab e =
    rw (depth.rest, depths.depth_tab depth.steps text p column (rw at at tab)) (e ∙ rw at refl)

pub past_spaces-le : (text : List ℕ) (p : ℕ) → p ≤ past_spaces text p
past_spaces-le text p = past-le is_space_there (length text) text p

pub depth_smaller : (text : List ℕ) (from least p column end : ℕ) → Depth text from least p column
    → end ≡ past_spaces text p
    → 0 < break_width text end → (p < end + break_width text end) × (p < length text) × (end + break_width text end ≤ length text)
depth_smaller text from least p column end depth at some =
    let forward = (spaces_past text p).forward in
    let inside = (past_break text end some).inside in
    (omega arith, omega arith, inside)

pub column_digit : (text : List ℕ) (p level digit c : ℕ) → 0 < digit → c ≡ (level - 1) + digit
    → FindsColumn text p (Ok c) (column_of level text digit p)
column_digit text p level digit c h e = rw (depths.column_given level text digit p h) (λ some. e)

pub column_deep : (text : List ℕ) (p level digit least : ℕ) (r : Result ℕ Told) → digit ≡ 0
    → least ≡ max level 1
    → FindsColumn text p r (larger_of least (deepest (suc (length text)) text p)) → FindsColumn text p r (column_of level text digit p)
column_deep text p level digit least r z e h = rw (depths.column_found level text digit p z, larger_max) (rw e at h)
