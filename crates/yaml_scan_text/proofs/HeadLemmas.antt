-- White after a break.
use Rattle.std.proofs.Common.{◌≡◌, ◌≢◌, ℕ, zero, suc, ◌+◌, ◌-◌, ◌<◌, ◌≤◌, ◌==◌, ◌&&◌, ◌||◌, nat_lt, if◌then◌else◌, Bool, true, false, List, [], ◌∷◌, ◌++◌, length, Err, refl, sym, ◌∙◌, inl, inr, arith}
use Rattle.yaml_scan_model.specs.declared.problem.Problem.TheVariants as problems
use Rattle.yaml_scan_model.specs.declared.problem.Context.TheVariants as contexts
use Rattle.yaml_scan_text.proofs.Words.{past, past-le, past_blanks, is_blank_there, nat_tests, cases_Bool, cases_lt, byte, break_width, column_at, column_more, end_next, is_blank, split_next, within, leads, after_white, leads-blank, white-blank, InHead, IsHead, IsBadTab, IsSpelled, PassesBreaks, wrong_of, White, no_white, white_blank, white_break, blank_parts, past_break, last_of, lead_break, Piece, Blank, Break, feed_at, spot_at, in_plain, Wrong, ends_at, is_bracket, is_colon, is_document_indicator}
use Rattle.yaml_scan_model.specs.Runs.{is_space_there, past_spaces}
use Rattle.yaml_scan_text.specs.declared.refusal.Wrong.{Wrong as Told}
use Rattle.yaml_scan_text.specs.PlainRead.{InIndent, PassesIndent}
use Rattle.yaml_scan_text.proofs.LinesLemmas.{no_mark, blank_starts, line_behind, line_same, past_each, past_stops}
use Rattle.yaml_scan_text.proofs.WhiteLemmas.{white_join}
use Rattle.yaml_scan_text.proofs.PlainLemmas.{blanks_end}

-- after a break a line starts
pub head_break : (text : List ℕ) (p : ℕ) → IsSpelled text → 0 < break_width text p
    → InHead text (p + break_width text p) (p + break_width text p)
head_break text p spelled h =
    let past = past_break text p h in
    let lead = lead_break text p h in
    let last = last_of text p h in
    let q = p + break_width text p in
    let zero_is : q - q ≡ 0 = omega arith in
    record {
      inside = past.inside;
      whole = past.whole;
      order = omega arith;
      own = rw last.next (sym (line_behind text last.byte_at last.ends));
      column = rw zero_is past.column;
      leading = sym lead.leading;
      white = sym lead.white;
      starts = spelled.breaks p h;
      blanks = λ k a b. absurd (omega arith);
    }

blank_low : (b : ℕ) → is_blank b ≡ true → b < 128
blank_low b h = grind (arith, nat_tests)

-- after a blank before a line's text
pub head_blank : (text : List ℕ) (line p : ℕ) → IsSpelled text → InHead text line p
    → is_blank (byte text p) ≡ true
    → InHead text line (p + 1)
head_blank text line p spelled head h =
    let parts = blank_parts (byte text p) (byte text (p + 1)) (byte text (p + 2)) h in
    let e = end_next text p head.whole parts.1 in
    let inside = within text p parts.0 in
    let order = head.order in
    let more = column_more text p e (blank_starts (byte text p) h) in
    let column = head.column in
    record {
      inside = omega arith;
      whole = split_next text p head.whole parts.1;
      order = omega arith;
      own = head.own ∙ sym (line_same text p (p + 1) (omega arith) (λ k a b. let s : k ≡ p = omega arith in rw s e));
      column = omega arith;
      leading = leads-blank text p h ∙ head.leading;
      white = white-blank text p h;
      starts = spelled.ascii p (blank_low (byte text p) h);
      blanks = λ k a b. elim (cases_lt k p) [ inl l ↦ head.blanks k a l | inr l ↦ let s : k ≡ p = omega arith in rw s h ];
    }

-- white up to a place before a line's text
pub record Passed (level : ℕ) (text : List ℕ) (p line q : ℕ) : Type 0 where
  pub pieces : List Piece
  pub white : White level text p q pieces
  pub head : InHead text line q

pub passed_first : (level : ℕ) (text : List ℕ) (p : ℕ) → IsSpelled text → 0 < break_width text p
    → Passed level text (p + break_width text p) (p + break_width text p) (p + break_width text p)
passed_first level text p spelled h = record { pieces = []; white = no_white (p + break_width text p); head = head_break text p spelled h }

pub passed_blank : (level : ℕ) (text : List ℕ) (p line q : ℕ) → IsSpelled text
    → Passed level text p line q
    → is_blank (byte text q) ≡ true → (byte text q == 9 && nat_lt (q - line) level) ≡ false
    → Passed level text p line (q + 1)
passed_blank level text p line q spelled passed h tab =
    let head = passed.head in
    let fine : (byte text q == 9 && (leads text q && nat_lt (column_at text q) level)) ≡ false = rw (head.leading, head.column) tab in
    record {
      pieces = passed.pieces ++ Blank (byte text q) ∷ [];
      white = white_join level text p q (q + 1) passed.pieces (Blank (byte text q) ∷ []) passed.white (white_blank q (q + 1) [] h fine (no_white (q + 1)));
      head = head_blank text line q spelled head h;
    }

pub passed_break : (level : ℕ) (text : List ℕ) (p line q : ℕ) → IsSpelled text
    → Passed level text p line q
    → 0 < break_width text q → Passed level text p (q + break_width text q) (q + break_width text q)
passed_break level text p line q spelled passed h = record {
  pieces = passed.pieces ++ Break (feed_at text q) ∷ [];
  white = white_join level text p q (q + break_width text q) passed.pieces (Break (feed_at text q) ∷ []) passed.white (white_break q (q + break_width text q) [] h (no_white (q + break_width text q)));
  head = head_break text q spelled h;
}

passed_over : (d level : ℕ) (text : List ℕ) (p line q : ℕ) → IsSpelled text
    → Passed level text p line q
    → ((k : ℕ) → q ≤ k → k < q + d → (is_blank (byte text k) ≡ true) × ((byte text k == 9 && nat_lt (k - line) level) ≡ false))
    → Passed level text p line (q + d)
passed_over zero level text p line q spelled passed each = let z : q + 0 ≡ q = omega arith in rw z passed
passed_over (suc d) level text p line q spelled passed each =
    let e : q + suc d ≡ q + 1 + d = omega arith in
    let (blank, tab) = each q (omega arith) (omega arith) in
    rw e (passed_over d level text p line (q + 1) spelled (passed_blank level text p line q spelled passed blank tab) (λ k low high. each k (omega arith) (omega arith)))

-- the indentation of the last line
pub passed_indent : (level : ℕ) (text : List ℕ) (p line q : ℕ) → IsSpelled text
    → Passed level text p line line → InIndent level text line q
    → Passed level text p line q
passed_indent level text p line q spelled passed indent =
    let forward = indent.forward in
    let e : line + (q - line) ≡ q = omega arith in
    rw e at (passed_over (q - line) level text p line line spelled passed (λ k low high. let below : k < q = rw e at high in (indent.blanks k low below, indent.tabs k low below)))

-- spaces before a line's text
space_byte : (b level n : ℕ) → (b == 32) ≡ true
    → (is_blank b ≡ true) × ((b == 9 && nat_lt n level) ≡ false)
space_byte b level n h = (grind (arith, nat_tests), grind (arith, nat_tests))

pub spaces_indent : (level : ℕ) (text : List ℕ) (line s : ℕ) → s ≡ past_spaces text line
    → InIndent level text line s
spaces_indent level text line s e = rw e (record {
  forward = past-le is_space_there (length text) text line;
  blanks = λ k low high. (space_byte (byte text k) level (k - line) (past_each is_space_there (length text) text line k low high)).0;
  tabs = λ k low high. (space_byte (byte text k) level (k - line) (past_each is_space_there (length text) text line k low high)).1;
})

-- after them a blank is a tab, and those after that are further right
pub indent_done : (level : ℕ) (text : List ℕ) (line s q : ℕ) → s ≡ past_spaces text line
    → (byte text s == 9 && nat_lt (s - line) level) ≡ false
    → q ≡ past_blanks text s → InIndent level text line q × (is_blank (byte text q) ≡ false)
indent_done level text line s q e fine at =
    let front = spaces_indent level text line s e in
    let forward = front.forward in
    let more : s ≤ q = rw at (past-le is_blank_there (length text) text s) in
    let each : (k : ℕ) → s ≤ k → k < q → is_blank (byte text k) ≡ true = rw at (past_each is_blank_there (length text) text s) in
    let other : (byte text s == 32) ≡ false = rw e (past_stops is_space_there (length text) text line (space_some text) (omega arith)) in (
      record {
        forward = omega arith;
        blanks = λ k low high. elim (cases_lt k s) [ inl l ↦ front.blanks k low l | inr l ↦ each k l high ];
        tabs = λ k low high. elim (cases_lt k s) [
          | inl l ↦ front.tabs k low l
          | inr l ↦ right (byte text s) (byte text k) (s - line) (k - line) level (each s (omega arith) (omega arith)) other (omega arith) fine
        ];
      },
      rw at (blanks_end text s),
    )
  where
    space_some : (text : List ℕ) (q : ℕ) → is_space_there text q ≡ true → 0 < byte text q
    space_some text q h = grind (arith, nat_tests)

    right : (b c m n level : ℕ) → is_blank b ≡ true → (b == 32) ≡ false → m ≤ n → (b == 9 && nat_lt m level) ≡ false → (c == 9 && nat_lt n level) ≡ false
    right b c m n level blank other order fine = grind (arith, nat_tests)

-- a tab in the indentation
pub tab_spot : (flow : Bool) (level : ℕ) (text : List ℕ) (line q : ℕ) → InHead text line q
    → is_blank (byte text q) ≡ true
    → (byte text q == 9 && nat_lt (q - line) level) ≡ true
    → spot_at flow level text q ≡ in_plain problems.TabInIndentation q
unfolding spot_at
tab_spot flow level text line q head h tab =
    let none = (blank_parts (byte text q) (byte text (q + 1)) (byte text (q + 2)) h).1 in
    let bad : (byte text q == 9 && (leads text q && nat_lt (column_at text q) level)) ≡ true = rw (head.leading, head.column) tab in
    rw (none, h, bad) refl

pub head_done : (level : ℕ) (text : List ℕ) (p line q : ℕ)
    → Passed level text (p + break_width text p) line q
    → break_width text q ≡ 0 → is_blank (byte text q) ≡ false → IsHead level text p (record { at = q; line = line })
head_done level text p line q passed none blank = record { pieces = passed.pieces; white = passed.white; head = passed.head; none = none; blank = blank }

pub head_bad : (level : ℕ) (text : List ℕ) (p line q : ℕ) (w : Wrong)
    → Passed level text (p + break_width text p) line q
    → is_blank (byte text q) ≡ true → (byte text q == 9 && nat_lt (q - line) level) ≡ true
    → w ≡ record { problem = problems.TabInIndentation; context = contexts.PlainScalar; place = q } → IsBadTab level text p w
head_bad level text p line q w passed h tab e =
    rw e (record { pieces = passed.pieces; white = passed.white; spot = λ flow. tab_spot flow level text line q passed.head h tab })

tab_blank : (b : ℕ) (x : Bool) → (b == 9 && x) ≡ true → is_blank b ≡ true
tab_blank b x h = grind (arith, nat_tests)

pub indent_bad : (level : ℕ) (text : List ℕ) (p line : ℕ) (told : Told) → IsSpelled text
    → Passed level text (p + break_width text p) line line
    → PassesIndent level text line (Err told) → PassesBreaks level text p (Err told)
indent_bad level text p line told spelled passed bad =
    let (q, indent, tab, is) = bad in
    head_bad level text p line q (wrong_of told) (passed_indent level text (p + break_width text p) line q spelled passed indent) (tab_blank (byte text q) _ tab) tab is

-- ---- whether a scalar ends there

ends_some : (z k c m d : Bool) → (z || (k || c)) ≡ true
    → ((z || m) || ((k && true) || (c || d))) ≡ true
ends_some z k c m d h = grind arith

pub ends_nothing : (flow : Bool) (level : ℕ) (text : List ℕ) (line p : ℕ) → InHead text line p
    → (byte text p == 0 || (byte text p == 35 || is_colon text p)) ≡ true → true ≡ ends_at flow level text p
unfolding ends_at
ends_nothing flow level text line p head h = rw head.white (sym (ends_some (byte text p == 0) (byte text p == 35) (is_colon text p) (is_document_indicator text p) _ h))

ends_marked : (z k d : Bool) → ((z || true) || (k || d)) ≡ true
ends_marked z k d = grind arith

pub ends_mark : (flow : Bool) (level : ℕ) (text : List ℕ) (p : ℕ)
    → is_document_indicator text p ≡ true
    → true ≡ ends_at flow level text p
unfolding ends_at
ends_mark flow level text p h = rw h (sym (ends_marked (byte text p == 0) (byte text p == 35 && after_white text p) (is_colon text p || (if flow then is_bracket (byte text p) else leads text p && nat_lt (column_at text p) level))))

ends_none : (z k c d : Bool) → (z || (k || c)) ≡ false
    → ((z || false) || ((k && true) || (c || d))) ≡ d
ends_none z k c d h = grind arith

pub ends_other : (flow : Bool) (level : ℕ) (text : List ℕ) (line p : ℕ) (apart : Bool)
    → InHead text line p
    → (byte text p == 0 || (byte text p == 35 || is_colon text p)) ≡ false → is_document_indicator text p ≡ false
    → apart ≡ (if flow then is_bracket (byte text p) else nat_lt (p - line) level)
    → apart ≡ ends_at flow level text p
unfolding ends_at
ends_other flow level text line p apart head h m e =
    rw (head.white, m, head.leading, head.column) (e ∙ sym (ends_none (byte text p == 0) (byte text p == 35) (is_colon text p) _ h))

pub mark_first : (text : List ℕ) (line p : ℕ) → InHead text line p → p ≡ line → column_at text p ≡ 0
mark_first text line p head e = let c = head.column in omega arith

pub mark_other : (text : List ℕ) (line p : ℕ) → InHead text line p → p ≢ line
    → false ≡ is_document_indicator text p
mark_other text line p head n =
    let c = head.column in
    let o = head.order in
    sym (no_mark text p (omega arith))

-- ---- white of which no column is refused

no_left : (b : Bool) (n : ℕ) → (b && nat_lt n 0) ≡ false
no_left b n = grind (arith, nat_tests)

passed_blanks : (n : ℕ) (text : List ℕ) (p line q : ℕ) → IsSpelled text → Passed 0 text p line q
    → Passed 0 text p line (past is_blank_there n text q)
unfolding past
passed_blanks zero text p line q spelled passed = passed
passed_blanks (suc n) text p line q spelled passed = elim (cases_Bool (is_blank (byte text q))) [
  | inl b ↦ rw b (passed_blanks n text p line (q + 1) spelled (passed_blank 0 text p line q spelled passed b (no_left (byte text q == 9) (q - line))))
  | inr b ↦ rw b passed
]

pub lines_passed : (text : List ℕ) (p line at : ℕ) → IsSpelled text → Passed 0 text p line line
    → at ≡ past_blanks text line → Passed 0 text p line at
lines_passed text p line at spelled passed e = rw e (passed_blanks (length text) text p line line spelled passed)

pub lines_done : (text : List ℕ) (p line at : ℕ) → IsSpelled text
    → Passed 0 text (p + break_width text p) line line → at ≡ past_blanks text line
    → break_width text at ≡ 0 → IsHead 0 text p (record { at = at; line = line })
lines_done text p line at spelled passed e none =
    head_done 0 text p line at (lines_passed text (p + break_width text p) line at spelled passed e) none (rw e (blanks_end text line))

pub lines_next : (text : List ℕ) (p line at : ℕ) → IsSpelled text → Passed 0 text p line line
    → at ≡ past_blanks text line
    → 0 < break_width text at → Passed 0 text p (at + break_width text at) (at + break_width text at)
lines_next text p line at spelled passed e some = passed_break 0 text p line at spelled (lines_passed text p line at spelled passed e) some

pub lines_further : (text : List ℕ) (line at : ℕ) → at ≡ past_blanks text line
    → 0 < break_width text at
    → (line < at + break_width text at) × (at + break_width text at ≤ length text)
lines_further text line at e some =
    let le : line ≤ at = rw e (past-le is_blank_there (length text) text line) in
    let inside = (past_break text at some).inside in
    (omega arith, inside)
