-- Lines between nodes, and the indicators after them.
use Rattle.std.proofs.Common.{◌≡◌, ℕ, ◌-◌, ◌+◌, ◌<◌, ◌==◌, ◌&&◌, ◌||◌, not, nat_lt, Bool, true, false, List, [], ◌∷◌, ◌++◌, zero, suc, refl, ap, ◌∙◌, inl, inr, arith, if◌then◌else◌, sym, subst, ◌≤◌}
use Rattle.yaml_emit_laws.proofs.NodeWords.{cases_Bool, false≢true, or_left, or_right, not-false, ltb-false, eq-eqb, nat_tests, yaml_encoding_t, TokenBody, break_of, byte, column_at, line_at, ends_of, ends_break, Cursor, LineBreak, Lf, Cr, CrLf, Rest, blank, blanks, line, indicator, must_break, new_line, indent_to, word, letter, bytes, Left, first, letter_low, left_letter, behind_return, walk_ends, walk_says, walk_mark, walk_white, begins_white, begins_solid, LinedUp, BareIndicator, Entry, Question, Answer, mark_byte, no_comment, mark_body, mark_level, IsLone, MarkIsWalked, NodeStage, NoFeed, Lined, LineIsWalked, LineEndsNode, ShowsNode, indent, margin_at, opened, start_of, level_of, is_start, is_value, allows_key, Kind, begins_lexeme, left_first, left_more, has_at, line_at-grows, Rises, IsGap, WalkState, ClosesAt, behind, sign, MarkComes, WordLeaves, signs_come, printed_begins, letter_columns, feed_line, words_leave, left_byte, column_end, line_end, line_start}
use Rattle.yaml_emit_layout.specs.scan_types.Tokens as tokens
use Rattle.yaml_scan_history.specs.declared.kind.Kind.TheVariants as kinds
use Rattle.yaml_emit_laws.proofs.Single.{broken}
use Rattle.yaml_emit_laws.proofs.Stopping.{white_next}

-- ---- white

spaces_some : (m : ℕ) (c : Cursor) (rest : Rest) → 0 < m
    → begins_white (bytes (blanks m c rest)) ≡ true
unfolding blanks
spaces_some zero c rest few = absurd (omega (arith, few))
spaces_some (suc m) c rest few =
    let k : Rest = λ d. blanks m d rest in
    ap (λ xs. begins_white xs) (letter_low 32 (k (record { column = c.column + 1; white = true; bare = c.bare; kept = c.kept })) refl)

break_white : (b : LineBreak) (c : Cursor) (rest : Rest)
    → begins_white (bytes (new_line b c rest)) ≡ true
break_white Lf c rest = ap (λ xs. begins_white xs) (letter_low 10 (rest (record { column = 0; white = true; bare = true; kept = c.kept })) refl)
break_white Cr c rest = ap (λ xs. begins_white xs) (letter_low 13 (rest (record { column = 0; white = true; bare = true; kept = c.kept })) refl)
break_white CrLf c rest = ap (λ xs. begins_white xs) (letter_low 13 (letter 10 ∷ rest (record { column = 0; white = true; bare = true; kept = c.kept })) refl)

space_due : (column n : ℕ) (bare white : Bool) → white ≡ false
    → (not bare || nat_lt n column || (column == n && not white)) ≡ false → 0 < n - column
space_due column n true true w e = absurd (cc)
space_due column n false white w e = absurd (cc)
space_due column n true false w e = grind (arith, nat_tests)

-- after what isn't white a line begins with a break or a space
pub line_begins_white : (b : LineBreak) (n : ℕ) (c : Cursor) (rest : Rest) → c.white ≡ false
    → begins_white (bytes (line b n c rest)) ≡ true
unfolding line
line_begins_white b n c rest white = grind (arith, nat_tests, break_white, spaces_some, space_due)

-- so does a word
pub word_begins_white : (t : List ℕ) (c : Cursor) (rest : Rest) → c.white ≡ false
    → begins_white (bytes (word t c rest)) ≡ true
word_begins_white t c rest white = grind (arith, nat_tests, letter_low)

-- ---- indicators show

indicator_bytes : (b : ℕ) (rest : Rest) (e : Cursor) → nat_lt b 128 ≡ true → e.white ≡ true
    → bytes (indicator b e rest) ≡ b ∷ bytes
    (rest (record { column = e.column + 1; white = false; bare = e.bare; kept = e.kept }))
indicator_bytes b rest e low white =
    let k : Rest = λ c. letter b ∷ rest (record { column = c.column + 1; white = false; bare = c.bare; kept = c.kept }) in
    ap (λ (t : Bool). bytes (if t then k e else blank e k)) white ∙ letter_low b (rest (record { column = e.column + 1; white = false; bare = e.bare; kept = e.kept })) low

mark_solid : (k : BareIndicator) (bs : List ℕ) → begins_solid (mark_byte k ∷ bs) ≡ true
unfolding break_of
mark_solid Entry bs = refl
mark_solid _ bs = refl

mark_calm : (k : BareIndicator) (bs : List ℕ) → no_comment (mark_byte k ∷ bs) ≡ true
unfolding no_comment
mark_calm Entry bs = refl
mark_calm _ bs = refl

pub mark_small : (k : BareIndicator) → nat_lt (mark_byte k) 128 ≡ true
mark_small Entry = refl
mark_small _ = refl

pub mark_shows : (k : BareIndicator) (n : ℕ) (rest : Rest)
    → ShowsNode n (λ e. indicator (mark_byte k) e rest)
mark_shows k n rest = grind (arith, nat_tests, indicator_bytes, mark_small, mark_solid, mark_calm)

-- ---- after a line

-- the innermost level is left to whoever opened the others
pub up_ends : (x : yaml_encoding_t) (text : List ℕ) (rest : Rest) (n : ℕ) (kept : Bool) (l : ℕ)
    (ls : List ℕ) (T : List TokenBody → List TokenBody)
    → LinedUp x text rest n kept (ls ++ l ∷ []) T
    → LinedUp x text rest n kept ls (λ bs. T (tokens.block_end ∷ bs))
up_ends x text rest n kept l ls T up =
    let h = up.lined in
    let s = h.stage in
    record {
      more = l ∷ up.more;
      lined = record {
        cursor = h.cursor;
        place = h.place;
        stage = record { reads = walk_ends x text h.place l [] ls up.more T s.reads; flat = s.flat; broken = s.broken; bare = s.bare; line = s.line };
        left = h.left;
        bare = h.bare;
        white = h.white;
        column = h.column;
        same = h.same;
      };
      later = up.later;
    }

-- the same tokens in other words
pub up_says : (x : yaml_encoding_t) (text : List ℕ) (rest : Rest) (n : ℕ) (kept : Bool)
    (ls : List ℕ) (T U : List TokenBody → List TokenBody) → LinedUp x text rest n kept ls T
    → ((bs : List TokenBody) → T bs ≡ U bs) → LinedUp x text rest n kept ls U
up_says x text rest n kept ls T U up e = grind (arith, nat_tests, walk_says, broken)

-- ==== The indicators of a bare line.

-- no gap where a lexeme begins at once
pub no_gap : (text : List ℕ) (p : ℕ) → begins_lexeme text p ≡ true → IsGap text p []
no_gap text p e = let z : p + 0 ≡ p = omega arith in record { has = λ k few. absurd (omega (arith, few)); blank = refl; ends = ap (λ n. begins_lexeme text n) z ∙ e }

-- A sign that is next, after no gap.
pub record SignNext (text : List ℕ) (p b : ℕ) (bs : List ℕ) : Type 0 where
  pub none : IsGap text p []
  pub at : byte text (p + 0) ≡ b
  pub left : Left text (p + 0 + 1) bs

-- A printable byte that begins no comment may be one.
pub sign_next : (text : List ℕ) (p b : ℕ) (bs : List ℕ) → 32 < b → b < 127 → (b ≡ 35 → ⊥)
    → Left text p (b ∷ bs) → SignNext text p b bs
sign_next text p b bs low high hash l = grind (arith, nat_tests, left_first, no_gap, printed_begins, left_more)

-- ---- white in bytes is white in the text

-- ---- the three indicators

abbrev mark_kind : BareIndicator → Kind
mark_kind Entry = kinds.BlockEntry
mark_kind Question = kinds.KeyMark
mark_kind Answer = kinds.ValueMark

mark_comes : (k : BareIndicator) → MarkComes (mark_byte k) (mark_kind k) (mark_body k)
mark_comes Entry = signs_come.entry
mark_comes Question = signs_come.question
mark_comes Answer = signs_come.colon

mark_prints : (k : BareIndicator) → (32 < mark_byte k) × (mark_byte k < 127) × (mark_byte k ≡ 35
    → ⊥)
mark_prints Entry = (omega arith, omega arith, λ y. omega (arith, y))
mark_prints _ = (omega arith, omega arith, λ y. omega (arith, y))

mark_starts : (k : BareIndicator)
    → (is_start (mark_kind k) ≡ true) × (level_of (mark_kind k) ≡ mark_level k)
    × (allows_key (mark_kind k) true false ≡ true)
mark_starts Entry = (refl, refl, refl)
mark_starts _ = (refl, refl, refl)

lone_at : (k : BareIndicator) (text : List ℕ) (o : WalkState) (q : ℕ) → q ≡ o.at → IsLone k text o
    → is_value (mark_kind k) ≡ true → o.line < line_at text q
lone_at Answer text o q e l v = subst (λ n. o.line < line_at text n) (sym e) l
lone_at _ text o q e l v = absurd (false≢true v)

pub mark_on : MarkIsWalked
mark_on k x text n kept ls more new what T rest here lone low rises opens starts parted =
    let b = mark_byte k in
    let c = here.cursor in
    let o = here.place in
    let s = here.stage in
    let p = o.at in
    let column = here.column in
    let e : Cursor = record { column = c.column + 1; white = false; bare = c.bare; kept = c.kept } in
    let f : Rest = λ c. letter b ∷ rest (record { column = c.column + 1; white = false; bare = c.bare; kept = c.kept }) in
    let m = left_letter text p b (rest e) (mark_small k) (subst (λ (t : Bool). Left text p (bytes (if t then f c else blank c f))) here.white here.left) in
    let (above, below, none) = mark_prints k in
    let y = sign_next text p b _ above below none m in
    let z : p + 0 ≡ p = omega arith in
    let q = p + 0 in
    let (now, same) = s.bare here.bare in
    let there : column_at text q ≡ n = ap (λ n. column_at text n) z ∙ same ∙ column in
    let margin : margin_at (column_at text q) ≡ n + 1 = ap (λ i. i + 1) there in
    let up : c.column + 1 ≡ n + 1 = ap (λ i. i + 1) column in
    let comes = mark_comes k text p 0 (indent ls) [] y.none y.at (white_next text (q + 1) (bytes (rest e)) y.left (parted e here.bare refl up)) in
    let closes : ClosesAt 0 (column_at text q) ls more = inr (refl, omega (arith, margin, low), subst (λ i. Rises i more) (sym margin) rises) in
    let (is, level, allows) = mark_starts k in
    let r = walk_mark x text o ls more new what T (mark_kind k) [] (sign (mark_body k) (q + 1)) (q + 1) true true s.reads s.flat comes is
    (or_left o.now (false && o.broken) now) closes (lone_at k text o q z lone) (ap (λ i. opened true i ls) margin ∙ opens)
    (ap (λ i. start_of 0 i ls (level_of (mark_kind k))) margin ∙ ap (λ t. start_of 0 (n + 1) ls t) level ∙ starts)
    (subst (λ (t : Bool). WordLeaves text 0 t (sign (mark_body k) (q + 1)) (q + 1) true true) (sym allows) (words_leave.all text 0 true (sign (mark_body k) (q + 1)) refl)) in
    let (next, line) = letter_columns text q b y.at (omega (arith, above)) below in
    let right : column_at text (q + 1) ≡ n + 1 = next ∙ ap (λ i. i + 1) there in
    record {
      cursor = e;
      place = behind text q (q + 1) 0 true true;
      stage = record { reads = r; flat = refl; broken = refl; bare = λ b. (refl, right ∙ sym up); line = line_at-grows text q (q + 1) (omega arith) };
      left = y.left;
      bare = here.bare;
      white = refl;
      column = up;
      right = right;
      same = here.same;
    }

-- ==== Spaces and lines.

-- ---- spaces

-- a line that was come to stays after
pub line_on_to : (text : List ℕ) (p q i : ℕ) → i ≤ line_at text p → p ≤ q → i ≤ line_at text q
line_on_to text p q i low up = let more = line_at-grows text p q up in omega (arith, low, more)

pub blanks_on : (n : ℕ) (x : yaml_encoding_t) (text : List ℕ) (c : Cursor) (o : WalkState)
    (ls more : List ℕ) (T : List TokenBody → List TokenBody) (rest : Rest)
    → NodeStage x text c o ls more T → c.bare ≡ true → (n ≡ 0 → c.white ≡ true)
    → Left text o.at (bytes (blanks n c rest)) → Lined x text rest (c.column + n) c.kept ls more T
unfolding blanks
blanks_on zero x text c o ls more T rest s bare white l = record { cursor = c; place = o; stage = s; left = l; bare = bare; white = white refl; column = omega arith; same = refl }
blanks_on (suc n) x text c o ls more T rest s bare white l =
    let m = left_letter text o.at 32 _ refl l in
    let here = left_first text o.at 32 _ m in
    let e : Cursor = record { column = c.column + 1; white = true; bare = c.bare; kept = c.kept } in
    let r = walk_white x text o [] ls more T (32 ∷ []) s.reads (has_at text o.at (32 ∷ []) (here, tt)) refl in
    let (now, column) = s.bare bare in
    let (next, line_same) = letter_columns text o.at 32 here (omega arith) (omega arith) in
    let u : WalkState = record { at = o.at + 1; line = o.line; depth = o.depth; now = o.now || (false && o.broken); broken = o.broken } in
    let t : NodeStage x text e u ls more T = record { reads = r; flat = s.flat; broken = s.broken; bare = λ b. (or_left o.now (false && o.broken) now, next ∙ ap (λ k. k + 1) column); line = line_on_to text o.at (o.at + 1) o.line s.line (omega arith) } in
    let all = blanks_on n x text e u ls more T rest t bare (λ z. refl) (left_more text o.at 32 _ m) in
    record { cursor = all.cursor; place = all.place; stage = all.stage; left = all.left; bare = all.bare; white = all.white; column = all.column ∙ omega arith; same = all.same }

-- spaces stay on later lines
blanks_later : (n : ℕ) (x : yaml_encoding_t) (text : List ℕ) (c : Cursor) (o : WalkState)
    (ls more : List ℕ) (T : List TokenBody → List TokenBody) (rest : Rest)
    (s : NodeStage x text c o ls more T) (bare : c.bare ≡ true) (white : n ≡ 0 → c.white ≡ true)
    (l : Left text o.at (bytes (blanks n c rest))) → o.line < line_at text o.at
    → let all = blanks_on n x text c o ls more T rest s bare white l in
    all.place.line < line_at text all.place.at
unfolding blanks blanks_on
blanks_later zero x text c o ls more T rest s bare white l late = late
blanks_later (suc n) x text c o ls more T rest s bare white l late = blanks_later n x text _ _ ls more T rest _ bare _ _ (line_on_to text o.at (o.at + 1) (suc o.line) late (omega arith))

first_blank : (n : ℕ) (c : Cursor) (m : ℕ) (rest : Rest) → NoFeed m rest → c.bare ≡ true
    → c.white ≡ true → c.column + n ≡ m → first (bytes (blanks n c rest)) ≡ 10 → ⊥
unfolding blanks
first_blank n c m rest none bare white column e = grind (arith, nat_tests, letter_low)

-- ---- the break that is set

record Broken (x : yaml_encoding_t) (text : List ℕ) (c : Cursor) (rest : Rest) (ls more : List ℕ) (T : List TokenBody → List TokenBody) : Type 0 where
  place : WalkState
  stage : NodeStage x text (line_start c) place ls more T
  left : Left text place.at (bytes (rest (line_start c)))
  later : place.line < line_at text place.at

alone_ends : (b c d : ℕ) → (d ≡ 10 → ⊥) → ends_of b c 13 d ≡ true
unfolding ends_of
alone_ends b c d f = grind (arith, nat_tests)

return_ends_line : (text : List ℕ) (p : ℕ) → byte text p ≡ 13 → (byte text (p + 1) ≡ 10 → ⊥)
    → ends_break text p ≡ true
return_ends_line text p e f = ap (λ (b : ℕ). ends_of (byte text (p - 2)) (byte text (p - 1)) b (byte text (p + 1))) e ∙ alone_ends (byte text (p - 2)) (byte text (p - 1)) (byte text (p + 1)) f

abbrev behind_white : WalkState → ℕ → WalkState
behind_white o n = record { at = o.at + n; line = o.line; depth = o.depth; now = o.now || (true && o.broken); broken = o.broken }

break_on : (b : LineBreak) (x : yaml_encoding_t) (text : List ℕ) (c : Cursor) (o : WalkState)
    (ls more : List ℕ) (T : List TokenBody → List TokenBody) (rest : Rest)
    → NodeStage x text c o ls more T → (first (bytes (rest (line_start c))) ≡ 10 → ⊥)
    → Left text o.at (bytes (new_line b c rest)) → Broken x text c rest ls more T
break_on Lf x text c o ls more T rest s none l =
    let m = left_letter text o.at 10 _ refl l in
    let here = left_first text o.at 10 _ m in
    let r = walk_white x text o [] ls more T (10 ∷ []) s.reads (has_at text o.at (10 ∷ []) (here, tt)) refl in
    let start : column_at text (o.at + 1) ≡ 0 = column_end text o.at (feed_line text o.at here) in
    let next = line_end text o.at (feed_line text o.at here) in
    let low = s.line in
    record { place = behind_white o 1; stage = record { reads = r; flat = s.flat; broken = s.broken; bare = λ b. (or_right o.now (true && o.broken) s.broken, start); line = omega (arith, next, low) }; left = left_more text o.at 10 _ m; later = omega (arith, next, low) }
break_on Cr x text c o ls more T rest s none l =
    let m = left_letter text o.at 13 _ refl l in
    let here = left_first text o.at 13 _ m in
    let after = left_more text o.at 13 _ m in
    let r = walk_white x text o [] ls more T (13 ∷ []) s.reads (has_at text o.at (13 ∷ []) (here, tt)) refl in
    let start : column_at text (o.at + 1) ≡ 0 = behind_return text o.at here (λ e. none (sym (left_byte text (o.at + 1) _ after) ∙ e)) in
    let next = line_end text o.at (return_ends_line text o.at here (λ e. none (sym (left_byte text (o.at + 1) _ after) ∙ e))) in
    let low = s.line in
    record { place = behind_white o 1; stage = record { reads = r; flat = s.flat; broken = s.broken; bare = λ b. (or_right o.now (true && o.broken) s.broken, start); line = omega (arith, next, low) }; left = after; later = omega (arith, next, low) }
break_on CrLf x text c o ls more T rest s none l =
    let m = left_letter text o.at 13 _ refl l in
    let here = left_first text o.at 13 _ m in
    let k = left_letter text (o.at + 1) 10 _ refl (left_more text o.at 13 _ m) in
    let next = left_first text (o.at + 1) 10 _ k in
    let two : o.at + 1 + 1 ≡ o.at + 2 = omega arith in
    let one = line_end text (o.at + 1) (feed_line text (o.at + 1) next) in
    let before = line_on_to text o.at (o.at + 1) o.line s.line (omega arith) in
    let far : line_at text (o.at + 2) ≡ line_at text (o.at + 1) + 1 = subst (λ q. line_at text q ≡ line_at text (o.at + 1) + 1) two one in
    let r = walk_white x text o [] ls more T (13 ∷ 10 ∷ []) s.reads (has_at text o.at (13 ∷ 10 ∷ []) (here, (next, tt))) refl in
    let start : column_at text (o.at + 2) ≡ 0 = subst (λ q. column_at text q ≡ 0) two (column_end text (o.at + 1) (feed_line text (o.at + 1) next)) in
    record {
      place = behind_white o 2;
      stage = record { reads = r; flat = s.flat; broken = s.broken; bare = λ b. (or_right o.now (true && o.broken) s.broken, start); line = omega (arith, far, before) };
      later = omega (arith, far, before);
      left = subst (λ q. Left text q (bytes (rest (line_start c)))) two (left_more text (o.at + 1) 10 _ k);
    }

-- ---- a line

all_false : (a b d : Bool) → (a || b || d) ≡ false → (a ≡ false) × (b ≡ false) × (d ≡ false)
all_false a b d e = grind (arith, nat_tests)

white_so : (a w : Bool) → a ≡ true → (a && not w) ≡ false → w ≡ true
white_so true true e f = refl
white_so true false e f = absurd (cc)
white_so false w e f = absurd (cc)

pub line_on : LineIsWalked
unfolding line
line_on b n x text c o ls more T rest s none l =
    let after : Rest = λ k. indent_to n k rest in
    elim (cases_Bool (must_break n c)) [
      | inl e ↦
          let h = break_on b x text c o ls more T after s (first_blank (n - 0) (line_start c) n rest none refl refl (omega arith)) (subst (λ (t : Bool). Left text o.at (bytes (if t then new_line b c after else after c))) e l) in
          let all = blanks_on (n - 0) x text (line_start c) h.place ls more T rest h.stage refl (λ z. refl) h.left in
          record { cursor = all.cursor; place = all.place; stage = all.stage; left = all.left; bare = all.bare; white = all.white; column = all.column ∙ omega arith; same = all.same }
      | inr e ↦
          let (bare, right, late) = all_false (not c.bare) (nat_lt n c.column) (c.column == n && not c.white) e in
          let most = ltb-false n c.column right in
          let all = blanks_on (n - c.column) x text c o ls more T rest s (not-false c.bare bare) (λ z. white_so (c.column == n) c.white (eq-eqb c.column n (omega (arith, z, most))) late)
          (subst (λ (t : Bool). Left text o.at (bytes (if t then new_line b c after else after c))) e l) in
          record { cursor = all.cursor; place = all.place; stage = all.stage; left = all.left; bare = all.bare; white = all.white; column = all.column ∙ omega (arith, most); same = all.same }
    ]

pub line_ends : LineEndsNode
unfolding line
line_ends b n x text kept ls T rest none g =
    let c = g.behind in
    let after : Rest = λ k. indent_to n k rest in
    let break : must_break n c ≡ true = broken c.bare (nat_lt n c.column) (c.column == n && not c.white) g.bare in
    let h = break_on b x text c g.place ls g.more T after g.stage (first_blank (n - 0) (line_start c) n rest none refl refl (omega arith)) (subst (λ (t : Bool). Left text g.place.at (bytes (if t then new_line b c after else after c))) break g.left) in
    let all = blanks_on (n - 0) x text (line_start c) h.place ls g.more T rest h.stage refl (λ z. refl) h.left in
    let there : 0 + (n - 0) ≡ n = omega arith in
    record {
      more = g.more;
      lined = record { cursor = all.cursor; place = all.place; stage = all.stage; left = all.left; bare = all.bare; white = all.white; column = ◌∙◌ {a = all.cursor.column} all.column there; same = ◌∙◌ {a = all.cursor.kept} all.same g.same };
      later = blanks_later (n - 0) x text (line_start c) h.place ls g.more T rest h.stage refl (λ z. refl) h.left h.later;
    }
