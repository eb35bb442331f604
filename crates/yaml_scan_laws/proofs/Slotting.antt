-- Where candidates are, levels that open, and columns after white.
use Rattle.std.proofs.Common.{◌≡◌, ◌⊎◌, ℕ, suc, ◌+◌, ◌-◌, ◌<◌, ◌≤◌, ◌==◌, ◌||◌, nat_lt, cond, Bool, true, false, List, [], ◌∷◌, ◌++◌, length, Option, Some, None, refl, sym, ap, ◌∙◌, inl, inr, arith}
use Rattle.std.specs.Prelude.{if◌then◌else◌}
use Rattle.yaml_scan_laws.proofs.LevelWords.{cases_Bool, and_parts, nat_tests, byte, ends_of, ends_break, starts, line_at, column_at, mark_at, are_gap, has_break, begins_lexeme, Lexeme, Opens, cancels, Candidate, candidate, fresh, indent, opened, start_of, line_at-grows, read_at, IsGap, StartsBy, Started, StartedGoesOn, LaterIsLone, BreakEndsLine, NearBefore, SlotsGoOn, NoneIsLone, LevelOpens, column_behind, WhiteColumns, LetterColumns, byte_cases}
use Rattle.yaml_scan_history.specs.declared.lexeme.Opens.TheVariants as opening
use Rattle.yaml_scan_history.proofs.MarksLemmas.{line_more, line_end, column_more, column_end}
use Rattle.yaml_scan_laws.proofs.Keying.{kept_in, cancelled_slot}
use Rattle.yaml_scan_laws.proofs.Whites.{has_first, has_rest, no_white}

-- ---- candidates on earlier lines

starts_more : (same saved cancel below : Bool) (c : Candidate) (rest : Option Candidate) (n m : ℕ)
    → c.lexeme.start.line ≤ m → n ≤ m → StartsBy rest n
    → StartsBy (cond same (cond saved (Some c) (cond cancel None rest)) (cond below None rest)) m
starts_more same saved cancel below c rest n m e f s = grind (arith, nat_tests)

started_more : (l : Lexeme) (h : List Lexeme) (n m : ℕ) → Started h n → n ≤ m → l.start.line ≤ m
    → Started (l ∷ h) m
unfolding candidate
started_more l h n m s e f = λ i. starts_more (l.depth == i) l.saved (cancels l.kind) (nat_lt l.depth i) (record { number = length h; lexeme = l }) (candidate i h) n m f e (s i)

pub started_goes_on : StartedGoesOn
started_goes_on = record { nothing = (unfold candidate in λ n. λ i. tt); more = started_more }

later : (o : Option Candidate) (text : List ℕ) (q n : ℕ) → StartsBy o n → n < line_at text q
    → fresh o (mark_at text q) ≡ None
later o text q n s e = grind (arith, nat_tests)

pub later_is_lone : LaterIsLone
later_is_lone text h d q n s e = later (candidate d h) text q n (s d) e

pub none_is_lone : NoneIsLone
none_is_lone text h d q e = ap (λ (o : Option Candidate). fresh o (mark_at text q)) e

-- ---- lines and columns

feed_ends : (x y c : ℕ) → ends_of x y 10 c ≡ true
unfolding ends_of
feed_ends x y c = refl

return_ends : (x y c : ℕ) → (c == 10) ≡ false → ends_of x y 13 c ≡ true
unfolding ends_of
return_ends x y c e = rw e refl

pub letter_columns : LetterColumns
letter_columns text p b e low high =
    let ends : ends_break text p ≡ false = ap (λ (x : ℕ). ends_of (byte text (p - 2)) (byte text (p - 1)) x (byte text (p + 1))) e ∙ (unfold ends_of in grind (arith, nat_tests)) in
    let first : starts (byte text p) ≡ true = ap (λ (x : ℕ). starts x) e ∙ (grind (arith, nat_tests)) in
    (column_more text p ends first, line_more text p ends)

rest_gap : (text : List ℕ) (p b : ℕ) (bs : List ℕ) → IsGap text p (b ∷ bs) → IsGap text (p + 1) bs
rest_gap text p b bs g =
    let (here, rest) = and_parts (b == 32 || (b == 10 || b == 13)) (are_gap bs) g.blank in
    let z : p + 1 + length bs ≡ p + suc (length bs) = omega arith in
    record { has = has_rest text p b bs g.has; blank = rest; ends = ap (λ (n : ℕ). begins_lexeme text n) z ∙ g.ends }

first_gap : (text : List ℕ) (p b : ℕ) (bs : List ℕ) → IsGap text p (b ∷ bs)
    → (byte text p ≡ b) × ((b == 32 || (b == 10 || b == 13)) ≡ true)
first_gap text p b bs g = let (here, rest) = and_parts (b == 32 || (b == 10 || b == 13)) (are_gap bs) g.blank in (has_first text p b bs g.has, here)

-- a break ends there, unless LF follows CR
pub feed_line : (text : List ℕ) (p : ℕ) → byte text p ≡ 10 → ends_break text p ≡ true
feed_line text p e = ap (λ (x : ℕ). ends_of (byte text (p - 2)) (byte text (p - 1)) x (byte text (p + 1))) e ∙ feed_ends (byte text (p - 2)) (byte text (p - 1)) (byte text (p + 1))

return_line : (text : List ℕ) (p : ℕ) → byte text p ≡ 13 → (byte text (p + 1) == 10) ≡ false
    → ends_break text p ≡ true
return_line text p e f = ap (λ (x : ℕ). ends_of (byte text (p - 2)) (byte text (p - 1)) x (byte text (p + 1))) e ∙ return_ends (byte text (p - 2)) (byte text (p - 1)) (byte text (p + 1)) f

-- LF is after CR within the gap, or not at all
feed_behind : (text : List ℕ) (p : ℕ) (bs : List ℕ) → IsGap text p bs → (byte text p == 10) ≡ true
    → (cs : List ℕ) × (bs ≡ 10 ∷ cs)
feed_behind text p [] g e =
    let z : p + 0 ≡ p = omega arith in
    let here : begins_lexeme text p ≡ true = sym (ap (λ (n : ℕ). begins_lexeme text n) z) ∙ g.ends in
    let ten : byte text p ≡ 10 = grind (arith, nat_tests) in
    absurd (no_white text p 10 ten refl here)
feed_behind text p (b ∷ bs) g e =
    let (same, white) = first_gap text p b bs g in
    let ten : b ≡ 10 = let f : byte text p ≡ 10 = grind (arith, nat_tests) in sym same ∙ f in
    (bs, ap (λ (x : ℕ). x ∷ bs) ten)

grown : (text : List ℕ) (p : ℕ) (bs : List ℕ)
    → line_at text (p + 1) ≤ line_at text (p + suc (length bs))
grown text p bs = line_at-grows text (p + 1) (p + suc (length bs)) (omega arith)

ended_line : (text : List ℕ) (p : ℕ) (bs : List ℕ) → ends_break text p ≡ true
    → line_at text p < line_at text (p + suc (length bs))
ended_line text p bs e = let one = line_end text p e in let more = grown text p bs in omega (arith, one, more)

later_line : (text : List ℕ) (p : ℕ) (bs : List ℕ)
    → line_at text (p + 1) < line_at text (p + 1 + length bs)
    → line_at text p < line_at text (p + suc (length bs))
later_line text p bs e = grind (arith, nat_tests, line_at-grows)

breaks_line : (text : List ℕ) (p : ℕ) (gap : List ℕ) → IsGap text p gap → has_break gap ≡ true
    → line_at text p < line_at text (p + length gap)
breaks_line text p [] g e = absurd (cc)
breaks_line text p (b ∷ bs) g e =
    let (same, white) = first_gap text p b bs g in
    elim (byte_cases b white) [
      | inl s ↦
          let more : has_break bs ≡ true = sym (ap (λ (x : ℕ). (x == 10 || x == 13) || has_break bs) s) ∙ e in
          later_line text p bs (breaks_line text (p + 1) bs (rest_gap text p b bs g) more)
      | inr (inl s) ↦ ended_line text p bs (feed_line text p (same ∙ s))
      | inr (inr s) ↦ elim (cases_Bool (byte text (p + 1) == 10)) [
        | inl f ↦
            let (cs, split) = feed_behind text (p + 1) bs (rest_gap text p b bs g) f in
            let more : has_break bs ≡ true = ap (λ (xs : List ℕ). has_break xs) split in
            later_line text p bs (breaks_line text (p + 1) bs (rest_gap text p b bs g) more)
        | inr f ↦ ended_line text p bs (return_line text p (same ∙ s) f)
      ]
    ]

pub break_ends_line : BreakEndsLine
break_ends_line text p gap g e = breaks_line text p gap g e

pub near_before : NearBefore
near_before text start p q e f = grind (arith, nat_tests, line_at-grows)

-- a gap that begins with LF: the column before it doesn't matter
white_column : (text : List ℕ) (p : ℕ) (gap : List ℕ) (c : ℕ) → IsGap text p gap
    → (column_at text p ≡ c) ⊎ ((cs : List ℕ) × (gap ≡ 10 ∷ cs))
    → column_at text (p + length gap) ≡ column_behind gap c
white_column text p [] c g (inl e) = let z : p + 0 ≡ p = omega arith in ap (λ (n : ℕ). column_at text n) z ∙ e
white_column text p [] c g (inr (cs, e)) = absurd (cc)
white_column text p (b ∷ bs) c g start =
    let (same, white) = first_gap text p b bs g in
    let rest = rest_gap text p b bs g in
    let z : p + suc (length bs) ≡ p + 1 + length bs = omega arith in
    let far : column_at text (p + suc (length bs)) ≡ column_at text (p + 1 + length bs) = ap (λ (n : ℕ). column_at text n) z in
    elim (byte_cases b white) [
      | inl s ↦
          let here : column_at text p ≡ c = elim start [ inl e ↦ e | inr (cs, e) ↦ let f : b ≡ 10 = cc in absurd (omega (arith, f, s)) ] in
          let (one, line) = letter_columns text p 32 (same ∙ s) (omega arith) (omega arith) in
          far ∙ white_column text (p + 1) bs (c + 1) rest (inl (one ∙ ap (λ (n : ℕ). n + 1) here)) ∙ sym (ap (λ (x : ℕ). column_behind bs (if x == 32 then c + 1 else 0)) s)
      | inr (inl s) ↦ far ∙ white_column text (p + 1) bs 0 rest (inl (column_end text p (feed_line text p (same ∙ s)))) ∙ sym (ap (λ (x : ℕ). column_behind bs (if x == 32 then c + 1 else 0)) s)
      | inr (inr s) ↦ elim (cases_Bool (byte text (p + 1) == 10)) [
        | inl f ↦ far ∙ white_column text (p + 1) bs 0 rest (inr (feed_behind text (p + 1) bs rest f)) ∙ sym (ap (λ (x : ℕ). column_behind bs (if x == 32 then c + 1 else 0)) s)
        | inr f ↦ far ∙ white_column text (p + 1) bs 0 rest (inl (column_end text p (return_line text p (same ∙ s) f))) ∙ sym (ap (λ (x : ℕ). column_behind bs (if x == 32 then c + 1 else 0)) s)
      ]
    ]

pub white_columns : WhiteColumns
white_columns text p gap g = white_column text p gap (column_at text p) g (inl refl)

-- ---- one depth's candidate

opened_slot : (l : Lexeme) (h : List Lexeme) (e : ℕ) → l.depth < e → candidate e (l ∷ h) ≡ None
unfolding candidate
opened_slot l h e f = grind (arith, nat_tests)

pub slots_go_on : SlotsGoOn
slots_go_on = record {
  stays = λ text h d e k q a w deep is. kept_in (read_at text h k q a w) h k d e a refl deep refl is;
  goes = λ text h d k q a w deep free c. cancelled_slot (read_at text h k q a w) h d deep free c;
  opens = λ text h d e k q a w deep f. opened_slot (read_at text h k q a w) h e (omega (arith, deep, f));
}

-- ---- the level that opens

level_last : (m : ℕ) (ls : List ℕ) → indent (ls ++ m ∷ []) ≡ m
unfolding indent
level_last m [] = refl
level_last m (c ∷ []) = refl
level_last m (c ∷ d ∷ ls) = level_last m (d ∷ ls)

level_new : (m : ℕ) (ls : List ℕ) (what : Opens) → indent ls < m
    → (opened true m ls ≡ ls ++ m ∷ []) × (start_of 0 m ls what ≡ what)
level_new m ls what e = let t : nat_lt (indent ls) m ≡ true = grind (arith, nat_tests) in (rw t refl, rw t refl)

level_old : (m : ℕ) (ls : List ℕ) (what : Opens) → m ≤ indent ls
    → (opened true m ls ≡ ls) × (start_of 0 m ls what ≡ opening.Nothing)
level_old m ls what e = let t : nat_lt (indent ls) m ≡ false = grind (arith, nat_tests) in (rw t refl, rw t refl)

pub level_opens : LevelOpens
level_opens = record { opens = level_new; stays = level_old; inside = (λ d m ls what e. (rw e refl, rw e refl)); last = level_last }
