-- Lines of plain scalars.
use Rattle.std.proofs.Common.{◌≡◌, ◌≢◌, ℕ, zero, suc, ◌+◌, ◌-◌, ◌<◌, ◌≤◌, ◌==◌, ◌&&◌, ◌||◌, nat_lt, nat_le, if◌then◌else◌, Bool, true, false, List, [], ◌∷◌, ◌++◌, length, Result, Ok, Err, refl, sym, ap, ◌∙◌, inl, inr, append_assoc, append-nil, arith}
use Rattle.std.proofs.lemmas.List.{get_or_past}
use Rattle.yaml_scan_text.proofs.Words.{nat_tests, blank_parts, within, cases_Bool, cases_lt, lt-ltb, no_break, byte, break_width, starts, is_blank, is_bracket, is_document_indicator, leads, after_white, white-blank, spot_at, ends_at, spot_kept, Ends, Takes, Faulty, Words, Wrong, PlainText, with_piece, words_from, plain_with, plain_text, plain_at, plain_whole, words_here, words_on, Piece, Kept, value, value-kept, is_nothing, blanks_of, bytes_at, bytes_more, bytes_none, past, past_blanks, is_blank_there, IsWord, InLine, so_far, coming, is_colon, is_bad_colon, stops, may_stop, end_next, ends_break, White, no_white, white_blank}
use Rattle.yaml_scan_runs.specs.Runs.{IsNarrow, RunsTo}
use Rattle.yaml_scan_text.proofs.RunLemmas.{run_is}
use Rattle.yaml_scan_text.proofs.LinesLemmas.{InRow, blank_ends_none, row_of, row_char, row_blank, word_line, no_mark}
use Rattle.yaml_scan_text.proofs.WhiteLemmas.{with_white, words_with, white_words, white_some, white_nothing, has_break}

-- ---- what is done, and what comes

nothing_is : (ps : List Piece) → is_nothing ps ≡ true → ps ≡ []
nothing_is ps e = grind arith

-- from the first character on
first_far : (bytes : List ℕ) (q : ℕ) (w : Words)
    → plain_text (with_piece (Kept bytes) q w) ≡ so_far bytes q w
unfolding so_far
first_far bytes q w = elim (cases_Bool (is_nothing w.pieces)) [
  | inl n ↦
      let same : w.pieces ≡ [] = nothing_is w.pieces n in
      rw (n, same, value-kept [] bytes []) (rw append-nil refl)
  | inr s ↦ rw (s, value-kept [] bytes w.pieces) refl
]

plain_first : (bytes : List ℕ) (q : ℕ) (r : Result Words Wrong)
    → plain_with plain_text (words_from (Kept bytes) q r) ≡ plain_with (so_far bytes q) r
plain_first bytes q (Ok w) = ap (λ (t : PlainText). Ok t) (first_far bytes q w)
plain_first bytes q (Err e) = refl

pub plain_coming : (flow : Bool) (level : ℕ) (text : List ℕ) (p : ℕ) → p < length text
    → plain_at flow level text p ≡ coming flow level text (byte text p ∷ []) (p + 1)
plain_coming flow level text p inside =
    plain_whole flow level text p inside ∙ plain_first (byte text p ∷ []) (p + 1) (words_on flow level text (p + 1))

-- ---- white before a character, of the end, and of what is wrong

some_there : (ps ks : List Piece) (c : List ℕ) → is_nothing (ps ++ Kept c ∷ ks) ≡ false
some_there [] ks c = refl
some_there (p ∷ ps) ks c = refl

white_far : (done v c : List ℕ) (p r : ℕ) (w : Words) (ps : List Piece)
    → value (ps ++ Kept c ∷ w.pieces) ≡ v ++ (c ++ value w.pieces)
    → so_far done p (record { pieces = ps ++ Kept c ∷ w.pieces; end = if is_nothing w.pieces then r else w.end; place = w.place; broke = w.broke })
    ≡ so_far ((done ++ v) ++ c) r w
unfolding so_far
white_far done v c p r w ps same = elim (cases_Bool (is_nothing w.pieces)) [
  | inl n ↦
      let none : w.pieces ≡ [] = nothing_is w.pieces n in
      rw (some_there ps w.pieces c, same, n, none) (rw append-nil (rw append_assoc refl))
  | inr s ↦ rw (some_there ps w.pieces c, same, s) (rw append_assoc (rw append_assoc refl))
]

white_from : (level : ℕ) (text : List ℕ) (p q : ℕ) (ps : List Piece) → White level text p q ps
    → (done v c : List ℕ) (r : ℕ)
    → ((ks : List Piece) → value (ps ++ Kept c ∷ ks) ≡ v ++ (c ++ value ks)) → (x : Result Words Wrong)
    → plain_with (so_far done p) (words_with (with_white ps) (words_from (Kept c) r x))
    ≡ plain_with (so_far ((done ++ v) ++ c) r) x
white_from level text p q ps white done v c r same (Err e) = refl
white_from level text p q ps white done v c r same (Ok w) =
    let some = white_some level text p q ps white (with_piece (Kept c) r w) refl in
    ap (λ (t : PlainText). Ok t) (ap (so_far done p) some ∙ white_far done v c p r w ps (same w.pieces))

-- white before a character that is taken
pub coming_white : (flow : Bool) (level : ℕ) (text : List ℕ) (p q r : ℕ) (ps : List Piece)
    → White level text p q ps
    → (done v c : List ℕ)
    → ((ks : List Piece) → value (ps ++ Kept c ∷ ks) ≡ v ++ (c ++ value ks))
    → spot_at flow level text q ≡ Takes (Kept c) r
    → coming flow level text done p ≡ coming flow level text ((done ++ v) ++ c) r
coming_white flow level text p q r ps white done v c same h =
    let over = white_words flow level text p q ps white in
    let here = rw h at (words_here flow level text q) in
    ap (λ x. plain_with (so_far done p) x) (over ∙ ap (words_with (with_white ps)) here)
    ∙ white_from level text p q ps white done v c r same (words_on flow level text r)

-- white before the scalar's end
pub coming_end : (flow : Bool) (level : ℕ) (text : List ℕ) (p q : ℕ) (ps : List Piece)
    → White level text p q ps
    → (done : List ℕ) → spot_at flow level text q ≡ Ends
    → coming flow level text done p ≡ Ok (record { value = done; end = p; place = q; broke = has_break ps })
unfolding so_far
coming_end flow level text p q ps white done h =
    let over = white_words flow level text p q ps white in
    let here = rw h at (words_here flow level text q) in
    let nothing = white_nothing level text p q ps white q q in
    ap (λ x. plain_with (so_far done p) x) (over ∙ ap (words_with (with_white ps)) here) ∙ rw nothing refl

-- white before what is wrong
pub coming_wrong : (flow : Bool) (level : ℕ) (text : List ℕ) (p q : ℕ) (ps : List Piece)
    (e : Wrong) → White level text p q ps
    → (done : List ℕ) → spot_at flow level text q ≡ Faulty e → coming flow level text done p ≡ Err e
coming_wrong flow level text p q ps e white done h =
    let over = white_words flow level text p q ps white in
    let here = rw h at (words_here flow level text q) in
    ap (λ x. plain_with (so_far done p) x) (over ∙ ap (words_with (with_white ps)) here)

-- ---- what is in a line

pub ends_none : (flow : Bool) (level : ℕ) (text : List ℕ) (p : ℕ) → (byte text p == 0) ≡ false
    → is_document_indicator text p ≡ false → (byte text p == 35 && after_white text p) ≡ false
    → is_colon text p ≡ false → (flow && is_bracket (byte text p)) ≡ false → leads text p ≡ false
    → ends_at flow level text p ≡ false
unfolding ends_at
ends_none true level text p z m h c b l = rw (z, m, h, c, b) refl
ends_none false level text p z m h c b l = rw (z, m, h, c, l) refl

-- a character that is taken, in a line or after blanks
pub spot_char : (flow : Bool) (level : ℕ) (text : List ℕ) (p : ℕ) → InRow text p
    → (byte text p == 0) ≡ false
    → break_width text p ≡ 0 → is_blank (byte text p) ≡ false
    → (byte text p == 35 && after_white text p) ≡ false → is_colon text p ≡ false
    → is_bad_colon flow text p ≡ false → (flow && is_bracket (byte text p)) ≡ false
    → spot_at flow level text p ≡ Takes (Kept (byte text p ∷ [])) (p + 1)
spot_char flow level text p row z none blank h c bad b =
    spot_kept flow level text p none blank (ends_none flow level text p z (no_mark text p row.column) h c b row.calm) bad

-- what a stretch of a line leaves: the place after it, and these bytes of the scalar done
pub record Goes (flow : Bool) (text done : List ℕ) (p : ℕ) (more : List ℕ) (q : ℕ) : Type 0 where
  pub seat : InLine text q
  pub goes : (level : ℕ) → coming flow level text done p ≡ coming flow level text (done ++ more) q

-- ---- blanks in a line

-- blanks that are in a line: what they are, and the place after them
pub record AreBlanks (text : List ℕ) (p q : ℕ) : Type 0 where
  pub after : p ≤ q
  pub row : InRow text q
  pub white : (level : ℕ) → White level text p q (blanks_of (bytes_at text p (q - p)))
  pub behind : p < q → after_white text q ≡ true
  pub each : (k : ℕ) → p ≤ k → k < q → is_blank (byte text k) ≡ true

blanks_each : (text : List ℕ) (p q : ℕ) → AreBlanks text p q → (k : ℕ) → p ≤ k → k < q
    → is_blank (byte text k) ≡ true
blanks_each text p q bs k a b = bs.each k a b

no_tab : (b : Bool) (c : Bool) (l : Bool) → l ≡ false → (b && (l && c)) ≡ false
no_tab b c l h = grind arith

blanks_none : (text : List ℕ) (p : ℕ) → InRow text p → AreBlanks text p p
blanks_none text p row =
    let z : p - p ≡ 0 = omega arith in
    record { after = omega arith; row = row; white = λ level. rw (z, bytes_none text p) (no_white p); behind = λ l. absurd (omega arith); each = λ k a b. absurd (omega arith) }

blanks_more : (text : List ℕ) (p q : ℕ) → InRow text p → is_blank (byte text p) ≡ true
    → AreBlanks text (p + 1) q → AreBlanks text p q
blanks_more text p q row h more =
    let after = more.after in
    let d : q - p ≡ suc (q - (p + 1)) = omega arith in
    record {
      after = omega arith;
      row = more.row;
      white = λ level. rw (d, bytes_more text p (q - (p + 1))) (white_blank p q (blanks_of (bytes_at text (p + 1) (q - (p + 1)))) h (no_tab _ _ (leads text p) row.calm) (more.white level));
      behind = λ l. elim (cases_lt (p + 1) q) [ inl s ↦ more.behind s | inr s ↦ let e : q ≡ p + 1 = omega arith in rw e (white-blank text p h) ];
      each = λ k a b. elim (cases_lt p k) [ inl s ↦ more.each k (omega arith) b | inr s ↦ let e : k ≡ p = omega arith in rw e h ];
    }

blanks_within : (n : ℕ) (text : List ℕ) (p : ℕ) → InRow text p
    → AreBlanks text p (past is_blank_there n text p)
unfolding past
blanks_within zero text p row = blanks_none text p row
blanks_within (suc n) text p row = elim (cases_Bool (is_blank (byte text p))) [
  | inl b ↦ rw b (blanks_more text p (past is_blank_there n text (p + 1)) row b (blanks_within n text (p + 1) (row_blank text p row b)))
  | inr b ↦ rw b (blanks_none text p row)
]

pub blanks_there : (text : List ℕ) (p : ℕ) → InRow text p → AreBlanks text p (past_blanks text p)
blanks_there text p row = blanks_within (length text) text p row

-- after blanks there is none
past_ends : (n : ℕ) (text : List ℕ) (p : ℕ) → length text ≤ p + n
    → is_blank (byte text (past is_blank_there n text p)) ≡ false
unfolding past
past_ends zero text p room = beyond (byte text p) (get_or_past text p 0 (omega arith))
  where
    beyond : (b : ℕ) → b ≡ 0 → is_blank b ≡ false
    beyond b e = rw e refl
past_ends (suc n) text p room = elim (cases_Bool (is_blank (byte text p))) [
  | inl b ↦ rw b (past_ends n text (p + 1) (omega arith))
  | inr b ↦ rw b b
]

pub blanks_end : (text : List ℕ) (p : ℕ) → is_blank (byte text (past_blanks text p)) ≡ false
blanks_end text p = past_ends (length text) text p (omega arith)

-- white is after blanks, where there are any
pub blanks_behind : (text : List ℕ) (p q : ℕ) → InLine text p → AreBlanks text p q
    → after_white text q ≡ nat_lt p q
blanks_behind text p q line bs = elim (cases_lt p q) [
  | inl l ↦ rw (lt-ltb p q l) (bs.behind l)
  | inr l ↦ let e : q ≡ p = omega (arith, bs.after) in rw e (line.dark ∙ sym (same p))
]
  where
    same : (p : ℕ) → nat_lt p p ≡ false
    same p = grind (arith, nat_tests)

-- ---- a line, as far as it is read

pub record IsPart (flow : Bool) (text : List ℕ) (p q : ℕ) : Type 0 where
  pub after : p < q
  pub part : (done : List ℕ) → Goes flow text (done ++ byte text p ∷ []) (p + 1) (bytes_at text (p + 1) (q - (p + 1))) q
  pub ends : (k : ℕ) → p ≤ k → k < q → ends_break text k ≡ false

pub goes_seat : (flow : Bool) (text : List ℕ) (p q : ℕ) → IsPart flow text p q → InLine text q
goes_seat flow text p q part = (part.part []).seat

part_first : (flow : Bool) (text : List ℕ) (p : ℕ) → IsWord text p → IsPart flow text p (p + 1)
part_first flow text p word =
    let z : p + 1 - (p + 1) ≡ 0 = omega arith in
    record {
      after = omega arith;
      part = λ done. rw (z, bytes_none text (p + 1)) (record { seat = word_line text p word; goes = λ level. rw append-nil refl });
      ends = λ k a b. let e : k ≡ p = omega arith in rw e (end_next text p word.whole word.none);
    }

-- a stretch after another
goes_on : (flow : Bool) (text done : List ℕ) (p : ℕ) (xs : List ℕ) (q : ℕ) (ys : List ℕ) (r : ℕ)
    → Goes flow text done p xs q
    → Goes flow text (done ++ xs) q ys r → Goes flow text done p (xs ++ ys) r
goes_on flow text done p xs q ys r first next = record {
  seat = next.seat;
  goes = λ level. first.goes level ∙ rw (← append_assoc done xs ys) (next.goes level);
}

pub bytes_join : (text : List ℕ) (p d e : ℕ)
    → bytes_at text p (d + e) ≡ bytes_at text p d ++ bytes_at text (p + d) e
bytes_join text p zero e =
    let z : 0 + e ≡ e = omega arith in
    let y : p + 0 ≡ p = omega arith in
    rw (z, y, bytes_none text p) refl
bytes_join text p (suc d) e =
    let z : suc d + e ≡ suc (d + e) = omega arith in
    let y : p + suc d ≡ p + 1 + d = omega arith in
    rw (z, y, bytes_more text p (d + e), bytes_more text p d, bytes_join text (p + 1) d e) refl

part_goes : (flow : Bool) (text : List ℕ) (p q r : ℕ) → IsPart flow text p q → q ≤ r
    → ((done : List ℕ) → Goes flow text done q (bytes_at text q (r - q)) r) → (done : List ℕ)
    → Goes flow text (done ++ byte text p ∷ []) (p + 1) (bytes_at text (p + 1) (r - (p + 1))) r
part_goes flow text p q r part l more done =
    let after = part.after in
    let d : r - (p + 1) ≡ (q - (p + 1)) + (r - q) = omega arith in
    let e : p + 1 + (q - (p + 1)) ≡ q = omega arith in
    let front = done ++ byte text p ∷ [] in
    let both = goes_on flow text front (p + 1) (bytes_at text (p + 1) (q - (p + 1))) q (bytes_at text q (r - q)) r (part.part done) (more (front ++ bytes_at text (p + 1) (q - (p + 1)))) in
    rw (d, bytes_join text (p + 1) (q - (p + 1)) (r - q), e) both

-- what doesn't stop there
record IsGoing (flow : Bool) (text : List ℕ) (p q : ℕ) : Type 0 where
  some : (byte text q == 0) ≡ false
  none : break_width text q ≡ 0
  hash : (byte text q == 35 && nat_lt p q) ≡ false
  colon : is_bad_colon flow text q ≡ false
  part : (flow && is_bracket (byte text q)) ≡ false

going : (flow : Bool) (text : List ℕ) (p q : ℕ) → stops flow (nat_lt p q) text q ≡ false
    → IsGoing flow text p q
going flow text p q h =
    let (z, w, k, c, f) = parts (byte text q == 0) (break_width text q) (byte text q == 35 && nat_lt p q) (is_bad_colon flow text q) (flow && is_bracket (byte text q)) h in
    record { some = z; none = w; hash = k; colon = c; part = f }
  where
    parts : (z : Bool) (w : ℕ) (k c f : Bool) → ((z || nat_lt 0 w) || (k || (c || f))) ≡ false
        → (z ≡ false) × (w ≡ 0) × (k ≡ false) × (c ≡ false) × (f ≡ false)
    parts z w k c f h = (grind arith, grind (arith, nat_tests), grind arith, grind arith, grind arith)

-- a character after blanks that is taken
char_goes : (flow : Bool) (text done : List ℕ) (p q : ℕ) → InLine text p → q ≡ past_blanks text p
    → is_colon text q ≡ false → stops flow (nat_lt p q) text q ≡ false
    → Goes flow text done p (bytes_at text p (q + 1 - p)) (q + 1)
char_goes flow text done p q line at c s =
    let bs : AreBlanks text p q = rw at (blanks_there text p (row_of text p line)) in
    let blank : is_blank (byte text q) ≡ false = rw at (blanks_end text p) in
    let g = going flow text p q s in
    let some : 0 < byte text q = not_zero (byte text q) g.some in
    let after = bs.after in
    let hash : (byte text q == 35 && after_white text q) ≡ false = rw (blanks_behind text p q line bs) g.hash in
    let d : q + 1 - p ≡ (q - p) + 1 = omega arith in
    let e : p + (q - p) ≡ q = omega arith in
    let spot = λ (level : ℕ). spot_char flow level text q bs.row g.some g.none blank hash c g.colon g.part in
    let all : bytes_at text p (q + 1 - p) ≡ bytes_at text p (q - p) ++ byte text q ∷ [] = rw (d, bytes_join text p (q - p) 1, e, bytes_more text q 0, bytes_none text (q + 1)) refl in
    record {
      seat = row_char text q bs.row some blank g.none;
      goes = λ level. coming_white flow level text p q (q + 1) (blanks_of (bytes_at text p (q - p))) (bs.white level) done (bytes_at text p (q - p)) (byte text q ∷ []) (λ ks. value-kept (bytes_at text p (q - p)) (byte text q ∷ []) ks) (spot level)
          ∙ rw (all, append_assoc) refl;
    }
  where
    not_zero : (b : ℕ) → (b == 0) ≡ false → 0 < b
    not_zero b h = grind (arith, nat_tests)

-- blanks, and a character after them that is taken
part_char : (flow : Bool) (text : List ℕ) (p q r : ℕ) → IsPart flow text p q
    → r ≡ past_blanks text q → is_colon text r ≡ false → stops flow (nat_lt q r) text r ≡ false → IsPart flow text p (r + 1)
part_char flow text p q r part at c s =
    let line = goes_seat flow text p q part in
    let after = part.after in
    let bs : AreBlanks text q r = rw at (blanks_there text q (row_of text q line)) in
    let l = bs.after in
    record {
      after = omega arith;
      part = part_goes flow text p q (r + 1) part (omega arith) (λ done. char_goes flow text done q r line at c s);
      ends = λ k a b. elim (cases_lt k q) [
        | inl f ↦ part.ends k a f
        | inr f ↦ elim (cases_lt k r) [
          | inl g ↦ blank_ends_none text k (blanks_each text q r bs k f g)
          | inr g ↦ let e : k ≡ r = omega arith in rw e (end_next text r bs.row.whole (going flow text q r s).none)
        ]
      ];
    }

-- ---- a line, as far as it is looked through

-- a part of it, and blanks after that
pub record IsSeen (flow : Bool) (text : List ℕ) (p q : ℕ) : Type 0 where
  pub end : ℕ
  pub part : IsPart flow text p end
  pub order : end ≤ q
  pub inside : q ≤ length text
  pub blanks : (k : ℕ) → end ≤ k → k < q → is_blank (byte text k) ≡ true

pub seen_first : (flow : Bool) (text : List ℕ) (p : ℕ) → IsWord text p → IsSeen flow text p (p + 1)
seen_first flow text p word = record {
  end = p + 1;
  part = part_first flow text p word;
  order = omega arith;
  inside = omega (arith, word.inside);
  blanks = λ k a b. absurd (omega arith);
}

pub front_false : (a b : Bool) → (a || b) ≡ false → a ≡ false
front_false a b h = grind arith

last_false : (a b : Bool) → (a || b) ≡ false → b ≡ false
last_false a b h = grind arith

-- before the place there is a blank, where blanks follow the part
pub behind_part : (flow : Bool) (text : List ℕ) (p q : ℕ) (s : IsSeen flow text p q)
    → is_blank (byte text (q - 1)) ≡ nat_lt s.end q
behind_part flow text p q s = elim (cases_lt s.end q) [
  | inl l ↦ rw (lt-ltb s.end q l) (s.blanks (q - 1) (omega arith) (omega arith))
  | inr l ↦
      let e : q ≡ s.end = omega (arith, s.order) in
      rw e (front_false (is_blank (byte text (s.end - 1))) _ (goes_seat flow text p s.end s.part).dark ∙ sym (same s.end))
]
  where
    same : (p : ℕ) → nat_lt p p ≡ false
    same p = grind (arith, nat_tests)

pub blanks_done : (flow : Bool) (text : List ℕ) (p q : ℕ) (s : IsSeen flow text p q)
    → is_blank (byte text q) ≡ false → q ≡ past_blanks text s.end
blanks_done flow text p q s stop =
    run_is is_blank_there text s.end q s.order (λ k a b. (s.blanks k a b, (blank_parts (byte text k) 0 0 (s.blanks k a b)).0)) stop

seen_char : (flow : Bool) (text : List ℕ) (p q : ℕ) → IsSeen flow text p q
    → is_blank (byte text q) ≡ false
    → is_colon text q ≡ false → stops flow (is_blank (byte text (q - 1))) text q ≡ false → IsSeen flow text p (q + 1)
seen_char flow text p q s dark c st =
    let part = part_char flow text p s.end q s.part (blanks_done flow text p q s dark) c (rw (behind_part flow text p q s) at st) in
    record {
      end = q + 1;
      part = part;
      order = omega arith;
      inside = (goes_seat flow text p (q + 1) part).inside;
      blanks = λ k a b. absurd (omega arith);
    }

seen_blank : (flow : Bool) (text : List ℕ) (p q : ℕ) → IsSeen flow text p q
    → is_blank (byte text q) ≡ true → IsSeen flow text p (q + 1)
seen_blank flow text p q s h = record {
  end = s.end;
  part = s.part;
  order = omega (arith, s.order);
  inside = omega (arith, within text q (blank_parts (byte text q) 0 0 h).0);
  blanks = λ k a b. elim (cases_lt k q) [ inl l ↦ s.blanks k a l | inr l ↦ let e : k ≡ q = omega arith in rw e h ];
}

-- what doesn't stop there is passed
pub seen_more : (flow : Bool) (text : List ℕ) (p q : ℕ) → IsSeen flow text p q
    → is_colon text q ≡ false
    → stops flow (is_blank (byte text (q - 1))) text q ≡ false → IsSeen flow text p (q + 1)
seen_more flow text p q s c st = elim (cases_Bool (is_blank (byte text q))) [
  | inl b ↦ seen_blank flow text p q s b
  | inr b ↦ seen_char flow text p q s b c st
]

-- a byte that no line ends at
record IsTextByte (flow : Bool) (b : ℕ) : Type 0 where
  low : 31 < b
  next : b ≢ 0xC2
  separator : b ≢ 0xE2
  no_hash : (b == 35) ≡ false
  no_colon : (b == 58) ≡ false
  no_part : (flow && is_bracket b) ≡ false

text_byte : (flow : Bool) (b : ℕ) → may_stop flow b ≡ false → IsTextByte flow b
unfolding is_bracket
text_byte true b h = record { low = grind (arith, nat_tests); next = grind (arith, nat_tests); separator = grind (arith, nat_tests); no_hash = grind (arith, nat_tests); no_colon = grind (arith, nat_tests); no_part = grind (arith, nat_tests) }
text_byte false b h = record { low = grind (arith, nat_tests); next = grind (arith, nat_tests); separator = grind (arith, nat_tests); no_hash = grind (arith, nat_tests); no_colon = grind (arith, nat_tests); no_part = refl }

text_goes : (flow : Bool) (text : List ℕ) (p q : ℕ) → IsSeen flow text p q
    → may_stop flow (byte text q) ≡ false → IsSeen flow text p (q + 1)
text_goes flow text p q s h =
    let t = text_byte flow (byte text q) h in
    let low = t.low in
    let none : break_width text q ≡ 0 = no_break _ _ _ (omega arith) (omega arith) t.next t.separator in
    seen_more flow text p q s (colon (byte text q) _ t.no_colon) (stop flow (byte text q) (break_width text q) (is_blank (byte text (q - 1))) _ (is_bracket (byte text q)) low none t.no_hash t.no_colon t.no_part)
  where
    colon : (b : ℕ) (next : Bool) → (b == 58) ≡ false → (b == 58 && next) ≡ false
    colon b next h = grind arith

    stop : (flow : Bool) (b w : ℕ) (blank next part : Bool) → 31 < b → w ≡ 0 → (b == 35) ≡ false → (b == 58) ≡ false → (flow && part) ≡ false
        → ((b == 0 || nat_lt 0 w) || ((b == 35 && blank) || ((flow && (b == 58 && next)) || (flow && part)))) ≡ false
    stop flow b w blank next part low none hash c f = rw (f, hash, c) (grind (arith, nat_tests))

seen_over : (d : ℕ) (flow : Bool) (text : List ℕ) (p q : ℕ) → IsSeen flow text p q
    → ((k : ℕ) → q ≤ k → k < q + d → may_stop flow (byte text k) ≡ false) → IsSeen flow text p (q + d)
seen_over zero flow text p q s each = let z : q + 0 ≡ q = omega arith in rw z s
seen_over (suc d) flow text p q s each =
    let e : q + suc d ≡ q + 1 + d = omega arith in
    rw e (seen_over d flow text p (q + 1) (text_goes flow text p q s (each q (omega arith) (omega arith))) (λ k a b. each k (omega arith) (omega arith)))

-- a run that no byte stops
pub seen_run : (flow : Bool) (text : List ℕ) (p q r : ℕ) → IsSeen flow text p q
    → RunsTo (may_stop flow) text q (length text) r → IsSeen flow text p r
seen_run flow text p q r s run =
    let order = run.ordered in
    let e : q + (r - q) ≡ r = omega arith in
    rw e at (seen_over (r - q) flow text p q s (λ k a b. run.passed k a (rw e at b)))

-- characters begin at each byte, unless some are beyond ASCII
abbrev pub Starts : Bool → List ℕ → ℕ → ℕ → Type 0
Starts wide text p q = wide ≡ false → (k : ℕ) → p ≤ k → k < q → starts (byte text k) ≡ true

low_starts : (b : ℕ) → b < 128 → starts b ≡ true
low_starts b h = grind (arith, nat_tests)

pub starts_first : (text : List ℕ) (p : ℕ) → IsWord text p → Starts false text p (p + 1)
starts_first text p word h k a b = let e : k ≡ p = omega arith in rw e word.starts

pub starts_run : (text : List ℕ) (p q r : ℕ) (wide more : Bool) → Starts wide text p q
    → (more ≡ false → IsNarrow text q r) → Starts (wide || more) text p r
starts_run text p q r wide more before narrow h k a b = elim (cases_lt k q) [
  | inl l ↦ before (front_false wide more h) k a l
  | inr l ↦ low_starts (byte text k) (narrow (last_false wide more h) k l b)
]

pub starts_byte : (text : List ℕ) (p q : ℕ) (wide : Bool) → Starts wide text p q
    → Starts (wide || nat_le 128 (byte text q)) text p (q + 1)
starts_byte text p q wide before = starts_run text p q (q + 1) wide (nat_le 128 (byte text q)) before (λ h k a b. let e : k ≡ q = omega arith in rw e (low (byte text q) h))
  where
    low : (b : ℕ) → nat_le 128 b ≡ false → b < 128
    low b h = grind (arith, nat_tests)
