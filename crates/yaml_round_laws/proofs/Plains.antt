-- The white after a plain scalar, with tabs, where no level is open, and the end that it comes before.
use Rattle.std.proofs.Common.{◌≡◌, ◌≢◌, ℕ, zero, suc, ◌+◌, ◌<◌, ◌≤◌, ◌==◌, ◌&&◌, Bool, true, false, List, [], ◌∷◌, length, Result, Ok, refl, sym, ap, subst, ◌∙◌, inl, inr, arith, ne_eqb, ◌||◌, ◌++◌, Some, None, ◌⊎◌, add-zero}
use Rattle.yaml_round_laws.proofs.JsonWords.{and_parts, or_cases, or_left, or_right, nat_tests, byte, break_of, break_width, column_at, is_blank, ends_of, ends_break, starts, is_blank_or_end, Wrong, Has, Takes, spot_at, ends_at, Words, words_from, follows, words, is_bracket, is_indicator_byte, starts_plain, after_white, with_piece, PlainText, plain_with, plain_text, plain_at, is_white, are_white, has_break, is_letter_or_digit, is_value_byte, first, begins_value, is_plain_value, list_all, and-false, begins_lexeme, is_document_start, is_document_end, indicator_of, kind_at}
use Rattle.yaml_scan_history.specs.scan_model.Breaks.{is_document_indicator}
use Rattle.yaml_scan_history.specs.Pieces.{Kept, Piece, Lines, lines, split_one, text as line_text, folded}
use Rattle.yaml_scan_history.proofs.PlainLemmas.{leads-text, spot_kept}
use Rattle.yaml_round_laws.proofs.Whites.{byte_cases}
use Rattle.yaml_scan_history.proofs.MarksLemmas.{no_break_between, column_more, within}
use Rattle.yaml_scan_history.specs.declared.kind.Kind.TheVariants as kinds
use Rattle.yaml_emit_laws.proofs.Standing.{none_to, Stops, IsWhite, AreWhite, white_words}

-- at a level of 0 tabs are white, too
all_white : (ws : List ℕ) → are_white ws ≡ true → AreWhite 0 ws
all_white [] h = tt
all_white (b ∷ bs) h =
    let (front, back) = and_parts (is_white b) (are_white bs) h in
    (one b (byte_cases b front), all_white bs back)
  where
    one : (b : ℕ) → (b ≡ 32) ⊎ ((b ≡ 9) ⊎ ((b ≡ 10) ⊎ (b ≡ 13))) → IsWhite 0 b
    one b (inl s) = inl s
    one b (inr (inl s)) = inr (inl (s, refl))
    one b (inr (inr s)) = inr (inr s)

-- ==== What the bytes of plain values are not.

-- it is between `+` and `z`
record Among (b : ℕ) : Type 0 where
  pub low : 42 < b
  pub high : b < 123
  pub comma : b ≢ 44
  pub colon : b ≢ 58
  pub bracket : is_bracket b ≡ false

among : (b : ℕ) → is_value_byte b ≡ true → Among b
unfolding is_value_byte is_letter_or_digit is_bracket
among b h = record {
  low = grind (arith, nat_tests);
  high = grind (arith, nat_tests);
  comma = grind (arith, nat_tests);
  colon = grind (arith, nat_tests);
  bracket = grind (arith, nat_tests);
}

-- a byte of such a value
pub record IsCalm (text : List ℕ) (p : ℕ) : Type 0 where
  pub some : 0 < byte text p
  pub blank : is_blank (byte text p) ≡ false
  pub width : break_width text p ≡ 0
  pub ends : ends_break text p ≡ false
  pub starts : starts (byte text p) ≡ true
  pub hash : byte text p ≢ 35
  pub colon : byte text p ≢ 58
  pub bracket : is_bracket (byte text p) ≡ false

pub calm : (text : List ℕ) (p : ℕ) → is_value_byte (byte text p) ≡ true → IsCalm text p
unfolding ends_of
calm text p h =
    let a = among (byte text p) h in
    let low = a.low in
    let high = a.high in
    record {
      some = omega (arith, low);
      blank = grind (arith, nat_tests);
      width = no_break_between (byte text p) 43 122 (byte text (p + 1)) (byte text (p + 2)) (omega (arith, low)) (omega (arith, high)) (omega arith) (omega arith);
      ends = grind (arith, nat_tests);
      starts = grind (arith, nat_tests);
      hash = omega (arith, low);
      colon = a.colon;
      bracket = a.bracket;
    }

no_column : (n : ℕ) → (n + 1 == 0) ≡ false
no_column n = grind (arith, nat_tests)

-- no `---` and no `...` is after such a byte
no_indicator : (text : List ℕ) (p : ℕ) → IsCalm text p → is_document_indicator text (p + 1) ≡ false
unfolding is_document_indicator
no_indicator text p c = let e = column_more text p c.ends c.starts in rw (e, no_column (column_at text p)) refl

-- nothing ends before such a byte after another one
not_ended : (flow : Bool) (level : ℕ) (text : List ℕ) (p : ℕ) → IsCalm text p → IsCalm text (p + 1)
    → ends_at flow level text (p + 1) ≡ false
unfolding ends_at
not_ended true level text p c d =
    let some = d.some in
    rw (no_indicator text p c, ne_eqb (byte text (p + 1)) 0 (omega (arith, some)), ne_eqb (byte text (p + 1)) 35 d.hash, ne_eqb (byte text (p + 1)) 58 d.colon, d.bracket) refl
not_ended false level text p c d =
    let some = d.some in
    rw (no_indicator text p c, ne_eqb (byte text (p + 1)) 0 (omega (arith, some)), ne_eqb (byte text (p + 1)) 35 d.hash, ne_eqb (byte text (p + 1)) 58 d.colon, leads-text text p c.blank c.ends) refl

-- it is kept
pub kept_next : (flow : Bool) (level : ℕ) (text : List ℕ) (p : ℕ) → IsCalm text p
    → IsCalm text (p + 1)
    → spot_at flow level text (p + 1) ≡ Takes (Kept (byte text (p + 1) ∷ [])) (p + 1 + 1)
kept_next flow level text p c d = spot_kept flow level text (p + 1) d.width d.blank (not_ended flow level text p c d) (grind (arith, nat_tests))

-- ==== Plain values are read as themselves.

-- ---- the value of its bytes

-- each of the bytes as a piece
abbrev kept_run : List ℕ → List Piece
kept_run [] = []
kept_run (b ∷ bs) = Kept (b ∷ []) ∷ kept_run bs

run_lines : (bs : List ℕ) → lines (kept_run bs) ≡ record { first = kept_run bs; others = [] }
run_lines [] = refl
run_lines (b ∷ bs) = ap (λ (ls : Lines). split_one (Kept (b ∷ [])) ls) (run_lines bs)

run_text : (bs : List ℕ) → line_text (kept_run bs) ≡ bs
run_text [] = refl
run_text (b ∷ bs) = ap (λ (xs : List ℕ). b ∷ xs) (run_text bs)

-- ---- the words after its first byte

abbrev run_words : List ℕ → ℕ → Words → Words
run_words [] p w = w
run_words (b ∷ bs) p w = with_piece (Kept (b ∷ [])) (p + 1) (run_words bs (p + 1) w)

run_is : (b : ℕ) (bs : List ℕ) (p q : ℕ) (broke : Bool)
    → with_piece (Kept (b ∷ [])) p (run_words bs p (none_to q broke))
    ≡ record { pieces = kept_run (b ∷ bs); end = p + length bs; place = q; broke = broke }
run_is b [] p q broke = rw add-zero refl
run_is b (c ∷ bs) p q broke =
    let far : p + 1 + length bs ≡ p + suc (length bs) = omega arith in
    ap (λ (w : Words). with_piece (Kept (b ∷ [])) p w) (run_is c bs (p + 1) q broke) ∙ ap (λ (e : ℕ). let w : Words = record { pieces = kept_run (b ∷ c ∷ bs); end = e; place = q; broke = broke } in w) far

byte_here : (text : List ℕ) (p x : ℕ) → byte text p ≡ x → is_value_byte x ≡ true
    → is_value_byte (byte text p) ≡ true
byte_here text p x e h = ap (λ y. is_value_byte y) e ∙ h

words_read : (n : ℕ) (flow : Bool) (text : List ℕ) (p : ℕ) (bs gap : List ℕ) → IsCalm text p
    → length bs + length gap < n → Has text (p + 1) (bs ++ gap) → list_all is_value_byte bs ≡ true
    → are_white gap ≡ true
    → Stops flow 0 text (p + 1 + length bs + length gap)
    → words n flow 0 text (p + 1) ≡ Ok
    (run_words bs (p + 1) (none_to (p + 1 + length bs + length gap) (has_break gap)))
unfolding words
words_read n flow text p [] gap c room h all are stop =
    let z : p + 1 + 0 ≡ p + 1 = omega arith in
    rw z (white_words n flow 0 text (p + 1) gap (omega arith) h (all_white gap are) (subst (λ q. Stops flow 0 text (q + length gap)) z stop))
words_read zero flow text p (b ∷ bs) gap c room (e, h) all are stop = absurd (omega arith)
words_read (suc n) flow text p (b ∷ bs) gap c room (e, h) all are stop =
    let (here, rest) = and_parts (is_value_byte b) (list_all is_value_byte bs) all in
    let d = calm text (p + 1) (byte_here text (p + 1) b e here) in
    let far : p + 1 + suc (length bs) ≡ p + 1 + 1 + length bs = omega arith in
    let more = words_read n flow text (p + 1) bs gap d (omega arith) h rest are (subst (λ q. Stops flow 0 text (q + length gap)) far stop) in
    rw far
    (ap (λ s. follows (words n flow 0 text) (p + 1) s) (kept_next flow 0 text p c d)
    ∙ ap (λ (r : Result Words Wrong). words_from (Kept (byte text (p + 1) ∷ [])) (p + 1 + 1) r) more
    ∙ ap (λ (x : ℕ). let r : Result Words Wrong = Ok (with_piece (Kept (x ∷ [])) (p + 1 + 1) (run_words bs (p + 1 + 1) (none_to (p + 1 + 1 + length bs + length gap) (has_break gap)))) in r) e)

-- ---- as much as the text has

some_gap : (b : ℕ) → (is_white b) ≡ true → 0 < b
some_gap b h = grind (arith, nat_tests)

gap_inside : (text : List ℕ) (p : ℕ) (gap : List ℕ) → p ≤ length text → Has text p gap
    → are_white gap ≡ true → p + length gap ≤ length text
gap_inside text p [] l h are = omega arith
gap_inside text p (b ∷ bs) l (e, h) are =
    let (front, back) = and_parts (is_white b) (are_white bs) are in
    let some = some_gap b front in
    let here = within text p (omega (arith, e, some)) in
    let more = gap_inside text (p + 1) bs (omega (arith, here)) h back in
    omega (arith, more)

inside : (text : List ℕ) (p : ℕ) (bs gap : List ℕ) → p ≤ length text → Has text p (bs ++ gap)
    → list_all is_value_byte bs ≡ true → are_white gap ≡ true
    → p + length bs + length gap ≤ length text
inside text p [] gap l h all are = let m = gap_inside text p gap l h are in omega (arith, m)
inside text p (b ∷ bs) gap l (e, h) all are =
    let (here, rest) = and_parts (is_value_byte b) (list_all is_value_byte bs) all in
    let c = calm text p (byte_here text p b e here) in
    let some = c.some in
    let one = within text p some in
    let more = inside text (p + 1) bs gap (omega (arith, one)) h rest are in
    omega (arith, more)

-- ---- it is read

read_by : (flow : Bool) (text : List ℕ) (p : ℕ) (value gap : List ℕ) → begins_value value ≡ true
    → list_all is_value_byte value ≡ true → Has text p (value ++ gap) → are_white gap ≡ true
    → Stops flow 0 text (p + length value + length gap)
    → plain_at flow 0 text p ≡ Ok (record {
      value = value;
      end = p + length value;
      place = p + length value + length gap;
      broke = has_break gap;
    })
read_by flow text p [] gap begins all h are stop = absurd (cc)
read_by flow text p (b ∷ bs) gap begins all (e, h) are stop =
    let (here, rest) = and_parts (is_value_byte b) (list_all is_value_byte bs) all in
    let c = calm text p (byte_here text p b e here) in
    let some = c.some in
    let one = within text p some in
    let far : p + suc (length bs) ≡ p + 1 + length bs = omega arith in
    let room = inside text (p + 1) bs gap (omega (arith, one)) h rest are in
    let q = p + 1 + length bs + length gap in
    let more = words_read (length text) flow text p bs gap c (omega (arith, room)) h rest are (subst (λ r. Stops flow 0 text (r + length gap)) far stop) in
    rw far
    (ap (λ (r : Result Words Wrong). plain_with plain_text (words_from (Kept (byte text p ∷ [])) (p + 1) r)) more
    ∙ ap (λ (x : ℕ). let r : Result PlainText Wrong = Ok (plain_text (with_piece (Kept (x ∷ [])) (p + 1) (run_words bs (p + 1) (none_to q (has_break gap))))) in r) e
    ∙ ap (λ (w : Words). let r : Result PlainText Wrong = Ok (plain_text w) in r) (run_is b bs (p + 1) q (has_break gap))
    ∙ ap (λ (v : List ℕ). let r : Result PlainText Wrong = Ok (record { value = v; end = p + 1 + length bs; place = q; broke = has_break gap }) in r) (ap (λ (ls : Lines). folded ls.first ls.others) (run_lines (b ∷ bs)) ∙ run_text (b ∷ bs)))

pub plain_read : (flow : Bool) (text : List ℕ) (p : ℕ) (value gap : List ℕ)
    → is_plain_value value ≡ true → Has text p (value ++ gap) → are_white gap ≡ true
    → Stops flow 0 text (p + length value + length gap)
    → plain_at flow 0 text p ≡ Ok (record {
      value = value;
      end = p + length value;
      place = p + length value + length gap;
      broke = has_break gap;
    })
unfolding is_plain_value
plain_read flow text p value gap is h are ends =
    let (begins, all) = and_parts (begins_value value) (list_all is_value_byte value) is in
    read_by flow text p value gap begins all h are ends

-- ---- where it ends

-- the end of the text, and in brackets a comma or a closing one
abbrev pub IsStop : Bool → ℕ → Type 0
IsStop flow b = (b ≡ 0) ⊎ ((flow ≡ true) × ((b ≡ 44) ⊎ ((b ≡ 93) ⊎ (b ≡ 125))))

calm_width : (b c d : ℕ) → (b ≡ 0) ⊎ ((b ≡ 44) ⊎ ((b ≡ 93) ⊎ (b ≡ 125))) → break_of b c d ≡ 0
unfolding break_of
calm_width b c d (inl e) = rw e refl
calm_width b c d (inr (inl e)) = rw e refl
calm_width b c d (inr (inr (inl e))) = rw e refl
calm_width b c d (inr (inr (inr e))) = rw e refl

calm_blank : (b : ℕ) → (b ≡ 0) ⊎ ((b ≡ 44) ⊎ ((b ≡ 93) ⊎ (b ≡ 125))) → is_blank b ≡ false
calm_blank b (inl e) = rw e refl
calm_blank b (inr (inl e)) = rw e refl
calm_blank b (inr (inr (inl e))) = rw e refl
calm_blank b (inr (inr (inr e))) = rw e refl

ends_zero : (flow : Bool) (text : List ℕ) (p : ℕ) → byte text p ≡ 0 → ends_at flow 0 text p ≡ true
unfolding ends_at
ends_zero flow text p h = or_left (byte text p == 0 || is_document_indicator text p) _ (or_left (byte text p == 0) (is_document_indicator text p) (ap (λ (b : ℕ). b == 0) h))

ends_bracket : (flow : Bool) (text : List ℕ) (p : ℕ) → flow ≡ true → is_bracket (byte text p) ≡ true
    → ends_at flow 0 text p ≡ true
unfolding ends_at
ends_bracket false text p e h = absurd (cc)
ends_bracket true text p e h = or_right (byte text p == 0 || is_document_indicator text p) _ (or_right (byte text p == 35 && after_white text p) _ (or_right (byte text p == 58 && is_blank_or_end text (p + 1)) (is_bracket (byte text p)) h))

bracket_of : (b : ℕ) → (b ≡ 44) ⊎ ((b ≡ 93) ⊎ (b ≡ 125)) → is_bracket b ≡ true
unfolding is_bracket
bracket_of b (inl e) = rw e refl
bracket_of b (inr (inl e)) = rw e refl
bracket_of b (inr (inr e)) = rw e refl

pub stops_at : (flow : Bool) (text : List ℕ) (p : ℕ) → IsStop flow (byte text p)
    → Stops flow 0 text p
stops_at flow text p (inl e) = record {
  blank = calm_blank (byte text p) (inl e);
  width = calm_width (byte text p) (byte text (p + 1)) (byte text (p + 2)) (inl e);
  ends = ends_zero flow text p e;
}
stops_at flow text p (inr (f, e)) = record {
  blank = calm_blank (byte text p) (inr e);
  width = calm_width (byte text p) (byte text (p + 1)) (byte text (p + 2)) (inr e);
  ends = ends_bracket flow text p f (bracket_of (byte text p) e);
}

-- ---- where it begins

-- a letter or a digit
record Letter (b : ℕ) : Type 0 where
  pub blank : is_blank b ≡ false
  pub some : (b == 0) ≡ false
  pub width : (c d : ℕ) → break_of b c d ≡ 0
  pub low : b < 123
  pub dash : (b == 45) ≡ false
  pub dot : (b == 46) ≡ false
  pub space : (b == 32) ≡ false
  pub tab : (b == 9) ≡ false
  pub hash : (b == 35) ≡ false
  pub percent : (b == 37) ≡ false
  pub order : (b == 0xEF) ≡ false
  pub plain : is_indicator_byte b ≡ false
  pub none : (flow alone : Bool) → indicator_of flow alone b ≡ None

letter : (b : ℕ) → is_letter_or_digit b ≡ true → Letter b
unfolding is_letter_or_digit break_of is_indicator_byte is_bracket indicator_of
letter b h = record {
  blank = grind (arith, nat_tests);
  some = grind (arith, nat_tests);
  width = λ c d. grind (arith, nat_tests);
  low = grind (arith, nat_tests);
  dash = grind (arith, nat_tests);
  dot = grind (arith, nat_tests);
  space = grind (arith, nat_tests);
  tab = grind (arith, nat_tests);
  hash = grind (arith, nat_tests);
  percent = grind (arith, nat_tests);
  order = grind (arith, nat_tests);
  plain = grind (arith, nat_tests);
  none = λ flow alone. grind (arith, nat_tests);
}

letter_alone : (text : List ℕ) (p : ℕ) → Letter (byte text p) → is_blank_or_end text p ≡ false
letter_alone text p l = rw (l.blank, l.some, l.width (byte text (p + 1)) (byte text (p + 2))) refl

letter_begins : (text : List ℕ) (p : ℕ) → Letter (byte text p) → begins_lexeme text p ≡ true
letter_begins text p l = rw (l.space, l.tab, l.hash, l.width (byte text (p + 1)) (byte text (p + 2)), l.order, and-false) refl

letter_kind : (flow : Bool) (text : List ℕ) (p : ℕ) → Letter (byte text p)
    → kind_at flow text p ≡ Some kinds.Plain
unfolding kind_at is_document_start is_document_end starts_plain
letter_kind flow text p l =
    rw (letter_alone text p l, l.some, l.percent, l.dash, l.dot, and-false, l.none flow (is_blank_or_end text (p + 1)), l.plain) refl

dash_begins : (text : List ℕ) (p : ℕ) → byte text p ≡ 45 → begins_lexeme text p ≡ true
unfolding break_of
dash_begins text p h = rw (h, and-false) refl

dash_none : (flow : Bool) → indicator_of flow false 45 ≡ None
unfolding indicator_of
dash_none flow = refl

dash_kind : (flow : Bool) (text : List ℕ) (p : ℕ) → byte text p ≡ 45 → Letter (byte text (p + 1))
    → kind_at flow text p ≡ Some kinds.Plain
unfolding kind_at is_document_start is_document_end starts_plain break_of is_indicator_byte is_bracket
dash_kind flow text p h l = rw (h, l.dash, and-false, letter_alone text (p + 1) l, dash_none flow, l.blank) refl

next_letter : (text : List ℕ) (q : ℕ) (bs : List ℕ) → is_letter_or_digit (first bs) ≡ true
    → Has text q bs → Letter (byte text q)
unfolding is_letter_or_digit
next_letter text q [] h here = absurd cc
next_letter text q (c ∷ cs) h (e, more) = subst (λ x. Letter x) (sym e) (letter c h)

begin_by : (flow : Bool) (text : List ℕ) (p : ℕ) (value : List ℕ) → begins_value value ≡ true
    → Has text p value → (begins_lexeme text p ≡ true) × (kind_at flow text p ≡ Some kinds.Plain)
begin_by flow text p [] h here = absurd (cc)
begin_by flow text p (b ∷ bs) h (e, more) =
    elim (or_cases (is_letter_or_digit b) (b == 45 && is_letter_or_digit (first bs)) h) [
      | inl l ↦
          let here = subst (λ x. Letter x) (sym e) (letter b l) in
          (letter_begins text p here, letter_kind flow text p here)
      | inr d ↦
          let (dash, second) = and_parts (b == 45) (is_letter_or_digit (first bs)) d in
          let here : byte text p ≡ 45 = grind (arith, nat_tests) in
          (dash_begins text p here, dash_kind flow text p here (next_letter text (p + 1) bs second more))
    ]

pub plain_begins : (flow : Bool) (text : List ℕ) (p : ℕ) (value : List ℕ)
    → is_plain_value value ≡ true → Has text p value
    → (begins_lexeme text p ≡ true) × (kind_at flow text p ≡ Some kinds.Plain)
unfolding is_plain_value
plain_begins flow text p value is h =
    let (begins, all) = and_parts (begins_value value) (list_all is_value_byte value) is in
    begin_by flow text p value begins h
