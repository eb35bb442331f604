-- Quoted scalars: bytes that spell themselves, white space and folds.
use Rattle.std.proofs.Common.{◌≡◌, ◌≢◌, ℕ, zero, suc, ◌+◌, ◌*◌, ◌-◌, ◌<◌, ◌≤◌, ◌==◌, ◌&&◌, ◌||◌, ◌⊎◌, nat_lt, Bool, true, false, List, [], ◌∷◌, ◌++◌, length, slice_range, Option, Some, None, option_and_then, option_map, Result, Ok, Err, refl, sym, ap, ◌∙◌, inl, inr, append_assoc, arith}
use Rattle.std.specs.Prelude.{encode_utf8}
use Rattle.std.specs.Char.{IsScalar}
use Rattle.yaml_scan_text.proofs.Words.{nat_tests, true≢false, cases_Bool, cases_lt, ne_eqb, lt-ltb, byte, break_of, break_width, feed_at, column_at, column_more, starts, split_next, end_next, is_blank, is_document_indicator, within, no_break, blank_parts, bytes_at, bytes_more, bytes_none, slice_bytes, past_blanks, is_blank_there, Piece, Kept, Blank, Break, lines, text, value, value-kept, blanks_of, gap, White, no_white, white_blank, white_break, fold_of, Wrong, IsHead, InHead}
use Rattle.yaml_scan_model.proofs.RunsLemmas.{InRun, run_done, run_more, run_start}
use Rattle.yaml_scan_history.specs.Quoted.{Bad, Closing, Pieces, QuotedSpot, coded, escape_at, escaped, followed, hex_digit, hex_len, hex_value, is_scalar, quote_at, simple_escape, standing_at, valued, with_front}
use Rattle.yaml_scan_history.proofs.QuotedLemmas as standings
use Rattle.yaml_scan_history.proofs.QuotedLemmas.{front, pieces_here, pieces_on}
use Rattle.yaml_scan_text.specs.White.{IsTrimmed}
use Rattle.yaml_scan_text.specs.QuotedRead.{ArePlain, Goes, InQuotes, IsNarrow, IsQuote, IsTaken, may_stop, raw_at, raw_piece, to_come}
use Rattle.yaml_scan_text.specs.declared.fold.Head.{Head}
use Rattle.yaml_scan_text.specs.declared.quoted.Quoted.{Quoted}
use Rattle.yaml_scan_text.proofs.LinesLemmas.{blank_starts, column_on, line_on, no_mark}
use Rattle.yaml_scan_text.proofs.WhiteLemmas.{breaks_of, fold_white, rest_after, text_after, white_le}
use Rattle.yaml_scan_text.proofs.JoinLemmas.{feeds_white, kept_rest}

-- ---- bytes that spell themselves

pub raw_none : (text : List ℕ) (p : ℕ) → raw_at text p 0 ≡ []
unfolding raw_at
raw_none text p = refl

raw_more : (text : List ℕ) (p d : ℕ)
    → raw_at text p (suc d) ≡ raw_piece (byte text p) ∷ raw_at text (p + 1) d
unfolding raw_at
raw_more text p d = refl

raw_join : (text : List ℕ) (p d e : ℕ)
    → raw_at text p (d + e) ≡ raw_at text p d ++ raw_at text (p + d) e
raw_join text p zero e =
    let z : 0 + e ≡ e = omega arith in
    let y : p + 0 ≡ p = omega arith in
    rw (z, y, raw_none text p) refl
raw_join text p (suc d) e =
    let z : suc d + e ≡ suc (d + e) = omega arith in
    let y : p + suc d ≡ p + 1 + d = omega arith in
    rw (z, y, raw_more text p (d + e), raw_more text p d, raw_join text (p + 1) d e) refl

raw_last : (text : List ℕ) (p d : ℕ)
    → raw_at text p (d + 1) ≡ raw_at text p d ++ raw_piece (byte text (p + d)) ∷ []
raw_last text p d = raw_join text p d 1 ∙ rw (raw_more text (p + d) 0, raw_none text (p + d + 1)) refl

raw_blanks : (text : List ℕ) (p d : ℕ)
    → ((k : ℕ) → p ≤ k → k < p + d → is_blank (byte text k) ≡ true)
    → raw_at text p d ≡ blanks_of (bytes_at text p d)
raw_blanks text p zero each = rw (raw_none text p, bytes_none text p) refl
raw_blanks text p (suc d) each =
    rw (raw_more text p d, bytes_more text p d, each p (omega arith) (omega arith), raw_blanks text (p + 1) d (λ k a b. each k (omega arith) (omega arith))) refl

blanks_push : (bs : List ℕ) (b : ℕ) (ps : List Piece)
    → blanks_of (bs ++ b ∷ []) ++ ps ≡ blanks_of bs ++ Blank b ∷ ps
blanks_push [] b ps = refl
blanks_push (x ∷ bs) b ps = rw (blanks_push bs b ps) refl

-- before a byte that stays they are themselves
raw_kept_behind : (d : ℕ) (text : List ℕ) (p : ℕ) (bs c : List ℕ) (ps : List Piece)
    → value (blanks_of bs ++ (raw_at text p d ++ Kept c ∷ ps)) ≡ bs ++ (bytes_at text p d ++ (c ++ value ps))
raw_kept_behind zero text p bs c ps = rw (raw_none text p, bytes_none text p) (value-kept bs c ps)
raw_kept_behind (suc d) text p bs c ps = elim (cases_Bool (is_blank (byte text p))) [
  | inl b ↦ rw (raw_more text p d, bytes_more text p d, b) (rw (← blanks_push bs (byte text p) (raw_at text (p + 1) d ++ Kept c ∷ ps)) (raw_kept_behind d text (p + 1) (bs ++ byte text p ∷ []) c ps ∙ append_assoc bs (byte text p ∷ []) (bytes_at text (p + 1) d ++ (c ++ value ps))))
  | inr n ↦ rw (raw_more text p d, bytes_more text p d, n) (value-kept bs (byte text p ∷ []) (raw_at text (p + 1) d ++ Kept c ∷ ps) ∙ ap (λ x. bs ++ (byte text p ∷ x)) (raw_kept_behind d text (p + 1) [] c ps))
]

pub raw_kept : (d : ℕ) (text : List ℕ) (p : ℕ) (c : List ℕ) (ps : List Piece)
    → value (raw_at text p d ++ Kept c ∷ ps) ≡ bytes_at text p d ++ (c ++ value ps)
raw_kept d text p c ps = raw_kept_behind d text p [] c ps

-- as they are where they end with no blank
raw_value_behind : (d : ℕ) (text : List ℕ) (p : ℕ) (bs : List ℕ) (ps : List Piece)
    → (d ≡ 0 → bs ≡ [])
    → (0 < d → is_blank (byte text (p + d - 1)) ≡ false)
    → value (blanks_of bs ++ (raw_at text p d ++ ps)) ≡ bs ++ (bytes_at text p d ++ value ps)
raw_value_behind zero text p bs ps none last = rw (raw_none text p, bytes_none text p, none refl) refl
raw_value_behind (suc d) text p bs ps none last =
    let far : p + suc d - 1 ≡ p + 1 + d - 1 = omega arith in
    let end : 0 < d → is_blank (byte text (p + 1 + d - 1)) ≡ false = λ l. rw far at (last (omega arith)) in
    elim (cases_Bool (is_blank (byte text p))) [
      | inl b ↦
          let some : d ≡ 0 → (bs ++ byte text p ∷ []) ≡ [] = λ z. absurd (blank_last d text p z b last) in
          rw (raw_more text p d, bytes_more text p d, b) (rw (← blanks_push bs (byte text p) (raw_at text (p + 1) d ++ ps)) (raw_value_behind d text (p + 1) (bs ++ byte text p ∷ []) ps some end ∙ append_assoc bs (byte text p ∷ []) (bytes_at text (p + 1) d ++ value ps)))
      | inr n ↦ rw (raw_more text p d, bytes_more text p d, n) (value-kept bs (byte text p ∷ []) (raw_at text (p + 1) d ++ ps) ∙ ap (λ x. bs ++ (byte text p ∷ x)) (raw_value_behind d text (p + 1) [] ps (λ z. refl) end))
    ]
  where
    blank_last : (d : ℕ) (text : List ℕ) (p : ℕ) → d ≡ 0 → is_blank (byte text p) ≡ true → (0 < suc d → is_blank (byte text (p + suc d - 1)) ≡ false) → ⊥
    blank_last d text p z b last =
        let e : p + suc d - 1 ≡ p = omega arith in
        let n : is_blank (byte text p) ≡ false = rw e at (last (omega arith)) in
        absurd (true≢false (sym b ∙ n))

pub raw_value : (d : ℕ) (text : List ℕ) (p : ℕ) (ps : List Piece)
    → (0 < d → is_blank (byte text (p + d - 1)) ≡ false)
    → value (raw_at text p d ++ ps) ≡ bytes_at text p d ++ value ps
raw_value d text p ps last = raw_value_behind d text p [] ps (λ z. refl) last

-- as they are before the closing quote
raw_lines : (d : ℕ) (text : List ℕ) (p : ℕ)
    → lines (raw_at text p d ++ []) ≡ record { first = raw_at text p d; others = [] }
raw_lines zero text p = rw (raw_none text p) refl
raw_lines (suc d) text p = elim (cases_Bool (is_blank (byte text p))) [
  | inl b ↦ rw (raw_more text p d, b, raw_lines d text (p + 1)) refl
  | inr n ↦ rw (raw_more text p d, n, raw_lines d text (p + 1)) refl
]

raw_text : (d : ℕ) (t : List ℕ) (p : ℕ) → text (raw_at t p d) ≡ bytes_at t p d
raw_text zero t p = rw (raw_none t p, bytes_none t p) refl
raw_text (suc d) t p = elim (cases_Bool (is_blank (byte t p))) [
  | inl b ↦ rw (raw_more t p d, bytes_more t p d, b, raw_text d t (p + 1)) refl
  | inr n ↦ rw (raw_more t p d, bytes_more t p d, n, raw_text d t (p + 1)) refl
]

pub raw_end : (d : ℕ) (text : List ℕ) (p : ℕ) → value (raw_at text p d ++ []) ≡ bytes_at text p d
raw_end d text p = rw (raw_lines d text p) (raw_text d text p)

-- ---- what is to come

pub valued_same : (f g : List Piece → List ℕ) → ((ps : List Piece) → f ps ≡ g ps)
    → (r : Result (List Piece × ℕ) Wrong) → valued f r ≡ valued g r
valued_same f g same (Ok x) = rw (same x.0) refl
valued_same f g same (Err w) = refl

pub come_pieces : (f : List Piece → List ℕ) (quote : ℕ) (text : List ℕ) (p q : ℕ) (qs : List Piece)
    → standing_at quote text p ≡ Pieces qs q
    → valued f (pieces_on quote text p) ≡ valued (λ ps. f (qs ++ ps)) (pieces_on quote text q)
come_pieces f quote text p q qs h =
    ap (valued f) (pieces_here quote text p ∙ rw h refl) ∙ front f (λ ps. f (qs ++ ps)) qs (pieces_on quote text q) (λ ps. refl)

pub come_bad : (f : List Piece → List ℕ) (quote : ℕ) (text : List ℕ) (p : ℕ) (w : Wrong)
    → standing_at quote text p ≡ Bad w
    → valued f (pieces_on quote text p) ≡ Err w
come_bad f quote text p w h = rw (pieces_here quote text p, h) refl

pub come_closing : (f : List Piece → List ℕ) (quote : ℕ) (text : List ℕ) (p : ℕ)
    → standing_at quote text p ≡ Closing
    → valued f (pieces_on quote text p) ≡ Ok (f [], p + 1)
come_closing f quote text p h = rw (pieces_here quote text p, h) refl

-- a byte that spells itself
pub come_raw : (quote : ℕ) (text done : List ℕ) (from p : ℕ) → from ≤ p
    → standing_at quote text p ≡ Pieces (raw_piece (byte text p) ∷ []) (p + 1)
    → to_come quote text done from p ≡ to_come quote text done from (p + 1)
come_raw quote text done from p l h =
    let e : p + 1 - from ≡ p - from + 1 = omega arith in
    let at : from + (p - from) ≡ p = omega arith in
    let all : raw_at text from (p + 1 - from) ≡ raw_at text from (p - from) ++ raw_piece (byte text p) ∷ [] = rw e (raw_last text from (p - from) ∙ rw at refl) in
    come_pieces (λ ps. done ++ value (raw_at text from (p - from) ++ ps)) quote text p (p + 1) (raw_piece (byte text p) ∷ []) h
    ∙ valued_same _ (λ ps. done ++ value (raw_at text from (p + 1 - from) ++ ps)) (λ ps. rw all (ap (λ (x : List Piece). done ++ value x) (sym (append_assoc (raw_at text from (p - from)) (raw_piece (byte text p) ∷ []) ps)))) (pieces_on quote text (p + 1))

pub standing_raw : (quote : ℕ) (text : List ℕ) (p : ℕ) → is_document_indicator text p ≡ false
    → byte text p ≢ 0 → byte text p ≢ quote
    → break_width text p ≡ 0 → (quote == 34 && byte text p == 92) ≡ false
    → standing_at quote text p ≡ Pieces (raw_piece (byte text p) ∷ []) (p + 1)
standing_raw quote text p calm some other none slash = elim (cases_Bool (is_blank (byte text p))) [
  | inl b ↦ rw b (standings.standing_blank quote text p calm some other none b)
  | inr n ↦ rw n (standings.standing_kept quote text p calm some other none n slash)
]

-- ---- places

pub seat_next : (text : List ℕ) (line p : ℕ) → InQuotes text line p → 0 < byte text p
    → break_width text p ≡ 0 → InQuotes text line (p + 1)
seat_next text line p seat some none =
    let e = end_next text p seat.whole none in
    let here = within text p some in
    let column : 0 < column_at text (p + 1) = elim seat.column [
      | inl c ↦ column_on text p c e
      | inr s ↦ let more = column_more text p e s in omega arith
    ] in
    record {
      inside = omega arith;
      whole = split_next text p seat.whole none;
      calm = no_mark text (p + 1) column;
      column = inl column;
      own = seat.own ∙ sym (line_on text p e);
    }

seat_over : (d : ℕ) (text : List ℕ) (line p : ℕ) → InQuotes text line p
    → ((k : ℕ) → p ≤ k → k < p + d → (0 < byte text k) × (byte text k < 128) × (break_width text k ≡ 0)) → InQuotes text line (p + d)
seat_over zero text line p seat each = let z : p + 0 ≡ p = omega arith in rw z seat
seat_over (suc d) text line p seat each =
    let e : p + suc d ≡ p + 1 + d = omega arith in
    let (some, low, none) = each p (omega arith) (omega arith) in
    rw e (seat_over d text line (p + 1) (seat_next text line p seat some none) (λ k a b. each k (omega arith) (omega arith)))

pub seat_plain : (text : List ℕ) (line p q : ℕ) → InQuotes text line p → ArePlain text p q
    → InQuotes text line q
seat_plain text line p q seat plain =
    let forward = plain.forward in
    let at : p + (q - p) ≡ q = omega arith in
    rw at at (seat_over (q - p) text line p seat (λ k a b. plain.each k a (rw at at b)))

pub low_starts : (b : ℕ) → b < 128 → starts b ≡ true
low_starts b h = grind (arith, nat_tests)

pub narrow_plain : (text : List ℕ) (start line p q from next : ℕ) (wide : Bool) → ArePlain text p q
    → IsNarrow text start (record { from = from; at = p; line = line; wide = wide }) → IsNarrow text start (record { from = next; at = q; line = line; wide = wide })
narrow_plain text start line p q from next wide plain narrow w k a b l = elim (cases_lt k p) [
  | inl m ↦ narrow w k a b m
  | inr m ↦ low_starts (byte text k) (plain.each k m l).1
]

-- ---- runs

record IsRaw (quote b : ℕ) : Type 0 where
  some : 0 < b
  calm : (c d : ℕ) → break_of b c d ≡ 0
  other : b ≢ quote
  slash : (quote == 34 && b == 92) ≡ false

raw_bounds : (quote b : ℕ) → IsQuote quote → may_stop quote b ≡ false
    → (31 < b) × (b ≢ 0xC2) × (b ≢ 0xE2) × (b ≢ quote) × ((quote == 34 && b == 92) ≡ false)
raw_bounds quote b (inl e) h = rw e (double b (rw e at h))
  where
    double : (b : ℕ) → may_stop 34 b ≡ false → (31 < b) × (b ≢ 0xC2) × (b ≢ 0xE2) × (b ≢ 34) × ((34 == 34 && b == 92) ≡ false)
    double b h = (grind (arith, nat_tests), grind (arith, nat_tests), grind (arith, nat_tests), grind (arith, nat_tests), grind (arith, nat_tests))
raw_bounds quote b (inr e) h = rw e (single b (rw e at h))
  where
    single : (b : ℕ) → may_stop 39 b ≡ false → (31 < b) × (b ≢ 0xC2) × (b ≢ 0xE2) × (b ≢ 39) × ((39 == 34 && b == 92) ≡ false)
    single b h = (grind (arith, nat_tests), grind (arith, nat_tests), grind (arith, nat_tests), grind (arith, nat_tests), grind (arith, nat_tests))

raw_byte : (quote b : ℕ) → IsQuote quote → may_stop quote b ≡ false → IsRaw quote b
raw_byte quote b is h =
    let (low, next, separator, other, slash) = raw_bounds quote b is h in
    record { some = omega arith; calm = λ c d. no_break b c d (omega arith) (omega arith) next separator; other = other; slash = slash }

-- what a run leaves
pub record Runs (quote : ℕ) (text : List ℕ) (from line p q : ℕ) : Type 0 where
  pub seat : InQuotes text line q
  pub come : (done : List ℕ) → to_come quote text done from p ≡ to_come quote text done from q

pub run_over : (d quote : ℕ) (text : List ℕ) (from line p : ℕ) → IsQuote quote → from ≤ p
    → InQuotes text line p
    → ((k : ℕ) → p ≤ k → k < p + d → may_stop quote (byte text k) ≡ false) → Runs quote text from line p (p + d)
run_over zero quote text from line p is l seat each = let z : p + 0 ≡ p = omega arith in rw z (record { seat = seat; come = λ done. refl })
run_over (suc d) quote text from line p is l seat each =
    let e : p + suc d ≡ p + 1 + d = omega arith in
    let raw = raw_byte quote (byte text p) is (each p (omega arith) (omega arith)) in
    let some = raw.some in
    let none = raw.calm (byte text (p + 1)) (byte text (p + 2)) in
    let more = run_over d quote text from line (p + 1) is (omega arith) (seat_next text line p seat raw.some none) (λ k a b. each k (omega arith) (omega arith)) in
    let standing = standing_raw quote text p seat.calm (λ z. absurd (omega arith)) raw.other none raw.slash in
    rw e (record { seat = more.seat; come = λ done. come_raw quote text done from p l standing ∙ more.come done })

-- ---- escapes

abbrev with_digit : Option ℕ → Option ℕ → Option ℕ
with_digit high low = option_and_then (λ h. option_map (λ l. h * 16 + l) low) high

digit_parts : (high low : Option ℕ) (v : ℕ) → with_digit high low ≡ Some v
    → (h : ℕ) × (l : ℕ) × (high ≡ Some h) × (low ≡ Some l)
digit_parts high low v e = grind arith

hex_last : (text : List ℕ) (p n v : ℕ) → hex_value text p (suc n) ≡ Some v
    → (h : ℕ) × (l : ℕ) × (hex_value text p n ≡ Some h) × (hex_digit (byte text (p + n)) ≡ Some l)
unfolding hex_value
hex_last text p n v e = digit_parts (hex_value text p n) (hex_digit (byte text (p + n))) v e

hex_bounds : (b d : ℕ) → hex_digit b ≡ Some d → (47 < b) × (b < 103)
unfolding hex_digit
hex_bounds b d h = (grind (arith, nat_tests), grind (arith, nat_tests))

pub letter_plain : (text : List ℕ) (k : ℕ) → 31 < byte text k → byte text k < 128
    → (0 < byte text k) × (byte text k < 128) × (break_width text k ≡ 0)
letter_plain text k low high = (omega arith, high, no_break _ _ _ (omega arith) (omega arith) (omega arith) (omega arith))

pub hex_plain : (n : ℕ) (text : List ℕ) (p v : ℕ) → hex_value text p n ≡ Some v
    → ArePlain text p (p + n)
hex_plain zero text p v e = record { forward = omega arith; each = λ k a b. absurd (omega arith) }
hex_plain (suc n) text p v e =
    let (h, l, before, last) = hex_last text p n v e in
    let front = hex_plain n text p h before in
    let (low, high) = hex_bounds (byte text (p + n)) l last in
    record {
      forward = omega arith;
      each = λ k a b. elim (cases_lt k (p + n)) [
        | inl m ↦ front.each k a m
        | inr m ↦ let same : k ≡ p + n = omega arith in rw same (letter_plain text (p + n) (omega arith) (omega arith))
      ];
    }

pub code_taken : (text : List ℕ) (p n v : ℕ) (old new : List ℕ) → hex_value text p n ≡ Some v
    → is_scalar v ≡ true → new ≡ old ++ encode_utf8 v
    → IsTaken text p old new (p + n) (coded p (p + n) (hex_value text p n))
code_taken text p n v old new e scalar is = record { bytes = encode_utf8 v; spot = rw (e, scalar) refl; is = is; plain = hex_plain n text p v e }

pub hex_start : (text : List ℕ) (p : ℕ) → hex_value text p 0 ≡ Some 0
unfolding hex_value
hex_start text p = refl

scalar_test : (c : ℕ) → IsScalar c → is_scalar c ≡ true
scalar_test c h = grind (arith, nat_tests)

pub code_done : (text : List ℕ) (p n v c : ℕ) (old new bytes : List ℕ)
    → Some v ≡ hex_value text p n → IsScalar v → c ≡ v
    → bytes ≡ encode_utf8 c → new ≡ old ++ bytes → IsTaken text p old new (p + n) (coded p (p + n) (hex_value text p n))
code_done text p n v c old new bytes e scalar same is all = code_taken text p n v old new (sym e) (scalar_test v scalar) (all ∙ rw (is, same) refl)

-- ---- white between quotes

no_mark_byte : (text : List ℕ) (p : ℕ) → byte text p ≢ 45 → byte text p ≢ 46
    → is_document_indicator text p ≡ false
unfolding is_document_indicator
no_mark_byte text p a b = rw (ne_eqb (byte text p) 45 a, ne_eqb (byte text p) 46 b) (none (column_at text p == 0) _)
  where
    none : (x y : Bool) → (x && (false || false) && y) ≡ false
    none x y = grind arith

pub quote_bound : (quote : ℕ) → IsQuote quote → (33 < quote) × (quote < 40)
quote_bound quote (inl e) = (omega arith, omega arith)
quote_bound quote (inr e) = (omega arith, omega arith)

blank_bound : (b : ℕ) → is_blank b ≡ true → (0 < b) × (b < 33)
blank_bound b h = (grind (arith, nat_tests), grind (arith, nat_tests))

break_bound : (text : List ℕ) (p : ℕ) → 0 < break_width text p
    → (0 < byte text p) × ((byte text p < 14) ⊎ (127 < byte text p))
break_bound text p h = elim (cases_lt 127 (byte text p)) [
  | inl l ↦ (omega arith, inr l)
  | inr l ↦ elim (cases_lt (byte text p) 14) [
    | inl m ↦ (elim (cases_lt 0 (byte text p)) [ inl k ↦ k | inr k ↦ absurd (let none = no_break (byte text p) (byte text (p + 1)) (byte text (p + 2)) (omega arith) (omega arith) (omega arith) (omega arith) in omega arith) ], inl m)
    | inr m ↦ absurd (let none = no_break (byte text p) (byte text (p + 1)) (byte text (p + 2)) (omega arith) (omega arith) (omega arith) (omega arith) in omega arith)
  ]
]

standing_blank : (quote : ℕ) (text : List ℕ) (p : ℕ) → IsQuote quote → is_blank (byte text p) ≡ true
    → standing_at quote text p ≡ Pieces (Blank (byte text p) ∷ []) (p + 1)
standing_blank quote text p is h =
    let (low, high) = quote_bound quote is in
    let (some, less) = blank_bound (byte text p) h in
    standings.standing_blank quote text p (no_mark_byte text p (λ e. absurd (omega arith)) (λ e. absurd (omega arith))) (λ e. absurd (omega arith)) (λ e. absurd (omega arith))
    (blank_parts (byte text p) (byte text (p + 1)) (byte text (p + 2)) h).1 h

standing_break : (quote : ℕ) (text : List ℕ) (p : ℕ) → IsQuote quote → 0 < break_width text p
    → standing_at quote text p ≡ Pieces (Break (feed_at text p) ∷ []) (p + break_width text p)
unfolding standing_at
standing_break quote text p is h =
    let (low, high) = quote_bound quote is in
    let (some, far) = break_bound text p h in
    let dash : byte text p ≢ 45 = λ e. absurd (elim far [ inl l ↦ omega arith | inr l ↦ omega arith ]) in
    let dot : byte text p ≢ 46 = λ e. absurd (elim far [ inl l ↦ omega arith | inr l ↦ omega arith ]) in
    let other : byte text p ≢ quote = λ e. absurd (elim far [ inl l ↦ omega arith | inr l ↦ omega arith ]) in
    rw (no_mark_byte text p dash dot, ne_eqb (byte text p) 0 (λ e. absurd (omega arith)), ne_eqb (byte text p) quote other, lt-ltb 0 (break_width text p) h) refl

pub white_on : (quote : ℕ) (text : List ℕ) (p q : ℕ) (ps : List Piece) → IsQuote quote
    → White 0 text p q ps → (f : List Piece → List ℕ)
    → valued f (pieces_on quote text p) ≡ valued (λ ks. f (ps ++ ks)) (pieces_on quote text q)
white_on quote text p q ps is (no_white s) f = refl
white_on quote text p q ps is (white_blank s t rest b tab v) f =
    come_pieces f quote text s (s + 1) (Blank (byte text s) ∷ []) (standing_blank quote text s is b)
    ∙ white_on quote text (s + 1) q rest is v (λ ks. f (Blank (byte text s) ∷ ks))
white_on quote text p q ps is (white_break s t rest b v) f =
    come_pieces f quote text s (s + break_width text s) (Break (feed_at text s) ∷ []) (standing_break quote text s is b)
    ∙ white_on quote text (s + break_width text s) q rest is v (λ ks. f (Break (feed_at text s) ∷ ks))

-- ---- what follows white is none

abbrev pub Solid : List Piece → Type 0
Solid [] = Unit {0}
Solid (Kept c ∷ ps) = Unit {0}
Solid (Blank b ∷ ps) = ⊥
Solid (Break b ∷ ps) = ⊥

abbrev SolidSpot : QuotedSpot → Type 0
SolidSpot Closing = Unit {0}
SolidSpot (Pieces [] q) = ⊥
SolidSpot (Pieces (Kept c ∷ ps) q) = Unit {0}
SolidSpot (Pieces (Blank b ∷ ps) q) = ⊥
SolidSpot (Pieces (Break b ∷ ps) q) = ⊥
SolidSpot (Bad w) = Unit {0}

code_solid : (p q : ℕ) (c : Option ℕ) → SolidSpot (coded p q c)
code_solid p q None = tt
code_solid p q (Some c) = elim (cases_Bool (is_scalar c)) [
  | inl s ↦ rw s tt
  | inr n ↦ rw n tt
]

letter_solid : (p : ℕ) (c : Option (List ℕ)) → SolidSpot (escaped p c)
letter_solid p None = tt
letter_solid p (Some c) = tt

escape_solid : (text : List ℕ) (p : ℕ) → SolidSpot (escape_at text p)
unfolding escape_at
escape_solid text p = elim (cases_Bool (nat_lt 0 (break_width text (p + 1)))) [
  | inl b ↦ rw b tt
  | inr n ↦ elim (cases_Bool (nat_lt 0 (hex_len (byte text (p + 1))))) [
    | inl h ↦ rw (n, h) (code_solid (p + 2) (p + 2 + hex_len (byte text (p + 1))) (hex_value text (p + 2) (hex_len (byte text (p + 1)))))
    | inr l ↦ rw (n, l) (letter_solid p (simple_escape (byte text (p + 1))))
  ]
]

quote_solid : (quote : ℕ) (text : List ℕ) (p : ℕ) → SolidSpot (quote_at quote text p)
unfolding quote_at
quote_solid quote text p = elim (cases_Bool (quote == 39 && byte text (p + 1) == 39)) [
  | inl d ↦ rw d tt
  | inr n ↦ rw n tt
]

solid_at : (quote : ℕ) (text : List ℕ) (p : ℕ) → break_width text p ≡ 0
    → is_blank (byte text p) ≡ false → SolidSpot (standing_at quote text p)
unfolding standing_at
solid_at quote text p none blank = elim (cases_Bool (is_document_indicator text p)) [
  | inl m ↦ rw m tt
  | inr m ↦ elim (cases_Bool (byte text p == 0)) [
    | inl z ↦ rw (m, z) tt
    | inr z ↦ elim (cases_Bool (byte text p == quote)) [
      | inl o ↦ rw (m, z, o) (quote_solid quote text p)
      | inr o ↦ elim (cases_Bool (quote == 34 && byte text p == 92)) [
        | inl e ↦ rw (m, z, o, none, blank, e) (escape_solid text p)
        | inr e ↦ rw (m, z, o, none, blank, e) tt
      ]
    ]
  ]
]

solid_followed : (f g : List Piece → List ℕ) → ((ps : List Piece) → Solid ps → f ps ≡ g ps)
    → (more : ℕ → Result (List Piece × ℕ) Wrong) (p : ℕ) (s : QuotedSpot)
    → SolidSpot s → valued f (followed more p s) ≡ valued g (followed more p s)
solid_followed f g same more p Closing h = rw (same [] tt) refl
solid_followed f g same more p (Bad w) h = refl
solid_followed f g same more p (Pieces [] q) h = absurd h
solid_followed f g same more p (Pieces (Blank b ∷ ps) q) h = absurd h
solid_followed f g same more p (Pieces (Break b ∷ ps) q) h = absurd h
solid_followed f g same more p (Pieces (Kept c ∷ ps) q) h = kept (more q)
  where
    kept : (r : Result (List Piece × ℕ) Wrong) → valued f (with_front (Kept c ∷ ps) r) ≡ valued g (with_front (Kept c ∷ ps) r)
    kept (Ok x) = rw (same (Kept c ∷ ps ++ x.0) tt) refl
    kept (Err w) = refl

pub solid_same : (f g : List Piece → List ℕ) (quote : ℕ) (text : List ℕ) (p : ℕ)
    → ((ps : List Piece) → Solid ps → f ps ≡ g ps)
    → break_width text p ≡ 0 → is_blank (byte text p) ≡ false → valued f (pieces_on quote text p) ≡ valued g (pieces_on quote text p)
solid_same f g quote text p same none blank =
    ap (valued f) (pieces_here quote text p) ∙ solid_followed f g same (pieces_on quote text) p (standing_at quote text p) (solid_at quote text p none blank)
    ∙ sym (ap (valued g) (pieces_here quote text p))

pub solid_rest : (ks : List Piece) → Solid ks → (rest_after ks ≡ []) × (text_after ks ≡ value ks)
solid_rest [] h = (refl, refl)
solid_rest (Kept c ∷ ps) h = kept_rest c (lines ps).first (lines ps).others
solid_rest (Blank b ∷ ps) h = absurd h
solid_rest (Break b ∷ ps) h = absurd h

-- ---- white that folds

blanks_run : (d : ℕ) (text : List ℕ) (a p : ℕ) → InRun is_blank_there text a p
    → ((k : ℕ) → p ≤ k → k < p + d → is_blank (byte text k) ≡ true)
    → InRun is_blank_there text a (p + d)
blanks_run zero text a p run each = let z : p + 0 ≡ p = omega arith in rw z run
blanks_run (suc d) text a p run each =
    let e : p + suc d ≡ p + 1 + d = omega arith in
    let here = each p (omega arith) (omega arith) in
    rw e (blanks_run d text a (p + 1) (run_more is_blank_there text a p run here (blank_parts (byte text p) 0 0 here).0) (λ k a b. each k (omega arith) (omega arith)))

break_not_blank : (text : List ℕ) (p : ℕ) → 0 < break_width text p → is_blank (byte text p) ≡ false
break_not_blank text p h = elim (cases_Bool (is_blank (byte text p))) [
  | inl b ↦ absurd (let none = (blank_parts (byte text p) (byte text (p + 1)) (byte text (p + 2)) b).1 in omega arith)
  | inr n ↦ n
]

-- blanks that were trimmed end at the break
pub trimmed_past : (text : List ℕ) (from p end : ℕ) → IsTrimmed text from p end
    → 0 < break_width text p → past_blanks text end ≡ p
trimmed_past text from p end trim broke =
    let before = trim.before in
    let at : end + (p - end) ≡ p = omega arith in
    let run : InRun is_blank_there text end p = rw at at (blanks_run (p - end) text end end (run_start is_blank_there text end) (λ k a b. trim.blanks k a (rw at at b))) in
    run_done is_blank_there text end p run (break_not_blank text p broke)

pub slice_is : (text : List ℕ) (p q : ℕ) → p ≤ q → q ≤ length text
    → slice_range text p q ≡ bytes_at text p (q - p)
slice_is text p q l inside = slice_bytes text p (q - p) (omega arith)

pub same_place : (text : List ℕ) (p : ℕ) (ps : List Piece) → raw_at text p (p - p) ++ ps ≡ ps
same_place text p ps = let z : p - p ≡ 0 = omega arith in rw (z, raw_none text p) refl

-- what raw bytes and white read as
fold_value : (text : List ℕ) (from p end q : ℕ) (ws ks : List Piece) → from ≤ p
    → IsTrimmed text from p end → end ≤ length text → 0 < break_width text p
    → White 0 text (p + break_width text p) q ws → Solid ks
    → value (raw_at text from (p - from) ++ (Break (feed_at text p) ∷ ws ++ ks)) ≡ (slice_range text from end ++ fold_of text end q) ++ value ks
fold_value text from p end q ws ks l trim inside broke white solid =
    let after = trim.after in
    let before = trim.before in
    let d : p - from ≡ (end - from) + (p - end) = omega arith in
    let at : from + (end - from) ≡ end = omega arith in
    let back : end + (p - end) ≡ p = omega arith in
    let bs = bytes_at text end (p - end) in
    let raws : raw_at text from (p - from) ≡ raw_at text from (end - from) ++ blanks_of bs = rw d (raw_join text from (end - from) (p - end) ∙ rw at (ap (λ (x : List Piece). raw_at text from (end - from) ++ x) (raw_blanks text end (p - end) (λ k a b. trim.blanks k a (rw back at b))))) in
    let last : 0 < end - from → is_blank (byte text (from + (end - from) - 1)) ≡ false = λ s. rw at (trim.last (omega arith)) in
    let (none, same) = solid_rest ks solid in
    let folds = fold_white 0 text (p + break_width text p) q bs (feed_at text p) ws white ks none same in
    let past = trimmed_past text from p end trim broke in
    let feeds_are = feeds_white 0 text (p + break_width text p) q ws white in
    let fold : fold_of text end q ≡ gap (feed_at text p) (breaks_of ws) = rw (past, feeds_are) refl in
    rw (raws, append_assoc, raw_value (end - from) text from (blanks_of bs ++ (Break (feed_at text p) ∷ ws ++ ks)) last, folds, slice_is text from end after inside, fold) (sym (append_assoc (bytes_at text from (end - from)) (gap (feed_at text p) (breaks_of ws)) (value ks)))

pub head_seat : (text : List ℕ) (line p : ℕ) → InHead text line p
    → is_document_indicator text p ≡ false → InQuotes text line p
head_seat text line p head calm = record { inside = head.inside; whole = head.whole; calm = calm; column = inr head.starts; own = head.own }

pub head_narrow : (text : List ℕ) (start line p : ℕ) (wide : Bool) → InHead text line p
    → IsNarrow text start (record { from = p; at = p; line = line; wide = wide })
head_narrow text start line p wide head w k a b l = blank_starts (byte text k) (head.blanks k b l)

pub fold_goes : (quote : ℕ) (text old new : List ℕ) (read : Quoted) (end : ℕ) (h : Head)
    → IsQuote quote → read.from ≤ read.at → read.at ≤ length text
    → IsTrimmed text read.from read.at end → 0 < break_width text read.at → IsHead 0 text read.at h → is_document_indicator text h.at ≡ false
    → new ≡ old ++ (slice_range text read.from end ++ fold_of text end h.at)
    → Goes quote text old new read (record { from = h.at; at = h.at; line = h.line; wide = read.wide })
fold_goes quote text old new read end h is order inside trim broke head calm e =
    let before = trim.before in
    let le = white_le 0 text (read.at + break_width text read.at) h.at head.pieces head.white in
    let b = feed_at text read.at in
    let more = slice_range text read.from end ++ fold_of text end h.at in
    record {
      more = more;
      is = e;
      goes = λ done. white_on quote text read.at h.at (Break b ∷ head.pieces) is (white_break read.at h.at head.pieces broke head.white) (λ ps. done ++ value (raw_at text read.from (read.at - read.from) ++ ps))
          ∙ solid_same (λ ks. done ++ value (raw_at text read.from (read.at - read.from) ++ (Break b ∷ head.pieces ++ ks))) (λ ks. (done ++ more) ++ value (raw_at text h.at (h.at - h.at) ++ ks)) quote text h.at
          (λ ks solid. rw (same_place text h.at ks) (ap (λ (x : List ℕ). done ++ x) (fold_value text read.from read.at end h.at head.pieces ks order trim (omega arith) broke head.white solid) ∙ sym (append_assoc done more (value ks)))) head.none head.blank;
      further = omega arith;
      order = omega arith;
      taken = inr (omega arith);
      seat = head_seat text h.line h.at head.head calm;
      narrow = λ start n. head_narrow text start h.line h.at read.wide head.head;
    }
