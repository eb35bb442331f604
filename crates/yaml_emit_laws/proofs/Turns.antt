-- How escapes and ends of lines are read inside the quotes.
use Rattle.std.proofs.Common.{◌≡◌, ◌≢◌, ℕ, zero, suc, ◌+◌, ◌<◌, true, false, ◌&&◌, ◌==◌, nat_lt, List, [], ◌∷◌, ◌++◌, length, replicate, Some, refl, sym, ap, subst, ◌∙◌, inl, inr, arith, add-zero, append_assoc, append-nil, encode_utf8, length-append}
use Rattle.yaml_emit_laws.proofs.Shared.{nat_tests, and_parts, not-true, lt-ltb, byte, break_of, break_width, column_at, break_value, Piece, Kept, Blank, Break, Pieces, hex_value, hex_len, simple_escape, is_scalar, escape_at, standing_at, LineEnd, feed, return, return_feed, next_line, line_separator, paragraph_separator, end_bytes, end_means, LineTurn, turn_bytes, is_return, is_feed_end, may_turn, number_behind, has_rest, has_front}
use lib.Utf8.{scalar, scalar_cases}
use Rattle.yaml_emit_laws.proofs.Values.{blanks_of, turns_read, turn_read}
use Rattle.yaml_emit_laws.proofs.Bytes.{IsQuote, no_quote, Calm, AreCalm, calm_end, calm_break, calm_from, hex_start, digits, named_is, number_calm}
use Rattle.yaml_emit_laws.proofs.QuotedReading.{Read, Through, read_step, through_one, through_at, in_line, no_mark, column_more, space_standing, space_column}
use Rattle.yaml_scan_history.proofs.HasLemmas.{Has}

-- ---- escapes

columns : (text : List ℕ) (p : ℕ) (xs : List ℕ) → AreCalm xs → Has text p xs → 0 < column_at text p
    → 0 < column_at text (p + length xs)
columns text p [] a h c = rw add-zero c
columns text p (x ∷ xs) (a, b) (e, h) c =
    let same : p + 1 + length xs ≡ p + suc (length xs) = omega arith in
    subst (λ q. 0 < column_at text q) same (columns text (p + 1) xs b h (column_more text p (rw e (calm_end _ _ x _ a)) c))

slash_calm : Calm 92
slash_calm = calm_from 92 (omega arith) (omega arith)

backslash : (text : List ℕ) (p : ℕ) → 0 < column_at text p → byte text p ≡ 92
    → standing_at 34 text p ≡ escape_at text p
unfolding standing_at
backslash text p c e =
    let z : break_width text p ≡ 0 = rw e (calm_break 92 _ _ slash_calm) in
    rw (in_line text p c, z, e) refl

named_at : (text : List ℕ) (p l : ℕ) (bs : List ℕ) → byte text (p + 1) ≡ l → Calm l → hex_len l ≡ 0
    → simple_escape l ≡ Some bs → escape_at text p ≡ Pieces (Kept bs ∷ []) (p + 2)
unfolding escape_at
named_at text p l bs e a n s =
    let z : break_width text (p + 1) ≡ 0 = rw e (calm_break l _ _ a) in
    rw (z, e, n, s) refl

numbered_at : (text : List ℕ) (p l n c : ℕ) → byte text (p + 1) ≡ l → Calm l → hex_len l ≡ n
    → nat_lt 0 n ≡ true → hex_value text (p + 2) n ≡ Some c → is_scalar c ≡ true
    → escape_at text p ≡ Pieces (Kept (encode_utf8 c) ∷ []) (p + 2 + n)
unfolding escape_at
numbered_at text p l n c e a h more v s =
    let z : break_width text (p + 1) ≡ 0 = rw e (calm_break l _ _ a) in
    rw (z, e, h, more, v, s) refl

-- what is after a backslash
escape_run : (text : List ℕ) (p : ℕ) (xs bs : List ℕ) → 0 < column_at text p → AreCalm xs
    → Has text p (92 ∷ xs)
    → escape_at text p ≡ Pieces (Kept bs ∷ []) (p + length (92 ∷ xs))
    → Through 34 text p (Kept bs ∷ []) (p + length (92 ∷ xs))
escape_run text p xs bs c a h e =
    through_one 34 text p (p + length (92 ∷ xs)) (Kept bs ∷ []) (backslash text p c h.0 ∙ e) (omega arith) (columns text p (92 ∷ xs) (slash_calm, a) h c)

pub named_through : (text : List ℕ) (p b : ℕ) (bs : List ℕ) → 0 < column_at text p
    → simple_escape b ≡ Some bs → Has text p (92 ∷ b ∷ [])
    → Through 34 text p (Kept bs ∷ []) (p + 2)
named_through text p b bs c s h =
    let n = named_is b bs s in
    escape_run text p (b ∷ []) bs c (n.calm, tt) h (named_at text p b bs h.1.0 n.calm n.number s)

scalar_is : (c : ℕ) → scalar c ≡ true → is_scalar c ≡ true
scalar_is c h = elim (scalar_cases c h) [ inl a ↦ grind (arith, nat_tests) | inr a ↦ let x = a.0 in let y = a.1 in grind (arith, nat_tests) ]

pub numbered_through : (text : List ℕ) (p b c : ℕ) (ds : List ℕ) → 0 < column_at text p
    → 0 < length ds → hex_len b ≡ length ds → number_behind 0 ds ≡ Some c → scalar c ≡ true
    → Has text p (92 ∷ b ∷ ds)
    → Through 34 text p (Kept (encode_utf8 c) ∷ []) (p + length (92 ∷ b ∷ ds))
numbered_through text p b c ds col some l n s (e, (f, h)) =
    let at : p + 1 + 1 ≡ p + 2 + 0 = omega arith in
    let d = digits text (p + 2) 0 0 c ds (hex_start text (p + 2)) (subst (λ q. Has text q ds) at h) n in
    let calm = number_calm b (omega (arith, l, some)) in
    let same : p + 2 + length ds ≡ p + suc (suc (length ds)) = omega arith in
    let plain : length ds ≡ 0 + length ds = omega arith in
    escape_run text p (b ∷ ds) (encode_utf8 c) col (calm, d.calm) (e, (f, h))
    (numbered_at text p b (length ds) c f calm l (lt-ltb 0 (length ds) some) (ap (λ k. hex_value text (p + 2) k) plain ∙ d.value) (scalar_is c s) ∙ ap (λ q. Pieces (Kept (encode_utf8 c) ∷ []) q) same)

-- ---- ends of lines

-- an end of a line is there
record EndAt (text : List ℕ) (p : ℕ) (e : LineEnd) : Type 0 where
  first : ℕ
  is : byte text p ≡ first
  no_dash : first ≢ 45
  no_dot : first ≢ 46
  no_double : first ≢ 34
  no_single : first ≢ 39
  some : (first == 0) ≡ false
  width : break_width text p ≡ length (end_bytes e)
  read : break_value text p ≡ end_means e

end_at : (text : List ℕ) (p : ℕ) (e : LineEnd) → Has text p (end_bytes e)
    → (is_return e ≡ true → (byte text (p + 1) == 10) ≡ false) → EndAt text p e
unfolding break_value break_of
end_at text p feed (a, u) n = record { first = 10; is = a; no_dash = λ f. omega arith; no_dot = λ f. omega arith; no_double = λ f. omega arith; no_single = λ f. omega arith; some = refl; width = rw a refl; read = rw a refl }
end_at text p return (a, u) n =
    let b = n refl in
    record { first = 13; is = a; no_dash = λ f. omega arith; no_dot = λ f. omega arith; no_double = λ f. omega arith; no_single = λ f. omega arith; some = refl; width = rw (a, b) refl; read = rw (a, b) refl }
end_at text p return_feed (a, (b, u)) n = record { first = 13; is = a; no_dash = λ f. omega arith; no_dot = λ f. omega arith; no_double = λ f. omega arith; no_single = λ f. omega arith; some = refl; width = rw (a, b) refl; read = rw (a, b) refl }
end_at text p next_line (a, (b, u)) n = record { first = 0xC2; is = a; no_dash = λ f. omega arith; no_dot = λ f. omega arith; no_double = λ f. omega arith; no_single = λ f. omega arith; some = refl; width = rw (a, b) refl; read = rw (a, b) refl }
end_at text p line_separator (a, (b, (d, u))) n =
    let w : p + 2 ≡ p + 1 + 1 = omega arith in
    record { first = 0xE2; is = a; no_dash = λ f. omega arith; no_dot = λ f. omega arith; no_double = λ f. omega arith; no_single = λ f. omega arith; some = refl; width = rw (w, a, b, d) refl; read = rw (w, a, b, d) refl }
end_at text p paragraph_separator (a, (b, (d, u))) n =
    let w : p + 2 ≡ p + 1 + 1 = omega arith in
    record { first = 0xE2; is = a; no_dash = λ f. omega arith; no_dot = λ f. omega arith; no_double = λ f. omega arith; no_single = λ f. omega arith; some = refl; width = rw (w, a, b, d) refl; read = rw (w, a, b, d) refl }

end_some : (e : LineEnd) → 0 < length (end_bytes e)
end_some e = grind (arith, nat_tests)

end_standing : (quote : ℕ) (text : List ℕ) (p : ℕ) (e : LineEnd) → IsQuote quote → EndAt text p e
    → standing_at quote text p ≡ Pieces (Break (end_means e) ∷ []) (p + length (end_bytes e))
unfolding standing_at
end_standing quote text p e q a =
    (rw ((no_mark text p a.first a.is a.no_dash a.no_dot), a.width, a.read, a.is, a.some, (no_quote quote a.first q a.no_double a.no_single), (lt-ltb 0 (length (end_bytes e)) (end_some e))) refl)

-- CR has no LF after it
spaces_first : (text : List ℕ) (p n : ℕ) (xs : List ℕ) → Has text p (replicate (suc n) 32 ++ xs)
    → (byte text p == 10) ≡ false
spaces_first text p n xs (e, h) = rw e refl

end_first : (text : List ℕ) (p : ℕ) (e : LineEnd) (xs : List ℕ) → is_feed_end e ≡ false
    → Has text p (end_bytes e ++ xs) → (byte text p == 10) ≡ false
end_first text p e xs f h = grind (arith, nat_tests)

-- the spaces of a turn, and those after it
abbrev after_end : LineTurn → List LineTurn → List ℕ
after_end t ts = replicate t.spaces 32 ++ turn_bytes ts

no_split : (text : List ℕ) (p n : ℕ) (r : LineEnd) (ts : List LineTurn) → is_return r ≡ true
    → may_turn (record { end = r; spaces = n }) ts ≡ true
    → Has text p (replicate n 32 ++ turn_bytes ts) → (byte text p == 10) ≡ false
unfolding may_turn turn_bytes
no_split text p (suc n) r ts i m h = spaces_first text p n (turn_bytes ts) h
no_split text p zero r [] i m h = absurd (cc)
no_split text p zero r (u ∷ us) i m h =
    let a : (is_return r && is_feed_end u.end) ≡ false = not-true _ (and_parts _ _ m).0 in
    let b : is_feed_end u.end ≡ false = sym (ap (λ t. t && is_feed_end u.end) i) ∙ a in
    end_first text p u.end (after_end u us) b h

-- the byte after CR
behind_end : (text : List ℕ) (p : ℕ) (t : LineTurn) (ts : List LineTurn) → may_turn t ts ≡ true
    → Has text p (turn_bytes (t ∷ ts)) → is_return t.end ≡ true → (byte text (p + 1) == 10) ≡ false
unfolding turn_bytes
behind_end text p t ts m h i =
    no_split text (p + 1) t.spaces t.end ts i m (behind_return text p t.end (after_end t ts) i h)
  where
    behind_return : (text : List ℕ) (p : ℕ) (e : LineEnd) (xs : List ℕ) → is_return e ≡ true
        → Has text p (end_bytes e ++ xs) → Has text (p + 1) xs
    behind_return text p return xs i h = h.1
    behind_return text p feed xs i h = absurd (cc)
    behind_return text p return_feed xs i h = absurd (cc)
    behind_return text p next_line xs i h = absurd (cc)
    behind_return text p line_separator xs i h = absurd (cc)
    behind_return text p paragraph_separator xs i h = absurd (cc)

turn_at : (text : List ℕ) (p : ℕ) (t : LineTurn) (ts : List LineTurn) → may_turn t ts ≡ true
    → Has text p (turn_bytes (t ∷ ts)) → EndAt text p t.end
unfolding turn_bytes
turn_at text p t ts m h = end_at text p t.end (has_front text p (end_bytes t.end) (after_end t ts) h) (behind_end text p t ts m h)

-- spaces at the start of a line
spaces_read : (quote : ℕ) (text : List ℕ) (p n e : ℕ) (rs : List Piece) → IsQuote quote
    → Has text p (replicate n 32) → Read quote text (p + n) rs e
    → Read quote text p (blanks_of n ++ rs) e
spaces_read quote text p zero e rs q h r = rw add-zero at r
spaces_read quote text p (suc n) e rs q (b, h) r =
    let same : p + suc n ≡ p + 1 + n = omega arith in
    read_step quote text p (p + 1) e (Blank 32 ∷ []) (blanks_of n ++ rs) (space_standing quote text p q b) (omega arith)
    (spaces_read quote text (p + 1) n e rs q h (subst (λ k. Read quote text k rs e) same r))

spaces_column : (text : List ℕ) (p n : ℕ) → Has text p (replicate (suc n) 32)
    → 0 < column_at text (p + suc n)
spaces_column text p zero (e, h) = space_column text p e
spaces_column text p (suc n) (e, h) =
    let same : p + 1 + suc n ≡ p + suc (suc n) = omega arith in
    subst (λ q. 0 < column_at text q) same (spaces_column text (p + 1) n h)

-- that many spaces are so long
pub length_spaces : (n : ℕ) → length {A = ℕ} (replicate n 32) ≡ n
length_spaces zero = refl
length_spaces (suc n) = ap (λ k. suc k) (length_spaces n)

-- after the end of a line
abbrev pub tail_read : LineTurn → List LineTurn → List Piece
tail_read t ts = blanks_of t.spaces ++ turns_read ts

last_through : (quote : ℕ) (text : List ℕ) (r n : ℕ) → IsQuote quote → nat_lt 0 n ≡ true
    → Has text r (replicate n 32) → Through quote text r (blanks_of n) (r + n)
last_through quote text r n q m h = grind (arith, nat_tests, spaces_read, spaces_column)

tail_through : (quote : ℕ) (text : List ℕ) (r : ℕ) (t : LineTurn) (ts : List LineTurn)
    → IsQuote quote → may_turn t ts ≡ true → Has text r (after_end t ts)
    → Through quote text r (tail_read t ts) (r + length (after_end t ts))
unfolding may_turn turn_bytes turns_read
tail_through quote text r t [] q m h =
    let l : length {A = ℕ} (replicate t.spaces 32 ++ []) ≡ t.spaces = ap (λ (x : List ℕ). length x) (append-nil (replicate t.spaces 32)) ∙ length_spaces t.spaces in
    let one = last_through quote text r t.spaces q m (has_front text r (replicate t.spaces 32) [] h) in
    subst (λ (ps : List Piece). Through quote text r ps (r + length {A = ℕ} (replicate t.spaces 32 ++ []))) (sym (append-nil (blanks_of t.spaces)))
    (through_at quote text r (r + t.spaces) (r + length {A = ℕ} (replicate t.spaces 32 ++ [])) (blanks_of t.spaces) (omega (arith, l)) one)
tail_through quote text r t (u ∷ us) q m h =
    let n = t.spaces in
    let behind = subst (λ k. Has text (r + k) (turn_bytes (u ∷ us))) (length_spaces n) (has_rest text r (replicate n 32) (turn_bytes (u ∷ us)) h) in
    let later = (and_parts _ (may_turn u us) m).1 in
    let at = turn_at text (r + n) u us later behind in
    let w = length (end_bytes u.end) in
    let some = end_some u.end in
    let rest = tail_through quote text (r + n + w) u us q later (has_rest text (r + n) (end_bytes u.end) (after_end u us) behind) in
    let one : length {A = ℕ} (replicate n 32 ++ turn_bytes (u ∷ us)) ≡ length {A = ℕ} (replicate n 32) + length (turn_bytes (u ∷ us)) = length-append (replicate n 32) (turn_bytes (u ∷ us)) in
    let two : length (end_bytes u.end ++ after_end u us) ≡ length (end_bytes u.end) + length (after_end u us) = length-append (end_bytes u.end) (after_end u us) in
    let same = length_spaces n in
    let there : r + n + w + length (after_end u us) ≡ r + length {A = ℕ} (replicate n 32 ++ turn_bytes (u ∷ us)) = omega (arith, one, two, same) in
    through_at quote text r (r + n + w + length (after_end u us)) (r + length {A = ℕ} (replicate n 32 ++ turn_bytes (u ∷ us))) (tail_read t (u ∷ us)) there
    (record {
      reads = λ rs e x.
          subst (λ (ps : List Piece). Read quote text r ps e) (sym (append_assoc (blanks_of n) (turns_read (u ∷ us)) rs))
          (spaces_read quote text r n e (turns_read (u ∷ us) ++ rs) q (has_front text r (replicate n 32) (turn_bytes (u ∷ us)) h)
          (read_step quote text (r + n) (r + n + w) e (Break (end_means u.end) ∷ []) (tail_read u us ++ rs) (end_standing quote text (r + n) u.end q at) (omega (arith, some)) (rest.reads rs e x)));
      column = rest.column;
    })

-- a step before the tail
first_through : (quote : ℕ) (text : List ℕ) (p s : ℕ) (qs : List Piece) (t : LineTurn)
    (ts : List LineTurn) → IsQuote quote → may_turn t ts ≡ true
    → standing_at quote text p ≡ Pieces qs s → p < s → Has text s (after_end t ts)
    → Through quote text p (qs ++ tail_read t ts) (s + length (after_end t ts))
first_through quote text p s qs t ts q m st l h =
    let rest = tail_through quote text s t ts q m h in
    record {
      reads = λ rs e x. subst (λ (ps : List Piece). Read quote text p ps e) (sym (append_assoc qs (tail_read t ts) rs)) (read_step quote text p s e qs (tail_read t ts ++ rs) st l (rest.reads rs e x));
      column = rest.column;
    }

pub fold_through : (quote : ℕ) (text : List ℕ) (p : ℕ) (t : LineTurn) (ts : List LineTurn)
    → IsQuote quote → may_turn t ts ≡ true → Has text p (turn_bytes (t ∷ ts))
    → Through quote text p (turn_read (end_means t.end) t ts) (p + length (turn_bytes (t ∷ ts)))
unfolding turn_bytes
fold_through quote text p t ts q m h =
    let some = end_some t.end in
    let all : length (end_bytes t.end ++ after_end t ts) ≡ length (end_bytes t.end) + length (after_end t ts) = length-append (end_bytes t.end) (after_end t ts) in
    through_at quote text p (p + length (end_bytes t.end) + length (after_end t ts)) _ _ (omega (arith, all))
    (first_through quote text p (p + length (end_bytes t.end)) (Break (end_means t.end) ∷ []) t ts q m (end_standing quote text p t.end q (turn_at text p t ts m h)) (omega (arith, some))
    (has_rest text p (end_bytes t.end) (after_end t ts) h))

pub joint_through : (text : List ℕ) (p : ℕ) (t : LineTurn) (ts : List LineTurn)
    → 0 < column_at text p → may_turn t ts ≡ true → Has text p (92 ∷ turn_bytes (t ∷ ts))
    → Through 34 text p (Kept [] ∷ turn_read [] t ts) (p + length (92 ∷ turn_bytes (t ∷ ts)))
unfolding turn_bytes escape_at
joint_through text p t ts c m (e, h) =
    let some = end_some t.end in
    let at = turn_at text (p + 1) t ts m h in
    let all : length (end_bytes t.end ++ after_end t ts) ≡ length (end_bytes t.end) + length (after_end t ts) = length-append (end_bytes t.end) (after_end t ts) in
    let st = backslash text p c e ∙ (rw (at.width, (lt-ltb 0 (length (end_bytes t.end)) some)) refl) in
    through_at 34 text p (p + 1 + length (end_bytes t.end) + length (after_end t ts)) _ _ (omega (arith, all))
    (first_through 34 text p (p + 1 + length (end_bytes t.end)) (Kept [] ∷ Break [] ∷ []) t ts (inl refl) m st (omega (arith, some))
    (has_rest text (p + 1) (end_bytes t.end) (after_end t ts) h))
