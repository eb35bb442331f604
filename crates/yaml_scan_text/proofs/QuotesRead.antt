-- Quoted scalars: what each piece comes to, and the whole scalar.
use Rattle.std.proofs.Common.{◌≡◌, ◌≢◌, ℕ, ◌+◌, ◌-◌, ◌<◌, ◌≤◌, ◌==◌, ◌&&◌, ◌⊎◌, not, if◌then◌else◌, Bool, true, false, List, [], ◌∷◌, ◌++◌, length, slice_range, Some, None, Result, Ok, Err, refl, sym, ap, subst, ◌∙◌, inl, inr, append_assoc, append-nil, arith}
use Rattle.std.specs.Prelude.{OnOk}
use Rattle.yaml_scan_text.proofs.Words.{nat_tests, true≢false, false≢true, cases_lt, eq-eqb, ne_eqb, lt-ltb, byte, break_width, feed_at, column_at, column_more, splits_break, starts, split_next, end_next, is_document_indicator, within, no_break, bytes_at, bytes_more, bytes_none, Piece, Kept, Break, text, value, gap-other, White, white_break, feeds, Wrong, wrong_of, IsMemory, IsHead, Keeps, line_start}
use Rattle.yaml_scan_model.specs.declared.problem.Problem.TheVariants as problems
use Rattle.yaml_scan_model.specs.declared.problem.Context.TheVariants as contexts
use Rattle.yaml_scan_history.specs.Quoted.{Bad, Closing, Pieces, QuotedSpot, coded, escape_at, hex_len, hex_value, quote_at, quoted_at, simple_escape, standing_at, valued}
use Rattle.yaml_scan_history.proofs.QuotedLemmas as standings
use Rattle.yaml_scan_history.proofs.QuotedLemmas.{pieces_on, quoted_whole}
use Rattle.yaml_scan_history.proofs.EscapeLemmas as escapes
use Rattle.yaml_scan_runs.specs.Runs.{RunsTo}
use Rattle.yaml_scan_runs.specs.Runs as runs
use Rattle.yaml_scan_text.specs.QuotedRead.{ArePlain, Goes, Codes, Escapes, InQuotes, IsClosed, IsQuote, IsRead, IsTaken, may_stop, PassesLines, ReadsPiece, ReadsQuoted, RefusedAs, RefusesSpot, closes, marked, raw_at, to_come}
use Rattle.yaml_scan_text.specs.declared.fold.Head.{Head}
use Rattle.yaml_scan_text.specs.declared.quoted.Quoted.{Quoted}
use Rattle.yaml_scan_text.specs.declared.quoted.QuotedScalar.{QuotedScalar}
use Rattle.yaml_scan_text.specs.declared.refusal.Refusal.{Refusal}
use Rattle.yaml_scan_text.specs.declared.refusal.Refusal.TheVariants as refusals
use Rattle.yaml_scan_text.specs.declared.refusal.Wrong.{Wrong as Told}
use Rattle.yaml_scan_text.proofs.LinesLemmas.{line_on, no_mark}
use Rattle.yaml_scan_text.proofs.WhiteLemmas.{breaks_of, fold_white, white_le}
use Rattle.yaml_scan_text.proofs.JoinLemmas.{feeds_white}
use Rattle.yaml_scan_text.proofs.PlainLemmas.{bytes_join}
use Rattle.yaml_scan_text.proofs.QuotesLemmas.{raw_kept, raw_end, valued_same, come_pieces, come_bad, come_closing, come_raw, standing_raw, seat_next, seat_plain, low_starts, narrow_plain, Runs, run_over, letter_plain, quote_bound, white_on, Solid, solid_same, solid_rest, slice_is, same_place, head_seat, head_narrow}

standing_marked : (quote : ℕ) (text : List ℕ) (p : ℕ) → is_document_indicator text p ≡ true
    → standing_at quote text p ≡ Bad (marked p)
unfolding standing_at
standing_marked quote text p h = rw h refl

pub fold_refused : (quote : ℕ) (text : List ℕ) (old new : List ℕ) (read : Quoted) (told : Told)
    → IsQuote quote → 0 < break_width text read.at
    → PassesLines text read.at (Err told) → ReadsPiece quote text old new read (Err (refusals.Wrong told))
fold_refused quote text old new read told is broke (h, head, mark, e) = λ done.
    let over = white_on quote text read.at h.at (Break (feed_at text read.at) ∷ head.pieces) is (white_break read.at h.at head.pieces broke head.white) (λ ps. done ++ value (raw_at text read.from (read.at - read.from) ++ ps)) in
    let bad = come_bad (λ ks. done ++ value (raw_at text read.from (read.at - read.from) ++ (Break (feed_at text read.at) ∷ head.pieces ++ ks))) quote text h.at (marked h.at) (standing_marked quote text h.at mark) in
    rw (over ∙ bad) e

-- ---- a character that is taken, and what is before it

kept_come : (quote : ℕ) (text done : List ℕ) (from p q : ℕ) (bytes : List ℕ) → from ≤ p
    → p ≤ length text → standing_at quote text p ≡ Pieces (Kept bytes ∷ []) q
    → to_come quote text done from p ≡ to_come quote text (done ++ (slice_range text from p ++ bytes)) q q
kept_come quote text done from p q bytes order inside spot =
    let more = slice_range text from p ++ bytes in
    come_pieces (λ ps. done ++ value (raw_at text from (p - from) ++ ps)) quote text p q (Kept bytes ∷ []) spot
    ∙ valued_same (λ ps. done ++ value (raw_at text from (p - from) ++ (Kept bytes ∷ ps))) (λ ps. (done ++ more) ++ value (raw_at text q (q - q) ++ ps))
    (λ ps. rw (same_place text q ps, raw_kept (p - from) text from bytes ps, slice_is text from p order inside) (rw append_assoc (rw append_assoc refl))) (pieces_on quote text q)

pub kept_goes : (quote : ℕ) (text old new : List ℕ) (read : Quoted) (q : ℕ) (bytes : List ℕ)
    → read.from ≤ read.at → InQuotes text read.line read.at
    → standing_at quote text read.at ≡ Pieces (Kept bytes ∷ []) q → ArePlain text read.at q → read.at < q
    → new ≡ old ++ (slice_range text read.from read.at ++ bytes)
    → Goes quote text old new read (record { from = q; at = q; line = read.line; wide = read.wide })
kept_goes quote text old new read q bytes order seat spot plain l e = record {
  more = slice_range text read.from read.at ++ bytes;
  is = e;
  goes = λ done. kept_come quote text done read.from read.at q bytes order seat.inside spot;
  further = l;
  order = omega arith;
  taken = inr (omega arith);
  seat = seat_plain text read.line read.at q seat plain;
  narrow = λ start n. narrow_plain text start read.line read.at q read.from q read.wide plain n;
}

doubled_parts : (quote a b : ℕ) → a ≡ quote → (a == quote && not (quote == 39 && b == 39)) ≡ false
    → (quote ≡ 39) × (b ≡ 39) × ((quote == 39 && b == 39) ≡ true)
doubled_parts quote a b e h = (grind (arith, nat_tests), grind (arith, nat_tests), grind (arith, nat_tests))

standing_doubled : (quote : ℕ) (text : List ℕ) (p : ℕ) → is_document_indicator text p ≡ false
    → byte text p ≢ 0 → byte text p ≡ quote
    → (quote == 39 && byte text (p + 1) == 39) ≡ true → standing_at quote text p ≡ Pieces (Kept (39 ∷ []) ∷ []) (p + 2)
unfolding quote_at
standing_doubled quote text p calm some e h = standings.standing_quote quote text p calm some e ∙ rw h refl

slice_more : (text : List ℕ) (p q : ℕ) → p ≤ q → q < length text
    → slice_range text p (q + 1) ≡ slice_range text p q ++ byte text q ∷ []
slice_more text p q l inside =
    let d : q + 1 - p ≡ (q - p) + 1 = omega arith in
    let at : p + (q - p) ≡ q = omega arith in
    rw (slice_is text p (q + 1) (omega arith) (omega arith), slice_is text p q l (omega arith), d, bytes_join text p (q - p) 1, at, bytes_more text q 0, bytes_none text (q + 1)) refl

two_plain : (text : List ℕ) (p : ℕ) → byte text p ≡ 39 → byte text (p + 1) ≡ 39
    → ArePlain text p (p + 2)
two_plain text p a b = record {
  forward = omega arith;
  each = λ k l m. elim (cases_lt p k) [
    | inl n ↦ let e : k ≡ p + 1 = omega arith in rw e (letter_plain text (p + 1) (omega arith) (omega arith))
    | inr n ↦ let e : k ≡ p = omega arith in rw e (letter_plain text p (omega arith) (omega arith))
  ];
}

pub doubled_goes : (quote : ℕ) (text old new : List ℕ) (read : Quoted) → read.from ≤ read.at
    → InQuotes text read.line read.at
    → IsQuote quote → byte text read.at ≡ quote → closes quote text read.at ≡ false → new ≡ old ++ slice_range text read.from (read.at + 1)
    → Goes quote text old new read (record { from = read.at + 2; at = read.at + 2; line = read.line; wide = read.wide })
doubled_goes quote text old new read order seat is e opened same =
    let (one, two, both) = doubled_parts quote (byte text read.at) (byte text (read.at + 1)) e opened in
    let first : byte text read.at ≡ 39 = e ∙ one in
    let inside = within text read.at (omega arith) in
    let last : byte text read.at ∷ [] ≡ 39 ∷ [] = rw first refl in
    kept_goes quote text old new read (read.at + 2) (39 ∷ []) order seat
    (standing_doubled quote text read.at seat.calm (λ z. absurd (omega arith)) e both) (two_plain text read.at first two) (omega arith)
    (same ∙ ap (λ (x : List ℕ). old ++ x) (slice_more text read.from read.at order inside ∙ ap (λ (x : List ℕ). slice_range text read.from read.at ++ x) last))

-- ---- other pieces

pub wide_goes : (quote : ℕ) (text old : List ℕ) (read : Quoted) → read.from ≤ read.at
    → InQuotes text read.line read.at
    → byte text read.at ≢ 0 → byte text read.at ≢ quote → break_width text read.at ≡ 0 → (quote == 34 && byte text read.at == 92) ≡ false
    → Goes quote text old old read (record { from = read.from; at = read.at + 1; line = read.line; wide = true })
wide_goes quote text old read order seat some other none slash = record {
  more = [];
  is = sym (append-nil old);
  goes = λ done. come_raw quote text done read.from read.at order (standing_raw quote text read.at seat.calm some other none slash) ∙ rw (append-nil done) refl;
  further = omega arith;
  order = omega arith;
  taken = inl (refl, refl);
  seat = seat_next text read.line read.at seat (omega arith) none;
  narrow = λ start n w. absurd (true≢false w);
}

standing_end : (quote : ℕ) (text : List ℕ) (p : ℕ) → is_document_indicator text p ≡ false
    → byte text p ≡ 0
    → standing_at quote text p ≡ Bad (record { problem = problems.EndOfStream; context = contexts.QuotedScalar; place = p })
unfolding standing_at
standing_end quote text p calm z = rw (calm, eq-eqb (byte text p) 0 z) refl

pub end_refused : (quote : ℕ) (text old new : List ℕ) (read : Quoted) (told : Told)
    → InQuotes text read.line read.at → byte text read.at ≡ 0
    → wrong_of told ≡ record { problem = problems.EndOfStream; context = contexts.QuotedScalar; place = read.at }
    → ReadsPiece quote text old new read (Err (refusals.Wrong told))
end_refused quote text old new read told seat z e = λ done.
    rw (come_bad (λ ps. done ++ value (raw_at text read.from (read.at - read.from) ++ ps)) quote text read.at _ (standing_end quote text read.at seat.calm z)) e

pub memory_refused : (e : Refusal) (x : Result (List ℕ × ℕ) Wrong) → IsMemory e → RefusedAs e x
memory_refused e (Ok x) h = h
memory_refused refusals.Memory (Err w) h = tt
memory_refused (refusals.Wrong told) (Err w) h = absurd h

-- ---- what a backslash begins

pub standing_escape : (text : List ℕ) (p : ℕ) → is_document_indicator text p ≡ false
    → byte text p ≡ 92 → standing_at 34 text p ≡ escape_at text p
unfolding standing_at
standing_escape text p calm e =
    let none : break_width text p ≡ 0 = no_break _ _ _ (omega arith) (omega arith) (omega arith) (omega arith) in
    rw (calm, none, e) refl

escape_break : (text : List ℕ) (p : ℕ) → 0 < break_width text (p + 1)
    → escape_at text p ≡ Pieces (Kept [] ∷ Break [] ∷ []) (p + 1 + break_width text (p + 1))
unfolding escape_at
escape_break text p h = rw (lt-ltb 0 (break_width text (p + 1)) h) refl

escape_unknown : (text : List ℕ) (p : ℕ) → break_width text (p + 1) ≡ 0
    → hex_len (byte text (p + 1)) ≡ 0 → simple_escape (byte text (p + 1)) ≡ None
    → escape_at text p ≡ Bad (record { problem = problems.UnknownEscape; context = contexts.QuotedScalarEscape; place = p })
unfolding escape_at
escape_unknown text p none nought unknown = rw (none, nought, unknown) refl

escape_simple : (text : List ℕ) (p : ℕ) (bytes : List ℕ) → break_width text (p + 1) ≡ 0
    → hex_len (byte text (p + 1)) ≡ 0 → simple_escape (byte text (p + 1)) ≡ Some bytes
    → escape_at text p ≡ Pieces (Kept bytes ∷ []) (p + 2)
unfolding escape_at
escape_simple text p bytes none nought known = rw (none, nought, known) refl

-- an escaped break
line_value : (text : List ℕ) (from p q r : ℕ) (ws ks : List Piece) → from ≤ p → p ≤ length text
    → White 0 text q r ws → Solid ks
    → value (raw_at text from (p - from) ++ (Kept [] ∷ Break [] ∷ ws ++ ks)) ≡ (slice_range text from p ++ feeds text q r) ++ value ks
line_value text from p q r ws ks l inside white solid =
    let (none, same) = solid_rest ks solid in
    let folds : value (Break [] ∷ ws ++ ks) ≡ breaks_of ws ++ value ks = fold_white 0 text q r [] [] ws white ks none same ∙ ap (λ (x : List ℕ). x ++ value ks) (gap-other [] (breaks_of ws) refl) in
    let feeds_are = feeds_white 0 text q r ws white in
    rw (raw_kept (p - from) text from [] (Break [] ∷ ws ++ ks), folds, slice_is text from p l inside, feeds_are) (sym (append_assoc (bytes_at text from (p - from)) (breaks_of ws) (value ks)))

pub line_goes : (text old mid new : List ℕ) (read : Quoted) (h : Head) → read.from ≤ read.at
    → InQuotes text read.line read.at → byte text read.at ≡ 92
    → 0 < break_width text (read.at + 1) → IsHead 0 text (read.at + 1) h → is_document_indicator text h.at ≡ false
    → mid ≡ old ++ slice_range text read.from read.at → new ≡ mid ++ feeds text (read.at + 1 + break_width text (read.at + 1)) h.at
    → Goes 34 text old new read (record { from = h.at; at = h.at; line = h.line; wide = read.wide })
line_goes text old mid new read h order seat slash broke head calm d e =
    let q = read.at + 1 + break_width text (read.at + 1) in
    let le = white_le 0 text q h.at head.pieces head.white in
    let more = slice_range text read.from read.at ++ feeds text q h.at in
    let spot = standing_escape text read.at seat.calm slash ∙ escape_break text read.at broke in
    record {
      more = more;
      is = e ∙ rw d (append_assoc old (slice_range text read.from read.at) (feeds text q h.at));
      goes = λ done. come_pieces (λ ps. done ++ value (raw_at text read.from (read.at - read.from) ++ ps)) 34 text read.at q (Kept [] ∷ Break [] ∷ []) spot
          ∙ white_on 34 text q h.at head.pieces (inl refl) head.white (λ ps. done ++ value (raw_at text read.from (read.at - read.from) ++ (Kept [] ∷ Break [] ∷ ps)))
          ∙ solid_same (λ ks. done ++ value (raw_at text read.from (read.at - read.from) ++ (Kept [] ∷ Break [] ∷ head.pieces ++ ks))) (λ ks. (done ++ more) ++ value (raw_at text h.at (h.at - h.at) ++ ks)) 34 text h.at
          (λ ks solid. rw (same_place text h.at ks) (ap (λ (x : List ℕ). done ++ x) (line_value text read.from read.at q h.at head.pieces ks order seat.inside head.white solid) ∙ sym (append_assoc done more (value ks)))) head.none head.blank;
      further = omega arith;
      order = omega arith;
      taken = inr (omega arith);
      seat = head_seat text h.line h.at head.head calm;
      narrow = λ start n. head_narrow text start h.line h.at read.wide head.head;
    }

pub line_refused : (text old new : List ℕ) (read : Quoted) (told : Told)
    → InQuotes text read.line read.at → byte text read.at ≡ 92
    → 0 < break_width text (read.at + 1) → PassesLines text (read.at + 1) (Err told) → ReadsPiece 34 text old new read (Err (refusals.Wrong told))
line_refused text old new read told seat slash broke (h, head, mark, e) = λ done.
    let q = read.at + 1 + break_width text (read.at + 1) in
    let spot = standing_escape text read.at seat.calm slash ∙ escape_break text read.at broke in
    let first = come_pieces (λ ps. done ++ value (raw_at text read.from (read.at - read.from) ++ ps)) 34 text read.at q (Kept [] ∷ Break [] ∷ []) spot in
    let over = white_on 34 text q h.at head.pieces (inl refl) head.white (λ ps. done ++ value (raw_at text read.from (read.at - read.from) ++ (Kept [] ∷ Break [] ∷ ps))) in
    let bad = come_bad (λ ks. done ++ value (raw_at text read.from (read.at - read.from) ++ (Kept [] ∷ Break [] ∷ head.pieces ++ ks))) 34 text h.at (marked h.at) (standing_marked 34 text h.at mark) in
    rw (first ∙ over ∙ bad) e

-- an escaped character
pub character_goes : (text old mid new : List ℕ) (read : Quoted) (q : ℕ) → read.from ≤ read.at
    → InQuotes text read.line read.at → byte text read.at ≡ 92
    → mid ≡ old ++ slice_range text read.from read.at → IsTaken text read.at mid new q (escape_at text read.at) → read.at < q
    → Goes 34 text old new read (record { from = q; at = q; line = read.line; wide = read.wide })
character_goes text old mid new read q order seat slash d took l =
    kept_goes 34 text old new read q took.bytes order seat (standing_escape text read.at seat.calm slash ∙ took.spot) took.plain l
    (took.is ∙ rw d (append_assoc old (slice_range text read.from read.at) took.bytes))

spot_refused : (f : List Piece → List ℕ) (quote : ℕ) (text : List ℕ) (p : ℕ) (e : Refusal)
    (s : QuotedSpot) → standing_at quote text p ≡ s → RefusesSpot e s
    → RefusedAs e (valued f (pieces_on quote text p))
spot_refused f quote text p e (Bad w) is h = rw (come_bad f quote text p w is) h
spot_refused f quote text p e Closing is h = memory_refused e (valued f (pieces_on quote text p)) h
spot_refused f quote text p e (Pieces qs q) is h = memory_refused e (valued f (pieces_on quote text p)) h

pub character_refused : (text old new : List ℕ) (read : Quoted) (e : Refusal)
    → InQuotes text read.line read.at → byte text read.at ≡ 92
    → RefusesSpot e (escape_at text read.at) → ReadsPiece 34 text old new read (Err e)
character_refused text old new read e seat slash h = λ done.
    spot_refused (λ ps. done ++ value (raw_at text read.from (read.at - read.from) ++ ps)) 34 text read.at e (escape_at text read.at) (standing_escape text read.at seat.calm slash) h

len_bounds : (b : ℕ) → 0 < hex_len b → (31 < b) × (b < 128)
unfolding hex_len
len_bounds b h = (grind (arith, nat_tests), grind (arith, nat_tests))

pub code_inside : (text : List ℕ) (p digits : ℕ) → digits ≡ hex_len (byte text (p + 1))
    → 0 < digits → p + 2 ≤ length text
code_inside text p digits e h =
    let (low, high) = len_bounds (byte text (p + 1)) (rw e at h) in
    let inside = within text (p + 1) (omega arith) in
    omega arith

plain_front : (text : List ℕ) (p q : ℕ) → byte text p ≡ 92 → 0 < byte text (p + 1)
    → byte text (p + 1) < 128 → break_width text (p + 1) ≡ 0
    → ArePlain text (p + 2) q → ArePlain text p q
plain_front text p q slash some low none plain = record {
  forward = omega (arith, plain.forward);
  each = λ k a b. elim (cases_lt k (p + 2)) [
    | inl m ↦ elim (cases_lt p k) [
      | inl n ↦ let e : k ≡ p + 1 = omega arith in rw e (some, low, none)
      | inr n ↦ let e : k ≡ p = omega arith in rw e (letter_plain text p (omega arith) (omega arith))
    ]
    | inr m ↦ plain.each k m b
  ];
}

pub code_escapes : (text old new : List ℕ) (p digits : ℕ) (r : Result ℕ Refusal) → byte text p ≡ 92
    → break_width text (p + 1) ≡ 0
    → digits ≡ hex_len (byte text (p + 1)) → 0 < digits
    → Codes text (p + 2) old new r (coded (p + 2) (p + 2 + digits) (hex_value text (p + 2) digits)) → Escapes text p old new r (escape_at text p)
code_escapes text old new p digits (Ok q) slash none e h took =
    let (low, high) = len_bounds (byte text (p + 1)) (rw e at h) in
    let forward = took.plain.forward in (
      record {
        bytes = took.bytes;
        spot = escapes.escape_code text p none (rw e at h) ∙ rw e at took.spot;
        is = took.is;
        plain = plain_front text p q slash (omega arith) high none took.plain;
      },
      omega arith,
    )
code_escapes text old new p digits (Err w) slash none e h refused = rw (escapes.escape_code text p none (rw e at h), ← e) refused

pub unknown_refused : (text : List ℕ) (p digits : ℕ) (told : Told) → break_width text (p + 1) ≡ 0
    → digits ≡ hex_len (byte text (p + 1)) → digits ≡ 0
    → None ≡ simple_escape (byte text (p + 1))
    → wrong_of told ≡ record { problem = problems.UnknownEscape; context = contexts.QuotedScalarEscape; place = p }
    → RefusesSpot (refusals.Wrong told) (escape_at text p)
unknown_refused text p digits told none e z unknown same = rw (escape_unknown text p none (sym e ∙ z) (sym unknown)) same

simple_bounds : (b : ℕ) (bytes : List ℕ) → simple_escape b ≡ Some bytes → (0 < b) × (b < 128)
unfolding simple_escape
simple_bounds b bytes h = (grind (arith, nat_tests), grind (arith, nat_tests))

pub simple_taken : (text old new : List ℕ) (p digits : ℕ) (bytes : List ℕ) → byte text p ≡ 92
    → break_width text (p + 1) ≡ 0
    → digits ≡ hex_len (byte text (p + 1)) → digits ≡ 0 → Some bytes ≡ simple_escape (byte text (p + 1)) → new ≡ old ++ bytes
    → IsTaken text p old new (p + 2) (escape_at text p)
simple_taken text old new p digits bytes slash none e z known is =
    let (some, low) = simple_bounds (byte text (p + 1)) bytes (sym known) in
    record {
      bytes = bytes;
      spot = escape_simple text p bytes none (sym e ∙ z) (sym known);
      is = is;
      plain = plain_front text p (p + 2) slash some low none (record { forward = omega arith; each = λ k a b. absurd (omega arith) });
    }

pub no_slash_first : (a b : ℕ) → a ≢ 34 → (a == 34 && b == 92) ≡ false
no_slash_first a b h = grind (arith, nat_tests)

pub no_slash_last : (a b : ℕ) → b ≢ 92 → (a == 34 && b == 92) ≡ false
no_slash_last a b h = grind (arith, nat_tests)

-- ---- the scalar, as far as it is read

quote_starts : (b : ℕ) → IsQuote b → starts b ≡ true
quote_starts b (inl e) = rw e refl
quote_starts b (inr e) = rw e refl

pub read_first : (text : List ℕ) (start line : ℕ) (old : List ℕ) → IsQuote (byte text start)
    → splits_break text start ≡ false → line ≡ line_start text start
    → IsRead (byte text start) text start old old (record { from = start + 1; at = start + 1; line = line; wide = false })
read_first text start line old is whole own =
    let (low, high) = quote_bound (byte text start) is in
    let inside = within text start (omega arith) in
    let none : break_width text start ≡ 0 = no_break _ _ _ (omega arith) (omega arith) (omega arith) (omega arith) in
    let ends = end_next text start whole none in
    let column = column_more text start ends (quote_starts (byte text start) is) in
    let some : 0 < column_at text (start + 1) = omega arith in
    record {
      done = [];
      is = sym (append-nil old);
      rest = quoted_whole (byte text start) text start inside ∙ valued_same value (λ ps. value (raw_at text (start + 1) (start + 1 - (start + 1)) ++ ps)) (λ ps. rw (same_place text (start + 1) ps) refl) (pieces_on (byte text start) text (start + 1));
      order = omega arith;
      taken = inl (refl, refl);
      seat = record {
        inside = omega arith;
        whole = split_next text start whole none;
        calm = no_mark text (start + 1) some;
        column = inl some;
        own = own ∙ sym (line_on text start ends);
      };
      narrow = λ w k a b l. let e : k ≡ start = omega arith in rw e (quote_starts (byte text start) is);
    }

-- after a run
pub read_run : (quote : ℕ) (text : List ℕ) (start : ℕ) (old new : List ℕ) (r : Quoted) (q : ℕ)
    (wide : Bool) → IsQuote quote → IsRead quote text start old new r
    → RunsTo (may_stop quote) text r.at (length text) q → (wide ≡ false → (r.wide ≡ false) × runs.IsNarrow text r.at q)
    → IsRead quote text start old new (record { from = r.from; at = q; line = r.line; wide = wide })
read_run quote text start old new r q wide is read run narrow =
    let forward = run.ordered in
    let at : r.at + (q - r.at) ≡ q = omega arith in
    let passed : Runs quote text r.from r.line r.at q = rw at at (run_over (q - r.at) quote text r.from r.line r.at is read.order read.seat (λ k a b. run.passed k a (rw at at b))) in
    let order = read.order in
    record {
      done = read.done;
      is = read.is;
      rest = read.rest ∙ passed.come read.done;
      order = omega arith;
      taken = read.taken;
      seat = passed.seat;
      narrow = λ w k a b l. elim (cases_lt k r.at) [
        | inl m ↦ read.narrow (narrow w).0 k a b m
        | inr m ↦ low_starts (byte text k) ((narrow w).1 k m l)
      ];
    }

pub read_behind : (quote : ℕ) (text : List ℕ) (start : ℕ) (old new : List ℕ) (r s : Quoted)
    → IsQuote quote → IsRead quote text start old new r
    → RunsTo (may_stop quote) text r.at (length text) s.at → (s.wide ≡ false → (r.wide ≡ false) × runs.IsNarrow text r.at s.at)
    → s ≡ record r { at = s.at; wide = s.wide } → IsRead quote text start old new s
read_behind quote text start old new r s is read run narrow same =
    subst (λ (x : Quoted). IsRead quote text start old new x) (sym same) (read_run quote text start old new r s.at s.wide is read run narrow)

taken_on : (start from next : ℕ) (done more : List ℕ) → ((from ≡ start + 1) × (done ≡ []))
    ⊎ (start + 1 < from)
    → ((next ≡ from) × (more ≡ [])) ⊎ (from < next) → ((next ≡ start + 1) × (done ++ more ≡ [])) ⊎ (start + 1 < next)
taken_on start from next done more (inl (a, b)) (inl (c, d)) = inl (c ∙ a, rw (b, d) refl)
taken_on start from next done more (inl (a, b)) (inr l) = inr (omega arith)
taken_on start from next done more (inr m) (inl (c, d)) = inr (omega arith)
taken_on start from next done more (inr m) (inr l) = inr (omega arith)

-- after what was taken
pub read_on : (quote : ℕ) (text : List ℕ) (start : ℕ) (old mid new : List ℕ) (r s : Quoted)
    → IsRead quote text start old mid r
    → Goes quote text mid new r s → IsRead quote text start old new s
read_on quote text start old mid new r s read goes = record {
  done = read.done ++ goes.more;
  is = goes.is ∙ rw read.is (append_assoc old read.done goes.more);
  rest = read.rest ∙ goes.goes read.done;
  order = goes.order;
  taken = taken_on start r.from s.from read.done goes.more read.taken goes.taken;
  seat = goes.seat;
  narrow = goes.narrow start read.narrow;
}

closing_parts : (quote a b : ℕ) → (a == quote && not (quote == 39 && b == 39)) ≡ true
    → (a ≡ quote) × ((quote == 39 && b == 39) ≡ false)
closing_parts quote a b h = (grind (arith, nat_tests), grind (arith, nat_tests))

standing_closing : (quote : ℕ) (text : List ℕ) (p : ℕ) → is_document_indicator text p ≡ false
    → byte text p ≢ 0 → byte text p ≡ quote
    → (quote == 39 && byte text (p + 1) == 39) ≡ false → standing_at quote text p ≡ Closing
unfolding quote_at
standing_closing quote text p calm some e h = standings.standing_quote quote text p calm some e ∙ rw h refl

closed_new : (text : List ℕ) (start from p : ℕ) (old mid new done : List ℕ)
    → ((from ≡ start + 1) × (done ≡ [])) ⊎ (start + 1 < from)
    → mid ≡ old ++ done → new ≡ (if from == start + 1 then mid else mid ++ slice_range text from p)
    → (not (from == start + 1) ≡ true → new ≡ old ++ (done ++ slice_range text from p))
    × (not (from == start + 1) ≡ false → (new ≡ old) × (slice_range text (start + 1) p ≡ done ++ slice_range text from p))
closed_new text start from p old mid new done (inl (a, b)) e n =
    let t : (from == start + 1) ≡ true = eq-eqb from (start + 1) a in
    (λ h. absurd (false≢true (rw t at h)), λ h. ((rw t at n) ∙ e ∙ rw b (append-nil old), rw (a, b) refl))
closed_new text start from p old mid new done (inr l) e n =
    let f : (from == start + 1) ≡ false = ne_eqb from (start + 1) (λ z. absurd (omega arith)) in
    (λ h. (rw f at n) ∙ rw e (append_assoc old done (slice_range text from p)), λ h. absurd (true≢false (rw f at h)))

taken_low : (start from : ℕ) (done : List ℕ) → ((from ≡ start + 1) × (done ≡ []))
    ⊎ (start + 1 < from) → start + 1 ≤ from
taken_low start from done (inl (a, b)) = omega (arith, a)
taken_low start from done (inr l) = omega (arith, l)

pub read_closed : (quote : ℕ) (text : List ℕ) (start : ℕ) (old mid new : List ℕ) (r : Quoted)
    (s : QuotedScalar) → IsQuote quote → IsRead quote text start old mid r
    → closes quote text r.at ≡ true → new ≡ (if r.from == start + 1 then mid else mid ++ slice_range text r.from r.at)
    → s ≡ record { end = r.at + 1; line = r.line; wide = r.wide; joined = not (r.from == start + 1) }
    → ReadsQuoted text start old new (Ok s) (quoted_at quote text start)
read_closed quote text start old mid new r s is read h n e =
    let (low, high) = quote_bound quote is in
    let (same, one) = closing_parts quote (byte text r.at) (byte text (r.at + 1)) h in
    let inside = within text r.at (omega arith) in
    let none : break_width text r.at ≡ 0 = no_break _ _ _ (omega arith) (omega arith) (omega arith) (omega arith) in
    let closing = standing_closing quote text r.at read.seat.calm (λ z. absurd (omega arith)) same one in
    let end = come_closing (λ ps. read.done ++ value (raw_at text r.from (r.at - r.from) ++ ps)) quote text r.at closing in
    let bytes : value (raw_at text r.from (r.at - r.from) ++ []) ≡ slice_range text r.from r.at = raw_end (r.at - r.from) text r.from ∙ sym (slice_is text r.from r.at read.order read.seat.inside) in
    let next = seat_next text r.line r.at read.seat (omega arith) none in
    let back : r.at + 1 - 1 ≡ r.at = omega arith in
    let (joined, stands) = closed_new text start r.from r.at old mid new read.done read.taken read.is n in
    rw (read.rest ∙ end, e, bytes) (record {
      joined = joined;
      stands = λ j. rw back (stands j);
      some = omega (arith, taken_low start r.from read.done read.taken, read.order);
      end = refl;
      inside = next.inside;
      whole = next.whole;
      line = next.own;
      wide = λ w k a b l. elim (cases_lt k r.at) [
        | inl m ↦ read.narrow w k a b m
        | inr m ↦ let at : k ≡ r.at = omega arith in rw (at, same) (quote_starts quote is)
      ];
    })

-- closed after the first run
pub read_once : (quote : ℕ) (text : List ℕ) (start : ℕ) (old : List ℕ) (q line : ℕ) (wide : Bool)
    → IsQuote quote
    → IsRead quote text start old old (record { from = start + 1; at = q; line = line; wide = wide }) → closes quote text q ≡ true
    → ReadsQuoted text start old old (Ok (record { end = q + 1; line = line; wide = wide; joined = false })) (quoted_at quote text start)
read_once quote text start old q line wide is read h =
    let same : (start + 1 == start + 1) ≡ true = eq-eqb (start + 1) (start + 1) refl in
    read_closed quote text start old old old (record { from = start + 1; at = q; line = line; wide = wide }) _ is read h (rw same refl) (rw same refl)

pub read_memory : (quote : ℕ) (text : List ℕ) (start : ℕ) (old new : List ℕ) (e : Refusal)
    → IsMemory e → ReadsQuoted text start old new (Err e) (quoted_at quote text start)
read_memory quote text start old new e h = quoted_memory text start old new e (quoted_at quote text start) h
  where
    quoted_memory : (text : List ℕ) (start : ℕ) (old new : List ℕ) (e : Refusal) (x : Result (List ℕ × ℕ) Wrong) → IsMemory e → ReadsQuoted text start old new (Err e) x
    quoted_memory text start old new e (Ok x) h = h
    quoted_memory text start old new refusals.Memory (Err w) h = tt
    quoted_memory text start old new (refusals.Wrong told) (Err w) h = absurd h

refused_as : (text : List ℕ) (start : ℕ) (old new : List ℕ) (e : Refusal)
    (x : Result (List ℕ × ℕ) Wrong) → RefusedAs e x → ReadsQuoted text start old new (Err e) x
refused_as text start old new e (Ok x) h = h
refused_as text start old new e (Err w) h = h

pub read_refused : (quote : ℕ) (text : List ℕ) (start : ℕ) (old mid new : List ℕ) (r : Quoted)
    (e : Refusal) → IsRead quote text start old mid r
    → ReadsPiece quote text mid new r (Err e) → ReadsQuoted text start old new (Err e) (quoted_at quote text start)
read_refused quote text start old mid new r e read h =
    rw read.rest (refused_as text start old new e (to_come quote text read.done r.from r.at) (h read.done))

pub read_keep : (quote : ℕ) (text : List ℕ) (start : ℕ) (old new : List ℕ) (r : Quoted)
    → IsRead quote text start old new r → Keeps old new
read_keep quote text start old new r read = record { rest = read.done; is = read.is }

pub read_end : (quote : ℕ) (text : List ℕ) (start : ℕ) (old mid new : List ℕ) (r : Quoted)
    (x : Result QuotedScalar Refusal) → IsQuote quote → IsRead quote text start old mid r
    → closes quote text r.at ≡ true
    → OnOk x (new ≡ (if r.from == start + 1 then mid else mid ++ slice_range text r.from r.at)) → IsClosed start r x
    → ReadsQuoted text start old new x (quoted_at quote text start)
read_end quote text start old mid new r (Ok s) is read h n e = read_closed quote text start old mid new r s is read h n e
read_end quote text start old mid new r (Err e) is read h n m = read_memory quote text start old new e m
