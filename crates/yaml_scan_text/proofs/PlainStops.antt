-- Plain scalars: where a line stops.
use Rattle.std.proofs.Common.{◌≡◌, ◌≢◌, ℕ, suc, ◌+◌, ◌-◌, ◌<◌, ◌≤◌, ◌==◌, ◌&&◌, ◌||◌, nat_lt, if◌then◌else◌, Bool, true, false, List, [], ◌∷◌, length, take, drop, slice_range, Ok, Err, refl, sym, ◌∙◌, inl, inr, append_assoc, arith}
use Rattle.yaml_scan_text.proofs.Words.{nat_tests, true≢false, blank_parts, cases_Bool, cases_lt, no_break, byte, break_width, column_at, is_blank, is_bracket, is_document_indicator, leads, after_white, spot_at, ends_at, spot_ends, Faulty, plain_at, value, blanks_of, bytes_at, bytes_more, slice_bytes, past_blanks, IsWord, IsPlainLine, one_line, coming, is_colon, is_bad_colon, bad_colon, stop_at, stops}
use Rattle.yaml_scan_text.specs.White.{IsTrimmed}
use Rattle.yaml_scan_text.specs.declared.plain.PlainLine.{PlainLine}
use Rattle.yaml_scan_text.proofs.LinesLemmas.{InRow, blank_ends_none, line_same, row_of, no_mark}
use Rattle.yaml_scan_text.proofs.WhiteLemmas.{has_break}
use Rattle.yaml_scan_text.proofs.PlainLemmas.{plain_coming, coming_end, coming_wrong, ends_none, AreBlanks, blanks_there, blanks_end, blanks_behind, IsPart, goes_seat, IsSeen, front_false, behind_part, blanks_done, Starts}

bad_parts : (flow : Bool) (text : List ℕ) (p : ℕ) → is_bad_colon flow text p ≡ true
    → (flow ≡ true) × (byte text p ≡ 58) × (32 < byte text (p + 1)) × (byte text (p + 1) < 127)
unfolding is_bracket
bad_parts flow text p h = (grind (arith, nat_tests), grind (arith, nat_tests), grind (arith, nat_tests), grind (arith, nat_tests))

no_colon : (text : List ℕ) (p : ℕ) → 32 < byte text (p + 1) → byte text (p + 1) < 127
    → is_colon text p ≡ false
no_colon text p low high =
    let none : break_width text (p + 1) ≡ 0 = no_break _ _ _ (omega arith) (omega arith) (omega arith) (omega arith) in
    parts (byte text p) (byte text (p + 1)) (break_width text (p + 1)) low none
  where
    parts : (a b w : ℕ) → 32 < b → w ≡ 0 → (a == 58 && ((is_blank b || b == 0) || nat_lt 0 w)) ≡ false
    parts a b w low none = grind (arith, nat_tests)

spot_wrong : (flow : Bool) (level : ℕ) (text : List ℕ) (p : ℕ) → InRow text p
    → break_width text p ≡ 0
    → is_blank (byte text p) ≡ false → is_bad_colon flow text p ≡ true
    → spot_at flow level text p ≡ Faulty (bad_colon p)
unfolding spot_at is_bracket
spot_wrong flow level text p row none blank bad =
    let (f, b, low, high) = bad_parts flow text p bad in
    let ends : ends_at flow level text p ≡ false = ends_none flow level text p (rw b refl) (no_mark text p row.column) (rw b refl) (no_colon text p low high) (rw (b, f) refl) row.calm in
    rw (none, blank, ends, bad) refl

ends_true : (flow : Bool) (level : ℕ) (text : List ℕ) (q p : ℕ) → after_white text p ≡ nat_lt q p
    → break_width text p ≡ 0
    → is_bad_colon flow text p ≡ false → (is_colon text p ≡ false → stops flow (nat_lt q p) text p ≡ true) → ends_at flow level text p ≡ true
unfolding ends_at
ends_true flow level text q p white none bad h = rw white (parts flow (byte text p == 0) (is_document_indicator text p) (byte text p == 35 && nat_lt q p) (is_colon text p) (is_bracket (byte text p)) (leads text p && nat_lt (column_at text p) level) (rw (none, bad) at h))
  where
    all : (flow z m k f d : Bool) → ((z || false) || (k || (false || (flow && f)))) ≡ true
        → ((z || m) || (k || (false || (if flow then f else d)))) ≡ true
    all flow z m k f d h = grind arith

    or_last : (z m k : Bool) → ((z || m) || (k || true)) ≡ true
    or_last z m k = grind arith

    parts : (flow z m k c f d : Bool) → (c ≡ false → ((z || false) || (k || (false || (flow && f)))) ≡ true)
        → ((z || m) || (k || (c || (if flow then f else d)))) ≡ true
    parts flow z m k true f d h = or_last z m k
    parts flow z m k false f d h = all flow z m k f d (h refl)

pub spot_stop : (flow : Bool) (level : ℕ) (text : List ℕ) (q p : ℕ) → InRow text p
    → after_white text p ≡ nat_lt q p
    → break_width text p ≡ 0 → is_blank (byte text p) ≡ false
    → (is_colon text p ≡ false → stops flow (nat_lt q p) text p ≡ true)
    → spot_at flow level text p ≡ stop_at flow text p
spot_stop flow level text q p row white none blank h = elim (cases_Bool (is_bad_colon flow text p)) [
  | inl bad ↦ rw bad (spot_wrong flow level text p row none blank bad)
  | inr fine ↦ rw fine (spot_ends flow level text p none blank (ends_true flow level text q p white none fine h))
]

-- where a line ends there is no blank
stop_dark : (flow : Bool) (text : List ℕ) (p : ℕ) (blank : Bool)
    → (is_colon text p ≡ false → stops flow blank text p ≡ true) → is_blank (byte text p) ≡ false
unfolding is_bracket
stop_dark flow text p blank h = elim (cases_Bool (is_blank (byte text p))) [
  | inl b ↦ absurd (parts flow (byte text p) (break_width text p) blank _ _ (blank_parts (byte text p) (byte text (p + 1)) (byte text (p + 2)) b).1 b h)
  | inr n ↦ n
]
  where
    parts : (flow : Bool) (b w : ℕ) (blank next bad : Bool) → w ≡ 0 → is_blank b ≡ true
        → ((b == 58 && next) ≡ false → ((b == 0 || nat_lt 0 w) || ((b == 35 && blank) || ((flow && (b == 58 && bad)) || (flow && is_bracket b)))) ≡ true) → ⊥
    parts flow b w blank next bad none is h = let c : (b == 58 && next) ≡ false = grind (arith, nat_tests) in let s = h c in grind (arith, nat_tests)

-- the part ends where the blanks do that are trimmed
trimmed_is : (flow : Bool) (text : List ℕ) (p q e : ℕ) (s : IsSeen flow text p q)
    → IsTrimmed text (p + 1) q e → e ≡ s.end
trimmed_is flow text p q e s t = elim (cases_lt e s.end) [
  | inl l ↦
      let after = t.after in
      let order = s.order in
      let dark = front_false (is_blank (byte text (s.end - 1))) _ (goes_seat flow text p s.end s.part).dark in
      absurd (true≢false (sym (t.blanks (s.end - 1) (omega arith) (omega arith)) ∙ dark))
  | inr l ↦ elim (cases_lt s.end e) [
    | inl m ↦
        let after = s.part.after in
        let before = t.before in
        absurd (true≢false (sym (s.blanks (e - 1) (omega arith) (omega arith)) ∙ t.last (omega arith)))
    | inr m ↦ omega arith
  ]
]

-- a line that is read
pub line_done : (flow : Bool) (text : List ℕ) (p r e : ℕ) (wide colon : Bool)
    → IsSeen flow text p r → IsWord text p → IsTrimmed text (p + 1) r e
    → Starts wide text p r → colon ≡ is_colon text r → (is_colon text r ≡ false → stops flow (is_blank (byte text (r - 1))) text r ≡ true)
    → IsPlainLine flow text p (record { end = e; next = r; wide = wide; colon = colon })
line_done flow text p r e wide colon s word trimmed narrow c h =
    rw (trimmed_is flow text p r e s trimmed) (line_at flow text p s.end r wide colon s.part (blanks_done flow text p r s (stop_dark flow text r (is_blank (byte text (r - 1))) h)) narrow c (rw (behind_part flow text p r s) at h))
  where
    line_at : (flow : Bool) (text : List ℕ) (p q r : ℕ) (wide colon : Bool) → IsPart flow text p q → r ≡ past_blanks text q → Starts wide text p r
        → colon ≡ is_colon text r → (is_colon text r ≡ false → stops flow (nat_lt q r) text r ≡ true)
        → IsPlainLine flow text p (record { end = q; next = r; wide = wide; colon = colon })
    line_at flow text p q r wide colon part at narrow c h =
        let line = goes_seat flow text p q part in
        let after = part.after in
        let bs : AreBlanks text q r = rw at (blanks_there text q (row_of text q line)) in
        let blank : is_blank (byte text r) ≡ false = rw at (blanks_end text q) in
        let row = bs.row in
        let behind = blanks_behind text q r line bs in
        let inside : q ≤ length text = line.inside in
        let d : q - p ≡ suc (q - (p + 1)) = omega arith in
        let e : p + (q - p) ≡ q = omega arith in
        let bytes : take (q - p) (drop p text) ≡ byte text p ∷ bytes_at text (p + 1) (q - (p + 1)) = slice_bytes text p (q - p) (rw e inside) ∙ rw (d, bytes_more text p (q - (p + 1))) refl in
        record {
          after = after;
          order = bs.after;
          inside = row.inside;
          seat = line;
          goes = λ level done. (part.part done).goes level ∙ rw (bytes, append_assoc) refl;
          next = at;
          colon = c;
          stop = λ none level. spot_stop flow level text q r row behind none blank h;
          wide = narrow;
          whole = row.whole;
          line = line_same text p r (omega (arith, bs.after)) (λ k a b. elim (cases_lt k q) [ inl l ↦ part.ends k a l | inr l ↦ blank_ends_none text k (bs.each k l b) ]);
        }

no_breaks : (bs : List ℕ) → has_break (blanks_of bs) ≡ false
no_breaks [] = refl
no_breaks (b ∷ bs) = no_breaks bs

-- what is coming at the end of a line that no break ends
pub line_last : (flow : Bool) (level : ℕ) (text done : List ℕ) (p : ℕ) (l : PlainLine)
    → IsPlainLine flow text p l
    → break_width text l.next ≡ 0
    → coming flow level text done l.end ≡ (if is_bad_colon flow text l.next then Err (bad_colon l.next)
    else Ok (record { value = done; end = l.end; place = l.next; broke = false }))
line_last flow level text done p l is none =
    let bs : AreBlanks text l.end l.next = rw is.next (blanks_there text l.end (row_of text l.end is.seat)) in
    let stop = is.stop none level in
    let ps = blanks_of (bytes_at text l.end (l.next - l.end)) in
    elim (cases_Bool (is_bad_colon flow text l.next)) [
      | inl b ↦ rw b (coming_wrong flow level text l.end l.next ps (bad_colon l.next) (bs.white level) done (rw b at stop))
      | inr f ↦ rw f (coming_end flow level text l.end l.next ps (bs.white level) done (rw f at stop) ∙ rw (no_breaks (bytes_at text l.end (l.next - l.end))) refl)
    ]

pub line_one : (flow : Bool) (text : List ℕ) (p : ℕ) (l : PlainLine) → p < length text
    → IsPlainLine flow text p l
    → break_width text l.next ≡ 0 → (level : ℕ) → plain_at flow level text p ≡ one_line flow text p l
line_one flow text p l inside is none level =
    plain_coming flow level text p inside ∙ is.goes level [] ∙ line_last flow level text (slice_range text p l.end) p l is none
