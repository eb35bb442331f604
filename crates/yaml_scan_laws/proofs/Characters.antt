-- In a text in UTF-8 characters begin after ASCII and breaks, and where lexemes do.
use Rattle.std.proofs.Common.{◌≡◌, ℕ, ◌+◌, ◌<◌, ◌≤◌, true, List, [], ◌∷◌, length, inl, inr, arith, IsUtf8}
use Rattle.yaml_scan_history.specs.History.{in_flow}
use Rattle.yaml_scan_history.specs.Next.{gap_behind}
use Rattle.yaml_scan_history.specs.scan_types.Marks.{starts}
use Rattle.yaml_scan_laws.proofs.Lexemes.{AllCarry, gap_whole, history_carry}
use Rattle.yaml_scan_laws.proofs.Whole.{Begins, IsWhole, whole_after, whole_behind}
use Rattle.yaml_scan_laws.proofs.TextWords.{IsCharBoundary-from_drop, Lexeme, SpelledText, break_width, byte, cases_lt, history, key_allowed, nat_tests, within}
use Rattle.yaml_scan_laws.specs.Utf8Laws.{CharactersBegin}

low_starts : (b : ℕ) → b < 128 → starts b ≡ true
low_starts b h = grind (arith, nat_tests)

high_starts : (b : ℕ) → 192 ≤ b → starts b ≡ true
high_starts b h = grind (arith, nat_tests)

-- where the text may be cut, a character begins, or the text has ended
pub whole_starts : (text : List ℕ) (p : ℕ) → IsWhole text p → starts (byte text p) ≡ true
whole_starts text p w =
    elim (cases_lt (byte text p) 128) [
      | inl low ↦ low_starts (byte text p) low
      | inr high ↦
          let here = within text p (omega (arith, high)) in
          let begins : Begins (byte text p) = (IsCharBoundary-from_drop text p (omega (arith, here)) w).1 here in
          high_starts (byte text p) (begins high)
    ]

gap_clear : (s : SpelledText) (h : List Lexeme) → IsUtf8 s.text → AllCarry s h
    → IsWhole s.text (gap_behind s.text h).place
gap_clear s [] t c = gap_whole (length s.text) (in_flow []) (key_allowed []) s.text 0 t t
gap_clear s (x ∷ h) t (c, cs) = gap_whole (length s.text) (in_flow (x ∷ h)) (key_allowed (x ∷ h)) s.text x.reached.index t c.place

-- In a text that is UTF-8 a character begins where a lexeme may.
pub characters_begin : (s : SpelledText) → IsUtf8 s.text → CharactersBegin s.text
characters_begin s t = record {
  front = whole_starts s.text 0 t;
  ascii = λ p low. whole_starts s.text (p + 1) (whole_after s.text p t low);
  breaks = λ p some. whole_starts s.text (p + break_width s.text p) (whole_behind s.text p t some);
  clear = λ n. whole_starts s.text (gap_behind s.text (history s.text n)).place (gap_clear s (history s.text n) t (history_carry s t n));
}
