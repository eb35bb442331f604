-- Each lexeme of a text in UTF-8 starts and is left where the text may be cut, and carries UTF-8.
use Rattle.std.proofs.Common.{◌≡◌, ℕ, zero, suc, ◌+◌, ◌==◌, ◌&&◌, ◌||◌, not, nat_lt, Bool, true, List, length, inl, inr, arith, IsUtf8, [], ◌∷◌, Option, Some, None, Result, Ok, Err, sym, subst}
use Rattle.yaml_scan_laws.proofs.TextWords.{cases_Bool, ltb-true, and_parts, nat_tests, byte, break_width, is_bom, step_at, is_skipped, gap_within, gap_at, comment_end, yaml_mark_t, mark_at, Wrong, Kind, Lexeme, is_end, placed, flow_depth, key_allowed, candidate, fresh, WordText, lexeme_at, Next, Read, Fails, Ends, begun, finished, allowed_behind, misplaced, missed, lost_by, next, extended, history, tested, unless_wrong, unless_lost, of_kind, unless_missed, stepwise, SpelledText, body_of_word, body_by, body_in, HasTexts, placed_index, with_end}
use Rattle.yaml_scan_history.proofs.BetweenLemmas.{bom_bytes}
use Rattle.yaml_scan_laws.proofs.Whole.{IsWhole, whole_after, whole_behind, whole_bom}
use Rattle.yaml_scan_laws.proofs.Block.{past_whole}
use Rattle.yaml_scan_history.specs.Between.{Gap}
use Rattle.yaml_scan_laws.proofs.Utf8Words.{Fits, FitsAny, kind_fits, HasWord, word_utf8}

-- the end of the comment there
comment_whole : (text : List ℕ) (p : ℕ) → IsUtf8 text → (byte text p == 35) ≡ true
    → IsWhole text (comment_end text p)
comment_whole text p t h = rw h (past_whole (length text) text p t (omega arith))

pub gap_whole : (n : ℕ) (flow allowed : Bool) (text : List ℕ) (p : ℕ) → IsUtf8 text → IsWhole text p
    → IsWhole text (gap_within n flow allowed text p).place
unfolding gap_within step_at
gap_whole zero flow allowed text p t w = w
gap_whole (suc n) flow allowed text p t w =
    elim (cases_Bool (p == 0 && is_bom text p)) [
      | inl h ↦
          let (a, b, c) = bom_bytes text p (and_parts (p == 0) (is_bom text p) h).1 in
          rw h (gap_whole n flow allowed text (p + 3) t (whole_bom text p t a b c))
      | inr h ↦ elim (cases_Bool (is_skipped (flow || not allowed) text p)) [
        | inl i ↦ rw (h, i) (gap_whole n flow allowed text (p + 1) t (whole_after text p t (grind (arith, nat_tests))))
        | inr i ↦ elim (cases_Bool (byte text p == 35)) [
          | inl j ↦ rw (h, i, j) (gap_whole n flow allowed text _ t (rw j at (comment_whole text p t j)))
          | inr j ↦ elim (cases_Bool (nat_lt 0 (break_width text p))) [
            | inl k ↦ rw (h, i, j, k) (gap_whole n flow (allowed || not flow) text (p + break_width text p) t (whole_behind text p t (ltb-true _ _ k)))
            | inr k ↦ rw (h, i, j, k) w
          ]
        ]
      ]
    ]

-- A lexeme carries UTF-8, except for what escapes spell, and is left where the text may be cut.
pub record Carries (s : SpelledText) (l : Lexeme) : Type 0 where
  pub texts : HasTexts (body_in s l)
  pub place : IsWhole s.text l.reached.index

abbrev CarriesAny : SpelledText → Next → Type 0
CarriesAny s (Read l) = Carries s l
CarriesAny s (Fails f) = Unit {0}
CarriesAny s Ends = Unit {0}

word_texts : (text : List ℕ) (r : Result WordText Wrong) → HasWord text r
    → HasTexts (body_of_word r)
word_texts text r h = grind (arith, nat_tests)

-- what a kind carries, where its word does
body_texts : (k : Kind) (s : SpelledText) (l : Lexeme)
    → HasWord s.text (lexeme_at k (nat_lt 0 l.depth) l.level s.text l.start.index)
    → HasTexts (body_by k s l)
body_texts k s l h = grind (arith, nat_tests, word_texts)

-- a lexeme that starts at a place, its end aside
record IsBegun (q : ℕ) (l : Lexeme) : Type 0 where
  pub start : l.start.index ≡ q
  pub reached : l.reached.index ≡ q

-- a lexeme's end changes nothing of what it carries
ended_texts : (k : Kind) (s : SpelledText) (l : Lexeme) (w : WordText) → HasTexts (body_by k s l)
    → HasTexts (body_by k s (with_end s.text l w))
ended_texts k s l w h = grind (arith, nat_tests)

finished_carries : (s : SpelledText) (q : ℕ) (l : Lexeme) (w : WordText) → IsBegun q l
    → IsWhole s.text q → HasTexts (body_in s l) → IsWhole s.text w.reached
    → Carries s (finished s.text l w)
finished_carries s q l w b here texts place = grind (arith, nat_tests, ended_texts)

tested_carries : (s : SpelledText) (l : Lexeme) (h : List Lexeme) → Carries s l
    → CarriesAny s (tested l h)
tested_carries s l h c = grind (arith, nat_tests)

wrong_carries : (s : SpelledText) (q : ℕ) (r : Result WordText Wrong) (l : Lexeme) (h : List Lexeme)
    → IsBegun q l → IsWhole s.text q → HasTexts (body_in s l) → HasWord s.text r
    → CarriesAny s (unless_wrong r s.text l h)
wrong_carries s q (Ok w) l h b here texts word = tested_carries s (finished s.text l w) h (finished_carries s q l w b here texts word.place)
wrong_carries s q (Err w) l h b here texts word = tt

lost_carries : (o : Option yaml_mark_t) (s : SpelledText) (q : ℕ) (l : Lexeme) (h : List Lexeme)
    → IsUtf8 s.text → IsBegun q l → IsWhole s.text q → Fits l.kind s.text q
    → CarriesAny s (unless_lost o s.text q l h)
lost_carries (Some start) s q l h t b here fits = tt
lost_carries None s q l h t b here fits =
    let flow = nat_lt 0 l.depth in
    let word = word_utf8 l.kind flow l.level s.text q t here fits in
    let there : HasWord s.text (lexeme_at l.kind flow l.level s.text l.start.index) = subst (λ p. HasWord s.text (lexeme_at l.kind flow l.level s.text p)) (sym b.start) word in
    wrong_carries s q (lexeme_at l.kind flow l.level s.text q) l h b here (body_texts l.kind s l there) word

kind_carries : (o : Option Kind) (s : SpelledText) (gap : Gap) (h : List Lexeme) → IsUtf8 s.text
    → IsWhole s.text gap.place → FitsAny o s.text gap.place → CarriesAny s (of_kind o s.text gap h)
kind_carries None s gap h t here fits = tt
kind_carries (Some k) s gap h t here fits =
    let start = mark_at s.text gap.place in
    let l = begun k (placed k start) (allowed_behind h gap) h in
    let same = placed_index k start in
    elim (cases_Bool (misplaced k start (allowed_behind h gap) h)) [
      | inl e ↦ rw e tt
      | inr e ↦ rw e (lost_carries (lost_by l (fresh (candidate (flow_depth h) h) start)) s gap.place l h t record { start = same; reached = same } here fits)
    ]

missed_carries : (o : Option yaml_mark_t) (s : SpelledText) (gap : Gap) (h : List Lexeme)
    → IsUtf8 s.text → IsWhole s.text gap.place → CarriesAny s (unless_missed o s.text gap h)
missed_carries o s gap h t here = grind (arith, nat_tests, kind_carries, kind_fits)

abbrev pub AllCarry : SpelledText → List Lexeme → Type 0
AllCarry s [] = Unit {0}
AllCarry s (l ∷ h) = Carries s l × AllCarry s h

next_carries : (s : SpelledText) (h : List Lexeme) → IsUtf8 s.text → AllCarry s h
    → CarriesAny s (next s.text h)
unfolding next
next_carries s [] t c = record { texts = tt; place = t }
next_carries s (x ∷ h) t (c, cs) =
    let flow = nat_lt 0 (flow_depth (x ∷ h)) in
    let gap = gap_at flow (key_allowed (x ∷ h)) s.text x.reached.index in
    elim (cases_Bool (is_end x.kind)) [
      | inl e ↦ rw e tt
      | inr e ↦ rw e (subst (CarriesAny s) (sym (stepwise s.text (x ∷ h))) (missed_carries (missed (fresh (candidate 0 (x ∷ h)) x.reached) (mark_at s.text gap.place)) s gap (x ∷ h) t
          (gap_whole (length s.text) flow (key_allowed (x ∷ h)) s.text x.reached.index t c.place)))
    ]

extended_carry : (s : SpelledText) (x : Next) (h : List Lexeme) → CarriesAny s x → AllCarry s h
    → AllCarry s (extended x h)
extended_carry s x h c cs = grind (arith, nat_tests)

-- the lexemes of each step
pub history_carry : (s : SpelledText) → IsUtf8 s.text → (n : ℕ) → AllCarry s (history s.text n)
unfolding history
history_carry s t zero = tt
history_carry s t (suc n) =
    let before = history_carry s t n in
    extended_carry s (next s.text (history s.text n)) (history s.text n) (next_carries s (history s.text n) t before) before
