-- Each tag of a text starts with `!`; the tokens that are handed out are well spelled.
use Rattle.std.proofs.Common.{ℕ, zero, suc, nat_lt, Bool, List, [], ◌∷◌, Option, Result, sym, subst, inl, inr, arith}
use Rattle.yaml_scan_laws.proofs.TextWords.{nat_tests, cases_Bool, mark_at, Wrong, gap_at, is_end, flow_depth, key_allowed, candidate, fresh, kind_at, WordText, Next, Read, Fails, Ends, finished, missed, next, extended, history, tested, unless_wrong, unless_lost, of_kind, unless_missed, stepwise, placed_index, Token, SpelledText, body_of_word, body_by, remaining, IsSpelled, AreSpelled}
use Rattle.yaml_scan_history.specs.scan_model.declared.record.yaml_mark_t.{yaml_mark_t}
use Rattle.yaml_scan_history.specs.Between.{Gap}
use Rattle.yaml_scan_history.specs.declared.Kind.{Kind}
use Rattle.yaml_scan_history.specs.declared.Kind.TheVariants as kinds
use Rattle.yaml_scan_history.specs.declared.Lexeme.{Lexeme}
use Rattle.yaml_scan_laws.proofs.NamesWords.{Marked, HasWord, word_spelled}
use Rattle.yaml_scan_laws.proofs.Throughout.{Carry, Say, remaining_says}
use Rattle.yaml_scan_laws.proofs.WordForward.{Tells, OfAny, kind_is}

-- Kinds.

abbrev MarkedAny : Option Kind → List ℕ → ℕ → Type 0
MarkedAny o text p = OfAny (λ k. Marked k text p) o

kind_marked : (flow : Bool) (text : List ℕ) (p : ℕ) → MarkedAny (kind_at flow text p) text p
kind_marked flow text p = kind_is (λ k. Marked k text p) flow text p (marked text p)
  where
    marked : (text : List ℕ) (p : ℕ) (k : Kind) → Tells text p k → Marked k text p
    marked text p kinds.Tag h = h
    marked text p _ h = tt

-- Lexemes.

-- a lexeme that is a tag starts with `!`
abbrev pub Starts : List ℕ → Lexeme → Type 0
Starts text l = Marked l.kind text l.start.index

abbrev StartsAny : List ℕ → Next → Type 0
StartsAny text (Read l) = Starts text l
StartsAny text (Fails f) = Unit {0}
StartsAny text Ends = Unit {0}

finished_starts : (text : List ℕ) (l : Lexeme) (w : WordText) → Starts text l
    → Starts text (finished text l w)
finished_starts text l w s = grind arith

tested_starts : (text : List ℕ) (l : Lexeme) (h : List Lexeme) → Starts text l
    → StartsAny text (tested l h)
tested_starts text l h s = grind arith

wrong_starts : (text : List ℕ) (r : Result WordText Wrong) (l : Lexeme) (h : List Lexeme)
    → Starts text l → StartsAny text (unless_wrong r text l h)
wrong_starts text r l h s = grind (arith, nat_tests, tested_starts, finished_starts)

lost_starts : (o : Option yaml_mark_t) (text : List ℕ) (p : ℕ) (l : Lexeme) (h : List Lexeme)
    → Starts text l → StartsAny text (unless_lost o text p l h)
lost_starts o text p l h s = grind (arith, nat_tests, wrong_starts)

kind_starts : (o : Option Kind) (text : List ℕ) (gap : Gap) (h : List Lexeme)
    → MarkedAny o text gap.place → StartsAny text (of_kind o text gap h)
kind_starts o text gap h m = grind (arith, nat_tests, placed_index, cases_Bool, lost_starts)

missed_starts : (o : Option yaml_mark_t) (text : List ℕ) (gap : Gap) (h : List Lexeme)
    → StartsAny text (unless_missed o text gap h)
missed_starts o text gap h = grind (arith, nat_tests, kind_starts, kind_marked)

next_starts : (text : List ℕ) (h : List Lexeme) → StartsAny text (next text h)
unfolding next
next_starts text [] = tt
next_starts text (l ∷ h) =
    let gap = gap_at (nat_lt 0 (flow_depth (l ∷ h))) (key_allowed (l ∷ h)) text l.reached.index in
    elim (cases_Bool (is_end l.kind)) [
      | inl e ↦ rw e tt
      | inr e ↦ rw e (subst (StartsAny text) (sym (stepwise text (l ∷ h))) (missed_starts (missed (fresh (candidate 0 (l ∷ h)) l.reached) (mark_at text gap.place)) text gap (l ∷ h)))
    ]

abbrev pub AllStart : List ℕ → List Lexeme → Type 0
AllStart text [] = Unit {0}
AllStart text (l ∷ h) = Starts text l × AllStart text h

extended_start : (text : List ℕ) (x : Next) (h : List Lexeme) → StartsAny text x → AllStart text h
    → AllStart text (extended x h)
extended_start text x h s all = grind (arith, nat_tests)

-- the lexemes of each step
pub history_starts : (text : List ℕ) (n : ℕ) → AllStart text (history text n)
unfolding history
history_starts text zero = tt
history_starts text (suc n) = extended_start text (next text (history text n)) (history text n) (next_starts text (history text n)) (history_starts text n)

word_body : (r : Result WordText Wrong) → HasWord r → IsSpelled (body_of_word r)
word_body r h = grind (arith, nat_tests)

body_spelled : (k : Kind) (s : SpelledText) (l : Lexeme) → Marked k s.text l.start.index
    → IsSpelled (body_by k s l)
body_spelled k s l m = grind (arith, nat_tests, word_body, word_spelled)

carried : (s : SpelledText) (h : List Lexeme) → AllStart s.text h → Carry IsSpelled s h
carried s [] a = tt
carried s (l ∷ h) (own, a) = (body_spelled l.kind s l own, carried s h a)

are_spelled : (ts : List Token) → Say IsSpelled ts → AreSpelled ts
are_spelled [] h = tt
are_spelled (t ∷ ts) (own, h) = (own, are_spelled ts h)

-- what is still to come
pub remaining_spelled : (s : SpelledText) (dropped given : ℕ)
    → AreSpelled (remaining s dropped given).tokens
remaining_spelled s dropped given =
    are_spelled _ (remaining_says IsSpelled s record { end = tt; sequence = tt; mapping = tt; key_mark = tt } (λ n. carried s (history s.text n) (history_starts s.text n)) dropped given)
