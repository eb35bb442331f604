-- The next lexeme is after the ones before it.
use Rattle.std.proofs.Common.{◌≡◌, ℕ, ◌≤◌, nat_lt, true, false, List, ◌∷◌, length, Option, Some, None, Result, Ok, Err, refl, sym, ap, subst, ◌∙◌, inl, inr, arith}
use Rattle.yaml_scan_laws.proofs.Words.{nat_tests, cases_Bool, yaml_mark_t, mark_at, Wrong, gap_place, Kind, Lexeme, is_end, placed, flow_depth, key_allowed, candidate, fresh, WordText, lexeme_at, Next, Read, Fails, Ends, begun, finished, allowed_behind, misplaced, missed, lost_by, next, StandsIn}
use Rattle.yaml_scan_history.specs.Between.{Gap, gap_at}
use Rattle.yaml_scan_history.specs.Stepwise.{tested, unless_wrong, unless_lost, of_kind, unless_missed}
use Rattle.yaml_scan_history.proofs.StepwiseLemmas.{stepwise}
use Rattle.yaml_scan_laws.proofs.WordForward.{Fits, FitsAny, kind_fits, LandsWord, IsWordFrom, word_lands}

-- a lexeme after a place
abbrev pub Follows : List ℕ → ℕ → Lexeme → Type 0
Follows text p l = (p ≤ l.start.index) × StandsIn text l

-- a lexeme after the place is read, or a fault comes
abbrev pub ReadsBehind : List ℕ → ℕ → Next → Type 0
ReadsBehind text p (Read l) = Follows text p l
ReadsBehind text p (Fails f) = Unit {0}
ReadsBehind text p Ends = ⊥

-- a lexeme's mark keeps the place
pub placed_index : (k : Kind) (m : yaml_mark_t) → (placed k m).index ≡ m.index
placed_index k m = grind arith

-- except for the end's, a lexeme's mark is its place's
pub placed_same : (k : Kind) (m : yaml_mark_t) → is_end k ≡ false → placed k m ≡ m
placed_same k m e = rw e refl

-- a lexeme that starts at a place, its end aside
record IsBegun (text : List ℕ) (q : ℕ) (l : Lexeme) : Type 0 where
  pub start : l.start ≡ placed l.kind (mark_at text q)
  pub end : l.end ≡ l.start
  pub reached : l.reached ≡ l.start

start_index : (text : List ℕ) (q : ℕ) (l : Lexeme) → IsBegun text q l → l.start.index ≡ q
start_index text q l b = ap (λ (m : yaml_mark_t). m.index) b.start ∙ placed_index l.kind (mark_at text q)

ended_follows : (text : List ℕ) (p q : ℕ) (l : Lexeme) → IsBegun text q l → p ≤ q → q ≤ length text
    → is_end l.kind ≡ true → Follows text p l
ended_follows text p q l b f i e = grind (arith, nat_tests, start_index)

-- a lexeme with what it carries and its end
abbrev pub with_end : List ℕ → Lexeme → WordText → Lexeme
with_end text l w = record l { end = mark_at text w.end; reached = mark_at text w.reached; broke = w.broke }

word_follows : (text : List ℕ) (p q : ℕ) (l : Lexeme) (w : WordText) → IsBegun text q l → p ≤ q
    → is_end l.kind ≡ false → IsWordFrom text q w → Follows text p (with_end text l w)
word_follows text p q l w b f e h = grind (arith, start_index, placed_same)

finished_follows : (text : List ℕ) (p q : ℕ) (l : Lexeme) (w : WordText) → IsBegun text q l → p ≤ q
    → q ≤ length text → (is_end l.kind ≡ false → IsWordFrom text q w)
    → Follows text p (finished text l w)
finished_follows text p q l w b f i h = grind (arith, ended_follows, word_follows)

tested_reads : (text : List ℕ) (p : ℕ) (l : Lexeme) (h : List Lexeme) → Follows text p l
    → ReadsBehind text p (tested l h)
tested_reads text p l h f = grind arith

wrong_reads : (text : List ℕ) (p q : ℕ) (r : Result WordText Wrong) (l : Lexeme) (h : List Lexeme)
    → IsBegun text q l → p ≤ q → q ≤ length text → (is_end l.kind ≡ false → LandsWord text q r)
    → ReadsBehind text p (unless_wrong r text l h)
wrong_reads text p q (Ok w) l h b f i lands = tested_reads text p (finished text l w) h (finished_follows text p q l w b f i lands)
wrong_reads text p q (Err w) l h b f i lands = tt

lost_reads : (o : Option yaml_mark_t) (text : List ℕ) (p q : ℕ) (l : Lexeme) (h : List Lexeme)
    → IsBegun text q l → p ≤ q → q ≤ length text → Fits l.kind text q
    → ReadsBehind text p (unless_lost o text q l h)
lost_reads (Some start) text p q l h b f i fits = tt
lost_reads None text p q l h b f i fits =
    wrong_reads text p q (lexeme_at l.kind (nat_lt 0 l.depth) l.level text q) l h b f i (λ e. word_lands l.kind (nat_lt 0 l.depth) l.level text q e fits)

kind_reads : (o : Option Kind) (text : List ℕ) (p : ℕ) (gap : Gap) (h : List Lexeme) → p ≤ gap.place
    → gap.place ≤ length text → FitsAny o text gap.place
    → ReadsBehind text p (of_kind o text gap h)
kind_reads None text p gap h f i fits = tt
kind_reads (Some k) text p gap h f i fits =
    let start = mark_at text gap.place in
    let l = begun k (placed k start) (allowed_behind h gap) h in
    elim (cases_Bool (misplaced k start (allowed_behind h gap) h)) [
      | inl e ↦ rw e tt
      | inr e ↦ rw e (lost_reads (lost_by l (fresh (candidate (flow_depth h) h) start)) text p gap.place l h record { start = refl; end = refl; reached = refl } f i fits)
    ]

missed_reads : (o : Option yaml_mark_t) (text : List ℕ) (p : ℕ) (gap : Gap) (h : List Lexeme)
    → p ≤ gap.place → gap.place ≤ length text → ReadsBehind text p (unless_missed o text gap h)
missed_reads o text p gap h f i = grind (arith, nat_tests, kind_reads, kind_fits)

-- after a lexeme that isn't the stream's end
pub next_reads : (text : List ℕ) (x : Lexeme) (h : List Lexeme) → is_end x.kind ≡ false
    → x.reached.index ≤ length text → ReadsBehind text x.reached.index (next text (x ∷ h))
unfolding next
next_reads text x h more i =
    let flow = nat_lt 0 (flow_depth (x ∷ h)) in
    let gap = gap_at flow (key_allowed (x ∷ h)) text x.reached.index in
    let from = gap_place flow (key_allowed (x ∷ h)) text x.reached.index i in
    rw more (subst (ReadsBehind text x.reached.index) (sym (stepwise text (x ∷ h))) (missed_reads (missed (fresh (candidate 0 (x ∷ h)) x.reached) (mark_at text gap.place)) text x.reached.index gap (x ∷ h) from.forward from.inside))
