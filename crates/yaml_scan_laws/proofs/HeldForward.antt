-- The earliest open candidate is the one outside of all brackets; what is held back is short.
use Rattle.std.proofs.Common.{◌≡◌, ℕ, ◌<◌, ◌≤◌, List, [], ◌∷◌, length, Some, refl, sym, ap, ◌∙◌, inl, inr, ◌⊎◌, arith, zero, suc, ◌+◌, Bool, true, false, if◌then◌else◌, ◌++◌, Option, None, subst, length-append}
use Rattle.yaml_scan_laws.proofs.Words.{nat_tests, Lexeme, reached, Candidate, candidate, fresh, first_open, candidate-more, candidate_below, fresh_is, first_open-is, first_open-least, eqb-true, yaml_mark_t, is_end, ended, is_fresh, Next, Read, next, extended, history, StandsIn}
use Rattle.yaml_scan_laws.proofs.HistoryForward.{Stands, history_stands, first_is, not_ended, reached_inside, takes_bytes, read_forward, stand_in}

outer_here : (l : Lexeme) (h : List Lexeme) (c : Candidate) → candidate 0 (l ∷ h) ≡ Some c
    → (l.depth ≡ 0) ⊎ (candidate 0 h ≡ Some c)
unfolding candidate
outer_here l h c e = grind (arith, nat_tests)

below_none : (d : ℕ) (l : Lexeme) (h : List Lexeme) (x : Candidate) → l.depth ≡ 0 → 0 < d
    → candidate d (l ∷ h) ≡ Some x → ⊥
unfolding candidate
below_none d l h x outer deep e = grind (arith, nat_tests)

none_first : (d : ℕ) (x : Candidate) → candidate d [] ≡ Some x → ⊥
unfolding candidate
none_first d x e = cc

-- the candidate outside all brackets is before that of any depth inside
pub outer_before : (d : ℕ) (h : List Lexeme) (c x : Candidate) → 0 < d → candidate 0 h ≡ Some c
    → candidate d h ≡ Some x → c.number < x.number
outer_before d [] c x deep e f = absurd (none_first d x f)
outer_before d (l ∷ h) c x deep e f =
    elim (outer_here l h c e) [
      | inl outer ↦ absurd (below_none d l h x outer deep f)
      | inr rest ↦ elim (candidate-more d l h x f) [
        | inl top ↦ let low = candidate_below 0 h c rest in omega (arith, low, top)
        | inr more ↦ outer_before d h c x deep rest more
      ]
    ]

outer_least : (h : List Lexeme) (c : Candidate) → fresh (candidate 0 h) (reached h) ≡ Some c
    → (first_open h h ≤ c.number) × (c.number < length h)
outer_least h c e =
    let low = candidate_below 0 h c (fresh_is (candidate 0 h) (reached h) c e) in
    (first_open-least h 0 c.number (c, e, refl) low, low)

-- An open candidate outside of brackets is the first open one.
pub outer_is_first : (h : List Lexeme) (c : Candidate) → fresh (candidate 0 h) (reached h) ≡ Some c
    → first_open h h ≡ c.number
outer_is_first h c e = grind (arith, nat_tests, outer_least, first_open-is, outer_before, fresh_is)

-- a lexeme is after a history
pub record IsBehind (text : List ℕ) (h : List Lexeme) (l : Lexeme) : Type 0 where
  pub behind : (reached h).index ≤ l.start.index
  pub lines : ((reached h).line ≤ l.start.line) × (l.start.line ≤ l.reached.line)
  pub open_end : ended h ≡ false
  pub stands : 0 < length h → StandsIn text l
  pub first : length h ≡ 0 → l.saved ≡ false

-- each lexeme is after the ones before it
abbrev pub Chain : List ℕ → List Lexeme → Type 0
Chain text [] = Unit {0}
Chain text (l ∷ h) = IsBehind text h l × Chain text h

open_before : (text : List ℕ) (h : List Lexeme) (l : Lexeme) → next text h ≡ Read l
    → ended h ≡ false
open_before text h l e = grind (arith, nat_tests, not_ended)

first_saved : (text : List ℕ) (h : List Lexeme) (l : Lexeme) → next text h ≡ Read l → length h ≡ 0
    → l.saved ≡ false
first_saved text [] l e none = rw (← first_is text l e) refl
first_saved text (x ∷ h) l e none = absurd (omega (arith, none))

read_behind : (text : List ℕ) (h : List Lexeme) (l : Lexeme) → Stands text h → next text h ≡ Read l
    → IsBehind text h l
read_behind text h l s e = record {
  behind = (read_forward text h l s e).0.0;
  lines = ((read_forward text h l s e).0.1, (read_forward text h l s e).1.1);
  open_end = open_before text h l e;
  stands = λ some. (stand_in text h l some s e).1;
  first = λ none. first_saved text h l e none;
}

extended_chain : (text : List ℕ) (h : List Lexeme) (x : Next) → Stands text h → Chain text h
    → next text h ≡ x → Chain text (extended x h)
extended_chain text h x s c e = grind (arith, nat_tests, read_behind)

pub history_chain : (text : List ℕ) (n : ℕ) → Chain text (history text n)
unfolding history
history_chain text zero = tt
history_chain text (suc n) = extended_chain text (history text n) (next text (history text n)) (history_stands text n) (history_chain text n) refl

-- a lexeme that was saved has bytes after its start, one for each lexeme from it on, the stream's end aside
record HasBytes (c : Lexeme) (count : ℕ) (h : List Lexeme) : Type 0 where
  pub all_but_one : c.start.index + count ≤ (reached h).index
  pub each : ended h ≡ false → c.start.index + suc count ≤ (reached h).index
  pub lines : c.start.line ≤ (reached h).line

own_bytes : (text : List ℕ) (l : Lexeme) → StandsIn text l
    → (l.start.index ≤ l.reached.index) × (is_end l.kind ≡ false → l.start.index < l.reached.index)
own_bytes text l t = ((reached_inside text l (is_end l.kind) t).1, λ n. let b = takes_bytes text l t n in omega (arith, b.some, b.order))

some_before : (text : List ℕ) (h : List Lexeme) (l : Lexeme) → IsBehind text h l → l.saved ≡ true
    → 0 < length h
some_before text h l b s = grind (arith, nat_tests)

has_bytes : (text : List ℕ) (newer : List Lexeme) (c : Lexeme) (older : List Lexeme)
    → Chain text (newer ++ c ∷ older) → c.saved ≡ true
    → HasBytes c (length newer) (newer ++ c ∷ older)
has_bytes text [] c older (b, rest) s = grind (arith, nat_tests, own_bytes, some_before)
has_bytes text (l ∷ newer) c older (b, rest) s = grind (arith, nat_tests, length-append, own_bytes, has_bytes text newer c older rest s)

-- where a candidate is in its history
record IsFound (d : ℕ) (h : List Lexeme) (c : Candidate) : Type 0 where
  pub depth : c.lexeme.depth ≡ d
  pub saved : c.lexeme.saved ≡ true
  pub newer : List Lexeme
  pub older : List Lexeme
  pub there : h ≡ newer ++ c.lexeme ∷ older
  pub number : c.number ≡ length older

found_further : (d : ℕ) (l : Lexeme) (h : List Lexeme) (c : Candidate) → IsFound d h c
    → IsFound d (l ∷ h) c
found_further d l h c f = record { depth = f.depth; saved = f.saved; newer = l ∷ f.newer; older = f.older; there = ap (λ h. l ∷ h) f.there; number = f.number }

found_here : (d : ℕ) (l : Lexeme) (h : List Lexeme) (c : Candidate) → l.depth ≡ d → l.saved ≡ true
    → Some (record { number = length h; lexeme = l }) ≡ Some c → IsFound d (l ∷ h) c
found_here d l h c y s e =
    let same : ◌≡◌ {A = Candidate} (record { number = length h; lexeme = l }) c = cc in
    subst (λ c. IsFound d (l ∷ h) c) same record { depth = y; saved = s; newer = []; older = h; there = refl; number = refl }

found_nowhere : (d : ℕ) (h : List Lexeme) (c : Candidate) → ◌≡◌ {A = Option Candidate} None (Some c)
    → IsFound d h c
found_nowhere d h c e = absurd cc

-- a look back by its tests: of that depth, saved, cancels, of a smaller depth
found_by_tests : (d : ℕ) (l : Lexeme) (h : List Lexeme) (c : Candidate) (rest : Option Candidate)
    (level saved stops below : Bool)
    → (level ≡ true → l.depth ≡ d) → (saved ≡ true → l.saved ≡ true)
    → (rest ≡ Some c → IsFound d h c)
    → (if level then (if saved then Some (record { number = length h; lexeme = l }) else if stops
    then None else rest) else if below then None else rest) ≡ Some c
    → IsFound d (l ∷ h) c
found_by_tests d l h c rest level saved stops below y s more e = grind (arith, nat_tests, found_here, found_nowhere, found_further)

candidate_found : (d : ℕ) (h : List Lexeme) (c : Candidate) → candidate d h ≡ Some c → IsFound d h c
unfolding candidate
candidate_found d [] c e = found_nowhere d [] c e
candidate_found d (l ∷ h) c e = grind (arith, nat_tests, found_by_tests, eqb-true, candidate_found d h c)

fresh_near : (o : Option Candidate) (m : yaml_mark_t) (c : Candidate) → fresh o m ≡ Some c
    → is_fresh c.lexeme.start m ≡ true
fresh_near o m c e = grind (arith, nat_tests)

near_by : (s m : yaml_mark_t) → is_fresh s m ≡ true → (m.line ≤ s.line) × (m.index ≤ s.index + 1024)
near_by s m h = (grind (arith, nat_tests), grind (arith, nat_tests))

-- a candidate that is open: as many lexemes from it on as bytes, and on the line that is reached
record IsHeld (h : List Lexeme) (c : Candidate) : Type 0 where
  pub few : length h ≤ c.number + 1025
  pub fewer : ended h ≡ false → length h ≤ c.number + 1024
  pub line : (reached h).line ≡ c.lexeme.start.line
  pub near : (reached h).index ≤ c.lexeme.start.index + 1024
  pub own : candidate c.lexeme.depth h ≡ Some c

held_is : (text : List ℕ) (h : List Lexeme) (d : ℕ) (c : Candidate) → Chain text h
    → candidate d h ≡ Some c → is_fresh c.lexeme.start (reached h) ≡ true → IsHeld h c
held_is text h d c chain e fresh =
    let f = candidate_found d h c e in
    let there = f.there in
    let (line, near) = near_by c.lexeme.start (reached h) fresh in
    let bytes = has_bytes text f.newer c.lexeme f.older (rw there at chain) f.saved in
    let IsAt : List Lexeme → Type 0 = λ x. HasBytes c.lexeme (length f.newer) x in
    let here = subst IsAt (sym there) bytes in
    let long : length h ≡ length (f.newer ++ c.lexeme ∷ f.older) = ap length there in
    record {
      few = omega (arith, here.all_but_one, near, f.number, long, length-append f.newer (c.lexeme ∷ f.older));
      fewer = λ n. let each = here.each n in omega (arith, each, near, f.number, long, length-append f.newer (c.lexeme ∷ f.older));
      line = omega (arith, line, here.lines);
      near = near;
      own = ap (λ d. candidate d h) f.depth ∙ e;
    }

first_held : (text : List ℕ) (h : List Lexeme) → Chain text h → first_open h h < length h
    → (c : Candidate) × (c.number ≡ first_open h h) × IsHeld h c
first_held text h chain below =
    let (d, (c, f, m)) = first_open-is h h below in
    (c, m, held_is text h d c chain (fresh_is (candidate d h) (reached h) c f) (fresh_near (candidate d h) (reached h) c f))

few_held : (text : List ℕ) (h : List Lexeme) → Chain text h → length h ≤ first_open h h + 1025
few_held text h chain = grind (arith, nat_tests, first_held)

-- at most 1,025 lexemes are held from the earliest open candidate on
pub few_are_held : (text : List ℕ) (n : ℕ)
    → length (history text n) ≤ first_open (history text n) (history text n) + 1025
few_are_held text n = few_held text (history text n) (history_chain text n)

-- the earliest open candidate is on the line that is reached, at most 1,024 bytes before
pub held_is_short : (text : List ℕ) (n : ℕ) → let h = history text n in first_open h h < length h
    → (c : Candidate)
    × (c.number ≡ first_open h h) × (candidate c.lexeme.depth h ≡ Some c)
    × ((reached h).line ≡ c.lexeme.start.line) × ((reached h).index ≤ c.lexeme.start.index + 1024)
held_is_short text n below = grind (arith, nat_tests, first_held, history_chain)

few_waiting : (text : List ℕ) (h : List Lexeme) → Chain text h → ended h ≡ false
    → length h ≤ first_open h h + 1024
few_waiting text h chain more = grind (arith, nat_tests, first_held)

-- at most 1,024 lexemes wait where one more is read
pub few_wait : (text : List ℕ) (n : ℕ) (l : Lexeme) → next text (history text n) ≡ Read l
    → length (history text n) ≤ first_open (history text n) (history text n) + 1024
few_wait text n l e = few_waiting text (history text n) (history_chain text n) (open_before text (history text n) l e)
