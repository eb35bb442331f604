-- Histories go forward, and end.
use Rattle.std.proofs.Common.{◌≡◌, ◌≢◌, ℕ, zero, suc, ◌+◌, ◌-◌, ◌<◌, ◌≤◌, Bool, false, List, [], ◌∷◌, ◌++◌, length, take, refl, sym, ap, subst, ◌∙◌, inl, inr, ◌⊎◌, arith, append_assoc}
use Rattle.yaml_scan_laws.proofs.Words.{nat_tests, yaml_mark_t, mark_at, line_at, Kind, Lexeme, is_end, reached, placed, finished_tokens, first_open, Next, Read, Fails, Ends, first_lexeme, next, extended, history, all, handed, stays, take-handed, TakesBytes, StandsIn, column_at}
use Rattle.yaml_scan_history.specs.Laws.{Upto, GoesForward}
use Rattle.yaml_scan_laws.specs.Standing.{Takes}
use Rattle.yaml_scan_laws.proofs.MarksForward.{line_at-grows}
use Rattle.yaml_scan_laws.proofs.NextForward.{Follows, ReadsBehind, next_reads}

-- the newest lexeme reaches a place of the text, and the ones before it are no more than the bytes before that place
pub record Reaches (text : List ℕ) (l : Lexeme) (h : List Lexeme) : Type 0 where
  pub inside : l.reached.index ≤ length text
  pub mark : is_end l.kind ≡ false → l.reached ≡ mark_at text l.reached.index
  pub few : is_end l.kind ≡ false → length h ≤ l.reached.index
  pub count : length h ≤ suc (length text)

abbrev pub Stands : List ℕ → List Lexeme → Type 0
Stands text [] = Unit {0}
Stands text (l ∷ h) = Reaches text l h

lexeme_of : Next → Lexeme
lexeme_of (Read l) = l
lexeme_of (Fails f) = first_lexeme
lexeme_of Ends = first_lexeme

-- what is read is one lexeme
pub reads_same : (a b : Lexeme) → Read a ≡ Read b → a ≡ b
unfolding lexeme_of
reads_same a b e = ap lexeme_of e

-- The first lexeme is STREAM-START.
pub first_is : (text : List ℕ) (l : Lexeme) → next text [] ≡ Read l → first_lexeme ≡ l
unfolding next
first_is text l e = reads_same first_lexeme l e

-- nothing is read after the end
pub not_ended : (text : List ℕ) (x : Lexeme) (h : List Lexeme) (l : Lexeme)
    → next text (x ∷ h) ≡ Read l → is_end x.kind ≡ false
unfolding next
not_ended text x h l e = grind arith

read_follows : (text : List ℕ) (x : Lexeme) (h : List Lexeme) (l : Lexeme)
    → x.reached.index ≤ length text → next text (x ∷ h) ≡ Read l → Follows text x.reached.index l
read_follows text x h l i e = subst (ReadsBehind text x.reached.index) e (next_reads text x h (not_ended text x h l e) i)

pub reached_inside : (text : List ℕ) (l : Lexeme) (ended : Bool) → Takes ended text l
    → (l.reached.index ≤ length text) × (l.start.index ≤ l.reached.index)
reached_inside text l ended t = grind (arith, nat_tests)

-- A lexeme but the end takes bytes.
pub takes_bytes : (text : List ℕ) (l : Lexeme) → StandsIn text l → is_end l.kind ≡ false
    → TakesBytes text l
takes_bytes text l t e = subst (λ b. Takes b text l) e t

first_stands : (text : List ℕ) → Reaches text first_lexeme []
first_stands text = record { inside = omega arith; mark = λ e. (unfold line_at column_at in refl); few = λ e. omega arith; count = omega arith }

read_stands : (text : List ℕ) (h : List Lexeme) (l : Lexeme) → Stands text h → next text h ≡ Read l
    → Reaches text l h
read_stands text [] l s e = rw (← first_is text l e) (first_stands text)
read_stands text (x ∷ h) l s e =
    let (f, t) = read_follows text x h l s.inside e in
    let (i, g) = reached_inside text l (is_end l.kind) t in
    let before = s.few (not_ended text x h l e) in
    record {
      inside = i;
      mark = λ n. (takes_bytes text l t n).reached;
      few = λ n. let b = takes_bytes text l t n in omega (arith, f, before, b.some, b.order);
      count = omega (arith, before, s.inside);
    }

extended_stands : (text : List ℕ) (h : List Lexeme) (x : Next) → Stands text h → next text h ≡ x
    → Stands text (extended x h)
extended_stands text h x s e = grind (arith, nat_tests, read_stands)

-- The lexemes of a history come one after another in the text.
pub history_stands : (text : List ℕ) (n : ℕ) → Stands text (history text n)
unfolding history
history_stands text zero = tt
history_stands text (suc n) = extended_stands text (history text n) (next text (history text n)) (history_stands text n) refl

moved_line : (k : Kind) (m : yaml_mark_t) → m.line ≤ (placed k m).line
moved_line k m = grind arith

placed_line : (text : List ℕ) (l : Lexeme) (ended : Bool) → Takes ended text l
    → line_at text l.start.index ≤ l.start.line
placed_line text l ended t = grind (arith, nat_tests, moved_line)

placed_reached : (text : List ℕ) (l : Lexeme) (ended : Bool) → Takes ended text l
    → Upto l.start l.reached
placed_reached text l ended t = grind (arith, line_at-grows)

pub read_forward : (text : List ℕ) (h : List Lexeme) (l : Lexeme) → Stands text h
    → next text h ≡ Read l → Upto (reached h) l.start × Upto l.start l.reached
read_forward text [] l s e = rw (← first_is text l e) ((omega arith, omega arith), (omega arith, omega arith))
read_forward text (x ∷ h) l s e =
    let (f, t) = read_follows text x h l s.inside e in
    let grown = line_at-grows text x.reached.index l.start.index f in
    let mark = ap (λ (m : yaml_mark_t). m.line) (s.mark (not_ended text x h l e)) in
    let start = placed_line text l (is_end l.kind) t in
    ((f, omega (arith, grown, mark, start)), placed_reached text l (is_end l.kind) t)

-- each lexeme is after the ones before it
pub goes_forward : (text : List ℕ) → GoesForward text
goes_forward text n l e = read_forward text (history text n) l (history_stands text n) e

-- The next lexeme is after those before it.
pub stand_in : (text : List ℕ) (h : List Lexeme) (l : Lexeme) → 0 < length h → Stands text h
    → next text h ≡ Read l → ((reached h).index ≤ l.start.index) × StandsIn text l
stand_in text [] l some s e = absurd (omega arith)
stand_in text (x ∷ h) l some s e = read_follows text x h l s.inside e

cases_Next : (x : Next) → ((l : Lexeme) × (x ≡ Read l)) ⊎ ((l : Lexeme) → x ≢ Read l)
cases_Next (Read l) = inl (l, refl)
cases_Next (Fails f) = inr (λ l e. let bad : Fails f ≡ Read l = e in cc)
cases_Next Ends = inr (λ l e. let bad : Ends ≡ Read l = e in cc)

-- a step that reads has as many lexemes before it as steps
pub reads_count : (text : List ℕ) (n : ℕ) (l : Lexeme) → next text (history text n) ≡ Read l
    → length (history text n) ≡ n
unfolding history
reads_count text zero l e = refl
reads_count text (suc n) l e =
    elim (cases_Next (next text (history text n))) [
      | inl (x, same) ↦ let before = reads_count text n x same in rw same (omega (arith, before))
      | inr never ↦
          let one : 1 + n ≡ suc n = omega arith in
          let still : history text (suc n) ≡ history text n = rw one at (stays text n 1 never) in
          absurd (never l (ap (next text) (sym still) ∙ e))
    ]

few_of : (text : List ℕ) (h : List Lexeme) → Stands text h → length h ≤ length text + 2
few_of text h s = grind (arith, nat_tests)

-- A text has at most two lexemes more than bytes.
pub are_few : (text : List ℕ) (n : ℕ) → length (history text n) ≤ length text + 2
are_few text n = few_of text (history text n) (history_stands text n)

room_of : (text : List ℕ) (h : List Lexeme) (l : Lexeme) → Stands text h → next text h ≡ Read l
    → length h ≤ length text + 1
room_of text h l s e = grind (arith, nat_tests, not_ended)

-- a step that reads is one of at most two more than the text has bytes
pub steps_below : (text : List ℕ) (n : ℕ) (l : Lexeme) → next text (history text n) ≡ Read l
    → n < length text + 2
steps_below text n l e = grind (arith, nat_tests, reads_count, room_of, history_stands)

-- After the whole history no lexeme is read.
pub all_ends : (text : List ℕ) (l : Lexeme) → next text (all text) ≢ Read l
unfolding all
all_ends text l e = let below = steps_below text (length text + 2) l e in absurd (omega (arith, below))

-- nothing comes after the last step
pub stays_upto : (text : List ℕ) (n m : ℕ) → ((l : Lexeme) → next text (history text n) ≢ Read l)
    → n ≤ m → history text m ≡ history text n
stays_upto text n m never le =
    let z : m - n + n ≡ m = omega arith in
    rw z at (stays text n (m - n) never)

-- A history of as many lexemes as characters, and two, is the whole.
pub stays_all : (text : List ℕ) (n : ℕ) → length text + 2 ≤ n → history text n ≡ all text
unfolding all
stays_all text n le = stays_upto text (length text + 2) n (all_ends text) le

cases_le : (a b : ℕ) → (a ≤ b) ⊎ (b ≤ a)
cases_le a b = grind arith

-- where nothing more is read, the lexemes are all
pub last_is_all : (text : List ℕ) (n : ℕ) → ((l : Lexeme) → next text (history text n) ≢ Read l)
    → all text ≡ history text n
unfolding all
last_is_all text n never =
    elim (cases_le n (length text + 2)) [
      | inl le ↦ stays_upto text n (length text + 2) never le
      | inr le ↦ sym (stays_all text n le)
    ]

-- what is settled stays so
pub settled_stays : (text : List ℕ) (n m : ℕ) → m ≤ first_open (history text n) (history text n)
    → take m (handed text) ≡ take m (finished_tokens (history text n))
unfolding all
settled_stays text n m low =
    elim (cases_le n (length text + 2)) [
      | inl le ↦ take-handed text (goes_forward text) n m le low
      | inr le ↦
          let same = stays_all text n le in
          let there : m ≤ first_open (all text) (all text) = rw same at low in
          rw same (take-handed text (goes_forward text) (length text + 2) m (omega arith) there)
    ]

extended_grows : (x : Next) (h : List Lexeme) → (newer : List Lexeme) × (extended x h ≡ newer ++ h)
extended_grows (Read l) h = (l ∷ [], refl)
extended_grows (Fails f) h = ([], refl)
extended_grows Ends h = ([], refl)

grows_by : (text : List ℕ) (n k : ℕ)
    → (newer : List Lexeme) × (history text (k + n) ≡ newer ++ history text n)
unfolding history
grows_by text n zero = let z : 0 + n ≡ n = omega arith in rw z ([], refl)
grows_by text n (suc k) =
    let (newer, before) = grows_by text n k in
    let (front, here) = extended_grows (next text (history text (k + n))) (history text (k + n)) in
    let z : suc k + n ≡ suc (k + n) = omega arith in
    rw z (front ++ newer, here ∙ ap (λ h. front ++ h) before ∙ sym (append_assoc front newer (history text n)))

-- A longer history has the shorter one after it.
pub history_grows : (text : List ℕ) (n m : ℕ) → n ≤ m
    → (newer : List Lexeme) × (history text m ≡ newer ++ history text n)
history_grows text n m le =
    let z : m - n + n ≡ m = omega arith in
    rw z at (grows_by text n (m - n))

pub lexemes_stand : (text : List ℕ) (n : ℕ) (l : Lexeme) → next text (history text (suc n)) ≡ Read l
    → ((reached (history text (suc n))).index ≤ l.start.index) × StandsIn text l
lexemes_stand text n l e =
    let count = reads_count text (suc n) l e in
    stand_in text (history text (suc n)) l (omega (arith, count)) (history_stands text (suc n)) e
