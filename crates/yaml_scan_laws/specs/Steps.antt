-- What is known after lexemes at a place in the text, and one lexeme more: the form that a walk
-- over a layout takes.
use Rattle.std.specs.Prelude.{◌≡◌, ◌≤◌, ◌+◌, ◌==◌, ℕ, Bool, true, false, not, ◌&&◌, ◌||◌, nat_lt, List, [], ◌∷◌, ◌++◌, length, Some, Ok}
use Rattle.yaml_scan_history.specs.scan_types.Marks.{line_at, column_at, mark_at}
use Rattle.yaml_scan_history.specs.Written.{HasAt, are_gap, has_break}
use Rattle.yaml_scan_history.specs.declared.kind.Kind.{Kind}
use Rattle.yaml_scan_history.specs.declared.kind.Kind.TheVariants as kinds
use Rattle.yaml_scan_history.specs.declared.lexeme.Lexeme.{Lexeme}
use Rattle.yaml_scan_history.specs.declared.lexeme.Entry.{Entry}
use Rattle.yaml_scan_history.specs.declared.lexeme.Opens.TheVariants as opening
use Rattle.yaml_scan_history.specs.Kinds.{depth_after, may_be_key, allows_key, is_start, is_outside, is_end}
use Rattle.yaml_scan_history.specs.History.{flow_depth, reached, key_allowed, Candidate, is_fresh, margin_at, indent, opened, start_of, level_of, as_key}
use Rattle.yaml_scan_history.specs.Words.{WordText, kind_at, lexeme_at}
use Rattle.yaml_scan_history.specs.Next.{first_lexeme}
use Rattle.yaml_scan_laws.specs.TextFronts.{Front, Idle, Holds, LeavesLevels, Says, entry, read_at}
use Rattle.yaml_scan_laws.specs.Pushes.{IsRight, IsLone, stays_level}
use Rattle.yaml_scan_laws.specs.Keys.{IsInKey}
use Rattle.yaml_scan_laws.specs.White.{IsGap, White}
use Rattle.yaml_scan_laws.specs.Slots.{Started}

-- Lexemes up to a place, from which on white is to come; whether a key may begin after it; and the
-- line up to which candidates start.
pub record Stands (text : List ℕ) (p n : ℕ) (h : List Lexeme) (d : ℕ) (ms : List ℕ)
    (es : List Entry) (now broken : Bool) : Type 0 where
  pub front : Front text h d ms es
  pub white : White text h p now broken
  pub started : Started h n
  pub line : n ≤ line_at text p

-- A word of that kind is after the white from p on, and reaches to e or further with white.
pub record Comes (text : List ℕ) (p d level : ℕ) (k : Kind) (gap : List ℕ) (w : WordText)
    (e : ℕ) : Type 0 where
  pub behind : IsGap text p gap
  pub kind : kind_at (nat_lt 0 d) text (p + length gap) ≡ Some k
  pub word : lexeme_at k (nat_lt 0 d) level text (p + length gap) ≡ Ok w
  pub up : p + length gap ≤ e

-- After a word, which allows a key or not, white is to come from e on.
abbrev pub WordLeaves : List ℕ → ℕ → Bool → WordText → ℕ → Bool → Bool → Type 0
WordLeaves text d allows w e now broken = (h : List Lexeme) → (reached h).index ≡ w.reached
    → key_allowed h ≡ (allows || w.broke) → flow_depth h ≡ d → White text h e now broken

-- Most words leave the white; plain scalars take all of it; block scalars take some; directives
-- take all, and the break lets no key begin.
pub record WordsLeave : Type 0 where
  pub all : (text : List ℕ) (d : ℕ) (allows : Bool) (w : WordText) → w.broke ≡ false
      → WordLeaves text d allows w w.reached allows (not (nat_lt 0 d))
  pub none : (text : List ℕ) (d : ℕ) (w : WordText) (e : ℕ) (white : List ℕ) → IsGap text e white
      → w.reached ≡ e + length white → w.broke ≡ has_break white
      → WordLeaves text d false w e false true
  pub some : (text : List ℕ) (d : ℕ) (w : WordText) (e : ℕ) (white : List ℕ) (broken : Bool)
      → HasAt text e white → are_gap white ≡ true → w.reached ≡ e + length white
      → WordLeaves text d true w e true broken
  pub over : (text : List ℕ) (d : ℕ) (allows : Bool) (w : WordText) (e : ℕ) (white : List ℕ)
      → IsGap text e white
      → w.reached ≡ e + length white → w.broke ≡ false → WordLeaves text d allows w e allows false

-- one lexeme more
pub record SteppedInWalk (text : List ℕ) (e n : ℕ) (h : List Lexeme) (l : Lexeme) (w : WordText)
    (d : ℕ) (ms : List ℕ) (es : List Entry) (now broken : Bool) : Type 0 where
  pub stands : Stands text e n (l ∷ h) d ms es now broken
  pub body : Says text l w

-- a key may begin after that white
abbrev pub may_begin : Bool → Bool → List ℕ → Bool
may_begin now broken gap = now || (has_break gap && broken)

-- The stream's start is before all.
abbrev pub StartSteps : Type 0
StartSteps = (text : List ℕ)
    → Stands text 0 0 (first_lexeme ∷ []) 0 [] (entry first_lexeme 0 opening.Nothing ∷ []) true true
    × Idle (first_lexeme ∷ [])

-- White is passed.
abbrev pub WhiteSteps : Type 0
WhiteSteps = (text : List ℕ) (p i : ℕ) (h : List Lexeme) (d : ℕ) (ms : List ℕ) (es : List Entry)
    (now broken : Bool)
    (white : List ℕ) → Stands text p i h d ms es now broken → HasAt text p white
    → are_gap white ≡ true
    → Stands text (p + length white) i h d ms es (now || (has_break white && broken)) broken

abbrev pub WordSteps : Type 0
WordSteps = (text : List ℕ) (p i : ℕ) (h : List Lexeme) (d : ℕ) (ms : List ℕ) (es : List Entry)
    (now broken : Bool)
    (k : Kind) (gap : List ℕ) (w : WordText) (e : ℕ) (then wide : Bool)
    → Stands text p i h d ms es now broken → Idle h
    → Comes text p d (indent ms) k gap w e → stays_level k d ≡ true → let q = p + length gap in
    IsRight d ms (column_at text q) → IsLone text h d k q
    → WordLeaves text (depth_after k d) (allows_key k (d == 0) false) w e then wide
    → let l = read_at text h k q (may_begin now broken gap) w in
    SteppedInWalk text e (line_at text q) h l w (depth_after k d) ms (es ++ entry l 0
    opening.Nothing
    ∷ []) then wide
    × Idle (l ∷ h)

abbrev pub MarkSteps : Type 0
MarkSteps = (text : List ℕ) (p i : ℕ) (h : List Lexeme) (ms ls : List ℕ) (n : ℕ)
    (es : List Entry) (now broken : Bool)
    (k : Kind) (gap : List ℕ) (w : WordText) (e : ℕ) (then wide : Bool)
    → Stands text p i h 0 ms es now broken → Idle h
    → Comes text p 0 (indent ls) k gap w e → is_start k ≡ true → let q = p + length gap in
    may_begin now broken gap ≡ true → LeavesLevels 0 (column_at text q) ms ls n
    → IsLone text h 0 k q
    → WordLeaves text 0 (allows_key k true false) w e then wide
    → let l = read_at text h k q true w in let m = margin_at (column_at text q) in
    SteppedInWalk text e (line_at text q) h l w 0 (opened true m ls)
    (es ++ entry l n (start_of 0 m ls (level_of k)) ∷ []) then wide
    × Idle (l ∷ h)

abbrev pub OuterSteps : Type 0
OuterSteps = (text : List ℕ) (p i : ℕ) (h : List Lexeme) (ms : List ℕ) (es : List Entry)
    (now broken : Bool)
    (k : Kind) (gap : List ℕ) (w : WordText) (e : ℕ) (then wide : Bool)
    → Stands text p i h 0 ms es now broken → Idle h
    → Comes text p 0 0 k gap w e → (is_outside k && not (is_end k)) ≡ true
    → let q = p + length gap in
    WordLeaves text 0 (allows_key k true false) w e then wide
    → let l = read_at text h k q (may_begin now broken gap) w in
    SteppedInWalk text e (line_at text q) h l w 0 [] (es ++ entry l (length ms) opening.Nothing
    ∷ []) then wide
    × Idle (l ∷ h)

-- The first word of a key.
abbrev pub KeyStarts : Type 0
KeyStarts = (text : List ℕ) (p i : ℕ) (h : List Lexeme) (d : ℕ) (ms ls : List ℕ) (n : ℕ)
    (es : List Entry)
    (now broken : Bool) (k : Kind) (gap : List ℕ) (w : WordText) (e : ℕ) (then wide : Bool)
    → Stands text p i h d ms es now broken → Idle h
    → Comes text p d (indent ls) k gap w e → may_be_key k ≡ true → let q = p + length gap in
    may_begin now broken gap ≡ true → LeavesLevels d (column_at text q) ms ls n
    → is_fresh (mark_at text q) (mark_at text w.reached) ≡ true
    → WordLeaves text (depth_after k d) (allows_key k (d == 0) false) w e then wide
    → let l = read_at text h k q true w in
    SteppedInWalk text e (line_at text q) h l w (depth_after k d) ls (es ++ entry l n
    opening.Nothing
    ∷ []) then wide
    × Holds (l ∷ h) d record { number = length es; lexeme = l }

-- A further word of a key.
abbrev pub KeySteps : Type 0
KeySteps = (text : List ℕ) (p i : ℕ) (h : List Lexeme) (d f : ℕ) (c : Candidate) (ms : List ℕ)
    (es : List Entry)
    (now broken : Bool) (k : Kind) (gap : List ℕ) (w : WordText) (e : ℕ) (then wide : Bool)
    → Stands text p i h f ms es now broken → Holds h d c
    → Comes text p f (indent ms) k gap w e → stays_level k f ≡ true → let q = p + length gap in
    IsRight f ms (column_at text q) → IsLone text h f k q → IsInKey k d f (may_begin now broken gap)
    → is_fresh c.lexeme.start (mark_at text q) ≡ true
    → is_fresh c.lexeme.start (mark_at text w.reached) ≡ true
    → WordLeaves text (depth_after k f) (allows_key k (f == 0) false) w e then wide
    → let l = read_at text h k q (may_begin now broken gap) w in
    SteppedInWalk text e (line_at text q) h l w (depth_after k f) ms (es ++ entry l 0
    opening.Nothing
    ∷ []) then wide
    × Holds (l ∷ h) d c

-- The `:` of a key; no key may begin after it on its line.
abbrev pub KeyStops : Type 0
KeyStops = (text : List ℕ) (p i : ℕ) (h : List Lexeme) (d : ℕ) (ms : List ℕ) (done : List Entry)
    (first : Entry)
    (rest : List Entry) (now broken : Bool) (gap : List ℕ) (w : WordText) (e : ℕ) (then wide : Bool)
    → Stands text p i h d ms (done ++ first ∷ rest) now broken
    → Holds h d record { number = length done; lexeme = first.lexeme }
    → Comes text p d (indent ms) kinds.ValueMark gap w e → let q = p + length gap in
    IsRight d ms (column_at text q)
    → is_fresh first.lexeme.start (mark_at text q) ≡ true
    → WordLeaves text d false w e then wide
    → let l = read_at text h kinds.ValueMark q (may_begin now broken gap) w in
    let m = margin_at first.lexeme.start.column in
    SteppedInWalk text e (line_at text q) h l w d (opened (not (nat_lt 0 d)) m ms)
    ((done ++ as_key ms first ∷ rest) ++ entry l 0 opening.Nothing ∷ []) then wide
    × Idle (l ∷ h)
