-- What a lexeme makes of what is known after those before it.
use Rattle.std.specs.Prelude.{◌≡◌, ◌⊎◌, ◌≤◌, ℕ, Bool, true, false, not, ◌&&◌, ◌||◌, nat_lt, List, [], ◌∷◌, ◌++◌, length, None}
use Rattle.yaml_scan_history.specs.scan_types.Marks.{column_at, mark_at}
use Rattle.yaml_scan_history.specs.declared.kind.Kind.{Kind}
use Rattle.yaml_scan_history.specs.declared.lexeme.Lexeme.{Lexeme}
use Rattle.yaml_scan_history.specs.declared.lexeme.Entry.{Entry}
use Rattle.yaml_scan_history.specs.declared.lexeme.Opens.TheVariants as opening
use Rattle.yaml_scan_history.specs.Kinds.{depth_after, is_outside, may_be_key, cancels, is_value, is_start, is_end}
use Rattle.yaml_scan_history.specs.History.{has, candidate, fresh, margin_at, indent, left_by, opened, start_of, level_of}
use Rattle.yaml_scan_history.specs.Words.{WordText}
use Rattle.yaml_scan_history.specs.Next.{Read, next}
use Rattle.yaml_scan_laws.specs.TextFronts.{Front, IsFree, InTime, Idle, LeavesLevels, Meets, Pushed, Rises, entry, read_at}

-- a `-`, a `?` or a `:` is where a key may begin, or after a candidate that takes it, or in
-- brackets
abbrev pub IsPlaced : List ℕ → List Lexeme → ℕ → Kind → ℕ → Bool → Type 0
IsPlaced text h d k q a = (is_start k ≡ false) ⊎ ((nat_lt 0 d ≡ true) ⊎ ((a ≡ true) ⊎ (is_value k
    && has (fresh (candidate d h) (mark_at text q)) ≡ true)))

-- What is after lexemes is read, where no `:` that is owed stays out.
abbrev pub MetIsRead : Type 0
MetIsRead = (text : List ℕ) (h : List Lexeme) (d : ℕ) (ms : List ℕ) (es : List Entry) (k : Kind)
    (q : ℕ)
    (a : Bool) (w : WordText) → Front text h d ms es → is_end k ≡ false
    → Meets text h d (indent (left_by k d (column_at text q) ms)) k q a w
    → IsPlaced text h d k q a
    → InTime (candidate 0 h) (mark_at text q)
    → ((a && may_be_key k || (cancels k && not (is_value k))) ≡ true → IsFree (candidate d h))
    → InTime (candidate 0 (read_at text h k q a w ∷ h)) (mark_at text w.reached)
    → next text h ≡ Read (read_at text h k q a w)

-- ---- levels

-- In brackets no level closes.
abbrev pub InsideLeaves : Type 0
InsideLeaves = (d c : ℕ) (ms : List ℕ) → Rises 0 ms → nat_lt 0 d ≡ true → LeavesLevels d c ms ms 0

-- Right of the innermost level none closes, and none at its column.
abbrev pub RightLeaves : Type 0
RightLeaves = (c : ℕ) (ms : List ℕ) → Rises 0 ms → indent ms ≤ margin_at c
    → LeavesLevels 0 c ms ms 0

-- The levels right of a column close, and those before them stay.
abbrev pub LeftCloses : Type 0
LeftCloses = (c : ℕ) (ls more : List ℕ) → Rises 0 (ls ++ more) → indent ls ≤ margin_at c
    → Rises (margin_at c) more → LeavesLevels 0 c (ls ++ more) ls (length more)

-- ---- words and marks

-- In brackets, or right of the innermost level: no `:` is owed to what is there.
abbrev pub IsRight : ℕ → List ℕ → ℕ → Type 0
IsRight d ms c = (nat_lt 0 d ≡ true) ⊎ (indent ms ≤ c)

-- it opens and closes no level there
abbrev pub stays_level : Kind → ℕ → Bool
stays_level k d = not (is_outside k) && (nat_lt 0 d || not (is_start k))

-- a `:` that takes no candidate
abbrev pub IsLone : List ℕ → List Lexeme → ℕ → Kind → ℕ → Type 0
IsLone text h d k q = is_value k ≡ true → fresh (candidate d h) (mark_at text q) ≡ None

-- A word in a line and a bracket change no level; in brackets a `?`, a `,` and a lone `:` neither.
abbrev pub WordIsRead : Type 0
WordIsRead = (text : List ℕ) (h : List Lexeme) (d : ℕ) (ms : List ℕ) (es : List Entry) (k : Kind)
    (q : ℕ)
    (a : Bool) (w : WordText) → Front text h d ms es → Idle h → stays_level k d ≡ true
    → Meets text h d (indent ms) k q a w
    → IsRight d ms (column_at text q) → IsLone text h d k q
    → let l = read_at text h k q a w in
    Pushed text h l w (depth_after k d) ms (es ++ entry l 0 opening.Nothing ∷ [])

-- A `-`, a `?` and a lone `:` in a block close the levels right of them, and open one where none
-- has their margin.
abbrev pub MarkIsRead : Type 0
MarkIsRead = (text : List ℕ) (h : List Lexeme) (ms ls : List ℕ) (n : ℕ) (es : List Entry)
    (k : Kind) (q : ℕ)
    (w : WordText) → Front text h 0 ms es → Idle h → is_start k ≡ true
    → Meets text h 0 (indent ls) k q true w
    → LeavesLevels 0 (column_at text q) ms ls n → IsLone text h 0 k q
    → let l = read_at text h k q true w in let m = margin_at (column_at text q) in
    Pushed text h l w 0 (opened true m ls) (es ++ entry l n (start_of 0 m ls (level_of k)) ∷ [])

-- A document's marks and directives close all levels.
abbrev pub OuterIsRead : Type 0
OuterIsRead = (text : List ℕ) (h : List Lexeme) (ms : List ℕ) (es : List Entry) (k : Kind) (q : ℕ)
    (a : Bool) (w : WordText) → Front text h 0 ms es → Idle h
    → (is_outside k && not (is_end k)) ≡ true
    → Meets text h 0 0 k q a w
    → let l = read_at text h k q a w in
    Pushed text h l w 0 [] (es ++ entry l (length ms) opening.Nothing ∷ [])
