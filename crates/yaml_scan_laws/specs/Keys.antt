-- Simple keys, of one word or several, and their `:`.
use Rattle.std.specs.Prelude.{◌≡◌, ◌⊎◌, ◌<◌, ℕ, Bool, true, false, not, ◌&&◌, nat_lt, List, [], ◌∷◌, ◌++◌, length}
use Rattle.yaml_scan_history.specs.scan_types.Marks.{column_at, mark_at}
use Rattle.yaml_scan_history.specs.declared.kind.Kind.{Kind}
use Rattle.yaml_scan_history.specs.declared.kind.Kind.TheVariants as kinds
use Rattle.yaml_scan_history.specs.declared.lexeme.Lexeme.{Lexeme}
use Rattle.yaml_scan_history.specs.declared.lexeme.Entry.{Entry}
use Rattle.yaml_scan_history.specs.declared.lexeme.Opens.TheVariants as opening
use Rattle.yaml_scan_history.specs.Kinds.{depth_after, may_be_key, cancels}
use Rattle.yaml_scan_history.specs.History.{Candidate, is_fresh, margin_at, indent, opened, as_key}
use Rattle.yaml_scan_history.specs.Words.{WordText}
use Rattle.yaml_scan_laws.specs.TextFronts.{Front, Idle, Holds, LeavesLevels, Meets, Pushed, Held, entry, read_at}
use Rattle.yaml_scan_laws.specs.Pushes.{IsRight, IsLone, stays_level}

-- The first word of a key, which ends on its line, is held. At the column of the innermost level
-- its `:` is owed.
abbrev pub KeyBegins : Type 0
KeyBegins = (text : List ℕ) (h : List Lexeme) (d : ℕ) (ms ls : List ℕ) (n : ℕ) (es : List Entry)
    (k : Kind) (q : ℕ)
    (w : WordText) → Front text h d ms es → Idle h → may_be_key k ≡ true
    → Meets text h d (indent ls) k q true w → LeavesLevels d (column_at text q) ms ls n
    → is_fresh (mark_at text q) (mark_at text w.reached) ≡ true
    → let l = read_at text h k q true w in
    Held text h l w d (depth_after k d) record { number = length es; lexeme = l } ls
    (es ++ entry l n opening.Nothing ∷ [])

-- What goes on with a key: at its depth a word that can't begin one, or anything deeper.
abbrev pub IsInKey : Kind → ℕ → ℕ → Bool → Type 0
IsInKey k d e a = ((e ≡ d) × ((a && may_be_key k) ≡ false) × (cancels k ≡ false)) ⊎ (d < e)

-- A further word of a key, on its line and near.
abbrev pub KeyGoesOn : Type 0
KeyGoesOn = (text : List ℕ) (h : List Lexeme) (d e : ℕ) (c : Candidate) (ms : List ℕ)
    (es : List Entry) (k : Kind)
    (q : ℕ) (a : Bool) (w : WordText) → Front text h e ms es → Holds h d c → stays_level k e ≡ true
    → Meets text h e (indent ms) k q a w → IsRight e ms (column_at text q) → IsLone text h e k q
    → IsInKey k d e a
    → is_fresh c.lexeme.start (mark_at text q) ≡ true
    → is_fresh c.lexeme.start (mark_at text w.reached) ≡ true
    → let l = read_at text h k q a w in
    Held text h l w d (depth_after k e) c ms (es ++ entry l 0 opening.Nothing ∷ [])

-- The `:` of a key, on its line and near: the key's entry is marked, and its level opens where it
-- is right of the innermost one.
abbrev pub KeyEnds : Type 0
KeyEnds = (text : List ℕ) (h : List Lexeme) (d : ℕ) (ms : List ℕ) (done : List Entry)
    (first : Entry)
    (rest : List Entry) (q : ℕ) (a : Bool) (w : WordText) → Front text h d ms (done ++ first ∷ rest)
    → Holds h d record { number = length done; lexeme = first.lexeme }
    → Meets text h d (indent ms) kinds.ValueMark q a w → IsRight d ms (column_at text q)
    → is_fresh first.lexeme.start (mark_at text q) ≡ true
    → let l = read_at text h kinds.ValueMark q a w in let m = margin_at first.lexeme.start.column in
    Pushed text h l w d (opened (not (nat_lt 0 d)) m ms)
    ((done ++ as_key ms first ∷ rest) ++ entry l 0 opening.Nothing ∷ [])
