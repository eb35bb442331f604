-- The white after lexemes, seen from a place: before it, or after it, lexemes may have taken
-- some.
use Rattle.std.specs.Prelude.{◌≡◌, ℕ, ◌+◌, ◌==◌, Bool, true, false, not, ◌&&◌, ◌||◌, nat_lt, List, ◌∷◌, length, Some, Ok}
use Rattle.yaml_scan_history.specs.scan_types.Marks.{mark_at}
use Rattle.yaml_scan_history.specs.Written.{HasAt, are_gap, has_break, begins_lexeme}
use Rattle.yaml_scan_history.specs.declared.kind.Kind.{Kind}
use Rattle.yaml_scan_history.specs.declared.lexeme.Lexeme.{Lexeme}
use Rattle.yaml_scan_history.specs.Kinds.{allows_key, is_value}
use Rattle.yaml_scan_history.specs.History.{reached, flow_depth, candidate, fresh, has, key_allowed}
use Rattle.yaml_scan_history.specs.Words.{WordText, kind_at, lexeme_at}
use Rattle.yaml_scan_history.specs.Next.{gap_behind, allowed_behind}
use Rattle.yaml_scan_laws.specs.TextFronts.{Meets, read_at}

-- From the place on there is a gap, and then a lexeme or the end.
pub record IsGap (text : List ℕ) (p : ℕ) (gap : List ℕ) : Type 0 where
  pub has : HasAt text p gap
  pub blank : are_gap gap ≡ true
  pub ends : begins_lexeme text (p + length gap) ≡ true

-- What is after the white there is after the lexemes: a key may begin there where `now`
-- says so, or where a break is in the white and `broken` says so.
pub record White (text : List ℕ) (h : List Lexeme) (p : ℕ) (now broken : Bool) : Type 0 where
  pub place : (gap : List ℕ) → IsGap text p gap → (gap_behind text h).place ≡ p + length gap
  pub allowed : (gap : List ℕ) → IsGap text p gap
      → allowed_behind h (gap_behind text h) ≡ (now || (has_break gap && broken))

-- Where the last lexeme ends before the white, which all do but plain and block scalars.
abbrev pub WhiteBegins : Type 0
WhiteBegins = (text : List ℕ) (h : List Lexeme) (p : ℕ) (now : Bool) → (reached h).index ≡ p
    → key_allowed h ≡ now → White text h p now (not (nat_lt 0 (flow_depth h)))

-- Further white.
abbrev pub WhiteGoesOn : Type 0
WhiteGoesOn = (text : List ℕ) (h : List Lexeme) (p : ℕ) (now broken : Bool) (white : List ℕ)
    → White text h p now broken
    → HasAt text p white → are_gap white ≡ true
    → White text h (p + length white) (now || (has_break white && broken)) broken

-- The last lexeme has taken the whole white with it, as plain scalars do.
abbrev pub WhiteIsTaken : Type 0
WhiteIsTaken = (text : List ℕ) (h : List Lexeme) (p : ℕ) (white : List ℕ) → IsGap text p white
    → (reached h).index ≡ p + length white → key_allowed h ≡ has_break white
    → White text h p false true

-- The last lexeme has taken the whole white with it, and no break in it counts, as after
-- directives.
abbrev pub WhiteIsOver : Type 0
WhiteIsOver = (text : List ℕ) (h : List Lexeme) (p : ℕ) (now : Bool) (white : List ℕ)
    → IsGap text p white
    → (reached h).index ≡ p + length white → key_allowed h ≡ now → White text h p now false

-- The last lexeme has taken some of the white, and a key may begin after it, as after block
-- scalars.
abbrev pub WhiteIsPassed : Type 0
WhiteIsPassed = (text : List ℕ) (h : List Lexeme) (p : ℕ) (white : List ℕ) (broken : Bool)
    → HasAt text p white
    → are_gap white ≡ true → (reached h).index ≡ p + length white → key_allowed h ≡ true
    → White text h p true broken

-- What is after white.
abbrev pub WhiteMeets : Type 0
WhiteMeets = (text : List ℕ) (h : List Lexeme) (p d level : ℕ) (now broken : Bool) (gap : List ℕ)
    (k : Kind)
    (w : WordText) → White text h p now broken → IsGap text p gap → let q = p + length gap in
    kind_at (nat_lt 0 d) text q ≡ Some k → lexeme_at k (nat_lt 0 d) level text q ≡ Ok w
    → Meets text h d level k q (now || (has_break gap && broken)) w

-- Whether a key may begin after a lexeme that was read so.
abbrev pub KeyIsAllowed : Type 0
KeyIsAllowed = (text : List ℕ) (h : List Lexeme) (d : ℕ) (k : Kind) (q : ℕ) (a found : Bool)
    (w : WordText)
    → flow_depth h ≡ d → (is_value k ≡ true → has (fresh (candidate d h) (mark_at text q)) ≡ found)
    → let l = read_at text h k q a w in
    ((reached (l ∷ h)).index ≡ w.reached) × (key_allowed (l
    ∷ h) ≡ (allows_key k (d == 0) found || w.broke))
