-- Runs of bytes, and what stops them.
use Rattle.std.specs.Prelude.{◌≡◌, ℕ, ◌+◌, ◌<◌, ◌≤◌, Bool, true, false, not, ◌&&◌, ◌||◌, ◌==◌, nat_lt, nat_le, List, ◌++◌, length, take, drop, slice_index}
use Rattle.std.specs.List.{list_any}

-- what stops every run: a control byte, and the first bytes of NEL, LS and PS
abbrev pub always_stops : ℕ → Bool
always_stops byte = nat_lt byte 0x20 || (byte == 0xC2 || byte == 0xE2)

-- it is one of the listed bytes
abbrev pub is_listed : List ℕ → ℕ → Bool
is_listed list byte = list_any (λ listed. byte == listed) list

-- what stops a run, where those listed stop it, too
abbrev pub is_stop : List ℕ → ℕ → Bool
is_stop list byte = always_stops byte || is_listed list byte

-- the run from a place on, of bytes that don't pass the test: it ends at the first that does, or at the other place
pub record RunsTo (is_end : ℕ → Bool) (text : List ℕ) (from to end : ℕ) : Type 0 where
  pub ordered : from ≤ end
  pub within : end ≤ to
  pub passed : (k : ℕ) → from ≤ k → k < end → is_end (slice_index text k) ≡ false
  pub stopped : end < to → is_end (slice_index text end) ≡ true

-- the bytes between the places are ASCII
abbrev pub IsNarrow : List ℕ → ℕ → ℕ → Type 0
IsNarrow text from end = (k : ℕ) → from ≤ k → k < end → slice_index text k < 128

-- new has xs at that place, and is else as old
pub record CopiesTo (old new : List ℕ) (at : ℕ) (xs : List ℕ) : Type 0 where
  pub bytes : new ≡ take at old ++ (xs ++ drop (at + length xs) old)

-- neither of the two
abbrev pub is_neither : ℕ → ℕ → ℕ → Bool
is_neither a b byte = not (byte == a || byte == b)

-- no space
abbrev pub is_no_space : ℕ → Bool
is_no_space byte = not (byte == 0x20)

-- neither a space nor a tab
abbrev pub is_no_blank : ℕ → Bool
is_no_blank byte = not (byte == 0x20 || byte == 0x09)

-- no ASCII character that a stream may hold
abbrev pub is_unplain : ℕ → Bool
is_unplain byte =
    not (nat_le 0x20 byte && nat_lt byte 0x7F || (byte == 0x0A || (byte == 0x0D || byte == 0x09)))

-- 10xxxxxx: the byte continues a character
abbrev pub is_continuing : ℕ → Bool
is_continuing byte = nat_le 0x80 byte && nat_lt byte 0xC0
