-- What YAML 1.1 reads otherwise, or refuses, in a JSON text.
use Rattle.std.specs.Prelude.{◌≡◌, ℕ, Bool, true, false, not, ◌&&◌, ◌||◌, ◌==◌, nat_le, if◌then◌else◌, List, [], ◌∷◌, ◌++◌, length}
use Rattle.yaml_scan_history.specs.scan_types.Ascii as ascii
use Rattle.yaml_scan_history.specs.scan_types.Points as points
use Rattle.yaml_scan_history.specs.History.{key_bytes}
use Rattle.yaml_round_laws.specs.Grammar.{Letter, raw, short, coded, code, string_bytes, Value, literal, number, string, empty_array, array, empty_object, object, Elements, last_element, element, Members, last_member, member, Text}

-- ---- characters

-- DEL, C1 but NEL, U+FFFE and U+FFFF: no stream may hold them as they are
abbrev pub is_refused : ℕ → Bool
is_refused c = c == ascii.delete
    || (((nat_le 0x80 c && nat_le c 0x9F) && not (c == points.next_line))
    || (c == 0xFFFE || c == 0xFFFF))

-- NEL, LS and PS: as they are they end lines, which are folded
abbrev pub ends_line : ℕ → Bool
ends_line c =
    c == points.next_line || (c == points.line_separator || c == points.paragraph_separator)

-- half of a character beyond U+FFFF
abbrev pub is_surrogate : ℕ → Bool
is_surrogate c = nat_le 0xD800 c && nat_le c 0xDFFF

abbrev pub is_kept : Letter → Bool
is_kept (raw c) = not (is_refused c || ends_line c)
is_kept (short s) = true
is_kept (coded a b c d) = not (is_surrogate (code a b c d))

abbrev pub are_kept : List Letter → Bool
are_kept [] = true
are_kept (l ∷ ls) = is_kept l && are_kept ls

-- ---- keys

abbrev pub is_break : ℕ → Bool
is_break b = b == ascii.line_feed || b == ascii.carriage_return

abbrev pub has_break : List ℕ → Bool
has_break [] = false
has_break (b ∷ bs) = is_break b || has_break bs

-- A key is on the line of its `:`, which is at most `key_bytes` after the key's start.
abbrev pub is_near : List Letter → List ℕ → Bool
is_near key white = not (has_break white) && nat_le (length (string_bytes key ++ white)) key_bytes

-- ---- tabs

abbrev pub has_tab : List ℕ → Bool
has_tab [] = false
has_tab (b ∷ bs) = b == ascii.tab || has_tab bs

-- a tab is on a later line than what is before the white
abbrev pub has_tab_below : List ℕ → Bool
has_tab_below [] = false
has_tab_below (b ∷ bs) = if is_break b then has_tab bs else has_tab_below bs

-- a literal or a number, which takes the white after it
abbrev pub is_bare : Value → Bool
is_bare (literal l) = true
is_bare (number n) = true
is_bare _ = false

-- ---- values and texts

-- all letters of strings and keys are kept, and all keys are near
abbrev mutual
  pub IsUsual : Value → Type 0
  IsUsual (literal l) = Unit {0}
  IsUsual (number n) = Unit {0}
  IsUsual (string ls) = are_kept ls ≡ true
  IsUsual (empty_array w) = Unit {0}
  IsUsual (array w elements) = AreUsual elements
  IsUsual (empty_object w) = Unit {0}
  IsUsual (object w members) = MembersAreUsual members

  pub AreUsual : Elements → Type 0
  AreUsual (last_element v a) = IsUsual v
  AreUsual (element v a b elements) = IsUsual v × AreUsual elements

  pub MembersAreUsual : Members → Type 0
  MembersAreUsual (last_member k a b v c) = (are_kept k ≡ true) × (is_near k a ≡ true) × IsUsual v
  MembersAreUsual (member k a b v c d members) = (are_kept k ≡ true) × (is_near k a ≡ true)
      × IsUsual v × MembersAreUsual members

-- No exception is in the text. Where indentation counts, before the value and on the lines below
-- it, there is no tab.
pub record IsUsualText (t : Text) : Type 0 where
  pub front : has_tab t.front ≡ false
  pub value : IsUsual t.value
  pub back : (is_bare t.value || not (has_tab_below t.back)) ≡ true
