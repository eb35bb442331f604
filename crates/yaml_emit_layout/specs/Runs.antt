-- Runs of ASCII that are written as they are, and runs that allow every style.
use Rattle.std.specs.Prelude.{ℕ, ◌+◌, Bool, true, not, ◌&&◌, ◌||◌, ◌==◌, nat_le, List, [], ◌∷◌}
use Rattle.yaml_scan_types.specs.Ascii as ascii

-- all bytes pass a test, by their columns from a first one on
unfoldable pub all_pass : (ℕ → ℕ → Bool) → ℕ → List ℕ → Bool
all_pass test column [] = true
all_pass test column (b ∷ bs) = test column b && all_pass test (column + 1) bs

-- from space to `~`, except for # , : ? [ ] { }: it says nothing against a style, except for a space before a break
unfoldable pub is_calm : ℕ → Bool
is_calm b = nat_le ascii.space b
    && (nat_le b ascii.tilde && not (b == ascii.hash || b == ascii.comma || b == ascii.colon
    || b == ascii.question || b == ascii.open_bracket
    || b == ascii.close_bracket || b == ascii.open_brace || b == ascii.close_brace))
