-- What says nothing against a style.
use Rattle.std.specs.Prelude.{◌≡◌, ◌⊎◌, ℕ, ◌<◌, ◌≤◌, Bool, true, false, not, ◌&&◌, ◌||◌, ◌==◌, nat_lt, List, [], ◌∷◌, length, take, get_or}
use Rattle.std.specs.List.{list_all}
use Rattle.std.specs.Str.{chars, IsCharBoundary}
use Rattle.yaml_scan_types.specs.Ascii as ascii
use Rattle.yaml_scan_runs.specs.Runs.{is_stop}
use Rattle.yaml_emit_layout.specs.Text.{is_break}
use Rattle.yaml_emit_layout.specs.Quoted.{is_printable}
use Rattle.yaml_emit_layout.specs.Style.{last_or}
use Rattle.yaml_emit_scalars.specs.Classes.{is_of}

-- a byte may say something: an indicator, DEL, EF, and what ends every run; with unicode off, what is beyond ASCII
abbrev pub tells : Bool → ℕ → Bool
tells true b = is_stop
    (ascii.colon ∷ ascii.hash ∷ ascii.comma ∷ ascii.open_bracket ∷ ascii.close_bracket
    ∷ ascii.open_brace ∷ ascii.close_brace ∷ ascii.question ∷ ascii.delete ∷ 0xEF ∷ []) b
tells false b = is_of 0x0D6 b

-- a character that says nothing, except a space before a break
unfoldable pub is_quiet : Bool → ℕ → Bool
is_quiet unicode c = is_printable c && ((unicode || nat_lt c 0x80)
    && not (is_break c || (c == ascii.colon || c == ascii.hash || (c == ascii.comma
    || c == ascii.question
    || (c == ascii.open_bracket || c == ascii.close_bracket || (c == ascii.open_brace
    || c == ascii.close_brace))))))

-- That many bytes from the start rule out no style. After them is a space, nothing, or what no
-- space is before.
pub record IsCalm (unicode : Bool) (text : List ℕ) (count : ℕ) : Type 0 where
  pub whole : IsCharBoundary text count
  pub quiet : list_all (is_quiet unicode) (chars (take count text)) ≡ true
  pub next : ((count < length text) × (get_or text count 0 ≡ ascii.space))
      ⊎ ((length text ≤ count) ⊎ ((last_or 0 (chars (take count text)) == ascii.space) ≡ false))
