-- Double quoted spellings: raw characters, escapes and folds, and the value that they spell.
use Rattle.std.specs.Prelude.{◌≡◌, ℕ, ◌<◌, Bool, true, false, not, ◌&&◌, ◌||◌, ◌==◌, nat_lt, List, [], ◌∷◌, ◌++◌, replicate}
use Rattle.std.specs.Str.{all_scalars}
use Rattle.yaml_scan_types.specs.Ascii as ascii
use lib.Utf8.{scalar}
use Rattle.yaml_emit_layout.specs.declared.cursor.Cursor.{Cursor}
use Rattle.yaml_emit_layout.specs.declared.page.Page.{Page}
use Rattle.yaml_emit_layout.specs.declared.settings.LineBreak.{LineBreak}
use Rattle.yaml_emit_layout.specs.declared.settings.LineBreak.TheVariants.{Lf, Cr, CrLf}
use Rattle.yaml_emit_layout.specs.Text.{Item, letter, is_break}
use Rattle.yaml_emit_layout.specs.Layout.{Layout, Rest}
use Rattle.yaml_emit_layout.specs.Quoted.{escape_text, quoted_body}
use Rattle.yaml_emit_layout.specs.Style.{is_blank}

pub data SpelledPart : Type 0 where
  -- a character that spells itself
  raw : ℕ → SpelledPart
  -- a character by its letter or number
  escape : ℕ → SpelledPart
  -- a backslash and a space
  escaped_space : SpelledPart
  -- a break and spaces, for one space
  fold : LineBreak → ℕ → SpelledPart

-- the characters of a break
abbrev pub break_text : LineBreak → List ℕ
break_text Lf = ascii.line_feed ∷ []
break_text Cr = ascii.carriage_return ∷ []
break_text CrLf = ascii.carriage_return ∷ ascii.line_feed ∷ []

abbrev pub spelled : SpelledPart → List ℕ
spelled (raw c) = c ∷ []
spelled (escape c) = escape_text c
spelled escaped_space = ascii.backslash ∷ ascii.space ∷ []
spelled (fold b n) = break_text b ++ replicate n ascii.space

abbrev pub meant : SpelledPart → ℕ
meant (raw c) = c
meant (escape c) = c
meant escaped_space = ascii.space
meant (fold b n) = ascii.space

unfoldable pub spelling : List SpelledPart → List ℕ
spelling [] = []
spelling (p ∷ ps) = spelled p ++ spelling ps

unfoldable pub meaning : List SpelledPart → List ℕ
meaning [] = []
meaning (p ∷ ps) = meant p ∷ meaning ps

abbrev pub is_raw_blank : SpelledPart → Bool
is_raw_blank (raw c) = is_blank c
is_raw_blank (escape c) = false
is_raw_blank escaped_space = false
is_raw_blank (fold b n) = false

abbrev pub is_fold : SpelledPart → Bool
is_fold (fold b n) = true
is_fold (raw c) = false
is_fold (escape c) = false
is_fold escaped_space = false

-- a fold has no raw blank and no fold on either side
abbrev pub may_follow : SpelledPart → SpelledPart → Bool
may_follow p q = not (is_fold q && (is_raw_blank p || is_fold p))
    && not (is_fold p && is_raw_blank q)

-- Raw characters are no quotes, backslashes or breaks, and not 0. A fold has an indentation, so that no `---` is at column 0.
abbrev pub may_stand : SpelledPart → Bool
may_stand (raw c) =
    scalar c && not (is_break c || c == ascii.quote || c == ascii.backslash || c == 0)
may_stand (escape c) = scalar c
may_stand escaped_space = true
may_stand (fold b n) = nat_lt 0 n

unfoldable pub IsSpelling : SpelledPart → List SpelledPart → Type 0
IsSpelling before [] = is_fold before ≡ false
IsSpelling before (p ∷ ps) = (may_follow before p ≡ true) × (may_stand p ≡ true) × IsSpelling p ps

-- characters before a text
unfoldable pub in_front : List ℕ → List Item → List Item
in_front [] t = t
in_front (c ∷ cs) t = letter c ∷ in_front cs t

-- From a cursor on, a layout writes a spelling of the value, whatever follows. After a space, at the start, no fold may be.
pub record WritesSpelling (a : Layout) (c : Cursor) (value : List ℕ) : Type 0 where
  pub parts : List SpelledPart
  pub behind : Cursor
  pub right : IsSpelling (raw ascii.space) parts
  pub spelled : (rest : Rest) → a c rest ≡ in_front (spelling parts) (rest behind)
  pub meant : value ≡ meaning parts

-- What is between double quotes is a spelling of the value, on every page with an indentation and at every column.
abbrev pub QuotedSpells : Type 0
QuotedSpells = (page : Page) (c : Cursor) (value : List ℕ) → all_scalars value ≡ true
    → 0 < page.indentation → WritesSpelling (quoted_body page ascii.space value) c value
