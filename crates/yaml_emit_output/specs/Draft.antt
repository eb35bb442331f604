-- A text in UTF-8 with no limit, and the place of its next character.
use Rattle.std.specs.Prelude.{◌≡◌, ◌≢◌, ℕ, zero, suc, ◌+◌, ◌-◌, ◌^◌, ◌<◌, ◌≤◌, Bool, true, false, List, [], ◌∷◌, length, take, IsUtf8}
use Rattle.yaml_emit_layout.specs.declared.cursor.Status.TheVariants.{Going, Full}
use Rattle.yaml_emit_layout.specs.declared.settings.LineBreak.{LineBreak}
use Rattle.yaml_emit_layout.specs.declared.settings.Encoding.TheVariants.{Utf8}
use Rattle.yaml_emit_layout.specs.Sink.{Output, Owes}
use Rattle.yaml_emit_layout.specs.Layout.{Layout, stay, word, indicator}
use Rattle.yaml_emit_output.specs.declared.draft.Draft.TheInside.{Inside}

-- no text has more bytes
abbrev pub unlimited : ℕ
unlimited = 2 ^ 63

-- A draft: an output in UTF-8 with no limit, how many bytes it has room for, and the break and the width that are set.
pub record Page : Type 0 where
  pub output : Output
  pub room : ℕ
  pub line_break : LineBreak
  pub width : ℕ

-- the draft with another text and another place in its line
abbrev pub page_at : Inside → List ℕ → ℕ → ℕ → ℕ → Bool → Bool → Page
page_at s buf len origin before white bare = record {
  output = record {
    bytes = take len buf;
    limit = unlimited;
    encoding = Utf8;
    status = s.status;
    cursor = record { column = before + (len - origin); white = white; bare = bare; kept = s.kept };
  };
  room = length buf - len;
  line_break = s.line_break;
  width = s.width;
}

-- a draft's page
abbrev pub page_of : Inside → Page
page_of s = page_at s s.text.items s.len s.origin s.before s.white s.bare

-- the text is UTF-8; nothing fills it, and what has stopped has no room
pub record IsDraft (s : Inside) : Type 0 where
  pub within : s.len ≤ length s.text.items
  pub origin : s.origin ≤ s.len
  pub before : s.before < 2 ^ 62
  pub utf8 : IsUtf8 (take s.len s.text.items)
  pub unlimited : s.status ≢ Full
  pub stopped : s.status ≢ Going → length s.text.items ≡ s.len

-- The draft owed one layout and owes another: its break and its width stay.
pub record Lays (old new : Page) (before after : Layout) : Type 0 where
  pub owes : Owes old.output new.output before after
  pub line_break : new.line_break ≡ old.line_break
  pub width : new.width ≡ old.width

-- the character after the indentation, of which 0 is none: after a block indicator the line is still bare
abbrev pub line_mark : ℕ → Bool → Layout
line_mark zero block = stay
line_mark (suc m) true = indicator (suc m)
line_mark (suc m) false = word (suc m ∷ [])
