-- A draft of some settings, and the entries of collections on it.
use Rattle.std.specs.Prelude.{◌≡◌, ℕ, ◌-◌, ◌&&◌, Bool, true, false, if◌then◌else◌}
use Rattle.yaml_scan_types.specs.Ascii as ascii
use Rattle.yaml_emit_layout.specs.declared.Cursor.{Cursor}
use Rattle.yaml_emit_layout.specs.declared.Settings.{Settings}
use Rattle.yaml_emit_layout.specs.Appends.{lettered}
use Rattle.yaml_emit_layout.specs.Layout.{Layout, ◌▹◌, when, char, line}
use Rattle.yaml_emit_layout.specs.LineStarts.{mark_word}
use Rattle.yaml_emit_layout.specs.Nodes.{turned}
use Rattle.yaml_emit_output.specs.Draft.{Page}
use Rattle.yaml_emit_core.specs.declared.level.State.{State}
use Rattle.yaml_emit_core.specs.declared.level.State.TheVariants as state

pub record IsOf (s : Settings) (page : Page) : Type 0 where
  pub line_break : page.line_break ≡ s.line_break
  pub width : page.width ≡ s.width

-- the cursor after a comma, where one is due
abbrev pub behind_comma : Bool → Cursor → Cursor
behind_comma true c = lettered 1 c
behind_comma false c = c

-- what comes before an entry of a flow collection: a comma where one is due, a line where one comes, and a character, of which 0 is none
abbrev pub entry : Settings → Bool → ℕ → ℕ → Layout
entry s comma n m = when comma (char ascii.comma) ▹ (turned s n ▹ mark_word m)

-- the character before an entry, of which 0 is none: in block collections `-` too
abbrev pub mark_of : State → Bool → Bool → ℕ
mark_of state.FirstItem flow simple = if flow then 0 else ascii.hyphen
mark_of state.Item flow simple = if flow then 0 else ascii.hyphen
mark_of state.FirstKey flow simple = if simple then 0 else ascii.question
mark_of state.Key flow simple = if simple then 0 else ascii.question
mark_of state.Value flow simple = ascii.colon
mark_of state.StreamStart flow simple = 0
mark_of state.FirstDocumentStart flow simple = 0
mark_of state.DocumentStart flow simple = 0
mark_of state.DocumentContent flow simple = 0
mark_of state.SimpleValue flow simple = 0
mark_of state.DocumentEnd flow simple = 0
mark_of state.End flow simple = 0

-- what ends a flow collection: in canonical form a comma and a line come before the bracket, unless nothing has come
abbrev pub closer_by : Settings → ℕ → Bool → ℕ → Layout
closer_by s n further x = when (s.canonical && further) (char ascii.comma
    ▹ line s.line_break (n - s.indent)) ▹ char x
