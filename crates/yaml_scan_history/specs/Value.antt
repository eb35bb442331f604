-- The value of a block scalar, from its lines.
use Rattle.std.specs.Prelude.{ℕ, Bool, false, not, ◌&&◌, if◌then◌else◌, List, [], ◌∷◌, ◌++◌}
use Rattle.yaml_scan_model.specs.scan_types.Ascii as ascii
use Rattle.yaml_scan_model.specs.scan_types.Marks.{is_blank}
use Rattle.yaml_scan_model.specs.Breaks.{is_feed}
use Rattle.yaml_scan_history.specs.declared.header.Chomp.{Chomp}
use Rattle.yaml_scan_history.specs.declared.header.Chomp.TheVariants as chomps

-- A line after the header: one with no text, by the bytes that its break reads as, or a text and the
-- bytes of its break, none at the text's end.
pub data BlockLine : Type 0 where
  Empty : List ℕ → BlockLine
  Words : List ℕ → List ℕ → BlockLine

-- A line with text, and the breaks of the empty ones after it.
pub record TextLine : Type 0 where
  pub words : List ℕ
  pub feed : List ℕ
  pub empties : List ℕ

-- The empty lines before the first text, and the texts.
pub record Texts : Type 0 where
  pub lead : List ℕ
  pub lines : List TextLine

abbrev pub add_line : BlockLine → Texts → Texts
add_line (Empty b) g = record { lead = b ++ g.lead; lines = g.lines }
add_line (Words words feed) g = record {
  lead = [];
  lines = record {
    words = words;
    feed = feed;
    empties = g.lead;
  } ∷ g.lines;
}

-- lines by their texts
abbrev pub texts_of : List BlockLine → Texts
texts_of [] = record { lead = []; lines = [] }
texts_of (l ∷ ls) = add_line l (texts_of ls)

abbrev pub starts_blank : List ℕ → Bool
starts_blank [] = false
starts_blank (b ∷ bs) = is_blank b

-- what a fold leaves of the empty lines
abbrev pub space_or : List ℕ → List ℕ
space_or [] = ascii.space ∷ []
space_or (b ∷ bs) = b ∷ bs

-- what is between two texts, by their breaks; `bare`: neither begins with a blank
unfoldable pub between : Bool → Bool → List ℕ → List ℕ → List ℕ
between folded bare feed empties = if folded && (bare && is_feed feed) then space_or empties
    else feed ++ empties

-- what stays of the last text's break, and of the empty lines after it
abbrev pub at_end : Chomp → List ℕ → List ℕ → List ℕ
at_end chomps.Strip feed empties = []
at_end chomps.Clip feed empties = feed
at_end chomps.Keep feed empties = feed ++ empties

-- what follows a text, which begins with a blank or doesn't
abbrev pub behind_text : Bool → Chomp → Bool → List ℕ → List ℕ → List TextLine → List ℕ
behind_text folded chomp blank feed empties [] = at_end chomp feed empties
behind_text folded chomp blank feed empties (l ∷ ls) =
    between folded (not blank && not (starts_blank l.words)) feed empties
    ++ (l.words ++ behind_text folded chomp (starts_blank l.words) l.feed l.empties ls)

abbrev pub value_with : Bool → Chomp → List ℕ → List TextLine → List ℕ
value_with folded chomp lead [] = at_end chomp [] lead
value_with folded chomp lead (l ∷ ls) = lead
    ++ (l.words ++ behind_text folded chomp (starts_blank l.words) l.feed l.empties ls)

-- the value of lines
abbrev pub block_value : Bool → Chomp → List BlockLine → List ℕ
block_value folded chomp ls = value_with folded chomp (texts_of ls).lead (texts_of ls).lines

-- what a block scalar comes to, where that many of its lines are done and these follow
unfoldable pub stacked_with : Bool → List ℕ → Bool → Bool → List ℕ → List ℕ → Chomp → Texts → List ℕ
stacked_with folded done any blank feed empties chomp g =
    if any then done ++ behind_text folded chomp blank feed (empties ++ g.lead) g.lines
    else done ++ value_with folded chomp (empties ++ g.lead) g.lines
