-- A list of events may be given in pieces, and what was laid out replaced by what leads to the same
-- checkpoint.
use Rattle.std.specs.Prelude.{◌≡◌, ℕ, Bool, true, false, ◌&&◌, not, List, [], ◌∷◌, ◌++◌, map}
use Rattle.yaml_emit_layout.specs.declared.Cursor.{Cursor}
use Rattle.yaml_emit_layout.specs.declared.Encoding.{Encoding}
use Rattle.yaml_emit_layout.specs.declared.Settings.{Settings}
use Rattle.yaml_emit_layout.specs.Text.{Item, encode}
use Rattle.yaml_emit_layout.specs.Layout.{written}
use Rattle.yaml_emit_layout.specs.declared.Level.{Level}
use Rattle.yaml_emit_layout.specs.declared.Phase.{Phase}
use Rattle.yaml_emit_layout.specs.declared.Phase.TheVariants.{Items, Keys, Value}
use Rattle.yaml_emit_layout.specs.declared.Expected.TheVariants as at
use Rattle.yaml_emit_layout.specs.parse_model.Events.{TagDirective}
use Rattle.yaml_emit_layout.specs.Content.{Opening, Event, document_start}
use Rattle.yaml_emit_layout.specs.State.{placed, among}
use Rattle.yaml_emit_machine.specs.Judged.{let_out, laid}
use Rattle.yaml_round_laws.specs.Pieces.{Stand, first_stand, added, whole, LeadsToStand, Waits, joined, Cuts, Alike}

-- From each checkpoint each list of events leads to one, where at most three of them wait.
abbrev pub StandsAreThere : Type 0
StandsAreThere = (s : Settings) (a : Stand) (es : List Event) → (b : Stand)
    × (LeadsToStand s a es b × Waits a es b)

-- However a list is cut, the texts of its pieces, one after another, are the text of the whole, in bytes too.
abbrev pub CuttingsAreWholes : Type 0
CuttingsAreWholes = (s : Settings) (pieces : List (List Event)) (texts : List (List Item))
    → Cuts s first_stand pieces texts
    → (joined texts ≡ written (laid s (placed at.StreamStart) (let_out (joined pieces))))
    × ((x : Encoding) → joined (map (encode x) texts)
    ≡ encode x (written (laid s (placed at.StreamStart) (let_out (joined pieces)))))

-- And there are such pieces of every cutting.
abbrev pub CutsAreThere : Type 0
CutsAreThere = (s : Settings) (a : Stand) (pieces : List (List Event))
    → (texts : List (List Item)) × Cuts s a pieces texts

-- What was written for a front of a list is a front of the text of all.
abbrev pub FrontsAreShown : Type 0
FrontsAreShown = (s : Settings) (es more : List Event)
    → (rest : List Item) × (whole s (es ++ more) ≡ whole s es ++ rest)

-- Where events and others in their stead lead to checkpoints that are alike, what follows adds the
-- same to the text of either.
abbrev pub StandInsStand : Type 0
StandInsStand = (s : Settings) (es others : List Event) (a b : Stand)
    → LeadsToStand s first_stand es a → LeadsToStand s first_stand others b → Alike s a b
    → (more : List Event) → (rest : List Item) × ((whole s (es ++ more) ≡ whole s es ++ rest)
    × (whole s (others ++ more) ≡ whole s others ++ rest))

-- a block collection in which an item, a key or the end is next
abbrev pub is_between : Phase → Bool
is_between (Items fresh) = true
is_between (Keys fresh) = true
is_between (Value simple) = false

unfoldable pub are_between : List Level → Bool
are_between [] = true
are_between (l ∷ ls) = not l.flow && (is_between l.phase && are_between ls)

-- Within block collections, where an item, a key or an end is next and no event is held, the open collections with their
-- indentations, the directives and whether breaks are kept are all that counts: checkpoints with
-- these are alike, wherever their lines are, as long as there is text in them. So it is for right
-- events and wrong ones.
abbrev pub BlocksStandByLevels : Type 0
BlocksStandByLevels = (s : Settings) (directives : List TagDirective) (ls : List Level)
    (c d : Cursor) → are_between ls ≡ true → c.bare ≡ false → d.bare ≡ false → c.kept ≡ d.kept
    → Alike s (record { state = among directives ls; cursor = c; held = [] })
    (record { state = among directives ls; cursor = d; held = [] })

abbrev pub between_documents : Bool → Bool → ℕ → Bool → Bool → Bool → Stand
between_documents first unended column white bare kept = record {
  state = placed (at.Documents first unended);
  cursor = record { column = column; white = white; bare = bare; kept = kept };
  held = [];
}

-- Before a document it doesn't count whether the last one's breaks are kept: a document that is in for others has to end as
-- the last of them did, and that is all.
abbrev pub DocumentsStandByEnds : Type 0
DocumentsStandByEnds = (s : Settings) (first unended : Bool) (column : ℕ) (white bare k l : Bool)
    (o : Opening) (more : List Event)
    → added s (between_documents first unended column white bare k) (document_start o ∷ more)
    ≡ added s (between_documents first unended column white bare l) (document_start o ∷ more)
