-- The rows, by what is marked.
use Rattle.std.proofs.Common.{◌≡◌, refl, ◌∙◌, List, [], ◌∷◌}
use Rattle.yaml_emit_laws.specs.ColumnsRows.{canonical, documents_of, ColumnsRow, rows, AllHold, RowsHold}
use Rattle.yaml_emit_laws.proofs.ColumnsMarks.{node_marks, items_marks, pairs_marks, documents_marks, written_marks}

unfoldable AllMark : List ColumnsRow → Type 0
AllMark [] = Unit {0}
AllMark (r ∷ rs) = (documents_marks r.indent (documents_of r.roots) ≡ r.passed) × AllMark rs

marked : (rs : List ColumnsRow) → AllMark rs → AllHold rs
unfolding AllMark AllHold
marked [] h = tt
marked (r ∷ rs) h = (written_marks (canonical r.indent) (documents_of r.roots) refl ∙ h.0, marked rs h.1)

pub rows_hold : RowsHold
unfolding AllMark documents_of node_marks items_marks pairs_marks documents_marks
rows_hold = marked rows (refl, (refl, (refl, (refl, (refl, (refl, (refl, (refl, (refl, (refl, (refl, (refl, (refl, (refl, (refl, (refl, tt))))))))))))))))
