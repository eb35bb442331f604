-- What ends a document.
use Rattle.std.proofs.Common.{◌≡◌, List, [], Bool, false, not, subst, ap}
use Rattle.yaml_emit_layout.specs.declared.cursor.Cursor.{Cursor}
use Rattle.yaml_emit_layout.specs.declared.settings.LineBreak.{LineBreak}
use Rattle.yaml_emit_layout.specs.declared.settings.Settings.{Settings}
use Rattle.yaml_emit_layout.specs.Layout.{◌▹◌, stay, when, char, line}
use Rattle.yaml_parse_model.specs.Events.{TagDirective}
use Rattle.yaml_emit_layout.specs.Content as said
use Rattle.yaml_emit_layout.specs.Nodes.{dots, line_at, end_layout}
use Rattle.yaml_emit_layout.specs.State.{text_at, depth_at, piece, next, next_at}
use Rattle.yaml_emit_output.specs.Draft.{Page as Paper, line_mark, Lays}
use Rattle.yaml_emit_scalars.proofs.LaysLemmas.{lays_both}
use Rattle.yaml_emit_core.specs.declared.level.State.TheVariants as state
use Rattle.yaml_emit_core.specs.Levels.{Stack, state_at}

pub home_lays : (s : Settings) (k : LineBreak) (a b : Paper) → k ≡ s.line_break
    → Lays a b (when false (char 44) ▹ (line k 0 ▹ line_mark 0 false)) stay
    → Lays a b (line_at s 0) stay
home_lays s k a b e p = let P : LineBreak → Type 0 = λ z. Lays a b (line z 0) stay in subst P e p

pub end_lays : (s : Settings) (old : Stack) (u implicit empty : Bool) (ds : List TagDirective)
    (a b c : Paper) → Lays a b (line_at s 0) stay → Lays b c (when (not implicit) (dots s)) stay
    → Lays a c (piece s (state_at old u ds) (said.document_end implicit) empty) stay
unfolding text_at depth_at end_layout
end_lays s old u implicit empty ds a b c p q = lays_both a b c (line_at s 0) (when (not implicit) (dots s)) p q

pub end_state : (s : Settings) (old new : Stack) (u implicit empty : Bool) (ds : List TagDirective)
    (behind : Cursor) → new ≡ record { state = state.DocumentStart; levels = [] }
    → state_at new implicit [] ≡ next s (state_at old u ds) (said.document_end implicit) empty behind
unfolding next_at
end_state s old new u implicit empty ds behind e = ap (λ (z : Stack). state_at z implicit []) e
