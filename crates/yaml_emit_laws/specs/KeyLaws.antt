-- After a simple key and its `:`.
use Rattle.std.specs.Prelude.{◌≡◌, ◌≤◌, ◌+◌, ℕ, Bool, false, List, []}
use Rattle.yaml_emit_layout.specs.scan_model.declared.name.yaml_encoding_t.{yaml_encoding_t}
use Rattle.yaml_emit_layout.specs.scan_types.Tokens.{TokenBody}
use Rattle.yaml_emit_layout.specs.scan_types.Marks.{column_at}
use Rattle.yaml_emit_layout.specs.declared.Cursor.{Cursor}
use Rattle.yaml_emit_layout.specs.Layout.{Rest}
use Rattle.yaml_emit_laws.specs.Walk.{Left, bytes}
use Rattle.yaml_scan_laws.specs.Walks.{WalkState}
use Rattle.yaml_emit_laws.specs.NodeWalk.{NodeStage}

-- After a key's `:`, in the levels that it leaves.
pub record Keyed (x : yaml_encoding_t) (text : List ℕ) (rest : Rest) (n : ℕ) (kept : Bool)
    (ls : List ℕ) (T : List TokenBody → List TokenBody) : Type 0 where
  pub cursor : Cursor
  pub place : WalkState
  pub stage : NodeStage x text cursor place ls [] T
  pub left : Left text place.at (bytes (rest cursor))
  pub bare : cursor.bare ≡ false
  pub white : cursor.white ≡ false
  pub right : n + 2 ≤ column_at text place.at
  pub same : cursor.kept ≡ kept
