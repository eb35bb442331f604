-- Which limits a whole text keeps.
use Rattle.std.specs.Prelude.{◌≡◌, ℕ, ◌≤◌, false, List, [], length, None}
use Rattle.yaml_emit_layout.specs.declared.Encoding.{Encoding}
use Rattle.yaml_emit_layout.specs.Text.{Item, encode, is_deep}
use Rattle.yaml_emit_machine.specs.Emitter.{Emitter, Completes}

-- the text has at most that many bytes, and no indentation in it passes the most columns
pub record Fits (limit : ℕ) (x : Encoding) (whole : List Item) : Type 0 where
  pub size : length (encode x whole) ≤ limit
  pub columns : is_deep whole ≡ false

-- with no event to come and no fault, the whole passes no limit
abbrev pub IsWithin : Emitter → Type 0
IsWithin e = e.fault ≡ None → (x : Encoding) (whole : List Item) → Completes e x [] whole
    → Fits e.limit x whole
