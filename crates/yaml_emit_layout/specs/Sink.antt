-- What an output has of a text, and what is still to come of it.
use Rattle.std.specs.Prelude.{◌≡◌, ◌≢◌, ℕ, ◌+◌, ◌<◌, ◌≤◌, true, List, ◌++◌, length, take}
use Rattle.yaml_emit_layout.specs.declared.cursor.Cursor.{Cursor}
use Rattle.yaml_emit_layout.specs.declared.cursor.Status.{Status}
use Rattle.yaml_emit_layout.specs.declared.cursor.Status.TheVariants.{Going, Full, Deep, Starved}
use Rattle.yaml_emit_layout.specs.declared.settings.Encoding.{Encoding}
use Rattle.yaml_emit_layout.specs.Text.{Item, encode, is_deep, shallow}
use Rattle.yaml_emit_layout.specs.Layout.{Layout, Rest, stay}

-- An output up to a limit: its bytes so far, and the place of the next character.
pub record Output : Type 0 where
  pub bytes : List ℕ
  pub limit : ℕ
  pub encoding : Encoding
  pub status : Status
  pub cursor : Cursor

-- With `text` to come, the whole is `whole`: all before it is written, and none of that is too deep; or the first bytes up
-- to the limit are; or all before the first place that is too deep; or some first bytes, since memory was refused.
abbrev pub EndsBy : Status → ℕ → Encoding → List ℕ → List Item → List Item → Type 0
EndsBy Going limit x output text whole = (encode x whole ≡ output ++ encode x text)
    × ((length output ≤ limit) × ((is_deep whole ≡ is_deep text)
    × (encode x (shallow whole) ≡ output ++ encode x (shallow text))))
EndsBy Full limit x output text whole = (output ≡ take limit (encode x whole))
    × (limit < length (encode x whole))
EndsBy Deep limit x output text whole = (is_deep whole ≡ true)
    × (output ≡ encode x (shallow whole))
EndsBy Starved limit x output text whole = (rest : List ℕ) × (encode x whole ≡ output ++ rest)

unfoldable pub Ends : Output → List Item → List Item → Type 0
Ends s text whole = EndsBy s.status s.limit s.encoding s.bytes text whole

-- all that was there is there still, before what came
abbrev pub Grows : List ℕ → List ℕ → Type 0
Grows old new = take (length old) new ≡ old

-- The output owed one layout and owes another: whatever follows, it ends the same. What has stopped stays so, for the same reason,
-- and nothing that was written is taken back.
pub record Owes (old new : Output) (before after : Layout) : Type 0 where
  pub ends : (rest : Rest) (whole : List Item) → Ends old (before old.cursor rest) whole
      → Ends new (after new.cursor rest) whole
  pub encoding : new.encoding ≡ old.encoding
  pub limit : new.limit ≡ old.limit
  pub going : new.status ≡ Going → old.status ≡ Going
  pub stays : old.status ≢ Going → new.status ≡ old.status
  pub grows : Grows old.bytes new.bytes

-- a layout was written
abbrev pub Puts : Output → Output → Layout → Type 0
Puts old new a = Owes old new a stay
