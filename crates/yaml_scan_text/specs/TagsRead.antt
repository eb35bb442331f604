-- What the readers of tags answer.
use Rattle.std.specs.Prelude.{ℕ, ◌≤◌, ◌≡◌, true, false, List, ◌++◌, length, slice_range, Result, Ok, Err}
use Rattle.yaml_scan_model.specs.Wrong.{Wrong}
use Rattle.yaml_scan_history.specs.Tags.{TagText}
use Rattle.yaml_scan_text.specs.declared.refusal.Refusal.{Refusal}
use Rattle.yaml_scan_text.specs.declared.tag.Tag.{Tag}
use Rattle.yaml_scan_text.specs.QuotedRead.{ArePlain}
use Rattle.yaml_scan_text.specs.Refused.{IsMemory, Refuses}

-- A tag is that one: its handle is where it starts, and its suffix in the text, or it is appended to what was there.
pub record IsTag (text : List ℕ) (p : ℕ) (old new : List ℕ) (t : Tag) (x : TagText) : Type 0 where
  pub handle : slice_range text p t.handle ≡ x.handle
  pub joined : t.joined ≡ true → new ≡ old ++ x.suffix
  pub stands : t.joined ≡ false → (new ≡ old) × (slice_range text t.from t.to ≡ x.suffix)
  pub front : p ≤ t.handle
  pub within : t.handle ≤ t.end
  pub order : t.from ≤ t.to
  pub last : t.to ≤ t.end
  pub end : t.end ≡ x.end
  pub inside : t.end ≤ length text
  pub plain : ArePlain text p t.end

abbrev pub ReadsTag : List ℕ → ℕ → List ℕ → List ℕ → Result Tag Refusal → Result TagText Wrong
    → Type 0
ReadsTag text p old new (Ok t) (Ok x) = IsTag text p old new t x
ReadsTag text p old new (Ok t) (Err w) = ⊥
ReadsTag text p old new (Err e) (Ok x) = IsMemory e
ReadsTag text p old new (Err e) (Err w) = Refuses e w
