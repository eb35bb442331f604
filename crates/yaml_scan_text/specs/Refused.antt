-- Why no lexeme was read.
use Rattle.std.specs.Prelude.{ℕ, List, ◌≡◌, ◌++◌}
use Rattle.yaml_scan_model.specs.Wrong.{Wrong}
use Rattle.yaml_scan_text.specs.declared.refusal.Wrong.{Wrong as Told}
use Rattle.yaml_scan_text.specs.declared.refusal.Refusal.{Refusal}
use Rattle.yaml_scan_text.specs.declared.refusal.Refusal.TheVariants as refusals

-- what is said of the problem
abbrev pub wrong_of : Told → Wrong
wrong_of w = record { problem = w.problem; context = w.context; place = w.place }

-- the refusal says what is wrong, unless memory ran out
abbrev pub Refuses : Refusal → Wrong → Type 0
Refuses refusals.Memory w = Unit {0}
Refuses (refusals.Wrong told) w = wrong_of told ≡ w

-- memory ran out
abbrev pub IsMemory : Refusal → Type 0
IsMemory refusals.Memory = Unit {0}
IsMemory (refusals.Wrong told) = ⊥

-- what was there stays first
pub record Keeps (old new : List ℕ) : Type 0 where
  pub rest : List ℕ
  pub is : new ≡ old ++ rest
