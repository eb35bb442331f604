-- What the readers of directives answer.
use Rattle.std.specs.Prelude.{ℕ, ◌+◌, ◌-◌, ◌<◌, ◌≤◌, ◌≡◌, true, false, List, ◌++◌, length, slice_range, Result, Ok, Err}
use Rattle.yaml_scan_types.specs.Marks.{byte, column_at}
use Rattle.yaml_scan_model.specs.Wrong.{Wrong}
use Rattle.yaml_scan_history.specs.Directives.{DirectiveText, Said, ValueText, decimal, tag, version}
use Rattle.yaml_scan_history.specs.declared.directives.DirectiveName.{DirectiveName}
use Rattle.yaml_scan_text.specs.declared.directive.Directive.{Directive}
use Rattle.yaml_scan_text.specs.declared.directive.LineEnd.{LineEnd}
use Rattle.yaml_scan_text.specs.declared.directive.Name.{Name}
use Rattle.yaml_scan_text.specs.declared.directive.Value.{Value}
use Rattle.yaml_scan_text.specs.declared.refusal.Refusal.{Refusal}
use Rattle.yaml_scan_text.specs.declared.refusal.Wrong.{Wrong as Told}
use Rattle.yaml_scan_text.specs.Lines.{AtLine}
use Rattle.yaml_scan_text.specs.QuotedRead.{ArePlain}
use Rattle.yaml_scan_text.specs.Refused.{IsMemory, Refuses, wrong_of}

-- a name ends there
abbrev pub ReadsName : List ℕ → ℕ → Result Name Told → Result (DirectiveName × ℕ) Wrong → Type 0
ReadsName text p (Ok n) (Ok x) = (n.told ≡ x.0) × (n.end ≡ x.1) × (n.end ≤ length text)
    × ArePlain text (p + 1) n.end
ReadsName text p (Ok n) (Err w) = ⊥
ReadsName text p (Err e) (Ok x) = ⊥
ReadsName text p (Err e) (Err w) = wrong_of e ≡ w

-- a number's digits end there
abbrev pub ReadsNumber : List ℕ → ℕ → Result ℕ Told → Result (ℕ × ℕ) Wrong → Type 0
ReadsNumber text p (Ok q) (Ok x) = (decimal text p (q - p) ≡ x.0) × (q ≡ x.1) × (q ≤ length text)
    × (q ≤ p + 9) × ArePlain text p q
ReadsNumber text p (Ok q) (Err w) = ⊥
ReadsNumber text p (Err e) (Ok x) = ⊥
ReadsNumber text p (Err e) (Err w) = wrong_of e ≡ w

-- a handle ends there
abbrev pub ReadsHandle : List ℕ → ℕ → Result ℕ Told → Result (List ℕ × ℕ) Wrong → Type 0
ReadsHandle text p (Ok q) (Ok x) = (slice_range text p q ≡ x.0) × (q ≡ x.1) × (q ≤ length text)
    × ArePlain text p q
ReadsHandle text p (Ok q) (Err w) = ⊥
ReadsHandle text p (Err e) (Ok x) = ⊥
ReadsHandle text p (Err e) (Err w) = wrong_of e ≡ w

-- The value says that: two numbers of one to nine digits, or a handle and a prefix, which is appended to what was there, or is in
-- the text.
abbrev pub IsSaid : List ℕ → List ℕ → List ℕ → Value → Said → Type 0
IsSaid text old new v (version major minor) = (v.is_tag ≡ false) × (v.joined ≡ false) × (new ≡ old)
    × (decimal text v.first (v.first_end - v.first) ≡ major)
    × (decimal text v.second (v.second_end - v.second) ≡ minor)
    × (v.first_end ≤ v.first + 9) × (v.second_end ≤ v.second + 9)
IsSaid text old new v (tag handle prefix) = (v.is_tag ≡ true)
    × (slice_range text v.first v.first_end ≡ handle)
    × (v.joined ≡ true → new ≡ old ++ prefix)
    × (v.joined ≡ false → (new ≡ old) × (slice_range text v.second v.second_end ≡ prefix))

-- its parts are in order
pub record AreParts (v : Value) : Type 0 where
  pub first : v.first ≤ v.first_end
  pub between : v.first_end ≤ v.second
  pub second : v.second ≤ v.second_end

pub record IsValue (text : List ℕ) (p : ℕ) (old new : List ℕ) (v : Value) (x : ValueText) : Type 0
  where
    pub said : IsSaid text old new v x.said
    pub parts : AreParts v
    pub end : v.second_end ≡ x.end
    pub inside : v.second_end ≤ length text
    pub plain : ArePlain text p v.second_end

abbrev pub ReadsVersion : List ℕ → ℕ → Result Value Told → Result ValueText Wrong → Type 0
ReadsVersion text p (Ok v) (Ok x) = (all : List ℕ) → IsValue text p all all v x
ReadsVersion text p (Ok v) (Err w) = ⊥
ReadsVersion text p (Err e) (Ok x) = ⊥
ReadsVersion text p (Err e) (Err w) = wrong_of e ≡ w

abbrev pub ReadsValue : List ℕ → ℕ → List ℕ → List ℕ → Result Value Refusal
    → Result ValueText Wrong → Type 0
ReadsValue text p old new (Ok v) (Ok x) = IsValue text p old new v x
ReadsValue text p old new (Ok v) (Err w) = ⊥
ReadsValue text p old new (Err e) (Ok x) = IsMemory e
ReadsValue text p old new (Err e) (Err w) = Refuses e w

-- the line ends there
pub record IsLineEnd (text : List ℕ) (h : LineEnd) (q : ℕ) : Type 0 where
  pub place : h.place ≡ q
  pub seat : AtLine text h.line h.place
  pub first : 0 < byte text h.place → column_at text h.place ≡ 0

abbrev pub EndsLine : List ℕ → Result LineEnd Told → Result ℕ Wrong → Type 0
EndsLine text (Ok h) (Ok q) = IsLineEnd text h q
EndsLine text (Ok h) (Err w) = ⊥
EndsLine text (Err e) (Ok q) = ⊥
EndsLine text (Err e) (Err w) = wrong_of e ≡ w

-- A directive says that, and its line ends there.
pub record IsDirective (text old new : List ℕ) (d : Directive) (x : DirectiveText) : Type 0 where
  pub said : IsSaid text old new d.value x.said
  pub parts : AreParts d.value
  pub end : d.value.second_end ≡ x.end
  pub inside : d.value.second_end ≤ length text
  pub place : d.place ≡ x.place
  pub seat : AtLine text d.line d.place
  pub first : 0 < byte text d.place → column_at text d.place ≡ 0

abbrev pub ReadsDirective : List ℕ → List ℕ → List ℕ → Result Directive Refusal
    → Result DirectiveText Wrong → Type 0
ReadsDirective text old new (Ok d) (Ok x) = IsDirective text old new d x
ReadsDirective text old new (Ok d) (Err w) = ⊥
ReadsDirective text old new (Err e) (Ok x) = IsMemory e
ReadsDirective text old new (Err e) (Err w) = Refuses e w
