-- What the readers of names and URIs answer.
use Rattle.std.specs.Prelude.{ℕ, suc, ◌+◌, ◌<◌, ◌≤◌, ◌≡◌, Bool, true, false, List, [], ◌∷◌, ◌++◌, length, slice_range, Result, Ok, Err}
use Rattle.yaml_scan_model.specs.declared.problem.Context.{Context}
use Rattle.yaml_scan_model.specs.Wrong.{Wrong}
use Rattle.yaml_scan_history.specs.Uris.{Ends, Faulty, Spells, UriSpot, is_uri, uri_within, with_bytes}
use Rattle.yaml_scan_text.specs.declared.refusal.Refusal.{Refusal}
use Rattle.yaml_scan_text.specs.declared.refusal.Wrong.{Wrong as Told}
use Rattle.yaml_scan_model.specs.declared.problem.Problem.{Problem}
use Rattle.yaml_scan_text.specs.declared.uri.Octet.{Octet}
use Rattle.yaml_scan_text.specs.declared.uri.Uri.{Uri}
use Rattle.yaml_scan_text.specs.QuotedRead.{ArePlain}
use Rattle.yaml_scan_text.specs.Refused.{IsMemory, Refuses, wrong_of}

-- A name is after the indicator there, up to that place.
pub record IsName (text : List ℕ) (start q : ℕ) (x : List ℕ × ℕ) : Type 0 where
  pub name : slice_range text (start + 1) q ≡ x.0
  pub end : q ≡ x.1
  pub some : start + 1 < q
  pub inside : q ≤ length text
  pub plain : ArePlain text (start + 1) q

abbrev pub ReadsName : List ℕ → ℕ → Result ℕ Told → Result (List ℕ × ℕ) Wrong → Type 0
ReadsName text start (Ok q) (Ok x) = IsName text start q x
ReadsName text start (Ok q) (Err w) = ⊥
ReadsName text start (Err e) (Ok x) = ⊥
ReadsName text start (Err e) (Err w) = wrong_of e ≡ w

-- A URI spells these bytes, appended to what was there, or it is its bytes in the text.
pub record IsUri (text : List ℕ) (p : ℕ) (old new : List ℕ) (u : Uri) (x : List ℕ × ℕ) : Type 0
  where
    pub joined : u.joined ≡ true → new ≡ old ++ x.0
    pub stands : u.joined ≡ false → (new ≡ old) × (slice_range text p u.end ≡ x.0)
    pub end : u.end ≡ x.1
    pub inside : u.end ≤ length text
    pub none : u.end ≡ p → x.0 ≡ []
    pub some : p < u.end → 0 < length x.0
    pub plain : ArePlain text p u.end

abbrev pub ReadsUri : List ℕ → ℕ → List ℕ → List ℕ → Result Uri Refusal → Result (List ℕ × ℕ) Wrong
    → Type 0
ReadsUri text p old new (Ok u) (Ok x) = IsUri text p old new u x
ReadsUri text p old new (Ok u) (Err w) = ⊥
ReadsUri text p old new (Err e) (Ok x) = IsMemory e
ReadsUri text p old new (Err e) (Err w) = Refuses e w

-- The octet of the escape there is appended, and that many are due after it.
abbrev pub PutsOctet : Context → ℕ → List ℕ → List ℕ → Result ℕ Refusal → UriSpot → Type 0
PutsOctet context p old new (Ok left) (Spells b due q) = (left ≡ due) × (q ≡ p + 3)
    × (new ≡ old ++ b ∷ [])
PutsOctet context p old new (Ok left) (Ends q) = ⊥
PutsOctet context p old new (Ok left) (Faulty problem q) = ⊥
PutsOctet context p old new (Err e) (Spells b due q) = IsMemory e
PutsOctet context p old new (Err e) (Ends q) = ⊥
PutsOctet context p old new (Err e) (Faulty problem q) = Refuses e
    (record { problem = problem; context = context; place = q })

-- Bytes that a URI holds as they are, are appended up to a place, unless escapes are due.
pub record IsKeptBehind (wide : Bool) (due : ℕ) (text : List ℕ) (p : ℕ) (old new : List ℕ) (q : ℕ)
    : Type 0 where
  pub more : List ℕ
  pub is : new ≡ old ++ more
  pub rest : (context : Context) → uri_within (suc (length text)) context wide due text p
      ≡ with_bytes more (uri_within (suc (length text)) context wide due text q)
  pub stop : due ≡ 0 → is_uri wide text q ≡ false
  pub inside : q ≤ length text
  pub plain : ArePlain text p q

abbrev pub SpellsOctet : ℕ → Result Octet Problem → UriSpot → Type 0
SpellsOctet p (Ok o) s = s ≡ Spells o.byte o.due (p + 3)
SpellsOctet p (Err problem) s = s ≡ Faulty problem p
