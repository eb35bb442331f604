-- The tokens of a text that is cut in two.
use Rattle.std.specs.Prelude.{◌≡◌, ◌⊎◌, ◌<◌, ℕ, List, [], ◌∷◌, ◌++◌, map, length, Some, None, option_map}
use Rattle.yaml_scan_history.specs.scan_model.declared.name.yaml_encoding_t.{yaml_encoding_t}
use Rattle.yaml_scan_history.specs.scan_types.Tokens.{Token}
use Rattle.yaml_scan_history.specs.scan_types.Faults.{Fault}
use Rattle.yaml_scan_history.specs.scan_types.Marks.{line_at}
use Rattle.yaml_scan_history.specs.History.{flow_depth}
use Rattle.yaml_scan_history.specs.Remaining.{all, Remaining, offline}
use Rattle.yaml_scan_laws.specs.Cuts.{IsCut, IsEndCut}
use Rattle.yaml_scan_laws.specs.Moved.{moved_token, moved_fault}

-- what is to come of a text, its encoding named
abbrev pub scan_of : yaml_encoding_t → List ℕ → Remaining
scan_of encoding text = offline record { encoding = encoding; text = text }

-- the tokens before a cut, those after it as they are read of the rest alone, and the fault of the rest
abbrev pub joined : List ℕ → List Token → List Token → Remaining → Remaining
joined front before behind rest = record {
  tokens = before ++ map (moved_token (length front) (line_at front (length front))) behind;
  fault = option_map (moved_fault (length front) (line_at front (length front))) rest.fault;
}

-- Where a text is cut, and what is before has no fault and leaves no bracket open, the tokens of the whole are those of the
-- front without STREAM-END, and then those of the rest without STREAM-START, moved by the bytes and lines of the front; and its
-- fault is that of the rest, moved.
abbrev pub WindowsAreScanned : Type 0
WindowsAreScanned = (encoding : yaml_encoding_t) (front rest : List ℕ) → IsCut front rest
    → (scan_of encoding front).fault ≡ None → flow_depth (all front) ≡ 0
    → (before : List Token) (last : Token) → (scan_of encoding front).tokens ≡ before ++ last ∷ []
    → (first : Token) (behind : List Token) → (scan_of encoding rest).tokens ≡ first ∷ behind
    → scan_of encoding (front ++ rest) ≡ joined front before behind (scan_of encoding rest)

-- what is before a fault, and that fault
abbrev pub refused_by : Fault → Remaining → Remaining
refused_by g r = record { tokens = r.tokens; fault = Some g }

-- Where what is before a cut has a fault, the whole has its tokens and a fault, whatever is after the cut; and that is
-- the same fault, where either is before the cut.
abbrev pub RefusedFrontsAreScanned : Type 0
RefusedFrontsAreScanned = (encoding : yaml_encoding_t) (front rest : List ℕ) → IsCut front rest
    → (f : Fault) → (scan_of encoding front).fault ≡ Some f
    → (g : Fault) × (scan_of encoding (front ++ rest) ≡ refused_by g (scan_of encoding front))
    × ((f.problem_mark.index < length front) ⊎ (g.problem_mark.index < length front) → g ≡ f)

-- So it is where a text is cut after a line `...`.
abbrev pub EndedWindowsAreScanned : Type 0
EndedWindowsAreScanned = (encoding : yaml_encoding_t) (front rest : List ℕ) → IsEndCut front rest
    → (scan_of encoding front).fault ≡ None → flow_depth (all front) ≡ 0
    → (before : List Token) (last : Token) → (scan_of encoding front).tokens ≡ before ++ last ∷ []
    → (first : Token) (behind : List Token) → (scan_of encoding rest).tokens ≡ first ∷ behind
    → scan_of encoding (front ++ rest) ≡ joined front before behind (scan_of encoding rest)
