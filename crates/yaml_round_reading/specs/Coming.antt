-- What is to come of an input's tokens, by the state of its scanner.
use Rattle.std.specs.Prelude.{◌≡◌, ◌⊎◌, ◌<◌, ℕ, Bool, true, false, [], ◌∷◌, length, Option, Some, None}
use Rattle.yaml_parse_model.specs.declared.yaml_fault_t.{yaml_fault_t}
use Rattle.yaml_parse_model.specs.scan_types.Tokens.{TokenBody, no, no_token}
use Rattle.yaml_parse_model.specs.scan_types.Faults.{Fault, IsMemoryFault, fault_of, scan_layers}
use Rattle.yaml_parse_model.specs.Source.{rest_of}
use Rattle.yaml_scan_laws.specs.scan_history.Remaining.{Remaining, SpelledText, nothing, offline}
use Rattle.yaml_scan_model.specs.declared.kind.Kind.{Kind}
use Rattle.yaml_scan_model.specs.declared.kind.Kind.TheVariants as kinds
use Rattle.yaml_scan_model.specs.Kinds.{is_fault}
use Rattle.yaml_scan_model.specs.Texts.{Texts, texts_in}
use Rattle.yaml_scan_core.specs.declared.scanner.Scanner.{Scanner}
use Rattle.yaml_scan_core.specs.Asked.{HasTaken, IsFront, front_lexeme}
use Rattle.yaml_scan_core.specs.Handed.{to_come}
use Rattle.yaml_scan_core.specs.Told.{fault_told, texts_of}
use Rattle.yaml_round_content.specs.Adapted.{adapted}
use Rattle.yaml_round_reading.specs.declared.scanned.Standing.{Standing}
use Rattle.yaml_round_reading.specs.declared.scanned.Standing.TheVariants as standing

-- only a fault is to come
abbrev pub ended_by : Fault → Remaining
ended_by f = record { tokens = []; fault = Some f }

-- What is to come: of a text its scanner's tokens, up to the first tag that isn't UTF-8, and where there is none the input's. After
-- a fault that was reported nothing comes, and after the last token the empty one where it was
-- given.
abbrev pub coming : Option yaml_fault_t → Standing → Remaining → Scanner → Remaining
coming (Some f) (standing.Told k) r s = ended_by (fault_of f)
coming (Some f) _ r s = adapted r
coming None (standing.Told kinds.Failed) r s = ended_by (fault_told s.text.now s.fault)
coming None (standing.Told kinds.Nothing) r s = record { tokens = no_token ∷ []; fault = None }
coming None _ r s = adapted (to_come s)

-- whether a fault was reported as what is next, or a token
abbrev pub told_by : Standing → Option Bool
told_by (standing.Told k) = Some (is_fault k)
told_by _ = None

-- the texts of the token that was taken last, if it was a lexeme's own
abbrev pub texts_by : Standing → Scanner → Texts
texts_by standing.Taken s = texts_of s
texts_by _ s = texts_in no

-- a token of that kind is next, or a fault
abbrev pub Knows : Kind → Scanner → Type 0
Knows kinds.Failed s = (s.row.next < s.row.settled) × ((front_lexeme s).front ≡ kinds.Failed)
Knows kinds.Nothing s = to_come s ≡ nothing
Knows k s = IsFront k s

-- the scanner is in that state; it isn't asked where there is no text, but memory ran out, or the
-- input has that fault
abbrev pub Stands : Option yaml_fault_t → Standing → Remaining → Scanner → Type 0
Stands (Some f) standing.Taken r s = ⊥
Stands (Some f) (standing.Told k) r s = k ≡ kinds.Failed
Stands (Some f) standing.Unasked r s = IsMemoryFault scan_layers (fault_of f)
    ⊎ (r ≡ ended_by (fault_of f))
Stands None standing.Taken r s = (b : TokenBody) × HasTaken s b
Stands None (standing.Told k) r s = Knows k s
Stands None standing.Unasked r s = Unit {0}

-- how many tokens weren't asked for, and how many were and weren't taken
abbrev pub unasked_in : Option Bool → Remaining → ℕ
unasked_in (Some false) r = length (rest_of r.tokens)
unasked_in _ r = length r.tokens

abbrev pub held_in : Option Bool → ℕ
held_in (Some false) = 1
held_in _ = 0

-- a text of that encoding has these tokens; where there is none, memory ran out, or the input has that fault
abbrev pub Gives : Option yaml_fault_t → SpelledText → Remaining → Type 0
Gives (Some f) t r = IsMemoryFault scan_layers (fault_of f) ⊎ (r ≡ ended_by (fault_of f))
Gives None t r = r ≡ offline t

-- ---- kinds

-- there is no token of that kind
abbrev pub is_none : Kind → Bool
is_none kinds.Failed = true
is_none kinds.BadTag = true
is_none kinds.BadPrefix = true
is_none kinds.Nothing = true
is_none k = false

-- `Nothing` was answered, after the last token; or a fault of the scanner
abbrev pub is_over : Standing → Bool
is_over (standing.Told kinds.Nothing) = true
is_over _ = false

abbrev pub is_failed : Standing → Bool
is_failed (standing.Told kinds.Failed) = true
is_failed _ = false

-- how it is after a token of that kind
abbrev pub behind : Kind → Standing
behind kinds.BlockEnd = standing.Unasked
behind kinds.BlockSequenceStart = standing.Unasked
behind kinds.BlockMappingStart = standing.Unasked
behind kinds.Key = standing.Unasked
behind _ = standing.Taken
