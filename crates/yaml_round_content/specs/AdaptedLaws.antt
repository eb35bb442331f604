-- What a parser takes of a text in UTF-8, a token at a time.
use Rattle.std.specs.Prelude.{ℕ, ◌≡◌, ◌⊎◌, true, false, [], None, Some, IsUtf8, All}
use Rattle.yaml_parse_model.specs.scan_types.Tokens.{Token}
use Rattle.yaml_parse_model.specs.scan_types.Faults.{Fault, IsMemoryFault, scan_layers}
use Rattle.yaml_scan_laws.specs.scan_history.Remaining.{SpelledText, Remaining, remaining}
use Rattle.yaml_scan_laws.specs.Utf8Texts.{HasTexts}
use Rattle.yaml_parse_model.specs.Source.{front_of, rest_of, MayAnswer, HasMore, HasUtf8, GivesToken, GivesFault}
use Rattle.yaml_round_content.specs.Adapted.{spells_text, tag_fault, adapted}

-- Its texts are UTF-8.
abbrev pub AdaptedIsUtf8 : Type 0
AdaptedIsUtf8 = (s : SpelledText) → IsUtf8 s.text → (dropped given : ℕ)
    → All (λ t. HasUtf8 t.body) (adapted (remaining s dropped given)).tokens

-- The first token that is to come is given where its tag is UTF-8, and the rest is left.
abbrev pub FrontIsGiven : Type 0
FrontIsGiven = (old new : Remaining) (t : Token) → t ≡ front_of old.tokens
    → new.tokens ≡ rest_of old.tokens → new.fault ≡ old.fault → MayAnswer old.tokens old.fault
    → HasTexts t.body → spells_text t.body ≡ true → GivesToken (adapted old).tokens
    (adapted old).fault t (adapted new).tokens (adapted new).fault

-- Where its tag isn't UTF-8, its fault is given, and nothing is left.
abbrev pub TagIsRefused : Type 0
TagIsRefused = (old : Remaining) (t : Token) → t ≡ front_of old.tokens → spells_text t.body ≡ false
    → GivesFault (adapted old).tokens (adapted old).fault (tag_fault t.start_mark) [] None

-- Where something is to come, its fault, and out of memory, is given as it is.
abbrev pub FaultIsGiven : Type 0
FaultIsGiven = (old : Remaining) (f : Fault) → HasMore old.tokens old.fault
    → IsMemoryFault scan_layers f ⊎ ((old.tokens ≡ []) × (old.fault ≡ Some f))
    → GivesFault (adapted old).tokens (adapted old).fault f [] None
