-- How the tokens of a text begin and end.
use Rattle.std.specs.Prelude.{◌≡◌, ◌≢◌, Some, None, List, [], ◌∷◌, ◌++◌, All}
use Rattle.yaml_scan_history.specs.scan_types.Tokens.{Token, stream_start, stream_end, zero_mark}
use Rattle.yaml_scan_history.specs.scan_types.Faults.{Fault}
use Rattle.yaml_scan_history.specs.Remaining.{SpelledText, offline}

-- The first token is STREAM-START, with the encoding, also where a fault follows.
abbrev pub StreamStarts : Type 0
StreamStarts = (s : SpelledText) → (rest : List Token)
    × ((offline s).tokens ≡ record {
      body = stream_start s.encoding;
      start_mark = zero_mark;
      end_mark = zero_mark;
    } ∷ rest)

-- A text without fault ends in STREAM-END, and has none before.
abbrev pub StreamEnds : Type 0
StreamEnds = (s : SpelledText) → (offline s).fault ≡ None → (front : List Token) × (last : Token)
    × ((offline s).tokens ≡ front ++ last ∷ []) × (last.body ≡ stream_end)
    × All (λ t. t.body ≢ stream_end) front

-- One with a fault has none.
abbrev pub FaultEndsNone : Type 0
FaultEndsNone = (s : SpelledText) (f : Fault) → (offline s).fault ≡ Some f
    → All (λ t. t.body ≢ stream_end) (offline s).tokens
