-- The flags of a scalar that an item settles to, and its tag: it is `!` only where the scalar is empty.
use Rattle.std.proofs.Common.{◌≡◌, ℕ, Bool, true, false, not, if◌then◌else◌, List, [], Option, Some, None, codes, arith}
use Rattle.yaml_round_content.proofs.Words.{nat_tests, bytes_eq, cases_Bool, true≢false, bytes_eq-Decides, yaml_encoding_t, yaml_scalar_style_t, EventBody, Shape, run, initial, no_directives, node_event, Told, is_lone_mark, tokens_of, events_of, read}
use Rattle.yaml_parse_model.specs.Events as event
use Rattle.yaml_emit_laws.proofs.Throughout.{EventsAre, reading_is}
use Rattle.yaml_round_content.proofs.Spellings.{IsWhole, IsSpelledItem}
use Rattle.yaml_round_content.proofs.Runs.{stream_spelled}
use Rattle.yaml_round_content.proofs.Tokens.{tokens_spelled}

-- ---- a scalar

abbrev pub IsNoMark : List ℕ → Type 0
IsNoMark tag = bytes_eq tag (codes "!") ≡ false

-- as a parser gives it
abbrev pub IsScalarRight : Option (List ℕ) → List ℕ → Bool → Bool → Type 0
IsScalarRight None value plain quoted = quoted ≡ not plain
IsScalarRight (Some tag) value plain quoted = is_lone_mark (Some tag) value ≡ false → IsNoMark tag

abbrev pub IsRight : EventBody → Type 0
IsRight (event.scalar anchor tag value plain quoted style) = IsScalarRight tag value plain quoted
IsRight _ = Unit {0}

empty_right : (tag : List ℕ) → is_lone_mark (Some tag) [] ≡ false → IsNoMark tag
empty_right tag e = grind (arith, nat_tests, cases_Bool, true≢false, bytes_eq-Decides)

tagged_right : (t : Bool) (anchor : Option (List ℕ)) (tag value : List ℕ)
    (style : yaml_scalar_style_t) → bytes_eq tag (codes "!") ≡ t
    → IsRight (if t then event.scalar anchor None value true false style else event.scalar anchor
    (Some tag) value false false style)
tagged_right t anchor tag value style e = grind (arith, nat_tests)

-- a choice of the two bools is the test turned round
pub flags_differ : (b : Bool) → (if b then false else true) ≡ not b
flags_differ b = grind (arith, nat_tests)

node_right : (anchor tag : Option (List ℕ)) (k : Shape) → IsRight (node_event anchor tag k)
node_right anchor tag k = grind (arith, nat_tests, empty_right, flags_differ, tagged_right)

-- ---- the events of an input

whole_right : (b : EventBody) → IsWhole b → IsRight b
whole_right b h = grind (arith, nat_tests)

abbrev pub AreRight : List Told → Type 0
AreRight ts = EventsAre IsRight ts

pub input_right : (from : yaml_encoding_t) (input : List ℕ) → AreRight (events_of from input)
unfolding read
input_right from input =
    let ts = (tokens_of from input).tokens in
    let f = (tokens_of from input).fault in
    reading_is IsSpelledItem IsRight (record { whole = whole_right; document = λ v tags implicit. tt; node = node_right }) (run ts initial f).items (run ts initial f).ending no_directives
    (stream_spelled ts f (tokens_spelled from input))
