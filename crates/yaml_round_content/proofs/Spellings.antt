-- Names and tags of well spelled tokens, in the items and states that a machine makes of them.
use Rattle.std.proofs.Common.{ℕ, List, Option, Some, None, arith}
use Rattle.yaml_round_content.proofs.Words.{nat_tests, IsSome, IsName, IsHandle, IsSpelled, EventBody, RawEventBody, Tag, State, IsTextless, bare_textless, Outer}
use Rattle.yaml_parse_model.specs.Events as event
use Rattle.yaml_emit_laws.specs.parse_grammar.Items as item
use Rattle.yaml_emit_laws.specs.parse_grammar.States as state

-- ---- items and states

abbrev pub IsNamed : Option (List ℕ) → Type 0
IsNamed None = Unit {0}
IsNamed (Some name) = IsName name

abbrev pub IsTagged : Option Tag → Type 0
IsTagged None = Unit {0}
IsTagged (Some t) = IsSome t.suffix

-- an event that the machine gives whole
abbrev pub IsWhole : EventBody → Type 0
IsWhole (event.stream_start encoding) = Unit {0}
IsWhole event.stream_end = Unit {0}
IsWhole (event.document_end implicit) = Unit {0}
IsWhole (event.alias name) = IsName name
IsWhole event.sequence_end = Unit {0}
IsWhole event.mapping_end = Unit {0}
IsWhole _ = ⊥

abbrev pub IsSpelledItem : RawEventBody → Type 0
IsSpelledItem (item.event body) = IsWhole body
IsSpelledItem (item.version_directive major minor) = Unit {0}
IsSpelledItem (item.tag_directive handle prefix) = IsHandle handle × IsSome prefix
IsSpelledItem (item.document implicit) = Unit {0}
IsSpelledItem (item.node anchor tag kind) = IsNamed anchor × IsTagged tag

abbrev pub IsSpelledState : State → Type 0
IsSpelledState (state.with_properties wants p) = IsNamed p.anchor × IsTagged p.tag
IsSpelledState _ = Unit {0}

textless_spelled : (x : State) → IsTextless x → IsSpelledState x
textless_spelled x h = grind (arith, nat_tests)

-- Names and tags stay well spelled throughout.
pub spelled_rules : Outer IsSpelled IsNamed IsTagged IsSpelledItem IsSpelledState
spelled_rules = grind (arith, nat_tests, textless_spelled, bare_textless)
