-- Whether what records name means something to an emitter, as tests.
use Rattle.std.specs.Prelude.{ℕ, Bool, true, false, ◌&&◌, List, Option, None, Some}
use Rattle.std.specs.Str.{is_utf8}
use Rattle.yaml_parse.specs.Events.{EventBody, TagDirective}
use Rattle.yaml_parse.specs.Events as event
use Rattle.yaml_round_answers.specs.Meaning.{are_utf8, may_give}

-- a text is there, and is UTF-8
abbrev pub is_text : Option (List ℕ) → Bool
is_text None = false
is_text (Some t) = is_utf8 t

abbrev pub is_directive : Option TagDirective → Bool
is_directive None = false
is_directive (Some d) = is_utf8 d.handle && is_utf8 d.prefix

abbrev pub are_directives : Option (List TagDirective) → Bool
are_directives None = false
are_directives (Some ds) = are_utf8 ds

abbrev pub is_event : Option EventBody → Bool
is_event None = false
is_event (Some b) = may_give b

-- an event can be given, whatever its directives are
abbrev pub may_give_beside : EventBody → Bool
may_give_beside (event.document_start version directives implicit) = true
may_give_beside b = may_give b
