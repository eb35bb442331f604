-- Which lists of events an emitter takes, and which event it refuses first.
use Rattle.std.specs.Prelude.{ℕ, ◌-◌, Bool, true, false, not, ◌&&◌, ◌||◌, ◌==◌, if◌then◌else◌, List, [], ◌∷◌, ◌++◌, length, take, drop, get_or, Option, Some, None, pos, nat_eq, codes}
use Rattle.std.specs.Cmp.Lexicographic.{pointwise}
use Rattle.std.specs.List.{list_all, list_any}
use Rattle.std.specs.Ordering.{int_eq}
use Rattle.yaml_scan_types.specs.Ascii as ascii
use Rattle.yaml_scan_types.specs.Classes.{is_alpha_byte}
use Rattle.yaml_scan_model.specs.declared.record.yaml_version_directive_t.{yaml_version_directive_t}
use Rattle.yaml_parse_model.specs.Events.{TagDirective}
use Rattle.yaml_emit_layout.specs.declared.problem.Problem.{Problem}
use Rattle.yaml_emit_layout.specs.declared.problem.Problem.TheVariants as problem
use Rattle.yaml_emit_layout.specs.declared.level.Level.{Level}
use Rattle.yaml_emit_layout.specs.declared.level.Phase.{Phase}
use Rattle.yaml_emit_layout.specs.declared.level.Phase.TheVariants.{Items, Keys}
use Rattle.yaml_emit_layout.specs.declared.level.Expected.{Expected}
use Rattle.yaml_emit_layout.specs.declared.level.Expected.TheVariants as at
use Rattle.yaml_emit_layout.specs.Content.{Scalar, Start, Opening, Event, no_event, stream_start, stream_end, document_start, document_end, alias, scalar, sequence_start, sequence_end, mapping_start, mapping_end}

-- the text of a problem
abbrev pub problem_bytes : Problem → List ℕ
problem_bytes problem.AnchorEmpty = codes "anchor value must not be empty"
problem_bytes problem.AnchorCharacters = codes
    "anchor value must contain alphanumerical characters only"
problem_bytes problem.AliasEmpty = codes "alias value must not be empty"
problem_bytes problem.AliasCharacters = codes
    "alias value must contain alphanumerical characters only"
problem_bytes problem.TagEmpty = codes "tag value must not be empty"
problem_bytes problem.ExpectedStreamStart = codes "expected STREAM-START"
problem_bytes problem.ExpectedDocumentStartOrStreamEnd = codes
    "expected DOCUMENT-START or STREAM-END"
problem_bytes problem.ExpectedNode = codes
    "expected SCALAR, SEQUENCE-START, MAPPING-START, or ALIAS"
problem_bytes problem.ExpectedDocumentEnd = codes "expected DOCUMENT-END"
problem_bytes problem.ExpectedNothing = codes "expected nothing after STREAM-END"
problem_bytes problem.Version = codes "incompatible %YAML directive"
problem_bytes problem.HandleEmpty = codes "tag handle must not be empty"
problem_bytes problem.HandleStart = codes "tag handle must start with '!'"
problem_bytes problem.HandleEnd = codes "tag handle must end with '!'"
problem_bytes problem.HandleCharacters = codes
    "tag handle must contain alphanumerical characters only"
problem_bytes problem.PrefixEmpty = codes "tag prefix must not be empty"
problem_bytes problem.HandleTwice = codes "duplicate %TAG directive"
problem_bytes problem.NoFlags = codes "neither tag nor implicit flags are specified"

abbrev pub or_else : Option Problem → Option Problem → Option Problem
or_else (Some p) q = Some p
or_else None q = q

abbrev pub has : Option (List ℕ) → Bool
has None = false
has (Some t) = true

abbrev pub kept_if : Bool → Option (List ℕ) → Option (List ℕ)
kept_if true t = t
kept_if false t = None

-- a tag that is written: in pretty form one that may be left out isn't
abbrev pub kept_tag : Bool → Bool → Option (List ℕ) → Option (List ℕ)
kept_tag canonical left_out t = kept_if (canonical || not left_out) t

abbrev pub scalar_tag : Bool → Scalar → Option (List ℕ)
scalar_tag canonical x = kept_tag canonical (x.plain || x.quoted) x.tag

abbrev pub start_tag : Bool → Start → Option (List ℕ)
start_tag canonical p = kept_tag canonical p.implicit p.tag

-- a name is one or more of 0-9 A-Z a-z _ -
abbrev pub name_problem : Problem → Problem → List ℕ → Option Problem
name_problem empty characters name =
    if length name == 0 then Some empty
    else if list_all is_alpha_byte name then None
    else Some characters

abbrev pub anchor_problem : Option (List ℕ) → Option Problem
anchor_problem None = None
anchor_problem (Some name) = name_problem problem.AnchorEmpty problem.AnchorCharacters name

abbrev pub tag_problem : Option (List ℕ) → Option Problem
tag_problem None = None
tag_problem (Some t) = if length t == 0 then Some problem.TagEmpty else None

-- what is wrong with an event's anchor or tag
unfoldable pub event_problem : Bool → Event → Option Problem
event_problem canonical (alias name) = name_problem problem.AliasEmpty problem.AliasCharacters name
event_problem canonical (scalar x) = or_else (anchor_problem x.anchor)
    (tag_problem (scalar_tag canonical x))
event_problem canonical (sequence_start p) = or_else (anchor_problem p.anchor)
    (tag_problem (start_tag canonical p))
event_problem canonical (mapping_start p) = or_else (anchor_problem p.anchor)
    (tag_problem (start_tag canonical p))
event_problem canonical no_event = None
event_problem canonical (stream_start x) = None
event_problem canonical stream_end = None
event_problem canonical (document_start o) = None
event_problem canonical (document_end implicit) = None
event_problem canonical sequence_end = None
event_problem canonical mapping_end = None

-- versions 1.1 and 1.2
abbrev pub is_version : yaml_version_directive_t → Bool
is_version v = int_eq v.major (pos 1) && (int_eq v.minor (pos 1) || int_eq v.minor (pos 2))

abbrev pub version_problem : Option yaml_version_directive_t → Option Problem
version_problem None = None
version_problem (Some v) = if is_version v then None else Some problem.Version

-- what is between the first and the last byte
abbrev pub between : List ℕ → List ℕ
between h = take (length h - 1 - 1) (drop 1 h)

abbrev pub inner_problem : List ℕ → Option Problem
inner_problem h = if list_all is_alpha_byte (between h) then None else Some problem.HandleCharacters

abbrev pub ends_problem : List ℕ → Option Problem
ends_problem h =
    if not (get_or h 0 0 == ascii.exclamation) then Some problem.HandleStart
    else if not (get_or h (length h - 1) 0 == ascii.exclamation) then Some problem.HandleEnd
    else inner_problem h

-- a handle is `!` or `!name!`
unfoldable pub handle_problem : List ℕ → Option Problem
handle_problem h = if length h == 0 then Some problem.HandleEmpty else ends_problem h

abbrev pub prefix_problem : List ℕ → Option Problem
prefix_problem p = if length p == 0 then Some problem.PrefixEmpty else None

abbrev pub has_handle : List ℕ → TagDirective → Bool
has_handle h d = pointwise nat_eq d.handle h

-- no handle twice
abbrev pub twice_problem : List TagDirective → List ℕ → Option Problem
twice_problem before h = if list_any (has_handle h) before then Some problem.HandleTwice else None

abbrev pub directive_problem : List TagDirective → TagDirective → Option Problem
directive_problem before d = or_else (handle_problem d.handle)
    (or_else (prefix_problem d.prefix) (twice_problem before d.handle))

-- the first problem of a document's directives, by those before
unfoldable pub directives_problem : List TagDirective → List TagDirective → Option Problem
directives_problem before [] = None
directives_problem before (d ∷ ds) = or_else (directive_problem before d)
    (directives_problem (before ++ d ∷ []) ds)

abbrev pub opening_problem : Opening → Option Problem
opening_problem o = or_else (version_problem o.version) (directives_problem [] o.directives)

-- an untagged scalar has a flag
abbrev pub flags_problem : Scalar → Option Problem
flags_problem x = if has x.tag || (x.plain || x.quoted) then None else Some problem.NoFlags

-- what is judged after the place
unfoldable pub last_problem : Event → Option Problem
last_problem (document_start o) = opening_problem o
last_problem (scalar x) = flags_problem x
last_problem no_event = None
last_problem (stream_start x) = None
last_problem stream_end = None
last_problem (document_end implicit) = None
last_problem (alias name) = None
last_problem (sequence_start p) = None
last_problem sequence_end = None
last_problem (mapping_start p) = None
last_problem mapping_end = None

-- what is wrong with an event wherever it is
abbrev pub own_problem : Bool → Event → Option Problem
own_problem canonical e = or_else (event_problem canonical e) (last_problem e)

-- the first event of a list with which something is wrong wherever it is
unfoldable pub own_problems : Bool → List Event → Option Problem
own_problems canonical [] = None
own_problems canonical (e ∷ es) = or_else (own_problem canonical e) (own_problems canonical es)

-- what may close the innermost collection
abbrev pub ends_phase : Phase → Event → Bool
ends_phase (Items fresh) sequence_end = true
ends_phase (Keys fresh) mapping_end = true
ends_phase phase e = false

abbrev pub begins_node : Event → Bool
begins_node (alias name) = true
begins_node (scalar x) = true
begins_node (sequence_start p) = true
begins_node (mapping_start p) = true
begins_node no_event = false
begins_node (stream_start x) = false
begins_node stream_end = false
begins_node (document_start o) = false
begins_node (document_end implicit) = false
begins_node sequence_end = false
begins_node mapping_end = false

abbrev pub may_come : Option Level → Event → Bool
may_come None e = begins_node e
may_come (Some l) e = begins_node e || ends_phase l.phase e

abbrev pub node_problem : Option Level → Event → Option Problem
node_problem top e = if may_come top e then None else Some problem.ExpectedNode

-- what is wrong with it at a place
unfoldable pub place_problem : Expected → Option Level → Event → Option Problem
place_problem at.StreamStart ls (stream_start x) = None
place_problem at.StreamStart ls _ = Some problem.ExpectedStreamStart
place_problem (at.Documents first unended) ls (document_start o) = None
place_problem (at.Documents first unended) ls stream_end = None
place_problem (at.Documents first unended) ls _ = Some problem.ExpectedDocumentStartOrStreamEnd
place_problem at.Node ls e = node_problem ls e
place_problem at.DocumentEnd ls (document_end implicit) = None
place_problem at.DocumentEnd ls _ = Some problem.ExpectedDocumentEnd
place_problem at.End ls _ = Some problem.ExpectedNothing
place_problem (at.Refused p) ls _ = Some p

-- the anchor, the tag, the place, then the directives or the flags
unfoldable pub problem_by : Bool → Expected → Option Level → Event → Option Problem
problem_by canonical place top e = or_else (event_problem canonical e)
    (or_else (place_problem place top e) (last_problem e))
