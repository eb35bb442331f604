-- In what two events differ, of what they say.
use Rattle.std.specs.Prelude.{◌≡◌, ℕ, Bool, true, false, if◌then◌else◌, List, Option, Some, None, nat_eq}
use Rattle.std.specs.Cmp.Lexicographic.{pointwise}
use Rattle.yaml_parse.specs.Events.{EventBody}
use Rattle.yaml_parse.specs.Events as event
use Rattle.yaml_round_engine.specs.declared.cause.yaml_cause_t.{yaml_cause_t}
use Rattle.yaml_round_engine.specs.declared.cause.yaml_cause_t.TheVariants.{OnlyFirst, OnlySecond, Kind, Directives, Value, Tag, Quotes, Anchor}

-- the event ends a collection, a document or the stream
abbrev pub is_end : EventBody → Bool
is_end (event.document_end implicit) = true
is_end event.sequence_end = true
is_end event.mapping_end = true
is_end event.stream_end = true
is_end _ = false

-- of two kinds of events: whether only one of them ends what is open
abbrev pub cause_between : Bool → Bool → yaml_cause_t
cause_between false true = OnlyFirst
cause_between true false = OnlySecond
cause_between false false = Kind
cause_between true true = Kind

abbrev pub same_tag : Option (List ℕ) → Option (List ℕ) → Bool
same_tag None None = true
same_tag (Some t) (Some u) = pointwise nat_eq t u
same_tag None (Some u) = false
same_tag (Some t) None = false

-- one is plain, and the other isn't; or the anchors are left
abbrev pub quotes_or_anchor : Bool → Bool → yaml_cause_t
quotes_or_anchor true true = Anchor
quotes_or_anchor false false = Anchor
quotes_or_anchor true false = Quotes
quotes_or_anchor false true = Quotes

-- the tags, or else that
abbrev pub tag_or : Option (List ℕ) → Option (List ℕ) → yaml_cause_t → yaml_cause_t
tag_or t u c = if same_tag t u then c else Tag

-- In what two events that differ do so: of two kinds whether only one of them ends what is open; of one kind the directives of
-- documents, and of nodes the first that differs of text, tag, plainness and anchor.
abbrev pub cause_of : EventBody → EventBody → yaml_cause_t
cause_of (event.document_start v d i) (event.document_start w e j) = Directives
cause_of (event.alias name) (event.alias other) = Anchor
cause_of (event.scalar anchor t text p q style) (event.scalar other u words r s as_style) =
    if pointwise nat_eq text words then tag_or t u (quotes_or_anchor p r) else Value
cause_of (event.sequence_start anchor t i style) (event.sequence_start other u j as_style) =
    tag_or t u Anchor
cause_of (event.mapping_start anchor t i style) (event.mapping_start other u j as_style) =
    tag_or t u Anchor
cause_of a b = cause_between (is_end a) (is_end b)

-- they are the same, or they differ, in that
abbrev pub Parts : EventBody → EventBody → Option yaml_cause_t → Type 0
Parts a b None = a ≡ b
Parts a b (Some c) = (a ≡ b → ⊥) × (c ≡ cause_of a b)

-- it is a scalar
abbrev pub IsScalar : EventBody → Type 0
IsScalar (event.scalar anchor tag value plain quoted style) = Unit {0}
IsScalar _ = ⊥

-- it is a document's start
abbrev pub IsDocumentStart : EventBody → Type 0
IsDocumentStart (event.document_start version directives implicit) = Unit {0}
IsDocumentStart _ = ⊥

-- the same of anchors and tags
abbrev pub PartsNode : Option (List ℕ) → Option (List ℕ) → Option (List ℕ) → Option (List ℕ)
    → Option yaml_cause_t → Type 0
PartsNode a t b u None = (a ≡ b) × (t ≡ u)
PartsNode a t b u (Some c) = (a ≡ b → t ≡ u → ⊥) × (c ≡ tag_or t u Anchor)

-- of the next events; what goes on alone is in that alone
abbrev pub next_cause : Option EventBody → Option EventBody → yaml_cause_t
next_cause (Some a) (Some b) = cause_of a b
next_cause (Some a) None = OnlyFirst
next_cause None (Some b) = OnlySecond
next_cause None None = Kind
