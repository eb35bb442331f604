-- Directives and tags: what the items of a stream mean.
use Rattle.std.specs.Prelude.{ℕ, ℤ, pos, Bool, true, false, if◌then◌else◌, ◌&&◌, ◌||◌, List, [], ◌∷◌, ◌++◌, Option, Some, None, option_map, codes}
use Rattle.std.specs.Str.{bytes_eq}
use Rattle.std.specs.Ordering.{int_eq}
use Rattle.yaml_parse_model.specs.declared.yaml_mark_t.{yaml_mark_t}
use Rattle.yaml_parse_model.specs.declared.yaml_version_directive_t.{yaml_version_directive_t}
use Rattle.yaml_parse_model.specs.declared.yaml_scalar_style_t.{yaml_scalar_style_t}
use Rattle.yaml_parse_model.specs.declared.yaml_scalar_style_t.TheVariants.{YAML_PLAIN_SCALAR_STYLE}
use Rattle.yaml_parse_model.specs.scan_types.Faults.{Fault}
use Rattle.yaml_parse_model.specs.Events.{Event, EventBody, TagDirective}
use Rattle.yaml_parse_model.specs.Events as event
use Rattle.yaml_parse_model.specs.Nodes.{secondary_prefix}
use Rattle.yaml_parse_grammar.specs.declared.problem.ParseProblem.TheVariants as problem
use Rattle.yaml_parse_grammar.specs.Problems.{parser_fault}
use Rattle.yaml_parse_grammar.specs.Items.{RawEvent, RawEventBody, Shape}
use Rattle.yaml_parse_grammar.specs.Items as item
use Rattle.yaml_parse_grammar.specs.Trees.{Given}

-- the directives of a document
pub record Directives : Type 0 where
  pub version : Option yaml_version_directive_t
  pub tags : List TagDirective

abbrev pub no_directives : Directives
no_directives = record { version = None; tags = [] }

-- ---- tags

-- what a handle stands for where no directive says it
abbrev pub default_prefix : List ℕ → Option (List ℕ)
default_prefix handle =
    if bytes_eq handle (codes "!") then Some (codes "!")
    else if bytes_eq handle (codes "!!") then Some secondary_prefix
    else None

unfoldable pub directive_for : List ℕ → List TagDirective → Option (List ℕ)
directive_for handle [] = None
directive_for handle (d ∷ ds) = if bytes_eq d.handle handle then Some d.prefix
    else directive_for handle ds

abbrev pub or_default : Option (List ℕ) → List ℕ → Option (List ℕ)
or_default None handle = default_prefix handle
or_default (Some prefix) handle = Some prefix

-- the tag in full; a verbatim one has no handle
abbrev pub resolved : List TagDirective → List ℕ → List ℕ → Option (List ℕ)
resolved ds [] suffix = Some suffix
resolved ds (c ∷ handle) suffix = option_map (λ prefix. prefix ++ suffix)
    (or_default (directive_for (c ∷ handle) ds) (c ∷ handle))

-- ---- events of nodes

-- Tag, plain-implicit, quoted-implicit. A scalar with the tag `!` has none.
abbrev pub is_plain : yaml_scalar_style_t → Bool
is_plain YAML_PLAIN_SCALAR_STYLE = true
is_plain _ = false

abbrev pub scalar_event : Option (List ℕ) → Option (List ℕ) → List ℕ → yaml_scalar_style_t
    → EventBody
scalar_event anchor None value style =
    event.scalar anchor None value (is_plain style) (if is_plain style then false else true) style
scalar_event anchor (Some tag) value style =
    if bytes_eq tag (codes "!")
    then event.scalar anchor None value true false style
    else event.scalar anchor (Some tag) value false false style

abbrev pub is_missing : Option (List ℕ) → Bool
is_missing None = true
is_missing (Some tag) = false

abbrev pub node_event : Option (List ℕ) → Option (List ℕ) → Shape → EventBody
node_event anchor tag item.empty = event.scalar anchor tag [] (is_missing tag) false
    YAML_PLAIN_SCALAR_STYLE
node_event anchor tag (item.scalar value style) = scalar_event anchor tag value style
node_event anchor tag (item.sequence style) = event.sequence_start anchor tag (is_missing tag) style
node_event anchor tag (item.mapping style) = event.mapping_start anchor tag (is_missing tag) style

-- ---- items one after another

-- What an item gives: a fault, or an event or nothing and the directives from then on.
pub data Settled : Type 0 where
  refused : Fault → Settled
  gave : EventBody → Directives → Settled
  noted : Directives → Settled

abbrev pub is_known_version : ℤ → ℤ → Bool
is_known_version major minor = int_eq major (pos 1)
    && (int_eq minor (pos 1) || int_eq minor (pos 2))

abbrev pub with_version : Option yaml_version_directive_t → List TagDirective → ℤ → ℤ → yaml_mark_t
    → Settled
with_version (Some v) tags major minor at = refused (parser_fault problem.DuplicateVersion at at)
with_version None tags major minor at =
    if is_known_version major minor
    then noted (record { version = Some (record { major = major; minor = minor }); tags = tags })
    else refused (parser_fault problem.IncompatibleVersion at at)

abbrev pub with_tag : Option (List ℕ) → Directives → List ℕ → List ℕ → yaml_mark_t → Settled
with_tag (Some other) ds handle prefix at = refused (parser_fault problem.DuplicateHandle at at)
with_tag None ds handle prefix at =
    noted (record {
      version = ds.version;
      tags = ds.tags
          ++ (record { handle = handle; prefix = prefix } ∷ []);
    })

-- nothing carries over to the next document
abbrev pub behind_event : EventBody → Directives → Directives
behind_event (event.document_end implicit) ds = no_directives
behind_event _ ds = ds

abbrev pub with_resolved : Option (List ℕ) → Option (List ℕ) → Shape → yaml_mark_t → yaml_mark_t
    → Directives → Settled
with_resolved None anchor shape from at ds = refused (parser_fault problem.UndefinedHandle at from)
with_resolved (Some tag) anchor shape from at ds = gave (node_event anchor (Some tag) shape) ds

abbrev pub settle_body : RawEventBody → yaml_mark_t → Directives → Settled
settle_body (item.event body) from ds = gave body (behind_event body ds)
settle_body (item.version_directive major minor) from ds = with_version ds.version ds.tags major
    minor from
settle_body (item.tag_directive handle prefix) from ds = with_tag (directive_for handle ds.tags) ds
    handle prefix from
settle_body (item.document implicit) from ds = gave
    (event.document_start ds.version ds.tags implicit) ds
settle_body (item.node anchor None shape) from ds = gave (node_event anchor None shape) ds
settle_body (item.node anchor (Some tag) shape) from ds = with_resolved
    (resolved ds.tags tag.handle tag.suffix) anchor shape from tag.mark ds

abbrev pub settle : RawEvent → Directives → Settled
settle i ds = settle_body i.body i.from ds

-- an event to come, and the number of tokens that are not asked for as it is given
abbrev pub Told : Type 0
Told = Event × ℕ

pub record Reading : Type 0 where
  pub events : List Told
  pub ending : Option Fault

abbrev pub placed : EventBody → RawEvent → Event
placed body i = record { body = body; start_mark = i.from; end_mark = i.to }

-- what one settled item puts before the reading of the others
abbrev pub read_on : Settled → RawEvent → ℕ → (Directives → Reading) → Reading
read_on (refused f) i left k = record { events = []; ending = Some f }
read_on (gave body ds) i left k = record {
  events = (placed body i, left) ∷ (k ds).events;
  ending = (k ds).ending;
}
read_on (noted ds) i left k = k ds

-- the events of the items, up to the first fault
unfoldable pub reading : List Given → Option Fault → Directives → Reading
reading [] f ds = record { events = []; ending = f }
reading (g ∷ gs) f ds = read_on (settle g.0 ds) g.0 g.1 (λ ds'. reading gs f ds')

-- how many tokens are not asked for at the first fault: that many where an item has it
abbrev pub unasked_on : Settled → ℕ → (Directives → ℕ) → ℕ
unasked_on (refused f) left k = left
unasked_on (gave body ds) left k = k ds
unasked_on (noted ds) left k = k ds

-- how many tokens are not asked for at the first fault of all items; the number given is that of
-- the fault after them
unfoldable pub unasked_at_fault : List Given → ℕ → Directives → ℕ
unasked_at_fault [] behind ds = behind
unasked_at_fault (g ∷ gs) behind ds = unasked_on (settle g.0 ds) g.1
    (λ ds'. unasked_at_fault gs behind ds')
