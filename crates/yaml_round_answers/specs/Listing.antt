-- Events that are put into records, one after another: what a record says stays as the block and the list grow.
use Rattle.std.specs.Prelude.{◌≡◌, ◌⊎◌, ◌+◌, ℕ, pos, List, [], ◌∷◌, ◌++◌, length, map, Option, None, Some, Result, Ok, Err}
use Rattle.std.specs.Option.{is_some}
use Rattle.yaml_parse.specs.declared.yaml_fault_t.{yaml_fault_t}
use Rattle.yaml_parse.specs.declared.yaml_mark_t.{yaml_mark_t}
use Rattle.yaml_parse.specs.declared.yaml_version_directive_t.{yaml_version_directive_t}
use Rattle.yaml_parse.specs.Events.{Event, EventBody, TagDirective}
use Rattle.yaml_parse.specs.Events as event
use Rattle.yaml_parse.specs.scan_types.Faults.{fault_of, IsMemoryFault, parse_layers}
use Rattle.yaml_parse.specs.Resolve.{Told}
use Rattle.yaml_parse.specs.Remaining.{ParserRemaining}
use Rattle.yaml_round_answers.specs.declared.record.yaml_c_mark.{yaml_c_mark}
use Rattle.yaml_round_answers.specs.declared.record.yaml_c_span.{yaml_c_span}
use Rattle.yaml_round_answers.specs.declared.record.yaml_c_directive.{yaml_c_directive}
use Rattle.yaml_round_answers.specs.declared.record.yaml_c_event.{yaml_c_event}
use Rattle.yaml_round_answers.specs.declared.listing.Listing.{Listing}
use Rattle.yaml_round_answers.specs.Numbers.{flag_told, encoding_number, scalar_style_number, sequence_style_number, mapping_style_number}
use Rattle.yaml_round_answers.specs.Records.{mark_told, part_at, all_directives, directives_at, no_span, plain, bare, body_meant, AllSay}
use Rattle.yaml_round_answers.specs.Blocks.{optional_text, directive_texts, node_texts, body_texts, body_directives, all_texts, listed_directives}

-- ---- what grows

pub record Grows {X : Type 0} (old new : List X) : Type 0 where
  pub more : List X
  pub is : new ≡ old ++ more

-- a text that is there
abbrev pub span_at : ℕ → List ℕ → yaml_c_span
span_at n text = record { at = n; len = length text }

-- a text is at the end
pub record PutsText (old text new : List ℕ) (s : yaml_c_span) : Type 0 where
  pub bytes : new ≡ old ++ text
  pub span : s ≡ span_at (length old) text

-- Whatever follows, the span names the text.
abbrev pub HoldsText : List ℕ → yaml_c_span → List ℕ → Type 0
HoldsText bytes s text = (more : List ℕ) → part_at (bytes ++ more) s ≡ Some text

-- ---- the record of an event

-- the span of a text that is there, where it isn't left out
abbrev pub optional_span : ℕ → Option (List ℕ) → yaml_c_span
optional_span n None = no_span
optional_span n (Some t) = span_at n t

-- a record with a node's properties, which are there one after another
abbrev pub with_properties : ℕ → Option (List ℕ) → Option (List ℕ) → yaml_c_event → yaml_c_event
with_properties n a t r = record r {
  has_anchor = flag_told (is_some a);
  anchor = optional_span n a;
  has_tag = flag_told (is_some t);
  tag = optional_span (n + length (optional_text a)) t;
}

-- a record with the texts of an event, which are there one after another
abbrev pub with_texts : ℕ → EventBody → yaml_c_event → yaml_c_event
with_texts n (event.alias a) r = record r { anchor = span_at n a }
with_texts n (event.scalar a t v p q s) r = record (with_properties n a t r) {
  value = span_at (n + length (optional_text a ++ optional_text t)) v;
}
with_texts n (event.sequence_start a t i s) r = with_properties n a t r
with_texts n (event.mapping_start a t i s) r = with_properties n a t r
with_texts n _ r = r

-- a record with a version, where there is one
abbrev pub with_version : Option yaml_version_directive_t → yaml_c_event → yaml_c_event
with_version None r = r
with_version (Some v) r = record r { has_version = pos 1; major = v.major; minor = v.minor }

-- kind, marks, flags and numbers of a scalar or a collection's start; of another event its marks
abbrev pub node_record : EventBody → yaml_c_mark → yaml_c_mark → yaml_c_event
node_record (event.scalar a t v p q y) s e = record (plain (pos 6) s e) {
  style = scalar_style_number y;
  implicit = flag_told p;
  quoted_implicit = flag_told q;
}
node_record (event.sequence_start a t i y) s e = record (plain (pos 7) s e) {
  style = sequence_style_number y;
  implicit = flag_told i;
}
node_record (event.mapping_start a t i y) s e = record (plain (pos 9) s e) {
  style = mapping_style_number y;
  implicit = flag_told i;
}
node_record _ s e = plain (pos 0) s e

-- what a record has of an event before its texts and directives are put
abbrev pub base_record : EventBody → yaml_c_mark → yaml_c_mark → yaml_c_event
base_record (event.stream_start x) s e =
    record (plain (pos 1) s e) { encoding = encoding_number x }
base_record event.stream_end s e = plain (pos 2) s e
base_record (event.document_start v ds i) s e =
    with_version v (record (plain (pos 3) s e) { implicit = flag_told i })
base_record (event.document_end i) s e = record (plain (pos 4) s e) { implicit = flag_told i }
base_record (event.alias a) s e = plain (pos 5) s e
base_record event.sequence_end s e = plain (pos 8) s e
base_record event.mapping_end s e = plain (pos 10) s e
base_record b s e = node_record b s e

-- an event's texts were put after the others, and its record has them
pub record PutsTexts (old : List ℕ) (b : EventBody) (base : yaml_c_event) (new : List ℕ)
    (r : yaml_c_event) : Type 0 where
  pub put : new ≡ old ++ node_texts b
  pub is : r ≡ with_texts (length old) b base

-- an event of that body between these marks
abbrev pub placed : EventBody → yaml_mark_t → yaml_mark_t → Event
placed b s e = record { body = b; start_mark = s; end_mark = e }

-- ---- directives

-- a directive's texts are there
pub record PutsDirective (old : List ℕ) (t : TagDirective) (new : List ℕ)
    (d : yaml_c_directive) : Type 0 where
  pub grows : Grows old new
  pub put : new ≡ old ++ (t.handle ++ t.prefix)
  pub handle : HoldsText new d.handle t.handle
  pub prefix : HoldsText new d.prefix t.prefix

abbrev pub HoldDirectives : List ℕ → List yaml_c_directive → List TagDirective → Type 0
HoldDirectives bytes ds ts = (more : List ℕ) → all_directives (bytes ++ more) ds ≡ Some ts

-- After the old directives come those that mean these, whatever bytes follow.
pub record AppendsDirectives (bytes : List ℕ) (old : List yaml_c_directive) (ts : List TagDirective)
    (new : List yaml_c_directive) : Type 0 where
  pub added : List yaml_c_directive
  pub is : new ≡ old ++ added
  pub hold : HoldDirectives bytes added ts

-- directives are at the end of the list
pub record AddsDirectives (old : Listing) (ts : List TagDirective) (new : Listing) : Type 0 where
  pub bytes : Grows old.bytes.items new.bytes.items
  pub put : new.bytes.items ≡ old.bytes.items ++ directive_texts ts
  pub added : List yaml_c_directive
  pub directives : new.directives.items ≡ old.directives.items ++ added
  pub hold : HoldDirectives new.bytes.items added ts
  pub events : new.events.items ≡ old.events.items

-- Whatever follows, the span names the directives.
abbrev pub HoldsList : List ℕ → List yaml_c_directive → yaml_c_span → List TagDirective → Type 0
HoldsList bytes list s ts = (more : List ℕ) (others : List yaml_c_directive)
    → directives_at (bytes ++ more) (list ++ others) s ≡ Some ts

pub record PutsDirectives (old : Listing) (ts : List TagDirective) (new : Listing)
    (s : yaml_c_span) : Type 0 where
  pub bytes : Grows old.bytes.items new.bytes.items
  pub directives : Grows old.directives.items new.directives.items
  pub put : new.bytes.items ≡ old.bytes.items ++ directive_texts ts
  pub list : AppendsDirectives new.bytes.items old.directives.items ts new.directives.items
  pub events : new.events.items ≡ old.events.items
  pub holds : HoldsList new.bytes.items new.directives.items s ts

-- Whatever follows, the record means the body.
abbrev pub HoldsBody : List ℕ → List yaml_c_directive → yaml_c_event → EventBody → Type 0
HoldsBody bytes list r b = (more : List ℕ) (others : List yaml_c_directive)
    → body_meant (bytes ++ more) (list ++ others) r ≡ Some b

-- a record was made of an event, whose texts and directives are in the listing
pub record Records (old : Listing) (e : Event) (new : Listing) (r : yaml_c_event) : Type 0 where
  pub bytes : Grows old.bytes.items new.bytes.items
  pub directives : Grows old.directives.items new.directives.items
  pub put : new.bytes.items ≡ old.bytes.items ++ body_texts e.body
  pub list : AppendsDirectives new.bytes.items old.directives.items (body_directives e.body)
      new.directives.items
  pub events : new.events.items ≡ old.events.items
  pub body : HoldsBody new.bytes.items new.directives.items r e.body
  pub start : r.start ≡ mark_told e.start_mark
  pub end : r.end ≡ mark_told e.end_mark
  pub alone : r ≡ bare e.body r

-- the record of an event is at the end of the list
pub record AddsRecord (old : Listing) (e : Event) (new : Listing) : Type 0 where
  pub bytes : Grows old.bytes.items new.bytes.items
  pub directives : Grows old.directives.items new.directives.items
  pub put : new.bytes.items ≡ old.bytes.items ++ body_texts e.body
  pub list : AppendsDirectives new.bytes.items old.directives.items (body_directives e.body)
      new.directives.items
  pub record_of : yaml_c_event
  pub events : new.events.items ≡ old.events.items ++ record_of ∷ []
  pub body : HoldsBody new.bytes.items new.directives.items record_of e.body
  pub start : record_of.start ≡ mark_told e.start_mark
  pub end : record_of.end ≡ mark_told e.end_mark
  pub alone : record_of ≡ bare e.body record_of

-- Whatever follows, the records say these events.
abbrev pub AreSaid : Listing → List Event → Type 0
AreSaid l es = (more : List ℕ) (others : List yaml_c_directive)
    → AllSay (l.bytes.items ++ more) (l.directives.items ++ others) l.events.items es

abbrev pub events_alone : List Told → List Event
events_alone es = map (λ (t : Told). t.0) es

-- the blocks hold what the events name, and nothing beside
pub record HoldsAll (l : Listing) (es : List Event) : Type 0 where
  pub bytes : l.bytes.items ≡ all_texts es
  pub directives : HoldDirectives l.bytes.items l.directives.items (listed_directives es)

-- of events that were to come, those before what is left are said
pub record Collected (start left : List Told) (l : Listing) : Type 0 where
  pub given : List Event
  pub said : AreSaid l given
  pub holds : HoldsAll l given
  pub split : events_alone start ≡ given ++ events_alone left

-- all of the reading's events are said, or the fault is the one that ends them, or out of memory
abbrev pub Collects : ParserRemaining → Result (Unit {0}) yaml_fault_t → Listing → Type 0
Collects reading (Ok done) l = (reading.ending ≡ None) × Collected reading.events [] l
Collects reading (Err f) l = IsMemoryFault parse_layers (fault_of f)
    ⊎ ((reading.ending ≡ Some (fault_of f)) × Collected reading.events [] l)

abbrev pub StartsEmpty : Listing → Type 0
StartsEmpty l = (l.events.items ≡ []) × (l.directives.items ≡ []) × (l.bytes.items ≡ [])
