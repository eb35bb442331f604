-- What a load comes to, said by content: by that of the document whose events come next.
use Rattle.std.specs.Prelude.{◌≡◌, ◌⊎◌, ◌≤◌, ℕ, Bool, true, false, ◌||◌, List, [], ◌∷◌, ◌++◌, map, Option, Some, None, Ok}
use Rattle.yaml_parse_laws_trees.specs.parse_grammar.parse_model.declared.yaml_mark_t.{yaml_mark_t}
use Rattle.yaml_parse_model.specs.scan_types.Faults.{Fault, IsMemoryFault, scan_layers, load_layers}
use Rattle.yaml_parse_laws_trees.specs.parse_grammar.parse_model.Source.{HasMore}
use Rattle.yaml_parse_laws_trees.specs.parse_grammar.parse_model.Events.{Event, EventBody}
use Rattle.yaml_parse_laws_trees.specs.parse_grammar.parse_model.Events as event
use Rattle.yaml_parse_model.specs.Documents.{Document, no_document}
use Rattle.yaml_parse_laws_trees.specs.parse_grammar.Resolve.{Told}
use Rattle.yaml_parse_laws_trees.specs.parse_grammar.Remaining.{ParserRemaining, IsFinished}
use Rattle.yaml_parse_loader.specs.Numbering.{is_same, undefined_alias, DocumentContent, document_events, document_of}

-- ---- events without their numbers

abbrev pub told_events : List Told → List Event
told_events gs = map (λ (g : Told). g.0) gs

-- how many tokens are not asked for as the last of these events is given, or before it where there is none
unfoldable pub left_behind : List Told → ℕ → ℕ
left_behind [] n = n
left_behind (g ∷ gs) n = left_behind gs g.1

-- ---- aliases without an anchor

abbrev pub is_among : List ℕ → List (List ℕ) → Bool
is_among name [] = false
is_among name (n ∷ names) = is_same name n || is_among name names

abbrev pub and_anchor : Option (List ℕ) → List (List ℕ) → List (List ℕ)
and_anchor None names = names
and_anchor (Some name) names = name ∷ names

-- a node's anchor counts from the node's first event on
abbrev pub names_behind : EventBody → List (List ℕ) → List (List ℕ)
names_behind (event.scalar anchor tag value plain quoted style) names = and_anchor anchor names
names_behind (event.sequence_start anchor tag implicit style) names = and_anchor anchor names
names_behind (event.mapping_start anchor tag implicit style) names = and_anchor anchor names
names_behind _ names = names

abbrev pub unless_known : Bool → yaml_mark_t → Option Fault
unless_known true at = None
unless_known false at = Some (undefined_alias at)

-- the fault of an alias: no node before it has one of these anchors
abbrev pub wrong_alias : EventBody → yaml_mark_t → List (List ℕ) → Option Fault
wrong_alias (event.alias name) at names = unless_known (is_among name names) at
wrong_alias _ at names = None

abbrev pub or_later : Option Fault → ℕ → Option (Fault × ℕ) → Option (Fault × ℕ)
or_later None left later = later
or_later (Some f) left later = Some (f, left)

-- Of a document's events the first alias without a node before it that has its anchor: its fault, and the number of tokens
-- that are not asked for as it is given.
unfoldable pub first_wrong : List Told → List (List ℕ) → Option (Fault × ℕ)
first_wrong [] names = None
first_wrong (g ∷ gs) names = or_later (wrong_alias g.0.body g.0.start_mark names) g.1
    (first_wrong gs (names_behind g.0.body names))

-- ---- what is next

-- an event of no document
abbrev pub IsOutside : EventBody → Type 0
IsOutside event.no = Unit {0}
IsOutside (event.stream_start encoding) = Unit {0}
IsOutside event.stream_end = Unit {0}
IsOutside _ = ⊥

abbrev pub AreOutside : List Told → Type 0
AreOutside [] = Unit {0}
AreOutside (g ∷ gs) = IsOutside g.0.body × AreOutside gs

-- A whole document comes next: events of none, those of its content, and what is left after them.
pub record NextDocument (gs : List Told) (d : DocumentContent) (left : List Told)
    (unasked : ℕ) : Type 0 where
  pub outside : List Told
  pub told : List Told
  pub split : gs ≡ outside ++ (told ++ left)
  pub none : AreOutside outside
  pub events : told_events (told ++ left) ≡ document_events d (told_events left)
  -- that many tokens are not asked for as its last event is given
  pub count : unasked ≡ left_behind told 0

-- Less than a document comes next: events of none, and a front of those of a content, which may be empty.
pub record NextFront (gs told left : List Told) : Type 0 where
  pub outside : List Told
  pub split : gs ≡ outside ++ (told ++ left)
  pub none : AreOutside outside
  pub content : DocumentContent
  pub following : Event
  pub more : List Event
  pub front : document_events content [] ≡ told_events told ++ following ∷ more

-- ---- what is loaded of it

-- the next document with what is left after it; a fault, with that many tokens not asked for; or no document any more
pub data NextLoad : Type 0 where
  next_document : Document → List Told → ℕ → NextLoad
  next_fault : Fault → ℕ → NextLoad
  next_none : NextLoad

-- a document comes next, and the numbering of its content is this
pub record NumbersNext (gs : List Told) (e : Document) (left : List Told) (unasked : ℕ) : Type 0
  where
    pub content : DocumentContent
    pub next : NextDocument gs content left unasked
    pub numbered : document_of content ≡ Ok e

-- an alias of the document that comes next has no node before it with its anchor, and is the first such
pub record WrongAliasNext (gs : List Told) (f : Fault) (unasked : ℕ) : Type 0 where
  pub told : List Told
  pub left : List Told
  pub next : NextFront gs told left
  pub first : first_wrong told [] ≡ Some (f, unasked)

-- no whole document comes any more, and each alias has its anchor
pub record NoneNext (gs : List Told) : Type 0 where
  pub told : List Told
  pub next : NextFront gs told []
  pub right : first_wrong told [] ≡ None

-- What a load of the events to come gives: the document that comes next, its nodes numbered; the fault of an alias in it, which
-- comes before the fault after the events; that fault, where no document ends before it; or that there is none any more.
abbrev pub IsLoadOf : List Told → Option Fault → ℕ → NextLoad → Type 0
IsLoadOf gs own behind (next_document e left unasked) = NumbersNext gs e left unasked
IsLoadOf gs own behind (next_fault f unasked) = WrongAliasNext gs f unasked
    ⊎ (NoneNext gs × ((own ≡ Some f) × (unasked ≡ behind)))
IsLoadOf gs own behind next_none = NoneNext gs × (own ≡ None)

abbrev pub IsNextLoad : ParserRemaining → NextLoad → Type 0
IsNextLoad c n = IsLoadOf c.events c.ending c.ending_unasked n

-- a document was loaded, and what is after it is left
pub record GivesDocument (left : List Told) (count : ℕ) (old new : ParserRemaining) : Type 0 where
  pub events : new.events ≡ left
  pub ending : new.ending ≡ old.ending
  pub ending_unasked : new.ending_unasked ≡ old.ending_unasked
  pub unasked : new.unasked ≡ count
  pub answered : new.answered ≡ old.answered

-- no document comes any more, and after the last event no token is asked for
pub record GivesNoDocument (old new : ParserRemaining) : Type 0 where
  pub finished : IsFinished new
  pub unasked : new.unasked ≡ left_behind old.events old.unasked
  pub answered : new.answered ≡ old.answered

-- a load answers so
abbrev pub GivesLoad : NextLoad → Document → ParserRemaining → ParserRemaining → Type 0
GivesLoad (next_document e left unasked) d old new = (d ≡ e) × GivesDocument left unasked old new
GivesLoad (next_fault f unasked) d old new = ⊥
GivesLoad next_none d old new = (d ≡ no_document) × GivesNoDocument old new

abbrev pub IsRefusalOf : NextLoad → Fault → ℕ → Type 0
IsRefusalOf (next_fault g count) f unasked = (f ≡ g) × (unasked ≡ count)
IsRefusalOf _ f unasked = ⊥

-- how many tokens are not asked for as it is answered
abbrev pub load_unasked : NextLoad → ParserRemaining → ℕ
load_unasked (next_document e left unasked) old = unasked
load_unasked (next_fault f unasked) old = unasked
load_unasked next_none old = left_behind old.events old.unasked

-- Or is refused so, or when out of memory. Something was to come, so it is refused once, and after that, as after the last
-- document, the document without root comes.
pub record RefusesNext (n : NextLoad) (f : Fault) (old new : ParserRemaining) : Type 0 where
  pub more : HasMore old.events old.ending
  pub finished : IsFinished new
  pub answered : new.answered ≡ f
  pub reason : IsMemoryFault load_layers f ⊎ IsRefusalOf n f new.unasked
  -- No token was asked for after the place of what was to come; where the source lacks memory, none of its tokens is left.
  pub asked : IsMemoryFault scan_layers f ⊎ (load_unasked n old ≤ new.unasked)

-- The next load is the one that content says, whichever content's the events are.
abbrev pub LoadIsNext : ParserRemaining → Document → ParserRemaining → Type 0
LoadIsNext old d new = (n : NextLoad) → IsNextLoad old n → GivesLoad n d old new

abbrev pub RefusalIsNext : ParserRemaining → Fault → ParserRemaining → Type 0
RefusalIsNext old f new = (n : NextLoad) → IsNextLoad old n → RefusesNext n f old new

-- ---- load after load

-- Load after load, each is one that content says, up to a fault or the last document.
pub data LoadsByContent (own : Option Fault) (behind : ℕ) : List Told → Type 0 where
  one_more : (gs left : List Told) (e : Document) (unasked : ℕ)
      → IsLoadOf gs own behind (next_document e left unasked)
      → LoadsByContent own behind left → LoadsByContent own behind gs
  refused : (gs : List Told) (f : Fault) (unasked : ℕ)
      → IsLoadOf gs own behind (next_fault f unasked) → LoadsByContent own behind gs
  ended : (gs : List Told) → IsLoadOf gs own behind next_none → LoadsByContent own behind gs

-- the fault that they come to, where there is one
abbrev pub loads_fault : {own : Option Fault} {behind : ℕ} {gs : List Told}
    → LoadsByContent own behind gs → Option Fault
loads_fault (one_more gs left e unasked h more) = loads_fault more
loads_fault (refused gs f unasked h) = Some f
loads_fault (ended gs h) = None

-- Of what is to come of a parser each load is such a one.
abbrev pub AreLoadsByContent : ParserRemaining → Type 0
AreLoadsByContent c = LoadsByContent c.ending c.ending_unasked c.events

-- the events of documents, and one after them
abbrev pub contents_events : List DocumentContent → Event → List Event
contents_events [] last = last ∷ []
contents_events (d ∷ ds) last = document_events d (contents_events ds last)

-- Where the events to come are a front of some documents' and of the stream's end, after events of no document, each load is
-- one that content says, whatever fault is after them.
abbrev pub FrontsLoadByContent : Type 0
FrontsLoadByContent = (ds : List DocumentContent) (last : Event) → IsOutside last.body
    → (outside gs : List Told) (more : List Event) (own : Option Fault) (behind : ℕ)
    → AreOutside outside → told_events gs ++ more ≡ contents_events ds last
    → LoadsByContent own behind (outside ++ gs)
