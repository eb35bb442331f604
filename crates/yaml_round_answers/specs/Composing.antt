-- What the events of a document come to: which node each of them is of, and which collection takes it.
use Rattle.std.specs.Prelude.{◌≡◌, ◌||◌, ℕ, suc, ℤ, pos, Bool, true, false, not, if◌then◌else◌, List, [], ◌∷◌, reverse, Option, None, Some, is_some, Result, Ok, Err}
use Rattle.std.specs.declared.alloc.AllocError.{AllocError}
use Rattle.std.specs.FinMap as finite
use Rattle.std.specs.List.{list_all}
use Rattle.std.specs.Ordering.{int_eq}
use Rattle.yaml_parse_model.specs.Events.{Event, EventBody}
use Rattle.yaml_parse_model.specs.Events as event
use Rattle.yaml_parse_model.specs.scan_types.Faults.{Fault}
use Rattle.yaml_parse_loader.specs.Anchors.{Anchors}
use Rattle.yaml_parse_loader.specs.Loading.{Open, Loading, LoadStep, goes_on, loaded, refused, step, place_of, named, next}
use Rattle.yaml_round_answers.specs.declared.graph_record.yaml_c_step.{yaml_c_step}
use Rattle.yaml_round_answers.specs.declared.graph_record.yaml_c_spot.{yaml_c_spot}
use Rattle.yaml_round_answers.specs.declared.steps.Sketching.{Sketching}
use Rattle.yaml_round_answers.specs.Graphs.{part}
use Rattle.yaml_round_answers.specs.Names.{names_of}

-- ---- records of events

unfoldable pub is_named : ℤ → Bool
is_named n = not (int_eq n (pos 0))

abbrev pub name_if : Bool → Option (List ℕ) → Option (List ℕ)
name_if true name = name
name_if false name = None

-- the name that a record has
unfoldable pub name_at : List ℕ → yaml_c_step → Option (List ℕ)
name_at bytes r = name_if (is_named r.has_name) (part bytes r.first r.count)

-- whether a name that a record has lies within the block
abbrev pub name_lies : List ℕ → yaml_c_step → Bool
name_lies bytes r = not (is_named r.has_name) || is_some (part bytes r.first r.count)

-- whether a record means an event: an alias has a name, and a name lies within the block
unfoldable pub is_step : List ℕ → yaml_c_step → Bool
is_step bytes r =
    if int_eq r.kind (pos 5) then is_some (name_at bytes r)
    else if int_eq r.kind (pos 6) then name_lies bytes r
    else if int_eq r.kind (pos 7) then name_lies bytes r
    else if int_eq r.kind (pos 8) then true
    else if int_eq r.kind (pos 9) then name_lies bytes r
    else if int_eq r.kind (pos 10) then true
    else false

abbrev pub are_steps : List ℕ → List yaml_c_step → Bool
are_steps bytes rs = list_all (is_step bytes) rs

-- the number of an event's kind within a document, which is libyaml's
abbrev pub kind_number : EventBody → ℤ
kind_number (event.alias name) = pos 5
kind_number (event.scalar anchor tag value plain quoted style) = pos 6
kind_number (event.sequence_start anchor tag implicit style) = pos 7
kind_number event.sequence_end = pos 8
kind_number (event.mapping_start anchor tag implicit style) = pos 9
kind_number event.mapping_end = pos 10
kind_number _ = pos 0

-- its anchor, or the name of an alias
abbrev pub name_in : EventBody → Option (List ℕ)
name_in (event.alias name) = Some name
name_in (event.scalar anchor tag value plain quoted style) = anchor
name_in (event.sequence_start anchor tag implicit style) = anchor
name_in (event.mapping_start anchor tag implicit style) = anchor
name_in _ = None

-- an event that is between a document's start and its end
abbrev pub IsWithin : EventBody → Type 0
IsWithin (event.alias name) = Unit {0}
IsWithin (event.scalar anchor tag value plain quoted style) = Unit {0}
IsWithin (event.sequence_start anchor tag implicit style) = Unit {0}
IsWithin event.sequence_end = Unit {0}
IsWithin (event.mapping_start anchor tag implicit style) = Unit {0}
IsWithin event.mapping_end = Unit {0}
IsWithin _ = ⊥

-- the record of such an event
pub record ShowsEvent (bytes : List ℕ) (r : yaml_c_step) (e : Event) : Type 0 where
  pub within : IsWithin e.body
  pub kind : r.kind ≡ kind_number e.body
  pub name : name_at bytes r ≡ name_in e.body

abbrev pub ShowEvents : List ℕ → List yaml_c_step → List Event → Type 0
ShowEvents bytes [] [] = Unit {0}
ShowEvents bytes (r ∷ rs) (e ∷ es) = ShowsEvent bytes r e × ShowEvents bytes rs es
ShowEvents bytes [] (e ∷ es) = ⊥
ShowEvents bytes (r ∷ rs) [] = ⊥

-- ---- what is known of a document in the making

-- how many nodes it has, the numbers of the open collections, the innermost first, and which node each name means
pub record Sketch : Type 0 where
  pub count : ℕ
  pub around : List ℤ
  pub names : Anchors

abbrev pub sketch_of : Sketching → Sketch
sketch_of s = record { count = s.count; around = reverse s.around.items; names = names_of s.names }

abbrev pub fresh_sketch : Sketch
fresh_sketch = record { count = 0; around = []; names = finite.empty }

abbrev pub innermost : List ℤ → ℤ
innermost [] = pos 0
innermost (n ∷ ns) = n

abbrev pub outer : List ℤ → List ℤ
outer [] = []
outer (n ∷ ns) = ns

abbrev pub spot : ℤ → ℤ → yaml_c_spot
spot node into = record { node = node; into = into }

-- a node begins: it has the next number
abbrev pub begun : Option (List ℕ) → Sketch → yaml_c_spot × Sketch
begun name s = (
  spot (pos (suc s.count)) (innermost s.around),
  record { count = suc s.count; around = s.around; names = named name (pos (suc s.count)) s.names },
)

abbrev pub opened : yaml_c_spot × Sketch → yaml_c_spot × Sketch
opened x = (x.0, record { count = x.1.count; around = x.0.node ∷ x.1.around; names = x.1.names })

abbrev pub ended : Sketch → yaml_c_spot × Sketch
ended s = (
  spot (innermost s.around) (pos 0),
  record { count = s.count; around = outer s.around; names = s.names },
)

abbrev pub meant_by : Option (List ℕ) → Anchors → Option ℤ
meant_by None known = None
meant_by (Some name) known = finite.get known name

abbrev pub stood_for : Option ℤ → Sketch → Option (yaml_c_spot × Sketch)
stood_for None s = None
stood_for (Some n) s = Some (spot n (innermost s.around), s)

abbrev pub stood : Option (List ℕ) → Sketch → Option (yaml_c_spot × Sketch)
stood name s = stood_for (meant_by name s.names) s

-- what an event of a kind and a name comes to, and what is known then; nothing for an alias without a node
unfoldable pub drawn : ℤ → Option (List ℕ) → Sketch → Option (yaml_c_spot × Sketch)
drawn kind name s =
    if int_eq kind (pos 5) then stood name s
    else if int_eq kind (pos 6) then Some (begun name s)
    else if int_eq kind (pos 7) then Some (opened (begun name s))
    else if int_eq kind (pos 8) then Some (ended s)
    else if int_eq kind (pos 9) then Some (opened (begun name s))
    else if int_eq kind (pos 10) then Some (ended s)
    else Some (spot (pos 0) (pos 0), s)

abbrev pub Draws : Option (yaml_c_spot × Sketch) → Result (Option yaml_c_spot) AllocError → Sketch
    → Type 0
Draws d (Ok None) s = d ≡ None
Draws d (Ok (Some x)) s = d ≡ Some (x, s)
Draws d (Err e) s = Unit {0}

abbrev pub drawn_on : Option (yaml_c_spot × Sketch) → (Sketch → List yaml_c_spot × Bool)
    → List yaml_c_spot × Bool
drawn_on None rest = ([], false)
drawn_on (Some x) rest = (x.0 ∷ (rest x.1).0, (rest x.1).1)

-- what the events come to, and whether none is an alias without a node
unfoldable pub all_drawn : List ℕ → List yaml_c_step → Sketch → List yaml_c_spot × Bool
all_drawn bytes [] s = ([], true)
all_drawn bytes (r ∷ rs) s = drawn_on (drawn r.kind (name_at bytes r) s) (all_drawn bytes rs)

-- ---- the same in the loader's words

-- the number of the innermost open collection, or 0
abbrev pub top_of : List Open → ℤ
top_of [] = pos 0
top_of (o ∷ os) = pos (suc (place_of o))

abbrev pub number_or : Option ℤ → ℤ
number_or None = pos 0
number_or (Some n) = n

-- the node that an event begins, stands for or ends in a document in the making, and the collection that takes it
abbrev pub spot_of : EventBody → Loading → yaml_c_spot
spot_of (event.alias name) l = spot (number_or (finite.get l.anchors name)) (top_of l.levels)
spot_of (event.scalar anchor tag value plain quoted style) l = spot (next l) (top_of l.levels)
spot_of (event.sequence_start anchor tag implicit style) l = spot (next l) (top_of l.levels)
spot_of (event.mapping_start anchor tag implicit style) l = spot (next l) (top_of l.levels)
spot_of event.sequence_end l = spot (top_of l.levels) (pos 0)
spot_of event.mapping_end l = spot (top_of l.levels) (pos 0)
spot_of _ l = spot (pos 0) (pos 0)

abbrev pub spots_on : LoadStep → yaml_c_spot → (Loading → List yaml_c_spot × Option Fault)
    → List yaml_c_spot × Option Fault
spots_on (goes_on l) x rest = (x ∷ (rest l).0, (rest l).1)
spots_on (loaded d) x rest = ([], None)
spots_on (refused f) x rest = ([], Some f)

-- those of events, one after another, before their end or of the one that is refused, with its fault
unfoldable pub spots_of : List Event → Loading → List yaml_c_spot × Option Fault
spots_of [] l = ([], None)
spots_of (e ∷ es) l = spots_on (step e l) (spot_of e.body l) (spots_of es)

-- no node, and nothing open
pub record IsFresh (l : Loading) : Type 0 where
  pub nodes : l.document.nodes ≡ []
  pub levels : l.levels ≡ []
  pub anchors : l.anchors ≡ finite.empty

abbrev pub is_whole : Option Fault → Bool
is_whole None = true
is_whole (Some f) = false

-- the spots are those of the events that the records show, and they are whole exactly where none is refused
abbrev pub AreSpots : List ℕ → List yaml_c_step → List yaml_c_spot → Bool → Type 0
AreSpots bytes rs given whole = (es : List Event) (l : Loading) → ShowEvents bytes rs es → IsFresh l
    → ((spots_of es l).0 ≡ given) × (is_whole (spots_of es l).1 ≡ whole)
