-- How two readings compare.
use Rattle.std.specs.Prelude.{◌≡◌, ◌↔◌, ◌<◌, ℕ, Bool, true, false, IsTrue, List, [], ◌∷◌, ◌++◌, length, Option, None, Result, Ok, Err}
use Rattle.yaml_parse.specs.declared.yaml_fault_t.{yaml_fault_t}
use Rattle.yaml_scan_types.specs.Faults.{Fault, fault_of}
use Rattle.yaml_parse.specs.Events.{Event, EventBody}
use Rattle.yaml_parse.specs.Resolve.{Told}
use Rattle.yaml_parse.specs.Remaining.{ParserRemaining}
use Rattle.yaml_round_reading.specs.declared.side.yaml_side_t.{yaml_side_t}
use Rattle.yaml_round_reading.specs.declared.side.yaml_side_t.TheVariants.{First, Second}
use Rattle.yaml_round_reading.specs.ReadingView.{ReadingView}
use Rattle.yaml_round_engine.specs.declared.cause.yaml_cause_t.{yaml_cause_t}
use Rattle.yaml_round_engine.specs.declared.compare.Next.{Next}
use Rattle.yaml_round_engine.specs.declared.compare.Next.TheVariants.{Same, End, Different, Refused}
use Rattle.yaml_round_engine.specs.declared.difference.yaml_difference_t.{yaml_difference_t}
use Rattle.yaml_round_engine.specs.declared.trail.Trail.{Trail}
use Rattle.yaml_round_reading.specs.Reading.{contents, AreReal, IsFaultOf}
use Rattle.yaml_round_engine.specs.Places.{path_of}
use Rattle.yaml_round_engine.specs.Walking.{past}
use Rattle.yaml_round_engine.specs.Causes.{cause_of}
use Rattle.yaml_round_engine.specs.Differences.{saying, TellsOf, TellsGiven}

abbrev pub JudgesEvents : EventBody → EventBody → Next → Type 0
JudgesEvents e f Same = saying e ≡ saying f
JudgesEvents e f End = ⊥
JudgesEvents e f (Different c) = (saying e ≡ saying f → ⊥) × (c ≡ cause_of (saying e) (saying f))
JudgesEvents e f (Refused side) = ⊥

-- no event is empty
abbrev pub BothReal : ParserRemaining → ParserRemaining → Type 0
BothReal first second = AreReal first.events × AreReal second.events

-- ---- where events differ

-- The first of these events differ, and it says of them; or there are events on one side alone.
abbrev pub AreApart : List Told → List Told → yaml_difference_t → Type 0
AreApart [] [] d = ⊥
AreApart [] (f ∷ fs) d = Unit {0}
AreApart (e ∷ es) [] d = Unit {0}
AreApart (e ∷ es) (f ∷ fs) d = (saying e.0.body ≡ saying f.0.body → ⊥)
    × TellsGiven e.0 f.0 d

-- After fronts of the same content the events differ. Where it is kept, the path is that after these fronts.
pub record Parted (kept : Bool) (first second : List Told) (old new : Trail) : Type 0 where
  pub before : List Told
  pub other_before : List Told
  pub left : List Told
  pub other_left : List Told
  pub first_events : first ≡ before ++ left
  pub second_events : second ≡ other_before ++ other_left
  pub alike : contents before ≡ contents other_before
  pub apart : AreApart left other_left new.place
  pub path : kept ≡ true → path_of new.place ≡ past (contents before) (path_of old.place)

-- ---- the steps

-- each gives an event that has the same content, and what is left compares as before
pub record BothGoOn (first second : ParserRemaining) (first_new second_new : ParserRemaining)
    (e : Event) : Type 0 where
  pub front : Told
  pub other_front : Told
  pub first_events : first.events ≡ front ∷ first_new.events
  pub second_events : second.events ≡ other_front ∷ second_new.events
  pub says : saying front.0.body ≡ saying other_front.0.body
  pub given : e ≡ front.0
  pub real : BothReal first_new second_new
  pub less : length first_new.events < length first.events
  pub first_ending : first_new.ending ≡ first.ending
  pub second_ending : second_new.ending ≡ second.ending
  pub alike : (contents first.events ≡ contents second.events)
      ↔ (contents first_new.events ≡ contents second_new.events)

-- both are at their end
pub record EndBoth (first second : ParserRemaining) : Type 0 where
  pub first_events : first.events ≡ []
  pub second_events : second.events ≡ []
  pub first_ending : first.ending ≡ None
  pub second_ending : second.ending ≡ None

-- the contents differ
pub record Differ (first second first_new second_new : ParserRemaining) : Type 0 where
  pub real : BothReal first_new second_new
  pub differ : contents first.events ≡ contents second.events → ⊥
  pub first_ending : first_new.ending ≡ first.ending
  pub second_ending : second_new.ending ≡ second.ending

-- they do, in that, with the events that were given
pub record DifferNext (first second : ParserRemaining) (c : yaml_cause_t)
    (first_new second_new : ReadingView) : Type 0 where
  pub contents : Differ first second first_new.parser second_new.parser
  pub apart : (d : yaml_difference_t)
      → TellsOf first_new.given second_new.given d → d.cause ≡ c
      → AreApart first.events second.events d

-- the fault of a side; where the second is refused, the first's is still to come
abbrev pub SideIs : ParserRemaining → ParserRemaining → ParserRemaining → yaml_side_t → Fault
    → Type 0
SideIs first second first_new First f = IsFaultOf first.ending f
SideIs first second first_new Second f = IsFaultOf second.ending f
    × ((first_new.ending ≡ first.ending) × AreReal first_new.events)

-- the second's next event says what that one does
pub record GoesBeside (e : Event) (second second_new : ParserRemaining) : Type 0 where
  pub front : Told
  pub events : second.events ≡ front ∷ second_new.events
  pub says : saying e.body ≡ saying front.0.body
  pub real : AreReal second_new.events
  pub ending : second_new.ending ≡ second.ending

-- the second has no such next event
pub record DiffersBeside (e : Event) (second : ParserRemaining) (c : yaml_cause_t)
    (second_new : ReadingView) : Type 0 where
  pub real : AreReal second_new.parser.events
  pub ending : second_new.parser.ending ≡ second.ending
  pub differ : (rest : List EventBody) → contents second.events ≡ saying e.body ∷ rest → ⊥
  pub apart : (unasked : ℕ) (rest : List Told) (d : yaml_difference_t)
      → TellsOf e second_new.given d → d.cause ≡ c
      → AreApart ((e, unasked) ∷ rest) second.events d

-- the second has events to come
pub record DiffersAlone (second second_new : ParserRemaining) : Type 0 where
  pub real : AreReal second_new.events
  pub ending : second_new.ending ≡ second.ending
  pub differ : contents second.events ≡ [] → ⊥
  pub apart : (d : yaml_difference_t) → AreApart [] second.events d

-- the second's next event beside one that the first gave
abbrev pub StepsBeside : Event → ParserRemaining → Next → ReadingView → Type 0
StepsBeside e second Same second_new = GoesBeside e second second_new.parser
StepsBeside e second End second_new = ⊥
StepsBeside e second (Different c) second_new = DiffersBeside e second c second_new
StepsBeside e second (Refused First) second_new = ⊥
StepsBeside e second (Refused Second) second_new = IsFaultOf second.ending
    second_new.parser.answered

-- the second beside the end of the first
abbrev pub StepsAlone : ParserRemaining → Next → ParserRemaining → Type 0
StepsAlone second Same second_new = ⊥
StepsAlone second End second_new = (second.events ≡ []) × (second.ending ≡ None)
StepsAlone second (Different c) second_new = DiffersAlone second second_new
StepsAlone second (Refused First) second_new = ⊥
StepsAlone second (Refused Second) second_new = IsFaultOf second.ending second_new.answered

-- both steps
abbrev pub StepsOn : ReadingView → ReadingView → Next → ReadingView → ReadingView → Type 0
StepsOn first second Same first_new second_new = BothGoOn first.parser second.parser
    first_new.parser second_new.parser first_new.given
StepsOn first second End first_new second_new = EndBoth first.parser second.parser
StepsOn first second (Different c) first_new second_new = DifferNext first.parser second.parser c
    first_new second_new
StepsOn first second (Refused First) first_new second_new = SideIs first.parser second.parser
    first_new.parser First first_new.parser.answered
StepsOn first second (Refused Second) first_new second_new = SideIs first.parser second.parser
    first_new.parser Second second_new.parser.answered

-- equal contents and no faults, contents that differ, or a fault
pub record Equal (first second : ParserRemaining) : Type 0 where
  pub same : contents first.events ≡ contents second.events
  pub first_ending : first.ending ≡ None
  pub second_ending : second.ending ≡ None

abbrev pub Sided : ParserRemaining → ParserRemaining → Result Bool (yaml_side_t × yaml_fault_t)
    → ParserRemaining → ParserRemaining → Type 0
Sided first second (Ok true) first_new second_new = Equal first second
Sided first second (Ok false) first_new second_new = Differ first second first_new second_new
Sided first second (Err f) first_new second_new = SideIs first second first_new f.0 (fault_of f.1)

-- where the answer is that the contents differ, that holds
abbrev pub WhereDifferent : Result Bool (yaml_side_t × yaml_fault_t) → Type 0 → Type 0
WhereDifferent (Ok false) P = P
WhereDifferent (Ok true) P = Unit {0}
WhereDifferent (Err f) P = Unit {0}

-- neither has a fault, or the first fault; that of the second only where the first has none, when out of memory too
abbrev pub IsSideFault : ParserRemaining → ParserRemaining → yaml_side_t → Fault → Type 0
IsSideFault first second First f = IsFaultOf first.ending f
IsSideFault first second Second f = (first.ending ≡ None) × IsFaultOf second.ending f

-- the first's fault, or that one, said of the second, where the first has none
abbrev pub IsBehindFirst : Option Fault → yaml_fault_t → yaml_side_t × yaml_fault_t → Type 0
IsBehindFirst first fault (First, f) = IsFaultOf first (fault_of f)
IsBehindFirst first fault (Second, f) = (first ≡ None) × (f ≡ fault)

abbrev pub ReadsOutBoth : ParserRemaining → ParserRemaining
    → Result (Unit {0}) (yaml_side_t × yaml_fault_t) → Type 0
ReadsOutBoth first second (Ok done) = (first.ending ≡ None) × (second.ending ≡ None)
ReadsOutBoth first second (Err f) = IsSideFault first second f.0 (fault_of f.1)

-- true exactly where the contents are equal
pub record TellsWhetherEqual (first second : ParserRemaining) (same : Bool) : Type 0 where
  pub first_ending : first.ending ≡ None
  pub second_ending : second.ending ≡ None
  pub told : IsTrue same ↔ (contents first.events ≡ contents second.events)

abbrev pub ComparesReadings : ParserRemaining → ParserRemaining
    → Result Bool (yaml_side_t × yaml_fault_t) → Type 0
ComparesReadings first second (Ok same) = TellsWhetherEqual first second same
ComparesReadings first second (Err f) = IsSideFault first second f.0 (fault_of f.1)
