-- What C receives of a parse.
use Rattle.std.specs.Prelude.{◌≡◌, ◌⊎◌, pos, ℕ, Bool, true, false, List, [], map, Option, None, Some, Result, Ok, Err}
use Rattle.std.specs.Result.{is_err}
use Rattle.yaml_parse.specs.declared.yaml_encoding_t.{yaml_encoding_t}
use Rattle.yaml_parse.specs.declared.yaml_fault_t.{yaml_fault_t}
use Rattle.yaml_parse.specs.scan_types.Faults.{Fault, fault_of, IsMemoryFault, parse_layers}
use Rattle.yaml_parse.specs.Resolve.{Told}
use Rattle.yaml_round.specs.round_engine.Answers.{IsFaulty}
use Rattle.yaml_round.specs.round_content.Input.{events_of, ending_of}
use Rattle.yaml_round.specs.round_content.Reading.{HasEvents}
use Rattle.yaml_round_answers.specs.declared.answer.yaml_c_answer.{yaml_c_answer}
use Rattle.yaml_round_answers.specs.declared.listing.Listing.{Listing}
use Rattle.yaml_round_answers.specs.declared.parsing.yaml_c_parsed.{yaml_c_parsed}
use Rattle.yaml_round_answers.specs.declared.record.yaml_c_event.{yaml_c_event}
use Rattle.yaml_round_answers.specs.Records.{AllSay, all_directives}
use Rattle.yaml_round_answers.specs.Counted.{event_counted}
use Rattle.yaml_round_answers.specs.Blocks.{all_texts, listed_directives}
use Rattle.yaml_round_answers.specs.Listing.{AreSaid, HoldsAll, events_alone}
use Rattle.yaml_round_answers.specs.Told.{TellsText, TellsFaultIn, TellsWant, IsAnswered, OrMemory}
use Rattle.yaml_round_answers.specs.Spelled.{spelled_text, is_starved}

-- the events of an input, where it is accepted: those of the tree that its tokens are
abbrev pub IsParsed : yaml_encoding_t → List ℕ → Result (List Told) Fault → Type 0
IsParsed from input (Ok events) = HasEvents from input events
IsParsed from input (Err fault) = IsFaulty from input fault

-- no block
pub record HasNothing (p : yaml_c_parsed) : Type 0 where
  pub events : p.events.now ≡ []
  pub directives : p.directives.now ≡ []
  pub bytes : p.bytes.now ≡ []

-- The records say the events, one by one, with what is counted and found of them in their text. The
-- bytes are the texts that they name, one after another, and the list of directives is of theirs;
-- neither holds anything beside.
pub record SayEvents (text : List ℕ) (p : yaml_c_parsed) (es : List Told) : Type 0 where
  pub said : List yaml_c_event
  pub say : AllSay p.bytes.now p.directives.now said (events_alone es)
  pub events : p.events.now ≡ map (event_counted text) said
  pub bytes : p.bytes.now ≡ all_texts (events_alone es)
  pub directives : all_directives p.bytes.now p.directives.now
      ≡ Some (listed_directives (events_alone es))

abbrev pub TellsEvents : List ℕ → yaml_c_parsed → Result (List Told) Fault → yaml_c_answer → Type 0
TellsEvents text p (Ok es) a = TellsText [] (pos 0) a × SayEvents text p es
TellsEvents text p (Err fault) a = TellsFaultIn text fault a × HasNothing p

abbrev pub Parses : List ℕ → yaml_c_parsed → yaml_encoding_t → yaml_c_answer → Type 0
Parses input p from = IsAnswered (OrMemory parse_layers (IsParsed from input))
    (TellsEvents (spelled_text from input) p)

-- ---- what the code passes on

-- the listing says the events before what ends the input, and nothing beside
abbrev pub IsFront : yaml_encoding_t → List ℕ → Listing → Type 0
IsFront from input l = AreSaid l (events_alone (events_of from input))
    × HoldsAll l (events_alone (events_of from input))

-- the blocks are the listing's, with what is counted and found of the events in their text
pub record HandsOut (text : List ℕ) (l : Listing) (p : yaml_c_parsed) : Type 0 where
  pub events : p.events.now ≡ map (event_counted text) l.events.items
  pub directives : p.directives.now ≡ l.directives.items
  pub bytes : p.bytes.now ≡ l.bytes.items

-- the same, or no block where memory was refused
abbrev pub HandsOutUnless : Bool → List ℕ → Listing → yaml_c_parsed → Type 0
HandsOutUnless true text l p = HasNothing p
HandsOutUnless false text l p = HandsOut text l p

-- ---- events before a fault

abbrev pub EndsFront : yaml_encoding_t → List ℕ → Result (Unit {0}) yaml_fault_t → Listing → Type 0
EndsFront from input (Ok done) l = (ending_of from input ≡ None) × IsFront from input l
EndsFront from input (Err f) l = IsMemoryFault parse_layers (fault_of f)
    ⊎ ((ending_of from input ≡ Some (fault_of f)) × IsFront from input l)

-- the records say the events before the fault; where out of memory is reported there may be none, but no other ones
abbrev pub SayFront : yaml_encoding_t → List ℕ → yaml_c_parsed → yaml_c_answer → Type 0
SayFront from input p a = (TellsWant a × HasNothing p)
    ⊎ SayEvents (spelled_text from input) p (events_of from input)

abbrev pub TellsFront : yaml_encoding_t → List ℕ → yaml_c_parsed → Result (List Told) Fault
    → yaml_c_answer → Type 0
TellsFront from input p (Ok es) a = TellsText [] (pos 0) a
    × SayEvents (spelled_text from input) p es
TellsFront from input p (Err fault) a = TellsFaultIn (spelled_text from input) fault a
    × SayFront from input p a

abbrev pub Fronts : List ℕ → yaml_c_parsed → yaml_encoding_t → yaml_c_answer → Type 0
Fronts input p from = IsAnswered (OrMemory parse_layers (IsParsed from input))
    (TellsFront from input p)

-- ---- both calls: that of all events, and that of the events before a fault

-- what was listed isn't handed out
abbrev pub is_cut_off : Bool → Result (Unit {0}) yaml_fault_t → Bool
is_cut_off true end = is_err end
is_cut_off false end = is_starved end

abbrev pub Gives : Bool → List ℕ → yaml_c_parsed → yaml_encoding_t → yaml_c_answer → Type 0
Gives true input p from a = Parses input p from a
Gives false input p from a = Fronts input p from a

-- where all are asked for there are no blocks beside a fault
abbrev pub GivesNone : Bool → yaml_c_parsed → yaml_c_answer → Type 0
GivesNone true p a = (a.kind ≡ pos 0) ⊎ HasNothing p
GivesNone false p a = Unit {0}

-- the same, where the number of an encoding means something; else nothing is handed out
abbrev pub GivesNoneMeant : {M : Type 0} → Bool → Option M → yaml_c_parsed → yaml_c_answer → Type 0
GivesNoneMeant whole None p a = HasNothing p
GivesNoneMeant whole (Some m) p a = GivesNone whole p a

-- where the number of an encoding means nothing, nothing is handed out
abbrev pub NothingUnmeant : {M : Type 0} → Option M → yaml_c_parsed → Type 0
NothingUnmeant None p = HasNothing p
NothingUnmeant (Some m) p = Unit {0}
