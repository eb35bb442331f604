-- What was collected is passed to C.
use Rattle.std.proofs.Common.{◌≡◌, ◌∙◌, ◌⊎◌, inl, inr, ap, refl, sym, subst, ℕ, ℤ, pos, Bool, true, false, List, [], ◌∷◌, ◌++◌, Some, Result, Ok, Err}
use Rattle.std.proofs.lemmas.Bool.{false≢true}
use Rattle.std.proofs.lemmas.List.{append-nil}
use Rattle.yaml_parse.specs.declared.yaml_encoding_t.{yaml_encoding_t}
use Rattle.yaml_parse.specs.declared.yaml_fault_t.{yaml_fault_t}
use Rattle.yaml_parse.specs.Events.{TagDirective}
use Rattle.yaml_parse.specs.Resolve.{Told}
use Rattle.yaml_parse.specs.scan_types.Faults.{Fault, fault_of, memory_fault, IsMemoryFault, parse_layers}
use Rattle.yaml_parse.specs.declared.yaml_origin_t.{yaml_origin_t}
use Rattle.yaml_parse.specs.declared.yaml_origin_t.TheVariants.{Parser}
use Rattle.yaml_parse.specs.declared.yaml_error_type_t.{yaml_error_type_t}
use Rattle.yaml_parse.specs.declared.yaml_error_type_t.TheVariants as error
use Rattle.yaml_parse.specs.Remaining.{ParserRemaining}
use Rattle.yaml_round.specs.round_engine.Answers.{IsFaulty}
use Rattle.yaml_round.specs.round_content.Input.{ReadsInput, events_of, ending_of}
use Rattle.yaml_round_reading.proofs.Plain.{faulty, has_events}
use Rattle.yaml_round.specs.round_content.Reading.{HasEvents}
use Rattle.yaml_round_answers.specs.declared.listing.Listing.{Listing}
use Rattle.yaml_round_answers.specs.declared.record.yaml_c_directive.{yaml_c_directive}
use Rattle.yaml_round_answers.specs.declared.parsing.yaml_c_parsed.{yaml_c_parsed}
use Rattle.yaml_round_answers.specs.Records.{all_directives}
use Rattle.yaml_round_answers.specs.Blocks.{listed_directives}
use Rattle.yaml_round_answers.specs.Listing.{Collected, Collects, AreSaid, HoldsAll, events_alone}
use Rattle.yaml_round_answers.specs.declared.answer.yaml_c_answer.{yaml_c_answer}
use Rattle.yaml_round_answers.specs.Told.{TellsText, TellsFaultIn, TellsMemory, TellsWant, RefusesIn}
use Rattle.yaml_round_answers.specs.Numbers.{error_number}
use Rattle.yaml_round_answers.specs.Spelled.{spelled_text, is_memory, is_starved}
use Rattle.yaml_round_answers.specs.Parses.{HasNothing, HandsOut, HandsOutUnless, SayEvents, SayFront, IsParsed, IsFront, EndsFront, TellsEvents, Parses, Fronts, is_cut_off, Gives, GivesNone}
use Rattle.yaml_round_answers.proofs.Refusing.{refused_answer_in}
use Rattle.yaml_round_answers.proofs.Saying.{say_at}

-- what was collected of a reading is the input's
front_taken : (from : yaml_encoding_t) (input : List ℕ) (p : ParserRemaining) (l : Listing)
    → ReadsInput from input p → Collected p.events [] l → IsFront from input l
front_taken from input p l r c =
    let all : events_alone (events_of from input) ≡ c.given = sym (ap events_alone r.events) ∙ c.split ∙ append-nil c.given in
    (subst (λ z. AreSaid l z) (sym all) c.said, subst (λ z. HoldsAll l z) (sym all) c.holds)

-- the events of a reading up to its end or its fault are the input's
pub front_ended : (from : yaml_encoding_t) (input : List ℕ) (p : ParserRemaining) (l : Listing)
    (r : Result (Unit {0}) yaml_fault_t) → ReadsInput from input p → Collects p r l
    → EndsFront from input r l
front_ended from input p l (Ok done) r c = (sym r.ending ∙ c.0, front_taken from input p l r c.1)
front_ended from input p l (Err f) r (inl m) = inl m
front_ended from input p l (Err f) r (inr e) = inr (sym r.ending ∙ e.0, front_taken from input p l r e.1)

pub front_fault : (from : yaml_encoding_t) (input : List ℕ) (f : yaml_fault_t) (l : Listing)
    → IsMemoryFault parse_layers (fault_of f)
    ⊎ ((ending_of from input ≡ Some (fault_of f)) × IsFront from input l)
    → IsMemoryFault parse_layers (fault_of f) ⊎ IsFaulty from input (fault_of f)
front_fault from input f l (inl m) = inl m
front_fault from input f l (inr e) = inr (faulty from input (fault_of f) e.0)

-- it is that of the input's plain reading
pub fault_plain : (from : yaml_encoding_t) (input : List ℕ) (f : yaml_fault_t)
    → IsMemoryFault parse_layers (fault_of f) ⊎ (ending_of from input ≡ Some (fault_of f))
    → IsMemoryFault parse_layers (fault_of f) ⊎ IsFaulty from input (fault_of f)
fault_plain from input f (inl m) = inl m
fault_plain from input f (inr e) = inr (faulty from input (fault_of f) e)

list_at : (b c : List ℕ) (d f : List yaml_c_directive) (ts : List TagDirective) → c ≡ b → f ≡ d
    → all_directives b d ≡ Some ts
    → all_directives c f ≡ Some ts
list_at b c d f ts p q h = subst (λ z. all_directives z f ≡ Some ts) (sym p) (subst (λ z. all_directives b z ≡ Some ts) (sym q) h)

-- the blocks say what the listing does, and hold what it holds
pub handed_says : (text : List ℕ) (l : Listing) (p : yaml_c_parsed) (es : List Told)
    → HandsOut text l p → AreSaid l (events_alone es)
    → HoldsAll l (events_alone es) → SayEvents text p es
handed_says text l p es h s a =
    let bytes : p.bytes.now ≡ l.bytes.items ++ [] = h.bytes ∙ sym (append-nil l.bytes.items) in record {
      said = l.events.items;
      say = say_at _ p.bytes.now _ p.directives.now _ l.events.items (events_alone es) bytes
          (h.directives ∙ sym (append-nil l.directives.items)) refl (s [] []);
      events = h.events;
      bytes = h.bytes ∙ a.bytes;
      directives = list_at _ p.bytes.now _ p.directives.now (listed_directives (events_alone es)) bytes h.directives (a.directives []);
    }

-- the same in the input's own text
pub says_in : (from : yaml_encoding_t) (input text : List ℕ) (l : Listing) (p : yaml_c_parsed)
    (es : List Told) → text ≡ spelled_text from input → HandsOut text l p
    → AreSaid l (events_alone es) → HoldsAll l (events_alone es)
    → SayEvents (spelled_text from input) p es
says_in from input text l p es e h s a = handed_says (spelled_text from input) l p es (subst (λ t. HandsOut t l p) e h) s a

-- what ends a listing to its end doesn't cut it off
whole_or_not : (whole : Bool) → is_cut_off whole (Ok tt) ≡ false
whole_or_not true = refl
whole_or_not false = refl

ended : (whole b : Bool) (r : Result (Unit {0}) yaml_fault_t) (text : List ℕ) (l : Listing)
    (p : yaml_c_parsed) → b ≡ is_cut_off whole r → r ≡ Ok tt → HandsOutUnless b text l p
    → HandsOut text l p
ended whole b r text l p is done h =
    subst (λ c. HandsOutUnless c text l p) (is ∙ ap (is_cut_off whole) done ∙ whole_or_not whole) h

both_give : (whole : Bool) (from : yaml_encoding_t) (input : List ℕ) (p : yaml_c_parsed)
    (a : yaml_c_answer) → HasEvents from input (events_of from input) → TellsText [] (pos 0) a
    → SayEvents (spelled_text from input) p (events_of from input) → Gives whole input p from a
both_give true from input p a e t s = record { result = Ok (events_of from input); is = e; told = (t, s) }
both_give false from input p a e t s = record { result = Ok (events_of from input); is = e; told = (t, s) }

-- all events are given
pub all_given : (whole : Bool) (from : yaml_encoding_t) (input text : List ℕ)
    (r : Result (Unit {0}) yaml_fault_t) (l : Listing) (p : yaml_c_parsed) (a : yaml_c_answer)
    (b : Bool) → b ≡ is_cut_off whole r → r ≡ Ok tt → text ≡ spelled_text from input
    → HandsOutUnless b text l p → EndsFront from input (Ok tt) l → TellsText [] (pos 0) a
    → Gives whole input p from a
all_given whole from input text r l p a b is done e h i t =
    both_give whole from input p a (has_events from input (events_of from input) i.0 refl) t
    (says_in from input text l p (events_of from input) e (ended whole b r text l p is done h) i.1.0 i.1.1)

pub kind_given : (whole : Bool) (p : yaml_c_parsed) (a : yaml_c_answer) → TellsText [] (pos 0) a
    → GivesNone whole p a
kind_given true p a t = inl t.kind
kind_given false p a t = tt

pub nothing_given : (whole : Bool) (p : yaml_c_parsed) (a : yaml_c_answer) → HasNothing p
    → GivesNone whole p a
nothing_given true p a h = inr h
nothing_given false p a h = tt

-- after a fault there is nothing where all are asked for
pub refused_none : (whole : Bool) (text : List ℕ) (r : Result (Unit {0}) yaml_fault_t)
    (f : yaml_fault_t) (l : Listing) (p : yaml_c_parsed) (a : yaml_c_answer) (b : Bool)
    → b ≡ is_cut_off whole r → r ≡ Err f → HandsOutUnless b text l p → GivesNone whole p a
refused_none true text r f l p a b is ends h = inr (subst (λ c. HandsOutUnless c text l p) (is ∙ ap (is_cut_off true) ends) h)
refused_none false text r f l p a b is ends h = tt

-- the answer to out of memory says that
told_want : (k : yaml_error_type_t) (n : ℤ) → is_memory k ≡ true → n ≡ error_number k
    → n ≡ error_number error.YAML_MEMORY_ERROR
told_want error.YAML_MEMORY_ERROR n is e = e
told_want error.YAML_NO_ERROR n is e = absurd (cc)
told_want error.YAML_READER_ERROR n is e = absurd (cc)
told_want error.YAML_SCANNER_ERROR n is e = absurd (cc)
told_want error.YAML_PARSER_ERROR n is e = absurd (cc)
told_want error.YAML_COMPOSER_ERROR n is e = absurd (cc)
told_want error.YAML_WRITER_ERROR n is e = absurd (cc)
told_want error.YAML_EMITTER_ERROR n is e = absurd (cc)

pub tells_want : (text : List ℕ) (f : Fault) (a : yaml_c_answer) → is_memory f.kind ≡ true
    → RefusesIn text f a → TellsWant a
tells_want text f a is (inl t) = told_want f.kind a.kind is t.kind
tells_want text f a is (inr s) = (s Parser []).kind

-- out of memory is seen by its kind
pub memory_kind : (layers : List yaml_origin_t) (f : Fault) → IsMemoryFault layers f
    → is_memory f.kind ≡ true
memory_kind [] f m = absurd m
memory_kind (layer ∷ []) f m = ap (λ (g : Fault). is_memory g.kind) m
memory_kind (layer ∷ other ∷ layers) f (inl m) = ap (λ (g : Fault). is_memory g.kind) m
memory_kind (layer ∷ other ∷ layers) f (inr m) = memory_kind (other ∷ layers) f m

-- the blocks say what is before the fault, or there are none when out of memory
front_says : (from : yaml_encoding_t) (input text : List ℕ) (f : yaml_fault_t) (l : Listing)
    (p : yaml_c_parsed) (a : yaml_c_answer) (b : Bool) → b ≡ is_memory f.kind
    → text ≡ spelled_text from input → HandsOutUnless b text l p
    → IsMemoryFault parse_layers (fault_of f)
    ⊎ ((ending_of from input ≡ Some (fault_of f)) × IsFront from input l)
    → RefusesIn text (fault_of f) a → SayFront from input p a
front_says from input text f l p a true is e h i t = inl (tells_want text (fault_of f) a (sym is) t, h)
front_says from input text f l p a false is e h (inl m) t = absurd (false≢true (is ∙ memory_kind parse_layers (fault_of f) m))
front_says from input text f l p a false is e h (inr i) t = inr (says_in from input text l p _ e h i.1.0 i.1.1)

-- ---- a refused parse is reported

refused_parse : (from : yaml_encoding_t) (input text : List ℕ) (f : yaml_fault_t)
    (p : yaml_c_parsed) (a : yaml_c_answer) → text ≡ spelled_text from input → HasNothing p
    → IsMemoryFault parse_layers (fault_of f) ⊎ (ending_of from input ≡ Some (fault_of f))
    → RefusesIn text (fault_of f) a → Parses input p from a
refused_parse from input text f p a e h i t =
    refused_answer_in parse_layers Parser (IsParsed from input) (TellsEvents (spelled_text from input) p) (spelled_text from input) (fault_of f) a (inl refl)
    (λ g u. (u, h)) (fault_plain from input f i) (subst (λ z. RefusesIn z (fault_of f) a) e t)

fail_front : (from : yaml_encoding_t) (input text : List ℕ) (f : yaml_fault_t) (l : Listing)
    (p : yaml_c_parsed) (a : yaml_c_answer) → text ≡ spelled_text from input
    → SayFront from input p a
    → IsMemoryFault parse_layers (fault_of f)
    ⊎ ((ending_of from input ≡ Some (fault_of f)) × IsFront from input l)
    → RefusesIn text (fault_of f) a → Fronts input p from a
fail_front from input text f l p a e h i (inl t) = record {
  result = Err (fault_of f);
  is = front_fault from input f l i;
  told = (subst (λ z. TellsFaultIn z (fault_of f) a) e t, h);
}
fail_front from input text f l p a e h i (inr s) = record {
  result = Err (memory_fault Parser);
  is = inl (inl refl);
  told = (s Parser (spelled_text from input), h);
}

refused_front : (from : yaml_encoding_t) (input text : List ℕ)
    (r : Result (Unit {0}) yaml_fault_t) (f : yaml_fault_t) (l : Listing) (p : yaml_c_parsed) (a : yaml_c_answer) (b : Bool)
    → b ≡ is_starved r → r ≡ Err f → text ≡ spelled_text from input → HandsOutUnless b text l p
    → IsMemoryFault parse_layers (fault_of f)
    ⊎ ((ending_of from input ≡ Some (fault_of f)) × IsFront from input l)
    → RefusesIn text (fault_of f) a → Fronts input p from a
refused_front from input text r f l p a b is ends e h i t =
    fail_front from input text f l p a e (front_says from input text f l p a b (is ∙ ap is_starved ends) e h i t) i t

ending_alone : (from : yaml_encoding_t) (input : List ℕ) (f : yaml_fault_t) (l : Listing)
    → EndsFront from input (Err f) l
    → IsMemoryFault parse_layers (fault_of f) ⊎ (ending_of from input ≡ Some (fault_of f))
ending_alone from input f l (inl m) = inl m
ending_alone from input f l (inr e) = inr e.0

-- a fault is reported
pub refused_gives : (whole : Bool) (from : yaml_encoding_t) (input text : List ℕ)
    (r : Result (Unit {0}) yaml_fault_t) (f : yaml_fault_t) (l : Listing) (p : yaml_c_parsed) (a : yaml_c_answer) (b : Bool)
    → b ≡ is_cut_off whole r → r ≡ Err f → text ≡ spelled_text from input
    → HandsOutUnless b text l p → EndsFront from input (Err f) l → RefusesIn text (fault_of f) a
    → Gives whole input p from a
refused_gives true from input text r f l p a b is ends e h i t =
    refused_parse from input text f p a e (subst (λ c. HandsOutUnless c text l p) (is ∙ ap (is_cut_off true) ends) h) (ending_alone from input f l i) t
refused_gives false from input text r f l p a b is ends e h i t = refused_front from input text r f l p a b is ends e h i t

-- memory for the text was refused
starved_parse : (from : yaml_encoding_t) (input : List ℕ) (p : yaml_c_parsed)
    (a : yaml_c_answer) → HasNothing p → TellsMemory a → Parses input p from a
starved_parse from input p a h s = record {
  result = Err (memory_fault Parser);
  is = inl (inl refl);
  told = (s Parser (spelled_text from input), h);
}

starved_front : (from : yaml_encoding_t) (input : List ℕ) (p : yaml_c_parsed)
    (a : yaml_c_answer) → HasNothing p → TellsMemory a → Fronts input p from a
starved_front from input p a h s = record {
  result = Err (memory_fault Parser);
  is = inl (inl refl);
  told = (s Parser (spelled_text from input), inl ((s Parser []).kind, h));
}

pub starved_gives : (whole : Bool) (from : yaml_encoding_t) (input : List ℕ) (p : yaml_c_parsed)
    (a : yaml_c_answer) → HasNothing p → TellsMemory a → Gives whole input p from a
starved_gives true from input p a h s = starved_parse from input p a h s
starved_gives false from input p a h s = starved_front from input p a h s
