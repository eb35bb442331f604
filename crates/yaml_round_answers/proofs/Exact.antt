-- The kind in the answer is -1 only where a number means nothing.
use Rattle.std.proofs.Common.{◌≡◌, ◌⊎◌, inl, inr, sym, subst, ℕ, ℤ, pos, negsuc, Bool, true, false, List, [], Option, None, Some, Result, Ok, Err}
use Rattle.yaml_parse.specs.declared.yaml_error_type_t.{yaml_error_type_t}
use Rattle.yaml_parse.specs.declared.yaml_error_type_t.TheVariants as error
use Rattle.yaml_parse.specs.declared.yaml_encoding_t.{yaml_encoding_t}
use Rattle.yaml_parse.specs.declared.yaml_fault_t.{yaml_fault_t}
use Rattle.yaml_parse.specs.scan_types.Faults.{Fault, fault_of}
use Rattle.yaml_parse.specs.Events.{EventBody}
use Rattle.yaml_parse.specs.Resolve.{Told}
use Rattle.yaml_emit.specs.emit_layout.declared.RequestedSettings.{RequestedSettings}
use Rattle.yaml_round.specs.declared.yaml_side_t.{yaml_side_t}
use Rattle.yaml_round.specs.declared.yaml_form_t.{yaml_form_t}
use Rattle.yaml_round_answers.specs.declared.record.yaml_c_settings.{yaml_c_settings}
use Rattle.yaml_round_answers.specs.declared.parsing.yaml_c_parsed.{yaml_c_parsed}
use Rattle.yaml_round_answers.specs.declared.answer.yaml_c_answer.{yaml_c_answer}
use Rattle.yaml_round_answers.specs.Numbers.{encoding_meant, error_number}
use Rattle.yaml_round_answers.specs.Told.{TellsText, TellsFault, TellsFaultIn, TellsResult, TellsForm, TellsSame, AnswersMeant, IsExact, both, call_meant, form_number, same_number, side_number, Reformats, Reloads, Lists, Compares}
use Rattle.yaml_round_answers.specs.Spelled.{spelled_text}
use Rattle.yaml_round_answers.specs.Parses.{HasNothing, TellsEvents, Parses, TellsFront, Fronts, Gives, GivesNoneMeant, NothingUnmeant}
use Rattle.yaml_round_answers.specs.declared.scanning.yaml_c_scanned.{yaml_c_scanned}
use Rattle.yaml_round_answers.specs.Decodes.{Decodes}
use Rattle.yaml_round_answers.specs.Scans.{TellsEnd, TellsScan, Scans, NoTokenUnmeant}
use Rattle.yaml_round_answers.specs.Emitting.{Emits}

-- no number of a fault's kind is -1
no_minus : (m : ℕ) (n : ℤ) → n ≡ pos m → ¬ (n ≡ negsuc 0)
no_minus m n e f = absurd (cc)

fault_number : (k : yaml_error_type_t) (n : ℤ) → n ≡ error_number k → ¬ (n ≡ negsuc 0)
fault_number error.YAML_NO_ERROR n e = no_minus 0 n e
fault_number error.YAML_MEMORY_ERROR n e = no_minus 1 n e
fault_number error.YAML_READER_ERROR n e = no_minus 2 n e
fault_number error.YAML_SCANNER_ERROR n e = no_minus 3 n e
fault_number error.YAML_PARSER_ERROR n e = no_minus 4 n e
fault_number error.YAML_COMPOSER_ERROR n e = no_minus 5 n e
fault_number error.YAML_WRITER_ERROR n e = no_minus 6 n e
fault_number error.YAML_EMITTER_ERROR n e = no_minus 7 n e

pub text_kind : (bytes : List ℕ) (number : ℤ) (a : yaml_c_answer) → TellsText bytes number a
    → ¬ (a.kind ≡ negsuc 0)
text_kind bytes number a h = no_minus 0 a.kind h.kind

pub fault_kind : (f : Fault) (whose : ℤ) (a : yaml_c_answer) → TellsFault f whose a
    → ¬ (a.kind ≡ negsuc 0)
fault_kind f whose a h = fault_number f.kind a.kind h.kind

placed_kind : (text : List ℕ) (f : Fault) (a : yaml_c_answer) → TellsFaultIn text f a
    → ¬ (a.kind ≡ negsuc 0)
placed_kind text f a h = fault_number f.kind a.kind h.kind

pub tells_kind : (r : Result (List ℕ) Fault) (a : yaml_c_answer) → TellsResult r a
    → ¬ (a.kind ≡ negsuc 0)
tells_kind (Ok text) a h = text_kind text (pos 0) a h
tells_kind (Err f) a h = fault_kind f (pos 0) a h

same_kind : (r : Result Bool (yaml_side_t × yaml_fault_t)) (a : yaml_c_answer) → TellsSame r a
    → ¬ (a.kind ≡ negsuc 0)
same_kind (Ok same) a h = text_kind [] (same_number same) a h
same_kind (Err (side, f)) a h = fault_kind (fault_of f) (side_number side) a h

form_kind : (r : Result (List ℕ × yaml_form_t) Fault) (a : yaml_c_answer) → TellsForm r a
    → ¬ (a.kind ≡ negsuc 0)
form_kind (Ok (text, form)) a h = text_kind text (form_number form) a h
form_kind (Err f) a h = fault_kind f (pos 0) a h

events_kind : (text : List ℕ) (blocks : yaml_c_parsed) (r : Result (List Told) Fault)
    (a : yaml_c_answer) → TellsEvents text blocks r a → ¬ (a.kind ≡ negsuc 0)
events_kind text blocks (Ok es) a h = text_kind [] (pos 0) a h.0
events_kind text blocks (Err f) a h = placed_kind text f a h.0

-- a call none of whose answers has kind -1
pub exact : {M : Type 0} (o : Option M) (Is : M → yaml_c_answer → Type 0) (a : yaml_c_answer)
    → ((m : M) → Is m a → ¬ (a.kind ≡ negsuc 0))
    → AnswersMeant o Is a → IsExact o a.kind
exact None Is a f h = h.kind
exact (Some m) Is a f h = f m h

-- the same, of numbers and a kind that are known by other names
pub listed_told : (n from : ℤ) (input : List ℕ) (a : yaml_c_answer) → n ≡ from
    → AnswersMeant (encoding_meant n) (Lists input) a
    → AnswersMeant (encoding_meant from) (Lists input) a
listed_told n from input a p h = subst (λ z. AnswersMeant (encoding_meant z) (Lists input) a) p h

-- The answer -1 of a listing comes exactly where a number means nothing.
pub listed_exact : (n from k : ℤ) (input : List ℕ) (a : yaml_c_answer) → n ≡ from → k ≡ a.kind
    → AnswersMeant (encoding_meant n) (Lists input) a
    → IsExact (encoding_meant from) k
listed_exact n from k input a p q h =
    subst (λ z. IsExact (encoding_meant from) z) (sym q)
    (exact (encoding_meant from) (Lists input) a (λ m l. tells_kind l.result a l.told) (listed_told n from input a p h))

-- What is answered to a comparison is so of the caller's own numbers.
pub compared_told : (m n first_from second_from : ℤ) (first second : List ℕ) (a : yaml_c_answer)
    → m ≡ first_from → n ≡ second_from
    → AnswersMeant (both (encoding_meant m) (encoding_meant n)) (Compares first second) a
    → AnswersMeant (both (encoding_meant first_from) (encoding_meant second_from))
    (Compares first second) a
compared_told m n first_from second_from first second a p q h =
    subst (λ z. AnswersMeant (both (encoding_meant first_from) (encoding_meant z)) (Compares first second) a) q
    (subst (λ z. AnswersMeant (both (encoding_meant z) (encoding_meant n)) (Compares first second) a) p h)

-- The answer -1 of a comparison comes exactly where a number means nothing.
pub compared_exact : (m n first_from second_from k : ℤ) (first second : List ℕ) (a : yaml_c_answer)
    → m ≡ first_from → n ≡ second_from
    → k ≡ a.kind
    → AnswersMeant (both (encoding_meant m) (encoding_meant n)) (Compares first second) a
    → IsExact (both (encoding_meant first_from) (encoding_meant second_from)) k
compared_exact m n first_from second_from k first second a p q r h =
    subst (λ z. IsExact (both (encoding_meant first_from) (encoding_meant second_from)) z) (sym r)
    (exact (both (encoding_meant first_from) (encoding_meant second_from)) (Compares first second) a (λ x l. same_kind l.result a l.told)
    (compared_told m n first_from second_from first second a p q h))

-- What is answered to a reformatting is so of the caller's own numbers.
pub reformatted_told : (n from : ℤ) (given : yaml_c_settings) (input : List ℕ) (a : yaml_c_answer)
    → n ≡ from
    → AnswersMeant (call_meant n given) (Reformats input) a
    → AnswersMeant (call_meant from given) (Reformats input) a
reformatted_told n from given input a p h = subst (λ z. AnswersMeant (call_meant z given) (Reformats input) a) p h

-- The answer -1 of a reformatting comes exactly where a number means nothing.
pub reformatted_exact : (n from k : ℤ) (given : yaml_c_settings) (input : List ℕ)
    (a : yaml_c_answer) → n ≡ from → k ≡ a.kind
    → AnswersMeant (call_meant n given) (Reformats input) a → IsExact (call_meant from given) k
reformatted_exact n from k given input a p q h =
    subst (λ z. IsExact (call_meant from given) z) (sym q)
    (exact (call_meant from given) (Reformats input) a (λ m l. form_kind l.result a l.told) (reformatted_told n from given input a p h))

-- What is answered to a reloading is so of the caller's own numbers.
pub reloaded_told : (n from : ℤ) (given : yaml_c_settings) (input : List ℕ) (a : yaml_c_answer)
    → n ≡ from
    → AnswersMeant (call_meant n given) (Reloads input) a
    → AnswersMeant (call_meant from given) (Reloads input) a
reloaded_told n from given input a p h = subst (λ z. AnswersMeant (call_meant z given) (Reloads input) a) p h

-- The answer -1 of a reloading comes exactly where a number means nothing.
pub reloaded_exact : (n from k : ℤ) (given : yaml_c_settings) (input : List ℕ) (a : yaml_c_answer)
    → n ≡ from → k ≡ a.kind
    → AnswersMeant (call_meant n given) (Reloads input) a → IsExact (call_meant from given) k
reloaded_exact n from k given input a p q h =
    subst (λ z. IsExact (call_meant from given) z) (sym q)
    (exact (call_meant from given) (Reloads input) a (λ m l. tells_kind l.result a l.told) (reloaded_told n from given input a p h))

parse_given : (o : Option yaml_encoding_t) (input : List ℕ) (blocks : yaml_c_parsed)
    (a : yaml_c_answer) → AnswersMeant o (Gives true input blocks) a
    → AnswersMeant o (Parses input blocks) a
parse_given None input blocks a h = h
parse_given (Some m) input blocks a h = h

-- What is answered to a parse is so of the caller's own numbers.
pub parsed_told : (n from : ℤ) (input : List ℕ) (blocks : yaml_c_parsed) (a : yaml_c_answer)
    → n ≡ from
    → AnswersMeant (encoding_meant n) (Gives true input blocks) a
    → AnswersMeant (encoding_meant from) (Parses input blocks) a
parsed_told n from input blocks a p h = parse_given (encoding_meant from) input blocks a (subst (λ z. AnswersMeant (encoding_meant z) (Gives true input blocks) a) p h)

-- Where it is refused, nothing is handed out.
pub parsed_none : (o : Option yaml_encoding_t) (blocks : yaml_c_parsed) (a : yaml_c_answer)
    → GivesNoneMeant true o blocks a → (a.kind ≡ pos 0) ⊎ HasNothing blocks
parsed_none None blocks a h = inr h
parsed_none (Some m) blocks a h = h

-- The answer -1 of a parse comes exactly where a number means nothing.
pub parsed_exact : (n from k : ℤ) (input : List ℕ) (blocks : yaml_c_parsed) (a : yaml_c_answer)
    → n ≡ from → k ≡ a.kind
    → AnswersMeant (encoding_meant n) (Parses input blocks) a → IsExact (encoding_meant from) k
parsed_exact n from k input blocks a p q h =
    subst (λ z. IsExact (encoding_meant from) z) (sym q)
    (exact (encoding_meant from) (Parses input blocks) a (λ m l. events_kind (spelled_text m input) blocks l.result a l.told) (subst (λ z. AnswersMeant (encoding_meant z) (Parses input blocks) a) p h))

-- The answer -1 of an emission comes exactly where a number means nothing.
pub emitted_exact : (meant : Option (List EventBody × (RequestedSettings × ℕ))) (k : ℤ)
    (a : yaml_c_answer) → k ≡ a.kind
    → AnswersMeant meant Emits a → IsExact meant k
emitted_exact meant k a q h =
    subst (λ z. IsExact meant z) (sym q)
    (exact meant Emits a (λ m l. tells_kind l.result a l.told) h)

front_kind : (m : yaml_encoding_t) (input : List ℕ) (blocks : yaml_c_parsed)
    (r : Result (List Told) Fault) (a : yaml_c_answer)
    → TellsFront m input blocks r a → ¬ (a.kind ≡ negsuc 0)
front_kind m input blocks (Ok es) a h = text_kind [] (pos 0) a h.0
front_kind m input blocks (Err f) a h = placed_kind (spelled_text m input) f a h.0

front_given : (o : Option yaml_encoding_t) (input : List ℕ) (blocks : yaml_c_parsed)
    (a : yaml_c_answer) → AnswersMeant o (Gives false input blocks) a
    → AnswersMeant o (Fronts input blocks) a
front_given None input blocks a h = h
front_given (Some m) input blocks a h = h

-- What is answered to events before a fault is so of the caller's own numbers.
pub front_told : (n from : ℤ) (input : List ℕ) (blocks : yaml_c_parsed) (a : yaml_c_answer)
    → n ≡ from
    → AnswersMeant (encoding_meant n) (Gives false input blocks) a
    → AnswersMeant (encoding_meant from) (Fronts input blocks) a
front_told n from input blocks a p h = front_given (encoding_meant from) input blocks a (subst (λ z. AnswersMeant (encoding_meant z) (Gives false input blocks) a) p h)

none_given : (o : Option yaml_encoding_t) (blocks : yaml_c_parsed) (a : yaml_c_answer)
    → GivesNoneMeant false o blocks a → NothingUnmeant o blocks
none_given None blocks a h = h
none_given (Some m) blocks a h = tt

-- Where a number means nothing, nothing of events before a fault is handed out.
pub front_none : (n from : ℤ) (blocks : yaml_c_parsed) (a : yaml_c_answer) → n ≡ from
    → GivesNoneMeant false (encoding_meant n) blocks a
    → NothingUnmeant (encoding_meant from) blocks
front_none n from blocks a p h = none_given (encoding_meant from) blocks a (subst (λ z. GivesNoneMeant false (encoding_meant z) blocks a) p h)

-- The answer -1 of events before a fault comes exactly where a number means nothing.
pub front_exact : (n from k : ℤ) (input : List ℕ) (blocks : yaml_c_parsed) (a : yaml_c_answer)
    → n ≡ from → k ≡ a.kind
    → AnswersMeant (encoding_meant n) (Fronts input blocks) a → IsExact (encoding_meant from) k
front_exact n from k input blocks a p q h =
    subst (λ z. IsExact (encoding_meant from) z) (sym q)
    (exact (encoding_meant from) (Fronts input blocks) a (λ m l. front_kind m input blocks l.result a l.told) (subst (λ z. AnswersMeant (encoding_meant z) (Fronts input blocks) a) p h))

end_kind : (text : List ℕ) (o : Option Fault) (a : yaml_c_answer) → TellsEnd text o a
    → ¬ (a.kind ≡ negsuc 0)
end_kind text None a h = text_kind [] (pos 0) a h
end_kind text (Some f) a h = placed_kind text f a h

scan_told_kind : (input : List ℕ) (m : yaml_encoding_t) (a : yaml_c_answer) → TellsScan m input a
    → ¬ (a.kind ≡ negsuc 0)
scan_told_kind input m a (inl h) = placed_kind (spelled_text m input) h.fault a h.told
scan_told_kind input m a (inr h) = end_kind _ _ a h

scan_kind : (input : List ℕ) (blocks : yaml_c_scanned) (m : yaml_encoding_t) (a : yaml_c_answer)
    → Scans input blocks m a → ¬ (a.kind ≡ negsuc 0)
scan_kind input blocks m a h = scan_told_kind input m a h.0

-- What is answered to a scan is so of the caller's own numbers.
pub scanned_told : (n from : ℤ) (input : List ℕ) (blocks : yaml_c_scanned) (a : yaml_c_answer)
    → n ≡ from
    → AnswersMeant (encoding_meant n) (Scans input blocks) a
    → AnswersMeant (encoding_meant from) (Scans input blocks) a
scanned_told n from input blocks a p h = subst (λ z. AnswersMeant (encoding_meant z) (Scans input blocks) a) p h

-- Where a number means nothing, nothing of a scan is handed out.
pub scanned_none : (n from : ℤ) (blocks : yaml_c_scanned) → n ≡ from
    → NoTokenUnmeant (encoding_meant n) blocks → NoTokenUnmeant (encoding_meant from) blocks
scanned_none n from blocks p h = subst (λ z. NoTokenUnmeant (encoding_meant z) blocks) p h

-- The answer -1 of a scan comes exactly where a number means nothing.
pub scanned_exact : (n from k : ℤ) (input : List ℕ) (blocks : yaml_c_scanned) (a : yaml_c_answer)
    → n ≡ from → k ≡ a.kind
    → AnswersMeant (encoding_meant n) (Scans input blocks) a → IsExact (encoding_meant from) k
scanned_exact n from k input blocks a p q h =
    subst (λ z. IsExact (encoding_meant from) z) (sym q)
    (exact (encoding_meant from) (Scans input blocks) a (λ m l. scan_kind input blocks m a l) (scanned_told n from input blocks a p h))

-- What is answered to a decoding is so of the caller's own numbers.
pub decoded_told : (n from : ℤ) (input : List ℕ) (a : yaml_c_answer) → n ≡ from
    → AnswersMeant (encoding_meant n) (Decodes input) a
    → AnswersMeant (encoding_meant from) (Decodes input) a
decoded_told n from input a p h = subst (λ z. AnswersMeant (encoding_meant z) (Decodes input) a) p h

-- The answer -1 of a decoding comes exactly where a number means nothing.
pub decoded_exact : (n from k : ℤ) (input : List ℕ) (a : yaml_c_answer) → n ≡ from → k ≡ a.kind
    → AnswersMeant (encoding_meant n) (Decodes input) a
    → IsExact (encoding_meant from) k
decoded_exact n from k input a p q h =
    subst (λ z. IsExact (encoding_meant from) z) (sym q)
    (exact (encoding_meant from) (Decodes input) a (λ m l. tells_kind l.result a l.told) (decoded_told n from input a p h))
