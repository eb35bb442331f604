-- From the documents that two inputs load to where they differ.
use Rattle.std.proofs.Common.{◌≡◌, ◌⊎◌, inl, inr, refl, ap, ℕ, true, List, Ok, Err}
use Rattle.std.specs.Prelude.{pos}
use Rattle.yaml_scan_model.specs.declared.name.yaml_encoding_t.{yaml_encoding_t}
use Rattle.yaml_scan_model.specs.declared.name.yaml_encoding_t.TheVariants.{YAML_UTF8_ENCODING}
use Rattle.yaml_scan_model.specs.declared.name.yaml_break_t.TheVariants.{YAML_LN_BREAK}
use Rattle.yaml_scan_model.specs.declared.fault.yaml_fault_t.{yaml_fault_t}
use Rattle.yaml_scan_model.specs.scan_types.Faults.{fault_of, IsMemoryFault, load_layers}
use Rattle.yaml_round_engine.specs.emit_layout.declared.RequestedSettings.{RequestedSettings}
use Rattle.yaml_round_engine.specs.parse_model.Documents.{Document}
use Rattle.yaml_round_engine.specs.round_content.Loads.{loads_of}
use Rattle.yaml_round_engine.specs.round_content.Said as content
use Rattle.yaml_round_engine.specs.round_content.Canon.{canonical_layout}
use Rattle.yaml_round_engine.specs.round_content.Agree.{Agrees}
use Rattle.yaml_round_engine.specs.round_content.DumpsEvents.{trees_of_dumps}
use Rattle.yaml_round_engine.specs.Reload.{AreLoaded, IsLoaded}
use Rattle.yaml_round_engine.proofs.ReadBackWhole.{loads_are, texts_tell}
use Rattle.yaml_round_engine.proofs.Loaded.{faulty_load}
use Rattle.yaml_round_engine.specs.declared.difference.yaml_difference_t.{yaml_difference_t}
use Rattle.yaml_round_engine.specs.declared.front.Front.{Front}
use Rattle.yaml_round_engine.specs.Loaded.{SameDocuments, IsDocumentsParting, IsDocumentsDiff}
use Rattle.yaml_round_engine.specs.Dumps.{documents_left, IsStarted, PartsBehind, TellsOfInputs}
use Rattle.yaml_round_engine.proofs.Inputs.{loads, short, all_agree, all_part}
use Rattle.yaml_round_engine.specs.declared.yaml_side_t.{yaml_side_t}
use Rattle.yaml_round_engine.specs.declared.yaml_side_t.TheVariants.{First, Second}

-- ---- documents with the same dumps agree

-- under any settings, their canonical texts are the same
abbrev settings : RequestedSettings
settings = record { encoding = YAML_UTF8_ENCODING; canonical = true; indent = pos 2; width = pos 80; unicode = true; line_break = YAML_LN_BREAK }

tell : (a_from : yaml_encoding_t) (a : List ℕ) (b_from : yaml_encoding_t) (b : List ℕ)
    → trees_of_dumps (loads_of a_from a).documents ≡ trees_of_dumps (loads_of b_from b).documents
    → Agrees (loads_of a_from a).documents (loads_of b_from b).documents
tell a_from a b_from b e =
    (texts_tell settings refl (loads_of a_from a).documents (loads_of b_from b).documents (loads_are a_from a) (loads_are b_from b)).0 (ap (λ (c : List content.Document). canonical_layout settings c) e)

pub agree_told : (a_from : yaml_encoding_t) (a : List ℕ) (b_from : yaml_encoding_t) (b : List ℕ)
    (ds es : List Document) → AreLoaded a_from a ds → AreLoaded b_from b es
    → documents_left ds ≡ documents_left es → SameDocuments a_from a b_from b
agree_told a_from a b_from b ds es h k e =
    all_agree a_from a b_from b ds es (tell a_from a b_from b) h.right k.right h.same k.same e

pub parting_told : (a_from : yaml_encoding_t) (a : List ℕ) (b_from : yaml_encoding_t) (b : List ℕ)
    (ds es : List Document) (old new : Front) (d : yaml_difference_t) → AreLoaded a_from a ds
    → AreLoaded b_from b es
    → IsStarted old → PartsBehind (documents_left ds) (documents_left es) old new
    → TellsOfInputs a_from a b_from b new (Ok d) → IsDocumentsParting a_from a b_from b d
parting_told a_from a b_from b ds es old new d h k s p t = all_part a_from a b_from b ds es old new d h.right k.right h.same k.same s p t

-- ---- refusals

pub first_refused : (a_from : yaml_encoding_t) (a : List ℕ) (b_from : yaml_encoding_t) (b : List ℕ)
    (f : yaml_fault_t)
    → IsMemoryFault load_layers (fault_of f) ⊎ IsLoaded a_from a (Err (fault_of f))
    → IsDocumentsDiff a_from a b_from b (Err (First, f))
first_refused a_from a b_from b f h = elim h [ inl m ↦ inl m | inr k ↦ inr (faulty_load a_from a (fault_of f) k) ]

pub second_refused : (a_from : yaml_encoding_t) (a : List ℕ) (b_from : yaml_encoding_t) (b : List ℕ)
    (ds : List Document) (f : yaml_fault_t) → AreLoaded a_from a ds
    → IsMemoryFault load_layers (fault_of f) ⊎ IsLoaded b_from b (Err (fault_of f))
    → IsDocumentsDiff a_from a b_from b (Err (Second, f))
second_refused a_from a b_from b ds f l h = elim h [ inl m ↦ inl (loads a_from a l.right, m) | inr k ↦ inr (loads a_from a l.right, faulty_load b_from b (fault_of f) k) ]

-- both inputs load, so a fault that is met where their events are read again is out of memory
pub not_told : (a_from : yaml_encoding_t) (a : List ℕ) (b_from : yaml_encoding_t) (b : List ℕ)
    (ds es : List Document) (new : Front) (r : yaml_side_t × yaml_fault_t) → AreLoaded a_from a ds
    → AreLoaded b_from b es
    → TellsOfInputs a_from a b_from b new (Err r) → IsDocumentsDiff a_from a b_from b (Err r)
not_told a_from a b_from b ds es new (First, f) h k t = inl (short a_from a f h.right t)
not_told a_from a b_from b ds es new (Second, f) h k t = inl (loads a_from a h.right, short b_from b f k.right t)
