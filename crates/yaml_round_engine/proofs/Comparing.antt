-- From what two readings say to what is said of their inputs.
use Rattle.std.proofs.Common.{◌≡◌, ◌⊎◌, ◌∙◌, inl, inr, ap, sym, ℕ, List, Bool, Result, Ok, Err}
use Rattle.yaml_parse.specs.declared.yaml_encoding_t.{yaml_encoding_t}
use Rattle.yaml_parse.specs.declared.yaml_fault_t.{yaml_fault_t}
use Rattle.yaml_parse.specs.declared.yaml_origin_t.TheVariants.{Parser}
use Rattle.yaml_scan_types.specs.Faults.{fault_of, memory_fault}
use Rattle.yaml_parse.specs.Remaining.{ParserRemaining}
use Rattle.yaml_round_content.specs.Input.{ReadsInput}
use Rattle.yaml_round_reading.specs.declared.side.yaml_side_t.{yaml_side_t}
use Rattle.yaml_round_reading.specs.declared.side.yaml_side_t.TheVariants.{First, Second}
use Rattle.yaml_round_reading.specs.Reading.{contents}
use Rattle.yaml_round_engine.specs.Compare.{ComparesReadings, IsSideFault, IsBehindFirst}
use Rattle.yaml_round_reading.specs.Answers.{IsSame, IsSideStarved, IsSideFaulty}
use Rattle.yaml_round_reading.proofs.Plain.{faulty, fault_met, right, same_content, content_same}

side_fault : (a_from : yaml_encoding_t) (a : List ℕ) (b_from : yaml_encoding_t) (b : List ℕ)
    (p q : ParserRemaining) (side : yaml_side_t) (f : yaml_fault_t) → ReadsInput a_from a p
    → ReadsInput b_from b q
    → IsSideFault p q side (fault_of f)
    → IsSideStarved a_from a side (fault_of f) ⊎ IsSideFaulty a_from a b_from b side (fault_of f)
side_fault a_from a b_from b p q First f h k e = fault_met a_from a p (fault_of f) h e
side_fault a_from a b_from b p q Second f h k e =
    let first = right a_from a (sym h.ending ∙ e.0) in
    elim e.1 [ inl m ↦ inl (first, m) | inr z ↦ inr (first, faulty b_from b (fault_of f) (sym k.ending ∙ z)) ]

pub same_told : (a_from : yaml_encoding_t) (a : List ℕ) (b_from : yaml_encoding_t) (b : List ℕ)
    (p q : ParserRemaining) (result : Result Bool (yaml_side_t × yaml_fault_t)) → ReadsInput a_from a p
    → ReadsInput b_from b q
    → ComparesReadings p q result → IsSame a_from a b_from b result
same_told a_from a b_from b p q (Ok same) h k e = record {
  first = right a_from a (sym h.ending ∙ e.first_ending);
  second = right b_from b (sym k.ending ∙ e.second_ending);
  told = (
    λ t. same_content a_from b_from a b (sym h.ending ∙ e.first_ending) (sym k.ending ∙ e.second_ending) (ap contents (sym h.events) ∙ e.told.0 t ∙ ap contents k.events),
    λ s. e.told.1 (ap contents h.events ∙ content_same a_from b_from a b s ∙ ap contents (sym k.events)),
  );
}
same_told a_from a b_from b p q (Err f) h k e = side_fault a_from a b_from b p q f.0 f.1 h k e

-- no memory for the second input's reading
pub not_begun : (a_from : yaml_encoding_t) (a : List ℕ) (b_from : yaml_encoding_t) (b : List ℕ)
    (p : ParserRemaining) (fault : yaml_fault_t) (r : yaml_side_t × yaml_fault_t) → ReadsInput a_from a p
    → fault_of fault ≡ memory_fault Parser → IsBehindFirst p.ending fault r
    → IsSideStarved a_from a r.0 (fault_of r.1) ⊎ IsSideFaulty a_from a b_from b r.0 (fault_of r.1)
not_begun a_from a b_from b p fault (First, f) h m e = fault_met a_from a p (fault_of f) h e
not_begun a_from a b_from b p fault (Second, f) h m e = inl (right a_from a (sym h.ending ∙ e.0), inl (ap fault_of e.1 ∙ m))
