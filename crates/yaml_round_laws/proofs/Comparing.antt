-- Comparing is an equivalence, since contents are compared by an equation.
use Rattle.std.proofs.Common.{◌≡◌, ℕ, List, Result, Ok, Bool, true, false, IsTrue, refl, sym, subst, true≢false}
use Rattle.yaml_round.specs.declared.yaml_encoding_t.{yaml_encoding_t}
use Rattle.yaml_emit_laws.specs.scan_types.Faults.{Fault}
use Rattle.yaml_round_content.specs.Said.{Document}
use Rattle.yaml_round_content.specs.Reading.{PlainReading}
use Rattle.yaml_round_content.proofs.Joining.{one_reading}
use Rattle.yaml_round_engine.specs.Answers.{IsRight, SameContent}
use Rattle.yaml_round_laws.specs.Laws.{SameContentIsAnEquivalence, ComparisonsAgree}

same_ok : (r : Result (List Document) Fault) (c d : List Document) → r ≡ Ok c → r ≡ Ok d → c ≡ d
same_ok r c d p q = cc

pub one_content : (from : yaml_encoding_t) (a : List ℕ) (c d : List Document)
    → PlainReading from a (Ok c) → PlainReading from a (Ok d) → c ≡ d
one_content from a c d p q = same_ok (Ok c) c d refl (one_reading from a (Ok c) (Ok d) p q)

pub turned : (a_from b_from : yaml_encoding_t) (a b : List ℕ) → SameContent a_from a b_from b
    → SameContent b_from b a_from a
turned a_from b_from a b h = record { content = h.content; first = h.second; second = h.first }

pub equivalence : SameContentIsAnEquivalence
unfolding IsRight
equivalence = record {
  reflexive = λ from a r. (record { content = r.0; first = r.1; second = r.1 });
  symmetric = λ a_from b_from a b h. turned a_from b_from a b h;
  transitive = λ a_from b_from c_from a b c h k. record {
    content = h.content;
    first = h.first;
    second = subst (λ (d : List Document). PlainReading c_from c (Ok d)) (sym (one_content b_from b h.content k.content h.second k.first)) k.second;
  };
}

both_true : (x y : Bool) → (IsTrue x → IsTrue y) → (IsTrue y → IsTrue x) → x ≡ y
both_true true true h k = refl
both_true true false h k = absurd (true≢false (sym (h refl)))
both_true false true h k = absurd (true≢false (sym (k refl)))
both_true false false h k = refl

pub agree : ComparisonsAgree
agree = record {
  again = λ a_from b_from a b x y h k. both_true x y (λ t. k.told.1 (h.told.0 t)) (λ t. h.told.1 (k.told.0 t));
  turned = λ a_from b_from a b x y h k. both_true x y (λ t. k.told.1 (turned a_from b_from a b (h.told.0 t))) (λ t. h.told.1 (turned b_from a_from b a (k.told.0 t)));
}
