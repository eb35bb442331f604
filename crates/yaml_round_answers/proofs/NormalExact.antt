-- Of a call whose number is known by another name, and of the kind in its answer.
use Rattle.std.proofs.Common.{◌≡◌, sym, subst, ℕ, ℤ, pos, negsuc, List, Result, Ok, Err}
use Rattle.yaml_parse.specs.scan_types.Faults.{Fault}
use Rattle.yaml_round_answers.specs.declared.record.yaml_c_settings.{yaml_c_settings}
use Rattle.yaml_round_answers.specs.declared.answer.yaml_c_answer.{yaml_c_answer}
use Rattle.yaml_round_answers.specs.Numbers.{encoding_meant}
use Rattle.yaml_round_answers.specs.Told.{AnswersMeant, IsExact, call_meant}
use Rattle.yaml_round_answers.specs.Normalizes.{Normalizes, Checks, TellsDone}
use Rattle.yaml_round_answers.proofs.Exact.{exact, tells_kind, text_kind, fault_kind}

-- What is answered to a normal form is so of the caller's own numbers.
pub normalized_told : (n from : ℤ) (given : yaml_c_settings) (input : List ℕ) (a : yaml_c_answer)
    → n ≡ from
    → AnswersMeant (call_meant n given) (Normalizes input) a
    → AnswersMeant (call_meant from given) (Normalizes input) a
normalized_told n from given input a p h = subst (λ z. AnswersMeant (call_meant z given) (Normalizes input) a) p h

-- The answer -1 of a normal form comes exactly where a number means nothing.
pub normalized_exact : (n from k : ℤ) (given : yaml_c_settings) (input : List ℕ) (a : yaml_c_answer)
    → n ≡ from → k ≡ a.kind
    → AnswersMeant (call_meant n given) (Normalizes input) a → IsExact (call_meant from given) k
normalized_exact n from k given input a p q h =
    subst (λ z. IsExact (call_meant from given) z) (sym q)
    (exact (call_meant from given) (Normalizes input) a (λ m l. tells_kind l.result a l.told) (normalized_told n from given input a p h))

done_kind : (r : Result (Unit {0}) Fault) (a : yaml_c_answer) → TellsDone r a
    → ¬ (a.kind ≡ negsuc 0)
done_kind (Ok done) a h = text_kind _ (pos 0) a h
done_kind (Err f) a h = fault_kind f (pos 0) a h

-- What is answered to a check is so of the caller's own numbers.
pub checked_told : (n from : ℤ) (input : List ℕ) (a : yaml_c_answer) → n ≡ from
    → AnswersMeant (encoding_meant n) (Checks input) a
    → AnswersMeant (encoding_meant from) (Checks input) a
checked_told n from input a p h = subst (λ z. AnswersMeant (encoding_meant z) (Checks input) a) p h

-- The answer -1 of a check comes exactly where a number means nothing.
pub checked_exact : (n from k : ℤ) (input : List ℕ) (a : yaml_c_answer) → n ≡ from → k ≡ a.kind
    → AnswersMeant (encoding_meant n) (Checks input) a
    → IsExact (encoding_meant from) k
checked_exact n from k input a p q h =
    subst (λ z. IsExact (encoding_meant from) z) (sym q)
    (exact (encoding_meant from) (Checks input) a (λ m l. done_kind l.result a l.told) (checked_told n from input a p h))
