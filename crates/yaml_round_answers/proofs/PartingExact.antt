-- The kind of the answer of a search for a difference is -1 only where a number means nothing.
use Rattle.std.proofs.Common.{◌≡◌, ◌∙◌, inl, inr, sym, subst, ℕ, ℤ, pos, negsuc, List, [], Option, None, Some, Result, Ok, Err}
use Rattle.yaml_parse.specs.declared.yaml_encoding_t.{yaml_encoding_t}
use Rattle.yaml_parse.specs.declared.yaml_fault_t.{yaml_fault_t}
use Rattle.yaml_parse.specs.declared.yaml_origin_t.TheVariants.{Parser}
use Rattle.yaml_parse.specs.scan_types.Faults.{Fault, fault_of, memory_fault}
use Rattle.yaml_round.specs.declared.yaml_side_t.{yaml_side_t}
use Rattle.yaml_round.specs.declared.yaml_difference_t.{yaml_difference_t}
use Rattle.yaml_round_answers.specs.Numbers.{encoding_meant}
use Rattle.yaml_round_answers.specs.declared.answer.yaml_c_answer.{yaml_c_answer}
use Rattle.yaml_round_answers.specs.declared.parting.yaml_c_parting.{yaml_c_parting}
use Rattle.yaml_round_answers.specs.Told.{IsExact, Refuses, TellsMisuse, both, side_number}
use Rattle.yaml_round_answers.specs.Path.{path_spelled}
use Rattle.yaml_round_answers.specs.Parting.{NoPlaceBeside, TellsParting, PartingMeant, Parts, PartsDocuments}
use Rattle.yaml_round_answers.proofs.Exact.{text_kind, fault_kind}

refusal_kind : (f : Fault) (whose : ℤ) (a : yaml_c_answer) → Refuses f whose a
    → ¬ (a.kind ≡ negsuc 0)
refusal_kind f whose a (inl t) = fault_kind f whose a t
refusal_kind f whose a (inr s) = fault_kind (memory_fault Parser) whose a (s.told Parser)

parting_kind : (r : Result (Option yaml_difference_t) (yaml_side_t × yaml_fault_t))
    (p : yaml_c_parting) → TellsParting r p → ¬ (p.answer.kind ≡ negsuc 0)
parting_kind (Ok None) p h = text_kind [] (pos 1) p.answer h.0
parting_kind (Ok (Some d)) p h = elim h [
  | inl t ↦ text_kind (path_spelled d.path.items) (pos 0) p.answer t.answer
  | inr m ↦ refusal_kind (memory_fault Parser) (pos 0) p.answer m.0
]
parting_kind (Err f) p h = refusal_kind (fault_of f.1) (side_number f.0) p.answer h.0

-- numbers of encodings, known by other names
told_as : (m n first_from second_from : ℤ)
    (Is : yaml_encoding_t × yaml_encoding_t → yaml_c_parting → Type 0) (p : yaml_c_parting)
    → m ≡ first_from → n ≡ second_from
    → PartingMeant (both (encoding_meant m) (encoding_meant n)) Is p
    → PartingMeant (both (encoding_meant first_from) (encoding_meant second_from)) Is p
told_as m n first_from second_from Is p e f h =
    subst (λ z. PartingMeant (both (encoding_meant first_from) (encoding_meant z)) Is p) f (subst (λ z. PartingMeant (both (encoding_meant z) (encoding_meant n)) Is p) e h)

exact : (o : Option (yaml_encoding_t × yaml_encoding_t))
    (Is : yaml_encoding_t × yaml_encoding_t → yaml_c_parting → Type 0) (p : yaml_c_parting)
    → ((m : yaml_encoding_t × yaml_encoding_t) → Is m p → ¬ (p.answer.kind ≡ negsuc 0))
    → PartingMeant o Is p → IsExact o p.answer.kind
exact None Is p f h = h.0.kind
exact (Some m) Is p f h = f m h

exact_as : (m n first_from second_from k : ℤ)
    (Is : yaml_encoding_t × yaml_encoding_t → yaml_c_parting → Type 0) (p : yaml_c_parting)
    → ((m : yaml_encoding_t × yaml_encoding_t) → Is m p → ¬ (p.answer.kind ≡ negsuc 0))
    → m ≡ first_from → n ≡ second_from → k ≡ p.answer.kind
    → PartingMeant (both (encoding_meant m) (encoding_meant n)) Is p
    → IsExact (both (encoding_meant first_from) (encoding_meant second_from)) k
exact_as m n first_from second_from k Is p t e f g h =
    subst (λ z. IsExact (both (encoding_meant first_from) (encoding_meant second_from)) z) (sym g)
    (exact (both (encoding_meant first_from) (encoding_meant second_from)) Is p t (told_as m n first_from second_from Is p e f h))

-- where the numbers mean that, and where they mean nothing
pub parts_so : {M : Type 0} (Is : M → yaml_c_parting → Type 0) (o p : Option M) (m : M)
    (x : yaml_c_parting) → o ≡ p → o ≡ Some m → Is m x → PartingMeant p Is x
parts_so Is o p m x e f h = subst (λ z. PartingMeant z Is x) (sym f ∙ e) h

pub parts_unmeant : {M : Type 0} (Is : M → yaml_c_parting → Type 0) (o p : Option M)
    (x : yaml_c_parting) → o ≡ p → o ≡ None → NoPlaceBeside TellsMisuse x → PartingMeant p Is x
parts_unmeant Is o p x e f h = subst (λ z. PartingMeant z Is x) (sym f ∙ e) h

-- ---- contents

-- What a search for a difference answers is so of the caller's own numbers.
pub parted_told : (m n first_from second_from : ℤ) (first second : List ℕ) (p : yaml_c_parting)
    → m ≡ first_from → n ≡ second_from
    → PartingMeant (both (encoding_meant m) (encoding_meant n)) (Parts first second) p
    → PartingMeant (both (encoding_meant first_from) (encoding_meant second_from))
    (Parts first second) p
parted_told m n first_from second_from first second p e f h = told_as m n first_from second_from (Parts first second) p e f h

-- The answer -1 of a search for a difference comes exactly where a number means nothing.
pub parted_exact : (m n first_from second_from k : ℤ) (first second : List ℕ) (p : yaml_c_parting)
    → m ≡ first_from → n ≡ second_from → k ≡ p.answer.kind
    → PartingMeant (both (encoding_meant m) (encoding_meant n)) (Parts first second) p
    → IsExact (both (encoding_meant first_from) (encoding_meant second_from)) k
parted_exact m n first_from second_from k first second p e f g h =
    exact_as m n first_from second_from k (Parts first second) p (λ z t. parting_kind t.result p t.told) e f g h

-- ---- documents

-- What is answered to a comparison of documents is so of the caller's own numbers.
pub documents_told : (m n first_from second_from : ℤ) (first second : List ℕ) (p : yaml_c_parting)
    → m ≡ first_from → n ≡ second_from
    → PartingMeant (both (encoding_meant m) (encoding_meant n)) (PartsDocuments first second) p
    → PartingMeant (both (encoding_meant first_from) (encoding_meant second_from))
    (PartsDocuments first second) p
documents_told m n first_from second_from first second p e f h = told_as m n first_from second_from (PartsDocuments first second) p e f h

-- The answer -1 of a comparison of documents comes exactly where a number means nothing.
pub documents_exact : (m n first_from second_from k : ℤ) (first second : List ℕ)
    (p : yaml_c_parting) → m ≡ first_from → n ≡ second_from → k ≡ p.answer.kind
    → PartingMeant (both (encoding_meant m) (encoding_meant n)) (PartsDocuments first second) p
    → IsExact (both (encoding_meant first_from) (encoding_meant second_from)) k
documents_exact m n first_from second_from k first second p e f g h =
    exact_as m n first_from second_from k (PartsDocuments first second) p (λ z t. parting_kind t.result p t.told) e f g h
