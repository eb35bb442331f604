-- A fault is reported, or that memory for its line was refused.
use mir.Syntax.{w32}
use mir.Val.{SFits, to_z, of_z}
use Rattle.std.proofs.Common.{◌≡◌, ◌∙◌, ◌⊎◌, inl, inr, ap, sym, subst, refl, ℕ, ℤ, pos, Bool, List, Option, None, Some, Result, Ok, Err, Vec}
use Rattle.std.proofs.lemmas.Int.{to_z-of_z}
use Rattle.std.specs.Global.{Global}
use Rattle.yaml_round_answers.specs.Numbers.{encoding_meant}
use Rattle.yaml_parse.specs.declared.yaml_origin_t.{yaml_origin_t}
use Rattle.yaml_parse.specs.declared.yaml_origin_t.TheVariants.{Writer, Parser}
use Rattle.yaml_parse.specs.declared.yaml_fault_t.{yaml_fault_t}
use Rattle.yaml_parse.specs.declared.yaml_encoding_t.{yaml_encoding_t}
use Rattle.yaml_parse.specs.scan_types.Faults.{Fault, fault_of, memory_fault, IsMemoryFault, Answers, parse_layers}
use Rattle.yaml_round.specs.round_engine.Answers.{IsRight, IsSideStarved, IsSideFaulty, IsSame, text_and_form}
use Rattle.yaml_round.specs.declared.yaml_form_t.{yaml_form_t}
use Rattle.yaml_round_answers.specs.Leading.{bytes_of}
use Rattle.yaml_round.specs.declared.yaml_side_t.{yaml_side_t}
use Rattle.yaml_round.specs.declared.yaml_side_t.TheVariants.{First, Second}
use Rattle.yaml_round_answers.specs.declared.answer.yaml_c_answer.{yaml_c_answer}
use Rattle.yaml_round_answers.specs.Characters.{characters_before}
use Rattle.yaml_round_answers.specs.declared.record.yaml_c_mark.{yaml_c_mark}
use Rattle.yaml_round_answers.specs.Counted.{mark_counted}
use Rattle.yaml_round_answers.specs.Told.{TellsFault, TellsFaultIn, TellsMemory, TellsMisuse, TellsStarved, TellsResult, TellsForm, TellsAnswer, TellsForms, TellsSides, Refuses, RefusesIn, OrMemory, IsAnswered, AnswersMeant, both, side_number, Compares}

-- C doesn't learn the layer
layered : (layer : yaml_origin_t) (whose : ℤ) (a : yaml_c_answer)
    → TellsFault (memory_fault Writer) whose a → TellsFault (memory_fault layer) whose a
layered layer whose a t = record {
  kind = t.kind;
  is = t.is;
  second = t.second;
  value = t.value;
  offset = t.offset;
  problem_mark = t.problem_mark;
  context_mark = t.context_mark;
  problem = t.problem;
  context = t.context;
  text = t.text;
  line = t.line;
}

pub starved : (refusal : yaml_fault_t) (whose : ℤ) (a : yaml_c_answer)
    → fault_of refusal ≡ memory_fault Writer → TellsFault (fault_of refusal) whose a
    → TellsStarved whose a
starved refusal whose a e t = record {
  refusal = refusal;
  is = e;
  told = λ layer. layered layer whose a (subst (λ (f : Fault). TellsFault f whose a) e t);
}

-- what a call may answer, where its fault is reported so; memory may be refused in that layer
pub refused_answer : {Y : Type 0} (layers : List yaml_origin_t) (layer : yaml_origin_t)
    (Is : Result Y Fault → Type 0) (TellsIt : Result Y Fault → yaml_c_answer → Type 0)
    (f : Fault) (a : yaml_c_answer) → IsMemoryFault layers (memory_fault layer)
    → ((g : Fault) → TellsFault g (pos 0) a → TellsIt (Err g) a) → OrMemory layers Is (Err f)
    → Refuses f (pos 0) a → IsAnswered (OrMemory layers Is) TellsIt a
refused_answer layers layer Is TellsIt f a may tells is (inl t) = record { result = Err f; is = is; told = tells f t }
refused_answer layers layer Is TellsIt f a may tells is (inr s) = record {
  result = Err (memory_fault layer);
  is = inl may;
  told = tells (memory_fault layer) (s.told layer);
}

-- likewise where it is reported with the characters before its places
pub refused_answer_in : {Y : Type 0} (layers : List yaml_origin_t) (layer : yaml_origin_t)
    (Is : Result Y Fault → Type 0) (TellsIt : Result Y Fault → yaml_c_answer → Type 0)
    (text : List ℕ) (f : Fault) (a : yaml_c_answer) → IsMemoryFault layers (memory_fault layer)
    → ((g : Fault) → TellsFaultIn text g a → TellsIt (Err g) a) → OrMemory layers Is (Err f)
    → RefusesIn text f a → IsAnswered (OrMemory layers Is) TellsIt a
refused_answer_in layers layer Is TellsIt text f a may tells is (inl t) = record { result = Err f; is = is; told = tells f t }
refused_answer_in layers layer Is TellsIt text f a may tells is (inr s) = record {
  result = Err (memory_fault layer);
  is = inl may;
  told = tells (memory_fault layer) (s layer text);
}

-- ---- the characters before a fault's places

abbrev with_characters : ℕ → ℕ → yaml_c_answer → yaml_c_answer
with_characters m n a = record a {
  problem_mark = record a.problem_mark { character = m };
  context_mark = record a.context_mark { character = n };
}

counted_in : (text : List ℕ) (f : Fault) (a : yaml_c_answer) (m n : ℕ)
    → m ≡ characters_before text a.problem_mark.index
    → n ≡ characters_before text a.context_mark.index → TellsFault f (pos 0) a
    → TellsFaultIn text f (with_characters m n a)
counted_in text f a m n e h t = record {
  kind = t.kind;
  is = t.is;
  second = t.second;
  value = t.value;
  offset = t.offset;
  problem_mark = ap (λ z. record a.problem_mark { character = z }) e ∙ ap (mark_counted text) t.problem_mark;
  context_mark = ap (λ z. record a.context_mark { character = z }) h ∙ ap (mark_counted text) t.context_mark;
  problem = t.problem;
  context = t.context;
  text = t.text;
  line = t.line;
}

-- before the beginning no text has any
none_before : (text other : List ℕ) (k : ℕ) → k ≡ 0
    → characters_before text k ≡ characters_before other k
none_before text other k e = rw e refl

pub counted_refused : (text : List ℕ) (f : Fault) (a : yaml_c_answer) (m n : ℕ)
    → m ≡ characters_before text a.problem_mark.index
    → n ≡ characters_before text a.context_mark.index → Refuses f (pos 0) a
    → RefusesIn text f (with_characters m n a)
counted_refused text f a m n e h (inl t) = inl (counted_in text f a m n e h t)
counted_refused text f a m n e h (inr s) = inr (λ layer other. counted_in other (memory_fault layer) a m n
    (e ∙ none_before text other a.problem_mark.index (ap (λ (z : yaml_c_mark). z.index) (s.told layer).problem_mark))
    (h ∙ none_before text other a.context_mark.index (ap (λ (z : yaml_c_mark). z.index) (s.told layer).context_mark)) (s.told layer))

-- out of memory alone is refused so
memory_told : (text : List ℕ) (layer : yaml_origin_t) (a : yaml_c_answer)
    → RefusesIn text (memory_fault layer) a → TellsMemory a
memory_told text layer a (inl t) = λ other_layer other. record {
  kind = t.kind;
  is = t.is;
  second = t.second;
  value = t.value;
  offset = t.offset;
  problem_mark = t.problem_mark;
  context_mark = t.context_mark;
  problem = t.problem;
  context = t.context;
  text = t.text;
  line = t.line;
}
memory_told text layer a (inr s) = s

pub memory_refused : (text : List ℕ) (layer : yaml_origin_t) (f : Fault) (a : yaml_c_answer)
    → f ≡ memory_fault layer → RefusesIn text f a → TellsMemory a
memory_refused text layer f a e h = memory_told text layer a (subst (λ g. RefusesIn text g a) e h)

-- likewise for a comparison, whose fault is reported with its side
in_layer : (refusal : yaml_fault_t) (layer : yaml_origin_t) → fault_of refusal ≡ memory_fault Writer
    → fault_of (record refusal { origin = layer }) ≡ memory_fault layer
in_layer refusal layer e = ap (λ (f : Fault). record f { origin = layer }) e

accepted : (a_from : yaml_encoding_t) (a : List ℕ) (b_from : yaml_encoding_t) (b : List ℕ)
    (f : Fault)
    → IsSideStarved a_from a Second f ⊎ IsSideFaulty a_from a b_from b Second f → IsRight a_from a
accepted a_from a b_from b f (inl h) = h.0
accepted a_from a b_from b f (inr h) = h.0

starved_side : (a_from : yaml_encoding_t) (a : List ℕ) (b_from : yaml_encoding_t) (b : List ℕ)
    (side : yaml_side_t) (f g : Fault)
    → IsMemoryFault parse_layers g
    → IsSideStarved a_from a side f ⊎ IsSideFaulty a_from a b_from b side f
    → IsSideStarved a_from a side g
starved_side a_from a b_from b First f g m h = m
starved_side a_from a b_from b Second f g m h = (accepted a_from a b_from b f h, m)

pub refused_side : (a_from : yaml_encoding_t) (a : List ℕ) (b_from : yaml_encoding_t) (b : List ℕ)
    (side : yaml_side_t) (f : yaml_fault_t) (x : yaml_c_answer)
    → IsSame a_from a b_from b (Err (side, f)) → Refuses (fault_of f) (side_number side) x
    → Compares a b (a_from, b_from) x
refused_side a_from a b_from b side f x is (inl t) = record { result = Err (side, f); is = is; told = t }
refused_side a_from a b_from b side f x is (inr s) =
    let it = in_layer s.refusal Parser s.is in record {
      result = Err (side, record s.refusal { origin = Parser });
      is = inl (starved_side a_from a b_from b side (fault_of f) (fault_of (record s.refusal { origin = Parser })) (inl it) is);
      told = subst (λ (g : Fault). TellsFault g (side_number side) x) (sym it) (s.told Parser);
    }

-- ---- what a call gives

-- a text
pub text_answered : (layers : List yaml_origin_t) (layer : yaml_origin_t)
    (Is : Result (List ℕ) Fault → Type 0) (r : Result (Vec ℕ Global) yaml_fault_t)
    (a : yaml_c_answer) → IsMemoryFault layers (memory_fault layer) → Answers layers bytes_of Is r
    → TellsAnswer r a → IsAnswered (OrMemory layers Is) TellsResult a
text_answered layers layer Is (Ok text) a may is told = record { result = Ok text.items; is = is; told = told }
text_answered layers layer Is (Err f) a may is told = refused_answer layers layer Is TellsResult (fault_of f) a may (λ g t. t) is told

-- a text and its form
pub form_answered : (layers : List yaml_origin_t) (layer : yaml_origin_t)
    (Is : Result (List ℕ × yaml_form_t) Fault → Type 0)
    (r : Result (Vec ℕ Global × yaml_form_t) yaml_fault_t) (a : yaml_c_answer)
    → IsMemoryFault layers (memory_fault layer) → Answers layers text_and_form Is r
    → TellsForms r a → IsAnswered (OrMemory layers Is) TellsForm a
form_answered layers layer Is (Ok (text, form)) a may is told = record { result = Ok (text.items, form); is = is; told = told }
form_answered layers layer Is (Err f) a may is told = refused_answer layers layer Is TellsForm (fault_of f) a may (λ g t. t) is told

-- whether two inputs are the same
pub sides_answered : (a_from : yaml_encoding_t) (a : List ℕ) (b_from : yaml_encoding_t)
    (b : List ℕ) (r : Result Bool (yaml_side_t × yaml_fault_t)) (x : yaml_c_answer)
    → IsSame a_from a b_from b r → TellsSides r x → Compares a b (a_from, b_from) x
sides_answered a_from a b_from b (Ok same) x is told = record { result = Ok same; is = is; told = told }
sides_answered a_from a b_from b (Err (side, f)) x is told = refused_side a_from a b_from b side f x is told

-- two numbers as the machine keeps them
pub both_told : (m n : ℤ) → SFits w32 m → SFits w32 n
    → both (encoding_meant (to_z w32 (of_z w32 m))) (encoding_meant (to_z w32 (of_z w32 n)))
    ≡ both (encoding_meant m) (encoding_meant n)
both_told m n f g = rw (to_z-of_z w32 m f, to_z-of_z w32 n g) refl

-- where the numbers mean that, and where they mean nothing
pub meant_so : {M : Type 0} (Is : M → yaml_c_answer → Type 0) (o p : Option M) (m : M)
    (a : yaml_c_answer) → o ≡ p → o ≡ Some m → Is m a → AnswersMeant p Is a
meant_so Is o p m a e f h = subst (λ z. AnswersMeant z Is a) (sym f ∙ e) h

pub unmeant : {M : Type 0} (Is : M → yaml_c_answer → Type 0) (o p : Option M)
    (a : yaml_c_answer) → o ≡ p → o ≡ None → TellsMisuse a → AnswersMeant p Is a
unmeant Is o p a e f h = subst (λ z. AnswersMeant z Is a) (sym f ∙ e) h
