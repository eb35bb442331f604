-- What C receives of events that are composed.
use Rattle.std.proofs.Common.{◌≡◌, inl, inr, ◌∙◌, sym, subst, ap, ℕ, ℤ, pos, negsuc, Bool, true, false, List, []}
use Rattle.yaml_parse.specs.declared.yaml_origin_t.TheVariants.{Loader}
use Rattle.yaml_parse.specs.scan_types.Faults.{Fault, memory_fault}
use Rattle.yaml_parse.specs.scan_types.Tokens.{zero_mark}
use Rattle.yaml_parse.specs.Numbering.{undefined_alias}
use Rattle.yaml_round_answers.specs.declared.graph_record.yaml_c_spot.{yaml_c_spot}
use Rattle.yaml_round_answers.specs.declared.graph_record.yaml_c_step.{yaml_c_step}
use Rattle.yaml_round_answers.specs.Composing.{are_steps, fresh_sketch, all_drawn}
use Rattle.yaml_round_answers.proofs.Sketches.{spots_are}
use Rattle.yaml_round_answers.specs.declared.answer.yaml_c_answer.{yaml_c_answer}
use Rattle.yaml_round_answers.specs.Told.{TellsText, TellsFault, TellsMisuse, Refuses, AnswersMeant, IsExact}
use Rattle.yaml_round_answers.specs.Composes.{Steps, steps_if, steps_meant, TellsWhole, AreComposed, Composes, NoSpotUnmeant}
use Rattle.yaml_round_answers.proofs.Exact.{text_kind, fault_kind, exact}

are_composed : (m : Steps) (out given : List yaml_c_spot) (whole b : Bool) → out ≡ given
    → whole ≡ b → (given, whole) ≡ all_drawn m.0 m.1 fresh_sketch → AreComposed m out b
are_composed m out given whole b handed same is =
    let walk : (out, b) ≡ all_drawn m.0 m.1 fresh_sketch = ap (λ (z : List yaml_c_spot). (z, b)) handed ∙ ap (λ (z : Bool). (given, z)) (sym same) ∙ is in
    record { walk = walk; loads = spots_are m.0 m.1 out b walk }

pub whole_told : (m : Steps) (out given : List yaml_c_spot) (whole : Bool) (a : yaml_c_answer)
    → out ≡ given → whole ≡ true → (given, whole) ≡ all_drawn m.0 m.1 fresh_sketch
    → TellsText [] (pos 0) a → Composes out m a
whole_told m out given whole a handed on is t = inr (record {
  whole = true;
  told = t;
  composed = are_composed m out given whole true handed on is;
})

pub alias_told : (m : Steps) (out given : List yaml_c_spot) (whole : Bool) (f : Fault)
    (a : yaml_c_answer) → out ≡ given → whole ≡ false
    → (given, whole) ≡ all_drawn m.0 m.1 fresh_sketch → f ≡ undefined_alias zero_mark
    → Refuses f (pos 0) a → Composes out m a
alias_told m out given whole f a handed off is same (inl t) = inr (record {
  whole = false;
  told = subst (λ z. TellsFault z (pos 0) a) same t;
  composed = are_composed m out given whole false handed off is;
})
alias_told m out given whole f a handed off is same (inr s) = inl (s.told Loader, inr (are_composed m out given whole false handed off is))

pub no_spots_told : (m : Steps) (out : List yaml_c_spot) (f : Fault) (a : yaml_c_answer)
    → out ≡ [] → f ≡ memory_fault Loader → Refuses f (pos 0) a → Composes out m a
no_spots_told m out f a none is (inl t) = inl (subst (λ z. TellsFault z (pos 0) a) is t, inl none)
no_spots_told m out f a none is (inr s) = inl (s.told Loader, inl none)

if_steps : (b : Bool) (m : Steps) (out : List yaml_c_spot) (a : yaml_c_answer) → b ≡ true
    → Composes out m a → AnswersMeant (steps_if b m) (Composes out) a
if_steps true m out a h s = s
if_steps false m out a h s = absurd (cc)

if_no_steps : (b : Bool) (m : Steps) (out : List yaml_c_spot) (a : yaml_c_answer) → b ≡ false
    → TellsMisuse a → AnswersMeant (steps_if b m) (Composes out) a
if_no_steps true m out a h s = absurd (cc)
if_no_steps false m out a h s = s

pub steps_told : (bytes : List ℕ) (rs : List yaml_c_step) (out : List yaml_c_spot)
    (a : yaml_c_answer) (b : Bool) → b ≡ are_steps bytes rs → b ≡ true → Composes out (bytes, rs) a
    → AnswersMeant (steps_meant bytes rs) (Composes out) a
steps_told bytes rs out a b is on s = if_steps (are_steps bytes rs) (bytes, rs) out a (sym is ∙ on) s

pub no_steps_told : (bytes : List ℕ) (rs : List yaml_c_step) (out : List yaml_c_spot)
    (a : yaml_c_answer) (b : Bool) → b ≡ are_steps bytes rs → b ≡ false → TellsMisuse a
    → AnswersMeant (steps_meant bytes rs) (Composes out) a
no_steps_told bytes rs out a b is off s = if_no_steps (are_steps bytes rs) (bytes, rs) out a (sym is ∙ off) s

any_handed : (b : Bool) (m : Steps) (out : List yaml_c_spot) → b ≡ true
    → NoSpotUnmeant (steps_if b m) out
any_handed true m out h = tt
any_handed false m out h = absurd (cc)

none_handed : (b : Bool) (m : Steps) (out : List yaml_c_spot) → out ≡ []
    → NoSpotUnmeant (steps_if b m) out
none_handed true m out h = tt
none_handed false m out h = h

pub steps_handed : (bytes : List ℕ) (rs : List yaml_c_step) (out : List yaml_c_spot) (b : Bool)
    → b ≡ are_steps bytes rs → b ≡ true → NoSpotUnmeant (steps_meant bytes rs) out
steps_handed bytes rs out b is on = any_handed (are_steps bytes rs) (bytes, rs) out (sym is ∙ on)

pub nothing_handed : (bytes : List ℕ) (rs : List yaml_c_step) (out : List yaml_c_spot)
    → out ≡ [] → NoSpotUnmeant (steps_meant bytes rs) out
nothing_handed bytes rs out h = none_handed (are_steps bytes rs) (bytes, rs) out h

whole_kind : (b : Bool) (a : yaml_c_answer) → TellsWhole b a → ¬ (a.kind ≡ negsuc 0)
whole_kind true a t = text_kind [] (pos 0) a t
whole_kind false a t = fault_kind (undefined_alias zero_mark) (pos 0) a t

composed_kind : (out : List yaml_c_spot) (m : Steps) (a : yaml_c_answer) → Composes out m a
    → ¬ (a.kind ≡ negsuc 0)
composed_kind out m a (inl t) = fault_kind (memory_fault Loader) (pos 0) a t.0
composed_kind out m a (inr t) = whole_kind t.whole a t.told

-- The kind is -1 exactly where a record means nothing.
pub composed_exact : (bytes : List ℕ) (rs : List yaml_c_step) (out : List yaml_c_spot)
    (a : yaml_c_answer) (k : ℤ) → k ≡ a.kind
    → AnswersMeant (steps_meant bytes rs) (Composes out) a → IsExact (steps_meant bytes rs) k
composed_exact bytes rs out a k q h =
    subst (λ z. IsExact (steps_meant bytes rs) z) (sym q)
    (exact (steps_meant bytes rs) (Composes out) a (λ m l. composed_kind out m a l) h)
