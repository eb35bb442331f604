-- What C receives of a dump.
use Rattle.std.proofs.Common.{◌≡◌, inl, inr, ◌∙◌, sym, subst, ℤ, pos, negsuc, Bool, true, false, List, []}
use Rattle.yaml_parse.specs.declared.yaml_origin_t.TheVariants.{Emitter}
use Rattle.yaml_parse.specs.scan_types.Faults.{Fault, memory_fault}
use Rattle.yaml_round_answers.specs.declared.graph_record.yaml_c_graph.{yaml_c_graph}
use Rattle.yaml_round_answers.specs.declared.graph_record.yaml_c_turn.{yaml_c_turn}
use Rattle.yaml_round_answers.specs.Graphs.{are_nodes}
use Rattle.yaml_round_answers.specs.Turns.{turns_by}
use Rattle.yaml_round_answers.proofs.Same.{tells_turns}
use Rattle.yaml_round_answers.specs.declared.answer.yaml_c_answer.{yaml_c_answer}
use Rattle.yaml_round_answers.specs.Told.{TellsText, TellsFault, TellsMisuse, Refuses, AnswersMeant, IsExact}
use Rattle.yaml_round_answers.specs.Serializes.{graph_if, graph_meant, Serializes}
use Rattle.yaml_round_answers.proofs.Exact.{text_kind, fault_kind, exact}

pub turns_told : (g : yaml_c_graph) (out given : List yaml_c_turn) (a : yaml_c_answer)
    → out ≡ given → given ≡ turns_by g → TellsText [] (pos 0) a → Serializes out g a
turns_told g out given a handed is t = inr (
  t,
  record {
    walk = handed ∙ is;
    dump = λ d s. tells_turns g out d s (handed ∙ is);
  },
)

-- out of memory is reported in either case
pub memory_told : (g : yaml_c_graph) (p : List yaml_c_turn) (f : Fault) (a : yaml_c_answer)
    → f ≡ memory_fault Emitter → Refuses f (pos 0) a → Serializes p g a
memory_told g p f a is (inl t) = inl (subst (λ z. TellsFault z (pos 0) a) is t)
memory_told g p f a is (inr s) = inl (s.told Emitter)

if_meant : (b : Bool) (g : yaml_c_graph) (p : List yaml_c_turn) (a : yaml_c_answer) → b ≡ true
    → Serializes p g a → AnswersMeant (graph_if b g) (Serializes p) a
if_meant true g p a h s = s
if_meant false g p a h s = absurd (cc)

if_unmeant : (b : Bool) (g : yaml_c_graph) (p : List yaml_c_turn) (a : yaml_c_answer) → b ≡ false
    → TellsMisuse a → AnswersMeant (graph_if b g) (Serializes p) a
if_unmeant true g p a h s = absurd (cc)
if_unmeant false g p a h s = s

pub graph_told : (g : yaml_c_graph) (p : List yaml_c_turn) (a : yaml_c_answer) (b : Bool)
    → b ≡ are_nodes g.held.now g.nodes.now → b ≡ true → Serializes p g a
    → AnswersMeant (graph_meant g) (Serializes p) a
graph_told g p a b is on s = if_meant (are_nodes g.held.now g.nodes.now) g p a (sym is ∙ on) s

pub no_graph_told : (g : yaml_c_graph) (p : List yaml_c_turn) (a : yaml_c_answer) (b : Bool)
    → b ≡ are_nodes g.held.now g.nodes.now → b ≡ false → TellsMisuse a
    → AnswersMeant (graph_meant g) (Serializes p) a
no_graph_told g p a b is off s = if_unmeant (are_nodes g.held.now g.nodes.now) g p a (sym is ∙ off) s

serialized_kind : (p : List yaml_c_turn) (g : yaml_c_graph) (a : yaml_c_answer) → Serializes p g a
    → ¬ (a.kind ≡ negsuc 0)
serialized_kind p g a (inl t) = fault_kind (memory_fault Emitter) (pos 0) a t
serialized_kind p g a (inr t) = text_kind [] (pos 0) a t.0

-- The kind is -1 exactly where a record means nothing.
pub serialized_exact : (g : yaml_c_graph) (p : List yaml_c_turn) (a : yaml_c_answer) (k : ℤ)
    → k ≡ a.kind → AnswersMeant (graph_meant g) (Serializes p) a → IsExact (graph_meant g) k
serialized_exact g p a k q h =
    subst (λ z. IsExact (graph_meant g) z) (sym q)
    (exact (graph_meant g) (Serializes p) a (λ m l. serialized_kind p m a l) h)
