-- What an input says, and what it loads, is a stream in which nothing is wrong, and so has a text.
use Rattle.std.proofs.Common.{None, ◌≡◌, ℕ, List, map, Bool, true, refl, sym, subst}
use Rattle.yaml_parse.specs.declared.yaml_encoding_t.{yaml_encoding_t}
use Rattle.yaml_parse.specs.declared.yaml_encoding_t.TheVariants.{YAML_ANY_ENCODING}
use Rattle.yaml_parse.specs.Documents.{Document}
use Rattle.yaml_parse.specs.Loading.{nothing_loaded}
use Rattle.yaml_emit.specs.emit_graph.Graph.{graph_content}
use Rattle.yaml_emit.specs.emit_layout.declared.RequestedSettings.{RequestedSettings}
use Rattle.yaml_round_content.specs.emit_laws.StreamsLaws.{IsEmittable, HasText, AreRightTold}
use Rattle.yaml_round_content.proofs.LawsPassing.{texts}
use Rattle.yaml_round_content.proofs.LawsContents.{dumped_streams}
use Rattle.yaml_round_content.proofs.LawsLoading.{empty_right}
use Rattle.yaml_round_content.proofs.ContentInputs.{input_stream}
use Rattle.yaml_round_content.proofs.StreamsInputs.{inputs_load_right}
use Rattle.yaml_round_reading.specs.Reading.{emitter_events}
use Rattle.yaml_round_content.specs.Input.{events_of, ending_of, read}
use Rattle.yaml_round_content.specs.Loads.{loads_of}
use Rattle.yaml_round_content.specs.Normal.{ended}
use Rattle.yaml_round_content.proofs.Laid.{ended_right}
use Rattle.yaml_round_engine.specs.Reload.{written_events}
use Rattle.yaml_round_content.proofs.Sound.{all_right}

-- ---- events

pub input_text : (from : yaml_encoding_t) (input : List ℕ) (w : RequestedSettings)
    → ending_of from input ≡ None → HasText w (emitter_events w.canonical (events_of from input))
input_text from input w r = texts w (emitter_events w.canonical (events_of from input)) (input_stream from input w.canonical r)

-- ---- documents

input_told : (from : yaml_encoding_t) (input : List ℕ) → AreRightTold (events_of from input)
unfolding read
input_told from input = inputs_load_right from input

loaded_stream : (from : yaml_encoding_t) (input : List ℕ)
    → IsEmittable true (written_events (loads_of from input).documents)
loaded_stream from input =
    let ds : List Document = (loads_of from input).documents in
    record {
      encoding = YAML_ANY_ENCODING;
      documents = map graph_content (ended ds);
      same = refl;
      right = dumped_streams true YAML_ANY_ENCODING (ended ds) (ended_right ds (all_right (events_of from input) (ending_of from input) nothing_loaded (input_told from input) empty_right));
    }

pub loaded_text : (from : yaml_encoding_t) (input : List ℕ) (w : RequestedSettings)
    → w.canonical ≡ true → HasText w (written_events (loads_of from input).documents)
loaded_text from input w c = texts w (written_events (loads_of from input).documents) (subst (λ (b : Bool). IsEmittable b (written_events (loads_of from input).documents)) (sym c) (loaded_stream from input))
