use Rattle.yaml_emit.proofs.emitter.yaml_emitter_into_output.Goals as goal

pub returns : goal.returns
returns c = record {
  bytes = c.into_output-text.ensures.bytes;
  front = c.into_output-text.ensures.front;
  whole = c.into_output-text.ensures.whole;
  within = c.into_output-text.ensures.within;
}
