use Rattle.yaml_emit_laws.proofs.Passing.{streams, fronts, texts}
use Rattle.yaml_emit_laws.proofs.Contents.{dumps, dumped_streams}
use Rattle.yaml_emit_laws.proofs.Loading.{taken, steps, loads_right}
use Rattle.yaml_emit_laws.proofs.LookingBack.{refusal_looks_back}
use Rattle.yaml_emit_laws.proofs.streams_laws.laws_of_dumped_streams.Goals as goal

pub returns-clause-passed_are_streams : goal.returns-clause-passed_are_streams
returns-clause-passed_are_streams c = streams

pub returns-clause-passed_are_fronts : goal.returns-clause-passed_are_fronts
returns-clause-passed_are_fronts c = fronts

pub returns-clause-right_streams_have_texts : goal.returns-clause-right_streams_have_texts
returns-clause-right_streams_have_texts c = texts

pub returns-clause-dumps_are_right : goal.returns-clause-dumps_are_right
returns-clause-dumps_are_right c = dumps

pub returns-clause-dumped_streams_are_right : goal.returns-clause-dumped_streams_are_right
returns-clause-dumped_streams_are_right c = dumped_streams

pub returns-clause-taken_are_right : goal.returns-clause-taken_are_right
returns-clause-taken_are_right c = taken

pub returns-clause-steps_keep_right : goal.returns-clause-steps_keep_right
returns-clause-steps_keep_right c = steps

pub returns-clause-loads_are_right : goal.returns-clause-loads_are_right
returns-clause-loads_are_right c = loads_right

pub returns-clause-refusal_looks_back : goal.returns-clause-refusal_looks_back
returns-clause-refusal_looks_back c = refusal_looks_back
