-- The answer is that of the input's reading.
use Rattle.std.proofs.Common.{List, Option, subst}
use Rattle.yaml_scan_types.specs.Faults.{Fault}
use Rattle.yaml_parse.specs.Resolve.{Told}
use Rattle.yaml_round_content.specs.Input.{ReadsInput, events_of}
use Rattle.yaml_round_reading.specs.Input.{Input}
use Rattle.yaml_round_engine.specs.Dumps.{FindsEvent}
use Rattle.yaml_round_engine.proofs.seen.seen_at.Goals as goal

pub returns : goal.returns
returns c =
    let reads = subst (λ (i : Input). ReadsInput i.from i.bytes c.in_ok-reading.reading.parser) c.read_text-text.ensures c.in_ok-reading.ensures.reads in
    subst (λ (f : Option Fault). FindsEvent c.args.number (events_of c.args.from c.args.input.now) f c.found_at-answer.result) reads.ending
    (subst (λ (es : List Told). FindsEvent c.args.number es c.in_ok-reading.reading.parser.ending c.found_at-answer.result) reads.events c.found_at-answer.ensures)
