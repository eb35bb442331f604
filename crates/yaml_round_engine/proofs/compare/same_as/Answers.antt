-- The answer is that of the second input's reading.
use Rattle.std.proofs.Common.{subst}
use Rattle.yaml_round_content.specs.Input.{ReadsInput}
use Rattle.yaml_round_reading.specs.Input.{Input}
use Rattle.yaml_round_engine.proofs.Comparing.{same_told, not_begun}
use Rattle.yaml_round_engine.proofs.Parting.{told_where}
use Rattle.yaml_round_engine.proofs.compare.same_as.Goals as goal

pub returns-in-Ok-clause-same : goal.returns-in-Ok-clause-same
returns-in-Ok-clause-same c = λ from input h.
    let reads = subst (λ (i : Input). ReadsInput i.from i.bytes c.in-Ok.second.parser) c.read_text-text.ensures c.in-Ok.ensures.reads in
    same_told from input c.args.b_encoding c.args.b.now c.args.first.now.parser c.in-Ok.second.parser c.compared-answer.result h reads c.compared-answer.ensures.compares

pub returns-in-Ok-clause-parting : goal.returns-in-Ok-clause-parting
returns-in-Ok-clause-parting c = λ from input h fresh.
    let reads = subst (λ (i : Input). ReadsInput i.from i.bytes c.in-Ok.second.parser) c.read_text-text.ensures c.in-Ok.ensures.reads in
    told_where c.args.kept from input c.args.b_encoding c.args.b.now c.args.first.now.parser c.in-Ok.second.parser c.args.trail.now c.compared-answer.new.trail c.compared-answer.result
    h reads c.compared-answer.ensures.compares c.compared-answer.ensures.parted fresh

pub returns-in-Err-clause-same : goal.returns-in-Err-clause-same
returns-in-Err-clause-same c = λ from input h.
    not_begun from input c.args.b_encoding c.args.b.now c.args.first.now.parser c.in-Err.fault c.behind_first.result h c.in-Err.ensures.memory c.behind_first.ensures

pub returns-in-Err-clause-parting : goal.returns-in-Err-clause-parting
returns-in-Err-clause-parting c = λ from input h fresh. tt
