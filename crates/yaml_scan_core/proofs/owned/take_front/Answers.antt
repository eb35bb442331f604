use Rattle.yaml_scan_core.proofs.AskedLemmas.{own_skipped}
use Rattle.yaml_scan_core.proofs.OwnedLemmas.{token_given}
use Rattle.yaml_scan_core.proofs.owned.take_front.Goals as goal

pub owned_body-requires : goal.owned_body-requires
owned_body-requires c = λ plain. (_, c.skip.ensures.taken (own_skipped c.args.scanner.now c.args.kind c.requires.waits c.requires.front plain))

pub returns-in-Ok-clause-gives : goal.returns-in-Ok-clause-gives
returns-in-Ok-clause-gives c =
    token_given c.args.scanner.now c.skip.new.self c.args.kind c.style-style.result _ c.locate-start_mark.result c.locate-end_mark.result c.start.result c.end.result
    c.requires.waits c.requires.front c.skip.ensures.taken c.style-style.ensures c.in-Ok.ensures c.locate-start_mark.ensures.mark c.start.ensures c.locate-end_mark.ensures.mark c.end.ensures.own c.end.ensures.lead
