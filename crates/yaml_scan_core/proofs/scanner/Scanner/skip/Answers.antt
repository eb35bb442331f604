use Rattle.yaml_scan_core.proofs.AskedLemmas.{own_skipped, rest_skipped, taken_skipped, waits_skipped}
use Rattle.yaml_scan_core.proofs.WaitsLemmas.{takes_needed}
use Rattle.yaml_scan_core.proofs.scanner.Scanner.skip.Goals as goal

pub skip-requires-clause-own : goal.skip-requires-clause-own
skip-requires-clause-own c = own_skipped c.args.self.now c.args.kind c.requires.waits c.requires.front

pub returns-clause-waits : goal.returns-clause-waits
returns-clause-waits c =
    let e = c.skip.ensures in
    waits_skipped c.args.self.now c.args.kind c.skip.new.self c.requires.waits c.requires.front (record { own = e.own; lead = e.lead; shows = e.shows; room = e.room })

pub returns-clause-rest : goal.returns-clause-rest
returns-clause-rest c =
    let e = c.skip.ensures in
    rest_skipped c.args.self.now c.args.kind c.skip.new.self c.requires.waits c.requires.front (record { own = e.own; lead = e.lead; shows = e.shows; room = e.room })

pub returns-clause-taken : goal.returns-clause-taken
returns-clause-taken c =
    let e = c.skip.ensures in
    taken_skipped c.args.self.now c.args.kind c.skip.new.self c.requires.front (record { own = e.own; lead = e.lead; shows = e.shows; room = e.room })

pub returns-clause-kept : goal.returns-clause-kept
returns-clause-kept c =
    let e = c.skip.ensures in
    takes_needed c.args.self.now c.args.kind c.skip.new.self c.requires.waits c.requires.front (record { own = e.own; lead = e.lead; shows = e.shows; room = e.room })
