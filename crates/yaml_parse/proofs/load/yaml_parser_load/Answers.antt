use Rattle.std.proofs.Common.{Ok, Err, refl, rules}
use Rattle.yaml_scan_model.specs.scan_types.Faults.{fault_of}
use Rattle.yaml_parse_model.specs.Events.{event_of}
use Rattle.yaml_parse.proofs.Loading.{fed_in_parts, keeps_on, loads_document, loads_nothing, load_faulty, load_refused, load_more, load_asked, fed_more, fed_asked}
use Rattle.yaml_parse_laws_trees.proofs.NextLoads.{load_is_next, refusal_is_next}
use Rattle.yaml_parse_laws_trees.proofs.LoadsCome.{load_stays, load_tells}
use Rattle.yaml_parse.proofs.load.yaml_parser_load.Goals as goal

pub returns-in-Ok-Some-clause-next : goal.returns-in-Ok-Some-clause-next
returns-in-Ok-Some-clause-next g c =
    let next = rw c.in-Event.is at c.yaml_parser_parse_into.ensures.finds in
    let fed = rw c.in-Ok-Some.field-0-is at (fed_in_parts _ _ _ (event_of c.yaml_parser_parse_into.new.event) c.events.loader c.feed.new.self (Ok c.in-Ok-Some.field-0) c.borrowed.ensures refl refl c.in-Ok-Some.ensures.feeds) in
    load_is_next c.args.parser.now c.yaml_parser_parse_into.new.parser c.in-Ok-Some.document
    (loads_document c.args.parser.now c.events.parser c.yaml_parser_parse_into.new.parser c.events.loader (event_of c.yaml_parser_parse_into.new.event) c.in-Ok-Some.document c.events.invariant
    next fed.0)

pub events-preserved : goal.events-preserved
events-preserved g c =
    let next = rw c.in-Event.is at c.yaml_parser_parse_into.ensures.finds in
    let fed = rw c.in-Ok-None.field-0-is at (fed_in_parts _ _ _ (event_of c.yaml_parser_parse_into.new.event) c.events.loader c.feed.new.self (Ok c.in-Ok-None.field-0) c.borrowed.ensures refl refl c.in-Ok-None.ensures.feeds) in
    keeps_on c.args.parser.now c.events.parser c.yaml_parser_parse_into.new.parser c.events.loader c.feed.new.self (event_of c.yaml_parser_parse_into.new.event) c.events.invariant
    next fed

-- Where a wrong body answers another variant, the search looks for what is owed then, without suggestions.
pub returns-in-End-clause-next : goal.returns-in-End-clause-next
returns-in-End-clause-next g c =
    search (
      rules,
      load_is_next c.args.parser.now c.yaml_parser_parse_into.new.parser c.no_document.result
          (loads_nothing c.args.parser.now c.events.parser c.yaml_parser_parse_into.new.parser c.events.loader c.no_document.result c.events.invariant c.in-End.ensures.finds c.no_document.ensures),
    )

pub returns-in-End-clause-refused : goal.returns-in-End-clause-refused
returns-in-End-clause-refused g c = search rules

pub returns-in-Err-clause-refused : goal.returns-in-Err-clause-refused
returns-in-Err-clause-refused g c =
    let next = rw c.in-Event.is at c.yaml_parser_parse_into.ensures.finds in
    refusal_is_next c.args.parser.now c.refuse.new.self (fault_of c.in-Err.refused)
    (load_refused c.args.parser.now c.events.parser c.yaml_parser_parse_into.new.parser c.refuse.new.self c.events.loader (event_of c.yaml_parser_parse_into.new.event) (fault_of c.in-Err.refused)
    c.events.invariant next (fed_in_parts _ _ _ (event_of c.yaml_parser_parse_into.new.event) c.events.loader c.feed.new.self (Err c.in-Err.refused) c.borrowed.ensures refl refl c.in-Err.ensures.feeds).0 c.refuse.ensures.finished c.refuse.ensures.answered c.refuse.ensures.unasked)
    (fed_more c.args.parser.now c.events.parser c.yaml_parser_parse_into.new.parser c.events.loader (event_of c.yaml_parser_parse_into.new.event) c.events.invariant next)
    (fed_asked c.args.parser.now c.events.parser c.yaml_parser_parse_into.new.parser c.refuse.new.self c.events.loader (event_of c.yaml_parser_parse_into.new.event) (fault_of c.in-Err.refused) c.events.invariant next c.refuse.ensures.unasked)

pub returns-in-Refused-clause-refused : goal.returns-in-Refused-clause-refused
returns-in-Refused-clause-refused g c =
    refusal_is_next c.args.parser.now c.yaml_parser_parse_into.new.parser (fault_of c.yaml_parser_parse_into.new.fault)
    (load_faulty c.args.parser.now c.events.parser c.yaml_parser_parse_into.new.parser c.events.loader (fault_of c.yaml_parser_parse_into.new.fault) c.events.invariant c.in-Refused.ensures.finds)
    (load_more c.args.parser.now c.events.parser c.events.loader c.events.invariant c.in-Refused.ensures.finds.more)
    (load_asked c.args.parser.now c.events.parser c.yaml_parser_parse_into.new.parser c.events.loader (fault_of c.yaml_parser_parse_into.new.fault) c.events.invariant c.in-Refused.ensures.finds)

-- ---- the fault that loads come to

pub returns-in-Ok-Some-clause-stays : goal.returns-in-Ok-Some-clause-stays
returns-in-Ok-Some-clause-stays g c = λ h k. load_stays c.args.parser.now c.yaml_parser_parse_into.new.parser c.in-Ok-Some.document h (returns-in-Ok-Some-clause-next g c) k

pub returns-in-End-clause-stays : goal.returns-in-End-clause-stays
returns-in-End-clause-stays g c = λ h.
    search (
      rules,
      load_stays c.args.parser.now c.yaml_parser_parse_into.new.parser c.no_document.result h
          (load_is_next c.args.parser.now c.yaml_parser_parse_into.new.parser c.no_document.result
          (loads_nothing c.args.parser.now c.events.parser c.yaml_parser_parse_into.new.parser c.events.loader c.no_document.result c.events.invariant c.in-End.ensures.finds c.no_document.ensures)),
    )

pub returns-in-End-clause-told : goal.returns-in-End-clause-told
returns-in-End-clause-told g c = search rules

pub returns-in-Err-clause-told : goal.returns-in-Err-clause-told
returns-in-Err-clause-told g c = λ h. load_tells c.args.parser.now c.refuse.new.self (fault_of c.in-Err.refused) h (returns-in-Err-clause-refused g c)

pub returns-in-Refused-clause-told : goal.returns-in-Refused-clause-told
returns-in-Refused-clause-told g c = λ h. load_tells c.args.parser.now c.yaml_parser_parse_into.new.parser (fault_of c.yaml_parser_parse_into.new.fault) h (returns-in-Refused-clause-refused g c)
