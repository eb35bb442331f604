use Rattle.std.proofs.Common.{Ok, Err, ap, sym, subst, ◌∙◌}
use Rattle.yaml_scan_model.specs.scan_types.Faults.{fault_of}
use Rattle.yaml_parse_model.specs.Constructors.{HasUtf8}
use Rattle.yaml_parse_model.specs.Events.{Event, borrowed_body}
use Rattle.yaml_parse.specs.Finds.{GivesNext}
use Rattle.yaml_parse.specs.View.{ParserView}
use Rattle.yaml_parse.proofs.Loading.{fed_in_parts, keeps_on, loads_document, loads_nothing, load_faulty, load_refused, load_more, load_asked, fed_more, fed_asked}
use Rattle.yaml_parse_laws_trees.proofs.NextLoads.{load_is_next, refusal_is_next}
use Rattle.yaml_parse.proofs.token_parser.TokenParser.load.Goals as goal

pub feed-requires : goal.feed-requires
feed-requires g c =
    subst HasUtf8 (sym (c.event.ensures ∙ ap (λ (v : ParserView). v.given.body) c.marks-marks.ensures.same)) c.in-Event.ensures.utf8

pub returns-in-Ok-Some-clause-next : goal.returns-in-Ok-Some-clause-next
returns-in-Ok-Some-clause-next g c =
    let e : Event = c.next.new.self.given in
    let next = subst (λ (v : ParserView). GivesNext e c.events.self.remaining v.remaining) (sym c.marks-marks.ensures.same) c.in-Event.ensures.finds in
    let fed = rw c.in-Ok-Some.field-0-is at (fed_in_parts (borrowed_body c.event.result) _ _ e c.events.loader c.feed.new.self (Ok c.in-Ok-Some.field-0)
    (c.event.ensures ∙ ap (λ (v : ParserView). v.given.body) c.marks-marks.ensures.same) c.marks-marks.ensures.start c.marks-marks.ensures.end c.in-Ok-Some.ensures.feeds) in
    load_is_next c.args.self.now.remaining c.marks-marks.new.self.remaining c.in-Ok-Some.document
    (loads_document c.args.self.now.remaining c.events.self.remaining c.marks-marks.new.self.remaining c.events.loader e c.in-Ok-Some.document c.events.invariant next fed.0)

pub events-preserved : goal.events-preserved
events-preserved g c =
    let e : Event = c.next.new.self.given in
    let next = subst (λ (v : ParserView). GivesNext e c.events.self.remaining v.remaining) (sym c.marks-marks.ensures.same) c.in-Event.ensures.finds in
    let fed = rw c.in-Ok-None.field-0-is at (fed_in_parts (borrowed_body c.event.result) _ _ e c.events.loader c.feed.new.self (Ok c.in-Ok-None.field-0)
    (c.event.ensures ∙ ap (λ (v : ParserView). v.given.body) c.marks-marks.ensures.same) c.marks-marks.ensures.start c.marks-marks.ensures.end c.in-Ok-None.ensures.feeds) in
    keeps_on c.args.self.now.remaining c.events.self.remaining c.marks-marks.new.self.remaining c.events.loader c.feed.new.self e c.events.invariant next fed

pub returns-in-End-clause-next : goal.returns-in-End-clause-next
returns-in-End-clause-next g c =
    load_is_next c.args.self.now.remaining c.next.new.self.remaining c.no_document.result
    (loads_nothing c.args.self.now.remaining c.events.self.remaining c.next.new.self.remaining c.events.loader c.no_document.result c.events.invariant c.in-End.ensures.finds c.no_document.ensures)

pub returns-in-Err-clause-refused : goal.returns-in-Err-clause-refused
returns-in-Err-clause-refused g c =
    let e : Event = c.next.new.self.given in
    let next = subst (λ (v : ParserView). GivesNext e c.events.self.remaining v.remaining) (sym c.marks-marks.ensures.same) c.in-Event.ensures.finds in
    let fed = fed_in_parts (borrowed_body c.event.result) _ _ e c.events.loader c.feed.new.self (Err c.in-Err.refused)
    (c.event.ensures ∙ ap (λ (v : ParserView). v.given.body) c.marks-marks.ensures.same) c.marks-marks.ensures.start c.marks-marks.ensures.end c.in-Err.ensures.feeds in
    refusal_is_next c.args.self.now.remaining c.refuse.new.self.remaining (fault_of c.in-Err.refused)
    (load_refused c.args.self.now.remaining c.events.self.remaining c.marks-marks.new.self.remaining c.refuse.new.self.remaining c.events.loader e (fault_of c.in-Err.refused)
    c.events.invariant next fed.0 c.refuse.ensures.finished c.refuse.ensures.answered c.refuse.ensures.unasked)
    (fed_more c.args.self.now.remaining c.events.self.remaining c.marks-marks.new.self.remaining c.events.loader e c.events.invariant next)
    (fed_asked c.args.self.now.remaining c.events.self.remaining c.marks-marks.new.self.remaining c.refuse.new.self.remaining c.events.loader e (fault_of c.in-Err.refused) c.events.invariant next c.refuse.ensures.unasked)

pub returns-in-Refused-clause-refused : goal.returns-in-Refused-clause-refused
returns-in-Refused-clause-refused g c =
    let f = c.next.new.self.remaining.answered in
    rw c.fault.ensures
    (refusal_is_next c.args.self.now.remaining c.next.new.self.remaining f
    (load_faulty c.args.self.now.remaining c.events.self.remaining c.next.new.self.remaining c.events.loader f c.events.invariant c.in-Refused.ensures.finds)
    (load_more c.args.self.now.remaining c.events.self.remaining c.events.loader c.events.invariant c.in-Refused.ensures.finds.more)
    (load_asked c.args.self.now.remaining c.events.self.remaining c.next.new.self.remaining c.events.loader f c.events.invariant c.in-Refused.ensures.finds))
