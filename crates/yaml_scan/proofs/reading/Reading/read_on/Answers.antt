use Rattle.std.proofs.Common.{◌∙◌, ap, subst}
use Rattle.yaml_scan.specs.declared.reading.Reading.{Reading}
use Rattle.yaml_scan.specs.Known.{FillsText}
use Rattle.yaml_scan.specs.SessionView.{Keeps}
use Rattle.yaml_scan.proofs.ReadingLemmas.{ahead, reads_none, reads_on}
use Rattle.yaml_scan.proofs.reading.Reading.read_on.Goals as goal

pub fill_from-requires : goal.fill_from-requires
fill_from-requires c =
    let r = c.args.self.now in
    let a = ahead r.setting r.input.now r.standing r.queue.known.items r.queue.taken c.in-Ok.standing c.stand.result (c.requires.reading.holds c.requires.free) c.requires.none c.stand.ensures.stood c.in-Ok.is in
    record {
      ready = a.stands.ready;
      idle = a.idle;
      locates = a.stands.locates;
      none = ap (λ (x : Reading). x.queue.known.items) c.stand.ensures.same ∙ c.requires.none;
    }

pub returns-in-Ok : goal.returns-in-Ok
returns-in-Ok c =
    let r = c.args.self.now in
    let q = c.fill_from.new.self in
    let z = c.in-Ok.standing in
    let a = ahead r.setting r.input.now r.standing r.queue.known.items r.queue.taken z c.stand.result (c.requires.reading.holds c.requires.free) c.requires.none c.stand.ensures.stood c.in-Ok.is in
    let keeps : Keeps r q = c.fill_from.ensures.keeps ∙ ap (λ (x : Reading). record x { standing = q.standing; queue = q.queue }) c.stand.ensures.same in
    let (y, stood, fills) = c.fill_from.ensures.fills in
    let filled : FillsText z y r.queue q.queue c.fill_from.result = subst (λ (x : Reading). FillsText z y x.queue q.queue c.fill_from.result) c.stand.ensures.same fills in
    record {
      keeps = keeps;
      reads = reads_on r q z y c.fill_from.result a c.requires.reading c.requires.free c.requires.none keeps stood filled;
    }

pub returns-in-Err-clause-reads : goal.returns-in-Err-clause-reads
returns-in-Err-clause-reads c = reads_none c.args.self.now c.stand.result _ c.requires.free c.requires.none c.stand.ensures.stood c.in-Err.is
