use Rattle.yaml_scan_core.proofs.MoreLemmas.{taken_fits}
use Rattle.yaml_scan.proofs.KnownLemmas.{ready_behind, took}
use Rattle.yaml_scan.proofs.known.take_one.Goals as goal

pub taken-requires : goal.taken-requires
taken-requires c =
    let r = c.requires.ready in
    let e = c.in_ok-token.ensures in
    let s = ready_behind c.args.scanner.now c.next_token.new.scanner r e.waits e.stream (e.needs r.one r.read) in
    taken_fits c.next_token.new.scanner s.read s.long

pub returns : goal.returns
returns c =
    let r = c.requires.ready in
    let e = c.in_ok-token.ensures in
    record {
      locates = e.locates;
      taken = c.push.ensures.taken;
      takes = took c.args.scanner.now c.next_token.new.scanner c.args.queue.now.known.items c.push.new.self.known.items c.in_ok-token.token c.taken.result c.push.result r c.requires.more e.waits e.stream e.tells (e.needs r.one r.read) c.taken.ensures c.push.ensures.more c.push.ensures.memory;
    }
