use Rattle.std.proofs.Common.{rules, sym, ◌∙◌, subst}
use Rattle.yaml_scan_core.proofs.MoreLemmas.{knows_more, token_known}
use Rattle.yaml_scan.specs.Known.{Fails, GivesAll}
use Rattle.yaml_scan_types.specs.Faults.{fault_of}
use Rattle.yaml_scan.proofs.KnownLemmas.{fails_more, fewer_left, gives_none, goes_no_more, goes_on, goes_with, more_there, some_with, starts_with}
use Rattle.yaml_scan.proofs.known.take_known.Goals as goal

pub returns-then-not-may_read_on-clause-fills : goal.returns-then-not-may_read_on-clause-fills
returns-then-not-may_read_on-clause-fills c =
    let s = c.args.scanner.now in
    let over = goes_no_more c.may_read_on.result s.ended c.may_read_on.ensures c.if-not-may_read_on.true in
    subst (λ ks. GivesAll s s ks) (sym c.requires.none) (gives_none s c.requires.ready (c.requires.idle over) over)

pub take_one-requires-clause-more : goal.take_one-requires-clause-more
take_one-requires-clause-more c =
    let s = c.args.scanner.now in
    more_there s c.requires.ready (goes_on c.may_read_on.result s.ended c.may_read_on.ensures c.if-not-may_read_on.false)

pub known-init : goal.known-init
known-init c =
    let (k, more, gives) = c.in_ok-take_one.ensures.takes in
    record {
      gives = starts_with c.args.scanner.now c.take_one.new.scanner c.args.queue.now.known.items c.take_one.new.queue.known.items k c.requires.none more gives;
      some = some_with c.args.queue.now.known.items c.take_one.new.queue.known.items k more;
      locates = c.take_one.ensures.locates;
      taken = c.take_one.ensures.taken;
    }

pub take_one-requires-in-known-clause-more : goal.take_one-requires-in-known-clause-more
take_one-requires-in-known-clause-more c =
    let s = c.known.scanner in
    let i = c.known.invariant.gives.ready.read in
    knows_more s i (sym (token_known s c.has_token.result i c.has_token.ensures.yes c.has_token.ensures.no) ∙ c.known-test.true)

pub known-smaller : goal.known-smaller
known-smaller c =
    let (k, more, gives) = c.in_ok-take_one-2.ensures.takes in
    fewer_left c.known.scanner c.take_one-in-known.new.scanner k gives

pub known-preserved : goal.known-preserved
known-preserved c =
    let s = c.known.scanner in
    let i = c.known.invariant in
    let known = sym (token_known s c.has_token.result i.gives.ready.read c.has_token.ensures.yes c.has_token.ensures.no) ∙ c.known-test.true in
    let (k, more, gives) = c.in_ok-take_one-2.ensures.takes in
    record {
      gives = goes_with c.args.scanner.now s c.take_one-in-known.new.scanner c.known.queue.known.items c.take_one-in-known.new.queue.known.items k i.gives known more gives;
      some = some_with c.known.queue.known.items c.take_one-in-known.new.queue.known.items k more;
      locates = c.take_one-in-known.ensures.locates;
      taken = c.take_one-in-known.ensures.taken ∙ i.taken;
    }

pub returns-in_err-take_one-2-clause-fills : goal.returns-in_err-take_one-2-clause-fills
returns-in_err-take_one-2-clause-fills c =
    let s = c.known.scanner in
    let i = c.known.invariant in
    let known = sym (token_known s c.has_token.result i.gives.ready.read c.has_token.ensures.yes c.has_token.ensures.no) ∙ c.known-test.true in
    let f = c.in_err-take_one-2.field-0.0 in
    let fails : Fails c.args.scanner.now (fault_of f) = fails_more c.args.scanner.now s c.known.queue.known.items (fault_of f) i.gives known c.in_err-take_one-2.ensures.takes in
    search rules

pub returns-clause-fills : goal.returns-clause-fills
returns-clause-fills c =
    let s = c.known.scanner in
    let i = c.known.invariant in
    record {
      gives = i.gives;
      idle = sym (token_known s c.has_token.result i.gives.ready.read c.has_token.ensures.yes c.has_token.ensures.no) ∙ c.known-test.false;
      some = λ e. absurd (i.some e);
    }
