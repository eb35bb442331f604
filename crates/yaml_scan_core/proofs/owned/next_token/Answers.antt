use Rattle.std.proofs.Common.{◌≢◌, ◌∙◌, subst, sym}
use Rattle.yaml_scan_core.proofs.Words.{SpelledText}
use Rattle.yaml_scan_model.specs.declared.kind.Kind.TheVariants as kinds
use Rattle.yaml_scan_core.specs.declared.scanner.Scanner.{Scanner}
use Rattle.yaml_scan_core.specs.Handed.{to_come}
use Rattle.yaml_scan_core.specs.Told.{Locates}
use Rattle.yaml_scan_core.proofs.OwnedLemmas.{front_shown, if_ok, owned_needed, owned_none, owned_told}
use Rattle.yaml_scan_core.proofs.owned.next_token.Goals as goal

pub take_front-requires : goal.take_front-requires
take_front-requires c =
    let old = c.args.scanner.now in
    let e = c.kind.ensures in
    let shown = front_shown c.kind.result (to_come old) c.kind.new.self c.in_default.not-Failed c.in_default.not-Nothing e.shows in
    record {
      waits = e.waits;
      front = shown.0;
      locates = subst (λ (t : SpelledText). Locates t.text c.args.locator.now) (sym e.stream) c.requires.locates;
    }

pub returns-in-Nothing-clause-needs : goal.returns-in-Nothing-clause-needs
returns-in-Nothing-clause-needs c = λ one read.
    let other : c.kind.result ≢ kinds.Failed = λ e. (let bad = sym c.in-Nothing.is ∙ e in cc) in
    owned_none c.args.scanner.now c.kind.new.self c.kind.result other (c.kind.ensures.needs one read)

pub returns-in-Failed-clause-short : goal.returns-in-Failed-clause-short
returns-in-Failed-clause-short c = λ one read. (c.kind.ensures.needs one read).short

pub returns-in-Nothing-clause-short : goal.returns-in-Nothing-clause-short
returns-in-Nothing-clause-short c = λ one read. (c.kind.ensures.needs one read).short

pub returns-in_default : goal.returns-in_default
returns-in_default c =
    let old = c.args.scanner.now in
    let mid : Scanner = c.kind.new.self in
    let new : Scanner = c.take_front.new.scanner in
    let e = c.take_front.ensures in
    let shown = front_shown c.kind.result (to_come old) mid c.in_default.not-Failed c.in_default.not-Nothing c.kind.ensures.shows in
    record {
      waits = e.waits;
      stream = e.stream ∙ c.kind.ensures.stream;
      locates = e.locates;
      tells = owned_told c.kind.result (to_come old) mid new c.take_front.result shown.1 shown.0 e.gives e.rest;
      needs = λ one read. if_ok c.take_front.result old new (owned_needed old mid new c.kind.result c.in_default.not-Failed (c.kind.ensures.needs one read) e.kept);
      short = λ one read few. e.kept.short ((c.kind.ensures.needs one read).short few);
    }
