use Rattle.std.proofs.Common.{◌∙◌, ap, sym, subst, refl}
use Rattle.yaml_scan_laws.specs.scan_history.Remaining.{SpelledText}
use Rattle.yaml_scan_model.specs.Shows.{IsNext}
use Rattle.yaml_round_reading.specs.Input.{scanned_of}
use Rattle.yaml_round_reading.specs.ScannedValue.{ScannedValue}
use Rattle.yaml_round_reading.specs.Coming.{Stands}
use Rattle.yaml_round_reading.proofs.Asking.{comes_told, none_skipped, some_skipped}
use Rattle.yaml_round_reading.proofs.scanned.ScannedTokensTokens.skip.Goals as goal

pub returns-then-is_none-clause-rest : goal.returns-then-is_none-clause-rest
returns-then-is_none-clause-rest c =
    let a = c.self.inside in
    let tells = ap (λ (v : ScannedValue). v.told) c.self.view_is ∙ c.requires.tells in
    let next = subst (λ (v : ScannedValue). IsNext c.args.kind v.coming.tokens) (sym c.self.view_is) c.requires.kind in
    rw (← c.self.view_is) (none_skipped c.args.kind a.refusal a.standing (scanned_of a.source.now) a.scanner c.self.invariant.waits c.self.invariant.stands tells next (sym c.is_none.ensures ∙ c.if-is_none.true)).rest

pub returns-then-is_none-clause-fault : goal.returns-then-is_none-clause-fault
returns-then-is_none-clause-fault c =
    let a = c.self.inside in
    let tells = ap (λ (v : ScannedValue). v.told) c.self.view_is ∙ c.requires.tells in
    let next = subst (λ (v : ScannedValue). IsNext c.args.kind v.coming.tokens) (sym c.self.view_is) c.requires.kind in
    rw (← c.self.view_is) (none_skipped c.args.kind a.refusal a.standing (scanned_of a.source.now) a.scanner c.self.invariant.waits c.self.invariant.stands tells next (sym c.is_none.ensures ∙ c.if-is_none.true)).fault

pub returns-then-is_none-clause-texts : goal.returns-then-is_none-clause-texts
returns-then-is_none-clause-texts c =
    let a = c.self.inside in
    let tells = ap (λ (v : ScannedValue). v.told) c.self.view_is ∙ c.requires.tells in
    let next = subst (λ (v : ScannedValue). IsNext c.args.kind v.coming.tokens) (sym c.self.view_is) c.requires.kind in
    rw (← c.self.view_is) (none_skipped c.args.kind a.refusal a.standing (scanned_of a.source.now) a.scanner c.self.invariant.waits c.self.invariant.stands tells next (sym c.is_none.ensures ∙ c.if-is_none.true)).texts

pub skip-requires-clause-front : goal.skip-requires-clause-front
skip-requires-clause-front c =
    let a = c.self.inside in
    let tells = ap (λ (v : ScannedValue). v.told) c.self.view_is ∙ c.requires.tells in
    let next = subst (λ (v : ScannedValue). IsNext c.args.kind v.coming.tokens) (sym c.self.view_is) c.requires.kind in
    (comes_told c.args.kind a.refusal a.standing (scanned_of a.source.now) a.scanner c.self.invariant.waits c.self.invariant.stands tells next (sym c.is_none.ensures ∙ c.if-is_none.false)).0

pub invariant_of-self-2 : goal.invariant_of-self-2
invariant_of-self-2 c =
    let a = c.self.inside in
    let tells = ap (λ (v : ScannedValue). v.told) c.self.view_is ∙ c.requires.tells in
    let next = subst (λ (v : ScannedValue). IsNext c.args.kind v.coming.tokens) (sym c.self.view_is) c.requires.kind in
    let s = some_skipped c.args.kind a.refusal a.standing (scanned_of a.source.now) a.scanner c.skip.new.self c.self.invariant.waits c.self.invariant.stands tells next (sym c.is_none.ensures ∙ c.if-is_none.false) c.skip.ensures.rest c.skip.ensures.taken in
    record {
      waits = c.skip.ensures.waits;
      text = ap (λ (t : SpelledText). t.text) c.skip.ensures.stream ∙ c.self.invariant.text;
      utf8 = c.self.invariant.utf8;
      stands = subst (λ st. Stands a.refusal st (scanned_of a.source.now) c.skip.new.self) (sym c.behind-self-inside.ensures) s.1;
      locates = c.self.invariant.locates;
    }

pub returns-clause-rest : goal.returns-clause-rest
returns-clause-rest c =
    let a = c.self.inside in
    let tells = ap (λ (v : ScannedValue). v.told) c.self.view_is ∙ c.requires.tells in
    let next = subst (λ (v : ScannedValue). IsNext c.args.kind v.coming.tokens) (sym c.self.view_is) c.requires.kind in
    rw (← c.self.view_is, c.behind-self-inside.ensures) (some_skipped c.args.kind a.refusal a.standing (scanned_of a.source.now) a.scanner c.skip.new.self c.self.invariant.waits c.self.invariant.stands tells next (sym c.is_none.ensures ∙ c.if-is_none.false) c.skip.ensures.rest c.skip.ensures.taken).0.rest

pub returns-clause-fault : goal.returns-clause-fault
returns-clause-fault c =
    let a = c.self.inside in
    let tells = ap (λ (v : ScannedValue). v.told) c.self.view_is ∙ c.requires.tells in
    let next = subst (λ (v : ScannedValue). IsNext c.args.kind v.coming.tokens) (sym c.self.view_is) c.requires.kind in
    rw (← c.self.view_is, c.behind-self-inside.ensures) (some_skipped c.args.kind a.refusal a.standing (scanned_of a.source.now) a.scanner c.skip.new.self c.self.invariant.waits c.self.invariant.stands tells next (sym c.is_none.ensures ∙ c.if-is_none.false) c.skip.ensures.rest c.skip.ensures.taken).0.fault

pub returns-clause-texts : goal.returns-clause-texts
returns-clause-texts c =
    let a = c.self.inside in
    let tells = ap (λ (v : ScannedValue). v.told) c.self.view_is ∙ c.requires.tells in
    let next = subst (λ (v : ScannedValue). IsNext c.args.kind v.coming.tokens) (sym c.self.view_is) c.requires.kind in
    rw (← c.self.view_is, c.behind-self-inside.ensures) (some_skipped c.args.kind a.refusal a.standing (scanned_of a.source.now) a.scanner c.skip.new.self c.self.invariant.waits c.self.invariant.stands tells next (sym c.is_none.ensures ∙ c.if-is_none.false) c.skip.ensures.rest c.skip.ensures.taken).0.texts

pub returns-clause-places : goal.returns-clause-places
returns-clause-places c = rw (← c.self.view_is) refl
