use Rattle.std.proofs.Common.{refl, ◌∙◌, ap, sym, subst}
use Rattle.std.proofs.lemmas.Result.{err_from_is_err_and}
use Rattle.yaml_scan_core.specs.declared.scanner.Scanner.{Scanner}
use Rattle.yaml_scan_core.specs.Rows.{HasRoom}
use Rattle.yaml_scan_core.specs.Candidates.{given_up, stack_of}
use Rattle.yaml_scan_core.specs.Texts.{is_key_word}
use Rattle.yaml_scan_core.proofs.SpotLemmas.{or_true}
use Rattle.yaml_scan_core.specs.Scanning.{StandsAs, Takes, history_of}
use Rattle.yaml_scan_core.proofs.KindsLemmas.{keeps_all, loses, not_wrong, place_cancels}
use Rattle.yaml_scan_core.proofs.TakesLemmas.{falls_same, reads_err}
use Rattle.yaml_scan_core.proofs.WordsTaken.{line_allows, line_kind, line_text, lined_takes, put_word_falls, there, word_falls}
use Rattle.yaml_scan_core.proofs.StandTaken.{reads_closed, takes_closed}
use Rattle.yaml_scan_core.proofs.scanner.Scanner.line_word.Goals as goal

pub returns-in_err-check_cancelled : goal.returns-in_err-check_cancelled
returns-in_err-check_cancelled c =
    let was = c.args.self.now in
    let s = c.close_levels-ends.new.self in
    let h = history_of s in
    let k = c.args.kind in
    let p = line_kind k h c.requires.kind in
    let t = line_text k c.requires.kind in
    let new = c.check_cancelled.new.self in
    let e = err_from_is_err_and c.from_residual.result c.from_residual.ensures.1 in
    reads_closed was s _ c.from_residual.result c.close_levels-ends.ensures.same
    (reads_err s new h c.from_residual.result e.0 e.1 (falls_same s new h c.close_levels-ends.ensures.stands.behind.holds c.check_cancelled.ensures.same
    (loses k s h c.close_levels-ends.result new.fault c.in_err-check_cancelled.field-0.0 c.close_levels-ends.ensures.stands (place_cancels k s.text.now h p.stops t.colon) t.flat (not_wrong k s.text.now h t.starts) (c.in_err-check_cancelled.ensures.tests s.text.now))))

pub word-requires-clause-kind : goal.word-requires-clause-kind
word-requires-clause-kind c = rw c.requires.kind (or_true (is_key_word c.args.kind))

pub word-requires-clause-stands : goal.word-requires-clause-stands
word-requires-clause-stands c =
    let k = c.args.kind in
    let n = c.close_levels-ends.result in
    subst (λ (y : Scanner). StandsAs k y (history_of y) n) (sym c.in_ok-check_cancelled.ensures.kept) c.close_levels-ends.ensures.stands

pub returns-in_err-word : goal.returns-in_err-word
returns-in_err-word c =
    let was = c.args.self.now in
    let s = c.close_levels-ends.new.self in
    let h = history_of s in
    let k = c.args.kind in
    let n = c.close_levels-ends.result in
    let a = c.close_levels-ends.ensures.stands in
    let p = line_kind k h c.requires.kind in
    let t = line_text k c.requires.kind in
    let kept = c.in_ok-check_cancelled.ensures.kept in
    let lost = keeps_all k s h n c.check_cancelled.new.self.fault c.in_ok-check_cancelled.field-0 a (place_cancels k s.text.now h p.stops t.colon) (c.in_ok-check_cancelled.ensures.tests s.text.now) in
    let e = err_from_is_err_and c.from_residual-in_err-word.result c.from_residual-in_err-word.ensures.1 in
    reads_closed was s _ c.from_residual-in_err-word.result c.close_levels-ends.ensures.same
    (word_falls k s c.check_cancelled.new.self c.word.new.self h n c.from_residual-in_err-word.result e.0 c.in_err-word.field-0.0 kept a t lost c.in_err-word.ensures.stores c.in_err-word.ensures.reads e.1)

pub returns-in_err-put : goal.returns-in_err-put
returns-in_err-put c =
    let was = c.args.self.now in
    let s = c.close_levels-ends.new.self in
    let h = history_of s in
    let k = c.args.kind in
    let n = c.close_levels-ends.result in
    let a = c.close_levels-ends.ensures.stands in
    let p = line_kind k h c.requires.kind in
    let t = line_text k c.requires.kind in
    let kept = c.in_ok-check_cancelled.ensures.kept in
    let lost = keeps_all k s h n c.check_cancelled.new.self.fault c.in_ok-check_cancelled.field-0 a (place_cancels k s.text.now h p.stops t.colon) (c.in_ok-check_cancelled.ensures.tests s.text.now) in
    let mid = c.word.new.self in
    let w = c.in_ok-word.word in
    let (x, r, calm) = there k s c.check_cancelled.new.self mid h n w kept a t lost c.in_ok-word.ensures.stores c.in_ok-word.ensures.reads in
    let e = err_from_is_err_and c.from_residual-in_err-put.result c.from_residual-in_err-put.ensures.1 in
    reads_closed was s _ c.from_residual-in_err-put.result c.close_levels-ends.ensures.same
    (put_word_falls s mid mid c.put.new.self h c.from_residual-in_err-put.result e.0 a.behind.holds r.stores calm refl
    c.in_err-put.ensures.rest c.in_err-put.ensures.err c.in_err-put.ensures.room e.1)

pub returns : goal.returns
returns c =
    let was = c.args.self.now in
    let s = c.close_levels-ends.new.self in
    let h = history_of s in
    let k = c.args.kind in
    let n = c.close_levels-ends.result in
    let a = c.close_levels-ends.ensures.stands in
    let p = line_kind k h c.requires.kind in
    let t = line_text k c.requires.kind in
    let kept = c.in_ok-check_cancelled.ensures.kept in
    let lost = keeps_all k s h n c.check_cancelled.new.self.fault c.in_ok-check_cancelled.field-0 a (place_cancels k s.text.now h p.stops t.colon) (c.in_ok-check_cancelled.ensures.tests s.text.now) in
    let mid = c.word.new.self in
    let w = c.in_ok-word.word in
    let (x, r, calm) = there k s c.check_cancelled.new.self mid h n w kept a t lost c.in_ok-word.ensures.stores c.in_ok-word.ensures.reads in
    let put = c.put.new.self in
    let rest = c.in_ok-put.ensures.rest in
    let keys = c.give_up.new.self in
    let allowed = c.is_scalar-self.result in
    let room : HasRoom put.row = c.in_ok-put.ensures.room (r.stores.room a.behind.holds.room) in
    let allows = c.is_scalar-self.ensures ∙ line_allows k s h x c.requires.kind r.word in
    let after = c.reach.ensures ∙ ap (λ (y : Scanner). record y { keys = keys; key_allowed = allowed; at = w.at; line = w.line; wide = w.wide }) rest in
    let given = c.give_up.ensures ∙ ap (λ (y : Scanner). given_up (stack_of y.keys)) rest in
    takes_closed was s _ c.close_levels-ends.ensures.same
    (subst (λ (y : Scanner). Takes s y h) (sym after)
    (lined_takes k s mid h n w x put.row keys allowed r p.stops p.idle p.deep allows calm c.in_ok-put.ensures.ok room given))
