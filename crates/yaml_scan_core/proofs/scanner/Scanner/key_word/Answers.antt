use Rattle.std.proofs.Common.{◌+◌, ◌<◌, ◌^◌, refl, length, ◌≡◌, ◌∙◌, ap, sym, subst, Ok, arith}
use Rattle.std.proofs.lemmas.Result.{err_from_is_err_and}
use Rattle.yaml_scan_core.specs.declared.scanner.Scanner.{Scanner}
use Rattle.yaml_scan_core.specs.Rows.{HasRoom, RowView, row_of}
use Rattle.yaml_scan_core.specs.Lines.{IsLineStart}
use Rattle.yaml_scan_core.specs.Texts.{put as put_word}
use Rattle.yaml_scan_core.specs.declared.keys.SimpleKey.{SimpleKey}
use Rattle.yaml_scan_core.specs.Scanning.{StandsAs, Takes, Tests, history_of}
use Rattle.yaml_scan_core.proofs.GroupsLemmas.{counts, key_falls}
use Rattle.yaml_scan_core.proofs.SavesLemmas.{keeps_if, place_keys}
use Rattle.yaml_scan_core.proofs.WordsTaken.{fresh_falls, key_kind, key_text, keyed_takes, put_word_falls, saves_put, test_moved, there, word_falls}
use Rattle.yaml_scan_core.proofs.TextsLemmas.{there_text}
use Rattle.yaml_scan_core.proofs.StandTaken.{reads_closed, takes_closed}
use Rattle.yaml_scan_core.proofs.scanner.Scanner.key_word.Goals as goal

pub returns-in_err-check_replaced : goal.returns-in_err-check_replaced
returns-in_err-check_replaced c =
    let was = c.args.self.now in
    let s = c.close_levels-ends.new.self in
    let h = history_of s in
    let k = c.args.kind in
    let p = key_kind k h c.requires.kind in
    let t = key_text k c.requires.kind in
    let e = err_from_is_err_and c.from_residual.result c.from_residual.ensures.1 in
    reads_closed was s _ c.from_residual.result c.close_levels-ends.ensures.same
    (key_falls k s.key_allowed s c.check_replaced.new.self h c.close_levels-ends.result c.from_residual.result e.0 c.in_err-check_replaced.field-0.0 c.close_levels-ends.ensures.stands t.flat t.starts
    (place_keys k s h c.close_levels-ends.result c.close_levels-ends.ensures.stands p.may p.idle) c.check_replaced.ensures.same (c.in_err-check_replaced.ensures.tests s.text.now) e.1)

pub word-requires-clause-kind : goal.word-requires-clause-kind
word-requires-clause-kind c = rw c.requires.kind refl

pub word-requires-clause-stands : goal.word-requires-clause-stands
word-requires-clause-stands c =
    let k = c.args.kind in
    let n = c.close_levels-ends.result in
    subst (λ (y : Scanner). StandsAs k y (history_of y) n) (sym c.in_ok-check_replaced.ensures.kept) c.close_levels-ends.ensures.stands

pub returns-in_err-word : goal.returns-in_err-word
returns-in_err-word c =
    let was = c.args.self.now in
    let s = c.close_levels-ends.new.self in
    let h = history_of s in
    let k = c.args.kind in
    let n = c.close_levels-ends.result in
    let a = c.close_levels-ends.ensures.stands in
    let p = key_kind k h c.requires.kind in
    let t = key_text k c.requires.kind in
    let kept = c.in_ok-check_replaced.ensures.kept in
    let lost = keeps_if k s.key_allowed s h n c.check_replaced.new.self.fault c.in_ok-check_replaced.field-0 a (place_keys k s h n a p.may p.idle) (c.in_ok-check_replaced.ensures.tests s.text.now) in
    let e = err_from_is_err_and c.from_residual-in_err-word.result c.from_residual-in_err-word.ensures.1 in
    reads_closed was s _ c.from_residual-in_err-word.result c.close_levels-ends.ensures.same
    (word_falls k s c.check_replaced.new.self c.word.new.self h n c.from_residual-in_err-word.result e.0 c.in_err-word.field-0.0 kept a t lost c.in_err-word.ensures.stores c.in_err-word.ensures.reads e.1)

pub candidate-key-requires-clause-count : goal.candidate-key-requires-clause-count
candidate-key-requires-clause-count c =
    let s = c.close_levels-ends.new.self in
    let h = history_of s in
    let k = c.args.kind in
    let n = c.close_levels-ends.result in
    let a = c.close_levels-ends.ensures.stands in
    let p = key_kind k h c.requires.kind in
    let t = key_text k c.requires.kind in
    let kept = c.in_ok-check_replaced.ensures.kept in
    let lost = keeps_if k s.key_allowed s h n c.check_replaced.new.self.fault c.in_ok-check_replaced.field-0 a (place_keys k s h n a p.may p.idle) (c.in_ok-check_replaced.ensures.tests s.text.now) in
    let mid = c.word.new.self in
    let w = c.in_ok-word.word in
    let (x, r, calm) = there k s c.check_replaced.new.self mid h n w kept a t lost c.in_ok-word.ensures.stores c.in_ok-word.ensures.reads in
    let few = counts s h k n a in
    subst (λ (q : RowView). q.dropped + length q.lexemes < 2 ^ 64) (sym r.stores.row) few

pub check_fresh-requires-clause-within : goal.check_fresh-requires-clause-within
check_fresh-requires-clause-within c =
    let s = c.close_levels-ends.new.self in
    let h = history_of s in
    let k = c.args.kind in
    let n = c.close_levels-ends.result in
    let a = c.close_levels-ends.ensures.stands in
    let p = key_kind k h c.requires.kind in
    let t = key_text k c.requires.kind in
    let kept = c.in_ok-check_replaced.ensures.kept in
    let lost = keeps_if k s.key_allowed s h n c.check_replaced.new.self.fault c.in_ok-check_replaced.field-0 a (place_keys k s h n a p.may p.idle) (c.in_ok-check_replaced.ensures.tests s.text.now) in
    let mid = c.word.new.self in
    let w = c.in_ok-word.word in
    let (x, r, calm) = there k s c.check_replaced.new.self mid h n w kept a t lost c.in_ok-word.ensures.stores c.in_ok-word.ensures.reads in
    let at : c.candidate-key.result.index ≡ s.at = ap (λ (y : SimpleKey). y.index) c.candidate-key.ensures ∙ ap (λ (y : Scanner). y.at) r.stores.rest in
    omega (arith, at, a.behind.place.inside, a.behind.holds.long)

pub returns-in_err-check_fresh : goal.returns-in_err-check_fresh
returns-in_err-check_fresh c =
    let was = c.args.self.now in
    let s = c.close_levels-ends.new.self in
    let h = history_of s in
    let k = c.args.kind in
    let n = c.close_levels-ends.result in
    let a = c.close_levels-ends.ensures.stands in
    let p = key_kind k h c.requires.kind in
    let t = key_text k c.requires.kind in
    let kept = c.in_ok-check_replaced.ensures.kept in
    let lost = keeps_if k s.key_allowed s h n c.check_replaced.new.self.fault c.in_ok-check_replaced.field-0 a (place_keys k s h n a p.may p.idle) (c.in_ok-check_replaced.ensures.tests s.text.now) in
    let mid = c.word.new.self in
    let w = c.in_ok-word.word in
    let (x, r, calm) = there k s c.check_replaced.new.self mid h n w kept a t lost c.in_ok-word.ensures.stores c.in_ok-word.ensures.reads in
    let e = err_from_is_err_and c.from_residual-in_err-check_fresh.result c.from_residual-in_err-check_fresh.ensures.1 in
    reads_closed was s _ c.from_residual-in_err-check_fresh.result c.close_levels-ends.ensures.same
    (fresh_falls k s mid c.check_fresh.new.self h n w x c.candidate-key.result c.from_residual-in_err-check_fresh.result e.0 c.in_err-check_fresh.field-0.0 r p c.candidate-key.ensures c.check_fresh.ensures.same
    (c.in_err-check_fresh.ensures.tests s.text.now (subst (λ y. IsLineStart y w.at w.line) (there_text s mid r.stores) r.has.place.begins)) e.1)

pub returns-in_err-put : goal.returns-in_err-put
returns-in_err-put c =
    let was = c.args.self.now in
    let s = c.close_levels-ends.new.self in
    let h = history_of s in
    let k = c.args.kind in
    let n = c.close_levels-ends.result in
    let a = c.close_levels-ends.ensures.stands in
    let p = key_kind k h c.requires.kind in
    let t = key_text k c.requires.kind in
    let kept = c.in_ok-check_replaced.ensures.kept in
    let lost = keeps_if k s.key_allowed s h n c.check_replaced.new.self.fault c.in_ok-check_replaced.field-0 a (place_keys k s h n a p.may p.idle) (c.in_ok-check_replaced.ensures.tests s.text.now) in
    let mid = c.word.new.self in
    let w = c.in_ok-word.word in
    let (x, r, calm) = there k s c.check_replaced.new.self mid h n w kept a t lost c.in_ok-word.ensures.stores c.in_ok-word.ensures.reads in
    let e = err_from_is_err_and c.from_residual-in_err-put.result c.from_residual-in_err-put.ensures.1 in
    reads_closed was s _ c.from_residual-in_err-put.result c.close_levels-ends.ensures.same
    (put_word_falls s mid c.check_fresh.new.self c.put.new.self h c.from_residual-in_err-put.result e.0 a.behind.holds r.stores calm c.in_ok-check_fresh.ensures.kept
    c.in_err-put.ensures.rest c.in_err-put.ensures.err c.in_err-put.ensures.room e.1)

pub returns : goal.returns
returns c =
    let was = c.args.self.now in
    let s = c.close_levels-ends.new.self in
    let h = history_of s in
    let k = c.args.kind in
    let n = c.close_levels-ends.result in
    let a = c.close_levels-ends.ensures.stands in
    let p = key_kind k h c.requires.kind in
    let t = key_text k c.requires.kind in
    let kept = c.in_ok-check_replaced.ensures.kept in
    let lost = keeps_if k s.key_allowed s h n c.check_replaced.new.self.fault c.in_ok-check_replaced.field-0 a (place_keys k s h n a p.may p.idle) (c.in_ok-check_replaced.ensures.tests s.text.now) in
    let mid = c.word.new.self in
    let w = c.in_ok-word.word in
    let (x, r, calm) = there k s c.check_replaced.new.self mid h n w kept a t lost c.in_ok-word.ensures.stores c.in_ok-word.ensures.reads in
    let tested = c.in_ok-check_fresh.ensures.kept in
    let put = c.put.new.self in
    let rest = c.in_ok-put.ensures.rest in
    let row : row_of put.row ≡ put_word w (row_of mid.row) = c.in_ok-put.ensures.ok ∙ ap (λ (y : Scanner). put_word w (row_of y.row)) tested in
    let room : HasRoom put.row = c.in_ok-put.ensures.room (subst (λ (y : Scanner). HasRoom y.row) (sym tested) (r.stores.room a.behind.holds.room)) in
    let keys = c.save_key.new.self.keys in
    let kept_keys = saves_put s mid c.check_fresh.new.self put c.candidate-key.result _ r.stores tested rest c.candidate-key.ensures c.save_key.ensures.keys in
    let tests = subst (λ o. Tests o w.at c.check_fresh.new.self.fault (Ok c.in_ok-check_fresh.field-0)) (test_moved s mid c.candidate-key.result s.text.now w.at r.stores c.candidate-key.ensures)
    (c.in_ok-check_fresh.ensures.tests s.text.now (subst (λ y. IsLineStart y w.at w.line) (there_text s mid r.stores) r.has.place.begins)) in
    let after = c.reach.ensures
    ∙ ap (λ (y : Scanner). record y { key_allowed = w.broke; at = w.at; line = w.line; wide = w.wide }) c.save_key.ensures.same
    ∙ ap (λ (y : Scanner). record y { keys = keys; key_allowed = w.broke; at = w.at; line = w.line; wide = w.wide }) rest
    ∙ ap (λ (y : Scanner). record y { row = put.row; keys = keys; key_allowed = w.broke; at = w.at; line = w.line; wide = w.wide }) tested in
    takes_closed was s _ c.close_levels-ends.ensures.same
    (subst (λ (y : Scanner). Takes s y h) (sym after)
    (keyed_takes k s mid h n w x put.row keys c.check_fresh.new.self.fault c.in_ok-check_fresh.field-0 r p calm row room kept_keys tests))
