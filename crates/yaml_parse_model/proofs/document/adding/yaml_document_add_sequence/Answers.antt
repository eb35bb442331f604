use Rattle.std.proofs.Common.{◌≡◌, sym, subst, option_map, IsUtf8, ◌∙◌, refl}
use Rattle.std.proofs.lemmas.Bool.{false≢true}
use Rattle.std.proofs.lemmas.Result.{err_from_is_err_and}
use Rattle.yaml_parse_model.specs.Documents.{unplaced, AreIds, new_sequence}
use Rattle.yaml_parse_model.proofs.Sizing.{no_items_sized}
use Rattle.yaml_parse_model.proofs.Sound.{tag_utf8, seq_utf8, added}
use Rattle.yaml_parse_model.proofs.document.adding.yaml_document_add_sequence.Goals as goal

pub returns : goal.returns
returns c =
    let same : unplaced _ _ ≡ new_sequence (option_map (λ t. t.now) c.args.tag) c.args.style = rw (c.in_ok-tag.ensures, c.new-items.ensures.items) refl in
    added _ _ _ _ _ _ same (c.if-not-is_utf8_option.ensures.0 refl) c.add_node.ensures

pub add_node-requires-clause-sound : goal.add_node-requires-clause-sound
add_node-requires-clause-sound c = (subst IsUtf8 (sym c.in_ok-tag.ensures) (tag_utf8 _ _ seq_utf8 (c.if-not-is_utf8_option.ensures.0 refl)), subst (AreIds _) (sym c.new-items.ensures.items) tt)

pub add_node-requires-clause-sized : goal.add_node-requires-clause-sized
add_node-requires-clause-sized c = no_items_sized _ c.args.style c.new-items.ensures.items

pub returns-in_err-tag : goal.returns-in_err-tag
returns-in_err-tag c =
    let e = err_from_is_err_and c.from_residual.result c.from_residual.ensures.1 in
    rw (e.1, e.2 ∙ c.in_err-tag.ensures) (refl, c.if-not-is_utf8_option.ensures.0 refl)

pub returns-then-not-is_utf8_option : goal.returns-then-not-is_utf8_option
returns-then-not-is_utf8_option c = (refl, λ h. false≢true (c.if-not-is_utf8_option.ensures.1 h))
