use Rattle.std.proofs.Common.{◌≡◌, ◌∙◌, sym, subst, option_map, IsUtf8, refl}
use Rattle.std.proofs.lemmas.Bool.{false≢true}
use Rattle.std.proofs.lemmas.Result.{err_from_is_err_and}
use Rattle.yaml_parse_model.specs.Documents.{unplaced, new_scalar}
use Rattle.yaml_parse_model.proofs.Sizing.{nothing_listed}
use Rattle.yaml_parse_model.proofs.Sound.{tag_utf8, str_utf8, added}
use Rattle.yaml_parse_model.proofs.document.adding.yaml_document_add_scalar.Goals.{then-not-is_utf8_option-via-then-not-is_utf8_option, then-not-is_utf8_option-via-else-not-is_utf8_option+then-not-is_utf8}
use Rattle.yaml_parse_model.proofs.document.adding.yaml_document_add_scalar.Goals as goal

pub returns-in_err-tag : goal.returns-in_err-tag
returns-in_err-tag c =
    let e = err_from_is_err_and c.from_residual.result c.from_residual.ensures.1 in
    rw (e.1, e.2 ∙ c.in_err-tag.ensures) (refl, (c.if-not-is_utf8_option.ensures.0 refl, c.if-not-is_utf8.ensures.0 refl))

pub add_node-requires-clause-sound : goal.add_node-requires-clause-sound
add_node-requires-clause-sound c = (subst IsUtf8 (sym c.in_ok-tag.ensures) (tag_utf8 _ _ str_utf8 (c.if-not-is_utf8_option.ensures.0 refl)), subst IsUtf8 (sym c.in_ok-value.ensures.is) (c.if-not-is_utf8.ensures.0 refl))

pub add_node-requires-clause-sized : goal.add_node-requires-clause-sized
add_node-requires-clause-sized c = nothing_listed

pub returns-then-not-is_utf8_option : goal.returns-then-not-is_utf8_option
returns-then-not-is_utf8_option c =
    elim c.then-not-is_utf8_option.branch [
      | then-not-is_utf8_option-via-then-not-is_utf8_option w ↦ (refl, λ h. false≢true (w.if-not-is_utf8_option.ensures.1 h.0))
      | then-not-is_utf8_option-via-else-not-is_utf8_option+then-not-is_utf8 w ↦ (refl, λ h. false≢true (w.if-not-is_utf8.ensures.1 h.1))
    ]

pub returns-in_err-value : goal.returns-in_err-value
returns-in_err-value c =
    let e = err_from_is_err_and c.from_residual-in_err-value.result c.from_residual-in_err-value.ensures.1 in
    rw (e.1, e.2 ∙ c.in_err-value.ensures.is) (refl, (c.if-not-is_utf8_option.ensures.0 refl, c.if-not-is_utf8.ensures.0 refl))

pub returns : goal.returns
returns c =
    let same : unplaced _ _ ≡ new_scalar (option_map (λ t. t.now) c.args.tag) c.args.value.now c.args.style = rw (c.in_ok-tag.ensures, c.in_ok-value.ensures.is) refl in
    added _ _ _ _ _ _ same (c.if-not-is_utf8_option.ensures.0 refl, c.if-not-is_utf8.ensures.0 refl) c.add_node.ensures
