use Rattle.std.proofs.Common.{refl, subst, sym, arith}
use Rattle.std.proofs.lemmas.Bool.{false≢true}
use Rattle.std.proofs.lemmas.Result.{err_from_is_err_and}
use Rattle.yaml_parse_model.specs.Constructors.{AreUtf8}
use Rattle.yaml_parse_model.proofs.document.yaml_document_initialize.Goals as goal

pub returns-in_err-tag_directives : goal.returns-in_err-tag_directives
returns-in_err-tag_directives c =
    let e = err_from_is_err_and c.from_residual.result c.from_residual.ensures.1 in
    rw (e.1, e.2) (c.if-not-are_utf8.ensures.0 refl)

pub returns-then-not-are_utf8 : goal.returns-then-not-are_utf8
returns-then-not-are_utf8 c = λ texts. false≢true (c.if-not-are_utf8.ensures.1 texts)

pub invariant_of-result : goal.invariant_of-result
invariant_of-result c = (record { directives = subst AreUtf8 (sym c.in_ok-tag_directives.ensures) (c.if-not-are_utf8.ensures.0 refl); nodes = rw c.new.ensures.items tt }, rw c.new.ensures.items record { nodes = omega arith; entries = tt })

pub returns : goal.returns
returns c = (rw (c.in_ok-tag_directives.ensures, c.new.ensures.items) refl, c.if-not-are_utf8.ensures.0 refl)
