use Rattle.std.proofs.Common.{refl, sym, ◌∙◌, ap, cond}
use Rattle.std.specs.Str.{chars}
use Rattle.yaml_emit_layout.specs.Scalars.{behind_breaks}
use Rattle.yaml_emit_scalars.proofs.block.behind_breaks.Goals as goal

pub split_first-requires-text-text : goal.split_first-requires-text-text
split_first-requires-text-text c = λ _. c.loop-c.invariant.0

pub loop-c-init : goal.loop-c-init
loop-c-init c = (c.utf8.text, refl)

pub loop-c-preserved : goal.loop-c-preserved
unfolding behind_breaks
loop-c-preserved c =
    let left = c.loop-c.invariant.1 ∙ ap behind_breaks c.in-Some.ensures.letters in
    (c.in-Some.ensures.utf8, left ∙ ap (λ v. cond v (behind_breaks (chars c.in-Some.rest.now)) c.in-Some.c) (sym c.is_break.ensures ∙ c.if-not-is_break.false))

pub returns : goal.returns
unfolding behind_breaks
returns c = sym (c.loop-c.invariant.1 ∙ ap behind_breaks c.in_default.ensures.letters)

pub returns-then-not-is_break : goal.returns-then-not-is_break
unfolding behind_breaks
returns-then-not-is_break c =
    let left = c.loop-c.invariant.1 ∙ ap behind_breaks c.in-Some.ensures.letters in
    sym (left ∙ ap (λ v. cond v (behind_breaks (chars c.in-Some.rest.now)) c.in-Some.c) (sym c.is_break.ensures ∙ c.if-not-is_break.true))
