use Rattle.std.proofs.Common.{sym, ◌∙◌, ap}
use Rattle.yaml_emit_scalars.proofs.Looks.{look_more, look_end}
use Rattle.yaml_emit_layout.specs.Style.{joined, last_or}
use Rattle.yaml_emit_scalars.proofs.style.look.Goals as goal

pub split_first-requires-text-text : goal.split_first-requires-text-text
split_first-requires-text-text c = λ _. c.loop-c.invariant.0

pub loop-c-init : goal.loop-c-init
loop-c-init c = (c.past_calm-last.ensures.utf8, c.past_calm-last.ensures.seen, c.past_calm-last.ensures.last)

pub loop-c-preserved : goal.loop-c-preserved
unfolding last_or
loop-c-preserved c =
    (c.past_calm-latest.ensures.utf8, look_more _ _ _ _ _ _ _ _ c.in-Some.ensures.letters c.loop-c.invariant.1 (rw c.first.ensures at c.seen_with-all.ensures) ∙ ap (joined c.seen_with-all.result) c.past_calm-latest.ensures.seen, c.loop-c.invariant.2 ∙ ap (last_or c.loop-c.last) c.in-Some.ensures.letters ∙ c.past_calm-latest.ensures.last)

pub returns-clause-seen : goal.returns-clause-seen
returns-clause-seen c = look_end _ _ _ _ _ c.in_default.ensures.letters c.loop-c.invariant.1

pub returns-clause-last : goal.returns-clause-last
unfolding last_or
returns-clause-last c = sym (c.loop-c.invariant.2 ∙ ap (last_or c.loop-c.last) c.in_default.ensures.letters)
