use Rattle.std.proofs.Common.{◌≡◌, true, false, refl, rules}
use Rattle.yaml_round_answers.proofs.Loading.{whole_told, alias_told, no_spots_told, steps_told, no_steps_told, steps_handed, nothing_handed}
use Rattle.yaml_round_answers.proofs.composing.composed_by.Goals as goal

pub returns-then-not-are_steps-clause-told : goal.returns-then-not-are_steps-clause-told
returns-then-not-are_steps-clause-told c =
    let no : c.are_steps.result ≡ false = search rules in
    no_steps_told c.args.bytes.now c.args.steps.now _ _ _ c.are_steps.ensures no c.misused.ensures

pub returns-then-not-are_steps-clause-none : goal.returns-then-not-are_steps-clause-none
returns-then-not-are_steps-clause-none c = nothing_handed c.args.bytes.now c.args.steps.now _ refl

pub returns-then-whole-clause-told : goal.returns-then-whole-clause-told
returns-then-whole-clause-told c =
    let yes : c.are_steps.result ≡ true = search rules in
    steps_told c.args.bytes.now c.args.steps.now _ _ _ c.are_steps.ensures yes
    (whole_told (c.args.bytes.now, c.args.steps.now) _ _ _ _ c.handed_out-spots.ensures c.if-whole.true c.in-Ok.ensures c.said.ensures)

pub returns-then-whole-clause-none : goal.returns-then-whole-clause-none
returns-then-whole-clause-none c =
    let yes : c.are_steps.result ≡ true = search rules in
    steps_handed c.args.bytes.now c.args.steps.now _ _ c.are_steps.ensures yes

pub returns-else-whole-clause-told : goal.returns-else-whole-clause-told
returns-else-whole-clause-told c =
    let yes : c.are_steps.result ≡ true = search rules in
    steps_told c.args.bytes.now c.args.steps.now _ _ _ c.are_steps.ensures yes
    (alias_told (c.args.bytes.now, c.args.steps.now) _ _ _ _ _ c.handed_out-spots.ensures c.if-whole.false c.in-Ok.ensures c.undefined_alias_fault.ensures c.refused.ensures)

pub returns-else-whole-clause-none : goal.returns-else-whole-clause-none
returns-else-whole-clause-none c =
    let yes : c.are_steps.result ≡ true = search rules in
    steps_handed c.args.bytes.now c.args.steps.now _ _ c.are_steps.ensures yes

pub returns-in-Err-clause-told : goal.returns-in-Err-clause-told
returns-in-Err-clause-told c =
    let yes : c.are_steps.result ≡ true = search rules in
    steps_told c.args.bytes.now c.args.steps.now _ _ _ c.are_steps.ensures yes
    (no_spots_told (c.args.bytes.now, c.args.steps.now) _ _ _ refl c.yaml_memory_fault.ensures c.refused-in-Err.ensures)

pub returns-in-Err-clause-none : goal.returns-in-Err-clause-none
returns-in-Err-clause-none c = nothing_handed c.args.bytes.now c.args.steps.now _ refl
