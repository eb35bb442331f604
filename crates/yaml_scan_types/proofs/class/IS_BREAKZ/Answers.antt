use Rattle.std.proofs.Common.{◌≡◌, ◌∙◌, sym, true, false}
use Rattle.yaml_scan_types.specs.Classes.{is_break}
use Rattle.yaml_scan_types.proofs.class.IS_BREAKZ.Goals as goal

pub returns-then-IS_BREAK : goal.returns-then-IS_BREAK
returns-then-IS_BREAK c = let e : is_break c.args.string.now c.args.place ≡ true = sym c.IS_BREAK.ensures ∙ c.if-IS_BREAK.true in rw e c.if-IS_BREAK.true

pub returns-else-IS_BREAK : goal.returns-else-IS_BREAK
returns-else-IS_BREAK c = let e : is_break c.args.string.now c.args.place ≡ false = sym c.IS_BREAK.ensures ∙ c.if-IS_BREAK.false in rw e c.IS_Z.ensures
