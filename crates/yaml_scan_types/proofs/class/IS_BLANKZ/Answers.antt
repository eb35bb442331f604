use Rattle.std.proofs.Common.{◌≡◌, ◌∙◌, sym, true, false}
use Rattle.yaml_scan_types.specs.Classes.{is_blank}
use Rattle.yaml_scan_types.proofs.class.IS_BLANKZ.Goals as goal

pub returns-then-IS_BLANK : goal.returns-then-IS_BLANK
returns-then-IS_BLANK c = let e : is_blank c.args.string.now c.args.place ≡ true = sym c.IS_BLANK.ensures ∙ c.if-IS_BLANK.true in rw e c.if-IS_BLANK.true

pub returns-else-IS_BLANK : goal.returns-else-IS_BLANK
returns-else-IS_BLANK c = let e : is_blank c.args.string.now c.args.place ≡ false = sym c.IS_BLANK.ensures ∙ c.if-IS_BLANK.false in rw e c.IS_BREAKZ.ensures
