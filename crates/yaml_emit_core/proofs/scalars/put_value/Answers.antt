use Rattle.std.proofs.Common.{subst, sym}
use Rattle.yaml_emit_output.specs.Draft.{Page as Paper}
use Rattle.yaml_emit_scalars.specs.On.{IsOn}
use Rattle.yaml_emit_core.proofs.Values.{unmoved_lays}
use Rattle.yaml_emit_core.proofs.scalars.put_value.Goals as goal

pub put_long-requires : goal.put_long-requires
put_long-requires c = let P : Paper → Type 0 = λ z. IsOn c.args.page z in subst P (sym (c.put_word.ensures.none c.if-not-put_word.true)) c.requires.on

pub returns-then-not-put_word : goal.returns-then-not-put_word
returns-then-not-put_word c = unmoved_lays _ _ _ _ (c.put_word.ensures.none c.if-not-put_word.true) c.put_long.ensures

pub returns-else-not-put_word : goal.returns-else-not-put_word
returns-else-not-put_word c = c.put_word.ensures.whole c.if-not-put_word.false
