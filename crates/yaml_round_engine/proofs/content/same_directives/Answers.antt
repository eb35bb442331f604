-- Directives that differ at a place differ.
use Rattle.std.proofs.Common.{◌<◌, length, arith}
use Rattle.yaml_parse.specs.Events.{directive_of}
use Rattle.yaml_round_engine.proofs.Mapped.{same_at}
use Rattle.yaml_round_engine.proofs.content.same_directives.Goals as goal

pub returns-then-not-same_directive : goal.returns-then-not-same_directive
returns-then-not-same_directive c =
    let within : c.loop-i.i < length c.args.b.now = omega arith in (
      λ h. cc,
      λ e. c.if-not-same_directive.ensures.1 (same_at directive_of c.args.a.now c.args.b.now c.loop-i.i c.index-a-i.result c.index-b-i.result c.index-a-i.is c.index-b-i.is c.loop-i-test.true within e),
    )
