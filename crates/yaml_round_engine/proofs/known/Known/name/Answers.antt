-- The document has the name too.
use Rattle.std.proofs.Common.{refl}
use Rattle.yaml_round_engine.proofs.Knowing.{put}
use Rattle.yaml_round_engine.proofs.known.Known.name.Goals as goal

pub returns : goal.returns
returns c = put c.args.self.now _ c.args.name.now c.in_ok-copy.copy refl c.in_ok-copy.ensures.items c.in_ok-insert.ensures.keys
