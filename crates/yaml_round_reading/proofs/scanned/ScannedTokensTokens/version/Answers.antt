use Rattle.yaml_round_reading.specs.Input.{scanned_of}
use Rattle.yaml_round_reading.proofs.Asking.{taken_held}
use Rattle.yaml_round_reading.proofs.scanned.ScannedTokensTokens.version.Goals as goal

pub version-requires : goal.version-requires
version-requires c = taken_held c.self.inside.refusal c.self.inside.standing (scanned_of c.self.inside.source.now) c.self.inside.scanner c.self.invariant.stands c.in-Taken.is
