use Rattle.yaml_round_reading.proofs.Asking.{origin_mark}
use Rattle.yaml_round_reading.proofs.scanned.ScannedTokensTokens.origin.Goals as goal

pub returns : goal.returns
returns c = origin_mark c.args.self.now.text
