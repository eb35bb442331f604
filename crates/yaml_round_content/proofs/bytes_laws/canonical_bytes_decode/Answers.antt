use Rattle.yaml_round_content.proofs.CanonicalJoining.{bytes_decode}
use Rattle.yaml_round_content.proofs.bytes_laws.canonical_bytes_decode.Goals as goal

pub returns : goal.returns
returns c = bytes_decode
