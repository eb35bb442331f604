use Rattle.std.proofs.Common.{[], ◌∷◌}
use Rattle.std.proofs.lemmas.Str.Ascii.{IsAscii-cons, IsAscii-nil}
use Rattle.yaml_emit_scalars.proofs.quoted.put_hex_2.Goals as goal

pub put_text-requires-clause-ascii : goal.put_text-requires-clause-ascii
put_text-requires-clause-ascii c = IsAscii-cons c.hex.result (c.hex-2.result ∷ []) c.hex.ensures.ascii (IsAscii-cons c.hex-2.result [] c.hex-2.ensures.ascii IsAscii-nil)

pub returns : goal.returns
returns c = rw (c.hex.ensures.digit, c.hex-2.ensures.digit) at c.put_text.ensures
