use Rattle.std.proofs.Common.{[], sym, ◌∙◌}
use Rattle.std.proofs.lemmas.Str.Ascii.{IsAscii-cons, IsAscii-nil}
use Rattle.yaml_emit_core.proofs.Spellings.{low}
use Rattle.yaml_emit_core.proofs.names.put_uri_byte.Goals as goal

pub put_text-requires-clause-ascii : goal.put_text-requires-clause-ascii
put_text-requires-clause-ascii c = IsAscii-cons c.args.byte [] (low c.args.flow c.args.byte (sym c.keeps_byte.ensures ∙ c.if-keeps_byte.true)) IsAscii-nil

pub returns-then-keeps_byte : goal.returns-then-keeps_byte
returns-then-keeps_byte c = rw (← c.keeps_byte.ensures, c.if-keeps_byte.true) c.put_text.ensures

pub returns-else-keeps_byte : goal.returns-else-keeps_byte
returns-else-keeps_byte c = rw (← c.keeps_byte.ensures, c.if-keeps_byte.false) (rw (c.hex.ensures.digit, c.hex-else-keeps_byte.ensures.digit) at c.put_text-else-keeps_byte.ensures)
