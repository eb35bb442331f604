use Rattle.std.proofs.Common.{◌∙◌, sym}
use Rattle.std.proofs.lemmas.Str.{chars-IsAscii, IsUtf8-from_ascii}
use Rattle.yaml_emit_output.proofs.Parts.{none_counted}
use Rattle.yaml_emit_output.proofs.draft.Draft.put_text.Goals as goal

pub put_letters-requires-clause-utf8 : goal.put_letters-requires-clause-utf8
put_letters-requires-clause-utf8 c = IsUtf8-from_ascii c.args.text.now c.requires.ascii

pub put_letters-requires-clause-size : goal.put_letters-requires-clause-size
put_letters-requires-clause-size c = none_counted c.args.text.now c.requires.ascii

pub returns : goal.returns
returns c = rw (chars-IsAscii c.args.text.now c.requires.ascii) at c.put_letters.ensures
