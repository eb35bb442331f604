use Rattle.std.proofs.Common.{ap, ◌∙◌, ◌≡◌, length}
use Rattle.yaml_emit_layout.specs.Layout.{letters}
use Rattle.yaml_emit_output.proofs.Parts.{one_letter, one_size}
use Rattle.yaml_emit_output.proofs.draft.Draft.put_char.Goals as goal

pub put_letters-requires-clause-utf8 : goal.put_letters-requires-clause-utf8
put_letters-requires-clause-utf8 c = rw c.as_bytes-bytes.ensures.value c.encode_utf8.utf8

pub put_letters-requires-clause-size : goal.put_letters-requires-clause-size
put_letters-requires-clause-size c =
    let is = c.as_bytes-bytes.ensures.value in
    rw is (one_size c.args.c _ c.encode_utf8.utf8 c.encode_utf8.ensures.value)

pub returns : goal.returns
unfolding letters
returns c =
    let is = c.as_bytes-bytes.ensures.value in
    rw (is, one_letter c.args.c _ c.encode_utf8.utf8 c.encode_utf8.ensures.value) at c.put_letters.ensures
