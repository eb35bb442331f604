use Rattle.std.proofs.Common.{◌∙◌}
use Rattle.yaml_scan_text.proofs.QuotesLemmas.{code_done}
use Rattle.yaml_scan_text.proofs.quoted.put_coded.Goals as goal

pub returns-clause-value : goal.returns-clause-value
returns-clause-value c =
    let (scalar, same) = c.in-Some-from_u32.ensures.value in
    code_done c.args.text.now c.args.from c.args.digits c.in-Some.value c.in-Some-from_u32.c c.args.arena.now.items c.extend_from_slice.new.self.items c.as_bytes.result.now c.in-Some.ensures scalar same (c.as_bytes.ensures.value ∙ c.encode_utf8.ensures.value) c.in_ok-extend_from_slice.ensures.items
