use Rattle.std.proofs.Common.{arith}
use Rattle.yaml_scan_text.proofs.QuotesRead.{code_escapes, code_inside, simple_taken, unknown_refused}
use Rattle.yaml_scan_text.proofs.quoted.put_escaped.Goals as goal

pub put_coded-requires-clause-inside : goal.put_coded-requires-clause-inside
put_coded-requires-clause-inside c = code_inside c.args.text.now c.args.at c.hex_len-digits.result (rw c.byte-letter.ensures at c.hex_len-digits.ensures.value) (omega arith)

pub returns-then-digits-gt0-clause-value : goal.returns-then-digits-gt0-clause-value
returns-then-digits-gt0-clause-value c = code_escapes c.args.text.now c.args.arena.now.items c.put_coded.new.arena.items c.args.at c.hex_len-digits.result c.put_coded.result c.requires.first c.requires.none (rw c.byte-letter.ensures at c.hex_len-digits.ensures.value) (omega arith) c.put_coded.ensures.value

pub returns-in_default-clause-value : goal.returns-in_default-clause-value
returns-in_default-clause-value c = unknown_refused c.args.text.now c.args.at c.hex_len-digits.result c.wrong_at.result c.requires.none (rw c.byte-letter.ensures at c.hex_len-digits.ensures.value) (omega arith) (rw c.byte-letter.ensures at c.in_default.ensures) c.wrong_at.ensures

pub returns-clause-value : goal.returns-clause-value
returns-clause-value c = (simple_taken c.args.text.now c.args.arena.now.items c.extend_from_slice.new.self.items c.args.at c.hex_len-digits.result c.in-Some.bytes.now c.requires.first c.requires.none (rw c.byte-letter.ensures at c.hex_len-digits.ensures.value) (omega arith) (rw c.byte-letter.ensures at c.in-Some.ensures) c.in_ok-extend_from_slice.ensures.items, omega arith)
