use Rattle.std.proofs.Common.{arith}
use Rattle.yaml_scan_text.proofs.NamesLemmas.{kept_none, kept_run}
use Rattle.yaml_scan_text.proofs.uri.put_kept.Goals as goal

pub returns-then-due-gt0-clause-value : goal.returns-then-due-gt0-clause-value
returns-then-due-gt0-clause-value c = kept_none c.args.wide c.args.due c.args.text.now c.args.from c.args.arena.now.items (omega arith) c.requires

pub returns-clause-value : goal.returns-clause-value
returns-clause-value c = kept_run c.args.wide c.args.due c.args.text.now c.args.from c.uri_run-end.result c.args.arena.now.items c.extend_from_slice.new.self.items (omega arith) c.uri_run-end.ensures.run c.uri_run-end.ensures.inside c.in_ok-extend_from_slice.ensures.items
