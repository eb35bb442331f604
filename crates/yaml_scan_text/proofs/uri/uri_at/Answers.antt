use Rattle.std.proofs.Common.{◌≢◌}
use Rattle.yaml_scan_text.proofs.Words.{byte}
use Rattle.yaml_scan_text.proofs.NamesLemmas.{plain_read}
use Rattle.yaml_scan_text.proofs.uri.uri_at.Goals as goal

pub returns-then-byte-ne37-clause-value : goal.returns-then-byte-ne37-clause-value
returns-then-byte-ne37-clause-value c =
    let mark : byte c.args.text.now c.uri_run-end.result ≢ 37 = rw c.byte.ensures at c.if-byte-ne37.true in
    plain_read c.args.context c.args.wide c.args.text.now c.args.from c.uri_run-end.result c.args.arena.now.items c.uri_run-end.ensures.run c.uri_run-end.ensures.inside mark
