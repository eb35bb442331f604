use Rattle.std.proofs.Common.{rules}
use Rattle.yaml_round_documents.proofs.Streaming.{document_told}
use Rattle.yaml_round_documents.proofs.streams.tell_differences.Goals as goal

pub returns : goal.returns
returns c =
    document_told c.args.document c.args.first.now.nodes c.args.second.now.nodes c.args.stream.now (record { pairs = c.push.new.self; told = c.put_differences.new.told }) c.in_ok-pairs.field-0.pairs c.in_ok-pairs.field-0.told.items c.deref.result.now (search rules) (search rules) c.deref.ensures.value c.in_ok-put_differences.ensures c.in_ok-push.ensures.items
