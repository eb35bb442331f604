use Rattle.yaml_round_documents.specs.Telling.{pair_keys}
use Rattle.yaml_round_documents.proofs.Texts.{apart_answer}
use Rattle.yaml_round_documents.proofs.apart.are_apart.Goals as goal

pub returns : goal.returns
returns c =
    apart_answer c.args.document.now.nodes (pair_keys c.args.pairs.now) c.put_numbers.new.room.items c.sort_unstable.new.self.items c.deref.result.now c.rises-apart.result c.in_ok-put_numbers.ensures c.sort_unstable.ensures.permutation c.deref.ensures.value c.rises-apart.ensures
