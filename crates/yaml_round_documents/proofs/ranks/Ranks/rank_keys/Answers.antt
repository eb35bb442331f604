use Rattle.yaml_round_documents.specs.Telling.{pair_keys}
use Rattle.yaml_round_documents.proofs.Labels.{tells_all}
use Rattle.yaml_round_documents.proofs.ranks.Ranks.rank_keys.Goals as goal

pub returns-then-judged-clause-tells : goal.returns-then-judged-clause-tells
returns-then-judged-clause-tells c =
    tells_all (pair_keys c.args.pairs.now) c.args.document.now.nodes c.args.self.now c.requires.ranking (c.requires.judged c.if-judged.true)
