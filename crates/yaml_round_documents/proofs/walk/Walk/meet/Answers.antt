use Rattle.std.proofs.Common.{sym}
use Rattle.yaml_round_documents.specs.Shapes.{list_of}
use Rattle.yaml_round_documents.proofs.Walking.{met_first}
use Rattle.yaml_round_documents.proofs.walk.Walk.meet.Goals as goal

pub returns-in_ok-push-in-None : goal.returns-in_ok-push-in-None
returns-in_ok-push-in-None c =
    let table = c.args.self.now.met in
    met_first c.args.pair c.args.self.now.pairs.items c.push.new.self.items table c.insert.new.self (list_of c.pair_name-name.result) c.requires.walk c.requires.first c.requires.second c.pair_name-name.ensures
    (sym c.in-None.ensures) c.in_ok-insert-in-None.ensures c.in_ok-push-in-None.ensures.items
