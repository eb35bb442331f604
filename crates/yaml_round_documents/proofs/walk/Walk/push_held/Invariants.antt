use Rattle.yaml_round_documents.proofs.Walking.{PushedTo}
use Rattle.yaml_round_documents.proofs.walk.Walk.push_held.Given as goal

abbrev pub invariant-loop-at : goal.invariant-loop-at
invariant-loop-at l = PushedTo l.labels l.holder l.own l.others l.partners l.at l.initial.self l.self
