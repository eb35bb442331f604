use Rattle.std.proofs.Common.{refl, subst, inl}
use Rattle.yaml_round_documents.specs.Pairs.{listed}
use Rattle.yaml_round_documents.specs.Steps.{AreNumbered}
use Rattle.yaml_round_documents.proofs.walk.Walk.push_some.Goals as goal

pub push-requires-clause-first : goal.push-requires-clause-first
push-requires-clause-first c = (subst (λ o. AreNumbered (listed o)) c.in-Some.is c.requires.numbers c.in-Some.pair.first c.in-Some.pair.second (inl (refl, refl))).0

pub push-requires-clause-second : goal.push-requires-clause-second
push-requires-clause-second c = (subst (λ o. AreNumbered (listed o)) c.in-Some.is c.requires.numbers c.in-Some.pair.first c.in-Some.pair.second (inl (refl, refl))).1
