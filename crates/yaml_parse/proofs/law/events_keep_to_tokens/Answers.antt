use Rattle.std.proofs.Common.{length, subst, sym}
use Rattle.yaml_parse_laws_trees.specs.CountsLaws.{AtMostFourSoFar}
use Rattle.yaml_parse_laws_trees.specs.Given.{GivesLeast}
use Rattle.yaml_parse_laws_trees.specs.Sentences.{BeginsSentence}
use Rattle.yaml_parse_laws_trees.proofs.Giving.{events_are_run, run_gives_least}
use Rattle.yaml_parse_laws_trees.proofs.Ordered.{begins_sentence}
use Rattle.yaml_parse_laws_trees.proofs.SoFar.{few_so_far}
use Rattle.yaml_parse_grammar.specs.Resolve.{no_directives}
use Rattle.yaml_parse.proofs.Sentences.{begins_tree}
use Rattle.yaml_parse.proofs.law.events_keep_to_tokens.Goals as goal

pub returns-clause-few : goal.returns-clause-few
returns-clause-few c = λ ts own events h. subst (AtMostFourSoFar 0 (length ts)) (sym (events_are_run ts own events h)) (few_so_far ts own no_directives)

pub returns-clause-front : goal.returns-clause-front
returns-clause-front c = λ ts own events h. begins_tree ts own events (events_are_run ts own events h)

pub returns-clause-least : goal.returns-clause-least
returns-clause-least c = λ ts own events h n. subst (GivesLeast ts) (sym (events_are_run ts own events h)) (run_gives_least ts own n)

pub returns-clause-sentence : goal.returns-clause-sentence
returns-clause-sentence c = λ ts own events h n. subst (BeginsSentence ts) (sym (events_are_run ts own events h)) (begins_sentence ts own n)
