use Rattle.yaml_round_content.proofs.ReadBackDocuments.{nodes_parsed, tokens_parsed}
use Rattle.yaml_round_content.proofs.Passing.{tokens_pass}
use Rattle.yaml_round_content.proofs.tree_laws.laws_of_document_trees.Goals as goal

pub returns-clause-nodes_are_parsed : goal.returns-clause-nodes_are_parsed
returns-clause-nodes_are_parsed c = nodes_parsed

pub returns-clause-canonical_tokens_are_parsed : goal.returns-clause-canonical_tokens_are_parsed
returns-clause-canonical_tokens_are_parsed c = tokens_parsed

pub returns-clause-canonical_tokens_pass : goal.returns-clause-canonical_tokens_pass
returns-clause-canonical_tokens_pass c = tokens_pass
