use Rattle.yaml_round_content.proofs.PrettyDocuments.{tokens_parsed, is_told, tokens_lost}
use Rattle.yaml_round_content.proofs.PrettyPassing.{tokens_pass}
use Rattle.yaml_round_content.proofs.PrettySaying.{tokens_say}
use Rattle.yaml_round_content.proofs.token_laws.laws_of_pretty_tokens.Goals as goal

pub returns-clause-pretty_tokens_are_parsed : goal.returns-clause-pretty_tokens_are_parsed
returns-clause-pretty_tokens_are_parsed c = tokens_parsed

pub returns-clause-pretty_tokens_pass : goal.returns-clause-pretty_tokens_pass
returns-clause-pretty_tokens_pass c = tokens_pass

pub returns-clause-pretty_tokens_say_documents : goal.returns-clause-pretty_tokens_say_documents
returns-clause-pretty_tokens_say_documents c = tokens_say

pub returns-clause-beginning_is_told : goal.returns-clause-beginning_is_told
returns-clause-beginning_is_told c = is_told

pub returns-clause-pretty_tokens_are_lost : goal.returns-clause-pretty_tokens_are_lost
returns-clause-pretty_tokens_are_lost c = tokens_lost
