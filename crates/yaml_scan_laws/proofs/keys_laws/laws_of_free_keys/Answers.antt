use Rattle.yaml_scan_laws.proofs.FreeLemmas.{no_candidate, history_made, own_tokens_are, level_free}
use Rattle.yaml_scan_laws.proofs.StepLemmas.{remaining_bare, none_required, step_reads}
use Rattle.std.proofs.Common.{suc}
use Rattle.yaml_scan_laws.proofs.TextLemmas.{words_lexemes, words_read}
use Rattle.yaml_scan_laws.proofs.keys_laws.laws_of_free_keys.Goals as goal

pub returns-clause-asked_have_no_candidate : goal.returns-clause-asked_have_no_candidate
returns-clause-asked_have_no_candidate c = λ text n free t. no_candidate _ (history_made text n) free t

pub returns-clause-key_free_tokens_are_own : goal.returns-clause-key_free_tokens_are_own
returns-clause-key_free_tokens_are_own c = λ s n free. own_tokens_are s _ (history_made s.text n) free

pub returns-clause-key_free_texts_are_bare : goal.returns-clause-key_free_texts_are_bare
returns-clause-key_free_texts_are_bare c = remaining_bare

pub returns-clause-key_free_is_level_free : goal.returns-clause-key_free_is_level_free
returns-clause-key_free_is_level_free c = level_free

pub returns-clause-none_is_required : goal.returns-clause-none_is_required
returns-clause-none_is_required c = λ text n d l at to free. none_required _ d l at to (history_made text n) free

pub returns-clause-word_is_read : goal.returns-clause-word_is_read
returns-clause-word_is_read c = λ text n k w free more kind said. step_reads text n k w (history_made text (suc n)) free more kind said

pub returns-clause-words_are_lexemes : goal.returns-clause-words_are_lexemes
returns-clause-words_are_lexemes c = words_lexemes

pub returns-clause-words_are_read : goal.returns-clause-words_are_read
returns-clause-words_are_read c = words_read
