use Rattle.yaml_emit_laws.proofs.Growing.{canonical_free, canonical_read}
use Rattle.yaml_emit_laws.proofs.canonical_laws.laws_of_canonical_text.Goals as goal

pub returns-clause-canonical_is_key_free : goal.returns-clause-canonical_is_key_free
returns-clause-canonical_is_key_free c = canonical_free

pub returns-clause-canonical_words_are_read : goal.returns-clause-canonical_words_are_read
returns-clause-canonical_words_are_read c = canonical_read
