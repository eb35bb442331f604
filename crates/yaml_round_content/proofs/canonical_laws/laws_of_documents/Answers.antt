use Rattle.yaml_round_content.proofs.ReadBackWhole.{all_load, all_sound, all_writable, texts_load_again, texts_tell, loads_are, plain_documents, load_again, tell_documents, inputs_load_alike, names_do_not_matter}
use Rattle.yaml_round_content.proofs.Laid.{laid_out}
use Rattle.yaml_round_content.proofs.canonical_laws.laws_of_documents.Goals as goal

pub returns-clause-all_load_documents : goal.returns-clause-all_load_documents
returns-clause-all_load_documents c = all_load

pub returns-clause-loaded_are_sound : goal.returns-clause-loaded_are_sound
returns-clause-loaded_are_sound c = all_sound

pub returns-clause-loaded_are_writable : goal.returns-clause-loaded_are_writable
returns-clause-loaded_are_writable c = all_writable

pub returns-clause-dumps_are_laid_out : goal.returns-clause-dumps_are_laid_out
returns-clause-dumps_are_laid_out c = laid_out

pub returns-clause-document_texts_load_again : goal.returns-clause-document_texts_load_again
returns-clause-document_texts_load_again c = texts_load_again

pub returns-clause-document_texts_tell : goal.returns-clause-document_texts_tell
returns-clause-document_texts_tell c = texts_tell

pub returns-clause-loads_are_documents : goal.returns-clause-loads_are_documents
returns-clause-loads_are_documents c = loads_are

pub returns-clause-plain_documents : goal.returns-clause-plain_documents
returns-clause-plain_documents c = plain_documents

pub returns-clause-dump_texts_load_again : goal.returns-clause-dump_texts_load_again
returns-clause-dump_texts_load_again c = load_again

pub returns-clause-dump_texts_tell_documents : goal.returns-clause-dump_texts_tell_documents
returns-clause-dump_texts_tell_documents c = tell_documents

pub returns-clause-inputs_load_alike : goal.returns-clause-inputs_load_alike
returns-clause-inputs_load_alike c = inputs_load_alike

pub returns-clause-names_do_not_matter : goal.returns-clause-names_do_not_matter
returns-clause-names_do_not_matter c = names_do_not_matter
