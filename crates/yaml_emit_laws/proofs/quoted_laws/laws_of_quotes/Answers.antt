use Rattle.yaml_emit_laws.proofs.Parts.{spelling_reads, single_spelling_reads}
use Rattle.yaml_emit_laws.proofs.Back.{quoted_back, quoted_text_back}
use Rattle.yaml_emit_layout.proofs.Spelled.{quoted-spells}
use Rattle.yaml_emit_laws.proofs.Keys.{keys_stay}
use Rattle.yaml_emit_laws.proofs.Printing.{printable}
use Rattle.yaml_emit_laws.proofs.quoted_laws.laws_of_quotes.Goals as goal

pub returns-clause-spelling_reads : goal.returns-clause-spelling_reads
returns-clause-spelling_reads c = spelling_reads

pub returns-clause-single_spelling_reads : goal.returns-clause-single_spelling_reads
returns-clause-single_spelling_reads c = single_spelling_reads

pub returns-clause-quoted_is_read_back : goal.returns-clause-quoted_is_read_back
returns-clause-quoted_is_read_back c = quoted_back quoted-spells

pub returns-clause-quoted_text_is_read_back : goal.returns-clause-quoted_text_is_read_back
returns-clause-quoted_text_is_read_back c = quoted_text_back quoted-spells

pub returns-clause-keys_stay_in_line : goal.returns-clause-keys_stay_in_line
returns-clause-keys_stay_in_line c = keys_stay

pub returns-clause-printable_is_of_characters : goal.returns-clause-printable_is_of_characters
returns-clause-printable_is_of_characters c = printable
