use Rattle.yaml_emit_laws.proofs.PlainStart.{plain_back}
use Rattle.yaml_emit_laws.proofs.SingleWritten.{single_back}
use Rattle.yaml_emit_laws.proofs.Parts.{single_spelling_reads}
use Rattle.yaml_emit_laws.proofs.Stopping.{stops_end, goes_on, behind_lines, what_stops, chars_solid, has_gap, stands, quoted_stands, are_words, lines_up}
use Rattle.yaml_emit_laws.proofs.NearKeys.{keys_near}
use Rattle.yaml_emit_laws.proofs.OneLine.{near_fresh}
use Rattle.yaml_emit_laws.proofs.Styles.{styles_allowed, pages_indent as deep}
use Rattle.yaml_emit_laws.proofs.scalar_laws.laws_of_scalars.Goals as goal

pub returns-clause-plain_is_read_back : goal.returns-clause-plain_is_read_back
returns-clause-plain_is_read_back c = plain_back

pub returns-clause-single_lines_are_read_back : goal.returns-clause-single_lines_are_read_back
returns-clause-single_lines_are_read_back c = single_back single_spelling_reads

pub returns-clause-stops_end_plain : goal.returns-clause-stops_end_plain
returns-clause-stops_end_plain c = stops_end

pub returns-clause-plain_goes_on : goal.returns-clause-plain_goes_on
returns-clause-plain_goes_on c = goes_on

pub returns-clause-lines_lead_to_columns : goal.returns-clause-lines_lead_to_columns
returns-clause-lines_lead_to_columns c = behind_lines

pub returns-clause-simple_keys_are_near : goal.returns-clause-simple_keys_are_near
returns-clause-simple_keys_are_near c = keys_near

pub returns-clause-near_is_fresh : goal.returns-clause-near_is_fresh
returns-clause-near_is_fresh c = near_fresh

pub returns-clause-what_stops_plain : goal.returns-clause-what_stops_plain
returns-clause-what_stops_plain c = what_stops

pub returns-clause-characters_are_solid : goal.returns-clause-characters_are_solid
returns-clause-characters_are_solid c = chars_solid

pub returns-clause-styles_are_allowed : goal.returns-clause-styles_are_allowed
returns-clause-styles_are_allowed c = styles_allowed

pub returns-clause-plain_has_a_gap : goal.returns-clause-plain_has_a_gap
returns-clause-plain_has_a_gap c = has_gap

pub returns-clause-plain_stands : goal.returns-clause-plain_stands
returns-clause-plain_stands c = stands

pub returns-clause-single_stands : goal.returns-clause-single_stands
returns-clause-single_stands c = quoted_stands single_spelling_reads

pub returns-clause-scalars_are_words : goal.returns-clause-scalars_are_words
returns-clause-scalars_are_words c = are_words

pub returns-clause-lines_stop_plain : goal.returns-clause-lines_stop_plain
returns-clause-lines_stop_plain c = lines_up

pub returns-clause-pages_indent : goal.returns-clause-pages_indent
returns-clause-pages_indent c = deep
