use Rattle.yaml_scan_laws.proofs.Slotting.{started_goes_on, later_is_lone, break_ends_line, near_before, slots_go_on, none_is_lone, level_opens, white_columns, letter_columns}
use Rattle.yaml_scan_laws.proofs.slots.laws_of_slots.Goals as goal

pub returns-clause-started_goes_on : goal.returns-clause-started_goes_on
returns-clause-started_goes_on c = started_goes_on

pub returns-clause-later_is_lone : goal.returns-clause-later_is_lone
returns-clause-later_is_lone c = later_is_lone

pub returns-clause-break_ends_line : goal.returns-clause-break_ends_line
returns-clause-break_ends_line c = break_ends_line

pub returns-clause-near_before : goal.returns-clause-near_before
returns-clause-near_before c = near_before

pub returns-clause-slots_go_on : goal.returns-clause-slots_go_on
returns-clause-slots_go_on c = slots_go_on

pub returns-clause-none_is_lone : goal.returns-clause-none_is_lone
returns-clause-none_is_lone c = none_is_lone

pub returns-clause-level_opens : goal.returns-clause-level_opens
returns-clause-level_opens c = level_opens

pub returns-clause-white_columns : goal.returns-clause-white_columns
returns-clause-white_columns c = white_columns

pub returns-clause-letter_columns : goal.returns-clause-letter_columns
returns-clause-letter_columns c = letter_columns
