use Rattle.yaml_scan_laws.proofs.HistoryForward.{goes_forward, lexemes_stand, settled_stays, are_few, reads_count, steps_below, all_ends, last_is_all, stays_all, history_grows}
use Rattle.yaml_scan_laws.proofs.HeldForward.{held_is_short, outer_is_first}
use Rattle.yaml_scan_laws.proofs.laws.laws_of_order.Goals as goal

pub returns-clause-goes_forward : goal.returns-clause-goes_forward
returns-clause-goes_forward c = goes_forward

pub returns-clause-lexemes_stand : goal.returns-clause-lexemes_stand
returns-clause-lexemes_stand c = lexemes_stand

pub returns-clause-settled_stays : goal.returns-clause-settled_stays
returns-clause-settled_stays c = settled_stays

pub returns-clause-are_few : goal.returns-clause-are_few
returns-clause-are_few c = are_few

pub returns-clause-steps_count : goal.returns-clause-steps_count
returns-clause-steps_count c = λ text n l e. (reads_count text n l e, steps_below text n l e)

pub returns-clause-all_ends : goal.returns-clause-all_ends
returns-clause-all_ends c = all_ends

pub returns-clause-last_is_all : goal.returns-clause-last_is_all
returns-clause-last_is_all c = last_is_all

pub returns-clause-stays_all : goal.returns-clause-stays_all
returns-clause-stays_all c = stays_all

pub returns-clause-history_grows : goal.returns-clause-history_grows
returns-clause-history_grows c = history_grows

pub returns-clause-held_is_short : goal.returns-clause-held_is_short
returns-clause-held_is_short c = held_is_short

pub returns-clause-outer_is_first : goal.returns-clause-outer_is_first
returns-clause-outer_is_first c = outer_is_first
