use Rattle.yaml_scan_laws.proofs.Walking.{levels_part, walk_ends, walk_starts, walk_white, walk_word, walk_mark, walk_outer, walk_stops, walk_key_starts, walk_key_goes, walk_key_stops, walk_asks, deeper_leaves, walk_answers, walk_goes, walk_says}
use Rattle.yaml_scan_laws.proofs.walks.laws_of_walks.Goals as goal

pub returns-clause-levels_part : goal.returns-clause-levels_part
returns-clause-levels_part c = levels_part

pub returns-clause-walk_ends : goal.returns-clause-walk_ends
returns-clause-walk_ends c = walk_ends

pub returns-clause-walk_starts : goal.returns-clause-walk_starts
returns-clause-walk_starts c = walk_starts

pub returns-clause-walk_white : goal.returns-clause-walk_white
returns-clause-walk_white c = walk_white

pub returns-clause-walk_word : goal.returns-clause-walk_word
returns-clause-walk_word c = walk_word

pub returns-clause-walk_mark : goal.returns-clause-walk_mark
returns-clause-walk_mark c = walk_mark

pub returns-clause-walk_outer : goal.returns-clause-walk_outer
returns-clause-walk_outer c = walk_outer

pub returns-clause-walk_stops : goal.returns-clause-walk_stops
returns-clause-walk_stops c = walk_stops

pub returns-clause-walk_key_starts : goal.returns-clause-walk_key_starts
returns-clause-walk_key_starts c = walk_key_starts

pub returns-clause-walk_key_goes : goal.returns-clause-walk_key_goes
returns-clause-walk_key_goes c = walk_key_goes

pub returns-clause-walk_key_stops : goal.returns-clause-walk_key_stops
returns-clause-walk_key_stops c = walk_key_stops

pub returns-clause-walk_asks : goal.returns-clause-walk_asks
returns-clause-walk_asks c = walk_asks

pub returns-clause-deeper_leaves : goal.returns-clause-deeper_leaves
returns-clause-deeper_leaves c = deeper_leaves

pub returns-clause-walk_answers : goal.returns-clause-walk_answers
returns-clause-walk_answers c = walk_answers

pub returns-clause-walk_goes : goal.returns-clause-walk_goes
returns-clause-walk_goes c = walk_goes

pub returns-clause-walk_says : goal.returns-clause-walk_says
returns-clause-walk_says c = walk_says
