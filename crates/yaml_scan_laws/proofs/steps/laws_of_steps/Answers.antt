use Rattle.yaml_scan_laws.proofs.Stepping.{words_leave, start_steps, white_steps, word_steps, mark_steps, outer_steps, key_starts, key_steps, key_stops}
use Rattle.yaml_scan_laws.proofs.steps.laws_of_steps.Goals as goal

pub returns-clause-words_leave : goal.returns-clause-words_leave
returns-clause-words_leave c = words_leave

pub returns-clause-start_steps : goal.returns-clause-start_steps
returns-clause-start_steps c = start_steps

pub returns-clause-white_steps : goal.returns-clause-white_steps
returns-clause-white_steps c = white_steps

pub returns-clause-word_steps : goal.returns-clause-word_steps
returns-clause-word_steps c = word_steps

pub returns-clause-mark_steps : goal.returns-clause-mark_steps
returns-clause-mark_steps c = mark_steps

pub returns-clause-outer_steps : goal.returns-clause-outer_steps
returns-clause-outer_steps c = outer_steps

pub returns-clause-key_starts : goal.returns-clause-key_starts
returns-clause-key_starts c = key_starts

pub returns-clause-key_steps : goal.returns-clause-key_steps
returns-clause-key_steps c = key_steps

pub returns-clause-key_stops : goal.returns-clause-key_stops
returns-clause-key_stops c = key_stops
