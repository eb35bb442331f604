-- What was read, answered and written. Not searched for, so that a wrong value fails by its type, at once.
use Rattle.std.proofs.Common.{◌⊎◌, ◌≤◌, subst, refl, length, take, ℕ, List, Ok, Err}
use Rattle.std.specs.Io.KnownBytes.{Appends}
use Rattle.yaml_scan_model.specs.scan_types.Faults.{fault_of, IsMemoryFault}
use Rattle.yaml_round.specs.Commands.{IsRunAnswer, run_layers}
use Rattle.yaml_round.proofs.Running.{unread, unread_failures, unread_taken, unread_unfinished, refused, told, told_in_part}
use Rattle.yaml_round.proofs.run.yaml_run.Goals as goal

pub returns-in-Err-clause-untouched : goal.returns-in-Err-clause-untouched
returns-in-Err-clause-untouched g c = λ _. refl

pub returns-in-Err-clause-runs : goal.returns-in-Err-clause-runs
returns-in-Err-clause-runs g c =
    unread c.args.command c.args.from c.args.settings.now c.args.input_limit
    (g.I.yaml_input_t.to_come c.args.input.now) (g.I.yaml_input_t.to_come c.yaml_read_all.new.input) (g.O.yaml_output_t.received c.args.output.now)
    (g.I.yaml_input_t.has_failed c.args.input.now) (g.I.yaml_input_t.has_failed c.yaml_read_all.new.input) c.in-Err.fault c.in-Err.ensures.cause

pub returns-in-Err-clause-failures : goal.returns-in-Err-clause-failures
returns-in-Err-clause-failures g c =
    unread_failures (g.I.yaml_input_t.to_come c.args.input.now) c.args.input_limit
    (g.I.yaml_input_t.has_failed c.args.input.now) (g.I.yaml_input_t.has_failed c.yaml_read_all.new.input) (g.O.yaml_output_t.has_failed c.args.output.now) c.in-Err.fault c.in-Err.ensures.cause

pub returns-in-Err-answer_of-clause-untouched : goal.returns-in-Err-answer_of-clause-untouched
returns-in-Err-answer_of-clause-untouched g c = λ _. refl

pub returns-in-Err-answer_of-clause-failures : goal.returns-in-Err-answer_of-clause-failures
returns-in-Err-answer_of-clause-failures g c = (c.in-Ok.ensures.sound, refl)

pub returns-in-Err-answer_of-clause-runs : goal.returns-in-Err-answer_of-clause-runs
returns-in-Err-answer_of-clause-runs g c =
    let said = subst (λ (t : List ℕ). IsMemoryFault (run_layers c.args.command) (fault_of c.in-Err-answer_of.fault) ⊎ IsRunAnswer c.args.command c.args.from c.args.settings.now t (Err (fault_of c.in-Err-answer_of.fault)))
    c.as_slice.ensures.value c.in-Err-answer_of.ensures in
    refused c.args.command c.args.from c.args.settings.now c.args.input_limit
    (g.I.yaml_input_t.to_come c.args.input.now) (g.I.yaml_input_t.to_come c.yaml_read_all.new.input) (g.O.yaml_output_t.received c.args.output.now)
    c.in-Ok.bytes.items c.in-Err-answer_of.fault c.in-Ok.ensures.all said

pub returns-in-Ok-yaml_write_all-clause-finished : goal.returns-in-Ok-yaml_write_all-clause-finished
returns-in-Ok-yaml_write_all-clause-finished g c = c.in-Ok-yaml_write_all.ensures.finished

pub returns-in-Ok-yaml_write_all-clause-runs : goal.returns-in-Ok-yaml_write_all-clause-runs
returns-in-Ok-yaml_write_all-clause-runs g c =
    let said = subst (λ (t : List ℕ). IsRunAnswer c.args.command c.args.from c.args.settings.now t (Ok (c.in-Ok-answer_of.answer.0.items, c.in-Ok-answer_of.answer.1)))
    c.as_slice.ensures.value c.in-Ok-answer_of.ensures in
    let appends = subst (λ (t : List ℕ). Appends (g.O.yaml_output_t.received c.args.output.now) (g.O.yaml_output_t.received c.yaml_write_all.new.output) t)
    c.as_slice-2.ensures.value c.in-Ok-yaml_write_all.ensures.ok in
    told c.args.command c.args.from c.args.settings.now c.args.input_limit
    (g.I.yaml_input_t.to_come c.args.input.now) (g.I.yaml_input_t.to_come c.yaml_read_all.new.input)
    (g.O.yaml_output_t.received c.args.output.now) (g.O.yaml_output_t.received c.yaml_write_all.new.output)
    c.in-Ok.bytes.items c.in-Ok-answer_of.answer.0.items c.in-Ok-answer_of.answer.1 c.in-Ok.ensures.all said appends

pub returns-in-Ok-yaml_write_all-clause-failures : goal.returns-in-Ok-yaml_write_all-clause-failures
returns-in-Ok-yaml_write_all-clause-failures g c = (c.in-Ok.ensures.sound, c.in-Ok-yaml_write_all.ensures.sound)

pub returns-clause-runs : goal.returns-clause-runs
returns-clause-runs g c =
    let said = subst (λ (t : List ℕ). IsRunAnswer c.args.command c.args.from c.args.settings.now t (Ok (c.in-Ok-answer_of.answer.0.items, c.in-Ok-answer_of.answer.1)))
    c.as_slice.ensures.value c.in-Ok-answer_of.ensures in
    let within = subst (λ (t : List ℕ). c.in-Err-yaml_write_all.written ≤ length t) c.as_slice-2.ensures.value c.in-Err-yaml_write_all.ensures.within in
    let front = subst (λ (t : List ℕ). Appends (g.O.yaml_output_t.received c.args.output.now) (g.O.yaml_output_t.received c.yaml_write_all.new.output) (take c.in-Err-yaml_write_all.written t))
    c.as_slice-2.ensures.value c.in-Err-yaml_write_all.ensures.front in
    told_in_part c.args.command c.args.from c.args.settings.now c.args.input_limit
    (g.I.yaml_input_t.to_come c.args.input.now) (g.I.yaml_input_t.to_come c.yaml_read_all.new.input)
    (g.O.yaml_output_t.received c.args.output.now) (g.O.yaml_output_t.received c.yaml_write_all.new.output)
    c.in-Ok.bytes.items c.in-Ok-answer_of.answer.0.items c.in-Ok-answer_of.answer.1 c.in-Err-yaml_write_all.written c.in-Ok.ensures.all said within front

pub returns-clause-failures : goal.returns-clause-failures
returns-clause-failures g c = (c.in-Ok.ensures.sound, c.in-Err-yaml_write_all.ensures.failed)

pub returns-in-Err-clause-taken : goal.returns-in-Err-clause-taken
returns-in-Err-clause-taken g c = unread_taken (g.I.yaml_input_t.given c.args.input.now) (g.I.yaml_input_t.given c.yaml_read_all.new.input) c.args.input_limit c.in-Err.fault c.in-Err.ensures.few

pub returns-in-Err-answer_of-clause-taken : goal.returns-in-Err-answer_of-clause-taken
returns-in-Err-answer_of-clause-taken g c = (length c.in-Ok.bytes.items, c.in-Ok.ensures.all.within, c.in-Ok.ensures.count)

pub returns-in-Ok-yaml_write_all-clause-taken : goal.returns-in-Ok-yaml_write_all-clause-taken
returns-in-Ok-yaml_write_all-clause-taken g c = (length c.in-Ok.bytes.items, c.in-Ok.ensures.all.within, c.in-Ok.ensures.count)

pub returns-clause-taken : goal.returns-clause-taken
returns-clause-taken g c = (length c.in-Ok.bytes.items, c.in-Ok.ensures.all.within, c.in-Ok.ensures.count)

pub returns-in-Err-clause-unfinished : goal.returns-in-Err-clause-unfinished
returns-in-Err-clause-unfinished g c =
    unread_unfinished (g.I.yaml_input_t.to_come c.args.input.now) c.args.input_limit
    (g.I.yaml_input_t.has_failed c.args.input.now) (g.I.yaml_input_t.has_failed c.yaml_read_all.new.input) (g.O.yaml_output_t.is_finished c.args.output.now) c.in-Err.fault c.in-Err.ensures.cause

pub returns-in-Err-answer_of-clause-unfinished : goal.returns-in-Err-answer_of-clause-unfinished
returns-in-Err-answer_of-clause-unfinished g c = tt

pub returns-clause-unfinished : goal.returns-clause-unfinished
returns-clause-unfinished g c = c.in-Err-yaml_write_all.ensures.unfinished
