-- What C receives of events that are emitted.
use Rattle.std.proofs.Common.{◌≡◌, ◌∙◌, inl, refl, sym, ap, ℕ, subst, Bool, true, List, Option, None, Some, is_some, option_map, Result, Vec}
use Rattle.std.proofs.lemmas.Bool.{false≢true}
use Rattle.std.specs.Global.{Global}
use Rattle.yaml_parse.specs.Events.{EventBody}
use Rattle.yaml_parse.specs.scan_types.Faults.{Answers, emit_layers}
use Rattle.yaml_parse.specs.declared.yaml_fault_t.{yaml_fault_t}
use Rattle.yaml_parse.specs.declared.yaml_origin_t.TheVariants.{Emitter}
use Rattle.yaml_emit.specs.emit_layout.declared.RequestedSettings.{RequestedSettings}
use Rattle.yaml_round_answers.specs.declared.emitter.Asked.{Asked}
use Rattle.yaml_round_answers.specs.declared.answer.yaml_c_answer.{yaml_c_answer}
use Rattle.yaml_round_answers.specs.Written.{IsEmitted}
use Rattle.yaml_round_answers.specs.Leading.{bytes_of, requested, asked_for, all_events}
use Rattle.yaml_round_answers.specs.Emitting.{Emits}
use Rattle.yaml_round_answers.specs.Told.{AnswersMeant, both, TellsAnswer}
use Rattle.yaml_round_answers.proofs.Refusing.{text_answered}

-- the settings and the events mean something
pub emit_answered : (o : Option (List EventBody)) (s : Option (RequestedSettings × ℕ))
    (asked : Option Asked) (x : Asked) (r : Result (Vec ℕ Global) yaml_fault_t) (a : yaml_c_answer)
    (b : Bool) → b ≡ is_some o → b ≡ true → option_map asked_for asked ≡ s → asked ≡ Some x
    → Answers emit_layers bytes_of (IsEmitted (requested x) x.limit (all_events o)) r
    → TellsAnswer r a → AnswersMeant (both o s) Emits a
emit_answered None s asked x r a b is on w e h t = absurd (false≢true (sym is ∙ on))
emit_answered (Some bs) s asked x r a b is on w e h t =
    let same : Some (asked_for x) ≡ s = ap (option_map asked_for) (sym e) ∙ w in
    subst (λ z. AnswersMeant (both (Some bs) z) Emits a) same (text_answered emit_layers Emitter (IsEmitted (requested x) x.limit (all_events (Some bs))) r a (inl refl) h t)
