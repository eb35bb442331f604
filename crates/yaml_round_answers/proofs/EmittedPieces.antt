-- What C receives of events that are emitted piece by piece.
use Rattle.std.proofs.Common.{◌≡◌, ◌∙◌, inl, refl, sym, ap, ℕ, ℤ, pos, negsuc, subst, Bool, true, List, Option, None, Some, is_some, option_map, Result, Ok, Err}
use Rattle.std.proofs.Math.Logic.{⊎_map}
use Rattle.std.proofs.lemmas.Bool.{false≢true}
use Rattle.yaml_parse.specs.Events.{EventBody}
use Rattle.yaml_parse.specs.scan_types.Faults.{Fault, emit_layers}
use Rattle.yaml_parse.specs.declared.yaml_origin_t.TheVariants.{Emitter}
use Rattle.yaml_emit.specs.emit_layout.declared.RequestedSettings.{RequestedSettings}
use Rattle.yaml_round_answers.specs.declared.emitter.Asked.{Asked}
use Rattle.yaml_round_answers.specs.declared.answer.yaml_c_answer.{yaml_c_answer}
use Rattle.yaml_round_answers.specs.declared.standing.yaml_c_stand.{yaml_c_stand}
use Rattle.yaml_round_answers.specs.Leading.{requested, asked_for, all_events}
use Rattle.yaml_round_answers.specs.Standing.{At}
use Rattle.yaml_round_answers.specs.Onward.{most_on, IsOnwardAt, IsOnward}
use Rattle.yaml_round_answers.specs.Written.{emitter_events}
use Rattle.yaml_round_answers.specs.OnwardAnswers.{onward_meant, TellsOnward, EmitsOn}
use Rattle.yaml_round_answers.specs.Told.{AnswersMeant, IsExact, both, OrMemory, Refuses}
use Rattle.yaml_round_answers.specs.declared.parsing.yaml_c_parsed.{yaml_c_parsed}
use Rattle.yaml_round_answers.specs.declared.record.yaml_c_settings.{yaml_c_settings}
use Rattle.yaml_round_answers.proofs.Exact.{text_kind, fault_kind, exact}
use Rattle.yaml_round_answers.proofs.Refusing.{refused_answer}

-- the events, the settings and the checkpoint mean something
on_meant : (old new : yaml_c_stand) (o : Option (List EventBody))
    (s : Option (RequestedSettings × ℕ)) (asked : Option Asked) (x : Asked) (at : Option (Option At)) (b v : Bool) → b ≡ is_some o
    → b ≡ true → v ≡ is_some at → v ≡ true → option_map asked_for asked ≡ s → asked ≡ Some x
    → (a : yaml_c_answer)
    → ((bs : List EventBody) (p : Option At) → o ≡ Some bs → at ≡ Some p
    → EmitsOn old new ((bs, asked_for x), p) a)
    → AnswersMeant (both (both o s) at) (EmitsOn old new) a
on_meant old new None s asked x at b v is on there so w e a h = absurd (false≢true (sym is ∙ on))
on_meant old new (Some bs) s asked x None b v is on there so w e a h = absurd (false≢true (sym there ∙ so))
on_meant old new (Some bs) s asked x (Some p) b v is on there so w e a h =
    let same : Some (asked_for x) ≡ s = ap (option_map asked_for) (sym e) ∙ w in
    subst (λ z. AnswersMeant (both (both (Some bs) z) (Some p)) (EmitsOn old new) a) same (h bs p refl refl)

on_at : (w : RequestedSettings) (limit : ℕ) (o : Option (List EventBody)) (at : Option (Option At))
    (bs : List EventBody) (p : Option At) (r : Result (List ℕ × yaml_c_stand) Fault) → o ≡ Some bs
    → at ≡ Some p → IsOnwardAt w limit at (all_events o) r
    → IsOnward w limit p (emitter_events bs) r
on_at w limit o at bs p r e f h =
    subst (λ z. IsOnwardAt w limit z (emitter_events bs) r) f (subst (λ z. IsOnwardAt w limit at (all_events z) r) e h)

pub on_told : (old new : yaml_c_stand) (o : Option (List EventBody))
    (s : Option (RequestedSettings × ℕ)) (asked : Option Asked) (x : Asked)
    (at : Option (Option At)) (b v : Bool) → b ≡ is_some o → b ≡ true → v ≡ is_some at → v ≡ true
    → option_map asked_for asked ≡ s → asked ≡ Some x → (r : List ℕ × yaml_c_stand)
    (a : yaml_c_answer) → IsOnwardAt (requested x) (most_on x.limit) at (all_events o) (Ok r)
    → TellsOnward old new (Ok r) a → AnswersMeant (both (both o s) at) (EmitsOn old new) a
on_told old new o s asked x at b v is on there so w e r a h told =
    on_meant old new o s asked x at b v is on there so w e a
    (λ bs p q k. record { result = Ok r; is = on_at (requested x) (most_on x.limit) o at bs p (Ok r) q k h; told = told })

-- the fault is reported, or that memory for its line was refused
pub on_refused : (old new : yaml_c_stand) (o : Option (List EventBody))
    (s : Option (RequestedSettings × ℕ)) (asked : Option Asked) (x : Asked)
    (at : Option (Option At)) (b v : Bool) → b ≡ is_some o → b ≡ true → v ≡ is_some at → v ≡ true
    → option_map asked_for asked ≡ s → asked ≡ Some x → (f : Fault) (a : yaml_c_answer)
    → new ≡ old
    → OrMemory emit_layers (IsOnwardAt (requested x) (most_on x.limit) at (all_events o)) (Err f)
    → Refuses f (pos 0) a → AnswersMeant (both (both o s) at) (EmitsOn old new) a
on_refused old new o s asked x at b v is on there so w e f a same h told =
    on_meant old new o s asked x at b v is on there so w e a
    (λ bs p q k. refused_answer emit_layers Emitter (IsOnward (requested x) (most_on x.limit) p (emitter_events bs)) (TellsOnward old new) f a (inl refl) (λ g t. (t, same))
    (⊎_map (λ m. m) (λ g. on_at (requested x) (most_on x.limit) o at bs p (Err f) q k g) h) told)

-- ---- the kind in the answer

onward_kind : (old new : yaml_c_stand) (r : Result (List ℕ × yaml_c_stand) Fault)
    (a : yaml_c_answer)
    → TellsOnward old new r a → ¬ (a.kind ≡ negsuc 0)
onward_kind old new (Ok o) a h = text_kind o.0 (pos 0) a h.0
onward_kind old new (Err f) a h = fault_kind f (pos 0) a h.0

-- The kind is -1 exactly where something that is given means nothing.
pub onward_exact : (given : yaml_c_parsed) (settings : yaml_c_settings)
    (stand old new : yaml_c_stand) (a : yaml_c_answer) (k : ℤ) → k ≡ a.kind
    → AnswersMeant (onward_meant given settings stand) (EmitsOn old new) a
    → IsExact (onward_meant given settings stand) k
onward_exact given settings stand old new a k q h =
    subst (λ z. IsExact (onward_meant given settings stand) z) (sym q)
    (exact (onward_meant given settings stand) (EmitsOn old new) a (λ m l. onward_kind old new l.result a l.told) h)
