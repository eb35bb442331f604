-- Settings that were read are set again, except for one.
use mir.Syntax.{w32}
use mir.Val.{SFits, to_z, of_z}
use Rattle.std.proofs.Common.{◌≡◌, ◌∙◌, ap, ℤ}
use Rattle.std.proofs.lemmas.Int.{to_z-of_z}
use Rattle.yaml_emit_machine.specs.emit_layout.declared.RequestedSettings.{RequestedSettings}
use Rattle.yaml_emit_machine.specs.Emitter.{Emitter}

-- `put` is what becomes of them, `read` what was read; its numbers fit. Nothing is searched for, so that a wrong value fails by its
-- type.
pub set_again : (put : RequestedSettings → RequestedSettings) (old new : Emitter)
    (read : RequestedSettings) → SFits w32 (put read).indent → SFits w32 (put read).width
    → new ≡ record old {
      requested_settings = record (put read) {
        indent = to_z w32 (of_z w32 (put read).indent);
        width = to_z w32 (of_z w32 (put read).width);
      };
    }
    → read ≡ old.requested_settings
    → new ≡ record old { requested_settings = put old.requested_settings }
set_again put old new read i w set is =
    let P : ℤ → ℤ → Emitter = λ a b. record old { requested_settings = record (put read) { indent = a; width = b } } in
    let R : RequestedSettings → Emitter = λ s. record old { requested_settings = put s } in
    set
    ∙ ap (λ z. P z (to_z w32 (of_z w32 (put read).width))) (to_z-of_z w32 (put read).indent i)
    ∙ ap (λ z. P (put read).indent z) (to_z-of_z w32 (put read).width w)
    ∙ ap R is
