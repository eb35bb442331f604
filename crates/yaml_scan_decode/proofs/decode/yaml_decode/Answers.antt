use Rattle.std.proofs.Common.{◌≡◌, ◌∙◌, refl, sym, ap, arith, inr}
use Rattle.std.proofs.lemmas.Bool.{false≢true}
use Rattle.yaml_scan_types.specs.Faults.{fault_of}
use Rattle.yaml_scan_model.specs.declared.name.yaml_encoding_t.TheVariants.{YAML_UTF8_ENCODING}
use Rattle.yaml_scan_decode.specs.Encodings.{encoding_of}
use Rattle.yaml_scan_decode.proofs.CompleteLemmas.{encoding_utf8, checked_text, checked_offence, take_rest, decoded_spells}
use Rattle.yaml_scan_decode.specs.DecodedText as text
use Rattle.yaml_scan_decode.proofs.AnswerLemmas.{units_text, units_fault, units_spelled, units_unspelled, fault_unspelled}
use Rattle.yaml_scan_decode.proofs.decode.yaml_decode.Goals as goal
use Rattle.yaml_scan_decode.proofs.decode.yaml_decode.Goals.{In_default}

pub returns-in-YAML_UTF16LE_ENCODING-clause-text : goal.returns-in-YAML_UTF16LE_ENCODING-clause-text
returns-in-YAML_UTF16LE_ENCODING-clause-text c =
    units_text _ _ _ _ _ (sym c.stream_encoding.ensures ∙ c.in-YAML_UTF16LE_ENCODING.is) (sym c.removed_mark_length-start.ensures.value) c.decode_units.ensures.text

pub returns-in-YAML_UTF16LE_ENCODING-clause-fault :
    goal.returns-in-YAML_UTF16LE_ENCODING-clause-fault
returns-in-YAML_UTF16LE_ENCODING-clause-fault c =
    units_fault _ _ _ _ _ (sym c.stream_encoding.ensures ∙ c.in-YAML_UTF16LE_ENCODING.is) (sym c.removed_mark_length-start.ensures.value) c.decode_units.ensures.fault

pub returns-in-YAML_UTF16BE_ENCODING-clause-text : goal.returns-in-YAML_UTF16BE_ENCODING-clause-text
returns-in-YAML_UTF16BE_ENCODING-clause-text c =
    units_text _ _ _ _ _ (sym c.stream_encoding.ensures ∙ c.in-YAML_UTF16BE_ENCODING.is) (sym c.removed_mark_length-start.ensures.value) c.decode_units-in-YAML_UTF16BE_ENCODING.ensures.text

pub returns-in-YAML_UTF16BE_ENCODING-clause-fault :
    goal.returns-in-YAML_UTF16BE_ENCODING-clause-fault
returns-in-YAML_UTF16BE_ENCODING-clause-fault c =
    units_fault _ _ _ _ _ (sym c.stream_encoding.ensures ∙ c.in-YAML_UTF16BE_ENCODING.is) (sym c.removed_mark_length-start.ensures.value) c.decode_units-in-YAML_UTF16BE_ENCODING.ensures.fault

pub returns-in-YAML_UTF16LE_ENCODING-clause-spelled :
    goal.returns-in-YAML_UTF16LE_ENCODING-clause-spelled
returns-in-YAML_UTF16LE_ENCODING-clause-spelled c =
    units_spelled _ _ _ _ _ (λ k. omega (arith, c.type_inv.input k)) (sym c.stream_encoding.ensures ∙ c.in-YAML_UTF16LE_ENCODING.is) (sym c.removed_mark_length-start.ensures.value)
    c.decode_units.ensures.text

pub returns-in-YAML_UTF16LE_ENCODING-clause-unspelled :
    goal.returns-in-YAML_UTF16LE_ENCODING-clause-unspelled
returns-in-YAML_UTF16LE_ENCODING-clause-unspelled c =
    units_unspelled _ _ _ _ _ (sym c.stream_encoding.ensures ∙ c.in-YAML_UTF16LE_ENCODING.is) (sym c.removed_mark_length-start.ensures.value) c.decode_units.ensures.fault

pub returns-in-YAML_UTF16BE_ENCODING-clause-spelled :
    goal.returns-in-YAML_UTF16BE_ENCODING-clause-spelled
returns-in-YAML_UTF16BE_ENCODING-clause-spelled c =
    units_spelled _ _ _ _ _ (λ k. omega (arith, c.type_inv.input k)) (sym c.stream_encoding.ensures ∙ c.in-YAML_UTF16BE_ENCODING.is) (sym c.removed_mark_length-start.ensures.value)
    c.decode_units-in-YAML_UTF16BE_ENCODING.ensures.text

pub returns-in-YAML_UTF16BE_ENCODING-clause-unspelled :
    goal.returns-in-YAML_UTF16BE_ENCODING-clause-unspelled
returns-in-YAML_UTF16BE_ENCODING-clause-unspelled c =
    units_unspelled _ _ _ _ _ (sym c.stream_encoding.ensures ∙ c.in-YAML_UTF16BE_ENCODING.is) (sym c.removed_mark_length-start.ensures.value) c.decode_units-in-YAML_UTF16BE_ENCODING.ensures.fault

pub returns-in-YAML_UTF16LE_ENCODING-clause-held :
    goal.returns-in-YAML_UTF16LE_ENCODING-clause-held
returns-in-YAML_UTF16LE_ENCODING-clause-held c = rw (sym c.stream_encoding.ensures ∙ c.in-YAML_UTF16LE_ENCODING.is) c.decode_units.ensures.held

pub returns-in-YAML_UTF16LE_ENCODING-clause-no_memory :
    goal.returns-in-YAML_UTF16LE_ENCODING-clause-no_memory
returns-in-YAML_UTF16LE_ENCODING-clause-no_memory c = λ same.
    absurd (false≢true (sym (ap text.is_utf8 (sym c.stream_encoding.ensures ∙ c.in-YAML_UTF16LE_ENCODING.is)) ∙ ap text.is_utf8 same))

pub returns-in-YAML_UTF16BE_ENCODING-clause-held :
    goal.returns-in-YAML_UTF16BE_ENCODING-clause-held
returns-in-YAML_UTF16BE_ENCODING-clause-held c = rw (sym c.stream_encoding.ensures ∙ c.in-YAML_UTF16BE_ENCODING.is) c.decode_units-in-YAML_UTF16BE_ENCODING.ensures.held

pub returns-in-YAML_UTF16BE_ENCODING-clause-no_memory :
    goal.returns-in-YAML_UTF16BE_ENCODING-clause-no_memory
returns-in-YAML_UTF16BE_ENCODING-clause-no_memory c = λ same.
    absurd (false≢true (sym (ap text.is_utf8 (sym c.stream_encoding.ensures ∙ c.in-YAML_UTF16BE_ENCODING.is)) ∙ ap text.is_utf8 same))

-- in the last arm the bytes are UTF-8
is_utf8 : (c : In_default) → encoding_of c.args.encoding c.args.input.now ≡ YAML_UTF8_ENCODING
is_utf8 c = encoding_utf8 _ _ (λ x. c.in_default.not-YAML_UTF16LE_ENCODING (c.stream_encoding.ensures ∙ x)) (λ x. c.in_default.not-YAML_UTF16BE_ENCODING (c.stream_encoding.ensures ∙ x))

pub returns-in-Ok-clause-text : goal.returns-in-Ok-clause-text
returns-in-Ok-clause-text c =
    let t = checked_text c.args.encoding c.args.input.now (λ k. omega (arith, c.type_inv.input k)) (is_utf8 (goal.at.returns-in-Ok-clause-text c).In_default) (rw c.removed_mark_length-start.ensures.value at (sym c.in-Ok.ensures)) in
    rw (take_rest c.args.input.now c.removed_mark_length-start.result, c.removed_mark_length-start.ensures.value) t

pub returns-in-Ok-clause-held : goal.returns-in-Ok-clause-held
returns-in-Ok-clause-held c = rw (is_utf8 (goal.at.returns-in-Ok-clause-held c).In_default) refl

pub returns-in-Ok-clause-spelled : goal.returns-in-Ok-clause-spelled
returns-in-Ok-clause-spelled c = decoded_spells _ _ _ (λ k. omega (arith, c.type_inv.input k)) (returns-in-Ok-clause-text c)

pub returns-in-Err-clause-fault : goal.returns-in-Err-clause-fault
returns-in-Err-clause-fault c =
    let o = checked_offence c.args.encoding c.args.input.now _ (is_utf8 (goal.at.returns-in-Err-clause-fault c).In_default) (rw c.removed_mark_length-start.ensures.value at (sym c.in-Err.ensures)) in
    inr (rw (o, c.located.ensures) refl)

pub returns-in-Err-clause-no_memory : goal.returns-in-Err-clause-no_memory
returns-in-Err-clause-no_memory c = λ same.
    let o = checked_offence c.args.encoding c.args.input.now _ same (rw c.removed_mark_length-start.ensures.value at (sym c.in-Err.ensures)) in
    rw (o, c.located.ensures) refl

pub returns-in-Err-clause-unspelled : goal.returns-in-Err-clause-unspelled
returns-in-Err-clause-unspelled c =
    let o = checked_offence c.args.encoding c.args.input.now _ (is_utf8 (goal.at.returns-in-Err-clause-unspelled c).In_default) (rw c.removed_mark_length-start.ensures.value at (sym c.in-Err.ensures)) in
    inr (fault_unspelled _ _ (fault_of c.located.result) (rw (o, c.located.ensures) refl))
