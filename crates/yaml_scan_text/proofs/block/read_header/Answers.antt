use Rattle.std.proofs.Common.{◌≡◌, ◌<◌, ◌∙◌, sym, inl, inr, refl, arith}
use Rattle.yaml_scan_text.proofs.Words.{byte}
use Rattle.yaml_scan_history.specs.Header.{chomp_of, chomping_place, digit_of}
use Rattle.yaml_scan_text.proofs.TextLemmas.{break_within}
use Rattle.yaml_scan_text.proofs.BlockLemmas.{header_zero, header_wrong, header_done, header_line}
use Rattle.yaml_scan_text.proofs.block.read_header.Goals as goal

pub returns-then-byte-eq48 : goal.returns-then-byte-eq48
returns-then-byte-eq48 c =
    let digit = rw (c.is_chomping.ensures, c.byte.ensures) at c.behind_if-digit.ensures in
    header_zero c.args.text.now c.args.at c.behind_if-digit.result c.wrong_at.result digit (sym c.byte-2.ensures ∙ c.if-byte-eq48.true) c.wrong_at.ensures

pub returns-then-is_text : goal.returns-then-is_text
returns-then-is_text c =
    let digit = rw (c.is_chomping.ensures, c.byte.ensures) at c.behind_if-digit.ensures in
    let some = rw c.byte-2.ensures at c.if-byte-eq48.false in
    header_wrong c.args.text.now c.args.at c.behind_if-digit.result c.header_end-end.result c.wrong_at-then-is_text.result digit some c.header_end-end.ensures (sym c.is_text.ensures ∙ c.if-is_text.true) c.wrong_at-then-is_text.ensures

pub overflow_add-result : goal.overflow_add-result
overflow_add-result c =
    elim (break_within c.args.text.now c.header_end-end.result) [
      | inl z ↦ omega arith
      | inr l ↦ omega arith
    ]

pub line_behind-requires : goal.line_behind-requires
line_behind-requires c = rw c.header_end-end.ensures (header_line c.args.text.now c.args.at c.args.line c.requires.inside c.requires.whole c.requires.line)

pub returns : goal.returns
returns c =
    let text = c.args.text.now in
    let digit = rw (c.is_chomping.ensures, c.byte.ensures) at c.behind_if-digit.ensures in
    let chomp : c.behind_if-chomp.result ≡ chomping_place text c.args.at = rw (c.is_digit.ensures, c.byte-3.ensures) at c.behind_if-chomp.ensures in
    let some = rw c.byte-2.ensures at c.if-byte-eq48.false in
    let chomp_is : c.chomp_of.result ≡ chomp_of (byte text (chomping_place text c.args.at)) = rw (c.byte-4.ensures, chomp) at c.chomp_of.ensures in
    let digit_is : c.digit_of.result ≡ digit_of (byte text c.behind_if-digit.result) = rw c.byte-5.ensures at c.digit_of.ensures.value in
    let small : digit_of (byte text c.behind_if-digit.result) < 10 = rw digit_is at c.digit_of.ensures.small in
    let line = c.line_behind.ensures in
    header_done text c.args.at c.behind_if-digit.result c.header_end-end.result c.line_behind.result _ c.requires.inside c.requires.whole digit some c.header_end-end.ensures (sym c.is_text.ensures ∙ c.if-is_text.false) (rw (chomp_is, digit_is, c.break_width.ensures) refl) small line
