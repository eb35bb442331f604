use Rattle.std.proofs.Common.{◌≡◌, ◌∙◌, true, false, sym}
use Rattle.std.proofs.lemmas.Result.{err_from_is_err_and}
use Rattle.yaml_scan_text.proofs.Words.{byte, is_blank}
use Rattle.yaml_scan_text.proofs.DirectiveLemmas.{blank_wrong, blanks_plain, end_wrong, handle_inside, handle_wrong, tag_read, uri_wrong}
use Rattle.yaml_scan_text.proofs.directive.tag_value.Goals as goal

pub returns-in_err-first_end-clause-value : goal.returns-in_err-first_end-clause-value
returns-in_err-first_end-clause-value c =
    let p = err_from_is_err_and c.from_residual.result c.from_residual.ensures.1 in
    rw (p.1, p.2) (handle_wrong c.args.text.now c.args.from c.skip_blanks-first.result c.args.arena.now.items c.args.arena.now.items c.in_err-first_end.field-0.0 c.skip_blanks-first.ensures c.in_err-first_end.ensures)

pub returns-then-not-is_blank-clause-value : goal.returns-then-not-is_blank-clause-value
returns-then-not-is_blank-clause-value c =
    let blank : is_blank (byte c.args.text.now c.in_ok-first_end.first_end) ≡ false = rw c.byte.ensures at (sym c.is_blank.ensures ∙ c.if-not-is_blank.true) in
    blank_wrong c.args.text.now c.args.from c.skip_blanks-first.result c.in_ok-first_end.first_end c.args.arena.now.items c.args.arena.now.items c.wrong_at.result c.skip_blanks-first.ensures c.in_ok-first_end.ensures blank c.wrong_at.ensures

pub some_uri-requires : goal.some_uri-requires
some_uri-requires c =
    rw c.skip_blanks-second.ensures (blanks_plain c.args.text.now c.in_ok-first_end.first_end (handle_inside c.args.text.now c.skip_blanks-first.result c.in_ok-first_end.first_end _ c.in_ok-first_end.ensures)).1

pub returns-in_err-prefix-clause-value : goal.returns-in_err-prefix-clause-value
returns-in_err-prefix-clause-value c =
    let blank : is_blank (byte c.args.text.now c.in_ok-first_end.first_end) ≡ true = rw c.byte.ensures at (sym c.is_blank.ensures ∙ c.if-not-is_blank.false) in
    let p = err_from_is_err_and c.from_residual-in_err-prefix.result c.from_residual-in_err-prefix.ensures.1 in
    rw (p.1, p.2) (uri_wrong c.args.text.now c.args.from c.skip_blanks-first.result c.in_ok-first_end.first_end c.skip_blanks-second.result c.args.arena.now.items c.some_uri.new.arena.items c.in_err-prefix.field-0.0 c.skip_blanks-first.ensures c.in_ok-first_end.ensures blank c.skip_blanks-second.ensures c.in_err-prefix.ensures.value)

pub returns-then-not-is_blank_or_end-clause-value
    : goal.returns-then-not-is_blank_or_end-clause-value
returns-then-not-is_blank_or_end-clause-value c =
    let blank : is_blank (byte c.args.text.now c.in_ok-first_end.first_end) ≡ true = rw c.byte.ensures at (sym c.is_blank.ensures ∙ c.if-not-is_blank.false) in
    end_wrong c.args.text.now c.args.from c.skip_blanks-first.result c.in_ok-first_end.first_end c.skip_blanks-second.result c.args.arena.now.items c.some_uri.new.arena.items c.in_ok-prefix.prefix c.wrong_at-then-not-is_blank_or_end.result c.skip_blanks-first.ensures c.in_ok-first_end.ensures blank c.skip_blanks-second.ensures c.in_ok-prefix.ensures.value (sym c.is_blank_or_end.ensures ∙ c.if-not-is_blank_or_end.true) c.wrong_at-then-not-is_blank_or_end.ensures

pub returns-clause-value : goal.returns-clause-value
returns-clause-value c =
    let blank : is_blank (byte c.args.text.now c.in_ok-first_end.first_end) ≡ true = rw c.byte.ensures at (sym c.is_blank.ensures ∙ c.if-not-is_blank.false) in
    tag_read c.args.text.now c.args.from c.skip_blanks-first.result c.in_ok-first_end.first_end c.skip_blanks-second.result c.args.arena.now.items c.some_uri.new.arena.items c.in_ok-prefix.prefix c.requires c.skip_blanks-first.ensures c.in_ok-first_end.ensures blank c.skip_blanks-second.ensures c.in_ok-prefix.ensures.value (sym c.is_blank_or_end.ensures ∙ c.if-not-is_blank_or_end.false)
