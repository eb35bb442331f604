use Rattle.std.proofs.Common.{◌≡◌, ◌-◌, ◌∙◌, ◌||◌, sym, true, false}
use Rattle.yaml_scan_text.proofs.Words.{byte, is_blank, is_colon, stops, false≢true}
use Rattle.yaml_scan_text.proofs.PlainLemmas.{seen_first, seen_more, seen_run, starts_byte, starts_first, starts_run}
use Rattle.yaml_scan_text.proofs.PlainStops.{line_done, line_one}
use Rattle.yaml_scan_text.proofs.plain.plain_line.Goals as goal
use Rattle.yaml_scan_text.proofs.plain.plain_line.Goals.{then-colon-via-then-colon, then-colon-via-else-colon+then-stops}

pub pieces-init : goal.pieces-init
pieces-init c = record { seen = seen_first c.args.flow c.args.text.now c.args.first c.requires; narrow = starts_first c.args.text.now c.args.first c.requires }

pub pieces-preserved : goal.pieces-preserved
pieces-preserved c =
    let flow = c.args.flow in
    let text = c.args.text.now in
    let first = c.args.first in
    let at = c.plain_run-part.result.end in
    let seen = seen_run flow text first c.pieces.at at c.pieces.invariant.seen c.plain_run-part.ensures.run in
    let narrow = starts_run text first c.pieces.at at c.pieces.wide c.plain_run-part.result.wide c.pieces.invariant.narrow c.plain_run-part.ensures.narrow in
    record {
      seen = seen_more flow text first at seen (sym c.is_colon-colon.ensures ∙ c.if-colon.false) (sym c.stops.ensures ∙ c.if-stops.false);
      narrow = starts_byte text first at (c.pieces.wide || c.plain_run-part.result.wide) narrow;
    }

pub returns-then-colon-clause-line : goal.returns-then-colon-clause-line
returns-then-colon-clause-line c =
    let flow = c.args.flow in
    let text = c.args.text.now in
    let first = c.args.first in
    let at = c.plain_run-part.result.end in
    let seen = seen_run flow text first c.pieces.at at c.pieces.invariant.seen c.plain_run-part.ensures.run in
    let narrow = starts_run text first c.pieces.at at c.pieces.wide c.plain_run-part.result.wide c.pieces.invariant.narrow c.plain_run-part.ensures.narrow in
    let stop : is_colon text at ≡ false → stops flow (is_blank (byte text (at - 1))) text at ≡ true = elim c.then-colon.branch [
      | then-colon-via-then-colon w ↦ λ f. absurd (false≢true (sym f ∙ (sym c.is_colon-colon.ensures ∙ w.if-colon.true)))
      | then-colon-via-else-colon+then-stops w ↦ λ f. sym w.stops.ensures ∙ w.if-stops.true
    ] in
    line_done flow text first at c.trim_blanks.result _ c.is_colon-colon.result seen c.requires c.trim_blanks.ensures narrow c.is_colon-colon.ensures stop

pub returns-then-colon-clause-one : goal.returns-then-colon-clause-one
returns-then-colon-clause-one c =
    let flow = c.args.flow in
    let text = c.args.text.now in
    let first = c.args.first in
    let at = c.plain_run-part.result.end in
    let seen = seen_run flow text first c.pieces.at at c.pieces.invariant.seen c.plain_run-part.ensures.run in
    let narrow = starts_run text first c.pieces.at at c.pieces.wide c.plain_run-part.result.wide c.pieces.invariant.narrow c.plain_run-part.ensures.narrow in
    let stop : is_colon text at ≡ false → stops flow (is_blank (byte text (at - 1))) text at ≡ true = elim c.then-colon.branch [
      | then-colon-via-then-colon w ↦ λ f. absurd (false≢true (sym f ∙ (sym c.is_colon-colon.ensures ∙ w.if-colon.true)))
      | then-colon-via-else-colon+then-stops w ↦ λ f. sym w.stops.ensures ∙ w.if-stops.true
    ] in
    let is = line_done flow text first at c.trim_blanks.result _ c.is_colon-colon.result seen c.requires c.trim_blanks.ensures narrow c.is_colon-colon.ensures stop in
    line_one flow text first _ c.requires.inside is
