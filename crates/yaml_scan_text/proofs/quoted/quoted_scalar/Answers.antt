use Rattle.std.proofs.Common.{◌≡◌, ◌+◌, ◌∙◌, true, false, length, refl, sym}
use Rattle.yaml_scan_runs.specs.Runs.{RunsTo}
use Rattle.yaml_scan_text.proofs.Words.{byte}
use Rattle.yaml_scan_text.specs.QuotedRead.{closes, may_stop}
use Rattle.yaml_scan_text.proofs.QuotesRead.{read_first, read_once, read_run}
use Rattle.yaml_scan_text.proofs.quoted.quoted_scalar.Goals as goal

pub returns-then-closes-clause-value : goal.returns-then-closes-clause-value
returns-then-closes-clause-value c =
    let text = c.args.text.now in
    let quote = byte text c.args.start in
    let read = read_first text c.args.start c.args.line c.args.arena.now.items c.requires.quote c.requires.whole c.requires.line in
    let run : RunsTo (may_stop quote) text (c.args.start + 1) (length text) c.quoted_run-first.result.end = rw c.byte-quote.ensures at c.quoted_run-first.ensures.run in
    let passed = read_run quote text c.args.start c.args.arena.now.items c.args.arena.now.items (record { from = c.args.start + 1; at = c.args.start + 1; line = c.args.line; wide = false }) c.quoted_run-first.result.end c.quoted_run-first.result.wide c.requires.quote read run (λ h. (refl, c.quoted_run-first.ensures.narrow h)) in
    let h : closes quote text c.quoted_run-first.result.end ≡ true = rw c.byte-quote.ensures at (sym c.closes.ensures ∙ c.if-closes.true) in
    read_once quote text c.args.start c.args.arena.now.items c.quoted_run-first.result.end c.args.line c.quoted_run-first.result.wide c.requires.quote passed h

pub quoted_pieces-requires-clause-read : goal.quoted_pieces-requires-clause-read
quoted_pieces-requires-clause-read c =
    let text = c.args.text.now in
    let quote = byte text c.args.start in
    let read = read_first text c.args.start c.args.line c.args.arena.now.items c.requires.quote c.requires.whole c.requires.line in
    let run : RunsTo (may_stop quote) text (c.args.start + 1) (length text) c.quoted_run-first.result.end = rw c.byte-quote.ensures at c.quoted_run-first.ensures.run in
    let passed = read_run quote text c.args.start c.args.arena.now.items c.args.arena.now.items (record { from = c.args.start + 1; at = c.args.start + 1; line = c.args.line; wide = false }) c.quoted_run-first.result.end c.quoted_run-first.result.wide c.requires.quote read run (λ h. (refl, c.quoted_run-first.ensures.narrow h)) in
    passed
