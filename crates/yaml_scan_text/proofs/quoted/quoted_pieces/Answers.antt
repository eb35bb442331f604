use Rattle.std.proofs.Common.{◌≡◌, ◌∙◌, true, length, sym}
use Rattle.yaml_scan_runs.specs.Runs.{RunsTo}
use Rattle.yaml_scan_text.proofs.Words.{byte}
use Rattle.yaml_scan_text.proofs.FoldsLemmas.{keeps_on}
use Rattle.yaml_scan_text.specs.QuotedRead.{closes, may_stop}
use Rattle.yaml_scan_text.proofs.QuotesRead.{read_behind, read_end, read_keep, read_on}
use Rattle.yaml_scan_text.proofs.quoted.quoted_pieces.Goals as goal

pub returns-then-closes-clause-value : goal.returns-then-closes-clause-value
returns-then-closes-clause-value c =
    let text = c.args.text.now in
    let quote = byte text c.args.start in
    let taken = read_on quote text c.args.start c.args.arena.now.items c.pieces.arena.items c.piece.new.arena.items c.pieces.read c.in_ok-taken.taken c.pieces.invariant.read (rw c.byte-quote.ensures at c.in_ok-taken.ensures.value) in
    let run : RunsTo (may_stop quote) text c.in_ok-taken.taken.at (length text) c.behind_run-read.result.at = rw c.byte-quote.ensures at c.behind_run-read.ensures.run in
    let read = read_behind quote text c.args.start c.args.arena.now.items c.piece.new.arena.items c.in_ok-taken.taken c.behind_run-read.result c.requires.quote taken run c.behind_run-read.ensures.narrow c.behind_run-read.ensures.same in
    let h : closes quote text c.behind_run-read.result.at ≡ true = rw c.byte-quote.ensures at (sym c.closes.ensures ∙ c.if-closes.true) in
    read_end quote text c.args.start c.args.arena.now.items c.piece.new.arena.items c.closed.new.arena.items c.behind_run-read.result c.closed.result c.requires.quote read h c.closed.ensures.value c.closed.ensures.scalar

pub returns-then-closes-clause-kept : goal.returns-then-closes-clause-kept
returns-then-closes-clause-kept c = keeps_on _ _ _ (keeps_on _ _ _ (read_keep _ _ _ _ _ _ c.pieces.invariant.read) c.in_ok-taken.ensures.kept) c.closed.ensures.kept

pub pieces-preserved : goal.pieces-preserved
pieces-preserved c =
    let text = c.args.text.now in
    let quote = byte text c.args.start in
    let taken = read_on quote text c.args.start c.args.arena.now.items c.pieces.arena.items c.piece.new.arena.items c.pieces.read c.in_ok-taken.taken c.pieces.invariant.read (rw c.byte-quote.ensures at c.in_ok-taken.ensures.value) in
    let run : RunsTo (may_stop quote) text c.in_ok-taken.taken.at (length text) c.behind_run-read.result.at = rw c.byte-quote.ensures at c.behind_run-read.ensures.run in
    let read = read_behind quote text c.args.start c.args.arena.now.items c.piece.new.arena.items c.in_ok-taken.taken c.behind_run-read.result c.requires.quote taken run c.behind_run-read.ensures.narrow c.behind_run-read.ensures.same in
    record { read = read; goes_on = rw c.byte-quote.ensures at (sym c.closes.ensures ∙ c.if-closes.false) }
