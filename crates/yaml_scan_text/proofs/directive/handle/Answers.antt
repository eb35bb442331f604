use Rattle.std.proofs.Common.{◌≡◌, ◌≢◌, ◌∙◌, sym, arith}
use Rattle.yaml_scan_text.proofs.Words.{byte}
use Rattle.yaml_scan_text.proofs.DirectiveLemmas.{handle_bare, handle_named}
use Rattle.yaml_scan_text.proofs.directive.handle.Goals as goal

pub returns-then-byte-eq33 : goal.returns-then-byte-eq33
returns-then-byte-eq33 c =
    let mark : byte c.args.text.now c.args.from ≡ 33 = omega (arith, c.byte.ensures, c.if-byte-ne33.false) in
    handle_named c.args.text.now c.args.from c.alphas-end.result mark c.alphas-end.ensures (sym c.byte-2.ensures ∙ c.if-byte-eq33.true)

pub returns : goal.returns
returns c =
    let mark : byte c.args.text.now c.args.from ≡ 33 = omega (arith, c.byte.ensures, c.if-byte-ne33.false) in
    let other : byte c.args.text.now c.alphas-end.result ≢ 33 = rw c.byte-2.ensures at c.if-byte-eq33.false in
    let same = c.if-end-from.false in
    handle_bare c.args.text.now c.args.from c.alphas-end.result mark c.alphas-end.ensures other (omega arith)
