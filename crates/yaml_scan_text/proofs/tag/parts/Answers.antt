use Rattle.std.proofs.Common.{◌≢◌, ◌+◌, ◌∙◌, sym}
use Rattle.yaml_scan_text.proofs.Words.{byte}
use Rattle.yaml_scan_text.proofs.TagsLemmas.{parts_bare, parts_named, parts_verbatim}
use Rattle.yaml_scan_text.proofs.tag.parts.Goals as goal

pub returns-then-byte-eq60-clause-value : goal.returns-then-byte-eq60-clause-value
returns-then-byte-eq60-clause-value c = rw (parts_verbatim c.args.text.now c.args.start (sym c.byte.ensures ∙ c.if-byte-eq60.true)) c.verbatim.ensures.value

pub returns-then-byte-eq33-clause-value : goal.returns-then-byte-eq33-clause-value
returns-then-byte-eq33-clause-value c =
    let other : byte c.args.text.now (c.args.start + 1) ≢ 60 = rw c.byte.ensures at c.if-byte-eq60.false in
    rw (parts_named c.args.text.now c.args.start c.alphas-name.result other c.alphas-name.ensures (sym c.byte-2.ensures ∙ c.if-byte-eq33.true)) c.named.ensures.value

pub returns-clause-value : goal.returns-clause-value
returns-clause-value c =
    let other : byte c.args.text.now (c.args.start + 1) ≢ 60 = rw c.byte.ensures at c.if-byte-eq60.false in
    let mark : byte c.args.text.now c.alphas-name.result ≢ 33 = rw c.byte-2.ensures at c.if-byte-eq33.false in
    rw (parts_bare c.args.text.now c.args.start c.alphas-name.result other c.alphas-name.ensures mark) c.bare.ensures.value
