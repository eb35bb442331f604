use Rattle.std.proofs.Common.{rules, ◌≡◌, ◌≤◌, length, subst}
use Rattle.std.specs.Prelude.{◌⊎◌}
use Rattle.yaml_round_documents.proofs.Streaming.{least, stream_told}
use Rattle.yaml_round_documents.proofs.streams.stream_differences.Goals as goal

pub returns : goal.returns
returns c =
    let ds = c.args.first.now.items in
    let es = c.args.second.now.items in
    let k = c.min-common.result in
    let first : c.len.result ≡ length ds = search rules in
    let second : c.len-2.result ≡ length es = search rules in
    let all = (least c.len.result c.len-2.result k c.min-common.ensures).2 in
    stream_told ds es k (record { pairs = c.new.result; told = c.new-2.result }) c.tell_common.new.stream c.tell_rest.new.told.items c.tell_rest-2.new.told.items c.in_ok-tell_common.ensures c.new.ensures.items c.new-2.ensures.items
    (subst (λ z. (z ≤ k) ⊎ (length es ≤ k)) first (subst (λ z. (c.len.result ≤ k) ⊎ (z ≤ k)) second all))
    c.in_ok-tell_rest.ensures c.in_ok-tell_rest-2.ensures
