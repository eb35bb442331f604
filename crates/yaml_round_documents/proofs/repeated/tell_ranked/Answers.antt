use Rattle.std.proofs.Common.{length, pos, arith}
use Rattle.yaml_parse_model.specs.declared.yaml_node_pair_t.{yaml_node_pair_t}
use Rattle.yaml_round_documents.specs.Telling.{label_by}
use Rattle.yaml_round_documents.proofs.Meeting.{so_far_none, so_far_next, so_far_all, pair_id}
use Rattle.yaml_round_documents.proofs.repeated.tell_ranked.Goals as goal

pub loop-place-init : goal.loop-place-init
loop-place-init c = so_far_none c.args.document.now.nodes (label_by c.args.ranks.now) c.args.pairs.now c.args.told.now.items c.new-met.result c.new-met.ensures

pub tell_key-requires : goal.tell_key-requires
tell_key-requires c = record { id = pair_id (length c.args.document.now.nodes) c.args.pairs.now c.loop-place.place _ c.requires.pairs (omega arith) }

pub loop-place-preserved : goal.loop-place-preserved
loop-place-preserved c =
    let nodes = c.args.document.now.nodes in
    let d : yaml_node_pair_t = record { key = pos 0; value = pos 0 } in
    let id = pair_id (length nodes) c.args.pairs.now c.loop-place.place d c.requires.pairs (omega arith) in
    so_far_next nodes (label_by c.args.ranks.now) c.args.pairs.now c.args.told.now.items c.loop-place.place d c.loop-place.met c.tell_key.new.met c.loop-place.told.items c.tell_key.new.told.items c.loop-place.invariant (omega arith) id c.in_ok-tell_key.ensures

pub returns : goal.returns
returns c =
    so_far_all c.args.document.now.nodes c.args.ranks.now c.args.pairs.now c.args.told.now.items c.loop-place.place c.loop-place.met c.loop-place.told.items c.loop-place.invariant (omega arith) c.requires.pairs c.requires.tells
