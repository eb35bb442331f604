use Rattle.std.proofs.Common.{Option, subst}
use Rattle.std.specs.Prelude.{Ok}
use Rattle.yaml_emit_graph.specs.declared.walk.Turn.{Turn}
use Rattle.yaml_emit_graph.specs.Walk.{Comes}
use Rattle.yaml_emit_graph.proofs.Walking.{fresh_walk, none_left}
use Rattle.yaml_emit_graph.proofs.Counting.{numbered_start, numbers_start, numbers_more, numbers_done, turns_start, turns_more, turns_done}
use Rattle.yaml_emit_graph.proofs.numbers.walk_nodes.Goals as goal

pub loop-turns-init : goal.loop-turns-init
loop-turns-init g c =
    let w = fresh_walk _ _ _ c.count-count.ensures c.in_ok-walk.ensures.0 c.in_ok-walk.ensures.1 c.in_ok-walk.ensures.2 in
    record {
      walk = w.0;
      met = turns_start _ _ _ c.in_ok-turns.ensures.items w.1;
      given = numbered_start _ _ c.in_ok-numbers.ensures;
      same = numbers_start _ _ _ _ c.in_ok-numbers.ensures c.count-count.ensures w.1;
    }

pub loop-turns-preserved : goal.loop-turns-preserved
loop-turns-preserved g c =
    let P : Option Turn → Type 0 = λ z. Comes (g.G.Walkable.nodes c.args.graph.now) c.loop-turns.walk (Ok z) c.next.new.self in
    let m = subst P c.in-Some.is c.in_ok-turn.ensures in
    record {
      walk = m.1;
      met = turns_more _ _ _ _ _ _ c.loop-turns.invariant.met m.0 c.in_ok-push.ensures.items;
      given = c.number_turn.ensures.numbers;
      same = numbers_more _ _ _ _ _ _ c.loop-turns.invariant.same m.0 c.number_turn.ensures.gives;
    }

pub returns : goal.returns
returns g c =
    let none = none_left _ _ _ _ c.in_default.not-Some c.in_ok-turn.ensures in
    (turns_done _ _ _ c.loop-turns.invariant.met none, numbers_done _ _ _ c.loop-turns.invariant.same none)
