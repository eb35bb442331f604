-- The front and the piece that the output took next are a longer front.
use Rattle.std.proofs.Common.{arith, rules, ◌-◌, length, drop, length-drop}
use Rattle.std.proofs.lemmas.List.{take_all}
use Rattle.std.proofs.Math.Seq.{take-add}
use Rattle.std.proofs.KnownBytes.{Appends-trans}
use Rattle.yaml_round_device.proofs.putting.put_all.Goals as goal

pub loop-written-preserved : goal.loop-written-preserved
loop-written-preserved g c =
    let text = c.args.text.now in
    let at = c.loop-written.written in
    let whole = take_all (length text - at) (drop at text) (omega (arith, length-drop at text)) in
    record {
      within = omega (arith, c.in-Ok.ensures.bound, length-drop at text);
      front = rw take-add (Appends-trans _ _ _ _ _ c.loop-written.invariant.front (rw whole at c.in-Ok.ensures.bytes));
      sound = search rules;
    }
