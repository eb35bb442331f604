use Rattle.std.proofs.Common.{◌≡◌, length, take, arith, length-take-le}
use Rattle.std.proofs.lemmas.Simd.{take_more_put_chunk, length-put_chunk}
use Rattle.yaml_scan_runs.proofs.place.place_front.Goals as goal

pub returns : goal.returns
returns g c =
    let front = take g.row.N c.args.text.now in
    let long : length front ≡ g.row.N = length-take-le g.row.N c.args.text.now c.requires.0 in
    record {
      bytes = take_more_put_chunk c.args.at c.args.buf.now front _ (omega arith) c.requires.1;
      moved = omega arith;
      len = length-put_chunk c.args.at c.args.buf.now front;
    }
