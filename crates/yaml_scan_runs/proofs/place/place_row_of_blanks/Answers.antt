use Rattle.std.proofs.Common.{ℕ, List, replicate, arith}
use Rattle.std.proofs.lemmas.Simd.{take_more_put_chunk, length-put_chunk}
use Rattle.yaml_scan_runs.proofs.place.place_row_of_blanks.Goals as goal

pub returns : goal.returns
returns c =
    let row : List ℕ = replicate 16 32 in
    record {
      bytes = take_more_put_chunk c.args.at c.args.buf.now row _ (omega arith) c.requires;
      moved = omega arith;
      len = length-put_chunk c.args.at c.args.buf.now row;
    }
