use Rattle.std.proofs.Common.{◌≡◌, ◌++◌, length, take, ap, ◌∙◌, arith, drop-drop, length-take-le}
use Rattle.std.proofs.lemmas.Simd.{put_chunk_is}
use Rattle.yaml_scan_runs.proofs.looks.copy_look.Goals as goal

pub returns-clause-copied : goal.returns-clause-copied
returns-clause-copied g c =
    let old = c.args.out.now in
    let row = take 16 c.args.text.now in
    let long : length row ≡ 16 = length-take-le 16 c.args.text.now c.requires.0 in
    record {
      bytes = put_chunk_is c.args.at old row (omega (arith, long, c.requires.1)) ∙ ap (λ l. take c.args.at old ++ (row ++ l)) (drop-drop (length row) c.args.at old);
    }
