use Rattle.std.proofs.Common.{inl}
use Rattle.yaml_emit_layout.proofs.Sinks.{grows_both, grows_by}
use Rattle.yaml_emit_output.proofs.Settling.{spelled_more, spelled_end}
use Rattle.yaml_emit_output.proofs.utf16.put_utf16.Goals as goal

pub loop-c-preserved : goal.loop-c-preserved
loop-c-preserved c =
    let items = c.in_ok-extend_from_slice.ensures.items in
    record {
      utf8 = c.in-Some.ensures.utf8;
      grown = grows_both _ _ _ c.loop-c.invariant.grown (grows_by _ _ _ items);
      rest = spelled_more c.args.encoding c.in-Some.c _ _ _ _ _ _ items c.utf16_of-count.ensures.bytes c.in-Some.ensures.letters c.loop-c.invariant.rest;
    }

pub returns : goal.returns
returns c = inl (spelled_end c.args.encoding _ _ _ c.in_default.ensures.letters c.loop-c.invariant.rest)
