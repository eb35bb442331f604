use Rattle.yaml_scan_types.proofs.class.IS_PRINTABLE.Goals as goal

pub returns : goal.returns
returns c = rw (← c.byte_here.ensures, ← c.byte_at.ensures, ← c.byte_at-2.ensures) c.is_printable_of.ensures
