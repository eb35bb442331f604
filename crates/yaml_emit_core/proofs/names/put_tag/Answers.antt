use Rattle.yaml_emit_core.proofs.names.put_tag.Goals as goal

pub returns-in-Primary : goal.returns-in-Primary
returns-in-Primary c = rw c.in-Primary.is c.put_shorthand.ensures

pub returns-in-Secondary : goal.returns-in-Secondary
returns-in-Secondary c = rw c.in-Secondary.is c.put_shorthand-in-Secondary.ensures

pub returns-in-Shorthand : goal.returns-in-Shorthand
returns-in-Shorthand c = rw c.in-Shorthand.is c.put_shorthand-in-Shorthand.ensures

pub returns-in-Verbatim : goal.returns-in-Verbatim
returns-in-Verbatim c = rw c.in-Verbatim.is c.put_verbatim.ensures
