use Rattle.yaml_emit_scalars.proofs.Words.{as_plain, as_single, as_double}
use Rattle.yaml_emit_scalars.proofs.word.put_word.Goals as goal

pub returns-in-Plain-clause-whole : goal.returns-in-Plain-clause-whole
returns-in-Plain-clause-whole c = λ h. let m = c.args.manner in as_plain c.args.page m.digit m.flow m.style m.marked _ _ _ c.in-Plain.is c.requires.marked (c.put_plain_word.ensures.whole h)

pub returns-in-Single-clause-whole : goal.returns-in-Single-clause-whole
returns-in-Single-clause-whole c = λ h. let m = c.args.manner in as_single c.args.page m.digit m.flow m.style m.marked _ _ c.args.value.now c.in-Single.is c.requires.on.width (c.put_quoted.ensures.run h) (c.put_quoted.ensures.whole h)

pub returns-in-Double-clause-whole : goal.returns-in-Double-clause-whole
returns-in-Double-clause-whole c = λ h. let m = c.args.manner in as_double c.args.page m.digit m.flow m.style m.marked _ _ _ c.args.value.now c.in-Double.is c.quoted_in-body.ensures c.requires.on.width (c.put_quoted-in-Double.ensures.run h) (c.put_quoted-in-Double.ensures.whole h)

pub returns-in-Plain-clause-is : goal.returns-in-Plain-clause-is
returns-in-Plain-clause-is c = rw c.in-Plain.is c.put_plain_word.ensures.is

pub returns-in-Single-clause-is : goal.returns-in-Single-clause-is
returns-in-Single-clause-is c = rw c.in-Single.is c.put_quoted.ensures.is

pub returns-in-Double-clause-is : goal.returns-in-Double-clause-is
returns-in-Double-clause-is c = rw c.in-Double.is (rw c.quoted_in-body.ensures at c.put_quoted-in-Double.ensures.is)
