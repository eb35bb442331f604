-- A scalar is restyled whatever style it was written in.
use Rattle.yaml_round_engine.proofs.styles.restyle.Goals as goal

pub returns-in-Scalar-clause-styled : goal.returns-in-Scalar-clause-styled
returns-in-Scalar-clause-styled c =
    rw c.in-Scalar.is (c.restyled_scalar.ensures.styled c.in-Scalar.quoted_implicit c.in-Scalar.style)
