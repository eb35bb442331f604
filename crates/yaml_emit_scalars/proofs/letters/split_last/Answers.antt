use Rattle.std.proofs.Common.{sym, ◌∙◌, ap, encode_utf8, ◌++◌, length}
use Rattle.yaml_emit_scalars.proofs.Spells.{last_of, none_of}
use Rattle.yaml_emit_scalars.proofs.letters.split_last.Goals as goal

pub returns-in-None-clause-letters : goal.returns-in-None-clause-letters
returns-in-None-clause-letters c = none_of _ (ap length (sym c.chars-letters.ensures.rest) ∙ c.in-None.ensures.steps.0)

pub returns-in-Some-clause-letters : goal.returns-in-Some-clause-letters
returns-in-Some-clause-letters c =
    last_of _ _ _ c.utf8.text c.as_str.utf8 (sym c.chars-letters.ensures.rest ∙ c.in-Some.ensures.steps ∙ ap (λ t. t ++ encode_utf8 c.in-Some.c) (sym c.as_str.ensures))
