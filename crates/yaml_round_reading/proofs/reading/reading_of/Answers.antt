-- The events that a new parser gives are those of the input.
use Rattle.std.proofs.Common.{◌≡◌, ◌∙◌, None, Some, false, sym, subst, ap, ℕ, List}
use Rattle.yaml_parse.specs.declared.yaml_encoding_t.{yaml_encoding_t}
use Rattle.yaml_round_content.specs.scan_history.Remaining as scan
use Rattle.yaml_parse.specs.Resolve.{Reading, no_directives}
use Rattle.yaml_parse.specs.Machine.{initial}
use Rattle.yaml_round_reading.specs.Reading.{AreReal}
use Rattle.yaml_round_content.specs.Input.{tokens_of, parsed, read}
use Rattle.yaml_round_reading.proofs.Real.{read_real}
use Rattle.yaml_round_reading.proofs.reading.reading_of.Goals as goal

is_read : (from : yaml_encoding_t) (input : List ℕ) (c : scan.Remaining) → c ≡ tokens_of from input
    → parsed c ≡ read from input
unfolding read
is_read from input c e = ap parsed e

-- no token was shown
pub new-parser-requires : goal.new-parser-requires
new-parser-requires c = λ told. absurd (let bad : None ≡ Some false = sym c.in-Ok.ensures.unasked ∙ told in cc)

pub returns-in-Ok-clause-reads : goal.returns-in-Ok-clause-reads
returns-in-Ok-clause-reads c =
    let e = is_read c.args.text.now.from c.args.text.now.bytes c.in-Ok.tokens.coming c.in-Ok.ensures.comes in
    record { events = c.new-parser.ensures.events ∙ ap (λ (r : Reading). r.events) e; ending = c.new-parser.ensures.ending ∙ ap (λ (r : Reading). r.ending) e }

pub returns-in-Ok-clause-real : goal.returns-in-Ok-clause-real
returns-in-Ok-clause-real c =
    subst AreReal (sym c.new-parser.ensures.events) (read_real c.in-Ok.tokens.coming.tokens initial c.in-Ok.tokens.coming.fault no_directives)
