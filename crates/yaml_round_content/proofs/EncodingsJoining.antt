-- Two spellings of one text are read alike.
use Rattle.std.proofs.Common.{◌≡◌, ℕ, List, Option, Result, sym, ap, subst}
use Rattle.yaml_round_content.proofs.Words.{yaml_encoding_t, Offence, encoding_of, Fault, Spells, scanned_in, Remaining, offline, adapted, run, initial, Reading, reading, no_directives, read, EncodingsDoNotMatter, spells_decoded, parsed}
use Rattle.yaml_round_content.proofs.EncodingsTokens.{spelled, Resembles, adapted_alike}
use Rattle.yaml_round_content.proofs.EncodingsEvents.{SaysAlike, IsLikeOutcome, run_alike, read_alike}

-- the reading of a text as if its bytes were in that encoding
abbrev reading_in : yaml_encoding_t → List ℕ → Reading
reading_in x text = parsed (adapted (offline (spelled x text)))

read_is : (from : yaml_encoding_t) (input text : List ℕ) → Spells from input text
    → read from input ≡ reading_in (encoding_of from input) text
unfolding read
read_is from input text h = ap (λ (d : Result (List ℕ) Offence). parsed (adapted (scanned_in (encoding_of from input) d))) (spells_decoded from input text h)

parsed_alike : (c d : Remaining) → Resembles c d → SaysAlike (parsed c) (parsed d)
parsed_alike c d (h, e) =
    let o : IsLikeOutcome (run c.tokens initial c.fault) (run d.tokens initial d.fault) =
    subst (λ (f : Option Fault). IsLikeOutcome (run c.tokens initial c.fault) (run d.tokens initial f)) e (run_alike c.tokens d.tokens initial c.fault h) in
    subst (λ (f : Option Fault). SaysAlike (parsed c) (reading (run d.tokens initial d.fault).items f no_directives)) o.1
    (read_alike (run c.tokens initial c.fault).items (run d.tokens initial d.fault).items (run c.tokens initial c.fault).ending no_directives o.0)

pub no_matter : EncodingsDoNotMatter
no_matter a_from b_from a b text h k =
    let x = encoding_of a_from a in
    let y = encoding_of b_from b in
    let said = parsed_alike (adapted (offline (spelled x text))) (adapted (offline (spelled y text))) (adapted_alike x y text) in
    subst (λ (r : Reading). SaysAlike (read a_from a) r) (sym (read_is b_from b text k)) (subst (λ (r : Reading). SaysAlike r (reading_in y text)) (sym (read_is a_from a text h)) said)
