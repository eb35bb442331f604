-- The tokens of an input that a parser takes: they are well spelled.
use Rattle.std.proofs.Common.{ℕ, List, [], ◌∷◌, Option, inl, inr}
use Rattle.yaml_round_content.proofs.Words.{cases_Bool, yaml_encoding_t, Token, Fault, scanned, tokens_of, spells_text, cut, AreSpelled}
use Rattle.yaml_scan_laws.proofs.Inputs.{scanned_spelled}

-- What is cut stays well spelled.
pub cut_spelled : (fault : Option Fault) (ts : List Token) → AreSpelled ts
    → AreSpelled (cut fault ts).tokens
cut_spelled fault [] h = tt
cut_spelled fault (t ∷ ts) h =
    elim (cases_Bool (spells_text t.body)) [
      | inl e ↦ rw e (h.0, cut_spelled fault ts h.1)
      | inr e ↦ rw e tt
    ]

-- An input's tokens are well spelled.
pub tokens_spelled : (from : yaml_encoding_t) (input : List ℕ)
    → AreSpelled (tokens_of from input).tokens
tokens_spelled from input = cut_spelled (scanned from input).fault (scanned from input).tokens (scanned_spelled from input)
