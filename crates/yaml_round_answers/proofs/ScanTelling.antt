-- What was listed is what C receives.
use Rattle.std.proofs.Common.{◌≡◌, ◌∙◌, ◌⊎◌, inl, inr, ap, refl, sym, subst, map, pos, ℕ, Bool, true, false, List, [], Some, None, Result, Ok, Err}
use Rattle.std.proofs.lemmas.Bool.{false≢true}
use Rattle.yaml_parse.specs.declared.yaml_encoding_t.{yaml_encoding_t}
use Rattle.yaml_parse.specs.declared.yaml_fault_t.{yaml_fault_t}
use Rattle.yaml_parse.specs.scan_types.Faults.{fault_of, memory_fault, IsMemoryFault, scan_layers}
use Rattle.yaml_parse.specs.declared.yaml_origin_t.TheVariants.{Scanner}
use Rattle.yaml_parse.specs.scan_types.Tokens.{Token}
use Rattle.yaml_scan_history.specs.Scanned.{scanned}
use Rattle.yaml_round_answers.specs.declared.token_listing.TokenListing.{TokenListing}
use Rattle.yaml_round_answers.specs.TokensListed.{ListsTokens}
use Rattle.yaml_round_answers.specs.TokensCounted.{token_counted}
use Rattle.yaml_round_answers.specs.declared.answer.yaml_c_answer.{yaml_c_answer}
use Rattle.yaml_round_answers.specs.declared.scanning.yaml_c_scanned.{yaml_c_scanned}
use Rattle.yaml_round_answers.specs.Told.{TellsText, TellsFaultIn, TellsMemory, TellsWant, RefusesIn}
use Rattle.yaml_round_answers.specs.Spelled.{spelled_text, is_memory, is_starved}
use Rattle.yaml_round_answers.specs.Scans.{HasNoToken, AreTokens, TellsEnd, TellsScan, Scans, HandsOutTokens, HandsOutTokensUnless}
use Rattle.yaml_round_answers.proofs.Handing.{tells_want, memory_kind}

handed : (text : List ℕ) (ts : List Token) (l : TokenListing) (p : yaml_c_scanned)
    → HandsOutTokens text l p → ListsTokens ts l → AreTokens text p ts
handed text ts l p h s = record { tokens = h.tokens ∙ ap (map (token_counted text)) s.tokens; bytes = h.bytes ∙ s.bytes }

pub scan_ends : (from : yaml_encoding_t) (input text : List ℕ) (r : Result (Unit {0}) yaml_fault_t)
    (l : TokenListing) (p : yaml_c_scanned) (a : yaml_c_answer) {b : Bool} → b ≡ is_starved r
    → r ≡ Ok tt → text ≡ spelled_text from input → HandsOutTokensUnless b text l p
    → TellsText [] (pos 0) a
    → ((scanned from input).fault ≡ None) × ListsTokens (scanned from input).tokens l
    → Scans input p from a
scan_ends from input text r l p a is done e h t i =
    let k = subst (λ c. HandsOutTokensUnless c text l p) (is ∙ ap is_starved done) h in (
      inr (subst (λ o. TellsEnd (spelled_text from input) o a) (sym i.0) t),
      inr (handed _ _ l p (subst (λ z. HandsOutTokens z l p) e k) i.1),
    )

-- memory was refused
pub scan_starves : (from : yaml_encoding_t) (input : List ℕ) (p : yaml_c_scanned)
    (a : yaml_c_answer) → HasNoToken p → TellsMemory a → Scans input p from a
scan_starves from input p a h s = (
  inl record { fault = memory_fault Scanner; memory = inl refl; told = s Scanner (spelled_text from input) },
  inl ((s Scanner []).kind, h),
)

fail_told : (from : yaml_encoding_t) (input text : List ℕ) (f : yaml_fault_t) (l : TokenListing)
    (a : yaml_c_answer) → text ≡ spelled_text from input → RefusesIn text (fault_of f) a
    → IsMemoryFault scan_layers (fault_of f)
    ⊎ (((scanned from input).fault ≡ Some (fault_of f)) × ListsTokens (scanned from input).tokens l)
    → TellsScan from input a
fail_told from input text f l a e (inl t) (inl m) = inl record { fault = fault_of f; memory = m; told = subst (λ z. TellsFaultIn z (fault_of f) a) e t }
fail_told from input text f l a e (inl t) (inr i) = inr (subst (λ o. TellsEnd (spelled_text from input) o a) (sym i.0) (subst (λ z. TellsFaultIn z (fault_of f) a) e t))
fail_told from input text f l a e (inr s) i = inl record { fault = memory_fault Scanner; memory = inl refl; told = s Scanner (spelled_text from input) }

fail_handed : (from : yaml_encoding_t) (input text : List ℕ) (f : yaml_fault_t) (l : TokenListing)
    (p : yaml_c_scanned) (a : yaml_c_answer) (b : Bool) → b ≡ is_memory f.kind
    → text ≡ spelled_text from input → HandsOutTokensUnless b text l p → RefusesIn text (fault_of f) a
    → IsMemoryFault scan_layers (fault_of f)
    ⊎ (((scanned from input).fault ≡ Some (fault_of f)) × ListsTokens (scanned from input).tokens l)
    → (TellsWant a × HasNoToken p) ⊎ AreTokens (spelled_text from input) p (scanned from input).tokens
fail_handed from input text f l p a true is e h t i = inl (tells_want text (fault_of f) a (sym is) t, h)
fail_handed from input text f l p a false is e h t (inl m) = absurd (false≢true (is ∙ memory_kind scan_layers (fault_of f) m))
fail_handed from input text f l p a false is e h t (inr i) = inr (handed _ _ l p (subst (λ z. HandsOutTokens z l p) e h) i.1)

pub scan_fails : (from : yaml_encoding_t) (input text : List ℕ) (r : Result (Unit {0}) yaml_fault_t)
    (f : yaml_fault_t) (l : TokenListing) (p : yaml_c_scanned) (a : yaml_c_answer) (b : Bool)
    → b ≡ is_starved r → r ≡ Err f → text ≡ spelled_text from input → HandsOutTokensUnless b text l p
    → RefusesIn text (fault_of f) a
    → IsMemoryFault scan_layers (fault_of f)
    ⊎ (((scanned from input).fault ≡ Some (fault_of f)) × ListsTokens (scanned from input).tokens l)
    → Scans input p from a
scan_fails from input text r f l p a b is ends e h t i = (
  fail_told from input text f l a e t i,
  fail_handed from input text f l p a b (is ∙ ap is_starved ends) e h t i,
)
