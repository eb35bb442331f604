-- What C receives of a scan.
use Rattle.std.specs.Prelude.{◌≡◌, ◌⊎◌, pos, ℕ, Bool, true, false, List, [], map, Option, None, Some}
use Rattle.yaml_parse.specs.declared.yaml_encoding_t.{yaml_encoding_t}
use Rattle.yaml_parse.specs.scan_types.Faults.{Fault, IsMemoryFault, scan_layers}
use Rattle.yaml_parse.specs.scan_types.Tokens.{Token}
use Rattle.yaml_scan_history.specs.Scanned.{scanned}
use Rattle.yaml_round_answers.specs.declared.token_listing.TokenListing.{TokenListing}
use Rattle.yaml_round_answers.specs.TokensListed.{records_from, all_texts}
use Rattle.yaml_round_answers.specs.TokensCounted.{token_counted}
use Rattle.yaml_round_answers.specs.declared.answer.yaml_c_answer.{yaml_c_answer}
use Rattle.yaml_round_answers.specs.declared.scanning.yaml_c_scanned.{yaml_c_scanned}
use Rattle.yaml_round_answers.specs.Told.{TellsText, TellsFaultIn, TellsWant}
use Rattle.yaml_round_answers.specs.Spelled.{spelled_text}

-- no block
pub record HasNoToken (p : yaml_c_scanned) : Type 0 where
  pub tokens : p.tokens.now ≡ []
  pub bytes : p.bytes.now ≡ []

-- the records are those of these tokens, with the characters counted before their marks, and the bytes are their texts, one
-- after another
pub record AreTokens (text : List ℕ) (p : yaml_c_scanned) (ts : List Token) : Type 0 where
  pub tokens : p.tokens.now ≡ map (token_counted text) (records_from 0 ts)
  pub bytes : p.bytes.now ≡ all_texts ts

-- C learns that the tokens end, or the fault that ends them
abbrev pub TellsEnd : List ℕ → Option Fault → yaml_c_answer → Type 0
TellsEnd text None a = TellsText [] (pos 0) a
TellsEnd text (Some f) a = TellsFaultIn text f a

-- memory was refused
pub record TellsRefusal (text : List ℕ) (a : yaml_c_answer) : Type 0 where
  pub fault : Fault
  pub memory : IsMemoryFault scan_layers fault
  pub told : TellsFaultIn text fault a

-- C learns that the tokens end, or the fault that ends them, or that memory was refused
abbrev pub TellsScan : yaml_encoding_t → List ℕ → yaml_c_answer → Type 0
TellsScan from input a = TellsRefusal (spelled_text from input) a
    ⊎ TellsEnd (spelled_text from input) (scanned from input).fault a

-- The records are those of the input's tokens, before its end or of the fault that ends them; where out of memory is reported
-- there may be none, but no other ones.
abbrev pub Scans : List ℕ → yaml_c_scanned → yaml_encoding_t → yaml_c_answer → Type 0
Scans input p from a = TellsScan from input a × ((TellsWant a × HasNoToken p)
    ⊎ AreTokens (spelled_text from input) p (scanned from input).tokens)

-- where the number of an encoding means nothing, nothing is handed out
abbrev pub NoTokenUnmeant : {M : Type 0} → Option M → yaml_c_scanned → Type 0
NoTokenUnmeant None p = HasNoToken p
NoTokenUnmeant (Some m) p = Unit {0}

-- ---- what the code passes on

-- the blocks are the listing's, with the characters counted
pub record HandsOutTokens (text : List ℕ) (l : TokenListing) (p : yaml_c_scanned) : Type 0 where
  pub tokens : p.tokens.now ≡ map (token_counted text) l.tokens.items
  pub bytes : p.bytes.now ≡ l.bytes.items

-- the same, or no block where memory was refused
abbrev pub HandsOutTokensUnless : Bool → List ℕ → TokenListing → yaml_c_scanned → Type 0
HandsOutTokensUnless true text l p = HasNoToken p
HandsOutTokensUnless false text l p = HandsOutTokens text l p
