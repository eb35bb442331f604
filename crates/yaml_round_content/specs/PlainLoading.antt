-- The plain loading of an input: its tree's documents, numbered, or the fault of loading its tokens.
use Rattle.std.specs.Prelude.{◌≡◌, ◌<◌, ℕ, List, [], Option, Some, None, Result, Ok, Err, All}
use Rattle.yaml_parse_model.specs.scan_model.declared.name.yaml_encoding_t.{yaml_encoding_t}
use Rattle.yaml_parse_model.specs.scan_types.Tokens.{Token}
use Rattle.yaml_parse_model.specs.scan_types.Faults.{Fault}
use Rattle.yaml_emit_laws.specs.parse_grammar.Trees.{spell}
use Rattle.yaml_emit_laws.specs.parse_laws_trees.Places.{BeginsWithSentence}
use Rattle.yaml_parse_model.specs.Documents.{Document}
use Rattle.yaml_emit_laws.specs.parse_laws_trees.Faults.{IsLoadable, FaultOfLoading}
use Rattle.yaml_scan_laws.specs.scan_decode.Spelling.{Spells, SpellsNothing}
use Rattle.yaml_round_content.specs.Input.{tokens_of}
use Rattle.yaml_round_content.specs.Reading.{spelled_in, text_tokens, IsOffence}
use Rattle.yaml_parse_loader.specs.Loading.{nothing_loaded}
use Rattle.yaml_round_content.specs.Loads.{Loads, load_all, loads_of}
use Rattle.yaml_round_content.specs.TreeDocuments.{tree_documents, loaded_documents}
use Rattle.yaml_round_content.specs.Loading.{read_of}

-- The tokens are a sentence in which each alias has its anchor, and the documents are those of its tree, numbered.
pub record HaveDocuments (ts : List Token) (ds : List Document) : Type 0 where
  pub sentence : BeginsWithSentence ts
  pub loadable : IsLoadable (spell sentence.tree [])
  pub documents : ds ≡ (loaded_documents (tree_documents sentence.tree sentence.rest)).documents

-- The loading of tokens that end in a fault of their own, or in none: documents, or a fault.
abbrev pub TokensLoad : List Token → Option Fault → Result (List Document) Fault → Type 0
TokensLoad ts own (Ok ds) = HaveDocuments ts ds
TokensLoad ts own (Err e) = FaultOfLoading ts own (Some e)

-- The plain loading of an input, in an encoding or in the one that is detected: that of the text that its bytes spell.
pub record PlainLoading (from : yaml_encoding_t) (input : List ℕ)
    (r : Result (List Document) Fault) : Type 0 where
  pub of_text : (text : List ℕ) → Spells from input text
      → TokensLoad (text_tokens (spelled_in from input text)).tokens
      (text_tokens (spelled_in from input text)).fault r
  -- bytes that spell none are refused
  pub of_none : All (λ b. b < 256) input → SpellsNothing from input → IsOffence from input r
  -- likewise for the tokens that decoding computes, also of numbers that are no bytes
  pub of_tokens : TokensLoad (tokens_of from input).tokens (tokens_of from input).fault r

-- ---- laws

-- what loads give: all documents, or the fault that ends them
abbrev pub unless_faulty : List Document → Option Fault → Result (List Document) Fault
unless_faulty ds None = Ok ds
unless_faulty ds (Some e) = Err e

abbrev pub result_of : Loads → Result (List Document) Fault
result_of l = unless_faulty l.documents l.fault

-- Of every source: what its tokens load is their loading.
abbrev pub SourcesLoad : Type 0
SourcesLoad = (ts : List Token) (own : Option Fault) → TokensLoad ts own
    (result_of (load_all (read_of ts own).events (read_of ts own).ending nothing_loaded))

-- They have one alone.
abbrev pub SourceLoadingIsOne : Type 0
SourceLoadingIsOne = (ts : List Token) (own : Option Fault) (r q : Result (List Document) Fault)
    → TokensLoad ts own r → TokensLoad ts own q → r ≡ q

-- What an input loads is its plain loading.
abbrev pub InputsLoad : Type 0
InputsLoad = (from : yaml_encoding_t) (input : List ℕ)
    → PlainLoading from input (result_of (loads_of from input))

-- It has one alone.
abbrev pub LoadingIsOne : Type 0
LoadingIsOne = (from : yaml_encoding_t) (input : List ℕ) (r q : Result (List Document) Fault)
    → PlainLoading from input r → PlainLoading from input q → r ≡ q

-- And the plain loading is what it loads.
abbrev pub LoadingIsLoads : Type 0
LoadingIsLoads = (from : yaml_encoding_t) (input : List ℕ) (r : Result (List Document) Fault)
    → PlainLoading from input r → result_of (loads_of from input) ≡ r

-- By parts: documents without a fault, and a fault.
abbrev pub FaultlessLoad : Type 0
FaultlessLoad = (from : yaml_encoding_t) (input : List ℕ) → (loads_of from input).fault ≡ None
    → PlainLoading from input (Ok (loads_of from input).documents)

abbrev pub FaultyLoad : Type 0
FaultyLoad = (from : yaml_encoding_t) (input : List ℕ) (e : Fault)
    → (loads_of from input).fault ≡ Some e → PlainLoading from input (Err e)
