-- What an input loads is its plain loading.
use Rattle.std.proofs.Common.{◌≡◌, ℕ, List, Option, Some, None, Ok, Err, ap, sym, subst, ◌∙◌, arith}
use Rattle.std.proofs.lemmas.Option.{same_Some}
use Rattle.yaml_round_content.proofs.Words.{nat_tests, yaml_encoding_t, Token, Fault, Reading, BeginsWithSentence, nothing_loaded, tokens_of, Loads, load_all, loads_of, tree_documents, loaded_documents, read_of}
use Rattle.yaml_parse_model.specs.Documents.{Document}
use Rattle.yaml_emit_laws.specs.parse_laws_trees.Faults.{FaultOfLoading}
use Rattle.yaml_emit_laws.proofs.Unique.{one_load_fault}
use Rattle.yaml_emit_laws.proofs.LoadingEnding.{loads_end_in_fault}
use Rattle.yaml_round_content.specs.PlainLoading.{HaveDocuments, TokensLoad, PlainLoading, unless_faulty, result_of, SourcesLoad, SourceLoadingIsOne, InputsLoad, LoadingIsOne, LoadingIsLoads, FaultlessLoad, FaultyLoad}
use Rattle.yaml_round_content.proofs.Joining.{read_is}
use Rattle.yaml_round_content.proofs.OfText.{plain_loading}
use Rattle.yaml_round_content.proofs.Numbered.{loads_numbered}
use Rattle.yaml_parse_loader.proofs.Loads.{loads_document}

-- ---- tokens

abbrev loads_in : Reading → Loads
loads_in r = load_all r.events r.ending nothing_loaded

numbered_documents : (ts : List Token) (own : Option Fault) (b : BeginsWithSentence ts)
    → (loads_in (read_of ts own)).documents
    ≡ (loaded_documents (tree_documents b.tree b.rest)).documents
numbered_documents ts own b = ap (λ (l : Loads). l.documents) (loads_numbered loads_document ts own b)

by_fault : (ts : List Token) (own : Option Fault) (ds : List Document) (o : Option Fault)
    → FaultOfLoading ts own o
    → ((b : BeginsWithSentence ts) → ds
    ≡ (loaded_documents (tree_documents b.tree b.rest)).documents)
    → TokensLoad ts own (unless_faulty ds o)
by_fault ts own ds None h k = record { sentence = h.sentence; loadable = h.first; documents = k h.sentence }
by_fault ts own ds (Some e) h k = h

pub tokens_load : SourcesLoad
tokens_load ts own = by_fault ts own (loads_in (read_of ts own)).documents (loads_in (read_of ts own)).fault (loads_end_in_fault ts own) (λ b. numbered_documents ts own b)

-- ---- one loading

same_documents : (ts : List Token) (own : Option Fault) (ds : List Document) → HaveDocuments ts ds
    → ds ≡ (loads_in (read_of ts own)).documents
same_documents ts own ds h = h.documents ∙ sym (numbered_documents ts own h.sentence)

apart : (e : Fault) (A : Type 0) → None ≡ Some e → A
apart e A h = cc

pub one_of_tokens : SourceLoadingIsOne
one_of_tokens ts own (Ok ds) (Ok es) p q = ap (λ (z : List Document). Ok z) (same_documents ts own ds p ∙ sym (same_documents ts own es q))
one_of_tokens ts own (Ok ds) (Err e) p q = apart e _ (one_load_fault ts own None (Some e) (record { sentence = p.sentence; first = p.loadable }) q)
one_of_tokens ts own (Err e) (Ok ds) p q = apart e _ (one_load_fault ts own None (Some e) (record { sentence = q.sentence; first = q.loadable }) p)
one_of_tokens ts own (Err e) (Err f) p q = ap (λ (z : Fault). Err z) (same_Some e f (one_load_fault ts own (Some e) (Some f) p q))

-- ---- inputs

tokens_of_load : (from : yaml_encoding_t) (input : List ℕ)
    → TokensLoad (tokens_of from input).tokens (tokens_of from input).fault (result_of (loads_of from input))
tokens_of_load from input = grind (arith, nat_tests, read_is, tokens_load)

pub inputs_load : InputsLoad
inputs_load from input = plain_loading from input (result_of (loads_of from input)) (tokens_of_load from input)

pub one_loading : LoadingIsOne
one_loading from input r q a b = one_of_tokens (tokens_of from input).tokens (tokens_of from input).fault r q a.of_tokens b.of_tokens

pub loading_loads : LoadingIsLoads
loading_loads from input r h = one_loading from input (result_of (loads_of from input)) r (inputs_load from input) h

-- ---- by parts

pub faultless_load : FaultlessLoad
faultless_load from input h =
    subst (λ (o : Option Fault). PlainLoading from input (unless_faulty (loads_of from input).documents o)) h (inputs_load from input)

pub faulty_load : FaultyLoad
faulty_load from input e h =
    subst (λ (o : Option Fault). PlainLoading from input (unless_faulty (loads_of from input).documents o)) h (inputs_load from input)
