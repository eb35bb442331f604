-- The plain reading of an input: the content of the tree that its tokens are, or the fault of those.
use Rattle.std.specs.Prelude.{◌≡◌, ◌<◌, ℕ, List, length, Option, Some, None, Result, Ok, Err, All}
use Rattle.yaml_parse_model.specs.scan_model.declared.name.yaml_encoding_t.{yaml_encoding_t}
use Rattle.yaml_parse_model.specs.scan_types.Tokens.{Token}
use Rattle.yaml_parse_model.specs.scan_model.declared.name.yaml_error_type_t.TheVariants.{YAML_READER_ERROR}
use Rattle.yaml_parse_model.specs.scan_types.Faults.{Fault}
use Rattle.yaml_scan_laws.specs.scan_decode.DecodedText.{decoding_fault}
use Rattle.yaml_scan_laws.specs.scan_decode.Encodings.{encoding_of}
use Rattle.yaml_scan_laws.specs.scan_decode.Spelling.{Spells, SpellsNothing}
use Rattle.yaml_scan_laws.specs.scan_history.Remaining.{Remaining, SpelledText}
use Rattle.yaml_scan_laws.specs.LookBack.{looked_back}
use Rattle.yaml_round_content.specs.Adapted.{adapted}
use Rattle.yaml_emit_laws.specs.parse_grammar.TreeEvents.{given_of}
use Rattle.yaml_emit_laws.specs.parse_grammar.Resolve.{Told, reading, no_directives}
use Rattle.yaml_emit_laws.specs.parse_laws_trees.Places.{BeginsWithSentence, FaultOfTokens}
use Rattle.yaml_round_content.specs.Input.{tokens_of, events_of, ending_of}
use Rattle.yaml_round_content.specs.Said.{Document, HasContent}
use Rattle.yaml_round_content.specs.TreeContent.{tree_content}
use Rattle.yaml_round_content.specs.TreeTold.{stream_told, events_in}

-- The tokens are a sentence, of a tree that has that content.
pub record HaveContent (ts : List Token) (c : List Document) : Type 0 where
  pub sentence : BeginsWithSentence ts
  pub content : c ≡ tree_content sentence.tree

-- The reading of tokens that end in a fault of their own, or in none: a content, or a fault.
abbrev pub TokensRead : List Token → Option Fault → Result (List Document) Fault → Type 0
TokensRead ts own (Ok c) = HaveContent ts c
TokensRead ts own (Err e) = FaultOfTokens ts own (Some e)

-- the text that bytes spell, with the encoding in which they spell it
abbrev pub spelled_in : yaml_encoding_t → List ℕ → List ℕ → SpelledText
spelled_in from input text = record { encoding = encoding_of from input; text = text }

-- a text's tokens by looking back from its lexemes, up to the first tag that isn't UTF-8
abbrev pub text_tokens : SpelledText → Remaining
text_tokens s = adapted (looked_back s)

-- The reading of a text: that of its tokens.
abbrev pub TextReads : SpelledText → Result (List Document) Fault → Type 0
TextReads s r = TokensRead (text_tokens s).tokens (text_tokens s).fault r

-- it is a fault of the reader, that of the first offence
abbrev pub IsOffence : {A : Type 0} → yaml_encoding_t → List ℕ → Result A Fault → Type 0
IsOffence from input (Ok x) = ⊥
IsOffence from input (Err e) = (e.kind ≡ YAML_READER_ERROR) × (decoding_fault from input ≡ Some e)

-- The plain reading of an input, in an encoding or in the one that is detected: that of the text that its bytes spell.
pub record PlainReading (from : yaml_encoding_t) (input : List ℕ)
    (r : Result (List Document) Fault) : Type 0 where
  pub of_text : (text : List ℕ) → Spells from input text → TextReads (spelled_in from input text) r
  -- bytes that spell none are refused
  pub of_none : All (λ b. b < 256) input → SpellsNothing from input → IsOffence from input r
  -- likewise for the tokens that decoding computes, also of numbers that are no bytes
  pub of_tokens : TokensRead (tokens_of from input).tokens (tokens_of from input).fault r

-- The events of an input that is accepted: those of its tree, each tag in full by the directives of its own document.
pub record HasEvents (from : yaml_encoding_t) (input : List ℕ) (es : List Told) : Type 0 where
  pub sentence : BeginsWithSentence (tokens_of from input).tokens
  pub told : events_in es ≡ stream_told sentence.tree
  -- the tokens are those of the text that its bytes spell
  pub of_text : (text : List ℕ) → Spells from input text
      → tokens_of from input ≡ text_tokens (spelled_in from input text)
  -- the same with the number of tokens that aren't asked for as each is given
  pub are : es ≡ (reading (given_of sentence.tree (length sentence.rest)) None no_directives).events

-- ---- laws

-- Each input has one.
abbrev pub InputsRead : Type 0
InputsRead = (from : yaml_encoding_t) (input : List ℕ)
    → (r : Result (List Document) Fault) × PlainReading from input r

-- And one alone.
abbrev pub ReadingIsOne : Type 0
ReadingIsOne = (from : yaml_encoding_t) (input : List ℕ) (r q : Result (List Document) Fault)
    → PlainReading from input r → PlainReading from input q → r ≡ q

-- The input is refused with the fault of its reading.
abbrev pub RefusedIsRead : Type 0
RefusedIsRead = (from : yaml_encoding_t) (input : List ℕ) (e : Fault)
    → ending_of from input ≡ Some e → PlainReading from input (Err e)

abbrev pub ReadIsRefused : Type 0
ReadIsRefused = (from : yaml_encoding_t) (input : List ℕ) (e : Fault)
    → PlainReading from input (Err e) → ending_of from input ≡ Some e

-- And where it is accepted, it says the content of its reading.
abbrev pub SaidIsRead : Type 0
SaidIsRead = (from : yaml_encoding_t) (input : List ℕ) (c : List Document)
    → HasContent from input c → PlainReading from input (Ok c)

abbrev pub ReadIsSaid : Type 0
ReadIsSaid = (from : yaml_encoding_t) (input : List ℕ) (c : List Document)
    → PlainReading from input (Ok c) → HasContent from input c

-- Its events are those of the tree.
abbrev pub EventsAreOfTree : Type 0
EventsAreOfTree = (from : yaml_encoding_t) (input : List ℕ)
    → (b : BeginsWithSentence (tokens_of from input).tokens)
    → events_of from input
    ≡ (reading (given_of b.tree (length b.rest)) None no_directives).events

-- The events that an input has are those that its tree gives.
abbrev pub EventsAreTold : Type 0
EventsAreTold = (from : yaml_encoding_t) (input : List ℕ) (es : List Told)
    → (h : HasEvents from input es) → events_in es ≡ stream_told h.sentence.tree
