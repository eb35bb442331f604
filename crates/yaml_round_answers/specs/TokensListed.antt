-- Tokens as records: what each record has, and where its texts are in the block of bytes.
use Rattle.std.specs.Prelude.{◌≡◌, ◌⊎◌, ◌+◌, ℕ, ℤ, pos, List, [], ◌∷◌, ◌++◌, length, None, Some, Result, Ok, Err}
use Rattle.yaml_scan.specs.declared.yaml_fault_t.{yaml_fault_t}
use Rattle.yaml_scan.specs.scan_types.Tokens.{Token, TokenBody}
use Rattle.yaml_scan.specs.scan_types.Tokens as token
use Rattle.yaml_scan.specs.scan_types.Faults.{fault_of, IsMemoryFault, scan_layers}
use Rattle.yaml_scan.specs.Remaining.{Remaining}
use Rattle.yaml_scan.specs.Session.{first_of, behind_first}
use Rattle.yaml_scan.specs.Found.{IsTold}
use Rattle.yaml_round_answers.specs.declared.record.yaml_c_mark.{yaml_c_mark}
use Rattle.yaml_round_answers.specs.declared.record.yaml_c_span.{yaml_c_span}
use Rattle.yaml_round_answers.specs.Numbers.{encoding_number, scalar_style_number}
use Rattle.yaml_round_answers.specs.Records.{mark_told}
use Rattle.yaml_round_answers.specs.Listing.{span_at}
use Rattle.yaml_round_answers.specs.declared.token_record.yaml_c_token.{yaml_c_token}
use Rattle.yaml_round_answers.specs.declared.token_listing.TokenListing.{TokenListing}

-- ---- records

abbrev pub no_span : yaml_c_span
no_span = record { at = 0; len = 0 }

-- a record of that kind between these marks, with nothing else
abbrev pub plain : ℤ → yaml_c_mark → yaml_c_mark → yaml_c_token
plain kind start end = record {
  kind = kind;
  style = pos 0;
  encoding = pos 0;
  major = pos 0;
  minor = pos 0;
  handle = no_span;
  value = no_span;
  start = start;
  end = end;
}

-- one with a text that is there, and one with two of them, one after the other
abbrev pub with_value : ℕ → List ℕ → yaml_c_token → yaml_c_token
with_value n text r = record r { value = span_at n text }

abbrev pub with_both : ℕ → List ℕ → List ℕ → yaml_c_token → yaml_c_token
with_both n handle text r = record r {
  handle = span_at n handle;
  value = span_at (n + length handle) text;
}

-- what a token's record has, where its texts begin there
abbrev pub body_record : ℕ → TokenBody → yaml_c_mark → yaml_c_mark → yaml_c_token
body_record n token.no s e = plain (pos 0) s e
body_record n (token.stream_start enc) s e =
    record (plain (pos 1) s e) { encoding = encoding_number enc }
body_record n token.stream_end s e = plain (pos 2) s e
body_record n (token.version_directive a b) s e =
    record (plain (pos 3) s e) { major = a; minor = b }
body_record n (token.tag_directive handle prefix) s e =
    with_both n handle prefix (plain (pos 4) s e)
body_record n token.document_start s e = plain (pos 5) s e
body_record n token.document_end s e = plain (pos 6) s e
body_record n token.block_sequence_start s e = plain (pos 7) s e
body_record n token.block_mapping_start s e = plain (pos 8) s e
body_record n token.block_end s e = plain (pos 9) s e
body_record n token.flow_sequence_start s e = plain (pos 10) s e
body_record n token.flow_sequence_end s e = plain (pos 11) s e
body_record n token.flow_mapping_start s e = plain (pos 12) s e
body_record n token.flow_mapping_end s e = plain (pos 13) s e
body_record n token.block_entry s e = plain (pos 14) s e
body_record n token.flow_entry s e = plain (pos 15) s e
body_record n token.key s e = plain (pos 16) s e
body_record n token.value s e = plain (pos 17) s e
body_record n (token.alias name) s e = with_value n name (plain (pos 18) s e)
body_record n (token.anchor name) s e = with_value n name (plain (pos 19) s e)
body_record n (token.tag handle suffix) s e = with_both n handle suffix (plain (pos 20) s e)
body_record n (token.scalar text how) s e =
    with_value n text (record (plain (pos 21) s e) { style = scalar_style_number how })

-- the texts that a token names, in their order
abbrev pub body_texts : TokenBody → List ℕ
body_texts (token.tag_directive handle prefix) = handle ++ prefix
body_texts (token.alias name) = name
body_texts (token.anchor name) = name
body_texts (token.tag handle suffix) = handle ++ suffix
body_texts (token.scalar text how) = text
body_texts _ = []

abbrev pub record_at : ℕ → Token → yaml_c_token
record_at n t = body_record n t.body (mark_told t.start_mark) (mark_told t.end_mark)

-- the records of tokens whose texts are one after another
unfoldable pub records_from : ℕ → List Token → List yaml_c_token
records_from n [] = []
records_from n (t ∷ ts) = record_at n t ∷ records_from (n + length (body_texts t.body)) ts

unfoldable pub all_texts : List Token → List ℕ
all_texts [] = []
all_texts (t ∷ ts) = body_texts t.body ++ all_texts ts

-- ---- listings

-- the listing is that of these tokens, and holds nothing beside
pub record ListsTokens (ts : List Token) (l : TokenListing) : Type 0 where
  pub tokens : l.tokens.items ≡ records_from 0 ts
  pub bytes : l.bytes.items ≡ all_texts ts

-- all of a session's tokens are listed, before its end or of the fault that ends them; or memory was refused
abbrev pub EndsListed : Remaining → Result (Unit {0}) yaml_fault_t → TokenListing → Type 0
EndsListed c (Ok done) l = (c.fault ≡ None) × ListsTokens c.tokens l
EndsListed c (Err f) l = IsMemoryFault scan_layers (fault_of f)
    ⊎ ((c.fault ≡ Some (fault_of f)) × ListsTokens c.tokens l)

-- ---- one token

-- a token's texts were put after the others, and its record was made
pub record MakesRecord (old : List ℕ) (t : Token) (new : List ℕ) (r : yaml_c_token) : Type 0 where
  pub bytes : new ≡ old ++ body_texts t.body
  pub is : r ≡ record_at (length old) t

-- a token's record is after the others
pub record Adds (old : TokenListing) (t : Token) (new : TokenListing) : Type 0 where
  pub bytes : new.bytes.items ≡ old.bytes.items ++ body_texts t.body
  pub tokens : new.tokens.items ≡ old.tokens.items ++ record_at (length old.bytes.items) t ∷ []

-- the next token is listed, or the refusal is reported
abbrev pub ListsNext : Remaining → TokenListing → Result (Unit {0}) yaml_fault_t → Remaining
    → TokenListing → Type 0
ListsNext c l (Ok done) c' l' = Adds l (first_of c.tokens) l' × (c' ≡ behind_first c)
ListsNext c l (Err f) c' l' = IsTold c (fault_of f)
