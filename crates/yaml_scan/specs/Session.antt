-- What a session means, and what its calls answer.
use Rattle.std.specs.Prelude.{ℕ, ◌≡◌, ◌≢◌, ◌<◌, ◌≤◌, Bool, true, false, List, [], ◌∷◌, Option, Some, None, Result, Ok, Err, ◌⊎◌}
use denote.Bor.{Bor}
use Rattle.yaml_scan_model.specs.declared.token.yaml_token_t.{yaml_token_t}
use Rattle.yaml_scan_model.specs.declared.fault.yaml_fault_t.{yaml_fault_t}
use Rattle.yaml_scan_types.specs.Tokens.{Token, token_of, no_token}
use Rattle.yaml_scan_types.specs.Faults.{Fault, fault_of, memory_fault}
use Rattle.yaml_scan_model.specs.declared.fault.yaml_origin_t.TheVariants.{Reader}
use Rattle.yaml_scan_model.specs.declared.name.yaml_encoding_t.{yaml_encoding_t}
use Rattle.yaml_scan_model.specs.declared.name.yaml_encoding_t.TheVariants.{YAML_UTF8_ENCODING}
use Rattle.yaml_scan_decode.specs.Encodings.{encoding_of}
use Rattle.yaml_scan_decode.specs.DecodedText.{decoding_fault}
use Rattle.yaml_scan_history.specs.History.{most_waiting}
use Rattle.yaml_scan_history.specs.Remaining.{Remaining, nothing}
use Rattle.yaml_scan_history.specs.Scanned.{scanned}
pub use Rattle.yaml_scan_core.specs.Found.{HasMore, IsTold}
use Rattle.yaml_scan_core.specs.Settled.{settles}

-- An input and the encoding that is set, and how many lexemes of its text were read; the tokens that are still to come and the fault
-- that ends them; the fault that was answered; and how many lexemes wait: they were read, and not all their tokens are taken. A fault
-- that is answered drops what was read.
pub record View : Type 0 where
  pub setting : yaml_encoding_t
  pub bytes : List ℕ
  pub read : ℕ
  pub remaining : Remaining
  pub answered : Option Fault
  pub waiting : ℕ

-- a session of an input that was read nowhere: all its tokens are to come
abbrev pub begun : yaml_encoding_t → List ℕ → View
begun encoding bytes = record {
  setting = encoding;
  bytes = bytes;
  read = 0;
  remaining = scanned encoding bytes;
  answered = None;
  waiting = 0;
}

-- A token is to come, and the lexemes that were read settle which: no later text can change it.
abbrev pub is_settled : View → Bool
is_settled v = settles v.setting v.bytes v.remaining.tokens v.read

-- The input stays. A further lexeme is read only while those before it don't settle the next token.
pub record ReadsNeeded (old new : View) : Type 0 where
  pub setting : new.setting ≡ old.setting
  pub bytes : new.bytes ≡ old.bytes
  pub further : old.read ≤ new.read
  pub needed : (n : ℕ) → old.read ≤ n → n < new.read
      → settles old.setting old.bytes old.remaining.tokens n ≡ false

-- the first token to come, and the others; after the last the empty token
abbrev pub first_of : List Token → Token
first_of [] = no_token
first_of (t ∷ ts) = t

abbrev pub others_of : List Token → List Token
others_of [] = []
others_of (t ∷ ts) = ts

-- what is to come after the first token
abbrev pub behind_first : Remaining → Remaining
behind_first c = record { tokens = others_of c.tokens; fault = c.fault }

-- a token is to come
abbrev pub HasFirst : List Token → Type 0
HasFirst [] = ⊥
HasFirst (t ∷ ts) = Unit {0}

-- after the last token a fault is answered, if one is to come
abbrev pub MayAnswer : List Token → Option Fault → Type 0
MayAnswer [] fault = fault ≡ None
MayAnswer (t ∷ ts) fault = Unit {0}

-- after a fault that was answered nothing comes
abbrev pub EndsAnswered : View → Type 0
EndsAnswered v = (f : Fault) → v.answered ≡ Some f → v.remaining ≡ nothing

-- At most 1,025 lexemes wait: a `:` is looked for within 1,024 bytes of its key.
abbrev pub FewWait : View → Type 0
FewWait v = v.waiting ≤ most_waiting

-- few lexemes wait, and nothing else is held
abbrev pub HoldsLittle : View → Type 0
HoldsLittle v = FewWait v

-- the next token is settled, or there is none
abbrev pub IsKnown : View → Type 0
IsKnown v = (is_settled v ≡ true) ⊎ (v.remaining ≡ nothing)

-- Out of memory is reported of the reader only before the input is decoded, and where it isn't UTF-8, which takes none.
abbrev pub ReaderMayLack : View → Fault → Type 0
ReaderMayLack v f = f ≡ memory_fault Reader
    → (v.read ≡ 0) × (encoding_of v.setting v.bytes ≢ YAML_UTF8_ENCODING)

-- What UTF-8 that spells no text has wrong takes no memory: it is reported.
abbrev pub PlainIsTold : View → Fault → Type 0
PlainIsTold v f = (g : Fault) → encoding_of v.setting v.bytes ≡ YAML_UTF8_ENCODING
    → decoding_fault v.setting v.bytes ≡ Some g → f ≡ g

-- A refusal reports the fault that is to come, where no token is, or that memory ran out; a token
-- that is settled isn't refused, nor is the empty token after the end. It is answered once, and
-- ends the session.
pub record Refuses (old : View) (f : Fault) (new : View) : Type 0 where
  pub sought : is_settled old ≡ false
  pub more : HasMore old.remaining.tokens old.remaining.fault
  pub told : IsTold old.remaining f
  pub reader : ReaderMayLack old f
  pub plain : PlainIsTold old f
  pub once : old.answered ≡ None
  pub kept : new.answered ≡ Some f
  pub over : new.remaining ≡ nothing

-- a token was taken: the first to come; after a fault the empty one, and nothing changes
pub record Takes (old : View) (t : Token) (new : View) : Type 0 where
  pub token : t ≡ first_of old.remaining.tokens
  pub rest : new.remaining ≡ behind_first old.remaining
  pub may : MayAnswer old.remaining.tokens old.remaining.fault
  pub same : new.answered ≡ old.answered
  pub reads : ReadsNeeded old new
  pub over : EndsAnswered old
  pub still : (f : Fault) → old.answered ≡ Some f → new ≡ old

-- a session that this fault ended: it is kept as the one that was answered, nothing comes after it,
-- and what was read is dropped
abbrev pub ended : View → Fault → View
ended v f = record v { read = 0; remaining = nothing; answered = Some f; waiting = 0 }

-- a token was passed by reference: the first to come, and none is taken; it is settled, or there is none; after a fault nothing changes
pub record Lends (old : View) (t : Token) (new : View) : Type 0 where
  pub token : t ≡ first_of old.remaining.tokens
  pub all : new.remaining ≡ old.remaining
  pub may : MayAnswer old.remaining.tokens old.remaining.fault
  pub same : new.answered ≡ old.answered
  pub reads : ReadsNeeded old new
  pub known : IsKnown new
  pub over : EndsAnswered old
  pub still : (f : Fault) → old.answered ≡ Some f → new ≡ old

abbrev pub Scans : View → View → Result yaml_token_t yaml_fault_t → Type 0
Scans old new (Ok token) = Takes old (token_of token) new
Scans old new (Err f) = Refuses old (fault_of f) new

-- What a peek answers: the first of the tokens to come, or the empty one where neither a token nor a fault is; or a fault, where
-- something is to come: the one that is where no token is, or out of memory.
abbrev pub Shows : View → Result (Bor yaml_token_t) yaml_fault_t → Type 0
Shows v (Ok token) = (token_of token.now ≡ first_of v.remaining.tokens)
    × MayAnswer v.remaining.tokens v.remaining.fault
Shows v (Err f) = HasMore v.remaining.tokens v.remaining.fault × IsTold v.remaining (fault_of f)

abbrev pub Peeks : View → View → Result (Bor yaml_token_t) yaml_fault_t → Type 0
Peeks old new (Ok token) = Lends old (token_of token.now) new
Peeks old new (Err f) = Refuses old (fault_of f) new

-- what looking for the next token answers: the one that is first, or a fault
abbrev pub Looks : View → View → Token → Result (Unit {0}) yaml_fault_t → Type 0
Looks old new token (Ok done) = Lends old token new
Looks old new token (Err f) = Refuses old (fault_of f) new
