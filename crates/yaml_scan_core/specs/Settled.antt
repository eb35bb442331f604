-- Which tokens the lexemes that were read settle: whatever follows, they stay.
use Rattle.std.specs.Prelude.{ℕ, ◌-◌, ◌≡◌, nat_lt, if◌then◌else◌, All, Bool, List, [], ◌++◌, length, take, drop, Result, Ok, Err}
use Rattle.std.specs.List.{flat_map}
use Rattle.yaml_scan_model.specs.declared.name.yaml_encoding_t.{yaml_encoding_t}
use Rattle.yaml_scan_model.specs.scan_types.Tokens.{Token}
use Rattle.yaml_scan_decode.specs.declared.offence.Offence.{Offence}
use Rattle.yaml_scan_decode.specs.Encodings.{encoding_of}
use Rattle.yaml_scan_decode.specs.Decoding.{decoded_text}
use Rattle.yaml_scan_history.specs.declared.lexeme.Lexeme.{Lexeme}
use Rattle.yaml_scan_history.specs.History.{ended, finished_tokens, first_open}
use Rattle.yaml_scan_history.specs.Next.{history}
use Rattle.yaml_scan_history.specs.Remaining.{SpelledText, body_in, front_ends, offline, spell}
use Rattle.yaml_scan_history.specs.Scanned.{scanned_in}

-- How many lexemes no later one changes: those before the earliest open candidate, or all at the end.
unfoldable pub settled_in : List Lexeme → ℕ
settled_in h = if ended h then length h else first_open h h

-- The tokens of the lexemes that no later one changes, and the BLOCK-END tokens before the next lexeme, whatever that
-- becomes.
abbrev pub settled_behind : SpelledText → List Lexeme → List Token
settled_behind s h = flat_map (spell s) (take (settled_in h) (finished_tokens h))
    ++ front_ends (drop (settled_in h) (finished_tokens h))

-- what the first n lexemes of a text settle
unfoldable pub settled_tokens : SpelledText → ℕ → List Token
settled_tokens s n = settled_behind s (history s.text n)

-- how many tokens n lexemes of a text leave open
abbrev pub open_in : SpelledText → ℕ → ℕ
open_in s n = length (offline s).tokens - length (settled_tokens s n)

-- n lexemes of a text settle the first of the tokens that are to come: more are to come than these leave open
abbrev pub settles_in : SpelledText → List Token → ℕ → Bool
settles_in s tokens n = nat_lt (open_in s n) (length tokens)

abbrev pub settled_of : yaml_encoding_t → Result (List ℕ) Offence → ℕ → List Token
settled_of encoding (Ok text) n = settled_tokens record { encoding = encoding; text = text } n
settled_of encoding (Err o) n = []

-- how many tokens of a decoded text these lexemes leave open
abbrev pub open_of : yaml_encoding_t → Result (List ℕ) Offence → ℕ → ℕ
open_of encoding r n = length (scanned_in encoding r).tokens - length (settled_of encoding r n)

-- how many tokens of an input these lexemes leave open
abbrev pub open_count : yaml_encoding_t → List ℕ → ℕ → ℕ
open_count setting bytes n = open_of (encoding_of setting bytes) (decoded_text setting bytes) n

abbrev pub settles : yaml_encoding_t → List ℕ → List Token → ℕ → Bool
settles setting bytes tokens n = nat_lt (open_count setting bytes n) (length tokens)

-- Whatever follows n lexemes of a text: of every text that has these too, which carry the same, the first tokens are those
-- that they settle.
abbrev pub WhateverFollows : Type 0
WhateverFollows = (s t : SpelledText) (n : ℕ) → history t.text n ≡ history s.text n
    → All (λ e. body_in t e.lexeme ≡ body_in s e.lexeme) (finished_tokens (history s.text n))
    → (rest : List Token) × ((offline t).tokens ≡ settled_tokens s n ++ rest)
