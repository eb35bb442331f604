-- The tokens of a text, in order, and the fault that ends them.
use Rattle.std.specs.Prelude.{ℕ, ◌+◌, nat_lt, if◌then◌else◌, List, [], ◌∷◌, ◌++◌, length, take, drop, replicate, Option, Some, None, Result, Ok, Err}
use Rattle.std.specs.List.{flat_map}
use Rattle.yaml_scan_model.specs.declared.name.yaml_encoding_t.{yaml_encoding_t}
use Rattle.yaml_scan_model.specs.scan_types.Tokens.{Token, TokenBody, no, stream_start, block_end, block_sequence_start, block_mapping_start, key}
use Rattle.yaml_scan_model.specs.scan_types.Faults.{Fault}
use Rattle.yaml_scan_model.specs.Problems.{scanner_fault}
use Rattle.yaml_scan_model.specs.Wrong.{Wrong}
use Rattle.yaml_scan_history.specs.declared.kind.Kind.{Kind}
use Rattle.yaml_scan_history.specs.declared.kind.Kind.TheVariants as kinds
use Rattle.yaml_scan_history.specs.declared.lexeme.Lexeme.{Lexeme}
use Rattle.yaml_scan_history.specs.declared.lexeme.Entry.{Entry}
use Rattle.yaml_scan_history.specs.declared.lexeme.Opens.{Opens}
use Rattle.yaml_scan_history.specs.declared.lexeme.Opens.TheVariants as opening
use Rattle.yaml_scan_history.specs.History.{finished_tokens, first_open}
use Rattle.yaml_scan_history.specs.Next.{Next, Read, Fails, Ends, next, history}
use Rattle.yaml_scan_history.specs.Words.{WordText, lexeme_at}

-- what a stream is: how its bytes were spelled, and the text
pub record SpelledText : Type 0 where
  pub encoding : yaml_encoding_t
  pub text : List ℕ

abbrev pub body_of_word : Result WordText Wrong → TokenBody
body_of_word (Ok w) = w.body
body_of_word (Err w) = no

-- what a lexeme carries, read at its place
abbrev pub body_by : Kind → SpelledText → Lexeme → TokenBody
body_by kinds.StreamStart s l = stream_start s.encoding
body_by k s l = body_of_word (lexeme_at k (nat_lt 0 l.depth) l.level s.text l.start.index)

abbrev pub body_in : SpelledText → Lexeme → TokenBody
body_in s l = body_by l.kind s l

-- a lexeme's own token
abbrev pub token_in : SpelledText → Lexeme → Token
token_in s l = record { body = body_in s l; start_mark = l.start; end_mark = l.end }

-- a token that is before a lexeme
abbrev pub before : TokenBody → Lexeme → Token
before body l = record { body = body; start_mark = l.start; end_mark = l.start }

abbrev pub start_tokens : Opens → Lexeme → List Token
start_tokens opening.Nothing l = []
start_tokens opening.Sequence l = before block_sequence_start l ∷ []
start_tokens opening.Mapping l = before block_mapping_start l ∷ []

abbrev pub end_tokens : Entry → List Token
end_tokens e = replicate e.ends (before block_end e.lexeme)

abbrev pub own_tokens : SpelledText → Entry → List Token
own_tokens s e = if e.key then before key e.lexeme ∷ token_in s e.lexeme ∷ []
    else token_in s e.lexeme ∷ []

-- the tokens of a lexeme: BLOCK-END, a block start, KEY, its own
abbrev pub spell : SpelledText → Entry → List Token
spell s e = (end_tokens e ++ start_tokens e.opens e.lexeme) ++ own_tokens s e

-- The lexemes of the text, up to its end or its fault: the stream's start and end take no byte, every other at least one.
unfoldable pub all : List ℕ → List Lexeme
all text = history text (length text + 2)

-- Where there is a fault, the lexemes from the earliest open candidate on are lost.
abbrev pub handed_out : Next → List Lexeme → List Entry
handed_out (Fails p) h = take (first_open h h) (finished_tokens h)
handed_out Ends h = finished_tokens h
handed_out (Read l) h = finished_tokens h

unfoldable pub handed : List ℕ → List Entry
handed text = handed_out (next text (all text)) (all text)

abbrev pub front_ends : List Entry → List Token
front_ends [] = []
front_ends (e ∷ es) = end_tokens e

-- BLOCK-END tokens are before a lost candidate, and are not lost.
abbrev pub kept_of : Next → List Lexeme → List Token
kept_of (Fails p) h = front_ends (drop (first_open h h) (finished_tokens h))
kept_of Ends h = []
kept_of (Read l) h = []

abbrev pub fault_in : Next → Option Fault
fault_in (Fails p) = Some (scanner_fault p)
fault_in Ends = None
fault_in (Read l) = None

-- tokens to come, and the fault that ends them
pub record Remaining : Type 0 where
  pub tokens : List Token
  pub fault : Option Fault

abbrev pub nothing : Remaining
nothing = record { tokens = []; fault = None }

-- what comes after these lexemes and these tokens of the next one
unfoldable pub remaining : SpelledText → ℕ → ℕ → Remaining
remaining s dropped given = record {
  tokens = drop given (flat_map (spell s) (drop dropped (handed s.text)) ++ kept_of
      (next s.text (all s.text)) (all s.text));
  fault = fault_in (next s.text (all s.text));
}

-- all that is said of a text: the list that is handed out, and its fault
abbrev pub offline : SpelledText → Remaining
offline s = remaining s 0 0
