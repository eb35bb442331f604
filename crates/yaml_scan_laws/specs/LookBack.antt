-- The tokens of a text, lexeme by lexeme, by looking back.
use Rattle.std.specs.Prelude.{◌≡◌, ℕ, ◌-◌, Bool, true, false, not, ◌&&◌, ◌||◌, ◌==◌, nat_lt, if◌then◌else◌, List, [], ◌∷◌, ◌++◌, length, replicate, Option, Some, None}
use Rattle.yaml_scan_history.specs.scan_types.Tokens.{Token, block_end, key}
use Rattle.yaml_scan_history.specs.declared.lexeme.Lexeme.{Lexeme}
use Rattle.yaml_scan_history.specs.declared.lexeme.Opens.{Opens}
use Rattle.yaml_scan_history.specs.declared.lexeme.Opens.TheVariants as opening
use Rattle.yaml_scan_history.specs.Kinds.{is_value, is_start}
use Rattle.yaml_scan_history.specs.History.{Candidate, has_number, found_by, first_open, indent, inside, open_levels, level_of, opens_at}
use Rattle.yaml_scan_history.specs.Next.{Next, Read, Fails, Ends, next}
use Rattle.yaml_scan_history.specs.Remaining.{SpelledText, before, token_in, start_tokens, all, fault_in, Remaining, offline}

-- A lexeme is a `:` that finds lexeme n.
abbrev pub finds : Lexeme → List Lexeme → ℕ → Bool
finds l h n = is_value l.kind && has_number (found_by l h) n

-- Lexeme n is a key: a later `:` finds it.
unfoldable pub is_key : ℕ → List Lexeme → Bool
is_key n [] = false
is_key n (l ∷ h) = finds l h n || is_key n h

-- A `-`, a `?` or a `:` outside of brackets opens a level, where the level's margin is right of the innermost one
-- that it leaves open.
abbrev pub opens_level : Lexeme → List Lexeme → Bool
opens_level l h = (is_start l.kind && not (nat_lt 0 l.depth))
    && nat_lt (indent (inside l h)) (opens_at (found_by l h) l.kind l.start.column)

abbrev pub number_or : Option Candidate → ℕ → ℕ
number_or None n = n
number_or (Some c) n = c.number

-- the number of the lexeme with which that level begins: the key that a `:` finds, or it itself
abbrev pub begins_with : Lexeme → List Lexeme → ℕ
begins_with l h = if is_value l.kind then number_or (found_by l h) (length h) else length h

-- the level that begins with lexeme n
unfoldable pub level_at : ℕ → List Lexeme → Opens
level_at n [] = opening.Nothing
level_at n (l ∷ h) = if opens_level l h && begins_with l h == n then level_of l.kind
    else level_at n h

-- the levels that a lexeme closes: those before it that it doesn't leave open
abbrev pub closes : Lexeme → List Lexeme → ℕ
closes l h = length (open_levels h) - length (inside l h)

abbrev pub end_tokens : Lexeme → List Lexeme → List Token
end_tokens l h = replicate (closes l h) (before block_end l)

abbrev pub key_tokens : Bool → Lexeme → List Token
key_tokens true l = before key l ∷ []
key_tokens false l = []

-- The tokens of a lexeme of `all` that is after h: BLOCK-END for each level that it closes, the start of the one
-- that begins with it, KEY where it is one, and its own.
abbrev pub tokens_of : SpelledText → List Lexeme → Lexeme → List Lexeme → List Token
tokens_of s all l h = (end_tokens l h ++ start_tokens (level_at (length h) all) l)
    ++ (key_tokens (is_key (length h) all) l ++ token_in s l ∷ [])

-- what is handed out of them: of lexeme m BLOCK-END alone, and of those after it nothing
abbrev pub given_of : SpelledText → List Lexeme → ℕ → Lexeme → List Lexeme → List Token
given_of s all m l h = if nat_lt (length h) m then tokens_of s all l h
    else if length h == m then end_tokens l h else []

unfoldable pub tokens_before : SpelledText → List Lexeme → ℕ → List Lexeme → List Token
tokens_before s all m [] = []
tokens_before s all m (l ∷ h) = tokens_before s all m h ++ given_of s all m l h

-- A fault takes the lexemes from the earliest open candidate on with it.
abbrev pub lost_from : Next → List Lexeme → ℕ
lost_from (Fails p) h = first_open h h
lost_from Ends h = length h
lost_from (Read l) h = length h

-- the tokens of a text, and the fault that ends them
abbrev pub looked_back : SpelledText → Remaining
looked_back s = record {
  tokens = tokens_before s (all s.text) (lost_from (next s.text (all s.text)) (all s.text))
      (all s.text);
  fault = fault_in (next s.text (all s.text));
}

-- They are what is handed out.
abbrev pub OfflineLooksBack : Type 0
OfflineLooksBack = (s : SpelledText) → offline s ≡ looked_back s
