-- How a text begins and ends.
use Rattle.std.specs.Prelude.{◌≡◌, ℕ, Bool, List, [], ◌∷◌, ◌++◌, length, None}
use Rattle.std.specs.List.{flat_map}
use Rattle.yaml_scan_history.specs.scan_model.declared.name.yaml_encoding_t.{yaml_encoding_t}
use Rattle.yaml_scan_history.specs.scan_types.Marks.{mark_at}
use Rattle.yaml_scan_history.specs.scan_types.Tokens.{TokenBody, stream_start, stream_end}
use Rattle.yaml_scan_history.specs.declared.kind.Kind.TheVariants as kinds
use Rattle.yaml_scan_history.specs.declared.lexeme.Lexeme.{Lexeme}
use Rattle.yaml_scan_history.specs.declared.lexeme.Entry.{Entry}
use Rattle.yaml_scan_history.specs.declared.lexeme.Opens.TheVariants as opening
use Rattle.yaml_scan_history.specs.History.{placed}
use Rattle.yaml_scan_history.specs.Words.{WordText}
use Rattle.yaml_scan_history.specs.Next.{first_lexeme, begun}
use Rattle.yaml_scan_history.specs.Remaining.{SpelledText, spell, offline}
use Rattle.yaml_scan_laws.specs.TextFronts.{Front, Idle, Meets, entry}
use Rattle.yaml_scan_laws.specs.Tokens.{bodies_of, told}

-- what is known after the stream's start
pub record StreamStands (text : List ℕ) : Type 0 where
  pub front : Front text (first_lexeme ∷ []) 0 [] (entry first_lexeme 0 opening.Nothing ∷ [])
  pub idle : Idle (first_lexeme ∷ [])
  pub told : (x : yaml_encoding_t) (bs : List TokenBody)
      → told (record { encoding = x; text = text }) (entry first_lexeme 0 opening.Nothing ∷ []) 0 bs
      ≡ stream_start x ∷ bs

abbrev pub StartStands : Type 0
StartStands = (text : List ℕ) → StreamStands text

-- the stream's end
abbrev pub end_at : List ℕ → List Lexeme → ℕ → Bool → Lexeme
end_at text h q a = begun kinds.StreamEnd (placed kinds.StreamEnd (mark_at text q)) a h

-- The tokens of the text are these, without fault.
pub record TellsEnd (s : SpelledText) (es : List Entry) : Type 0 where
  pub read : offline s ≡ record { tokens = flat_map (spell s) es; fault = None }
  pub bodies : bodies_of s es ≡ told s es 0 []

-- The stream's end closes all levels, and all is read.
abbrev pub EndIsRead : Type 0
EndIsRead = (x : yaml_encoding_t) (text : List ℕ) (h : List Lexeme) (ms : List ℕ)
    (es : List Entry) (q : ℕ) (a : Bool)
    (w : WordText) → Front text h 0 ms es → Idle h → Meets text h 0 0 kinds.StreamEnd q a w
    → let s : SpelledText = record { encoding = x; text = text } in let l = end_at text h q a in
    TellsEnd s (es ++ entry l (length ms) opening.Nothing ∷ [])
    × (told s (es ++ entry l (length ms) opening.Nothing ∷ []) 0 [] ≡ told s es (length ms)
    (stream_end ∷ []))
