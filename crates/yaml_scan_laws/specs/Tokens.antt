-- The tokens of entries, and how BLOCK-END comes out.
use Rattle.std.specs.Prelude.{◌≡◌, ℕ, suc, List, [], ◌∷◌, ◌++◌, map, replicate}
use Rattle.std.specs.List.{flat_map}
use Rattle.yaml_scan_history.specs.scan_types.Tokens.{Token, TokenBody, block_end, block_sequence_start, block_mapping_start, key}
use Rattle.yaml_scan_history.specs.declared.lexeme.Lexeme.{Lexeme}
use Rattle.yaml_scan_history.specs.declared.lexeme.Entry.{Entry}
use Rattle.yaml_scan_history.specs.declared.lexeme.Opens.{Opens}
use Rattle.yaml_scan_history.specs.declared.lexeme.Opens.TheVariants as opening
use Rattle.yaml_scan_history.specs.History.{margin_at, start_of, as_key}
use Rattle.yaml_scan_history.specs.Remaining.{SpelledText, body_in, spell}
use Rattle.yaml_scan_laws.specs.TextFronts.{entry}

abbrev pub bodies_of : SpelledText → List Entry → List TokenBody
bodies_of s es = map (λ (t : Token). t.body) (flat_map (spell s) es)

-- what entries say, then BLOCK-END for that many levels that are still open, then others
abbrev pub told : SpelledText → List Entry → ℕ → List TokenBody → List TokenBody
told s es n bs = bodies_of s es ++ (replicate n block_end ++ bs)

abbrev pub start_bodies : Opens → List TokenBody → List TokenBody
start_bodies opening.Nothing bs = bs
start_bodies opening.Sequence bs = block_sequence_start ∷ bs
start_bodies opening.Mapping bs = block_mapping_start ∷ bs

-- One lexeme more, which closes n levels.
abbrev pub WordTells : Type 0
WordTells = (s : SpelledText) (es : List Entry) (l : Lexeme) (n : ℕ) (what : Opens)
    (bs : List TokenBody)
    → told s (es ++ entry l n what ∷ []) 0 bs ≡ told s es n (start_bodies what (body_in s l ∷ bs))

-- One level more that is still open.
abbrev pub LevelTells : Type 0
LevelTells = (s : SpelledText) (es : List Entry) (n : ℕ) (bs : List TokenBody)
    → told s es (suc n) bs ≡ told s es n (block_end ∷ bs)

-- A key whose words say K, after the levels that it closes, and its `:`.
abbrev pub KeyTells : Type 0
KeyTells = (s : SpelledText) (ms : List ℕ) (done : List Entry) (l : Lexeme) (n : ℕ)
    (rest : List Entry) (v : Lexeme)
    (K : List TokenBody → List TokenBody)
    → ((bs : List TokenBody) → told s (done ++ entry l n opening.Nothing
    ∷ rest) 0 bs ≡ told s done n (K bs))
    → (bs : List TokenBody)
    → told s ((done ++ as_key ms (entry l n opening.Nothing)
    ∷ rest) ++ entry v 0 opening.Nothing ∷ []) 0 bs
    ≡ told s done n (start_bodies (start_of l.depth (margin_at l.start.column) ms opening.Mapping)
    (key ∷ K (body_in s v ∷ bs)))
