-- A text that goes on as a layout writes it, after words that are in it.
use Rattle.std.specs.Prelude.{◌≡◌, ℕ, ◌+◌, ◌==◌, ◌||◌, Bool, true, false, List, [], ◌∷◌, length}
use Rattle.yaml_emit_layout.specs.scan_types.Ascii as ascii
use Rattle.yaml_emit_layout.specs.scan_types.Tokens.{TokenBody}
use Rattle.yaml_emit_layout.specs.scan_types.Marks.{byte, column_at}
use Rattle.yaml_scan_history.specs.Written.{are_gap}
use Rattle.yaml_scan_history.specs.declared.kind.Kind.{Kind}
use Rattle.yaml_scan_history.specs.History.{reached, flow_depth}
use Rattle.yaml_scan_laws.specs.KeysTexts.{Word, lexemes, WordsStand, word_kinds}
use Rattle.yaml_emit_layout.specs.declared.Cursor.{Cursor}
use Rattle.yaml_emit_layout.specs.declared.Encoding.TheVariants.{Utf8}
use Rattle.yaml_emit_layout.specs.Text.{Item, encode}
use Rattle.yaml_emit_layout.specs.Layout.{Layout, Rest}

-- the text has these bytes from the place on
abbrev pub Has : List ℕ → ℕ → List ℕ → Type 0
Has text p [] = Unit {0}
Has text p (x ∷ xs) = (byte text p ≡ x) × Has text (p + 1) xs

-- these bytes are left of the text
pub record Left (text : List ℕ) (p : ℕ) (bs : List ℕ) : Type 0 where
  pub has : Has text p bs
  pub ends : p + length bs ≡ length text

-- a line starts there, unless a line feed is there
abbrev pub Starts : List ℕ → ℕ → Type 0
Starts text p = (byte text p ≡ ascii.line_feed → ⊥) → column_at text p ≡ 0

-- Words are in the text up to a gap that goes up to the place; that many brackets are open.
pub record WordStage (text : List ℕ) (c : Cursor) (p : ℕ) (ws : List Word) (d : ℕ) : Type 0 where
  pub stand : WordsStand text ws
  pub gap : List ℕ
  pub from : (reached (lexemes text ws)).index + length gap ≡ p
  pub stands : Has text (reached (lexemes text ws)).index gap
  pub blank : are_gap gap ≡ true
  pub deep : flow_depth (lexemes text ws) ≡ d
  pub column : c.column ≡ 0 → Starts text p
  -- no block scalar keeps its breaks, so that no `...` ends the stream
  pub plain : c.kept ≡ false

-- the words' tokens, the oldest first, before what follows
abbrev pub told : List Word → List TokenBody → List TokenBody
told [] bs = bs
told (w ∷ ws) bs = told ws (w.said.body ∷ bs)

abbrev pub bytes : List Item → List ℕ
bytes t = encode Utf8 t

-- After the words ws come more, up to a place from which on the text goes on with `rest`.
pub record GoesBehindWords (text : List ℕ) (rest : Rest) (d : ℕ) (ks : List Kind)
    (B : List TokenBody → List TokenBody) (ws : List Word) : Type 0 where
  pub behind : Cursor
  pub place : ℕ
  pub words : List Word
  pub stage : WordStage text behind place words d
  pub left : Left text place (bytes (rest behind))
  pub kinds : word_kinds words ≡ ks
  pub bodies : (bs : List TokenBody) → told words bs ≡ told ws (B bs)
  pub bare : behind.bare ≡ false

-- Where a text goes on as the layout does and then as `rest`, these kinds and these tokens come.
abbrev pub Walks : Layout → (List Kind → List Kind) → (List TokenBody → List TokenBody) → ℕ → ℕ
    → Cursor → Rest → Type 0
Walks a K B d e c rest = (text : List ℕ) (p : ℕ) (ws : List Word) → WordStage text c p ws d
    → Left text p (bytes (a c rest)) → GoesBehindWords text rest e (K (word_kinds ws)) B ws

-- the first byte, 0 at the end
abbrev pub first : List ℕ → ℕ
first [] = 0
first (b ∷ bs) = b

-- what follows a word that is not white begins with a comma or a break
abbrev pub parts : ℕ → Bool
parts b = b == ascii.comma || (b == ascii.line_feed || b == ascii.carriage_return)

abbrev pub Parts : Rest → Type 0
Parts rest = (e : Cursor) → e.bare ≡ false → parts (first (bytes (rest e))) ≡ true
