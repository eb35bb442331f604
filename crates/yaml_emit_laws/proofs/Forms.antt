-- Forms of what is shown on the way: words before a space, and lines.
use Rattle.std.specs.Prelude.{◌≡◌, ℕ, Bool, true, false, List, [], ◌∷◌, Some}
use Rattle.yaml_emit_laws.proofs.Shared.{TokenBody, Kind, TagDirective, Cursor, Settings, Layout, Rest, word, ◌▹◌, tag_spelling, split_tag, Opening, Context, version_text, directives_text, Word, word_kinds, version_kinds, directives_kinds, tag_body, version_bodies, directives_bodies, IsWritableTag, bytes, first, Left, WordStage, told, Walks}
use Rattle.yaml_emit_layout.specs.scan_types.Tokens as tokens
use Rattle.yaml_scan_history.specs.declared.kind.Kind.TheVariants as kinds

-- settings in canonical form, and a context of them
abbrev pub canonically : Settings → List TagDirective → Context
canonically s ds = record { settings = record { encoding = s.encoding; canonical = true; indent = s.indent; width = s.width; unicode = s.unicode; line_break = s.line_break }; directives = ds }

-- a layout that begins with a space where none was last
pub record Spaced (a : Layout) (rest : Rest) (e : Cursor) : Type 0 where
  pub more : List ℕ
  pub same : bytes (a e rest) ≡ 32 ∷ more

abbrev pub BeginsBlank : Layout → Rest → Type 0
BeginsBlank a rest = (e : Cursor) → e.white ≡ false → Spaced a rest e

-- a tag before what begins with a space
abbrev pub TagWalks : List TagDirective → Type 0
TagWalks ds = (t : List ℕ) → IsWritableTag (Some t) → (b : Layout) (K : List Kind → List Kind) (B : List TokenBody → List TokenBody) (d e : ℕ) (rest : Rest)
    → BeginsBlank b rest → ((c : Cursor) → Walks b K B d e c rest) → (c : Cursor)
    → Walks (word (tag_spelling ds t) ▹ b) (λ ks. K (kinds.Tag ∷ ks)) (λ bs. tag_body (split_tag ds t) ∷ B bs) d e c rest

-- so is `!` alone
abbrev pub MarkWalks : Type 0
MarkWalks = (b : Layout) (K : List Kind → List Kind) (B : List TokenBody → List TokenBody) (d e : ℕ) (rest : Rest)
    → BeginsBlank b rest → ((c : Cursor) → Walks b K B d e c rest) → (c : Cursor)
    → Walks (word (33 ∷ []) ▹ b) (λ ks. K (kinds.Tag ∷ ks)) (λ bs. tokens.tag [] (33 ∷ []) ∷ B bs) d e c rest

abbrev pub canonical_settings : Settings → Settings
canonical_settings s = (canonically s []).settings

-- ---- documents

-- the cursor at the start of a line
abbrev pub at_line : Bool → Cursor
at_line kept = record { column = 0; white = true; bare = true; kept = kept }

-- After the words ws come more, up to the start of a line from which on the text goes on with `rest`.
pub record Lands (text : List ℕ) (rest : Rest) (ks : List Kind) (B : List TokenBody → List TokenBody) (ws : List Word) : Type 0 where
  pub kept : Bool
  pub place : ℕ
  pub words : List Word
  pub stage : WordStage text (at_line kept) place words 0
  pub left : Left text place (bytes (rest (at_line kept)))
  pub kinds : word_kinds words ≡ ks
  pub bodies : (bs : List TokenBody) → told words bs ≡ told ws (B bs)

abbrev pub LinesWalkTo : Rest → Layout → (List Kind → List Kind) → (List TokenBody → List TokenBody)
    → Type 0
LinesWalkTo rest a K B = (kept : Bool) (text : List ℕ) (p : ℕ) (ws : List Word) → WordStage text (at_line kept) p ws 0 → Left text p (bytes (a (at_line kept) rest)) → Lands text rest (K (word_kinds ws)) B ws

abbrev pub LinesWalk : Layout → (List Kind → List Kind) → (List TokenBody → List TokenBody) → Type 0
LinesWalk a K B = (rest : Rest) → LinesWalkTo rest a K B

-- what follows begins with no line feed: after CR that would belong to one break with it
abbrev pub NoFeed : Rest → Type 0
NoFeed rest = (kept : Bool) → first (bytes (rest (at_line kept))) ≡ 10 → ⊥

-- the lines of a document's directives
abbrev pub DirectivesWalk : Settings → Opening → Type 0
DirectivesWalk s o = (rest : Rest) → NoFeed rest → LinesWalkTo rest (version_text s o.version ▹ directives_text s o.directives) (λ ks. directives_kinds o.directives (version_kinds o.version ks)) (λ bs. version_bodies o.version (directives_bodies o.directives bs))
