-- Words that a layout writes for a node, one after the other: as content or as a key, at any depth.
use Rattle.std.specs.Prelude.{◌≡◌, ◌+◌, ℕ, ◌==◌, ◌||◌, nat_lt, if◌then◌else◌, Bool, true, false, List, [], ◌∷◌, ◌++◌, length, None, Some, Ok}
use Rattle.yaml_emit_layout.specs.scan_types.Ascii as ascii
use Rattle.yaml_emit_layout.specs.scan_types.Tokens.{TokenBody}
use Rattle.yaml_scan_history.specs.declared.kind.Kind.{Kind}
use Rattle.yaml_scan_history.specs.declared.kind.Kind.TheVariants as kinds
use Rattle.yaml_scan_history.specs.Written.{begins_lexeme}
use Rattle.yaml_scan_history.specs.Words.{kind_at, lexeme_at}
use Rattle.yaml_emit_layout.specs.declared.Cursor.{Cursor}
use Rattle.yaml_emit_layout.specs.Layout.{Layout, Rest}
use Rattle.yaml_emit_laws.specs.Walk.{Left, bytes, first}
use Rattle.yaml_scan_laws.specs.Steps.{WordLeaves}
use Rattle.yaml_emit_laws.specs.Stops.{stops_plain_at, begins_white, white_of}
use Rattle.yaml_emit_laws.specs.NodeWalk.{no_comment}

-- anchors, tags, aliases and scalars in a line
abbrev pub is_text : Kind → Bool
is_text kinds.Anchor = true
is_text kinds.Tag = true
is_text kinds.Alias = true
is_text kinds.SingleQuoted = true
is_text kinds.DoubleQuoted = true
is_text kinds.Plain = true
is_text _ = false

-- what has to be after a word
pub data Behind : Type 0 where
  -- anything
  anything : Behind
  -- a space
  space : Behind
  -- a space, a break or nothing
  white : Behind
  -- these, or in brackets a comma or a closing bracket
  name_end : Behind
  -- no single quote
  unquoted : Behind
  -- what stops a plain scalar, and is no comment
  stop : Behind

-- white, nothing, `,`, `]` or `}`
abbrev pub ends_name : List ℕ → Bool
ends_name [] = true
ends_name (b ∷ bs) = begins_white (b ∷ bs)
    || (b == ascii.comma || (b == ascii.close_bracket || b == ascii.close_brace))

abbrev pub Fits : Behind → Bool → ℕ → List ℕ → Type 0
Fits anything flow level bs = Unit {0}
Fits space flow level bs = first bs ≡ ascii.space
Fits white flow level bs = begins_white bs ≡ true
Fits name_end flow level bs = ends_name bs ≡ true
Fits unquoted flow level bs = first bs ≡ ascii.apostrophe → ⊥
Fits stop flow level bs = (stops_plain_at flow level None bs ≡ true) × (no_comment bs ≡ true)

-- A word of that kind and with that token is at a place, up to another one, before these bytes.
pub record WordStands (flow : Bool) (level : ℕ) (k : Kind) (body : TokenBody) (text : List ℕ)
    (p e : ℕ) (bs : List ℕ) : Type 0 where
  pub begins : begins_lexeme text p ≡ true
  pub kind : kind_at flow text p ≡ Some k
  pub end : ℕ
  pub reached : ℕ
  pub broke : Bool
  pub word : lexeme_at k flow level text p
      ≡ Ok record { body = body; end = end; reached = reached; broke = broke }
  pub near : (k ≡ kinds.Plain → white_of bs ≡ []) → reached ≡ e
  pub wide : Bool
  pub block : flow ≡ false → wide ≡ true
  pub leaves : (d : ℕ) → nat_lt 0 d ≡ flow → WordLeaves text d false
      record { body = body; end = end; reached = reached; broke = broke } e false wide

-- A word, and whether a space is before it. Wherever its bytes are before what fits, it is read.
pub record Spoken (flow : Bool) (level : ℕ) : Type 0 where
  pub spaced : Bool
  pub own : List ℕ
  pub kind : Kind
  pub body : TokenBody
  pub wants : Behind
  pub plain : is_text kind ≡ true
  pub stands : (text : List ℕ) (p : ℕ) (bs : List ℕ) → Left text p (own ++ bs)
      → Fits wants flow level bs → WordStands flow level kind body text p (p + length own) bs

abbrev pub spoken_bytes : {flow : Bool} {level : ℕ} → Spoken flow level → List ℕ
spoken_bytes w = if w.spaced then ascii.space ∷ w.own else w.own

abbrev pub all_bytes : {flow : Bool} {level : ℕ} → List (Spoken flow level) → List ℕ
all_bytes [] = []
all_bytes (w ∷ ws) = spoken_bytes w ++ all_bytes ws

abbrev pub all_bodies : {flow : Bool} {level : ℕ} → List (Spoken flow level) → List TokenBody
    → List TokenBody
all_bodies [] bs = bs
all_bodies (w ∷ ws) bs = w.body ∷ all_bodies ws bs

-- each word is before what fits
abbrev pub AllFit : {flow : Bool} {level : ℕ} → List (Spoken flow level) → List ℕ → Type 0
AllFit {flow} {level} [] bs = Unit {0}
AllFit {flow} {level} (w ∷ ws) bs = Fits w.wants flow level (all_bytes ws ++ bs) × AllFit ws bs

-- From a cursor on, a layout writes these words, whatever follows.
pub record SaysTokens (flow : Bool) (level : ℕ) (a : Layout) (c : Cursor)
    (ws : List (Spoken flow level)) : Type 0 where
  pub behind : Cursor
  pub written : (rest : Rest) → bytes (a c rest) ≡ all_bytes ws ++ bytes (rest behind)
  pub bare : behind.bare ≡ false
  pub white : behind.white ≡ false
  pub kept : behind.kept ≡ c.kept
