-- Collections in brackets, and what is in them, at any depth.
use Rattle.std.specs.Prelude.{◌≡◌, ◌⊎◌, ◌≤◌, ℕ, nat_lt, Bool, true, false, List, [], ◌∷◌, None}
use Rattle.yaml_emit_layout.specs.scan_types.Ascii as ascii
use Rattle.yaml_emit_layout.specs.scan_model.declared.name.yaml_encoding_t.{yaml_encoding_t}
use Rattle.yaml_emit_layout.specs.scan_types.Tokens as tokens
use Rattle.yaml_emit_layout.specs.scan_types.Tokens.{TokenBody}
use Rattle.yaml_scan_history.specs.History.{indent}
use Rattle.yaml_emit_layout.specs.declared.Cursor.{Cursor}
use Rattle.yaml_emit_layout.specs.declared.Settings.{Settings}
use Rattle.yaml_emit_layout.specs.Layout.{Layout, Rest, ◌▹◌, char}
use Rattle.yaml_emit_layout.specs.declared.level.Part.TheVariants as part
use Rattle.yaml_emit_layout.specs.Content.{Opening, Node}
use Rattle.yaml_emit_layout.specs.Nodes.{Context, context_of, position, is_simple, node_layout}
use Rattle.yaml_emit_laws.specs.Walk.{Left, bytes}
use Rattle.yaml_emit_laws.specs.Writable.{IsWritable}
use Rattle.yaml_scan_laws.specs.Walks.{WalkState, WalkReads, Outside}
use Rattle.yaml_emit_laws.specs.Stops.{stops_plain_at}
use Rattle.yaml_emit_laws.specs.NodeBodies.{node_bodies}
use Rattle.yaml_emit_laws.specs.NodeWalk.{no_comment}
use Rattle.yaml_emit_laws.specs.Nodes.{IsPretty, PartedBehind, PropertiesAreWalked, BracketsAreWalked}
use Rattle.yaml_emit_laws.specs.Spoken.{ends_name}

-- Content may be there: each `?` whose `:` is to come is further out, or it is in the same brackets and no key may begin.
abbrev pub IsClear : WalkState → List ℕ → Type 0
IsClear o cs = Outside o.depth cs ⊎ ((ds : List ℕ) × (cs ≡ o.depth ∷ ds) × Outside o.depth ds
    × (o.now ≡ false))

-- After a node in brackets, of which that many are open.
pub record GoesIn (x : yaml_encoding_t) (text : List ℕ) (rest : Rest) (kept : Bool) (d : ℕ)
    (cs ls : List ℕ) (T : List TokenBody → List TokenBody) : Type 0 where
  pub behind : Cursor
  pub place : WalkState
  pub reads : WalkReads x text place cs ls [] T
  pub deep : place.depth ≡ d
  pub now : place.now ≡ false
  pub left : Left text place.at (bytes (rest behind))
  pub bare : behind.bare ≡ false
  pub white : behind.white ≡ false
  pub same : behind.kept ≡ kept

-- Where a text goes on as the layout does and then as `rest`, in brackets, these tokens come.
abbrev pub WalksIn : Layout → (List TokenBody → List TokenBody) → List ℕ → Cursor → Rest → Type 0
WalksIn a B ls c rest = (x : yaml_encoding_t) (text : List ℕ) (o : WalkState) (cs : List ℕ)
    (T : List TokenBody → List TokenBody) → WalkReads x text o cs ls [] T → nat_lt 0 o.depth ≡ true
    → IsClear o cs → Left text o.at (bytes (a c rest))
    → GoesIn x text rest c.kept o.depth cs ls (λ bs. T (B bs))

-- What follows a node in brackets stops a plain scalar, is no comment, and ends a name.
pub record FollowsIn (rest : Rest) : Type 0 where
  pub stops : (level : ℕ) (e : Cursor) → e.bare ≡ false → e.white ≡ false
      → stops_plain_at true level None (bytes (rest e)) ≡ true
  pub calm : (e : Cursor) → e.bare ≡ false → e.white ≡ false
      → no_comment (bytes (rest e)) ≡ true
  pub name : (e : Cursor) → e.bare ≡ false → e.white ≡ false → ends_name (bytes (rest e)) ≡ true

-- ---- simple keys

-- A simple key in brackets and its `:`, where a key may begin.
abbrev pub KeyWalksIn : Context → Node → Type 0
KeyWalksIn p k = (n : ℕ) (ls : List ℕ) (c : Cursor) (rest : Rest) → indent ls ≤ n
    → PartedBehind rest
    → (x : yaml_encoding_t) (text : List ℕ) (o : WalkState) (cs : List ℕ)
    (T : List TokenBody → List TokenBody) → WalkReads x text o cs ls [] T → nat_lt 0 o.depth ≡ true
    → o.now ≡ true → Outside o.depth cs
    → Left text o.at (bytes ((node_layout p (position true n part.SimpleKey) k
    ▹ char ascii.colon) c rest))
    → GoesIn x text rest c.kept o.depth cs ls (λ bs. T (tokens.key
    ∷ node_bodies p true part.SimpleKey false k (tokens.value ∷ bs)))

-- All simple keys that may be written.
abbrev pub KeysAreWalkedIn : Type 0
KeysAreWalkedIn = (s : Settings) (d : Opening) → IsPretty s d → (k : Node) → IsWritable k
    → is_simple (context_of s d.directives) k ≡ true → KeyWalksIn (context_of s d.directives) k

-- With these and properties all collections in brackets are walked.
abbrev pub BracketsFollow : Type 0
BracketsFollow = KeysAreWalkedIn → PropertiesAreWalked → BracketsAreWalked
