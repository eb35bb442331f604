-- Simple keys stay in one line, and near.
use Rattle.std.specs.Prelude.{◌≡◌, ℕ, ◌+◌, ◌≤◌, Bool, true, List, ◌++◌, length, encode_utf8_all}
use Rattle.yaml_emit_layout.specs.scan_types.Marks.{mark_at}
use Rattle.yaml_scan_history.specs.Written.{HasAt}
use Rattle.yaml_scan_history.specs.History.{key_bytes, is_fresh}
use Rattle.yaml_emit_layout.specs.declared.Cursor.{Cursor}
use Rattle.yaml_emit_layout.specs.declared.Settings.{Settings}
use Rattle.yaml_emit_layout.specs.Layout.{Layout, Rest}
use Rattle.yaml_emit_layout.specs.declared.level.Part.TheVariants as part
use Rattle.yaml_emit_layout.specs.Content.{Node, Opening}
use Rattle.yaml_emit_layout.specs.Nodes.{context_of, position, is_simple, node_layout}
use Rattle.yaml_emit_laws.specs.ReadBack.{is_one_line}
use Rattle.yaml_emit_laws.specs.Walk.{bytes}
use Rattle.yaml_emit_laws.specs.Writable.{IsWritable, IsWritableOpening}

-- From a cursor on, a layout writes characters that end no line, of at most that many bytes, whatever follows.
pub record StaysNear (a : Layout) (c : Cursor) (n : ℕ) : Type 0 where
  pub shown : List ℕ
  pub behind : Cursor
  pub written : (rest : Rest) → bytes (a c rest) ≡ encode_utf8_all shown ++ bytes (rest behind)
  pub inside : is_one_line shown ≡ true
  pub few : length (encode_utf8_all shown) ≤ n

-- What is written for a simple key, with its properties and the space that is due before it, ends
-- no line, and has at most 530 bytes: under all settings, wherever it is.
abbrev pub SimpleKeysAreNear : Type 0
SimpleKeysAreNear = (s : Settings) (o : Opening) → IsWritableOpening o → (k : Node) → IsWritable k
    → is_simple (context_of s o.directives) k ≡ true → (flow : Bool) (n : ℕ) (c : Cursor)
    → StaysNear (node_layout (context_of s o.directives) (position flow n part.SimpleKey) k) c 530

-- Where a text has what stays so near, its end is fresh from each of its places on.
abbrev pub NearIsFresh : Type 0
NearIsFresh = (a : Layout) (c : Cursor) (n : ℕ) → n ≤ key_bytes → (near : StaysNear a c n)
    → (text : List ℕ) (p : ℕ) → HasAt text p (encode_utf8_all near.shown) → (k : ℕ)
    → is_fresh (mark_at text (p + k)) (mark_at text (p + length (encode_utf8_all near.shown)))
    ≡ true
