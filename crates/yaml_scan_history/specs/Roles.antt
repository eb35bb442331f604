-- What lexemes are to keys and brackets, by their roles: each kind has one, and what a kind decides follows from it.
use Rattle.std.specs.Prelude.{◌≡◌, ℕ, ◌+◌, ◌-◌, Bool, true, false, not, ◌&&◌}
use Rattle.yaml_scan_history.specs.declared.kind.Kind.{Kind}
use Rattle.yaml_scan_history.specs.declared.kind.Kind.TheVariants as kinds
use Rattle.yaml_scan_history.specs.Kinds as by_kind

pub data Role : Type 0 where
  -- the start of the stream
  Beginning : Role
  -- its end, a directive, `---` and `...`: they are outside of all collections
  Boundary : Role
  -- `[` and `{`
  Opener : Role
  -- `]` and `}`
  Closer : Role
  -- `,`
  Comma : Role
  -- `-`
  Dash : Role
  -- `?`
  Question : Role
  -- `:`
  Colon : Role
  -- an alias, an anchor, a tag, a quoted scalar or a plain one: they may be in brackets, and in a key
  Word : Role
  -- a literal or folded scalar: lines of its own
  Block : Role

abbrev pub role_of : Kind → Role
role_of kinds.StreamStart = Beginning
role_of kinds.StreamEnd = Boundary
role_of kinds.Directive = Boundary
role_of kinds.DocumentStart = Boundary
role_of kinds.DocumentEnd = Boundary
role_of kinds.FlowSequenceStart = Opener
role_of kinds.FlowMappingStart = Opener
role_of kinds.FlowSequenceEnd = Closer
role_of kinds.FlowMappingEnd = Closer
role_of kinds.FlowEntry = Comma
role_of kinds.BlockEntry = Dash
role_of kinds.KeyMark = Question
role_of kinds.ValueMark = Colon
role_of kinds.Alias = Word
role_of kinds.Anchor = Word
role_of kinds.Tag = Word
role_of kinds.SingleQuoted = Word
role_of kinds.DoubleQuoted = Word
role_of kinds.Plain = Word
role_of kinds.Literal = Block
role_of kinds.Folded = Block

-- An opener is one bracket more; a closer one less, where one is open.
abbrev pub brackets_behind : Role → ℕ → ℕ
brackets_behind Opener d = d + 1
brackets_behind Closer d = d - 1
brackets_behind _ d = d

-- A simple key begins with a word or a bracket.
abbrev pub begins_key : Role → Bool
begins_key Word = true
begins_key Opener = true
begins_key _ = false

-- All that doesn't begin one ends what was begun; before the stream's start there is nothing.
abbrev pub ends_key : Role → Bool
ends_key Beginning = false
ends_key r = not (begins_key r)

-- `-`, `?` and `:` open block collections.
abbrev pub opens_block : Role → Bool
opens_block Dash = true
opens_block Question = true
opens_block Colon = true
opens_block _ = false

abbrev pub is_boundary : Role → Bool
is_boundary Boundary = true
is_boundary _ = false

-- A key may follow on the same line where an entry begins: at the stream's start, after an opener, a comma, a dash and a block scalar;
-- outside of brackets after `?` too, and after a `:` with no key before it.
abbrev pub may_precede_key : Role → Bool → Bool → Bool
may_precede_key Question block found = block
may_precede_key Colon block found = block && not found
may_precede_key Beginning block found = true
may_precede_key Opener block found = true
may_precede_key Comma block found = true
may_precede_key Dash block found = true
may_precede_key Block block found = true
may_precede_key Boundary block found = false
may_precede_key Closer block found = false
may_precede_key Word block found = false

-- What each kind decides is what its role decides.
pub record KindsHaveRoles : Type 0 where
  pub depth : (k : Kind) (d : ℕ) → by_kind.depth_after k d ≡ brackets_behind (role_of k) d
  pub key : (k : Kind) → by_kind.may_be_key k ≡ begins_key (role_of k)
  pub cancels : (k : Kind) → by_kind.cancels k ≡ ends_key (role_of k)
  pub start : (k : Kind) → by_kind.is_start k ≡ opens_block (role_of k)
  pub outside : (k : Kind) → by_kind.is_outside k ≡ is_boundary (role_of k)
  pub allows : (k : Kind) (block found : Bool)
      → by_kind.allows_key k block found ≡ may_precede_key (role_of k) block found
