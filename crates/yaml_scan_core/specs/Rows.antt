-- What the code does to a row of lexemes.
use Rattle.std.specs.Prelude.{ℕ, ◌+◌, ◌-◌, ◌==◌, ◌<◌, ◌⊎◌, Bool, true, false, not, if◌then◌else◌, List, [], ◌∷◌, ◌++◌, length, nat_lt, bit_and, bit_or, slice_index_or, slice_set, vec_capacity, take}
use Rattle.yaml_scan_model.specs.declared.name.yaml_scalar_style_t.TheVariants as styles
use Rattle.yaml_scan_model.specs.declared.kind.Kind.{Kind}
use Rattle.yaml_scan_model.specs.declared.kind.Kind.TheVariants as kinds
use Rattle.yaml_scan_core.specs.declared.lexeme.Lexeme.{Lexeme}
use Rattle.yaml_scan_core.specs.declared.lexeme.Note.{Note}
use Rattle.yaml_scan_core.specs.declared.row.Row.{Row}

-- ---- a lexeme

abbrev pub is_set : ℕ → Lexeme → Bool
is_set flag x = not (bit_and x.flags flag == 0)

-- the kind of its first token after a block's start
abbrev pub behind_start : Lexeme → Kind
behind_start x = if is_set 4 x then kinds.Key else x.kind

-- the kind of its first token
abbrev pub first_kind : Lexeme → Kind
first_kind x = if nat_lt 0 x.ends then kinds.BlockEnd
    else if is_set 1 x then kinds.BlockSequenceStart
    else if is_set 2 x then kinds.BlockMappingStart
    else behind_start x

-- the same, of which nothing is taken
abbrev pub whole : Lexeme → Lexeme
whole x = record x { front = first_kind x }

abbrev pub key_flags : Bool → ℕ → ℕ
key_flags mapping flags = if mapping then bit_or (bit_or flags 4) 2 else bit_or flags 4

-- the same as a key, before which a mapping opens or nothing
abbrev pub keyed : Bool → Lexeme → Lexeme
keyed mapping x = whole (record x { flags = key_flags mapping x.flags })

abbrev pub noted : ℕ → Lexeme → Lexeme
noted number x = record x { end = number; flags = bit_or x.flags 8 }

-- a lexeme that carries nothing
abbrev pub bare : Kind → ℕ → ℕ → ℕ → ℕ → Lexeme
bare kind ends start end flags = whole record {
  start = start;
  end = end;
  ends = ends;
  kind = kind;
  front = kind;
  style = styles.YAML_ANY_SCALAR_STYLE;
  flags = flags;
}

-- such a token may be before a lexeme's own one
abbrev pub may_lead : Kind → Bool
may_lead kinds.BlockEnd = true
may_lead kinds.BlockSequenceStart = true
may_lead kinds.BlockMappingStart = true
may_lead kinds.Key = true
may_lead _ = false

-- ---- a row

pub record RowView : Type 0 where
  pub lexemes : List Lexeme
  pub next : ℕ
  pub settled : ℕ
  pub dropped : ℕ
  pub notes : List Note
  pub arena : List ℕ

abbrev pub row_of : Row → RowView
row_of r = record {
  lexemes = r.lexemes.items;
  next = r.next;
  settled = r.settled;
  dropped = r.dropped;
  notes = r.notes.items;
  arena = r.arena.items;
}

-- there is room for one lexeme more
abbrev pub HasRoom : Row → Type 0
HasRoom r = length r.lexemes.items < vec_capacity r.lexemes

abbrev pub no_lexeme : Lexeme
no_lexeme = bare kinds.Failed 0 0 0 0

abbrev pub row_lexeme : RowView → ℕ → Lexeme
row_lexeme r i = slice_index_or r.lexemes i no_lexeme

-- a token waits that no later lexeme changes: one of a settled lexeme, or a BLOCK-END
abbrev pub IsThere : RowView → Type 0
IsThere r = (r.next < r.settled) ⊎ ((r.next < length r.lexemes) × (0 < (row_lexeme r r.next).ends))

abbrev pub pushed : Lexeme → RowView → RowView
pushed x r = record r { lexemes = r.lexemes ++ x ∷ [] }

abbrev pub pushed_noted : Lexeme → Note → RowView → RowView
pushed_noted x n r = record r {
  lexemes = r.lexemes ++ noted (length r.notes) x ∷ [];
  notes = r.notes ++ n ∷ [];
}

-- the lexeme of that number is a key
abbrev pub key_marked : ℕ → Bool → RowView → RowView
key_marked number mapping r = record r {
  lexemes = slice_set r.lexemes (number - r.dropped)
      (keyed mapping (row_lexeme r (number - r.dropped)));
}

-- What is after the settled lexemes where they end in a fault: the BLOCK-ENDs of the first of the others. Where there
-- is none it ends after its start.
abbrev pub lost_at : RowView → Lexeme
lost_at r = if nat_lt r.settled (length r.lexemes)
    then bare kinds.Failed (row_lexeme r r.settled).ends (row_lexeme r r.settled).start
    (row_lexeme r r.settled).start 0
    else bare kinds.Failed 0 0 1 0

-- it means a fault after which no lexeme is lost
abbrev pub loses_none_by : Kind → ℕ → ℕ → Bool
loses_none_by kinds.Failed start end = nat_lt start end
loses_none_by _ start end = false

abbrev pub loses_none : Lexeme → Bool
loses_none x = loses_none_by x.kind x.start x.end

abbrev pub failed : RowView → RowView
failed r = record r {
  lexemes = take r.settled r.lexemes ++ lost_at r ∷ [];
  settled = r.settled + 1;
}

-- a lexeme after its first token that isn't taken, of that kind, which isn't its own
abbrev pub behind_lead : Kind → Lexeme → Lexeme
behind_lead kinds.BlockEnd x = whole (record x { ends = x.ends - 1 })
behind_lead kinds.Key x = record x { front = x.kind }
behind_lead _ x = record x { front = behind_start x }

-- the first lexeme that isn't taken is after such a token
abbrev pub led : RowView → RowView
led r = record r {
  lexemes = slice_set r.lexemes r.next
      (behind_lead (row_lexeme r r.next).front (row_lexeme r r.next));
}
