-- Keys as the candidates of a history.
use Rattle.std.specs.Prelude.{ℕ, ◌+◌, ◌-◌, ◌≡◌, ◌≤◌, ◌<◌, ◌==◌, nat_lt, min, Bool, false, ◌&&◌, ◌++◌, if◌then◌else◌, List, [], ◌∷◌, length, take, vec_capacity, slice_index_or, slice_set, Option, Some, None}
use Rattle.yaml_scan_model.specs.declared.record.yaml_mark_t.{yaml_mark_t}
use Rattle.yaml_scan_model.specs.scan_types.Marks.{line_at}
use Rattle.yaml_scan_history.specs.declared.lexeme.Lexeme.{Lexeme}
use Rattle.yaml_scan_history.specs.History.{Candidate, candidate, flow_depth, fresh, is_fresh}
use Rattle.yaml_scan_history.specs.Laws.{Upto}
use Rattle.yaml_scan_core.specs.declared.keys.SimpleKey.{SimpleKey}
use Rattle.yaml_scan_core.specs.declared.keys.Keys.{Keys}

-- ---- what the code does

-- keys of the open flow levels, the block level's first; how many of the outermost are passed; and whether the block level's is required
pub record KeyStack : Type 0 where
  pub levels : List SimpleKey
  pub passed : ℕ
  pub required : Bool

abbrev pub stack_of : Keys → KeyStack
stack_of k = record { levels = k.levels.items; passed = k.passed; required = k.required }

-- there is none
abbrev pub no_key : SimpleKey
no_key = record { possible = false; number = 0; index = 0; column = 0 }

-- the key of a level
abbrev pub key_at : KeyStack → ℕ → SimpleKey
key_at s d = slice_index_or s.levels d no_key

-- the innermost level
abbrev pub inner : KeyStack → ℕ
inner s = length s.levels - 1

-- another key is that of the innermost level; of the block level's it is kept whether one is
-- required
abbrev pub saved : SimpleKey → Bool → KeyStack → KeyStack
saved k required s = record {
  levels = slice_set s.levels (inner s) k;
  passed = min s.passed (inner s);
  required = if inner s == 0 then required else s.required;
}

-- the innermost level has none
abbrev pub given_up : KeyStack → KeyStack
given_up s = record {
  levels = slice_set s.levels (inner s) (record (key_at s (inner s)) { possible = false });
  passed = s.passed;
  required = if inner s == 0 then false else s.required;
}

-- a level more, with none
abbrev pub opened : KeyStack → KeyStack
opened s = record s { levels = s.levels ++ no_key ∷ [] }

-- a level less
abbrev pub closed : KeyStack → KeyStack
closed s = record s { levels = take (inner s) s.levels; passed = min s.passed (inner s) }

-- the innermost level is left; the block level's key is given up
abbrev pub left : KeyStack → KeyStack
left s = if nat_lt 0 (inner s) then closed s else given_up s

-- there is room for a level more
abbrev pub HasRoom : Keys → Type 0
HasRoom k = length k.levels.items < vec_capacity k.levels

-- ---- what keys are

-- what is read of a candidate
pub record KeyView : Type 0 where
  pub number : ℕ
  pub start : yaml_mark_t

abbrev pub view_of : Option Candidate → Option KeyView
view_of None = None
view_of (Some c) = Some (record { number = c.number; start = c.lexeme.start })

abbrev pub number_in : Option KeyView → Option ℕ
number_in None = None
number_in (Some v) = Some v.number

-- where a key starts
abbrev pub key_mark : List ℕ → SimpleKey → yaml_mark_t
key_mark text k = record { index = k.index; line = line_at text k.index; column = k.column }

abbrev pub key_view : List ℕ → SimpleKey → KeyView
key_view text k = record { number = k.number; start = key_mark text k }

-- the key, where there is one that isn't stale at that place
abbrev pub fresh_key : List ℕ → SimpleKey → yaml_mark_t → Option KeyView
fresh_key text k place = if k.possible && is_fresh (key_mark text k) place
    then Some (key_view text k) else None

-- that many of the outermost levels have none, or one that is stale there
abbrev pub AreStale : List ℕ → KeyStack → yaml_mark_t → Type 0
AreStale text s place = (d : ℕ) → d < s.passed → fresh_key text (key_at s d) place ≡ None

-- From that place on the key is the candidate, as far as they aren't stale.
abbrev pub IsKey : List ℕ → SimpleKey → Option Candidate → yaml_mark_t → Type 0
IsKey text k o place = (q : yaml_mark_t) → Upto place q
    → fresh_key text k q ≡ view_of (fresh o q)

-- the start of a candidate whose `:` must come
abbrev pub required_in : Option Candidate → Option yaml_mark_t
required_in None = None
required_in (Some c) = if c.lexeme.required then Some c.lexeme.start else None

-- the start of the block level's key, where its `:` must come
abbrev pub required_at : List ℕ → KeyStack → Option yaml_mark_t
required_at text s = if s.required then Some (key_mark text (key_at s 0)) else None

-- the same where no bracket is open
abbrev pub cancelled_at : List ℕ → KeyStack → Option yaml_mark_t
cancelled_at text s = if nat_lt 0 (inner s) then None else required_at text s

-- the start, where it is stale at a place
abbrev pub late : Option yaml_mark_t → yaml_mark_t → Option yaml_mark_t
late None place = None
late (Some start) place = if is_fresh start place then None else Some start

abbrev pub index_in : Option yaml_mark_t → Option ℕ
index_in None = None
index_in (Some m) = Some m.index

-- no key is after the text's end, which has that many bytes
abbrev pub AreWithin : ℕ → KeyStack → Type 0
AreWithin n s = (d : ℕ) → (key_at s d).index ≤ n

-- The keys are the candidates of all levels up to that depth.
pub record AreKeysTo (n : ℕ) (text : List ℕ) (s : KeyStack) (h : List Lexeme) (place : yaml_mark_t)
    : Type 0 where
  pub long : length s.levels ≡ n + 1
  pub inside : AreWithin (length text) s
  pub agrees : (d : ℕ) → d ≤ n → IsKey text (key_at s d) (candidate d h) place
  pub few : s.passed ≤ length s.levels
  pub stale : AreStale text s place
  pub due : required_in (candidate 0 h) ≡ required_at text s

abbrev pub AreKeys : List ℕ → KeyStack → List Lexeme → yaml_mark_t → Type 0
AreKeys text s h place = AreKeysTo (flow_depth h) text s h place
