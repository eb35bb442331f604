-- The prefixes of directives in the order of their bytes, and the first one that a tag begins with.
use Rattle.std.specs.Prelude.{◌≡◌, ℕ, zero, suc, ◌+◌, ◌<◌, ◌≤◌, true, nat_le, if◌then◌else◌, List, [], ◌∷◌, length, slice_index_or, Option, Some, None, Vec}
use Rattle.std.specs.Global.{Global}
use Rattle.std.specs.declared.cmp.Ordering.{Ordering}
use Rattle.std.specs.Ordering.{nat_cmp, ordering_then}
use Rattle.std.specs.Cmp.Lexicographic.{slice_cmp}
use Rattle.std.specs.List.Sorted.{IsPermutation, IsSorted}
use Rattle.yaml_parse_model.specs.Events.{TagDirective}
use Rattle.yaml_emit_layout.specs.Tags.{has_shorter_prefix, directive_for}

-- a prefix and the number of its directive
abbrev pub Entry : Type 0
Entry = List ℕ × ℕ

abbrev pub entry_of : Vec ℕ Global × ℕ → Entry
entry_of e = (e.0.items, e.1)

abbrev pub at : List Entry → ℕ → Entry
at xs k = slice_index_or xs k ([], 0)

-- by their bytes, equal ones by their numbers
abbrev pub entry_cmp : Entry → Entry → Ordering
entry_cmp a b = ordering_then (slice_cmp nat_cmp a.0 b.0) (nat_cmp a.1 b.1)

-- the byte at a place plus one, or 0 after the end
unfoldable pub key : List ℕ → ℕ → ℕ
key [] d = 0
key (b ∷ bs) zero = b + 1
key (b ∷ bs) (suc d) = key bs d

abbrev pub smaller : Option ℕ → Option ℕ → Option ℕ
smaller None b = b
smaller (Some m) None = Some m
smaller (Some m) (Some n) = Some (if nat_le m n then m else n)

-- the prefixes of directives with their numbers, from a first one
unfoldable pub numbered : ℕ → List TagDirective → List Entry
numbered n [] = []
numbered n (d ∷ ds) = (d.prefix, n) ∷ numbered (n + 1) ds

-- all of them, sorted
pub record IsIndex (ds : List TagDirective) (xs : List Entry) : Type 0 where
  pub all : IsPermutation (numbered 0 ds) xs
  pub sorted : IsSorted entry_cmp xs

abbrev pub IsAtMost : Option ℕ → ℕ → Type 0
IsAtMost None m = ⊥
IsAtMost (Some n) m = n ≤ m

-- the number is beside a strictly shorter prefix of the tag
abbrev pub IsFound : List Entry → List ℕ → Option ℕ → Type 0
IsFound xs tag None = Unit {0}
IsFound xs tag (Some n) = (k : ℕ) × (k < length xs) × (has_shorter_prefix (at xs k).0 tag ≡ true)
    × ((at xs k).1 ≡ n)

-- the smallest number beside a strictly shorter prefix of the tag that has fewer bytes than this
pub record IsFirstShorter (xs : List Entry) (tag : List ℕ) (depth : ℕ) (best : Option ℕ) : Type 0
  where
    pub found : IsFound xs tag best
    pub least : (k : ℕ) → k < length xs → has_shorter_prefix (at xs k).0 tag ≡ true
        → length (at xs k).0 < depth → IsAtMost best (at xs k).1

-- a directive of a list
abbrev pub directive_at : List TagDirective → ℕ → TagDirective
directive_at ds n = slice_index_or ds n (record { handle = []; prefix = [] })

-- the number of the first directive whose prefix is a strictly shorter prefix of the tag
abbrev pub IsNumber : List TagDirective → List ℕ → Option ℕ → Type 0
IsNumber ds tag None = directive_for ds tag ≡ None
IsNumber ds tag (Some n) = (n < length ds) × (length (directive_at ds n).prefix < length tag)
    × (directive_for ds tag ≡ Some (directive_at ds n))
