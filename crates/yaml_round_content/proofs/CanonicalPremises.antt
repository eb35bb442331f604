-- What a parser asks of directives, and that those that may be written have it.
use Rattle.std.proofs.Common.{◌≡◌, ℕ, true, false, List, [], ◌∷◌, ◌++◌, Option, Some, None, refl, bytes_eq, arith}
use Rattle.yaml_round_content.proofs.ReadBackWords.{nat_tests, list_any, or_parts, TagDirective, is_known_version, directive_for, split_tag, Opening, or_else, version_problem, handle_problem, prefix_problem, has_handle, twice_problem, directive_problem, directives_problem, opening_problem, resolved_split, or_first, none_true, or_second, none_all}
use Rattle.yaml_parse_model.specs.declared.yaml_version_directive_t.{yaml_version_directive_t}

-- under the directives each tag is resolved as it was
abbrev pub Resolves : List TagDirective → Type 0
Resolves ds = (tag : List ℕ) → resolved_split ds (split_tag ds tag) ≡ Some tag

abbrev pub IsFineVersion : Option yaml_version_directive_t → Type 0
IsFineVersion None = Unit {0}
IsFineVersion (Some v) = is_known_version v.major v.minor ≡ true

-- no handle twice
abbrev pub AreFineTags : List TagDirective → List TagDirective → Type 0
AreFineTags before [] = Unit {0}
AreFineTags before (d ∷ ds) = (directive_for d.handle before ≡ None) × AreFineTags (before ++ d ∷ []) ds

pub none_has : (h : List ℕ) (before : List TagDirective) → list_any (has_handle h) before ≡ false
    → directive_for h before ≡ None
unfolding directive_for
none_has h [] e = refl
none_has h (d ∷ ds) e = rw (or_parts (bytes_eq d.handle h) (list_any (has_handle h) ds) e).0 (none_has h ds (or_parts (bytes_eq d.handle h) (list_any (has_handle h) ds) e).1)

pub tags_fine : (before ds : List TagDirective) → directives_problem before ds ≡ None
    → AreFineTags before ds
unfolding directives_problem
tags_fine before [] e = tt
tags_fine before (d ∷ ds) e =
    let own = or_first (directive_problem before d) (directives_problem (before ++ d ∷ []) ds) e in
    let more = or_second (directive_problem before d) (directives_problem (before ++ d ∷ []) ds) e in
    let rest = or_second (handle_problem d.handle) (or_else (prefix_problem d.prefix) (twice_problem before d.handle)) own in
    let once = none_true (list_any (has_handle d.handle) before) _ (or_second (prefix_problem d.prefix) (twice_problem before d.handle) rest) in
    (none_has d.handle before once, tags_fine (before ++ d ∷ []) ds more)

pub version_fine : (v : Option yaml_version_directive_t) → version_problem v ≡ None
    → IsFineVersion v
version_fine v e = grind (arith, nat_tests, none_all)

-- Where nothing is wrong with a document's start, its version is fine.
pub fine_version : (o : Opening) → opening_problem o ≡ None → IsFineVersion o.version
fine_version o e = version_fine o.version (or_first (version_problem o.version) (directives_problem [] o.directives) e)

-- Where nothing is wrong with a document's start, its tag directives are fine.
pub fine_tags : (o : Opening) → opening_problem o ≡ None → AreFineTags [] o.directives
fine_tags o e = tags_fine [] o.directives (or_second (version_problem o.version) (directives_problem [] o.directives) e)
