-- What an input's event says may be written.
use Rattle.std.proofs.Common.{◌≡◌, ℕ, ◌<◌, Bool, true, false, ◌==◌, if◌then◌else◌, List, [], ◌∷◌, Option, Some, None, IsUtf8, codes, arith}
use Rattle.yaml_round_content.proofs.Words.{nat_tests, bytes_eq-Decides, true≢false, yaml_scalar_style_t, AreUtf8, EventBody, TagDirective, Told, Problem, emitter_event, or_else, name_problem, anchor_problem, tag_problem, event_problem, last_problem, own_problem, own_problems, is_lone_mark, normalize_scalar, normalize_body, content_of, emitter_events, contents, HaveUtf8Texts, HasUtf8, IsUtf8Option, Opening, opening_problem, IsAnchor, IsTag, HavePrefixes, or_both}
use Rattle.yaml_parse_model.specs.Events as event
use Rattle.yaml_round_content.specs.Writable.{IsName}
use Rattle.yaml_round_content.proofs.Scalars.{IsScalarRight, IsRight, AreRight}

-- ---- what an event says

abbrev pub IsOpening : Opening → Type 0
IsOpening o = (opening_problem o ≡ None) × HavePrefixes o.directives

abbrev pub IsScalarTag : Option (List ℕ) → Type 0
IsScalarTag None = Unit {0}
IsScalarTag (Some t) = IsTag (Some t) × (t ≡ codes "!" → ⊥)

abbrev pub MaySay : EventBody → Type 0
MaySay (event.document_start version directives implicit) = IsOpening (record { version = version; directives = directives; implicit = true })
MaySay (event.alias name) = IsName name
MaySay (event.scalar anchor tag value plain quoted style) = IsAnchor anchor × IsScalarTag tag × IsUtf8 value
MaySay (event.sequence_start anchor tag implicit style) = IsAnchor anchor × IsTag tag
MaySay (event.mapping_start anchor tag implicit style) = IsAnchor anchor × IsTag tag
MaySay _ = Unit {0}

abbrev pub MaySayAll : List EventBody → Type 0
MaySayAll [] = Unit {0}
MaySayAll (b ∷ bs) = MaySay b × MaySayAll bs

-- ---- names and tags without problem

-- what is not 0 is more
pub some_byte : (n : ℕ) → (n == 0) ≡ false → 0 < n
some_byte n h = grind (arith, nat_tests)

-- of two tests, each with its problem, neither has one
pub tests_of : (none all : Bool) (p q : Problem)
    → (if none then Some p else if all then None else Some q) ≡ None → (none ≡ false) × (all ≡ true)
tests_of none all p q e = grind (arith, nat_tests)

name_writable : (p q : Problem) (name : List ℕ) → name_problem p q name ≡ None → IsName name
name_writable p q name e = grind (arith, nat_tests, tests_of, some_byte)

anchor_writable : (anchor : Option (List ℕ)) → anchor_problem anchor ≡ None → IsAnchor anchor
anchor_writable anchor e = grind (arith, nat_tests, name_writable)

test_of : (none : Bool) (p : Problem) → (if none then Some p else None) ≡ None → none ≡ false
test_of none p e = grind (arith, nat_tests)

-- ---- events

tag_writable : (tag : Option (List ℕ)) → tag_problem tag ≡ None → IsUtf8Option tag → IsTag tag
tag_writable tag e u = grind (arith, nat_tests, some_byte, test_of)

scalar_tag_writable : (tag : Option (List ℕ)) (value : List ℕ) (plain quoted : Bool)
    → tag_problem tag ≡ None → IsUtf8Option tag → is_lone_mark tag value ≡ false
    → IsScalarRight tag value plain quoted
    → IsScalarTag tag
scalar_tag_writable tag value plain quoted e u l r = grind (arith, nat_tests, some_byte, test_of, true≢false, bytes_eq-Decides)

-- prefixes of UTF-8 can be written
pub prefixes_writable : (ds : List TagDirective) → AreUtf8 ds → HavePrefixes ds
prefixes_writable [] u = tt
prefixes_writable (d ∷ ds) u = (u.0.1, prefixes_writable ds u.1)

names_of : (anchor tag : Option (List ℕ)) (last : Option Problem)
    → or_else (or_else (anchor_problem anchor) (tag_problem tag)) last ≡ None
    → (anchor_problem anchor ≡ None) × (tag_problem tag ≡ None)
names_of anchor tag last e = or_both (anchor_problem anchor) (tag_problem tag) (or_both (or_else (anchor_problem anchor) (tag_problem tag)) last e).0

-- nothing is wrong with the normalized event
abbrev IsOwn : EventBody → Type 0
IsOwn b = own_problem true (emitter_event b) ≡ None

scalar_says : (lone : Bool) (anchor tag : Option (List ℕ)) (value : List ℕ) (plain quoted : Bool)
    (style : yaml_scalar_style_t) → is_lone_mark tag value ≡ lone
    → IsOwn (normalize_scalar lone anchor tag value plain quoted style) → IsUtf8Option tag
    → IsUtf8 value → IsScalarRight tag value plain quoted
    → MaySay (content_of (normalize_scalar lone anchor tag value plain quoted style))
unfolding event_problem last_problem
scalar_says true anchor tag value plain quoted style l e t v r = (anchor_writable anchor (names_of anchor None _ e).0, tt, v)
scalar_says false anchor tag value plain quoted style l e t v r =
    let own = names_of anchor tag _ e in
    (anchor_writable anchor own.0, scalar_tag_writable tag value plain quoted own.1 t l r, v)

start_says : (anchor tag : Option (List ℕ)) → IsUtf8Option tag
    → or_else (or_else (anchor_problem anchor) (tag_problem tag)) None ≡ None
    → IsAnchor anchor × IsTag tag
start_says anchor tag t e = grind (arith, nat_tests, names_of, anchor_writable, tag_writable)

body_says : (b : EventBody) → IsOwn (normalize_body true b) → HasUtf8 b → IsRight b
    → MaySay (content_of (normalize_body true b))
unfolding event_problem last_problem
body_says b e u r = grind (arith, nat_tests, scalar_says, prefixes_writable, name_writable, or_both, start_says)

pub told_say : (ts : List Told) → own_problems true (emitter_events true ts) ≡ None
    → HaveUtf8Texts ts → AreRight ts → MaySayAll (contents ts)
unfolding own_problems
told_say [] e u r = tt
told_say (t ∷ ts) e u r =
    let both = or_both (own_problem true (emitter_event (normalize_body true t.0.body))) (own_problems true (emitter_events true ts)) e in
    (body_says t.0.body both.0 u.0 r.0, told_say ts both.1 u.1 r.1)
