-- What is written for a tag is read and resolved to it.
use Rattle.std.proofs.Common.{◌≡◌, inl, inr, ℕ, suc, ◌+◌, ◌-◌, ◌<◌, Bool, true, false, ◌==◌, nat_lt, if◌then◌else◌, List, [], ◌∷◌, ◌++◌, length, take, drop, get_or, Option, Some, None, refl, sym, ap, subst, ◌∙◌, arith, rules, length-drop, take-suc, encode_utf8_all, codes, IsUtf8, chars, bytes_eq}
use Rattle.yaml_emit_laws.proofs.Shared.{cases_Bool, and_parts, ltb-true, nat_tests, take_all, append_cancel_left, IsUtf8-from_ascii, IsUtf8-append, chars-append, scalars-chars, encodes-chars, encodes-append, list_all, is_alpha_byte, may_end_tag, HasAt, are_alphas, TagDirective, resolved, has_shorter_prefix, directive_for, defines, primary, secondary, unless_defined, defaults, in_force, Split, shorthand, verbatim, split_by, split_tag, tag_spelling, Problem, Opening, or_else, between, handle_problem, prefix_problem, twice_problem, directive_problem, directives_problem, version_problem, opening_problem, resolved_split, IsShaped, IsReadable, HaveUtf8, IsTagReadBack, AreReadable}
use lib.Utf8.{scalar, scalars}
use Rattle.yaml_emit_laws.specs.TagsLaws.{tag_text}
use Rattle.yaml_emit_laws.proofs.Resolving.{or_first, or_second, whole, tags_resolve, some_is}
use Rattle.yaml_emit_laws.proofs.TagsReading.{split_read}

-- Handles.

-- a test that finds no problem has failed, and what is asked then finds none
pub if_none : (b : Bool) (p : Problem) (o : Option Problem) → (if b then Some p else o) ≡ None
    → (b ≡ false) × (o ≡ None)
if_none false p o e = (refl, e)
if_none true p o e = absurd (cc)

-- Where nothing is wrong, the test holds.
pub none_all : (b : Bool) (p : Problem) → (if b then None else Some p) ≡ None → b ≡ true
none_all true p e = refl
none_all false p e = absurd (cc)

alphas_of : (bs : List ℕ) → list_all is_alpha_byte bs ≡ true → are_alphas bs ≡ true
alphas_of [] e = refl
alphas_of (b ∷ bs) e =
    elim (cases_Bool (is_alpha_byte b)) [
      | inl t ↦ let more : list_all is_alpha_byte bs ≡ true = rw t at e in rw t (alphas_of bs more)
      | inr t ↦ let bad = rw t at e in absurd (cc)
    ]

-- what a right handle holds
record Held (h : List ℕ) : Type 0 where
  pub some : (length h == 0) ≡ false
  pub first : get_or h 0 0 ≡ 33
  pub last : get_or h (length h - 1) 0 ≡ 33
  pub inner : are_alphas (between h) ≡ true

held : (h : List ℕ) → handle_problem h ≡ None → Held h
unfolding handle_problem
held h e = grind (arith, nat_tests, if_none, get_or, alphas_of, none_all)

-- and how many after the second
pub long_rest : (c r : ℕ) (rs : List ℕ) → length (c ∷ r ∷ rs) - 1 - 1 ≡ length rs
long_rest c r rs = omega arith

-- of two bytes or more, how many are after the first
pub last_rest : (c r : ℕ) (rs : List ℕ) → length (c ∷ r ∷ rs) - 1 ≡ suc (length rs)
last_rest c r rs = omega arith

shaped : (h : List ℕ) → Held h → IsShaped h
shaped [] k = let bad = k.some in absurd (cc)
shaped (c ∷ []) k = let one : c ≡ 33 = k.first in inl (ap (λ (x : ℕ). x ∷ []) one)
shaped (c ∷ r ∷ rs) k =
    let first : c ≡ 33 = k.first in
    let last : get_or (r ∷ rs) (length rs) 0 ≡ 33 = sym (ap (λ n. get_or (c ∷ r ∷ rs) n 0) (last_rest c r rs)) ∙ k.last in
    let inner : are_alphas (take (length rs) (r ∷ rs)) ≡ true = sym (ap (λ n. are_alphas (take n (r ∷ rs))) (long_rest c r rs)) ∙ k.inner in
    let all : take (suc (length rs)) (r ∷ rs) ≡ r ∷ rs = take_all (suc (length rs)) (r ∷ rs) (omega arith) in
    let parts : r ∷ rs ≡ take (length rs) (r ∷ rs) ++ 33 ∷ [] =
    sym all ∙ take-suc (r ∷ rs) (length rs) 0 (omega arith) ∙ ap (λ (x : ℕ). take (length rs) (r ∷ rs) ++ x ∷ []) last in
    inr (take (length rs) (r ∷ rs), ap (λ (x : ℕ). x ∷ r ∷ rs) first ∙ ap (λ (xs : List ℕ). 33 ∷ xs) parts, inner)

-- Directives.

abbrev Fine : TagDirective → Type 0
Fine d = (handle_problem d.handle ≡ None) × IsUtf8 d.prefix

abbrev AllFine : List TagDirective → Type 0
AllFine [] = Unit {0}
AllFine (d ∷ ds) = Fine d × AllFine ds

fine_directives : (before ds : List TagDirective) → directives_problem before ds ≡ None
    → HaveUtf8 ds → AllFine ds
unfolding directives_problem
fine_directives before [] e u = tt
fine_directives before (d ∷ ds) e (own, u) = grind (arith, nat_tests, or_first, or_second, fine_directives (before ++ d ∷ []) ds (or_second (directive_problem before d) (directives_problem (before ++ d ∷ []) ds) e) u)

fine_append : (xs ys : List TagDirective) → AllFine xs → AllFine ys → AllFine (xs ++ ys)
fine_append [] ys a b = b
fine_append (x ∷ xs) ys (own, a) b = (own, fine_append xs ys a b)

fine_unless : (ds : List TagDirective) (d : TagDirective) → Fine d → AllFine (unless_defined ds d)
fine_unless ds d f = elim (cases_Bool (defines ds d.handle)) [ inl t ↦ rw t tt | inr t ↦ rw t (f, tt) ]

secondary_utf8 : IsUtf8 secondary.prefix
secondary_utf8 =
    IsUtf8-append (codes "tag:") _ (IsUtf8-from_ascii (codes "tag:") (search rules)) (IsUtf8-append (codes "yaml") _ (IsUtf8-from_ascii (codes "yaml") (search rules))
    (IsUtf8-append (codes ".org") _ (IsUtf8-from_ascii (codes ".org") (search rules)) (IsUtf8-append (codes ",200") (codes "2:") (IsUtf8-from_ascii (codes ",200") (search rules))
    (IsUtf8-from_ascii (codes "2:") (search rules)))))

fine_defaults : (ds : List TagDirective) → AllFine (defaults ds)
unfolding handle_problem
fine_defaults ds =
    fine_append (unless_defined ds primary) (unless_defined ds secondary) (fine_unless ds primary (refl, (IsUtf8-from_ascii (codes "!") (search rules))))
    (fine_unless ds secondary (refl, secondary_utf8))

-- the directive that is found is fine, and begins the tag
fine_found : (ds : List TagDirective) (tag : List ℕ) (d : TagDirective) → AllFine ds
    → directive_for ds tag ≡ Some d → Fine d × (has_shorter_prefix d.prefix tag ≡ true)
unfolding directive_for
fine_found [] tag d f e = absurd (cc)
fine_found (x ∷ ds) tag d (own, f) e =
    elim (cases_Bool (has_shorter_prefix x.prefix tag)) [
      | inl t ↦
          let now : Some x ≡ Some d = rw t at e in
          let P : TagDirective → Type 0 = λ y. Fine y × (has_shorter_prefix y.prefix tag ≡ true) in
          subst P (some_is x d now) (own, t)
      | inr t ↦ let more : directive_for ds tag ≡ Some d = rw t at e in fine_found ds tag d f more
    ]

-- Suffixes.

scalars_behind : (xs ys : List ℕ) → scalars (xs ++ ys) ≡ true → scalars ys ≡ true
scalars_behind [] ys e = e
scalars_behind (x ∷ xs) ys e = scalars_behind xs ys (and_parts (scalar x) (scalars (xs ++ ys)) e).1

utf8_behind : (xs ys : List ℕ) → IsUtf8 xs → IsUtf8 (xs ++ ys) → IsUtf8 ys
utf8_behind xs ys a b =
    let parts = chars-append xs ys a in
    let right = scalars_behind (chars xs) (chars ys) (sym (ap (λ (cs : List ℕ). scalars cs) parts) ∙ scalars-chars (xs ++ ys) b) in
    let same : xs ++ encode_utf8_all (chars ys) ≡ xs ++ ys =
    sym (encodes-append (chars xs) (chars ys) ∙ ap (λ (x : List ℕ). x ++ encode_utf8_all (chars ys)) (encodes-chars xs a)) ∙ sym (ap (λ (cs : List ℕ). encode_utf8_all cs) parts) ∙ encodes-chars (xs ++ ys) b in
    (chars ys, (right, append_cancel_left xs (encode_utf8_all (chars ys)) ys same))

suffix_some : (prefix tag : List ℕ) → has_shorter_prefix prefix tag ≡ true
    → 0 < length (drop (length prefix) tag)
suffix_some prefix tag e =
    let less = ltb-true (length prefix) (length tag) (and_parts (nat_lt (length prefix) (length tag)) (bytes_eq (take (length prefix) tag) prefix) e).0 in
    omega (arith, less, length-drop (length prefix) tag)

readable : (ds : List TagDirective) (tag : List ℕ) (o : Option TagDirective) → IsUtf8 tag
    → 0 < length tag
    → ((d : TagDirective) → o ≡ Some d → Fine d × (has_shorter_prefix d.prefix tag ≡ true))
    → IsReadable (split_by o tag)
readable ds tag None u some f = (u, some)
readable ds tag (Some d) u some f =
    let ((handle, prefix), begins) = f d refl in
    let parts = subst (λ (x : List ℕ). IsUtf8 x) (sym (whole d.prefix tag begins)) u in
    (shaped d.handle (held d.handle handle), utf8_behind d.prefix (drop (length d.prefix) tag) prefix parts, suffix_some d.prefix tag begins)

text_resolves : (ds : List TagDirective) (split : Split) (e : ℕ)
    → resolved ds (tag_text split e).handle (tag_text split e).suffix ≡ resolved_split ds split
text_resolves ds (shorthand handle suffix) e = refl
text_resolves ds (verbatim tag) e = refl

text_ends : (split : Split) (e : ℕ) → (tag_text split e).end ≡ e
text_ends (shorthand handle suffix) e = refl
text_ends (verbatim tag) e = refl

-- A tag that is written is split so that it is readable, where nothing is wrong with the document's start.
pub written_readable : (o : Opening) → opening_problem o ≡ None → HaveUtf8 o.directives
    → (tag : List ℕ) → IsUtf8 tag → 0 < length tag → IsReadable (split_tag o.directives tag)
written_readable o e u tag utf8 some =
    let ds = o.directives in
    let right = or_second (version_problem o.version) (directives_problem [] ds) e in
    let fine = fine_append ds (defaults ds) (fine_directives [] ds right u) (fine_defaults ds) in
    readable ds tag (directive_for (in_force ds) tag) utf8 some (λ d found. fine_found (in_force ds) tag d fine found)

readable_prefix : (before : List TagDirective) (d : TagDirective)
    → directive_problem before d ≡ None → 0 < length d.prefix
readable_prefix before d e = grind (arith, nat_tests, or_second, or_first, if_none)

readable_directives : (before ds : List TagDirective) → directives_problem before ds ≡ None
    → HaveUtf8 ds → AreReadable ds
unfolding directives_problem
readable_directives before [] e u = tt
readable_directives before (d ∷ ds) e (own, u) =
    let here = or_first (directive_problem before d) (directives_problem (before ++ d ∷ []) ds) e in
    let handle = or_first (handle_problem d.handle) (or_else (prefix_problem d.prefix) (twice_problem before d.handle)) here in (
      (shaped d.handle (held d.handle handle), own, readable_prefix before d here),
      readable_directives (before ++ d ∷ []) ds (or_second (directive_problem before d) (directives_problem (before ++ d ∷ []) ds) e) u,
    )

-- Directives that are written are readable, where nothing is wrong with the document's start.
pub written_directives : (o : Opening) → opening_problem o ≡ None → HaveUtf8 o.directives
    → AreReadable o.directives
written_directives o e u = readable_directives [] o.directives (or_second (version_problem o.version) (directives_problem [] o.directives) e) u

pub read_back : (o : Opening) → opening_problem o ≡ None → HaveUtf8 o.directives → (tag : List ℕ)
    → IsUtf8 tag → 0 < length tag → (flow : Bool) (text : List ℕ) (p : ℕ)
    → HasAt text p (tag_spelling o.directives tag)
    → may_end_tag flow text (p + length (tag_spelling o.directives tag)) ≡ true
    → IsTagReadBack o.directives tag flow text p
read_back o e u tag utf8 some flow text p h stop = grind (arith, nat_tests, written_readable, split_read, text_ends, text_resolves, tags_resolve)
