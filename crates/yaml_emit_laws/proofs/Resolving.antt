-- Handles and suffixes resolve to their tags.
use Rattle.std.proofs.Common.{◌≡◌, inl, inr, ℕ, Bool, true, false, ◌||◌, ◌==◌, nat_lt, cond, if◌then◌else◌, List, [], ◌∷◌, ◌++◌, length, take, drop, Option, Some, None, refl, sym, ap, subst, ◌∙◌, take-append-drop, option_map, bytes_eq, arith}
use Rattle.yaml_emit_laws.proofs.Shared.{cases_Bool, or_cases, true≢false, and_parts, list_any, TagDirective, resolved, or_default, default_prefix, has_shorter_prefix, directive_for, defines, primary, secondary, unless_defined, defaults, in_force, split_by, split_tag, Problem, Opening, or_else, handle_problem, has_handle, directive_problem, directives_problem, version_problem, opening_problem, resolved_split}
use Rattle.std.proofs.lemmas.Slice.Eq.{bytes_eq-Decides}
use Rattle.yaml_parse_grammar.specs.Resolve as reader

-- Tests.

same_of : (x y : List ℕ) → bytes_eq x y ≡ true → x ≡ y
same_of x y e = (bytes_eq-Decides x y).0 e

same_self : (x : List ℕ) → bytes_eq x x ≡ true
same_self x = (bytes_eq-Decides x x).1 refl

-- Where neither is wrong, the first is not.
pub or_first : (p q : Option Problem) → or_else p q ≡ None → p ≡ None
or_first None q e = refl
or_first (Some p) q e = absurd (cc)

-- where the first of two problems is none, so is the second
pub or_second : (p q : Option Problem) → or_else p q ≡ None → q ≡ None
or_second None q e = e
or_second (Some p) q e = absurd (cc)

-- a test that finds no problem has failed
pub none_true : (b : Bool) (p : Problem) → (if b then Some p else None) ≡ None → b ≡ false
none_true false p e = refl
none_true true p e = absurd (cc)

any_left : (test : TagDirective → Bool) (xs ys : List TagDirective) → list_any test xs ≡ true
    → list_any test (xs ++ ys) ≡ true
any_left test [] ys e = absurd (cc)
any_left test (x ∷ xs) ys e =
    elim (cases_Bool (test x)) [
      | inl t ↦ rw t refl
      | inr t ↦ let more : list_any test xs ≡ true = rw t at e in rw (t, any_left test xs ys more) refl
    ]

any_last : (test : TagDirective → Bool) (xs : List TagDirective) (y : TagDirective) → test y ≡ true
    → list_any test (xs ++ y ∷ []) ≡ true
any_last test [] y e = rw e refl
any_last test (x ∷ xs) y e = elim (cases_Bool (test x)) [ inl t ↦ rw t refl | inr t ↦ rw (t, any_last test xs y e) refl ]

-- Handles that differ.

defines_one : (d : TagDirective) (ds : List TagDirective) (h : List ℕ)
    → defines (d ∷ ds) h ≡ (bytes_eq d.handle h || defines ds h)
unfolding defines
defines_one d ds h = refl

twice_none : (before : List TagDirective) (d : TagDirective) (ds : List TagDirective)
    → directives_problem before (d ∷ ds) ≡ None → list_any (has_handle d.handle) before ≡ false
unfolding directives_problem
twice_none before d ds e = grind (arith, or_first, or_second, none_true)

rest_none : (before : List TagDirective) (d : TagDirective) (ds : List TagDirective)
    → directives_problem before (d ∷ ds) ≡ None → directives_problem (before ++ d ∷ []) ds ≡ None
unfolding directives_problem
rest_none before d ds e = or_second (directive_problem before d) (directives_problem (before ++ d ∷ []) ds) e

handle_none : (before : List TagDirective) (d : TagDirective) (ds : List TagDirective)
    → directives_problem before (d ∷ ds) ≡ None → (length d.handle == 0) ≡ false
unfolding directives_problem handle_problem
handle_none before d ds e = grind (arith, or_first)

-- a handle of the directives before is none of those that follow
apart : (before ds : List TagDirective) (h : List ℕ) → directives_problem before ds ≡ None
    → list_any (has_handle h) before ≡ true → defines ds h ≡ true → ⊥
unfolding defines
apart before [] h e f t = cc
apart before (d ∷ ds) h e f t =
    elim (or_cases (bytes_eq d.handle h) (defines ds h) (sym (defines_one d ds h) ∙ t)) [
      | inr more ↦ apart (before ++ d ∷ []) ds h (rest_none before d ds e) (any_left (has_handle h) before (d ∷ []) f) more
      | inl here ↦
          let same = same_of d.handle h here in
          let P : List ℕ → Type 0 = λ x. list_any (has_handle x) before ≡ true in
          true≢false (sym (subst P (sym same) f) ∙ (twice_none before d ds e))
    ]

-- What a directive's handle means.

reads_one : (d : TagDirective) (ds : List TagDirective) (h : List ℕ)
    → reader.directive_for h (d ∷ ds)
    ≡ cond (bytes_eq d.handle h) (Some d.prefix) (reader.directive_for h ds)
unfolding reader.directive_for
reads_one d ds h = refl

pub some_is : (x d : TagDirective) → Some x ≡ Some d → x ≡ d
some_is x d e = cc

-- what is known of a directive by which a tag is split
pub record Found (ds : List TagDirective) (tag : List ℕ) (d : TagDirective) : Type 0 where
  pub begins : has_shorter_prefix d.prefix tag ≡ true
  pub named : (length d.handle == 0) ≡ false
  pub reads : or_default (reader.directive_for d.handle ds) d.handle ≡ Some d.prefix

-- one of the document's own
record Own (ds : List TagDirective) (tag : List ℕ) (d : TagDirective) : Type 0 where
  pub begins : has_shorter_prefix d.prefix tag ≡ true
  pub named : (length d.handle == 0) ≡ false
  pub defined : defines ds d.handle ≡ true
  pub reads : reader.directive_for d.handle ds ≡ Some d.prefix

own_first : (before : List TagDirective) (x : TagDirective) (ds : List TagDirective) (tag : List ℕ)
    → directives_problem before (x ∷ ds) ≡ None → has_shorter_prefix x.prefix tag ≡ true
    → Own (x ∷ ds) tag x
own_first before x ds tag e t = grind (arith, same_self, handle_none, defines_one, reads_one)

own_more : (before : List TagDirective) (x : TagDirective) (ds : List TagDirective) (tag : List ℕ)
    (d : TagDirective) → directives_problem before (x ∷ ds) ≡ None → Own ds tag d
    → Own (x ∷ ds) tag d
own_more before x ds tag d e own =
    elim (cases_Bool (bytes_eq x.handle d.handle)) [
      | inl t ↦
          let P : List ℕ → Type 0 = λ h. list_any (has_handle h) (before ++ x ∷ []) ≡ true in
          let seen = subst P (same_of x.handle d.handle t) (any_last (has_handle x.handle) before x (same_self x.handle)) in
          absurd (apart (before ++ x ∷ []) ds d.handle (rest_none before x ds e) seen own.defined)
      | inr t ↦ record {
        begins = own.begins;
        named = own.named;
        defined = defines_one x ds d.handle ∙ ap (λ b. b || defines ds d.handle) t ∙ own.defined;
        reads = reads_one x ds d.handle ∙ ap (λ b. cond b (Some x.prefix) (reader.directive_for d.handle ds)) t ∙ own.reads;
      }
    ]

own_of : (before ds : List TagDirective) (tag : List ℕ) (d : TagDirective)
    → directives_problem before ds ≡ None → directive_for ds tag ≡ Some d → Own ds tag d
unfolding directive_for
own_of before [] tag d e f = absurd (cc)
own_of before (x ∷ ds) tag d e f =
    elim (cases_Bool (has_shorter_prefix x.prefix tag)) [
      | inl t ↦
          let same = some_is x d (sym (ap (λ b. cond b (Some x) (directive_for ds tag)) t) ∙ f) in
          subst (λ y. Own (x ∷ ds) tag y) same (own_first before x ds tag e t)
      | inr t ↦
          let more : directive_for ds tag ≡ Some d = sym (ap (λ b. cond b (Some x) (directive_for ds tag)) t) ∙ f in
          own_more before x ds tag d e (own_of (before ++ x ∷ []) ds tag d (rest_none before x ds e) more)
    ]

-- a handle that no directive defines
reads_none : (ds : List TagDirective) (h : List ℕ) → defines ds h ≡ false
    → reader.directive_for h ds ≡ None
unfolding defines reader.directive_for
reads_none [] h e = refl
reads_none (d ∷ ds) h e =
    elim (cases_Bool (bytes_eq d.handle h)) [
      | inl t ↦ let bad = rw t at e in absurd (cc)
      | inr t ↦ let more : defines ds h ≡ false = rw t at e in rw t (reads_none ds h more)
    ]

default_found : (ds : List TagDirective) (tag : List ℕ) (d : TagDirective)
    → (length d.handle == 0) ≡ false → default_prefix d.handle ≡ Some d.prefix
    → has_shorter_prefix d.prefix tag ≡ true → defines ds d.handle ≡ false
    → Found ds tag d
default_found ds tag d named prefix begins e = record { begins = begins; named = named; reads = ap (λ (o : Option (List ℕ)). or_default o d.handle) (reads_none ds d.handle e) ∙ prefix }

abbrev FoundAny : List TagDirective → List ℕ → Option TagDirective → Type 0
FoundAny ds tag None = Unit {0}
FoundAny ds tag (Some d) = Found ds tag d

-- one of the handles that need no directive, before others
unless_found : (ds : List TagDirective) (tag : List ℕ) (d : TagDirective) (more : List TagDirective)
    → (length d.handle == 0) ≡ false → default_prefix d.handle ≡ Some d.prefix
    → FoundAny ds tag (directive_for more tag)
    → FoundAny ds tag (directive_for (unless_defined ds d ++ more) tag)
unfolding directive_for
unless_found ds tag d more named prefix rest =
    elim (cases_Bool (defines ds d.handle)) [
      | inl t ↦ rw t rest
      | inr t ↦ elim (cases_Bool (has_shorter_prefix d.prefix tag)) [
        | inl s ↦ rw (t, s) (default_found ds tag d named prefix s t)
        | inr s ↦ rw (t, s) rest
      ]
    ]

one_found : (ds : List TagDirective) (tag : List ℕ) (d : TagDirective)
    → (length d.handle == 0) ≡ false → default_prefix d.handle ≡ Some d.prefix
    → FoundAny ds tag (directive_for (unless_defined ds d) tag)
unfolding directive_for
one_found ds tag d named prefix =
    elim (cases_Bool (defines ds d.handle)) [
      | inl t ↦ rw t tt
      | inr t ↦ elim (cases_Bool (has_shorter_prefix d.prefix tag)) [
        | inl s ↦ rw (t, s) (default_found ds tag d named prefix s t)
        | inr s ↦ rw (t, s) tt
      ]
    ]

or_more : Option TagDirective → Option TagDirective → Option TagDirective
or_more (Some d) more = Some d
or_more None more = more

joined : (b : Bool) (x : TagDirective) (o more : Option TagDirective)
    → cond b (Some x) (or_more o more) ≡ or_more (cond b (Some x) o) more
unfolding or_more
joined true x o more = refl
joined false x o more = refl

finds_more : (ds more : List TagDirective) (tag : List ℕ)
    → directive_for (ds ++ more) tag ≡ or_more (directive_for ds tag) (directive_for more tag)
unfolding directive_for or_more
finds_more [] more tag = refl
finds_more (d ∷ ds) more tag =
    ap (λ (o : Option TagDirective). cond (has_shorter_prefix d.prefix tag) (Some d) o) (finds_more ds more tag)
    ∙ joined (has_shorter_prefix d.prefix tag) d (directive_for ds tag) (directive_for more tag)

found_or : (ds : List TagDirective) (tag : List ℕ) (o more : Option TagDirective)
    → ((d : TagDirective) → o ≡ Some d → Found ds tag d) → FoundAny ds tag more
    → FoundAny ds tag (or_more o more)
unfolding or_more
found_or ds tag (Some d) more f g = f d refl
found_or ds tag None more f g = g

found : (ds : List TagDirective) (tag : List ℕ) → directives_problem [] ds ≡ None
    → FoundAny ds tag (directive_for (in_force ds) tag)
found ds tag e =
    let P : Option TagDirective → Type 0 = λ o. FoundAny ds tag o in
    subst P (sym (finds_more ds (defaults ds) tag))
    (found_or ds tag (directive_for ds tag) (directive_for (defaults ds) tag) (λ d f. (record { begins = (own_of [] ds tag d e f).begins; named = (own_of [] ds tag d e f).named; reads = ap (λ (o : Option (List ℕ)). or_default o d.handle) (own_of [] ds tag d e f).reads })) (unless_found ds tag primary (unless_defined ds secondary) refl refl (one_found ds tag secondary refl refl)))

-- Tags.

resolved_named : (ds : List TagDirective) (h suffix prefix : List ℕ) → (length h == 0) ≡ false
    → or_default (reader.directive_for h ds) h ≡ Some prefix
    → resolved ds h suffix ≡ Some (prefix ++ suffix)
resolved_named ds [] suffix prefix e f = absurd (cc)
resolved_named ds (c ∷ h) suffix prefix e f = ap (λ (o : Option (List ℕ)). option_map (λ p. p ++ suffix) o) f

pub whole : (prefix tag : List ℕ) → has_shorter_prefix prefix tag ≡ true
    → prefix ++ drop (length prefix) tag ≡ tag
whole prefix tag e =
    let same = same_of (take (length prefix) tag) prefix (and_parts (nat_lt (length prefix) (length tag)) (bytes_eq (take (length prefix) tag) prefix) e).1 in
    ap (λ (x : List ℕ). x ++ drop (length prefix) tag) (sym same) ∙ take-append-drop (length prefix) tag

split_resolves : (ds : List TagDirective) (tag : List ℕ) (o : Option TagDirective)
    → FoundAny ds tag o → resolved_split ds (split_by o tag) ≡ Some tag
split_resolves ds tag None f = refl
split_resolves ds tag (Some d) f =
    resolved_named ds d.handle (drop (length d.prefix) tag) d.prefix f.named f.reads ∙ ap (λ (x : List ℕ). Some x) (whole d.prefix tag f.begins)

-- A tag that is split by the document's directives resolves to itself.
pub tags_resolve : (o : Opening) → opening_problem o ≡ None → (tag : List ℕ)
    → resolved_split o.directives (split_tag o.directives tag) ≡ Some tag
tags_resolve o e tag =
    split_resolves o.directives tag (directive_for (in_force o.directives) tag) (found o.directives tag (or_second (version_problem o.version) (directives_problem [] o.directives) e))
