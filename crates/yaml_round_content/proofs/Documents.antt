-- The directives of a document, as they are read.
use Rattle.std.proofs.Common.{◌≡◌, ℕ, ℤ, Bool, true, false, if◌then◌else◌, List, [], ◌∷◌, ◌++◌, Option, Some, None, refl, ap, sym, ◌∙◌}
use Rattle.yaml_round_content.proofs.Words.{append_assoc, append-nil, yaml_mark_t, yaml_version_directive_t, Token, Fault, TagDirective, RawEvent, Given, Directive, items_directives, Directives, Reading, read_on, reading, directive_for, with_version, with_tag, is_known_version, tags_in, version_in}
use Rattle.yaml_emit_laws.specs.parse_grammar.declared.ParseProblem.TheVariants as problem
use Rattle.yaml_emit_laws.specs.parse_grammar.Problems.{parser_fault}
use Rattle.yaml_emit_laws.specs.parse_grammar.Trees as tree
use Rattle.yaml_emit_laws.specs.parse_grammar.Resolve as resolve

-- ---- directives

abbrev pub first_some : Option yaml_version_directive_t → Option yaml_version_directive_t
    → Option yaml_version_directive_t
first_some None y = y
first_some (Some x) y = Some x

some_first : (v : Option yaml_version_directive_t) → first_some v None ≡ v
some_first None = refl
some_first (Some x) = refl

abbrev pub directives : Option yaml_version_directive_t → List TagDirective → Directives
directives v tags = record { version = v; tags = tags }

not_none : (e : Fault) → Some e ≡ None → ⊥
not_none e h = cc

-- after the directives of a document, where none is refused
abbrev pub Behind : List Directive → List Token → List Given → Option Fault
    → Option yaml_version_directive_t → List TagDirective → Type 0
Behind ds rest gs f v tags = (reading (items_directives ds rest gs) f (directives v tags)).ending ≡ None
    → reading (items_directives ds rest gs) f (directives v tags) ≡ reading gs f (directives (first_some v (version_in ds)) (tags ++ tags_in ds))

version_behind : (known : Bool) (v : Option yaml_version_directive_t) (tags : List TagDirective)
    (major minor : ℤ) (at : yaml_mark_t) (i : RawEvent) (left : ℕ) (k : Directives → Reading)
    (to : Reading)
    → is_known_version major minor ≡ known
    → (v ≡ None → (k (directives (Some (record { major = major; minor = minor })) tags)).ending
    ≡ None → k (directives (Some (record { major = major; minor = minor })) tags) ≡ to)
    → (read_on (with_version v tags major minor at) i left k).ending ≡ None
    → read_on (with_version v tags major minor at) i left k ≡ to
version_behind known (Some x) tags major minor at i left k to e h r = absurd (not_none _ r)
version_behind true None tags major minor at i left k to e h r =
    let on : Bool → Reading = λ b. read_on (if b then resolve.noted (directives (Some (record { major = major; minor = minor })) tags) else resolve.refused (parser_fault problem.IncompatibleVersion at at)) i left k in
    ap on e ∙ h refl (ap (λ (x : Reading). x.ending) (sym (ap on e)) ∙ r)
version_behind false None tags major minor at i left k to e h r =
    let on : Bool → Reading = λ b. read_on (if b then resolve.noted (directives (Some (record { major = major; minor = minor })) tags) else resolve.refused (parser_fault problem.IncompatibleVersion at at)) i left k in
    absurd (not_none _ (ap (λ (x : Reading). x.ending) (sym (ap on e)) ∙ r))

handle_behind : (o : Option (List ℕ)) (D : Directives) (handle prefix : List ℕ) (at : yaml_mark_t)
    (i : RawEvent) (left : ℕ) (k : Directives → Reading) (to : Reading)
    → ((k (directives D.version (D.tags
    ++ (record { handle = handle; prefix = prefix } ∷ [])))).ending ≡ None
    → k (directives D.version (D.tags ++ (record { handle = handle; prefix = prefix } ∷ []))) ≡ to)
    → (read_on (with_tag o D handle prefix at) i left k).ending ≡ None
    → read_on (with_tag o D handle prefix at) i left k ≡ to
handle_behind (Some x) D handle prefix at i left k to h r = absurd (not_none _ r)
handle_behind None D handle prefix at i left k to h r = h r

pub directives_read : (ds : List Directive) (rest : List Token) (gs : List Given) (f : Option Fault)
    (v : Option yaml_version_directive_t) (tags : List TagDirective) → Behind ds rest gs f v tags
unfolding reading
directives_read [] rest gs f v tags =
    λ e. ap (λ (z : Option yaml_version_directive_t). reading gs f (directives z tags)) (sym (some_first v)) ∙ ap (λ (z : List TagDirective). reading gs f (directives (first_some v None) z)) (sym (append-nil tags))
directives_read (tree.version s major minor ∷ ds) rest gs f v tags =
    λ e. version_behind (is_known_version major minor) v tags major minor s.from _ _ (λ D. reading (items_directives ds rest gs) f D) _ refl
    (λ p k. directives_read ds rest gs f (Some (record { major = major; minor = minor })) tags k
    ∙ ap (λ (z : Option yaml_version_directive_t). reading gs f (directives z (tags ++ tags_in ds))) (ap (λ (z : Option yaml_version_directive_t). first_some z (Some (record { major = major; minor = minor }))) (sym p)))
    e
directives_read (tree.handle s name prefix ∷ ds) rest gs f v tags =
    λ e. handle_behind (directive_for name tags) (directives v tags) name prefix s.from _ _ (λ D. reading (items_directives ds rest gs) f D) _
    (λ k. directives_read ds rest gs f v (tags ++ (record { handle = name; prefix = prefix } ∷ [])) k
    ∙ ap (λ (z : List TagDirective). reading gs f (directives (first_some v (version_in ds)) z)) (append_assoc tags (record { handle = name; prefix = prefix } ∷ []) (tags_in ds)))
    e

-- ---- readings

pub right_behind : (r q : Reading) → r ≡ q → r.ending ≡ None → q.ending ≡ None
right_behind r q p e = ap (λ (x : Reading). x.ending) (sym p) ∙ e
