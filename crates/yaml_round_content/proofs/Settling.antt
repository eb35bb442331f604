-- What an item settles to: an event in its place in which nothing is wrong, or directives.
use Rattle.std.proofs.Common.{◌≡◌, ℕ, ◌+◌, ℤ, Bool, true, false, not, ◌||◌, ◌==◌, if◌then◌else◌, List, [], ◌∷◌, ◌++◌, length, Option, Some, None, option_map, codes, refl, ap, ◌∙◌, arith, length-append}
use Rattle.yaml_round_content.proofs.Words.{nat_tests, bytes_eq, IsSome, IsName, IsHandle, EventBody, TagDirective, RawEventBody, Kind, Directives, no_directives, Settled, refused, gave, noted, settle_body, resolved, directive_for, or_default, with_resolved, with_tag, with_version, is_known_version, behind_event, node_event, Problem, emitter_event, or_else, name_problem, anchor_problem, tag_problem, kept_if, event_problem, directives_problem, last_problem, Progress, progress_after, IsNormalizing, version_problem}
use Rattle.yaml_parse_model.specs.declared.yaml_mark_t.{yaml_mark_t}
use Rattle.yaml_parse_model.specs.declared.yaml_scalar_style_t.{yaml_scalar_style_t}
use Rattle.yaml_parse_model.specs.declared.yaml_version_directive_t.{yaml_version_directive_t}
use Rattle.yaml_parse_model.specs.Events as event
use Rattle.yaml_emit_laws.specs.parse_grammar.Items as item
use Rattle.yaml_emit_laws.specs.parse_grammar.Resolve.{is_plain}
use Rattle.yaml_emit_laws.specs.emit_layout.declared.Problem.TheVariants as problem
use Rattle.yaml_emit_laws.specs.emit_layout.declared.Expected.TheVariants as at
use Rattle.yaml_round_content.proofs.Stacks.{Expects, moved_by, moved_kind, IsPlaced, moved}
use Rattle.yaml_round_content.proofs.Spellings.{IsNamed, IsWhole, IsSpelledItem}
use Rattle.yaml_round_content.proofs.Emitted.{plain, IsTaken, IsOwn, normalized_taken, normalized_leads}
use Rattle.yaml_round_content.proofs.Directed.{more_directives}
use Rattle.yaml_emit_laws.proofs.Passing.{or_none}

-- ---- in its place

abbrev pub PlacedSettled : (EventBody → EventBody) → Progress → RawEventBody → Settled → Type 0
PlacedSettled normalize h i (refused f) = Unit {0}
PlacedSettled normalize h i (gave b ds) = IsTaken h.place h.due (emitter_event (normalize b)) × (plain (progress_after h (emitter_event (normalize b))) ≡ moved (plain h) i)
PlacedSettled normalize h i (noted ds) = moved (plain h) i ≡ plain h

gave_placed : (normalize : EventBody → EventBody) → IsNormalizing normalize
    → (h : Progress) (i : RawEventBody) (b : EventBody) (ds : Directives) → Expects (plain h) b
    → moved_by (plain h) b ≡ moved (plain h) i
    → PlacedSettled normalize h i (gave b ds)
gave_placed normalize e h i b ds x m = (normalized_taken b (normalize b) h (e b) x, normalized_leads b (normalize b) h (e b) x ∙ m)

tagged_expected : (t : Bool) (anchor : Option (List ℕ)) (tag value : List ℕ)
    (style : yaml_scalar_style_t) (h : Progress) → h.place ≡ at.Node
    → Expects h (if t then event.scalar anchor None value true false style else event.scalar anchor
    (Some tag) value false false style)
tagged_expected true anchor tag value style h e = e
tagged_expected false anchor tag value style h e = e

node_expected : (anchor tag : Option (List ℕ)) (k : Kind) (h : Progress) → h.place ≡ at.Node
    → Expects h (node_event anchor tag k)
node_expected anchor None (item.scalar value style) h e = e
node_expected anchor (Some tag) (item.scalar value style) h e = tagged_expected (bytes_eq tag (codes "!")) anchor tag value style h e
node_expected anchor tag _ h e = e

tagged_moved : (t : Bool) (anchor : Option (List ℕ)) (tag value : List ℕ)
    (style : yaml_scalar_style_t) (h : Progress)
    → moved_by h (if t then event.scalar anchor None value true false style else event.scalar anchor
    (Some tag) value false false style) ≡ moved_kind h (item.scalar value style)
tagged_moved true anchor tag value style h = refl
tagged_moved false anchor tag value style h = refl

node_moved : (anchor tag : Option (List ℕ)) (k : Kind) (h : Progress)
    → moved_by h (node_event anchor tag k) ≡ moved_kind h k
node_moved anchor None (item.scalar value style) h = refl
node_moved anchor (Some tag) (item.scalar value style) h = tagged_moved (bytes_eq tag (codes "!")) anchor tag value style h
node_moved anchor tag _ h = refl

node_placed : (normalize : EventBody → EventBody) → IsNormalizing normalize
    → (h : Progress) (anchor : Option (List ℕ)) (written : Option _) (tag : Option (List ℕ))
    (k : Kind) (ds : Directives) → (plain h).place ≡ at.Node
    → PlacedSettled normalize h (item.node anchor written k) (gave (node_event anchor tag k) ds)
node_placed normalize e h anchor written tag k ds p =
    gave_placed normalize e h (item.node anchor written k) (node_event anchor tag k) ds (node_expected anchor tag k (plain h) p) (node_moved anchor tag k (plain h))

resolved_placed : (normalize : EventBody → EventBody) → IsNormalizing normalize
    → (h : Progress) (anchor : Option (List ℕ)) (written : Option _) (tag : Option (List ℕ))
    (k : Kind) (from start : yaml_mark_t) (ds : Directives)
    → (plain h).place ≡ at.Node
    → PlacedSettled normalize h (item.node anchor written k)
    (with_resolved tag anchor k from start ds)
resolved_placed normalize e h anchor written None k from start ds p = tt
resolved_placed normalize e h anchor written (Some tag) k from start ds p = node_placed normalize e h anchor written (Some tag) k ds p

known_placed : (normalize : EventBody → EventBody) (known : Bool) (h : Progress) (x y : ℤ)
    (ds : Directives) (r : Settled) → PlacedSettled normalize h (item.version_directive x y) r
    → PlacedSettled normalize h (item.version_directive x y) (if known then noted ds else r)
known_placed normalize true h x y ds r k = refl
known_placed normalize false h x y ds r k = k

version_placed : (normalize : EventBody → EventBody) (o : Option yaml_version_directive_t)
    (tags : List TagDirective) (h : Progress) (x y : ℤ) (from : yaml_mark_t)
    → PlacedSettled normalize h (item.version_directive x y) (with_version o tags x y from)
version_placed normalize (Some v) tags h x y from = tt
version_placed normalize None tags h x y from = known_placed normalize (is_known_version x y) h x y _ _ tt

handle_placed : (normalize : EventBody → EventBody) (o : Option (List ℕ)) (ds : Directives)
    (h : Progress) (x y : List ℕ) (from : yaml_mark_t)
    → PlacedSettled normalize h (item.tag_directive x y) (with_tag o ds x y from)
handle_placed normalize (Some other) ds h x y from = tt
handle_placed normalize None ds h x y from = refl

pub settled_placed : (normalize : EventBody → EventBody) → IsNormalizing normalize
    → (h : Progress) (b : RawEventBody) (from : yaml_mark_t) (ds : Directives)
    → IsPlaced (plain h) b → PlacedSettled normalize h b (settle_body b from ds)
settled_placed normalize e h (item.event body) from ds p = gave_placed normalize e h (item.event body) body (behind_event body ds) p refl
settled_placed normalize e h (item.version_directive x y) from ds p = version_placed normalize ds.version ds.tags h x y from
settled_placed normalize e h (item.tag_directive x y) from ds p = handle_placed normalize (directive_for x ds.tags) ds h x y from
settled_placed normalize e h (item.document implicit) from ds p = gave_placed normalize e h (item.document implicit) (event.document_start ds.version ds.tags implicit) ds p refl
settled_placed normalize e h (item.node anchor None k) from ds p = node_placed normalize e h anchor None None k ds p
settled_placed normalize e h (item.node anchor (Some tag) k) from ds p = resolved_placed normalize e h anchor (Some tag) (resolved ds.tags tag.handle tag.suffix) k from tag.mark ds p

-- ---- nothing is wrong with it

-- the directives of a document
abbrev pub AreDirectives : Directives → Type 0
AreDirectives ds = (version_problem ds.version ≡ None) × (directives_problem [] ds.tags ≡ None)

pub none_right : AreDirectives no_directives
unfolding directives_problem
none_right = (refl, refl)

abbrev pub OwnSettled : Bool → Settled → Type 0
OwnSettled canonical (refused f) = Unit {0}
OwnSettled canonical (gave b ds) = IsOwn canonical b × AreDirectives ds
OwnSettled canonical (noted ds) = AreDirectives ds

abbrev IsFull : Option (List ℕ) → Type 0
IsFull None = Unit {0}
IsFull (Some tag) = IsSome tag

-- a name has no problem
pub name_right : (p q : Problem) (name : List ℕ) → IsName name → name_problem p q name ≡ None
name_right p q name h = rw h.0 (rw h.1 refl)

anchor_right : (anchor : Option (List ℕ)) → IsNamed anchor → anchor_problem anchor ≡ None
anchor_right None h = refl
anchor_right (Some name) h = name_right problem.AnchorEmpty problem.AnchorCharacters name h

tag_right : (kept : Bool) (tag : Option (List ℕ)) → IsFull tag
    → tag_problem (kept_if kept tag) ≡ None
tag_right true None h = refl
tag_right true (Some tag) h = rw h refl
tag_right false tag h = refl

names_right : (kept : Bool) (anchor tag : Option (List ℕ)) → IsNamed anchor → IsFull tag
    → or_else (anchor_problem anchor) (tag_problem (kept_if kept tag)) ≡ None
names_right kept anchor tag a t = or_none (anchor_problem anchor) (tag_problem (kept_if kept tag)) (anchor_right anchor a) (tag_right kept tag t)

one_flag : (b : Bool)
    → (if false || (b || (if b then false else true)) then None else Some problem.NoFlags) ≡ None
one_flag true = refl
one_flag false = refl

tagged_own : (t canonical : Bool) (anchor : Option (List ℕ)) (tag value : List ℕ)
    (style : yaml_scalar_style_t) → IsNamed anchor → IsSome tag
    → IsOwn canonical (if t then event.scalar anchor None value true false style else event.scalar
    anchor (Some tag) value false false style)
unfolding event_problem last_problem
tagged_own true canonical anchor tag value style a h = (names_right (canonical || not true) anchor None a tt, refl)
tagged_own false canonical anchor tag value style a h = (names_right (canonical || not false) anchor (Some tag) a h, refl)

node_own : (canonical : Bool) (anchor tag : Option (List ℕ)) (k : Kind) → IsNamed anchor
    → IsFull tag → IsOwn canonical (node_event anchor tag k)
unfolding event_problem last_problem
node_own canonical anchor None item.empty a t = (names_right (canonical || not true) anchor None a t, refl)
node_own canonical anchor (Some tag) item.empty a t = (names_right (canonical || not false) anchor (Some tag) a t, refl)
node_own canonical anchor None (item.scalar value style) a t = (names_right _ anchor None a t, one_flag (is_plain style))
node_own canonical anchor (Some tag) (item.scalar value style) a t = tagged_own (bytes_eq tag (codes "!")) canonical anchor tag value style a t
node_own canonical anchor tag _ a t = (names_right _ anchor tag a t, refl)

-- a tag in full isn't empty, since its suffix isn't
some_behind : (n m : ℕ) → (m == 0) ≡ false → (n + m == 0) ≡ false
some_behind n m h = grind (arith, nat_tests)

joined_full : (o : Option (List ℕ)) (suffix : List ℕ) → IsSome suffix
    → IsFull (option_map (λ (p : List ℕ). p ++ suffix) o)
joined_full None suffix h = tt
joined_full (Some p) suffix h = ap (λ (n : ℕ). n == 0) (length-append p suffix) ∙ some_behind (length p) (length suffix) h

resolved_full : (ds : List TagDirective) (handle suffix : List ℕ) → IsSome suffix
    → IsFull (resolved ds handle suffix)
resolved_full ds [] suffix h = h
resolved_full ds (c ∷ handle) suffix h = joined_full (or_default (directive_for (c ∷ handle) ds) (c ∷ handle)) suffix h

resolved_own : (canonical : Bool) (o anchor : Option (List ℕ)) (k : Kind) (from start : yaml_mark_t)
    (ds : Directives) → IsFull o → IsNamed anchor → AreDirectives ds
    → OwnSettled canonical (with_resolved o anchor k from start ds)
resolved_own canonical None anchor k from start ds t a d = tt
resolved_own canonical (Some tag) anchor k from start ds t a d = (node_own canonical anchor (Some tag) k a t, d)

known_own : (canonical known : Bool) (x y : ℤ) (tags : List TagDirective) (r : Settled)
    → is_known_version x y ≡ known → directives_problem [] tags ≡ None → OwnSettled canonical r
    → OwnSettled canonical (if known then noted
    (record { version = Some (record { major = x; minor = y }); tags = tags }) else r)
known_own canonical true x y tags r k d h = (ap (λ (b : Bool). if b then None else Some problem.Version) k, d)
known_own canonical false x y tags r k d h = h

version_own : (canonical : Bool) (o : Option yaml_version_directive_t) (tags : List TagDirective)
    (x y : ℤ) (from : yaml_mark_t) → directives_problem [] tags ≡ None
    → OwnSettled canonical (with_version o tags x y from)
version_own canonical (Some v) tags x y from d = tt
version_own canonical None tags x y from d = known_own canonical (is_known_version x y) x y tags _ refl d tt

handle_own : (canonical : Bool) (o : Option (List ℕ)) (ds : Directives) (handle prefix : List ℕ)
    (from : yaml_mark_t) → directive_for handle ds.tags ≡ o → IsHandle handle → IsSome prefix
    → AreDirectives ds
    → OwnSettled canonical (with_tag o ds handle prefix from)
handle_own canonical (Some other) ds handle prefix from e h p d = tt
handle_own canonical None ds handle prefix from e h p d = (d.0, more_directives ds.tags handle prefix h p e d.1)

behind_right : (b : EventBody) (ds : Directives) → AreDirectives ds
    → AreDirectives (behind_event b ds)
behind_right (event.document_end implicit) ds d = none_right
behind_right _ ds d = d

whole_own : (canonical : Bool) (b : EventBody) → IsWhole b → IsOwn canonical b
unfolding event_problem last_problem
whole_own canonical (event.stream_start encoding) h = (refl, refl)
whole_own canonical event.stream_end h = (refl, refl)
whole_own canonical (event.document_end implicit) h = (refl, refl)
whole_own canonical (event.alias name) h = (name_right problem.AliasEmpty problem.AliasCharacters name h, refl)
whole_own canonical event.sequence_end h = (refl, refl)
whole_own canonical event.mapping_end h = (refl, refl)
whole_own canonical _ h = absurd h

opening_own : (canonical implicit : Bool) (ds : Directives) → AreDirectives ds
    → IsOwn canonical (event.document_start ds.version ds.tags implicit)
unfolding event_problem last_problem
opening_own canonical implicit ds d = (refl, or_none (version_problem ds.version) (directives_problem [] ds.tags) d.0 d.1)

pub settled_own : (canonical : Bool) (b : RawEventBody) (from : yaml_mark_t) (ds : Directives)
    → IsSpelledItem b → AreDirectives ds → OwnSettled canonical (settle_body b from ds)
settled_own canonical (item.event body) from ds h d = (whole_own canonical body h, behind_right body ds d)
settled_own canonical (item.version_directive x y) from ds h d = version_own canonical ds.version ds.tags x y from d.1
settled_own canonical (item.tag_directive handle prefix) from ds h d = handle_own canonical (directive_for handle ds.tags) ds handle prefix from refl h.0 h.1 d
settled_own canonical (item.document implicit) from ds h d = (opening_own canonical implicit ds d, d)
settled_own canonical (item.node anchor None k) from ds h d = (node_own canonical anchor None k h.0 tt, d)
settled_own canonical (item.node anchor (Some tag) k) from ds h d =
    resolved_own canonical (resolved ds.tags tag.handle tag.suffix) anchor k from tag.mark ds (resolved_full ds.tags tag.handle tag.suffix h.1) h.0 d
