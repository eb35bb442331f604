-- An event that is expected is one that the emitter's grammar takes, normalized or not.
use Rattle.std.proofs.Common.{◌≡◌, inl, inr, ℕ, Bool, true, false, not, ◌||◌, List, [], ◌∷◌, Option, None, refl, sym, ap, subst, ◌∙◌}
use Rattle.yaml_parse_model.specs.declared.yaml_scalar_style_t.{yaml_scalar_style_t}
use Rattle.yaml_round_content.proofs.Words.{EventBody, Expected, emitter_event, anchor_problem, tag_problem, kept_if, event_problem, last_problem, Due, item_due, key_due, Progress, inside, behind_node, outer_due, progress_after, problem_in, IsNormalized, IsNormalizing, begins_node, node_problem, place_problem, problem_by, level_due, or_both}
use Rattle.yaml_parse_model.specs.Events as event
use Rattle.yaml_emit_laws.specs.emit_layout.declared.Expected.TheVariants as at
use Rattle.yaml_emit_laws.specs.emit_layout.Content.{Event}
use Rattle.yaml_round_content.proofs.Stacks.{between, Expects, moved_by}
use Rattle.yaml_emit_laws.proofs.Passing.{or_none}

-- ---- without the flags of the place between documents

abbrev pub plain_place : Expected → Expected
plain_place (at.Documents first unended) = between
plain_place (at.Refused p) = at.Refused p
plain_place e = e

abbrev pub plain : Progress → Progress
plain h = record { place = plain_place h.place; due = h.due }

plain_inside : (ds : List Due) → plain (inside ds) ≡ inside ds
plain_inside [] = refl
plain_inside (d ∷ ds) = refl

-- elsewhere it is the place itself
pub plain_same : (p q : Expected) → (between ≡ q → ⊥) → plain_place p ≡ q → p ≡ q
plain_same (at.Documents first unended) q n e = absurd (n e)
plain_same _ q n e = e

not_start : between ≡ at.StreamStart → ⊥
not_start e = cc

not_node : between ≡ at.Node → ⊥
not_node e = cc

not_document_end : between ≡ at.DocumentEnd → ⊥
not_document_end e = cc

pub not_end : between ≡ at.End → ⊥
not_end e = cc

-- ---- in its place

abbrev pub IsTaken : Expected → List Due → Event → Type 0
IsTaken p ds e = place_problem p (level_due ds) e ≡ None

node_there : (ds : List Due) (e : Event) → begins_node e ≡ true
    → node_problem (level_due ds) e ≡ None
node_there [] e k = rw k refl
node_there (d ∷ ds) e k = rw k refl

items_end : (ds : List Due) → ds ≡ item_due ∷ outer_due ds
    → node_problem (level_due ds) (emitter_event event.sequence_end) ≡ None
items_end (item_due ∷ ds) e = refl
items_end _ e = absurd (cc)

pairs_end : (ds : List Due) → ds ≡ key_due ∷ outer_due ds
    → node_problem (level_due ds) (emitter_event event.mapping_end) ≡ None
pairs_end (key_due ∷ ds) e = refl
pairs_end _ e = absurd (cc)

at_the_place : (p q : Expected) (ds : List Due) (e : Event) → p ≡ q → IsTaken q ds e
    → IsTaken p ds e
at_the_place p q ds e h k = subst (λ (z : Expected). IsTaken z ds e) (sym h) k

-- the end of the stream, and the start of a document
stream_ends : (p : Expected) (ds : List Due) → plain_place p ≡ between
    → IsTaken p ds (emitter_event event.stream_end)
unfolding place_problem
stream_ends (at.Documents first unended) ds h = refl
stream_ends _ ds h = absurd (cc)

document_starts : (p : Expected) (ds : List Due) (version : _) (directives : _) (implicit : Bool)
    → plain_place p ≡ between
    → IsTaken p ds (emitter_event (event.document_start version directives implicit))
unfolding place_problem
document_starts (at.Documents first unended) ds v d i h = refl
document_starts _ ds v d i h = absurd (cc)

node_comes : (p : Expected) (ds : List Due) (e : Event) → begins_node e ≡ true
    → plain_place p ≡ at.Node → IsTaken p ds e
unfolding place_problem
node_comes p ds e k h = at_the_place p at.Node ds e (plain_same p at.Node not_node h) (node_there ds e k)

taken_there : (p : Expected) (ds : List Due) (b : EventBody)
    → Expects (record { place = plain_place p; due = ds }) b → IsTaken p ds (emitter_event b)
unfolding place_problem
taken_there p ds event.no h = absurd h
taken_there p ds (event.stream_start x) h = at_the_place p at.StreamStart ds (emitter_event (event.stream_start x)) (plain_same p at.StreamStart not_start h) refl
taken_there p ds event.stream_end h = stream_ends p ds h
taken_there p ds (event.document_start v d i) h = document_starts p ds v d i h
taken_there p ds (event.document_end i) h = at_the_place p at.DocumentEnd ds (emitter_event (event.document_end i)) (plain_same p at.DocumentEnd not_document_end h) refl
taken_there p ds event.sequence_end h = at_the_place p at.Node ds (emitter_event event.sequence_end) (plain_same p at.Node not_node h.0) (items_end ds h.1)
taken_there p ds event.mapping_end h = at_the_place p at.Node ds (emitter_event event.mapping_end) (plain_same p at.Node not_node h.0) (pairs_end ds h.1)
taken_there p ds x h = node_comes p ds (emitter_event x) refl h

moved_there : (h : Progress) (b : EventBody) → Expects (plain h) b
    → plain (progress_after h (emitter_event b)) ≡ moved_by (plain h) b
unfolding progress_after
moved_there h event.no e = absurd e
moved_there h (event.alias n) e = plain_inside (behind_node h.due)
moved_there h (event.scalar a t v x y z) e = plain_inside (behind_node h.due)
moved_there h event.sequence_end e = plain_inside (outer_due h.due)
moved_there h event.mapping_end e = plain_inside (outer_due h.due)
moved_there h _ e = refl

-- ---- normalized

normalized_expected : (b c : EventBody) (h : Progress) → IsNormalized b c → Expects h b
    → Expects h c
normalized_expected (event.document_end i) c h e x = subst (Expects h) (sym e.1) x
normalized_expected (event.scalar a t v p q z) c h (inl e) x = subst (Expects h) (sym e) x
normalized_expected (event.scalar a t v p q z) c h (inr e) x = subst (Expects h) (sym e) x
normalized_expected _ c h e x = subst (Expects h) (sym e) x

normalized_moved : (b c : EventBody) (h : Progress) → IsNormalized b c → moved_by h c ≡ moved_by h b
normalized_moved (event.document_end i) c h e = ap (moved_by h) e.1
normalized_moved (event.scalar a t v p q z) c h (inl e) = ap (moved_by h) e
normalized_moved (event.scalar a t v p q z) c h (inr e) = ap (moved_by h) e
normalized_moved _ c h e = ap (moved_by h) e

pub normalized_taken : (b c : EventBody) (h : Progress) → IsNormalized b c → Expects (plain h) b
    → IsTaken h.place h.due (emitter_event c)
normalized_taken b c h e x = taken_there h.place h.due c (normalized_expected b c (plain h) e x)

pub normalized_leads : (b c : EventBody) (h : Progress) → IsNormalized b c → Expects (plain h) b
    → plain (progress_after h (emitter_event c)) ≡ moved_by (plain h) b
normalized_leads b c h e x = moved_there h c (normalized_expected b c (plain h) e x) ∙ normalized_moved b c (plain h) e

-- ---- what is wrong with it wherever it is

-- nothing is
abbrev pub IsOwn : Bool → EventBody → Type 0
IsOwn canonical b = (event_problem canonical (emitter_event b) ≡ None) × (last_problem (emitter_event b) ≡ None)

untagged : (kept : Bool) → tag_problem (kept_if kept None) ≡ None
untagged true = refl
untagged false = refl

-- a scalar that gives up its tag
bare_own : (canonical : Bool) (anchor tag : Option (List ℕ)) (value : List ℕ) (plain quoted : Bool)
    (style : yaml_scalar_style_t)
    → IsOwn canonical (event.scalar anchor tag value plain quoted style)
    → IsOwn canonical (event.scalar anchor None value true false style)
unfolding event_problem last_problem
bare_own canonical anchor tag value plain quoted style h = (or_none (anchor_problem anchor) _ (or_both (anchor_problem anchor) _ h.0).0 (untagged (canonical || not true)), refl)

pub normalized_own : (canonical : Bool) (b c : EventBody) → IsNormalized b c → IsOwn canonical b
    → IsOwn canonical c
unfolding event_problem last_problem
normalized_own canonical (event.document_end i) c e h = subst (IsOwn canonical) (sym e.1) (refl, refl)
normalized_own canonical (event.scalar a t v p q z) c (inl e) h = subst (IsOwn canonical) (sym e) h
normalized_own canonical (event.scalar a t v p q z) c (inr e) h = subst (IsOwn canonical) (sym e) (bare_own canonical a t v p q z h)
normalized_own canonical _ c e h = subst (IsOwn canonical) (sym e) h

pub no_problem : (canonical : Bool) (h : Progress) (b : EventBody)
    → IsTaken h.place h.due (emitter_event b) → IsOwn canonical b
    → problem_in canonical h (emitter_event b) ≡ None
unfolding problem_by
no_problem canonical h b t o =
    or_none (event_problem canonical (emitter_event b)) _ o.0 (or_none (place_problem h.place (level_due h.due) (emitter_event b)) (last_problem (emitter_event b)) t o.1)

-- ---- nothing changed

pub unchanged : IsNormalizing (λ (b : EventBody). b)
unchanged (event.document_end i) = (i, refl)
unchanged (event.scalar a t v p q z) = inl refl
unchanged _ = refl
