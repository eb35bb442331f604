-- Tests of what records name, and what the records mean.
use Rattle.std.proofs.Common.{◌≡◌, ℕ, ◌+◌, ◌<◌, length, get_or, drop, add-one, Bool, true, false, ◌&&◌, List, [], ◌∷◌, refl, sym, ap, ◌∙◌, Option, None, Some, is_some, option_map, Bor, IsTrue, ◌↔◌}
use Rattle.std.specs.Prelude.{IsUtf8}
use Rattle.std.specs.List.{list_all}
use Rattle.std.specs.Str.{is_utf8}
use Rattle.std.proofs.Math.Seq.{drop-cons}
use Rattle.std.proofs.lemmas.Bool.{false≢true}
use Rattle.std.proofs.lemmas.Str.{IsUtf8-from_is_utf8, is_utf8-from_IsUtf8}
use Rattle.std.proofs.Math.Bool.{and-false}
use Rattle.yaml_parse.specs.Events.{EventBody, TagDirective}
use Rattle.yaml_parse.specs.Events as event
use Rattle.yaml_parse.specs.declared.yaml_encoding_t.{yaml_encoding_t}
use Rattle.yaml_parse.specs.declared.yaml_event_type_t.{yaml_event_type_t}
use Rattle.yaml_parse.specs.declared.yaml_event_type_t.TheVariants as kind
use Rattle.yaml_parse.specs.declared.yaml_scalar_style_t.{yaml_scalar_style_t}
use Rattle.yaml_parse.specs.declared.yaml_sequence_style_t.{yaml_sequence_style_t}
use Rattle.yaml_parse.specs.declared.yaml_mapping_style_t.{yaml_mapping_style_t}
use Rattle.yaml_parse.specs.declared.yaml_tag_directive_t.{yaml_tag_directive_t}
use Rattle.yaml_parse.specs.declared.yaml_version_directive_t.{yaml_version_directive_t}
use Rattle.yaml_parse.specs.declared.EventRef.{EventRef}
use Rattle.yaml_parse.specs.declared.EventRef.TheVariants as borrowed
use Rattle.yaml_parse.specs.Events.{borrowed_body}
use Rattle.yaml_round_answers.specs.declared.record.yaml_c_directive.{yaml_c_directive}
use Rattle.yaml_round_answers.specs.declared.record.yaml_c_event.{yaml_c_event}
use Rattle.yaml_round_answers.specs.Numbers.{kind_meant, encoding_meant, scalar_style_meant, sequence_style_meant, mapping_style_meant}
use Rattle.yaml_round_answers.specs.Records.{part_at, optional_at, directive_at, in_front, all_directives, directives_at, document_by, scalar_by, sequence_by, mapping_by, body_with, body_meant, body_in_front}
use Rattle.yaml_round_answers.specs.Meaning.{may_give, given_if, given, event_meant, events_meant}
use Rattle.yaml_round_answers.specs.Checking.{is_directive, are_directives, may_give_beside, is_event}

unreadable : (b : Bool) (t : List ℕ) → b ≡ is_utf8 t → ¬ IsUtf8 t → false ≡ b
unreadable true t is h = absurd (h (IsUtf8-from_is_utf8 t (sym is)))
unreadable false t is h = refl

-- a test for UTF-8
pub readable : (b : Bool) (t : List ℕ) → (IsTrue b ↔ IsUtf8 t) → b ≡ is_utf8 t
readable true t h = sym (is_utf8-from_IsUtf8 t (h.0 refl))
readable false t h = unreadable (is_utf8 t) t refl (λ u. false≢true (h.1 u))

-- ---- directives

front_directives : (d : Option TagDirective) (ds : Option (List TagDirective))
    → are_directives (in_front d ds) ≡ (is_directive d && are_directives ds)
front_directives None ds = refl
front_directives (Some d) None = sym (and-false (is_utf8 d.handle && is_utf8 d.prefix))
front_directives (Some d) (Some ds) = refl

pub more_directives : (bytes : List ℕ) (d : yaml_c_directive) (ds : List yaml_c_directive)
    → are_directives (all_directives bytes (d ∷ ds))
    ≡ (is_directive (directive_at bytes d) && are_directives (all_directives bytes ds))
unfolding all_directives
more_directives bytes d ds = front_directives (directive_at bytes d) (all_directives bytes ds)

-- ---- events

-- no start of a document
abbrev pub NoDocument : EventBody → Type 0
NoDocument (event.document_start v ds i) = ⊥
NoDocument _ = Unit {0}

pub no_document : (x : EventRef)
    → ((v : _) (ds : _) (i : _) → x ≡ borrowed.DocumentStart v ds i → ⊥)
    → NoDocument (borrowed_body x)
no_document (borrowed.DocumentStart v ds i) h = h v ds i refl
no_document _ h = tt

-- directives count for a document's start alone
pub other_kind : (ds es : Option (List TagDirective)) (k : yaml_event_type_t) (bytes : List ℕ)
    (r : yaml_c_event) → (k ≡ kind.YAML_DOCUMENT_START_EVENT → ⊥)
    → body_with ds (Some k) bytes r ≡ body_with es (Some k) bytes r
other_kind ds es kind.YAML_DOCUMENT_START_EVENT bytes r h = absurd (h refl)
other_kind ds es _ bytes r h = refl

abbrev is_start : Option EventBody → Bool
is_start (Some (event.document_start v ds i)) = true
is_start _ = false

no_stream : (o : Option yaml_encoding_t) → is_start (option_map event.stream_start o) ≡ false
no_stream None = refl
no_stream (Some x) = refl

no_alias : (o : Option (List ℕ)) → is_start (option_map event.alias o) ≡ false
no_alias None = refl
no_alias (Some x) = refl

no_scalar : (a t : Option (Option (List ℕ))) (v : Option (List ℕ))
    (s : Option yaml_scalar_style_t) (r : yaml_c_event) → is_start (scalar_by a t v s r) ≡ false
no_scalar None t v s r = refl
no_scalar (Some a) None v s r = refl
no_scalar (Some a) (Some t) None s r = refl
no_scalar (Some a) (Some t) (Some v) None r = refl
no_scalar (Some a) (Some t) (Some v) (Some s) r = refl

no_sequence : (a t : Option (Option (List ℕ))) (s : Option yaml_sequence_style_t)
    (r : yaml_c_event) → is_start (sequence_by a t s r) ≡ false
no_sequence None t s r = refl
no_sequence (Some a) None s r = refl
no_sequence (Some a) (Some t) None r = refl
no_sequence (Some a) (Some t) (Some s) r = refl

no_mapping : (a t : Option (Option (List ℕ))) (s : Option yaml_mapping_style_t)
    (r : yaml_c_event) → is_start (mapping_by a t s r) ≡ false
no_mapping None t s r = refl
no_mapping (Some a) None s r = refl
no_mapping (Some a) (Some t) None r = refl
no_mapping (Some a) (Some t) (Some s) r = refl

-- what is a start is of that kind
start_kind : (k : Option yaml_event_type_t) (ds : Option (List TagDirective)) (bytes : List ℕ)
    (r : yaml_c_event) → is_start (body_with ds k bytes r) ≡ true
    → k ≡ Some kind.YAML_DOCUMENT_START_EVENT
start_kind None ds bytes r h = absurd (false≢true h)
start_kind (Some kind.YAML_NO_EVENT) ds bytes r h = absurd (false≢true h)
start_kind (Some kind.YAML_STREAM_START_EVENT) ds bytes r h = absurd (false≢true (sym (no_stream (encoding_meant r.encoding)) ∙ h))
start_kind (Some kind.YAML_STREAM_END_EVENT) ds bytes r h = absurd (false≢true h)
start_kind (Some kind.YAML_DOCUMENT_START_EVENT) ds bytes r h = refl
start_kind (Some kind.YAML_DOCUMENT_END_EVENT) ds bytes r h = absurd (false≢true h)
start_kind (Some kind.YAML_ALIAS_EVENT) ds bytes r h = absurd (false≢true (sym (no_alias (part_at bytes r.anchor)) ∙ h))
start_kind (Some kind.YAML_SCALAR_EVENT) ds bytes r h =
    absurd (false≢true (sym (no_scalar (optional_at bytes r.has_anchor r.anchor) (optional_at bytes r.has_tag r.tag) (part_at bytes r.value) (scalar_style_meant r.style) r) ∙ h))
start_kind (Some kind.YAML_SEQUENCE_START_EVENT) ds bytes r h =
    absurd (false≢true (sym (no_sequence (optional_at bytes r.has_anchor r.anchor) (optional_at bytes r.has_tag r.tag) (sequence_style_meant r.style) r) ∙ h))
start_kind (Some kind.YAML_SEQUENCE_END_EVENT) ds bytes r h = absurd (false≢true h)
start_kind (Some kind.YAML_MAPPING_START_EVENT) ds bytes r h =
    absurd (false≢true (sym (no_mapping (optional_at bytes r.has_anchor r.anchor) (optional_at bytes r.has_tag r.tag) (mapping_style_meant r.style) r) ∙ h))
start_kind (Some kind.YAML_MAPPING_END_EVENT) ds bytes r h = absurd (false≢true h)

start_told : (ds : Option (List TagDirective)) (r : yaml_c_event)
    → is_event (document_by ds r) ≡ are_directives ds
start_told None r = refl
start_told (Some ds) r = refl

-- what a record means, by the event that it means without directives
abbrev Without : List ℕ → yaml_c_event → Option EventRef → Type 0
Without bytes r o = option_map borrowed_body o ≡ body_with (Some []) (kind_meant r.kind) bytes r

pub start_meant : (bytes : List ℕ) (list : List yaml_c_directive) (r : yaml_c_event)
    (o : Option EventRef) (v : Option yaml_version_directive_t)
    (ds : Bor (List yaml_tag_directive_t)) (i : Bool)
    → o ≡ Some (borrowed.DocumentStart v ds i) → Without bytes r o
    → is_event (body_meant bytes list r) ≡ are_directives (directives_at bytes list r.directives)
unfolding body_meant
start_meant bytes list r o v ds i is w =
    let start : is_start (body_with (Some []) (kind_meant r.kind) bytes r) ≡ true = ap is_start (sym w) ∙ ap (λ z. is_start (option_map borrowed_body z)) is in
    ap (λ z. is_event (body_with (directives_at bytes list r.directives) z bytes r)) (start_kind (kind_meant r.kind) (Some []) bytes r start)
    ∙ start_told (directives_at bytes list r.directives) r

alike : (ds : Option (List TagDirective)) (k : Option yaml_event_type_t) (bytes : List ℕ)
    (r : yaml_c_event) → is_start (body_with (Some []) k bytes r) ≡ false
    → body_with ds k bytes r ≡ body_with (Some []) k bytes r
alike ds (Some kind.YAML_DOCUMENT_START_EVENT) bytes r h = absurd (false≢true (sym h))
alike ds _ bytes r h = refl

other_start : (x : EventRef) → NoDocument (borrowed_body x)
    → is_start (Some (borrowed_body x)) ≡ false
other_start (borrowed.DocumentStart v ds i) h = absurd h
other_start _ h = refl

beside : (x : EventRef) → NoDocument (borrowed_body x)
    → may_give_beside (borrowed_body x) ≡ may_give (borrowed_body x)
beside (borrowed.DocumentStart v ds i) h = absurd h
beside _ h = refl

pub other_meant : (bytes : List ℕ) (list : List yaml_c_directive) (r : yaml_c_event)
    (o : Option EventRef) (x : EventRef) → o ≡ Some x → NoDocument (borrowed_body x)
    → Without bytes r o
    → may_give_beside (borrowed_body x) ≡ is_event (body_meant bytes list r)
unfolding body_meant
other_meant bytes list r o x is h w =
    let same : body_with (Some []) (kind_meant r.kind) bytes r ≡ Some (borrowed_body x) = sym w ∙ ap (option_map borrowed_body) is in
    beside x h ∙ ap is_event (sym (alike (directives_at bytes list r.directives) (kind_meant r.kind) bytes r (ap is_start same ∙ other_start x h) ∙ same))

pub none_meant : (bytes : List ℕ) (list : List yaml_c_directive) (r : yaml_c_event)
    (o : Option EventRef) → ((x : _) → o ≡ Some x → ⊥) → Without bytes r o
    → false ≡ is_event (body_meant bytes list r)
unfolding body_meant
none_meant bytes list r None h w =
    ap is_event (w ∙ sym (alike (directives_at bytes list r.directives) (kind_meant r.kind) bytes r (ap is_start (sym w))))
none_meant bytes list r (Some x) h w = absurd (h x refl)

-- ---- lists of events

some_given_if : (b : Bool) (e : EventBody) → is_some (given_if b e) ≡ b
some_given_if true e = refl
some_given_if false e = refl

some_given : (o : Option EventBody) → is_some (given o) ≡ is_event o
some_given None = refl
some_given (Some b) = some_given_if (may_give b) b

pub some_event : (bytes : List ℕ) (list : List yaml_c_directive) (r : yaml_c_event)
    → is_some (event_meant bytes list r) ≡ is_event (body_meant bytes list r)
unfolding event_meant
some_event bytes list r = some_given (body_meant bytes list r)

some_front : (b : Option EventBody) (bs : Option (List EventBody))
    → is_some (body_in_front b bs) ≡ (is_some b && is_some bs)
some_front None bs = refl
some_front (Some b) None = refl
some_front (Some b) (Some bs) = refl

pub more_events : (bytes : List ℕ) (list : List yaml_c_directive) (r : yaml_c_event)
    (rs : List yaml_c_event)
    → is_some (events_meant bytes list (r ∷ rs))
    ≡ (is_event (body_meant bytes list r) && is_some (events_meant bytes list rs))
unfolding events_meant
more_events bytes list r rs = some_front (event_meant bytes list r) (events_meant bytes list rs) ∙ ap (λ b. b && is_some (events_meant bytes list rs)) (some_event bytes list r)

pub no_events : (bytes : List ℕ) (list : List yaml_c_directive)
    → is_some (events_meant bytes list []) ≡ true
unfolding events_meant
no_events bytes list = refl

pub no_directives : (bytes : List ℕ) → are_directives (all_directives bytes []) ≡ true
unfolding all_directives
no_directives bytes = refl

-- ---- what is left of a list

pub left_cons : {X : Type 0} (xs : List X) (i : ℕ) (d : X) → i < length xs
    → drop i xs ≡ get_or xs i d ∷ drop (i + 1) xs
left_cons xs i d h = drop-cons xs i d h ∙ ap (λ (k : ℕ). get_or xs i d ∷ drop k xs) (sym (add-one i))

-- ---- tests of lists

pub directives_tested : (bytes : List ℕ) (list : List yaml_c_directive)
    → list_all (λ d. is_directive (directive_at bytes d)) list
    ≡ are_directives (all_directives bytes list)
directives_tested bytes [] = sym (no_directives bytes)
directives_tested bytes (d ∷ ds) =
    ap (λ b. is_directive (directive_at bytes d) && b) (directives_tested bytes ds) ∙ sym (more_directives bytes d ds)

pub events_tested : (bytes : List ℕ) (list : List yaml_c_directive) (rs : List yaml_c_event)
    → list_all (λ r. is_event (body_meant bytes list r)) rs ≡ is_some (events_meant bytes list rs)
events_tested bytes list [] = sym (no_events bytes list)
events_tested bytes list (r ∷ rs) =
    ap (λ b. is_event (body_meant bytes list r) && b) (events_tested bytes list rs) ∙ sym (more_events bytes list r rs)
