-- Events that are built of records.
use Rattle.std.proofs.Common.{◌≡◌, ℕ, ◌+◌, ◌<◌, ◌≤◌, length, get_or, drop, Bool, true, false, ◌&&◌, List, [], ◌∷◌, ◌++◌, refl, sym, ap, ◌∙◌, subst, Option, None, Some, is_some, map, append-nil, option_map}
use Rattle.std.specs.Prelude.{IsUtf8, IfSome, Vec}
use Rattle.std.specs.Global.{Global}
use Rattle.std.specs.Str.{is_utf8}
use Rattle.std.proofs.lemmas.Str.{IsUtf8-from_is_utf8}
use Rattle.yaml_parse.specs.Constructors.{HasUtf8, AreUtf8, IsUtf8Option}
use Rattle.yaml_parse.specs.declared.yaml_tag_directive_t.{yaml_tag_directive_t}
use Rattle.yaml_parse.specs.Events.{EventBody, TagDirective, directive_of}
use Rattle.yaml_parse.specs.Events as event
use Rattle.yaml_parse.specs.declared.yaml_event_type_t.{yaml_event_type_t}
use Rattle.yaml_parse.specs.declared.yaml_event_type_t.TheVariants as kind
use Rattle.yaml_parse.specs.declared.EventRef.{EventRef}
use Rattle.yaml_parse.specs.Events.{borrowed_body}
use Rattle.yaml_round_answers.specs.Numbers.{kind_meant}
use Rattle.yaml_round_answers.proofs.Checked.{left_cons, other_kind}
use Rattle.std.proofs.lemmas.List.{drop_all}
use Rattle.std.proofs.lemmas.Bool.{and_parts}
use Rattle.yaml_round_answers.specs.declared.record.yaml_c_directive.{yaml_c_directive}
use Rattle.yaml_round_answers.specs.declared.record.yaml_c_event.{yaml_c_event}
use Rattle.yaml_round_answers.specs.Records.{part_at, directive_at, in_front, all_directives, directives_in, directives_at, body_with, body_meant}
use Rattle.yaml_round_answers.specs.Meaning.{is_utf8_option, are_utf8, may_give, given_if, given, event_meant}

-- ---- an event that can be given has its texts in UTF-8

option_utf8 : (t : Option (List ℕ)) → is_utf8_option t ≡ true → IsUtf8Option t
option_utf8 None h = tt
option_utf8 (Some t) h = IsUtf8-from_is_utf8 t h

directives_utf8 : (ds : List TagDirective) → are_utf8 ds ≡ true → AreUtf8 ds
directives_utf8 [] h = tt
directives_utf8 (d ∷ ds) h =
    let front = (and_parts (is_utf8 d.handle && is_utf8 d.prefix) (are_utf8 ds) h).0 in (
      (IsUtf8-from_is_utf8 d.handle (and_parts (is_utf8 d.handle) (is_utf8 d.prefix) front).0, IsUtf8-from_is_utf8 d.prefix (and_parts (is_utf8 d.handle) (is_utf8 d.prefix) front).1),
      directives_utf8 ds (and_parts (is_utf8 d.handle && is_utf8 d.prefix) (are_utf8 ds) h).1,
    )

properties_utf8 : (a t : Option (List ℕ)) → (is_utf8_option a && is_utf8_option t) ≡ true
    → IsUtf8Option a × IsUtf8Option t
properties_utf8 a t h = (option_utf8 a (and_parts (is_utf8_option a) (is_utf8_option t) h).0, option_utf8 t (and_parts (is_utf8_option a) (is_utf8_option t) h).1)

scalar_utf8 : (a t : Option (List ℕ)) (v : List ℕ)
    → (is_utf8_option a && (is_utf8_option t && is_utf8 v)) ≡ true
    → IsUtf8Option a × IsUtf8Option t × IsUtf8 v
scalar_utf8 a t v h =
    let rest = (and_parts (is_utf8_option a) (is_utf8_option t && is_utf8 v) h).1 in
    (option_utf8 a (and_parts (is_utf8_option a) (is_utf8_option t && is_utf8 v) h).0, option_utf8 t (and_parts (is_utf8_option t) (is_utf8 v) rest).0, IsUtf8-from_is_utf8 v (and_parts (is_utf8_option t) (is_utf8 v) rest).1)

pub has_utf8 : (b : EventBody) → may_give b ≡ true → HasUtf8 b
has_utf8 event.no h = tt
has_utf8 (event.stream_start encoding) h = tt
has_utf8 event.stream_end h = tt
has_utf8 (event.document_start version directives implicit) h = directives_utf8 directives h
has_utf8 (event.document_end implicit) h = tt
has_utf8 (event.alias anchor) h = IsUtf8-from_is_utf8 anchor h
has_utf8 (event.scalar anchor tag value plain quoted style) h = scalar_utf8 anchor tag value h
has_utf8 (event.sequence_start anchor tag implicit style) h = properties_utf8 anchor tag h
has_utf8 event.sequence_end h = tt
has_utf8 (event.mapping_start anchor tag implicit style) h = properties_utf8 anchor tag h
has_utf8 event.mapping_end h = tt

some_if : (b : Bool) (e : EventBody) → is_some (given_if b e) ≡ true → b ≡ true
some_if true e h = refl
some_if false e h = h

given_true : (b : Bool) (e : EventBody) → b ≡ true → given_if b e ≡ Some e
given_true true e h = refl
given_true false e h = absurd (cc)

-- a record that means an event means its body
pub meant_body : (bytes : List ℕ) (list : List yaml_c_directive) (r : yaml_c_event) (b : EventBody)
    → body_meant bytes list r ≡ Some b → is_some (event_meant bytes list r) ≡ true
    → (event_meant bytes list r ≡ Some b) × HasUtf8 b
unfolding event_meant
meant_body bytes list r b is h =
    let may : may_give b ≡ true = some_if (may_give b) b (subst (λ (o : Option EventBody). is_some (given o) ≡ true) is h) in
    (ap given is ∙ given_true (may_give b) b may, has_utf8 b may)

-- ---- directives one after another

-- What was put, and whatever the rest means, is what all mean.
abbrev pub PutSome : List ℕ → List yaml_c_directive → List TagDirective → List yaml_c_directive
    → Type 0
PutSome bytes list front left = (rest : List TagDirective) → all_directives bytes left ≡ Some rest → all_directives bytes list ≡ Some (front ++ rest)

one_more : (bytes : List ℕ) (d : yaml_c_directive) (ds : List yaml_c_directive) (x : TagDirective)
    (rest : List TagDirective) → directive_at bytes d ≡ Some x → all_directives bytes ds ≡ Some rest
    → all_directives bytes (d ∷ ds) ≡ Some (x ∷ rest)
unfolding all_directives
one_more bytes d ds x rest is h = ap (λ o. in_front o (all_directives bytes ds)) is ∙ ap (in_front (Some x)) h

snoc_map : (xs : List yaml_tag_directive_t) (x : yaml_tag_directive_t) (rest : List TagDirective)
    → map directive_of xs ++ (directive_of x ∷ rest) ≡ map directive_of (xs ++ x ∷ []) ++ rest
snoc_map [] x rest = refl
snoc_map (y ∷ ys) x rest = ap (λ (ds : List TagDirective). directive_of y ∷ ds) (snoc_map ys x rest)

pub put_more : (bytes : List ℕ) (list : List yaml_c_directive) (i : ℕ) (d : yaml_c_directive)
    (x : yaml_tag_directive_t) (front new : List yaml_tag_directive_t) → i < length list
    → PutSome bytes list (map directive_of front) (drop i list)
    → directive_at bytes (get_or list i d) ≡ Some (directive_of x) → new ≡ front ++ x ∷ []
    → PutSome bytes list (map directive_of new) (drop (i + 1) list)
put_more bytes list i d x front new h inv is added = λ rest left.
    inv (directive_of x ∷ rest) (ap (all_directives bytes) (left_cons list i d h) ∙ one_more bytes (get_or list i d) (drop (i + 1) list) (directive_of x) rest is left)
    ∙ ap (λ (ds : List TagDirective). Some ds) (snoc_map front x rest ∙ ap (λ (ys : List yaml_tag_directive_t). map directive_of ys ++ rest) (sym added))

pub none_directives : (bytes : List ℕ) → all_directives bytes [] ≡ Some []
unfolding all_directives
none_directives bytes = refl

pub put_all : (bytes : List ℕ) (list : List yaml_c_directive) (i : ℕ) (front : List TagDirective)
    → length list ≤ i → PutSome bytes list front (drop i list)
    → all_directives bytes list ≡ Some front
put_all bytes list i front h inv = inv [] (ap (all_directives bytes) (drop_all i list h) ∙ none_directives bytes) ∙ ap (λ (ds : List TagDirective). Some ds) (append-nil front)

-- ---- an event that a record means

-- what a record means, by the event that it means with its directives
pub made_of : (bytes : List ℕ) (list : List yaml_c_directive) (r : yaml_c_event)
    (xs ys : List yaml_tag_directive_t) (o : Option EventRef) (x : EventRef)
    → body_with (Some (map directive_of ys)) (kind_meant r.kind) bytes r ≡ body_meant bytes list r
    → xs ≡ ys
    → option_map borrowed_body o ≡ body_with (Some (map directive_of xs)) (kind_meant r.kind) bytes r
    → o ≡ Some x → is_some (event_meant bytes list r) ≡ true
    → (event_meant bytes list r ≡ Some (borrowed_body x)) × HasUtf8 (borrowed_body x)
made_of bytes list r xs ys o x d same e is h =
    let there : body_meant bytes list r ≡ option_map borrowed_body o = sym (e ∙ ap (λ z. body_with (Some (map directive_of z)) (kind_meant r.kind) bytes r) same ∙ d) in
    meant_body bytes list r (borrowed_body x) (there ∙ ap (option_map borrowed_body) is) h

-- a document's start with its directives
pub with_directives : (bytes : List ℕ) (list : List yaml_c_directive) (r : yaml_c_event)
    (ds : List yaml_c_directive) (o : Option (Vec yaml_tag_directive_t Global))
    → Some ds ≡ part_at list r.directives
    → IfSome o (λ v. all_directives bytes ds ≡ Some (map directive_of v.items))
    → IfSome o (λ v. body_with (Some (map directive_of v.items)) (kind_meant r.kind) bytes r
    ≡ body_meant bytes list r)
unfolding body_meant
with_directives bytes list r ds None p d = tt
with_directives bytes list r ds (Some v) p d = ap (λ z. body_with z (kind_meant r.kind) bytes r) (sym d ∙ ap (directives_in bytes) p)

pub without_directives : (bytes : List ℕ) (list : List yaml_c_directive) (r : yaml_c_event)
    (k : yaml_event_type_t) (ds : Option (List TagDirective)) → Some k ≡ kind_meant r.kind
    → (k ≡ kind.YAML_DOCUMENT_START_EVENT → ⊥)
    → body_with ds (kind_meant r.kind) bytes r ≡ body_meant bytes list r
unfolding body_meant
without_directives bytes list r k ds is h =
    ap (λ z. body_with ds z bytes r) (sym is)
    ∙ other_kind ds (directives_at bytes list r.directives) k bytes r h
    ∙ ap (λ z. body_with (directives_at bytes list r.directives) z bytes r) is
