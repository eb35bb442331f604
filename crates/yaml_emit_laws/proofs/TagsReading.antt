-- Spelled tags are read.
use Rattle.std.proofs.Common.{◌≡◌, ℕ, suc, ◌+◌, ◌<◌, Bool, true, false, List, [], ◌∷◌, ◌++◌, length, Ok, refl, sym, ap, subst, ◌∙◌, arith, append_assoc, length-append, IsUtf8}
use Rattle.yaml_emit_laws.proofs.Shared.{TagText, tag_at, may_end_tag, HasAt, are_alphas, uri_bytes, Split, shorthand, verbatim, spelled, uri_text, IsShaped, IsReadable}
use Rattle.yaml_scan_history.specs.Written as written
use Rattle.yaml_scan_history.proofs.TagsRead.{bare_is_read, verbatim_is_read, named_is_read}
use Rattle.yaml_emit_laws.specs.TagsLaws.{tag_text}
use Rattle.yaml_emit_laws.proofs.Pieces.{pieces_of, text_is, bytes_are, many_are, unmarked, text_uri}

-- a tag is read there up to the end of a text
abbrev ReadsBehind : List ℕ → List ℕ → List ℕ → Type 0
ReadsBehind handle suffix front = (flow : Bool) (text : List ℕ) (p : ℕ) → HasAt text p front → may_end_tag flow text (p + length front) ≡ true
    → tag_at flow text p ≡ Ok record { handle = handle; suffix = suffix; end = p + length front }

tag_same : (handle s t : List ℕ) (e f : ℕ) → s ≡ t → e ≡ f
    → let one : TagText = record { handle = handle; suffix = s; end = e } in
    let other : TagText = record { handle = handle; suffix = t; end = f } in
    one ≡ other
tag_same handle s t e f a b = rw (a, b) refl

-- pieces, with their text and bytes
record Spelt (wide : Bool) (bs : List ℕ) : Type 0 where
  pub text : written.uri_text (pieces_of wide bs) ≡ uri_text wide bs
  pub long : length (written.uri_text (pieces_of wide bs)) ≡ length (uri_text wide bs)
  pub bytes : uri_bytes (pieces_of wide bs) ≡ bs
  pub some : 0 < length (pieces_of wide bs)

spelt : (wide : Bool) (bs : List ℕ) → 0 < length bs → Spelt wide bs
spelt wide bs some = grind (arith, text_is, bytes_are, many_are)

ends_so : (flow : Bool) (text : List ℕ) (e f : ℕ) → e ≡ f → may_end_tag flow text e ≡ true
    → may_end_tag flow text f ≡ true
ends_so flow text e f same stop = subst (λ (n : ℕ). may_end_tag flow text n ≡ true) same stop

-- The three spellings, of what a URI's text is.

abbrev bare_handle : List ℕ
bare_handle = 33 ∷ []

abbrev bare_text : List ℕ → List ℕ
bare_text uri = 33 ∷ uri

abbrev named_handle : List ℕ → List ℕ
named_handle name = 33 ∷ (name ++ (33 ∷ []))

abbrev named_text : List ℕ → List ℕ → List ℕ
named_text name uri = 33 ∷ (name ++ (33 ∷ uri))

abbrev bracket : List ℕ
bracket = 62 ∷ []

abbrev verbatim_text : List ℕ → List ℕ
verbatim_text uri = 33 ∷ 60 ∷ (uri ++ bracket)

bare_length : (uri : List ℕ) → length (bare_text uri) ≡ suc (length uri)
bare_length uri = refl

bare_read : (suffix : List ℕ) → IsUtf8 suffix → 0 < length suffix
    → ReadsBehind bare_handle suffix (bare_text (uri_text false suffix))
bare_read suffix utf8 some flow text p h stop =
    let s = spelt false suffix some in
    let long = s.long in
    let one = bare_length (uri_text false suffix) in
    let e : p + length (bare_text (uri_text false suffix)) ≡ p + 1 + length (written.uri_text (pieces_of false suffix)) = omega (arith, long, one) in
    let there = subst (λ (x : List ℕ). HasAt text p (bare_text x)) (sym s.text) h in
    bare_is_read flow text p (pieces_of false suffix) there s.some (text_uri false suffix utf8) (unmarked suffix) (ends_so flow text _ _ e stop)
    ∙ ap (λ (t : TagText). Ok t) (tag_same bare_handle (uri_bytes (pieces_of false suffix)) suffix _ _ s.bytes (sym e))

named_read : (name suffix : List ℕ) → are_alphas name ≡ true → IsUtf8 suffix → 0 < length suffix
    → ReadsBehind (named_handle name) suffix (named_text name (uri_text false suffix))
named_read name suffix alphas utf8 some flow text p h stop =
    let s = spelt false suffix some in
    let long = s.long in
    let one = ap suc (length-append name (bare_text (uri_text false suffix))) in
    let e : p + length (named_text name (uri_text false suffix)) ≡ p + 2 + length name + length (written.uri_text (pieces_of false suffix)) = omega (arith, long, one) in
    let there = subst (λ (x : List ℕ). HasAt text p (named_text name x)) (sym s.text) h in
    named_is_read flow text p name (pieces_of false suffix) there alphas s.some (text_uri false suffix utf8) (ends_so flow text _ _ e stop)
    ∙ ap (λ (t : TagText). Ok t) (tag_same (named_handle name) (uri_bytes (pieces_of false suffix)) suffix _ _ s.bytes (sym e))

verbatim_read : (tag : List ℕ) → IsUtf8 tag → 0 < length tag
    → ReadsBehind [] tag (verbatim_text (uri_text true tag))
verbatim_read tag utf8 some flow text p h stop =
    let s = spelt true tag some in
    let long = s.long in
    let one = ap (λ (n : ℕ). suc (suc n)) (length-append (uri_text true tag) bracket) in
    let e : p + length (verbatim_text (uri_text true tag)) ≡ p + 3 + length (written.uri_text (pieces_of true tag)) = omega (arith, long, one) in
    let there = subst (λ (x : List ℕ). HasAt text p (verbatim_text x)) (sym s.text) h in
    verbatim_is_read flow text p (pieces_of true tag) there s.some (text_uri true tag utf8) (ends_so flow text _ _ e stop)
    ∙ ap (λ (t : TagText). Ok t) (tag_same [] (uri_bytes (pieces_of true tag)) tag _ _ s.bytes (sym e))

shorthand_read : (handle suffix : List ℕ) → IsShaped handle → IsUtf8 suffix → 0 < length suffix
    → ReadsBehind handle suffix (handle ++ uri_text false suffix)
shorthand_read handle suffix v2 utf8 some = grind (arith, bare_read, append_assoc, named_read)

-- A tag that is written by handle and suffix reads back as these.
pub split_read : (split : Split) → IsReadable split → (flow : Bool) (text : List ℕ) (p : ℕ)
    → HasAt text p (spelled split) → may_end_tag flow text (p + length (spelled split)) ≡ true
    → tag_at flow text p ≡ Ok (tag_text split (p + length (spelled split)))
unfolding spelled
split_read (shorthand handle suffix) (shape, utf8, some) flow text p h stop = shorthand_read handle suffix shape utf8 some flow text p h stop
split_read (verbatim tag) (utf8, some) flow text p h stop = verbatim_read tag utf8 some flow text p h stop
