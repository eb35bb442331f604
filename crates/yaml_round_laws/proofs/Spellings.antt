-- How long a tag is spelled: by its parts as the input has them, and by the directives of its document.
use Rattle.std.proofs.Common.{◌≡◌, ℕ, zero, suc, ◌+◌, ◌*◌, ◌≤◌, true, false, ◌==◌, List, [], ◌∷◌, ◌++◌, length, drop, codes, Option, Some, None, refl, arith, inl, inr, le_refl}
use Rattle.yaml_round_laws.proofs.SizesWords.{cases_Bool, eqb-true, bytes_eq, TagDirective, Encoding, Utf8, Utf16Le, Utf16Be, Settings, char_bytes, hex_digit, hex_2, has_shorter_prefix, directive_for, defines, primary, secondary, unless_defined, defaults, in_force, suffix_keeps, uri_byte, uri_text, spelled, split_by, tag_spelling, context_of, unit, ascii, text_bytes, tag_bytes, prefix_of, in_full}

-- a text of a tag, with its escapes
abbrev pub uri_bytes : Encoding → List ℕ → ℕ
uri_bytes x bs = text_bytes x (uri_text false bs)

pub text_append : (x : Encoding) (cs ds : List ℕ)
    → text_bytes x (cs ++ ds) ≡ text_bytes x cs + text_bytes x ds
unfolding text_bytes
text_append x [] ds = omega arith
text_append x (c ∷ cs) ds = omega (arith, text_append x cs ds)

uri_append : (x : Encoding) (cs ds : List ℕ)
    → uri_bytes x (cs ++ ds) ≡ uri_bytes x cs + uri_bytes x ds
unfolding uri_text text_bytes
uri_append x [] ds = omega arith
uri_append x (c ∷ cs) ds =
    omega (arith, text_append x (uri_byte false c) (uri_text false (cs ++ ds)), text_append x (uri_byte false c) (uri_text false cs), uri_append x cs ds)

uri_drop : (x : Encoding) (n : ℕ) (cs : List ℕ) → uri_bytes x (drop n cs) ≤ uri_bytes x cs
unfolding uri_text text_bytes
uri_drop x zero cs = le_refl _
uri_drop x (suc n) [] = le_refl _
uri_drop x (suc n) (c ∷ cs) = omega (arith, text_append x (uri_byte false c) (uri_text false cs), uri_drop x n cs)

-- three signs take no more as they are than an escape takes
sign_less : (x : Encoding) (c : ℕ) (t : List ℕ) → length (char_bytes x c) ≡ unit x
    → text_bytes x (c ∷ []) ≤ text_bytes x (37 ∷ t)
unfolding text_bytes char_bytes
sign_less Utf8 c t e = omega (arith, e)
sign_less _ c t e = omega (arith, e)

comma_unit : (x : Encoding) → length (char_bytes x 44) ≡ unit x
unfolding char_bytes
comma_unit Utf8 = refl
comma_unit _ = refl

open_unit : (x : Encoding) → length (char_bytes x 91) ≡ unit x
unfolding char_bytes
open_unit Utf8 = refl
open_unit _ = refl

close_unit : (x : Encoding) → length (char_bytes x 93) ≡ unit x
unfolding char_bytes
close_unit Utf8 = refl
close_unit _ = refl

sign_unit : (x : Encoding) (c n : ℕ) → (c == n) ≡ true → length (char_bytes x n) ≡ unit x
    → length (char_bytes x c) ≡ unit x
sign_unit x c n e u = rw (eqb-true c n e) u

wide_byte : (x : Encoding) (c : ℕ)
    → text_bytes x (uri_byte true c) ≤ text_bytes x (uri_byte false c)
wide_byte x c =
    elim (cases_Bool (suffix_keeps c)) [
      | inl e ↦ rw e (le_refl _)
      | inr e ↦ elim (cases_Bool (c == 44)) [
        | inl f ↦ rw (e, f) (sign_less x c (hex_2 c) (sign_unit x c 44 f (comma_unit x)))
        | inr f ↦ elim (cases_Bool (c == 91)) [
          | inl g ↦ rw (e, f, g) (sign_less x c (hex_2 c) (sign_unit x c 91 g (open_unit x)))
          | inr g ↦ elim (cases_Bool (c == 93)) [
            | inl h ↦ rw (e, f, g, h) (sign_less x c (hex_2 c) (sign_unit x c 93 h (close_unit x)))
            | inr h ↦ rw (e, f, g, h) (le_refl _)
          ]
        ]
      ]
    ]

pub wide_uri : (x : Encoding) (cs : List ℕ) → text_bytes x (uri_text true cs) ≤ uri_bytes x cs
unfolding uri_text
wide_uri x [] = le_refl _
wide_uri x (c ∷ cs) =
    omega (arith, text_append x (uri_byte true c) (uri_text true cs), text_append x (uri_byte false c) (uri_text false cs), wide_byte x c, wide_uri x cs)

-- ---- directives

-- their handles and prefixes
abbrev pub handles_bytes : Encoding → List TagDirective → ℕ
handles_bytes x [] = 0
handles_bytes x (d ∷ ds) = text_bytes x d.handle + handles_bytes x ds

abbrev pub prefixes_bytes : Encoding → List TagDirective → ℕ
prefixes_bytes x [] = 0
prefixes_bytes x (d ∷ ds) = uri_bytes x d.prefix + prefixes_bytes x ds

handles_append : (x : Encoding) (ds es : List TagDirective)
    → handles_bytes x (ds ++ es) ≡ handles_bytes x ds + handles_bytes x es
handles_append x [] es = omega arith
handles_append x (d ∷ ds) es = omega (arith, handles_append x ds es)

primary_bytes : (x : Encoding) → text_bytes x primary.handle ≡ unit x
unfolding text_bytes char_bytes
primary_bytes Utf8 = refl
primary_bytes _ = refl

secondary_bytes : (x : Encoding) → text_bytes x secondary.handle ≡ 2 * unit x
unfolding text_bytes char_bytes
secondary_bytes Utf8 = refl
secondary_bytes _ = refl

unless_most : (x : Encoding) (ds : List TagDirective) (d : TagDirective)
    → handles_bytes x (unless_defined ds d) ≤ text_bytes x d.handle
unless_most x ds d =
    elim (cases_Bool (defines ds d.handle)) [
      | inl e ↦ rw e (omega arith)
      | inr e ↦ rw e (omega arith)
    ]

force_most : (x : Encoding) (ds : List TagDirective)
    → handles_bytes x (in_force ds) ≤ handles_bytes x ds + 3 * unit x
force_most x ds =
    omega (
      arith,
      handles_append x ds (defaults ds),
      handles_append x (unless_defined ds primary) (unless_defined ds secondary),
      unless_most x ds primary,
      unless_most x ds secondary,
      primary_bytes x,
      secondary_bytes x,
    )

-- what a tag is spelled as, by the directive that is chosen
abbrev HandleMost : Encoding → ℕ → Option TagDirective → Type 0
HandleMost x n None = Unit {0}
HandleMost x n (Some d) = text_bytes x d.handle ≤ n

handle_more : (x : Encoding) (n m : ℕ) (o : Option TagDirective) → n ≤ m → HandleMost x n o
    → HandleMost x m o
handle_more x n m None w h = tt
handle_more x n m (Some d) w h = omega (arith, w, h)

chosen_most : (x : Encoding) (ds : List TagDirective) (tag : List ℕ)
    → HandleMost x (handles_bytes x ds) (directive_for ds tag)
unfolding directive_for
chosen_most x [] tag = tt
chosen_most x (d ∷ ds) tag =
    elim (cases_Bool (has_shorter_prefix d.prefix tag)) [
      | inl e ↦ rw e (omega arith)
      | inr e ↦ rw e (handle_more x (handles_bytes x ds) (handles_bytes x (d ∷ ds)) (directive_for ds tag) (omega arith) (chosen_most x ds tag))
    ]

verbatim_most : (x : Encoding) (tag : List ℕ)
    → text_bytes x (33 ∷ 60 ∷ (uri_text true tag ++ 62 ∷ [])) ≤ 3 * unit x + uri_bytes x tag
unfolding text_bytes char_bytes
verbatim_most x tag = by x
  where
    by : (x : Encoding)
        → text_bytes x (33 ∷ 60 ∷ (uri_text true tag ++ 62 ∷ [])) ≤ 3 * unit x + uri_bytes x tag
    by Utf8 = omega (arith, text_append Utf8 (uri_text true tag) (62 ∷ []), wide_uri Utf8 tag)
    by Utf16Le = omega (arith, text_append Utf16Le (uri_text true tag) (62 ∷ []), wide_uri Utf16Le tag)
    by Utf16Be = omega (arith, text_append Utf16Be (uri_text true tag) (62 ∷ []), wide_uri Utf16Be tag)

split_most : (x : Encoding) (n : ℕ) (o : Option TagDirective) (tag : List ℕ) → HandleMost x n o
    → text_bytes x (spelled (split_by o tag)) ≤ 3 * unit x + n + uri_bytes x tag
unfolding spelled
split_most x n None tag h = omega (arith, verbatim_most x tag)
split_most x n (Some d) tag h = omega (arith, h, text_append x d.handle (uri_text false (drop (length d.prefix) tag)), uri_drop x (length d.prefix) tag)

spelling_most : (x : Encoding) (ds : List TagDirective) (tag : List ℕ)
    → text_bytes x (tag_spelling ds tag) ≤ 6 * unit x + handles_bytes x ds + uri_bytes x tag
spelling_most x ds tag =
    omega (arith, force_most x ds, split_most x (handles_bytes x (in_force ds)) (directive_for (in_force ds) tag) tag (chosen_most x (in_force ds) tag))

yaml_bytes : (x : Encoding) → uri_bytes x (codes "tag:yaml.org,2002:") ≡ 20 * unit x
unfolding text_bytes char_bytes uri_text suffix_keeps hex_digit
yaml_bytes Utf8 = refl
yaml_bytes _ = refl

prefix_most : (x : Encoding) (ds : List TagDirective) (handle : List ℕ)
    → uri_bytes x (prefix_of ds handle) ≤ prefixes_bytes x ds + 20 * unit x + uri_bytes x handle
prefix_most x [] handle =
    elim (cases_Bool (bytes_eq handle (codes "!!"))) [
      | inl e ↦ rw e (omega (arith, yaml_bytes x))
      | inr e ↦ rw e (omega arith)
    ]
prefix_most x (d ∷ ds) handle =
    elim (cases_Bool (bytes_eq d.handle handle)) [
      | inl e ↦ rw e (omega arith)
      | inr e ↦ rw e (omega (arith, prefix_most x ds handle))
    ]

full_most : (x : Encoding) (ds : List TagDirective) (handle suffix : List ℕ)
    → uri_bytes x (in_full ds handle suffix) ≤ prefixes_bytes x ds + 20 * unit x + uri_bytes x
    handle + uri_bytes x suffix
full_most x ds [] suffix = omega arith
full_most x ds (c ∷ handle) suffix = omega (arith, uri_append x (prefix_of ds (c ∷ handle)) suffix, prefix_most x ds (c ∷ handle))

-- a space and the tag
pub tag_most : (s : Settings) (ds : List TagDirective) (handle suffix : List ℕ)
    → tag_bytes (context_of s ds) (Some (in_full ds handle suffix)) ≤ ascii s 27 + handles_bytes
    s.encoding ds + prefixes_bytes s.encoding ds + uri_bytes s.encoding handle + uri_bytes
    s.encoding suffix
tag_most s ds handle suffix =
    let x = s.encoding in
    omega (arith, spelling_most x ds (in_full ds handle suffix), full_most x ds handle suffix)
