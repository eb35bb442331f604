-- The directive that a tag is written by.
use Rattle.std.proofs.Common.{◌≡◌, ℕ, ◌+◌, ◌-◌, ◌<◌, ◌≤◌, Bool, true, false, cond, List, [], ◌∷◌, ◌++◌, length, take, drop, get_or, map, Option, Some, None, refl, sym, ◌∙◌, ap, arith, length-drop, append-nil}
use Rattle.std.specs.Prelude.{if◌then◌else◌, not, ◌&&◌, ◌||◌}
use Rattle.std.specs.Str.{bytes_eq}
use Rattle.std.proofs.lemmas.List.{drop_more, drop_all, take_all}
use Rattle.yaml_scan_model.specs.declared.record.yaml_tag_directive_t.{yaml_tag_directive_t}
use Rattle.yaml_parse_model.specs.Events.{TagDirective, directive_of}
use Rattle.yaml_emit_layout.specs.Tags.{has_shorter_prefix, directive_for, defines, primary, secondary, unless_defined, stands_for, defaults, split_by}

-- what `&s[n..]` is
pub rest_of_slice : (n : ℕ) (xs : List ℕ) → take (length xs - n) (drop n xs) ≡ drop n xs
rest_of_slice n xs = take_all (length xs - n) (drop n xs) (omega (arith, length-drop n xs))

pub next_of : (ds : List yaml_tag_directive_t) (i : ℕ) (d : yaml_tag_directive_t) → i < length ds
    → d ≡ get_or ds i d
    → map directive_of (drop i ds) ≡ directive_of d ∷ map directive_of (drop (i + 1) ds)
next_of ds i d h is = ap (map directive_of) (drop_more ds i d h ∙ ap (λ z. z ∷ drop (i + 1) ds) (sym is))

pub none_of : (ds : List yaml_tag_directive_t) (i : ℕ) → length ds ≤ i
    → map directive_of (drop i ds) ≡ []
none_of ds i h = ap (map directive_of) (drop_all _ _ h)

-- One directive more: it defines the handle, or those after it do.
pub defines_next : (v b : Bool) (ds : List yaml_tag_directive_t) (i : ℕ) (d : yaml_tag_directive_t)
    (handle : List ℕ) → i < length ds → d ≡ get_or ds i d
    → b ≡ defines (map directive_of (drop i ds)) handle → bytes_eq d.handle.items handle ≡ v
    → b ≡ (v || defines (map directive_of (drop (i + 1) ds)) handle)
unfolding defines
defines_next v b ds i d handle h is e f =
    e ∙ ap (λ t. defines t handle) (next_of ds i d h is) ∙ ap (λ v. v || defines (map directive_of (drop (i + 1) ds)) handle) f

pub defines_none : (b : Bool) (ds : List yaml_tag_directive_t) (i : ℕ) (handle : List ℕ)
    → length ds ≤ i → b ≡ defines (map directive_of (drop i ds)) handle → false ≡ b
unfolding defines
defines_none b ds i handle h e = sym (e ∙ ap (λ t. defines t handle) (none_of ds i h))

-- whether the tag begins with the first one's prefix decides
pub chosen : (d : TagDirective) (ds : List TagDirective) (tag : List ℕ) (b : Bool)
    → has_shorter_prefix d.prefix tag ≡ b
    → directive_for (d ∷ ds) tag ≡ cond b (Some d) (directive_for ds tag)
unfolding directive_for
chosen d ds tag b e = ap (λ v. cond v (Some d) (directive_for ds tag)) e

-- the first of two lists
abbrev pub o_else : Option TagDirective → Option TagDirective → Option TagDirective
o_else None q = q
o_else (Some d) q = Some d

choice : (b : Bool) (d : TagDirective) (o q : Option TagDirective)
    → cond b (Some d) (o_else o q) ≡ o_else (cond b (Some d) o) q
choice true d o q = refl
choice false d o q = refl

both_for : (ds es : List TagDirective) (tag : List ℕ)
    → directive_for (ds ++ es) tag ≡ o_else (directive_for ds tag) (directive_for es tag)
unfolding directive_for
both_for [] es tag = refl
both_for (d ∷ ds) es tag =
    chosen d (ds ++ es) tag _ refl
    ∙ ap (λ o. cond (has_shorter_prefix d.prefix tag) (Some d) o) (both_for ds es tag)
    ∙ choice (has_shorter_prefix d.prefix tag) d (directive_for ds tag) (directive_for es tag)

-- where the first of two lists says nothing, the second does
pub split_behind : (ds es : List TagDirective) (tag : List ℕ) (o : Option TagDirective)
    → directive_for ds tag ≡ o
    → split_by (o_else o (directive_for es tag)) tag ≡ split_by (directive_for (ds ++ es) tag) tag
split_behind ds es tag o e = sym (ap (λ o. split_by o tag) (both_for ds es tag ∙ ap (λ o. o_else o (directive_for es tag)) e))

by_flags : (d : TagDirective) (es : List TagDirective) (tag : List ℕ) (b h : Bool)
    → has_shorter_prefix d.prefix tag ≡ h
    → directive_for ((if b then [] else d ∷ []) ++ es) tag
    ≡ cond (h && not b) (Some d) (directive_for es tag)
by_flags d es tag true true e = refl
by_flags d es tag true false e = refl
by_flags d es tag false true e = chosen d es tag true e
by_flags d es tag false false e = chosen d es tag false e

defaults_law : (ds : List TagDirective) (tag : List ℕ)
    → directive_for (defaults ds) tag
    ≡ cond (stands_for ds primary tag) (Some primary)
    (cond (stands_for ds secondary tag) (Some secondary) None)
unfolding directive_for
defaults_law ds tag =
    by_flags primary (unless_defined ds secondary) tag (defines ds primary.handle) _ refl
    ∙ ap (λ o. cond (stands_for ds primary tag) (Some primary) o) (ap (λ t. directive_for t tag) (sym (append-nil (unless_defined ds secondary))) ∙ by_flags secondary [] tag (defines ds secondary.handle) _ refl)

-- A tag that begins with no directive's prefix is written by the primary handle, the secondary one,
-- or in full.
pub by_defaults : (ds : List TagDirective) (tag : List ℕ) (p s : Bool)
    → stands_for ds primary tag ≡ p → stands_for ds secondary tag ≡ s
    → split_by (cond p (Some primary) (cond s (Some secondary) None)) tag
    ≡ split_by (directive_for (defaults ds) tag) tag
by_defaults ds tag p s e f =
    sym (ap (λ o. split_by o tag) (defaults_law ds tag ∙ ap (λ v. cond v (Some primary) (cond (stands_for ds secondary tag) (Some secondary) None)) e ∙ ap (λ v. cond p (Some primary) (cond v (Some secondary) None)) f))
