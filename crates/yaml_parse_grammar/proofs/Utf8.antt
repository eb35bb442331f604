-- Texts that are UTF-8 stay so: from a token and a state to items and states, and from an item to its event.
use Rattle.std.proofs.Common.{ℕ, List, [], ◌∷◌, ◌++◌, Option, Some, None, option_map, IsUtf8, codes, refl, subst, arith}
use Rattle.std.proofs.lemmas.Bool.{cond_both}
use Rattle.std.proofs.lemmas.Str.{IsUtf8-append}
use Rattle.std.specs.Str.{bytes_eq}
use Rattle.yaml_parse_grammar.proofs.Words.{yaml_mark_t, EventBody, TagDirective, RawEventBody, Shape, Directives, Settled, refused, gave, noted, settle_body, resolved, directive_for, node_event}
use Rattle.yaml_parse_model.specs.Source as source
use Rattle.yaml_parse_model.specs.Constructors.{HasUtf8, IsUtf8Option, AreUtf8}
use Rattle.yaml_parse_grammar.specs.Items as item
use Rattle.yaml_parse_grammar.specs.Resolve.{or_default, behind_event}
use Rattle.yaml_parse_grammar.proofs.Throughout.{Settles, settled_by, Outer}
use Rattle.yaml_parse_grammar.specs.Texts.{IsUtf8Tag, IsUtf8Shape, IsUtf8Item, IsUtf8State}

-- ---- the machine

-- UTF-8 holds throughout.
pub utf8_rules : Outer source.HasUtf8 IsUtf8Option IsUtf8Tag IsUtf8Item IsUtf8State
utf8_rules = grind arith

-- ---- tags and directives

abbrev pub IsUtf8Settled : Settled → Type 0
IsUtf8Settled (refused f) = Unit {0}
IsUtf8Settled (gave body ds) = HasUtf8 body × AreUtf8 ds.tags
IsUtf8Settled (noted ds) = AreUtf8 ds.tags

mark_is_utf8 : IsUtf8 (codes "!")
unfolding lib.Utf8.encode
mark_is_utf8 = (codes "!", (refl, refl))

core_is_utf8 : IsUtf8 (codes "tag:yaml.org,2002:")
unfolding lib.Utf8.encode
core_is_utf8 = (codes "tag:yaml.org,2002:", (refl, refl))

directive_utf8 : (handle : List ℕ) (ds : List TagDirective) → AreUtf8 ds
    → IsUtf8Option (directive_for handle ds)
unfolding directive_for
directive_utf8 handle [] h = tt
directive_utf8 handle (d ∷ ds) h = cond_both (bytes_eq d.handle handle) (Some d.prefix) (directive_for handle ds) IsUtf8Option (λ _. h.0.1) (λ _. directive_utf8 handle ds h.1)

prefix_utf8 : (o : Option (List ℕ)) (handle : List ℕ) → IsUtf8Option o
    → IsUtf8Option (or_default o handle)
prefix_utf8 o handle h = grind (arith, mark_is_utf8, core_is_utf8)

joined_utf8 : (o : Option (List ℕ)) (suffix : List ℕ) → IsUtf8Option o → IsUtf8 suffix
    → IsUtf8Option (option_map (λ (p : List ℕ). p ++ suffix) o)
joined_utf8 o suffix h k = grind (arith, IsUtf8-append)

resolved_utf8 : (ds : List TagDirective) (handle suffix : List ℕ) → AreUtf8 ds → IsUtf8 suffix
    → IsUtf8Option (resolved ds handle suffix)
resolved_utf8 ds handle suffix h k = grind (arith, joined_utf8, directive_for, prefix_utf8, directive_utf8)

node_event_utf8 : (anchor tag : Option (List ℕ)) (s : Shape) → IsUtf8Option anchor
    → IsUtf8Option tag → IsUtf8Shape s → HasUtf8 (node_event anchor tag s)
node_event_utf8 anchor tag s a t h = grind arith

directives_over : (xs : List TagDirective) (d : TagDirective) → AreUtf8 xs → IsUtf8 d.handle
    → IsUtf8 d.prefix → AreUtf8 (xs ++ (d ∷ []))
directives_over [] d h a b = ((a, b), tt)
directives_over (x ∷ xs) d h a b = (h.0, directives_over xs d h.1 a b)

behind_utf8 : (b : EventBody) (ds : Directives) → AreUtf8 ds.tags → AreUtf8 (behind_event b ds).tags
behind_utf8 b ds h = grind arith

-- A settled item is UTF-8 where the item and the prefixes are.
pub settled_utf8 : (b : RawEventBody) (from : yaml_mark_t) (ds : Directives) → IsUtf8Item b
    → AreUtf8 ds.tags → IsUtf8Settled (settle_body b from ds)
settled_utf8 b from ds h d = settled_by IsUtf8Settled (λ f. tt) b from ds (cases b h)
  where
    cases : (b : RawEventBody) → IsUtf8Item b → Settles IsUtf8Settled b ds
    cases (item.event body) h = (h, behind_utf8 body ds d)
    cases (item.version_directive x y) h = d
    cases (item.tag_directive x y) h = directives_over ds.tags (record { handle = x; prefix = y }) d h.0 h.1
    cases (item.document implicit) h = (d, d)
    cases (item.node a None s) h = (node_event_utf8 a None s h.0 tt h.1.1, d)
    cases (item.node a (Some tag) s) h = λ g e. (node_event_utf8 a (Some g) s h.0 (subst IsUtf8Option e (resolved_utf8 ds.tags tag.handle tag.suffix d h.1.0.1)) h.1.1, d)
