-- The documents don't start with nothing: what would be nothing there is quoted.
use Rattle.std.proofs.Common.{◌≡◌, ℕ, ◌==◌, Bool, true, false, not, ◌&&◌, ◌||◌, if◌then◌else◌, List, [], ◌∷◌, length, Option, Some, None, refl, ap, ◌∙◌}
use Rattle.std.specs.Str.{chars}
use Rattle.std.proofs.Math.Bool.{and-false}
use Rattle.yaml_emit_laws.specs.emit_layout.declared.Settings.{Settings}
use Rattle.yaml_emit_laws.specs.emit_layout.declared.Allowed.{Allowed}
use Rattle.yaml_emit_laws.specs.emit_layout.declared.Style.{Style}
use Rattle.yaml_emit_laws.specs.emit_layout.declared.Style.TheVariants as style
use Rattle.yaml_emit_laws.specs.emit_layout.Style.{allowed, taken, single_or}
use Rattle.yaml_emit_laws.specs.emit_layout.declared.level.Part.TheVariants as part
use Rattle.yaml_emit_laws.specs.emit_layout.Content as emit
use Rattle.yaml_emit_laws.specs.emit_layout.Grammar.{has, scalar_tag}
use Rattle.yaml_emit_laws.specs.emit_layout.Nodes.{Context, is_plain, style_of, has_version, has_directives}
use Rattle.yaml_parse_model.specs.scan_model.declared.name.yaml_scalar_style_t.{yaml_scalar_style_t}
use Rattle.yaml_parse_model.specs.scan_model.declared.name.yaml_scalar_style_t.TheVariants.{YAML_SINGLE_QUOTED_SCALAR_STYLE}
use Rattle.yaml_round_content.specs.Said.{ScalarMark, untagged, tagged, Node, alias, scalar, sequence, mapping, Document}
use Rattle.yaml_emit_laws.specs.NodeBodies as bodies
use Rattle.yaml_emit_laws.specs.NodeBodies.{style_at, is_bare, is_empty, is_left_out, context_in, starts_with_nothing}
use Rattle.yaml_round_content.proofs.Contents.{style_not_plain}
use Rattle.yaml_round_content.specs.Readable.{readable_scalar, readable_node, is_unmarked, documents_from, readable_documents}

single_not_plain : (a : Allowed) → is_plain (single_or a) ≡ false
single_not_plain a = by a.single
  where
    by : (b : Bool) → is_plain (if b then style.Single else style.Double) ≡ false
    by true = refl
    by false = refl

taken_single : (a : Allowed) (fits flow simple empty : Bool)
    → is_plain (taken a YAML_SINGLE_QUOTED_SCALAR_STYLE fits flow simple empty) ≡ false
unfolding taken
taken_single a fits flow simple empty = single_not_plain a

-- a scalar that is asked for in single quotes isn't plain
asked_single : (p : Context) (x : emit.Scalar) → p.settings.canonical ≡ false
    → x.style ≡ YAML_SINGLE_QUOTED_SCALAR_STYLE → is_plain (style_at p false part.Item x) ≡ false
unfolding style_of
asked_single p x pretty same =
    let a = allowed p.settings.unicode (chars x.value) in
    let of : Bool → yaml_scalar_style_t → Style = λ c k. if c then style.Double else taken a k (has (scalar_tag false x) || x.plain) false false (length x.value == 0) in
    ap (λ (c : Bool). is_plain (of c x.style)) pretty ∙ ap (λ (k : yaml_scalar_style_t). is_plain (of false k)) same ∙ taken_single a (has (scalar_tag false x) || x.plain) false false (length x.value == 0)

nothing_left : (plain empty bare : Bool) → plain ≡ false
    → ((true && (plain && empty)) && bare) ≡ false
nothing_left plain empty bare e = rw e refl

-- by whether it is the first and unmarked: a root is something
scalar_left : (p : Context) → p.settings.canonical ≡ false
    → (anchor : Option (List ℕ)) (mark : ScalarMark) (value : List ℕ)
    → is_left_out p false part.Item (emit.scalar_node (readable_scalar true anchor mark value))
    ≡ false
scalar_left p pretty anchor (untagged false) value =
    let x = readable_scalar true anchor (untagged false) value in
    nothing_left (is_plain (style_at p false part.Item x)) (is_empty value) (is_bare anchor None) (style_not_plain p false part.Item x refl)
scalar_left p pretty anchor (tagged t) value = bare (bodies.is_nothing false (style_at p false part.Item (readable_scalar true anchor (tagged t) value)) value) (has anchor)
  where
    bare : (a b : Bool) → (a && (not b && false)) ≡ false
    bare true true = refl
    bare true false = refl
    bare false b = refl
scalar_left p pretty anchor (untagged true) (b ∷ bs) = filled (is_plain (style_at p false part.Item (readable_scalar true anchor (untagged true) (b ∷ bs)))) (is_bare anchor None)
  where
    filled : (a c : Bool) → ((true && (a && false)) && c) ≡ false
    filled true c = refl
    filled false c = refl
scalar_left p pretty None (untagged true) [] =
    let x = readable_scalar true None (untagged true) [] in
    nothing_left (is_plain (style_at p false part.Item x)) true true (asked_single p x pretty refl)
scalar_left p pretty (Some name) (untagged true) [] = and-false (bodies.is_nothing false (style_at p false part.Item (readable_scalar true (Some name) (untagged true) [])) [])

root_left : (p : Context) → p.settings.canonical ≡ false → (n : Node)
    → is_left_out p false part.Item (readable_node true n) ≡ false
root_left p pretty (alias name) = refl
root_left p pretty (scalar anchor mark value) = scalar_left p pretty anchor mark value
root_left p pretty (sequence anchor tag items) = refl
root_left p pretty (mapping anchor tag pairs) = refl

pub starts_with_something : (s : Settings) → s.canonical ≡ false → (c : List Document)
    → starts_with_nothing s (readable_documents c) ≡ false
starts_with_something s pretty [] = refl
starts_with_something s pretty (d ∷ ds) =
    let e = documents_from true (d ∷ []) in
    let p : Context = context_in s (first_of d) in
    let out : Bool → Bool = λ b. is_left_out p false part.Item (readable_node b d.root) in
    let v = has_version d.version in
    let w = has_directives d.directives in
    by_mark (not v && not w) (λ b. not b) out (root_left p pretty d.root) s.canonical v w pretty
  where
    first_of : Document → emit.Document
    first_of d = record { opening = record { version = d.version; directives = d.directives; implicit = is_unmarked true d }; root = readable_node (is_unmarked true d) d.root; implicit_end = true }

    by_mark : (u : Bool) (m : Bool → Bool) (out : Bool → Bool) → out true ≡ false → (k v w : Bool)
        → k ≡ false
        → (not (k || not (true && ((not v && not w) && not (v || w)))) && out (not v && not w))
        ≡ false
    by_mark u m out h true v w e = absurd (cc)
    by_mark u m out h false true w e = refl
    by_mark u m out h false false true e = refl
    by_mark u m out h false false false e = h
