-- A style that is taken is allowed.
use Rattle.std.proofs.Common.{◌≡◌, Bool, true, false, sym, subst, ℕ, ◌<◌, ◌≤◌, Option, arith, if◌then◌else◌, chars}
use Rattle.yaml_emit_laws.proofs.ScalarWords.{nat_tests, yaml_scalar_style_t, Allowed, Style, allowed, taken, single_or, block_or, plain_or, NodePosition, Scalar, Context, is_simple_part, style_of, deeper, Settings, bool_cases}
use Rattle.yaml_emit_layout.specs.declared.Style.TheVariants as style
use Rattle.yaml_emit_laws.specs.StylesLaws.{StylesAreAllowed, level_of, PagesIndent}

-- what a style has to be allowed
abbrev Fits : Allowed → Bool → Bool → Style → Type 0
Fits a flow simple style.Plain = (if flow then a.flow_plain else a.plain) ≡ true
Fits a flow simple style.Single = a.single ≡ true
Fits a flow simple style.Double = Unit {0}
Fits a flow simple style.Literal = (a.block ≡ true) × (flow ≡ false) × (simple ≡ false)
Fits a flow simple style.Folded = (a.block ≡ true) × (flow ≡ false) × (simple ≡ false)

single_fits : (a : Allowed) (flow simple : Bool) → Fits a flow simple (single_or a)
single_fits a flow simple = bool_cases a.single (λ e. subst (λ b. Fits a flow simple (if b then style.Single else style.Double)) (sym e) e) (λ e. subst (λ b. Fits a flow simple (if b then style.Single else style.Double)) (sym e) tt)

plain_is : (a : Allowed) (untagged flow simple empty : Bool)
    → Fits a flow simple (plain_or a untagged flow simple empty)
plain_is a untagged flow simple empty = grind (arith, single_fits)

block_is : (a : Allowed) (flow simple : Bool) (s : Style)
    → ((a.block ≡ true) × (flow ≡ false) × (simple ≡ false) → Fits a flow simple s)
    → Fits a flow simple (block_or a flow simple s)
block_is a flow simple s f = grind arith

taken_fits : (a : Allowed) (s : yaml_scalar_style_t) (untagged flow simple empty : Bool)
    → Fits a flow simple (taken a s untagged flow simple empty)
unfolding taken
taken_fits a s untagged flow simple empty = grind (arith, single_fits, block_is, plain_is)

style_fits : (p : Context) (at : NodePosition) (x : Scalar)
    → Fits (allowed p.settings.unicode (chars x.value)) at.flow (is_simple_part at.part)
    (style_of p at x)
unfolding style_of
style_fits p at x = grind (arith, taken_fits)

pub styles_allowed : StylesAreAllowed
styles_allowed p at x = grind (arith, style_fits)

-- ---- pages

deep_by : (s : Settings) → 0 < s.indent → (around : Option ℕ) (level : ℕ) → level ≤ level_of around
    → (0 < deeper s around) × (level ≤ deeper s around)
deep_by s some around level h = grind (arith, nat_tests)

pub pages_indent : PagesIndent
pages_indent s some at level h = deep_by s some at.around level h
