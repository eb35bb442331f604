-- The styles that are taken are allowed.
use Rattle.std.specs.Prelude.{◌≡◌, true, false, ◌<◌, ◌≤◌, ℕ, ◌+◌, Option, Some, None}
use Rattle.std.specs.Str.{chars}
use Rattle.yaml_emit_layout.specs.declared.Settings.{Settings}
use Rattle.yaml_emit_layout.specs.declared.Style.TheVariants as style
use Rattle.yaml_emit_layout.specs.Style.{allowed}
use Rattle.yaml_emit_layout.specs.declared.level.NodePosition.{NodePosition}
use Rattle.yaml_emit_layout.specs.Content.{Scalar}
use Rattle.yaml_emit_layout.specs.Nodes.{Context, is_simple_part, style_of, page_at}
use Rattle.yaml_emit_laws.specs.PlainLaws.{may_be_plain}

-- a block scalar is allowed there
abbrev pub MayBeBlock : Context → NodePosition → Scalar → Type 0
MayBeBlock p at x = ((allowed p.settings.unicode (chars x.value)).block ≡ true)
    × (at.flow ≡ false) × (is_simple_part at.part ≡ false)

-- A scalar is laid out plain, single quoted or as a block only where its value allows that.
abbrev pub StylesAreAllowed : Type 0
StylesAreAllowed = (p : Context) (at : NodePosition) (x : Scalar) →
    (style_of p at x ≡ style.Plain
    → may_be_plain p.settings.unicode at.flow (chars x.value) ≡ true)
    × (style_of p at x ≡ style.Single
    → (allowed p.settings.unicode (chars x.value)).single ≡ true)
    × (style_of p at x ≡ style.Literal → MayBeBlock p at x)
    × (style_of p at x ≡ style.Folded → MayBeBlock p at x)

-- the scanner's level of a spot's surroundings: the column and one more, or 0
abbrev pub level_of : Option ℕ → ℕ
level_of None = 0
level_of (Some n) = n + 1

-- A spot's page indents new lines, and not left of a level that its surroundings give at most.
abbrev pub PagesIndent : Type 0
PagesIndent = (s : Settings) → 0 < s.indent → (at : NodePosition) (level : ℕ)
    → level ≤ level_of at.around
    → (0 < (page_at s at).indentation) × (level ≤ (page_at s at).indentation)
