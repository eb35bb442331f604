-- A scalar, as the layouts' definitions say it.
use Rattle.std.specs.Prelude.{◌≡◌, ℕ, ◌==◌, ◌&&◌, ◌||◌, not, Bool, List, length, if◌then◌else◌}
use Rattle.std.specs.Str.{chars}
use Rattle.yaml_emit_layout.specs.declared.Settings.{Settings}
use Rattle.yaml_emit_layout.specs.declared.Page.{Page}
use Rattle.yaml_emit_layout.specs.declared.Style.{Style}
use Rattle.yaml_emit_layout.specs.declared.Style.TheVariants as style
use Rattle.yaml_emit_layout.specs.Style.{allowed, taken}
use Rattle.yaml_emit_layout.specs.Content as said
use Rattle.yaml_emit_layout.specs.Grammar.{scalar_tag}
use Rattle.yaml_emit_layout.specs.Nodes.{is_plain}
use Rattle.yaml_parse_model.specs.Events.{TagDirective}
use Rattle.yaml_emit_core.specs.declared.content.Scalar.{Scalar}
use Rattle.yaml_emit_core.specs.Names.{AreOf, has_tag}

pub record Says (s : Settings) (directives : List TagDirective) (o : Scalar)
    (q : said.Scalar) : Type 0 where
  pub names : AreOf directives o.properties q.anchor (scalar_tag s.canonical q)
  pub text : o.value.now ≡ q.value
  pub untagged : o.plain ≡ q.plain
  pub unquoted : o.quoted ≡ q.quoted
  pub wanted : o.style ≡ q.style

abbrev pub style_by : Settings → Scalar → Bool → Bool → Style
style_by s o flow simple = if s.canonical then style.Double
    else taken (allowed s.unicode (chars o.value.now)) o.style (has_tag o.properties
    || o.plain) flow simple (length o.value.now == 0)

abbrev pub is_marked : Scalar → Style → Bool
is_marked o chosen = not (has_tag o.properties) && (not o.quoted && not (is_plain chosen))

abbrev pub page_by : Settings → ℕ → Bool → Page
page_by s n simple = record {
  width = s.width;
  indentation = n;
  unicode = s.unicode;
  cuts = not simple;
  line_break = s.line_break;
}
