-- Which styles a value allows, and which one is taken.
use Rattle.std.specs.Prelude.{ℕ, Bool, true, false, not, ◌&&◌, ◌||◌, ◌==◌, nat_le, if◌then◌else◌, List, [], ◌∷◌}
use Rattle.yaml_scan_types.specs.Ascii as ascii
use Rattle.yaml_scan_types.specs.declared.name.yaml_scalar_style_t.{yaml_scalar_style_t}
use Rattle.yaml_scan_types.specs.declared.name.yaml_scalar_style_t.TheVariants as asked
use Rattle.yaml_emit_layout.specs.declared.page.Allowed.{Allowed}
use Rattle.yaml_emit_layout.specs.declared.page.Seen.{Seen}
use Rattle.yaml_emit_layout.specs.declared.page.Style.{Style}
use Rattle.yaml_emit_layout.specs.declared.page.Style.TheVariants as style
use Rattle.yaml_emit_layout.specs.Text.{is_break}
use Rattle.yaml_emit_layout.specs.Quoted.{is_printable, first}

abbrev pub is_blank : ℕ → Bool
is_blank c = c == ascii.space || c == ascii.tab

-- blanks, breaks, and the end
abbrev pub ends_word : ℕ → Bool
ends_word c = is_blank c || is_break c || c == 0

-- somewhere in a text this holds of a character, the one before it and the one after it
unfoldable pub somewhere : (ℕ → ℕ → ℕ → Bool) → ℕ → List ℕ → Bool
somewhere p before [] = false
somewhere p before (c ∷ cs) = p before c (first cs) || somewhere p c cs

-- in double quotes alone: what is not printable, or not ASCII with unicode off, and a space before a break
abbrev pub is_special : Bool → ℕ → ℕ → ℕ → Bool
is_special unicode before c next = not (is_printable c) || (not unicode && nat_le 0x80 c)
    || (c == ascii.space && is_break next)

-- a break with a space after it
abbrev pub is_break_space : ℕ → ℕ → ℕ → Bool
is_break_space before c next = is_break c && next == ascii.space

-- not in a plain scalar: a break, `:` at the end of a word, `#` at the start of one
abbrev pub is_not_plain : ℕ → ℕ → ℕ → Bool
is_not_plain before c next = is_break c || (c == ascii.colon && ends_word next)
    || (c == ascii.hash && ends_word before)

-- not in a plain scalar in flow: , ? : [ ] { }
abbrev pub is_not_flow : ℕ → ℕ → ℕ → Bool
is_not_flow before c next = c == ascii.comma || c == ascii.question || c == ascii.colon
    || c == ascii.open_bracket || c == ascii.close_bracket || c == ascii.open_brace
    || c == ascii.close_brace

-- the last character, or else another
unfoldable pub last_or : ℕ → List ℕ → ℕ
last_or a [] = a
last_or a (c ∷ cs) = last_or c cs

-- of a text that is not empty
abbrev pub ends_in_space : List ℕ → Bool
ends_in_space value = last_or ascii.space value == ascii.space

-- # , [ ] { } & * ! | > ' " % @ `, or a space
abbrev pub is_indicator : ℕ → Bool
is_indicator c =
    c == ascii.space || c == ascii.hash || c == ascii.comma || c == ascii.open_bracket
    || c == ascii.close_bracket || c == ascii.open_brace || c == ascii.close_brace
    || c == ascii.ampersand
    || c == ascii.asterisk || c == ascii.exclamation || c == ascii.bar || c == ascii.greater
    || c == ascii.apostrophe || c == ascii.quote || c == ascii.percent || c == ascii.at
    || c == ascii.grave

-- not at the start of a plain scalar: by the first three characters, 0 after the end
abbrev pub is_badly_begun : ℕ → ℕ → ℕ → Bool
is_badly_begun a b c = is_indicator a || ((a == ascii.hyphen || a == ascii.question) && ends_word b)
    || (a == ascii.hyphen && b == ascii.hyphen && c == ascii.hyphen)
    || (a == ascii.dot && b == ascii.dot && c == ascii.dot)

abbrev pub behind : List ℕ → List ℕ
behind [] = []
behind (c ∷ cs) = cs

abbrev pub starts_badly : List ℕ → Bool
starts_badly value = is_badly_begun (first value) (first (behind value))
    (first (behind (behind value)))

-- what a character adds to what was seen, by the one before it and the one after it
abbrev pub seen : Bool → ℕ → ℕ → ℕ → Seen
seen unicode before c next = record {
  special = is_special unicode before c next;
  broken = is_break_space before c next;
  not_plain = is_not_plain before c next;
  not_flow = is_not_flow before c next;
}

-- what is seen in a text
abbrev pub looked : Bool → ℕ → List ℕ → Seen
looked unicode before value = record {
  special = somewhere (is_special unicode) before value;
  broken = somewhere is_break_space before value;
  not_plain = somewhere is_not_plain before value;
  not_flow = somewhere is_not_flow before value;
}

abbrev pub joined : Seen → Seen → Seen
joined a b = record {
  special = a.special || b.special;
  broken = a.broken
      || b.broken;
  not_plain = a.not_plain || b.not_plain;
  not_flow = a.not_flow || b.not_flow;
}

-- The start of a value counts as a space for `#`, the end as 0 for `:`.
abbrev pub allowed_text : Bool → List ℕ → Allowed
allowed_text unicode value =
    let special = somewhere (is_special unicode) ascii.space value in
    let broken = somewhere is_break_space ascii.space value in
    let plain = not (special || broken || ends_in_space value || starts_badly value
    || somewhere is_not_plain ascii.space value) in
    record {
      plain = plain;
      flow_plain = plain && not (somewhere is_not_flow ascii.space value);
      single = not (special || broken);
      block = not (special || ends_in_space value);
    }

unfoldable pub allowed : Bool → List ℕ → Allowed
allowed unicode [] = record { plain = true; flow_plain = false; single = true; block = false }
allowed unicode (c ∷ cs) = allowed_text unicode (c ∷ cs)

-- by whether the scalar may be untagged in plain style or its tag is written, in flow, a simple key, empty
abbrev pub plain_fits : Allowed → Bool → Bool → Bool → Bool → Bool
plain_fits a untagged flow simple empty = (if flow then a.flow_plain else a.plain)
    && (not (empty && simple) && untagged)

abbrev pub single_or : Allowed → Style
single_or a = if a.single then style.Single else style.Double

-- a block scalar is neither in flow nor a simple key
abbrev pub block_or : Allowed → Bool → Bool → Style → Style
block_or a flow simple s = if a.block && not (flow || simple) then s else style.Double

abbrev pub plain_or : Allowed → Bool → Bool → Bool → Bool → Style
plain_or a untagged flow simple empty = if plain_fits a untagged flow simple empty then style.Plain
    else single_or a

-- The style that was asked for, where it is allowed.
unfoldable pub taken : Allowed → yaml_scalar_style_t → Bool → Bool → Bool → Bool → Style
taken a asked.YAML_ANY_SCALAR_STYLE untagged flow simple empty = plain_or a untagged flow simple
    empty
taken a asked.YAML_PLAIN_SCALAR_STYLE untagged flow simple empty = plain_or a untagged flow simple
    empty
taken a asked.YAML_SINGLE_QUOTED_SCALAR_STYLE untagged flow simple empty = single_or a
taken a asked.YAML_DOUBLE_QUOTED_SCALAR_STYLE untagged flow simple empty = style.Double
taken a asked.YAML_LITERAL_SCALAR_STYLE untagged flow simple empty = block_or a flow simple
    style.Literal
taken a asked.YAML_FOLDED_SCALAR_STYLE untagged flow simple empty = block_or a flow simple
    style.Folded
