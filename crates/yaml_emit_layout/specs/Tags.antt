-- The spelling of tags.
use Rattle.std.specs.Prelude.{ℕ, ◌+◌, Bool, true, false, not, ◌&&◌, ◌||◌, ◌==◌, nat_lt, nat_le, if◌then◌else◌, List, [], ◌∷◌, ◌++◌, length, take, drop, Option, Some, None}
use Rattle.std.specs.Str.{bytes_eq}
use Rattle.yaml_scan_types.specs.Ascii as ascii
use Rattle.yaml_parse_model.specs.Events.{TagDirective}
use Rattle.yaml_parse_model.specs.Nodes.{secondary_prefix}
use Rattle.yaml_emit_layout.specs.declared.split.SplitTag.{SplitTag}
use Rattle.yaml_emit_layout.specs.declared.split.SplitTag.TheVariants as tagging
use Rattle.yaml_emit_layout.specs.Hex.{hex_2}

-- whether a text begins with another one, which is shorter
abbrev pub has_shorter_prefix : List ℕ → List ℕ → Bool
has_shorter_prefix prefix tag = nat_lt (length prefix) (length tag)
    && bytes_eq (take (length prefix) tag) prefix

-- the first directive whose prefix is a strictly shorter prefix of the tag
unfoldable pub directive_for : List TagDirective → List ℕ → Option TagDirective
directive_for [] tag = None
directive_for (d ∷ ds) tag = if has_shorter_prefix d.prefix tag then Some d
    else directive_for ds tag

unfoldable pub defines : List TagDirective → List ℕ → Bool
defines [] handle = false
defines (d ∷ ds) handle = bytes_eq d.handle handle || defines ds handle

-- `!` stands for `!`
abbrev pub primary : TagDirective
primary = record { handle = ascii.exclamation ∷ []; prefix = ascii.exclamation ∷ [] }

-- `!!` stands for `tag:yaml.org,2002:`
abbrev pub secondary : TagDirective
secondary = record {
  handle = ascii.exclamation ∷ ascii.exclamation ∷ [];
  prefix = secondary_prefix;
}

-- a handle that no directive defines is the start of a tag
abbrev pub stands_for : List TagDirective → TagDirective → List ℕ → Bool
stands_for ds d tag = has_shorter_prefix d.prefix tag && not (defines ds d.handle)

-- a handle that has a meaning without a directive, unless one defines it
abbrev pub unless_defined : List TagDirective → TagDirective → List TagDirective
unless_defined ds d = if defines ds d.handle then [] else d ∷ []

-- the two handles that need no directive
abbrev pub defaults : List TagDirective → List TagDirective
defaults ds = unless_defined ds primary ++ unless_defined ds secondary

-- a document's directives in order, and then the two handles that need none
abbrev pub in_force : List TagDirective → List TagDirective
in_force ds = ds ++ defaults ds

-- 0-9 A-Z a-z _ - ; / ? : @ & = + $ . ~ * ' ( )
unfoldable pub suffix_keeps : ℕ → Bool
suffix_keeps b =
    (nat_le ascii.digit_zero b && nat_le b ascii.digit_nine)
    || (nat_le ascii.capital_a b && nat_le b ascii.capital_z)
    || (nat_le ascii.small_a b && nat_le b ascii.small_z)
    || b == ascii.underscore || b == ascii.hyphen || b == ascii.semicolon || b == ascii.slash
    || b == ascii.question || b == ascii.colon || b == ascii.at || b == ascii.ampersand
    || b == ascii.equals
    || b == ascii.plus || b == ascii.dollar || b == ascii.dot || b == ascii.tilde
    || b == ascii.asterisk || b == ascii.apostrophe || b == ascii.open_paren
    || b == ascii.close_paren

-- those, and , [ ]
abbrev pub prefix_keeps : ℕ → Bool
prefix_keeps b =
    suffix_keeps b || b == ascii.comma || b == ascii.open_bracket || b == ascii.close_bracket

abbrev pub keeps_byte : Bool → ℕ → Bool
keeps_byte flow b = if flow then prefix_keeps b else suffix_keeps b

-- a byte as it is, or `%` and its number in capitals
abbrev pub uri_byte : Bool → ℕ → List ℕ
uri_byte flow b = if keeps_byte flow b then b ∷ [] else ascii.percent ∷ hex_2 b

-- flow: , [ ] may be there
unfoldable pub uri_text : Bool → List ℕ → List ℕ
uri_text flow [] = []
uri_text flow (b ∷ bs) = uri_byte flow b ++ uri_text flow bs

-- a handle and what follows it, or the whole tag
pub data Split : Type 0 where
  shorthand : List ℕ → List ℕ → Split
  verbatim : List ℕ → Split

abbrev pub split_of : SplitTag → Split
split_of (tagging.Primary suffix) = shorthand (ascii.exclamation ∷ []) suffix.now
split_of (tagging.Secondary suffix) = shorthand (ascii.exclamation ∷ ascii.exclamation ∷ [])
    suffix.now
split_of (tagging.Shorthand handle suffix) = shorthand handle.now suffix.now
split_of (tagging.Verbatim tag) = verbatim tag.now

abbrev pub split_by : Option TagDirective → List ℕ → Split
split_by None tag = verbatim tag
split_by (Some d) tag = shorthand d.handle (drop (length d.prefix) tag)

abbrev pub split_tag : List TagDirective → List ℕ → Split
split_tag ds tag = split_by (directive_for (in_force ds) tag) tag

unfoldable pub spelled : Split → List ℕ
spelled (shorthand handle suffix) = handle ++ uri_text false suffix
spelled (verbatim tag) = ascii.exclamation ∷ ascii.less ∷ (uri_text true tag ++ ascii.greater ∷ [])

-- a tag under a document's directives
abbrev pub tag_spelling : List TagDirective → List ℕ → List ℕ
tag_spelling ds tag = spelled (split_tag ds tag)

-- the bytes of handle and suffix before they are escaped, or of the whole tag
abbrev pub split_size : Split → ℕ
split_size (shorthand handle suffix) = length handle + length suffix
split_size (verbatim tag) = length tag

abbrev pub tag_size : List TagDirective → List ℕ → ℕ
tag_size ds tag = split_size (split_tag ds tag)
