-- What a token carries, and what a parser finds of the one that it took last.
use Rattle.std.specs.Prelude.{◌≡◌, ℕ, ℤ, pos, List, []}
use Rattle.yaml_scan_types.specs.declared.name.yaml_scalar_style_t.{yaml_scalar_style_t}
use Rattle.yaml_scan_types.specs.declared.name.yaml_scalar_style_t.TheVariants.{YAML_ANY_SCALAR_STYLE}
use Rattle.yaml_scan_types.specs.declared.name.yaml_encoding_t.{yaml_encoding_t}
use Rattle.yaml_scan_types.specs.declared.name.yaml_encoding_t.TheVariants.{YAML_ANY_ENCODING}
use Rattle.yaml_scan_types.specs.Tokens.{TokenBody}
use Rattle.yaml_scan_types.specs.Tokens as token

abbrev pub value_in : TokenBody → List ℕ
value_in (token.scalar x st) = x
value_in b = []

abbrev pub style_in : TokenBody → yaml_scalar_style_t
style_in (token.scalar x st) = st
style_in b = YAML_ANY_SCALAR_STYLE

-- of an anchor or alias
abbrev pub name_in : TokenBody → List ℕ
name_in (token.alias x) = x
name_in (token.anchor x) = x
name_in b = []

abbrev pub encoding_in : TokenBody → yaml_encoding_t
encoding_in (token.stream_start e) = e
encoding_in b = YAML_ANY_ENCODING

abbrev pub major_in : TokenBody → ℤ
major_in (token.version_directive major minor) = major
major_in b = pos 0

abbrev pub minor_in : TokenBody → ℤ
minor_in (token.version_directive major minor) = minor
minor_in b = pos 0

-- of a tag or directive
abbrev pub handle_in : TokenBody → List ℕ
handle_in (token.tag x y) = x
handle_in (token.tag_directive x y) = x
handle_in b = []

-- a tag's suffix, or a directive's prefix
abbrev pub suffix_in : TokenBody → List ℕ
suffix_in (token.tag x y) = y
suffix_in (token.tag_directive x y) = y
suffix_in b = []

-- what is found of a token that was taken
pub record Texts : Type 0 where
  -- a scalar's value, or the name of an anchor or alias
  pub value : List ℕ
  pub handle : List ℕ
  pub suffix : List ℕ
  pub major : ℤ
  pub minor : ℤ
  pub encoding : yaml_encoding_t

abbrev pub texts_by : List ℕ → List ℕ → List ℕ → yaml_encoding_t → Texts
texts_by value handle suffix e = record {
  value = value;
  handle = handle;
  suffix = suffix;
  major = pos 0;
  minor = pos 0;
  encoding = e;
}

-- each text that the token has
abbrev pub AreTextsOf : TokenBody → Texts → Type 0
AreTextsOf (token.scalar x st) u = u.value ≡ x
AreTextsOf (token.alias x) u = u.value ≡ x
AreTextsOf (token.anchor x) u = u.value ≡ x
AreTextsOf (token.tag x y) u = (u.handle ≡ x) × (u.suffix ≡ y)
AreTextsOf (token.tag_directive x y) u = (u.handle ≡ x) × (u.suffix ≡ y)
AreTextsOf (token.version_directive x y) u = (u.major ≡ x) × (u.minor ≡ y)
AreTextsOf (token.stream_start e) u = u.encoding ≡ e
AreTextsOf b u = Unit {0}

-- what is found of a body
abbrev pub texts_in : TokenBody → Texts
texts_in (token.stream_start e) = texts_by [] [] [] e
texts_in (token.alias x) = texts_by x [] [] YAML_ANY_ENCODING
texts_in (token.anchor x) = texts_by x [] [] YAML_ANY_ENCODING
texts_in (token.scalar x st) = texts_by x [] [] YAML_ANY_ENCODING
texts_in (token.tag x y) = texts_by [] x y YAML_ANY_ENCODING
texts_in (token.tag_directive x y) = texts_by [] x y YAML_ANY_ENCODING
texts_in (token.version_directive x y) = record {
  value = [];
  handle = [];
  suffix = [];
  major = x;
  minor = y;
  encoding = YAML_ANY_ENCODING;
}
texts_in b = texts_by [] [] [] YAML_ANY_ENCODING
