-- Which texts of a token are UTF-8 as the text is.
use Rattle.std.specs.Prelude.{IsUtf8}
use Rattle.yaml_scan_history.specs.scan_types.Tokens as token
use Rattle.yaml_scan_history.specs.scan_types.Tokens.{TokenBody}

-- Each text is UTF-8, but a tag's suffix and a directive's prefix: their escapes spell bytes.
abbrev pub HasTexts : TokenBody → Type 0
HasTexts (token.tag_directive handle prefix) = IsUtf8 handle
HasTexts (token.alias value) = IsUtf8 value
HasTexts (token.anchor value) = IsUtf8 value
HasTexts (token.tag handle suffix) = IsUtf8 handle
HasTexts (token.scalar value style) = IsUtf8 value
HasTexts _ = Unit {0}
