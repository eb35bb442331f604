-- Tokens that are to come, the first of them and the others.
use Rattle.std.specs.Prelude.{◌≡◌, Bool, true, List, [], ◌∷◌, Option, None, IsUtf8}
use Rattle.std.specs.Str.{is_utf8}
use Rattle.yaml_scan_types.specs.Tokens.{Token, TokenBody, no_token}
use Rattle.yaml_scan_types.specs.Tokens as token
use Rattle.yaml_scan_types.specs.Faults.{Fault}

-- the first token to come, and the others; after the last the empty token
abbrev pub front_of : List Token → Token
front_of [] = no_token
front_of (t ∷ ts) = t

abbrev pub rest_of : List Token → List Token
rest_of [] = []
rest_of (t ∷ ts) = ts

-- after the last token only a fault may come, if there is one
abbrev pub MayAnswer : List Token → Option Fault → Type 0
MayAnswer [] fault = fault ≡ None
MayAnswer (t ∷ ts) fault = Unit {0}

-- each text is UTF-8
abbrev pub HasUtf8 : TokenBody → Type 0
HasUtf8 (token.tag_directive handle prefix) = IsUtf8 handle × IsUtf8 prefix
HasUtf8 (token.alias value) = IsUtf8 value
HasUtf8 (token.anchor value) = IsUtf8 value
HasUtf8 (token.tag handle suffix) = IsUtf8 handle × IsUtf8 suffix
HasUtf8 (token.scalar value style) = IsUtf8 value
HasUtf8 _ = Unit {0}

-- What escapes spell byte by byte is UTF-8: a tag's suffix, and a directive's prefix.
abbrev pub spells_text : TokenBody → Bool
spells_text (token.tag_directive handle prefix) = is_utf8 prefix
spells_text (token.tag handle suffix) = is_utf8 suffix
spells_text _ = true
