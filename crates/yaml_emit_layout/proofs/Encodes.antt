-- UTF-8 output is what std says that characters encode to.
use Rattle.std.proofs.Common.{◌≡◌, ℕ, List, [], ◌∷◌, ◌++◌, refl, ◌∙◌, ap, encode_utf8, encode_utf8_all}
use lib.Utf8.{encode as encoded}
use Rattle.yaml_emit_layout.specs.declared.settings.Encoding.TheVariants.{Utf8}
use Rattle.yaml_emit_layout.specs.Text.{Item, letter, deep, utf8_bytes, char_bytes, encode, shown}

pub same_bytes : (c : ℕ) → utf8_bytes c ≡ encode_utf8 c
unfolding encoded
same_bytes c = refl

pub utf8-encodes : (t : List Item) → encode Utf8 t ≡ encode_utf8_all (shown t)
unfolding encode char_bytes shown
utf8-encodes [] = refl
utf8-encodes (letter c ∷ t) = ap (λ b. b ++ encode Utf8 t) (same_bytes c) ∙ ap (λ b. encode_utf8 c ++ b) (utf8-encodes t)
utf8-encodes (deep ∷ t) = utf8-encodes t
