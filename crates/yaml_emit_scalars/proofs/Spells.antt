-- Characters of a text in UTF-8, one after another.
use Rattle.std.proofs.Common.{◌≡◌, ℕ, List, [], ◌∷◌, ◌++◌, length, IsUtf8, sym, ◌∙◌, ap, encode_utf8, append-nil, arith}
use Rattle.std.specs.Str.{chars}
use Rattle.std.proofs.lemmas.Str.{encodes-chars, encodes-append, chars_from_encodes, chars-nil}
use lib.Utf8.{encodes}

-- the last character is the last of the characters
pub last_of : (bs front : List ℕ) (c : ℕ) → IsUtf8 bs → IsUtf8 front → bs ≡ front ++ encode_utf8 c
    → chars bs ≡ chars front ++ c ∷ []
last_of bs front c u v e =
    sym (chars_from_encodes (chars front ++ c ∷ []) bs u
    (encodes-append (chars front) (c ∷ []) ∙ ap (λ t. t ++ encodes (c ∷ [])) (encodes-chars front v) ∙ ap (λ t. front ++ t) (append-nil (encode_utf8 c)) ∙ sym e))

pub none_of : (bs : List ℕ) → length bs ≡ 0 → chars bs ≡ []
none_of [] h = chars-nil
none_of (b ∷ bs) h = absurd (omega (arith, h))
