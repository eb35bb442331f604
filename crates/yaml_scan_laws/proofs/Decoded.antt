-- Decoded texts are UTF-8, and hold no byte 0.
use Rattle.std.proofs.Common.{◌≡◌, ℕ, ◌<◌, true, List, [], ◌∷◌, length, refl, sym, arith, IsUtf8, All, encode_utf8, encode_utf8_all}
use Rattle.std.proofs.lemmas.List.Elements.{All-append, All-cons, All-nil}
use Rattle.yaml_scan_laws.proofs.TextWords.{IsScalar, AllPass, All-head, All-tail, byte, nat_tests}
use Rattle.std.specs.Str.{all_scalars}
use lib.Utf8.{encode}
use Rattle.yaml_scan_history.specs.scan_model.declared.name.yaml_encoding_t.{yaml_encoding_t}
use Rattle.yaml_scan_history.specs.scan_decode.Characters.{is_allowed}
use Rattle.yaml_scan_history.specs.scan_decode.Spelling.{Spells}
use Rattle.yaml_scan_history.proofs.SpellingLemmas.{allowed_scalar}

are_scalars : (cs : List ℕ) → AllPass is_allowed cs → all_scalars cs ≡ true
are_scalars [] h = refl
are_scalars (c ∷ cs) h =
    let own : IsScalar c = allowed_scalar c (All-head (λ x. is_allowed x ≡ true) c cs h) in
    rw (own, are_scalars cs (All-tail (λ x. is_allowed x ≡ true) c cs h)) refl

-- A text that bytes spell is UTF-8.
pub spelled_utf8 : (setting : yaml_encoding_t) (bytes text : List ℕ) → Spells setting bytes text
    → IsUtf8 text
spelled_utf8 setting bytes text s = (s.characters, (are_scalars s.characters s.allowed, sym s.is))

-- no byte of a character that a stream may hold is 0
abbrev HasNone : List ℕ → Type 0
HasNone = All (λ b. 0 < b)

one : (a : ℕ) (xs : List ℕ) → 0 < a → HasNone xs → HasNone (a ∷ xs)
one a xs = All-cons (λ b. 0 < b) a xs

none : HasNone []
none = All-nil (λ b. 0 < b)

has_none : (c : ℕ) → is_allowed c ≡ true → HasNone (encode_utf8 c)
unfolding is_allowed encode
has_none c h = grind (arith, nat_tests, one, none)

all_have_none : (cs : List ℕ) → AllPass is_allowed cs → HasNone (encode_utf8_all cs)
all_have_none [] h = none
all_have_none (c ∷ cs) h =
    All-append (λ b. 0 < b) (encode_utf8 c) (encode_utf8_all cs)
    (has_none c (All-head (λ x. is_allowed x ≡ true) c cs h))
    (all_have_none cs (All-tail (λ x. is_allowed x ≡ true) c cs h))

-- A text that bytes spell has no byte 0.
pub spelled_has_none : (setting : yaml_encoding_t) (bytes text : List ℕ) → Spells setting bytes text
    → (p : ℕ) → p < length text → 0 < byte text p
spelled_has_none setting bytes text s p inside = grind (arith, nat_tests, all_have_none)
