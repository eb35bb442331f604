-- What is given of the tokens that a parser takes.
use Rattle.std.proofs.lemmas.Bool.Decides.{nat_tests}
use Rattle.std.proofs.Common.{◌≡◌, ◌⊎◌, ◌↔◌, ℕ, IsTrue, Bool, true, false, true≢false, List, [], ◌∷◌, Option, Some, None, refl, sym, inl, inr, IsUtf8, All, arith}
use Rattle.std.specs.Str.{is_utf8}
use Rattle.std.proofs.lemmas.Str.{IsUtf8-from_is_utf8, is_utf8-from_IsUtf8}
use Rattle.std.proofs.lemmas.Bool.{cases_Bool}
use Rattle.std.proofs.lemmas.List.Elements.{All-nil, All-cons, All-head, All-tail}
use Rattle.yaml_parse_model.specs.scan_types.Tokens as token
use Rattle.yaml_parse_model.specs.scan_types.Tokens.{Token, TokenBody}
use Rattle.yaml_parse_model.specs.scan_types.Faults.{Fault, IsMemoryFault, scan_layers}
use Rattle.yaml_scan_laws.specs.scan_history.Remaining.{SpelledText, Remaining, remaining}
use Rattle.yaml_scan_laws.specs.Utf8Texts.{HasTexts}
use Rattle.yaml_scan_laws.proofs.TokensUtf8.{remaining_sound}
use Rattle.yaml_parse_model.specs.Source.{front_of, rest_of, MayAnswer, HasMore, HasUtf8, GivesToken, GivesFault}
use Rattle.yaml_round_content.specs.Adapted.{spells_text, tag_fault, cut, adapted}

-- what escapes spell, and all other texts
body_utf8 : (b : TokenBody) → HasTexts b → spells_text b ≡ true → HasUtf8 b
body_utf8 (token.tag_directive handle prefix) h s = (h, IsUtf8-from_is_utf8 prefix s)
body_utf8 (token.tag handle suffix) h s = (h, IsUtf8-from_is_utf8 suffix s)
body_utf8 (token.alias value) h s = h
body_utf8 (token.anchor value) h s = h
body_utf8 (token.scalar value style) h s = h
body_utf8 _ h s = tt

cut_utf8 : (fault : Option Fault) (ts : List Token) → All (λ t. HasTexts t.body) ts
    → All (λ t. HasUtf8 t.body) (cut fault ts).tokens
cut_utf8 fault [] h = All-nil (λ t. HasUtf8 t.body)
cut_utf8 fault (t ∷ ts) h =
    let own : HasTexts t.body = All-head (λ t. HasTexts t.body) t ts h in
    elim (cases_Bool (spells_text t.body)) [
      | inl e ↦ rw e (All-cons (λ t. HasUtf8 t.body) t (cut fault ts).tokens (body_utf8 t.body own e) (cut_utf8 fault ts (All-tail (λ t. HasTexts t.body) t ts h)))
      | inr e ↦ rw e (All-nil (λ t. HasUtf8 t.body))
    ]

-- the tokens that a parser takes
pub adapted_utf8 : (s : SpelledText) → IsUtf8 s.text → (dropped given : ℕ)
    → All (λ t. HasUtf8 t.body) (adapted (remaining s dropped given)).tokens
adapted_utf8 s t dropped given = cut_utf8 (remaining s dropped given).fault (remaining s dropped given).tokens (remaining_sound s t dropped given)

cut_taken : (fault : Option Fault) (old : List Token) → HasTexts (front_of old).body
    → spells_text (front_of old).body ≡ true → MayAnswer old fault
    → GivesToken (cut fault old).tokens (cut fault old).fault (front_of old)
    (cut fault (rest_of old)).tokens (cut fault (rest_of old)).fault
cut_taken fault old h s may = grind (arith, nat_tests, body_utf8)

-- The front is taken, where its tag is UTF-8.
pub taken : (old new : Remaining) (t : Token) → t ≡ front_of old.tokens
    → new.tokens ≡ rest_of old.tokens → new.fault ≡ old.fault → MayAnswer old.tokens old.fault
    → HasTexts t.body → spells_text t.body ≡ true
    → GivesToken (adapted old).tokens (adapted old).fault t (adapted new).tokens (adapted new).fault
taken old new t e f g may h s = rw (e, f, g) (cut_taken old.fault old.tokens (rw e at h) (rw e at s) may)

cut_refused : (fault : Option Fault) (old : List Token) → spells_text (front_of old).body ≡ false
    → GivesFault (cut fault old).tokens (cut fault old).fault (tag_fault (front_of old).start_mark)
    [] None
cut_refused fault old s = grind (arith, nat_tests, true≢false)

-- The front is refused, where its tag isn't UTF-8.
pub refused : (old : Remaining) (t : Token) → t ≡ front_of old.tokens → spells_text t.body ≡ false
    → GivesFault (adapted old).tokens (adapted old).fault (tag_fault t.start_mark) [] None
refused old t e s = rw e (cut_refused old.fault old.tokens (rw e at s))

cut_failed : (fault : Option Fault) (old : List Token) (f : Fault) → old ≡ [] → fault ≡ Some f
    → ((cut fault old).tokens ≡ []) × ((cut fault old).fault ≡ Some f)
cut_failed fault old f e g = grind (arith, nat_tests)

cut_more : (fault : Option Fault) (old : List Token) → HasMore old fault
    → HasMore (cut fault old).tokens (cut fault old).fault
cut_more fault old h = grind (arith, nat_tests, cases_Bool)

-- The session's own fault is passed on.
pub failed : (old : Remaining) (f : Fault) → HasMore old.tokens old.fault
    → IsMemoryFault scan_layers f ⊎ ((old.tokens ≡ []) × (old.fault ≡ Some f))
    → GivesFault (adapted old).tokens (adapted old).fault f [] None
failed old f more (inl memory) = record { more = cut_more old.fault old.tokens more; none = refl; no_fault = refl; reason = inl memory }
failed old f more (inr (e, g)) = record { more = cut_more old.fault old.tokens more; none = refl; no_fault = refl; reason = inr (cut_failed old.fault old.tokens f e g) }

-- a test of UTF-8 is the test of the definition
pub same_test : (r : Bool) (bytes : List ℕ) → (IsTrue r ↔ IsUtf8 bytes) → r ≡ is_utf8 bytes
same_test true bytes (f, g) = sym (is_utf8-from_IsUtf8 bytes (f refl))
same_test false bytes (f, g) =
    elim (cases_Bool (is_utf8 bytes)) [
      | inl e ↦ absurd (true≢false (sym (g (IsUtf8-from_is_utf8 bytes e))))
      | inr e ↦ sym e
    ]
