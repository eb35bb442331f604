-- Decoding, over all characters.
use Rattle.std.proofs.Common.{◌≡◌, ℕ, zero, suc, ◌+◌, ◌<◌, ◌≤◌, true, nat_lt, if◌then◌else◌, List, [], ◌∷◌, ◌++◌, drop, length, Result, Ok, Err, refl, sym, ap, ◌∙◌, arith, append_assoc, append-nil, add-zero, rules}
use Rattle.std.proofs.lemmas.Bool.Decides.{nat_tests}
use Rattle.std.proofs.Math.ListN.{drop_of_length-le}
use Rattle.std.proofs.lemmas.List.Elements.{All-nil, All-cons}
use Rattle.std.specs.List.{AllPass}
use Rattle.std.specs.Char.{IsScalar}
use Rattle.std.specs.Prelude.{encode_utf8, encode_utf8_all}
use Rattle.std.proofs.lemmas.Bool.{cond_both, ltb-true, ltb-false, lt-ltb}
use Rattle.yaml_scan_model.specs.declared.name.yaml_encoding_t.{yaml_encoding_t}
use Rattle.yaml_scan_model.specs.declared.name.yaml_encoding_t.TheVariants.{YAML_UTF8_ENCODING}
use Rattle.yaml_scan_types.specs.Marks.{byte}
use Rattle.yaml_scan_types.specs.Classes.{width_of}
use Rattle.yaml_scan_decode.specs.declared.offence.Offence.{Offence}
use Rattle.yaml_scan_decode.specs.declared.offence.Character.{Character}
use Rattle.yaml_scan_decode.specs.declared.utf16.ByteOrder.{ByteOrder}
use Rattle.yaml_scan_decode.specs.Characters.{is_allowed, allowed_at, valued_at, least_code, sequence_of, utf8_code, leading_bits, utf8_of, utf8_at, utf16_at, encoding_by, character_at}
use Rattle.yaml_scan_decode.specs.Steps.{is_plain, outcome, outcome_at, behind}
use Rattle.yaml_scan_decode.specs.Decoding.{before, led_by, characters, in_utf8}
use Rattle.yaml_scan_decode.specs.Spelling.{spelling, spellings}
use Rattle.yaml_scan_decode.proofs.DecodeLemmas.{AreBytes, character_some, character_stands}

-- a character that a stream may hold is a Unicode scalar value
pub allowed_scalar : (c : ℕ) → is_allowed c ≡ true → IsScalar c
unfolding is_allowed
allowed_scalar c h = grind (arith, nat_tests)

pub character_by : (order : ByteOrder) (bytes : List ℕ) (p : ℕ)
    → character_at (encoding_by order) bytes p ≡ utf16_at order bytes p
character_by order bytes p = grind arith

-- past the end there is nothing
pub ended : (n : ℕ) (e : yaml_encoding_t) (bytes : List ℕ) (p : ℕ) → length bytes ≤ p
    → characters n e bytes p ≡ Ok []
unfolding characters
ended n e bytes p h = grind arith

-- the characters from the place on, or the first offence
abbrev pub characters_on : yaml_encoding_t → List ℕ → ℕ → Result (List ℕ) Offence
characters_on e bytes p = characters (length bytes) e bytes p

led_same : (f g : ℕ → Result (List ℕ) Offence) (p : ℕ) (r : Result Character Offence)
    → ((ch : Character) → r ≡ Ok ch → f (p + ch.width) ≡ g (p + ch.width))
    → led_by f p r ≡ led_by g p r
led_same f g p r h = grind arith

-- no more characters are asked for than bytes are left
enough : (n : ℕ) (e : yaml_encoding_t) (bytes : List ℕ) (p : ℕ) → length bytes ≤ p + n
    → characters n e bytes p ≡ characters (suc n) e bytes p
unfolding characters
enough zero e bytes p room = sym (ended 1 e bytes p (omega arith))
enough (suc n) e bytes p room =
    ap (λ (r : Result (List ℕ) Offence). if nat_lt p (length bytes) then r else Ok [])
    (led_same (characters n e bytes) (characters (suc n) e bytes) p (character_at e bytes p) (λ ch is. enough n e bytes (p + ch.width) (omega (arith, character_some e bytes p ch is))))

here : (e : yaml_encoding_t) (bytes : List ℕ) (p : ℕ) → p < length bytes
    → characters_on e bytes p ≡ led_by (characters_on e bytes) p (character_at e bytes p)
unfolding characters
here e bytes p inside = search (rules, enough, led_by, lt-ltb)

-- a character, and those after it
pub turn : (e : yaml_encoding_t) (bytes : List ℕ) (p : ℕ) (ch : Character) → p < length bytes
    → character_at e bytes p ≡ Ok ch
    → characters_on e bytes p ≡ before ch.code (characters_on e bytes (p + ch.width))
turn e bytes p ch inside h = rw h at (here e bytes p inside)

refused : (e : yaml_encoding_t) (bytes : List ℕ) (p : ℕ) (o : Offence) → p < length bytes
    → character_at e bytes p ≡ Err o → characters_on e bytes p ≡ Err o
refused e bytes p o inside h = rw h at (here e bytes p inside)

-- a plain byte is a character of its own
pub plain_stands : (bytes : List ℕ) (p : ℕ) → p < length bytes → is_plain (byte bytes p) ≡ true
    → utf8_at bytes p ≡ Ok record { code = byte bytes p; width = 1 }
unfolding is_plain utf8_of width_of sequence_of utf8_code leading_bits valued_at least_code allowed_at is_allowed
plain_stands bytes p inside h = grind (arith, nat_tests)

outcome-before : (c : ℕ) (r : Result (List ℕ) Offence) → outcome (before c r) ≡ outcome r
outcome-before c r = grind arith

in_utf8-before : (xs : List ℕ) (c : ℕ) (r : Result (List ℕ) Offence)
    → behind xs (in_utf8 (before c r)) ≡ behind (xs ++ encode_utf8 c) (in_utf8 r)
in_utf8-before xs c r = grind (arith, append_assoc)

behind-nothing : (r : Result (List ℕ) Offence) → behind [] r ≡ r
behind-nothing r = grind arith

-- the characters from p on are checked up to q
pub checks_more : (bytes : List ℕ) (p q : ℕ) (ch : Character)
    → outcome_at bytes p ≡ outcome_at bytes q → q < length bytes → utf8_at bytes q ≡ Ok ch
    → outcome_at bytes p ≡ outcome_at bytes (q + ch.width)
unfolding outcome_at
checks_more bytes p q ch front inside h =
    front ∙ ap outcome (turn YAML_UTF8_ENCODING bytes q ch inside h) ∙ outcome-before ch.code (characters_on YAML_UTF8_ENCODING bytes (q + ch.width))

pub checks_refused : (bytes : List ℕ) (p q : ℕ) (o : Offence)
    → outcome_at bytes p ≡ outcome_at bytes q → q < length bytes → utf8_at bytes q ≡ Err o
    → outcome_at bytes p ≡ Err o
unfolding outcome_at
checks_refused bytes p q o front inside h = front ∙ ap outcome (refused YAML_UTF8_ENCODING bytes q o inside h)

-- the offence there is the first
pub checks_none : (bytes : List ℕ) (p : ℕ) (o : Offence) → p < length bytes
    → utf8_at bytes p ≡ Err o → outcome_at bytes p ≡ Err o
checks_none bytes p o inside h = checks_refused bytes p p o refl inside h

-- plain bytes are checked
pub checks_run : (k : ℕ) (bytes : List ℕ) (p : ℕ) → p + k ≤ length bytes
    → ((j : ℕ) → p ≤ j → j < p + k → is_plain (byte bytes j) ≡ true)
    → outcome_at bytes p ≡ outcome_at bytes (p + k)
checks_run zero bytes p inside each = rw add-zero refl
checks_run (suc k) bytes p inside each =
    let front = checks_run k bytes p (omega arith) (λ j a b. each j a (omega arith)) in
    let next : p + suc k ≡ p + k + 1 = omega arith in
    rw next (checks_more bytes p (p + k) record { code = byte bytes (p + k); width = 1 } front (omega arith) (plain_stands bytes (p + k) (omega arith) (each (p + k) (omega arith) (omega arith))))

-- the characters from p on are written up to q
abbrev pub Writes : yaml_encoding_t → List ℕ → ℕ → ℕ → List ℕ → Type 0
Writes e bytes p q text = in_utf8 (characters_on e bytes p) ≡ behind text (in_utf8 (characters_on e bytes q))

pub writes_none : (e : yaml_encoding_t) (bytes : List ℕ) (p : ℕ) → Writes e bytes p p []
writes_none e bytes p = sym (behind-nothing (in_utf8 (characters_on e bytes p)))

pub writes_more : (e : yaml_encoding_t) (bytes : List ℕ) (p q : ℕ) (ch : Character)
    (text : List ℕ) → Writes e bytes p q text → q < length bytes → character_at e bytes q ≡ Ok ch
    → Writes e bytes p (q + ch.width) (text ++ encode_utf8 ch.code)
writes_more e bytes p q ch text front inside h =
    front ∙ ap (λ r. behind text (in_utf8 r)) (turn e bytes q ch inside h) ∙ in_utf8-before text ch.code (characters_on e bytes (q + ch.width))

pub writes_done : (e : yaml_encoding_t) (bytes : List ℕ) (p q : ℕ) (text : List ℕ)
    → Writes e bytes p q text → length bytes ≤ q → in_utf8 (characters_on e bytes p) ≡ Ok text
writes_done e bytes p q text front past = front ∙ ap (λ r. behind text (in_utf8 r)) (ended (length bytes) e bytes q past) ∙ ap (λ (t : List ℕ). Ok t) (append-nil text)

pub writes_refused : (e : yaml_encoding_t) (bytes : List ℕ) (p q : ℕ) (text : List ℕ) (o : Offence)
    → Writes e bytes p q text → q < length bytes → character_at e bytes q ≡ Err o
    → in_utf8 (characters_on e bytes p) ≡ Err o
writes_refused e bytes p q text o front inside h = front ∙ ap (λ r. behind text (in_utf8 r)) (refused e bytes q o inside h)

-- ---- the characters that are read are spelled by the bytes
before_gives : (c : ℕ) (r : Result (List ℕ) Offence) (cs : List ℕ) → before c r ≡ Ok cs
    → (ds : List ℕ) × (r ≡ Ok ds) × (cs ≡ c ∷ ds)
before_gives c r cs h = grind arith

abbrev Sound : yaml_encoding_t → List ℕ → ℕ → List ℕ → Type 0
Sound e bytes p cs = AllPass is_allowed cs × (drop p bytes ≡ spellings e cs)

abbrev SoundWith : ℕ → yaml_encoding_t → List ℕ → Type 0
SoundWith n e bytes = (p : ℕ) (cs : List ℕ) → length bytes ≤ p + n → characters n e bytes p ≡ Ok cs → Sound e bytes p cs

nothing : (e : yaml_encoding_t) (bytes : List ℕ) (p : ℕ) (cs : List ℕ) → length bytes ≤ p
    → ◌≡◌ {A = Result (List ℕ) Offence} (Ok []) (Ok cs) → Sound e bytes p cs
nothing e bytes p cs past h = grind (arith, All-nil, drop_of_length-le)

led : (n : ℕ) (e : yaml_encoding_t) (bytes : List ℕ) (p : ℕ) (cs : List ℕ)
    (r : Result Character Offence) → AreBytes bytes → SoundWith n e bytes → length bytes ≤ p + suc n
    → p < length bytes → character_at e bytes p ≡ r → led_by (characters n e bytes) p r ≡ Ok cs
    → Sound e bytes p cs
led n e bytes p cs (Err o) are more room inside is h = cc
led n e bytes p cs (Ok ch) are more room inside is h =
    let s = character_stands e bytes p ch are inside is in
    let (ds, rest, all) = before_gives ch.code _ cs h in
    let (allowed, spelled) = more (p + ch.width) ds (omega (arith, s.some)) rest in
    rw all (All-cons (λ x. is_allowed x ≡ true) ch.code ds s.allowed allowed, s.spelled ∙ ap (λ (xs : List ℕ). spelling e ch.code ++ xs) spelled)

-- what is read is spelled by the bytes
pub sound : (n : ℕ) (e : yaml_encoding_t) (bytes : List ℕ) (p : ℕ) (cs : List ℕ) → AreBytes bytes
    → length bytes ≤ p + n → characters n e bytes p ≡ Ok cs → Sound e bytes p cs
unfolding characters
sound zero e bytes p cs are room h = nothing e bytes p cs (omega arith) h
sound (suc n) e bytes p cs are room h =
    cond_both (nat_lt p (length bytes)) (led_by (characters n e bytes) p (character_at e bytes p)) (Ok []) (λ r. r ≡ Ok cs → Sound e bytes p cs)
    (λ is. led n e bytes p cs (character_at e bytes p) are (λ q ds r g. sound n e bytes q ds are r g) room (ltb-true p (length bytes) is) refl)
    (λ is. nothing e bytes p cs (ltb-false p (length bytes) is)) h

-- of UTF-8 the text is the bytes
pub utf8_text : (bytes : List ℕ) (p : ℕ) (cs : List ℕ) → AreBytes bytes
    → characters (length bytes) YAML_UTF8_ENCODING bytes p ≡ Ok cs
    → encode_utf8_all cs ≡ drop p bytes
utf8_text bytes p cs are h = sym ((sound (length bytes) YAML_UTF8_ENCODING bytes p cs are (omega arith) h).1 ∙ same cs)
  where
    same : (cs : List ℕ) → spellings YAML_UTF8_ENCODING cs ≡ encode_utf8_all cs
    same [] = refl
    same (c ∷ cs) = ap (λ (xs : List ℕ). encode_utf8 c ++ xs) (same cs)
