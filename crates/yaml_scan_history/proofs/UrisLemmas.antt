-- URIs, a byte at a time.
use Rattle.std.proofs.Common.{◌≡◌, ◌≢◌, ℕ, zero, suc, ◌+◌, ◌<◌, ◌≤◌, ◌==◌, ◌&&◌, ◌||◌, nat_lt, Bool, true, false, List, [], ◌∷◌, ◌++◌, length, take, drop, slice_range, Option, Some, None, IsSome, Result, Ok, Err, refl, sym, ap, ◌∙◌, ◌-◌, inl, inr, append_assoc, append-nil, arith, rules}
use Rattle.yaml_scan_history.proofs.Words.{cond_both, false_from_ne_true, ne_eqb, true≢false, or_cases, nat_tests, drop_more, Context, byte, is_alpha_byte, Wrong, within, IsKept, is_punctuation, is_wide_punctuation, is_kept, is_uri, hex_digit, octet_of, octet_at, UriSpot, Spells, Ends, Faulty, octet_spot, spot_at, with_bytes, uri_from, uri_within, uri_at}
use Rattle.yaml_scan_history.proofs.WordsRunsLemmas.{alpha_range}

-- ---- bytes

-- what a URI holds as it is, is printed ASCII, and neither `%` nor `<`
pub kept_parts : (wide : Bool) (b : ℕ) → is_kept wide b ≡ true
    → (32 < b) × (b < 127) × (b ≢ 37) × (b ≢ 60)
kept_parts wide b h =
    elim (or_cases (is_alpha_byte b) (is_punctuation b || (wide && is_wide_punctuation b)) h) [
      | inl a ↦ let (low, high, angle) = alpha_range b a in (omega arith, omega arith, omega arith, angle)
      | inr more ↦ elim (or_cases (is_punctuation b) (wide && is_wide_punctuation b) more) [
        | inl s ↦ (unfold is_punctuation in (grind (arith, nat_tests), grind (arith, nat_tests), grind (arith, nat_tests), grind (arith, nat_tests)))
        | inr w ↦ (unfold is_wide_punctuation in (grind (arith, nat_tests), grind (arith, nat_tests), grind (arith, nat_tests), grind (arith, nat_tests)))
      ]
    ]

-- A character that a URI holds as it is, is printed ASCII.
pub uri_range : (wide : Bool) (text : List ℕ) (p : ℕ) → is_uri wide text p ≡ true
    → (32 < byte text p) × (byte text p < 127)
uri_range wide text p h = let (low, high, mark, angle) = kept_parts wide (byte text p) h in (low, high)

pub uri_inside : (wide : Bool) (text : List ℕ) (p : ℕ) → is_uri wide text p ≡ true
    → p < length text
uri_inside wide text p h = let (low, high) = uri_range wide text p h in within text p (omega arith)

-- nothing of a URI is past the end
pub past_uri : (wide : Bool) (text : List ℕ) (p : ℕ) → length text ≤ p → is_uri wide text p ≡ false
past_uri wide text p past = false_from_ne_true _ (λ h. let inside = uri_inside wide text p h in omega arith)

hex_range : (b : ℕ) → IsSome (hex_digit b) → (32 < b) × (b < 127)
unfolding hex_digit
hex_range b h = (grind (arith, nat_tests), grind (arith, nat_tests))

both : (a b : Option ℕ) → IsSome (octet_of a b) → IsSome a × IsSome b
both (Some x) (Some y) h = (refl, refl)
both (Some x) None h = absurd (true≢false (sym h))
both None (Some y) h = absurd (true≢false (sym h))
both None None h = absurd (true≢false (sym h))

-- the digits of an escape
pub octet_digits : (text : List ℕ) (p : ℕ) → IsSome (octet_at text p)
    → ((32 < byte text (p + 1)) × (byte text (p + 1) < 127))
    × ((32 < byte text (p + 2)) × (byte text (p + 2) < 127))
unfolding octet_at
octet_digits text p h = search (rules, both, hex_range)

-- ---- spots

-- a byte that is spelled moves the place
abbrev pub Moved : List ℕ → ℕ → UriSpot → Type 0
Moved text p (Spells b due q) = (p < q) × (q ≤ length text)
Moved text p (Ends q) = q ≡ p
Moved text p (Faulty problem q) = Unit {0}

octet_moves : (text : List ℕ) (p due : ℕ) (o : Option ℕ) → (IsSome o → p + 3 ≤ length text)
    → Moved text p (octet_spot due p o)
octet_moves text p due (Some b) l = search rules
octet_moves text p due None l = tt

pub spot_moves : (wide : Bool) (due : ℕ) (text : List ℕ) (p : ℕ)
    → Moved text p (spot_at wide due text p)
unfolding spot_at
spot_moves wide due text p =
    cond_both (byte text p == 37) _ _ (Moved text p) (λ h.
    octet_moves text p due (octet_at text p) (λ some.
    let (high, low) = octet_digits text p some in
    let last = within text (p + 2) (omega (arith, low)) in omega arith)) (λ h.
    cond_both (nat_lt 0 due) _ _ (Moved text p) (λ i. tt) (λ i.
    cond_both (is_uri wide text p) _ _ (Moved text p) (λ j.
    let inside = uri_inside wide text p j in (omega arith, omega arith)) (λ j. refl)))

pub spot_kept : (wide : Bool) (text : List ℕ) (p : ℕ) → is_uri wide text p ≡ true
    → spot_at wide 0 text p ≡ Spells (byte text p) 0 (p + 1)
unfolding spot_at
spot_kept wide text p h = search (rules, kept_parts, ne_eqb)

-- A URI ends before a byte that isn't its own.
pub spot_ends : (wide : Bool) (text : List ℕ) (p : ℕ) → (byte text p == 37) ≡ false
    → is_uri wide text p ≡ false → spot_at wide 0 text p ≡ Ends p
unfolding spot_at
spot_ends wide text p mark kept = rw (mark, kept) refl

-- ---- URIs

-- Bytes before bytes both come first.
pub bytes_twice : (xs ys : List ℕ) (r : Result (List ℕ × ℕ) Wrong)
    → with_bytes xs (with_bytes ys r) ≡ with_bytes (xs ++ ys) r
bytes_twice xs ys (Ok u) = rw (append_assoc xs ys u.0) refl
bytes_twice xs ys (Err w) = refl

no_bytes : (r : Result (List ℕ × ℕ) Wrong) → r ≡ with_bytes [] r
no_bytes (Ok u) = refl
no_bytes (Err w) = refl

from_same : (f g : ℕ → ℕ → Result (List ℕ × ℕ) Wrong) (context : Context) (s : UriSpot)
    → ((b due q : ℕ) → s ≡ Spells b due q → f due q ≡ g due q)
    → uri_from f context s ≡ uri_from g context s
from_same f g context (Spells b due q) h = rw (h b due q refl) refl
from_same f g context (Ends q) h = refl
from_same f g context (Faulty problem q) h = refl

-- A URI is a spot, and the URI after it in as many spots, if these reach the end.
uri_turn : (n : ℕ) (context : Context) (wide : Bool) (due : ℕ) (text : List ℕ) (p : ℕ)
    → length text ≤ p + n
    → uri_within (suc n) context wide due text p
    ≡ uri_from (λ next q. uri_within (suc n) context wide next text q) context
    (spot_at wide due text p)
unfolding uri_within
uri_turn zero context wide due text p room = search (rules, from_same, spot_moves)
uri_turn (suc n) context wide due text p room =
    from_same (λ next q. uri_within (suc n) context wide next text q) (λ next q. uri_within (suc (suc n)) context wide next text q) context (spot_at wide due text p)
    (λ b next q e. let (far, inside) = rw e at (spot_moves wide due text p) in uri_turn n context wide next text q (omega arith))

-- the URI there, where that many escapes are due
abbrev pub uri_due : Context → Bool → ℕ → List ℕ → ℕ → Result (List ℕ × ℕ) Wrong
uri_due context wide due text p = uri_within (suc (length text)) context wide due text p

-- A URI is what is at its place, and the rest.
pub uri_here : (context : Context) (wide : Bool) (due : ℕ) (text : List ℕ) (p : ℕ)
    → uri_due context wide due text p
    ≡ uri_from (λ next q. uri_due context wide next text q) context (spot_at wide due text p)
uri_here context wide due text p = uri_turn (length text) context wide due text p (omega arith)

-- what is left of a URI after characters that it holds as they are
uri_run : (d : ℕ) (context : Context) (wide : Bool) (text : List ℕ) (p : ℕ)
    → ((k : ℕ) → p ≤ k → k < p + d → is_uri wide text k ≡ true)
    → uri_at context wide text p
    ≡ with_bytes (take d (drop p text)) (uri_at context wide text (p + d))
uri_run zero context wide text p kept =
    let z : p + 0 ≡ p = omega arith in
    rw z (no_bytes (uri_at context wide text p))
uri_run (suc d) context wide text p kept =
    let here = kept p (omega arith) (omega arith) in
    let rest = uri_run d context wide text (p + 1) (λ k after before. kept k (omega arith) (omega arith)) in
    let next : p + suc d ≡ p + 1 + d = omega arith in
    let first = rw (spot_kept wide text p here) at (uri_here context wide 0 text p) in
    rw (next, drop_more text p 0 (uri_inside wide text p here)) (first ∙ ap (with_bytes (byte text p ∷ [])) rest ∙ bytes_twice (byte text p ∷ []) (take d (drop (p + 1) text)) (uri_at context wide text (p + 1 + d)))

-- Bytes that are kept are before what the rest reads as.
pub uri_behind : (context : Context) (wide : Bool) (text : List ℕ) (p q : ℕ)
    → IsKept wide text p q
    → uri_at context wide text p ≡ with_bytes (slice_range text p q) (uri_at context wide text q)
uri_behind context wide text p q h =
    let count : p + (q - p) ≡ q = omega (arith, h.forward) in
    rw count at (uri_run (q - p) context wide text p (λ k after before. h.kept k after (rw count at before)))

-- a URI without escapes
pub uri_plain : (context : Context) (wide : Bool) (text : List ℕ) (p q : ℕ) → IsKept wide text p q
    → byte text q ≢ 37 → uri_at context wide text p ≡ Ok (slice_range text p q, q)
uri_plain context wide text p q h mark =
    let ends = rw (spot_ends wide text q (ne_eqb _ _ mark) h.stop) at (uri_here context wide 0 text q) in
    uri_behind context wide text p q h ∙ rw (ends, append-nil (slice_range text p q)) refl
