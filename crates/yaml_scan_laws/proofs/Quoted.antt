-- The value of a quoted scalar is UTF-8, and so is what is after it.
use Rattle.std.proofs.Common.{◌≡◌, ℕ, zero, suc, ◌+◌, ◌<◌, ◌==◌, ◌&&◌, nat_lt, if◌then◌else◌, ◌||◌, Bool, true, false, List, [], ◌∷◌, ◌++◌, length, drop, Option, Some, None, Result, Ok, Err, refl, inl, inr, arith, IsUtf8, append-nil, append_assoc}
use Rattle.yaml_scan_laws.proofs.TextWords.{encode_utf8, IsScalar, cases_Bool, ltb-true, eqb-true, and_parts, nat_tests, drop_more, IsUtf8-nil, IsUtf8-append, IsUtf8-encode, byte, break_width, is_blank, break_value, is_document_indicator, Wrong, within, Piece, Kept, Blank, Break, value, QuotedSpot, Closing, Pieces, Bad, hex_digit, hex_value, is_scalar, coded, hex_len, simple_escape, escaped, escape_at, quote_at, standing_at, with_front, followed, pieces, quoted_at}
use Rattle.yaml_scan_history.specs.Quoted.{valued}
use Rattle.yaml_scan_laws.proofs.Whole.{IsWhole, whole_ascii, whole_after, whole_before, whole_behind, blank_small, ascii_utf8, cut, break_utf8, nel_char, nbsp_char, ls_char, ps_char, Goes, value_utf8}
use Rattle.yaml_scan_laws.proofs.QuotedForward.{last_digit, some_of}

-- Bytes that wait, and the text from a place on, are UTF-8 together.
abbrev pub Waits : List ℕ → List ℕ → ℕ → Type 0
Waits u text p = IsUtf8 (u ++ drop p text)

-- These pieces can follow from a place on, whatever waits there.
abbrev pub FollowsOn : List ℕ → ℕ → List Piece → Type 0
FollowsOn text q ps = (u : List ℕ) → Waits u text q → Goes u ps

-- a byte that is kept waits
pub kept_waits : (u text : List ℕ) (p : ℕ) → p < length text → Waits u text p
    → Waits (u ++ byte text p ∷ []) text (p + 1)
kept_waits u text p l w = rw (append_assoc u (byte text p ∷ []) (drop (p + 1) text)) (rw (drop_more text p 0 l) at w)

-- What is at a place, and pieces that can follow it, go together with what waits there.
record Joins (u text : List ℕ) (qs : List Piece) (q : ℕ) : Type 0 where
  pub waiting : List ℕ
  pub waits : Waits waiting text q
  pub goes : (ps : List Piece) → FollowsOn text q ps → Goes u (qs ++ ps)

abbrev Fits : List ℕ → List ℕ → ℕ → QuotedSpot → Type 0
Fits u text p Closing = IsUtf8 u × IsWhole text (p + 1)
Fits u text p (Pieces qs q) = Joins u text qs q
Fits u text p (Bad w) = Unit {0}

-- whole pieces after which the text may be cut
kept_fits : (u text bytes : List ℕ) (q : ℕ) → IsUtf8 u → IsUtf8 bytes → IsWhole text q
    → Joins u text (Kept bytes ∷ []) q
kept_fits u text bytes q a b w = record { waiting = []; waits = w; goes = λ ps f. f (u ++ bytes) (IsUtf8-append (u ++ bytes) (drop q text) (IsUtf8-append u bytes a b) w) }

blank_fits : (u text : List ℕ) (b q : ℕ) → IsUtf8 u → b < 128 → IsWhole text q
    → Joins u text (Blank b ∷ []) q
blank_fits u text b q a s w = record { waiting = []; waits = w; goes = λ ps f. (a, s, f [] w) }

break_fits : (u text bytes : List ℕ) (q : ℕ) → IsUtf8 u → IsUtf8 bytes → IsWhole text q
    → Joins u text (Break bytes ∷ []) q
break_fits u text bytes q a b w = record { waiting = []; waits = w; goes = λ ps f. (a, b, f [] w) }

empty_break_fits : (u text : List ℕ) (q : ℕ) → IsUtf8 u → IsWhole text q
    → Joins u text (Kept [] ∷ Break [] ∷ []) q
empty_break_fits u text q a w = record { waiting = []; waits = w; goes = λ ps f. (rw (append-nil u) a, IsUtf8-nil, f [] w) }

scalar_of : (c : ℕ) → is_scalar c ≡ true → IsScalar c
scalar_of c h = grind (arith, nat_tests)

coded_fits : (u text : List ℕ) (p spot q : ℕ) (o : Option ℕ) → IsUtf8 u
    → ((c : ℕ) → o ≡ Some c → IsWhole text q) → Fits u text p (coded spot q o)
coded_fits u text p spot q None a w = tt
coded_fits u text p spot q (Some c) a w =
    elim (cases_Bool (is_scalar c)) [
      | inl e ↦ rw e (kept_fits u text (encode_utf8 c) q a (IsUtf8-encode c (scalar_of c e)) (w c refl))
      | inr e ↦ rw e tt
    ]

-- there is a value
abbrev IsThere : {A : Type 0} → Option A → Type 0
IsThere (Some x) = Unit {0}
IsThere None = ⊥

no_digit : (b : ℕ) → nat_lt b 128 ≡ false → hex_digit b ≡ None
unfolding hex_digit
no_digit b h = grind (arith, nat_tests)

digit_small : (b : ℕ) → IsThere (hex_digit b) → b < 128
digit_small b h = grind (arith, nat_tests, no_digit)

hex_whole : (n : ℕ) (text : List ℕ) (p : ℕ) → IsUtf8 text → 0 < n → IsThere (hex_value text p n)
    → IsWhole text (p + n)
unfolding hex_value
hex_whole zero text p u h s = absurd (omega arith)
hex_whole (suc n) text p u h s = grind (arith, nat_tests, whole_after, digit_small, last_digit)

-- what a letter spells, and the letter
abbrev IsSimple : ℕ → Option (List ℕ) → Type 0
IsSimple b None = Unit {0}
IsSimple b (Some bytes) = IsUtf8 bytes × (b < 128)

one_byte : (test : Bool) (b c : ℕ) (o : Option (List ℕ)) → (test ≡ true → b < 128) → c < 128
    → IsSimple b o → IsSimple b (if test then Some (c ∷ []) else o)
one_byte test b c o s l h = grind (arith, nat_tests, ascii_utf8)

one_char : (test : Bool) (b c : ℕ) (bytes : List ℕ) (o : Option (List ℕ)) → (test ≡ true → b < 128)
    → IsScalar c → bytes ≡ encode_utf8 c → IsSimple b o
    → IsSimple b (if test then Some bytes else o)
one_char true b c bytes o s l e h = (rw e (IsUtf8-encode c l), s refl)
one_char false b c bytes o s l e h = h

pub is_small : (b c : ℕ) → c < 128 → (b == c) ≡ true → b < 128
is_small b c l h = grind (arith, nat_tests)

same_byte : (test : Bool) (b : ℕ) (o : Option (List ℕ)) → (test ≡ true → b < 128) → IsSimple b o
    → IsSimple b (if test then Some (b ∷ []) else o)
same_byte test b o s h = grind (arith, nat_tests, ascii_utf8)

simple_is : (b : ℕ) → IsSimple b (simple_escape b)
unfolding simple_escape
simple_is b =
    one_byte (b == 0x30) b 0 _ (is_small b 0x30 (omega arith)) (omega arith)
    (one_byte (b == 0x61) b 7 _ (is_small b 0x61 (omega arith)) (omega arith)
    (one_byte (b == 0x62) b 8 _ (is_small b 0x62 (omega arith)) (omega arith)
    (one_byte (b == 0x74 || b == 9) b 9 _ (λ h. grind (arith, nat_tests)) (omega arith)
    (one_byte (b == 0x6E) b 10 _ (is_small b 0x6E (omega arith)) (omega arith)
    (one_byte (b == 0x76) b 11 _ (is_small b 0x76 (omega arith)) (omega arith)
    (one_byte (b == 0x66) b 12 _ (is_small b 0x66 (omega arith)) (omega arith)
    (one_byte (b == 0x72) b 13 _ (is_small b 0x72 (omega arith)) (omega arith)
    (one_byte (b == 0x65) b 0x1B _ (is_small b 0x65 (omega arith)) (omega arith)
    (same_byte (b == 0x20 || (b == 0x22 || (b == 0x2F || b == 0x5C))) b _ (λ h. grind (arith, nat_tests))
    (one_char (b == 0x4E) b 0x85 (0xC2 ∷ 0x85 ∷ []) _ (is_small b 0x4E (omega arith)) refl nel_char
    (one_char (b == 0x5F) b 0xA0 (0xC2 ∷ 0xA0 ∷ []) _ (is_small b 0x5F (omega arith)) refl nbsp_char
    (one_char (b == 0x4C) b 0x2028 (0xE2 ∷ 0x80 ∷ 0xA8 ∷ []) _ (is_small b 0x4C (omega arith)) refl ls_char
    (one_char (b == 0x50) b 0x2029 (0xE2 ∷ 0x80 ∷ 0xA9 ∷ []) None (is_small b 0x50 (omega arith)) refl ps_char tt)))))))))))))

escaped_fits : (u text : List ℕ) (p : ℕ) (o : Option (List ℕ)) → IsUtf8 text → IsUtf8 u
    → IsSimple (byte text (p + 1)) o → Fits u text p (escaped p o)
escaped_fits u text p o t a h = grind (arith, nat_tests, kept_fits, whole_after)

escape_fits : (u text : List ℕ) (p : ℕ) → IsUtf8 text → IsUtf8 u → Fits u text p (escape_at text p)
unfolding escape_at
escape_fits u text p t a =
    elim (cases_Bool (nat_lt 0 (break_width text (p + 1)))) [
      | inl h ↦ rw h (empty_break_fits u text (p + 1 + break_width text (p + 1)) a (whole_behind text (p + 1) t (ltb-true _ _ h)))
      | inr h ↦ elim (cases_Bool (nat_lt 0 (hex_len (byte text (p + 1))))) [
        | inl i ↦
            let n = hex_len (byte text (p + 1)) in
            rw (h, i) (coded_fits u text p (p + 2) (p + 2 + n) (hex_value text (p + 2) n) a (λ c e. hex_whole n text (p + 2) t (ltb-true _ _ i) (rw e tt)))
        | inr i ↦ rw (h, i) (escaped_fits u text p (simple_escape (byte text (p + 1))) t a (simple_is (byte text (p + 1))))
      ]
    ]

quote_fits : (u text : List ℕ) (quote p : ℕ) → IsUtf8 text → IsUtf8 u → byte text p < 128
    → Fits u text p (quote_at quote text p)
unfolding quote_at
quote_fits u text quote p t a s = grind (arith, nat_tests, cases_Bool, eqb-true, and_parts, kept_fits, ascii_utf8, whole_after)

standing_fits : (u text : List ℕ) (quote p : ℕ) → quote < 128 → IsUtf8 text → Waits u text p
    → Fits u text p (standing_at quote text p)
unfolding standing_at
standing_fits u text quote p small t w =
    elim (cases_Bool (is_document_indicator text p)) [
      | inl h ↦ rw h tt
      | inr h ↦ elim (cases_Bool (byte text p == 0)) [
        | inl i ↦ rw (h, i) tt
        | inr i ↦ elim (cases_Bool (byte text p == quote)) [
          | inl j ↦
              let s : byte text p < 128 = omega (arith, eqb-true _ _ j, small) in
              rw (h, i, j) (quote_fits u text quote p t (cut u (drop p text) w (whole_ascii text p t s)) s)
          | inr j ↦ elim (cases_Bool (nat_lt 0 (break_width text p))) [
            | inl k ↦
                let some = ltb-true _ _ k in
                rw (h, i, j, k) (break_fits u text (break_value text p) (p + break_width text p) (cut u (drop p text) w (whole_before text p t some))
                (break_utf8 text p t) (whole_behind text p t some))
            | inr k ↦ elim (cases_Bool (is_blank (byte text p))) [
              | inl l ↦
                  let s = blank_small (byte text p) l in
                  rw (h, i, j, k, l) (blank_fits u text (byte text p) (p + 1) (cut u (drop p text) w (whole_ascii text p t s)) s (whole_after text p t s))
              | inr l ↦ elim (cases_Bool (quote == 34 && byte text p == 92)) [
                | inl m ↦ rw (h, i, j, k, l, m) (escape_fits u text p t (cut u (drop p text) w (whole_ascii text p t (grind (arith, nat_tests)))))
                | inr m ↦
                    let here = within text p (some_of (byte text p) i) in
                    rw (h, i, j, k, l, m) record { waiting = u ++ byte text p ∷ []; waits = kept_waits u text p here w; goes = λ ps f. f (u ++ byte text p ∷ []) (kept_waits u text p here w) }
              ]
            ]
          ]
        ]
      ]
    ]

-- The pieces that are read, if any, go with what waits, and the text may be cut after the closing quote.
record AreRead (u text : List ℕ) (x : List Piece × ℕ) : Type 0 where
  pub goes : Goes u x.0
  pub place : IsWhole text x.1

abbrev Good : List ℕ → List ℕ → Result (List Piece × ℕ) Wrong → Type 0
Good u text (Ok x) = AreRead u text x
Good u text (Err w) = Unit {0}

front_good : (u text : List ℕ) (q : ℕ) (qs : List Piece) (r : Result (List Piece × ℕ) Wrong)
    → Joins u text qs q → ((v : List ℕ) → Waits v text q → Good v text r)
    → Good u text (with_front qs r)
front_good u text q qs (Ok x) j rest = record { goes = j.goes x.0 (λ v wait. (rest v wait).goes); place = (rest j.waiting j.waits).place }
front_good u text q qs (Err e) j rest = tt

followed_good : (more : ℕ → Result (List Piece × ℕ) Wrong) (u text : List ℕ) (p : ℕ)
    (s : QuotedSpot)
    → ((q : ℕ) (v : List ℕ) → Waits v text q → Good v text (more q)) → Fits u text p s
    → Good u text (followed more p s)
followed_good more u text p Closing rest (a, b) = record { goes = a; place = b }
followed_good more u text p (Pieces qs q) rest f = front_good u text q qs (more q) f (rest q)
followed_good more u text p (Bad w) rest f = tt

pieces_good : (n quote : ℕ) (text : List ℕ) → quote < 128 → IsUtf8 text → (p : ℕ) (u : List ℕ)
    → Waits u text p → Good u text (pieces n quote text p)
unfolding pieces
pieces_good zero quote text small t p u w = tt
pieces_good (suc n) quote text small t p u w =
    followed_good (pieces n quote text) u text p (standing_at quote text p) (pieces_good n quote text small t) (standing_fits u text quote p small t w)

-- a value in UTF-8, and a place where the text may be cut
pub record IsQuoted (text : List ℕ) (x : List ℕ × ℕ) : Type 0 where
  pub value : IsUtf8 x.0
  pub place : IsWhole text x.1

abbrev pub HasQuoted : List ℕ → Result (List ℕ × ℕ) Wrong → Type 0
HasQuoted text (Ok x) = IsQuoted text x
HasQuoted text (Err w) = Unit {0}

valued_good : (text : List ℕ) (r : Result (List Piece × ℕ) Wrong) → Good [] text r
    → HasQuoted text (valued value r)
valued_good text r h = grind (arith, nat_tests, value_utf8)

-- a quoted scalar
pub quoted_utf8 : (quote : ℕ) (text : List ℕ) (p : ℕ) → quote < 128 → IsUtf8 text
    → byte text p < 128 → HasQuoted text (quoted_at quote text p)
quoted_utf8 quote text p small t b = valued_good text (pieces (length text) quote text (p + 1)) (pieces_good (length text) quote text small t (p + 1) [] (whole_after text p t b))
