-- What an emitter writes between double quotes is read back.
use Rattle.std.proofs.Common.{◌≡◌, ℕ, suc, ◌+◌, ◌<◌, Bool, true, false, ◌&&◌, ◌==◌, not, List, [], ◌∷◌, ◌++◌, length, Result, Ok, refl, sym, ap, subst, ◌∙◌, inl, inr, arith, append_assoc, append-nil, encode_utf8, encode_utf8_all, IsUtf8, if◌then◌else◌}
use Rattle.yaml_emit_laws.proofs.Shared.{cases_Bool, encode_ascii, encodes-append, encodes-chars, scalars-chars, all_scalars, chars, Wrong, double_quoted_at, Cursor, Utf8, Item, letter, char_bytes, encode, Layout, ◌▹◌, choose, char, nothing_more, is_past, Page, is_empty, may_fold, fold_layout, escaped, quoted_char, quoted_body, quoted_text, in_front, WritesSpelling, QuotedSpells, spelling, meaning, quoted, ValueIsReadBack, between_quotes, gap_width}
use lib.Utf8.{encode as encode_char}
use Rattle.yaml_emit_layout.specs.Spelling as emitted
use Rattle.yaml_emit_laws.specs.Stands.{HasAt}
use Rattle.yaml_emit_laws.proofs.Parts.{spelling_reads}
use Rattle.yaml_emit_laws.proofs.Escapes.{low_encodes, parts_of}
use Rattle.yaml_emit_laws.proofs.Kept.{body_keeps}
use Rattle.yaml_emit_laws.proofs.Steps.{not_start}
use Rattle.yaml_emit_layout.proofs.Sinks.{cond_false}
pub use Rattle.yaml_emit_layout.proofs.Spelled.{moved_by, spaced_by, in_front_append as front_append}
use Rattle.yaml_scan_laws.proofs.Whites.{has_rest}

-- ---- without lines that may be broken the indentation says nothing

abbrev flat : Page → Page
flat page = record page { indentation = 1 }

no_fold : (page : Page) (before x : ℕ) (xs : List ℕ) → page.cuts ≡ false
    → may_fold page before x xs ≡ false
no_fold page before x xs e = ap (λ t. t && (x == 32 && (not (before == 32) && not (is_empty xs)))) e

-- Where lines aren't cut a quoted character is itself or its escape, whatever is before it.
pub char_escaped : (page : Page) (before x : ℕ) (xs : List ℕ) → page.cuts ≡ false
    → quoted_char page before x xs ≡ escaped page.unicode x
unfolding quoted_char
char_escaped page before x xs e = cond_false (may_fold page before x xs) (choose (is_past page.width) (fold_layout page xs) (char x)) (escaped page.unicode x) (no_fold page before x xs e)

body_flat : (page : Page) (before : ℕ) (xs : List ℕ) → page.cuts ≡ false
    → quoted_body (flat page) before xs ≡ quoted_body page before xs
unfolding quoted_body
body_flat page before [] e = refl
body_flat page before (x ∷ xs) e =
    ap (λ (a : Layout). a ▹ quoted_body (flat page) x xs) (char_escaped (flat page) before x xs e ∙ sym (char_escaped page before x xs e))
    ∙ ap (λ (a : Layout). quoted_char page before x xs ▹ a) (body_flat page x xs e)

body_spells : QuotedSpells → (page : Page) (c : Cursor) (cs : List ℕ) → all_scalars cs ≡ true
    → (page.cuts ≡ true → 0 < page.indentation) → WritesSpelling (quoted_body page 32 cs) c cs
body_spells law page c cs good deep =
    elim (cases_Bool page.cuts) [
      | inl e ↦ law page c cs good (deep e)
      | inr e ↦ subst (λ (a : Layout). WritesSpelling a c cs) (body_flat page 32 cs e) (law (flat page) c cs good (omega arith))
    ]

-- ---- characters and bytes

-- A text of one character that comes first is a letter.
pub front_one : (x : ℕ) (t : List Item) → in_front (x ∷ []) t ≡ letter x ∷ t
unfolding in_front
front_one x t = refl

-- The first character of a text that comes first is a letter.
pub front_more : (x : ℕ) (xs : List ℕ) (t : List Item)
    → in_front (x ∷ xs) t ≡ letter x ∷ in_front xs t
unfolding in_front
front_more x xs t = refl

-- a character's bytes under UTF-8
pub char_encodes : (c : ℕ) → char_bytes Utf8 c ≡ encode_utf8 c
unfolding char_bytes encode_char
char_encodes c = refl

front_encodes : (xs : List ℕ) (t : List Item)
    → encode Utf8 (in_front xs t) ≡ encode_utf8_all xs ++ encode Utf8 t
unfolding in_front encode
front_encodes [] t = refl
front_encodes (x ∷ xs) t =
    ap (λ b. b ++ encode Utf8 (in_front xs t)) (char_encodes x) ∙ ap (λ b. encode_utf8 x ++ b) (front_encodes xs t) ∙ sym (append_assoc (encode_utf8 x) (encode_utf8_all xs) (encode Utf8 t))

alone_encodes : (xs : List ℕ) → encode Utf8 (in_front xs []) ≡ encode_utf8_all xs
unfolding encode
alone_encodes xs = front_encodes xs [] ∙ ap (λ b. encode_utf8_all xs ++ b) refl ∙ append-nil (encode_utf8_all xs)

between : (xs bs : List ℕ) → encode_utf8_all xs ≡ bs
    → encode_utf8_all (34 ∷ (xs ++ 34 ∷ [])) ≡ 34 ∷ (bs ++ 34 ∷ [])
between xs bs e =
    let one : encode_utf8_all (34 ∷ []) ≡ 34 ∷ [] = low_encodes (34 ∷ []) (omega arith, tt) in
    rw (encode_ascii 34 (omega arith), encodes-append xs (34 ∷ []), e) (ap (λ t. 34 ∷ (bs ++ t)) one)

-- ---- quoted text

reads_as : (xs ys : List ℕ) (reading : Result (List ℕ × ℕ) Wrong) (p n m : ℕ)
    → reading ≡ Ok (xs, p + n) → xs ≡ ys → n ≡ m → reading ≡ Ok (ys, p + m)
reads_as xs ys reading p n m r a b = r ∙ ap (λ v. Ok (v, p + n)) a ∙ ap (λ k. Ok (ys, p + k)) b

-- what is written between double quotes for a value is read back as the value
pub quoted_back : QuotedSpells → (page : Page) (c : Cursor) (value : List ℕ) → IsUtf8 value
    → (page.cuts ≡ true → 0 < page.indentation)
    → ValueIsReadBack double_quoted_at (between_quotes page (chars value)) c value
quoted_back law page c value u deep =
    let s = body_spells law page (moved_by c) (chars value) (scalars-chars value u) deep in
    let mine = parts_of (emitted.raw 32) s.parts s.right in
    let inner = emitted.spelling s.parts in
    let bytes : encode_utf8_all (34 ∷ (inner ++ 34 ∷ [])) ≡ quoted 34 mine.parts = between inner (spelling mine.parts) mine.bytes in
    let means : meaning mine.parts ≡ value = mine.means ∙ ap (λ t. encode_utf8_all t) (sym s.meant) ∙ encodes-chars value u in
    record {
      letters = 34 ∷ (inner ++ 34 ∷ []);
      behind = moved_by s.behind;
      written = λ rest.
          ap (λ t. letter 34 ∷ t) (s.spelled (λ d. char 34 d rest) ∙ ap (in_front inner) (sym (front_one 34 (rest (moved_by s.behind)))) ∙ sym (front_append inner (34 ∷ []) (rest (moved_by s.behind))))
          ∙ sym (front_more 34 (inner ++ 34 ∷ []) (rest (moved_by s.behind)));
      read = λ text p h.
          reads_as (meaning mine.parts) value (double_quoted_at text p) p (length (quoted 34 mine.parts)) (length (encode_utf8_all (34 ∷ (inner ++ 34 ∷ []))))
          (spelling_reads mine.parts text p mine.right (subst (λ (t : List ℕ). HasAt text p t) bytes h)) means (ap (λ (t : List ℕ). length t) (sym bytes));
      inside = inner ++ 34 ∷ [];
      begins = refl;
      bare = refl;
      column = λ z. not_start s.behind.column z;
      kept = body_keeps page 32 (chars value) (moved_by c) s.behind inner s.spelled;
    }

-- ---- with the space before it

read_white : (a : Layout) (c : Cursor) (value text : List ℕ) (p : ℕ)
    → ValueIsReadBack double_quoted_at a c value → HasAt text p (encode Utf8 (a c nothing_more))
    → double_quoted_at text (p + 0) ≡ Ok (value, p + length (encode Utf8 (a c nothing_more)))
read_white a c value text p b h = grind (arith, encode_utf8_all, alone_encodes, reads_as)

read_spaced : (a : Layout) (c d : Cursor) (value text : List ℕ) (p : ℕ)
    → ValueIsReadBack double_quoted_at a d value
    → HasAt text p (encode Utf8 (letter 32 ∷ a d nothing_more))
    → double_quoted_at text (p + 1) ≡ Ok
    (value, p + length (encode Utf8 (letter 32 ∷ a d nothing_more)))
unfolding encode
read_spaced a c d value text p b h =
    let all : encode Utf8 (letter 32 ∷ a d nothing_more) ≡ 32 ∷ encode_utf8_all b.letters =
    (ap (λ b. b ++ encode Utf8 (a d nothing_more)) (char_encodes 32 ∙ encode_ascii 32 (omega arith))) ∙ ap (λ (t : List ℕ). 32 ∷ t) (ap (encode Utf8) (b.written nothing_more) ∙ alone_encodes b.letters) in
    let r = b.read text (p + 1) (has_rest text p 32 (encode_utf8_all b.letters) (subst (λ (t : List ℕ). HasAt text p t) all h)) in
    let n = length (encode_utf8_all b.letters) in
    let same : p + 1 + n ≡ p + suc n = omega arith in
    r ∙ ap (λ k. Ok (value, k)) same ∙ ap (λ (t : List ℕ). Ok (value, p + length t)) (sym all)

pub quoted_text_back : QuotedSpells → (page : Page) (c : Cursor) (value text : List ℕ) (p : ℕ)
    → IsUtf8 value → (page.cuts ≡ true → 0 < page.indentation)
    → HasAt text p (encode Utf8 (quoted_text page (chars value) c nothing_more))
    → double_quoted_at text (p + gap_width c)
    ≡ Ok (value, p + length (encode Utf8 (quoted_text page (chars value) c nothing_more)))
quoted_text_back law page c value text p u deep =
    by_gap c.white (between_quotes page (chars value) c nothing_more) (letter 32 ∷ between_quotes page (chars value) (spaced_by c) nothing_more)
    (read_white (between_quotes page (chars value)) c value text p (quoted_back law page c value u deep))
    (read_spaced (between_quotes page (chars value)) c (spaced_by c) value text p (quoted_back law page (spaced_by c) value u deep))
  where
    by_gap : (b : Bool) (t v : List Item)
        → (HasAt text p (encode Utf8 t) → double_quoted_at text (p + 0)
        ≡ Ok (value, p + length (encode Utf8 t)))
        → (HasAt text p (encode Utf8 v) → double_quoted_at text (p + 1)
        ≡ Ok (value, p + length (encode Utf8 v)))
        → HasAt text p (encode Utf8 (if b then t else v))
        → double_quoted_at text (p + (if b then 0 else 1))
        ≡ Ok (value, p + length (encode Utf8 (if b then t else v)))
    by_gap true t v f g = f
    by_gap false t v f g = g
