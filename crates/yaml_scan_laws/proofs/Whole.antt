-- Places where a text in UTF-8 may be cut, and values whose pieces go together.
use Rattle.std.proofs.Common.{◌≡◌, ℕ, zero, suc, ◌+◌, ◌-◌, ◌<◌, ◌≤◌, ◌==◌, ◌&&◌, ◌||◌, Bool, true, List, [], ◌∷◌, ◌++◌, length, drop, refl, ◌∙◌, ap, inl, inr, ◌⊎◌, arith, IsUtf8, slice_range, take_at, take_all, length-drop, IsAscii, append-nil, append_assoc}
use Rattle.yaml_scan_laws.proofs.TextWords.{encode_utf8, drop_all, drop_more, cases_Bool, cases_lt, nat_tests, IsUtf8-nil, IsUtf8-drop, IsUtf8-take, IsUtf8-between, IsUtf8-past_char, IsUtf8-from_ascii, IsUtf8-encode, IsCharBoundary-after_ascii, IsCharBoundary-from_drop, IsCharBoundary-at_seam, byte, break_of, ends_of, break_width, ends_break, is_blank, break_value, is_document_indicator, within, widths, leads, IsUtf8-append, is_feed, Piece, Kept, Blank, Break, Line, lines, is_empty, text, trim_end, trim_start, gap, rest_of, folded, value}

-- a character begins there, or the text has ended
abbrev pub IsWhole : List ℕ → ℕ → Type 0
IsWhole text p = IsUtf8 (drop p text)

-- the byte begins a character
abbrev pub Begins : ℕ → Type 0
Begins b = 128 ≤ b → 192 ≤ b

pub whole_past : (text : List ℕ) (p : ℕ) → length text ≤ p → IsWhole text p
whole_past text p h = rw (drop_all p text h) IsUtf8-nil

pub whole_at : (text : List ℕ) (p : ℕ) → IsUtf8 text → Begins (byte text p) → IsWhole text p
whole_at text p u b =
    elim (cases_lt p (length text)) [
      | inl l ↦ IsUtf8-drop text p u (omega (arith, l), λ m. b)
      | inr past ↦ whole_past text p past
    ]

pub whole_ascii : (text : List ℕ) (p : ℕ) → IsUtf8 text → byte text p < 128 → IsWhole text p
whole_ascii text p u b = whole_at text p u (λ m. absurd (omega (arith, b, m)))

pub whole_after : (text : List ℕ) (p : ℕ) → IsUtf8 text → byte text p < 128 → IsWhole text (p + 1)
whole_after text p u b =
    elim (cases_lt p (length text)) [
      | inl l ↦ IsUtf8-drop text (p + 1) u (IsCharBoundary-after_ascii text p u l b)
      | inr past ↦ whole_past text (p + 1) (omega (arith, past))
    ]

two_there : (text : List ℕ) (p : ℕ) → 0 < byte text (p + 1)
    → drop p text ≡ byte text p ∷ byte text (p + 1) ∷ drop (p + 2) text
two_there text p h =
    let here = within text (p + 1) h in
    let e : p + 1 + 1 ≡ p + 2 = omega arith in
    let f = drop_more text (p + 1) 0 here in
    drop_more text p 0 (omega (arith, here)) ∙ ap (λ xs. byte text p ∷ xs) (rw e at f)

three_there : (text : List ℕ) (p : ℕ) → 0 < byte text (p + 2)
    → drop p text ≡ byte text p ∷ byte text (p + 1) ∷ byte text (p + 2) ∷ drop (p + 3) text
three_there text p h =
    let here = within text (p + 2) h in
    let a : p + 1 + 1 ≡ p + 2 = omega arith in
    let b : p + 2 + 1 ≡ p + 3 = omega arith in
    let f = drop_more text (p + 2) 0 here in
    let g = drop_more text (p + 1) 0 (omega (arith, here)) in
    drop_more text p 0 (omega (arith, here)) ∙ ap (λ xs. byte text p ∷ xs) ((rw a at g) ∙ ap (λ xs. byte text (p + 1) ∷ xs) (rw b at f))

two_is : (b c d : ℕ) → break_of b c d ≡ 2 → ((b < 128) × (c < 128)) ⊎ ((b ≡ 0xC2) × (c ≡ 0x85))
unfolding break_of
two_is b c d h = grind (arith, nat_tests)

three_is : (b c d : ℕ) → break_of b c d ≡ 3 → ((b ≡ 0xE2) × (c ≡ 0x80)) × ((d ≡ 0xA8) ⊎ (d ≡ 0xA9))
unfolding break_of
three_is b c d h = grind (arith, nat_tests)

-- after a character that is there
past_char : (text rest : List ℕ) (p q c : ℕ) → IsUtf8 text → Begins (byte text p)
    → drop p text ≡ encode_utf8 c ++ rest → drop q text ≡ rest → IsWhole text q
past_char text rest p q c u b e f = rw f (IsUtf8-past_char (drop p text) rest c (whole_at text p u b) e)

pub nel_char : 0xC2 ∷ 0x85 ∷ [] ≡ encode_utf8 0x85
unfolding encode_utf8
nel_char = refl

pub ls_char : 0xE2 ∷ 0x80 ∷ 0xA8 ∷ [] ≡ encode_utf8 0x2028
unfolding encode_utf8
ls_char = refl

pub ps_char : 0xE2 ∷ 0x80 ∷ 0xA9 ∷ [] ≡ encode_utf8 0x2029
unfolding encode_utf8
ps_char = refl

pub nbsp_char : 0xC2 ∷ 0xA0 ∷ [] ≡ encode_utf8 0xA0
unfolding encode_utf8
nbsp_char = refl

leads_by : (b c : ℕ) → b ≡ c → 192 ≤ c → Begins b
leads_by b c e h m = omega (arith, e, h)

whole_nel : (text : List ℕ) (p : ℕ) → IsUtf8 text → byte text p ≡ 0xC2 → byte text (p + 1) ≡ 0x85
    → IsWhole text (p + 2)
whole_nel text p u b c =
    let there = two_there text p (omega (arith, c)) in
    past_char text (drop (p + 2) text) p (p + 2) 0x85 u (leads_by _ _ b (omega arith))
    (there ∙ (rw (b, c) (ap (λ xs. xs ++ drop (p + 2) text) nel_char))) refl

whole_mark : (text : List ℕ) (p b1 b2 b3 c : ℕ) → IsUtf8 text → byte text p ≡ b1
    → byte text (p + 1) ≡ b2 → byte text (p + 2) ≡ b3 → 0 < b3 → 192 ≤ b1
    → b1 ∷ b2 ∷ b3 ∷ [] ≡ encode_utf8 c → IsWhole text (p + 3)
whole_mark text p b1 b2 b3 c u e f g some lead same =
    let there = three_there text p (omega (arith, g, some)) in
    past_char text (drop (p + 3) text) p (p + 3) c u (leads_by _ _ e lead)
    (there ∙ (rw (e, f, g) (ap (λ xs. xs ++ drop (p + 3) text) same))) refl

pub whole_bom : (text : List ℕ) (p : ℕ) → IsUtf8 text → byte text p ≡ 0xEF
    → byte text (p + 1) ≡ 0xBB → byte text (p + 2) ≡ 0xBF → IsWhole text (p + 3)
whole_bom text p u e f g = whole_mark text p 0xEF 0xBB 0xBF 0xFEFF u e f g (omega arith) (omega arith) (unfold encode_utf8 in refl)

behind_one : (text : List ℕ) (p : ℕ) → IsUtf8 text → break_width text p ≡ 1 → IsWhole text (p + 1)
behind_one text p u h = whole_after text p u (unfold break_of in grind (arith, nat_tests))

behind_two : (text : List ℕ) (p : ℕ) → IsUtf8 text → break_width text p ≡ 2 → IsWhole text (p + 2)
behind_two h0 p u h = grind (arith, nat_tests, two_is, whole_after, whole_nel)

behind_three : (text : List ℕ) (p : ℕ) → IsUtf8 text → break_width text p ≡ 3 → IsWhole text (p + 3)
behind_three h0 p u h = grind (arith, nat_tests, three_is, whole_mark, ls_char, ps_char)

-- after a break, if one is there
pub whole_behind : (text : List ℕ) (p : ℕ) → IsUtf8 text → 0 < break_width text p
    → IsWhole text (p + break_width text p)
whole_behind h0 p u h = grind (arith, nat_tests, widths, behind_one, behind_two, behind_three)

break_begins : (b c d : ℕ) → 0 < break_of b c d → Begins b
unfolding break_of
break_begins b c d h m = grind (arith, nat_tests)

-- where a break is
pub whole_before : (text : List ℕ) (p : ℕ) → IsUtf8 text → 0 < break_width text p → IsWhole text p
whole_before text p u h = whole_at text p u (break_begins (byte text p) (byte text (p + 1)) (byte text (p + 2)) h)

ends_is : (x y b c : ℕ) → ends_of x y b c ≡ true
    → (b < 128) ⊎ (((b ≡ 0x85) × (y ≡ 0xC2))
    ⊎ (((b ≡ 0xA8) ⊎ (b ≡ 0xA9)) × ((y ≡ 0x80) × (x ≡ 0xE2))))
unfolding ends_of
ends_is x y b c h = grind (arith, nat_tests)

-- the byte before a place that is not the first
before_nel : (text : List ℕ) (p : ℕ) → IsUtf8 text → byte text p ≡ 0x85 → byte text (p - 1) ≡ 0xC2
    → IsWhole text (p + 1)
before_nel h0 p u b y = grind (arith, nat_tests, whole_nel)

before_mark : (text : List ℕ) (p b c : ℕ) → IsUtf8 text → byte text p ≡ b → 0 < b
    → byte text (p - 1) ≡ 0x80 → byte text (p - 2) ≡ 0xE2
    → 0xE2 ∷ 0x80 ∷ b ∷ [] ≡ encode_utf8 c → IsWhole text (p + 1)
before_mark h0 p b c u e some y x same = grind (arith, nat_tests, whole_mark)

ends_whole : (text : List ℕ) (p : ℕ) → IsUtf8 text → ends_break text p ≡ true → IsWhole text (p + 1)
ends_whole text p u h =
    elim (ends_is (byte text (p - 2)) (byte text (p - 1)) (byte text p) (byte text (p + 1)) h) [
      | inl b ↦ whole_after text p u b
      | inr (inl (b, y)) ↦ before_nel text p u b y
      | inr (inr (inl b, y)) ↦ before_mark text p 0xA8 0x2028 u b (omega arith) y.0 y.1 ls_char
      | inr (inr (inr b, y)) ↦ before_mark text p 0xA9 0x2029 u b (omega arith) y.0 y.1 ps_char
    ]

pub blank_small : (b : ℕ) → is_blank b ≡ true → b < 128
blank_small b h = grind (arith, nat_tests)

-- where blanks alone are after a break
pub leads_whole : (text : List ℕ) (p : ℕ) → IsUtf8 text → leads text p ≡ true → IsWhole text p
unfolding leads
leads_whole text zero u h = u
leads_whole text (suc p) u h =
    let e : suc p ≡ p + 1 = omega arith in
    elim (cases_Bool (is_blank (byte text p))) [
      | inl b ↦ rw e (whole_after text p u (blank_small (byte text p) b))
      | inr b ↦ rw e (ends_whole text p u (rw b at h))
    ]

-- the bytes between two places where the text may be cut
pub slice_utf8 : (text : List ℕ) (i j : ℕ) → IsUtf8 text → IsWhole text i → IsWhole text j
    → IsUtf8 (slice_range text i j)
slice_utf8 text i j u a b =
    elim (cases_lt (length text) j) [
      | inl past ↦ rw (take_all (j - i) (drop i text) (rw (length-drop i text) (omega (arith, past)))) a
      | inr in_ ↦ elim (cases_lt j i) [
        | inl back ↦ let e : j - i ≡ 0 = omega (arith, back) in rw e IsUtf8-nil
        | inr on ↦ IsUtf8-between text i j u (omega (arith, on)) (IsCharBoundary-from_drop text i (omega (arith, on, in_)) a) (IsCharBoundary-from_drop text j (omega (arith, in_)) b)
      ]
    ]

-- what is before something in UTF-8
pub cut : (xs ys : List ℕ) → IsUtf8 (xs ++ ys) → IsUtf8 ys → IsUtf8 xs
cut xs ys u v = rw (take_at xs ys (length xs) refl) at (IsUtf8-take (xs ++ ys) (length xs) u (IsCharBoundary-at_seam (xs ++ ys) xs ys refl v))

ascii_list : (b : ℕ) → b < 128 → IsAscii (b ∷ [])
ascii_list b h h2 = grind (arith, nat_tests)

pub ascii_utf8 : (b : ℕ) → b < 128 → IsUtf8 (b ∷ [])
ascii_utf8 b h = IsUtf8-from_ascii (b ∷ []) (ascii_list b h)

third_is : (b c d : ℕ) → (break_of b c d == 3) ≡ true → (d ≡ 0xA8) ⊎ (d ≡ 0xA9)
unfolding break_of
third_is b c d h = grind (arith, nat_tests)

-- what a break reads as
pub break_utf8 : (text : List ℕ) (p : ℕ) → IsUtf8 text → IsUtf8 (break_value text p)
unfolding break_value
break_utf8 text p u =
    elim (cases_Bool (break_width text p == 3)) [
      | inl h ↦ elim (third_is (byte text p) (byte text (p + 1)) (byte text (p + 2)) h) [
        | inl e ↦ rw (h, e) (rw ls_char (IsUtf8-encode 0x2028 refl))
        | inr e ↦ rw (h, e) (rw ps_char (IsUtf8-encode 0x2029 refl))
      ]
      | inr h ↦ rw h (ascii_utf8 10 (omega arith))
    ]

indicator_bytes : (c a b d e f g : ℕ) (last : Bool)
    → (c == 0 && (((a == 45 && b == 45) && d == 45) || ((e == 46 && f == 46) && g == 46)) && last)
    ≡ true → (a ≡ 45) ⊎ (e ≡ 46)
indicator_bytes c a b d e f g last h = grind (arith, nat_tests)

pub indicator_small : (text : List ℕ) (p : ℕ) → is_document_indicator text p ≡ true
    → byte text p < 128
unfolding is_document_indicator
indicator_small text p h = grind (arith, nat_tests, indicator_bytes)

-- After bytes that wait for the rest of a character, these pieces bring it: what is kept up to the next blank or break is
-- UTF-8.
abbrev pub Goes : List ℕ → List Piece → Type 0
Goes u [] = IsUtf8 u
Goes u (Kept bytes ∷ ps) = Goes (u ++ bytes) ps
Goes u (Blank b ∷ ps) = IsUtf8 u × (b < 128) × Goes [] ps
Goes u (Break bytes ∷ ps) = IsUtf8 u × IsUtf8 bytes × Goes [] ps

abbrev AreLines : List (List ℕ × Line) → Type 0
AreLines [] = Unit {0}
AreLines (next ∷ ls) = IsUtf8 next.0 × Goes [] next.1 × AreLines ls

lines_go : (u : List ℕ) (ps : List Piece) → Goes u ps
    → Goes u (lines ps).first × AreLines (lines ps).others
lines_go u [] h = (h, tt)
lines_go u (Kept bytes ∷ ps) h = lines_go (u ++ bytes) ps h
lines_go u (Blank b ∷ ps) (a, s, h) = let (f, o) = lines_go [] ps h in ((a, s, f), o)
lines_go u (Break bytes ∷ ps) (a, s, h) = let (f, o) = lines_go [] ps h in (a, (s, f, o))

text_goes : (u : List ℕ) (l : Line) → Goes u l → IsUtf8 (u ++ text l)
text_goes u [] h = rw (append-nil u) h
text_goes u (Kept bytes ∷ l) h = rw (append_assoc u bytes (text l)) at (text_goes (u ++ bytes) l h)
text_goes u (Blank b ∷ l) (a, s, h) = IsUtf8-append u (b ∷ text l) a (IsUtf8-append (b ∷ []) (text l) (ascii_utf8 b s) (text_goes [] l h))
text_goes u (Break bytes ∷ l) (a, s, h) = IsUtf8-append u (bytes ++ text l) a (IsUtf8-append bytes (text l) s (text_goes [] l h))

trim_end_goes : (u : List ℕ) (l : Line) → Goes u l → Goes u (trim_end l)
trim_end_goes u [] h = h
trim_end_goes u (Kept bytes ∷ l) h = trim_end_goes (u ++ bytes) l h
trim_end_goes u (Break bytes ∷ l) (a, s, h) = (a, s, trim_end_goes [] l h)
trim_end_goes u (Blank b ∷ l) (a, s, h) = grind (arith, nat_tests, trim_end_goes [] l h)

trim_start_goes : (l : Line) → Goes [] l → Goes [] (trim_start l)
trim_start_goes [] h = h
trim_start_goes (Kept bytes ∷ l) h = h
trim_start_goes (Break bytes ∷ l) h = h
trim_start_goes (Blank b ∷ l) (a, s, h) = trim_start_goes l h

gap_utf8 : (first breaks : List ℕ) → IsUtf8 first → IsUtf8 breaks → IsUtf8 (gap first breaks)
gap_utf8 first [] a b =
    elim (cases_Bool (is_feed first)) [
      | inl e ↦ rw e (ascii_utf8 32 (omega arith))
      | inr e ↦ rw e a
    ]
gap_utf8 first (x ∷ xs) a b =
    elim (cases_Bool (is_feed first)) [
      | inl e ↦ rw e b
      | inr e ↦ rw e (IsUtf8-append first (x ∷ xs) a b)
    ]

joined_utf8 : (xs ys zs : List ℕ) → IsUtf8 xs → IsUtf8 ys → IsUtf8 zs → IsUtf8 (xs ++ ys ++ zs)
joined_utf8 xs ys zs a b c = IsUtf8-append (xs ++ ys) zs (IsUtf8-append xs ys a b) c

rest_goes : (l : Line) (ls : List (List ℕ × Line)) → Goes [] l → AreLines ls
    → IsUtf8 (rest_of l ls).breaks × IsUtf8 (rest_of l ls).value
rest_goes l [] h a = (IsUtf8-nil, text_goes [] (trim_start l) (trim_start_goes l h))
rest_goes l (next ∷ ls) h (a, b, c) =
    let (breaks, value) = rest_goes next.1 ls b c in
    elim (cases_Bool (is_empty l)) [
      | inl e ↦ rw e (IsUtf8-append next.0 _ a breaks, value)
      | inr e ↦ rw e (
        IsUtf8-nil,
        joined_utf8 _ _ _ (text_goes [] (trim_end (trim_start l)) (trim_end_goes [] (trim_start l) (trim_start_goes l h)))
            (gap_utf8 next.0 _ a breaks) value,
      )
    ]

folded_goes : (l : Line) (ls : List (List ℕ × Line)) → Goes [] l → AreLines ls
    → IsUtf8 (folded l ls)
folded_goes l [] h a = text_goes [] l h
folded_goes l (next ∷ ls) h (a, b, c) =
    let (breaks, value) = rest_goes next.1 ls b c in
    joined_utf8 _ _ _ (text_goes [] (trim_end l) (trim_end_goes [] l h)) (gap_utf8 next.0 _ a breaks) value

-- the value of pieces that go together
pub value_utf8 : (ps : List Piece) → Goes [] ps → IsUtf8 (value ps)
value_utf8 ps h = let (f, o) = lines_go [] ps h in folded_goes (lines ps).first (lines ps).others f o
