-- Both parts of a text are alike in it.
use Rattle.std.proofs.Common.{zero-add, ◌≡◌, ℕ, zero, suc, ◌+◌, ◌-◌, ◌<◌, ◌≤◌, ◌==◌, ◌&&◌, true, false, List, [], ◌∷◌, ◌++◌, length, refl, sym, ap, ◌∙◌, inl, inr, ◌⊎◌, arith}
use Rattle.yaml_scan_laws.proofs.Shared.{cases_Bool, cases_lt, eqb-true, true≢false, nat_tests, get_or_append_left, get_or-append-add, get_or_past, get_or_push, length-append, length_push, byte, ends_of, ends_break, line_at, column_at, is_bom, is_document_indicator, within, column_end, start_column, Alike, is_onward, EndsLine, IsCut, ne_eqb}
use Rattle.yaml_scan_laws.proofs.Bytes.{and_alike, indicator_alike, onward_some, off_break}

pub byte_left : (a b : List ℕ) (p : ℕ) → p < length a → byte (a ++ b) p ≡ byte a p
byte_left a b p l = get_or_append_left a b 0 p l

pub byte_right : (a b : List ℕ) (p : ℕ) → byte (a ++ b) (length a + p) ≡ byte b p
byte_right a b p = get_or-append-add a b p 0

pub byte_past : (a : List ℕ) (p : ℕ) → length a ≤ p → byte a p ≡ 0
byte_past a p l = get_or_past a p 0 l

-- ---- the first byte of the rest

pub first_mark : (b : List ℕ) → is_document_indicator b 0 ≡ true → (byte b 0 ≡ 45) ⊎ (byte b 0 ≡ 46)
unfolding is_document_indicator
first_mark b h = elim (cases_Bool (byte b 0 == 45)) [ inl e ↦ inl (eqb-true _ _ e) | inr e ↦ inr (grind (arith, nat_tests)) ]

-- ---- the last byte of the front

pub last_is : (a xs : List ℕ) (p c : ℕ) → a ≡ xs ++ c ∷ [] → p + 1 ≡ length a → byte a p ≡ c
last_is a xs p c is e =
    let long : length a ≡ length xs + 1 = ap length is ∙ length_push xs c in
    let here : length xs ≡ p = omega (arith, long, e) in
    ap (λ z. byte z p) is ∙ get_or_push xs c 0 p here

pub last_byte : (a : List ℕ) (p : ℕ) → EndsLine a → p + 1 ≡ length a
    → (byte a p ≡ 10) ⊎ (byte a p ≡ 13)
last_byte a p h2 e = grind (arith, nat_tests, last_is)

not_feed : (b c : ℕ) → (b ≡ 45) ⊎ (b ≡ 46) → (b == 10) ≡ false
not_feed b c h2 = grind (arith, nat_tests)

pub line_ended : (x y b c : ℕ) → (b ≡ 10) ⊎ (b ≡ 13) → (c == 10) ≡ false → ends_of x y b c ≡ true
unfolding ends_of
line_ended x y b c h4 h = grind (arith, nat_tests)

-- the rest begins at column 0
pub cut_column : (a b : List ℕ) → IsCut a b → column_at (a ++ b) (length a) ≡ 0
cut_column a b cut =
    elim (cases_lt 0 (length a)) [
      | inl some ↦
          let p = length a - 1 in
          let back : p + 1 ≡ length a = omega (arith, some) in
          let last = last_byte a p cut.line back in
          let same = byte_left a b p (omega (arith, back)) in
          let next : byte (a ++ b) (p + 1) ≡ byte b 0 = next_byte p back in
          let ended : ends_break (a ++ b) p ≡ true =
          line_ended (byte (a ++ b) (p - 2)) (byte (a ++ b) (p - 1)) (byte (a ++ b) p) (byte (a ++ b) (p + 1)) (moved_to same last) (ap (λ c. c == 10) next ∙ not_feed (byte b 0) 0 (first_mark b cut.mark)) in
          rw (← back) (column_end (a ++ b) p ended)
      | inr none ↦ let zero : length a ≡ 0 = omega (arith, none) in rw zero (sym (start_column (a ++ b)))
    ]
  where
    next_byte : (p : ℕ) → p + 1 ≡ length a → byte (a ++ b) (p + 1) ≡ byte b 0
    next_byte p back = let e : p + 1 ≡ length a + 0 = omega (arith, back) in rw e (byte_right a b 0)

    moved_to : {x y : ℕ} → x ≡ y → (y ≡ 10) ⊎ (y ≡ 13) → (x ≡ 10) ⊎ (x ≡ 13)
    moved_to e (inl z) = inl (e ∙ z)
    moved_to e (inr z) = inr (e ∙ z)

-- ---- the rest

no_early_end : (x y c v w : ℕ) (b : ℕ) → (b ≡ 45) ⊎ (b ≡ 46) → ends_of x y b c ≡ ends_of v w b c
unfolding ends_of
no_early_end x y c v w b h6 = grind (arith, nat_tests)

second_end : (x y b c v : ℕ) → (y ≡ 45) ⊎ (y ≡ 46) → ends_of x y b c ≡ ends_of v y b c
unfolding ends_of
second_end x y b c v h5 = grind (arith, nat_tests)

-- breaks after the first two bytes of a rest
pub far_ends : (a b : List ℕ) (p : ℕ)
    → ends_break (a ++ b) (length a + suc (suc p)) ≡ ends_break b (suc (suc p))
far_ends a b p = grind (arith, nat_tests, byte_right)

-- all breaks of the rest end where they end in the whole
pub rest_ends : (a b : List ℕ) → IsCut a b → (p : ℕ)
    → ends_break (a ++ b) (length a + p) ≡ ends_break b p
rest_ends a b cut zero =
    let here : byte (a ++ b) (length a + 0) ≡ byte b 0 = byte_right a b 0 in
    let e : length a + 0 + 1 ≡ length a + (0 + 1) = omega arith in
    let next : byte (a ++ b) (length a + 0 + 1) ≡ byte b (0 + 1) = rw e (byte_right a b (0 + 1)) in
    rw (here, next) (no_early_end (byte (a ++ b) (length a + 0 - 2)) (byte (a ++ b) (length a + 0 - 1)) (byte b (0 + 1)) (byte b (0 - 2)) (byte b (0 - 1)) (byte b 0) (first_mark b cut.mark))
rest_ends a b cut (suc zero) =
    let here : byte (a ++ b) (length a + 1) ≡ byte b 1 = byte_right a b 1 in
    let e : length a + 1 + 1 ≡ length a + (1 + 1) = omega arith in
    let next : byte (a ++ b) (length a + 1 + 1) ≡ byte b (1 + 1) = rw e (byte_right a b (1 + 1)) in
    let f : length a + 1 - 1 ≡ length a + 0 = omega arith in
    let before : byte (a ++ b) (length a + 1 - 1) ≡ byte b 0 = rw f (byte_right a b 0) in
    rw (here, next, before) (second_end (byte (a ++ b) (length a + 1 - 2)) (byte b 0) (byte b 1) (byte b (1 + 1)) (byte b (1 - 2)) (first_mark b cut.mark))
rest_ends a b cut (suc (suc p)) = far_ends a b p

-- the columns and lines of what is after, at every place, where its breaks end alike
pub columns_by : (a b : List ℕ) → column_at (a ++ b) (length a) ≡ 0
    → ((p : ℕ) → ends_break (a ++ b) (length a + p) ≡ ends_break b p) → (p : ℕ)
    → column_at (a ++ b) (length a + p) ≡ column_at b p
unfolding column_at
columns_by a b first ends zero = let e : length a + 0 ≡ length a = omega arith in rw e first
columns_by a b first ends (suc p) =
    let e : length a + suc p ≡ suc (length a + p) = omega arith in
    rw (e, ends p, byte_right a b p, columns_by a b first ends p) refl

pub lines_by : (a b : List ℕ) → ((p : ℕ) → ends_break (a ++ b) (length a + p) ≡ ends_break b p)
    → (p : ℕ) → line_at (a ++ b) (length a + p) ≡ line_at (a ++ b) (length a) + line_at b p
unfolding line_at
lines_by a b ends zero = let e : length a + 0 ≡ length a = omega arith in rw e (omega arith)
lines_by a b ends (suc p) =
    let e : length a + suc p ≡ suc (length a + p) = omega arith in
    rw (e, ends p, lines_by a b ends p) (omega arith)

-- the rest's columns and lines
pub rest_columns : (a b : List ℕ) → IsCut a b → (p : ℕ)
    → column_at (a ++ b) (length a + p) ≡ column_at b p
rest_columns a b cut p = columns_by a b (cut_column a b cut) (rest_ends a b cut) p

pub rest_lines : (a b : List ℕ) → IsCut a b → (p : ℕ)
    → line_at (a ++ b) (length a + p) ≡ line_at (a ++ b) (length a) + line_at b p
rest_lines a b cut p = lines_by a b (rest_ends a b cut) p

not_bom : (b c e : ℕ) → (b ≡ 45) ⊎ (b ≡ 46) → (b == 0xEF && (c == 0xBB && e == 0xBF)) ≡ false
not_bom b c e h3 = grind (arith, nat_tests)

-- U+FEFF counts at the beginning alone
pub bom_by : (a b : List ℕ)
    → (length a + 0 == 0 && is_bom (a ++ b) (length a + 0)) ≡ is_bom b 0 → (p : ℕ)
    → (length a + p == 0 && is_bom (a ++ b) (length a + p)) ≡ (p == 0 && is_bom b p)
bom_by a b h p = grind (arith, nat_tests, ne_eqb)

rest_bom : (a b : List ℕ) → IsCut a b
    → (length a + 0 == 0 && is_bom (a ++ b) (length a + 0)) ≡ is_bom b 0
rest_bom a b cut = grind (arith, nat_tests, first_mark, byte_right, not_bom)

-- What is after a column 0 is so in the whole, where its line ends and U+FEFF do.
pub behind_alike : (a b : List ℕ) → column_at (a ++ b) (length a) ≡ 0
    → ((p : ℕ) → ends_break (a ++ b) (length a + p) ≡ ends_break b p)
    → ((p : ℕ) → (length a + p == 0 && is_bom (a ++ b) (length a + p)) ≡ (p == 0 && is_bom b p))
    → Alike b (a ++ b) (length a) (suc (length b))
behind_alike a b column ends bom =
    record {
      bytes = λ p l. byte_right a b p;
      onward = λ p l on. let here = within b p (onward_some _ on) in omega (arith, here);
      edge = byte_past b (suc (length b)) (omega arith);
      stops = inl (byte_right a b (suc (length b)) ∙ byte_past b (suc (length b)) (omega arith));
      column = column;
      ends = λ p l. ends p;
      short = omega arith;
      long = omega (arith, length-append a b);
      covers = omega arith;
      bom = λ p l. bom p;
    }

-- The rest is in the whole.
pub rest_alike : (a b : List ℕ) → IsCut a b → Alike b (a ++ b) (length a) (suc (length b))
rest_alike a b cut = behind_alike a b (cut_column a b cut) (rest_ends a b cut) (bom_by a b (rest_bom a b cut))

-- ---- the front

front_byte : (a b : List ℕ) (p : ℕ) → p < length a → byte (a ++ b) (0 + p) ≡ byte a p
front_byte a b p l = let e : 0 + p ≡ p = omega arith in rw e (byte_left a b p l)

front_next : (a b : List ℕ) → IsCut a b → (p : ℕ) → p < length a
    → (byte (a ++ b) (p + 1) == 10) ≡ (byte a (p + 1) == 10)
front_next a b cut p l =
    elim (cases_lt (p + 1) (length a)) [
      | inl more ↦ rw (byte_left a b (p + 1) more) refl
      | inr past ↦
          let e : p + 1 ≡ length a + 0 = omega (arith, l, past) in
          let there : byte (a ++ b) (p + 1) ≡ byte b 0 = rw e (byte_right a b 0) in
          let none : byte a (p + 1) ≡ 0 = byte_past a (p + 1) past in
          rw (there, none) (not_feed (byte b 0) 0 (first_mark b cut.mark))
    ]

front_ends : (a b : List ℕ) → IsCut a b → (p : ℕ) → p < length a
    → ends_break (a ++ b) (0 + p) ≡ ends_break a p
front_ends a b cut p l =
    rw (zero-add p, byte_left a b p l, byte_left a b (p - 1) (omega (arith, l)), byte_left a b (p - 2) (omega (arith, l)))
    (unfold ends_of in rw (front_next a b cut p l) refl)

front_onward : (a b : List ℕ) → IsCut a b → (p : ℕ) → p < length a → is_onward (byte a p) ≡ true
    → p + 1 < length a
front_onward a b cut p l on = grind (arith, nat_tests, last_byte, true≢false, off_break)

wide_onward : (b n : ℕ) → (b == n) ≡ true → 100 < n → is_onward b ≡ true
unfolding is_onward
wide_onward b n h l = let e = eqb-true _ _ h in grind (arith, nat_tests)

front_bom : (a b : List ℕ) → IsCut a b → (p : ℕ) → p < length a
    → (0 + p == 0 && is_bom (a ++ b) (0 + p)) ≡ (p == 0 && is_bom a p)
front_bom a b cut p l =
    rw (zero-add p) (and_alike (p == 0) (p == 0) (is_bom (a ++ b) p) (is_bom a p) refl
    (λ z. and_alike _ _ _ _ (ap (λ c. c == 0xEF) (byte_left a b p l))
    (λ h. let more = front_onward a b cut p l (wide_onward (byte a p) 0xEF h (omega arith)) in
    and_alike _ _ _ _ (ap (λ c. c == 0xBB) (byte_left a b (p + 1) more))
    (λ i. let f : p + 1 + 1 ≡ p + 2 = omega arith in
    let most = front_onward a b cut (p + 1) more (wide_onward (byte a (p + 1)) 0xBB i (omega arith)) in
    ap (λ c. c == 0xBF) (byte_left a b (p + 2) (omega (arith, most)))))))

-- The front is in the whole.
pub front_alike : (a b : List ℕ) → IsCut a b → Alike a (a ++ b) 0 (length a)
front_alike a b cut =
    let rest = rest_alike a b cut in
    let at : is_document_indicator (a ++ b) (length a + 0) ≡ true = indicator_alike b (a ++ b) (length a) (suc (length b)) 0 rest (omega arith) ∙ cut.mark in
    let e : 0 + length a ≡ length a + 0 = omega arith in
    record {
      bytes = λ p l. front_byte a b p l;
      onward = λ p l on. front_onward a b cut p l on;
      edge = byte_past a (length a) (omega arith);
      stops = inr (rw e at);
      column = sym (start_column (a ++ b));
      ends = λ p l. front_ends a b cut p l;
      short = omega arith;
      long = omega (arith, length-append a b);
      covers = omega arith;
      bom = λ p l. front_bom a b cut p l;
    }

-- where the rest ends, the whole ends
pub rest_end : (a b : List ℕ) → byte (a ++ b) (length a + suc (length b)) ≡ 0
rest_end a b = byte_right a b (suc (length b)) ∙ byte_past b (suc (length b)) (omega arith)
