-- Layouts of at most that many bytes, whatever follows.
use Rattle.std.proofs.Common.{◌≡◌, ℕ, zero, suc, ◌+◌, ◌-◌, ◌*◌, ◌<◌, ◌≤◌, Bool, true, false, ◌&&◌, nat_lt, List, [], ◌∷◌, length, refl, arith, length-append, inl, inr, le_refl, mul-suc, mul-le-mul_left, sub-le}
use Rattle.yaml_emit_laws.proofs.Shared.{cases_Bool, ltb-true, lt-ltb, and_parts, Cursor, Encoding, Utf8, LineBreak, Lf, Cr, CrLf, Item, letter, char_bytes, encode, Rest, Layout, ◌▹◌, stay, choose, when, char, letters, blank, blanks, break, new_line, is_white, gap, word, opener, must_break, indent_to, line, keep, order_mark, deep_if, checked, unit, text_bytes}

abbrev pub size : Encoding → List Item → ℕ
size x t = length (encode x t)

-- where what follows has at most m bytes wherever it begins, the whole has at most n more
abbrev pub AtMost : Encoding → ℕ → Layout → Type 0
AtMost x n a = (m : ℕ) (rest : Rest) → ((c : Cursor) → size x (rest c) ≤ m) → (c : Cursor) → size x (a c rest) ≤ n + m

pub joined : (x : Encoding) (k l n : ℕ) (a b : Layout) → AtMost x k a → AtMost x l b → k + l ≤ n
    → AtMost x n (a ▹ b)
joined x k l n a b f g w m rest h c =
    let i : size x (a c (λ d. b d rest)) ≤ k + (l + m) = f (l + m) (λ d. b d rest) (λ d. g m rest h d) c in
    omega arith

pub widened : (x : Encoding) (k n : ℕ) (a : Layout) → AtMost x k a → k ≤ n → AtMost x n a
widened x k n a f w m rest h c = let i : size x (a c rest) ≤ k + m = f m rest h c in omega arith

pub stay_most : (x : Encoding) (n : ℕ) → AtMost x n stay
stay_most x n m rest h c = let i : size x (rest c) ≤ m = h c in omega arith

pub when_most : (x : Encoding) (n : ℕ) (b : Bool) (a : Layout) → AtMost x n a
    → AtMost x n (when b a)
when_most x n true a f = f
when_most x n false a f = stay_most x n

pub choose_most : (x : Encoding) (n : ℕ) (test : Cursor → Bool) (a b : Layout) → AtMost x n a
    → AtMost x n b → AtMost x n (choose test a b)
choose_most x n test a b f g m rest h c =
    elim (cases_Bool (test c)) [
      | inl e ↦ rw e (f m rest h c)
      | inr e ↦ rw e (g m rest h c)
    ]

pub keep_most : (x : Encoding) (n : ℕ) (b : Bool) → AtMost x n (keep b)
keep_most x n b m rest h c = let i : size x (rest (record { column = c.column; white = c.white; bare = c.bare; kept = b })) ≤ m = h _ in omega arith

-- a letter, and what follows it
pub put_most : (x : Encoding) (i n m : ℕ) (t : List Item) → length (char_bytes x i) ≤ n
    → size x t ≤ m → size x (letter i ∷ t) ≤ n + m
unfolding encode
put_most x i n m t w h = omega (arith, length-append (char_bytes x i) (encode x t))

pub char_most : (x : Encoding) (i n : ℕ) → length (char_bytes x i) ≤ n → AtMost x n (char i)
char_most x i n w m rest h c = put_most x i n m (rest _) w (h _)

pub break_most : (x : Encoding) (i n : ℕ) → length (char_bytes x i) ≤ n → AtMost x n (break i)
break_most x i n w m rest h c = put_most x i n m (rest _) w (h _)

pub letters_most : (x : Encoding) (t : List ℕ) → AtMost x (text_bytes x t) (letters t)
unfolding letters text_bytes
letters_most x [] = stay_most x 0
letters_most x (i ∷ t) =
    joined x (length (char_bytes x i)) (text_bytes x t) (length (char_bytes x i) + text_bytes x t) (char i) (letters t) (char_most x i (length (char_bytes x i)) (le_refl _)) (letters_most x t) (le_refl _)

-- ---- ASCII

pub unit_size : (x : Encoding) (i : ℕ) → nat_lt i 128 ≡ true → length (char_bytes x i) ≤ unit x
unfolding char_bytes
unit_size Utf8 i e = rw e (le_refl _)
unit_size _ i e = let less : i < 128 = ltb-true i 128 e in let w : nat_lt i 0x1_0000 ≡ true = lt-ltb i 0x1_0000 (omega arith) in rw w (le_refl _)

pub ascii_most : (x : Encoding) (i : ℕ) → nat_lt i 128 ≡ true → AtMost x (unit x) (char i)
ascii_most x i e = char_most x i (unit x) (unit_size x i e)

abbrev pub all_ascii : List ℕ → Bool
all_ascii [] = true
all_ascii (i ∷ t) = nat_lt i 128 && all_ascii t

-- A text of ASCII takes one unit of its encoding a character.
pub ascii_bytes : (x : Encoding) (t : List ℕ) → all_ascii t ≡ true
    → text_bytes x t ≤ unit x * length t
unfolding text_bytes
ascii_bytes x [] e = omega arith
ascii_bytes x (i ∷ t) e =
    let s = and_parts (nat_lt i 128) (all_ascii t) e in
    let j : length (char_bytes x i) ≤ unit x = unit_size x i s.0 in
    let k : text_bytes x t ≤ unit x * length t = ascii_bytes x t s.1 in
    omega (arith, mul-suc (unit x) (length t))

blank_most : (x : Encoding) → AtMost x (unit x) blank
blank_most x m rest h c = put_most x 32 (unit x) m (rest _) (unit_size x 32 refl) (h _)

pub blanks_most : (x : Encoding) (n : ℕ) → AtMost x (unit x * n) (blanks n)
unfolding blanks
blanks_most x zero = stay_most x (unit x * zero)
blanks_most x (suc n) = joined x (unit x) (unit x * n) (unit x * suc n) blank (blanks n) (blank_most x) (blanks_most x n) (omega (arith, mul-suc (unit x) n))

pub gap_most : (x : Encoding) → AtMost x (unit x) gap
gap_most x = choose_most x (unit x) is_white stay blank (stay_most x (unit x)) (blank_most x)

-- a word, by its bytes, and one of ASCII
pub word_most : (x : Encoding) (t : List ℕ) → AtMost x (unit x + text_bytes x t) (word t)
word_most x t = joined x (unit x) (text_bytes x t) (unit x + text_bytes x t) gap (letters t) (gap_most x) (letters_most x t) (le_refl _)

pub ascii_word_most : (x : Encoding) (t : List ℕ) (n : ℕ) → all_ascii t ≡ true
    → unit x + unit x * length t ≤ n → AtMost x n (word t)
ascii_word_most x t n e w = widened x (unit x + text_bytes x t) n (word t) (word_most x t) (let j : text_bytes x t ≤ unit x * length t = ascii_bytes x t e in omega arith)

pub opener_most : (x : Encoding) (i : ℕ) → nat_lt i 128 ≡ true → AtMost x (unit x * 2) (opener i)
opener_most x i e = grind (arith, joined, gap_most, put_most, unit_size)

pub new_line_most : (x : Encoding) (b : LineBreak) → AtMost x (unit x * 2) (new_line b)
new_line_most x Lf = widened x (unit x) (unit x * 2) (break 10) (break_most x 10 (unit x) (unit_size x 10 refl)) (omega arith)
new_line_most x Cr = widened x (unit x) (unit x * 2) (break 13) (break_most x 13 (unit x) (unit_size x 13 refl)) (omega arith)
new_line_most x CrLf = joined x (unit x) (unit x) (unit x * 2) (char 13) (break 10) (ascii_most x 13 refl) (break_most x 10 (unit x) (unit_size x 10 refl)) (omega arith)

indent_most : (x : Encoding) (n : ℕ) → AtMost x (unit x * n) (indent_to n)
indent_most x n m rest h c =
    let i : size x (blanks (n - c.column) c rest) ≤ unit x * (n - c.column) + m = blanks_most x (n - c.column) m rest h c in
    let j : unit x * (n - c.column) ≤ unit x * n = mul-le-mul_left (unit x) (sub-le n c.column) in
    omega arith

pub line_most : (x : Encoding) (b : LineBreak) (n : ℕ) → AtMost x (unit x * (n + 2)) (line b n)
unfolding line
line_most x b n =
    joined x (unit x * 2) (unit x * n) (unit x * (n + 2)) (choose (must_break n) (new_line b) stay) (indent_to n)
    (choose_most x (unit x * 2) (must_break n) (new_line b) stay (new_line_most x b) (stay_most x (unit x * 2))) (indent_most x n) (omega arith)

pub mark_most : (x : Encoding) → AtMost x (unit x) (order_mark x)
unfolding char_bytes
mark_most Utf8 m rest h c = stay_most Utf8 1 m rest h c
mark_most e m rest h c = put_most e 0xFEFF 2 m (rest c) (le_refl _) (h c)

-- a mark for columns takes no byte
marked_size : (x : Encoding) (d : Bool) (t : List Item) → size x (deep_if d t) ≤ size x t
unfolding encode
marked_size x true t = (le_refl _)
marked_size x false t = (le_refl _)

pub checked_most : (x : Encoding) (n k : ℕ) → AtMost x n (checked k)
checked_most x n k m rest h c = grind (arith, marked_size)
