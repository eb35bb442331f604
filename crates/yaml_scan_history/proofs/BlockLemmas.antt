-- Block scalars' lines, a step at a time.
use Rattle.std.proofs.Common.{◌≡◌, ◌≢◌, ℕ, zero, suc, ◌+◌, ◌-◌, ◌<◌, ◌≤◌, ◌==◌, nat_lt, ◌&&◌, ◌||◌, true, false, not, List, refl, ap, ◌∙◌, arith}
use Rattle.std.specs.Prelude.{slice_range}
use Rattle.yaml_scan_history.proofs.BlockWords.{nat_tests, lt-ltb, byte, break_width, column_at, break_value, feed_at, is_text, line_end, column_more, no_end-blank, past_some, Empty, Words, spaces, spot_behind, Stops, Line, Tab}

-- A space moves the column on by one.
pub space_column : (text : List ℕ) (p : ℕ) → byte text p ≡ 32
    → column_at text (p + 1) ≡ column_at text p + 1
space_column text p h = column_more text p (no_end-blank _ _ _ _ (rw h refl)) (rw h refl)

spaces_more : (n : ℕ) (text : List ℕ) (p : ℕ) → byte text p ≡ 32
    → spaces (suc n) text p ≡ suc (spaces n text (p + 1))
unfolding spaces
spaces_more n text p h = rw h refl

-- As many spaces as are there and are asked for are passed.
pub spaces_run : (n left : ℕ) (text : List ℕ) (p : ℕ) → n ≤ left
    → ((k : ℕ) → p ≤ k → k < p + n → byte text k ≡ 32)
    → spaces left text p ≡ n + spaces (left - n) text (p + n)
spaces_run zero left text p few each =
    let a : left - 0 ≡ left = omega arith in
    let z : p + 0 ≡ p = omega arith in
    rw (a, z) (omega arith)
spaces_run (suc n) left text p few each =
    let d : left ≡ suc (left - 1) = omega (arith, few) in
    let behind = spaces_run n (left - 1) text (p + 1) (omega (arith, few)) (λ k after before. each k (omega (arith, after)) (omega (arith, before))) in
    let q : p + 1 + n ≡ p + suc n = omega arith in
    let r : left - 1 - n ≡ left - suc n = omega arith in
    let rest = rw (q, r) at behind in
    let more = spaces_more (left - 1) text p (each p (omega arith) (omega arith)) in
    ap (λ (l : ℕ). spaces l text p) d ∙ (more ∙ omega (arith, rest))

pub spaces_other : (n : ℕ) (text : List ℕ) (p : ℕ) → byte text p ≢ 32 → spaces n text p ≡ 0
unfolding spaces
spaces_other zero text p h = refl
spaces_other (suc n) text p h = let f : (byte text p == 32) ≡ false = grind (arith, nat_tests) in rw f refl

pub spaces_none : (text : List ℕ) (p : ℕ) → spaces 0 text p ≡ 0
unfolding spaces
spaces_none text p = refl

pub tab_spot : (c : ℕ) (text : List ℕ) (q : ℕ)
    → (byte text q == 9 && nat_lt (column_at text q) c) ≡ true → spot_behind c text q ≡ Tab q
unfolding spot_behind
tab_spot c text q t = rw t refl

-- A line of a block scalar that has a break after its indentation is empty.
pub empty_spot : (c : ℕ) (text : List ℕ) (q : ℕ)
    → (byte text q == 9 && nat_lt (column_at text q) c) ≡ false → 0 < break_width text q
    → spot_behind c text q ≡ Line (Empty (break_value text q)) (q + break_width text q)
unfolding spot_behind
empty_spot c text q t h = rw (t, lt-ltb 0 (break_width text q) h) refl

-- A block scalar stops at the text's end, and at text in another column.
pub end_spot : (c : ℕ) (text : List ℕ) (q : ℕ)
    → (byte text q == 9 && nat_lt (column_at text q) c) ≡ false → break_width text q ≡ 0
    → (byte text q == 0 || not (column_at text q == c)) ≡ true → spot_behind c text q ≡ Stops q
unfolding spot_behind
end_spot c text q t z h = rw (t, z, h) refl

-- Text in the scalar's column is a line of it.
pub text_spot : (c : ℕ) (text : List ℕ) (q : ℕ)
    → (byte text q == 9 && nat_lt (column_at text q) c) ≡ false → break_width text q ≡ 0
    → (byte text q == 0 || not (column_at text q == c)) ≡ false
    → spot_behind c text q ≡ Line (Words (slice_range text q (line_end text q))
    (feed_at text (line_end text q))) (line_end text q + break_width text (line_end text q))
unfolding spot_behind
text_spot c text q t z h = rw (t, z, h) refl

pub stop_end : (b col c : ℕ) → b ≡ 0 → (b == 0 || not (col == c)) ≡ true
stop_end b col c h = grind (arith, nat_tests)

-- Text in another column stops a block scalar.
pub stop_short : (b col c : ℕ) → col ≢ c → (b == 0 || not (col == c)) ≡ true
stop_short b col c h = grind (arith, nat_tests)

-- Where text is in the scalar's column nothing stops it.
pub no_stop : (b col c : ℕ) → b ≢ 0 → col ≡ c → (b == 0 || not (col == c)) ≡ false
no_stop b col c h k = grind (arith, nat_tests)

text_test : (b w : ℕ) → b ≢ 0 → w ≡ 0 → not (b == 0 || nat_lt 0 w) ≡ true
text_test b w h k = grind (arith, nat_tests)

pub text_long : (text : List ℕ) (q : ℕ) → byte text q ≢ 0 → break_width text q ≡ 0
    → q < line_end text q
text_long text q h z = past_some is_text text q (text_test _ _ h z) (omega (arith, h))
