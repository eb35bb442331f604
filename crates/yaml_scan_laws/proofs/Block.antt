-- The value of a block scalar is UTF-8, and the text may be cut after it.
use Rattle.std.proofs.Common.{◌≡◌, ℕ, zero, suc, ◌+◌, ◌-◌, ◌≤◌, ◌==◌, ◌&&◌, ◌||◌, not, nat_lt, Bool, false, List, [], ◌∷◌, length, Result, Ok, Err, true≢false, inl, inr, arith, IsUtf8}
use Rattle.yaml_scan_laws.proofs.TextWords.{nat_tests, cases_Bool, cases_lt, ltb-true, eqb-true, IsUtf8-nil, IsUtf8-append, byte, break_width, column_at, feed_at, is_feed, Wrong, BlockText, block_with, block_lines, block_behind, block_at}
use Rattle.yaml_scan_history.specs.scan_model.Runs.{past, is_text, line_end}
use Rattle.yaml_scan_history.specs.Value.{BlockLine, Empty, Words, TextLine, Texts, add_line, texts_of, starts_blank, space_or, between, at_end, behind_text, value_with, block_value}
use Rattle.yaml_scan_history.specs.Lines.{spaces, LineSpot, Stops, Line, Tab, spot_behind, line_spot, Lines, with_line, line_then, lines_from}
use Rattle.yaml_scan_history.specs.Header.{HeaderText, chomp_of, header_at}
use Rattle.yaml_scan_laws.proofs.Whole.{IsWhole, whole_past, whole_ascii, whole_after, whole_before, whole_behind, ascii_utf8, break_utf8, slice_utf8}

-- Values.

abbrev IsLine : BlockLine → Type 0
IsLine (Empty b) = IsUtf8 b
IsLine (Words words feed) = IsUtf8 words × IsUtf8 feed

abbrev AreLines : List BlockLine → Type 0
AreLines [] = Unit {0}
AreLines (l ∷ ls) = IsLine l × AreLines ls

abbrev AreTexts : List TextLine → Type 0
AreTexts [] = Unit {0}
AreTexts (l ∷ ls) = (IsUtf8 l.words × IsUtf8 l.feed × IsUtf8 l.empties) × AreTexts ls

record Sound (g : Texts) : Type 0 where
  pub lead : IsUtf8 g.lead
  pub lines : AreTexts g.lines

add_sound : (l : BlockLine) (g : Texts) → IsLine l → Sound g → Sound (add_line l g)
add_sound (Empty b) g a s = record { lead = IsUtf8-append b g.lead a s.lead; lines = s.lines }
add_sound (Words words feed) g (a, b) s = record { lead = IsUtf8-nil; lines = ((a, b, s.lead), s.lines) }

texts_sound : (ls : List BlockLine) → AreLines ls → Sound (texts_of ls)
texts_sound [] h = record { lead = IsUtf8-nil; lines = tt }
texts_sound (l ∷ ls) (a, h) = add_sound l (texts_of ls) a (texts_sound ls h)

space_utf8 : (xs : List ℕ) → IsUtf8 xs → IsUtf8 (space_or xs)
space_utf8 [] h = ascii_utf8 32 (omega arith)
space_utf8 (x ∷ xs) h = h

between_utf8 : (folded bare : Bool) (feed empties : List ℕ) → IsUtf8 feed → IsUtf8 empties
    → IsUtf8 (between folded bare feed empties)
unfolding between
between_utf8 folded bare feed empties a b =
    elim (cases_Bool (folded && (bare && is_feed feed))) [
      | inl e ↦ rw e (space_utf8 empties b)
      | inr e ↦ rw e (IsUtf8-append feed empties a b)
    ]

-- by the byte that says what happens to the last breaks
at_end_utf8 : (b : ℕ) (feed empties : List ℕ) → IsUtf8 feed → IsUtf8 empties
    → IsUtf8 (at_end (chomp_of b) feed empties)
unfolding chomp_of
at_end_utf8 b feed empties f e =
    elim (cases_Bool (b == 43)) [
      | inl h ↦ rw h (IsUtf8-append feed empties f e)
      | inr h ↦ elim (cases_Bool (b == 45)) [
        | inl i ↦ rw (h, i) IsUtf8-nil
        | inr i ↦ rw (h, i) f
      ]
    ]

behind_utf8 : (folded : Bool) (b : ℕ) (blank : Bool) (feed empties : List ℕ) (ls : List TextLine)
    → IsUtf8 feed → IsUtf8 empties → AreTexts ls
    → IsUtf8 (behind_text folded (chomp_of b) blank feed empties ls)
behind_utf8 folded b blank feed empties [] f e h = at_end_utf8 b feed empties f e
behind_utf8 folded b blank feed empties (l ∷ ls) f e ((w, g, k), h) =
    IsUtf8-append _ _ (between_utf8 folded (not blank && not (starts_blank l.words)) feed empties f e)
    (IsUtf8-append _ _ w (behind_utf8 folded b (starts_blank l.words) l.feed l.empties ls g k h))

with_utf8 : (folded : Bool) (b : ℕ) (lead : List ℕ) (ls : List TextLine) → IsUtf8 lead → AreTexts ls
    → IsUtf8 (value_with folded (chomp_of b) lead ls)
with_utf8 folded b lead [] a h = at_end_utf8 b [] lead IsUtf8-nil a
with_utf8 folded b lead (l ∷ ls) a ((w, g, k), h) =
    IsUtf8-append _ _ a (IsUtf8-append _ _ w (behind_utf8 folded b (starts_blank l.words) l.feed l.empties ls g k h))

block_value_utf8 : (folded : Bool) (b : ℕ) (ls : List BlockLine) → AreLines ls
    → IsUtf8 (block_value folded (chomp_of b) ls)
block_value_utf8 folded b ls h = let s = texts_sound ls h in with_utf8 folded b (texts_of ls).lead (texts_of ls).lines s.lead s.lines

-- Places.

-- at the end or before a break
stop_whole : (text : List ℕ) (p : ℕ) → IsUtf8 text → is_text text p ≡ false → IsWhole text p
stop_whole text p t h = grind (arith, nat_tests, cases_Bool, eqb-true, whole_ascii, whole_before, ltb-true, true≢false)

-- at the end of a line's text
pub past_whole : (n : ℕ) (text : List ℕ) (p : ℕ) → IsUtf8 text → length text ≤ p + n
    → IsWhole text (past is_text n text p)
unfolding past
past_whole zero text p t l = whole_past text p (omega (arith, l))
past_whole (suc n) text p t l =
    elim (cases_Bool (is_text text p)) [
      | inl e ↦ rw e (past_whole n text (p + 1) t (omega (arith, l)))
      | inr e ↦ rw e (stop_whole text p t e)
    ]

-- after a break, or where none is
pub step_whole : (text : List ℕ) (p : ℕ) → IsUtf8 text → IsWhole text p
    → IsWhole text (p + break_width text p)
step_whole text p t w =
    elim (cases_lt 0 (break_width text p)) [
      | inl some ↦ whole_behind text p t some
      | inr none ↦ let e : p + break_width text p ≡ p = omega (arith, none) in rw e w
    ]

abbrev HasHeader : List ℕ → Result HeaderText Wrong → Type 0
HasHeader text (Ok h) = IsWhole text h.place × ((b : ℕ) × (h.chomp ≡ chomp_of b))
HasHeader text (Err w) = Unit {0}

header_whole : (text : List ℕ) (p : ℕ) → IsUtf8 text → HasHeader text (header_at text p)
unfolding header_at
header_whole text p t = grind (arith, nat_tests, cases_Bool, step_whole, stop_whole)

spaces_whole : (n : ℕ) (text : List ℕ) (p : ℕ) → IsUtf8 text → IsWhole text p
    → IsWhole text (p + spaces n text p)
unfolding spaces
spaces_whole zero text p t w = let e : p + 0 ≡ p = omega arith in rw e w
spaces_whole (suc n) text p t w =
    elim (cases_Bool (byte text p == 32)) [
      | inl h ↦
          let b : byte text p ≡ 32 = eqb-true _ _ h in
          let e : p + 1 + spaces n text (p + 1) ≡ p + suc (spaces n text (p + 1)) = omega arith in
          rw h (rw e at (spaces_whole n text (p + 1) t (whole_after text p t (omega (arith, b)))))
      | inr h ↦ let e : p + 0 ≡ p = omega arith in rw h (rw e w)
    ]

abbrev Fits : List ℕ → LineSpot → Type 0
Fits text (Stops q) = IsWhole text q
Fits text (Line l q) = IsLine l × IsWhole text q
Fits text (Tab q) = Unit {0}

feed_utf8 : (text : List ℕ) (p : ℕ) → IsUtf8 text → IsUtf8 (feed_at text p)
feed_utf8 text p t =
    elim (cases_Bool (nat_lt 0 (break_width text p))) [
      | inl e ↦ rw e (break_utf8 text p t)
      | inr e ↦ rw e IsUtf8-nil
    ]

spot_fits : (c : ℕ) (text : List ℕ) (q : ℕ) → IsUtf8 text → IsWhole text q
    → Fits text (spot_behind c text q)
unfolding spot_behind
spot_fits c text q t w =
    elim (cases_Bool (byte text q == 9 && nat_lt (column_at text q) c)) [
      | inl h ↦ rw h tt
      | inr h ↦ elim (cases_Bool (nat_lt 0 (break_width text q))) [
        | inl i ↦ rw (h, i) (break_utf8 text q t, whole_behind text q t (ltb-true _ _ i))
        | inr i ↦ elim (cases_Bool (byte text q == 0 || not (column_at text q == c))) [
          | inl j ↦ rw (h, i, j) w
          | inr j ↦
              let end = past_whole (length text) text q t (omega arith) in
              rw (h, i, j) ((slice_utf8 text q (line_end text q) t w end, feed_utf8 text (line_end text q) t), step_whole text (line_end text q) t end)
        ]
      ]
    ]

record AreRead (text : List ℕ) (ls : Lines) : Type 0 where
  pub lines : AreLines ls.lines
  pub place : IsWhole text ls.place

abbrev Good : List ℕ → Result Lines Wrong → Type 0
Good text (Ok ls) = AreRead text ls
Good text (Err w) = Unit {0}

line_good : (text : List ℕ) (l : BlockLine) (r : Result Lines Wrong) → IsLine l → Good text r
    → Good text (with_line l r)
line_good text l r a h = grind (arith, nat_tests)

then_good : (more : ℕ → Result Lines Wrong) (text : List ℕ) (end : ℕ) (s : LineSpot)
    → ((q : ℕ) → IsWhole text q → Good text (more q)) → Fits text s
    → Good text (line_then more end s)
then_good more text end s rest f = grind (arith, nat_tests, line_good)

lines_good : (n c : ℕ) (text : List ℕ) → IsUtf8 text → (end p : ℕ) → IsWhole text p
    → Good text (lines_from n c text end p)
unfolding lines_from
lines_good zero c text t end p w = tt
lines_good (suc n) c text t end p w =
    then_good (λ q. lines_from n c text q q) text end (line_spot c text p) (λ q v. lines_good n c text t q q v)
    (spot_fits c text (p + spaces (c - column_at text p) text p) t (spaces_whole (c - column_at text p) text p t w))

pub record IsBlock (text : List ℕ) (x : BlockText) : Type 0 where
  pub value : IsUtf8 x.value
  pub place : IsWhole text x.place

abbrev pub HasBlock : List ℕ → Result BlockText Wrong → Type 0
HasBlock text (Ok x) = IsBlock text x
HasBlock text (Err w) = Unit {0}

with_good : (f : List BlockLine → List ℕ) (text : List ℕ) (r : Result Lines Wrong)
    → ((ls : List BlockLine) → AreLines ls → IsUtf8 (f ls)) → Good text r
    → HasBlock text (block_with f r)
with_good f text r u h = grind (arith, nat_tests)

block_lines_good : (folded : Bool) (text : List ℕ) (h : HeaderText) (r : Result ℕ Wrong) (b : ℕ)
    → h.chomp ≡ chomp_of b → IsUtf8 text → IsWhole text h.place
    → HasBlock text (block_lines folded text h r)
block_lines_good folded text h (Ok c) b e t w =
    with_good (block_value folded h.chomp) text (lines_from (suc (length text)) c text h.place h.place) (λ ls a. rw e (block_value_utf8 folded b ls a))
    (lines_good (suc (length text)) c text t h.place h.place w)
block_lines_good folded text h (Err w) b e t f = tt

behind_good : (folded : Bool) (level : ℕ) (text : List ℕ) (r : Result HeaderText Wrong)
    → IsUtf8 text → HasHeader text r → HasBlock text (block_behind folded level text r)
behind_good folded level text r t f = grind (arith, nat_tests, block_lines_good)

pub block_utf8 : (level : ℕ) (text : List ℕ) (p : ℕ) → IsUtf8 text
    → HasBlock text (block_at level text p)
block_utf8 level text p t = behind_good (byte text p == 62) level text (header_at text (p + 1)) t (header_whole text (p + 1) t)
