-- Places in a line.
use Rattle.std.proofs.Common.{◌≡◌, ℕ, zero, suc, ◌+◌, ◌-◌, ◌<◌, ◌≤◌, Bool, true, false, List, length, refl, sym, ◌∙◌, inl, inr, arith, add-one}
use Rattle.yaml_scan_text.proofs.Words.{nat_tests, cases_Bool, ne_eqb, byte, break_width, column_at, column_more, column_same, ends_break, end_next, is_blank, is_document_indicator, splits_break, split_next, starts, within, leads, leads-blank, lead_text, IsWord, InLine, blank_parts, last_of, line_start, no_end-blank, cases_lt, past}

-- a place in a line, maybe after blanks
pub record InRow (text : List ℕ) (p : ℕ) : Type 0 where
  pub inside : p ≤ length text
  pub whole : splits_break text p ≡ false
  pub column : 0 < column_at text p
  pub calm : leads text p ≡ false

pub row_of : (text : List ℕ) (p : ℕ) → InLine text p → InRow text p
row_of text p l = record { inside = l.inside; whole = l.whole; column = l.column; calm = l.calm }

-- a column that isn't the first stays so
pub column_on : (text : List ℕ) (p : ℕ) → 0 < column_at text p → ends_break text p ≡ false
    → 0 < column_at text (p + 1)
column_on text p h e = elim (cases_Bool (starts (byte text p))) [
  | inl s ↦ let more = column_more text p e s in omega arith
  | inr n ↦ let same = column_same text p e n in omega arith
]

pub word_line : (text : List ℕ) (p : ℕ) → IsWord text p → InLine text (p + 1)
word_line text p w =
    let e = end_next text p w.whole w.none in
    let lead = lead_text text p w.blank e in
    let more = column_more text p e w.starts in
    record {
      inside = omega (arith, w.inside);
      whole = split_next text p w.whole w.none;
      column = omega arith;
      calm = sym lead.0;
      dark = sym lead.1;
    }

-- after a character in a line
pub row_char : (text : List ℕ) (p : ℕ) → InRow text p → 0 < byte text p
    → is_blank (byte text p) ≡ false
    → break_width text p ≡ 0 → InLine text (p + 1)
row_char text p r some blank none =
    let e = end_next text p r.whole none in
    let lead = lead_text text p blank e in
    let inside = within text p some in
    record {
      inside = omega arith;
      whole = split_next text p r.whole none;
      column = column_on text p r.column e;
      calm = sym lead.0;
      dark = sym lead.1;
    }

-- after a blank in a line
pub row_blank : (text : List ℕ) (p : ℕ) → InRow text p → is_blank (byte text p) ≡ true
    → InRow text (p + 1)
row_blank text p r blank =
    let parts = blank_parts (byte text p) (byte text (p + 1)) (byte text (p + 2)) blank in
    let e = end_next text p r.whole parts.1 in
    let inside = within text p parts.0 in
    record {
      inside = omega arith;
      whole = split_next text p r.whole parts.1;
      column = column_on text p r.column e;
      calm = leads-blank text p blank ∙ r.calm;
    }

-- no document's mark is in a line
pub no_mark : (text : List ℕ) (p : ℕ) → 0 < column_at text p → is_document_indicator text p ≡ false
unfolding is_document_indicator
no_mark text p h = rw (ne_eqb (column_at text p) 0 (omega arith)) refl

-- ---- where a line starts

pub line_on : (text : List ℕ) (p : ℕ) → ends_break text p ≡ false
    → line_start text (p + 1) ≡ line_start text p
unfolding line_start
line_on text p e = rw (add-one, e) refl

pub line_behind : (text : List ℕ) (p : ℕ) → ends_break text p ≡ true
    → line_start text (p + 1) ≡ p + 1
unfolding line_start
line_behind text p e = rw (add-one, e) refl

line_over : (d : ℕ) (text : List ℕ) (p : ℕ)
    → ((k : ℕ) → p ≤ k → k < p + d → ends_break text k ≡ false)
    → line_start text (p + d) ≡ line_start text p
line_over zero text p each = let z : p + 0 ≡ p = omega arith in rw z refl
line_over (suc d) text p each =
    let e : p + suc d ≡ p + d + 1 = omega arith in
    rw e (line_on text (p + d) (each (p + d) (omega arith) (omega arith)) ∙ line_over d text p (λ k a b. each k a (omega arith)))

-- where no break ends the line stays the same
pub line_same : (text : List ℕ) (p q : ℕ) → p ≤ q
    → ((k : ℕ) → p ≤ k → k < q → ends_break text k ≡ false)
    → line_start text q ≡ line_start text p
line_same text p q l each =
    let e : p + (q - p) ≡ q = omega arith in
    rw e at (line_over (q - p) text p (λ k a b. each k a (rw e at b)))

-- a blank ends no break
pub blank_ends_none : (text : List ℕ) (p : ℕ) → is_blank (byte text p) ≡ true
    → ends_break text p ≡ false
blank_ends_none text p h = no_end-blank _ _ _ _ h

pub blank_starts : (b : ℕ) → is_blank b ≡ true → starts b ≡ true
blank_starts b h = grind (arith, nat_tests)

-- after a break a line starts
pub line_next : (text : List ℕ) (p w : ℕ) → w ≡ break_width text p → 0 < w
    → p + w ≡ line_start text (p + break_width text p)
line_next text p w e h =
    let some : 0 < break_width text p = rw e at h in
    let last = last_of text p some in
    rw (e, last.next) (sym (line_behind text last.byte_at last.ends))

-- ---- places between which there is no break

pub record IsUnbroken (text : List ℕ) (p q : ℕ) : Type 0 where
  pub whole : splits_break text q ≡ false
  pub ends : (k : ℕ) → p ≤ k → k < q → ends_break text k ≡ false

unbroken_over : (d : ℕ) (text : List ℕ) (p : ℕ) → splits_break text p ≡ false
    → ((k : ℕ) → p ≤ k → k < p + d → break_width text k ≡ 0) → IsUnbroken text p (p + d)
unbroken_over zero text p whole each =
    let z : p + 0 ≡ p = omega arith in
    rw z (record { whole = whole; ends = λ k a b. absurd (omega arith) })
unbroken_over (suc d) text p whole each =
    let e : p + suc d ≡ p + d + 1 = omega arith in
    let before = unbroken_over d text p whole (λ k a b. each k a (omega arith)) in
    let none = each (p + d) (omega arith) (omega arith) in
    let end = end_next text (p + d) before.whole none in
    rw e (record {
      whole = split_next text (p + d) before.whole none;
      ends = λ k a b. elim (cases_lt k (p + d)) [ inl l ↦ before.ends k a l | inr l ↦ let s : k ≡ p + d = omega arith in rw s end ];
    })

pub unbroken : (text : List ℕ) (p q : ℕ) → p ≤ q → splits_break text p ≡ false
    → ((k : ℕ) → p ≤ k → k < q → break_width text k ≡ 0) → IsUnbroken text p q
unbroken text p q l whole each =
    let e : p + (q - p) ≡ q = omega arith in
    rw e at (unbroken_over (q - p) text p whole (λ k a b. each k a (rw e at b)))

pub unbroken_line : (text : List ℕ) (p q : ℕ) → p ≤ q → IsUnbroken text p q
    → line_start text q ≡ line_start text p
unbroken_line text p q l u = line_same text p q l u.ends

-- what a run passes is of its kind
pub past_each : (kind : List ℕ → ℕ → Bool) (n : ℕ) (text : List ℕ) (p k : ℕ) → p ≤ k
    → k < past kind n text p → kind text k ≡ true
unfolding past
past_each kind zero text p k a b = absurd (omega arith)
past_each kind (suc n) text p k a b = elim (cases_Bool (kind text p)) [
  | inl h ↦ elim (cases_lt p k) [
    | inl l ↦ past_each kind n text (p + 1) k (omega arith) (rw h at b)
    | inr l ↦ let e : k ≡ p = omega arith in rw e h
  ]
  | inr h ↦ absurd (let c : k < p = rw h at b in omega arith)
]

pub line_start-le : (text : List ℕ) (p : ℕ) → line_start text p ≤ p
unfolding line_start
line_start-le text zero = omega arith
line_start-le text (suc p) = elim (cases_Bool (ends_break text p)) [
  | inl e ↦ rw e (omega arith)
  | inr n ↦ rw n (omega (arith, line_start-le text p))
]

-- where a run ends there is nothing of its kind
pub past_stops : (kind : List ℕ → ℕ → Bool) (n : ℕ) (text : List ℕ) (p : ℕ)
    → ((q : ℕ) → kind text q ≡ true → 0 < byte text q)
    → length text ≤ p + n → kind text (past kind n text p) ≡ false
unfolding past
past_stops kind zero text p some room = elim (cases_Bool (kind text p)) [
  | inl h ↦ absurd (let here = within text p (some p h) in omega arith)
  | inr h ↦ h
]
past_stops kind (suc n) text p some room = elim (cases_Bool (kind text p)) [
  | inl h ↦ rw h (past_stops kind n text (p + 1) some (omega arith))
  | inr h ↦ rw h h
]
