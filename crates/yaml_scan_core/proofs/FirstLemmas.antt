-- Which lexeme a byte begins.
use Rattle.std.proofs.Common.{◌≡◌, ℕ, ◌+◌, Bool, true, false, cond, eqb, ltb, ◌&&◌, ◌||◌, ◌⊎◌, not, inl, inr, List, [], ◌∷◌, Option, Some, None, refl, sym, ap, ◌∙◌, arith}
use Rattle.std.specs.Bool.{then_some}
use types.Run.{OneOf}
use Rattle.yaml_scan_core.proofs.Words.{is_some, cases_Bool, nat_tests, byte, column_at, is_blank_or_end, Kind, kind_at, indicator_of}
use Rattle.yaml_scan_model.specs.scan_types.Marks.{break_of, break_width}
use Rattle.yaml_scan_history.specs.Plain.{is_bracket, is_indicator_byte, starts_plain}
use Rattle.yaml_scan_history.specs.Indicators.{is_document_start, is_document_end}
use Rattle.yaml_scan_history.specs.declared.kind.Kind.TheVariants as reads
use Rattle.yaml_scan_text.specs.White.{is_thrice}
use Rattle.yaml_scan_core.proofs.SpotLemmas.{shown_kind}

-- a byte that shows a kind by itself
pub shows : (flow : Bool) (text : List ℕ) (p b n : ℕ) (k : Kind) → b ≡ byte text p → b ≡ n
    → indicator_of flow (is_blank_or_end text (p + 1)) n ≡ Some k → Some k ≡ kind_at flow text p
shows flow text p b n k e is shown =
    let here = ap (λ x. indicator_of flow (is_blank_or_end text (p + 1)) x) (sym e ∙ is) ∙ shown in
    sym here ∙ shown_kind flow text p (ap (λ (o : Option Kind). is_some o) here)

pub end_at : (flow : Bool) (text : List ℕ) (p : ℕ) → byte text p ≡ 0
    → kind_at flow text p ≡ Some reads.StreamEnd
unfolding kind_at
end_at flow text p e = rw e refl

-- ---- bytes that show one outside brackets alone

-- the byte is `|` or `>`
abbrev Opens : ℕ → Type 0
Opens b = (b ≡ 124) ⊎ (b ≡ 62)

inside_none : (alone : Bool) (b : ℕ) → Opens b → indicator_of true alone b ≡ None
unfolding indicator_of
inside_none alone b h = elim h [ inl e ↦ rw e refl | inr e ↦ rw e refl ]

inside_starts : (text : List ℕ) (p : ℕ) → Opens (byte text p) → starts_plain true text p ≡ false
unfolding starts_plain is_indicator_byte is_bracket break_of
inside_starts text p h = grind (arith, nat_tests, h)

inside_at : (text : List ℕ) (p : ℕ) → Opens (byte text p) → kind_at true text p ≡ None
unfolding kind_at is_document_start is_document_end
inside_at text p h = rw (inside_none (is_blank_or_end text (p + 1)) (byte text p) h, inside_starts text p h) (grind (arith, nat_tests, h))

pub bar_at : (flow : Bool) (text : List ℕ) (p : ℕ) → byte text p ≡ 124
    → kind_at flow text p ≡ then_some (not flow) reads.Literal
unfolding indicator_of
bar_at true text p e = inside_at text p (inl e)
bar_at false text p e = sym (shows false text p (byte text p) 124 reads.Literal refl e refl)

pub greater_at : (flow : Bool) (text : List ℕ) (p : ℕ) → byte text p ≡ 62
    → kind_at flow text p ≡ then_some (not flow) reads.Folded
unfolding indicator_of
greater_at true text p e = inside_at text p (inr e)
greater_at false text p e = sym (shows false text p (byte text p) 62 reads.Folded refl e refl)

-- ---- bytes that show none

-- a tab, a space, or one of `# @` and the grave accent
abbrev pub Shut : ℕ → Type 0
Shut b = OneOf (9 ∷ 32 ∷ 35 ∷ 64 ∷ 96 ∷ []) b

shut_none : (flow alone : Bool) (b : ℕ) → Shut b → indicator_of flow alone b ≡ None
unfolding indicator_of
shut_none flow alone b h = grind (arith, nat_tests, h)

shut_starts : (flow : Bool) (text : List ℕ) (p : ℕ) → Shut (byte text p)
    → starts_plain flow text p ≡ false
unfolding starts_plain is_indicator_byte is_bracket break_of
shut_starts true text p h = elim h [
  | inl e ↦ rw e refl
  | inr (inl e) ↦ rw e refl
  | inr (inr (inl e)) ↦ rw e refl
  | inr (inr (inr (inl e))) ↦ rw e refl
  | inr (inr (inr (inr e))) ↦ rw e refl
]
shut_starts false text p h = elim h [
  | inl e ↦ rw e refl
  | inr (inl e) ↦ rw e refl
  | inr (inr (inl e)) ↦ rw e refl
  | inr (inr (inr (inl e))) ↦ rw e refl
  | inr (inr (inr (inr e))) ↦ rw e refl
]

pub none_at : (flow : Bool) (text : List ℕ) (p : ℕ) → Shut (byte text p)
    → kind_at flow text p ≡ None
unfolding kind_at is_document_start is_document_end
none_at flow text p h = rw (shut_none flow (is_blank_or_end text (p + 1)) (byte text p) h, shut_starts flow text p h) (grind (arith, nat_tests, h))

percent_none : (flow alone : Bool) (b : ℕ) → b ≡ 37 → indicator_of flow alone b ≡ None
unfolding indicator_of
percent_none flow alone b e = rw e refl

percent_starts : (flow : Bool) (text : List ℕ) (p : ℕ) → byte text p ≡ 37
    → starts_plain flow text p ≡ false
unfolding starts_plain is_indicator_byte is_bracket break_of
percent_starts flow text p e = grind (arith, nat_tests, e)

pub percent_at : (flow : Bool) (text : List ℕ) (p : ℕ) → byte text p ≡ 37
    → kind_at flow text p ≡ then_some (eqb (column_at text p) 0) reads.Directive
unfolding kind_at is_document_start is_document_end
percent_at flow text p e = elim (cases_Bool (eqb (column_at text p) 0)) [
  | inl y ↦ rw (e, y) refl
  | inr n ↦ rw (percent_none flow (is_blank_or_end text (p + 1)) (byte text p) e, percent_starts flow text p e, n) (grind (arith, nat_tests, e))
]

-- ---- bytes that a plain scalar may begin with

-- a break may begin with it
abbrev pub Breaks : ℕ → Type 0
Breaks b = OneOf (10 ∷ 13 ∷ 194 ∷ 226 ∷ []) b

broken_none : (flow alone : Bool) (b : ℕ) → Breaks b → indicator_of flow alone b ≡ None
unfolding indicator_of
broken_none flow alone b h = grind (arith, nat_tests, h)

no_width : (w : ℕ) → (not (ltb 0 w) && true) ≡ eqb w 0
no_width w = grind (arith, nat_tests)

broken_starts : (flow : Bool) (text : List ℕ) (p : ℕ) → Breaks (byte text p)
    → starts_plain flow text p ≡ eqb (break_width text p) 0
unfolding starts_plain is_indicator_byte is_bracket
broken_starts flow text p h =
    elim h [
      | inl e ↦ rw e (no_width (break_of 10 (byte text (p + 1)) (byte text (p + 2))))
      | inr (inl e) ↦ rw e (no_width (break_of 13 (byte text (p + 1)) (byte text (p + 2))))
      | inr (inr (inl e)) ↦ rw e (no_width (break_of 194 (byte text (p + 1)) (byte text (p + 2))))
      | inr (inr (inr e)) ↦ rw e (no_width (break_of 226 (byte text (p + 1)) (byte text (p + 2))))
    ]

pub break_at : (flow : Bool) (text : List ℕ) (p : ℕ) → Breaks (byte text p)
    → kind_at flow text p ≡ then_some (eqb (break_width text p) 0) reads.Plain
unfolding kind_at is_document_start is_document_end
break_at flow text p h =
    let none = broken_none flow (is_blank_or_end text (p + 1)) (byte text p) h in
    let starts = broken_starts flow text p h in
    elim (cases_Bool (eqb (break_width text p) 0)) [
      | inl y ↦ rw (none, starts, y) (grind (arith, nat_tests, h))
      | inr n ↦ rw (none, starts, n) (grind (arith, nat_tests, h))
    ]

-- `?` or `:`
abbrev Marks : ℕ → Type 0
Marks b = (b ≡ 63) ⊎ (b ≡ 58)

marks_none : (alone : Bool) (b : ℕ) → alone ≡ false → Marks b → indicator_of false alone b ≡ None
unfolding indicator_of
marks_none alone b none h = rw none (elim h [ inl e ↦ rw e refl | inr e ↦ rw e refl ])

marks_starts : (text : List ℕ) (p : ℕ) → Marks (byte text p)
    → is_blank_or_end text (p + 1) ≡ false → starts_plain false text p ≡ true
unfolding starts_plain is_indicator_byte is_bracket break_of
marks_starts text p h none = grind (arith, nat_tests, h, none)

marks_plain : (text : List ℕ) (p : ℕ) → Marks (byte text p) → is_blank_or_end text (p + 1) ≡ false
    → kind_at false text p ≡ Some reads.Plain
unfolding kind_at is_document_start is_document_end
marks_plain text p h none =
    rw (marks_none (is_blank_or_end text (p + 1)) (byte text p) none h, marks_starts text p h none) (grind (arith, nat_tests, h))

pub question_at : (flow : Bool) (text : List ℕ) (p : ℕ) → byte text p ≡ 63
    → kind_at flow text p
    ≡ Some (cond (flow || is_blank_or_end text (p + 1)) reads.KeyMark reads.Plain)
unfolding indicator_of
question_at true text p e = sym (shows true text p (byte text p) 63 reads.KeyMark refl e refl)
question_at false text p e = elim (cases_Bool (is_blank_or_end text (p + 1))) [
  | inl y ↦ rw y (sym (shows false text p (byte text p) 63 reads.KeyMark refl e (rw y refl)))
  | inr n ↦ rw n (marks_plain text p (inl e) n)
]

pub colon_at : (flow : Bool) (text : List ℕ) (p : ℕ) → byte text p ≡ 58
    → kind_at flow text p
    ≡ Some (cond (flow || is_blank_or_end text (p + 1)) reads.ValueMark reads.Plain)
unfolding indicator_of
colon_at true text p e = sym (shows true text p (byte text p) 58 reads.ValueMark refl e refl)
colon_at false text p e = elim (cases_Bool (is_blank_or_end text (p + 1))) [
  | inl y ↦ rw y (sym (shows false text p (byte text p) 58 reads.ValueMark refl e (rw y refl)))
  | inr n ↦ rw n (marks_plain text p (inr e) n)
]

-- ---- bytes that a document's mark may begin with

dot_none : (flow alone : Bool) (b : ℕ) → b ≡ 46 → indicator_of flow alone b ≡ None
unfolding indicator_of
dot_none flow alone b e = rw e refl

dot_starts : (flow : Bool) (text : List ℕ) (p : ℕ) → byte text p ≡ 46
    → starts_plain flow text p ≡ true
unfolding starts_plain is_indicator_byte is_bracket break_of
dot_starts flow text p e = grind (arith, nat_tests, e)

pub dot_mark : (flow : Bool) (text : List ℕ) (p : ℕ) → byte text p ≡ 46
    → (eqb (column_at text p) 0 && is_thrice 46 text p) ≡ true
    → kind_at flow text p ≡ Some reads.DocumentEnd
unfolding kind_at is_document_start is_document_end
dot_mark flow text p e h = grind (arith, nat_tests, e, h)

pub dot_plain : (flow : Bool) (text : List ℕ) (p : ℕ) → byte text p ≡ 46
    → (eqb (column_at text p) 0 && is_thrice 46 text p) ≡ false
    → kind_at flow text p ≡ Some reads.Plain
unfolding kind_at is_document_start is_document_end
dot_plain flow text p e h =
    rw (dot_none flow (is_blank_or_end text (p + 1)) (byte text p) e, dot_starts flow text p e) (grind (arith, nat_tests, e, h))

hyphen_none : (flow alone : Bool) (b : ℕ) → b ≡ 45 → alone ≡ false
    → indicator_of flow alone b ≡ None
unfolding indicator_of
hyphen_none flow alone b e none = rw (e, none) refl

hyphen_starts : (flow : Bool) (text : List ℕ) (p : ℕ) → byte text p ≡ 45
    → is_blank_or_end text (p + 1) ≡ false → starts_plain flow text p ≡ true
unfolding starts_plain is_indicator_byte is_bracket break_of
hyphen_starts flow text p e none = grind (arith, nat_tests, e, none)

pub hyphen_entry : (flow : Bool) (text : List ℕ) (p : ℕ) → byte text p ≡ 45
    → is_blank_or_end text (p + 1) ≡ true → kind_at flow text p ≡ Some reads.BlockEntry
unfolding indicator_of
hyphen_entry flow text p e alone = sym (shows flow text p (byte text p) 45 reads.BlockEntry refl e (rw alone refl))

pub hyphen_mark : (flow : Bool) (text : List ℕ) (p : ℕ) → byte text p ≡ 45
    → (eqb (column_at text p) 0 && is_thrice 45 text p) ≡ true
    → kind_at flow text p ≡ Some reads.DocumentStart
unfolding kind_at is_document_start is_document_end
hyphen_mark flow text p e h = grind (arith, nat_tests, e, h)

pub hyphen_plain : (flow : Bool) (text : List ℕ) (p : ℕ) → byte text p ≡ 45
    → is_blank_or_end text (p + 1) ≡ false
    → (eqb (column_at text p) 0 && is_thrice 45 text p) ≡ false
    → kind_at flow text p ≡ Some reads.Plain
unfolding kind_at is_document_start is_document_end
hyphen_plain flow text p e none h =
    rw (hyphen_none flow (is_blank_or_end text (p + 1)) (byte text p) e none, hyphen_starts flow text p e none) (grind (arith, nat_tests, e, h))
