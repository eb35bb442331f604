-- What white reads as.
use Rattle.std.proofs.Common.{◌≡◌, ◌≢◌, ℕ, zero, suc, ◌+◌, ◌-◌, ◌<◌, ◌≤◌, nat_lt, true, false, List, [], ◌∷◌, ◌++◌, length, length-append, refl, sym, ap, ◌∙◌, ◌⊎◌, inl, inr, append_assoc, append-nil, arith}
use Rattle.yaml_scan_text.proofs.Words.{nat_tests, blank_parts, is_blank, is_blank_there, past, past-le, cases_Bool, cases_lt, lt-ltb, byte, break_width, feed_at, feed_some, value_three, value_other, gap-other, gap, is_feed, Keeps, feeds, feeds_within, step_width, fold_of, past_blanks}
use Rattle.yaml_scan_text.proofs.TextLemmas.{break_inside}

pub keeps_same : (xs : List ℕ) → Keeps xs xs
keeps_same xs = record { rest = []; is = sym (append-nil xs) }

pub keeps_more : (old mid new ys : List ℕ) → Keeps old mid → new ≡ mid ++ ys → Keeps old new
keeps_more old mid new ys k e = record { rest = k.rest ++ ys; is = e ∙ rw (k.is) (append_assoc old k.rest ys) }

pub keeps_on : (old mid new : List ℕ) → Keeps old mid → Keeps mid new → Keeps old new
keeps_on old mid new k l = keeps_more old mid new l.rest k l.is

-- ---- what breaks read as

pub step_some : (text : List ℕ) (p : ℕ) → 0 < step_width text p
step_some text p = omega arith

within_done : (n : ℕ) (text : List ℕ) (p q : ℕ) → q ≤ p → feeds_within n text p q ≡ []
unfolding feeds_within
within_done zero text p q l = refl
within_done (suc n) text p q l = rw (not_less p q l) refl
  where
    not_less : (p q : ℕ) → q ≤ p → nat_lt p q ≡ false
    not_less p q l = grind (arith, nat_tests)

within_more : (n : ℕ) (text : List ℕ) (p q : ℕ) → p < q
    → feeds_within (suc n) text p q ≡ feed_at text p ++ feeds_within n text (p + step_width text p) q
unfolding feeds_within
within_more n text p q l = rw (lt-ltb p q l) refl

within_same : (n m : ℕ) (text : List ℕ) (p q : ℕ) → q ≤ p + n → q ≤ p + m
    → feeds_within n text p q ≡ feeds_within m text p q
within_same zero m text p q a b = within_done zero text p q (omega arith) ∙ sym (within_done m text p q (omega arith))
within_same (suc n) zero text p q a b = within_done (suc n) text p q (omega arith) ∙ sym (within_done zero text p q (omega arith))
within_same (suc n) (suc m) text p q a b = elim (cases_lt p q) [
  | inl l ↦
      let some = step_some text p in
      within_more n text p q l ∙ ap (λ x. feed_at text p ++ x) (within_same n m text (p + step_width text p) q (omega arith) (omega arith)) ∙ sym (within_more m text p q l)
  | inr l ↦ within_done (suc n) text p q l ∙ sym (within_done (suc m) text p q l)
]

pub feeds_done : (text : List ℕ) (p q : ℕ) → q ≤ p → feeds text p q ≡ []
feeds_done text p q l = within_done (q - p) text p q l

pub feeds_here : (text : List ℕ) (p q : ℕ) → p < q
    → feeds text p q ≡ feed_at text p ++ feeds text (p + step_width text p) q
feeds_here text p q l =
    let d : q - p ≡ suc (q - p - 1) = omega arith in
    let some = step_some text p in
    ap (λ n. feeds_within n text p q) d ∙ within_more (q - p - 1) text p q l
    ∙ ap (λ x. feed_at text p ++ x) (within_same (q - p - 1) (q - (p + step_width text p)) text (p + step_width text p) q (omega arith) (omega arith))

pub step_inside : (text : List ℕ) (p q : ℕ) → p < q → q ≤ length text
    → p + step_width text p ≤ length text
step_inside text p q l inside = elim (cases_lt 0 (break_width text p)) [
  | inl w ↦ let far = break_inside text p w in omega arith
  | inr n ↦ omega arith
]

-- a step over a place
pub feeds_step : (old out new text : List ℕ) (p q r : ℕ) → p < q → r ≡ p + step_width text p
    → new ≡ out ++ feed_at text p → out ++ feeds text p q ≡ old → new ++ feeds text r q ≡ old
feeds_step old out new text p q r l e same before =
    rw (e, same, append_assoc) (rw (feeds_here text p q l) at before)

-- blanks read as nothing
feeds_blank : (text : List ℕ) (p q : ℕ) → is_blank (byte text p) ≡ true
    → feeds text p q ≡ feeds text (p + 1) q
feeds_blank text p q h = elim (cases_lt p q) [
  | inl l ↦
      let none : break_width text p ≡ 0 = (blank_parts (byte text p) (byte text (p + 1)) (byte text (p + 2)) h).1 in
      feeds_here text p q l ∙ rw none refl
  | inr l ↦ feeds_done text p q l ∙ sym (feeds_done text (p + 1) q (omega arith))
]

feeds_past : (n : ℕ) (text : List ℕ) (p q : ℕ)
    → feeds text (past is_blank_there n text p) q ≡ feeds text p q
unfolding past
feeds_past zero text p q = refl
feeds_past (suc n) text p q = elim (cases_Bool (is_blank (byte text p))) [
  | inl b ↦ rw b (feeds_past n text (p + 1) q ∙ sym (feeds_blank text p q b))
  | inr b ↦ rw b refl
]

pub feeds_behind : (text : List ℕ) (p q r : ℕ) → r ≡ past_blanks text p
    → feeds text r q ≡ feeds text p q
feeds_behind text p q r e = rw e (feeds_past (length text) text p q)

pub blanks_behind : (text : List ℕ) (p r : ℕ) → r ≡ past_blanks text p → p ≤ r
blanks_behind text p r e = rw e (past-le is_blank_there (length text) text p)

-- ---- the white round a break

pub fold_three : (old text : List ℕ) (from to first : ℕ) (mid : List ℕ)
    → first ≡ past_blanks text from
    → break_width text first ≡ 3 → mid ≡ (old ++ feed_at text first) ++ feeds text (first + break_width text first) to
    → (mid ≡ old ++ fold_of text from to) × (length old < length mid)
fold_three old text from to first mid at w e =
    let some : 0 < break_width text first = omega arith in
    let value = feed_some text first some in
    let three = value_three text first w in
    let mark : feed_at text first ≡ 0xE2 ∷ 0x80 ∷ byte text (first + 2) ∷ [] = value ∙ three in
    let other : is_feed (feed_at text first) ≡ false = rw mark refl in
    let gone = gap-other (feed_at text first) (feeds text (first + break_width text first) to) other in
    let long : length (feed_at text first) ≡ 3 = rw mark refl in
    let all = length-append (old ++ feed_at text first) (feeds text (first + break_width text first) to) in
    let front = length-append old (feed_at text first) in
    (e ∙ rw (← at, gone, append_assoc) refl, rw e (omega arith))

pub fold_feed : (old text : List ℕ) (from to first : ℕ) (mid : List ℕ)
    → first ≡ past_blanks text from
    → 0 < break_width text first → break_width text first ≢ 3 → mid ≡ old ++ feeds text (first + break_width text first) to
    → (length mid ≡ length old → mid ++ 32 ∷ [] ≡ old ++ fold_of text from to)
    × (length mid ≢ length old → mid ≡ old ++ fold_of text from to)
fold_feed old text from to first mid at some w e =
    let value = feed_some text first some in
    let one = value_other text first w in
    let mark : feed_at text first ≡ 10 ∷ [] = value ∙ one in
    let all = length-append old (feeds text (first + break_width text first) to) in
    let len : length mid ≡ length old + length (feeds text (first + break_width text first) to) = rw e all in
    let fs = feeds text (first + break_width text first) to in
    (λ same. rw (e, ← at, mark, empty fs (omega arith)) (rw append-nil refl), λ more. rw (e, ← at, mark, some_gap fs (omega arith)) refl)
  where
    empty : (xs : List ℕ) → length xs ≡ 0 → xs ≡ []
    empty [] h = refl
    empty (x ∷ xs) h = absurd (omega arith)

    some_gap : (xs : List ℕ) → length xs ≢ 0 → gap (10 ∷ []) xs ≡ xs
    some_gap [] h = absurd (h refl)
    some_gap (x ∷ xs) h = refl

-- the first break, where it stays
pub record IsMarked (old out text : List ℕ) (p : ℕ) : Type 0 where
  pub three : break_width text p ≡ 3 → out ≡ old ++ feed_at text p
  pub other : break_width text p ≢ 3 → out ≡ old

pub marked_three : (old out text : List ℕ) (p w : ℕ) → w ≡ break_width text p → w ≡ 3
    → out ≡ old ++ feed_at text p → IsMarked old out text p
marked_three old out text p w e h same = record { three = λ x. same; other = λ n. absurd (n (sym e ∙ h)) }

pub marked_other : (old out text : List ℕ) (p w : ℕ) → w ≡ break_width text p → w ≢ 3 → out ≡ old
    → IsMarked old out text p
marked_other old out text p w e h same = record { three = λ x. absurd (h (e ∙ x)); other = λ n. same }

pub fold_done : (old out mid text : List ℕ) (from to first : ℕ) → first ≡ past_blanks text from
    → 0 < break_width text first → IsMarked old out text first
    → mid ≡ out ++ feeds text (first + break_width text first) to
    → (length mid ≡ length old → mid ++ 32 ∷ [] ≡ old ++ fold_of text from to)
    × (length mid ≢ length old → mid ≡ old ++ fold_of text from to)
fold_done old out mid text from to first at some mark e = elim (three_or (break_width text first)) [
  | inl w ↦
      let three = fold_three old text from to first mid at w (rw (mark.three w) at e) in
      (λ same. absurd (omega (arith, three.1)), λ more. three.0)
  | inr n ↦ fold_feed old text from to first mid at some n (rw (mark.other n) at e)
]
  where
    three_or : (w : ℕ) → (w ≡ 3) ⊎ (w ≢ 3)
    three_or w = grind arith
