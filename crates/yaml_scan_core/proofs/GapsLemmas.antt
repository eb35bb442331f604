-- What is between lexemes.
use Rattle.std.proofs.Common.{◌≡◌, ◌≢◌, ℕ, zero, suc, ◌+◌, ◌-◌, ◌<◌, ◌≤◌, Bool, true, false, cond, ltb, eqb, ◌&&◌, ◌||◌, not, inl, inr, List, length, take, drop, get_or, refl, sym, ap, subst, ◌∙◌, arith}
use Rattle.yaml_scan_core.proofs.Words.{and_parts, cases_Bool, cases_lt, nat_tests, byte, line_at, column_at, splits_break, inner, stack_of}
use Rattle.yaml_scan_model.specs.Runs.{past, columns_over, is_space_there, is_text, line_end, past_spaces}
use Rattle.yaml_scan_model.proofs.RunsLemmas.{past-le, past-inside, past_some, text_parts}
use Rattle.yaml_scan_model.proofs.PrintedLemmas.{behind}
use Rattle.yaml_scan_history.specs.Between.{Gap, gap_at, step_at, with_break}
use Rattle.yaml_scan_model.specs.scan_types.Marks.{break_width, starts}
use Rattle.yaml_scan_model.specs.scan_types.Classes.{is_bom}
use Rattle.yaml_scan_model.proofs.MarksLemmas.{column_same, end_next, line_more, no_break, split_next, within}
use Rattle.std.proofs.lemmas.Bool.{eqb-true}
use Rattle.std.proofs.lemmas.List.{get_or-drop, length-drop}
use Rattle.std.proofs.lemmas.List.Sums.{count_by_more_no, count_by_more_yes}
use Rattle.std.specs.List.{count_by}
use Rattle.yaml_scan_runs.specs.Runs.{is_continuing}
use Rattle.yaml_scan_history.proofs.BetweenLemmas.{gap_here, space_here, bom_bytes, break_here, no_bom, no_skip, stays}
use Rattle.yaml_scan_core.specs.declared.scanner.Scanner.{Scanner}
use Rattle.yaml_scan_core.specs.Scanning.{IsPlace, MayBreak, Passes, PassesOne, StaysAt, gap_there}
use Rattle.yaml_scan_core.proofs.PlacesLemmas.{byte_place, place_behind, place_on}

-- ---- parts of a gap

pub stays_here : (s : Scanner) → StaysAt s s
stays_here s = refl

pub stays_on : (a b c : Scanner) → StaysAt a b → StaysAt b c → StaysAt a c
stays_on a b c e f = f ∙ ap (λ (x : Scanner). record x { at = c.at; line = c.line; wide = c.wide; key_allowed = c.key_allowed }) e

pub or_false : (b : Bool) → (b || false) ≡ b
or_false true = refl
or_false false = refl

pub passes_here : (s : Scanner) → IsPlace s.text.now s.at s.line s.wide → Passes s s
passes_here s p = record {
  broke = false;
  gap = refl;
  allowed = sym (or_false s.key_allowed);
  place = p;
  further = omega arith;
}

break_twice : (x y : Bool) (g : Gap) → with_break x (with_break y g) ≡ with_break (x || y) g
break_twice true y g = refl
break_twice false y g = refl

allowed_twice : (a x y f : Bool) → ((a || (x && f)) || (y && f)) ≡ (a || ((x || y) && f))
allowed_twice true x y f = refl
allowed_twice false true true true = refl
allowed_twice false true true false = refl
allowed_twice false true false true = refl
allowed_twice false true false false = refl
allowed_twice false false y f = refl

pub passes_on : (a b c : Scanner) → StaysAt a b → Passes a b → Passes b c → Passes a c
passes_on a b c same p q =
    let flow : not (ltb 0 (inner (stack_of b.keys))) ≡ not (ltb 0 (inner (stack_of a.keys))) = ap (λ (x : Scanner). not (ltb 0 (inner (stack_of x.keys)))) same in
    record {
      broke = p.broke || q.broke;
      gap = p.gap ∙ ap (with_break p.broke) q.gap ∙ break_twice p.broke q.broke (gap_there c);
      allowed = q.allowed ∙ ap (λ f. b.key_allowed || (q.broke && f)) flow ∙ ap (λ x. x || (q.broke && not (ltb 0 (inner (stack_of a.keys))))) p.allowed
          ∙ allowed_twice a.key_allowed p.broke q.broke (not (ltb 0 (inner (stack_of a.keys))));
      place = q.place;
      further = omega (arith, p.further, q.further);
    }

-- ---- one step

pub one_stop : (s : Scanner) → IsPlace s.text.now s.at s.line s.wide
    → gap_there s ≡ record { place = s.at; broke = false } → PassesOne s s false
one_stop s p e = record { same = refl; passes = passes_here s p; more = λ no_more. cc; stop = λ f. e }

gap_stays : (f a : Bool) (text : List ℕ) (p : ℕ) → byte text p ≢ 32 → byte text p ≢ 9
    → byte text p ≢ 35 → ltb 0 (break_width text p) ≡ false → (eqb p 0 && is_bom text p) ≡ false
    → gap_at f a text p ≡ record { place = p; broke = false }
gap_stays f a text p space tab hash none first = gap_here f a text p ∙ (rw (stays (f || not a) text p space tab hash none first) refl)

gap_space : (f a : Bool) (text : List ℕ) (p : ℕ) → byte text p ≡ 32
    → gap_at f a text p ≡ gap_at f a text (p + 1)
gap_space f a text p e = gap_here f a text p ∙ (rw (space_here (f || not a) text p e) refl)

gap_break : (f a : Bool) (text : List ℕ) (p : ℕ) → 0 < break_width text p
    → gap_at f a text p ≡ with_break true (gap_at f (a || not f) text (p + break_width text p))
gap_break f a text p some = gap_here f a text p ∙ (rw (break_here (f || not a) text p some) refl)

-- no break begins with such a byte
calm : (text : List ℕ) (p b : ℕ) → byte text p ≡ b → b ≢ 13 → b ≢ 10 → b ≢ 0xC2 → b ≢ 0xE2
    → break_width text p ≡ 0
calm text p b e x y z w = no_break (byte text p) (byte text (p + 1)) (byte text (p + 2)) (λ h. x (sym e ∙ h)) (λ h. y (sym e ∙ h)) (λ h. z (sym e ∙ h)) (λ h. w (sym e ∙ h))

-- ---- spaces

spaces_gap : (n : ℕ) (f a : Bool) (text : List ℕ) (p : ℕ)
    → gap_at f a text p ≡ gap_at f a text (past is_space_there n text p)
unfolding past
spaces_gap zero f a text p = refl
spaces_gap (suc n) f a text p = elim (cases_Bool (is_space_there text p)) [
  | inr none ↦ rw none refl
  | inl space ↦ rw space (gap_space f a text p (eqb-true (byte text p) 32 space) ∙ spaces_gap n f a text (p + 1))
]

spaces_place : (n : ℕ) (text : List ℕ) (p line wide : ℕ) → IsPlace text p line wide
    → IsPlace text (past is_space_there n text p) line wide
unfolding past
spaces_place zero text p line wide h = h
spaces_place (suc n) text p line wide h = elim (cases_Bool (is_space_there text p)) [
  | inr none ↦ rw none h
  | inl space ↦ rw space (spaces_place n text (p + 1) line wide (byte_place text p line wide 32 h (eqb-true (byte text p) 32 space) (omega arith) (omega arith)))
]

spaces_on : (n : ℕ) (text : List ℕ) (p : ℕ) → p ≤ past is_space_there n text p
unfolding past
spaces_on zero text p = omega arith
spaces_on (suc n) text p = elim (cases_Bool (is_space_there text p)) [
  | inr none ↦ rw none (omega arith)
  | inl space ↦ rw space (omega (arith, spaces_on n text (p + 1)))
]

spaces_more : (n : ℕ) (text : List ℕ) (p : ℕ) → byte text p ≡ 32 → 0 < n
    → p < past is_space_there n text p
unfolding past
spaces_more zero text p e lt = absurd (omega (arith, lt))
spaces_more (suc n) text p e lt = rw e (omega (arith, spaces_on n text (p + 1)))

pub one_spaces : (s : Scanner) → IsPlace s.text.now s.at s.line s.wide → byte s.text.now s.at ≡ 32
    → (q : ℕ) → q ≡ past_spaces s.text.now s.at → PassesOne s (record s { at = q }) true
one_spaces s p e q is =
    let text = s.text.now in
    let f = ltb 0 (inner (stack_of s.keys)) in
    let some : 0 < length text = omega (arith, within text s.at (omega (arith, e))) in
    let more : s.at < q = omega (arith, is, spaces_more (length text) text s.at e some) in
    record {
      same = refl;
      passes = record {
        broke = false;
        gap = spaces_gap (length text) f s.key_allowed text s.at ∙ ap (λ x. gap_at f s.key_allowed text x) (sym is);
        allowed = sym (or_false s.key_allowed);
        place = subst (λ x. IsPlace text x s.line s.wide) (sym is) (spaces_place (length text) text s.at s.line s.wide p);
        further = omega (arith, more);
      };
      more = λ h. more;
      stop = λ h. cc;
    }

-- ---- a tab

tab_passed : (f a : Bool) (text : List ℕ) (p : ℕ) → byte text p ≡ 9 → (f || not a) ≡ true
    → gap_at f a text p ≡ gap_at f a text (p + 1)
unfolding step_at
tab_passed f a text p h skips = gap_here f a text p ∙ (rw (skips, no_bom text p (λ e. absurd (omega (arith, e, h))), h) refl)

tab_stays : (f a : Bool) (text : List ℕ) (p : ℕ) → byte text p ≡ 9 → (f || not a) ≡ false
    → gap_at f a text p ≡ record { place = p; broke = false }
unfolding step_at
tab_stays f a text p h skips =
    let none = calm text p 9 h (λ e. absurd (omega (arith, e))) (λ e. absurd (omega (arith, e))) (λ e. absurd (omega (arith, e))) (λ e. absurd (omega (arith, e))) in
    gap_here f a text p ∙ (rw (skips, no_bom text p (λ e. absurd (omega (arith, e, h))), none, h) refl)

pub one_tab : (s : Scanner) → IsPlace s.text.now s.at s.line s.wide → byte s.text.now s.at ≡ 9
    → (ltb 0 (inner (stack_of s.keys)) || not s.key_allowed) ≡ true
    → PassesOne s (record s { at = s.at + 1 }) true
one_tab s p e skips =
    let text = s.text.now in
    let f = ltb 0 (inner (stack_of s.keys)) in
    let none = calm text s.at 9 e (λ h. absurd (omega (arith, h))) (λ h. absurd (omega (arith, h))) (λ h. absurd (omega (arith, h))) (λ h. absurd (omega (arith, h))) in
    let first : starts (byte text s.at) ≡ true = rw e (grind (arith, nat_tests)) in
    record {
      same = refl;
      passes = record {
        broke = false;
        gap = tab_passed f s.key_allowed text s.at e skips;
        allowed = sym (or_false s.key_allowed);
        place = place_on text s.at s.line s.wide p (within text s.at (omega (arith, e))) none first;
        further = omega arith;
      };
      more = λ h. omega arith;
      stop = λ h. cc;
    }

pub one_tab_stop : (s : Scanner) → IsPlace s.text.now s.at s.line s.wide → byte s.text.now s.at ≡ 9
    → (ltb 0 (inner (stack_of s.keys)) || not s.key_allowed) ≡ false → PassesOne s s false
one_tab_stop s p e stays_it = one_stop s p (tab_stays (ltb 0 (inner (stack_of s.keys))) s.key_allowed s.text.now s.at e stays_it)

-- ---- a break

pub one_break : (s : Scanner) → IsPlace s.text.now s.at s.line s.wide
    → 0 < break_width s.text.now s.at → (w : ℕ) → w ≡ break_width s.text.now s.at → (b : Bool)
    → b ≡ (s.key_allowed || not (ltb 0 (inner (stack_of s.keys))))
    → PassesOne s (record s { at = s.at + w; line = s.at + w; wide = 0; key_allowed = b }) true
one_break s p some w is b allows =
    let text = s.text.now in
    let f = ltb 0 (inner (stack_of s.keys)) in
    record {
      same = refl;
      passes = record {
        broke = true;
        gap = gap_break f s.key_allowed text s.at some
            ∙ ap (λ x. with_break true (gap_at f (s.key_allowed || not f) text (s.at + x))) (sym is) ∙ ap (λ x. with_break true (gap_at f x text (s.at + w))) (sym allows);
        allowed = allows;
        place = subst (λ x. IsPlace text (s.at + x) (s.at + x) 0) (sym is) (place_behind text s.at s.line s.wide p some);
        further = omega arith;
      };
      more = λ h. omega (arith, some, is);
      stop = λ h. cc;
    }

may_stay : (b : ℕ) → MayBreak b → (b ≢ 32) × (b ≢ 9) × (b ≢ 35) × (b ≢ 0xEF)
may_stay b m = (λ e. grind (arith, m, e), λ e. grind (arith, m, e), λ e. grind (arith, m, e), λ e. grind (arith, m, e))

pub one_break_stop : (s : Scanner) → IsPlace s.text.now s.at s.line s.wide
    → MayBreak (byte s.text.now s.at) → break_width s.text.now s.at ≡ 0 → PassesOne s s false
one_break_stop s p m none =
    let text = s.text.now in
    let (a, b, c, d) = may_stay (byte text s.at) m in
    let f = ltb 0 (inner (stack_of s.keys)) in
    let no_break_here : ltb 0 (break_width text s.at) ≡ false = rw none refl in
    one_stop s p (gap_stays f s.key_allowed text s.at a b c no_break_here (no_bom text s.at d))

-- ---- any other byte

pub one_other : (s : Scanner) → IsPlace s.text.now s.at s.line s.wide
    → byte s.text.now s.at ≢ 32 → byte s.text.now s.at ≢ 9 → byte s.text.now s.at ≢ 35
    → byte s.text.now s.at ≢ 0xEF → break_width s.text.now s.at ≡ 0 → PassesOne s s false
one_other s p a b c d none =
    let text = s.text.now in
    let f = ltb 0 (inner (stack_of s.keys)) in
    let no_break_here : ltb 0 (break_width text s.at) ≡ false = rw none refl in
    one_stop s p (gap_stays f s.key_allowed text s.at a b c no_break_here (no_bom text s.at d))

-- ---- U+FEFF

mark_passed : (f a : Bool) (text : List ℕ) (p : ℕ) → (eqb p 0 && is_bom text p) ≡ true
    → gap_at f a text p ≡ gap_at f a text (p + 3)
unfolding step_at
mark_passed f a text p h = gap_here f a text p ∙ (rw h refl)

-- after a byte within a character
place_within : (text : List ℕ) (at line wide : ℕ) → IsPlace text at line wide → at < length text
    → break_width text at ≡ 0 → starts (byte text at) ≡ false → IsPlace text (at + 1) line (wide + 1)
place_within text at line wide p lt none first =
    let e = end_next text at p.whole none in
    record {
      inside = omega arith;
      whole = split_next text at p.whole none;
      begins = record {
        before = omega (arith, p.begins.before);
        same = p.begins.same ∙ sym (line_more text at e);
        earlier = p.begins.earlier;
      };
      column = omega (arith, column_same text at e first, p.column);
    }

mark_place : (text : List ℕ) (at line wide : ℕ) → IsPlace text at line wide → at ≡ 0
    → byte text at ≡ 0xEF → byte text (at + 1) ≡ 0xBB → byte text (at + 2) ≡ 0xBF
    → IsPlace text 3 line 2
mark_place text at line wide p zero_at x y z =
    let b0 = calm text at 0xEF x (λ h. absurd (omega (arith, h))) (λ h. absurd (omega (arith, h))) (λ h. absurd (omega (arith, h))) (λ h. absurd (omega (arith, h))) in
    let b1 = calm text (at + 1) 0xBB y (λ h. absurd (omega (arith, h))) (λ h. absurd (omega (arith, h))) (λ h. absurd (omega (arith, h))) (λ h. absurd (omega (arith, h))) in
    let b2 = calm text (at + 2) 0xBF z (λ h. absurd (omega (arith, h))) (λ h. absurd (omega (arith, h))) (λ h. absurd (omega (arith, h))) (λ h. absurd (omega (arith, h))) in
    let s0 : starts (byte text at) ≡ true = rw x (grind (arith, nat_tests)) in
    let s1 : starts (byte text (at + 1)) ≡ false = rw y (grind (arith, nat_tests)) in
    let s2 : starts (byte text (at + 2)) ≡ false = rw z (grind (arith, nat_tests)) in
    let q = place_on text at line wide p (within text at (omega (arith, x))) b0 s0 in
    let r = place_within text (at + 1) line wide q (within text (at + 1) (omega (arith, y))) b1 s1 in
    let e2 : at + 1 + 1 ≡ at + 2 = omega arith in
    let r2 : IsPlace text (at + 2) line (wide + 1) = subst (λ i. IsPlace text i line (wide + 1)) e2 r in
    let t = place_within text (at + 2) line (wide + 1) r2 (within text (at + 2) (omega (arith, z))) b2 s2 in
    let e3 : at + 2 + 1 ≡ 3 = omega (arith, zero_at) in
    let w : wide + 1 + 1 ≡ 2 = omega (arith, zero_at, p.column) in
    subst (λ v. IsPlace text 3 line v) w (subst (λ i. IsPlace text i line (wide + 1 + 1)) e3 t)

pub one_mark : (s : Scanner) → IsPlace s.text.now s.at s.line s.wide
    → (eqb s.at 0 && is_bom s.text.now s.at) ≡ true → PassesOne s (record s { at = 3; wide = 2 }) true
one_mark s p e =
    let text = s.text.now in
    let f = ltb 0 (inner (stack_of s.keys)) in
    let (first, bom) = and_parts (eqb s.at 0) (is_bom text s.at) e in
    let zero_at : s.at ≡ 0 = eqb-true s.at 0 first in
    let (x, y, z) = bom_bytes text s.at bom in
    record {
      same = refl;
      passes = record {
        broke = false;
        gap = mark_passed f s.key_allowed text s.at e ∙ ap (λ q. gap_at f s.key_allowed text (q + 3)) zero_at;
        allowed = sym (or_false s.key_allowed);
        place = mark_place text s.at s.line s.wide p zero_at x y z;
        further = omega (arith, zero_at);
      };
      more = λ h. omega (arith, zero_at);
      stop = λ h. cc;
    }

pub one_mark_stop : (s : Scanner) → IsPlace s.text.now s.at s.line s.wide
    → byte s.text.now s.at ≡ 0xEF → (eqb s.at 0 && is_bom s.text.now s.at) ≡ false → PassesOne s s false
one_mark_stop s p e none =
    let text = s.text.now in
    let f = ltb 0 (inner (stack_of s.keys)) in
    let flat = calm text s.at 0xEF e (λ h. absurd (omega (arith, h))) (λ h. absurd (omega (arith, h))) (λ h. absurd (omega (arith, h))) (λ h. absurd (omega (arith, h))) in
    let no_break_here : ltb 0 (break_width text s.at) ≡ false = rw flat refl in
    one_stop s p (gap_stays f s.key_allowed text s.at (λ h. absurd (omega (arith, h, e))) (λ h. absurd (omega (arith, h, e))) (λ h. absurd (omega (arith, h, e))) no_break_here none)

-- the bytes that nothing between lexemes begins with
abbrev pub Other : ℕ → Type 0
Other b = ((((Unit {0} × (b ≢ 32)) × (b ≢ 9)) × (b ≢ 35)) × (b ≢ 0xEF)) × (MayBreak b → ⊥)

pub one_calm : (s : Scanner) (b : ℕ) → IsPlace s.text.now s.at s.line s.wide
    → b ≡ byte s.text.now s.at → Other b → PassesOne s s false
one_calm s b p e c =
    let (((((none, space), tab), hash), mark), breaks) = c in
    one_other s p (λ h. space (e ∙ h)) (λ h. tab (e ∙ h)) (λ h. hash (e ∙ h)) (λ h. mark (e ∙ h))
    (calm s.text.now s.at b (sym e) (λ h. breaks (inr (inl h))) (λ h. breaks (inl h)) (λ h. breaks (inr (inr (inl h)))) (λ h. breaks (inr (inr (inr h)))))

-- ---- a comment

each_past : (n : ℕ) (text : List ℕ) (p k : ℕ) → p ≤ k → k < past is_text n text p
    → is_text text k ≡ true
unfolding past
each_past zero text p k le lt = absurd (omega (arith, le, lt))
each_past (suc n) text p k le lt = elim (cases_Bool (is_text text p)) [
  | inr stop ↦ let less : k < p = rw stop at lt in absurd (omega (arith, le, less))
  | inl on ↦
      let less : k < past is_text n text (p + 1) = rw on at lt in
      elim (cases_lt p k) [
        | inl far ↦ each_past n text (p + 1) k (omega (arith, far)) less
        | inr near ↦ let same : k ≡ p = omega (arith, near, le) in rw same on
      ]
]

hash_text : (text : List ℕ) (p : ℕ) → byte text p ≡ 35 → is_text text p ≡ true
hash_text text p h =
    let none = calm text p 35 h (λ e. absurd (omega (arith, e))) (λ e. absurd (omega (arith, e))) (λ e. absurd (omega (arith, e))) (λ e. absurd (omega (arith, e))) in
    rw (none, h) refl

comment_passed : (f a : Bool) (text : List ℕ) (p : ℕ) → byte text p ≡ 35
    → gap_at f a text p ≡ gap_at f a text (line_end text p)
unfolding step_at
comment_passed f a text p h =
    let hash : (eqb (byte text p) 35) ≡ true = rw h refl in
    gap_here f a text p ∙ (rw (no_bom text p (λ e. absurd (omega (arith, e, h))), no_skip (f || not a) (byte text p) (λ e. absurd (omega (arith, e, h))) (λ e. absurd (omega (arith, e, h))), hash) refl)

pub comment_forward : (text : List ℕ) (p q : ℕ) → q ≡ line_end text p → p ≤ q
comment_forward text p q is = omega (arith, is, past-le is_text (length text) text p)

pub comment_inside : (text : List ℕ) (p q : ℕ) → q ≡ line_end text p → p ≤ length text
    → q ≤ length text
comment_inside text p q is le = omega (arith, is, past-inside is_text (length text) text p (λ k t. (text_parts text k t).0) le)

pub one_comment : (s : Scanner) → IsPlace s.text.now s.at s.line s.wide → byte s.text.now s.at ≡ 35
    → (q w : ℕ) → q ≡ line_end s.text.now s.at
    → w + columns_over (q - s.at) s.text.now s.at ≡ q - s.at
    → PassesOne s (record s { at = q; wide = s.wide + w }) true
one_comment s p e q w is count =
    let text = s.text.now in
    let f = ltb 0 (inner (stack_of s.keys)) in
    let on = comment_forward text s.at q is in
    let n : ℕ = q - s.at in
    let far : s.at + n ≡ q = omega (arith, on) in
    let here = within text s.at (omega (arith, e)) in
    let b = behind n text s.at p.inside p.whole (λ k le lt. each_past (length text) text s.at k le (omega (arith, lt, far, is))) in
    let line : line_at text q ≡ line_at text s.at = ap (λ x. line_at text x) (sym far) ∙ b.line in
    let column : column_at text q ≡ column_at text s.at + columns_over n text s.at = ap (λ x. column_at text x) (sym far) ∙ b.column in
    let more : s.at < q = omega (arith, is, past_some is_text text s.at (hash_text text s.at e) (omega (arith, e))) in
    record {
      same = refl;
      passes = record {
        broke = false;
        gap = comment_passed f s.key_allowed text s.at e ∙ ap (λ x. gap_at f s.key_allowed text x) (sym is);
        allowed = sym (or_false s.key_allowed);
        place = record {
          inside = omega (arith, b.inside, far);
          whole = subst (λ x. splits_break text x ≡ false) far b.whole;
          begins = record {
            before = omega (arith, p.begins.before, on);
            same = p.begins.same ∙ sym line;
            earlier = p.begins.earlier;
          };
          column = omega (arith, column, count, p.column, far);
        };
        further = on;
      };
      more = λ h. more;
      stop = λ h. cc;
    }

-- ---- bytes that continue characters

columns_more : (text : List ℕ) (p n m count k : ℕ) → m ≡ n + 1
    → count + columns_over n text p ≡ n
    → k ≡ cond (starts (byte text (p + n))) 0 1 → count + k + columns_over m text p ≡ m
unfolding columns_over
columns_more text p n m count k is before b =
    let m2 : m ≡ suc n = omega (arith, is) in
    rw m2 (elim (cases_Bool (starts (byte text (p + n)))) [
      | inl y ↦ let k0 : k ≡ 0 = b ∙ (rw y refl) in rw y (omega (arith, k0, before))
      | inr x ↦ let k1 : k ≡ 1 = b ∙ (rw x refl) in rw x (omega (arith, k1, before))
    ])

-- the same by what the code says of a byte
-- how many bytes continue a character, and how many begin one
pub continuing_over : (text : List ℕ) (p n : ℕ) → p + n ≤ length text
    → count_by is_continuing (take n (drop p text)) + columns_over n text p ≡ n
unfolding columns_over
continuing_over text p zero h = refl
continuing_over text p (suc n) h =
    let one_more : suc n ≡ n + 1 = omega arith in
    let before = continuing_over text p n (omega (arith, h)) in
    let there : get_or (drop p text) n 0 ≡ byte text (p + n) = get_or-drop p text n 0 in
    let long : n < length (drop p text) = omega (arith, h, length-drop p text) in
    let b = byte text (p + n) in
    let step : count_by is_continuing (take (suc n) (drop p text)) ≡ count_by is_continuing (take n (drop p text)) + cond (starts b) 0 1 =
    elim (cases_Bool (is_continuing b)) [
      | inl y ↦
          let none : starts b ≡ false = grind (arith, nat_tests) in
          ap (λ j. count_by is_continuing (take j (drop p text))) one_more
          ∙ count_by_more_yes is_continuing (drop p text) n 0 long (ap is_continuing there ∙ y) ∙ rw none refl
      | inr x ↦
          let some : starts b ≡ true = grind (arith, nat_tests) in
          ap (λ j. count_by is_continuing (take j (drop p text))) one_more
          ∙ count_by_more_no is_continuing (drop p text) n 0 long (ap is_continuing there ∙ x) ∙ rw some (omega arith)
    ] in
    rw step (columns_more text p n (suc n) (count_by is_continuing (take n (drop p text))) (cond (starts b) 0 1) one_more before refl)
