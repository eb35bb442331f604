-- Lexemes that may be keys.
use Rattle.std.proofs.Common.{◌≡◌, ℕ, ◌+◌, ◌≤◌, ◌⊎◌, Bool, true, false, cond, ltb, eqb, ◌&&◌, ◌||◌, not, inl, inr, List, ◌∷◌, length, Option, Some, None, Ok, refl, sym, ap, subst, ◌∙◌, arith}
use Rattle.yaml_scan_core.proofs.Words.{cases_Bool, cases_lt, nat_tests, yaml_mark_t, line_at, column_at, indent, Kind, Lexeme, candidate, reached, flow_depth, open_levels, left_by, cancels, may_be_key, WordText, Upto, missed, allowed_behind, AreKeysTo, KeyStack, inner, key_at, key_mark, stack_of, saved, index_in, is_fresh, length-entries}
use Rattle.yaml_scan_core.specs.declared.fault.Fault.{Fault}
use Rattle.yaml_scan_core.specs.declared.scanner.Scanner.{Scanner}
use Rattle.yaml_scan_core.specs.Candidates.{cancelled_at}
use Rattle.yaml_scan_core.specs.Scanning.{StandsAs, Tests, candidate_in, left_behind, required_in_column}
use Rattle.yaml_scan_core.proofs.CandidatesLemmas.{inner_is, kept_turns, lower, saved_turns, set_changes, top_kept, top_saved}
use Rattle.yaml_scan_core.proofs.ComesLemmas.{lost_at}
use Rattle.yaml_scan_core.proofs.MarginsLemmas.{margin_is}
use Rattle.yaml_scan_core.proofs.ReadLemmas.{begun_at, gap_of}
use Rattle.yaml_scan_core.proofs.StandLemmas.{takes_place}
use Rattle.yaml_scan_core.proofs.PlacesLemmas.{place_column}
use Rattle.yaml_scan_core.proofs.KindsLemmas.{keeps_all, lost_there, put_at, stands_here}

-- ---- tests

and_only : (a : Bool) → ((a && true) || false) ≡ a
and_only true = refl
and_only false = refl

-- a lexeme takes a required one's place where a key may begin
pub place_keys : (k : Kind) (s : Scanner) (h : List Lexeme) (n : ℕ) → StandsAs k s h n
    → may_be_key k ≡ true → cancels k ≡ false
    → takes_place (begun_at s.text.now h k) ≡ s.key_allowed
place_keys k s h n a may idle = rw (may, idle) (and_only (allowed_behind h (gap_of s.text.now h)) ∙ sym a.behind.allowed)

pub keeps_if : (k : Kind) (b : Bool) (s : Scanner) (h : List Lexeme) (n : ℕ) (f : Option Fault)
    (u : Unit {0}) → StandsAs k s h n → takes_place (begun_at s.text.now h k) ≡ b
    → Tests (cond b (index_in (cancelled_at s.text.now (stack_of s.keys))) None) s.at f (Ok u)
    → lost_at k s.text.now h ≡ None
keeps_if k true s h n f u a e t = keeps_all k s h n f u a e t
keeps_if k false s h n f u a e t = lost_there k false s h n a e

-- ---- keys

-- what the code makes of the keys
abbrev pub saves : Scanner → KeyStack
saves s = cond s.key_allowed
    (saved (candidate_in s) (required_in_column (candidate_in s).column s) (stack_of s.keys)) (stack_of s.keys)

flat_test : (d : ℕ) → eqb d 0 ≡ not (ltb 0 d)
flat_test d = grind (arith, nat_tests)

-- it is required as the code says
pub required_is : (k : Kind) (w : WordText) (s : Scanner) (h : List Lexeme) (n : ℕ)
    → StandsAs k s h n → may_be_key k ≡ true → s.key_allowed ≡ true
    → (put_at k w s.text.now h).required ≡ required_in_column (candidate_in s).column s
required_is k w s h n a may on =
    let text = s.text.now in
    let there = stands_here k s h n a in
    let col : (candidate_in s).column ≡ column_at text s.at = place_column text s.at s.line s.wide a.behind.place in
    let margin : s.levels.margin ≡ indent (left_behind k s h) = margin_is s.levels (left_behind k s h) a.margins in
    let flat : not (ltb 0 (inner (stack_of s.keys))) ≡ eqb (flow_depth h) 0 = ap (λ d. not (ltb 0 d)) (inner_is (flow_depth h) (stack_of s.keys) a.behind.holds.keys.long) ∙ sym (flat_test (flow_depth h)) in
    let allow : allowed_behind h (gap_of text h) ≡ true = sym a.behind.allowed ∙ on in
    let here_col : (put_at k w text h).start.column ≡ column_at text s.at = ap (λ (m : yaml_mark_t). m.column) there in
    let one : (put_at k w text h).required ≡ (eqb (flow_depth h) 0 && eqb (indent (left_by k (flow_depth h) (put_at k w text h).start.column (open_levels h))) ((put_at k w text h).start.column + 1)) = rw (allow, may) refl in
    one ∙ ap (λ c. eqb (flow_depth h) 0 && eqb (indent (left_by k (flow_depth h) c (open_levels h))) (c + 1)) here_col
    ∙ ap (λ m. eqb (flow_depth h) 0 && eqb m (column_at text s.at + 1)) (sym margin)
    ∙ ap (λ b. b && eqb s.levels.margin (column_at text s.at + 1)) (sym flat)
    ∙ ap (λ c. not (ltb 0 (inner (stack_of s.keys))) && eqb s.levels.margin (c + 1)) (sym col)

-- what is left of the keys after a lexeme that may be one
pub record Saved (t : KeyStack) (old : Scanner) (l : Lexeme) (h : List Lexeme) : Type 0 where
  pub keys : AreKeysTo (flow_depth h) old.text.now t (l ∷ h) l.reached
  pub outer : t.required ≡ true → ((key_at t 0 ≡ key_at (stack_of old.keys) 0)
      × (candidate 0 (l ∷ h) ≡ candidate 0 h)) ⊎ (missed (candidate 0 (l ∷ h)) l.reached ≡ None)
  pub passed : t.passed ≤ old.keys.passed

kept_candidate : (l : Lexeme) (h : List Lexeme) → l.saved ≡ false → cancels l.kind ≡ false
    → candidate 0 (l ∷ h) ≡ candidate 0 h
kept_candidate l h free idle = elim (cases_lt 0 l.depth) [
  | inl deep ↦ lower 0 l h deep
  | inr low ↦ let flat : l.depth ≡ 0 = omega (arith, low) in ap (λ d. candidate d (l ∷ h)) (sym flat) ∙ top_kept l h free idle ∙ ap (λ d. candidate d h) flat
]

unmissed_one : (l : Lexeme) (m : ℕ) → (l.required ≡ true → is_fresh l.start l.reached ≡ true)
    → missed (Some (record { number = m; lexeme = l })) l.reached ≡ None
unmissed_one l m fresh_one = elim (cases_Bool l.required) [ inl must ↦ let f = fresh_one must in grind (arith, must, f) | inr idle ↦ rw idle refl ]

stays_put : (k : Kind) (w : WordText) (old : Scanner) (h : List Lexeme) (n : ℕ) → StandsAs k old h n
    → cancels k ≡ false → let l = put_at k w old.text.now h in
    l.saved ≡ false → Upto (reached h) l.reached → Saved (stack_of old.keys) old l h
stays_put k w old h n a idle free on =
    let l = put_at k w old.text.now h in
    record {
      keys = kept_turns (flow_depth h) old.text.now (stack_of old.keys) l h (reached h) a.behind.holds.keys on refl free idle;
      outer = λ must. inl (refl, kept_candidate l h free idle);
      passed = omega arith;
    }

takes_it : (k : Kind) (w : WordText) (old : Scanner) (h : List Lexeme) (n : ℕ) → StandsAs k old h n
    → may_be_key k ≡ true → old.key_allowed ≡ true
    → let l = put_at k w old.text.now h in
    l.saved ≡ true → Upto (reached h) l.reached
    → (l.required ≡ true → is_fresh l.start l.reached ≡ true)
    → Saved (saved (candidate_in old) l.required (stack_of old.keys)) old l h
takes_it k w old h n a may on keeps upto fresh_one =
    let text = old.text.now in
    let l = put_at k w text h in
    let s = stack_of old.keys in
    let key = candidate_in old in
    let t = saved key l.required s in
    let o = a.behind.holds.keys in
    let col : key.column ≡ column_at text old.at = place_column text old.at old.line old.wide a.behind.place in
    let start : key_mark text key ≡ l.start = ap (λ c. record { index = old.at; line = line_at text old.at; column = c }) col ∙ sym (stands_here k old h n a) in
    let number : key.number ≡ length h = omega (arith, a.behind.holds.row.count, length-entries h) in
    let same = inner_is (flow_depth h) s o.long in
    record {
      keys = saved_turns (flow_depth h) text s l h (reached h) key o upto refl keeps on start number a.behind.place.inside;
      outer = λ must. elim (cases_lt 0 (flow_depth h)) [
        | inl deep ↦
            let (c, there) = set_changes (flow_depth h) (inner s) s t key same refl (omega (arith, o.long)) in
            inl (c.outer 0 deep, lower 0 l h deep)
        | inr low ↦
            let flat : l.depth ≡ 0 = omega (arith, low) in
            inr (ap (λ d. missed (candidate d (l ∷ h)) l.reached) (sym flat) ∙ ap (λ c. missed c l.reached) (top_saved l h keeps) ∙ unmissed_one l (length h) fresh_one)
      ];
      passed = omega arith;
    }

pub saves_keys : (k : Kind) (w : WordText) (old : Scanner) (h : List Lexeme) (n : ℕ)
    → StandsAs k old h n → may_be_key k ≡ true → cancels k ≡ false
    → let l = put_at k w old.text.now h in Upto (reached h) l.reached
    → (old.key_allowed ≡ true → l.required ≡ true → is_fresh l.start l.reached ≡ true)
    → Saved (saves old) old l h
saves_keys k w old h n a may idle upto fresh_one =
    let text = old.text.now in
    let l = put_at k w text h in
    let kept : l.saved ≡ old.key_allowed = rw may (and_true (allowed_behind h (gap_of text h)) ∙ sym a.behind.allowed) in
    elim (cases_Bool old.key_allowed) [
      | inr none ↦
          let is : saves old ≡ stack_of old.keys = rw none refl in
          subst (λ t. Saved t old l h) (sym is) (stays_put k w old h n a idle (kept ∙ none) upto)
      | inl on ↦
          let must : l.required ≡ required_in_column (candidate_in old).column old = required_is k w old h n a may on in
          let is : saves old ≡ saved (candidate_in old) l.required (stack_of old.keys) = ap (λ b. cond b (saved (candidate_in old) (required_in_column (candidate_in old).column old) (stack_of old.keys)) (stack_of old.keys)) on ∙ ap (λ r. saved (candidate_in old) r (stack_of old.keys)) (sym must) in
          subst (λ t. Saved t old l h) (sym is) (takes_it k w old h n a may on (kept ∙ on) upto (fresh_one on))
    ]
  where
    and_true : (b : Bool) → (b && true) ≡ b
    and_true true = refl
    and_true false = refl
