-- Histories, a step at a time: what is before the earliest open candidate never changes.
use Rattle.std.proofs.Common.{◌≡◌, ◌≢◌, ℕ, zero, suc, ◌+◌, ◌-◌, ◌<◌, ◌≤◌, true, false, ltb, eqb, List, [], ◌∷◌, ◌++◌, length, take, Option, Some, None, refl, sym, ap, subst, ◌∙◌, inl, inr, ◌⊎◌, arith, append_assoc, length-append}
use Rattle.std.proofs.lemmas.Bool.{cases_Bool, cases_lt}
use Rattle.std.proofs.lemmas.Bool.Decides.{nat_tests}
use Rattle.std.proofs.lemmas.Grind.{common_steps}
use Rattle.std.proofs.lemmas.List.{take-append-le, take-take}
use Rattle.yaml_scan_model.specs.declared.record.yaml_mark_t.{yaml_mark_t}
use Rattle.yaml_scan_history.specs.declared.lexeme.Lexeme.{Lexeme}
use Rattle.yaml_scan_history.specs.declared.lexeme.Entry.{Entry}
use Rattle.yaml_scan_history.specs.Kinds.{is_value}
use Rattle.yaml_scan_history.specs.Remaining.{all, handed_out, handed}
use Rattle.yaml_scan_history.specs.History.{Candidate, candidate, is_fresh, fresh, has_number, first_open, mark_key, keyed, finished_tokens, reached, found_by, inside}
use Rattle.yaml_scan_history.specs.Next.{history, Next, Read, next, extended}
use Rattle.yaml_scan_history.specs.Laws.{Upto, GoesForward}

-- a candidate after one more lexeme is that lexeme, or was one before
pub candidate-more : (d : ℕ) (l : Lexeme) (h : List Lexeme) (c : Candidate)
    → candidate d (l ∷ h) ≡ Some c
    → (c.number ≡ length h) ⊎ (candidate d h ≡ Some c)
unfolding candidate
candidate-more d l h c e = grind (arith, nat_tests)

-- A candidate is a lexeme of the history.
pub candidate_below : (d : ℕ) (h : List Lexeme) (c : Candidate) → candidate d h ≡ Some c
    → c.number < length h
unfolding candidate
candidate_below d [] c e = grind (arith, nat_tests)
candidate_below d (l ∷ h) c e =
    elim (candidate-more d l h c e) [
      | inl same ↦ omega (arith, same)
      | inr before ↦ let low = candidate_below d h c before in omega (arith, low)
    ]

pub length-mark_key : (ls : List ℕ) (es : List Entry) (n : ℕ)
    → length (mark_key ls es n) ≡ length es
unfolding mark_key
length-mark_key ls [] n = refl
length-mark_key ls (e ∷ es) zero = refl
length-mark_key ls (e ∷ es) (suc n) = ap suc (length-mark_key ls es n)

-- Setting a key keeps how many entries there are.
pub length-keyed : (l : Lexeme) (h : List Lexeme) (es : List Entry)
    → length (keyed l h es) ≡ length es
length-keyed l h es = grind (arith, length-mark_key)

-- Each lexeme has one entry.
pub length-entries : (h : List Lexeme) → length (finished_tokens h) ≡ length h
unfolding finished_tokens
length-entries [] = refl
length-entries (l ∷ h) = grind (arith, common_steps, length-keyed l h (finished_tokens h), length-entries h)

pub take-mark_key : (ls : List ℕ) (n : ℕ) (es : List Entry) (k : ℕ) → n ≤ k
    → take n (mark_key ls es k) ≡ take n es
unfolding mark_key
take-mark_key ls n [] k h = refl
take-mark_key ls zero (e ∷ es) zero h = refl
take-mark_key ls zero (e ∷ es) (suc k) h = refl
take-mark_key ls (suc n) (e ∷ es) zero h = absurd (omega arith)
take-mark_key ls (suc n) (e ∷ es) (suc k) h = ap (λ r. e ∷ r) (take-mark_key ls n es k (omega arith))

-- the earliest open candidate is below the length
pub first_open-le : (all h : List Lexeme) → first_open all h ≤ length h
unfolding first_open
first_open-le all [] = omega arith
first_open-le all (l ∷ h) =
    let before = first_open-le all h in
    grind (arith, nat_tests)

-- what is fresh at a place is fresh before it
pub near_before : (s p q : yaml_mark_t) → p.index ≤ q.index → p.line ≤ q.line → is_fresh s q ≡ true
    → is_fresh s p ≡ true
near_before s p q i l h = grind (arith, nat_tests)

-- what is fresh later was fresh before
pub fresh_before : (o : Option Candidate) (p q : yaml_mark_t) (c : Candidate) → fresh o q ≡ Some c
    → Upto p q → fresh o p ≡ Some c
fresh_before o p q c e u = grind arith

-- A fresh candidate is the one that was asked for.
pub fresh_is : (o : Option Candidate) (p : yaml_mark_t) (c : Candidate) → fresh o p ≡ Some c
    → o ≡ Some c
fresh_is o p c e = grind arith

-- a lexeme of the history that is an open candidate
abbrev pub IsOpen : List Lexeme → ℕ → ℕ → Type 0
IsOpen all d n = (c : Candidate) × (fresh (candidate d all) (reached all) ≡ Some c) × (c.number ≡ n)

number_is : (o : Option Candidate) (n : ℕ) → has_number o n ≡ true
    → (c : Candidate) × (o ≡ Some c) × (c.number ≡ n)
number_is o n h = grind arith

number_yes : (o : Option Candidate) (n : ℕ) (c : Candidate) → o ≡ Some c → c.number ≡ n
    → has_number o n ≡ true
number_yes None n c e m = cc
number_yes (Some x) n c e m = let same : x ≡ c = cc in rw same (grind (arith, nat_tests))

-- the earliest open candidate is one
pub first_open-is : (all h : List Lexeme) → first_open all h < length h
    → (d : ℕ) × IsOpen all d (first_open all h)
unfolding first_open
first_open-is all [] h = absurd (omega arith)
first_open-is all (l ∷ h) lt =
    elim (cases_lt (first_open all h) (length h)) [
      | inl below ↦
          let t : ltb (first_open all h) (length h) ≡ true = grind (arith, nat_tests) in
          rw t (first_open-is all h below)
      | inr past ↦
          let t : ltb (first_open all h) (length h) ≡ false = grind (arith, nat_tests) in
          elim (cases_Bool (has_number (fresh (candidate l.depth all) (reached all)) (length h))) [
            | inl y ↦ rw (t, y) (l.depth, number_is _ _ y)
            | inr n ↦ let bad = rw (t, n) at lt in absurd (omega (arith, bad))
          ]
    ]

-- the lexeme of a candidate is at its depth
depth_is : (d : ℕ) (newer : List Lexeme) (l : Lexeme) (h : List Lexeme) (c : Candidate)
    → candidate d (newer ++ l ∷ h) ≡ Some c → c.number ≡ length h → l.depth ≡ d
unfolding candidate
depth_is d [] l h c e n =
    let low = candidate_below d h c in
    elim (cases_Bool (eqb l.depth d)) [
      | inl y ↦ grind (arith, nat_tests)
      | inr k ↦
          elim (cases_Bool (ltb l.depth d)) [
            | inl below ↦ let bad = rw (k, below) at e in cc
            | inr above ↦ let same : candidate d h ≡ Some c = rw (k, above) at e in absurd (omega (arith, low same))
          ]
    ]
depth_is d (x ∷ newer) l h c e n =
    elim (candidate-more d x (newer ++ l ∷ h) c e) [
      | inl top ↦ absurd (omega (arith, top, length-append newer (l ∷ h)))
      | inr before ↦ depth_is d newer l h c before n
    ]

-- no open candidate is earlier
first_open-least_of : (newer h : List Lexeme) (d n : ℕ) → IsOpen (newer ++ h) d n → n < length h
    → first_open (newer ++ h) h ≤ n
unfolding first_open
first_open-least_of newer [] d n o lt = absurd (omega arith)
first_open-least_of newer (l ∷ h) d n o lt =
    let all : List Lexeme = newer ++ l ∷ h in
    let regroup : (newer ++ l ∷ []) ++ h ≡ newer ++ l ∷ h = append_assoc newer (l ∷ []) h in
    elim (cases_lt n (length h)) [
      | inl below ↦
          let IsAt : List Lexeme → Type 0 = λ xs. IsOpen xs d n in
          let below_all : List Lexeme → Type 0 = λ xs. first_open xs h ≤ n in
          let before : first_open all h ≤ n = subst below_all regroup (first_open-least_of (newer ++ l ∷ []) h d n (subst IsAt (sym regroup) o) below) in
          let t : ltb (first_open all h) (length h) ≡ true = grind (arith, nat_tests) in
          rw t before
      | inr past ↦
          let here : n ≡ length h = omega arith in
          let (c, f, m) = o in
          let same = depth_is d newer l h c (fresh_is _ _ c f) (m ∙ here) in
          let y : has_number (fresh (candidate l.depth all) (reached all)) (length h) ≡ true = number_yes _ (length h) c (ap (λ x. fresh (candidate x all) (reached all)) same ∙ f) (m ∙ here) in
          elim (cases_Bool (ltb (first_open all h) (length h))) [
            | inl t ↦ rw t (grind (arith, nat_tests))
            | inr t ↦ rw (t, y) (omega arith)
          ]
    ]

-- The first lexeme that is open is no later than any that is.
pub first_open-least : (h : List Lexeme) (d n : ℕ) → IsOpen h d n → n < length h
    → first_open h h ≤ n
first_open-least h d n o lt = first_open-least_of [] h d n o lt

-- the earliest open candidate never goes back
pub first_open-grows : (l : Lexeme) (h : List Lexeme) → Upto (reached h) l.reached
    → first_open h h ≤ first_open (l ∷ h) (l ∷ h)
first_open-grows l h further =
    let now : ℕ = first_open (l ∷ h) (l ∷ h) in
    let old = first_open-le h h in
    elim (cases_lt now (length h)) [
      | inl below ↦
          let (d, (c, f, m)) = first_open-is (l ∷ h) (l ∷ h) (omega arith) in
          let was = fresh_is (candidate d (l ∷ h)) l.reached c f in
          let still = fresh_before (candidate d (l ∷ h)) (reached h) l.reached c f further in
          elim (candidate-more d l h c was) [
            | inl top ↦ absurd (omega (arith, top, m))
            | inr before ↦ first_open-least h d now (c, ap (λ (o : Option Candidate). fresh o (reached h)) (before ∙ sym was) ∙ still, m) below
          ]
      | inr past ↦ omega arith
    ]

-- nothing, or something
pub cases_Option : {A : Type 0} (o : Option A) → (o ≡ None) ⊎ ((x : A) × (o ≡ Some x))
cases_Option None = inl refl
cases_Option (Some x) = inr (x, refl)

take-keyed : (l : Lexeme) (h : List Lexeme) (es : List Entry) (n : ℕ) → Upto (reached h) l.start
    → n ≤ first_open h h → take n (keyed l h es) ≡ take n es
take-keyed l h es n further room =
    elim (cases_Bool (is_value l.kind)) [
      | inr other ↦ rw other refl
      | inl value ↦
          elim (cases_Option (found_by l h)) [
            | inl none ↦ rw (value, none) refl
            | inr (c, some) ↦
                let open_before : IsOpen h l.depth c.number = (c, fresh_before _ _ _ c some further, refl) in
                let low = candidate_below l.depth h c (fresh_is _ _ c some) in
                let least = first_open-least h l.depth c.number open_before low in
                rw (value, some) (take-mark_key (inside l h) n es c.number (omega (arith, least, room)))
          ]
    ]

-- one more lexeme leaves the marks of what is before the earliest open candidate
pub take-entries : (l : Lexeme) (h : List Lexeme) (n : ℕ) → Upto (reached h) l.start
    → n ≤ first_open h h → take n (finished_tokens (l ∷ h)) ≡ take n (finished_tokens h)
unfolding finished_tokens
take-entries l h n further room = grind (arith, first_open-le, length-keyed, length-entries, take-append-le, take-keyed)

take-extended : (text : List ℕ) (h : List Lexeme)
    → ((l : Lexeme) → next text h ≡ Read l → Upto (reached h) l.start × Upto l.start l.reached)
    → (n : ℕ) (x : Next) → next text h ≡ x → n ≤ first_open h h
    → (take n (finished_tokens (extended x h)) ≡ take n (finished_tokens h))
    × (first_open h h ≤ first_open (extended x h) (extended x h))
take-extended text h go n x e room = grind (arith, take-entries, first_open-grows)

-- further steps leave the marks of what is before the earliest open candidate
pub take-history : (text : List ℕ) → GoesForward text → (n k m : ℕ) → let h = history text n in
    m ≤ first_open h h
    → (take m (finished_tokens (history text (k + n))) ≡ take m (finished_tokens h))
    × (m ≤ first_open (history text (k + n)) (history text (k + n)))
unfolding history
take-history text go n zero m room = let z : 0 + n ≡ n = omega arith in rw z (refl, room)
take-history text go n (suc k) m room =
    let (same, more) = take-history text go n k m room in
    let h = history text (k + n) in
    let (step, grown) = take-extended text h (go (k + n)) m (next text h) refl more in
    let z : suc k + n ≡ suc (k + n) = omega arith in
    rw z (step ∙ same, omega (arith, more, grown))

-- what is no lexeme adds none
pub not_read : (x : Next) (h : List Lexeme) → ((l : Lexeme) → x ≢ Read l) → extended x h ≡ h
not_read x h never = grind arith

-- nothing comes after the end or a fault
pub stays : (text : List ℕ) (n k : ℕ) → ((l : Lexeme) → next text (history text n) ≢ Read l)
    → history text (k + n) ≡ history text n
unfolding history
stays text n zero h = let z : 0 + n ≡ n = omega arith in rw z refl
stays text n (suc k) h =
    let before = stays text n k h in
    let z : suc k + n ≡ suc (k + n) = omega arith in
    rw (z, before) (not_read (next text (history text n)) (history text n) h)

take-handed_out : (x : Next) (h : List Lexeme) (m : ℕ) → m ≤ first_open h h
    → take m (handed_out x h) ≡ take m (finished_tokens h)
take-handed_out x h m room = grind (arith, take-take)

-- What is before the earliest open candidate is handed out as it is.
pub take-handed : (text : List ℕ) → GoesForward text → (n m : ℕ) → n ≤ length text + 2
    → m ≤ first_open (history text n) (history text n)
    → take m (handed text) ≡ take m (finished_tokens (history text n))
unfolding handed all
take-handed text go n m room low =
    let k : length text + 2 - n + n ≡ length text + 2 = omega arith in
    let P : ℕ → Type 0 = λ x. (take m (finished_tokens (history text x)) ≡ take m (finished_tokens (history text n))) × (m ≤ first_open (history text x) (history text x)) in
    let (same, more) = subst P k (take-history text go n (length text + 2 - n) m low) in
    take-handed_out (next text (history text (length text + 2))) (history text (length text + 2)) m more ∙ same
