-- What a lexeme makes of the keys, and which of them is the earliest.
use Rattle.std.proofs.Common.{◌≡◌, ◌∙◌, ℕ, ◌+◌, ◌-◌, ◌<◌, ◌≤◌, inl, inr, Bool, true, false, cond, eqb, List, [], ◌∷◌, length, get_or, Option, Some, None, refl, sym, ap, arith}
use Rattle.yaml_scan_core.proofs.Words.{cases_lt, cases_order, cases_Option, nat_tests, set, get_or_append_left, get_or_past, get_or_at, yaml_mark_t, Lexeme, cancels, Candidate, candidate, flow_depth, fresh, first_open, first_open-le, reached, Upto, fresh_before, fresh_is, candidate_below, history, SimpleKey, KeyStack, key_at, inner, saved, given_up, key_opened, key_closed, no_key, view_of, number_in, key_mark, key_view, fresh_key, AreStale, IsKey, AreKeysTo, AreKeys, required_in, required_at}
use Rattle.std.proofs.lemmas.List.{length-append, length-set, length-take-le, get_or-take, get_or-set_same, get_or-set_other}
use Rattle.yaml_scan_history.proofs.HistoryLemmas.{near_before, first_open-is, first_open-least}
use Rattle.yaml_scan_core.proofs.StepLemmas.{candidate_top, none_deeper}

-- ---- the candidates after one more lexeme

pub lower : (d : ℕ) (l : Lexeme) (h : List Lexeme) → d < l.depth
    → candidate d (l ∷ h) ≡ candidate d h
unfolding candidate
lower d l h b = grind (arith, nat_tests)

pub deeper : (d : ℕ) (l : Lexeme) (h : List Lexeme) → l.depth < d → candidate d (l ∷ h) ≡ None
unfolding candidate
deeper d l h b = grind (arith, nat_tests)

pub top_saved : (l : Lexeme) (h : List Lexeme) → l.saved ≡ true
    → candidate l.depth (l ∷ h) ≡ Some (record { number = length h; lexeme = l })
unfolding candidate
top_saved l h s = grind (arith, nat_tests)

pub top_cancelled : (l : Lexeme) (h : List Lexeme) → l.saved ≡ false → cancels l.kind ≡ true
    → candidate l.depth (l ∷ h) ≡ None
unfolding candidate
top_cancelled l h s e = grind (arith, nat_tests)

pub top_kept : (l : Lexeme) (h : List Lexeme) → l.saved ≡ false → cancels l.kind ≡ false
    → candidate l.depth (l ∷ h) ≡ candidate l.depth h
unfolding candidate
top_kept l h s e = grind (arith, nat_tests)

-- ---- places

pub upto_here : (p : yaml_mark_t) → Upto p p
upto_here p = (omega arith, omega arith)

pub upto_on : (p q r : yaml_mark_t) → Upto p q → Upto q r → Upto p r
upto_on p q r u v = (omega (arith, u.0, v.0), omega (arith, u.1, v.1))

-- ---- the keys

-- a key that is stale stays so
pub stays_stale : (text : List ℕ) (k : SimpleKey) (p q : yaml_mark_t) → fresh_key text k p ≡ None
    → Upto p q → fresh_key text k q ≡ None
stays_stale text k p q e u = grind (arith, near_before (key_mark text k) p q u.0 u.1)

-- as does a candidate
pub stays_gone : (o : Option Candidate) (p q : yaml_mark_t) → fresh o p ≡ None → Upto p q
    → fresh o q ≡ None
stays_gone o p q e u = elim (cases_Option (fresh o q)) [ inl none ↦ none | inr (c, some) ↦ let bad = fresh_before o p q c some u in cc ]

pub later_key : (text : List ℕ) (k : SimpleKey) (o c : Option Candidate) (p q : yaml_mark_t)
    → IsKey text k o p → Upto p q → c ≡ o → IsKey text k c q
later_key text k o c p q is u same r v = is r (upto_on p q r u v) ∙ ap (λ x. view_of (fresh x r)) (sym same)

-- a key that is stale there is any candidate that is
pub gone_key : (text : List ℕ) (k : SimpleKey) (o : Option Candidate) (p : yaml_mark_t)
    → fresh_key text k p ≡ None → fresh o p ≡ None → IsKey text k o p
gone_key text k o p stale gone q u = stays_stale text k p q stale u ∙ sym (ap view_of (stays_gone o p q gone u))

-- a key that was saved is that lexeme
pub new_key : (text : List ℕ) (k : SimpleKey) (l : Lexeme) (n : ℕ) (p : yaml_mark_t)
    → k.possible ≡ true → key_mark text k ≡ l.start → k.number ≡ n
    → IsKey text k (Some (record { number = n; lexeme = l })) p
new_key text k l n p on at number q u =
    let view : key_view text k ≡ record { number = n; start = l.start } = rw (at, number) refl in
    rw (on, at) (grind (arith, view))

-- what changes of a lexeme's keys at its own level alone
pub record ChangesAt (n : ℕ) (s t : KeyStack) : Type 0 where
  pub long : length t.levels ≡ length s.levels
  pub outer : (d : ℕ) → d < n → key_at t d ≡ key_at s d

-- the keys after one more lexeme, by that of its own level
pub turns : (n : ℕ) (text : List ℕ) (s t : KeyStack) (l : Lexeme) (h : List Lexeme)
    (p : yaml_mark_t)
    → AreKeysTo n text s h p → Upto p l.reached → l.depth ≡ n → ChangesAt n s t
    → (key_at t n).index ≤ length text
    → IsKey text (key_at t n) (candidate n (l ∷ h)) l.reached
    → t.passed ≤ s.passed → (n < t.passed → fresh_key text (key_at t n) l.reached ≡ None)
    → (n ≡ 0 → required_in (candidate 0 (l ∷ h)) ≡ required_at text t)
    → (0 < n → t.required ≡ s.required)
    → AreKeysTo n text t (l ∷ h) l.reached
turns n text s t l h p a u at c within top few none own outside =
    let q = l.reached in
    record {
      long = c.long ∙ a.long;
      inside = λ d. elim (cases_order d n) [
        | inl same ↦ rw same within
        | inr (inl low) ↦ rw (c.outer d low) (a.inside d)
        | inr (inr high) ↦ rw (get_or_past t.levels d no_key (omega (arith, high, c.long, a.long))) (omega arith)
      ];
      agrees = λ d le. elim (cases_lt d n) [
        | inl low ↦ rw (c.outer d low) (later_key text (key_at s d) (candidate d h) (candidate d (l ∷ h)) p q (a.agrees d le) u (lower d l h (omega (arith, at, low))))
        | inr high ↦ let same : d ≡ n = omega (arith, le, high) in rw same top
      ];
      few = omega (arith, few, a.few, c.long);
      stale = λ d lt. elim (cases_order d n) [
        | inl same ↦ rw same (none (omega (arith, lt, same)))
        | inr (inl low) ↦ rw (c.outer d low) (stays_stale text (key_at s d) p q (a.stale d (omega (arith, lt, few))) u)
        | inr (inr high) ↦ rw (get_or_past t.levels d no_key (omega (arith, high, c.long, a.long))) refl
      ];
      due = elim (cases_lt 0 n) [
        | inr flat ↦ own (omega (arith, flat))
        | inl some ↦ ap required_in (lower 0 l h (omega (arith, at, some))) ∙ a.due ∙ (rw (outside some, c.outer 0 some) refl)
      ];
    }

-- ---- the steps of code

-- a lexeme that leaves its level's candidate
pub kept_turns : (n : ℕ) (text : List ℕ) (s : KeyStack) (l : Lexeme) (h : List Lexeme)
    (p : yaml_mark_t)
    → AreKeysTo n text s h p → Upto p l.reached → l.depth ≡ n → l.saved ≡ false
    → cancels l.kind ≡ false → AreKeysTo n text s (l ∷ h) l.reached
kept_turns n text s l h p a u at free idle =
    let q = l.reached in
    let same : candidate n (l ∷ h) ≡ candidate n h = ap (λ d. candidate d (l ∷ h)) (sym at) ∙ top_kept l h free idle ∙ ap (λ d. candidate d h) at in
    turns n text s s l h p a u at record { long = refl; outer = λ d lt. refl } (a.inside n)
    (later_key text (key_at s n) (candidate n h) (candidate n (l ∷ h)) p q (a.agrees n (omega arith)) u same)
    (omega arith) (λ lt. stays_stale text (key_at s n) p q (a.stale n lt) u)
    (λ z. ap (λ d. required_in (candidate d (l ∷ h))) (sym z) ∙ ap required_in same ∙ ap (λ d. required_in (candidate d h)) z ∙ a.due)
    (λ lt. refl)

pub inner_is : (n : ℕ) (s : KeyStack) → length s.levels ≡ n + 1 → inner s ≡ n
inner_is n s e = omega arith

pub set_changes : (n m : ℕ) (s t : KeyStack) (k : SimpleKey) → m ≡ n → t.levels ≡ set s.levels m k
    → n < length s.levels → ChangesAt n s t × (key_at t n ≡ k)
set_changes n m s t k at is lt = (
  record {
    long = ap (λ (ks : List SimpleKey). length ks) is ∙ length-set s.levels m k;
    outer = λ d low. ap (λ (ks : List SimpleKey). get_or ks d no_key) is ∙ get_or-set_other s.levels m d k no_key (λ e. absurd (omega arith));
  },
  ap (λ (ks : List SimpleKey). get_or ks n no_key) is ∙ ap (λ i. get_or (set s.levels i k) n no_key) at ∙ get_or-set_same s.levels n k no_key lt,
)

pub cond_zero : {A : Type 0} (n : ℕ) (x y : A) → n ≡ 0 → cond (eqb n 0) x y ≡ x
cond_zero n x y e = rw e refl

required_of : (text : List ℕ) (t : KeyStack) (k : SimpleKey) (r : Bool) (m : yaml_mark_t)
    → t.required ≡ r → key_at t 0 ≡ k → key_mark text k ≡ m
    → required_at text t ≡ cond r (Some m) None
required_of text t k r m e f g = rw (e, f, g) refl

pub cond_some : {A : Type 0} (n : ℕ) (x y : A) → 0 < n → cond (eqb n 0) x y ≡ y
cond_some n x y lt = let no : eqb n 0 ≡ false = grind (arith, nat_tests) in rw no refl

-- a lexeme that may be a key
pub saved_turns : (n : ℕ) (text : List ℕ) (s : KeyStack) (l : Lexeme) (h : List Lexeme)
    (p : yaml_mark_t) (k : SimpleKey)
    → AreKeysTo n text s h p → Upto p l.reached → l.depth ≡ n → l.saved ≡ true
    → k.possible ≡ true → key_mark text k ≡ l.start → k.number ≡ length h → k.index ≤ length text
    → AreKeysTo n text (saved k l.required s) (l ∷ h) l.reached
saved_turns n text s l h p k a u at keeps on start number within =
    let q = l.reached in
    let t = saved k l.required s in
    let same = inner_is n s a.long in
    let (c, here) = set_changes n (inner s) s t k same refl (omega (arith, a.long)) in
    let top : candidate n (l ∷ h) ≡ Some (record { number = length h; lexeme = l }) = ap (λ d. candidate d (l ∷ h)) (sym at) ∙ top_saved l h keeps in
    let few : t.passed ≤ n = omega (arith, same) in
    let own : (z : n ≡ 0) → t.required ≡ l.required = λ z. cond_zero (inner s) l.required s.required (same ∙ z) in
    turns n text s t l h p a u at c (rw here within)
    (rw (here, top) (new_key text k l (length h) q on start number))
    (omega arith) (λ lt. absurd (omega (arith, lt, few)))
    (λ z. ap (λ d. required_in (candidate d (l ∷ h))) (sym z) ∙ ap required_in top ∙ sym (required_of text t k l.required l.start (own z) (ap (λ d. key_at t d) (sym z) ∙ here) start))
    (λ lt. cond_some (inner s) l.required s.required (omega (arith, same, lt)))

-- a lexeme that cancels its level's candidate
pub cancelled_turns : (n : ℕ) (text : List ℕ) (s : KeyStack) (l : Lexeme) (h : List Lexeme)
    (p : yaml_mark_t)
    → AreKeysTo n text s h p → Upto p l.reached → l.depth ≡ n → l.saved ≡ false
    → cancels l.kind ≡ true → AreKeysTo n text (given_up s) (l ∷ h) l.reached
cancelled_turns n text s l h p a u at free stops =
    let q = l.reached in
    let t = given_up s in
    let k : SimpleKey = record (key_at s (inner s)) { possible = false } in
    let same = inner_is n s a.long in
    let (c, here) = set_changes n (inner s) s t k same refl (omega (arith, a.long)) in
    let top : candidate n (l ∷ h) ≡ None = ap (λ d. candidate d (l ∷ h)) (sym at) ∙ top_cancelled l h free stops in
    let none : (r : yaml_mark_t) → fresh_key text (key_at t n) r ≡ None = λ r. rw here refl in
    let own : (z : n ≡ 0) → t.required ≡ false = λ z. cond_zero (inner s) false s.required (same ∙ z) in
    turns n text s t l h p a u at c (rw here (a.inside (inner s)))
    (rw top (gone_key text (key_at t n) None q (none q) refl))
    (omega arith) (λ lt. none q)
    (λ z. ap (λ d. required_in (candidate d (l ∷ h))) (sym z) ∙ ap required_in top ∙ (rw (own z) refl))
    (λ lt. cond_some (inner s) false s.required (omega (arith, same, lt)))

-- a `:` that finds its level's candidate stale, which isn't required
pub stale_turns : (n : ℕ) (text : List ℕ) (s : KeyStack) (l : Lexeme) (h : List Lexeme)
    (p : yaml_mark_t)
    → AreKeysTo n text s h p → Upto p l.reached → l.depth ≡ n → l.saved ≡ false
    → cancels l.kind ≡ true → fresh_key text (key_at s n) l.reached ≡ None
    → (n ≡ 0 → s.required ≡ false) → AreKeysTo n text s (l ∷ h) l.reached
stale_turns n text s l h p a u at free stops stale idle =
    let q = l.reached in
    let top : candidate n (l ∷ h) ≡ None = ap (λ d. candidate d (l ∷ h)) (sym at) ∙ top_cancelled l h free stops in
    turns n text s s l h p a u at record { long = refl; outer = λ d lt. refl } (a.inside n)
    (rw top (gone_key text (key_at s n) None q stale refl))
    (omega arith) (λ lt. stale)
    (λ z. ap (λ d. required_in (candidate d (l ∷ h))) (sym z) ∙ ap required_in top ∙ (rw (idle z) refl))
    (λ lt. refl)

-- after an opener a level more, with no candidate
pub opened_turns : (n : ℕ) (text : List ℕ) (s : KeyStack) (l : Lexeme) (h : List Lexeme)
    (q : yaml_mark_t) → AreKeysTo n text s (l ∷ h) q → l.depth ≡ n
    → AreKeysTo (n + 1) text (key_opened s) (l ∷ h) q
opened_turns n text s l h q a at =
    let t = key_opened s in
    let more : length t.levels ≡ length s.levels + 1 = length-append s.levels (no_key ∷ []) in
    let old : (d : ℕ) → key_at t d ≡ key_at s d = λ d. elim (cases_order d (length s.levels)) [
      | inl same ↦ get_or_at s.levels no_key [] no_key d (sym same) ∙ sym (get_or_past s.levels d no_key (omega (arith, same)))
      | inr (inl low) ↦ get_or_append_left s.levels (no_key ∷ []) no_key d low
      | inr (inr high) ↦ get_or_past t.levels d no_key (omega (arith, more, high)) ∙ sym (get_or_past s.levels d no_key (omega (arith, high)))
    ] in record {
      long = omega (arith, more, a.long);
      inside = λ d. rw (old d) (a.inside d);
      agrees = λ d le. elim (cases_lt d (n + 1)) [
        | inl low ↦ rw (old d) (a.agrees d (omega (arith, low)))
        | inr high ↦ rw (old d, get_or_past s.levels d no_key (omega (arith, high, a.long)), deeper d l h (omega (arith, high, at))) (λ r v. refl)
      ];
      few = omega (arith, more, a.few);
      stale = λ d lt. rw (old d) (a.stale d lt);
      due = a.due ∙ (rw (old 0) refl);
    }

-- after a closer a level less
pub closed_turns : (n : ℕ) (text : List ℕ) (s : KeyStack) (l : Lexeme) (h : List Lexeme)
    (p : yaml_mark_t)
    → AreKeysTo n text s h p → Upto p l.reached → l.depth ≡ n → 0 < n
    → AreKeysTo (n - 1) text (key_closed s) (l ∷ h) l.reached
closed_turns n text s l h p a u at some =
    let q = l.reached in
    let t = key_closed s in
    let same = inner_is n s a.long in
    let less : length t.levels ≡ n = length-take-le (inner s) s.levels (omega arith) ∙ same in
    let old : (d : ℕ) → d < n → key_at t d ≡ key_at s d = λ d lt. get_or-take (inner s) s.levels d no_key (omega (arith, same, lt)) in
    let few : t.passed ≤ n = omega (arith, same) in record {
      long = omega (arith, less);
      inside = λ d. elim (cases_lt d n) [
        | inl low ↦ rw (old d low) (a.inside d)
        | inr high ↦ rw (get_or_past t.levels d no_key (omega (arith, high, less))) (omega arith)
      ];
      agrees = λ d le. let low : d < n = omega (arith, le, some) in
          rw (old d low) (later_key text (key_at s d) (candidate d h) (candidate d (l ∷ h)) p q (a.agrees d (omega (arith, low))) u (lower d l h (omega (arith, at, low))));
      few = omega (arith, few, less);
      stale = λ d lt. let low : d < n = omega (arith, lt, few) in
          rw (old d low) (stays_stale text (key_at s d) p q (a.stale d (omega (arith, lt))) u);
      due = ap required_in (lower 0 l h (omega (arith, at, some))) ∙ a.due ∙ (rw (old 0 some) refl);
    }

-- ---- what the keys answer

-- the candidate whose number a key gives
pub found_candidate : (text : List ℕ) (k : SimpleKey) (o : Option Candidate) (p : yaml_mark_t)
    (n : ℕ)
    → fresh_key text k p ≡ view_of (fresh o p) → Some n ≡ number_in (fresh_key text k p)
    → (c : Candidate) × (fresh o p ≡ Some c) × (c.number ≡ n)
found_candidate text k o p n agrees is = elim (cases_Option (fresh o p)) [ inl none ↦ let bad = rw (agrees, none) at is in cc | inr (c, some) ↦ (c, some, let same = rw (agrees, some) at is in cc) ]

-- a candidate of a level further in is a later one
deeper_later : (h : List Lexeme) (d e : ℕ) (c x : Candidate) → candidate d h ≡ Some c
    → candidate e h ≡ Some x → d < e → c.number < x.number
unfolding candidate
deeper_later [] d e c x is ix deep = cc
deeper_later (l ∷ h) d e c x is ix deep = grind (arith, nat_tests, candidate_top e l h x ix, candidate_top d l h c is, candidate_below d h c, deeper e l h, deeper_later h d e c x)

-- where a key is stale its candidate is
gone_of : (text : List ℕ) (k : SimpleKey) (o : Option Candidate) (p : yaml_mark_t)
    → IsKey text k o p → fresh_key text k p ≡ None → fresh o p ≡ None
gone_of text k o p is stale = elim (cases_Option (fresh o p)) [ inl gone ↦ gone | inr (c, some) ↦ let bad = sym stale ∙ is p (upto_here p) ∙ ap view_of some in cc ]

-- keys of which more are passed
pub passed_keys : (n : ℕ) (text : List ℕ) (s t : KeyStack) (h : List Lexeme) (p : yaml_mark_t)
    → AreKeysTo n text s h p → t ≡ record s { passed = t.passed } → t.passed ≤ length t.levels
    → AreStale text t p → AreKeysTo n text t h p
passed_keys n text s t h p a is few stale =
    let low : t.passed ≤ length s.levels = rw is at few in
    let gone : AreStale text (record s { passed = t.passed }) p = rw is at stale in
    rw is record { long = a.long; inside = a.inside; agrees = a.agrees; few = low; stale = gone; due = a.due }

-- the first key that isn't stale is the earliest open candidate
pub some_settles : (text : List ℕ) (t : KeyStack) (h : List Lexeme) (n : ℕ)
    → AreKeys text t h (reached h)
    → Some n ≡ number_in (fresh_key text (key_at t t.passed) (reached h)) → n ≡ first_open h h
some_settles text t h n a some =
    let q = reached h in
    let d = t.passed in
    let within : d ≤ flow_depth h = elim (cases_lt d (length t.levels)) [
      | inl low ↦ omega (arith, low, a.long)
      | inr high ↦ let bad = rw (get_or_past t.levels d no_key high) at some in cc
    ] in
    let (c, here, number) = found_candidate text (key_at t d) (candidate d h) q n (a.agrees d within q (upto_here q)) some in
    let below = candidate_below d h c (fresh_is (candidate d h) q c here) in
    let least = first_open-least h d n (c, here, number) (omega (arith, below, number)) in
    let (e, (x, there, first)) = first_open-is h h (omega (arith, below, least, number)) in
    elim (cases_order d e) [
      | inl same ↦ let both : fresh (candidate d h) q ≡ fresh (candidate e h) q = ap (λ z. fresh (candidate z h) q) same in cc
      | inr (inl inside) ↦ omega (arith, deeper_later h d e c x (fresh_is (candidate d h) q c here) (fresh_is (candidate e h) q x there) inside, first, number, least)
      | inr (inr outside) ↦ let gone = gone_of text (key_at t e) (candidate e h) q (a.agrees e (omega (arith, outside, within))) (a.stale e outside) in cc
    ]

-- where all are stale no candidate is open
pub none_settles : (text : List ℕ) (t : KeyStack) (n : ℕ) → let h = history text n in
    AreKeys text t h (reached h) → t.passed ≡ length t.levels → length h ≡ first_open h h
none_settles text t n a last =
    let h = history text n in
    let q = reached h in
    elim (cases_lt (first_open h h) (length h)) [
      | inr past ↦ omega (arith, past, first_open-le h h)
      | inl less ↦
          let (e, (x, there, first)) = first_open-is h h less in
          let gone : fresh (candidate e h) q ≡ None = elim (cases_lt (flow_depth h) e) [
            | inl deep ↦ ap (λ o. fresh o q) (none_deeper text n e deep)
            | inr shallow ↦ gone_of text (key_at t e) (candidate e h) q (a.agrees e shallow) (a.stale e (omega (arith, shallow, a.long, last)))
          ] in cc
    ]

-- the number that the keys give, or how many lexemes there are
abbrev pub told_first : Option ℕ → ℕ → ℕ
told_first None n = n
told_first (Some m) n = m

pub settles : (text : List ℕ) (t : KeyStack) (n : ℕ) (r : Option ℕ) → let h = history text n in
    AreKeys text t h (reached h) → r ≡ number_in (fresh_key text (key_at t t.passed) (reached h))
    → (r ≡ None → t.passed ≡ length t.levels) → told_first r (length h) ≡ first_open h h
settles text t n None a is last = none_settles text t n a (last refl)
settles text t n (Some m) a is last = some_settles text t (history text n) m a is

-- Where the block level's candidate is open it is the earliest, whatever the other levels have.
pub outer_settles : (text : List ℕ) (t : KeyStack) (h : List Lexeme) (r : Option ℕ) (n : ℕ)
    (c : Candidate)
    → fresh_key text (key_at t 0) (reached h) ≡ view_of (fresh (candidate 0 h) (reached h))
    → fresh (candidate 0 h) (reached h) ≡ Some c → AreStale text t (reached h)
    → r ≡ number_in (fresh_key text (key_at t t.passed) (reached h))
    → told_first r n ≡ first_open h h
outer_settles text t h r n c agrees here stale is =
    let q = reached h in
    let view : fresh_key text (key_at t 0) q ≡ Some (record { number = c.number; start = c.lexeme.start }) = agrees ∙ ap view_of here in
    let none : t.passed ≡ 0 = elim (cases_lt 0 t.passed) [ inl some ↦ let bad = sym (stale 0 some) ∙ view in cc | inr flat ↦ omega (arith, flat) ] in
    let told : r ≡ Some c.number = is ∙ ap (λ d. number_in (fresh_key text (key_at t d) q)) none ∙ ap number_in view in
    let below = candidate_below 0 h c (fresh_is (candidate 0 h) q c here) in
    let least = first_open-least h 0 c.number (c, here, refl) below in
    let (e, (x, there, first)) = first_open-is h h (omega (arith, below, least)) in
    rw told (elim (cases_lt 0 e) [
      | inl inside ↦ omega (arith, deeper_later h 0 e c x (fresh_is (candidate 0 h) q c here) (fresh_is (candidate e h) q x there) inside, first, least)
      | inr flat ↦ let at : e ≡ 0 = omega (arith, flat) in let both : fresh (candidate e h) q ≡ fresh (candidate 0 h) q = ap (λ z. fresh (candidate z h) q) at in let same : x ≡ c = cc in omega (arith, ap (λ (y : Candidate). y.number) same, first)
    ])
