-- What looking back gives is what marking entries gives.
use Rattle.std.proofs.Common.{◌≡◌, ℕ, zero, suc, ◌+◌, ◌<◌, ◌≤◌, ◌==◌, ◌&&◌, not, nat_lt, cond, Bool, true, false, List, [], ◌∷◌, ◌++◌, length, take, drop, flat_map, Option, Some, None, Result, refl, sym, ap, ◌∙◌, inl, inr, ◌⊎◌, arith, append_assoc, length-append}
use Rattle.yaml_scan_laws.proofs.LevelWords.{cases_Bool, cases_lt, and_parts, nat_tests, flat_map-append, append-nil, and-false, Token, Wrong, Kind, Lexeme, Entry, Opens, may_be_key, cancels, is_value, is_start, Candidate, candidate, has_number, found_by, indent, inside, level_of, opens_at, opens_of, margin_at, start_of, entry_of, as_key, mark_key, marked, keyed, finished_tokens, WordText, Next, Read, Fails, Ends, next, first_fault_or, coming, faults, stale_before, no_start, place_behind, with_end, begun_behind, word_behind, lexeme_behind, extended, history, SpelledText, spell, front_ends, handed_out, handed, kept_of, all, fault_in, Remaining, remaining, candidate-more, candidate_below, fresh_is}
use Rattle.yaml_scan_history.specs.scan_model.declared.problem.ScanFault.{ScanFault}
use Rattle.yaml_scan_history.specs.declared.lexeme.Opens.TheVariants as opening
use Rattle.yaml_scan_laws.specs.LookBack.{finds, is_key, opens_level, number_or, begins_with, level_at, closes, end_tokens, tokens_of, tokens_before, lost_from, OfflineLooksBack}
use Rattle.yaml_scan_laws.proofs.Pushing.{start_no_key}
use Rattle.yaml_scan_history.proofs.Rules.{and_not}

-- ---- what is saved may be a key

abbrev MayBeKey : Lexeme → Type 0
MayBeKey l = l.saved ≡ true → may_be_key l.kind ≡ true

abbrev AllMay : List Lexeme → Type 0
AllMay [] = Unit {0}
AllMay (l ∷ h) = MayBeKey l × AllMay h

abbrev NextMay : Next → Type 0
NextMay (Read l) = MayBeKey l
NextMay (Fails f) = Unit {0}
NextMay Ends = Unit {0}

first_may : (ps : List (Option ScanFault)) (x : Next) → NextMay x → NextMay (first_fault_or ps x)
first_may [] x m = m
first_may (Some p ∷ ps) x m = tt
first_may (None ∷ ps) x m = first_may ps x m

word_may : (text : List ℕ) (l : Lexeme) (r : Result WordText Wrong) → MayBeKey l
    → MayBeKey (with_end text l r)
word_may text l r m = grind (arith, nat_tests)

coming_may : (o : Option Kind) (text : List ℕ) (h : List Lexeme) → NextMay (coming o text h)
coming_may None text h = first_may (stale_before text h ∷ []) (Fails (no_start (place_behind text h))) tt
coming_may (Some k) text h =
    first_may (faults k text h) (Read (lexeme_behind k text h))
    (word_may text (begun_behind k text h) (word_behind k text h) (λ s. (and_parts _ (may_be_key k) s).1))

next_may : (text : List ℕ) (h : List Lexeme) → NextMay (next text h)
unfolding next
next_may text h = grind (arith, nat_tests, coming_may)

extended_may : (x : Next) (h : List Lexeme) → NextMay x → AllMay h → AllMay (extended x h)
extended_may x h m a = grind (arith, nat_tests)

history_may : (text : List ℕ) (n : ℕ) → AllMay (history text n)
unfolding history
history_may text zero = tt
history_may text (suc n) = extended_may (next text (history text n)) (history text n) (next_may text (history text n)) (history_may text n)

-- ---- numbers

number_none : (o : Option Candidate) (n : ℕ) → ((c : Candidate) → o ≡ Some c → c.number < n)
    → has_number o n ≡ false
number_none o n f = grind (arith, nat_tests)

found_below : (l : Lexeme) (h : List Lexeme) (c : Candidate) → found_by l h ≡ Some c
    → c.number < length h
found_below l h c e = candidate_below l.depth h c (fresh_is _ _ c e)

finds_none : (l : Lexeme) (h : List Lexeme) (n : ℕ) → length h ≤ n → finds l h n ≡ false
finds_none l h n le = grind (arith, nat_tests, and_not, number_none, found_below)

is_key_none : (n : ℕ) (h : List Lexeme) → length h ≤ n → is_key n h ≡ false
unfolding is_key
is_key_none n [] le = refl
is_key_none n (l ∷ h) le =
    rw (finds_none l h n (omega (arith, le))) (is_key_none n h (omega (arith, le)))

or_below : (o : Option Candidate) (n : ℕ) → ((c : Candidate) → o ≡ Some c → c.number < n)
    → number_or o n ≤ n
or_below o n f = grind (arith, nat_tests)

begins_below : (l : Lexeme) (h : List Lexeme) → begins_with l h ≤ length h
begins_below l h = grind (arith, nat_tests, or_below, found_below)

-- a lexeme that opens no level there
other_level : (n : ℕ) (l : Lexeme) (h : List Lexeme)
    → (opens_level l h && begins_with l h == n) ≡ false → level_at n (l ∷ h) ≡ level_at n h
unfolding level_at
other_level n l h e = rw e refl

level_none : (n : ℕ) (h : List Lexeme) → length h ≤ n → level_at n h ≡ opening.Nothing
unfolding level_at
level_none n [] le = refl
level_none n (l ∷ h) le =
    let far : (begins_with l h == n) ≡ false = grind (arith, nat_tests, begins_below l h, le) in
    other_level n l h (and_not (opens_level l h) (begins_with l h == n) far) ∙ level_none n h (omega (arith, le))

-- ---- the newest lexeme

own_by : (o : Option Candidate) (l : Lexeme) (ls : List ℕ) (n : ℕ)
    → ((c : Candidate) → o ≡ Some c → c.number < n)
    → cond (((is_start l.kind && not (nat_lt 0 l.depth))
    && nat_lt (indent ls) (opens_at o l.kind l.start.column))
    && cond (is_value l.kind) (number_or o n) n == n) (level_of l.kind) opening.Nothing
    ≡ opens_of o l ls
own_by o l ls n f = grind (arith, nat_tests)

own_level : (l : Lexeme) (h : List Lexeme)
    → level_at (length h) (l ∷ h) ≡ opens_of (found_by l h) l (inside l h)
unfolding level_at
own_level l h =
    let none = level_none (length h) h (omega arith) in
    rw none (own_by (found_by l h) l (inside l h) (length h) (found_below l h))

own_key : (l : Lexeme) (h : List Lexeme) → is_key (length h) (l ∷ h) ≡ false
unfolding is_key
own_key l h = grind (arith, nat_tests, finds_none, is_key_none)

-- ---- the lexeme that a `:` finds

start_cancels : (k : Kind) → cancels k ≡ false → is_start k ≡ false
start_cancels k e = grind (arith, nat_tests)

key_no_start : (k : Kind) → may_be_key k ≡ true → is_start k ≡ false
key_no_start k m = grind (arith, nat_tests, start_no_key)

value_starts : (k : Kind) → is_value k ≡ true → (is_start k ≡ true) × (level_of k ≡ opening.Mapping)
value_starts k e = grind (arith, nat_tests)

saved_found : (d : ℕ) (y : Lexeme) (t : List Lexeme) (c : Candidate) → (y.depth == d) ≡ true
    → y.saved ≡ true → candidate d (y ∷ t) ≡ Some c
    → let own : Candidate = record { number = length t; lexeme = y } in own ≡ c
unfolding candidate
saved_found d y t c same saved e = grind (arith, nat_tests)

-- no other level begins with it
unlevelled : (d : ℕ) (h : List Lexeme) (c : Candidate) → candidate d h ≡ Some c → AllMay h
    → level_at c.number h ≡ opening.Nothing
unfolding candidate
unlevelled d [] c e a = absurd (cc)
unlevelled d (y ∷ t) c e (m, a) =
    elim (cases_Bool (y.depth == d)) [
      | inl same ↦ elim (cases_Bool y.saved) [
        | inl saved ↦
            let here : length t ≡ c.number = ap (λ (x : Candidate). x.number) (saved_found d y t c same saved e) in
            rw (← here) (other_level (length t) y t (rw (key_no_start y.kind (m saved)) refl) ∙ level_none (length t) t (omega arith))
        | inr unsaved ↦ elim (cases_Bool (cancels y.kind)) [
          | inl stops ↦ let bad = rw (same, unsaved, stops) at e in absurd (cc)
          | inr goes ↦
              let before = rw (same, unsaved, goes) at e in
              other_level c.number y t (rw (start_cancels y.kind goes) refl) ∙ unlevelled d t c before a
        ]
      ]
      | inr other ↦ elim (cases_Bool (nat_lt y.depth d)) [
        | inl outer ↦ let bad = rw (other, outer) at e in absurd (cc)
        | inr inner ↦
            let before = rw (other, inner) at e in
            let deep : nat_lt 0 y.depth ≡ true = grind (arith, nat_tests) in
            other_level c.number y t (rw (deep, and-false (is_start y.kind)) refl) ∙ unlevelled d t c before a
      ]
    ]

-- it is the one of that number, at that depth
found_is : (d : ℕ) (newer : List Lexeme) (x : Lexeme) (t : List Lexeme) (c : Candidate)
    → candidate d (newer ++ x ∷ t) ≡ Some c → c.number ≡ length t → (c.lexeme ≡ x) × (x.depth ≡ d)
unfolding candidate
found_is d [] x t c e n = grind (arith, nat_tests, candidate_below, saved_found)
found_is d (y ∷ newer) x t c e n =
    elim (candidate-more d y (newer ++ x ∷ t) c e) [
      | inl top ↦ absurd (omega (arith, top, n, length-append newer (x ∷ t)))
      | inr before ↦ found_is d newer x t c before n
    ]

-- ---- entries

abbrev entry_told : List Lexeme → Lexeme → List Lexeme → Entry
entry_told whole l h = record {
  lexeme = l;
  ends = closes l h;
  opens = level_at (length h) whole;
  key = is_key (length h) whole;
}

abbrev entries_told : List Lexeme → List Lexeme → List Entry
entries_told whole [] = []
entries_told whole (l ∷ h) = entries_told whole h ++ entry_told whole l h ∷ []

entry_is : (l : Lexeme) (n : ℕ) (a b : Opens) (j k : Bool) → a ≡ b → j ≡ k
    → let x : Entry = record { lexeme = l; ends = n; opens = a; key = j } in
    let y : Entry = record { lexeme = l; ends = n; opens = b; key = k } in x ≡ y
entry_is l n a b j k p q = cc

not_there : (l : Lexeme) (h : List Lexeme) (n : ℕ) → (begins_with l h == n) ≡ false
    → finds l h n ≡ false
    → (level_at n (l ∷ h) ≡ level_at n h) × (is_key n (l ∷ h) ≡ is_key n h)
unfolding is_key
not_there l h n far none = (other_level n l h (and_not (opens_level l h) (begins_with l h == n) far), rw none refl)

-- a lexeme that finds none leaves all
all_left : (l : Lexeme) (h : List Lexeme) → ((n : ℕ) → finds l h n ≡ false)
    → begins_with l h ≡ length h → (t : List Lexeme) → length t ≤ length h
    → entries_told h t ≡ entries_told (l ∷ h) t
all_left l h none at [] le = refl
all_left l h none at (x ∷ t) le =
    let far : (begins_with l h == length t) ≡ false = grind (arith, nat_tests, at, le) in
    let (opens, key) = not_there l h (length t) far (none (length t)) in
    let before = all_left l h none at t (omega (arith, le)) in
    ap (λ (es : List Entry). es ++ entry_told h x t ∷ []) before
    ∙ ap (λ (e : Entry). entries_told (l ∷ h) t ++ e ∷ []) (entry_is x (closes x t) _ _ _ _ (sym opens) (sym key))

mark_last : (ls : List ℕ) (es : List Entry) (e : Entry) (n : ℕ)
    → mark_key ls (es ++ e ∷ []) n ≡ mark_key ls es n ++ cond (n == length es) (as_key ls e) e ∷ []
unfolding mark_key
mark_last ls [] e zero = refl
mark_last ls [] e (suc n) = let far : (suc n == 0) ≡ false = grind (arith, nat_tests) in rw far refl
mark_last ls (x ∷ es) e zero = let far : (0 == suc (length es)) ≡ false = grind (arith, nat_tests) in rw far refl
mark_last ls (x ∷ es) e (suc n) = grind (arith, nat_tests, mark_last ls es e n)

length_told : (whole h : List Lexeme) → length (entries_told whole h) ≡ length h
length_told whole [] = refl
length_told whole (l ∷ h) =
    let more = length-append (entries_told whole h) (entry_told whole l h ∷ []) in
    omega (arith, length_told whole h, more)

opens_there : (l : Lexeme) (h : List Lexeme) (c : Candidate) (o : Option Candidate) (ls : List ℕ)
    → is_value l.kind ≡ true → o ≡ Some c → c.lexeme.depth ≡ l.depth
    → cond (((is_start l.kind && not (nat_lt 0 l.depth))
    && nat_lt (indent ls) (opens_at o l.kind l.start.column))
    && cond (is_value l.kind) (number_or o (length h)) (length h) == c.number) (level_of l.kind)
    opening.Nothing
    ≡ start_of c.lexeme.depth (margin_at c.lexeme.start.column) ls opening.Mapping
opens_there l h c o ls v e d = grind (arith, nat_tests, value_starts)

key_there : (l : Lexeme) (h : List Lexeme) (c : Candidate) → is_value l.kind ≡ true
    → found_by l h ≡ Some c → AllMay h → c.lexeme.depth ≡ l.depth
    → (level_at c.number (l ∷ h) ≡ start_of c.lexeme.depth (margin_at c.lexeme.start.column)
    (inside l h) opening.Mapping) × (is_key c.number (l ∷ h) ≡ true)
unfolding level_at is_key
key_there l h c v f a d = grind (arith, nat_tests, unlevelled, fresh_is, opens_there)

-- a `:` marks the one that it finds
one_marked : (l : Lexeme) (h : List Lexeme) (c : Candidate) → is_value l.kind ≡ true
    → found_by l h ≡ Some c → AllMay h → (newer t : List Lexeme) → newer ++ t ≡ h
    → mark_key (inside l h) (entries_told h t) c.number ≡ entries_told (l ∷ h) t
unfolding mark_key
one_marked l h c v f a newer [] e = refl
one_marked l h c v f a newer (x ∷ t) e =
    let before = one_marked l h c v f a (newer ++ x ∷ []) t (append_assoc newer (x ∷ []) t ∙ e) in
    let many = length_told h t in
    mark_last (inside l h) (entries_told h t) (entry_told h x t) c.number
    ∙ ap (λ (es : List Entry). es ++ cond (c.number == length (entries_told h t)) (as_key (inside l h) (entry_told h x t)) (entry_told h x t) ∷ []) before
    ∙ ap (λ (n : ℕ). entries_told (l ∷ h) t ++ cond (c.number == n) (as_key (inside l h) (entry_told h x t)) (entry_told h x t) ∷ []) many
    ∙ ap (λ (y : Entry). entries_told (l ∷ h) t ++ y ∷ []) (this (cases_Bool (c.number == length t)))
  where
    this : ((c.number == length t) ≡ true) ⊎ ((c.number == length t) ≡ false)
        → cond (c.number == length t) (as_key (inside l h) (entry_told h x t)) (entry_told h x t)
        ≡ entry_told (l ∷ h) x t
    this (inl y) =
        let n : c.number ≡ length t = grind (arith, nat_tests) in
        let (is, deep) = found_is l.depth newer x t c (ap (λ (z : List Lexeme). candidate l.depth z) e ∙ fresh_is _ _ c f) n in
        let (opens, key) = key_there l h c v f a (ap (λ (z : Lexeme). z.depth) is ∙ deep) in
        let at_opens : level_at (length t) (l ∷ h) ≡ start_of x.depth (margin_at x.start.column) (inside l h) opening.Mapping = ap (λ (k : ℕ). level_at k (l ∷ h)) (sym n) ∙ opens ∙ ap (λ (z : Lexeme). start_of z.depth (margin_at z.start.column) (inside l h) opening.Mapping) is in
        let at_key : is_key (length t) (l ∷ h) ≡ true = ap (λ (k : ℕ). is_key k (l ∷ h)) (sym n) ∙ key in
        rw y (entry_is x (closes x t) _ _ _ _ (sym at_opens) (sym at_key))
    this (inr y) =
        let at : begins_with l h ≡ c.number = rw (v, f) refl in
        let far : (begins_with l h == length t) ≡ false = rw at y in
        let no : finds l h (length t) ≡ false = rw (v, f) y in
        let (opens, key) = not_there l h (length t) far no in
        rw y (entry_is x (closes x t) _ _ _ _ (sym opens) (sym key))

keyed_told : (l : Lexeme) (h : List Lexeme) → AllMay h → (o : Option Candidate) → found_by l h ≡ o
    → keyed l h (entries_told h h) ≡ entries_told (l ∷ h) h
keyed_told l h a o f =
    elim (cases_Bool (is_value l.kind)) [
      | inr v ↦ rw v (all_left l h (λ n. rw v refl) (rw v refl) h (omega arith))
      | inl v ↦ rw v (by_found o f v)
    ]
  where
    by_found : (p : Option Candidate) → found_by l h ≡ p → is_value l.kind ≡ true
        → marked (found_by l h) (inside l h) (entries_told h h) ≡ entries_told (l ∷ h) h
    by_found None e v = rw e (all_left l h (λ n. rw (v, e) refl) (rw (v, e) refl) h (omega arith))
    by_found (Some c) e v = rw e (one_marked l h c v e a [] h refl)

entries_are : (h : List Lexeme) → AllMay h → finished_tokens h ≡ entries_told h h
unfolding finished_tokens
entries_are [] a = refl
entries_are (l ∷ h) (m, a) =
    ap (λ (es : List Entry). keyed l h es ++ entry_of l h ∷ []) (entries_are h a)
    ∙ ap (λ (es : List Entry). es ++ entry_of l h ∷ []) (keyed_told l h a (found_by l h) refl)
    ∙ ap (λ (e : Entry). entries_told (l ∷ h) h ++ e ∷ []) (entry_is l (closes l h) _ _ _ _ (sym (own_level l h)) (sym (own_key l h)))

-- ---- tokens

own_tokens_are : (s : SpelledText) (whole : List Lexeme) (l : Lexeme) (h : List Lexeme) (k : Bool)
    → is_key (length h) whole ≡ k → spell s (entry_told whole l h) ≡ tokens_of s whole l h
own_tokens_are s whole l h k e = grind (arith, nat_tests)

-- those of all, where none is lost
none_lost : (s : SpelledText) (whole : List Lexeme) (m : ℕ) (h : List Lexeme) → length h ≤ m
    → flat_map (spell s) (entries_told whole h) ≡ tokens_before s whole m h
unfolding tokens_before
none_lost s whole m [] le = refl
none_lost s whole m (l ∷ h) le =
    let near : nat_lt (length h) m ≡ true = grind (arith, nat_tests, le) in
    flat_map-append (spell s) (entries_told whole h) (entry_told whole l h ∷ [])
    ∙ ap (λ (ts : List Token). flat_map (spell s) (entries_told whole h) ++ ts) (append-nil (spell s (entry_told whole l h)))
    ∙ ap (λ (ts : List Token). ts ++ spell s (entry_told whole l h)) (none_lost s whole m h (omega (arith, le)))
    ∙ ap (λ (ts : List Token). tokens_before s whole m h ++ ts) (own_tokens_are s whole l h _ refl)
    ∙ ap (λ (b : Bool). tokens_before s whole m h ++ cond b (tokens_of s whole l h) (cond (length h == m) (end_tokens l h) [])) (sym near)

-- what is taken of a list without its last, and the front of what is dropped
front_taken : (m : ℕ) (es : List Entry) (e : Entry) → m < length es
    → (take m (es ++ e ∷ []) ≡ take m es)
    × (front_ends (drop m (es ++ e ∷ [])) ≡ front_ends (drop m es))
front_taken m [] e lt = absurd (omega arith)
front_taken zero (x ∷ es) e lt = (refl, refl)
front_taken (suc m) (x ∷ es) e lt =
    let (a, b) = front_taken m es e (omega (arith, lt)) in
    (ap (λ (r : List Entry). x ∷ r) a, b)

all_taken : (m : ℕ) (es : List Entry) → length es ≤ m
    → (take m es ≡ es) × (front_ends (drop m es) ≡ [])
all_taken zero [] le = (refl, refl)
all_taken (suc m) [] le = (refl, refl)
all_taken zero (x ∷ es) le = absurd (omega arith)
all_taken (suc m) (x ∷ es) le =
    let (a, b) = all_taken m es (omega (arith, le)) in
    (ap (λ (r : List Entry). x ∷ r) a, b)

last_taken : (es : List Entry) (e : Entry)
    → (take (length es) (es ++ e ∷ []) ≡ es) × (drop (length es) (es ++ e ∷ []) ≡ e ∷ [])
last_taken [] e = (refl, refl)
last_taken (x ∷ es) e = grind (arith, nat_tests, last_taken es e)

abbrev taken : SpelledText → ℕ → List Entry → List Token
taken s m es = flat_map (spell s) (take m es) ++ front_ends (drop m es)

some_lost : (s : SpelledText) (whole : List Lexeme) (m : ℕ) (h : List Lexeme) → m < length h
    → taken s m (entries_told whole h) ≡ tokens_before s whole m h
unfolding tokens_before
some_lost s whole m [] lt = absurd (omega arith)
some_lost s whole m (l ∷ h) lt =
    let es : List Entry = entries_told whole h in
    let e : Entry = entry_told whole l h in
    let many : length es ≡ length h = length_told whole h in
    elim (cases_lt m (length h)) [
      | inl below ↦
          let (a, b) = front_taken m es e (omega (arith, many, below)) in
          let near : nat_lt (length h) m ≡ false = grind (arith, nat_tests, below) in
          let far : (length h == m) ≡ false = grind (arith, nat_tests, below) in
          ap (λ (xs : List Entry). flat_map (spell s) xs ++ front_ends (drop m (es ++ e ∷ []))) a
          ∙ ap (λ (ts : List Token). flat_map (spell s) (take m es) ++ ts) b
          ∙ some_lost s whole m h below
          ∙ sym (append-nil (tokens_before s whole m h))
          ∙ sym (rw (near, far) refl)
      | inr past ↦
          let here : m ≡ length h = omega (arith, lt, past) in
          let near : nat_lt (length h) m ≡ false = grind (arith, nat_tests, here) in
          let same : (length h == m) ≡ true = grind (arith, nat_tests, here) in
          let (a, b) = last_taken es e in
          ap (λ (n : ℕ). taken s n (es ++ e ∷ [])) (here ∙ sym many)
          ∙ ap (λ (xs : List Entry). flat_map (spell s) xs ++ front_ends (drop (length es) (es ++ e ∷ []))) a
          ∙ ap (λ (xs : List Entry). flat_map (spell s) es ++ front_ends xs) b
          ∙ ap (λ (ts : List Token). ts ++ front_ends (e ∷ [])) (none_lost s whole m h (omega (arith, here)))
          ∙ sym (rw (near, same) refl)
    ]

lost : (s : SpelledText) (m : ℕ) (h : List Lexeme)
    → taken s m (entries_told h h) ≡ tokens_before s h m h
lost s m h =
    elim (cases_lt m (length h)) [
      | inl below ↦ some_lost s h m h below
      | inr past ↦
          let (a, b) = all_taken m (entries_told h h) (omega (arith, past, length_told h h)) in
          ap (λ (xs : List Entry). flat_map (spell s) xs ++ front_ends (drop m (entries_told h h))) a
          ∙ ap (λ (ts : List Token). flat_map (spell s) (entries_told h h) ++ ts) b
          ∙ append-nil (flat_map (spell s) (entries_told h h))
          ∙ none_lost s h m h past
    ]

unlost : (s : SpelledText) (h : List Lexeme) → AllMay h
    → flat_map (spell s) (finished_tokens h) ++ [] ≡ tokens_before s h (length h) h
unlost s h a =
    append-nil (flat_map (spell s) (finished_tokens h))
    ∙ ap (λ (es : List Entry). flat_map (spell s) es) (entries_are h a)
    ∙ none_lost s h (length h) h (omega arith)

by_next : (s : SpelledText) (x : Next) (h : List Lexeme) → AllMay h
    → flat_map (spell s) (handed_out x h) ++ kept_of x h ≡ tokens_before s h (lost_from x h) h
by_next s x h a = grind (arith, nat_tests, unlost, entries_are, lost)

all_may : (text : List ℕ) → AllMay (all text)
unfolding all
all_may text = history_may text (length text + 2)

remaining_is : (a b : List Token) (f : _) → a ≡ b
    → let x : Remaining = record { tokens = a; fault = f } in
    let y : Remaining = record { tokens = b; fault = f } in x ≡ y
remaining_is a b f e = cc

pub offline_looks_back : OfflineLooksBack
unfolding remaining handed
offline_looks_back s = remaining_is _ _ (fault_in (next s.text (all s.text))) (by_next s (next s.text (all s.text)) (all s.text) (all_may s.text))
