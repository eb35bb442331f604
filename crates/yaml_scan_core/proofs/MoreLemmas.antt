-- What is to come where the end wasn't read, and whether the next token is known, of a scanner that reads one lexeme at once.
use Rattle.std.proofs.Common.{◌≡◌, ◌⊎◌, ℕ, ◌+◌, ◌<◌, ◌≤◌, true, false, cond, Bool, List, [], ◌∷◌, ◌++◌, length, get_or, Option, Some, None, Result, Ok, Err, refl, sym, ap, subst, ◌∙◌, inl, inr, arith, length-append, ◌^◌, ltb}
use Rattle.std.proofs.lemmas.List.{length-replicate}
use Rattle.yaml_scan_core.proofs.Words.{cases_lt, yaml_encoding_t, Fault, scanner_fault, Token, block_end, key, no_token, ScanFault, Kind, Entry, Lexeme, before, end_tokens, ended, finished_tokens, entries_ends, first_open, Next, Read, Fails, Ends, kind_behind, no_start, coming, next, history, spell, start_tokens, SpelledText, all, remaining, scanned_in, cases_Bool, nat_tests, length-entries, offline}
use Rattle.yaml_scan_decode.specs.declared.offence.Offence.{Offence}
use Rattle.yaml_scan_history.specs.Next.{place_behind, lexeme_behind, stale_before, faults, first_fault_or}
use Rattle.yaml_scan_history.specs.Remaining.{fault_in, own_tokens, token_in, nothing}
use Rattle.yaml_scan_laws.proofs.HistoryForward.{all_ends, stays_all, history_grows, are_few}
use Rattle.yaml_scan_laws.proofs.RemainingForward.{fault_is, last_comes}
use Rattle.yaml_scan_core.specs.Found.{HasMore}
use Rattle.yaml_scan_core.specs.Shown.{no_entry, entry_at}
use Rattle.std.proofs.lemmas.Bool.{true≢false}
use Rattle.yaml_scan_core.specs.declared.scanner.Scanner.{Scanner}
use Rattle.yaml_scan_core.specs.Asked.{front_lexeme}
use Rattle.yaml_scan_core.specs.Handed.{ends_at, given_in, to_come}
use Rattle.yaml_scan_core.specs.Rows.{row_of}
use Rattle.yaml_scan_core.specs.Scanning.{IsGoing, IsOver, history_of, read_by, stream_of, taken_by}
use Rattle.yaml_scan_core.specs.Settled.{open_in, settled_in, settled_tokens, settles_in}
use Rattle.yaml_scan_core.specs.Told.{KnowsNext}
use Rattle.yaml_scan_core.specs.Waiting.{IsRead, knows}
use Rattle.yaml_scan_core.proofs.AskedLemmas.{over_nothing as nothing_over}
use Rattle.yaml_scan_core.proofs.BatchLemmas.{told_history}
use Rattle.yaml_scan_core.proofs.HandedLemmas.{given_none, given_open}
use Rattle.yaml_scan_core.proofs.KnowsLemmas.{knows_none, knows_open, knows_settled, seen, tells}
use Rattle.yaml_scan_core.proofs.WaitsLemmas.{known_not, not_failed}

-- ---- an entry's tokens

-- its own token is after those of the levels that it closes
own_some : (s : SpelledText) (e : Entry) (k : Bool)
    → 0 < length (cond k (before key e.lexeme ∷ token_in s e.lexeme ∷ []) (token_in s e.lexeme ∷ []))
own_some s e true = omega arith
own_some s e false = omega arith

ends_before : (s : SpelledText) (e : Entry) → e.ends < length (spell s e)
ends_before s e =
    omega (arith, own_some s e e.key, length-append (end_tokens e ++ start_tokens e.opens e.lexeme) (own_tokens s e), length-append (end_tokens e) (start_tokens e.opens e.lexeme), length-replicate e.ends (before block_end e.lexeme))

-- further lexemes leave how many levels a lexeme closes
newer_ends : (newer h : List Lexeme) (k : ℕ) (e : Entry) → k < length h
    → (get_or (finished_tokens (newer ++ h)) k e).ends ≡ (get_or (finished_tokens h) k e).ends
newer_ends [] h k e low = refl
newer_ends (l ∷ newer) h k e low = (entries_ends l (newer ++ h) k e (omega (arith, low, length-append newer h))).0 ∙ newer_ends newer h k e low

-- ---- after lexemes that aren't all

fault_more : (ts : List Token) (f : Option Fault) (e : Fault) → f ≡ Some e → HasMore ts f
fault_more [] f e p = rw p tt
fault_more (t ∷ ts) f e p = tt

-- a lexeme of all whose own token isn't taken
more_at_end : (s : SpelledText) (n k given : ℕ) (e : Entry) → next s.text (history s.text n) ≡ Ends
    → k < length (history s.text n) → given ≤ (get_or (finished_tokens (history s.text n)) k e).ends
    → HasMore (remaining s k given).tokens (remaining s k given).fault
more_at_end s n k given e over low few =
    let x = get_or (finished_tokens (history s.text n)) k e in
    let (gives, done) = last_comes s n k given e no_token over low in
    let (tokens, fault) = gives (omega (arith, ends_before s x, few)) in
    rw tokens tt

-- what is taken of the lexeme of that number: levels that it closes at most, or nothing
abbrev pub Untaken : List Lexeme → ℕ → ℕ → Entry → Type 0
Untaken h k given e = ((k < length h) × (given ≤ (get_or (finished_tokens h) k e).ends)) ⊎ (given ≡ 0)

at_newer : (s : SpelledText) (n m k given : ℕ) (e : Entry) (newer : List Lexeme)
    → history s.text m ≡ newer ++ history s.text n → (next s.text (history s.text n) ≡ Ends → ⊥)
    → next s.text (history s.text m) ≡ Ends → k ≤ length (history s.text n)
    → Untaken (history s.text n) k given e
    → HasMore (remaining s k given).tokens (remaining s k given).fault
at_newer s n m k given e [] grown unended over low few = absurd (unended (subst (λ (h : List Lexeme). next s.text h ≡ Ends) grown over))
at_newer s n m k given e (l ∷ newer) grown unended over low few =
    let h = history s.text n in
    let long : length (history s.text m) ≡ length (l ∷ newer) + length h = ap length grown ∙ length-append (l ∷ newer) h in
    let upto : given ≤ (get_or (finished_tokens (l ∷ newer ++ h)) k e).ends = elim few [ inl (here, less) ↦ omega (arith, less, newer_ends (l ∷ newer) h k e here) | inr none ↦ omega (arith, none) ] in
    more_at_end s m k given e over (omega (arith, long, low)) (rw grown upto)

by_all : (s : SpelledText) (k given : ℕ) (x : Next) → next s.text (all s.text) ≡ x
    → (x ≡ Ends → HasMore (remaining s k given).tokens (remaining s k given).fault)
    → HasMore (remaining s k given).tokens (remaining s k given).fault
by_all s k given (Read l) e h = absurd (all_ends s.text l e)
by_all s k given (Fails p) e h = fault_more (remaining s k given).tokens (remaining s k given).fault (scanner_fault p) (fault_is s k given ∙ ap fault_in e)
by_all s k given Ends e h = h refl

-- where nothing is taken from the lexeme of that number on but levels that it closes
pub more_comes : (s : SpelledText) (n k given : ℕ) (e : Entry)
    → (next s.text (history s.text n) ≡ Ends → ⊥) → k ≤ length (history s.text n)
    → Untaken (history s.text n) k given e
    → HasMore (remaining s k given).tokens (remaining s k given).fault
unfolding all
more_comes s n k given e unended low few =
    by_all s k given (next s.text (all s.text)) refl (λ over.
    let m : ℕ = length s.text + 2 in
    elim (cases_lt n m) [
      | inl below ↦ let (newer, grown) = history_grows s.text n m (omega arith) in at_newer s n m k given e newer grown unended over low few
      | inr past ↦ absurd (unended (subst (λ (h : List Lexeme). next s.text h ≡ Ends) (sym (stays_all s.text n past)) over))
    ])

first_open_or : (ps : List (Option ScanFault)) (x : Next) → (x ≡ Ends → ⊥)
    → first_fault_or ps x ≡ Ends → ⊥
first_open_or [] x h e = h e
first_open_or (Some p ∷ ps) x h e = cc
first_open_or (None ∷ ps) x h e = first_open_or ps x h e

coming_open : (o : Option Kind) (text : List ℕ) (h : List Lexeme) → coming o text h ≡ Ends → ⊥
coming_open None text h e = first_open_or (stale_before text h ∷ []) (Fails (no_start (place_behind text h))) (λ p. cc) e
coming_open (Some k) text h e = first_open_or (faults k text h) (Read (lexeme_behind k text h)) (λ p. cc) e

-- before the stream's end a lexeme or a fault comes
pub open_next : (text : List ℕ) (h : List Lexeme) → ended h ≡ false → next text h ≡ Ends → ⊥
unfolding next
open_next text [] e p = cc
open_next text (l ∷ h) e p = coming_open (kind_behind text (l ∷ h)) text (l ∷ h) (rw e at p)

-- a token or a fault comes of every input
pub scanned_more : (encoding : yaml_encoding_t) (r : Result (List ℕ) Offence)
    → HasMore (scanned_in encoding r).tokens (scanned_in encoding r).fault
unfolding history
scanned_more encoding (Ok text) = more_comes record { encoding = encoding; text = text } 0 0 0 no_entry (open_next text [] refl) (omega arith) (inr refl)
scanned_more encoding (Err o) = tt

-- ---- what is to come

some_more : (ts : List Token) (f : Option Fault) → 0 < length ts → HasMore ts f
some_more [] f some = absurd (omega (arith, some))
some_more (t ∷ ts) f some = tt

-- where the next token is known, it is to come
pub knows_more : (s : Scanner) → IsRead s → knows s ≡ true
    → HasMore (to_come s).tokens (to_come s).fault
knows_more s i known =
    let is : ltb (open_in (stream_of s) (read_by s)) (length (to_come s).tokens) ≡ true = sym (tells s i).is ∙ known in
    some_more (to_come s).tokens (to_come s).fault (grind (arith, nat_tests, is))

-- what is taken of the lexeme whose token is next, where that isn't known
untaken : (s : Scanner) → IsRead s → knows s ≡ false
    → Untaken (history_of s) (s.row.dropped + s.row.next) (given_in s.text.now (row_of s.row)) no_entry
untaken s i none =
    let r = row_of s.row in
    let row = (seen s i).row in
    let k = r.dropped + r.next in
    let high = known_not s none in
    elim (cases_lt r.next (length r.lexemes)) [
      | inr gone ↦ inr (given_none s.text.now r gone)
      | inl some ↦
          let told : (entry_at (finished_tokens (history_of s)) k).ends ≡ ends_at s.text.now k = told_history s.text.now (read_by s) k (omega (arith, row.count, some)) in
          let given = given_open s.text.now (stream_of s) r (finished_tokens (history_of s)) row high some in
          inl (omega (arith, row.count, some, length-entries (history_of s)), omega (arith, given, told))
    ]

-- a scanner that may read on has a token or a fault to come
pub going_has_more : (s : Scanner) → IsGoing s → HasMore (to_come s).tokens (to_come s).fault
going_has_more s g = elim (cases_Bool (knows s)) [
  | inl known ↦ knows_more s (inl g) known
  | inr none ↦
      let row = g.shows.holds.row in
      more_comes (stream_of s) (read_by s) (s.row.dropped + s.row.next) (given_in s.text.now (row_of s.row)) no_entry
      (open_next s.text.now (history_of s) (sym g.shows.over ∙ g.going))
      (omega (arith, row.taken, row.few, row.count, length-entries (history_of s))) (untaken s (inl g) none)
]

-- after the stream's end nothing is to come where no token is known
pub over_nothing : (s : Scanner) → IsOver s → knows s ≡ false → to_come s ≡ nothing
over_nothing s o none =
    nothing_over s (inr (inl o)) o.over (omega (arith, known_not s none, o.row.taken))

-- ---- whether the next token is known

-- the next token is known where one waits, and no fault was met
pub knows_next : (s : Scanner) → IsRead s → knows s ≡ true → KnowsNext s
knows_next s i known = elim (cases_lt s.row.next s.row.settled) [
  | inl low ↦ record { known = inl low; token = not_failed s i (omega (arith, low, (seen s i).row.few)) }
  | inr high ↦ elim (cases_lt s.row.next (length s.row.lexemes.items)) [
    | inl some ↦
        let is : ltb 0 (front_lexeme s).ends ≡ true = sym (knows_open s high some) ∙ known in
        record { known = inr (some, grind (arith, nat_tests, is)); token = not_failed s i some }
    | inr gone ↦ absurd (true≢false (sym known ∙ knows_none s high gone))
  ]
]

pub next_knows : (s : Scanner) → KnowsNext s → knows s ≡ true
next_knows s k = elim (cases_lt s.row.next s.row.settled) [
  | inl low ↦ knows_settled s low
  | inr high ↦ elim k.known [
    | inl low ↦ absurd (omega (arith, low, high))
    | inr (some, ends) ↦ let is : ltb 0 (front_lexeme s).ends ≡ true = grind (arith, nat_tests, ends) in knows_open s high some ∙ is
  ]
]

-- a test that says whether the next token is known
pub token_known : (s : Scanner) (b : Bool) → IsRead s → (b ≡ true → KnowsNext s)
    → (KnowsNext s → b ≡ true) → b ≡ knows s
token_known s b i tells_it told = elim (cases_Bool b) [
  | inl is ↦ is ∙ sym (next_knows s (tells_it is))
  | inr isnt ↦ elim (cases_Bool (knows s)) [
    | inl known ↦ absurd (true≢false (sym (told (knows_next s i known)) ∙ isnt))
    | inr none ↦ isnt ∙ sym none
  ]
]

-- no lexeme settles no token, where all are to come
unsettled_all : (n : ℕ) → ltb n n ≡ false
unsettled_all n = grind (arith, nat_tests)

pub none_settled : (s : SpelledText) → settles_in s (offline s).tokens 0 ≡ false
unfolding settled_tokens settled_in first_open finished_tokens history
none_settled s =
    let none : settled_tokens s 0 ≡ [] = refl in
    let same : open_in s 0 ≡ length (offline s).tokens = omega (arith, ap length none) in
    ap (λ m. ltb m (length (offline s).tokens)) same ∙ unsettled_all (length (offline s).tokens)

-- ---- numbers

-- how many lexemes are taken fits in 64 bits
pub taken_fits : (s : Scanner) → IsRead s → length s.text.now < 2 ^ 63 → taken_by s < 2 ^ 64
taken_fits s i long =
    let row = (seen s i).row in
    omega (arith, long, are_few s.text.now (read_by s), row.count, row.taken, row.few, length-entries (history_of s))
