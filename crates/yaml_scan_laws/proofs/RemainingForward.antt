-- What comes first of what is to come.
use Rattle.std.proofs.Common.{◌≡◌, ◌≢◌, ℕ, zero, suc, ◌+◌, ◌-◌, ◌<◌, ◌≤◌, List, [], ◌∷◌, ◌++◌, length, take, drop, get_or, Option, Some, refl, sym, ap, subst, ◌∙◌, inl, inr, append_assoc, append-nil, length-append, arith}
use Rattle.yaml_scan_laws.proofs.Words.{nat_tests, cases_lt, flat_map, ScanFault, Fault, scanner_fault, Token, block_end, no_token, Lexeme, Entry, finished_tokens, first_open, mark_key, keyed, inside, Next, Read, Fails, Ends, next, history, SpelledText, all, handed, handed_out, before, start_tokens, end_tokens, own_tokens, spell, front_ends, kept_of, fault_in, Remaining, nothing, remaining, length-entries, first_open-le, length-keyed, take-history}
use Rattle.std.proofs.lemmas.List.{drop_more, get_or_append_left, get_or-take, length-take, length-take-le, length-replicate, get_or-replicate}
use Rattle.std.proofs.Math.ListN.{drop_of_length-le}
use Rattle.std.specs.Prelude.{replicate}
use Rattle.yaml_scan_laws.specs.Fronts.{GivesFirst}
use Rattle.yaml_scan_laws.proofs.HistoryForward.{goes_forward, settled_stays, last_is_all, all_ends, stays_all, history_grows}

-- the token of that number, and those after it
pub drop_append : (xs ys : List Token) (n : ℕ) (t : Token) → n < length xs
    → drop n (xs ++ ys) ≡ get_or xs n t ∷ drop (n + 1) (xs ++ ys)
drop_append xs ys n t l = grind (arith, nat_tests, drop_more, length-append, get_or_append_left)

drop_past : (xs ys : List Token) (n : ℕ) → n ≡ length xs → drop n (xs ++ ys) ≡ ys
drop_past [] ys n e = rw e refl
drop_past (x ∷ xs) ys n e = rw e (drop_past xs ys (length xs) refl)

-- The tokens to come: those of the lexemes, spelled, that were not handed out, and what a fault leaves.
pub tokens_is : (s : SpelledText) (dropped given : ℕ)
    → (remaining s dropped given).tokens
    ≡ drop given (flat_map (spell s) (drop dropped (handed s.text))
    ++ kept_of (next s.text (all s.text)) (all s.text))
unfolding remaining
tokens_is s dropped given = refl

-- The fault that is to come is that of the whole history's next lexeme.
pub fault_is : (s : SpelledText) (dropped given : ℕ)
    → (remaining s dropped given).fault ≡ fault_in (next s.text (all s.text))
unfolding remaining
fault_is s dropped given = refl

-- what is handed out of n steps: as many lexemes as there are
pub record Known (text : List ℕ) (n m : ℕ) : Type 0 where
  pub same : take m (handed text) ≡ take m (finished_tokens (history text n))
  pub few : m ≤ length (history text n)

-- those before the earliest open candidate
pub known_settled : (text : List ℕ) (n m : ℕ) → m ≤ first_open (history text n) (history text n)
    → Known text n m
known_settled text n m low = grind (arith, nat_tests, first_open-le, settled_stays)

-- an end is no lexeme
pub never_read : (x : Next) (l : Lexeme) → x ≡ Ends → x ≢ Read l
never_read x l e f = let bad : Ends ≡ Read l = sym e ∙ f in cc

never_read_fault : (x : Next) (p : ScanFault) (l : Lexeme) → x ≡ Fails p → x ≢ Read l
never_read_fault x p l e f = let bad : Fails p ≡ Read l = sym e ∙ f in cc

pub handed_end : (text : List ℕ) (n : ℕ) → next text (history text n) ≡ Ends
    → handed text ≡ finished_tokens (history text n)
unfolding handed
handed_end text n e = grind (arith, nat_tests, last_is_all, never_read)

-- all of them at the end
pub known_ended : (text : List ℕ) (n m : ℕ) → next text (history text n) ≡ Ends
    → m ≤ length (history text n) → Known text n m
known_ended text n m e few = record { same = ap (take m) (handed_end text n e); few = few }

shorter : (n : ℕ) (xs : List Entry) → length (take n xs) ≡ n → n ≤ length xs
shorter n xs h = let least = length-take n xs in omega (arith, least, h)

-- a lexeme that is known is the next one of the list
pub known_next : (text : List ℕ) (n k : ℕ) (e : Entry) → Known text n (suc k)
    → drop k (handed text) ≡ get_or (finished_tokens (history text n)) k e
    ∷ drop (k + 1) (handed text)
known_next text n k e known =
    let h = history text n in
    let long : suc k ≤ length (finished_tokens h) = omega (arith, known.few, length-entries h) in
    let whole : length (take (suc k) (handed text)) ≡ suc k = ap length known.same ∙ length-take-le (suc k) (finished_tokens h) long in
    let inside = shorter (suc k) (handed text) whole in
    let there : get_or (handed text) k e ≡ get_or (finished_tokens h) k e =
    sym (get_or-take (suc k) (handed text) k e (omega arith)) ∙ ap (λ xs. get_or xs k e) known.same ∙ get_or-take (suc k) (finished_tokens h) k e (omega arith) in
    drop_more (handed text) k e (omega (arith, inside)) ∙ ap (λ x. x ∷ drop (k + 1) (handed text)) there

-- what comes of these lexemes, and after them
abbrev pool : SpelledText → List Entry → List Token → List Token
pool s es kept = flat_map (spell s) es ++ kept

pool_more : (s : SpelledText) (es rest : List Entry) (x : Entry) (kept : List Token) → es ≡ x ∷ rest
    → pool s es kept ≡ spell s x ++ pool s rest kept
pool_more s es rest x kept e = ap (λ es. pool s es kept) e ∙ append_assoc (spell s x) (flat_map (spell s) rest) kept

-- after the tokens of a lexeme that is known come those of the next one
pub known_front : (s : SpelledText) (n k given : ℕ) (e : Entry) → Known s.text n (suc k)
    → (remaining s k given).tokens ≡ drop given
    (spell s (get_or (finished_tokens (history s.text n)) k e) ++ (remaining s (k + 1) 0).tokens)
unfolding remaining
known_front s n k given e known = grind (arith, nat_tests, pool_more, known_next)

abbrev with_fault : List Token → Option Fault → Remaining
with_fault ts fault = record { tokens = ts; fault = fault }

same_remaining : (s : SpelledText) (a b c d : ℕ)
    → (remaining s a b).tokens ≡ (remaining s c d).tokens → remaining s a b ≡ remaining s c d
unfolding remaining
same_remaining s a b c d e = ap (λ ts. with_fault ts (fault_in (next s.text (all s.text)))) e

-- the next token of a lexeme that is known
pub settled_token : (s : SpelledText) (n k given : ℕ) (e : Entry) (t : Token)
    → Known s.text n (suc k) → let x = get_or (finished_tokens (history s.text n)) k e in
    given < length (spell s x)
    → GivesFirst (remaining s k given) (get_or (spell s x) given t) (remaining s k (given + 1))
settled_token s n k given e t known l =
    let x = get_or (finished_tokens (history s.text n)) k e in
    let more = (remaining s (k + 1) 0).tokens in (
      known_front s n k given e known ∙ drop_append (spell s x) more given t l ∙ ap (λ ts. get_or (spell s x) given t ∷ ts) (sym (known_front s n k (given + 1) e known)),
      fault_is s k given ∙ sym (fault_is s k (given + 1)),
    )

-- after all its tokens the next lexeme comes
pub settled_done : (s : SpelledText) (n k given : ℕ) (e : Entry) → Known s.text n (suc k)
    → given ≡ length (spell s (get_or (finished_tokens (history s.text n)) k e))
    → remaining s k given ≡ remaining s (k + 1) 0
settled_done s n k given e known l =
    let x = get_or (finished_tokens (history s.text n)) k e in
    same_remaining s k given (k + 1) 0 (known_front s n k given e known ∙ drop_past (spell s x) (remaining s (k + 1) 0).tokens given l)

-- two entries that close as many levels before one lexeme
abbrev pub SameEnds : Entry → Entry → Type 0
SameEnds a b = (a.ends ≡ b.ends) × (a.lexeme ≡ b.lexeme)

mark_ends : (ls : List ℕ) (es : List Entry) (n k : ℕ) (e : Entry)
    → SameEnds (get_or (mark_key ls es n) k e) (get_or es k e)
unfolding mark_key
mark_ends ls [] n k e = (refl, refl)
mark_ends ls (x ∷ es) zero zero e = (refl, refl)
mark_ends ls (x ∷ es) zero (suc k) e = (refl, refl)
mark_ends ls (x ∷ es) (suc n) zero e = (refl, refl)
mark_ends ls (x ∷ es) (suc n) (suc k) e = mark_ends ls es n k e

keyed_ends : (l : Lexeme) (h : List Lexeme) (es : List Entry) (k : ℕ) (e : Entry)
    → SameEnds (get_or (keyed l h es) k e) (get_or es k e)
keyed_ends l h es k e = grind (arith, get_or, mark_ends)

same_ends : (a b c : Entry) → SameEnds a b → SameEnds b c → SameEnds a c
same_ends a b c (e, f) (g, h) = (e ∙ g, f ∙ h)

-- A lexeme more leaves how many levels end before each earlier one.
pub entries_ends : (l : Lexeme) (h : List Lexeme) (k : ℕ) (e : Entry) → k < length h
    → SameEnds (get_or (finished_tokens (l ∷ h)) k e) (get_or (finished_tokens h) k e)
unfolding finished_tokens
entries_ends l h k e low = grind (arith, length-keyed, length-entries, get_or_append_left, same_ends, get_or, keyed_ends)

-- further lexemes leave how many levels a lexeme closes
newer_ends : (newer h : List Lexeme) (k : ℕ) (e : Entry) → k < length h
    → SameEnds (get_or (finished_tokens (newer ++ h)) k e) (get_or (finished_tokens h) k e)
newer_ends [] h k e low = (refl, refl)
newer_ends (l ∷ newer) h k e low = grind (arith, nat_tests, same_ends, entries_ends, length-append, newer_ends newer h k e low)

spelled : (s : SpelledText) (x : Entry) (rest : List Token)
    → (more : List Token) × (spell s x ++ rest ≡ end_tokens x ++ more)
spelled s x rest =
    let a = end_tokens x in
    let b = start_tokens x.opens x.lexeme in
    let c = own_tokens s x in
    (b ++ (c ++ rest), append_assoc (a ++ b) c rest ∙ append_assoc a b (c ++ rest))

entry_first : (es : List Entry) (k : ℕ) (e : Entry) → k < length es
    → front_ends (drop k es) ≡ end_tokens (get_or es k e)
entry_first es k e low = ap front_ends (drop_more es k e low)

-- how many levels come before a lexeme
pub front_count : (es : List Entry) (k : ℕ) (e : Entry) → k < length es
    → length (front_ends (drop k es)) ≡ (get_or es k e).ends
front_count es k e low = ap length (entry_first es k e low) ∙ length-replicate (get_or es k e).ends (before block_end (get_or es k e).lexeme)

-- After the last entry none waits.
pub front_none : (es : List Entry) (k : ℕ) → length es ≤ k → length (front_ends (drop k es)) ≡ 0
front_none es k past = ap (λ xs. length (front_ends xs)) (drop_of_length-le es past)

drop_take : (k : ℕ) (es : List Entry) → drop k (take k es) ≡ []
drop_take k es = drop_of_length-le (take k es) (let least = length-take k es in omega (arith, least))

-- before the lexeme k the levels that it closes come, also where it is the first one that is lost
ends_of : (s : SpelledText) (x : Next) (h : List Lexeme) (k : ℕ) (e : Entry)
    → ((l : Lexeme) → x ≢ Read l) → k ≤ first_open h h → k < length h
    → (more : List Token) × (pool s (drop k (handed_out x h)) (kept_of x h)
    ≡ end_tokens (get_or (finished_tokens h) k e) ++ more)
ends_of s (Read l) h k e never low inside = absurd (never l refl)
ends_of s Ends h k e never low inside =
    let es = finished_tokens h in
    let (more, same) = spelled s (get_or es k e) (pool s (drop (k + 1) es) []) in
    (more, pool_more s (drop k es) (drop (k + 1) es) (get_or es k e) [] (drop_more es k e (omega (arith, inside, length-entries h))) ∙ same)
ends_of s (Fails p) h k e never low inside =
    let es = finished_tokens h in
    let first = first_open h h in
    let most = first_open-le h h in
    let whole : k < length es = omega (arith, inside, length-entries h) in
    elim (cases_lt k first) [
      | inl below ↦
          let short = length-take-le first es (omega (arith, most, length-entries h)) in
          let rest = drop (k + 1) (take first es) in
          let here : drop k (take first es) ≡ get_or es k e ∷ rest = drop_more (take first es) k e (omega (arith, below, short)) ∙ ap (λ x. x ∷ rest) (get_or-take first es k e below) in
          let (more, same) = spelled s (get_or es k e) (pool s rest (kept_of (Fails p) h)) in
          (more, pool_more s (drop k (take first es)) rest (get_or es k e) (kept_of (Fails p) h) here ∙ same)
      | inr past ↦
          let is : first ≡ k = omega (arith, past, low) in
          let none : drop k (take first es) ≡ [] = ap (λ f. drop k (take f es)) is ∙ drop_take k es in
          let ends : kept_of (Fails p) h ≡ end_tokens (get_or es k e) = ap (λ f. front_ends (drop f es)) is ∙ entry_first es k e whole in
          ([], ap (λ xs. pool s xs (kept_of (Fails p) h)) none ∙ ends ∙ sym (append-nil (end_tokens (get_or es k e))))
    ]

-- all lexemes are those of a later step
all_later : (text : List ℕ) (n : ℕ) → (k : ℕ) × (all text ≡ history text (k + n))
unfolding all
all_later text n =
    elim (cases_lt n (length text + 2)) [
      | inl low ↦ let z : length text + 2 - n + n ≡ length text + 2 = omega arith in (length text + 2 - n, rw z refl)
      | inr high ↦ let z : 0 + n ≡ n = omega arith in (0, rw z (sym (stays_all text n high)))
    ]

front_of_all : (s : SpelledText) (n k : ℕ) (e : Entry)
    → k ≤ first_open (history s.text n) (history s.text n) → k < length (history s.text n)
    → (more : List Token) × ((remaining s k 0).tokens
    ≡ end_tokens (get_or (finished_tokens (history s.text n)) k e) ++ more)
unfolding remaining handed
front_of_all s n k e low inside =
    let text = s.text in
    let h = history text n in
    let whole = all text in
    let (later, is) = all_later text n in
    let (same, high) = take-history text (goes_forward text) n later k low in
    let IsLow : List Lexeme → Type 0 = λ x. k ≤ first_open x x in
    let low_in_all : k ≤ first_open whole whole = subst IsLow (sym is) high in
    let (newer, grown) = history_grows text n (later + n) (omega arith) in
    let grows : whole ≡ newer ++ h = is ∙ grown in
    let long : length whole ≡ length newer + length h = ap length grows ∙ length-append newer h in
    let IsSame : List Lexeme → Type 0 = λ x. SameEnds (get_or (finished_tokens x) k e) (get_or (finished_tokens h) k e) in
    let (ends, lexeme) = subst IsSame (sym grows) (newer_ends newer h k e inside) in
    let (more, there) = ends_of s (next text whole) whole k e (all_ends text) low_in_all (omega (arith, long, inside)) in
    let told : end_tokens (get_or (finished_tokens whole) k e) ≡ end_tokens (get_or (finished_tokens h) k e) = ap (λ (n : ℕ). replicate n (before block_end (get_or (finished_tokens whole) k e).lexeme)) ends ∙ ap (λ (l : Lexeme). replicate (get_or (finished_tokens h) k e).ends (before block_end l)) lexeme in
    (more, there ∙ ap (λ ts. ts ++ more) told)

drop_tokens : (s : SpelledText) (k given : ℕ)
    → (remaining s k given).tokens ≡ drop given (remaining s k 0).tokens
unfolding remaining
drop_tokens s k given = refl

-- The levels that a lexeme closes come before it is known whether that lexeme is a key, or lost.
pub ends_token : (s : SpelledText) (n k given : ℕ) (e : Entry)
    → k ≤ first_open (history s.text n) (history s.text n) → k < length (history s.text n)
    → let x = get_or (finished_tokens (history s.text n)) k e in given < x.ends
    → GivesFirst (remaining s k given) (before block_end x.lexeme) (remaining s k (given + 1))
ends_token s n k given e low inside l =
    let x = get_or (finished_tokens (history s.text n)) k e in
    let (more, there) = front_of_all s n k e low inside in
    let from : (given : ℕ) → (remaining s k given).tokens ≡ drop given (end_tokens x ++ more) = λ given. drop_tokens s k given ∙ ap (drop given) there in
    let first = drop_append (end_tokens x) more given no_token (omega (arith, l, length-replicate x.ends (before block_end x.lexeme))) in
    let is = get_or-replicate x.ends given (before block_end x.lexeme) no_token l in (
      from given ∙ first ∙ ap (λ t. t ∷ drop (given + 1) (end_tokens x ++ more)) is ∙ ap (λ ts. before block_end x.lexeme ∷ ts) (sym (from (given + 1))),
      fault_is s k given ∙ sym (fault_is s k (given + 1)),
    )

fault_of_all : (s : SpelledText) (h : List Lexeme) (p : ScanFault) (given : ℕ)
    → next s.text h ≡ Fails p → all s.text ≡ h
    → length (front_ends (drop (first_open h h) (finished_tokens h))) ≤ given
    → remaining s (first_open h h) given ≡ record { tokens = []; fault = Some (scanner_fault p) }
unfolding remaining handed
fault_of_all s h p given e whole few = grind (arith, drop_take, drop_of_length-le)

-- After what is settled the fault comes.
pub fault_comes : (s : SpelledText) (n : ℕ) (p : ScanFault) (given : ℕ)
    → let h = history s.text n in next s.text h ≡ Fails p
    → length (front_ends (drop (first_open h h) (finished_tokens h))) ≤ given
    → remaining s (first_open h h) given ≡ record { tokens = []; fault = Some (scanner_fault p) }
fault_comes s n p given e few = grind (arith, nat_tests, fault_of_all, last_is_all, never_read_fault)

end_of_all : (s : SpelledText) (h : List Lexeme) (k given : ℕ) → next s.text h ≡ Ends
    → all s.text ≡ h → length h ≤ k → remaining s k given ≡ nothing
unfolding remaining handed
end_of_all s h k given e whole past = grind (arith, drop_of_length-le, length-entries)

-- After the last lexeme nothing comes.
pub end_comes : (s : SpelledText) (n k given : ℕ) → next s.text (history s.text n) ≡ Ends
    → length (history s.text n) ≤ k → remaining s k given ≡ nothing
end_comes s n k given e past = end_of_all s (history s.text n) k given e (last_is_all s.text n (λ l. never_read (next s.text (history s.text n)) l e)) past

-- A settled lexeme's tokens come, one after another.
pub settled_comes : (s : SpelledText) (n k given : ℕ) (e : Entry) (t : Token)
    → k < first_open (history s.text n) (history s.text n)
    → let x = get_or (finished_tokens (history s.text n)) k e in
    (given < length (spell s x) → GivesFirst (remaining s k given) (get_or (spell s x) given t)
    (remaining s k (given + 1))) × (given ≡ length (spell s x) → remaining s k given
    ≡ remaining s (k + 1) 0)
settled_comes s n k given e t low =
    let known = known_settled s.text n (suc k) (omega (arith, low)) in
    (settled_token s n k given e t known, settled_done s n k given e known)

-- The last lexeme's tokens come, one after another.
pub last_comes : (s : SpelledText) (n k given : ℕ) (e : Entry) (t : Token)
    → next s.text (history s.text n) ≡ Ends → k < length (history s.text n)
    → let x = get_or (finished_tokens (history s.text n)) k e in
    (given < length (spell s x) → GivesFirst (remaining s k given) (get_or (spell s x) given t)
    (remaining s k (given + 1))) × (given ≡ length (spell s x) → remaining s k given
    ≡ remaining s (k + 1) 0)
last_comes s n k given e t over low =
    let known = known_ended s.text n (suc k) over (omega (arith, low)) in
    (settled_token s n k given e t known, settled_done s n k given e known)
