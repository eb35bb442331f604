-- A step after key-free lexemes, and what comes of them.
use Rattle.std.proofs.Common.{◌≡◌, ℕ, zero, suc, ◌+◌, ◌&&◌, not, nat_lt, if◌then◌else◌, Bool, true, false, List, [], ◌∷◌, ◌++◌, length, map, reverse, drop, flat_map, Option, Some, None, Result, Ok, refl, sym, ap, subst, ◌∙◌, arith}
use Rattle.yaml_scan_laws.proofs.TextWords.{nat_tests, append-nil, drop-map, yaml_mark_t, Token, mark_at, Wrong, Gap, Kind, Lexeme, Entry, is_value, is_start, is_end, flow_depth, reached, ended, Candidate, candidate, fresh, has, placed, finished_tokens, WordText, kind_at, lexeme_at, Next, Read, Ends, first_lexeme, begun, finished, allowed_behind, misplaced, missed, lost_by, kind_behind, coming, next, extended, history, not_allowed, tested, unless_wrong, unless_lost, of_kind, unless_missed, behind, stepwise, SpelledText, token_in, spell, all, handed_out, handed, kept_of, fault_in, Remaining, remaining, asked, is_key_free, is_level_free, kinds_of, gap_in, lexeme_of}
use Rattle.yaml_scan_history.specs.scan_types.Faults.{Fault}
use Rattle.yaml_scan_laws.proofs.FreeLemmas.{is_plain, AllMade, Whole, whole_word, begun_made, finished_made, history_made, level_head, level_rest, depth_is, starts_none, no_levels, bare, entries_bare, bare_tokens}
use Rattle.yaml_scan_laws.proofs.Pushing.{unless_so, free_push, free_in_time, missed_none}
use Rattle.yaml_scan_laws.specs.TextFronts.{IsFree}
use Rattle.yaml_scan_laws.proofs.Turning.{lost_none}

-- What comes.

pub remaining_of : (ts us : List Token) (f : Option Fault) → ts ≡ us → f ≡ None
    → let one : Remaining = record { tokens = ts; fault = f } in
    one ≡ record { tokens = us; fault = None }
remaining_of ts us f e g = rw (e, g) refl

tokens_are : (s : SpelledText) (h : List Lexeme) (dropped : ℕ) → AllMade h
    → is_key_free (kinds_of h) ≡ true
    → flat_map (spell s) (drop dropped (finished_tokens h)) ++ []
    ≡ map (token_in s) (drop dropped (reverse h))
tokens_are s h dropped made free =
    append-nil (flat_map (spell s) (drop dropped (finished_tokens h))) ∙ ap (λ (es : List Entry). flat_map (spell s) (drop dropped es)) (entries_bare h made free)
    ∙ ap (λ (es : List Entry). flat_map (spell s) es) (drop-map bare dropped (reverse h)) ∙ bare_tokens s (drop dropped (reverse h))

all_made : (text : List ℕ) → AllMade (all text)
unfolding all
all_made text = history_made text (length text + 2)

pub remaining_bare : (s : SpelledText) → is_key_free (kinds_of (all s.text)) ≡ true
    → next s.text (all s.text) ≡ Ends
    → (dropped given : ℕ)
    → remaining s dropped given ≡ record
    { tokens = drop given (map (token_in s) (drop dropped (reverse (all s.text)))); fault = None }
unfolding remaining handed
remaining_bare s free ends dropped given =
    remaining_of _ (drop given (map (token_in s) (drop dropped (reverse (all s.text))))) (fault_in (next s.text (all s.text)))
    (ap (λ (x : Next). drop given (flat_map (spell s) (drop dropped (handed_out x (all s.text))) ++ kept_of x (all s.text))) ends
    ∙ ap (λ (ts : List Token). drop given ts) (tokens_are s (all s.text) dropped (all_made s.text) free))
    (ap (λ (x : Next). fault_in x) ends)

-- No candidate is required.

unrequired : (d : ℕ) (h : List Lexeme) → AllMade h → is_level_free (kinds_of h) ≡ true
    → IsFree (candidate d h)
unfolding AllMade candidate
unrequired d [] made free = tt
unrequired d (l ∷ h) (m, made) free =
    let rest = level_rest l.kind (kinds_of h) free in
    free_push l h d (unrequired d h made rest) (m.required (no_levels h made rest))

fresh_unrequired : (o : Option Candidate) (at : yaml_mark_t) → IsFree o
    → IsFree (fresh o at)
fresh_unrequired o at u = grind arith

unmissed : (o : Option Candidate) (at : yaml_mark_t) → IsFree o → missed o at ≡ None
unmissed o at u = missed_none o at (free_in_time o at u)

pub none_required : (h : List Lexeme) (d : ℕ) (l : Lexeme) (at to : yaml_mark_t) → AllMade h
    → is_level_free (kinds_of h) ≡ true
    → (missed (fresh (candidate d h) at) to ≡ None) × (lost_by l (fresh (candidate d h) at) ≡ None)
none_required h d l at to made free = grind (arith, nat_tests, fresh_unrequired, unrequired, unmissed, lost_none)

-- A step.

in_place : (block allowed start found : Bool) → (start && block) ≡ false
    → ((block && not allowed) && (start && not found)) ≡ false
in_place block allowed start found e = grind arith

tested_read : (l : Lexeme) (h : List Lexeme) → IsFree (candidate 0 (l ∷ h))
    → tested l h ≡ Read l
tested_read l h u = grind (arith, nat_tests, unmissed)

pub whole_of : (w : WordText) (r : Result WordText Wrong) → r ≡ Ok w → Whole r → w.broke ≡ false
whole_of w r e b = grind (arith, nat_tests)

-- a lexeme with its end, by plain fields
finished_plain : (text : List ℕ) (k : Kind) (start : yaml_mark_t) (d level : ℕ)
    (saved required : Bool) (w : WordText) → level ≡ 0 → required ≡ false
    → (is_end k ≡ true → w.broke ≡ false)
    → let l : Lexeme = record {
      kind = k;
      start = start;
      end = start;
      reached = start;
      depth = d;
      level = level;
      saved = saved;
      required = required;
      broke = false;
    } in
    finished text l w ≡ record {
      kind = k;
      start = start;
      end = if is_end k then start else mark_at text w.end;
      reached = if is_end k then start else mark_at text w.reached;
      depth = d;
      level = 0;
      saved = saved;
      required = false;
      broke = w.broke;
    }
finished_plain text k start d level saved required w e f g = grind arith

-- a lexeme that begins so, with its end
finished_is : (text : List ℕ) (h : List Lexeme) (gap : Gap) (k : Kind) (w : WordText)
    → let l = begun k (placed k (mark_at text gap.place)) (allowed_behind h gap) h in
    l.level ≡ 0 → l.required ≡ false → (is_end k ≡ true → w.broke ≡ false) → finished text l w ≡ lexeme_of text h gap k w
finished_is text h gap k w level required broke = grind (arith, nat_tests, finished_plain)

end_not_plain : (k : Kind) → is_end k ≡ true → is_plain k ≡ false
end_not_plain k e = grind (arith, nat_tests)

word_behind : (text : List ℕ) (x : List Lexeme) (k : Kind) (w : WordText) → AllMade x
    → is_level_free (k ∷ kinds_of x) ≡ true
    → kind_at (nat_lt 0 (flow_depth x)) text (gap_in text x).place ≡ Some k
    → lexeme_at k (nat_lt 0 (flow_depth x)) 0 text (gap_in text x).place ≡ Ok w
    → behind text (gap_in text x) x ≡ Read (lexeme_of text x (gap_in text x) k w)
word_behind text x k w made free kind said =
    let gap = gap_in text x in
    let flow = nat_lt 0 (flow_depth x) in
    let m = mark_at text gap.place in
    let b = begun k (placed k m) (allowed_behind x gap) x in
    let fit = level_head k (kinds_of x) free in
    let rest = level_rest k (kinds_of x) free in
    let none = no_levels x made rest in
    let bm = begun_made k (placed k m) gap x in
    let whole : is_plain k ≡ false → w.broke ≡ false = λ e. whole_of w (lexeme_at k flow 0 text gap.place) said (whole_word k flow 0 text gap.place e) in
    let fm = finished_made text b x w whole bm in
    let u = unrequired 0 x made rest in
    ap (λ (o : Option yaml_mark_t). unless_missed o text gap x) (unmissed (fresh (candidate 0 x) (reached x)) m (fresh_unrequired (candidate 0 x) (reached x) u))
    ∙ ap (λ (o : Option Kind). of_kind o text gap x) kind
    ∙ unless_so (misplaced k m (allowed_behind x gap) x) (not_allowed k m) (unless_lost (lost_by b (fresh (candidate (flow_depth x) x) m)) text gap.place b x)
    (in_place (not flow) (allowed_behind x gap) (is_start k) (is_value k && has (fresh (candidate (flow_depth x) x) m)) (starts_none k (asked (kinds_of x)) (flow_depth x) fit (depth_is x made)))
    ∙ ap (λ (o : Option yaml_mark_t). unless_lost o text gap.place b x) (lost_none b (fresh (candidate (flow_depth x) x) m) (fresh_unrequired (candidate (flow_depth x) x) m (unrequired (flow_depth x) x made rest)))
    ∙ ap (λ (r : Result WordText Wrong). unless_wrong r text b x) (ap (λ n. lexeme_at k flow n text gap.place) (bm.level none) ∙ said)
    ∙ tested_read (finished text b w) x (free_push (finished text b w) x 0 u (fm.required none))
    ∙ ap (λ (l : Lexeme). Read l) (finished_is text x gap k w (bm.level none) (bm.required none) (λ e. whole (end_not_plain k e)))

pub word_read : (text : List ℕ) (l : Lexeme) (h : List Lexeme) (k : Kind) (w : WordText)
    → AllMade (l ∷ h) → is_level_free (k ∷ kinds_of (l ∷ h)) ≡ true → ended (l ∷ h) ≡ false
    → kind_at (nat_lt 0 (flow_depth (l ∷ h))) text (gap_in text (l ∷ h)).place ≡ Some k
    → lexeme_at k (nat_lt 0 (flow_depth (l ∷ h))) 0 text (gap_in text (l ∷ h)).place ≡ Ok w
    → next text (l ∷ h) ≡ Read (lexeme_of text (l ∷ h) (gap_in text (l ∷ h)) k w)
unfolding next
word_read text l h k w made free more kind said =
    unless_so (is_end l.kind) Ends (coming (kind_behind text (l ∷ h)) text (l ∷ h)) more ∙ stepwise text (l ∷ h) ∙ word_behind text (l ∷ h) k w made free kind said

-- Some lexeme is read by the first step.
record HasNewest (h : List Lexeme) : Type 0 where
  pub newest : Lexeme
  pub older : List Lexeme
  pub is : h ≡ newest ∷ older

extended_more : (x : Next) (h : List Lexeme) → HasNewest h → HasNewest (extended x h)
extended_more x h s = grind (arith, nat_tests)

has_newest : (text : List ℕ) (n : ℕ) → HasNewest (history text (suc n))
unfolding history next
has_newest text zero = record { newest = first_lexeme; older = []; is = refl }
has_newest text (suc n) = extended_more (next text (history text (suc n))) (history text (suc n)) (has_newest text n)

-- Each word after such lexemes is read.
abbrev ReadsWords : List ℕ → List Lexeme → Type 0
ReadsWords text h = (k : Kind) (w : WordText) → AllMade h → is_level_free (k ∷ kinds_of h) ≡ true → ended h ≡ false
    → kind_at (nat_lt 0 (flow_depth h)) text (gap_in text h).place ≡ Some k
    → lexeme_at k (nat_lt 0 (flow_depth h)) 0 text (gap_in text h).place ≡ Ok w
    → next text h ≡ Read (lexeme_of text h (gap_in text h) k w)

pub step_reads : (text : List ℕ) (n : ℕ) → ReadsWords text (history text (suc n))
step_reads text n =
    let some = has_newest text n in
    let P : List Lexeme → Type 0 = λ h. ReadsWords text h in
    subst P (sym some.is) (λ k w made free more kind said. word_read text some.newest some.older k w made free more kind said)
