-- The state after one lexeme more, and where none is read.
use Rattle.std.proofs.Common.{◌≡◌, ℕ, suc, ◌+◌, ◌-◌, ◌<◌, ◌≤◌, ◌⊎◌, ◌^◌, true, false, inl, inr, List, [], ◌∷◌, ◌++◌, length, get_or, Option, Some, None, Result, Err, refl, sym, ap, subst, ◌∙◌, arith}
use Rattle.yaml_scan_core.proofs.Words.{get_or_append_left, get_or-append_right, length-keyed, cases_Bool, cases_lt, yaml_mark_t, mark_at, Lexeme, Entry, Candidate, candidate, fresh, reached, open_levels, key_allowed, finished_tokens, entry_of, first_open, is_end, keyed, Upto, Read, missed, next, history, SpelledText, candidate_below, fresh_is, length-entries, AreKeys, AreWithin, key_at, stack_of, fresh_key, view_of}
use Rattle.yaml_scan_history.specs.Stepwise.{tested}
use Rattle.yaml_scan_history.proofs.HistoryLemmas.{first_open-grows, take-entries}
use Rattle.yaml_scan_laws.proofs.RemainingForward.{entries_ends}
use Rattle.yaml_scan_laws.proofs.HeldForward.{outer_is_first}
use Rattle.yaml_scan_history.specs.Next.{extended}
use Rattle.yaml_scan_core.specs.declared.fault.Refused.{Refused}
use Rattle.yaml_scan_core.specs.declared.row.Row.{Row}
use Rattle.yaml_scan_core.specs.declared.scanner.Scanner.{Scanner}
use Rattle.yaml_scan_core.specs.Margins.{AreLevels}
use Rattle.yaml_scan_core.specs.Rows.{HasRoom, RowView, no_lexeme, row_of, pushed}
use Rattle.yaml_scan_core.specs.Shown.{ShowsRow, no_entry}
use Rattle.yaml_scan_core.specs.Shown.{KeepsTaken}
use Rattle.yaml_scan_core.specs.declared.lexeme.Lexeme.{Lexeme as Held}
use Rattle.yaml_scan_core.specs.Scanning.{Falls, Holds, IsPlace, IsTold, Keeps, Reads, ShowsSettled, Takes, fixed_of, stream_of}
use Rattle.yaml_scan_core.proofs.ComesLemmas.{here}
use Rattle.yaml_scan_core.proofs.CandidatesLemmas.{upto_here}

-- ---- what is taken stays

pub keeps_lexemes : (old new : Scanner) (es : List Entry)
    → new.row.lexemes.items ≡ old.row.lexemes.items
    → new.row.next ≡ old.row.next → new.row.dropped ≡ old.row.dropped → new.row.settled ≡ old.row.settled → fixed_of new ≡ fixed_of old → Keeps old new es
keeps_lexemes old new es lexemes next dropped settled fixed = record {
  fixed = fixed;
  row = record {
    next = next;
    dropped = dropped;
    settled = settled;
    same = λ lt. ap (λ ls. get_or ls old.row.next no_lexeme) lexemes;
    ends = λ lt. ap (λ ls. (get_or ls old.row.next no_lexeme).ends) lexemes;
    first = λ none some. absurd (omega (arith, none, some, ap (λ (ls : List Held). length ls) lexemes));
  };
}

entry_top : (l : Lexeme) (h : List Lexeme) (n : ℕ) → n ≡ length h
    → get_or (finished_tokens (l ∷ h)) n no_entry ≡ entry_of l h
unfolding finished_tokens
entry_top l h n top =
    let here : length (keyed l h (finished_tokens h)) ≡ n = omega (arith, length-keyed l h (finished_tokens h), length-entries h) in
    let z : n - n ≡ 0 = omega arith in
    get_or-append_right (keyed l h (finished_tokens h)) _ n n no_entry here (omega arith) ∙ ap (λ i. get_or (entry_of l h ∷ []) i no_entry) z

-- after one more lexeme, where those before it are these
pub keeps_put : (old new : Scanner) (t : SpelledText) (l : Lexeme) (h : List Lexeme)
    (ls : List Held) (x : Held)
    → ShowsRow t (row_of old.row) (finished_tokens h) → length ls ≡ length old.row.lexemes.items
    → (old.row.next < old.row.settled → get_or ls old.row.next no_lexeme ≡ get_or old.row.lexemes.items old.row.next no_lexeme)
    → (old.row.next < length old.row.lexemes.items → (get_or ls old.row.next no_lexeme).ends ≡ (get_or old.row.lexemes.items old.row.next no_lexeme).ends)
    → new.row.lexemes.items ≡ ls ++ x ∷ [] → new.row.next ≡ old.row.next → new.row.dropped ≡ old.row.dropped
    → new.row.settled ≡ old.row.settled → x.ends ≡ (entry_of l h).ends
    → fixed_of new ≡ fixed_of old → Keeps old new (finished_tokens (l ∷ h))
keeps_put old new t l h ls x row long same ends lexemes next dropped settled own fixed =
    let n = old.row.next in
    let taken = row.taken in
    let few = row.few in
    let at : (i : ℕ) → i < length ls → get_or new.row.lexemes.items i no_lexeme ≡ get_or ls i no_lexeme = λ i lt. ap (λ ys. get_or ys i no_lexeme) lexemes ∙ get_or_append_left ls (x ∷ []) no_lexeme i lt in
    record {
      fixed = fixed;
      row = record {
        next = next;
        dropped = dropped;
        settled = settled;
        same = λ lt. at n (omega (arith, lt, few, long)) ∙ same lt;
        ends = λ lt. ap (λ (y : Held). y.ends) (at n (omega (arith, lt, long))) ∙ ends lt;
        first = λ none some.
            let here : length ls ≡ n = omega (arith, none, taken, few, long) in
            let z : n - n ≡ 0 = omega arith in
            let top : get_or new.row.lexemes.items n no_lexeme ≡ x = ap (λ ys. get_or ys n no_lexeme) lexemes ∙ get_or-append_right ls (x ∷ []) n n no_lexeme here (omega arith) ∙ ap (λ i. get_or (x ∷ []) i no_lexeme) z in
            ap (λ (y : Held). y.ends) top ∙ own ∙ sym (ap (λ (e : Entry). e.ends) (entry_top l h (old.row.dropped + n) (omega (arith, row.count, length-entries h, here, long))));
      };
    }

pub keeps_pushed : (old new : Scanner) (t : SpelledText) (l : Lexeme) (h : List Lexeme) (x : Held)
    → ShowsRow t (row_of old.row) (finished_tokens h)
    → row_of new.row ≡ pushed x (row_of old.row) → x.ends ≡ (entry_of l h).ends
    → fixed_of new ≡ fixed_of old → Keeps old new (finished_tokens (l ∷ h))
keeps_pushed old new t l h x row is own fixed =
    keeps_put old new t l h old.row.lexemes.items x row refl (λ lt. refl) (λ lt. refl) (ap (λ (r : RowView). r.lexemes) is)
    (ap (λ (r : RowView). r.next) is) (ap (λ (r : RowView). r.dropped) is) (ap (λ (r : RowView). r.settled) is) own fixed

-- the row and what no call changes are those of before
pub keeps_from : (old mid new : Scanner) (es : List Entry) → mid.row ≡ old.row
    → fixed_of mid ≡ fixed_of old → Keeps mid new es → Keeps old new es
keeps_from old mid new es row fixed k = record { fixed = k.fixed ∙ fixed; row = subst (λ (r : Row). KeepsTaken (row_of r) (row_of new.row) es) row k.row }

-- ---- where none is read

-- nothing but the fault, the levels and what is put after the arena has changed
pub falls_kept : (old new : Scanner) (h : List Lexeme) → Holds old h
    → new.text.now ≡ old.text.now → new.encoding ≡ old.encoding
    → ShowsRow (stream_of old) (row_of new.row) (finished_tokens h) → HasRoom new.row
    → new.row.dropped ≡ old.row.dropped → new.row.settled ≡ old.row.settled
    → stack_of new.keys ≡ stack_of old.keys
    → IsTold old.text.now new.fault (next old.text.now h)
    → new.row.lexemes.items ≡ old.row.lexemes.items → new.row.next ≡ old.row.next → fixed_of new ≡ fixed_of old
    → Falls old new h
falls_kept old new h o text coding row room dropped settled keys told lexemes next fixed = record {
  settled = record {
    all = finished_tokens h;
    row = rw (text, coding) row;
    more = omega (arith, length-entries h);
    front = refl;
    lost = refl;
    start = λ lt. refl;
    room = room;
    settled = omega (arith, dropped, settled, o.settled);
    keys = rw (text, keys) (inl (o.keys, omega (arith, row.count, length-entries h)));
    within = subst (λ t. AreWithin (length t) (stack_of new.keys)) (sym text) (subst (λ k. AreWithin (length old.text.now) k) (sym keys) o.keys.inside);
    long = rw text o.long;
  };
  text = text;
  told = told;
  kept = keeps_lexemes old new (finished_tokens h) lexemes next dropped settled fixed;
}

-- ---- a lexeme that is read

-- what it leaves of the row, the keys and the levels
pub record Leaves (old new : Scanner) (l : Lexeme) (h : List Lexeme) : Type 0 where
  pub text : new.text.now ≡ old.text.now
  pub coding : new.encoding ≡ old.encoding
  pub row : ShowsRow (stream_of old) (row_of new.row) (finished_tokens (l ∷ h))
  pub room : HasRoom new.row
  pub dropped : new.row.dropped ≡ old.row.dropped
  pub settled : new.row.settled ≡ old.row.settled
  pub keys : AreKeys old.text.now (stack_of new.keys) (l ∷ h) l.reached
  pub few : length new.levels.outer.items < 2 ^ 32
  pub fault : new.fault ≡ old.fault
  pub over : new.ended ≡ is_end l.kind
  pub place : IsPlace old.text.now new.at new.line new.wide
  pub mark : is_end l.kind ≡ false → l.reached ≡ mark_at old.text.now new.at
  pub allowed : is_end l.kind ≡ false → new.key_allowed ≡ key_allowed (l ∷ h)
  pub margins : AreLevels new.levels (open_levels (l ∷ h))
  pub outer : new.keys.required ≡ true → ((key_at (stack_of new.keys) 0 ≡ key_at (stack_of old.keys) 0)
      × (candidate 0 (l ∷ h) ≡ candidate 0 h)) ⊎ (missed (candidate 0 (l ∷ h)) l.reached ≡ None)
  pub passed : new.keys.passed ≤ old.keys.passed
  pub idle : is_end l.kind ≡ true → (missed (candidate 0 (l ∷ h)) l.reached ≡ None)
      × (missed (candidate 0 (l ∷ h)) (mark_at old.text.now new.at) ≡ None)
  pub further : Upto (reached h) l.start
  pub forward : Upto l.start l.reached
  pub kept : Keeps old new (finished_tokens (l ∷ h))

pub takes : (old new : Scanner) (l : Lexeme) (h : List Lexeme) → Holds old h → Leaves old new l h
    → next old.text.now h ≡ tested l h → Takes old new h
takes old new l h o v comes =
    let on : Upto (reached h) l.reached = (omega (arith, v.further.0, v.forward.0), omega (arith, v.further.1, v.forward.1)) in
    let grows = first_open-grows l h on in
    record {
      lexeme = l;
      shows = record {
        holds = record {
          long = rw v.text o.long;
          row = rw (v.text, v.coding) v.row;
          room = v.room;
          settled = omega (arith, v.dropped, v.settled, o.settled, grows);
          keys = rw v.text v.keys;
          few = v.few;
          fault = v.fault ∙ o.fault;
          bytes = rw v.text o.bytes;
        };
        over = v.over;
        place = rw v.text v.place;
        mark = λ e. rw v.text (v.mark e);
        allowed = v.allowed;
        margins = v.margins;
      };
      next = comes;
      text = v.text;
      further = v.further;
      outer = v.outer;
      passed = v.passed;
      settled = omega (arith, v.dropped, v.settled);
      idle = v.idle;
      kept = v.kept;
    }

-- ---- the last test

-- what a missed candidate of the block level is
missed_is : (o : Option Candidate) (p start : yaml_mark_t) → missed o p ≡ Some start
    → (c : Candidate) × (o ≡ Some c) × (c.lexeme.required ≡ true) × (start ≡ c.lexeme.start)
missed_is None p start e = cc
missed_is (Some c) p start e = elim (cases_Bool c.lexeme.required) [
  | inr idle ↦ let bad = rw idle at e in cc
  | inl must ↦ (c, refl, must, grind (arith, must, e))
]

-- a candidate that is missed after a lexeme was open before it, if it was there
open_before : (o : Option Candidate) (p q start : yaml_mark_t) → missed o p ≡ None
    → missed o q ≡ Some start → (c : Candidate) × (fresh o p ≡ Some c)
open_before None p q start calm late = cc
open_before (Some c) p q start calm late = (c, grind (arith, calm, late))

-- A lexeme was read, but a required candidate is stale after it: nothing is settled by it.
pub falls_after : (old new : Scanner) (n : ℕ) (h : List Lexeme) (start : yaml_mark_t) → Holds old h
    → (t : Takes old new h) → missed (candidate 0 h) (reached h) ≡ None
    → new.keys.required ≡ true
    → missed (candidate 0 (t.lexeme ∷ h)) t.lexeme.reached ≡ Some start
    → (v : ShowsSettled new h) × Keeps old new v.all
falls_after old new n h start o t calm must late =
    let l = t.lexeme in
    elim (t.outer must) [
      | inr none ↦ let bad = sym none ∙ late in cc
      | inl (same, stays) ↦
          let (c, here) = open_before (candidate 0 h) (reached h) l.reached start calm (ap (λ o. missed o l.reached) (sym stays) ∙ late) in
          let first = outer_is_first h c here in
          let below = candidate_below 0 h c (fresh_is (candidate 0 h) (reached h) c here) in
          let low : first_open h h < length h = omega (arith, first, below) in
          let ends = entries_ends l h (first_open h h) no_entry low in
          let agrees : fresh_key old.text.now (key_at (stack_of old.keys) 0) (reached h) ≡ view_of (fresh (candidate 0 h) (reached h)) = o.keys.agrees 0 (omega arith) (reached h) (upto_here (reached h)) in
          let none : old.keys.passed ≡ 0 = elim (cases_lt 0 old.keys.passed) [
            | inr flat ↦ omega (arith, flat)
            | inl some ↦ let bad = sym (o.keys.stale 0 some) ∙ agrees ∙ ap view_of here in cc
          ] in (
            record {
              all = finished_tokens (l ∷ h);
              row = t.shows.holds.row;
              more = omega (arith, length-entries (l ∷ h));
              front = take-entries l h (first_open h h) t.further (omega arith);
              lost = ends.0;
              start = λ lt. ends.1;
              room = t.shows.holds.room;
              settled = omega (arith, t.settled, o.settled);
              keys = rw t.text (inr (rw same agrees, (λ gone. (let bad = sym gone ∙ here in cc), λ d lt. absurd (omega (arith, lt, t.passed, none)))));
              within = t.shows.holds.keys.inside;
              long = t.shows.holds.long;
            },
            t.kept,
          )
    ]

-- ---- one lexeme more

pub history_more : (text : List ℕ) (n : ℕ) (l : Lexeme) → next text (history text n) ≡ Read l
    → history text (suc n) ≡ l ∷ history text n
unfolding history
history_more text n l e = ap (λ x. extended x (history text n)) e

-- ---- exits of the code

-- a test refuses
pub falls_same : (old new : Scanner) (h : List Lexeme) → Holds old h
    → new ≡ record old { fault = new.fault } → IsTold old.text.now new.fault (next old.text.now h)
    → Falls old new h
falls_same old new h o e told =
    falls_kept old new h o (ap (λ (s : Scanner). s.text.now) e) (ap (λ (s : Scanner). s.encoding) e)
    (subst (λ r. ShowsRow (stream_of old) r (finished_tokens h)) (sym (ap (λ (s : Scanner). row_of s.row) e)) o.row)
    (subst HasRoom (sym (ap (λ (s : Scanner). s.row) e)) o.room)
    (ap (λ (s : Scanner). s.row.dropped) e) (ap (λ (s : Scanner). s.row.settled) e)
    (ap (λ (s : Scanner). stack_of s.keys) e) told
    (ap (λ (s : Scanner). s.row.lexemes.items) e) (ap (λ (s : Scanner). s.row.next) e) (ap (λ (s : Scanner). fixed_of s) e)

-- memory runs out before all changes but of the levels
pub falls_memory : (old new : Scanner) (h : List Lexeme) → Holds old h
    → new.text.now ≡ old.text.now → new.encoding ≡ old.encoding
    → stack_of new.keys ≡ stack_of old.keys → row_of new.row ≡ row_of old.row → HasRoom new.row
    → new.fault ≡ old.fault → fixed_of new ≡ fixed_of old → Falls old new h
falls_memory old new h o text coding keys row room fault fixed =
    falls_kept old new h o text coding (subst (λ r. ShowsRow (stream_of old) r (finished_tokens h)) (sym row) o.row) room
    (ap (λ (r : RowView). r.dropped) row) (ap (λ (r : RowView). r.settled) row) keys
    (subst (λ f. IsTold old.text.now f (next old.text.now h)) (sym (fault ∙ o.fault)) tt)
    (ap (λ (r : RowView). r.lexemes) row) (ap (λ (r : RowView). r.next) row) fixed

-- where a lexeme couldn't be put
pub falls_put : (old mid : Scanner) (row : Row) (h : List Lexeme) → Holds old h → mid ≡ old
    → row_of row ≡ row_of mid.row → (HasRoom mid.row → HasRoom row)
    → Falls old (record mid { row = row }) h
falls_put old mid row h o e same room =
    falls_memory old (record mid { row = row }) h o (ap (λ (s : Scanner). s.text.now) e) (ap (λ (s : Scanner). s.encoding) e)
    (ap (λ (s : Scanner). stack_of s.keys) e) (same ∙ ap (λ (s : Scanner). row_of s.row) e)
    (room (subst HasRoom (sym (ap (λ (s : Scanner). s.row) e)) o.room)) (ap (λ (s : Scanner). s.fault) e) (ap (λ (s : Scanner). fixed_of s) e)

pub reads_err : (old new : Scanner) (h : List Lexeme) (r : Result (Unit {0}) Refused) (e : Refused)
    → r ≡ Err e → Falls old new h → Reads old new h r
reads_err old new h r e is f = rw is f
