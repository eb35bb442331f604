-- What a step comes to.
use Rattle.std.proofs.Common.{◌≡◌, ℕ, suc, ◌+◌, ◌-◌, ◌<◌, ◌≤◌, Bool, true, false, inl, inr, List, ◌∷◌, length, Option, Some, None, Result, Ok, Err, refl, sym, ap, subst, ◌∙◌, arith}
use Rattle.std.specs.Prelude.{OnOk}
use Rattle.yaml_scan_core.proofs.Words.{cases_Bool, yaml_mark_t, mark_at, Kind, Lexeme, Candidate, candidate, reached, finished_tokens, is_end, length-entries, Next, Read, Fails, missed, next, history, colon_missing, required_in, required_at, KeyStack, AreWithin, AreKeys, stack_of, late, index_in}
use Rattle.yaml_scan_history.specs.Stepwise.{no_colon as comes_no_colon}
use Rattle.yaml_scan_core.specs.Lines.{IsLineStart}
use Rattle.yaml_scan_core.specs.declared.fault.Fault.{Fault}
use Rattle.yaml_scan_core.specs.declared.fault.Refused.{Refused}
use Rattle.yaml_scan_core.specs.declared.scanner.Scanner.{Scanner}
use Rattle.yaml_scan_core.specs.Shown.{place_mark}
use Rattle.yaml_scan_core.specs.declared.row.Row.{Row}
use Rattle.yaml_scan_core.specs.Scanning.{Advances, Falls, Holds, IsTold, Keeps, Shows, ShowsSettled, StandsAt, Steps, Takes, Tests, fixed_of, history_of, read_by}
use Rattle.yaml_scan_core.proofs.NextLemmas.{unmissed}
use Rattle.yaml_scan_core.proofs.StandLemmas.{colon_told, fails_test, late_missed, missed_required, passes_test}
use Rattle.yaml_scan_core.proofs.PlacesLemmas.{mark_of_place}
use Rattle.yaml_scan_core.proofs.TakesLemmas.{falls_after, history_more, keeps_from}

abbrev test_of : Option yaml_mark_t → Lexeme → Next
test_of o l = elim o as (λ _. Next) [ Some start ↦ comes_no_colon start l.reached | None ↦ Read l ]

-- how many were read
pub counted : (s : Scanner) (h : List Lexeme) → Holds s h → length h ≡ read_by s
counted s h o = omega (arith, o.row.count, length-entries h)

pub advance_one : (mid new : Scanner) (h : List Lexeme) (t : Takes mid new h) → Holds mid h
    → h ≡ history_of mid
    → missed (candidate 0 (t.lexeme ∷ h)) t.lexeme.reached ≡ None → Advances mid new
advance_one mid new h t o is none =
    let l = t.lexeme in
    let text = mid.text.now in
    let reads : next text h ≡ Read l = t.next ∙ ap (λ m. test_of m l) none in
    let before = counted mid h o in
    let after = counted new (l ∷ h) t.shows.holds in
    let count : read_by new ≡ suc (read_by mid) = omega (arith, before, after) in
    let more : history text (suc (read_by mid)) ≡ l ∷ history text (read_by mid) = history_more text (read_by mid) l (subst (λ x. next text x ≡ Read l) is reads) in
    let same : l ∷ h ≡ history_of new = ap (λ x. l ∷ x) is ∙ sym more ∙ ap (λ n. history text n) (sym count) ∙ ap (λ x. history x (read_by new)) (sym t.text) in
    record { shows = subst (λ x. Shows new x) same t.shows; text = t.text; kept = subst (λ x. Keeps mid new (finished_tokens x)) same t.kept; one = omega (arith, count) }

-- ---- from the state before the gap

pub falls_from : (old mid new : Scanner) (h g : List Lexeme) → mid.text.now ≡ old.text.now
    → mid.row ≡ old.row → fixed_of mid ≡ fixed_of old → g ≡ h
    → Falls mid new g → Falls old new h
falls_from old mid new h g text row fixed same f =
    let it : Falls mid new h = subst (λ x. Falls mid new x) same f in
    record { settled = it.settled; text = it.text ∙ text; told = subst (λ t. IsTold t new.fault (next t h)) text it.told; kept = keeps_from old mid new it.settled.all row fixed it.kept }

pub advances_from : (old mid new : Scanner) → mid.text.now ≡ old.text.now → mid.row ≡ old.row
    → fixed_of mid ≡ fixed_of old
    → Advances mid new → Advances old new
advances_from old mid new text row fixed v =
    let count : read_by mid ≡ read_by old = ap (λ (r : Row). r.dropped + length r.lexemes.items) row in
    record {
      shows = v.shows;
      text = v.text ∙ text;
      kept = keeps_from old mid new (finished_tokens (history_of new)) row fixed v.kept;
      one = omega (arith, v.one, count);
    }

-- ---- the last test

pub within : (n : ℕ) (text : List ℕ) (s : KeyStack) (h : List Lexeme) (p : yaml_mark_t)
    → AreKeys text s h p
    → length text < n → AreWithin (n - 1) s
within n text s h p a long = λ d. omega (arith, a.inside d, long)

pub missed_none : (o : Option Candidate) (q : yaml_mark_t) → required_in o ≡ None
    → missed o q ≡ None
missed_none None q e = refl
missed_none (Some c) q e = elim (cases_Bool c.lexeme.required) [ inl y ↦ let bad = rw y at e in cc | inr n ↦ rw n refl ]

idle_required : (text : List ℕ) (s : KeyStack) (r : Bool) → r ≡ s.required → r ≡ false
    → required_at text s ≡ None
idle_required text s r is e = rw (sym is ∙ e) refl

refaulted : (s : Scanner) (f : Option Fault) (h : List Lexeme) → ShowsSettled s h
    → ShowsSettled (record s { fault = f }) h
refaulted s f h x = record {
  all = x.all;
  row = x.row;
  more = x.more;
  front = x.front;
  lost = x.lost;
  start = x.start;
  room = x.room;
  settled = x.settled;
  keys = x.keys;
  within = x.within;
  long = x.long;
}

faulted : (mid taken new : Scanner) (h : List Lexeme) → new ≡ record taken { fault = new.fault }
    → (v : ShowsSettled taken h) → Keeps mid taken v.all → taken.text.now ≡ mid.text.now
    → IsTold mid.text.now new.fault (next mid.text.now h) → Falls mid new h
unfolding refaulted
faulted mid taken new h same settled kept text told =
    let falls : Falls mid (record taken { fault = new.fault }) h = record {
      settled = refaulted taken new.fault h settled;
      text = text;
      told = told;
      kept = record { fixed = kept.fixed; row = kept.row };
    } in
    subst (λ (x : Scanner). Falls mid x h) (sym same) falls

-- the test after one lexeme
pub last_test : (mid taken new : Scanner) (h : List Lexeme) (r : Result (Unit {0}) Refused)
    → (t : Takes mid taken h) → Holds mid h → h ≡ history_of mid
    → new ≡ record taken { fault = new.fault } → OnOk r (new ≡ taken)
    → Tests (index_in (late (required_at mid.text.now (stack_of taken.keys)) (mark_at mid.text.now taken.at))) taken.at new.fault r
    → Steps mid new h r
last_test mid taken new h (Ok u) t o is same kept tests =
    let l = t.lexeme in
    let text = mid.text.now in
    let keys = t.shows.holds.keys in
    let passes = passes_test (late (required_at text (stack_of taken.keys)) (mark_at text taken.at)) taken.at new.fault u tests in
    let all : AreKeys text (stack_of taken.keys) (l ∷ h) l.reached = subst (λ x. AreKeys x (stack_of taken.keys) (l ∷ h) l.reached) t.text keys in
    let none : missed (candidate 0 (l ∷ h)) l.reached ≡ None = elim (cases_Bool (is_end l.kind)) [
      | inl over ↦ (t.idle over).0
      | inr more ↦
          let spot : l.reached ≡ mark_at text taken.at = t.shows.mark more ∙ ap (λ x. mark_at x taken.at) t.text in
          ap (λ q. missed (candidate 0 (l ∷ h)) q) spot ∙ sym (late_missed text (stack_of taken.keys) (l ∷ h) l.reached (mark_at text taken.at) all) ∙ passes
    ] in
    subst (λ (x : Scanner). Advances mid x) (sym kept) (advance_one mid taken h t o is none)
last_test mid taken new h (Err d) t o is same kept tests =
    let l = t.lexeme in
    let text = mid.text.now in
    let s = stack_of taken.keys in
    let all : AreKeys text s (l ∷ h) l.reached = subst (λ x. AreKeys x s (l ∷ h) l.reached) t.text t.shows.holds.keys in
    let (start, some, f) = fails_test (late (required_at text s) (mark_at text taken.at)) taken.at new.fault d tests in
    let must : taken.keys.required ≡ true = elim (cases_Bool taken.keys.required) [
      | inl y ↦ y
      | inr no_one ↦ let bad = sym some ∙ ap (λ o. late o (mark_at text taken.at)) (idle_required text s taken.keys.required refl no_one) in cc
    ] in
    let more : is_end l.kind ≡ false = elim (cases_Bool (is_end l.kind)) [ inr n ↦ n | inl y ↦ let bad = sym (t.idle y).1 ∙ sym (late_missed text s (l ∷ h) l.reached (mark_at text taken.at) all) ∙ some in cc ] in
    let spot : l.reached ≡ mark_at text taken.at = t.shows.mark more ∙ ap (λ x. mark_at x taken.at) t.text in
    let late_one : missed (candidate 0 (l ∷ h)) l.reached ≡ Some start = ap (λ q. missed (candidate 0 (l ∷ h)) q) spot ∙ sym (late_missed text s (l ∷ h) l.reached (mark_at text taken.at) all) ∙ some in
    let calm : missed (candidate 0 h) (reached h) ≡ None = rw is (unmissed text (read_by mid)) in
    let (settled, kept_there) = falls_after mid taken (read_by mid) h start o t calm must late_one in
    let comes : next text h ≡ comes_no_colon start l.reached = t.next ∙ ap (λ m. test_of m l) late_one in
    let stays : candidate 0 (l ∷ h) ≡ candidate 0 h = elim (t.outer must) [ inl (key, same_one) ↦ same_one | inr none ↦ let bad = sym none ∙ late_one in cc ] in
    let required : required_in (candidate 0 (history text (read_by mid))) ≡ Some start = subst (λ x. required_in (candidate 0 x) ≡ Some start) is (missed_required (candidate 0 h) l.reached start (ap (λ o. missed o l.reached) (sym stays) ∙ late_one)) in
    let told = colon_told text (read_by mid) taken.at start required in
    let inside : taken.at ≤ length text = subst (λ x. taken.at ≤ length x) t.text t.shows.place.inside in
    let m : place_mark text taken.at ≡ l.reached = mark_of_place text taken.at inside ∙ sym spot in
    let fault : IsTold text new.fault (next text h) = rw f (comes ∙ ap (λ q. Fails (colon_missing start q)) (sym m) ∙ ap (λ p. Fails p) (sym told)) in
    faulted mid taken new h same settled kept_there t.text fault

-- ---- the whole step

steps_from : (old mid new : Scanner) (h g : List Lexeme) (r : Result (Unit {0}) Refused)
    → mid.text.now ≡ old.text.now → mid.row ≡ old.row → fixed_of mid ≡ fixed_of old → g ≡ h → Steps mid new g r
    → Steps old new h r
steps_from old mid new h g (Ok u) text row fixed same v = advances_from old mid new text row fixed v
steps_from old mid new h g (Err e) text row fixed same f = falls_from old mid new h g text row fixed same f

pub steps_err : (old new : Scanner) (h : List Lexeme) (r : Result (Unit {0}) Refused) (e : Refused)
    → r ≡ Err e → Falls old new h → Steps old new h r
steps_err old new h r e is f = rw is f

-- a line starts where the code says
line_there : (mid taken : Scanner) (h : List Lexeme) → Shows taken h → taken.text.now ≡ mid.text.now
    → IsLineStart mid.text.now taken.at taken.line
line_there mid taken h s text = subst (λ t. IsLineStart t taken.at taken.line) text s.place.begins

-- the last test's
abbrev pub LastTests : Scanner → Scanner → Result (Unit {0}) Refused → Type 0
LastTests taken new r = (text : List ℕ) → IsLineStart text taken.at taken.line
    → Tests (index_in (late (required_at text (stack_of taken.keys)) (mark_at text taken.at))) taken.at new.fault r

pub steps : (old mid taken new : Scanner) (k : Kind) (r : Result (Unit {0}) Refused)
    → StandsAt k mid (history_of old)
    → mid.text.now ≡ old.text.now → mid.row ≡ old.row → fixed_of mid ≡ fixed_of old
    → (t : Takes mid taken (history_of mid))
    → new ≡ record taken { fault = new.fault } → OnOk r (new ≡ taken) → LastTests taken new r
    → Steps old new (history_of old) r
steps old mid taken new k r at text row fixed t changed kept tests =
    let h = history_of old in
    let g = history_of mid in
    let whole : g ≡ h = sym at.behind.is in
    steps_from old mid new h g r text row fixed whole
    (last_test mid taken new g r t (subst (λ x. Holds mid x) at.behind.is at.behind.holds) refl changed kept (tests mid.text.now (line_there mid taken (t.lexeme ∷ g) t.shows t.text)))
