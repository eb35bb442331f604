-- Where a lexeme is after the gap.
use Rattle.std.proofs.Common.{◌≡◌, ℕ, ◌+◌, ◌<◌, Bool, true, false, cond, ltb, ◌&&◌, ◌||◌, not, List, length, Option, Some, None, Result, Ok, Err, refl, sym, ap, subst, ◌∙◌, arith}
use Rattle.std.specs.Prelude.{filter, nat_le}
use Rattle.yaml_scan_core.proofs.Words.{yaml_mark_t, mark_at, column_at, Kind, Lexeme, candidate, reached, flow_depth, ended, open_levels, key_allowed, keeps, kind_at, Fails, missed, next, history, colon_missing, no_start, required_in, required_at, inner, stack_of, late, index_in, Upto, length-entries}
use Rattle.yaml_scan_history.specs.Between.{Gap, gap_at, with_break}
use Rattle.yaml_scan_history.specs.Next.{gap_behind}
use Rattle.yaml_scan_core.specs.declared.fault.Fault.{Fault}
use Rattle.yaml_scan_core.specs.declared.fault.Refused.{Refused}
use Rattle.yaml_scan_core.specs.declared.levels.Levels.{Levels}
use Rattle.yaml_scan_core.specs.declared.scanner.Scanner.{Scanner}
use Rattle.yaml_scan_core.specs.Margins.{AreLevels, left_of}
use Rattle.yaml_scan_core.specs.Shown.{place_mark}
use Rattle.yaml_scan_core.specs.Scanning.{Falls, Finds, Holds, IsBehind, IsTold, Passes, Reads, Shows, StandsAs, StandsAt, StaysAt, Takes, Tests, fault_in, fixed_of, gap_there, history_of, left_behind, no_start_at, read_by}
use Rattle.yaml_scan_core.proofs.CandidatesLemmas.{inner_is}
use Rattle.yaml_scan_core.proofs.ComesLemmas.{GoesOn, comes_late, comes_none, here}
use Rattle.yaml_scan_core.proofs.MarginsLemmas.{count_is}
use Rattle.yaml_scan_core.proofs.NextLemmas.{upto_later}
use Rattle.yaml_scan_core.proofs.StandLemmas.{colon_told, fails_test, late_missed, missed_required, passes_test}
use Rattle.yaml_scan_core.proofs.PlacesLemmas.{mark_of_place}
use Rattle.yaml_scan_core.proofs.TakesLemmas.{falls_same, keeps_from}

-- ---- levels

-- the state where the levels are closed
pub closes : (k : Kind) (old : Scanner) (lv : Levels) (n kept : ℕ) → let h = history_of old in
    StandsAt k old h → ltb 0 (inner (stack_of old.keys)) ≡ false
    → kept ≡ keeps k (column_at old.text.now old.at)
    → ((ls : List ℕ) → AreLevels old.levels ls → AreLevels lv (left_of kept ls))
    → n + length lv.outer.items ≡ length old.levels.outer.items
    → StandsAs k (record old { levels = lv }) h n
closes k old lv n kept a flat is left fewer =
    let h = history_of old in
    let b = a.behind in
    let deep : ltb 0 (flow_depth h) ≡ false = ap (λ d. ltb 0 d) (sym (inner_is (flow_depth h) (stack_of old.keys) b.holds.keys.long)) ∙ flat in
    let same : left_of kept (open_levels h) ≡ left_behind k old h = ap (λ m. left_of m (open_levels h)) is ∙ ap (λ b. cond b (open_levels h) (filter (λ x. nat_le x (keeps k (column_at old.text.now old.at))) (open_levels h))) (sym deep) in
    let are : AreLevels lv (left_behind k old h) = subst (λ ls. AreLevels lv ls) same (left (open_levels h) a.margins) in
    record {
      behind = record {
        holds = record {
          long = b.holds.long;
          row = b.holds.row;
          room = b.holds.room;
          settled = b.holds.settled;
          keys = b.holds.keys;
          few = omega (arith, b.holds.few, fewer);
          fault = b.holds.fault;
          bytes = b.holds.bytes;
        };
        is = refl;
        some = b.some;
        more = b.more;
        going = b.going;
        place = b.place;
        gap = b.gap;
        further = b.further;
        allowed = b.allowed;
      };
      early = a.early;
      margins = are;
      kind = a.kind;
      ends = omega (arith, fewer, count_is lv (left_behind k old h) are, count_is old.levels (open_levels h) a.margins);
    }

-- what is closed is no part of what a lexeme leaves
takes_with : (old new : Scanner) (lv : Levels)
    → let was : Scanner = record old { levels = lv } in Takes was new (history_of was)
    → Takes old new (history_of old)
takes_with old new lv t = record {
  lexeme = t.lexeme;
  shows = t.shows;
  next = t.next;
  text = t.text;
  further = t.further;
  outer = t.outer;
  passed = t.passed;
  settled = t.settled;
  idle = t.idle;
  kept = record { fixed = t.kept.fixed; row = t.kept.row };
}

pub takes_closed : (old mid new : Scanner) → mid ≡ record old { levels = mid.levels }
    → Takes mid new (history_of mid) → Takes old new (history_of old)
takes_closed old mid new same t = takes_with old new mid.levels (subst (λ (x : Scanner). Takes x new (history_of x)) same t)

falls_with : (old new : Scanner) (lv : Levels)
    → let was : Scanner = record old { levels = lv } in Falls was new (history_of was)
    → Falls old new (history_of old)
falls_with old new lv f = record { settled = f.settled; text = f.text; told = f.told; kept = record { fixed = f.kept.fixed; row = f.kept.row } }

reads_with : (old new : Scanner) (lv : Levels) (r : Result (Unit {0}) Refused)
    → let was : Scanner = record old { levels = lv } in
    Reads was new (history_of was) r → Reads old new (history_of old) r
reads_with old new lv (Ok u) t = takes_with old new lv t
reads_with old new lv (Err e) f = falls_with old new lv f

pub falls_closed : (old mid new : Scanner) → mid ≡ record old { levels = mid.levels }
    → Falls mid new (history_of mid) → Falls old new (history_of old)
falls_closed old mid new same f = falls_with old new mid.levels (subst (λ (x : Scanner). Falls x new (history_of x)) same f)

pub reads_closed : (old mid new : Scanner) (r : Result (Unit {0}) Refused)
    → mid ≡ record old { levels = mid.levels }
    → Reads mid new (history_of mid) r → Reads old new (history_of old) r
reads_closed old mid new r same v = reads_with old new mid.levels r (subst (λ (x : Scanner). Reads x new (history_of x) r) same v)

-- ---- the gap

holds_on : (s : Scanner) (h : List Lexeme) (at line wide : ℕ) (b : Bool) → Holds s h
    → Holds (record s { at = at; line = line; wide = wide; key_allowed = b }) h
holds_on s h at line wide b o = record {
  long = o.long;
  row = o.row;
  room = o.room;
  settled = o.settled;
  keys = o.keys;
  few = o.few;
  fault = o.fault;
  bytes = o.bytes;
}

pub holds_at : (old mid : Scanner) (h : List Lexeme) → StaysAt old mid → Holds old h → Holds mid h
holds_at old mid h e o = subst (λ (x : Scanner). Holds x h) (sym e) (holds_on old h mid.at mid.line mid.wide mid.key_allowed o)

or_same : (b : Bool) → (b || false) ≡ b
or_same true = refl
or_same false = refl

-- the gap of the history is what was passed
gap_is : (old mid : Scanner) (h : List Lexeme) → Shows old h → ended h ≡ false
    → gap_there old ≡ gap_behind old.text.now h
gap_is old mid h s more =
    let text = old.text.now in
    let deep : inner (stack_of old.keys) ≡ flow_depth h = inner_is (flow_depth h) (stack_of old.keys) s.holds.keys.long in
    ap (λ d. gap_at (ltb 0 d) old.key_allowed text old.at) deep
    ∙ ap (λ b. gap_at (ltb 0 (flow_depth h)) b text old.at) (s.allowed more)
    ∙ ap (λ (m : yaml_mark_t). gap_at (ltb 0 (flow_depth h)) (key_allowed h) text m.index) (sym (s.mark more))

pub behind_gap : (old mid : Scanner) → let h = history_of old in Shows old h → 0 < read_by old
    → old.ended ≡ false → StaysAt old mid → Passes old mid
    → gap_there mid ≡ record { place = mid.at; broke = false } → IsBehind mid h
behind_gap old mid s some going same p stop =
    let h = history_of old in
    let text = old.text.now in
    let more : ended h ≡ false = sym s.over ∙ going in
    let text_same : mid.text.now ≡ text = ap (λ (x : Scanner). x.text.now) same in
    let deep : inner (stack_of old.keys) ≡ flow_depth h = inner_is (flow_depth h) (stack_of old.keys) s.holds.keys.long in
    let gap : gap_behind text h ≡ record { place = mid.at; broke = p.broke } =
    sym (gap_is old mid h s more) ∙ p.gap ∙ ap (with_break p.broke) stop ∙ ap (λ b. record { place = mid.at; broke = b }) (or_same p.broke) in
    let gap_mid : gap_behind mid.text.now h ≡ record { place = mid.at; broke = p.broke } = ap (λ t. gap_behind t h) text_same ∙ gap in
    let count : length h ≡ read_by old = omega (arith, s.holds.row.count, length-entries h) in
    record {
      holds = holds_at old mid h same s.holds;
      is = sym (ap (λ (x : Scanner). history_of x) same);
      some = omega (arith, count, some);
      more = more;
      going = ap (λ (x : Scanner). x.ended) same ∙ going;
      place = p.place;
      gap = sym (ap (λ (g : Gap). g.place) gap_mid);
      further = subst (λ m. Upto m (mark_at mid.text.now mid.at)) (sym (s.mark more)) (subst (λ t. Upto (mark_at text old.at) (mark_at t mid.at)) (sym text_same) (upto_later text old.at mid.at p.further));
      allowed = p.allowed ∙ ap (λ d. old.key_allowed || (p.broke && not (ltb 0 d))) deep ∙ ap (λ b. b || (p.broke && not (ltb 0 (flow_depth h)))) (s.allowed more)
          ∙ ap (λ (g : Gap). key_allowed h || (g.broke && not (ltb 0 (flow_depth h)))) (sym gap_mid);
    }

pub goes_on : (s : Scanner) (h : List Lexeme) → IsBehind s h → GoesOn s.text.now (read_by s) h
goes_on s h b = record { is = b.is; some = b.some; more = b.more }

here_is : (s : Scanner) (h : List Lexeme) → IsBehind s h
    → here s.text.now h ≡ mark_at s.text.now s.at
here_is s h b = ap (λ p. mark_at s.text.now p) (sym b.gap)

-- the text is the same in both
text_falls : (old mid new : Scanner) (h : List Lexeme) → StaysAt old mid → Falls mid new h
    → Falls old new h
text_falls old mid new h same f =
    let text : mid.text.now ≡ old.text.now = ap (λ (x : Scanner). x.text.now) same in
    record {
      settled = f.settled;
      text = f.text ∙ text;
      told = subst (λ t. IsTold t new.fault (next t h)) text f.told;
      kept = keeps_from old mid new f.settled.all (ap (λ (x : Scanner). x.row) same) (ap (λ (x : Scanner). fixed_of x) same) f.kept;
    }

-- a required candidate is stale there
pub late_there : (old mid new : Scanner) (h : List Lexeme) (d : Refused) → StaysAt old mid
    → IsBehind mid h → new ≡ record mid { fault = new.fault }
    → Tests (index_in (late (required_at mid.text.now (stack_of mid.keys)) (mark_at mid.text.now mid.at))) mid.at new.fault (Err d)
    → Falls old new h
late_there old mid new h d same b kept tests =
    let text = mid.text.now in
    let s = stack_of mid.keys in
    let keys = b.holds.keys in
    let (start, some, f) = fails_test (late (required_at text s) (mark_at text mid.at)) mid.at new.fault d tests in
    let late_one : missed (candidate 0 h) (mark_at text mid.at) ≡ Some start = sym (late_missed text s h (reached h) (mark_at text mid.at) keys) ∙ some in
    let spot = here_is mid h b in
    let comes = comes_late text (read_by mid) h start (goes_on mid h b) (ap (λ m. missed (candidate 0 h) m) spot ∙ late_one) in
    let required : required_in (candidate 0 (history text (read_by mid))) ≡ Some start = subst (λ x. required_in (candidate 0 x) ≡ Some start) b.is (missed_required (candidate 0 h) (mark_at text mid.at) start late_one) in
    let told = colon_told text (read_by mid) mid.at start required in
    let m : place_mark text mid.at ≡ here text h = mark_of_place text mid.at b.place.inside ∙ sym spot in
    let fault : IsTold text new.fault (next text h) = rw f (comes ∙ ap (λ q. Fails (colon_missing start q)) (sym m) ∙ ap (λ p. Fails p) (sym told)) in
    text_falls old mid new h same (falls_same mid new h b.holds kept fault)

pub none_late : (mid : Scanner) (h : List Lexeme) (f : Option Fault) (u : Unit {0}) → IsBehind mid h
    → Tests (index_in (late (required_at mid.text.now (stack_of mid.keys)) (mark_at mid.text.now mid.at))) mid.at f (Ok u)
    → missed (candidate 0 h) (mark_at mid.text.now mid.at) ≡ None
none_late mid h f u b tests =
    sym (late_missed mid.text.now (stack_of mid.keys) h (reached h) (mark_at mid.text.now mid.at) b.holds.keys)
    ∙ passes_test (late (required_at mid.text.now (stack_of mid.keys)) (mark_at mid.text.now mid.at)) mid.at f u tests

kind_same : (mid : Scanner) (h : List Lexeme) (o : Option Kind) → IsBehind mid h
    → o ≡ kind_at (ltb 0 (inner (stack_of mid.keys))) mid.text.now mid.at
    → kind_at (ltb 0 (flow_depth h)) mid.text.now mid.at ≡ o
kind_same mid h o b is = sym (is ∙ ap (λ d. kind_at (ltb 0 d) mid.text.now mid.at) (inner_is (flow_depth h) (stack_of mid.keys) b.holds.keys.long))

-- a lexeme is there
pub finds : (old mid new : Scanner) (h : List Lexeme) (k : Kind) → Shows old h → StaysAt old mid
    → IsBehind mid h → new ≡ mid → missed (candidate 0 h) (mark_at mid.text.now mid.at) ≡ None
    → Some k ≡ kind_at (ltb 0 (inner (stack_of new.keys))) new.text.now new.at
    → Finds old new h (Ok k)
finds old mid new h k s same b kept early kind =
    let there : StandsAt k mid h = record {
      behind = b;
      early = early;
      margins = subst (λ l. AreLevels l (open_levels h)) (sym (ap (λ (x : Scanner). x.levels) same)) s.margins;
      kind = kind_same mid h (Some k) b (kind ∙ ap (λ (x : Scanner). kind_at (ltb 0 (inner (stack_of x.keys))) x.text.now x.at) kept);
    } in (
      subst (λ (x : Scanner). StandsAt k x h) (sym kept) there,
      ap (λ (x : Scanner). x.text.now) kept ∙ ap (λ (x : Scanner). x.text.now) same,
      ap (λ (x : Scanner). x.row) kept ∙ ap (λ (x : Scanner). x.row) same,
      ap (λ (x : Scanner). fixed_of x) kept ∙ ap (λ (x : Scanner). fixed_of x) same,
    )

-- none does
pub none_there : (old mid tested new : Scanner) (h : List Lexeme) → StaysAt old mid → IsBehind mid h
    → tested ≡ mid → missed (candidate 0 h) (mark_at mid.text.now mid.at) ≡ None
    → None ≡ kind_at (ltb 0 (inner (stack_of tested.keys))) tested.text.now tested.at
    → new ≡ record tested { fault = Some (no_start_at tested.at) } → Falls old new h
none_there old mid tested new h same b kept early kind is =
    let text = mid.text.now in
    let spot = here_is mid h b in
    let none : kind_at (ltb 0 (flow_depth h)) text mid.at ≡ None = kind_same mid h None b (kind ∙ ap (λ (x : Scanner). kind_at (ltb 0 (inner (stack_of x.keys))) x.text.now x.at) kept) in
    let comes = comes_none text (read_by mid) h (goes_on mid h b) (ap (λ m. missed (candidate 0 h) m) spot ∙ early) (ap (λ p. kind_at (ltb 0 (flow_depth h)) text p) (sym b.gap) ∙ none) in
    let m : place_mark text mid.at ≡ here text h = mark_of_place text mid.at b.place.inside ∙ sym spot in
    let told : next text h ≡ Fails (fault_in text (no_start_at mid.at)) = comes ∙ ap (λ q. Fails (no_start q)) (sym m) in
    let all : new ≡ record mid { fault = Some (no_start_at mid.at) } = is ∙ ap (λ (x : Scanner). record x { fault = Some (no_start_at x.at) }) kept in
    let fault : new.fault ≡ Some (no_start_at mid.at) = ap (λ (x : Scanner). x.fault) all in
    let changed : new ≡ record mid { fault = new.fault } = all ∙ ap (λ f. record mid { fault = f }) (sym fault) in
    text_falls old mid new h same (falls_same mid new h b.holds changed (subst (λ f. IsTold text f (next text h)) (sym fault) told))

pub finds_err : (old new : Scanner) (h : List Lexeme) (r : Result Kind Refused) (e : Refused)
    → r ≡ Err e → Falls old new h → Finds old new h r
finds_err old new h r e is f = rw is f
