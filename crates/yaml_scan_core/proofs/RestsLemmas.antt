-- The state after settling, the stream's end, and the fault.
use Rattle.std.proofs.Common.{◌≡◌, ℕ, zero, suc, ◌+◌, ◌-◌, ◌<◌, ◌≤◌, ◌^◌, ◌++◌, ◌∷◌, Bool, true, false, not, cond, ltb, inl, inr, List, [], length, take, None, Result, Ok, Err, refl, sym, ap, subst, ◌∙◌, arith, length-append}
use Rattle.std.specs.Prelude.{is_err, max}
use Rattle.std.proofs.lemmas.List.{get_or-take, length-take-le, take-append-le}
use Rattle.yaml_scan_core.proofs.Words.{cases_Bool, cases_lt, cases_Option, candidate_below, fresh, fresh_is, nat_tests, get_or_at, get_or_past, take_all, mark_at, Lexeme as Read, Entry, reached, ended, finished_tokens, first_open, first_open-le, length-entries, history, next, Ends, open_levels, candidate, entry_of, first_lexeme, line_at, column_at, byte, zero_mark, KeyStack, key_at, no_key, SpelledText, AreKeys, IsLineStart, stack_of}
use Rattle.yaml_scan_core.specs.declared.keys.Keys.{Keys}
use Rattle.yaml_scan_core.specs.declared.row.Row.{Row}
use Rattle.yaml_scan_core.specs.declared.fault.Refused.{Refused}
use Rattle.yaml_scan_core.specs.declared.scanner.Scanner.{Scanner}
use Rattle.yaml_scan_laws.proofs.HeldForward.{outer_is_first}
use Rattle.yaml_scan_laws.proofs.HistoryForward.{are_few}
use Rattle.yaml_scan_history.specs.Remaining.{all}
use Rattle.yaml_scan_core.specs.declared.lexeme.Lexeme.{Lexeme}
use Rattle.yaml_scan_model.specs.declared.kind.Kind.TheVariants as kinds
use Rattle.yaml_scan_core.specs.Margins.{AreLevels}
use Rattle.yaml_scan_model.specs.scan_types.Marks.{splits_of}
use Rattle.yaml_scan_core.specs.Rows.{RowView, HasRoom, IsThere, bare, row_of, failed, lost_at, row_lexeme, loses_none, no_lexeme}
use Rattle.yaml_scan_core.specs.Handed.{Drops}
use Rattle.yaml_scan_core.specs.Shown.{Store, ShowsRow, ShowsWhole, ShowsFront, store_of, entry_at, no_entry, place_mark}
use Rattle.yaml_scan_core.specs.Scanning.{Advances, Falls, HasFailed, HasSettled, IsDecoded, IsGoing, IsLost, IsOver, IsPlace, IsTold, MaySettle, Rests, Shows, ShowsSettled, Steps, TellsFirst, but_last, history_of, read_by, stream_of}
use Rattle.yaml_scan_core.proofs.CandidatesLemmas.{passed_keys}

-- ---- a row of which more is settled

front_settled : (a b : Bool) (s : Store) (t : SpelledText) (x : Lexeme) (e : Entry)
    → (a ≡ true → b ≡ true) → ShowsFront a s t x e → ShowsFront b s t x e
front_settled a b s t x e on f = record {
  shows = f.shows;
  ends = f.ends;
  front = elim f.front [ inl first ↦ inl first | inr (was, ends, rest) ↦ inr (on was, ends, rest) ];
}

pub shown_settled : (t : SpelledText) (r : RowView) (es : List Entry) (k : ℕ) → ShowsRow t r es
    → r.settled ≤ k → k ≤ length r.lexemes → ShowsRow t (record r { settled = k }) es
shown_settled t r es k h more few = record {
  count = h.count;
  taken = omega (arith, h.taken, more);
  few = few;
  front = λ lt. front_settled (ltb r.next r.settled) (ltb r.next k) _ t _ _ (λ was. grind (arith, nat_tests, more, was)) (h.front lt);
  others = h.others;
}

-- and of which the others are gone
pub shown_cut : (t : SpelledText) (r : RowView) (es : List Entry) (k : ℕ) → ShowsRow t r es
    → r.settled ≤ k → k ≤ length r.lexemes
    → ShowsRow t (record r { lexemes = take k r.lexemes; settled = k }) (take (r.dropped + k) es)
shown_cut t r es k h more few =
    let q : RowView = record r { lexemes = take k r.lexemes; settled = k } in
    let long : length q.lexemes ≡ k = length-take-le k r.lexemes few in
    let all : length (take (r.dropped + k) es) ≡ r.dropped + k = length-take-le (r.dropped + k) es (omega (arith, few, h.count)) in
    let lexeme : (i : ℕ) → i < k → row_lexeme q i ≡ row_lexeme r i = λ i lt. get_or-take k r.lexemes i no_lexeme lt in
    let entry : (i : ℕ) → i < k → entry_at (take (r.dropped + k) es) (r.dropped + i) ≡ entry_at es (r.dropped + i) = λ i lt. get_or-take (r.dropped + k) es (r.dropped + i) no_entry (omega (arith, lt)) in
    record {
      count = omega (arith, all, long);
      taken = omega (arith, h.taken, more);
      few = omega (arith, long);
      front = λ lt. let low : r.next < k = omega (arith, lt, long) in
          rw (lexeme r.next low, entry r.next low) (front_settled (ltb r.next r.settled) (ltb r.next k) _ t _ _ (λ was. grind (arith, nat_tests, low)) (h.front (omega (arith, low, few))));
      others = λ i gt lt. let low : i < k = omega (arith, lt, long) in
          rw (lexeme i low, entry i low) (h.others i gt (omega (arith, low, few)));
    }

-- ---- after settling

-- where more may be read
pub may_settle : (s : Scanner) → Shows s (history_of s) → s.ended ≡ false
    → MaySettle s s.at s.line (read_by s)
may_settle s h going = record {
  long = h.holds.long;
  mark = h.mark (sym h.over ∙ going);
  begins = h.place.begins;
  keys = inl (h.holds.keys, omega (arith, h.holds.row.count, length-entries (history_of s)));
  within = h.holds.keys.inside;
  dropped = h.holds.settled;
}

abbrev pub settled_with : Scanner → Keys → ℕ → Scanner
settled_with s keys k = record s { keys = keys; row = record s.row { settled = k } }

pub goes_on : (s t : Scanner) → Shows s (history_of s) → s.ended ≡ false → 0 < read_by s
    → stack_of t.keys ≡ record (stack_of s.keys) { passed = t.keys.passed }
    → HasSettled s t (read_by s) → IsGoing (settled_with s t.keys t.row.settled)
goes_on s t h going some same v =
    let keys = t.keys in
    let k = t.row.settled in
    let hs = history_of s in
    let few = first_open-le hs hs in
    let count = h.holds.row.count in
    let more : s.row.settled ≤ k = omega (arith, v.first, h.holds.settled) in
    let inside : k ≤ length s.row.lexemes.items = omega (arith, v.first, few, count, length-entries hs) in
    record {
      shows = record {
        holds = record {
          long = h.holds.long;
          row = shown_settled (stream_of s) (row_of s.row) (finished_tokens hs) k h.holds.row more inside;
          room = h.holds.room;
          settled = omega (arith, v.first);
          keys = passed_keys _ s.text.now (stack_of s.keys) (stack_of keys) hs (reached hs) h.holds.keys same v.few v.stale;
          few = h.holds.few;
          fault = h.holds.fault;
          bytes = h.holds.bytes;
        };
        over = h.over;
        place = h.place;
        mark = h.mark;
        allowed = h.allowed;
        margins = h.margins;
      };
      some = some;
      going = going;
      first = v.first;
    }

-- ---- after the stream's end

pub is_over : (s : Scanner) (k : ℕ) → Shows s (history_of s) → s.ended ≡ true
    → k ≡ length s.row.lexemes.items → IsOver (record s { row = record s.row { settled = k } })
is_over s k h over all = record {
  over = over;
  end = sym h.over ∙ over;
  row = shown_settled (stream_of s) (row_of s.row) (finished_tokens (history_of s)) k h.holds.row (omega (arith, all, h.holds.row.few)) (omega (arith, all));
  all = all;
  fault = h.holds.fault;
}

-- ---- at a fault

-- what no lexeme was read after may be settled
pub may_settle_fallen : (old new : Scanner) → Shows old (history_of old) → old.ended ≡ false
    → Falls old new (history_of old) → MaySettle new old.at old.line (read_by old)
may_settle_fallen old new h going f =
    let n = read_by old in
    let same : history new.text.now n ≡ history_of old = ap (λ t. history t n) f.text in
    record {
      long = f.settled.long;
      mark = ap reached same ∙ h.mark (sym h.over ∙ going) ∙ ap (λ t. mark_at t old.at) (sym f.text);
      begins = subst (λ t. IsLineStart t old.at old.line) (sym f.text) h.place.begins;
      keys = subst (λ x. TellsFirst new.text.now (stack_of new.keys) (read_by new) x) (sym same) f.settled.keys;
      within = f.settled.within;
      dropped = subst (λ x. new.row.dropped + new.row.settled ≤ first_open x x) (sym same) f.settled.settled;
    }

-- so much may be kept of a row that is settled
pub record Keeps (s : Scanner) (k : ℕ) : Type 0 where
  pub more : s.row.settled ≤ k
  pub inside : k ≤ length s.row.lexemes.items

pub keeps_of : (s : Scanner) (h : List Read) (k : ℕ) → ShowsSettled s h
    → s.row.dropped + k ≡ first_open h h → Keeps s k
keeps_of s h k x first = record {
  more = omega (arith, first, x.settled);
  inside = omega (arith, first, first_open-le h h, x.more, x.row.count);
}

-- the last lexeme of a row after a fault
last_failed : (r : RowView) → r.settled ≤ length r.lexemes
    → row_lexeme (failed r) r.settled ≡ lost_at r
last_failed r few = get_or_at (take r.settled r.lexemes) (lost_at r) [] no_lexeme r.settled (length-take-le r.settled r.lexemes few)

cut_failed : (r : RowView) → r.settled ≤ length r.lexemes
    → but_last (failed r) ≡ record r { lexemes = take r.settled r.lexemes; settled = r.settled }
cut_failed r few =
    let one = length-take-le r.settled r.lexemes few in
    let ls : List Lexeme = take r.settled r.lexemes in
    let long : length (ls ++ lost_at r ∷ []) - 1 ≡ length ls = omega (arith, length-append ls (lost_at r ∷ [])) in
    let same : take (length (ls ++ lost_at r ∷ []) - 1) (ls ++ lost_at r ∷ []) ≡ ls = ap (λ n. take n (ls ++ lost_at r ∷ [])) long ∙ take-append-le (length ls) ls (lost_at r ∷ []) (omega arith) ∙ take_all (length ls) ls (omega arith) in
    let back : r.settled + 1 - 1 ≡ r.settled = omega arith in
    ap (λ n. record r { lexemes = take (length (ls ++ lost_at r ∷ []) - 1) (ls ++ lost_at r ∷ []); settled = n }) back
    ∙ ap (λ xs. record r { lexemes = xs; settled = r.settled }) same

-- what is lost where there is a lexeme after the settled ones
lost_some : (t : SpelledText) (r : RowView) (es : List Entry) (k : ℕ) → ShowsRow t r es
    → k < length r.lexemes → r.next ≤ k → let e = entry_at es (r.dropped + k) in
    let x = row_lexeme r k in
    (x.ends ≤ e.ends) × ((r.next < k → x.ends ≡ e.ends) × (place_mark t.text x.start ≡ e.lexeme.start))
lost_some t r es k h lt le = elim (cases_lt r.next k) [
  | inl low ↦ let w = h.others k low lt in (omega (arith, w.ends), (λ gt. w.ends, w.shows.start))
  | inr high ↦
      let same : r.next ≡ k = omega (arith, le, high) in
      let f : ShowsFront (ltb r.next r.settled) (store_of t.text r) t (row_lexeme r k) (entry_at es (r.dropped + k)) = subst (λ j. ShowsFront (ltb r.next r.settled) (store_of t.text r) t (row_lexeme r j) (entry_at es (r.dropped + j))) same (h.front (omega (arith, same, lt))) in
      (f.ends, (λ gt. absurd (omega (arith, gt, same)), f.shows.start))
]

-- what is after the settled lexemes is the fault
is_lost : (t : SpelledText) (r : RowView) (es : List Entry) (e : Entry) (k : ℕ) → ShowsRow t r es
    → r.next ≤ k → k ≤ length r.lexemes → (entry_at es (r.dropped + k)).ends ≡ e.ends
    → (0 < e.ends → (entry_at es (r.dropped + k)).lexeme ≡ e.lexeme)
    → IsLost t.text (ltb (r.next + 1) (k + 1)) (lost_at (record r { settled = k })) e
is_lost t r es e k h le inside ends at = elim (cases_lt k (length r.lexemes)) [
  | inl lt ↦
      let is : ltb k (length r.lexemes) ≡ true = grind (arith, nat_tests) in
      let (fewer, (all, start)) = lost_some t r es k h lt le in
      rw is record {
        kind = refl;
        plain = refl;
        front = refl;
        ends = omega (arith, fewer, ends);
        whole = λ none. let low : r.next < k = (let both : r.next + 1 < k + 1 = grind (arith, nat_tests, none) in omega (arith, both)) in all low ∙ ends;
        start = λ some. start ∙ ap (λ (l : Read). l.start) (at (omega (arith, some, fewer, ends)));
      }
  | inr past ↦
      let isnt : ltb k (length r.lexemes) ≡ false = grind (arith, nat_tests) in
      let gone : entry_at es (r.dropped + k) ≡ no_entry = get_or_past es (r.dropped + k) no_entry (omega (arith, past, h.count)) in
      let zero_ends : 0 ≡ e.ends = ap (λ (x : Entry). x.ends) (sym gone) ∙ ends in
      rw isnt record {
        kind = refl;
        plain = refl;
        front = refl;
        ends = omega arith;
        whole = λ none. zero_ends;
        start = λ some. absurd (omega (arith, some));
      }
]

-- where none is lost, none more was read
pub none_read : (s : Scanner) (h : List Read) (k : ℕ) → ShowsSettled s h
    → s.row.dropped + k ≡ first_open h h → length h ≤ first_open h h → length s.row.lexemes.items ≤ k
none_read s h k x first all = elim x.keys [
  | inl (are, count) ↦ omega (arith, count, all, first)
  | inr (agrees, (some, stale)) ↦ elim (cases_Option (fresh (candidate 0 h) (reached h))) [
    | inl none ↦ absurd (some none)
    | inr (c, here) ↦ absurd (omega (arith, outer_is_first h c here, candidate_below 0 h c (fresh_is (candidate 0 h) (reached h) c here), all))
  ]
]

pub loses_one : (r : RowView) → r.settled < length r.lexemes → loses_none (lost_at r) ≡ false
loses_one r lt =
    let y : ltb r.settled (length r.lexemes) ≡ true = grind (arith, nat_tests) in
    let same : ltb (row_lexeme r r.settled).start (row_lexeme r r.settled).start ≡ false = grind (arith, nat_tests) in
    rw y same

loses_nothing : (r : RowView) → length r.lexemes ≤ r.settled → loses_none (lost_at r) ≡ true
loses_nothing r past = let y : ltb r.settled (length r.lexemes) ≡ false = grind (arith, nat_tests) in rw y refl

-- the fault says whether a lexeme is lost
tells_lost : (s : Scanner) (h : List Read) (k : ℕ) → ShowsSettled s h
    → s.row.dropped + k ≡ first_open h h
    → loses_none (lost_at (record (row_of s.row) { settled = k })) ≡ not (ltb (first_open h h) (length h))
tells_lost s h k x first =
    let q : RowView = record (row_of s.row) { settled = k } in
    elim (cases_lt (first_open h h) (length h)) [
      | inl low ↦
          let there : k < length s.row.lexemes.items = omega (arith, low, first, x.more, x.row.count) in
          let is : ltb (first_open h h) (length h) ≡ true = grind (arith, nat_tests) in
          loses_one q there ∙ ap not (sym is)
      | inr past ↦
          let is : ltb (first_open h h) (length h) ≡ false = grind (arith, nat_tests) in
          loses_nothing q (none_read s h k x first past) ∙ ap not (sym is)
    ]

-- the state after the fault
pub fell : (old mid : Scanner) (keys : Keys) (k : ℕ) (row : Row) (h : List Read) → Falls old mid h
    → mid.row.dropped + k ≡ first_open h h
    → row_of row ≡ failed (record (row_of mid.row) { settled = k })
    → HasFailed (record (settled_with mid keys k) { ended = true; row = row }) h
fell old mid keys k row h f first is =
    let x = f.settled in
    let keep = keeps_of mid h k x first in
    let t = stream_of mid in
    let r : RowView = row_of mid.row in
    let q : RowView = record r { settled = k } in
    let fo = first_open h h in
    let front : take (r.dropped + k) x.all ≡ take fo (finished_tokens h) = ap (λ n. take n x.all) first ∙ x.front in
    let cut = subst (λ es. ShowsRow t (record r { lexemes = take k r.lexemes; settled = k }) es) front (shown_cut t r x.all k x.row keep.more keep.inside) in
    let last : but_last (row_of row) ≡ record r { lexemes = take k r.lexemes; settled = k } = ap but_last is ∙ cut_failed q keep.inside in
    let settled : row.settled ≡ k + 1 = ap (λ (v : RowView). v.settled) is in
    let long : length row.lexemes.items ≡ k + 1 = ap (λ (v : RowView). length v.lexemes) is ∙ length-append (take k r.lexemes) (lost_at q ∷ []) ∙ ap (λ n. n + 1) (length-take-le k r.lexemes keep.inside) in
    let ends : (entry_at x.all (r.dropped + k)).ends ≡ (entry_at (finished_tokens h) fo).ends = ap (λ n. (entry_at x.all n).ends) first ∙ x.lost in
    let at : 0 < (entry_at (finished_tokens h) fo).ends → (entry_at x.all (r.dropped + k)).lexeme ≡ (entry_at (finished_tokens h) fo).lexeme = λ some. elim (cases_lt fo (length h)) [
      | inl low ↦ ap (λ n. (entry_at x.all n).lexeme) first ∙ x.start low
      | inr past ↦ let none : entry_at (finished_tokens h) fo ≡ no_entry = get_or_past (finished_tokens h) fo no_entry (omega (arith, past, length-entries h)) in
          let zero_ends : (entry_at (finished_tokens h) fo).ends ≡ 0 = ap (λ (e : Entry). e.ends) none in absurd (omega (arith, some, zero_ends))
    ] in
    let lost = is_lost t r x.all (entry_at (finished_tokens h) fo) k x.row (omega (arith, x.row.taken, keep.more)) keep.inside ends at in
    let back : k + 1 - 1 ≡ k = omega arith in
    let there : row_lexeme (failed q) (k + 1 - 1) ≡ lost_at q = ap (λ i. row_lexeme (failed q) i) back ∙ last_failed q keep.inside in
    let lost_there : IsLost t.text (ltb (r.next + 1) (k + 1)) (row_lexeme (failed q) (k + 1 - 1)) (entry_at (finished_tokens h) fo) = subst (λ y. IsLost t.text (ltb (r.next + 1) (k + 1)) y (entry_at (finished_tokens h) fo)) (sym there) lost in
    record {
      over = refl;
      row = subst (λ v. ShowsRow t v (take fo (finished_tokens h))) (sym last) cut;
      some = omega (arith, settled);
      all = settled ∙ sym long;
      lost = subst (λ (v : RowView). IsLost t.text (ltb (v.next + 1) v.settled) (row_lexeme v (v.settled - 1)) (entry_at (finished_tokens h) fo)) (sym is) lost_there;
      none = ap (λ (v : RowView). loses_none (row_lexeme v (v.settled - 1))) is ∙ ap loses_none there ∙ tells_lost mid h k x first;
      told = subst (λ s. IsTold s mid.fault (next s h)) (sym f.text) f.told;
    }

pub rests_fallen : (old mid : Scanner) (keys : Keys) (k : ℕ) (row : Row)
    → Falls old mid (history_of old)
    → mid.row.dropped + k ≡ first_open (history mid.text.now (read_by old)) (history mid.text.now (read_by old))
    → row_of row ≡ failed (record (row_of mid.row) { settled = k })
    → Rests (record (settled_with mid keys k) { ended = true; row = row })
rests_fallen old mid keys k row f first is =
    let n = read_by old in
    let same : history mid.text.now n ≡ history_of old = ap (λ t. history t n) f.text in
    let it = fell old mid keys k row (history_of old) f (subst (λ h. mid.row.dropped + k ≡ first_open h h) same first) is in
    inr (inr (n, subst (λ h. HasFailed (record (settled_with mid keys k) { ended = true; row = row }) h) (sym same) it))

-- ---- the loop

-- what a step that refuses comes to, and one that reads
pub falls_of : (old new : Scanner) (r : Result (Unit {0}) Refused) → is_err r ≡ true
    → Steps old new (history_of old) r → Falls old new (history_of old)
falls_of old new (Ok u) e s = cc
falls_of old new (Err x) e s = s

pub advances_of : (old new : Scanner) (r : Result (Unit {0}) Refused) → is_err r ≡ false
    → Steps old new (history_of old) r → Advances old new
advances_of old new (Ok u) e s = s
advances_of old new (Err x) e s = cc

-- so few are read
pub few_read : (s : Scanner) → Shows s (history_of s) → read_by s ≤ length s.text.now + 2
few_read s h = omega (arith, are_few s.text.now (read_by s), h.holds.row.count, length-entries (history_of s))

pub few_counted : (s : Scanner) → Shows s (history_of s) → read_by s < 2 ^ 64
few_counted s h = omega (arith, few_read s h, h.holds.long)

pub smaller : (old new : Scanner) → Shows old (history_of old) → Advances old new
    → length new.text.now + 3 - read_by new < length old.text.now + 3 - read_by old
smaller old new h v =
    let same : length new.text.now ≡ length old.text.now = ap (λ (t : List ℕ). length t) v.text in
    omega (arith, few_read new v.shows, v.one, same)

pub fits_settled : (old mid : Scanner) (k : ℕ) → Falls old mid (history_of old)
    → mid.row.dropped + k ≡ first_open (history mid.text.now (read_by old)) (history mid.text.now (read_by old))
    → k ≤ length mid.row.lexemes.items
fits_settled old mid k f first =
    let same : history mid.text.now (read_by old) ≡ history_of old = ap (λ t. history t (read_by old)) f.text in
    (keeps_of mid (history_of old) k f.settled (subst (λ h. mid.row.dropped + k ≡ first_open h h) same first)).inside

-- ---- reading on

-- more may be read where the end wasn't
pub going_of : (s : Scanner) → Rests s → s.ended ≡ false → IsGoing s
going_of s (inl g) e = g
going_of s (inr (inl o)) e = let bad = sym e ∙ o.over in cc
going_of s (inr (inr (n, f))) e = let bad = sym e ∙ f.over in cc

-- what is taken is settled, and what is settled was read
pub taken_settled : (s : Scanner) → Rests s → s.row.next ≤ s.row.settled
taken_settled s (inl g) = g.shows.holds.row.taken
taken_settled s (inr (inl o)) = o.row.taken
taken_settled s (inr (inr (n, f))) = omega (arith, f.row.taken)

pub settled_read : (s : Scanner) → Rests s → s.row.settled ≤ length s.row.lexemes.items
settled_read s (inl g) = g.shows.holds.row.few
settled_read s (inr (inl o)) = omega (arith, o.all)
settled_read s (inr (inr (n, f))) = omega (arith, f.all)

-- after dropping
pub going_dropped : (s : Scanner) (row : Row) → IsGoing s → Drops s.row row
    → IsGoing (record s { row = row })
going_dropped s row g d =
    let t : Scanner = record s { row = row } in
    let hs = history_of s in
    let same : hs ≡ history_of t = ap (λ n. history s.text.now n) (sym d.count) in
    let h = g.shows in
    let shows : Shows t hs = record {
      holds = record {
        long = h.holds.long;
        row = d.shows (stream_of s) (finished_tokens hs) h.holds.row;
        room = d.room h.holds.room;
        settled = omega (arith, d.settled, h.holds.settled);
        keys = h.holds.keys;
        few = h.holds.few;
        fault = h.holds.fault;
        bytes = h.holds.bytes;
      };
      over = h.over;
      place = h.place;
      mark = h.mark;
      allowed = h.allowed;
      margins = h.margins;
    } in
    record {
      shows = subst (λ x. Shows t x) same shows;
      some = omega (arith, g.some, d.count);
      going = g.going;
      first = subst (λ x. row.dropped + row.settled ≡ first_open x x) same (d.settled ∙ g.first);
    }

-- the measure
abbrev pub left_to_read : Scanner → ℕ
left_to_read s = cond s.ended 0 (length s.text.now + 3 - read_by s)

pub reads_on : (old new : Scanner) → IsGoing old → Rests new
    → (new.ended ≡ false → read_by old < read_by new) → new.text.now ≡ old.text.now
    → left_to_read new < left_to_read old
reads_on old new g r further text =
    let low = few_read old g.shows in
    let same : length new.text.now ≡ length old.text.now = ap (λ (t : List ℕ). length t) text in
    elim (cases_Bool new.ended) [
      | inl over ↦ rw (over, g.going) (omega (arith, low))
      | inr going ↦ rw (going, g.going) (omega (arith, low, further going, same, few_read new ((going_of new r going).shows)))
    ]

-- ---- before the first token

start_mark : (text : List ℕ) → mark_at text 0 ≡ zero_mark
unfolding line_at column_at
start_mark text = refl

start_place : (text : List ℕ) → place_mark text 0 ≡ zero_mark
start_place text = let none : ltb (length text) 0 ≡ false = grind (arith, nat_tests) in rw none (start_mark text)

abbrev pub empty_row : RowView
empty_row = record { lexemes = []; next = 0; settled = 0; dropped = 0; notes = []; arena = [] }

abbrev pub first_row : RowView
first_row = record {
  lexemes = bare kinds.StreamStart 0 0 0 0 ∷ [];
  next = 0;
  settled = 1;
  dropped = 0;
  notes = [];
  arena = [];
}

first_shows : (t : SpelledText)
    → ShowsWhole (store_of t.text first_row) t (bare kinds.StreamStart 0 0 0 0) (entry_of first_lexeme [])
unfolding open_levels candidate
first_shows t = record {
  shows = record {
    start = start_place t.text;
    end = start_place t.text;
    opens = refl;
    key = refl;
    body = (record { plain = refl }, refl);
  };
  ends = refl;
  front = refl;
}

pub first_entries : finished_tokens (first_lexeme ∷ []) ≡ entry_of first_lexeme [] ∷ []
unfolding finished_tokens
first_entries = refl

first_shown : (t : SpelledText) → ShowsRow t first_row (finished_tokens (first_lexeme ∷ []))
first_shown t = rw first_entries record {
  count = refl;
  taken = omega arith;
  few = omega arith;
  front = λ lt. record { shows = (first_shows t).shows; ends = omega arith; front = inl refl };
  others = λ i gt lt. absurd (omega (arith, gt, lt));
}

abbrev first_keys : KeyStack
first_keys = record { levels = no_key ∷ []; passed = 0; required = false }

first_index : (d : ℕ) (n : ℕ) → (key_at first_keys d).index ≤ n
first_index zero n = omega arith
first_index (suc d) n = omega arith

first_are : (text : List ℕ) → AreKeys text first_keys (first_lexeme ∷ []) zero_mark
unfolding candidate
first_are text = record {
  long = refl;
  inside = λ d. first_index d (length text);
  agrees = λ d le. let zero_d : d ≡ 0 = omega (arith, le) in rw zero_d (λ q u. refl);
  few = omega arith;
  stale = λ d lt. absurd (omega (arith, lt));
  due = refl;
}

pub first_history : (text : List ℕ) → history text 1 ≡ first_lexeme ∷ []
unfolding history next
first_history text = refl

first_first : first_open (first_lexeme ∷ []) (first_lexeme ∷ []) ≡ 1
unfolding first_open candidate
first_first = refl

first_levels : [] ≡ open_levels (first_lexeme ∷ [])
unfolding open_levels candidate
first_levels = refl

no_double : (b : ℕ) (c : ℕ) → splits_of b b b c ≡ false
unfolding splits_of
no_double b c = grind (arith, nat_tests)

start_is_place : (text : List ℕ) → IsPlace text 0 0 0
unfolding line_at column_at
start_is_place text = record {
  inside = omega arith;
  whole = no_double (byte text 0) (byte text 1);
  begins = record { before = omega arith; same = refl; earlier = λ i lt. absurd (omega (arith, lt)) };
  column = refl;
}

-- the state before the first token
pub starts_going : (s : Scanner) → row_of s.row ≡ first_row → HasRoom s.row
    → stack_of s.keys ≡ first_keys → AreLevels s.levels [] → s.at ≡ 0 → s.line ≡ 0 → s.wide ≡ 0
    → s.key_allowed ≡ true → s.ended ≡ false → s.fault ≡ None → length s.text.now < 2 ^ 63
    → IsDecoded s.text.now → IsGoing s
starts_going s row room keys margins at line wide allowed going fault long bytes =
    let one : read_by s ≡ 1 = ap (λ (r : RowView). r.dropped + length r.lexemes) row in
    let h : List Read = first_lexeme ∷ [] in
    let same : h ≡ history_of s = sym (ap (λ n. history s.text.now n) one ∙ first_history s.text.now) in
    let settled : s.row.dropped + s.row.settled ≡ 1 = ap (λ (r : RowView). r.dropped + r.settled) row in
    let outer : length s.levels.outer.items + 1 ≡ 1 = sym (length-append s.levels.outer.items (s.levels.margin ∷ [])) ∙ ap (λ (xs : List ℕ). length xs) margins.all in
    let shows : Shows s h = record {
      holds = record {
        long = long;
        row = subst (λ r. ShowsRow (stream_of s) r (finished_tokens h)) (sym row) (first_shown (stream_of s));
        room = room;
        settled = omega (arith, settled, first_first);
        keys = subst (λ k. AreKeys s.text.now k h zero_mark) (sym keys) (first_are s.text.now);
        few = omega (arith, outer);
        fault = fault;
        bytes = bytes;
      };
      over = going;
      place = rw (at, line, wide) (start_is_place s.text.now);
      mark = λ e. rw at (sym (start_mark s.text.now));
      allowed = λ e. allowed;
      margins = subst (λ ls. AreLevels s.levels ls) first_levels margins;
    } in
    record {
      shows = subst (λ x. Shows s x) same shows;
      some = omega (arith, one);
      going = going;
      first = subst (λ x. s.row.dropped + s.row.settled ≡ first_open x x) same (settled ∙ sym first_first);
    }

-- where as many wait as are asked for, one is there
pub one_waits : (r : RowView) (batch waiting : ℕ) → r.next ≤ r.settled → 0 < batch → batch ≤ waiting
    → (r.next < length r.lexemes → waiting
    ≡ max (r.settled - r.next) (cond (ltb 0 (row_lexeme r r.next).ends) 1 0))
    → (length r.lexemes ≤ r.next → waiting ≡ r.settled - r.next) → IsThere r
one_waits r batch waiting taken some many there none = elim (cases_lt r.next r.settled) [
  | inl low ↦ inl low
  | inr done ↦ elim (cases_lt r.next (length r.lexemes)) [
    | inr gone ↦ absurd (omega (arith, some, many, none gone, done))
    | inl more ↦ elim (cases_lt 0 (row_lexeme r r.next).ends) [
      | inl ends ↦ inr (more, ends)
      | inr flat ↦
          let is : ltb 0 (row_lexeme r r.next).ends ≡ false = grind (arith, nat_tests) in
          let idle : waiting ≡ max (r.settled - r.next) 0 = there more ∙ ap (λ b. max (r.settled - r.next) (cond b 1 0)) is in
          absurd (grind (arith, nat_tests, some, many, idle, done))
    ]
  ]
]

-- ---- what is handed out

pub ends_after : (text : List ℕ) (h : List Read) → ended h ≡ true → next text h ≡ Ends
unfolding next
ends_after text [] e = cc
ends_after text (l ∷ h) e = rw e refl
