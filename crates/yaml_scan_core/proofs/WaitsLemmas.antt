-- How many lexemes wait, and that one is read only where the next token isn't known.
use Rattle.std.proofs.Common.{◌≡◌, ◌≢◌, ℕ, suc, ◌+◌, ◌-◌, ◌<◌, ◌≤◌, true, false, cond, ltb, inl, inr, List, [], ◌∷◌, ◌++◌, length, take, refl, sym, ap, subst, ◌∙◌, arith, length-append}
use Rattle.std.specs.Prelude.{max}
use Rattle.std.proofs.lemmas.Bool.{true≢false}
use Rattle.std.proofs.lemmas.List.{length-take-le}
use Rattle.yaml_scan_core.proofs.Words.{cases_Bool, cases_lt, nat_tests, get_or_at, get_or_past, Entry, Lexeme as Read, finished_tokens, first_open, first_open-le, length-entries, history, next, Next, Fails, Ends, Read as IsNext, Remaining, SpelledText}
use Rattle.yaml_scan_history.specs.Next.{extended}
use Rattle.yaml_scan_history.specs.Remaining.{body_in}
use Rattle.yaml_scan_laws.proofs.HeldForward.{few_wait}
use Rattle.yaml_scan_model.specs.declared.kind.Kind.{Kind}
use Rattle.yaml_scan_model.specs.declared.kind.Kind.TheVariants as kinds
use Rattle.yaml_scan_core.specs.declared.keys.Keys.{Keys}
use Rattle.yaml_scan_core.specs.declared.row.Row.{Row}
use Rattle.yaml_scan_core.specs.declared.scanner.Scanner.{Scanner}
use Rattle.yaml_scan_core.specs.declared.lexeme.Lexeme.{Lexeme}
use Rattle.yaml_scan_core.specs.Rows.{RowView, failed, row_lexeme, lost_at, no_lexeme, row_of}
use Rattle.yaml_scan_core.specs.Scanning.{Advances, Falls, IsGoing, history_of, read_by, stream_of}
use Rattle.yaml_scan_core.specs.Handed.{Drops, HandsOn, to_come}
use Rattle.yaml_scan_core.specs.Shown.{Carries, ShowsRow, entry_at, no_entry, store_of}
use Rattle.yaml_scan_core.specs.Settled.{settles_in}
use Rattle.yaml_scan_core.specs.Waiting.{IsRead, Needs, ReadsNeeded, ReadsOne, TakesNeeded, TellsNeeded, knows}
use Rattle.yaml_scan_core.proofs.KnowsLemmas.{knows_is, knows_none, knows_open, knows_settled, seen}
use Rattle.yaml_scan_core.specs.Asked.{IsFront, Waits, front_lexeme}
use Rattle.yaml_scan_core.proofs.AskedLemmas.{HasSkipped, first_by, ready_of}
use Rattle.yaml_scan_core.proofs.GivenLemmas.{First, TakesFront}
use Rattle.yaml_scan_core.proofs.RestsLemmas.{going_dropped, settled_with}
use Rattle.yaml_scan_core.proofs.SkipLemmas.{going_taken, over_taken, stays}
use Rattle.yaml_scan_core.proofs.TokensLemmas.{LeadKind, lead_ends, lead_key, lead_kinds, lead_mapping, lead_own, lead_sequence}

-- ---- few lexemes wait

-- where n lexemes and one more are the first, one comes after n
reads_by : (text : List ℕ) (n : ℕ) (h : List Read) (x : Next) → next text h ≡ x
    → length (extended x h) ≡ suc (length h) → (l : Read) × (next text h ≡ IsNext l)
reads_by text n h (IsNext l) e long = (l, e)
reads_by text n h (Fails p) e long = absurd (omega (arith, long))
reads_by text n h Ends e long = absurd (omega (arith, long))

comes_next : (text : List ℕ) (n : ℕ) → length (history text n) ≡ n
    → length (history text (suc n)) ≡ suc n → (l : Read) × (next text (history text n) ≡ IsNext l)
unfolding history
comes_next text n here more = reads_by text n (history text n) (next text (history text n)) refl (omega (arith, more, here))

-- how many lexemes a row holds, whatever was met
counted : (s : Scanner) → IsRead s → length (history_of s) ≡ read_by s
counted s (inl g) = omega (arith, g.shows.holds.row.count, length-entries (history_of s))
counted s (inr o) = omega (arith, o.row.count, length-entries (history_of s))

-- of those that were read at most 1,024 wait for one more
short_before : (old new : Scanner) → IsGoing old → IsRead new → new.text.now ≡ old.text.now
    → read_by new ≡ read_by old + 1
    → length old.row.lexemes.items ≤ old.row.settled + 1024
short_before old new g read text one =
    let n = read_by old in
    let more : length (history old.text.now (suc n)) ≡ suc n = ap (λ m. length (history old.text.now m)) {x = suc n} {y = read_by new} (omega (arith, one)) ∙ ap (λ t. length (history t (read_by new))) (sym text) ∙ counted new read ∙ omega (arith, one) in
    let here = counted old (inl g) in
    let (l, next_one) = comes_next old.text.now n here more in
    let few = few_wait old.text.now n l next_one in
    omega (arith, few, here, g.first)

-- ---- one is read

-- a step reads one
pub one_read : (old was new : Scanner) → Advances was new → was ≡ old
    → read_by new ≡ read_by old + 1
one_read old was new v same = omega (arith, v.one, ap (λ (s : Scanner). read_by s) same)

pub known_not : (s : Scanner) → knows s ≡ false → s.row.settled ≤ s.row.next
known_not s none = elim (cases_lt s.row.next s.row.settled) [
  | inl low ↦ absurd (true≢false (sym (knows_settled s low) ∙ none))
  | inr high ↦ high
]

none_ends : (n : ℕ) → ltb 0 n ≡ false → n ≡ 0
none_ends n e = grind (arith, nat_tests)

less_none : (n : ℕ) → n ≤ 0 → n ≡ 0
less_none n l = omega (arith, l)

long_more : (xs : List Lexeme) (x : Lexeme) (k : ℕ) → length xs ≡ k → length (xs ++ x ∷ []) ≡ k + 1
long_more xs x k e = omega (arith, length-append xs (x ∷ []), e)

front_lost : (r : RowView) → (r.settled < length r.lexemes → (row_lexeme r r.settled).ends ≡ 0)
    → (lost_at r).front ≡ kinds.Failed
front_lost r none = elim (cases_lt r.settled (length r.lexemes)) [
  | inl some ↦ let y : ltb r.settled (length r.lexemes) ≡ true = grind (arith, nat_tests) in rw (y, none some) refl
  | inr gone ↦ let y : ltb r.settled (length r.lexemes) ≡ false = grind (arith, nat_tests) in rw y refl
]

-- no lexeme was read: where the next token wasn't known, the fault is next
pub fails_one : (old mid : Scanner) (keys : Keys) (k : ℕ) (row : Row)
    → Falls old mid (history_of old) → old.row.dropped + length old.row.lexemes.items ≡ length (history_of old)
    → mid.row.dropped + k ≡ first_open (history mid.text.now (read_by old)) (history mid.text.now (read_by old))
    → row_of row ≡ failed (record (row_of mid.row) { settled = k })
    → ReadsOne old (record (settled_with mid keys k) { ended = true; row = row })
fails_one old mid keys k row f count first is =
    let h = history_of old in
    let kept = f.kept.row in
    let shown = f.settled in
    let same : history mid.text.now (read_by old) ≡ h = ap (λ t. history t (read_by old)) f.text in
    let here : mid.row.dropped + k ≡ first_open h h = subst (λ x. mid.row.dropped + k ≡ first_open x x) same first in
    let q : RowView = record (row_of mid.row) { settled = k } in
    let low : k ≤ length old.row.lexemes.items = omega (arith, here, first_open-le h h, count, kept.dropped) in
    let longer : length old.row.lexemes.items ≤ length q.lexemes = omega (arith, shown.more, shown.row.count, count, kept.dropped) in
    let long : length (take k q.lexemes) ≡ k = length-take-le k q.lexemes (omega (arith, low, longer)) in
    let all : length row.lexemes.items ≡ k + 1 = ap (λ (v : RowView). length v.lexemes) is ∙ long_more (take k q.lexemes) (lost_at q) k long in
    inr (λ g none.
    let high = known_not old none in
    let at : k ≡ old.row.next = omega (arith, here, g.first, kept.dropped, high, g.shows.holds.row.taken) in
    let next_one : row.next ≡ k = ap (λ (v : RowView). v.next) is ∙ kept.next ∙ sym at in
    let lost : row_lexeme (row_of row) row.next ≡ lost_at q = ap (λ i. row_lexeme (row_of row) i) next_one ∙ ap (λ (v : RowView). row_lexeme v k) is ∙ get_or_at (take k q.lexemes) (lost_at q) [] no_lexeme k long in
    let ends : k < length q.lexemes → (row_lexeme q k).ends ≡ 0 = λ some. elim (cases_lt old.row.next (length old.row.lexemes.items)) [
      | inl inside ↦ ap (λ i. (row_lexeme q i).ends) at ∙ kept.ends inside ∙ none_ends (row_lexeme (row_of old.row) old.row.next).ends (sym (knows_open old high inside) ∙ none)
      | inr gone ↦
          let h_long = length-entries h in
          let past : length (finished_tokens h) ≤ first_open h h = omega (arith, here, at, gone, count, kept.dropped, h_long) in
          let number : mid.row.dropped + mid.row.next ≡ first_open h h = omega (arith, here, at, kept.next) in
          let own : (entry_at shown.all (mid.row.dropped + mid.row.next)).ends ≡ 0 = ap (λ i. (entry_at shown.all i).ends) number ∙ shown.lost ∙ ap (λ (e : Entry). e.ends) (get_or_past (finished_tokens h) (first_open h h) no_entry past) in
          let front = shown.row.front (omega (arith, some, at, kept.next)) in
          ap (λ i. (row_lexeme q i).ends) (at ∙ sym kept.next) ∙ less_none (row_lexeme (row_of mid.row) mid.row.next).ends (omega (arith, front.ends, own))
    ] in
    let settled : row.settled ≡ k + 1 = ap (λ (v : RowView). v.settled) is in
    record { last = settled ∙ ap (λ n. n + 1) (sym next_one); all = settled ∙ sym all; front = ap (λ (x : Lexeme). x.front) lost ∙ front_lost q ends })

-- ---- reading on

-- after dropping
pub needs_dropped : (s : Scanner) (row : Row) → IsGoing s → Drops s.row row
    → Needs s (record s { row = row })
needs_dropped s row g d = record {
  short = λ few. omega (arith, few, d.count, d.taken);
  reads = inl record {
    read = inl (going_dropped s row g d);
    further = omega (arith, d.count);
    needed = λ n low high. absurd (omega (arith, low, high, d.count));
  };
}

-- nothing waits whose first token is known
pub waits_not : (s : Scanner) (r : ℕ) → r < 1 → s.row.settled ≤ length s.row.lexemes.items
    → (s.row.next < length s.row.lexemes.items
    → r ≡ max (s.row.settled - s.row.next)
    (cond (ltb 0 (row_lexeme (row_of s.row) s.row.next).ends) 1 0))
    → (length s.row.lexemes.items ≤ s.row.next → r ≡ s.row.settled - s.row.next) → knows s ≡ false
waits_not s r less few some gone = elim (cases_lt s.row.next (length s.row.lexemes.items)) [
  | inl inside ↦
      let is = some inside in
      elim (cases_Bool (ltb 0 (row_lexeme (row_of s.row) s.row.next).ends)) [
        | inl y ↦ let one : r ≡ max (s.row.settled - s.row.next) 1 = rw y at is in absurd (omega (arith, one, less))
        | inr n ↦ let none : r ≡ max (s.row.settled - s.row.next) 0 = rw n at is in knows_open s (omega (arith, none, less)) inside ∙ n
      ]
  | inr past ↦ let is = gone past in knows_none s (omega (arith, is, less, past, few)) past
]

-- and one more is read, where the next token isn't known
pub needs_then : (old s new : Scanner) → Needs old s → IsGoing s → knows s ≡ false → ReadsOne s new
    → new.text.now ≡ s.text.now
    → new.row.dropped + new.row.next ≡ s.row.dropped + s.row.next → stream_of s ≡ stream_of old → to_come s ≡ to_come old → Needs old new
needs_then old s new i g none one text taken stream come =
    let high = known_not s none in
    let here : settles_in (stream_of old) (to_come old).tokens (read_by s) ≡ false =
    ap (λ t. settles_in t (to_come old).tokens (read_by s)) (sym stream) ∙ ap (λ (c : Remaining). settles_in (stream_of s) c.tokens (read_by s)) (sym come) ∙ sym (knows_is s (inl g)) ∙ none in
    elim i.reads [
      | inr f ↦ absurd (omega (arith, f.fault.last, high))
      | inl r ↦ elim one [
        | inl (read, count) ↦ record {
          short = λ few. let low = short_before s new g read text count in omega (arith, low, high, count, taken);
          reads = inl record {
            read = read;
            further = omega (arith, r.further, count);
            needed = λ n low below. elim (cases_lt n (read_by s)) [
              | inl before ↦ r.needed n low before
              | inr past ↦ let at : n ≡ read_by s = omega (arith, past, below, count) in ap (λ m. settles_in (stream_of old) (to_come old).tokens m) at ∙ here
            ];
          };
        }
        | inr fails ↦
            let at = fails g none in
            record {
              short = λ few. omega (arith, at.last, at.all);
              reads = inr record {
                fault = at;
                sought = elim (cases_lt (read_by old) (read_by s)) [
                  | inl more ↦ r.needed (read_by old) (omega arith) more
                  | inr still ↦ let same : read_by old ≡ read_by s = omega (arith, still, r.further) in ap (λ m. settles_in (stream_of old) (to_come old).tokens m) same ∙ here
                ];
              };
            }
      ]
    ]

-- ---- the next token's kind

by_lead : (x : Lexeme) → LeadKind x → x.kind ≢ kinds.Failed → x.front ≢ kinds.Failed
by_lead x (lead_ends e some) own bad = let no_end = sym e ∙ bad in cc
by_lead x (lead_sequence e set) own bad = let no_start = sym e ∙ bad in cc
by_lead x (lead_mapping e unset set) own bad = let no_start = sym e ∙ bad in cc
by_lead x (lead_key e set) own bad = let no_key = sym e ∙ bad in cc
by_lead x (lead_own e) own bad = own (sym e ∙ bad)

-- no lexeme that shows an entry means a fault
pub not_failed : (s : Scanner) → IsRead s → s.row.next < length s.row.lexemes.items
    → (front_lexeme s).front ≢ kinds.Failed
not_failed s i some =
    let r = row_of s.row in
    let x = row_lexeme r r.next in
    let f = (seen s i).row.front some in
    let body = (entry_at (finished_tokens (history_of s)) (r.dropped + r.next)).lexeme in
    by_lead x (lead_kinds (ltb r.next r.settled) x f.front) (λ e. subst (λ k. Carries (store_of s.text.now r) (stream_of s) x k (body_in (stream_of s) body)) e f.shows.body)

still : (s : Scanner) → IsRead s → ReadsNeeded s s
still s i = record { read = i; further = omega arith; needed = λ n low high. absurd (omega (arith, low, high)) }

-- nothing is read after the stream's end
pub tells_nothing : (s : Scanner) → IsRead s → TellsNeeded kinds.Nothing s s
tells_nothing s i = record { fixed = refl; taken = refl; short = λ few. few; reads = inl (λ e. cc, still s i) }

-- nor where a settled lexeme waits
pub tells_front : (s : Scanner) → IsRead s → s.row.next < length s.row.lexemes.items
    → TellsNeeded (front_lexeme s).front s s
tells_front s i some = record { fixed = refl; taken = refl; short = λ few. few; reads = inl (not_failed s i some, still s i) }

pub tells_read : (old new : Scanner) → HandsOn old new → Needs old new
    → new.row.next < length new.row.lexemes.items → TellsNeeded (front_lexeme new).front old new
tells_read old new hands needs some = record {
  fixed = hands.fixed;
  taken = hands.taken;
  short = needs.short;
  reads = elim needs.reads [ inl r ↦ inl (not_failed new r.read some, r) | inr f ↦ inr (f.fault.front, f) ];
}

-- ---- a token that is taken

-- what is taken isn't less
next_on : (t : SpelledText) (r q : RowView) → First t r → TakesFront r q → r.next ≤ q.next
next_on t r q f taken = elim f.way [
  | inl own ↦ let is = ap (λ (v : RowView). v.next) (taken.own own) in omega (arith, is)
  | inr other ↦ let is = ap (λ (v : RowView). v.next) (taken.lead other) in omega (arith, is)
]

pub takes_needed : (s : Scanner) (k : Kind) (row : Row) → Waits s → IsFront k s → HasSkipped s row
    → TakesNeeded s (record s { row = row })
takes_needed s k row w f h =
    let r = row_of s.row in
    let q = row_of row in
    let ready = ready_of s k f in
    let first = first_by s k w.rests f in
    let taken : TakesFront r q = record { own = h.own; lead = h.lead } in
    let on = stays (stream_of s) r q first taken in
    let shows : (t : SpelledText) (es : List Entry) → ShowsRow t r es → ShowsRow t q es = λ t es shown. h.shows t es shown ready.settled in
    let next = next_on (stream_of s) r q first taken in
    record {
      fixed = refl;
      taken = omega (arith, next, on.dropped);
      short = λ few. omega (arith, few, next, on.long);
      read = λ i. elim i [ inl g ↦ inl (going_taken s row g on shows h.room) | inr o ↦ inr (over_taken s row o on shows) ];
      count = omega (arith, on.dropped, on.long);
    }
