-- Which token a scanner hands out first.
use Rattle.std.proofs.Common.{◌≡◌, ◌≢◌, ◌⊎◌, ℕ, ◌+◌, ◌-◌, ◌<◌, ◌≤◌, true, false, not, ltb, [], length, take, drop, get_or, Some, refl, sym, ap, subst, ◌∙◌, inl, inr, arith}
use Rattle.std.proofs.lemmas.List.{get_or-take, length-take-le}
use Rattle.yaml_scan_core.proofs.Words.{cases_lt, nat_tests, get_or_past, Entry, Fails, ScanFault, SpelledText, finished_tokens, first_open, first_open-le, front_ends, front_none, history, length-entries, next, remaining, scanner_fault}
use Rattle.yaml_scan_model.specs.scan_types.Tokens.{Token, block_end, no_token}
use Rattle.yaml_scan_history.specs.Remaining.{before, body_in, spell}
use Rattle.yaml_scan_laws.proofs.RemainingForward.{fault_comes, front_count}
use Rattle.yaml_scan_laws.specs.Fronts.{GivesFirst}
use Rattle.yaml_scan_model.specs.declared.kind.Kind.TheVariants as kinds
use Rattle.yaml_scan_model.specs.Kinds.{IsOf}
use Rattle.yaml_scan_core.specs.declared.lexeme.Lexeme.{Lexeme}
use Rattle.yaml_scan_core.specs.declared.scanner.Scanner.{Scanner}
use Rattle.yaml_scan_core.specs.Rows.{RowView, first_kind, is_set, led, row_lexeme, may_lead, no_lexeme, row_of}
use Rattle.yaml_scan_core.specs.Shown.{ShowsFront, entry_at, no_entry, place_mark, store_of}
use Rattle.yaml_scan_core.specs.Scanning.{HasFailed, IsGoing, IsLost, IsOver, Rests, but_last, history_of, read_by, stream_of}
use Rattle.yaml_scan_core.specs.Handed.{EndsTold, come_of, ends_at, ends_in, ends_known, given_in, given_of, left_from, to_come}
use Rattle.yaml_scan_core.proofs.BatchLemmas.{told_history}
use Rattle.yaml_scan_core.proofs.FrontLemmas.{Comes, ShowsToken, behind_one, end_comes_first, entry_in, first_comes, front_token, lead_rest, lead_token, over_come, own_rest, settled_come}
use Rattle.yaml_scan_core.proofs.HandedLemmas.{given_is, known_by}
use Rattle.yaml_scan_core.proofs.RestsLemmas.{ends_after}
use Rattle.yaml_scan_core.proofs.TokensLemmas.{IsNew, IsOwn, ShowsNext, lead_ends, lead_key, lead_kinds, lead_mapping, lead_own, lead_sequence, leads_by, leads_one, ends_left, next_shown, own_kind, own_or_lead, real_front, takes_lead, takes_own}

-- a token of the front is taken
pub record TakesFront (r q : RowView) : Type 0 where
  pub own : (row_lexeme r r.next).front ≡ (row_lexeme r r.next).kind
      → q ≡ record r { next = r.next + 1 }
  pub lead : (row_lexeme r r.next).front ≢ (row_lexeme r r.next).kind → q ≡ led r

-- The token that the front means comes first, and what is to come after it is what is to come where it is taken.
pub record First (t : SpelledText) (r : RowView) : Type 0 where
  pub token : Token
  pub shown : ShowsToken (store_of t.text r) t (row_lexeme r r.next) token
  pub gives : GivesFirst (come_of t r) token (behind_one t r)
  pub rest : (q : RowView) → TakesFront r q → come_of t q ≡ behind_one t r
  -- it is the lexeme's own, or it isn't
  pub way : ((row_lexeme r r.next).front ≡ (row_lexeme r r.next).kind)
      ⊎ ((row_lexeme r r.next).front ≢ (row_lexeme r r.next).kind)
  pub plain : may_lead (row_lexeme r r.next).front ≡ false
      → (row_lexeme r r.next).front ≡ (row_lexeme r r.next).kind
  pub real : ((row_lexeme r r.next).front ≢ kinds.Failed)
      × ((row_lexeme r r.next).front ≢ kinds.Nothing)
  pub ends : (row_lexeme r r.next).front ≡ kinds.BlockEnd → 0 < (row_lexeme r r.next).ends

-- where the front shows an entry that is known
pub first_known : (t : SpelledText) (n : ℕ) (r : RowView) → ShowsNext t r (entry_in t n r)
    → Comes t n (r.dropped + r.next) → First t r
first_known t n r w comes =
    let x = row_lexeme r r.next in
    let e = entry_in t n r in
    let s = store_of t.text r in
    let lead = lead_kinds w.settled x w.front.front in
    let body = w.front.shows.body in
    let way = own_or_lead s t x (body_in t e.lexeme) lead body in
    let given : given_of e.ends x ≡ given_in t.text r = ap (λ m. given_of m x) w.ends ∙ sym (given_is t.text r w.some) in
    record {
      token = get_or (spell t e) (given_in t.text r) no_token;
      shown = subst (λ g. ShowsToken s t x (get_or (spell t e) g no_token)) given (front_token w.settled s t x e w.front);
      gives = first_comes t n r w comes;
      rest = λ q taken. elim way [
        | inl own ↦ own_rest t n r w comes q (takes_own t r q e w own (taken.own own))
        | inr other ↦ lead_rest t r q (takes_lead t r q e w other (taken.lead other))
      ];
      way = way;
      plain = leads_by x lead;
      real = real_front s t x (body_in t e.lexeme) lead body;
      ends = ends_left x lead (own_kind s t x x.kind (body_in t e.lexeme) body);
    }

-- where a BLOCK-END is next, of a lexeme that may be a key, or is lost
pub first_end : (t : SpelledText) (n : ℕ) (r : RowView) → r.next < length r.lexemes
    → r.dropped + r.next ≤ first_open (history t.text n) (history t.text n)
    → r.dropped + r.next < length (history t.text n)
    → (row_lexeme r r.next).front ≡ kinds.BlockEnd → 0 < (row_lexeme r r.next).ends
    → (row_lexeme r r.next).ends ≤ (entry_in t n r).ends → (entry_in t n r).ends ≡ ends_in t.text r
    → IsOwn (row_lexeme r r.next).kind
    → place_mark t.text (row_lexeme r r.next).start ≡ (entry_in t n r).lexeme.start → First t r
first_end t n r some low inside front ends fewer known own start =
    let x = row_lexeme r r.next in
    let other : x.front ≢ x.kind = λ same. own.ends (sym same ∙ front) in
    let lead = lead_ends front ends in
    record {
      token = before block_end (entry_in t n r).lexeme;
      shown = lead_token (store_of t.text r) t x (entry_in t n r).lexeme block_end start other (subst (λ k. IsOf k block_end) (sym front) refl);
      gives = end_comes_first t n r some low inside front ends fewer known;
      rest = λ q taken. lead_rest t r q
          (leads_one t.text r q some lead own (omega (arith, fewer, known)) (λ o. absurd (o front)) other (taken.lead other));
      way = inr other;
      plain = leads_by x lead;
      real = (λ f. (let bad = sym front ∙ f in cc), λ f. (let bad = sym front ∙ f in cc));
      ends = λ e. ends;
    }

-- ---- where more may be read

-- a token waits there: a BLOCK-END, or one of a settled lexeme
pub record IsReady (s : Scanner) : Type 0 where
  pub some : s.row.next < length s.row.lexemes.items
  pub settled : (row_lexeme (row_of s.row) s.row.next).front ≢ kinds.BlockEnd
      → s.row.next < s.row.settled

going_next : (s : Scanner) → IsGoing s → s.row.next < length s.row.lexemes.items
    → ShowsNext (stream_of s) (row_of s.row) (entry_in (stream_of s) (read_by s) (row_of s.row))
going_next s g some = next_shown (stream_of s) (row_of s.row) (finished_tokens (history_of s)) (told_history s.text.now (read_by s)) g.shows.holds.row some

pub first_going : (s : Scanner) → IsGoing s → IsReady s → First (stream_of s) (row_of s.row)
first_going s g ready =
    let t = stream_of s in
    let n = read_by s in
    let r = row_of s.row in
    let x = row_lexeme r r.next in
    let w = going_next s g ready.some in
    let number = r.dropped + r.next in
    let own = own_kind (store_of t.text r) t x x.kind (body_in t (entry_in t n r).lexeme) w.front.shows.body in
    elim (cases_lt r.next r.settled) [
      | inl low ↦ first_known t n r w (settled_come t n number (omega (arith, low, g.first)))
      | inr past ↦ elim (lead_kinds w.settled x w.front.front) [
        | lead_ends front more ↦ first_end t n r ready.some (omega (arith, past, g.first, g.shows.holds.row.taken)) (omega (arith, ready.some, g.shows.holds.row.count, length-entries (history_of s)))
            front more w.front.ends w.ends own w.front.shows.start
        | lead_sequence front set ↦ absurd (omega (arith, past, ready.settled (λ same. (let bad = sym front ∙ same in cc))))
        | lead_mapping front unset set ↦ absurd (omega (arith, past, ready.settled (λ same. (let bad = sym front ∙ same in cc))))
        | lead_key front set ↦ absurd (omega (arith, past, ready.settled (λ same. (let bad = sym front ∙ same in cc))))
        | lead_own front ↦ absurd (omega (arith, past, ready.settled (λ same. own.ends (sym front ∙ same))))
      ]
    ]

-- ---- where all is read

pub first_over : (s : Scanner) → IsOver s → IsReady s → First (stream_of s) (row_of s.row)
first_over s o ready =
    let t = stream_of s in
    let n = read_by s in
    let r = row_of s.row in
    let h = history_of s in
    let w = next_shown t r (finished_tokens h) (told_history s.text.now n) o.row ready.some in
    first_known t n r w (over_come t n (r.dropped + r.next) (ends_after s.text.now h o.end) (omega (arith, ready.some, o.row.count, length-entries h)))

-- ---- at a fault

-- the fault is in the place of the earliest open candidate, or after all
pub lost_number : (s : Scanner) (n : ℕ) → HasFailed s (history s.text.now n)
    → s.row.dropped + (s.row.settled - 1) ≡ first_open (history s.text.now n) (history s.text.now n)
lost_number s n f =
    let h = history s.text.now n in
    let fo = first_open h h in
    let all : length (take fo (finished_tokens h)) ≡ fo = length-take-le fo (finished_tokens h) (omega (arith, first_open-le h h, length-entries h)) in
    let cut = length-take-le (length s.row.lexemes.items - 1) s.row.lexemes.items (omega arith) in
    omega (arith, f.row.count, all, cut, f.all)

-- the BLOCK-ENDs that are before it
lost_ends : (s : Scanner) (n : ℕ) → HasFailed s (history s.text.now n)
    → (entry_at (finished_tokens (history s.text.now n))
    (first_open (history s.text.now n) (history s.text.now n))).ends
    ≡ ends_known (row_lexeme (row_of s.row) (s.row.settled - 1)) (ends_at s.text.now (s.row.dropped + (s.row.settled - 1)))
lost_ends s n f =
    let text = s.text.now in
    let h = history text n in
    let fo = first_open h h in
    let ends = ends_at text (s.row.dropped + (s.row.settled - 1)) in
    elim (cases_lt fo (length h)) [
      | inl low ↦
          let is : ltb fo (length h) ≡ true = grind (arith, nat_tests) in
          told_history text n fo (omega (arith, low, length-entries h)) ∙ ap (λ k. ends_at text k) (sym (lost_number s n f))
          ∙ sym (ap (λ b. known_by b ends) (f.none ∙ ap not is))
      | inr past ↦
          let is : ltb fo (length h) ≡ false = grind (arith, nat_tests) in
          ap (λ (e : Entry). e.ends) (get_or_past (finished_tokens h) fo no_entry (omega (arith, past, length-entries h)))
          ∙ sym (ap (λ b. known_by b ends) (f.none ∙ ap not is))
    ]

-- nothing of it is taken while a lexeme waits before it
lost_new : (s : Scanner) (n : ℕ) → HasFailed s (history s.text.now n)
    → s.row.next + 1 < s.row.settled → IsNew s.text.now (row_of s.row) (s.row.settled - 1)
lost_new s n f lt =
    let is : ltb (s.row.next + 1) s.row.settled ≡ true = grind (arith, nat_tests) in
    record { front = f.lost.front; ends = f.lost.whole is ∙ lost_ends s n f }

-- the lexemes before it
module _ (s : Scanner) (n : ℕ) (f : HasFailed s (history s.text.now n)) where
  abbrev before_lost : ℕ
  before_lost = length s.row.lexemes.items - 1

  lexeme_kept : (i : ℕ) → i < before_lost → row_lexeme (but_last (row_of s.row)) i ≡ row_lexeme (row_of s.row) i
  lexeme_kept i lt = get_or-take before_lost s.row.lexemes.items i no_lexeme lt

  pub entry_kept : (k : ℕ) → k < first_open (history s.text.now n) (history s.text.now n)
      → entry_at (take (first_open (history s.text.now n) (history s.text.now n)) (finished_tokens (history s.text.now n))) k
      ≡ entry_at (finished_tokens (history s.text.now n)) k
  entry_kept k lt = get_or-take (first_open (history s.text.now n) (history s.text.now n)) (finished_tokens (history s.text.now n)) k no_entry lt

  told_kept : EndsTold s.text.now (take (first_open (history s.text.now n) (history s.text.now n)) (finished_tokens (history s.text.now n)))
  told_kept k lt =
      let h = history s.text.now n in
      let fo = first_open h h in
      let all : length (take fo (finished_tokens h)) ≡ fo = length-take-le fo (finished_tokens h) (omega (arith, first_open-le h h, length-entries h)) in
      ap (λ (e : Entry). e.ends) (entry_kept k (omega (arith, lt, all))) ∙ told_history s.text.now n k (omega (arith, lt, all, first_open-le h h, length-entries h))

  cut_long : length (but_last (row_of s.row)).lexemes ≡ before_lost
  cut_long = length-take-le before_lost s.row.lexemes.items (omega arith)

  -- one that waits before the fault
  kept_next : s.row.next + 1 < s.row.settled → ShowsNext (stream_of s) (row_of s.row) (entry_in (stream_of s) n (row_of s.row))
  kept_next lt =
      let t = stream_of s in
      let r = row_of s.row in
      let h = history s.text.now n in
      let number = lost_number s n f in
      let low : s.row.next < before_lost = omega (arith, lt, f.all) in
      let w = next_shown t (but_last r) (take (first_open h h) (finished_tokens h)) told_kept f.row (omega (arith, low, cut_long)) in
      let e = entry_kept (r.dropped + r.next) (omega (arith, lt, number)) in
      let x = lexeme_kept s.row.next low in
      record {
        some = omega (arith, lt, f.all);
        settled = w.settled;
        front = subst (λ y. ShowsFront w.settled (store_of t.text r) t y (entry_in t n r)) x (subst (λ d. ShowsFront w.settled (store_of t.text r) t (row_lexeme (but_last r) r.next) d) e w.front);
        ends = ap (λ (d : Entry). d.ends) (sym e) ∙ w.ends ∙ ap (λ y. ends_known y (ends_at t.text (r.dropped + r.next))) x;
        behind = λ more. elim (cases_lt (s.row.next + 1) before_lost) [
          | inl there ↦
              let new = w.behind (omega (arith, there, cut_long)) in
              let y = lexeme_kept (s.row.next + 1) there in
              record {
                front = subst (λ z. z.front ≡ first_kind z) y new.front;
                ends = subst (λ (z : Lexeme). z.ends ≡ ends_known z (ends_at t.text (r.dropped + (r.next + 1)))) y new.ends;
              }
          | inr last ↦
              let is : s.row.settled - 1 ≡ s.row.next + 1 = omega (arith, last, lt, f.all) in
              subst (λ i. IsNew s.text.now r i) is (lost_new s n f lt)
        ];
      }

unset : (x : Lexeme) → x.flags ≡ 0
    → (is_set 1 x ≡ false) × (is_set 2 x ≡ false) × (is_set 4 x ≡ false)
unset x e = (rw e refl, rw e refl, rw e refl)

-- the front is the fault
lost_there : (s : Scanner) (n : ℕ) → HasFailed s (history s.text.now n)
    → s.row.next + 1 ≡ s.row.settled
    → IsLost s.text.now (ltb (s.row.next + 1) s.row.settled) (row_lexeme (row_of s.row) s.row.next)
    (entry_at (finished_tokens (history s.text.now n)) (first_open (history s.text.now n) (history s.text.now n)))
lost_there s n f end =
    let h = history s.text.now n in
    let at : s.row.settled - 1 ≡ s.row.next = omega (arith, end) in
    subst (λ i. IsLost s.text.now (ltb (s.row.next + 1) s.row.settled) (row_lexeme (row_of s.row) i) (entry_at (finished_tokens h) (first_open h h))) at f.lost

-- before which no BLOCK-END is left, or one is
pub lost_cases : (s : Scanner) (n : ℕ) → HasFailed s (history s.text.now n)
    → s.row.next + 1 ≡ s.row.settled → let x = row_lexeme (row_of s.row) s.row.next in
    ((x.front ≡ kinds.Failed) × (x.ends ≡ 0)) ⊎ ((x.front ≡ kinds.BlockEnd) × (0 < x.ends))
lost_cases s n f end =
    let x = row_lexeme (row_of s.row) s.row.next in
    let lost = lost_there s n f end in
    let (plain, flat, keyless) = unset x lost.plain in
    elim (cases_lt 0 x.ends) [
      | inl some ↦
          let is : ltb 0 x.ends ≡ true = grind (arith, nat_tests) in
          let first : first_kind x ≡ kinds.BlockEnd = rw is refl in
          inr (lost.front ∙ first, some)
      | inr past ↦
          let is : ltb 0 x.ends ≡ false = grind (arith, nat_tests) in
          let first : first_kind x ≡ x.kind = rw (is, plain, flat, keyless) refl in
          inl (lost.front ∙ first ∙ lost.kind, omega (arith, past))
    ]

pub lost_end : (s : Scanner) (n : ℕ) → HasFailed s (history s.text.now n)
    → s.row.next + 1 ≡ s.row.settled → let x = row_lexeme (row_of s.row) s.row.next in
    x.front ≢ kinds.Failed → (x.kind ≡ kinds.Failed) × (x.front ≡ kinds.BlockEnd)
lost_end s n f end isnt = elim (lost_cases s n f end) [
  | inl (front, none) ↦ absurd (isnt front)
  | inr (front, some) ↦ ((lost_there s n f end).kind, front)
]

-- a lexeme waits before the fault
pub first_kept : (s : Scanner) (n : ℕ) → HasFailed s (history s.text.now n)
    → s.row.next + 1 < s.row.settled → First (stream_of s) (row_of s.row)
first_kept s n f low =
    first_known (stream_of s) n (row_of s.row) (kept_next s n f low) (settled_come (stream_of s) n (s.row.dropped + s.row.next) (omega (arith, low, lost_number s n f)))

-- or a BLOCK-END does
pub first_lost : (s : Scanner) (n : ℕ) → HasFailed s (history s.text.now n)
    → s.row.next + 1 ≡ s.row.settled → (row_lexeme (row_of s.row) s.row.next).front ≡ kinds.BlockEnd
    → 0 < (row_lexeme (row_of s.row) s.row.next).ends → First (stream_of s) (row_of s.row)
first_lost s n f end front ends =
    let t = stream_of s in
    let r = row_of s.row in
    let h = history s.text.now n in
    let fo = first_open h h in
    let x = row_lexeme r r.next in
    let lost = lost_there s n f end in
    let at : r.settled - 1 ≡ r.next = omega (arith, end) in
    let here : r.dropped + r.next ≡ fo = omega (arith, at, lost_number s n f) in
    let e : entry_at (finished_tokens h) fo ≡ entry_in t n r = ap (λ k. entry_at (finished_tokens h) k) (sym here) in
    let own : IsOwn x.kind = record {
      ends = λ k. (let bad = sym lost.kind ∙ k in cc);
      sequence = λ k. (let bad = sym lost.kind ∙ k in cc);
      mapping = λ k. (let bad = sym lost.kind ∙ k in cc);
    } in
    let known : (entry_in t n r).ends ≡ ends_in t.text r = ap (λ (d : Entry). d.ends) (sym e)
    ∙ subst (λ i. (entry_at (finished_tokens h) fo).ends ≡ ends_known (row_lexeme r i) (ends_at s.text.now (s.row.dropped + i))) at (lost_ends s n f) in
    let fewer : x.ends ≤ (entry_in t n r).ends = omega (arith, lost.ends, ap (λ (d : Entry). d.ends) e) in
    let inside : r.dropped + r.next < length h = elim (cases_lt (r.dropped + r.next) (length h)) [
      | inl low ↦ low
      | inr out ↦ absurd (omega (arith, ends, fewer, ap (λ (d : Entry). d.ends) (get_or_past (finished_tokens h) (r.dropped + r.next) no_entry (omega (arith, out, length-entries h)))))
    ] in
    first_end t n r (omega (arith, end, f.all)) (omega (arith, here)) inside front ends fewer known own (lost.start ends ∙ ap (λ (d : Entry). d.lexeme.start) e)

-- after what is settled the fault comes
pub fault_next : (s : Scanner) (n : ℕ) (p : ScanFault) → HasFailed s (history s.text.now n)
    → s.row.next + 1 ≡ s.row.settled → (row_lexeme (row_of s.row) s.row.next).front ≡ kinds.Failed
    → (row_lexeme (row_of s.row) s.row.next).ends ≡ 0
    → next s.text.now (history s.text.now n) ≡ Fails p
    → to_come s ≡ record { tokens = []; fault = Some (scanner_fault p) }
fault_next s n p f end front none fails =
    let t = stream_of s in
    let r = row_of s.row in
    let h = history s.text.now n in
    let fo = first_open h h in
    let x = row_lexeme r r.next in
    let at : r.settled - 1 ≡ r.next = omega (arith, end) in
    let here : r.dropped + r.next ≡ fo = omega (arith, at, lost_number s n f) in
    let left : left_from x.front x ≡ 1 = ap (λ k. left_from k x) front in
    let known : (entry_at (finished_tokens h) fo).ends ≡ ends_in t.text r =
    subst (λ i. (entry_at (finished_tokens h) fo).ends ≡ ends_known (row_lexeme r i) (ends_at s.text.now (s.row.dropped + i))) at (lost_ends s n f) in
    let all : length (front_ends (drop fo (finished_tokens h))) ≤ (entry_at (finished_tokens h) fo).ends = elim (cases_lt fo (length (finished_tokens h))) [
      | inl low ↦ omega (arith, front_count (finished_tokens h) fo no_entry low)
      | inr past ↦ omega (arith, front_none (finished_tokens h) fo past)
    ] in
    ap (λ k. remaining t k (given_in t.text r)) here
    ∙ fault_comes t n p (given_in t.text r) fails (omega (arith, all, known, given_is t.text r (omega (arith, end, f.all)), left, none))

-- ---- in all three states

pub first_of : (s : Scanner) → Rests s → IsReady s
    → ((row_lexeme (row_of s.row) s.row.next).front ≡ kinds.Failed
    → (row_lexeme (row_of s.row) s.row.next).kind ≢ kinds.Failed)
    → First (stream_of s) (row_of s.row)
first_of s (inl g) ready real = first_going s g ready
first_of s (inr (inl o)) ready real = first_over s o ready
first_of s (inr (inr (n, f))) ready real = elim (cases_lt (s.row.next + 1) s.row.settled) [
  | inl low ↦ first_kept s n f low
  | inr past ↦
      let end : s.row.next + 1 ≡ s.row.settled = omega (arith, past, ready.some, f.all) in
      elim (lost_cases s n f end) [
        | inl (front, none) ↦ absurd (real front (lost_there s n f end).kind)
        | inr (front, some) ↦ first_lost s n f end front some
      ]
]
