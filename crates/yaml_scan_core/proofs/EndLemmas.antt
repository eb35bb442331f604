-- The stream's end.
use Rattle.std.proofs.Common.{◌≡◌, ℕ, ◌+◌, ◌-◌, ◌<◌, ◌≤◌, ◌⊎◌, Bool, true, false, cond, ltb, leb, ◌&&◌, not, inl, inr, List, ◌∷◌, length, Option, Some, None, Ok, refl, sym, ap, subst, ◌∙◌, arith}
use Rattle.yaml_scan_core.proofs.Words.{cases_Bool, cases_lt, nat_tests, byte, yaml_mark_t, mark_at, line_at, column_at, Lexeme, Candidate, candidate, reached, flow_depth, placed, missed, Next, Read, Fails, lexeme_at, next, colon_missing, finished_tokens, Upto, history, AreKeys, KeyStack, inner, stack_of, given_up, key_at, required_in, required_at, index_in}
use Rattle.yaml_scan_core.specs.declared.scanner.Scanner.{Scanner}
use Rattle.yaml_scan_history.specs.declared.kind.Kind.TheVariants as reads
use Rattle.yaml_scan_core.specs.Shown.{place_mark}
use Rattle.yaml_scan_core.specs.Scanning.{StandsAs, read_by}
use Rattle.yaml_scan_model.specs.scan_types.Tokens as tokens
use Rattle.yaml_scan_core.specs.Scanning.{Falls, IsTold, Takes, no_colon, stream_of}
use Rattle.yaml_scan_core.proofs.CandidatesLemmas.{cancelled_turns, inner_is, lower, top_cancelled, upto_on}
use Rattle.yaml_scan_core.proofs.ComesLemmas.{comes_lost, comes_word, lost_at, word_here}
use Rattle.yaml_scan_core.proofs.LinesLemmas.{line_upto}
use Rattle.yaml_scan_core.proofs.ReadLemmas.{begun_at, gap_of}
use Rattle.yaml_scan_core.proofs.StandLemmas.{IsStart, colon_told, required_stands}
use Rattle.yaml_scan_core.proofs.TakesLemmas.{falls_same, keeps_pushed, takes}
use Rattle.yaml_scan_core.specs.declared.row.Row.{Row}
use Rattle.yaml_scan_core.specs.declared.keys.Keys.{Keys}
use Rattle.yaml_scan_model.specs.declared.kind.Kind.TheVariants as kinds
use Rattle.yaml_scan_core.specs.declared.lexeme.Lexeme.{Lexeme as Held}
use Rattle.yaml_scan_core.specs.Margins.{AreLevels}
use Rattle.yaml_scan_core.specs.Rows.{HasRoom, RowView, row_of, pushed, bare}
use Rattle.yaml_scan_core.specs.Shown.{ShowsRow, store_of}
use Rattle.yaml_scan_core.proofs.StepTaken.{missed_none}
use Rattle.yaml_scan_core.proofs.KindsLemmas.{bare_shows, bare_word, given_up_outer, levels_plain, lost_there, row_more, not_wrong, place_cancels, stands_at, stands_here, stands_told}
use Rattle.yaml_scan_core.proofs.PlacesLemmas.{mark_of_place, place_column}

-- it is at the text's end
pub end_at_end : (s : Scanner) (h : List Lexeme) (n : ℕ) → StandsAs reads.StreamEnd s h n
    → s.at ≡ length s.text.now
end_at_end s h n a =
    let zero_byte : byte s.text.now s.at ≡ 0 = stands_told reads.StreamEnd s h n a in
    elim (cases_lt s.at (length s.text.now)) [
      | inr past ↦ omega (arith, past, a.behind.place.inside)
      | inl before ↦ absurd (omega (arith, zero_byte, a.behind.holds.bytes.some s.at before))
    ]

-- the place that the code gives
abbrev pub end_place : Scanner → ℕ
end_place s = cond (ltb 0 (s.at - s.line - s.wide)) (s.at + 1) s.at

pub end_mark : (s : Scanner) (h : List Lexeme) (n : ℕ) → StandsAs reads.StreamEnd s h n
    → place_mark s.text.now (end_place s) ≡ placed reads.StreamEnd (mark_at s.text.now s.at)
end_mark s h n a =
    let text = s.text.now in
    let at = end_at_end s h n a in
    let col = place_column text s.at s.line s.wide a.behind.place in
    let by : end_place s ≡ cond (ltb 0 (column_at text s.at)) (s.at + 1) s.at = ap (λ c. cond (ltb 0 c) (s.at + 1) s.at) col in
    ap (λ p. place_mark text p) by ∙ elim (cases_Bool (ltb 0 (column_at text s.at))) [
      | inr first ↦ rw first (mark_of_place text s.at a.behind.place.inside)
      | inl some ↦
          let past : ltb (length text) (s.at + 1) ≡ true = grind (arith, nat_tests, at) in
          let one : place_mark text (s.at + 1) ≡ record { index = length text; line = line_at text (length text) + 1; column = 0 } = rw past refl in
          rw some (one ∙ ap (λ p. record { index = p; line = line_at text p + 1; column = 0 }) (sym at))
    ]

-- ---- a required candidate is lost

index_some : (o : Option yaml_mark_t) (start : ℕ) → Some start ≡ index_in o
    → (m : yaml_mark_t) × (o ≡ Some m) × (m.index ≡ start)
index_some None start e = cc
index_some (Some m) start e = (m, refl, cc)

index_none : (o : Option yaml_mark_t) → None ≡ index_in o → o ≡ None
index_none None e = refl
index_none (Some m) e = cc

missed_end : (o : Option Candidate) (m q : yaml_mark_t) → required_in o ≡ Some m → m.line < q.line
    → missed o q ≡ Some m
missed_end None m q e lt = cc
missed_end (Some c) m q e lt = elim (cases_Bool c.lexeme.required) [
  | inr idle ↦ let bad = rw idle at e in cc
  | inl must ↦
      let same : c.lexeme.start ≡ m = grind (arith, must, e) in
      let far : leb q.line c.lexeme.start.line ≡ false = let l = ap (λ (x : yaml_mark_t). x.line) same in grind (arith, nat_tests, l, lt) in
      rw (must, far) (ap Some same)
]

-- what is asked at the end
abbrev pub due_there : Scanner → Option ℕ
due_there s = cond (ltb 0 (inner (stack_of s.keys)) && not (ltb s.at (end_place s))) None
    (index_in (required_at s.text.now (stack_of s.keys)))

pub end_word : (text : List ℕ) (h : List Lexeme)
    → word_here reads.StreamEnd text h ≡ Ok (bare_word tokens.stream_end 0 text h)
unfolding lexeme_at
end_word text h = let z : (gap_of text h).place + 0 ≡ (gap_of text h).place = omega arith in rw z refl

at_mark : (s : Scanner) (h : List Lexeme) (n : ℕ) → StandsAs reads.StreamEnd s h n
    → place_mark s.text.now (end_place s) ≡ (begun_at s.text.now h reads.StreamEnd).start
at_mark s h n a = end_mark s h n a ∙ ap (λ m. placed reads.StreamEnd m) (sym (stands_here reads.StreamEnd s h n a))

abbrev test_of : Option yaml_mark_t → Lexeme → Next
test_of o l = elim o as (λ _. Next) [ Some start ↦ Fails (colon_missing start l.reached) | None ↦ Read l ]

end_comes : (s : Scanner) (h : List Lexeme) (n : ℕ) (m : yaml_mark_t)
    → StandsAs reads.StreamEnd s h n
    → required_in (candidate 0 h) ≡ Some m
    → (ltb 0 (inner (stack_of s.keys)) ≡ true → ltb s.at (end_place s) ≡ true)
    → next s.text.now h ≡ Fails (colon_missing m (begun_at s.text.now h reads.StreamEnd).start)
end_comes s h n m a must far =
    let k = reads.StreamEnd in
    let text = s.text.now in
    let l = begun_at text h k in
    let deep : inner (stack_of s.keys) ≡ flow_depth h = inner_is (flow_depth h) (stack_of s.keys) a.behind.holds.keys.long in
    let good = not_wrong k text h refl in
    let lost = lost_there k true s h n a (place_cancels k text h refl refl) in
    elim (cases_Bool (ltb 0 (flow_depth h))) [
      | inr flat ↦ comes_lost k text (read_by s) h m (stands_at k s h n a) good (lost ∙ (rw flat must))
      | inl some ↦
          let none : lost_at k text h ≡ None = lost ∙ (rw some refl) in
          let comes = comes_word k text (read_by s) h (bare_word tokens.stream_end 0 text h) (stands_at k s h n a) good none (end_word text h) in
          let lt : 0 < flow_depth h = grind (arith, nat_tests, some) in
          let more : s.at < end_place s = let f = far (ap (λ d. ltb 0 d) deep ∙ some) in grind (arith, nat_tests, f) in
          let st = candidate_start text (read_by s) h m a.behind.is must in
          let at = end_at_end s h n a in
          let before : m.line ≤ line_at text s.at = omega (arith, ap (λ (x : yaml_mark_t). x.line) st.mark, line_upto text m.index s.at (omega (arith, st.inside, at))) in
          let next_line : l.start.line ≡ line_at text s.at + 1 = end_line s h n a more in
          let late : missed (candidate 0 (l ∷ h)) l.reached ≡ Some m = ap (λ o. missed o l.reached) (lower 0 l h lt) ∙ missed_end (candidate 0 h) m l.reached must (omega (arith, before, next_line)) in
          comes ∙ ap (λ o. test_of o l) late
    ]
  where
    candidate_start : (text : List ℕ) (i : ℕ) (h : List Lexeme) (m : yaml_mark_t) → h ≡ history text i → required_in (candidate 0 h) ≡ Some m → IsStart text m
    candidate_start text i h m is must = required_stands text i m (candidate 0 h) (ap (λ x. candidate 0 x) is) must

    end_line : (s : Scanner) (h : List Lexeme) (n : ℕ) → StandsAs reads.StreamEnd s h n → s.at < end_place s
        → (begun_at s.text.now h reads.StreamEnd).start.line ≡ line_at s.text.now s.at + 1
    end_line s h n a more =
        let at = end_at_end s h n a in
        let past : ltb (length s.text.now) (end_place s) ≡ true = grind (arith, nat_tests, at, more) in
        let one : (place_mark s.text.now (end_place s)).line ≡ line_at s.text.now (length s.text.now) + 1 = rw past refl in
        ap (λ (x : yaml_mark_t). x.line) (sym (at_mark s h n a)) ∙ one ∙ ap (λ p. line_at s.text.now p + 1) (sym at)

pub end_falls : (s new : Scanner) (h : List Lexeme) (n start p : ℕ) → StandsAs reads.StreamEnd s h n
    → p ≡ end_place s → new ≡ record s { fault = Some (no_colon start p) }
    → Some start ≡ due_there s → Falls s new h
end_falls s new h n start p a is_p is due =
    let text = s.text.now in
    let keys = a.behind.holds.keys in
    let (far, some) = due_parts (ltb 0 (inner (stack_of s.keys))) (ltb s.at (end_place s)) (index_in (required_at text (stack_of s.keys))) start due in
    let (m, one, index) = index_some (required_at text (stack_of s.keys)) start some in
    let must : required_in (candidate 0 h) ≡ Some m = keys.due ∙ one in
    let comes = end_comes s h n m a must far in
    let told = colon_told text (read_by s) (end_place s) m (subst (λ x. required_in (candidate 0 x) ≡ Some m) a.behind.is must) in
    let fault : new.fault ≡ Some (no_colon m.index (end_place s)) = ap (λ (x : Scanner). x.fault) is ∙ ap (λ i. Some (no_colon i p)) (sym index) ∙ ap (λ q. Some (no_colon m.index q)) is_p in
    let same : new ≡ record s { fault = new.fault } = is ∙ ap (λ f. record s { fault = f }) (sym (ap (λ (x : Scanner). x.fault) is)) in
    falls_same s new h a.behind.holds same (subst (λ f. IsTold text f (next text h)) (sym fault)
    (comes ∙ ap (λ q. Fails (colon_missing m q)) (sym (at_mark s h n a)) ∙ ap (λ q. Fails q) (sym told)))
  where
    due_parts : (f b : Bool) (o : Option ℕ) (start : ℕ) → Some start ≡ cond (f && not b) None o → (f ≡ true → b ≡ true) × (Some start ≡ o)
    due_parts true true o start e = (λ x. refl, e)
    due_parts true false o start e = cc
    due_parts false b o start e = (λ x. cc, e)

-- ---- it is read

placed_on : (m : yaml_mark_t) → Upto m (placed reads.StreamEnd m)
placed_on m = elim (cases_Bool (ltb 0 m.column)) [
  | inl some ↦ rw some (omega arith, omega arith)
  | inr first ↦ rw first (omega arith, omega arith)
]

none_due : (f b : Bool) (o : Option yaml_mark_t) → None ≡ cond (f && not b) None (index_in o)
    → (o ≡ None) ⊎ ((f ≡ true) × (b ≡ false))
none_due true true o e = inl (index_none o e)
none_due true false o e = inr (refl, refl)
none_due false b o e = inl (index_none o e)

pub end_takes : (s : Scanner) (row : Row) (keys : Keys) (x : Held) (p : ℕ) (h : List Lexeme) (n : ℕ)
    → StandsAs reads.StreamEnd s h n → p ≡ end_place s → None ≡ due_there s
    → x ≡ bare kinds.StreamEnd n p p 0 → row_of row ≡ pushed x (row_of s.row) → HasRoom row
    → stack_of keys ≡ given_up (stack_of s.keys)
    → Takes s (record s { keys = keys; row = row; ended = true }) h
unfolding lexeme_at
end_takes s row keys x p h n a is_p due is put room given =
    let k = reads.StreamEnd in
    let text = s.text.now in
    let t = stream_of s in
    let r = row_of s.row in
    let l = begun_at text h k in
    let o = a.behind.holds in
    let new : Scanner = record s { keys = keys; row = row; ended = true } in
    let good = not_wrong k text h refl in
    let deep : inner (stack_of s.keys) ≡ flow_depth h = inner_is (flow_depth h) (stack_of s.keys) o.keys.long in
    let lost : lost_at k text h ≡ None = lost_there k true s h n a (place_cancels k text h refl refl) ∙
    elim (none_due (ltb 0 (inner (stack_of s.keys))) (ltb s.at (end_place s)) (required_at text (stack_of s.keys)) due) [
      | inl none ↦ let must : required_in (candidate 0 h) ≡ None = o.keys.due ∙ none in elim (cases_Bool (ltb 0 (flow_depth h))) [ inl y ↦ rw y refl | inr f ↦ rw f must ]
      | inr (flow, near) ↦ let some : ltb 0 (flow_depth h) ≡ true = ap (λ d. ltb 0 d) (sym deep) ∙ flow in rw some refl
    ] in
    let comes = comes_word k text (read_by s) h (bare_word tokens.stream_end 0 text h) (stands_at k s h n a) good lost (end_word text h) in
    let start : place_mark text p ≡ l.start = ap (λ q. place_mark text q) is_p ∙ at_mark s h n a in
    let there = stands_here k s h n a in
    let up : Upto (mark_at text s.at) l.start = subst (λ m. Upto (mark_at text s.at) (placed k m)) (sym there) (placed_on (mark_at text s.at)) in
    let further : Upto (reached h) l.start = upto_on (reached h) (mark_at text s.at) l.start a.behind.further up in
    let free : l.saved ≡ false = grind arith in
    let turned = cancelled_turns (flow_depth h) text (stack_of s.keys) l h (reached h) o.keys further refl free refl in
    let shown = bare_shows t (store_of text r) kinds.StreamEnd n p p 0 l h start start refl refl refl a.ends (record { plain = refl }, refl) in
    let rows = row_more t r (bare kinds.StreamEnd n p p 0) l h o.row refl shown in
    let is_row : row_of row ≡ pushed (bare kinds.StreamEnd n p p 0) r = put ∙ ap (λ y. pushed y r) is in
    let gone : flow_depth h ≡ 0 → candidate 0 (l ∷ h) ≡ None = λ z. ap (λ d. candidate d (l ∷ h)) (sym z) ∙ top_cancelled l h free refl in
    takes s new l h o record {
      text = refl;
      coding = refl;
      row = subst (λ q. ShowsRow t q (finished_tokens (l ∷ h))) (sym is_row) rows;
      room = room;
      dropped = ap (λ (q : RowView). q.dropped) is_row;
      settled = ap (λ (q : RowView). q.settled) is_row;
      keys = subst (λ q. AreKeys text q (l ∷ h) l.reached) (sym given) turned;
      few = o.few;
      fault = refl;
      over = refl;
      place = a.behind.place;
      mark = λ e. cc;
      allowed = λ e. cc;
      margins = subst (λ ls. AreLevels s.levels ls) (sym (levels_plain l h refl)) a.margins;
      outer = λ must. inl (
          let now : (given_up (stack_of s.keys)).required ≡ true = ap (λ (q : KeyStack). q.required) (sym given) ∙ must in
          let (key, same) = given_up_outer (flow_depth h) text (stack_of s.keys) l h (reached h) o.keys refl now in
          (ap (λ q. key_at q 0) given ∙ key, same));
      passed = omega (arith, ap (λ (q : KeyStack). q.passed) given);
      idle = λ e. elim (cases_lt 0 (flow_depth h)) [
        | inr low ↦ let none = gone (omega (arith, low)) in (ap (λ c. missed c l.reached) none, ap (λ c. missed c (mark_at text s.at)) none)
        | inl lt ↦
            let same : candidate 0 (l ∷ h) ≡ candidate 0 h = lower 0 l h lt in (
              ap (λ c. missed c l.reached) same ∙ elim (none_due (ltb 0 (inner (stack_of s.keys))) (ltb s.at (end_place s)) (required_at text (stack_of s.keys)) due) [
                | inl none ↦ missed_none (candidate 0 h) l.reached (o.keys.due ∙ none)
                | inr (flow, near) ↦ ap (λ m. missed (candidate 0 h) m) (sym start ∙ ap (λ q. place_mark text q) (is_p ∙ near_end s near) ∙ mark_of_place text s.at a.behind.place.inside) ∙ a.early
              ],
              ap (λ c. missed c (mark_at text s.at)) same ∙ a.early,
            )
      ];
      further = further;
      forward = (omega arith, omega arith);
      kept = keeps_pushed s new t l h (bare kinds.StreamEnd n p p 0) o.row is_row shown.ends refl;
    } comes
  where
    near_end : (s : Scanner) → ltb s.at (end_place s) ≡ false → end_place s ≡ s.at
    near_end s e = elim (cases_Bool (ltb 0 (s.at - s.line - s.wide))) [
      | inr first ↦ rw first refl
      | inl some ↦ let f : ltb s.at (s.at + 1) ≡ false = rw some at e in absurd (grind (arith, nat_tests, f))
    ]

-- what the code asks at the place
pub due_at_place : (s : Scanner) (p : ℕ) (d r : Option ℕ) → p ≡ end_place s → d ≡ r
    → d ≡ cond (ltb 0 (inner (stack_of s.keys)) && not (ltb s.at p)) None
    (index_in (required_at s.text.now (stack_of s.keys)))
    → r ≡ due_there s
due_at_place s p d r is same e = sym same ∙ e ∙ ap (λ q. cond (ltb 0 (inner (stack_of s.keys)) && not (ltb s.at q)) None (index_in (required_at s.text.now (stack_of s.keys)))) is
