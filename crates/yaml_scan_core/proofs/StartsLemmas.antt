-- A `-`, a `?` and a `:`, which may open a block level.
use Rattle.std.proofs.Common.{◌≡◌, ℕ, ◌+◌, ◌-◌, ◌<◌, ◌^◌, Bool, true, false, cond, ltb, eqb, ◌&&◌, ◌||◌, not, inl, inr, List, [], ◌∷◌, ◌++◌, length, Option, Some, None, Result, Ok, Err, refl, sym, ap, subst, ◌∙◌, arith}
use Rattle.yaml_scan_core.proofs.Words.{cases_Bool, cases_lt, nat_tests, yaml_mark_t, mark_at, column_at, indent, Kind, Lexeme, Entry, Candidate, candidate, fresh, reached, flow_depth, depth_after, open_levels, finished_tokens, entry_of, found_by, has, inside, opened, opens_at, is_value, is_start, is_end, cancels, key_allowed, may_be_key, lexeme_at, Upto, Fails, missed, next, allowed_behind, AreKeys, KeyStack, inner, key_at, stack_of, given_up, index_in, fresh_key, view_of, required_in, required_at}
use Rattle.yaml_scan_model.specs.scan_types.Tokens as tokens
use Rattle.yaml_scan_model.specs.scan_types.Tokens.{TokenBody}
use Rattle.yaml_scan_history.specs.History.{marked, opens_of, level_of, start_of}
use Rattle.yaml_scan_history.specs.Next.{not_allowed_by, not_allowed_there}
use Rattle.yaml_scan_history.specs.declared.kind.Kind.TheVariants as reads
use Rattle.yaml_scan_history.specs.declared.lexeme.Opens.TheVariants as opening
use Rattle.yaml_scan_core.specs.declared.fault.Fault.{Fault}
use Rattle.yaml_scan_core.specs.declared.fault.Refused.{Refused}
use Rattle.yaml_scan_core.specs.declared.row.Row.{Row}
use Rattle.yaml_scan_core.specs.declared.keys.Keys.{Keys}
use Rattle.yaml_scan_core.specs.declared.levels.Levels.{Levels}
use Rattle.yaml_scan_core.specs.declared.scanner.Scanner.{Scanner}
use Rattle.yaml_scan_model.specs.declared.kind.Kind.{Kind as Token}
use Rattle.yaml_scan_model.specs.declared.kind.Kind.TheVariants as kinds
use Rattle.yaml_scan_core.specs.declared.lexeme.Lexeme.{Lexeme as Held}
use Rattle.yaml_scan_core.specs.Candidates.{cancelled_at}
use Rattle.yaml_scan_core.specs.Margins.{AreLevels}
use Rattle.yaml_scan_core.specs.Rows.{HasRoom, RowView, row_of, pushed, bare, is_set}
use Rattle.yaml_scan_core.specs.Shown.{Carries, ShowsRow, Store, opens_in, place_mark, store_of}
use Rattle.yaml_scan_core.specs.Scanning.{FindsNone, IsPlace, IsTold, Reads, StandsAs, Takes, Tests, TestsOf, fault_in, fixed_of, left_behind, read_by, refusal_at, stream_of}
use Rattle.yaml_scan_core.proofs.CandidatesLemmas.{inner_is, lower, stale_turns, stays_stale, upto_on}
use Rattle.yaml_scan_core.proofs.GapsLemmas.{or_false}
use Rattle.yaml_scan_core.proofs.ComesLemmas.{comes_misplaced, is_wrong, word_here}
use Rattle.yaml_scan_core.proofs.ReadLemmas.{gap_of}
use Rattle.yaml_scan_core.proofs.PlacesLemmas.{byte_place, mark_of_place, place_column}
use Rattle.yaml_scan_core.proofs.ShownLemmas.{shown_pushed}
use Rattle.yaml_scan_core.proofs.TakesLemmas.{falls_same, keeps_pushed, reads_err}
use Rattle.yaml_scan_core.proofs.KindsLemmas.{Goes, Puts, bare_entry, bare_word, cancelling_takes, goes_leaves, goes_takes, goes_upto, inside_put, lost_there, keeps_all, place_cancels, put_at, stands_at, stands_here, stands_told}

-- ---- where they may be

-- a lexeme of that kind may open a level, and finds no key
pub record Starts (k : Kind) (s : Scanner) (h : List Lexeme) : Type 0 where
  pub starts : is_start k ≡ true
  pub none : (is_value k && has (fresh (candidate (flow_depth h) h) (mark_at s.text.now s.at)))
      ≡ false

wrong_is : (k : Kind) (s : Scanner) (h : List Lexeme) (n : ℕ) → StandsAs k s h n → Starts k s h
    → is_wrong k s.text.now h ≡ not (ltb 0 (inner (stack_of s.keys)) || s.key_allowed)
wrong_is k s h n a p =
    let deep : flow_depth h ≡ inner (stack_of s.keys) = sym (inner_is (flow_depth h) (stack_of s.keys) a.behind.holds.keys.long) in
    let none : (is_value k && has (fresh (candidate (flow_depth h) h) (mark_at s.text.now (gap_of s.text.now h).place))) ≡ false = ap (λ m. is_value k && has (fresh (candidate (flow_depth h) h) m)) (stands_here k s h n a) ∙ p.none in
    rw (p.starts, none) (both (ltb 0 (flow_depth h)) (allowed_behind h (gap_of s.text.now h)) ∙ ap (λ d. not (ltb 0 d || allowed_behind h (gap_of s.text.now h))) deep ∙ ap (λ b. not (ltb 0 (inner (stack_of s.keys)) || b)) (sym a.behind.allowed))
  where
    both : (x y : Bool) → ((not x && not y) && true) ≡ not (x || y)
    both true y = refl
    both false true = refl
    both false false = refl

may_pass : (b : Bool) (p : Fault) (f : Option Fault) (u : Unit {0}) → TestsOf b p f (Ok u)
    → b ≡ true
may_pass true p f u t = refl
may_pass false p f u t = absurd t

may_fail : (b : Bool) (p : Fault) (f : Option Fault) (e : Refused) → TestsOf b p f (Err e)
    → (b ≡ false) × (f ≡ Some p)
may_fail true p f e t = absurd t
may_fail false p f e t = (refl, t)

pub may_stand : (k : Kind) (s : Scanner) (h : List Lexeme) (n : ℕ) (p : Fault) (f : Option Fault)
    (u : Unit {0}) → StandsAs k s h n → Starts k s h
    → TestsOf (ltb 0 (inner (stack_of s.keys)) || s.key_allowed) p f (Ok u)
    → is_wrong k s.text.now h ≡ false
may_stand k s h n p f u a st t = wrong_is k s h n a st ∙ ap not (may_pass (ltb 0 (inner (stack_of s.keys)) || s.key_allowed) p f u t)

pub misplaced_falls : (k : Kind) (old new : Scanner) (h : List Lexeme) (n : ℕ)
    (r : Result (Unit {0}) Refused) (e d : Refused) → StandsAs k old h n → Starts k old h
    → new ≡ record old { fault = new.fault }
    → TestsOf (ltb 0 (inner (stack_of old.keys)) || old.key_allowed) (refusal_at (not_allowed_by k) old.at) new.fault (Err d)
    → r ≡ Err e → Reads old new h r
misplaced_falls k old new h n r e d a st same tests is =
    let text = old.text.now in
    let (bad, f) = may_fail (ltb 0 (inner (stack_of old.keys)) || old.key_allowed) (refusal_at (not_allowed_by k) old.at) new.fault d tests in
    let wrong : is_wrong k text h ≡ true = wrong_is k old h n a st ∙ ap not bad in
    let m : place_mark text old.at ≡ mark_at text (gap_of text h).place = mark_of_place text old.at a.behind.place.inside ∙ sym (stands_here k old h n a) in
    let comes = comes_misplaced k text (read_by old) h (stands_at k old h n a) wrong in
    let told : next text h ≡ Fails (fault_in text (refusal_at (not_allowed_by k) old.at)) = comes ∙ ap (λ q. Fails (not_allowed_there k q)) (sym m) in
    reads_err old new h r e is (falls_same old new h a.behind.holds same (subst (λ o. IsTold text o (next text h)) (sym f) told))

-- ---- the row and the levels

plain_keyed : (b : Bool) (o : Option Candidate) (ls : List ℕ) (es : List Entry)
    → (b && has o) ≡ false
    → cond b (marked o ls es) es ≡ es
plain_keyed false o ls es e = refl
plain_keyed true None ls es e = refl
plain_keyed true (Some c) ls es e = cc

-- it finds no key
abbrev pub finds_none : Lexeme → List Lexeme → Type 0
finds_none l h = (is_value l.kind && has (found_by l h)) ≡ false

entries_start : (l : Lexeme) (h : List Lexeme) → finds_none l h
    → finished_tokens (l ∷ h) ≡ finished_tokens h ++ entry_of l h ∷ []
unfolding finished_tokens
entries_start l h none = ap (λ es. es ++ entry_of l h ∷ []) (plain_keyed (is_value l.kind) (found_by l h) (inside l h) (finished_tokens h) none)

opens_same : (o : Option Candidate) (k : Kind) (c : ℕ) → (is_value k && has o) ≡ false
    → opens_at o k c ≡ c + 1
opens_same None k c e = refl
opens_same (Some x) k c e = elim (cases_Bool (is_value k)) [ inl y ↦ let bad = rw y at e in cc | inr n ↦ rw n refl ]

levels_start : (l : Lexeme) (h : List Lexeme) → is_start l.kind ≡ true → finds_none l h
    → open_levels (l ∷ h) ≡ opened (not (ltb 0 l.depth)) (l.start.column + 1) (inside l h)
unfolding open_levels
levels_start l h starts none =
    ap (λ b. opened (b && not (ltb 0 l.depth)) (opens_at (found_by l h) l.kind l.start.column) (inside l h)) starts
    ∙ ap (λ m. opened (not (ltb 0 l.depth)) m (inside l h)) (opens_same (found_by l h) l.kind l.start.column none)

opens_start : (l : Lexeme) (h : List Lexeme) → is_start l.kind ≡ true → finds_none l h
    → opens_of (found_by l h) l (inside l h) ≡ start_of l.depth (l.start.column + 1) (inside l h) (level_of l.kind)
opens_start l h starts none = rw (starts, none) refl

-- the flag of the level that opens
abbrev pub flag : Kind → Bool → ℕ
flag reads.BlockEntry b = cond b 1 0
flag _ b = cond b 2 0

pub flag_opens : (k : Kind) (t : Token) (n p q : ℕ) (b : Bool)
    → opens_in (bare t n p q (flag k b)) ≡ cond b (level_of k) opening.Nothing
flag_opens reads.BlockEntry t n p q true = refl
flag_opens reads.BlockEntry t n p q false = refl
flag_opens _ t n p q true = refl
flag_opens _ t n p q false = refl

pub flag_note : (k : Kind) (t : Token) (n p q : ℕ) (b : Bool)
    → is_set 8 (bare t n p q (flag k b)) ≡ false
flag_note reads.BlockEntry t n p q true = refl
flag_note reads.BlockEntry t n p q false = refl
flag_note _ t n p q true = refl
flag_note _ t n p q false = refl

pub flag_key : (k : Kind) (t : Token) (n p q : ℕ) (b : Bool)
    → is_set 4 (bare t n p q (flag k b)) ≡ false
flag_key reads.BlockEntry t n p q true = refl
flag_key reads.BlockEntry t n p q false = refl
flag_key _ t n p q true = refl
flag_key _ t n p q false = refl

-- what the code opens
pub record OpensLevel (k : Kind) (old new : Scanner) (h : List Lexeme) (b : Bool) : Type 0 where
  pub margins : AreLevels new.levels (opened (not (ltb 0 (inner (stack_of old.keys)))) (column_at old.text.now old.at + 1) (left_behind k old h))
  pub opens : b ≡ (not (ltb 0 (inner (stack_of old.keys))) && ltb (indent (left_behind k old h)) (column_at old.text.now old.at + 1))
  pub few : length new.levels.outer.items < 2 ^ 32

-- the state after such a lexeme, its keys aside
pub starting_goes : (k : Kind) (t : Token) (body : TokenBody) (b : Bool) (old new : Scanner)
    (h : List Lexeme) (n : ℕ) → StandsAs k old h n → Starts k old h → is_end k ≡ false
    → (k ≡ reads.StreamStart → ⊥)
    → let w = bare_word body 1 old.text.now h in
    word_here k old.text.now h ≡ Ok w
    → ((o : Store) → Carries o (stream_of old) (bare t n old.at (old.at + 1) (flag k b)) t body)
    → Puts t n 1 (flag k b) old new → OpensLevel k old new h b
    → IsPlace old.text.now (old.at + 1) old.line old.wide
    → new.key_allowed ≡ key_allowed (put_at k w old.text.now h ∷ h)
    → Goes k w old new h
starting_goes k t body b old new h n a st flat other word carries p lv place allowed =
    let text = old.text.now in
    let w = bare_word body 1 text h in
    let l = put_at k w text h in
    let r = row_of old.row in
    let x = bare t n old.at (old.at + 1) (flag k b) in
    let o = store_of text r in
    let there = stands_here k old h n a in
    let none : finds_none l h = ap (λ m. is_value k && has (fresh (candidate (flow_depth h) h) m)) there ∙ st.none in
    let inner_one : inner (stack_of old.keys) ≡ flow_depth h = inner_is (flow_depth h) (stack_of old.keys) a.behind.holds.keys.long in
    let ins = inside_put k w old h n a in
    let col : l.start.column ≡ column_at text old.at = ap (λ (m : yaml_mark_t). m.column) there in
    let opens_b : b ≡ (not (ltb 0 (flow_depth h)) && ltb (indent (inside l h)) (l.start.column + 1)) =
    lv.opens ∙ ap (λ d. not (ltb 0 d) && ltb (indent (left_behind k old h)) (column_at text old.at + 1)) inner_one
    ∙ ap (λ ls. not (ltb 0 (flow_depth h)) && ltb (indent ls) (column_at text old.at + 1)) (sym ins)
    ∙ ap (λ c. not (ltb 0 (flow_depth h)) && ltb (indent (inside l h)) (c + 1)) (sym col) in
    let opens : opens_in x ≡ opens_of (found_by l h) l (inside l h) =
    flag_opens k t n old.at (old.at + 1) b ∙ ap (λ y. cond y (level_of k) opening.Nothing) opens_b ∙ sym (opens_start l h st.starts none) in
    let shown = bare_entry k t body 1 (flag k b) old o h n a flat other word refl place.inside (flag_note k t n old.at (old.at + 1) b) (flag_key k t n old.at (old.at + 1) b) opens (carries o) in
    let row : ShowsRow (stream_of old) (pushed x r) (finished_tokens (l ∷ h)) = subst (λ es. ShowsRow (stream_of old) (pushed x r) es) (sym (entries_start l h none)) (shown_pushed (stream_of old) r (finished_tokens h) x (entry_of l h) a.behind.holds.row shown) in
    let same : opened (not (ltb 0 (inner (stack_of old.keys)))) (column_at text old.at + 1) (left_behind k old h) ≡ open_levels (l ∷ h) =
    ap (λ d. opened (not (ltb 0 d)) (column_at text old.at + 1) (left_behind k old h)) inner_one
    ∙ ap (λ ls. opened (not (ltb 0 (flow_depth h))) (column_at text old.at + 1) ls) (sym ins)
    ∙ ap (λ c. opened (not (ltb 0 (flow_depth h))) (c + 1) (inside l h)) (sym col)
    ∙ sym (levels_start l h st.starts none) in
    record {
      text = p.text;
      coding = p.coding;
      row = subst (λ q. ShowsRow (stream_of old) q (finished_tokens (l ∷ h))) (sym p.row) row;
      room = p.room;
      dropped = ap (λ (q : RowView). q.dropped) p.row;
      settled = ap (λ (q : RowView). q.settled) p.row;
      fault = p.fault;
      over = p.over;
      place = rw (p.at, p.line, p.wide) place;
      at = p.at ∙ ap (λ q. q + 1) a.behind.gap;
      further = omega (arith, p.at);
      allowed = allowed;
      few = lv.few;
      margins = subst (λ ls. AreLevels new.levels ls) same lv.margins;
      kept = keeps_pushed old new (stream_of old) l h x a.behind.holds.row p.row shown.ends p.fixed;
    }

-- ---- which kinds

pub entry_starts : (s : Scanner) (h : List Lexeme) → Starts reads.BlockEntry s h
entry_starts s h = record { starts = refl; none = refl }

pub key_starts : (s : Scanner) (h : List Lexeme) → Starts reads.KeyMark s h
key_starts s h = record { starts = refl; none = refl }

-- levels were opened, and nothing else was changed
pub opened_by : (old mid new : Scanner) → mid ≡ old → new ≡ record mid { levels = new.levels }
    → new ≡ record old { levels = new.levels }
opened_by old mid new same e = e ∙ ap (λ (x : Scanner). record x { levels = new.levels }) same

-- what the code says of the level that opens
pub level_by : (k : Kind) (old mid new : Scanner) (h : List Lexeme) (n : ℕ) (column : ℕ) (b : Bool)
    → StandsAs k old h n → mid ≡ old → column ≡ mid.at - mid.line - mid.wide
    → ((ls : List ℕ) → AreLevels mid.levels ls → AreLevels new.levels (opened (not (ltb 0 (inner (stack_of mid.keys)))) (column + 1) ls))
    → ((ls : List ℕ) → AreLevels mid.levels ls → b ≡ (not (ltb 0 (inner (stack_of mid.keys))) && ltb (indent ls) (column + 1)))
    → (length mid.levels.outer.items < 2 ^ 32 → length new.levels.outer.items < 2 ^ 32)
    → OpensLevel k old new h b
level_by k old mid new h n column b a same is margins opens few =
    let text = old.text.now in
    let levels_same : mid.levels ≡ old.levels = ap (λ (s : Scanner). s.levels) same in
    let ls = left_behind k old h in
    let are : AreLevels mid.levels ls = subst (λ l. AreLevels l ls) (sym levels_same) a.margins in
    let col : column ≡ column_at text old.at = is ∙ ap (λ (s : Scanner). s.at - s.line - s.wide) same ∙ place_column text old.at old.line old.wide a.behind.place in
    let inner_same : inner (stack_of mid.keys) ≡ inner (stack_of old.keys) = ap (λ (s : Scanner). inner (stack_of s.keys)) same in
    record {
      margins = subst (λ c. AreLevels new.levels (opened (not (ltb 0 (inner (stack_of old.keys)))) (c + 1) ls)) col (subst (λ d. AreLevels new.levels (opened (not (ltb 0 d)) (column + 1) ls)) inner_same (margins ls are));
      opens = opens ls are ∙ ap (λ d. not (ltb 0 d) && ltb (indent ls) (column + 1)) inner_same ∙ ap (λ c. not (ltb 0 (inner (stack_of old.keys))) && ltb (indent ls) (c + 1)) col;
      few = few (subst (λ (l : Levels). length l.outer.items < 2 ^ 32) (sym levels_same) a.behind.holds.few);
    }

-- what is put by the code, after a level that opens
pub puts_on : (t : Token) (n flags : ℕ) (old mid : Scanner) (row : Row) (keys : Keys)
    (allowed : Bool) (x : Held) → mid ≡ record old { levels = mid.levels }
    → x ≡ bare t n mid.at (mid.at + 1) flags → row_of row ≡ pushed x (row_of mid.row) → HasRoom row
    → Puts t n 1 flags old (record mid { at = mid.at + 1; key_allowed = allowed; keys = keys; row = row })
puts_on t n flags old mid row keys allowed x same is put room =
    let at : mid.at ≡ old.at = ap (λ (s : Scanner). s.at) same in
    record {
      text = ap (λ (s : Scanner). s.text.now) same;
      coding = ap (λ (s : Scanner). s.encoding) same;
      row = put ∙ ap (λ y. pushed y (row_of mid.row)) is ∙ ap (λ (s : Scanner). pushed (bare t n s.at (s.at + 1) flags) (row_of s.row)) same;
      room = room;
      fault = ap (λ (s : Scanner). s.fault) same;
      over = ap (λ (s : Scanner). s.ended) same;
      at = ap (λ q. q + 1) at;
      line = ap (λ (s : Scanner). s.line) same;
      wide = ap (λ (s : Scanner). s.wide) same;
      fixed = ap (λ (s : Scanner). fixed_of s) same;
    }

-- a `-` or a `?`
pub starting_takes : (k : Kind) (t : Token) (body : TokenBody) (b : Bool) (old mid : Scanner)
    (row : Row) (keys : Keys) (allowed : Bool) (x : Held) (h : List Lexeme) (n : ℕ)
    (f : Option Fault) (u : Unit {0}) → StandsAs k old h n → Starts k old h → is_end k ≡ false
    → (k ≡ reads.StreamStart → ⊥) → is_value k ≡ false → cancels k ≡ true → may_be_key k ≡ false
    → depth_after k (flow_depth h) ≡ flow_depth h → is_wrong k old.text.now h ≡ false
    → Tests (index_in (cancelled_at old.text.now (stack_of old.keys))) old.at f (Ok u)
    → word_here k old.text.now h ≡ Ok (bare_word body 1 old.text.now h)
    → ((o : Store) → Carries o (stream_of old) (bare t n old.at (old.at + 1) (flag k b)) t body)
    → mid ≡ record old { levels = mid.levels } → x ≡ bare t n mid.at (mid.at + 1) (flag k b)
    → row_of row ≡ pushed x (row_of mid.row) → HasRoom row → OpensLevel k old mid h b
    → IsPlace old.text.now (old.at + 1) old.line old.wide
    → allowed ≡ key_allowed (put_at k (bare_word body 1 old.text.now h) old.text.now h ∷ h)
    → stack_of keys ≡ given_up (stack_of mid.keys)
    → Takes old (record mid { at = mid.at + 1; key_allowed = allowed; keys = keys; row = row }) h
starting_takes k t body b old mid row keys allowed x h n f u a st flat other plain stops idle deep good tests word carries same is put room lv place allows given =
    let new : Scanner = record mid { at = mid.at + 1; key_allowed = allowed; keys = keys; row = row } in
    let puts = puts_on t n (flag k b) old mid row keys allowed x same is put room in
    let lv2 : OpensLevel k old new h b = record { margins = lv.margins; opens = lv.opens; few = lv.few } in
    let goes = starting_goes k t body b old new h n a st flat other word carries puts lv2 place allows in
    cancelling_takes k (bare_word body 1 old.text.now h) old new h n a stops idle flat deep good
    (keeps_all k old h n f u a (place_cancels k old.text.now h stops plain) tests) word goes
    (given ∙ ap (λ (s : Scanner). given_up (stack_of s.keys)) same)

pub entry_word : (text : List ℕ) (h : List Lexeme)
    → word_here reads.BlockEntry text h ≡ Ok (bare_word tokens.block_entry 1 text h)
unfolding lexeme_at
entry_word text h = refl

pub key_word : (text : List ℕ) (h : List Lexeme)
    → word_here reads.KeyMark text h ≡ Ok (bare_word tokens.key 1 text h)
unfolding lexeme_at
key_word text h = refl

pub value_word : (text : List ℕ) (h : List Lexeme)
    → word_here reads.ValueMark text h ≡ Ok (bare_word tokens.value 1 text h)
unfolding lexeme_at
value_word text h = refl

-- whether a key may begin after a `?`
pub flow_same : (s : KeyStack) (t : KeyStack) (h : List Lexeme) (text : List ℕ) (p : yaml_mark_t)
    → AreKeys text s h p → length t.levels ≡ length s.levels
    → (not (ltb 0 (inner t)) || false) ≡ (eqb (flow_depth h) 0 || false)
flow_same s t h text p a long =
    let same : inner t ≡ flow_depth h = omega (arith, a.long, long) in
    rw same (ap (λ b. b || false) (flat (flow_depth h)))
  where
    flat : (d : ℕ) → not (ltb 0 d) ≡ eqb d 0
    flat d = grind (arith, nat_tests)

-- ---- a `:` after no key

view_none : (o : Option Candidate) → view_of o ≡ None → o ≡ None
view_none None e = refl
view_none (Some c) e = cc

-- no key of the level is open where the code finds none
pub none_open : (k : Kind) (s : Scanner) (h : List Lexeme) (n : ℕ) → StandsAs k s h n
    → FindsNone s h → fresh (candidate (flow_depth h) h) (mark_at s.text.now s.at) ≡ None
none_open k s h n a none =
    let text = s.text.now in
    let o = a.behind.holds.keys in
    let same : inner (stack_of s.keys) ≡ flow_depth h = inner_is (flow_depth h) (stack_of s.keys) o.long in
    let key : fresh_key text (key_at (stack_of s.keys) (flow_depth h)) (mark_at text s.at) ≡ None = ap (λ d. fresh_key text (key_at (stack_of s.keys) d) (mark_at text s.at)) (sym same) ∙ none in
    view_none (fresh (candidate (flow_depth h) h) (mark_at text s.at)) (sym (o.agrees (flow_depth h) (omega arith) (mark_at text s.at) a.behind.further) ∙ key)

pub value_starts : (s : Scanner) (h : List Lexeme) (n : ℕ) → StandsAs reads.ValueMark s h n
    → FindsNone s h → Starts reads.ValueMark s h
value_starts s h n a none = record { starts = refl; none = ap has (none_open reads.ValueMark s h n a none) }

idle_gone : (o : Option Candidate) (m : yaml_mark_t) → fresh o m ≡ None → missed o m ≡ None
    → required_in o ≡ None
idle_gone None m e f = refl
idle_gone (Some c) m e f = grind (arith, e, f)

required_none : (text : List ℕ) (s : KeyStack) → required_at text s ≡ None → s.required ≡ false
required_none text s e = elim (cases_Bool s.required) [ inr n ↦ n | inl y ↦ let bad = rw y at e in cc ]

no_place : (b : Bool) → ((b && false) || false) ≡ false
no_place true = refl
no_place false = refl

and_yes : (b : Bool) → ((b && true) || false) ≡ (b || false)
and_yes true = refl
and_yes false = refl

pub value_allows : (s t : KeyStack) (h : List Lexeme) (text : List ℕ) (p : yaml_mark_t) (l : Lexeme)
    → AreKeys text s h p → t ≡ s → has (found_by l h) ≡ false
    → not (ltb 0 (inner t)) ≡ ((eqb (flow_depth h) 0 && not (has (found_by l h))) || false)
value_allows s t h text p l a same none =
    sym (or_false (not (ltb 0 (inner t)))) ∙ flow_same s t h text p a (ap (λ (q : KeyStack). length q.levels) same) ∙ sym (and_yes (eqb (flow_depth h) 0)) ∙ (rw none refl)

pub alone_takes : (old mid : Scanner) (row : Row) (allowed : Bool) (b : Bool) (x : Held)
    (h : List Lexeme) (n : ℕ) → let k = reads.ValueMark in
    StandsAs k old h n → FindsNone old h → is_wrong k old.text.now h ≡ false
    → mid ≡ record old { levels = mid.levels } → x ≡ bare kinds.Value n mid.at (mid.at + 1) (flag k b)
    → row_of row ≡ pushed x (row_of mid.row) → HasRoom row → OpensLevel k old mid h b
    → allowed ≡ not (ltb 0 (inner (stack_of mid.keys)))
    → Takes old (record mid { at = mid.at + 1; key_allowed = allowed; row = row }) h
alone_takes old mid row allowed b x h n a none good same is put room lv allows =
    let k = reads.ValueMark in
    let text = old.text.now in
    let w = bare_word tokens.value 1 text h in
    let l = put_at k w text h in
    let s = stack_of old.keys in
    let o = a.behind.holds.keys in
    let new : Scanner = record mid { at = mid.at + 1; key_allowed = allowed; row = row } in
    let st = value_starts old h n a none in
    let gone = none_open k old h n a none in
    let there = stands_here k old h n a in
    let found : has (found_by l h) ≡ false = ap (λ m. has (fresh (candidate (flow_depth h) h) m)) there ∙ ap has gone in
    let keys_same : stack_of mid.keys ≡ s = ap (λ (y : Scanner). stack_of y.keys) same in
    let puts = puts_on kinds.Value n (flag k b) old mid row mid.keys allowed x same is put room in
    let lv2 : OpensLevel k old new h b = record { margins = lv.margins; opens = lv.opens; few = lv.few } in
    let place = byte_place text old.at old.line old.wide 58 a.behind.place (stands_told k old h n a) (omega arith) (omega arith) in
    let allow : allowed ≡ key_allowed (l ∷ h) = allows ∙ value_allows s (stack_of mid.keys) h text (reached h) l o keys_same found in
    let goes = starting_goes k kinds.Value tokens.value b old new h n a st refl (λ e. cc) (value_word text h)
    (λ q. (record { plain = flag_note k kinds.Value n old.at (old.at + 1) b }, refl)) puts lv2 place allow in
    let (further, forward) = goes_upto k w old new h n a goes in
    let on : Upto (reached h) l.reached = upto_on (reached h) l.start l.reached further forward in
    let free : l.saved ≡ false = grind arith in
    let inner_same : inner s ≡ flow_depth h = inner_is (flow_depth h) s o.long in
    let stale_here : fresh_key text (key_at s (flow_depth h)) (mark_at text old.at) ≡ None = ap (λ d. fresh_key text (key_at s d) (mark_at text old.at)) (sym inner_same) ∙ none in
    let stale : fresh_key text (key_at s (flow_depth h)) l.reached ≡ None = stays_stale text (key_at s (flow_depth h)) (mark_at text old.at) l.reached stale_here (subst (λ m. Upto m l.reached) there forward) in
    let idle : flow_depth h ≡ 0 → old.keys.required ≡ false = λ z.
    required_none text s (sym o.due ∙ idle_gone (candidate 0 h) (mark_at text old.at) (ap (λ d. fresh (candidate d h) (mark_at text old.at)) (sym z) ∙ gone) a.early) in
    let turned = stale_turns (flow_depth h) text s l h (reached h) o on refl free refl stale idle in
    let lost = lost_there k false old h n a (no_place (allowed_behind h (gap_of text h))) in
    goes_takes k w old new h n a refl good lost (value_word text h)
    (goes_leaves k w old new h n a goes refl (subst (λ q. AreKeys text q (l ∷ h) l.reached) (sym keys_same) turned)
    (λ must. inl (elim (cases_lt 0 (flow_depth h)) [
      | inl deep ↦ (ap (λ q. key_at q 0) keys_same, lower 0 l h deep)
      | inr low ↦ let bad = sym (ap (λ (q : KeyStack). q.required) keys_same ∙ idle (omega (arith, low))) ∙ must in cc
    ]))
    (omega (arith, ap (λ (q : KeyStack). q.passed) keys_same)))
