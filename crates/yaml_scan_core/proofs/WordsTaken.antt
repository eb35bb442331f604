-- What a lexeme that carries a text leaves after it.
use Rattle.std.proofs.Common.{◌≡◌, ℕ, ◌+◌, ◌-◌, ◌<◌, ◌≤◌, Bool, true, false, cond, ltb, eqb, ◌&&◌, not, inl, inr, List, ◌∷◌, length, Option, Some, None, Result, Ok, Err, refl, sym, ap, subst, ◌∙◌, arith}
use Rattle.yaml_scan_core.proofs.Words.{and_parts, cases_Bool, cases_lt, nat_tests, yaml_mark_t, mark_at, line_at, Wrong, Kind, Lexeme, candidate, reached, flow_depth, depth_after, is_end, is_fresh, is_start, is_value, allowed_behind, cancels, allows_key, key_allowed, may_be_key, has, found_by, WordText, lexeme_at, Upto, Next, Read, Fails, missed, next, colon_missing, AreKeys, AreKeysTo, KeyStack, SimpleKey, inner, key_at, key_mark, stack_of, given_up, saved, late, index_in}
use Rattle.yaml_scan_history.specs.Stepwise.{tested, no_colon as comes_no_colon}
use Rattle.yaml_scan_core.specs.Rows.{RowView}
use Rattle.yaml_scan_history.specs.Words.{directed}
use Rattle.yaml_scan_history.specs.Directives.{DirectiveText, directive_at}
use Rattle.yaml_scan_history.specs.declared.kind.Kind.TheVariants as reads
use Rattle.yaml_scan_core.specs.declared.fault.Fault.{Fault}
use Rattle.yaml_scan_core.specs.declared.fault.Refused.{Refused}
use Rattle.yaml_scan_core.specs.declared.row.Row.{Row}
use Rattle.yaml_scan_core.specs.declared.keys.Keys.{Keys}
use Rattle.yaml_scan_core.specs.declared.scanner.Scanner.{Scanner}
use Rattle.yaml_scan_core.specs.declared.word.Word.{Word}
use Rattle.yaml_scan_core.specs.Rows.{HasRoom, row_of}
use Rattle.yaml_scan_core.specs.Shown.{place_mark}
use Rattle.yaml_scan_core.specs.Scanning.{Holds, IsTold, Reads, StandsAs, Takes, Tests, candidate_in, fault_in, fixed_of, no_colon, read_by, required_in_column}
use Rattle.yaml_scan_core.specs.Texts.{ReadsWord, StoresMore, TellsWrong, is_key_word, is_line_word, is_scalar, put, word_in}
use Rattle.yaml_scan_core.proofs.CandidatesLemmas.{inner_is, top_saved, upto_on}
use Rattle.yaml_scan_core.proofs.ComesLemmas.{comes_word, lost_at}
use Rattle.yaml_scan_core.proofs.StandLemmas.{fails_test, passes_test}
use Rattle.yaml_scan_core.proofs.ReadLemmas.{gap_of}
use Rattle.yaml_scan_core.proofs.PlacesLemmas.{mark_of_place, place_column}
use Rattle.yaml_scan_core.proofs.TakesLemmas.{reads_err}
use Rattle.yaml_scan_core.proofs.KindsLemmas.{cancelling_takes, goes_leaves, goes_takes, goes_upto, not_wrong, put_at, stands_at, stands_here, taken_is}
use Rattle.yaml_scan_core.proofs.SavesLemmas.{required_is, saves, saves_keys}
use Rattle.yaml_scan_core.proofs.TextsLemmas.{ReadThere, behind_word, stored_falls, there_text, word_goes, word_same, word_told}

-- ---- the candidate

make : Bool → ℕ → ℕ → ℕ → SimpleKey
make possible number index column = record { possible = possible; number = number; index = index; column = column }

pub candidate_same : (old mid : Scanner) → StoresMore old mid → candidate_in mid ≡ candidate_in old
unfolding make
candidate_same old mid s =
    let count : mid.row.dropped + length mid.row.lexemes.items ≡ old.row.dropped + length old.row.lexemes.items = ap (λ (q : RowView). q.dropped + length q.lexemes) s.row in
    ap (λ (x : Scanner). make x.key_allowed (mid.row.dropped + length mid.row.lexemes.items) x.at (x.at - x.line - x.wide)) s.rest
    ∙ ap (λ n. make old.key_allowed n old.at (old.at - old.line - old.wide)) count

-- what is made of the keys
abbrev saves_with : KeyStack → ℕ → SimpleKey → KeyStack
saves_with s margin key = cond key.possible (saved key (not (ltb 0 (inner s)) && eqb margin (key.column + 1)) s) s

pub saves_put : (old mid tested put : Scanner) (key : SimpleKey) (t : KeyStack) → StoresMore old mid
    → tested ≡ mid → put ≡ record tested { row = put.row } → key ≡ candidate_in mid
    → t ≡ cond key.possible (saved key (required_in_column key.column put) (stack_of put.keys)) (stack_of put.keys)
    → t ≡ saves old
saves_put old mid tested put key t s e3 e4 is e =
    e ∙ ap (λ (x : Scanner). saves_with (stack_of x.keys) x.levels.margin key) e4
    ∙ ap (λ (x : Scanner). saves_with (stack_of x.keys) x.levels.margin key) e3
    ∙ ap (λ (x : Scanner). saves_with (stack_of x.keys) x.levels.margin key) s.rest
    ∙ ap (λ (y : SimpleKey). saves_with (stack_of old.keys) old.levels.margin y) (is ∙ candidate_same old mid s)

-- ---- whether it is fresh at its end

late_fresh : (m q : yaml_mark_t) → late (Some m) q ≡ None → is_fresh m q ≡ true
late_fresh m q e = elim (cases_Bool (is_fresh m q)) [ inl y ↦ y | inr n ↦ let bad = rw n at e in cc ]

late_stale : (m q s : yaml_mark_t) → late (Some m) q ≡ Some s → (is_fresh m q ≡ false) × (s ≡ m)
late_stale m q s e = elim (cases_Bool (is_fresh m q)) [ inl y ↦ let bad = rw y at e in cc | inr n ↦ (n, grind (arith, n, e)) ]

-- the test of a new candidate
abbrev pub fresh_test : Bool → List ℕ → SimpleKey → ℕ → Option ℕ
fresh_test b text key end = cond b (index_in (late (Some (key_mark text key)) (mark_at text end))) None

fresh_by : (b : Bool) (text : List ℕ) (key : SimpleKey) (end : ℕ) (f : Option Fault) (u : Unit {0})
    → b ≡ true → Tests (fresh_test b text key end) end f (Ok u)
    → is_fresh (key_mark text key) (mark_at text end) ≡ true
fresh_by true text key end f u e t = late_fresh (key_mark text key) (mark_at text end) (passes_test (late (Some (key_mark text key)) (mark_at text end)) end f u t)
fresh_by false text key end f u e t = cc

stale_by : (b : Bool) (text : List ℕ) (key : SimpleKey) (end : ℕ) (f : Option Fault) (d : Refused)
    → Tests (fresh_test b text key end) end f (Err d)
    → (b ≡ true) × (is_fresh (key_mark text key) (mark_at text end) ≡ false) × (f ≡ Some (no_colon key.index end))
stale_by false text key end f d t = absurd t
stale_by true text key end f d t =
    let (start, some, is) = fails_test (late (Some (key_mark text key)) (mark_at text end)) end f d t in
    let (stale, same) = late_stale (key_mark text key) (mark_at text end) start some in
    (refl, stale, is ∙ ap (λ (m : yaml_mark_t). Some (no_colon m.index end)) same)

-- where the key starts
key_start : (k : Kind) (x : WordText) (s : Scanner) (h : List Lexeme) (n : ℕ) → StandsAs k s h n
    → key_mark s.text.now (candidate_in s) ≡ (put_at k x s.text.now h).start
key_start k x s h n a =
    ap (λ c. record { index = s.at; line = line_at s.text.now s.at; column = c }) (place_column s.text.now s.at s.line s.wide a.behind.place)
    ∙ sym (stands_here k s h n a)

-- its kind
pub record KeyWord (k : Kind) (h : List Lexeme) : Type 0 where
  pub may : may_be_key k ≡ true
  pub idle : cancels k ≡ false
  pub deep : depth_after k (flow_depth h) ≡ flow_depth h
  pub allows : (block found : Bool) → allows_key k block found ≡ false

pub keyed_takes : (k : Kind) (old mid : Scanner) (h : List Lexeme) (n : ℕ) (w : Word) (x : WordText)
    (row : Row) (keys : Keys) (f : Option Fault) (u : Unit {0}) → ReadThere k old mid h n w x
    → KeyWord k h → mid.fault ≡ old.fault → row_of row ≡ put w (row_of mid.row) → HasRoom row
    → stack_of keys ≡ saves old
    → Tests (fresh_test (old.key_allowed && required_in_column (candidate_in old).column old) old.text.now (candidate_in old) w.at) w.at f (Ok u)
    → Takes old (behind_word mid w row keys w.broke) h
keyed_takes k old mid h n w x row keys f u r p calm is room kept tests =
    let text = old.text.now in
    let l = put_at k x text h in
    let a = r.stands in
    let new = behind_word mid w row keys w.broke in
    let allows : w.broke ≡ key_allowed (l ∷ h) = sym (rw (p.allows (eqb (flow_depth h) 0) (has (found_by l h))) (sym r.has.broke)) in
    let goes = word_goes k old mid h n w x row keys w.broke r calm is room allows in
    let (further, forward) = goes_upto k x old new h n a goes in
    let on : Upto (reached h) l.reached = upto_on (reached h) l.start l.reached further forward in
    let start = key_start k x old h n a in
    let fresh_one : old.key_allowed ≡ true → l.required ≡ true → is_fresh l.start l.reached ≡ true = λ may must.
    let both : (old.key_allowed && required_in_column (candidate_in old).column old) ≡ true = rw may (sym (required_is k x old h n a p.may may) ∙ must) in
    let e = fresh_by (old.key_allowed && required_in_column (candidate_in old).column old) text (candidate_in old) w.at f u both tests in
    ap (λ m. is_fresh m l.reached) (sym start) ∙ ap (λ q. is_fresh (key_mark text (candidate_in old)) (mark_at text q)) (sym r.has.at) ∙ e in
    let sv = saves_keys k x old h n a p.may p.idle on fresh_one in
    goes_takes k x old new h n a r.flat (not_wrong k text h r.starts) r.lost (word_same k old h n a r.flat ∙ r.word)
    (goes_leaves k x old new h n a goes r.flat
    (subst (λ q. AreKeys text q (l ∷ h) l.reached) (sym kept) (subst (λ d. AreKeysTo d text (saves old) (l ∷ h) l.reached) (sym p.deep) sv.keys))
    (λ must. elim (sv.outer (ap (λ (q : KeyStack). q.required) (sym kept) ∙ must)) [
      | inl (key, stays) ↦ inl (ap (λ q. key_at q 0) kept ∙ key, stays)
      | inr none ↦ inr none
    ])
    (omega (arith, ap (λ (q : KeyStack). q.passed) kept, sv.passed)))

abbrev test_of : Option yaml_mark_t → Lexeme → Next
test_of o l = elim o as (λ _. Next) [ Some start ↦ comes_no_colon start l.reached | None ↦ Read l ]

-- a required one that is stale at its end
pub stale_told : (k : Kind) (old mid : Scanner) (h : List Lexeme) (n : ℕ) (w : Word) (x : WordText)
    (f : Option Fault) (d : Refused) → ReadThere k old mid h n w x → KeyWord k h
    → Tests (fresh_test (old.key_allowed && required_in_column (candidate_in old).column old) old.text.now (candidate_in old) w.at) w.at f (Err d)
    → IsTold old.text.now f (next old.text.now h)
stale_told k old mid h n w x f d r p tests =
    let text = old.text.now in
    let l = put_at k x text h in
    let a = r.stands in
    let key = candidate_in old in
    let (both, stale, is) = stale_by (old.key_allowed && required_in_column key.column old) text key w.at f d tests in
    let (may, must) = and_parts old.key_allowed (required_in_column key.column old) both in
    let required : l.required ≡ true = required_is k x old h n a p.may may ∙ must in
    let (flat_here, same_col) = and_parts (not (ltb 0 (inner (stack_of old.keys)))) (eqb old.levels.margin (key.column + 1)) must in
    let flat : flow_depth h ≡ 0 = elim (cases_lt 0 (flow_depth h)) [
      | inr low ↦ omega (arith, low)
      | inl deep ↦ let e = inner_is (flow_depth h) (stack_of old.keys) a.behind.holds.keys.long in absurd (some_not (inner (stack_of old.keys)) flat_here (omega (arith, e, deep)))
    ] in
    let keeps : l.saved ≡ true = rw p.may (only (allowed_behind h (gap_of text h)) (sym a.behind.allowed ∙ may)) in
    let start = key_start k x old h n a in
    let reach : mark_at text w.at ≡ l.reached = ap (λ q. mark_at text q) r.has.at in
    let gone : is_fresh l.start l.reached ≡ false = ap (λ m. is_fresh m l.reached) (sym start) ∙ ap (λ q. is_fresh (key_mark text key) q) (sym reach) ∙ stale in
    let top : candidate 0 (l ∷ h) ≡ Some (record { number = length h; lexeme = l }) = ap (λ z. candidate z (l ∷ h)) (sym flat) ∙ top_saved l h keeps in
    let late_one : missed (candidate 0 (l ∷ h)) l.reached ≡ Some l.start = ap (λ o. missed o l.reached) top ∙ missed_it l (length h) required gone in
    let comes : next text h ≡ tested l h = comes_word k text (read_by old) h x (stands_at k old h n a) (not_wrong k text h r.starts) r.lost (word_same k old h n a r.flat ∙ r.word) ∙ ap (λ y. tested y h) (taken_is k x text h r.flat) in
    let fails : tested l h ≡ comes_no_colon l.start l.reached = ap (λ o. test_of o l) late_one in
    let inside : w.at ≤ length text = subst (λ (t : List ℕ). w.at ≤ length t) (there_text old mid r.stores) r.has.place.inside in
    let m1 : place_mark text key.index ≡ l.start = mark_of_place text key.index a.behind.place.inside ∙ sym (stands_here k old h n a) in
    let m2 : place_mark text w.at ≡ l.reached = mark_of_place text w.at inside ∙ reach in
    let told : colon_missing l.start l.reached ≡ fault_in text (no_colon key.index w.at) = ap (λ m. colon_missing m l.reached) (sym m1) ∙ ap (λ m. colon_missing (place_mark text key.index) m) (sym m2) in
    rw is (comes ∙ fails ∙ ap (λ y. Fails y) told)
  where
    only : (b : Bool) → b ≡ true → (b && true) ≡ true
    only true e = refl
    only false e = cc

    some_not : (d : ℕ) → not (ltb 0 d) ≡ true → 0 < d → ⊥
    some_not d e lt = grind (arith, nat_tests)

    missed_it : (l : Lexeme) (m : ℕ) → l.required ≡ true → is_fresh l.start l.reached ≡ false
        → missed (Some (record { number = m; lexeme = l })) l.reached ≡ Some l.start
    missed_it l m must gone = rw (must, gone) refl

-- a block scalar or a directive
pub lined_takes : (k : Kind) (old mid : Scanner) (h : List Lexeme) (n : ℕ) (w : Word) (x : WordText)
    (row : Row) (keys : Keys) (allowed : Bool) → ReadThere k old mid h n w x
    → cancels k ≡ true → may_be_key k ≡ false → depth_after k (flow_depth h) ≡ flow_depth h
    → allowed ≡ key_allowed (put_at k x old.text.now h ∷ h)
    → mid.fault ≡ old.fault → row_of row ≡ put w (row_of mid.row) → HasRoom row
    → stack_of keys ≡ given_up (stack_of mid.keys)
    → Takes old (behind_word mid w row keys allowed) h
lined_takes k old mid h n w x row keys allowed r stops idle deep allows calm is room given =
    cancelling_takes k x old (behind_word mid w row keys allowed) h n r.stands stops idle r.flat deep (not_wrong k old.text.now h r.starts) r.lost
    (word_same k old h n r.stands r.flat ∙ r.word) (word_goes k old mid h n w x row keys allowed r calm is room allows)
    (given ∙ ap (λ (s : Scanner). given_up (stack_of s.keys)) r.stores.rest)

-- ---- kinds

pub key_kind : (k : Kind) (h : List Lexeme) → is_key_word k ≡ true → KeyWord k h
key_kind reads.Alias h e = record { may = refl; idle = refl; deep = refl; allows = λ block found. refl }
key_kind reads.Anchor h e = record { may = refl; idle = refl; deep = refl; allows = λ block found. refl }
key_kind reads.Tag h e = record { may = refl; idle = refl; deep = refl; allows = λ block found. refl }
key_kind reads.SingleQuoted h e = record { may = refl; idle = refl; deep = refl; allows = λ block found. refl }
key_kind reads.DoubleQuoted h e = record { may = refl; idle = refl; deep = refl; allows = λ block found. refl }
key_kind reads.Plain h e = record { may = refl; idle = refl; deep = refl; allows = λ block found. refl }
key_kind _ h e = cc

-- what else a lexeme with a text does
pub record TextKind (k : Kind) : Type 0 where
  pub flat : is_end k ≡ false
  pub other : k ≡ reads.StreamStart → ⊥
  pub colon : is_value k ≡ false
  pub starts : is_start k ≡ false

pub key_text : (k : Kind) → is_key_word k ≡ true → TextKind k
key_text reads.Alias e = record { flat = refl; other = λ o. cc; colon = refl; starts = refl }
key_text reads.Anchor e = record { flat = refl; other = λ o. cc; colon = refl; starts = refl }
key_text reads.Tag e = record { flat = refl; other = λ o. cc; colon = refl; starts = refl }
key_text reads.SingleQuoted e = record { flat = refl; other = λ o. cc; colon = refl; starts = refl }
key_text reads.DoubleQuoted e = record { flat = refl; other = λ o. cc; colon = refl; starts = refl }
key_text reads.Plain e = record { flat = refl; other = λ o. cc; colon = refl; starts = refl }
key_text _ e = cc

pub line_text : (k : Kind) → is_line_word k ≡ true → TextKind k
line_text reads.Directive e = record { flat = refl; other = λ o. cc; colon = refl; starts = refl }
line_text reads.Literal e = record { flat = refl; other = λ o. cc; colon = refl; starts = refl }
line_text reads.Folded e = record { flat = refl; other = λ o. cc; colon = refl; starts = refl }
line_text _ e = cc

pub record LineKind (k : Kind) (h : List Lexeme) : Type 0 where
  pub stops : cancels k ≡ true
  pub idle : may_be_key k ≡ false
  pub deep : depth_after k (flow_depth h) ≡ flow_depth h

pub line_kind : (k : Kind) (h : List Lexeme) → is_line_word k ≡ true → LineKind k h
line_kind reads.Directive h e = record { stops = refl; idle = refl; deep = refl }
line_kind reads.Literal h e = record { stops = refl; idle = refl; deep = refl }
line_kind reads.Folded h e = record { stops = refl; idle = refl; deep = refl }
line_kind _ h e = cc

directive_calm : (r : Result DirectiveText Wrong) (x : WordText) → directed r ≡ Ok x
    → x.broke ≡ false
directive_calm (Ok d) x e = cc
directive_calm (Err w) x e = cc

pub line_allows : (k : Kind) (s : Scanner) (h : List Lexeme) (x : WordText) → is_line_word k ≡ true
    → word_in k s ≡ Ok x → is_scalar k ≡ key_allowed (put_at k x s.text.now h ∷ h)
unfolding lexeme_at
line_allows reads.Directive s h x e is = sym (directive_calm (directive_at s.text.now s.at) x is)
line_allows reads.Literal s h x e is = refl
line_allows reads.Folded s h x e is = refl
line_allows _ s h x e is = cc

-- ---- the calls

-- what was read
pub there : (k : Kind) (old first mid : Scanner) (h : List Lexeme) (n : ℕ) (w : Word)
    → first ≡ old → StandsAs k old h n → TextKind k → lost_at k old.text.now h ≡ None
    → StoresMore first mid → ReadsWord k n first mid (Ok w)
    → (x : WordText) × ReadThere k old mid h n w x × (mid.fault ≡ old.fault)
there k old first mid h n w same a t lost stores (x, is, has_it, calm) = (
  x,
  record {
    stands = a;
    flat = t.flat;
    other = t.other;
    colon = t.colon;
    starts = t.starts;
    lost = lost;
    stores = subst (λ m. StoresMore m mid) same stores;
    word = ap (λ (s : Scanner). word_in k s) (sym same) ∙ is;
    has = has_it;
  },
  calm ∙ ap (λ (s : Scanner). s.fault) same,
)

-- what is wrong with the text
pub word_falls : (k : Kind) (old first mid : Scanner) (h : List Lexeme) (n : ℕ)
    (r : Result (Unit {0}) Refused) (e d : Refused) → first ≡ old → StandsAs k old h n → TextKind k
    → lost_at k old.text.now h ≡ None → StoresMore first mid → ReadsWord k n first mid (Err d)
    → r ≡ Err e → Reads old mid h r
word_falls k old first mid h n r e d same a t lost stores tells is =
    let s = subst (λ m. StoresMore m mid) same stores in
    let told : TellsWrong old.text.now old.at mid.fault (word_in k old) = subst (λ (x : Scanner). TellsWrong x.text.now x.at mid.fault (word_in k x)) same tells in
    reads_err old mid h r e is (stored_falls old mid mid h a.behind.holds s refl refl refl refl (s.room a.behind.holds.room)
    (word_told k old h n mid.fault (word_in k old) a t.flat (not_wrong k old.text.now h t.starts) lost refl told) refl)

-- memory ran out as it was put
pub put_word_falls : (old mid tested put : Scanner) (h : List Lexeme)
    (r : Result (Unit {0}) Refused)
    (e : Refused) → Holds old h → StoresMore old mid → mid.fault ≡ old.fault → tested ≡ mid
    → put ≡ record tested { row = put.row } → row_of put.row ≡ row_of tested.row
    → (HasRoom tested.row → HasRoom put.row) → r ≡ Err e → Reads old put h r
put_word_falls old mid tested put h r e o s calm same rest row room is =
    let room_before : HasRoom tested.row = subst (λ (x : Scanner). HasRoom x.row) (sym same) (s.room o.room) in
    let fault : put.fault ≡ None = ap (λ (x : Scanner). x.fault) rest ∙ ap (λ (x : Scanner). x.fault) same ∙ calm ∙ o.fault in
    reads_err old put h r e is (stored_falls old mid put h o s
    (ap (λ (x : Scanner). x.text.now) rest ∙ ap (λ (x : Scanner). x.text.now) same)
    (ap (λ (x : Scanner). x.encoding) rest ∙ ap (λ (x : Scanner). x.encoding) same)
    (ap (λ (x : Scanner). stack_of x.keys) rest ∙ ap (λ (x : Scanner). stack_of x.keys) same)
    (row ∙ ap (λ (x : Scanner). row_of x.row) same) (room room_before)
    (subst (λ f. IsTold old.text.now f (next old.text.now h)) (sym fault) tt)
    (ap (λ (x : Scanner). fixed_of x) rest ∙ ap (λ (x : Scanner). fixed_of x) same))

-- the code's test of a new candidate
pub test_moved : (old mid : Scanner) (key : SimpleKey) (text : List ℕ) (end : ℕ)
    → StoresMore old mid
    → key ≡ candidate_in mid
    → fresh_test (key.possible && required_in_column key.column mid) text key end
    ≡ fresh_test (old.key_allowed && required_in_column (candidate_in old).column old) text (candidate_in old) end
test_moved old mid key text end s is =
    ap (λ (x : Scanner). fresh_test (key.possible && required_in_column key.column x) text key end) s.rest
    ∙ ap (λ (y : SimpleKey). fresh_test (y.possible && required_in_column y.column old) text y end) (is ∙ candidate_same old mid s)

pub fresh_falls : (k : Kind) (old mid new : Scanner) (h : List Lexeme) (n : ℕ) (w : Word)
    (x : WordText)
    (key : SimpleKey) (r : Result (Unit {0}) Refused) (e d : Refused) → ReadThere k old mid h n w x
    → KeyWord k h → key ≡ candidate_in mid → new ≡ record mid { fault = new.fault }
    → Tests (fresh_test (key.possible && required_in_column key.column mid) old.text.now key w.at) w.at new.fault (Err d)
    → r ≡ Err e → Reads old new h r
fresh_falls k old mid new h n w x key r e d t p is same tests err =
    let o = t.stands.behind.holds in
    let s = t.stores in
    let moved = subst (λ o. Tests o w.at new.fault (Err d)) (test_moved old mid key old.text.now w.at s is) tests in
    reads_err old new h r e err (stored_falls old mid new h o s (ap (λ (y : Scanner). y.text.now) same) (ap (λ (y : Scanner). y.encoding) same)
    (ap (λ (y : Scanner). stack_of y.keys) same) (ap (λ (y : Scanner). row_of y.row) same)
    (subst (λ (y : Scanner). HasRoom y.row) (sym same) (s.room o.room))
    (stale_told k old mid h n w x new.fault d t p moved) (ap (λ (y : Scanner). fixed_of y) same))
