-- Levels that close and open, what is after lexemes, and what is known after one more.
use Rattle.std.proofs.Common.{◌≡◌, ◌⊎◌, ℕ, ◌-◌, ◌<◌, ◌≤◌, nat_lt, nat_le, cond, Bool, true, false, List, [], ◌∷◌, ◌++◌, length, refl, ap, ◌∙◌, inl, inr, arith, ◌&&◌, ◌||◌, not, Option, Some, None, Ok, ◌+◌, ◌==◌, sym, subst}
use Rattle.std.specs.Prelude.{filter}
use Rattle.yaml_scan_laws.proofs.LevelWords.{cases_Bool, nat_tests, Kind, is_outside, indent, left_by, opened, margin_at, Rises, InsideLeaves, RightLeaves, LeftCloses, yaml_mark_t, column_at, mark_at, Gap, Lexeme, cancels, is_value, is_start, is_end, flow_depth, reached, ended, Candidate, candidate, fresh, is_fresh, has, open_levels, WordText, kind_at, lexeme_at, Next, Read, begun, finished, gap_behind, allowed_behind, misplaced, missed, lost_by, level_in, next, tested, behind, Came, IsFree, InTime, read_at, MetIsRead, not-true, and_parts, Entry, Opens, depth_after, may_be_key, opens_at, start_of, level_of, marked, finished_tokens, SpelledText, body_by, Says, Front, Idle, Meets, entry, IsPlaced, stays_level, WordIsRead, MarkIsRead, OuterIsRead}
use Rattle.yaml_scan_history.proofs.StepwiseLemmas.{stepwise}
use Rattle.yaml_scan_laws.proofs.NextForward.{placed_same}
use Rattle.yaml_scan_history.specs.declared.lexeme.Opens.TheVariants as opening
use Rattle.yaml_scan_laws.proofs.WordForward.{FitsAny, kind_fits}

low : (b c : ℕ) (cs : List ℕ) → Rises b (c ∷ cs) → c ≤ indent (c ∷ cs)
unfolding Rises indent
low b c [] r = omega arith
low b c (d ∷ cs) (e, (f, r)) = let g = low c d cs (f, r) in omega (arith, f, g)

pub rises_front : (b : ℕ) (ls more : List ℕ) → Rises b (ls ++ more) → Rises b ls
unfolding Rises
rises_front b [] more r = tt
rises_front b (c ∷ ls) more (e, r) = (e, rises_front c ls more r)

-- a bound that is kept
pub passes : (x m : ℕ) → x ≤ m → nat_le x m ≡ true
passes x m e = grind (arith, nat_tests)

-- a bound that is passed
pub stops : (x m : ℕ) → m < x → nat_le x m ≡ false
stops x m e = grind (arith, nat_tests)

weaker : (a b : ℕ) (ms : List ℕ) → a ≤ b → Rises b ms → Rises a ms
unfolding Rises
weaker a b [] e r = tt
weaker a b (m ∷ ms) e (f, r) = (omega (arith, e, f), r)

-- all that rise from m on are above it
pub none_passes : (m : ℕ) (ms : List ℕ) → Rises m ms → filter (λ x. nat_le x m) ms ≡ []
unfolding Rises
none_passes m [] r = refl
none_passes m (x ∷ xs) (e, r) = rw (stops x m e) (none_passes m xs (weaker m x xs (omega (arith, e)) r))

pub cuts : (m b : ℕ) (ls more : List ℕ) → Rises b (ls ++ more) → indent ls ≤ m → Rises m more
    → filter (λ x. nat_le x m) (ls ++ more) ≡ ls
unfolding Rises indent
cuts m b [] more r e above = none_passes m more above
cuts m b (c ∷ []) more (f, r) e above = rw (passes c m e) (ap (λ (xs : List ℕ). c ∷ xs) (none_passes m more above))
cuts m b (c ∷ d ∷ ls) more (f, r) e above =
    let under : c ≤ m = omega (arith, low b c (d ∷ ls) (f, rises_front c (d ∷ ls) more r), e) in
    rw (passes c m under) (ap (λ (xs : List ℕ). c ∷ xs) (cuts m c (d ∷ ls) more r e above))

rises_all : (m b : ℕ) (ls : List ℕ) → Rises b ls → indent ls ≤ m → filter (λ x. nat_le x m) ls ≡ ls
unfolding Rises indent
rises_all m b [] r e = refl
rises_all m b (c ∷ []) (f, r) e = rw (passes c m e) refl
rises_all m b (c ∷ d ∷ ls) (f, r) e =
    let under : c ≤ m = omega (arith, low b c (d ∷ ls) (f, r), e) in
    rw (passes c m under) (ap (λ (xs : List ℕ). c ∷ xs) (rises_all m c (d ∷ ls) r e))

left_block : (k : Kind) (c : ℕ) (ms : List ℕ) → is_outside k ≡ false
    → left_by k 0 c ms ≡ filter (λ x. nat_le x (margin_at c)) ms
left_block k c ms e = rw e refl

pub left_outside : (k : Kind) (c : ℕ) (ms : List ℕ) → is_outside k ≡ true → Rises 0 ms
    → left_by k 0 c ms ≡ []
left_outside k c ms e r = rw e (none_passes 0 ms r)

more_length : (ls more : List ℕ) → length (ls ++ more) - length ls ≡ length more
more_length [] more = omega arith
more_length (c ∷ ls) more = let e = more_length ls more in omega (arith, e)

pub inside_leaves : InsideLeaves
inside_leaves d c ms r e = record { left = λ k out. (rw e refl); closed = omega arith; rises = r }

pub right_leaves : RightLeaves
right_leaves c ms r e = record { left = λ k out. left_block k c ms out ∙ rises_all (margin_at c) 0 ms r e; closed = omega arith; rises = r }

pub left_closes : LeftCloses
left_closes c ls more r e above = grind (arith, nat_tests, left_block, cuts, more_length, rises_front)

push_rises : (b : ℕ) (ls : List ℕ) (m : ℕ) → Rises b ls → b < m → indent ls < m
    → Rises b (ls ++ m ∷ [])
unfolding Rises indent
push_rises b [] m r e f = (e, tt)
push_rises b (c ∷ []) m (g, r) e f = (g, (f, tt))
push_rises b (c ∷ d ∷ ls) m (g, r) e f =
    (g, push_rises c (d ∷ ls) m r (omega (arith, low b c (d ∷ ls) (g, r), f)) f)

pub opened_rises : (may : Bool) (m : ℕ) (ls : List ℕ) → Rises 0 ls → Rises 0 (opened may m ls)
opened_rises may m ls r = grind (arith, nat_tests, push_rises)

right_by : (deep out : Bool) (k : Kind) (c : ℕ) (ms : List ℕ) → out ≡ false → Rises 0 ms
    → (deep ≡ true) ⊎ (indent ms ≤ c)
    → cond deep ms (filter (λ x. nat_le x (cond out 0 (margin_at c))) ms) ≡ ms
right_by true out k c ms e r i = refl
right_by false false k c ms e r (inl i) = absurd (cc)
right_by false false k c ms e r (inr i) = rises_all (margin_at c) 0 ms r (omega (arith, i))
right_by false true k c ms e r i = absurd (cc)

pub stays_right : (k : Kind) (d c : ℕ) (ms : List ℕ) → is_outside k ≡ false → Rises 0 ms
    → (nat_lt 0 d ≡ true) ⊎ (indent ms ≤ c) → left_by k d c ms ≡ ms
stays_right k d c ms e r i = right_by (nat_lt 0 d) (is_outside k) k c ms e r i

pub unless_so : (b : Bool) (x y : Next) → b ≡ false → cond b x y ≡ y
unless_so b x y e = grind (arith, nat_tests)

-- ---- candidates in time

missed_free : (c : Candidate) (m : yaml_mark_t)
    → (c.lexeme.required ≡ false) ⊎ (is_fresh c.lexeme.start m ≡ true) → missed (Some c) m ≡ None
missed_free c m h2 = grind (arith, nat_tests, cases_Bool)

-- a candidate that is in time is not missed
pub missed_none : (o : Option Candidate) (m : yaml_mark_t) → InTime o m → missed o m ≡ None
missed_none o m t = grind (arith, nat_tests, missed_free)

pub fresh_in_time : (o : Option Candidate) (at m : yaml_mark_t) → InTime o m
    → missed (fresh o at) m ≡ None
fresh_in_time o at m t = grind (arith, nat_tests, cases_Bool, missed_free)

lost_free : (saved cancel : Bool) (required : Bool) (start : yaml_mark_t)
    → ((saved || cancel) ≡ true → required ≡ false)
    → cond (required && (saved || cancel)) (Some start) None ≡ None
lost_free saved cancel required start f = elim (cases_Bool (saved || cancel)) [ inl x ↦ let e = f x in rw e refl | inr x ↦ elim (cases_Bool required) [ inl r ↦ rw (r, x) refl | inr r ↦ rw r refl ] ]

pub lost_none : (l : Lexeme) (o : Option Candidate) (at : yaml_mark_t)
    → ((l.saved || (cancels l.kind && not (is_value l.kind))) ≡ true → IsFree o)
    → lost_by l (fresh o at) ≡ None
lost_none l o at f = grind (arith, nat_tests, lost_free)

-- ---- places

in_place : (flow a start taken : Bool)
    → (start ≡ false) ⊎ ((flow ≡ true) ⊎ ((a ≡ true) ⊎ (taken ≡ true)))
    → ((not flow && not a) && (start && not taken)) ≡ false
in_place flow a start taken p = grind (arith, nat_tests)

-- ---- the step

finished_is : (text : List ℕ) (l : Lexeme) (w : WordText) → is_end l.kind ≡ false
    → finished text l w ≡ record l {
      end = mark_at text w.end;
      reached = mark_at text w.reached;
      broke = w.broke;
    }
finished_is text l w e = rw e refl

pub tested_read : (l : Lexeme) (h : List Lexeme) → InTime (candidate 0 (l ∷ h)) l.reached
    → tested l h ≡ Read l
tested_read l h u = grind (arith, nat_tests, missed_none)

-- after a gap that ends at a place, where a key may begin or not
of_place : (text : List ℕ) (gap : Gap) (h : List Lexeme) (k : Kind) (q : ℕ) (a : Bool)
    (w : WordText) → gap.place ≡ q → allowed_behind h gap ≡ a → is_end k ≡ false
    → let m = mark_at text q in let b = begun k m a h in let l = read_at text h k q a w in
    kind_at (nat_lt 0 (flow_depth h)) text q ≡ Some k
    → lexeme_at k (nat_lt 0 (flow_depth h)) (level_in k (column_at text q) h) text q ≡ Ok w
    → misplaced k m a h ≡ false
    → missed (fresh (candidate 0 h) (reached h)) m ≡ None
    → lost_by b (fresh (candidate (flow_depth h) h) m) ≡ None
    → InTime (candidate 0 (l ∷ h)) l.reached
    → behind text gap h ≡ Read l
of_place text gap h k q a w place allowed goes kind said placed_so none lost time = grind (arith, nat_tests, unless_so, placed_same, finished_is, tested_read)

pub came_some : (text : List ℕ) (h : List Lexeme) → Came text h → ended h ≡ false
    → next text h ≡ behind text (gap_behind text h) h
unfolding Came next
came_some text h came e = grind (arith, nat_tests, unless_so, stepwise)

pub met_is_read : MetIsRead
met_is_read text h d ms es k q a w f goes meets is_placed due free time = grind (arith, nat_tests, in_place, lost_none, came_some, of_place, fresh_in_time)

-- ---- kinds

pub goes_on : (k : Kind) → is_outside k ≡ false → is_end k ≡ false
goes_on k e = grind (arith, nat_tests)

pub start_no_key : (k : Kind) → is_start k ≡ true → may_be_key k ≡ false
start_no_key k e = grind (arith, nat_tests)

pub start_inside : (k : Kind) → is_start k ≡ true → is_outside k ≡ false
start_inside k e = grind (arith, nat_tests)

pub start_flat : (k : Kind) (d : ℕ) → is_start k ≡ true → depth_after k d ≡ d
start_flat k d e = grind (arith, nat_tests)

record IsOuter (k : Kind) : Type 0 where
  out : is_outside k ≡ true
  goes : is_end k ≡ false
  start : is_start k ≡ false
  value : is_value k ≡ false
  key : may_be_key k ≡ false
  flat : depth_after k 0 ≡ 0

outer_kind : (k : Kind) → (is_outside k && not (is_end k)) ≡ true → IsOuter k
outer_kind k e = grind (arith, nat_tests)

-- ---- candidates

free_more : (same saved cancel below : Bool) (l : Lexeme) (n : ℕ) (rest : Option Candidate)
    → l.required ≡ false → IsFree rest
    → let one : Option Candidate = Some record { number = n; lexeme = l } in
    IsFree (cond same (cond saved one (cond cancel None rest)) (cond below None rest))
free_more same saved cancel below l n rest e r = grind (arith, nat_tests)

-- a lexeme more that requires none
pub free_push : (l : Lexeme) (h : List Lexeme) (d : ℕ) → IsFree (candidate d h) → l.required ≡ false
    → IsFree (candidate d (l ∷ h))
unfolding candidate
free_push l h d r e = free_more (l.depth == d) l.saved (cancels l.kind) (nat_lt l.depth d) l (length h) (candidate d h) e r

-- what is free is in time
pub free_in_time : (o : Option Candidate) (m : yaml_mark_t) → IsFree o → InTime o m
free_in_time o m f = grind (arith, nat_tests)

pub required_not : (x : Bool) (d n c : ℕ) → (nat_lt 0 d ≡ true) ⊎ (n ≤ c)
    → (x && (d == 0 && n == c + 1)) ≡ false
required_not x d n c e = grind (arith, nat_tests)

no_key : (a may more : Bool) → may ≡ false → ((a && may) && more) ≡ false
no_key a may more e = grind (arith, nat_tests)

-- ---- one lexeme more

pub came_push : (text : List ℕ) (l : Lexeme) (h : List Lexeme) → Came text h → next text h ≡ Read l
    → Came text (l ∷ h)
unfolding Came
came_push text l h came read = grind (arith, nat_tests)

-- the level that a lexeme opens, by the candidate that it finds
abbrev pub opens_by : Option Candidate → Kind → ℕ → ℕ → List ℕ → Opens
opens_by found k d margin ls = cond (not (is_start k)) opening.Nothing (cond (is_value k && has found) opening.Nothing (start_of d margin ls (level_of k)))

pub front_push : (text : List ℕ) (h : List Lexeme) (d : ℕ) (ms : List ℕ) (es : List Entry)
    (k : Kind) (q : ℕ) (a : Bool) (w : WordText) → Front text h d ms es → is_end k ≡ false
    → let l = read_at text h k q a w in let c = column_at text q in
    next text h ≡ Read l
    → (found : Option Candidate) → fresh (candidate d h) (mark_at text q) ≡ found
    → (left : List ℕ) → left_by k d c ms ≡ left
    → let new = opened (is_start k && not (nat_lt 0 d)) (opens_at found k c) left in
    Rises 0 new
    → Front text (l ∷ h) (depth_after k d) new (cond (is_value k) (marked found left es) es ++ entry l (length ms - length left) (opens_by found k d (margin_at c) left) ∷ [])
unfolding open_levels finished_tokens
front_push text h d ms es k q a w f goes read found found_is left left_is rises = grind (arith, nat_tests, came_push)

-- what is equal may replace it
pub front_same : (text : List ℕ) (h : List Lexeme) (d e : ℕ) (ms ns : List ℕ) (es fs : List Entry)
    → Front text h d ms es → d ≡ e → ms ≡ ns → es ≡ fs → Front text h e ns fs
front_same text h d e ms ns es fs f x y z = grind (arith, nat_tests)

pub meets_level : (text : List ℕ) (h : List Lexeme) (d n : ℕ) (k : Kind) (q : ℕ) (a : Bool)
    (w : WordText) (i : ℕ) → Meets text h d n k q a w → n ≡ i → Meets text h d i k q a w
meets_level text h d n k q a w i m e = let P : ℕ → Type 0 = λ x. Meets text h d x k q a w in subst P e m

-- ---- pieces of what comes

pub lone_marks : (v : Bool) (o : Option Candidate) (ls : List ℕ) (es : List Entry)
    → (v ≡ true → o ≡ None) → cond v (marked o ls es) es ≡ es
lone_marks v o ls es f = grind (arith, nat_tests)

pub calm_opens : (start value found : Bool) (d m : ℕ) (ls : List ℕ) (what : Opens)
    → (start && not (nat_lt 0 d)) ≡ false
    → cond (not start) opening.Nothing
    (cond (value && found) opening.Nothing (start_of d m ls what)) ≡ opening.Nothing
calm_opens start value found d m ls what e = grind (arith, nat_tests, cases_Bool)

pub calm_levels : (flag : Bool) (m : ℕ) (ls : List ℕ) → flag ≡ false → opened flag m ls ≡ ls
calm_levels flag m ls e = grind (arith, nat_tests)

calm_flag : (deep start : Bool) → (deep || not start) ≡ true → (start && not deep) ≡ false
calm_flag deep start e = grind (arith, nat_tests)

pub stays_inside : (k : Kind) (d : ℕ) → stays_level k d ≡ true → is_outside k ≡ false
stays_inside k d e = not-true (is_outside k) (and_parts (not (is_outside k)) (nat_lt 0 d || not (is_start k)) e).0

pub stays_calm : (k : Kind) (d : ℕ) → stays_level k d ≡ true
    → (is_start k && not (nat_lt 0 d)) ≡ false
stays_calm k d e = calm_flag (nat_lt 0 d) (is_start k) (and_parts (not (is_outside k)) (nat_lt 0 d || not (is_start k)) e).1

placed_calm : (start deep a taken : Bool) → (start && not deep) ≡ false
    → (start ≡ false) ⊎ ((deep ≡ true) ⊎ ((a ≡ true) ⊎ (taken ≡ true)))
placed_calm start deep a taken e = grind (arith, nat_tests)

pub stays_placed : (text : List ℕ) (h : List Lexeme) (d : ℕ) (k : Kind) (q : ℕ) (a : Bool)
    → stays_level k d ≡ true → IsPlaced text h d k q a
stays_placed text h d k q a e = placed_calm (is_start k) (nat_lt 0 d) a (is_value k && has (fresh (candidate d h) (mark_at text q))) (stays_calm k d e)

no_less : (n : ℕ) → n - n ≡ 0
no_less n = omega arith

-- the level that a lexeme is in
pub level_is : (text : List ℕ) (h : List Lexeme) (d : ℕ) (ms left : List ℕ) (es : List Entry)
    (k : Kind) (c : ℕ) → Front text h d ms es → left_by k d c ms ≡ left
    → level_in k c h ≡ indent left
level_is text h d ms left es k c f e = grind (arith, nat_tests)

said_body : (k : Kind) (s : SpelledText) (l : Lexeme) (w : WordText)
    → FitsAny (Some k) s.text l.start.index
    → lexeme_at k (nat_lt 0 l.depth) l.level s.text l.start.index ≡ Ok w → body_by k s l ≡ w.body
said_body k s l w f said = grind (arith, nat_tests)

pub body_met : (text : List ℕ) (h : List Lexeme) (d : ℕ) (ms left : List ℕ) (es : List Entry)
    (k : Kind) (q : ℕ) (a : Bool) (w : WordText) → Front text h d ms es
    → left_by k d (column_at text q) ms ≡ left → Meets text h d (indent left) k q a w
    → Says text (read_at text h k q a w) w
body_met text h d ms left es k q a w f e meets = λ x.
    let s : SpelledText = record { encoding = x; text = text } in
    let l = read_at text h k q a w in
    let P : Option Kind → Type 0 = λ o. FitsAny o text q in
    said_body k s l w (subst P meets.kind (kind_fits (nat_lt 0 d) text q))
    (ap (λ (n : ℕ). lexeme_at k (nat_lt 0 n) l.level text q) f.depth
    ∙ ap (λ (n : ℕ). lexeme_at k (nat_lt 0 d) n text q) (level_is text h d ms left es k (column_at text q) f e) ∙ meets.word)

-- ---- the laws

pub word_is_read : WordIsRead
word_is_read text h d ms es k q a w f idle stays meets right lone =
    let c = column_at text q in
    let l = read_at text h k q a w in
    let inside = stays_inside k d stays in
    let goes = goes_on k inside in
    let left = stays_right k d c ms inside f.rises right in
    let calm = stays_calm k d stays in
    let level = level_is text h d ms ms es k c f left in
    let unrequired : l.required ≡ false =
    ap (λ (n : ℕ). (a && may_be_key k) && (n == 0 && level_in k c h == margin_at c)) f.depth
    ∙ ap (λ (n : ℕ). (a && may_be_key k) && (d == 0 && n == margin_at c)) level ∙ required_not (a && may_be_key k) d (indent ms) c right in
    let still : Idle (l ∷ h) = λ e. free_push l h e (idle e) unrequired in
    let found = fresh (candidate d h) (mark_at text q) in
    let new = opened (is_start k && not (nat_lt 0 d)) (opens_at found k c) ms in
    let same : new ≡ ms = calm_levels (is_start k && not (nat_lt 0 d)) (opens_at found k c) ms calm in
    let read = met_is_read text h d ms es k q a w f goes (meets_level text h d (indent ms) k q a w (indent (left_by k d c ms)) meets (ap (λ (x : List ℕ). indent x) (sym left)))
    (stays_placed text h d k q a stays) (free_in_time (candidate 0 h) (mark_at text q) (idle 0)) (λ e. idle d) (free_in_time (candidate 0 (l ∷ h)) (mark_at text w.reached) (still 0)) in
    let pushed = front_push text h d ms es k q a w f goes read found refl ms left (opened_rises (is_start k && not (nat_lt 0 d)) (opens_at found k c) ms f.rises) in
    let what = opens_by found k d (margin_at c) ms in
    record {
      read = read;
      body = body_met text h d ms ms es k q a w f left meets;
      front = front_same text (l ∷ h) (depth_after k d) (depth_after k d) new ms _ (es ++ entry l 0 opening.Nothing ∷ []) pushed refl same
          (ap (λ (zs : List Entry). zs ++ entry l (length ms - length ms) what ∷ []) (lone_marks (is_value k) found ms es lone)
          ∙ ap (λ (n : ℕ). es ++ entry l n what ∷ []) (no_less (length ms))
          ∙ ap (λ (o : Opens). es ++ entry l 0 o ∷ []) (calm_opens (is_start k) (is_value k) (has found) d (margin_at c) ms (level_of k) calm));
      idle = still;
    }

lone_at : (o : Option Candidate) (k : Kind) (c : ℕ) → (is_value k ≡ true → o ≡ None)
    → opens_at o k c ≡ margin_at c
lone_at o k c f = grind (arith, nat_tests, cases_Bool)

mark_opens : (start value : Bool) (o : Option Candidate) (what : Opens) → start ≡ true
    → (value ≡ true → o ≡ None)
    → cond (not start) opening.Nothing (cond (value && has o) opening.Nothing what) ≡ what
mark_opens start value o what e f = grind (arith, nat_tests)

mark_new : (start : Bool) (m : ℕ) (ls : List ℕ) → start ≡ true
    → opened (start && not (nat_lt 0 0)) m ls ≡ opened true m ls
mark_new start m ls e = grind (arith, nat_tests)

pub mark_is_read : MarkIsRead
mark_is_read text h ms ls n es k q w f idle start meets leaves lone =
    let c = column_at text q in
    let l = read_at text h k q true w in
    let inside = start_inside k start in
    let goes = goes_on k inside in
    let left = leaves.left k inside in
    let unrequired : l.required ≡ false = no_key true (may_be_key k) (flow_depth h == 0 && level_in k c h == margin_at c) (start_no_key k start) in
    let still : Idle (l ∷ h) = λ e. free_push l h e (idle e) unrequired in
    let found = fresh (candidate 0 h) (mark_at text q) in
    let new = opened (is_start k && not (nat_lt 0 0)) (opens_at found k c) ls in
    let same : new ≡ opened true (margin_at c) ls = mark_new (is_start k) (opens_at found k c) ls start ∙ ap (λ (m : ℕ). opened true m ls) (lone_at found k c lone) in
    let read = met_is_read text h 0 ms es k q true w f goes (meets_level text h 0 (indent ls) k q true w (indent (left_by k 0 c ms)) meets (ap (λ (x : List ℕ). indent x) (sym left)))
    (inr (inr (inl refl))) (free_in_time (candidate 0 h) (mark_at text q) (idle 0)) (λ e. idle 0) (free_in_time (candidate 0 (l ∷ h)) (mark_at text w.reached) (still 0)) in
    let pushed = front_push text h 0 ms es k q true w f goes read found refl ls left (opened_rises (is_start k && not (nat_lt 0 0)) (opens_at found k c) ls leaves.rises) in
    let what = opens_by found k 0 (margin_at c) ls in
    record {
      read = read;
      body = body_met text h 0 ms ls es k q true w f left meets;
      front = front_same text (l ∷ h) (depth_after k 0) 0 new (opened true (margin_at c) ls) _ (es ++ entry l n (start_of 0 (margin_at c) ls (level_of k)) ∷ []) pushed (start_flat k 0 start) same
          (ap (λ (zs : List Entry). zs ++ entry l (length ms - length ls) what ∷ []) (lone_marks (is_value k) found ls es lone)
          ∙ ap (λ (i : ℕ). es ++ entry l i what ∷ []) leaves.closed
          ∙ ap (λ (o : Opens). es ++ entry l n o ∷ []) (mark_opens (is_start k) (is_value k) found (start_of 0 (margin_at c) ls (level_of k)) start lone));
      idle = still;
    }

all_less : (n : ℕ) → n - 0 ≡ n
all_less n = omega arith

pub unkeyed : (v : Bool) (xs es : List Entry) → v ≡ false → cond v xs es ≡ es
unkeyed v xs es e = grind (arith, nat_tests)

pub outer_is_read : OuterIsRead
unfolding Rises indent
outer_is_read text h ms es k q a w f idle outer meets =
    let c = column_at text q in
    let l = read_at text h k q a w in
    let o = outer_kind k outer in
    let left = left_outside k c ms o.out f.rises in
    let unrequired : l.required ≡ false = no_key a (may_be_key k) (flow_depth h == 0 && level_in k c h == margin_at c) o.key in
    let still : Idle (l ∷ h) = λ e. free_push l h e (idle e) unrequired in
    let found = fresh (candidate 0 h) (mark_at text q) in
    let flag = is_start k && not (nat_lt 0 0) in
    let calm : flag ≡ false = ap (λ (b : Bool). b && not (nat_lt 0 0)) o.start in
    let new = opened flag (opens_at found k c) [] in
    let read = met_is_read text h 0 ms es k q a w f o.goes (meets_level text h 0 0 k q a w (indent (left_by k 0 c ms)) meets (ap (λ (x : List ℕ). indent x) (sym left)))
    (inl o.start) (free_in_time (candidate 0 h) (mark_at text q) (idle 0)) (λ e. idle 0) (free_in_time (candidate 0 (l ∷ h)) (mark_at text w.reached) (still 0)) in
    let pushed = front_push text h 0 ms es k q a w f o.goes read found refl [] left (opened_rises flag (opens_at found k c) [] tt) in
    let what = opens_by found k 0 (margin_at c) [] in
    record {
      read = read;
      body = body_met text h 0 ms [] es k q a w f left meets;
      front = front_same text (l ∷ h) (depth_after k 0) 0 new [] _ (es ++ entry l (length ms) opening.Nothing ∷ []) pushed o.flat (calm_levels flag (opens_at found k c) [] calm)
          (ap (λ (zs : List Entry). zs ++ entry l (length ms - 0) what ∷ []) (unkeyed (is_value k) (marked found [] es) es o.value)
          ∙ ap (λ (i : ℕ). es ++ entry l i what ∷ []) (all_less (length ms))
          ∙ ap (λ (x : Opens). es ++ entry l (length ms) x ∷ []) (calm_opens (is_start k) (is_value k) (has found) 0 (margin_at c) [] (level_of k) calm));
      idle = still;
    }
