-- Runs of bytes and what is between lexemes are the same in both texts; what is read, with its places moved.
use Rattle.std.proofs.Common.{add_assoc, if◌then◌else◌, ◌≡◌, ℕ, zero, suc, ◌+◌, ◌-◌, ◌<◌, ◌≤◌, ◌==◌, Bool, true, false, List, length, slice_range, get_or, take, drop, refl, sym, ap, ◌∙◌, inl, inr, arith, ◌≢◌, ◌&&◌, ◌||◌, nat_lt, not, Result, Ok, Err}
use Rattle.yaml_scan_laws.proofs.Shared.{cases_Bool, eqb-true, take_more, get_or-drop, length-drop, nat_tests, byte, break_of, break_width, is_blank, past, is_text, is_blank_there, is_space_there, past_blanks, past_spaces, line_end, belongs, run_within, run_end, within, past_more, past_some, past_stop, text_parts, blank_parts, space_parts, belongs_here, Alike, is_onward, cases_lt, ltb-true, true≢false, is_bom, is_skipped, step_at, Gap, with_break, gap_within, gap_at, widths, no_break, break_inside, and-false, Wrong, past_break}
use Rattle.yaml_scan_laws.proofs.Bytes.{width_alike, IsQuiet, quiet_edge, quiet_break, onward_some}

-- what is no break and not the end goes on
goes_on : (b c d : ℕ) → 0 < b → break_of b c d ≡ 0 → is_onward b ≡ true
unfolding is_onward break_of
goes_on b c d h k = grind (arith, nat_tests)

-- a run that starts within ends within, at the place moved
pub record RunsAlike (t u : List ℕ) (d m p q r : ℕ) : Type 0 where
  pub order : p ≤ q
  pub inside : q < m
  pub same : r ≡ d + q

-- ---- what is between two places

range_by : (n : ℕ) (t u : List ℕ) (d m p : ℕ) → Alike t u d m → p + n ≤ m → p + n ≤ length t
    → d + p + n ≤ length u → take n (drop (d + p) u) ≡ take n (drop p t)
range_by zero t u d m p a l i j = refl
range_by (suc n) t u d m p a l i j =
    let long = length-drop (d + p) u in
    let short = length-drop p t in
    let e : suc n ≡ n + 1 = omega arith in
    let same : get_or (drop (d + p) u) n 0 ≡ get_or (drop p t) n 0 =
    get_or-drop (d + p) u n 0 ∙ ap (λ k. get_or u k 0) (add_assoc d p n) ∙ a.bytes (p + n) (omega (arith, l)) ∙ sym (get_or-drop p t n 0) in
    rw (e, take_more (drop (d + p) u) n 0 (omega (arith, long, j)), take_more (drop p t) n 0 (omega (arith, short, i)), same, range_by n t u d m p a (omega (arith, l)) (omega (arith, i)) (omega (arith, j))) refl

pub range_alike : (t u : List ℕ) (d m p q : ℕ) → Alike t u d m → p ≤ q → q ≤ m → q ≤ length t
    → d + q ≤ length u → slice_range u (d + p) (d + q) ≡ slice_range t p q
range_alike t u d m p q a l i j k =
    let e : d + q - (d + p) ≡ q - p = omega (arith, l) in
    rw e (range_by (q - p) t u d m p a (omega (arith, l, i)) (omega (arith, l, j)) (omega (arith, l, k)))

-- ---- the runs of blocks: blanks, spaces, and the rest of a line

past_over : (kind : List ℕ → ℕ → Bool) (t u : List ℕ) (d m p n o : ℕ) → p < m → kind t p ≡ false
    → kind u (d + p) ≡ kind t p → RunsAlike t u d m p (past kind n t p) (past kind o u (d + p))
past_over kind t u d m p n o l h same = grind (arith, nat_tests, past_stop)

past_step : (kind : List ℕ → ℕ → Bool) (n : ℕ) (t : List ℕ) (p : ℕ) → kind t p ≡ true
    → p < length t → length t ≤ p + n
    → (m : ℕ) × (length t ≤ p + 1 + m) × (past kind n t p ≡ past kind m t (p + 1))
past_step kind zero t p h l room = absurd (omega (arith, l, room))
past_step kind (suc n) t p h l room = (n, omega (arith, room), past_more kind n t p h)

past_by : (kind : List ℕ → ℕ → Bool) (k : ℕ) (t u : List ℕ) (d m p n o : ℕ) → Alike t u d m
    → ((x : ℕ) → x < m → kind u (d + x) ≡ kind t x)
    → ((x : ℕ) → x < m → kind t x ≡ true → (0 < byte t x) × (break_width t x ≡ 0)) → p < m
    → length t < p + k → length t ≤ p + n → length u ≤ d + p + o
    → RunsAlike t u d m p (past kind n t p) (past kind o u (d + p))
past_by kind zero t u d m p n o a like some l room fuel more = let short = a.short in absurd (omega (arith, room, l, short))
past_by kind (suc k) t u d m p n o a like some l room fuel more =
    elim (cases_Bool (kind t p)) [
      | inr h ↦ past_over kind t u d m p n o l h (like p l)
      | inl h ↦
          let (one, none) = some p l h in
          let there = within u (d + p) (rw (a.bytes p l) one) in
          let on = a.onward p l (goes_on (byte t p) (byte t (p + 1)) (byte t (p + 2)) one none) in
          let (x, left, e) = past_step kind n t p h (within t p one) fuel in
          let (y, rest, f) = past_step kind o u (d + p) (like p l ∙ h) there more in
          let step = past_by kind k t u d m (p + 1) x y a like some on (omega (arith, room)) left (omega (arith, rest)) in
          let last : past kind y u (d + p + 1) ≡ d + past kind x t (p + 1) = rw (add_assoc d p 1) step.same in
          rw (e, f) record { order = omega (arith, step.order); inside = step.inside; same = last }
    ]

past_alike : (kind : List ℕ → ℕ → Bool) (t u : List ℕ) (d m p : ℕ) → Alike t u d m
    → ((x : ℕ) → x < m → kind u (d + x) ≡ kind t x)
    → ((x : ℕ) → x < m → kind t x ≡ true → (0 < byte t x) × (break_width t x ≡ 0)) → p < m
    → RunsAlike t u d m p (past kind (length t) t p) (past kind (length u) u (d + p))
past_alike kind t u d m p a like some l = past_by kind (suc (length t)) t u d m p (length t) (length u) a like some l (omega arith) (omega arith) (omega arith)

run_past : (n : ℕ) (run : _) (t : List ℕ) (p : ℕ) → run_within n run t p ≡ past (belongs run) n t p
unfolding run_within past
run_past zero run t p = refl
run_past (suc n) run t p = ap (λ q. if belongs run t p then q else p) (run_past n run t (p + 1))

pub run_alike : (t u : List ℕ) (d m p : ℕ) (run : _) → Alike t u d m
    → ((x : ℕ) → x < m → belongs run u (d + x) ≡ belongs run t x) → p < m
    → RunsAlike t u d m p (run_end run t p) (run_end run u (d + p))
run_alike t u d m p run a like l =
    rw (run_past (length t) run t p, run_past (length u) run u (d + p))
    (past_alike (belongs run) t u d m p a like (λ x i h. belongs_here run t x h) l)

pub blanks_alike : (t u : List ℕ) (d m p : ℕ) → Alike t u d m → p < m
    → RunsAlike t u d m p (past_blanks t p) (past_blanks u (d + p))
blanks_alike t u d m p a l =
    past_alike is_blank_there t u d m p a (λ x i. ap is_blank (a.bytes x i)) (λ x i h. blank_parts (byte t x) (byte t (x + 1)) (byte t (x + 2)) h) l

pub spaces_alike : (t u : List ℕ) (d m p : ℕ) → Alike t u d m → p < m
    → RunsAlike t u d m p (past_spaces t p) (past_spaces u (d + p))
spaces_alike t u d m p a l =
    past_alike is_space_there t u d m p a (λ x i. ap (λ b. b == 32) (a.bytes x i)) (λ x i h. two (space_parts (byte t x) (byte t (x + 1)) (byte t (x + 2)) (eqb-true _ _ h))) l
  where
    two : {A B C : Type 0} → A × B × C → A × B
    two (x, y, z) = (x, y)

pub text_alike : (t u : List ℕ) (d m p : ℕ) → Alike t u d m → p < m
    → is_text u (d + p) ≡ is_text t p
text_alike t u d m p a l = rw (width_alike t u d m p a l, a.bytes p l) refl

pub lines_alike : (t u : List ℕ) (d m p : ℕ) → Alike t u d m → p < m
    → RunsAlike t u d m p (line_end t p) (line_end u (d + p))
lines_alike t u d m p a l =
    past_alike is_text t u d m p a (λ x i. text_alike t u d m x a i) (λ x i h. text_parts t x h) l

-- the gap at a place that is moved by d
abbrev pub moved_gap : ℕ → Gap → Gap
moved_gap d g = record { place = d + g.place; broke = g.broke }

-- ---- a break lies within

two_some : (b c e : ℕ) → break_of b c e ≡ 2 → 0 < c
unfolding break_of
two_some b c e h = grind (arith, nat_tests)

three_some : (b c e : ℕ) → break_of b c e ≡ 3 → (0 < c) × (0 < e)
unfolding break_of
three_some b c e h = (grind (arith, nat_tests), grind (arith, nat_tests))

not_edge : (t u : List ℕ) (d m p : ℕ) → Alike t u d m → 0 < byte t p → p ≢ m
not_edge t u d m p a some e = let edge = a.edge in let here : byte t p ≡ byte t m = ap (λ x. byte t x) e in absurd (omega (arith, some, here, edge))

pub break_within : (t u : List ℕ) (d m p : ℕ) → Alike t u d m → p < m → p + break_width t p ≤ m
break_within t u d m p a l = grind (arith, nat_tests, widths, not_edge, two_some, three_some)

-- ---- a step

-- a blank, a comment or a byte order mark is there
abbrev pub is_passed : Bool → List ℕ → ℕ → Bool
is_passed tabs text p = (p == 0 && is_bom text p) || (is_skipped tabs text p || byte text p == 35)

pub passed_alike : (tabs : Bool) (t u : List ℕ) (d m p : ℕ) → Alike t u d m → p < m
    → is_passed tabs u (d + p) ≡ is_passed tabs t p
passed_alike tabs t u d m p a l = rw (a.bom p l, a.bytes p l) refl

bom_some : (x : Bool) (b c e : ℕ) → (x && (b == 0xEF && (c == 0xBB && e == 0xBF))) ≡ true
    → (0 < b) × (0 < c) × (0 < e)
bom_some x b c e h = grind (arith, nat_tests, true≢false)

skip_onward : (tabs : Bool) (b : ℕ) → (b == 32 || (tabs && b == 9)) ≡ true → is_onward b ≡ true
unfolding is_onward
skip_onward tabs b h = grind (arith, nat_tests)

hash_is_text : (b c e : ℕ) → b ≡ 35 → not (b == 0 || nat_lt 0 (break_of b c e)) ≡ true
hash_is_text b c e h =
    let none = no_break b c e (omega (arith, h)) (omega (arith, h)) (omega (arith, h)) (omega (arith, h)) in
    rw (none, h) refl

-- the place after what is passed
record Passed (t u : List ℕ) (d m p q r : ℕ) : Type 0 where
  pub further : p < q
  pub inside : q ≤ m
  pub same : r ≡ d + q
  pub some : 0 < byte t p

comment_passed : (t u : List ℕ) (d m p : ℕ) → Alike t u d m → p < m → byte t p ≡ 35
    → Passed t u d m p (line_end t p) (line_end u (d + p))
comment_passed t u d m p a l hash =
    let some : 0 < byte t p = omega (arith, hash) in
    let line = lines_alike t u d m p a l in
    let more = past_some is_text t p (hash_is_text (byte t p) (byte t (p + 1)) (byte t (p + 2)) hash) some in
    record { further = more; inside = omega (arith, line.inside); same = line.same; some = some }

passed_place : (tabs : Bool) (t u : List ℕ) (d m p : ℕ) → Alike t u d m → p < m
    → is_passed tabs t p ≡ true
    → Passed t u d m p (step_at tabs t p).place (step_at tabs u (d + p)).place
unfolding step_at
passed_place tabs t u d m p a l h =
    let first : (d + p == 0 && is_bom u (d + p)) ≡ (p == 0 && is_bom t p) = a.bom p l in
    let same : byte u (d + p) ≡ byte t p = a.bytes p l in
    elim (cases_Bool (p == 0 && is_bom t p)) [
      | inl i ↦
          let (x, y, z) = bom_some (p == 0) (byte t p) (byte t (p + 1)) (byte t (p + 2)) i in
          let e = not_edge t u d m (p + 1) a y in
          let f = not_edge t u d m (p + 2) a z in
          rw (first, i) record { further = omega arith; inside = omega (arith, l, e, f); same = omega arith; some = x }
      | inr i ↦ elim (cases_Bool (is_skipped tabs t p)) [
        | inl j ↦
            let on = skip_onward tabs (byte t p) j in
            rw (first, i, same, j) record { further = omega arith; inside = omega (arith, l); same = omega arith; some = onward_some _ on }
        | inr j ↦
            let k : (byte t p == 35) ≡ true = rw (i, j) at h in
            rw (first, i, same, j, k) (comment_passed t u d m p a l (eqb-true _ _ k))
      ]
    ]

pub gap_passes : (n : ℕ) (flow allowed : Bool) (text : List ℕ) (p : ℕ)
    → is_passed (flow || not allowed) text p ≡ true
    → gap_within (suc n) flow allowed text p
    ≡ gap_within n flow allowed text (step_at (flow || not allowed) text p).place
unfolding gap_within step_at
gap_passes n flow allowed text p h = grind (arith, nat_tests)

none_passed : (a b c : Bool) → (a || (b || c)) ≡ false → (a ≡ false) × (b ≡ false) × (c ≡ false)
none_passed a b c h = grind (arith, nat_tests)

pub gap_breaks : (n : ℕ) (flow allowed : Bool) (text : List ℕ) (p : ℕ)
    → is_passed (flow || not allowed) text p ≡ false → nat_lt 0 (break_width text p) ≡ true
    → gap_within (suc n) flow allowed text p
    ≡ with_break true (gap_within n flow (allowed || not flow) text (p + break_width text p))
unfolding gap_within step_at
gap_breaks n flow allowed text p h k = grind (arith, nat_tests, none_passed)

pub gap_stops : (n : ℕ) (flow allowed : Bool) (text : List ℕ) (p : ℕ)
    → is_passed (flow || not allowed) text p ≡ false → nat_lt 0 (break_width text p) ≡ false
    → gap_within n flow allowed text p ≡ record { place = p; broke = false }
unfolding gap_within step_at
gap_stops n flow allowed text p h k = grind (arith, nat_tests, none_passed)

quiet_parts : (b c e : ℕ) (first tabs : Bool) → IsQuiet b
    → ((first && (b == 0xEF && (c == 0xBB && e == 0xBF))) || ((b == 32 || (tabs && b == 9)) || b == 35)) ≡ false
quiet_parts b c e first tabs h5 = grind (arith, nat_tests, and-false)

-- no gap is before what is quiet
pub quiet_gap : (n : ℕ) (flow allowed : Bool) (text : List ℕ) (p : ℕ) → IsQuiet (byte text p)
    → gap_within n flow allowed text p ≡ record { place = p; broke = false }
quiet_gap n flow allowed text p q = grind (arith, nat_tests, quiet_break, gap_stops, quiet_parts)

-- ---- the gap

-- the gap there is the same one, moved, and ends within
pub record GapsAlike (d m : ℕ) (g h : Gap) : Type 0 where
  pub same : h ≡ moved_gap d g
  pub inside : g.place ≤ m

abbrev Gaps : List ℕ → List ℕ → ℕ → ℕ → Bool → Bool → ℕ → ℕ → ℕ → Type 0
Gaps t u d m flow allowed p n o = GapsAlike d m (gap_within n flow allowed t p) (gap_within o flow allowed u (d + p))

gap_over : (t u : List ℕ) (d m : ℕ) (flow allowed : Bool) (p n o : ℕ) → p ≤ m
    → gap_within n flow allowed t p ≡ record { place = p; broke = false }
    → gap_within o flow allowed u (d + p) ≡ record { place = d + p; broke = false }
    → Gaps t u d m flow allowed p n o
gap_over t u d m flow allowed p n o l e f = rw (e, f) record { same = refl; inside = l }

gap_edge : (t u : List ℕ) (d m : ℕ) (flow allowed : Bool) (p n o : ℕ) → Alike t u d m → p ≡ m
    → Gaps t u d m flow allowed p n o
gap_edge t u d m flow allowed p n o a e = grind (arith, nat_tests, quiet_edge, gap_over, quiet_gap)

-- a step is left
pub left_step : (p n x : ℕ) → x ≤ p + n → p < x → (k : ℕ) × (n ≡ suc k) × (x ≤ p + 1 + k)
left_step p zero x h l = absurd (omega (arith, h, l))
left_step p (suc n) x h l = (n, refl, omega (arith, h))

pub gap_by : (k : ℕ) (t u : List ℕ) (d m : ℕ) (flow allowed : Bool) (p n o : ℕ) → Alike t u d m
    → p ≤ m → length t + 1 < p + k → length t ≤ p + n → length u ≤ d + p + o
    → Gaps t u d m flow allowed p n o
gap_by zero t u d m flow allowed p n o a l room fuel more = let short = a.short in absurd (omega (arith, room, l, short))
gap_by (suc k) t u d m flow allowed p n o a l room fuel more =
    elim (cases_lt p m) [
      | inr past ↦ gap_edge t u d m flow allowed p n o a (omega (arith, l, past))
      | inl on ↦ elim (cases_Bool (is_passed (flow || not allowed) t p)) [
        | inl h ↦
            let passed = passed_place (flow || not allowed) t u d m p a on h in
            let here = within t p passed.some in
            let some : 0 < byte u (d + p) = rw (a.bytes p on) passed.some in
            let (x, e, left) = left_step p n (length t) fuel here in
            let (y, f, rest) = left_step (d + p) o (length u) more (within u (d + p) some) in
            let q = (step_at (flow || not allowed) t p).place in
            let step = gap_by k t u d m flow allowed q x y a passed.inside (omega (arith, room, passed.further)) (omega (arith, left, passed.further)) (omega (arith, rest, passed.further)) in
            let last : Gaps t u d m flow allowed p (suc x) (suc y) =
            rw (gap_passes x flow allowed t p h, gap_passes y flow allowed u (d + p) (passed_alike (flow || not allowed) t u d m p a on ∙ h), passed.same) step in
            rw (e, f) last
        | inr h ↦ elim (cases_Bool (nat_lt 0 (break_width t p))) [
          | inl i ↦
              let same = width_alike t u d m p a on in
              let some = ltb-true _ _ i in
              let there = break_inside u (d + p) (rw same some) in
              let (x, e, left) = left_step p n (length t) fuel (break_inside t p some) in
              let (y, f, rest) = left_step (d + p) o (length u) more there in
              let inside = break_within t u d m p a on in
              let move : d + p + break_width t p ≡ d + (p + break_width t p) = omega arith in
              let step = gap_by k t u d m flow (allowed || not flow) (p + break_width t p) x y a inside (omega (arith, room, some)) (omega (arith, left, some)) (omega (arith, rest, some)) in
              let last : Gaps t u d m flow allowed p (suc x) (suc y) =
              rw (gap_breaks x flow allowed t p h i, gap_breaks y flow allowed u (d + p) (passed_alike (flow || not allowed) t u d m p a on ∙ h) (ap (λ w. nat_lt 0 w) same ∙ i), same, move, step.same)
              record { same = refl; inside = step.inside } in
              rw (e, f) last
          | inr i ↦ gap_over t u d m flow allowed p n o l (gap_stops n flow allowed t p h i) (gap_stops o flow allowed u (d + p) (passed_alike (flow || not allowed) t u d m p a on ∙ h) (ap (λ w. nat_lt 0 w) (width_alike t u d m p a on) ∙ i))
        ]
      ]
    ]

pub gap_alike : (t u : List ℕ) (d m : ℕ) (flow allowed : Bool) (p : ℕ) → Alike t u d m → p ≤ m
    → GapsAlike d m (gap_at flow allowed t p) (gap_at flow allowed u (d + p))
gap_alike t u d m flow allowed p a l = gap_by (length t + 2) t u d m flow allowed p (length t) (length u) a l (omega arith) (omega arith) (omega arith)

abbrev pub moved_wrong : ℕ → Wrong → Wrong
moved_wrong d w = record { problem = w.problem; context = w.context; place = d + w.place }

-- what is read, moved by f, or what is wrong, moved
abbrev pub moved_by : {A : Type 0} → (A → A) → ℕ → Result A Wrong → Result A Wrong
moved_by f d (Ok x) = Ok (f x)
moved_by f d (Err w) = Err (moved_wrong d w)

-- what is read satisfies P
abbrev pub OkIs : {A : Type 0} → (A → Type 0) → Result A Wrong → Type 0
OkIs P (Ok x) = P x
OkIs P (Err w) = Unit {0}

-- what is read is the same, moved by f, and satisfies P
pub record ReadAlike {A : Type 0} (P : A → Type 0) (f : A → A) (d : ℕ) (r s : Result A Wrong) : Type 0 where
  pub same : s ≡ moved_by f d r
  pub placed : OkIs P r

-- a place within, in both texts
pub record PlaceAlike (d m q r : ℕ) : Type 0 where
  pub same : r ≡ d + q
  pub inside : q < m

-- the place is in both texts, and in what they share
pub record At (t u : List ℕ) (d m p : ℕ) : Type 0 where
  pub inside : p ≤ m
  pub short : p ≤ length t
  pub long : d + p ≤ length u

pub at_step : (t u : List ℕ) (d m p : ℕ) → Alike t u d m → p < m → 0 < byte t p → At t u d m (p + 1)
at_step t u d m p a l some =
    let here = within t p some in
    let there = within u (d + p) (rw (a.bytes p l) some) in
    record { inside = omega (arith, l); short = omega (arith, here); long = omega (arith, there) }

pub at_break : (t u : List ℕ) (d m p : ℕ) → Alike t u d m → p < m → 0 < break_width t p
    → At t u d m (p + break_width t p)
at_break t u d m p a l some =
    let same = width_alike t u d m p a l in
    let here = past_break t p some in
    let there = past_break u (d + p) (rw same some) in
    let far : d + p + break_width t p ≤ length u = rw (← same) there.inside in
    record { inside = break_within t u d m p a l; short = here.inside; long = omega (arith, far) }
