-- Keys of one word or several are held, and marked by their `:`.
use Rattle.std.proofs.Common.{◌≡◌, ◌⊎◌, ℕ, ◌-◌, ◌<◌, ◌==◌, ◌&&◌, ◌||◌, not, nat_lt, cond, Bool, true, false, List, [], ◌∷◌, ◌++◌, length, Option, Some, None, refl, sym, ap, subst, ◌∙◌, inl, inr, arith}
use Rattle.yaml_scan_laws.proofs.LevelWords.{cases_Bool, eq-eqb, nat_tests, and-false, yaml_mark_t, column_at, mark_at, Kind, Lexeme, Entry, Opens, depth_after, may_be_key, cancels, is_value, is_start, is_outside, Candidate, candidate, fresh, has, is_fresh, margin_at, indent, left_by, opens_at, opened, level_of, marked, mark_key, as_key, level_in, length-entries, IsFree, Idle, InTime, Holds, entry, read_at}
use Rattle.yaml_scan_history.specs.declared.kind.Kind.TheVariants as kinds
use Rattle.yaml_scan_history.specs.declared.lexeme.Opens.TheVariants as opening
use Rattle.yaml_scan_laws.specs.Keys.{KeyBegins, IsInKey, KeyGoesOn, KeyEnds}
use Rattle.yaml_scan_laws.proofs.Pushing.{unkeyed, opened_rises, stays_right, met_is_read, goes_on, free_push, free_in_time, required_not, opens_by, front_push, front_same, meets_level, lone_marks, calm_opens, calm_levels, stays_inside, stays_calm, stays_placed, level_is, body_met}

-- ---- the candidates after one lexeme more

saved_more : (same saved cancel below : Bool) (c : Candidate) (rest : Option Candidate)
    → same ≡ true → saved ≡ true
    → cond same (cond saved (Some c) (cond cancel None rest)) (cond below None rest) ≡ Some c
saved_more same saved cancel below c rest e f = grind (arith, nat_tests)

kept_more : (same saved cancel below : Bool) (o rest : Option Candidate)
    → ((same ≡ true) × (saved ≡ false) × (cancel ≡ false)) ⊎ ((same ≡ false) × (below ≡ false))
    → cond same (cond saved o (cond cancel None rest)) (cond below None rest) ≡ rest
kept_more same saved cancel below o rest h6 = grind (arith, nat_tests)

other_more : (same saved cancel below : Bool) (o rest : Option Candidate) → same ≡ false
    → IsFree rest → IsFree (cond same (cond saved o (cond cancel None rest)) (cond below None rest))
other_more same saved cancel below o rest e f = grind (arith, nat_tests)

apart : (a b : ℕ) → (b ≡ a → ⊥) → (a == b) ≡ false
apart a b f = elim (cases_Bool (a == b)) [ inl e ↦ let g : b ≡ a = grind (arith, nat_tests) in absurd (f g) | inr e ↦ e ]

saved_slot : (l : Lexeme) (h : List Lexeme) (d : ℕ) → l.depth ≡ d → l.saved ≡ true
    → candidate d (l ∷ h) ≡ Some (record { number = length h; lexeme = l })
unfolding candidate
saved_slot l h d e s = saved_more (l.depth == d) l.saved (cancels l.kind) (nat_lt l.depth d) (record { number = length h; lexeme = l }) (candidate d h) (eq-eqb l.depth d e) s

other_slot : (l : Lexeme) (h : List Lexeme) (e : ℕ) → (e ≡ l.depth → ⊥) → IsFree (candidate e h)
    → IsFree (candidate e (l ∷ h))
unfolding candidate
other_slot l h e f r = other_more (l.depth == e) l.saved (cancels l.kind) (nat_lt l.depth e) (Some (record { number = length h; lexeme = l })) (candidate e h) (apart l.depth e f) r

kept_slot : (l : Lexeme) (h : List Lexeme) (d : ℕ)
    → ((l.depth ≡ d) × (l.saved ≡ false) × (cancels l.kind ≡ false)) ⊎ (d < l.depth)
    → candidate d (l ∷ h) ≡ candidate d h
unfolding candidate
kept_slot l h d h3 = grind (arith, nat_tests, kept_more, eq-eqb)

pub cancelled_slot : (l : Lexeme) (h : List Lexeme) (d : ℕ) → l.depth ≡ d → l.saved ≡ false
    → cancels l.kind ≡ true → candidate d (l ∷ h) ≡ None
unfolding candidate
cancelled_slot l h d e f g = rw ((eq-eqb l.depth d e), f, g) refl

holds_in_time : (h : List Lexeme) (d : ℕ) (c : Candidate) (m : yaml_mark_t) → Holds h d c
    → is_fresh c.lexeme.start m ≡ true → InTime (candidate 0 h) m
holds_in_time h d c m holds e = grind (arith, nat_tests, free_in_time)

-- ---- a key begins

record IsKeyKind (k : Kind) : Type 0 where
  inside : is_outside k ≡ false
  start : is_start k ≡ false
  value : is_value k ≡ false

key_kind : (k : Kind) → may_be_key k ≡ true → IsKeyKind k
key_kind k e = grind (arith, nat_tests)

flag_off : (x y : Bool) → x ≡ false → (x && y) ≡ false
flag_off x y e = grind (arith, nat_tests)

number_same : (n m : ℕ) (l : Lexeme) → n ≡ m
    → let a : Candidate = record { number = n; lexeme = l } in
    let b : Candidate = record { number = m; lexeme = l } in Some a ≡ Some b
number_same n m l e = ap (λ (x : ℕ). Some (let c : Candidate = record { number = x; lexeme = l } in c)) e

pub key_begins : KeyBegins
key_begins text h d ms ls n es k q w f idle may meets leaves near =
    let c = column_at text q in
    let l = read_at text h k q true w in
    let kk = key_kind k may in
    let goes = goes_on k kk.inside in
    let left = leaves.left k kk.inside in
    let deep : l.depth ≡ d = f.depth in
    let count : length h ≡ length es = sym (length-entries h) ∙ ap (λ (zs : List Entry). length zs) f.entries in
    let slot : candidate d (l ∷ h) ≡ Some (record { number = length es; lexeme = l }) = saved_slot l h d deep may ∙ number_same (length h) (length es) l count in
    let holds : Holds (l ∷ h) d (record { number = length es; lexeme = l }) = record { slot = slot; others = λ e g. other_slot l h e (λ x. g (sym (x ∙ deep))) (idle e) } in
    let found = fresh (candidate d h) (mark_at text q) in
    let flag = is_start k && not (nat_lt 0 d) in
    let calm : flag ≡ false = flag_off (is_start k) (not (nat_lt 0 d)) kk.start in
    let read = met_is_read text h d ms es k q true w f goes (meets_level text h d (indent ls) k q true w (indent (left_by k d c ms)) meets (ap (λ (x : List ℕ). indent x) (sym left)))
    (inl kk.start) (free_in_time (candidate 0 h) (mark_at text q) (idle 0)) (λ e. idle d) (holds_in_time (l ∷ h) d (record { number = length es; lexeme = l }) (mark_at text w.reached) holds near) in
    let new = opened flag (opens_at found k c) ls in
    let pushed = front_push text h d ms es k q true w f goes read found refl ls left (opened_rises flag (opens_at found k c) ls leaves.rises) in
    let what = opens_by found k d (margin_at c) ls in
    record {
      read = read;
      body = body_met text h d ms ls es k q true w f left meets;
      front = front_same text (l ∷ h) (depth_after k d) (depth_after k d) new ls _ (es ++ entry l n opening.Nothing ∷ []) pushed refl (calm_levels flag (opens_at found k c) ls calm)
          (ap (λ (zs : List Entry). zs ++ entry l (length ms - length ls) what ∷ []) (unkeyed (is_value k) (marked found ls es) es kk.value)
          ∙ ap (λ (i : ℕ). es ++ entry l i what ∷ []) leaves.closed
          ∙ ap (λ (x : Opens). es ++ entry l n x ∷ []) (calm_opens (is_start k) (is_value k) (has found) d (margin_at c) ls (level_of k) calm));
      holds = holds;
    }

-- ---- a key goes on

no_less : (n : ℕ) → n - n ≡ 0
no_less n = omega arith

unlost : (saved cancel value : Bool) → saved ≡ false → cancel ≡ false
    → (saved || (cancel && not value)) ≡ true → ⊥
unlost saved cancel value e f g = grind (arith, nat_tests)

free_in : (h : List Lexeme) (k : Kind) (d e : ℕ) (a : Bool) (c : Candidate) → Holds h d c
    → IsInKey k d e a → ((a && may_be_key k) || (cancels k && not (is_value k))) ≡ true
    → IsFree (candidate e h)
free_in h k d e a c holds h7 g = grind (arith, nat_tests, unlost)

pub kept_in : (l : Lexeme) (h : List Lexeme) (k : Kind) (d e : ℕ) (a : Bool) → l.kind ≡ k
    → l.depth ≡ e → l.saved ≡ (a && may_be_key k) → IsInKey k d e a
    → candidate d (l ∷ h) ≡ candidate d h
kept_in l h k d e a kind deep saved h9 = grind (arith, nat_tests, kept_slot)

pub key_goes_on : KeyGoesOn
key_goes_on text h d e c ms es k q a w f holds stays meets right lone in_key near far =
    let col = column_at text q in
    let l = read_at text h k q a w in
    let inside = stays_inside k e stays in
    let goes = goes_on k inside in
    let left = stays_right k e col ms inside f.rises right in
    let calm = stays_calm k e stays in
    let level = level_is text h e ms ms es k col f left in
    let unrequired : l.required ≡ false =
    ap (λ (n : ℕ). (a && may_be_key k) && (n == 0 && level_in k col h == margin_at col)) f.depth
    ∙ ap (λ (n : ℕ). (a && may_be_key k) && (e == 0 && n == margin_at col)) level ∙ required_not (a && may_be_key k) e (indent ms) col right in
    let still : Holds (l ∷ h) d c = record {
      slot = kept_in l h k d e a refl f.depth refl in_key ∙ holds.slot;
      others = λ i g. free_push l h i (holds.others i g) unrequired;
    } in
    let found = fresh (candidate e h) (mark_at text q) in
    let flag = is_start k && not (nat_lt 0 e) in
    let new = opened flag (opens_at found k col) ms in
    let read = met_is_read text h e ms es k q a w f goes (meets_level text h e (indent ms) k q a w (indent (left_by k e col ms)) meets (ap (λ (x : List ℕ). indent x) (sym left)))
    (stays_placed text h e k q a stays) (holds_in_time h d c (mark_at text q) holds near) (λ g. free_in h k d e a c holds in_key g) (holds_in_time (l ∷ h) d c (mark_at text w.reached) still far) in
    let pushed = front_push text h e ms es k q a w f goes read found refl ms left (opened_rises flag (opens_at found k col) ms f.rises) in
    let what = opens_by found k e (margin_at col) ms in
    record {
      read = read;
      body = body_met text h e ms ms es k q a w f left meets;
      front = front_same text (l ∷ h) (depth_after k e) (depth_after k e) new ms _ (es ++ entry l 0 opening.Nothing ∷ []) pushed refl (calm_levels flag (opens_at found k col) ms calm)
          (ap (λ (zs : List Entry). zs ++ entry l (length ms - length ms) what ∷ []) (lone_marks (is_value k) found ms es lone)
          ∙ ap (λ (i : ℕ). es ++ entry l i what ∷ []) (no_less (length ms))
          ∙ ap (λ (x : Opens). es ++ entry l 0 x ∷ []) (calm_opens (is_start k) (is_value k) (has found) e (margin_at col) ms (level_of k) calm));
      holds = still;
    }

-- ---- a key ends

pub mark_there : (ls : List ℕ) (done : List Entry) (first : Entry) (rest : List Entry)
    → mark_key ls (done ++ first ∷ rest) (length done) ≡ done ++ as_key ls first ∷ rest
unfolding mark_key
mark_there ls [] first rest = refl
mark_there ls (x ∷ xs) first rest = ap (λ (zs : List Entry). x ∷ zs) (mark_there ls xs first rest)

pub still_fresh : (o : Option Candidate) (c : Candidate) (m : yaml_mark_t) → o ≡ Some c
    → is_fresh c.lexeme.start m ≡ true → fresh o m ≡ Some c
still_fresh o c m e f = ap (λ (x : Option Candidate). fresh x m) e ∙ ap (λ (b : Bool). cond b (Some c) None) f

no_save : (a : Bool) → ((a && false) || false) ≡ true → ⊥
no_save a e = grind (arith, nat_tests)

gone : (o : Option Candidate) → o ≡ None → IsFree o
gone o e = let P : Option Candidate → Type 0 = λ x. IsFree x in subst P (sym e) tt

idle_behind : (l : Lexeme) (h : List Lexeme) (d : ℕ) (c : Candidate) → Holds h d c → l.depth ≡ d
    → candidate d (l ∷ h) ≡ None → Idle (l ∷ h)
idle_behind l h d c holds deep none = grind (arith, nat_tests, gone, other_slot)

pub key_ends : KeyEnds
key_ends text h d ms done first rest q a w f holds meets right near =
    let col = column_at text q in
    let k = kinds.ValueMark in
    let l = read_at text h k q a w in
    let es = done ++ first ∷ rest in
    let c : Candidate = record { number = length done; lexeme = first.lexeme } in
    let left = stays_right k d col ms refl f.rises right in
    let found_is = still_fresh (candidate d h) c (mark_at text q) holds.slot near in
    let none : candidate d (l ∷ h) ≡ None = cancelled_slot l h d f.depth (and-false a) refl in
    let still : Idle (l ∷ h) = idle_behind l h d c holds f.depth none in
    let taken : has (fresh (candidate d h) (mark_at text q)) ≡ true = ap (λ (o : Option Candidate). has o) found_is in
    let read = met_is_read text h d ms es k q a w f refl (meets_level text h d (indent ms) k q a w (indent (left_by k d col ms)) meets (ap (λ (x : List ℕ). indent x) (sym left)))
    (inr (inr (inr taken))) (holds_in_time h d c (mark_at text q) holds near) (λ e. absurd (no_save a e)) (free_in_time (candidate 0 (l ∷ h)) (mark_at text w.reached) (still 0)) in
    let m = margin_at first.lexeme.start.column in
    let pushed = front_push text h d ms es k q a w f refl read (Some c) found_is ms left (opened_rises (not (nat_lt 0 d)) m ms f.rises) in
    record {
      read = read;
      body = body_met text h d ms ms es k q a w f left meets;
      front = front_same text (l ∷ h) d d (opened (not (nat_lt 0 d)) m ms) (opened (not (nat_lt 0 d)) m ms) _ ((done ++ as_key ms first ∷ rest) ++ entry l 0 opening.Nothing ∷ []) pushed refl refl
          (ap (λ (zs : List Entry). zs ++ entry l (length ms - length ms) opening.Nothing ∷ []) (mark_there ms done first rest)
          ∙ ap (λ (i : ℕ). (done ++ as_key ms first ∷ rest) ++ entry l i opening.Nothing ∷ []) (no_less (length ms)));
      idle = still;
    }
