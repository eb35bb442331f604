-- The white of JSON, with tabs, between lexemes.
use Rattle.std.proofs.Common.{◌≡◌, ◌≢◌, ℕ, zero, suc, ◌+◌, ◌<◌, ◌≤◌, ◌==◌, ◌&&◌, ◌||◌, not, nat_lt, Bool, true, false, List, [], ◌∷◌, length, refl, sym, ap, subst, ◌∙◌, inl, inr, ◌⊎◌, arith}
use Rattle.yaml_round_laws.proofs.JsonWords.{true≢false, cases_Bool, and_parts, ne_eqb, lt-ltb, nat_tests, byte, break_of, break_width, begins_lexeme, Has, flow_depth, in_flow, key_allowed, WordText, WordLeaves, is_white, are_white, is_break, has_tab, has_tab_below, lexeme_parts, break_parts, no_bom, no_skip, cr_width, some_width}
use Rattle.yaml_scan_history.specs.scan_types.Classes.{is_bom}
use Rattle.yaml_scan_history.specs.Between.{step_at, is_skipped, Gap, gap_within, gap_at}
use Rattle.yaml_scan_history.proofs.BetweenLemmas.{gap_blank, gap_break, gap_stop}
use Rattle.yaml_scan_history.specs.Next.{gap_behind}
use Rattle.yaml_scan_laws.proofs.Whites.{nothing_more}

-- ---- one step

-- a step of a gap, and what is left of it
abbrev Goes : ℕ → Bool → Bool → Bool → List ℕ → ℕ → ℕ → Type 0
Goes n flow allowed key text p q = (m : ℕ) × (length text ≤ q + m) × ((gap_within n flow allowed text p).place ≡ (gap_within m flow key text q).place)

step_space : (n : ℕ) (flow allowed : Bool) (text : List ℕ) (p : ℕ) → byte text p ≡ 32
    → length text ≤ p + n → Goes n flow allowed allowed text p (p + 1)
unfolding step_at
step_space n flow allowed text p h room =
    let first : (p == 0 && is_bom text p) ≡ false = no_bom text p (omega (arith, h)) in
    let (m, more, far, inside, same) = gap_blank n flow allowed text p (p + 1) (rw (first, h) refl) room in
    (m, more, ap (λ (g : Gap). g.place) same)

step_tab : (n : ℕ) (flow allowed : Bool) (text : List ℕ) (p : ℕ) → (flow || not allowed) ≡ true
    → byte text p ≡ 9 → length text ≤ p + n → Goes n flow allowed allowed text p (p + 1)
unfolding step_at
step_tab n flow allowed text p t h room =
    let first : (p == 0 && is_bom text p) ≡ false = no_bom text p (omega (arith, h)) in
    let (m, more, far, inside, same) = gap_blank n flow allowed text p (p + 1) (rw (first, h, t) refl) room in
    (m, more, ap (λ (g : Gap). g.place) same)

step_break : (n : ℕ) (flow allowed : Bool) (text : List ℕ) (p w : ℕ) → break_width text p ≡ suc w
    → length text ≤ p + n → Goes n flow allowed (allowed || not flow) text p (p + suc w)
unfolding step_at
step_break n flow allowed text p w width room =
    let some : 0 < break_width text p = omega (arith, width) in
    let (bom, space, tab, hash) = break_parts _ _ _ some in
    let first : (p == 0 && is_bom text p) ≡ false = no_bom text p bom in
    let second : is_skipped (flow || not allowed) text p ≡ false = no_skip (flow || not allowed) (byte text p) space tab in
    let third : (byte text p == 35) ≡ false = ne_eqb (byte text p) 35 hash in
    let (m, more, far, inside, same) = gap_break n flow allowed text p (p + break_width text p) (rw (first, second, third, lt-ltb 0 (break_width text p) some) refl) room in
    let same_place : (gap_within n flow allowed text p).place ≡ (gap_within m flow (allowed || not flow) text (p + break_width text p)).place = ap (λ (g : Gap). g.place) same in
    let P : ℕ → Type 0 = λ k. (length text ≤ p + k + m) × ((gap_within n flow allowed text p).place ≡ (gap_within m flow (allowed || not flow) text (p + k)).place) in
    let (room_left, place) = subst P width (more, same_place) in
    (m, room_left, place)

step_lexeme : (n : ℕ) (flow allowed : Bool) (text : List ℕ) (p : ℕ) → begins_lexeme text p ≡ true
    → length text ≤ p + n → (gap_within n flow allowed text p).place ≡ p
unfolding step_at
step_lexeme n flow allowed text p h room =
    let (space, tab, hash, none, first) = lexeme_parts (nat_lt 0 (break_width text p)) (p == 0 && is_bom text p) (byte text p) h in
    let second : is_skipped (flow || not allowed) text p ≡ false = no_skip (flow || not allowed) (byte text p) space tab in
    let third : (byte text p == 35) ≡ false = ne_eqb (byte text p) 35 hash in
    ap (λ (g : Gap). g.place) (gap_stop n flow allowed text p p (rw (first, second, third, none) refl) room)

-- ---- widths of breaks

pub lf_width : (c d : ℕ) → break_of 10 c d ≡ 1
unfolding break_of
lf_width c d = refl

pub crlf_width : (d : ℕ) → break_of 13 10 d ≡ 2
unfolding break_of
crlf_width d = refl

pub byte_cases : (b : ℕ) → is_white b ≡ true → (b ≡ 32) ⊎ ((b ≡ 9) ⊎ ((b ≡ 10) ⊎ (b ≡ 13)))
byte_cases b h = grind (arith, nat_tests)

-- ---- where tabs are skipped

-- in brackets all are; else those before a break, where no key may begin
abbrev pub tabs_fit : Bool → Bool → List ℕ → Bool
tabs_fit true allowed ws = true
tabs_fit false true ws = not (has_tab ws)
tabs_fit false false ws = not (has_tab_below ws)

-- a tab that fits is skipped, and the others fit
fits_tab : (flow allowed : Bool) (bs : List ℕ) → tabs_fit flow allowed (9 ∷ bs) ≡ true
    → ((flow || not allowed) ≡ true) × (tabs_fit flow allowed bs ≡ true)
fits_tab true allowed bs h = (refl, refl)
fits_tab false true bs h = absurd (true≢false (sym h))
fits_tab false false bs h = (refl, h)

fits_space : (flow allowed : Bool) (bs : List ℕ) → tabs_fit flow allowed (32 ∷ bs) ≡ true
    → tabs_fit flow allowed bs ≡ true
fits_space true allowed bs h = refl
fits_space false true bs h = h
fits_space false false bs h = h

fits_break : (flow allowed : Bool) (b : ℕ) (bs : List ℕ) → is_break b ≡ true
    → tabs_fit flow allowed (b ∷ bs) ≡ true → tabs_fit flow (allowed || not flow) bs ≡ true
fits_break false true b bs e h = less (b == 9) (has_tab bs) h
  where
    less : (x y : Bool) → not (x || y) ≡ true → not y ≡ true
    less false y h = h
    less true y h = absurd (true≢false (sym h))
fits_break false false b bs e h = rw e at h
fits_break true _ b bs e h = refl

-- ---- gaps

-- gaps of at most k bytes lead to the place after them
abbrev Leads : ℕ → Type 0
Leads k = (n : ℕ) (flow allowed : Bool) (text : List ℕ) (p : ℕ) (ws : List ℕ) → length ws ≤ k → Has text p ws → are_white ws ≡ true → tabs_fit flow allowed ws ≡ true → begins_lexeme text (p + length ws) ≡ true
    → length text ≤ p + n → (gap_within n flow allowed text p).place ≡ p + length ws

with_rest : (n : ℕ) (flow allowed key : Bool) (text : List ℕ) (p q e : ℕ)
    → Goes n flow allowed key text p q
    → ((m : ℕ) → length text ≤ q + m → (gap_within m flow key text q).place ≡ e)
    → (gap_within n flow allowed text p).place ≡ e
with_rest n flow allowed key text p q e (m, more, same) rest = same ∙ rest m more

single : (k : ℕ) → Leads k → (n : ℕ) (flow allowed : Bool) (text : List ℕ) (p : ℕ) (bs : List ℕ)
    → length bs ≤ k → break_width text p ≡ 1 → Has text (p + 1) bs → are_white bs ≡ true
    → tabs_fit flow (allowed || not flow) bs ≡ true
    → begins_lexeme text (p + 1 + length bs) ≡ true → length text ≤ p + n
    → (gap_within n flow allowed text p).place ≡ p + 1 + length bs
single k all n flow allowed text p bs few width h are fits stop room =
    with_rest n flow allowed (allowed || not flow) text p (p + 1) (p + 1 + length bs) (step_break n flow allowed text p 0 width room) (λ m r. all m flow (allowed || not flow) text (p + 1) bs few h are fits stop r)

or_twice : (a b : Bool) → ((a || b) || b) ≡ (a || b)
or_twice true b = refl
or_twice false true = refl
or_twice false false = refl

returns : (k : ℕ) → Leads k → (n : ℕ) (flow allowed : Bool) (text : List ℕ) (p : ℕ) (bs : List ℕ)
    → length bs ≤ k → byte text p ≡ 13 → Has text (p + 1) bs → are_white bs ≡ true
    → tabs_fit flow (allowed || not flow) bs ≡ true
    → begins_lexeme text (p + 1 + length bs) ≡ true → length text ≤ p + n
    → (gap_within n flow allowed text p).place ≡ p + 1 + length bs
returns k all n flow allowed text p [] few e h are fits stop room =
    let z : p + 1 + 0 ≡ p + 1 = omega arith in
    let here : begins_lexeme text (p + 1) ≡ true = rw z at stop in
    let (space, tab, hash, none, first) = lexeme_parts (nat_lt 0 (break_width text (p + 1))) (p + 1 == 0 && is_bom text (p + 1)) (byte text (p + 1)) here in
    let width : break_width text p ≡ 1 = rw e (cr_width (byte text (p + 1)) (byte text (p + 2)) (some_width _ _ _ none)) in
    single k all n flow allowed text p [] few width h are fits stop room
returns k all n flow allowed text p (c ∷ cs) few e (f, h) are fits stop room =
    let (front, back) = and_parts (is_white c) (are_white cs) are in
    let two : p + 1 + 1 ≡ p + 2 = omega arith in
    let far : Has text (p + 2) cs = rw two at h in
    let end : p + 1 + suc (length cs) ≡ p + 2 + length cs = omega arith in
    elim (cases_Bool (c == 10)) [
      | inl s ↦
          let feed : c ≡ 10 = grind (arith, nat_tests) in
          let width : break_width text p ≡ 2 = rw (e, f, feed) (crlf_width (byte text (p + 2))) in
          let after : begins_lexeme text (p + 2 + length cs) ≡ true = rw end at stop in
          let breaks : is_break c ≡ true = rw s refl in
          let less : tabs_fit flow (allowed || not flow) cs ≡ true = ap (λ (b : Bool). tabs_fit flow b cs) (sym (or_twice allowed (not flow))) ∙ fits_break flow (allowed || not flow) c cs breaks fits in
          rw end (with_rest n flow allowed (allowed || not flow) text p (p + 2) (p + 2 + length cs) (step_break n flow allowed text p 1 width room) (λ m r. all m flow (allowed || not flow) text (p + 2) cs (omega (arith, few)) far back less after r))
      | inr s ↦
          let other : c ≢ 10 = λ x. true≢false (sym (ap (λ (b : ℕ). b == 10) x) ∙ s) in
          let width : break_width text p ≡ 1 = rw e (cr_width (byte text (p + 1)) (byte text (p + 2)) (λ x. other (sym f ∙ x))) in
          single k all n flow allowed text p (c ∷ cs) few width (f, h) are fits stop room
    ]

leads : (k : ℕ) → Leads k
leads k n flow allowed text p [] few h are fits stop room =
    let z : p + 0 ≡ p = omega arith in
    let here : begins_lexeme text p ≡ true = rw z at stop in
    step_lexeme n flow allowed text p here room ∙ sym z
leads zero n flow allowed text p (b ∷ bs) few h are fits stop room = absurd (omega (arith, few))
leads (suc k) n flow allowed text p (b ∷ bs) few (e, h) are fits stop room =
    let (front, back) = and_parts (is_white b) (are_white bs) are in
    let end : p + suc (length bs) ≡ p + 1 + length bs = omega arith in
    let after : begins_lexeme text (p + 1 + length bs) ≡ true = rw end at stop in
    elim (byte_cases b front) [
      | inl s ↦
          let less = fits_space flow allowed bs (subst (λ (x : ℕ). tabs_fit flow allowed (x ∷ bs) ≡ true) s fits) in
          rw end (with_rest n flow allowed allowed text p (p + 1) (p + 1 + length bs) (step_space n flow allowed text p (e ∙ s) room) (λ m r. leads k m flow allowed text (p + 1) bs (omega (arith, few)) h back less after r))
      | inr (inl s) ↦
          let (skips, less) = fits_tab flow allowed bs (subst (λ (x : ℕ). tabs_fit flow allowed (x ∷ bs) ≡ true) s fits) in
          rw end (with_rest n flow allowed allowed text p (p + 1) (p + 1 + length bs) (step_tab n flow allowed text p skips (e ∙ s) room) (λ m r. leads k m flow allowed text (p + 1) bs (omega (arith, few)) h back less after r))
      | inr (inr (inl s)) ↦
          let width : break_width text p ≡ 1 = rw (e, s) (lf_width _ _) in
          let breaks : is_break b ≡ true = rw s refl in
          rw end (single k (leads k) n flow allowed text p bs (omega (arith, few)) width h back (fits_break flow allowed b bs breaks fits) after room)
      | inr (inr (inr s)) ↦
          let breaks : is_break b ≡ true = rw s refl in
          rw end (returns k (leads k) n flow allowed text p bs (omega (arith, few)) (e ∙ s) h back (fits_break flow allowed b bs breaks fits) after room)
    ]

-- ---- after a word

-- whether a key may begin after white
abbrev pub may_then : List ℕ → ℕ → Bool → WordText → Bool
may_then text d allows w = (allows || w.broke) || ((gap_at (nat_lt 0 d) (allows || w.broke) text w.reached).broke && not (nat_lt 0 d))

or_off : (a b : Bool) → a ≡ (a || (b && false))
or_off true b = refl
or_off false true = refl
or_off false false = refl

-- the next lexeme begins there
place_leaves : (text : List ℕ) (d : ℕ) (allows : Bool) (w : WordText) (e : ℕ)
    → (gap_at (nat_lt 0 d) (allows || w.broke) text w.reached).place ≡ e
    → begins_lexeme text e ≡ true → WordLeaves text d allows w e (may_then text d allows w) false
place_leaves text d allows w e there stop h at key deep =
    let G : ℕ → Bool → ℕ → Gap = λ n b i. gap_at (nat_lt 0 n) b text i in
    let same : gap_behind text h ≡ gap_at (nat_lt 0 d) (allows || w.broke) text w.reached = ap (λ (i : ℕ). G (flow_depth h) (key_allowed h) i) at ∙ ap (λ (b : Bool). G (flow_depth h) b w.reached) key ∙ ap (λ (n : ℕ). G n (allows || w.broke) w.reached) deep in
    record {
      place = λ gap g.
          let none = nothing_more text e gap stop g in
          let z : e ≡ e + length gap = rw none (omega arith) in
          ap (λ (x : Gap). x.place) same ∙ there ∙ z;
      allowed = λ gap g.
          let none = nothing_more text e gap stop g in
          ap (λ (x : Gap). key_allowed h || (x.broke && not (in_flow h))) same
          ∙ ap (λ (b : Bool). b || ((gap_at (nat_lt 0 d) (allows || w.broke) text w.reached).broke && not (in_flow h))) key
          ∙ ap (λ (n : ℕ). (allows || w.broke) || ((gap_at (nat_lt 0 d) (allows || w.broke) text w.reached).broke && not (nat_lt 0 n))) deep
          ∙ or_off (may_then text d allows w) _;
    }

-- After a word that reaches to white.
pub white_leaves : (text : List ℕ) (d : ℕ) (allows : Bool) (w : WordText) (ws : List ℕ)
    → Has text w.reached ws → are_white ws ≡ true
    → tabs_fit (nat_lt 0 d) (allows || w.broke) ws ≡ true
    → begins_lexeme text (w.reached + length ws) ≡ true
    → WordLeaves text d allows w (w.reached + length ws) (may_then text d allows w) false
white_leaves text d allows w ws h are fits stop = place_leaves text d allows w (w.reached + length ws) (leads (length ws) (length text) (nat_lt 0 d) (allows || w.broke) text w.reached ws (omega arith) h are fits stop (omega arith)) stop

-- After one that has taken it.
pub word_leaves : (text : List ℕ) (d : ℕ) (allows : Bool) (w : WordText)
    → begins_lexeme text w.reached ≡ true
    → WordLeaves text d allows w w.reached (may_then text d allows w) false
word_leaves text d allows w stop =
    let z : w.reached + 0 ≡ w.reached = omega arith in
    subst (λ (e : ℕ). WordLeaves text d allows w e (may_then text d allows w) false) z (white_leaves text d allows w [] tt refl (nothing_fits (nat_lt 0 d) (allows || w.broke)) (ap (λ (e : ℕ). begins_lexeme text e) z ∙ stop))
  where
    nothing_fits : (flow allowed : Bool) → tabs_fit flow allowed [] ≡ true
    nothing_fits true allowed = refl
    nothing_fits false true = refl
    nothing_fits false false = refl
