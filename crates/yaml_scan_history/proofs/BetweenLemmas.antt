-- Gaps between lexemes, a step at a time.
use Rattle.std.proofs.Common.{◌≡◌, ◌≢◌, ℕ, zero, suc, ◌+◌, ◌<◌, ◌≤◌, ◌==◌, ◌&&◌, ◌||◌, nat_lt, Bool, true, false, not, List, length, refl, ap, inl, inr, ◌⊎◌, arith, rules}
use Rattle.yaml_scan_history.proofs.Words.{cond_both, and_parts, eqb-true, lt-ltb, ltb-true, ne_eqb, nat_tests, byte, break_of, break_width, is_blank, is_bom, no_break_between, past-inside, past_break, past_some, text_parts, within, is_text, GapSpot, GapStep, step_at, is_skipped, Gap, gap_at, gap_behind, with_break, gap_within}
use Rattle.yaml_scan_history.specs.declared.between.GapSpot.TheVariants as gap_spots
use Rattle.yaml_scan_history.proofs.WordsRunsLemmas.{blank_parts}

-- ---- bytes

-- what a byte that begins a break is not
pub break_parts : (b c d : ℕ) → 0 < break_of b c d → (b ≢ 0xEF) × (b ≢ 32) × (b ≢ 9) × (b ≢ 35)
unfolding break_of
break_parts b c d h = (grind (arith, nat_tests), grind (arith, nat_tests), grind (arith, nat_tests), grind (arith, nat_tests))

pub break_inside : (text : List ℕ) (p : ℕ) → 0 < break_width text p → p < length text
break_inside text p h = let inside = (past_break text p h).inside in omega arith

not_first : (first : Bool) (a b c : ℕ) → a ≢ 0xEF
    → (first && (a == 0xEF && (b == 0xBB && c == 0xBF))) ≡ false
not_first true a b c h = grind (arith, nat_tests)
not_first false a b c h = refl

-- no byte order mark is there
pub no_bom : (text : List ℕ) (p : ℕ) → byte text p ≢ 0xEF → (p == 0 && is_bom text p) ≡ false
no_bom text p h = not_first (p == 0) (byte text p) (byte text (p + 1)) (byte text (p + 2)) h

-- no white is there
pub no_skip : (tabs : Bool) (b : ℕ) → b ≢ 32 → b ≢ 9 → (b == 32 || (tabs && b == 9)) ≡ false
no_skip true b h i = grind (arith, nat_tests)
no_skip false b h i = grind (arith, nat_tests)

feed_of : (b c d : ℕ) → b ≡ 10 → break_of b c d ≡ 1
unfolding break_of
feed_of b c d h = rw h refl

-- a line feed is a break of one byte
pub feed_width : (text : List ℕ) (p : ℕ) → byte text p ≡ 10 → break_width text p ≡ 1
feed_width text p h = feed_of (byte text p) (byte text (p + 1)) (byte text (p + 2)) h

-- the bytes of U+FEFF
pub bom_bytes : (text : List ℕ) (p : ℕ) → is_bom text p ≡ true
    → (byte text p ≡ 0xEF) × (byte text (p + 1) ≡ 0xBB) × (byte text (p + 2) ≡ 0xBF)
bom_bytes text p h = (grind (arith, nat_tests), grind (arith, nat_tests), grind (arith, nat_tests))

skipped_blank : (b : ℕ) (tabs : Bool) → (b == 32 || (tabs && b == 9)) ≡ true → is_blank b ≡ true
skipped_blank b true h = h
skipped_blank b false h = grind (arith, nat_tests)

pub skipped_here : (tabs : Bool) (text : List ℕ) (p : ℕ) → is_skipped tabs text p ≡ true
    → (0 < byte text p) × (break_width text p ≡ 0)
skipped_here tabs text p h = blank_parts _ _ _ (skipped_blank (byte text p) tabs h)

hash_text : (text : List ℕ) (p : ℕ) → byte text p ≡ 35 → is_text text p ≡ true
hash_text text p h = search (rules, no_break_between)

-- ---- steps

-- a space is passed
pub space_here : (tabs : Bool) (text : List ℕ) (p : ℕ) → byte text p ≡ 32
    → step_at tabs text p ≡ record { standing = gap_spots.Blank; place = p + 1 }
unfolding step_at
space_here tabs text p h = rw (no_bom text p (omega arith), h) refl

-- a break is passed
pub break_here : (tabs : Bool) (text : List ℕ) (p : ℕ) → 0 < break_width text p
    → step_at tabs text p ≡ record { standing = gap_spots.Break; place = p + break_width text p }
unfolding step_at
break_here tabs text p h = search (rules, break_parts, lt-ltb, ne_eqb, no_bom, no_skip)

-- what begins neither white nor a comment nor a break, stays
pub stays : (tabs : Bool) (text : List ℕ) (p : ℕ) → byte text p ≢ 32 → byte text p ≢ 9
    → byte text p ≢ 35 → nat_lt 0 (break_width text p) ≡ false → (p == 0 && is_bom text p) ≡ false
    → step_at tabs text p ≡ record { standing = gap_spots.Lexeme; place = p }
unfolding step_at
stays tabs text p space tab hash none first = search (rules, ne_eqb, no_skip)

-- a step stops at a lexeme, or goes on inside the text
abbrev Moved : List ℕ → ℕ → GapStep → Type 0
Moved text p s = (s ≡ record { standing = gap_spots.Lexeme; place = p }) ⊎ ((p < s.place) × (s.place ≤ length text))

-- each step does
pub step_moves : (tabs : Bool) (text : List ℕ) (p : ℕ) → Moved text p (step_at tabs text p)
unfolding step_at
step_moves tabs text p =
    cond_both (p == 0 && is_bom text p) _ _ (Moved text p) (λ h.
    let (a, b, c) = bom_bytes text p (and_parts _ _ h).1 in
    let last = within text (p + 2) (omega arith) in
    inr (omega arith, omega arith)) (λ h.
    cond_both (is_skipped tabs text p) _ _ (Moved text p) (λ i.
    let here = within text p (skipped_here tabs text p i).0 in
    inr (omega arith, omega arith)) (λ i.
    cond_both (byte text p == 35) _ _ (Moved text p) (λ j.
    let e = eqb-true _ _ j in
    let here = within text p (omega arith) in
    inr (past_some is_text text p (hash_text text p e) (omega arith), past-inside is_text (length text) text p (λ q t. (text_parts text q t).0) (omega arith))) (λ j.
    cond_both (nat_lt 0 (break_width text p)) _ _ (Moved text p) (λ k.
    let some : 0 < break_width text p = ltb-true _ _ k in
    inr (omega arith, (past_break text p some).inside)) (λ k. inl refl))))

-- what is no lexeme is passed
pub moves_on : (tabs : Bool) (text : List ℕ) (p : ℕ) (s : GapSpot) (q : ℕ)
    → ◌≡◌ {A = GapStep} (step_at tabs text p) (record { standing = s; place = q })
    → s ≢ gap_spots.Lexeme → (p < q) × (q ≤ length text)
moves_on tabs text p s q h other = search (rules, step_moves)

-- ---- gaps

behind_same : (f g : Bool → ℕ → Gap) (flow allowed : Bool) (s : GapSpot) (q : ℕ)
    → ((key : Bool) → f key q ≡ g key q)
    → gap_behind f flow allowed s q ≡ gap_behind g flow allowed s q
behind_same f g flow allowed gap_spots.Blank q h = h allowed
behind_same f g flow allowed gap_spots.Break q h = ap (with_break true) (h (allowed || not flow))
behind_same f g flow allowed gap_spots.Lexeme q h = refl

-- A gap is a step, and the gap after it in as many steps, if these reach the end.
gap_turn : (n : ℕ) (flow allowed : Bool) (text : List ℕ) (p : ℕ) → length text ≤ p + n
    → gap_within n flow allowed text p
    ≡ gap_behind (λ key q. gap_within n flow key text q) flow allowed
    (step_at (flow || not allowed) text p).standing (step_at (flow || not allowed) text p).place
unfolding gap_within
gap_turn zero flow allowed text p room = search (rules, step_moves)
gap_turn (suc n) flow allowed text p room =
    elim (step_moves (flow || not allowed) text p) [
      | inl e ↦ rw e refl
      | inr (far, inside) ↦
          let step = step_at (flow || not allowed) text p in
          behind_same (λ key q. gap_within n flow key text q) (λ key q. gap_within (suc n) flow key text q) flow allowed step.standing step.place (λ key. gap_turn n flow key text step.place (omega arith))
    ]

-- A gap is its first step, and the gap after that.
pub gap_here : (flow allowed : Bool) (text : List ℕ) (p : ℕ)
    → gap_at flow allowed text p
    ≡ gap_behind (λ key q. gap_at flow key text q) flow allowed
    (step_at (flow || not allowed) text p).standing (step_at (flow || not allowed) text p).place
gap_here flow allowed text p = gap_turn (length text) flow allowed text p (omega arith)

-- what is left of a gap after a blank
pub gap_blank : (n : ℕ) (flow allowed : Bool) (text : List ℕ) (p q : ℕ)
    → step_at (flow || not allowed) text p ≡ record { standing = gap_spots.Blank; place = q }
    → length text ≤ p + n
    → (m : ℕ) × (length text ≤ q + m) × (p < q) × (p < length text)
    × (gap_within n flow allowed text p ≡ gap_within m flow allowed text q)
gap_blank n flow allowed text p q h room =
    let (far, inside) = moves_on _ text p gap_spots.Blank q h (λ b. cc) in
    (n, omega arith, far, omega arith, rw h at (gap_turn n flow allowed text p room))

-- what is left of a gap after a break
pub gap_break : (n : ℕ) (flow allowed : Bool) (text : List ℕ) (p q : ℕ)
    → step_at (flow || not allowed) text p ≡ record { standing = gap_spots.Break; place = q }
    → length text ≤ p + n
    → (m : ℕ) × (length text ≤ q + m) × (p < q) × (p < length text)
    × (gap_within n flow allowed text p
    ≡ with_break true (gap_within m flow (allowed || not flow) text q))
gap_break n flow allowed text p q h room =
    let (far, inside) = moves_on _ text p gap_spots.Break q h (λ b. cc) in
    (n, omega arith, far, omega arith, rw h at (gap_turn n flow allowed text p room))

-- A gap stops at a lexeme.
pub gap_stop : (n : ℕ) (flow allowed : Bool) (text : List ℕ) (p q : ℕ)
    → step_at (flow || not allowed) text p ≡ record { standing = gap_spots.Lexeme; place = q }
    → length text ≤ p + n → gap_within n flow allowed text p ≡ record { place = q; broke = false }
gap_stop n flow allowed text p q h room = rw h at (gap_turn n flow allowed text p room)
