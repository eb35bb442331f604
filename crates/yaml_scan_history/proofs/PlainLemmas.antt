-- Plain scalars, a step at a time.
use Rattle.std.proofs.Common.{◌≡◌, ℕ, zero, suc, ◌+◌, ◌-◌, ◌<◌, ◌≤◌, Bool, true, false, List, [], ◌∷◌, length, Result, refl, sym, ap, ◌∙◌, ◌==◌, nat_lt, ◌||◌, ◌&&◌, arith, add-one, rules}
use Rattle.yaml_scan_history.proofs.ScalarWords.{cases_lt, cond_both, ltb-true, lt-ltb, nat_tests, Piece, Kept, Blank, Break, byte, break_width, ends_break, is_blank, column_at, feed_at, Wrong, PlainSpot, Ends, Takes, Faulty, Words, is_bracket, words_from, follows, words, plain_at, plain_text, plain_with, spot_at, ends_at, leads, after_white, within, past_break, end_not_blank, last_of}

-- white before a place

-- A blank goes on with a line's lead.
pub leads-blank : (text : List ℕ) (p : ℕ) → is_blank (byte text p) ≡ true
    → leads text (p + 1) ≡ leads text p
unfolding leads
leads-blank text p h = rw (add-one, h) refl

-- What is neither a blank nor the end of a break ends a line's lead.
pub leads-text : (text : List ℕ) (p : ℕ) → is_blank (byte text p) ≡ false
    → ends_break text p ≡ false → leads text (p + 1) ≡ false
unfolding leads
leads-text text p h e = rw (add-one, h, e) refl

pub white-suc : (text : List ℕ) (p : ℕ)
    → after_white text (p + 1) ≡ (is_blank (byte text p) || ends_break text p)
white-suc text p = let z : p + 1 - 1 ≡ p = omega arith in rw z refl

-- No white is before the place after another byte.
pub white-text : (text : List ℕ) (p : ℕ) → is_blank (byte text p) ≡ false
    → ends_break text p ≡ false → after_white text (p + 1) ≡ false
white-text text p h e = white-suc text p ∙ rw (h, e) refl

-- White is before the place after a blank.
pub white-blank : (text : List ℕ) (p : ℕ) → is_blank (byte text p) ≡ true
    → after_white text (p + 1) ≡ true
white-blank text p h = white-suc text p ∙ rw h refl

pub record InLead (text : List ℕ) (p q : ℕ) : Type 0 where
  pub leading : true ≡ leads text q
  pub white : true ≡ after_white text q
  pub further : p < q
  pub inside : p < length text

-- After a break a line's lead begins.
pub lead_break : (text : List ℕ) (p : ℕ) → 0 < break_width text p
    → InLead text p (p + break_width text p)
lead_break text p h =
    let l = last_of text p h in
    let past = past_break text p h in
    let b = end_not_blank _ _ _ _ l.ends in
    let le : leads text (p + break_width text p) ≡ true = rw l.next (unfold leads in rw (add-one, b, l.ends) refl) in
    let wh : after_white text (p + break_width text p) ≡ true = rw l.next (white-suc text l.byte_at ∙ rw (b, l.ends) refl) in
    record { leading = sym le; white = sym wh; further = omega arith; inside = omega (arith, past.inside) }

-- what is at a place

-- A break is taken as what it reads as.
pub spot_break : (flow : Bool) (level : ℕ) (text : List ℕ) (p : ℕ) → 0 < break_width text p
    → spot_at flow level text p ≡ Takes (Break (feed_at text p)) (p + break_width text p)
unfolding spot_at
spot_break flow level text p h = rw (lt-ltb 0 _ h) refl

-- A blank is taken as one, unless it is a tab in a line's lead.
pub spot_blank : (flow : Bool) (level : ℕ) (text : List ℕ) (p : ℕ) → break_width text p ≡ 0
    → is_blank (byte text p) ≡ true
    → (byte text p == 9 && (leads text p && nat_lt (column_at text p) level)) ≡ false
    → spot_at flow level text p ≡ Takes (Blank (byte text p)) (p + 1)
unfolding spot_at
spot_blank flow level text p z h t = rw (z, h, t) refl

-- What ends a plain scalar isn't taken.
pub spot_ends : (flow : Bool) (level : ℕ) (text : List ℕ) (p : ℕ) → break_width text p ≡ 0
    → is_blank (byte text p) ≡ false
    → ends_at flow level text p ≡ true → spot_at flow level text p ≡ Ends
unfolding spot_at
spot_ends flow level text p z h t = rw (z, h, t) refl

-- Any other byte is kept as it is.
pub spot_kept : (flow : Bool) (level : ℕ) (text : List ℕ) (p : ℕ) → break_width text p ≡ 0
    → is_blank (byte text p) ≡ false
    → ends_at flow level text p ≡ false
    → (flow && (byte text p == 58 && (is_bracket (byte text (p + 1)) || byte text (p + 1) == 63)))
    ≡ false
    → spot_at flow level text p ≡ Takes (Kept (byte text p ∷ [])) (p + 1)
unfolding spot_at
spot_kept flow level text p z h t k = rw (z, h, t, k) refl

-- Where a plain scalar doesn't end, there is a byte.
pub not_ended : (flow : Bool) (level : ℕ) (text : List ℕ) (p : ℕ)
    → ends_at flow level text p ≡ false → 0 < byte text p
unfolding ends_at
not_ended flow level text p h = search (rules, cases_lt)

pub blank_inside : (text : List ℕ) (p : ℕ) → is_blank (byte text p) ≡ true → p < length text
blank_inside text p h = within text p (grind (arith, nat_tests))

-- a byte that is no blank and ends no break leads nothing
pub lead_text : (text : List ℕ) (p : ℕ) → is_blank (byte text p) ≡ false → ends_break text p ≡ false
    → (false ≡ leads text (p + 1)) × (false ≡ after_white text (p + 1))
lead_text text p h e = (sym (leads-text text p h e), sym (white-text text p h e))

-- ---- as many steps as reach the end

abbrev pub Moved : List ℕ → ℕ → PlainSpot → Type 0
Moved text p Ends = Unit {0}
Moved text p (Takes x q) = (p < q) × (p < length text)
Moved text p (Faulty w) = Unit {0}

pub spot_moves : (flow : Bool) (level : ℕ) (text : List ℕ) (p : ℕ)
    → Moved text p (spot_at flow level text p)
unfolding spot_at
spot_moves flow level text p =
    cond_both (nat_lt 0 (break_width text p)) _ _ (Moved text p) (λ a.
    let lead = lead_break text p (ltb-true _ _ a) in (lead.further, lead.inside)) (λ a.
    cond_both (is_blank (byte text p)) _ _ (Moved text p) (λ b.
    cond_both (byte text p == 9 && (leads text p && nat_lt (column_at text p) level)) _ _ (Moved text p) (λ c. tt) (λ c. (omega arith, blank_inside text p b))) (λ b.
    cond_both (ends_at flow level text p) _ _ (Moved text p) (λ c. tt) (λ c.
    cond_both (flow && (byte text p == 58 && (is_bracket (byte text (p + 1)) || byte text (p + 1) == 63))) _ _ (Moved text p) (λ d. tt) (λ d.
    (omega arith, within text p (not_ended flow level text p c))))))

follows_same : (f g : ℕ → Result Words Wrong) (p : ℕ) (s : PlainSpot)
    → ((x : Piece) (q : ℕ) → s ≡ Takes x q → f q ≡ g q) → follows f p s ≡ follows g p s
follows_same f g p s h = grind arith

words_enough : (n : ℕ) (flow : Bool) (level : ℕ) (text : List ℕ) (p : ℕ) → length text ≤ p + n
    → words (suc n) flow level text p ≡ words (suc (suc n)) flow level text p
unfolding words
words_enough zero flow level text p room = search (rules, follows_same, spot_moves)
words_enough (suc n) flow level text p room =
    follows_same (words (suc n) flow level text) (words (suc (suc n)) flow level text) p (spot_at flow level text p)
    (λ x q e. let (far, inside) = rw e at (spot_moves flow level text p) in words_enough n flow level text q (omega arith))

-- what follows a place
abbrev pub words_on : Bool → ℕ → List ℕ → ℕ → Result Words Wrong
words_on flow level text p = words (suc (length text)) flow level text p

-- The words from a place on are what is there, and those after it.
pub words_here : (flow : Bool) (level : ℕ) (text : List ℕ) (p : ℕ)
    → words_on flow level text p
    ≡ follows (words_on flow level text) p (spot_at flow level text p)
unfolding words
words_here flow level text p = words_enough (length text) flow level text p (omega arith)

-- A plain scalar is its first byte and what goes on after it.
pub plain_whole : (flow : Bool) (level : ℕ) (text : List ℕ) (p : ℕ) → p < length text
    → plain_at flow level text p ≡ plain_with plain_text
    (words_from (Kept (byte text p ∷ [])) (p + 1) (words_on flow level text (p + 1)))
plain_whole flow level text p h =
    let n : suc (length text - 1) ≡ length text = omega arith in
    ap (λ r. plain_with plain_text (words_from (Kept (byte text p ∷ [])) (p + 1) r)) (rw n at (words_enough (length text - 1) flow level text (p + 1) (omega arith)))

-- ---- turns

-- what a plain scalar starts with
