-- Plain scalars are the same in both texts.
use Rattle.std.proofs.Common.{◌≡◌, ℕ, zero, suc, ◌+◌, ◌-◌, ◌<◌, ◌≤◌, ◌==◌, ◌&&◌, ◌||◌, nat_lt, if◌then◌else◌, Bool, true, false, not, List, [], ◌∷◌, length, Result, refl, sym, ap, ◌∙◌, inl, inr, ◌⊎◌, arith, add_assoc}
use Rattle.yaml_scan_laws.proofs.Shared.{cases_Bool, cases_lt, eqb-true, ltb-true, nat_tests, byte, break_of, break_width, column_at, is_blank, break_value, is_document_indicator, Wrong, Piece, Kept, is_bracket, is_indicator_byte, starts_plain, after_white, leads, PlainSpot, Takes, Faulty, ends_at, spot_at, Words, with_piece, words_from, words, PlainText, plain_with, plain_text, plain_at, within, Alike, is_onward}
use Rattle.yaml_scan_history.specs.Plain.{Ends}
use Rattle.yaml_scan_laws.proofs.Bytes.{IsQuiet, quiet_edge, quiet_break, width_alike, end_alike, next_byte, next_end, column_alike, indicator_alike, and_alike, or_alike}
use Rattle.yaml_scan_laws.proofs.Gaps.{moved_wrong, moved_by, At, at_step, at_break, OkIs, ReadAlike}

three_onward : (b c e : ℕ) → break_of b c e ≡ 3 → (is_onward b ≡ true) × (is_onward c ≡ true)
unfolding break_of is_onward
three_onward b c e h = (grind (arith, nat_tests), grind (arith, nat_tests))

-- a break reads as the same
pub value_alike : (t u : List ℕ) (d m p : ℕ) → Alike t u d m → p < m
    → 0 < break_width t p → break_value u (d + p) ≡ break_value t p
unfolding break_value
value_alike t u d m p a l some =
    let same = width_alike t u d m p a l in
    elim (cases_Bool (break_width t p == 3)) [
      | inr h ↦ rw (same, h) refl
      | inl h ↦
          let on = three_onward (byte t p) (byte t (p + 1)) (byte t (p + 2)) (eqb-true _ _ h) in
          let (more, next) = next_byte t u d m p a l on.0 in
          let (most, last) = next_byte t u d m (p + 1) a more on.1 in
          let e : d + (p + 1) + 1 ≡ d + p + 2 = omega arith in
          let third : byte u (d + p + 2) ≡ byte t (p + 2) = rw (← e, ← (add_assoc p 1 1)) last in
          rw (same, h, third) refl
    ]

-- what is no blank is there or before it
record Led (t : List ℕ) (p : ℕ) : Type 0 where
  pub start : ℕ
  pub order : start ≤ p
  pub text : is_blank (byte t start) ≡ false

later : (t : List ℕ) (p q : ℕ) → Led t p → p ≤ q → Led t q
later t p q k l = let order = k.order in record { start = k.start; order = omega (arith, order, l); text = k.text }

-- it doesn't are there where a blank does
sooner : (t : List ℕ) (p : ℕ) → Led t (suc p) → is_blank (byte t (suc p)) ≡ true → Led t p
sooner t p k h = grind (arith, nat_tests)

leads_alike : (t u : List ℕ) (d m p : ℕ) → Alike t u d m → Led t p → p < m
    → leads u (d + p + 1) ≡ leads t (p + 1)
unfolding leads
leads_alike t u d m zero a k l =
    let e : d + 0 + 1 ≡ suc (d + 0) = omega arith in
    let f : 0 + 1 ≡ suc 0 = omega arith in
    let first : k.start ≡ 0 = omega (arith, k.order) in
    let h : is_blank (byte t 0) ≡ false = ap (λ q. is_blank (byte t q)) (sym first) ∙ k.text in
    rw (e, f, a.ends 0 l, a.bytes 0 l, h) refl
leads_alike t u d m (suc p) a k l =
    let e : d + suc p + 1 ≡ suc (d + suc p) = omega arith in
    let f : suc p + 1 ≡ suc (suc p) = omega arith in
    let g : d + suc p ≡ d + p + 1 = omega arith in
    let h : suc p ≡ p + 1 = omega arith in
    elim (cases_Bool (is_blank (byte t (suc p)))) [
      | inr i ↦ rw (e, f, a.ends (suc p) l, a.bytes (suc p) l, i) refl
      | inl i ↦
          let before : leads u (d + suc p) ≡ leads t (suc p) = ap (leads u) g ∙ leads_alike t u d m p a (sooner t p k i) (omega (arith, l)) ∙ ap (leads t) (sym h) in
          rw (e, f, a.ends (suc p) l, a.bytes (suc p) l, before) refl
    ]

white_alike : (t u : List ℕ) (d m x : ℕ) → Alike t u d m → x < m
    → after_white u (d + (x + 1)) ≡ after_white t (x + 1)
white_alike t u d m x a l =
    let e : d + (x + 1) - 1 ≡ d + x = omega arith in
    let f : x + 1 - 1 ≡ x = omega arith in
    rw (e, f, a.ends x l, a.bytes x l) refl

colon_onward : (b : ℕ) → (b == 58) ≡ true → is_onward b ≡ true
unfolding is_onward
colon_onward b h = grind (arith, nat_tests)

dash_onward : (b : ℕ) → (b == 45) ≡ true → is_onward b ≡ true
unfolding is_onward
dash_onward b h = grind (arith, nat_tests)

mark_onward : (b : ℕ) → (b == 63 || b == 58) ≡ true → is_onward b ≡ true
unfolding is_onward
mark_onward b h = grind (arith, nat_tests)

if_same : (c : Bool) (a b x y : Bool) → a ≡ b → x ≡ y
    → (if c then a else x) ≡ (if c then b else y)
if_same c a b x y h k = grind (arith, nat_tests)

left_alike : (t u : List ℕ) (d m x level : ℕ) → Alike t u d m → Led t x → x + 1 < m
    → (leads u (d + (x + 1)) && nat_lt (column_at u (d + (x + 1))) level)
    ≡ (leads t (x + 1) && nat_lt (column_at t (x + 1)) level)
left_alike t u d m x level a k l =
    let e : d + (x + 1) ≡ d + x + 1 = omega arith in
    let led : leads u (d + (x + 1)) ≡ leads t (x + 1) = rw e (leads_alike t u d m x a k (omega (arith, l))) in
    and_alike _ _ _ _ led (λ h. ap (λ c. nat_lt c level) (column_alike t u d m (x + 1) a (omega (arith, l))))

ends_alike : (t u : List ℕ) (d m : ℕ) (flow : Bool) (level x : ℕ) → Alike t u d m → Led t x
    → x + 1 < m
    → ends_at flow level u (d + (x + 1)) ≡ ends_at flow level t (x + 1)
unfolding ends_at
ends_alike t u d m flow level x a k l =
    let same = a.bytes (x + 1) l in
    or_alike _ _ _ _ (or_alike _ _ _ _ (ap (λ b. b == 0) same) (indicator_alike t u d m (x + 1) a l))
    (or_alike _ _ _ _ (and_alike _ _ _ _ (ap (λ b. b == 35) same) (λ h. white_alike t u d m x a (omega (arith, l))))
    (or_alike _ _ _ _ (and_alike _ _ _ _ (ap (λ b. b == 58) same) (λ h. next_end t u d m (x + 1) a l (colon_onward _ h)))
    (if_same flow _ _ _ _ (ap is_bracket same) (left_alike t u d m x level a k l))))

-- ---- a spot

abbrev moved_spot : ℕ → PlainSpot → PlainSpot
moved_spot d Ends = Ends
moved_spot d (Takes x q) = Takes x (d + q)
moved_spot d (Faulty w) = Faulty (moved_wrong d w)

-- what is taken lies in both texts
abbrev Within : List ℕ → List ℕ → ℕ → ℕ → ℕ → PlainSpot → Type 0
Within t u d m p Ends = Unit {0}
Within t u d m p (Takes x q) = At t u d m q × p < q × p < length t × d + p < length u
Within t u d m p (Faulty w) = Unit {0}

record SpotAlike (t u : List ℕ) (d m p : ℕ) (s r : PlainSpot) : Type 0 where
  pub same : r ≡ moved_spot d s
  pub lies : Within t u d m p s

pub byte_at : (t u : List ℕ) (d m p : ℕ) → Alike t u d m → p < m → 0 < byte t p
    → (p < length t) × (d + p < length u)
byte_at t u d m p a l some = (within t p some, within u (d + p) (rw (a.bytes p l) some))

pub break_first : (b c e : ℕ) → 0 < break_of b c e → 0 < b
unfolding break_of
break_first b c e h = grind (arith, nat_tests)

pub blank_some : (b : ℕ) → is_blank b ≡ true → 0 < b
blank_some b h = grind (arith, nat_tests)

no_zero : (b : ℕ) (x y : Bool) → ((b == 0 || x) || y) ≡ false → 0 < b
no_zero b x y h = grind (arith, nat_tests)

not_ended : (flow : Bool) (level : ℕ) (t : List ℕ) (p : ℕ) → ends_at flow level t p ≡ false
    → 0 < byte t p
unfolding ends_at
not_ended flow level t p h = no_zero (byte t p) _ _ h

question_alike : (t u : List ℕ) (d m p : ℕ) (flow : Bool) → Alike t u d m → p < m
    → (flow && (byte u (d + p) == 58 && (is_bracket (byte u (d + p + 1)) || byte u (d + p + 1) == 63)))
    ≡ (flow && (byte t p == 58 && (is_bracket (byte t (p + 1)) || byte t (p + 1) == 63)))
question_alike t u d m p flow a l =
    and_alike flow flow _ _ refl (λ f. and_alike _ _ _ _ (ap (λ b. b == 58) (a.bytes p l))
    (λ h. ap (λ b. is_bracket b || b == 63) (next_byte t u d m p a l (colon_onward _ h)).1))

spot_alike : (t u : List ℕ) (d m : ℕ) (flow : Bool) (level x : ℕ) → Alike t u d m → Led t x
    → x + 1 < m
    → SpotAlike t u d m (x + 1) (spot_at flow level t (x + 1)) (spot_at flow level u (d + (x + 1)))
unfolding spot_at
spot_alike t u d m flow level x a k l =
    let p = x + 1 in
    let b = a.bytes p l in
    let tab = and_alike _ _ _ _ (ap (λ b. b == 9) b) (λ z. left_alike t u d m x level a k l) in
    rw (tab, ends_alike t u d m flow level x a k l, question_alike t u d m p flow a l, width_alike t u d m p a l, b)
    (elim (cases_Bool (nat_lt 0 (break_width t p))) [
      | inl h ↦
          let some = ltb-true _ _ h in
          let (here, there) = byte_at t u d m p a l (break_first _ _ _ some) in
          rw (h, value_alike t u d m p a l some, add_assoc d p (break_width t p))
          record { same = refl; lies = (at_break t u d m p a l some, omega (arith, some), here, there) }
      | inr h ↦ elim (cases_Bool (is_blank (byte t p))) [
        | inl i ↦
            let some = blank_some _ i in
            let (here, there) = byte_at t u d m p a l some in
            elim (cases_Bool (byte t p == 9 && (leads t p && nat_lt (column_at t p) level))) [
              | inl j ↦ rw (h, i, j) record { same = refl; lies = tt }
              | inr j ↦ rw (h, i, j, add_assoc d p 1) record { same = refl; lies = (at_step t u d m p a l some, omega arith, here, there) }
            ]
        | inr i ↦ elim (cases_Bool (ends_at flow level t p)) [
          | inl j ↦ rw (h, i, j) record { same = refl; lies = tt }
          | inr j ↦
              let some = not_ended flow level t p j in
              let (here, there) = byte_at t u d m p a l some in
              elim (cases_Bool (flow && (byte t p == 58 && (is_bracket (byte t (p + 1)) || byte t (p + 1) == 63)))) [
                | inl o ↦ rw (h, i, j, o) record { same = refl; lies = tt }
                | inr o ↦ rw (h, i, j, o, add_assoc d p 1) record { same = refl; lies = (at_step t u d m p a l some, omega arith, here, there) }
              ]
        ]
      ]
    ])

quiet_indicator_ends : (u : List ℕ) (p : ℕ) (flow : Bool) (level : ℕ)
    → (byte u p ≡ 0) ⊎ (is_document_indicator u p ≡ true) → ends_at flow level u p ≡ true
unfolding ends_at
quiet_indicator_ends u p flow level v4 = grind (arith, nat_tests)

quiet_not_blank : (b : ℕ) → IsQuiet b → is_blank b ≡ false
quiet_not_blank b h1 = grind (arith, nat_tests)

edge_ends : (u : List ℕ) (p : ℕ) (flow : Bool) (level : ℕ) → IsQuiet (byte u p)
    → (byte u p ≡ 0) ⊎ (is_document_indicator u p ≡ true) → spot_at flow level u p ≡ Ends
unfolding spot_at
edge_ends u p flow level q i = grind (arith, nat_tests, quiet_break, quiet_not_blank, quiet_indicator_ends)

-- ---- the words of a scalar

abbrev pub moved_words : ℕ → Words → Words
moved_words d w = record { pieces = w.pieces; end = d + w.end; place = d + w.place; broke = w.broke }

piece_moved : (d q : ℕ) (x : Piece) (w : Words)
    → with_piece x (d + q) (moved_words d w) ≡ moved_words d (with_piece x q w)
piece_moved d q x w = grind (arith, nat_tests)

from_moved : (d q : ℕ) (x : Piece) (r : Result Words Wrong)
    → words_from x (d + q) (moved_by (moved_words d) d r)
    ≡ moved_by (moved_words d) d (words_from x q r)
from_moved d q x r = grind (arith, nat_tests, piece_moved)

-- the words are the same, and end within
abbrev pub PlacedIn : ℕ → Result Words Wrong → Type 0
PlacedIn m r = OkIs (λ (w : Words). w.place ≤ m) r

from_placed : (m q : ℕ) (x : Piece) (r : Result Words Wrong) → PlacedIn m r
    → PlacedIn m (words_from x q r)
from_placed m q x r h = grind (arith, nat_tests)

abbrev WordsAlike : ℕ → ℕ → Result Words Wrong → Result Words Wrong → Type 0
WordsAlike d m r s = ReadAlike (λ (w : Words). w.place ≤ m) (moved_words d) d r s

abbrev Told : List ℕ → List ℕ → ℕ → ℕ → Bool → ℕ → ℕ → ℕ → ℕ → Type 0
Told t u d m flow level p n o = WordsAlike d m (words n flow level t p) (words o flow level u (d + p))

words_end : (t u : List ℕ) (d m : ℕ) (flow : Bool) (level p n o : ℕ) → p ≤ m
    → length t < p + n → p ≤ length t → length u < d + p + o → d + p ≤ length u
    → spot_at flow level t p ≡ Ends → spot_at flow level u (d + p) ≡ Ends
    → Told t u d m flow level p n o
unfolding words
words_end t u d m flow level p n o l fuel short more long e f = grind (arith, nat_tests)

words_fail : (t u : List ℕ) (d m : ℕ) (flow : Bool) (level p n o : ℕ) (w : Wrong)
    → length t < p + n → p ≤ length t → length u < d + p + o → d + p ≤ length u
    → spot_at flow level t p ≡ Faulty w → spot_at flow level u (d + p) ≡ Faulty (moved_wrong d w)
    → Told t u d m flow level p n o
unfolding words
words_fail t u d m flow level p n o w fuel short more long e f = grind (arith, nat_tests)

words_more : (t u : List ℕ) (d m : ℕ) (flow : Bool) (level p n o : ℕ) (x : Piece) (q : ℕ)
    → spot_at flow level t p ≡ Takes x q → spot_at flow level u (d + p) ≡ Takes x (d + q)
    → Told t u d m flow level q n o → Told t u d m flow level p (suc n) (suc o)
unfolding words
words_more t u d m flow level p n o x q e f step = grind (arith, nat_tests, from_moved, from_placed)

pub left_step : (p n x : ℕ) → x < p + n → p ≤ x → (k : ℕ) × (n ≡ suc k)
left_step p zero x h l = absurd (omega (arith, h, l))
left_step p (suc n) x h l = (n, refl)

spot_there : (t u : List ℕ) (d m : ℕ) (flow : Bool) (level x : ℕ) → Alike t u d m → Led t x
    → x + 1 ≤ m
    → SpotAlike t u d m (x + 1) (spot_at flow level t (x + 1)) (spot_at flow level u (d + (x + 1)))
spot_there t u d m flow level x a k l =
    elim (cases_lt (x + 1) m) [
      | inl on ↦ spot_alike t u d m flow level x a k on
      | inr past ↦
          let e : x + 1 ≡ m = omega (arith, l, past) in
          let mine = edge_ends t (x + 1) flow level (inl (rw e a.edge)) (inl (rw e a.edge)) in
          let others = edge_ends u (d + (x + 1)) flow level (rw e (quiet_edge t u d m a)) (rw e a.stops) in
          rw (mine, others) record { same = refl; lies = tt }
    ]

words_by : (k : ℕ) (t u : List ℕ) (d m : ℕ) (flow : Bool) (level x n o : ℕ) (s : PlainSpot)
    → Alike t u d m → Led t x
    → At t u d m (x + 1) → length t ≤ x + 1 + k → length t < x + 1 + n
    → length u < d + (x + 1) + o
    → spot_at flow level t (x + 1) ≡ s → spot_at flow level u (d + (x + 1)) ≡ moved_spot d s
    → Within t u d m (x + 1) s
    → Told t u d m flow level (x + 1) n o
words_by k t u d m flow level x n o Ends a led here room fuel more e f lies =
    words_end t u d m flow level (x + 1) n o here.inside fuel here.short more here.long e f
words_by k t u d m flow level x n o (Faulty w) a led here room fuel more e f lies =
    words_fail t u d m flow level (x + 1) n o w fuel here.short more here.long e f
words_by zero t u d m flow level x n o (Takes y q) a led here room fuel more e f (at, further, mine, others) = absurd (omega (arith, room, mine))
words_by (suc k) t u d m flow level x n o (Takes y q) a led here room fuel more e f (at, further, mine, others) =
    let (i, en) = left_step (x + 1) n (length t) fuel here.short in
    let (j, eo) = left_step (d + (x + 1)) o (length u) more here.long in
    let back : q - 1 + 1 ≡ q = omega (arith, further) in
    let there : At t u d m (q - 1 + 1) = rw back at in
    let less : length t < q - 1 + 1 + i = omega (arith, fuel, en, further) in
    let fewer : length u < d + (q - 1 + 1) + j = omega (arith, more, eo, further) in
    let on = later t x (q - 1) led (omega (arith, further)) in
    let spot = spot_there t u d m flow level (q - 1) a on there.inside in
    let step = words_by k t u d m flow level (q - 1) i j (spot_at flow level t (q - 1 + 1)) a on there (omega (arith, room, further)) less fewer refl spot.same spot.lies in
    let told : Told t u d m flow level q i j = rw back at step in
    rw (en, eo) (words_more t u d m flow level (x + 1) i j y q e f told)

-- ---- the scalar

abbrev pub moved_plain : ℕ → PlainText → PlainText
moved_plain d x = record { value = x.value; end = d + x.end; place = d + x.place; broke = x.broke }

plain_moved : (d : ℕ) (r : Result Words Wrong)
    → plain_with plain_text (moved_by (moved_words d) d r)
    ≡ moved_by (moved_plain d) d (plain_with plain_text r)
plain_moved d r = grind (arith, nat_tests)

abbrev pub PlainIn : ℕ → Result PlainText Wrong → Type 0
PlainIn m r = OkIs (λ (x : PlainText). x.place ≤ m) r

plain_in : (m : ℕ) (r : Result Words Wrong) → PlacedIn m r → PlainIn m (plain_with plain_text r)
plain_in m r h = grind (arith, nat_tests)

-- a plain scalar is the same, moved, and ends within
pub plain_alike : (t u : List ℕ) (d m : ℕ) (flow : Bool) (level p : ℕ) → Alike t u d m → p < m
    → 0 < byte t p → is_blank (byte t p) ≡ false
    → (plain_at flow level u (d + p) ≡ moved_by (moved_plain d) d (plain_at flow level t p))
    × PlainIn m (plain_at flow level t p)
plain_alike t u d m flow level p a l some text =
    let led : Led t p = record { start = p; order = omega arith; text = text } in
    let first = Kept (byte t p ∷ []) in
    let here = at_step t u d m p a l some in
    let spot = spot_there t u d m flow level p a led here.inside in
    let told = words_by (length t) t u d m flow level p (length t) (length u) (spot_at flow level t (p + 1)) a led here (omega arith) (omega arith) (omega arith) refl spot.same spot.lies in
    let r = words (length t) flow level t (p + 1) in
    let same : words_from (Kept (byte u (d + p) ∷ [])) (d + p + 1) (words (length u) flow level u (d + p + 1))
    ≡ moved_by (moved_words d) d (words_from first (p + 1) r) =
    rw (a.bytes p l, add_assoc d p 1, told.same) (from_moved d (p + 1) first r) in
    (rw same (plain_moved d (words_from first (p + 1) r)), plain_in m (words_from first (p + 1) r) (from_placed m (p + 1) first r told.placed))

-- what begins a plain scalar
pub starts_alike : (t u : List ℕ) (d m p : ℕ) (flow : Bool) → Alike t u d m → p < m
    → starts_plain flow u (d + p) ≡ starts_plain flow t p
unfolding starts_plain
starts_alike t u d m p flow a l =
    let same = a.bytes p l in
    let next = λ (o : is_onward (byte t p) ≡ true). next_byte t u d m p a l o in
    and_alike _ _ _ _ (ap not (end_alike t u d m p a l))
    (λ h. or_alike _ _ _ _ (or_alike _ _ _ _ (ap (λ b. not (is_indicator_byte b)) same)
    (and_alike _ _ _ _ (ap (λ b. b == 45) same) (λ i. ap (λ b. not (is_blank b)) (next (dash_onward _ i)).1)))
    (and_alike _ _ _ _ refl (λ i. and_alike _ _ _ _ (ap (λ b. b == 63 || b == 58) same) (λ j. ap not (next_end t u d m p a l (mark_onward _ j))))))
