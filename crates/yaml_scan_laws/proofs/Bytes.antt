-- What bytes show: breaks, columns, indicators.
use Rattle.std.proofs.Common.{add_assoc, ◌≡◌, ℕ, zero, suc, ◌+◌, ◌<◌, ◌≤◌, ◌==◌, ◌&&◌, ◌||◌, Bool, true, false, List, refl, sym, ap, ◌∙◌, inl, inr, ◌⊎◌, arith}
use Rattle.yaml_scan_laws.proofs.Shared.{cases_Bool, cases_lt, and_parts, eqb-true, nat_tests, byte, break_of, break_width, line_at, column_at, is_blank_or_end, is_document_indicator, is_thrice, is_document_start, is_document_end, Alike, is_onward}

-- what doesn't go on is the end, LF or CR
pub off_cases : (b : ℕ) → is_onward b ≡ false → (b ≡ 0) ⊎ ((b ≡ 10) ⊎ (b ≡ 13))
unfolding is_onward
off_cases b h = grind (arith, nat_tests)

pub onward_some : (b : ℕ) → is_onward b ≡ true → 0 < b
unfolding is_onward
onward_some b h = grind (arith, nat_tests)

pub off_break : (b : ℕ) → (b ≡ 10) ⊎ (b ≡ 13) → is_onward b ≡ false
unfolding is_onward
off_break b h1 = grind (arith, nat_tests)

-- a byte that ends a text, or begins an indicator of documents
abbrev pub IsQuiet : ℕ → Type 0
IsQuiet b = (b ≡ 0) ⊎ ((b ≡ 45) ⊎ (b ≡ 46))

-- what is in the other text where this one ends
pub quiet_edge : (t u : List ℕ) (d m : ℕ) → Alike t u d m → IsQuiet (byte u (d + m))
unfolding is_document_indicator
quiet_edge t u d m a = grind (arith, nat_tests)

-- after a byte that goes on, the next one
pub next_byte : (t u : List ℕ) (d m p : ℕ) → Alike t u d m → p < m → is_onward (byte t p) ≡ true
    → (p + 1 < m) × (byte u (d + p + 1) ≡ byte t (p + 1))
next_byte t u d m p a l o =
    let more = a.onward p l o in
    (more, rw (add_assoc d p 1) (a.bytes (p + 1) more))

no_break_then : (b c d e f : ℕ) → is_onward b ≡ true → is_onward c ≡ false
    → break_of b c d ≡ break_of b c e
unfolding is_onward break_of
no_break_then b c d e f h k = grind (arith, nat_tests)

pub quiet_break : (b c x y : ℕ) → IsQuiet b → break_of b x y ≡ 0
unfolding break_of
quiet_break b c x y h4 = grind (arith, nat_tests)

lone_cr : (b c d e f : ℕ) → is_onward b ≡ false → ((c == 10) ≡ (e == 10))
    → break_of b c d ≡ break_of b e f
unfolding is_onward break_of
lone_cr b c d e f h k = grind (arith, nat_tests)

quiet_feed : (b : ℕ) → IsQuiet b → (b == 10) ≡ false
quiet_feed b h1 = grind (arith, nat_tests)

-- the byte after is a line feed in both or in neither
next_feed : (t u : List ℕ) (d m p : ℕ) → Alike t u d m → p < m
    → (byte u (d + p + 1) == 10) ≡ (byte t (p + 1) == 10)
next_feed t u d m p a l =
    elim (cases_lt (p + 1) m) [
      | inl more ↦ rw (add_assoc d p 1, a.bytes (p + 1) more) refl
      | inr past ↦
          let here : p + 1 ≡ m = omega arith in
          let quiet = quiet_feed (byte u (d + m)) (quiet_edge t u d m a) in
          rw (add_assoc d p 1, here, quiet, a.edge) refl
    ]

-- the same break is there
pub width_alike : (t u : List ℕ) (d m p : ℕ) → Alike t u d m → p < m
    → break_width u (d + p) ≡ break_width t p
width_alike t u d m p a l =
    let same = a.bytes p l in
    elim (cases_Bool (is_onward (byte t p))) [
      | inr h ↦ rw same (sym (lone_cr (byte t p) (byte t (p + 1)) (byte t (p + 2)) (byte u (d + p + 1)) (byte u (d + p + 2)) h (sym (next_feed t u d m p a l))))
      | inl h ↦
          let (more, next) = next_byte t u d m p a l h in
          elim (cases_Bool (is_onward (byte t (p + 1)))) [
            | inr k ↦ rw (same, next) (no_break_then (byte t p) (byte t (p + 1)) (byte u (d + p + 2)) (byte t (p + 2)) 0 h k)
            | inl k ↦
                let (most, third) = next_byte t u d m (p + 1) a more k in
                let e : d + (p + 1) + 1 ≡ d + p + 2 = omega arith in
                let f : p + 1 + 1 ≡ p + 2 = omega arith in
                let last : byte u (d + p + 2) ≡ byte t (p + 2) = rw (← e, ← f) third in
                rw (same, next, last) refl
          ]
    ]

-- a blank, a break or the end is there in both
pub end_alike : (t u : List ℕ) (d m p : ℕ) → Alike t u d m → p < m
    → is_blank_or_end u (d + p) ≡ is_blank_or_end t p
end_alike t u d m p a l = rw (width_alike t u d m p a l, a.bytes p l) refl

-- and after a byte that goes on
pub next_end : (t u : List ℕ) (d m p : ℕ) → Alike t u d m → p < m → is_onward (byte t p) ≡ true
    → is_blank_or_end u (d + p + 1) ≡ is_blank_or_end t (p + 1)
next_end t u d m p a l o =
    rw (add_assoc d p 1) (end_alike t u d m (p + 1) a (a.onward p l o))

-- ---- columns and lines

pub column_alike : (t u : List ℕ) (d m p : ℕ) → Alike t u d m → p ≤ m
    → column_at u (d + p) ≡ column_at t p
unfolding column_at
column_alike t u d m zero a l = let e : d + 0 ≡ d = omega arith in rw e a.column
column_alike t u d m (suc p) a l =
    let e : d + suc p ≡ suc (d + p) = omega arith in
    rw (e, a.ends p (omega (arith, l)), a.bytes p (omega (arith, l)), column_alike t u d m p a (omega (arith, l))) refl

pub line_alike : (t u : List ℕ) (d m p : ℕ) → Alike t u d m → p ≤ m
    → line_at u (d + p) ≡ line_at u d + line_at t p
unfolding line_at
line_alike t u d m zero a l = let e : d + 0 ≡ d = omega arith in rw e (omega arith)
line_alike t u d m (suc p) a l =
    let e : d + suc p ≡ suc (d + p) = omega arith in
    rw (e, a.ends p (omega (arith, l)), line_alike t u d m p a (omega (arith, l))) (omega arith)

-- ---- indicators

pub and_alike : (a b x y : Bool) → a ≡ b → (b ≡ true → x ≡ y) → (a && x) ≡ (b && y)
and_alike a b x y h k = grind (arith, nat_tests)

onward_dash : (b : ℕ) → b ≡ 45 → is_onward b ≡ true
unfolding is_onward
onward_dash b h = rw h refl

onward_dot : (b : ℕ) → b ≡ 46 → is_onward b ≡ true
unfolding is_onward
onward_dot b h = rw h refl

-- three of a byte that goes on are in both or in neither, and after them the place is within
pub thrice_within : (t u : List ℕ) (d m p x : ℕ) → Alike t u d m → p < m → is_onward x ≡ true
    → ((byte t p == x && byte t (p + 1) == x) && byte t (p + 2) == x) ≡ true → p + 3 < m
thrice_within t u d m p x a l o h =
    let (both, third) = and_parts (byte t p == x && byte t (p + 1) == x) (byte t (p + 2) == x) h in
    let (first, second) = and_parts (byte t p == x) (byte t (p + 1) == x) both in
    let one = a.onward p l (ap is_onward (eqb-true _ _ first) ∙ o) in
    let two = a.onward (p + 1) one (ap is_onward (eqb-true _ _ second) ∙ o) in
    let more : p + 2 < m = omega (arith, two) in
    omega (arith, a.onward (p + 2) more (ap is_onward (eqb-true _ _ third) ∙ o))

pub thrice_alike : (t u : List ℕ) (d m p x : ℕ) → Alike t u d m → p < m → is_onward x ≡ true
    → ((byte u (d + p) == x && byte u (d + p + 1) == x) && byte u (d + p + 2) == x)
    ≡ ((byte t p == x && byte t (p + 1) == x) && byte t (p + 2) == x)
thrice_alike t u d m p x a l o =
    and_alike _ _ _ _ (and_alike _ _ _ _ (ap (λ b. b == x) (a.bytes p l)) (λ h. ap (λ b. b == x) (next_byte t u d m p a l (ap is_onward (eqb-true _ _ h) ∙ o)).1))
    (λ h.
    let (first, second) = and_parts (byte t p == x) (byte t (p + 1) == x) h in
    let one = a.onward p l (ap is_onward (eqb-true _ _ first) ∙ o) in
    let e : d + (p + 1) + 1 ≡ d + p + 2 = omega arith in
    let third = (next_byte t u d m (p + 1) a one (ap is_onward (eqb-true _ _ second) ∙ o)).1 in
    let last : byte u (d + p + 2) ≡ byte t (p + 2) = rw (← e, ← (add_assoc p 1 1)) third in
    ap (λ b. b == x) last)

far_end : (t u : List ℕ) (d m p : ℕ) → Alike t u d m → p + 3 < m
    → is_blank_or_end u (d + p + 3) ≡ is_blank_or_end t (p + 3)
far_end t u d m p a l = let e : d + p + 3 ≡ d + (p + 3) = omega arith in rw e (end_alike t u d m (p + 3) a l)

either_within : (t u : List ℕ) (d m p : ℕ) → Alike t u d m → p < m
    → (((byte t p == 45 && byte t (p + 1) == 45) && byte t (p + 2) == 45)
    || ((byte t p == 46 && byte t (p + 1) == 46) && byte t (p + 2) == 46)) ≡ true
    → p + 3 < m
either_within t u d m p a l h =
    elim (cases_Bool ((byte t p == 45 && byte t (p + 1) == 45) && byte t (p + 2) == 45)) [
      | inl e ↦ thrice_within t u d m p 45 a l (onward_dash 45 refl) e
      | inr e ↦
          let other : ((byte t p == 46 && byte t (p + 1) == 46) && byte t (p + 2) == 46) ≡ true = rw e at h in
          thrice_within t u d m p 46 a l (onward_dot 46 refl) other
    ]

pub or_alike : (a b x y : Bool) → a ≡ b → x ≡ y → (a || x) ≡ (b || y)
or_alike a b x y h k = rw (h, k) refl

pub indicator_alike : (t u : List ℕ) (d m p : ℕ) → Alike t u d m → p < m
    → is_document_indicator u (d + p) ≡ is_document_indicator t p
unfolding is_document_indicator
indicator_alike t u d m p a l =
    let column = column_alike t u d m p a (omega (arith, l)) in
    and_alike _ _ _ _ (and_alike _ _ _ _ (ap (λ c. c == 0) column)
    (λ c. or_alike _ _ _ _ (thrice_alike t u d m p 45 a l (onward_dash 45 refl)) (thrice_alike t u d m p 46 a l (onward_dot 46 refl))))
    (λ h. far_end t u d m p a (either_within t u d m p a l (and_parts _ _ h).1))

and_left : (a b c : Bool) → (a && (b && c)) ≡ true → ((a && b) && c) ≡ true
and_left a b c h = grind (arith, nat_tests)

assoc_alike : (a b c x y z : Bool) → ((a && b) && c) ≡ ((x && y) && z)
    → (a && (b && c)) ≡ (x && (y && z))
assoc_alike a b c x y z h = grind (arith, nat_tests)

pub three_alike : (t u : List ℕ) (d m p x : ℕ) → Alike t u d m → p < m → is_onward x ≡ true
    → is_thrice x u (d + p) ≡ is_thrice x t p
three_alike t u d m p x a l o = assoc_alike (byte u (d + p) == x) (byte u (d + p + 1) == x) (byte u (d + p + 2) == x) (byte t p == x) (byte t (p + 1) == x) (byte t (p + 2) == x) (thrice_alike t u d m p x a l o)

three_within : (t u : List ℕ) (d m p x : ℕ) → Alike t u d m → p < m → is_onward x ≡ true
    → is_thrice x t p ≡ true → p + 3 < m
three_within t u d m p x a l o h = thrice_within t u d m p x a l o (and_left (byte t p == x) (byte t (p + 1) == x) (byte t (p + 2) == x) h)

mark_alike : (t u : List ℕ) (d m p x : ℕ) → Alike t u d m → p < m → is_onward x ≡ true
    → ((column_at u (d + p) == 0 && is_thrice x u (d + p)) && is_blank_or_end u (d + p + 3))
    ≡ ((column_at t p == 0 && is_thrice x t p) && is_blank_or_end t (p + 3))
mark_alike t u d m p x a l o =
    let column = column_alike t u d m p a (omega (arith, l)) in
    and_alike (column_at u (d + p) == 0 && is_thrice x u (d + p)) (column_at t p == 0 && is_thrice x t p) _ _
    (and_alike (column_at u (d + p) == 0) (column_at t p == 0) _ _ (ap (λ c. c == 0) column) (λ c. three_alike t u d m p x a l o))
    (λ h. far_end t u d m p a (three_within t u d m p x a l o (and_parts (column_at t p == 0) (is_thrice x t p) h).1))

pub start_alike : (t u : List ℕ) (d m p : ℕ) → Alike t u d m → p < m
    → is_document_start u (d + p) ≡ is_document_start t p
unfolding is_document_start
start_alike t u d m p a l = mark_alike t u d m p 45 a l (onward_dash 45 refl)

pub finish_alike : (t u : List ℕ) (d m p : ℕ) → Alike t u d m → p < m
    → is_document_end u (d + p) ≡ is_document_end t p
unfolding is_document_end
finish_alike t u d m p a l = mark_alike t u d m p 46 a l (onward_dot 46 refl)
