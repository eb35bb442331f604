-- Indicators, and the blanks after those of blocks, take a character each.
use Rattle.std.proofs.Common.{◌≡◌, ℕ, zero, suc, ◌+◌, ◌≤◌, Bool, true, false, not, ◌&&◌, ◌||◌, ◌==◌, nat_lt, if◌then◌else◌, List, [], ◌∷◌, Option, Some, None, refl, sym, ap, subst, ◌∙◌, arith, inl, inr, le_refl}
use Rattle.yaml_round_laws.proofs.SizesWords.{nat_tests, cases_Bool, ltb-false, ne_eqb, byte, starts, break_of, is_blank_or_end, starts_plain, Kind, Lexeme, is_end, kind_at, indicator_of, or_plain}
use Rattle.yaml_scan_history.specs.Indicators.{is_thrice, is_document_start, is_document_end}
use Rattle.yaml_scan_history.specs.declared.kind.Kind.TheVariants as kinds
use Rattle.yaml_round_laws.proofs.Leads.{one_if, one_most}
use Rattle.yaml_scan_laws.proofs.WordForward.{Tells, kind_told}

-- an indicator of levels
abbrev pub own : Kind → ℕ
own kinds.FlowSequenceStart = 1
own kinds.FlowMappingStart = 1
own kinds.FlowSequenceEnd = 1
own kinds.FlowMappingEnd = 1
own kinds.BlockEntry = 1
own kinds.KeyMark = 1
own kinds.ValueMark = 1
own _ = 0

-- outside of brackets
abbrev pub outside : ℕ → ℕ
outside zero = 1
outside (suc d) = 0

-- one that a blank, a break or the end follows
abbrev pub apart : Kind → ℕ → ℕ
apart kinds.BlockEntry d = 1
apart kinds.KeyMark d = outside d
apart kinds.ValueMark d = outside d
apart _ d = 0

abbrev pub worth : Lexeme → ℕ
worth l = own l.kind + apart l.kind l.depth

abbrev pub worths : List Lexeme → ℕ
worths [] = 0
worths (l ∷ h) = worth l + worths h

-- ---- where there is an indicator a character begins

none_if : (f : Option Kind → ℕ) (b : Bool) (x y : Option Kind) → f x ≡ 0 → f y ≡ 0
    → f (if b then x else y) ≡ 0
none_if f b x y g h = grind (arith, nat_tests)

else_if : (f : Option Kind → ℕ) (b : Bool) (x y : Option Kind) → b ≡ false → f y ≡ 0
    → f (if b then x else y) ≡ 0
else_if f b x y e h = rw e h

and_not : (a b : Bool) → a ≡ false → (a && b) ≡ false
and_not a b e = rw e refl

or_none : (f : Option Kind → ℕ) (o : Option Kind) (s : Bool) → f o ≡ 0 → f None ≡ 0
    → f (Some kinds.Plain) ≡ 0 → f (or_plain o s) ≡ 0
or_none f o s a b c = grind (arith, nat_tests)

-- none of them begins no character
far : (text : List ℕ) (p : ℕ) (k : Kind) → Tells text p k → 128 ≤ byte text p → own k ≡ 0
far text p kinds.FlowSequenceStart h f = absurd (omega (arith, h, f))
far text p kinds.FlowMappingStart h f = absurd (omega (arith, h, f))
far text p kinds.FlowSequenceEnd h f = absurd (omega (arith, h, f))
far text p kinds.FlowMappingEnd h f = absurd (omega (arith, h, f))
far text p kinds.BlockEntry h f = absurd (omega (arith, h, f))
far text p kinds.KeyMark h f = absurd (omega (arith, h, f))
far text p kinds.ValueMark h f = absurd (omega (arith, h, f))
far text p _ h f = refl

-- as many characters begin there as it counts
own_least : (k : Kind) → own k ≤ 1
own_least k = grind (arith, nat_tests, le_refl)

pub begins : (flow : Bool) (text : List ℕ) (p : ℕ) (k : Kind) → kind_at flow text p ≡ Some k
    → own k ≤ one_if (starts (byte text p))
begins flow text p k e =
    elim (cases_Bool (nat_lt (byte text p) 128)) [
      | inl s ↦ rw s (own_least k)
      | inr s ↦
          let f : 128 ≤ byte text p = ltb-false (byte text p) 128 s in
          let n : own k ≡ 0 = far text p k (kind_told flow text p k e) f in
          omega (arith, n)
    ]

-- ---- blanks, breaks and the end

unfoldable pub white : ℕ → Bool
white b = b == 32 || (b == 9 || (b == 0 || (b == 13 || (b == 10 || (b == 0xC2 || b == 0xE2)))))

black : (text : List ℕ) (p : ℕ) → white (byte text p) ≡ false → is_blank_or_end text p ≡ false
unfolding white break_of
black text p e = grind (arith, nat_tests)

pub blank_white : (text : List ℕ) (p : ℕ) → is_blank_or_end text p ≡ true
    → white (byte text p) ≡ true
blank_white text p e = grind (arith, nat_tests, cases_Bool, black)

-- a white byte is none that isn't
unlike : (b n : ℕ) → white b ≡ true → white n ≡ false → (b == n) ≡ false
unlike b n w v = ne_eqb b n (λ e. let u : white n ≡ true = subst (λ i. white i ≡ true) e w in cc)

same_or : (f : ℕ → Bool) (b n : ℕ) → f b ≡ false → f n ≡ true → (b == n) ≡ false
same_or f b n w v = ne_eqb b n (λ e. let u : f n ≡ false = subst (λ i. f i ≡ false) e w in cc)

pub white_starts : (b : ℕ) → white b ≡ true → starts b ≡ true
unfolding white
white_starts b w = grind (arith, nat_tests, cases_Bool, same_or)

-- there the end may be alone
busy_of : Option Kind → ℕ
busy_of None = 0
busy_of (Some k) = one_if (not (is_end k))

white_indicator : (flow alone : Bool) (b : ℕ) → white b ≡ true → indicator_of flow alone b ≡ None
unfolding indicator_of white
white_indicator flow alone b w = grind (arith, nat_tests, unlike)

plain_not : (flow : Bool) (text : List ℕ) (p : ℕ) → is_blank_or_end text p ≡ true
    → starts_plain flow text p ≡ false
unfolding starts_plain
plain_not flow text p e = rw e refl

thrice_not : (n : ℕ) (text : List ℕ) (p : ℕ) → (byte text p == n) ≡ false
    → is_thrice n text p ≡ false
thrice_not n text p e = rw e refl

blank_kind : (flow : Bool) (text : List ℕ) (p : ℕ) → is_blank_or_end text p ≡ true
    → busy_of (kind_at flow text p) ≡ 0
unfolding kind_at is_document_start is_document_end white busy_of
blank_kind flow text p e = grind (arith, nat_tests, blank_white, busy_of, none_if, else_if, and_not, unlike, thrice_not, white_indicator, plain_not)

-- ---- what follows an indicator of blocks

apart_of : ℕ → Option Kind → ℕ
apart_of d None = 0
apart_of d (Some k) = apart k d

pub apart_least : (k : Kind) (d : ℕ) → apart k d ≤ 1
apart_least k d = grind (arith, nat_tests, le_refl)

near_indicator : (d : ℕ) (alone : Bool) (b : ℕ) → alone ≡ false
    → apart_of d (indicator_of (nat_lt 0 d) alone b) ≡ 0
unfolding indicator_of apart_of
near_indicator d alone b e = grind (arith, nat_tests, apart_of, none_if, else_if)

near_kind : (d : ℕ) (text : List ℕ) (p : ℕ) → is_blank_or_end text (p + 1) ≡ false
    → apart_of d (kind_at (nat_lt 0 d) text p) ≡ 0
unfolding kind_at apart_of
near_kind d text p e = grind (arith, nat_tests, apart_of, none_if, or_none, near_indicator)

pub followed : (d : ℕ) (text : List ℕ) (p : ℕ) (k : Kind) → kind_at (nat_lt 0 d) text p ≡ Some k
    → apart k d ≤ one_if (is_blank_or_end text (p + 1))
unfolding apart_of
followed d text p k e =
    elim (cases_Bool (is_blank_or_end text (p + 1))) [
      | inl s ↦ rw s (apart_least k d)
      | inr s ↦ let n : apart k d ≡ 0 = ap (apart_of d) (sym e) ∙ near_kind d text p s in omega (arith, n)
    ]

-- the end, or no blank
pub not_blank : (flow : Bool) (text : List ℕ) (p : ℕ) (k : Kind) → kind_at flow text p ≡ Some k
    → one_if (not (is_end k)) + one_if (is_blank_or_end text p) ≤ 1
unfolding busy_of
not_blank flow text p k e =
    elim (cases_Bool (is_blank_or_end text p)) [
      | inl s ↦ let n : one_if (not (is_end k)) ≡ 0 = ap busy_of (sym e) ∙ blank_kind flow text p s in rw s (omega (arith, n))
      | inr s ↦ rw s (omega (arith, one_most (not (is_end k))))
    ]
