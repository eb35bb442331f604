-- Directives are the same in both texts.
use Rattle.std.proofs.Common.{◌≡◌, ℕ, zero, suc, ◌+◌, ◌-◌, ◌<◌, ◌≤◌, ◌==◌, ◌&&◌, nat_lt, Bool, true, false, List, Result, Ok, Err, refl, ap, ◌∙◌, inl, inr, arith, add_assoc}
use Rattle.yaml_scan_laws.proofs.Shared.{cases_Bool, eqb-true, nat_tests, byte, break_width, is_blank, is_blank_or_end, Wrong, belongs, some_uri_at, name_end, ValueText, value_end, DirectiveText, then_at, is_yaml, is_tag, decimal, number_between, number_at, with_major, minor_at, version_at, handle_between, handle_at, prefix_ended, prefix_at, with_prefix, tag_directive_at, named_value_at, value_at, comment_end, break_end, line_end_at, with_line, directive_at, Alike, is_onward}
use Rattle.yaml_scan_history.specs.scan_model.declared.problem.Context.TheVariants as contexts
use Rattle.yaml_scan_history.specs.Directives.{name_between, finished}
use Rattle.yaml_scan_laws.proofs.Bytes.{width_alike, end_alike, and_alike, onward_some}
use Rattle.yaml_scan_laws.proofs.Gaps.{range_alike, lines_alike, break_within, at_step, ReadAlike, PlaceAlike}
use Rattle.yaml_scan_laws.proofs.Names.{Alike_in, PairAlike, Run_in, run_in, some_uri_alike, letter_onward, moved_equal}

-- ---- numbers

decimal_alike : (n : ℕ) (t u : List ℕ) (d m p : ℕ) → Alike t u d m → p + n ≤ m
    → decimal u (d + p) n ≡ decimal t p n
unfolding decimal
decimal_alike zero t u d m p a l = refl
decimal_alike (suc n) t u d m p a l =
    let e : d + p + n ≡ d + (p + n) = omega arith in
    rw (e, a.bytes (p + n) (omega (arith, l)), decimal_alike n t u d m p a (omega (arith, l))) refl

less_moved : (d p q : ℕ) → nat_lt (d + p + 9) (d + q) ≡ nat_lt (p + 9) q
less_moved d p q = grind (arith, nat_tests)

number_from : (t u : List ℕ) (d m p q : ℕ) → Alike t u d m → p ≤ q → q < m
    → PairAlike d m (number_between t p q) (number_between u (d + p) (d + q))
number_from t u d m p q a f l =
    let e : d + q - (d + p) ≡ q - p = omega (arith, f) in
    elim (cases_Bool (q == p)) [
      | inl h ↦ rw (h, moved_equal d q p ∙ h) record { same = refl; ends = tt }
      | inr h ↦ elim (cases_Bool (nat_lt (p + 9) q)) [
        | inl i ↦ rw (h, moved_equal d q p ∙ h, i, less_moved d p q ∙ i, add_assoc d p 9) record { same = refl; ends = tt }
        | inr i ↦
            rw (h, moved_equal d q p ∙ h, i, less_moved d p q ∙ i, e, decimal_alike (q - p) t u d m p a (omega (arith, f, l))) record { same = refl; ends = l }
      ]
    ]

number_run : (t u : List ℕ) (d m p q r : ℕ) → Alike t u d m → Run_in t u d m p q r
    → PairAlike d m (number_between t p q) (number_between u (d + p) r)
number_run t u d m p q r a run = let same = run.same in rw same (number_from t u d m p q a run.order run.inside)

number_alike : (t u : List ℕ) (d m p : ℕ) → Alike t u d m → p < m
    → PairAlike d m (number_at t p) (number_at u (d + p))
unfolding belongs
number_alike t u d m p a l = number_run t u d m p _ _ a (run_in t u d m p _ a (λ x y. rw (a.bytes x y) refl) l)

-- ---- values

abbrev pub moved_value : ℕ → ValueText → ValueText
moved_value d v = record { said = v.said; end = d + v.end }

abbrev pub ValueAlike : ℕ → ℕ → Result ValueText Wrong → Result ValueText Wrong → Type 0
ValueAlike d m r s = Alike_in (moved_value d) value_end d m r s

then_alike : {A : Type 0} (d m : ℕ) (f g : A → ℕ → Result ValueText Wrong)
    (r s : Result (A × ℕ) Wrong)
    → ((x : A) (q : ℕ) → q < m → ValueAlike d m (f x q) (g x (d + q))) → PairAlike d m r s
    → ValueAlike d m (then_at f r) (then_at g s)
then_alike d m f g r s h k = grind (arith, nat_tests)

major_alike : (d m major : ℕ) (r s : Result (ℕ × ℕ) Wrong) → PairAlike d m r s
    → ValueAlike d m (with_major major r) (with_major major s)
major_alike d m major r s k = grind (arith, nat_tests)

minor_alike : (t u : List ℕ) (d m major q : ℕ) → Alike t u d m → q < m
    → ValueAlike d m (minor_at t major q) (minor_at u major (d + q))
minor_alike t u d m major q a l =
    rw (a.bytes q l, add_assoc d q 1)
    (elim (cases_Bool (byte t q == 46)) [
      | inl h ↦
          let dot : byte t q ≡ 46 = eqb-true _ _ h in
          let more = a.onward q l (letter_onward (byte t q) (omega (arith, dot))) in
          rw h (major_alike d m major (number_at t (q + 1)) (number_at u (d + (q + 1))) (number_alike t u d m (q + 1) a more))
      | inr h ↦ rw h record { same = refl; ends = tt }
    ])

version_from : (t u : List ℕ) (d m p q r : ℕ) → Alike t u d m → Run_in t u d m p q r
    → ValueAlike d m (then_at (minor_at t) (number_at t q)) (then_at (minor_at u) (number_at u r))
version_from t u d m p q r a run =
    rw run.same (then_alike d m (minor_at t) (minor_at u) (number_at t q) (number_at u (d + q)) (λ x y l. minor_alike t u d m x y a l) (number_alike t u d m q a run.inside))

version_alike : (t u : List ℕ) (d m p : ℕ) → Alike t u d m → p < m
    → ValueAlike d m (version_at t p) (version_at u (d + p))
unfolding belongs
version_alike t u d m p a l = version_from t u d m p _ _ a (run_in t u d m p _ a (λ x y. rw (a.bytes x y) refl) l)

-- ---- handles and prefixes

handle_from : (t u : List ℕ) (d m p q r : ℕ) → Alike t u d m → Run_in t u d m (p + 1) q r
    → PairAlike d m (handle_between t p q) (handle_between u (d + p) r)
handle_from t u d m p q r a run =
    let l = run.inside in
    let test : (byte u (d + q) == 33) ≡ (byte t q == 33) = ap (λ b. b == 33) (a.bytes q l) in
    let next : d + p + 1 ≡ d + (p + 1) = omega arith in
    elim (cases_Bool (byte t q == 33)) [
      | inl h ↦
          let mark : byte t q ≡ 33 = eqb-true _ _ h in
          let on = letter_onward (byte t q) (omega (arith, mark)) in
          let at = at_step t u d m q a l (onward_some _ on) in
          rw (run.same, h, test ∙ h, add_assoc d q 1, range_alike t u d m p (q + 1) a (omega (arith, run.order)) at.inside at.short at.long) record { same = refl; ends = a.onward q l on }
      | inr h ↦ elim (cases_Bool (q == p + 1)) [
        | inl i ↦
            let i2 : (d + q == d + p + 1) ≡ true = rw next (moved_equal d q (p + 1) ∙ i) in
            rw (run.same, h, test ∙ h, i, i2, range_alike t u d m p q a (omega (arith, run.order)) (omega (arith, l)) run.short run.long) record { same = refl; ends = l }
        | inr i ↦
            let i2 : (d + q == d + p + 1) ≡ false = rw next (moved_equal d q (p + 1) ∙ i) in
            rw (run.same, h, test ∙ h, i, i2) record { same = refl; ends = tt }
      ]
    ]

handle_alike : (t u : List ℕ) (d m p : ℕ) → Alike t u d m → p < m
    → PairAlike d m (handle_at t p) (handle_at u (d + p))
unfolding belongs
handle_alike t u d m p a l =
    let test : (byte u (d + p) == 33) ≡ (byte t p == 33) = ap (λ b. b == 33) (a.bytes p l) in
    elim (cases_Bool (byte t p == 33)) [
      | inl h ↦
          let mark : byte t p ≡ 33 = eqb-true _ _ h in
          let more = a.onward p l (letter_onward (byte t p) (omega (arith, mark))) in
          let run : Run_in t u d m (p + 1) (name_end t p) (name_end u (d + p)) = rw (add_assoc d p 1) (run_in t u d m (p + 1) _ a (λ x y. rw (a.bytes x y) refl) more) in
          rw (h, test ∙ h) (handle_from t u d m p (name_end t p) (name_end u (d + p)) a run)
      | inr h ↦ rw (h, test ∙ h) record { same = refl; ends = tt }
    ]

prefix_ends : (t u : List ℕ) (d m : ℕ) (r s : Result (List ℕ × ℕ) Wrong) → Alike t u d m
    → PairAlike d m r s → PairAlike d m (prefix_ended t r) (prefix_ended u s)
prefix_ends t u d m (Err w) s a h = let same = h.same in rw same record { same = refl; ends = tt }
prefix_ends t u d m (Ok x) s a h =
    let test = end_alike t u d m x.1 a h.ends in
    elim (cases_Bool (is_blank_or_end t x.1)) [
      | inl e ↦ rw (h.same, e, test ∙ e) record { same = refl; ends = h.ends }
      | inr e ↦ rw (h.same, e, test ∙ e) record { same = refl; ends = tt }
    ]

prefix_from : (t u : List ℕ) (d m p q r : ℕ) → Alike t u d m → Run_in t u d m p q r
    → PairAlike d m (prefix_ended t (some_uri_at contexts.TagDirectiveUri true t q))
    (prefix_ended u (some_uri_at contexts.TagDirectiveUri true u r))
prefix_from t u d m p q r a run =
    rw run.same (prefix_ends t u d m (some_uri_at contexts.TagDirectiveUri true t q) (some_uri_at contexts.TagDirectiveUri true u (d + q)) a (some_uri_alike contexts.TagDirectiveUri true t u d m q a run.inside))

prefix_alike : (t u : List ℕ) (d m p : ℕ) → Alike t u d m → p < m
    → PairAlike d m (prefix_at t p) (prefix_at u (d + p))
unfolding belongs
prefix_alike t u d m p a l =
    let test : is_blank (byte u (d + p)) ≡ is_blank (byte t p) = ap is_blank (a.bytes p l) in
    elim (cases_Bool (is_blank (byte t p))) [
      | inl h ↦ rw (h, test ∙ h) (prefix_from t u d m p _ _ a (run_in t u d m p _ a (λ x y. rw (a.bytes x y) refl) l))
      | inr h ↦ rw (h, test ∙ h) record { same = refl; ends = tt }
    ]

handled_alike : (d m : ℕ) (handle : List ℕ) (r s : Result (List ℕ × ℕ) Wrong) → PairAlike d m r s
    → ValueAlike d m (with_prefix handle r) (with_prefix handle s)
handled_alike d m handle r s h = grind (arith, nat_tests)

tag_from : (t u : List ℕ) (d m p q r : ℕ) → Alike t u d m → Run_in t u d m p q r
    → ValueAlike d m (then_at (λ handle x. with_prefix handle (prefix_at t x)) (handle_at t q))
    (then_at (λ handle x. with_prefix handle (prefix_at u x)) (handle_at u r))
tag_from t u d m p q r a run =
    rw run.same (then_alike d m (λ handle x. with_prefix handle (prefix_at t x)) (λ handle x. with_prefix handle (prefix_at u x)) (handle_at t q) (handle_at u (d + q))
    (λ handle x l. handled_alike d m handle (prefix_at t x) (prefix_at u (d + x)) (prefix_alike t u d m x a l)) (handle_alike t u d m q a run.inside))

tag_alike : (t u : List ℕ) (d m p : ℕ) → Alike t u d m → p < m
    → ValueAlike d m (tag_directive_at t p) (tag_directive_at u (d + p))
unfolding belongs
tag_alike t u d m p a l = tag_from t u d m p _ _ a (run_in t u d m p _ a (λ x y. rw (a.bytes x y) refl) l)

-- ---- names

spelled : (t u : List ℕ) (d m p x : ℕ) → Alike t u d m → p < m → 32 < x → (y z : Bool)
    → (p + 1 < m → y ≡ z) → (byte u (d + p) == x && y) ≡ (byte t p == x && z)
spelled t u d m p x a l wide y z h =
    and_alike (byte u (d + p) == x) (byte t p == x) y z (ap (λ b. b == x) (a.bytes p l))
    (λ e. h (a.onward p l (letter_onward (byte t p) (omega (arith, eqb-true (byte t p) x e, wide)))))

last_spelled : (t u : List ℕ) (d m p x : ℕ) → Alike t u d m → p < m
    → (byte u (d + p) == x) ≡ (byte t p == x)
last_spelled t u d m p x a l = ap (λ b. b == x) (a.bytes p l)

yaml_alike : (t u : List ℕ) (d m p : ℕ) → Alike t u d m → p < m → is_yaml u (d + p) ≡ is_yaml t p
yaml_alike t u d m p a l =
    let f : d + p + 2 ≡ d + (p + 1 + 1) = omega arith in
    let g : d + p + 3 ≡ d + (p + 1 + 1 + 1) = omega arith in
    let h : p + 2 ≡ p + 1 + 1 = omega arith in
    let i : p + 3 ≡ p + 1 + 1 + 1 = omega arith in
    rw (add_assoc d p 1, f, g, h, i)
    (spelled t u d m p 89 a l (omega arith) _ _ (λ x. spelled t u d m (p + 1) 65 a x (omega arith) _ _
    (λ y. spelled t u d m (p + 1 + 1) 77 a y (omega arith) _ _ (λ z. last_spelled t u d m (p + 1 + 1 + 1) 76 a z))))

named_tag : (t u : List ℕ) (d m p : ℕ) → Alike t u d m → p < m → is_tag u (d + p) ≡ is_tag t p
named_tag t u d m p a l =
    let f : d + p + 2 ≡ d + (p + 1 + 1) = omega arith in
    let h : p + 2 ≡ p + 1 + 1 = omega arith in
    rw (add_assoc d p 1, f, h)
    (spelled t u d m p 84 a l (omega arith) _ _ (λ x. spelled t u d m (p + 1) 65 a x (omega arith) _ _
    (λ y. last_spelled t u d m (p + 1 + 1) 71 a y)))

value_from : (t u : List ℕ) (d m p q r : ℕ) → Alike t u d m → p < m → Run_in t u d m p q r
    → ValueAlike d m (then_at (named_value_at t) (name_between t p q))
    (then_at (named_value_at u) (name_between u (d + p) r))
value_from t u d m p q r a l run =
    let long : d + q - (d + p) ≡ q - p = omega (arith, run.order) in
    rw (run.same, moved_equal d p q, end_alike t u d m q a run.inside, long, yaml_alike t u d m p a l, named_tag t u d m p a l)
    (elim (cases_Bool (p == q)) [
      | inl h ↦ rw h record { same = refl; ends = tt }
      | inr h ↦ elim (cases_Bool (is_blank_or_end t q)) [
        | inr i ↦ rw (h, i) record { same = refl; ends = tt }
        | inl i ↦ elim (cases_Bool (is_yaml t p && q - p == 4)) [
          | inl j ↦ rw (h, i, j) (version_alike t u d m q a run.inside)
          | inr j ↦ elim (cases_Bool (is_tag t p && q - p == 3)) [
            | inl k ↦ rw (h, i, j, k) (tag_alike t u d m q a run.inside)
            | inr k ↦ rw (h, i, j, k) record { same = refl; ends = tt }
          ]
        ]
      ]
    ])

values_alike : (t u : List ℕ) (d m p : ℕ) → Alike t u d m → p < m → is_onward (byte t p) ≡ true
    → ValueAlike d m (value_at t p) (value_at u (d + p))
unfolding belongs
values_alike t u d m p a l on =
    let more = a.onward p l on in
    rw (add_assoc d p 1) (value_from t u d m (p + 1) _ _ a more (run_in t u d m (p + 1) _ a (λ x y. rw (a.bytes x y) refl) more))

-- ---- the rest of the line

abbrev moved_place : ℕ → ℕ → ℕ
moved_place d q = d + q

abbrev PlacesAlike : ℕ → ℕ → Result ℕ Wrong → Result ℕ Wrong → Type 0
PlacesAlike d m r s = ReadAlike (λ q. q ≤ m) (moved_place d) d r s

comment_alike : (t u : List ℕ) (d m p : ℕ) → Alike t u d m → p < m
    → PlaceAlike d m (comment_end t p) (comment_end u (d + p))
comment_alike t u d m p a l =
    let test : (byte u (d + p) == 35) ≡ (byte t p == 35) = ap (λ b. b == 35) (a.bytes p l) in
    elim (cases_Bool (byte t p == 35)) [
      | inl h ↦
          let line = lines_alike t u d m p a l in
          rw (h, test ∙ h) record { same = line.same; inside = line.inside }
      | inr h ↦ rw (h, test ∙ h) record { same = refl; inside = l }
    ]

broken_alike : (t u : List ℕ) (d m p : ℕ) → Alike t u d m → p < m
    → PlacesAlike d m (break_end t p) (break_end u (d + p))
broken_alike t u d m p a l =
    rw (width_alike t u d m p a l, a.bytes p l, add_assoc d p (break_width t p))
    (elim (cases_Bool (nat_lt 0 (break_width t p))) [
      | inl h ↦ rw h record { same = refl; placed = break_within t u d m p a l }
      | inr h ↦ elim (cases_Bool (byte t p == 0)) [
        | inl i ↦ rw (h, i) record { same = refl; placed = omega (arith, l) }
        | inr i ↦ rw (h, i) record { same = refl; placed = tt }
      ]
    ])

behind_comment : (t u : List ℕ) (d m q r : ℕ) → Alike t u d m → PlaceAlike d m q r
    → PlacesAlike d m (break_end t q) (break_end u r)
behind_comment t u d m q r a h = let same = h.same in rw same (broken_alike t u d m q a h.inside)

line_from : (t u : List ℕ) (d m p q r : ℕ) → Alike t u d m → Run_in t u d m p q r
    → PlacesAlike d m (break_end t (comment_end t q)) (break_end u (comment_end u r))
line_from t u d m p q r a run =
    rw run.same (behind_comment t u d m (comment_end t q) (comment_end u (d + q)) a (comment_alike t u d m q a run.inside))

line_alike : (t u : List ℕ) (d m p : ℕ) → Alike t u d m → p < m
    → PlacesAlike d m (line_end_at t p) (line_end_at u (d + p))
unfolding belongs
line_alike t u d m p a l = line_from t u d m p _ _ a (run_in t u d m p _ a (λ x y. rw (a.bytes x y) refl) l)

-- ---- the directive

abbrev pub moved_directive : ℕ → DirectiveText → DirectiveText
moved_directive d x = record { said = x.said; end = d + x.end; place = d + x.place }

abbrev pub DirectivesAlike : ℕ → ℕ → (r s : Result DirectiveText Wrong) → Type 0
DirectivesAlike d m r s = ReadAlike (λ (x : DirectiveText). x.place ≤ m) (moved_directive d) d r s

lined_alike : (d m : ℕ) (v : ValueText) (r s : Result ℕ Wrong) → PlacesAlike d m r s
    → DirectivesAlike d m (with_line v r) (with_line (moved_value d v) s)
lined_alike d m v r s h = grind (arith, nat_tests)

finished_alike : (t u : List ℕ) (d m : ℕ) (r s : Result ValueText Wrong) → Alike t u d m
    → ValueAlike d m r s → DirectivesAlike d m (finished t r) (finished u s)
finished_alike t u d m (Err w) s a h = let same = h.same in rw same record { same = refl; placed = tt }
finished_alike t u d m (Ok v) s a h =
    rw h.same (lined_alike d m v (line_end_at t v.end) (line_end_at u (d + v.end)) (line_alike t u d m v.end a h.ends))

pub directive_alike : (t u : List ℕ) (d m p : ℕ) → Alike t u d m → p < m
    → is_onward (byte t p) ≡ true → DirectivesAlike d m (directive_at t p) (directive_at u (d + p))
directive_alike t u d m p a l on = finished_alike t u d m (value_at t p) (value_at u (d + p)) a (values_alike t u d m p a l on)
