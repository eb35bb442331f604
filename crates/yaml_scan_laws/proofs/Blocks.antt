-- Block scalars are the same in both texts.
use Rattle.std.proofs.Common.{add-zero, ◌≡◌, ℕ, zero, suc, ◌+◌, ◌-◌, ◌<◌, ◌≤◌, ◌==◌, ◌&&◌, ◌||◌, nat_lt, if◌then◌else◌, Bool, true, false, not, List, length, slice_range, Result, Ok, Err, refl, ap, ◌∙◌, inl, inr, arith, add_assoc}
use Rattle.yaml_scan_laws.proofs.Shared.{cases_Bool, cases_lt, eqb-true, ltb-true, nat_tests, byte, break_width, column_at, is_blank_or_end, feed_at, is_document_indicator, is_digit_byte, is_text, past_blanks, past_spaces, line_end, Wrong, larger, larger_of, depth_behind, deepest, column_of, BlockText, block_with, block_lines, block_behind, block_at, within, break_inside, past_stop, past_some, text_parts, Alike, is_onward}
use Rattle.yaml_scan_history.specs.scan_model.declared.problem.Problem.TheVariants as problems
use Rattle.yaml_scan_history.specs.Value.{BlockLine, Words, block_value}
use Rattle.yaml_scan_history.specs.Lines.{in_block, spaces, LineSpot, Stops, Line, Tab, spot_behind, line_spot, Lines, with_line, lines_from}
use Rattle.yaml_scan_history.specs.Header.{HeaderText, is_chomping, chomp_of, digit_of, digit_place, chomping_place, indicators, past_comment, header_end, header_at}
use Rattle.yaml_scan_laws.proofs.Bytes.{IsQuiet, quiet_edge, quiet_break, width_alike, next_byte, column_alike}
use Rattle.yaml_scan_laws.proofs.Gaps.{RunsAlike, blanks_alike, spaces_alike, lines_alike, text_alike, range_alike, moved_by, At, at_step, at_break, ReadAlike, PlaceAlike}
use Rattle.yaml_scan_laws.proofs.Plains.{value_alike}
use Rattle.yaml_scan_laws.proofs.Names.{short_at, long_at}
use Rattle.yaml_scan_laws.proofs.QuotedForward.{some_of}

-- ---- the header

chomp_onward : (b : ℕ) → is_chomping b ≡ true → is_onward b ≡ true
unfolding is_chomping is_onward
chomp_onward b h = grind (arith, nat_tests)

digit_onward : (b : ℕ) → is_digit_byte b ≡ true → is_onward b ≡ true
unfolding is_digit_byte is_onward
digit_onward b h = grind (arith, nat_tests)

-- two bytes after a place are two of the header, or they needn't be looked at
indicators_alike : (t u : List ℕ) (d m p : ℕ) → Alike t u d m → p < m
    → (indicators (byte u (d + p)) (byte u (d + p + 1)) ≡ indicators (byte t p) (byte t (p + 1)))
    × (p + indicators (byte t p) (byte t (p + 1)) < m)
unfolding indicators
indicators_alike t u d m p a l =
    let b = a.bytes p l in
    elim (cases_Bool (is_chomping (byte t p))) [
      | inl h ↦
          let (more, next) = next_byte t u d m p a l (chomp_onward _ h) in
          elim (cases_Bool (is_digit_byte (byte t (p + 1)))) [
            | inl i ↦ let most = a.onward (p + 1) more (digit_onward _ i) in rw (b, next, h, i) (refl, omega (arith, most))
            | inr i ↦ rw (b, next, h, i) (refl, more)
          ]
      | inr h ↦ elim (cases_Bool (is_digit_byte (byte t p))) [
        | inl j ↦
            let (more, next) = next_byte t u d m p a l (digit_onward _ j) in
            elim (cases_Bool (is_chomping (byte t (p + 1)))) [
              | inl i ↦ let most = a.onward (p + 1) more (chomp_onward _ i) in rw (b, next, h, j, i) (refl, omega (arith, most))
              | inr i ↦ rw (b, next, h, j, i) (refl, more)
            ]
        | inr j ↦ rw (b, h, j) (refl, omega (arith, l))
      ]
    ]

digit_alike : (t u : List ℕ) (d m p : ℕ) → Alike t u d m → p < m
    → PlaceAlike d m (digit_place t p) (digit_place u (d + p))
digit_alike t u d m p a l =
    let test = ap is_chomping (a.bytes p l) in
    elim (cases_Bool (is_chomping (byte t p))) [
      | inl h ↦ rw (h, test ∙ h) record { same = omega arith; inside = a.onward p l (chomp_onward _ h) }
      | inr h ↦ rw (h, test ∙ h) record { same = refl; inside = l }
    ]

chomp_alike : (t u : List ℕ) (d m p : ℕ) → Alike t u d m → p < m
    → PlaceAlike d m (chomping_place t p) (chomping_place u (d + p))
chomp_alike t u d m p a l =
    let test = ap is_digit_byte (a.bytes p l) in
    elim (cases_Bool (is_digit_byte (byte t p))) [
      | inl h ↦ rw (h, test ∙ h) record { same = omega arith; inside = a.onward p l (digit_onward _ h) }
      | inr h ↦ rw (h, test ∙ h) record { same = refl; inside = l }
    ]

comment_alike : (t u : List ℕ) (d m p : ℕ) → Alike t u d m → p < m
    → PlaceAlike d m (past_comment t p) (past_comment u (d + p))
unfolding past_comment
comment_alike t u d m p a l =
    let test : (byte u (d + p) == 35) ≡ (byte t p == 35) = ap (λ b. b == 35) (a.bytes p l) in
    let line = lines_alike t u d m p a l in
    elim (cases_Bool (byte t p == 35)) [
      | inl h ↦ rw (h, test ∙ h) record { same = line.same; inside = line.inside }
      | inr h ↦ rw (h, test ∙ h) record { same = refl; inside = l }
    ]

blanks_from : (t u : List ℕ) (d m q r : ℕ) → Alike t u d m → PlaceAlike d m q r
    → PlaceAlike d m (past_blanks t q) (past_blanks u r)
blanks_from t u d m q r a h =
    let blanks = blanks_alike t u d m q a h.inside in
    rw h.same record { same = blanks.same; inside = blanks.inside }

header_end_alike : (t u : List ℕ) (d m p : ℕ) → Alike t u d m → p < m
    → PlaceAlike d m (header_end t p) (header_end u (d + p))
header_end_alike t u d m p a l =
    let (same, inside) = indicators_alike t u d m p a l in
    let start : PlaceAlike d m (p + indicators (byte t p) (byte t (p + 1))) (d + p + indicators (byte u (d + p)) (byte u (d + p + 1))) =
    record { same = omega (arith, same); inside = inside } in
    (let same = (blanks_from t u d m _ _ a start).same in rw same (comment_alike t u d m _ a (blanks_from t u d m _ _ a start).inside))

abbrev moved_header : ℕ → HeaderText → HeaderText
moved_header d h = record { chomp = h.chomp; digit = h.digit; place = d + h.place }

abbrev HeadersAlike : List ℕ → List ℕ → ℕ → ℕ → (r s : Result HeaderText Wrong) → Type 0
HeadersAlike t u d m r s = ReadAlike (λ (h : HeaderText). At t u d m h.place) (moved_header d) d r s

at_width : (t u : List ℕ) (d m p : ℕ) → Alike t u d m → p < m → At t u d m (p + break_width t p)
at_width t u d m p a l =
    elim (cases_Bool (nat_lt 0 (break_width t p))) [
      | inl h ↦ at_break t u d m p a l (ltb-true _ _ h)
      | inr h ↦
          let none : break_width t p ≡ 0 = zero_of (break_width t p) h in
          let short = short_at t u d m p a l in
          let long = long_at t u d m p a l in
          record { inside = omega (arith, none, l); short = omega (arith, none, short); long = omega (arith, none, long) }
    ]
  where
    zero_of : (w : ℕ) → nat_lt 0 w ≡ false → w ≡ 0
    zero_of w h = grind (arith, nat_tests)

header_alike : (t u : List ℕ) (d m p : ℕ) → Alike t u d m → p < m
    → HeadersAlike t u d m (header_at t p) (header_at u (d + p))
unfolding header_at
header_alike t u d m p a l =
    let digit = digit_alike t u d m p a l in
    let chomp = chomp_alike t u d m p a l in
    let end = header_end_alike t u d m p a l in
    header_from (digit_place t p) (digit_place u (d + p)) (chomping_place t p) (chomping_place u (d + p)) (header_end t p) (header_end u (d + p)) digit chomp end
  where
    header_from : (q r v w x y : ℕ) → PlaceAlike d m q r → PlaceAlike d m v w → PlaceAlike d m x y
        → HeadersAlike t u d m
        (if byte t q == 48 then Err (in_block problems.ZeroIndentation q) else if is_text t x then Err (in_block problems.NoCommentOrBreak x) else Ok record { chomp = chomp_of (byte t v); digit = digit_of (byte t q); place = x + break_width t x })
        (if byte u r == 48 then Err (in_block problems.ZeroIndentation r) else if is_text u y then Err (in_block problems.NoCommentOrBreak y) else Ok record { chomp = chomp_of (byte u w); digit = digit_of (byte u r); place = y + break_width u y })
    header_from q r v w x y f g h =
        let zero : (byte u (d + q) == 48) ≡ (byte t q == 48) = ap (λ b. b == 48) (a.bytes q f.inside) in
        let text = text_alike t u d m x a h.inside in
        let move : d + x + break_width t x ≡ d + (x + break_width t x) = omega arith in
        elim (cases_Bool (byte t q == 48)) [
          | inl i ↦ rw (f.same, i, zero ∙ i) record { same = refl; placed = tt }
          | inr i ↦ elim (cases_Bool (is_text t x)) [
            | inl j ↦ rw (f.same, h.same, i, zero ∙ i, j, text ∙ j) record { same = refl; placed = tt }
            | inr j ↦
                rw (f.same, g.same, h.same, i, zero ∙ i, j, text ∙ j, a.bytes q f.inside, a.bytes v g.inside, width_alike t u d m x a h.inside, move)
                record { same = refl; placed = at_width t u d m x a h.inside }
          ]
        ]

-- ---- how deep the text is

quiet_tab : (b : ℕ) → IsQuiet b → (b == 9) ≡ false
quiet_tab b h1 = grind (arith, nat_tests)

quiet_space : (b : ℕ) → IsQuiet b → (b == 32) ≡ false
quiet_space b h1 = grind (arith, nat_tests)

quiet_width : (u : List ℕ) (p : ℕ) → IsQuiet (byte u p) → nat_lt 0 (break_width u p) ≡ false
quiet_width u p q = let none = quiet_break (byte u p) 0 (byte u (p + 1)) (byte u (p + 2)) q in rw none refl

-- what is found of columns is the same
abbrev kept : ℕ → ℕ
kept c = c

abbrev ColumnAlike : ℕ → Result ℕ Wrong → Result ℕ Wrong → Type 0
ColumnAlike d r s = s ≡ moved_by kept d r

larger_alike : (d a : ℕ) (r s : Result ℕ Wrong) → ColumnAlike d r s
    → ColumnAlike d (larger_of a r) (larger_of a s)
larger_alike d a r s h = grind (arith, nat_tests)

-- the place after spaces, in both texts
record SpacesAlike (t u : List ℕ) (d m p q r : ℕ) : Type 0 where
  pub same : r ≡ d + q
  pub order : p ≤ q
  pub at : At t u d m q

spaces_there : (t u : List ℕ) (d m p : ℕ) → Alike t u d m → At t u d m p
    → SpacesAlike t u d m p (past_spaces t p) (past_spaces u (d + p))
spaces_there t u d m p a at =
    elim (cases_lt p m) [
      | inl l ↦
          let run = spaces_alike t u d m p a l in
          let inside = run.inside in
          record { same = run.same; order = run.order; at = record { inside = omega (arith, inside); short = short_at t u d m _ a inside; long = long_at t u d m _ a inside } }
      | inr past ↦
          let e : p ≡ m = omega (arith, at.inside, past) in
          let mine : (byte t p == 32) ≡ false = quiet_space (byte t p) (inl (rw e a.edge)) in
          let others : (byte u (d + p) == 32) ≡ false = quiet_space (byte u (d + p)) (rw e (quiet_edge t u d m a)) in
          rw (past_stop _ (length t) t p mine, past_stop _ (length u) u (d + p) others)
          record { same = refl; order = omega arith; at = at }
    ]

abbrev Deep : List ℕ → List ℕ → ℕ → ℕ → ℕ → ℕ → Type 0
Deep t u d p n o = ColumnAlike d (deepest n t p) (deepest o u (d + p))

behind_alike : (t u : List ℕ) (d m p q r : ℕ) (f g : ℕ → Result ℕ Wrong) → Alike t u d m
    → SpacesAlike t u d m p q r
    → (At t u d m (q + break_width t q) → p < q + break_width t q → p < length t → ColumnAlike d (f (q + break_width t q)) (g (d + (q + break_width t q))))
    → ColumnAlike d (depth_behind f t q) (depth_behind g u r)
behind_alike t u d m p q r f g a h k =
    elim (cases_lt q m) [
      | inl l ↦
          let tab : (byte u (d + q) == 9) ≡ (byte t q == 9) = ap (λ b. b == 9) (a.bytes q l) in
          let width = width_alike t u d m q a l in
          let column = column_alike t u d m q a h.at.inside in
          let move : d + q + break_width t q ≡ d + (q + break_width t q) = omega arith in
          elim (cases_Bool (byte t q == 9)) [
            | inl i ↦ rw (h.same, i, tab ∙ i) refl
            | inr i ↦ elim (cases_Bool (nat_lt 0 (break_width t q))) [
              | inl j ↦
                  let some = ltb-true _ _ j in
                  let here = break_inside t q some in
                  rw (h.same, i, tab ∙ i, j, ap (λ w. nat_lt 0 w) width ∙ j, width, move, column)
                  (larger_alike d (column_at t q) _ _ (k (at_break t u d m q a l some) (omega (arith, h.order, some)) (omega (arith, h.order, here))))
              | inr j ↦ rw (h.same, i, tab ∙ i, j, ap (λ w. nat_lt 0 w) width ∙ j, column) refl
            ]
          ]
      | inr past ↦
          let e : q ≡ m = omega (arith, h.at.inside, past) in
          let mine : IsQuiet (byte t q) = inl (rw e a.edge) in
          let others : IsQuiet (byte u (d + q)) = rw e (quiet_edge t u d m a) in
          let column = column_alike t u d m q a h.at.inside in
          rw (h.same, quiet_tab _ mine, quiet_tab _ others, quiet_width t q mine, quiet_width u (d + q) others, column) refl
    ]

deep_by : (k : ℕ) (t u : List ℕ) (d m p n o : ℕ) → Alike t u d m → At t u d m p
    → length t ≤ p + k → length t < p + n → length u < d + p + o → Deep t u d p n o
unfolding deepest
deep_by k t u d m p zero o a at room fuel more = let short = at.short in absurd (omega (arith, fuel, short))
deep_by k t u d m p (suc n) zero a at room fuel more = let long = at.long in absurd (omega (arith, more, long))
deep_by zero t u d m p (suc n) (suc o) a at room fuel more =
    behind_alike t u d m p (past_spaces t p) (past_spaces u (d + p)) (λ x. deepest n t x) (λ x. deepest o u x) a (spaces_there t u d m p a at) (λ x further inside. absurd (omega (arith, room, inside)))
deep_by (suc k) t u d m p (suc n) (suc o) a at room fuel more =
    behind_alike t u d m p (past_spaces t p) (past_spaces u (d + p)) (λ x. deepest n t x) (λ x. deepest o u x) a (spaces_there t u d m p a at)
    (λ x further inside. deep_by k t u d m _ n o a x (omega (arith, room, further)) (omega (arith, fuel, further)) (omega (arith, more, further)))

column_there : (t u : List ℕ) (d m level digit p : ℕ) → Alike t u d m → At t u d m p
    → ColumnAlike d (column_of level t digit p) (column_of level u digit (d + p))
unfolding column_of
column_there t u d m level digit p a at =
    elim (cases_Bool (digit == 0)) [
      | inl h ↦ rw h (larger_alike d (larger level 1) (deepest (suc (length t)) t p) (deepest (suc (length u)) u (d + p)) (deep_by (length t) t u d m p (suc (length t)) (suc (length u)) a at (omega arith) (omega arith) (omega arith)))
      | inr h ↦ rw h refl
    ]

-- the text is right of column 0
abbrev Right : Result ℕ Wrong → Type 0
Right (Ok c) = 0 < c
Right (Err w) = Unit {0}

larger_right : (a : ℕ) (r : Result ℕ Wrong) → 0 < a → Right (larger_of a r)
larger_right a (Ok b) h = unfold larger in grind (arith, nat_tests)
larger_right a (Err w) h = tt

column_right : (level : ℕ) (t : List ℕ) (digit p : ℕ) → Right (column_of level t digit p)
unfolding column_of
column_right level t digit p =
    elim (cases_Bool (digit == 0)) [
      | inl h ↦ rw h (larger_right (larger level 1) (deepest (suc (length t)) t p) (unfold larger in grind (arith, nat_tests)))
      | inr h ↦ let some = some_of digit h in rw h (omega (arith, some))
    ]

-- ---- lines

spaces_alike_at : (n : ℕ) (t u : List ℕ) (d m p : ℕ) → Alike t u d m → At t u d m p
    → (spaces n u (d + p) ≡ spaces n t p) × At t u d m (p + spaces n t p)
unfolding spaces
spaces_alike_at zero t u d m p a at = let e : p + 0 ≡ p = omega arith in rw e (refl, at)
spaces_alike_at (suc n) t u d m p a at =
    elim (cases_lt p m) [
      | inl l ↦
          let test : (byte u (d + p) == 32) ≡ (byte t p == 32) = ap (λ b. b == 32) (a.bytes p l) in
          elim (cases_Bool (byte t p == 32)) [
            | inl h ↦
                let (same, next) = spaces_alike_at n t u d m (p + 1) a (at_step t u d m p a l (space_some (byte t p) h)) in
                let far : p + suc (spaces n t (p + 1)) ≡ p + 1 + spaces n t (p + 1) = omega arith in
                rw (h, test ∙ h, add_assoc d p 1, same, far) (refl, next)
            | inr h ↦ let e : p + 0 ≡ p = omega arith in rw (h, test ∙ h, e) (refl, at)
          ]
      | inr past ↦
          let e : p ≡ m = omega (arith, at.inside, past) in
          let mine : (byte t p == 32) ≡ false = quiet_space (byte t p) (inl (rw e a.edge)) in
          let others : (byte u (d + p) == 32) ≡ false = quiet_space (byte u (d + p)) (rw e (quiet_edge t u d m a)) in
          rw (mine, others, add-zero p) (refl, at)
    ]
  where
    space_some : (b : ℕ) → (b == 32) ≡ true → 0 < b
    space_some b h = grind (arith, nat_tests)

abbrev moved_line : ℕ → LineSpot → LineSpot
moved_line d (Stops q) = Stops (d + q)
moved_line d (Line l q) = Line l (d + q)
moved_line d (Tab q) = Tab (d + q)

abbrev LineIn : List ℕ → List ℕ → ℕ → ℕ → ℕ → LineSpot → Type 0
LineIn t u d m p (Stops q) = q ≤ m
LineIn t u d m p (Line l q) = At t u d m q × p < q × p < length t
LineIn t u d m p (Tab q) = Unit {0}

record LineAlike (t u : List ℕ) (d m p : ℕ) (s r : LineSpot) : Type 0 where
  pub same : r ≡ moved_line d s
  pub lies : LineIn t u d m p s

feed_alike : (t u : List ℕ) (d m p : ℕ) → Alike t u d m → p < m → feed_at u (d + p) ≡ feed_at t p
feed_alike t u d m p a l =
    let width = width_alike t u d m p a l in
    let wide : nat_lt 0 (break_width u (d + p)) ≡ nat_lt 0 (break_width t p) = ap (λ w. nat_lt 0 w) width in
    elim (cases_Bool (nat_lt 0 (break_width t p))) [
      | inl h ↦ rw (h, wide ∙ h) (value_alike t u d m p a l (ltb-true _ _ h))
      | inr h ↦ rw (h, wide ∙ h) refl
    ]

mark_column : (c x y z : Bool) → ((c && (x || y)) && z) ≡ true → c ≡ true
mark_column c x y z h = grind (arith, nat_tests)

indicator_column : (u : List ℕ) (p : ℕ) → is_document_indicator u p ≡ true → column_at u p ≡ 0
unfolding is_document_indicator
indicator_column u p h = eqb-true _ _ (mark_column (column_at u p == 0) ((byte u p == 45 && byte u (p + 1) == 45) && byte u (p + 2) == 45) ((byte u p == 46 && byte u (p + 1) == 46) && byte u (p + 2) == 46) (is_blank_or_end u (p + 3)) h)

text_from : (b : ℕ) (w : ℕ) (x : Bool) → (b == 0 || x) ≡ false → nat_lt 0 w ≡ false
    → not (b == 0 || nat_lt 0 w) ≡ true
text_from b w x h k = grind (arith, nat_tests)

words_alike : (t u : List ℕ) (d m p q e f : ℕ) → Alike t u d m → p ≤ q → q < m → q < e
    → p < length t → RunsAlike t u d m q e f
    → LineAlike t u d m p (Line (Words (slice_range t q e) (feed_at t e)) (e + break_width t e))
    (Line (Words (slice_range u (d + q) f) (feed_at u f)) (f + break_width u f))
words_alike t u d m p q e f a o l far mine run =
    let move : d + e + break_width t e ≡ d + (e + break_width t e) = omega arith in
    rw (run.same, range_alike t u d m q e a (omega (arith, far)) (omega (arith, run.inside)) (short_at t u d m e a run.inside) (long_at t u d m e a run.inside), feed_alike t u d m e a run.inside, width_alike t u d m e a run.inside, move)
    record { same = refl; lies = (at_width t u d m e a run.inside, omega (arith, o, far), mine) }

spot_there : (c : ℕ) (t u : List ℕ) (d m p q : ℕ) → Alike t u d m → At t u d m q → p ≤ q → 0 < c
    → LineAlike t u d m p (spot_behind c t q) (spot_behind c u (d + q))
unfolding spot_behind
spot_there c t u d m p q a at o right =
    elim (cases_lt q m) [
      | inl l ↦ rw (column_alike t u d m q a at.inside, width_alike t u d m q a l, a.bytes q l) (elim (cases_Bool (byte t q == 9 && nat_lt (column_at t q) c)) [
        | inl h ↦ rw h record { same = refl; lies = tt }
        | inr h ↦ elim (cases_Bool (nat_lt 0 (break_width t q))) [
          | inl i ↦
              let some = ltb-true _ _ i in
              let here = break_inside t q some in
              rw (h, i, value_alike t u d m q a l some, add_assoc d q (break_width t q))
              record { same = refl; lies = (at_break t u d m q a l some, omega (arith, o, some), omega (arith, o, here)) }
          | inr i ↦ elim (cases_Bool (byte t q == 0 || not (column_at t q == c))) [
            | inl j ↦ rw (h, i, j) record { same = refl; lies = at.inside }
            | inr j ↦
                let text : is_text t q ≡ true = text_from (byte t q) (break_width t q) (not (column_at t q == c)) j i in
                let (some, none) = text_parts t q text in
                let here = within t q some in
                let far = past_some is_text t q text some in
                rw (h, i, j)
                (words_alike t u d m p q (line_end t q) (line_end u (d + q)) a o l far (omega (arith, o, here)) (lines_alike t u d m q a l))
          ]
        ]
      ])
      | inr past ↦
          let e : q ≡ m = omega (arith, at.inside, past) in
          let end : byte t q ≡ 0 = rw e a.edge in
          let there : IsQuiet (byte u (d + q)) = rw e (quiet_edge t u d m a) in
          let mine : (byte t q == 0 || not (column_at t q == c)) ≡ true = rw end refl in
          let others : (byte u (d + q) == 0 || not (column_at u (d + q) == c)) ≡ true = elim a.stops [
            | inl z ↦ let zero : byte u (d + q) ≡ 0 = rw e z in rw zero refl
            | inr i ↦
                let first : column_at u (d + q) ≡ 0 = rw e (indicator_column u (d + m) i) in
                off_column (byte u (d + q) == 0) (column_at u (d + q)) c first right
          ] in
          rw (quiet_tab _ (inl end), quiet_tab _ there, quiet_width t q (inl end), quiet_width u (d + q) there, mine, others)
          record { same = refl; lies = at.inside }
    ]
  where
    off_column : (z : Bool) (x c : ℕ) → x ≡ 0 → 0 < c → (z || not (x == c)) ≡ true
    off_column true x c h k = refl
    off_column false x c h k = grind (arith, nat_tests)

line_there : (c : ℕ) (t u : List ℕ) (d m p : ℕ) → Alike t u d m → At t u d m p → 0 < c
    → LineAlike t u d m p (line_spot c t p) (line_spot c u (d + p))
line_there c t u d m p a at right =
    let column = column_alike t u d m p a at.inside in
    let (same, next) = spaces_alike_at (c - column_at t p) t u d m p a at in
    let move : d + p + spaces (c - column_at t p) t p ≡ d + (p + spaces (c - column_at t p) t p) = omega arith in
    rw (column, same, move) (spot_there c t u d m p (p + spaces (c - column_at t p) t p) a next (omega arith) right)

-- ---- the scalar

abbrev moved_lines : ℕ → Lines → Lines
moved_lines d x = record { lines = x.lines; end = d + x.end; place = d + x.place }

abbrev LinesAlike : ℕ → ℕ → Result Lines Wrong → Result Lines Wrong → Type 0
LinesAlike d m r s = ReadAlike (λ (x : Lines). x.place ≤ m) (moved_lines d) d r s

lined_alike : (d m : ℕ) (l : BlockLine) (r s : Result Lines Wrong) → LinesAlike d m r s
    → LinesAlike d m (with_line l r) (with_line l s)
lined_alike d m l r s h = grind (arith, nat_tests)

abbrev Told : List ℕ → List ℕ → ℕ → ℕ → ℕ → ℕ → ℕ → ℕ → ℕ → Type 0
Told t u d m c end p n o = LinesAlike d m (lines_from n c t end p) (lines_from o c u (d + end) (d + p))

lines_by : (k : ℕ) (c : ℕ) (t u : List ℕ) (d m end p n o : ℕ) (s : LineSpot) → Alike t u d m
    → 0 < c → At t u d m p → length t ≤ p + k → length t < p + n → length u < d + p + o
    → line_spot c t p ≡ s → LineAlike t u d m p s (line_spot c u (d + p))
    → Told t u d m c end p n o
unfolding lines_from
lines_by k c t u d m end p zero o s a right at room fuel more e f = let short = at.short in absurd (omega (arith, fuel, short))
lines_by k c t u d m end p (suc n) zero s a right at room fuel more e f = let long = at.long in absurd (omega (arith, more, long))
lines_by k c t u d m end p (suc n) (suc o) (Stops q) a right at room fuel more e f = rw (e, f.same) record { same = refl; placed = f.lies }
lines_by k c t u d m end p (suc n) (suc o) (Tab q) a right at room fuel more e f = rw (e, f.same) record { same = refl; placed = tt }
lines_by zero c t u d m end p (suc n) (suc o) (Line l q) a right at room fuel more e f = let (x, further, mine) = f.lies in absurd (omega (arith, room, mine))
lines_by (suc k) c t u d m end p (suc n) (suc o) (Line l q) a right at room fuel more e f =
    let (x, further, mine) = f.lies in
    rw (e, f.same) (lined_alike d m l (lines_from n c t q q) (lines_from o c u (d + q) (d + q))
    (lines_by k c t u d m q q n o (line_spot c t q) a right x (omega (arith, room, further)) (omega (arith, fuel, further)) (omega (arith, more, further)) refl (line_there c t u d m q a x right)))

abbrev pub moved_block : ℕ → BlockText → BlockText
moved_block d x = record { value = x.value; end = d + x.end; place = d + x.place }

abbrev pub BlocksAlike : ℕ → ℕ → Result BlockText Wrong → Result BlockText Wrong → Type 0
BlocksAlike d m r s = ReadAlike (λ (x : BlockText). x.place ≤ m) (moved_block d) d r s

block_from : (d m : ℕ) (f : List BlockLine → List ℕ) (r s : Result Lines Wrong) → LinesAlike d m r s
    → BlocksAlike d m (block_with f r) (block_with f s)
block_from d m f r s h = grind (arith, nat_tests)

lines_of : (folded : Bool) (t u : List ℕ) (d m : ℕ) (h : HeaderText) (r s : Result ℕ Wrong)
    → Alike t u d m → At t u d m h.place → ColumnAlike d r s → Right r
    → BlocksAlike d m (block_lines folded t h r) (block_lines folded u (moved_header d h) s)
lines_of folded t u d m h (Err w) s a at e right = rw e record { same = refl; placed = tt }
lines_of folded t u d m h (Ok c) s a at e right =
    rw e (block_from d m (block_value folded h.chomp) (lines_from (suc (length t)) c t h.place h.place) (lines_from (suc (length u)) c u (d + h.place) (d + h.place))
    (lines_by (length t) c t u d m h.place h.place (suc (length t)) (suc (length u)) (line_spot c t h.place) a right at (omega arith) (omega arith) (omega arith) refl (line_there c t u d m h.place a at right)))

behind_header : (folded : Bool) (level : ℕ) (t u : List ℕ) (d m : ℕ) (r s : Result HeaderText Wrong)
    → Alike t u d m → HeadersAlike t u d m r s
    → BlocksAlike d m (block_behind folded level t r) (block_behind folded level u s)
behind_header folded level t u d m (Err w) s a h = let same = h.same in rw same record { same = refl; placed = tt }
behind_header folded level t u d m (Ok x) s a h =
    rw h.same (lines_of folded t u d m x (column_of level t x.digit x.place) (column_of level u x.digit (d + x.place)) a h.placed
    (column_there t u d m level x.digit x.place a h.placed) (column_right level t x.digit x.place))

-- a block scalar is the same, moved, and ends within
pub block_alike : (level : ℕ) (t u : List ℕ) (d m p : ℕ) → Alike t u d m → p < m
    → is_onward (byte t p) ≡ true → BlocksAlike d m (block_at level t p) (block_at level u (d + p))
block_alike level t u d m p a l on =
    let more = a.onward p l on in
    rw (a.bytes p l, add_assoc d p 1) (behind_header (byte t p == 62) level t u d m (header_at t (p + 1)) (header_at u (d + (p + 1))) a (header_alike t u d m (p + 1) a more))
