-- Quoted scalars are the same in both texts, unless they are open where the first one ends.
use Rattle.std.proofs.Common.{◌≡◌, ◌≢◌, ℕ, zero, suc, ◌+◌, ◌*◌, ◌<◌, ◌≤◌, ◌==◌, ◌&&◌, ◌||◌, nat_lt, Bool, true, false, List, length, Option, Some, None, option_and_then, option_map, Result, Err, refl, sym, ap, subst, ◌∙◌, inl, inr, ◌⊎◌, arith, add_assoc}
use Rattle.yaml_scan_laws.proofs.Shared.{cases_Bool, cases_lt, and_parts, eqb-true, ltb-true, nat_tests, byte, break_width, column_at, is_blank, is_blank_or_end, is_document_indicator, Wrong, Piece, value, QuotedSpot, Closing, Pieces, Bad, hex_digit, hex_value, hex_len, coded, simple_escape, escaped, escape_at, quote_at, standing_at, with_front, pieces, quoted_at, in_quotes, Alike, is_onward, none-some}
use Rattle.yaml_scan_history.specs.scan_model.declared.problem.Problem.TheVariants as problems
use Rattle.yaml_scan_history.specs.scan_model.declared.problem.Context.TheVariants as contexts
use Rattle.yaml_scan_history.specs.Quoted.{valued}
use Rattle.yaml_scan_laws.proofs.Bytes.{width_alike, next_byte, indicator_alike, off_cases, onward_some}
use Rattle.yaml_scan_laws.proofs.Gaps.{moved_wrong, moved_by, At, at_step, at_break, OkIs}
use Rattle.yaml_scan_laws.proofs.Plains.{value_alike, left_step, byte_at}
use Rattle.yaml_scan_laws.proofs.QuotedForward.{some_of}

abbrev pub moved_standing : ℕ → QuotedSpot → QuotedSpot
moved_standing d Closing = Closing
moved_standing d (Pieces ps q) = Pieces ps (d + q)
moved_standing d (Bad w) = Bad (moved_wrong d w)

abbrev Within : List ℕ → List ℕ → ℕ → ℕ → ℕ → QuotedSpot → Type 0
Within t u d m p Closing = At t u d m (p + 1)
Within t u d m p (Pieces ps q) = At t u d m q × p < q × p < length t × d + p < length u
Within t u d m p (Bad w) = Unit {0}

record StandsAlike (t u : List ℕ) (d m p : ℕ) (s r : QuotedSpot) : Type 0 where
  pub same : r ≡ moved_standing d s
  pub lies : Within t u d m p s

-- ---- numbers in escapes

no_digit : (b : ℕ) → is_onward b ≡ false → hex_digit b ≡ None
unfolding hex_digit
no_digit b h = grind (arith, nat_tests, off_cases)

-- a number lies in both texts
abbrev HexIn : List ℕ → List ℕ → ℕ → ℕ → ℕ → Option ℕ → Type 0
HexIn t u d m p None = Unit {0}
HexIn t u d m p (Some v) = (p < m) × At t u d m p

abbrev with_digit : Option ℕ → Option ℕ → Option ℕ
with_digit v digit = option_and_then (λ high. option_map (λ low. high * 16 + low) digit) v

digit_in : (t u : List ℕ) (d m p h : ℕ) → Alike t u d m → p < m → (digit : Option ℕ)
    → digit ≡ hex_digit (byte t p) → HexIn t u d m (p + 1) (with_digit (Some h) digit)
digit_in t u d m p h a l None e = tt
digit_in t u d m p h a l (Some v) e =
    elim (cases_Bool (is_onward (byte t p))) [
      | inl on ↦ (a.onward p l on, at_step t u d m p a l (onward_some _ on))
      | inr off ↦ absurd (none-some v (sym (e ∙ no_digit (byte t p) off)))
    ]

hex_step : (t u : List ℕ) (d m p : ℕ) (v w : Option ℕ) → Alike t u d m → w ≡ v
    → HexIn t u d m p v
    → (with_digit w (hex_digit (byte u (d + p))) ≡ with_digit v (hex_digit (byte t p)))
    × HexIn t u d m (p + 1) (with_digit v (hex_digit (byte t p)))
hex_step t u d m p v w a e h = grind (arith, nat_tests, digit_in)

hex_alike : (n : ℕ) (t u : List ℕ) (d m p : ℕ) → Alike t u d m → p < m → At t u d m p
    → (hex_value u (d + p) n ≡ hex_value t p n) × HexIn t u d m (p + n) (hex_value t p n)
unfolding hex_value
hex_alike zero t u d m p a l at = let e : p + 0 ≡ p = omega arith in rw e (refl, (l, at))
hex_alike (suc n) t u d m p a l at =
    let (same, lies) = hex_alike n t u d m p a l at in
    let e : d + p + n ≡ d + (p + n) = omega arith in
    let f : p + suc n ≡ p + n + 1 = omega arith in
    rw (e, f) (hex_step t u d m (p + n) (hex_value t p n) (hex_value u (d + p) n) a same lies)

-- ---- an escape

coded_alike : (t u : List ℕ) (d m o p q : ℕ) (v : Option ℕ) → o < q → o < length t
    → d + o < length u → HexIn t u d m q v
    → StandsAlike t u d m o (coded p q v) (coded (d + p) (d + q) v)
coded_alike t u d m o p q v f x y h = grind (arith, nat_tests)

escaped_alike : (t u : List ℕ) (d m p : ℕ) (v : Option (List ℕ)) → p < length t
    → d + p < length u → (v ≢ None → At t u d m (p + 2))
    → StandsAlike t u d m p (escaped p v) (escaped (d + p) v)
escaped_alike t u d m p v x y h = grind (arith, nat_tests)

no_escape : (b : ℕ) → is_onward b ≡ false → simple_escape b ≡ None
unfolding simple_escape
no_escape b h = grind (arith, nat_tests, off_cases)

long_onward : (b : ℕ) → 0 < hex_len b → is_onward b ≡ true
unfolding hex_len is_onward
long_onward b h = grind (arith, nat_tests)

escape_alike : (t u : List ℕ) (d m p : ℕ) → Alike t u d m → p < m → byte t p ≡ 92
    → StandsAlike t u d m p (escape_at t p) (escape_at u (d + p))
unfolding escape_at is_onward
escape_alike t u d m p a l slash =
    let on : is_onward (byte t p) ≡ true = rw slash refl in
    let (more, next) = next_byte t u d m p a l on in
    let (here, there) = byte_at t u d m p a l (omega (arith, slash)) in
    let width : break_width u (d + p + 1) ≡ break_width t (p + 1) = rw (add_assoc d p 1) (width_alike t u d m (p + 1) a more) in
    elim (cases_Bool (nat_lt 0 (break_width t (p + 1)))) [
      | inl h ↦
          let wide : 0 < break_width t (p + 1) = ltb-true _ _ h in
          let other : nat_lt 0 (break_width u (d + p + 1)) ≡ true = ap (λ w. nat_lt 0 w) width ∙ h in
          let far : d + p + 1 + break_width t (p + 1) ≡ d + (p + 1 + break_width t (p + 1)) = omega arith in
          rw (h, other, width, far) record { same = refl; lies = (at_break t u d m (p + 1) a more wide, omega (arith, wide), here, there) }
      | inr h ↦
          let other : nat_lt 0 (break_width u (d + p + 1)) ≡ false = ap (λ w. nat_lt 0 w) width ∙ h in
          elim (cases_Bool (nat_lt 0 (hex_len (byte t (p + 1))))) [
            | inl i ↦
                let some = long_onward (byte t (p + 1)) (ltb-true _ _ i) in
                let e : p + 1 + 1 ≡ p + 2 = omega arith in
                let second : p + 2 < m = omega (arith, a.onward (p + 1) more some) in
                let at : At t u d m (p + 2) = rw (← e) (at_step t u d m (p + 1) a more (onward_some _ some)) in
                let n = hex_len (byte t (p + 1)) in
                let (same, lies) = hex_alike n t u d m (p + 2) a second at in
                let g : d + (p + 2) + n ≡ d + (p + 2 + n) = omega arith in
                let k : nat_lt 0 (hex_len (byte u (d + p + 1))) ≡ true = ap (λ b. nat_lt 0 (hex_len b)) next ∙ i in
                rw (h, other, i, k, next, add_assoc d p 2, same, g) (coded_alike t u d m p (p + 2) (p + 2 + n) (hex_value t (p + 2) n) (omega arith) here there lies)
            | inr i ↦
                let k : nat_lt 0 (hex_len (byte u (d + p + 1))) ≡ false = ap (λ b. nat_lt 0 (hex_len b)) next ∙ i in
                let e : p + 1 + 1 ≡ p + 2 = omega arith in
                rw (h, other, i, k, next) (escaped_alike t u d m p (simple_escape (byte t (p + 1))) here there (λ some.
                elim (cases_Bool (is_onward (byte t (p + 1)))) [
                  | inl o ↦ rw (← e) (at_step t u d m (p + 1) a more (onward_some _ o))
                  | inr o ↦ absurd (some (no_escape (byte t (p + 1)) o))
                ]))
          ]
    ]

-- ---- what is at a place

-- of the quotes, none is a break
abbrev pub IsQuote : ℕ → Type 0
IsQuote q = (q ≡ 34) ⊎ (q ≡ 39)

quote_onward : (q b : ℕ) → IsQuote q → (b == q) ≡ true → is_onward b ≡ true
unfolding is_onward
quote_onward q b h e = grind (arith, nat_tests)

closes_alike : (t u : List ℕ) (d m p quote : ℕ) → Alike t u d m → p < m
    → is_onward (byte t p) ≡ true
    → StandsAlike t u d m p (quote_at quote t p) (quote_at quote u (d + p))
unfolding quote_at
closes_alike t u d m p quote a l on =
    let (more, next) = next_byte t u d m p a l on in
    let (here, there) = byte_at t u d m p a l (onward_some _ on) in
    let same : (quote == 39 && byte u (d + p + 1) == 39) ≡ (quote == 39 && byte t (p + 1) == 39) = ap (λ b. quote == 39 && b == 39) next in
    elim (cases_Bool (quote == 39 && byte t (p + 1) == 39)) [
      | inr h ↦ rw (h, same ∙ h) record { same = refl; lies = at_step t u d m p a l (onward_some _ on) }
      | inl h ↦
          let second : byte t (p + 1) ≡ 39 = eqb-true _ _ (and_parts (quote == 39) (byte t (p + 1) == 39) h).1 in
          let f : d + p + 2 ≡ d + (p + 2) = omega arith in
          let at : At t u d m (p + 2) = rw (← (add_assoc p 1 1)) (at_step t u d m (p + 1) a more (omega (arith, second))) in
          rw (h, same ∙ h, f) record { same = refl; lies = (at, omega arith, here, there) }
    ]

stands_alike : (t u : List ℕ) (d m quote p : ℕ) → Alike t u d m → p < m → IsQuote quote
    → StandsAlike t u d m p (standing_at quote t p) (standing_at quote u (d + p))
unfolding standing_at
stands_alike t u d m quote p a l q =
    rw (indicator_alike t u d m p a l, width_alike t u d m p a l, a.bytes p l)
    (elim (cases_Bool (is_document_indicator t p)) [
      | inl h ↦ rw h record { same = refl; lies = tt }
      | inr h ↦ elim (cases_Bool (byte t p == 0)) [
        | inl i ↦ rw (h, i) record { same = refl; lies = tt }
        | inr i ↦
            let some = some_of (byte t p) i in
            let (here, there) = byte_at t u d m p a l some in
            elim (cases_Bool (byte t p == quote)) [
              | inl j ↦ rw (h, i, j) (closes_alike t u d m p quote a l (quote_onward quote (byte t p) q j))
              | inr j ↦ elim (cases_Bool (nat_lt 0 (break_width t p))) [
                | inl k ↦
                    let wide = ltb-true _ _ k in
                    rw (h, i, j, k, value_alike t u d m p a l wide, add_assoc d p (break_width t p))
                    record { same = refl; lies = (at_break t u d m p a l wide, omega (arith, wide), here, there) }
                | inr k ↦ elim (cases_Bool (is_blank (byte t p))) [
                  | inl n ↦ rw (h, i, j, k, n, add_assoc d p 1) record { same = refl; lies = (at_step t u d m p a l some, omega arith, here, there) }
                  | inr n ↦ elim (cases_Bool (quote == 34 && byte t p == 92)) [
                    | inl o ↦ rw (h, i, j, k, n, o) (escape_alike t u d m p a l (eqb-true _ _ (and_parts (quote == 34) (byte t p == 92) o).1))
                    | inr o ↦ rw (h, i, j, k, n, o, add_assoc d p 1) record { same = refl; lies = (at_step t u d m p a l some, omega arith, here, there) }
                  ]
                ]
              ]
            ]
      ]
    ])

-- ---- pieces, one after another

abbrev pub moved_pair : {A : Type 0} → ℕ → A × ℕ → A × ℕ
moved_pair d x = (x.0, d + x.1)

-- where the first text ends either is wrong, where the other goes on with a mark of documents
pub record IsTorn (u : List ℕ) (d m : ℕ) {A : Type 0} (r s : Result A Wrong) : Type 0 where
  pub mark : is_document_indicator u (d + m) ≡ true
  pub wrong : Wrong
  pub mine : r ≡ Err wrong
  pub place : wrong.place ≡ m
  pub other : Wrong
  pub others : s ≡ Err other
  pub there : other.place ≡ d + m

-- it is the same, moved; or it is torn
abbrev pub Carried : {A : Type 0} → List ℕ → ℕ → ℕ → (A → A) → Result A Wrong → Result A Wrong
    → Type 0
Carried u d m f r s = (s ≡ moved_by f d r) ⊎ IsTorn u d m r s

-- what is torn stays so
pub torn_by : {A B : Type 0} (f : Result A Wrong → Result B Wrong) (u : List ℕ) (d m : ℕ)
    (r s : Result A Wrong) → ((w : Wrong) → f (Err w) ≡ Err w) → IsTorn u d m r s
    → IsTorn u d m (f r) (f s)
torn_by f u d m r s errs t = grind (arith, nat_tests)

abbrev pub PairIn : {A : Type 0} → ℕ → Result (A × ℕ) Wrong → Type 0
PairIn m r = OkIs (λ x. x.1 ≤ m) r

record PiecesAlike (u : List ℕ) (d m : ℕ) (r s : Result (List Piece × ℕ) Wrong) : Type 0 where
  pub carried : Carried u d m (moved_pair d) r s
  pub placed : PairIn m r

front_alike : (u : List ℕ) (d m : ℕ) (ps : List Piece) (r s : Result (List Piece × ℕ) Wrong)
    → PiecesAlike u d m r s → PiecesAlike u d m (with_front ps r) (with_front ps s)
front_alike u d m ps r s h = grind (arith, nat_tests, torn_by)

no_mark : (c z : Bool) (b x y : ℕ) → b ≡ 0
    → ((c && (((b == 45 && x == 45) && y == 45) || ((b == 46 && x == 46) && y == 46))) && z) ≡ false
no_mark c z b x y h = grind (arith, nat_tests)

pub end_no_mark : (u : List ℕ) (p : ℕ) → byte u p ≡ 0 → is_document_indicator u p ≡ false
unfolding is_document_indicator
end_no_mark u p h = no_mark (column_at u p == 0) (is_blank_or_end u (p + 3)) (byte u p) (byte u (p + 1)) (byte u (p + 2)) h

end_stands : (quote : ℕ) (u : List ℕ) (p : ℕ) → byte u p ≡ 0
    → standing_at quote u p ≡ in_quotes problems.EndOfStream p
unfolding standing_at
end_stands quote u p h = rw (end_no_mark u p h, h) refl

-- where the first text ends, either ends, or a mark of documents is in the other
record Tears (u : List ℕ) (d m : ℕ) (s r : QuotedSpot) : Type 0 where
  pub mark : is_document_indicator u (d + m) ≡ true
  pub wrong : Wrong
  pub mine : s ≡ Bad wrong
  pub place : wrong.place ≡ m
  pub other : Wrong
  pub others : r ≡ Bad other
  pub there : other.place ≡ d + m

abbrev Spotted : List ℕ → List ℕ → ℕ → ℕ → ℕ → QuotedSpot → QuotedSpot → Type 0
Spotted t u d m p s r = StandsAlike t u d m p s r ⊎ Tears u d m s r

mark_standing : (quote : ℕ) (u : List ℕ) (p : ℕ) → is_document_indicator u p ≡ true
    → standing_at quote u p ≡ in_quotes problems.DocumentIndicator p
unfolding standing_at
mark_standing quote u p h = rw h refl

stands_there : (t u : List ℕ) (d m quote p : ℕ) → Alike t u d m → p ≤ m → IsQuote quote
    → Spotted t u d m p (standing_at quote t p) (standing_at quote u (d + p))
stands_there t u d m quote p a l q =
    elim (cases_lt p m) [
      | inl on ↦ inl (stands_alike t u d m quote p a on q)
      | inr past ↦
          let e : p ≡ m = omega (arith, l, past) in
          let mine = end_stands quote t p (rw e a.edge) in
          elim a.stops [
            | inl z ↦
                let there : byte u (d + p) ≡ 0 = rw e z in
                inl (rw (mine, end_stands quote u (d + p) there) record { same = refl; lies = tt })
            | inr i ↦ inr record {
              mark = i;
              wrong = record { problem = problems.EndOfStream; context = contexts.QuotedScalar; place = p };
              mine = mine;
              place = e;
              other = record { problem = problems.DocumentIndicator; context = contexts.QuotedScalar; place = d + p };
              others = mark_standing quote u (d + p) (ap (λ q. is_document_indicator u (d + q)) e ∙ i);
              there = ap (λ q. d + q) e;
            }
          ]
    ]

abbrev Told : List ℕ → List ℕ → ℕ → ℕ → ℕ → ℕ → ℕ → ℕ → Type 0
Told t u d m quote p n o = PiecesAlike u d m (pieces n quote t p) (pieces o quote u (d + p))

pieces_torn : (t u : List ℕ) (d m quote p n o : ℕ)
    → (x : Tears u d m (standing_at quote t p) (standing_at quote u (d + p)))
    → Told t u d m quote p (suc n) (suc o)
unfolding pieces
pieces_torn t u d m quote p n o x =
    rw (x.mine, x.others) record {
      carried = inr record { mark = x.mark; wrong = x.wrong; mine = refl; place = x.place; other = x.other; others = refl; there = x.there };
      placed = tt;
    }

pieces_more : (t u : List ℕ) (d m quote p n o : ℕ) (ps : List Piece) (q : ℕ)
    → standing_at quote t p ≡ Pieces ps q → standing_at quote u (d + p) ≡ Pieces ps (d + q)
    → Told t u d m quote q n o → Told t u d m quote p (suc n) (suc o)
unfolding pieces
pieces_more t u d m quote p n o ps q e f step = grind (arith, nat_tests, front_alike)

pieces_by : (k : ℕ) (t u : List ℕ) (d m quote p n o : ℕ) (s : QuotedSpot) → Alike t u d m
    → IsQuote quote → At t u d m p → length t ≤ p + k → length t < p + n → length u < d + p + o
    → standing_at quote t p ≡ s → Spotted t u d m p s (standing_at quote u (d + p))
    → Told t u d m quote p n o
pieces_by k t u d m quote p n o s a q here room fuel more e (inr f) =
    let (x, en) = left_step p n (length t) fuel here.short in
    let (y, eo) = left_step (d + p) o (length u) more here.long in
    rw (en, eo) (pieces_torn t u d m quote p x y (subst (λ z. Tears u d m z (standing_at quote u (d + p))) (sym e) f))
pieces_by k t u d m quote p n o Closing a q here room fuel more e (inl f) =
    let (x, en) = left_step p n (length t) fuel here.short in
    let (y, eo) = left_step (d + p) o (length u) more here.long in
    rw (en, eo) (unfold pieces in rw (e, f.same, add_assoc d p 1) record { carried = inl refl; placed = f.lies.inside })
pieces_by k t u d m quote p n o (Bad w) a q here room fuel more e (inl f) =
    let (x, en) = left_step p n (length t) fuel here.short in
    let (y, eo) = left_step (d + p) o (length u) more here.long in
    rw (en, eo) (unfold pieces in rw (e, f.same) record { carried = inl refl; placed = tt })
pieces_by zero t u d m quote p n o (Pieces ps r) a q here room fuel more e (inl f) =
    let (at, further, mine, others) = f.lies in absurd (omega (arith, room, mine))
pieces_by (suc k) t u d m quote p n o (Pieces ps r) a q here room fuel more e (inl f) =
    let (at, further, mine, others) = f.lies in
    let (x, en) = left_step p n (length t) fuel here.short in
    let (y, eo) = left_step (d + p) o (length u) more here.long in
    let less : length t < r + x = omega (arith, fuel, en, further) in
    let fewer : length u < d + r + y = omega (arith, more, eo, further) in
    let step = pieces_by k t u d m quote r x y (standing_at quote t r) a q at (omega (arith, room, further)) less fewer refl (stands_there t u d m quote r a at.inside q) in
    rw (en, eo) (pieces_more t u d m quote p x y ps r e f.same step)

-- ---- the scalar

pub record QuotedAlike (u : List ℕ) (d m : ℕ) (r s : Result (List ℕ × ℕ) Wrong) : Type 0 where
  pub carried : Carried u d m (moved_pair d) r s
  pub placed : PairIn m r

valued_alike : (u : List ℕ) (d m : ℕ) (r s : Result (List Piece × ℕ) Wrong)
    → PiecesAlike u d m r s → QuotedAlike u d m (valued value r) (valued value s)
valued_alike u d m r s h = grind (arith, nat_tests, torn_by)

-- a quoted scalar is the same, moved, and ends within
pub quoted_alike : (t u : List ℕ) (d m quote p : ℕ) → Alike t u d m → p < m → IsQuote quote
    → 0 < byte t p
    → QuotedAlike u d m (quoted_at quote t p) (quoted_at quote u (d + p))
quoted_alike t u d m quote p a l q some =
    let here = at_step t u d m p a l some in
    let there = stands_there t u d m quote (p + 1) a here.inside q in
    rw (add_assoc d p 1) (valued_alike u d m (pieces (length t) quote t (p + 1)) (pieces (length u) quote u (d + (p + 1)))
    (pieces_by (length t) t u d m quote (p + 1) (length t) (length u) (standing_at quote t (p + 1)) a q here (omega arith) (omega arith) (omega arith) refl there))
