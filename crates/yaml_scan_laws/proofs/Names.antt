-- Anchors, URIs, tags and directives are the same in both texts.
use Rattle.std.proofs.Common.{◌≡◌, ℕ, zero, suc, ◌+◌, ◌<◌, ◌≤◌, ◌==◌, ◌&&◌, ◌||◌, nat_lt, if◌then◌else◌, Bool, true, false, not, List, length, slice_range, Option, Some, None, Result, Ok, Err, refl, ap, ◌∙◌, inl, inr, arith, add_assoc}
use Rattle.yaml_scan_laws.proofs.Shared.{cases_Bool, eqb-true, nat_tests, byte, is_alpha_byte, is_digit_byte, Wrong, belongs, run_end, is_name_end, may_end_name, name_between, anchor_at, is_punctuation, is_wide_punctuation, is_uri, octet_of, octet_at, UriSpot, Spells, octet_spot, with_bytes, uri_within, uri_at, filled, some_uri_at, TagText, tag_end, bracketed, verbatim_at, name_end, with_handle, bare, bare_at, parts_at, may_end_tag, tag_at, run_place, Alike, is_onward}
use Rattle.yaml_scan_history.specs.scan_model.declared.problem.Context.{Context}
use Rattle.yaml_scan_history.specs.scan_model.declared.problem.Context.TheVariants as contexts
use Rattle.yaml_scan_history.specs.Uris.{hex_digit, Ends, Faulty, spot_at}
use Rattle.yaml_scan_history.specs.Tags.{ended}
use Rattle.yaml_scan_laws.proofs.Bytes.{end_alike, next_byte, off_cases, onward_some, or_alike}
use Rattle.yaml_scan_laws.proofs.Gaps.{run_alike, range_alike, moved_by, at_step}
use Rattle.yaml_scan_laws.proofs.Plains.{left_step, byte_at}
use Rattle.yaml_scan_laws.proofs.Quotes.{moved_pair}

-- what is read ends within
abbrev pub EndsIn : {A : Type 0} → (A → ℕ) → ℕ → Result A Wrong → Type 0
EndsIn f m (Ok x) = f x < m
EndsIn f m (Err w) = Unit {0}

-- it is the same, moved, and ends within
pub record Alike_in {A : Type 0} (f : A → A) (end : A → ℕ) (d m : ℕ) (r s : Result A Wrong) : Type 0 where
  pub same : s ≡ moved_by f d r
  pub ends : EndsIn end m r

abbrev pub second : {A : Type 0} → A × ℕ → ℕ
second x = x.1

abbrev pub PairAlike : {A : Type 0} → ℕ → ℕ → Result (A × ℕ) Wrong → Result (A × ℕ) Wrong → Type 0
PairAlike d m r s = Alike_in (moved_pair d) second d m r s

-- ---- anchors

ends_name : (t u : List ℕ) (d m p : ℕ) → Alike t u d m → p < m
    → may_end_name u (d + p) ≡ may_end_name t p
unfolding may_end_name
ends_name t u d m p a l = or_alike _ _ _ _ (end_alike t u d m p a l) (ap is_name_end (a.bytes p l))

pub moved_equal : (d p q : ℕ) → (d + p == d + q) ≡ (p == q)
moved_equal d p q = grind (arith, nat_tests)

name_alike : (context : Context) (t u : List ℕ) (d m p q : ℕ) → Alike t u d m → p ≤ q → q < m
    → q ≤ length t → d + q ≤ length u
    → PairAlike d m (name_between context t p q) (name_between context u (d + p) (d + q))
name_alike context t u d m p q a f l short long =
    let tests : (d + p == d + q || not (may_end_name u (d + q))) ≡ (p == q || not (may_end_name t q)) =
    rw (moved_equal d p q, ends_name t u d m q a l) refl in
    elim (cases_Bool (p == q || not (may_end_name t q))) [
      | inl h ↦ rw (h, tests ∙ h) record { same = refl; ends = tt }
      | inr h ↦ rw (h, tests ∙ h, range_alike t u d m p q a f (omega (arith, l)) short long) record { same = refl; ends = l }
    ]

-- the run there, in both texts
pub record Run_in (t u : List ℕ) (d m p q r : ℕ) : Type 0 where
  pub order : p ≤ q
  pub inside : q < m
  pub same : r ≡ d + q
  pub short : q ≤ length t
  pub long : d + q ≤ length u

pub run_in : (t u : List ℕ) (d m p : ℕ) (run : _) → Alike t u d m
    → ((x : ℕ) → x < m → belongs run u (d + x) ≡ belongs run t x) → p < m
    → Run_in t u d m p (run_end run t p) (run_end run u (d + p))
run_in t u d m p run a like l =
    let runs = run_alike t u d m p run a like l in
    let here = run_place run t p (omega (arith, l, a.short)) in
    let there = run_place run u (d + p) (omega (arith, l, a.long)) in
    record { order = runs.order; inside = runs.inside; same = runs.same; short = here.inside; long = omega (arith, runs.same, there.inside) }

anchor_from : (context : Context) (t u : List ℕ) (d m p q r : ℕ) → Alike t u d m
    → Run_in t u d m p q r
    → PairAlike d m (name_between context t p q) (name_between context u (d + p) r)
anchor_from context t u d m p q r a run =
    rw run.same (name_alike context t u d m p q a run.order run.inside run.short run.long)

pub anchor_alike : (context : Context) (t u : List ℕ) (d m p : ℕ) → Alike t u d m → p < m
    → is_onward (byte t p) ≡ true
    → PairAlike d m (anchor_at context t p) (anchor_at context u (d + p))
unfolding belongs
anchor_alike context t u d m p a l on =
    let more = a.onward p l on in
    rw (add_assoc d p 1) (anchor_from context t u d m (p + 1) _ _ a (run_in t u d m (p + 1) _ a (λ x y. rw (a.bytes x y) refl) more))

-- ---- URIs

abbrev moved_spot : ℕ → UriSpot → UriSpot
moved_spot d (Spells b next q) = Spells b next (d + q)
moved_spot d (Ends q) = Ends (d + q)
moved_spot d (Faulty problem q) = Faulty problem (d + q)

abbrev Within : List ℕ → List ℕ → ℕ → ℕ → ℕ → UriSpot → Type 0
Within t u d m p (Spells b next q) = (q < m) × p < q × p < length t × d + p < length u
Within t u d m p (Ends q) = q < m
Within t u d m p (Faulty problem q) = Unit {0}

record SpotAlike (t u : List ℕ) (d m p : ℕ) (s r : UriSpot) : Type 0 where
  pub same : r ≡ moved_spot d s
  pub lies : Within t u d m p s

no_digit : (b : ℕ) → is_onward b ≡ false → hex_digit b ≡ None
unfolding hex_digit
no_digit b h = grind (arith, nat_tests, off_cases)

none_first : (o : Option ℕ) → octet_of None o ≡ None
none_first o = grind (arith, nat_tests)

none_last : (o : Option ℕ) → octet_of o None ≡ None
none_last o = grind (arith, nat_tests)

-- an octet is the same, and what has one lies within
OctetIn : ℕ → ℕ → Option ℕ → Type 0
OctetIn m p None = Unit {0}
OctetIn m p (Some b) = p + 3 < m

octet_alike : (t u : List ℕ) (d m p : ℕ) → Alike t u d m → p < m → is_onward (byte t p) ≡ true
    → (octet_at u (d + p) ≡ octet_at t p) × OctetIn m p (octet_at t p)
unfolding octet_at OctetIn
octet_alike t u d m p a l on =
    let (more, next) = next_byte t u d m p a l on in
    elim (cases_Bool (is_onward (byte t (p + 1)))) [
      | inr off ↦
          let none = no_digit (byte t (p + 1)) off in
          rw (next, none, none_first (hex_digit (byte u (d + p + 2))), none_first (hex_digit (byte t (p + 2)))) (refl, tt)
      | inl go ↦
          let (most, third) = next_byte t u d m (p + 1) a more go in
          let e : d + (p + 1) + 1 ≡ d + p + 2 = omega arith in
          let last : byte u (d + p + 2) ≡ byte t (p + 2) = rw (← e, ← (add_assoc p 1 1)) third in
          elim (cases_Bool (is_onward (byte t (p + 2)))) [
            | inr off ↦
                let none = no_digit (byte t (p + 2)) off in
                rw (next, last, none, none_last (hex_digit (byte t (p + 1)))) (refl, tt)
            | inl far ↦
                let beyond = a.onward (p + 2) (omega (arith, most)) far in
                rw (next, last) (refl, octet_in (hex_digit (byte t (p + 1))) (hex_digit (byte t (p + 2))) (omega (arith, beyond)))
          ]
    ]
  where
    octet_in : (x y : Option ℕ) → p + 3 < m → OctetIn m p (octet_of x y)
    octet_in (Some x) (Some y) h = h
    octet_in (Some x) None h = tt
    octet_in None y h = rw (none_first y) tt

octet_spots : (t u : List ℕ) (d m p due : ℕ) (o : Option ℕ) → OctetIn m p o → p < length t
    → d + p < length u
    → SpotAlike t u d m p (octet_spot due p o) (octet_spot due (d + p) o)
unfolding OctetIn
octet_spots t u d m p due o h x y = grind (arith, nat_tests)

pub letter_onward : (b : ℕ) → 32 < b → is_onward b ≡ true
unfolding is_onward
letter_onward b h = grind (arith, nat_tests)

uri_onward : (wide : Bool) (b : ℕ)
    → (is_alpha_byte b || (is_punctuation b || (wide && is_wide_punctuation b))) ≡ true
    → is_onward b ≡ true
unfolding is_alpha_byte is_digit_byte is_punctuation is_wide_punctuation is_onward
uri_onward true b h = grind (arith, nat_tests)
uri_onward false b h = grind (arith, nat_tests)

spot_alike : (wide : Bool) (due : ℕ) (t u : List ℕ) (d m p : ℕ) → Alike t u d m → p < m
    → SpotAlike t u d m p (spot_at wide due t p) (spot_at wide due u (d + p))
unfolding spot_at
spot_alike wide due t u d m p a l =
    elim (cases_Bool (byte t p == 37)) [
      | inl h ↦
          let on : is_onward (byte t p) ≡ true = unfold is_onward in rw (eqb-true _ _ h) refl in
          let (same, lies) = octet_alike t u d m p a l on in
          let (here, there) = byte_at t u d m p a l (onward_some _ on) in
          rw (a.bytes p l, h, same) (octet_spots t u d m p due (octet_at t p) lies here there)
      | inr h ↦ rw (a.bytes p l, h) (elim (cases_Bool (nat_lt 0 due)) [
        | inl i ↦ rw i record { same = refl; lies = tt }
        | inr i ↦ elim (cases_Bool (is_uri wide t p)) [
          | inl j ↦
              let on = uri_onward wide (byte t p) j in
              let (here, there) = byte_at t u d m p a l (onward_some _ on) in
              rw (i, j, add_assoc d p 1) record { same = refl; lies = (a.onward p l on, omega arith, here, there) }
          | inr j ↦ rw (i, j) record { same = refl; lies = l }
        ]
      ])
    ]

bytes_alike : (d m : ℕ) (bs : List ℕ) (r s : Result (List ℕ × ℕ) Wrong) → PairAlike d m r s
    → PairAlike d m (with_bytes bs r) (with_bytes bs s)
bytes_alike d m bs r s h = grind (arith, nat_tests)

abbrev Told : Context → Bool → List ℕ → List ℕ → ℕ → ℕ → ℕ → ℕ → ℕ → ℕ → Type 0
Told context wide t u d m due p n o = PairAlike d m (uri_within n context wide due t p) (uri_within o context wide due u (d + p))

uri_more : (context : Context) (wide : Bool) (t u : List ℕ) (d m due p n o b next q : ℕ)
    → spot_at wide due t p ≡ Spells b next q → spot_at wide due u (d + p) ≡ Spells b next (d + q)
    → Told context wide t u d m next q n o → Told context wide t u d m due p (suc n) (suc o)
unfolding uri_within
uri_more context wide t u d m due p n o b next q e f step = grind (arith, nat_tests, bytes_alike)

pub short_at : (t u : List ℕ) (d m p : ℕ) → Alike t u d m → p < m → p ≤ length t
short_at t u d m p a l = let short = a.short in omega (arith, l, short)

pub long_at : (t u : List ℕ) (d m p : ℕ) → Alike t u d m → p < m → d + p ≤ length u
long_at t u d m p a l = let long = a.long in omega (arith, l, long)

uri_by : (k : ℕ) (context : Context) (wide : Bool) (t u : List ℕ) (d m due p n o : ℕ) (s : UriSpot)
    → Alike t u d m
    → p < m → length t ≤ p + k → length t < p + n → length u < d + p + o
    → spot_at wide due t p ≡ s → SpotAlike t u d m p s (spot_at wide due u (d + p))
    → Told context wide t u d m due p n o
uri_by k context wide t u d m due p n o (Ends q) a l room fuel more e f =
    let (x, en) = left_step p n (length t) fuel (short_at t u d m p a l) in
    let (y, eo) = left_step (d + p) o (length u) more (long_at t u d m p a l) in
    rw (en, eo) (unfold uri_within in rw (e, f.same) record { same = refl; ends = f.lies })
uri_by k context wide t u d m due p n o (Faulty problem q) a l room fuel more e f =
    let (x, en) = left_step p n (length t) fuel (short_at t u d m p a l) in
    let (y, eo) = left_step (d + p) o (length u) more (long_at t u d m p a l) in
    rw (en, eo) (unfold uri_within in rw (e, f.same) record { same = refl; ends = tt })
uri_by zero context wide t u d m due p n o (Spells b next q) a l room fuel more e f =
    let (at, further, mine, others) = f.lies in absurd (omega (arith, room, mine))
uri_by (suc k) context wide t u d m due p n o (Spells b next q) a l room fuel more e f =
    let (at, further, mine, others) = f.lies in
    let (x, en) = left_step p n (length t) fuel (short_at t u d m p a l) in
    let (y, eo) = left_step (d + p) o (length u) more (long_at t u d m p a l) in
    let less : length t < q + x = omega (arith, fuel, en, further) in
    let fewer : length u < d + q + y = omega (arith, more, eo, further) in
    let step = uri_by k context wide t u d m next q x y (spot_at wide next t q) a at (omega (arith, room, further)) less fewer refl (spot_alike wide next t u d m q a at) in
    rw (en, eo) (uri_more context wide t u d m due p x y b next q e f.same step)

pub uri_alike : (context : Context) (wide : Bool) (t u : List ℕ) (d m p : ℕ) → Alike t u d m → p < m
    → PairAlike d m (uri_at context wide t p) (uri_at context wide u (d + p))
uri_alike context wide t u d m p a l = uri_by (length t) context wide t u d m 0 p (suc (length t)) (suc (length u)) (spot_at wide 0 t p) a l (omega arith) (omega arith) (omega arith) refl (spot_alike wide 0 t u d m p a l)

filled_alike : (context : Context) (d m : ℕ) (r s : Result (List ℕ × ℕ) Wrong) → PairAlike d m r s
    → PairAlike d m (filled context r) (filled context s)
filled_alike context d m r s h = grind (arith, nat_tests)

pub some_uri_alike : (context : Context) (wide : Bool) (t u : List ℕ) (d m p : ℕ) → Alike t u d m
    → p < m → PairAlike d m (some_uri_at context wide t p) (some_uri_at context wide u (d + p))
some_uri_alike context wide t u d m p a l = filled_alike context d m (uri_at context wide t p) (uri_at context wide u (d + p)) (uri_alike context wide t u d m p a l)

-- ---- tags

abbrev pub moved_tag : ℕ → TagText → TagText
moved_tag d x = record { handle = x.handle; suffix = x.suffix; end = d + x.end }

abbrev pub TagAlike : ℕ → ℕ → Result TagText Wrong → Result TagText Wrong → Type 0
TagAlike d m r s = Alike_in (moved_tag d) tag_end d m r s

bracket_alike : (t u : List ℕ) (d m : ℕ) (r s : Result (List ℕ × ℕ) Wrong) → Alike t u d m
    → PairAlike d m r s → TagAlike d m (bracketed t r) (bracketed u s)
bracket_alike t u d m (Err w) s a h = let same = h.same in rw same record { same = refl; ends = tt }
bracket_alike t u d m (Ok x) s a h =
    let l = h.ends in
    let test : (byte u (d + x.1) == 62) ≡ (byte t x.1 == 62) = ap (λ b. b == 62) (a.bytes x.1 l) in
    elim (cases_Bool (byte t x.1 == 62)) [
      | inl e ↦ rw (h.same, e, test ∙ e, add_assoc d x.1 1) record { same = refl; ends = a.onward x.1 l (letter_onward (byte t x.1) (over (byte t x.1) (eqb-true _ _ e))) }
      | inr e ↦ rw (h.same, e, test ∙ e) record { same = refl; ends = tt }
    ]
  where
    over : (b : ℕ) → b ≡ 62 → 32 < b
    over b e = omega (arith, e)

handled_alike : (d m : ℕ) (h : List ℕ) (r s : Result (List ℕ × ℕ) Wrong) → PairAlike d m r s
    → TagAlike d m (with_handle h r) (with_handle h s)
handled_alike d m h r s k = grind (arith, nat_tests)

bare_alike : (d m : ℕ) (r s : Result (List ℕ × ℕ) Wrong) → PairAlike d m r s
    → TagAlike d m (bare r) (bare s)
bare_alike d m r s k = grind (arith, nat_tests)

named_alike : (t u : List ℕ) (d m p q r : ℕ) → Alike t u d m → p < m → p ≤ q
    → Run_in t u d m (p + 1) q r → byte t q ≡ 33
    → TagAlike d m (with_handle (slice_range t p (q + 1)) (some_uri_at contexts.TagUri false t (q + 1)))
    (with_handle (slice_range u (d + p) (r + 1)) (some_uri_at contexts.TagUri false u (r + 1)))
named_alike t u d m p q r a l f run mark =
    let same = run.same in
    let more = a.onward q run.inside (letter_onward (byte t q) (omega (arith, mark))) in
    let at = at_step t u d m q a run.inside (omega (arith, mark)) in
    let move : d + q + 1 ≡ d + (q + 1) = omega arith in
    rw (same, move, range_alike t u d m p (q + 1) a (omega (arith, f)) at.inside at.short at.long)
    (handled_alike d m (slice_range t p (q + 1)) (some_uri_at contexts.TagUri false t (q + 1)) (some_uri_at contexts.TagUri false u (d + (q + 1))) (some_uri_alike contexts.TagUri false t u d m (q + 1) a more))

parts_from : (t u : List ℕ) (d m p q r : ℕ) → Alike t u d m → p < m → p + 1 < m
    → Run_in t u d m (p + 1) q r → (v w : Result TagText Wrong)
    → v ≡ (if byte t (p + 1) == 60 then verbatim_at t p else if byte t q == 33 then with_handle (slice_range t p (q + 1)) (some_uri_at contexts.TagUri false t (q + 1)) else bare_at t p)
    → w ≡ (if byte u (d + p + 1) == 60 then verbatim_at u (d + p) else if byte u r == 33 then with_handle (slice_range u (d + p) (r + 1)) (some_uri_at contexts.TagUri false u (r + 1)) else bare_at u (d + p))
    → TagAlike d m v w
parts_from t u d m p q r a l more run v w e f =
    let next : (byte u (d + p + 1) == 60) ≡ (byte t (p + 1) == 60) = rw (add_assoc d p 1) (ap (λ b. b == 60) (a.bytes (p + 1) more)) in
    elim (cases_Bool (byte t (p + 1) == 60)) [
      | inl h ↦
          let wide : 32 < byte t (p + 1) = omega (arith, eqb-true _ _ h) in
          let most = a.onward (p + 1) more (letter_onward (byte t (p + 1)) wide) in
          let second : p + 2 < m = omega (arith, most) in
          rw (e, f, h, next ∙ h, add_assoc d p 2) (bracket_alike t u d m (some_uri_at contexts.TagUri true t (p + 2)) (some_uri_at contexts.TagUri true u (d + (p + 2))) a (some_uri_alike contexts.TagUri true t u d m (p + 2) a second))
      | inr h ↦
          let mark : (byte u r == 33) ≡ (byte t q == 33) = rw run.same (ap (λ b. b == 33) (a.bytes q run.inside)) in
          elim (cases_Bool (byte t q == 33)) [
            | inl i ↦ rw (e, f, h, next ∙ h, i, mark ∙ i) (named_alike t u d m p q r a l (omega (arith, run.order)) run (eqb-true _ _ i))
            | inr i ↦ rw (e, f, h, next ∙ h, i, mark ∙ i, add_assoc d p 1) (bare_alike d m (uri_at contexts.TagUri false t (p + 1)) (uri_at contexts.TagUri false u (d + (p + 1))) (uri_alike contexts.TagUri false t u d m (p + 1) a more))
          ]
    ]

parts_alike : (t u : List ℕ) (d m p : ℕ) → Alike t u d m → p < m → is_onward (byte t p) ≡ true
    → TagAlike d m (parts_at t p) (parts_at u (d + p))
unfolding parts_at belongs
parts_alike t u d m p a l on =
    let more = a.onward p l on in
    let run : Run_in t u d m (p + 1) (name_end t p) (name_end u (d + p)) = rw (add_assoc d p 1) (run_in t u d m (p + 1) _ a (λ x y. rw (a.bytes x y) refl) more) in
    parts_from t u d m p (name_end t p) (name_end u (d + p)) a l more run (parts_at t p) (parts_at u (d + p)) refl refl

tag_ends : (t u : List ℕ) (d m : ℕ) (flow : Bool) (r s : Result TagText Wrong) → Alike t u d m
    → TagAlike d m r s → TagAlike d m (ended flow t r) (ended flow u s)
tag_ends t u d m flow (Err w) s a h = let same = h.same in rw same record { same = refl; ends = tt }
tag_ends t u d m flow (Ok x) s a h =
    let test : may_end_tag flow u (d + x.end) ≡ may_end_tag flow t x.end = or_alike _ _ _ _ (end_alike t u d m x.end a h.ends) (ap (λ b. flow && b == 44) (a.bytes x.end h.ends)) in
    elim (cases_Bool (may_end_tag flow t x.end)) [
      | inl e ↦ rw (h.same, e, test ∙ e) record { same = refl; ends = h.ends }
      | inr e ↦ rw (h.same, e, test ∙ e) record { same = refl; ends = tt }
    ]

pub tag_alike : (t u : List ℕ) (d m p : ℕ) (flow : Bool) → Alike t u d m → p < m
    → is_onward (byte t p) ≡ true → TagAlike d m (tag_at flow t p) (tag_at flow u (d + p))
tag_alike t u d m p flow a l on = tag_ends t u d m flow (parts_at t p) (parts_at u (d + p)) a (parts_alike t u d m p a l on)
