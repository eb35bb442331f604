-- Which characters say nothing against a style, by the first byte of each.
use Rattle.std.proofs.Common.{◌≡◌, ℕ, ◌+◌, ◌-◌, ◌<◌, ◌≤◌, ◌⊎◌, List, [], ◌∷◌, ◌++◌, length, take, get_or, Bool, true, false, IsUtf8, refl, sym, subst, ◌∙◌, ap, arith, inl, inr, length-append, length-take-le}
use Rattle.std.specs.Prelude.{nat_lt, nat_le, ◌==◌, ◌||◌, ◌&&◌}
use Rattle.std.specs.List.{list_all}
use Rattle.std.specs.Str.{chars, IsCharBoundary}
use Rattle.std.proofs.lemmas.Bool.{and_parts, and_from, or_parts, not-true, false≢true, eqb-true, cases_lt}
use Rattle.std.proofs.lemmas.Bool.Decides.{nat_tests}
use Rattle.std.proofs.lemmas.List.{get_or-take, get_or-append-add}
use Rattle.std.proofs.lemmas.Str.{encodes-chars, scalars-chars, IsUtf8-take, IsCharBoundary-before_ascii, chars-nil}
use lib.Utf8.{encode as encoded, encodes, scalar}
use Rattle.yaml_scan_runs.specs.Runs.{is_stop, RunsTo}
use Rattle.yaml_emit_layout.specs.Text.{is_break}
use Rattle.yaml_emit_layout.specs.Quoted.{is_printable}
use Rattle.yaml_emit_layout.specs.Runs.{all_pass}
use Rattle.yaml_emit_layout.specs.Style.{is_special, is_break_space, is_not_plain, is_not_flow, last_or}
use Rattle.yaml_emit_layout.proofs.Bools.{bool_cases}
use Rattle.yaml_emit_scalars.specs.Classes.{class_of, is_of}
use Rattle.yaml_emit_scalars.specs.Calm.{tells, is_quiet, IsCalm}
use Rattle.yaml_emit_scalars.proofs.ClassLemmas.{by_class}
use Rattle.yaml_emit_scalars.proofs.Leads.{lead, some_bytes, differs, unbroken, printed, ascii_lead, all_by_leads}
use Rattle.yaml_emit_scalars.proofs.RunLemmas.{ascii_cut}
use Rattle.yaml_emit_scalars.proofs.Styles.{IsSilent}

-- an indicator that rules something out
abbrev is_sign : ℕ → Bool
is_sign c = c == 58 || c == 35 || (c == 44 || c == 63 || (c == 91 || c == 93 || (c == 123 || c == 125)))

abbrev tells_on : ℕ → Bool
tells_on b = tells true b

fewer_tell : (b : ℕ) → tells_on b ≡ false
    → (is_stop [] b ≡ false) × (is_stop (127 ∷ 0xEF ∷ []) b ≡ false)
fewer_tell b n = (grind (arith, nat_tests, n), grind (arith, nat_tests, n))

quiet_from : (unicode : Bool) (c : ℕ) → is_printable c ≡ true → (unicode || nat_lt c 128) ≡ true
    → is_break c ≡ false → is_sign c ≡ false → is_quiet unicode c ≡ true
unfolding is_quiet
quiet_from unicode c p u b s = rw (p, u, b, s) refl

quiet_on : (c : ℕ) → scalar c ≡ true → tells_on (lead c) ≡ false → (unicode : Bool)
    → (unicode || nat_lt c 128) ≡ true → is_quiet unicode c ≡ true
unfolding lead
quiet_on c s n unicode u =
    let (always, listed) = fewer_tell (lead c) n in
    let p : ℕ → Bool = λ k. tells_on (lead k) in
    let none : is_sign c ≡ false = rw (differs p c 58 n refl, differs p c 35 n refl, differs p c 44 n refl, differs p c 63 n refl, differs p c 91 n refl, differs p c 93 n refl, differs p c 123 n refl, differs p c 125 n refl) refl in
    quiet_from unicode c (printed c s listed) u (unbroken c always) none

abbrev tells_off : ℕ → Bool
tells_off b = tells_on b || nat_le 128 b

by_class_off : (b : ℕ) → is_of 0x0D6 b ≡ false → tells_off b ≡ false
unfolding class_of
by_class_off b n = by_class 0x0D6 tells_off refl refl b n

low_byte : (b : ℕ) → nat_le 128 b ≡ false → b < 128
low_byte b h = grind (arith, nat_tests, h)

low_test : (c : ℕ) → c < 128 → nat_lt c 128 ≡ true
low_test c h = grind (arith, nat_tests, h)

pub quiet_by_lead : (unicode : Bool) (c : ℕ) → scalar c ≡ true → tells unicode (lead c) ≡ false
    → is_quiet unicode c ≡ true
quiet_by_lead true c s n = quiet_on c s n true refl
quiet_by_lead false c s n =
    let (on, high) = or_parts (tells_on (lead c)) (nat_le 128 (lead c)) (by_class_off (lead c) n) in
    quiet_on c s on false (low_test c (ascii_lead c (low_byte (lead c) high)))

all_listed : (test : ℕ → Bool) (k : ℕ) (cs : List ℕ) → all_pass (λ k c. test c) k cs ≡ true
    → list_all test cs ≡ true
unfolding all_pass
all_listed test k [] h = refl
all_listed test k (c ∷ cs) h = let (t, u) = and_parts (test c) _ h in and_from (test c) _ t (all_listed test (k + 1) cs u)

-- what says nothing

quiet_special : (unicode : Bool) (before c next : ℕ) → is_printable c ≡ true
    → (unicode || nat_lt c 128) ≡ true → (c == 32 && is_break next) ≡ false
    → is_special unicode before c next ≡ false
quiet_special true before c next p u n = rw (p, n) refl
quiet_special false before c next p u n = let low : nat_le 128 c ≡ false = grind (arith, nat_tests, u) in rw (p, low, n) refl

signs_none : (before c next : ℕ) → is_break c ≡ false → is_sign c ≡ false
    → ((is_break_space before c next ≡ false) × (is_not_plain before c next ≡ false)) ×
    (is_not_flow before c next ≡ false)
signs_none before c next b s =
    let hash : ((c == 58) ≡ false) × ((c == 35) ≡ false) = or_parts (c == 58) (c == 35) (or_parts (c == 58 || c == 35) _ s).0 in
    ((rw b refl, rw (b, hash.0, hash.1) refl), grind (arith, nat_tests, s))

pub quiet_silent : (unicode : Bool) (c : ℕ) → is_quiet unicode c ≡ true → IsSilent unicode c
unfolding is_quiet
quiet_silent unicode c h =
    let (p, rest) = and_parts (is_printable c) _ h in
    let (u, none) = and_parts (unicode || nat_lt c 128) _ rest in
    let (b, s) = or_parts (is_break c) (is_sign c) (not-true (is_break c || is_sign c) none) in
    record {
      nothing = λ before next n. let ((x, y), z) = signs_none before c next b s in rw (quiet_special unicode before c next p u n, x, y, z) refl;
      whole = b;
    }

-- a text that ends in a space has that as its last byte
last_space : (cs : List ℕ) → last_or 0 cs ≡ 32
    → get_or (encodes cs) (length (encodes cs) - 1) 0 ≡ 32
unfolding last_or encoded
last_space [] e = absurd (omega (arith, e))
last_space (c ∷ []) e = rw e refl
last_space (c ∷ d ∷ ds) e =
    let rest = encodes (d ∷ ds) in
    let size = length-append (encoded c) rest in
    let some = length-append (encoded d) (encodes ds) in
    let more = some_bytes d in
    let at : length (encoded c ++ rest) - 1 ≡ length (encoded c) + (length rest - 1) = omega (arith, size, some, more) in
    ap (λ i. get_or (encoded c ++ rest) i 0) at ∙ get_or-append-add (encoded c) rest (length rest - 1) 0 ∙ last_space (d ∷ ds) e

pub no_last_space : (bs : List ℕ) (count : ℕ) → IsUtf8 (take count bs) → count ≤ length bs
    → 0 < count → (get_or bs (count - 1) 0 == 32) ≡ false
    → (last_or 0 (chars (take count bs)) == 32) ≡ false
no_last_space bs count u l some n =
    let run = take count bs in
    bool_cases (last_or 0 (chars run) == 32)
    (λ t.
    let P : List ℕ → Type 0 = λ xs. get_or xs (length xs - 1) 0 ≡ 32 in
    let last = subst P (encodes-chars run u) (last_space (chars run) (eqb-true _ 32 t)) in
    let size = length-take-le count bs l in
    let at = ap (λ k. get_or run (k - 1) 0) size in
    absurd (false≢true (sym n ∙ ap (λ b. b == 32) (sym (get_or-take count bs (count - 1) 0 (omega (arith, some))) ∙ sym at ∙ last))))
    (λ f. f)

-- the first bytes, which rule nothing out
pub run_quiet : (unicode : Bool) (bs : List ℕ) (count end : ℕ) → IsUtf8 (take count bs)
    → count ≤ end → RunsTo (tells unicode) bs 0 (length bs) end
    → list_all (is_quiet unicode) (chars (take count bs)) ≡ true
run_quiet unicode bs count end u l run =
    let inside = run.within in
    let size = length-take-le count bs (omega (arith, l, inside)) in
    let text = encodes-chars (take count bs) u in
    all_listed (is_quiet unicode) 0 (chars (take count bs))
    (all_by_leads (λ k c. is_quiet unicode c) (λ k b. tells unicode b ≡ false) (λ k c s n. quiet_by_lead unicode c s n) (λ k m b _ h. h)
    (chars (take count bs)) 0 (scalars-chars (take count bs) u)
    (λ i v.
    let few = ap length text in
    let below : i < count = omega (arith, v, few, size) in
    ap (λ xs. tells unicode (get_or xs i 0)) text ∙ ap (tells unicode) (get_or-take count bs i 0 below) ∙ run.passed i (omega arith) (omega (arith, below, l))))

-- a byte of a character but its first rules nothing out with unicode on
tell_leads : (b : ℕ) → tells_on b ≡ true → 128 ≤ b → 192 ≤ b
tell_leads b h l = grind (arith, nat_tests, h, l)

calm_whole : (unicode : Bool) (bs : List ℕ) (end : ℕ) → IsUtf8 bs
    → RunsTo (tells unicode) bs 0 (length bs) end → IsCharBoundary bs end
calm_whole true bs end u run = (run.within, λ inside high. tell_leads (get_or bs end 0) (run.stopped inside) high)
calm_whole false bs end u run = ascii_cut bs end u run.within (λ i v. low_byte (get_or bs i 0) (or_parts (tells_on (get_or bs i 0)) (nat_le 128 (get_or bs i 0)) (by_class_off (get_or bs i 0) (run.passed i (omega arith) v))).1)

last_of_none : (count : ℕ) (bs : List ℕ) → count ≡ 0
    → (last_or 0 (chars (take count bs)) == 32) ≡ false
unfolding last_or
last_of_none count bs e = rw (e, chars-nil) refl

-- up to what rules something out, where no space is before that
pub calm_all : (unicode : Bool) (bs : List ℕ) (end : ℕ) → IsUtf8 bs
    → RunsTo (tells unicode) bs 0 (length bs) end
    → (length bs ≤ end) ⊎ ((end ≡ 0) ⊎ ((get_or bs (end - 1) 0 == 32) ≡ false)) → IsCalm unicode bs end
calm_all unicode bs end u run why =
    let whole = calm_whole unicode bs end u run in
    let front = IsUtf8-take bs end u whole in
    record {
      whole = whole;
      quiet = run_quiet unicode bs end end front (omega arith) run;
      next = elim why [
        | inl all ↦ inr (inl all)
        | inr (inl none) ↦ inr (inr (last_of_none end bs none))
        | inr (inr other) ↦ inr (inr (elim (cases_lt 0 end) [
          | inl some ↦ no_last_space bs end front run.within some other
          | inr none ↦ last_of_none end bs (omega (arith, none))
        ]))
      ];
    }

-- up to the space before that
pub calm_less : (unicode : Bool) (bs : List ℕ) (end : ℕ) → IsUtf8 bs
    → RunsTo (tells unicode) bs 0 (length bs) end
    → 0 < end → get_or bs (end - 1) 0 ≡ 32 → IsCalm unicode bs (end - 1)
calm_less unicode bs end u run some space =
    let inside = run.within in
    let whole = IsCharBoundary-before_ascii bs (end - 1) (omega (arith, some, inside)) (omega (arith, space)) in
    record {
      whole = whole;
      quiet = run_quiet unicode bs (end - 1) end (IsUtf8-take bs (end - 1) u whole) (omega arith) run;
      next = inl (omega (arith, some, inside), space);
    }
