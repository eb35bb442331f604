-- Directives.
use Rattle.std.proofs.Common.{◌≡◌, ◌≢◌, ℕ, zero, suc, ◌+◌, ◌-◌, ◌<◌, ◌≤◌, ◌==◌, ◌||◌, ◌⊎◌, nat_lt, not, Bool, true, false, List, length, slice_range, Result, Ok, Err, refl, sym, ◌∙◌, inl, inr, arith}
use Rattle.yaml_scan_text.proofs.Words.{nat_tests, cases_Bool, cases_lt, eq-eqb, ne_eqb, byte, break_width, splits_break, is_blank, is_blank_or_end, within, no_break, past, past-le, past_blanks, is_blank_there, blank_parts, text_parts, Wrong, wrong_of, line_start}
use Rattle.yaml_scan_types.specs.Classes.{is_digit_byte}
use Rattle.yaml_scan_model.specs.Runs.{is_text}
use Rattle.yaml_scan_model.proofs.RunsLemmas.{past-inside}
use Rattle.yaml_scan_model.specs.declared.problem.Problem.{Problem}
use Rattle.yaml_scan_model.specs.declared.problem.Problem.TheVariants as problems
use Rattle.yaml_scan_model.specs.declared.problem.Context.TheVariants as contexts
use Rattle.yaml_scan_history.specs.declared.run.Run.TheVariants as runs
use Rattle.yaml_scan_history.specs.declared.directives.DirectiveName.{DirectiveName}
use Rattle.yaml_scan_history.specs.declared.directives.DirectiveName.TheVariants as names
use Rattle.yaml_scan_text.specs.declared.directive.Value.{Value}
use Rattle.yaml_scan_history.specs.Runs.{belongs, run_end, run_within}
use Rattle.yaml_scan_history.specs.Directives.{DirectiveText, comment_end, decimal, directive_at, finished, named_value_at, with_line, handle_at, handle_between, prefix_at, prefix_ended, tag_directive_at, value_at, ValueText, with_prefix, line_end_at, minor_at, name_at, name_between, number_at, then_at, version_at, with_major}
use Rattle.yaml_scan_history.specs.Directives.{name_of}
use Rattle.yaml_scan_history.proofs.DirectivesLemmas.{AreDigits, number_done, number_long, number_none}
use Rattle.yaml_scan_text.specs.Classes.{AreAlphas}
use Rattle.yaml_scan_text.specs.DirectivesRead.{AreParts, EndsLine, IsSaid, ReadsDirective, ReadsHandle, ReadsValue, ReadsName, ReadsNumber, ReadsVersion}
use Rattle.yaml_scan_text.specs.QuotedRead.{ArePlain}
use Rattle.yaml_scan_text.specs.declared.directive.LineEnd.{LineEnd}
use Rattle.yaml_scan_text.specs.declared.directive.Name.{Name}
use Rattle.yaml_scan_history.specs.Uris.{some_uri_at}
use Rattle.yaml_scan_text.specs.NamesRead.{ReadsUri}
use Rattle.yaml_scan_text.specs.Refused.{IsMemory}
use Rattle.yaml_scan_text.specs.declared.refusal.Refusal.{Refusal}
use Rattle.yaml_scan_text.specs.declared.refusal.Refusal.TheVariants as refusals
use Rattle.yaml_scan_text.specs.declared.uri.Uri.{Uri}
use Rattle.yaml_scan_text.specs.declared.refusal.Wrong.{Wrong as Told}
use Rattle.yaml_scan_text.proofs.NamesLemmas.{alphas_plain, plain_join}
use Rattle.yaml_scan_text.proofs.LinesLemmas.{past_each, unbroken, unbroken_line}
use Rattle.yaml_scan_text.proofs.BlockLemmas.{seat_behind}

-- ---- numbers

pub record Digits (text : List ℕ) (p q : ℕ) : Type 0 where
  pub forward : p ≤ q
  pub few : q ≤ p + 9
  pub inside : q ≤ length text
  pub each : (k : ℕ) → p ≤ k → k < q → is_digit_byte (byte text k) ≡ true

digit_bounds : (b : ℕ) → is_digit_byte b ≡ true → (47 < b) × (b < 58)
unfolding is_digit_byte
digit_bounds b h = (grind (arith, nat_tests), grind (arith, nat_tests))

pub digits_first : (text : List ℕ) (p : ℕ) → p ≤ length text → Digits text p p
digits_first text p inside = record { forward = omega arith; few = omega arith; inside = inside; each = λ k a b. absurd (omega arith) }

pub digits_next : (text : List ℕ) (p q : ℕ) → Digits text p q → is_digit_byte (byte text q) ≡ true
    → q - p ≢ 9 → Digits text p (q + 1)
digits_next text p q s h n =
    let (low, high) = digit_bounds (byte text q) h in
    let here = within text q (omega arith) in
    let forward = s.forward in
    let few = s.few in
    record {
      forward = omega arith;
      few = elim (cases_lt q (p + 9)) [ inl l ↦ omega arith | inr l ↦ absurd (n (omega arith)) ];
      inside = omega arith;
      each = λ k a b. elim (cases_lt k q) [ inl l ↦ s.each k a l | inr l ↦ let e : k ≡ q = omega arith in rw e h ];
    }

digits_are : (text : List ℕ) (p q : ℕ) → Digits text p q → AreDigits text p q
unfolding belongs
digits_are text p q s = s.each

digit_is : (text : List ℕ) (p : ℕ) (b : Bool) → is_digit_byte (byte text p) ≡ b
    → belongs runs.Digits text p ≡ b
unfolding belongs
digit_is text p b h = h

pub number_far : (text : List ℕ) (p q : ℕ) (told : Told) → Digits text p q
    → is_digit_byte (byte text q) ≡ true → q - p ≡ 9
    → wrong_of told ≡ record { problem = problems.LongVersionNumber; context = contexts.VersionDirective; place = q } → ReadsNumber text p (Err told) (number_at text p)
number_far text p q told s h n e =
    let forward = s.forward in
    let at : q ≡ p + 9 = omega arith in
    rw (number_long text p (rw at at (digits_are text p q s)) (rw at at (digit_is text q true h))) (e ∙ rw at refl)

pub number_empty : (text : List ℕ) (p q : ℕ) (told : Told) → is_digit_byte (byte text q) ≡ false
    → q ≡ p
    → wrong_of told ≡ record { problem = problems.NoVersionNumber; context = contexts.VersionDirective; place = q } → ReadsNumber text p (Err told) (number_at text p)
number_empty text p q told h same e = rw (number_none text p (rw same at (digit_is text q false h))) (e ∙ rw same refl)

pub number_read : (text : List ℕ) (p q : ℕ) → Digits text p q → is_digit_byte (byte text q) ≡ false
    → q ≢ p → ReadsNumber text p (Ok q) (number_at text p)
number_read text p q s h other =
    let forward = s.forward in
    let few = s.few in
    let at : p + (q - p) ≡ q = omega arith in
    let done = number_done text p (q - p) (rw at (digits_are text p q s)) (rw at (digit_is text q false h)) (omega arith) (omega arith) in
    rw (done, at) (
      refl,
      refl,
      s.inside,
      s.few,
      record {
        forward = s.forward;
        each = λ k a b. let (low, high) = digit_bounds (byte text k) (s.each k a b) in (omega arith, omega arith, no_break _ _ _ (omega arith) (omega arith) (omega arith) (omega arith));
      },
    )

-- ---- names

name_by : (text : List ℕ) (p q : ℕ) (r : Result DirectiveName Problem) → AreAlphas text (p + 1) q
    → name_between text (p + 1) q ≡ name_of r q → name_at text p ≡ name_of r q
name_by text p q r run h = rw (← run.end) h

pub name_ok : (text : List ℕ) (p q : ℕ) (told : DirectiveName) → AreAlphas text (p + 1) q
    → name_between text (p + 1) q ≡ name_of (Ok told) q
    → ReadsName text p (Ok (record { told = told; end = q })) (name_at text p)
name_ok text p q told run h = rw (name_by text p q (Ok told) run h) (refl, refl, run.inside, alphas_plain text (p + 1) q run)

-- ---- blanks and lines

blanks_within : (n : ℕ) (text : List ℕ) (p : ℕ)
    → run_within n runs.Blanks text p ≡ past is_blank_there n text p
unfolding run_within past belongs
blanks_within zero text p = refl
blanks_within (suc n) text p = elim (cases_Bool (is_blank (byte text p))) [
  | inl b ↦ rw b (blanks_within n text (p + 1))
  | inr b ↦ rw b refl
]

pub blanks_are : (text : List ℕ) (p : ℕ) → run_end runs.Blanks text p ≡ past_blanks text p
blanks_are text p = blanks_within (length text) text p

blank_some : (text : List ℕ) (q : ℕ) → is_blank_there text q ≡ true → 0 < byte text q
blank_some text q h = (blank_parts (byte text q) 0 0 h).0

blank_bound : (b : ℕ) → is_blank b ≡ true → b < 128
blank_bound b h = grind (arith, nat_tests)

pub blanks_plain : (text : List ℕ) (p : ℕ) → p ≤ length text
    → ArePlain text p (past_blanks text p) × (past_blanks text p ≤ length text)
blanks_plain text p inside = (
  record {
    forward = past-le is_blank_there (length text) text p;
    each = λ k a b. blank_low text k (past_each is_blank_there (length text) text p k a b);
  },
  past-inside is_blank_there (length text) text p (blank_some text) inside,
)
  where
    blank_low : (text : List ℕ) (k : ℕ) → is_blank (byte text k) ≡ true → (0 < byte text k) × (byte text k < 128) × (break_width text k ≡ 0)
    blank_low text k h = let (some, none) = blank_parts (byte text k) (byte text (k + 1)) (byte text (k + 2)) h in (some, blank_bound (byte text k) h, none)

text_some : (text : List ℕ) (q : ℕ) → is_text text q ≡ true → 0 < byte text q
text_some text q h = (text_parts text q h).0

-- where the directive's line ends
record IsLine (text : List ℕ) (p q : ℕ) : Type 0 where
  after : p ≤ q
  inside : q ≤ length text
  none : (k : ℕ) → p ≤ k → k < q → break_width text k ≡ 0

comment_line : (text : List ℕ) (p : ℕ) → p ≤ length text
    → IsLine text p (comment_end text (past_blanks text p))
comment_line text p inside =
    let q = past_blanks text p in
    let (plain, before) = blanks_plain text p inside in
    let forward = plain.forward in
    elim (cases_Bool (byte text q == 35)) [
      | inl c ↦
          let le = past-le is_text (length text) text q in
          rw c (record {
            after = omega arith;
            inside = past-inside is_text (length text) text q (text_some text) before;
            none = λ k a b. elim (cases_lt k q) [
              | inl l ↦ (plain.each k a l).2
              | inr l ↦ (text_parts text k (past_each is_text (length text) text q k l b)).1
            ];
          })
      | inr n ↦ rw n (record { after = forward; inside = before; none = λ k a b. (plain.each k a b).2 })
    ]

pub line_same_there : (text : List ℕ) (p end line : ℕ) → p ≤ length text
    → splits_break text p ≡ false → line ≡ line_start text p
    → end ≡ comment_end text (past_blanks text p) → line ≡ line_start text end
line_same_there text p end line inside whole own e =
    let l = comment_line text p inside in
    rw e (own ∙ sym (unbroken_line text p (comment_end text (past_blanks text p)) l.after (unbroken text p (comment_end text (past_blanks text p)) l.after whole l.none)))

end_parts : (b w : ℕ) → not (b == 0 || nat_lt 0 w) ≡ false → (nat_lt 0 w ≡ true)
    ⊎ ((nat_lt 0 w ≡ false) × ((b == 0) ≡ true) × (w ≡ 0))
end_parts b w h = elim (cases_Bool (nat_lt 0 w)) [
  | inl t ↦ inl t
  | inr f ↦ inr (f, zero_of b w h f, nothing w f)
]
  where
    zero_of : (b w : ℕ) → not (b == 0 || nat_lt 0 w) ≡ false → nat_lt 0 w ≡ false → (b == 0) ≡ true
    zero_of b w h f = grind (arith, nat_tests)

    nothing : (w : ℕ) → nat_lt 0 w ≡ false → w ≡ 0
    nothing w f = grind (arith, nat_tests)

pub line_read : (text : List ℕ) (p end line : ℕ) → p ≤ length text → splits_break text p ≡ false
    → end ≡ comment_end text (past_blanks text p) → is_text text end ≡ false → line ≡ line_start text (end + break_width text end)
    → EndsLine text (Ok (record { place = end + break_width text end; line = line })) (line_end_at text p)
line_read text p end line inside whole e stop own =
    let l = comment_line text p inside in
    let there = comment_end text (past_blanks text p) in
    let (seat, first) = seat_behind text there l.inside (unbroken text p there l.after whole l.none).whole (rw e at stop) line (end + break_width text end) (rw e refl) own in
    rw (blanks_are text p, ← e) (elim (end_parts (byte text end) (break_width text end) stop) [
      | inl t ↦ rw t (record { place = refl; seat = seat; first = first })
      | inr (f, z, w) ↦ rw (f, z) (record { place = omega arith; seat = seat; first = first })
    ])

wrong_parts : (b w : ℕ) → not (b == 0 || nat_lt 0 w) ≡ true
    → (nat_lt 0 w ≡ false) × ((b == 0) ≡ false)
wrong_parts b w h = (grind (arith, nat_tests), grind (arith, nat_tests))

pub line_wrong : (text : List ℕ) (p end : ℕ) (told : Told)
    → end ≡ comment_end text (past_blanks text p) → is_text text end ≡ true
    → wrong_of told ≡ record { problem = problems.NoCommentOrBreak; context = contexts.Directive; place = end }
    → EndsLine text (Err told) (line_end_at text p)
line_wrong text p end told e t same =
    let (f, z) = wrong_parts (byte text end) (break_width text end) t in
    rw (blanks_are text p, ← e, f, z) same

-- ---- versions

one_plain : (text : List ℕ) (p : ℕ) → 31 < byte text p → byte text p < 127 → ArePlain text p (p + 1)
one_plain text p low high = record {
  forward = omega arith;
  each = λ k a b. let e : k ≡ p = omega arith in rw e (omega arith, omega arith, no_break _ _ _ (omega arith) (omega arith) (omega arith) (omega arith));
}

minor_by : (text : List ℕ) (from p q r : ℕ) (major : ℕ) (x : Result (ℕ × ℕ) Wrong)
    → ArePlain text from p → decimal text p (q - p) ≡ major → q ≤ p + 9 → ArePlain text p q
    → byte text q ≡ 46
    → ReadsNumber text (q + 1) (Ok r) x
    → ReadsVersion text from (Ok (record { is_tag = false; first = p; first_end = q; second = q + 1; second_end = r; joined = false })) (with_major major x)
minor_by text from p q r major (Err w) blanks value few digits dot is = absurd is
minor_by text from p q r major (Ok x) blanks value few digits dot (minor, end, inside, short, plain) = λ all. record {
  said = (refl, refl, refl, value, minor, few, short);
  parts = record { first = digits.forward; between = omega arith; second = plain.forward };
  end = end;
  inside = inside;
  plain = plain_join text from (q + 1) r (plain_join text from q (q + 1) (plain_join text from p q blanks digits) (one_plain text q (omega arith) (omega arith))) plain;
}

version_by : (text : List ℕ) (from p q r : ℕ) (x : Result (ℕ × ℕ) Wrong) → ArePlain text from p
    → ReadsNumber text p (Ok q) x → byte text q ≡ 46
    → ReadsNumber text (q + 1) (Ok r) (number_at text (q + 1))
    → ReadsVersion text from (Ok (record { is_tag = false; first = p; first_end = q; second = q + 1; second_end = r; joined = false })) (then_at (minor_at text) x)
version_by text from p q r (Err w) blanks is dot behind = absurd is
version_by text from p q r (Ok x) blanks (value, end, inside, few, plain) dot behind =
    rw (← end, eq-eqb (byte text q) 46 dot) (minor_by text from p q r x.0 (number_at text (q + 1)) blanks value few plain dot behind)

pub version_read : (text : List ℕ) (from p q r : ℕ) → from ≤ length text
    → p ≡ past_blanks text from → ReadsNumber text p (Ok q) (number_at text p) → byte text q ≡ 46
    → ReadsNumber text (q + 1) (Ok r) (number_at text (q + 1))
    → ReadsVersion text from (Ok (record { is_tag = false; first = p; first_end = q; second = q + 1; second_end = r; joined = false })) (version_at text from)
version_read text from p q r inside e is dot behind =
    rw (blanks_are text from, ← e) (version_by text from p q r (number_at text p) (rw e (blanks_plain text from inside).0) is dot behind)

first_by : (text : List ℕ) (from p : ℕ) (told : Told) (x : Result (ℕ × ℕ) Wrong)
    → ReadsNumber text p (Err told) x
    → ReadsVersion text from (Err told) (then_at (minor_at text) x)
first_by text from p told (Ok x) h = absurd h
first_by text from p told (Err w) h = h

pub first_wrong : (text : List ℕ) (from p : ℕ) (told : Told) → p ≡ past_blanks text from
    → ReadsNumber text p (Err told) (number_at text p)
    → ReadsVersion text from (Err told) (version_at text from)
first_wrong text from p told e h = rw (blanks_are text from, ← e) (first_by text from p told (number_at text p) h)

dot_by : (text : List ℕ) (from p q : ℕ) (told : Told) (x : Result (ℕ × ℕ) Wrong)
    → ReadsNumber text p (Ok q) x → byte text q ≢ 46
    → wrong_of told ≡ record { problem = problems.NoDigitOrDot; context = contexts.VersionDirective; place = q } → ReadsVersion text from (Err told) (then_at (minor_at text) x)
dot_by text from p q told (Err w) is other h = absurd is
dot_by text from p q told (Ok x) (value, end, inside, few, plain) other h = rw (← end, ne_eqb (byte text q) 46 other) h

pub dot_wrong : (text : List ℕ) (from p q : ℕ) (told : Told) → p ≡ past_blanks text from
    → ReadsNumber text p (Ok q) (number_at text p) → byte text q ≢ 46
    → wrong_of told ≡ record { problem = problems.NoDigitOrDot; context = contexts.VersionDirective; place = q } → ReadsVersion text from (Err told) (version_at text from)
dot_wrong text from p q told e is other h = rw (blanks_are text from, ← e) (dot_by text from p q told (number_at text p) is other h)

major_by : (text : List ℕ) (from major p : ℕ) (told : Told) (x : Result (ℕ × ℕ) Wrong)
    → ReadsNumber text p (Err told) x → ReadsVersion text from (Err told) (with_major major x)
major_by text from major p told (Ok x) h = absurd h
major_by text from major p told (Err w) h = h

second_by : (text : List ℕ) (from p q : ℕ) (told : Told) (x : Result (ℕ × ℕ) Wrong)
    → ReadsNumber text p (Ok q) x → byte text q ≡ 46
    → ReadsNumber text (q + 1) (Err told) (number_at text (q + 1)) → ReadsVersion text from (Err told) (then_at (minor_at text) x)
second_by text from p q told (Err w) is dot h = absurd is
second_by text from p q told (Ok x) (value, end, inside, few, plain) dot h =
    rw (← end, eq-eqb (byte text q) 46 dot) (major_by text from x.0 (q + 1) told (number_at text (q + 1)) h)

pub second_wrong : (text : List ℕ) (from p q : ℕ) (told : Told) → p ≡ past_blanks text from
    → ReadsNumber text p (Ok q) (number_at text p) → byte text q ≡ 46
    → ReadsNumber text (q + 1) (Err told) (number_at text (q + 1)) → ReadsVersion text from (Err told) (version_at text from)
second_wrong text from p q told e is dot h = rw (blanks_are text from, ← e) (second_by text from p q told (number_at text p) is dot h)

-- ---- handles

handle_end : (text : List ℕ) (p q : ℕ) → byte text p ≡ 33 → AreAlphas text (p + 1) q
    → handle_at text p ≡ handle_between text p q
handle_end text p q mark run = rw (eq-eqb (byte text p) 33 mark) (rw (← run.end) refl)

pub handle_named : (text : List ℕ) (p q : ℕ) → byte text p ≡ 33 → AreAlphas text (p + 1) q
    → byte text q ≡ 33 → ReadsHandle text p (Ok (q + 1)) (handle_at text p)
handle_named text p q mark run second =
    let inside = within text q (omega arith) in
    rw (handle_end text p q mark run, eq-eqb (byte text q) 33 second) (
      refl,
      refl,
      omega arith,
      plain_join text p q (q + 1) (plain_join text p (p + 1) q (one_plain text p (omega arith) (omega arith)) (alphas_plain text (p + 1) q run)) (one_plain text q (omega arith) (omega arith)),
    )

pub handle_bare : (text : List ℕ) (p q : ℕ) → byte text p ≡ 33 → AreAlphas text (p + 1) q
    → byte text q ≢ 33 → q ≡ p + 1 → ReadsHandle text p (Ok q) (handle_at text p)
handle_bare text p q mark run second same =
    rw (handle_end text p q mark run, ne_eqb (byte text q) 33 second, eq-eqb q (p + 1) same) (
      refl,
      refl,
      run.inside,
      plain_join text p (p + 1) q (one_plain text p (omega arith) (omega arith)) (alphas_plain text (p + 1) q run),
    )

-- ---- prefixes

prefix_by : (text : List ℕ) (from p q r : ℕ) (old new : List ℕ) (u : Uri) (handle : List ℕ)
    (x : Result (List ℕ × ℕ) Wrong) → p ≤ q → q ≤ r → ArePlain text from r
    → slice_range text p q ≡ handle
    → ReadsUri text r old new (Ok u) x → is_blank_or_end text u.end ≡ true
    → ReadsValue text from old new (Ok (record { is_tag = true; first = p; first_end = q; second = r; second_end = u.end; joined = u.joined })) (with_prefix handle (prefix_ended text x))
prefix_by text from p q r old new u handle (Err w) f b plain same is end = absurd is
prefix_by text from p q r old new u handle (Ok x) f b plain same is end =
    rw (rw is.end at end) (record { said = (refl, same, is.joined, is.stands); parts = record { first = f; between = b; second = is.plain.forward }; end = is.end; inside = is.inside; plain = plain_join text from r u.end plain is.plain })

prefix_is : (text : List ℕ) (q r : ℕ) → is_blank (byte text q) ≡ true → r ≡ past_blanks text q
    → prefix_at text q ≡ prefix_ended text (some_uri_at contexts.TagDirectiveUri true text r)
unfolding belongs
prefix_is text q r blank e = rw (blank, blanks_are text q, ← e) refl

handle_by : (text : List ℕ) (from p q r : ℕ) (old new : List ℕ) (u : Uri)
    (x : Result (List ℕ × ℕ) Wrong) → ArePlain text from p → ReadsHandle text p (Ok q) x
    → is_blank (byte text q) ≡ true → r ≡ past_blanks text q → ReadsUri text r old new (Ok u) (some_uri_at contexts.TagDirectiveUri true text r) → is_blank_or_end text u.end ≡ true
    → ReadsValue text from old new (Ok (record { is_tag = true; first = p; first_end = q; second = r; second_end = u.end; joined = u.joined })) (then_at (λ handle k. with_prefix handle (prefix_at text k)) x)
handle_by text from p q r old new u (Err w) blanks is blank e uri end = absurd is
handle_by text from p q r old new u (Ok x) blanks (bytes, same, inside, plain) blank e uri end =
    let gap : ArePlain text q r = rw e (blanks_plain text q inside).0 in
    rw (← same, prefix_is text q r blank e) (prefix_by text from p q r old new u x.0 (some_uri_at contexts.TagDirectiveUri true text r)
    plain.forward gap.forward (plain_join text from q r (plain_join text from p q blanks plain) gap) bytes uri end)

pub tag_read : (text : List ℕ) (from p q r : ℕ) (old new : List ℕ) (u : Uri) → from ≤ length text
    → p ≡ past_blanks text from → ReadsHandle text p (Ok q) (handle_at text p)
    → is_blank (byte text q) ≡ true → r ≡ past_blanks text q → ReadsUri text r old new (Ok u) (some_uri_at contexts.TagDirectiveUri true text r) → is_blank_or_end text u.end ≡ true
    → ReadsValue text from old new (Ok (record { is_tag = true; first = p; first_end = q; second = r; second_end = u.end; joined = u.joined })) (tag_directive_at text from)
tag_read text from p q r old new u inside f is blank e uri end =
    rw (blanks_are text from, ← f) (handle_by text from p q r old new u (handle_at text p) (rw f (blanks_plain text from inside).0) is blank e uri end)

pub handle_inside : (text : List ℕ) (p q : ℕ) (x : Result (List ℕ × ℕ) Wrong)
    → ReadsHandle text p (Ok q) x → q ≤ length text
handle_inside text p q (Ok x) (bytes, same, inside, plain) = inside
handle_inside text p q (Err w) is = absurd is

handle_wrong_by : (text : List ℕ) (from p : ℕ) (old new : List ℕ) (told : Told)
    (x : Result (List ℕ × ℕ) Wrong) → ReadsHandle text p (Err told) x
    → ReadsValue text from old new (Err (refusals.Wrong told)) (then_at (λ handle k. with_prefix handle (prefix_at text k)) x)
handle_wrong_by text from p old new told (Ok x) h = absurd h
handle_wrong_by text from p old new told (Err w) h = h

pub handle_wrong : (text : List ℕ) (from p : ℕ) (old new : List ℕ) (told : Told)
    → p ≡ past_blanks text from → ReadsHandle text p (Err told) (handle_at text p)
    → ReadsValue text from old new (Err (refusals.Wrong told)) (tag_directive_at text from)
handle_wrong text from p old new told f h = rw (blanks_are text from, ← f) (handle_wrong_by text from p old new told (handle_at text p) h)

blank_wrong_is : (text : List ℕ) (q : ℕ) → is_blank (byte text q) ≡ false
    → prefix_at text q ≡ Err (record { problem = problems.NoWhitespace; context = contexts.TagDirective; place = q })
unfolding belongs
blank_wrong_is text q blank = rw blank refl

blank_wrong_by : (text : List ℕ) (from p q : ℕ) (old new : List ℕ) (told : Told)
    (x : Result (List ℕ × ℕ) Wrong) → ReadsHandle text p (Ok q) x → is_blank (byte text q) ≡ false
    → wrong_of told ≡ record { problem = problems.NoWhitespace; context = contexts.TagDirective; place = q }
    → ReadsValue text from old new (Err (refusals.Wrong told)) (then_at (λ handle k. with_prefix handle (prefix_at text k)) x)
blank_wrong_by text from p q old new told (Err w) is blank h = absurd is
blank_wrong_by text from p q old new told (Ok x) (bytes, same, inside, plain) blank h = rw (← same, blank_wrong_is text q blank) h

pub blank_wrong : (text : List ℕ) (from p q : ℕ) (old new : List ℕ) (told : Told)
    → p ≡ past_blanks text from → ReadsHandle text p (Ok q) (handle_at text p)
    → is_blank (byte text q) ≡ false
    → wrong_of told ≡ record { problem = problems.NoWhitespace; context = contexts.TagDirective; place = q }
    → ReadsValue text from old new (Err (refusals.Wrong told)) (tag_directive_at text from)
blank_wrong text from p q old new told f is blank h = rw (blanks_are text from, ← f) (blank_wrong_by text from p q old new told (handle_at text p) is blank h)

-- what goes wrong in a prefix does in the directive
tag_on_by : (text : List ℕ) (from p q r : ℕ) (old new : List ℕ) (e : Refusal)
    (x : Result (List ℕ × ℕ) Wrong) → ReadsHandle text p (Ok q) x → is_blank (byte text q) ≡ true
    → r ≡ past_blanks text q
    → ((handle : List ℕ) → ReadsValue text from old new (Err e) (with_prefix handle (prefix_ended text (some_uri_at contexts.TagDirectiveUri true text r))))
    → ReadsValue text from old new (Err e) (then_at (λ handle k. with_prefix handle (prefix_at text k)) x)
tag_on_by text from p q r old new e (Err w) is blank f h = absurd is
tag_on_by text from p q r old new e (Ok x) (bytes, same, inside, plain) blank f h = rw (← same, prefix_is text q r blank f) (h x.0)

tag_on : (text : List ℕ) (from p q r : ℕ) (old new : List ℕ) (e : Refusal)
    → p ≡ past_blanks text from → ReadsHandle text p (Ok q) (handle_at text p)
    → is_blank (byte text q) ≡ true → r ≡ past_blanks text q
    → ((handle : List ℕ) → ReadsValue text from old new (Err e) (with_prefix handle (prefix_ended text (some_uri_at contexts.TagDirectiveUri true text r))))
    → ReadsValue text from old new (Err e) (tag_directive_at text from)
tag_on text from p q r old new e g is blank f h = rw (blanks_are text from, ← g) (tag_on_by text from p q r old new e (handle_at text p) is blank f h)

uri_wrong_by : (text : List ℕ) (from r : ℕ) (old new handle : List ℕ) (e : Refusal)
    (x : Result (List ℕ × ℕ) Wrong) → ReadsUri text r old new (Err e) x
    → ReadsValue text from old new (Err e) (with_prefix handle (prefix_ended text x))
uri_wrong_by text from r old new handle e (Err w) h = h
uri_wrong_by text from r old new handle e (Ok x) h = tag_memory text from old new e (with_prefix handle (prefix_ended text (Ok x))) h
  where
    tag_memory : (text : List ℕ) (from : ℕ) (old new : List ℕ) (e : Refusal) (x : Result ValueText Wrong) → IsMemory e → ReadsValue text from old new (Err e) x
    tag_memory text from old new e (Ok x) h = h
    tag_memory text from old new refusals.Memory (Err w) h = tt
    tag_memory text from old new (refusals.Wrong told) (Err w) h = absurd h

pub uri_wrong : (text : List ℕ) (from p q r : ℕ) (old new : List ℕ) (e : Refusal)
    → p ≡ past_blanks text from → ReadsHandle text p (Ok q) (handle_at text p)
    → is_blank (byte text q) ≡ true → r ≡ past_blanks text q
    → ReadsUri text r old new (Err e) (some_uri_at contexts.TagDirectiveUri true text r) → ReadsValue text from old new (Err e) (tag_directive_at text from)
uri_wrong text from p q r old new e g is blank f h =
    tag_on text from p q r old new e g is blank f (λ handle. uri_wrong_by text from r old new handle e (some_uri_at contexts.TagDirectiveUri true text r) h)

end_wrong_by : (text : List ℕ) (from r : ℕ) (old new handle : List ℕ) (u : Uri) (told : Told)
    (x : Result (List ℕ × ℕ) Wrong) → ReadsUri text r old new (Ok u) x
    → is_blank_or_end text u.end ≡ false
    → wrong_of told ≡ record { problem = problems.NoWhitespaceOrBreak; context = contexts.TagDirective; place = u.end }
    → ReadsValue text from old new (Err (refusals.Wrong told)) (with_prefix handle (prefix_ended text x))
end_wrong_by text from r old new handle u told (Err w) is end h = absurd is
end_wrong_by text from r old new handle u told (Ok x) is end h = rw (← is.end, end) h

pub end_wrong : (text : List ℕ) (from p q r : ℕ) (old new : List ℕ) (u : Uri) (told : Told)
    → p ≡ past_blanks text from → ReadsHandle text p (Ok q) (handle_at text p)
    → is_blank (byte text q) ≡ true → r ≡ past_blanks text q
    → ReadsUri text r old new (Ok u) (some_uri_at contexts.TagDirectiveUri true text r) → is_blank_or_end text u.end ≡ false
    → wrong_of told ≡ record { problem = problems.NoWhitespaceOrBreak; context = contexts.TagDirective; place = u.end }
    → ReadsValue text from old new (Err (refusals.Wrong told)) (tag_directive_at text from)
end_wrong text from p q r old new u told g is blank f uri end h =
    tag_on text from p q r old new (refusals.Wrong told) g is blank f (λ handle. end_wrong_by text from r old new handle u told (some_uri_at contexts.TagDirectiveUri true text r) uri end h)

-- ---- values

widen : (text : List ℕ) (p q : ℕ) (old new : List ℕ) (r : Result Value Refusal)
    (x : Result ValueText Wrong) → ArePlain text p q → ReadsValue text q old new r x
    → ReadsValue text p old new r x
widen text p q old new (Ok v) (Ok x) plain is = record { said = is.said; parts = is.parts; end = is.end; inside = is.inside; plain = plain_join text p q v.second_end plain is.plain }
widen text p q old new (Ok v) (Err w) plain is = absurd is
widen text p q old new (Err e) (Ok x) plain is = is
widen text p q old new (Err e) (Err w) plain is = is

version_value : (text : List ℕ) (q : ℕ) (all : List ℕ) (v : Value) (x : Result ValueText Wrong)
    → ReadsVersion text q (Ok v) x → ReadsValue text q all all (Ok v) x
version_value text q all v (Ok x) is = is all
version_value text q all v (Err w) is = absurd is

version_wrong : (text : List ℕ) (q : ℕ) (old new : List ℕ) (told : Told)
    (x : Result ValueText Wrong) → ReadsVersion text q (Err told) x
    → ReadsValue text q old new (Err (refusals.Wrong told)) x
version_wrong text q old new told (Ok x) is = absurd is
version_wrong text q old new told (Err w) is = is

value_by : (text : List ℕ) (p : ℕ) (old new : List ℕ) (n : Name) (name : DirectiveName)
    (r : Result Value Refusal) (x : Result (DirectiveName × ℕ) Wrong) → byte text p ≡ 37
    → ReadsName text p (Ok n) x → n.told ≡ name → ReadsValue text n.end old new r (named_value_at text name n.end)
    → ReadsValue text p old new r (then_at (named_value_at text) x)
value_by text p old new n name r (Err w) mark is e behind = absurd is
value_by text p old new n name r (Ok x) mark (told, end, inside, plain) e behind =
    let same : x.0 ≡ name = sym told ∙ e in
    rw (same, ← end) (widen text p n.end old new r (named_value_at text name n.end) (plain_join text p (p + 1) n.end (one_plain text p (omega arith) (omega arith)) plain) behind)

pub yaml_read : (text : List ℕ) (p : ℕ) (all : List ℕ) (n : Name) (v : Value) → byte text p ≡ 37
    → ReadsName text p (Ok n) (name_at text p) → n.told ≡ names.Yaml
    → ReadsVersion text n.end (Ok v) (version_at text n.end) → ReadsValue text p all all (Ok v) (value_at text p)
yaml_read text p all n v mark is e behind = value_by text p all all n names.Yaml (Ok v) (name_at text p) mark is e (version_value text n.end all v (version_at text n.end) behind)

pub yaml_wrong : (text : List ℕ) (p : ℕ) (old new : List ℕ) (n : Name) (told : Told)
    → byte text p ≡ 37 → ReadsName text p (Ok n) (name_at text p) → n.told ≡ names.Yaml
    → ReadsVersion text n.end (Err told) (version_at text n.end) → ReadsValue text p old new (Err (refusals.Wrong told)) (value_at text p)
yaml_wrong text p old new n told mark is e behind = value_by text p old new n names.Yaml (Err (refusals.Wrong told)) (name_at text p) mark is e (version_wrong text n.end old new told (version_at text n.end) behind)

pub tagged_read : (text : List ℕ) (p : ℕ) (old new : List ℕ) (n : Name) (r : Result Value Refusal)
    → byte text p ≡ 37 → ReadsName text p (Ok n) (name_at text p) → n.told ≡ names.Tag
    → ReadsValue text n.end old new r (tag_directive_at text n.end) → ReadsValue text p old new r (value_at text p)
tagged_read text p old new n r mark is e behind = value_by text p old new n names.Tag r (name_at text p) mark is e behind

name_wrong_by : (text : List ℕ) (p : ℕ) (old new : List ℕ) (told : Told)
    (x : Result (DirectiveName × ℕ) Wrong) → ReadsName text p (Err told) x
    → ReadsValue text p old new (Err (refusals.Wrong told)) (then_at (named_value_at text) x)
name_wrong_by text p old new told (Ok x) h = absurd h
name_wrong_by text p old new told (Err w) h = h

pub name_wrong : (text : List ℕ) (p : ℕ) (old new : List ℕ) (told : Told)
    → ReadsName text p (Err told) (name_at text p)
    → ReadsValue text p old new (Err (refusals.Wrong told)) (value_at text p)
name_wrong text p old new told h = name_wrong_by text p old new told (name_at text p) h

-- ---- directives

pub value_seat : (text : List ℕ) (p line : ℕ) (old new : List ℕ) (v : Value)
    (x : Result ValueText Wrong) → ReadsValue text p old new (Ok v) x → splits_break text p ≡ false
    → line ≡ line_start text p → (v.second_end ≤ length text) × (splits_break text v.second_end ≡ false) × (line ≡ line_start text v.second_end)
value_seat text p line old new v (Err w) is whole own = absurd is
value_seat text p line old new v (Ok x) is whole own =
    let gone = unbroken text p v.second_end is.plain.forward whole (λ k a b. (is.plain.each k a b).2) in
    (is.inside, gone.whole, own ∙ sym (unbroken_line text p v.second_end is.plain.forward gone))

line_by : (text old new : List ℕ) (v : Value) (h : LineEnd) (x : ValueText) (r : Result ℕ Wrong)
    → IsSaid text old new v x.said → AreParts v → v.second_end ≡ x.end → v.second_end ≤ length text
    → EndsLine text (Ok h) r
    → ReadsDirective text old new (Ok (record { value = v; place = h.place; line = h.line })) (with_line x r)
line_by text old new v h x (Err w) said parts end inside is = absurd is
line_by text old new v h x (Ok q) said parts end inside is = record { said = said; parts = parts; end = end; inside = inside; place = is.place; seat = is.seat; first = is.first }

directive_by : (text : List ℕ) (p : ℕ) (old new : List ℕ) (v : Value) (h : LineEnd)
    (x : Result ValueText Wrong) → ReadsValue text p old new (Ok v) x
    → EndsLine text (Ok h) (line_end_at text v.second_end) → ReadsDirective text old new (Ok (record { value = v; place = h.place; line = h.line })) (finished text x)
directive_by text p old new v h (Err w) is line = absurd is
directive_by text p old new v h (Ok x) is line = line_by text old new v h x (line_end_at text x.end) is.said is.parts is.end is.inside (rw is.end at line)

pub directive_read : (text : List ℕ) (p : ℕ) (old new : List ℕ) (v : Value) (h : LineEnd)
    → ReadsValue text p old new (Ok v) (value_at text p)
    → EndsLine text (Ok h) (line_end_at text v.second_end) → ReadsDirective text old new (Ok (record { value = v; place = h.place; line = h.line })) (directive_at text p)
directive_read text p old new v h is line = directive_by text p old new v h (value_at text p) is line

stop_by : (text old new : List ℕ) (told : Told) (x : ValueText) (r : Result ℕ Wrong)
    → EndsLine text (Err told) r
    → ReadsDirective text old new (Err (refusals.Wrong told)) (with_line x r)
stop_by text old new told x (Err w) is = is
stop_by text old new told x (Ok q) is = absurd is

stopped_by : (text : List ℕ) (p : ℕ) (old new : List ℕ) (v : Value) (told : Told)
    (x : Result ValueText Wrong) → ReadsValue text p old new (Ok v) x
    → EndsLine text (Err told) (line_end_at text v.second_end) → ReadsDirective text old new (Err (refusals.Wrong told)) (finished text x)
stopped_by text p old new v told (Err w) is line = absurd is
stopped_by text p old new v told (Ok x) is line = stop_by text old new told x (line_end_at text x.end) (rw is.end at line)

pub directive_stopped : (text : List ℕ) (p : ℕ) (old new : List ℕ) (v : Value) (told : Told)
    → ReadsValue text p old new (Ok v) (value_at text p)
    → EndsLine text (Err told) (line_end_at text v.second_end) → ReadsDirective text old new (Err (refusals.Wrong told)) (directive_at text p)
directive_stopped text p old new v told is line = stopped_by text p old new v told (value_at text p) is line

directive_memory : (text old new : List ℕ) (e : Refusal) (x : Result DirectiveText Wrong)
    → IsMemory e → ReadsDirective text old new (Err e) x
directive_memory text old new e (Ok x) h = h
directive_memory text old new refusals.Memory (Err w) h = tt
directive_memory text old new (refusals.Wrong told) (Err w) h = absurd h

refused_by : (text : List ℕ) (p : ℕ) (old new : List ℕ) (e : Refusal) (x : Result ValueText Wrong)
    → ReadsValue text p old new (Err e) x → ReadsDirective text old new (Err e) (finished text x)
refused_by text p old new e (Ok x) h = directive_memory text old new e (finished text (Ok x)) h
refused_by text p old new e (Err w) h = h

pub directive_refused : (text : List ℕ) (p : ℕ) (old new : List ℕ) (e : Refusal)
    → ReadsValue text p old new (Err e) (value_at text p)
    → ReadsDirective text old new (Err e) (directive_at text p)
directive_refused text p old new e h = refused_by text p old new e (value_at text p) h
