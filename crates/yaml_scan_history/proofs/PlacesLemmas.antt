-- Where lexemes and gaps end: after their start, and inside the text.
use Rattle.std.proofs.Common.{◌≡◌, ℕ, zero, suc, ◌+◌, ◌<◌, ◌≤◌, ◌==◌, ◌||◌, Bool, true, not, List, length, Result, Ok, Err, inl, inr, arith, rules}
use Rattle.yaml_scan_history.proofs.Words.{cond_both, eqb-true, ltb-true, Context, byte, is_text, past-le, past-inside, text_parts, Wrong, within, past_break, GapSpot, Run, run_end, step_at, Gap, gap_behind, gap_within, gap_at, behind_bytes, anchor_at, UriSpot, Spells, Ends, Faulty, spot_at, uri_from, uri_within, uri_at, some_uri_at, tag_end, parts_at, ended, tag_at, DirectiveName, value_end, name_behind, number_behind, line_place, then_at, name_at, number_at, minor_at, version_at, handle_at, prefix_at, tag_directive_at, named_value_at, value_at, comment_end, break_end, line_end_at}
use Rattle.yaml_scan_history.specs.declared.between.GapSpot.TheVariants as gap_spots
use Rattle.yaml_scan_history.specs.declared.directives.DirectiveName.TheVariants as names
use Rattle.yaml_scan_history.proofs.WordsRunsLemmas.{run_within-ge, run_within-le}
use Rattle.yaml_scan_history.proofs.BetweenLemmas.{step_moves}
use Rattle.yaml_scan_history.proofs.UrisLemmas.{Moved, spot_moves}

-- a place after another one or at it, and inside the text or at its end
pub record IsFrom (text : List ℕ) (p q : ℕ) : Type 0 where
  pub forward : p ≤ q
  pub inside : q ≤ length text

further : (text : List ℕ) (o p q : ℕ) → o ≤ p → IsFrom text p q → IsFrom text o q
further text o p q h f = record { forward = omega (arith, f.forward); inside = f.inside }

-- after a byte
one_on : (text : List ℕ) (o p b : ℕ) → o ≤ p → (byte text p == b) ≡ true → 0 < b
    → IsFrom text o (p + 1)
one_on text o p b l h some = search (rules, eqb-true, within)

pub run_place : (run : Run) (text : List ℕ) (p : ℕ) → p ≤ length text
    → IsFrom text p (run_end run text p)
run_place run text p h = record { forward = run_within-ge (length text) run text p; inside = run_within-le (length text) run text p h }

-- ---- gaps

behind : (more : Bool → ℕ → Gap) (flow allowed : Bool) (text : List ℕ) (p : ℕ) (standing : GapSpot)
    (q : ℕ)
    → ((key : Bool) → IsFrom text q (more key q).place) → IsFrom text p q
    → IsFrom text p (gap_behind more flow allowed standing q).place
behind more flow allowed text p gap_spots.Blank q rest f = further text p q (more allowed q).place f.forward (rest allowed)
behind more flow allowed text p gap_spots.Break q rest f = further text p q (more (allowed || not flow) q).place f.forward (rest (allowed || not flow))
behind more flow allowed text p gap_spots.Lexeme q rest f = f

gap_within-place : (n : ℕ) (flow allowed : Bool) (text : List ℕ) (p : ℕ) → p ≤ length text
    → IsFrom text p (gap_within n flow allowed text p).place
unfolding gap_within
gap_within-place zero flow allowed text p l = record { forward = omega arith; inside = l }
gap_within-place (suc n) flow allowed text p l =
    let step = step_at (flow || not allowed) text p in
    let s : IsFrom text p step.place = elim (step_moves (flow || not allowed) text p) [
      | inl e ↦ rw e record { forward = omega arith; inside = l }
      | inr (far, inside) ↦ record { forward = omega arith; inside = inside }
    ] in
    behind (λ key q. gap_within n flow key text q) flow allowed text p step.standing step.place (λ key. gap_within-place n flow key text step.place s.inside) s

-- a gap ends after its start or at it, inside the text
pub gap_place : (flow allowed : Bool) (text : List ℕ) (p : ℕ) → p ≤ length text
    → IsFrom text p (gap_at flow allowed text p).place
gap_place flow allowed text p l = gap_within-place (length text) flow allowed text p l

-- ---- what is read

-- what is read ends there or after it, inside the text
abbrev pub Lands : {Y : Type 0} → (Y → ℕ) → List ℕ → ℕ → Result Y Wrong → Type 0
Lands end text p (Ok y) = IsFrom text p (end y)
Lands end text p (Err w) = Unit {0}

lands_further : {Y : Type 0} (end : Y → ℕ) (text : List ℕ) (o p : ℕ) (r : Result Y Wrong) → o ≤ p
    → Lands end text p r → Lands end text o r
lands_further end text o p (Ok y) l h = further text o p (end y) l h
lands_further end text o p (Err w) l h = tt

-- what is read and then looked at by f, which passes on what is wrong
lands_by : {X Y : Type 0} (from : X → ℕ) (end : Y → ℕ) (text : List ℕ) (p : ℕ)
    (f : Result X Wrong → Result Y Wrong) (r : Result X Wrong)
    → ((x : X) → IsFrom text p (from x) → Lands end text p (f (Ok x)))
    → ((w : Wrong) → Lands end text p (f (Err w))) → Lands from text p r → Lands end text p (f r)
lands_by from end text p f (Ok x) h k i = h x i
lands_by from end text p f (Err w) h k i = k w

-- what is read and then read on after
lands_then : {X Y : Type 0} (end : Y → ℕ) (text : List ℕ) (p : ℕ)
    (more : X → ℕ → Result Y Wrong) (r : Result (X × ℕ) Wrong)
    → ((x : X) (q : ℕ) → q ≤ length text → Lands end text q (more x q))
    → Lands (λ x. x.1) text p r → Lands end text p (then_at more r)
lands_then end text p more (Ok x) h i = lands_further end text p x.1 (more x.0 x.1) i.forward (h x.0 x.1 i.inside)
lands_then end text p more (Err w) h i = tt

-- an anchor or alias ends after its first byte, inside the text
pub anchor_place : (context : Context) (text : List ℕ) (p : ℕ) → p < length text
    → Lands behind_bytes text (p + 1) (anchor_at context text p)
anchor_place context text p l = search (rules, cond_both, run_place)

-- ---- URIs

uri_from-place : (more : ℕ → ℕ → Result (List ℕ × ℕ) Wrong) (context : Context) (text : List ℕ)
    (p : ℕ) (s : UriSpot) → p ≤ length text
    → ((due q : ℕ) → q ≤ length text → Lands behind_bytes text q (more due q)) → Moved text p s
    → Lands behind_bytes text p (uri_from more context s)
uri_from-place more context text p (Spells b due q) l rest (far, inside) = search (rules, lands_by, lands_further)
uri_from-place more context text p (Ends q) l rest e = record { forward = omega arith; inside = omega arith }
uri_from-place more context text p (Faulty problem q) l rest f = tt

uri_within-place : (n : ℕ) (context : Context) (wide : Bool) (due : ℕ) (text : List ℕ) (p : ℕ)
    → p ≤ length text → Lands behind_bytes text p (uri_within n context wide due text p)
unfolding uri_within
uri_within-place zero context wide due text p l = record { forward = omega arith; inside = l }
uri_within-place (suc n) context wide due text p l =
    uri_from-place (λ next q. uri_within n context wide next text q) context text p (spot_at wide due text p) l
    (λ next q m. uri_within-place n context wide next text q m) (spot_moves wide due text p)

uri_place : (context : Context) (wide : Bool) (text : List ℕ) (p : ℕ) → p ≤ length text
    → Lands behind_bytes text p (uri_at context wide text p)
uri_place context wide text p l = uri_within-place (suc (length text)) context wide 0 text p l

some_uri_place : (context : Context) (wide : Bool) (text : List ℕ) (p : ℕ) → p ≤ length text
    → Lands behind_bytes text p (some_uri_at context wide text p)
some_uri_place context wide text p l = search (rules, cond_both, lands_by, uri_place)

-- ---- tags

parts_place : (text : List ℕ) (p : ℕ) → p < length text
    → Lands tag_end text (p + 1) (parts_at text p)
unfolding parts_at
parts_place text p l = search (rules, cond_both, lands_by, lands_further, one_on, run_place, some_uri_place, uri_place)

-- a tag ends after its first byte, inside the text
pub tag_place : (flow : Bool) (text : List ℕ) (p : ℕ) → p < length text
    → Lands tag_end text (p + 1) (tag_at flow text p)
tag_place flow text p l = search (rules, cond_both, ended, lands_by, parts_place)

-- ---- directives

directive_name_place : (text : List ℕ) (p : ℕ) → p < length text
    → Lands name_behind text (p + 1) (name_at text p)
directive_name_place text p l = search (rules, cond_both, run_place)

number_place : (text : List ℕ) (p : ℕ) → p ≤ length text
    → Lands number_behind text p (number_at text p)
number_place text p l = search (rules, cond_both, run_place)

minor_place : (text : List ℕ) (major q : ℕ) → Lands value_end text q (minor_at text major q)
minor_place text major q = search (rules, cond_both, lands_by, lands_further, number_place, one_on)

version_place : (text : List ℕ) (p : ℕ) → p ≤ length text
    → Lands value_end text p (version_at text p)
version_place text p l = search (rules, lands_further, lands_then, minor_place, number_place, run_place)

tag_handle_place : (text : List ℕ) (p : ℕ) → Lands behind_bytes text p (handle_at text p)
tag_handle_place text p = search (rules, cond_both, further, one_on, run_place)

prefix_place : (text : List ℕ) (p : ℕ) → p ≤ length text
    → Lands behind_bytes text p (prefix_at text p)
prefix_place text p l = search (rules, cond_both, lands_by, lands_further, run_place, some_uri_place)

tag_directive_place : (text : List ℕ) (p : ℕ) → p ≤ length text
    → Lands value_end text p (tag_directive_at text p)
tag_directive_place text p l = search (rules, lands_by, lands_further, lands_then, prefix_place, run_place, tag_handle_place)

named_place : (text : List ℕ) (name : DirectiveName) (q : ℕ) → q ≤ length text
    → Lands value_end text q (named_value_at text name q)
named_place text names.Yaml q l = version_place text q l
named_place text names.Tag q l = tag_directive_place text q l

pub value_place : (text : List ℕ) (p : ℕ) → p < length text
    → Lands value_end text (p + 1) (value_at text p)
value_place text p l = lands_then value_end text (p + 1) (named_value_at text) (name_at text p) (named_place text) (directive_name_place text p l)

comment_place : (text : List ℕ) (p : ℕ) → p ≤ length text → IsFrom text p (comment_end text p)
comment_place text p l =
    cond_both (byte text p == 35) _ _ (IsFrom text p) (λ h. record {
      forward = past-le is_text (length text) text p;
      inside = past-inside is_text (length text) text p (λ q h. (text_parts text q h).0) l;
    }) (λ h. record { forward = omega arith; inside = l })

break_place : (text : List ℕ) (p : ℕ) → p ≤ length text → Lands line_place text p (break_end text p)
break_place text p l = search (rules, cond_both, line_place, ltb-true, past_break)

-- a directive's line ends after its start, inside the text
pub line_end_place : (text : List ℕ) (p : ℕ) → p ≤ length text
    → Lands line_place text p (line_end_at text p)
line_end_place text p l = search (rules, break_place, comment_place, lands_further, line_place, run_place)
