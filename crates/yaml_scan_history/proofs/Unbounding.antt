-- The bound on steps is never met.
use Rattle.std.proofs.Common.{◌≡◌, ℕ, zero, suc, ◌+◌, ◌≤◌, Bool, true, not, ◌||◌, List, [], ◌∷◌, length, Result, refl, sym, ap, ◌∙◌, arith, rules}
use Rattle.yaml_scan_history.proofs.Words.{Context, Wrong, GapSpot, GapStep, Gap, gap_at, gap_behind, with_break, step_at, UriSpot, Spells, Ends, Faulty, spot_at, uri_from, with_bytes}
use Rattle.yaml_scan_history.specs.declared.between.GapSpot.TheVariants as gap_spots
use Rattle.yaml_scan_history.proofs.BetweenLemmas.{moves_on, gap_here}
use Rattle.yaml_scan_history.proofs.UrisLemmas.{spot_moves, uri_due, uri_here}
use Rattle.yaml_scan_history.proofs.WordsRunsLemmas.{run_within-ge, run_each, run_stops, run_is}
use Rattle.yaml_scan_history.specs.Unbounded.{RunEnds, RunEndIsOne, LeadsOverGap, arrives, passes_blank, passes_break, GapLeads, GapIsOne, IsUriAt, spells_byte, ends_there, is_faulty, UriIs, UriIsOne}

-- ---- runs

pub run_ends : RunEnds
run_ends run text p = search (rules, run_each, run_stops, run_within-ge)

pub run_end_is_one : RunEndIsOne
run_end_is_one run text p q h = sym (run_is run text p q h.after h.each h.stops)

-- ---- gaps

led_by : (d : ℕ) (flow allowed : Bool) (text : List ℕ) (p : ℕ) (s : GapSpot) (q : ℕ)
    → ◌≡◌ {A = GapStep} (step_at (flow || not allowed) text p) (record { standing = s; place = q })
    → length text ≤ p + d
    → LeadsOverGap flow text allowed p
    (gap_behind (λ key q. gap_at flow key text q) flow allowed s q)
led_by d flow allowed text p gap_spots.Lexeme q e room = arrives allowed p q e
led_by zero flow allowed text p gap_spots.Blank q e room = let (far, inside) = moves_on _ text p _ q e (λ b. cc) in absurd (omega arith)
led_by (suc d) flow allowed text p gap_spots.Blank q e room =
    let (far, inside) = moves_on _ text p _ q e (λ b. cc) in
    passes_blank allowed p q (gap_at flow allowed text q) e (rw (gap_here flow allowed text q) (led_by d flow allowed text q _ _ refl (omega arith)))
led_by zero flow allowed text p gap_spots.Break q e room = let (far, inside) = moves_on _ text p _ q e (λ b. cc) in absurd (omega arith)
led_by (suc d) flow allowed text p gap_spots.Break q e room =
    let (far, inside) = moves_on _ text p _ q e (λ b. cc) in
    passes_break allowed p q (gap_at flow (allowed || not flow) text q) e (rw (gap_here flow (allowed || not flow) text q) (led_by d flow (allowed || not flow) text q _ _ refl (omega arith)))

one_gap : (flow : Bool) (text : List ℕ) (allowed : Bool) (p : ℕ) (gap : Gap)
    → LeadsOverGap flow text allowed p gap → gap_at flow allowed text p ≡ gap
one_gap flow text allowed p gap (arrives a r q e) = rw e at (gap_here flow a text r)
one_gap flow text allowed p gap (passes_blank a r q g e h) = rw e at (gap_here flow a text r) ∙ one_gap flow text a q g h
one_gap flow text allowed p gap (passes_break a r q g e h) = rw e at (gap_here flow a text r) ∙ ap (λ (x : Gap). with_break true x) (one_gap flow text (a || not flow) q g h)

pub gap_leads : GapLeads
gap_leads flow allowed text p = rw (gap_here flow allowed text p) (led_by (length text) flow allowed text p _ _ refl (omega arith))

pub gap_is_one : GapIsOne
gap_is_one flow allowed text p gap h = sym (one_gap flow text allowed p gap h)

-- ---- URIs

uri_by : (d : ℕ) (context : Context) (wide : Bool) (text : List ℕ) (due p : ℕ) (s : UriSpot)
    → spot_at wide due text p ≡ s → length text ≤ p + d
    → IsUriAt context wide text due p
    (uri_from (λ next q. uri_due context wide next text q) context s)
uri_by d context wide text due p (Ends q) e room = ends_there due p q e
uri_by d context wide text due p (Faulty problem q) e room = is_faulty due p q problem e
uri_by zero context wide text due p (Spells b next q) e room = let (far, inside) = rw e at (spot_moves wide due text p) in absurd (omega arith)
uri_by (suc d) context wide text due p (Spells b next q) e room =
    let (far, inside) = rw e at (spot_moves wide due text p) in
    spells_byte due p b next q (uri_due context wide next text q) e (rw (uri_here context wide next text q) (uri_by d context wide text next q _ refl (omega arith)))

one_uri : (context : Context) (wide : Bool) (text : List ℕ) (due p : ℕ)
    (r : Result (List ℕ × ℕ) Wrong) → IsUriAt context wide text due p r
    → uri_due context wide due text p ≡ r
one_uri context wide text due p r (spells_byte u x b next q rest e h) = rw e at (uri_here context wide u text x) ∙ ap (λ (z : Result (List ℕ × ℕ) Wrong). with_bytes (b ∷ []) z) (one_uri context wide text next q rest h)
one_uri context wide text due p r (ends_there u x q e) = rw e at (uri_here context wide u text x)
one_uri context wide text due p r (is_faulty u x q problem e) = rw e at (uri_here context wide u text x)

pub uri_is : UriIs
uri_is context wide text p = rw (uri_here context wide 0 text p) (uri_by (length text) context wide text 0 p _ refl (omega arith))

pub uri_is_one : UriIsOne
uri_is_one context wide text p r h = sym (one_uri context wide text 0 p r h)
