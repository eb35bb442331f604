-- Runs, gaps and URIs as relations, with no bound on their steps.
use Rattle.std.specs.Prelude.{◌≡◌, ◌<◌, ◌≤◌, ℕ, Bool, true, false, not, ◌||◌, List, [], ◌∷◌, Result, Ok, Err}
use Rattle.yaml_scan_model.specs.declared.problem.Context.{Context}
use Rattle.yaml_scan_model.specs.declared.problem.Problem.{Problem}
use Rattle.yaml_scan_model.specs.Wrong.{Wrong}
use Rattle.yaml_scan_history.specs.declared.between.GapSpot.TheVariants as gap_spots
use Rattle.yaml_scan_history.specs.declared.run.Run.{Run}
use Rattle.yaml_scan_history.specs.Runs.{belongs, run_end}
use Rattle.yaml_scan_history.specs.Between.{Gap, with_break, step_at, gap_at}
use Rattle.yaml_scan_history.specs.Uris.{Spells, Ends, Faulty, spot_at, with_bytes, uri_at}

-- ---- runs

-- The longest run of bytes of a kind that begins at a place ends before q: all up to q belong to it, and what is at q doesn't.
pub record EndsRun (run : Run) (text : List ℕ) (p q : ℕ) : Type 0 where
  pub after : p ≤ q
  pub each : (k : ℕ) → p ≤ k → k < q → belongs run text k ≡ true
  pub stops : belongs run text q ≡ false

-- The end of the run at a place is one, and the only one.
abbrev pub RunEnds : Type 0
RunEnds = (run : Run) (text : List ℕ) (p : ℕ) → EndsRun run text p (run_end run text p)

abbrev pub RunEndIsOne : Type 0
RunEndIsOne = (run : Run) (text : List ℕ) (p q : ℕ) → EndsRun run text p q → q ≡ run_end run text p

-- ---- gaps

-- From a place on a gap leads to the next lexeme, past blanks, comments and breaks; by whether a key is allowed there, which a break
-- changes outside of brackets.
pub data LeadsOverGap (flow : Bool) (text : List ℕ) : Bool → ℕ → Gap → Type 0 where
  arrives : (allowed : Bool) (p q : ℕ)
      → step_at (flow || not allowed) text p ≡ record { standing = gap_spots.Lexeme; place = q }
      → LeadsOverGap flow text allowed p (record { place = q; broke = false })
  passes_blank : (allowed : Bool) (p q : ℕ) (gap : Gap)
      → step_at (flow || not allowed) text p ≡ record { standing = gap_spots.Blank; place = q }
      → LeadsOverGap flow text allowed q gap → LeadsOverGap flow text allowed p gap
  passes_break : (allowed : Bool) (p q : ℕ) (gap : Gap)
      → step_at (flow || not allowed) text p ≡ record { standing = gap_spots.Break; place = q }
      → LeadsOverGap flow text (allowed || not flow) q gap
      → LeadsOverGap flow text allowed p (with_break true gap)

-- The gap at a place is one, and the only one.
abbrev pub GapLeads : Type 0
GapLeads = (flow allowed : Bool) (text : List ℕ) (p : ℕ)
    → LeadsOverGap flow text allowed p (gap_at flow allowed text p)

abbrev pub GapIsOne : Type 0
GapIsOne = (flow allowed : Bool) (text : List ℕ) (p : ℕ) (gap : Gap)
    → LeadsOverGap flow text allowed p gap → gap ≡ gap_at flow allowed text p

-- ---- URIs

-- What a URI spells from a place on, where that many escapes are due: byte by byte up to its end, or what is wrong.
pub data IsUriAt (context : Context) (wide : Bool) (text : List ℕ)
    : ℕ → ℕ → Result (List ℕ × ℕ) Wrong → Type 0 where
  spells_byte : (due p b next q : ℕ) (rest : Result (List ℕ × ℕ) Wrong)
      → spot_at wide due text p ≡ Spells b next q → IsUriAt context wide text next q rest
      → IsUriAt context wide text due p (with_bytes (b ∷ []) rest)
  ends_there : (due p q : ℕ) → spot_at wide due text p ≡ Ends q
      → IsUriAt context wide text due p (Ok ([], q))
  is_faulty : (due p q : ℕ) (problem : Problem) → spot_at wide due text p ≡ Faulty problem q
      → IsUriAt context wide text due p (Err record {
        problem = problem;
        context = context;
        place = q;
      })

-- The URI at a place is one, and the only one.
abbrev pub UriIs : Type 0
UriIs = (context : Context) (wide : Bool) (text : List ℕ) (p : ℕ)
    → IsUriAt context wide text 0 p (uri_at context wide text p)

abbrev pub UriIsOne : Type 0
UriIsOne = (context : Context) (wide : Bool) (text : List ℕ) (p : ℕ)
    (r : Result (List ℕ × ℕ) Wrong)
    → IsUriAt context wide text 0 p r → r ≡ uri_at context wide text p
