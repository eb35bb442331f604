-- What is between lexemes.
use Rattle.std.specs.Prelude.{ℕ, zero, suc, ◌+◌, Bool, true, false, not, ◌&&◌, ◌||◌, ◌==◌, nat_lt, if◌then◌else◌, List, length}
use Rattle.yaml_scan_model.specs.scan_types.Ascii as ascii
use Rattle.yaml_scan_history.specs.declared.between.GapSpot.{GapSpot}
use Rattle.yaml_scan_history.specs.declared.between.GapSpot.TheVariants as gap_spots
use Rattle.yaml_scan_model.specs.scan_types.Marks.{byte, break_width}
use Rattle.yaml_scan_model.specs.Runs.{line_end}
use Rattle.yaml_scan_model.specs.scan_types.Classes.{is_bom}

-- what is at a place between lexemes, and the place after it
pub record GapStep : Type 0 where
  pub standing : GapSpot
  pub place : ℕ

-- a space, or a tab where tabs are skipped
abbrev pub is_skipped : Bool → List ℕ → ℕ → Bool
is_skipped tabs text p = byte text p == ascii.space || (tabs && byte text p == ascii.tab)

-- U+FEFF at index 0, a blank, a comment, a break, or else a lexeme
unfoldable pub step_at : Bool → List ℕ → ℕ → GapStep
step_at tabs text p =
    if p == 0 && is_bom text p then record { standing = gap_spots.Blank; place = p + 3 }
    else if is_skipped tabs text p then record { standing = gap_spots.Blank; place = p + 1 }
    else if byte text p == ascii.hash then record {
      standing = gap_spots.Blank;
      place = line_end text p;
    }
    else if nat_lt 0 (break_width text p)
    then record { standing = gap_spots.Break; place = p + break_width text p }
    else record { standing = gap_spots.Lexeme; place = p }

-- what is between two lexemes: the place of the second one, and whether a break is before it
pub record Gap : Type 0 where
  pub place : ℕ
  pub broke : Bool

abbrev pub with_break : Bool → Gap → Gap
with_break broke gap = record { place = gap.place; broke = broke || gap.broke }

-- a gap, where `more` is its rest after a step, by whether a key is allowed there
abbrev pub gap_behind : (Bool → ℕ → Gap) → Bool → Bool → GapSpot → ℕ → Gap
gap_behind more flow allowed gap_spots.Blank q = more allowed q
gap_behind more flow allowed gap_spots.Break q = with_break true (more (allowed || not flow) q)
gap_behind more flow allowed gap_spots.Lexeme q = record { place = q; broke = false }

-- the gap there, of at most n steps; tabs are skipped in flow context or where no key is allowed
unfoldable pub gap_within : ℕ → Bool → Bool → List ℕ → ℕ → Gap
gap_within zero flow allowed text p = record { place = p; broke = false }
gap_within (suc n) flow allowed text p =
    gap_behind (λ key q. gap_within n flow key text q) flow allowed
    (step_at (flow || not allowed) text p).standing (step_at (flow || not allowed) text p).place

-- the gap there, in flow context or not, where a key is allowed or not
abbrev pub gap_at : Bool → Bool → List ℕ → ℕ → Gap
gap_at flow allowed text p = gap_within (length text) flow allowed text p
