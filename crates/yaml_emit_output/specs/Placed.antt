-- Bytes that are placed in a draft.
use Rattle.std.specs.Prelude.{ℕ, zero, suc, ◌-◌, Bool, true, false, List, [], ◌∷◌}
use Rattle.yaml_scan_types.specs.Ascii as ascii
use Rattle.yaml_emit_layout.specs.declared.settings.LineBreak.{LineBreak}
use Rattle.yaml_emit_layout.specs.declared.settings.LineBreak.TheVariants.{Lf, Cr, CrLf}

-- a break's bytes
abbrev pub break_bytes : LineBreak → List ℕ
break_bytes Lf = ascii.line_feed ∷ []
break_bytes Cr = ascii.carriage_return ∷ []
break_bytes CrLf = ascii.carriage_return ∷ ascii.line_feed ∷ []

-- the break where the line is broken
abbrev pub broken_bytes : Bool → LineBreak → List ℕ
broken_bytes true k = break_bytes k
broken_bytes false k = []

-- how many spaces are still due in a line
abbrev pub due_blanks : Bool → ℕ → ℕ → ℕ
due_blanks true n k = n
due_blanks false n k = n - k

-- a character, of which 0 is none
abbrev pub mark_bytes : ℕ → List ℕ
mark_bytes zero = []
mark_bytes (suc m) = suc m ∷ []

-- `!` and a space where a word is marked
abbrev pub sign_bytes : Bool → List ℕ
sign_bytes true = ascii.exclamation ∷ ascii.space ∷ []
sign_bytes false = []
