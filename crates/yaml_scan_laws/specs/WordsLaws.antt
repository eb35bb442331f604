-- Directives and `!` alone are read back, wherever a text has them.
use Rattle.std.specs.Prelude.{◌≡◌, ◌⊎◌, ◌<◌, ◌+◌, ℕ, Bool, true, List, [], ◌∷◌, ◌++◌, length, codes, Ok}
use Rattle.yaml_scan_history.specs.scan_types.Ascii as ascii
use Rattle.yaml_scan_history.specs.scan_types.Marks.{byte, break_width}
use Rattle.yaml_scan_history.specs.scan_types.Classes.{is_break}
use Rattle.yaml_scan_history.specs.Tags.{tag_at}
use Rattle.yaml_scan_history.specs.Directives.{DirectiveText, version, tag, directive_at}
use Rattle.yaml_scan_history.specs.Written.{HasAt, are_alphas, UriPiece, uri_text, uri_bytes, IsUri}

-- `%YAML 1.` and a digit, before a break: the directive takes the break with it
abbrev pub VersionReads : Type 0
VersionReads = (text : List ℕ) (p minor : ℕ) → minor < 10
    → HasAt text p (codes "%YAML 1." ++ ((ascii.digit_zero + minor) ∷ [])) → is_break text (p + 9) ≡ true
    → directive_at text p
    ≡ Ok record { said = version 1 minor; end = p + 9; place = p + 9 + break_width text (p + 9) }

-- `!`, or `!alphas!`, where the alphas may be none
abbrev pub IsHandle : List ℕ → Type 0
IsHandle handle =
    (handle ≡ ascii.exclamation ∷ [])
    ⊎ ((name : List ℕ) × (handle ≡ ascii.exclamation ∷ (name ++ (ascii.exclamation ∷ [])))
    × (are_alphas name ≡ true))

-- the text of a directive, without its line's end
abbrev pub directive_text : List ℕ → List UriPiece → List ℕ
directive_text handle pieces = codes "%TAG " ++ (handle ++ (ascii.space ∷ uri_text pieces))

-- a tag's directive whose value ends there, before a break, which it takes with it
abbrev pub tag_line : List ℕ → ℕ → List ℕ → List ℕ → DirectiveText
tag_line text end handle prefix =
    record { said = tag handle prefix; end = end; place = end + break_width text end }

-- `%TAG`, a handle and a URI, with a space between and a break after
abbrev pub TagDirectiveReads : Type 0
TagDirectiveReads = (text : List ℕ) (p : ℕ) (handle : List ℕ) (pieces : List UriPiece)
    → HasAt text p (directive_text handle pieces) → IsHandle handle → 0 < length pieces
    → IsUri true 0 pieces → let end = p + length (directive_text handle pieces) in
    is_break text end ≡ true
    → directive_at text p ≡ Ok (tag_line text end handle (uri_bytes pieces))

-- `!` before a space
abbrev pub LoneMarkReads : Type 0
LoneMarkReads = (flow : Bool) (text : List ℕ) (p : ℕ) → byte text p ≡ ascii.exclamation
    → byte text (p + 1) ≡ ascii.space
    → tag_at flow text p ≡ Ok record { handle = []; suffix = ascii.exclamation ∷ []; end = p + 1 }
