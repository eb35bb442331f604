-- How a scanner spells names, handles and tags.
use Rattle.std.specs.Prelude.{ℕ, true, false, ◌==◌, ◌≡◌, ◌⊎◌, List, [], ◌∷◌, ◌++◌, length}
use Rattle.std.specs.List.{list_all}
use Rattle.yaml_scan_history.specs.scan_types.Ascii as ascii
use Rattle.yaml_scan_history.specs.scan_types.Classes.{is_alpha_byte}
use Rattle.yaml_scan_history.specs.scan_types.Tokens as token
use Rattle.yaml_scan_history.specs.scan_types.Tokens.{Token, TokenBody}

-- one byte at least
abbrev pub IsSome : List ℕ → Type 0
IsSome bytes = (length bytes == 0) ≡ false

-- 0-9 A-Z a-z _ - alone
abbrev pub AreAlphas : List ℕ → Type 0
AreAlphas bytes = list_all is_alpha_byte bytes ≡ true

-- a name is one alpha or more
abbrev pub IsName : List ℕ → Type 0
IsName name = IsSome name × AreAlphas name

-- `!`, or `!alphas!`, where the alphas may be none
abbrev pub IsHandle : List ℕ → Type 0
IsHandle handle = (handle ≡ ascii.exclamation ∷ [])
    ⊎ ((name : List ℕ) × (handle ≡ ascii.exclamation ∷ (name ++ (ascii.exclamation ∷ [])))
    × AreAlphas name)

-- Anchors and aliases have names; a tag directive has a handle and some prefix, and a tag some suffix, after a handle or none.
abbrev pub IsSpelled : TokenBody → Type 0
IsSpelled (token.anchor name) = IsName name
IsSpelled (token.alias name) = IsName name
IsSpelled (token.tag_directive handle prefix) = IsHandle handle × IsSome prefix
IsSpelled (token.tag handle suffix) = ((handle ≡ []) ⊎ IsHandle handle) × IsSome suffix
IsSpelled _ = Unit {0}

-- all tokens of a list are spelled so
abbrev pub AreSpelled : List Token → Type 0
AreSpelled [] = Unit {0}
AreSpelled (t ∷ ts) = IsSpelled t.body × AreSpelled ts
