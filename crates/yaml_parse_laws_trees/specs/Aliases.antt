-- What is wrong with an alias, by the tokens before it, the latest first.
use Rattle.std.specs.Prelude.{ℕ, Bool, true, false, if◌then◌else◌, ◌||◌, List, [], ◌∷◌, Option, Some, None}
use Rattle.yaml_parse_laws_trees.specs.parse_grammar.parse_model.declared.yaml_mark_t.{yaml_mark_t}
use Rattle.yaml_parse_model.specs.scan_types.Tokens.{Token, TokenBody}
use Rattle.yaml_parse_model.specs.scan_types.Tokens as token
use Rattle.yaml_parse_model.specs.scan_types.Faults.{Fault}
use Rattle.yaml_parse_laws_trees.specs.LookBack.{starts_document}
use Rattle.yaml_parse_loader.specs.Numbering.{is_same, undefined_alias}

-- it is an anchor of that name
abbrev pub names : List ℕ → TokenBody → Bool
names name (token.anchor other) = is_same name other
names name _ = false

-- One of the tokens is an anchor of that name, and no `---` is after it.
abbrev pub has_anchor : List ℕ → List Token → Bool
has_anchor name [] = false
has_anchor name (t ∷ past) = if starts_document t.body then false
    else names name t.body || has_anchor name past

abbrev pub undefined : Bool → yaml_mark_t → Option Fault
undefined true at = None
undefined false at = Some (undefined_alias at)

-- The fault of an alias: no token before it in its document is an anchor of its name.
abbrev pub alias_fault : List Token → TokenBody → yaml_mark_t → Option Fault
alias_fault past (token.alias name) at = undefined (has_anchor name past) at
alias_fault past _ at = None
