-- The texts of the token that is next are UTF-8.
use Rattle.std.specs.Prelude.{false}
use Rattle.yaml_scan_model.specs.Coming.{front_of, HasUtf8}
use Rattle.yaml_scan_model.specs.declared.tokens.Tokens.{Ghosts}

-- where it was given
abbrev pub IsUtf8Next : {T P : Type 0} → Ghosts T P → T → Type 0
IsUtf8Next g t = g.tells t false → HasUtf8 (front_of (g.to_come t)).body
