-- The width of lines.
use Rattle.std.specs.Prelude.{ℕ}

-- the column after which a line may be broken, where nobody set another
abbrev pub default_width : ℕ
default_width = 80
