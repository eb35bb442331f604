-- How far the lines of a collection are indented.
use Rattle.std.specs.Prelude.{ℕ}

-- what may be set
abbrev pub least_indent : ℕ
least_indent = 2

abbrev pub most_indent : ℕ
most_indent = 9

-- where nobody set another
abbrev pub default_indent : ℕ
default_indent = 2
