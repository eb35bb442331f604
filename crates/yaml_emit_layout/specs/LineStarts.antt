-- What a line begins with.
use Rattle.std.specs.Prelude.{ℕ, zero, suc, [], ◌∷◌}
use Rattle.yaml_emit_layout.specs.Layout.{Layout, stay, word}

-- the same as a word, after which a space is due
abbrev pub mark_word : ℕ → Layout
mark_word zero = stay
mark_word (suc m) = word (suc m ∷ [])
