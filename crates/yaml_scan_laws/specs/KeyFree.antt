-- Kinds of lexemes, the newest first, in which no `:` meets a candidate.
use Rattle.std.specs.Prelude.{Bool, true, false, ◌&&◌, List, [], ◌∷◌, map}
use Rattle.yaml_scan_history.specs.declared.kind.Kind.{Kind}
use Rattle.yaml_scan_history.specs.declared.kind.Kind.TheVariants as kinds
use Rattle.yaml_scan_history.specs.declared.lexeme.Lexeme.{Lexeme}

-- the innermost bracket's mark
abbrev pub innermost : List Bool → Bool
innermost [] = false
innermost (q ∷ qs) = q

abbrev pub around : List Bool → List Bool
around [] = []
around (q ∷ qs) = qs

-- another mark for the innermost bracket, where one is open
abbrev pub marked_so : Bool → List Bool → List Bool
marked_so mark [] = []
marked_so mark (q ∷ qs) = mark ∷ qs

-- some bracket is open
abbrev pub is_inside : List Bool → Bool
is_inside [] = false
is_inside (q ∷ qs) = true

-- Brackets open and close, a `?` sets its bracket's mark, nodes leave it, and all else takes it away.
abbrev pub asked_after : Kind → List Bool → List Bool
asked_after kinds.FlowSequenceStart qs = false ∷ qs
asked_after kinds.FlowMappingStart qs = false ∷ qs
asked_after kinds.FlowSequenceEnd qs = around qs
asked_after kinds.FlowMappingEnd qs = around qs
asked_after kinds.KeyMark qs = marked_so true qs
asked_after kinds.Alias qs = qs
asked_after kinds.Anchor qs = qs
asked_after kinds.Tag qs = qs
asked_after kinds.SingleQuoted qs = qs
asked_after kinds.DoubleQuoted qs = qs
asked_after _ qs = marked_so false qs

-- for each open bracket, innermost first: whether a `?` is in it, and only nodes after that
unfoldable pub asked : List Kind → List Bool
asked [] = []
asked (k ∷ ks) = asked_after k (asked ks)

-- `?` is in brackets, and `:` after a `?`; block marks, block scalars and plain ones have no place.
abbrev pub fits : Kind → List Bool → Bool
fits kinds.KeyMark qs = is_inside qs
fits kinds.ValueMark qs = innermost qs
fits kinds.BlockEntry qs = false
fits kinds.Literal qs = false
fits kinds.Folded qs = false
fits kinds.Plain qs = false
fits _ qs = true

unfoldable pub is_key_free : List Kind → Bool
is_key_free [] = true
is_key_free (k ∷ ks) = fits k (asked ks) && is_key_free ks

-- `-`, `?` and `:` are in brackets alone, where they open no level
abbrev pub keeps_level : Kind → List Bool → Bool
keeps_level kinds.BlockEntry qs = is_inside qs
keeps_level kinds.KeyMark qs = is_inside qs
keeps_level kinds.ValueMark qs = is_inside qs
keeps_level _ qs = true

-- no level opens
unfoldable pub is_level_free : List Kind → Bool
is_level_free [] = true
is_level_free (k ∷ ks) = keeps_level k (asked ks) && is_level_free ks

-- the kinds of lexemes
abbrev pub kinds_of : List Lexeme → List Kind
kinds_of h = map (λ (l : Lexeme). l.kind) h
