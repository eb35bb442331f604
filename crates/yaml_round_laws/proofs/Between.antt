-- A document's start forgets whether breaks were kept.
use Rattle.std.proofs.Common.{◌≡◌, ℕ, Bool, true, false, ◌&&◌, List, [], ◌∷◌, refl, Option, Some, None}
use Rattle.yaml_round_laws.proofs.Words.{Cursor, Settings, LineBreak, Lf, Cr, CrLf, Rest, Layout, ◌▹◌, when, word, letters, blanks, line, keep, nothing_more, Problem, Opening, Event, document_start, is_directed, dots, version_text, directives_text, is_marked, dashes, start_layout, State, placed, piece, next, problem_at, opens_empty, text_at, depth_at, is_ready, let_out, unless, laid, DocumentsStandByEnds}
use Rattle.yaml_emit_layout.specs.declared.Expected.TheVariants as at

abbrev cursor : ℕ → Bool → Bool → Bool → Cursor
cursor column white bare kept = record { column = column; white = white; bare = bare; kept = kept }

-- a line of three dots, after which breaks are kept or not, as before
dots_same : (b : LineBreak) (column : ℕ) (white bare k l : Bool) (rest : Rest)
    → ((word (46 ∷ 46 ∷ 46 ∷ []) ▹ line b 0) ▹ keep false) (cursor column white bare k) rest
    ≡ ((word (46 ∷ 46 ∷ 46 ∷ []) ▹ line b 0) ▹ keep false) (cursor column white bare l) rest
unfolding line letters blanks
dots_same Lf column true bare k l rest = refl
dots_same Lf column false bare k l rest = refl
dots_same Cr column true bare k l rest = refl
dots_same Cr column false bare k l rest = refl
dots_same CrLf column true bare k l rest = refl
dots_same CrLf column false bare k l rest = refl

start_same : (s : Settings) (b : Bool) (a : Layout) (column : ℕ) (white bare k l : Bool)
    (rest : Rest)
    → (when b (dots s) ▹ keep false ▹ a) (cursor column white bare k) rest
    ≡ (when b (dots s) ▹ keep false ▹ a) (cursor column white bare l) rest
start_same s true a column white bare k l rest = dots_same s.line_break column white bare k l (λ d. a d rest)
start_same s false a column white bare k l rest = refl

piece_same : (s : Settings) (first unended : Bool) (o : Opening) (b : Bool) (column : ℕ)
    (white bare k l : Bool) (rest : Rest)
    → piece s (placed (at.Documents first unended)) (document_start o) b
    (cursor column white bare k) rest
    ≡ piece s (placed (at.Documents first unended)) (document_start o) b
    (cursor column white bare l) rest
unfolding text_at depth_at start_layout
piece_same s first unended o b column white bare k l rest = start_same s (unended && is_directed o) (version_text s o.version ▹ directives_text s o.directives ▹ when (is_marked s first o) (dashes s)) column white bare k l rest

unless_same : (p : Option Problem) (a : Layout) (c d : Cursor) → a c nothing_more ≡ a d nothing_more
    → unless p a c nothing_more ≡ unless p a d nothing_more
unless_same None a c d h = h
unless_same (Some x) a c d h = refl

laid_same : (s : Settings) (first unended : Bool) (o : Opening) (es : List Event) (column : ℕ)
    (white bare k l : Bool)
    → laid s (placed (at.Documents first unended)) (document_start o ∷ es)
    (cursor column white bare k) nothing_more
    ≡ laid s (placed (at.Documents first unended)) (document_start o ∷ es)
    (cursor column white bare l) nothing_more
unfolding laid
laid_same s first unended o es column white bare k l =
    let st : State = placed (at.Documents first unended) in
    let b : Bool = opens_empty (document_start o) es in
    unless_same (problem_at s st (document_start o)) (λ c rest. piece s st (document_start o) b c (λ d. laid s (next s st (document_start o) b d) es d rest)) (cursor column white bare k) (cursor column white bare l)
    (piece_same s first unended o b column white bare k l (λ d. laid s (next s st (document_start o) b d) es d nothing_more))

none_same : (s : Settings) (first unended : Bool) (column : ℕ) (white bare k l : Bool)
    → laid s (placed (at.Documents first unended)) [] (cursor column white bare k) nothing_more
    ≡ laid s (placed (at.Documents first unended)) [] (cursor column white bare l) nothing_more
unfolding laid
none_same s first unended column white bare k l = refl

out_same : (s : Settings) (first unended : Bool) (o : Opening) (more : List Event) (column : ℕ)
    (white bare k l : Bool) (b : Bool) → is_ready (document_start o ∷ more) ≡ b
    → laid s (placed (at.Documents first unended)) (let_out (document_start o ∷ more))
    (cursor column white bare k) nothing_more
    ≡ laid s (placed (at.Documents first unended)) (let_out (document_start o ∷ more))
    (cursor column white bare l) nothing_more
unfolding let_out
out_same s first unended o more column white bare k l true r = rw r (laid_same s first unended o (let_out more) column white bare k l)
out_same s first unended o more column white bare k l false r = rw r (none_same s first unended column white bare k l)

pub between : DocumentsStandByEnds
between s first unended column white bare k l o more = out_same s first unended o more column white bare k l (is_ready (document_start o ∷ more)) refl
