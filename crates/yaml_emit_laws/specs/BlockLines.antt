-- The lines of a block scalar, as they are written and as they are read.
use Rattle.std.specs.Prelude.{ℕ, ◌+◌, ◌<◌, ◌≡◌, ◌≢◌, Bool, true, not, ◌&&◌, ◌==◌, if◌then◌else◌, List, [], ◌∷◌, ◌++◌, replicate, encode_utf8_all}
use Rattle.yaml_emit_layout.specs.scan_types.Ascii as ascii
use Rattle.yaml_emit_layout.specs.scan_types.Points as points
use Rattle.yaml_emit_layout.specs.scan_types.Marks.{byte, break_width}
use Rattle.yaml_scan_history.specs.Written.{HasAt}
use Rattle.yaml_scan_history.specs.Value.{BlockLine, Empty, Words}
use Rattle.yaml_emit_layout.specs.declared.LineBreak.{LineBreak}
use Rattle.yaml_emit_layout.specs.Text.{is_break}
use Rattle.yaml_emit_layout.specs.Spelling.{break_text}

-- The break of a value at which a line ends: LF, which is written as the break that is set, LS and PS.
pub data LineMark : Type 0 where
  own : LineMark
  separator : LineMark
  paragraph : LineMark

-- the character in the value
abbrev pub mark_char : LineMark → ℕ
mark_char own = ascii.line_feed
mark_char separator = points.line_separator
mark_char paragraph = points.paragraph_separator

-- the characters that are written for it
abbrev pub mark_text : LineBreak → LineMark → List ℕ
mark_text b own = break_text b
mark_text b separator = points.line_separator ∷ []
mark_text b paragraph = points.paragraph_separator ∷ []

-- their bytes
abbrev pub mark_bytes : LineBreak → LineMark → List ℕ
mark_bytes b own = break_text b
mark_bytes b separator = points.line_separator_utf8
mark_bytes b paragraph = points.paragraph_separator_utf8

-- the bytes that it is read as
abbrev pub mark_means : LineMark → List ℕ
mark_means own = ascii.line_feed ∷ []
mark_means separator = points.line_separator_utf8
mark_means paragraph = points.paragraph_separator_utf8

-- A line after the header: one without a text, or the characters of a text, the first one and others; and its break.
pub data BodyLine : Type 0 where
  bare : LineMark → BodyLine
  full : ℕ → List ℕ → LineMark → BodyLine

-- a text is after the indentation; a line without one has none
abbrev pub line_text : LineBreak → ℕ → BodyLine → List ℕ
line_text b n (bare m) = mark_text b m
line_text b n (full x xs m) = replicate n ascii.space ++ ((x ∷ xs) ++ mark_text b m)

unfoldable pub body_text : LineBreak → ℕ → List BodyLine → List ℕ
body_text b n [] = []
body_text b n (l ∷ ls) = line_text b n l ++ body_text b n ls

abbrev pub line_bytes : LineBreak → ℕ → BodyLine → List ℕ
line_bytes b n (bare m) = mark_bytes b m
line_bytes b n (full x xs m) =
    replicate n ascii.space ++ (encode_utf8_all (x ∷ xs) ++ mark_bytes b m)

unfoldable pub body_bytes : LineBreak → ℕ → List BodyLine → List ℕ
body_bytes b n [] = []
body_bytes b n (l ∷ ls) = line_bytes b n l ++ body_bytes b n ls

-- what a line is read as
abbrev pub read_line : BodyLine → BlockLine
read_line (bare m) = Empty (mark_means m)
read_line (full x xs m) = Words (encode_utf8_all (x ∷ xs)) (mark_means m)

abbrev pub read_lines : List BodyLine → List BlockLine
read_lines [] = []
read_lines (l ∷ ls) = read_line l ∷ read_lines ls

-- characters that neither break a line nor end a stream
abbrev pub are_inside : List ℕ → Bool
are_inside [] = true
are_inside (x ∷ xs) = (not (is_break x) && not (x == 0)) && are_inside xs

abbrev pub AreInside : List BodyLine → Type 0
AreInside [] = Unit {0}
AreInside (bare m ∷ ls) = AreInside ls
AreInside (full x xs m ∷ ls) = (are_inside (x ∷ xs) ≡ true) × AreInside ls

-- the break after a last line that has none of its own, which comes with the next line
abbrev pub closing : LineBreak → Bool → List ℕ
closing b ended = if ended then [] else break_text b

-- Neither a blank nor a break is there, but a text or the end.
pub record NoWhite (text : List ℕ) (q : ℕ) : Type 0 where
  pub no_space : byte text q ≢ ascii.space
  pub no_tab : byte text q ≢ ascii.tab
  pub no_break : break_width text q ≡ 0

-- At a line's start, that many spaces are there, fewer than n, and after them a text left of column n, or the end.
pub record StandsLeft (text : List ℕ) (q n k : ℕ) : Type 0 where
  pub fewer : k < n
  pub spaces : HasAt text q (replicate k ascii.space)
  pub behind : NoWhite text (q + k)
