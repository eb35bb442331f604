-- What the readers of quoted scalars answer.
use Rattle.std.specs.Prelude.{ℕ, zero, suc, ◌+◌, ◌-◌, ◌<◌, ◌≤◌, ◌≡◌, ◌==◌, ◌⊎◌, Bool, true, false, not, ◌&&◌, if◌then◌else◌, List, [], ◌∷◌, ◌++◌, length, slice_range, Result, Ok, Err}
use Rattle.yaml_scan_types.specs.Ascii as ascii
use Rattle.yaml_scan_model.specs.Wrong.{Wrong}
use Rattle.yaml_scan_types.specs.Marks.{byte, break_width, column_at, is_blank, splits_break, starts}
use Rattle.yaml_scan_model.specs.Breaks.{is_document_indicator}
use Rattle.yaml_scan_model.specs.declared.problem.Problem.TheVariants as problems
use Rattle.yaml_scan_model.specs.declared.problem.Context.TheVariants as contexts
use Rattle.yaml_scan_history.specs.Pieces.{Piece, Blank, Kept, value}
use Rattle.yaml_scan_runs.specs.Runs.{is_stop}
use Rattle.yaml_scan_history.specs.Quoted.{Bad, Pieces, QuotedSpot, pieces, quoted_at, valued}
use Rattle.yaml_scan_text.specs.declared.fold.Head.{Head}
use Rattle.yaml_scan_text.specs.declared.quoted.Quoted.{Quoted}
use Rattle.yaml_scan_text.specs.declared.quoted.QuotedScalar.{QuotedScalar}
use Rattle.yaml_scan_text.specs.declared.refusal.Refusal.{Refusal}
use Rattle.yaml_scan_text.specs.declared.refusal.Wrong.{Wrong as Told}
use Rattle.yaml_scan_text.specs.Lines.{line_start}
use Rattle.yaml_scan_text.specs.PlainRead.{IsHead}
use Rattle.yaml_scan_text.specs.Refused.{IsMemory, Refuses, wrong_of}

-- `"` or `'`
abbrev pub IsQuote : ℕ → Type 0
IsQuote b = (b ≡ ascii.quote) ⊎ (b ≡ ascii.apostrophe)

-- the quote that closes the scalar is there
abbrev pub closes : ℕ → List ℕ → ℕ → Bool
closes quote text p = byte text p == quote && not
    (quote == ascii.apostrophe && byte text (p + 1) == ascii.apostrophe)

-- a byte at which what spells itself between those quotes may end
abbrev pub may_stop : ℕ → ℕ → Bool
may_stop quote = if quote == ascii.quote then is_stop (ascii.quote ∷ ascii.backslash ∷ []) else
    is_stop (ascii.apostrophe ∷ [])

-- a place between quotes, in a line that starts there
pub record InQuotes (text : List ℕ) (line p : ℕ) : Type 0 where
  pub inside : p ≤ length text
  pub whole : splits_break text p ≡ false
  pub calm : is_document_indicator text p ≡ false
  pub column : (0 < column_at text p) ⊎ (starts (byte text p) ≡ true)
  pub own : line ≡ line_start text p

-- a byte that spells itself
abbrev pub raw_piece : ℕ → Piece
raw_piece b = if is_blank b then Blank b else Kept (b ∷ [])

-- that many bytes from a place on, each a piece
unfoldable pub raw_at : List ℕ → ℕ → ℕ → List Piece
raw_at text p zero = []
raw_at text p (suc d) = raw_piece (byte text p) ∷ raw_at text (p + 1) d

-- What the scalar comes to, where these bytes of it are done, those from one place to another spell themselves, and the text
-- goes on at the other.
abbrev pub to_come : ℕ → List ℕ → List ℕ → ℕ → ℕ → Result (List ℕ × ℕ) Wrong
to_come quote text done from p =
    valued (λ ps. done ++ value (raw_at text from (p - from) ++ ps))
    (pieces (suc (length text)) quote text p)

-- no character beyond ASCII is in the line before the place, after the scalar's start
abbrev pub IsNarrow : List ℕ → ℕ → Quoted → Type 0
IsNarrow text start r = r.wide ≡ false → (k : ℕ) → start ≤ k → r.line ≤ k → k < r.at
    → starts (byte text k) ≡ true

-- The scalar that starts there, as far as it is read.
pub record IsRead (quote : ℕ) (text : List ℕ) (start : ℕ) (old new : List ℕ) (r : Quoted) : Type 0
  where
    pub done : List ℕ
    pub is : new ≡ old ++ done
    pub rest : quoted_at quote text start ≡ to_come quote text done r.from r.at
    pub order : r.from ≤ r.at
    pub taken : ((r.from ≡ start + 1) × (done ≡ [])) ⊎ (start + 1 < r.from)
    pub seat : InQuotes text r.line r.at
    pub narrow : IsNarrow text start r

-- After what was taken the scalar comes to the same.
pub record Goes (quote : ℕ) (text old new : List ℕ) (read r : Quoted) : Type 0 where
  pub more : List ℕ
  pub is : new ≡ old ++ more
  pub goes : (done : List ℕ) → to_come quote text done read.from read.at
      ≡ to_come quote text (done ++ more) r.from r.at
  pub further : read.at < r.at
  pub order : r.from ≤ r.at
  pub taken : ((r.from ≡ read.from) × (more ≡ [])) ⊎ (read.from < r.from)
  pub seat : InQuotes text r.line r.at
  pub narrow : (start : ℕ) → IsNarrow text start read → IsNarrow text start r

-- it is refused so, unless memory ran out
abbrev pub RefusedAs : Refusal → Result (List ℕ × ℕ) Wrong → Type 0
RefusedAs e (Ok x) = IsMemory e
RefusedAs e (Err w) = Refuses e w

abbrev pub ReadsPiece : ℕ → List ℕ → List ℕ → List ℕ → Quoted → Result Quoted Refusal → Type 0
ReadsPiece quote text old new read (Ok r) = Goes quote text old new read r
ReadsPiece quote text old new read (Err e) = (done : List ℕ)
    → RefusedAs e (to_come quote text done read.from read.at)

-- what is wrong where a document's mark is at a line's start
abbrev pub marked : ℕ → Wrong
marked p = record {
  problem = problems.DocumentIndicator;
  context = contexts.QuotedScalar;
  place
      = p;
}

-- White after a break, and the place after it; a document's mark that is there is refused.
abbrev pub PassesLines : List ℕ → ℕ → Result Head Told → Type 0
PassesLines text p (Ok h) = IsHead 0 text p h × (is_document_indicator text h.at ≡ false)
PassesLines text p (Err e) = (h : Head) × IsHead 0 text p h
    × (is_document_indicator text h.at ≡ true) × (wrong_of e ≡ marked h.at)

-- there are bytes of ASCII that are no breaks from one place to another
pub record ArePlain (text : List ℕ) (p q : ℕ) : Type 0 where
  pub forward : p ≤ q
  pub each : (k : ℕ) → p ≤ k → k < q
      → (0 < byte text k) × (byte text k < 128) × (break_width text k ≡ 0)

-- what a spot is whose bytes were appended, up to the place
pub record IsTaken (text : List ℕ) (p : ℕ) (old new : List ℕ) (q : ℕ) (s : QuotedSpot) : Type 0
  where
    pub bytes : List ℕ
    pub spot : s ≡ Pieces (Kept bytes ∷ []) q
    pub is : new ≡ old ++ bytes
    pub plain : ArePlain text p q

-- what is wrong there is reported, unless memory ran out
abbrev pub RefusesSpot : Refusal → QuotedSpot → Type 0
RefusesSpot e (Bad w) = Refuses e w
RefusesSpot e s = IsMemory e

abbrev pub Escapes : List ℕ → ℕ → List ℕ → List ℕ → Result ℕ Refusal → QuotedSpot → Type 0
Escapes text p old new (Ok q) s = IsTaken text p old new q s × (p < q)
Escapes text p old new (Err e) s = RefusesSpot e s

abbrev pub Codes : List ℕ → ℕ → List ℕ → List ℕ → Result ℕ Refusal → QuotedSpot → Type 0
Codes text p old new (Ok q) s = IsTaken text p old new q s
Codes text p old new (Err e) s = RefusesSpot e s

-- the scalar is answered as it was read
abbrev pub IsClosed : ℕ → Quoted → Result QuotedScalar Refusal → Type 0
IsClosed start r (Ok s) = s ≡ record
    { end = r.at + 1; line = r.line; wide = r.wide; joined = not (r.from == start + 1) }
IsClosed start r (Err e) = IsMemory e

-- A quoted scalar has that value and that end; its value is joined after what was there, or is between the quotes.
pub record IsQuoted (text : List ℕ) (start : ℕ) (old new : List ℕ) (s : QuotedScalar)
    (x : List ℕ × ℕ) : Type 0 where
  pub joined : s.joined ≡ true → new ≡ old ++ x.0
  pub stands : s.joined ≡ false → (new ≡ old) × (slice_range text (start + 1) (s.end - 1) ≡ x.0)
  pub some : start + 1 < s.end
  pub end : s.end ≡ x.1
  pub inside : s.end ≤ length text
  pub whole : splits_break text s.end ≡ false
  pub line : s.line ≡ line_start text s.end
  pub wide : s.wide ≡ false → (k : ℕ) → start ≤ k → s.line ≤ k → k < s.end
      → starts (byte text k) ≡ true

abbrev pub ReadsQuoted : List ℕ → ℕ → List ℕ → List ℕ → Result QuotedScalar Refusal
    → Result (List ℕ × ℕ) Wrong → Type 0
ReadsQuoted text start old new (Ok s) (Ok x) = IsQuoted text start old new s x
ReadsQuoted text start old new (Ok s) (Err w) = ⊥
ReadsQuoted text start old new (Err e) (Ok x) = IsMemory e
ReadsQuoted text start old new (Err e) (Err w) = Refuses e w
