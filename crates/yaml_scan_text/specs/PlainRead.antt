-- What the readers of plain scalars answer.
use Rattle.std.specs.Prelude.{ℕ, suc, ◌+◌, ◌-◌, ◌<◌, ◌≤◌, ◌≡◌, ◌==◌, Bool, true, false, ◌&&◌, ◌||◌, nat_lt, if◌then◌else◌, List, [], ◌∷◌, ◌++◌, length, slice_range, Result, Ok, Err}
use Rattle.yaml_scan_types.specs.Ascii as ascii
use Rattle.yaml_scan_model.specs.declared.problem.Problem.TheVariants as problems
use Rattle.yaml_scan_model.specs.declared.problem.Context.TheVariants as contexts
use Rattle.yaml_scan_types.specs.Marks.{byte, break_width, splits_break, column_at, starts, is_blank, is_blank_or_end}
use Rattle.yaml_scan_model.specs.Runs.{past_blanks}
use Rattle.yaml_scan_model.specs.Wrong.{Wrong}
use Rattle.yaml_scan_history.specs.Pieces.{Piece, value}
use Rattle.yaml_scan_history.specs.Plain.{PlainSpot, Ends, Faulty, Words, PlainText, is_nothing, is_bracket, plain_with, words, spot_at, ends_at, leads, after_white}
use Rattle.yaml_scan_runs.specs.Runs.{is_stop}
use Rattle.yaml_scan_text.specs.declared.plain.PlainLine.{PlainLine}
use Rattle.yaml_scan_text.specs.declared.plain.PlainScalar.{PlainScalar}
use Rattle.yaml_scan_text.specs.declared.refusal.Refusal.{Refusal}
use Rattle.yaml_scan_text.specs.declared.fold.Head.{Head}
use Rattle.yaml_scan_text.specs.declared.refusal.Wrong.{Wrong as Told}
use Rattle.yaml_scan_text.specs.Folds.{White}
use Rattle.yaml_scan_text.specs.Lines.{InHead, line_start}
use Rattle.yaml_scan_text.specs.Refused.{Refuses, IsMemory, wrong_of}

-- a character of a scalar is there
pub record IsWord (text : List ℕ) (p : ℕ) : Type 0 where
  pub inside : p < length text
  pub blank : is_blank (byte text p) ≡ false
  pub none : break_width text p ≡ 0
  pub whole : splits_break text p ≡ false
  pub starts : starts (byte text p) ≡ true

-- the place is in a line, after a character of it
pub record InLine (text : List ℕ) (p : ℕ) : Type 0 where
  pub inside : p ≤ length text
  pub whole : splits_break text p ≡ false
  pub column : 0 < column_at text p
  pub calm : leads text p ≡ false
  pub dark : after_white text p ≡ false

-- what a plain scalar comes to, where these bytes of it are done, up to a place, and these words follow there
unfoldable pub so_far : List ℕ → ℕ → Words → PlainText
so_far done end w =
    if is_nothing w.pieces then record { value = done; end = end; place = w.place; broke = w.broke }
    else record { value = done ++ value w.pieces; end = w.end; place = w.place; broke = w.broke }

-- what it comes to, where these bytes of it are done, and the text goes on at the place
abbrev pub coming : Bool → ℕ → List ℕ → List ℕ → ℕ → Result PlainText Wrong
coming flow level text done p = plain_with (so_far done p)
    (words (suc (length text)) flow level text p)

-- a `:` is there as a mapping has it
abbrev pub is_colon : List ℕ → ℕ → Bool
is_colon text p = byte text p == ascii.colon && is_blank_or_end text (p + 1)

-- a `:` in brackets before a bracket or a `?`
abbrev pub is_bad_colon : Bool → List ℕ → ℕ → Bool
is_bad_colon flow text p = flow && (byte text p == ascii.colon
    && (is_bracket (byte text (p + 1)) || byte text (p + 1) == ascii.question))

abbrev pub bad_colon : ℕ → Wrong
bad_colon p = record {
  problem = problems.UnexpectedColon;
  context = contexts.PlainScalar;
  place
      = p;
}

-- what is where a line of the scalar stops, and no break does
abbrev pub stop_at : Bool → List ℕ → ℕ → PlainSpot
stop_at flow text p = if is_bad_colon flow text p then Faulty (bad_colon p) else Ends

-- A line of a plain scalar whose first character is there.
pub record IsPlainLine (flow : Bool) (text : List ℕ) (p : ℕ) (l : PlainLine) : Type 0 where
  pub after : p < l.end
  pub order : l.end ≤ l.next
  pub inside : l.next ≤ length text
  pub seat : InLine text l.end
  pub goes : (level : ℕ) (done : List ℕ) → coming flow level text (done ++ byte text p ∷ []) (p + 1)
      ≡ coming flow level text (done ++ slice_range text p l.end) l.end
  pub next : l.next ≡ past_blanks text l.end
  pub colon : l.colon ≡ is_colon text l.next
  pub stop : break_width text l.next ≡ 0 → (level : ℕ)
      → spot_at flow level text l.next ≡ stop_at flow text l.next
  pub whole : splits_break text l.next ≡ false
  pub line : line_start text l.next ≡ line_start text p
  pub wide : l.wide ≡ false → (k : ℕ) → p ≤ k → k < l.next → starts (byte text k) ≡ true

-- What a plain scalar is whose first line is followed by no break.
abbrev pub one_line : Bool → List ℕ → ℕ → PlainLine → Result PlainText Wrong
one_line flow text p l =
    if is_bad_colon flow text l.next then Err (bad_colon l.next)
    else Ok record { value = slice_range text p l.end; end = l.end; place = l.next; broke = false }

-- A plain scalar is that text; its value is joined after what was there, or is in the text.
pub record IsPlain (text : List ℕ) (start : ℕ) (old new : List ℕ) (s : PlainScalar) (x : PlainText)
    : Type 0 where
  pub joined : s.joined ≡ true → new ≡ old ++ x.value
  pub stands : s.joined ≡ false → (new ≡ old) × (slice_range text start s.end ≡ x.value)
  pub end : s.end ≡ x.end
  pub place : s.place ≡ x.place
  pub broke : s.broke ≡ x.broke
  pub inside : s.place ≤ length text
  pub whole : splits_break text s.place ≡ false
  pub line : s.line ≡ line_start text s.place
  pub wide : s.wide ≡ false → (k : ℕ) → s.line ≤ k → k < s.place → starts (byte text k) ≡ true

abbrev pub ReadsPlain : List ℕ → ℕ → List ℕ → List ℕ → Result PlainScalar Refusal
    → Result PlainText Wrong → Type 0
ReadsPlain text start old new (Ok s) (Ok x) = IsPlain text start old new s x
ReadsPlain text start old new (Ok s) (Err w) = ⊥
ReadsPlain text start old new (Err e) (Ok x) = IsMemory e
ReadsPlain text start old new (Err e) (Err w) = Refuses e w

-- a byte at which a line of a plain scalar may end
abbrev pub may_stop : Bool → ℕ → Bool
may_stop true = is_stop (ascii.colon ∷ ascii.hash ∷ ascii.comma ∷ ascii.open_bracket
    ∷ ascii.close_bracket
    ∷ ascii.open_brace ∷ ascii.close_brace ∷ [])
may_stop false = is_stop (ascii.colon ∷ ascii.hash ∷ [])

-- a line of a plain scalar ends at that place, after a blank or not, `:` as a mapping has it aside
abbrev pub stops : Bool → Bool → List ℕ → ℕ → Bool
stops flow blank text p =
    (byte text p == 0 || nat_lt 0 (break_width text p))
    || ((byte text p == ascii.hash && blank)
    || (is_bad_colon flow text p || (flow && is_bracket (byte text p))))

-- From a line's start to a place there are blanks, and no tab left of the margin.
pub record InIndent (level : ℕ) (text : List ℕ) (line p : ℕ) : Type 0 where
  pub forward : line ≤ p
  pub blanks : (k : ℕ) → line ≤ k → k < p → is_blank (byte text k) ≡ true
  pub tabs : (k : ℕ) → line ≤ k → k < p
      → (byte text k == ascii.tab && nat_lt (k - line) level) ≡ false

-- The indentation ends there, or before a tab left of the margin.
abbrev pub PassesIndent : ℕ → List ℕ → ℕ → Result ℕ Told → Type 0
PassesIndent level text line (Ok p) = InIndent level text line p × (is_blank (byte text p) ≡ false)
PassesIndent level text line (Err w) = (p : ℕ) × InIndent level text line p
    × ((byte text p == ascii.tab && nat_lt (p - line) level) ≡ true)
    × (wrong_of w ≡ record {
      problem = problems.TabInIndentation;
      context = contexts.PlainScalar;
      place = p;
    })

-- After a break, white, and the place after it.
pub record IsHead (level : ℕ) (text : List ℕ) (p : ℕ) (h : Head) : Type 0 where
  pub pieces : List Piece
  pub white : White level text (p + break_width text p) h.at pieces
  pub head : InHead text h.line h.at
  pub none : break_width text h.at ≡ 0
  pub blank : is_blank (byte text h.at) ≡ false

-- White before a tab in the indentation.
pub record IsBadTab (level : ℕ) (text : List ℕ) (p : ℕ) (w : Wrong) : Type 0 where
  pub pieces : List Piece
  pub white : White level text (p + break_width text p) w.place pieces
  pub spot : (flow : Bool) → spot_at flow level text w.place ≡ Faulty w

abbrev pub PassesBreaks : ℕ → List ℕ → ℕ → Result Head Told → Type 0
PassesBreaks level text p (Ok h) = IsHead level text p h
PassesBreaks level text p (Err w) = IsBadTab level text p (wrong_of w)

-- A plain scalar that starts there goes on after such a part on its first line, and such white.
pub record LineGoesOn (flow : Bool) (level : ℕ) (text : List ℕ) (start : ℕ) (part : PlainLine)
    (h : Head) : Type 0 where
  pub line : IsPlainLine flow text start part
  pub broke : 0 < break_width text part.next
  pub head : IsHead level text part.next h
  pub more : ends_at flow level text h.at ≡ false

-- The last line's part is taken, or a `:` is refused after it.
abbrev pub EndsLine : Bool → List ℕ → ℕ → PlainLine → ℕ → List ℕ → List ℕ
    → Result PlainScalar Refusal → Type 0
EndsLine flow text from part line old new (Ok s) = (is_bad_colon flow text part.next ≡ false)
    × (new ≡ old ++ slice_range text from part.end)
    × (s ≡ record {
      end = part.end;
      place = part.next;
      line = line;
      broke = false;
      wide = part.wide;
      joined = true;
    })
EndsLine flow text from part line old new (Err e) =
    (is_bad_colon flow text part.next ≡ true → Refuses e (bad_colon part.next))
    × (is_bad_colon flow text part.next ≡ false → IsMemory e)
