-- What the readers of lexemes with a text answer.
use Rattle.std.specs.Prelude.{ℕ, ◌+◌, ◌^◌, ◌≡◌, ◌≤◌, ◌<◌, ◌⊎◌, Bool, true, false, ◌||◌, nat_le, if◌then◌else◌, List, ◌++◌, length, Option, Some, None, Result, Ok, Err}
use Rattle.yaml_scan_model.specs.scan_types.Ascii as ascii
use Rattle.yaml_scan_model.specs.declared.name.yaml_scalar_style_t.{yaml_scalar_style_t}
use Rattle.yaml_scan_model.specs.declared.name.yaml_scalar_style_t.TheVariants as styles
use Rattle.yaml_scan_model.specs.declared.problem.Context.{Context}
use Rattle.yaml_scan_model.specs.declared.problem.Context.TheVariants as contexts
use Rattle.yaml_scan_model.specs.scan_types.Tokens as tokens
use Rattle.yaml_scan_model.specs.scan_types.Tokens.{TokenBody}
use Rattle.yaml_scan_model.specs.scan_types.Marks.{byte, starts}
use Rattle.yaml_scan_model.specs.Wrong.{Wrong}
use Rattle.yaml_scan_history.specs.declared.kind.Kind.{Kind as ReadKind}
use Rattle.yaml_scan_history.specs.declared.lexeme.Opens.TheVariants as opening
use Rattle.yaml_scan_history.specs.Remaining.{SpelledText}
use Rattle.yaml_scan_history.specs.Words.{WordText, kind_at}
use Rattle.yaml_scan_text.specs.Lines.{IsSpelled}
use Rattle.yaml_scan_text.specs.Refused.{IsMemory, Refuses}
use Rattle.yaml_scan_text.specs.declared.refusal.Refusal.{Refusal}
use Rattle.yaml_scan_text.specs.declared.refusal.Refusal.TheVariants as refusals
use Rattle.yaml_scan_core.specs.declared.fault.Fault.{Fault}
use Rattle.yaml_scan_model.specs.declared.kind.Kind.{Kind}
use Rattle.yaml_scan_model.specs.declared.kind.Kind.TheVariants as kinds
use Rattle.yaml_scan_core.specs.declared.lexeme.Lexeme.{Lexeme}
use Rattle.yaml_scan_core.specs.declared.lexeme.Note.{Note}
use Rattle.yaml_scan_core.specs.declared.lexeme.Span.{Span}
use Rattle.yaml_scan_core.specs.declared.word.Spot.{Spot}
use Rattle.yaml_scan_core.specs.declared.word.Word.{Word}
use Rattle.yaml_scan_core.specs.Rows.{first_kind, is_set}
use Rattle.yaml_scan_core.specs.Shown.{Carries, Store, end_at, no_span, opens_in}
use Rattle.yaml_scan_core.specs.Scanning.{IsPlace}
use Rattle.yaml_scan_core.specs.Texts.{is_key_word, is_line_word, is_scalar, lexeme_of, notes_of}

-- a lexeme with a text
abbrev pub has_text : ReadKind → Bool
has_text k = is_key_word k || is_line_word k

-- a lexeme shows a text
pub record ShowsWord (o : Store) (t : SpelledText) (y : Lexeme) (x : WordText) : Type 0 where
  pub end : end_at o y ≡ x.end
  pub plain : opens_in y ≡ opening.Nothing
  pub none : is_set 4 y ≡ false
  pub front : y.front ≡ first_kind y
  pub carries : Carries o t y y.kind x.body

-- where the texts of a word lie, once it is put after these notes
abbrev pub store_behind : List ℕ → List ℕ → List Note → Word → Store
store_behind text arena notes w = record { text = text; notes = notes ++ notes_of w; arena = arena }

-- a word that starts there shows a text, whatever notes it is put after, and leads to a place
pub record IsWordAt (text arena : List ℕ) (spot : Spot) (w : Word) (x : WordText) : Type 0 where
  pub start : w.lexeme.start ≡ spot.at
  pub ends : w.lexeme.ends ≡ spot.ends
  pub shows : (notes : List Note) (t : SpelledText)
      → ShowsWord (store_behind text arena notes w) t (lexeme_of w (length notes)) x
  pub inside : x.end ≤ length text
  pub at : w.at ≡ x.reached
  pub broke : w.broke ≡ x.broke
  pub place : IsPlace text w.at w.line w.wide

-- What reading a lexeme's text answers.
abbrev pub GivesWord : List ℕ → List ℕ → Spot → Result Word Refusal → Result WordText Wrong → Type 0
GivesWord text arena spot (Ok w) (Ok x) = IsWordAt text arena spot w x
GivesWord text arena spot (Ok w) (Err e) = ⊥
GivesWord text arena spot (Err e) (Ok x) = IsMemory e
GivesWord text arena spot (Err e) (Err w) = Refuses e w

-- a lexeme's text may be there
pub record IsSpot (text : List ℕ) (spot : Spot) : Type 0 where
  pub place : IsPlace text spot.at spot.line spot.wide
  pub long : length text < 2 ^ 63
  pub spelled : IsSpelled text

-- a lexeme of a kind is there, in brackets or not, in that level
pub record StandsThere (k : ReadKind) (flow : Bool) (level : ℕ) (text : List ℕ)
    (spot : Spot) : Type 0 where
  pub here : IsSpot text spot
  pub kind : kind_at flow text spot.at ≡ Some k
  pub first : starts (byte text spot.at) ≡ true
  pub low : is_scalar k ≡ true → level ≤ length text + 1

-- ---- how a word holds its texts

-- the fault that a refusal means, of what starts there, unless memory ran out
abbrev pub told_by : Refusal → ℕ → ℕ → Option Fault
told_by refusals.Memory start end = None
told_by (refusals.Wrong w) start end = if nat_le w.place end then Some record {
  problem = w.problem;
  context = w.context;
  start = start;
  at = w.place;
} else None

-- a part of the text, or where it was joined, what is in the arena between two places
abbrev pub value_span : Bool → ℕ → ℕ → ℕ → ℕ → Span
value_span joined from to base end = if joined
    then record { from = base; to = end; joined = true }
    else record { from = from; to = to; joined = false }

-- the note of a scalar that ends there, whose value is in the arena between two places
abbrev pub joined_note : ℕ → ℕ → ℕ → Note
joined_note end from to = record {
  end = end;
  first = no_span;
  second = record { from = from; to = to; joined = true };
}

-- an anchor or alias
abbrev pub IsNamed : Kind → Context → Type 0
IsNamed k c = ((k ≡ kinds.Alias) × (c ≡ contexts.Alias))
    ⊎ ((k ≡ kinds.Anchor) × (c ≡ contexts.Anchor))

abbrev pub name_body : Kind → List ℕ → TokenBody
name_body kinds.Alias v = tokens.alias v
name_body _ v = tokens.anchor v

abbrev pub scalar_body : yaml_scalar_style_t → List ℕ → TokenBody
scalar_body style v = tokens.scalar v style

-- a scalar of that style is between such quotes
abbrev pub IsQuotedBy : yaml_scalar_style_t → ℕ → Type 0
IsQuotedBy style b = ((style ≡ styles.YAML_SINGLE_QUOTED_SCALAR_STYLE) × (b ≡ ascii.apostrophe))
    ⊎ ((style ≡ styles.YAML_DOUBLE_QUOTED_SCALAR_STYLE) × (b ≡ ascii.quote))

-- one of that style begins with such an indicator
abbrev pub IsMarkedBy : yaml_scalar_style_t → ℕ → Type 0
IsMarkedBy style b = ((style ≡ styles.YAML_LITERAL_SCALAR_STYLE) × (b ≡ ascii.bar))
    ⊎ ((style ≡ styles.YAML_FOLDED_SCALAR_STYLE) × (b ≡ ascii.greater))
