-- An output of a limit and an encoding over a draft that knows none.
use Rattle.std.specs.Prelude.{◌≡◌, ◌⊎◌, Result, Ok, Err, ℕ, ◌<◌, ◌≤◌, Bool, true, false, List, [], ◌∷◌, ◌++◌, length, take, if◌then◌else◌, IsUtf8}
use Rattle.std.specs.Str.{chars}
use Rattle.yaml_emit_layout.specs.declared.cursor.Status.TheVariants.{Going, Full}
use Rattle.yaml_emit_layout.specs.declared.settings.Encoding.{Encoding}
use Rattle.yaml_emit_layout.specs.declared.settings.Encoding.TheVariants.{Utf8, Utf16Le, Utf16Be}
use Rattle.yaml_emit_layout.specs.Text.{Item, char_bytes}
use Rattle.yaml_emit_layout.specs.Sink.{Output, Ends, Grows}
use Rattle.yaml_emit_output.specs.Draft.{Page}
use Rattle.yaml_emit_output.specs.declared.output.Output.TheInside.{Inside}

-- the encoding, the limit, what is encoded in UTF-16, of how many bytes of the draft's text, and whether the limit was passed
pub record Sheet : Type 0 where
  pub encoding : Encoding
  pub limit : ℕ
  pub encoded : List ℕ
  pub done : ℕ
  pub full : Bool

abbrev pub sheet_of : Inside → Sheet
sheet_of s = record
    { encoding = s.encoding; limit = s.limit; encoded = s.encoded.items; done = s.done; full = s.full }

-- characters in an encoding
unfoldable pub spelled : Encoding → List ℕ → List ℕ
spelled x [] = []
spelled x (c ∷ cs) = char_bytes x c ++ spelled x cs

-- characters were appended, all of them or that many that the limit is passed; or memory was refused after some
abbrev pub Spells : {A E : Type 0} → Result A E → Encoding → ℕ → List ℕ → List ℕ → List ℕ → Type 0
Spells (Ok u) x limit old new cs = (new ≡ old ++ spelled x cs)
    ⊎ ((limit < length new) × ((more : List ℕ) × (new ++ more ≡ old ++ spelled x cs)))
Spells (Err e) x limit old new cs = take (length old) new ≡ old

-- what an output of that limit has of a text: in UTF-16 what is encoded
abbrev pub bytes_at : Encoding → Sheet → List ℕ → List ℕ
bytes_at Utf8 s text = take s.limit text
bytes_at Utf16Le s text = s.encoded
bytes_at Utf16Be s text = s.encoded

abbrev pub output_of : Sheet → Output → Output
output_of s draft = record {
  bytes = bytes_at s.encoding s draft.bytes;
  limit = s.limit;
  encoding = s.encoding;
  status = if s.full then Full else draft.status;
  cursor = draft.cursor;
}

-- what is encoded is the front of the text, and no more than the limit
pub record Holds (s : Sheet) (text : List ℕ) : Type 0 where
  pub inside : s.done ≤ length text
  pub front : IsUtf8 (take s.done text)
  pub encoded : s.encoded ≡ spelled s.encoding (chars (take s.done text))
  pub within : length s.encoded ≤ s.limit

-- After a settling the output ends as the draft did with no limit and in UTF-8: it has the first bytes up to the limit where more
-- were laid out.
pub record Settles (old new : Sheet) (before behind : Output) : Type 0 where
  pub ends : old.full ≡ false → (text whole : List Item) → Ends before text whole
      → Ends (output_of new behind) text whole
  pub stays : old.full ≡ true → (new ≡ old) × (behind ≡ before)
  pub holds : new.full ≡ false → Holds new behind.bytes
  pub limit : new.limit ≡ old.limit
  pub encoding : new.encoding ≡ old.encoding
  pub text : behind.bytes ≡ before.bytes
  pub grows : Grows old.encoded new.encoded

-- A draft is as it was, or was stopped: then its cursor and what is set for it stay.
pub record Keeps (old new : Page) : Type 0 where
  pub line_break : new.line_break ≡ old.line_break
  pub width : new.width ≡ old.width
  pub cursor : new.output.cursor ≡ old.output.cursor
  pub going : new.output.status ≡ Going → new ≡ old

-- a text in UTF-8
abbrev pub IsText : Output → Type 0
IsText draft = (draft.encoding ≡ Utf8) × IsUtf8 draft.bytes

-- all of a draft's text is in an output, and there is no more of it than the limit
pub record IsWritten (s : Sheet) (draft : Output) : Type 0 where
  pub text : IsText draft
  pub few : length draft.bytes ≤ draft.limit
  pub all : bytes_at s.encoding s draft.bytes ≡ spelled s.encoding (chars draft.bytes)
  pub within : length (bytes_at s.encoding s draft.bytes) ≤ s.limit
