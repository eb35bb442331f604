-- Quoted and plain scalars as relations, with no bound on their steps.
use Rattle.std.specs.Prelude.{◌≡◌, ◌<◌, ℕ, ◌+◌, ◌*◌, ◌^◌, Bool, false, List, [], ◌∷◌, length, Some, None, Result, Ok, Err}
use Rattle.yaml_scan_model.specs.scan_types.Marks.{byte}
use Rattle.yaml_scan_model.specs.Wrong.{Wrong}
use Rattle.yaml_scan_history.specs.Pieces.{Piece, Kept, value}
use Rattle.yaml_scan_history.specs.Quoted.{hex_digit, hex_value, Closing, Pieces, Bad, standing_at, with_front, valued, quoted_at}
use Rattle.yaml_scan_history.specs.Plain.{Ends, Takes, Faulty, spot_at, Words, words_from, plain_with, plain_text, plain_at}

-- From a place on there are these hexadecimal digits, by their values.
pub data AreDigits (text : List ℕ) : ℕ → List ℕ → Type 0 where
  no_digits : (p : ℕ) → AreDigits text p []
  digit : (p d : ℕ) (ds : List ℕ) → hex_digit (byte text p) ≡ Some d → AreDigits text (p + 1) ds
      → AreDigits text p (d ∷ ds)

-- the number that digits spell: each counts sixteen times the one after it
abbrev pub number_of : List ℕ → ℕ
number_of [] = 0
number_of (d ∷ ds) = d * 16 ^ length ds + number_of ds

-- Hexadecimal digits are read as the number that they spell; what is read is spelled by that many, and where nothing is read, one of
-- the characters is no digit.
abbrev pub DigitsAreRead : Type 0
DigitsAreRead = (text : List ℕ) (p : ℕ) (ds : List ℕ) → AreDigits text p ds
    → hex_value text p (length ds) ≡ Some (number_of ds)

abbrev pub DigitsStandThere : Type 0
DigitsStandThere = (text : List ℕ) (p n v : ℕ) → hex_value text p n ≡ Some v
    → (ds : List ℕ) × AreDigits text p ds × (length ds ≡ n) × (v ≡ number_of ds)

abbrev pub OneIsNoDigit : Type 0
OneIsNoDigit = (text : List ℕ) (p n : ℕ) → hex_value text p n ≡ None
    → (k : ℕ) × (k < n) × (hex_digit (byte text (p + k)) ≡ None)

-- From a place inside the quotes: pieces, one after another, up to the closing quote and the place after it, or what is wrong.
pub data IsQuotedFrom (quote : ℕ) (text : List ℕ) : ℕ → Result (List Piece × ℕ) Wrong → Type 0 where
  closes : (p : ℕ) → standing_at quote text p ≡ Closing
      → IsQuotedFrom quote text p (Ok ([], p + 1))
  goes_on : (p q : ℕ) (ps : List Piece) (rest : Result (List Piece × ℕ) Wrong)
      → standing_at quote text p ≡ Pieces ps q → IsQuotedFrom quote text q rest
      → IsQuotedFrom quote text p (with_front ps rest)
  is_bad : (p : ℕ) (w : Wrong) → standing_at quote text p ≡ Bad w
      → IsQuotedFrom quote text p (Err w)

-- There is one after each opening quote, and what it says is the scalar; so says any other.
abbrev pub QuotedIs : Type 0
QuotedIs = (quote : ℕ) (text : List ℕ) (p : ℕ) → p < length text
    → (r : Result (List Piece × ℕ) Wrong) × IsQuotedFrom quote text (p + 1) r
    × (quoted_at quote text p ≡ valued value r)

abbrev pub QuotedIsOne : Type 0
QuotedIsOne = (quote : ℕ) (text : List ℕ) (p : ℕ) → p < length text
    → (r : Result (List Piece × ℕ) Wrong) → IsQuotedFrom quote text (p + 1) r
    → quoted_at quote text p ≡ valued value r

-- From a place inside a plain scalar: piece by piece up to its end, or what is wrong.
pub data IsPlainFrom (flow : Bool) (level : ℕ) (text : List ℕ)
    : ℕ → Result Words Wrong → Type 0 where
  ends : (p : ℕ) → spot_at flow level text p ≡ Ends → IsPlainFrom flow level text p (Ok record {
    pieces = [];
    end = p;
    place = p;
    broke = false;
  })
  takes : (p q : ℕ) (x : Piece) (rest : Result Words Wrong)
      → spot_at flow level text p ≡ Takes x q → IsPlainFrom flow level text q rest
      → IsPlainFrom flow level text p (words_from x q rest)
  is_faulty : (p : ℕ) (w : Wrong) → spot_at flow level text p ≡ Faulty w
      → IsPlainFrom flow level text p (Err w)

-- what a plain scalar is, by what is after its first byte
abbrev pub plain_behind : List ℕ → ℕ → Result Words Wrong → Result Words Wrong
plain_behind text p r = words_from (Kept (byte text p ∷ [])) (p + 1) r

abbrev pub PlainIs : Type 0
PlainIs = (flow : Bool) (level : ℕ) (text : List ℕ) (p : ℕ) → p < length text
    → (r : Result Words Wrong) × IsPlainFrom flow level text (p + 1) r
    × (plain_at flow level text p ≡ plain_with plain_text (plain_behind text p r))

abbrev pub PlainIsOne : Type 0
PlainIsOne = (flow : Bool) (level : ℕ) (text : List ℕ) (p : ℕ) → p < length text
    → (r : Result Words Wrong) → IsPlainFrom flow level text (p + 1) r
    → plain_at flow level text p ≡ plain_with plain_text (plain_behind text p r)
