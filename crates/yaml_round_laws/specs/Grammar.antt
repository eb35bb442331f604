-- The grammar of JSON (RFC 8259): a text by its parts, and the bytes that spell it in UTF-8. The
-- bytes of a part are before those that follow.
use Rattle.std.specs.Prelude.{◌≡◌, ◌<◌, ℕ, ◌+◌, ◌*◌, Bool, true, false, not, ◌&&◌, ◌||◌, ◌==◌, nat_lt, nat_le, if◌then◌else◌, List, [], ◌∷◌, ◌++◌, Option, Some, None, codes, encode_utf8}
use Rattle.std.specs.List.{list_all}
use Rattle.yaml_scan_history.specs.scan_types.Ascii as ascii
use lib.Utf8.{scalar}

-- ---- white

-- a space, a tab, a line feed or a carriage return
abbrev pub is_white : ℕ → Bool
is_white b =
    b == ascii.space || (b == ascii.tab || (b == ascii.line_feed || b == ascii.carriage_return))

abbrev pub are_white : List ℕ → Bool
are_white [] = true
are_white (b ∷ bs) = is_white b && are_white bs

-- ---- literals and numbers

pub data Literal : Type 0 where
  named_false : Literal
  named_null : Literal
  named_true : Literal

abbrev pub literal_bytes : Literal → List ℕ
literal_bytes named_false = codes "false"
literal_bytes named_null = codes "null"
literal_bytes named_true = codes "true"

pub data Sign : Type 0 where
  no_sign : Sign
  plus : Sign
  minus : Sign

abbrev pub sign_bytes : Sign → List ℕ
sign_bytes no_sign = []
sign_bytes plus = ascii.plus ∷ []
sign_bytes minus = ascii.hyphen ∷ []

-- `E` or `e`, a sign and digits
pub record Exponent : Type 0 where
  pub capital : Bool
  pub sign : Sign
  pub digits : List ℕ

-- `-` or nothing, digits, and then a fraction and an exponent, where there are any
pub record Number : Type 0 where
  pub negative : Bool
  pub whole : List ℕ
  pub fraction : Option (List ℕ)
  pub exponent : Option Exponent

abbrev pub fraction_bytes : Option (List ℕ) → List ℕ
fraction_bytes None = []
fraction_bytes (Some digits) = ascii.dot ∷ digits

abbrev pub exponent_bytes : Option Exponent → List ℕ
exponent_bytes None = []
exponent_bytes (Some e) = (if e.capital then ascii.capital_e else ascii.small_e)
    ∷ (sign_bytes e.sign ++ e.digits)

abbrev pub number_bytes : Number → List ℕ
number_bytes n = sign_bytes (if n.negative then minus else no_sign)
    ++ (n.whole ++ (fraction_bytes n.fraction ++ exponent_bytes n.exponent))

abbrev pub is_digit : ℕ → Bool
is_digit b = nat_le ascii.digit_zero b && nat_le b ascii.digit_nine

-- one digit at least
abbrev pub are_digits : List ℕ → Bool
are_digits [] = false
are_digits (d ∷ ds) = is_digit d && list_all is_digit ds

-- one digit, or more of which the first isn't 0
abbrev pub is_whole : List ℕ → Bool
is_whole [] = false
is_whole (d ∷ []) = is_digit d
is_whole (d ∷ e ∷ ds) = (is_digit d && not (d == ascii.digit_zero)) && list_all is_digit (e ∷ ds)

abbrev pub IsFraction : Option (List ℕ) → Type 0
IsFraction None = Unit {0}
IsFraction (Some digits) = are_digits digits ≡ true

abbrev pub IsExponent : Option Exponent → Type 0
IsExponent None = Unit {0}
IsExponent (Some e) = are_digits e.digits ≡ true

abbrev pub IsNumber : Number → Type 0
IsNumber n = (is_whole n.whole ≡ true) × IsFraction n.fraction × IsExponent n.exponent

-- ---- strings

-- what is after a backslash for one character
pub data Short : Type 0 where
  quote : Short
  backslash : Short
  slash : Short
  backspace : Short
  form_feed : Short
  line_feed : Short
  carriage_return : Short
  tab : Short

-- `" \ / b f n r t`
abbrev pub short_byte : Short → ℕ
short_byte quote = ascii.quote
short_byte backslash = ascii.backslash
short_byte slash = ascii.slash
short_byte backspace = ascii.small_b
short_byte form_feed = ascii.small_f
short_byte line_feed = ascii.small_n
short_byte carriage_return = ascii.small_r
short_byte tab = ascii.small_t

abbrev pub short_means : Short → ℕ
short_means quote = ascii.quote
short_means backslash = ascii.backslash
short_means slash = ascii.slash
short_means backspace = ascii.backspace
short_means form_feed = ascii.form_feed
short_means line_feed = ascii.line_feed
short_means carriage_return = ascii.carriage_return
short_means tab = ascii.tab

-- a hexadecimal digit below 16, whose letter is a capital or not
pub record HexDigit : Type 0 where
  pub value : ℕ
  pub capital : Bool

abbrev pub hex_byte : HexDigit → ℕ
hex_byte d = if nat_lt d.value 10 then d.value + ascii.digit_zero
    else if d.capital then d.value + ascii.capital_digit else d.value + ascii.small_digit

-- A character of a string: as it is, after a backslash, or after `\u` by four digits.
pub data Letter : Type 0 where
  raw : ℕ → Letter
  short : Short → Letter
  coded : HexDigit → HexDigit → HexDigit → HexDigit → Letter

-- the number that four digits spell
abbrev pub code : HexDigit → HexDigit → HexDigit → HexDigit → ℕ
code a b c d = ((a.value * 16 + b.value) * 16 + c.value) * 16 + d.value

abbrev pub letter_bytes : Letter → List ℕ
letter_bytes (raw c) = encode_utf8 c
letter_bytes (short s) = ascii.backslash ∷ short_byte s ∷ []
letter_bytes (coded a b c d) =
    ascii.backslash ∷ ascii.small_u ∷ hex_byte a ∷ hex_byte b ∷ hex_byte c ∷ hex_byte d ∷ []

abbrev pub letters_bytes : List Letter → List ℕ
letters_bytes [] = []
letters_bytes (l ∷ ls) = letter_bytes l ++ letters_bytes ls

abbrev pub string_bytes : List Letter → List ℕ
string_bytes ls = ascii.quote ∷ (letters_bytes ls ++ ascii.quote ∷ [])

-- from U+0020 on, but `"` and the backslash
abbrev pub IsLetter : Letter → Type 0
IsLetter (raw c) =
    (scalar c && (nat_le ascii.space c && not (c == ascii.quote || c == ascii.backslash))) ≡ true
IsLetter (short s) = Unit {0}
IsLetter (coded a b c d) = (a.value < 16) × (b.value < 16) × (c.value < 16) × (d.value < 16)

abbrev pub AreLetters : List Letter → Type 0
AreLetters [] = Unit {0}
AreLetters (l ∷ ls) = IsLetter l × AreLetters ls

-- ---- values

mutual
  pub data Value : Type 0 where
    literal : Literal → Value
    number : Number → Value
    string : List Letter → Value
    -- brackets with white between, or with white and elements
    empty_array : List ℕ → Value
    array : List ℕ → Elements → Value
    empty_object : List ℕ → Value
    object : List ℕ → Members → Value

  -- one element or more
  pub data Elements : Type 0 where
    -- a value and white
    last_element : Value → List ℕ → Elements
    -- a value, white, a comma, white, and more
    element : Value → List ℕ → List ℕ → Elements → Elements

  -- one member or more: a key, white, a colon, white, a value and white
  pub data Members : Type 0 where
    last_member : List Letter → List ℕ → List ℕ → Value → List ℕ → Members
    -- and a comma, white, and more
    member : List Letter → List ℕ → List ℕ → Value → List ℕ → List ℕ → Members → Members

unfoldable mutual
  pub value_bytes : Value → List ℕ → List ℕ
  value_bytes (literal l) bs = literal_bytes l ++ bs
  value_bytes (number n) bs = number_bytes n ++ bs
  value_bytes (string ls) bs = string_bytes ls ++ bs
  value_bytes (empty_array w) bs = ascii.open_bracket ∷ (w ++ ascii.close_bracket ∷ bs)
  value_bytes (array w elements) bs =
      ascii.open_bracket ∷ (w ++ elements_bytes elements (ascii.close_bracket ∷ bs))
  value_bytes (empty_object w) bs = ascii.open_brace ∷ (w ++ ascii.close_brace ∷ bs)
  value_bytes (object w members) bs =
      ascii.open_brace ∷ (w ++ members_bytes members (ascii.close_brace ∷ bs))

  pub elements_bytes : Elements → List ℕ → List ℕ
  elements_bytes (last_element v a) bs = value_bytes v (a ++ bs)
  elements_bytes (element v a b elements) bs =
      value_bytes v (a ++ ascii.comma ∷ (b ++ elements_bytes elements bs))

  pub members_bytes : Members → List ℕ → List ℕ
  members_bytes (last_member k a b v c) bs =
      string_bytes k ++ (a ++ ascii.colon ∷ (b ++ value_bytes v (c ++ bs)))
  members_bytes (member k a b v c d members) bs =
      string_bytes k
      ++ (a
      ++ ascii.colon ∷ (b ++ value_bytes v (c ++ ascii.comma ∷ (d ++ members_bytes members bs))))

abbrev mutual
  pub IsValue : Value → Type 0
  IsValue (literal l) = Unit {0}
  IsValue (number n) = IsNumber n
  IsValue (string ls) = AreLetters ls
  IsValue (empty_array w) = are_white w ≡ true
  IsValue (array w elements) = (are_white w ≡ true) × AreElements elements
  IsValue (empty_object w) = are_white w ≡ true
  IsValue (object w members) = (are_white w ≡ true) × AreMembers members

  pub AreElements : Elements → Type 0
  AreElements (last_element v a) = IsValue v × (are_white a ≡ true)
  AreElements (element v a b elements) = IsValue v × (are_white a ≡ true) × (are_white b ≡ true)
      × AreElements elements

  pub AreMembers : Members → Type 0
  AreMembers (last_member k a b v c) = AreLetters k × (are_white a ≡ true) × (are_white b ≡ true)
      × IsValue v × (are_white c ≡ true)
  AreMembers (member k a b v c d members) = AreLetters k × (are_white a ≡ true)
      × (are_white b ≡ true) × IsValue v × (are_white c ≡ true) × (are_white d ≡ true)
      × AreMembers members

-- ---- texts

-- a value with white round it
pub record Text : Type 0 where
  pub front : List ℕ
  pub value : Value
  pub back : List ℕ

-- The bytes are a JSON text, which has these parts.
pub record IsJsonText (bytes : List ℕ) (t : Text) : Type 0 where
  pub spelled : bytes ≡ t.front ++ value_bytes t.value t.back
  pub front : are_white t.front ≡ true
  pub value : IsValue t.value
  pub back : are_white t.back ≡ true
