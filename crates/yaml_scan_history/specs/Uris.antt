-- The URIs of tags and prefixes, with their escapes.
use Rattle.std.specs.Prelude.{ℕ, zero, suc, ◌+◌, ◌-◌, ◌*◌, ◌<◌, ◌≤◌, ◌≡◌, Bool, true, false, ◌&&◌, ◌||◌, ◌==◌, nat_lt, nat_le, if◌then◌else◌, List, [], ◌∷◌, ◌++◌, length, Option, Some, None, Result, Ok, Err}
use Rattle.yaml_scan_model.specs.scan_types.Ascii as ascii
use Rattle.yaml_scan_model.specs.declared.problem.Context.{Context}
use Rattle.yaml_scan_model.specs.declared.problem.Problem.{Problem}
use Rattle.yaml_scan_model.specs.declared.problem.Problem.TheVariants as problems
use Rattle.yaml_scan_model.specs.scan_types.Marks.{byte}
use Rattle.yaml_scan_model.specs.scan_types.Classes.{is_alpha}
use Rattle.yaml_scan_model.specs.Wrong.{Wrong}

-- one of `; / ? : @ & = + $ . ! ~ * ' ( )`
unfoldable pub is_punctuation : ℕ → Bool
is_punctuation b =
    (b == ascii.semicolon || (b == ascii.slash || (b == ascii.question
    || (b == ascii.colon || (b == ascii.at
    || (b == ascii.ampersand || (b == ascii.equals || b == ascii.plus)))))))
    || (b == ascii.dollar || (b == ascii.dot || (b == ascii.exclamation
    || (b == ascii.tilde || (b == ascii.asterisk
    || (b == ascii.apostrophe || (b == ascii.open_paren || b == ascii.close_paren)))))))

-- one of `, [ ]`
unfoldable pub is_wide_punctuation : ℕ → Bool
is_wide_punctuation b = b == ascii.comma || (b == ascii.open_bracket || b == ascii.close_bracket)

-- a character is there that a URI holds as it is
abbrev pub is_uri : Bool → List ℕ → ℕ → Bool
is_uri wide text p = is_alpha text p
    || (is_punctuation (byte text p) || (wide && is_wide_punctuation (byte text p)))

-- characters that a URI holds as they are, from one place to another, and none after
pub record IsKept (wide : Bool) (text : List ℕ) (p q : ℕ) : Type 0 where
  pub forward : p ≤ q
  pub kept : (k : ℕ) → p ≤ k → k < q → is_uri wide text k ≡ true
  pub stop : is_uri wide text q ≡ false

-- the value of a hexadecimal digit
unfoldable pub hex_digit : ℕ → Option ℕ
hex_digit b =
    if nat_le ascii.digit_zero b && nat_le b ascii.digit_nine then Some (b - ascii.digit_zero)
    else if nat_le ascii.capital_a b && nat_le b ascii.capital_f then Some (b - ascii.capital_digit)
    else if nat_le ascii.small_a b && nat_le b ascii.small_f then Some (b - ascii.small_digit)
    else None

abbrev pub octet_of : Option ℕ → Option ℕ → Option ℕ
octet_of (Some high) (Some low) = Some (high * 16 + low)
octet_of (Some high) None = None
octet_of None (Some low) = None
octet_of None None = None

-- the octet that the two digits after the `%` there spell
unfoldable pub octet_at : List ℕ → ℕ → Option ℕ
octet_at text p = octet_of (hex_digit (byte text (p + 1))) (hex_digit (byte text (p + 2)))

-- How many escapes are due after an octet, where that many are due with it: a leading octet needs its trailing ones.
-- What the octets spell together may be overlong, a surrogate or too large.
unfoldable pub due_behind : ℕ → ℕ → Result ℕ Problem
due_behind b due =
    if nat_lt 0 due then (if nat_le 0x80 b && nat_le b 0xBF then Ok (due - 1)
    else Err problems.WrongTrailingOctet)
    else if nat_le b 0x7F then Ok 0
    else if nat_le 0xC0 b && nat_le b 0xDF then Ok 1
    else if nat_le 0xE0 b && nat_le b 0xEF then Ok 2
    else if nat_le 0xF0 b && nat_le b 0xF7 then Ok 3
    else Err problems.WrongLeadingOctet

-- What is at a place of a URI: a byte, how many escapes are due after it, and the place after it; or the URI's end; or a
-- problem and its place.
pub data UriSpot : Type 0 where
  Spells : ℕ → ℕ → ℕ → UriSpot
  Ends : ℕ → UriSpot
  Faulty : Problem → ℕ → UriSpot

abbrev pub escape_spot : ℕ → ℕ → Result ℕ Problem → UriSpot
escape_spot b p (Ok due) = Spells b due (p + 3)
escape_spot b p (Err problem) = Faulty problem p

abbrev pub octet_spot : ℕ → ℕ → Option ℕ → UriSpot
octet_spot due p (Some b) = escape_spot b p (due_behind b due)
octet_spot due p None = Faulty problems.NoEscapedOctet p

-- what is there, where that many escapes are due
unfoldable pub spot_at : Bool → ℕ → List ℕ → ℕ → UriSpot
spot_at wide due text p =
    if byte text p == ascii.percent then octet_spot due p (octet_at text p)
    else if nat_lt 0 due then Faulty problems.NoEscapedOctet p
    else if is_uri wide text p then Spells (byte text p) 0 (p + 1)
    else Ends p

-- these bytes before what follows
abbrev pub with_bytes : List ℕ → Result (List ℕ × ℕ) Wrong → Result (List ℕ × ℕ) Wrong
with_bytes bytes (Ok u) = Ok (bytes ++ u.0, u.1)
with_bytes bytes (Err w) = Err w

-- a URI from a spot on, where `more` is its rest
abbrev pub uri_from : (ℕ → ℕ → Result (List ℕ × ℕ) Wrong) → Context → UriSpot
    → Result (List ℕ × ℕ) Wrong
uri_from more context (Spells b due q) = with_bytes (b ∷ []) (more due q)
uri_from more context (Ends q) = Ok ([], q)
uri_from more context (Faulty problem q) = Err record {
  problem = problem;
  context = context;
  place = q;
}

-- the bytes of the URI there, of at most n spots, where that many escapes are due, and the place after it
unfoldable pub uri_within : ℕ → Context → Bool → ℕ → List ℕ → ℕ → Result (List ℕ × ℕ) Wrong
uri_within zero context wide due text p = Ok ([], p)
uri_within (suc n) context wide due text p = uri_from (λ next q. uri_within n context wide next text
    q) context (spot_at wide due text p)

-- the bytes that the URI spells which is there, none where no URI does, and the place after it, or what is wrong
abbrev pub uri_at : Context → Bool → List ℕ → ℕ → Result (List ℕ × ℕ) Wrong
uri_at context wide text p = uri_within (suc (length text)) context wide 0 text p

-- a URI that has a byte at least
abbrev pub filled : Context → Result (List ℕ × ℕ) Wrong → Result (List ℕ × ℕ) Wrong
filled context (Ok u) = if length u.0 == 0
    then Err record { problem = problems.NoTagUri; context = context; place = u.1 } else Ok u
filled context (Err w) = Err w

abbrev pub some_uri_at : Context → Bool → List ℕ → ℕ → Result (List ℕ × ℕ) Wrong
some_uri_at context wide text p = filled context (uri_at context wide text p)

-- the place after bytes that were read
abbrev pub behind_bytes : List ℕ × ℕ → ℕ
behind_bytes x = x.1
