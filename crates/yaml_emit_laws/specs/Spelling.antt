-- How a value is spelled between quotes: characters as they are, escapes, and lines that are joined.
use Rattle.std.specs.Prelude.{◌≡◌, ◌<◌, ℕ, ◌*◌, ◌+◌, Bool, true, false, not, ◌&&◌, ◌||◌, ◌==◌, nat_lt, List, [], ◌∷◌, ◌++◌, length, replicate, Option, Some, option_and_then, encode_utf8}
use Rattle.yaml_scan_history.specs.scan_types.Ascii as ascii
use Rattle.yaml_scan_history.specs.scan_types.Points as points
use lib.Utf8.{scalar}
use Rattle.yaml_scan_history.specs.scan_types.Marks.{is_blank}
use Rattle.yaml_scan_history.specs.Pieces.{gap}
use Rattle.yaml_scan_history.specs.Quoted.{hex_digit, hex_len, simple_escape}

-- ---- ends of lines

-- What ends a line: LF, CR, CR LF, NEL, LS and PS.
pub data LineEnd : Type 0 where
  feed : LineEnd
  return : LineEnd
  return_feed : LineEnd
  next_line : LineEnd
  line_separator : LineEnd
  paragraph_separator : LineEnd

abbrev pub end_bytes : LineEnd → List ℕ
end_bytes feed = ascii.line_feed ∷ []
end_bytes return = ascii.carriage_return ∷ []
end_bytes return_feed = ascii.carriage_return ∷ ascii.line_feed ∷ []
end_bytes next_line = points.next_line_utf8
end_bytes line_separator = points.line_separator_utf8
end_bytes paragraph_separator = points.paragraph_separator_utf8

-- LS and PS are read as themselves, the others as a line feed
abbrev pub end_means : LineEnd → List ℕ
end_means feed = ascii.line_feed ∷ []
end_means return = ascii.line_feed ∷ []
end_means return_feed = ascii.line_feed ∷ []
end_means next_line = ascii.line_feed ∷ []
end_means line_separator = points.line_separator_utf8
end_means paragraph_separator = points.paragraph_separator_utf8

-- The end of a line, and how many spaces begin the next one.
pub record LineTurn : Type 0 where
  pub end : LineEnd
  pub spaces : ℕ

unfoldable pub turn_bytes : List LineTurn → List ℕ
turn_bytes [] = []
turn_bytes (t ∷ ts) = end_bytes t.end ++ (replicate t.spaces ascii.space ++ turn_bytes ts)

unfoldable pub turn_means : List LineTurn → List ℕ
turn_means [] = []
turn_means (t ∷ ts) = end_means t.end ++ turn_means ts

abbrev pub is_return : LineEnd → Bool
is_return return = true
is_return _ = false

abbrev pub is_feed_end : LineEnd → Bool
is_feed_end feed = true
is_feed_end _ = false

-- The last line has an indentation, so that no `---` is at its start; and CR with LF after it is one end, not two.
unfoldable pub may_turn : LineTurn → List LineTurn → Bool
may_turn t [] = nat_lt 0 t.spaces
may_turn t (u ∷ us) = not (is_return t.end && (t.spaces == 0 && is_feed_end u.end)) && may_turn u us

-- ---- parts

-- What a spelling is made of.
pub data QuotedPart : Type 0 where
  -- a character that spells itself
  raw : ℕ → QuotedPart
  -- two single quotes for one
  doubled : QuotedPart
  -- a backslash and a byte that names these bytes
  named : ℕ → List ℕ → QuotedPart
  -- a backslash, `x`, `u` or `U`, and hexadecimal digits that spell the number of a character
  numbered : ℕ → List ℕ → ℕ → QuotedPart
  -- the ends of one line and more
  fold : LineTurn → List LineTurn → QuotedPart
  -- such ends after a backslash
  joint : LineTurn → List LineTurn → QuotedPart

abbrev pub spelled : QuotedPart → List ℕ
spelled (raw c) = encode_utf8 c
spelled doubled = ascii.apostrophe ∷ ascii.apostrophe ∷ []
spelled (named b bytes) = ascii.backslash ∷ b ∷ []
spelled (numbered b digits c) = ascii.backslash ∷ b ∷ digits
spelled (fold t ts) = turn_bytes (t ∷ ts)
spelled (joint t ts) = ascii.backslash ∷ turn_bytes (t ∷ ts)

-- A lone line feed means a space, and one before other ends of lines nothing; after a backslash the first end means nothing.
abbrev pub meant : QuotedPart → List ℕ
meant (raw c) = encode_utf8 c
meant doubled = ascii.apostrophe ∷ []
meant (named b bytes) = bytes
meant (numbered b digits c) = encode_utf8 c
meant (fold t ts) = gap (end_means t.end) (turn_means ts)
meant (joint t ts) = turn_means ts

unfoldable pub spelling : List QuotedPart → List ℕ
spelling [] = []
spelling (p ∷ ps) = spelled p ++ spelling ps

unfoldable pub meaning : List QuotedPart → List ℕ
meaning [] = []
meaning (p ∷ ps) = meant p ++ meaning ps

-- the number that hexadecimal digits spell after others, or none
unfoldable pub number_behind : ℕ → List ℕ → Option ℕ
number_behind n [] = Some n
number_behind n (d ∷ ds) = option_and_then (λ low. number_behind (n * 16 + low) ds) (hex_digit d)

-- LF, CR, NEL, LS and PS
abbrev pub is_line_end : ℕ → Bool
is_line_end c = c == ascii.line_feed
    || (c == ascii.carriage_return || (c == points.next_line
    || (c == points.line_separator || c == points.paragraph_separator)))

-- Raw characters are no ends of lines, not the quote and not 0, which ends a stream; in double quotes no backslashes.
abbrev pub may_be_raw : ℕ → ℕ → Bool
may_be_raw quote c = scalar c && not (is_line_end c
    || (c == 0 || (c == quote || (quote == ascii.quote && c == ascii.backslash))))

abbrev pub MayStand : ℕ → QuotedPart → Type 0
MayStand quote (raw c) = may_be_raw quote c ≡ true
MayStand quote doubled = quote ≡ ascii.apostrophe
MayStand quote (named b bytes) = (quote ≡ ascii.quote) × (simple_escape b ≡ Some bytes)
MayStand quote (numbered b digits c) = (quote ≡ ascii.quote) × (0 < length digits)
    × (hex_len b ≡ length digits) × (number_behind 0 digits ≡ Some c) × (scalar c ≡ true)
MayStand quote (fold t ts) = may_turn t ts ≡ true
MayStand quote (joint t ts) = (quote ≡ ascii.quote) × (may_turn t ts ≡ true)

abbrev pub is_raw_blank : QuotedPart → Bool
is_raw_blank (raw c) = is_blank c
is_raw_blank _ = false

abbrev pub is_fold : QuotedPart → Bool
is_fold (fold t ts) = true
is_fold _ = false

abbrev pub is_turn : QuotedPart → Bool
is_turn (fold t ts) = true
is_turn (joint t ts) = true
is_turn _ = false

-- Raw blanks beside the end of a line are not kept, but before a backslash; and ends of lines are one part.
abbrev pub may_follow : QuotedPart → QuotedPart → Bool
may_follow p q = not (is_fold q && (is_raw_blank p || is_turn p))
    && not (is_raw_blank q && is_turn p)

abbrev pub may_be_next : QuotedPart → List QuotedPart → Bool
may_be_next p [] = true
may_be_next p (q ∷ qs) = may_follow p q

-- between quotes of that byte
unfoldable pub IsSpelling : ℕ → List QuotedPart → Type 0
IsSpelling quote [] = Unit {0}
IsSpelling quote (p ∷ ps) = MayStand quote p × (may_be_next p ps ≡ true) × IsSpelling quote ps

abbrev pub quoted : ℕ → List QuotedPart → List ℕ
quoted quote parts = quote ∷ (spelling parts ++ quote ∷ [])
