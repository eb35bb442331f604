-- What is wrong with a text, rule by rule: what is there, and what the fault says, in its own words.
use Rattle.std.specs.Prelude.{◌≡◌, ◌≢◌, ◌<◌, ◌≤◌, ◌⊎◌, ◌&&◌, ◌||◌, ◌==◌, ℕ, suc, ◌+◌, ◌-◌, Bool, true, false, List, [], length, Option, Some, None, Result, Ok, Err, codes}
use Rattle.yaml_scan_model.specs.scan_types.Ascii as ascii
use Rattle.yaml_scan_model.specs.declared.record.yaml_mark_t.{yaml_mark_t}
use Rattle.yaml_scan_model.specs.declared.problem.ScanFault.{ScanFault}
use Rattle.yaml_scan_model.specs.declared.problem.Context.TheVariants as contexts
use Rattle.yaml_scan_model.specs.Problems.{problem_text_of, context_text_of}
use Rattle.yaml_scan_model.specs.scan_types.Marks.{byte, break_width, column_at, is_blank_or_end}
use Rattle.yaml_scan_model.specs.Breaks.{is_document_indicator}
use Rattle.yaml_scan_model.specs.scan_types.Classes.{is_alpha, is_digit, is_blank}
use Rattle.yaml_scan_model.specs.Runs.{is_text, past_spaces}
use Rattle.yaml_scan_model.specs.Wrong.{Wrong}
use Rattle.yaml_scan_history.specs.UnboundedBlocks.{EndsBlockRun, IsTabbed}
use Rattle.yaml_scan_history.specs.Anchors.{may_end_name}
use Rattle.yaml_scan_history.specs.Uris.{UriSpot, Spells, Ends, Faulty, octet_at, spot_at, uri_at, some_uri_at}
use Rattle.yaml_scan_history.specs.Tags.{TagText, parts_at, may_end_tag}
use Rattle.yaml_scan_history.specs.Directives.{is_yaml, is_tag, value_at, ValueText, handle_at, comment_end, most_digits}
use Rattle.yaml_scan_history.specs.Quoted.{QuotedSpot, Bad, standing_at, hex_len, hex_value, is_scalar, simple_escape}
use Rattle.yaml_scan_history.specs.Quoted as quoted
use Rattle.yaml_scan_history.specs.Plain as plain
use Rattle.yaml_scan_history.specs.Header.{digit_place, header_end, header_at}
use Rattle.yaml_scan_history.specs.Lines.{Tab, line_spot, lines_from}
use Rattle.yaml_scan_history.specs.declared.kind.Kind.TheVariants as kinds
use Rattle.yaml_scan_history.specs.Words.{lexeme_at}
use Rattle.yaml_scan_history.specs.Next.{colon_missing, no_start, not_allowed_there}

-- what is wrong says that problem, in that context, at that place
pub record TellsAll (w : Wrong) (doing what : List ℕ) (q : ℕ) : Type 0 where
  pub context : context_text_of w.context ≡ Some doing
  pub problem : problem_text_of w.problem ≡ what
  pub place : w.place ≡ q

abbrev pub IsTold : {A : Type 0} → Result A Wrong → List ℕ → List ℕ → ℕ → Type 0
IsTold (Ok a) context problem q = ⊥
IsTold (Err w) context problem q = TellsAll w context problem q

-- ---- names

-- After `&` or `*` there is no character of a name up to q, or what is there can't end one.
abbrev pub NoName : List ℕ → ℕ → ℕ → Type 0
NoName text p q = EndsBlockRun is_alpha text (p + 1) q
    × ((q ≡ p + 1) ⊎ (may_end_name text q ≡ false))

pub record NamesAreTold : Type 0 where
  pub anchor : (flow : Bool) (level : ℕ) (text : List ℕ) (p q : ℕ) → NoName text p q
      → IsTold (lexeme_at kinds.Anchor flow level text p) (codes "while scanning an anchor")
      (codes "did not find expected alphabetic or numeric character") q
  pub alias : (flow : Bool) (level : ℕ) (text : List ℕ) (p q : ℕ) → NoName text p q
      → IsTold (lexeme_at kinds.Alias flow level text p) (codes "while scanning an alias")
      (codes "did not find expected alphabetic or numeric character") q

-- ---- tags

abbrev pub IsSpotTold : UriSpot → List ℕ → ℕ → Type 0
IsSpotTold (Spells b due q) problem p = ⊥
IsSpotTold (Ends q) problem p = ⊥
IsSpotTold (Faulty x q) problem p = (problem_text_of x ≡ problem) × (q ≡ p)

pub record TagsAreTold : Type 0 where
  -- `!<` and a URI, and no `>`
  pub bracket : (flow : Bool) (level : ℕ) (text : List ℕ) (p : ℕ) (u : List ℕ × ℕ)
      → byte text (p + 1) ≡ ascii.less → some_uri_at contexts.TagUri true text (p + 2) ≡ Ok u
      → byte text u.1 ≢ ascii.greater
      → IsTold (lexeme_at kinds.Tag flow level text p) (codes "while scanning a tag")
      (codes "did not find the expected '>'") u.1
  -- `!<` and no URI
  pub empty : (flow : Bool) (level : ℕ) (text : List ℕ) (p q : ℕ) → byte text (p + 1) ≡ ascii.less
      → uri_at contexts.TagUri true text (p + 2) ≡ Ok ([], q)
      → IsTold (lexeme_at kinds.Tag flow level text p) (codes "while parsing a tag")
      (codes "did not find expected tag URI") q
  -- a tag, and what can't follow it
  pub end : (flow : Bool) (level : ℕ) (text : List ℕ) (p : ℕ) (t : TagText)
      → parts_at text p ≡ Ok t → may_end_tag flow text t.end ≡ false
      → IsTold (lexeme_at kinds.Tag flow level text p) (codes "while scanning a tag")
      (codes "did not find expected whitespace or line break") t.end
  -- a `%` that no two hexadecimal digits follow; another character where an escape is due
  pub escape : (wide : Bool) (due : ℕ) (text : List ℕ) (p : ℕ) → byte text p ≡ ascii.percent
      → octet_at text p ≡ None
      → IsSpotTold (spot_at wide due text p) (codes "did not find URI escaped octet") p
  pub no_escape : (wide : Bool) (due : ℕ) (text : List ℕ) (p : ℕ) → byte text p ≢ ascii.percent
      → 0 < due
      → IsSpotTold (spot_at wide due text p) (codes "did not find URI escaped octet") p
  -- an octet that begins no character, and one that doesn't go on with it
  pub leading : (wide : Bool) (text : List ℕ) (p b : ℕ) → byte text p ≡ ascii.percent
      → octet_at text p ≡ Some b → ((0x80 ≤ b) × (b < 0xC0)) ⊎ (0xF8 ≤ b)
      → IsSpotTold (spot_at wide 0 text p) (codes "found an incorrect leading UTF-8 octet") p
  pub trailing : (wide : Bool) (due : ℕ) (text : List ℕ) (p b : ℕ) → byte text p ≡ ascii.percent
      → octet_at text p ≡ Some b → 0 < due → (b < 0x80) ⊎ (0xC0 ≤ b)
      → IsSpotTold (spot_at wide due text p) (codes "found an incorrect trailing UTF-8 octet") p
  -- where such a URI is
  pub in_tag : context_text_of contexts.TagUri ≡ Some (codes "while parsing a tag")
  pub in_directive : context_text_of contexts.TagDirectiveUri
      ≡ Some (codes "while parsing a %TAG directive")

-- ---- directives

-- `%YAML` and blanks are there, and then something else
pub record IsYaml (text : List ℕ) (p r : ℕ) : Type 0 where
  pub letters : EndsBlockRun is_alpha text (p + 1) (p + 5)
  pub name : is_yaml text (p + 1) ≡ true
  pub ended : is_blank_or_end text (p + 5) ≡ true
  pub blanks : EndsBlockRun is_blank text (p + 5) r

-- `%TAG` and blanks
pub record IsTagDirective (text : List ℕ) (p r : ℕ) : Type 0 where
  pub letters : EndsBlockRun is_alpha text (p + 1) (p + 4)
  pub name : is_tag text (p + 1) ≡ true
  pub ended : is_blank_or_end text (p + 4) ≡ true
  pub blanks : EndsBlockRun is_blank text (p + 4) r

pub record DirectivesAreTold : Type 0 where
  -- after the `%` no letter, something else after letters, and letters that aren't YAML or TAG
  pub no_name : (flow : Bool) (level : ℕ) (text : List ℕ) (p : ℕ)
      → EndsBlockRun is_alpha text (p + 1) (p + 1)
      → IsTold (lexeme_at kinds.Directive flow level text p) (codes "while scanning a directive")
      (codes "could not find expected directive name") (p + 1)
  pub letters : (flow : Bool) (level : ℕ) (text : List ℕ) (p q : ℕ)
      → EndsBlockRun is_alpha text (p + 1) q → p + 1 < q → is_blank_or_end text q ≡ false
      → IsTold (lexeme_at kinds.Directive flow level text p) (codes "while scanning a directive")
      (codes "found unexpected non-alphabetical character") q
  pub unknown : (flow : Bool) (level : ℕ) (text : List ℕ) (p q : ℕ)
      → EndsBlockRun is_alpha text (p + 1) q → p + 1 < q → is_blank_or_end text q ≡ true
      → (is_yaml text (p + 1) && q - (p + 1) == 4) ≡ false
      → (is_tag text (p + 1) && q - (p + 1) == 3) ≡ false
      → IsTold (lexeme_at kinds.Directive flow level text p) (codes "while scanning a directive")
      (codes "found unknown directive name") q
  -- after `%YAML` no digit, more than nine of them, and no `.` after them
  pub no_number : (flow : Bool) (level : ℕ) (text : List ℕ) (p r : ℕ)
      → IsYaml text p r → EndsBlockRun is_digit text r r
      → IsTold (lexeme_at kinds.Directive flow level text p)
      (codes "while scanning a %YAML directive") (codes "did not find expected version number") r
  pub long_number : (flow : Bool) (level : ℕ) (text : List ℕ) (p r e : ℕ)
      → IsYaml text p r → EndsBlockRun is_digit text r e → r + most_digits < e
      → IsTold (lexeme_at kinds.Directive flow level text p)
      (codes "while scanning a %YAML directive") (codes "found extremely long version number")
      (r + most_digits)
  pub no_dot : (flow : Bool) (level : ℕ) (text : List ℕ) (p r e : ℕ)
      → IsYaml text p r → EndsBlockRun is_digit text r e → r < e → e ≤ r + most_digits
      → byte text e ≢ ascii.dot
      → IsTold (lexeme_at kinds.Directive flow level text p)
      (codes "while scanning a %YAML directive")
      (codes "did not find expected digit or '.' character") e
  -- after `%TAG` no `!`, and none after the letters of a handle
  pub no_handle : (flow : Bool) (level : ℕ) (text : List ℕ) (p r : ℕ)
      → IsTagDirective text p r → byte text r ≢ ascii.exclamation
      → IsTold (lexeme_at kinds.Directive flow level text p)
      (codes "while scanning a tag directive")
      (codes "did not find expected '!'") r
  pub open_handle : (flow : Bool) (level : ℕ) (text : List ℕ) (p r e : ℕ)
      → IsTagDirective text p r → byte text r ≡ ascii.exclamation
      → EndsBlockRun is_alpha text (r + 1) e
      → r + 1 < e → byte text e ≢ ascii.exclamation
      → IsTold (lexeme_at kinds.Directive flow level text p) (codes "while parsing a tag directive")
      (codes "did not find expected '!'") e
  -- after the handle no blank, and something else after the prefix
  pub no_white : (flow : Bool) (level : ℕ) (text : List ℕ) (p r : ℕ) (h : List ℕ × ℕ)
      → IsTagDirective text p r → handle_at text r ≡ Ok h
      → is_blank text h.1 ≡ false
      → IsTold (lexeme_at kinds.Directive flow level text p)
      (codes "while scanning a %TAG directive")
      (codes "did not find expected whitespace") h.1
  pub behind_prefix : (flow : Bool) (level : ℕ) (text : List ℕ) (p r f : ℕ) (h u : List ℕ × ℕ)
      → IsTagDirective text p r → handle_at text r ≡ Ok h
      → is_blank text h.1 ≡ true → EndsBlockRun is_blank text h.1 f
      → some_uri_at contexts.TagDirectiveUri true text f ≡ Ok u → is_blank_or_end text u.1 ≡ false
      → IsTold (lexeme_at kinds.Directive flow level text p)
      (codes "while scanning a %TAG directive")
      (codes "did not find expected whitespace or line break") u.1
  -- after the value something else than a comment
  pub line : (flow : Bool) (level : ℕ) (text : List ℕ) (p r : ℕ) (v : ValueText)
      → value_at text p ≡ Ok v → EndsBlockRun is_blank text v.end r
      → break_width text (comment_end text r) ≡ 0 → byte text (comment_end text r) ≢ 0
      → IsTold (lexeme_at kinds.Directive flow level text p) (codes "while scanning a directive")
      (codes "did not find expected comment or line break") (comment_end text r)

-- ---- quotes

abbrev pub IsStandingTold : QuotedSpot → List ℕ → List ℕ → ℕ → Type 0
IsStandingTold (Bad w) context problem q = TellsAll w context problem q
IsStandingTold quoted.Closing context problem q = ⊥
IsStandingTold (quoted.Pieces ps r) context problem q = ⊥

-- inside of double quotes a `\` is there, at no document's mark
pub record IsEscape (text : List ℕ) (p : ℕ) : Type 0 where
  pub mark : is_document_indicator text p ≡ false
  pub backslash : byte text p ≡ ascii.backslash
  pub width : break_width text p ≡ 0
  pub no_break : break_width text (p + 1) ≡ 0

pub record QuotesAreTold : Type 0 where
  pub indicator : (quote : ℕ) (text : List ℕ) (p : ℕ) → is_document_indicator text p ≡ true
      → IsStandingTold (standing_at quote text p) (codes "while scanning a quoted scalar")
      (codes "found unexpected document indicator") p
  pub end : (quote : ℕ) (text : List ℕ) (p : ℕ) → is_document_indicator text p ≡ false
      → byte text p ≡ 0
      → IsStandingTold (standing_at quote text p) (codes "while scanning a quoted scalar")
      (codes "found unexpected end of stream") p
  -- after the `\` a letter that means nothing, fewer digits than it needs, or the code of no character
  pub letter : (text : List ℕ) (p : ℕ) → IsEscape text p → hex_len (byte text (p + 1)) ≡ 0
      → simple_escape (byte text (p + 1)) ≡ None
      → IsStandingTold (standing_at ascii.quote text p) (codes "while parsing a quoted scalar")
      (codes "found unknown escape character") p
  pub digits : (text : List ℕ) (p : ℕ) → IsEscape text p → 0 < hex_len (byte text (p + 1))
      → hex_value text (p + 2) (hex_len (byte text (p + 1))) ≡ None
      → IsStandingTold (standing_at ascii.quote text p) (codes "while parsing a quoted scalar")
      (codes "did not find expected hexdecimal number") (p + 2)
  pub code : (text : List ℕ) (p c : ℕ) → IsEscape text p → 0 < hex_len (byte text (p + 1))
      → hex_value text (p + 2) (hex_len (byte text (p + 1))) ≡ Some c → is_scalar c ≡ false
      → IsStandingTold (standing_at ascii.quote text p) (codes "while parsing a quoted scalar")
      (codes "found invalid Unicode character escape code") (p + 2)

-- ---- plain scalars

abbrev pub IsPlainTold : plain.PlainSpot → List ℕ → List ℕ → ℕ → Type 0
IsPlainTold (plain.Faulty w) context problem q = TellsAll w context problem q
IsPlainTold plain.Ends context problem q = ⊥
IsPlainTold (plain.Takes x r) context problem q = ⊥

pub record PlainsAreTold : Type 0 where
  -- a tab in the indentation of a line of the scalar
  pub tab : (flow : Bool) (level : ℕ) (text : List ℕ) (p : ℕ) → byte text p ≡ ascii.tab
      → break_width text p ≡ 0 → plain.leads text p ≡ true → column_at text p < level
      → IsPlainTold (plain.spot_at flow level text p) (codes "while scanning a plain scalar")
      (codes "found a tab character that violates indentation") p
  -- in brackets a `:` before one of `, [ ] { } ?`, where the scalar doesn't end
  pub colon : (level : ℕ) (text : List ℕ) (p : ℕ) → byte text p ≡ ascii.colon
      → break_width text p ≡ 0
      → plain.ends_at true level text p ≡ false
      → (plain.is_bracket (byte text (p + 1)) || byte text (p + 1) == ascii.question) ≡ true
      → IsPlainTold (plain.spot_at true level text p) (codes "while scanning a plain scalar")
      (codes "found unexpected ':'") p

-- ---- block scalars

pub record BlocksAreTold : Type 0 where
  -- a `0` where the header has its digit
  pub zero_digit : (text : List ℕ) (p : ℕ) → byte text (digit_place text p) ≡ ascii.digit_zero
      → IsTold (header_at text p) (codes "while scanning a block scalar")
      (codes "found an indentation indicator equal to 0") (digit_place text p)
  -- something else than a comment after it
  pub comment : (text : List ℕ) (p : ℕ) → byte text (digit_place text p) ≢ ascii.digit_zero
      → is_text text (header_end text p) ≡ true
      → IsTold (header_at text p) (codes "while scanning a block scalar")
      (codes "did not find expected comment or line break") (header_end text p)
  -- a tab after the spaces of the lines by which the column is found, or before that column
  pub tab : (text : List ℕ) (p : ℕ) (w : Wrong) (t : IsTabbed text p w)
      → TellsAll w (codes "while scanning a block scalar")
      (codes "found a tab character where an indentation space is expected")
      (past_spaces text t.line)
  pub line : (c : ℕ) (text : List ℕ) (end p q : ℕ) → line_spot c text p ≡ Tab q
      → IsTold (lines_from (suc (length text)) c text end p) (codes "while scanning a block scalar")
      (codes "found a tab character where an indentation space is expected") q

-- ---- between lexemes

-- a fault says that problem, in a context or none, and both places
pub record TellsByRule (f : ScanFault) (doing : Option (List ℕ)) (what : List ℕ)
    (from to : yaml_mark_t) : Type 0 where
  pub context : context_text_of f.context ≡ doing
  pub problem : problem_text_of f.problem ≡ what
  pub context_mark : f.context_mark ≡ from
  pub problem_mark : f.problem_mark ≡ to

pub record PlacesAreTold : Type 0 where
  -- no lexeme can start there
  pub start : (m : yaml_mark_t) → TellsByRule (no_start m)
      (Some (codes "while scanning for the next token"))
      (codes "found character that cannot start any token") m m
  -- a key that has to come to its `:`
  pub key : (start place : yaml_mark_t) → TellsByRule (colon_missing start place)
      (Some (codes "while scanning a simple key")) (codes "could not find expected ':'") start place
  -- `-`, `?` and `:` where no key may begin
  pub entry : (m : yaml_mark_t) → TellsByRule (not_allowed_there kinds.BlockEntry m) None
      (codes "block sequence entries are not allowed in this context") m m
  pub question : (m : yaml_mark_t) → TellsByRule (not_allowed_there kinds.KeyMark m) None
      (codes "mapping keys are not allowed in this context") m m
  pub colon : (m : yaml_mark_t) → TellsByRule (not_allowed_there kinds.ValueMark m) None
      (codes "mapping values are not allowed in this context") m m
