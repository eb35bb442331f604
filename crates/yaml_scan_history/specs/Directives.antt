-- Directives.
use Rattle.std.specs.Prelude.{ℕ, zero, suc, ◌+◌, ◌-◌, ◌*◌, Bool, true, not, ◌&&◌, ◌==◌, nat_lt, if◌then◌else◌, List, slice_range, Result, Ok, Err}
use Rattle.yaml_scan_model.specs.scan_types.Ascii as ascii
use Rattle.yaml_scan_history.specs.declared.run.Run.TheVariants as runs
use Rattle.yaml_scan_history.specs.declared.directives.DirectiveName.{DirectiveName}
use Rattle.yaml_scan_history.specs.declared.directives.DirectiveName.TheVariants as names
use Rattle.yaml_scan_model.specs.declared.problem.Context.TheVariants as contexts
use Rattle.yaml_scan_model.specs.declared.problem.Problem.{Problem}
use Rattle.yaml_scan_model.specs.declared.problem.Problem.TheVariants as problems
use Rattle.yaml_scan_model.specs.scan_types.Marks.{byte, break_width, is_blank_or_end}
use Rattle.yaml_scan_model.specs.Runs.{line_end}
use Rattle.yaml_scan_model.specs.Wrong.{Wrong}
use Rattle.yaml_scan_history.specs.Runs.{belongs, run_end}
use Rattle.yaml_scan_history.specs.Uris.{some_uri_at}

-- what a directive says
pub data Said : Type 0 where
  version : ℕ → ℕ → Said
  tag : List ℕ → List ℕ → Said

-- what a directive says, and the place after its value
pub record ValueText : Type 0 where
  pub said : Said
  pub end : ℕ

-- what a directive says, the place after its value, and the place after its line
pub record DirectiveText : Type 0 where
  pub said : Said
  pub end : ℕ
  pub place : ℕ

abbrev pub value_end : ValueText → ℕ
value_end v = v.end

abbrev pub name_behind : DirectiveName × ℕ → ℕ
name_behind x = x.1

abbrev pub number_behind : ℕ × ℕ → ℕ
number_behind x = x.1

abbrev pub line_place : ℕ → ℕ
line_place q = q

-- a value, and the place after it, handed to what follows there
abbrev pub then_at : {A B : Type 0} → (A → ℕ → Result B Wrong) → Result (A × ℕ) Wrong
    → Result B Wrong
then_at more (Ok x) = more x.0 x.1
then_at more (Err w) = Err w

abbrev pub is_yaml : List ℕ → ℕ → Bool
is_yaml text p = byte text p == ascii.capital_y && (byte text (p + 1) == ascii.capital_a
    && (byte text (p + 2) == ascii.capital_m && byte text (p + 3) == ascii.capital_l))

abbrev pub is_tag : List ℕ → ℕ → Bool
is_tag text p = byte text p == ascii.capital_t
    && (byte text (p + 1) == ascii.capital_a && byte text (p + 2) == ascii.capital_g)

-- the name from one place to another
abbrev pub name_between : List ℕ → ℕ → ℕ → Result (DirectiveName × ℕ) Wrong
name_between text p q =
    if p == q then Err record {
      problem = problems.NoDirectiveName;
      context = contexts.Directive;
      place = q;
    }
    else if not (is_blank_or_end text q)
    then Err record {
      problem = problems.NotAlphabetical;
      context = contexts.Directive;
      place = q;
    }
    else if is_yaml text p && q - p == 4 then Ok (names.Yaml, q)
    else if is_tag text p && q - p == 3 then Ok (names.Tag, q)
    else Err record { problem = problems.UnknownDirective; context = contexts.Directive; place = q }

-- the name after the `%` there
abbrev pub name_at : List ℕ → ℕ → Result (DirectiveName × ℕ) Wrong
name_at text p = name_between text (p + 1) (run_end runs.Alphas text (p + 1))

-- the number that n digits there spell
unfoldable pub decimal : List ℕ → ℕ → ℕ → ℕ
decimal text p zero = 0
decimal text p (suc n) = decimal text p n * 10 + (byte text (p + n) - ascii.digit_zero)

-- how many digits a version's number has at most
abbrev pub most_digits : ℕ
most_digits = 9

-- the number from one place to another
abbrev pub number_between : List ℕ → ℕ → ℕ → Result (ℕ × ℕ) Wrong
number_between text p q =
    if q == p then Err record {
      problem = problems.NoVersionNumber;
      context = contexts.VersionDirective;
      place = q;
    }
    else if nat_lt (p + most_digits) q then Err record {
      problem = problems.LongVersionNumber;
      context = contexts.VersionDirective;
      place = p + most_digits;
    }
    else Ok (decimal text p (q - p), q)

-- the number there, of one to nine digits
abbrev pub number_at : List ℕ → ℕ → Result (ℕ × ℕ) Wrong
number_at text p = number_between text p (run_end runs.Digits text p)

abbrev pub with_major : ℕ → Result (ℕ × ℕ) Wrong → Result ValueText Wrong
with_major major (Ok x) = Ok record { said = version major x.0; end = x.1 }
with_major major (Err w) = Err w

-- `.` and a number after a major number
abbrev pub minor_at : List ℕ → ℕ → ℕ → Result ValueText Wrong
minor_at text major q =
    if byte text q == ascii.dot then with_major major (number_at text (q + 1))
    else Err record {
      problem = problems.NoDigitOrDot;
      context = contexts.VersionDirective;
      place = q;
    }

-- blanks and a version
abbrev pub version_at : List ℕ → ℕ → Result ValueText Wrong
version_at text p = then_at (minor_at text) (number_at text (run_end runs.Blanks text p))

-- the handle from `!` to the place after its alphas
abbrev pub handle_between : List ℕ → ℕ → ℕ → Result (List ℕ × ℕ) Wrong
handle_between text p q =
    if byte text q == ascii.exclamation then Ok (slice_range text p (q + 1), q + 1)
    else if q == p + 1 then Ok (slice_range text p q, q)
    else Err record {
      problem = problems.NoExclamationMark;
      context = contexts.TagDirectiveHandle;
      place = q;
    }

-- `!` or `!alphas!`
abbrev pub handle_at : List ℕ → ℕ → Result (List ℕ × ℕ) Wrong
handle_at text p =
    if byte text p == ascii.exclamation
    then handle_between text p (run_end runs.Alphas text (p + 1))
    else Err record {
      problem = problems.NoExclamationMark;
      context = contexts.TagDirectiveStart;
      place = p;
    }

-- a prefix before a blank, a break or the end
abbrev pub prefix_ended : List ℕ → Result (List ℕ × ℕ) Wrong → Result (List ℕ × ℕ) Wrong
prefix_ended text (Ok x) =
    if is_blank_or_end text x.1 then Ok x
    else Err record {
      problem = problems.NoWhitespaceOrBreak;
      context = contexts.TagDirective;
      place = x.1;
    }
prefix_ended text (Err w) = Err w

-- blanks, one at least, and a prefix
abbrev pub prefix_at : List ℕ → ℕ → Result (List ℕ × ℕ) Wrong
prefix_at text p =
    if belongs runs.Blanks text p then prefix_ended text (some_uri_at contexts.TagDirectiveUri true
    text (run_end runs.Blanks text p))
    else Err record { problem = problems.NoWhitespace; context = contexts.TagDirective; place = p }

abbrev pub with_prefix : List ℕ → Result (List ℕ × ℕ) Wrong → Result ValueText Wrong
with_prefix handle (Ok x) = Ok record { said = tag handle x.0; end = x.1 }
with_prefix handle (Err w) = Err w

-- blanks, a handle, blanks and a prefix
abbrev pub tag_directive_at : List ℕ → ℕ → Result ValueText Wrong
tag_directive_at text p = then_at (λ handle q. with_prefix handle (prefix_at text q))
    (handle_at text (run_end runs.Blanks text p))

-- what follows the name
abbrev pub named_value_at : List ℕ → DirectiveName → ℕ → Result ValueText Wrong
named_value_at text names.Yaml q = version_at text q
named_value_at text names.Tag q = tag_directive_at text q

-- the directive whose `%` is there, up to the end of its value
abbrev pub value_at : List ℕ → ℕ → Result ValueText Wrong
value_at text p = then_at (named_value_at text) (name_at text p)

-- the place after the comment there, if one starts there
abbrev pub comment_end : List ℕ → ℕ → ℕ
comment_end text p = if byte text p == ascii.hash then line_end text p else p

-- the place after the break there, or at the end
abbrev pub break_end : List ℕ → ℕ → Result ℕ Wrong
break_end text p =
    if nat_lt 0 (break_width text p) then Ok (p + break_width text p)
    else if byte text p == 0 then Ok p
    else Err record { problem = problems.NoCommentOrBreak; context = contexts.Directive; place = p }

-- the place after blanks, a comment and a break, or at the end
abbrev pub line_end_at : List ℕ → ℕ → Result ℕ Wrong
line_end_at text p = break_end text (comment_end text (run_end runs.Blanks text p))

abbrev pub with_line : ValueText → Result ℕ Wrong → Result DirectiveText Wrong
with_line v (Ok q) = Ok record { said = v.said; end = v.end; place = q }
with_line v (Err w) = Err w

abbrev pub finished : List ℕ → Result ValueText Wrong → Result DirectiveText Wrong
finished text (Ok v) = with_line v (line_end_at text v.end)
finished text (Err w) = Err w

-- the directive whose `%` is there, with its line's end, or what is wrong
abbrev pub directive_at : List ℕ → ℕ → Result DirectiveText Wrong
directive_at text p = finished text (value_at text p)

-- the name that an answer says, up to that place
abbrev pub name_of : Result DirectiveName Problem → ℕ → Result (DirectiveName × ℕ) Wrong
name_of (Ok name) q = Ok (name, q)
name_of (Err problem) q = Err record {
  problem = problem;
  context = contexts.Directive;
  place = q;
}
