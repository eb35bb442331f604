-- Tags.
use Rattle.std.specs.Prelude.{ℕ, ◌+◌, Bool, true, false, ◌&&◌, ◌||◌, ◌==◌, if◌then◌else◌, List, [], ◌∷◌, length, slice_range, Result, Ok, Err}
use Rattle.yaml_scan_model.specs.scan_types.Ascii as ascii
use Rattle.yaml_scan_history.specs.declared.run.Run.TheVariants as runs
use Rattle.yaml_scan_model.specs.declared.problem.Context.TheVariants as contexts
use Rattle.yaml_scan_model.specs.declared.problem.Problem.TheVariants as problems
use Rattle.yaml_scan_model.specs.scan_types.Marks.{byte, is_blank_or_end}
use Rattle.yaml_scan_model.specs.Wrong.{Wrong}
use Rattle.yaml_scan_history.specs.Runs.{run_end}
use Rattle.yaml_scan_history.specs.Uris.{uri_at, some_uri_at}

-- a tag, and the place after it
pub record TagText : Type 0 where
  pub handle : List ℕ
  pub suffix : List ℕ
  pub end : ℕ

abbrev pub tag_end : TagText → ℕ
tag_end t = t.end

-- `>` after the URI of a verbatim tag, which has no handle
abbrev pub bracketed : List ℕ → Result (List ℕ × ℕ) Wrong → Result TagText Wrong
bracketed text (Ok u) =
    if byte text u.1 == ascii.greater then Ok record { handle = []; suffix = u.0; end = u.1 + 1 }
    else Err record { problem = problems.NoClosingBracket; context = contexts.Tag; place = u.1 }
bracketed text (Err w) = Err w

-- `!<uri>`
abbrev pub verbatim_at : List ℕ → ℕ → Result TagText Wrong
verbatim_at text p = bracketed text (some_uri_at contexts.TagUri true text (p + 2))

-- the place after the alphas that follow the `!` there
abbrev pub name_end : List ℕ → ℕ → ℕ
name_end text p = run_end runs.Alphas text (p + 1)

abbrev pub with_handle : List ℕ → Result (List ℕ × ℕ) Wrong → Result TagText Wrong
with_handle handle (Ok u) = Ok record { handle = handle; suffix = u.0; end = u.1 }
with_handle handle (Err w) = Err w

-- `!alphas!uri`, where the alphas may be none
abbrev pub named_at : List ℕ → ℕ → Result TagText Wrong
named_at text p = with_handle (slice_range text p (name_end text p + 1))
    (some_uri_at contexts.TagUri false text (name_end text p + 1))

-- the handle `!` before a URI; `!` alone is a suffix
abbrev pub bare : Result (List ℕ × ℕ) Wrong → Result TagText Wrong
bare (Ok u) =
    if length u.0 == 0 then Ok record { handle = []; suffix = ascii.exclamation ∷ []; end = u.1 }
    else Ok record { handle = ascii.exclamation ∷ []; suffix = u.0; end = u.1 }
bare (Err w) = Err w

-- `!uri` or `!`
abbrev pub bare_at : List ℕ → ℕ → Result TagText Wrong
bare_at text p = bare (uri_at contexts.TagUri false text (p + 1))

-- the tag whose `!` is there, whatever follows it
unfoldable pub parts_at : List ℕ → ℕ → Result TagText Wrong
parts_at text p =
    if byte text (p + 1) == ascii.less then verbatim_at text p
    else if byte text (name_end text p) == ascii.exclamation then named_at text p
    else bare_at text p

-- a blank, a break or the end is there, or in flow context `,`
abbrev pub may_end_tag : Bool → List ℕ → ℕ → Bool
may_end_tag flow text p = is_blank_or_end text p || (flow && byte text p == ascii.comma)

abbrev pub ended : Bool → List ℕ → Result TagText Wrong → Result TagText Wrong
ended flow text (Ok t) =
    if may_end_tag flow text t.end then Ok t
    else Err record {
      problem = problems.NoWhitespaceOrBreak;
      context = contexts.Tag;
      place = t.end;
    }
ended flow text (Err w) = Err w

-- the tag whose `!` is there, in flow context or not, and the place after it, or what is wrong
abbrev pub tag_at : Bool → List ℕ → ℕ → Result TagText Wrong
tag_at flow text p = ended flow text (parts_at text p)
