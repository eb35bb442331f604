-- What a scanner and a parser make of a tag that an emitter splits and spells, and of a directive that it writes.
use Rattle.std.specs.Prelude.{◌≡◌, ◌⊎◌, ◌<◌, ◌+◌, ◌&&◌, nat_lt, ℕ, Bool, true, List, [], ◌∷◌, ◌++◌, length, codes, Option, Some, None, Ok}
use Rattle.std.specs.Str.{IsUtf8}
use Rattle.yaml_scan_history.specs.scan_types.Ascii as ascii
use Rattle.yaml_scan_history.specs.scan_types.Classes.{is_break}
use Rattle.yaml_scan_history.specs.Tags.{TagText, tag_at, may_end_tag}
use Rattle.yaml_scan_history.specs.Directives.{directive_at}
use Rattle.yaml_scan_history.specs.Written.{HasAt, are_alphas}
use Rattle.yaml_scan_laws.specs.WordsLaws.{tag_line}
use Rattle.yaml_emit_layout.specs.parse_model.Events.{TagDirective}
use Rattle.yaml_parse_grammar.specs.Resolve.{resolved}
use Rattle.yaml_emit_layout.specs.Tags.{Split, shorthand, verbatim, spelled, split_tag, tag_spelling, uri_text}
use Rattle.yaml_emit_layout.specs.Content.{Opening}
use Rattle.yaml_emit_layout.specs.Grammar.{opening_problem}

-- ---- resolving

-- a split tag in full; a verbatim one has no handle
abbrev pub resolved_split : List TagDirective → Split → Option (List ℕ)
resolved_split ds (shorthand handle suffix) = resolved ds handle suffix
resolved_split ds (verbatim tag) = resolved ds [] tag

-- Under directives that may be written each tag is resolved as it was.
abbrev pub TagsResolve : Type 0
TagsResolve = (o : Opening) → opening_problem o ≡ None → (tag : List ℕ)
    → resolved_split o.directives (split_tag o.directives tag) ≡ Some tag

-- ---- reading

-- `!`, or `!alphas!`, where the alphas may be none
abbrev pub IsShaped : List ℕ → Type 0
IsShaped handle = (handle ≡ ascii.exclamation ∷ [])
    ⊎ ((name : List ℕ) × (handle ≡ ascii.exclamation ∷ (name ++ (ascii.exclamation ∷ [])))
    × (are_alphas name ≡ true))

-- a handle of that shape, and a suffix in UTF-8 of one byte at least; or such a tag
abbrev pub IsReadable : Split → Type 0
IsReadable (shorthand handle suffix) = IsShaped handle × IsUtf8 suffix × (0 < length suffix)
IsReadable (verbatim tag) = IsUtf8 tag × (0 < length tag)

-- the tag that ends there
abbrev pub tag_text : Split → ℕ → TagText
tag_text (shorthand handle suffix) end = record { handle = handle; suffix = suffix; end = end }
tag_text (verbatim tag) end = record { handle = []; suffix = tag; end = end }

-- Its spelling is read as it was, whatever follows that may end a tag.
abbrev pub SplitTagsAreRead : Type 0
SplitTagsAreRead = (split : Split) → IsReadable split → (flow : Bool) (text : List ℕ) (p : ℕ)
    → HasAt text p (spelled split) → may_end_tag flow text (p + length (spelled split)) ≡ true
    → tag_at flow text p ≡ Ok (tag_text split (p + length (spelled split)))

-- ---- both

-- each prefix is UTF-8
abbrev pub HaveUtf8 : List TagDirective → Type 0
HaveUtf8 [] = Unit {0}
HaveUtf8 (d ∷ ds) = IsUtf8 d.prefix × HaveUtf8 ds

-- A tag is read there, up to the end of what is written for that one, which resolves to it.
pub record IsTagReadBack (ds : List TagDirective) (tag : List ℕ) (flow : Bool) (text : List ℕ)
    (p : ℕ) : Type 0 where
  pub said : TagText
  pub read : tag_at flow text p ≡ Ok said
  pub ends : said.end ≡ p + length (tag_spelling ds tag)
  pub resolves : resolved ds said.handle said.suffix ≡ Some tag

-- What is written for a tag in UTF-8, under directives that may be written, is read back as that tag.
abbrev pub TagsAreReadBack : Type 0
TagsAreReadBack = (o : Opening) → opening_problem o ≡ None → HaveUtf8 o.directives → (tag : List ℕ)
    → IsUtf8 tag → 0 < length tag → (flow : Bool) (text : List ℕ) (p : ℕ)
    → HasAt text p (tag_spelling o.directives tag)
    → may_end_tag flow text (p + length (tag_spelling o.directives tag)) ≡ true
    → IsTagReadBack o.directives tag flow text p

-- ---- what is written for a tag

-- What is written for a tag in UTF-8, under directives that may be written, can be read.
abbrev pub WrittenTagsAreReadable : Type 0
WrittenTagsAreReadable = (o : Opening) → opening_problem o ≡ None → HaveUtf8 o.directives
    → (tag : List ℕ) → IsUtf8 tag → 0 < length tag → IsReadable (split_tag o.directives tag)

-- bytes below 128 alone
abbrev pub are_ascii : List ℕ → Bool
are_ascii [] = true
are_ascii (b ∷ bs) = nat_lt b 128 && are_ascii bs

-- `!`, and ASCII after it
pub record IsMarked (bs : List ℕ) : Type 0 where
  pub more : List ℕ
  pub begins : bs ≡ ascii.exclamation ∷ more
  pub ascii : are_ascii more ≡ true

-- What can be read is written as `!` and ASCII.
abbrev pub ReadableTagsAreAscii : Type 0
ReadableTagsAreAscii = (split : Split) → IsReadable split → IsMarked (spelled split)

-- ---- directives

-- a handle of that shape, and a prefix in UTF-8 of one byte at least
abbrev pub IsReadableDirective : TagDirective → Type 0
IsReadableDirective d = IsShaped d.handle × IsUtf8 d.prefix × (0 < length d.prefix)

abbrev pub AreReadable : List TagDirective → Type 0
AreReadable [] = Unit {0}
AreReadable (d ∷ ds) = IsReadableDirective d × AreReadable ds

-- Directives that may be written, with prefixes in UTF-8, can be read.
abbrev pub WrittenDirectivesAreReadable : Type 0
WrittenDirectivesAreReadable = (o : Opening) → opening_problem o ≡ None → HaveUtf8 o.directives
    → AreReadable o.directives

-- what is written for it is ASCII
abbrev pub ReadableDirectivesAreAscii : Type 0
ReadableDirectivesAreAscii = (d : TagDirective) → IsReadableDirective d
    → IsMarked d.handle × (are_ascii (uri_text true d.prefix) ≡ true)

-- a directive, without its line's end
abbrev pub directive_bytes : TagDirective → List ℕ
directive_bytes d = codes "%TAG " ++ (d.handle ++ (ascii.space ∷ uri_text true d.prefix))

-- It is read as it was before a break, which it takes with it.
abbrev pub DirectivesAreRead : Type 0
DirectivesAreRead = (d : TagDirective) → IsReadableDirective d → (text : List ℕ) (p : ℕ)
    → HasAt text p (directive_bytes d) → is_break text (p + length (directive_bytes d)) ≡ true
    → directive_at text p ≡ Ok (tag_line text (p + length (directive_bytes d)) d.handle d.prefix)
