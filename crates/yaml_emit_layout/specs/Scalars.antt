-- Scalars of each style.
use Rattle.std.specs.Prelude.{ℕ, ◌+◌, Bool, true, false, not, ◌&&◌, ◌||◌, ◌==◌, nat_lt, if◌then◌else◌, List, [], ◌∷◌}
use Rattle.yaml_scan_types.specs.Ascii as ascii
use Rattle.yaml_emit_layout.specs.declared.page.Page.{Page}
use Rattle.yaml_emit_layout.specs.declared.page.Style.{Style}
use Rattle.yaml_emit_layout.specs.declared.page.Style.TheVariants as style
use Rattle.yaml_emit_layout.specs.declared.page.Chomp.{Chomp}
use Rattle.yaml_emit_layout.specs.declared.page.Chomp.TheVariants as chomping
use Rattle.yaml_emit_layout.specs.declared.settings.LineBreak.{LineBreak}
use Rattle.yaml_emit_layout.specs.Text.{is_break}
use Rattle.yaml_emit_layout.specs.Layout.{Layout, ◌▹◌, stay, choose, when, char, break, new_line, gap, line, is_past, keep, after_text, after_block}
use Rattle.yaml_emit_layout.specs.Quoted.{quoted_text, first, is_empty}
use Rattle.yaml_emit_layout.specs.Style.{is_blank, last_or}

-- a break of a value: LF as the break that is set, the others as they are
abbrev pub value_break : LineBreak → ℕ → Layout
value_break b x = if x == ascii.line_feed then new_line b else break x

-- a space that may be cut: it is neither first nor last, and no space is beside it
abbrev pub cuts_at : Page → ℕ → ℕ → List ℕ → Bool
cuts_at page before x rest = page.cuts
    && (x == ascii.space
    && (not (before == ascii.space) && (not (first rest == ascii.space) && not (is_empty rest))))

-- a space that may be cut, past the width or not
abbrev pub cut : Page → ℕ → Layout
cut page x = choose (is_past page.width) (line page.line_break page.indentation) (char x)

-- in single quotes `'` is doubled
abbrev pub quote_char : Bool → ℕ → Layout
quote_char quote x = when (quote && x == ascii.apostrophe) (char ascii.apostrophe) ▹ char x

abbrev pub text_char : Page → Bool → Bool → ℕ → Layout
text_char page quote cuts x = if cuts then cut page x else quote_char quote x

-- a run of breaks that begins with LF gets one break more before it; a line follows the run
unfoldable pub flow_char : Page → Bool → ℕ → ℕ → List ℕ → Layout
flow_char page quote before x rest =
    if is_break x then when (x == ascii.line_feed && not (is_break before))
    (new_line page.line_break) ▹ value_break page.line_break x
    else when (is_break before) (line page.line_break page.indentation) ▹ text_char page quote
    (cuts_at page before x rest) x

-- by the character before
unfoldable pub flow_body : Page → Bool → ℕ → List ℕ → Layout
flow_body page quote before [] = when (is_break before) (line page.line_break page.indentation)
flow_body page quote before (x ∷ xs) = flow_char page quote before x xs ▹ flow_body page quote x xs

-- a space as the character before means the start: there no space is cut; outside flow an empty one
-- is nothing, not even a space
abbrev pub plain : Page → Bool → List ℕ → Layout
plain page flow value = when (flow || not (is_empty value)) gap
    ▹ (flow_body page false ascii.space value ▹ after_text)

abbrev pub single_quoted : Page → List ℕ → Layout
single_quoted page value = gap
    ▹ (char ascii.apostrophe ▹ (flow_body page true ascii.space value ▹ char ascii.apostrophe))

-- the first character after a run of breaks; the end counts as a blank
unfoldable pub behind_breaks : List ℕ → ℕ
behind_breaks [] = ascii.space
behind_breaks (c ∷ cs) = if is_break c then behind_breaks cs else c

-- folded: a break more before LF, after a line that does not begin with a blank, before one that does not
abbrev pub adds_break : Bool → Bool → ℕ → ℕ → List ℕ → Bool
adds_break folded blank before x rest = folded
    && (x == ascii.line_feed
    && (not (is_break before) && (not blank && not (is_blank (behind_breaks rest)))))

-- folded: a space that may be cut
abbrev pub cuts_block : Bool → Bool → ℕ → ℕ → List ℕ → Bool
cuts_block folded blank before x rest = folded
    && (x == ascii.space
    && (not blank && (not (is_break before) && not (first rest == ascii.space))))

-- whether a line begins with a blank
abbrev pub line_blank : Bool → ℕ → ℕ → Bool
line_blank blank before x = if is_break x then blank else if is_break before then is_blank x
    else blank

abbrev pub block_text : Page → Bool → ℕ → Layout
block_text page cuts x = if cuts then cut page x else char x

-- each line of text follows a line of the layout
unfoldable pub block_char : Page → Bool → Bool → ℕ → ℕ → List ℕ → Layout
block_char page folded blank before x rest =
    if is_break x then when (adds_break folded blank before x rest) (new_line page.line_break)
    ▹ value_break page.line_break x
    else when (is_break before) (line page.line_break page.indentation) ▹ block_text page
    (cuts_block folded blank before x rest) x

-- by whether the line begins with a blank, and the character before
unfoldable pub block_body : Page → Bool → Bool → ℕ → List ℕ → Layout
block_body page folded blank before [] = stay
block_body page folded blank before (x ∷ xs) = block_char page folded blank before x xs
    ▹ block_body page folded (line_blank blank before x) x xs

-- by whether the last character is a break, and the one before it or nothing
abbrev pub chomp_of : Bool → Bool → Chomp
chomp_of broken last = if last then (if broken then chomping.Keep else chomping.Clip)
    else chomping.Strip

-- a text ends in a break; an empty one counts as one that does
abbrev pub ends_in_break : List ℕ → Bool
ends_in_break text = is_break (last_or ascii.line_feed text)

-- by how it ends, after a break or not
unfoldable pub chomp : Bool → Bool → List ℕ → Chomp
chomp broken last [] = chomp_of broken last
chomp broken last (x ∷ xs) = chomp last (is_break x) xs

abbrev pub chomp_mark : Chomp → Layout
chomp_mark chomping.Strip = char ascii.hyphen ▹ keep false
chomp_mark chomping.Clip = keep false
chomp_mark chomping.Keep = char ascii.plus ▹ keep true

-- an indent of more than one digit means 2
abbrev pub digit_char : ℕ → ℕ
digit_char n = if nat_lt n 10 then ascii.digit_zero + n else ascii.digit_two

-- the digit of the indent, where the value begins with a space or a break
abbrev pub digit_mark : ℕ → List ℕ → Layout
digit_mark digit value = when (first value == ascii.space || is_break (first value))
    (char (digit_char digit))

-- the start counts as a break, before nothing
abbrev pub block_header : ℕ → Bool → List ℕ → Layout
block_header digit folded value = gap
    ▹ (char (if folded then ascii.greater else ascii.bar)
    ▹ (digit_mark digit value ▹ chomp_mark (chomp true true value)))

-- at the start is a break, and the line begins with a blank
abbrev pub block : Page → ℕ → Bool → List ℕ → Layout
block page digit folded value = block_header digit folded value
    ▹ (new_line page.line_break ▹ (block_body page folded true ascii.line_feed value ▹ after_block))

unfoldable pub scalar_text : Page → ℕ → Bool → Style → List ℕ → Layout
scalar_text page digit flow style.Plain value = plain page flow value
scalar_text page digit flow style.Single value = single_quoted page value
scalar_text page digit flow style.Double value = quoted_text page value
scalar_text page digit flow style.Literal value = block page digit false value
scalar_text page digit flow style.Folded value = block page digit true value
