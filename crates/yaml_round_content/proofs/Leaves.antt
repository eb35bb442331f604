-- Handles, tags, directives and quoted scalars.
use Rattle.std.proofs.Common.{◌≡◌, ℕ, ◌-◌, ◌<◌, Bool, true, false, not, ◌&&◌, ◌==◌, List, [], ◌∷◌, ◌++◌, length, take, drop, get_or, Option, Some, None, refl, sym, ap, subst, ◌∙◌, arith, if◌then◌else◌, IsUtf8, codes, chars}
use Rattle.yaml_round_content.proofs.ReadBackWords.{list_all, scalars-chars, and_parts, eqb-true, not-false, is_alpha_byte, yaml_version_directive_t, TagDirective, Settings, Layout, ◌▹◌, choose, when, char, letters, blanks, new_line, gap, word, is_past, needs_escape, escape_text, first, is_empty, may_fold, fold, escaped, quoted_char, quoted_body, quoted_text, has_shorter_prefix, defines, primary, secondary, unless_defined, defaults, in_force, split_by, spelled, tag_spelling, uri_text, or_else, between, inner_problem, ends_problem, handle_problem, prefix_problem, twice_problem, directive_problem, directives_problem, Context, anchor_text, tag_text, version_word, version_text, directive_text, directives_text, line_at, IsNameOption, IsTextOption, or_first, or_second, none_all, if_none, last_rest, long_rest}
use Rattle.yaml_emit_laws.specs.emit_layout.declared.page.Page.{Page}
use Rattle.yaml_emit_laws.specs.emit_layout.Tags.{directive_for}
use Rattle.yaml_round_content.specs.BytesLaws.{HavePrefixes}
use Rattle.yaml_round_content.proofs.Characters.{Fits, AllFit, AreChars, AreBytes, all_append, graphic, is_32, names_fit, escape_fits, raw_fits, uri_fits, bytes_drop, utf8_bytes, scalars_below}
use Rattle.yaml_round_content.proofs.ReadBackLayouts.{Tame, both, stay_tame, choose_tame, when_tame, char_tame, letters_tame, blanks_tame, new_line_tame, gap_tame, word_tame, line_tame}

-- ---- handles

mark_fits : (b : ℕ) → b ≡ 33 → Fits b
mark_fits b e = subst (λ (x : ℕ). Fits x) (sym e) (graphic 33 (omega arith) (omega arith))

-- a front, and the last one
all_but_last : (x : ℕ) (xs : List ℕ) → AllFit (take (length xs) (x ∷ xs))
    → Fits (get_or (x ∷ xs) (length xs) 0) → AllFit (x ∷ xs)
all_but_last x [] h k = (k, tt)
all_but_last x (y ∷ ys) (h, hs) k = (h, all_but_last y ys hs k)

handle_by : (h : List ℕ) → get_or h 0 0 ≡ 33 → get_or h (length h - 1) 0 ≡ 33
    → list_all is_alpha_byte (between h) ≡ true → AllFit h
handle_by [] first last inner = tt
handle_by (c ∷ []) first last inner = (mark_fits c first, tt)
handle_by (c ∷ r ∷ rs) first last inner =
    let front : AllFit (take (length rs) (r ∷ rs)) = names_fit (take (length rs) (r ∷ rs)) (sym (ap (λ n. list_all is_alpha_byte (take n (r ∷ rs))) (long_rest c r rs)) ∙ inner) in
    let end : get_or (r ∷ rs) (length rs) 0 ≡ 33 = sym (ap (λ n. get_or (c ∷ r ∷ rs) n 0) (last_rest c r rs)) ∙ last in
    (mark_fits c first, all_but_last r rs front (mark_fits (get_or (r ∷ rs) (length rs) 0) end))

pub handle_fits : (h : List ℕ) → handle_problem h ≡ None → AllFit h
unfolding handle_problem
handle_fits h e =
    let (some, ends) = if_none (length h == 0) _ (ends_problem h) e in
    let (start, behind) = if_none (not (get_or h 0 0 == 33)) _ _ ends in
    let (stop, inner) = if_none (not (get_or h (length h - 1) 0 == 33)) _ (inner_problem h) behind in
    handle_by h (eqb-true (get_or h 0 0) 33 (not-false (get_or h 0 0 == 33) start)) (eqb-true (get_or h (length h - 1) 0) 33 (not-false (get_or h (length h - 1) 0 == 33) stop))
    (none_all (list_all is_alpha_byte (between h)) _ inner)

-- ---- directives

abbrev pub HandlesFit : List TagDirective → Type 0
HandlesFit [] = Unit {0}
HandlesFit (d ∷ ds) = AllFit d.handle × HandlesFit ds

-- Handles that are no problem fit.
pub handles_fit : (before ds : List TagDirective) → directives_problem before ds ≡ None
    → HandlesFit ds
unfolding directives_problem
handles_fit before [] e = tt
handles_fit before (d ∷ ds) e =
    let here = or_first (directive_problem before d) (directives_problem (before ++ d ∷ []) ds) e in
    let handle = or_first (handle_problem d.handle) (or_else (prefix_problem d.prefix) (twice_problem before d.handle)) here in
    (handle_fits d.handle handle, handles_fit (before ++ d ∷ []) ds (or_second (directive_problem before d) (directives_problem (before ++ d ∷ []) ds) e))

handles_append : (xs ys : List TagDirective) → HandlesFit xs → HandlesFit ys → HandlesFit (xs ++ ys)
handles_append [] ys h k = k
handles_append (x ∷ xs) ys (h, hs) k = (h, handles_append xs ys hs k)

unless_fits : (ds : List TagDirective) (d : TagDirective) → AllFit d.handle
    → HandlesFit (unless_defined ds d)
unless_fits ds d h = by (defines ds d.handle)
  where
    by : (b : Bool) → HandlesFit (if b then [] else d ∷ [])
    by true = tt
    by false = (h, tt)

mark_33 : Fits 33
mark_33 = graphic 33 (omega arith) (omega arith)

defaults_fit : (ds : List TagDirective) → HandlesFit (defaults ds)
defaults_fit ds = handles_append (unless_defined ds primary) (unless_defined ds secondary) (unless_fits ds primary (mark_33, tt)) (unless_fits ds secondary (mark_33, (mark_33, tt)))

abbrev FoundFits : Option TagDirective → Type 0
FoundFits None = Unit {0}
FoundFits (Some d) = AllFit d.handle

found_or : (b : Bool) (d : TagDirective) (o : Option TagDirective) → AllFit d.handle → FoundFits o
    → FoundFits (if b then Some d else o)
found_or true d o h k = h
found_or false d o h k = k

found_fits : (ds : List TagDirective) (tag : List ℕ) → HandlesFit ds
    → FoundFits (directive_for ds tag)
unfolding directive_for
found_fits [] tag h = tt
found_fits (d ∷ ds) tag (h, hs) = found_or (has_shorter_prefix d.prefix tag) d (directive_for ds tag) h (found_fits ds tag hs)

split_fits : (o : Option TagDirective) (tag : List ℕ) → FoundFits o → AreBytes tag
    → AllFit (spelled (split_by o tag))
unfolding spelled
split_fits None tag h u =
    (mark_33, (graphic 60 (omega arith) (omega arith), all_append (uri_text true tag) (62 ∷ []) (uri_fits true tag u) (graphic 62 (omega arith) (omega arith), tt)))
split_fits (Some d) tag h u = all_append d.handle (uri_text false (drop (length d.prefix) tag)) h (uri_fits false (drop (length d.prefix) tag) (bytes_drop (length d.prefix) tag u))

-- under the directives what is written for a tag may be there
abbrev pub TagsFit : List TagDirective → Type 0
TagsFit ds = (tag : List ℕ) → IsUtf8 tag → AllFit (tag_spelling ds tag)

-- Directives that are no problem have handles that fit.
pub tags_fit : (ds : List TagDirective) → directives_problem [] ds ≡ None → TagsFit ds
tags_fit ds e tag u =
    split_fits (directive_for (in_force ds) tag) tag (found_fits (in_force ds) tag (handles_append ds (defaults ds) (handles_fit [] ds e) (defaults_fit ds))) (utf8_bytes tag u)

-- ---- properties

-- An anchor's text is tame.
pub anchor_tame : (anchor : Option (List ℕ)) → IsNameOption anchor → Tame (anchor_text anchor)
anchor_tame None h = stay_tame
anchor_tame (Some name) h = word_tame (38 ∷ name) (graphic 38 (omega arith) (omega arith), names_fit name h)

-- A tag's text is tame.
pub tag_tame : (p : Context) → TagsFit p.directives → (tag : Option (List ℕ)) → IsTextOption tag
    → Tame (tag_text p tag)
tag_tame p fit None h = stay_tame
tag_tame p fit (Some t) h = word_tame (tag_spelling p.directives t) (fit t h)

-- ---- quoted scalars

tame_by : (b : Bool) (x y : Layout) → (b ≡ true → Tame x) → (b ≡ false → Tame y)
    → Tame (if b then x else y)
tame_by true x y f g = f refl
tame_by false x y f g = g refl

fold_tame : (page : Page) (rest : List ℕ) → Tame (fold page rest)
fold_tame page rest =
    both (new_line page.line_break) (blanks page.indentation ▹ when (first rest == 32) (char 92)) (new_line_tame page.line_break)
    (both (blanks page.indentation) (when (first rest == 32) (char 92)) (blanks_tame page.indentation) (when_tame (first rest == 32) (char 92) (char_tame 92 (graphic 92 (omega arith) (omega arith)))))

escaped_tame : (unicode : Bool) (x : ℕ) → x < 1114112 → Tame (escaped unicode x)
escaped_tame unicode x h = tame_by (needs_escape unicode x) (letters (escape_text x)) (char x) (λ _. letters_tame (escape_text x) (escape_fits x h)) (λ e. char_tame x (raw_fits unicode x e))

char_quoted : (page : Page) (before x : ℕ) (rest : List ℕ) → x < 1114112
    → Tame (quoted_char page before x rest)
unfolding quoted_char
char_quoted page before x rest h =
    tame_by (may_fold page before x rest) (choose (is_past page.width) (fold page rest) (char x)) (escaped page.unicode x)
    (λ e. choose_tame (is_past page.width) (fold page rest) (char x) (fold_tame page rest) (char_tame x (space x (and_parts (x == 32) (not (before == 32) && not (is_empty rest)) (and_parts page.cuts _ e).1).0)))
    (λ _. escaped_tame page.unicode x h)
  where
    space : (x : ℕ) → (x == 32) ≡ true → Fits x
    space x e = subst (λ (y : ℕ). Fits y) (sym (eqb-true x 32 e)) is_32

body_tame : (page : Page) (before : ℕ) (cs : List ℕ) → AreChars cs
    → Tame (quoted_body page before cs)
unfolding quoted_body
body_tame page before [] h = stay_tame
body_tame page before (x ∷ xs) (h, hs) = both (quoted_char page before x xs) (quoted_body page x xs) (char_quoted page before x xs h) (body_tame page x xs hs)

-- A double quoted value is tame.
pub quoted_tame : (page : Page) (value : List ℕ) → IsUtf8 value
    → Tame (quoted_text page (chars value))
quoted_tame page value u =
    let quote : Fits 34 = graphic 34 (omega arith) (omega arith) in
    let body = body_tame page 32 (chars value) (scalars_below (chars value) (scalars-chars value u)) in
    both gap (char 34 ▹ (quoted_body page 32 (chars value) ▹ char 34)) gap_tame
    (both (char 34) (quoted_body page 32 (chars value) ▹ char 34) (char_tame 34 quote) (both (quoted_body page 32 (chars value)) (char 34) body (char_tame 34 quote)))

-- ---- lines of directives

version_fits : (v : yaml_version_directive_t) → AllFit (version_word v)
version_fits v = by _
  where
    one : AllFit (codes "1.1")
    one = (graphic 49 (omega arith) (omega arith), (graphic 46 (omega arith) (omega arith), (graphic 49 (omega arith) (omega arith), tt)))

    two : AllFit (codes "1.2")
    two = (graphic 49 (omega arith) (omega arith), (graphic 46 (omega arith) (omega arith), (graphic 50 (omega arith) (omega arith), tt)))

    by : (b : Bool) → AllFit (if b then codes "1.1" else codes "1.2")
    by true = one
    by false = two

yaml_fits : AllFit (codes "%YAML")
yaml_fits = (graphic 37 (omega arith) (omega arith), (graphic 89 (omega arith) (omega arith), (graphic 65 (omega arith) (omega arith), (graphic 77 (omega arith) (omega arith), (graphic 76 (omega arith) (omega arith), tt)))))

tag_fits : AllFit (codes "%TAG")
tag_fits = (graphic 37 (omega arith) (omega arith), (graphic 84 (omega arith) (omega arith), (graphic 65 (omega arith) (omega arith), (graphic 71 (omega arith) (omega arith), tt))))

-- A version's line is tame.
pub version_tame : (s : Settings) (v : Option yaml_version_directive_t) → Tame (version_text s v)
version_tame s None = stay_tame
version_tame s (Some v) =
    both (word (codes "%YAML")) (word (version_word v) ▹ line_at s 0) (word_tame (codes "%YAML") yaml_fits)
    (both (word (version_word v)) (line_at s 0) (word_tame (version_word v) (version_fits v)) (line_tame s.line_break 0))

directive_tame : (s : Settings) (d : TagDirective) → AllFit d.handle → IsUtf8 d.prefix
    → Tame (directive_text s d)
directive_tame s d h u =
    let prefix = uri_fits true d.prefix (utf8_bytes d.prefix u) in
    both (word (codes "%TAG")) (word d.handle ▹ (word (uri_text true d.prefix) ▹ line_at s 0)) (word_tame (codes "%TAG") tag_fits)
    (both (word d.handle) (word (uri_text true d.prefix) ▹ line_at s 0) (word_tame d.handle h)
    (both (word (uri_text true d.prefix)) (line_at s 0) (word_tame (uri_text true d.prefix) prefix) (line_tame s.line_break 0)))

-- A document's directives are tame.
pub directives_tame : (s : Settings) (ds : List TagDirective) → HandlesFit ds → HavePrefixes ds
    → Tame (directives_text s ds)
unfolding directives_text
directives_tame s [] h u = stay_tame
directives_tame s (d ∷ ds) (h, hs) (u, us) = both (directive_text s d) (directives_text s ds) (directive_tame s d h u) (directives_tame s ds hs us)
