-- A layout writes some text, whatever follows, and goes on where it ends.
use Rattle.std.proofs.Common.{◌≡◌, ℕ, zero, suc, ◌+◌, ◌-◌, Bool, true, false, not, ◌&&◌, ◌||◌, ◌==◌, nat_lt, if◌then◌else◌, List, [], ◌∷◌, ◌++◌, refl, sym, ap, ◌∙◌, append_assoc, inl, inr}
use Rattle.std.proofs.lemmas.Bool.{cases_Bool}
use Rattle.yaml_round_laws.proofs.Words.{Cursor, Encoding, LineBreak, Lf, Cr, CrLf, Item, letter, deep, is_break, Rest, Layout, ◌▹◌, stay, choose, when, char, letters, blank, blanks, break, new_line, is_white, gap, word, indicator, opener, must_break, indent_to, line, is_past, wrap, keep, after_text, after_block, order_mark, value_break, cuts_at, cut, quote_char, text_char, flow_char, flow_body, plain, single_quoted, adds_break, cuts_block, line_blank, block_text, block_char, block_body, chomp, chomp_mark, digit_char, digit_mark, block_header, block, scalar_text, MOST, deep_if, checked}
use Rattle.yaml_emit_layout.specs.declared.Page.{Page}
use Rattle.yaml_emit_layout.specs.declared.Style.{Style}
use Rattle.yaml_emit_layout.specs.declared.Style.TheVariants as style
use Rattle.yaml_emit_layout.specs.declared.Chomp.{Chomp}
use Rattle.yaml_emit_layout.specs.declared.Chomp.TheVariants as chomping
use Rattle.yaml_emit_layout.specs.declared.Encoding.TheVariants.{Utf8}
use Rattle.yaml_emit_layout.specs.Quoted.{needs_escape, escape_text, first, is_empty, may_fold, fold, escaped, quoted_char, quoted_body, quoted_text}

-- what it writes from there, and where it ends
pub record Written (a : Layout) (c : Cursor) : Type 0 where
  pub text : List Item
  pub behind : Cursor
  pub is : (rest : Rest) → a c rest ≡ text ++ rest behind

abbrev pub Regular : Layout → Type 0
Regular a = (c : Cursor) → Written a c

pub both : (a b : Layout) → Regular a → Regular b → Regular (a ▹ b)
both a b x y c =
    let p : Written a c = x c in
    let q : Written b p.behind = y p.behind in
    record {
      text = p.text ++ q.text;
      behind = q.behind;
      is = λ rest. p.is (λ d. b d rest) ∙ (ap (λ z. p.text ++ z) (q.is rest) ∙ sym (append_assoc p.text q.text (rest q.behind)));
    }

pub stay_regular : Regular stay
stay_regular c = record { text = []; behind = c; is = λ rest. refl }

pub when_regular : (b : Bool) (a : Layout) → Regular a → Regular (when b a)
when_regular true a x = x
when_regular false a x = stay_regular

pub if_regular : (b : Bool) (a d : Layout) → Regular a → Regular d → Regular (if b then a else d)
if_regular true a d x y = x
if_regular false a d x y = y

pub choose_regular : (test : Cursor → Bool) (a b : Layout) → Regular a → Regular b
    → Regular (choose test a b)
choose_regular test a b x y c =
    elim (cases_Bool (test c)) [
      | inl e ↦ record { text = (x c).text; behind = (x c).behind; is = λ rest. rw e ((x c).is rest) }
      | inr e ↦ record { text = (y c).text; behind = (y c).behind; is = λ rest. rw e ((y c).is rest) }
    ]

pub char_regular : (x : ℕ) → Regular (char x)
char_regular x c = record { text = letter x ∷ []; behind = _; is = λ rest. refl }

pub blank_regular : Regular blank
blank_regular c = record { text = letter 32 ∷ []; behind = _; is = λ rest. refl }

pub break_regular : (x : ℕ) → Regular (break x)
break_regular x c = record { text = letter x ∷ []; behind = _; is = λ rest. refl }

pub keep_regular : (b : Bool) → Regular (keep b)
keep_regular b c = record { text = []; behind = _; is = λ rest. refl }

pub after_text_regular : Regular after_text
after_text_regular c = record { text = []; behind = _; is = λ rest. refl }

pub after_block_regular : Regular after_block
after_block_regular c = record { text = []; behind = _; is = λ rest. refl }

pub mark_regular : (x : Encoding) → Regular (order_mark x)
mark_regular Utf8 c = record { text = []; behind = c; is = λ rest. refl }
mark_regular _ c = record { text = letter 0xFEFF ∷ []; behind = c; is = λ rest. refl }

pub letters_regular : (t : List ℕ) → Regular (letters t)
unfolding letters
letters_regular [] = stay_regular
letters_regular (x ∷ xs) = both (char x) (letters xs) (char_regular x) (letters_regular xs)

pub blanks_regular : (n : ℕ) → Regular (blanks n)
unfolding blanks
blanks_regular zero = stay_regular
blanks_regular (suc n) = both blank (blanks n) blank_regular (blanks_regular n)

pub new_line_regular : (b : LineBreak) → Regular (new_line b)
new_line_regular Lf = break_regular 10
new_line_regular Cr = break_regular 13
new_line_regular CrLf = both (char 13) (break 10) (char_regular 13) (break_regular 10)

pub gap_regular : Regular gap
gap_regular = choose_regular is_white stay blank stay_regular blank_regular

pub word_regular : (t : List ℕ) → Regular (word t)
word_regular t = both gap (letters t) gap_regular (letters_regular t)

pub indicator_regular : (x : ℕ) → Regular (indicator x)
indicator_regular x = both gap (λ c rest. letter x ∷ rest (record { column = c.column + 1; white = false; bare = c.bare; kept = c.kept })) gap_regular
    (λ c. record { text = letter x ∷ []; behind = record { column = c.column + 1; white = false; bare = c.bare; kept = c.kept }; is = λ rest. refl })

pub opener_regular : (x : ℕ) → Regular (opener x)
opener_regular x = both gap (λ c rest. letter x ∷ rest (record { column = c.column + 1; white = true; bare = false; kept = c.kept })) gap_regular
    (λ c. record { text = letter x ∷ []; behind = record { column = c.column + 1; white = true; bare = false; kept = c.kept }; is = λ rest. refl })

pub indent_regular : (n : ℕ) → Regular (indent_to n)
indent_regular n c =
    let p : Written (blanks (n - c.column)) c = blanks_regular (n - c.column) c in
    record { text = p.text; behind = p.behind; is = p.is }

pub line_regular : (b : LineBreak) (n : ℕ) → Regular (line b n)
unfolding line
line_regular b n = both (choose (must_break n) (new_line b) stay) (indent_to n) (choose_regular (must_break n) (new_line b) stay (new_line_regular b) stay_regular) (indent_regular n)

pub wrap_regular : (width : ℕ) (b : LineBreak) (n : ℕ) → Regular (wrap width b n)
wrap_regular width b n = choose_regular (is_past width) (line b n) stay (line_regular b n) stay_regular

deep_written : (d : Bool) (c : Cursor) → Written (λ e rest. deep_if d (rest e)) c
deep_written true c = record { text = deep ∷ []; behind = c; is = λ rest. refl }
deep_written false c = record { text = []; behind = c; is = λ rest. refl }

pub checked_regular : (n : ℕ) → Regular (checked n)
checked_regular n c =
    let p : Written (λ e rest. deep_if (nat_lt MOST n) (rest e)) c = deep_written (nat_lt MOST n) c in
    record { text = p.text; behind = p.behind; is = p.is }

-- ---- double quoted text

fold_regular : (page : Page) (rest : List ℕ) → Regular (fold page rest)
fold_regular page rest =
    both (new_line page.line_break) (blanks page.indentation ▹ when (first rest == 32) (char 92)) (new_line_regular page.line_break)
    (both (blanks page.indentation) (when (first rest == 32) (char 92)) (blanks_regular page.indentation) (when_regular (first rest == 32) (char 92) (char_regular 92)))

quoted_char_regular : (page : Page) (before x : ℕ) (rest : List ℕ)
    → Regular (quoted_char page before x rest)
unfolding quoted_char
quoted_char_regular page before x rest =
    if_regular (may_fold page before x rest) (choose (is_past page.width) (fold page rest) (char x)) (escaped page.unicode x)
    (choose_regular (is_past page.width) (fold page rest) (char x) (fold_regular page rest) (char_regular x)) (if_regular (needs_escape page.unicode x) (letters (escape_text x)) (char x) (letters_regular (escape_text x)) (char_regular x))

quoted_body_regular : (page : Page) (before : ℕ) (xs : List ℕ)
    → Regular (quoted_body page before xs)
unfolding quoted_body
quoted_body_regular page before [] = stay_regular
quoted_body_regular page before (x ∷ xs) = both (quoted_char page before x xs) (quoted_body page x xs) (quoted_char_regular page before x xs) (quoted_body_regular page x xs)

double_regular : (page : Page) (value : List ℕ) → Regular (quoted_text page value)
double_regular page value =
    both gap (char 34 ▹ (quoted_body page 32 value ▹ char 34)) gap_regular
    (both (char 34) (quoted_body page 32 value ▹ char 34) (char_regular 34) (both (quoted_body page 32 value) (char 34) (quoted_body_regular page 32 value) (char_regular 34)))

-- ---- plain and single quoted text

value_break_regular : (b : LineBreak) (x : ℕ) → Regular (value_break b x)
value_break_regular b x = if_regular (x == 10) (new_line b) (break x) (new_line_regular b) (break_regular x)

cut_regular : (page : Page) (x : ℕ) → Regular (cut page x)
cut_regular page x = choose_regular (is_past page.width) (line page.line_break page.indentation) (char x) (line_regular page.line_break page.indentation) (char_regular x)

text_char_regular : (page : Page) (quote cuts : Bool) (x : ℕ)
    → Regular (text_char page quote cuts x)
text_char_regular page quote cuts x = if_regular cuts (cut page x) (quote_char quote x) (cut_regular page x) (both (when (quote && x == 39) (char 39)) (char x) (when_regular (quote && x == 39) (char 39) (char_regular 39)) (char_regular x))

behind_break_regular : (page : Page) (b : Bool)
    → Regular (when b (line page.line_break page.indentation))
behind_break_regular page b = when_regular b (line page.line_break page.indentation) (line_regular page.line_break page.indentation)

break_first_regular : (page : Page) (b : Bool) (x : ℕ)
    → Regular (when b (new_line page.line_break) ▹ value_break page.line_break x)
break_first_regular page b x = both (when b (new_line page.line_break)) (value_break page.line_break x) (when_regular b (new_line page.line_break) (new_line_regular page.line_break)) (value_break_regular page.line_break x)

flow_char_regular : (page : Page) (quote : Bool) (before x : ℕ) (rest : List ℕ)
    → Regular (flow_char page quote before x rest)
unfolding flow_char
flow_char_regular page quote before x rest =
    if_regular (is_break x) (when (x == 10 && not (is_break before)) (new_line page.line_break) ▹ value_break page.line_break x)
    (when (is_break before) (line page.line_break page.indentation) ▹ text_char page quote (cuts_at page before x rest) x)
    (break_first_regular page (x == 10 && not (is_break before)) x)
    (both (when (is_break before) (line page.line_break page.indentation)) (text_char page quote (cuts_at page before x rest) x) (behind_break_regular page (is_break before)) (text_char_regular page quote (cuts_at page before x rest) x))

flow_body_regular : (page : Page) (quote : Bool) (before : ℕ) (xs : List ℕ)
    → Regular (flow_body page quote before xs)
unfolding flow_body
flow_body_regular page quote before [] = behind_break_regular page (is_break before)
flow_body_regular page quote before (x ∷ xs) = both (flow_char page quote before x xs) (flow_body page quote x xs) (flow_char_regular page quote before x xs) (flow_body_regular page quote x xs)

plain_regular : (page : Page) (flow : Bool) (value : List ℕ) → Regular (plain page flow value)
plain_regular page flow value =
    both (when (flow || not (is_empty value)) gap) (flow_body page false 32 value ▹ after_text) (when_regular (flow || not (is_empty value)) gap gap_regular)
    (both (flow_body page false 32 value) after_text (flow_body_regular page false 32 value) after_text_regular)

single_regular : (page : Page) (value : List ℕ) → Regular (single_quoted page value)
single_regular page value =
    both gap (char 39 ▹ (flow_body page true 32 value ▹ char 39)) gap_regular
    (both (char 39) (flow_body page true 32 value ▹ char 39) (char_regular 39) (both (flow_body page true 32 value) (char 39) (flow_body_regular page true 32 value) (char_regular 39)))

-- ---- block scalars

block_text_regular : (page : Page) (cuts : Bool) (x : ℕ) → Regular (block_text page cuts x)
block_text_regular page cuts x = if_regular cuts (cut page x) (char x) (cut_regular page x) (char_regular x)

block_char_regular : (page : Page) (folded starts : Bool) (before x : ℕ) (rest : List ℕ)
    → Regular (block_char page folded starts before x rest)
unfolding block_char
block_char_regular page folded starts before x rest =
    if_regular (is_break x) (when (adds_break folded starts before x rest) (new_line page.line_break) ▹ value_break page.line_break x)
    (when (is_break before) (line page.line_break page.indentation) ▹ block_text page (cuts_block folded starts before x rest) x)
    (break_first_regular page (adds_break folded starts before x rest) x)
    (both (when (is_break before) (line page.line_break page.indentation)) (block_text page (cuts_block folded starts before x rest) x) (behind_break_regular page (is_break before)) (block_text_regular page (cuts_block folded starts before x rest) x))

block_body_regular : (page : Page) (folded starts : Bool) (before : ℕ) (xs : List ℕ)
    → Regular (block_body page folded starts before xs)
unfolding block_body
block_body_regular page folded starts before [] = stay_regular
block_body_regular page folded starts before (x ∷ xs) = both (block_char page folded starts before x xs) (block_body page folded (line_blank starts before x) x xs) (block_char_regular page folded starts before x xs) (block_body_regular page folded (line_blank starts before x) x xs)

chomp_regular : (c : Chomp) → Regular (chomp_mark c)
chomp_regular chomping.Strip = both (char 45) (keep false) (char_regular 45) (keep_regular false)
chomp_regular chomping.Clip = keep_regular false
chomp_regular chomping.Keep = both (char 43) (keep true) (char_regular 43) (keep_regular true)

header_regular : (digit : ℕ) (folded : Bool) (value : List ℕ)
    → Regular (block_header digit folded value)
header_regular digit folded value =
    both gap (char (if folded then 62 else 124) ▹ (digit_mark digit value ▹ chomp_mark (chomp true true value))) gap_regular
    (both (char (if folded then 62 else 124)) (digit_mark digit value ▹ chomp_mark (chomp true true value)) (char_regular (if folded then 62 else 124))
    (both (digit_mark digit value) (chomp_mark (chomp true true value)) (when_regular (first value == 32 || is_break (first value)) (char (digit_char digit)) (char_regular (digit_char digit))) (chomp_regular (chomp true true value))))

block_regular : (page : Page) (digit : ℕ) (folded : Bool) (value : List ℕ)
    → Regular (block page digit folded value)
block_regular page digit folded value =
    both (block_header digit folded value) (new_line page.line_break ▹ (block_body page folded true 10 value ▹ after_block)) (header_regular digit folded value)
    (both (new_line page.line_break) (block_body page folded true 10 value ▹ after_block) (new_line_regular page.line_break)
    (both (block_body page folded true 10 value) after_block (block_body_regular page folded true 10 value) after_block_regular))

pub scalar_text_regular : (page : Page) (digit : ℕ) (flow : Bool) (x : Style) (value : List ℕ)
    → Regular (scalar_text page digit flow x value)
unfolding scalar_text
scalar_text_regular page digit flow style.Plain value = plain_regular page flow value
scalar_text_regular page digit flow style.Single value = single_regular page value
scalar_text_regular page digit flow style.Double value = double_regular page value
scalar_text_regular page digit flow style.Literal value = block_regular page digit false value
scalar_text_regular page digit flow style.Folded value = block_regular page digit true value
