-- The length of canonical text is bounded by its nodes, lines and texts; what pretty text shares of
-- this.
use Rattle.std.proofs.Common.{◌≡◌, ℕ, ◌+◌, ◌-◌, ◌*◌, ◌≤◌, Bool, true, false, not, ◌&&◌, ◌==◌, nat_lt, List, [], ◌∷◌, length, Option, Some, None, pos, refl, sym, subst, codes, arith, inl, inr, le_refl, mul-le-mul_left, sub-le, int_eq, chars}
use Rattle.yaml_emit_laws.proofs.Shared.{cases_Bool, eqb-true, yaml_version_directive_t, TagDirective, Settings, scalar_text, tag_spelling, uri_text, needs_escape, escape_text, is_empty, may_fold, fold, escaped, quoted_char, quoted_body, quoted_text, char_bytes, Layout, ◌▹◌, stay, choose, when, char, letters, blanks, new_line, gap, word, keep, is_past, indicator, line, NodePosition, Scalar, scalar_node, Opening, has, scalar_tag, Context, context_of, is_simple_part, deeper, checked, line_at, anchor_text, tag_text, properties_text, mark_text, style_of, page_at, scalar_layout, alias_layout, comma, turned, before_item, question, before_key, before_value, closer, dots, version_word, version_text, directive_text, directives_text, is_directed, dashes, is_marked, start_layout, end_layout, stop_layout, unit, ascii, text_bytes, anchor_bytes, tag_bytes, properties_bytes, most_of_quoted, most_of_char, most_of_value, most_of_line, most_of_node, directives_bytes, Encoding}
use Rattle.yaml_emit_layout.specs.declared.Style.TheVariants as style
use Rattle.yaml_emit_layout.specs.Quoted.{first}
use Rattle.yaml_emit_layout.specs.Nodes.{is_kept}
use Rattle.yaml_emit_laws.proofs.SizesCounting.{AtMost, joined, widened, stay_most, when_most, choose_most, keep_most, char_most, letters_most, ascii_most, blanks_most, gap_most, word_most, ascii_word_most, new_line_most, line_most, checked_most, put_most, unit_size}

-- in either form
abbrev pub set : Bool → Settings → Settings
set canonical s = record s { canonical = canonical }

abbrev pub at_set : Bool → Settings → List TagDirective → Context
at_set canonical s ds = context_of (set canonical s) ds

abbrev at_form : Settings → List TagDirective → Context
at_form s ds = at_set true s ds

-- layouts under settings
abbrev pub Takes : Settings → ℕ → Layout → Type 0
Takes s n a = AtMost s.encoding n a

pub line_at_most : (s : Settings) (n : ℕ) → Takes s (ascii s (n + 2)) (line_at s n)
line_at_most s n = line_most s.encoding s.line_break n

-- ---- properties

-- a character before a name
led_most : (s : Settings) (i : ℕ) (name : List ℕ) → nat_lt i 128 ≡ true
    → Takes s (unit s.encoding + text_bytes s.encoding name) (letters (i ∷ name))
unfolding letters
led_most s i name e =
    joined s.encoding (unit s.encoding) (text_bytes s.encoding name) (unit s.encoding + text_bytes s.encoding name) (char i) (letters name) (ascii_most s.encoding i e)
    (letters_most s.encoding name) (le_refl _)

anchor_most : (s : Settings) (anchor : Option (List ℕ))
    → Takes s (anchor_bytes s anchor) (anchor_text anchor)
anchor_most s None = stay_most s.encoding 0
anchor_most s (Some name) =
    let u = unit s.encoding in
    joined s.encoding u (u + text_bytes s.encoding name) (ascii s 2 + text_bytes s.encoding name) gap (letters (38 ∷ name)) (gap_most s.encoding)
    (led_most s 38 name refl) (omega arith)

tag_most : (s : Settings) (ds : List TagDirective) (tag : Option (List ℕ))
    → Takes s (tag_bytes (at_form s ds) tag) (tag_text (at_form s ds) tag)
tag_most s ds None = stay_most s.encoding 0
tag_most s ds (Some t) =
    widened s.encoding (unit s.encoding + text_bytes s.encoding (tag_spelling ds t)) (ascii s 1 + text_bytes s.encoding (tag_spelling ds t)) (word (tag_spelling ds t))
    (word_most s.encoding (tag_spelling ds t)) (omega arith)

pub properties_most : (s : Settings) (ds : List TagDirective) (anchor tag : Option (List ℕ))
    → Takes s (properties_bytes (at_form s ds) anchor tag)
    (properties_text (at_form s ds) anchor tag)
properties_most s ds anchor tag =
    joined s.encoding (anchor_bytes s anchor) (tag_bytes (at_form s ds) tag) (properties_bytes (at_form s ds) anchor tag) (anchor_text anchor) (tag_text (at_form s ds) tag)
    (anchor_most s anchor) (tag_most s ds tag) (le_refl _)

star_most : (s : Settings) (name : List ℕ)
    → Takes s (ascii s 2 + text_bytes s.encoding name) (word (42 ∷ name))
star_most s name =
    let u = unit s.encoding in
    joined s.encoding u (u + text_bytes s.encoding name) (ascii s 2 + text_bytes s.encoding name) gap (letters (42 ∷ name)) (gap_most s.encoding) (led_most s 42 name refl)
    (omega arith)

pub alias_most : (s : Settings) (at : NodePosition) (name : List ℕ)
    → Takes s (ascii s 3 + text_bytes s.encoding name) (alias_layout at name)
unfolding alias_layout
alias_most s at name =
    joined s.encoding (ascii s 2 + text_bytes s.encoding name) (unit s.encoding) (ascii s 3 + text_bytes s.encoding name) (word (42 ∷ name)) (when (is_simple_part at.part) (char 32))
    (star_most s name) (when_most s.encoding (unit s.encoding) (is_simple_part at.part) (char 32) (ascii_most s.encoding 32 refl)) (omega arith)

-- ---- values

fold_most : (s : Settings) (at : NodePosition) (rest : List ℕ)
    → Takes s (ascii s (deeper s at.around + 3)) (fold (page_at s at) rest)
fold_most s at rest =
    let x = s.encoding in
    let u = unit x in
    let n = deeper s at.around in
    joined x (u * 2) (u * n + u) (ascii s (n + 3)) (new_line s.line_break) (blanks n ▹ when (first rest == 32) (char 92)) (new_line_most x s.line_break)
    (joined x (u * n) u (u * n + u) (blanks n) (when (first rest == 32) (char 92)) (blanks_most x n) (when_most x u (first rest == 32) (char 92) (ascii_most x 92 refl)) (le_refl _))
    (omega arith)

space_escaped : (unicode : Bool) → escaped unicode 32 ≡ char 32
unfolding needs_escape
space_escaped true = refl
space_escaped false = refl

plain_space : (s : Settings) (n : ℕ) → Takes s (ascii s (n + 3)) (char 32)
plain_space s n = widened s.encoding (unit s.encoding) (ascii s (n + 3)) (char 32) (ascii_most s.encoding 32 refl) (omega arith)

space_most : (s : Settings) (at : NodePosition) (before : ℕ) (rest : List ℕ)
    → Takes s (ascii s (deeper s at.around + 3)) (quoted_char (page_at s at) before 32 rest)
unfolding quoted_char
space_most s at before rest =
    let n = deeper s at.around in
    elim (cases_Bool (may_fold (page_at s at) before 32 rest)) [
      | inl e ↦ rw e (choose_most s.encoding (ascii s (n + 3)) (is_past s.width) (fold (page_at s at) rest) (char 32) (fold_most s at rest) (plain_space s n))
      | inr e ↦ rw e (subst (λ (a : Layout). Takes s (ascii s (n + 3)) a) (sym (space_escaped s.unicode)) (plain_space s n))
    ]

never_folds : (a b c : Bool) → b ≡ false → (a && (b && c)) ≡ false
never_folds true b c e = rw e refl
never_folds false b c e = refl

other_most : (s : Settings) (at : NodePosition) (before i : ℕ) (rest : List ℕ) → (i == 32) ≡ false
    → Takes s (most_of_quoted s (deeper s at.around) i) (quoted_char (page_at s at) before i rest)
unfolding quoted_char
other_most s at before i rest e =
    rw (never_folds (not (is_simple_part at.part)) (i == 32) (not (before == 32) && not (is_empty rest)) e) (rw e
    (elim (cases_Bool (needs_escape s.unicode i)) [
      | inl w ↦ rw w (letters_most s.encoding (escape_text i))
      | inr w ↦ rw w (char_most s.encoding i (length (char_bytes s.encoding i)) (le_refl _))
    ]))

quoted_char_most : (s : Settings) (at : NodePosition) (before i : ℕ) (rest : List ℕ)
    → Takes s (most_of_quoted s (deeper s at.around) i) (quoted_char (page_at s at) before i rest)
quoted_char_most s at before i rest =
    elim (cases_Bool (i == 32)) [
      | inl e ↦ rw e (subst (λ k. Takes s (ascii s (deeper s at.around + 3)) (quoted_char (page_at s at) before k rest)) (sym (eqb-true i 32 e)) (space_most s at before rest))
      | inr e ↦ other_most s at before i rest e
    ]

-- under settings by which a character counts no less
body_most : (s z : Settings) (at : NodePosition) (before : ℕ) (value : List ℕ)
    → ((c : ℕ) → most_of_quoted s (deeper s at.around) c ≤ most_of_char z (deeper s at.around) c)
    → Takes s (most_of_value z (deeper s at.around) value) (quoted_body (page_at s at) before value)
unfolding quoted_body most_of_value
body_most s z at before [] f = stay_most s.encoding 0
body_most s z at before (i ∷ is) f =
    let n = deeper s at.around in
    joined s.encoding (most_of_quoted s n i) (most_of_value z n is) (most_of_char z n i + most_of_value z n is) (quoted_char (page_at s at) before i is) (quoted_body (page_at s at) i is)
    (quoted_char_most s at before i is) (body_most s z at i is f) (omega (arith, f i))

pub quoted_most : (s z : Settings) (at : NodePosition) (value : List ℕ)
    → ((c : ℕ) → most_of_quoted s (deeper s at.around) c ≤ most_of_char z (deeper s at.around) c)
    → Takes s (ascii s 3 + most_of_value z (deeper s at.around) value)
    (quoted_text (page_at s at) value)
quoted_most s z at value f =
    let x = s.encoding in
    let u = unit x in
    let k = most_of_value z (deeper s at.around) value in
    let body = quoted_body (page_at s at) 32 value in
    joined x u (u + (k + u)) (ascii s 3 + k) gap (char 34 ▹ (body ▹ char 34)) (gap_most x)
    (joined x u (k + u) (u + (k + u)) (char 34) (body ▹ char 34) (ascii_most x 34 refl) (joined x k u (k + u) body (char 34) (body_most s z at 32 value f) (ascii_most x 34 refl) (le_refl _)) (le_refl _))
    (omega arith)

-- A scalar in canonical form.
pub quoted_scalar_most : (s : Settings) (ds : List TagDirective) (at : NodePosition) (x : Scalar)
    → Takes s (most_of_node (at_form s ds) (deeper s at.around) (scalar_node x))
    (scalar_layout (at_form s ds) at x)
unfolding scalar_layout style_of scalar_text most_of_node
quoted_scalar_most s ds at x =
    let p = at_form s ds in
    let n = deeper s at.around in
    let k = most_of_value (set true s) n (chars x.value) in
    let text = quoted_text (page_at (set true s) at) (chars x.value) in
    let mark = mark_text p x style.Double in
    let props = properties_bytes p x.anchor (scalar_tag true x) in
    joined s.encoding props (ascii s 5 + k) (props + ascii s 5 + k) (properties_text p x.anchor (scalar_tag true x)) (mark ▹ (checked n ▹ text)) (properties_most s ds x.anchor (scalar_tag true x))
    (joined s.encoding (ascii s 2) (ascii s 3 + k) (ascii s 5 + k) mark (checked n ▹ text)
    (when_most s.encoding (ascii s 2) (not (has (scalar_tag true x)) && (not x.quoted && true)) (word (33 ∷ [])) (ascii_word_most s.encoding (33 ∷ []) (ascii s 2) refl (omega arith)))
    (joined s.encoding 0 (ascii s 3 + k) (ascii s 3 + k) (checked n) text (checked_most s.encoding 0 n) (quoted_most (set true s) (set true s) at (chars x.value) (λ c. le_refl _)) (omega arith))
    (omega arith))
    (omega arith)

-- ---- what is between nodes

indicator_most : (x : Encoding) (i : ℕ) → nat_lt i 128 ≡ true → AtMost x (unit x * 2) (indicator i)
indicator_most x i e = grind (arith, joined, gap_most, put_most, unit_size)

turned_most : (canonical : Bool) (s : Settings) (n : ℕ) → Takes s (ascii s (n + 2))
    (turned (set canonical s) n)
unfolding turned
turned_most true s n = line_at_most s n
turned_most false s n = choose_most s.encoding (ascii s (n + 2)) (is_past s.width) (line s.line_break n) stay (line_at_most s n) (stay_most s.encoding (ascii s (n + 2)))

parted_most : (canonical : Bool) (s : Settings) (n : ℕ) (fresh : Bool)
    → Takes s (ascii s (n + 3)) (comma fresh ▹ turned (set canonical s) n)
parted_most canonical s n fresh = joined s.encoding (unit s.encoding) (ascii s (n + 2)) (ascii s (n + 3)) (comma fresh) (turned (set canonical s) n) (when_most s.encoding (unit s.encoding) (not fresh) (char 44) (ascii_most s.encoding 44 refl)) (turned_most canonical s n) (omega arith)

-- What is before an item.
pub before_item_most : (canonical : Bool) (s : Settings) (flow : Bool) (n : ℕ) (fresh : Bool)
    → Takes s (most_of_line s n) (before_item (set canonical s) flow n fresh)
unfolding before_item
before_item_most canonical s true n fresh = widened s.encoding (ascii s (n + 3)) (most_of_line s n) (comma fresh ▹ turned (set canonical s) n) (parted_most canonical s n fresh) (omega arith)
before_item_most canonical s false n fresh = joined s.encoding (ascii s (n + 2)) (ascii s 2) (most_of_line s n) (line s.line_break n) (indicator 45) (line_at_most s n) (indicator_most s.encoding 45 refl) (omega arith)

question_most : (s : Settings) (flow : Bool) → Takes s (ascii s 2) (question flow)
question_most s true = ascii_word_most s.encoding (63 ∷ []) (ascii s 2) refl (omega arith)
question_most s false = indicator_most s.encoding 63 refl

-- What is before a key.
pub before_key_most : (canonical : Bool) (s : Settings) (flow : Bool) (n : ℕ) (fresh simple : Bool)
    → Takes s (most_of_line s n) (before_key (set canonical s) flow n fresh simple)
unfolding before_key
before_key_most canonical s true n fresh simple =
    joined s.encoding (ascii s (n + 3)) (ascii s 2) (most_of_line s n) (comma fresh ▹ turned (set canonical s) n) (when (not simple) (question true)) (parted_most canonical s n fresh)
    (when_most s.encoding (ascii s 2) (not simple) (question true) (question_most s true)) (omega arith)
before_key_most canonical s false n fresh simple =
    joined s.encoding (ascii s (n + 2)) (ascii s 2) (most_of_line s n) (line s.line_break n) (when (not simple) (question false)) (line_at_most s n)
    (when_most s.encoding (ascii s 2) (not simple) (question false) (question_most s false)) (omega arith)

-- What is before a value.
pub before_value_most : (canonical : Bool) (s : Settings) (flow : Bool) (n : ℕ) (simple : Bool)
    → Takes s (most_of_line s n) (before_value (set canonical s) flow n simple)
unfolding before_value
before_value_most canonical s true n false =
    joined s.encoding (ascii s (n + 2)) (ascii s 2) (most_of_line s n) (turned (set canonical s) n) (word (58 ∷ [])) (turned_most canonical s n)
    (ascii_word_most s.encoding (58 ∷ []) (ascii s 2) refl (omega arith)) (omega arith)
before_value_most canonical s false n false =
    joined s.encoding (ascii s (n + 2)) (ascii s 2) (most_of_line s n) (line s.line_break n) (indicator 58) (line_at_most s n) (indicator_most s.encoding 58 refl) (omega arith)
before_value_most canonical s _ n true = widened s.encoding (unit s.encoding) (most_of_line s n) (char 58) (ascii_most s.encoding 58 refl) (omega arith)

outer_line_most : (s : Settings) (n : ℕ)
    → Takes s (ascii s (n + 3)) (char 44 ▹ line_at (set true s) (n - s.indent))
outer_line_most s n =
    let u = unit s.encoding in
    let j : u * (n - s.indent) ≤ u * n = mul-le-mul_left u (sub-le n s.indent) in
    joined s.encoding u (ascii s ((n - s.indent) + 2)) (ascii s (n + 3)) (char 44) (line_at (set true s) (n - s.indent)) (ascii_most s.encoding 44 refl) (line_at_most s (n - s.indent)) (omega arith)

-- What closes a collection.
pub closer_most : (canonical : Bool) (s : Settings) (flow : Bool) (n : ℕ) (fresh : Bool) (i : ℕ)
    → nat_lt i 128 ≡ true → Takes s (most_of_line s n) (closer (set canonical s) flow n fresh i)
unfolding closer
closer_most true s true n fresh i e =
    let due = char 44 ▹ line_at (set true s) (n - s.indent) in
    joined s.encoding (ascii s (n + 3)) (unit s.encoding) (most_of_line s n) (when (not fresh) due) (char i) (when_most s.encoding (ascii s (n + 3)) (not fresh) due (outer_line_most s n))
    (ascii_most s.encoding i e) (omega arith)
closer_most false s true n fresh i e =
    joined s.encoding 0 (unit s.encoding) (most_of_line s n) stay (char i) (stay_most s.encoding 0) (ascii_most s.encoding i e) (omega arith)
closer_most canonical s false n fresh i e = stay_most s.encoding (most_of_line s n)

-- ---- documents

dots_most : (s : Settings) → Takes s (ascii s 6) (dots s)
dots_most s =
    joined s.encoding (ascii s 4) (ascii s 2) (ascii s 6) (word (46 ∷ 46 ∷ 46 ∷ [])) (line_at s 0) (ascii_word_most s.encoding (46 ∷ 46 ∷ 46 ∷ []) (ascii s 4) refl (omega arith)) (line_at_most s 0)
    (omega arith)

number_most : (s : Settings) (v : yaml_version_directive_t)
    → Takes s (ascii s 4) (word (version_word v))
number_most s v =
    elim (cases_Bool (int_eq v.minor (pos 1))) [
      | inl e ↦ rw e (ascii_word_most s.encoding (codes "1.1") (ascii s 4) refl (omega arith))
      | inr e ↦ rw e (ascii_word_most s.encoding (codes "1.2") (ascii s 4) refl (omega arith))
    ]

version_most : (s : Settings) (v : Option yaml_version_directive_t)
    → Takes s (ascii s 12) (version_text s v)
version_most s None = stay_most s.encoding (ascii s 12)
version_most s (Some v) =
    joined s.encoding (ascii s 6) (ascii s 6) (ascii s 12) (word (codes "%YAML")) (word (version_word v) ▹ line_at s 0) (ascii_word_most s.encoding (codes "%YAML") (ascii s 6) refl (omega arith))
    (joined s.encoding (ascii s 4) (ascii s 2) (ascii s 6) (word (version_word v)) (line_at s 0) (number_most s v) (line_at_most s 0) (omega arith))
    (omega arith)

directives_most : (s : Settings) (ds : List TagDirective)
    → Takes s (directives_bytes s ds) (directives_text s ds)
unfolding directives_text directives_bytes
directives_most s [] = stay_most s.encoding 0
directives_most s (d ∷ ds) =
    let x = s.encoding in
    let u = unit x in
    let h = text_bytes x d.handle in
    let f = text_bytes x (uri_text true d.prefix) in
    joined x (ascii s 9 + h + f) (directives_bytes s ds) (ascii s 9 + h + f + directives_bytes s ds) (directive_text s d) (directives_text s ds)
    (joined x (ascii s 5) (u + h + (u + f + ascii s 2)) (ascii s 9 + h + f) (word (codes "%TAG")) (word d.handle ▹ (word (uri_text true d.prefix) ▹ line_at s 0))
    (ascii_word_most x (codes "%TAG") (ascii s 5) refl (omega arith))
    (joined x (u + h) (u + f + ascii s 2) (u + h + (u + f + ascii s 2)) (word d.handle) (word (uri_text true d.prefix) ▹ line_at s 0) (word_most x d.handle)
    (joined x (u + f) (ascii s 2) (u + f + ascii s 2) (word (uri_text true d.prefix)) (line_at s 0) (word_most x (uri_text true d.prefix)) (line_at_most s 0) (le_refl _)) (le_refl _))
    (omega arith))
    (directives_most s ds) (le_refl _)

dashes_most : (s : Settings) → Takes s (ascii s 8) (dashes s)
dashes_most s =
    joined s.encoding (ascii s 2) (ascii s 6) (ascii s 8) (line_at s 0) (word (45 ∷ 45 ∷ 45 ∷ []) ▹ when s.canonical (line_at s 0)) (line_at_most s 0)
    (joined s.encoding (ascii s 4) (ascii s 2) (ascii s 6) (word (45 ∷ 45 ∷ 45 ∷ [])) (when s.canonical (line_at s 0))
    (ascii_word_most s.encoding (45 ∷ 45 ∷ 45 ∷ []) (ascii s 4) refl (omega arith)) (when_most s.encoding (ascii s 2) s.canonical (line_at s 0) (line_at_most s 0)) (omega arith))
    (omega arith)

pub start_most : (s : Settings) (first unended : Bool) (o : Opening)
    → Takes s (ascii s 26 + directives_bytes s o.directives) (start_layout s first unended o)
unfolding start_layout
start_most s first unended o =
    let x = s.encoding in
    let parted = when (unended && is_directed o) (dots s) in
    let marked = when (is_marked s first o) (dashes s) in
    let directed = directives_text s o.directives ▹ marked in
    let d = directives_bytes s o.directives in
    joined x (ascii s 6) (ascii s 20 + d) (ascii s 26 + d) parted (keep false ▹ (version_text s o.version ▹ directed)) (when_most x (ascii s 6) (unended && is_directed o) (dots s) (dots_most s))
    (joined x 0 (ascii s 20 + d) (ascii s 20 + d) (keep false) (version_text s o.version ▹ directed) (keep_most x 0 false)
    (joined x (ascii s 12) (d + ascii s 8) (ascii s 20 + d) (version_text s o.version) directed (version_most s o.version)
    (joined x d (ascii s 8) (d + ascii s 8) (directives_text s o.directives) marked (directives_most s o.directives) (when_most x (ascii s 8) (is_marked s first o) (dashes s) (dashes_most s)) (le_refl _))
    (omega arith))
    (omega arith))
    (omega arith)

pub end_most : (s : Settings) (implicit : Bool) → Takes s (ascii s 8) (end_layout s implicit)
unfolding end_layout
end_most s implicit =
    joined s.encoding (ascii s 2) (ascii s 6) (ascii s 8) (line_at s 0) (when (not implicit) (dots s)) (line_at_most s 0) (when_most s.encoding (ascii s 6) (not implicit) (dots s) (dots_most s)) (omega arith)

pub stop_most : (s : Settings) (unended : Bool) → Takes s (ascii s 6) (stop_layout s unended)
unfolding stop_layout
stop_most s unended =
    when_most s.encoding (ascii s 6) unended (choose is_kept (dots s) stay) (choose_most s.encoding (ascii s 6) is_kept (dots s) stay (dots_most s) (stay_most s.encoding (ascii s 6)))
