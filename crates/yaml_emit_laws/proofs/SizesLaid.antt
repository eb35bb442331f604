-- The length of pretty text is bounded by its nodes, lines and texts too.
use Rattle.std.proofs.Common.{◌≡◌, ℕ, ◌+◌, ◌*◌, ◌<◌, ◌≤◌, Bool, true, false, true≢false, not, ◌&&◌, ◌||◌, ◌==◌, nat_lt, if◌then◌else◌, List, [], ◌∷◌, length, Option, Some, None, refl, sym, arith, inl, inr, le_refl, mul-le-mul_left, mul-le-mul_right, ◌∙◌, chars}
use Rattle.yaml_emit_laws.proofs.Shared.{cases_Bool, and_parts, TagDirective, Encoding, LineBreak, Settings, Cursor, encode, is_empty, value_break, cuts_at, cut, text_char, flow_char, flow_body, plain, single_quoted, adds_break, cuts_block, line_blank, block_text, block_char, block_body, chomp, chomp_mark, digit_char, block_header, block, scalar_text, Layout, ◌▹◌, stay, when, char, new_line, gap, word, opener, line, keep, is_past, after_text, after_block, order_mark, nothing_more, start, written, NodePosition, Scalar, Start, Node, alias_node, scalar_node, sequence_node, mapping_node, Nodes, no_nodes, node, Pairs, no_pairs, pair, Document, has, kept_if, scalar_tag, start_tag, Context, context_of, root_position, position, deeper, checked, properties_text, is_plain, style_of, mark_text, page_at, scalar_layout, is_simple, is_flow, are_none, are_no_pairs, block_indent_in, indent_of, indented, is_of_mapping, before_item, before_key, before_value, closer, key_part, node_layout, items_layout, pairs_layout, start_layout, end_layout, stop_layout, documents_layout, stream_layout, unit, ascii, larger, properties_bytes, tag_bytes, most_of_quoted, most_of_char, most_of_value, most_of_line, most_of_node, most_of_items, most_of_pairs, directives_bytes, most_of_documents, most_bytes, SizesAreByContent}
use Rattle.yaml_emit_layout.specs.scan_model.declared.name.yaml_scalar_style_t.{yaml_scalar_style_t}
use Rattle.yaml_emit_layout.specs.declared.page.Chomp.{Chomp}
use Rattle.yaml_emit_layout.specs.declared.page.Chomp.TheVariants as chomping
use Rattle.yaml_emit_layout.specs.declared.Style.{Style}
use Rattle.yaml_emit_layout.specs.declared.Style.TheVariants as style
use Rattle.yaml_emit_layout.specs.Text.{is_break}
use Rattle.yaml_emit_layout.specs.Style.{allowed, taken}
use Rattle.yaml_emit_layout.specs.Quoted.{first}
use Rattle.yaml_emit_layout.specs.declared.level.Part.TheVariants as part
use Rattle.yaml_emit_laws.proofs.SizesCounting.{size, AtMost, joined, widened, stay_most, when_most, choose_most, keep_most, char_most, break_most, ascii_most, gap_most, ascii_word_most, opener_most, new_line_most, mark_most, checked_most}
use Rattle.yaml_emit_laws.proofs.SizesEscapes.{raw_most}
use Rattle.yaml_emit_laws.proofs.SizesLemmas.{Takes, set, at_set, before_item_most, before_key_most, before_value_most, closer_most, line_at_most, properties_most, alias_most, quoted_most, quoted_scalar_most, start_most, end_most, stop_most}

abbrev easy : Settings → Settings
easy s = record s { canonical = false }

abbrev at_easy : Settings → List TagDirective → Context
at_easy s ds = context_of (easy s) ds

-- ---- characters

larger_left : (a b : ℕ) → a ≤ larger a b
larger_left a b = grind (arith, le_refl)

larger_right : (a b : ℕ) → b ≤ larger a b
larger_right a b = grind (arith, le_refl)

larger_grows : (a b c d : ℕ) → a ≤ c → b ≤ d → larger a b ≤ larger c d
larger_grows a b c d w v = grind (arith, larger_right, larger_left)

-- more characters have no fewer bytes
pub ascii_grows : (s : Settings) (n m : ℕ) → n ≤ m → ascii s n ≤ ascii s m
ascii_grows s n m w = mul-le-mul_left (unit s.encoding) w

quoted_grows : (s : Settings) (n m c : ℕ) → n ≤ m → most_of_quoted s n c ≤ most_of_quoted s m c
quoted_grows s n m c w = grind (arith, ascii_grows, le_refl)

char_grows : (s : Settings) (n m c : ℕ) → n ≤ m → most_of_char s n c ≤ most_of_char s m c
char_grows s n m c w = grind (arith, quoted_grows, larger_grows, ascii_grows)

-- a value in lines that are indented more
pub value_grows : (s : Settings) (n m : ℕ) (v : List ℕ) → n ≤ m
    → most_of_value s n v ≤ most_of_value s m v
unfolding most_of_value
value_grows s n m [] w = le_refl _
value_grows s n m (c ∷ cs) w = omega (arith, char_grows s n m c w, value_grows s n m cs w)

-- Longer lines have a larger bound.
pub line_grows : (s : Settings) (n m : ℕ) → n ≤ m → most_of_line s n ≤ most_of_line s m
line_grows s n m w = ascii_grows s (n + 5) (m + 5) (omega (arith, w))

-- each has room for a line
roomy : (s : Settings) (n : ℕ) (v : List ℕ)
    → ascii s (n + 10) * length v ≤ most_of_value (easy s) n v
unfolding most_of_value
roomy s n [] = omega arith
roomy s n (c ∷ cs) = omega (arith, larger_right (most_of_quoted (easy s) n c) (ascii s (n + 10)), roomy s n cs)

raw_char : (s : Settings) (c : ℕ) → Takes s (ascii s 4) (char c)
raw_char s c = char_most s.encoding c (ascii s 4) (raw_most s.encoding c)

after_text_most : (x : Encoding) (n : ℕ) → AtMost x n after_text
after_text_most x n m rest h c = let i : size x (rest (record { column = c.column; white = false; bare = false; kept = c.kept })) ≤ m = h _ in omega arith

after_block_most : (x : Encoding) (n : ℕ) → AtMost x n after_block
after_block_most x n m rest h c = let i : size x (rest (record { column = c.column; white = true; bare = c.bare; kept = c.kept })) ≤ m = h _ in omega arith

-- a break of a value, and one before a line feed alone
run_most : (s : Settings) (b : LineBreak) (w : Bool) (x : ℕ) → (w ≡ true → (x == 10) ≡ true)
    → Takes s (ascii s 4) (when w (new_line b) ▹ value_break b x)
run_most s b true x f =
    let e = f refl in
    joined s.encoding (ascii s 2) (ascii s 2) (ascii s 4) (new_line b) (value_break b x) (new_line_most s.encoding b) (rw e (new_line_most s.encoding b)) (omega arith)
run_most s b false x f =
    joined s.encoding 0 (ascii s 4) (ascii s 4) stay (value_break b x) (stay_most s.encoding 0)
    (elim (cases_Bool (x == 10)) [
      | inl e ↦ rw e (widened s.encoding (ascii s 2) (ascii s 4) (new_line b) (new_line_most s.encoding b) (omega arith))
      | inr e ↦ rw e (break_most s.encoding x (ascii s 4) (raw_most s.encoding x))
    ]) (omega arith)

cut_most : (s : Settings) (at : NodePosition) (x : ℕ)
    → Takes s (ascii s (deeper (easy s) at.around + 4)) (cut (page_at (easy s) at) x)
cut_most s at x =
    let n = deeper (easy s) at.around in
    choose_most s.encoding (ascii s (n + 4)) (is_past s.width) (line s.line_break n) (char x)
    (widened s.encoding (ascii s (n + 2)) (ascii s (n + 4)) (line s.line_break n) (line_at_most s n) (omega arith))
    (widened s.encoding (ascii s 4) (ascii s (n + 4)) (char x) (raw_char s x) (omega arith))

-- ---- plain, and in single quotes

text_char_most : (s : Settings) (at : NodePosition) (quote cuts : Bool) (x : ℕ)
    → Takes s (ascii s (deeper (easy s) at.around + 6))
    (text_char (page_at (easy s) at) quote cuts x)
text_char_most s at quote true x =
    let n = deeper (easy s) at.around in
    widened s.encoding (ascii s (n + 4)) (ascii s (n + 6)) (cut (page_at (easy s) at) x) (cut_most s at x) (omega arith)
text_char_most s at quote false x =
    let n = deeper (easy s) at.around in
    joined s.encoding (unit s.encoding) (ascii s 4) (ascii s (n + 6)) (when (quote && x == 39) (char 39)) (char x)
    (when_most s.encoding (unit s.encoding) (quote && x == 39) (char 39) (ascii_most s.encoding 39 refl)) (raw_char s x) (omega arith)

-- the line that is due after a break
abbrev due : Settings → ℕ → ℕ → ℕ
due s n before = if is_break before then ascii s (n + 2) else 0

due_most : (s : Settings) (n before : ℕ)
    → Takes s (due s n before) (when (is_break before) (line s.line_break n))
due_most s n before =
    elim (cases_Bool (is_break before)) [
      | inl e ↦ rw e (line_at_most s n)
      | inr e ↦ rw e (stay_most s.encoding 0)
    ]

flow_most : (s : Settings) (at : NodePosition) (quote : Bool) (before : ℕ) (v : List ℕ)
    → Takes s (due s (deeper (easy s) at.around) before + ascii s (deeper (easy s) at.around + 6) *
    length v) (flow_body (page_at (easy s) at) quote before v)
unfolding flow_body flow_char
flow_most s at quote before [] =
    let n = deeper (easy s) at.around in
    widened s.encoding (due s n before) (due s n before + ascii s (n + 6) * 0) (when (is_break before) (line s.line_break n)) (due_most s n before) (omega arith)
flow_most s at quote before (x ∷ xs) =
    let n = deeper (easy s) at.around in
    let page = page_at (easy s) at in
    let k = ascii s (n + 6) * length xs in
    let rest = flow_body page quote x xs in
    let more = flow_most s at quote x xs in
    elim (cases_Bool (is_break x)) [
      | inl e ↦
          let d : due s n x ≡ ascii s (n + 2) = rw e refl in
          rw e (joined s.encoding (ascii s 4) (due s n x + k) (due s n before + ascii s (n + 6) * length (x ∷ xs)) (when (x == 10 && not (is_break before)) (new_line s.line_break) ▹ value_break s.line_break x) rest
          (run_most s s.line_break (x == 10 && not (is_break before)) x (λ a. (and_parts (x == 10) (not (is_break before)) a).0)) more (omega (arith, d)))
      | inr e ↦
          let d : due s n x ≡ 0 = rw e refl in
          let cuts = cuts_at page before x xs in
          rw e (joined s.encoding (due s n before + ascii s (n + 6)) (due s n x + k) (due s n before + ascii s (n + 6) * length (x ∷ xs))
          (when (is_break before) (line s.line_break n) ▹ text_char page quote cuts x) rest
          (joined s.encoding (due s n before) (ascii s (n + 6)) (due s n before + ascii s (n + 6)) (when (is_break before) (line s.line_break n)) (text_char page quote cuts x)
          (due_most s n before) (text_char_most s at quote cuts x) (le_refl _)) more (omega (arith, d)))
    ]

abbrev bodied : Settings → ℕ → List ℕ → ℕ
bodied s n v = ascii s (n + 6) * length v

-- at the start no line is due
first_most : (s : Settings) (at : NodePosition) (quote : Bool) (v : List ℕ)
    → Takes s (bodied s (deeper (easy s) at.around) v) (flow_body (page_at (easy s) at) quote 32 v)
first_most s at quote v =
    let n = deeper (easy s) at.around in
    widened s.encoding (due s n 32 + bodied s n v) (bodied s n v) (flow_body (page_at (easy s) at) quote 32 v) (flow_most s at quote 32 v) (omega arith)

plain_most : (s : Settings) (at : NodePosition) (flow : Bool) (v : List ℕ)
    → Takes s (ascii s 1 + bodied s (deeper (easy s) at.around) v)
    (plain (page_at (easy s) at) flow v)
plain_most s at flow v =
    let n = deeper (easy s) at.around in
    let k = bodied s n v in
    let body = flow_body (page_at (easy s) at) false 32 v in
    joined s.encoding (ascii s 1) k (ascii s 1 + k) (when (flow || not (is_empty v)) gap) (body ▹ after_text)
    (when_most s.encoding (ascii s 1) (flow || not (is_empty v)) gap (widened s.encoding (unit s.encoding) (ascii s 1) gap (gap_most s.encoding) (omega arith)))
    (joined s.encoding k 0 k body after_text (first_most s at false v) (after_text_most s.encoding 0) (omega arith)) (le_refl _)

single_most : (s : Settings) (at : NodePosition) (v : List ℕ)
    → Takes s (ascii s 3 + bodied s (deeper (easy s) at.around) v)
    (single_quoted (page_at (easy s) at) v)
single_most s at v =
    let x = s.encoding in
    let u = unit x in
    let k = bodied s (deeper (easy s) at.around) v in
    let body = flow_body (page_at (easy s) at) true 32 v in
    joined x u (u + (k + u)) (ascii s 3 + k) gap (char 39 ▹ (body ▹ char 39)) (gap_most x)
    (joined x u (k + u) (u + (k + u)) (char 39) (body ▹ char 39) (ascii_most x 39 refl) (joined x k u (k + u) body (char 39) (first_most s at true v) (ascii_most x 39 refl) (le_refl _)) (le_refl _))
    (omega arith)

-- ---- blocks

not_cut : (f b : Bool) (c d : Bool) → (f && (b && (c && (false && d)))) ≡ false
not_cut f b c d = grind arith

-- a character after a break has a line before it, and isn't cut
spoken_most : (s : Settings) (at : NodePosition) (folded blank : Bool) (before x : ℕ)
    (rest : List ℕ)
    → Takes s (ascii s (deeper (easy s) at.around + 6))
    (when (is_break before) (line s.line_break (deeper (easy s) at.around)) ▹ block_text
    (page_at (easy s) at) (cuts_block folded blank before x rest) x)
spoken_most s at folded blank before x rest =
    let n = deeper (easy s) at.around in
    let page = page_at (easy s) at in
    elim (cases_Bool (is_break before)) [
      | inl e ↦ rw e (rw (not_cut folded (x == 32) (not blank) (not (first rest == 32))) (joined s.encoding (ascii s (n + 2)) (ascii s 4) (ascii s (n + 6)) (line s.line_break n) (char x) (line_at_most s n) (raw_char s x) (omega arith)))
      | inr e ↦ rw e (joined s.encoding 0 (ascii s (n + 6)) (ascii s (n + 6)) stay (block_text page _ x) (stay_most s.encoding 0) (text_most _) (omega arith))
    ]
  where
    text_most : (cuts : Bool)
        → Takes s (ascii s (deeper (easy s) at.around + 6))
        (block_text (page_at (easy s) at) cuts x)
    text_most true = widened s.encoding (ascii s (deeper (easy s) at.around + 4)) (ascii s (deeper (easy s) at.around + 6)) (cut (page_at (easy s) at) x) (cut_most s at x) (omega arith)
    text_most false = widened s.encoding (ascii s 4) (ascii s (deeper (easy s) at.around + 6)) (char x) (raw_char s x) (omega arith)

block_most : (s : Settings) (at : NodePosition) (folded blank : Bool) (before : ℕ) (v : List ℕ)
    → Takes s (bodied s (deeper (easy s) at.around) v)
    (block_body (page_at (easy s) at) folded blank before v)
unfolding block_body block_char
block_most s at folded blank before [] = stay_most s.encoding _
block_most s at folded blank before (x ∷ xs) =
    let n = deeper (easy s) at.around in
    let page = page_at (easy s) at in
    let k = bodied s n xs in
    let rest = block_body page folded (line_blank blank before x) x xs in
    let more = block_most s at folded (line_blank blank before x) x xs in
    let adds = adds_break folded blank before x xs in
    elim (cases_Bool (is_break x)) [
      | inl e ↦ rw e (joined s.encoding (ascii s 4) k (bodied s n (x ∷ xs)) (when adds (new_line s.line_break) ▹ value_break s.line_break x) (block_body page folded blank x xs)
          (run_most s s.line_break adds x (λ a. (and_parts (x == 10) _ (and_parts folded _ a).1).0)) (block_most s at folded blank x xs) (omega arith))
      | inr e ↦ rw e (joined s.encoding (ascii s (n + 6)) k (bodied s n (x ∷ xs)) (when (is_break before) (line s.line_break n) ▹ block_text page (cuts_block folded blank before x xs) x)
          (block_body page folded (if is_break before then _ else blank) x xs)
          (spoken_most s at folded blank before x xs) (block_most s at folded _ x xs) (omega arith))
    ]

mark_most_of : (s : Settings) (c : Chomp) → Takes s (ascii s 1) (chomp_mark c)
mark_most_of s chomping.Strip =
    joined s.encoding (unit s.encoding) 0 (ascii s 1) (char 45) (keep false) (ascii_most s.encoding 45 refl) (keep_most s.encoding 0 false) (omega arith)
mark_most_of s chomping.Clip = keep_most s.encoding (ascii s 1) false
mark_most_of s chomping.Keep =
    joined s.encoding (unit s.encoding) 0 (ascii s 1) (char 43) (keep true) (ascii_most s.encoding 43 refl) (keep_most s.encoding 0 true) (omega arith)

digit_small : (n : ℕ) → nat_lt (digit_char n) 128 ≡ true
digit_small n = grind arith

sign_small : (folded : Bool) → nat_lt (if folded then 62 else 124) 128 ≡ true
sign_small true = refl
sign_small false = refl

header_most : (s : Settings) (digit : ℕ) (folded : Bool) (v : List ℕ)
    → Takes s (ascii s 4) (block_header digit folded v)
header_most s digit folded v =
    let x = s.encoding in
    let u = unit x in
    let sign : ℕ = if folded then 62 else 124 in
    let test = first v == 32 || is_break (first v) in
    joined x u (ascii s 3) (ascii s 4) gap (char sign ▹ (when test (char (digit_char digit)) ▹ chomp_mark (chomp true true v))) (gap_most x)
    (joined x u (ascii s 2) (ascii s 3) (char sign) (when test (char (digit_char digit)) ▹ chomp_mark (chomp true true v)) (ascii_most x sign (sign_small folded))
    (joined x u (ascii s 1) (ascii s 2) (when test (char (digit_char digit))) (chomp_mark (chomp true true v)) (when_most x u test (char (digit_char digit)) (ascii_most x (digit_char digit) (digit_small digit)))
    (mark_most_of s (chomp true true v)) (omega arith)) (omega arith)) (omega arith)

blocked_most : (s : Settings) (at : NodePosition) (digit : ℕ) (folded : Bool) (v : List ℕ)
    → Takes s (ascii s 6 + bodied s (deeper (easy s) at.around) v)
    (block (page_at (easy s) at) digit folded v)
blocked_most s at digit folded v =
    let x = s.encoding in
    let k = bodied s (deeper (easy s) at.around) v in
    let body = block_body (page_at (easy s) at) folded true 10 v in
    joined x (ascii s 4) (ascii s 2 + k) (ascii s 6 + k) (block_header digit folded v) (new_line s.line_break ▹ (body ▹ after_block)) (header_most s digit folded v)
    (joined x (ascii s 2) k (ascii s 2 + k) (new_line s.line_break) (body ▹ after_block) (new_line_most x s.line_break)
    (joined x k 0 k body after_block (block_most s at folded true 10 v) (after_block_most x 0) (omega arith)) (le_refl _)) (omega arith)

-- ---- values

abbrev is_block : Style → Bool
is_block style.Literal = true
is_block style.Folded = true
is_block _ = false

-- nothing at all has no block
none_in_blocks : (unicode : Bool) (a : yaml_scalar_style_t) (untagged flow simple empty : Bool)
    → is_block (taken (allowed unicode []) a untagged flow simple empty) ≡ false
unfolding taken allowed
none_in_blocks unicode a untagged flow simple empty = grind arith

abbrev HasText : Style → List ℕ → Type 0
HasText t v = is_block t ≡ true → 0 < length v

room_for : (s : Settings) (n k : ℕ) (v : List ℕ) → k ≤ 3
    → ascii s k + bodied s n v ≤ ascii s 3 + most_of_value (easy s) n v
room_for s n k v w =
    let a = roomy s n v in
    let b : bodied s n v ≤ ascii s (n + 10) * length v = mul-le-mul_right (length v) (ascii_grows s (n + 6) (n + 10) (omega arith)) in
    omega (arith, a, b, ascii_grows s k 3 w)

room_for_block : (s : Settings) (n : ℕ) (v : List ℕ) → 0 < length v
    → ascii s 6 + bodied s n v ≤ ascii s 3 + most_of_value (easy s) n v
room_for_block s n v some =
    let a = roomy s n v in
    let b : ascii s 4 * 1 ≤ ascii s 4 * length v = mul-le-mul_left (ascii s 4) some in
    omega (arith, a, b)

text_most : (s : Settings) (at : NodePosition) (digit : ℕ) (flow : Bool) (t : Style) (v : List ℕ)
    → HasText t v
    → Takes s (ascii s 3 + most_of_value (easy s) (deeper (easy s) at.around) v)
    (scalar_text (page_at (easy s) at) digit flow t v)
unfolding scalar_text
text_most s at digit flow style.Plain v h =
    let n = deeper (easy s) at.around in
    widened s.encoding (ascii s 1 + bodied s n v) (ascii s 3 + most_of_value (easy s) n v) (plain (page_at (easy s) at) flow v) (plain_most s at flow v) (room_for s n 1 v (omega arith))
text_most s at digit flow style.Single v h =
    let n = deeper (easy s) at.around in
    widened s.encoding (ascii s 3 + bodied s n v) (ascii s 3 + most_of_value (easy s) n v) (single_quoted (page_at (easy s) at) v) (single_most s at v) (room_for s n 3 v (omega arith))
text_most s at digit flow style.Double v h =
    let n = deeper (easy s) at.around in
    quoted_most (easy s) (easy s) at v (λ c. larger_left (most_of_quoted (easy s) n c) (ascii s (n + 10)))
text_most s at digit flow style.Literal v h =
    let n = deeper (easy s) at.around in
    widened s.encoding (ascii s 6 + bodied s n v) (ascii s 3 + most_of_value (easy s) n v) (block (page_at (easy s) at) digit false v) (blocked_most s at digit false v) (room_for_block s n v (h refl))
text_most s at digit flow style.Folded v h =
    let n = deeper (easy s) at.around in
    widened s.encoding (ascii s 6 + bodied s n v) (ascii s 3 + most_of_value (easy s) n v) (block (page_at (easy s) at) digit true v) (blocked_most s at digit true v) (room_for_block s n v (h refl))

chosen_text : (unicode : Bool) (a : yaml_scalar_style_t) (untagged flow simple empty : Bool)
    (v : List ℕ) → HasText (taken (allowed unicode v) a untagged flow simple empty) v
chosen_text unicode a untagged flow simple empty [] h =
    absurd (true≢false (sym h ∙ none_in_blocks unicode a untagged flow simple empty))
chosen_text unicode a untagged flow simple empty (c ∷ cs) h = omega arith

-- ---- properties

tag_less : (s : Settings) (ds : List TagDirective) (out : Bool) (tag : Option (List ℕ))
    → tag_bytes (at_easy s ds) (kept_if (not out) tag) ≤ tag_bytes (at_easy s ds) tag
tag_less s ds true None = le_refl _
tag_less s ds true (Some t) = omega arith
tag_less s ds false tag = le_refl _

start_less : (canonical : Bool) (s : Settings) (ds : List TagDirective) (q : Start)
    → tag_bytes (at_set canonical s ds) (start_tag canonical q)
    ≤ tag_bytes (at_set canonical s ds) (start_tag true q)
start_less true s ds q = le_refl _
start_less false s ds q = tag_less s ds q.implicit q.tag

scalar_most : (canonical : Bool) (s : Settings) (ds : List TagDirective) (at : NodePosition)
    (x : Scalar)
    → Takes s (most_of_node (at_set canonical s ds) (deeper s at.around) (scalar_node x))
    (scalar_layout (at_set canonical s ds) at x)
unfolding scalar_layout style_of most_of_node
scalar_most true s ds at x = quoted_scalar_most s ds at x
scalar_most false s ds at x =
    let p = at_easy s ds in
    let n = deeper (easy s) at.around in
    let k = most_of_value (easy s) n (chars x.value) in
    let t = style_of p at x in
    let text = scalar_text (page_at (easy s) at) s.indent at.flow t (chars x.value) in
    let mark = mark_text p x t in
    let props = properties_bytes p x.anchor (scalar_tag false x) in
    let whole = properties_bytes p x.anchor (scalar_tag true x) in
    let less = tag_less s ds (x.plain || x.quoted) x.tag in
    joined s.encoding props (ascii s 5 + k) (whole + ascii s 5 + k) (properties_text p x.anchor (scalar_tag false x)) (mark ▹ (checked n ▹ text)) (properties_most s ds x.anchor (scalar_tag false x))
    (joined s.encoding (ascii s 2) (ascii s 3 + k) (ascii s 5 + k) mark (checked n ▹ text)
    (when_most s.encoding (ascii s 2) (not (has (scalar_tag false x)) && (not x.quoted && not (is_plain t))) (word (33 ∷ [])) (ascii_word_most s.encoding (33 ∷ []) (ascii s 2) refl (omega arith)))
    (joined s.encoding 0 (ascii s 3 + k) (ascii s 3 + k) (checked n) text (checked_most s.encoding 0 n)
    (text_most s at s.indent at.flow t (chars x.value) (chosen_text s.unicode x.style _ at.flow _ _ (chars x.value))) (omega arith))
    (omega arith))
    (omega (arith, less))

-- ---- nodes

-- at an indentation that is found, whatever it is
indented_most : (x : Encoding) (k : ℕ) (f : Cursor → ℕ) (g : ℕ → Layout)
    → ((c : Cursor) → AtMost x k (g (f c))) → AtMost x k (indented f g)
indented_most x k f g h m rest w c = h c m rest w c

block_indent_most : (canonical : Bool) (s : Settings) (around : Option ℕ) (keeps : Bool)
    → block_indent_in (set canonical s) around keeps ≤ deeper (set canonical s) around
block_indent_most canonical s None keeps = omega arith
block_indent_most canonical s (Some n) true = omega arith
block_indent_most canonical s (Some n) false = le_refl _

indent_most : (canonical : Bool) (s : Settings) (at : NodePosition) (sequence flow : Bool)
    (c : Cursor) → indent_of (set canonical s) at sequence flow c ≤ deeper
    (set canonical s) at.around
indent_most canonical s at sequence true c = le_refl _
indent_most canonical s at sequence false c = block_indent_most canonical s at.around (sequence && (is_of_mapping at.part && not c.bare))

opened_most : (canonical : Bool) (s : Settings) (ds : List TagDirective) (q : Start) (flow : Bool)
    (i k : ℕ) (f : Cursor → ℕ) (held : ℕ → Layout) → nat_lt i 128 ≡ true
    → ((c : Cursor) → Takes s k (held (f c))) → Takes s
    (properties_bytes (at_set canonical s ds) q.anchor (start_tag true q) + ascii s 2 + k)
    (properties_text (at_set canonical s ds) q.anchor (start_tag canonical q) ▹ (when flow
    (opener i) ▹ indented f (λ n. checked n ▹ held n)))
opened_most canonical s ds q flow i k f held e h =
    let p = at_set canonical s ds in
    let props = properties_bytes p q.anchor (start_tag canonical q) in
    let whole = properties_bytes p q.anchor (start_tag true q) in
    let less = start_less canonical s ds q in
    let found = indented f (λ n. checked n ▹ held n) in
    joined s.encoding props (ascii s 2 + k) (whole + ascii s 2 + k) (properties_text p q.anchor (start_tag canonical q)) (when flow (opener i) ▹ found) (properties_most s ds q.anchor (start_tag canonical q))
    (joined s.encoding (ascii s 2) k (ascii s 2 + k) (when flow (opener i)) found (when_most s.encoding (ascii s 2) flow (opener i) (opener_most s.encoding i e))
    (indented_most s.encoding k f (λ n. checked n ▹ held n) (λ c. joined s.encoding 0 k k (checked (f c)) (held (f c)) (checked_most s.encoding 0 (f c)) (h c) (omega arith))) (le_refl _))
    (omega (arith, less))

mutual
  unfolding node_layout items_layout pairs_layout most_of_node most_of_items most_of_pairs

  node_is : (canonical : Bool) (s : Settings) (ds : List TagDirective) (at : NodePosition) (n : ℕ)
      (x : Node) → deeper (set canonical s) at.around ≤ n → Takes s
      (most_of_node (at_set canonical s ds) n x) (node_layout (at_set canonical s ds) at x)
  node_is canonical s ds at n (alias_node name) w = alias_most s at name
  node_is canonical s ds at n (scalar_node x) w =
      let m = deeper (set canonical s) at.around in
      widened s.encoding (most_of_node (at_set canonical s ds) m (scalar_node x)) (most_of_node (at_set canonical s ds) n (scalar_node x)) (scalar_layout (at_set canonical s ds) at x) (scalar_most canonical s ds at x)
      (omega (arith, value_grows (set canonical s) m n (chars x.value) w))
  node_is canonical s ds at n (sequence_node q items) w =
      let flow = is_flow (set canonical s) at q (are_none items) in
      opened_most canonical s ds q flow 91 (most_of_items (at_set canonical s ds) n items) (indent_of (set canonical s) at true flow) (λ m. items_layout (at_set canonical s ds) flow m true items) refl
      (λ c. items_are canonical s ds flow (indent_of (set canonical s) at true flow c) n true items (omega (arith, w, indent_most canonical s at true flow c)))
  node_is canonical s ds at n (mapping_node q pairs) w =
      let flow = is_flow (set canonical s) at q (are_no_pairs pairs) in
      opened_most canonical s ds q flow 123 (most_of_pairs (at_set canonical s ds) n pairs) (indent_of (set canonical s) at false flow) (λ m. pairs_layout (at_set canonical s ds) flow m true pairs) refl
      (λ c. pairs_are canonical s ds flow (indent_of (set canonical s) at false flow c) n true pairs (omega (arith, w, indent_most canonical s at false flow c)))

  items_are : (canonical : Bool) (s : Settings) (ds : List TagDirective) (flow : Bool) (m n : ℕ)
      (fresh : Bool) (ns : Nodes) → m ≤ n → Takes s (most_of_items (at_set canonical s ds) n ns)
      (items_layout (at_set canonical s ds) flow m fresh ns)
  items_are canonical s ds flow m n fresh no_nodes w = widened s.encoding (most_of_line s m) (most_of_line s n) (closer (set canonical s) flow m fresh 93) (closer_most canonical s flow m fresh 93 refl) (line_grows s m n w)
  items_are canonical s ds flow m n fresh (node x xs) w =
      let p = at_set canonical s ds in
      let a = node_layout p (position flow m part.Item) x in
      let more = items_layout p flow m false xs in
      let i = most_of_node p (n + s.indent) x in
      let j = most_of_items p n xs in
      let l = most_of_line s n in
      joined s.encoding l (i + j) (l + i + j) (before_item (set canonical s) flow m fresh) (a ▹ more) (widened s.encoding (most_of_line s m) l (before_item (set canonical s) flow m fresh) (before_item_most canonical s flow m fresh) (line_grows s m n w))
      (joined s.encoding i j (i + j) a more (node_is canonical s ds (position flow m part.Item) (n + s.indent) x (omega (arith, w))) (items_are canonical s ds flow m n false xs w) (le_refl _)) (omega arith)

  pairs_are : (canonical : Bool) (s : Settings) (ds : List TagDirective) (flow : Bool) (m n : ℕ)
      (fresh : Bool) (ps : Pairs) → m ≤ n → Takes s (most_of_pairs (at_set canonical s ds) n ps)
      (pairs_layout (at_set canonical s ds) flow m fresh ps)
  pairs_are canonical s ds flow m n fresh no_pairs w = widened s.encoding (most_of_line s m) (most_of_line s n) (closer (set canonical s) flow m fresh 125) (closer_most canonical s flow m fresh 125 refl) (line_grows s m n w)
  pairs_are canonical s ds flow m n fresh (pair k v ps) w =
      let p = at_set canonical s ds in
      let simple = is_simple p k in
      let key = node_layout p (position flow m (key_part simple)) k in
      let value = node_layout p (position flow m part.Value) v in
      let more = pairs_layout p flow m false ps in
      let colon = before_value (set canonical s) flow m simple in
      let i = most_of_node p (n + s.indent) k in
      let j = most_of_node p (n + s.indent) v in
      let q = most_of_pairs p n ps in
      let l = most_of_line s n in
      joined s.encoding l (i + (l + (j + q))) (l + i + l + j + q) (before_key (set canonical s) flow m fresh simple) (key ▹ (colon ▹ (value ▹ more)))
      (widened s.encoding (most_of_line s m) l (before_key (set canonical s) flow m fresh simple) (before_key_most canonical s flow m fresh simple) (line_grows s m n w))
      (joined s.encoding i (l + (j + q)) (i + (l + (j + q))) key (colon ▹ (value ▹ more)) (node_is canonical s ds (position flow m (key_part simple)) (n + s.indent) k (omega (arith, w)))
      (joined s.encoding l (j + q) (l + (j + q)) colon (value ▹ more) (widened s.encoding (most_of_line s m) l colon (before_value_most canonical s flow m simple) (line_grows s m n w))
      (joined s.encoding j q (j + q) value more (node_is canonical s ds (position flow m part.Value) (n + s.indent) v (omega (arith, w))) (pairs_are canonical s ds flow m n false ps w) (le_refl _)) (le_refl _)) (le_refl _))
      (omega arith)

-- ---- documents

documents_are : (canonical : Bool) (s : Settings) (first unended : Bool) (ds : List Document)
    → Takes s (ascii s 6 + most_of_documents (set canonical s) ds)
    (documents_layout (set canonical s) first unended ds)
unfolding documents_layout most_of_documents
documents_are canonical s first unended [] = widened s.encoding (ascii s 6) (ascii s 6 + 0) (stop_layout (set canonical s) unended) (stop_most (set canonical s) unended) (omega arith)
documents_are canonical s first unended (d ∷ ds) =
    let x = s.encoding in
    let t = directives_bytes (set canonical s) d.opening.directives in
    let n = most_of_node (at_set canonical s d.opening.directives) s.indent d.root in
    let m = most_of_documents (set canonical s) ds in
    let root = node_layout (at_set canonical s d.opening.directives) root_position d.root in
    let ended = end_layout (set canonical s) d.implicit_end in
    let left = documents_layout (set canonical s) false d.implicit_end ds in
    joined x (ascii s 26 + t) (n + (ascii s 8 + (ascii s 6 + m))) (ascii s 6 + (ascii s 34 + t + n + m)) (start_layout (set canonical s) first unended d.opening) (root ▹ (ended ▹ left))
    (start_most (set canonical s) first unended d.opening)
    (joined x n (ascii s 8 + (ascii s 6 + m)) (n + (ascii s 8 + (ascii s 6 + m))) root (ended ▹ left) (node_is canonical s d.opening.directives root_position s.indent d.root (le_refl _))
    (joined x (ascii s 8) (ascii s 6 + m) (ascii s 8 + (ascii s 6 + m)) ended left (end_most (set canonical s) d.implicit_end) (documents_are canonical s false d.implicit_end ds) (le_refl _)) (le_refl _))
    (omega arith)

stream_most : (canonical : Bool) (s : Settings) (ds : List Document)
    → Takes s (most_bytes (set canonical s) ds) (stream_layout (set canonical s) ds)
unfolding stream_layout
stream_most canonical s ds =
    joined s.encoding (unit s.encoding) (ascii s 6 + most_of_documents (set canonical s) ds) (most_bytes (set canonical s) ds) (order_mark s.encoding) (documents_layout (set canonical s) true false ds)
    (mark_most s.encoding) (documents_are canonical s true false ds) (omega arith)

-- of the whole text
pub by_content : SizesAreByContent
unfolding encode
by_content s ds =
    let i : size s.encoding (written (stream_layout s ds)) ≤ most_bytes s ds + 0 = stream_most s.canonical s ds 0 nothing_more (λ c. le_refl _) start in
    omega arith
