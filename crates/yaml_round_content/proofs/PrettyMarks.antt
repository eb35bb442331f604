-- Pretty text begins with no byte order mark.
use Rattle.std.proofs.Common.{◌≡◌, ℕ, zero, suc, ◌-◌, ◌<◌, Bool, true, false, not, ◌&&◌, ◌||◌, ◌==◌, nat_lt, if◌then◌else◌, List, [], ◌∷◌, ◌++◌, Option, refl, sym, ap, subst, ◌∙◌, arith, codes, nat_eq, chars}
use Rattle.yaml_round_content.proofs.PrettyWords.{nat_tests, false≢true, TagDirective, encoding_of, mark_length, Cursor, Page, LineBreak, Settings, Style, Item, letter, shown, is_break, is_printable, quoted_body, value_break, cuts_at, cut, quote_char, text_char, flow_char, flow_body, block_header, chomp, chomp_mark, digit_mark, scalar_text, Layout, Rest, ◌▹◌, stay, choose, when, char, letters, blank, blanks, break, new_line, gap, is_white, word, indicator, opener, must_break, indent_to, line, is_past, keep, NodePosition, Opening, Document, Scalar, Start, Node, alias_node, scalar_node, sequence_node, mapping_node, Nodes, no_nodes, node, Pairs, no_pairs, pair, has, kept_tag, scalar_tag, start_tag, Context, context_of, MOST, is_kept, is_plain, is_simple_part, root_position, deeper, page_at, checked, deep_if, line_at, anchor_text, tag_text, properties_text, style_of, mark_text, scalar_layout, alias_layout, is_flow, indent_of, indented, are_none, are_no_pairs, before_item, before_key, before_value, closer, node_layout, items_layout, pairs_layout, dots, is_directed, is_marked, version_text, directive_text, directives_text, dashes, start_layout, end_layout, stop_layout, documents_layout, IsReadable, written_readable}
use Rattle.yaml_emit_laws.specs.scan_model.declared.record.yaml_version_directive_t.{yaml_version_directive_t}
use Rattle.yaml_emit_laws.specs.emit_layout.Tags.{Split, spelled}
use Rattle.yaml_emit_laws.specs.emit_layout.declared.LineBreak.TheVariants.{Lf, Cr, CrLf}
use Rattle.yaml_emit_laws.specs.emit_layout.declared.Style.TheVariants as style
use Rattle.yaml_emit_laws.specs.Writable as text
use Rattle.yaml_round_content.proofs.Marks.{Told}
use Rattle.yaml_round_content.proofs.PrettyLayouts.{ArePrintable, Needs, style_needs}
use Rattle.yaml_round_content.proofs.Premises.{Opened}

-- ---- the first character isn't the mark

abbrev pub NoMark : ℕ → Type 0
NoMark x = x ≡ 0xFEFF → ⊥

abbrev pub Unmarked : List ℕ → Type 0
Unmarked [] = Unit {0}
Unmarked (c ∷ cs) = NoMark c

abbrev pub Begins : List Item → Type 0
Begins t = Unmarked (shown t)

pub begins_letter : (x : ℕ) (t : List Item) → NoMark x → Begins (letter x ∷ t)
unfolding shown
begins_letter x t h = h

pub begins_nothing : Begins []
unfolding shown
begins_nothing = tt

low : (x : ℕ) → x < 128 → NoMark x
low x h e = omega (arith, h, e)

printed : (x : ℕ) → is_printable x ≡ true → NoMark x
printed x h e = false≢true (sym refl ∙ ap (λ (y : ℕ). is_printable y) (sym e) ∙ h)

-- what follows may begin so, or it doesn't matter
abbrev Heads : Layout → Type 0
Heads a = (c : Cursor) (rest : Rest) → ((d : Cursor) → Begins (rest d)) → Begins (a c rest)

abbrev Leads : Layout → Type 0
Leads a = (c : Cursor) (rest : Rest) → Begins (a c rest)

led : (a : Layout) → Leads a → Heads a
led a h c rest r = h c rest

both : (a b : Layout) → Heads a → Heads b → Heads (a ▹ b)
both a b ha hb c rest r = ha c (λ d. b d rest) (λ d. hb d rest r)

leading : (a b : Layout) → Leads a → Leads (a ▹ b)
leading a b ha c rest = ha c (λ d. b d rest)

behind : (a b : Layout) → Heads a → Leads b → Leads (a ▹ b)
behind a b ha hb c rest = ha c (λ d. b d rest) (λ d. hb d rest)

stay_heads : Heads stay
stay_heads c rest r = r c

choose_heads : (test : Cursor → Bool) (a b : Layout) → Heads a → Heads b → Heads (choose test a b)
choose_heads test a b ha hb c rest r = grind (arith, nat_tests)

when_heads : (b : Bool) (a : Layout) → Heads a → Heads (when b a)
when_heads b a h = grind (arith, nat_tests, stay_heads)

if_heads : (b : Bool) (x y : Layout) → Heads x → Heads y → Heads (if b then x else y)
if_heads b x y f g = grind (arith, nat_tests)

char_leads : (x : ℕ) → NoMark x → Leads (char x)
char_leads x h c rest = begins_letter x (rest _) h

break_leads : (x : ℕ) → NoMark x → Leads (break x)
break_leads x h c rest = begins_letter x (rest _) h

blank_leads : Leads blank
blank_leads c rest = begins_letter 32 (rest _) (low 32 (omega arith))

blanks_heads : (n : ℕ) → Heads (blanks n)
unfolding blanks
blanks_heads zero = stay_heads
blanks_heads (suc n) = led (blanks (suc n)) (leading blank (blanks n) blank_leads)

gap_heads : Heads gap
gap_heads = choose_heads is_white stay blank stay_heads (led blank blank_leads)

word_leads : (x : ℕ) (xs : List ℕ) → NoMark x → Leads (word (x ∷ xs))
unfolding letters
word_leads x xs h = behind gap (letters (x ∷ xs)) gap_heads (leading (char x) (letters xs) (char_leads x h))

indicator_leads : (x : ℕ) → NoMark x → Leads (indicator x)
indicator_leads x h = behind gap _ gap_heads (λ c rest. begins_letter x (rest _) h)

opener_leads : (x : ℕ) → NoMark x → Leads (opener x)
opener_leads x h = behind gap _ gap_heads (λ c rest. begins_letter x (rest _) h)

new_line_leads : (b : LineBreak) → Leads (new_line b)
new_line_leads Lf = break_leads 10 (low 10 (omega arith))
new_line_leads Cr = break_leads 13 (low 13 (omega arith))
new_line_leads CrLf = leading (char 13) (break 10) (char_leads 13 (low 13 (omega arith)))

line_heads : (b : LineBreak) (n : ℕ) → Heads (line b n)
unfolding line
line_heads b n = both (choose (must_break n) (new_line b) stay) (indent_to n) (choose_heads (must_break n) (new_line b) stay (led (new_line b) (new_line_leads b)) stay_heads) (λ c rest r. blanks_heads (n - c.column) c rest r)

deep_heads : (b : Bool) (t : List Item) → Begins t → Begins (deep_if b t)
unfolding shown
deep_heads b t h = grind (arith, nat_tests)

checked_heads : (n : ℕ) → Heads (checked n)
checked_heads n c rest r = deep_heads (nat_lt MOST n) (rest c) (r c)

-- ---- scalars

value_break_heads : (b : LineBreak) (x : ℕ) → NoMark x → Heads (value_break b x)
value_break_heads b x h = if_heads (x == 10) (new_line b) (break x) (led (new_line b) (new_line_leads b)) (led (break x) (break_leads x h))

flow_heads : (page : Page) (quote : Bool) (before : ℕ) (cs : List ℕ) → ArePrintable cs
    → Heads (flow_body page quote before cs)
unfolding flow_body flow_char
flow_heads page quote before [] h = when_heads (is_break before) (line page.line_break page.indentation) (line_heads page.line_break page.indentation)
flow_heads page quote before (x ∷ xs) (h, hs) =
    let one = led (char x) (char_leads x (printed x h)) in
    let tick = led (char 39) (char_leads 39 (low 39 (omega arith))) in
    both (flow_char page quote before x xs) (flow_body page quote x xs)
    (if_heads (is_break x) (when (x == 10 && not (is_break before)) (new_line page.line_break) ▹ value_break page.line_break x) _
    (both (when (x == 10 && not (is_break before)) (new_line page.line_break)) (value_break page.line_break x) (when_heads (x == 10 && not (is_break before)) (new_line page.line_break) (led (new_line page.line_break) (new_line_leads page.line_break))) (value_break_heads page.line_break x (printed x h)))
    (both (when (is_break before) (line page.line_break page.indentation)) (text_char page quote (cuts_at page before x xs) x) (when_heads (is_break before) (line page.line_break page.indentation) (line_heads page.line_break page.indentation))
    (if_heads (cuts_at page before x xs) (cut page x) (quote_char quote x) (choose_heads (is_past page.width) (line page.line_break page.indentation) (char x) (line_heads page.line_break page.indentation) one)
    (both (when (quote && x == 39) (char 39)) (char x) (when_heads (quote && x == 39) (char 39) tick) one))))
    (flow_heads page quote x xs hs)

opened : (x : ℕ) (b : Layout) → NoMark x → Heads (gap ▹ (char x ▹ b))
opened x b h = led (gap ▹ (char x ▹ b)) (behind gap (char x ▹ b) gap_heads (leading (char x) b (char_leads x h)))

header_low : (folded : Bool) → NoMark (if folded then 62 else 124)
header_low folded = grind (arith, nat_tests, low)

block_heads : (page : Page) (digit : ℕ) (folded : Bool) (cs : List ℕ) (b : Layout)
    → Heads (block_header digit folded cs ▹ b)
block_heads page digit folded cs b =
    let tail = digit_mark digit cs ▹ chomp_mark (chomp true true cs) in
    let sign = char (if folded then 62 else 124) in
    led (block_header digit folded cs ▹ b) (leading (gap ▹ (sign ▹ tail)) b (behind gap (sign ▹ tail) gap_heads (leading sign tail (char_leads (if folded then 62 else 124) (header_low folded)))))

scalar_heads : (page : Page) (digit : ℕ) (flow : Bool) (s : Style) (cs : List ℕ)
    → Needs s (ArePrintable cs) → Heads (scalar_text page digit flow s cs)
unfolding scalar_text
scalar_heads page digit flow style.Plain cs h = grind (arith, nat_tests, both, when_heads, gap_heads, flow_heads)
scalar_heads page digit flow style.Single cs h = opened 39 (flow_body page true 32 cs ▹ char 39) (low 39 (omega arith))
scalar_heads page digit flow style.Double cs h = opened 34 (quoted_body page 32 cs ▹ char 34) (low 34 (omega arith))
scalar_heads page digit flow style.Literal cs h = block_heads page digit false cs _
scalar_heads page digit flow style.Folded cs h = block_heads page digit true cs _

-- ---- properties

anchor_heads : (anchor : Option (List ℕ)) → Heads (anchor_text anchor)
anchor_heads anchor = grind (arith, nat_tests, stay_heads, led, word_leads, low)

shaped : (x : List ℕ) (xs tail : List ℕ) → x ≡ 33 ∷ xs → Leads (word (x ++ tail))
shaped x xs tail e = subst (λ (y : List ℕ). Leads (word (y ++ tail))) (sym e) (word_leads 33 (xs ++ tail) (low 33 (omega arith)))

split_leads : (s : Split) → IsReadable s → Leads (word (spelled s))
unfolding spelled
split_leads s h = grind (arith, nat_tests, shaped, word_leads, low)

tag_heads : (s : Settings) (o : Opening) → Opened o → (t : Option (List ℕ)) → text.IsWritableTag t
    → Heads (tag_text (context_of s o.directives) t)
tag_heads s o h t w = grind (arith, nat_tests, stay_heads, led, split_leads, written_readable)

kept_writable : (canonical left_out : Bool) (t : Option (List ℕ)) → text.IsWritableTag t
    → text.IsWritableTag (kept_tag canonical left_out t)
kept_writable canonical left_out t h = grind (arith, nat_tests)

-- ---- nodes

abbrev NodeHeads : Settings → Opening → Node → Type 0
NodeHeads s o n = (at : NodePosition) → Heads (node_layout (context_of s o.directives) at n)

properties_heads : (s : Settings) (o : Opening) → Opened o → (anchor tag : Option (List ℕ))
    → text.IsWritableTag tag → Heads (properties_text (context_of s o.directives) anchor tag)
properties_heads s o h anchor tag w = both (anchor_text anchor) (tag_text (context_of s o.directives) tag) (anchor_heads anchor) (tag_heads s o h tag w)

text_by : (p : Context) (at : NodePosition) (x : Scalar)
    → Heads (scalar_text (page_at p.settings at) p.settings.indent at.flow (style_of p at x)
    (chars x.value))
unfolding style_of
text_by p at x = grind (arith, nat_tests, scalar_heads, style_needs)

alias_heads : (s : Settings) (o : Opening) (name : List ℕ) → NodeHeads s o (alias_node name)
unfolding node_layout alias_layout
alias_heads s o name at = led (word (42 ∷ name) ▹ when (is_simple_part at.part) (char 32)) (leading (word (42 ∷ name)) (when (is_simple_part at.part) (char 32)) (word_leads 42 name (low 42 (omega arith))))

leaf_heads : (s : Settings) (o : Opening) → Opened o → (x : Scalar) → text.IsWritableTag x.tag
    → NodeHeads s o (scalar_node x)
unfolding node_layout scalar_layout
leaf_heads s o h x w at =
    let p = context_of s o.directives in
    let tag = scalar_tag s.canonical x in
    let k = style_of p at x in
    let body = scalar_text (page_at s at) s.indent at.flow k (chars x.value) in
    both (properties_text p x.anchor tag) (mark_text p x k ▹ (checked (deeper s at.around) ▹ body)) (properties_heads s o h x.anchor tag (kept_writable s.canonical (x.plain || x.quoted) x.tag w))
    (both (mark_text p x k) (checked (deeper s at.around) ▹ body) (when_heads (not (has tag) && (not x.quoted && not (is_plain k))) (word (33 ∷ [])) (led (word (33 ∷ [])) (word_leads 33 [] (low 33 (omega arith)))))
    (both (checked (deeper s at.around)) body (checked_heads (deeper s at.around)) (text_by p at x)))

-- block items, and block pairs
abbrev ItemsHeads : Context → Nodes → Type 0
ItemsHeads p ns = (n : ℕ) → Heads (items_layout p false n true ns)

abbrev PairsHeads : Context → Pairs → Type 0
PairsHeads p ps = (n : ℕ) → Heads (pairs_layout p false n true ps)

items_heads : (p : Context) (ns : Nodes) → ItemsHeads p ns
unfolding items_layout closer before_item
items_heads p no_nodes n = stay_heads
items_heads p (node x xs) n = grind (arith, nat_tests, led, leading, behind, line_heads, indicator_leads, low)

value_leads : (s : Settings) (n : ℕ) (simple : Bool) → Leads (before_value s false n simple)
unfolding before_value
value_leads s n simple = grind (arith, nat_tests, char_leads, low, behind, line_heads, indicator_leads)

key_heads : (s : Settings) (n : ℕ) (simple : Bool) → Heads (before_key s false n true simple)
unfolding before_key
key_heads s n simple = both (line_at s n) (when (not simple) (indicator 63)) (line_heads s.line_break n) (when_heads (not simple) (indicator 63) (led (indicator 63) (indicator_leads 63 (low 63 (omega arith)))))

pair_heads : (s : Settings) (o : Opening) (k v : Node) (ps : Pairs) → NodeHeads s o k
    → PairsHeads (context_of s o.directives) (pair k v ps)
unfolding pairs_layout
pair_heads s o k v ps key n = grind (arith, nat_tests, both, key_heads, led, leading, value_leads)

no_pair_heads : (p : Context) → PairsHeads p no_pairs
unfolding pairs_layout closer
no_pair_heads p n = stay_heads

items_by : (f : Bool) (p : Context) (ns : Nodes) (g : Cursor → ℕ)
    → Heads (when f (opener 91) ▹ indented g (λ n. checked n ▹ items_layout p f n true ns))
items_by true p ns g = led _ (leading (opener 91) (indented g (λ n. checked n ▹ items_layout p true n true ns)) (opener_leads 91 (low 91 (omega arith))))
items_by false p ns g = λ c rest r. both (checked (g c)) (items_layout p false (g c) true ns) (checked_heads (g c)) (items_heads p ns (g c)) c rest r

pairs_by : (f : Bool) (p : Context) (ps : Pairs) → PairsHeads p ps → (g : Cursor → ℕ)
    → Heads (when f (opener 123) ▹ indented g (λ n. checked n ▹ pairs_layout p f n true ps))
pairs_by true p ps h g = led _ (leading (opener 123) (indented g (λ n. checked n ▹ pairs_layout p true n true ps)) (opener_leads 123 (low 123 (omega arith))))
pairs_by false p ps h g = λ c rest r. both (checked (g c)) (pairs_layout p false (g c) true ps) (checked_heads (g c)) (h (g c)) c rest r

sequence_heads : (s : Settings) (o : Opening) → Opened o → (q : Start) (ns : Nodes)
    → text.IsWritableTag q.tag → NodeHeads s o (sequence_node q ns)
unfolding node_layout
sequence_heads s o h q ns w at =
    let p = context_of s o.directives in
    let f = is_flow s at q (are_none ns) in
    both (properties_text p q.anchor (start_tag s.canonical q)) (when f (opener 91) ▹ indented (indent_of s at true f) (λ n. checked n ▹ items_layout p f n true ns)) (properties_heads s o h q.anchor (start_tag s.canonical q) (kept_writable s.canonical q.implicit q.tag w)) (items_by f p ns (indent_of s at true f))

mapping_heads : (s : Settings) (o : Opening) → Opened o → (q : Start) (ps : Pairs)
    → text.IsWritableTag q.tag → PairsHeads (context_of s o.directives) ps
    → NodeHeads s o (mapping_node q ps)
unfolding node_layout
mapping_heads s o h q ps w inner at =
    let p = context_of s o.directives in
    let f = is_flow s at q (are_no_pairs ps) in
    both (properties_text p q.anchor (start_tag s.canonical q)) (when f (opener 123) ▹ indented (indent_of s at false f) (λ n. checked n ▹ pairs_layout p f n true ps)) (properties_heads s o h q.anchor (start_tag s.canonical q) (kept_writable s.canonical q.implicit q.tag w)) (pairs_by f p ps inner (indent_of s at false f))

mutual
  node_heads : (s : Settings) (o : Opening) → Opened o → (n : Node) → text.IsWritable n
      → NodeHeads s o n
  node_heads s o h (alias_node name) w = alias_heads s o name
  node_heads s o h (scalar_node x) (a, t, v) = leaf_heads s o h x t
  node_heads s o h (sequence_node q items) (a, t, w) = sequence_heads s o h q items t
  node_heads s o h (mapping_node q pairs) (a, t, w) = mapping_heads s o h q pairs t (pairs_heads s o h pairs w)

  pairs_heads : (s : Settings) (o : Opening) → Opened o → (ps : Pairs) → text.ArePairsWritable ps
      → PairsHeads (context_of s o.directives) ps
  pairs_heads s o h no_pairs w = no_pair_heads (context_of s o.directives)
  pairs_heads s o h (pair k v ps) (wk, wv, ws) = pair_heads s o k v ps (node_heads s o h k wk)

-- ---- documents

dots_leads : (s : Settings) → Leads (dots s)
dots_leads s = leading (word (46 ∷ 46 ∷ 46 ∷ [])) (line_at s 0) (word_leads 46 (46 ∷ 46 ∷ []) (low 46 (omega arith)))

dashes_leads : (s : Settings) → Leads (dashes s)
dashes_leads s = behind (line_at s 0) (word (45 ∷ 45 ∷ 45 ∷ []) ▹ when s.canonical (line_at s 0)) (line_heads s.line_break 0) (leading (word (45 ∷ 45 ∷ 45 ∷ [])) (when s.canonical (line_at s 0)) (word_leads 45 (45 ∷ 45 ∷ []) (low 45 (omega arith))))

version_heads : (s : Settings) (v : Option yaml_version_directive_t) → Heads (version_text s v)
version_heads s v = grind (arith, nat_tests, stay_heads, led, leading, word_leads, low)

directives_heads : (s : Settings) (ds : List TagDirective) → Heads (directives_text s ds)
unfolding directives_text
directives_heads s [] = stay_heads
directives_heads s (d ∷ ds) = led (directive_text s d ▹ directives_text s ds) (leading (directive_text s d) (directives_text s ds) (leading (word (codes "%TAG")) _ (word_leads 37 _ (low 37 (omega arith)))))

start_heads : (s : Settings) (fresh unended : Bool) (o : Opening)
    → Heads (start_layout s fresh unended o)
unfolding start_layout
start_heads s fresh unended o =
    let dash = when (is_marked s fresh o) (dashes s) in
    both (when (unended && is_directed o) (dots s)) (keep false ▹ (version_text s o.version ▹ (directives_text s o.directives ▹ dash))) (when_heads (unended && is_directed o) (dots s) (led (dots s) (dots_leads s)))
    (both (keep false) (version_text s o.version ▹ (directives_text s o.directives ▹ dash)) (λ c rest r. r _)
    (both (version_text s o.version) (directives_text s o.directives ▹ dash) (version_heads s o.version)
    (both (directives_text s o.directives) dash (directives_heads s o.directives) (when_heads (is_marked s fresh o) (dashes s) (led (dashes s) (dashes_leads s))))))

end_heads : (s : Settings) (implicit : Bool) → Heads (end_layout s implicit)
unfolding end_layout
end_heads s implicit = both (line_at s 0) (when (not implicit) (dots s)) (line_heads s.line_break 0) (when_heads (not implicit) (dots s) (led (dots s) (dots_leads s)))

pub documents_heads : (s : Settings) (fresh unended : Bool) (ds : List Document)
    → text.AreWritable ds → Heads (documents_layout s fresh unended ds)
unfolding documents_layout stop_layout
documents_heads s fresh unended [] w = when_heads unended (choose is_kept (dots s) stay) (choose_heads is_kept (dots s) stay (led (dots s) (dots_leads s)) stay_heads)
documents_heads s fresh unended (d ∷ ds) ((right, utf8), root, more) =
    let body = node_layout (context_of s d.opening.directives) root_position d.root in
    both (start_layout s fresh unended d.opening) (body ▹ (end_layout s d.implicit_end ▹ documents_layout s false d.implicit_end ds)) (start_heads s fresh unended d.opening)
    (both body (end_layout s d.implicit_end ▹ documents_layout s false d.implicit_end ds) (node_heads s d.opening (record { right = right; utf8 = utf8 }) d.root root root_position)
    (both (end_layout s d.implicit_end) (documents_layout s false d.implicit_end ds) (end_heads s d.implicit_end) (documents_heads s false d.implicit_end ds more)))

-- ---- bytes

pub told_one : (b : ℕ) (bs : List ℕ) → nat_eq 0xFF b ≡ false → nat_eq 0xFE b ≡ false
    → nat_eq 0xEF b ≡ false → Told (b ∷ bs)
unfolding encoding_of mark_length
told_one b bs x y z = (rw (x, y) refl, rw (x, y, z) refl)

pub told_three : (b c d : ℕ) (bs : List ℕ) → nat_eq 0xFF b ≡ false → nat_eq 0xFE b ≡ false
    → (e f g : Bool) → nat_eq 0xEF b ≡ e → nat_eq 0xBB c ≡ f → nat_eq 0xBF d ≡ g
    → (e && (f && g)) ≡ false → Told (b ∷ c ∷ d ∷ bs)
unfolding encoding_of mark_length
told_three b c d bs x y e f g z u v none = grind (arith, nat_tests, false≢true)
