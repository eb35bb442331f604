-- The pretty layout writes characters that a stream may hold.
use Rattle.std.proofs.Common.{◌≡◌, ℕ, ◌+◌, ◌<◌, Bool, true, false, not, ◌&&◌, ◌||◌, ◌==◌, nat_lt, if◌then◌else◌, List, [], ◌∷◌, refl, arith, IsUtf8, chars, length, Option}
use Rattle.yaml_round_content.proofs.PrettyWords.{nat_tests, or_parts, and_parts, not-true, yaml_scalar_style_t, Page, LineBreak, Style, Allowed, is_break, somewhere, is_special, is_break_space, is_not_plain, is_not_flow, ends_in_space, starts_badly, allowed_text, allowed, plain_fits, single_or, plain_or, taken, is_printable, first, is_empty, value_break, cuts_at, cut, quote_char, text_char, flow_char, flow_body, adds_break, cuts_block, line_blank, block_text, block_char, block_body, chomp, chomp_mark, digit_char, block, scalar_text, Layout, ◌▹◌, when, char, break, new_line, gap, line, is_past, keep, after_text, after_block, stay, choose, word, indicator, opener, Tame, both, stay_tame, choose_tame, when_tame, char_tame, new_line_tame, gap_tame, line_tame, keep_tame, break_tame, letter_allowed, word_tame, opener_tame, Cursor, Settings, NodePosition, Document, Scalar, Start, Node, alias_node, scalar_node, sequence_node, mapping_node, Nodes, no_nodes, node, Pairs, no_pairs, pair, has, kept_tag, scalar_tag, start_tag, version_problem, directives_problem, Context, context_of, is_kept, is_plain, is_simple, is_simple_part, key_part, root_position, position, deeper, page_at, checked, line_at, wrap_at, properties_text, style_of, mark_text, scalar_layout, alias_layout, is_flow, indent_of, indented, are_none, are_no_pairs, comma, turned, before_item, question, before_key, before_value, closer, node_layout, items_layout, pairs_layout, dots, is_directed, is_marked, version_text, directives_text, dashes, start_layout, end_layout, stop_layout, documents_layout, IsNameOption, IsTextOption, IsSpellable, AreSpellable, PairsAreSpellable, DocumentsAreSpellable, or_second}
use Rattle.yaml_parse_model.specs.declared.yaml_scalar_style_t.TheVariants as asked
use Rattle.yaml_emit_laws.specs.emit_layout.declared.Style.TheVariants as style
use Rattle.yaml_emit_laws.specs.emit_layout.declared.Chomp.{Chomp}
use Rattle.yaml_emit_laws.specs.emit_layout.declared.Chomp.TheVariants as chomping
use Rattle.yaml_round_content.proofs.Characters.{Fits, graphic, printed, is_32, names_fit}
use Rattle.yaml_round_content.proofs.Leaves.{quoted_tame, TagsFit, handles_fit, tags_fit, version_tame, directives_tame}
use Rattle.yaml_emit_laws.proofs.Single.{shown_first}
use Rattle.yaml_emit_laws.specs.emit_layout.declared.level.Part.TheVariants as part
use Rattle.yaml_round_content.proofs.Nodes.{dots_tame, properties_tame, checked_tame, comma_tame}

-- ---- characters that are printed

abbrev pub ArePrintable : List ℕ → Type 0
ArePrintable [] = Unit {0}
ArePrintable (c ∷ cs) = (is_printable c ≡ true) × ArePrintable cs

printable : (unicode : Bool) (before : ℕ) (cs : List ℕ)
    → somewhere (is_special unicode) before cs ≡ false → ArePrintable cs
unfolding somewhere
printable unicode before [] e = tt
printable unicode before (c ∷ cs) e =
    let here = (or_parts (is_special unicode before c (first cs)) (somewhere (is_special unicode) c cs) e).0 in
    (shown_first unicode before c (first cs) here, printable unicode c cs (or_parts (is_special unicode before c (first cs)) (somewhere (is_special unicode) c cs) e).1)

-- ---- all styles but double quotes take such values alone

abbrev pub Needs : Style → Type 0 → Type 0
Needs style.Plain P = P
Needs style.Single P = P
Needs style.Double P = Unit {0}
Needs style.Literal P = P
Needs style.Folded P = P

needs_any : (s : Style) (P : Type 0) → P → Needs s P
needs_any style.Double P p = tt
needs_any _ P p = p

record Clear (a : Allowed) (P : Type 0) : Type 0 where
  plain : a.plain ≡ true → P
  flow_plain : a.flow_plain ≡ true → P
  single : a.single ≡ true → P
  block : a.block ≡ true → P

needs_if : (b : Bool) (s : Style) (P : Type 0) → (b ≡ true → P)
    → Needs (if b then s else style.Double) P
needs_if true s P f = needs_any s P (f refl)
needs_if false s P f = tt

fits_by : (a : Allowed) (P : Type 0) → Clear a P → (flow b : Bool)
    → ((if flow then a.flow_plain else a.plain) && b) ≡ true → P
fits_by a P h true b e = h.flow_plain (and_parts a.flow_plain b e).0
fits_by a P h false b e = h.plain (and_parts a.plain b e).0

needs_single : (a : Allowed) (P : Type 0) → Clear a P → Needs (single_or a) P
needs_single a P h = needs_if a.single style.Single P h.single

plain_by : (b : Bool) (a : Allowed) (P : Type 0) → Clear a P → (b ≡ true → P)
    → Needs (if b then style.Plain else single_or a) P
plain_by true a P h f = f refl
plain_by false a P h f = needs_single a P h

needs_plain : (a : Allowed) (P : Type 0) → Clear a P → (untagged flow simple empty : Bool)
    → Needs (plain_or a untagged flow simple empty) P
needs_plain a P h untagged flow simple empty = plain_by (plain_fits a untagged flow simple empty) a P h (λ e. fits_by a P h flow (not (empty && simple) && untagged) e)

needs_taken : (a : Allowed) (P : Type 0) → Clear a P
    → (k : yaml_scalar_style_t) (untagged flow simple empty : Bool)
    → Needs (taken a k untagged flow simple empty) P
unfolding taken
needs_taken a P h asked.YAML_SINGLE_QUOTED_SCALAR_STYLE untagged flow simple empty = needs_single a P h
needs_taken a P h asked.YAML_DOUBLE_QUOTED_SCALAR_STYLE untagged flow simple empty = tt
needs_taken a P h asked.YAML_LITERAL_SCALAR_STYLE untagged flow simple empty = needs_if (a.block && not (flow || simple)) style.Literal P (λ e. h.block (and_parts a.block (not (flow || simple)) e).0)
needs_taken a P h asked.YAML_FOLDED_SCALAR_STYLE untagged flow simple empty = needs_if (a.block && not (flow || simple)) style.Folded P (λ e. h.block (and_parts a.block (not (flow || simple)) e).0)
needs_taken a P h _ untagged flow simple empty = needs_plain a P h untagged flow simple empty

clear_text : (unicode : Bool) (cs : List ℕ) → Clear (allowed_text unicode cs) (ArePrintable cs)
clear_text unicode cs =
    let special = somewhere (is_special unicode) 32 cs in
    let broken = somewhere is_break_space 32 cs in
    let shown : special ≡ false → ArePrintable cs = printable unicode 32 cs in
    let none : not (special || broken || ends_in_space cs || starts_badly cs || somewhere is_not_plain 32 cs) ≡ true → ArePrintable cs = λ e. shown (or_parts special broken (or_parts _ (ends_in_space cs) (or_parts _ (starts_badly cs) (or_parts _ (somewhere is_not_plain 32 cs) (not-true _ e)).0).0).0).0 in
    record {
      plain = none;
      flow_plain = λ e. none (and_parts _ (not (somewhere is_not_flow 32 cs)) e).0;
      single = λ e. shown (or_parts special broken (not-true (special || broken) e)).0;
      block = λ e. shown (or_parts special (ends_in_space cs) (not-true (special || ends_in_space cs) e)).0;
    }

clear : (unicode : Bool) (cs : List ℕ) → Clear (allowed unicode cs) (ArePrintable cs)
unfolding allowed
clear unicode [] = record { plain = λ e. tt; flow_plain = λ e. tt; single = λ e. tt; block = λ e. tt }
clear unicode (c ∷ cs) = clear_text unicode (c ∷ cs)

-- of the style of a scalar
pub style_needs : (canonical unicode : Bool) (cs : List ℕ) (k : yaml_scalar_style_t)
    (untagged flow simple empty : Bool)
    → Needs (if canonical then style.Double else taken (allowed unicode cs) k untagged flow simple
    empty) (ArePrintable cs)
style_needs true unicode cs k untagged flow simple empty = tt
style_needs false unicode cs k untagged flow simple empty = needs_taken (allowed unicode cs) (ArePrintable cs) (clear unicode cs) k untagged flow simple empty

-- ---- their layouts

tame_if : (b : Bool) (x y : Layout) → Tame x → Tame y → Tame (if b then x else y)
tame_if true x y f g = f
tame_if false x y f g = g

value_break_tame : (b : LineBreak) (x : ℕ) → Fits x → Tame (value_break b x)
value_break_tame b x f = tame_if (x == 10) (new_line b) (break x) (new_line_tame b) (break_tame x f)

cut_tame : (page : Page) (x : ℕ) → Fits x → Tame (cut page x)
cut_tame page x f = choose_tame (is_past page.width) (line page.line_break page.indentation) (char x) (line_tame page.line_break page.indentation) (char_tame x f)

tick : Fits 39
tick = graphic 39 (omega arith) (omega arith)

quote_tame : (quote : Bool) (x : ℕ) → Fits x → Tame (quote_char quote x)
quote_tame quote x f = both (when (quote && x == 39) (char 39)) (char x) (when_tame (quote && x == 39) (char 39) (char_tame 39 tick)) (char_tame x f)

flow_char_tame : (page : Page) (quote : Bool) (before x : ℕ) (rest : List ℕ) → Fits x
    → Tame (flow_char page quote before x rest)
unfolding flow_char
flow_char_tame page quote before x rest f =
    tame_if (is_break x) (when (x == 10 && not (is_break before)) (new_line page.line_break) ▹ value_break page.line_break x) _
    (both (when (x == 10 && not (is_break before)) (new_line page.line_break)) (value_break page.line_break x) (when_tame (x == 10 && not (is_break before)) (new_line page.line_break) (new_line_tame page.line_break)) (value_break_tame page.line_break x f))
    (both (when (is_break before) (line page.line_break page.indentation)) (text_char page quote (cuts_at page before x rest) x) (when_tame (is_break before) (line page.line_break page.indentation) (line_tame page.line_break page.indentation))
    (tame_if (cuts_at page before x rest) (cut page x) (quote_char quote x) (cut_tame page x f) (quote_tame quote x f)))

flow_tame : (page : Page) (quote : Bool) (before : ℕ) (cs : List ℕ) → ArePrintable cs
    → Tame (flow_body page quote before cs)
unfolding flow_body
flow_tame page quote before [] h = when_tame (is_break before) (line page.line_break page.indentation) (line_tame page.line_break page.indentation)
flow_tame page quote before (x ∷ xs) (h, hs) = both (flow_char page quote before x xs) (flow_body page quote x xs) (flow_char_tame page quote before x xs (printed x h)) (flow_tame page quote x xs hs)

block_char_tame : (page : Page) (folded blank : Bool) (before x : ℕ) (rest : List ℕ) → Fits x
    → Tame (block_char page folded blank before x rest)
unfolding block_char
block_char_tame page folded blank before x rest f =
    tame_if (is_break x) (when (adds_break folded blank before x rest) (new_line page.line_break) ▹ value_break page.line_break x) _
    (both (when (adds_break folded blank before x rest) (new_line page.line_break)) (value_break page.line_break x) (when_tame (adds_break folded blank before x rest) (new_line page.line_break) (new_line_tame page.line_break)) (value_break_tame page.line_break x f))
    (both (when (is_break before) (line page.line_break page.indentation)) (block_text page (cuts_block folded blank before x rest) x) (when_tame (is_break before) (line page.line_break page.indentation) (line_tame page.line_break page.indentation))
    (tame_if (cuts_block folded blank before x rest) (cut page x) (char x) (cut_tame page x f) (char_tame x f)))

block_body_tame : (page : Page) (folded blank : Bool) (before : ℕ) (cs : List ℕ) → ArePrintable cs
    → Tame (block_body page folded blank before cs)
unfolding block_body
block_body_tame page folded blank before [] h = stay_tame
block_body_tame page folded blank before (x ∷ xs) (h, hs) =
    both (block_char page folded blank before x xs) (block_body page folded (line_blank blank before x) x xs) (block_char_tame page folded blank before x xs (printed x h)) (block_body_tame page folded (line_blank blank before x) x xs hs)

digit_by : (b : Bool) (n : ℕ) → nat_lt n 10 ≡ b → Fits (if b then 48 + n else 50)
digit_by true n e = let below : n < 10 = grind (arith, nat_tests) in graphic (48 + n) (omega (arith, below)) (omega (arith, below))
digit_by false n e = graphic 50 (omega arith) (omega arith)

chomp_tame : (c : Chomp) → Tame (chomp_mark c)
chomp_tame chomping.Strip = both (char 45) (keep false) (char_tame 45 (graphic 45 (omega arith) (omega arith))) (keep_tame false)
chomp_tame chomping.Clip = keep_tame false
chomp_tame chomping.Keep = both (char 43) (keep true) (char_tame 43 (graphic 43 (omega arith) (omega arith))) (keep_tame true)

header_fits : (folded : Bool) → Fits (if folded then 62 else 124)
header_fits true = graphic 62 (omega arith) (omega arith)
header_fits false = graphic 124 (omega arith) (omega arith)

block_tame : (page : Page) (digit : ℕ) (folded : Bool) (cs : List ℕ) → ArePrintable cs
    → Tame (block page digit folded cs)
block_tame page digit folded cs h =
    let mark = char (if folded then 62 else 124) in
    let sign = when (first cs == 32 || is_break (first cs)) (char (digit_char digit)) in
    let tail = chomp_mark (chomp true true cs) in
    let body = block_body page folded true 10 cs in
    both (gap ▹ (mark ▹ (sign ▹ tail))) (new_line page.line_break ▹ (body ▹ after_block))
    (both gap (mark ▹ (sign ▹ tail)) gap_tame (both mark (sign ▹ tail) (char_tame (if folded then 62 else 124) (header_fits folded)) (both sign tail (when_tame (first cs == 32 || is_break (first cs)) (char (digit_char digit)) (char_tame (digit_char digit) (digit_by (nat_lt digit 10) digit refl))) (chomp_tame (chomp true true cs)))))
    (both (new_line page.line_break) (body ▹ after_block) (new_line_tame page.line_break) (both body after_block (block_body_tame page folded true 10 cs h) (λ c rest h. h _)))

pub scalar_text_tame : (page : Page) (digit : ℕ) (flow : Bool) (s : Style) (value : List ℕ)
    → IsUtf8 value → Needs s (ArePrintable (chars value))
    → Tame (scalar_text page digit flow s (chars value))
unfolding scalar_text
scalar_text_tame page digit flow style.Plain value u h =
    both (when (flow || not (is_empty (chars value))) gap) (flow_body page false 32 (chars value) ▹ after_text) (when_tame (flow || not (is_empty (chars value))) gap gap_tame)
    (both (flow_body page false 32 (chars value)) after_text (flow_tame page false 32 (chars value) h) (λ c rest h. h _))
scalar_text_tame page digit flow style.Single value u h =
    let body = flow_body page true 32 (chars value) in
    both gap (char 39 ▹ (body ▹ char 39)) gap_tame (both (char 39) (body ▹ char 39) (char_tame 39 tick) (both body (char 39) (flow_tame page true 32 (chars value) h) (char_tame 39 tick)))
scalar_text_tame page digit flow style.Double value u h = quoted_tame page value u
scalar_text_tame page digit flow style.Literal value u h = block_tame page digit false (chars value) h
scalar_text_tame page digit flow style.Folded value u h = block_tame page digit true (chars value) h

-- ==== The pretty layout of documents writes characters that a stream may hold.

kept_text : (canonical left_out : Bool) (t : Option (List ℕ)) → IsTextOption t
    → IsTextOption (kept_tag canonical left_out t)
kept_text true left_out t h = h
kept_text false true t h = tt
kept_text false false t h = h

indicator_tame : (x : ℕ) → Fits x → Tame (indicator x)
indicator_tame x f = both gap _ gap_tame (λ c rest h. letter_allowed x (rest _) f (h _))

-- ---- leaves

abbrev NodeTame : Context → Node → Type 0
NodeTame p n = (at : NodePosition) → Tame (node_layout p at n)

alias_tame : (p : Context) (name : List ℕ) → IsSpellable (alias_node name)
    → NodeTame p (alias_node name)
unfolding node_layout alias_layout
alias_tame p name h at =
    both (word (42 ∷ name)) (when (is_simple_part at.part) (char 32)) (word_tame (42 ∷ name) (graphic 42 (omega arith) (omega arith), names_fit name h)) (when_tame (is_simple_part at.part) (char 32) (char_tame 32 is_32))

text_by : (p : Context) (at : NodePosition) (x : Scalar) → IsUtf8 x.value
    → Tame (scalar_text (page_at p.settings at) p.settings.indent at.flow (style_of p at x)
    (chars x.value))
unfolding style_of
text_by p at x u =
    scalar_text_tame (page_at p.settings at) p.settings.indent at.flow _ x.value u (style_needs p.settings.canonical p.settings.unicode (chars x.value) x.style (has (scalar_tag false x) || x.plain) at.flow (is_simple_part at.part) (length x.value == 0))

scalar_tame : (p : Context) → TagsFit p.directives → (x : Scalar) → IsSpellable (scalar_node x)
    → NodeTame p (scalar_node x)
unfolding node_layout scalar_layout
scalar_tame p fit x (ha, ht, hv) at =
    let tag = scalar_tag p.settings.canonical x in
    let s = style_of p at x in
    let text = scalar_text (page_at p.settings at) p.settings.indent at.flow s (chars x.value) in
    both (properties_text p x.anchor tag) (mark_text p x s ▹ (checked (deeper p.settings at.around) ▹ text)) (properties_tame p fit x.anchor tag ha (kept_text p.settings.canonical (x.plain || x.quoted) x.tag ht))
    (both (mark_text p x s) (checked (deeper p.settings at.around) ▹ text) (when_tame (not (has tag) && (not x.quoted && not (is_plain s))) (word (33 ∷ [])) (word_tame (33 ∷ []) (graphic 33 (omega arith) (omega arith), tt)))
    (both (checked (deeper p.settings at.around)) text (checked_tame (deeper p.settings at.around)) (text_by p at x hv)))

-- ---- collections

abbrev ItemsTame : Context → Nodes → Type 0
ItemsTame p ns = (flow : Bool) (n : ℕ) (fresh : Bool) → Tame (items_layout p flow n fresh ns)

abbrev PairsTame : Context → Pairs → Type 0
PairsTame p ps = (flow : Bool) (n : ℕ) (fresh : Bool) → Tame (pairs_layout p flow n fresh ps)

indented_tame : (f : Cursor → ℕ) (g : ℕ → Layout) → ((n : ℕ) → Tame (g n)) → Tame (indented f g)
indented_tame f g h c rest r = h (f c) c rest r

sequence_tame : (p : Context) → TagsFit p.directives → (q : Start) (ns : Nodes)
    → IsNameOption q.anchor → IsTextOption q.tag → ItemsTame p ns → NodeTame p (sequence_node q ns)
unfolding node_layout
sequence_tame p fit q ns ha ht inner at =
    let f = is_flow p.settings at q (are_none ns) in
    let tag = start_tag p.settings.canonical q in
    let body : ℕ → Layout = λ n. checked n ▹ items_layout p f n true ns in
    both (properties_text p q.anchor tag) (when f (opener 91) ▹ indented (indent_of p.settings at true f) body) (properties_tame p fit q.anchor tag ha (kept_text p.settings.canonical q.implicit q.tag ht))
    (both (when f (opener 91)) (indented (indent_of p.settings at true f) body) (when_tame f (opener 91) (opener_tame 91 (graphic 91 (omega arith) (omega arith))))
    (indented_tame (indent_of p.settings at true f) body (λ n. both (checked n) (items_layout p f n true ns) (checked_tame n) (inner f n true))))

mapping_tame : (p : Context) → TagsFit p.directives → (q : Start) (ps : Pairs)
    → IsNameOption q.anchor → IsTextOption q.tag → PairsTame p ps → NodeTame p (mapping_node q ps)
unfolding node_layout
mapping_tame p fit q ps ha ht inner at =
    let f = is_flow p.settings at q (are_no_pairs ps) in
    let tag = start_tag p.settings.canonical q in
    let body : ℕ → Layout = λ n. checked n ▹ pairs_layout p f n true ps in
    both (properties_text p q.anchor tag) (when f (opener 123) ▹ indented (indent_of p.settings at false f) body) (properties_tame p fit q.anchor tag ha (kept_text p.settings.canonical q.implicit q.tag ht))
    (both (when f (opener 123)) (indented (indent_of p.settings at false f) body) (when_tame f (opener 123) (opener_tame 123 (graphic 123 (omega arith) (omega arith))))
    (indented_tame (indent_of p.settings at false f) body (λ n. both (checked n) (pairs_layout p f n true ps) (checked_tame n) (inner f n true))))

turned_by : (b : Bool) (s : Settings) (n : ℕ) → Tame (if b then line_at s n else wrap_at s n)
turned_by true s n = line_tame s.line_break n
turned_by false s n = choose_tame (is_past s.width) (line s.line_break n) stay (line_tame s.line_break n) stay_tame

turned_tame : (s : Settings) (n : ℕ) → Tame (turned s n)
unfolding turned
turned_tame s n = turned_by s.canonical s n

closer_tame : (s : Settings) (flow : Bool) (n : ℕ) (fresh : Bool) (x : ℕ) → Fits x
    → Tame (closer s flow n fresh x)
unfolding closer
closer_tame s true n fresh x f =
    both (when (s.canonical && not fresh) (char 44 ▹ line_at s _)) (char x) (when_tame (s.canonical && not fresh) (char 44 ▹ line_at s _) (both (char 44) (line_at s _) (char_tame 44 (graphic 44 (omega arith) (omega arith))) (line_tame s.line_break _))) (char_tame x f)
closer_tame s false n fresh x f = stay_tame

before_item_tame : (s : Settings) (flow : Bool) (n : ℕ) (fresh : Bool)
    → Tame (before_item s flow n fresh)
unfolding before_item
before_item_tame s true n fresh = both (comma fresh) (turned s n) (comma_tame fresh) (turned_tame s n)
before_item_tame s false n fresh = both (line_at s n) (indicator 45) (line_tame s.line_break n) (indicator_tame 45 (graphic 45 (omega arith) (omega arith)))

question_tame : (flow : Bool) → Tame (question flow)
question_tame true = word_tame (63 ∷ []) (graphic 63 (omega arith) (omega arith), tt)
question_tame false = indicator_tame 63 (graphic 63 (omega arith) (omega arith))

lead_tame : (flow : Bool) (s : Settings) (n : ℕ) (fresh : Bool)
    → Tame (if flow then comma fresh ▹ turned s n else line_at s n)
lead_tame true s n fresh = both (comma fresh) (turned s n) (comma_tame fresh) (turned_tame s n)
lead_tame false s n fresh = line_tame s.line_break n

before_key_tame : (s : Settings) (flow : Bool) (n : ℕ) (fresh simple : Bool)
    → Tame (before_key s flow n fresh simple)
unfolding before_key
before_key_tame s flow n fresh simple = both (if flow then comma fresh ▹ turned s n else line_at s n) (when (not simple) (question flow)) (lead_tame flow s n fresh) (when_tame (not simple) (question flow) (question_tame flow))

before_value_tame : (s : Settings) (flow : Bool) (n : ℕ) (simple : Bool)
    → Tame (before_value s flow n simple)
unfolding before_value
before_value_tame s flow n true = char_tame 58 (graphic 58 (omega arith) (omega arith))
before_value_tame s true n false = both (turned s n) (word (58 ∷ [])) (turned_tame s n) (word_tame (58 ∷ []) (graphic 58 (omega arith) (omega arith), tt))
before_value_tame s false n false = both (line_at s n) (indicator 58) (line_tame s.line_break n) (indicator_tame 58 (graphic 58 (omega arith) (omega arith)))

items_end : (p : Context) → ItemsTame p no_nodes
unfolding items_layout
items_end p flow n fresh = closer_tame p.settings flow n fresh 93 (graphic 93 (omega arith) (omega arith))

pairs_end : (p : Context) → PairsTame p no_pairs
unfolding pairs_layout
pairs_end p flow n fresh = closer_tame p.settings flow n fresh 125 (graphic 125 (omega arith) (omega arith))

item_tame : (p : Context) (x : Node) (xs : Nodes) → NodeTame p x → ItemsTame p xs
    → ItemsTame p (node x xs)
unfolding items_layout
item_tame p x xs one more flow n fresh =
    both (before_item p.settings flow n fresh) (node_layout p (position flow n part.Item) x ▹ items_layout p flow n false xs) (before_item_tame p.settings flow n fresh)
    (both (node_layout p (position flow n part.Item) x) (items_layout p flow n false xs) (one (position flow n part.Item)) (more flow n false))

pair_tame : (p : Context) (k v : Node) (ps : Pairs) → NodeTame p k → NodeTame p v → PairsTame p ps
    → PairsTame p (pair k v ps)
unfolding pairs_layout
pair_tame p k v ps key value more flow n fresh =
    let simple = is_simple p k in
    both (before_key p.settings flow n fresh simple) _ (before_key_tame p.settings flow n fresh simple)
    (both (node_layout p (position flow n (key_part simple)) k) _
    (key (position flow n (key_part simple)))
    (both (before_value p.settings flow n simple) _ (before_value_tame p.settings flow n simple)
    (both (node_layout p (position flow n part.Value) v) (pairs_layout p flow n false ps) (value (position flow n part.Value)) (more flow n false))))

mutual
  node_tame : (p : Context) → TagsFit p.directives → (n : Node) → IsSpellable n → NodeTame p n
  node_tame p fit (alias_node name) h = alias_tame p name h
  node_tame p fit (scalar_node x) h = scalar_tame p fit x h
  node_tame p fit (sequence_node q items) (ha, ht, h) = sequence_tame p fit q items ha ht (items_tame p fit items h)
  node_tame p fit (mapping_node q pairs) (ha, ht, h) = mapping_tame p fit q pairs ha ht (pairs_tame p fit pairs h)

  items_tame : (p : Context) → TagsFit p.directives → (ns : Nodes) → AreSpellable ns
      → ItemsTame p ns
  items_tame p fit no_nodes h = items_end p
  items_tame p fit (node x xs) (h, hs) = item_tame p x xs (node_tame p fit x h) (items_tame p fit xs hs)

  pairs_tame : (p : Context) → TagsFit p.directives → (ps : Pairs) → PairsAreSpellable ps
      → PairsTame p ps
  pairs_tame p fit no_pairs h = pairs_end p
  pairs_tame p fit (pair k v ps) (hk, hv, hs) = pair_tame p k v ps (node_tame p fit k hk) (node_tame p fit v hv) (pairs_tame p fit ps hs)

-- ---- documents

dashes_tame : (s : Settings) → Tame (dashes s)
dashes_tame s =
    let dash : Fits 45 = graphic 45 (omega arith) (omega arith) in
    both (line_at s 0) (word (45 ∷ 45 ∷ 45 ∷ []) ▹ when s.canonical (line_at s 0)) (line_tame s.line_break 0)
    (both (word (45 ∷ 45 ∷ 45 ∷ [])) (when s.canonical (line_at s 0)) (word_tame (45 ∷ 45 ∷ 45 ∷ []) (dash, (dash, (dash, tt)))) (when_tame s.canonical (line_at s 0) (line_tame s.line_break 0)))

start_tame : (s : Settings) (fresh unended : Bool) (d : Document) (ds : List Document)
    → DocumentsAreSpellable (d ∷ ds) → Tame (start_layout s fresh unended d.opening)
unfolding start_layout
start_tame s fresh unended d ds (right, prefixes, root, more) =
    let o = d.opening in
    let dots_if = when (unended && is_directed o) (dots s) in
    let dash = when (is_marked s fresh o) (dashes s) in
    let fit = handles_fit [] o.directives (or_second (version_problem o.version) (directives_problem [] o.directives) right) in
    both dots_if (keep false ▹ (version_text s o.version ▹ (directives_text s o.directives ▹ dash))) (when_tame (unended && is_directed o) (dots s) (dots_tame s))
    (both (keep false) (version_text s o.version ▹ (directives_text s o.directives ▹ dash)) (keep_tame false)
    (both (version_text s o.version) (directives_text s o.directives ▹ dash) (version_tame s o.version)
    (both (directives_text s o.directives) dash (directives_tame s o.directives fit prefixes) (when_tame (is_marked s fresh o) (dashes s) (dashes_tame s)))))

-- under any settings, the canonical ones too, the layout writes what a stream may hold
pub documents_tame : (s : Settings) (fresh unended : Bool) (ds : List Document)
    → DocumentsAreSpellable ds → Tame (documents_layout s fresh unended ds)
unfolding documents_layout end_layout stop_layout
documents_tame s fresh unended [] h = when_tame unended (choose is_kept (dots s) stay) (choose_tame is_kept (dots s) stay (dots_tame s) stay_tame)
documents_tame s fresh unended (d ∷ ds) (right, prefixes, root, more) =
    let o = d.opening in
    let p = context_of s o.directives in
    let fit = tags_fit o.directives (or_second (version_problem o.version) (directives_problem [] o.directives) right) in
    let body = node_layout p root_position d.root in
    both (start_layout s fresh unended o) (body ▹ (end_layout s d.implicit_end ▹ documents_layout s false d.implicit_end ds)) (start_tame s fresh unended d ds (right, prefixes, root, more))
    (both body (end_layout s d.implicit_end ▹ documents_layout s false d.implicit_end ds) (node_tame p fit d.root root root_position)
    (both (end_layout s d.implicit_end) (documents_layout s false d.implicit_end ds) (both (line_at s 0) (when (not d.implicit_end) (dots s)) (line_tame s.line_break 0) (when_tame (not d.implicit_end) (dots s) (dots_tame s))) (documents_tame s false d.implicit_end ds more)))
