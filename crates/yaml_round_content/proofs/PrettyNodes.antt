-- Properties before a content, and nodes that have nothing else.
use Rattle.std.proofs.Common.{◌≡◌, ℕ, Bool, true, false, not, ◌&&◌, ◌||◌, List, [], ◌∷◌, Option, Some, None, refl, sym, ap, subst, ◌∙◌, codes, bytes_eq}
use Rattle.yaml_round_content.proofs.PrettyWords.{false≢true, true≢false, Token, TokenBody, EventBody, TagDirective, node_at, RawEvent, Properties, PropertyTokens, Given, spell_maybe, properties_of, spell_entries, spell_others, spell_pairs, single, colon, end_entries, entry, no_others, other, end_pairs, block_pair, items_maybe, behind, items_entries, items_others, items_pairs, Directives, gave, settle, node_event, is_missing, Style, has, scalar_tag, start_tag, anchor_bodies, tag_bodies, mark_bodies, token_bodies, IsNoMark, Grown, HasNoMark, HaveNoMark, PairsHaveNoMark, Spelt, grown, dressed_named, scalar_contained, step_says, tagged_event, spell_if, properties_if, Named, IsNamed, named_bodies, full_of, some_tokens, some_named, with_properties, tag_named, tag_is_named, tag_bodies_are, full_is, bang, Reads, Filled, Followed, Contained, take, silent, tells, also, alias_grown, dressed, bracketed, brackets_end, brackets_done, comma_follows, style_named, takes_mark, is_bare, is_nothing, scalar_bodies, style_at, is_flow_at, keeps, sequence_opens, sequence_closes, mapping_opens, mapping_closes, node_bodies, items_bodies, pairs_bodies, is_left_out, scalar_reads, sequence_style, mapping_style, node_reads, items_reads, pairs_reads, Resolves, YAML_FLOW_SEQUENCE_STYLE, YAML_BLOCK_SEQUENCE_STYLE, YAML_FLOW_MAPPING_STYLE, YAML_BLOCK_MAPPING_STYLE, Entry, IndentlessEntry, BlockPair, FlowPair, Part, Scalar, Start, Node, alias_node, scalar_node, sequence_node, mapping_node, Nodes, no_nodes, node, Pairs, no_pairs, pair, Context, is_simple, is_of_mapping, key_part, are_none, are_no_pairs}
use Rattle.yaml_parse_model.specs.declared.yaml_mark_t.{yaml_mark_t}
use Rattle.yaml_parse_model.specs.scan_types.Tokens as token
use Rattle.yaml_emit_laws.specs.parse_grammar.declared.name.Wants.{Wants}
use Rattle.yaml_emit_laws.specs.parse_grammar.declared.name.Site.{Site}
use Rattle.yaml_emit_laws.specs.parse_grammar.Items as item
use Rattle.yaml_emit_laws.specs.parse_grammar.Trees as trees
use Rattle.yaml_emit_laws.specs.emit_layout.declared.Style.TheVariants as style
use Rattle.yaml_parse_model.specs.Events as event
use Rattle.yaml_emit_laws.specs.parse_grammar.declared.name.Wants.TheVariants.{Flow, Block}
use Rattle.yaml_emit_laws.specs.parse_grammar.declared.name.Side.{Side}
use Rattle.yaml_emit_laws.specs.parse_grammar.declared.name.Side.TheVariants.{Key, Value}
use Rattle.yaml_emit_laws.specs.parse_grammar.declared.name.Brackets.TheVariants as brackets
use Rattle.yaml_emit_laws.specs.emit_layout.declared.level.Part.TheVariants as part
use Rattle.yaml_round_content.proofs.Contents.{and_left}

abbrev pub MaybeGrown : Wants → Site → yaml_mark_t → List TagDirective
    → (List EventBody → List EventBody) → List Token → List TokenBody → Type 0
MaybeGrown w at before ds R ts bs = Spelt (trees.Maybe w) (λ (n : trees.Maybe w) (rest : List Token). spell_maybe n rest) (λ (n : trees.Maybe w) (rest : List Token) (more : List Given). items_maybe n at before rest more) ds R ts bs

pub held : (w : Wants) (at : Site) (before : yaml_mark_t) (ds : List TagDirective)
    (R : List EventBody → List EventBody) (ts : List Token) (bs : List TokenBody)
    → Grown w ds R ts bs → MaybeGrown w at before ds R ts bs
held w at before ds R ts bs g = record { tree = trees.there g.tree; rest = g.rest; left = g.left; said = grown g }

-- ---- properties

-- of a scalar: with `!` where that is asked and it is untagged
abbrev scalar_named : List TagDirective → Option (List ℕ) → Bool → Option Named
scalar_named ds None true = Some bang
scalar_named ds None false = None
scalar_named ds (Some t) marked = tag_named ds (Some t)

scalar_is_named : (ds : List TagDirective) → Resolves ds → (tag : Option (List ℕ)) (marked : Bool)
    → IsNamed ds (scalar_named ds tag marked)
scalar_is_named ds r None true = refl
scalar_is_named ds r None false = tt
scalar_is_named ds r (Some t) marked = tag_is_named ds r (Some t)

scalar_bodies_are : (ds : List TagDirective) (tag : Option (List ℕ)) (marked : Bool)
    (bs : List TokenBody)
    → tag_bodies ds tag (mark_bodies (not (has tag) && marked) bs)
    ≡ named_bodies (scalar_named ds tag marked) bs
scalar_bodies_are ds None true bs = refl
scalar_bodies_are ds None false bs = refl
scalar_bodies_are ds (Some t) marked bs = tag_bodies_are ds (Some t) bs

-- ---- scalars

untagged_event : (anchor : Option (List ℕ)) (value : List ℕ) (s : Style)
    → node_event anchor None (item.scalar value (style_named s))
    ≡ scalar_reads anchor None value false s
untagged_event anchor value style.Plain = refl
untagged_event anchor value _ = refl

event_is : (ds : List TagDirective) (anchor tag : Option (List ℕ)) (value : List ℕ) (marked : Bool)
    (s : Style) → IsNoMark tag
    → node_event anchor (full_of (scalar_named ds tag marked)) (item.scalar value (style_named s))
    ≡ scalar_reads anchor tag value marked s
event_is ds anchor None value true s h = refl
event_is ds anchor None value false s h = untagged_event anchor value s
event_is ds anchor (Some t) value marked s h = tagged_event (bytes_eq t (codes "!")) anchor t value (style_named s) h

-- a scalar that has a word
worded : (w : Wants) (ds : List TagDirective) → Resolves ds → (anchor tag : Option (List ℕ))
    → IsNoMark tag
    → (value : List ℕ) (marked : Bool) (s : Style) (bs : List TokenBody) (ts : List Token)
    → token_bodies ts ≡ anchor_bodies anchor
    (tag_bodies ds tag (mark_bodies (not (has tag) && marked)
    (token.scalar value (style_named s) ∷ bs)))
    → Grown w ds (λ es. scalar_reads anchor tag value marked s ∷ es) ts bs
worded w ds r anchor tag fine value marked s bs ts e =
    let cs = token.scalar value (style_named s) ∷ bs in
    let named = e ∙ ap (λ (y : List TokenBody). anchor_bodies anchor y) (scalar_bodies_are ds tag marked cs) in
    let P : EventBody → Type 0 = λ b. Grown w ds (λ es. b ∷ es) ts bs in
    subst P (event_is ds anchor tag value marked s fine)
    (dressed_named w ds anchor (scalar_named ds tag marked) (scalar_is_named ds r tag marked) (item.scalar value (style_named s)) (λ es. es) cs bs (scalar_contained w ds value (style_named s) bs) ts named)

-- properties alone
alone_by : (w : Wants) (ds : List TagDirective) (anchor tag : Option (List ℕ))
    (d : Option PropertyTokens) → some_tokens d ≡ true
    → (ts rest : List Token) (bs : List TokenBody) → ts ≡ spell_if d rest → token_bodies rest ≡ bs
    → ((from to : yaml_mark_t) (D : Directives) → D.tags ≡ ds
    → settle (node_at (properties_if d) item.empty from to) D
    ≡ gave (node_event anchor tag item.empty) D)
    → Grown w ds (λ es. node_event anchor tag item.empty ∷ es) ts bs
alone_by w ds anchor tag None some ts rest bs same left gives = absurd (false≢true some)
alone_by w ds anchor tag (Some d) some ts rest bs same left gives = record {
  tree = trees.only_properties d;
  rest = rest;
  same = same;
  left = left;
  gives = λ more gs f D is. step_says (item.properties_alone (properties_of d), behind more) gs f D (node_event anchor tag item.empty) (gives (properties_of d).to (properties_of d).to D is);
}

some_either : (ds : List TagDirective) (anchor tag : Option (List ℕ)) → is_bare anchor tag ≡ false
    → (has anchor || some_named (tag_named ds tag)) ≡ true
some_either ds None None h = absurd (true≢false h)
some_either ds None (Some t) h = refl
some_either ds (Some a) tag h = refl

alone : (w : Wants) (ds : List TagDirective) → Resolves ds → (anchor tag : Option (List ℕ))
    → is_bare anchor tag ≡ false → (bs : List TokenBody) (ts : List Token)
    → token_bodies ts ≡ anchor_bodies anchor (tag_bodies ds tag bs)
    → Grown w ds (λ es. node_event anchor tag item.empty ∷ es) ts bs
alone w ds r anchor tag some bs ts e =
    let named = e ∙ ap (λ (y : List TokenBody). anchor_bodies anchor y) (tag_bodies_are ds tag bs) in
    let d = with_properties ds anchor (tag_named ds tag) (tag_is_named ds r tag) ts bs named in
    let P : Option (List ℕ) → Type 0 = λ t. Grown w ds (λ es. node_event anchor t item.empty ∷ es) ts bs in
    subst P (full_is ds tag) (alone_by w ds anchor (full_of (tag_named ds tag)) d.only_properties (d.some ∙ some_either ds anchor tag some) ts d.rest bs d.same d.left (λ from to D is. d.gives item.empty from to D is))

unmarked : (quoted : Bool) → takes_mark quoted style.Plain ≡ false
unmarked true = refl
unmarked false = refl

unmarked_too : (tagged quoted : Bool) → (not tagged && takes_mark quoted style.Plain) ≡ false
unmarked_too true quoted = refl
unmarked_too false quoted = unmarked quoted

empty_event : (anchor tag : Option (List ℕ))
    → node_event anchor tag item.empty ≡ scalar_reads anchor tag [] false style.Plain
empty_event anchor None = refl
empty_event anchor (Some t) = refl

empty_grown : (w : Wants) (ds : List TagDirective) → Resolves ds → (anchor tag : Option (List ℕ))
    → is_bare anchor tag ≡ false → (quoted : Bool) (bs : List TokenBody) (ts : List Token)
    → token_bodies ts ≡ anchor_bodies anchor
    (tag_bodies ds tag (mark_bodies (not (has tag) && takes_mark quoted style.Plain) bs))
    → Grown w ds (λ es. scalar_reads anchor tag [] (takes_mark quoted style.Plain) style.Plain ∷ es)
    ts bs
empty_grown w ds r anchor tag some quoted bs ts e =
    let plain = e ∙ ap (λ (b : Bool). anchor_bodies anchor (tag_bodies ds tag (mark_bodies b bs))) (unmarked_too (has tag) quoted) in
    let P : EventBody → Type 0 = λ b. Grown w ds (λ es. b ∷ es) ts bs in
    subst P (empty_event anchor tag ∙ ap (λ (b : Bool). scalar_reads anchor tag [] b style.Plain) (sym (unmarked quoted))) (alone w ds r anchor tag some bs ts plain)

abbrev ScalarBodies : List TagDirective → Bool → Style → Option (List ℕ) → Option (List ℕ) → List ℕ
    → Bool → List TokenBody → List TokenBody
ScalarBodies ds flow s anchor tag value quoted bs = anchor_bodies anchor (tag_bodies ds tag (mark_bodies (not (has tag) && takes_mark quoted s) (scalar_bodies flow s value bs)))

-- a scalar that is written
pub scalar_grown : (w : Wants) (ds : List TagDirective) → Resolves ds
    → (flow : Bool) (s : Style) (anchor tag : Option (List ℕ)) → IsNoMark tag
    → (value : List ℕ) (quoted : Bool) → (is_nothing flow s value && is_bare anchor tag) ≡ false
    → (bs : List TokenBody) (ts : List Token)
    → token_bodies ts ≡ ScalarBodies ds flow s anchor tag value quoted bs
    → Grown w ds (λ es. scalar_reads anchor tag value (takes_mark quoted s) s ∷ es) ts bs
scalar_grown w ds r true s anchor tag fine value quoted some bs ts e = worded w ds r anchor tag fine value (takes_mark quoted s) s bs ts e
scalar_grown w ds r false style.Plain anchor tag fine [] quoted some bs ts e = empty_grown w ds r anchor tag some quoted bs ts e
scalar_grown w ds r false style.Plain anchor tag fine (c ∷ cs) quoted some bs ts e = worded w ds r anchor tag fine (c ∷ cs) (takes_mark quoted style.Plain) style.Plain bs ts e
scalar_grown w ds r false style.Single anchor tag fine value quoted some bs ts e = worded w ds r anchor tag fine value (takes_mark quoted style.Single) style.Single bs ts e
scalar_grown w ds r false style.Double anchor tag fine value quoted some bs ts e = worded w ds r anchor tag fine value (takes_mark quoted style.Double) style.Double bs ts e
scalar_grown w ds r false style.Literal anchor tag fine value quoted some bs ts e = worded w ds r anchor tag fine value (takes_mark quoted style.Literal) style.Literal bs ts e
scalar_grown w ds r false style.Folded anchor tag fine value quoted some bs ts e = worded w ds r anchor tag fine value (takes_mark quoted style.Folded) style.Folded bs ts e

nothing_held : (w : Wants) (at : Site) (before : yaml_mark_t) (ds : List TagDirective)
    (quoted : Bool) (bs : List TokenBody) (ts : List Token) → token_bodies ts ≡ bs
    → MaybeGrown w at before ds (λ es. scalar_reads None None [] (takes_mark quoted style.Plain)
    style.Plain ∷ es) ts bs
nothing_held w at before ds quoted bs ts e =
    let b = scalar_reads None None [] (takes_mark quoted style.Plain) style.Plain in
    record { tree = trees.left_out; rest = ts; left = e; said = record { same = refl; gives = λ more gs f D is. step_says _ gs f D b (ap (λ (b : Bool). gave (scalar_reads None None [] b style.Plain) D) (sym (unmarked quoted))) } }

-- a scalar that is left out
pub scalar_left_out : (w : Wants) (at : Site) (before : yaml_mark_t) (ds : List TagDirective)
    (flow : Bool) (s : Style) (anchor tag : Option (List ℕ)) (value : List ℕ) (quoted : Bool)
    → (is_nothing flow s value && is_bare anchor tag) ≡ true
    → (bs : List TokenBody) (ts : List Token)
    → token_bodies ts ≡ ScalarBodies ds flow s anchor tag value quoted bs
    → MaybeGrown w at before ds (λ es. scalar_reads anchor tag value (takes_mark quoted s) s ∷ es)
    ts bs
scalar_left_out w at before ds true s anchor tag value quoted none bs ts e = absurd (false≢true none)
scalar_left_out w at before ds false style.Plain None None [] quoted none bs ts e = nothing_held w at before ds quoted bs ts (e ∙ ap (λ (b : Bool). mark_bodies b bs) (unmarked_too false quoted))
scalar_left_out w at before ds false style.Plain None (Some t) [] quoted none bs ts e = absurd (false≢true none)
scalar_left_out w at before ds false style.Plain (Some a) tag [] quoted none bs ts e = absurd (false≢true none)
scalar_left_out w at before ds false style.Plain anchor tag (c ∷ cs) quoted none bs ts e = absurd (false≢true none)
scalar_left_out w at before ds false style.Single anchor tag value quoted none bs ts e = absurd (false≢true none)
scalar_left_out w at before ds false style.Double anchor tag value quoted none bs ts e = absurd (false≢true none)
scalar_left_out w at before ds false style.Literal anchor tag value quoted none bs ts e = absurd (false≢true none)
scalar_left_out w at before ds false style.Folded anchor tag value quoted none bs ts e = absurd (false≢true none)

-- ==== Trees from the bodies of tokens.

-- ---- what may be at a place

abbrev side_of : Part → Option Side
side_of part.Item = None
side_of part.Value = Some Value
side_of _ = Some Key

abbrev pub wants : Bool → Part → Wants
wants true q = Flow
wants false q = Block (side_of q)

abbrev EntriesSpelt : List TagDirective → Reads → List Token → List TokenBody → Type 0
EntriesSpelt ds R ts bs = Spelt trees.Entries (λ (i : trees.Entries) (rest : List Token). spell_entries i rest) (λ (i : trees.Entries) (rest : List Token) (more : List Given). items_entries i rest more) ds R ts bs

abbrev OthersSpelt : Side → List TagDirective → Reads → List Token → List TokenBody → Type 0
OthersSpelt side ds R ts bs = Spelt trees.Others (λ (i : trees.Others) (rest : List Token). spell_others i rest) (λ (i : trees.Others) (rest : List Token) (more : List Given). items_others side i rest more) ds R ts bs

abbrev PairsSpelt : List TagDirective → Reads → List Token → List TokenBody → Type 0
PairsSpelt ds R ts bs = Spelt trees.Pairs (λ (i : trees.Pairs) (rest : List Token). spell_pairs i rest) (λ (i : trees.Pairs) (rest : List Token) (more : List Given). items_pairs i rest more) ds R ts bs

-- ---- what is shown of each part

abbrev NodeGrows : Context → Node → Type 0
NodeGrows p n = (flow : Bool) (q : Part) (bare : Bool) → is_left_out p flow q n ≡ false → (ts : List Token) (bs : List TokenBody) → token_bodies ts ≡ node_bodies p flow q bare n bs → Grown (wants flow q) p.directives (node_reads p flow q n) ts bs

abbrev MaybeGrows : Context → Node → Type 0
MaybeGrows p n = (flow : Bool) (q : Part) (bare : Bool) (at : Site) (before : yaml_mark_t) (ts : List Token) (bs : List TokenBody) → token_bodies ts ≡ node_bodies p flow q bare n bs → MaybeGrown (wants flow q) at before p.directives (node_reads p flow q n) ts bs

abbrev ItemsFill : Context → Nodes → Type 0
ItemsFill p ns = (ts : List Token) (bs : List TokenBody) → token_bodies ts ≡ items_bodies p true true ns (token.flow_sequence_end ∷ bs) → Filled brackets.Sequence p.directives (λ es. items_reads p true ns (event.sequence_end ∷ es)) ts bs

abbrev ItemsFollow : Context → Nodes → Type 0
ItemsFollow p ns = (ts : List Token) (bs : List TokenBody) → token_bodies ts ≡ items_bodies p true false ns (token.flow_sequence_end ∷ bs) → Followed brackets.Sequence p.directives (λ es. items_reads p true ns (event.sequence_end ∷ es)) ts bs

abbrev EntriesGrow : Context → Nodes → Type 0
EntriesGrow p ns = (fresh : Bool) (ts : List Token) (bs : List TokenBody) → token_bodies ts ≡ items_bodies p false fresh ns (token.block_end ∷ bs) → EntriesSpelt p.directives (λ es. items_reads p false ns (event.sequence_end ∷ es)) ts bs

abbrev OthersGrow : Context → Nodes → Type 0
OthersGrow p ns = (side : Side) (fresh : Bool) (ts : List Token) (bs : List TokenBody) → token_bodies ts ≡ items_bodies p false fresh ns bs → OthersSpelt side p.directives (λ es. items_reads p false ns (event.sequence_end ∷ es)) ts bs

-- a sequence without a level of its own, which isn't empty
abbrev LooseGrows : Context → Nodes → Type 0
LooseGrows p ns = are_none ns ≡ false → (side : Side) (ts : List Token) (bs : List TokenBody) → token_bodies ts ≡ items_bodies p false true ns bs
    → Contained (Block (Some side)) p.directives (item.sequence YAML_BLOCK_SEQUENCE_STYLE) (λ es. items_reads p false ns (event.sequence_end ∷ es)) ts bs

abbrev PartsFill : Context → Pairs → Type 0
PartsFill p ps = (ts : List Token) (bs : List TokenBody) → token_bodies ts ≡ pairs_bodies p true true ps (token.flow_mapping_end ∷ bs) → Filled brackets.Mapping p.directives (λ es. pairs_reads p true ps (event.mapping_end ∷ es)) ts bs

abbrev PartsFollow : Context → Pairs → Type 0
PartsFollow p ps = (ts : List Token) (bs : List TokenBody) → token_bodies ts ≡ pairs_bodies p true false ps (token.flow_mapping_end ∷ bs) → Followed brackets.Mapping p.directives (λ es. pairs_reads p true ps (event.mapping_end ∷ es)) ts bs

abbrev PairsGrow : Context → Pairs → Type 0
PairsGrow p ps = (fresh : Bool) (ts : List Token) (bs : List TokenBody) → token_bodies ts ≡ pairs_bodies p false fresh ps (token.block_end ∷ bs) → PairsSpelt p.directives (λ es. pairs_reads p false ps (event.mapping_end ∷ es)) ts bs

-- ---- nodes

kept_no_mark : (plain quoted : Bool) (x : Scalar) → x.plain ≡ plain → x.quoted ≡ quoted
    → IsNoMark x.tag → IsNoMark (scalar_tag false x)
kept_no_mark true quoted x p q h = rw p tt
kept_no_mark false true x p q h = rw p (rw q tt)
kept_no_mark false false x p q h = rw p (rw q h)

scalar_grows : (p : Context) → Resolves p.directives → (x : Scalar) → IsNoMark x.tag
    → NodeGrows p (scalar_node x)
unfolding node_bodies node_reads
scalar_grows p r x fine flow q bare some ts bs e =
    scalar_grown (wants flow q) p.directives r flow (style_at p flow q x) x.anchor (scalar_tag false x) (kept_no_mark x.plain x.quoted x refl refl fine) x.value x.quoted some bs ts e

maybe_by : (p : Context) (n : Node) → NodeGrows p n
    → (flow : Bool) (q : Part) (bare : Bool) (at : Site) (before : yaml_mark_t) (ts : List Token)
    (bs : List TokenBody) → (b : Bool) → is_left_out p flow q n ≡ b
    → token_bodies ts ≡ node_bodies p flow q bare n bs
    → MaybeGrown (wants flow q) at before p.directives (node_reads p flow q n) ts bs
unfolding node_bodies node_reads
maybe_by p n grows flow q bare at before ts bs false some e = held (wants flow q) at before p.directives (node_reads p flow q n) ts bs (grows flow q bare some ts bs e)
maybe_by p (scalar_node x) grows flow q bare at before ts bs true none e = scalar_left_out (wants flow q) at before p.directives flow (style_at p flow q x) x.anchor (scalar_tag false x) x.value x.quoted none bs ts e
maybe_by p (alias_node name) grows flow q bare at before ts bs true none e = absurd (false≢true none)
maybe_by p (sequence_node o items) grows flow q bare at before ts bs true none e = absurd (false≢true none)
maybe_by p (mapping_node o pairs) grows flow q bare at before ts bs true none e = absurd (false≢true none)

maybe_grows : (p : Context) (n : Node) → NodeGrows p n → MaybeGrows p n
maybe_grows p n grows flow q bare at before ts bs e = maybe_by p n grows flow q bare at before ts bs (is_left_out p flow q n) refl e

-- ---- contents

block_sequence : (side : Option Side) (ds : List TagDirective) (R : Reads) (us : List Token)
    (cs bs : List TokenBody) → ((ts : List Token) → token_bodies ts ≡ cs → EntriesSpelt ds R ts bs)
    → token_bodies us ≡ token.block_sequence_start ∷ cs
    → Contained (Block side) ds (item.sequence YAML_BLOCK_SEQUENCE_STYLE) R us bs
block_sequence side ds R us cs bs inner e =
    let t = take us token.block_sequence_start cs e in
    let i = inner t.rest t.left in
    let first : (o : Option Properties) → RawEvent = λ o. node_at o (item.sequence YAML_BLOCK_SEQUENCE_STYLE) t.span.from t.span.to in
    record { tree = trees.block_sequence t.span i.tree; rest = i.rest; left = i.left; said = λ o b settles. also (tells ds t (first o) b (settles t.span.from t.span.to)) i.said }

block_mapping : (side : Option Side) (ds : List TagDirective) (R : Reads) (us : List Token)
    (cs bs : List TokenBody) → ((ts : List Token) → token_bodies ts ≡ cs → PairsSpelt ds R ts bs)
    → token_bodies us ≡ token.block_mapping_start ∷ cs
    → Contained (Block side) ds (item.mapping YAML_BLOCK_MAPPING_STYLE) R us bs
block_mapping side ds R us cs bs inner e =
    let t = take us token.block_mapping_start cs e in
    let i = inner t.rest t.left in
    let first : (o : Option Properties) → RawEvent = λ o. node_at o (item.mapping YAML_BLOCK_MAPPING_STYLE) t.span.from t.span.to in
    record { tree = trees.block_mapping t.span i.tree; rest = i.rest; left = i.left; said = λ o b settles. also (tells ds t (first o) b (settles t.span.from t.span.to)) i.said }

loose_sequence : (p : Context) (x : Node) (xs : Nodes) → MaybeGrows p x → OthersGrow p xs
    → LooseGrows p (node x xs)
unfolding items_bodies items_reads
loose_sequence p x xs one others some side us bs e =
    let ds = p.directives in
    let tail = items_bodies p false false xs bs in
    let t = take us token.block_entry (node_bodies p false part.Item true x tail) e in
    let n = one false part.Item true (IndentlessEntry side) t.span.to t.rest tail t.left in
    let i = others side false n.rest bs n.left in
    let first : (o : Option Properties) → RawEvent = λ o. node_at o (item.sequence YAML_BLOCK_SEQUENCE_STYLE) t.span.from t.span.to in
    record { tree = trees.indentless t.span n.tree i.tree; rest = i.rest; left = i.left; said = λ o b settles. also (tells ds t (first o) b (settles t.span.from t.span.to)) (also n.said i.said) }

-- ---- sequences and mappings

flow_then : (canonical flow asked : Bool) → (canonical || (flow || asked)) ≡ false
    → (flow ≡ false) × (asked ≡ false)
flow_then true flow asked e = absurd (true≢false e)
flow_then false true asked e = absurd (true≢false e)
flow_then false false asked e = (refl, e)

or_last : (a b : Bool) → (a || b) ≡ false → b ≡ false
or_last true b e = absurd (true≢false e)
or_last false b e = e

sequence_by : (flow f k : Bool) (q : Part) (p : Context) → Resolves p.directives → (ns : Nodes)
    → ItemsFill p ns → EntriesGrow p ns → LooseGrows p ns
    → (f ≡ false → (flow ≡ false) × (are_none ns ≡ false)) → (k ≡ true → is_of_mapping q ≡ true)
    → (anchor tag : Option (List ℕ)) (ts : List Token) (bs : List TokenBody)
    → token_bodies ts ≡ anchor_bodies anchor
    (tag_bodies p.directives tag (sequence_opens f k
    (items_bodies p f true ns (sequence_closes f k bs))))
    → Grown (wants flow q) p.directives
    (λ es. event.sequence_start anchor tag (is_missing tag) (sequence_style f)
    ∷ items_reads p f ns (event.sequence_end ∷ es)) ts bs
sequence_by flow true k q p r ns fill entries loose free may anchor tag ts bs e =
    let cs = items_bodies p true true ns (token.flow_sequence_end ∷ bs) in
    let R : Reads = λ es. items_reads p true ns (event.sequence_end ∷ es) in
    dressed (wants flow q) p.directives r anchor tag (item.sequence YAML_FLOW_SEQUENCE_STYLE) R (token.flow_sequence_start ∷ cs) bs (λ us x. bracketed brackets.Sequence (wants flow q) p.directives R us cs bs (λ vs y. fill vs bs y) x) ts e
sequence_by true false k q p r ns fill entries loose free may anchor tag ts bs e = absurd (true≢false (free refl).0)
sequence_by false false false q p r ns fill entries loose free may anchor tag ts bs e =
    let cs = items_bodies p false true ns (token.block_end ∷ bs) in
    let R : Reads = λ es. items_reads p false ns (event.sequence_end ∷ es) in
    dressed (Block (side_of q)) p.directives r anchor tag (item.sequence YAML_BLOCK_SEQUENCE_STYLE) R (token.block_sequence_start ∷ cs) bs (λ us x. block_sequence (side_of q) p.directives R us cs bs (λ vs y. entries true vs bs y) x) ts e
sequence_by false false true part.Item p r ns fill entries loose free may anchor tag ts bs e = absurd (false≢true (may refl))
sequence_by false false true part.Key p r ns fill entries loose free may anchor tag ts bs e =
    dressed (Block (Some Key)) p.directives r anchor tag (item.sequence YAML_BLOCK_SEQUENCE_STYLE) (λ es. items_reads p false ns (event.sequence_end ∷ es)) (items_bodies p false true ns bs) bs (λ us x. loose (free refl).1 Key us bs x) ts e
sequence_by false false true part.SimpleKey p r ns fill entries loose free may anchor tag ts bs e =
    dressed (Block (Some Key)) p.directives r anchor tag (item.sequence YAML_BLOCK_SEQUENCE_STYLE) (λ es. items_reads p false ns (event.sequence_end ∷ es)) (items_bodies p false true ns bs) bs (λ us x. loose (free refl).1 Key us bs x) ts e
sequence_by false false true part.Value p r ns fill entries loose free may anchor tag ts bs e =
    dressed (Block (Some Value)) p.directives r anchor tag (item.sequence YAML_BLOCK_SEQUENCE_STYLE) (λ es. items_reads p false ns (event.sequence_end ∷ es)) (items_bodies p false true ns bs) bs (λ us x. loose (free refl).1 Value us bs x) ts e

sequence_grows : (p : Context) → Resolves p.directives → (o : Start) (ns : Nodes) → ItemsFill p ns
    → EntriesGrow p ns → LooseGrows p ns → NodeGrows p (sequence_node o ns)
unfolding node_bodies node_reads
sequence_grows p r o ns fill entries loose flow q bare some ts bs e =
    sequence_by flow (is_flow_at p flow o (are_none ns)) (keeps q bare o) q p r ns fill entries loose
    (λ h. let (a, b) = flow_then p.settings.canonical flow (o.flow || are_none ns) h in (a, or_last o.flow (are_none ns) b))
    (and_left (is_of_mapping q) (not (bare && is_bare o.anchor (start_tag false o)))) o.anchor (start_tag false o) ts bs e

mapping_by : (flow f : Bool) (q : Part) (p : Context) → Resolves p.directives → (ps : Pairs)
    → PartsFill p ps → PairsGrow p ps → (f ≡ false → flow ≡ false)
    → (anchor tag : Option (List ℕ)) (ts : List Token) (bs : List TokenBody)
    → token_bodies ts ≡ anchor_bodies anchor
    (tag_bodies p.directives tag (mapping_opens f (pairs_bodies p f true ps (mapping_closes f bs))))
    → Grown (wants flow q) p.directives
    (λ es. event.mapping_start anchor tag (is_missing tag) (mapping_style f)
    ∷ pairs_reads p f ps (event.mapping_end ∷ es)) ts bs
mapping_by flow true q p r ps fill pairs free anchor tag ts bs e =
    let cs = pairs_bodies p true true ps (token.flow_mapping_end ∷ bs) in
    let R : Reads = λ es. pairs_reads p true ps (event.mapping_end ∷ es) in
    dressed (wants flow q) p.directives r anchor tag (item.mapping YAML_FLOW_MAPPING_STYLE) R (token.flow_mapping_start ∷ cs) bs (λ us x. bracketed brackets.Mapping (wants flow q) p.directives R us cs bs (λ vs y. fill vs bs y) x) ts e
mapping_by true false q p r ps fill pairs free anchor tag ts bs e = absurd (true≢false (free refl))
mapping_by false false q p r ps fill pairs free anchor tag ts bs e =
    let cs = pairs_bodies p false true ps (token.block_end ∷ bs) in
    let R : Reads = λ es. pairs_reads p false ps (event.mapping_end ∷ es) in
    dressed (Block (side_of q)) p.directives r anchor tag (item.mapping YAML_BLOCK_MAPPING_STYLE) R (token.block_mapping_start ∷ cs) bs (λ us x. block_mapping (side_of q) p.directives R us cs bs (λ vs y. pairs true vs bs y) x) ts e

mapping_grows : (p : Context) → Resolves p.directives → (o : Start) (ps : Pairs) → PartsFill p ps
    → PairsGrow p ps → NodeGrows p (mapping_node o ps)
unfolding node_bodies node_reads
mapping_grows p r o ps fill pairs flow q bare some ts bs e =
    mapping_by flow (is_flow_at p flow o (are_no_pairs ps)) q p r ps fill pairs (λ h. (flow_then p.settings.canonical flow (o.flow || are_no_pairs ps) h).0) o.anchor (start_tag false o) ts bs e

-- ---- items

flow_there : (p : Context) (n : Node) (q : Part) → is_left_out p true q n ≡ false
flow_there p (alias_node name) q = refl
flow_there p _ q = refl

item_fills : (p : Context) (x : Node) (xs : Nodes) → NodeGrows p x → ItemsFollow p xs
    → ItemsFill p (node x xs)
unfolding items_bodies items_reads
item_fills p x xs one others ts bs e =
    let n = one true part.Item true (flow_there p x part.Item) ts (items_bodies p true false xs (token.flow_sequence_end ∷ bs)) e in
    let i = others n.rest bs n.left in
    record { tree = single n.tree i.tree; rest = i.rest; left = i.left; said = also (grown n) i.said }

entries_end : (p : Context) → EntriesGrow p no_nodes
unfolding items_bodies items_reads
entries_end p fresh ts bs e =
    let t = take ts token.block_end bs e in
    record { tree = end_entries t.span; rest = t.rest; left = t.left; said = tells p.directives t (trees.event_at event.sequence_end t.span.from t.span.to) event.sequence_end (λ D h. refl) }

entry_grows : (p : Context) (x : Node) (xs : Nodes) → MaybeGrows p x → EntriesGrow p xs
    → EntriesGrow p (node x xs)
unfolding items_bodies items_reads
entry_grows p x xs one others fresh ts bs e =
    let tail = items_bodies p false false xs (token.block_end ∷ bs) in
    let t = take ts token.block_entry (node_bodies p false part.Item true x tail) e in
    let n = one false part.Item true Entry t.span.to t.rest tail t.left in
    let i = others false n.rest bs n.left in
    record { tree = entry t.span n.tree i.tree; rest = i.rest; left = i.left; said = also (silent p.directives t) (also n.said i.said) }

others_end : (p : Context) → OthersGrow p no_nodes
unfolding items_bodies items_reads
others_end p side fresh ts bs e = record {
  tree = no_others;
  rest = ts;
  left = e;
  said = record { same = refl; gives = λ more gs f D same. step_says (trees.event_at event.sequence_end (trees.next more) (trees.next more), behind more) gs f D event.sequence_end refl };
}

other_grows : (p : Context) (x : Node) (xs : Nodes) → MaybeGrows p x → OthersGrow p xs
    → OthersGrow p (node x xs)
unfolding items_bodies items_reads
other_grows p x xs one others side fresh ts bs e =
    let tail = items_bodies p false false xs bs in
    let t = take ts token.block_entry (node_bodies p false part.Item true x tail) e in
    let n = one false part.Item true (IndentlessEntry side) t.span.to t.rest tail t.left in
    let i = others side false n.rest bs n.left in
    record { tree = other t.span n.tree i.tree; rest = i.rest; left = i.left; said = also (silent p.directives t) (also n.said i.said) }

-- ---- pairs

part_fills : (p : Context) (k v : Node) (ps : Pairs) → MaybeGrows p k → MaybeGrows p v
    → PartsFollow p ps → PartsFill p (pair k v ps)
unfolding pairs_bodies pairs_reads
part_fills p k v ps key value others ts bs e =
    let ds = p.directives in
    let s = is_simple p k in
    let tail = pairs_bodies p true false ps (token.flow_mapping_end ∷ bs) in
    let rest = token.value ∷ node_bodies p true part.Value (not s) v tail in
    let t = take ts token.key (node_bodies p true (key_part s) (not s) k rest) e in
    let a = key true (key_part s) (not s) (FlowPair brackets.Mapping Key) t.span.to t.rest rest t.left in
    let c = take a.rest token.value (node_bodies p true part.Value (not s) v tail) a.left in
    let b = value true part.Value (not s) (FlowPair brackets.Mapping Value) c.span.to c.rest tail c.left in
    let i = others b.rest bs b.left in
    record { tree = trees.pair t.span a.tree (colon c.span b.tree) i.tree; rest = i.rest; left = i.left; said = also (silent ds t) (also a.said (also (silent ds c) (also b.said i.said))) }

pairs_end : (p : Context) → PairsGrow p no_pairs
unfolding pairs_bodies pairs_reads
pairs_end p fresh ts bs e =
    let t = take ts token.block_end bs e in
    record { tree = end_pairs t.span; rest = t.rest; left = t.left; said = tells p.directives t (trees.event_at event.mapping_end t.span.from t.span.to) event.mapping_end (λ D h. refl) }

block_key : (simple : Bool) (at : Site) (before : yaml_mark_t) (ds : List TagDirective) (R : Reads)
    (ts : List Token) (bs : List TokenBody)
    → MaybeGrown (wants false (key_part simple)) at before ds R ts bs
    → MaybeGrown (Block (Some Key)) at before ds R ts bs
block_key true at before ds R ts bs g = g
block_key false at before ds R ts bs g = g

block_pair_grows : (p : Context) (k v : Node) (ps : Pairs) → MaybeGrows p k → MaybeGrows p v
    → PairsGrow p ps → PairsGrow p (pair k v ps)
unfolding pairs_bodies pairs_reads
block_pair_grows p k v ps key value others fresh ts bs e =
    let ds = p.directives in
    let s = is_simple p k in
    let tail = pairs_bodies p false false ps (token.block_end ∷ bs) in
    let rest = token.value ∷ node_bodies p false part.Value (not s) v tail in
    let t = take ts token.key (node_bodies p false (key_part s) (not s) k rest) e in
    let a = block_key s (BlockPair Key) t.span.to p.directives (node_reads p false (key_part s) k) t.rest rest (key false (key_part s) (not s) (BlockPair Key) t.span.to t.rest rest t.left) in
    let c = take a.rest token.value (node_bodies p false part.Value (not s) v tail) a.left in
    let b = value false part.Value (not s) (BlockPair Value) c.span.to c.rest tail c.left in
    let i = others false b.rest bs b.left in
    record { tree = block_pair t.span a.tree (colon c.span b.tree) i.tree; rest = i.rest; left = i.left; said = also (silent ds t) (also a.said (also (silent ds c) (also b.said i.said))) }

-- ---- all of them

mutual
  unfolding node_bodies node_reads items_bodies items_reads pairs_bodies pairs_reads

  node_grows : (p : Context) → Resolves p.directives → (n : Node) → HasNoMark n → NodeGrows p n
  node_grows p r (alias_node name) fine = λ flow q bare some ts bs e. alias_grown (wants flow q) p.directives name ts bs e
  node_grows p r (scalar_node x) fine = scalar_grows p r x fine
  node_grows p r (sequence_node o items) fine = sequence_grows p r o items (items_fill p r items fine) (entries_grow p r items fine) (loose_grow p r items fine)
  node_grows p r (mapping_node o pairs) fine = mapping_grows p r o pairs (parts_fill p r pairs fine) (pairs_grow p r pairs fine)

  items_fill : (p : Context) → Resolves p.directives → (ns : Nodes) → HaveNoMark ns → ItemsFill p ns
  items_fill p r no_nodes fine = λ ts bs e. brackets_end brackets.Sequence p.directives ts bs e
  items_fill p r (node x xs) (fx, fine) = item_fills p x xs (node_grows p r x fx) (items_follow p r xs fine)

  items_follow : (p : Context) → Resolves p.directives → (ns : Nodes) → HaveNoMark ns
      → ItemsFollow p ns
  items_follow p r no_nodes fine = λ ts bs e. brackets_done brackets.Sequence p.directives ts bs e
  items_follow p r (node x xs) (fx, fine) = λ ts bs e. comma_follows brackets.Sequence p.directives (λ es. items_reads p true (node x xs) (event.sequence_end ∷ es)) (items_bodies p true true (node x xs) (token.flow_sequence_end ∷ bs)) bs (λ us. item_fills p x xs (node_grows p r x fx) (items_follow p r xs fine) us bs) ts e

  entries_grow : (p : Context) → Resolves p.directives → (ns : Nodes) → HaveNoMark ns
      → EntriesGrow p ns
  entries_grow p r no_nodes fine = entries_end p
  entries_grow p r (node x xs) (fx, fine) = entry_grows p x xs (maybe_grows p x (node_grows p r x fx)) (entries_grow p r xs fine)

  others_grow : (p : Context) → Resolves p.directives → (ns : Nodes) → HaveNoMark ns
      → OthersGrow p ns
  others_grow p r no_nodes fine = others_end p
  others_grow p r (node x xs) (fx, fine) = other_grows p x xs (maybe_grows p x (node_grows p r x fx)) (others_grow p r xs fine)

  loose_grow : (p : Context) → Resolves p.directives → (ns : Nodes) → HaveNoMark ns
      → LooseGrows p ns
  loose_grow p r no_nodes fine = λ some. absurd (true≢false some)
  loose_grow p r (node x xs) (fx, fine) = loose_sequence p x xs (maybe_grows p x (node_grows p r x fx)) (others_grow p r xs fine)

  parts_fill : (p : Context) → Resolves p.directives → (ps : Pairs) → PairsHaveNoMark ps
      → PartsFill p ps
  parts_fill p r no_pairs fine = λ ts bs e. brackets_end brackets.Mapping p.directives ts bs e
  parts_fill p r (pair k v ps) (fk, fv, fine) = part_fills p k v ps (maybe_grows p k (node_grows p r k fk)) (maybe_grows p v (node_grows p r v fv)) (parts_follow p r ps fine)

  parts_follow : (p : Context) → Resolves p.directives → (ps : Pairs) → PairsHaveNoMark ps
      → PartsFollow p ps
  parts_follow p r no_pairs fine = λ ts bs e. brackets_done brackets.Mapping p.directives ts bs e
  parts_follow p r (pair k v ps) (fk, fv, fine) = λ ts bs e. comma_follows brackets.Mapping p.directives (λ es. pairs_reads p true (pair k v ps) (event.mapping_end ∷ es)) (pairs_bodies p true true (pair k v ps) (token.flow_mapping_end ∷ bs)) bs (λ us. part_fills p k v ps (maybe_grows p k (node_grows p r k fk)) (maybe_grows p v (node_grows p r v fv)) (parts_follow p r ps fine) us bs) ts e

  pairs_grow : (p : Context) → Resolves p.directives → (ps : Pairs) → PairsHaveNoMark ps
      → PairsGrow p ps
  pairs_grow p r no_pairs fine = pairs_end p
  pairs_grow p r (pair k v ps) (fk, fv, fine) = block_pair_grows p k v ps (maybe_grows p k (node_grows p r k fk)) (maybe_grows p v (node_grows p r v fv)) (pairs_grow p r ps fine)

-- a node that is written
pub nodes_grown : (p : Context) → Resolves p.directives → (n : Node) → HasNoMark n
    → (flow : Bool) (q : Part) (bare : Bool) → is_left_out p flow q n ≡ false
    → (ts : List Token) (bs : List TokenBody) → token_bodies ts ≡ node_bodies p flow q bare n bs
    → Grown (wants flow q) p.directives (node_reads p flow q n) ts bs
nodes_grown p r n fine = node_grows p r n fine

-- a node, or nothing
pub maybes_grown : (p : Context) → Resolves p.directives → (n : Node) → HasNoMark n
    → (flow : Bool) (q : Part) (bare : Bool) (at : Site) (before : yaml_mark_t) (ts : List Token)
    (bs : List TokenBody) → token_bodies ts ≡ node_bodies p flow q bare n bs
    → MaybeGrown (wants flow q) at before p.directives (node_reads p flow q n) ts bs
maybes_grown p r n fine = maybe_grows p n (node_grows p r n fine)
