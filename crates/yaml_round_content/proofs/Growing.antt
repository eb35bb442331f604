-- Trees from the bodies of tokens.
use Rattle.std.proofs.Common.{◌≡◌, ℕ, Bool, true, false, not, ◌&&◌, List, [], ◌∷◌, length, Option, Some, None, refl, sym, ap, subst, ◌∙◌, ◌||◌, if◌then◌else◌, arith}
use Rattle.yaml_round_content.proofs.ReadBackWords.{nat_tests, yaml_mark_t, Token, TokenBody, EventBody, TagDirective, Fault, Flow, Span, token_at, PropertyTokens, Given, spell_properties, spell_node, spell_content, spell_items, spell_more, properties_of, Items, More, end_items, end_more, single, comma, there, colon, opening, closing, flow_shape, end_event, items_node, items_content, items_items, items_more, Directives, Reading, Settled, gave, settle, read_on, reading, resolved, with_resolved, node_event, Split, shorthand, verbatim, split_tag, Scalar, Node, alias_node, scalar_node, sequence_node, mapping_node, Nodes, no_nodes, node, Pairs, no_pairs, pair, has, resolved_split, tag_body, anchor_bodies, tag_bodies, mark_bodies, node_bodies, items_bodies, pairs_bodies, scalar_reads, node_reads, items_reads, pairs_reads, token_bodies, SaysTree, IsNoMark, HasNoMark, HaveNoMark, PairsHaveNoMark, Grown}
use Rattle.yaml_parse_model.specs.declared.yaml_scalar_style_t.{yaml_scalar_style_t}
use Rattle.yaml_parse_model.specs.declared.yaml_scalar_style_t.TheVariants.{YAML_DOUBLE_QUOTED_SCALAR_STYLE}
use Rattle.yaml_emit_laws.specs.scan_types.Tokens as token
use Rattle.yaml_parse_model.specs.Events as event
use Rattle.yaml_emit_laws.specs.parse_grammar.declared.name.Wants.{Wants}
use Rattle.yaml_emit_laws.specs.parse_grammar.declared.name.Brackets.{Brackets}
use Rattle.yaml_emit_laws.specs.parse_grammar.declared.name.Brackets.TheVariants as brackets
use Rattle.yaml_emit_laws.specs.parse_grammar.Items.{RawEvent, Shape, Properties, node_at}
use Rattle.yaml_emit_laws.specs.parse_grammar.Items as item
use Rattle.yaml_emit_laws.specs.parse_grammar.Trees as trees
use Rattle.yaml_round_content.proofs.CanonicalPremises.{Resolves}

-- ---- one token

pub record Taken (ts : List Token) (b : TokenBody) (bs : List TokenBody) : Type 0 where
  pub span : Span
  pub rest : List Token
  pub same : ts ≡ token_at b span ∷ rest
  pub left : token_bodies rest ≡ bs

pub head_is : (x y : TokenBody) (xs ys : List TokenBody) → x ∷ xs ≡ y ∷ ys → x ≡ y
head_is x y xs ys e = cc

pub tail_is : (x y : TokenBody) (xs ys : List TokenBody) → x ∷ xs ≡ y ∷ ys → xs ≡ ys
tail_is x y xs ys e = cc

-- A list of tokens whose bodies begin so begins with such a token.
pub take : (ts : List Token) (b : TokenBody) (bs : List TokenBody) → token_bodies ts ≡ b ∷ bs
    → Taken ts b bs
take [] b bs e = absurd (cc)
take (t ∷ ts) b bs e =
    let s : Span = record { from = t.start_mark; to = t.end_mark } in
    record { span = s; rest = ts; same = ap (λ (x : TokenBody). token_at x s ∷ ts) (head_is t.body b (token_bodies ts) bs e); left = tail_is t.body b (token_bodies ts) bs e }

-- ---- one item

-- What two readings have first is put together.
pub both_say : (R Q : List EventBody → List EventBody) (r q p : Reading) → SaysTree R r q
    → SaysTree Q q p
    → SaysTree (λ es. R (Q es)) r p
both_say R Q r q p a b = record { events = a.events ∙ ap (λ (es : List EventBody). R es) b.events; ending = a.ending ∙ b.ending }

pub on_says : (s : Settled) (b : EventBody) (D : Directives) (i : RawEvent) (n : ℕ)
    (k : Directives → Reading) → s ≡ gave b D → SaysTree (λ es. b ∷ es) (read_on s i n k) (k D)
on_says s b D i n k e = let P : Settled → Type 0 = λ x. SaysTree (λ es. b ∷ es) (read_on x i n k) (k D) in subst P (sym e) (record { events = refl; ending = refl })

-- An item that settles and leaves the directives is the reading's next event.
pub step_says : (g : Given) (gs : List Given) (f : Option Fault) (D : Directives) (b : EventBody)
    → settle g.0 D ≡ gave b D → SaysTree (λ es. b ∷ es) (reading (g ∷ gs) f D) (reading gs f D)
unfolding reading
step_says g gs f D b e = on_says (settle g.0 D) b D g.0 g.1 (λ x. reading gs f x) e

-- ---- what the first tokens of a list say

abbrev pub Reads : Type 0
Reads = List EventBody → List EventBody

-- Tokens before a rest are spelled so, and these events are read of them, whatever follows.
pub record Said (ds : List TagDirective) (R : Reads) (ts rest : List Token) (spell : List Token → List Token) (items : List Token → List Given → List Given) : Type 0 where
  pub same : ts ≡ spell rest
  pub gives : (more : List Token) (gs : List Given) (f : Option Fault) (D : Directives)
      → D.tags ≡ ds → SaysTree R (reading (items more gs) f D) (reading gs f D)

-- A token without an event.
pub silent : (ds : List TagDirective) {ts : List Token} {b : TokenBody} {bs : List TokenBody}
    (t : Taken ts b bs)
    → Said ds (λ es. es) ts t.rest (λ ts. token_at b t.span ∷ ts) (λ more gs. gs)
silent ds t = record { same = t.same; gives = λ more gs f D h. (record { events = refl; ending = refl }) }

-- A token whose item settles as an event.
pub tells : (ds : List TagDirective) {ts : List Token} {b : TokenBody} {bs : List TokenBody}
    (t : Taken ts b bs) (i : RawEvent) (e : EventBody)
    → ((D : Directives) → D.tags ≡ ds → settle i D ≡ gave e D)
    → Said ds (λ es. e ∷ es) ts t.rest (λ ts. token_at b t.span ∷ ts)
    (λ more gs. (i, length more) ∷ gs)
tells ds t i e settles = record { same = t.same; gives = λ more gs f D h. step_says (i, length more) gs f D e (settles D h) }

-- Some after others.
pub also : {ds : List TagDirective} {R Q : Reads} {ts us rest : List Token}
    {s q : List Token → List Token} {i j : List Token → List Given → List Given}
    → Said ds R ts us s i → Said ds Q us rest q j
    → Said ds (λ es. R (Q es)) ts rest (λ ts. s (q ts)) (λ more gs. i (q more) (j more gs))
also a b = grind (arith, nat_tests, both_say)

-- The tokens begin with a part of a tree, of which the events are read, whatever follows.
pub record Spelt (T : Type 0) (spell : T → List Token → List Token) (items : T → List Token → List Given → List Given) (ds : List TagDirective) (R : Reads) (ts : List Token) (bs : List TokenBody) : Type 0 where
  pub tree : T
  pub rest : List Token
  pub left : token_bodies rest ≡ bs
  pub said : Said ds R ts rest (spell tree) (items tree)

-- what follows an opening bracket
abbrev pub Filled : Brackets → List TagDirective → Reads → List Token → List TokenBody → Type 0
Filled b = Spelt Items (λ (i : Items) (rest : List Token). spell_items b i rest) (λ (i : Items) (rest : List Token) (more : List Given). items_items b i rest more)

-- what follows an item or a pair in brackets
abbrev pub Followed : Brackets → List TagDirective → Reads → List Token → List TokenBody → Type 0
Followed b = Spelt More (λ (i : More) (rest : List Token). spell_more b i rest) (λ (i : More) (rest : List Token) (more : List Given). items_more b i rest more)

-- A node is part of a tree.
pub grown : {w : Wants} {ds : List TagDirective} {R : Reads} {ts : List Token} {bs : List TokenBody}
    (g : Grown w ds R ts bs) → Said ds R ts g.rest (λ rest. spell_node g.tree rest)
    (λ rest more. items_node g.tree rest more)
grown g = record { same = g.same; gives = g.gives }

-- ---- properties

pub record Named : Type 0 where
  pub handle : List ℕ
  pub suffix : List ℕ
  pub full : List ℕ

abbrev pub IsNamed : List TagDirective → Option Named → Type 0
IsNamed ds None = Unit {0}
IsNamed ds (Some x) = resolved ds x.handle x.suffix ≡ Some x.full

abbrev pub named_bodies : Option Named → List TokenBody → List TokenBody
named_bodies None bs = bs
named_bodies (Some x) bs = token.tag x.handle x.suffix ∷ bs

abbrev pub full_of : Option Named → Option (List ℕ)
full_of None = None
full_of (Some x) = Some x.full

abbrev pub spell_if : Option PropertyTokens → List Token → List Token
spell_if None ts = ts
spell_if (Some d) ts = spell_properties d ts

abbrev pub properties_if : Option PropertyTokens → Option Properties
properties_if None = None
properties_if (Some d) = Some (properties_of d)

abbrev pub some_tokens : Option PropertyTokens → Bool
some_tokens None = false
some_tokens (Some d) = true

abbrev pub some_named : Option Named → Bool
some_named None = false
some_named (Some x) = true

pub record WithProperties (ds : List TagDirective) (anchor : Option (List ℕ)) (tag : Option Named) (ts : List Token) (bs : List TokenBody) : Type 0 where
  pub only_properties : Option PropertyTokens
  pub rest : List Token
  pub same : ts ≡ spell_if only_properties rest
  pub left : token_bodies rest ≡ bs
  pub some : some_tokens only_properties ≡ (has anchor || some_named tag)
  pub gives : (shape : Shape) (from to : yaml_mark_t) (D : Directives) → D.tags ≡ ds
      → settle (node_at (properties_if only_properties) shape from to) D
      ≡ gave (node_event anchor (full_of tag) shape) D

-- A tag that resolves settles as its full name.
pub resolves : (ds : List TagDirective) (handle suffix full : List ℕ) (anchor : Option (List ℕ))
    (shape : Shape) (from at : yaml_mark_t) (D : Directives) → resolved ds handle suffix ≡ Some full
    → D.tags ≡ ds
    → with_resolved (resolved D.tags handle suffix) anchor shape from at D
    ≡ gave (node_event anchor (Some full) shape) D
resolves ds handle suffix full anchor shape from at D e t = grind (arith, nat_tests)

-- Properties are read as they are spelled.
pub with_properties : (ds : List TagDirective) (anchor : Option (List ℕ)) (tag : Option Named)
    → IsNamed ds tag → (ts : List Token) (bs : List TokenBody)
    → token_bodies ts ≡ anchor_bodies anchor (named_bodies tag bs)
    → WithProperties ds anchor tag ts bs
with_properties ds None None h ts bs e = record { only_properties = None; rest = ts; same = refl; left = e; some = refl; gives = λ shape from to D t. refl }
with_properties ds (Some a) None h ts bs e =
    let x = take ts (token.anchor a) bs e in
    record { only_properties = Some (trees.anchor (record { name = a; span = x.span })); rest = x.rest; same = x.same; left = x.left; some = refl; gives = λ shape from to D t. refl }
with_properties ds None (Some n) h ts bs e =
    let x = take ts (token.tag n.handle n.suffix) bs e in
    record {
      only_properties = Some (trees.tag (record { handle = n.handle; suffix = n.suffix; span = x.span }));
      rest = x.rest;
      same = x.same;
      left = x.left;
      some = refl;
      gives = λ shape from to D t. resolves ds n.handle n.suffix n.full None shape x.span.from x.span.from D h t;
    }
with_properties ds (Some a) (Some n) h ts bs e =
    let x = take ts (token.anchor a) (token.tag n.handle n.suffix ∷ bs) e in
    let y = take x.rest (token.tag n.handle n.suffix) bs x.left in
    record {
      only_properties = Some (trees.anchor_tag (record { name = a; span = x.span }) (record { handle = n.handle; suffix = n.suffix; span = y.span }));
      rest = y.rest;
      same = x.same ∙ ap (λ (r : List Token). token_at (token.anchor a) x.span ∷ r) y.same;
      left = y.left;
      some = refl;
      gives = λ shape from to D t. resolves ds n.handle n.suffix n.full (Some a) shape x.span.from y.span.from D h t;
    }

-- the tag that is written, and what it resolves to
abbrev pub split_handle : Split → List ℕ
split_handle (shorthand handle suffix) = handle
split_handle (verbatim t) = []

abbrev pub split_suffix : Split → List ℕ
split_suffix (shorthand handle suffix) = suffix
split_suffix (verbatim t) = t

-- The token of a tag, by its parts.
pub split_body : (s : Split) → tag_body s ≡ token.tag (split_handle s) (split_suffix s)
split_body s = grind (arith, nat_tests)

-- The parts of a tag resolve to that tag.
pub split_resolved : (ds : List TagDirective) (s : Split)
    → resolved ds (split_handle s) (split_suffix s) ≡ resolved_split ds s
split_resolved ds s = grind (arith, nat_tests)

abbrev pub tag_named : List TagDirective → Option (List ℕ) → Option Named
tag_named ds None = None
tag_named ds (Some t) = Some (record { handle = split_handle (split_tag ds t); suffix = split_suffix (split_tag ds t); full = t })

-- Its parts resolve to it.
pub tag_is_named : (ds : List TagDirective) → Resolves ds → (tag : Option (List ℕ))
    → IsNamed ds (tag_named ds tag)
tag_is_named ds r None = tt
tag_is_named ds r (Some t) = split_resolved ds (split_tag ds t) ∙ r t

-- Its token is that of its parts.
pub tag_bodies_are : (ds : List TagDirective) (tag : Option (List ℕ)) (bs : List TokenBody)
    → tag_bodies ds tag bs ≡ named_bodies (tag_named ds tag) bs
tag_bodies_are ds tag bs = grind (arith, nat_tests, split_body)

-- In full it is that tag.
pub full_is : (ds : List TagDirective) (tag : Option (List ℕ)) → full_of (tag_named ds tag) ≡ tag
full_is ds tag = grind (arith, nat_tests)

-- of a scalar: with `!` where it is untagged and may not be quoted
abbrev pub bang : Named
bang = record { handle = []; suffix = 33 ∷ []; full = 33 ∷ [] }

abbrev mark_named : Bool → Option Named
mark_named true = None
mark_named false = Some bang

abbrev scalar_named : List TagDirective → Option (List ℕ) → Bool → Option Named
scalar_named ds None quoted = mark_named quoted
scalar_named ds (Some t) quoted = tag_named ds (Some t)

scalar_is_named : (ds : List TagDirective) → Resolves ds → (tag : Option (List ℕ)) (quoted : Bool)
    → IsNamed ds (scalar_named ds tag quoted)
scalar_is_named ds r None true = tt
scalar_is_named ds r None false = refl
scalar_is_named ds r (Some t) quoted = tag_is_named ds r (Some t)

scalar_bodies_are : (ds : List TagDirective) (tag : Option (List ℕ)) (quoted : Bool)
    (bs : List TokenBody)
    → tag_bodies ds tag (mark_bodies (not (has tag) && not quoted) bs)
    ≡ named_bodies (scalar_named ds tag quoted) bs
scalar_bodies_are ds tag quoted bs = grind (arith, nat_tests, tag_bodies_are)

-- A scalar with a tag that is kept says that tag.
pub tagged_event : (b : Bool) (anchor : Option (List ℕ)) (t value : List ℕ)
    (style : yaml_scalar_style_t) → b ≡ false
    → (if b then event.scalar anchor None value true false style else event.scalar anchor (Some t)
    value false false style) ≡ event.scalar anchor (Some t) value false false style
tagged_event b anchor t value style e = grind (arith, nat_tests)

scalar_event_is : (ds : List TagDirective) (anchor tag : Option (List ℕ)) (value : List ℕ)
    (quoted : Bool) → IsNoMark tag
    → node_event anchor (full_of (scalar_named ds tag quoted))
    (item.scalar value YAML_DOUBLE_QUOTED_SCALAR_STYLE) ≡ scalar_reads anchor tag value quoted
scalar_event_is ds anchor tag value quoted h = grind (arith, nat_tests, tagged_event)

-- ---- nodes

abbrev pub with_dress : {w : Wants} → Option PropertyTokens → trees.Content w → trees.Node w
with_dress None c = trees.bare c
with_dress (Some d) c = trees.with_properties d c

-- It spells its properties, and then its content.
pub dress_spells : (w : Wants) (d : Option PropertyTokens) (c : trees.Content w) (rest : List Token)
    → spell_node (with_dress d c) rest ≡ spell_if d (spell_content c rest)
dress_spells w d c rest = grind (arith, nat_tests)

-- A node in its properties gives what its content gives with them.
pub dress_gives : (w : Wants) (d : Option PropertyTokens) (c : trees.Content w) (rest : List Token)
    (more : List Given)
    → items_node (with_dress d c) rest more ≡ items_content c (properties_if d) rest more
dress_gives w d c rest more = grind (arith, nat_tests)

-- ---- contents

-- The tokens begin with a content of that shape: whatever its properties settle to is before the events in it.
pub record Contained (w : Wants) (ds : List TagDirective) (shape : Shape) (R : Reads) (ts : List Token) (bs : List TokenBody) : Type 0 where
  pub tree : trees.Content w
  pub rest : List Token
  pub left : token_bodies rest ≡ bs
  pub said : (o : Option Properties) (b : EventBody)
      → ((from to : yaml_mark_t) (D : Directives) → D.tags ≡ ds → settle (node_at o shape from to) D
      ≡ gave b D)
      → Said ds (λ es. b ∷ R es) ts rest (λ rest. spell_content tree rest)
      (λ rest more. items_content tree o rest more)

-- A content in its properties is a node.
pub dressed_named : (w : Wants) (ds : List TagDirective) (anchor : Option (List ℕ))
    (tag : Option Named) → IsNamed ds tag → (shape : Shape) (R : Reads) (cs bs : List TokenBody)
    → ((us : List Token) → token_bodies us ≡ cs → Contained w ds shape R us bs)
    → (ts : List Token) → token_bodies ts ≡ anchor_bodies anchor (named_bodies tag cs)
    → Grown w ds (λ es. node_event anchor (full_of tag) shape ∷ R es) ts bs
dressed_named w ds anchor tag h shape R cs bs inner ts e =
    let d = with_properties ds anchor tag h ts cs e in
    let c = inner d.rest d.left in
    let b = node_event anchor (full_of tag) shape in
    let a = c.said (properties_if d.only_properties) b (λ from to D same. d.gives shape from to D same) in
    record {
      tree = with_dress d.only_properties c.tree;
      rest = c.rest;
      same = d.same ∙ ap (λ (y : List Token). spell_if d.only_properties y) a.same ∙ sym (dress_spells w d.only_properties c.tree c.rest);
      left = c.left;
      gives = λ more gs f D same. subst (λ (y : List Given). SaysTree (λ es. b ∷ R es) (reading y f D) (reading gs f D)) (sym (dress_gives w d.only_properties c.tree more gs)) (a.gives more gs f D same);
    }

-- So is a collection, by its tag.
pub dressed : (w : Wants) (ds : List TagDirective) → Resolves ds
    → (anchor tag : Option (List ℕ)) (shape : Shape) (R : Reads) (cs bs : List TokenBody)
    → ((us : List Token) → token_bodies us ≡ cs → Contained w ds shape R us bs)
    → (ts : List Token) → token_bodies ts ≡ anchor_bodies anchor (tag_bodies ds tag cs)
    → Grown w ds (λ es. node_event anchor tag shape ∷ R es) ts bs
dressed w ds r anchor tag shape R cs bs inner ts e =
    let named = e ∙ ap (λ (y : List TokenBody). anchor_bodies anchor y) (tag_bodies_are ds tag cs) in
    let P : Option (List ℕ) → Type 0 = λ t. Grown w ds (λ es. node_event anchor t shape ∷ R es) ts bs in
    subst P (full_is ds tag) (dressed_named w ds anchor (tag_named ds tag) (tag_is_named ds r tag) shape R cs bs inner ts named)

-- A scalar's token.
pub scalar_contained : (w : Wants) (ds : List TagDirective) (value : List ℕ)
    (s : yaml_scalar_style_t) (bs : List TokenBody) (us : List Token)
    → token_bodies us ≡ token.scalar value s ∷ bs
    → Contained w ds (item.scalar value s) (λ es. es) us bs
scalar_contained w ds value s bs us e =
    let t = take us (token.scalar value s) bs e in
    record { tree = trees.scalar t.span value s; rest = t.rest; left = t.left; said = λ o b settles. tells ds t (node_at o (item.scalar value s) t.span.from t.span.to) b (settles t.span.from t.span.to) }

-- What is in brackets.
pub bracketed : (b : Brackets) (w : Wants) (ds : List TagDirective) (R : Reads) (us : List Token)
    (cs bs : List TokenBody) → ((ts : List Token) → token_bodies ts ≡ cs → Filled b ds R ts bs)
    → token_bodies us ≡ opening b ∷ cs → Contained w ds (flow_shape b) R us bs
bracketed b w ds R us cs bs inner e =
    let t = take us (opening b) cs e in
    let i = inner t.rest t.left in
    let first : (o : Option Properties) → RawEvent = λ o. node_at o (flow_shape b) t.span.from t.span.to in
    record { tree = trees.flow b t.span i.tree; rest = i.rest; left = i.left; said = λ o x settles. also (tells ds t (first o) x (settles t.span.from t.span.to)) i.said }

end_settles : (b : Brackets) (from to : yaml_mark_t) (D : Directives)
    → settle (trees.event_at (end_event b) from to) D ≡ gave (end_event b) D
end_settles b from to D = grind (arith, nat_tests)

-- Nothing is before a closing bracket.
pub brackets_end : (b : Brackets) (ds : List TagDirective) (ts : List Token) (bs : List TokenBody)
    → token_bodies ts ≡ closing b ∷ bs → Filled b ds (λ es. end_event b ∷ es) ts bs
brackets_end b ds ts bs e =
    let t = take ts (closing b) bs e in
    record { tree = end_items t.span; rest = t.rest; left = t.left; said = tells ds t (trees.event_at (end_event b) t.span.from t.span.to) (end_event b) (λ D h. end_settles b t.span.from t.span.to D) }

-- So it is after an item or a pair.
pub brackets_done : (b : Brackets) (ds : List TagDirective) (ts : List Token) (bs : List TokenBody)
    → token_bodies ts ≡ closing b ∷ bs → Followed b ds (λ es. end_event b ∷ es) ts bs
brackets_done b ds ts bs e =
    let t = take ts (closing b) bs e in
    record { tree = end_more t.span; rest = t.rest; left = t.left; said = tells ds t (trees.event_at (end_event b) t.span.from t.span.to) (end_event b) (λ D h. end_settles b t.span.from t.span.to D) }

-- A comma is followed by what is after it.
pub comma_follows : (b : Brackets) (ds : List TagDirective) (R : Reads) (cs bs : List TokenBody)
    → ((ts : List Token) → token_bodies ts ≡ cs → Filled b ds R ts bs)
    → (ts : List Token) → token_bodies ts ≡ token.flow_entry ∷ cs → Followed b ds R ts bs
comma_follows b ds R cs bs fill ts e =
    let t = take ts token.flow_entry cs e in
    let i = fill t.rest t.left in
    record { tree = comma t.span i.tree; rest = i.rest; left = i.left; said = also (silent ds t) i.said }

-- An alias is a node.
pub alias_grown : (w : Wants) (ds : List TagDirective) (name : List ℕ) (ts : List Token)
    (bs : List TokenBody) → token_bodies ts ≡ token.alias name ∷ bs
    → Grown w ds (λ es. event.alias name ∷ es) ts bs
alias_grown w ds name ts bs e =
    let t = take ts (token.alias name) bs e in
    let a = tells ds t (trees.event_at (event.alias name) t.span.from t.span.to) (event.alias name) (λ D h. refl) in
    record { tree = trees.alias t.span name; rest = t.rest; same = a.same; left = t.left; gives = a.gives }

-- ---- nodes

scalar_grown : (ds : List TagDirective) → Resolves ds → (w : Wants) (x : Scalar) → IsNoMark x.tag
    → (ts : List Token) (bs : List TokenBody) → token_bodies ts ≡ node_bodies ds (scalar_node x) bs
    → Grown w ds (node_reads (scalar_node x)) ts bs
unfolding node_bodies node_reads
scalar_grown ds r w x fine ts bs e =
    let tail = token.scalar x.value YAML_DOUBLE_QUOTED_SCALAR_STYLE ∷ bs in
    let named = e ∙ ap (λ (y : List TokenBody). anchor_bodies x.anchor y) (scalar_bodies_are ds x.tag x.quoted tail) in
    subst (λ (b : EventBody). Grown w ds (λ es. b ∷ es) ts bs) (scalar_event_is ds x.anchor x.tag x.value x.quoted fine)
    (dressed_named w ds x.anchor (scalar_named ds x.tag x.quoted) (scalar_is_named ds r x.tag x.quoted) (item.scalar x.value YAML_DOUBLE_QUOTED_SCALAR_STYLE) (λ es. es) tail bs (scalar_contained w ds x.value YAML_DOUBLE_QUOTED_SCALAR_STYLE bs) ts named)

collection_grown : (ds : List TagDirective) → Resolves ds → (w : Wants) (b : Brackets)
    (anchor tag : Option (List ℕ)) (R : Reads) (inside : List TokenBody → List TokenBody)
    → ((ts : List Token) (bs : List TokenBody) → token_bodies ts ≡ inside bs → Filled b ds R ts bs)
    → (ts : List Token) (bs : List TokenBody)
    → token_bodies ts ≡ anchor_bodies anchor (tag_bodies ds tag (opening b ∷ inside bs))
    → Grown w ds (λ es. node_event anchor tag (flow_shape b) ∷ R es) ts bs
collection_grown ds r w b anchor tag R inside fill ts bs e = dressed w ds r anchor tag (flow_shape b) R (opening b ∷ inside bs) bs (λ us x. bracketed b w ds R us (inside bs) bs (λ vs y. fill vs bs y) x) ts e

abbrev NodeGrows : List TagDirective → Node → Type 0
NodeGrows ds n = (w : Wants) (ts : List Token) (bs : List TokenBody) → token_bodies ts ≡ node_bodies ds n bs → Grown w ds (node_reads n) ts bs

abbrev ItemsGrow : List TagDirective → Nodes → Type 0
ItemsGrow ds ns = (ts : List Token) (bs : List TokenBody) → token_bodies ts ≡ items_bodies ds ns (token.flow_sequence_end ∷ bs) → Filled brackets.Sequence ds (λ es. items_reads ns (event.sequence_end ∷ es)) ts bs

abbrev PairsGrow : List TagDirective → Pairs → Type 0
PairsGrow ds ps = (ts : List Token) (bs : List TokenBody) → token_bodies ts ≡ pairs_bodies ds ps (token.flow_mapping_end ∷ bs) → Filled brackets.Mapping ds (λ es. pairs_reads ps (event.mapping_end ∷ es)) ts bs

item_grows : (ds : List TagDirective) (x : Node) (xs : Nodes) → NodeGrows ds x → ItemsGrow ds xs
    → ItemsGrow ds (node x xs)
unfolding items_bodies items_reads
item_grows ds x xs one more_items ts bs e =
    let n = one Flow ts (token.flow_entry ∷ items_bodies ds xs (token.flow_sequence_end ∷ bs)) e in
    let k = take n.rest token.flow_entry (items_bodies ds xs (token.flow_sequence_end ∷ bs)) n.left in
    let i = more_items k.rest bs k.left in
    record { tree = single n.tree (comma k.span i.tree); rest = i.rest; left = i.left; said = also (grown n) (also (silent ds k) i.said) }

pair_grows : (ds : List TagDirective) (k v : Node) (ps : Pairs) → NodeGrows ds k → NodeGrows ds v
    → PairsGrow ds ps → PairsGrow ds (pair k v ps)
unfolding pairs_bodies pairs_reads
pair_grows ds k v ps key value more_pairs ts bs e =
    let tail = pairs_bodies ds ps (token.flow_mapping_end ∷ bs) in
    let q = take ts token.key (node_bodies ds k (token.value ∷ node_bodies ds v (token.flow_entry ∷ tail))) e in
    let a = key Flow q.rest (token.value ∷ node_bodies ds v (token.flow_entry ∷ tail)) q.left in
    let c = take a.rest token.value (node_bodies ds v (token.flow_entry ∷ tail)) a.left in
    let b = value Flow c.rest (token.flow_entry ∷ tail) c.left in
    let o = take b.rest token.flow_entry tail b.left in
    let i = more_pairs o.rest bs o.left in
    record {
      tree = trees.pair q.span (there a.tree) (colon c.span (there b.tree)) (comma o.span i.tree);
      rest = i.rest;
      left = i.left;
      said = also (silent ds q) (also (grown a) (also (silent ds c) (also (grown b) (also (silent ds o) i.said))));
    }

mutual
  unfolding node_bodies node_reads items_bodies items_reads pairs_bodies pairs_reads

  node_grows : (ds : List TagDirective) → Resolves ds → (n : Node) → HasNoMark n → NodeGrows ds n
  node_grows ds r (alias_node name) fine = λ w. alias_grown w ds name
  node_grows ds r (scalar_node x) fine = λ w. scalar_grown ds r w x fine
  node_grows ds r (sequence_node q items) fine = λ w. collection_grown ds r w brackets.Sequence q.anchor q.tag (λ es. items_reads items (event.sequence_end ∷ es)) (λ bs. items_bodies ds items (token.flow_sequence_end ∷ bs)) (items_grow ds r items fine)
  node_grows ds r (mapping_node q pairs) fine = λ w. collection_grown ds r w brackets.Mapping q.anchor q.tag (λ es. pairs_reads pairs (event.mapping_end ∷ es)) (λ bs. pairs_bodies ds pairs (token.flow_mapping_end ∷ bs)) (pairs_grow ds r pairs fine)

  items_grow : (ds : List TagDirective) → Resolves ds → (ns : Nodes) → HaveNoMark ns
      → ItemsGrow ds ns
  items_grow ds r no_nodes fine = λ ts bs e. brackets_end brackets.Sequence ds ts bs e
  items_grow ds r (node x xs) (fx, fine) = item_grows ds x xs (node_grows ds r x fx) (items_grow ds r xs fine)

  pairs_grow : (ds : List TagDirective) → Resolves ds → (ps : Pairs) → PairsHaveNoMark ps
      → PairsGrow ds ps
  pairs_grow ds r no_pairs fine = λ ts bs e. brackets_end brackets.Mapping ds ts bs e
  pairs_grow ds r (pair k v ps) (fk, fv, fine) = pair_grows ds k v ps (node_grows ds r k fk) (node_grows ds r v fv) (pairs_grow ds r ps fine)

pub nodes_grown : (ds : List TagDirective) → Resolves ds → (w : Wants) (n : Node) → HasNoMark n
    → (ts : List Token) (bs : List TokenBody) → token_bodies ts ≡ node_bodies ds n bs
    → Grown w ds (node_reads n) ts bs
nodes_grown ds r w n fine = node_grows ds r n fine w
