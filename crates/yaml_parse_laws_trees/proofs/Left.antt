-- What a state still waits for: the tokens of part of a tree, and what follows them.
use Rattle.yaml_parse_laws_trees.specs.parse_grammar.declared.problem.ParseProblem.TheVariants as problem
use Rattle.std.proofs.Common.{◌≡◌, ℕ, Bool, true, if◌then◌else◌, ◌||◌, List, [], ◌∷◌, ◌++◌, Option, Some, None, refl, sym, ap, subst, ◌∙◌, arith}
use Rattle.yaml_parse_laws_trees.proofs.Words.{false≢true, yaml_mark_t, yaml_token_type_t, Token, TokenBody, type_of, Wants, Flow, Block, Brackets, Root, Refuse, Take, Open, ParseProblem, Properties, Tag, State, Span, token_at, AnchorToken, TagToken, anchor_token, tag_token, PropertyTokens, spell_properties, Node, Content, Maybe, Colon, Items, More, Entries, Others, Pairs, Directive, Documents, First, Stream, spell_node, spell_content, spell_maybe, spell_colon, spell_items, spell_more, spell_entries, spell_others, spell_pairs, spell_directives, spell_ends, spell_documents, spell_first, spell, starts_content, starts_node, wants_of, parts_documents, joins, choice_at, documents_taken, content_taken, node_taken, with_properties_taken, lone_below, taken_at, items_taken, MayLeave, take_rule, opens_first, was_take}
use Rattle.yaml_parse_model.specs.scan_types.Tokens as token
use Rattle.yaml_parse_laws_trees.specs.parse_grammar.declared.name.Brackets.TheVariants as brackets
use Rattle.yaml_parse_laws_trees.specs.parse_grammar.States as state
use Rattle.yaml_parse_laws_trees.specs.parse_grammar.Trees as tree
use Rattle.yaml_parse_laws_trees.proofs.Single.{opens_node}

-- tokens that a tree of a kind spells, before others
pub record Spelled (T : Type 0) (spelling : T → List Token → List Token) (P : List Token → Type 0) (ts : List Token) : Type 0 where
  pub tree : T
  pub rest : List Token
  pub same : ts ≡ spelling tree rest
  pub goes : P rest

-- one part after another
pub together : {A B : Type 0} {front : A → List Token → List Token}
    {back : B → List Token → List Token} {Q P : List Token → Type 0} {ts : List Token}
    (h : Spelled A front Q ts) → Spelled B back P h.rest
    → Spelled (A × B) (λ x rest. front x.0 (back x.1 rest)) P ts
together {front = front} h k = record { tree = (h.tree, k.tree); rest = k.rest; same = h.same ∙ ap (front h.tree) k.same; goes = k.goes }

-- what is made of a part after a token
pub ahead : {A B : Type 0} {front : A → List Token → List Token}
    {back : B → List Token → List Token} {P : List Token → Type 0} {ts : List Token}
    → Spelled A front P ts → (t : Token) (make : A → B)
    → ((x : A) (rest : List Token) → back (make x) rest ≡ t ∷ front x rest)
    → Spelled B back P (t ∷ ts)
ahead h t make e = record { tree = make h.tree; rest = h.rest; same = ap (λ us. t ∷ us) h.same ∙ sym (e h.tree h.rest); goes = h.goes }

-- a document after the directives that were read, and the documents after it
pub record Opening : Type 0 where
  pub directives : List Directive
  pub start : Span
  pub root : Maybe (Block None)
  pub ends : List Span
  pub documents : Documents

abbrev pub spell_opening : Opening → List Token → List Token
spell_opening o rest =
    spell_directives o.directives (token_at token.document_start o.start ∷ spell_maybe o.root (spell_ends o.ends (spell_documents o.documents rest)))

-- the end of a document, which may be left out
abbrev pub spell_end : Option Span → List Token → List Token
spell_end None rest = rest
spell_end (Some s) rest = token_at token.document_end s ∷ rest

-- after some properties: what makes a node of them, whichever tokens they were
abbrev pub WithPropertiesLeft : Wants → Option (List ℕ) → Option Tag → (List Token → Type 0)
    → List Token → Type 0
WithPropertiesLeft w (Some a) None P ts = (x : AnchorToken) → Spelled (Node w) spell_node P (anchor_token x ∷ ts)
WithPropertiesLeft w None (Some t) P ts = (x : TagToken) → Spelled (Node w) spell_node P (tag_token x ∷ ts)
WithPropertiesLeft w (Some a) (Some t) P ts = (d : PropertyTokens) → Spelled (Node w) spell_node P (spell_properties d ts)
WithPropertiesLeft w None None P ts = Unit {0}

abbrev pub Left : State → (List Token → Type 0) → List Token → Type 0
Left state.stream P ts = Spelled Stream spell P ts
Left state.first P ts = Spelled First spell_first (Spelled Documents spell_documents P) ts
Left state.documents P ts = Spelled (List Span) spell_ends (Spelled Documents spell_documents P) ts
Left (state.directives from) P ts = Spelled Opening spell_opening P ts
Left (state.optional place before) P ts = Spelled (Maybe (wants_of place)) spell_maybe P ts
Left state.document_end P ts = Spelled (Option Span) spell_end P ts
Left (state.entries opener) P ts = Spelled Entries spell_entries P ts
Left (state.others side) P ts = Spelled Others spell_others P ts
Left (state.pairs opener) P ts = Spelled Pairs spell_pairs P ts
Left (state.colon place) P ts = Spelled (Colon (wants_of place)) spell_colon P ts
Left (state.with_properties w p) P ts = WithPropertiesLeft w p.anchor p.tag P ts
Left (state.items b opener) P ts = Spelled Items (spell_items b) P ts
Left (state.more b opener) P ts = Spelled More (spell_more b) P ts
Left state.pair_end P ts = P ts
Left state.lone P ts = P ts

-- what the states of a stack wait for, the topmost first
abbrev pub Over : List State → (List Token → Type 0) → List Token → Type 0
Over [] P = P
Over (x ∷ s) P = Left x (Over s P)

pub over_both : (xs ys : List State) (P : List Token → Type 0)
    → Over (xs ++ ys) P ≡ Over xs (Over ys P)
over_both [] ys P = refl
over_both (x ∷ xs) ys P = ap (Left x) (over_both xs ys P)

-- ---- a state that leaves waits for nothing

pub properties_alone : (w : Wants) (anchor : Option (List ℕ)) (tag : Option Tag)
    (P : List Token → Type 0) (ts : List Token) → P ts → WithPropertiesLeft w anchor tag P ts
properties_alone w (Some a) None P ts h = λ x. record { tree = tree.only_properties (tree.anchor x); rest = ts; same = refl; goes = h }
properties_alone w None (Some t) P ts h = λ x. record { tree = tree.only_properties (tree.tag x); rest = ts; same = refl; goes = h }
properties_alone w (Some a) (Some t) P ts h = λ d. record { tree = tree.only_properties d; rest = ts; same = refl; goes = h }
properties_alone w None None P ts h = tt

pub leaving : (x : State) (k : yaml_token_type_t) → MayLeave x k → (P : List Token → Type 0)
    (ts : List Token) → P ts → Left x P ts
leaving (state.optional place before) k l P ts h = record { tree = tree.left_out; rest = ts; same = refl; goes = h }
leaving state.document_end k l P ts h = record { tree = None; rest = ts; same = refl; goes = h }
leaving (state.others side) k l P ts h = record { tree = tree.no_others; rest = ts; same = refl; goes = h }
leaving (state.colon place) k l P ts h = record { tree = tree.no_colon; rest = ts; same = refl; goes = h }
leaving (state.with_properties w p) k l P ts h = properties_alone w p.anchor p.tag P ts h
leaving state.pair_end k l P ts h = h
leaving state.lone k l P ts h = h
leaving _ k l P ts h = absurd l

-- ---- taking a node's first token

abbrev span : yaml_mark_t → yaml_mark_t → Span
span from to = record { from = from; to = to }

content_left : (w : Wants) (p : Option Properties) (start end : yaml_mark_t) (b : TokenBody)
    → starts_content w (type_of b) ≡ true
    → (P : List Token → Type 0) (ts : List Token) → Over (content_taken w p start end b).above P ts
    → Spelled (Content w) spell_content P (token_at b (span start end) ∷ ts)
content_left w p start end (token.scalar value style) c P ts h = record { tree = tree.scalar (span start end) value style; rest = ts; same = refl; goes = h }
content_left w p start end token.flow_sequence_start c P ts h = ahead h _ (λ x. tree.flow brackets.Sequence (span start end) x) (λ x r. refl)
content_left w p start end token.flow_mapping_start c P ts h = ahead h _ (λ x. tree.flow brackets.Mapping (span start end) x) (λ x r. refl)
content_left (Block s) p start end token.block_sequence_start c P ts h = ahead h _ (λ x. tree.block_sequence (span start end) x) (λ x r. refl)
content_left (Block s) p start end token.block_mapping_start c P ts h = ahead h _ (λ x. tree.block_mapping (span start end) x) (λ x r. refl)
content_left (Block (Some side)) p start end token.block_entry c P ts h = ahead (together h h.goes) _ (λ x. tree.indentless (span start end) x.0 x.1) (λ x r. refl)
content_left Flow p start end token.block_sequence_start c P ts h = absurd (false≢true c)
content_left Flow p start end token.block_mapping_start c P ts h = absurd (false≢true c)
content_left Flow p start end token.block_entry c P ts h = absurd (false≢true c)
content_left (Block None) p start end token.block_entry c P ts h = absurd (false≢true c)
content_left w p start end _ c P ts h = absurd (false≢true c)

bare_left : (w : Wants) (P : List Token → Type 0) (ts : List Token)
    → Spelled (Content w) spell_content P ts → Spelled (Node w) spell_node P ts
bare_left w P ts h = record { tree = tree.bare h.tree; rest = h.rest; same = h.same; goes = h.goes }

node_left : (w : Wants) (start end : yaml_mark_t) (b : TokenBody) → starts_node w (type_of b) ≡ true
    → (P : List Token → Type 0) (ts : List Token) → Over (node_taken w start end b).above P ts
    → Spelled (Node w) spell_node P (token_at b (span start end) ∷ ts)
node_left w start end (token.alias name) c P ts h = record { tree = tree.alias (span start end) name; rest = ts; same = refl; goes = h }
node_left w start end (token.anchor name) c P ts h = h (record { name = name; span = span start end })
node_left w start end (token.tag handle suffix) c P ts h = h (record { handle = handle; suffix = suffix; span = span start end })
node_left w start end b c P ts h = bare_left w P _ (content_left w None start end b c P ts h)

-- ---- taking a token after properties

content_with_properties : (w : Wants) (anchor : Option (List ℕ)) (tag : Option Tag)
    (P : List Token → Type 0) (ts : List Token) → Spelled (Content w) spell_content P ts
    → WithPropertiesLeft w anchor tag P ts
content_with_properties w (Some a) None P ts h =
    λ x. record { tree = tree.with_properties (tree.anchor x) h.tree; rest = h.rest; same = ap (λ us. anchor_token x ∷ us) h.same; goes = h.goes }
content_with_properties w None (Some t) P ts h =
    λ x. record { tree = tree.with_properties (tree.tag x) h.tree; rest = h.rest; same = ap (λ us. tag_token x ∷ us) h.same; goes = h.goes }
content_with_properties w (Some a) (Some t) P ts h = λ d. record { tree = tree.with_properties d h.tree; rest = h.rest; same = ap (spell_properties d) h.same; goes = h.goes }
content_with_properties w None None P ts h = tt

with_properties_left : (w : Wants) (anchor : Option (List ℕ)) (tag : Option Tag)
    (from to start end : yaml_mark_t) (b : TokenBody)
    → (joins (record { anchor = anchor; tag = tag; from = from; to = to }) (type_of b)
    || starts_content w (type_of b)) ≡ true
    → (P : List Token → Type 0) (ts : List Token)
    → Over (with_properties_taken w (record { anchor = anchor; tag = tag; from = from; to = to })
    start end b).above P ts
    → WithPropertiesLeft w anchor tag P (token_at b (span start end) ∷ ts)
with_properties_left w None None from to start end (token.anchor name) c P ts h = tt
with_properties_left w None (Some t) from to start end (token.anchor name) c P ts h = λ x. h (tree.tag_anchor x (record { name = name; span = span start end }))
with_properties_left w (Some a) tag from to start end (token.anchor name) c P ts h = absurd (false≢true c)
with_properties_left w None None from to start end (token.tag handle suffix) c P ts h = tt
with_properties_left w (Some a) None from to start end (token.tag handle suffix) c P ts h =
    λ x. h (tree.anchor_tag x (record { handle = handle; suffix = suffix; span = span start end }))
with_properties_left w anchor (Some t) from to start end (token.tag handle suffix) c P ts h = absurd (false≢true c)
with_properties_left w anchor tag from to start end b c P ts h =
    content_with_properties w anchor tag P _ (content_left w (Some (record { anchor = anchor; tag = tag; from = from; to = to })) start end b c P ts h)

-- ---- taking a token between documents

-- the optional end of a document, and the ends after it
abbrev all_ends : Option Span → List Span → List Span
all_ends None ends = ends
all_ends (Some s) ends = s ∷ ends

spell_all_ends : (o : Option Span) (ends : List Span) (rest : List Token)
    → spell_end o (spell_ends ends rest) ≡ spell_ends (all_ends o ends) rest
spell_all_ends o ends rest = grind arith

-- a document after its `---`
begun_left : (start end before : yaml_mark_t) (P : List Token → Type 0) (ts : List Token)
    → Left (state.optional Root before) (Over (state.document_end ∷ state.documents ∷ []) P) ts
    → Spelled Opening spell_opening P (token_at token.document_start (span start end) ∷ ts)
begun_left start end before P ts h = record {
  tree = record { directives = []; start = span start end; root = h.tree; ends = all_ends h.goes.tree h.goes.goes.tree; documents = h.goes.goes.goes.tree };
  rest = h.goes.goes.goes.rest;
  same = ap (λ us. token_at token.document_start (span start end) ∷ us)
      (h.same ∙ ap (spell_maybe h.tree)
      (h.goes.same ∙ ap (spell_end h.goes.tree) (h.goes.goes.same ∙ ap (spell_ends h.goes.goes.tree) h.goes.goes.goes.same)
      ∙ spell_all_ends h.goes.tree h.goes.goes.tree (spell_documents h.goes.goes.goes.tree h.goes.goes.goes.rest)));
  goes = h.goes.goes.goes.goes;
}

-- the same after one directive more
abbrev directed : Directive → Opening → Opening
directed d o = record { directives = d ∷ o.directives; start = o.start; root = o.root; ends = o.ends; documents = o.documents }

opening_left : (from start end : yaml_mark_t) (b : TokenBody)
    → choice_at (state.directives from) (type_of b) ≡ Take
    → (P : List Token → Type 0) (ts : List Token)
    → Over (documents_taken from start end b).above P ts
    → Spelled Opening spell_opening P (token_at b (span start end) ∷ ts)
opening_left from start end (token.version_directive major minor) c P ts h = ahead h _ (λ x. directed (tree.version (span start end) major minor) x) (λ x r. refl)
opening_left from start end (token.tag_directive name prefix) c P ts h = ahead h _ (λ x. directed (tree.handle (span start end) name prefix) x) (λ x r. refl)
opening_left from start end token.document_start c P ts h = begun_left start end end P ts h
opening_left from start end _ c P ts h = absurd (was_take _ c)

opened_document : (P : List Token → Type 0) (ts : List Token) → Spelled Opening spell_opening P ts
    → Spelled Documents spell_documents P ts
opened_document P ts h =
    record { tree = tree.document h.tree.directives h.tree.start h.tree.root h.tree.ends h.tree.documents; rest = h.rest; same = h.same; goes = h.goes }

parting_left : (start end : yaml_mark_t) (b : TokenBody) → parts_documents (type_of b) ≡ true
    → (P : List Token → Type 0) (ts : List Token)
    → Over (documents_taken start start end b).above P ts
    → Spelled Documents spell_documents P (token_at b (span start end) ∷ ts)
parting_left start end token.stream_end c P ts h = record { tree = tree.end_stream (span start end); rest = ts; same = refl; goes = h }
parting_left start end (token.version_directive major minor) c P ts h = opened_document P _ (opening_left start start end (token.version_directive major minor) refl P ts h)
parting_left start end (token.tag_directive name prefix) c P ts h = opened_document P _ (opening_left start start end (token.tag_directive name prefix) refl P ts h)
parting_left start end token.document_start c P ts h = opened_document P _ (opening_left start start end token.document_start refl P ts h)
parting_left start end _ c P ts h = absurd (false≢true c)

taken_first : (a b : Bool) (p : ParseProblem)
    → (if a then Take else if b then Open else Refuse p None) ≡ Take → a ≡ true
taken_first a b p h = grind arith

-- a document that begins with its root
opened_left : (t : Token) → starts_node (Block None) (type_of t.body) ≡ true
    → (P : List Token → Type 0) (ts : List Token)
    → Over (taken_at (state.optional Root t.start_mark) t).above
    (Over (state.document_end ∷ state.documents ∷ []) P) ts → Left state.first P (t ∷ ts)
opened_left t c P ts h =
    let n : Spelled (Node (Block None)) spell_node (Over (state.document_end ∷ state.documents ∷ []) P) (t ∷ ts) = node_left (Block None) t.start_mark t.end_mark t.body c _ ts h in
    record {
      tree = tree.first n.tree (all_ends n.goes.tree n.goes.goes.tree);
      rest = n.goes.goes.rest;
      same = n.same ∙ ap (spell_node n.tree) (n.goes.same ∙ ap (spell_end n.goes.tree) n.goes.goes.same ∙ spell_all_ends n.goes.tree n.goes.goes.tree n.goes.goes.rest);
      goes = n.goes.goes.goes;
    }

-- ---- taking a token inside a document

maybe_left : (w : Wants) (P : List Token → Type 0) (ts : List Token)
    → Spelled (Node w) spell_node P ts → Spelled (Maybe w) spell_maybe P ts
maybe_left w P ts h = record { tree = tree.there h.tree; rest = h.rest; same = h.same; goes = h.goes }

-- a lone node inside brackets
single_left : (bs : Brackets) (o : yaml_mark_t) (P : List Token → Type 0) (ts : List Token)
    → Spelled (Node Flow) spell_node (Over (lone_below bs (state.more bs o ∷ [])) P) ts
    → Spelled Items (spell_items bs) P ts
single_left brackets.Sequence o P ts h =
    record { tree = tree.single h.tree h.goes.tree; rest = h.goes.rest; same = h.same ∙ ap (spell_node h.tree) h.goes.same; goes = h.goes.goes }
single_left brackets.Mapping o P ts h =
    record { tree = tree.single h.tree h.goes.tree; rest = h.goes.rest; same = h.same ∙ ap (spell_node h.tree) h.goes.same; goes = h.goes.goes }

node_over : (bs : Brackets) (o start end : yaml_mark_t) (b : TokenBody)
    → starts_node Flow (type_of b) ≡ true → (P : List Token → Type 0) (ts : List Token)
    → Over ((node_taken Flow start end b).above ++ lone_below bs (state.more bs o ∷ [])) P ts
    → Spelled Items (spell_items bs) P (token_at b (span start end) ∷ ts)
node_over bs o start end b c P ts h = grind (arith, single_left, node_left, over_both)

pair_left : (bs : Brackets) (o start end : yaml_mark_t) (P : List Token → Type 0) (ts : List Token)
    → Over (items_taken bs o start end token.key).above P ts
    → Spelled Items (spell_items bs) P (token_at token.key (span start end) ∷ ts)
pair_left brackets.Sequence o start end P ts h = ahead (together h (together h.goes h.goes.goes)) _ (λ x. tree.pair (span start end) x.0 x.1.0 x.1.1) (λ x r. refl)
pair_left brackets.Mapping o start end P ts h = ahead (together h (together h.goes h.goes.goes)) _ (λ x. tree.pair (span start end) x.0 x.1.0 x.1.1) (λ x r. refl)

taking_by : (x : State) (start end : yaml_mark_t) (b : TokenBody) → choice_at x (type_of b) ≡ Take
    → (P : List Token → Type 0) (ts : List Token)
    → Over (taken_at x (token_at b (span start end))).above P ts
    → Left x P ((token_at b (span start end)) ∷ ts)
taking_by state.stream start end (token.stream_start e) c P ts h = ahead {B = Stream} (together h h.goes) _ (λ x. record { encoding = e; start = span start end; first = x.0; documents = x.1 }) (λ x r. refl)
taking_by state.first start end b c P ts h = record {
  tree = tree.no_first;
  rest = token_at b (span start end) ∷ ts;
  same = refl;
  goes = parting_left start end b (taken_first (parts_documents (type_of b)) (starts_node (Block None) (type_of b)) problem.NoBlockNode c) P ts h;
}
taking_by state.documents start end token.document_end c P ts h = ahead h _ (λ x. span start end ∷ x) (λ x r. refl)
taking_by state.documents start end token.stream_end c P ts h = record { tree = []; rest = token_at token.stream_end (span start end) ∷ ts; same = refl; goes = parting_left start end token.stream_end refl P ts h }
taking_by state.documents start end (token.version_directive major minor) c P ts h =
    record { tree = []; rest = token_at (token.version_directive major minor) (span start end) ∷ ts; same = refl; goes = parting_left start end (token.version_directive major minor) refl P ts h }
taking_by state.documents start end (token.tag_directive name prefix) c P ts h =
    record { tree = []; rest = token_at (token.tag_directive name prefix) (span start end) ∷ ts; same = refl; goes = parting_left start end (token.tag_directive name prefix) refl P ts h }
taking_by state.documents start end token.document_start c P ts h = record { tree = []; rest = token_at token.document_start (span start end) ∷ ts; same = refl; goes = parting_left start end token.document_start refl P ts h }
taking_by (state.directives from) start end b c P ts h = opening_left from start end b c P ts h
taking_by (state.optional place before) start end b c P ts h =
    maybe_left (wants_of place) P _
    (node_left (wants_of place) start end b
    (take_rule (state.optional place before) (type_of b) c) P ts h)
taking_by state.document_end start end token.document_end c P ts h = record { tree = Some (span start end); rest = ts; same = refl; goes = h }
taking_by (state.entries o) start end token.block_entry c P ts h = ahead (together h h.goes) _ (λ x. tree.entry (span start end) x.0 x.1) (λ x r. refl)
taking_by (state.entries o) start end token.block_end c P ts h = record { tree = tree.end_entries (span start end); rest = ts; same = refl; goes = h }
taking_by (state.others side) start end token.block_entry c P ts h = ahead (together h h.goes) _ (λ x. tree.other (span start end) x.0 x.1) (λ x r. refl)
taking_by (state.pairs o) start end token.key c P ts h = ahead (together h (together h.goes h.goes.goes)) _ (λ x. tree.block_pair (span start end) x.0 x.1.0 x.1.1) (λ x r. refl)
taking_by (state.pairs o) start end token.block_end c P ts h = record { tree = tree.end_pairs (span start end); rest = ts; same = refl; goes = h }
taking_by (state.colon place) start end token.value c P ts h = ahead h _ (λ x. tree.colon (span start end) x) (λ x r. refl)
taking_by (state.with_properties w p) start end b c P ts h =
    with_properties_left w p.anchor p.tag p.from p.to start end b (take_rule (state.with_properties w p) (type_of b) c) P ts h
taking_by (state.items b o) start end token.key c P ts h = pair_left b o start end P ts h
taking_by (state.items brackets.Sequence o) start end token.flow_sequence_end c P ts h = record { tree = tree.end_items (span start end); rest = ts; same = refl; goes = h }
taking_by (state.items brackets.Mapping o) start end token.flow_mapping_end c P ts h = record { tree = tree.end_items (span start end); rest = ts; same = refl; goes = h }
taking_by (state.items brackets.Sequence o) start end token.flow_mapping_end c P ts h = absurd (was_take _ c)
taking_by (state.items brackets.Mapping o) start end token.flow_sequence_end c P ts h = absurd (was_take _ c)
taking_by (state.items b o) start end (token.alias name) c P ts h = node_over b o start end (token.alias name) refl P ts h
taking_by (state.items b o) start end (token.anchor name) c P ts h = node_over b o start end (token.anchor name) refl P ts h
taking_by (state.items b o) start end (token.tag handle suffix) c P ts h = node_over b o start end (token.tag handle suffix) refl P ts h
taking_by (state.items b o) start end (token.scalar value style) c P ts h = node_over b o start end (token.scalar value style) refl P ts h
taking_by (state.items b o) start end token.flow_sequence_start c P ts h = node_over b o start end token.flow_sequence_start refl P ts h
taking_by (state.items b o) start end token.flow_mapping_start c P ts h = node_over b o start end token.flow_mapping_start refl P ts h
taking_by (state.items brackets.Sequence o) start end _ c P ts h = absurd (was_take _ c)
taking_by (state.items brackets.Mapping o) start end _ c P ts h = absurd (was_take _ c)
taking_by (state.more b o) start end token.flow_entry c P ts h = ahead h _ (λ x. tree.comma (span start end) x) (λ x r. refl)
taking_by (state.more brackets.Sequence o) start end token.flow_sequence_end c P ts h = record { tree = tree.end_more (span start end); rest = ts; same = refl; goes = h }
taking_by (state.more brackets.Mapping o) start end token.flow_mapping_end c P ts h = record { tree = tree.end_more (span start end); rest = ts; same = refl; goes = h }
taking_by (state.more brackets.Sequence o) start end _ c P ts h = absurd (was_take _ c)
taking_by (state.more brackets.Mapping o) start end _ c P ts h = absurd (was_take _ c)
taking_by _ start end _ c P ts h = absurd (was_take _ c)

-- A state that takes a token waits for the token, if the states that it puts in its place wait for what follows.
pub taking : (x : State) (t : Token) → choice_at x (type_of t.body) ≡ Take
    → (P : List Token → Type 0) (ts : List Token) → Over (taken_at x t).above P ts → Left x P
    (t ∷ ts)
taking x t c h3 ts h = taking_by x t.start_mark t.end_mark t.body c h3 ts h

-- Likewise for a state at which a document opens.
pub opening : (x : State) (t : Token) → choice_at x (type_of t.body) ≡ Open
    → (P : List Token → Type 0) (ts : List Token)
    → Over (taken_at (state.optional Root t.start_mark) t).above
    (Over (state.document_end ∷ state.documents ∷ []) P) ts → Left x P (t ∷ ts)
opening x t c P ts h =
    subst (λ (y : State). Left y P (t ∷ ts)) (sym (opens_first x (type_of t.body) c)) (opened_left t (opens_node x (type_of t.body) c) P ts h)
