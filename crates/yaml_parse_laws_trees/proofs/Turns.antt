-- The events of a tree in the form that computes are its events beside the numbers that its turns give.
use Rattle.std.proofs.Common.{◌≡◌, ℕ, ◌+◌, ◌-◌, true, List, [], ◌∷◌, ◌++◌, length, zip, Option, Some, None, refl, ap, sym, ◌∙◌, arith}
use Rattle.yaml_parse_laws_trees.proofs.Words.{append_assoc, append-nil, yaml_mark_t, Token, Wants, Side, Key, Value, Brackets, Site, Root, Entry, IndentlessEntry, BlockPair, FlowPair, RawEvent, Properties, blank, item_at, Span, PropertyTokens, Node, Content, Maybe, Colon, Items, More, Entries, Others, Pairs, Directive, Documents, First, Stream, Given, next, event_at, spell_properties, spell_node, spell_content, spell_maybe, spell_colon, spell_items, spell_more, spell_entries, spell_others, spell_pairs, spell_directives, spell_ends, spell_documents, spell_first, spell, items, mark_at, content_start, node_start, colon_start, more_start, entries_start, others_start, pairs_start, ends_start, documents_start, pair_opens, pair_closes, lone_value, node_events, content_events, maybe_events, colon_events, items_events, more_events, entries_events, others_events, pairs_events, directives_events, ends_events, documents_events, first_events, tree_events, Turn, asks, gives, gives_at_next, properties_turns, pair_opens_turns, pair_closes_turns, lone_turns, node_turns, content_turns, maybe_turns, colon_turns, items_turns, more_turns, entries_turns, others_turns, pairs_turns, directives_turns, each_asks, ends_turns, documents_turns, first_turns, tree_turns, tokens_in, unasked, pair_start, pair_end, lone, items_node, items_content, items_maybe, items_colon, items_items, items_more, items_entries, items_others, items_pairs, items_directives, items_ends, items_documents, items_first, ItemsAreGiven, TurnsFitTree}
use Rattle.yaml_parse_grammar.specs.parse_model.Events as event
use Rattle.yaml_parse_grammar.specs.Items as item
use Rattle.yaml_parse_grammar.specs.Trees as tree
use Rattle.yaml_parse_grammar.specs.TreeSteps.{behind}

-- ---- events and numbers apart

abbrev events_in : List Given → List RawEvent
events_in [] = []
events_in (g ∷ gs) = g.0 ∷ events_in gs

abbrev numbers_in : List Given → List ℕ
numbers_in [] = []
numbers_in (g ∷ gs) = g.1 ∷ numbers_in gs

zipped : (gs : List Given) → zip (events_in gs) (numbers_in gs) ≡ gs
zipped [] = refl
zipped (g ∷ gs) = ap (λ (z : List Given). g ∷ z) (zipped gs)

as_many : (gs : List Given) → length (numbers_in gs) ≡ length (events_in gs)
as_many [] = refl
as_many (g ∷ gs) = let h : length (numbers_in gs) ≡ length (events_in gs) = as_many gs in more h
  where
    more : length (numbers_in gs) ≡ length (events_in gs)
        → length (g.1 ∷ numbers_in gs) ≡ length (g.0 ∷ events_in gs)
    more h = omega arith

-- ---- turns one after another

tokens_on : (xs ys : List Turn) (n : ℕ)
    → tokens_in (xs ++ ys) + n ≡ tokens_in xs + (tokens_in ys + n)
tokens_on [] ys n = omega arith
tokens_on (asks ∷ xs) ys n = let h : tokens_in (xs ++ ys) + n ≡ tokens_in xs + (tokens_in ys + n) = tokens_on xs ys n in counted h
  where
    counted : tokens_in (xs ++ ys) + n ≡ tokens_in xs + (tokens_in ys + n)
        → (tokens_in (xs ++ ys) + 1) + n ≡ (tokens_in xs + 1) + (tokens_in ys + n)
    counted h = omega arith
tokens_on (gives ∷ xs) ys n = tokens_on xs ys n
tokens_on (gives_at_next ∷ xs) ys n = tokens_on xs ys n

unasked_on : (xs ys : List Turn) (n : ℕ)
    → unasked (xs ++ ys) n ≡ unasked xs (tokens_in ys + n) ++ unasked ys n
unasked_on [] ys n = refl
unasked_on (asks ∷ xs) ys n = unasked_on xs ys n
unasked_on (gives ∷ xs) ys n =
    ap (λ (k : ℕ). k ∷ unasked (xs ++ ys) n) (tokens_on xs ys n)
    ∙ ap (λ (ks : List ℕ). (tokens_in xs + (tokens_in ys + n)) ∷ ks) (unasked_on xs ys n)
unasked_on (gives_at_next ∷ xs) ys n =
    ap (λ (k : ℕ). (k - 1) ∷ unasked (xs ++ ys) n) (tokens_on xs ys n)
    ∙ ap (λ (ks : List ℕ). ((tokens_in xs + (tokens_in ys + n)) - 1) ∷ ks) (unasked_on xs ys n)

-- ---- a part of a tree: its events, its turns, its tokens before others, its items before others

record Part (es : List RawEvent) (ts : List Turn) (rest all : List Token) (more gs : List Given) : Type 0 where
  tokens : length all ≡ tokens_in ts + length rest
  events : events_in gs ≡ es ++ events_in more
  numbers : numbers_in gs ≡ unasked ts (length rest) ++ numbers_in more

nothing : (rest : List Token) (more : List Given) → Part [] [] rest rest more more
nothing rest more = record { tokens = omega arith; events = refl; numbers = refl }

asked : {es : List RawEvent} {ts : List Turn} {rest all : List Token} {more gs : List Given}
    (t : Token) → Part es ts rest all more gs
    → Part es (asks ∷ ts) rest (t ∷ all) more gs
asked {es = es} {ts = ts} {rest = rest} {all = all} {more = more} {gs = gs} t h = record { tokens = counted h.tokens; events = h.events; numbers = h.numbers }
  where
    counted : length all ≡ tokens_in ts + length rest
        → length (t ∷ all) ≡ (tokens_in ts + 1) + length rest
    counted h = omega arith

gave : {es : List RawEvent} {ts : List Turn} {rest all : List Token} {more gs : List Given}
    (e : RawEvent) → Part es ts rest all more gs
    → Part (e ∷ es) (gives ∷ ts) rest all more ((e, length all) ∷ gs)
gave {es = es} {ts = ts} {rest = rest} {all = all} {more = more} {gs = gs} e h = record {
  tokens = h.tokens;
  events = ap (λ (z : List RawEvent). e ∷ z) h.events;
  numbers = ap (λ (k : ℕ). k ∷ numbers_in gs) h.tokens
      ∙ ap (λ (z : List ℕ). (tokens_in ts + length rest) ∷ z) h.numbers;
}

behind_is : (all : List Token) → behind all ≡ length all - 1
behind_is all = grind arith

-- the event is the mark's, which is the next token's
gave_next : {es : List RawEvent} {ts : List Turn} {rest all : List Token} {more gs : List Given}
    (e : yaml_mark_t → RawEvent) (at : yaml_mark_t) → at ≡ next all
    → Part es ts rest all more gs
    → Part (e at ∷ es) (gives_at_next ∷ ts) rest all more ((e (next all), behind all) ∷ gs)
gave_next e at p h = grind (arith, behind_is)

-- one part before another
both : {es fs : List RawEvent} {ts us : List Turn} {rest middle all : List Token}
    {more between gs : List Given}
    → Part es ts middle all between gs → Part fs us rest middle more between
    → Part (es ++ fs) (ts ++ us) rest all more gs
both {es = es} {fs = fs} {ts = ts} {us = us} {rest = rest} {middle = middle} {all = all} {more = more} {between = between} {gs = gs} h k = record {
  tokens = h.tokens ∙ ap (λ (n : ℕ). tokens_in ts + n) k.tokens ∙ sym (tokens_on ts us (length rest));
  events = h.events ∙ ap (λ (z : List RawEvent). es ++ z) k.events ∙ sym (append_assoc es fs (events_in more));
  numbers = h.numbers
      ∙ ap (λ (z : List ℕ). unasked ts (length middle) ++ z) k.numbers
      ∙ ap (λ (n : ℕ). unasked ts n ++ (unasked us (length rest) ++ numbers_in more)) k.tokens
      ∙ sym (append_assoc (unasked ts (tokens_in us + length rest)) (unasked us (length rest)) (numbers_in more))
      ∙ ap (λ (z : List ℕ). z ++ numbers_in more) (sym (unasked_on ts us (length rest)));
}

-- ---- where parts begin

more_next : (b : Brackets) (m : More) (rest : List Token)
    → more_start m ≡ next (spell_more b m rest)
more_next b m rest = grind arith

colon_next : {w : Wants} (v : Colon w) (rest : List Token) (at : yaml_mark_t) → at ≡ next rest
    → colon_start v at ≡ next (spell_colon v rest)
colon_next tree.no_colon rest at p = p
colon_next (tree.colon s n) rest at p = refl

entries_next : (e : Entries) (rest : List Token) → entries_start e ≡ next (spell_entries e rest)
entries_next e rest = grind arith

others_next : (o : Others) (rest : List Token) (at : yaml_mark_t) → at ≡ next rest
    → others_start o at ≡ next (spell_others o rest)
others_next o rest at p = grind arith

pairs_next : (m : Pairs) (rest : List Token) → pairs_start m ≡ next (spell_pairs m rest)
pairs_next m rest = grind arith

ends_next : (ends : List Span) (rest : List Token) (at : yaml_mark_t) → at ≡ next rest
    → ends_start ends at ≡ next (spell_ends ends rest)
ends_next ends rest at p = grind arith

documents_next : (d : Documents) (rest : List Token)
    → documents_start d ≡ next (spell_documents d rest)
documents_next d rest = grind arith

content_next : {w : Wants} (c : Content w) (rest : List Token)
    → content_start c ≡ next (spell_content c rest)
content_next (tree.scalar s value style) rest = refl
content_next _ rest = refl

properties_next : (d : PropertyTokens) (rest : List Token)
    → (tree.properties_of d).from ≡ next (spell_properties d rest)
properties_next d rest = grind arith

node_next : {w : Wants} (n : Node w) (rest : List Token) → node_start n ≡ next (spell_node n rest)
node_next (tree.alias s name) rest = refl
node_next (tree.only_properties d) rest = properties_next d rest
node_next (tree.with_properties d c) rest = properties_next d (spell_content c rest)
node_next (tree.bare c) rest = content_next c rest

-- ---- parts without nodes

properties_part : (d : PropertyTokens) (rest : List Token) (more : List Given)
    → Part [] (properties_turns d) rest (spell_properties d rest) more more
properties_part d rest more = grind (arith, asked, nothing)

-- an event of its own token
own_event : (e : RawEvent) (t : Token) (rest : List Token) (more : List Given)
    → Part (e ∷ []) (asks ∷ gives ∷ []) rest (t ∷ rest) more ((e, length rest) ∷ more)
own_event e t rest more = asked t (gave e (nothing rest more))

-- an event that depends on the next token
next_event : (e : yaml_mark_t → RawEvent) (at : yaml_mark_t) (rest : List Token) (more : List Given)
    → at ≡ next rest
    → Part (e at ∷ []) (gives_at_next ∷ []) rest rest more ((e (next rest), behind rest) ∷ more)
next_event e at rest more p = gave_next e at p (nothing rest more)

lone_part : (b : Brackets) (at : yaml_mark_t) (rest : List Token) (more : List Given)
    → at ≡ next rest → Part (lone_value b at) (lone_turns b) rest rest more (lone b rest more)
lone_part b at rest more p = grind (arith, nothing, next_event)

opens_part : (b : Brackets) (s : Span) (rest : List Token) (more : List Given)
    → Part (pair_opens b s) (pair_opens_turns b) rest rest more (pair_start b s rest more)
opens_part b s rest more = grind (arith, gave, nothing)

closes_part : (b : Brackets) (at : yaml_mark_t) (rest : List Token) (more : List Given)
    → at ≡ next rest
    → Part (pair_closes b at) (pair_closes_turns b) rest rest more (pair_end b rest more)
closes_part b at rest more p = grind (arith, next_event, nothing)

-- ---- nodes

mutual
  node_part : {w : Wants} (n : Node w) (at : yaml_mark_t) (rest : List Token) (more : List Given)
      → at ≡ next rest
      → Part (node_events n at) (node_turns n) rest (spell_node n rest) more
      (items_node n rest more)
  node_part (tree.alias s name) at rest more p = own_event _ _ rest more
  node_part (tree.only_properties d) at rest more p =
      both (properties_part d rest _) (next_event (λ m. item.properties_alone (tree.properties_of d)) at rest more p)
  node_part (tree.with_properties d c) at rest more p =
      both (properties_part d (spell_content c rest) _) (content_part c (Some (tree.properties_of d)) at rest more p)
  node_part (tree.bare c) at rest more p = content_part c None at rest more p

  content_part : {w : Wants} (c : Content w) (o : Option Properties) (at : yaml_mark_t)
      (rest : List Token) (more : List Given) → at ≡ next rest
      → Part (content_events c o at) (content_turns c) rest (spell_content c rest) more
      (items_content c o rest more)
  content_part (tree.scalar s value style) o at rest more p = own_event _ _ rest more
  content_part (tree.flow b s i) o at rest more p = asked _ (gave _ (items_part b i rest more))
  content_part (tree.block_sequence s e) o at rest more p = asked _ (gave _ (entries_part e rest more))
  content_part (tree.block_mapping s m) o at rest more p = asked _ (gave _ (pairs_part m rest more))
  content_part (tree.indentless {s = side} s n u) o at rest more p =
      asked _ (gave _ (both
      (maybe_part n (IndentlessEntry side) s.to (others_start u at) (spell_others u rest) _ (others_next u rest at p))
      (others_part side u at rest more p)))

  maybe_part : {w : Wants} (n : Maybe w) (place : Site) (before at : yaml_mark_t)
      (rest : List Token) (more : List Given) → at ≡ next rest
      → Part (maybe_events n place before at) (maybe_turns n) rest (spell_maybe n rest) more
      (items_maybe n place before rest more)
  maybe_part tree.left_out place before at rest more p = next_event (λ m. blank (mark_at place before m)) at rest more p
  maybe_part (tree.there n) place before at rest more p = node_part n at rest more p

  colon_part : {w : Wants} (v : Colon w) (place : Site) (at : yaml_mark_t) (rest : List Token)
      (more : List Given) → at ≡ next rest
      → Part (colon_events v place at) (colon_turns v) rest (spell_colon v rest) more
      (items_colon v place rest more)
  colon_part tree.no_colon place at rest more p = next_event blank at rest more p
  colon_part (tree.colon s n) place at rest more p = asked _ (maybe_part n place s.to at rest more p)

  items_part : (b : Brackets) (i : Items) (rest : List Token) (more : List Given)
      → Part (items_events b i) (items_turns b i) rest (spell_items b i rest) more
      (items_items b i rest more)
  items_part b (tree.end_items s) rest more = own_event _ _ rest more
  items_part b (tree.single n m) rest more =
      both (both
      (node_part n (more_start m) (spell_more b m rest) _ (more_next b m rest))
      (lone_part b (more_start m) (spell_more b m rest) _ (more_next b m rest)))
      (more_part b m rest more)
  items_part b (tree.pair s key v m) rest more =
      asked _ (both (both (both (both
      (opens_part b s (spell_maybe key (spell_colon v (spell_more b m rest))) _)
      (maybe_part key (FlowPair b Key) s.to (colon_start v (more_start m)) (spell_colon v (spell_more b m rest)) _ (colon_next v (spell_more b m rest) (more_start m) (more_next b m rest))))
      (colon_part v (FlowPair b Value) (more_start m) (spell_more b m rest) _ (more_next b m rest)))
      (closes_part b (more_start m) (spell_more b m rest) _ (more_next b m rest)))
      (more_part b m rest more))

  more_part : (b : Brackets) (m : More) (rest : List Token) (more : List Given)
      → Part (more_events b m) (more_turns b m) rest (spell_more b m rest) more
      (items_more b m rest more)
  more_part b (tree.end_more s) rest more = own_event _ _ rest more
  more_part b (tree.comma s i) rest more = asked _ (items_part b i rest more)

  entries_part : (e : Entries) (rest : List Token) (more : List Given)
      → Part (entries_events e) (entries_turns e) rest (spell_entries e rest) more
      (items_entries e rest more)
  entries_part (tree.end_entries s) rest more = own_event _ _ rest more
  entries_part (tree.entry s n e) rest more =
      asked _ (both
      (maybe_part n Entry s.to (entries_start e) (spell_entries e rest) _ (entries_next e rest))
      (entries_part e rest more))

  others_part : (side : Side) (u : Others) (at : yaml_mark_t) (rest : List Token)
      (more : List Given) → at ≡ next rest
      → Part (others_events side u at) (others_turns u) rest (spell_others u rest) more
      (items_others side u rest more)
  others_part side tree.no_others at rest more p = next_event (λ m. event_at event.sequence_end m m) at rest more p
  others_part side (tree.other s n u) at rest more p =
      asked _ (both
      (maybe_part n (IndentlessEntry side) s.to (others_start u at) (spell_others u rest) _ (others_next u rest at p))
      (others_part side u at rest more p))

  pairs_part : (m : Pairs) (rest : List Token) (more : List Given)
      → Part (pairs_events m) (pairs_turns m) rest (spell_pairs m rest) more
      (items_pairs m rest more)
  pairs_part (tree.end_pairs s) rest more = own_event _ _ rest more
  pairs_part (tree.block_pair s key v m) rest more =
      asked _ (both (both
      (maybe_part key (BlockPair Key) s.to (colon_start v (pairs_start m)) (spell_colon v (spell_pairs m rest)) _ (colon_next v (spell_pairs m rest) (pairs_start m) (pairs_next m rest)))
      (colon_part v (BlockPair Value) (pairs_start m) (spell_pairs m rest) _ (pairs_next m rest)))
      (pairs_part m rest more))

-- ---- documents

directives_part : (ds : List Directive) (rest : List Token) (more : List Given)
    → Part (directives_events ds) (directives_turns ds) rest (spell_directives ds rest) more
    (items_directives ds rest more)
directives_part [] rest more = nothing rest more
directives_part (tree.version s major minor ∷ ds) rest more = asked _ (gave _ (directives_part ds rest more))
directives_part (tree.handle s name prefix ∷ ds) rest more = asked _ (gave _ (directives_part ds rest more))

asks_part : (ends : List Span) (rest : List Token) (more : List Given)
    → Part [] (each_asks ends) rest (spell_ends ends rest) more more
asks_part [] rest more = nothing rest more
asks_part (s ∷ ends) rest more = asked _ (asks_part ends rest more)

ends_part : (ends : List Span) (at : yaml_mark_t) (rest : List Token) (more : List Given)
    → at ≡ next rest
    → Part (ends_events ends at) (ends_turns ends) rest (spell_ends ends rest) more
    (items_ends ends rest more)
ends_part [] at rest more p = next_event (λ m. event_at (event.document_end true) m m) at rest more p
ends_part (s ∷ ends) at rest more p = asked _ (gave _ (asks_part ends rest more))

documents_part : (d : Documents) (rest : List Token)
    → Part (documents_events d) (documents_turns d) rest (spell_documents d rest) []
    (items_documents d rest)
documents_part (tree.end_stream s) rest = own_event _ _ rest []
documents_part (tree.document ds s n ends d) rest =
    both (both (both (both
    (directives_part ds _ _)
    (own_event _ _ (spell_maybe n (spell_ends ends (spell_documents d rest))) _))
    (maybe_part n Root s.to (ends_start ends (documents_start d)) (spell_ends ends (spell_documents d rest)) _
    (ends_next ends (spell_documents d rest) (documents_start d) (documents_next d rest))))
    (ends_part ends (documents_start d) (spell_documents d rest) _ (documents_next d rest)))
    (documents_part d rest)

first_part : (f : First) (at : yaml_mark_t) (rest : List Token) (more : List Given) → at ≡ next rest
    → Part (first_events f at) (first_turns f) rest (spell_first f rest) more
    (items_first f rest more)
first_part tree.no_first at rest more p = nothing rest more
first_part (tree.first n ends) at rest more p =
    gave_next (λ m. item_at (item.document true) m m) (node_start n) (node_next n (spell_ends ends rest))
    (both
    (node_part n (ends_start ends at) (spell_ends ends rest) _ (ends_next ends rest at p))
    (ends_part ends at rest more p))

tree_part : (t : Stream) (rest : List Token)
    → Part (tree_events t) (tree_turns t) rest (spell t rest) [] (items t rest)
tree_part t rest =
    asked _ (gave _ (both
    (first_part t.first (documents_start t.documents) (spell_documents t.documents rest) _ (documents_next t.documents rest))
    (documents_part t.documents rest)))

-- ---- the laws

numbers_of_tree : (t : Stream) (rest : List Token)
    → numbers_in (items t rest) ≡ unasked (tree_turns t) (length rest)
numbers_of_tree t rest = (tree_part t rest).numbers ∙ append-nil (unasked (tree_turns t) (length rest))

pub items_given : ItemsAreGiven
items_given t rest = grind (arith, zipped, tree_part, append-nil, numbers_of_tree)

pub turns_fit : TurnsFitTree
turns_fit t rest = record {
  tokens = (tree_part t rest).tokens;
  events = ap length (sym (numbers_of_tree t rest)) ∙ as_many (items t rest) ∙ ap length ((tree_part t rest).events ∙ append-nil (tree_events t));
}
