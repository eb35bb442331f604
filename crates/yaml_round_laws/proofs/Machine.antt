-- A stack does to a moved token what it does to the token, moved.
use Rattle.std.proofs.Common.{◌≡◌, ℕ, Bool, true, false, ◌||◌, if◌then◌else◌, List, [], ◌∷◌, ◌++◌, map, Option, Some, None, refl, sym, ap, subst, ◌∙◌, inl, inr}
use Rattle.yaml_round_laws.proofs.WindowsWords.{map-append, yaml_mark_t, Token, TokenBody, type_of, context_place, parser_fault, RawEvent, RawEventBody, Tag, Properties, item_at, State, Taken, joins, follows, starts_node, starts_content, parts_documents, wants_of, no_node, choice_at, documents_taken, content_taken, node_taken, with_properties_taken, lone_below, items_taken, more_taken, stream_taken, entries_taken, pairs_taken, taken_at, left_at, Fed, stop, go, with_item, given_by, context_of, turn, feed, moved_mark, moved_token, IsMovedMark, IsMovedFault}
use Rattle.yaml_round_content.specs.parse_model.declared.yaml_token_type_t.{yaml_token_type_t}
use Rattle.yaml_round_content.specs.parse_model.declared.yaml_token_type_t.TheVariants as kind
use Rattle.yaml_round_content.specs.scan_types.Tokens as token
use Rattle.yaml_parse_grammar.specs.declared.Brackets.{Brackets}
use Rattle.yaml_parse_grammar.specs.declared.Brackets.TheVariants as brackets
use Rattle.yaml_parse_grammar.specs.declared.Choice.TheVariants.{Refuse, Take, Leave, Open}
use Rattle.yaml_parse_grammar.specs.declared.Choice.{Choice}
use Rattle.yaml_parse_grammar.specs.declared.ParseProblem.{ParseProblem}
use Rattle.yaml_parse_grammar.specs.declared.ParseProblem.TheVariants as problem
use Rattle.yaml_parse_grammar.specs.declared.Site.TheVariants.{Root, Entry, IndentlessEntry, BlockPair, FlowPair}
use Rattle.yaml_parse_grammar.specs.declared.Wants.{Wants}
use Rattle.yaml_parse_grammar.specs.declared.Wants.TheVariants.{Flow, Block}
use Rattle.yaml_parse_grammar.specs.Items as item
use Rattle.yaml_parse_grammar.specs.States as state
use Rattle.yaml_scan_laws.proofs.Coming.{moved_option}

abbrev pub moved_tag : ℕ → ℕ → Option Tag → Option Tag
moved_tag d n None = None
moved_tag d n (Some t) = Some record { handle = t.handle; suffix = t.suffix; mark = moved_mark d n t.mark }

abbrev pub moved_properties : ℕ → ℕ → Properties → Properties
moved_properties d n p = record { anchor = p.anchor; tag = moved_tag d n p.tag; from = moved_mark d n p.from; to = moved_mark d n p.to }

abbrev pub moved_state : ℕ → ℕ → State → State
moved_state d n (state.directives from) = state.directives (moved_mark d n from)
moved_state d n (state.optional place before) = state.optional place (moved_mark d n before)
moved_state d n (state.entries opener) = state.entries (moved_mark d n opener)
moved_state d n (state.pairs opener) = state.pairs (moved_mark d n opener)
moved_state d n (state.with_properties w p) = state.with_properties w (moved_properties d n p)
moved_state d n (state.items b opener) = state.items b (moved_mark d n opener)
moved_state d n (state.more b opener) = state.more b (moved_mark d n opener)
moved_state d n x = x

abbrev pub moved_body : ℕ → ℕ → RawEventBody → RawEventBody
moved_body d n (item.node anchor tag shape) = item.node anchor (moved_tag d n tag) shape
moved_body d n b = b

abbrev pub moved_item : ℕ → ℕ → RawEvent → RawEvent
moved_item d n i = item_at (moved_body d n i.body) (moved_mark d n i.from) (moved_mark d n i.to)

abbrev moved_one : ℕ → ℕ → Option RawEvent → Option RawEvent
moved_one d n None = None
moved_one d n (Some i) = Some (moved_item d n i)

abbrev moved_taken : ℕ → ℕ → Taken → Taken
moved_taken d n x = record { item = moved_one d n x.item; above = map (moved_state d n) x.above }

-- ---- what is taken

documents_moved : (d n : ℕ) (from start end : yaml_mark_t) (b : TokenBody)
    → documents_taken (moved_mark d n from) (moved_mark d n start) (moved_mark d n end) b ≡ moved_taken d n (documents_taken from start end b)
documents_moved d n from start end (token.version_directive major minor) = refl
documents_moved d n from start end (token.tag_directive handle prefix) = refl
documents_moved d n from start end token.document_start = refl
documents_moved d n from start end token.stream_end = refl
documents_moved d n from start end _ = refl

content_moved : (d n : ℕ) (w : Wants) (p : Properties) (start end : yaml_mark_t) (b : TokenBody)
    → (content_taken w None (moved_mark d n start) (moved_mark d n end) b ≡ moved_taken d n (content_taken w None start end b))
    × (content_taken w (Some (moved_properties d n p)) (moved_mark d n start) (moved_mark d n end) b ≡ moved_taken d n (content_taken w (Some p) start end b))
content_moved d n w p start end (token.scalar value style) = (refl, refl)
content_moved d n w p start end token.flow_sequence_start = (refl, refl)
content_moved d n w p start end token.flow_mapping_start = (refl, refl)
content_moved d n w p start end token.block_sequence_start = (refl, refl)
content_moved d n w p start end token.block_mapping_start = (refl, refl)
content_moved d n (Block (Some side)) p start end token.block_entry = (refl, refl)
content_moved d n (Block None) p start end token.block_entry = (refl, refl)
content_moved d n Flow p start end token.block_entry = (refl, refl)
content_moved d n w p start end _ = (refl, refl)

no_properties : yaml_mark_t → Properties
no_properties m = record { anchor = None; tag = None; from = m; to = m }

node_moved : (d n : ℕ) (w : Wants) (start end : yaml_mark_t) (b : TokenBody)
    → node_taken w (moved_mark d n start) (moved_mark d n end) b ≡ moved_taken d n (node_taken w start end b)
node_moved d n w start end (token.alias name) = refl
node_moved d n w start end (token.anchor name) = refl
node_moved d n w start end (token.tag handle suffix) = refl
node_moved d n w start end b = (content_moved d n w (no_properties start) start end b).0

beside_moved : (d n : ℕ) (w : Wants) (p : Properties) (start end : yaml_mark_t) (b : TokenBody)
    → with_properties_taken w (moved_properties d n p) (moved_mark d n start) (moved_mark d n end) b
    ≡ moved_taken d n (with_properties_taken w p start end b)
beside_moved d n w p start end (token.anchor name) = refl
beside_moved d n w p start end (token.tag handle suffix) = refl
beside_moved d n w p start end b = (content_moved d n w p start end b).1

above_moved : (d n : ℕ) (x y : Taken) (below more : List State) → x ≡ moved_taken d n y → more
    ≡ map (moved_state d n) below
    → (record { item = x.item; above = x.above ++ more }) ≡ moved_taken d n (record { item = y.item; above = y.above ++ below })
above_moved d n x y below more e f =
    ap (λ (z : Taken). record { item = z.item; above = z.above ++ more }) e
    ∙ ap (λ (z : List State). record { item = moved_one d n y.item; above = map (moved_state d n) y.above ++ z }) f
    ∙ ap (λ (z : List State). record { item = moved_one d n y.item; above = z }) (sym (map-append (moved_state d n) y.above below))

items_other : (d n : ℕ) (b : Brackets) (opener start end : yaml_mark_t) (t : TokenBody)
    → (record { item = (node_taken Flow (moved_mark d n start) (moved_mark d n end) t).item; above = (node_taken Flow (moved_mark d n start) (moved_mark d n end) t).above ++ lone_below b (state.more b (moved_mark d n opener) ∷ []) })
    ≡ moved_taken d n (record { item = (node_taken Flow start end t).item; above = (node_taken Flow start end t).above ++ lone_below b (state.more b opener ∷ []) })
items_other d n brackets.Sequence opener start end t = above_moved d n _ (node_taken Flow start end t) _ _ (node_moved d n Flow start end t) refl
items_other d n brackets.Mapping opener start end t = above_moved d n _ (node_taken Flow start end t) _ _ (node_moved d n Flow start end t) refl

items_moved : (d n : ℕ) (b : Brackets) (opener start end : yaml_mark_t) (t : TokenBody)
    → items_taken b (moved_mark d n opener) (moved_mark d n start) (moved_mark d n end) t
    ≡ moved_taken d n (items_taken b opener start end t)
items_moved d n brackets.Sequence opener start end token.key = refl
items_moved d n brackets.Mapping opener start end token.key = refl
items_moved d n brackets.Sequence opener start end token.flow_sequence_end = refl
items_moved d n brackets.Sequence opener start end token.flow_mapping_end = refl
items_moved d n brackets.Mapping opener start end token.flow_sequence_end = refl
items_moved d n brackets.Mapping opener start end token.flow_mapping_end = refl
items_moved d n brackets.Sequence opener start end t = items_other d n brackets.Sequence opener start end t
items_moved d n brackets.Mapping opener start end t = items_other d n brackets.Mapping opener start end t

more_moved : (d n : ℕ) (b : Brackets) (opener start end : yaml_mark_t) (t : TokenBody)
    → more_taken b (moved_mark d n opener) (moved_mark d n start) (moved_mark d n end) t
    ≡ moved_taken d n (more_taken b opener start end t)
more_moved d n brackets.Sequence opener start end token.flow_entry = refl
more_moved d n brackets.Mapping opener start end token.flow_entry = refl
more_moved d n brackets.Sequence opener start end _ = refl
more_moved d n brackets.Mapping opener start end _ = refl

stream_moved : (d n : ℕ) (start end : yaml_mark_t) (t : TokenBody)
    → stream_taken (moved_mark d n start) (moved_mark d n end) t ≡ moved_taken d n (stream_taken start end t)
stream_moved d n start end (token.stream_start encoding) = refl
stream_moved d n start end _ = refl

entries_moved : (d n : ℕ) (opener start end : yaml_mark_t) (t : TokenBody)
    → entries_taken (moved_mark d n opener) (moved_mark d n start) (moved_mark d n end) t ≡ moved_taken d n (entries_taken opener start end t)
entries_moved d n opener start end token.block_entry = refl
entries_moved d n opener start end _ = refl

pairs_moved : (d n : ℕ) (opener start end : yaml_mark_t) (t : TokenBody)
    → pairs_taken (moved_mark d n opener) (moved_mark d n start) (moved_mark d n end) t ≡ moved_taken d n (pairs_taken opener start end t)
pairs_moved d n opener start end token.key = refl
pairs_moved d n opener start end _ = refl

taken_moved : (d n : ℕ) (x : State) (t : Token)
    → taken_at (moved_state d n x) (moved_token d n t) ≡ moved_taken d n (taken_at x t)
taken_moved d n state.stream t = stream_moved d n t.start_mark t.end_mark t.body
taken_moved d n state.first t = documents_moved d n t.start_mark t.start_mark t.end_mark t.body
taken_moved d n state.documents t = documents_moved d n t.start_mark t.start_mark t.end_mark t.body
taken_moved d n (state.directives from) t = documents_moved d n from t.start_mark t.end_mark t.body
taken_moved d n (state.optional place before) t = node_moved d n (wants_of place) t.start_mark t.end_mark t.body
taken_moved d n (state.entries opener) t = entries_moved d n opener t.start_mark t.end_mark t.body
taken_moved d n (state.pairs opener) t = pairs_moved d n opener t.start_mark t.end_mark t.body
taken_moved d n (state.with_properties w p) t = beside_moved d n w p t.start_mark t.end_mark t.body
taken_moved d n (state.items b opener) t = items_moved d n b opener t.start_mark t.end_mark t.body
taken_moved d n (state.more b opener) t = more_moved d n b opener t.start_mark t.end_mark t.body
taken_moved d n _ t = refl

-- ---- what is chosen, and what is left

abbrev moved_choice : ℕ → ℕ → Choice → Choice
moved_choice d n (Refuse p o) = Refuse p (moved_option d n o)
moved_choice d n e = e

joins_moved : (d n : ℕ) (p : Properties) (k : yaml_token_type_t) → joins (moved_properties d n p) k
    ≡ joins p k
joins_moved d n p kind.YAML_ANCHOR_TOKEN = refl
joins_moved d n p kind.YAML_TAG_TOKEN = tag_same p.tag
  where
    tag_same : (o : Option Tag) → joins (record { anchor = p.anchor; tag = moved_tag d n o; from = moved_mark d n p.from; to = moved_mark d n p.to }) kind.YAML_TAG_TOKEN ≡ joins (record { anchor = p.anchor; tag = o; from = p.from; to = p.to }) kind.YAML_TAG_TOKEN
    tag_same None = refl
    tag_same (Some t) = refl
joins_moved d n p _ = refl

take_or_leave : (d n : ℕ) (a : Bool) → (if a then Take else Leave)
    ≡ moved_choice d n (if a then Take else Leave)
take_or_leave d n true = refl
take_or_leave d n false = refl

three : (d n : ℕ) (a b : Bool) (x y : Choice) (p : ParseProblem) → x ≡ moved_choice d n x → y
    ≡ moved_choice d n y
    → (if a then x else if b then y else Refuse p None) ≡ moved_choice d n (if a then x else if b then y else Refuse p None)
three d n true b x y p h k = h
three d n false true x y p h k = k
three d n false false x y p h k = refl

choice_moved : (d n : ℕ) (x : State) (k : yaml_token_type_t)
    → choice_at (moved_state d n x) k ≡ moved_choice d n (choice_at x k)
choice_moved d n state.stream kind.YAML_STREAM_START_TOKEN = refl
choice_moved d n state.first k = three d n (parts_documents k) (starts_node (Block None) k) Take Open problem.NoBlockNode refl refl
choice_moved d n state.documents kind.YAML_DOCUMENT_END_TOKEN = refl
choice_moved d n (state.directives from) kind.YAML_STREAM_END_TOKEN = refl
choice_moved d n (state.optional place before) k = three d n (follows place k) (starts_node (wants_of place) k) Leave Take (no_node (wants_of place)) refl refl
choice_moved d n state.document_end kind.YAML_DOCUMENT_END_TOKEN = refl
choice_moved d n (state.entries opener) kind.YAML_BLOCK_ENTRY_TOKEN = refl
choice_moved d n (state.entries opener) kind.YAML_BLOCK_END_TOKEN = refl
choice_moved d n (state.others side) kind.YAML_BLOCK_ENTRY_TOKEN = refl
choice_moved d n (state.pairs opener) kind.YAML_KEY_TOKEN = refl
choice_moved d n (state.pairs opener) kind.YAML_BLOCK_END_TOKEN = refl
choice_moved d n (state.colon place) kind.YAML_VALUE_TOKEN = refl
choice_moved d n (state.with_properties w p) k = ap (λ (z : Bool). if z || starts_content w k then Take else Leave) (joins_moved d n p k) ∙ take_or_leave d n (joins p k || starts_content w k)
choice_moved d n (state.items brackets.Sequence opener) kind.YAML_KEY_TOKEN = refl
choice_moved d n (state.items brackets.Sequence opener) kind.YAML_ALIAS_TOKEN = refl
choice_moved d n (state.items brackets.Sequence opener) _ = refl
choice_moved d n (state.items brackets.Mapping opener) kind.YAML_KEY_TOKEN = refl
choice_moved d n (state.items brackets.Mapping opener) kind.YAML_ALIAS_TOKEN = refl
choice_moved d n (state.items brackets.Mapping opener) _ = refl
choice_moved d n (state.more brackets.Sequence opener) kind.YAML_FLOW_ENTRY_TOKEN = refl
choice_moved d n (state.more brackets.Sequence opener) _ = refl
choice_moved d n (state.more brackets.Mapping opener) kind.YAML_FLOW_ENTRY_TOKEN = refl
choice_moved d n (state.more brackets.Mapping opener) _ = refl
choice_moved d n state.pair_end k = refl
choice_moved d n state.lone k = refl
choice_moved d n _ _ = refl

left_moved : (d n : ℕ) (x : State) (m : yaml_mark_t)
    → left_at (moved_state d n x) (moved_mark d n m) ≡ moved_item d n (left_at x m)
left_moved d n (state.optional Root before) m = refl
left_moved d n (state.optional Entry before) m = refl
left_moved d n (state.optional (IndentlessEntry side) before) m = refl
left_moved d n (state.optional (BlockPair side) before) m = refl
left_moved d n (state.optional (FlowPair b side) before) m = refl
left_moved d n state.document_end m = refl
left_moved d n (state.others side) m = refl
left_moved d n (state.with_properties w p) m = refl
left_moved d n state.pair_end m = refl
left_moved d n _ m = refl

-- ---- a stack at a token

abbrev pub IsMovedFed : ℕ → ℕ → Fed → Fed → Type 0
IsMovedFed d n (stop is f) (stop js g) = (js ≡ map (moved_item d n) is) × IsMovedFault d n f g
IsMovedFed d n (go is s) (go js z) = (js ≡ map (moved_item d n) is) × (z ≡ map (moved_state d n) s)
IsMovedFed d n (stop is f) (go js z) = ⊥
IsMovedFed d n (go is s) (stop js g) = ⊥

place_moved : (d n : ℕ) (p : ParseProblem) (m : yaml_mark_t)
    → IsMovedMark d n (context_place p m) (context_place p (moved_mark d n m))
unfolding context_place
place_moved d n problem.NoStreamStart m = inr (refl, refl)
place_moved d n problem.NoDocumentStart m = inr (refl, refl)
place_moved d n problem.DuplicateVersion m = inr (refl, refl)
place_moved d n problem.IncompatibleVersion m = inr (refl, refl)
place_moved d n problem.DuplicateHandle m = inr (refl, refl)
place_moved d n _ m = inl refl

pub fault_moved : (d n : ℕ) (p : ParseProblem) (m c : yaml_mark_t)
    → IsMovedFault d n (parser_fault p m c) (parser_fault p (moved_mark d n m) (moved_mark d n c))
fault_moved d n p m c = record {
  kind = refl;
  problem = refl;
  offset = refl;
  number = refl;
  place = inl refl;
  context = refl;
  beside = place_moved d n p c;
  origin = refl;
}

context_moved : (d n : ℕ) (o : Option yaml_mark_t) (m : yaml_mark_t)
    → context_of (moved_option d n o) (moved_mark d n m) ≡ moved_mark d n (context_of o m)
context_moved d n None m = refl
context_moved d n (Some c) m = refl

given_moved : (d n : ℕ) (o : Option RawEvent) (above s : List State)
    → IsMovedFed d n (given_by (record { item = o; above = above }) s) (given_by (moved_taken d n (record { item = o; above = above })) (map (moved_state d n) s))
given_moved d n None above s = (refl, sym (map-append (moved_state d n) above s))
given_moved d n (Some i) above s = (refl, sym (map-append (moved_state d n) above s))

with_item_moved : (d n : ℕ) (i j : RawEvent) (x y : Fed) → j ≡ moved_item d n i → IsMovedFed d n x y
    → IsMovedFed d n (with_item i x) (with_item j y)
with_item_moved d n i j (stop is f) (stop js g) e (h, k) = (ap (λ z. z ∷ js) e ∙ ap (λ z. moved_item d n i ∷ z) h, k)
with_item_moved d n i j (go is s) (go js z) e (h, k) = (ap (λ z. z ∷ js) e ∙ ap (λ z. moved_item d n i ∷ z) h, k)
with_item_moved d n i j (stop is f) (go js z) e h = absurd h
with_item_moved d n i j (go is s) (stop js g) e h = absurd h

turn_moved : (d n : ℕ) (c : Choice) (x : State) (t : Token) (s : List State) (below other : Fed)
    → IsMovedFed d n below other
    → IsMovedFed d n (turn c x t s below) (turn (moved_choice d n c) (moved_state d n x) (moved_token d n t) (map (moved_state d n) s) other)
turn_moved d n (Refuse p o) x t s below other h =
    (refl, subst (λ z. IsMovedFault d n (parser_fault p t.start_mark (context_of o t.start_mark)) (parser_fault p (moved_mark d n t.start_mark) z)) (sym (context_moved d n o t.start_mark)) (fault_moved d n p t.start_mark (context_of o t.start_mark)))
turn_moved d n Take x t s below other h =
    subst (λ z. IsMovedFed d n (given_by (taken_at x t) s) (given_by z (map (moved_state d n) s))) (sym (taken_moved d n x t)) (given_moved d n (taken_at x t).item (taken_at x t).above s)
turn_moved d n Leave x t s below other h = with_item_moved d n (left_at x t.start_mark) (left_at (moved_state d n x) (moved_mark d n t.start_mark)) below other (left_moved d n x t.start_mark) h
turn_moved d n Open x t s below other h =
    let y = state.optional Root t.start_mark in
    let more = state.document_end ∷ state.documents ∷ s in
    with_item_moved d n (item_at (item.document true) t.start_mark t.start_mark) (item_at (item.document true) (moved_mark d n t.start_mark) (moved_mark d n t.start_mark)) (given_by (taken_at y t) more) (given_by (taken_at (moved_state d n y) (moved_token d n t)) (map (moved_state d n) more)) refl
    (subst (λ z. IsMovedFed d n (given_by (taken_at y t) more) (given_by z (map (moved_state d n) more))) (sym (taken_moved d n y t)) (given_moved d n (taken_at y t).item (taken_at y t).above more))

pub feed_moved : (d n : ℕ) (s : List State) (t : Token)
    → IsMovedFed d n (feed s t) (feed (map (moved_state d n) s) (moved_token d n t))
unfolding feed
feed_moved d n [] t = (refl, refl)
feed_moved d n (x ∷ s) t =
    subst (λ c. IsMovedFed d n (turn (choice_at x (type_of t.body)) x t s (feed s t)) (turn c (moved_state d n x) (moved_token d n t) (map (moved_state d n) s) (feed (map (moved_state d n) s) (moved_token d n t)))) (sym (choice_moved d n x (type_of t.body)))
    (turn_moved d n (choice_at x (type_of t.body)) x t s (feed s t) (feed (map (moved_state d n) s) (moved_token d n t)) (feed_moved d n s t))
