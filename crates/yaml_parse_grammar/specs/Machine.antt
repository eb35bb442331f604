-- What a stack of states does at a token, and over a list of tokens.
use Rattle.std.specs.Prelude.{ℕ, Bool, true, false, if◌then◌else◌, ◌||◌, List, [], ◌∷◌, ◌++◌, length, map, Option, Some, None}
use Rattle.yaml_parse_model.specs.declared.yaml_mark_t.{yaml_mark_t}
use Rattle.yaml_parse_model.specs.declared.yaml_token_type_t.{yaml_token_type_t}
use Rattle.yaml_parse_model.specs.declared.yaml_token_type_t.TheVariants as kind
use Rattle.yaml_parse_model.specs.declared.yaml_sequence_style_t.TheVariants.{YAML_BLOCK_SEQUENCE_STYLE}
use Rattle.yaml_parse_model.specs.declared.yaml_mapping_style_t.TheVariants.{YAML_BLOCK_MAPPING_STYLE, YAML_FLOW_MAPPING_STYLE}
use Rattle.yaml_parse_model.specs.scan_types.Tokens.{Token, TokenBody, type_of, no_token}
use Rattle.yaml_parse_model.specs.scan_types.Tokens as token
use Rattle.yaml_parse_model.specs.scan_types.Faults.{Fault}
use Rattle.yaml_parse_model.specs.Events as event
use Rattle.yaml_parse_grammar.specs.declared.name.Wants.{Wants}
use Rattle.yaml_parse_grammar.specs.declared.name.Wants.TheVariants.{Flow, Block}
use Rattle.yaml_parse_grammar.specs.declared.name.Side.TheVariants.{Key, Value}
use Rattle.yaml_parse_grammar.specs.declared.name.Brackets.{Brackets}
use Rattle.yaml_parse_grammar.specs.declared.name.Brackets.TheVariants as brackets
use Rattle.yaml_parse_grammar.specs.declared.name.Site.{Site}
use Rattle.yaml_parse_grammar.specs.declared.name.Site.TheVariants.{Root, Entry, IndentlessEntry, BlockPair, FlowPair}
use Rattle.yaml_parse_grammar.specs.declared.name.Choice.{Choice}
use Rattle.yaml_parse_grammar.specs.declared.name.Choice.TheVariants.{Refuse, Take, Leave, Open}
use Rattle.yaml_parse_grammar.specs.declared.problem.ParseProblem.{ParseProblem}
use Rattle.yaml_parse_grammar.specs.declared.problem.ParseProblem.TheVariants as problem
use Rattle.yaml_parse_grammar.specs.Problems.{parser_fault}
use Rattle.yaml_parse_grammar.specs.Items.{RawEvent, Tag, Properties, item_at, blank, properties_alone, node_at}
use Rattle.yaml_parse_grammar.specs.Items as item
use Rattle.yaml_parse_grammar.specs.States.{State, Taken}
use Rattle.yaml_parse_grammar.specs.States as state
use Rattle.yaml_parse_grammar.specs.Trees.{Given, flow_shape, end_event, event_at, mark_at}

-- ---- which state does what, by the token's kind alone

abbrev pub starts_content : Wants → yaml_token_type_t → Bool
starts_content w kind.YAML_SCALAR_TOKEN = true
starts_content w kind.YAML_FLOW_SEQUENCE_START_TOKEN = true
starts_content w kind.YAML_FLOW_MAPPING_START_TOKEN = true
starts_content (Block s) kind.YAML_BLOCK_SEQUENCE_START_TOKEN = true
starts_content (Block s) kind.YAML_BLOCK_MAPPING_START_TOKEN = true
starts_content (Block (Some s)) kind.YAML_BLOCK_ENTRY_TOKEN = true
starts_content w _ = false

abbrev pub starts_node : Wants → yaml_token_type_t → Bool
starts_node w kind.YAML_ALIAS_TOKEN = true
starts_node w kind.YAML_ANCHOR_TOKEN = true
starts_node w kind.YAML_TAG_TOKEN = true
starts_node w k = starts_content w k

abbrev pub wants_of : Site → Wants
wants_of Root = Block None
wants_of (Entry) = Block None
wants_of (IndentlessEntry side) = Block None
wants_of (BlockPair side) = Block (Some side)
wants_of (FlowPair b side) = Flow

abbrev pub closes : Brackets → yaml_token_type_t → Bool
closes brackets.Sequence kind.YAML_FLOW_SEQUENCE_END_TOKEN = true
closes brackets.Mapping kind.YAML_FLOW_MAPPING_END_TOKEN = true
closes b _ = false

-- begins or ends a document
abbrev pub parts_documents : yaml_token_type_t → Bool
parts_documents kind.YAML_STREAM_END_TOKEN = true
parts_documents kind.YAML_VERSION_DIRECTIVE_TOKEN = true
parts_documents kind.YAML_TAG_DIRECTIVE_TOKEN = true
parts_documents kind.YAML_DOCUMENT_START_TOKEN = true
parts_documents _ = false

-- the token may follow a node that is left out there
abbrev pub follows : Site → yaml_token_type_t → Bool
follows Root kind.YAML_DOCUMENT_END_TOKEN = true
follows Root k = parts_documents k
follows (Entry) kind.YAML_BLOCK_ENTRY_TOKEN = true
follows (Entry) kind.YAML_BLOCK_END_TOKEN = true
follows (IndentlessEntry side) kind.YAML_BLOCK_ENTRY_TOKEN = true
follows (IndentlessEntry side) kind.YAML_KEY_TOKEN = true
follows (IndentlessEntry side) kind.YAML_BLOCK_END_TOKEN = true
follows (IndentlessEntry Key) kind.YAML_VALUE_TOKEN = true
follows (BlockPair side) kind.YAML_KEY_TOKEN = true
follows (BlockPair side) kind.YAML_BLOCK_END_TOKEN = true
follows (BlockPair Key) kind.YAML_VALUE_TOKEN = true
follows (FlowPair b side) kind.YAML_FLOW_ENTRY_TOKEN = true
follows (FlowPair b Key) kind.YAML_VALUE_TOKEN = true
follows (FlowPair b side) k = closes b k
follows place _ = false

-- a property that isn't there yet
abbrev pub joins : Properties → yaml_token_type_t → Bool
joins p kind.YAML_ANCHOR_TOKEN = is_missing p.anchor
  where
    is_missing : Option (List ℕ) → Bool
    is_missing None = true
    is_missing (Some x) = false
joins p kind.YAML_TAG_TOKEN = is_missing p.tag
  where
    is_missing : Option Tag → Bool
    is_missing None = true
    is_missing (Some x) = false
joins p _ = false

abbrev pub no_node : Wants → ParseProblem
no_node Flow = problem.NoFlowNode
no_node (Block s) = problem.NoBlockNode

abbrev pub no_end : Brackets → ParseProblem
no_end brackets.Sequence = problem.NoSequenceEnd
no_end brackets.Mapping = problem.NoMappingEnd

abbrev pub choice_at : State → yaml_token_type_t → Choice
choice_at state.stream kind.YAML_STREAM_START_TOKEN = Take
choice_at state.stream k = Refuse problem.NoStreamStart None
choice_at state.first k =
    if parts_documents k then Take else if starts_node (Block None) k then Open
    else Refuse problem.NoBlockNode None
choice_at state.documents kind.YAML_DOCUMENT_END_TOKEN = Take
choice_at state.documents k = if parts_documents k then Take else Refuse problem.NoDocumentStart
    None
choice_at (state.directives from) kind.YAML_STREAM_END_TOKEN = Refuse problem.NoDocumentStart None
choice_at (state.directives from) k = if parts_documents k then Take
    else Refuse problem.NoDocumentStart None
choice_at (state.optional place before) k =
    if follows place k then Leave else if starts_node (wants_of place) k then Take
    else Refuse (no_node (wants_of place)) None
choice_at state.document_end kind.YAML_DOCUMENT_END_TOKEN = Take
choice_at state.document_end k = Leave
choice_at (state.entries opener) kind.YAML_BLOCK_ENTRY_TOKEN = Take
choice_at (state.entries opener) kind.YAML_BLOCK_END_TOKEN = Take
choice_at (state.entries opener) k = Refuse problem.NoDash (Some opener)
choice_at (state.others side) kind.YAML_BLOCK_ENTRY_TOKEN = Take
choice_at (state.others side) k = Leave
choice_at (state.pairs opener) kind.YAML_KEY_TOKEN = Take
choice_at (state.pairs opener) kind.YAML_BLOCK_END_TOKEN = Take
choice_at (state.pairs opener) k = Refuse problem.NoKey (Some opener)
choice_at (state.colon place) kind.YAML_VALUE_TOKEN = Take
choice_at (state.colon place) k = Leave
choice_at (state.with_properties w p) k = if joins p k || starts_content w k then Take else Leave
choice_at (state.items b opener) kind.YAML_KEY_TOKEN = Take
choice_at (state.items b opener) k = if closes b k || starts_node Flow k then Take
    else Refuse problem.NoFlowNode None
choice_at (state.more b opener) kind.YAML_FLOW_ENTRY_TOKEN = Take
choice_at (state.more b opener) k = if closes b k then Take else Refuse (no_end b) (Some opener)
choice_at state.pair_end k = Leave
choice_at state.lone k = Leave

-- ---- what taking a token gives

abbrev pub taken : Option RawEvent → List State → Taken
taken item above = record { item = item; above = above }

-- for tokens that the state doesn't take: it is never met
abbrev pub not_taken : Taken
not_taken = taken None (state.lone ∷ [])

abbrev pub documents_taken : yaml_mark_t → yaml_mark_t → yaml_mark_t → TokenBody → Taken
documents_taken from start end (token.version_directive major minor) =
    taken (Some (item_at (item.version_directive major minor) start end))
    (state.directives from ∷ [])
documents_taken from start end (token.tag_directive handle prefix) =
    taken (Some (item_at (item.tag_directive handle prefix) start end)) (state.directives from ∷ [])
documents_taken from start end token.document_start =
    taken (Some (item_at (item.document false) from end))
    (state.optional Root end ∷ state.document_end ∷ state.documents ∷ [])
documents_taken from start end token.stream_end = taken (Some (event_at event.stream_end start end))
    []
documents_taken from start end _ = taken None (state.documents ∷ [])

abbrev pub content_taken : Wants → Option Properties → yaml_mark_t → yaml_mark_t → TokenBody → Taken
content_taken w p start end (token.scalar value style) = taken
    (Some (node_at p (item.scalar value style) start end)) []
content_taken w p start end token.flow_sequence_start =
    taken (Some (node_at p (flow_shape brackets.Sequence) start end))
    (state.items brackets.Sequence start ∷ [])
content_taken w p start end token.flow_mapping_start =
    taken (Some (node_at p (flow_shape brackets.Mapping) start end))
    (state.items brackets.Mapping start ∷ [])
content_taken w p start end token.block_sequence_start =
    taken (Some (node_at p (item.sequence YAML_BLOCK_SEQUENCE_STYLE) start end))
    (state.entries start ∷ [])
content_taken w p start end token.block_mapping_start =
    taken (Some (node_at p (item.mapping YAML_BLOCK_MAPPING_STYLE) start end))
    (state.pairs start ∷ [])
content_taken (Block (Some side)) p start end token.block_entry =
    taken (Some (node_at p (item.sequence YAML_BLOCK_SEQUENCE_STYLE) start end))
    (state.optional (IndentlessEntry side) end ∷ state.others side ∷ [])
content_taken w p start end _ = not_taken

abbrev pub tag_at : List ℕ → List ℕ → yaml_mark_t → Tag
tag_at handle suffix start = record { handle = handle; suffix = suffix; mark = start }

abbrev pub node_taken : Wants → yaml_mark_t → yaml_mark_t → TokenBody → Taken
node_taken w start end (token.alias name) = taken (Some (event_at (event.alias name) start end)) []
node_taken w start end (token.anchor name) =
    taken None (state.with_properties w
    (record { anchor = Some name; tag = None; from = start; to = end }) ∷ [])
node_taken w start end (token.tag handle suffix) =
    taken None (state.with_properties w
    (record { anchor = None; tag = Some (tag_at handle suffix start); from = start; to = end })
    ∷ [])
node_taken w start end body = content_taken w None start end body

abbrev pub with_properties_taken : Wants → Properties → yaml_mark_t → yaml_mark_t → TokenBody
    → Taken
with_properties_taken w p start end (token.anchor name) =
    taken None (state.with_properties w
    (record { anchor = Some name; tag = p.tag; from = p.from; to = end }) ∷ [])
with_properties_taken w p start end (token.tag handle suffix) =
    taken None (state.with_properties w
    (record {
      anchor = p.anchor;
      tag = Some (tag_at handle suffix start);
      from = p.from;
      to = end;
    }) ∷ [])
with_properties_taken w p start end body = content_taken w (Some p) start end body

abbrev pub above : List State → Taken → Taken
above below x = taken x.item (x.above ++ below)

abbrev pub lone_below : Brackets → List State → List State
lone_below brackets.Sequence below = below
lone_below brackets.Mapping below = state.lone ∷ below

abbrev pub pair_taken : Brackets → yaml_mark_t → yaml_mark_t → yaml_mark_t → Taken
pair_taken brackets.Sequence opener start end =
    taken (Some (item_at (item.node None None (item.mapping YAML_FLOW_MAPPING_STYLE)) start end))
    (state.optional (FlowPair brackets.Sequence Key) end ∷ state.colon
    (FlowPair brackets.Sequence Value) ∷ state.pair_end ∷ state.more brackets.Sequence opener
    ∷ [])
pair_taken brackets.Mapping opener start end =
    taken None (state.optional (FlowPair brackets.Mapping Key) end ∷ state.colon
    (FlowPair brackets.Mapping Value) ∷ state.more brackets.Mapping opener ∷ [])

abbrev pub items_taken : Brackets → yaml_mark_t → yaml_mark_t → yaml_mark_t → TokenBody → Taken
items_taken b opener start end token.key = pair_taken b opener start end
items_taken b opener start end token.flow_sequence_end = taken
    (Some (event_at (end_event b) start end)) []
items_taken b opener start end token.flow_mapping_end = taken
    (Some (event_at (end_event b) start end)) []
items_taken b opener start end body = above (lone_below b (state.more b opener ∷ []))
    (node_taken Flow start end body)

abbrev pub more_taken : Brackets → yaml_mark_t → yaml_mark_t → yaml_mark_t → TokenBody → Taken
more_taken b opener start end token.flow_entry = taken None (state.items b opener ∷ [])
more_taken b opener start end _ = taken (Some (event_at (end_event b) start end)) []

abbrev pub stream_taken : yaml_mark_t → yaml_mark_t → TokenBody → Taken
stream_taken start end (token.stream_start encoding) = taken
    (Some (event_at (event.stream_start encoding) start end)) (state.first ∷ [])
stream_taken start end _ = not_taken

abbrev pub entries_taken : yaml_mark_t → yaml_mark_t → yaml_mark_t → TokenBody → Taken
entries_taken opener start end token.block_entry = taken None
    (state.optional Entry end ∷ state.entries opener ∷ [])
entries_taken opener start end _ = taken (Some (event_at event.sequence_end start end)) []

abbrev pub pairs_taken : yaml_mark_t → yaml_mark_t → yaml_mark_t → TokenBody → Taken
pairs_taken opener start end token.key =
    taken None (state.optional (BlockPair Key) end ∷ state.colon (BlockPair Value) ∷ state.pairs
    opener ∷ [])
pairs_taken opener start end _ = taken (Some (event_at event.mapping_end start end)) []

abbrev pub taken_at : State → Token → Taken
taken_at state.stream t = stream_taken t.start_mark t.end_mark t.body
taken_at state.first t = documents_taken t.start_mark t.start_mark t.end_mark t.body
taken_at state.documents t = documents_taken t.start_mark t.start_mark t.end_mark t.body
taken_at (state.directives from) t = documents_taken from t.start_mark t.end_mark t.body
taken_at (state.optional place before) t = node_taken (wants_of place) t.start_mark t.end_mark
    t.body
taken_at state.document_end t = taken
    (Some (event_at (event.document_end false) t.start_mark t.end_mark)) []
taken_at (state.entries opener) t = entries_taken opener t.start_mark t.end_mark t.body
taken_at (state.others side) t = taken None (state.optional (IndentlessEntry side) t.end_mark
    ∷ state.others side ∷ [])
taken_at (state.pairs opener) t = pairs_taken opener t.start_mark t.end_mark t.body
taken_at (state.colon place) t = taken None (state.optional place t.end_mark ∷ [])
taken_at (state.with_properties w p) t = with_properties_taken w p t.start_mark t.end_mark t.body
taken_at (state.items b opener) t = items_taken b opener t.start_mark t.end_mark t.body
taken_at (state.more b opener) t = more_taken b opener t.start_mark t.end_mark t.body
taken_at state.pair_end t = not_taken
taken_at state.lone t = not_taken

-- ---- what leaving a state gives, before a token that starts there

abbrev pub left_at : State → yaml_mark_t → RawEvent
left_at (state.optional place before) start = blank (mark_at place before start)
left_at state.document_end start = event_at (event.document_end true) start start
left_at (state.others side) start = event_at event.sequence_end start start
left_at (state.with_properties w p) start = properties_alone p
left_at state.pair_end start = event_at event.mapping_end start start
left_at _ start = blank start

-- ---- a stack at a token

pub data Fed : Type 0 where
  stop : List RawEvent → Fault → Fed
  go : List RawEvent → List State → Fed

abbrev pub with_item : RawEvent → Fed → Fed
with_item i (stop is f) = stop (i ∷ is) f
with_item i (go is s) = go (i ∷ is) s

abbrev pub given_by : Taken → List State → Fed
given_by x s = go (list_of x.item) (x.above ++ s)
  where
    list_of : Option RawEvent → List RawEvent
    list_of None = []
    list_of (Some i) = i ∷ []

-- where the context of a refusal at a token begins
abbrev pub context_of : Option yaml_mark_t → yaml_mark_t → yaml_mark_t
context_of None start = start
context_of (Some opener) start = opener

-- the states of an implicit document
abbrev pub opened : yaml_mark_t → List State
opened start = state.optional Root start ∷ state.document_end ∷ state.documents ∷ []

-- the last argument is what the states below do at the token
abbrev pub turn : Choice → State → Token → List State → Fed → Fed
turn (Refuse p opener) x t s below = stop []
    (parser_fault p t.start_mark (context_of opener t.start_mark))
turn Take x t s below = given_by (taken_at x t) s
turn Leave x t s below = with_item (left_at x t.start_mark) below
turn Open x t s below =
    with_item (item_at (item.document true) t.start_mark t.start_mark)
    (given_by (taken_at (state.optional Root t.start_mark) t) (state.document_end ∷ state.documents
    ∷ s))

unfoldable pub feed : List State → Token → Fed
feed [] t = go [] []
feed (x ∷ s) t = turn (choice_at x (type_of t.body)) x t s (feed s t)

-- something is open
abbrev pub Stands : List State → Type 0
Stands [] = ⊥
Stands (x ∷ s) = Unit {0}

-- ---- a list of tokens

pub record Outcome : Type 0 where
  pub items : List Given
  pub ending : Option Fault

abbrev pub finished : Outcome
finished = record { items = []; ending = None }

abbrev pub carry : ℕ → Fed → (List State → Outcome) → Outcome
carry left (stop is f) k = record { items = map (λ (i : RawEvent). (i, left)) is; ending = Some f }
carry left (go is s) k = record {
  items = map (λ (i : RawEvent). (i, left)) is ++ (k s).items;
  ending = (k s).ending;
}

abbrev pub ending_at : List State → Fault → Outcome
ending_at [] f = finished
ending_at (x ∷ s) f = record { items = []; ending = Some f }

-- after the last token the source's fault comes, or else the empty token
abbrev pub at_end : Option Fault → List State → Outcome
at_end (Some f) s = ending_at s f
at_end None s = carry 0 (feed s no_token) (λ _. finished)

unfoldable pub run : List Token → List State → Option Fault → Outcome
run [] s f = at_end f s
run (t ∷ ts) s f = carry (length ts) (feed s t) (λ s'. run ts s' f)

abbrev pub initial : List State
initial = state.stream ∷ []

-- ---- where it stops

-- at a token that is refused with that many after it, or where the tokens after it say
abbrev pub left_where_stopped : ℕ → Fed → (List State → ℕ) → ℕ
left_where_stopped left (stop is f) k = left
left_where_stopped left (go is s) k = k s

-- how many tokens are after the first that is refused; none, where none is
unfoldable pub unasked_at_stop : List Token → List State → ℕ
unasked_at_stop [] s = 0
unasked_at_stop (t ∷ ts) s = left_where_stopped (length ts) (feed s t) (λ s'. unasked_at_stop ts s')
