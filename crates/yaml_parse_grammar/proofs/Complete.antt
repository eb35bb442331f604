-- The machine gives the items of a tree, and goes on after it.
use Rattle.std.proofs.Common.{◌≡◌, ℕ, Bool, true, false, List, [], ◌∷◌, ◌++◌, length, Option, Some, None, refl, sym, ap, subst, ◌∙◌, ◌&&◌, ◌||◌, arith}
use Rattle.std.proofs.lemmas.List.{append_assoc}
use Rattle.std.proofs.Math.Bool.{not}
use Rattle.yaml_parse_grammar.proofs.Words.{yaml_mark_t, yaml_token_type_t, Token, TokenBody, type_of, Fault, Wants, Flow, Block, Site, Entry, IndentlessEntry, BlockPair, FlowPair, Choice, Take, Leave, RawEvent, Properties, State, Taken, Span, Given, token_at, spell_node, spell_maybe, next, items_node, items_maybe, items, behind, starts_node, wants_of, parts_documents, follows, choice_at, node_taken, content_taken, taken_at, left_at, Fed, go, with_item, given_by, turn, feed, Outcome, finished, carry, run}
use Rattle.yaml_parse_model.specs.declared.yaml_token_type_t.TheVariants as kind
use Rattle.yaml_parse_model.specs.scan_types.Tokens as token
use Rattle.yaml_parse_grammar.specs.declared.name.Side.{Side}
use Rattle.yaml_parse_grammar.specs.declared.name.Side.TheVariants.{Key, Value}
use Rattle.yaml_parse_grammar.specs.declared.name.Brackets.{Brackets}
use Rattle.yaml_parse_grammar.specs.declared.name.Brackets.TheVariants as brackets
use Rattle.yaml_parse_grammar.specs.States as state
use Rattle.yaml_parse_grammar.specs.Trees.{Node, Content, Maybe, Colon, Items, More, Entries, Others, Pairs, PropertyTokens, spell_properties, properties_of, spell_content, spell_colon, spell_items, spell_more, spell_entries, spell_others, spell_pairs}
use Rattle.yaml_parse_grammar.specs.TreeSteps.{items_content, items_colon, items_items, items_more, items_entries, items_others, items_pairs, lone, pair_start, pair_end}
use Rattle.yaml_parse_grammar.specs.Trees as tree
use Rattle.yaml_parse_grammar.specs.Machine.{items_taken, above, lone_below}

-- what a list of items does before an outcome
abbrev pub giving : (List Given → List Given) → Outcome → Outcome
giving g o = record { items = g o.items; ending = o.ending }

-- one item before others
abbrev pub one : RawEvent → ℕ → List Given → List Given
one i left = λ more. (i, left) ∷ more

-- An item comes first in an outcome, with how many tokens are left.
pub carry_with_item : (left : ℕ) (i : RawEvent) (below : Fed) (k : List State → Outcome)
    → carry left (with_item i below) k ≡ giving (one i left) (carry left below k)
carry_with_item left i below k = grind arith

-- ---- what a state does at a token

-- The topmost state does what it chooses.
pub fed_by : (c : Choice) (x : State) (t : Token) (s : List State)
    → choice_at x (type_of t.body) ≡ c → feed (x ∷ s) t ≡ turn c x t s (feed s t)
unfolding feed
fed_by c x t s h = ap (λ (c : Choice). turn c x t s (feed s t)) h

-- So the tokens run as it says.
pub runs_by : (fed : Fed) (t : Token) (ts : List Token) (s : List State) (f : Option Fault)
    → feed s t ≡ fed → run (t ∷ ts) s f ≡ carry (length ts) fed (λ s'. run ts s' f)
unfolding run
runs_by fed t ts s f h = ap (λ (fed : Fed). carry (length ts) fed (λ s'. run ts s' f)) h

pub step_take : (x : State) (t : Token) (ts : List Token) (s : List State) (f : Option Fault)
    → choice_at x (type_of t.body) ≡ Take
    → run (t ∷ ts) (x ∷ s) f ≡ carry (length ts) (given_by (taken_at x t) s) (λ s'. run ts s' f)
step_take x t ts s f h = runs_by _ t ts (x ∷ s) f (fed_by Take x t s h)

-- ---- leaving a state

-- the kind of the first token is such
abbrev pub First : (yaml_token_type_t → Type 0) → List Token → Type 0
First P [] = ⊥
First P (t ∷ ts) = P (type_of t.body)

pub first_is : {P Q : yaml_token_type_t → Type 0} → ((k : yaml_token_type_t) → P k → Q k)
    → (ts : List Token) → First P ts → First Q ts
first_is g ts h = grind arith

-- the state is left before the first token
abbrev pub Leaves : State → List Token → Type 0
Leaves x = First (λ k. choice_at x k ≡ Leave)

-- A state that leaves gives its item at the token, which stays.
pub leaves_at : (x : State) (t : Token) (ts : List Token) (s : List State) (f : Option Fault)
    → choice_at x (type_of t.body) ≡ Leave
    → run (t ∷ ts) (x ∷ s) f
    ≡ giving (one (left_at x t.start_mark) (length ts)) (run (t ∷ ts) s f)
unfolding run
leaves_at x t ts s f h =
    runs_by _ t ts (x ∷ s) f (fed_by Leave x t s h) ∙ carry_with_item (length ts) (left_at x t.start_mark) (feed s t) (λ s'. run ts s' f)

pub leaves : (x : State) (ts : List Token) (s : List State) (f : Option Fault) → Leaves x ts
    → run ts (x ∷ s) f ≡ giving (one (left_at x (next ts)) (behind ts)) (run ts s f)
leaves x ts s f h = grind (arith, leaves_at)

-- ---- what may follow a node

abbrev pub ends : Wants → yaml_token_type_t → Bool
ends Flow kind.YAML_FLOW_ENTRY_TOKEN = true
ends Flow kind.YAML_VALUE_TOKEN = true
ends Flow kind.YAML_FLOW_SEQUENCE_END_TOKEN = true
ends Flow kind.YAML_FLOW_MAPPING_END_TOKEN = true
ends Flow _ = false
ends (Block (Some side)) k = follows (BlockPair side) k
ends (Block None) kind.YAML_BLOCK_ENTRY_TOKEN = true
ends (Block None) kind.YAML_BLOCK_END_TOKEN = true
ends (Block None) kind.YAML_KEY_TOKEN = true
ends (Block None) kind.YAML_VALUE_TOKEN = true
ends (Block None) kind.YAML_DOCUMENT_END_TOKEN = true
ends (Block None) k = parts_documents k

abbrev pub Ends : Wants → List Token → Type 0
Ends w = First (λ k. ends w k ≡ true)

-- the first token may follow a node that is left out there
abbrev pub Follows : Site → List Token → Type 0
Follows place = First (λ k. follows place k ≡ true)

-- what follows ends a node, by computing at each kind
following_ends : (k : yaml_token_type_t) (place : Site)
    → (not (follows place k) || ends (wants_of place) k) ≡ true
following_ends k place = grind arith

follows_ends_at : (place : Site) (k : yaml_token_type_t) → follows place k ≡ true
    → ends (wants_of place) k ≡ true
follows_ends_at place k h = sym (ap (λ b. not b || ends (wants_of place) k) h) ∙ following_ends k place

-- What may follow a node that is left out ends a node.
pub follows_ends : (place : Site) (ts : List Token) → Follows place ts → Ends (wants_of place) ts
follows_ends place = first_is (follows_ends_at place)

follows_leaves : (place : Site) (before : yaml_mark_t) (ts : List Token) → Follows place ts
    → Leaves (state.optional place before) ts
follows_leaves place before = grind arith

-- ---- properties

ends_start_none : (k : yaml_token_type_t) (w : Wants) → (ends w k && starts_node w k) ≡ false
ends_start_none k w = grind arith

-- What ends a node begins none.
pub ends_apart : (w : Wants) (k : yaml_token_type_t) → ends w k ≡ true → starts_node w k ≡ false
ends_apart w k h = sym (ap (λ b. b && starts_node w k) h) ∙ ends_start_none k w

with_properties_leaves : (w : Wants) (p : Properties) (ts : List Token) → Ends w ts
    → Leaves (state.with_properties w p) ts
with_properties_leaves w p = grind arith

-- what a node's first token does above a stack
abbrev pub run_node : Wants → List Token → List State → Option Fault → Outcome
run_node w [] s f = finished
run_node w (t ∷ ts) s f = carry (length ts) (given_by (node_taken w t.start_mark t.end_mark t.body) s) (λ s'. run ts s' f)

-- what a content's first token does above a stack, after properties or without
abbrev run_content : Wants → Option Properties → List Token → List State → Option Fault → Outcome
run_content w p [] s f = finished
run_content w p (t ∷ ts) s f = carry (length ts) (given_by (content_taken w p t.start_mark t.end_mark t.body) s) (λ s'. run ts s' f)

properties_run : (d : PropertyTokens) (w : Wants) (ts : List Token) (s : List State)
    (f : Option Fault)
    → run_node w (spell_properties d ts) s f
    ≡ run ts (state.with_properties w (properties_of d) ∷ s) f
unfolding run feed
properties_run d w ts s f = grind arith

with_properties_content : {w : Wants} (c : Content w) (p : Properties) (rest : List Token)
    (s : List State) (f : Option Fault)
    → run (spell_content c rest) (state.with_properties w p ∷ s) f
    ≡ run_content w (Some p) (spell_content c rest) s f
unfolding run feed
with_properties_content (tree.flow brackets.Sequence n items) p rest s f = refl
with_properties_content _ p rest s f = refl

bare_content : {w : Wants} (c : Content w) (rest : List Token) (s : List State) (f : Option Fault)
    → run_node w (spell_content c rest) s f ≡ run_content w None (spell_content c rest) s f
bare_content (tree.flow brackets.Sequence n items) rest s f = refl
bare_content _ rest s f = refl

-- ---- a node's first token

abbrev pub Starts : Wants → List Token → Type 0
Starts w = First (λ k. starts_node w k ≡ true)

content_starts : {w : Wants} (c : Content w) (rest : List Token) → Starts w (spell_content c rest)
content_starts (tree.flow brackets.Sequence n items) rest = refl
content_starts _ rest = refl

properties_start : (w : Wants) (d : PropertyTokens) (ts : List Token)
    → Starts w (spell_properties d ts)
properties_start w d ts = grind arith

-- A node's tokens begin as nodes that may be there do.
pub node_starts : {w : Wants} (n : Node w) (rest : List Token) → Starts w (spell_node n rest)
node_starts (tree.alias s name) rest = refl
node_starts {w = w} (tree.only_properties d) rest = properties_start w d rest
node_starts {w = w} (tree.with_properties d c) rest = properties_start w d (spell_content c rest)
node_starts (tree.bare c) rest = content_starts c rest

-- A node that may be left out is taken where its token begins one.
pub optional_takes : (place : Site) (before : yaml_mark_t) (k : yaml_token_type_t)
    → starts_node (wants_of place) k ≡ true → choice_at (state.optional place before) k ≡ Take
optional_takes place before k h = grind arith

optional_node : (place : Site) (w : Wants) → wants_of place ≡ w
    → (before : yaml_mark_t) (ts : List Token) (s : List State) (f : Option Fault) → Starts w ts
    → run ts (state.optional place before ∷ s) f ≡ run_node w ts s f
optional_node place w e before ts s f h = grind (arith, step_take, optional_takes, type_of, Wants, starts_node, run_node)

items_takes : (b : Brackets) (opener : yaml_mark_t) (k : yaml_token_type_t)
    → starts_node Flow k ≡ true → choice_at (state.items b opener) k ≡ Take
items_takes b opener k h = grind arith

-- A node inside brackets is taken as any node, above what is below it there.
pub items_node_taken : (b : Brackets) (opener start end : yaml_mark_t) (body : TokenBody)
    → starts_node Flow (type_of body) ≡ true
    → items_taken b opener start end body
    ≡ above (lone_below b (state.more b opener ∷ [])) (node_taken Flow start end body)
items_node_taken b opener start end body h = grind arith

given_above_at : (below : List State) (i : Option RawEvent) (xs s : List State)
    → given_by (record { item = i; above = xs ++ below }) s
    ≡ given_by (record { item = i; above = xs }) (below ++ s)
given_above_at below i xs s = grind (arith, State, go, append_assoc)

lone_runs : (b : Brackets) (opener : yaml_mark_t) (ts : List Token) (s : List State)
    (f : Option Fault) → Starts Flow ts
    → run ts (state.items b opener ∷ s) f
    ≡ run_node Flow ts (lone_below b (state.more b opener ∷ []) ++ s) f
lone_runs b opener ts s f h = grind (arith, step_take, items_takes, type_of, Fed, carry, run, Taken, given_by, items_node_taken, given_above_at, node_taken, Flow)

-- ---- pairs in brackets

-- the states after a pair inside brackets
abbrev pair_below : Brackets → List State → List State
pair_below brackets.Sequence s = state.pair_end ∷ s
pair_below brackets.Mapping s = s

flow_pair_opens : (b : Brackets) (p : Span) (o : yaml_mark_t) (ts : List Token) (s : List State)
    (f : Option Fault)
    → run (token_at token.key p ∷ ts) (state.items b o ∷ s) f
    ≡ giving (pair_start b p ts) (run ts
    (state.optional (FlowPair b Key) p.to ∷ state.colon (FlowPair b Value)
    ∷ pair_below b (state.more b o ∷ s)) f)
flow_pair_opens b p o ts s f = grind (arith, step_take)

-- ---- what is after a node

-- More in brackets ends a node.
pub more_ends : (b : Brackets) (m : More) (rest : List Token) → Ends Flow (spell_more b m rest)
more_ends brackets.Sequence (tree.end_more p) rest = refl
more_ends brackets.Mapping (tree.end_more p) rest = refl
more_ends b (tree.comma p i) rest = refl

more_follows : (b : Brackets) (side : Side) (m : More) (rest : List Token)
    → Follows (FlowPair b side) (spell_more b m rest)
more_follows brackets.Sequence side (tree.end_more p) rest = refl
more_follows brackets.Mapping side (tree.end_more p) rest = refl
more_follows b side (tree.comma p i) rest = refl

-- So may a value or more in brackets.
pub colon_follows : (b : Brackets) (v : Colon Flow) (m : More) (rest : List Token)
    → Follows (FlowPair b Key) (spell_colon v (spell_more b m rest))
colon_follows b tree.no_colon m rest = more_follows b Key m rest
colon_follows b (tree.colon p v) m rest = refl

more_leaves : (b b' : Brackets) (m : More) (rest : List Token)
    → Leaves (state.colon (FlowPair b' Value)) (spell_more b m rest)
more_leaves brackets.Sequence b' (tree.end_more p) rest = refl
more_leaves brackets.Mapping b' (tree.end_more p) rest = refl
more_leaves b b' (tree.comma p i) rest = refl

-- Entries may follow one that is left out.
pub entries_follow : (e : Entries) (rest : List Token) → Follows Entry (spell_entries e rest)
entries_follow (tree.end_entries p) rest = refl
entries_follow (tree.entry p n e) rest = refl

-- Pairs may follow a key or value that is left out.
pub pairs_follow : (side : Side) (m : Pairs) (rest : List Token)
    → Follows (BlockPair side) (spell_pairs m rest)
pairs_follow side (tree.end_pairs p) rest = refl
pairs_follow side (tree.block_pair p key v m) rest = refl

pairs_leave : (m : Pairs) (rest : List Token)
    → Leaves (state.colon (BlockPair Value)) (spell_pairs m rest)
pairs_leave (tree.end_pairs p) rest = refl
pairs_leave (tree.block_pair p key v m) rest = refl

-- A value or the pairs after it may follow a key that is left out.
pub block_colon_follows : (v : Colon (Block (Some Value))) (m : Pairs) (rest : List Token)
    → Follows (BlockPair Key) (spell_colon v (spell_pairs m rest))
block_colon_follows tree.no_colon m rest = pairs_follow Key m rest
block_colon_follows (tree.colon p v) m rest = refl

others_follow_at : (side : Side) (k : yaml_token_type_t) → follows (BlockPair side) k ≡ true
    → follows (IndentlessEntry side) k ≡ true
others_follow_at side k h = grind arith

-- Other entries may follow one that is left out.
pub others_follow : (side : Side) (o : Others) (rest : List Token) → Ends (Block (Some side)) rest
    → Follows (IndentlessEntry side) (spell_others o rest)
others_follow side tree.no_others rest h = first_is (others_follow_at side) rest h
others_follow side (tree.other p n o) rest h = refl

others_leave_at : (side : Side) (k : yaml_token_type_t) → follows (BlockPair side) k ≡ true
    → choice_at (state.others side) k ≡ Leave
others_leave_at side k h = grind arith

-- ---- nodes

lone_behind : (b : Brackets) (m : More) (rest : List Token) (s : List State) (f : Option Fault)
    (o : yaml_mark_t)
    → run (spell_more b m rest) (lone_below b (state.more b o ∷ []) ++ s) f
    ≡ giving (lone b (spell_more b m rest)) (run (spell_more b m rest) (state.more b o ∷ s) f)
lone_behind b m rest s f o = grind (arith, leaves, first_is, ends, Flow, choice_at, Leave, more_ends)

pair_behind : (b : Brackets) (m : More) (rest : List Token) (s : List State) (f : Option Fault)
    → run (spell_more b m rest) (pair_below b s) f
    ≡ giving (pair_end b (spell_more b m rest)) (run (spell_more b m rest) s f)
pair_behind b m rest s f = grind (arith, leaves, first_is, ends, Flow, choice_at, Leave, more_ends)

-- Tokens that are spelled so give these items above any stack, and what follows runs on.
abbrev Runs : (List Token → List Token) → State → (List Token → List Given → List Given) → Type 0
Runs spelled x items = (rest : List Token) (s : List State) (f : Option Fault)
    → run (spelled rest) (x ∷ s) f ≡ giving (items rest) (run rest s f)

mutual
  pub node_runs : {w : Wants} (n : Node w) (rest : List Token) (s : List State) (f : Option Fault)
      → Ends w rest
      → run_node w (spell_node n rest) s f ≡ giving (items_node n rest) (run rest s f)
  node_runs (tree.alias p name) rest s f h = refl
  node_runs {w = w} (tree.only_properties d) rest s f h =
      properties_run d w rest s f ∙ leaves (state.with_properties w (properties_of d)) rest s f (with_properties_leaves w (properties_of d) rest h)
  node_runs {w = w} (tree.with_properties d c) rest s f h =
      properties_run d w (spell_content c rest) s f ∙ with_properties_content c (properties_of d) rest s f ∙ content_runs c (Some (properties_of d)) rest s f h
  node_runs (tree.bare c) rest s f h = bare_content c rest s f ∙ content_runs c None rest s f h

  pub content_runs : {w : Wants} (c : Content w) (p : Option Properties) (rest : List Token)
      (s : List State) (f : Option Fault) → Ends w rest
      → run_content w p (spell_content c rest) s f ≡ giving (items_content c p rest) (run rest s f)
  content_runs (tree.scalar n v style) p rest s f h = refl
  content_runs (tree.flow brackets.Sequence n is) p rest s f h = ap (giving (one _ _)) (items_run is brackets.Sequence n.from rest s f)
  content_runs (tree.flow brackets.Mapping n is) p rest s f h = ap (giving (one _ _)) (items_run is brackets.Mapping n.from rest s f)
  content_runs (tree.block_sequence n e) p rest s f h = ap (giving (one _ _)) (entries_run e n.from rest s f)
  content_runs (tree.block_mapping n m) p rest s f h = ap (giving (one _ _)) (pairs_run m n.from rest s f)
  content_runs (tree.indentless {s = side} n m o) p rest s f h =
      ap (giving (one _ _))
      (maybe_runs m (IndentlessEntry side) refl n.to (spell_others o rest) (state.others side ∷ s) f (others_follow side o rest h)
      ∙ ap (giving (items_maybe m (IndentlessEntry side) n.to (spell_others o rest))) (others_run o side rest s f h))

  pub maybe_runs : {w : Wants} (m : Maybe w) (place : Site) → wants_of place ≡ w
      → (before : yaml_mark_t) (rest : List Token) (s : List State) (f : Option Fault)
      → Follows place rest
      → run (spell_maybe m rest) (state.optional place before ∷ s) f
      ≡ giving (items_maybe m place before rest) (run rest s f)
  maybe_runs tree.left_out place e before rest s f h = leaves (state.optional place before) rest s f (follows_leaves place before rest h)
  maybe_runs {w = w} (tree.there n) place e before rest s f h =
      optional_node place w e before (spell_node n rest) s f (node_starts n rest) ∙ node_runs n rest s f (subst (λ (v : Wants). Ends v rest) e (follows_ends place rest h))

  pub colon_runs : {w : Wants} (v : Colon w) (place : Site) → wants_of place ≡ w
      → (rest : List Token) (s : List State) (f : Option Fault) → Leaves (state.colon place) rest
      → Follows place rest
      → run (spell_colon v rest) (state.colon place ∷ s) f
      ≡ giving (items_colon v place rest) (run rest s f)
  colon_runs tree.no_colon place e rest s f l h = leaves (state.colon place) rest s f l
  colon_runs (tree.colon p m) place e rest s f l h = step_take (state.colon place) _ (spell_maybe m rest) s f refl ∙ maybe_runs m place e p.to rest s f h

  pub items_run : (i : Items) (b : Brackets) (o : yaml_mark_t)
      → Runs (spell_items b i) (state.items b o) (items_items b i)
  items_run (tree.end_items p) brackets.Sequence o rest s f = step_take (state.items brackets.Sequence o) _ rest s f refl
  items_run (tree.end_items p) brackets.Mapping o rest s f = step_take (state.items brackets.Mapping o) _ rest s f refl
  items_run (tree.single n m) b o rest s f =
      lone_runs b o (spell_node n (spell_more b m rest)) s f (node_starts n (spell_more b m rest))
      ∙ node_runs n (spell_more b m rest) (lone_below b (state.more b o ∷ []) ++ s) f (more_ends b m rest)
      ∙ ap (giving (items_node n (spell_more b m rest)))
      (lone_behind b m rest s f o ∙ ap (giving (lone b (spell_more b m rest))) (more_runs m b o rest s f))
  items_run (tree.pair p key v m) b o rest s f =
      flow_pair_opens b p o (spell_maybe key (spell_colon v (spell_more b m rest))) s f
      ∙ ap (giving (pair_start b p (spell_maybe key (spell_colon v (spell_more b m rest)))))
      (maybe_runs key (FlowPair b Key) refl p.to (spell_colon v (spell_more b m rest)) (state.colon (FlowPair b Value) ∷ pair_below b (state.more b o ∷ s)) f (colon_follows b v m rest)
      ∙ ap (giving (items_maybe key (FlowPair b Key) p.to (spell_colon v (spell_more b m rest))))
      (colon_runs v (FlowPair b Value) refl (spell_more b m rest) (pair_below b (state.more b o ∷ s)) f (more_leaves b b m rest) (more_follows b Value m rest)
      ∙ ap (giving (items_colon v (FlowPair b Value) (spell_more b m rest)))
      (pair_behind b m rest (state.more b o ∷ s) f ∙ ap (giving (pair_end b (spell_more b m rest))) (more_runs m b o rest s f))))

  pub more_runs : (m : More) (b : Brackets) (o : yaml_mark_t)
      → Runs (spell_more b m) (state.more b o) (items_more b m)
  more_runs (tree.end_more p) brackets.Sequence o rest s f = step_take (state.more brackets.Sequence o) _ rest s f refl
  more_runs (tree.end_more p) brackets.Mapping o rest s f = step_take (state.more brackets.Mapping o) _ rest s f refl
  more_runs (tree.comma p i) b o rest s f = step_take (state.more b o) _ (spell_items b i rest) s f refl ∙ items_run i b o rest s f

  pub entries_run : (e : Entries) (o : yaml_mark_t)
      → Runs (spell_entries e) (state.entries o) (items_entries e)
  entries_run (tree.end_entries p) o rest s f = step_take (state.entries o) _ rest s f refl
  entries_run (tree.entry p m e) o rest s f =
      step_take (state.entries o) _ (spell_maybe m (spell_entries e rest)) s f refl
      ∙ maybe_runs m Entry refl p.to (spell_entries e rest) (state.entries o ∷ s) f (entries_follow e rest)
      ∙ ap (giving (items_maybe m Entry p.to (spell_entries e rest))) (entries_run e o rest s f)

  pub others_run : (o : Others) (side : Side) (rest : List Token) (s : List State)
      (f : Option Fault) → Ends (Block (Some side)) rest
      → run (spell_others o rest) (state.others side ∷ s) f
      ≡ giving (items_others side o rest) (run rest s f)
  others_run tree.no_others side rest s f h = leaves (state.others side) rest s f (first_is (others_leave_at side) rest h)
  others_run (tree.other p m o) side rest s f h =
      step_take (state.others side) _ (spell_maybe m (spell_others o rest)) s f refl
      ∙ maybe_runs m (IndentlessEntry side) refl p.to (spell_others o rest) (state.others side ∷ s) f (others_follow side o rest h)
      ∙ ap (giving (items_maybe m (IndentlessEntry side) p.to (spell_others o rest))) (others_run o side rest s f h)

  pub pairs_run : (m : Pairs) (o : yaml_mark_t)
      → Runs (spell_pairs m) (state.pairs o) (items_pairs m)
  pairs_run (tree.end_pairs p) o rest s f = step_take (state.pairs o) _ rest s f refl
  pairs_run (tree.block_pair p key v m) o rest s f =
      step_take (state.pairs o) _ (spell_maybe key (spell_colon v (spell_pairs m rest))) s f refl
      ∙ maybe_runs key (BlockPair Key) refl p.to (spell_colon v (spell_pairs m rest)) (state.colon (BlockPair Value) ∷ state.pairs o ∷ s) f (block_colon_follows v m rest)
      ∙ ap (giving (items_maybe key (BlockPair Key) p.to (spell_colon v (spell_pairs m rest))))
      (colon_runs v (BlockPair Value) refl (spell_pairs m rest) (state.pairs o ∷ s) f (pairs_leave m rest) (pairs_follow Value m rest)
      ∙ ap (giving (items_colon v (BlockPair Value) (spell_pairs m rest))) (pairs_run m o rest s f))
